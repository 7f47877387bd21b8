use Rattle.std.proofs.Common.{sym, ap, ◌∙◌, arith}
use Rattle.dr_records.specs.Reading.{record_of}
use Rattle.dr_records.proofs.Formats.{ok_is}
use Rattle.dr_records.proofs.Whole.{stopped, told, is_found, is_read, one_fault, short_lists}
use Rattle.dr_records.proofs.decoding.decode.Goals as goal

pub overflow_sub-result : goal.overflow_sub-result
overflow_sub-result c =
    let f = stopped c.args.bytes.now c.in-Err-Fault.field-0 c.in-Err-Fault.left (λ i. omega (arith, c.type_inv.bytes i)) c.in-Err-Fault.field-0-is c.in-Err-Fault.ensures in
    f.within

pub overflow_cast-result : goal.overflow_cast-result
overflow_cast-result c =
    let f = stopped c.args.bytes.now c.in-Err-Fault.field-0 c.in-Err-Fault.left (λ i. omega (arith, c.type_inv.bytes i)) c.in-Err-Fault.field-0-is c.in-Err-Fault.ensures in
    omega (arith, f.small)

pub returns-in-Ok-clause-found : goal.returns-in-Ok-clause-found
returns-in-Ok-clause-found c = is_found c.args.bytes.now c.in-Ok.item (λ i. omega (arith, c.type_inv.bytes i)) c.in-Ok.ensures

pub returns-in-Ok-clause-short : goal.returns-in-Ok-clause-short
returns-in-Ok-clause-short c =
    let found = is_found c.args.bytes.now c.in-Ok.item (λ i. omega (arith, c.type_inv.bytes i)) c.in-Ok.ensures in
    short_lists c.in-Ok.item found.0

pub returns-in-Ok-clause-only : goal.returns-in-Ok-clause-only
returns-in-Ok-clause-only c = λ item good e. ok_is c.in-Ok.item item (sym c.in-Ok.ensures ∙ ap record_of e ∙ is_read item good)

pub returns-in-Ok-clause-first : goal.returns-in-Ok-clause-first
returns-in-Ok-clause-first c = λ n f.
    let found = is_found c.args.bytes.now c.in-Ok.item (λ i. omega (arith, c.type_inv.bytes i)) c.in-Ok.ensures in
    f.ended c.in-Ok.item found.0 found.1

pub returns-in-Err-Fault-clause-only : goal.returns-in-Err-Fault-clause-only
returns-in-Err-Fault-clause-only c =
    let f = stopped c.args.bytes.now c.in-Err-Fault.field-0 c.in-Err-Fault.left (λ i. omega (arith, c.type_inv.bytes i)) c.in-Err-Fault.field-0-is c.in-Err-Fault.ensures in
    λ item good e. f.first.ended item good e

pub returns-in-Err-Fault-clause-malformed : goal.returns-in-Err-Fault-clause-malformed
returns-in-Err-Fault-clause-malformed c =
    let f = stopped c.args.bytes.now c.in-Err-Fault.field-0 c.in-Err-Fault.left (λ i. omega (arith, c.type_inv.bytes i)) c.in-Err-Fault.field-0-is c.in-Err-Fault.ensures in
    λ n e. told c.args.bytes.now c.in-Err-Fault.left n f e

pub returns-in-Err-Fault-clause-first : goal.returns-in-Err-Fault-clause-first
returns-in-Err-Fault-clause-first c =
    let f = stopped c.args.bytes.now c.in-Err-Fault.field-0 c.in-Err-Fault.left (λ i. omega (arith, c.type_inv.bytes i)) c.in-Err-Fault.field-0-is c.in-Err-Fault.ensures in
    λ n g. one_fault c.args.bytes.now _ n f.first g

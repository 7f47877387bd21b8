use Rattle.std.proofs.Common.{◌++◌, take, ap, arith, sym, ◌∙◌, append_assoc, length-append, length-take-le, length-take, ℕ}
use Rattle.dr_desk.proofs.StreamsLaws.{reads_whole}
use Rattle.dr_desk.proofs.input.read_more.Goals as goal

-- the bytes that found no memory were read
pub returns-then-is_err-clause-rest : goal.returns-then-is_err-clause-rest
returns-then-is_err-clause-rest g c = λ tells.
    let moved = take c.in-Ok.count c.read.new.buf in
    let size = length-take-le c.in-Ok.count c.read.new.buf c.in-Ok.ensures.bound in
    reads_whole (c.args.bytes.now.items ++ moved) _ _
    (omega (arith, length-append c.args.bytes.now.items moved, size, c.in-Ok.ensures.bound, c.read.auto.buf, length-take {A = ℕ}))
    (append_assoc c.args.bytes.now.items moved _ ∙ ap (λ l. c.args.bytes.now.items ++ l) (sym ((c.in-Ok.ensures.bytes tells).0)))

use Rattle.std.proofs.Common.{Ok, Err, sym, subst}
use Rattle.dr_declared.specs.declared.contents.DeclaredFault.{DeclaredFault}
use Rattle.dr_declared.proofs.WholeLaws.{Reads, estate_told, given, told, only}
use Rattle.dr_declared.proofs.whole_estate.read_declared.Goals as goal

pub returns-in-Ok : goal.returns-in-Ok
returns-in-Ok c =
    let bytes = c.args.bytes.now in
    let result = c.declared_of.result in
    let is = c.declared_of.ensures bytes c.in-Ok.ensures.estate in
    record {
      declared = given bytes result is;
      fault = told bytes result is;
      reads = λ declared so more. only bytes result is (Ok declared) so more;
      tells = λ found so more. only bytes result is (Err found) so more;
    }

pub returns-in-Err : goal.returns-in-Err
returns-in-Err c =
    let bytes = c.args.bytes.now in
    let is = subst (λ (f : DeclaredFault). Reads bytes (Err f)) (sym c.estate_fault.ensures) (estate_told bytes c.in-Err.fault c.in-Err.ensures.fault) in
    record {
      declared = tt;
      fault = told bytes (Err c.estate_fault.result) is;
      reads = λ declared so more. only bytes (Err c.estate_fault.result) is (Ok declared) so more;
      tells = λ found so more. only bytes (Err c.estate_fault.result) is (Err found) so more;
    }

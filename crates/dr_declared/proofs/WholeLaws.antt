-- From what each part says of bytes to what is said of them as a whole.
use Rattle.std.proofs.Common.{◌≡◌, ◌≢◌, List, ℕ, ap, refl}
use Rattle.std.specs.Prelude.{Result, Ok, Err, IfOk, IfErr}
use Rattle.dr_base.specs.declared.estate_fault.EstateFault.{EstateFault}
use Rattle.dr_base.specs.declared.estate_fault.EstateFault.TheVariants as text_faults
use Rattle.dr_inventory.specs.declared.estate.Estate.{Estate}
use Rattle.dr_inventory.specs.Estates.{IsEstateText, IsTextFault}
use Rattle.dr_declared.specs.declared.contents.Declared.{Declared}
use Rattle.dr_declared.specs.declared.contents.DeclaredFault.{DeclaredFault}
use Rattle.dr_declared.specs.declared.contents.DeclaredFault.TheVariants.{NoMemory}
use Rattle.dr_declared.specs.Faults.{ReadError, IsFirstFaultOf, IsProtectionFaultOf, IsReading, UnlessMemory, estate_fault, protection_fault}
use Rattle.dr_base.specs.declared.stop.Stop.TheVariants.{Fault, Memory}
use Rattle.dr_declared.specs.Contents.{Declares}
use Rattle.dr_declared.proofs.UniqueLaws.{one_reading}

-- a reading of the bytes, unless memory was wanting
abbrev pub Reads : List ℕ → Result Declared DeclaredFault → Type 0
Reads bytes result = result ≢ Err NoMemory → IsReading bytes result

-- bytes that are no estate
pub estate_told : (bytes : List ℕ) (fault : EstateFault) → (fault ≢ text_faults.NoMemory → IsTextFault bytes fault) → Reads bytes (Err (estate_fault fault))
estate_told bytes text_faults.NoMemory is more = absurd (more refl)
estate_told bytes text_faults.NotToml is more = (is (λ e. cc e), λ e. cc e)
estate_told bytes (text_faults.Key path) is more = (is (λ e. cc e), λ e. cc e)
estate_told bytes (text_faults.BadName path) is more = (is (λ e. cc e), λ e. cc e)
estate_told bytes (text_faults.Twice name) is more = (is (λ e. cc e), λ e. cc e)
estate_told bytes (text_faults.Unknown name) is more = (is (λ e. cc e), λ e. cc e)
estate_told bytes (text_faults.DeviceTwice name) is more = (is (λ e. cc e), λ e. cc e)
estate_told bytes (text_faults.Limit kind count) is more = (is (λ e. cc e), λ e. cc e)

-- an estate whose protection wasn't read
pub protection_told : (bytes : List ℕ) (estate : Estate) (error : ReadError) → UnlessMemory (IsProtectionFaultOf estate) error → IsEstateText bytes estate → Reads bytes (Err (protection_fault estate error))
protection_told bytes estate (Fault fault) is text more = (text, is)
protection_told bytes estate Memory is text more = absurd (more refl)

-- the result is the only reading, unless memory was wanting
pub only : (bytes : List ℕ) (result : Result Declared DeclaredFault) → Reads bytes result → (reading : Result Declared DeclaredFault) → IsReading bytes reading → result ≢ Err NoMemory → result ≡ reading
only bytes result is reading so more = one_reading bytes result reading (is more) so

-- what was given, is declared
pub given : (bytes : List ℕ) (result : Result Declared DeclaredFault) → Reads bytes result → IfOk result (Declares bytes)
given bytes (Ok declared) is = is (λ e. cc e)
given bytes (Err fault) is = tt

abbrev fault_or : DeclaredFault → Result Declared DeclaredFault → DeclaredFault
fault_or none (Ok declared) = none
fault_or none (Err fault) = fault

-- what was told, is the first fault
pub told : (bytes : List ℕ) (result : Result Declared DeclaredFault) → Reads bytes result → IfErr result (λ found. found ≢ NoMemory → IsFirstFaultOf bytes found)
told bytes (Ok declared) is = tt
told bytes (Err fault) is = λ more. is (λ e. more (ap (fault_or fault) e))

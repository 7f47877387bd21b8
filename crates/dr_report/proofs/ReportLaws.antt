-- A report, with its answer's line behind it, is told apart from every answer's line.
use Rattle.std.proofs.Common.{◌≡◌, ◌<◌, ◌≤◌, lit<, lit≤, ℕ, Bool, true, false, List, [], ◌∷◌, ◌++◌, length, map, get_or, ap, sym, ◌∙◌, refl, subst, append_assoc, arith, ne_eqb}
use Rattle.std.specs.Prelude.{◌+◌, ◌==◌, if◌then◌else◌, codes, decimal, flat_map, filter, IfSome, Option, Some, None}
use Rattle.std.specs.List.{range_with_len}
use Rattle.std.proofs.lemmas.List.{append-nil}
use Rattle.dr_base.specs.declared.answer.Answer.{Answer}
use Rattle.dr_base.specs.declared.answer.Answer.TheVariants as answers
use Rattle.dr_base.specs.declared.placement.Callout.{Callout}
use Rattle.dr_base.specs.declared.placement.Callout.TheVariants.{Command, Prompt}
use Rattle.dr_inventory.specs.declared.estate.Estate.{Estate}
use Rattle.dr_inventory.specs.Sound.{IsSoundEstate}
use Rattle.dr_plan.specs.declared.plan.Step.{Step}
use Rattle.dr_plan.specs.declared.plan.Plan.{Plan}
use Rattle.dr_plan.specs.Waves.{priorities, waves_of}
use Rattle.dr_report.specs.Texts.{answer_text_of}
use Rattle.dr_report.specs.Conditions.{HoldsNumbersOf}
use Rattle.dr_report.specs.Reports.{TellsGroups, datastore_text, step_text, steps_text, wave_text, waves_text, preview_text_of}
use Rattle.dr_report.specs.Values.{HasNames, IsToldAnswer}
use Rattle.dr_report.proofs.AnswerLaws.{key, key_of, key_told, told_apart}

-- a text that is empty, or begins with a byte above the digits
abbrev pub BeginsHigh : List ℕ → Type 0
BeginsHigh [] = Unit {0}
BeginsHigh (byte ∷ rest) = 57 < byte

-- a text that is so before each other one that is
abbrev pub KeepsHigh : List ℕ → Type 0
KeepsHigh text = (rest : List ℕ) → BeginsHigh rest → BeginsHigh (text ++ rest)

none_high : KeepsHigh []
none_high rest high = high

both_high : (a b : List ℕ) → KeepsHigh a → KeepsHigh b → KeepsHigh (a ++ b)
both_high a b p q rest high = subst BeginsHigh (sym (append_assoc a b rest)) (p (b ++ rest) (q rest high))

flat_high : {X : Type 0} (text : X → List ℕ) → ((x : X) → KeepsHigh (text x)) → (xs : List X) → KeepsHigh (flat_map text xs)
flat_high text each [] = none_high
flat_high text each (x ∷ xs) = both_high (text x) (flat_map text xs) (each x) (flat_high text each xs)

where_high : (test : Bool) (text : List ℕ) → KeepsHigh text → KeepsHigh (if test then text else [])
where_high true text high = high
where_high false text high = none_high

datastore_high : (estate : Estate) (labels : List ℕ) (k : ℕ) → KeepsHigh (datastore_text estate labels k)
datastore_high estate labels k rest high = lit< tt

step_high : (before number : ℕ) (what : Callout) → KeepsHigh (step_text before number what)
step_high before number (Command name) rest high = lit< tt
step_high before number (Prompt text) rest high = lit< tt

steps_high : (priority number : ℕ) (steps : List Step) → KeepsHigh (steps_text priority number steps)
steps_high priority number [] = none_high
steps_high priority number (step ∷ steps) =
    both_high (if step.before == priority then step_text priority number step.what else []) (steps_text priority (number + 1) steps)
    (where_high (step.before == priority) (step_text priority number step.what) (step_high priority number step.what)) (steps_high priority (number + 1) steps)

high_alone : (text : List ℕ) → KeepsHigh text → BeginsHigh text
high_alone text high = subst BeginsHigh (append-nil text) (high [] tt)

pub groups_high : (estate : Estate) (report : List ℕ) → TellsGroups estate report → BeginsHigh report
groups_high estate report tells =
    subst BeginsHigh (sym tells.exact) (high_alone _ (flat_high (datastore_text estate tells.labels) (datastore_high estate tells.labels) (range_with_len 0 (length estate.datastores))))

pub preview_high : (estate : Estate) (plan : Plan) → BeginsHigh (preview_text_of estate plan)
preview_high estate plan =
    high_alone (preview_text_of estate plan) (flat_high (λ priority. steps_text priority 1 plan.steps ++ waves_text estate priority (waves_of plan))
    (λ priority. both_high (steps_text priority 1 plan.steps) (waves_text estate priority (waves_of plan)) (steps_high priority 1 plan.steps)
    (flat_high (wave_text estate) (λ wave rest high. lit< tt) (filter (λ wave. wave.priority == priority) (waves_of plan)))) priorities)

-- an answer's line begins with a digit
first_key : (a : Answer) → get_or (key_of a) 0 0 ≤ 57
first_key (answers.Done n) = lit≤ tt
first_key answers.Loaded = lit≤ tt
first_key answers.Replied = lit≤ tt
first_key answers.Shown = lit≤ tt
first_key (answers.BadWords n) = lit≤ tt
first_key (answers.Estate f) = lit≤ tt
first_key (answers.Groups f) = lit≤ tt
first_key (answers.Plan n f) = lit≤ tt
first_key (answers.Unmapped u) = lit≤ tt
first_key (answers.Refused f) = lit≤ tt
first_key (answers.Request f) = lit≤ tt
first_key (answers.TooLong l) = lit≤ tt
first_key (answers.Waiting r s) = lit≤ tt
first_key (answers.Incomplete r s) = lit≤ tt
first_key (answers.ArrayFault s) = lit≤ tt
first_key (answers.PortFault n) = lit≤ tt
first_key (answers.CalloutFault n) = lit≤ tt
first_key answers.JournalFault = lit≤ tt
first_key answers.ReadFault = lit≤ tt
first_key answers.WriteFault = lit≤ tt
first_key answers.NoMemory = lit≤ tt
first_key (answers.JournalDamaged n) = lit≤ tt
first_key (answers.Foreign t m n) = lit≤ tt

-- a line that begins high has its first byte among those by which answers are told apart
high_key : (byte : ℕ) (rest : List ℕ) → 57 < byte → get_or (key (byte ∷ rest)) 0 0 ≡ byte
high_key byte rest high = rw (ne_eqb byte 48 (λ e. absurd (omega (arith, e, high)))) refl

-- a report with the answer's line behind it is no other answer's line
pub shown_apart : (estate : Option Estate) (report : List ℕ) (b : Answer) → BeginsHigh report → IfSome estate IsSoundEstate → HasNames estate → HoldsNumbersOf estate b → IsToldAnswer b → report ++ answer_text_of None answers.Shown ≡ answer_text_of estate b → b ≡ answers.Shown
shown_apart estate [] b high sound names k q e = sym (told_apart estate answers.Shown b sound names tt k tt q e)
shown_apart estate (byte ∷ rest) b high sound names k q e =
    let line = rest ++ answer_text_of None answers.Shown in
    let same : byte ≡ get_or (key_of b) 0 0 = sym (high_key byte line high) ∙ ap (λ t. get_or (key t) 0 0) e ∙ ap (λ t. get_or t 0 0) (key_told estate b q) in
    absurd (omega (arith, high, same, first_key b))

-- Refused commands are told apart by their lines.
use Rattle.std.proofs.Common.{◌≡◌, ℕ, [], ◌∷◌, get_or, ap, sym, ◌∙◌, refl, true, Option, None}
use Rattle.std.specs.Prelude.{codes, decimal}
use Rattle.dr_base.specs.declared.answer.Answer.TheVariants.{Refused}
use Rattle.dr_base.specs.declared.group_state.GroupState.{GroupState}
use Rattle.dr_base.specs.declared.group_state.Phase.{Phase}
use Rattle.dr_base.specs.declared.group_state.Phase.TheVariants.{Ready, Tested, Recovered}
use Rattle.dr_base.specs.declared.side.Side.{Side}
use Rattle.dr_base.specs.declared.refusal.Refusal.{Refusal}
use Rattle.dr_base.specs.declared.refusal.Refusal.TheVariants.{NoEstate, UnknownPlan, NotBuilt, UnknownRun, IdTaken, TakenOver, GroupsInUse, WrongState, NotWaiting, NotWalked, EstateStands, NotAmended, NoSlot, JournalFull}
use Rattle.dr_inventory.specs.declared.estate.Estate.{Estate}
use Rattle.dr_report.specs.Lines.{told}
use Rattle.dr_report.specs.Texts.{refusal_text, group_names, plan_names, name_at, side_text, phase_text, phase_plan_text}
use Rattle.dr_report.specs.Conditions.{HoldsNumbersOf, HoldsPlanOf}
use Rattle.dr_report.specs.Values.{IsNumber, IsRefusal}
use Rattle.dr_report.proofs.WordLaws.{plain, differ, words_same}
use Rattle.dr_report.proofs.FieldLaws.{Naming, Field, one, two, three, name, number, wide, numbered, fixed, side, phase, slot, amend, join_two, join_three, other}

-- the words of two equal lines of a run taken over
taken_over : (r s m n : ℕ) → IsNumber r → IsNumber s → IsNumber m → IsNumber n → refusal_text None (TakenOver r s) ≡ refusal_text None (TakenOver m n) → (r ≡ m) × (s ≡ n)
taken_over r s m n a b c d e =
    let first = number r m a c in
    let second = number s n b d in
    let words = words_same (codes "2 N8 taken over run") (decimal r ∷ codes "by" ∷ codes "run" ∷ decimal s ∷ []) (decimal m ∷ codes "by" ∷ codes "run" ∷ decimal n ∷ []) (first.left_plain, (refl, (refl, (second.left_plain, tt)))) (first.right_plain, (refl, (refl, (second.right_plain, tt)))) e in
    (first.same (ap (λ ws. get_or ws 0 []) words), second.same (ap (λ ws. get_or ws 3 []) words))

phase_plan_plain : (estate : Option Estate) → Naming (plan_names estate) → (p : Phase) (plan : ℕ) → HoldsPlanOf estate p plan → plain (phase_plan_text estate p plan) ≡ true
phase_plan_plain estate plans Ready plan h = refl
phase_plan_plain estate plans Tested plan h = (numbered (plan_names estate) plans plan plan h h).left_plain
phase_plan_plain estate plans Recovered plan h = (numbered (plan_names estate) plans plan plan h h).left_plain

-- the plans of two states of one phase, which are told alike, are equal
plan_same : (estate : Option Estate) → Naming (plan_names estate) → (p q : Phase) (m n : ℕ) → HoldsPlanOf estate p m → HoldsPlanOf estate q n → (p ≡ Ready → m ≡ 0) → (q ≡ Ready → n ≡ 0) → phase_text p ≡ phase_text q → phase_plan_text estate p m ≡ phase_plan_text estate q n → m ≡ n
plan_same estate plans Ready Ready m n h k a b same e = a refl ∙ sym (b refl)
plan_same estate plans Tested Tested m n h k a b same e = (numbered (plan_names estate) plans m n h k).same e
plan_same estate plans Recovered Recovered m n h k a b same e = (numbered (plan_names estate) plans m n h k).same e
plan_same estate plans p q m n h k a b same e = absurd (differ (phase_text p) (phase_text q) refl same)

-- two groups with their states, which are told alike, are equal
wrong_state : (estate : Option Estate) → Naming (group_names estate) → Naming (plan_names estate) → (g h : ℕ) (s t : GroupState) → HoldsNumbersOf estate (Refused (WrongState g s)) → HoldsNumbersOf estate (Refused (WrongState h t)) → IsRefusal (WrongState g s) → IsRefusal (WrongState h t) → refusal_text estate (WrongState g s) ≡ refusal_text estate (WrongState h t) → (g ≡ h) × (s ≡ t)
wrong_state estate groups plans g h s t holds also p q e =
    let group = numbered (group_names estate) groups g h holds.0 also.0 in
    let protected = side s.protected t.protected in
    let brought = phase s.phase t.phase in
    let words = words_same (codes "2 N5 wrong state") (name_at (group_names estate) g ∷ codes "protected" ∷ side_text s.protected ∷ phase_text s.phase ∷ phase_plan_text estate s.phase s.plan ∷ []) (name_at (group_names estate) h ∷ codes "protected" ∷ side_text t.protected ∷ phase_text t.phase ∷ phase_plan_text estate t.phase t.plan ∷ []) (group.left_plain, (refl, (protected.left_plain, (brought.left_plain, (phase_plan_plain estate plans s.phase s.plan holds.1, tt))))) (group.right_plain, (refl, (protected.right_plain, (brought.right_plain, (phase_plan_plain estate plans t.phase t.plan also.1, tt))))) e in
    let phases = ap (λ ws. get_or ws 3 []) words in
    let make : Side → Phase → ℕ → GroupState = λ a b c. record { protected = a; phase = b; plan = c } in
    (group.same (ap (λ ws. get_or ws 0 []) words), join_three make (protected.same (ap (λ ws. get_or ws 2 []) words)) (brought.same phases) (plan_same estate plans s.phase t.phase s.plan t.plan holds.1 also.1 p q phases (ap (λ ws. get_or ws 4 []) words)))

-- two refusals with one line are equal
pub same_refusal : (estate : Option Estate) → Naming (group_names estate) → Naming (plan_names estate) → (f g : Refusal) → HoldsNumbersOf estate (Refused f) → HoldsNumbersOf estate (Refused g) → IsRefusal f → IsRefusal g → refusal_text estate f ≡ refusal_text estate g → f ≡ g
same_refusal estate groups plans NoEstate NoEstate h k p q e = refl
same_refusal estate groups plans NoEstate another h k p q e = absurd (other (codes "2 N1 ") (refusal_text estate NoEstate) (refusal_text estate another) refl refl e)
same_refusal estate groups plans (UnknownPlan n) (UnknownPlan n') h k p q e = ap UnknownPlan (one (codes "2 N2 unknown plan") (name n n' p q) e)
same_refusal estate groups plans (UnknownPlan n) another h k p q e = absurd (other (codes "2 N2 ") (refusal_text estate (UnknownPlan n)) (refusal_text estate another) refl refl e)
same_refusal estate groups plans (NotBuilt n) (NotBuilt n') h k p q e = ap NotBuilt (one (codes "2 N13 not built") (name n n' p q) e)
same_refusal estate groups plans (NotBuilt n) another h k p q e = absurd (other (codes "2 N13 ") (refusal_text estate (NotBuilt n)) (refusal_text estate another) refl refl e)
same_refusal estate groups plans (UnknownRun n) (UnknownRun n') h k p q e = ap UnknownRun (one (codes "2 N12 unknown run") (name n n' p q) e)
same_refusal estate groups plans (UnknownRun n) another h k p q e = absurd (other (codes "2 N12 ") (refusal_text estate (UnknownRun n)) (refusal_text estate another) refl refl e)
same_refusal estate groups plans (IdTaken n) (IdTaken n') h k p q e = ap IdTaken (one (codes "2 N3 id taken run") (number n n' p q) e)
same_refusal estate groups plans (IdTaken n) another h k p q e = absurd (other (codes "2 N3 ") (refusal_text estate (IdTaken n)) (refusal_text estate another) refl refl e)
same_refusal estate groups plans (TakenOver r s) (TakenOver r' s') h k p q e = let s = taken_over r s r' s' p.0 p.1 q.0 q.1 e in join_two TakenOver s.0 s.1
same_refusal estate groups plans (TakenOver r s) another h k p q e = absurd (other (codes "2 N8 ") (refusal_text estate (TakenOver r s)) (refusal_text estate another) refl refl e)
same_refusal estate groups plans (GroupsInUse n) (GroupsInUse n') h k p q e = ap GroupsInUse (one (codes "2 N4 groups in use run") (number n n' p q) e)
same_refusal estate groups plans (GroupsInUse n) another h k p q e = absurd (other (codes "2 N4 ") (refusal_text estate (GroupsInUse n)) (refusal_text estate another) refl refl e)
same_refusal estate groups plans (WrongState g s) (WrongState g' s') h k p q e = let s = wrong_state estate groups plans g g' s s' h k p q e in join_two WrongState s.0 s.1
same_refusal estate groups plans (WrongState g s) another h k p q e = absurd (other (codes "2 N5 ") (refusal_text estate (WrongState g s)) (refusal_text estate another) refl refl e)
same_refusal estate groups plans (NotWaiting r s) (NotWaiting r' s') h k p q e = let t = three (codes "2 N10 not waiting run") (number r r' p.0 q.0) (fixed (codes "stage") refl) (number s s' p.1 q.1) e in join_two NotWaiting t.0 t.2
same_refusal estate groups plans (NotWaiting r s) another h k p q e = absurd (other (codes "2 N10 ") (refusal_text estate (NotWaiting r s)) (refusal_text estate another) refl refl e)
same_refusal estate groups plans (NotWalked r s) (NotWalked r' s') h k p q e = let t = three (codes "2 N11 not walked run") (number r r' p.0 q.0) (fixed (codes "stage") refl) (number s s' p.1 q.1) e in join_two NotWalked t.0 t.2
same_refusal estate groups plans (NotWalked r s) another h k p q e = absurd (other (codes "2 N11 ") (refusal_text estate (NotWalked r s)) (refusal_text estate another) refl refl e)
same_refusal estate groups plans EstateStands EstateStands h k p q e = refl
same_refusal estate groups plans EstateStands another h k p q e = absurd (other (codes "2 N9 ") (refusal_text estate EstateStands) (refusal_text estate another) refl refl e)
same_refusal estate groups plans (NotAmended k n) (NotAmended k' n') h i p q e = let t = two (codes "2 N14 not amended") (amend k k') (name n n' p q) e in join_two NotAmended t.0 t.1
same_refusal estate groups plans (NotAmended k n) another h i p q e = absurd (other (codes "2 N14 ") (refusal_text estate (NotAmended k n)) (refusal_text estate another) refl refl e)
same_refusal estate groups plans (NoSlot k m n) (NoSlot k' m' n') h i p q e = let t = three (codes "2 N6 no slot") (slot k k') (number m m' p.0 q.0) (number n n' p.1 q.1) e in join_three NoSlot t.0 t.1 t.2
same_refusal estate groups plans (NoSlot k m n) another h i p q e = absurd (other (codes "2 N6 ") (refusal_text estate (NoSlot k m n)) (refusal_text estate another) refl refl e)
same_refusal estate groups plans (JournalFull m n) (JournalFull m' n') h k p q e = let t = two (codes "2 N7 journal full") (wide m m' p.0 q.0) (wide n n' p.1 q.1) e in join_two JournalFull t.0 t.1
same_refusal estate groups plans (JournalFull m n) another h k p q e = absurd (other (codes "2 N7 ") (refusal_text estate (JournalFull m n)) (refusal_text estate another) refl refl e)

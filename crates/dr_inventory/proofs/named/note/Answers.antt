use Rattle.std.proofs.Common.{◌≡◌, ◌∙◌, ℕ, Option, None, Some, false, is_some, refl, ap, sym, is_eq, bytes_eq}
use Rattle.std.specs.Ordering.{nat_cmp}
use Rattle.std.specs.Cmp.Lexicographic.{slice_cmp, nat_list_eq_equiv}
use Rattle.std.specs.BTreeMap.{get}
use Rattle.std.proofs.lemmas.Map.Text.{is_eq-slice_cmp}
use Rattle.std.proofs.lemmas.Slice.Eq.{bytes_eq-Decides}
use Rattle.dr_inventory.proofs.PlaceLaws.{noted}
use Rattle.dr_inventory.proofs.named.note.Goals as goal

no_value : (o : Option ℕ) → is_some o ≡ false → o ≡ None
no_value None h = refl
no_value (Some x) h = cc

pub returns-in_ok-insert : goal.returns-in_ok-insert
returns-in_ok-insert c = λ q.
    let m = c.args.numbers.now in
    c.in_ok-insert.ensures.updates.0 q ∙ noted (get (slice_cmp nat_cmp) m q) (is_eq (slice_cmp nat_cmp c.args.name q)) (bytes_eq q c.args.name) c.args.number
    (is_eq-slice_cmp c.args.name q ∙ nat_list_eq_equiv.symm c.args.name q)
    (λ same.
    let e : c.args.name ≡ q = (bytes_eq-Decides c.args.name q).0 (sym (is_eq-slice_cmp c.args.name q) ∙ same) in
    ap (get (slice_cmp nat_cmp) m) (sym e) ∙ no_value (get (slice_cmp nat_cmp) m c.args.name) (sym c.contains_key.ensures ∙ c.if-not-contains_key.true))

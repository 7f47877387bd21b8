use Rattle.std.proofs.Common.{◌≡◌, ◌∙◌, ◌∷◌, ◌+◌, ℕ, List, [], length, length-append, ap, sym, subst, arith}
use Rattle.dr_groups.specs.Groups.{IsPairOf, IsMachineOf, ListsByGroup}
use Rattle.dr_groups.specs.Marks.{ListsAscending}
use Rattle.dr_groups.proofs.HoldingLaws.{lists_push}
use Rattle.dr_groups.proofs.holdings.lists_of.Goals as goal

pub loop-group-preserved : goal.loop-group-preserved
loop-group-preserved c =
    let e = c.args.estate.now in
    let g = c.loop-group.group in
    let before = c.loop-group.invariant in
    let pairs : List (List ℕ) = c.loop-group.pairs.items in
    let machines : List (List ℕ) = c.loop-group.machines.items in
    let P : List ℕ → Type 0 = λ ns. ListsAscending (IsPairOf e g) ns in
    let M : List ℕ → Type 0 = λ ns. ListsAscending (IsMachineOf e g) ns in
    record {
      pairs_each = ap length c.in_ok-push.ensures.items ∙ length-append pairs (c.new.result ∷ []) ∙ ap (λ n. n + 1) before.pairs_each;
      machines_each = ap length c.in_ok-push-2.ensures.items ∙ length-append machines (c.new-in-loop-group.result ∷ []) ∙ ap (λ n. n + 1) before.machines_each;
      pairs = lists_push (IsPairOf e) pairs c.push.new.self.items c.new.result g before.pairs_each before.pairs c.in_ok-push.ensures.items (subst P (sym c.new.ensures) c.in_ok-pairs_of.ensures);
      machines = lists_push (IsMachineOf e) machines c.push-in-loop-group.new.self.items c.new-in-loop-group.result g before.machines_each before.machines c.in_ok-push-2.ensures.items
          (subst M (sym c.new-in-loop-group.ensures) c.in_ok-machines_of.ensures);
    }

pub returns : goal.returns
returns c =
    let e = c.args.estate.now in
    let all : c.loop-group.group ≡ length e.groups = omega (arith, ap length c.as_slice-group-end.ensures) in
    let P : List (List ℕ) → Type 0 = λ ls. ListsByGroup e (IsPairOf e) ls in
    let M : List (List ℕ) → Type 0 = λ ls. ListsByGroup e (IsMachineOf e) ls in
    record {
      pairs = subst P (sym c.new-2.ensures) (record { one_each = c.loop-group.invariant.pairs_each ∙ all; each = c.loop-group.invariant.pairs });
      machines = subst M (sym c.new-3.ensures) (record { one_each = c.loop-group.invariant.machines_each ∙ all; each = c.loop-group.invariant.machines });
    }

use Rattle.std.proofs.Common.{◌≡◌, true, Some, ap, sym, ◌∙◌, rules, tests}
use Rattle.std.specs.Option.{option_map}
use Rattle.dr_meaning.specs.Runs.{run_named, run_at, is_open}
use Rattle.dr_meaning.specs.Lawful.{MayCome}
use Rattle.dr_replay.specs.Values.{run_of, runs_told}
use Rattle.dr_replay.specs.Following.{MayTake}
use Rattle.dr_replay.proofs.FollowLaws.{come_of_open, if_ok_told}
use Rattle.dr_replay.proofs.lawful.may_follow.Goals as goal

pub returns : goal.returns
returns c = λ setting no_start.
    let runs = runs_told c.args.runs.now in
    let item = c.args.item.now in
    let walked = run_of c.in_ok-walk.walk.run.now in
    let same : run_of c.in-Some.run'.now ≡ walked = ap run_of (sym c.in_ok-walk.ensures) in
    let found : run_at (run_named item) runs ≡ Some (run_of c.in-Some.run'.now) =
    ap (λ n. run_at n runs) (sym c.run_named.ensures) ∙ sym c.run_at.ensures ∙ ap (λ o. option_map (λ r. run_of r.now) o) c.in-Some.is in
    let e : run_at (run_named item) runs ≡ Some walked = found ∙ ap Some same in
    let was : c.is_open.result ≡ true = search (rules, tests) in
    let stays : is_open walked ≡ true = ap is_open (sym same) ∙ sym c.is_open.ensures ∙ was in
    if_ok_told c.may_take.result (MayTake runs walked item) (MayCome setting runs item)
    (come_of_open setting runs item walked no_start e stays) (c.may_take.ensures (run_named item) e)

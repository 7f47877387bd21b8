use Rattle.std.proofs.Common.{◌≡◌, ℕ, ◌+◌, ◌-◌, ◌≤◌, List, [], length, Some, refl, sym, ◌∙◌, arith}
use Rattle.dr_journal.specs.Reading.{form_1}
use Rattle.dr_journal.specs.Held.{HasFront}
use Rattle.dr_journal.proofs.GateWalk.{begun}
use Rattle.dr_journal.proofs.OpeningWalk.{front_on, closes_there, damaged_at}
use Rattle.dr_journal.proofs.gate_walk.walk_gates.Goals as goal

pub loop-gate-init : goal.loop-gate-init
loop-gate-init g c = (
  record {
    least = omega arith;
    inside = omega (arith, c.requires.long);
    room = c.in_ok-gate.ensures.open;
    first = c.in_ok-gate.ensures.first;
    within = c.in_ok-gate.ensures.within;
    shows = λ f reads. c.in_ok-gate.ensures.bytes f (sym c.gate_at.ensures.same ∙ reads);
    front = λ f reads.
        let was = sym c.gate_at.ensures.same ∙ reads in
        ([], begun form_1 f (omega (arith, c.requires.ends f was, c.requires.long)) (c.requires.begun f was));
    told = λ f reads. c.in_ok-gate.ensures.gate f (sym c.gate_at.ensures.same ∙ reads);
    fits = λ f reads. c.in_ok-gate.ensures.fits f (sym c.gate_at.ensures.same ∙ reads);
  },
  refl,
  λ file here. here,
  refl,
  omega arith,
  omega arith,
)

pub loop-gate-preserved : goal.loop-gate-preserved
loop-gate-preserved g c =
    let walk = c.loop-gate.invariant.0 in
    let same = c.loop-gate.invariant.1 in
    let room = walk.room c.in-Open.size c.in-Open.is in (
      record {
        least = omega (arith, walk.least);
        inside = omega (arith, room, walk.inside);
        room = c.in_ok-gate-2.ensures.open;
        first = c.in_ok-gate-2.ensures.first;
        within = c.in_ok-gate-2.ensures.within;
        shows = λ f reads. c.in_ok-gate-2.ensures.bytes f (same ∙ reads);
        front = λ f reads.
            let front = walk.front f reads in
            front_on f c.args.end c.loop-gate.at c.loop-gate.gate front.0 front.1 (c.requires.ends f (sym c.gate_at.ensures.same ∙ reads)) (walk.told f reads) c.in-Open.size c.in-Open.is (walk.fits f reads);
        told = λ f reads. c.in_ok-gate-2.ensures.gate f (same ∙ reads);
        fits = λ f reads. c.in_ok-gate-2.ensures.fits f (same ∙ reads);
      },
      c.gate_at-in-Open.ensures.same ∙ same,
      λ file here. c.loop-gate.invariant.2 file (c.gate_at-in-Open.ensures.images file here),
      c.gate_at-in-Open.ensures.limit ∙ c.loop-gate.invariant.3,
      omega (arith, c.loop-gate.invariant.4, c.gate_at-in-Open.ensures.counts),
      omega (arith, c.loop-gate.invariant.5, c.gate_at-in-Open.ensures.room),
    )

pub returns-in-Closed : goal.returns-in-Closed
returns-in-Closed g c =
    let walk = c.loop-gate.invariant.0 in
    record {
      closes = λ f reads.
          let now = c.gate_at.ensures.same ∙ reads in
          let front = walk.front f now in
          (front.0, closes_there f c.args.end c.loop-gate.at c.loop-gate.gate front.0 front.1 (c.requires.ends f reads) (walk.told f now) c.in-Closed.is);
      inside = (walk.least, walk.inside);
      room = omega (arith, c.loop-gate.invariant.5, c.gate_at.ensures.room);
      fault = tt;
      same = c.loop-gate.invariant.1 ∙ c.gate_at.ensures.same;
      images = λ file here. c.gate_at.ensures.images file (c.loop-gate.invariant.2 file here);
      limit = c.loop-gate.invariant.3 ∙ c.gate_at.ensures.limit;
      counts = omega (arith, c.loop-gate.invariant.4, c.gate_at.ensures.counts);
    }

pub returns-in-Open-gate : goal.returns-in-Open-gate
returns-in-Open-gate g c =
    let walk = c.loop-gate.invariant.0 in
    record {
      closes = tt;
      inside = tt;
      room = omega (arith, c.loop-gate.invariant.5, c.gate_at.ensures.room);
      fault = λ f reads.
          let now = c.gate_at.ensures.same ∙ reads in
          let front = walk.front f now in
          damaged_at f c.args.end c.loop-gate.at c.loop-gate.gate front.0 front.1 (c.requires.ends f reads) (walk.told f now) c.in_default.not-Open c.in-Open-gate.is (omega (arith, c.requires.most)) c.requires.long;
      same = c.loop-gate.invariant.1 ∙ c.gate_at.ensures.same;
      images = λ file here. c.gate_at.ensures.images file (c.loop-gate.invariant.2 file here);
      limit = c.loop-gate.invariant.3 ∙ c.gate_at.ensures.limit;
      counts = omega (arith, c.loop-gate.invariant.4, c.gate_at.ensures.counts);
    }

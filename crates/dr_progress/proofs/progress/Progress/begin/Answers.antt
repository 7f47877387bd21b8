use Rattle.std.specs.Prelude.{ℕ, ◌≡◌, ◌+◌, ◌-◌, ◌<◌, ◌≤◌, ◌⊎◌, List, ◌∷◌, length}
use Rattle.std.proofs.Common.{refl, inl, inr, arith}
use Rattle.dr_meaning.specs.Types.{Record}
use Rattle.dr_progress.specs.declared.facts.Facts.{Facts}
use Rattle.dr_progress.specs.declared.progress.Progress.{Progress}
use Rattle.dr_progress.specs.Progress.{asides_at, Keeps, NoneWaits, WaitsFirst, MayBeginAt}
use Rattle.dr_progress.proofs.FactLaws.{puts_visit_only}
use Rattle.dr_progress.proofs.AttemptLaws.{visited_if_some}
use Rattle.dr_progress.proofs.BeginLaws.{begun_at, begin_again_keeps, begin_first_keeps}
use Rattle.dr_progress.proofs.progress.Progress.begin.Goals as goal

-- a stage that was done waits
waits : (facts : Facts) (run : ℕ) (p : Progress) (stage : ℕ) → MayBeginAt facts run p stage → stage ≤ p.walked → WaitsFirst facts run p stage
waits facts run p stage may walked = go may.next
  where
    go : WaitsFirst facts run p stage ⊎ (NoneWaits facts run p × (stage ≡ p.walked + 1)) → WaitsFirst facts run p stage
    go (inl first) = first
    go (inr next) = absurd (omega (arith, next.1, walked))

-- one that wasn't is the first that was never begun
begins : (facts : Facts) (run : ℕ) (p : Progress) (stage left : ℕ) (log : List Record) → left ≡ p.left - asides_at facts run stage → MayBeginAt facts run p stage → p.walked < stage → Keeps facts run p log → Keeps facts run (begun_at p stage 0 left) (Record.Begin run stage ∷ log)
begins facts run p stage left log fewer may over k = go may.next
  where
    go : WaitsFirst facts run p stage ⊎ (NoneWaits facts run p × (stage ≡ p.walked + 1)) → Keeps facts run (begun_at p stage 0 left) (Record.Begin run stage ∷ log)
    go (inl first) = absurd (let visited = visited_if_some facts run p log k.excuses stage first.some (rw may.none_begun refl) in omega (arith, over, visited.1))
    go (inr next) = rw next.1 (begin_first_keeps facts run left p log (rw next.1 at fewer) may.none_begun next.0 k)

pub returns-then-stage-self-clause-kept : goal.returns-then-stage-self-clause-kept
returns-then-stage-self-clause-kept c = λ log few may kept.
    let count : c.args.self.now.attempts + (c.args.self.now.skips + c.args.self.now.visits) ≤ length log = kept.counts.few in
    let more : c.saturating_add-self.result ≡ c.args.self.now.visits + 1 = omega (arith, c.saturating_add-self.ensures, count, few) in
    let fewer : c.saturating_sub-self.result ≡ c.args.self.now.left - asides_at c.args.facts.now c.args.run c.args.stage = rw (← c.asides.ensures) c.saturating_sub-self.ensures in
    rw more (begin_again_keeps _ _ _ _ _ c.args.self.now log fewer may.none_begun (waits _ _ _ _ may c.if-stage-self.true) (rw more at c.visit.ensures.puts) kept)

pub returns-then-stage-self-clause-others : goal.returns-then-stage-self-clause-others
returns-then-stage-self-clause-others c = puts_visit_only _ _ _ _ _ _ c.visit.ensures.puts

pub returns-else-stage-self-clause-kept : goal.returns-else-stage-self-clause-kept
returns-else-stage-self-clause-kept c = λ log few may kept.
    let count : c.args.self.now.attempts + (c.args.self.now.skips + c.args.self.now.visits) ≤ length log = kept.counts.few in
    let more : c.saturating_add-self.result ≡ c.args.self.now.visits + 1 = omega (arith, c.saturating_add-self.ensures, count, few) in
    let fewer : c.saturating_sub-self.result ≡ c.args.self.now.left - asides_at c.args.facts.now c.args.run c.args.stage = rw (← c.asides.ensures) c.saturating_sub-self.ensures in
    rw more (begins c.args.facts.now c.args.run c.args.self.now c.args.stage _ log fewer may c.if-stage-self.false kept)

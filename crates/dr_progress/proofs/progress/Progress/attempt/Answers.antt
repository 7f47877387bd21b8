use Rattle.std.specs.Prelude.{ℕ, ◌≡◌, ◌+◌, ◌≤◌, length, max, Option, Some, None, IfSome}
use Rattle.std.specs.Option.{unwrap_or}
use Rattle.std.proofs.Common.{refl, arith}
use Rattle.dr_progress.proofs.AttemptLaws.{attempt_keeps}
use Rattle.dr_progress.proofs.progress.Progress.attempt.Goals as goal

-- the greater of the two reaches the begun stage
reaches : (walked upto : ℕ) (begun : Option ℕ) → upto ≡ max walked (unwrap_or begun 0) → IfSome begun (λ stage. stage ≤ upto)
reaches walked upto None e = tt
reaches walked upto (Some stage) e = omega (arith, e)

-- and it is at most the stage behind the walked ones
stays : (walked upto : ℕ) (begun : Option ℕ) → upto ≡ max walked (unwrap_or begun 0) → IfSome begun (λ stage. (1 ≤ stage) × (stage ≤ walked + 1)) → upto ≤ walked + 1
stays walked upto None e next = omega (arith, e)
stays walked upto (Some stage) e next = let most = next.1 in omega (arith, e, most)

pub returns : goal.returns
returns c =
    let upto : c.max-self.result ≡ max c.args.self.now.walked (unwrap_or c.args.self.now.begun 0) = rw (c.max-self.ensures, c.unwrap_or.ensures) refl in
    λ facts run moment log fewer kept.
    let few : c.args.self.now.attempts + (c.args.self.now.skips + c.args.self.now.visits) ≤ length log = kept.counts.few in
    let more : c.saturating_add-self.result ≡ c.args.self.now.attempts + 1 = omega (arith, c.saturating_add-self.ensures, few, fewer) in
    rw more (attempt_keeps facts run moment _ c.args.self.now log (omega (arith, upto)) (stays c.args.self.now.walked _ c.args.self.now.begun upto kept.stages.next) (reaches c.args.self.now.walked _ c.args.self.now.begun upto) kept)

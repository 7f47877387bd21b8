use Rattle.dr_expected.specs.Expecting.{IsFrame}
use Rattle.dr_expected.proofs.ShownLaws.{gains-push, gains-kept}
use Rattle.dr_expected.proofs.frames.add.Goals as goal

pub returns : goal.returns
returns c = gains-push IsFrame c.args.frames.now.items c.push.new.self.items c.args.frame c.in_ok-push.ensures.items

pub returns-then-is_listed : goal.returns-then-is_listed
returns-then-is_listed c = gains-kept IsFrame c.args.frames.now.items c.args.frame (rw c.deref.ensures.value at (c.is_listed.ensures.0 c.if-is_listed.true))

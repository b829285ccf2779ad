use Rattle.std.proofs.Common.{ap, ◌∙◌, []}
use Rattle.text_names.specs.WalkViews.{frames_in}
use Rattle.text_names.proofs.Walking.{frames-push}
use Rattle.text_names.proofs.walk.Walk.push.Goals as goal

pub returns-clause-frames : goal.returns-clause-frames
returns-clause-frames c = ap frames_in c.in_ok-push.ensures.items ∙ frames-push c.args.self.now.frames.items c.args.frame []

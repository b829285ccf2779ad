use Rattle.text_names.proofs.Walking.{frames-pop}
use Rattle.text_names.proofs.walk.Walk.pop.Goals as goal

pub returns-clause-frames : goal.returns-clause-frames
returns-clause-frames c = frames-pop c.args.self.now.frames.items c.pop.new.self.items c.pop.result c.pop.ensures.items (rw c.args.self.now.frames.ok.0 at c.pop.ensures.variant)

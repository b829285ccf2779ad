use Rattle.sessions.proofs.GivenTexts.{given-text}
use Rattle.coherence.proofs.output_lines.line_source.Goals as goal

pub text_answers-requires : goal.text_answers-requires
text_answers-requires g c = given-text c.args.text.now c.in-Ok.workspace (rw c.in-Ok.is at c.parse.ensures.taken)

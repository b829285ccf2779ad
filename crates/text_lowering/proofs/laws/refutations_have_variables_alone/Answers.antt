use Rattle.text_lowering.proofs.QuestionTexts.{refutations-alone}
use Rattle.text_lowering.proofs.laws.refutations_have_variables_alone.Goals as goal

pub returns : goal.returns
returns c = refutations-alone

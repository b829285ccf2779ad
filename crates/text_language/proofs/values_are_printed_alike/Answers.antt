use Rattle.text_language.proofs.SamePrinted.{yes-values-text-is}
use Rattle.text_language.proofs.values_are_printed_alike.Goals as goal

pub returns : goal.returns
returns c = yes-values-text-is

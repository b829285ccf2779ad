use Rattle.text_names.proofs.UsedLaws.{types_use_names, args_use_names}
use Rattle.text_names.proofs.used_names.Goals as goal

pub returns : goal.returns
returns c = record { types = types_use_names; args = args_use_names }

use Rattle.text_names.proofs.Going.{machine_resolves, args_resolved}
use Rattle.text_names.proofs.Turned.{type-turned, args-turned}
use Rattle.text_names.proofs.machine_laws.Goals as goal

pub returns : goal.returns
returns c = record { types = machine_resolves; args = args_resolved; types_turned = type-turned; args_turned = args-turned }

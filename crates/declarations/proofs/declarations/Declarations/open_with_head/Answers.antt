use Rattle.std.proofs.Common.{sym, ap, ◌∙◌}
use Rattle.declarations.specs.Index.{has_open_head, ids_of}
use Rattle.declarations.proofs.Matched.{nothing-headed}
use Rattle.declarations.proofs.declarations.Declarations.open_with_head.Goals as goal

pub returns-in-None : goal.returns-in-None
returns-in-None c =
    nothing-headed c.args.trait_id c.args.self.now.impls ∙ ap (λ s. ids_of (has_open_head c.args.trait_id s) c.args.self.now.impls) (sym c.in-None.is)

use Rattle.std.proofs.Common.{List, [], ◌∷◌, refl, ap}
use Rattle.sessions.specs.TypeTerms.Promised.Trees.{Trees, none}
use Rattle.sessions.specs.TypeTerms.Pieces.{Piece}
use Rattle.explain_sessions.proofs.InstanceFacts.{resolved-instance}
use Rattle.explain_sessions.proofs.instances.instance_in.Goals as goal

abbrev first-tree : List Piece → Trees
first-tree [] = none
first-tree (p ∷ ps) = p.trees

pub returns-clause-instance : goal.returns-clause-instance
returns-clause-instance c =
    resolved-instance c.args.cx.now.entries c.eager_resolve_vars.new.cx.entries c.lawful.ensures c.args.table.now c.requires.ready c.args.reference (record { def_id = c.args.reference.def_id; args = c.in_ok-args.args })
    c.requires.held refl (ap first-tree c.in_ok-args.ensures.resolved)

use Rattle.std.proofs.Common.{ap, ◌∙◌, [], ◌∷◌, Err}
use Rattle.term_folds.specs.declared.instantiate.InstantiateError.TheVariants as error
use Rattle.type_terms.specs.Promised.Handles.{trees_at}
use Rattle.term_folds.specs.declared.predicate.TraitRef.{TraitRef}
use Rattle.type_terms.specs.Pieces.{each_piece, one_piece}
use Rattle.type_terms.specs.Promised.Trees.{instantiate}
use Rattle.declarations.proofs.Bounded.{one-instantiated}
use Rattle.declarations.proofs.arguments.with_arguments.Goals as goal

pub returns-in-Ok-clause-is : goal.returns-in-Ok-clause-is
returns-in-Ok-clause-is c =
    let old = c.args.cx.now.entries in
    let new = c.instantiate.new.cx.entries in
    let value = c.bind.ensures in
    one-instantiated old new (trees_at old c.args.args.0) c.args.reference c.in-Ok.instance (c.in-Ok.ensures.outline ∙ ap (λ (b : TraitRef). b.def_id.index ∷ []) value)
    (c.in-Ok.ensures.instantiated ∙ ap (λ (b : TraitRef). each_piece (λ d t. instantiate d (trees_at old c.args.args.0) t) (one_piece (trees_at old b.args.0))) value)

pub returns-in-Err-Fault-clause-terms : goal.returns-in-Err-Fault-clause-terms
returns-in-Err-Fault-clause-terms c = record {
  grew = c.instantiate.ensures.grew;
  full = λ q. c.in-Err-Fault.ensures.full (ap Err (c.in-Err-Fault.field-0-is ∙ ap error.Fault q));
}

use Rattle.std.proofs.Common.{◌&&◌, not, ap, sym, ◌∙◌}
use Rattle.std.specs.Prelude.{◌==◌}
use Rattle.std.specs.List.{list_any}
use Rattle.type_terms.specs.Promised.Rules.{sized}
use Rattle.term_folds.specs.declared.predicate.TraitRef.{TraitRef}
use Rattle.goal_evaluator.specs.Merge.{if_there}
use Rattle.declarations.specs.Applied.{references_in}
use Rattle.built_in_candidates.proofs.Objects.{compatible-is}
use Rattle.built_in_candidates.proofs.dyn_type.is_dyn_compatible.Goals as goal

pub returns-then-is_declared : goal.returns-then-is_declared
returns-then-is_declared c = λ es now h e.
    let rs = c.args.elaborated.now in
    let found = not (list_any (λ (r : TraitRef). r.def_id.index == sized) rs) in
    ap not c.has_trait.ensures ∙ ap (λ b. b && found) (sym c.if-is_declared.true ∙ c.is_declared.ensures es now)
    ∙ compatible-is es c.args.declarations.now h now rs (references_in now (if_there c.args.principal)) e

pub returns-else-is_declared : goal.returns-else-is_declared
returns-else-is_declared c = λ es now h e.
    let rs = c.args.elaborated.now in
    let found = not (list_any (λ (r : TraitRef). r.def_id.index == sized) rs) in
    c.if-is_declared.false ∙ ap (λ b. b && found) (sym c.if-is_declared.false ∙ c.is_declared.ensures es now) ∙ compatible-is es c.args.declarations.now h now rs (references_in now (if_there c.args.principal)) e

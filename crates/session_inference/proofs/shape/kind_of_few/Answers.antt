use Rattle.std.proofs.Common.{◌≡◌, IfSome, List, sym, subst}
use Rattle.type_terms.specs.Kinds.{args_trees, kind_trees}
use Rattle.type_terms.specs.Promised.Handles.{ArgsHeld, arg_trees}
use Rattle.type_terms.specs.Promised.Trees.{Trees, ◌+++◌}
use Rattle.type_terms.specs.declared.kinds.GenericArgKind.{GenericArgKind}
use Rattle.session_inference.specs.Shapes.{shaped_trees}
use Rattle.session_inference.proofs.Shapes.{nothing-behind, one-alone, two-alone}
use Rattle.session_inference.proofs.shape.kind_of_few.Goals as goal

pub returns-in-len1-clause-held : goal.returns-in-len1-clause-held
returns-in-len1-clause-held c =
    let alone = one-alone c.args.parts.now _ _ c.in-len1.len_at_least c.in-len1.len_below c.part-item.is in
    λ es h. c.kind_of_one.ensures.held es (subst (ArgsHeld es) alone h).0

pub returns-in-len1-clause-is : goal.returns-in-len1-clause-is
returns-in-len1-clause-is c =
    let alone = one-alone c.args.parts.now _ _ c.in-len1.len_at_least c.in-len1.len_below c.part-item.is in
    λ es.
    subst (λ (ps : List GenericArgKind). IfSome c.kind_of_one.result (λ k. kind_trees es k ≡ shaped_trees c.args.shape (args_trees es ps))) (sym alone)
    (subst (λ (t : Trees). IfSome c.kind_of_one.result (λ k. kind_trees es k ≡ shaped_trees c.args.shape t)) (sym (nothing-behind (arg_trees es c.part-item.result))) (c.kind_of_one.ensures.is es))

pub returns-in-len2-clause-held : goal.returns-in-len2-clause-held
returns-in-len2-clause-held c =
    let alone = two-alone c.args.parts.now _ _ _ _ c.in-len2.len_at_least c.in-len2.len_below c.first-item.is c.second-item.is in
    λ es h. let both = subst (ArgsHeld es) alone h in c.kind_of_two.ensures.held es both.0 both.1.0

pub returns-in-len2-clause-is : goal.returns-in-len2-clause-is
returns-in-len2-clause-is c =
    let alone = two-alone c.args.parts.now _ _ _ _ c.in-len2.len_at_least c.in-len2.len_below c.first-item.is c.second-item.is in
    λ es.
    subst (λ (ps : List GenericArgKind). IfSome c.kind_of_two.result (λ k. kind_trees es k ≡ shaped_trees c.args.shape (args_trees es ps))) (sym alone)
    (subst (λ (t : Trees). IfSome c.kind_of_two.result (λ k. kind_trees es k ≡ shaped_trees c.args.shape (arg_trees es c.first-item.result +++ t))) (sym (nothing-behind (arg_trees es c.second-item.result)))
    (c.kind_of_two.ensures.is es))

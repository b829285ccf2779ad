use Rattle.std.proofs.Common.{[], ◌∷◌, sym, ap, ◌∙◌, subst, map}
use Rattle.type_terms.specs.Promised.Erased.{erased_reference}
use Rattle.type_terms.specs.Promised.Rules.{copy_rules, each_asked}
use Rattle.type_terms.specs.Promised.Handles.{types, trees_at}
use Rattle.type_terms.specs.Promised.Trees.{erase}
use Rattle.type_terms.specs.Terms.{type_lists}
use Rattle.type_terms.specs.Kept.{trees-is}
use Rattle.structural_traits.specs.Constituents.{premises_of, types_asked, each_asked_of, IsOneRow}
use Rattle.structural_traits.proofs.Trees.{tys-asked, each-erased, asked-erased}
use Rattle.structural_traits.proofs.constituents.instantiate_constituent_tys_for_copy_clone_trait.Goals as goal

pub returns-in_ok-items-in-Tuple-clause-are : goal.returns-in_ok-items-in-Tuple-clause-are
returns-in_ok-items-in-Tuple-clause-are c = λ t.
    let es = c.args.cx.now.entries in
    let self = trees-is es types c.args.self_ty.0 _ c.in-Tuple.ensures.is in
    let list = trees-is es type_lists c.in-Tuple.tys.0 _ c.tys.ensures.is in
    ap (λ s. premises_of (copy_rules t s)) self
    ∙ ap (λ l. l ∷ []) (ap (each_asked t) list ∙ tys-asked es c.lawful.ensures t c.tys.result.now c.tys.ensures.held ∙ ap (types_asked es t) (sym c.in_ok-items-in-Tuple.ensures.items))

pub returns-in_ok-items-in-Tuple-clause-erased : goal.returns-in_ok-items-in-Tuple-clause-erased
returns-in_ok-items-in-Tuple-clause-erased c = λ t.
    let es = c.args.cx.now.entries in
    let self = trees-is es types c.args.self_ty.0 _ c.in-Tuple.ensures.is in
    let list = trees-is es type_lists c.in-Tuple.tys.0 _ c.tys.ensures.is in
    let items = c.in_ok-items-in-Tuple.items.items in
    let asks = each-erased t (trees_at es c.in-Tuple.tys.0)
    ∙ ap (map erased_reference) (ap (each_asked t) list ∙ tys-asked es c.lawful.ensures t c.tys.result.now c.tys.ensures.held ∙ ap (types_asked es t) (sym c.in_ok-items-in-Tuple.ensures.items))
    ∙ asked-erased es t items in
    subst (λ s. IsOneRow (copy_rules t (erase s)) (each_asked_of es t items)) (sym self) (tt, asks)

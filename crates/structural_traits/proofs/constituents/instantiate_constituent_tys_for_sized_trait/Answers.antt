use Rattle.std.proofs.Common.{[], ◌∷◌, sym, ap, ◌∙◌, subst, map}
use Rattle.type_terms.specs.Kinds.{TysHeld}
use Rattle.type_terms.specs.Promised.Erased.{erased_reference}
use Rattle.type_terms.specs.Promised.Rules.{sized, sized_rules, last_asked}
use Rattle.type_terms.specs.Promised.Handles.{types, trees_at}
use Rattle.type_terms.specs.Promised.Trees.{erase}
use Rattle.type_terms.specs.Terms.{type_lists}
use Rattle.type_terms.specs.Kept.{trees-is}
use Rattle.declarations.specs.Items.{written, declared}
use Rattle.structural_traits.specs.Constituents.{premises_of, types_asked, each_asked_of, IsOneRow}
use Rattle.structural_traits.proofs.Trees.{tys-last, held-last, last-erased, asked-erased}
use Rattle.structural_traits.proofs.constituents.instantiate_constituent_tys_for_sized_trait.Goals as goal

pub returns-in_ok-last-in-Tuple-clause-are : goal.returns-in_ok-last-in-Tuple-clause-are
returns-in_ok-last-in-Tuple-clause-are c = λ _.
    let es = c.args.cx.now.entries in
    let self = trees-is es types c.args.self_ty.0 _ c.in-Tuple.ensures.is in
    let list = trees-is es type_lists c.in-Tuple.tys.0 _ c.tys.ensures.is in
    ap (λ s. premises_of (sized_rules (written es c.args.declarations.now) s)) self
    ∙ ap (λ l. l ∷ []) (ap (last_asked sized) list ∙ tys-last es c.lawful.ensures sized c.tys.result.now c.tys.ensures.held ∙ ap (types_asked es sized) (sym c.in_ok-last-in-Tuple.ensures.is))

pub returns-in_ok-last-in-Tuple-clause-erased : goal.returns-in_ok-last-in-Tuple-clause-erased
returns-in_ok-last-in-Tuple-clause-erased c =
    let es = c.args.cx.now.entries in
    let self = trees-is es types c.args.self_ty.0 _ c.in-Tuple.ensures.is in
    let list = trees-is es type_lists c.in-Tuple.tys.0 _ c.tys.ensures.is in
    let last = c.in_ok-last-in-Tuple.last.items in
    let asks = last-erased sized (trees_at es c.in-Tuple.tys.0)
    ∙ ap (map erased_reference) (ap (last_asked sized) list ∙ tys-last es c.lawful.ensures sized c.tys.result.now c.tys.ensures.held ∙ ap (types_asked es sized) (sym c.in_ok-last-in-Tuple.ensures.is))
    ∙ asked-erased es sized last in
    subst (λ s. IsOneRow (sized_rules (declared es c.args.declarations.now) (erase s)) (each_asked_of es sized last)) (sym self) (tt, asks)

pub returns-in_ok-last-in-Tuple-clause-held : goal.returns-in_ok-last-in-Tuple-clause-held
returns-in_ok-last-in-Tuple-clause-held c = subst (TysHeld c.args.cx.now.entries) (sym c.in_ok-last-in-Tuple.ensures.is) (held-last c.args.cx.now.entries c.tys.result.now c.tys.ensures.held)

use Rattle.std.proofs.Common.{[], ◌∷◌, ◌++◌, ap, sym, ◌∙◌, subst}
use Rattle.type_terms.specs.Promised.Rules.{asked, sized}
use Rattle.type_terms.specs.Promised.Handles.{types, trees_at}
use Rattle.type_terms.specs.Kept.{has-later, trees-later}
use Rattle.goal_evaluator.specs.Merge.{if_there}
use Rattle.declarations.specs.Items.{reference_in}
use Rattle.declarations.specs.Applied.{references_in, TraitRefsHeld}
use Rattle.declarations.proofs.Bounded.{held-more, all-same}
use Rattle.built_in_candidates.specs.Unsizing.{traits_asked}
use Rattle.type_terms.proofs.ListBasics.{append-assoc}
use Rattle.built_in_candidates.proofs.Objects.{autos-at}
use Rattle.built_in_candidates.proofs.ToDyn.{pushed-last}
use Rattle.built_in_candidates.proofs.unsize_to_dyn.unsizing_obligations.Goals as goal

pub type_asked-requires : goal.type_asked-requires
type_asked-requires c = has-later c.args.cx.now.entries c.with_traits_asked.new.cx.entries c.with_traits_asked.ensures.terms.grew.keeps types c.args.self_ty.0 c.requires.self_held

pub returns-clause-held : goal.returns-clause-held
returns-clause-held c =
    let mid = c.with_traits_asked.new.cx.entries in
    let new = c.type_asked.new.cx.entries in
    subst (TraitRefsHeld new) (sym c.in_ok-push.ensures.items)
    (held-more mid new c.type_asked.ensures.terms.grew.keeps c.in_ok-premises.premises.items c.in_ok-is_sized.is_sized c.in_ok-premises.ensures.held c.in_ok-is_sized.ensures.held)

pub returns-clause-are : goal.returns-clause-are
returns-clause-are c = λ l lifetime.
    let old = c.args.cx.now.entries in
    let mid = c.with_traits_asked.new.cx.entries in
    let new = c.type_asked.new.cx.entries in
    let S = trees_at old c.args.self_ty.0 in
    let first = references_in old (if_there c.args.principal) in
    let premises = c.in_ok-premises.premises.items in
    let autos = ap (λ ts. traits_asked ts S) (c.deref-2.ensures.value ∙ c.in_ok-autos.ensures.items ∙ c.deref.ensures.value) ∙ sym (autos-at old S c.args.bounds.0 c.bounds.result.now c.bounds.ensures.is l lifetime) in
    let is_sized = c.in_ok-is_sized.ensures.is ∙ ap (asked sized) (trees-later old mid c.with_traits_asked.ensures.terms.grew.keeps types c.args.self_ty.0 c.requires.self_held) in
    ap (references_in new) c.in_ok-push.ensures.items ∙ pushed-last new premises c.in_ok-is_sized.is_sized
    ∙ ap (λ rs. rs ++ reference_in new c.in_ok-is_sized.is_sized ∷ []) (all-same mid new c.type_asked.ensures.terms.grew.keeps premises c.in_ok-premises.ensures.held ∙ c.in_ok-premises.ensures.are)
    ∙ ap (λ r. (first ++ traits_asked c.deref-2.result.now S) ++ r ∷ []) is_sized
    ∙ append-assoc first (traits_asked c.deref-2.result.now S) (asked sized S ∷ [])
    ∙ ap (λ rs. first ++ (rs ++ asked sized S ∷ [])) autos

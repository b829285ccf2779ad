use Rattle.std.proofs.Common.{sym, ◌∙◌, ap, subst}
use Rattle.type_terms.specs.Promised.Trees.{nth}
use Rattle.type_terms.specs.Promised.Handles.{trees_at, types}
use Rattle.type_terms.specs.Kept.{trees-is}
use Rattle.declarations.specs.Heads.{head_of, label_of}
use Rattle.declarations.specs.Items.{declared, reference_in}
use Rattle.declarations.specs.Relevant.{matches_in}
use Rattle.declarations.proofs.Pushed.{head-of-first}
use Rattle.pair_checks.specs.ByTrait.{HaveNumbers, HavePartners}
use Rattle.pair_checks.proofs.ByTrait.{none-partners, foreign-partners, blanket-partners}
use Rattle.pair_checks.proofs.Matching.{rigid-partners}
use Rattle.pair_checks.proofs.by_trait.ImplsByTrait.partners_of.Goals as goal
use Rattle.type_terms.proofs.TypeBasics.{ok-after}

pub returns-in_default : goal.returns-in_default
returns-in_default c = none-partners c.args.cx.now.entries c.args.declarations.now c.args.later c.new.result.items (c.in_default.ensures.found c.args.cx.now.entries)

pub returns-then-not-is_local : goal.returns-then-not-is_local
returns-then-not-is_local c =
    let es = c.args.cx.now.entries in
    foreign-partners es c.args.declarations.now c.args.later c.in-Some.def.now (c.in-Some.ensures.found es) c.new-then-not-is_local.result.items (sym c.is_local.ensures ∙ c.if-not-is_local.true)

pub self_ty-requires-clause-held : goal.self_ty-requires-clause-held
self_ty-requires-clause-held c = (c.in-Some.ensures.held c.args.cx.now.entries c.requires.held).header

pub returns-in_ok-impls-in-None : goal.returns-in_ok-impls-in-None
returns-in_ok-impls-in-None c =
    let es = c.args.cx.now.entries in
    let d = c.args.declarations.now in
    let def = c.in-Some.def.now in
    let first = trees-is es types c.self_ty.result.0 (nth (trees_at es def.header.args.0) 0) c.self_ty.ensures.is in
    let is = c.in-None.ensures ∙ ap head_of first ∙ head-of-first (trees_at es def.header.args.0) (c.in-Some.ensures.held es c.requires.held).begins in
    subst (HavePartners (declared es d) d.local c.args.later.index) (sym (c.in_ok-impls-in-None.ensures.items ∙ c.of_trait-of_trait.ensures))
    (blanket-partners es d c.args.later def (c.in-Some.ensures.found es) c.args.self.now is c.requires.listed)

pub returns-in-Some-simplify_type : goal.returns-in-Some-simplify_type
returns-in-Some-simplify_type c =
    let es = c.args.cx.now.entries in
    let d = c.args.declarations.now in
    let def = c.in-Some.def.now in
    let is_held = c.in-Some.ensures.held es c.requires.held in
    let first = trees-is es types c.self_ty.result.0 (nth (trees_at es def.header.args.0) 0) c.self_ty.ensures.is in
    ok-after (λ ids. HaveNumbers (matches_in es d (reference_in es def.header)) ids.items) (λ ids. HavePartners (declared es d) d.local c.args.later.index ids.items) c.matching_impls.result
    (λ ids. rigid-partners es d c.requires.held c.args.later def (c.in-Some.ensures.found es) (label_of c.in-Some-simplify_type.field-0)
    (c.in-Some-simplify_type.ensures ∙ ap head_of first ∙ head-of-first (trees_at es def.header.args.0) is_held.begins) ids.items)
    c.matching_impls.ensures

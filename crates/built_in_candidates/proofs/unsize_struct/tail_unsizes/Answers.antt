use Rattle.std.proofs.Common.{◌≡◌, true, ap, ◌∙◌, subst}
use Rattle.std.specs.Prelude.{IfSome, is_some}
use Rattle.type_terms.specs.Promised.Trees.{Trees, ◌+++◌, instantiate}
use Rattle.type_terms.specs.Trees.{outer_binder}
use Rattle.type_terms.specs.Promised.Worlds.{Reference}
use Rattle.type_terms.specs.Promised.Rules.{unsize}
use Rattle.type_terms.specs.Promised.Handles.{Has, types, trees_at}
use Rattle.type_terms.specs.Terms.{args_lists}
use Rattle.type_terms.specs.declared.kinds.Ty.{Ty}
use Rattle.term_folds.specs.Arguments.{first_misfit}
use Rattle.type_terms.specs.Kept.{has-later, trees-later}
use Rattle.built_in_candidates.proofs.unsize_struct.tail_unsizes.Goals as goal
use Rattle.type_terms.proofs.TypeBasics.{if-ok}

pub field_with-requires-2-clause-field : goal.field_with-requires-2-clause-field
field_with-requires-2-clause-field c = has-later c.args.cx.now.entries c.field_with.new.cx.entries c.field_with.ensures.terms.grew.keeps types c.args.tail.0 c.requires.tail

pub field_with-requires-2-clause-args : goal.field_with-requires-2-clause-args
field_with-requires-2-clause-args c = has-later c.args.cx.now.entries c.field_with.new.cx.entries c.field_with.ensures.terms.grew.keeps args_lists c.args.target.0 c.requires.target

pub field_with-requires-2-clause-closed : goal.field_with-requires-2-clause-closed
field_with-requires-2-clause-closed c =
    ap outer_binder (trees-later c.args.cx.now.entries c.field_with.new.cx.entries c.field_with.ensures.terms.grew.keeps args_lists c.args.target.0 c.requires.target) ∙ c.requires.target_closed

pub unreachable-requires : goal.unreachable-requires
unreachable-requires c = absurd (let z = subst (λ o. is_some o ≡ true) c.in-None.is (c.in_ok-source.ensures.misfits c.requires.fits) in cc)

pub unreachable-requires-in-None-2 : goal.unreachable-requires-in-None-2
unreachable-requires-in-None-2 c =
    let old = c.args.cx.now.entries in
    let mid = c.field_with.new.cx.entries in
    let k = c.field_with.ensures.terms.grew.keeps in
    let fits = ap (λ t. first_misfit t (trees_at mid c.args.tail.0)) (trees-later old mid k args_lists c.args.target.0 c.requires.target)
    ∙ ap (first_misfit (trees_at old c.args.target.0)) (trees-later old mid k types c.args.tail.0 c.requires.tail) ∙ c.requires.target_fits in
    absurd (let z = subst (λ o. is_some o ≡ true) c.in-None-2.is (c.in_ok-goal.ensures.misfits fits) in cc)

pub unsizes-requires-clause-source : goal.unsizes-requires-clause-source
unsizes-requires-clause-source c =
    let mid = c.field_with.new.cx.entries in
    let held = subst (λ o. IfSome o (λ (r : Ty). Has mid types r.0)) c.in-Some.is c.in_ok-source.ensures.held in
    has-later mid c.field_with-2.new.cx.entries c.field_with-2.ensures.terms.grew.keeps types c.in-Some.source.0 held

pub unsizes-requires-clause-target : goal.unsizes-requires-clause-target
unsizes-requires-clause-target c =
    subst (λ o. IfSome o (λ (r : Ty). Has c.field_with-2.new.cx.entries types r.0)) c.in-Some-2.is c.in_ok-goal.ensures.held

abbrev asks : Trees → Trees → Reference
asks x y = record { trait = unsize; args = x +++ y }

pub returns-clause-is : goal.returns-clause-is
returns-clause-is c =
    let old = c.args.cx.now.entries in
    let mid = c.field_with.new.cx.entries in
    let new = c.field_with-2.new.cx.entries in
    let k = c.field_with.ensures.terms.grew.keeps in
    let b = trees_at old c.args.args.0 in
    let d = trees_at old c.args.target.0 in
    let f = trees_at old c.args.tail.0 in
    let own = subst (λ o. IfSome o (λ (r : Ty). Has mid types r.0)) c.in-Some.is c.in_ok-source.ensures.held in
    let own_is = subst (λ o. IfSome o (λ (r : Ty). trees_at mid r.0 ≡ instantiate 0 b f)) c.in-Some.is c.in_ok-source.ensures.is in
    let other_is = subst (λ o. IfSome o (λ (r : Ty). trees_at new r.0 ≡ instantiate 0 (trees_at mid c.args.target.0) (trees_at mid c.args.tail.0))) c.in-Some-2.is c.in_ok-goal.ensures.is in
    let first = trees-later mid new c.field_with-2.ensures.terms.grew.keeps types c.in-Some.source.0 own ∙ own_is in
    let second = other_is ∙ ap (λ t. instantiate 0 t (trees_at mid c.args.tail.0)) (trees-later old mid k args_lists c.args.target.0 c.requires.target)
    ∙ ap (instantiate 0 d) (trees-later old mid k types c.args.tail.0 c.requires.tail) in
    if-ok _ _ c.unsizes.result (λ r e. e ∙ ap (λ x. asks x (trees_at new c.in-Some-2.goal.0)) first ∙ ap (asks (instantiate 0 b f)) second) c.unsizes.ensures.is

use Rattle.std.proofs.Common.{◌≡◌, ◌++◌, List, map, ap, sym, ◌∙◌, subst, None}
use Rattle.std.specs.Prelude.{IfSome, is_some, true}
use Rattle.type_terms.specs.Promised.Trees.{instantiate}
use Rattle.type_terms.specs.Kinds.{TysHeld}
use Rattle.type_terms.specs.Promised.Handles.{Has, types, trees_at}
use Rattle.type_terms.specs.Terms.{args_lists}
use Rattle.type_terms.specs.declared.kinds.Ty.{Ty}
use Rattle.term_folds.specs.Arguments.{first_misfit}
use Rattle.type_terms.specs.Kept.{trees-later}
use Rattle.type_terms.proofs.Grown.{grew-on}
use Rattle.declarations.specs.Promised.Elaboration.{Each}
use Rattle.declarations.specs.Unsizing.{field_trees}
use Rattle.structural_traits.proofs.FieldRows.{types-more, one-more-type}
use Rattle.structural_traits.proofs.fields.fields_with.Goals as goal

pub fields-preserved : goal.fields-preserved
fields-preserved c =
    let es = c.args.cx.now.entries in
    let now = c.fields.cx.entries in
    let next = c.field_with.new.cx.entries in
    let inv = c.fields.invariant in
    let A = trees_at es c.args.args.0 in
    let found = c.fields.found.items in
    let ty = c.in-Some-2.ty in
    let k = c.field_with.ensures.terms.grew.keeps in
    let back = c.in-Some.ensures.cases.0 in
    let x = c.in-Some.next.now in
    let rest = c.in-Some.others.now in
    let held = subst (TysHeld es) back inv.left_held in
    let all = map (instantiate 0 A) (field_trees es c.args.fields.now) in
    let ys = map (instantiate 0 A) (field_trees es rest) in
    let y = instantiate 0 A (trees_at es x.0) in
    let as_before = trees-later es now inv.grew.keeps args_lists c.args.args.0 c.requires.args in
    let made_held = subst (λ o. IfSome o (λ (r : Ty). Has next types r.0)) c.in-Some-2.is c.in_ok-ty.ensures.held in
    let made_is = subst (λ o. IfSome o (λ (r : Ty). trees_at next r.0 ≡ instantiate 0 (trees_at now c.args.args.0) (trees_at now x.0))) c.in-Some-2.is c.in_ok-ty.ensures.is in
    let made_fits = subst (λ o. IfSome o (λ (r : Ty). first_misfit (trees_at now c.args.args.0) (trees_at now x.0) ≡ None)) c.in-Some-2.is c.in_ok-ty.ensures.fits in
    let fit : first_misfit A (trees_at es x.0) ≡ None = subst (λ t. first_misfit A t ≡ None) (trees-later es now inv.grew.keeps types x.0 held.0)
    (subst (λ a. first_misfit a (trees_at now x.0) ≡ None) as_before made_fits) in
    let is = made_is ∙ ap (λ a. instantiate 0 a (trees_at now x.0)) as_before ∙ ap (instantiate 0 A) (trees-later es now inv.grew.keeps types x.0 held.0) in
    let before = subst (λ (l : List Ty). field_trees now found ++ map (instantiate 0 A) (field_trees es l) ≡ all) back inv.are in
    let put = c.in_ok-push-in-Some-2.ensures.items in
    record {
      grew = grew-on inv.grew c.field_with.ensures.terms.grew;
      left_held = held.1;
      left_fits = λ h. (subst (Each (λ (f : Ty). first_misfit A (trees_at es f.0) ≡ None)) back (inv.left_fits h)).1;
      fits = λ h. inv.fits (subst (Each (λ (f : Ty). first_misfit A (trees_at es f.0) ≡ None)) (sym back) (fit, h));
      found_held = subst (TysHeld next) (sym put) (types-more now next k found ty inv.found_held made_held);
      are = subst (λ (l : List Ty). field_trees next l ++ ys ≡ all) (sym put) (one-more-type now next k found ty y ys all inv.found_held is before);
    }

pub returns-in-None-clause-misfits : goal.returns-in-None-clause-misfits
returns-in-None-clause-misfits c = λ h.
    let es = c.args.cx.now.entries in
    let now = c.fields.cx.entries in
    let inv = c.fields.invariant in
    let A = trees_at es c.args.args.0 in
    let x = c.in-Some.next.now in
    let back = c.in-Some.ensures.cases.0 in
    let fit = (subst (Each (λ (f : Ty). first_misfit A (trees_at es f.0) ≡ None)) back (inv.left_fits h)).0 in
    let held = (subst (TysHeld es) back inv.left_held).0 in
    let later : first_misfit (trees_at now c.args.args.0) (trees_at now x.0) ≡ None =
    ap (λ a. first_misfit a (trees_at now x.0)) (trees-later es now inv.grew.keeps args_lists c.args.args.0 c.requires.args)
    ∙ ap (first_misfit A) (trees-later es now inv.grew.keeps types x.0 held) ∙ fit in
    absurd (let z = subst (λ o. is_some o ≡ true) c.in-None.is (c.in_ok-ty.ensures.misfits later) in cc)

use Rattle.std.proofs.Common.{◌≡◌, ◌++◌, ap, sym, ◌∙◌, subst}
use Rattle.type_terms.specs.Promised.Rules.{asked}
use Rattle.type_terms.specs.Promised.Handles.{types, trees_at}
use Rattle.type_terms.specs.Kept.{trees-later}
use Rattle.goal_evaluator.specs.Merge.{if_there}
use Rattle.declarations.specs.Applied.{references_in, TraitRefsHeld}
use Rattle.declarations.proofs.Bounded.{held-more, one-more}
use Rattle.type_terms.proofs.Grown.{grew-on}
use Rattle.built_in_candidates.specs.Unsizing.{traits_asked}
use Rattle.built_in_candidates.proofs.unsize_to_dyn.with_traits_asked.Goals as goal

pub traits-preserved : goal.traits-preserved
traits-preserved c =
    let es = c.args.cx.now.entries in
    let now = c.traits.cx.entries in
    let next = c.type_asked.new.cx.entries in
    let inv = c.traits.invariant in
    let S = trees_at es c.args.ty.0 in
    let found = c.traits.found.items in
    let r = c.in_ok-trait_ref.trait_ref in
    let k = c.type_asked.ensures.terms.grew.keeps in
    let back = c.in-Some.ensures.cases.0 in
    let x = c.in-Some.def_id.now in
    let rest = c.in-Some.others.now in
    let all = references_in es (if_there c.args.first) ++ traits_asked c.args.def_ids.now S in
    let ys = traits_asked rest S in
    let is = c.in_ok-trait_ref.ensures.is ∙ ap (asked x.index) (trees-later es now inv.grew.keeps types c.args.ty.0 c.requires.ty) in
    let before = subst (λ l. references_in now found ++ traits_asked l S ≡ all) back inv.are in
    let put = c.in_ok-push.ensures.items in
    record {
      grew = grew-on inv.grew c.type_asked.ensures.terms.grew;
      found_held = subst (TraitRefsHeld next) (sym put) (held-more now next k found r inv.found_held c.in_ok-trait_ref.ensures.held);
      are = subst (λ l. references_in next l ++ ys ≡ all) (sym put) (one-more now next k found r (asked x.index S) ys all inv.found_held is before);
    }

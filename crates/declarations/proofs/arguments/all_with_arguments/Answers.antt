use Rattle.std.proofs.Common.{◌≡◌, ◌++◌, ap, sym, ◌∙◌, subst, None}
use Rattle.type_terms.specs.Promised.Worlds.{with_args, all_with_args}
use Rattle.type_terms.specs.Terms.{args_lists}
use Rattle.type_terms.specs.Promised.Handles.{trees_at}
use Rattle.term_folds.specs.Arguments.{first_misfit}
use Rattle.type_terms.specs.Kept.{trees-later}
use Rattle.declarations.specs.Items.{reference_in}
use Rattle.declarations.specs.Promised.Elaboration.{Each}
use Rattle.declarations.specs.Applied.{references_in, TraitRefsHeld}
use Rattle.declarations.proofs.Growth.{reference-same}
use Rattle.declarations.proofs.Bounded.{held-more, one-more}
use Rattle.type_terms.proofs.Grown.{grew-on}
use Rattle.declarations.proofs.arguments.all_with_arguments.Goals as goal

pub references-preserved : goal.references-preserved
references-preserved c =
    let es = c.args.cx.now.entries in
    let now = c.references.cx.entries in
    let next = c.with_arguments.new.cx.entries in
    let inv = c.references.invariant in
    let A = trees_at es c.args.args.0 in
    let found = c.references.found.items in
    let r = c.in_ok-instance.instance in
    let k = c.with_arguments.ensures.terms.grew.keeps in
    let back = c.in-Some.ensures.cases.0 in
    let x = c.in-Some.next.now in
    let rest = c.in-Some.others.now in
    let held = subst (TraitRefsHeld es) back inv.left_held in
    let fit = subst (Each (λ b. first_misfit A (trees_at es b.args.0) ≡ None)) back inv.left_fit in
    let all = all_with_args A (references_in es c.args.references.now) in
    let ys = all_with_args A (references_in es rest) in
    let y = with_args A (reference_in es x) in
    let is = c.in_ok-instance.ensures.is ∙ ap (λ a. with_args a (reference_in now x)) (trees-later es now inv.grew.keeps args_lists c.args.args.0 c.requires.args)
    ∙ ap (λ s. with_args A s) (reference-same es now inv.grew.keeps x held.0) in
    let before = subst (λ l. references_in now found ++ all_with_args A (references_in es l) ≡ all) back inv.are in
    let put = c.in_ok-push.ensures.items in
    record {
      grew = grew-on inv.grew c.with_arguments.ensures.terms.grew;
      left_held = held.1;
      left_fit = fit.1;
      found_held = subst (TraitRefsHeld next) (sym put) (held-more now next k found r inv.found_held c.in_ok-instance.ensures.held);
      are = subst (λ l. references_in next l ++ ys ≡ all) (sym put) (one-more now next k found r y ys all inv.found_held is before);
    }

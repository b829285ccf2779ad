use Rattle.std.proofs.Common.{◌≡◌, zero, None, ap, sym, ◌∙◌, subst}
use Rattle.type_terms.specs.Promised.Trees.{◌+++◌, instantiate}
use Rattle.type_terms.specs.Promised.Handles.{ArgsHeld, arg_trees, trees_at}
use Rattle.type_terms.specs.Kinds.{args_trees}
use Rattle.type_terms.specs.Terms.{args_lists}
use Rattle.type_terms.specs.Kept.{args-held-later, arg-trees-later, trees-later}
use Rattle.type_terms.proofs.Grown.{grew-on}
use Rattle.type_terms.proofs.Items.{args-held-push}
use Rattle.term_folds.specs.Arguments.{first_misfit}
use Rattle.overlap_check.proofs.Arguments.{fits-each, one-more-instance}
use Rattle.type_terms.proofs.TreeLaws.{append-none}
use Rattle.type_terms.proofs.ListBasics.{nothing}
use Rattle.overlap_check.proofs.header.instantiate_args.Goals as goal

pub instantiate_arg-requires-clause-fits : goal.instantiate_arg-requires-clause-fits
instantiate_arg-requires-clause-fits c =
    let es = c.args.cx.now.entries in
    let now = c.each.cx.entries in
    let inv = c.each.invariant in
    let A = trees_at es c.args.args.0 in
    let back = c.in-Some.ensures.cases.0 in
    let x = c.in-Some.arg.now in
    let held = subst (ArgsHeld es) back inv.left_held in
    let fit = fits-each A (arg_trees es x) (args_trees es c.in-Some.others.now) (subst (λ l. first_misfit A (args_trees es l) ≡ None) back inv.left_fit) in
    ap (λ I. first_misfit I (arg_trees now x)) (trees-later es now inv.grew.keeps args_lists c.args.args.0 c.requires.args)
    ∙ ap (first_misfit A) (arg-trees-later es now inv.grew.keeps x held.0) ∙ fit.0

pub returns-clause-are : goal.returns-clause-are
returns-clause-are c =
    let es = c.args.cx.now.entries in
    let now = c.each.cx.entries in
    let A = trees_at es c.args.args.0 in
    let found = c.each.found.items in
    let all = instantiate zero A (trees_at es c.args.written.0) in
    sym (append-none (args_trees now found))
    ∙ subst (λ l. args_trees now found +++ instantiate zero A (args_trees es l) ≡ all) (nothing c.each.left.now c.in_default.ensures.cases) c.each.invariant.are

pub each-preserved : goal.each-preserved
each-preserved c =
    let es = c.args.cx.now.entries in
    let now = c.each.cx.entries in
    let next = c.instantiate_arg.new.cx.entries in
    let inv = c.each.invariant in
    let A = trees_at es c.args.args.0 in
    let found = c.each.found.items in
    let a = c.in_ok-next.next in
    let k = c.instantiate_arg.ensures.terms.grew.keeps in
    let back = c.in-Some.ensures.cases.0 in
    let x = c.in-Some.arg.now in
    let rest = c.in-Some.others.now in
    let held = subst (ArgsHeld es) back inv.left_held in
    let fit = fits-each A (arg_trees es x) (args_trees es rest) (subst (λ l. first_misfit A (args_trees es l) ≡ None) back inv.left_fit) in
    let all = instantiate zero A (trees_at es c.args.written.0) in
    let is = c.in_ok-next.ensures.is ∙ ap (λ I. instantiate zero I (arg_trees now x)) (trees-later es now inv.grew.keeps args_lists c.args.args.0 c.requires.args)
    ∙ ap (instantiate zero A) (arg-trees-later es now inv.grew.keeps x held.0) in
    let before = subst (λ l. args_trees now found +++ instantiate zero A (args_trees es l) ≡ all) back inv.are in
    let put = c.in_ok-push.ensures.items in
    record {
      grew = grew-on inv.grew c.instantiate_arg.ensures.terms.grew;
      left_held = held.1;
      left_fit = fit.1;
      found_held = subst (ArgsHeld next) (sym put) (args-held-push next found a (args-held-later now next k found inv.found_held) c.in_ok-next.ensures.held);
      are = subst (λ l. args_trees next l +++ instantiate zero A (args_trees es rest) ≡ all) (sym put) (one-more-instance es now next k A found a x rest all inv.found_held is before);
    }

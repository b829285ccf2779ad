use Rattle.std.proofs.Common.{◌≡◌, ap, sym, ◌∙◌, subst}
use Rattle.type_terms.specs.Promised.Trees.{◌+++◌}
use Rattle.type_terms.specs.Promised.Handles.{ArgsHeld, arg_trees, trees_at}
use Rattle.type_terms.specs.Kinds.{args_trees}
use Rattle.type_terms.specs.Kept.{arg-held-later, args-held-later, arg-trees-later}
use Rattle.type_terms.proofs.Grown.{grew-on}
use Rattle.type_terms.proofs.Items.{args-held-push}
use Rattle.type_terms.proofs.ListBasics.{nothing}
use Rattle.type_terms.proofs.TreeLaws.{append-none}
use Rattle.infer_table.specs.Content.{content}
use Rattle.infer_table.specs.Kept.{content-kept}
use Rattle.infer_table.specs.Solutions.{resolved}
use Rattle.infer_table.proofs.Resolutions.{one-more-argument}
use Rattle.infer_table.proofs.SolutionLaws.{resolved-none}
use Rattle.infer_table.proofs.resolving.resolve_each.Goals as goal

pub resolve_arg-requires-clause-held : goal.resolve_arg-requires-clause-held
resolve_arg-requires-clause-held c =
    let es = c.args.cx.now.entries in
    let held = subst (ArgsHeld es) c.in-Some.ensures.cases.0 c.each.invariant.left_held in
    arg-held-later es c.each.cx.entries c.each.invariant.grew.keeps c.in-Some.arg.now held.0

pub returns-clause-resolved : goal.returns-clause-resolved
returns-clause-resolved c =
    let es = c.args.cx.now.entries in
    let now = c.each.cx.entries in
    let bs = content es c.args.table.now.values in
    let found = c.each.found.items in
    let all = resolved bs (trees_at es c.args.args.0) in
    sym (ap (λ z. args_trees now found +++ z) (resolved-none bs) ∙ append-none (args_trees now found))
    ∙ subst (λ l. args_trees now found +++ resolved bs (args_trees es l) ≡ all) (nothing c.each.left.now c.in_default.ensures.cases) c.each.invariant.are

pub each-preserved : goal.each-preserved
each-preserved c =
    let es = c.args.cx.now.entries in
    let now = c.each.cx.entries in
    let next = c.resolve_arg.new.cx.entries in
    let inv = c.each.invariant in
    let vs = c.args.table.now.values in
    let bs = content es vs in
    let found = c.each.found.items in
    let a = c.in_ok-next.next in
    let k = c.resolve_arg.ensures.terms.grew.keeps in
    let back = c.in-Some.ensures.cases.0 in
    let x = c.in-Some.arg.now in
    let rest = c.in-Some.others.now in
    let held = subst (ArgsHeld es) back inv.left_held in
    let all = resolved bs (trees_at es c.args.args.0) in
    let is = c.in_ok-next.ensures.resolved ∙ ap (λ z. resolved z (arg_trees now x)) (content-kept es now vs inv.grew.keeps c.requires.ready.held)
    ∙ ap (resolved bs) (arg-trees-later es now inv.grew.keeps x held.0) in
    let before = subst (λ l. args_trees now found +++ resolved bs (args_trees es l) ≡ all) back inv.are in
    let put = c.in_ok-push.ensures.items in
    record {
      grew = grew-on inv.grew c.resolve_arg.ensures.terms.grew;
      ready = c.resolve_arg.ensures.ready;
      left_held = held.1;
      found_held = subst (ArgsHeld next) (sym put) (args-held-push next found a (args-held-later now next k found inv.found_held) c.in_ok-next.ensures.held);
      are = subst (λ l. args_trees next l +++ resolved bs (args_trees es rest) ≡ all) (sym put) (one-more-argument bs es now next k found a x rest all inv.found_held is before);
    }

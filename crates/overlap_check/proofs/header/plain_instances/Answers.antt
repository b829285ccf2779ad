use Rattle.std.proofs.Common.{◌≡◌, zero, ap, sym, ◌∙◌, subst}
use Rattle.type_terms.specs.Promised.Trees.{◌+++◌, instantiate}
use Rattle.type_terms.specs.Promised.Handles.{ArgsHeld, trees_at}
use Rattle.type_terms.specs.Kinds.{args_trees}
use Rattle.type_terms.proofs.Items.{args-held-push}
use Rattle.type_terms.proofs.ListBasics.{nothing}
use Rattle.type_terms.proofs.TreeLaws.{append-none}
use Rattle.overlap_check.proofs.Arguments.{one-more-instance}
use Rattle.overlap_check.proofs.header.plain_instances.Goals as goal

pub plain_instance-requires-clause-held : goal.plain_instance-requires-clause-held
plain_instance-requires-clause-held c = (subst (ArgsHeld c.args.cx.now.entries) c.in-Some.ensures.cases.0 c.each.invariant.left_held).0

pub returns-clause-are : goal.returns-clause-are
returns-clause-are c =
    let es = c.args.cx.now.entries in
    let A = trees_at es c.args.args.0 in
    let found = c.each.found.items in
    let all = instantiate zero A (trees_at es c.args.written.0) in
    sym (append-none (args_trees es found))
    ∙ subst (λ l. args_trees es found +++ instantiate zero A (args_trees es l) ≡ all) (nothing c.each.left.now c.in_default.ensures.cases) c.each.invariant.are

pub each-preserved : goal.each-preserved
each-preserved c =
    let es = c.args.cx.now.entries in
    let inv = c.each.invariant in
    let A = trees_at es c.args.args.0 in
    let found = c.each.found.items in
    let a = c.in-Some-plain_instance.instance in
    let back = c.in-Some.ensures.cases.0 in
    let x = c.in-Some.arg.now in
    let rest = c.in-Some.others.now in
    let held = subst (ArgsHeld es) back inv.left_held in
    let all = instantiate zero A (trees_at es c.args.written.0) in
    let before = subst (λ l. args_trees es found +++ instantiate zero A (args_trees es l) ≡ all) back inv.are in
    let put = c.in_ok-push.ensures.items in
    record {
      left_held = held.1;
      found_held = subst (ArgsHeld es) (sym put) (args-held-push es found a inv.found_held c.in-Some-plain_instance.ensures.held);
      are = subst (λ l. args_trees es l +++ instantiate zero A (args_trees es rest) ≡ all) (sym put) (one-more-instance es es es (λ i e h. h) A found a x rest all inv.found_held c.in-Some-plain_instance.ensures.is before);
    }

use Rattle.std.proofs.Common.{ap}
use Rattle.type_terms.specs.Promised.Handles.{trees_at}
use Rattle.type_terms.specs.Promised.Handles.{arg_trees}
use Rattle.infer_table.specs.Values.{sort_of_arg}
use Rattle.candidate_model.specs.Asking.{next_of}
use Rattle.built_in_candidates.proofs.Pairs.{arg-tree}
use Rattle.built_in_candidates.proofs.UnsizeRows.{starts-type}
use Rattle.built_in_candidates.proofs.unsize.unsizing_target.Goals as goal

pub unreachable-requires : goal.unreachable-requires
unreachable-requires c =
    let es = c.args.cx.now.entries in
    let t = next_of (trees_at es c.args.goal.now.goal.predicate.trait_ref.args.0) in
    let x = c.in-Some.argument in
    let first = c.in-Some.ensures in
    let sort = starts-type t (sort_of_arg x) (arg_trees es x) first.1 (arg-tree es c.lawful.ensures x first.0) first.2 c.requires.first in
    let is = c.in-Lifetime.is in
    cc (sort, ap sort_of_arg is)

pub unreachable-requires-in-Const : goal.unreachable-requires-in-Const
unreachable-requires-in-Const c =
    let es = c.args.cx.now.entries in
    let t = next_of (trees_at es c.args.goal.now.goal.predicate.trait_ref.args.0) in
    let x = c.in-Some.argument in
    let first = c.in-Some.ensures in
    let sort = starts-type t (sort_of_arg x) (arg_trees es x) first.1 (arg-tree es c.lawful.ensures x first.0) first.2 c.requires.first in
    let is = c.in-Const.is in
    cc (sort, ap sort_of_arg is)

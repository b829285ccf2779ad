-- The interner grows as the cache is filled, and the type denotes the same trees.
use Rattle.std.proofs.Common.{◌∙◌}
use Rattle.type_terms.specs.Promised.Handles.{types}
use Rattle.type_terms.specs.Kept.{has-later, trees-later}
use Rattle.type_terms.proofs.Grown.{grew-on}
use Rattle.term_folds.proofs.ErrorFacts.{no-value, same-error}
use Rattle.term_folds.proofs.fold.super_fold_ty.Goals as goal

pub returns-in_err-memo-clause-grew : goal.returns-in_err-memo-clause-grew
returns-in_err-memo-clause-grew g c = c.begin.ensures.grew

pub returns-in_err-memo-clause-folded : goal.returns-in_err-memo-clause-folded
returns-in_err-memo-clause-folded g c = no-value _ _ c.from_residual.result c.from_residual.ensures.1

pub returns-in_err-memo-clause-failed : goal.returns-in_err-memo-clause-failed
returns-in_err-memo-clause-failed g c = same-error _ _ c.from_residual.result c.from_residual.ensures.1 c.in_err-memo.ensures.failed

pub super_walk_ty-requires-clause-ready : goal.super_walk_ty-requires-clause-ready
super_walk_ty-requires-clause-ready g c = g.met.F.FallibleTypeFolder.ready_kept c.args.folder.now _ _ c.begin.ensures.grew.keeps c.requires.ready

pub super_walk_ty-requires-clause-known : goal.super_walk_ty-requires-clause-known
super_walk_ty-requires-clause-known g c = c.in_ok-memo.ensures.known

pub super_walk_ty-requires-clause-held : goal.super_walk_ty-requires-clause-held
super_walk_ty-requires-clause-held g c = has-later _ _ c.begin.ensures.grew.keeps types _ c.requires.held

pub returns-clause-grew : goal.returns-clause-grew
returns-clause-grew g c = grew-on c.begin.ensures.grew c.super_walk_ty.ensures.grew

pub returns-clause-folded : goal.returns-clause-folded
returns-clause-folded g c =
    let es = c.args.cx.now.entries in
    let es1 = c.begin.new.cx.entries in
    let law = g.met.F.FallibleTypeFolder.action_kept c.args.folder.now es es1 c.begin.ensures.grew.keeps c.requires.ready in
    let same = trees-later es es1 c.begin.ensures.grew.keeps types c.args.ty.0 c.requires.held in
    rw (law, same) at c.super_walk_ty.ensures.folded

pub returns-clause-failed : goal.returns-clause-failed
returns-clause-failed g c = c.super_walk_ty.ensures.failed

use Rattle.std.proofs.Common.{not, ◌&&◌, ap, sym}
use Rattle.std.specs.Prelude.{◌==◌}
use Rattle.type_terms.specs.Promised.Rules.{unsize}
use Rattle.type_terms.specs.Promised.Handles.{types, trees_at}
use Rattle.type_terms.specs.Kept.{trees-is}
use Rattle.candidate_assembly.proofs.Dyns.{dyn-first, no-dyn-first}
use Rattle.candidate_assembly.proofs.assembly.misc_is_bound.Goals as goal

pub returns-in-Some : goal.returns-in-Some
returns-in-Some c =
    let es = c.args.cx.now.entries in
    let g = c.args.goal.now in
    let T = trees_at es g.goal.predicate.trait_ref.args.0 in
    let S = trees_at es c.self_ty.result.0 in
    let first = trees-is es types c.self_ty.result.0 _ c.self_ty.ensures.is in
    ap (λ b. b && not (g.goal.predicate.trait_ref.def_id.index == unsize)) (sym (dyn-first T S _ c.requires.first first c.in-Some.ensures.3))

pub returns-in-None : goal.returns-in-None
returns-in-None c =
    let es = c.args.cx.now.entries in
    let g = c.args.goal.now in
    let T = trees_at es g.goal.predicate.trait_ref.args.0 in
    let S = trees_at es c.self_ty.result.0 in
    let first = trees-is es types c.self_ty.result.0 _ c.self_ty.ensures.is in
    ap (λ b. b && not (g.goal.predicate.trait_ref.def_id.index == unsize)) (sym (no-dyn-first T S c.requires.first first c.in-None.ensures))

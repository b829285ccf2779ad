use Rattle.std.proofs.Common.{sym, ap, ◌∙◌}
use Rattle.type_terms.specs.Promised.Handles.{trees_at, types}
use Rattle.type_terms.specs.Kept.{trees-is}
use Rattle.declarations.specs.Heads.{head_of}
use Rattle.declarations.proofs.Pushed.{head-of-first}
use Rattle.pair_checks.proofs.ByTrait.{not-own, not-blanket}
use Rattle.pair_checks.proofs.by_trait.is_own_blanket.Goals as goal

pub returns-then-not-is_local : goal.returns-then-not-is_local
returns-then-not-is_local c = λ _. not-own c.args.cx.now.entries c.args.def.now c.args.declarations.now.local (sym c.is_local.ensures ∙ c.if-not-is_local.true)

pub returns-in-Some : goal.returns-in-Some
returns-in-Some c = λ _.
    let es = c.args.cx.now.entries in
    let first = trees-is es types c.self_ty.result.0 _ c.self_ty.ensures.is in
    not-blanket es c.args.def.now c.args.declarations.now.local c.in-Some.field-0 (c.in-Some.ensures ∙ ap head_of first ∙ head-of-first (trees_at es c.args.def.now.header.args.0) c.requires.begins)

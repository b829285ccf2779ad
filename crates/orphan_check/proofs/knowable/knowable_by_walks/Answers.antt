use Rattle.std.proofs.Common.{inl, inr, sym, subst, ◌≡◌, true, false, rules, Err}
use Rattle.std.specs.Option.{is_some}
use Rattle.type_terms.specs.Promised.Handles.{trees_at}
use Rattle.orphan_check.specs.declared.errors.InCrate.TheVariants.{Local, Remote}
use Rattle.orphan_check.specs.declared.errors.OrphanCheckMode.TheVariants.{Proper}
use Rattle.orphan_check.specs.Steps.{reading, steps}
use Rattle.orphan_check.specs.Walks.{is_local}
use Rattle.orphan_check.specs.Knowing.{IsKnowableBy}
use Rattle.orphan_check.proofs.Ending.{none-decides, local-passes, not-local, own-error}
use Rattle.orphan_check.proofs.knowable.knowable_by_walks.Goals as goal

pub returns-then-trait_ref_is_local_or_fundamental : goal.returns-then-trait_ref_is_local_or_fundamental
returns-then-trait_ref_is_local_or_fundamental g c =
    let es = c.args.context.now.cx.now.entries in
    let rs = steps (reading es c.args.context.now.decls.now c.args.context.now.infcx.now (g.N.Normalize.answers c.args.normalize.now) Remote) c.args.limit (trees_at es c.args.trait_ref.args.0) in
    let e : is_some c.in_ok-open.open ≡ false = search rules in
    (none-decides rs c.in_ok-open.open e c.in_ok-open.ensures, inl (sym (c.if-trait_ref_is_local_or_fundamental.ensures es)))

pub returns-then-is_local : goal.returns-then-is_local
returns-then-is_local g c =
    let es = c.args.context.now.cx.now.entries in
    let rs = steps (reading es c.args.context.now.decls.now c.args.context.now.infcx.now (g.N.Normalize.answers c.args.normalize.now) Remote) c.args.limit (trees_at es c.args.trait_ref.args.0) in
    let ls = steps (reading es c.args.context.now.decls.now c.args.context.now.infcx.now (g.N.Normalize.answers c.args.normalize.now) (Local Proper)) c.args.limit (trees_at es c.args.trait_ref.args.0) in
    let e : is_some c.in_ok-open.open ≡ false = search rules in
    let f : is_local c.in_ok-own.own ≡ true = search rules in
    (none-decides rs c.in_ok-open.open e c.in_ok-open.ensures, inr (local-passes Proper ls c.in_ok-own.own f c.in_ok-own.ensures))

pub returns-else-is_local : goal.returns-else-is_local
returns-else-is_local g c =
    let es = c.args.context.now.cx.now.entries in
    let rs = steps (reading es c.args.context.now.decls.now c.args.context.now.infcx.now (g.N.Normalize.answers c.args.normalize.now) Remote) c.args.limit (trees_at es c.args.trait_ref.args.0) in
    let ls = steps (reading es c.args.context.now.decls.now c.args.context.now.infcx.now (g.N.Normalize.answers c.args.normalize.now) (Local Proper)) c.args.limit (trees_at es c.args.trait_ref.args.0) in
    let e : is_some c.in_ok-open.open ≡ false = search rules in
    let f : is_local c.in_ok-own.own ≡ false = search rules in
    (none-decides rs c.in_ok-open.open e c.in_ok-open.ensures, sym (c.if-trait_ref_is_local_or_fundamental.ensures es), not-local ls c.in_ok-own.own f c.in_ok-own.ensures)

pub returns-in_err-own : goal.returns-in_err-own
returns-in_err-own g c =
    let es = c.args.context.now.cx.now.entries in
    let rs = steps (reading es c.args.context.now.decls.now c.args.context.now.infcx.now (g.N.Normalize.answers c.args.normalize.now) Remote) c.args.limit (trees_at es c.args.trait_ref.args.0) in
    let ls = steps (reading es c.args.context.now.decls.now c.args.context.now.infcx.now (g.N.Normalize.answers c.args.normalize.now) (Local Proper)) c.args.limit (trees_at es c.args.trait_ref.args.0) in
    let e : is_some c.in_ok-open.open ≡ false = search rules in
    let q : c.from_residual-in_err-own.result ≡ Err c.in_err-own.field-0.0 = search rules in
    subst (IsKnowableBy es c.args.context.now.decls.now c.args.context.now.infcx.now (g.N.Normalize.answers c.args.normalize.now) c.args.limit c.args.trait_ref) (sym q)
    (own-error (Local Proper) _ rs ls c.in_err-own.field-0.0 (none-decides rs c.in_ok-open.open e c.in_ok-open.ensures) (sym (c.if-trait_ref_is_local_or_fundamental.ensures es)) c.in_err-own.ensures)

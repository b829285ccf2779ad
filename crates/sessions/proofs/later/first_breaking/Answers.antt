use Rattle.std.proofs.Common.{◌≡◌, ◌+◌, suc, Some, sym, ap, ◌∙◌, subst, arith, map}
use Rattle.std.proofs.lemmas.Option.{slice_get-get_or}
use Rattle.declarations.specs.Items.{declared}
use Rattle.sessions.specs.Later.{header_in}
use Rattle.sessions.proofs.LaterChecks.{AddableUpTo, one-addable, first-refused}
use Rattle.sessions.proofs.later.first_breaking.Goals as goal

pub returns-then-not-is_addable : goal.returns-then-not-is_addable
returns-then-not-is_addable c =
    let es = c.args.cx.now.entries in
    let d = c.args.declarations.now in
    let def = c.index-impls-index.result in
    first-refused (declared es d) d.local es c.args.impls.now c.loop-index.index def (slice_get-get_or c.args.impls.now c.loop-index.index def c.loop-index-test.true ∙ ap Some (sym c.index-impls-index.is))
    (sym c.is_addable.ensures ∙ c.if-not-is_addable.true) c.loop-index.invariant

pub loop-index-preserved : goal.loop-index-preserved
loop-index-preserved c =
    let es = c.args.cx.now.entries in
    let d = c.args.declarations.now in
    let def = c.index-impls-index.result in
    let more : suc c.loop-index.index ≡ c.loop-index.index + 1 = omega arith in
    subst (AddableUpTo (declared es d) d.local (map (header_in es) c.args.impls.now)) more
    (one-addable (declared es d) d.local es c.args.impls.now c.loop-index.index def (slice_get-get_or c.args.impls.now c.loop-index.index def c.loop-index-test.true ∙ ap Some (sym c.index-impls-index.is))
    (sym c.is_addable.ensures ∙ c.if-not-is_addable.false) c.loop-index.invariant)

use Rattle.std.proofs.Common.{◌∙◌, sym, arith}
use Rattle.solver_graph.proofs.Checks.{silent-by, silent-says, certainty-is, kinds-same, kinds-differ}
use Rattle.solver_graph.proofs.silent.is_silent.Goals as goal

pub returns-then-ne-2 : goal.returns-then-ne-2
returns-then-ne-2 c =
    let x = c.args in (
      λ h. absurd (cc),
      λ e.
          absurd (kinds-differ c.as_slice.result.now x.kinds.now c.ne-2.result c.ne-2.ensures c.if-ne-2.true (c.as_slice.ensures.value ∙ (silent-says x.cx.now.entries x.response.now x.kinds.now x.certainty e).1)),
    )

pub returns-then-len-kinds : goal.returns-then-len-kinds
returns-then-len-kinds c =
    let x = c.args in
    let whole = x.response.now.var_values.ok.0 in (
      λ h. absurd (cc),
      λ e. let said = (silent-says x.cx.now.entries x.response.now x.kinds.now x.certainty e).2 in absurd (c.if-len-kinds.true (omega (arith, c.len.ensures, whole, said))),
    )

pub returns : goal.returns
returns c =
    let x = c.args in
    let whole = x.response.now.var_values.ok.0 in
    let same = c.if-len-kinds.false in
    let sure = certainty-is x.response.now.certainty x.certainty c.ne.result c.ne.ensures c.if-ne.false in
    let kinds = sym c.as_slice.ensures.value ∙ kinds-same c.as_slice.result.now x.kinds.now c.ne-2.result c.ne-2.ensures c.if-ne-2.false in (
      λ h. silent-by x.cx.now.entries x.response.now x.kinds.now x.certainty c.requires.fits sure kinds (omega (arith, c.len.ensures, whole, same)) (sym c.has_no_inference_or_external_constraints.ensures ∙ h),
      λ e. c.has_no_inference_or_external_constraints.ensures ∙ (silent-says x.cx.now.entries x.response.now x.kinds.now x.certainty e).3,
    )

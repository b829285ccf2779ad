use Rattle.std.proofs.Common.{◌∙◌, ap, sym, subst, Err}
use Rattle.std.proofs.lemmas.Result.{err_from_is_err_and}
use Rattle.type_terms.specs.Promised.Handles.{trees_at}
use Rattle.orphan_check.specs.Steps.{steps}
use Rattle.orphan_check.specs.Walks.{reads}
use Rattle.orphan_check.specs.Answers.{IsOrphanAnswer}
use Rattle.orphan_check.proofs.Ending.{second-refused}
use Rattle.orphan_check.proofs.walk.Walk.orphan_check.Goals as goal

pub returns-in_err-local_ty-in-Local-in_crate-clause-answers : goal.returns-in_err-local_ty-in-Local-in_crate-clause-answers
returns-in_err-local_ty-in-Local-in_crate-clause-answers g c =
    let es = c.args.self.now.context.cx.now.entries in
    let ss = steps (reads g.N.Normalize.answers c.args.self.now) c.args.limit (trees_at es c.args.args.0) in
    let e = err_from_is_err_and c.from_residual-in_err-local_ty-in-Local-in_crate.result c.from_residual-in_err-local_ty-in-Local-in_crate.ensures.1 in
    subst (λ z. IsOrphanAnswer es c.args.self.now.in_crate ss z) (sym (e.1 ∙ ap Err e.2))
    (second-refused es c.args.self.now.in_crate c.in-Local-in_crate.mode ss c.in_ok-first_end.field-0 c.in-Uncovered.uncovered c.in_err-local_ty-in-Local-in_crate.field-0.0 c.in-Local-in_crate.is c.in-Uncovered.is c.in_ok-first_end.ensures.ends c.in_err-local_ty-in-Local-in_crate.ensures.ends)

use Rattle.std.proofs.Common.{◌≡◌, sym, ◌∙◌, ap, subst, Some}
use Rattle.std.specs.Prelude.{IfSome}
use Rattle.infer_table.specs.Responses.{answer_trees}
use Rattle.goal_evaluator.specs.Merge.{merge_or_flounder}
use Rattle.goal_evaluator.specs.TableAnswers.{IsWellFormed}
use Rattle.goal_evaluator.specs.TableOperations.{begin}
use Rattle.goal_evaluator.specs.Tables.{frame_tables}
use Rattle.goal_frames.specs.Handlers.{same_answer, applies_always}
use Rattle.goal_frames.specs.Merges.{responses_of, merge_of}
use Rattle.goal_evaluator.specs.StepReadings.{result_read}
use Rattle.goal_frames.proofs.Collecting.{collected-held, collected-fit, collected-trees, one-end}
use Rattle.goal_frames.proofs.Merging.{answer-fits}
use Rattle.candidate_assembly.specs.Merging.{from_sources}
use Rattle.candidate_assembly.proofs.Collected.{from-held, from-fits}
use Rattle.candidate_assembly.proofs.merge.merge_from.Goals as goal

pub merged-requires-clause-held : goal.merged-requires-clause-held
merged-requires-clause-held c =
    rw c.deref.ensures.value (collected-held c.args.cx.now.entries (from_sources c.args.sources c.args.done.now) c.in_ok-responses.responses.items c.in_ok-responses.ensures
    (from-held c.args.cx.now.entries c.args.sources c.args.done.now c.requires.held))

pub merged-requires-clause-fits : goal.merged-requires-clause-fits
merged-requires-clause-fits c =
    rw c.deref.ensures.value (collected-fit c.args.cx.now.entries (from_sources c.args.sources c.args.done.now) c.in_ok-responses.responses.items c.in_ok-responses.ensures
    (from-fits c.args.cx.now.entries c.args.sources c.args.done.now c.requires.fits))

pub returns-in-Some-clause-fits : goal.returns-in-Some-clause-fits
returns-in-Some-clause-fits c =
    let es = c.args.cx.now.entries in
    let new = c.merged.new.cx.entries in
    let rs = c.in_ok-responses.responses.items in
    let is : Some (answer_trees new c.in-Some.response) ≡ merge_of es c.args.variables.now rs =
    ap (result_read new) (sym c.in-Some.is) ∙ c.in_ok-response.ensures.is ∙ ap (merge_of es c.args.variables.now) c.deref.ensures.value in
    subst (λ z. IfSome z IsWellFormed) (sym is)
    (answer-fits es c.args.variables.now rs (collected-fit es (from_sources c.args.sources c.args.done.now) rs c.in_ok-responses.ensures (from-fits es c.args.sources c.args.done.now c.requires.fits)))

pub returns-in-Some-clause-is : goal.returns-in-Some-clause-is
returns-in-Some-clause-is c = λ kind.
    let es = c.args.cx.now.entries in
    let new = c.merged.new.cx.entries in
    let rs = c.in_ok-responses.responses.items in
    let done = from_sources c.args.sources c.args.done.now in
    one-end (answer_trees new c.in-Some.response) (merge_of es c.args.variables.now (responses_of done))
    c.new.result.items
    (ap (result_read new) (sym c.in-Some.is) ∙ c.in_ok-response.ensures.is ∙ ap (merge_of es c.args.variables.now) c.deref.ensures.value
    ∙ ap (merge_or_flounder frame_tables applies_always same_answer (begin c.args.variables.now)) (collected-trees es rs (responses_of done) c.in_ok-responses.ensures))
    c.new.ensures.items

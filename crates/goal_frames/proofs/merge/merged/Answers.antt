use Rattle.std.proofs.Common.{map, sym, ◌∙◌, ap, option_map}
use Rattle.infer_table.specs.Responses.{answer_trees}
use Rattle.goal_evaluator.specs.Merge.{merge_by, flounder}
use Rattle.goal_evaluator.specs.Responses.{content}
use Rattle.goal_evaluator.proofs.Shortages.{kind-at-limit}
use Rattle.goal_evaluator.specs.TableOperations.{begin}
use Rattle.goal_evaluator.specs.Tables.{frame_tables}
use Rattle.goal_frames.specs.Handlers.{same_answer, applies_always}
use Rattle.goal_evaluator.specs.StepReadings.{result_read}
use Rattle.goal_frames.proofs.Merging.{response_of, response-content, merged-held, merged-trees, taken, floundered-result}
use Rattle.goal_frames.proofs.merge.merged.Goals as goal

pub returns-in-Some-clause-held : goal.returns-in-Some-clause-held
returns-in-Some-clause-held c =
    merged-held c.args.cx.now.entries c.lawful.ensures c.args.responses.now c.requires.held c.requires.fits c.in-Some.response
    (ap (λ o. option_map content (response_of o)) (sym c.in-Some.is) ∙ response-content c.in_ok-merged.merged ∙ c.in_ok-merged.ensures.response)

pub returns-in-Some-clause-is : goal.returns-in-Some-clause-is
returns-in-Some-clause-is c =
    let es = c.args.cx.now.entries in
    let rs = c.args.responses.now in
    let merged = c.in_ok-merged.merged in
    taken (merge_by applies_always same_answer (map (answer_trees es) rs)) (flounder frame_tables (begin c.args.variables.now) (map (answer_trees es) rs)) (answer_trees es c.in-Some.response)
    (ap (λ o. result_read es (response_of o)) (sym c.in-Some.is) ∙ merged-trees es c.lawful.ensures rs c.requires.held c.requires.fits (response_of merged) (response-content merged ∙ c.in_ok-merged.ensures.response))

pub returns-clause-is : goal.returns-clause-is
returns-clause-is c =
    let f = c.flounder.ensures in
    let merged = c.in_ok-merged.merged in
    floundered-result c.args.cx.now.entries c.flounder.new.cx.entries c.lawful.ensures c.args.variables.now c.args.responses.now c.requires.held c.requires.fits (response_of merged)
    (response-content merged ∙ c.in_ok-merged.ensures.response) (ap response_of c.in_default.is) c.flounder.result f.none f.variables f.certainty f.constraints f.values

pub returns-clause-terms : goal.returns-clause-terms
returns-clause-terms c = record {
  grew = c.flounder.ensures.grew;
  full = kind-at-limit c.flounder.new.cx.entries c.flounder.new.cx.limit c.flounder.result c.flounder.ensures.full;
}

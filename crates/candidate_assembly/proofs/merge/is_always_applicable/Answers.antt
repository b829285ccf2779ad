use Rattle.std.proofs.Common.{◌&&◌, sym, ◌∙◌, ap}
use Rattle.infer_table.specs.Certainties.{is_certain}
use Rattle.goal_evaluator.specs.Responses.{says_nothing}
use Rattle.goal_frames.proofs.Merging.{always-is}
use Rattle.candidate_assembly.proofs.merge.is_always_applicable.Goals as goal

pub returns-in-Yes : goal.returns-in-Yes
returns-in-Yes c =
    let es = c.args.cx.now.entries in
    let r = c.args.response.now in
    c.has_no_inference_or_external_constraints.ensures ∙ ap (λ z. is_certain z && says_nothing es r) (sym c.in-Yes.is) ∙ always-is es r c.requires.fits

pub returns-in-Maybe : goal.returns-in-Maybe
returns-in-Maybe c =
    let es = c.args.cx.now.entries in
    let r = c.args.response.now in
    ap (λ z. is_certain z && says_nothing es r) (sym c.in-Maybe.is) ∙ always-is es r c.requires.fits

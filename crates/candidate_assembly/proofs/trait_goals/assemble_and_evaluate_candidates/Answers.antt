use Rattle.std.proofs.Common.{if◌then◌else◌, sym, ◌∙◌, ap, Some, None}
use Rattle.std.proofs.lemmas.Result.{IfOk-weaker}
use Rattle.infer_table.specs.Inputs.{form_of}
use Rattle.candidate_assembly.specs.Fitting.{solving_of}
use Rattle.built_in_candidates.specs.Goals.{asked_of}
use Rattle.candidate_assembly.specs.Sections.{next_candidate}
use Rattle.candidate_assembly.specs.Solving.{meaning_for}
use Rattle.candidate_assembly.proofs.trait_goals.assemble_and_evaluate_candidates.Goals as goal

pub decided_candidate-requires-clause-decided : goal.decided_candidate-requires-clause-decided
decided_candidate-requires-clause-decided c =
    let es = c.args.cx.now.entries in
    record {
      ready = c.requires.ready;
      goal = c.requires.goal;
      is = c.requires.decides.is ∙ ap (λ b. if b then Some (asked_of es c.args.goal.now) else None) c.if-decided.true;
      fits = c.requires.decides.fits c.if-decided.true;
    }

pub returns-then-decided-clause-is : goal.returns-then-decided-clause-is
returns-then-decided-clause-is c =
    let es = c.args.cx.now.entries in
    let g = c.args.goal.now in
    let m = meaning_for (solving_of es c.args.declarations.now) (form_of es g) in
    IfOk-weaker c.decided_candidate.result _ _
    (λ o p seen s t.
    p seen s t ∙ ap (λ x. next_candidate m g.mode x seen) (sym (c.requires.decides.is ∙ ap (λ b. if b then Some (asked_of es g) else None) c.if-decided.true))) c.decided_candidate.ensures.is

pub returns-else-decided-clause-is : goal.returns-else-decided-clause-is
returns-else-decided-clause-is c = λ seen s t.
    let es = c.args.cx.now.entries in
    let g = c.args.goal.now in
    let m = meaning_for (solving_of es c.args.declarations.now) (form_of es g) in
    c.undecided_candidate.ensures.is es es _ seen s ∙ ap (λ x. next_candidate m g.mode x seen) (sym (c.requires.decides.is ∙ ap (λ b. if b then Some (asked_of es g) else None) c.if-decided.false))

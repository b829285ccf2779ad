use Rattle.std.proofs.Common.{◌∙◌, ap}
use Rattle.std.specs.List.{slice_get}
use Rattle.std.proofs.lemmas.Result.{IfOk-weaker}
use Rattle.declarations.specs.Items.{written}
use Rattle.candidate_model.specs.Candidates.{built_in}
use Rattle.candidate_assembly.specs.Counted.{count_from}
use Rattle.built_in_candidates.specs.Goals.{asked_of}
use Rattle.candidate_assembly.specs.Sections.{is_built_in, misc_is_bound}
use Rattle.candidate_assembly.proofs.Counted.{counted}
use Rattle.candidate_assembly.proofs.Walking.{plain-heads}
use Rattle.candidate_assembly.proofs.assembly.assemble_builtin_impl_candidates.Goals as goal

pub consider_builtin_candidate-requires-clause-impls : goal.consider_builtin_candidate-requires-clause-impls
consider_builtin_candidate-requires-clause-impls c = plain-heads c.args.cx.now.entries c.args.declarations.now.impls c.requires.impls

pub returns-clause-is : goal.returns-clause-is
returns-clause-is c =
    let es = c.args.cx.now.entries in
    let V = written es c.args.declarations.now in
    let a = asked_of es c.args.goal.now in
    let done = c.args.done.now in
    IfOk-weaker c.consider_builtin_candidate.result _ _
    (λ o h seen s.
    h ∙ ap (slice_get (built_in V a))
    (c.considered_from-place.ensures ∙ ap (λ b. count_from (is_built_in b) done) c.misc_is_bound.ensures ∙ counted (is_built_in (misc_is_bound a)) es done seen s))
    c.consider_builtin_candidate.ensures.is

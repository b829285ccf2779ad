use Rattle.std.proofs.Common.{◌≡◌, sym, ◌∙◌, ap, option_map}
use Rattle.std.proofs.lemmas.Result.{IfOk-weaker}
use Rattle.type_terms.proofs.Grown.{grew-on}
use Rattle.declarations.specs.Items.{written}
use Rattle.built_in_candidates.specs.Goals.{asked_of, candidate_of}
use Rattle.built_in_candidates.proofs.Noted.{noted-later}
use Rattle.candidate_assembly.proofs.DecidedGoals.{decided-later, past-later, walk-in, first-of, second-of, next_impl, next_bound}
use Rattle.candidate_assembly.proofs.trait_goals.late_candidate.Goals as goal

pub assemble_object_bound_candidates-requires-clause-decided : goal.assemble_object_bound_candidates-requires-clause-decided
assemble_object_bound_candidates-requires-clause-decided c =
    decided-later c.args.cx.now.entries c.assemble_impl_candidates.new.cx.entries c.in_ok-candidate.ensures.terms.grew.keeps c.args.declarations.now c.args.goal.now c.requires.decided

pub assemble_object_bound_candidates-requires-clause-notes : goal.assemble_object_bound_candidates-requires-clause-notes
assemble_object_bound_candidates-requires-clause-notes c =
    noted-later c.args.cx.now.entries c.assemble_impl_candidates.new.cx.entries c.args.declarations.now c.args.notes.now.items c.in_ok-candidate.ensures.terms.grew.keeps c.requires.notes

pub returns-in-Some-clause-notes : goal.returns-in-Some-clause-notes
returns-in-Some-clause-notes c =
    noted-later c.args.cx.now.entries c.assemble_impl_candidates.new.cx.entries c.args.declarations.now c.args.notes.now.items c.in_ok-candidate.ensures.terms.grew.keeps c.requires.notes

pub returns-in-None-clause-terms : goal.returns-in-None-clause-terms
returns-in-None-clause-terms c = record {
  grew = grew-on c.in_ok-candidate.ensures.terms.grew c.assemble_object_bound_candidates.ensures.terms.grew;
  full = c.assemble_object_bound_candidates.ensures.terms.full;
}

pub returns-in-Some-clause-is : goal.returns-in-Some-clause-is
returns-in-Some-clause-is c = λ seen s t.
    let es = c.args.cx.now.entries in
    let d = c.args.declarations.now in
    let V = written es d in
    let a = asked_of es c.args.goal.now in
    let new = c.assemble_impl_candidates.new.cx.entries in
    first-of (candidate_of V a.reference.trait new c.in-Some.candidate) (next_impl V a seen) (next_bound V a seen)
    (ap (option_map (candidate_of V a.reference.trait new)) (sym c.in-Some.is) ∙ c.in_ok-candidate.ensures.is seen s ∙ walk-in es d c.args.goal.now c.requires.decided c.assemble_impl_candidates.ensures.rises c.args.done.now seen s t)

pub returns-in-None-clause-is : goal.returns-in-None-clause-is
returns-in-None-clause-is c =
    let es = c.args.cx.now.entries in
    let d = c.args.declarations.now in
    let V = written es d in
    let a = asked_of es c.args.goal.now in
    let mid = c.assemble_impl_candidates.new.cx.entries in
    let new = c.assemble_object_bound_candidates.new.cx.entries in
    IfOk-weaker c.assemble_object_bound_candidates.result _ _
    (λ o p. λ seen s t.
    second-of (next_impl V a seen) (next_bound V a seen) (option_map (candidate_of V a.reference.trait new) o)
    (ap (option_map (candidate_of V a.reference.trait mid)) (sym c.in-None.is) ∙ c.in_ok-candidate.ensures.is seen s ∙ walk-in es d c.args.goal.now c.requires.decided c.assemble_impl_candidates.ensures.rises c.args.done.now seen s t)
    (past-later es mid c.in_ok-candidate.ensures.terms.grew.keeps d c.args.goal.now c.requires.decided c.args.done.now c.requires.done (λ W b z. option_map (candidate_of W b.reference.trait new) o ≡ next_bound W b z) p seen s))
    c.assemble_object_bound_candidates.ensures.is

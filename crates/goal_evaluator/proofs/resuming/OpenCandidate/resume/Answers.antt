use Rattle.std.proofs.Common.{◌≡◌, ℕ, ◌+◌, length, ◌∷◌, [], map, option_map, refl, sym, ◌∙◌, ap, subst}
use Rattle.type_terms.specs.Promised.Handles.{Keeps}
use Rattle.type_terms.specs.Kept.{args-held-later}
use Rattle.infer_table.specs.Responses.{ResponseHeld, answer_trees}
use Rattle.goal_evaluator.specs.Context.{nested_goal}
use Rattle.goal_evaluator.specs.Readings.{ResultHeld}
use Rattle.goal_evaluator.specs.Runs.{with_response}
use Rattle.goal_evaluator.specs.OpenCandidates.{after_reply, StandsAt, is_definite, most_questions, questions_left, AsksAtMost}
use Rattle.goal_evaluator.proofs.Contexts.{nested-later}
use Rattle.goal_evaluator.specs.declared.resuming.CandidateStep.{CandidateStep}
use Rattle.goal_evaluator.proofs.OpenCandidates.{left-held, resumed}
use Rattle.goal_evaluator.proofs.OpenQuestions.{most-falls, one-more-left, ok-more, asks-fewer, fewer-than}
use Rattle.type_terms.proofs.Grown.{grew-on}
use Rattle.goal_evaluator.proofs.resuming.OpenCandidate.resume.Goals as goal

pub judge-requires : goal.judge-requires
judge-requires c =
    let es = c.args.cx.now.entries in
    let hr : ResponseHeld es c.in-Some.response = subst (ResultHeld es) c.in-Some.is c.requires.reply in
    args-held-later es c.apply_response.new.cx.entries c.apply_response.ensures.terms.grew.keeps c.in-Some.response.var_values.items hr.values

pub go_on-requires-clause-evaluation : goal.go_on-requires-clause-evaluation
go_on-requires-clause-evaluation c =
    record {
      table = c.apply_response.ensures.ready;
      own = args-held-later c.args.cx.now.entries c.apply_response.new.cx.entries c.apply_response.ensures.terms.grew.keeps c.args.self.evaluation.own.items c.requires.held.evaluation.own;
    }

pub go_on-requires-clause-left : goal.go_on-requires-clause-left
go_on-requires-clause-left c =
    let es = c.args.cx.now.entries in
    let es2 = c.apply_response.new.cx.entries in
    let k = c.apply_response.ensures.terms.grew.keeps in
    let o = c.args.self in
    left-held es2 o c.in_ok-round.round (is_definite es2 c.in-Some.response) (is_definite es2 c.in-Some.response) refl c.in_ok-round.ensures.dropped c.in_ok-round.ensures.left
    (nested-later es es2 k (map nested_goal o.round.left.items) c.requires.held.left) (nested-later es es2 k (nested_goal o.goal ∷ []) (c.requires.held.goal, tt)).0

pub go_on-requires-clause-goals : goal.go_on-requires-clause-goals
go_on-requires-clause-goals c = nested-later c.args.cx.now.entries c.apply_response.new.cx.entries c.apply_response.ensures.terms.grew.keeps (map nested_goal c.args.self.goals.items) c.requires.held.goals

pub returns-clause-terms : goal.returns-clause-terms
returns-clause-terms c = record {
  grew = grew-on c.apply_response.ensures.terms.grew c.go_on.ensures.terms.grew;
  full = c.go_on.ensures.terms.full;
}

pub returns-clause-stands : goal.returns-clause-stands
returns-clause-stands c =
    let es = c.args.cx.now.entries in
    let es2 = c.apply_response.new.cx.entries in
    let k : Keeps es es2 = c.apply_response.ensures.terms.grew.keeps in
    let o = c.args.self in
    let r = c.in-Some.response in
    let T = c.apply_response.new.table in
    let hr : ResponseHeld es r = subst (ResultHeld es) c.in-Some.is c.requires.reply in
    let put = ap (λ vs. with_response es o.evaluation.table vs r) (sym c.deref.ensures.value) ∙ c.in_ok-apply_response.ensures.applied in
    let e = c.in_ok-round.ensures in
    subst (λ s. StandsAt c.go_on.new.cx.entries s c.go_on.result)
    (sym (ap (λ x. after_reply es o (option_map (answer_trees es) x)) c.in-Some.is
    ∙ resumed es es2 k o c.requires.held r hr T put c.in_ok-round.round (is_definite es2 r) refl e.dropped e.left e.changed e.certainty))
    c.go_on.ensures.stands

pub returns-clause-fewer : goal.returns-clause-fewer
returns-clause-fewer c =
    let o = c.args.self in
    let round = c.in_ok-round.round in
    let d = is_definite c.apply_response.new.cx.entries c.in-Some.response in
    let most = most_questions o.rounds_left (length round.left.items) (length o.goals.items) in
    let falls = most-falls o.rounds_left (length o.round.left.items) (length round.left.items) (length o.goals.items) (one-more-left o round d d refl c.in_ok-round.ensures.dropped c.in_ok-round.ensures.left) in
    ok-more (AsksAtMost most) (λ (s : CandidateStep). (n : ℕ) → n + 1 ≡ questions_left o → AsksAtMost n s)
    (λ s a n e. asks-fewer most n (fewer-than most n (questions_left o) falls e) s a) c.go_on.result c.go_on.ensures.most

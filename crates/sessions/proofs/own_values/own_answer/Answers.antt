use Rattle.std.proofs.Common.{rules, ◌≡◌, ◌&&◌, Bool, true, false, not, List, map, refl, sym, ◌∙◌, subst, inl, inr}
use Rattle.type_terms.specs.Promised.Handles.{arg_trees, trees_at}
use Rattle.type_terms.specs.Promised.Trees.{some_node}
use Rattle.type_terms.proofs.Made.{left, right, false-true}
use Rattle.term_folds.specs.declared.predicate.TraitRef.{TraitRef}
use Rattle.declarations.specs.Applied.{references_in}
use Rattle.declarations.specs.Items.{written}
use Rattle.sessions.specs.Foreign.{HasNoPreference, HasPreference, are_own_terms, is_unknown_term, question_in}
use Rattle.sessions.specs.Promised.Given.{values_of_answer}
use Rattle.sessions.proofs.Posing.{over-ok}
use Rattle.sessions.proofs.own_values.own_answer.Goals as goal

is-false : (b : Bool) → not b ≡ true → b ≡ false
is-false true h = absurd (false-true h)
is-false false h = refl

unless : (u o : Bool) → u && not o ≡ false → u ≡ true → o ≡ true
unless true true h e = refl
unless true false h e = absurd (false-true (sym h))
unless false o h e = absurd (false-true e)

pub returns-then-has_preference : goal.returns-then-has_preference
returns-then-has_preference c =
    let es = c.args.cx.now.entries in
    let cs : c.deref.result.now ≡ c.args.question.now.clauses.items = search rules in
    let why = subst (λ (ds : List TraitRef). HasPreference (references_in es ds) c.args.answer) cs (c.has_preference.ensures.preferred es c.if-has_preference.true) in
    over-ok c.variables_themselves.result (λ b h. inr (record { reason = inr why; themselves = h })) c.variables_themselves.ensures

pub returns-then-is_foreign : goal.returns-then-is_foreign
returns-then-is_foreign c =
    let es = c.args.cx.now.entries in
    let V = written es c.args.declarations.now in
    let asked = c.args.question.now.asked in
    let cs : c.deref.result.now ≡ c.args.question.now.clauses.items = search rules in
    let both =
    subst (λ (ds : List TraitRef). (some_node is_unknown_term (trees_at es asked.args.0) && not (are_own_terms V (question_in es asked ds) (map (arg_trees es) (values_of_answer c.args.answer)))) ≡ true) cs
    (sym c.is_foreign.ensures ∙ c.if-is_foreign.true) in
    over-ok c.variables_themselves-then-is_foreign.result (λ b h. inr (record { reason = inl (left _ _ both, is-false _ (right _ _ both)); themselves = h })) c.variables_themselves-then-is_foreign.ensures

pub returns : goal.returns
returns c =
    let es = c.args.cx.now.entries in
    let V = written es c.args.declarations.now in
    let asked = c.args.question.now.asked in
    let cs : c.deref.result.now ≡ c.args.question.now.clauses.items = search rules in
    inl (
      refl,
      subst (λ (ds : List TraitRef). HasNoPreference (references_in es ds) c.args.answer) cs (c.has_preference.ensures.none es c.if-has_preference.false),
      unless _ _
          (subst (λ (ds : List TraitRef). (some_node is_unknown_term (trees_at es asked.args.0) && not (are_own_terms V (question_in es asked ds) (map (arg_trees es) (values_of_answer c.args.answer)))) ≡ false) cs
          (sym c.is_foreign.ensures ∙ c.if-is_foreign.false)),
    )

use Rattle.std.proofs.Common.{rules, ◌≡◌, List, ◌∷◌, ◌++◌, map, refl, sym, ap, ◌∙◌, subst, inl, inr}
use Rattle.type_terms.specs.Promised.Handles.{arg_trees}
use Rattle.type_terms.specs.declared.kinds.GenericArgKind.{GenericArgKind}
use Rattle.type_terms.proofs.RenumberedRules.{map-append}
use Rattle.term_folds.specs.declared.predicate.TraitRef.{TraitRef}
use Rattle.declarations.specs.Applied.{references_in}
use Rattle.declarations.specs.Items.{reference_in, written}
use Rattle.sessions.specs.Foreign.{HasNoPreference, are_own_terms}
use Rattle.sessions.specs.Promised.Given.{values_of_answer}
use Rattle.sessions.proofs.Posing.{over-ok}
use Rattle.sessions.proofs.own_values.own_answer_together.Goals as goal

pub returns-then-has_preference : goal.returns-then-has_preference
returns-then-has_preference c = over-ok c.variables_themselves.result (λ b h. inr h) c.variables_themselves.ensures

pub returns-then-not-values_are_own : goal.returns-then-not-values_are_own
returns-then-not-values_are_own c = over-ok c.variables_themselves-then-not-values_are_own.result (λ b h. inr h) c.variables_themselves-then-not-values_are_own.ensures

pub returns : goal.returns
returns c =
    let es = c.args.cx.now.entries in
    let V = written es c.args.declarations.now in
    let q = c.args.question.now in
    let cs : c.deref.result.now ≡ q.clauses.items = search rules in
    let os : c.deref-4.result.now ≡ q.further.items ++ q.clauses.items = search rules in
    inl (
      refl,
      subst (λ (ds : List TraitRef). HasNoPreference (references_in es ds) c.args.answer) cs (c.has_preference.ensures.none es c.if-has_preference.false),
      ap (λ rs. are_own_terms V (reference_in es q.asked ∷ rs) (map (arg_trees es) (values_of_answer c.args.answer))) (sym (ap (references_in es) os ∙ map-append (reference_in es) q.further.items q.clauses.items))
          ∙ ap (λ (vs : List GenericArgKind). are_own_terms V (reference_in es q.asked ∷ references_in es c.deref-4.result.now) (map (arg_trees es) vs)) (sym c.values.ensures)
          ∙ sym c.values_are_own.ensures ∙ c.if-not-values_are_own.false,
    )

use Rattle.std.proofs.Common.{◌≡◌, ◌==◌, Bool, true, false, not, List, [], ◌∷◌, length, refl, sym, ◌∙◌, ap, arith}
use Rattle.std.proofs.lemmas.Bool.{eqb-true}
use Rattle.type_terms.specs.Promised.Handles.{Entry}
use Rattle.type_terms.proofs.Made.{false-true}
use Rattle.term_folds.specs.declared.predicate.TraitRef.{TraitRef}
use Rattle.declarations.specs.Applied.{references_in}
use Rattle.sessions.proofs.own_values.has_preference.Goals as goal

is-true : (b : Bool) → not b ≡ false → b ≡ true
is-true true h = refl
is-true false h = absurd (false-true (sym h))

some-clause : (cs : List TraitRef) (es : List Entry) → not (length cs == 0) ≡ true → references_in es cs ≡ [] → ⊥
some-clause [] es h e = false-true h
some-clause (c ∷ cs) es h e = cc

no-clause : (cs : List TraitRef) (es : List Entry) → not (length cs == 0) ≡ false → references_in es cs ≡ []
no-clause [] es h = refl
no-clause (c ∷ cs) es h = let e = eqb-true (length (c ∷ cs)) 0 (is-true _ h) in absurd (omega (arith, e))

pub returns-in-Maybe-clause-preferred : goal.returns-in-Maybe-clause-preferred
returns-in-Maybe-clause-preferred c = λ es h. ((c.in-Maybe.field-0, c.in-Maybe.is), some-clause c.args.clauses.now es (ap not (sym c.is_empty.ensures) ∙ h))

pub returns-in-Maybe-clause-none : goal.returns-in-Maybe-clause-none
returns-in-Maybe-clause-none c = λ es h. rw c.in-Maybe.is (no-clause c.args.clauses.now es (ap not (sym c.is_empty.ensures) ∙ h))

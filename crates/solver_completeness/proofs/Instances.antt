-- Values of the variables of a goal without inference variables, and candidates without variables of their own at these values.
use Rattle.candidate_model.specs.Meaning.{ViewMeaning}
use Rattle.std.proofs.Common.{◌≡◌, ℕ, Bool, true, ◌&&◌, List, [], ◌∷◌, map, ◌⊎◌, inl, inr, refl, sym, ◌∙◌, ap, subst, Some}
use Rattle.type_terms.specs.Promised.Label.{of_type, of_const, of_lifetime, canonical, param, placeholder}
use Rattle.type_terms.specs.Promised.Trees.{Trees, none, tree, leaf, ◌+++◌}
use Rattle.type_terms.specs.Promised.Worlds.{World, Reference}
use Rattle.type_terms.specs.Promised.Rules.{is_coinductive}
use Rattle.type_terms.proofs.TreeLaws.{append-none}
use Rattle.type_terms.specs.Made.{terms, is_made}
use Rattle.infer_table.specs.Canonical.{CanonicalForm}
use Rattle.infer_table.specs.Raw.{sort_of_kind}
use Rattle.infer_table.specs.declared.canonical.CanonicalVarKind.{CanonicalVarKind}
use Rattle.infer_table.specs.declared.canonical.CanonicalVarKind.TheVariants.{Ty, PlaceholderTy, Const, PlaceholderConst, Region}
use Rattle.goal_evaluator.specs.Lists.{Every}
use Rattle.goal_evaluator.specs.declared.candidate.CandidateSource.{CandidateSource}
use Rattle.goal_evaluator.specs.Instances.{read_with, as_place, of_sort, term_at}
use Rattle.goal_evaluator.specs.Content.{Values, Fact, ChosenTerms, fits, given}
use Rattle.goal_evaluator.specs.FrameTables.{Allows, Equation, EquationIsMet, Nested, fact}
use Rattle.goal_evaluator.specs.TableOperations.{begin, fresh}
use Rattle.goal_evaluator.specs.Tables.{frame_tables}
use Rattle.goal_evaluator.specs.Variables.{is_variable_over}
use Rattle.goal_evaluator.proofs.Slots.{HasKind, kind-of, slot-is}
use Rattle.solver_completeness.specs.Closed.{Applies}
use Rattle.solver_completeness.specs.ClosedTables.{AreClosed, ArePlaces, IsClosedKind}
use Rattle.solver_completeness.proofs.ClosedQuestions.{places-fit}
use Rattle.solver_completeness.proofs.RuleFilling.{filled, filled-allowed}
use Rattle.candidate_model.specs.Facts.{beside}
use Rattle.candidate_model.specs.Asking.{GoalOverKinds, goal_over_kinds, all_known, are_clauses}
use Rattle.candidate_model.specs.Candidates.{premise, by_rule}
use Rattle.candidate_model.specs.Cover.{goal_fact, read_reference}
use Rattle.candidate_model.proofs.Cover.{IsAsked, asked-by}
use Rattle.candidate_model.proofs.LawfulCandidates.{asked-clauses}
use Rattle.candidate_model.proofs.SoundCandidates.{kinds-whole, goal-is}
use Rattle.solver_completeness.proofs.SolverPlans.{closed-at}

both : (a b : Bool) → a ≡ true → b ≡ true → (a && b) ≡ true
both a b e f = rw (e, f) refl

-- ---- places
pub place-is : (x : Trees) → ((i : ℕ) × (as_place of_type x ≡ leaf (param of_type i))) ⊎ ((i : ℕ) × (as_place of_type x ≡ leaf (placeholder of_type i)))
place-is (tree (param of_type i) none none) = inl (i, refl)
place-is (tree (placeholder of_type i) none none) = inr (i, refl)
place-is (tree (param of_type i) (tree l c o) p) = inr (0, refl)
place-is (tree (placeholder of_type i) (tree l c o) p) = inr (0, refl)
place-is (tree (param of_type i) none (tree l c o)) = inr (0, refl)
place-is (tree (placeholder of_type i) none (tree l c o)) = inr (0, refl)
place-is (tree (param of_const i) none none) = inr (0, refl)
place-is (tree (placeholder of_const i) none none) = inr (0, refl)
place-is (tree (param of_lifetime i) none none) = inr (0, refl)
place-is (tree (placeholder of_lifetime i) none none) = inr (0, refl)
place-is x = inr (0, refl)

-- a variable of a goal without unknowns that stands for a type is a placeholder
pub placeholder-kind : (k : CanonicalVarKind) → sort_of_kind k ≡ of_type → IsClosedKind (Some k) → k ≡ PlaceholderTy
placeholder-kind Ty e c = absurd c
placeholder-kind PlaceholderTy e c = refl
placeholder-kind Const e c = absurd c
placeholder-kind PlaceholderConst e c = absurd (cc)
placeholder-kind Region e c = absurd (cc)

-- a type that is read begins with a parameter or a placeholder
pub record BeginsWithPlace (t o : Trees) : Type 0 where
  pub number : ℕ
  pub is : (t ≡ tree (param of_type number) none o) ⊎ (t ≡ tree (placeholder of_type number) none o)

module _ (m : ViewMeaning) (f : CanonicalForm) (a : GoalOverKinds) (is_asked : goal_over_kinds m.view f ≡ Some a) (closed : AreClosed f.kinds) (v : Values) (places : ArePlaces f.kinds v) where
  abbrev pub V : World
  V = m.view

  pub is : IsAsked V f.goal.environment f.goal.predicate (all_known f.kinds) a
  is = asked-by V f.goal.environment f.goal.predicate (all_known f.kinds) a is_asked

  pub are : are_clauses a.kinds a.environment ≡ true
  are = asked-clauses V f.goal.environment f.goal.predicate (all_known f.kinds) a is_asked

  pub kinds-closed : AreClosed (map Some a.kinds)
  kinds-closed = subst AreClosed (sym (kinds-whole f.kinds a.kinds is.kinds_are)) closed

  -- the terms
  abbrev pub terms_of : ChosenTerms
  terms_of = filled a.kinds [] kinds-closed tt v []

  pub allowed : Allows (fresh (begin a.kinds) []) terms_of
  allowed = filled-allowed a.kinds [] kinds-closed tt v []

  pub proper : (v.proper && fits f.kinds v.terms) ≡ true
  proper = both v.proper (fits f.kinds v.terms) places.proper (places-fit f.kinds v.terms closed places.fit)

  abbrev pub Read : Trees → Trees
  Read t = read_with (given terms_of.slots) t

  -- the goal's instance
  abbrev pub instance : Fact
  instance = fact (premise a true a.reference) terms_of

  pub instance-is : goal_fact f v ≡ instance
  instance-is = goal-is V f a is are [] terms_of allowed proper true

  -- ---- candidates that equate nothing, or what is equal
  pub premises-are : (kind : Bool) (ps : List Reference) → map (λ (n : Nested). fact n terms_of) (map (premise a kind) ps) ≡ map (beside instance) (map (read_reference terms_of.slots) ps)
  premises-are kind [] = refl
  premises-are kind (p ∷ ps) = ap (λ z. fact (premise a kind p) terms_of ∷ z) (premises-are kind ps)

  pub rule-applies : (source : CandidateSource) (es : List Equation) (ps : List Reference) → Every (λ e. EquationIsMet e terms_of) es
      → Applies frame_tables (begin a.kinds) v (by_rule V a source es ps) (map (beside instance) (map (read_reference terms_of.slots) ps))
  rule-applies source es ps h = record { assignment = terms_of; allowed = allowed; own = refl; meets = h; needs = premises-are (is_coinductive V a.reference.trait) ps }

  -- ---- the self type, where it is a variable
  slot-at : (i : ℕ) (c o : Trees) → is_made (is_variable_over a.kinds) terms (tree (canonical of_type i) c o) ≡ true → term_at terms_of.slots i ≡ as_place of_type (term_at v.terms i)
  slot-at i c o made =
      let k : HasKind a.kinds of_type i = kind-of a.kinds (tree (canonical of_type i) c o) made of_type i (inl refl) in
      let p = placeholder-kind k.kind k.sort (closed-at a.kinds kinds-closed i k.kind k.is) in
      slot-is (fresh (begin a.kinds) []) terms_of allowed i PlaceholderTy (k.is ∙ ap (λ z. Some z) p) ∙ append-none (as_place of_type (term_at v.terms i))

  pub read-place : (i : ℕ) (c o : Trees) → is_made (is_variable_over a.kinds) terms (tree (canonical of_type i) c o) ≡ true → BeginsWithPlace (Read (tree (canonical of_type i) c o)) (Read o)
  read-place i c o made = by (place-is (term_at v.terms i))
    where
      at : (x : Trees) → as_place of_type (term_at v.terms i) ≡ x → Read (tree (canonical of_type i) c o) ≡ of_sort of_type x +++ Read o
      at x e = ap (λ z. of_sort of_type z +++ Read o) (slot-at i c o made ∙ e)

      by : ((j : ℕ) × (as_place of_type (term_at v.terms i) ≡ leaf (param of_type j))) ⊎ ((j : ℕ) × (as_place of_type (term_at v.terms i) ≡ leaf (placeholder of_type j))) → BeginsWithPlace (Read (tree (canonical of_type i) c o)) (Read o)
      by (inl x) = record { number = x.0; is = inl (at (leaf (param of_type x.0)) x.1) }
      by (inr x) = record { number = x.0; is = inr (at (leaf (placeholder of_type x.0)) x.1) }

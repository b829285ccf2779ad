-- The result of the solver's search in coherence for concrete trait references without where-clauses, in promised terms.
use Rattle.std.proofs.Common.{◌≡◌, ◌&&◌, ℕ, zero, suc, Bool, true, false, List, [], ◌∷◌, inl, inr, map, refl, sym, ◌∙◌, ap, subst, Option, Some, None, if◌then◌else◌}
use Rattle.std.specs.List.{flat_map}
use Rattle.type_terms.specs.Promised.Worlds.{World, Reference}
use Rattle.type_terms.specs.Promised.Rules.{Rule, rules, strict_supertraits}
use Rattle.type_terms.specs.Promised.Proofs.{In}
use Rattle.type_terms.specs.Promised.Walks.{is_known_in}
use Rattle.type_terms.specs.Promised.Answers.{is_closed, written_in, short_chains, is_possible}
use Rattle.type_terms.proofs.Members.{here, there, in-left, in-right, flat-in}
use Rattle.type_terms.proofs.Walking.{left, right}
use Rattle.infer_table.specs.Responses.{AnswerTrees}
use Rattle.infer_table.specs.Canonical.{CanonicalForm}
use Rattle.infer_table.specs.declared.certainty.TypingMode.TheVariants.{Coherence}
use Rattle.goal_evaluator.specs.Lists.{Every, SomeOf}
use Rattle.goal_evaluator.specs.Content.{Values, Fact, NestedQuestion, fact_of}
use Rattle.goal_evaluator.specs.Tables.{frame_tables}
use Rattle.goal_frames.specs.Programs.{ArePrograms}
use Rattle.goal_frames.specs.Searches.{Handles, GoalInMode}
use Rattle.solver_completeness.specs.ModelWays.{ways_for}
use Rattle.solver_completeness.specs.Ways.{HasShortChains, IsPossible, IsExactFor}
use Rattle.solver_completeness.proofs.ModelWays.{possible_is_by_ways, short_is_by_ways}
use Rattle.solver_completeness.proofs.MovedWays.{every-to, some-from, some-to, every-from}
use Rattle.candidate_model.specs.Facts.{clauses_of, reference_in, beside}
use Rattle.candidate_model.specs.Meaning.{ViewMeaning}
use Rattle.solver_completeness.specs.SolverWays.{facts_beside, ways_in_coherence}
use Rattle.solver_completeness.specs.SolverAnswers.{solver_programs, TellsPossible, SolverTellsPossible}
use Rattle.solver_completeness.proofs.ReadBack.{ways-back, coherence-comes-back}
use Rattle.candidate_model.proofs.ClosedPremises.{LeadsToClosed, leads-to-closed}
use Rattle.solver_completeness.proofs.SolverAnswers.{solver-searches-are-exact}
use Rattle.goal_evaluator.proofs.Basics.{both-lists as every-append}

-- ---- lists of which something else is known too
every-both : {A : Type 0} (P S R : A → Type 0) → ((x : A) → P x → S x → R x) → (xs : List A) → Every P xs → Every S xs → Every R xs
every-both P S R f [] h g = tt
every-both P S R f (x ∷ xs) h g = (f x h.0 g.0, every-both P S R f xs h.1 g.1)

some-both : {A : Type 0} (P S R : A → Type 0) → ((x : A) → P x → S x → R x) → (xs : List A) → Every P xs → SomeOf S xs → SomeOf R xs
some-both P S R f [] h s = absurd s
some-both P S R f (x ∷ xs) h (inl p) = inl (f x h.0 p)
some-both P S R f (x ∷ xs) h (inr s) = inr (some-both P S R f xs h.1 s)

each-in : {A : Type 0} (P : A → Type 0) (xs : List A) → ((x : A) → In x xs → P x) → Every P xs
each-in P [] h = tt
each-in P (x ∷ xs) h = (h x (here x xs), each-in P xs (λ y i. h y (there y x xs i)))

module _ (m : ViewMeaning) (is-shut : LeadsToClosed m.view m.crate) where
  abbrev V : World
  V = m.view

  abbrev Closed : Reference → Type 0
  Closed r = is_closed r.args ≡ true

  abbrev ways : Reference → List (List Reference)
  ways r = ways_for V m.crate r

  -- what a closed reference leads to is closed
  closed-ways : (r : Reference) → Closed r → Every (Every Closed) (ways r)
  closed-ways r z =
      every-append (Every Closed) (map (λ (u : Rule). u.premises) (rules V [] r)) (if is_known_in V m.crate r then [] else strict_supertraits V r ∷ [])
      (every-to (λ (u : Rule). u.premises) (Every Closed) (λ (u : Rule). Every Closed u.premises) (λ u h. h) (rules V [] r)
      (each-in (λ (u : Rule). Every Closed u.premises) (rules V [] r)
      (λ u i. each-in Closed u.premises (λ p j. is-shut r p z (in-left p (flat_map (λ (x : Rule). x.premises) (rules V [] r)) supers (flat-in (λ (x : Rule). x.premises) (rules V [] r) u p i j))))))
      (last (is_known_in V m.crate r) refl)
    where
      supers : List Reference
      supers = if is_known_in V m.crate r then [] else strict_supertraits V r

      last : (b : Bool) → is_known_in V m.crate r ≡ b → Every (Every Closed) (if b then [] else strict_supertraits V r ∷ [])
      last true e = tt
      last false e = (each-in Closed (strict_supertraits V r) (λ p j. is-shut r p z (in-right p (flat_map (λ (x : Rule). x.premises) (rules V [] r)) supers (subst (λ b. In p (if b then [] else strict_supertraits V r)) (sym e) j))), tt)

  -- the ways of a fact are those of its reference
  facts-are : (f : Fact) → clauses_of f.goal.environment ≡ [] → Closed (reference_in f) → ways_in_coherence m f ≡ facts_beside f (ways (reference_in f))
  facts-are f e z = ap (facts_beside f) (sym (ways-back f _) ∙ coherence-comes-back m f e z)

  abbrev coh : Fact → List (List Fact)
  coh f = ways_in_coherence m f

  short-facts : (n : ℕ) (f : Fact) → clauses_of f.goal.environment ≡ [] → Closed (reference_in f) → HasShortChains ways n (reference_in f) → HasShortChains coh n f
  short-facts zero f e z h = absurd h
  short-facts (suc n) f e z h =
      subst (Every (Every (HasShortChains coh n))) (sym (facts-are f e z))
      (every-to (map (beside f)) (Every (HasShortChains coh n)) (λ ps. Every Closed ps × Every (HasShortChains ways n) ps)
      (λ ps i. every-to (beside f) (HasShortChains coh n) (λ p. Closed p × HasShortChains ways n p) (λ p j. short-facts n (beside f p) e j.0 j.1) ps
      (every-both Closed (HasShortChains ways n) (λ p. Closed p × HasShortChains ways n p) (λ p a b. (a, b)) ps i.0 i.1))
      (ways (reference_in f))
      (every-both (Every Closed) (Every (HasShortChains ways n)) (λ ps. Every Closed ps × Every (HasShortChains ways n) ps) (λ ps a b. (a, b)) (ways (reference_in f)) (closed-ways (reference_in f) z) h))

  possible-facts : (n : ℕ) (f : Fact) → clauses_of f.goal.environment ≡ [] → Closed (reference_in f) → IsPossible ways n (reference_in f) → IsPossible coh n f
  possible-facts zero f e z h = absurd h
  possible-facts (suc n) f e z h =
      subst (SomeOf (Every (IsPossible coh n))) (sym (facts-are f e z))
      (some-to (map (beside f)) (Every (IsPossible coh n)) (λ ps. Every Closed ps × Every (IsPossible ways n) ps)
      (λ ps i. every-to (beside f) (IsPossible coh n) (λ p. Closed p × IsPossible ways n p) (λ p j. possible-facts n (beside f p) e j.0 j.1) ps
      (every-both Closed (IsPossible ways n) (λ p. Closed p × IsPossible ways n p) (λ p a b. (a, b)) ps i.0 i.1))
      (ways (reference_in f))
      (some-both (Every Closed) (Every (IsPossible ways n)) (λ ps. Every Closed ps × Every (IsPossible ways n) ps) (λ ps a b. (a, b)) (ways (reference_in f)) (closed-ways (reference_in f) z) h))

  facts-possible : (n : ℕ) (f : Fact) → clauses_of f.goal.environment ≡ [] → Closed (reference_in f) → IsPossible coh n f → IsPossible ways n (reference_in f)
  facts-possible zero f e z h = absurd h
  facts-possible (suc n) f e z h =
      some-both (Every Closed) (λ ps. Every (IsPossible coh n) (map (beside f) ps)) (Every (IsPossible ways n))
      (λ ps c i.
      every-both Closed (λ p. IsPossible coh n (beside f p)) (IsPossible ways n) (λ p a b. facts-possible n (beside f p) e a b) ps c
      (every-from (beside f) (IsPossible coh n) (λ p. IsPossible coh n (beside f p)) (λ p j. j) ps i))
      (ways (reference_in f)) (closed-ways (reference_in f) z)
      (some-from (map (beside f)) (Every (IsPossible coh n)) (λ ps. Every (IsPossible coh n) (map (beside f) ps)) (λ ps i. i) (ways (reference_in f)) (subst (SomeOf (Every (IsPossible coh n))) (facts-are f e z) h))

  -- an answer that is exact for the fact tells what is possible
  tells : (n : ℕ) (f : Fact) → clauses_of f.goal.environment ≡ [] → Closed (reference_in f) → (a : Option AnswerTrees) → IsExactFor coh n f a → TellsPossible V m.crate n (reference_in f) a
  tells n f e z None h = record { refused = λ q. by (is_possible n V m.crate (reference_in f)) refl; answered = λ x q. absurd (cc) }
    where
      by : (b : Bool) → is_possible n V m.crate (reference_in f) ≡ b → b ≡ false
      by true g = absurd (h n (possible-facts n f e z (possible_is_by_ways.to V m.crate n (reference_in f) g)))
      by false g = refl
  tells n f e z (Some y) h = record { refused = λ q. absurd (cc); answered = λ x q. possible_is_by_ways.from V m.crate n (reference_in f) (facts-possible n f e z h) }

module _ {W : Type 0} (applicable : AnswerTrees → Bool) (same : AnswerTrees → AnswerTrees → Bool) (meaning_of : W → ViewMeaning) (fits_in : W → CanonicalForm → Bool) {C I R F : Type 0}
    (handles : Handles C I R F W (GoalInMode frame_tables (solver_programs applicable same meaning_of fits_in)) (Option AnswerTrees)) (IsAsked : NestedQuestion → Values → Type 0)
    (programs : ArePrograms frame_tables (solver_programs applicable same meaning_of fits_in)) where
  pub solver-tells-possible : SolverTellsPossible applicable same meaning_of fits_in handles IsAsked
  solver-tells-possible w good n limit q v a l goal clauses bounded only =
      let V = (meaning_of w).view in
      let c = (meaning_of w).crate in
      let r = reference_in (fact_of q v) in
      let shut = leads-to-closed V good.well.terms c in
      let closed = left (is_closed r.args) (written_in V r && short_chains n V c r) bounded in
      let short = right (written_in V r) (short_chains n V c r) (right (is_closed r.args) (written_in V r && short_chains n V c r) bounded) in
      tells (meaning_of w) shut n (fact_of q v) clauses closed a
      (solver-searches-are-exact applicable same meaning_of fits_in handles IsAsked programs w Coherence good n limit q v a l goal
      (short-facts (meaning_of w) shut n (fact_of q v) clauses closed (short_is_by_ways V c n r short)) only)

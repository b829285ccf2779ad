-- Where-clauses of a goal, found by place.
use Rattle.std.proofs.Common.{◌≡◌, ℕ, zero, suc, Bool, true, false, List, [], ◌∷◌, Some, None, refl, subst}
use Rattle.std.specs.Prelude.{option_map, if◌then◌else◌}
use Rattle.std.specs.List.{slice_get}
use Rattle.type_terms.specs.Promised.Worlds.{World, Reference}
use Rattle.type_terms.specs.Promised.Handles.{Entry}
use Rattle.term_folds.specs.declared.predicate.Clause.{Clause}
use Rattle.term_folds.specs.declared.predicate.Clause.TheVariants.{Trait, RegionOutlives, TypeOutlives}
use Rattle.term_folds.specs.declared.predicate.TraitRef.{TraitRef}
use Rattle.infer_table.specs.Goals.{ClausesHeld, environment_trees}
use Rattle.goal_evaluator.specs.declared.candidate.CandidateSource.TheVariants.{ParamEnv}
use Rattle.declarations.specs.Items.{reference_in}
use Rattle.declarations.specs.Held.{ReferenceHeld}
use Rattle.declarations.specs.Applied.{TraitRefsHeld}
use Rattle.candidate_model.specs.Facts.{clauses_of}
use Rattle.candidate_model.specs.Asking.{GoalOverKinds}
use Rattle.candidate_model.specs.Candidates.{Candidate, by_rule, can_be, by_clauses, clause_source, all_equal}
use Rattle.candidate_assembly.specs.Clauses.{with_reference, references_to}

-- ---- one clause after the other

-- ---- their terms
pub references-held : (es : List Entry) (q : Reference) (cs : List Clause) → ClausesHeld es cs → TraitRefsHeld es (references_to es q cs)
references-held es q [] h = tt
references-held es q (Trait p ∷ cs) h = by (can_be q (reference_in es p.trait_ref)) (references-held es q cs h.1)
  where
    by : (b : Bool) → TraitRefsHeld es (references_to es q cs) → TraitRefsHeld es (with_reference (if b then Some p.trait_ref else None) (references_to es q cs))
    by true g = (h.0, g)
    by false g = g
references-held es q (RegionOutlives a b ∷ cs) h = references-held es q cs h.1
references-held es q (TypeOutlives a r ∷ cs) h = references-held es q cs h.1

pub held-at : (es : List Entry) (rs : List TraitRef) (n : ℕ) (r : TraitRef) → TraitRefsHeld es rs → Some r ≡ slice_get rs n → ReferenceHeld es r
held-at es [] n r h e = absurd cc
held-at es (x ∷ rs) zero r h e = let q : x ≡ r = cc in subst (ReferenceHeld es) q h.0
held-at es (x ∷ rs) (suc n) r h e = held-at es rs n r h.1 e

-- ---- as candidates
module _ (V : World) (es : List Entry) (a : GoalOverKinds) where
  abbrev pub of_clause : TraitRef → Candidate
  of_clause r = by_rule V a (ParamEnv (clause_source (reference_in es r))) (all_equal a.reference.args (reference_in es r).args) []

  pub clause-at : (cs : List Clause) (n : ℕ) → slice_get (by_clauses V a (clauses_of (environment_trees es cs))) n ≡ option_map of_clause (slice_get (references_to es a.reference cs) n)
  clause-at [] n = refl
  clause-at (Trait p ∷ cs) n = by (can_be a.reference (reference_in es p.trait_ref)) n (λ m. clause-at cs m)
    where
      by : (b : Bool) (m : ℕ) → ((k : ℕ) → slice_get (by_clauses V a (clauses_of (environment_trees es cs))) k ≡ option_map of_clause (slice_get (references_to es a.reference cs) k))
          → slice_get (if b then of_clause p.trait_ref ∷ by_clauses V a (clauses_of (environment_trees es cs)) else by_clauses V a (clauses_of (environment_trees es cs))) m
          ≡ option_map of_clause (slice_get (with_reference (if b then Some p.trait_ref else None) (references_to es a.reference cs)) m)
      by true zero go = refl
      by true (suc m) go = go m
      by false m go = go m
  clause-at (RegionOutlives x y ∷ cs) n = clause-at cs n
  clause-at (TypeOutlives x r ∷ cs) n = clause-at cs n

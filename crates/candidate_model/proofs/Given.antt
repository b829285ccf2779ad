-- Terms with which a candidate's equations hold and its premises are solutions realize the goal's values in the tables of frames.
use Rattle.std.proofs.Common.{◌≡◌, Bool, true, false, ◌&&◌, List, [], ◌∷◌, ◌++◌, map, refl, sym, ◌∙◌, ap, subst, Some}
use Rattle.type_terms.specs.Promised.Trees.{Trees}
use Rattle.infer_table.specs.declared.canonical.CanonicalVarKind.{CanonicalVarKind}
use Rattle.goal_evaluator.specs.Lists.{Every}
use Rattle.goal_evaluator.specs.Law.{NestedIsSolved, Realizes}
use Rattle.goal_evaluator.proofs.ListLaws.{Every-mono, Every-both}
use Rattle.goal_evaluator.specs.Instances.{read_with, goal_read, first_term, other_terms}
use Rattle.goal_evaluator.specs.Content.{Values, Fact, fits, given, trait_of, ChosenTerms}
use Rattle.goal_evaluator.specs.FrameTables.{Nested, Equation, term_of, EquationIsMet}
use Rattle.goal_evaluator.specs.TableOperations.{begin}
use Rattle.goal_evaluator.specs.TableOperations.{fresh}
use Rattle.goal_evaluator.specs.Tables.{frame_tables}
use Rattle.candidate_model.specs.Slots.{own_slot, as_slots, with_slots}
use Rattle.type_terms.specs.Promised.Worlds.{Reference}
use Rattle.candidate_model.specs.Candidates.{Candidate}
use Rattle.candidate_model.specs.Solver.{IsSolution, has_placeholder}
use Rattle.candidate_model.specs.Meaning.{proved_at}
use Rattle.candidate_model.specs.Cover.{padded, slots, nested_at, AreTermsOf, SolvesEquations, GivenIsRealized}
use Rattle.candidate_model.proofs.Filled.{no-placeholder, filled, filled-allowed, filled-slots}
use Rattle.goal_evaluator.proofs.Unplaced.{IsNotPlace}

-- slots are not padded
padded-slots : (ks : List CanonicalVarKind) (ts : List Trees) → padded ks (as_slots ks ts) ≡ as_slots ks ts
padded-slots [] ts = refl
padded-slots (k ∷ ks) ts = ap (λ z. own_slot k (first_term ts) ∷ z) (padded-slots ks (other_terms ts))

same-fact : (ts us : List Trees) (n : Nested) (p : Bool) → ts ≡ us → p ≡ true
    → ◌≡◌ {A = Fact} (record { trait = trait_of n.goal.predicate; goal = goal_read (given ts) n.goal; proper = p }) (nested_at us n)
same-fact ts us n p e q =
    ap (λ (z : List Trees). record { trait = trait_of n.goal.predicate; goal = goal_read (given z) n.goal; proper = p }) e
    ∙ ap (λ (z : Bool). record { trait = trait_of n.goal.predicate; goal = goal_read (given us) n.goal; proper = z }) q

-- whatever has proofs
pub given-realizes : (H : Reference → Type 0) (ks : List CanonicalVarKind) (v : Values) (c : Candidate) → AreTermsOf c → has_placeholder ks ≡ false → has_placeholder c.kinds ≡ false
    → (v.proper && fits (map Some ks) v.terms) ≡ true → SolvesEquations H ks (with_slots ks v) c → Realizes frame_tables (IsSolution H) (begin ks) v c
given-realizes H ks v c are h g p gives = record {
  assignment = terms_of;
  allowed = filled-allowed ks c.kinds no_places own_places v gives.own;
  own = refl;
  meets =
      Every-both (λ (e : Equation). read_with (given (slots ks (with_slots ks v) gives.own)) e.left.trees ≡ read_with (given (slots ks (with_slots ks v) gives.own)) e.right.trees)
      (λ (e : Equation). (term_of e.left ≡ e.left.trees) × (term_of e.right ≡ e.right.trees)) (λ e. EquationIsMet e terms_of) (λ e q r. meets e q r) c.equations gives.equal are;
  solves =
      Every-mono (λ n. IsSolution H (nested_at (slots ks (with_slots ks v) gives.own) n)) (NestedIsSolved frame_tables (IsSolution H) (fresh (begin ks) c.kinds) terms_of)
      (λ n s. (tt, subst (IsSolution H) (sym (same-fact terms_of.slots (slots ks (with_slots ks v) gives.own) n terms_of.proper slots-are p)) s)) c.nested gives.solves;
}
  where
    no_places : Every IsNotPlace ks
    no_places = no-placeholder ks h

    own_places : Every IsNotPlace c.kinds
    own_places = no-placeholder c.kinds g

    terms_of : ChosenTerms
    terms_of = filled ks c.kinds no_places own_places v gives.own

    slots-are : terms_of.slots ≡ slots ks (with_slots ks v) gives.own
    slots-are =
        filled-slots ks c.kinds no_places own_places v gives.own
        ∙ ap (λ z. as_slots ks v.terms ++ z) gives.sorted ∙ ap (λ z. z ++ gives.own) (sym (padded-slots ks v.terms))

    meets : (e : Equation) → read_with (given (slots ks (with_slots ks v) gives.own)) e.left.trees ≡ read_with (given (slots ks (with_slots ks v) gives.own)) e.right.trees
        → (term_of e.left ≡ e.left.trees) × (term_of e.right ≡ e.right.trees) → EquationIsMet e terms_of
    meets e q r =
        ap (read_with (given terms_of.slots)) r.0 ∙ ap (λ z. read_with (given z) e.left.trees) slots-are ∙ q
        ∙ ap (λ z. read_with (given z) e.right.trees) (sym slots-are) ∙ ap (read_with (given terms_of.slots)) (sym r.1)

pub given-is-realized : GivenIsRealized
given-is-realized m w ks v c are h g p gives = given-realizes (proved_at w) ks v c are h g p gives

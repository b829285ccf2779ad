-- A goal that has no proof where the solver looks for its solutions has none by the asking crate's view alone, nor in a linked set with
-- the crate.
use Rattle.std.proofs.Common.{◌≡◌, ℕ, IsTrue, List, [], map, sym, ap, ◌∙◌, subst}
use Rattle.type_terms.specs.Promised.Label.{Sort}
use Rattle.type_terms.specs.Promised.Trees.{Trees}
use Rattle.type_terms.specs.Promised.Erased.{erased_world}
use Rattle.type_terms.specs.Promised.Worlds.{World, CrateDecl, Reference}
use Rattle.type_terms.specs.Promised.Proofs.{Every, HasProof}
use Rattle.type_terms.specs.Promised.Proofs.{HasElaboratedProof}
use Rattle.type_terms.specs.Promised.Answers.{is_closed}
use Rattle.type_terms.specs.Promised.Renumbering.{View, Renumbering, HoldsView, renumbered, renumbered_reference}
use Rattle.type_terms.specs.Promised.LinkedSet.{LinkedSet}
use Rattle.type_terms.proofs.RenumberedTrees.{inverse, back, map-back}
use Rattle.candidate_model.specs.Meaning.{ViewMeaning, LinkedWith, SelfTypesBegin, SolutionPlace, by_view, in_set, proved_at}
use Rattle.type_terms.specs.Promised.Verdicts.{placed}
use Rattle.type_terms.specs.Promised.Questions.{FitKinds, filled_reference, SolutionBy, Solution, IsRefuted}
use Rattle.overlap_check.proofs.Filling.{over-filled-reference, over-fit, over-each-closed}
use Rattle.text_language.specs.Promised.Declarations.{Declarations}
use Rattle.text_lowering.specs.Seen.{rules_seen_from}
use Rattle.sessions.specs.Promised.Promises.{view_in}
use Rattle.sessions.proofs.Refusals.{same-placed}

abbrev with_crates : World → List CrateDecl → World
with_crates V cs = record V { crates = cs }

pub same-view : (V : World) (d : Declarations) (c : ℕ) → erased_world V ≡ rules_seen_from d c → with_crates (erased_world V) (view_in d c).crates ≡ view_in d c
same-view V d c e = ap (λ (W : World). with_crates W (view_in d c).crates) e

-- the goal, with unknowns of these kinds, by what crate c sees of the text
module _ (d : Declarations) (c : ℕ) (m : ViewMeaning) (view : erased_world m.view ≡ rules_seen_from d c) (crate : m.crate ≡ c) (ks : List Sort) (g : Reference) where
  -- with no closed terms for its unknowns it is proved in one of the solver's places
  abbrev pub IsUnproved : Type 0
  IsUnproved = (p : SolutionPlace m) (ts : List Trees) → FitKinds ks ts → Every (λ t. IsTrue (is_closed t)) ts → proved_at p (filled_reference ks ts g) → ⊥

  -- by the view alone
  unproved-alone : IsUnproved → SelfTypesBegin m.view → SolutionBy (HasElaboratedProof (view_in d c) []) ks g → ⊥
  unproved-alone un begin sol =
      un (by_view (view_in d c).crates begin) sol.values sol.fitting sol.closed
      (subst (λ V. HasElaboratedProof V [] (filled_reference ks sol.values g)) (sym (same-view m.view d c view)) sol.proved)

  -- in a linked set
  module _ (un : IsUnproved) (W : World) (vs : List View) (rank : ℕ → ℕ) (linked : LinkedSet W vs rank) (ρ : Renumbering) (holds : HoldsView W (placed (view_in d c) c ρ))
      (sol : Solution W ks (renumbered_reference ρ g)) where
    -- the values with the text's numbers
    abbrev own_values : List Trees
    own_values = map (renumbered (inverse ρ)) sol.values

    values-back : map (renumbered ρ) own_values ≡ sol.values
    values-back = map-back (renumbered ρ) (renumbered (inverse ρ)) (λ t. back (inverse ρ) t) sol.values

    abbrev set_place : LinkedWith m
    set_place = record {
      set = W;
      views = vs;
      rank = rank;
      linked = linked;
      numbers = ρ;
      crates = (view_in d c).crates;
      holds = subst (HoldsView W) (sym (same-placed _ _ _ _ ρ (same-view m.view d c view) crate)) holds;
    }

    unproved-linked : ⊥
    unproved-linked =
        un (in_set set_place) own_values (over-fit (inverse ρ) ks sol.values sol.fitting) (over-each-closed (inverse ρ) sol.values sol.closed)
        (subst (HasProof W []) (sym (over-filled-reference ρ ks own_values g ∙ ap (λ us. filled_reference ks us (renumbered_reference ρ g)) values-back)) sol.proved)

  pub is-refuted : IsUnproved → SelfTypesBegin m.view → IsRefuted (view_in d c) c ks g
  is-refuted un begin = (unproved-alone un begin, λ W vs rank linked ρ holds sol. unproved-linked un W vs rank linked ρ holds sol)

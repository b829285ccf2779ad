-- Trait references one of which the search refuses in coherence, over tables that answers to them leave: no closed terms for their variables
-- give all of them proofs, by the asking crate's view alone or in a linked set with the crate.
use Rattle.std.proofs.Common.{◌≡◌, ℕ, false, List, [], ◌∷◌, map, refl, sym, ap, ◌∙◌, subst}
use Rattle.type_terms.specs.Promised.Erased.{erased_world, erased_reference}
use Rattle.type_terms.specs.Promised.Label.{Label, Sort, of_type, of_const, of_lifetime, param, placeholder, infer, canonical, bound, fn_ptr, principal}
use Rattle.type_terms.specs.Promised.LinkedSet.{LinkedSet}
use Rattle.type_terms.specs.Promised.Proofs.{Every, HasProof, HasElaboratedProof}
use Rattle.type_terms.specs.Promised.Questions.{filled_reference, is_bound_place, no, IsRefuted}
use Rattle.type_terms.specs.Promised.Renumbering.{View, Renumbering, HoldsView, renumbered, renumbered_reference}
use Rattle.type_terms.specs.Promised.Trees.{Trees, some_node}
use Rattle.type_terms.specs.Promised.Verdicts.{placed}
use Rattle.type_terms.specs.Promised.Worlds.{World, CrateDecl, Reference}
use Rattle.type_terms.proofs.RenumberedTrees.{inverse, back, map-back}
use Rattle.infer_table.specs.Canonical.{CanonicalForm, canonical_form}
use Rattle.infer_table.specs.declared.certainty.TypingMode.TheVariants.{Coherence}
use Rattle.declarations.specs.Promised.Elaboration.{Each}
use Rattle.candidate_model.specs.Meaning.{LinkedWith, SelfTypesBegin, by_view, in_set}
use Rattle.candidate_assembly.specs.Solving.{Solving, meaning_for}
use Rattle.candidate_assembly.specs.SolverMeaning.{solver_by_view}
use Rattle.overlap_check.proofs.Filling.{over-filled-reference, over-fit, over-each-closed}
use Rattle.text_language.specs.Promised.Declarations.{Declarations}
use Rattle.text_lowering.specs.Plain.{unbound_references}
use Rattle.text_lowering.specs.Promised.SeenWorlds.{unbound_reference}
use Rattle.text_lowering.specs.QuestionVariables.{HoldsVariablesAlone, is_undeclared_variable}
use Rattle.text_lowering.specs.Seen.{rules_seen_from}
use Rattle.sessions.specs.Asking.{goal_alone}
use Rattle.sessions.specs.Promised.OwnValues.{HasNoParameter}
use Rattle.sessions.specs.Promised.Promises.{view_in}
use Rattle.sessions.specs.Promised.Together.{SolutionOfAll, AreRefuted, filled_references}
use Rattle.sessions.specs.ProvingTogether.{AreRefusedAlone}
use Rattle.sessions.proofs.Given.{given, given-sorted}
use Rattle.sessions.proofs.KeptSolutions.{IsLookedFor, none-refused}
use Rattle.sessions.proofs.OwnValues.{some-less}
use Rattle.sessions.proofs.Posed.{no-places}
use Rattle.sessions.proofs.QuestionTerms.{IsOwnReference}
use Rattle.sessions.proofs.RefutedGoals.{same-view}
use Rattle.sessions.proofs.Refusals.{plain-erased, same-placed}
use Rattle.sessions.proofs.SolvedReferences.{all-solved}
use Rattle.sessions.proofs.Unsolved.{is_place, one-fine, same-nodes}

-- ---- what holds no variables but the question's has no parameters
place-label : (ks : List Sort) (l : Label) → is_undeclared_variable ks l ≡ false → is_place l ≡ false
place-label ks (infer of_type i) h = refl
place-label ks (infer of_const i) h = refl
place-label ks (infer of_lifetime i) h = refl
place-label ks (param of_lifetime i) h = refl
place-label ks (param of_type i) h = cc
place-label ks (param of_const i) h = cc
place-label ks (placeholder of_lifetime i) h = refl
place-label ks (placeholder of_type i) h = cc
place-label ks (placeholder of_const i) h = cc
place-label ks (bound of_lifetime j i) h = refl
place-label ks (bound of_type j i) h = cc
place-label ks (bound of_const j i) h = cc
place-label ks (canonical s i) h = absurd cc
place-label ks (fn_ptr n) h = refl
place-label ks (principal n t) h = refl
place-label ks l h = refl

pub no-parameters : (ks : List Sort) (rs : List Reference) → Each (HoldsVariablesAlone ks) rs → Every HasNoParameter (map erased_reference rs)
no-parameters ks [] h = tt
no-parameters ks (r ∷ rs) h = (
  ap (some_node is_bound_place) (sym (plain-erased r.args)) ∙ sym (same-nodes (unbound_reference r).args)
      ∙ some-less (is_undeclared_variable ks) is_place (place-label ks) (unbound_reference r).args h.0,
  no-parameters ks rs h.1,
)

-- ---- what is refuted of one is refuted of the list of it
pub one-refuted : (V : World) (c : ℕ) (ks : List Sort) (r : Reference) → IsRefuted V c ks r → AreRefuted V c ks (r ∷ []) no
one-refuted V c ks r h = (
  λ sol. h.0 (record { values = sol.values; fitting = sol.fitting; closed = sol.closed; proved = sol.proved.0 }),
  λ W vs rank linked ρ holds sol. h.1 W vs rank linked ρ holds (record { values = sol.values; fitting = sol.fitting; closed = sol.closed; proved = sol.proved.0 }),
)

-- ---- trait references with variables of these kinds alone
module _ (d : Declarations) (c : ℕ) (s : Solving) (view : erased_world s.view ≡ rules_seen_from d c) (crate : s.crate ≡ c) (begin : SelfTypesBegin s.view) (ks : List Sort) (rs : List Reference)
    (owns : Every (IsOwnReference ks) rs) (alone : Every HasNoParameter (map erased_reference rs)) (depth : ℕ) (refused : AreRefusedAlone solver_by_view s depth ks (unbound_references rs)) where
  abbrev plainly : List Reference
  plainly = map erased_reference rs

  abbrev cs : List CrateDecl
  cs = (view_in d c).crates

  abbrev form : Reference → CanonicalForm
  form r = canonical_form (goal_alone r)

  -- by the view alone
  abbrev IsElaborated : Reference → Type 0
  IsElaborated r = HasElaboratedProof (record (erased_world s.view) { crates = cs }) [] r

  looked-by-view : (r : Reference) → some_node is_place r.args ≡ false → IsLookedFor s Coherence IsElaborated r
  looked-by-view r h = (record { place = by_view cs begin; no_clauses = refl; no_placeholders = no-places is_place one-fine r h }, λ f x. record { asks = x.asks; proper = x.proper; closed = x.closed; proof = x.proof })

  all-elaborated : (xs : List Reference) → Every (HasElaboratedProof (view_in d c) []) xs → Every IsElaborated xs
  all-elaborated [] h = tt
  all-elaborated (x ∷ xs) h = (subst (λ V. HasElaboratedProof V [] x) (sym (same-view s.view d c view)) h.0, all-elaborated xs h.1)

  unproved-alone : SolutionOfAll (HasElaboratedProof (view_in d c) []) ks plainly → ⊥
  unproved-alone sol =
      none-refused s Coherence ks (given ks sol.values) IsElaborated looked-by-view (given-sorted ks sol.values) (unbound_references rs)
      (all-solved ks sol.values sol.fitting sol.closed IsElaborated rs owns alone (all-elaborated (filled_references ks sol.values plainly) sol.proved)) depth refused.0 refused.1 refused.2

  -- in a linked set
  module _ (W : World) (vs : List View) (rank : ℕ → ℕ) (linked : LinkedSet W vs rank) (ρ : Renumbering) (holds : HoldsView W (placed (view_in d c) c ρ)) where
    abbrev IsProvedThere : Reference → Type 0
    IsProvedThere r = HasProof W [] (renumbered_reference ρ r)

    abbrev set_place : (f : CanonicalForm) → LinkedWith (meaning_for s f)
    set_place f = record {
      set = W;
      views = vs;
      rank = rank;
      linked = linked;
      numbers = ρ;
      crates = cs;
      holds = subst (HoldsView W) (sym (same-placed _ _ _ _ ρ (same-view s.view d c view) crate)) holds;
    }

    looked-in-set : (r : Reference) → some_node is_place r.args ≡ false → IsLookedFor s Coherence IsProvedThere r
    looked-in-set r h =
        (record { place = in_set (set_place (form r)); no_clauses = refl; no_placeholders = no-places is_place one-fine r h }, λ f x. record { asks = x.asks; proper = x.proper; closed = x.closed; proof = x.proof })

    module _ (sol : SolutionOfAll (HasProof W []) ks (map (renumbered_reference ρ) plainly)) where
      -- the values with the text's numbers
      abbrev own_values : List Trees
      own_values = map (renumbered (inverse ρ)) sol.values

      values-back : map (renumbered ρ) own_values ≡ sol.values
      values-back = map-back (renumbered ρ) (renumbered (inverse ρ)) (λ t. back (inverse ρ) t) sol.values

      all-back : (xs : List Reference) → Every (HasProof W []) (filled_references ks sol.values (map (renumbered_reference ρ) xs)) → Every IsProvedThere (filled_references ks own_values xs)
      all-back [] h = tt
      all-back (x ∷ xs) h = (
        subst (HasProof W []) (sym (over-filled-reference ρ ks own_values x ∙ ap (λ us. filled_reference ks us (renumbered_reference ρ x)) values-back)) h.0,
        all-back xs h.1,
      )

      unproved-linked : ⊥
      unproved-linked =
          none-refused s Coherence ks (given ks own_values) IsProvedThere looked-in-set (given-sorted ks own_values) (unbound_references rs)
          (all-solved ks own_values (over-fit (inverse ρ) ks sol.values sol.fitting) (over-each-closed (inverse ρ) sol.values sol.closed) IsProvedThere rs owns alone (all-back plainly sol.proved))
          depth refused.0 refused.1 refused.2

  pub all-refuted : AreRefuted (view_in d c) c ks plainly no
  all-refuted = (unproved-alone, λ W vs rank linked ρ holds sol. unproved-linked W vs rank linked ρ holds sol)

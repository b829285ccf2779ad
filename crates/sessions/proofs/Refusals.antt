-- What is refused in coherence has no solution by the asking crate's view alone, nor in a linked set with the crate.
use Rattle.std.proofs.Common.{◌≡◌, ℕ, Bool, IsTrue, not, List, [], map, refl, sym, ap, ◌∙◌, subst}
use Rattle.type_terms.specs.Promised.Label.{Label, Sort, of_lifetime, fn_ptr, principal, param, bound}
use Rattle.type_terms.specs.Promised.Trees.{Trees, none, tree, erase, erase_label}
use Rattle.type_terms.specs.Promised.Erased.{erased_world, erased_reference}
use Rattle.type_terms.specs.Promised.Worlds.{World, CrateDecl, Reference}
use Rattle.type_terms.specs.Promised.Proofs.{Every, HasProof}
use Rattle.type_terms.specs.Promised.Proofs.{HasElaboratedProof}
use Rattle.type_terms.specs.Promised.Answers.{is_closed}
use Rattle.type_terms.specs.Promised.Renumbering.{View, Renumbering, HoldsView, renumbered, renumbered_reference}
use Rattle.type_terms.specs.Promised.LinkedSet.{LinkedSet}
use Rattle.type_terms.proofs.RenumberedTrees.{inverse, back, map-back}
use Rattle.infer_table.specs.Canonical.{GoalTrees, CanonicalForm, canonical_form}
use Rattle.infer_table.specs.Responses.{AnswerTrees}
use Rattle.infer_table.specs.Solutions.{Assignment, IsSorted, instance}
use Rattle.infer_table.specs.declared.certainty.TypingMode.TheVariants.{Coherence}
use Rattle.solver_graph.specs.Roots.{fact_under}
use Rattle.candidate_model.specs.Meaning.{ViewMeaning, LinkedWith, SelfTypesBegin, SolutionPlace, by_view, in_set, proved_at}
use Rattle.candidate_model.specs.Solver.{solver_handled}
use Rattle.type_terms.specs.Promised.Verdicts.{placed}
use Rattle.type_terms.specs.Promised.Questions.{FitKinds, filled, filled_reference, SolutionBy, Solution}
use Rattle.overlap_check.proofs.Filling.{over-filled-reference, over-fit, over-each-closed, node}
use Rattle.text_language.specs.Promised.Declarations.{Declarations, Question}
use Rattle.text_lowering.specs.Promised.SeenWorlds.{all_kept, plain, plain_label, unbound_reference}
use Rattle.text_lowering.specs.Seen.{rules_seen_from}
use Rattle.text_lowering.specs.Promised.Questions.{variable_kinds}
use Rattle.text_lowering.specs.QuestionVariables.{HasVariablesAlone}
use Rattle.sessions.specs.Asking.{goal_alone}
use Rattle.sessions.specs.Promised.Promises.{view_in}
use Rattle.sessions.specs.Promises.{IsRefutedQuestion}
use Rattle.sessions.proofs.Given.{given, given-sorted, instance-is, instance-shut}
use Rattle.sessions.proofs.Posed.{no-placeholders}

abbrev with_crates : World → List CrateDecl → World
with_crates V cs = record V { crates = cs }

same-view : (V : World) (d : Declarations) (c : ℕ) → erased_world V ≡ rules_seen_from d c → with_crates (erased_world V) (view_in d c).crates ≡ view_in d c
same-view V d c e = ap (λ (W : World). with_crates W (view_in d c).crates) e

pub same-placed : (V W : World) (a b : ℕ) (ρ : Renumbering) → V ≡ W → a ≡ b → (let v : View = record { numbers = ρ; asker = a; world = V } in v) ≡ record { numbers = ρ; asker = b; world = W }
same-placed V W a b ρ e f = cc

label-erased : (l : Label) → erase_label (plain_label all_kept l) ≡ erase_label l
label-erased (param of_lifetime i) = refl
label-erased (bound of_lifetime j i) = refl
label-erased (fn_ptr n) = refl
label-erased (principal n t) = refl
label-erased l = refl

pub plain-erased : (t : Trees) → erase (plain all_kept t) ≡ erase t
plain-erased none = refl
plain-erased (tree l c o) = node (label-erased l) (plain-erased c) (plain-erased o)

pub same-args : (t : ℕ) (x y : Trees) → x ≡ y → (let r : Reference = record { trait = t; args = x } in r) ≡ record { trait = t; args = y }
same-args t x y e = cc

module _ (applicable : AnswerTrees → Bool) (same : AnswerTrees → AnswerTrees → Bool) (d : Declarations) (q : Question) (own : HasVariablesAlone q) where
  abbrev g : GoalTrees
  g = goal_alone (unbound_reference q.asked)

  abbrev f : CanonicalForm
  f = canonical_form g

  module _ (m : ViewMeaning) (view : erased_world m.view ≡ rules_seen_from d q.asker) (crate : m.crate ≡ q.asker) where
    -- in no world of the solver has the question a proof, whatever stands for its unknowns
    abbrev Refused : Type 0
    Refused = let h = solver_handled applicable same m Coherence f in (x : h.World) (s : Assignment) → IsSorted s → h.Proves x (fact_under s g) → ⊥

    abbrev ks : List Sort
    ks = variable_kinds q

    -- closed terms for the question's variables, by the text's numbers, with which it is proved in one of the solver's places
    module _ (refused : Refused) (p : SolutionPlace m) (ts : List Trees) (fit : FitKinds ks ts) (shut : Every (λ t. IsTrue (is_closed t)) ts) where
      abbrev S : Assignment
      S = given ks ts

      args-are : instance S (unbound_reference q.asked).args ≡ filled ks ts (erase q.asked.args)
      args-are = instance-is ks ts fit shut (unbound_reference q.asked).args own.0 ∙ ap (filled ks ts) (plain-erased q.asked.args)

      unproved-at : proved_at p (filled_reference ks ts (erased_reference q.asked)) → ⊥
      unproved-at proof =
          refused
          (record {
            place = p;
            no_clauses = refl;
            no_placeholders = no-placeholders ks (unbound_reference q.asked) own.0;
          })
          S (given-sorted ks ts)
          (record {
            asks = refl;
            proper = refl;
            closed = ap not (instance-shut ks ts fit shut (unbound_reference q.asked).args own.0);
            proof = subst (λ (r : Reference). proved_at p r) (sym (same-args q.asked.trait _ _ args-are)) proof;
          })

    -- by the view alone
    unproved-alone : Refused → SelfTypesBegin m.view → SolutionBy (HasElaboratedProof (view_in d q.asker) []) ks (erased_reference q.asked) → ⊥
    unproved-alone refused begin sol =
        unproved-at refused (by_view (view_in d q.asker).crates begin) sol.values sol.fitting sol.closed
        (subst (λ V. HasElaboratedProof V [] (filled_reference ks sol.values (erased_reference q.asked))) (sym (same-view m.view d q.asker view)) sol.proved)

    -- in a linked set
    module _ (refused : Refused) (W : World) (vs : List View) (rank : ℕ → ℕ) (linked : LinkedSet W vs rank) (ρ : Renumbering) (holds : HoldsView W (placed (view_in d q.asker) q.asker ρ))
        (sol : Solution W ks (renumbered_reference ρ (erased_reference q.asked))) where
      -- the values with the text's numbers
      abbrev own_values : List Trees
      own_values = map (renumbered (inverse ρ)) sol.values

      values-back : map (renumbered ρ) own_values ≡ sol.values
      values-back = map-back (renumbered ρ) (renumbered (inverse ρ)) (λ t. back (inverse ρ) t) sol.values

      abbrev set_place : LinkedWith m
      set_place = record {
        set = W;
        views = vs;
        rank = rank;
        linked = linked;
        numbers = ρ;
        crates = (view_in d q.asker).crates;
        holds = subst (HoldsView W) (sym (same-placed _ _ _ _ ρ (same-view m.view d q.asker view) crate)) holds;
      }

      unproved-linked : ⊥
      unproved-linked =
          unproved-at refused (in_set set_place) own_values (over-fit (inverse ρ) ks sol.values sol.fitting) (over-each-closed (inverse ρ) sol.values sol.closed)
          (subst (HasProof W [])
          (sym (over-filled-reference ρ ks own_values (erased_reference q.asked) ∙ ap (λ us. filled_reference ks us (renumbered_reference ρ (erased_reference q.asked))) values-back))
          sol.proved)

    pub refuted : Refused → SelfTypesBegin m.view → IsRefutedQuestion d q
    refuted refused begin = (unproved-alone refused begin, λ W vs rank linked ρ holds sol. unproved-linked refused W vs rank linked ρ holds sol)

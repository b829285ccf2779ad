-- Well-formed facts can be goals, and their premises are well-formed.
use Rattle.std.proofs.Common.{◌≡◌, ◌==◌, Bool, true, false, not, ◌||◌, List, [], ◌∷◌, ◌++◌, map, refl, ◌∙◌, ap, if◌then◌else◌}
use Rattle.type_terms.specs.Promised.Label.{Label, Sort, of_type, dynamic, adt, principal, auto_trait, of_trait, predicate}
use Rattle.type_terms.specs.Promised.Trees.{Trees, none, tree, is_sort, some_node}
use Rattle.type_terms.specs.Promised.Worlds.{World, Reference}
use Rattle.type_terms.specs.Promised.Rules.{Rule, rules, unsize, strict_supertraits}
use Rattle.type_terms.specs.Promised.Answers.{is_undeclared}
use Rattle.type_terms.specs.Promised.Walks.{trait_is}
use Rattle.type_terms.proofs.Members.{same-number}
use Rattle.type_terms.proofs.Walking.{both}
use Rattle.infer_table.specs.declared.certainty.TypingMode.{TypingMode}
use Rattle.infer_table.specs.declared.certainty.TypingMode.TheVariants.{Coherence, PostAnalysis}
use Rattle.goal_evaluator.specs.Lists.{Every}
use Rattle.goal_evaluator.specs.Content.{Fact}
use Rattle.declarations.specs.Applied.{sorts_of}
use Rattle.solver_completeness.specs.ModelWays.{ways_under}
use Rattle.solver_completeness.proofs.MovedWays.{every-to}
use Rattle.candidate_model.specs.Facts.{clauses_of, reference_in, beside}
use Rattle.candidate_model.specs.DeclaredWell.{IsDeclaredWell}
use Rattle.candidate_model.specs.Knowing.{is_knowable}
use Rattle.candidate_model.specs.Meaning.{ViewMeaning}
use Rattle.candidate_model.specs.Asking.{next_of}
use Rattle.solver_completeness.specs.RowWays.{autos_stand_once}
use Rattle.solver_completeness.specs.SolverChoices.{IsElaborated}
use Rattle.solver_completeness.specs.SolverWays.{facts_beside}
use Rattle.solver_completeness.specs.SolverGoals.{ways_by}
use Rattle.solver_completeness.specs.GoalSets.{begins_typed, IsAskableFact}
use Rattle.solver_completeness.specs.FormedFacts.{Sorts, NodesFit, IsFormed, IsFormedFact, IsFormedView, FormedAreKept}
use Rattle.solver_completeness.proofs.FormedFacts.{begins, supers-good, rules-good}
use Rattle.goal_evaluator.proofs.Basics.{every-append}
use Rattle.type_terms.proofs.BooleanBasics.{none-of}

module _ (V : World) (sorts : Sorts) where
  label-declared : (l : Label) (c : Trees) → NodesFit V sorts (tree l c none) → is_undeclared V l ≡ false
  label-declared (adt s) c h = ap not h.0.0
  label-declared (principal n t) c h = ap not h.0.0
  label-declared (auto_trait t) c h = ap not h.0.0
  label-declared (predicate (of_trait t)) c h = ap not h.0.0
  label-declared l c h = refl

  names-declared : (t : Trees) → NodesFit V sorts t → some_node (is_undeclared V) t ≡ false
  names-declared none h = refl
  names-declared (tree l c o) h =
      none-of (is_undeclared V l) (some_node (is_undeclared V) c) (some_node (is_undeclared V) o) (label-declared l c (h.0, h.1, tt)) (names-declared c h.1) (names-declared o h.2)

  stand-once : (t : Trees) → NodesFit V sorts t → autos_stand_once t ≡ true
  stand-once none h = refl
  stand-once (tree dynamic c o) h = h.0
  stand-once (tree l c o) h = refl

  module _ (well : IsDeclaredWell V) (view : IsFormedView V sorts) where
    targets : (r : Reference) → IsFormed V sorts r → (not (r.trait == unsize) || begins_typed (next_of r.args)) ≡ true
    targets r h = by (r.trait == unsize) refl
      where
        second : List Sort → Bool
        second [] = false
        second (s ∷ []) = false
        second (s ∷ k ∷ ss) = is_sort k of_type

        by-second : (t : Trees) → begins_typed (next_of t) ≡ second (sorts_of t)
        by-second none = refl
        by-second (tree l c none) = refl
        by-second (tree l c (tree m d o)) = refl

        by : (b : Bool) → (r.trait == unsize) ≡ b → (not b || begins_typed (next_of r.args)) ≡ true
        by true e = by-second r.args ∙ ap second (h.trait.1 ∙ ap sorts.of_trait (same-number r.trait unsize e) ∙ view.unsizes)
        by false e = refl

    askable : (f : Fact) → IsFormedFact V sorts f → IsAskableFact V f
    askable f h = record {
      goal = record { plain = h.plain; once = stand-once (reference_in f).args h.reference.args.nodes; elaborated = h.elaborated };
      made = h.reference.args.made;
      written = both (trait_is (λ z. true) V (reference_in f).trait) _ h.reference.trait.0 (ap not (names-declared (reference_in f).args h.reference.args.nodes));
      begins = begins V sorts well view (reference_in f) h.reference;
      target = targets (reference_in f) h.reference;
    }

    -- ---- along ways
    beside-formed : (f : Fact) → IsElaborated V (clauses_of f.goal.environment) → (r : Reference) → IsFormed V sorts r → IsFormedFact V sorts (beside f r)
    beside-formed f e r h = record { plain = ap (λ b. not (b || false)) h.args.plain; reference = h; elaborated = e }

    facts-formed : (f : Fact) → IsElaborated V (clauses_of f.goal.environment) → (ways : List (List Reference)) → Every (Every (IsFormed V sorts)) ways → Every (Every (IsFormedFact V sorts)) (facts_beside f ways)
    facts-formed f e ways h =
        every-to (map (beside f)) (Every (IsFormedFact V sorts)) (Every (IsFormed V sorts)) (λ ps i. every-to (beside f) (IsFormedFact V sorts) (IsFormed V sorts) (beside-formed f e) ps i) ways h

    by-rules : (E : List Reference) (r : Reference) → IsFormed V sorts r → Every (Every (IsFormed V sorts)) (ways_under V E r)
    by-rules E r h = every-to (λ (u : Rule). u.premises) (Every (IsFormed V sorts)) (λ (u : Rule). Every (IsFormed V sorts) u.premises) (λ u k. k) (rules V E r) (rules-good V sorts well view E r h)

    by-supers : (b : Bool) (r : Reference) → IsFormed V sorts r → Every (Every (IsFormed V sorts)) (if b then [] else strict_supertraits V r ∷ [])
    by-supers true r h = tt
    by-supers false r h = (supers-good V sorts well view r h, tt)

ways-formed : (m : ViewMeaning) (mode : TypingMode) (sorts : Sorts) → IsDeclaredWell m.view → IsFormedView m.view sorts → (f : Fact) → IsFormedFact m.view sorts f → Every (Every (IsFormedFact m.view sorts)) (ways_by m mode f)
ways-formed m PostAnalysis sorts well view f h =
    facts-formed m.view sorts well view f h.elaborated (ways_under m.view (clauses_of f.goal.environment) (reference_in f)) (by-rules m.view sorts well view (clauses_of f.goal.environment) (reference_in f) h.reference)
ways-formed m Coherence sorts well view f h =
    let r = reference_in f in
    let E = clauses_of f.goal.environment in
    facts-formed m.view sorts well view f h.elaborated (ways_under m.view E r ++ (if is_knowable m.view m.crate r then [] else strict_supertraits m.view r ∷ []))
    (every-append (Every (IsFormed m.view sorts)) (ways_under m.view E r) (if is_knowable m.view m.crate r then [] else strict_supertraits m.view r ∷ [])
    (by-rules m.view sorts well view E r h.reference) (by-supers m.view sorts well view (is_knowable m.view m.crate r) r h.reference))

pub formed-are-kept : FormedAreKept
formed-are-kept m mode sorts well view = record { askable = askable m.view sorts well view; kept = ways-formed m mode sorts well view }

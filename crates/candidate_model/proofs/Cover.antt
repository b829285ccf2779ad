-- In every linked set with the crate each solution of a goal is one by a candidate.
use Rattle.std.proofs.Common.{◌≡◌, true, false, not, ◌&&◌, ◌||◌, ◌==◌, List, [], ◌∷◌, refl, sym, ◌∙◌, ap, subst, Option, Some, None}
use Rattle.type_terms.specs.Promised.Label.{of_trait, predicate}
use Rattle.type_terms.specs.Promised.Trees.{Trees, none, tree}
use Rattle.type_terms.specs.Promised.Worlds.{World, Reference}
use Rattle.type_terms.specs.Promised.Rules.{unsize}
use Rattle.type_terms.specs.Promised.Answers.{written_in}
use Rattle.type_terms.specs.Promised.Walks.{is_known_in}
use Rattle.type_terms.proofs.Walking.{left, right}
use Rattle.type_terms.specs.Made.{terms}
use Rattle.type_terms.specs.Made.{is_made}
use Rattle.infer_table.specs.declared.canonical.CanonicalVarKind.{CanonicalVarKind}
use Rattle.goal_evaluator.specs.Lists.{Every, SomeOf}
use Rattle.goal_evaluator.proofs.ListLaws.{Every-map, Every-mono}
use Rattle.goal_evaluator.specs.Instances.{read_with}
use Rattle.goal_evaluator.specs.Content.{given, trait_of}
use Rattle.goal_evaluator.specs.FrameTables.{kinds_known}
use Rattle.candidate_model.specs.Facts.{reference_in, children_of, trait_or_first}
use Rattle.declarations.specs.Promised.Elaboration.{supertraits}
use Rattle.candidate_model.specs.Meaning.{ViewMeaning}
use Rattle.candidate_model.specs.Knowing.{is_knowable}
use Rattle.candidate_model.specs.Declared.{is_declared_view}
use Rattle.candidate_model.specs.Asking.{GoalOverKinds, asked_with, with_first, all_known, are_clauses, begins_with_type, next_of}
use Rattle.goal_evaluator.specs.Variables.{is_variable_over}
use Rattle.candidate_model.specs.Candidates.{premise, unknowable}
use Rattle.candidate_model.specs.Solver.{IsSolution}
use Rattle.candidate_model.specs.Cover.{slots, nested_at, SolvesEquations, all_candidates, goal_fact}
use Rattle.candidate_model.proofs.HavingViews.{ViewRulesAreCandidates, ThereAreCandidates}
use Rattle.candidate_model.proofs.Knowing.{instances-are-known}
use Rattle.candidate_model.proofs.Reading.{read_reference}
use Rattle.candidate_model.proofs.Agreeing.{own-read}
use Rattle.candidate_model.proofs.Supers.{Proved, supertraits-proved}
use Rattle.candidate_model.proofs.TypeBasics.{if-asked}

-- ---- what is asked
pub record IsAsked (V : World) (environment asks : Trees) (kinds : Option (List CanonicalVarKind)) (a : GoalOverKinds) : Type 0 where
  pub predicate_is : asks ≡ tree (predicate (of_trait a.reference.trait)) a.reference.args none
  pub environment_is : environment ≡ a.environment
  pub kinds_are : kinds ≡ Some a.kinds
  pub written : written_in V a.reference ≡ true
  pub over : is_made (is_variable_over a.kinds) terms a.reference.args ≡ true
  pub begins : begins_with_type a.reference.args ≡ true
  pub target : (not (a.reference.trait == unsize) || begins_with_type (next_of a.reference.args)) ≡ true

pub asked-by : (V : World) (environment asks : Trees) (kinds : Option (List CanonicalVarKind)) (a : GoalOverKinds) → asked_with V environment asks kinds ≡ Some a → IsAsked V environment asks kinds a
asked-by V environment (tree (predicate (of_trait t)) args none) (Some ks) a e =
    let own : GoalOverKinds = record { kinds = ks; environment = environment; reference = record { trait = t; args = args } } in
    let x = if-asked (written_in V own.reference && (is_made (is_variable_over ks) terms args && ((begins_with_type args && (not (t == unsize) || begins_with_type (next_of args))) && are_clauses ks environment))) own a e in
    let q = right (written_in V own.reference) (is_made (is_variable_over ks) terms args && ((begins_with_type args && (not (t == unsize) || begins_with_type (next_of args))) && are_clauses ks environment)) x.0 in
    let heads = left (begins_with_type args && (not (t == unsize) || begins_with_type (next_of args))) (are_clauses ks environment) (right (is_made (is_variable_over ks) terms args) ((begins_with_type args && (not (t == unsize) || begins_with_type (next_of args))) && are_clauses ks environment) q) in
    subst (IsAsked V environment (tree (predicate (of_trait t)) args none) (Some ks)) x.1 (record {
      predicate_is = refl;
      environment_is = refl;
      kinds_are = refl;
      written = left (written_in V own.reference) (is_made (is_variable_over ks) terms args && ((begins_with_type args && (not (t == unsize) || begins_with_type (next_of args))) && are_clauses ks environment)) x.0;
      over = left (is_made (is_variable_over ks) terms args) ((begins_with_type args && (not (t == unsize) || begins_with_type (next_of args))) && are_clauses ks environment) q;
      begins = left (begins_with_type args) (not (t == unsize) || begins_with_type (next_of args)) heads;
      target = right (begins_with_type args) (not (t == unsize) || begins_with_type (next_of args)) heads;
    })
asked-by V environment (tree (predicate (of_trait t)) args none) None a e = absurd (cc)
asked-by V environment asks kinds a e = absurd (cc)

pub known-kinds : (os : List (Option CanonicalVarKind)) (ks : List CanonicalVarKind) → all_known os ≡ Some ks → kinds_known os ≡ ks
known-kinds [] ks e = cc
known-kinds (None ∷ os) ks e = absurd (cc)
known-kinds (Some k ∷ os) ks e = by (all_known os) e (λ js f. known-kinds os js f) refl
  where
    by : (o : Option (List CanonicalVarKind)) → with_first (Some k) o ≡ Some ks → ((js : List CanonicalVarKind) → all_known os ≡ Some js → kinds_known os ≡ js) → all_known os ≡ o → k ∷ kinds_known os ≡ ks
    by None f go g = absurd (cc)
    by (Some js) f go g = let h = go js g in cc

-- ---- solutions
module _ (m : ViewMeaning) (declared : is_declared_view m.view ≡ true) (complete : ViewRulesAreCandidates m) where
  pub solutions-are-candidates : ThereAreCandidates m
  solutions-are-candidates H f a e known w v s = (by-view, by-others)
    where
      is : IsAsked m.view f.goal.environment f.goal.predicate (all_known f.kinds) a
      is = asked-by m.view f.goal.environment f.goal.predicate (all_known f.kinds) a e

      reference-is : reference_in (goal_fact f v) ≡ read_reference v.terms a.reference
      reference-is = ap (λ p. record { trait = trait_or_first (trait_of p); args = children_of (read_with (given v.terms) p) }) is.predicate_is

      by-view : is_knowable m.view m.crate a.reference ≡ true → SomeOf (SolvesEquations H a.kinds v) (all_candidates m.view a)
      by-view k =
          let r = subst (λ z. is_known_in m.view m.crate z ≡ true) (sym reference-is) (instances-are-known (is_variable_over a.kinds) m.view m.crate a.reference is.over k v.terms) in
          let u = w.linked.rule (reference_in (goal_fact f v)) s.closed r s.proof in
          complete H f a e known w.linked.leads w.no_placeholders v s u.0 u.1 u.2

      goal-proved : Proved H (read_reference (slots a.kinds v []) a.reference)
      goal-proved =
          subst (Proved H) (reference-is ∙ ap (λ z. record { trait = a.reference.trait; args = z }) (sym (own-read a.kinds v.terms [] a.reference.args is.over))) (s.closed, s.proof)

      supers : Every (λ r. Proved H (read_reference (slots a.kinds v []) r)) (supertraits m.view a.reference)
      supers = supertraits-proved m.view m.crate H w.linked declared (slots a.kinds v []) a.reference goal-proved

      solution : (r : Reference) → Proved H (read_reference (slots a.kinds v []) r) → IsSolution H (nested_at (slots a.kinds v []) (premise a false r))
      solution r p = record { asks = refl; proper = refl; closed = p.0; proof = p.1 }

      by-others : SolvesEquations H a.kinds v (unknowable m.view a)
      by-others = record {
        own = [];
        sorted = refl;
        equal = tt;
        solves =
            Every-map (λ n. IsSolution H (nested_at (slots a.kinds v []) n)) (premise a false) (supertraits m.view a.reference)
            (Every-mono (λ r. Proved H (read_reference (slots a.kinds v []) r)) (λ r. IsSolution H (nested_at (slots a.kinds v []) (premise a false r))) solution (supertraits m.view a.reference) supers);
      }

-- Goals in canonical form.
use Rattle.std.proofs.Common.{◌≡◌, Bool, true, false, List, [], ◌∷◌, map, refl, ◌∙◌, ap, subst, Option, Some, None, if◌then◌else◌}
use Rattle.type_terms.specs.Promised.Label.{of_trait, predicate}
use Rattle.type_terms.specs.Promised.Trees.{Trees, none, tree}
use Rattle.type_terms.specs.Made.{terms, is_made}
use Rattle.infer_table.specs.Canonical.{CanonicalForm}
use Rattle.infer_table.specs.declared.canonical.CanonicalVarKind.{CanonicalVarKind}
use Rattle.goal_evaluator.specs.FrameTables.{kinds_known}
use Rattle.type_terms.proofs.Made.{left, right}
use Rattle.goal_frames.specs.Rules.{TraitBound, goal_of, BoundIsOver}
use Rattle.goal_evaluator.specs.Variables.{is_variable_over}
use Rattle.goal_frames.specs.Handlers.{BareGoal, with_first, all_known, bound_of, places_stand, is_asked, asked_with, bare_goal}
use Rattle.goal_frames.proofs.KnownKinds.{all-known}

pub record IsAsked (f : CanonicalForm) (a : BareGoal) : Type 0 where
  pub kinds : f.kinds ≡ map Some a.kinds
  pub goal : f.goal ≡ goal_of a.bound
  pub over : BoundIsOver a.kinds a.bound
  pub places : places_stand 0 a.kinds a.bound.arguments ≡ true

known-next : (o : Option CanonicalVarKind) (os : List (Option CanonicalVarKind)) (r : Option (List CanonicalVarKind)) (ks : List CanonicalVarKind)
    → ((js : List CanonicalVarKind) → r ≡ Some js → os ≡ map Some js) → with_first o r ≡ Some ks → o ∷ os ≡ map Some ks
known-next None os r ks f e = absurd (cc)
known-next (Some k) os None ks f e = absurd (cc)
known-next (Some k) os (Some js) ks f e = ap (λ z. Some k ∷ z) (f js refl) ∙ ap (map Some) (same e)
  where
    same : Some (k ∷ js) ≡ Some ks → k ∷ js ≡ ks
    same e = cc

known-are : (os : List (Option CanonicalVarKind)) (ks : List CanonicalVarKind) → all_known os ≡ Some ks → os ≡ map Some ks
known-are [] ks e = ap (map Some) (same e)
  where
    same : Some [] ≡ Some ks → [] ≡ ks
    same e = cc
known-are (o ∷ os) ks e = known-next o os (all_known os) ks (λ js f. known-are os js f) e

bound-is : (e p : Trees) (b : TraitBound) → bound_of e p ≡ Some b → record { environment = e; predicate = p } ≡ goal_of b
bound-is none (tree (predicate (of_trait i)) c none) b h = ap goal_of (same h)
  where
    same : ◌≡◌ {A = Option TraitBound} (Some (record { trait = i; arguments = c })) (Some b) → record { trait = i; arguments = c } ≡ b
    same h = cc
bound-is e p b h = absurd (cc)

asked-at : (f : CanonicalForm) (a : BareGoal) (ks : List CanonicalVarKind) (b : TraitBound) (t : Bool) → is_asked ks b ≡ t → f.kinds ≡ map Some ks → f.goal ≡ goal_of b
    → ◌≡◌ {A = Option BareGoal} (if t then Some (record { kinds = ks; bound = b }) else None) (Some a) → IsAsked f a
asked-at f a ks b false t p q e = absurd (cc)
asked-at f a ks b true t p q e =
    subst (IsAsked f) (same e)
    (record { kinds = p; goal = q; over = left (is_made (is_variable_over ks) terms b.arguments) _ t; places = right (is_made (is_variable_over ks) terms b.arguments) _ t })
  where
    same : ◌≡◌ {A = Option BareGoal} (Some (record { kinds = ks; bound = b })) (Some a) → record { kinds = ks; bound = b } ≡ a
    same e = cc

pub asked-is : (f : CanonicalForm) (a : BareGoal) → bare_goal f ≡ Some a → IsAsked f a
asked-is f a e = by (all_known f.kinds) (bound_of f.goal.environment f.goal.predicate) (λ ks k. known-are f.kinds ks k) (λ b h. bound-is f.goal.environment f.goal.predicate b h) e
  where
    by : (o : Option (List CanonicalVarKind)) (p : Option TraitBound) → ((ks : List CanonicalVarKind) → o ≡ Some ks → f.kinds ≡ map Some ks) → ((b : TraitBound) → p ≡ Some b → f.goal ≡ goal_of b)
        → asked_with o p ≡ Some a → IsAsked f a
    by None p k h e = absurd (cc)
    by (Some ks) None k h e = absurd (cc)
    by (Some ks) (Some b) k h e = asked-at f a ks b (is_asked ks b) refl (k ks refl) (h b refl) e

pub kinds-are : (f : CanonicalForm) (a : BareGoal) → IsAsked f a → kinds_known f.kinds ≡ a.kinds
kinds-are f a h = ap kinds_known h.kinds ∙ all-known a.kinds

-- The candidates of `Unsize` together: where one rule has a candidate the others have none.
use Rattle.std.proofs.Common.{◌≡◌, ℕ, zero, suc, Bool, true, false, if◌then◌else◌, List, [], ◌∷◌, ◌++◌, refl, sym, ap, ◌∙◌, subst, Option, Some, None, option_map}
use Rattle.std.specs.Prelude.{◌==◌}
use Rattle.std.specs.List.{slice_get}
use Rattle.type_terms.specs.Promised.Label.{Label, Sort, of_type, of_lifetime, array, slice, adt, dynamic, param, placeholder, infer, canonical, bound}
use Rattle.type_terms.specs.Promised.Trees.{Trees, none, tree, nth, ◌+++◌, IsA, erase_label}
use Rattle.type_terms.specs.Promised.Worlds.{World}
use Rattle.type_terms.specs.Promised.Rules.{is_dyn, unsize, unsize_to_dyn_rules}
use Rattle.type_terms.specs.Promised.Handles.{Entry}
use Rattle.term_folds.specs.Signatures.{StartsWithType}
use Rattle.goal_evaluator.specs.declared.candidate.CandidateSpec.{CandidateSpec}
use Rattle.declarations.specs.Items.{Items}
use Rattle.infer_table.specs.declared.canonical.CanonicalVarKind.{CanonicalVarKind}
use Rattle.candidate_model.specs.Asking.{GoalOverKinds, self_of, next_of, with_plain_head, begins_unknown}
use Rattle.candidate_model.specs.Candidates.{Candidate, as_written, misc, if_so, unsure, unsize_array_of, upcasts_of, unsize_struct_of, unsize_known, unsize_recording, by_unsize}
use Rattle.built_in_candidates.specs.Goals.{candidate_of}
use Rattle.structural_traits.specs.Constituents.{StructIsApplied}
use Rattle.built_in_candidates.specs.Constituents.{candidates_of}
use Rattle.built_in_candidates.specs.Objects.{bounds_of}
use Rattle.built_in_candidates.specs.Unsizing.{BeginsWith, TargetIsApplied}
use Rattle.built_in_candidates.proofs.Objects.{differ}
use Rattle.built_in_candidates.proofs.Pairs.{IsOneTree}
use Rattle.built_in_candidates.proofs.ToDyn.{no-dyn, to-other}
use Rattle.type_terms.proofs.ListBasics.{append-none}

-- ---- the candidate at a place
pub place-first : (V : World) (t : ℕ) (es : List Entry) (o : Option CandidateSpec) (n : ℕ) → n ≡ 0 → option_map (candidate_of V t es) o ≡ slice_get (candidates_of V t es o) n
place-first V t es None n e = refl
place-first V t es (Some s) n e = ap (slice_get (candidate_of V t es s ∷ [])) (sym e)

pub place-later : (V : World) (t : ℕ) (es : List Entry) (o : Option CandidateSpec) (n : ℕ) → (n ≡ 0 → ⊥) → None ≡ slice_get (candidates_of V t es o) n
place-later V t es None n h = refl
place-later V t es (Some s) zero h = absurd (h refl)
place-later V t es (Some s) (suc n) h = refl

-- ---- one rule at a time
module _ (V : World) (a : GoalOverKinds) where
  array-erased : (l : Label) (c t : Trees) → unsize_array_of V a (tree l c t) ≡ unsize_array_of V a (tree (erase_label l) c t)
  array-erased (param of_lifetime i) c t = refl
  array-erased (param s i) c t = refl
  array-erased (placeholder of_lifetime i) c t = refl
  array-erased (placeholder s i) c t = refl
  array-erased (infer of_lifetime i) c t = refl
  array-erased (infer s i) c t = refl
  array-erased (canonical of_lifetime i) c t = refl
  array-erased (canonical s i) c t = refl
  array-erased (bound of_lifetime k i) c t = refl
  array-erased (bound s k i) c t = refl
  array-erased l c t = refl

  struct-erased : (l : Label) (c t : Trees) → unsize_struct_of V a (tree l c t) ≡ unsize_struct_of V a (tree (erase_label l) c t)
  struct-erased (param of_lifetime i) c t = refl
  struct-erased (param s i) c t = refl
  struct-erased (placeholder of_lifetime i) c t = refl
  struct-erased (placeholder s i) c t = refl
  struct-erased (infer of_lifetime i) c t = refl
  struct-erased (infer s i) c t = refl
  struct-erased (canonical of_lifetime i) c t = refl
  struct-erased (canonical s i) c t = refl
  struct-erased (bound of_lifetime k i) c t = refl
  struct-erased (bound s k i) c t = refl
  struct-erased l c t = refl

  array-to-dyn : (l : Label) (c d o : Trees) → unsize_array_of V a (tree l c (tree dynamic d o)) ≡ []
  array-to-dyn array none d o = refl
  array-to-dyn array (tree m b p) d o = refl
  array-to-dyn l c d o = refl

  upcast-from-other : (l : Label) (c d o : Trees) → is_dyn l ≡ false → upcasts_of V a (tree l c (tree dynamic d o)) ≡ []
  upcast-from-other dynamic c d o e = absurd cc
  upcast-from-other l c d o e = refl

  upcast-to-other : (l : Label) (c : Trees) (m : Label) (d o : Trees) → bounds_of (tree m d o) ≡ None → upcasts_of V a (tree l c (tree m d o)) ≡ []
  upcast-to-other dynamic c dynamic d o e = absurd cc
  upcast-to-other dynamic c m d o e = refl
  upcast-to-other l c m d o e = refl

  struct-to-dyn : (l : Label) (c d o : Trees) → unsize_struct_of V a (tree l c (tree dynamic d o)) ≡ []
  struct-to-dyn (adt s) c d o = refl
  struct-to-dyn l c d o = refl

  array-no-struct : (l : Label) (c t : Trees) (x : Candidate) → x ∷ [] ≡ unsize_array_of V a (tree l c t) → unsize_struct_of V a (tree l c t) ≡ []
  array-no-struct array c t x e = refl
  array-no-struct l c t x e = absurd cc

  abbrev to_dyn_rows : Trees → List Candidate
  to_dyn_rows args = as_written V a misc (unsize_to_dyn_rules V args)

  joined : (p q r s p' q' r' s' : List Candidate) → p ≡ p' → q ≡ q' → r ≡ r' → s ≡ s' → p ++ (q ++ (r ++ s)) ≡ p' ++ (q' ++ (r' ++ s'))
  joined p q r s p' q' r' s' e f g h = cc

  -- a `dyn` to a `dyn`
  pub known-upcasts : (S T b d : Trees) → S ≡ tree dynamic b none → T ≡ tree dynamic d none → upcasts_of V a (S +++ T) ≡ unsize_known V a (with_plain_head S +++ T)
  known-upcasts S T b d e f =
      ap (λ s. upcasts_of V a (s +++ T)) e ∙ ap (λ t. upcasts_of V a (tree dynamic b t)) f
      ∙ sym (append-none (upcasts_of V a (tree dynamic b (tree dynamic d none))))
      ∙ ap (λ t. unsize_known V a (tree dynamic b t)) (sym f) ∙ ap (λ s. unsize_known V a (with_plain_head s +++ T)) (sym e)

  -- another type to a `dyn`
  to-dyn-alone : (l : Label) (c d o : Trees) → is_dyn l ≡ false → to_dyn_rows (tree l c (tree dynamic d o)) ≡ unsize_known V a (tree l c (tree dynamic d o))
  to-dyn-alone l c d o e =
      let args = tree l c (tree dynamic d o) in
      sym (append-none (to_dyn_rows args)) ∙ sym (joined _ _ _ _ [] (to_dyn_rows args) [] [] (array-to-dyn l c d o) refl (upcast-from-other l c d o e) (struct-to-dyn l c d o))

  pub known-to-dyn : (S T d : Trees) → IsA of_type S → bounds_of S ≡ None → T ≡ tree dynamic d none → to_dyn_rows (with_plain_head S +++ T) ≡ unsize_known V a (with_plain_head S +++ T)
  known-to-dyn none T d h e f = absurd h
  known-to-dyn (tree l c o) T d h e f =
      subst (λ z. to_dyn_rows (tree (erase_label l) c (z +++ T)) ≡ unsize_known V a (tree (erase_label l) c (z +++ T))) (sym h.1)
      (subst (λ t. to_dyn_rows (tree (erase_label l) c t) ≡ unsize_known V a (tree (erase_label l) c t)) (sym f) (to-dyn-alone (erase_label l) c d none (no-dyn l c o e)))

  -- a type to one that is no `dyn`
  other-alone : (l : Label) (c : Trees) (m : Label) (d o : Trees) → bounds_of (tree m d o) ≡ None
      → unsize_known V a (tree (erase_label l) c (tree m d o)) ≡ unsize_array_of V a (tree l c (tree m d o)) ++ unsize_struct_of V a (tree l c (tree m d o))
  other-alone l c m d o e =
      joined _ _ _ _ (unsize_array_of V a (tree l c (tree m d o))) [] [] (unsize_struct_of V a (tree l c (tree m d o))) (sym (array-erased l c (tree m d o)))
      (sym (to-other V a (erase_label l) c m d o e)) (upcast-to-other (erase_label l) c m d o e) (sym (struct-erased l c (tree m d o)))

  known-other : (S T : Trees) → IsA of_type S → IsA of_type T → bounds_of T ≡ None → unsize_known V a (with_plain_head S +++ T) ≡ unsize_array_of V a (S +++ T) ++ unsize_struct_of V a (S +++ T)
  known-other none T h g e = absurd h
  known-other (tree l c o) none h g e = absurd g
  known-other (tree l c o) (tree m d p) h g e =
      subst
      (λ z. unsize_known V a (tree (erase_label l) c (z +++ tree m d p)) ≡ unsize_array_of V a (tree l c (z +++ tree m d p)) ++ unsize_struct_of V a (tree l c (z +++ tree m d p)))
      (sym h.1) (other-alone l c m d p e)

  array-first : (S T : Trees) (x : Candidate) → IsA of_type S → x ∷ [] ≡ unsize_array_of V a (S +++ T) → unsize_struct_of V a (S +++ T) ≡ []
  array-first none T x h e = absurd h
  array-first (tree l c o) T x h e = array-no-struct l c (o +++ T) x e

  pub known-array : (S T : Trees) (x : Candidate) → IsA of_type S → IsA of_type T → bounds_of T ≡ None → x ∷ [] ≡ unsize_array_of V a (S +++ T) → x ∷ [] ≡ unsize_known V a (with_plain_head S +++ T)
  known-array S T x h g e f =
      f ∙ sym (append-none (unsize_array_of V a (S +++ T))) ∙ ap (λ l. unsize_array_of V a (S +++ T) ++ l) (sym (array-first S T x h f)) ∙ sym (known-other S T h g e)

  pub known-struct : (S T : Trees) → IsA of_type S → IsA of_type T → bounds_of T ≡ None → [] ≡ unsize_array_of V a (S +++ T) → unsize_struct_of V a (S +++ T) ≡ unsize_known V a (with_plain_head S +++ T)
  known-struct S T h g e f = ap (λ l. l ++ unsize_struct_of V a (S +++ T)) f ∙ sym (known-other S T h g e)

  -- ---- further arguments do not count
  array-alone : (l : Label) (c : Trees) (m : Label) (d o : Trees) → unsize_array_of V a (tree l c (tree m d none)) ≡ unsize_array_of V a (tree l c (tree m d o))
  array-alone array none m d o = refl
  array-alone array (tree k b p) slice none o = refl
  array-alone array (tree k b p) slice (tree j e q) o = refl
  array-alone array (tree k b p) m d o = refl
  array-alone l c m d o = refl

  dyn-alone : (l : Label) (c : Trees) (m : Label) (d o : Trees) → to_dyn_rows (tree l c (tree m d none)) ≡ to_dyn_rows (tree l c (tree m d o))
  dyn-alone l c dynamic d o = refl
  dyn-alone l c m d o = refl

  upcast-alone : (l : Label) (c : Trees) (m : Label) (d o : Trees) → upcasts_of V a (tree l c (tree m d none)) ≡ upcasts_of V a (tree l c (tree m d o))
  upcast-alone dynamic c dynamic d o = refl
  upcast-alone dynamic c m d o = refl
  upcast-alone l c m d o = refl

  struct-alone : (l : Label) (c : Trees) (m : Label) (d o : Trees) → unsize_struct_of V a (tree l c (tree m d none)) ≡ unsize_struct_of V a (tree l c (tree m d o))
  struct-alone (adt s) c (adt u) d o = refl
  struct-alone (adt s) c m d o = refl
  struct-alone l c m d o = refl

  known-alone : (l : Label) (c : Trees) (m : Label) (d o : Trees) → unsize_known V a (tree l c (tree m d none)) ≡ unsize_known V a (tree l c (tree m d o))
  known-alone l c m d o = joined _ _ _ _ _ _ _ _ (array-alone l c m d o) (dyn-alone l c m d o) (upcast-alone l c m d o) (struct-alone l c m d o)

  -- the self type and the target of the goal
  pub known-goal : (T S X : Trees) → StartsWithType T → S ≡ nth T 0 → IsA of_type X → BeginsWith (next_of T) X → unsize_known V a (with_plain_head S +++ X) ≡ unsize_known V a (with_plain_head T)
  known-goal none S X s e h g = absurd s
  known-goal (tree l c o) S none s e h g = absurd h
  known-goal (tree l c o) S (tree m d p) s e h g =
      ap (λ z. unsize_known V a (with_plain_head z +++ tree m d p)) e ∙ ap (λ z. unsize_known V a (tree (erase_label l) c (tree m d z))) h.1
      ∙ known-alone (erase_label l) c m d g.0 ∙ ap (λ z. unsize_known V a (tree (erase_label l) c (tree m d (z +++ g.0)))) (sym h.1)
      ∙ ap (λ t. unsize_known V a (tree (erase_label l) c t)) (sym g.1)

pub next-plain : (T : Trees) → StartsWithType T → next_of T ≡ next_of (with_plain_head T)
next-plain none s = absurd s
next-plain (tree l c o) s = refl

-- what the trees that begin with a type begin with is one
pub starts-type : (t : Trees) (s : Sort) (x rest : Trees) → IsOneTree s x → t ≡ x +++ rest → StartsWithType t → s ≡ of_type
starts-type t s x rest h e starts = sym h.sort ∙ subst StartsWithType (e ∙ ap (λ z. z +++ rest) h.is) starts

-- ---- whether the target is unknown
unknown-first : (kinds : List CanonicalVarKind) (l : Label) (c o p : Trees) → begins_unknown kinds (tree l c o) ≡ begins_unknown kinds (tree l c p)
unknown-first kinds (canonical of_type i) c o p = refl
unknown-first kinds (canonical s i) c o p = refl
unknown-first kinds l c o p = refl

pub target-unknown : (kinds : List CanonicalVarKind) (T X : Trees) → StartsWithType T → IsA of_type X → BeginsWith (next_of T) X → begins_unknown kinds X ≡ begins_unknown kinds (next_of (with_plain_head T))
target-unknown kinds none X s h g = absurd s
target-unknown kinds (tree l c o) none s h g = absurd h
target-unknown kinds (tree l c o) (tree m d p) s h g = unknown-first kinds m d p (p +++ g.0) ∙ ap (begins_unknown kinds) (sym g.1)

-- ---- what is asked of the goal is so of its types
target-alone : (d : Items) (l : Label) (c : Trees) (m : Label) (b o p : Trees) → TargetIsApplied d (tree l c (tree m b o)) → TargetIsApplied d (tree l c (tree m b p))
target-alone d l c dynamic b o p h = h
target-alone d l c (adt s) b o p h = h
target-alone d l c m b o p h = tt

pub target-applied : (d : Items) (T S X : Trees) → StartsWithType T → S ≡ nth T 0 → IsA of_type X → BeginsWith (next_of T) X → TargetIsApplied d (with_plain_head T) → TargetIsApplied d (with_plain_head S +++ X)
target-applied d none S X s e h g t = absurd s
target-applied d (tree l c o) S none s e h g t = absurd h
target-applied d (tree l c o) S (tree m b p) s e h g t =
    subst (λ z. TargetIsApplied d (with_plain_head z +++ tree m b p)) (sym e)
    (target-alone d (erase_label l) c m b (p +++ g.0) p (subst (λ z. TargetIsApplied d (tree (erase_label l) c z)) g.1 t))

struct-target : (d : Items) (l : Label) (c : Trees) (m : Label) (b o : Trees) → TargetIsApplied d (tree l c (tree m b o)) → StructIsApplied d (tree m b o)
struct-target d l c (adt s) b o h = h
struct-target d l c m b o h = tt

pub target-struct : (d : Items) (S X : Trees) → IsA of_type S → IsA of_type X → TargetIsApplied d (with_plain_head S +++ X) → StructIsApplied d X
target-struct d none X h g t = absurd h
target-struct d (tree l c o) none h g t = absurd g
target-struct d (tree l c o) (tree m b p) h g t =
    struct-target d (erase_label l) c m b p (subst (λ z. TargetIsApplied d (tree (erase_label l) c (z +++ tree m b p))) h.1 t)

-- ---- the rule of `Unsize` for any trait
module _ (V : World) (a : GoalOverKinds) where
  pub of-other-trait : (a.reference.trait ≡ unsize → ⊥) → [] ≡ by_unsize V a
  of-other-trait n =
      ap (λ b. if_so b (if begins_unknown a.kinds (next_of (self_of a)) then unsure ∷ [] else unsize_recording V a)) (sym (differ a.reference.trait unsize n))

  is-unsize : a.reference.trait ≡ unsize → (a.reference.trait == unsize) ≡ true
  is-unsize e = ap (λ t. t == unsize) e

  pub of-unknown : a.reference.trait ≡ unsize → begins_unknown a.kinds (next_of (self_of a)) ≡ true → unsure ∷ [] ≡ by_unsize V a
  of-unknown e h =
      ap (λ (b : Bool). if b then unsure ∷ [] else unsize_recording V a) (sym h)
      ∙ ap (λ b. if_so b (if begins_unknown a.kinds (next_of (self_of a)) then unsure ∷ [] else unsize_recording V a)) (sym (is-unsize e))

  pub of-known : a.reference.trait ≡ unsize → begins_unknown a.kinds (next_of (self_of a)) ≡ false → unsize_recording V a ≡ by_unsize V a
  of-known e h =
      ap (λ (b : Bool). if b then unsure ∷ [] else unsize_recording V a) (sym h)
      ∙ ap (λ b. if_so b (if begins_unknown a.kinds (next_of (self_of a)) then unsure ∷ [] else unsize_recording V a)) (sym (is-unsize e))

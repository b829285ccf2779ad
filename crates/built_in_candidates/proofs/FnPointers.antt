-- Calls of `fn` pointers.
use Rattle.std.proofs.Common.{◌≡◌, false, List, [], ◌∷◌, ◌++◌, Some, refl, sym, ap, subst, ◌∙◌}
use Rattle.std.specs.List.{slice_get}
use Rattle.std.proofs.lemmas.Option.{same_Some}
use Rattle.type_terms.specs.Promised.Label.{Label, Sort, of_type, tuple, fn_ptr}
use Rattle.type_terms.specs.Promised.Trees.{Trees, none, tree, ◌+++◌, IsA, nth}
use Rattle.type_terms.specs.Trees.{is_no_tree}
use Rattle.type_terms.specs.Promised.Worlds.{World}
use Rattle.type_terms.specs.Promised.Rules.{but_last, last_asked, sized}
use Rattle.type_terms.specs.Promised.Handles.{Entry, trees_at}
use Rattle.type_terms.specs.Terms.{Lawful}
use Rattle.type_terms.specs.Promised.Handles.{ArgsHeld}
use Rattle.type_terms.specs.Kinds.{TysHeld, args_trees, tys_trees}
use Rattle.type_terms.specs.declared.kinds.GenericArgKind.{GenericArgKind}
use Rattle.type_terms.specs.declared.kinds.Ty.{Ty}
use Rattle.term_folds.specs.Signatures.{StartsWithType}
use Rattle.candidate_model.specs.Asking.{GoalOverKinds, with_plain_head, next_of}
use Rattle.candidate_model.specs.Candidates.{call_of, by_rule, all_equal, misc}
use Rattle.infer_table.proofs.BindFacts.{type-is}
use Rattle.built_in_candidates.specs.FnPointers.{signature_of, IsFirst}
use Rattle.built_in_candidates.proofs.Pairs.{IsOneTree, arg-tree, as_value, value-is, equate}

-- ---- what is read off the arguments
signature-alone : (l : Label) (c o : Trees) → signature_of (tree l c o) ≡ signature_of (tree l c none)
signature-alone (fn_ptr n) c o = refl
signature-alone l c o = refl

pub signature-first : (T S : Trees) → StartsWithType T → S ≡ nth T 0 → signature_of S ≡ signature_of T
signature-first none S s e = absurd s
signature-first (tree l c o) S s e = ap signature_of e ∙ sym (signature-alone l c o)

pub second-first : (es : List Entry) → Lawful es → (xs : List GenericArgKind) → ArgsHeld es xs → IsFirst es (next_of (args_trees es xs)) (slice_get xs 1)
second-first es law [] h = refl
second-first es law (x ∷ []) h = ap (λ z. next_of (z +++ none)) (arg-tree es law x h.0).is
second-first es law (x ∷ y ∷ xs) h = (h.1.0, args_trees es xs, ap (λ z. next_of (z +++ args_trees es (y ∷ xs))) (arg-tree es law x h.0).is)

-- ---- the candidates
module _ (V : World) (a : GoalOverKinds) where
  pub no-second : (T ts : Trees) → Some ts ≡ signature_of T → next_of T ≡ none → [] ≡ call_of V a (with_plain_head T)
  no-second none ts e f = absurd cc
  no-second (tree (fn_ptr n) c none) ts e f = refl
  no-second (tree (fn_ptr n) c (tree m d p)) ts e f = absurd cc
  no-second (tree l c o) ts e f = absurd cc

  call-with : (c o x y rest : Trees) (l : Label) → o ≡ tree l y rest → x ≡ tree l y none
      → call_of V a (tree (fn_ptr 0) c o) ≡ by_rule V a misc (all_equal (tree tuple (but_last c) none) x) (last_asked sized c) ∷ []
  call-with c o x y rest l p q =
      ap (λ z. call_of V a (tree (fn_ptr 0) c z)) p ∙ ap (λ z. by_rule V a misc (all_equal (tree tuple (but_last c) none) z) (last_asked sized c) ∷ []) (sym q)

  pub one-call : (T ts : Trees) → Some ts ≡ signature_of T → (s : Sort) (x rest : Trees) → IsOneTree s x → next_of T ≡ x +++ rest
      → by_rule V a misc (all_equal (tree tuple (but_last ts) none) x) (last_asked sized ts) ∷ [] ≡ call_of V a (with_plain_head T)
  one-call none ts e s x rest h f = absurd cc
  one-call (tree (fn_ptr n) c o) ts e s x rest h f =
      ap (λ z. by_rule V a misc (all_equal (tree tuple (but_last z) none) x) (last_asked sized z) ∷ []) (same_Some ts c e)
      ∙ sym (call-with c o x h.children rest h.label (f ∙ ap (λ z. z +++ rest) h.is) h.is)
  one-call (tree l c o) ts e s x rest h f = absurd cc

-- ---- the inputs
last-dropped : (t : Trees) → IsA of_type t → none ≡ but_last (t +++ none)
last-dropped none h = absurd h
last-dropped (tree l c o) h = subst (λ z. none ≡ but_last (tree l c z +++ none)) (sym h.1) refl

others-dropped : (t u : Trees) → IsA of_type t → is_no_tree u ≡ false → t +++ but_last u ≡ but_last (t +++ u)
others-dropped none u h g = absurd h
others-dropped (tree l c o) none h g = absurd cc
others-dropped (tree l c o) (tree m d p) h g = subst (λ z. tree l c z +++ but_last (tree m d p) ≡ but_last (tree l c z +++ tree m d p)) (sym h.1) refl

some-tree : (t u : Trees) → IsA of_type t → is_no_tree (t +++ u) ≡ false
some-tree none u h = absurd h
some-tree (tree l c o) u h = refl

some-types : (es : List Entry) → Lawful es → (front : List Ty) (x : Ty) → TysHeld es (front ++ x ∷ []) → is_no_tree (tys_trees es (front ++ x ∷ [])) ≡ false
some-types es law [] x h = some-tree (trees_at es x.0) none (type-is es law x.0 h.0)
some-types es law (y ∷ front) x h = some-tree (trees_at es y.0) (tys_trees es (front ++ x ∷ [])) (type-is es law y.0 h.0)

pub inputs-are : (es : List Entry) → Lawful es → (front : List Ty) (x : Ty) → TysHeld es (front ++ x ∷ []) → tys_trees es front ≡ but_last (tys_trees es (front ++ x ∷ []))
inputs-are es law [] x h = last-dropped (trees_at es x.0) (type-is es law x.0 h.0)
inputs-are es law (y ∷ front) x h =
    ap (λ z. trees_at es y.0 +++ z) (inputs-are es law front x h.1)
    ∙ others-dropped (trees_at es y.0) (tys_trees es (front ++ x ∷ [])) (type-is es law y.0 h.0) (some-types es law front x h.1)

pub inputs-held : (es : List Entry) (front : List Ty) (x : Ty) → TysHeld es (front ++ x ∷ []) → TysHeld es front
inputs-held es [] x h = tt
inputs-held es (y ∷ front) x h = (h.0, inputs-held es front x h.1)

-- ---- the equation
pub equation-made : (X i : Trees) (s : Sort) (x : Trees) → i ≡ tree tuple X none → IsOneTree s x → equate (as_value of_type i) (as_value s x) ∷ [] ≡ all_equal (tree tuple X none) x
equation-made X i s x e h =
    ap (λ z. equate (as_value of_type z) (as_value s x) ∷ []) e
    ∙ ap (λ w. equate (as_value of_type (tree tuple X none)) w ∷ []) (sym (value-is s x h)) ∙ sym (ap (all_equal (tree tuple X none)) h.is)

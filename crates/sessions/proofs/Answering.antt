-- Answers to `prove` questions, as they are read off the table of a question.
use Rattle.std.proofs.Common.{◌≡◌, Bool, true, false, ◌||◌, zero, suc, List, [], ◌∷◌, map, refl, sym, ap, ◌∙◌}
use Rattle.std.specs.Prelude.{ℕ}
use Rattle.type_terms.specs.Promised.Label.{Label, of_type, of_const, of_lifetime, param, placeholder, infer, canonical, bound, fn_ptr, principal, static}
use Rattle.type_terms.specs.Promised.Trees.{Trees, none, tree, some_node}
use Rattle.type_terms.specs.Promised.Handles.{ArgsHeld, arg_trees}
use Rattle.type_terms.specs.Promised.Handles.{Entry, Keeps}
use Rattle.type_terms.specs.declared.kinds.GenericArgKind.{GenericArgKind}
use Rattle.type_terms.specs.Kept.{arg-trees-later}
use Rattle.type_terms.specs.Scans.{has_flag, some_node_of}
use Rattle.type_terms.specs.Pieces.{one_piece}
use Rattle.infer_table.specs.Content.{Table, Ready, content}
use Rattle.infer_table.specs.Kept.{content-kept}
use Rattle.infer_table.specs.Solutions.{Binding, resolved}
use Rattle.sessions.specs.Proving.{is_bound_term}
use Rattle.type_terms.proofs.BooleanBasics.{no-more}
use Rattle.type_terms.proofs.ListBasics.{two}

-- ---- bound terms
label-bound : (l : Label) → is_bound_term l ≡ has_flag 8 l || has_flag 2048 l
label-bound (param of_type i) = refl
label-bound (param of_const i) = refl
label-bound (param of_lifetime i) = refl
label-bound (placeholder of_type i) = refl
label-bound (placeholder of_const i) = refl
label-bound (placeholder of_lifetime i) = refl
label-bound (infer of_type i) = refl
label-bound (infer of_const i) = refl
label-bound (infer of_lifetime i) = refl
label-bound (canonical of_type i) = refl
label-bound (canonical of_const i) = refl
label-bound (canonical of_lifetime i) = refl
label-bound (bound of_type k i) = refl
label-bound (bound of_const k i) = refl
label-bound (bound of_lifetime k i) = refl
label-bound (fn_ptr zero) = refl
label-bound (fn_ptr (suc n)) = refl
label-bound (principal zero t) = refl
label-bound (principal (suc n) t) = refl
label-bound static = refl
label-bound l = refl

regroup : (a b c d e f x y z : Bool) → x ≡ a || b → y ≡ c || d → z ≡ e || f → x || y || z ≡ (a || c || e) || (b || d || f)
regroup a b c d e f x y z p q r = ap (λ v. v || y || z) p ∙ ap (λ v. (a || b) || v || z) q ∙ ap (λ v. (a || b) || (c || d) || v) r ∙ turned a b c d e f
  where
    swapped : (a b c d : Bool) → (a || b) || (c || d) ≡ (a || c) || (b || d)
    swapped true b c d = refl
    swapped false true true d = refl
    swapped false true false d = refl
    swapped false false c d = refl

    turned : (a b c d e f : Bool) → (a || b) || (c || d) || (e || f) ≡ (a || c || e) || (b || d || f)
    turned a b c d e f = ap (λ v. v || (e || f)) (swapped a b c d) ∙ swapped (a || c) (b || d) e f

bound-flags : (t : Trees) → some_node is_bound_term t ≡ some_node (has_flag 8) t || some_node (has_flag 2048) t
bound-flags none = refl
bound-flags (tree l c o) =
    regroup (has_flag 8 l) (has_flag 2048 l) (some_node (has_flag 8) c) (some_node (has_flag 2048) c) (some_node (has_flag 8) o) (some_node (has_flag 2048) o) _ _ _ (label-bound l) (bound-flags c) (bound-flags o)

pub one-flag : (n : ℕ) (t : Trees) → some_node_of (has_flag n) (one_piece t) ≡ some_node (has_flag n) t
one-flag n t = no-more (some_node (has_flag n) t)

-- either of the two flags was found, or neither
pub bound-found : (t : Trees) → some_node_of (has_flag 8) (one_piece t) ≡ true → true ≡ some_node is_bound_term t
bound-found t h = sym (bound-flags t ∙ ap (λ b. b || some_node (has_flag 2048) t) (sym (one-flag 8 t) ∙ h))

pub bound-not-found : (t : Trees) → some_node_of (has_flag 8) (one_piece t) ≡ false → some_node_of (has_flag 2048) (one_piece t) ≡ some_node is_bound_term t
bound-not-found t h = one-flag 2048 t ∙ sym (bound-flags t ∙ ap (λ b. b || some_node (has_flag 2048) t) (sym (one-flag 8 t) ∙ h))

module _ (old new : List Entry) (k : Keeps old new) (t : Table) (ready : Ready old t) where
  abbrev given : List Entry → GenericArgKind → Trees
  given es u = resolved (content es t.values) (arg_trees es u)

  -- what the table gives stays as the interner grows
  pub values-earlier : (us : List GenericArgKind) → ArgsHeld old us → map (given new) us ≡ map (given old) us
  values-earlier [] h = refl
  values-earlier (u ∷ us) h =
      two (ap (λ (z : List Binding). resolved z (arg_trees new u)) (content-kept old new t.values k ready.held) ∙ ap (resolved (content old t.values)) (arg-trees-later old new k u h.0)) (values-earlier us h.1)

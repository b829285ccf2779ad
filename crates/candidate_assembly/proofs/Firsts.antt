-- What is read off the first of some arguments.
use Rattle.std.proofs.Common.{◌≡◌, refl, sym, ap, ◌∙◌, subst, Bool, true, false, ◌&&◌, not, List, Option, Some}
use Rattle.type_terms.specs.Promised.Label.{Label, Sort, of_type, of_const, of_lifetime, adt, dynamic, param, placeholder, infer, canonical, bound}
use Rattle.type_terms.specs.Promised.Trees.{Trees, none, tree, ◌+++◌, sort_of, is_sort}
use Rattle.type_terms.specs.Promised.Answers.{is_open}
use Rattle.type_terms.specs.Promised.Handles.{Entry, trees_at}
use Rattle.type_terms.specs.Terms.{Lawful}
use Rattle.type_terms.specs.Promised.Handles.{arg_trees}
use Rattle.type_terms.specs.declared.kinds.GenericArgKind.{GenericArgKind}
use Rattle.type_terms.specs.declared.kinds.GenericArgKind.TheVariants.{Lifetime, Ty as AType, Const as AConst}
use Rattle.type_terms.specs.declared.kinds.Ty.{Ty}
use Rattle.type_terms.specs.declared.kinds.Const.{Const}
use Rattle.type_terms.specs.declared.region.Region.{Region}
use Rattle.infer_table.specs.declared.canonical.CanonicalVarKind.{CanonicalVarKind}
use Rattle.declarations.specs.Items.{Items}
use Rattle.candidate_model.specs.Asking.{begins_with_type, begins_unknown, with_plain_head}
use Rattle.built_in_candidates.specs.FnPointers.{IsFirst}
use Rattle.candidate_assembly.specs.Fitting.{type_fits}
use Rattle.built_in_candidates.proofs.Pairs.{IsOneTree, arg-tree}
use Rattle.type_terms.proofs.BooleanBasics.{true-false}

-- an argument that is there
pub first-is : (es : List Entry) (t : Trees) (o : Option GenericArgKind) (x y : GenericArgKind) → o ≡ Some x → x ≡ y → IsFirst es t o → IsFirst es t (Some y)
first-is es t o x y e f h = subst (IsFirst es t) (e ∙ ap Some f) h

-- it does not matter what stands behind the first tree
module _ (F : Trees → Bool) (alone : (l : Label) (c o : Trees) → F (tree l c o) ≡ F (tree l c none)) where
  one-alone : (s : Sort) (t rest : Trees) → IsOneTree s t → F (t +++ rest) ≡ F t
  one-alone s t rest one = ap (λ x. F (x +++ rest)) one.is ∙ alone one.label one.children rest ∙ ap F (sym one.is)

  pub first-type : (es : List Entry) → Lawful es → (t : Trees) (ty : Ty) → IsFirst es t (Some (AType ty)) → F (trees_at es ty.0) ≡ F t
  first-type es law t ty h = sym (ap F h.2 ∙ one-alone of_type (trees_at es ty.0) h.1 (arg-tree es law (AType ty) h.0))

-- and of what is no type only that
module _ (F : Trees → Bool) (b : Bool) (others : (l : Label) (c o : Trees) → is_sort (sort_of l) of_type ≡ false → F (tree l c o) ≡ b) where
  one-other : (s : Sort) (t rest : Trees) → is_sort s of_type ≡ false → IsOneTree s t → F (t +++ rest) ≡ b
  one-other s t rest e one = ap (λ x. F (x +++ rest)) one.is ∙ others one.label one.children rest (ap (λ k. is_sort k of_type) one.sort ∙ e)

  pub first-region : (es : List Entry) → Lawful es → (t : Trees) (r : Region) → IsFirst es t (Some (Lifetime r)) → b ≡ F t
  first-region es law t r h = sym (ap F h.2 ∙ one-other of_lifetime (arg_trees es (Lifetime r)) h.1 refl (arg-tree es law (Lifetime r) h.0))

  pub first-const : (es : List Entry) → Lawful es → (t : Trees) (n : Const) → IsFirst es t (Some (AConst n)) → b ≡ F t
  first-const es law t n h = sym (ap F h.2 ∙ one-other of_const (arg_trees es (AConst n)) h.1 refl (arg-tree es law (AConst n) h.0))

-- ---- whether it fits
module _ (d : Items) where
  pub fits-alone : (l : Label) (c o : Trees) → type_fits d (tree l c o) ≡ type_fits d (tree l c none)
  fits-alone (adt s) c o = refl
  fits-alone dynamic c o = refl
  fits-alone l c o = refl

  pub fits-other : (l : Label) (c o : Trees) → is_sort (sort_of l) of_type ≡ false → type_fits d (tree l c o) ≡ true
  fits-other (adt s) c o e = absurd (true-false e)
  fits-other dynamic c o e = absurd (true-false e)
  fits-other l c o e = refl

-- ---- whether it is a type
pub begins-alone : (l : Label) (c o : Trees) → begins_with_type (tree l c o) ≡ begins_with_type (tree l c none)
begins-alone (canonical of_type i) c o = refl
begins-alone (canonical of_const i) c o = refl
begins-alone (canonical of_lifetime i) c o = refl
begins-alone l c o = refl

pub begins-other : (l : Label) (c o : Trees) → is_sort (sort_of l) of_type ≡ false → begins_with_type (tree l c o) ≡ false
begins-other (canonical of_type i) c o e = absurd (true-false e)
begins-other (canonical of_const i) c o e = refl
begins-other (canonical of_lifetime i) c o e = refl
begins-other l c o e = ap (λ z. z && not (is_open l)) e

-- ---- whether it is unknown
module _ (kinds : List CanonicalVarKind) where
  abbrev pub unknown_first : Trees → Bool
  unknown_first t = begins_unknown kinds (with_plain_head t)

  pub unknown-plain : (l : Label) (c o : Trees) → unknown_first (tree l c o) ≡ begins_unknown kinds (tree l c none)
  unknown-plain (canonical of_type i) c o = refl
  unknown-plain (canonical of_const i) c o = refl
  unknown-plain (canonical of_lifetime i) c o = refl
  unknown-plain (param of_type i) c o = refl
  unknown-plain (param of_const i) c o = refl
  unknown-plain (param of_lifetime i) c o = refl
  unknown-plain (placeholder of_type i) c o = refl
  unknown-plain (placeholder of_const i) c o = refl
  unknown-plain (placeholder of_lifetime i) c o = refl
  unknown-plain (infer of_type i) c o = refl
  unknown-plain (infer of_const i) c o = refl
  unknown-plain (infer of_lifetime i) c o = refl
  unknown-plain (bound of_type i j) c o = refl
  unknown-plain (bound of_const i j) c o = refl
  unknown-plain (bound of_lifetime i j) c o = refl
  unknown-plain l c o = refl

  pub unknown-alone : (l : Label) (c o : Trees) → unknown_first (tree l c o) ≡ unknown_first (tree l c none)
  unknown-alone l c o = unknown-plain l c o ∙ sym (unknown-plain l c none)

  pub unknown-other : (l : Label) (c o : Trees) → is_sort (sort_of l) of_type ≡ false → unknown_first (tree l c o) ≡ false
  unknown-other l c o e = unknown-plain l c o ∙ by l e
    where
      by : (l : Label) → is_sort (sort_of l) of_type ≡ false → begins_unknown kinds (tree l c none) ≡ false
      by (canonical of_type i) e = absurd (true-false e)
      by (canonical of_const i) e = refl
      by (canonical of_lifetime i) e = refl
      by l e = refl

  pub unknown-type : (es : List Entry) → Lawful es → (t : Trees) (ty : Ty) → IsFirst es t (Some (AType ty)) → begins_unknown kinds (trees_at es ty.0) ≡ unknown_first t
  unknown-type es law t ty h =
      let one = arg-tree es law (AType ty) h.0 in
      ap (begins_unknown kinds) one.is ∙ sym (unknown-plain one.label one.children none) ∙ ap unknown_first (sym one.is)
      ∙ first-type unknown_first unknown-alone es law t ty h

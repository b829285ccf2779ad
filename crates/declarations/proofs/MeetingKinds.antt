-- The parts of two types with one head tell whether they can become one.
use Rattle.std.proofs.Common.{◌≡◌, ℕ, suc, false, ◌&&◌, ◌||◌, not, List, Option, Some, None, refl, sym, ap, ◌∙◌}
use Rattle.type_terms.specs.Promised.Label.{Label}
use Rattle.type_terms.specs.Promised.Trees.{Trees}
use Rattle.type_terms.specs.Promised.Handles.{Entry, trees_at}
use Rattle.type_terms.specs.Kinds.{kind_trees}
use Rattle.type_terms.specs.declared.AdtId.{AdtId}
use Rattle.type_terms.specs.declared.region.Region.{Region}
use Rattle.type_terms.specs.declared.number.BoundVarIndexKind.TheVariants.{Bound as KBinder, Canonical as KCanonical}
use Rattle.type_terms.specs.declared.kinds.Ty as of_ty
use Rattle.type_terms.specs.declared.kinds.Tys as of_tys
use Rattle.type_terms.specs.declared.kinds.Const as of_const
use Rattle.type_terms.specs.declared.kinds.GenericArgs as of_args
use Rattle.type_terms.specs.declared.kinds.Bounds as of_bounds
use Rattle.type_terms.specs.declared.kinds.Mutability.{Mutability}
use Rattle.type_terms.specs.declared.kinds.TyKind.{TyKind}
use Rattle.type_terms.specs.declared.kinds.TyKind.TheVariants.{Adt, Ref, RawPtr, Array, Slice, Tuple, FnPtr, Dynamic, Bound as KBound}
use Rattle.type_terms.proofs.Applies.{same-label-itself}
use Rattle.declarations.specs.Apart.{may_meet}
use Rattle.declarations.specs.Heads.{head_of}
use Rattle.declarations.specs.Tops.{is_some_head}
use Rattle.declarations.proofs.Meeting.{IsTypeNode, below, top_has_parts, heads-tell, behind-lifetimes, before-lifetimes}

module _ (es : List Entry) where
  -- ---- other types have no parts that are compared
  pub no-parts : (k : TyKind) → ((d : AdtId) (x : of_args.GenericArgs) → k ≡ Adt d x → ⊥) → ((r : Region) (x : of_ty.Ty) (m : Mutability) → k ≡ Ref r x m → ⊥)
      → ((x : of_ty.Ty) (m : Mutability) → k ≡ RawPtr x m → ⊥) → ((x : of_ty.Ty) → k ≡ Slice x → ⊥) → ((x : of_ty.Ty) (n : of_const.Const) → k ≡ Array x n → ⊥)
      → ((x : of_tys.Tys) → k ≡ Tuple x → ⊥) → ((n : ℕ) (x : of_tys.Tys) → k ≡ FnPtr n x → ⊥) → ((x : of_bounds.Bounds) (r : Region) → k ≡ Dynamic x r → ⊥) → top_has_parts (kind_trees es k) ≡ false
  no-parts (Adt d x) n1 n2 n3 n4 n5 n6 n7 n8 = absurd (n1 d x refl)
  no-parts (Ref r x m) n1 n2 n3 n4 n5 n6 n7 n8 = absurd (n2 r x m refl)
  no-parts (RawPtr x m) n1 n2 n3 n4 n5 n6 n7 n8 = absurd (n3 x m refl)
  no-parts (Slice x) n1 n2 n3 n4 n5 n6 n7 n8 = absurd (n4 x refl)
  no-parts (Array x n) n1 n2 n3 n4 n5 n6 n7 n8 = absurd (n5 x n refl)
  no-parts (Tuple x) n1 n2 n3 n4 n5 n6 n7 n8 = absurd (n6 x refl)
  no-parts (FnPtr n x) n1 n2 n3 n4 n5 n6 n7 n8 = absurd (n7 n x refl)
  no-parts (Dynamic x r) n1 n2 n3 n4 n5 n6 n7 n8 = absurd (n8 x r refl)
  no-parts (KBound (KBinder j) v) n1 n2 n3 n4 n5 n6 n7 n8 = refl
  no-parts (KBound KCanonical v) n1 n2 n3 n4 n5 n6 n7 n8 = refl
  no-parts k n1 n2 n3 n4 n5 n6 n7 n8 = refl

  -- ---- the parts tell
  module _ (x y : Trees) (left : IsTypeNode x) (right : IsTypeNode y) (heads : head_of x ≡ head_of y) (head : is_some_head (head_of x)) where
    pub parts-tell : (n : ℕ) → may_meet (suc n) x y ≡ (not (top_has_parts x) || may_meet n (below x) (below y))
    parts-tell n = by (head_of x) refl head
      where
        by : (o : Option Label) → head_of x ≡ o → is_some_head o → may_meet (suc n) x y ≡ (not (top_has_parts x) || may_meet n (below x) (below y))
        by None e s = absurd s
        by (Some a) e s =
            heads-tell n x y a a left right e (sym heads ∙ e)
            ∙ ap (λ z. z && (not (top_has_parts x) || may_meet n (below x) (below y))) (same-label-itself a)

    pub kinds-tell : (k j : TyKind) → x ≡ kind_trees es k → y ≡ kind_trees es j
        → (n : ℕ) → may_meet (suc n) x y ≡ (not (top_has_parts (kind_trees es k)) || may_meet n (below (kind_trees es k)) (below (kind_trees es j)))
    kinds-tell k j e f n =
        parts-tell n
        ∙ ap (λ z. not (top_has_parts z) || may_meet n (below z) (below y)) e
        ∙ ap (λ z. not (top_has_parts (kind_trees es k)) || may_meet n (below (kind_trees es k)) (below z)) f

    pub refs-tell : (r s : Region) (t u : of_ty.Ty) (m n : Mutability) → x ≡ kind_trees es (Ref r t m) → y ≡ kind_trees es (Ref s u n)
        → (i : ℕ) → may_meet (suc i) x y ≡ may_meet i (trees_at es t.0) (trees_at es u.0)
    refs-tell r s t u m n e f i = kinds-tell (Ref r t m) (Ref s u n) e f i ∙ behind-lifetimes i r s (trees_at es t.0) (trees_at es u.0)

    pub dyns-tell : (b c : of_bounds.Bounds) (r s : Region) → x ≡ kind_trees es (Dynamic b r) → y ≡ kind_trees es (Dynamic c s)
        → (i : ℕ) → may_meet (suc i) x y ≡ may_meet i (trees_at es b.0) (trees_at es c.0)
    dyns-tell b c r s e f i = kinds-tell (Dynamic b r) (Dynamic c s) e f i ∙ before-lifetimes i r s (trees_at es b.0) (trees_at es c.0)

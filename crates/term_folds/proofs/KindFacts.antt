-- The kinds of types without children.
use Rattle.std.proofs.Common.{◌≡◌, ℕ, List, refl}
use Rattle.type_terms.specs.Promised.Trees.{Trees}
use Rattle.type_terms.specs.Promised.Handles.{Entry}
use Rattle.type_terms.specs.Kinds.{kind_trees}
use Rattle.type_terms.specs.declared.AdtId.{AdtId}
use Rattle.type_terms.specs.declared.region.Region.{Region}
use Rattle.type_terms.specs.declared.kinds.Ty as of_ty
use Rattle.type_terms.specs.declared.kinds.Const as of_const
use Rattle.type_terms.specs.declared.kinds.GenericArgs as of_args
use Rattle.type_terms.specs.declared.kinds.Tys as of_tys
use Rattle.type_terms.specs.declared.kinds.Bounds as of_bounds
use Rattle.type_terms.specs.declared.kinds.Mutability.{Mutability}
use Rattle.type_terms.specs.declared.kinds.TyKind.{TyKind}
use Rattle.type_terms.specs.declared.kinds.TyKind.TheVariants.{Bool, Char, Int, Uint, Str, Never, Adt, Ref, RawPtr, Array, Slice, Tuple, FnPtr, Dynamic, Param, Placeholder, Bound, Infer}
use Rattle.term_folds.specs.Folds.{Does, nothing, FoldsBelow, below as fold_below}

pub leaf-below : (f : List ℕ → Trees → Does) (bs : List ℕ) (es : List Entry) (k : TyKind)
    → ((a : AdtId) (x : of_args.GenericArgs) → k ≡ Adt a x → ⊥) → ((r : Region) (x : of_ty.Ty) (m : Mutability) → k ≡ Ref r x m → ⊥)
    → ((x : of_ty.Ty) (m : Mutability) → k ≡ RawPtr x m → ⊥) → ((x : of_ty.Ty) (n : of_const.Const) → k ≡ Array x n → ⊥) → ((x : of_ty.Ty) → k ≡ Slice x → ⊥)
    → ((x : of_tys.Tys) → k ≡ Tuple x → ⊥) → ((n : ℕ) (x : of_tys.Tys) → k ≡ FnPtr n x → ⊥) → ((b : of_bounds.Bounds) (r : Region) → k ≡ Dynamic b r → ⊥)
    → FoldsBelow f bs (kind_trees es k) (kind_trees es k)
leaf-below f bs es (Adt a x) n1 n2 n3 n4 n5 n6 n7 n8 = absurd (n1 a x refl)
leaf-below f bs es (Ref r x m) n1 n2 n3 n4 n5 n6 n7 n8 = absurd (n2 r x m refl)
leaf-below f bs es (RawPtr x m) n1 n2 n3 n4 n5 n6 n7 n8 = absurd (n3 x m refl)
leaf-below f bs es (Array x n) n1 n2 n3 n4 n5 n6 n7 n8 = absurd (n4 x n refl)
leaf-below f bs es (Slice x) n1 n2 n3 n4 n5 n6 n7 n8 = absurd (n5 x refl)
leaf-below f bs es (Tuple x) n1 n2 n3 n4 n5 n6 n7 n8 = absurd (n6 x refl)
leaf-below f bs es (FnPtr n x) n1 n2 n3 n4 n5 n6 n7 n8 = absurd (n7 n x refl)
leaf-below f bs es (Dynamic b r) n1 n2 n3 n4 n5 n6 n7 n8 = absurd (n8 b r refl)
leaf-below f bs es Bool n1 n2 n3 n4 n5 n6 n7 n8 = fold_below nothing
leaf-below f bs es Char n1 n2 n3 n4 n5 n6 n7 n8 = fold_below nothing
leaf-below f bs es (Int w) n1 n2 n3 n4 n5 n6 n7 n8 = fold_below nothing
leaf-below f bs es (Uint w) n1 n2 n3 n4 n5 n6 n7 n8 = fold_below nothing
leaf-below f bs es Str n1 n2 n3 n4 n5 n6 n7 n8 = fold_below nothing
leaf-below f bs es Never n1 n2 n3 n4 n5 n6 n7 n8 = fold_below nothing
leaf-below f bs es (Param i) n1 n2 n3 n4 n5 n6 n7 n8 = fold_below nothing
leaf-below f bs es (Placeholder i) n1 n2 n3 n4 n5 n6 n7 n8 = fold_below nothing
leaf-below f bs es (Bound i v) n1 n2 n3 n4 n5 n6 n7 n8 = fold_below nothing
leaf-below f bs es (Infer v) n1 n2 n3 n4 n5 n6 n7 n8 = fold_below nothing

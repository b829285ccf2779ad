-- A visit finds nothing below a node without children.
use Rattle.std.proofs.Common.{◌≡◌, ℕ, List, refl, None}
use Rattle.type_terms.specs.Promised.Trees.{Trees}
use Rattle.type_terms.specs.Promised.Handles.{Entry, Is, consts, trees_at}
use Rattle.type_terms.specs.Kinds.{kind_trees, const_trees}
use Rattle.type_terms.specs.declared.AdtId.{AdtId}
use Rattle.type_terms.specs.declared.region.Region.{Region}
use Rattle.type_terms.specs.declared.kinds.Ty as of_ty
use Rattle.type_terms.specs.declared.kinds.Const as of_const
use Rattle.type_terms.specs.declared.kinds.GenericArgs as of_args
use Rattle.type_terms.specs.declared.kinds.Tys as of_tys
use Rattle.type_terms.specs.declared.kinds.Bounds as of_bounds
use Rattle.type_terms.specs.declared.kinds.Mutability.{Mutability}
use Rattle.type_terms.specs.Kept.{trees-is}
use Rattle.type_terms.specs.declared.kinds.ConstKind.{ConstKind}
use Rattle.type_terms.specs.declared.kinds.TyKind.{TyKind}
use Rattle.type_terms.specs.declared.kinds.TyKind.TheVariants.{Bool, Char, Int, Uint, Str, Never, Adt, Ref, RawPtr, Array, Slice, Tuple, FnPtr, Dynamic, Param, Placeholder, Bound, Infer}
use Rattle.type_terms.specs.declared.visit.Seen.{Seen}
use Rattle.type_terms.specs.Visits.{VisitsBelow, below, ended}

pub leaf-visited : {V B : Type 0} (sees : List ℕ → Trees → V → V → Seen B → Type 0) (bs : List ℕ) (es : List Entry) (k : TyKind) (v : V)
    → ((a : AdtId) (x : of_args.GenericArgs) → k ≡ Adt a x → ⊥) → ((r : Region) (x : of_ty.Ty) (m : Mutability) → k ≡ Ref r x m → ⊥)
    → ((x : of_ty.Ty) (m : Mutability) → k ≡ RawPtr x m → ⊥) → ((x : of_ty.Ty) (n : of_const.Const) → k ≡ Array x n → ⊥) → ((x : of_ty.Ty) → k ≡ Slice x → ⊥)
    → ((x : of_tys.Tys) → k ≡ Tuple x → ⊥) → ((n : ℕ) (x : of_tys.Tys) → k ≡ FnPtr n x → ⊥) → ((b : of_bounds.Bounds) (r : Region) → k ≡ Dynamic b r → ⊥)
    → VisitsBelow sees bs (kind_trees es k) v v None
leaf-visited sees bs es (Adt a x) v n1 n2 n3 n4 n5 n6 n7 n8 = absurd (n1 a x refl)
leaf-visited sees bs es (Ref r x m) v n1 n2 n3 n4 n5 n6 n7 n8 = absurd (n2 r x m refl)
leaf-visited sees bs es (RawPtr x m) v n1 n2 n3 n4 n5 n6 n7 n8 = absurd (n3 x m refl)
leaf-visited sees bs es (Array x n) v n1 n2 n3 n4 n5 n6 n7 n8 = absurd (n4 x n refl)
leaf-visited sees bs es (Slice x) v n1 n2 n3 n4 n5 n6 n7 n8 = absurd (n5 x refl)
leaf-visited sees bs es (Tuple x) v n1 n2 n3 n4 n5 n6 n7 n8 = absurd (n6 x refl)
leaf-visited sees bs es (FnPtr n x) v n1 n2 n3 n4 n5 n6 n7 n8 = absurd (n7 n x refl)
leaf-visited sees bs es (Dynamic b r) v n1 n2 n3 n4 n5 n6 n7 n8 = absurd (n8 b r refl)
leaf-visited sees bs es Bool v n1 n2 n3 n4 n5 n6 n7 n8 = below ended
leaf-visited sees bs es Char v n1 n2 n3 n4 n5 n6 n7 n8 = below ended
leaf-visited sees bs es (Int w) v n1 n2 n3 n4 n5 n6 n7 n8 = below ended
leaf-visited sees bs es (Uint w) v n1 n2 n3 n4 n5 n6 n7 n8 = below ended
leaf-visited sees bs es Str v n1 n2 n3 n4 n5 n6 n7 n8 = below ended
leaf-visited sees bs es Never v n1 n2 n3 n4 n5 n6 n7 n8 = below ended
leaf-visited sees bs es (Param i) v n1 n2 n3 n4 n5 n6 n7 n8 = below ended
leaf-visited sees bs es (Placeholder i) v n1 n2 n3 n4 n5 n6 n7 n8 = below ended
leaf-visited sees bs es (Bound i k) v n1 n2 n3 n4 n5 n6 n7 n8 = below ended
leaf-visited sees bs es (Infer k) v n1 n2 n3 n4 n5 n6 n7 n8 = below ended

pub const-visited : {V B : Type 0} (sees : List ℕ → Trees → V → V → Seen B → Type 0) (bs : List ℕ) (es : List Entry) (i : ℕ) (k : ConstKind) (v : V) → Is es consts i (const_trees k)
    → VisitsBelow sees bs (trees_at es i) v v None
const-visited sees bs es i k v is = rw (trees-is es consts i _ is) (below ended)

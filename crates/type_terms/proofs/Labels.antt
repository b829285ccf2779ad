-- The parts of a label can be read from it.
use Rattle.std.proofs.Common.{◌≡◌, ℕ, ◌≤◌, refl, ap, sym, ◌∙◌, arith, subst}
use Rattle.std.proofs.Math.Bridge.{le_prop}
use Rattle.type_terms.specs.Promised.Label.{Label, Sort, of_const, of_lifetime, bool, char, str, never, array, slice, tuple, dynamic, static, int, uint, adt, fn_ptr, value, ref, raw_pointer, param, placeholder, infer, canonical, bound}
use Rattle.type_terms.specs.Kinds.{int_number, uint_number, is_mut, const_label}
use Rattle.type_terms.specs.Promised.Handles.{bound_label, region_label}
use Rattle.type_terms.specs.declared.TheConstants.{MAX_INDEX}
use Rattle.type_terms.specs.declared.AdtId.{AdtId}
use Rattle.type_terms.specs.declared.TraitId.{TraitId}
use Rattle.type_terms.specs.declared.number.DebruijnIndex.{DebruijnIndex}
use Rattle.type_terms.specs.declared.number.BoundVar.{BoundVar}
use Rattle.type_terms.specs.declared.number.TyVid.{TyVid}
use Rattle.type_terms.specs.declared.number.ConstVid.{ConstVid}
use Rattle.type_terms.specs.declared.number.RegionVid.{RegionVid}
use Rattle.type_terms.specs.declared.number.BoundVarIndexKind.{BoundVarIndexKind}
use Rattle.type_terms.specs.declared.number.BoundVarIndexKind.TheVariants.{Bound as KBinder, Canonical as KCanonical}
use Rattle.type_terms.specs.declared.region.RegionKind.{RegionKind}
use Rattle.type_terms.specs.declared.region.RegionKind.TheVariants.{ReStatic, ReEarlyParam, RePlaceholder, ReBound, ReVar}
use Rattle.type_terms.specs.declared.kinds.IntTy.{IntTy}
use Rattle.type_terms.specs.declared.kinds.IntTy.TheVariants.{I8, I16, I32, I64, I128, Isize}
use Rattle.type_terms.specs.declared.kinds.UintTy.{UintTy}
use Rattle.type_terms.specs.declared.kinds.UintTy.TheVariants.{U8, U16, U32, U64, U128, Usize}
use Rattle.type_terms.specs.declared.kinds.Mutability.{Mutability}
use Rattle.type_terms.specs.declared.kinds.Mutability.TheVariants.{Not, Mut}
use Rattle.type_terms.specs.declared.kinds.ConstKind.{ConstKind}
use Rattle.type_terms.specs.declared.kinds.ConstKind.TheVariants.{Value as CValue, Param as CParam, Placeholder as CPlaceholder, Bound as CBound, Infer as CInfer}

-- ---- numbers
pub adt-back : (a b : AdtId) → a.index ≡ b.index → a ≡ b
adt-back a b h = subst (λ (m : ℕ). (p : m ≤ MAX_INDEX) → a ≡ record { index = m; in_range = p }) h (λ p. ap (λ (q : a.index ≤ MAX_INDEX). record { index = a.index; in_range = q }) (le_prop a.in_range p)) b.in_range

pub trait-back : (a b : TraitId) → a.index ≡ b.index → a ≡ b
trait-back a b h = subst (λ (m : ℕ). (p : m ≤ MAX_INDEX) → a ≡ record { index = m; in_range = p }) h (λ p. ap (λ (q : a.index ≤ MAX_INDEX). record { index = a.index; in_range = q }) (le_prop a.in_range p)) b.in_range

pub binder-back : (a b : DebruijnIndex) → a.index ≡ b.index → a ≡ b
binder-back a b h = subst (λ (m : ℕ). (p : m ≤ MAX_INDEX) → a ≡ record { index = m; in_range = p }) h (λ p. ap (λ (q : a.index ≤ MAX_INDEX). record { index = a.index; in_range = q }) (le_prop a.in_range p)) b.in_range

pub variable-back : (a b : BoundVar) → a.index ≡ b.index → a ≡ b
variable-back a b h = subst (λ (m : ℕ). (p : m ≤ MAX_INDEX) → a ≡ record { index = m; in_range = p }) h (λ p. ap (λ (q : a.index ≤ MAX_INDEX). record { index = a.index; in_range = q }) (le_prop a.in_range p)) b.in_range

pub ty-vid-back : (a b : TyVid) → a.index ≡ b.index → a ≡ b
ty-vid-back a b h = subst (λ (m : ℕ). (p : m ≤ MAX_INDEX) → a ≡ record { index = m; in_range = p }) h (λ p. ap (λ (q : a.index ≤ MAX_INDEX). record { index = a.index; in_range = q }) (le_prop a.in_range p)) b.in_range

pub const-vid-back : (a b : ConstVid) → a.index ≡ b.index → a ≡ b
const-vid-back a b h = subst (λ (m : ℕ). (p : m ≤ MAX_INDEX) → a ≡ record { index = m; in_range = p }) h (λ p. ap (λ (q : a.index ≤ MAX_INDEX). record { index = a.index; in_range = q }) (le_prop a.in_range p)) b.in_range

pub region-vid-back : (a b : RegionVid) → a.index ≡ b.index → a ≡ b
region-vid-back a b h = subst (λ (m : ℕ). (p : m ≤ MAX_INDEX) → a ≡ record { index = m; in_range = p }) h (λ p. ap (λ (q : a.index ≤ MAX_INDEX). record { index = a.index; in_range = q }) (le_prop a.in_range p)) b.in_range

-- ---- small kinds
pub mut-back : (m n : Mutability) → is_mut m ≡ is_mut n → m ≡ n
mut-back Not Not h = refl
mut-back Mut Mut h = refl
mut-back Not Mut h = cc
mut-back Mut Not h = cc

pub int-back : (a b : IntTy) → int_number a ≡ int_number b → a ≡ b
int-back I8 I8 h = refl
int-back I16 I16 h = refl
int-back I32 I32 h = refl
int-back I64 I64 h = refl
int-back I128 I128 h = refl
int-back Isize Isize h = refl
int-back _ _ h = absurd (omega arith)

pub uint-back : (a b : UintTy) → uint_number a ≡ uint_number b → a ≡ b
uint-back U8 U8 h = refl
uint-back U16 U16 h = refl
uint-back U32 U32 h = refl
uint-back U64 U64 h = refl
uint-back U128 U128 h = refl
uint-back Usize Usize h = refl
uint-back _ _ h = absurd (omega arith)

-- ---- bound variables
pub bound-back : (s : Sort) (j k : BoundVarIndexKind) (v w : BoundVar) → bound_label s j v ≡ bound_label s k w → (j ≡ k) × (v ≡ w)
bound-back s (KBinder j) (KBinder k) v w h =
    let binders : j.index ≡ k.index = cc in
    let variables : v.index ≡ w.index = cc in
    (ap KBinder (binder-back j k binders), variable-back v w variables)
bound-back s KCanonical KCanonical v w h =
    let variables : v.index ≡ w.index = cc in
    (refl, variable-back v w variables)
bound-back s (KBinder j) KCanonical v w h = cc
bound-back s KCanonical (KBinder k) v w h = cc

-- ---- which kind a label is of: bound variables of a binder and of a canonical form are of one
abbrev pub rank : Label → ℕ
rank bool = 0
rank char = 1
rank (int n) = 2
rank (uint n) = 3
rank str = 4
rank never = 5
rank (adt n) = 6
rank (ref m) = 7
rank (raw_pointer m) = 8
rank array = 9
rank slice = 10
rank tuple = 11
rank (fn_ptr n) = 12
rank dynamic = 13
rank (param s i) = 14
rank (placeholder s i) = 15
rank (bound s k v) = 16
rank (canonical s v) = 16
rank (infer s v) = 17
rank (value n) = 18
rank static = 19
rank _ = 20

pub rank-bound : (s : Sort) (k : BoundVarIndexKind) (v : BoundVar) → rank (bound_label s k v) ≡ 16
rank-bound s (KBinder k) v = refl
rank-bound s KCanonical v = refl

abbrev region-rank : RegionKind → ℕ
region-rank ReStatic = 19
region-rank (ReEarlyParam i) = 14
region-rank (RePlaceholder i) = 15
region-rank (ReBound k v) = 16
region-rank (ReVar v) = 17

rank-region : (r : RegionKind) → rank (region_label r) ≡ region-rank r
rank-region (ReBound k v) = rank-bound of_lifetime k v
rank-region ReStatic = refl
rank-region (ReEarlyParam i) = refl
rank-region (RePlaceholder i) = refl
rank-region (ReVar v) = refl

pub region-back : (a b : RegionKind) → region_label a ≡ region_label b → a ≡ b
region-back a b h = by a b h (sym (rank-region a) ∙ ap rank h ∙ rank-region b)
  where
    by : (a b : RegionKind) → region_label a ≡ region_label b → region-rank a ≡ region-rank b → a ≡ b
    by ReStatic ReStatic h r = refl
    by (ReEarlyParam i) (ReEarlyParam j) h r = cc
    by (RePlaceholder i) (RePlaceholder j) h r = cc
    by (ReBound j v) (ReBound k w) h r =
        let same = bound-back of_lifetime j k v w h in
        let binders : j ≡ k = same.0 in
        let variables : v ≡ w = same.1 in
        cc
    by (ReVar v) (ReVar w) h r =
        let variables : v.index ≡ w.index = cc in
        ap ReVar (region-vid-back v w variables)
    by _ _ h r = absurd (omega arith)

abbrev const-rank : ConstKind → ℕ
const-rank (CValue n) = 18
const-rank (CParam i) = 14
const-rank (CPlaceholder i) = 15
const-rank (CBound k v) = 16
const-rank (CInfer v) = 17

rank-const : (k : ConstKind) → rank (const_label k) ≡ const-rank k
rank-const (CBound k v) = rank-bound of_const k v
rank-const (CValue n) = refl
rank-const (CParam i) = refl
rank-const (CPlaceholder i) = refl
rank-const (CInfer v) = refl

pub const-back : (a b : ConstKind) → const_label a ≡ const_label b → a ≡ b
const-back a b h = by a b h (sym (rank-const a) ∙ ap rank h ∙ rank-const b)
  where
    by : (a b : ConstKind) → const_label a ≡ const_label b → const-rank a ≡ const-rank b → a ≡ b
    by (CValue i) (CValue j) h r = cc
    by (CParam i) (CParam j) h r = cc
    by (CPlaceholder i) (CPlaceholder j) h r = cc
    by (CBound j v) (CBound k w) h r =
        let same = bound-back of_const j k v w h in
        let binders : j ≡ k = same.0 in
        let variables : v ≡ w = same.1 in
        cc
    by (CInfer v) (CInfer w) h r =
        let variables : v.index ≡ w.index = cc in
        ap CInfer (const-vid-back v w variables)
    by _ _ h r = absurd (omega arith)

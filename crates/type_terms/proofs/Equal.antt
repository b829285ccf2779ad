-- The derived `==` of nodes says whether they are the same.
use Rattle.std.proofs.Common.{rules, ◌≡◌, ℕ, Bool, true, false, refl, ap, Option, Some, None, ◌&&◌}
use Rattle.std.specs.Bool.{Decides}
use Rattle.std.specs.Option.{option_eq}
use Rattle.std.proofs.lemmas.Slice.Eq.{slice_eq-Decides}
use Rattle.type_terms.specs.Same.{SameNode, SameBounds}
use Rattle.type_terms.specs.declared.AdtId.{AdtId}
use Rattle.type_terms.specs.declared.TraitId.{TraitId}
use Rattle.type_terms.specs.declared.number.DebruijnIndex.{DebruijnIndex}
use Rattle.type_terms.specs.declared.number.BoundVar.{BoundVar}
use Rattle.type_terms.specs.declared.number.TyVid.{TyVid}
use Rattle.type_terms.specs.declared.number.ConstVid.{ConstVid}
use Rattle.type_terms.specs.declared.number.RegionVid.{RegionVid}
use Rattle.type_terms.specs.declared.number.BoundVarIndexKind.{BoundVarIndexKind}
use Rattle.type_terms.specs.declared.number.BoundVarIndexKind.TheVariants.{Bound as KBinder, Canonical as KCanonical}
use Rattle.type_terms.specs.declared.region.Region.{Region}
use Rattle.type_terms.specs.declared.region.RegionKind.{RegionKind}
use Rattle.type_terms.specs.declared.region.RegionKind.TheVariants.{ReStatic, ReEarlyParam, RePlaceholder, ReBound, ReVar}
use Rattle.type_terms.specs.declared.node.Node.{Node}
use Rattle.type_terms.specs.declared.node.Node.TheVariants.{Ty, Const, Args, Tys, Bounds}
use Rattle.type_terms.specs.declared.kinds.IntTy.{IntTy}
use Rattle.type_terms.specs.declared.kinds.UintTy.{UintTy}
use Rattle.type_terms.specs.declared.kinds.Mutability.{Mutability}
use Rattle.type_terms.specs.declared.kinds.TyKind.{TyKind}
use Rattle.type_terms.specs.declared.kinds.TyKind.TheVariants.{Bool as KBool, Char as KChar, Int as KInt, Uint as KUint, Str as KStr, Never as KNever, Adt, Ref, RawPtr, Array as KArray, Slice as KSlice, Tuple, FnPtr, Dynamic, Param as KParam, Placeholder as KPlaceholder, Bound as KBound, Infer as KInfer}
use Rattle.type_terms.specs.declared.kinds.ConstKind.{ConstKind}
use Rattle.type_terms.specs.declared.kinds.ConstKind.TheVariants.{Value as CValue, Param as CParam, Placeholder as CPlaceholder, Bound as CBound, Infer as CInfer}
use Rattle.type_terms.specs.declared.kinds.Ty as ty-module
use Rattle.type_terms.specs.declared.kinds.Const as const-module
use Rattle.type_terms.specs.declared.kinds.GenericArgs.{GenericArgs}
use Rattle.type_terms.specs.declared.kinds.Tys as tys-module
use Rattle.type_terms.specs.declared.kinds.Bounds as bounds-module
use Rattle.type_terms.specs.declared.kinds.GenericArgKind.{GenericArgKind}
use Rattle.type_terms.specs.declared.kinds.GenericArgKind.TheVariants.{Lifetime, Ty as AType, Const as AConst}
use Rattle.type_terms.specs.declared.kinds.Principal.{Principal}
use Rattle.type_terms.specs.declared.kinds.BoundsData.{BoundsData}
use Rattle.type_terms.specs.contracts.AdtIdPartialEq.TheImpl.{ghosts as adt-id}
use Rattle.type_terms.specs.contracts.TraitIdPartialEq.TheImpl.{ghosts as trait-id}
use Rattle.type_terms.specs.contracts.number.DebruijnIndexPartialEq.TheImpl.{ghosts as debruijn}
use Rattle.type_terms.specs.contracts.number.BoundVarPartialEq.TheImpl.{ghosts as variable}
use Rattle.type_terms.specs.contracts.number.TyVidPartialEq.TheImpl.{ghosts as ty-vid}
use Rattle.type_terms.specs.contracts.number.ConstVidPartialEq.TheImpl.{ghosts as const-vid}
use Rattle.type_terms.specs.contracts.number.RegionVidPartialEq.TheImpl.{ghosts as region-vid}
use Rattle.type_terms.specs.contracts.number.BoundVarIndexKindPartialEq.TheImpl.{ghosts as binder}
use Rattle.type_terms.specs.contracts.region.RegionKindPartialEq.TheImpl.{ghosts as region-kind}
use Rattle.type_terms.specs.contracts.region.RegionPartialEq.TheImpl.{ghosts as region}
use Rattle.type_terms.specs.contracts.node.NodePartialEq.TheImpl.{ghosts}
use Rattle.type_terms.specs.contracts.kinds.IntTyPartialEq.TheImpl.{ghosts as int}
use Rattle.type_terms.specs.contracts.kinds.UintTyPartialEq.TheImpl.{ghosts as uint}
use Rattle.type_terms.specs.contracts.kinds.MutabilityPartialEq.TheImpl.{ghosts as mutability}
use Rattle.type_terms.specs.contracts.kinds.TyKindPartialEq.TheImpl.{ghosts as kind}
use Rattle.type_terms.specs.contracts.kinds.ConstKindPartialEq.TheImpl.{ghosts as const-kind}
use Rattle.type_terms.specs.contracts.kinds.TyPartialEq.TheImpl.{ghosts as ty}
use Rattle.type_terms.specs.contracts.kinds.ConstPartialEq.TheImpl.{ghosts as const}
use Rattle.type_terms.specs.contracts.kinds.GenericArgsPartialEq.TheImpl.{ghosts as args}
use Rattle.type_terms.specs.contracts.kinds.TysPartialEq.TheImpl.{ghosts as tys}
use Rattle.type_terms.specs.contracts.kinds.BoundsPartialEq.TheImpl.{ghosts as bounds-handle}
use Rattle.type_terms.specs.contracts.kinds.GenericArgKindPartialEq.TheImpl.{ghosts as arg}
use Rattle.type_terms.specs.contracts.kinds.PrincipalPartialEq.TheImpl.{ghosts as principal}
use Rattle.type_terms.specs.contracts.kinds.BoundsDataPartialEq.TheImpl.{ghosts as bounds}
use Rattle.type_terms.proofs.Labels.{adt-back, trait-back, binder-back, variable-back, ty-vid-back, const-vid-back, region-vid-back}
use Rattle.type_terms.proofs.TypeBasics.{args-eq}
use Rattle.type_terms.proofs.NumberBasics.{number-eq}

-- ---- tests of parts
pub both : (a b : Bool) (P Q : Type 0) → Decides a P → Decides b Q → Decides (a && b) (P × Q)
both true true P Q p q = (λ _. (p.0 refl, q.0 refl), λ _. refl)
both true false P Q p q = (λ e. cc, λ h. q.1 h.1)
both false b P Q p q = (λ e. cc, λ h. p.1 h.0)

pub through : (a : Bool) (P Q : Type 0) → Decides a P → (P → Q) → (Q → P) → Decides a Q
through a P Q d f g = (λ e. f (d.0 e), λ h. d.1 (g h))

-- ---- numbers
adt-eq : (a b : AdtId) → Decides (adt-id.eq a b) (a ≡ b)
adt-eq a b = search (rules, adt-back)

pub trait-eq : (a b : TraitId) → Decides (trait-id.eq a b) (a ≡ b)
trait-eq a b = search (rules, trait-back)

pub debruijn-eq : (a b : DebruijnIndex) → Decides (debruijn.eq a b) (a ≡ b)
debruijn-eq a b = search (rules, binder-back)

pub variable-eq : (a b : BoundVar) → Decides (variable.eq a b) (a ≡ b)
variable-eq a b = search (rules, variable-back)

ty-vid-eq : (a b : TyVid) → Decides (ty-vid.eq a b) (a ≡ b)
ty-vid-eq a b = search (rules, ty-vid-back)

const-vid-eq : (a b : ConstVid) → Decides (const-vid.eq a b) (a ≡ b)
const-vid-eq a b = search (rules, const-vid-back)

pub region-vid-eq : (a b : RegionVid) → Decides (region-vid.eq a b) (a ≡ b)
region-vid-eq a b = search (rules, region-vid-back)

pub binder-eq : (a b : BoundVarIndexKind) → Decides (binder.eq a b) (a ≡ b)
binder-eq (KBinder j) (KBinder k) = through _ _ _ (debruijn-eq j k) (λ p. ap KBinder p) (λ e. cc)
binder-eq KCanonical KCanonical = (λ e. refl, λ e. refl)
binder-eq _ _ = (λ e. cc, λ e. cc)

-- ---- handles and small kinds
pub ty-eq : (a b : ty-module.Ty) → Decides (ty.eq a b) (a ≡ b)
ty-eq a b = search rules

pub const-eq : (a b : const-module.Const) → Decides (const.eq a b) (a ≡ b)
const-eq a b = search rules

tys-eq : (a b : tys-module.Tys) → Decides (tys.eq a b) (a ≡ b)
tys-eq a b = search rules

bounds-handle-eq : (a b : bounds-module.Bounds) → Decides (bounds-handle.eq a b) (a ≡ b)
bounds-handle-eq a b = search rules

int-eq : (a b : IntTy) → Decides (int.eq a b) (a ≡ b)
int-eq a b = search rules

uint-eq : (a b : UintTy) → Decides (uint.eq a b) (a ≡ b)
uint-eq a b = search rules

mutability-eq : (a b : Mutability) → Decides (mutability.eq a b) (a ≡ b)
mutability-eq a b = search rules

pub region-kind-eq : (a b : RegionKind) → Decides (region-kind.eq a b) (a ≡ b)
region-kind-eq ReStatic ReStatic = (λ e. refl, λ e. refl)
region-kind-eq (ReEarlyParam i) (ReEarlyParam j) = through _ _ _ (number-eq i j) (λ p. ap ReEarlyParam p) (λ e. cc)
region-kind-eq (RePlaceholder i) (RePlaceholder j) = through _ _ _ (number-eq i j) (λ p. ap RePlaceholder p) (λ e. cc)
region-kind-eq (ReBound j v) (ReBound k w) = through _ _ _ (both _ _ _ _ (binder-eq j k) (variable-eq v w)) (λ p. cc) (λ e. (cc, cc))
region-kind-eq (ReVar v) (ReVar w) = through _ _ _ (region-vid-eq v w) (λ p. ap ReVar p) (λ e. cc)
region-kind-eq _ _ = (λ e. cc, λ e. cc)

pub region-eq : (a b : Region) → Decides (region.eq a b) (a ≡ b)
region-eq a b = through _ _ _ (region-kind-eq a.kind b.kind) (λ p. ap (λ k. record { kind = k }) p) (λ e. ap (λ r. r.kind) e)

-- ---- kinds
kind-eq : (a b : TyKind) → Decides (kind.eq a b) (a ≡ b)
kind-eq (KInt v) (KInt w) = through _ _ _ (int-eq v w) (λ p. ap KInt p) (λ e. cc)
kind-eq (KUint v) (KUint w) = through _ _ _ (uint-eq v w) (λ p. ap KUint p) (λ e. cc)
kind-eq (Adt d x) (Adt f y) = through _ _ _ (both _ _ _ _ (adt-eq d f) (args-eq x y)) (λ p. cc) (λ e. (cc, cc))
kind-eq (Ref r t m) (Ref s u n) = through _ _ _ (both _ _ _ _ (region-eq r s) (both _ _ _ _ (ty-eq t u) (mutability-eq m n))) (λ p. cc) (λ e. (cc, (cc, cc)))
kind-eq (RawPtr t m) (RawPtr u n) = through _ _ _ (both _ _ _ _ (ty-eq t u) (mutability-eq m n)) (λ p. cc) (λ e. (cc, cc))
kind-eq (KArray t m) (KArray u n) = through _ _ _ (both _ _ _ _ (ty-eq t u) (const-eq m n)) (λ p. cc) (λ e. (cc, cc))
kind-eq (KSlice t) (KSlice u) = through _ _ _ (ty-eq t u) (λ p. ap KSlice p) (λ e. cc)
kind-eq (Tuple x) (Tuple y) = through _ _ _ (tys-eq x y) (λ p. ap Tuple p) (λ e. cc)
kind-eq (FnPtr m x) (FnPtr n y) = through _ _ _ (both _ _ _ _ (number-eq m n) (tys-eq x y)) (λ p. cc) (λ e. (cc, cc))
kind-eq (Dynamic x r) (Dynamic y s) = through _ _ _ (both _ _ _ _ (bounds-handle-eq x y) (region-eq r s)) (λ p. cc) (λ e. (cc, cc))
kind-eq (KParam i) (KParam j) = through _ _ _ (number-eq i j) (λ p. ap KParam p) (λ e. cc)
kind-eq (KPlaceholder i) (KPlaceholder j) = through _ _ _ (number-eq i j) (λ p. ap KPlaceholder p) (λ e. cc)
kind-eq (KBound j v) (KBound k w) = through _ _ _ (both _ _ _ _ (binder-eq j k) (variable-eq v w)) (λ p. cc) (λ e. (cc, cc))
kind-eq (KInfer v) (KInfer w) = through _ _ _ (ty-vid-eq v w) (λ p. ap KInfer p) (λ e. cc)
kind-eq KBool KBool = (λ e. refl, λ e. refl)
kind-eq KChar KChar = (λ e. refl, λ e. refl)
kind-eq KStr KStr = (λ e. refl, λ e. refl)
kind-eq KNever KNever = (λ e. refl, λ e. refl)
kind-eq _ _ = (λ e. cc, λ e. cc)

const-kind-eq : (a b : ConstKind) → Decides (const-kind.eq a b) (a ≡ b)
const-kind-eq (CValue i) (CValue j) = through _ _ _ (number-eq i j) (λ p. ap CValue p) (λ e. cc)
const-kind-eq (CParam i) (CParam j) = through _ _ _ (number-eq i j) (λ p. ap CParam p) (λ e. cc)
const-kind-eq (CPlaceholder i) (CPlaceholder j) = through _ _ _ (number-eq i j) (λ p. ap CPlaceholder p) (λ e. cc)
const-kind-eq (CBound j v) (CBound k w) = through _ _ _ (both _ _ _ _ (binder-eq j k) (variable-eq v w)) (λ p. cc) (λ e. (cc, cc))
const-kind-eq (CInfer v) (CInfer w) = through _ _ _ (const-vid-eq v w) (λ p. ap CInfer p) (λ e. cc)
const-kind-eq _ _ = (λ e. cc, λ e. cc)

pub arg-eq : (a b : GenericArgKind) → Decides (arg.eq a b) (a ≡ b)
arg-eq (Lifetime r) (Lifetime s) = through _ _ _ (region-eq r s) (λ p. ap Lifetime p) (λ e. cc)
arg-eq (AType t) (AType u) = through _ _ _ (ty-eq t u) (λ p. ap AType p) (λ e. cc)
arg-eq (AConst t) (AConst u) = through _ _ _ (const-eq t u) (λ p. ap AConst p) (λ e. cc)
arg-eq _ _ = (λ e. cc, λ e. cc)

principal-eq : (a b : Principal) → Decides (principal.eq a b) (a ≡ b)
principal-eq a b = through _ _ _ (both _ _ _ _ (number-eq a.bound_vars b.bound_vars) (both _ _ _ _ (trait-eq a.def_id b.def_id) (args-eq a.args b.args)))
    (λ p. joined p.0 p.1.0 p.1.1) (λ e. (ap (λ q. q.bound_vars) e, (ap (λ q. q.def_id) e, ap (λ q. q.args) e)))
  where
    three : {A B C D : Type 0} (f : A → B → C → D) (x x' : A) (y y' : B) (z z' : C) → x ≡ x' → y ≡ y' → z ≡ z' → f x y z ≡ f x' y' z'
    three f x x' y y' z z' p q r = cc

    joined : a.bound_vars ≡ b.bound_vars → a.def_id ≡ b.def_id → a.args ≡ b.args → a ≡ b
    joined p q r = three (λ (n : ℕ) (t : TraitId) (g : GenericArgs). record { bound_vars = n; def_id = t; args = g }) _ _ _ _ _ _ p q r

some-eq : (a b : Option Principal) → Decides (option_eq principal.eq a b) (a ≡ b)
some-eq None None = (λ e. refl, λ e. refl)
some-eq (Some a) (Some b) = through _ _ _ (principal-eq a b) (λ p. ap Some p) (λ e. cc)
some-eq _ _ = (λ e. cc, λ e. cc)

bounds-eq : (a b : BoundsData) → Decides (bounds.eq a b) (SameBounds a b)
bounds-eq a b = both _ _ _ _ (some-eq a.principal b.principal) (slice_eq-Decides trait-eq a.autos.items b.autos.items _ refl)

pub node-eq : (a b : Node) → Decides (ghosts.eq a b) (SameNode a b)
node-eq (Ty k) (Ty m) = kind-eq k m
node-eq (Const k) (Const m) = const-kind-eq k m
node-eq (Args k) (Args m) = slice_eq-Decides arg-eq k.items m.items (ghosts.eq (Args k) (Args m)) refl
node-eq (Tys k) (Tys m) = slice_eq-Decides ty-eq k.items m.items (ghosts.eq (Tys k) (Tys m)) refl
node-eq (Bounds k) (Bounds m) = bounds-eq k m
node-eq (Ty k) _ = (λ e. cc, λ z. absurd z)
node-eq (Const k) _ = (λ e. cc, λ z. absurd z)
node-eq (Args k) _ = (λ e. cc, λ z. absurd z)
node-eq (Tys k) _ = (λ e. cc, λ z. absurd z)
node-eq (Bounds k) _ = (λ e. cc, λ z. absurd z)

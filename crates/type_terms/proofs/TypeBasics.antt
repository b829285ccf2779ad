-- Small facts on the types of the code.
use Rattle.std.proofs.Common.{◌≡◌, rules, ℕ, [], Some, Result, OnErr, Ok, Err, ◌∷◌, zero, suc, refl, None, IfOk, Option}
use Rattle.std.proofs.Math.Nat.{min-le_right}
use Rattle.std.proofs.lemmas.Option.{same_Some}
use Rattle.std.specs.Bool.{Decides}
use Rattle.std.specs.List.{slice_get}
use Rattle.std.specs.Option.{option_map}
use Rattle.std.specs.Prelude.{IsErrAnd}
use Rattle.type_terms.specs.Promised.Handles.{region_label}
use Rattle.type_terms.specs.Promised.Label.{of_lifetime, Label}
use Rattle.type_terms.specs.Promised.Trees.{sort_of, Trees}
use Rattle.type_terms.specs.Promised.Worlds.{Reference}
use Rattle.type_terms.specs.contracts.kinds.GenericArgsPartialEq.TheImpl.{ghosts as args}
use Rattle.type_terms.specs.declared.Fault.{Fault}
use Rattle.type_terms.specs.declared.Fault.TheVariants.{Full}
use Rattle.type_terms.specs.declared.ImplId.{ImplId}
use Rattle.type_terms.specs.declared.TheConstants.{MAX_INDEX}
use Rattle.type_terms.specs.declared.kinds.GenericArgs.{GenericArgs}
use Rattle.type_terms.specs.declared.number.BoundVarIndexKind.TheVariants.{Bound as KBinder, Canonical as KCanonical}
use Rattle.type_terms.specs.declared.region.RegionKind.{RegionKind}
use Rattle.type_terms.specs.declared.region.RegionKind.TheVariants.{ReStatic, ReEarlyParam, RePlaceholder, ReBound, ReVar}

pub args-eq : (a b : GenericArgs) → Decides (args.eq a b) (a ≡ b)
args-eq a b = search rules

pub none-at : (n : ℕ) (k : Reference) → slice_get [] n ≡ Some k → ⊥
none-at n k e = cc

pub on-err : {T E : Type 0} (P : Type 0) (r : Result T E) → P → OnErr r P
on-err P (Ok x) p = tt
on-err P (Err e) p = p

-- refused
pub only : (x k : Reference) (n : ℕ) → slice_get (x ∷ []) n ≡ Some k → x ≡ k
only x k zero e = cc
only x k (suc n) e = cc

pub region-sort : (k : RegionKind) → sort_of (region_label k) ≡ of_lifetime
region-sort ReStatic = refl
region-sort (ReEarlyParam i) = refl
region-sort (RePlaceholder i) = refl
region-sort (ReBound (KBinder k) v) = refl
region-sort (ReBound KCanonical v) = refl
region-sort (ReVar v) = refl

pub some-not-none : (l : Label) → Some l ≡ None → ⊥
some-not-none l e = cc

pub handed-on : {T A : Type 0} (r : Result T Fault) {x : Fault} → IsErrAnd r (λ y. y ≡ x) → (x ≡ Full → A) → r ≡ Err Full → A
handed-on (Ok y) h f q = absurd h
handed-on (Err y) h f q = f cc

pub if-ok : {T E : Type 0} (P Q : T → Type 0) (r : Result T E) → ((x : T) → P x → Q x) → IfOk r P → IfOk r Q
if-ok P Q (Ok x) f h = f x h
if-ok P Q (Err e) f h = tt

pub none-some : (x : Trees) → None ≡ Some x → ⊥
none-some x e = cc

pub some-is : {A : Type 0} (x y : A) → Some x ≡ Some y → x ≡ y
some-is x y e = cc

pub first_id : ImplId
first_id = record { index = 0; in_range = min-le_right 0 MAX_INDEX }

pub ok-after : {A E : Type 0} (P Q : A → Type 0) (r : Result A E) → ((x : A) → P x → Q x) → IfOk r P → IfOk r Q
ok-after P Q (Ok x) f h = f x h
ok-after P Q (Err e) f h = tt

pub both-ok : {T E : Type 0} (P Q R : T → Type 0) (r : Result T E) → ((x : T) → P x → Q x → R x) → IfOk r P → IfOk r Q → IfOk r R
both-ok P Q R (Ok x) f p q = f x p q
both-ok P Q R (Err e) f p q = tt

pub mapped-some : {A B : Type 0} (f : A → B) (o : Option A) (y : B) → option_map f o ≡ Some y → (x : A) × (o ≡ Some x) × (f x ≡ y)
mapped-some f None y e = absurd cc
mapped-some f (Some x) y e = (x, refl, same_Some (f x) y e)

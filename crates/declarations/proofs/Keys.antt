-- The derived equality of keys, and what a map of keys lists.
use Rattle.std.proofs.Common.{◌≡◌, Bool, true, false, cond, ◌&&◌, ◌||◌, Result, Ok, Err, OnOk, List, [], ◌∷◌, ◌++◌, Option, Some, None, refl, sym, ap, ◌∙◌, if◌then◌else◌}
use Rattle.std.specs.Prelude.{◌==◌}
use Rattle.std.specs.Option.{option_map, option_map_or, option_eq}
use Rattle.std.specs.HashMap.{HashMap, get_by}
use Rattle.type_terms.specs.Promised.Label.{Label}
use Rattle.type_terms.specs.Codes.{same_label}
use Rattle.type_terms.proofs.Applies.{same-label-itself}
use Rattle.type_terms.proofs.Matching.{same-label-sound}
use Rattle.type_terms.proofs.Members.{self-number}
use Rattle.type_terms.specs.Kinds.{int_number, uint_number}
use Rattle.type_terms.specs.declared.ImplId.{ImplId}
use Rattle.type_terms.specs.declared.kinds.IntTy.{IntTy}
use Rattle.type_terms.specs.declared.kinds.IntTy.TheVariants.{I8, I16, I32, I64, I128, Isize}
use Rattle.type_terms.specs.declared.kinds.UintTy.{UintTy}
use Rattle.type_terms.specs.declared.kinds.UintTy.TheVariants.{U8, U16, U32, U64, U128, Usize}
use Rattle.type_terms.specs.declared.kinds.Mutability.{Mutability}
use Rattle.type_terms.specs.declared.kinds.Mutability.TheVariants.{Not, Mut}
use Rattle.type_terms.specs.contracts.kinds.IntTyPartialEq.TheImpl.{ghosts as int-ty}
use Rattle.type_terms.specs.contracts.kinds.UintTyPartialEq.TheImpl.{ghosts as uint-ty}
use Rattle.type_terms.specs.contracts.kinds.MutabilityPartialEq.TheImpl.{ghosts as mutability}
use Rattle.declarations.specs.contracts.simplify.SimplifiedTypePartialEq.TheImpl.{ghosts as head}
use Rattle.declarations.specs.contracts.heads.ImplHeadPartialEq.TheImpl.{ghosts as key}
use Rattle.declarations.specs.contracts.heads.ImplKeyPartialEq.TheImpl.{ghosts as index}
use Rattle.declarations.specs.declared.simplify.SimplifiedType.{SimplifiedType}
use Rattle.declarations.specs.declared.simplify.SimplifiedType.TheVariants.{Bool as SBool, Char as SChar, Int as SInt, Uint as SUint, Adt as SAdt, Str as SStr, Array as SArray, Slice as SSlice, Ref as SRef, Ptr as SPtr, Never as SNever, Tuple as STuple, Dynamic as SDynamic, Function as SFunction}
use Rattle.declarations.specs.declared.heads.ImplHead.{ImplHead}
use Rattle.declarations.specs.declared.heads.ImplIds.{ImplIds}
use Rattle.declarations.specs.declared.heads.ImplKey.{ImplKey}
use Rattle.declarations.specs.declared.heads.ImplKey.TheVariants.{Headed, Open, Fixed, Shallow, Inner}
use Rattle.declarations.specs.Heads.{label_of, same_self}
use Rattle.declarations.specs.Index.{ids_in, is_head, is_key, listed}
use Rattle.declarations.proofs.Lookups.{lookup-agree, one-number}
use Rattle.type_terms.proofs.BooleanBasics.{and-both}

pub and-true : (b : Bool) → b ≡ (b && true)
and-true true = refl
and-true false = refl

int-tells : (a b : IntTy) → int-ty.eq a b ≡ ((int_number a == int_number b) && true)
int-tells I8 I8 = refl
int-tells I8 b = refl
int-tells I16 I16 = refl
int-tells I16 b = refl
int-tells I32 I32 = refl
int-tells I32 b = refl
int-tells I64 I64 = refl
int-tells I64 b = refl
int-tells I128 I128 = refl
int-tells I128 b = refl
int-tells Isize Isize = refl
int-tells Isize b = refl

uint-tells : (a b : UintTy) → uint-ty.eq a b ≡ ((uint_number a == uint_number b) && true)
uint-tells U8 U8 = refl
uint-tells U8 b = refl
uint-tells U16 U16 = refl
uint-tells U16 b = refl
uint-tells U32 U32 = refl
uint-tells U32 b = refl
uint-tells U64 U64 = refl
uint-tells U64 b = refl
uint-tells U128 U128 = refl
uint-tells U128 b = refl
uint-tells Usize Usize = refl
uint-tells Usize b = refl

ref-tells : (a b : Mutability) → mutability.eq a b ≡ same_label (label_of (SRef a)) (label_of (SRef b))
ref-tells Not Not = refl
ref-tells Not Mut = refl
ref-tells Mut Not = refl
ref-tells Mut Mut = refl

ptr-tells : (a b : Mutability) → mutability.eq a b ≡ same_label (label_of (SPtr a)) (label_of (SPtr b))
ptr-tells Not Not = refl
ptr-tells Not Mut = refl
ptr-tells Mut Not = refl
ptr-tells Mut Mut = refl

pub head-tells : (a b : SimplifiedType) → head.eq a b ≡ same_label (label_of a) (label_of b)
head-tells (SInt a) (SInt b) = int-tells a b
head-tells (SInt a) b = refl
head-tells (SUint a) (SUint b) = uint-tells a b
head-tells (SUint a) b = refl
head-tells (SAdt a) (SAdt b) = and-true (a.index == b.index)
head-tells (SAdt a) b = refl
head-tells (SRef a) (SRef b) = ref-tells a b
head-tells (SRef a) b = refl
head-tells (SPtr a) (SPtr b) = ptr-tells a b
head-tells (SPtr a) b = refl
head-tells SBool SBool = refl
head-tells SBool b = refl
head-tells SChar SChar = refl
head-tells SChar b = refl
head-tells SStr SStr = refl
head-tells SStr b = refl
head-tells SArray SArray = refl
head-tells SArray b = refl
head-tells SSlice SSlice = refl
head-tells SSlice b = refl
head-tells SNever SNever = refl
head-tells SNever b = refl
head-tells STuple STuple = refl
head-tells STuple b = refl
head-tells SDynamic SDynamic = refl
head-tells SDynamic b = refl
head-tells SFunction SFunction = refl
head-tells SFunction b = refl

self-tells : (a b : Option SimplifiedType) → option_eq head.eq a b ≡ same_self (option_map label_of a) (option_map label_of b)
self-tells None None = refl
self-tells None (Some b) = refl
self-tells (Some a) None = refl
self-tells (Some a) (Some b) = head-tells a b

pub key-tells : (h k : ImplHead) → key.eq h k ≡ is_head h k
key-tells h k = ap (λ t. (h.trait_id.index == k.trait_id.index) && t) (self-tells h.self_ty k.self_ty)

-- ---- equal keys list the same
same-self-sound : (a b : Option Label) → same_self a b ≡ true → a ≡ b
same-self-sound None None h = refl
same-self-sound None (Some m) h = absurd cc
same-self-sound (Some l) None h = absurd cc
same-self-sound (Some l) (Some m) h = ap Some (same-label-sound l m h)

key-parts : (h k : ImplHead) → is_head h k ≡ true → (h.trait_id.index ≡ k.trait_id.index) × (option_map label_of h.self_ty ≡ option_map label_of k.self_ty)
key-parts h k e =
    let p = and-both (h.trait_id.index == k.trait_id.index) _ e in
    (one-number h.trait_id.index k.trait_id.index p.0, same-self-sound _ _ p.1)

-- two equal heads are equal to the same ones
heads-agree : (h k : ImplHead) → is_head h k ≡ true → (j : ImplHead) → is_head h j ≡ is_head k j
heads-agree h k e j =
    let p = key-parts h k e in
    ap (λ n. (n == j.trait_id.index) && same_self (option_map label_of h.self_ty) (option_map label_of j.self_ty)) p.0
    ∙ ap (λ s. (k.trait_id.index == j.trait_id.index) && same_self s (option_map label_of j.self_ty)) p.1

index-tells : (h k : ImplKey) → index.eq h k ≡ is_key h k
index-tells (Headed h) (Headed k) = key-tells h k
index-tells (Headed h) (Open k) = refl
index-tells (Headed h) (Fixed q) = refl
index-tells (Headed h) (Shallow u) = refl
index-tells (Headed h) (Inner k u) = refl
index-tells (Open h) (Headed k) = refl
index-tells (Open h) (Open k) = key-tells h k
index-tells (Open h) (Fixed q) = refl
index-tells (Open h) (Shallow u) = refl
index-tells (Open h) (Inner k u) = refl
index-tells (Fixed r) (Headed k) = refl
index-tells (Fixed r) (Open k) = refl
index-tells (Fixed r) (Fixed q) = refl
index-tells (Fixed r) (Shallow u) = refl
index-tells (Fixed r) (Inner k u) = refl
index-tells (Shallow t) (Headed k) = refl
index-tells (Shallow t) (Open k) = refl
index-tells (Shallow t) (Fixed q) = refl
index-tells (Shallow t) (Shallow u) = refl
index-tells (Shallow t) (Inner k u) = refl
index-tells (Inner h s) (Headed k) = refl
index-tells (Inner h s) (Open k) = refl
index-tells (Inner h s) (Fixed q) = refl
index-tells (Inner h s) (Shallow u) = refl
index-tells (Inner h s) (Inner k u) = ap (λ b. b && head.eq s u) (key-tells h k) ∙ ap (λ b. is_head h k && b) (head-tells s u)

-- and so are two equal keys
keys-agree : (h k : ImplKey) → is_key h k ≡ true → (j : ImplKey) → is_key h j ≡ is_key k j
keys-agree (Headed h) (Headed k) e (Headed j) = heads-agree h k e j
keys-agree (Headed h) (Headed k) e (Open j) = refl
keys-agree (Headed h) (Headed k) e (Fixed p) = refl
keys-agree (Headed h) (Headed k) e (Shallow w) = refl
keys-agree (Headed h) (Headed k) e (Inner j w) = refl
keys-agree (Headed h) (Open k) e j = absurd cc
keys-agree (Headed h) (Fixed q) e j = absurd cc
keys-agree (Headed h) (Shallow u) e j = absurd cc
keys-agree (Headed h) (Inner k u) e j = absurd cc
keys-agree (Open h) (Headed k) e j = absurd cc
keys-agree (Open h) (Open k) e (Headed j) = refl
keys-agree (Open h) (Open k) e (Open j) = heads-agree h k e j
keys-agree (Open h) (Open k) e (Fixed p) = refl
keys-agree (Open h) (Open k) e (Shallow w) = refl
keys-agree (Open h) (Open k) e (Inner j w) = refl
keys-agree (Open h) (Fixed q) e j = absurd cc
keys-agree (Open h) (Shallow u) e j = absurd cc
keys-agree (Open h) (Inner k u) e j = absurd cc
keys-agree (Fixed r) (Headed k) e j = absurd cc
keys-agree (Fixed r) (Open k) e j = absurd cc
keys-agree (Fixed r) (Fixed q) e (Headed j) = refl
keys-agree (Fixed r) (Fixed q) e (Open j) = refl
keys-agree (Fixed r) (Fixed q) e (Fixed p) =
    let b = and-both (r.def_id.index == q.def_id.index) _ e in
    ap (λ n. (n == p.def_id.index) && (r.args.0 == p.args.0)) (one-number r.def_id.index q.def_id.index b.0)
    ∙ ap (λ n. (q.def_id.index == p.def_id.index) && (n == p.args.0)) (one-number r.args.0 q.args.0 b.1)
keys-agree (Fixed r) (Fixed q) e (Shallow w) = refl
keys-agree (Fixed r) (Fixed q) e (Inner j w) = refl
keys-agree (Fixed r) (Shallow u) e j = absurd cc
keys-agree (Fixed r) (Inner k u) e j = absurd cc
keys-agree (Shallow t) (Headed k) e j = absurd cc
keys-agree (Shallow t) (Open k) e j = absurd cc
keys-agree (Shallow t) (Fixed q) e j = absurd cc
keys-agree (Shallow t) (Shallow u) e (Headed j) = refl
keys-agree (Shallow t) (Shallow u) e (Open j) = refl
keys-agree (Shallow t) (Shallow u) e (Fixed p) = refl
keys-agree (Shallow t) (Shallow u) e (Shallow w) = ap (λ n. n == w.index) (one-number t.index u.index e)
keys-agree (Shallow t) (Shallow u) e (Inner j w) = refl
keys-agree (Shallow t) (Inner k u) e j = absurd cc
keys-agree (Inner h s) (Headed k) e j = absurd cc
keys-agree (Inner h s) (Open k) e j = absurd cc
keys-agree (Inner h s) (Fixed q) e j = absurd cc
keys-agree (Inner h s) (Shallow u) e j = absurd cc
keys-agree (Inner h s) (Inner k u) e (Headed j) = refl
keys-agree (Inner h s) (Inner k u) e (Open j) = refl
keys-agree (Inner h s) (Inner k u) e (Fixed p) = refl
keys-agree (Inner h s) (Inner k u) e (Shallow w) = refl
keys-agree (Inner h s) (Inner k u) e (Inner j w) =
    let b = and-both (is_head h k) _ e in
    ap (λ z. z && same_label (label_of s) (label_of w)) (heads-agree h k b.0 j)
    ∙ ap (λ l. is_head k j && same_label l (label_of w)) (same-label-sound (label_of s) (label_of u) b.1)

pub same-self-itself : (a : Option Label) → same_self a a ≡ true
same-self-itself None = refl
same-self-itself (Some l) = same-label-itself l

head-itself : (h : ImplHead) → is_head h h ≡ true
head-itself h = ap (λ b. b && same_self (option_map label_of h.self_ty) (option_map label_of h.self_ty)) (self-number h.trait_id.index) ∙ same-self-itself (option_map label_of h.self_ty)

key-itself : (k : ImplKey) → is_key k k ≡ true
key-itself (Headed h) = head-itself h
key-itself (Open h) = head-itself h
key-itself (Fixed r) = ap (λ b. b && (r.args.0 == r.args.0)) (self-number r.def_id.index) ∙ self-number r.args.0
key-itself (Shallow t) = self-number t.index
key-itself (Inner h s) = ap (λ b. b && same_label (label_of s) (label_of s)) (head-itself h) ∙ same-label-itself (label_of s)

module _ {S : Type 0} where
  pub same-listed : (m : HashMap ImplKey ImplIds S) (h k : ImplKey) → is_key h k ≡ true → listed m h ≡ listed m k
  same-listed m h k e = ap (λ o. option_map_or ids_in o []) (lookup-agree (is_key h) (is_key k) m.entries (keys-agree h k e))

  pub listed-by : (m : HashMap ImplKey ImplIds S) (h : ImplKey) → listed m h ≡ option_map_or ids_in (get_by (index.eq h) m) []
  listed-by m h = ap (λ o. option_map_or ids_in o []) (sym (lookup-agree (index.eq h) (is_key h) m.entries (index-tells h)))

  abbrev pub Changes : HashMap ImplKey ImplIds S → HashMap ImplKey ImplIds S → ImplKey → ImplIds → Type 0
  Changes m n h w = (q : ImplKey) → get_by (index.eq q) n ≡ cond (index.eq h q) (Some w) (get_by (index.eq q) m)

  pub changed : (m n : HashMap ImplKey ImplIds S) (h : ImplKey) (w : ImplIds) → Changes m n h w → (k : ImplKey) → listed n k ≡ cond (is_key h k) (ids_in w) (listed m k)
  changed m n h w u k =
      listed-by n k ∙ ap (λ o. option_map_or ids_in o []) (u k) ∙ by (index.eq h k)
      ∙ ap (λ t. cond t (ids_in w) (listed m k)) (index-tells h k)
    where
      by : (b : Bool) → option_map_or ids_in (cond b (Some w) (get_by (index.eq k) m)) [] ≡ cond b (ids_in w) (listed m k)
      by true = refl
      by false = sym (listed-by m k)

  pub listed-more : (m n : HashMap ImplKey ImplIds S) (h : ImplKey) (w : ImplIds) (i : ImplId) → Changes m n h w → ids_in w ≡ listed m h ++ i ∷ []
      → (k : ImplKey) → listed n k ≡ (if is_key h k then listed m k ++ i ∷ [] else listed m k)
  listed-more m n h w i u more k = changed m n h w u k ∙ by (is_key h k) refl
    where
      by : (b : Bool) → is_key h k ≡ b → cond b (ids_in w) (listed m k) ≡ cond b (listed m k ++ i ∷ []) (listed m k)
      by true e = more ∙ ap (λ l. l ++ i ∷ []) (same-listed m h k e)
      by false e = refl

  pub listed-same : (m n : HashMap ImplKey ImplIds S) (h : ImplKey) (w : ImplIds) → Changes m n h w → ids_in w ≡ listed m h → (k : ImplKey) → listed n k ≡ listed m k
  listed-same m n h w u stays k = changed m n h w u k ∙ by (is_key h k) refl
    where
      by : (b : Bool) → is_key h k ≡ b → cond b (ids_in w) (listed m k) ≡ listed m k
      by true e = stays ∙ same-listed m h k e
      by false e = refl

  -- what is listed where the last one is taken away
  pub listed-fewer : (m n : HashMap ImplKey ImplIds S) (h : ImplKey) (w : ImplIds) → Changes m n h w → (k : ImplKey) → is_key h k ≡ false → listed n k ≡ listed m k
  listed-fewer m n h w u k e = changed m n h w u k ∙ ap (λ b. cond b (ids_in w) (listed m k)) e

  pub listed-itself : (m n : HashMap ImplKey ImplIds S) (h : ImplKey) (w : ImplIds) → Changes m n h w → listed n h ≡ ids_in w
  listed-itself m n h w u = changed m n h w u h ∙ ap (λ b. cond b (ids_in w) (listed m h)) (key-itself h)

  -- the key has again what it had, once what was put under it is taken away
  pub taken-back : (m n q : HashMap ImplKey ImplIds S) (h : ImplKey) (i : ImplId) → ((k : ImplKey) → listed n k ≡ (if is_key h k then listed m k ++ i ∷ [] else listed m k))
      → ((ids : List ImplId) (j : ImplId) → listed n h ≡ ids ++ j ∷ [] → listed q h ≡ ids) → ((k : ImplKey) → is_key h k ≡ false → listed q k ≡ listed n k)
      → (k : ImplKey) → listed q k ≡ listed m k
  taken-back m n q h i added taken others k = by (is_key h k) refl
    where
      by : (b : Bool) → is_key h k ≡ b → listed q k ≡ listed m k
      by true e =
          sym (same-listed q h k e)
          ∙ taken (listed m h) i (added h ∙ ap (λ b. if b then listed m h ++ i ∷ [] else listed m h) (key-itself h))
          ∙ same-listed m h k e
      by false e = others k e ∙ added k ∙ ap (λ b. if b then listed m k ++ i ∷ [] else listed m k) e

  -- each list without its last one, where that is under the key
  pub taken-off : (n q : HashMap ImplKey ImplIds S) (h : ImplKey) (i : ImplId) (rest : ImplKey → List ImplId) → ((k : ImplKey) → listed n k ≡ (if is_key h k then rest k ++ i ∷ [] else rest k))
      → ((ids : List ImplId) (j : ImplId) → listed n h ≡ ids ++ j ∷ [] → listed q h ≡ ids) → ((k : ImplKey) → is_key h k ≡ false → listed q k ≡ listed n k)
      → (k : ImplKey) → listed q k ≡ rest k
  taken-off n q h i rest had taken others k = by (is_key h k) refl
    where
      by : (b : Bool) → is_key h k ≡ b → listed q k ≡ rest k
      by true e = sym (same-listed q h k e) ∙ taken (rest k) i (same-listed n h k e ∙ had k ∙ ap (λ b. if b then rest k ++ i ∷ [] else rest k) e)
      by false e = others k e ∙ had k ∙ ap (λ b. if b then rest k ++ i ∷ [] else rest k) e

-- ---- an impl that is taken from lists one after another
-- no list is taken from twice
pub first-off : (a b c : Bool) (rest : List ImplId) (i : ImplId) → (a ≡ true → b ≡ false) → ((a || b) ≡ true → c ≡ false)
    → (if (a || b) || c then rest ++ i ∷ [] else rest) ≡ (if a then (if b || c then rest ++ i ∷ [] else rest) ++ i ∷ [] else (if b || c then rest ++ i ∷ [] else rest))
first-off true true c rest i u v = let bad : true ≡ false = u refl in absurd cc
first-off true false true rest i u v = let bad : true ≡ false = v refl in absurd cc
first-off true false false rest i u v = refl
first-off false true c rest i u v = refl
first-off false false c rest i u v = refl

pub second-off : (a b c : Bool) (rest : List ImplId) (i : ImplId) → ((a || b) ≡ true → c ≡ false)
    → (if b || c then rest ++ i ∷ [] else rest) ≡ (if b then (if c then rest ++ i ∷ [] else rest) ++ i ∷ [] else (if c then rest ++ i ∷ [] else rest))
second-off true true true rest i v = let bad : true ≡ false = v refl in absurd cc
second-off false true true rest i v = let bad : true ≡ false = v refl in absurd cc
second-off a true false rest i v = refl
second-off a false c rest i v = refl

-- ---- an impl that is added to lists one after another
-- no list has both, so each has it once
pub added-second : (a b : Bool) (old mid new : List ImplId) (i : ImplId) → (a ≡ true → b ≡ false) → mid ≡ (if a then old ++ i ∷ [] else old) → new ≡ (if b then mid ++ i ∷ [] else mid)
    → new ≡ (if a || b then old ++ i ∷ [] else old)
added-second true true old mid new i u e f = let bad : true ≡ false = u refl in absurd cc
added-second true false old mid new i u e f = f ∙ e
added-second false true old mid new i u e f = f ∙ ap (λ l. l ++ i ∷ []) e
added-second false false old mid new i u e f = f ∙ e

pub added-first : (a b : Bool) (old mid new : List ImplId) (i : ImplId) → (b ≡ true → a ≡ false) → mid ≡ (if a then old ++ i ∷ [] else old) → new ≡ (if b then mid ++ i ∷ [] else mid)
    → new ≡ (if b || a then old ++ i ∷ [] else old)
added-first true true old mid new i u e f = let bad : true ≡ false = u refl in absurd cc
added-first true false old mid new i u e f = f ∙ e
added-first false true old mid new i u e f = f ∙ ap (λ l. l ++ i ∷ []) e
added-first false false old mid new i u e f = f ∙ e

pub on-ok : {T E : Type 0} (P Q : Type 0) (r : Result T E) → (P → Q) → OnOk r P → OnOk r Q
on-ok P Q (Ok x) f p = f p
on-ok P Q (Err e) f p = tt

-- ---- what ends is not empty
pub no-end : (ids : List ImplId) (id : ImplId) → [] ≡ ids ++ id ∷ [] → ⊥
no-end [] id e = absurd cc
no-end (i ∷ ids) id e = absurd cc

-- One more impl, behind the others.
use Rattle.std.proofs.Common.{◌≡◌, ℕ, ◌<◌, Bool, true, false, cond, ◌&&◌, ◌||◌, List, [], ◌∷◌, ◌++◌, Option, Some, None, refl, sym, ap, ◌∙◌, subst, arith, if◌then◌else◌}
use Rattle.std.proofs.lemmas.List.{map_push}
use Rattle.std.specs.Prelude.{◌==◌, map, filter}
use Rattle.std.specs.Option.{option_map}
use Rattle.std.specs.Map.{lookup}
use Rattle.type_terms.specs.Promised.Label.{Label}
use Rattle.type_terms.specs.Codes.{same_numbers, numbers, same_label}
use Rattle.type_terms.specs.Promised.Trees.{Trees, none, tree, nth}
use Rattle.type_terms.specs.declared.AdtId.{AdtId}
use Rattle.type_terms.specs.declared.TraitId.{TraitId}
use Rattle.type_terms.specs.declared.ImplId.{ImplId}
use Rattle.type_terms.specs.contracts.ImplIdPartialEq.TheImpl.{ghosts as impl-id}
use Rattle.term_folds.specs.declared.predicate.TraitRef.{TraitRef}
use Rattle.declarations.specs.declared.items.AdtDef.{AdtDef}
use Rattle.declarations.specs.declared.items.TraitDef.{TraitDef}
use Rattle.declarations.specs.declared.items.ImplDef.{ImplDef}
use Rattle.declarations.specs.declared.heads.ImplHead.{ImplHead}
use Rattle.declarations.specs.declared.heads.ImplKey.{ImplKey}
use Rattle.declarations.specs.declared.heads.ImplKey.TheVariants.{Headed, Open, Fixed, Shallow, Inner}
use Rattle.declarations.specs.declared.simplify.SimplifiedType.{SimplifiedType}
use Rattle.declarations.specs.declared.declarations.ImplEntry.{ImplEntry}
use Rattle.declarations.specs.Apart.{is_fixed}
use Rattle.declarations.specs.Heads.{label_of, same_self, head_of, inner_head_of, begins_declared, matches_inner, is_shallow}
use Rattle.declarations.specs.Index.{is_head, is_key, is_that_key, has_head, has_key, inner_key, ids_of, head_with}
use Rattle.declarations.specs.Promised.Elaboration.{Each}
use Rattle.declarations.specs.Merges.{Rises}
use Rattle.declarations.specs.Items.{Items, HeldImpl, with_struct, with_trait, with_impl, struct_in, trait_in, impl_in, held_impl, declared}
use Rattle.declarations.specs.Held.{AreHeld, StructHeld, TraitHeld, ImplHeld}
use Rattle.type_terms.specs.Promised.Handles.{Entry, trees_at}
use Rattle.type_terms.specs.Promised.Erased.{erased_struct, erased_trait, erased_impl}
use Rattle.declarations.specs.Inside.{impl_of}
use Rattle.declarations.proofs.Lookups.{turned, one-number}
use Rattle.declarations.proofs.Merging.{rises-pushed}
use Rattle.type_terms.proofs.BooleanBasics.{and-false, or-false}
use Rattle.declarations.proofs.Keys.{and-true}

numbers-turned : (x y : ℕ × (ℕ × (ℕ × ℕ))) → same_numbers x y ≡ same_numbers y x
numbers-turned (a, (b, (c, d))) (e, (f, (g, h))) =
    ap (λ t. t && ((b == f) && ((c == g) && (d == h)))) (turned a e) ∙ ap (λ t. (e == a) && (t && ((c == g) && (d == h)))) (turned b f)
    ∙ ap (λ t. (e == a) && ((f == b) && (t && (d == h)))) (turned c g) ∙ ap (λ t. (e == a) && ((f == b) && ((g == c) && t))) (turned d h)

self-turned : (a b : Option Label) → same_self a b ≡ same_self b a
self-turned None None = refl
self-turned None (Some m) = refl
self-turned (Some l) None = refl
self-turned (Some l) (Some m) = numbers-turned (numbers l) (numbers m)

ids-pushed : (p : HeldImpl → Bool) (xs : List HeldImpl) (x : HeldImpl) → ids_of p (xs ++ x ∷ []) ≡ (if p x then ids_of p xs ++ x.id ∷ [] else ids_of p xs)
ids-pushed p [] x = by (p x)
  where
    by : (b : Bool) → map (λ i. i.id) (cond b (x ∷ []) []) ≡ (if b then x.id ∷ [] else [])
    by true = refl
    by false = refl
ids-pushed p (y ∷ ys) x = by (p y) (p x) (ids-pushed p ys x)
  where
    by : (a b : Bool) → ids_of p (ys ++ x ∷ []) ≡ (if b then ids_of p ys ++ x.id ∷ [] else ids_of p ys)
        → map (λ i. i.id) (cond a (y ∷ filter p (ys ++ x ∷ [])) (filter p (ys ++ x ∷ [])))
        ≡ (if b then map (λ i. i.id) (cond a (y ∷ filter p ys) (filter p ys)) ++ x.id ∷ [] else map (λ i. i.id) (cond a (y ∷ filter p ys) (filter p ys)))
    by true true r = ap (λ l. y.id ∷ l) r
    by true false r = ap (λ l. y.id ∷ l) r
    by false true r = r
    by false false r = r

-- ---- the keys of an impl

module _ (i : ImplId) (def : ImplDef) (s n : Option SimplifiedType) where
  abbrev entry : Bool → HeldImpl
  entry f = impl_of (i, record { def = def; self_ty = s; inner = n; is_fixed = f })

  abbrev own : Bool → ImplKey
  own f = if f then Fixed def.header else Open (head_with def.header s)

  abbrev deep : Option SimplifiedType → Option ImplKey
  deep m = inner_key (head_with def.header s) m

  turned-head : (f : Bool) (k : ImplHead) → is_head (head_with def.header s) k ≡ has_head k (entry f)
  turned-head f k = ap (λ b. (def.header.def_id.index == k.trait_id.index) && b) (self-turned (option_map label_of s) (option_map label_of k.self_ty))

  -- the first two keys of an impl, and its third
  abbrev first-two : Bool → ImplKey → Bool
  first-two f k = is_key (Headed (head_with def.header s)) k || is_key (own f) k

  unlike-shallow : (b : Bool) (k : ImplKey) → ((t : TraitId) → k ≡ Shallow t → ⊥) → is_that_key (if b then Some (Shallow def.header.def_id) else None) k ≡ false
  unlike-shallow true (Headed k) u = refl
  unlike-shallow true (Open k) u = refl
  unlike-shallow true (Fixed q) u = refl
  unlike-shallow true (Shallow t) u = absurd (u t refl)
  unlike-shallow true (Inner k x) u = refl
  unlike-shallow false k u = refl

  headed-not-deep : (m : Option SimplifiedType) (k : ImplHead) → is_that_key (deep m) (Headed k) ≡ false
  headed-not-deep None k = unlike-shallow (matches_inner (option_map label_of s)) (Headed k) (λ t e. absurd cc)
  headed-not-deep (Some x) k = refl

  open-not-deep : (m : Option SimplifiedType) (k : ImplHead) → is_that_key (deep m) (Open k) ≡ false
  open-not-deep None k = unlike-shallow (matches_inner (option_map label_of s)) (Open k) (λ t e. absurd cc)
  open-not-deep (Some x) k = refl

  fixed-not-deep : (m : Option SimplifiedType) (q : TraitRef) → is_that_key (deep m) (Fixed q) ≡ false
  fixed-not-deep None q = unlike-shallow (matches_inner (option_map label_of s)) (Fixed q) (λ t e. absurd cc)
  fixed-not-deep (Some x) q = refl

  shallow-is : (m : Option SimplifiedType) (t : TraitId) → is_that_key (deep m) (Shallow t) ≡ ((def.header.def_id.index == t.index) && is_shallow (option_map label_of s) (option_map label_of m))
  shallow-is (Some x) t = and-false (def.header.def_id.index == t.index)
  shallow-is None t = by (matches_inner (option_map label_of s))
    where
      by : (b : Bool) → is_that_key (if b then Some (Shallow def.header.def_id) else None) (Shallow t) ≡ ((def.header.def_id.index == t.index) && b)
      by true = and-true (def.header.def_id.index == t.index)
      by false = and-false (def.header.def_id.index == t.index)

  inner-is : (f : Bool) (m : Option SimplifiedType) (k : ImplHead) (x : SimplifiedType) → is_that_key (deep m) (Inner k x) ≡ (has_head k (entry f) && same_self (Some (label_of x)) (option_map label_of m))
  inner-is f (Some y) k x =
      ap (λ b. b && same_label (label_of y) (label_of x)) (turned-head f k) ∙ ap (λ b. has_head k (entry f) && b) (self-turned (Some (label_of y)) (Some (label_of x)))
  inner-is f None k x = unlike-shallow (matches_inner (option_map label_of s)) (Inner k x) (λ t e. absurd cc) ∙ and-false (has_head k (entry f))

  with-third : (a b : Bool) → b ≡ false → (a || b) ≡ a
  with-third a b e = ap (λ z. a || z) e ∙ or-false a

  has-keys : (f : Bool) (k : ImplKey) → (first-two f k || is_that_key (deep n) k) ≡ has_key k (entry f)
  has-keys true (Headed k) = with-third _ _ (headed-not-deep n k) ∙ or-false (is_head (head_with def.header s) k) ∙ turned-head true k
  has-keys false (Headed k) = with-third _ _ (headed-not-deep n k) ∙ or-false (is_head (head_with def.header s) k) ∙ turned-head false k
  has-keys true (Open k) = open-not-deep n k ∙ and-false (has_head k (entry true))
  has-keys false (Open k) = with-third (is_head (head_with def.header s) k) _ (open-not-deep n k) ∙ turned-head false k ∙ and-true (has_head k (entry false))
  has-keys true (Fixed q) = with-third _ _ (fixed-not-deep n q)
  has-keys false (Fixed q) = fixed-not-deep n q
  has-keys true (Shallow t) = shallow-is n t
  has-keys false (Shallow t) = shallow-is n t
  has-keys true (Inner k x) = inner-is true n k x
  has-keys false (Inner k x) = inner-is false n k x

  -- no key is both one of the first two and the third
  pub apart-third : (f : Bool) (o : ImplKey) (p : Option ImplKey) → o ≡ own f → p ≡ deep n → (k : ImplKey) → (is_key (Headed (head_with def.header s)) k || is_key o k) ≡ true → is_that_key p k ≡ false
  apart-third f o p e g k h = ap (λ x. is_that_key x k) g ∙ by f k (ap (λ x. is_key (Headed (head_with def.header s)) k || is_key x k) (sym e) ∙ h)
    where
      by : (f : Bool) (k : ImplKey) → first-two f k ≡ true → is_that_key (deep n) k ≡ false
      by f (Headed k) h = headed-not-deep n k
      by f (Open k) h = open-not-deep n k
      by f (Fixed q) h = fixed-not-deep n q
      by true (Shallow t) h = absurd cc
      by false (Shallow t) h = absurd cc
      by true (Inner k x) h = absurd cc
      by false (Inner k x) h = absurd cc

  -- no key is both that of its head and its own
  pub apart-keys : (f : Bool) (o : ImplKey) → o ≡ own f → (k : ImplKey) → is_key (Headed (head_with def.header s)) k ≡ true → is_key o k ≡ false
  apart-keys f o e k h = ap (λ x. is_key x k) e ∙ by f k h
    where
      by : (f : Bool) (k : ImplKey) → is_key (Headed (head_with def.header s)) k ≡ true → is_key (own f) k ≡ false
      by true (Headed k) h = refl
      by false (Headed k) h = refl
      by f (Open k) h = absurd cc
      by f (Fixed q) h = absurd cc
      by f (Shallow t) h = absurd cc
      by f (Inner k x) h = absurd cc

  -- the list under each key, once the impl is put under all
  pub pushed-under : (f : Bool) (o : ImplKey) (p : Option ImplKey) → o ≡ own f → p ≡ deep n → (xs : List HeldImpl) (k : ImplKey) (old new : List ImplId) → old ≡ ids_of (has_key k) xs
      → new ≡ (if (is_key (Headed (head_with def.header s)) k || is_key o k) || is_that_key p k then old ++ i ∷ [] else old) → new ≡ ids_of (has_key k) (xs ++ entry f ∷ [])
  pushed-under f o p e g xs k old new before after =
      after ∙ ap (λ l. if (is_key (Headed (head_with def.header s)) k || is_key o k) || is_that_key p k then l ++ i ∷ [] else l) before
      ∙ ap (λ b. if b then ids_of (has_key k) xs ++ i ∷ [] else ids_of (has_key k) xs)
      (ap (λ x. (is_key (Headed (head_with def.header s)) k || is_key x k) || is_that_key p k) e ∙ ap (λ x. first-two f k || is_that_key x k) g ∙ has-keys f k)
      ∙ sym (ids-pushed (has_key k) xs (entry f))

  -- the list under each key, which the last impl is under if it has the key
  pub popped-under : (f : Bool) (o : ImplKey) (p : Option ImplKey) → o ≡ own f → p ≡ deep n → (xs : List HeldImpl) (k : ImplKey) (old : List ImplId) → old ≡ ids_of (has_key k) (xs ++ entry f ∷ [])
      → old ≡ (if (is_key (Headed (head_with def.header s)) k || is_key o k) || is_that_key p k then ids_of (has_key k) xs ++ i ∷ [] else ids_of (has_key k) xs)
  popped-under f o p e g xs k old before =
      before ∙ ids-pushed (has_key k) xs (entry f)
      ∙ ap (λ b. if b then ids_of (has_key k) xs ++ i ∷ [] else ids_of (has_key k) xs)
      (sym (ap (λ x. (is_key (Headed (head_with def.header s)) k || is_key x k) || is_that_key p k) e ∙ ap (λ x. first-two f k || is_that_key x k) g ∙ has-keys f k))

pub rises-more : (xs : List HeldImpl) (x : HeldImpl) → Rises (map (λ i. i.id) xs) → Each (λ i. i.id.index < x.id.index) xs → Rises (map (λ i. i.id) (xs ++ x ∷ []))
rises-more xs x r h = subst Rises (sym (map_push (λ i. i.id) xs x)) (rises-pushed (λ (i : HeldImpl). i.id) xs x.id r h)

apart : (j k : ImplId) → k.index < j.index → impl-id.eq j k ≡ true → ⊥
apart j k h e = let same : j.index ≡ k.index = one-number j.index k.index e in omega arith

pub impl-new : (i : ImplId) (es : List (ImplId × ImplEntry)) → Each (λ x. x.id.index < i.index) (map impl_of es) → lookup (impl-id.eq i) es ≡ None
impl-new i [] h = refl
impl-new i (e ∷ es) h = by (impl-id.eq i e.0) refl (impl-new i es h.1)
  where
    by : (b : Bool) → impl-id.eq i e.0 ≡ b → lookup (impl-id.eq i) es ≡ None → cond b (Some e.1) (lookup (impl-id.eq i) es) ≡ None
    by true t r = absurd (apart i e.0 h.0 t)
    by false t r = r

-- ---- what the items are with one more
pub more-structs : (a now : Items) (x : AdtId × AdtDef) (l : List (AdtId × AdtDef)) → a ≡ now → l ≡ a.structs ++ x ∷ [] → record a { structs = l } ≡ with_struct now x
more-structs a now x l v e = ap (λ s. let d : Items = record a { structs = s } in d) e ∙ ap (λ d. with_struct d x) v

pub more-traits : (a now : Items) (x : TraitId × TraitDef) (l : List (TraitId × TraitDef)) → a ≡ now → l ≡ a.traits ++ x ∷ [] → record a { traits = l } ≡ with_trait now x
more-traits a now x l v e = ap (λ s. let d : Items = record a { traits = s } in d) e ∙ ap (λ d. with_trait d x) v

abbrev one : ImplId → ImplDef → Option Label → Option Label → Bool → HeldImpl
one i def s n f = record { id = i; def = def; self_head = s; inner_head = n; is_fixed = f }

pub more-impls : (a now : Items) (i : ImplId) (def : ImplDef) (s t n m : Option Label) (f g : Bool) (l : List HeldImpl) → a ≡ now → l ≡ a.impls ++ one i def s n f ∷ [] → s ≡ t → n ≡ m → f ≡ g
    → record a { impls = l } ≡ with_impl now (one i def t m g)
more-impls a now i def s t n m f g l v e h j k =
    ap (λ s. let d : Items = record a { impls = s } in d) e
    ∙ ap (λ o. with_impl a (one i def o n f)) h
    ∙ ap (λ o. with_impl a (one i def t o f)) j
    ∙ ap (λ b. with_impl a (one i def t m b)) k
    ∙ ap (λ d. with_impl d (one i def t m g)) v

pub head-of-first : (A : Trees) → begins_declared A ≡ true → head_of (nth A 0) ≡ head_of A
head-of-first none h = absurd cc
head-of-first (tree l c o) h = refl

pub inner-of-first : (A : Trees) → begins_declared A ≡ true → inner_head_of (nth A 0) ≡ inner_head_of A
inner-of-first none h = absurd cc
inner-of-first (tree l c o) h = refl

-- ---- the world with one more, and its terms
pub struct-declared : (es : List Entry) (d n : Items) (x : AdtId × AdtDef) → n ≡ with_struct d x → (declared es n).structs ≡ (declared es d).structs ++ erased_struct (struct_in es x) ∷ []
struct-declared es d n x e =
    ap (λ m. (declared es m).structs) e ∙ ap (map erased_struct) (map_push (struct_in es) d.structs x) ∙ map_push erased_struct (map (struct_in es) d.structs) (struct_in es x)

pub trait-declared : (es : List Entry) (d n : Items) (x : TraitId × TraitDef) → n ≡ with_trait d x → (declared es n).traits ≡ (declared es d).traits ++ erased_trait (trait_in es x) ∷ []
trait-declared es d n x e =
    ap (λ m. (declared es m).traits) e ∙ ap (map erased_trait) (map_push (trait_in es) d.traits x) ∙ map_push erased_trait (map (trait_in es) d.traits) (trait_in es x)

pub impl-declared : (es : List Entry) (d n : Items) (x : HeldImpl) → n ≡ with_impl d x → (declared es n).impls ≡ (declared es d).impls ++ erased_impl (impl_in es x.id x.def) ∷ []
impl-declared es d n x e =
    ap (λ m. (declared es m).impls) e ∙ ap (map erased_impl) (map_push (λ i. impl_in es i.id i.def) d.impls x)
    ∙ map_push erased_impl (map (λ i. impl_in es i.id i.def) d.impls) (impl_in es x.id x.def)

each-more : {A : Type 0} (P : A → Type 0) (xs : List A) (y : A) → Each P xs → P y → Each P (xs ++ y ∷ [])
each-more P [] y h p = (p, tt)
each-more P (x ∷ xs) y h p = (h.0, each-more P xs y h.1 p)

pub struct-held : (es : List Entry) (d n : Items) (i : AdtId) (def : AdtDef) → AreHeld es d → StructHeld es def → n ≡ with_struct d (i, def) → AreHeld es n
struct-held es d n i def h x e =
    subst (AreHeld es) (sym e) (record { structs = each-more (λ y. StructHeld es y.1) d.structs (i, def) h.structs x; traits = h.traits; impls = h.impls; heads = h.heads; inner = h.inner; fixed = h.fixed })

pub trait-held : (es : List Entry) (d n : Items) (i : TraitId) (def : TraitDef) → AreHeld es d → TraitHeld es def → n ≡ with_trait d (i, def) → AreHeld es n
trait-held es d n i def h x e =
    subst (AreHeld es) (sym e) (record { structs = h.structs; traits = each-more (λ y. TraitHeld es y.1) d.traits (i, def) h.traits x; impls = h.impls; heads = h.heads; inner = h.inner; fixed = h.fixed })

pub impl-held : (es : List Entry) (d n : Items) (i : ImplId) (def : ImplDef) → AreHeld es d → ImplHeld es def → n ≡ with_impl d (held_impl es i def) → AreHeld es n
impl-held es d n i def h x e =
    subst (AreHeld es) (sym e)
    (record {
      structs = h.structs;
      traits = h.traits;
      impls = each-more (λ (y : HeldImpl). ImplHeld es y.def) d.impls (held_impl es i def) h.impls x;
      heads = each-more (λ (y : HeldImpl). y.self_head ≡ head_of (trees_at es y.def.header.args.0)) d.impls (held_impl es i def) h.heads refl;
      inner = each-more (λ (y : HeldImpl). y.inner_head ≡ inner_head_of (trees_at es y.def.header.args.0)) d.impls (held_impl es i def) h.inner refl;
      fixed = each-more (λ (y : HeldImpl). y.is_fixed ≡ is_fixed (trees_at es y.def.header.args.0)) d.impls (held_impl es i def) h.fixed refl;
    })

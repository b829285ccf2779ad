-- What a name stands for, where a name is added.
use Rattle.std.proofs.Common.{◌≡◌, ℕ, ◌<◌, Bool, true, false, cond, List, [], ◌∷◌, ◌++◌, length, Option, Some, None, refl, sym, ap, ◌∙◌, subst, arith, inl, inr, ⊎_elim}
use Rattle.std.proofs.lemmas.Bool.{cases_Bool, cond-true, cond-false}
use Rattle.std.proofs.lemmas.List.Folds.{find-append}
use Rattle.std.proofs.lemmas.Option.{slice_get_within}
use Rattle.std.specs.Prelude.{find, slice_get}
use Rattle.std.specs.Option.{option_map, option_or}
use Rattle.std.specs.Str.{bytes_eq}
use Rattle.std.specs.Cmp.Lexicographic.{bytes_decides, nat_list_eq_equiv}
use Rattle.std.specs.HashMap.{HashMap, get_by, UpdatesBy}
use Rattle.std.specs.Map.{update, lookup, IsKeyTest, AreApart, KeepsOthers}
use Rattle.std.specs.declared.vec.Vec.{Vec}
use Rattle.text_language.specs.Promised.Declarations.{Declarations, NamedCrate, NamedStruct, NamedTrait, a_crate, a_struct, a_trait, known}
use Rattle.text_tables.specs.Numbered.{IsNumbered}
use Rattle.text_tables.specs.Tables.{NamedItem, crate_item, struct_item, trait_item, crate_named, struct_named, trait_named, item_named, with_crate, with_struct, with_trait}
use Rattle.text_tables.proofs.Each.{find-some}

-- ---- the definitions
none-first : {A : Type 0} (a b : Option A) → option_or a b ≡ None → (a ≡ None) × (b ≡ None)
none-first None b e = (refl, e)
none-first (Some x) b e = absurd cc

or-none : {A : Type 0} (a : Option A) → option_or a None ≡ a
or-none None = refl
or-none (Some x) = refl

-- the name stands for k, and other names for what they stood for
abbrev pub Names : (List ℕ → Option NamedItem) → (List ℕ → Option NamedItem) → List ℕ → NamedItem → Type 0
Names old new name k = (n : List ℕ) → new n ≡ cond (bytes_eq name n) (Some k) (old n)

map-cond : {A B : Type 0} (f : A → B) (b : Bool) (x : A) → option_map f (cond b (Some x) None) ≡ cond b (Some (f x)) None
map-cond f true x = refl
map-cond f false x = refl

map-or : {A B : Type 0} (f : A → B) (a b : Option A) → option_map f (option_or a b) ≡ option_or (option_map f a) (option_map f b)
map-or f None b = refl
map-or f (Some x) b = refl

crate-pushed : (cs : List NamedCrate) (c : NamedCrate) (n : List ℕ) → crate_named (cs ++ c ∷ []) n ≡ option_or (crate_named cs n) (cond (bytes_eq c.text n) (Some (crate_item c.item.name)) None)
crate-pushed cs c n =
    ap (option_map (λ x. crate_item x.item.name)) (find-append (λ x. bytes_eq x.text n) cs (c ∷ [])) ∙ map-or (λ x. crate_item x.item.name) (find (λ x. bytes_eq x.text n) cs) (find (λ x. bytes_eq x.text n) (c ∷ []))
    ∙ ap (option_or (crate_named cs n)) (map-cond (λ x. crate_item x.item.name) (bytes_eq c.text n) c)

struct-pushed : (ss : List NamedStruct) (s : NamedStruct) (n : List ℕ) → struct_named (ss ++ s ∷ []) n ≡ option_or (struct_named ss n) (cond (bytes_eq s.text n) (Some (struct_item s.item.name)) None)
struct-pushed ss s n =
    ap (option_map (λ x. struct_item x.item.name)) (find-append (λ x. bytes_eq x.text n) ss (s ∷ [])) ∙ map-or (λ x. struct_item x.item.name) (find (λ x. bytes_eq x.text n) ss) (find (λ x. bytes_eq x.text n) (s ∷ []))
    ∙ ap (option_or (struct_named ss n)) (map-cond (λ x. struct_item x.item.name) (bytes_eq s.text n) s)

trait-pushed : (ts : List NamedTrait) (t : NamedTrait) (n : List ℕ) → trait_named (ts ++ t ∷ []) n ≡ option_or (trait_named ts n) (cond (bytes_eq t.text n) (Some (trait_item t.item.name)) None)
trait-pushed ts t n =
    ap (option_map (λ x. trait_item x.item.name)) (find-append (λ x. bytes_eq x.text n) ts (t ∷ [])) ∙ map-or (λ x. trait_item x.item.name) (find (λ x. bytes_eq x.text n) ts) (find (λ x. bytes_eq x.text n) (t ∷ []))
    ∙ ap (option_or (trait_named ts n)) (map-cond (λ x. trait_item x.item.name) (bytes_eq t.text n) t)

same-name : (m n : List ℕ) → bytes_eq m n ≡ true → m ≡ n
same-name m n h = (bytes_decides m n).0 h

first-new : {A : Type 0} (a b c : Option A) (m n : List ℕ) (k : A) → (bytes_eq m n ≡ true → option_or a (option_or b c) ≡ None)
    → option_or (option_or a (cond (bytes_eq m n) (Some k) None)) (option_or b c) ≡ cond (bytes_eq m n) (Some k) (option_or a (option_or b c))
first-new a b c m n k h =
    elim (cases_Bool (bytes_eq m n)) [
      | inl y ↦ let p = none-first a (option_or b c) (h y) in rw (y, p.0) refl
      | inr y ↦ rw (y, or-none a) refl
    ]

second-new : {A : Type 0} (a b c : Option A) (m n : List ℕ) (k : A) → (bytes_eq m n ≡ true → option_or a (option_or b c) ≡ None)
    → option_or a (option_or (option_or b (cond (bytes_eq m n) (Some k) None)) c) ≡ cond (bytes_eq m n) (Some k) (option_or a (option_or b c))
second-new a b c m n k h =
    elim (cases_Bool (bytes_eq m n)) [
      | inl y ↦ let p = none-first a (option_or b c) (h y) in let q = none-first b c p.1 in rw (y, p.0, q.0) refl
      | inr y ↦ rw (y, or-none b) refl
    ]

third-new : {A : Type 0} (a b c : Option A) (m n : List ℕ) (k : A) → (bytes_eq m n ≡ true → option_or a (option_or b c) ≡ None)
    → option_or a (option_or b (option_or c (cond (bytes_eq m n) (Some k) None))) ≡ cond (bytes_eq m n) (Some k) (option_or a (option_or b c))
third-new a b c m n k h =
    elim (cases_Bool (bytes_eq m n)) [
      | inl y ↦ let p = none-first a (option_or b c) (h y) in let q = none-first b c p.1 in rw (y, p.0, q.0, q.1) refl
      | inr y ↦ rw (y, or-none c) refl
    ]

untaken : (d : Declarations) (m n : List ℕ) → item_named d m ≡ None → bytes_eq m n ≡ true → item_named d n ≡ None
untaken d m n h y = subst (λ l. item_named d l ≡ None) (same-name m n y) h

pub names-crate : (d : Declarations) (c : NamedCrate) → item_named d c.text ≡ None → Names (item_named d) (item_named (with_crate d c)) c.text (crate_item c.item.name)
names-crate d c h = λ n.
    ap (λ a. option_or a (option_or (struct_named d.structs n) (trait_named d.traits n))) (crate-pushed d.crates c n)
    ∙ first-new (crate_named d.crates n) (struct_named d.structs n) (trait_named d.traits n) c.text n (crate_item c.item.name) (untaken d c.text n h)

pub names-struct : (d : Declarations) (s : NamedStruct) → item_named d s.text ≡ None → Names (item_named d) (item_named (with_struct d s)) s.text (struct_item s.item.name)
names-struct d s h = λ n.
    ap (λ b. option_or (crate_named d.crates n) (option_or b (trait_named d.traits n))) (struct-pushed d.structs s n)
    ∙ second-new (crate_named d.crates n) (struct_named d.structs n) (trait_named d.traits n) s.text n (struct_item s.item.name) (untaken d s.text n h)

pub names-trait : (d : Declarations) (t : NamedTrait) → item_named d t.text ≡ None → Names (item_named d) (item_named (with_trait d t)) t.text (trait_item t.item.name)
names-trait d t h = λ n.
    ap (λ c. option_or (crate_named d.crates n) (option_or (struct_named d.structs n) c)) (trait-pushed d.traits t n)
    ∙ third-new (crate_named d.crates n) (struct_named d.structs n) (trait_named d.traits n) t.text n (trait_item t.item.name) (untaken d t.text n h)

-- ---- the table
module _ {K : Type 0} (eq : K → K → Bool) (test : K → Bool) where
  pub other_entries : {X : Type 0} (old new : List (K × X)) → KeepsOthers eq test old new → (other : K → Bool) → IsKeyTest eq other → AreApart test other → lookup other new ≡ lookup other old
  unfolding KeepsOthers
  other_entries old new h = h

apart : (bs cs ks : List ℕ) → bytes_eq bs cs ≡ false → bytes_eq bs ks ≡ true → bytes_eq cs ks ≡ false
apart bs cs ks n y = nat_list_eq_equiv.symm cs ks ∙ sym (nat_list_eq_equiv.congr bs ks cs y) ∙ n

-- what is put at the bytes bs, and what stands at other bytes
pub bytes-updated : {Y X S : Type 0} (bs : List ℕ) (m n : HashMap (Vec ℕ Y) X S) (w : Option X) → UpdatesBy (λ x y. bytes_eq x.items y.items) (λ k. bytes_eq bs k.items) m n w
    → (cs : List ℕ) → get_by (λ k. bytes_eq cs k.items) n ≡ update bytes_eq (λ ds. get_by (λ k. bytes_eq ds k.items) m) bs w cs
bytes-updated {Y = Y} {X = X} {S = S} bs m n w h cs =
    ⊎_elim
    (λ y. subst (λ l. get_by (λ k. bytes_eq l k.items) n ≡ w) (same-name bs cs y) h.1 ∙ sym (cond-true (bytes_eq bs cs) w (get_by (λ k. bytes_eq cs k.items) m) y))
    (λ e. other_entries _ _ _ _ h.3 (λ k. bytes_eq cs k.items) (λ x y. nat_list_eq_equiv.congr cs x.items y.items) (λ k. apart bs cs k.items e) ∙ sym (cond-false (bytes_eq bs cs) w (get_by (λ k. bytes_eq cs k.items) m) e))
    (cases_Bool (bytes_eq bs cs))

-- ---- the item of a name is there
pub struct-known : (d : Declarations) (n : List ℕ) (k : ℕ) → IsNumbered d → item_named d n ≡ Some (struct_item k)
    → (s : NamedStruct) × (slice_get d.structs k ≡ Some s) × (known d n ≡ Some (a_struct k s.item.home s.kinds))
struct-known d n k i e =
    let found = struct-first (find (λ c. bytes_eq c.text n) d.crates) (find (λ s. bytes_eq s.text n) d.structs) (find (λ t. bytes_eq t.text n) d.traits) k e in
    let place = find-some (λ s. bytes_eq s.text n) d.structs found.0 found.1 in
    let number : found.0.item.name ≡ place.0 = (i.structs place.0 found.0 place.1).0 in
    (found.0, subst (λ m. slice_get d.structs m ≡ Some found.0) (sym number ∙ found.2) place.1, found.3)
  where
    struct-first : (c : Option NamedCrate) (s : Option NamedStruct) (t : Option NamedTrait) (k : ℕ)
        → option_or (option_map (λ x. crate_item x.item.name) c) (option_or (option_map (λ x. struct_item x.item.name) s) (option_map (λ x. trait_item x.item.name) t)) ≡ Some (struct_item k)
        → (x : NamedStruct) × (s ≡ Some x) × (x.item.name ≡ k)
        × (option_or (option_map (λ x. a_crate x.item.name) c) (option_or (option_map (λ x. a_struct x.item.name x.item.home x.kinds) s) (option_map (λ x. a_trait x.item.name x.item.home x.item.is_auto x.kinds) t)) ≡ Some (a_struct k x.item.home x.kinds))
    struct-first (Some c) s t k e = absurd cc
    struct-first None (Some s) t k e = let same : s.item.name ≡ k = cc in (s, refl, same, ap (λ m. Some (a_struct m s.item.home s.kinds)) same)
    struct-first None None (Some t) k e = absurd cc
    struct-first None None None k e = absurd cc

pub trait-known : (d : Declarations) (n : List ℕ) (k : ℕ) → IsNumbered d → item_named d n ≡ Some (trait_item k)
    → (t : NamedTrait) × (slice_get d.traits k ≡ Some t) × (known d n ≡ Some (a_trait k t.item.home t.item.is_auto t.kinds))
trait-known d n k i e =
    let found = trait-first (find (λ c. bytes_eq c.text n) d.crates) (find (λ s. bytes_eq s.text n) d.structs) (find (λ t. bytes_eq t.text n) d.traits) k e in
    let place = find-some (λ t. bytes_eq t.text n) d.traits found.0 found.1 in
    let number : found.0.item.name ≡ place.0 = (i.traits place.0 found.0 place.1).0 in
    (found.0, subst (λ m. slice_get d.traits m ≡ Some found.0) (sym number ∙ found.2) place.1, found.3)
  where
    trait-first : (c : Option NamedCrate) (s : Option NamedStruct) (t : Option NamedTrait) (k : ℕ)
        → option_or (option_map (λ x. crate_item x.item.name) c) (option_or (option_map (λ x. struct_item x.item.name) s) (option_map (λ x. trait_item x.item.name) t)) ≡ Some (trait_item k)
        → (x : NamedTrait) × (t ≡ Some x) × (x.item.name ≡ k)
        × (option_or (option_map (λ x. a_crate x.item.name) c) (option_or (option_map (λ x. a_struct x.item.name x.item.home x.kinds) s) (option_map (λ x. a_trait x.item.name x.item.home x.item.is_auto x.kinds) t)) ≡ Some (a_trait k x.item.home x.item.is_auto x.kinds))
    trait-first (Some c) s t k e = absurd cc
    trait-first None (Some s) t k e = absurd cc
    trait-first None None (Some t) k e = let same : t.item.name ≡ k = cc in (t, refl, same, ap (λ m. Some (a_trait m t.item.home t.item.is_auto t.kinds)) same)
    trait-first None None None k e = absurd cc

-- and the other way round: a name that isn't known has no item
pub no-item : (d : Declarations) (n : List ℕ) → known d n ≡ None → item_named d n ≡ None
no-item d n e = all-none (find (λ c. bytes_eq c.text n) d.crates) (find (λ s. bytes_eq s.text n) d.structs) (find (λ t. bytes_eq t.text n) d.traits) e
  where
    all-none : (c : Option NamedCrate) (s : Option NamedStruct) (t : Option NamedTrait)
        → option_or (option_map (λ x. a_crate x.item.name) c) (option_or (option_map (λ x. a_struct x.item.name x.item.home x.kinds) s) (option_map (λ x. a_trait x.item.name x.item.home x.item.is_auto x.kinds) t)) ≡ None
        → option_or (option_map (λ x. crate_item x.item.name) c) (option_or (option_map (λ x. struct_item x.item.name) s) (option_map (λ x. trait_item x.item.name) t)) ≡ None
    all-none (Some c) s t e = absurd cc
    all-none None (Some s) t e = absurd cc
    all-none None None (Some t) e = absurd cc
    all-none None None None e = refl

-- ---- a known crate is there
pub known-there : (d : Declarations) (n : List ℕ) (k : ℕ) → IsNumbered d → known d n ≡ Some (a_crate k) → k < length d.crates
known-there d n k i e =
    let found = crate-first (find (λ c. bytes_eq c.text n) d.crates) (find (λ s. bytes_eq s.text n) d.structs) (find (λ t. bytes_eq t.text n) d.traits) e in
    let place = find-some (λ c. bytes_eq c.text n) d.crates found.0 found.1 in
    let number : found.0.item.name ≡ place.0 = (i.crates place.0 found.0 place.1).0 in
    omega (arith, number, found.2, slice_get_within d.crates place.0 found.0 place.1)
  where
    crate-first : (c : Option NamedCrate) (s : Option NamedStruct) (t : Option NamedTrait)
        → option_or (option_map (λ x. a_crate x.item.name) c) (option_or (option_map (λ x. a_struct x.item.name x.item.home x.kinds) s) (option_map (λ x. a_trait x.item.name x.item.home x.item.is_auto x.kinds) t)) ≡ Some (a_crate k)
        → (x : NamedCrate) × (c ≡ Some x) × (x.item.name ≡ k)
    crate-first (Some c) s t e = let same : c.item.name ≡ k = cc in (c, refl, same)
    crate-first None (Some s) t e = absurd cc
    crate-first None None (Some t) e = absurd cc
    crate-first None None None e = absurd cc

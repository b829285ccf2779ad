-- The cells of a type are made as types are, if what it uses can be meant.
use Rattle.std.proofs.Common.{◌≡◌, ℕ, suc, ◌+◌, ◌<◌, ◌≤◌, Bool, true, false, List, [], ◌∷◌, ◌++◌, length, map, filter, Option, Some, None, refl, sym, ap, ◌∙◌, arith, subst}
use Rattle.std.specs.Prelude.{not, ◌||◌, ◌==◌, nat_lt, if◌then◌else◌}
use Rattle.std.specs.List.{list_any}
use Rattle.std.specs.Option.{option_and_then}
use Rattle.std.specs.Str.{bytes_eq}
use Rattle.type_terms.specs.Promised.Label.{Label, bool, char, str, int, uint, Sort, of_type, of_const, of_lifetime, array, slice, tuple, dynamic, fn_ptr, raw_pointer, principal}
use Rattle.type_terms.specs.Promised.Trees.{is_sort}
use Rattle.type_terms.specs.declared.TheConstants.{MAX_INDEX}
use Rattle.text_language.specs.Promised.Syntax.{TypeTree, of_primitive, never_type, variable_type, named, reference_to, pointer_to, slice_of, array_of, tuple_of, fn_of, fn_to, dyn_of, Types, no_types, and_type, Args, no_args, and_arg, Arg, lifetime_arg, number_arg, type_arg, Item, bound_item, lifetime_item, DynBounds, no_items, and_item, Length, number_length, name_length, variable_length}
use Rattle.text_language.specs.Promised.Declarations.{Declarations, Known, a_crate, a_struct, a_trait, known}
use Rattle.text_language.specs.Uses.{Use, items_use, trait_use, next_kind, other_kinds, kinds_of_struct, kinds_of_trait, types_count, args_count, lifetime_uses, length_uses, binder_uses, item_shape, item_shapes, type_uses, types_uses, args_uses, arg_uses, item_uses, items_uses}
use Rattle.text_language.specs.Promised.Faults.{is_among, is_auto_name}
use Rattle.text_language.specs.Faults.{is_bound, is_late, binds_auto, has_early_lifetime, static_name}
use Rattle.text_language.specs.Lowering.{Meanings, place_among, trait_number, struct_label, inserted, with_auto, autos}
use Rattle.text_names.specs.Resolved.{Region, bound_region, ResolvedCell, node_cell, param_cell, lifetime_cell, reference_cell, region_under, region_of, optional_region, named_cell, length_cell, autos_before, principals_count, principals, item_region, last_region, dyn_before, type_before, types_before, args_before, arg_before, item_before, items_before}
use Rattle.text_names.specs.Standing.{first_of_sort}
use Rattle.text_tables.specs.Made.{StackPart, type_part, const_part, lifetime_part, principal_part, auto_part, off_autos, off_principal, putting}
use Rattle.text_parser.specs.Making.{IsSmall, RegionSmall, variable_number, how_many, Makes}
use Rattle.text_parser.specs.Meant.{KnownFits, NumbersFit, FewNames, IsKnownStruct, NameMeans, UsesMean}
use Rattle.text_parser.proofs.Plain.{IsPrimitive, PlainType, PlainTypes, PlainArgs, PlainArg, PlainItem}
use Rattle.text_parser.proofs.Sizes.{type_size, types_size, args_size, arg_size, item_size, items_size, types-counted, args-counted}
use Rattle.text_parser.proofs.Stacks.{types_parts, types-gone, arg_part, args_parts, args-gone, auto_parts, Rises, autos-gone, inserted-rises, inserted-length}

-- ---- uses one behind the other
pub first-uses : (e : Meanings) (us ws : List Use) → UsesMean e (us ++ ws) → UsesMean e us
first-uses e [] ws h = tt
first-uses e (u ∷ us) ws h = (h.0, first-uses e us ws h.1)

pub last-uses : (e : Meanings) (us ws : List Use) → UsesMean e (us ++ ws) → UsesMean e ws
last-uses e [] ws h = h
last-uses e (u ∷ us) ws h = last-uses e us ws h.1

-- ---- places
place-within : (n : List ℕ) (ns : List (List ℕ)) → place_among n ns ≤ length ns
place-within n [] = omega arith
place-within n (m ∷ ms) = by (bytes_eq m n) (place-within n ms)
  where
    by : (b : Bool) → place_among n ms ≤ length ms → (if b then 0 else suc (place_among n ms)) ≤ suc (length ms)
    by true h = omega arith
    by false h = omega (arith, h)

-- ---- scopes: few binders, and each of few names
abbrev pub AllShort : List (List (List ℕ)) → Type 0
AllShort [] = Unit {0}
AllShort (b ∷ s) = IsSmall (length b) × AllShort s

if-region : (e : Meanings) (b : Bool) (x y : Region) → RegionSmall e x → RegionSmall e y → RegionSmall e (if b then x else y)
if-region e true x y g h = g
if-region e false x y g h = h

under-small : (e : Meanings) (k : ℕ) (s : List (List (List ℕ))) (n : List ℕ) → FewNames e → AllShort s → k + length s < MAX_INDEX → RegionSmall e (region_under e.params k s n)
under-small e k [] n f a r = omega (arith, f.0, place-within n e.params.lifetimes)
under-small e k (b ∷ s) n f a r =
    let small : k < MAX_INDEX = omega (arith, r) in
    let place : place_among n b < MAX_INDEX = omega (arith, a.0, place-within n b) in
    let room : suc k + length s < MAX_INDEX = omega (arith, r) in
    if-region e (is_among n b) (bound_region k (place_among n b)) (region_under e.params (suc k) s n) (small, place) (under-small e (suc k) s n f a.1 room)

-- what stands around a type, and how many cells are left
pub record Around (e : Meanings) (s : List (List (List ℕ))) (n : ℕ) : Type 0 where
  pub few : FewNames e
  pub numbers : NumbersFit e.items
  pub short : AllShort s
  pub room : length s + n < MAX_INDEX

less : (e : Meanings) (s : List (List (List ℕ))) (n m : ℕ) → Around e s n → m ≤ n → Around e s m
less e s n m w h = record { few = w.few; numbers = w.numbers; short = w.short; room = omega (arith, w.room, h) }

-- under one more binder
deeper : (e : Meanings) (s : List (List (List ℕ))) (b : List (List ℕ)) (n m : ℕ) → Around e s n → length b + suc m ≤ n → Around e (b ∷ s) m
deeper e s b n m w h = record { few = w.few; numbers = w.numbers; short = (omega (arith, w.room, h), w.short); room = omega (arith, w.room, h) }

region-small : (e : Meanings) (s : List (List (List ℕ))) (n : ℕ) (x : List ℕ) → Around e s n → RegionSmall e (region_of e.params s x)
region-small e s n x w =
    let room : 0 + length s < MAX_INDEX = omega (arith, w.room) in
    if-region e (bytes_eq x static_name) _ _ tt (under-small e 0 s x w.few w.short room)

optional-small : (e : Meanings) (s : List (List (List ℕ))) (n : ℕ) (x : Option (List ℕ)) → Around e s n → RegionSmall e (optional_region e.params s x)
optional-small e s n None w = tt
optional-small e s n (Some x) w = region-small e s n x w

item-small : (e : Meanings) (s : List (List (List ℕ))) (n : ℕ) (i : Item) → Around e s n → RegionSmall e (item_region e.params s i)
item-small e s n (bound_item b x args) w = tt
item-small e s n (lifetime_item x) w = region-small e s n x w

last-small : (e : Meanings) (s : List (List (List ℕ))) (n : ℕ) (i : Item) (is : DynBounds) → Around e s n → RegionSmall e (last_region e.params s i is)
last-small e s n i no_items w = item-small e s n i w
last-small e s n i (and_item j is) w = last-small e s n j is w

-- ---- variables and parameters
filter-within : (p : Sort) (vs : List (List ℕ × Sort)) → length (map (λ v. v.0) (filter (λ v. is_sort v.1 p) vs)) ≤ length vs
filter-within p [] = omega arith
filter-within p (v ∷ vs) = by (is_sort v.1 p) (filter-within p vs)
  where
    by : (b : Bool) → length (map (λ v. v.0) (filter (λ v. is_sort v.1 p) vs)) ≤ length vs
        → length (map (λ v. v.0) (if b then v ∷ filter (λ v. is_sort v.1 p) vs else filter (λ v. is_sort v.1 p) vs)) ≤ suc (length vs)
    by true h = omega (arith, h)
    by false h = omega (arith, h)

variable-small : (e : Meanings) (p : Sort) (n : List ℕ) → FewNames e → IsSmall (variable_number e p n)
variable-small e p n f = omega (arith, f.1, place-within n (map (λ v. v.0) (filter (λ v. is_sort v.1 p) e.variables)), filter-within p e.variables)

const-small : (e : Meanings) (n : List ℕ) → FewNames e → IsSmall (first_of_sort e of_const + place_among n e.params.consts)
const-small e n f = omega (arith, f.0, place-within n e.params.consts)

type-small : (e : Meanings) (n : List ℕ) → FewNames e → IsSmall (first_of_sort e of_type + place_among n e.params.types)
type-small e n f = omega (arith, f.0, place-within n e.params.types)

-- ---- a name
pub number-small : (e : Meanings) (n : List ℕ) → NumbersFit e.items → IsSmall (trait_number (known e.items n))
number-small e n f = by (known e.items n) (f n)
  where
    by : (o : Option Known) → KnownFits o → IsSmall (trait_number o)
    by None h = omega arith
    by (Some (a_crate k)) h = omega arith
    by (Some (a_struct k c ks)) h = omega arith
    by (Some (a_trait k c a ks)) h = h

-- a struct over its arguments
struct-makes : (e : Meanings) (o : Option Known) (ks : List Sort) (args : Args) (cs : List ResolvedCell) (S R : List StackPart) → IsKnownStruct o → KnownFits o → IsSmall (args_count args)
    → Makes e 0 cs (type_part ∷ S) R → Makes e 0 (node_cell (struct_label o) (args_count args) ∷ cs) (args_parts ks args S) R
struct-makes e None ks args cs S R h f g m = absurd h
struct-makes e (Some (a_crate k)) ks args cs S R h f g m = absurd h
struct-makes e (Some (a_struct k c xs)) ks args cs S R h f g m = (type_part ∷ S, (f, g, ap (putting type_part) (args-gone ks args S)), m)
struct-makes e (Some (a_trait k c b xs)) ks args cs S R h f g m = absurd h

-- a parameter over none
param-makes : (e : Meanings) (i : ℕ) (ks : List Sort) (args : Args) (cs : List ResolvedCell) (S R : List StackPart) → IsSmall (first_of_sort e of_type + i) → args_count args ≡ 0
    → Makes e 0 cs (type_part ∷ S) R → Makes e 0 (param_cell of_type i (args_count args) ∷ cs) (args_parts ks args S) R
param-makes e i ks no_args cs S R h z m = (type_part ∷ S, (h, refl, refl), m)
param-makes e i ks (and_arg x args) cs S R h z m = absurd (omega (arith, z))

named-makes : (e : Meanings) (n : List ℕ) (ks : List Sort) (args : Args) (cs : List ResolvedCell) (S R : List StackPart) → FewNames e → NumbersFit e.items → IsSmall (args_count args)
    → NameMeans (is_among n e.params.types) (known e.items n) (args_count args) → Makes e 0 cs (type_part ∷ S) R
    → Makes e 0 (named_cell e.items e.params n (args_count args) ∷ cs) (args_parts ks args S) R
named-makes e n ks args cs S R f w g h m = by (is_among n e.params.types) h
  where
    by : (b : Bool) → NameMeans b (known e.items n) (args_count args)
        → Makes e 0 ((if b then param_cell of_type (place_among n e.params.types) (args_count args) else node_cell (struct_label (known e.items n)) (args_count args)) ∷ cs) (args_parts ks args S) R
    by true z = param-makes e (place_among n e.params.types) ks args cs S R (type-small e n f) z m
    by false z = struct-makes e (known e.items n) ks args cs S R z (w n) g m

primitive-makes : (e : Meanings) (l : Label) (cs : List ResolvedCell) (S R : List StackPart) → IsPrimitive l → Makes e 0 cs (type_part ∷ S) R → Makes e 0 (node_cell l 0 ∷ cs) S R
primitive-makes e bool cs S R h m = (type_part ∷ S, (refl, refl), m)
primitive-makes e char cs S R h m = (type_part ∷ S, (refl, refl), m)
primitive-makes e str cs S R h m = (type_part ∷ S, (refl, refl), m)
primitive-makes e (int w) cs S R h m = (type_part ∷ S, (refl, refl), m)
primitive-makes e (uint w) cs S R h m = (type_part ∷ S, (refl, refl), m)
primitive-makes e l cs S R h m = absurd h

-- ---- lengths
length-makes : (e : Meanings) (n : Length) (cs : List ResolvedCell) (S R : List StackPart) → FewNames e → UsesMean e (length_uses n) → Makes e 0 cs (const_part ∷ S) R → Makes e 0 (length_cell e.params n ∷ cs) S R
length-makes e (number_length n) cs S R f u m = (const_part ∷ S, (u.0, (refl, refl)), m)
length-makes e (name_length n) cs S R f u m = (const_part ∷ S, (const-small e n f, refl, refl), m)
length-makes e (variable_length n) cs S R f u m = (const_part ∷ S, (variable-small e of_const n f, refl), m)

-- ---- a `dyn`
if-not : (b : Bool) → not b ≡ false → b ≡ true
if-not true h = refl
if-not false h = sym h

or-first : (b c : Bool) → b || c ≡ false → b ≡ false
or-first true c h = h
or-first false c h = refl

or-second : (b c : Bool) → b || c ≡ false → c ≡ false
or-second true c h = absurd cc
or-second false c h = h

-- behind the first item nothing but auto traits and lifetimes stands
late-cells : (e : Meanings) (s : List (List (List ℕ))) (i : Item) (cs : List ResolvedCell) → is_late e.items (item_shape i) ≡ false → item_before e.items e.params s i cs ≡ cs
late-cells e s (bound_item b n args) cs h =
    ap (λ v. if v then cs else args_before e.items e.params (b ∷ s) (kinds_of_trait (known e.items n)) args (node_cell (principal (length b) (trait_number (known e.items n))) (args_count args) ∷ cs)) (if-not (is_auto_name e.items n) h)
late-cells e s (lifetime_item n) cs h = refl

late-count : (d : Declarations) (i : Item) (k : ℕ) → is_late d (item_shape i) ≡ false → principals_count d i k ≡ k
late-count d (bound_item b n args) k h = ap (λ v. if v then k else suc k) (if-not (is_auto_name d n) h)
late-count d (lifetime_item n) k h = refl

others-cells : (e : Meanings) (s : List (List (List ℕ))) (is : DynBounds) (cs : List ResolvedCell) → list_any (is_late e.items) (item_shapes is) ≡ false → items_before e.items e.params s is cs ≡ cs
others-cells e s no_items cs h = refl
others-cells e s (and_item i is) cs h =
    late-cells e s i (items_before e.items e.params s is cs) (or-first (is_late e.items (item_shape i)) (list_any (is_late e.items) (item_shapes is)) h)
    ∙ others-cells e s is cs (or-second (is_late e.items (item_shape i)) (list_any (is_late e.items) (item_shapes is)) h)

others-count : (d : Declarations) (is : DynBounds) → list_any (is_late d) (item_shapes is) ≡ false → principals d is ≡ 0
others-count d no_items h = refl
others-count d (and_item i is) h =
    late-count d i (principals d is) (or-first (is_late d (item_shape i)) (list_any (is_late d) (item_shapes is)) h)
    ∙ others-count d is (or-second (is_late d (item_shape i)) (list_any (is_late d) (item_shapes is)) h)

-- the numbers of its auto traits are small, and rise
abbrev AllSmall : List ℕ → Type 0
AllSmall [] = Unit {0}
AllSmall (n ∷ ns) = IsSmall n × AllSmall ns

if-all : (P : List ℕ → Type 0) (b : Bool) (x y : List ℕ) → P x → P y → P (if b then x else y)
if-all P true x y f g = f
if-all P false x y f g = g

inserted-small : (n : ℕ) (ns : List ℕ) → IsSmall n → AllSmall ns → AllSmall (inserted n ns)
inserted-small n [] h a = (h, tt)
inserted-small n (m ∷ ms) h a =
    if-all AllSmall (n == m) (m ∷ ms) (if nat_lt n m then n ∷ m ∷ ms else m ∷ inserted n ms) a
    (if-all AllSmall (nat_lt n m) (n ∷ m ∷ ms) (m ∷ inserted n ms) (h, a) (a.0, inserted-small n ms h a.1))

with-rises : (d : Declarations) (i : Item) (ns : List ℕ) → Rises ns → Rises (with_auto d i ns)
with-rises d (bound_item b n args) ns r = if-all Rises (is_auto_name d n) (inserted (trait_number (known d n)) ns) ns (inserted-rises (trait_number (known d n)) ns r) r
with-rises d (lifetime_item n) ns r = r

with-small : (e : Meanings) (i : Item) (ns : List ℕ) → NumbersFit e.items → AllSmall ns → AllSmall (with_auto e.items i ns)
with-small e (bound_item b n args) ns w a =
    if-all AllSmall (is_auto_name e.items n) (inserted (trait_number (known e.items n)) ns) ns (inserted-small (trait_number (known e.items n)) ns (number-small e n w) a) a
with-small e (lifetime_item n) ns w a = a

if-length : (b : Bool) (x y : List ℕ) (k : ℕ) → length x ≤ k → length y ≤ k → length (if b then x else y) ≤ k
if-length true x y k h g = h
if-length false x y k h g = g

with-length : (d : Declarations) (i : Item) (ns : List ℕ) (k : ℕ) → length ns ≤ k → length (with_auto d i ns) ≤ item_size i + k
with-length d (bound_item b n args) ns k h =
    if-length (is_auto_name d n) (inserted (trait_number (known d n)) ns) ns (suc (length b + args_size args) + k)
    (omega (arith, inserted-length (trait_number (known d n)) ns, h)) (omega (arith, h))
with-length d (lifetime_item n) ns k h = omega (arith, h)

autos-rise : (d : Declarations) (is : DynBounds) → Rises (autos d is)
autos-rise d no_items = tt
autos-rise d (and_item i is) = with-rises d i (autos d is) (autos-rise d is)

autos-small : (e : Meanings) (is : DynBounds) → NumbersFit e.items → AllSmall (autos e.items is)
autos-small e no_items w = tt
autos-small e (and_item i is) w = with-small e i (autos e.items is) w (autos-small e is w)

autos-length : (d : Declarations) (is : DynBounds) → length (autos d is) ≤ items_size is
autos-length d no_items = omega arith
autos-length d (and_item i is) = with-length d i (autos d is) (items_size is) (autos-length d is)

autos-make : (e : Meanings) (a : ℕ) (ns : List ℕ) (cs : List ResolvedCell) (S R : List StackPart) → AllSmall ns → Makes e (a + length ns) cs (auto_parts ns S) R → Makes e a (autos_before ns cs) S R
autos-make e a [] cs S R h m = let z : a + 0 ≡ a = omega arith in subst (λ k. Makes e k cs S R) z m
autos-make e a (n ∷ ns) cs S R h m =
    let z : a + suc (length ns) ≡ suc a + length ns = omega arith in
    (auto_part n ∷ S, (h.0, (refl, refl)), autos-make e (suc a) ns cs (auto_part n ∷ S) R h.1 (subst (λ k. Makes e k cs (auto_parts ns (auto_part n ∷ S)) R) z m))

abbrev with_principal : Bool → List StackPart → List StackPart
with_principal false S = S
with_principal true S = principal_part ∷ S

principal-off : (p : Bool) (S : List StackPart) → off_principal p (with_principal p S) ≡ Some S
principal-off false S = refl
principal-off true S = refl

-- the autos, the lifetime and the `dyn` itself
dyn-makes : (e : Meanings) (r : Region) (ns : List ℕ) (p : Bool) (k : ℕ) (cs : List ResolvedCell) (S R : List StackPart) → RegionSmall e r → AllSmall ns → Rises ns → IsSmall (length ns) → k ≡ how_many p
    → Makes e 0 cs (type_part ∷ S) R → Makes e 0 (dyn_before r ns k cs) (with_principal p S) R
dyn-makes e r ns p k cs S R h a i l z m =
    let count : k + (length ns + 1) ≡ how_many p + suc (0 + length ns) = omega (arith, z) in
    let few : 0 + length ns < MAX_INDEX = omega (arith, l) in
    let same : 0 + length ns ≡ length ns = omega arith in
    let all = auto_parts ns (with_principal p S) in
    let gone : option_and_then (off_principal p) (off_autos (0 + length ns) None all) ≡ Some S =
    ap (λ j. option_and_then (off_principal p) (off_autos j None all)) same ∙ ap (option_and_then (off_principal p)) (autos-gone ns (with_principal p S) i) ∙ principal-off p S in
    autos-make e 0 ns (lifetime_cell r ∷ node_cell dynamic (k + (length ns + 1)) ∷ cs) (with_principal p S) R a
    (lifetime_part ∷ all, (h, refl), (type_part ∷ S, (p, count, few, ap (putting type_part) gone), m))

-- what its first item puts there, where it is the principal
abbrev ArgsMake : Meanings → List (List (List ℕ)) → List Sort → Args → List StackPart → List StackPart → Type 0
ArgsMake e s ks args S R = (cs : List ResolvedCell) → Makes e 0 cs (args_parts ks args S) R → Makes e 0 (args_before e.items e.params s ks args cs) S R

bound-makes : (e : Meanings) (s : List (List (List ℕ))) (b : List (List ℕ)) (n : List ℕ) (args : Args) (r : Region) (ns : List ℕ) (k : ℕ) (cs : List ResolvedCell) (S R : List StackPart)
    → RegionSmall e r → AllSmall ns → Rises ns → IsSmall (length ns) → k ≡ 0 → IsSmall (length b) → IsSmall (args_count args) → NumbersFit e.items → ArgsMake e (b ∷ s) (kinds_of_trait (known e.items n)) args S R
    → Makes e 0 cs (type_part ∷ S) R → Makes e 0 (item_before e.items e.params s (bound_item b n args) (dyn_before r ns (principals_count e.items (bound_item b n args) k) cs)) S R
bound-makes e s b n args r ns k cs S R h a i l z sb sa w f m = by (is_auto_name e.items n)
  where
    by : (v : Bool) → Makes e 0 (if v then dyn_before r ns (if v then k else suc k) cs
        else args_before e.items e.params (b ∷ s) (kinds_of_trait (known e.items n)) args (node_cell (principal (length b) (trait_number (known e.items n))) (args_count args) ∷ dyn_before r ns (if v then k else suc k) cs)) S R
    by true = dyn-makes e r ns false k cs S R h a i l z m
    by false =
        f (node_cell (principal (length b) (trait_number (known e.items n))) (args_count args) ∷ dyn_before r ns (suc k) cs)
        (principal_part ∷ S, (sb, number-small e n w, sa, ap (putting principal_part) (args-gone (kinds_of_trait (known e.items n)) args S)), dyn-makes e r ns true (suc k) cs S R h a i l (ap suc z) m)

mutual
  -- at the place of a type
  pub type-makes : (e : Meanings) (s : List (List (List ℕ))) (t : TypeTree) (cs : List ResolvedCell) (S R : List StackPart) → Around e s (type_size t) → PlainType t → UsesMean e (type_uses e.items s of_type t)
      → Makes e 0 cs (type_part ∷ S) R → Makes e 0 (type_before e.items e.params s of_type t cs) S R
  type-makes e s (of_primitive l) cs S R w q u m = primitive-makes e l cs S R q m
  type-makes e s never_type cs S R w q u m = (type_part ∷ S, (refl, refl), m)
  type-makes e s (variable_type n) cs S R w q u m = (type_part ∷ S, (variable-small e of_type n w.few, refl), m)
  type-makes e s (named n args) cs S R w q u m =
      let ks = kinds_of_struct (known e.items n) in
      args-make e s ks args (named_cell e.items e.params n (args_count args) ∷ cs) S R (less e s (suc (args_size args)) (args_size args) w (omega arith)) q u.1
      (named-makes e n ks args cs S R w.few w.numbers (omega (arith, w.room, args-counted args)) u.0 m)
  type-makes e s (reference_to l x t) cs S R w q u m =
      type-makes e s t (reference_cell (optional_region e.params s l) x ∷ cs) S R (less e s (suc (type_size t)) (type_size t) w (omega arith)) q (last-uses e (lifetime_uses s l) (type_uses e.items s of_type t) u)
      (type_part ∷ S, (optional-small e s (suc (type_size t)) l w, refl), m)
  type-makes e s (pointer_to x t) cs S R w q u m = type-makes e s t (node_cell (raw_pointer x) 1 ∷ cs) S R (less e s (suc (type_size t)) (type_size t) w (omega arith)) q u (type_part ∷ S, (refl, refl), m)
  type-makes e s (slice_of t) cs S R w q u m = type-makes e s t (node_cell slice 1 ∷ cs) S R (less e s (suc (type_size t)) (type_size t) w (omega arith)) q u (type_part ∷ S, (refl, refl), m)
  type-makes e s (array_of t n) cs S R w q u m =
      type-makes e s t (length_cell e.params n ∷ node_cell array 2 ∷ cs) S R (less e s (suc (type_size t)) (type_size t) w (omega arith)) q (first-uses e (type_uses e.items s of_type t) (length_uses n) u)
      (length-makes e n (node_cell array 2 ∷ cs) (type_part ∷ S) R w.few (last-uses e (type_uses e.items s of_type t) (length_uses n) u) (type_part ∷ S, (refl, refl), m))
  type-makes e s (tuple_of ts) cs S R w q u m =
      types-make e s ts (node_cell tuple (types_count ts) ∷ cs) S R (less e s (suc (types_size ts)) (types_size ts) w (omega arith)) q u.1
      (type_part ∷ S, (omega (arith, w.room, types-counted ts), ap (putting type_part) (types-gone ts S)), m)
  type-makes e s (fn_of b ts) cs S R w q u m =
      types-make e (b ∷ s) ts (node_cell tuple 0 ∷ node_cell (fn_ptr (length b)) (suc (types_count ts)) ∷ cs) S R (deeper e s b (suc (length b + types_size ts)) (types_size ts) w (omega arith)) q
      (last-uses e (binder_uses s b) (items_use (types_count ts) ∷ types_uses e.items (b ∷ s) ts) u).1 (
        type_part ∷ types_parts ts S,
        (omega arith, refl),
        (type_part ∷ S, (types_count ts, refl, omega (arith, w.room), omega (arith, w.room, types-counted ts), ap (putting type_part) (types-gone ts S)), m),
      )
  type-makes e s (fn_to b ts r) cs S R w q u m =
      let us = (last-uses e (binder_uses s b) (items_use (types_count ts) ∷ (types_uses e.items (b ∷ s) ts ++ type_uses e.items (b ∷ s) of_type r)) u).1 in
      types-make e (b ∷ s) ts (type_before e.items e.params (b ∷ s) of_type r (node_cell (fn_ptr (length b)) (suc (types_count ts)) ∷ cs)) S R
      (deeper e s b (suc (length b + (types_size ts + type_size r))) (types_size ts) w (omega arith)) q.0 (first-uses e (types_uses e.items (b ∷ s) ts) (type_uses e.items (b ∷ s) of_type r) us)
      (type-makes e (b ∷ s) r (node_cell (fn_ptr (length b)) (suc (types_count ts)) ∷ cs) (types_parts ts S) R (deeper e s b (suc (length b + (types_size ts + type_size r))) (type_size r) w (omega arith)) q.1
      (last-uses e (types_uses e.items (b ∷ s) ts) (type_uses e.items (b ∷ s) of_type r) us)
      (type_part ∷ S, (types_count ts, refl, omega (arith, w.room), omega (arith, w.room, types-counted ts), ap (putting type_part) (types-gone ts S)), m))
  type-makes e s (dyn_of i is) cs S R w q u m =
      let late : list_any (is_late e.items) (item_shapes is) ≡ false =
      or-first (list_any (is_late e.items) (item_shapes is)) (list_any (binds_auto e.items) (item_shape i ∷ item_shapes is) || has_early_lifetime (item_shape i ∷ item_shapes is))
      (or-second (not (list_any is_bound (item_shape i ∷ item_shapes is))) (list_any (is_late e.items) (item_shapes is) || (list_any (binds_auto e.items) (item_shape i ∷ item_shapes is) || has_early_lifetime (item_shape i ∷ item_shapes is))) u.0) in
      let ns = with_auto e.items i (autos e.items is) in
      let r = last_region e.params s i is in
      subst (λ xs. Makes e 0 (item_before e.items e.params s i xs) S R) (sym (others-cells e s is (dyn_before r ns (principals_count e.items i (principals e.items is)) cs) late))
      (item-makes e s i r ns (principals e.items is) (suc (item_size i + items_size is)) cs S R (last-small e s (suc (item_size i + items_size is)) i is w) (with-small e i (autos e.items is) w.numbers (autos-small e is w.numbers)) (with-rises e.items i (autos e.items is) (autos-rise e.items is))
      (omega (arith, w.room, with-length e.items i (autos e.items is) (items_size is) (autos-length e.items is))) (others-count e.items is late) w (omega arith) q (first-uses e (item_uses e.items s i) (items_uses e.items s is) u.1) m)

  types-make : (e : Meanings) (s : List (List (List ℕ))) (ts : Types) (cs : List ResolvedCell) (S R : List StackPart) → Around e s (types_size ts) → PlainTypes ts → UsesMean e (types_uses e.items s ts)
      → Makes e 0 cs (types_parts ts S) R → Makes e 0 (types_before e.items e.params s ts cs) S R
  types-make e s no_types cs S R w q u m = m
  types-make e s (and_type t ts) cs S R w q u m =
      type-makes e s t (types_before e.items e.params s ts cs) S R (less e s (type_size t + types_size ts) (type_size t) w (omega arith)) q.0 (first-uses e (type_uses e.items s of_type t) (types_uses e.items s ts) u)
      (types-make e s ts cs (type_part ∷ S) R (less e s (type_size t + types_size ts) (types_size ts) w (omega arith)) q.1 (last-uses e (type_uses e.items s of_type t) (types_uses e.items s ts) u) m)

  pub args-make : (e : Meanings) (s : List (List (List ℕ))) (ks : List Sort) (args : Args) (cs : List ResolvedCell) (S R : List StackPart) → Around e s (args_size args) → PlainArgs args → UsesMean e (args_uses e.items s ks args)
      → Makes e 0 cs (args_parts ks args S) R → Makes e 0 (args_before e.items e.params s ks args cs) S R
  args-make e s ks no_args cs S R w q u m = m
  args-make e s ks (and_arg a args) cs S R w q u m =
      arg-makes e s (next_kind ks) a (args_before e.items e.params s (other_kinds ks) args cs) S R (less e s (arg_size a + args_size args) (arg_size a) w (omega arith)) q.0
      (first-uses e (arg_uses e.items s (next_kind ks) a) (args_uses e.items s (other_kinds ks) args) u)
      (args-make e s (other_kinds ks) args cs (arg_part (next_kind ks) a ∷ S) R (less e s (arg_size a + args_size args) (args_size args) w (omega arith)) q.1
      (last-uses e (arg_uses e.items s (next_kind ks) a) (args_uses e.items s (other_kinds ks) args) u) m)

  arg-makes : (e : Meanings) (s : List (List (List ℕ))) (p : Sort) (a : Arg) (cs : List ResolvedCell) (S R : List StackPart) → Around e s (arg_size a) → PlainArg a → UsesMean e (arg_uses e.items s p a)
      → Makes e 0 cs (arg_part p a ∷ S) R → Makes e 0 (arg_before e.items e.params s p a cs) S R
  arg-makes e s p (lifetime_arg n) cs S R w q u m = (lifetime_part ∷ S, (region-small e s 1 n w, refl), m)
  arg-makes e s of_const (number_arg n) cs S R w q u m = (const_part ∷ S, (u.0, (refl, refl)), m)
  arg-makes e s of_type (number_arg n) cs S R w q u m = absurd u.1.0
  arg-makes e s of_lifetime (number_arg n) cs S R w q u m = absurd u.1.0
  arg-makes e s of_type (type_arg t) cs S R w q u m = type-makes e s t cs S R w q u m
  arg-makes e s of_lifetime (type_arg t) cs S R w q u m = absurd u.0
  arg-makes e s of_const (type_arg (named n args)) cs S R w q u m = (const_part ∷ S, (const-small e n w.few, refl, refl), m)
  arg-makes e s of_const (type_arg (variable_type n)) cs S R w q u m = (const_part ∷ S, (variable-small e of_const n w.few, refl), m)
  arg-makes e s of_const (type_arg t) cs S R w q u m = absurd u.0

  -- the first item of a `dyn`, and the end of it
  item-makes : (e : Meanings) (s : List (List (List ℕ))) (i : Item) (r : Region) (ns : List ℕ) (k j : ℕ) (cs : List ResolvedCell) (S R : List StackPart) → RegionSmall e r → AllSmall ns → Rises ns → IsSmall (length ns)
      → k ≡ 0 → Around e s j → suc (item_size i) ≤ j → PlainItem i → UsesMean e (item_uses e.items s i) → Makes e 0 cs (type_part ∷ S) R
      → Makes e 0 (item_before e.items e.params s i (dyn_before r ns (principals_count e.items i k) cs)) S R
  item-makes e s (bound_item b n args) r ns k j cs S R h a g l z w f q u m =
      let ks = kinds_of_trait (known e.items n) in
      bound-makes e s b n args r ns k cs S R h a g l z (omega (arith, w.room, f)) (omega (arith, w.room, f, args-counted args)) w.numbers
      (λ xs. args-make e (b ∷ s) ks args xs S R (deeper e s b j (args_size args) w (omega (arith, f))) q (last-uses e (binder_uses s b) (trait_use n (args_count args) ∷ args_uses e.items (b ∷ s) ks args) u).1) m
  item-makes e s (lifetime_item n) r ns k j cs S R h a g l z w f q u m = dyn-makes e r ns false k cs S R h a g l z m

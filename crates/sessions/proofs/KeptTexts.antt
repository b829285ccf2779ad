-- What a text without a fault keeps from line to line, beside what goals need: numbers, homes, auto traits, headers, and rising `dyn`s.
use Rattle.std.proofs.Common.{◌≡◌, ◌<◌, ◌≤◌, ◌-◌, ◌+◌, ℕ, zero, suc, Bool, true, false, ◌&&◌, ◌||◌, ◌==◌, List, [], ◌∷◌, ◌++◌, map, length, append_assoc, Option, Some, None, Ok, refl, sym, ap, ◌∙◌, subst, arith}
use Rattle.std.proofs.lemmas.Option.{same_Some}
use Rattle.std.proofs.lemmas.Bool.{eqb-true, ne_eqb}
use Rattle.std.specs.Prelude.{slice_get, find, if◌then◌else◌, not, unwrap_or}
use Rattle.std.specs.List.{flat_map}
use Rattle.std.specs.Option.{option_map, option_map_or, option_or}
use Rattle.std.specs.Str.{bytes_eq}
use Rattle.type_terms.specs.Promised.Label.{of_type, param, adt}
use Rattle.type_terms.specs.Promised.Trees.{Trees, tree, leaf, ◌+++◌}
use Rattle.type_terms.specs.Promised.Worlds.{Reference, core, sees}
use Rattle.type_terms.specs.Promised.Rules.{sized}
use Rattle.type_terms.specs.Promised.Proofs.{In}
use Rattle.type_terms.proofs.Members.{in-left, self-number, not-both}
use Rattle.declarations.specs.Promised.Elaboration.{Each}
use Rattle.text_language.specs.Promised.Syntax.{TypeTree, of_primitive, never_type, variable_type, named, reference_to, pointer_to, slice_of, array_of, tuple_of, fn_of, fn_to, dyn_of, Params, Bound, Clause, Line, crate_line, struct_line, trait_line, impl_line, prove_line, refute_line, later_line, supers_line}
use Rattle.text_language.specs.Promised.Declarations.{Declarations, NamedCrate, NamedStruct, NamedTrait, NamedImpl, LaterImpl, Known, a_crate, a_struct, a_trait, world_of, known, last_crate, last_changed, last_later, impl_owner, kinds_of}
use Rattle.text_language.specs.Declarations.{nothing_declared}
use Rattle.text_language.specs.Uses.{args_count, kinds_of_struct, kinds_of_trait, type_uses, args_uses, clause_uses}
use Rattle.text_language.specs.Faults.{fault_of, belongs_to_crate, is_impl, is_line_param, is_loaded_auto, is_own_struct, is_struct_in, is_built_in, is_trait_of}
use Rattle.text_language.specs.Promised.Faults.{with_own, is_among, is_auto_name}
use Rattle.text_language.specs.Lowering.{crate_number, place_among, trait_number, struct_label, type_label, type_tree, args_trees, bound_with_self}
use Rattle.text_language.specs.Adding.{added, item_meanings, crate_of, struct_of, trait_of, impl_of}
use Rattle.text_language.specs.Syntax.{spelling}
use Rattle.text_language.specs.Text.{TextGives}
use Rattle.text_lines.proofs.NoFault.{passes-tests, belongs-to-crate, uses-crates}
use Rattle.text_lines.proofs.FittingUses.{faultless-uses}
use Rattle.text_lowering.proofs.Applied.{each-more, still-there}
use Rattle.text_lowering.proofs.EachLine.{text-keeps}
use Rattle.text_lowering.proofs.ScalarTokens.{AllFine}
use Rattle.text_lowering.proofs.Texts.{Well, AtPlaces, autos-bare, line-added, core-well}
use Rattle.text_lowering.proofs.Trees.{and-left, and-right, or-left}
use Rattle.type_terms.proofs.Made.{false-true}
use Rattle.sessions.proofs.Seeing.{seen-more}
use Rattle.sessions.proofs.TextTerms.{scope_of, trait-used, found-placed}
use Rattle.sessions.proofs.FormedTexts.{Formed, line-formed, core-formed, pushed, param-sorted, param-free, seen-still, crate-there, no-section, with_impl_at}
use Rattle.sessions.proofs.RisingBounds.{Rises, fields-rise, clause-rises, clauses-rise, bounds-rise}
use Rattle.declarations.proofs.Growth.{each-kept as each-map}
use Rattle.type_terms.proofs.NumberBasics.{itself as same-length}
use Rattle.type_terms.proofs.BooleanBasics.{implied, not-false as not-true}

-- ---- what is kept
-- xs are the items of `core` and then items of other crates
abbrev pub Behind : {A : Type 0} → (A → ℕ) → List A → List A → Type 0
Behind {A = A} home first xs = (ys : List A) × (xs ≡ first ++ ys) × Each (λ y. core < home y) ys

abbrev pub AtHome : Declarations → NamedImpl → Type 0
AtHome d n = (s : ℕ) × (ks : Trees) × (os : Trees) × (n.item.header.args ≡ tree (adt s) ks os) × ((x : NamedStruct) × (slice_get d.structs s ≡ Some x) × (x.item.home ≡ n.item.home))

pub record HeaderKept (d : Declarations) (n : NamedImpl) : Type 0 where
  pub of : NamedTrait
  pub there : slice_get d.traits n.item.header.trait ≡ Some of
  pub seen : sees (world_of d) n.item.home of.item.home ≡ true
  pub not_sized : (n.item.header.trait == sized) ≡ false
  pub at_home : of.item.is_auto ≡ true → AtHome d n
  pub home : n.item.home < length d.crates

abbrev pub ImplRises : NamedImpl → Type 0
ImplRises n = Rises n.item.header.args × Each (λ (r : Reference). Rises r.args) n.item.clauses

-- the impl is of the crate that its section changes
abbrev pub IsOfSection : Declarations → LaterImpl → Type 0
IsOfSection d i = slice_get d.sections i.section ≡ Some i.added.item.home

pub record Kept (d : Declarations) : Type 0 where
  pub impl_numbers : (k : ℕ) (x : NamedImpl) → slice_get d.impls k ≡ Some x → x.item.name ≡ k
  pub crates : (cs : List NamedCrate) × (d.crates ≡ nothing_declared.crates ++ cs)
  pub structs : Behind (λ (x : NamedStruct). x.item.home) nothing_declared.structs d.structs
  pub traits : Behind (λ (x : NamedTrait). x.item.home) nothing_declared.traits d.traits
  pub impls : Behind (λ (x : NamedImpl). x.item.home) nothing_declared.impls d.impls
  pub autos : Each (λ (x : NamedTrait). x.item.is_auto ≡ true → x.item.bounds ≡ []) d.traits
  pub headers : Each (HeaderKept d) d.impls
  pub fields_rise : Each (λ (x : NamedStruct). Each Rises x.item.fields) d.structs
  pub bounds_rise : Each (λ (x : NamedTrait). Each (λ (r : Reference). Rises r.args) x.item.bounds) d.traits
  pub impls_rise : Each ImplRises d.impls
  pub sections : Each (λ (c : ℕ). c < length d.crates) d.sections
  pub has_section : d.in_section ≡ true → 0 < length d.sections
  pub later_headers : Each (λ (i : LaterImpl). HeaderKept d i.added) d.later_impls
  pub later_homes : Each (IsOfSection d) d.later_impls

-- ---- one more
behind-more : {A : Type 0} (home : A → ℕ) (first xs : List A) (x : A) → Behind home first xs → core < home x → Behind home first (xs ++ x ∷ [])
behind-more home first xs x h l = (h.0 ++ x ∷ [], ap (λ z. z ++ x ∷ []) h.1 ∙ append_assoc first h.0 (x ∷ []), each-more (λ y. core < home y) h.0 x h.2 l)

header-grows : (d e : Declarations) → ((k : ℕ) (x : NamedStruct) → slice_get d.structs k ≡ Some x → slice_get e.structs k ≡ Some x) → ((k : ℕ) (x : NamedTrait) → slice_get d.traits k ≡ Some x → slice_get e.traits k ≡ Some x)
    → ((c x : ℕ) → sees (world_of d) c x ≡ true → sees (world_of e) c x ≡ true) → length d.crates ≤ length e.crates → (n : NamedImpl) → HeaderKept d n → HeaderKept e n
header-grows d e f g s l n h = record {
  of = h.of;
  there = g n.item.header.trait h.of h.there;
  seen = s n.item.home h.of.item.home h.seen;
  not_sized = h.not_sized;
  at_home = λ a. let q = h.at_home a in (q.0, q.1, q.2, q.3, (q.4.0, f q.0 q.4.0 q.4.1, q.4.2));
  home = omega (arith, h.home, l);
}

behind-core : (d : Declarations) → 1 < length d.crates → core < last_crate d
behind-core d h = omega (arith, h)

-- a struct or a trait stands behind a crate of its own
placed-item : (d : Declarations) (l : Line) → fault_of d l ≡ None → belongs_to_crate l ≡ true → is_impl l ≡ false → 1 < length d.crates
placed-item d l f b n = (belongs-to-crate d l f b).0 (no-section d l f b n)

-- the crate of the last section is there
last-there : (n : ℕ) → 1 < n → n - 1 < n
last-there n h = omega (arith, h)

least : (n : ℕ) → 0 < n → n - 1 < n
least n h = omega (arith, h)

got-below : (cs : List ℕ) (k n : ℕ) → core < n → Each (λ (c : ℕ). c < n) cs → unwrap_or (slice_get cs k) core < n
got-below [] k n h e = h
got-below (c ∷ cs) zero n h e = e.0
got-below (c ∷ cs) (suc k) n h e = got-below cs k n h e.1

got-there : (cs : List ℕ) (k : ℕ) → k < length cs → slice_get cs k ≡ Some (unwrap_or (slice_get cs k) core)
got-there [] k h = absurd (omega (arith, h))
got-there (c ∷ cs) zero h = refl
got-there (c ∷ cs) (suc k) h = got-there cs k (omega (arith, h))

has-core : (d : Declarations) → Kept d → core < length d.crates
has-core d h = subst (λ cs. core < length cs) (sym h.crates.1) (more h.crates.0)
  where
    more : (cs : List NamedCrate) → core < length (nothing_declared.crates ++ cs)
    more cs = omega arith

owner-there : (d : Declarations) (l : Line) → fault_of d l ≡ None → is_impl l ≡ true → belongs_to_crate l ≡ true → Kept d → impl_owner d < length d.crates
owner-there d l f i b h = by d.in_section refl
  where
    by : (s : Bool) → d.in_section ≡ s → (if s then last_changed d else last_crate d) < length d.crates
    by true q = got-below d.sections (length d.sections - 1) (length d.crates) (has-core d h) h.sections
    by false q = last-there (length d.crates) ((belongs-to-crate d l f b).0 q)

-- ---- what a name stands for
abbrev AutoAt : Declarations → Option Known → Type 0
AutoAt d o = (t : NamedTrait) → slice_get d.traits (trait_number o) ≡ Some t → t.item.is_auto ≡ true → option_map_or (λ k. elim k [ a_crate i ↦ false | a_struct i h kinds ↦ false | a_trait i h a kinds ↦ a ]) o false ≡ true

abbrev all-of : Option NamedCrate → Option NamedStruct → Option NamedTrait → Option Known
all-of co so to = option_or (option_map (λ (x : NamedCrate). a_crate x.item.name) co) (option_or (option_map (λ (x : NamedStruct). a_struct x.item.name x.item.home x.kinds) so) (option_map (λ (x : NamedTrait). a_trait x.item.name x.item.home x.item.is_auto x.kinds) to))

auto-known : (d : Declarations) (n : List ℕ) (k : ℕ) → Well d → option_map_or (is_trait_of k) (known d n) false ≡ true → AutoAt d (known d n)
auto-known d n k w h = by (find (λ (x : NamedCrate). bytes_eq x.text n) d.crates) (find (λ (x : NamedStruct). bytes_eq x.text n) d.structs) (find (λ (x : NamedTrait). bytes_eq x.text n) d.traits) refl h
  where
    by : (co : Option NamedCrate) (so : Option NamedStruct) (to : Option NamedTrait) → find (λ (x : NamedTrait). bytes_eq x.text n) d.traits ≡ to → option_map_or (is_trait_of k) (all-of co so to) false ≡ true → AutoAt d (all-of co so to)
    by (Some x) so to e g = absurd (false-true g)
    by None (Some x) to e g = absurd (false-true g)
    by None None None e g = absurd (false-true g)
    by None None (Some x) e g = λ t q a.
        let p = found-placed (λ (y : NamedTrait). y.item.name) (λ (y : NamedTrait). bytes_eq y.text n) d.traits x w.trait_numbers e in
        ap (λ (y : NamedTrait). y.item.is_auto) (same_Some x t (sym p ∙ q)) ∙ a

abbrev OwnAt : Declarations → Option Known → Type 0
OwnAt d o = (i : ℕ) × (struct_label o ≡ adt i) × ((x : NamedStruct) × (slice_get d.structs i ≡ Some x) × (x.item.home ≡ impl_owner d))

own-known : (d : Declarations) (n : List ℕ) → Well d → option_map_or (is_struct_in (impl_owner d)) (known d n) false ≡ true → OwnAt d (known d n)
own-known d n w h = by (find (λ (x : NamedCrate). bytes_eq x.text n) d.crates) (find (λ (x : NamedStruct). bytes_eq x.text n) d.structs) (find (λ (x : NamedTrait). bytes_eq x.text n) d.traits) refl h
  where
    by : (co : Option NamedCrate) (so : Option NamedStruct) (to : Option NamedTrait) → find (λ (x : NamedStruct). bytes_eq x.text n) d.structs ≡ so → option_map_or (is_struct_in (impl_owner d)) (all-of co so to) false ≡ true → OwnAt d (all-of co so to)
    by (Some x) so to e g = absurd (false-true g)
    by None (Some x) to e g = (x.item.name, refl, (x, found-placed (λ (y : NamedStruct). y.item.name) (λ (y : NamedStruct). bytes_eq y.text n) d.structs x w.struct_numbers e, eqb-true x.item.home (impl_owner d) g))
    by None None None e g = absurd (false-true g)
    by None None (Some x) e g = absurd (false-true g)

-- ---- the header of an impl
not-built-in : (o : Option Known) (k : ℕ) → option_map_or (is_trait_of k) o false ≡ true → option_map_or is_built_in o false ≡ false → (trait_number o == sized) ≡ false
not-built-in None k t h = absurd cc
not-built-in (Some (a_crate i)) k t h = absurd cc
not-built-in (Some (a_struct i x ks)) k t h = absurd cc
not-built-in (Some (a_trait i x a ks)) k t h = ne_eqb i sized (λ e. not-both (sized == i) (subst (λ z. (sized == z) ≡ true) (sym e) (self-number sized)) (or-left (sized == i) _ h))

module _ (d : Declarations) (ps : Params) (k : Clause) (ks : List Clause) (f : fault_of d (impl_line ps k ks) ≡ None) (well : Well d) (kept : Kept d) where
  abbrev l : Line
  l = impl_line ps k ks

  abbrev x : NamedImpl
  x = impl_of d (item_meanings d l 0) ps k ks

  among-first : (n : List ℕ) (xs bs : List (List ℕ)) → is_among n (xs ++ bs) ≡ false → is_among n xs ≡ false
  among-first n [] bs h = refl
  among-first n (a ∷ xs) bs h = by (bytes_eq a n) h (among-first n xs bs)
    where
      by : (b : Bool) → b || is_among n (xs ++ bs) ≡ false → (is_among n (xs ++ bs) ≡ false → is_among n xs ≡ false) → b || is_among n xs ≡ false
      by true g r = absurd cc
      by false g r = r g

  own-self : (t : TypeTree) (more : Trees) → is_own_struct d l t ≡ true
      → (s : ℕ) × (cs : Trees) × (os : Trees) × (type_tree (item_meanings d l 0) [] of_type t +++ more ≡ tree (adt s) cs os) × ((y : NamedStruct) × (slice_get d.structs s ≡ Some y) × (y.item.home ≡ impl_owner d))
  own-self (named n args) more h =
      let q = own-known d n well (and-right (not (is_line_param l n)) _ h) in
      let a = among-first n ps.types ps.consts (not-true (is_line_param l n) (and-left (not (is_line_param l n)) _ h)) in
      (q.0, args_trees (item_meanings d l 0) [] (kinds_of_struct (known d n)) args, more, ap (λ m. tree m (args_trees (item_meanings d l 0) [] (kinds_of_struct (known d n)) args) more) (label n a ∙ q.1), q.2)
    where
      label : (n : List ℕ) → is_among n ps.types ≡ false → type_label (item_meanings d l 0) n ≡ struct_label (known d n)
      label n e = ap (λ b. if b then param of_type (0 + length ps.lifetimes + place_among n ps.types) else struct_label (known d n)) e
  own-self (of_primitive p) more h = absurd cc
  own-self never_type more h = absurd cc
  own-self (variable_type n) more h = absurd cc
  own-self (reference_to o m t) more h = absurd cc
  own-self (pointer_to m t) more h = absurd cc
  own-self (slice_of t) more h = absurd cc
  own-self (array_of t n) more h = absurd cc
  own-self (tuple_of ts) more h = absurd cc
  own-self (fn_of b ts) more h = absurd cc
  own-self (fn_to b ts r) more h = absurd cc
  own-self (dyn_of i is) more h = absurd cc

  pub header-kept : HeaderKept d x
  header-kept =
      let p = passes-tests d l f in
      let rest = args_uses d [] (kinds_of_trait (known d k.bound.trait)) k.bound.args ++ type_uses d [] of_type k.subject ++ flat_map (clause_uses d) ks in
      let u = faultless-uses d l f in
      let q = trait-used d l 0 (impl_owner d) param [] param-sorted (param-free (scope_of d l (impl_owner d))) well.struct_numbers well.trait_numbers (autos-bare d well.bare) k.bound.trait (args_count k.bound.args) _ (u, p.has_seen_names) in
      record {
        of = q.0.0;
        there = q.0.1;
        seen = q.0.3;
        not_sized = not-built-in (known d k.bound.trait) (args_count k.bound.args) u.0.1 p.implements_open;
        at_home = λ a. own-self k.subject (args_trees (item_meanings d l 0) [] (kinds_of_trait (known d k.bound.trait)) k.bound.args)
            (implied (is_auto_name d k.bound.trait) (is_own_struct d l k.subject) p.is_local_auto (auto-known d k.bound.trait (args_count k.bound.args) well u.0.1 q.0.0 q.0.1 a));
        home = owner-there d l f refl refl kept;
      }

-- ---- lines
map-more : (xs : List NamedCrate) (y : NamedCrate) → map (λ (z : NamedCrate). z.item) (xs ++ y ∷ []) ≡ map (λ (z : NamedCrate). z.item) xs ++ y.item ∷ []
map-more [] y = refl
map-more (z ∷ zs) y = ap (λ r. z.item ∷ r) (map-more zs y)

longer : (xs : List NamedCrate) (y : NamedCrate) → length (map (λ (z : NamedCrate). z.item) xs) ≤ length (map (λ (z : NamedCrate). z.item) (xs ++ y ∷ []))
longer [] y = omega arith
longer (z ∷ zs) y = omega (arith, longer zs y)

some-more : (cs : List ℕ) (c : ℕ) → 0 < length (cs ++ c ∷ [])
some-more [] c = omega arith
some-more (x ∷ cs) c = omega arith

grown : (xs : List NamedCrate) (y : NamedCrate) → length xs ≤ length (xs ++ y ∷ [])
grown [] y = omega arith
grown (z ∷ zs) y = omega (arith, grown zs y)

sections-more : (d : Declarations) (y : NamedCrate) → Each (λ (c : ℕ). c < length d.crates) d.sections → Each (λ (c : ℕ). c < length (d.crates ++ y ∷ [])) d.sections
sections-more d y h = each-map (λ (c : ℕ). c < length d.crates) (λ (c : ℕ). c < length (d.crates ++ y ∷ [])) (λ c q. omega (arith, q, grown d.crates y)) d.sections h

homes-more : (d e : Declarations) (c : ℕ) → e.sections ≡ d.sections ++ c ∷ [] → (is : List LaterImpl) → Each (IsOfSection d) is → Each (IsOfSection e) is
homes-more d e c q is h = each-map (IsOfSection d) (IsOfSection e) (λ i p. ap (λ (cs : List ℕ). slice_get cs i.section) q ∙ still-there d.sections (c ∷ []) i.section i.added.item.home p) is h

headers-still : (d e : Declarations) → ((k : ℕ) (x : NamedStruct) → slice_get d.structs k ≡ Some x → slice_get e.structs k ≡ Some x) → ((k : ℕ) (x : NamedTrait) → slice_get d.traits k ≡ Some x → slice_get e.traits k ≡ Some x)
    → ((c x : ℕ) → sees (world_of d) c x ≡ true → sees (world_of e) c x ≡ true) → length d.crates ≤ length e.crates → (ns : List NamedImpl) → Each (HeaderKept d) ns → Each (HeaderKept e) ns
headers-still d e f g s l ns h = each-map (HeaderKept d) (HeaderKept e) (header-grows d e f g s l) ns h

later-still : (d e : Declarations) → ((k : ℕ) (x : NamedStruct) → slice_get d.structs k ≡ Some x → slice_get e.structs k ≡ Some x) → ((k : ℕ) (x : NamedTrait) → slice_get d.traits k ≡ Some x → slice_get e.traits k ≡ Some x)
    → ((c x : ℕ) → sees (world_of d) c x ≡ true → sees (world_of e) c x ≡ true) → length d.crates ≤ length e.crates → (is : List LaterImpl) → Each (λ (i : LaterImpl). HeaderKept d i.added) is → Each (λ (i : LaterImpl). HeaderKept e i.added) is
later-still d e f g s l is h = each-map (λ (i : LaterImpl). HeaderKept d i.added) (λ (i : LaterImpl). HeaderKept e i.added) (λ i q. header-grows d e f g s l i.added q) is h

bare-bounds : (f a : Bool) (n : List ℕ) (ps : Params) (bs : List Bound) → is_loaded_auto (trait_line f a n ps bs) ≡ false → a ≡ true → bs ≡ []
bare-bounds f false n ps bs h e = absurd cc
bare-bounds f true n ps [] h e = refl
bare-bounds f true n ps (b ∷ bs) h e = absurd (clash (length (kinds_of ps) == 0) (length (b ∷ bs) == 0) (ne_eqb (suc (length bs)) 0 (λ q. omega (arith, q))) h)
  where
    clash : (x y : Bool) → y ≡ false → not (x && y) ≡ false → ⊥
    clash true true p q = cc
    clash true false p q = cc
    clash false y p q = cc

-- nothing is added but questions, sections and checks
same-items : (d e : Declarations) → e.crates ≡ d.crates → e.structs ≡ d.structs → e.traits ≡ d.traits → (ns : List NamedImpl) → Each (HeaderKept d) ns → Each (HeaderKept e) ns
same-items d e p q r ns h = headers-still d e (λ k y g. ap (λ xs. slice_get xs k) q ∙ g) (λ k y g. ap (λ xs. slice_get xs k) r ∙ g) (seen-still d e (ap (map (λ (c : NamedCrate). c.item)) (sym p))) (subst (λ cs. length d.crates ≤ length cs) (sym p) (same-length (length d.crates))) ns h

same-later : (d e : Declarations) → e.crates ≡ d.crates → e.structs ≡ d.structs → e.traits ≡ d.traits → (is : List LaterImpl) → Each (λ (i : LaterImpl). HeaderKept d i.added) is → Each (λ (i : LaterImpl). HeaderKept e i.added) is
same-later d e p q r is h = later-still d e (λ k y g. ap (λ xs. slice_get xs k) q ∙ g) (λ k y g. ap (λ xs. slice_get xs k) r ∙ g) (seen-still d e (ap (map (λ (c : NamedCrate). c.item)) (sym p))) (subst (λ cs. length d.crates ≤ length cs) (sym p) (same-length (length d.crates))) is h

-- an impl of a section, or of the last crate
impl-kept : (d : Declarations) (x : NamedImpl) → HeaderKept d x → Kept d → (b : Bool)
    → (b ≡ true → slice_get d.sections (length d.sections - 1) ≡ Some x.item.home) → (b ≡ false → (x.item.name ≡ length d.impls) × (core < x.item.home) × ImplRises x) → Kept (with_impl_at d x b)
impl-kept d x k h true f g =
    let e = with_impl_at d x true in
    let i : LaterImpl = record { section = length d.sections - 1; added = x } in
    record {
      impl_numbers = h.impl_numbers;
      crates = h.crates;
      structs = h.structs;
      traits = h.traits;
      impls = h.impls;
      autos = h.autos;
      headers = same-items d e refl refl refl d.impls h.headers;
      fields_rise = h.fields_rise;
      bounds_rise = h.bounds_rise;
      impls_rise = h.impls_rise;
      sections = h.sections;
      has_section = h.has_section;
      later_headers = same-later d e refl refl refl (d.later_impls ++ i ∷ []) (each-more (λ (y : LaterImpl). HeaderKept d y.added) d.later_impls i h.later_headers k);
      later_homes = each-more (IsOfSection e) d.later_impls i h.later_homes (f refl);
    }
impl-kept d x k h false f g =
    let e = with_impl_at d x false in
    let q = g refl in
    record {
      impl_numbers = pushed (λ i (z : NamedImpl). z.item.name ≡ i) d.impls x h.impl_numbers q.0;
      crates = h.crates;
      structs = h.structs;
      traits = h.traits;
      impls = behind-more (λ (z : NamedImpl). z.item.home) nothing_declared.impls d.impls x h.impls q.1;
      autos = h.autos;
      headers = same-items d e refl refl refl (d.impls ++ x ∷ []) (each-more (HeaderKept d) d.impls x h.headers k);
      fields_rise = h.fields_rise;
      bounds_rise = h.bounds_rise;
      impls_rise = each-more ImplRises d.impls x h.impls_rise q.2;
      sections = h.sections;
      has_section = h.has_section;
      later_headers = same-later d e refl refl refl d.later_impls h.later_headers;
      later_homes = h.later_homes;
    }

pub line-kept : (d : Declarations) (l : Line) → fault_of d l ≡ None → Well d → Formed d → Kept d → Kept (added d l)
line-kept d (crate_line n us) f well formed h =
    let e = added d (crate_line n us) in
    let x = crate_of d n us in
    let see = seen-more (world_of d) (world_of e) (λ y i. subst (In y) (sym (map-more d.crates x)) (in-left y (world_of d).crates (x.item ∷ []) i)) (longer d.crates x) in
    record {
      impl_numbers = h.impl_numbers;
      crates = (h.crates.0 ++ x ∷ [], ap (λ z. z ++ x ∷ []) h.crates.1 ∙ append_assoc nothing_declared.crates h.crates.0 (x ∷ []));
      structs = h.structs;
      traits = h.traits;
      impls = h.impls;
      autos = h.autos;
      headers = headers-still d e (λ k y q. q) (λ k y q. q) see (grown d.crates x) d.impls h.headers;
      fields_rise = h.fields_rise;
      bounds_rise = h.bounds_rise;
      impls_rise = h.impls_rise;
      sections = sections-more d x h.sections;
      has_section = λ q. absurd (false-true q);
      later_headers = later-still d e (λ k y q. q) (λ k y q. q) see (grown d.crates x) d.later_impls h.later_headers;
      later_homes = h.later_homes;
    }
line-kept d (prove_line c ps a bs ks) f well formed h =
    let e = added d (prove_line c ps a bs ks) in
    record {
      impl_numbers = h.impl_numbers;
      crates = h.crates;
      structs = h.structs;
      traits = h.traits;
      impls = h.impls;
      autos = h.autos;
      headers = same-items d e refl refl refl d.impls h.headers;
      fields_rise = h.fields_rise;
      bounds_rise = h.bounds_rise;
      impls_rise = h.impls_rise;
      sections = h.sections;
      has_section = h.has_section;
      later_headers = same-later d e refl refl refl d.later_impls h.later_headers;
      later_homes = h.later_homes;
    }
line-kept d (refute_line c ps a bs) f well formed h =
    let e = added d (refute_line c ps a bs) in
    record {
      impl_numbers = h.impl_numbers;
      crates = h.crates;
      structs = h.structs;
      traits = h.traits;
      impls = h.impls;
      autos = h.autos;
      headers = same-items d e refl refl refl d.impls h.headers;
      fields_rise = h.fields_rise;
      bounds_rise = h.bounds_rise;
      impls_rise = h.impls_rise;
      sections = h.sections;
      has_section = h.has_section;
      later_headers = same-later d e refl refl refl d.later_impls h.later_headers;
      later_homes = h.later_homes;
    }
line-kept d (supers_line n) f well formed h =
    let e = added d (supers_line n) in
    record {
      impl_numbers = h.impl_numbers;
      crates = h.crates;
      structs = h.structs;
      traits = h.traits;
      impls = h.impls;
      autos = h.autos;
      headers = same-items d e refl refl refl d.impls h.headers;
      fields_rise = h.fields_rise;
      bounds_rise = h.bounds_rise;
      impls_rise = h.impls_rise;
      sections = h.sections;
      has_section = h.has_section;
      later_headers = same-later d e refl refl refl d.later_impls h.later_headers;
      later_homes = h.later_homes;
    }
line-kept d (later_line n) f well formed h =
    let e = added d (later_line n) in
    record {
      impl_numbers = h.impl_numbers;
      crates = h.crates;
      structs = h.structs;
      traits = h.traits;
      impls = h.impls;
      autos = h.autos;
      headers = same-items d e refl refl refl d.impls h.headers;
      fields_rise = h.fields_rise;
      bounds_rise = h.bounds_rise;
      impls_rise = h.impls_rise;
      sections = each-more (λ (c : ℕ). c < length d.crates) d.sections (crate_number (known d n)) h.sections (crate-there d n formed (uses-crates d (later_line n) f));
      has_section = λ q. some-more d.sections (crate_number (known d n));
      later_headers = same-later d e refl refl refl d.later_impls h.later_headers;
      later_homes = homes-more d e (crate_number (known d n)) refl d.later_impls h.later_homes;
    }
line-kept d (struct_line g n ps fs) f well formed h =
    let l = struct_line g n ps fs in
    let e = added d l in
    let x = struct_of d (item_meanings d l 0) g n ps fs in
    record {
      impl_numbers = h.impl_numbers;
      crates = h.crates;
      structs = behind-more (λ (y : NamedStruct). y.item.home) nothing_declared.structs d.structs x h.structs (behind-core d (placed-item d l f refl refl));
      traits = h.traits;
      impls = h.impls;
      autos = h.autos;
      headers = headers-still d e (λ k y q. still-there d.structs (x ∷ []) k y q) (λ k y q. q) (seen-still d e refl) (same-length (length d.crates)) d.impls h.headers;
      fields_rise = each-more (λ (y : NamedStruct). Each Rises y.item.fields) d.structs x h.fields_rise (fields-rise (with_own d l) ps 0 [] fs);
      bounds_rise = h.bounds_rise;
      impls_rise = h.impls_rise;
      sections = h.sections;
      has_section = h.has_section;
      later_headers = later-still d e (λ k y q. still-there d.structs (x ∷ []) k y q) (λ k y q. q) (seen-still d e refl) (same-length (length d.crates)) d.later_impls h.later_headers;
      later_homes = h.later_homes;
    }
line-kept d (trait_line g a n ps bs) f well formed h =
    let l = trait_line g a n ps bs in
    let e = added d l in
    let x = trait_of d (item_meanings d l 1) g a n ps bs in
    record {
      impl_numbers = h.impl_numbers;
      crates = h.crates;
      structs = h.structs;
      traits = behind-more (λ (y : NamedTrait). y.item.home) nothing_declared.traits d.traits x h.traits (behind-core d (placed-item d l f refl refl));
      impls = h.impls;
      autos = each-more (λ (y : NamedTrait). y.item.is_auto ≡ true → y.item.bounds ≡ []) d.traits x h.autos (λ q. ap (map (bound_with_self (item_meanings d l 1) (leaf (param of_type 0)))) (bare-bounds g a n ps bs (passes-tests d l f).is_bare_auto q));
      headers = headers-still d e (λ k y q. q) (λ k y q. still-there d.traits (x ∷ []) k y q) (seen-still d e refl) (same-length (length d.crates)) d.impls h.headers;
      fields_rise = h.fields_rise;
      bounds_rise = each-more (λ (y : NamedTrait). Each (λ (r : Reference). Rises r.args) y.item.bounds) d.traits x h.bounds_rise (bounds-rise (with_own d l) ps 1 [] (leaf (param of_type 0)) refl bs);
      impls_rise = h.impls_rise;
      sections = h.sections;
      has_section = h.has_section;
      later_headers = later-still d e (λ k y q. q) (λ k y q. still-there d.traits (x ∷ []) k y q) (seen-still d e refl) (same-length (length d.crates)) d.later_impls h.later_headers;
      later_homes = h.later_homes;
    }
line-kept d (impl_line ps k ks) f well formed h =
    let l = impl_line ps k ks in
    let x = impl_of d (item_meanings d l 0) ps k ks in
    impl-kept d x (header-kept d ps k ks f well h) h d.in_section
    (λ q. got-there d.sections (length d.sections - 1) (least (length d.sections) (h.has_section q)) ∙ ap Some (ap (λ b. if b then last_changed d else last_crate d) (sym q)))
    (λ q. (
      ap (λ b. if b then last_later d else length d.impls) q,
      subst (λ n. core < n) (ap (λ b. if b then last_changed d else last_crate d) (sym q)) (behind-core d ((belongs-to-crate d l f refl).0 q)),
      (clause-rises d ps 0 [] k, clauses-rise d ps 0 [] ks),
    ))

-- ---- `core`
abbrev core_trait_at : ℕ → NamedTrait
core_trait_at k = option_map_or (λ t. t) (slice_get nothing_declared.traits k) (record { text = []; kinds = []; item = record { name = 0; home = 0; is_fundamental = false; is_auto = false; bounds = [] } })

clone-header : (n : NamedImpl) → n.item.header.trait ≡ 1 → n.item.home ≡ 0 → HeaderKept nothing_declared n
clone-header n e h = record {
  of = core_trait_at 1;
  there = ap (slice_get nothing_declared.traits) e;
  seen = ap (λ c. sees (world_of nothing_declared) c 0) h;
  not_sized = ap (λ t. t == sized) e;
  at_home = λ q. absurd (false-true q);
  home = omega (arith, h);
}

copy-header : (n : NamedImpl) → n.item.header.trait ≡ 2 → n.item.home ≡ 0 → HeaderKept nothing_declared n
copy-header n e h = record {
  of = core_trait_at 2;
  there = ap (slice_get nothing_declared.traits) e;
  seen = ap (λ c. sees (world_of nothing_declared) c 0) h;
  not_sized = ap (λ t. t == sized) e;
  at_home = λ q. absurd (false-true q);
  home = omega (arith, h);
}

numbered : (b : ℕ) (xs : List NamedImpl) → AtPlaces (λ (y : NamedImpl). y.item.name) b xs → (k : ℕ) (x : NamedImpl) → slice_get xs k ≡ Some x → x.item.name ≡ b + k
numbered b [] h k x e = absurd (no x e)
  where
    no : (y : NamedImpl) → None ≡ Some y → ⊥
    no y q = cc
numbered b (z ∷ zs) h zero x e = ap (λ (y : NamedImpl). y.item.name) (sym (same_Some z x e)) ∙ h.0 ∙ no-more b
  where
    no-more : (n : ℕ) → n ≡ n + zero
    no-more n = omega arith
numbered b (z ∷ zs) h (suc k) x e = numbered (suc b) zs h.1 k x e ∙ more b k
  where
    more : (n i : ℕ) → suc n + i ≡ n + suc i
    more n i = omega arith

pub core-kept : Kept nothing_declared
core-kept = record {
  impl_numbers = λ k x e. numbered 0 nothing_declared.impls (refl, (refl, (refl, (refl, (refl, (refl, (refl, (refl, (refl, (refl, (refl, (refl, (refl, (refl, (refl, (refl, (refl, (refl, (refl, (refl, (refl, (refl, (refl, (refl, (refl, (refl, (refl, (refl, (refl, (refl, (refl, (refl, (refl, (refl, (refl, (refl, (refl, (refl, (refl, tt))))))))))))))))))))))))))))))))))))))) k x e ∙ none-first k;
  crates = ([], refl);
  structs = ([], refl, tt);
  traits = ([], refl, tt);
  impls = ([], refl, tt);
  autos = ((λ e. absurd (false-true e)), ((λ e. absurd (false-true e)), ((λ e. absurd (false-true e)), ((λ e. absurd (false-true e)), ((λ e. absurd (false-true e)), ((λ e. absurd (false-true e)), ((λ e. absurd (false-true e)), ((λ e. absurd (false-true e)), ((λ e. absurd (false-true e)), tt)))))))));
  headers = (clone-header _ refl refl, (clone-header _ refl refl, (clone-header _ refl refl, (clone-header _ refl refl, (clone-header _ refl refl, (clone-header _ refl refl, (clone-header _ refl refl, (clone-header _ refl refl, (clone-header _ refl refl, (clone-header _ refl refl, (clone-header _ refl refl, (clone-header _ refl refl, (clone-header _ refl refl, (clone-header _ refl refl, (clone-header _ refl refl, (clone-header _ refl refl, (clone-header _ refl refl, (clone-header _ refl refl, (clone-header _ refl refl, (clone-header _ refl refl, (copy-header _ refl refl, (copy-header _ refl refl, (copy-header _ refl refl, (copy-header _ refl refl, (copy-header _ refl refl, (copy-header _ refl refl, (copy-header _ refl refl, (copy-header _ refl refl, (copy-header _ refl refl, (copy-header _ refl refl, (copy-header _ refl refl, (copy-header _ refl refl, (copy-header _ refl refl, (copy-header _ refl refl, (copy-header _ refl refl, (copy-header _ refl refl, (copy-header _ refl refl, (copy-header _ refl refl, (copy-header _ refl refl, tt)))))))))))))))))))))))))))))))))))))));
  fields_rise = ((refl, tt), (tt, tt));
  bounds_rise = (tt, ((refl, tt), ((refl, tt), (tt, (tt, (tt, ((refl, tt), ((refl, tt), (tt, tt)))))))));
  impls_rise = ((refl, tt), ((refl, tt), ((refl, tt), ((refl, tt), ((refl, tt), ((refl, tt), ((refl, tt), ((refl, tt), ((refl, tt), ((refl, tt), ((refl, tt), ((refl, tt), ((refl, tt), ((refl, tt), ((refl, tt), ((refl, tt), ((refl, tt), ((refl, tt), ((refl, (refl, tt)), ((refl, (refl, tt)), ((refl, tt), ((refl, tt), ((refl, tt), ((refl, tt), ((refl, tt), ((refl, tt), ((refl, tt), ((refl, tt), ((refl, tt), ((refl, tt), ((refl, tt), ((refl, tt), ((refl, tt), ((refl, tt), ((refl, tt), ((refl, tt), ((refl, tt), ((refl, tt), ((refl, (refl, tt)), tt)))))))))))))))))))))))))))))))))))))));
  sections = tt;
  has_section = λ e. absurd (false-true e);
  later_headers = tt;
  later_homes = tt;
}
  where
    none-first : (n : ℕ) → 0 + n ≡ n
    none-first n = omega arith

-- ---- texts
pub record AllKept (d : Declarations) : Type 0 where
  pub well : Well d
  pub formed : Formed d
  pub kept : Kept d

-- what is kept of goals, and what is kept of sets
line-keeps-all : (d : Declarations) (l : Line) → AllFine (spelling l) → fault_of d l ≡ None → AllKept d → AllKept (added d l)
line-keeps-all d l w f h = record { well = line-added d l w f h.well; formed = line-formed d l w f h.well h.formed; kept = line-kept d l f h.well h.formed h.kept }

pub texts-are-kept : (bytes : List ℕ) (d : Declarations) → TextGives bytes (Ok d) → AllKept d
texts-are-kept bytes d t = text-keeps AllKept line-keeps-all (record { well = core-well; formed = core-formed; kept = core-kept }) bytes d t

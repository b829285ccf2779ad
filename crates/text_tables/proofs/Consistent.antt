-- The tables stay in agreement with what they declare.
use Rattle.std.proofs.Common.{◌≡◌, ℕ, suc, ◌+◌, ◌<◌, Bool, true, false, cond, ◌||◌, List, [], ◌∷◌, ◌++◌, length, take, Option, Some, None, refl, sym, ap, ◌∙◌, subst, arith, length-append, Vec, Global}
use Rattle.std.proofs.lemmas.Bool.{ne_eqb}
use Rattle.std.proofs.lemmas.List.{map_push, length-map}
use Rattle.std.proofs.lemmas.List.Elements.{All-map, All-head, All-tail}
use Rattle.std.proofs.lemmas.List.Sorted.{IsNonDecreasingBy-short}
use Rattle.std.proofs.lemmas.Option.{slice_get_within, slice_get-map}
use Rattle.std.specs.Prelude.{◌==◌, slice_get, map, All, unwrap_or, codes}
use Rattle.std.specs.Option.{option_map}
use Rattle.std.specs.List.{list_any}
use Rattle.std.specs.List.Sorted.{IsNonDecreasingBy}
use Rattle.std.specs.Str.{bytes_eq}
use Rattle.std.specs.HashMap.{HashMap, get_by, UpdatesBy}
use Rattle.std.specs.declared.hash.FoldHasher.{FoldHasher}
use Rattle.std.specs.declared.hash.BuildHasherDefault.{BuildHasherDefault}
use Rattle.std.specs.Map.{lookup}
use Rattle.type_terms.specs.Promised.Worlds.{World, core, sees}
use Rattle.text_language.specs.Promised.Declarations.{Declarations, NamedCrate, NamedStruct, NamedTrait, NamedImpl, Check, of_later, of_supers, Question, known, world_of, last_crate, last_later}
use Rattle.text_language.specs.Promised.Faults.{last_items}
use Rattle.type_terms.specs.declared.CrateId.{CrateId}
use Rattle.text_tables.specs.Numbered.{EachNumbered, IsNumbered, IsCheckIn}
use Rattle.text_tables.specs.Made.{AreMade, ReferenceMade, ReferencesMade, is_type}
use Rattle.text_tables.specs.declared.tables.Tables.{Tables}
use Rattle.text_tables.specs.declared.declared.CrateEntry.{CrateEntry}
use Rattle.text_tables.specs.declared.declared.StructEntry.{StructEntry}
use Rattle.text_tables.specs.declared.declared.TraitEntry.{TraitEntry}
use Rattle.text_tables.specs.declared.declared.ImplEntry.{ImplEntry}
use Rattle.text_tables.specs.declared.declared.QuestionEntry.{QuestionEntry}
use Rattle.text_tables.specs.declared.declared.Asked.{Asked}
use Rattle.text_tables.specs.declared.declared.Named.{Named}
use Rattle.text_tables.specs.Views.{crate_of, struct_of, trait_of, impl_of, question_of, asker_of, later_impl_of, check_of, numbers_of, sorts_of, cells_of, reference_of, sort_of_kind, sorted_params}
use Rattle.text_tables.specs.TermCells.{trees_of}
use Rattle.text_tables.specs.Parts.{new_struct, new_trait, new_impl}
use Rattle.text_tables.specs.Tables.{IsConsistent, declared, impls_of, will_see, with_crate, with_struct, with_trait, with_impl, with_question, NamedItem, crate_item, struct_item, trait_item, named_item, item_named, core_alone}
use Rattle.text_tables.proofs.Each.{Each-weaken, Each-push, Each-of_map, Each-from_map, Every-from_Each, count_by-push, count_by-none, self-number, take-push, take-pushed, list_any-map, slice_get-there, within_list, at_end, past_end, place_of}
use Rattle.text_tables.proofs.Names.{Names, names-crate, names-struct, names-trait, bytes-updated, no-item}
use Rattle.text_tables.proofs.Crates.{IsOrdered, sees-same, old-sees, new-sees, later-unseen, seen_by}

-- ---- numbers
pub ordered : (d : Declarations) → IsNumbered d → IsOrdered (world_of d).crates
ordered d i = Each-of_map (λ k c. (c.name ≡ k) × All (λ u. u < k) c.uses) (λ c. c.item) d.crates i.crates

pub one-more : {A : Type 0} (xs : List A) (x : A) (k : ℕ) → k < length xs → k < length (xs ++ x ∷ [])
one-more xs x k h = omega (arith, h, length-append xs (x ∷ []))

-- a check stays one of the crates and sections that are there
check-more : (d : Declarations) (c : NamedCrate) (x : Check) → IsCheckIn d x → IsCheckIn (with_crate d c) x
check-more d c (of_later k n) h = h
check-more d c (of_supers n) h = one-more d.crates c n h

pub numbered-crate : (d : Declarations) (c : NamedCrate) → IsNumbered d → c.item.name ≡ length d.crates → All (λ u. u < length d.crates) c.item.uses → IsNumbered (with_crate d c)
numbered-crate d c i n u = record {
  has_core = one-more d.crates c 0 i.has_core;
  crates = Each-push d.crates c i.crates (n, u);
  structs = Each-weaken d.structs (λ k x p. (p.0, one-more d.crates c x.item.home p.1)) i.structs;
  traits = Each-weaken d.traits (λ k x p. (p.0, one-more d.crates c x.item.home p.1)) i.traits;
  impls = Each-weaken d.impls (λ k x p. (p.0, one-more d.crates c x.item.home p.1)) i.impls;
  questions = Each-weaken d.questions (λ k x p. one-more d.crates c x.asker p) i.questions;
  sections = Each-weaken d.sections (λ k x p. one-more d.crates c x p) i.sections;
  later_impls = i.later_impls;
  checks = Each-weaken d.checks (λ k x p. check-more d c x p) i.checks;
  has_section = λ h. absurd cc;
}

pub numbered-struct : (d : Declarations) (s : NamedStruct) → IsNumbered d → s.item.name ≡ length d.structs → s.item.home < length d.crates → IsNumbered (with_struct d s)
numbered-struct d s i n h = record { has_core = i.has_core; crates = i.crates; structs = Each-push d.structs s i.structs (n, h); traits = i.traits; impls = i.impls; questions = i.questions; sections = i.sections; later_impls = i.later_impls; checks = i.checks; has_section = i.has_section }

pub numbered-trait : (d : Declarations) (t : NamedTrait) → IsNumbered d → t.item.name ≡ length d.traits → t.item.home < length d.crates → IsNumbered (with_trait d t)
numbered-trait d t i n h = record { has_core = i.has_core; crates = i.crates; structs = i.structs; traits = Each-push d.traits t i.traits (n, h); impls = i.impls; questions = i.questions; sections = i.sections; later_impls = i.later_impls; checks = i.checks; has_section = i.has_section }

pub numbered-impl : (d : Declarations) (m : NamedImpl) → IsNumbered d → m.item.name ≡ length d.impls → m.item.home < length d.crates → IsNumbered (with_impl d m)
numbered-impl d m i n h = record { has_core = i.has_core; crates = i.crates; structs = i.structs; traits = i.traits; impls = Each-push d.impls m i.impls (n, h); questions = i.questions; sections = i.sections; later_impls = i.later_impls; checks = i.checks; has_section = i.has_section }

pub numbered-question : (d : Declarations) (q : Question) → IsNumbered d → q.asker < length d.crates → IsNumbered (with_question d q)
numbered-question d q i h = record { has_core = i.has_core; crates = i.crates; structs = i.structs; traits = i.traits; impls = i.impls; questions = Each-push d.questions q i.questions h; sections = i.sections; later_impls = i.later_impls; checks = i.checks; has_section = i.has_section }

pub last-there : (d : Declarations) → IsNumbered d → last_crate d < length d.crates
last-there d i = omega (arith, i.has_core)

-- ---- how many items the last crate has
pub counted : (n h : ℕ) → n ≡ h → cond {A = ℕ} (n == h) 1 0 ≡ 1
counted n h e = let p : (n == h) ≡ true = ap (λ m. m == h) e ∙ self-number h in rw p refl

pub items-struct : (d : Declarations) (s : NamedStruct) → s.item.home ≡ last_crate d → last_items (with_struct d s) ≡ last_items d + 1
items-struct d s e = omega (arith, count_by-push (λ x. x.item.home == last_crate d) d.structs s, counted s.item.home (last_crate d) e)

pub items-trait : (d : Declarations) (t : NamedTrait) → t.item.home ≡ last_crate d → last_items (with_trait d t) ≡ last_items d + 1
items-trait d t e = omega (arith, count_by-push (λ x. x.item.home == last_crate d) d.traits t, counted t.item.home (last_crate d) e)

pub items-impl : (d : Declarations) (m : NamedImpl) → m.item.home ≡ last_crate d → last_items (with_impl d m) ≡ last_items d + 1
items-impl d m e = omega (arith, count_by-push (λ x. x.item.home == last_crate d) d.impls m, counted m.item.home (last_crate d) e)

pub last-new : (d : Declarations) (c : NamedCrate) → last_crate (with_crate d c) ≡ length d.crates
last-new d c = omega (arith, length-append d.crates (c ∷ []))

pub items-crate : (d : Declarations) (c : NamedCrate) → IsNumbered d → last_items (with_crate d c) ≡ 0
items-crate d c i =
    let none = λ (h : ℕ) (p : h < length d.crates). ne_eqb h (last_crate (with_crate d c)) (λ q. absurd (omega (arith, p, q, last-new d c))) in
    omega (
      arith,
      count_by-none (λ x. x.item.home == last_crate (with_crate d c)) d.structs (Every-from_Each d.structs (λ k x p. none x.item.home p.1) i.structs),
      count_by-none (λ x. x.item.home == last_crate (with_crate d c)) d.traits (Every-from_Each d.traits (λ k x p. none x.item.home p.1) i.traits),
      count_by-none (λ x. x.item.home == last_crate (with_crate d c)) d.impls (Every-from_Each d.impls (λ k x p. none x.item.home p.1) i.impls),
    )

-- ---- the table of names
cond-map : (f : Named → NamedItem) (b : Bool) (v : Named) (o : Option Named) → option_map f (cond b (Some v) o) ≡ cond b (Some (f v)) (option_map f o)
cond-map f true v o = refl
cond-map f false v o = refl

abbrev NameTable : Type 0
NameTable = HashMap (Vec ℕ Global) Named (BuildHasherDefault FoldHasher)

abbrev standing : NameTable → List ℕ → Option Named
standing names n = get_by (λ k. bytes_eq n k.items) names

names-kept : (old new : NameTable) (d e : Declarations) (key n : List ℕ) (v : Named) (k : NamedItem) → key ≡ n → named_item v ≡ k
    → UpdatesBy (λ x y. bytes_eq x.items y.items) (λ x. bytes_eq key x.items) old new (Some v)
    → ((m : List ℕ) → option_map named_item (standing old m) ≡ item_named d m) → Names (item_named d) (item_named e) n k → (m : List ℕ) → option_map named_item (standing new m) ≡ item_named e m
names-kept old new d e key n v k same value updated before names m =
    ap (option_map named_item) (bytes-updated key old new (Some v) updated m) ∙ cond-map named_item (bytes_eq key m) v (standing old m)
    ∙ ap (cond (bytes_eq key m) (Some (named_item v))) (before m) ∙ ap (λ l. cond (bytes_eq l m) (Some (named_item v)) (item_named d m)) same ∙ ap (λ w. cond (bytes_eq n m) (Some w) (item_named d m)) value ∙ sym (names m)

-- ---- rows, where no crate comes
pub rows-kept : (t : Tables) (d : Declarations) → IsConsistent t → (world_of d).crates ≡ (world_of (declared t)).crates
    → EachNumbered (λ c entry. (e : ℕ) → unwrap_or (slice_get entry.sees.items e) false ≡ sees (world_of d) c e) t.crates.items
rows-kept t d i s = Each-weaken t.crates.items (λ c x p e. p e ∙ sym (sees-same (world_of d) (world_of (declared t)) c e s)) i.rows

-- ---- a struct
pub struct-consistent : (t : Tables) (structs : Vec StructEntry Global) (names : NameTable) (items : ℕ) (s : StructEntry) (key n : List ℕ) (v : Named) → IsConsistent t → AreMade is_type s.fields.items
    → structs.items ≡ t.structs.items ++ s ∷ [] → s.name.items ≡ n → s.id.index ≡ length t.structs.items → s.owner.index ≡ last_crate (declared t) → items ≡ t.last_items + 1
    → known (declared t) n ≡ None → key ≡ n → named_item v ≡ struct_item s.id.index → UpdatesBy (λ x y. bytes_eq x.items y.items) (λ x. bytes_eq key x.items) t.names names (Some v)
    → IsConsistent (record t { structs = structs; names = names; last_items = items })
struct-consistent t structs names items s key n v i good behind text number home more new same value updated =
    let d = declared t in
    let u : Tables = record t { structs = structs; names = names; last_items = items } in
    let e : declared u ≡ with_struct d (struct_of s) = ap (λ ss. record d { structs = ss }) (ap (map struct_of) behind ∙ map_push struct_of t.structs.items s) in
    record {
      numbered = subst IsNumbered (sym e) (numbered-struct d (struct_of s) i.numbered (number ∙ sym (length-map t.structs.items struct_of)) (rw home (last-there d i.numbered)));
      ids = i.ids;
      asked = i.asked;
      rows = rows-kept t (declared u) i refl;
      names = names-kept t.names names d (declared u) key n v (struct_item s.id.index) same value updated i.names (subst (λ x. Names (item_named d) (item_named x) n (struct_item s.id.index)) (sym e) (subst (λ m. Names (item_named d) (item_named (with_struct d (struct_of s))) m (struct_item s.id.index)) text (names-struct d (struct_of s) (ap (item_named d) text ∙ no-item d n new))));
      numbers = i.numbers;
      last_impls = i.last_impls;
      last_items = more ∙ ap (λ k. k + 1) i.last_items ∙ sym (items-struct d (struct_of s) home) ∙ ap last_items (sym e);
      last_later = i.last_later;
      sections_rise = i.sections_rise;
      made = record { fields = subst (EachNumbered (λ k x. AreMade is_type x.fields.items)) (sym behind) (Each-push t.structs.items s i.made.fields good); bounds = i.made.bounds; headers = i.made.headers; clauses = i.made.clauses; asked = i.made.asked; given = i.made.given; later_headers = i.made.later_headers; later_clauses = i.made.later_clauses };
    }

pub struct-declared : (t : Tables) (structs : List StructEntry) (s : StructEntry) (n : List ℕ)
    → structs ≡ t.structs.items ++ s ∷ [] → s.name.items ≡ n → s.id.index ≡ length t.structs.items → s.owner.index ≡ last_crate (declared t)
    → record (declared t) { structs = map struct_of structs }
    ≡ with_struct (declared t) (new_struct (declared t) n s.is_fundamental (sorts_of s.params.items) (trees_of (cells_of s.fields.items)))
struct-declared t structs s n behind text number home =
    let d = declared t in
    ap (λ ss. record d { structs = ss }) (ap (map struct_of) behind ∙ map_push struct_of t.structs.items s)
    ∙ ap (λ x. with_struct d (record { text = x; kinds = sorts_of s.params.items; item = (struct_of s).item })) text
    ∙ ap (λ k. with_struct d (record { text = n; kinds = sorts_of s.params.items; item = record (struct_of s).item { name = k } })) (number ∙ sym (length-map t.structs.items struct_of))
    ∙ ap (λ h. with_struct d (record { text = n; kinds = sorts_of s.params.items; item = record (struct_of s).item { name = length d.structs; home = h } })) home

-- ---- a trait
pub trait-consistent : (t : Tables) (traits : Vec TraitEntry Global) (names : NameTable) (items : ℕ) (s : TraitEntry) (key n : List ℕ) (v : Named) → IsConsistent t → ReferencesMade s.bounds.items
    → traits.items ≡ t.traits.items ++ s ∷ [] → s.name.items ≡ n → s.id.index ≡ length t.traits.items → s.owner.index ≡ last_crate (declared t) → items ≡ t.last_items + 1
    → known (declared t) n ≡ None → key ≡ n → named_item v ≡ trait_item s.id.index → UpdatesBy (λ x y. bytes_eq x.items y.items) (λ x. bytes_eq key x.items) t.names names (Some v)
    → IsConsistent (record t { traits = traits; names = names; last_items = items })
trait-consistent t traits names items s key n v i good behind text number home more new same value updated =
    let d = declared t in
    let u : Tables = record t { traits = traits; names = names; last_items = items } in
    let e : declared u ≡ with_trait d (trait_of s) = ap (λ ss. record d { traits = ss }) (ap (map trait_of) behind ∙ map_push trait_of t.traits.items s) in
    record {
      numbered = subst IsNumbered (sym e) (numbered-trait d (trait_of s) i.numbered (number ∙ sym (length-map t.traits.items trait_of)) (rw home (last-there d i.numbered)));
      ids = i.ids;
      asked = i.asked;
      rows = rows-kept t (declared u) i refl;
      names = names-kept t.names names d (declared u) key n v (trait_item s.id.index) same value updated i.names (subst (λ x. Names (item_named d) (item_named x) n (trait_item s.id.index)) (sym e) (subst (λ m. Names (item_named d) (item_named (with_trait d (trait_of s))) m (trait_item s.id.index)) text (names-trait d (trait_of s) (ap (item_named d) text ∙ no-item d n new))));
      numbers = i.numbers;
      last_impls = i.last_impls;
      last_items = more ∙ ap (λ k. k + 1) i.last_items ∙ sym (items-trait d (trait_of s) home) ∙ ap last_items (sym e);
      last_later = i.last_later;
      sections_rise = i.sections_rise;
      made = record { fields = i.made.fields; bounds = subst (EachNumbered (λ k x. ReferencesMade x.bounds.items)) (sym behind) (Each-push t.traits.items s i.made.bounds good); headers = i.made.headers; clauses = i.made.clauses; asked = i.made.asked; given = i.made.given; later_headers = i.made.later_headers; later_clauses = i.made.later_clauses };
    }

pub trait-declared : (t : Tables) (traits : List TraitEntry) (s : TraitEntry) (n : List ℕ)
    → traits ≡ t.traits.items ++ s ∷ [] → s.name.items ≡ n → s.id.index ≡ length t.traits.items → s.owner.index ≡ last_crate (declared t)
    → record (declared t) { traits = map trait_of traits }
    ≡ with_trait (declared t) (new_trait (declared t) n s.is_fundamental s.is_auto (sorts_of s.params.items) (map reference_of s.bounds.items))
trait-declared t traits s n behind text number home =
    let d = declared t in
    ap (λ ss. record d { traits = ss }) (ap (map trait_of) behind ∙ map_push trait_of t.traits.items s)
    ∙ ap (λ x. with_trait d (record { text = x; kinds = sorts_of s.params.items; item = (trait_of s).item })) text
    ∙ ap (λ k. with_trait d (record { text = n; kinds = sorts_of s.params.items; item = record (trait_of s).item { name = k } })) (number ∙ sym (length-map t.traits.items trait_of))
    ∙ ap (λ h. with_trait d (record { text = n; kinds = sorts_of s.params.items; item = record (trait_of s).item { name = length d.traits; home = h } })) home

-- ---- a question
pub question-consistent : (t : Tables) (questions : Vec QuestionEntry Global) (asked : Vec Asked Global) (q : QuestionEntry) → IsConsistent t → ReferencesMade (q.asked ∷ q.further.items) → ReferencesMade q.clauses.items
    → questions.items ≡ t.questions.items ++ q ∷ [] → asked.items ≡ t.asked.items ++ q.asked_how ∷ [] → asker_of q.asked_how < length t.crates.items
    → IsConsistent (record t { questions = questions; asked = asked })
question-consistent t questions asked q i good goods behind also there =
    let d = declared t in
    let u : Tables = record t { questions = questions; asked = asked } in
    let e : declared u ≡ with_question d (question_of q) = ap (λ qs. record d { questions = qs }) (ap (map question_of) behind ∙ map_push question_of t.questions.items q) in
    record {
      numbered = subst IsNumbered (sym e) (numbered-question d (question_of q) i.numbered (omega (arith, there, length-map t.crates.items crate_of)));
      ids = i.ids;
      asked = also ∙ ap (λ xs. xs ++ q.asked_how ∷ []) i.asked ∙ sym (ap (map (λ x. x.asked_how)) behind ∙ map_push (λ x. x.asked_how) t.questions.items q);
      rows = rows-kept t (declared u) i refl;
      names = i.names;
      numbers = i.numbers;
      last_impls = i.last_impls;
      last_items = i.last_items;
      last_later = i.last_later;
      sections_rise = i.sections_rise;
      made = record { fields = i.made.fields; bounds = i.made.bounds; headers = i.made.headers; clauses = i.made.clauses; asked = subst (EachNumbered (λ k x. ReferencesMade (x.asked ∷ x.further.items))) (sym behind) (Each-push t.questions.items q i.made.asked good); given = subst (EachNumbered (λ k x. ReferencesMade x.clauses.items)) (sym behind) (Each-push t.questions.items q i.made.given goods); later_headers = i.made.later_headers; later_clauses = i.made.later_clauses };
    }

-- ---- an impl
pub impl-consistent : (t : Tables) (impls : Vec ImplEntry Global) (last items : ℕ) (m : ImplEntry) → IsConsistent t → ReferenceMade m.header → ReferencesMade m.clauses.items
    → impls.items ≡ t.impls.items ++ m ∷ [] → m.id.index ≡ length t.impls.items → m.owner.index ≡ last_crate (declared t) → m.number_in_crate ≡ t.last_impls + 1 → last ≡ m.number_in_crate → items ≡ t.last_items + 1
    → IsConsistent (record t { impls = impls; last_impls = last; last_items = items })
impl-consistent t impls last items m i good goods behind number home place now more =
    let d = declared t in
    let u : Tables = record t { impls = impls; last_impls = last; last_items = items } in
    let e : declared u ≡ with_impl d (impl_of m) = ap (λ ms. record d { impls = ms }) (ap (map impl_of) behind ∙ map_push impl_of t.impls.items m) in
    let count : (c : ℕ) → m.owner.index ≡ c → impls_of c (t.impls.items ++ m ∷ []) ≡ impls_of c t.impls.items + 1 = λ c h. count_by-push (λ x. x.owner.index == c) t.impls.items m ∙ ap (λ n. impls_of c t.impls.items + n) (counted m.owner.index c h) in
    let last-number : m.number_in_crate ≡ impls_of (last_crate d) (t.impls.items ++ m ∷ []) = place ∙ ap (λ n. n + 1) i.last_impls ∙ sym (count (last_crate d) home) in
    let numbers : EachNumbered (λ k x. x.number_in_crate ≡ impls_of x.owner.index (take (suc k) (t.impls.items ++ m ∷ []))) (t.impls.items ++ m ∷ []) =
    Each-push t.impls.items m
    (λ k x g. i.numbers k x g ∙ ap (impls_of x.owner.index) (sym (take-push t.impls.items m (suc k) (omega (arith, slice_get_within t.impls.items k x g)))))
    (last-number ∙ ap (λ c. impls_of c (t.impls.items ++ m ∷ [])) (sym home) ∙ ap (impls_of m.owner.index) (sym (take-pushed t.impls.items m))) in
    record {
      numbered = subst IsNumbered (sym e) (numbered-impl d (impl_of m) i.numbered (number ∙ sym (length-map t.impls.items impl_of)) (rw home (last-there d i.numbered)));
      ids = i.ids;
      asked = i.asked;
      rows = rows-kept t (declared u) i refl;
      names = i.names;
      numbers = rw behind numbers;
      last_impls = now ∙ last-number ∙ ap (impls_of (last_crate d)) (sym behind);
      last_items = more ∙ ap (λ k. k + 1) i.last_items ∙ sym (items-impl d (impl_of m) home) ∙ ap last_items (sym e);
      last_later = i.last_later;
      sections_rise = i.sections_rise;
      made = record { fields = i.made.fields; bounds = i.made.bounds; headers = subst (EachNumbered (λ k x. ReferenceMade x.header)) (sym behind) (Each-push t.impls.items m i.made.headers good); clauses = subst (EachNumbered (λ k x. ReferencesMade x.clauses.items)) (sym behind) (Each-push t.impls.items m i.made.clauses goods); asked = i.made.asked; given = i.made.given; later_headers = i.made.later_headers; later_clauses = i.made.later_clauses };
    }

pub impl-declared : (t : Tables) (impls : List ImplEntry) (m : ImplEntry)
    → impls ≡ t.impls.items ++ m ∷ [] → m.id.index ≡ length t.impls.items → m.owner.index ≡ last_crate (declared t)
    → record (declared t) { impls = map impl_of impls }
    ≡ with_impl (declared t) (new_impl (declared t) (sorted_params m.params.items) (reference_of m.header) (map reference_of m.clauses.items))
impl-declared t impls m behind number home =
    let d = declared t in
    ap (λ ms. record d { impls = ms }) (ap (map impl_of) behind ∙ map_push impl_of t.impls.items m)
    ∙ ap (λ k. with_impl d (record { params = sorted_params m.params.items; item = record (impl_of m).item { name = k } })) (number ∙ sym (length-map t.impls.items impl_of))
    ∙ ap (λ h. with_impl d (record { params = sorted_params m.params.items; item = record (impl_of m).item { name = length d.impls; home = h } })) home
    ∙ ap (λ k. with_impl d (record { params = sorted_params m.params.items; item = record (impl_of m).item { name = length d.impls; home = last_crate d; params = k } })) (sym (length-map m.params.items (λ p. (p.name.items, sort_of_kind p.kind))))

-- ---- crates and their numbers
pub ids-at : (t : Tables) → IsConsistent t → EachNumbered (λ k x. x.index ≡ k) t.ids.items
ids-at t i =
    let named : EachNumbered (λ k c. c.id.index ≡ k) t.crates.items = Each-weaken t.crates.items (λ k c p. p.0) (Each-from_map (λ k c. (c.item.name ≡ k) × All (λ u. u < k) c.item.uses) crate_of t.crates.items i.numbered.crates) in
    Each-from_map (λ k n. n ≡ k) (λ x. x.index) t.ids.items (subst (EachNumbered (λ k n. n ≡ k)) (sym i.ids) (Each-of_map (λ k n. n ≡ k) (λ c. c.id.index) t.crates.items named))

pub ids-length : (t : Tables) → IsConsistent t → length t.ids.items ≡ length t.crates.items
ids-length t i = sym (length-map t.ids.items (λ x. x.index)) ∙ ap length i.ids ∙ length-map t.crates.items (λ c. c.id.index)

-- ---- a crate
world-length : (t : Tables) → length (world_of (declared t)).crates ≡ length t.crates.items
world-length t = length-map (declared t).crates (λ c. c.item) ∙ length-map t.crates.items crate_of

pub crate-consistent : (t : Tables) (crates : Vec CrateEntry Global) (ids : Vec CrateId Global) (names : NameTable) (x : CrateEntry) (y : CrateId) (key n : List ℕ) (v : Named) → IsConsistent t
    → crates.items ≡ t.crates.items ++ x ∷ [] → ids.items ≡ t.ids.items ++ y ∷ [] → y.index ≡ x.id.index → x.name.items ≡ n → x.id.index ≡ length t.crates.items → All (λ u. u.index < length t.crates.items) x.uses.items
    → ((e : ℕ) → unwrap_or (slice_get x.sees.items e) false ≡ sees (world_of (with_crate (declared t) (record { text = n; item = record { name = length t.crates.items; uses = numbers_of x.uses.items } }))) (length t.crates.items) e)
    → known (declared t) n ≡ None → key ≡ n → named_item v ≡ crate_item x.id.index → UpdatesBy (λ y z. bytes_eq y.items z.items) (λ y. bytes_eq key y.items) t.names names (Some v)
    → IsConsistent (record t { crates = crates; ids = ids; names = names; last_impls = 0; last_items = 0; in_section = false })
crate-consistent t crates ids names x y key n v i behind also same-number text number earlier row new same value updated =
    let d = declared t in
    let u : Tables = record t { crates = crates; ids = ids; names = names; last_impls = 0; last_items = 0; in_section = false } in
    let e : declared u ≡ with_crate d (crate_of x) = ap (λ cs. record d { crates = cs; in_section = false }) (ap (map crate_of) behind ∙ map_push crate_of t.crates.items x) in
    let long : length d.crates ≡ length t.crates.items = length-map t.crates.items crate_of in
    let uses : All (λ m. m < length d.crates) (numbers_of x.uses.items) = All-map (λ m. m < length d.crates) (λ m. m.index) x.uses.items (rw long earlier) in
    let written : crate_of x ≡ record { text = n; item = record { name = length t.crates.items; uses = numbers_of x.uses.items } } =
    ap (λ a. record { text = a; item = record { name = x.id.index; uses = numbers_of x.uses.items } }) text ∙ ap (λ k. record { text = n; item = record { name = k; uses = numbers_of x.uses.items } }) number in
    let grown : (world_of (declared u)).crates ≡ (world_of d).crates ++ (crate_of x).item ∷ [] = ap (λ w. (world_of w).crates) e ∙ map_push (λ c. c.item) d.crates (crate_of x) in
    let Row : ℕ → CrateEntry → Type 0 = λ c w. (m : ℕ) → unwrap_or (slice_get w.sees.items m) false ≡ sees (world_of (declared u)) c m in
    let old : EachNumbered Row t.crates.items =
    λ c y g m. i.rows c y g m ∙ sym (old-sees (world_of d) (world_of (declared u)) (crate_of x).item (ordered d i.numbered) grown (number ∙ sym (world-length t)) c m (omega (arith, world-length t, slice_get_within t.crates.items c y g))) in
    let last : last_crate (declared u) ≡ length d.crates = ap last_crate e ∙ last-new d (crate_of x) in
    let homes : EachNumbered (λ k m. (m.id.index ≡ k) × (m.owner.index < length d.crates)) t.impls.items = Each-from_map (λ k m. (m.item.name ≡ k) × (m.item.home < length d.crates)) impl_of t.impls.items i.numbered.impls in
    record {
      numbered = subst IsNumbered (sym e) (numbered-crate d (crate_of x) i.numbered (number ∙ sym long) uses);
      ids = ap numbers_of also ∙ map_push (λ z. z.index) t.ids.items y ∙ ap (λ xs. xs ++ y.index ∷ []) i.ids ∙ ap (λ k. map (λ c. c.id.index) t.crates.items ++ k ∷ []) same-number ∙ sym (ap (map (λ c. c.id.index)) behind ∙ map_push (λ c. c.id.index) t.crates.items x);
      asked = i.asked;
      rows = subst (EachNumbered Row) (sym behind) (Each-push t.crates.items x old (λ m. row m ∙ sym (ap (λ w. sees (world_of w) (length t.crates.items) m) (e ∙ ap (with_crate d) written))));
      names = names-kept t.names names d (declared u) key n v (crate_item x.id.index) same value updated i.names (subst (λ w. Names (item_named d) (item_named w) n (crate_item x.id.index)) (sym e) (subst (λ m. Names (item_named d) (item_named (with_crate d (crate_of x))) m (crate_item x.id.index)) text (names-crate d (crate_of x) (ap (item_named d) text ∙ no-item d n new))));
      numbers = i.numbers;
      last_impls = sym (count_by-none (λ m. m.owner.index == last_crate (declared u)) t.impls.items (Every-from_Each t.impls.items (λ k m p. ne_eqb m.owner.index (last_crate (declared u)) (λ q. absurd (omega (arith, p.1, q, last)))) homes));
      last_items = sym (ap last_items e ∙ items-crate d (crate_of x) i.numbered);
      last_later = i.last_later;
      sections_rise = i.sections_rise;
      made = record { fields = i.made.fields; bounds = i.made.bounds; headers = i.made.headers; clauses = i.made.clauses; asked = i.made.asked; given = i.made.given; later_headers = i.made.later_headers; later_clauses = i.made.later_clauses };
    }

-- ---- the row of a new crate
by-numbers : (W : World) (uses : List CrateId) (e : ℕ) → seen_by W (numbers_of uses) e ≡ will_see W uses e
by-numbers W uses e = ap (λ b. (e == core) || b) (list_any-map (λ u. sees W u e) (λ u. u.index) uses)

unseen-beyond : (t : Tables) → IsConsistent t → (uses : List CrateId) → All (λ u. u.index < length t.crates.items) uses → (e : ℕ) → length t.crates.items < e → list_any (λ u. sees (world_of (declared t)) u.index e) uses ≡ false
unseen-beyond t i [] a e h = refl
unseen-beyond t i (u ∷ us) a e h =
    ap (λ b. b || list_any (λ v. sees (world_of (declared t)) v.index e) us) (later-unseen (length (world_of (declared t)).crates) (world_of (declared t)) u.index e (ordered (declared t) i.numbered) (omega (arith, h, All-head (λ v. v.index < length t.crates.items) u us a)))
    ∙ unseen-beyond t i us (All-tail (λ v. v.index < length t.crates.items) u us a) e h

row-at : (t : Tables) → IsConsistent t → (uses : List CrateId) → All (λ u. u.index < length t.crates.items) uses → (e : ℕ)
    → unwrap_or (slice_get (map (λ i. will_see (world_of (declared t)) uses i.index) t.ids.items ++ true ∷ []) e) false ≡ ((length t.crates.items == e) || will_see (world_of (declared t)) uses e)
row-at t i uses a e =
    let W = world_of (declared t) in
    let n = length t.crates.items in
    let xs = map (λ x. will_see W uses x.index) t.ids.items in
    let long : length xs ≡ n = length-map t.ids.items (λ x. will_see W uses x.index) ∙ ids-length t i in
    elim (place_of xs true e) [
      | within_list h g ↦
          let x = slice_get-there t.ids.items e (omega (arith, h, long, ids-length t i)) in
          let index : x.0.index ≡ e = ids-at t i e x.0 x.1 in
          let other : (n == e) ≡ false = ne_eqb n e (λ q. absurd (omega (arith, q, h, long))) in
          ap (λ o. unwrap_or o false) (g ∙ slice_get-map (λ y. will_see W uses y.index) t.ids.items e ∙ ap (option_map (λ y. will_see W uses y.index)) x.1) ∙ ap (will_see W uses) index ∙ sym (ap (λ b. b || will_see W uses e) other)
      | at_end h g ↦
          let same : (n == e) ≡ true = ap (λ m. m == e) (sym long ∙ sym h) ∙ self-number e in
          ap (λ o. unwrap_or o false) g ∙ sym (ap (λ b. b || will_see W uses e) same)
      | past_end h g ↦
          let other : (n == e) ≡ false = ne_eqb n e (λ q. absurd (omega (arith, q, h, long))) in
          let some : (e == core) ≡ false = ne_eqb e core (λ q. absurd (omega (arith, q, h))) in
          ap (λ o. unwrap_or o false) g ∙ sym (ap (λ b. b || will_see W uses e) other ∙ ap (λ b. b || list_any (λ u. sees W u.index e) uses) some ∙ unseen-beyond t i uses a e (omega (arith, h, long)))
    ]

pub row-of-new : (t : Tables) (row : List Bool) (uses : List CrateId) (c : NamedCrate) → IsConsistent t → All (λ u. u.index < length t.crates.items) uses
    → c.item.name ≡ length t.crates.items → c.item.uses ≡ numbers_of uses
    → row ≡ map (λ i. will_see (world_of (declared t)) uses i.index) t.ids.items ++ true ∷ []
    → (e : ℕ) → unwrap_or (slice_get row e) false ≡ sees (world_of (with_crate (declared t) c)) (length t.crates.items) e
row-of-new t row uses c i earlier number used is e =
    let d = declared t in
    let W = world_of d in
    let V = world_of (with_crate d c) in
    let n = length t.crates.items in
    let long : length W.crates ≡ n = world-length t in
    let below : All (λ m. m < length W.crates) c.item.uses = subst (All (λ m. m < length W.crates)) (sym used) (All-map (λ m. m < length W.crates) (λ m. m.index) uses (rw long earlier)) in
    let new : sees V (length W.crates) e ≡ ((length W.crates == e) || seen_by W c.item.uses e) =
    new-sees W V c.item (ordered d i.numbered) (map_push (λ x. x.item) d.crates c) (number ∙ sym long) below e in
    let wanted : sees V n e ≡ ((n == e) || will_see W uses e) =
    ap (λ m. sees V m e) (sym long) ∙ new ∙ ap (λ m. (m == e) || seen_by W c.item.uses e) long ∙ ap (λ us. (n == e) || seen_by W us e) used ∙ ap (λ b. (n == e) || b) (by-numbers W uses e) in
    ap (λ r. unwrap_or (slice_get r e) false) is ∙ row-at t i uses earlier e ∙ sym wanted

-- ---- `core` alone
pub Each-nothing : {A : Type 0} (P : ℕ → A → Type 0) → EachNumbered P []
Each-nothing P = λ k x e. absurd (omega (arith, slice_get_within [] k x e))

numbered-core : IsNumbered core_alone
numbered-core = record {
  has_core = omega arith;
  crates = Each-push [] (record { text = codes "core"; item = record { name = core; uses = [] } }) (Each-nothing (λ k c. (c.item.name ≡ k) × All (λ u. u < k) c.item.uses)) (refl, λ k d h. absurd (omega (arith, h)));
  structs = Each-nothing (λ k s. (s.item.name ≡ k) × (s.item.home < 1));
  traits = Each-nothing (λ k t. (t.item.name ≡ k) × (t.item.home < 1));
  impls = Each-nothing (λ k i. (i.item.name ≡ k) × (i.item.home < 1));
  questions = Each-nothing (λ k q. q.asker < 1);
  sections = Each-nothing (λ k c. c < 1);
  later_impls = Each-nothing (λ k i. slice_get [] i.section ≡ Some i.added.item.home);
  checks = Each-nothing (λ k c. IsCheckIn core_alone c);
  has_section = λ h. absurd cc;
}

core-row : (e : ℕ) → unwrap_or (slice_get (true ∷ []) e) false ≡ sees (world_of core_alone) 0 e
core-row e =
    elim (place_of [] true e) [
      | within_list h g ↦ absurd (omega (arith, h))
      | at_end h g ↦ rw h refl
      | past_end h g ↦
          let one : (0 == e) ≡ false = ne_eqb 0 e (λ q. absurd (omega (arith, q, h))) in
          let other : (e == 0) ≡ false = ne_eqb e 0 (λ q. absurd (omega (arith, q, h))) in
          ap (λ o. unwrap_or o false) g ∙ sym (rw (one, other) refl)
    ]

nobody : Declarations
nobody = record { crates = []; structs = []; traits = []; impls = []; questions = []; sections = []; later_impls = []; checks = []; in_section = false }

-- no section and no check
pub record HasNoSection (t : Tables) : Type 0 where
  pub sections : t.sections.items ≡ []
  pub later : t.later_impls.items ≡ []
  pub checks : t.checks.items ≡ []
  pub outside : t.in_section ≡ false
  pub none : t.last_later ≡ 0

no-section : (t : Tables) → HasNoSection t → declared t ≡ record (declared t) { sections = []; later_impls = []; checks = []; in_section = false }
no-section t h =
    let d = declared t in
    ap (λ ss. record d { sections = numbers_of ss }) h.sections
    ∙ ap (λ is. record d { sections = []; later_impls = map later_impl_of is }) h.later
    ∙ ap (λ cs. record d { sections = []; later_impls = []; checks = map check_of cs }) h.checks
    ∙ ap (λ b. record d { sections = []; later_impls = []; checks = []; in_section = b }) h.outside

alone : (t : Tables) (x : CrateEntry) → t.crates.items ≡ x ∷ [] → x.id.index ≡ 0 → x.name.items ≡ codes "core" → x.uses.items ≡ []
    → t.structs.items ≡ [] → t.traits.items ≡ [] → t.impls.items ≡ [] → t.questions.items ≡ [] → HasNoSection t → declared t ≡ core_alone
alone t x crates number name uses structs traits impls questions bare =
    let d : Declarations = record (declared t) { sections = []; later_impls = []; checks = []; in_section = false } in
    no-section t bare
    ∙ ap (λ cs. record d { crates = map crate_of cs }) crates
    ∙ ap (λ k. record d { crates = record { text = x.name.items; item = record { name = k; uses = numbers_of x.uses.items } } ∷ [] }) number
    ∙ ap (λ n. record d { crates = record { text = n; item = record { name = 0; uses = numbers_of x.uses.items } } ∷ [] }) name
    ∙ ap (λ us. record d { crates = record { text = codes "core"; item = record { name = 0; uses = numbers_of us } } ∷ [] }) uses
    ∙ ap (λ ss. record core_alone { structs = map struct_of ss; traits = d.traits; impls = d.impls; questions = d.questions }) structs
    ∙ ap (λ ts. record core_alone { traits = map trait_of ts; impls = d.impls; questions = d.questions }) traits
    ∙ ap (λ is. record core_alone { impls = map impl_of is; questions = d.questions }) impls
    ∙ ap (λ qs. record core_alone { questions = map question_of qs }) questions

pub core-consistent : (t : Tables) (old : NameTable) (zs : List CrateEntry) (x : CrateEntry) (y : CrateId) (key : List ℕ) (v : Named)
    → t.crates.items ≡ zs ++ x ∷ [] → t.ids.items ≡ y ∷ [] → UpdatesBy (λ a b. bytes_eq a.items b.items) (λ a. bytes_eq key a.items) old t.names (Some v) → zs ≡ []
    → x.id.index ≡ 0 → x.name.items ≡ codes "core" → x.uses.items ≡ [] → t.structs.items ≡ [] → t.traits.items ≡ [] → x.sees.items ≡ true ∷ [] → y.index ≡ 0 → t.impls.items ≡ [] → t.questions.items ≡ [] → t.asked.items ≡ []
    → t.last_impls ≡ 0 → t.last_items ≡ 0 → HasNoSection t
    → old.entries ≡ [] → key ≡ codes "core" → named_item v ≡ crate_item 0 → IsConsistent t
unfolding nobody
core-consistent t old zs x y key v behind ids updated none number name uses structs traits marked number-too impls questions asked no-impls no-items bare empty same value =
    let crates : t.crates.items ≡ x ∷ [] = behind ∙ ap (λ ws. ws ++ x ∷ []) none in
    let e : declared t ≡ core_alone = alone t x crates number name uses structs traits impls questions bare in
    let Row : ℕ → CrateEntry → Type 0 = λ c w. (m : ℕ) → unwrap_or (slice_get w.sees.items m) false ≡ sees (world_of (declared t)) c m in
    record {
      numbered = subst IsNumbered (sym e) numbered-core;
      ids = ap numbers_of ids ∙ ap (λ k. k ∷ []) (number-too ∙ sym number) ∙ sym (ap (map (λ c. c.id.index)) crates);
      asked = asked ∙ sym (ap (map (λ q. q.asked_how)) questions);
      rows = subst (EachNumbered Row) (sym crates) (Each-push [] x (Each-nothing Row) (λ m. ap (λ r. unwrap_or (slice_get r m) false) marked ∙ core-row m ∙ sym (ap (λ d. sees (world_of d) 0 m) e)));
      names = names-kept old t.names nobody (declared t) key (codes "core") v (crate_item 0) same value updated (λ m. ap (λ es. option_map named_item (lookup (λ k. bytes_eq m k.items) es)) empty)
          (subst (λ d. Names (item_named nobody) (item_named d) (codes "core") (crate_item 0)) (sym e) (names-crate nobody (record { text = codes "core"; item = record { name = core; uses = [] } }) refl));
      numbers = subst (λ is. EachNumbered (λ k i. i.number_in_crate ≡ impls_of i.owner.index (take (suc k) is)) is) (sym impls) (Each-nothing (λ k i. i.number_in_crate ≡ impls_of i.owner.index (take (suc k) [])));
      last_impls = no-impls ∙ sym (ap (impls_of (last_crate (declared t))) impls);
      last_items = no-items ∙ sym (ap last_items e);
      last_later = bare.none ∙ sym (ap last_later e);
      sections_rise = subst (IsNonDecreasingBy (λ x. x.section)) (sym bare.later) (IsNonDecreasingBy-short (λ x. x.section) [] (omega arith));
      made = record {
        fields = subst (EachNumbered (λ k x. AreMade is_type x.fields.items)) (sym structs) (Each-nothing (λ k x. AreMade is_type x.fields.items));
        bounds = subst (EachNumbered (λ k x. ReferencesMade x.bounds.items)) (sym traits) (Each-nothing (λ k x. ReferencesMade x.bounds.items));
        headers = subst (EachNumbered (λ k x. ReferenceMade x.header)) (sym impls) (Each-nothing (λ k x. ReferenceMade x.header));
        clauses = subst (EachNumbered (λ k x. ReferencesMade x.clauses.items)) (sym impls) (Each-nothing (λ k x. ReferencesMade x.clauses.items));
        asked = subst (EachNumbered (λ k x. ReferencesMade (x.asked ∷ x.further.items))) (sym questions) (Each-nothing (λ k x. ReferencesMade (x.asked ∷ x.further.items)));
        given = subst (EachNumbered (λ k x. ReferencesMade x.clauses.items)) (sym questions) (Each-nothing (λ k x. ReferencesMade x.clauses.items));
        later_headers = subst (EachNumbered (λ k x. ReferenceMade x.entry.header)) (sym bare.later) (Each-nothing (λ k x. ReferenceMade x.entry.header));
        later_clauses = subst (EachNumbered (λ k x. ReferencesMade x.entry.clauses.items)) (sym bare.later) (Each-nothing (λ k x. ReferencesMade x.entry.clauses.items));
      };
    }

-- The tables stay in agreement with what they declare where a section begins, an impl is added to one, and supertraits are asked for.
use Rattle.std.proofs.Common.{◌≡◌, ℕ, zero, suc, ◌+◌, ◌-◌, ◌<◌, true, List, [], ◌∷◌, ◌++◌, length, Some, refl, sym, ap, ◌∙◌, subst, arith, length-append, get_or, Vec, Global}
use Rattle.std.proofs.lemmas.Bool.{ne_eqb}
use Rattle.std.proofs.lemmas.List.{map_push, length-map}
use Rattle.std.proofs.lemmas.List.Sorted.{IsNonDecreasingBy-push}
use Rattle.std.proofs.lemmas.Option.{slice_get_within}
use Rattle.std.specs.Prelude.{◌==◌, slice_get, map, unwrap_or}
use Rattle.std.specs.List.Sorted.{IsNonDecreasingBy}
use Rattle.type_terms.specs.Promised.Worlds.{core}
use Rattle.text_language.specs.Promised.Declarations.{Declarations, LaterImpl, Check, of_later, of_supers, last_changed, last_later}
use Rattle.text_language.specs.Adding.{with_section, with_supers}
use Rattle.type_terms.specs.declared.CrateId.{CrateId}
use Rattle.text_tables.specs.Numbered.{EachNumbered, IsNumbered, IsCheckIn}
use Rattle.text_tables.specs.Made.{ReferenceMade, ReferencesMade}
use Rattle.text_tables.specs.declared.tables.Tables.{Tables}
use Rattle.text_tables.specs.declared.declared.LaterEntry.{LaterEntry}
use Rattle.text_tables.specs.declared.declared.Check as InCode
use Rattle.text_tables.specs.declared.declared.Check.TheVariants as checked
use Rattle.text_tables.specs.Views.{crate_of, numbers_of, later_impl_of, check_of, reference_of, sorted_params, sort_of_kind}
use Rattle.text_tables.specs.Tables.{IsConsistent, declared, with_later}
use Rattle.text_tables.specs.Parts.{new_later}
use Rattle.text_tables.proofs.Each.{Each-weaken, Each-push, Each-from_map, below-at, Every-from_Each, count_by-push, count_by-none, slice_get-there}
use Rattle.text_tables.proofs.Consistent.{rows-kept, counted}

-- ---- lists
-- what stands in a list stands there where one more is put behind
stands-on : {A : Type 0} (xs : List A) (x y : A) (k : ℕ) → slice_get xs k ≡ Some y → slice_get (xs ++ x ∷ []) k ≡ Some y
stands-on (z ∷ zs) x y zero h = h
stands-on (z ∷ zs) x y (suc k) h = stands-on zs x y k h
stands-on [] x y k h = absurd (omega (arith, slice_get_within [] k y h))

stands-last : {A : Type 0} (xs : List A) (x : A) → slice_get (xs ++ x ∷ []) (length xs) ≡ Some x
stands-last [] x = refl
stands-last (y ∷ ys) x = stands-last ys x

-- ---- numbers
check-on : (d : Declarations) (c : ℕ) (x : Check) → IsCheckIn d x → IsCheckIn (with_section d c) x
check-on d c (of_later k n) h = stands-on d.sections c n k h
check-on d c (of_supers n) h = h

numbered-section : (d : Declarations) (c : ℕ) → IsNumbered d → c < length d.crates → IsNumbered (with_section d c)
numbered-section d c i h = record {
  has_core = i.has_core;
  crates = i.crates;
  structs = i.structs;
  traits = i.traits;
  impls = i.impls;
  questions = i.questions;
  sections = Each-push d.sections c i.sections h;
  later_impls = Each-weaken d.later_impls (λ k x p. stands-on d.sections c x.added.item.home x.section p) i.later_impls;
  checks = Each-push d.checks (of_later (length d.sections) c) (Each-weaken d.checks (λ k x p. check-on d c x p) i.checks) (stands-last d.sections c);
  has_section = λ _. omega (arith, length-append d.sections (c ∷ []));
}

numbered-supers : (d : Declarations) (c : ℕ) → IsNumbered d → c < length d.crates → IsNumbered (with_supers d c)
numbered-supers d c i h = record {
  has_core = i.has_core;
  crates = i.crates;
  structs = i.structs;
  traits = i.traits;
  impls = i.impls;
  questions = i.questions;
  sections = i.sections;
  later_impls = i.later_impls;
  checks = Each-push d.checks (of_supers c) i.checks h;
  has_section = i.has_section;
}

numbered-later : (d : Declarations) (m : LaterImpl) → IsNumbered d → slice_get d.sections m.section ≡ Some m.added.item.home → IsNumbered (with_later d m)
numbered-later d m i h = record {
  has_core = i.has_core;
  crates = i.crates;
  structs = i.structs;
  traits = i.traits;
  impls = i.impls;
  questions = i.questions;
  sections = i.sections;
  later_impls = Each-push d.later_impls m i.later_impls h;
  checks = i.checks;
  has_section = i.has_section;
}

-- the last section is of the crate that it changes
changed-there : (d : Declarations) → 0 < length d.sections → slice_get d.sections (length d.sections - 1) ≡ Some (last_changed d)
changed-there d h =
    let x = slice_get-there d.sections (length d.sections - 1) (omega (arith, h)) in
    x.1 ∙ ap Some (sym (ap (λ o. unwrap_or o core) x.1))

-- ---- a section
pub section-declared : (t : Tables) (ss : List CrateId) (cs : List InCode.Check) (section k : ℕ) (changed : CrateId)
    → ss ≡ t.sections.items ++ changed ∷ [] → cs ≡ t.checks.items ++ checked.Later section changed ∷ [] → section ≡ length t.sections.items → changed.index ≡ k
    → record (declared t) { sections = numbers_of ss; checks = map check_of cs; in_section = true } ≡ with_section (declared t) k
section-declared t ss cs section k changed behind also number is =
    let d = declared t in
    ap (λ xs. record d { sections = xs; checks = map check_of cs; in_section = true }) (ap numbers_of behind ∙ map_push (λ c. c.index) t.sections.items changed)
    ∙ ap (λ xs. record d { sections = d.sections ++ changed.index ∷ []; checks = xs; in_section = true }) (ap (map check_of) also ∙ map_push check_of t.checks.items (checked.Later section changed))
    ∙ ap (λ n. record d { sections = d.sections ++ changed.index ∷ []; checks = d.checks ++ of_later n changed.index ∷ []; in_section = true }) (number ∙ sym (length-map t.sections.items (λ c. c.index)))
    ∙ ap (λ n. with_section d n) is

pub section-consistent : (t : Tables) (sections : Vec CrateId Global) (checks : Vec InCode.Check Global) (section : ℕ) (changed : CrateId) → IsConsistent t → changed.index < length t.crates.items
    → sections.items ≡ t.sections.items ++ changed ∷ [] → checks.items ≡ t.checks.items ++ checked.Later section changed ∷ [] → section ≡ length t.sections.items
    → IsConsistent (record t { sections = sections; checks = checks; in_section = true; last_later = 0 })
section-consistent t sections checks section changed i there behind also number =
    let d = declared t in
    let u : Tables = record t { sections = sections; checks = checks; in_section = true; last_later = 0 } in
    let e : declared u ≡ with_section d changed.index = section-declared t sections.items checks.items section changed.index changed behind also number refl in
    record {
      numbered = subst IsNumbered (sym e) (numbered-section d changed.index i.numbered (omega (arith, there, length-map t.crates.items crate_of)));
      ids = i.ids;
      asked = i.asked;
      rows = rows-kept t (declared u) i refl;
      names = i.names;
      numbers = i.numbers;
      last_impls = i.last_impls;
      last_items = i.last_items;
      last_later = sym (ap last_later e ∙ fresh);
      sections_rise = i.sections_rise;
      made = record { fields = i.made.fields; bounds = i.made.bounds; headers = i.made.headers; clauses = i.made.clauses; asked = i.made.asked; given = i.made.given; later_headers = i.made.later_headers; later_clauses = i.made.later_clauses };
    }
  where
    c : ℕ
    c = changed.index

    old : Declarations
    old = declared t

    -- no impl is of a section that begins
    fresh : last_later (with_section old c) ≡ 0
    fresh =
        count_by-none (λ x. x.section == (length (old.sections ++ c ∷ []) - 1)) old.later_impls
        (Every-from_Each old.later_impls
        (λ k x p. ne_eqb x.section (length (old.sections ++ c ∷ []) - 1) (λ q. absurd (omega (arith, q, slice_get_within old.sections x.section x.added.item.home p, length-append old.sections (c ∷ [])))))
        i.numbered.later_impls)

-- ---- supertraits
pub supers-declared : (t : Tables) (cs : List InCode.Check) (k : ℕ) (asked : CrateId)
    → cs ≡ t.checks.items ++ checked.Supers asked ∷ [] → asked.index ≡ k → record (declared t) { checks = map check_of cs } ≡ with_supers (declared t) k
supers-declared t cs k asked also is =
    let d = declared t in
    ap (λ xs. record d { checks = xs }) (ap (map check_of) also ∙ map_push check_of t.checks.items (checked.Supers asked)) ∙ ap (λ n. with_supers d n) is

pub supers-consistent : (t : Tables) (checks : Vec InCode.Check Global) (asked : CrateId) → IsConsistent t → asked.index < length t.crates.items
    → checks.items ≡ t.checks.items ++ checked.Supers asked ∷ [] → IsConsistent (record t { checks = checks })
supers-consistent t checks asked i there also =
    let d = declared t in
    let u : Tables = record t { checks = checks } in
    let e : declared u ≡ with_supers d asked.index = supers-declared t checks.items asked.index asked also refl in
    record {
      numbered = subst IsNumbered (sym e) (numbered-supers d asked.index i.numbered (omega (arith, there, length-map t.crates.items crate_of)));
      ids = i.ids;
      asked = i.asked;
      rows = rows-kept t (declared u) i refl;
      names = i.names;
      numbers = i.numbers;
      last_impls = i.last_impls;
      last_items = i.last_items;
      last_later = i.last_later;
      sections_rise = i.sections_rise;
      made = record { fields = i.made.fields; bounds = i.made.bounds; headers = i.made.headers; clauses = i.made.clauses; asked = i.made.asked; given = i.made.given; later_headers = i.made.later_headers; later_clauses = i.made.later_clauses };
    }

-- ---- an impl of a section
pub later-declared : (t : Tables) (is : List LaterEntry) (m : LaterEntry)
    → is ≡ t.later_impls.items ++ m ∷ [] → m.section ≡ length t.sections.items - 1 → m.entry.id.index ≡ t.last_later → m.entry.owner.index ≡ last_changed (declared t) → IsConsistent t
    → record (declared t) { later_impls = map later_impl_of is }
    ≡ with_later (declared t) (new_later (declared t) (sorted_params m.entry.params.items) (reference_of m.entry.header) (map reference_of m.entry.clauses.items))
later-declared t is m behind section number home i =
    let d = declared t in
    ap (λ ms. record d { later_impls = ms }) (ap (map later_impl_of) behind ∙ map_push later_impl_of t.later_impls.items m)
    ∙ ap (λ k. with_later d (record { section = k; added = (later_impl_of m).added })) (section ∙ ap (λ n. n - 1) (sym (length-map t.sections.items (λ c. c.index))))
    ∙ ap (λ k. with_later d (record { section = length d.sections - 1; added = record { params = sorted_params m.entry.params.items; item = record (later_impl_of m).added.item { name = k } } })) (number ∙ i.last_later)
    ∙ ap (λ h. with_later d (record { section = length d.sections - 1; added = record { params = sorted_params m.entry.params.items; item = record (later_impl_of m).added.item { name = last_later d; home = h } } })) home
    ∙ ap (λ k. with_later d (record { section = length d.sections - 1; added = record { params = sorted_params m.entry.params.items; item = record (later_impl_of m).added.item { name = last_later d; home = last_changed d; params = k } } }))
    (sym (length-map m.entry.params.items (λ p. (p.name.items, sort_of_kind p.kind))))

pub later-consistent : (t : Tables) (later : Vec LaterEntry Global) (last : ℕ) (m : LaterEntry) → IsConsistent t → (declared t).in_section ≡ true → ReferenceMade m.entry.header → ReferencesMade m.entry.clauses.items
    → later.items ≡ t.later_impls.items ++ m ∷ [] → m.section ≡ length t.sections.items - 1 → m.entry.owner.index ≡ last_changed (declared t) → last ≡ t.last_later + 1
    → IsConsistent (record t { later_impls = later; last_later = last })
later-consistent t later last m i inside good goods behind section home more =
    let d = declared t in
    let u : Tables = record t { later_impls = later; last_later = last } in
    let e : declared u ≡ with_later d (later_impl_of m) = ap (λ ms. record d { later_impls = ms }) (ap (map later_impl_of) behind ∙ map_push later_impl_of t.later_impls.items m) in
    let place : m.section ≡ length d.sections - 1 = section ∙ ap (λ n. n - 1) (sym (length-map t.sections.items (λ c. c.index))) in
    record {
      numbered = subst IsNumbered (sym e) (numbered-later d (later_impl_of m) i.numbered (ap (slice_get d.sections) place ∙ changed-there d (i.numbered.has_section inside) ∙ ap Some (sym home)));
      ids = i.ids;
      asked = i.asked;
      rows = rows-kept t (declared u) i refl;
      names = i.names;
      numbers = i.numbers;
      last_impls = i.last_impls;
      last_items = i.last_items;
      last_later = more ∙ ap (λ k. k + 1) i.last_later
          ∙ sym (ap last_later e ∙ count_by-push (λ x. x.section == (length d.sections - 1)) d.later_impls (later_impl_of m) ∙ ap (λ n. last_later d + n) (counted m.section (length d.sections - 1) place));
      sections_rise = subst (IsNonDecreasingBy (λ x. x.section)) (sym behind) (IsNonDecreasingBy-push (λ x. x.section) t.later_impls.items m i.sections_rise (λ x some. omega (arith, place, last-below x some)));
      made = record {
        fields = i.made.fields;
        bounds = i.made.bounds;
        headers = i.made.headers;
        clauses = i.made.clauses;
        asked = i.made.asked;
        given = i.made.given;
        later_headers = subst (EachNumbered (λ k x. ReferenceMade x.entry.header)) (sym behind) (Each-push t.later_impls.items m i.made.later_headers good);
        later_clauses = subst (EachNumbered (λ k x. ReferencesMade x.entry.clauses.items)) (sym behind) (Each-push t.later_impls.items m i.made.later_clauses goods);
      };
    }
  where
    old : Declarations
    old = declared t

    -- each added impl is of a section that is there
    last-below : (x : LaterEntry) → 0 < length t.later_impls.items → (get_or t.later_impls.items (length t.later_impls.items - 1) x).section < length old.sections
    last-below x some =
        below-at (λ (y : LaterEntry). y.section) (length old.sections) t.later_impls.items
        (Each-weaken t.later_impls.items (λ k y p. slice_get_within old.sections y.section y.entry.owner.index p)
        (Each-from_map (λ k y. slice_get old.sections y.section ≡ Some y.added.item.home) later_impl_of t.later_impls.items i.numbered.later_impls))
        (length t.later_impls.items - 1) x (omega (arith, some))

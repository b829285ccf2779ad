-- Counts of impls, of the entries that stand for them.
use Rattle.std.proofs.Common.{◌≡◌, ℕ, suc, ◌+◌, Bool, ◌&&◌, ◌==◌, cond, List, [], ◌∷◌, map, filter, take, count_by, Option, Some, None, refl, sym, ap, ◌∙◌, arith}
use Rattle.std.specs.List.{slice_get}
use Rattle.std.specs.Option.{option_map, option_map_or}
use Rattle.std.proofs.lemmas.List.{take-map}
use Rattle.std.proofs.lemmas.List.Sums.{sum_by-cons}
use Rattle.std.proofs.lemmas.Option.{same_Some}
use Rattle.sessions.specs.TypeTerms.Promised.Worlds.{core}
use Rattle.sessions.specs.TextLanguage.Promised.Declarations.{Declarations, NamedImpl, LaterImpl, section_impls}
use Rattle.sessions.specs.TextTables.Views.{impl_of, later_impl_of}
use Rattle.sessions.specs.TextTables.declared.declared.ImplEntry.{ImplEntry}
use Rattle.sessions.specs.TextTables.declared.declared.LaterEntry.{LaterEntry}
use Rattle.coherence.specs.Promised.CheckAnswers.{number_in_section}
use Rattle.coherence.specs.Promised.CrateAnswers.{impl_home, is_written, number_in_crate}

count_by-map : {A B : Type 0} (p : B → Bool) (f : A → B) (xs : List A) → count_by p (map f xs) ≡ count_by (λ x. p (f x)) xs
count_by-map p f [] = refl
count_by-map p f (x ∷ xs) =
    sum_by-cons (λ y. cond (p y) 1 0) (f x) (map f xs) ∙ ap (λ n. cond (p (f x)) 1 0 + n) (count_by-map p f xs) ∙ sym (sum_by-cons (λ y. cond (p (f y)) 1 0) x xs)

-- of the first entries
counted : {A : Type 0} (p : NamedImpl → Bool) (f : A → NamedImpl) (es : List A) (is : List NamedImpl) (n : ℕ) → map f es ≡ is → count_by (λ e. p (f e)) (take n es) ≡ count_by p (take n is)
counted p f es is n e = sym (count_by-map p f (take n es)) ∙ ap (count_by p) (sym (take-map f n es)) ∙ ap (λ xs. count_by p (take n xs)) e

-- ---- a crate
home-is : (d : Declarations) (k h : ℕ) → option_map (λ i. i.item.home) (slice_get d.impls k) ≡ Some h → h ≡ impl_home d k
home-is d k h e = by (slice_get d.impls k) e
  where
    by : (o : Option NamedImpl) → option_map (λ i. i.item.home) o ≡ Some h → h ≡ option_map_or (λ i. i.item.home) o core
    by None q = absurd cc
    by (Some i) q = sym (same_Some i.item.home h q)

pub in-crate : (d : Declarations) (es : List ImplEntry) (k h : ℕ) → map impl_of es ≡ d.impls → option_map (λ i. i.item.home) (slice_get d.impls k) ≡ Some h
    → count_by (λ e. (e.owner.index == h) && is_written d (impl_of e)) (take (k + 1) es) ≡ number_in_crate d k
in-crate d es k h items home =
    let next : k + 1 ≡ suc k = omega arith in
    counted (λ i. (i.item.home == h) && is_written d i) impl_of es d.impls (k + 1) items
    ∙ ap (λ n. count_by (λ i. (i.item.home == h) && is_written d i) (take n d.impls)) next
    ∙ ap (λ c. count_by (λ i. (i.item.home == c) && is_written d i) (take (suc k) d.impls)) (home-is d k h home)

-- ---- a section
added-in : (es : List LaterEntry) → map (λ i. i.added) (map later_impl_of es) ≡ map (λ e. impl_of e.entry) es
added-in [] = refl
added-in (e ∷ es) = ap (λ is. impl_of e.entry ∷ is) (added-in es)

section-entries : (d : Declarations) (es : List LaterEntry) (k : ℕ) → map later_impl_of es ≡ filter (λ i. i.section == k) d.later_impls → map (λ e. impl_of e.entry) es ≡ section_impls d k
section-entries d es k items = sym (added-in es) ∙ ap (map (λ (i : LaterImpl). i.added)) items

pub in-section : (d : Declarations) (es : List LaterEntry) (k n : ℕ) → map later_impl_of es ≡ filter (λ i. i.section == k) d.later_impls
    → count_by (λ e. is_written d (impl_of e.entry)) (take n es) ≡ number_in_section d k n
in-section d es k n items = counted (is_written d) (λ (e : LaterEntry). impl_of e.entry) es (section_impls d k) n (section-entries d es k items)

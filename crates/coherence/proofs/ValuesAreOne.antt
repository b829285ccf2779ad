-- A type of a trait has one value in a text that is coherent as a whole.
use Rattle.std.proofs.Common.{◌≡◌, ◌⊎◌, inl, inr, ℕ, ◌<◌, Bool, true, false, ◌&&◌, ◌||◌, ◌==◌, List, map, length, Ok, refl, sym, ap, ◌∙◌, subst}
use Rattle.std.proofs.lemmas.Option.{slice_get_within}
use Rattle.std.specs.List.{list_all}
use Rattle.sessions.specs.TypeTerms.Promised.Label.{Sort, param}
use Rattle.sessions.specs.TypeTerms.Promised.Trees.{Trees, none, tree, erase, is_sort}
use Rattle.sessions.specs.TypeTerms.Promised.Worlds.{Reference}
use Rattle.sessions.specs.TypeTerms.Promised.Erased.{erased_reference, erased_impl}
use Rattle.sessions.specs.TypeTerms.Erased.{mentions, IsCovered}
use Rattle.sessions.specs.TypeTerms.Promised.Supers.{mentions_as}
use Rattle.sessions.specs.TypeTerms.Promised.Proofs.{In}
use Rattle.sessions.proofs.TypeTerms.Members.{same-number, not-both}
use Rattle.sessions.proofs.TypeTerms.ProofEntries.{map-in}
use Rattle.sessions.proofs.TypeTerms.NoHolds.{member-each}
use Rattle.sessions.proofs.TypeTerms.TermBasics.{sort-self}
use Rattle.sessions.proofs.TypeTerms.Walking.{left, right, both, or-left, or-right, or-cases}
use Rattle.sessions.specs.TextLanguage.Promised.Declarations.{Declarations, NamedImpl}
use Rattle.sessions.specs.TextLanguage.Promised.TextSays.{TextSays}
use Rattle.sessions.proofs.TextLanguage.SameTexts.{text-gives}
use Rattle.sessions.specs.TextLowering.Promised.SeenWorlds.{plain, all_kept, stands_in}
use Rattle.sessions.specs.TextLowering.Seen.{param_sorts}
use Rattle.sessions.proofs.TextLowering.Tests.{is_good, is_good_impl, all_stand}
use Rattle.sessions.proofs.TextLowering.SeenViews.{good-fits}
use Rattle.sessions.proofs.TextLowering.Texts.{Well, texts-are-well}
use Rattle.sessions.specs.Promised.CoherentTexts.{TextIsCoherent}
use Rattle.sessions.proofs.TextLowering.Plainly.{plain-erased}
use Rattle.sessions.proofs.CoveredClauses.{mentioned-stands, sorted-there, covered}
use Rattle.coherence.specs.Promised.Values.{ValuesAreOne}
use Rattle.coherence.proofs.CompanionsStand.{companions-of-texts-stand}
use Rattle.coherence.proofs.TypeValues.{values-agree}

-- ---- mentioned as a parameter of some kind
some-kind : (n : ℕ) (t : Trees) → mentions n t ≡ true → (s : Sort) × (mentions_as s n t ≡ true)
some-kind n none h = absurd cc
some-kind n (tree (param s i) c o) h = by (or-cases (n == i) (mentions n o) h) (some-kind n o)
  where
    by : ((n == i) ≡ true) ⊎ (mentions n o ≡ true) → (mentions n o ≡ true → (r : Sort) × (mentions_as r n o ≡ true)) → (r : Sort) × (mentions_as r n (tree (param s i) c o) ≡ true)
    by (inl e) f = (s, or-left (is_sort s s && (n == i)) (mentions_as s n o) (both (is_sort s s) (n == i) (sort-self s) e))
    by (inr e) f = let q = f e in (q.0, or-right (is_sort q.0 s && (n == i)) (mentions_as q.0 n o) q.1)
some-kind n (tree l c o) h = by (or-cases (mentions n c) (mentions n o) h) (some-kind n c) (some-kind n o)
  where
    by : (mentions n c ≡ true) ⊎ (mentions n o ≡ true) → (mentions n c ≡ true → (r : Sort) × (mentions_as r n c ≡ true)) → (mentions n o ≡ true → (r : Sort) × (mentions_as r n o ≡ true))
        → (r : Sort) × (mentions_as r n c || mentions_as r n o ≡ true)
    by (inl e) f g = let q = f e in (q.0, or-left (mentions_as q.0 n c) (mentions_as q.0 n o) q.1)
    by (inr e) f g = let q = g e in (q.0, or-right (mentions_as q.0 n c) (mentions_as q.0 n o) q.1)

of-some-kind : (n : ℕ) (t : Trees) → ((s : Sort) × (mentions_as s n t ≡ true)) → mentions n t ≡ true
of-some-kind n none h = absurd (not-both false h.1 refl)
of-some-kind n (tree (param r i) c o) (s, h) = by (or-cases (is_sort s r && (n == i)) (mentions_as s n o) h) (λ e. of-some-kind n o (s, e))
  where
    by : (is_sort s r && (n == i) ≡ true) ⊎ (mentions_as s n o ≡ true) → (mentions_as s n o ≡ true → mentions n o ≡ true) → (n == i) || mentions n o ≡ true
    by (inl e) f = or-left (n == i) (mentions n o) (right (is_sort s r) (n == i) e)
    by (inr e) f = or-right (n == i) (mentions n o) (f e)
of-some-kind n (tree l c o) (s, h) = by (or-cases (mentions_as s n c) (mentions_as s n o) h) (λ e. of-some-kind n c (s, e)) (λ e. of-some-kind n o (s, e))
  where
    by : (mentions_as s n c ≡ true) ⊎ (mentions_as s n o ≡ true) → (mentions_as s n c ≡ true → mentions n c ≡ true) → (mentions_as s n o ≡ true → mentions n o ≡ true) → mentions n c || mentions n o ≡ true
    by (inl e) f g = or-left (mentions n c) (mentions n o) (f e)
    by (inr e) f g = or-right (mentions n c) (mentions n o) (g e)

-- ---- the impls of a text
module _ (d : Declarations) (well : Well d) where
  module _ (x : NamedImpl) (i : In x d.impls) where
    good : is_good_impl x ≡ true
    good = member-each is_good_impl d.impls x well.impls i

    good-header : is_good all_kept (param_sorts x) x.item.header.args ≡ true
    good-header = left (is_good all_kept (param_sorts x) x.item.header.args) _ good

    counted : (x.item.params == length (param_sorts x)) ≡ true
    counted = left (x.item.params == length (param_sorts x)) _ (right (is_good all_kept (param_sorts x) x.item.header.args) _ good)

    good-rest : all_stand x.item.header.args 0 (param_sorts x) && list_all (λ (c : Reference). is_good (stands_in x.item.header.args) (param_sorts x) c.args) x.item.clauses ≡ true
    good-rest = right (x.item.params == length (param_sorts x)) _ (right (is_good all_kept (param_sorts x) x.item.header.args) _ good)

    -- what is made of the impl's parameters mentions none that the header does not mention
    header-covers : (kept : ℕ → Bool) (t : Trees) → is_good kept (param_sorts x) t ≡ true → (n : ℕ) → mentions n (erase t) ≡ true → mentions n (erase x.item.header.args) ≡ true
    header-covers kept t g n m =
        let s = some-kind n (erase t) m in
        of-some-kind n (erase x.item.header.args)
        (s.0, covered kept (param_sorts x) x.item.header.args t good-header (left (all_stand x.item.header.args 0 (param_sorts x)) _ good-rest) g s.0 n s.1)

    header-below : (n : ℕ) → mentions n (erase x.item.header.args) ≡ true → n < x.item.params
    header-below n m =
        let h = x.item.header.args in
        let s = some-kind n (erase h) m in
        let stands = mentioned-stands s.0 n (plain all_kept h) (ap (mentions_as s.0 n) (plain-erased all_kept h) ∙ s.1) in
        subst (λ k. n < k) (sym (same-number x.item.params (length (param_sorts x)) counted))
        (slice_get_within (param_sorts x) n s.0 (sorted-there s.0 n (param_sorts x) (plain all_kept h) stands.1 (good-fits all_kept (param_sorts x) h good-header)))

    impl-covered : IsCovered (erased_impl x.item)
    impl-covered = record {
      below = header-below;
      in_header = λ k j n m.
          let q = map-in erased_reference x.item.clauses k j in
          header-covers (stands_in x.item.header.args) q.0.args
          (member-each (λ (c : Reference). is_good (stands_in x.item.header.args) (param_sorts x) c.args) x.item.clauses q.0 (right (all_stand x.item.header.args 0 (param_sorts x)) _ good-rest) q.1)
          n (ap (λ (r : Reference). mentions n r.args) q.2 ∙ m);
    }

  -- an impl with the same parameters mentions none that this impl does not mention
  covered-alike : (x y : NamedImpl) → In x d.impls → In y d.impls → y.params ≡ x.params → (n : ℕ) → mentions n (erase y.item.header.args) ≡ true → mentions n (erase x.item.header.args) ≡ true
  covered-alike x y i j e n m =
      header-covers x i all_kept y.item.header.args (subst (λ ps. is_good all_kept (map (λ p. p.1) ps) y.item.header.args ≡ true) e (good-header y j)) n m

pub values-are-one : (bytes : List ℕ) (d : Declarations) → TextSays bytes (Ok d) → TextIsCoherent d → ValuesAreOne d
values-are-one bytes d says whole t n k X A B companion x a b p q =
    let given = text-gives bytes (Ok d) says in
    let well = texts-are-well bytes d given in
    let stand = companions-of-texts-stand bytes d given in
    values-agree d t companion stand.1 (impl-covered d well) (covered-alike d well) whole.one_impl X A B x a b n k p q

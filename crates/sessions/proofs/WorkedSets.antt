-- The worked set of crates of two texts.
use Rattle.std.proofs.Common.{◌≡◌, ◌⊎◌, inl, inr, ℕ, zero, suc, Bool, true, false, not, ◌&&◌, ◌||◌, ◌==◌, List, [], ◌∷◌, map, fold, length, refl, sym, ap, ◌∙◌, subst, None, arith}
use Rattle.std.specs.Prelude.{Ok, codes}
use Rattle.std.specs.List.{list_all}
use Rattle.type_terms.specs.Promised.Label.{adt}
use Rattle.type_terms.specs.Promised.Trees.{Trees, none, tree, instantiate}
use Rattle.type_terms.specs.Promised.Worlds.{World, StructDecl, TraitDecl, ImplDecl, Reference, core, view_of}
use Rattle.type_terms.specs.Promised.Rules.{strict_supertraits}
use Rattle.type_terms.specs.Promised.Supers.{opaque_reference, IsHeld}
use Rattle.type_terms.specs.Promised.Proofs.{In, Every, HasProof}
use Rattle.type_terms.specs.Promised.Core.{core_world}
use Rattle.type_terms.specs.Promised.Walks.{keeps_orphan_rule}
use Rattle.type_terms.specs.Promised.Answers.{CommonInstance}
use Rattle.type_terms.specs.Promised.LinkedSet.{IsPair}
use Rattle.type_terms.specs.Promised.Renumbering.{Renumbering, View, HoldsView}
use Rattle.type_terms.specs.Renumbering.{same_numbers, view_at}
use Rattle.type_terms.proofs.Members.{here, there, in-cases, in-nothing, same-number, self-number, not-both}
use Rattle.type_terms.proofs.Walking.{left, right, or-cases}
use Rattle.type_terms.proofs.Fitting.{not-true}
use Rattle.type_terms.proofs.NoHolds.{member-each}
use Rattle.type_terms.proofs.ViewLaws.{as-it-was}
use Rattle.type_terms.proofs.SameNumbers.{holds-view}
use Rattle.type_terms.proofs.TwoTexts.{exchanged, by-lists}
use Rattle.text_language.specs.Tokens.{tokens_of}
use Rattle.text_language.specs.Promised.Syntax.{named, no_args, no_types, WrittenLine, written_crate, written_struct, written_trait, written_impl}
use Rattle.text_language.specs.Syntax.{no_params}
use Rattle.text_language.specs.Promised.Declarations.{Declarations}
use Rattle.text_language.specs.Promised.Desugared.{desugared}
use Rattle.text_language.specs.Declarations.{nothing_declared}
use Rattle.text_language.specs.Adding.{added}
use Rattle.text_language.specs.Written.{IsSpelled}
use Rattle.text_language.specs.Promised.Written.{is_ascii, is_blank}
use Rattle.text_language.specs.Text.{TextGives, fits, LinesGive, ends, goes_on, adds, fault_written}
use Rattle.type_terms.specs.Promised.Verdicts.{IsAccepted}
use Rattle.overlap_check.proofs.Contracts.{apart-cleared}
use Rattle.sessions.specs.Promised.CoherentTexts.{text_world}
use Rattle.sessions.specs.Promised.Promises.{view_in}
use Rattle.sessions.specs.Promised.AnsweredSets.{IsAcceptedAndHeld, WasAsked, IsOfAskedCrates, IsAnsweredSet}
use Rattle.sessions.specs.WorkedSets.{text_with_aside, text_with_second, CratesOfTwoTextsAreASet}
use Rattle.sessions.proofs.KeptTexts.{texts-are-kept}
use Rattle.sessions.proofs.JoinedTexts.{text-is-ordered, of-core}
use Rattle.text_language.proofs.SameTexts.{text-says}

-- ---- the lines
abbrev crate : List ℕ → List (List ℕ) → WrittenLine
crate n us = written_crate n us

abbrev struct : List ℕ → WrittenLine
struct n = written_struct false n no_params no_types

abbrev show : WrittenLine
show = written_trait false false (codes "Show") no_params [] []

abbrev shows : List ℕ → WrittenLine
shows n = written_impl no_params (record { subject = named n no_args; bound = record { bound = record { trait = codes "Show"; args = no_args }; bindings = [] } }) []

-- the declarations with the lines for which a line stands
abbrev with-all : Declarations → WrittenLine → Declarations
with-all d w = fold added d (desugared w)

-- lines with what they say, each without a fault after the lines before it
abbrev AreFine : List (List ℕ × WrittenLine) → Declarations → Type 0
AreFine [] d = Unit {0}
AreFine (s ∷ ss) d = (is_ascii s.0 ≡ true) × (is_blank s.0 ≡ false) × IsSpelled s.0 s.1 × (fault_written d s.0 s.1 ≡ None) × AreFine ss (with-all d s.1)

abbrev bytes-of : List (List ℕ × WrittenLine) → List (List ℕ)
bytes-of [] = []
bytes-of (s ∷ ss) = s.0 ∷ bytes-of ss

abbrev after : List (List ℕ × WrittenLine) → Declarations → Declarations
after [] d = d
after (s ∷ ss) d = after ss (with-all d s.1)

lines-give : (ss : List (List ℕ × WrittenLine)) (d : Declarations) (k : ℕ) → AreFine ss d → LinesGive d k (bytes-of ss) (Ok (after ss d))
lines-give [] d k h = ends d k
lines-give (s ∷ ss) d k h = goes_on d (with-all d s.1) k s.0 (bytes-of ss) (Ok (after ss (with-all d s.1))) (adds s.1 h.0 h.1 h.2 h.3) (lines-give ss (with-all d s.1) (suc k) h.4)

abbrev lines-with-aside : List (List ℕ × WrittenLine)
lines-with-aside =
    (codes "crate aside", crate (codes "aside") []) ∷ (codes "struct C", struct (codes "C")) ∷ (codes "crate first", crate (codes "first") []) ∷ (codes "trait Show", show)
    ∷ (codes "struct A", struct (codes "A")) ∷ (codes "impl Show for A", shows (codes "A")) ∷ []

abbrev lines-with-second : List (List ℕ × WrittenLine)
lines-with-second =
    (codes "crate first", crate (codes "first") []) ∷ (codes "trait Show", show) ∷ (codes "struct A", struct (codes "A")) ∷ (codes "impl Show for A", shows (codes "A"))
    ∷ (codes "crate second uses first", crate (codes "second") (codes "first" ∷ [])) ∷ (codes "struct B", struct (codes "B")) ∷ (codes "impl Show for B", shows (codes "B")) ∷ []

abbrev with-aside : Declarations
with-aside = after lines-with-aside nothing_declared

abbrev with-second : Declarations
with-second = after lines-with-second nothing_declared

gives-aside : TextGives text_with_aside (Ok with-aside)
unfolding tokens_of
gives-aside =
    fits (Ok with-aside) (omega arith)
    (lines-give lines-with-aside nothing_declared 1
    (refl, refl, refl, refl, (refl, refl, refl, refl, (refl, refl, refl, refl, (refl, refl, refl, refl, (refl, refl, refl, refl, (refl, refl, refl, refl, tt)))))))

gives-second : TextGives text_with_second (Ok with-second)
unfolding tokens_of
gives-second =
    fits (Ok with-second) (omega arith)
    (lines-give lines-with-second nothing_declared 1
    (refl, refl, refl, refl, (refl, refl, refl, refl, (refl, refl, refl, refl, (refl, refl, refl, refl, (refl, refl, refl, refl, (refl, refl, refl, refl, (refl, refl, refl, refl, tt))))))))

-- ---- the set and the views
abbrev W : World
W = text_world with-second

abbrev numbers : Renumbering
numbers = record { crates = exchanged 1 2; structs = exchanged 2 3; traits = same_numbers; impls = same_numbers }

abbrev of-first : View
of-first = record { numbers = numbers; asker = 2; world = view_in with-aside 2 }

first-stands : HoldsView W of-first
first-stands =
    as-it-was W of-first (by-lists numbers of-first.world (view_of W 1) refl refl (λ t h. refl) (λ n. refl) (λ n. refl) (λ n. refl) refl refl)

second-stands : HoldsView W (view_at W 2)
second-stands = holds-view W 2

-- ---- checks that are tests
struct-of : Trees → ℕ
struct-of (tree (adt s) c o) = suc s
struct-of t = 0

kept : (A t : Trees) (s : ℕ) → struct-of t ≡ suc s → struct-of (instantiate zero A t) ≡ suc s
unfolding struct-of
kept A none s e = absurd (omega (arith, e))
kept A (tree (adt k) c o) s e = e
kept A (tree l c o) s e = absurd (omega (arith, e))

-- of different traits, or for different structs
apart : ImplDecl → ImplDecl → Bool
apart i j = not (i.header.trait == j.header.trait) || (not (struct-of i.header.args == 0) && (not (struct-of j.header.args == 0) && not (struct-of i.header.args == struct-of j.header.args)))

-- one's own impls keep the orphan rule, are apart from all others, and have no supertraits to hold
abbrev passes : World → ℕ → ImplDecl → Bool
passes V c i =
    not (i.home == c)
    || (keeps_orphan_rule V c i.header && (list_all (λ (j : ImplDecl). ((j.home == c) && (i.name == j.name)) || apart i j) V.impls && (length (strict_supertraits V (opaque_reference i.header)) == 0)))

first-passes : list_all (passes of-first.world 2) of-first.world.impls ≡ true
unfolding apart struct-of
first-passes = refl

second-passes : list_all (passes (view_of W 2) 2) (view_of W 2).impls ≡ true
unfolding apart struct-of
second-passes = refl

never-common : (i j : ImplDecl) → apart i j ≡ true → CommonInstance i j → ⊥
unfolding apart
never-common i j h m = by (or-cases (not (i.header.trait == j.header.trait)) _ h)
  where
    traits : (i.header.trait == j.header.trait) ≡ true
    traits = subst (λ t. (i.header.trait == t) ≡ true) (ap (λ (r : Reference). r.trait) m.equal) (self-number i.header.trait)

    positive : (n : ℕ) → not (n == 0) ≡ true → (k : ℕ) × (n ≡ suc k)
    positive zero e = cc
    positive (suc k) e = (k, refl)

    by : (not (i.header.trait == j.header.trait) ≡ true) ⊎ ((not (struct-of i.header.args == 0) && (not (struct-of j.header.args == 0) && not (struct-of i.header.args == struct-of j.header.args))) ≡ true) → ⊥
    by (inl e) = not-both (i.header.trait == j.header.trait) traits (not-true (i.header.trait == j.header.trait) e)
    by (inr e) =
        let rest = right (not (struct-of i.header.args == 0)) _ e in
        let a = positive (struct-of i.header.args) (left (not (struct-of i.header.args == 0)) _ e) in
        let b = positive (struct-of j.header.args) (left (not (struct-of j.header.args == 0)) _ rest) in
        let same : struct-of i.header.args ≡ struct-of j.header.args =
        a.1 ∙ sym (kept m.left i.header.args a.0 a.1) ∙ ap (λ (r : Reference). struct-of r.args) m.equal ∙ kept m.right j.header.args b.0 b.1 ∙ sym b.1 in
        not-both (struct-of i.header.args == struct-of j.header.args) (subst (λ n. (struct-of i.header.args == n) ≡ true) same (self-number (struct-of i.header.args)))
        (not-true (struct-of i.header.args == struct-of j.header.args) (right (not (struct-of j.header.args == 0)) _ rest))

module _ (V : World) (c : ℕ) (h : list_all (passes V c) V.impls ≡ true) where
  own-passes : (i : ImplDecl) → In i V.impls → i.home ≡ c
      → (keeps_orphan_rule V c i.header && (list_all (λ (j : ImplDecl). ((j.home == c) && (i.name == j.name)) || apart i j) V.impls && (length (strict_supertraits V (opaque_reference i.header)) == 0))) ≡ true
  own-passes i m e = by (or-cases (not (i.home == c)) _ (member-each (passes V c) V.impls i h m))
    where
      by : (not (i.home == c) ≡ true)
          ⊎ ((keeps_orphan_rule V c i.header && (list_all (λ (j : ImplDecl). ((j.home == c) && (i.name == j.name)) || apart i j) V.impls && (length (strict_supertraits V (opaque_reference i.header)) == 0))) ≡ true)
          → (keeps_orphan_rule V c i.header && (list_all (λ (j : ImplDecl). ((j.home == c) && (i.name == j.name)) || apart i j) V.impls && (length (strict_supertraits V (opaque_reference i.header)) == 0))) ≡ true
      by (inl q) = absurd (not-both (i.home == c) (subst (λ n. (i.home == n) ≡ true) e (self-number i.home)) (not-true (i.home == c) q))
      by (inr q) = q

  keeps : (i : ImplDecl) → In i V.impls → i.home ≡ c → keeps_orphan_rule V c i.header ≡ true
  keeps i m e = left (keeps_orphan_rule V c i.header) _ (own-passes i m e)

  never : (i j : ImplDecl) → IsPair V c i j → CommonInstance i j → ⊥
  never i j p = by (or-cases ((j.home == c) && (i.name == j.name)) _ (member-each (λ (k : ImplDecl). ((k.home == c) && (i.name == k.name)) || apart i k) V.impls j (left (list_all (λ (k : ImplDecl). ((k.home == c) && (i.name == k.name)) || apart i k) V.impls) _ (right (keeps_orphan_rule V c i.header) _ (own-passes i p.stands p.own))) p.partner))
    where
      by : (((j.home == c) && (i.name == j.name)) ≡ true) ⊎ (apart i j ≡ true) → CommonInstance i j → ⊥
      by (inl e) m =
          let l = p.before (same-number j.home c (left (j.home == c) _ e)) in
          let q = same-number i.name j.name (right (j.home == c) _ e) in
          omega (arith, l, q)
      by (inr e) m = never-common i j e m

  held : IsHeld V c
  held i m e = none-left (strict_supertraits V (opaque_reference i.header)) (same-number _ 0 (right (list_all (λ (k : ImplDecl). ((k.home == c) && (i.name == k.name)) || apart i k) V.impls) _ (right (keeps_orphan_rule V c i.header) _ (own-passes i m e))))
    where
      none-left : (rs : List Reference) → length rs ≡ 0 → Every (HasProof V (map opaque_reference i.clauses)) rs
      none-left [] q = tt
      none-left (r ∷ rs) q = absurd (omega (arith, q))

  accepted : IsAccepted V c
  accepted = record { keeps = keeps; cleared = λ i j p. apart-cleared V c i j (never i j p) }

-- ---- the set
abbrev views : List View
views = of-first ∷ view_at W 2 ∷ []

of-one-of-two : (P : View → Type 0) → P of-first → P (view_at W 2) → (v : View) → In v views → P v
of-one-of-two P p q v m = by (in-cases v of-first (view_at W 2 ∷ []) m)
  where
    last : (view_at W 2 ≡ v) ⊎ In v [] → P v
    last (inl e) = subst P e q
    last (inr k) = absurd (in-nothing v k)

    by : (of-first ≡ v) ⊎ In v (view_at W 2 ∷ []) → P v
    by (inl e) = subst P e p
    by (inr k) = last (in-cases v (view_at W 2) [] k)

abbrev few : ℕ → Bool
few c = (c == core) || ((c == 1) || (c == 2))

few-cases : (c : ℕ) → few c ≡ true → (c ≡ core) ⊎ WasAsked views c
few-cases c h = by (or-cases (c == core) ((c == 1) || (c == 2)) h)
  where
    last : ((c == 1) ≡ true) ⊎ ((c == 2) ≡ true) → WasAsked views c
    last (inl e) = (of-first, here of-first (view_at W 2 ∷ []), sym (same-number c 1 e))
    last (inr e) = (view_at W 2, there (view_at W 2) of-first (view_at W 2 ∷ []) (here (view_at W 2) []), sym (same-number c 2 e))

    by : ((c == core) ≡ true) ⊎ (((c == 1) || (c == 2)) ≡ true) → (c ≡ core) ⊎ WasAsked views c
    by (inl e) = inl (same-number c core e)
    by (inr e) = inr (last (or-cases (c == 1) (c == 2) e))

crates : IsOfAskedCrates W (WasAsked views)
crates = record {
  structs = λ x m. few-cases x.home (member-each (λ (y : StructDecl). few y.home) W.structs x refl m);
  traits = λ x m. few-cases x.home (member-each (λ (y : TraitDecl). few y.home) W.traits x refl m);
  impls = λ i m. by i m (few-cases i.home (member-each (λ (y : ImplDecl). few y.home) W.impls i refl m));
}
  where
    by : (i : ImplDecl) → In i W.impls → (i.home ≡ core) ⊎ WasAsked views i.home → In i core_world.impls ⊎ WasAsked views i.home
    by i m (inl e) = inl (of-core with-second (texts-are-kept text_with_second with-second gives-second) i m e)
    by i m (inr a) = inr a

set : IsAnsweredSet W views (λ n. n)
set = record {
  fits = text-is-ordered with-second (texts-are-kept text_with_second with-second gives-second);
  holds = (first-stands, (second-stands, tt));
  crates = crates;
  answered = of-one-of-two IsAcceptedAndHeld
      (record { text = with-aside; of_text = (text_with_aside, text-says text_with_aside (Ok with-aside) gives-aside); seen = refl; accepted = accepted of-first.world 2 first-passes; held = held of-first.world 2 first-passes })
      (record { text = with-second; of_text = (text_with_second, text-says text_with_second (Ok with-second) gives-second); seen = refl; accepted = accepted (view_of W 2) 2 second-passes; held = held (view_of W 2) 2 second-passes });
}

pub crates-of-two-texts : CratesOfTwoTextsAreASet
crates-of-two-texts = (with-aside, with-second, gives-aside, gives-second, numbers, refl, refl, set)

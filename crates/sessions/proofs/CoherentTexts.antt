-- A text whose crates are all accepted is coherent, where the supertraits of headers are proved.
use Rattle.std.proofs.Common.{◌≡◌, ◌<◌, ◌⊎◌, inl, inr, ℕ, zero, suc, List, [], ◌∷◌, map, length, pred, None, Some, refl, sym, ap, subst, arith, Ok}
use Rattle.std.proofs.lemmas.Option.{same_Some}
use Rattle.type_terms.specs.Promised.Label.{Sort}
use Rattle.type_terms.specs.Promised.Trees.{Trees}
use Rattle.type_terms.specs.Promised.Worlds.{World, ImplDecl, Reference, core}
use Rattle.type_terms.specs.Promised.Proofs.{In, Every, HasProof}
use Rattle.type_terms.specs.Promised.Supers.{IsHeld}
use Rattle.type_terms.specs.Promised.Renumbering.{View, HoldsView, renumbered_reference}
use Rattle.type_terms.specs.Renumbering.{as_they_are, view_at}
use Rattle.type_terms.specs.Promised.LinkedSet.{JoinedSet, LinkedSet, HeadersHaveSupertraits, IsOfAnAnsweredCrate}
use Rattle.type_terms.proofs.Members.{in-map, here}
use Rattle.type_terms.proofs.SameNumbers.{reference-same}
use Rattle.type_terms.proofs.HeldSets.{held-linked}
use Rattle.type_terms.proofs.NoHolds.{every-member}
use Rattle.type_terms.specs.Promised.Verdicts.{IsAccepted}
use Rattle.type_terms.specs.Promised.SetLaws.{HeadlineHolds}
use Rattle.type_terms.specs.Promised.Questions.{yes, no}
use Rattle.text_language.specs.Promised.Declarations.{Declarations}
use Rattle.sessions.specs.Promised.CoherentTexts.{text_world}
use Rattle.sessions.specs.Promised.Entailment.{Entails}
use Rattle.sessions.specs.Promised.Promises.{view_in}
use Rattle.sessions.specs.Promised.Together.{filled_references, SolutionOfAll, AreProved, AreRefuted}
use Rattle.sessions.specs.Promised.CoherentTexts.{CratesAreAccepted, CratesAreHeld, TextIsCoherent, HeldTextsAreCoherent}
use Rattle.sessions.specs.CoherentTexts.{AcceptedTextsAreCoherent}
use Rattle.sessions.proofs.Entailment.{yes-holds as yes-in-sets}
use Rattle.sessions.proofs.OwnValues.{solved}
use Rattle.sessions.proofs.KeptTexts.{AllKept, texts-are-kept}
use Rattle.sessions.proofs.JoinedTexts.{joined, home-below, of-core, core-or-later, map-at}
use Rattle.text_language.proofs.SameTexts.{text-gives}

references-same : (rs : List Reference) → map (renumbered_reference as_they_are) rs ≡ rs
references-same [] = refl
references-same (r ∷ rs) = both (reference-same r) (references-same rs)
  where
    both : {a b : Reference} {c d : List Reference} → a ≡ b → c ≡ d → a ∷ c ≡ b ∷ d
    both p q = cc

-- the numbers from 1 up to n
abbrev up_to : ℕ → List ℕ
up_to zero = []
up_to (suc n) = suc n ∷ up_to n

within-up : (n c : ℕ) → In c (up_to n) → (core < c) × (c < suc n)
within-up zero c (k, e) = absurd (no e)
  where
    no : None ≡ Some c → ⊥
    no q = cc
within-up (suc n) c (zero, e) = (subst (λ k. core < k) (same_Some (suc n) c e) (omega arith), subst (λ k. k < suc (suc n)) (same_Some (suc n) c e) (omega arith))
within-up (suc n) c (suc k, e) = let q = within-up n c (k, e) in (q.0, omega (arith, q.1))

up-within : (n c : ℕ) → core < c → c < suc n → In c (up_to n)
up-within zero c l h = absurd (omega (arith, l, h))
up-within (suc n) c l h = by (split n c h) (up-within n c l)
  where
    split : (m b : ℕ) → b < suc (suc m) → (suc m ≡ b) ⊎ (b < suc m)
    split zero zero g = inr (omega arith)
    split zero (suc zero) g = inl refl
    split zero (suc (suc b)) g = absurd (omega (arith, g))
    split (suc m) zero g = inr (omega arith)
    split (suc m) (suc b) g = elim (split m b (omega (arith, g))) [ inl e ↦ inl (ap suc e) | inr k ↦ inr (omega (arith, k)) ]

    by : (suc n ≡ c) ⊎ (c < suc n) → (c < suc n → In c (up_to n)) → In c (up_to (suc n))
    by (inl e) f = (zero, ap Some e)
    by (inr g) f = let q = f g in (suc q.0, q.1)

-- the crates of a text of n crates but the first
abbrev others : ℕ → List ℕ
others n = up_to (pred n)

other-crate : (n c : ℕ) → In c (others n) → (core < c) × (c < n)
other-crate zero c i = let q = within-up zero c i in absurd (omega (arith, q.0, q.1))
other-crate (suc n) c i = within-up n c i

crate-other : (n c : ℕ) → core < c → c < n → In c (others n)
crate-other zero c l h = absurd (omega (arith, h))
crate-other (suc n) c l h = up-within n c l h

module _ (d : Declarations) (a : AllKept d) (accepted : CratesAreAccepted d) where
  abbrev W : World
  W = text_world d

  abbrev cs : List ℕ
  cs = others (length d.crates)

  abbrev own : List View
  own = map (view_at W) cs

  set : (xs : List ℕ) → JoinedSet W (map (view_at W) xs) (λ n. n)
  set xs = joined d a (λ c l h. (accepted c l h).keeps) xs

  answered : (i : ImplDecl) → In i W.impls → IsOfAnAnsweredCrate own i
  answered i m = by (core-or-later i.home)
    where
      by : (i.home ≡ core) ⊎ (core < i.home) → IsOfAnAnsweredCrate own i
      by (inl e) = inl (of-core d a i m e)
      by (inr l) = inr (view_at W i.home, in-map (view_at W) cs i.home (crate-other (length d.crates) i.home l (home-below d a i m)), refl)

  of-own : (P : View → Type 0) → ((c : ℕ) → core < c → c < length d.crates → P (view_at W c)) → (v : View) → In v own → P v
  of-own P h v i =
      let q = map-at (view_at W) cs v i in
      let o = other-crate (length d.crates) q.1 (q.0, q.2) in
      subst P (sym q.3) (h q.1 o.0 o.1)

  pub held-supertraits : CratesAreHeld d → HeadersHaveSupertraits W
  held-supertraits held = (held-linked W own (λ n. n) (set cs) answered (of-own (λ v. IsHeld v.world v.asker) held)).supers_proved

  module _ (headline : HeadlineHolds) (supers : HeadersHaveSupertraits W) where
    linked : (xs : List ℕ) → LinkedSet W (map (view_at W) xs) (λ n. n)
    linked xs = record { joined = set xs; supers_proved = supers }

    -- the text holds what a crate sees of it
    holds : (c : ℕ) → HoldsView W (view_at W c)
    holds c = every-member (HoldsView W) (view_at W c ∷ []) (view_at W c) (set (c ∷ [])).as_answered (here (view_at W c) [])

    no-holds : (c : ℕ) (ks : List Sort) (rs : List Reference) → AreRefuted (view_in d c) c ks rs no → SolutionOfAll (HasProof W []) ks rs → ⊥
    no-holds c ks rs h sol = h.1 W (view_at W c ∷ []) (λ n. n) (linked (c ∷ [])) as_they_are (holds c) (subst (SolutionOfAll (HasProof W []) ks) (sym (references-same rs)) sol)

    as-named : (E xs : List Reference) → Every (λ x. Entails W (map (renumbered_reference as_they_are) E) (renumbered_reference as_they_are x)) xs → Every (Entails W E) xs
    as-named E [] h = tt
    as-named E (x ∷ xs) h =
        (subst (λ F. Entails W F x) (references-same E) (subst (Entails W (map (renumbered_reference as_they_are) E)) (reference-same x) h.0), as-named E xs h.1)

    yes-holds : (c : ℕ) (ks : List Sort) (ts : List Trees) (E rs : List Reference) → AreProved (view_in d c) ks E rs (yes ts) → Every (Entails W E) (filled_references ks ts rs)
    yes-holds c ks ts E rs h = as-named E (filled_references ks ts rs) (yes-in-sets W (view_at W c ∷ []) (λ n. n) (linked (c ∷ [])) (view_at W c) (holds c) ks ts E rs h)

    all-generic : (xs : List Reference) → Every (Entails W []) xs → Every (HasProof W []) xs
    all-generic [] h = tt
    all-generic (x ∷ xs) h = (h.0.generic, all-generic xs h.1)

    -- a solution by what a crate sees is one of the text
    solved-there : (e : ℕ) (ks : List Sort) (rs : List Reference) → SolutionOfAll (HasProof (view_in d e) []) ks rs → SolutionOfAll (HasProof W []) ks rs
    solved-there e ks rs s = record {
      values = s.values;
      fitting = s.fitting;
      closed = s.closed;
      proved = all-generic (filled_references ks s.values rs) (yes-holds e ks s.values [] rs (s.fitting, s.proved, λ _. s));
    }

    pub coherent : TextIsCoherent d
    coherent = record {
      one_impl = (headline W own (λ n. n) (linked cs) answered (of-own (λ v. IsAccepted v.world v.asker) accepted)).one_impl;
      no_holds = no-holds;
      yes_holds = yes-holds;
      no_or_yes = λ c e ks ts rs alone h y own. no-holds c ks rs h (solved-there e ks rs (solved (view_in d e) rs alone ks ts y own));
    }

pub accepted-texts-are-coherent : HeadlineHolds → AcceptedTextsAreCoherent
accepted-texts-are-coherent headline d (bytes, t) accepted supers = coherent d (texts-are-kept bytes d (text-gives bytes (Ok d) t)) accepted headline supers

pub held-texts-are-coherent : HeadlineHolds → HeldTextsAreCoherent
held-texts-are-coherent headline d (bytes, t) accepted held =
    let a = texts-are-kept bytes d (text-gives bytes (Ok d) t) in
    coherent d a accepted headline (held-supertraits d a accepted held)

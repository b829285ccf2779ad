-- What is said of a session after some calls holds as it was before them, and the pairs of all numbers are passed one by one.
use Rattle.std.proofs.Common.{◌≡◌, ℕ, ◌<◌, ◌≤◌, ◌+◌, arith, Bool, true, false, Option, Some, None, refl, sym, ◌∙◌, subst, ◌⊎◌, inl, inr, length}
use Rattle.type_terms.specs.declared.ImplId.{ImplId}
use Rattle.text_language.specs.Promised.Declarations.{Declarations}
use Rattle.type_terms.specs.Promised.Verdicts.{IsOverlap, IsAccepted, KeepsOrphanRule}
use Rattle.overlap_check.proofs.Contracts.{passed-accepted}
use Rattle.text_tables.specs.Numbered.{IsNumbered}
use Rattle.sessions.specs.Checking.{ArePassedAt, IsJudgedAt, HasJudged, HasPartner, HasOverlap}
use Rattle.sessions.specs.Promised.Promises.{view_in}
use Rattle.sessions.specs.Promised.Subjects.{Subject, StaysOn}
use Rattle.sessions.proofs.ImplNumbers.{names-below}

pub stays-on : (a b c : Subject) → StaysOn a b → StaysOn b c → StaysOn a c
stays-on a b c f g = record {
  declarations = g.declarations ∙ f.declarations;
  of_crate = g.of_crate ∙ f.of_crate;
  depth = g.depth ∙ f.depth;
  handles = g.handles ∙ f.handles;
  terms = λ i e h. g.terms i e (f.terms i e h);
}

-- what depends on what is asked about alone
before : (P : ℕ → Declarations → ℕ → Type 0) (a b : Subject) → StaysOn a b → P b.depth b.declarations b.of_crate → P a.depth a.declarations a.of_crate
before P a b f h = subst (λ n. P n a.declarations a.of_crate) f.depth (subst (λ d. P b.depth d a.of_crate) f.declarations (subst (λ c. P b.depth b.declarations c) f.of_crate h))

pub judged-before : (a b : Subject) → StaysOn a b → (k j : ℕ) (r : Bool) → HasJudged b k j r → HasJudged a k j r
judged-before a b f k j r h = before (λ n d c. IsJudgedAt n (view_in d c) c k j r) a b f h

abbrev pub Passed : Subject → ℕ → ℕ → Type 0
Passed s k j = ArePassedAt (view_in s.declarations s.of_crate) s.of_crate k j

pub overlap-found : (a b : Subject) → StaysOn a b → (k j : ℕ) (r : Bool) → r ≡ true → HasJudged b k j r → IsOverlap a.depth (view_in a.declarations a.of_crate) a.of_crate k j
overlap-found a b f k j r e h = judged-before a b f k j true (subst (HasJudged b k j) e h)

pub pair-passed : (a b : Subject) → StaysOn a b → (k j : ℕ) (r : Bool) → r ≡ false → HasJudged b k j r → Passed a k j
pair-passed a b f k j r e h = judged-before a b f k j false (subst (HasJudged b k j) e h)

pub partner-before : (a b : Subject) → StaysOn a b → (n k : ℕ) (o : Option ImplId) → HasPartner b n k o → HasPartner a n k o
partner-before a b f n k None h = before (λ m d c. (j : ℕ) → j < n → ArePassedAt (view_in d c) c k j) a b f h
partner-before a b f n k (Some j) h = before (λ m d c. IsOverlap m (view_in d c) c k j.index) a b f h

pub overlap-before : (a b : Subject) → StaysOn a b → (n : ℕ) (o : Option (ImplId × ImplId)) → HasOverlap b n o → HasOverlap a n o
overlap-before a b f n None h = before (λ m d c. (k j : ℕ) → k < n → j < n → ArePassedAt (view_in d c) c k j) a b f h
overlap-before a b f n (Some x) h = before (λ m d c. IsOverlap m (view_in d c) c x.0.index x.1.index) a b f h

pub numbered-still : (a b : Subject) → StaysOn a b → IsNumbered a.declarations → IsNumbered b.declarations
numbered-still a b f h = subst IsNumbered (sym f.declarations) h

-- ---- numbers, one by one
pub none-below : (P : ℕ → Type 0) (k : ℕ) → k < 0 → P k
none-below P k h = absurd (omega (arith, h))

pub one-more : (P : ℕ → Type 0) (n : ℕ) → ((k : ℕ) → k < n → P k) → P n → (k : ℕ) → k < n + 1 → P k
one-more P n f h k lt = by (less-or k n lt)
  where
    less-or : (k n : ℕ) → k < n + 1 → (k < n) ⊎ (k ≡ n)
    less-or k n h = grind (arith, h)

    by : (k < n) ⊎ (k ≡ n) → P k
    by (inl g) = f k g
    by (inr e) = subst P (sym e) h

pub up-to : (P : ℕ → Type 0) (n m : ℕ) → n ≤ m → ((k : ℕ) → k < m → P k) → (k : ℕ) → k < n → P k
up-to P n m le f k lt = f k (omega (arith, le, lt))

-- ---- all pairs
pub all-passed : (s : Subject) (n : ℕ) → IsNumbered s.declarations → n ≡ length s.declarations.impls → KeepsOrphanRule (view_in s.declarations s.of_crate) s.of_crate
    → ((k j : ℕ) → k < n → j < n → Passed s k j) → IsAccepted (view_in s.declarations s.of_crate) s.of_crate
all-passed s n numbered e keeps all =
    passed-accepted (view_in s.declarations s.of_crate) s.of_crate keeps
    (λ x y p. all x.name y.name (subst (λ m. x.name < m) (sym e) (names-below s.declarations s.of_crate numbered x p.stands)) (subst (λ m. y.name < m) (sym e) (names-below s.declarations s.of_crate numbered y p.partner))
    x y (record { pair = p; later = refl; earlier = refl }))

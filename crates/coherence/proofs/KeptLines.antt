-- Lines of checks and of questions, as they are kept.
use Rattle.std.proofs.Common.{◌≡◌, ℕ, zero, suc, ◌+◌, ◌<◌, ◌≤◌, ◌⊎◌, inl, inr, List, [], ◌∷◌, length, map, set, get_or, Option, Some, refl, sym, ap, ◌∙◌, subst, arith}
use Rattle.std.specs.List.{slice_get}
use Rattle.std.specs.Prelude.{IfSome}
use Rattle.std.proofs.lemmas.Bool.{cases_eq, cases_lt}
use Rattle.std.proofs.lemmas.Option.{same_Some, slice_get_within}
use Rattle.sessions.specs.TextLanguage.Promised.Declarations.{Declarations, Check, of_later, of_supers}
use Rattle.sessions.specs.TypeTerms.declared.CrateId.{CrateId}
use Rattle.sessions.specs.TextTables.Numbered.{IsNumbered, IsCheckIn}
use Rattle.sessions.specs.TextTables.Views.{check_of}
use Rattle.sessions.specs.TextTables.declared.declared.Check as code
use Rattle.sessions.specs.TextTables.declared.declared.Check.TheVariants.{Supers}
use Rattle.sessions.specs.Promised.Subjects.{Subject, StaysOn}
use Rattle.coherence.specs.Groups.{checked_crate, IsCheckedIn, IsAskedIn, ArePlacesWhere}
use Rattle.coherence.specs.KeptLines.{HasCheckLine, IsCheckLineOf, IsLineOf, IsKeptLine, KeepsEach, KeepsChecks, KeepsQuestions}
use Rattle.coherence.specs.declared.kept.KeptLine.{KeptLine}
use Rattle.coherence.proofs.Places.{check-at}
use Rattle.coherence.proofs.Sets.{set-here, set-elsewhere}

-- calls of a session, one after the other
pub stays-on : (a b c : Subject) → StaysOn a b → StaysOn b c → StaysOn a c
stays-on a b c x y = record {
  declarations = y.declarations ∙ x.declarations;
  of_crate = y.of_crate ∙ x.of_crate;
  depth = y.depth ∙ x.depth;
  handles = y.handles ∙ x.handles;
  terms = λ i e h. y.terms i e (x.terms i e h);
}

-- what holds of a session's declarations, crate and depth holds after a call
pub still : (P : Declarations → ℕ → ℕ → Type 0) (a b : Subject) → StaysOn a b → P a.declarations a.of_crate a.depth → P b.declarations b.of_crate b.depth
still P a b s h =
    subst (λ n. P b.declarations b.of_crate n) (sym s.depth)
    (subst (λ k. P b.declarations k a.depth) (sym s.of_crate) (subst (λ (d : Declarations). P d a.of_crate a.depth) (sym s.declarations) h))

-- one more line is kept
pub still-kept : (Line : ℕ → List ℕ → Type 0) (ls : List KeptLine) (p : ℕ) (l : KeptLine) → p < length ls → Line p l.text.items → (n : ℕ) → IsKeptLine Line ls n ⊎ (n ≡ p) → IsKeptLine Line (set ls p l) n
still-kept Line ls p l within is n h = by (cases_eq n p) h
  where
    here : IsKeptLine Line (set ls p l) p
    here = (l, set-here ls p l within, is)

    by : (n ≡ p) ⊎ (n ≡ p → ⊥) → IsKeptLine Line ls n ⊎ (n ≡ p) → IsKeptLine Line (set ls p l) n
    by (inl e) o = subst (IsKeptLine Line (set ls p l)) (sym e) here
    by (inr ne) (inr e) = absurd (ne e)
    by (inr ne) (inl k) = (k.0, set-elsewhere ls p l n ne ∙ k.1, k.2)

-- all lines of one more crate
pub one-crate-more : (m : ℕ) (Of : ℕ → ℕ → Type 0) (Line : ℕ → List ℕ → Type 0) (c : ℕ) (places : List ℕ) (ls : List KeptLine) → ArePlacesWhere m (Of c) places → ((b n : ℕ) → Of b n → n < m) → length ls ≡ m
    → ((b n : ℕ) → b < c → Of b n → IsKeptLine Line ls n) → ((i k : ℕ) → i < length places → slice_get places i ≡ Some k → IsKeptLine Line ls k) → KeepsEach m Of Line (c + 1) ls
one-crate-more m Of Line c places ls g there many before done = record { for_each = many; are = each }
  where
    each : (b n : ℕ) → b < c + 1 → Of b n → IsKeptLine Line ls n
    each b n h a = by (cases_lt b c)
      where
        by : (b < c) ⊎ (c ≤ b) → IsKeptLine Line ls n
        by (inl lt) = before b n lt a
        by (inr le) =
            let e : b ≡ c = omega arith in
            let at = g.all n (there b n a) (subst (λ k. Of k n) e a) in
            done at.0 n (slice_get_within places at.0 n at.1) at.1

-- checks and questions stand in the text
pub check-there : (d : Declarations) (b n : ℕ) → IsCheckedIn d b n → n < length d.checks
check-there d b n a = slice_get_within d.checks n a.0 a.1

pub question-there : (d : Declarations) (b n : ℕ) → IsAskedIn d b n → n < length d.questions
question-there d b n a = slice_get_within d.questions n a.0 a.1

pub there-is : {A : Type 0} (xs : List A) (n : ℕ) → n < length xs → (x : A) × (slice_get xs n ≡ Some x)
there-is [] n h = absurd (omega arith)
there-is (x ∷ xs) zero h = (x, refl)
there-is (x ∷ xs) (suc n) h = there-is xs n (omega arith)

-- once all crates are judged each line is known
kept-at : (m w : ℕ) (Of : ℕ → ℕ → Type 0) (Line : ℕ → List ℕ → Type 0) (ls : List KeptLine) → KeepsEach m Of Line w ls → (b n : ℕ) (l : KeptLine) → b < w → Of b n → slice_get ls n ≡ Some l → Line n l.text.items
kept-at m w Of Line ls kept b n l h a e =
    let k = kept.are b n h a in
    let same : k.0 ≡ l = same_Some k.0 l (sym k.1 ∙ e) in
    subst (λ (x : KeptLine). Line n x.text.items) same k.2

pub kept-line : (limit : ℕ) (d : Declarations) (ls : List KeptLine) → IsNumbered d → KeepsQuestions limit d (length d.crates) ls → (n : ℕ) (l : KeptLine) → slice_get ls n ≡ Some l → IsLineOf limit d n l.text.items
kept-line limit d ls num kept n l e =
    let within : n < length ls = slice_get_within ls n l e in
    let q = there-is d.questions n (omega (arith, kept.for_each)) in
    kept-at (length d.questions) (length d.crates) (IsAskedIn d) (IsLineOf limit d) ls kept q.0.asker n l (num.questions n q.0 q.1) (q.0, q.1, refl) e

-- the crate of a check is there
pub checked-there : (d : Declarations) (x : Check) → IsNumbered d → IsCheckIn d x → checked_crate x < length d.crates
checked-there d (of_later k c) num h = num.sections k c h
checked-there d (of_supers c) num h = h

pub kept-check : (limit : ℕ) (d : Declarations) (ls : List KeptLine) → IsNumbered d → KeepsChecks limit d (length d.crates) ls → (n : ℕ) (l : KeptLine) → slice_get ls n ≡ Some l → IsCheckLineOf limit d n l.text.items
kept-check limit d ls num kept n l e =
    let within : n < length ls = slice_get_within ls n l e in
    let q = there-is d.checks n (omega (arith, kept.for_each)) in
    kept-at (length d.checks) (length d.crates) (IsCheckedIn d) (IsCheckLineOf limit d) ls kept (checked_crate q.0) n l (checked-there d q.0 num (num.checks n q.0 q.1)) (q.0, q.1, refl) e

-- ---- the line of `supers`, which all such checks of a crate share
-- a check of crate c that is a `supers` check
pub supers-there : (d : Declarations) (xs : List code.Check) (c p : ℕ) (f : CrateId) → IsCheckedIn d c p → map check_of xs ≡ d.checks → (o : code.Check) → get_or xs p o ≡ Supers f → slice_get d.checks p ≡ Some (of_supers c)
supers-there d xs c p f k e o h =
    let at = check-at d xs e p (slice_get_within d.checks p k.0 k.1) o (Supers f) h in
    let is : f.index ≡ c = ap checked_crate (sym (same_Some k.0 (of_supers f.index) (sym k.1 ∙ at))) ∙ k.2 in
    at ∙ ap (λ n. Some (of_supers n)) is

-- its line is that of the crate
pub supers-of-line : (limit : ℕ) (d : Declarations) (c p : ℕ) (text : List ℕ) → IsCheckLineOf limit d p text → slice_get d.checks p ≡ Some (of_supers c) → HasCheckLine limit d (of_supers c) text
supers-of-line limit d c p text h at = subst (λ (x : Check). HasCheckLine limit d x text) (same_Some h.0 (of_supers c) (sym h.1 ∙ at)) h.2

-- what was stored is taken
pub taken-line : (P : KeptLine → Type 0) (o r : Option KeptLine) (l : KeptLine) → r ≡ o → r ≡ Some l → IfSome o P → P l
taken-line P o r l e f h = subst (λ (x : Option KeptLine). IfSome x P) (sym e ∙ f) h

-- How folds fail.
use Rattle.std.proofs.Common.{◌≡◌, ℕ, ◌≤◌, List, refl, ap, sym, ◌∙◌, inl, inr}
use Rattle.std.specs.Prelude.{◌⊎◌, Result, Ok, Err, IfErr, IsErrAnd}
use Rattle.type_terms.specs.Promised.Handles.{Entry, held, bounds_lists}
use Rattle.type_terms.specs.declared.Fault.{Fault}
use Rattle.type_terms.specs.declared.Fault.TheVariants.{Full, Memory}
use Rattle.type_terms.specs.Promised.Handles.{SomeKindIsFull, full}
use Rattle.type_terms.specs.Failures.{FailsBy, by_itself, by_fault}

-- the error behind a `?` that is made of a fault
pub fault-error : {T E : Type 0} (own : E → Type 0) (made : Fault → E → Type 0) {es : List Entry} {limit : ℕ} {x : Fault} (r : Result T E)
    → IsErrAnd r (made x) → (x ≡ Full → SomeKindIsFull es limit) → IfErr r (FailsBy own made es limit)
fault-error own made (Ok y) h p = absurd h
fault-error own made {x = x} (Err y) h p = by_fault x h p

pub memory-error : {T E : Type 0} (own : E → Type 0) (made : Fault → E → Type 0) (es : List Entry) (limit : ℕ) {x : Fault} (r : Result T E)
    → IsErrAnd r (made x) → x ≡ Memory → IfErr r (FailsBy own made es limit)
memory-error own made es limit {x = x} r h e = fault-error own made {es = es} {limit = limit} {x = x} r h (λ q. cc)

-- where an interner has refused a term of this kind
pub refused-term : (kind : ℕ) {old new : List Entry} {limit before : ℕ} → kind ≤ bounds_lists → held kind old ≡ before → limit ≡ before → new ≡ old → SomeKindIsFull new limit
refused-term kind le h l e = full kind le (ap (held kind) e ∙ h ∙ sym l)

-- what a folder that fails by faults alone answers
pub full-of : {T : Type 0} {R : Type 0} {es : List Entry} {limit : ℕ} (r : Result T Fault)
    → IfErr r (FailsBy (λ e. (e ≡ Full) × R) (λ x e. e ≡ x) es limit) → r ≡ Err Full → SomeKindIsFull es limit ⊎ R
full-of (Ok x) h q = cc
full-of {R = R} {es = es} {limit = limit} (Err e) h q = by h
  where
    by : FailsBy (λ e. (e ≡ Full) × R) (λ x e. e ≡ x) es limit e → SomeKindIsFull es limit ⊎ R
    by (by_itself p) = inr p.1
    by (by_fault x m f) = inl (f cc)

pub failed-by : {T : Type 0} {R : Type 0} {es : List Entry} {limit : ℕ} (r : Result T Fault)
    → (r ≡ Err Full → SomeKindIsFull es limit ⊎ R) → IfErr r (FailsBy (λ e. (e ≡ Full) × R) (λ x e. e ≡ x) es limit)
failed-by (Ok x) h = tt
failed-by {R = R} {es = es} {limit = limit} (Err Memory) h = by_fault Memory refl (λ q. cc)
failed-by {R = R} {es = es} {limit = limit} (Err Full) h = by (h refl)
  where
    by : SomeKindIsFull es limit ⊎ R → FailsBy (λ e. (e ≡ Full) × R) (λ x e. e ≡ x) es limit Full
    by (inl f) = by_fault Full refl (λ _. f)
    by (inr p) = by_itself (refl, p)

-- what a folder that asks the interner or folds a value itself answers
pub faulted : {T : Type 0} {A : Type 0} (B : Type 0) (r : Result T Fault) {x : Fault} → IsErrAnd r (λ y. y ≡ x) → (x ≡ Full → A) → r ≡ Err Full → A ⊎ B
faulted B (Ok y) h f q = absurd h
faulted B (Err y) h f q = inl (f cc)

-- a folder with no reason of its own
pub only-tables : {A : Type 0} → A ⊎ ⊥ → A
only-tables (inl a) = a
only-tables (inr b) = absurd b

-- ---- errors behind a `?`, where the interner is at its limit
pub at-limit : {T A : Type 0} (r : Result T Fault) {x : Fault} → IsErrAnd r (λ y. y ≡ x) → (x ≡ Full → A) → IfErr r (λ e. e ≡ Full → A)
at-limit (Ok y) h f = tt
at-limit (Err y) h f = λ q. f (sym h ∙ q)

-- a fold by a folder with no reason of its own
pub fold-at-limit : {T A : Type 0} (r : Result T Fault) → (r ≡ Err Full → A ⊎ ⊥) → IfErr r (λ e. e ≡ Full → A)
fold-at-limit (Ok y) f = tt
fold-at-limit (Err y) f = λ q. only-tables (f (ap Err q))

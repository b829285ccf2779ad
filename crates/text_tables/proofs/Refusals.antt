-- How lowering ends without a term.
use Rattle.std.proofs.Common.{◌≡◌, ℕ, ◌≤◌, List, ap, sym, ◌∙◌}
use Rattle.std.specs.Prelude.{Result, IfErr, IsErrAnd}
use Rattle.type_terms.specs.Promised.Handles.{Entry, held, bounds_lists}
use Rattle.type_terms.specs.declared.Fault.{Fault}
use Rattle.type_terms.specs.declared.Fault.TheVariants.{Full}
use Rattle.type_terms.specs.Promised.Handles.{SomeKindIsFull, full}
use Rattle.type_terms.proofs.FailFacts.{at-limit}

-- the interner refuses a term of this kind, and a `?` hands that on
pub refused-term : (kind : ℕ) {T : Type 0} {old new : List Entry} {limit before : ℕ} (r : Result T Fault) {x : Fault} → kind ≤ bounds_lists
    → IsErrAnd r (λ y. y ≡ x) → (x ≡ Full → held kind old ≡ before) → limit ≡ before → new ≡ old → IfErr r (λ e. e ≡ Full → SomeKindIsFull new limit)
refused-term kind r le h f l e = at-limit r h (λ q. full kind le (ap (held kind) e ∙ f q ∙ sym l))

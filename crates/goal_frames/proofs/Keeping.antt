-- A store after a value is stored.
use Rattle.std.proofs.Common.{◌≡◌, ◌∙◌, ℕ, List, [], ◌∷◌, ◌++◌, ap, sym, subst, inl, inr, ◌⊎◌, Result, Ok, Err, Some, true, false}
use Rattle.std.specs.Prelude.{IsErrAnd}
use Rattle.std.specs.List.{slice_get, list_any, IsDistinct}
use Rattle.indexmap.specs.IndexSet.{insert_key}
use Rattle.type_terms.specs.Promised.Handles.{Entry}
use Rattle.type_terms.specs.Terms.{Lawful}
use Rattle.type_terms.specs.declared.Fault.{Fault}
use Rattle.infer_table.specs.declared.input.CanonicalInput.{CanonicalInput}
use Rattle.infer_table.specs.declared.response.CanonicalResponse.{CanonicalResponse}
use Rattle.infer_table.specs.contracts.input.CanonicalInputPartialEq.TheImpl.{ghosts as input}
use Rattle.infer_table.specs.contracts.response.CanonicalResponsePartialEq.TheImpl.{ghosts as response}
use Rattle.infer_table.specs.Goals.{GoalHeld}
use Rattle.infer_table.specs.Inputs.{AreEqual}
use Rattle.infer_table.proofs.Questions.{input-eq}
use Rattle.infer_table.specs.Responses.{ResponseHeld, answer_trees, SayTheSame}
use Rattle.goal_frames.specs.declared.store.GoalStore.{GoalStore}
use Rattle.goal_frames.specs.declared.store.InputId.{InputId}
use Rattle.goal_frames.specs.declared.store.ResponseId.{ResponseId}
use Rattle.goal_frames.specs.Stores.{kept_inputs, kept_responses, input_at, response_at, asked_goal, goal_at, answer_at, StoreIsHeld, StandsForInput, StandsForResponse, IsNewInput, IsNewResponse}
use Rattle.goal_frames.proofs.Places.{stands, stands-nowhere, not-found, found-again, inserted-adds, inserted-keeps, inserted-is}
use Rattle.goal_frames.proofs.Answers.{response-eq, response-back, answers-are}
use Rattle.goal_frames.proofs.Numbers.{input-back, input-chain, response-chain, goals-are, some-of}

-- ---- a fault that is handed on
pub handed-on : {T A : Type 0} (y : Fault) (r : Result T Fault) {x : Fault} → IsErrAnd r (λ z. z ≡ x) → (x ≡ y → A) → r ≡ Err y → A
handed-on y (Ok v) h f q = absurd h
handed-on y (Err z) h f q = f cc

pub handed-error : {T U : Type 0} (y : Fault) (r : Result T Fault) {x : Fault} → IsErrAnd r (λ z. z ≡ x) → ◌≡◌ {A = Result U Fault} (Err x) (Err y) → r ≡ Err y
handed-error y (Ok v) h e = absurd h
handed-error y (Err z) h e = cc

pub ok-not-err : {T E : Type 0} (x : T) (y : E) → ◌≡◌ {A = Result T E} (Ok x) (Err y) → ⊥
ok-not-err x y e = cc

-- ---- inputs
pub stands-input : (keys : List CanonicalInput) (place : ℕ) (a : CanonicalInput) → (k : CanonicalInput) × (slice_get keys place ≡ Some k) × (input.eq a k ≡ true) → (k : CanonicalInput) × (slice_get keys place ≡ Some k) × AreEqual a k
stands-input keys place a p = stands input.eq AreEqual input-eq input-back keys place a p

pub new-input : (s : GoalStore) (a : CanonicalInput) → list_any (input.eq a) (kept_inputs s) ≡ false → IsNewInput s a
new-input s a none i at = stands-nowhere input.eq AreEqual input-eq input-back (kept_inputs s) a none i.0 at

pub no-input : (s : GoalStore) (a : CanonicalInput) → IsNewInput s a → list_any (input.eq a) (kept_inputs s) ≡ false
no-input s a new = not-found input.eq AreEqual input-eq input-back (kept_inputs s) a (λ i at. new (record { 0 = i }) at)

abbrev ok-input-id : ℕ → Result InputId Fault
ok-input-id n = Ok (record { 0 = n })

pub same-input : (s : GoalStore) (new : List CanonicalInput) (a : CanonicalInput) (place : ℕ) → IsDistinct input.eq new → new ≡ insert_key input.eq (kept_inputs s) a → (k : CanonicalInput) × (slice_get new place ≡ Some k) × (input.eq a k ≡ true)
    → (i : InputId) → StandsForInput s i a → ◌≡◌ {A = Result InputId Fault} (Ok (record { 0 = place })) (Ok i)
same-input s new a place d e p i at = ap ok-input-id (found-again input.eq AreEqual input-eq input-back input-chain (kept_inputs s) new a place d e (stands-input new place a p) i.0 at)

pub added-input : (s : GoalStore) (new : List CanonicalInput) (a : CanonicalInput) → new ≡ insert_key input.eq (kept_inputs s) a → (new ≡ kept_inputs s) ⊎ (IsNewInput s a × (new ≡ kept_inputs s ++ a ∷ []))
added-input s new a e = by (inserted-adds input.eq (kept_inputs s) a)
  where
    by : (insert_key input.eq (kept_inputs s) a ≡ kept_inputs s) ⊎ ((list_any (input.eq a) (kept_inputs s) ≡ false) × (insert_key input.eq (kept_inputs s) a ≡ kept_inputs s ++ a ∷ [])) → (new ≡ kept_inputs s) ⊎ (IsNewInput s a × (new ≡ kept_inputs s ++ a ∷ []))
    by (inl same) = inl (e ∙ same)
    by (inr more) = inr (new-input s a more.0, e ∙ more.1)

pub input-stays : (old new : List CanonicalInput) (a : CanonicalInput) → new ≡ insert_key input.eq old a → (i : ℕ) (k : CanonicalInput) → slice_get old i ≡ Some k → slice_get new i ≡ Some k
input-stays old new a e i k at = subst (λ ks. slice_get ks i ≡ Some k) (sym e) (inserted-keeps input.eq old a i k at)

pub input-is : (P : CanonicalInput → Type 0) (old new : List CanonicalInput) (a : CanonicalInput) → new ≡ insert_key input.eq old a → P a → (i : ℕ) (k : CanonicalInput) → (slice_get old i ≡ Some k → P k) → slice_get new i ≡ Some k → P k
input-is P old new a e p i k had at = by (inserted-is input.eq old a i k (subst (λ ks. slice_get ks i ≡ Some k) e at))
  where
    by : (slice_get old i ≡ Some k) ⊎ (a ≡ k) → P k
    by (inl before) = had before
    by (inr same) = subst P same p

-- a number that stands for the same goal by its trees stands for the goal
pub asks-the-same : (es : List Entry) → Lawful es → (s : GoalStore) → StoreIsHeld es s → (i : InputId) (a : CanonicalInput) → GoalHeld es a.goal → goal_at es s i ≡ Some (asked_goal es a) → StandsForInput s i a
asks-the-same es law s held i a h q =
    let k = some-of (asked_goal es) (input_at s i) (asked_goal es a) q in
    (k.0, k.1, goals-are es law a k.0 h (held.inputs i k.0 k.1) (sym k.2))

-- ---- responses
pub stands-response : (keys : List CanonicalResponse) (place : ℕ) (a : CanonicalResponse) → (k : CanonicalResponse) × (slice_get keys place ≡ Some k) × (response.eq a k ≡ true) → (k : CanonicalResponse) × (slice_get keys place ≡ Some k) × SayTheSame a k
stands-response keys place a p = stands response.eq SayTheSame response-eq response-back keys place a p

pub new-response : (s : GoalStore) (a : CanonicalResponse) → list_any (response.eq a) (kept_responses s) ≡ false → IsNewResponse s a
new-response s a none i at = stands-nowhere response.eq SayTheSame response-eq response-back (kept_responses s) a none i.0 at

pub no-response : (s : GoalStore) (a : CanonicalResponse) → IsNewResponse s a → list_any (response.eq a) (kept_responses s) ≡ false
no-response s a new = not-found response.eq SayTheSame response-eq response-back (kept_responses s) a (λ i at. new (record { 0 = i }) at)

abbrev ok-response-id : ℕ → Result ResponseId Fault
ok-response-id n = Ok (record { 0 = n })

pub same-response : (s : GoalStore) (new : List CanonicalResponse) (a : CanonicalResponse) (place : ℕ) → IsDistinct response.eq new → new ≡ insert_key response.eq (kept_responses s) a → (k : CanonicalResponse) × (slice_get new place ≡ Some k) × (response.eq a k ≡ true)
    → (i : ResponseId) → StandsForResponse s i a → ◌≡◌ {A = Result ResponseId Fault} (Ok (record { 0 = place })) (Ok i)
same-response s new a place d e p i at = ap ok-response-id (found-again response.eq SayTheSame response-eq response-back response-chain (kept_responses s) new a place d e (stands-response new place a p) i.0 at)

pub added-response : (s : GoalStore) (new : List CanonicalResponse) (a : CanonicalResponse) → new ≡ insert_key response.eq (kept_responses s) a → (new ≡ kept_responses s) ⊎ (IsNewResponse s a × (new ≡ kept_responses s ++ a ∷ []))
added-response s new a e = by (inserted-adds response.eq (kept_responses s) a)
  where
    by : (insert_key response.eq (kept_responses s) a ≡ kept_responses s) ⊎ ((list_any (response.eq a) (kept_responses s) ≡ false) × (insert_key response.eq (kept_responses s) a ≡ kept_responses s ++ a ∷ [])) → (new ≡ kept_responses s) ⊎ (IsNewResponse s a × (new ≡ kept_responses s ++ a ∷ []))
    by (inl same) = inl (e ∙ same)
    by (inr more) = inr (new-response s a more.0, e ∙ more.1)

pub response-stays : (old new : List CanonicalResponse) (a : CanonicalResponse) → new ≡ insert_key response.eq old a → (i : ℕ) (k : CanonicalResponse) → slice_get old i ≡ Some k → slice_get new i ≡ Some k
response-stays old new a e i k at = subst (λ ks. slice_get ks i ≡ Some k) (sym e) (inserted-keeps response.eq old a i k at)

pub response-is : (P : CanonicalResponse → Type 0) (old new : List CanonicalResponse) (a : CanonicalResponse) → new ≡ insert_key response.eq old a → P a → (i : ℕ) (k : CanonicalResponse) → (slice_get old i ≡ Some k → P k) → slice_get new i ≡ Some k → P k
response-is P old new a e p i k had at = by (inserted-is response.eq old a i k (subst (λ ks. slice_get ks i ≡ Some k) e at))
  where
    by : (slice_get old i ≡ Some k) ⊎ (a ≡ k) → P k
    by (inl before) = had before
    by (inr same) = subst P same p

-- a number that stands for the same answer trees stands for the answer
pub says-the-same : (es : List Entry) → Lawful es → (s : GoalStore) → StoreIsHeld es s → (i : ResponseId) (a : CanonicalResponse) → ResponseHeld es a → answer_at es s i ≡ Some (answer_trees es a) → StandsForResponse s i a
says-the-same es law s held i a h q =
    let k = some-of (answer_trees es) (response_at s i) (answer_trees es a) q in
    (k.0, k.1, answers-are es law a k.0 h (held.responses i k.0 k.1) (sym k.2))

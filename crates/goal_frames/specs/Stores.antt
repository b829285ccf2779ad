-- The content of a store, and what its numbers represent.
use Rattle.std.specs.Prelude.{◌≡◌, ◌↔◌, ◌⊎◌, ◌++◌, ◌∷◌, [], ℕ, List, Option, Some, option_map, Result, Ok}
use Rattle.std.specs.List.{slice_get}
use Rattle.indexmap.specs.IndexSet.{spare}
use Rattle.type_terms.specs.Promised.Handles.{Entry}
use Rattle.type_terms.specs.Terms.{Lawful}
use Rattle.type_terms.specs.declared.Fault.{Fault}
use Rattle.infer_table.specs.Canonical.{GoalTrees, CanonicalForm, canonical_form, AreRenamings}
use Rattle.infer_table.specs.declared.certainty.TypingMode.{TypingMode}
use Rattle.infer_table.specs.declared.input.CanonicalInput.{CanonicalInput}
use Rattle.infer_table.specs.declared.response.CanonicalResponse.{CanonicalResponse}
use Rattle.infer_table.specs.Goals.{GoalHeld}
use Rattle.infer_table.specs.Inputs.{AreEqual, form_of, IsCanonicalInput, IsWithoutCanonical, IsOneQuestion}
use Rattle.infer_table.specs.Responses.{AnswerTrees, ResponseHeld, answer_trees, SayTheSame}
use Rattle.goal_frames.specs.declared.store.GoalStore.{GoalStore}
use Rattle.goal_frames.specs.declared.store.InputId.{InputId}
use Rattle.goal_frames.specs.declared.store.ResponseId.{ResponseId}

-- ---- the content, by increasing number
abbrev pub kept_inputs : GoalStore → List CanonicalInput
kept_inputs s = s.inputs.keys

abbrev pub kept_responses : GoalStore → List CanonicalResponse
kept_responses s = s.responses.keys

-- the greatest number of goals, and of responses
abbrev pub limit_of : GoalStore → ℕ
limit_of s = s.limit

-- how many more fit without an allocation
abbrev pub room_for_inputs : GoalStore → ℕ
room_for_inputs s = spare s.inputs

abbrev pub room_for_responses : GoalStore → ℕ
room_for_responses s = spare s.responses

-- ---- what a number represents
abbrev pub input_at : GoalStore → InputId → Option CanonicalInput
input_at s i = slice_get (kept_inputs s) i.0

abbrev pub response_at : GoalStore → ResponseId → Option CanonicalResponse
response_at s i = slice_get (kept_responses s) i.0

-- the number is one of the store's
abbrev pub HasInput : GoalStore → InputId → Type 0
HasInput s i = (a : CanonicalInput) × (input_at s i ≡ Some a)

abbrev pub HasResponse : GoalStore → ResponseId → Type 0
HasResponse s i = (r : CanonicalResponse) × (response_at s i ≡ Some r)

-- it represents an equal value
abbrev pub StandsForInput : GoalStore → InputId → CanonicalInput → Type 0
StandsForInput s i a = (kept : CanonicalInput) × (input_at s i ≡ Some kept) × AreEqual a kept

abbrev pub StandsForResponse : GoalStore → ResponseId → CanonicalResponse → Type 0
StandsForResponse s i r = (kept : CanonicalResponse) × (response_at s i ≡ Some kept) × SayTheSame r kept

-- no number represents it
abbrev pub IsNewInput : GoalStore → CanonicalInput → Type 0
IsNewInput s a = (i : InputId) → StandsForInput s i a → ⊥

abbrev pub IsNewResponse : GoalStore → CanonicalResponse → Type 0
IsNewResponse s r = (i : ResponseId) → StandsForResponse s i r → ⊥

-- ---- the same over an interner's terms
-- a goal with its typing mode
pub record AskedGoal : Type 0 where
  pub mode : TypingMode
  pub form : CanonicalForm

abbrev pub asked_goal : List Entry → CanonicalInput → AskedGoal
asked_goal es a = record { mode = a.mode; form = form_of es a }

abbrev pub goal_at : List Entry → GoalStore → InputId → Option AskedGoal
goal_at es s i = option_map (asked_goal es) (input_at s i)

abbrev pub answer_at : List Entry → GoalStore → ResponseId → Option AnswerTrees
answer_at es s i = option_map (answer_trees es) (response_at s i)

-- the handles of all that is stored are of this interner
pub record StoreIsHeld (es : List Entry) (s : GoalStore) : Type 0 where
  pub inputs : (i : InputId) (a : CanonicalInput) → input_at s i ≡ Some a → GoalHeld es a.goal
  pub responses : (i : ResponseId) (r : CanonicalResponse) → response_at s i ≡ Some r → ResponseHeld es r

-- ---- numbers distinguish goals up to renaming
-- the number represents the canonical form of this goal in this typing mode
abbrev pub StandsForGoal : List Entry → GoalStore → InputId → TypingMode → GoalTrees → Type 0
StandsForGoal es s i m g = goal_at es s i ≡ Some (record { mode = m; form = canonical_form g })

-- two numbers are equal exactly if their goals have the same typing mode and a renaming maps one to the other
abbrev pub NumbersTellQuestions : Type 0
NumbersTellQuestions =
    (es : List Entry) (s : GoalStore) (i j : InputId) (m n : TypingMode) (g h : GoalTrees) → Lawful es → StoreIsHeld es s → IsWithoutCanonical g → IsWithoutCanonical h
    → StandsForGoal es s i m g → StandsForGoal es s j n h → (i ≡ j) ↔ IsOneQuestion m g n h

-- a renamed goal has the same number
abbrev pub FindsRenamed : GoalStore → CanonicalInput → Result InputId Fault → Type 0
FindsRenamed s a r =
    (es : List Entry) (i : InputId) (g h : GoalTrees) → Lawful es → StoreIsHeld es s → IsCanonicalInput es h a → StandsForGoal es s i a.mode g → AreRenamings g h → r ≡ Ok i

-- ---- changes of a store
-- each number of the first represents the same in the second
pub record StoreGrows (old new : GoalStore) : Type 0 where
  pub inputs : (i : InputId) (a : CanonicalInput) → input_at old i ≡ Some a → input_at new i ≡ Some a
  pub responses : (i : ResponseId) (r : CanonicalResponse) → response_at old i ≡ Some r → response_at new i ≡ Some r

-- the goals of the second are those of the first, then this one if it is new
abbrev pub AddsInput : GoalStore → CanonicalInput → GoalStore → Type 0
AddsInput old a new = (kept_inputs new ≡ kept_inputs old) ⊎ (IsNewInput old a × (kept_inputs new ≡ kept_inputs old ++ a ∷ []))

abbrev pub AddsResponse : GoalStore → CanonicalResponse → GoalStore → Type 0
AddsResponse old r new = (kept_responses new ≡ kept_responses old) ⊎ (IsNewResponse old r × (kept_responses new ≡ kept_responses old ++ r ∷ []))

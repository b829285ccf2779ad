-- Inference on the text of a slot.
use Rattle.std.specs.Prelude.{◌≡◌, ℕ, List, Option, Some, None}
use Rattle.coherence.specs.Asking.{AskedText}
use Rattle.coherence.specs.Inferring.{HasBegun}
use Rattle.coherence.specs.TextLanguage.Output.{type_text}
use Rattle.session_inference.specs.Inferences.{Inference, term_numbered}
use Rattle.session_inference.specs.LeftInferences.{inference_after}
use Rattle.session_inference.specs.TermTexts.{inference_names}
use Rattle.session_inference.specs.declared.left_inference.LeftInference.{LeftInference}
use Rattle.session_inference.specs.Operations.{StaysAsItWas}
use Rattle.celtisdarts_c.specs.Calls.{IsRefusedCall, LacksAnything, Performs}
use Rattle.celtisdarts_c.specs.Slots.{SlotState}
use Rattle.celtisdarts_c.specs.declared.call.Call.{Call}

-- The inference session that goes on with what a slot has, if inference was begun on its text.
abbrev pub inference_on : Option AskedText → Option LeftInference → Option Inference
inference_on (Some a) (Some l) = Some (inference_after a.declarations l)
inference_on (Some a) None = None
inference_on None l = None

abbrev pub inference_in : SlotState → Option Inference
inference_in s = inference_on s.asker s.left

-- Inference was begun in the crate of this number, and was asked nothing.
abbrev pub HasBegunIn : SlotState → ℕ → SlotState → Type 0
HasBegunIn s c t = (a : AskedText) × (s.asker ≡ Some a) × (l : LeftInference) × (t.left ≡ Some l) × HasBegun a.depth a.declarations c l

-- The call was made, and gives this number.
abbrev pub HasInferred : SlotState → Call → SlotState → ℕ → Type 0
HasInferred s c t n = (v w : Inference) × (inference_in s ≡ Some v) × (inference_in t ≡ Some w) × Performs c v w n

-- The equation that the call asks for has no solution.
abbrev pub HasNoSolutionIn : SlotState → Call → Type 0
HasNoSolutionIn s c = (v : Inference) × (inference_in s ≡ Some v) × IsRefusedCall c v

-- The call lacks a term or an obligation.
abbrev pub LacksAnythingIn : SlotState → Call → Type 0
LacksAnythingIn s c = (v : Inference) × (inference_in s ≡ Some v) × LacksAnything c v

-- Inference stays as it was.
abbrev pub StaysAsItWasIn : SlotState → SlotState → Type 0
StaysAsItWasIn s t = (v : Inference) → inference_in s ≡ Some v → (w : Inference) × (inference_in t ≡ Some w) × StaysAsItWas v w

-- The text of the term of this number.
abbrev pub IsTermText : SlotState → ℕ → List ℕ → Type 0
IsTermText s n text =
    (v : Inference) × (inference_in s ≡ Some v) × (text ≡ type_text (inference_names v.subject.declarations) (term_numbered v (record { index = n })))

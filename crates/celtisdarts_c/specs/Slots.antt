-- The state of a slot.
use Rattle.std.specs.Prelude.{Option, Some, None, refl}
use Rattle.std.specs.Coded.{Coded, code_by, coded×, coded_option}
use Rattle.coherence.specs.Asking.{AskedText, asked_text_code}
use Rattle.session_inference.specs.LeftInferences.{IsLeftInference}
use Rattle.session_inference.specs.contracts.left_inference.LeftInference as lefts
use Rattle.session_inference.specs.declared.left_inference.LeftInference.{LeftInference}

-- The text, if one was read, and what the last call of its inference left, if that was begun.
pub record SlotState : Type 0 where
  pub asker : Option AskedText
  pub left : Option LeftInference

abbrev pub slot_code : Coded SlotState
slot_code =
    code_by (Option AskedText × Option LeftInference)
    (coded× (coded_option asked_text_code) (coded_option lefts.the_row.coded))
    (λ s. (s.asker, s.left))
    (λ (a, l). record { asker = a; left = l })
    (λ _. refl)

-- The inference is one on the text.
abbrev pub IsInferenceOf : Option AskedText → Option LeftInference → Type 0
IsInferenceOf a None = Unit {0}
IsInferenceOf (Some a) (Some l) = IsLeftInference a.declarations l
IsInferenceOf None (Some l) = ⊥

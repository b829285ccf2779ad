-- The text of a handle, if one was read, and the answers to its queries.
use Rattle.std.specs.Prelude.{◌≡◌, ◌≤◌, ℕ, List, length, Some, Ok, slice_get}
use Rattle.std.specs.Option.{option_map}
use Rattle.coherence.specs.TextNames.FaultNumbers.{fault_number}
use Rattle.coherence.specs.TextLanguage.Text.{TextGives}
use Rattle.coherence.specs.TextParser.Behind.{FitsBehind, behind}
use Rattle.coherence.specs.Asking.{AskedText, IsAskFault, IsLastLine}
use Rattle.coherence.specs.LineByLine.{IsVerdictLine}
use Rattle.coherence.specs.declared.ask_fault.AskFault.{AskFault}
use Rattle.coherence.specs.declared.ask_fault.AskFault.TheVariants as faults
use Rattle.celtisdarts_c.specs.Slots.{SlotState}

-- a text was read, and P holds of it
abbrev pub IfAsked : SlotState → (AskedText → Type 0) → Type 0
IfAsked slot P = (a : AskedText) × (slot.asker ≡ Some a) × P a

-- this text was read, to be queried at this depth
abbrev pub HasRead : ℕ → List ℕ → SlotState → Type 0
HasRead depth text slot = IfAsked slot (λ a. TextGives text (Ok a.declarations) × (a.text_length ≡ length text) × (a.depth ≡ depth))

-- the name of the crate of this number; `core` has number 0
abbrev pub IsCrateName : SlotState → ℕ → List ℕ → Type 0
IsCrateName slot number name = IfAsked slot (λ a. option_map (λ c. c.text) (slice_get a.declarations.crates number) ≡ Some name)

-- the verdict of the crate of this number, as a line
abbrev pub IsCrateLine : SlotState → ℕ → List ℕ → Type 0
IsCrateLine slot number line = IfAsked slot (λ a. IsVerdictLine a.depth a.declarations number line)

-- the text has no crate of this number
abbrev pub HasNoCrate : SlotState → ℕ → Type 0
HasNoCrate slot number = IfAsked slot (λ a. length a.declarations.crates ≤ number)

-- The answer to a query: the last line of the output for any text with the same declarations, followed by the query.
abbrev pub IsAnswer : SlotState → List ℕ → List ℕ → Type 0
IsAnswer slot line answer =
    IfAsked slot (λ a. (text : List ℕ) → TextGives text (Ok a.declarations) → FitsBehind text line → IsLastLine a.depth (behind text line) answer)

-- ---- why a line has no answer
abbrev pub fault_word : AskFault → ℕ
fault_word (faults.Line k) = 1
fault_word faults.Memory = 3
fault_word faults.Full = 4
fault_word faults.NotAQuery = 6
fault_word faults.SeveralLines = 7
fault_word faults.TooLong = 8

-- if the fault is one of the line, this is its number
abbrev pub TellsNumber : ℕ → AskFault → Type 0
TellsNumber n (faults.Line k) = n ≡ fault_number k
TellsNumber n _ = Unit {0}

-- There is a fault, with this status and this number.
abbrev pub IsUnanswered : SlotState → List ℕ → ℕ → ℕ → Type 0
IsUnanswered slot line word number = IfAsked slot (λ a. (f : AskFault) × IsAskFault a.declarations a.text_length line f × (word ≡ fault_word f) × TellsNumber number f)

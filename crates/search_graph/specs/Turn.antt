-- The requests of a frame and its candidates.
use Rattle.std.specs.Prelude.{◌≡◌, Bool, true, false, List, [], ◌∷◌, ◌++◌, Some, length, slice_get, slice_set}
use Rattle.search_graph.specs.declared.delegate.Request.{Request}
use Rattle.search_graph.specs.declared.delegate.Request.TheVariants.{Evaluate, EnterCandidate, FinishCandidate, IgnoreCandidate, Done}
use Rattle.search_graph.specs.declared.delegate.Reply.TheVariants.{Entered, Finished, Ignored}
use Rattle.search_graph.specs.declared.candidates.Turn.{Turn}
use Rattle.search_graph.specs.declared.candidates.Turn.TheVariants.{Ask, Tell, End}

module _ {I R : Type 0} where
  -- the request is in order, if a candidate is open as the flag says, and the list says of each finished candidate whether it was ignored
  abbrev pub IsInTurn : Bool → List Bool → Request I R → Type 0
  IsInTurn one_open finished (Evaluate i k) = Unit {0}
  IsInTurn one_open finished EnterCandidate = one_open ≡ false
  IsInTurn one_open finished FinishCandidate = one_open ≡ true
  IsInTurn one_open finished (IgnoreCandidate n) = slice_get finished n ≡ Some false
  IsInTurn one_open finished (Done r) = one_open ≡ false

  -- the request is in order, `turn` is due then, and the last two are the flag and the list afterwards
  abbrev pub IsTurn : Bool → List Bool → Request I R → Turn I R → Bool → List Bool → Type 0
  IsTurn one_open finished (Evaluate i k) turn now later = (turn ≡ Ask i k) × (now ≡ one_open) × (later ≡ finished)
  IsTurn one_open finished EnterCandidate turn now later = (turn ≡ Tell Entered) × (one_open ≡ false) × (now ≡ true) × (later ≡ finished)
  IsTurn one_open finished FinishCandidate turn now later = (turn ≡ Tell (Finished (length finished))) × (one_open ≡ true) × (now ≡ false) × (later ≡ finished ++ false ∷ [])
  IsTurn one_open finished (IgnoreCandidate n) turn now later = (turn ≡ Tell Ignored) × (slice_get finished n ≡ Some false) × (now ≡ one_open) × (later ≡ slice_set finished n true)
  IsTurn one_open finished (Done r) turn now later = (turn ≡ End r) × (one_open ≡ false) × (now ≡ one_open) × (later ≡ finished)

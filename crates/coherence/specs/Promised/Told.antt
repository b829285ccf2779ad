-- What a run writes: one line for each topic of a text, with what the line promises.
use Rattle.std.specs.Prelude.{◌≡◌, ℕ, ◌-◌, ◌<◌, ◌⊎◌, List, length, Option, Some, Result, Ok, Err, slice_get, [], ◌∷◌, ◌++◌, map, take, codes}
use Rattle.sessions.specs.TextLanguage.Promised.Declarations.{Declarations, Check, Question, of_supers}
use Rattle.coherence.specs.declared.status.Status.{Status}
use Rattle.coherence.specs.declared.status.Status.TheVariants as statuses
use Rattle.std.specs.Fmt.{decimal}
use Rattle.std.specs.List.{flat_map, range_with_len, enumerate_from, AllZip}
use Rattle.std.specs.Io.KnownBytes.{Appends, Keeps}
use Rattle.sessions.specs.TypeTerms.Promised.LinkedSet.{HeadersHaveSupertraits}
use Rattle.sessions.specs.TypeTerms.Promised.Worlds.{core}
use Rattle.sessions.specs.TextLanguage.Promised.TextSays.{TextSays}
use Rattle.sessions.specs.Promised.CoherentTexts.{text_world, TextIsCoherent}
use Rattle.coherence.specs.Promised.CheckAnswers.{CheckAnswer}
use Rattle.coherence.specs.Promised.CrateAnswers.{CrateAnswer, crate_text}
use Rattle.coherence.specs.Promised.ProvedAnswers.{QuestionAnswer}
use Rattle.coherence.specs.Promised.Streams.{AppendsPrefix}
use Rattle.coherence.specs.Promised.Values.{ValuesAreOne}

-- `Done` for a text without fault, else `TextFault`.
abbrev pub status_of : Result Declarations (ℕ × ℕ) → Status
status_of (Ok d) = statuses.Done
status_of (Err f) = statuses.TextFault

-- What a line is about: a fault of the text, by its line and its number; a crate; a check; or a query with its number, counted from 1.
pub data LineTopic : Type 0 where
  fault_topic : ℕ × ℕ → LineTopic
  crate_topic : Declarations → ℕ → LineTopic
  check_topic : Declarations → Check → LineTopic
  question_topic : Declarations → ℕ × Question → LineTopic

-- The topics of a text: its first fault alone, or each crate but `core`, then each check (`later` or `supers`), then each query.
abbrev pub topics : Result Declarations (ℕ × ℕ) → List LineTopic
topics (Err f) = fault_topic f ∷ []
topics (Ok d) =
    map (crate_topic d) (range_with_len 1 (length d.crates - 1)) ++ (map (check_topic d) d.checks ++ map (question_topic d) (enumerate_from 1 d.questions))

-- `crate NAME: VERDICT`.
abbrev pub line_of_crate : Declarations → ℕ → List ℕ → List ℕ
line_of_crate d c t = codes "crate " ++ crate_text d c ++ codes ": " ++ t

-- The line, without its end, is one about the topic, and what it promises holds.
abbrev pub TellsTopic : ℕ → LineTopic → List ℕ → Type 0
TellsTopic limit (fault_topic f) l = l ≡ codes "line " ++ decimal f.0 ++ codes ": fault " ++ decimal f.1
TellsTopic limit (crate_topic d c) l = (t : List ℕ) × CrateAnswer limit d c t × (l ≡ line_of_crate d c t)
TellsTopic limit (check_topic d x) l = CheckAnswer limit d x l
TellsTopic limit (question_topic d q) l = QuestionAnswer limit d q.0 q.1 l

-- The lines, each with its line end.
abbrev pub with_ends : List (List ℕ) → List ℕ
with_ends ls = flat_map (λ l. l ++ 10 ∷ []) ls

-- The text is the lines for these bytes, one for each topic.
abbrev pub IsToldText : ℕ → List ℕ → Status → List ℕ → Type 0
IsToldText limit bytes status text =
    (r : Result Declarations (ℕ × ℕ)) × (ls : List (List ℕ)) × TextSays bytes r × AllZip (TellsTopic limit) (topics r) ls × (status ≡ status_of r) × (text ≡ with_ends ls)

-- The text is the lines for the first of the topics.
abbrev pub BeginsToldText : ℕ → List ℕ → List ℕ → Type 0
BeginsToldText limit bytes text =
    (r : Result Declarations (ℕ × ℕ)) × (n : ℕ) × (ls : List (List ℕ)) × TextSays bytes r × AllZip (TellsTopic limit) (take n (topics r)) ls × (text ≡ with_ends ls)

-- What a writer gains: all lines, or a prefix of the first of them.
abbrev pub TellsAll : ℕ → List ℕ → Status → Option (List ℕ) → Option (List ℕ) → Type 0
TellsAll limit bytes status old new = (text : List ℕ) × IsToldText limit bytes status text × Appends old new text

-- Nothing was appended to the output, or a prefix of the first lines for the text.
abbrev pub TellsSome : ℕ → List ℕ → Option (List ℕ) → Option (List ℕ) → Type 0
TellsSome limit bytes old new = Keeps old new ⊎ ((text : List ℕ) × BeginsToldText limit bytes text × AppendsPrefix old new text)

-- ---- what the lines of a text's crates say of the text as a whole
-- This is the line about the topic, among the lines for these declarations.
abbrev pub IsLineAbout : Declarations → List (List ℕ) → LineTopic → List ℕ → Type 0
IsLineAbout d ls x l = (n : ℕ) × (slice_get (topics (Ok d)) n ≡ Some x) × (slice_get ls n ≡ Some l)

-- The line of each crate but `core` says `accepted`.
abbrev pub AllSayAccepted : Declarations → List (List ℕ) → Type 0
AllSayAccepted d ls = (c : ℕ) → core < c → c < length d.crates → IsLineAbout d ls (crate_topic d c) (line_of_crate d c (codes "accepted"))

-- Each crate but `core` has a check of its supertraits, whose line says `held`.
abbrev pub AllSayHeld : Declarations → List (List ℕ) → Type 0
AllSayHeld d ls =
    (c : ℕ) → core < c → c < length d.crates → IsLineAbout d ls (check_topic d (of_supers c)) (codes "supers " ++ crate_text d c ++ codes ": held")

-- The supertraits of headers have proofs in the text as a whole.
abbrev pub SupertraitsStand : Declarations → List (List ℕ) → Type 0
SupertraitsStand d ls = HeadersHaveSupertraits (text_world d)

-- If all lines say `accepted`, and P holds, the text is coherent as a whole: no concrete trait reference has proofs by two impls, the lines
-- of its queries hold for all its crates together, and a type of a trait has one value.
abbrev pub AcceptedTextsHold : (Declarations → List (List ℕ) → Type 0) → Type 0
AcceptedTextsHold P =
    (limit : ℕ) (bytes : List ℕ) (d : Declarations) (ls : List (List ℕ)) → TextSays bytes (Ok d) → AllZip (TellsTopic limit) (topics (Ok d)) ls → AllSayAccepted d ls → P d ls
    → TextIsCoherent d × ValuesAreOne d

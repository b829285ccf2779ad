-- A text that is asked at run time: what is kept goes over to the text with one more question, and back.
use Rattle.std.proofs.Common.{◌≡◌, ℕ, ◌+◌, ◌-◌, ◌<◌, ◌≤◌, List, [], ◌∷◌, ◌++◌, length, take, Option, Some, None, Result, Ok, Err, refl, sym, ap, ◌∙◌, subst, length-append, arith, Vec, Global}
use Rattle.std.specs.Prelude.{IfOk, IfErr, IfSome, IsErrAnd, map, slice_get}
use Rattle.std.proofs.Math.Seq.{take-append_seam}
use Rattle.std.proofs.lemmas.List.{length-map}
use Rattle.std.proofs.lemmas.Option.{same_Some}
use Rattle.sessions.specs.TextLanguage.Promised.Declarations.{Declarations, Question}
use Rattle.sessions.specs.TextLanguage.Text.{TextGives}
use Rattle.sessions.specs.TextLanguage.Promised.Text.{text_limit}
use Rattle.sessions.specs.TypeTerms.declared.CrateId.{CrateId}
use Rattle.text_parser.specs.Behind.{FitsBehind, LinesBehindTexts, behind}
use Rattle.text_parser.specs.Queries.{IsQueryLine}
use Rattle.text_parser.specs.declared.query_line.QueryLine.{QueryLine}
use Rattle.sessions.specs.TextTables.Numbered.{IsFew}
use Rattle.sessions.specs.TextTables.Tables.{declared, with_question}
use Rattle.sessions.specs.TextTables.Unasked.{without_last_question}
use Rattle.sessions.specs.TextTables.Views.{asked_of, asker_of, crate_of, question_of}
use Rattle.sessions.specs.TextTables.declared.declared.Asked.{Asked}
use Rattle.sessions.specs.TextTables.declared.declared.QuestionEntry.{QuestionEntry}
use Rattle.sessions.specs.TextTables.declared.tables.Tables.{Tables}
use Rattle.sessions.specs.Promised.Subjects.{IsOfText}
use Rattle.sessions.specs.declared.left_session.LeftSession.{LeftSession}
use Rattle.sessions.specs.declared.limits.Limits.{Limits}
use Rattle.coherence.specs.Asking.{AskedText, IsAnswerBehind, IsAskFault, IsLastLine, IsQueryBehind, IsShortage, Serves, ask_fault_of}
use Rattle.coherence.specs.Groups.{IsAskedIn}
use Rattle.coherence.specs.KeptLines.{HasLine, IsLineOf}
use Rattle.coherence.specs.KeptSessions.{AreLeftSessions}
use Rattle.coherence.specs.LineByLine.{IsAnswerOf, of_question, IsLineAt, line_count}
use Rattle.coherence.specs.declared.ask_fault.AskFault.{AskFault}
use Rattle.coherence.specs.declared.ask_fault.AskFault.TheVariants as faults
use Rattle.sessions.proofs.GivenTexts.{given-text}
use Rattle.sessions.proofs.TextLanguage.TypeBasics.{text-short}
use Rattle.sessions.specs.TypeTerms.declared.Fault.{Fault}
use Rattle.sessions.specs.TypeTerms.declared.Fault.TheVariants as wants

-- ---- the question
last-there : {A : Type 0} (xs : List A) (x : A) → slice_get (xs ++ x ∷ []) (length xs) ≡ Some x
last-there [] x = refl
last-there (y ∷ ys) x = last-there ys x

pub taken-out : (d : Declarations) (q : Question) → without_last_question (with_question d q) ≡ d
taken-out d q =
    let n : length (d.questions ++ q ∷ []) - 1 ≡ length d.questions = omega (arith, length-append d.questions (q ∷ [])) in
    ap (λ (qs : List Question). record d { questions = qs }) (ap (λ m. take m (d.questions ++ q ∷ [])) n ∙ take-append_seam d.questions (q ∷ []))

pub asked-last : (d : Declarations) (q : QuestionEntry) (c k : ℕ) → k ≡ length d.questions → c ≡ asker_of q.asked_how → IsAskedIn (with_question d (question_of q)) c k
asked-last d q c k place asker = (question_of q, rw place (last-there d.questions (question_of q)), sym asker)

pub as-many : (d : Declarations) (asks : List Asked) → map asked_of asks ≡ map (λ (q : Question). (q.is_refute, q.asker)) d.questions → length asks ≡ length d.questions
as-many d asks e = sym (length-map asks asked_of) ∙ ap length e ∙ length-map d.questions (λ (q : Question). (q.is_refute, q.asker))

pub few-questions : (d : Declarations) (q : Question) (k : ℕ) → IsFew (with_question d q) k → length d.questions + 1 < k
few-questions d q k few = omega (arith, few.few_questions, length-append d.questions (q ∷ []))

-- the line of the last question
pub line-of-last : (limit : ℕ) (d : Declarations) (q : Question) (k : ℕ) (text : List ℕ) → k ≡ length d.questions → IsLineOf limit (with_question d q) k text → IsAnswerBehind limit d q text
line-of-last limit d q k text place h =
    let here : slice_get (d.questions ++ q ∷ []) k ≡ Some q = ap (slice_get (d.questions ++ q ∷ [])) place ∙ last-there d.questions q in
    let same : h.0 ≡ q = same_Some h.0 q (sym h.1 ∙ here) in
    subst (λ n. HasLine limit (with_question d q) (n + 1) q text) place (subst (λ x. HasLine limit (with_question d q) (k + 1) x text) same h.2)

pub last-of-output : (limit : ℕ) (d : Declarations) (q : Question) (text : List ℕ) → IsAnswerBehind limit d q text
    → IsLineAt limit (Ok (with_question d q)) (line_count (Ok (with_question d q)) - 1) text
last-of-output limit d q text h =
    let e = with_question d q in
    let place : length e.crates - 1 + length e.checks + length d.questions ≡ line_count (Ok e) - 1 = omega (arith, length-append d.questions (q ∷ [])) in
    (h.0, subst (λ n. IsAnswerOf limit e n h.0) place (of_question (length d.questions) q h.0 (last-there d.questions q) h.1), h.2)

-- ---- what a line asks
pub length-fits : (d : Declarations) (n : ℕ) (limits : Limits) (left : List LeftSession) → Serves d n limits left → n ≤ text_limit
length-fits d n limits left s = let (bytes, t, len) = s.text in omega (arith, len, text-short bytes d t)

pub served : (d : Declarations) (n : ℕ) (limits : Limits) (left : List LeftSession) → Serves d n limits left → IsOfText d
served d n limits left s = given-text s.text.0 d s.text.1

pub parsed-behind : LinesBehindTexts → (d : Declarations) (n : ℕ) (limits : Limits) (left : List LeftSession) → Serves d n limits left → (line : List ℕ) (q : QuestionEntry)
    → IsQueryBehind d n line q → IsOfText (with_question d (question_of q))
parsed-behind laws d n limits left s line q h =
    let (bytes, t, len) = s.text in
    let e = with_question d (question_of q) in
    given-text (behind bytes line) e ((laws bytes line d t h.alone (subst (λ k. k + 1 + length line ≤ text_limit) (sym len) h.room)).0 e h.gives)

pub last-line : LinesBehindTexts → (limit : ℕ) (d : Declarations) (n : ℕ) (line : List ℕ) (q : QuestionEntry) → IsQueryBehind d n line q → (r : Result (Vec ℕ Global) AskFault)
    → IfOk r (λ text. IsAnswerBehind limit d (question_of q) text.items)
    → (bytes : List ℕ) → TextGives bytes (Ok d) → FitsBehind bytes line → IfOk r (λ text. IsLastLine limit (behind bytes line) text.items)
last-line laws limit d n line q asks (Ok text) h bytes t room =
    let e = with_question d (question_of q) in
    (e, (laws bytes line d t asks.alone room).0 e asks.gives, last-of-output limit d (question_of q) text.items h)
last-line laws limit d n line q asks (Err e) h bytes t room = tt

-- what was read of the line, of the same declarations
pub query-at : (d e : Declarations) (line : List ℕ) (q x : QueryLine) → d ≡ e → q ≡ x → IsQueryLine d line q → IsQueryLine e line x
query-at d e line q x same is h = subst (λ (y : Declarations). IsQueryLine y line x) same (subst (IsQueryLine d line) is h)

-- ---- what an asker is about, and what it keeps, after a call
pub same-asked : (d e : Declarations) (n : ℕ) (old new : Limits) (a : AskedText) → e ≡ d → new ≡ old → record { declarations = d; text_length = n; depth = old.depth } ≡ a
    → record { declarations = e; text_length = n; depth = new.depth } ≡ a
same-asked d e n old new a same limits is = ap (λ (x : Declarations). as-asked x new) same ∙ ap (λ (l : Limits). as-asked d l) limits ∙ is
  where
    as-asked : Declarations → Limits → AskedText
    as-asked x l = record { declarations = x; text_length = n; depth = l.depth }

pub serves-still : (d e : Declarations) (n : ℕ) (old new : Limits) (was left : List LeftSession) → Serves d n old was → e ≡ d → new ≡ old → AreLeftSessions d old left → Serves e n new left
serves-still d e n old new was left s same limits h = rw same (rw limits (record { text = s.text; left = h }))

-- ---- faults
shortage-is : (d : Declarations) (n : ℕ) (line : List ℕ) (e : AskFault) → IsShortage e → IsAskFault d n line e
shortage-is d n line faults.Memory h = tt
shortage-is d n line faults.Full h = tt
shortage-is d n line _ h = absurd h

pub shortages-are : {X : Type 0} (d : Declarations) (n : ℕ) (line : List ℕ) (r : Result X AskFault) → IfErr r IsShortage → IfErr r (IsAskFault d n line)
shortages-are d n line (Ok x) h = tt
shortages-are d n line (Err e) h = shortage-is d n line e h

-- one that a refused call hands on
pub handed-shortage : {X : Type 0} (r : Result X AskFault) (f : AskFault) → IsErrAnd r (λ y. y ≡ f) → IsShortage f → IfErr r IsShortage
handed-shortage (Ok x) f h s = tt
handed-shortage (Err y) f h s = subst IsShortage (sym h) s

pub fault-is-shortage : (f : Fault) → IsShortage (ask_fault_of f)
fault-is-shortage wants.Full = tt
fault-is-shortage wants.Memory = tt

-- ---- a crate of a name
pub named-there : (t : Tables) (d : Declarations) (o : Option CrateId) → declared t ≡ d → IfSome o (λ c. c.index < length t.crates.items) → IfSome o (λ c. c.index < length d.crates)
named-there t d None e h = tt
named-there t d (Some c) e h = subst (λ (x : Declarations). c.index < length x.crates) e (omega (arith, h, length-map t.crates.items crate_of))

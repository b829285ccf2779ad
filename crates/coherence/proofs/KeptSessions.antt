-- What is kept between the calls of an asker.
use Rattle.std.proofs.Common.{◌≡◌, ℕ, List, [], ◌∷◌, ◌++◌, get_or, subst, sym}
use Rattle.std.proofs.lemmas.List.Elements.{All-append, All-cons, All-nil, All-take, All-drop}
use Rattle.std.specs.Prelude.{Bool, true, false, suc, if◌then◌else◌, take, drop}
use Rattle.sessions.specs.TextLanguage.Promised.Declarations.{Declarations, Question}
use Rattle.sessions.specs.TextTables.Tables.{with_question}
use Rattle.sessions.specs.LeftSessions.{IsLeftSession}
use Rattle.sessions.specs.declared.left_session.LeftSession.{LeftSession}
use Rattle.sessions.specs.declared.limits.Limits.{Limits}
use Rattle.sessions.proofs.LeftSessions.{left-of-asked, left-of-unasked}
use Rattle.coherence.specs.KeptSessions.{AreLeftSessions}

-- ---- one more, and one less
pub left-with : (d : Declarations) (limits : Limits) (xs : List LeftSession) (x : LeftSession) → AreLeftSessions d limits xs → IsLeftSession d limits.depth limits.handles x → AreLeftSessions d limits (xs ++ x ∷ [])
left-with d limits xs x h is =
    let P = IsLeftSession d limits.depth limits.handles in
    All-append P xs (x ∷ []) h (All-cons P x [] is (All-nil P))

pub left-without : (d : Declarations) (limits : Limits) (xs : List LeftSession) (n : ℕ) → AreLeftSessions d limits xs → AreLeftSessions d limits (take n xs ++ drop (suc n) xs)
left-without d limits xs n h =
    let P = IsLeftSession d limits.depth limits.handles in
    All-append P (take n xs) (drop (suc n) xs) (All-take P n xs h) (All-drop P (suc n) xs h)

pub none-left : (d : Declarations) (limits : Limits) (xs : List LeftSession) → xs ≡ [] → AreLeftSessions d limits xs
none-left d limits xs none = subst (AreLeftSessions d limits) (sym none) (All-nil (IsLeftSession d limits.depth limits.handles))

-- ---- none of it is about queries
pub left-asked : (d : Declarations) (q : Question) (limits : Limits) (xs : List LeftSession) → AreLeftSessions d limits xs → AreLeftSessions (with_question d q) limits xs
left-asked d q limits xs h k x lt = left-of-asked d q limits.depth limits.handles (get_or xs k x) (h k x lt)

pub left-unasked : (d : Declarations) (q : Question) (limits : Limits) (xs : List LeftSession) → AreLeftSessions (with_question d q) limits xs → AreLeftSessions d limits xs
left-unasked d q limits xs h k x lt = left-of-unasked d q limits.depth limits.handles (get_or xs k x) (h k x lt)

-- ---- what a session on these declarations keeps: between its opening and the end of the call
pub still-left : (s d : Declarations) (was now : Limits) (xs : List LeftSession) → s ≡ d → now ≡ was → AreLeftSessions d was xs → AreLeftSessions s now xs
still-left s d was now xs text limits h = rw text (rw limits h)

pub left-still : (s d : Declarations) (was now : Limits) (xs : List LeftSession) → s ≡ d → now ≡ was → AreLeftSessions s now xs → AreLeftSessions d was xs
left-still s d was now xs text limits h = subst (λ (x : Declarations). AreLeftSessions x was xs) text (subst (λ (l : Limits). AreLeftSessions s l xs) limits h)

-- ---- pushed, if there was memory for it
pub left-put : (d : Declarations) (limits : Limits) (xs : List LeftSession) (x : LeftSession) (fits : Bool) → AreLeftSessions d limits xs → IsLeftSession d limits.depth limits.handles x
    → AreLeftSessions d limits (if fits then xs ++ x ∷ [] else xs)
left-put d limits xs x true h is = left-with d limits xs x h is
left-put d limits xs x false h is = h

-- What lines give, one after the other, and how many declarations they come to.
use Rattle.std.proofs.Common.{◌≡◌, ℕ, ◌+◌, ◌≤◌, true, cond, List, length, fold, Option, Some, None, Result, Ok, Err, IfOk, sym, ap, ◌∙◌, subst, inl, inr, arith}
use Rattle.std.specs.Global.{Vec}
use Rattle.std.specs.Prelude.{nat_lt, IsErrOf}
use Rattle.std.proofs.lemmas.Bool.{cases_Bool, ltb-true, ltb-false}
use Rattle.std.proofs.lemmas.List.{length-map}
use Rattle.std.proofs.lemmas.Option.{same_Some}
use Rattle.text_language.specs.Adding.{added}
use Rattle.text_language.specs.Agreement.{plain}
use Rattle.text_language.specs.Declarations.{nothing_declared}
use Rattle.text_language.specs.Promised.Declarations.{Declarations}
use Rattle.text_language.specs.Promised.Desugared.{desugared}
use Rattle.text_language.specs.Promised.Syntax.{WrittenLine}
use Rattle.text_language.specs.Promised.Text.{text_limit, long_line}
use Rattle.text_language.specs.Syntax.{written_spelling}
use Rattle.text_language.specs.Text.{LineGives, other_byte, blank, unwritten, faulty, adds, lines_of, TextGives, too_long, fits}
use Rattle.text_language.specs.Tokens as token
use Rattle.text_language.specs.Written.{IsSpelled}
use Rattle.text_language.proofs.PlainLines.{written-alone}
use Rattle.text_lines.specs.TokenViews.{tokens_in}
use Rattle.text_lines.specs.TypeViews.{cell_of}
use Rattle.text_lines.specs.TypedLines.{SpellsTyped}
use Rattle.text_lines.specs.WrittenLines.{has_types}
use Rattle.text_lines.specs.declared.line_error.LineError.{LineError}
use Rattle.text_lines.specs.declared.line_error.LineError.TheVariants as errors
use Rattle.text_lines.specs.declared.statement.LineRead.{LineRead}
use Rattle.text_lines.specs.declared.token.Token.{Token}
use Rattle.text_lines.specs.declared.typed_line.TypedLine.{TypedLine}
use Rattle.text_names.specs.FaultNumbers.{fault_number}
use Rattle.text_names.specs.declared.fault.FaultKind.{FaultKind}
use Rattle.text_tables.specs.Numbered.{IsFew}
use Rattle.text_parser.specs.Declaring.{IsRead}
use Rattle.text_parser.specs.Forms.{IsForm, SaysSomething, SaysPlain, HasTyped}
use Rattle.text_parser.specs.Lines.{line_too_far}
use Rattle.text_parser.specs.Lists.{HasRoom}
use Rattle.text_parser.specs.Outcomes.{TakesLine, AreRefused, IsTextError}
use Rattle.text_parser.specs.WrittenLines.{IsTypedLine, TakesWritten, TakesPlain, TakesTyped}
use Rattle.text_parser.specs.declared.fault.TextError.{TextError}
use Rattle.text_parser.specs.declared.fault.TextError.TheVariants as faults
use Rattle.text_parser.specs.declared.form.LineForm.{LineForm}
use Rattle.text_parser.specs.declared.form.LineForm.TheVariants as forms
use Rattle.text_parser.proofs.Few.{few-weaken, fold-few}
use Rattle.text_parser.proofs.ListsTaken.{room-now}
use Rattle.text_parser.proofs.ManyLines.{lines-in-bytes}
use Rattle.text_parser.proofs.Shortness.{cells-are-few}

-- ---- one line
pub other_byte_gives : (d : Declarations) (line : List ℕ) (form : LineForm) → IsForm line form → form ≡ forms.OtherByte → LineGives d line (Err 1)
other_byte_gives d line form h e = other_byte (subst (λ f. IsForm line f) e h)

pub blank_gives : (d : Declarations) (line : List ℕ) (form : LineForm) → IsForm line form → form ≡ forms.Blank → LineGives d line (Ok d)
blank_gives d line form h e = let is : IsForm line forms.Blank = subst (λ f. IsForm line f) e h in blank is.0 is.1

pub unwritten_gives : (d : Declarations) (line : List ℕ) (form : LineForm) → IsForm line form → form ≡ forms.Unwritten → LineGives d line (Err 2)
unwritten_gives d line form h e =
    let is : IsForm line forms.Unwritten = subst (λ f. IsForm line f) e h in
    let some : SaysSomething line = is.0 in
    unwritten some.0 some.1 is.1

-- what was found of a line that is written
pub written_gives : (d e : Declarations) (line : List ℕ) (w : WrittenLine) (found : Option FaultKind) → SaysSomething line → IsSpelled line w → TakesWritten d line w found e → TakesLine d line found e
written_gives d e line w None some s h = subst (λ x. LineGives d line (Ok x)) (sym h.1) (adds w some.0 some.1 s h.0)
written_gives d e line w (Some k) some s h = faulty w (fault_number k) some.0 some.1 s h

-- a line without types
pub plain_is : (line : List ℕ) (form : LineForm) (read : LineRead) → IsForm line form → form ≡ forms.Read read → SaysSomething line × SaysPlain line read
plain_is line form read h is = subst (λ f. IsForm line f) is h

pub plain_read : (line : List ℕ) (form : LineForm) (read : LineRead) → IsForm line form → form ≡ forms.Read read → IsRead read
plain_read line form read h is = let (some, (l, w, r)) = plain_is line form read h is in (l, r)

pub plain_gives :
    {X : Type 0} (d e : Declarations) (line : List ℕ) (form : LineForm) (read : LineRead) (result : Result (Option FaultKind) X)
    → IsForm line form → form ≡ forms.Read read → IfOk result (λ found. TakesPlain d line read found e) → IfOk result (λ found. TakesLine d line found e)
plain_gives d e line form read (Ok found) h is takes = let (some, (l, w, r)) = plain_is line form read h is in written_gives d e line (plain l) found some w (takes l r)
plain_gives d e line form read (Err x) h is takes = tt

-- it has no more cells than bytes
pub read_short : (line : List ℕ) (form : LineForm) (read : LineRead) (k : ℕ) → IsForm line form → form ≡ forms.Read read → length line ≤ k → length read.cells.items ≤ k
read_short line form read k h is short =
    let (some, (l, w, r)) = plain_is line form read h is in
    let cells = cells-are-few line l (w ∙ ap Some (written-alone l)) in
    omega (arith, cells, ap length r.1, length-map read.cells.items cell_of, short)

-- a line with types
pub typed_is : (line : List ℕ) (form : LineForm) (tokens : Vec Token) → IsForm line form → form ≡ forms.Typed tokens → SaysSomething line × HasTyped line (tokens_in tokens.items)
typed_is line form tokens h is = subst (λ f. IsForm line f) is h

pub untyped_gives : {X : Type 0} (d : Declarations) (line : List ℕ) (ts : List token.Token) (r : Result X LineError)
    → SaysSomething line → HasTyped line ts → r ≡ Err errors.Syntax → (has_types ts ≡ true → IsErrOf r errors.Syntax → (w : WrittenLine) → ts ≡ written_spelling w → ⊥) → LineGives d line (Err 2)
untyped_gives d line ts r some has is refused = unwritten some.0 some.1 (λ w s. refused has.1 is w (same_Some ts (written_spelling w) (sym has.0 ∙ s)))

pub typed_line : (line : List ℕ) (ts : List token.Token) (t : TypedLine) → HasTyped line ts → SpellsTyped ts t → IsTypedLine line t
typed_line line ts t has (w, s, reads) = (w, has.0 ∙ ap Some s, ap has_types (sym s) ∙ has.1, reads)

pub typed_gives : {X : Type 0} (d e : Declarations) (line : List ℕ) (t : TypedLine) (r : Result (Option FaultKind) X)
    → SaysSomething line → IsTypedLine line t → IfOk r (λ found. TakesTyped d line t found e) → IfOk r (λ found. TakesLine d line found e)
typed_gives d e line t (Ok found) some (w, s, typed, reads) takes = written_gives d e line w found some s (takes w reads)
typed_gives d e line t (Err x) some is takes = tt

-- ---- how many there are
pub given-few : (d e : Declarations) (line : List ℕ) (k : ℕ) → LineGives d line (Ok e) → IsFew d k → IsFew e (k + length line)
given-few d e line k (blank a b) f = few-weaken d k (k + length line) (omega arith) f
given-few d e line k (adds w a b s n) f = few-weaken (fold added d (desugared w)) (k + length (desugared w)) (k + length line) (omega (arith, lines-in-bytes line w s)) (fold-few d (desugared w) k f)

-- ---- room
pub room-at-first : (d : Declarations) (n : ℕ) → IsFew d 50 → n ≤ 67108864 → HasRoom d n
room-at-first d n f h = let room : 50 + n ≤ 67108928 = omega (arith, h) in (50, f, room)

pub room-less : (d : Declarations) (m n : ℕ) → m ≤ n → HasRoom d n → HasRoom d m
room-less d m n less (k, f, h) =
    let room : k + n ≤ 67108928 = h in
    let left : k + m ≤ 67108928 = omega (arith, room, less) in
    (k, f, left)

pub room-behind : (d e : Declarations) (line : List ℕ) (m n : ℕ) → LineGives d line (Ok e) → length line + m ≤ n → HasRoom d n → HasRoom e m
room-behind d e line m n g both (k, f, h) =
    let room : k + n ≤ 67108928 = h in
    let left : k + length line + m ≤ 67108928 = omega (arith, room, both) in
    (k + length line, given-few d e line k g f, left)

pub few-behind : (d e : Declarations) (line : List ℕ) → LineGives d line (Ok e) → HasRoom d (length line) → IsFew e 67108928
few-behind d e line g room = room-now e 0 (room-behind d e line 0 (length line) g (omega arith) room)

-- ---- the text
some-is : {m n : ℕ} → Some m ≡ Some n → m ≡ n
some-is e = cc

none-is : {n : ℕ} → None ≡ Some n → ⊥
none-is e = cc

pub too_far : (bytes : List ℕ) (n : ℕ) (o : Option ℕ) → o ≡ line_too_far bytes → o ≡ Some n → TextGives bytes (Err (n, 16))
too_far bytes n o e is =
    elim (cases_Bool (nat_lt text_limit (length bytes))) [
      | inl h ↦ (let line : long_line bytes ≡ n = some-is (sym (ap (λ b. cond b (Some (long_line bytes)) None) h) ∙ sym e ∙ is) in subst (λ m. TextGives bytes (Err (m, 16))) line (too_long (ltb-true text_limit (length bytes) h)))
      | inr h ↦ absurd (none-is (sym (ap (λ b. cond b (Some (long_line bytes)) None) h) ∙ sym e ∙ is))
    ]

pub not_far : (bytes : List ℕ) (o : Option ℕ) → o ≡ line_too_far bytes → o ≡ None → length bytes ≤ text_limit
not_far bytes o e is =
    elim (cases_Bool (nat_lt text_limit (length bytes))) [
      | inl h ↦ absurd (none-is (sym is ∙ e ∙ ap (λ b. cond b (Some (long_line bytes)) None) h))
      | inr h ↦ ltb-false text_limit (length bytes) h
    ]

pub refusal_is : (bytes : List ℕ) (e : TextError) → length bytes ≤ text_limit → AreRefused nothing_declared (lines_of bytes) e → IsTextError bytes e
refusal_is bytes (faults.Text f) h g = fits (Err (f.line, fault_number f.kind)) h g
refusal_is bytes faults.Memory h g = tt

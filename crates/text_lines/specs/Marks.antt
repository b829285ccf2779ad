-- The tokens after a mark: a word or a sign that is next.
use Rattle.std.specs.Prelude.{◌≡◌, ℕ, ◌-◌, Bool, true, false, List, [], ◌∷◌, length, take, Option, Some, None, Result, Ok, Err}
use Rattle.text_language.specs.Words.{open_angle, close_angle, open_round, close_round, comma, colon, semicolon, plus, equals, open_brace, close_brace, uses_word, where_word, for_word, in_word, type_word}
use Rattle.text_language.specs.Tokens.{Token, keyword, name, lifetime, number, sign}
use Rattle.text_lines.specs.declared.line_error.LineError.{LineError}
use Rattle.text_lines.specs.declared.line_error.LineError.TheVariants as errors

abbrev pub after_comma : List Token → Option (List Token)
after_comma (sign comma ∷ ts) = Some ts
after_comma _ = None

abbrev pub after_plus : List Token → Option (List Token)
after_plus (sign plus ∷ ts) = Some ts
after_plus _ = None

abbrev pub after_colon : List Token → Option (List Token)
after_colon (sign colon ∷ ts) = Some ts
after_colon _ = None

abbrev pub after_open_angle : List Token → Option (List Token)
after_open_angle (sign open_angle ∷ ts) = Some ts
after_open_angle _ = None

abbrev pub after_close_angle : List Token → Option (List Token)
after_close_angle (sign close_angle ∷ ts) = Some ts
after_close_angle _ = None

abbrev pub after_open_round : List Token → Option (List Token)
after_open_round (sign open_round ∷ ts) = Some ts
after_open_round _ = None

abbrev pub after_close_round : List Token → Option (List Token)
after_close_round (sign close_round ∷ ts) = Some ts
after_close_round _ = None

abbrev pub after_uses : List Token → Option (List Token)
after_uses (keyword uses_word ∷ ts) = Some ts
after_uses _ = None

abbrev pub after_where : List Token → Option (List Token)
after_where (keyword where_word ∷ ts) = Some ts
after_where _ = None

abbrev pub after_for : List Token → Option (List Token)
after_for (keyword for_word ∷ ts) = Some ts
after_for _ = None

abbrev pub after_in : List Token → Option (List Token)
after_in (keyword in_word ∷ ts) = Some ts
after_in _ = None

abbrev pub after_equals : List Token → Option (List Token)
after_equals (sign equals ∷ ts) = Some ts
after_equals _ = None

abbrev pub after_semicolon : List Token → Option (List Token)
after_semicolon (sign semicolon ∷ ts) = Some ts
after_semicolon _ = None

abbrev pub after_open_brace : List Token → Option (List Token)
after_open_brace (sign open_brace ∷ ts) = Some ts
after_open_brace _ = None

abbrev pub after_close_brace : List Token → Option (List Token)
after_close_brace (sign close_brace ∷ ts) = Some ts
after_close_brace _ = None

abbrev pub after_type : List Token → Option (List Token)
after_type (keyword type_word ∷ ts) = Some ts
after_type _ = None

-- the name that is next, and the tokens after it
abbrev pub name_front : List Token → Option (List ℕ × List Token)
name_front (name n ∷ ts) = Some (n, ts)
name_front _ = None

abbrev pub is_name : List Token → Bool
is_name (name n ∷ ts) = true
is_name _ = false

abbrev pub is_equals : List Token → Bool
is_equals (sign equals ∷ ts) = true
is_equals _ = false

-- a name and `=` are next
abbrev pub is_binding : List Token → Bool
is_binding (name n ∷ ts) = is_equals ts
is_binding _ = false

-- a lifetime or a number that is next, and the tokens after it: it is an argument, and no type
abbrev pub lone_front : List Token → Option (List Token × List Token)
lone_front (lifetime n ∷ ts) = Some (lifetime n ∷ [], ts)
lone_front (number n ∷ ts) = Some (number n ∷ [], ts)
lone_front _ = None

-- the tokens at the front of the first list, up to the second
abbrev pub taken : List Token → List Token → List Token
taken old new = take (length old - length new) old

abbrev pub is_nil : List Token → Bool
is_nil [] = true
is_nil (t ∷ ts) = false

-- The mark was read if it is next. Otherwise nothing was read.
abbrev pub Passed : Bool → Option (List Token) → List Token → List Token → Type 0
Passed true behind old new = behind ≡ Some new
Passed false behind old new = (behind ≡ None) × (new ≡ old)

-- the error states that no such part is next, or that memory was refused
abbrev pub Fails : {Y : Type 0} → LineError → Option Y → Type 0
Fails errors.Memory read = Unit {0}
Fails errors.Syntax read = read ≡ None

-- the required mark was read
abbrev pub PassesMark : Result (Unit {0}) LineError → Option (List Token) → List Token → Type 0
PassesMark (Ok u) behind new = behind ≡ Some new
PassesMark (Err e) behind new = Fails e behind

-- the returned value and the remaining tokens are those of the part that is next
abbrev pub Takes : {X Y : Type 0} → (X → Y) → Result X LineError → Option (Y × List Token) → List Token → Type 0
Takes view (Ok x) read new = read ≡ Some (view x, new)
Takes view (Err e) read new = Fails e read

-- a lifetime or a number was read, if one is next
abbrev pub TookLone : Option (List Token) → List Token → List Token → Type 0
TookLone (Some ts) old new = lone_front old ≡ Some (ts, new)
TookLone None old new = (lone_front old ≡ None) × (new ≡ old)

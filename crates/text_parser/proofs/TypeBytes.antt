-- A line with `=` or `{` among its tokens has it among its bytes.
use Rattle.std.proofs.Common.{◌≡◌, ℕ, Bool, true, false, cond, ◌||◌, ◌==◌, List, [], ◌∷◌, Option, Some, None, refl, ap, ◌∙◌, subst, inl, inr, bytes_eq, option_map, slice_get, find, ◌⊎◌}
use Rattle.std.specs.Prelude.{◌&&◌}
use Rattle.std.specs.List.{list_all, list_any}
use Rattle.std.specs.Option.{option_map_or}
use Rattle.std.proofs.lemmas.Bool.{cases_Bool}
use Rattle.type_terms.specs.Promised.Label.{Label}
use Rattle.text_language.specs.Words.{Keyword, Sign, signs, is_digit, is_word_byte, keyword_named, primitive_named}
use Rattle.text_language.specs.Tokens.{Token, keyword, primitive, name, lifetime, variable, number, sign, arrow, LinePiece, word, quoted, queried, pointing, byte, onto, before, pieces, name_token, word_token, as_lifetime, as_variable, sign_token, in_front, number_from, tokens_from, tokens_of}
use Rattle.text_lines.specs.WrittenLines.{is_type_sign, has_types}

abbrev is_type_byte : ℕ → Bool
is_type_byte b = b == 61 || b == 123

or-none : (x y : Bool) → x || y ≡ false → (x ≡ false) × (y ≡ false)
or-none true y e = absurd cc
or-none false y e = (refl, e)

-- ---- pieces
-- none of them is one of these bytes
abbrev Plain : List LinePiece → Type 0
Plain [] = Unit {0}
Plain (word w ∷ ps) = Plain ps
Plain (quoted w ∷ ps) = Plain ps
Plain (queried w ∷ ps) = Plain ps
Plain (pointing ∷ ps) = Plain ps
Plain (byte b ∷ ps) = (is_type_byte b ≡ false) × Plain ps

onto-plain : (b : ℕ) (ps : List LinePiece) → Plain ps → Plain (onto b ps)
onto-plain b [] h = tt
onto-plain b (word w ∷ ps) h = h
onto-plain b (quoted w ∷ ps) h = h
onto-plain b (queried w ∷ ps) h = h
onto-plain b (pointing ∷ ps) h = h
onto-plain b (byte c ∷ ps) h = h

either-plain : (c : Bool) (xs ys : List LinePiece) → Plain xs → Plain ys → Plain (cond c xs ys)
either-plain true xs ys a b = a
either-plain false xs ys a b = b

before-plain : (b : ℕ) (ps : List LinePiece) → is_type_byte b ≡ false → Plain ps → Plain (before b ps)
before-plain b [] e h = (e, tt)
before-plain b (word w ∷ ps) e h =
    either-plain (b == 39) (quoted w ∷ ps) (cond (b == 63) (queried w ∷ ps) (byte b ∷ word w ∷ ps)) h (either-plain (b == 63) (queried w ∷ ps) (byte b ∷ word w ∷ ps) h (e, h))
before-plain b (quoted w ∷ ps) e h = (e, h)
before-plain b (queried w ∷ ps) e h = (e, h)
before-plain b (pointing ∷ ps) e h = (e, h)
before-plain b (byte c ∷ ps) e h = either-plain ((b == 45) && (c == 62)) (pointing ∷ ps) (byte b ∷ byte c ∷ ps) h.1 (e, h)

pieces-plain : (bs : List ℕ) → list_any is_type_byte bs ≡ false → Plain (pieces bs)
pieces-plain [] e = tt
pieces-plain (b ∷ bs) e =
    let parts = or-none (is_type_byte b) (list_any is_type_byte bs) e in
    let rest = pieces-plain bs parts.1 in
    either-plain (is_word_byte b) (onto b (pieces bs)) (before b (pieces bs)) (onto-plain b (pieces bs) rest) (before-plain b (pieces bs) parts.0 rest)

-- ---- tokens
Bare : Option Token → Type 0
Bare None = Unit {0}
Bare (Some t) = is_type_sign t ≡ false

Free : Option (List Token) → Type 0
Free None = Unit {0}
Free (Some ts) = has_types ts ≡ false

front-free : (t : Option Token) (o : Option (List Token)) → Bare t → Free o → Free (in_front t o)
unfolding Bare Free
front-free None o a b = tt
front-free (Some t) None a b = tt
front-free (Some t) (Some ts) a b = ap (λ (x : Bool). x || has_types ts) a ∙ b

either-bare : (c : Bool) (x y : Option Token) → Bare x → Bare y → Bare (cond c x y)
either-bare true x y a b = a
either-bare false x y a b = b

either-free : (c : Bool) (x y : Option (List Token)) → Free x → Free y → Free (cond c x y)
either-free true x y a b = a
either-free false x y a b = b

name-bare : (k : Option Keyword) (p : Option Label) (w : List ℕ) → is_type_sign (elim k [ Some k ↦ keyword k | None ↦ elim p [ Some p ↦ primitive p | None ↦ name w ] ]) ≡ false
name-bare (Some k) p w = refl
name-bare None (Some p) w = refl
name-bare None None w = refl

number-bare : (n : ℕ) → Bare (Some (number n))
unfolding Bare
number-bare n = refl

none-bare : Bare None
unfolding Bare
none-bare = tt

called-bare : (w : List ℕ) → Bare (Some (name_token w))
unfolding Bare
called-bare w = name-bare (keyword_named w) (primitive_named w) w

word-bare : (w : List ℕ) → Bare (word_token w)
word-bare w =
    either-bare (list_all is_digit w) (Some (number (number_from 0 w))) (cond (option_map_or is_digit (slice_get w 0) false) None (Some (name_token w))) (number-bare (number_from 0 w))
    (either-bare (option_map_or is_digit (slice_get w 0) false) None (Some (name_token w)) none-bare (called-bare w))

lifetime-bare : (o : Option Token) → Bare (as_lifetime o)
unfolding Bare
lifetime-bare None = tt
lifetime-bare (Some (name n)) = refl
lifetime-bare (Some (keyword k)) = tt
lifetime-bare (Some (primitive p)) = tt
lifetime-bare (Some (lifetime n)) = tt
lifetime-bare (Some (variable n)) = tt
lifetime-bare (Some (number n)) = tt
lifetime-bare (Some (sign s)) = tt
lifetime-bare (Some arrow) = tt

variable-bare : (o : Option Token) → Bare (as_variable o)
unfolding Bare
variable-bare None = tt
variable-bare (Some (name n)) = refl
variable-bare (Some (keyword k)) = tt
variable-bare (Some (primitive p)) = tt
variable-bare (Some (lifetime n)) = tt
variable-bare (Some (variable n)) = tt
variable-bare (Some (number n)) = tt
variable-bare (Some (sign s)) = tt
variable-bare (Some arrow) = tt

-- the sign of a byte, if it is this one, or else one of the others
abbrev Found : Type 0
Found = Option (List ℕ × Sign)

abbrev bare_sign : Found → Type 0
bare_sign o = Bare (option_map sign (option_map (λ s. s.1) o))

this-or : (c : Bool) (s : List ℕ × Sign) (o : Found) → is_type_sign (sign s.1) ≡ false → bare_sign o → bare_sign (cond c (Some s) o)
unfolding Bare
this-or true s o a b = a
this-or false s o a b = b

never-this : (c : Bool) (s : List ℕ × Sign) (o : Found) → c ≡ false → bare_sign o → bare_sign (cond c (Some s) o)
never-this true s o e b = absurd cc
never-this false s o e b = b

-- one byte is another
byte-other : (b c : ℕ) → b == c ≡ false → bytes_eq (b ∷ []) (c ∷ []) ≡ false
byte-other b c e = ap (λ (x : Bool). x && true) e

-- none of the signs is a sign of types, or the byte is another
abbrev AllOther : ℕ → List (List ℕ × Sign) → Type 0
AllOther b [] = Unit {0}
AllOther b (s ∷ ss) = ((is_type_sign (sign s.1) ≡ false) ⊎ (bytes_eq (b ∷ []) s.0 ≡ false)) × AllOther b ss

found-bare : (b : ℕ) (ss : List (List ℕ × Sign)) → AllOther b ss → bare_sign (find (λ s. bytes_eq (b ∷ []) s.0) ss)
found-bare b [] h = none-bare
found-bare b (s ∷ ss) h =
    let rest = found-bare b ss h.1 in
    elim h.0 [
      | inl f ↦ this-or (bytes_eq (b ∷ []) s.0) s (find (λ s. bytes_eq (b ∷ []) s.0) ss) f rest
      | inr f ↦ never-this (bytes_eq (b ∷ []) s.0) s (find (λ s. bytes_eq (b ∷ []) s.0) ss) f rest
    ]

sign-bare : (b : ℕ) → is_type_byte b ≡ false → Bare (sign_token b)
sign-bare b e =
    let parts = or-none (b == 61) (b == 123) e in
    found-bare b signs (inl refl, (inl refl, (inl refl, (inl refl, (inl refl, (inl refl, (inl refl, (inl refl, (inl refl, (inl refl, (inl refl, (inl refl, (inl refl, (inr (byte-other b 61 parts.0), (inr (byte-other b 123 parts.1), (inl refl, tt))))))))))))))))

tokens-free : (ps : List LinePiece) → Plain ps → Free (tokens_from ps)
unfolding Bare Free
tokens-free [] h = refl
tokens-free (word w ∷ ps) h = front-free (word_token w) (tokens_from ps) (word-bare w) (tokens-free ps h)
tokens-free (quoted w ∷ ps) h = front-free (as_lifetime (word_token w)) (tokens_from ps) (lifetime-bare (word_token w)) (tokens-free ps h)
tokens-free (queried w ∷ ps) h = front-free (as_variable (word_token w)) (tokens_from ps) (variable-bare (word_token w)) (tokens-free ps h)
tokens-free (pointing ∷ ps) h = front-free (Some arrow) (tokens_from ps) refl (tokens-free ps h)
tokens-free (byte b ∷ ps) h =
    either-free (b == 32) (tokens_from ps) (in_front (sign_token b) (tokens_from ps)) (tokens-free ps h.1) (front-free (sign_token b) (tokens_from ps) (sign-bare b h.0) (tokens-free ps h.1))

free-tokens : (bytes : List ℕ) (ts : List Token) → list_any is_type_byte bytes ≡ false → tokens_of bytes ≡ Some ts → has_types ts ≡ false
unfolding tokens_of Free
free-tokens bytes ts e is = subst Free is (tokens-free (pieces bytes) (pieces-plain bytes e))

pub type-bytes : (bytes : List ℕ) (ts : List Token) → tokens_of bytes ≡ Some ts → has_types ts ≡ true → list_any (λ b. b == 61 || b == 123) bytes ≡ true
type-bytes bytes ts is typed =
    elim (cases_Bool (list_any is_type_byte bytes)) [
      | inl h ↦ h
      | inr h ↦ absurd (both (free-tokens bytes ts h is) typed)
    ]
  where
    both : {x : Bool} → x ≡ false → x ≡ true → ⊥
    both a b = cc

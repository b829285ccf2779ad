-- The names in a written line have no colon, so that a companion's name says which trait it is of, and which type it is about.
use Rattle.std.proofs.Common.{◌≡◌, ℕ, Bool, true, false, List, [], ◌∷◌, ◌++◌, Option, Some, None, refl, sym, ap, ◌∙◌, subst, if◌then◌else◌, append_assoc}
use Rattle.std.proofs.lemmas.Option.{same_Some}
use Rattle.std.specs.Prelude.{slice_get, ◌==◌, ◌||◌}
use Rattle.std.specs.List.{list_all, list_any}
use Rattle.std.specs.Option.{option_map, option_map_or}
use Rattle.sessions.specs.TypeTerms.Promised.Label.{Label}
use Rattle.sessions.specs.TextLanguage.Words.{Keyword, is_word_byte, is_digit, Sign, sign_at, primitive_named, keyword_named}
use Rattle.sessions.specs.TextLanguage.Tokens.{Token, keyword, primitive, name, lifetime, variable, number, sign, arrow, LinePiece, word, quoted, queried, pointing, byte, onto, before, in_front, word_token, as_lifetime, as_variable, sign_token, name_token, number_from, tokens_from, tokens_of, pieces}
use Rattle.sessions.specs.TextLanguage.Promised.Syntax.{Params, WrittenBound, WrittenClause, WrittenLine, written_crate, written_trait, written_impl}
use Rattle.sessions.specs.TextLanguage.Promised.Desugared.{companion_name}
use Rattle.sessions.specs.TextLanguage.Syntax.{params_spelling, written_spelling}
use Rattle.sessions.specs.TextLanguage.Written.{IsSpelled}
use Rattle.sessions.proofs.TextLanguage.SameGrammarPieces.{not_word}

abbrev pub has_colon : List ℕ → Bool
has_colon n = list_any (λ c. c == 58) n

-- ---- the pieces of a line
abbrev IsPlainPiece : LinePiece → Type 0
IsPlainPiece (word w) = has_colon w ≡ false
IsPlainPiece _ = Unit {0}

abbrev ArePlainPieces : List LinePiece → Type 0
ArePlainPieces [] = Unit {0}
ArePlainPieces (p ∷ ps) = IsPlainPiece p × ArePlainPieces ps

more-plain : (b : ℕ) (w : List ℕ) → is_word_byte b ≡ true → has_colon w ≡ false → has_colon (b ∷ w) ≡ false
more-plain b w h g = ap (λ (x : Bool). x || has_colon w) (not_word b 58 refl h) ∙ g

onto-plain : (b : ℕ) (ps : List LinePiece) → is_word_byte b ≡ true → ArePlainPieces ps → ArePlainPieces (onto b ps)
onto-plain b [] h f = (more-plain b [] h refl, tt)
onto-plain b (word w ∷ ps) h f = (more-plain b w h f.0, f.1)
onto-plain b (quoted w ∷ ps) h f = (more-plain b [] h refl, f)
onto-plain b (queried w ∷ ps) h f = (more-plain b [] h refl, f)
onto-plain b (pointing ∷ ps) h f = (more-plain b [] h refl, f)
onto-plain b (byte c ∷ ps) h f = (more-plain b [] h refl, f)

before-plain : (b : ℕ) (ps : List LinePiece) → ArePlainPieces ps → ArePlainPieces (before b ps)
before-plain b [] f = (tt, tt)
before-plain b (word w ∷ ps) f = by (b == 39) (b == 63)
  where
    by : (x y : Bool) → ArePlainPieces (if x then quoted w ∷ ps else (if y then queried w ∷ ps else byte b ∷ word w ∷ ps))
    by true y = (tt, f.1)
    by false true = (tt, f.1)
    by false false = (tt, f)
before-plain b (quoted w ∷ ps) f = (tt, f)
before-plain b (queried w ∷ ps) f = (tt, f)
before-plain b (pointing ∷ ps) f = (tt, f)
before-plain b (byte c ∷ ps) f = by _
  where
    by : (x : Bool) → ArePlainPieces (if x then pointing ∷ ps else byte b ∷ byte c ∷ ps)
    by true = (tt, f.1)
    by false = (tt, f)

pieces-plain : (line : List ℕ) → ArePlainPieces (pieces line)
pieces-plain [] = tt
pieces-plain (b ∷ bs) = by (is_word_byte b) refl (pieces-plain bs)
  where
    by : (x : Bool) → is_word_byte b ≡ x → ArePlainPieces (pieces bs) → ArePlainPieces (if x then onto b (pieces bs) else before b (pieces bs))
    by true h f = onto-plain b (pieces bs) h f
    by false h f = before-plain b (pieces bs) f

-- ---- their tokens
abbrev pub IsPlainToken : Token → Type 0
IsPlainToken (name n) = has_colon n ≡ false
IsPlainToken _ = Unit {0}

abbrev pub ArePlain : List Token → Type 0
ArePlain [] = Unit {0}
ArePlain (t ∷ ts) = IsPlainToken t × ArePlain ts

name-plain : (w : List ℕ) → has_colon w ≡ false → IsPlainToken (name_token w)
name-plain w h = by (keyword_named w) (primitive_named w)
  where
    by : (k : Option Keyword) (p : Option Label) → IsPlainToken (elim k [ Some x ↦ keyword x | None ↦ elim p [ Some y ↦ primitive y | None ↦ name w ] ])
    by (Some x) p = tt
    by None (Some y) = tt
    by None None = h

word-plain : (w : List ℕ) (x : Token) → has_colon w ≡ false → word_token w ≡ Some x → IsPlainToken x
word-plain w x h e = by (list_all is_digit w) (option_map_or is_digit (slice_get w 0) false) e
  where
    by : (a b : Bool) → (if a then Some (number (number_from 0 w)) else (if b then None else Some (name_token w))) ≡ Some x → IsPlainToken x
    by true b g = subst IsPlainToken (same_Some (number (number_from 0 w)) x g) tt
    by false true g = absurd cc
    by false false g = subst IsPlainToken (same_Some (name_token w) x g) (name-plain w h)

lifetime-plain : (o : Option Token) (x : Token) → as_lifetime o ≡ Some x → IsPlainToken x
lifetime-plain (Some (name n)) x e = subst IsPlainToken (same_Some (lifetime n) x e) tt
lifetime-plain (Some (keyword k)) x e = absurd cc
lifetime-plain (Some (primitive k)) x e = absurd cc
lifetime-plain (Some (lifetime k)) x e = absurd cc
lifetime-plain (Some (variable k)) x e = absurd cc
lifetime-plain (Some (number k)) x e = absurd cc
lifetime-plain (Some (sign k)) x e = absurd cc
lifetime-plain (Some arrow) x e = absurd cc
lifetime-plain None x e = absurd cc

variable-plain : (o : Option Token) (x : Token) → as_variable o ≡ Some x → IsPlainToken x
variable-plain (Some (name n)) x e = subst IsPlainToken (same_Some (variable n) x e) tt
variable-plain (Some (keyword k)) x e = absurd cc
variable-plain (Some (primitive k)) x e = absurd cc
variable-plain (Some (lifetime k)) x e = absurd cc
variable-plain (Some (variable k)) x e = absurd cc
variable-plain (Some (number k)) x e = absurd cc
variable-plain (Some (sign k)) x e = absurd cc
variable-plain (Some arrow) x e = absurd cc
variable-plain None x e = absurd cc

sign-plain : (o : Option Sign) (x : Token) → option_map sign o ≡ Some x → IsPlainToken x
sign-plain None x e = absurd cc
sign-plain (Some s) x e = subst IsPlainToken (same_Some (sign s) x e) tt

in-front : (t : Option Token) (ts : Option (List Token)) (all : List Token) → in_front t ts ≡ Some all → ((x : Token) → t ≡ Some x → IsPlainToken x)
    → ((rest : List Token) → ts ≡ Some rest → ArePlain rest) → ArePlain all
in-front None ts all e f g = absurd cc
in-front (Some x) None all e f g = absurd cc
in-front (Some x) (Some rest) all e f g = subst ArePlain (same_Some (x ∷ rest) all e) (f x refl, g rest refl)

tokens-plain : (ps : List LinePiece) (ts : List Token) → ArePlainPieces ps → tokens_from ps ≡ Some ts → ArePlain ts
tokens-plain [] ts h e = subst ArePlain (same_Some [] ts e) tt
tokens-plain (word w ∷ ps) ts h e = in-front (word_token w) (tokens_from ps) ts e (λ x g. word-plain w x h.0 g) (λ rest g. tokens-plain ps rest h.1 g)
tokens-plain (quoted w ∷ ps) ts h e = in-front (as_lifetime (word_token w)) (tokens_from ps) ts e (λ x g. lifetime-plain (word_token w) x g) (λ rest g. tokens-plain ps rest h.1 g)
tokens-plain (queried w ∷ ps) ts h e = in-front (as_variable (word_token w)) (tokens_from ps) ts e (λ x g. variable-plain (word_token w) x g) (λ rest g. tokens-plain ps rest h.1 g)
tokens-plain (pointing ∷ ps) ts h e = in-front (Some arrow) (tokens_from ps) ts e (λ x g. subst IsPlainToken (same_Some arrow x g) tt) (λ rest g. tokens-plain ps rest h.1 g)
tokens-plain (byte b ∷ ps) ts h e = by (b == 32) e (λ rest g. tokens-plain ps rest h.1 g)
  where
    by : (s : Bool) → (if s then tokens_from ps else in_front (sign_token b) (tokens_from ps)) ≡ Some ts → ((rest : List Token) → tokens_from ps ≡ Some rest → ArePlain rest) → ArePlain ts
    by true g k = k ts g
    by false g k = in-front (sign_token b) (tokens_from ps) ts g (λ x q. sign-plain (sign_at b) x q) k

pub written-plain : (line : List ℕ) (w : WrittenLine) → IsSpelled line w → ArePlain (written_spelling w)
unfolding tokens_of
written-plain line w s = tokens-plain (pieces line) (written_spelling w) (pieces-plain line) s

-- ---- names of a line
plain-behind : (xs ys : List Token) → ArePlain (xs ++ ys) → ArePlain ys
plain-behind [] ys h = h
plain-behind (x ∷ xs) ys h = plain-behind xs ys h.1

plain-front : (xs ys : List Token) → ArePlain (xs ++ ys) → ArePlain xs
plain-front [] ys h = tt
plain-front (x ∷ xs) ys h = (h.0, plain-front xs ys h.1)

pub crate-plain : (n : List ℕ) (us : List (List ℕ)) → ArePlain (written_spelling (written_crate n us)) → has_colon n ≡ false
crate-plain n us h = h.1.0

pub trait-plain : (f a : Bool) (n : List ℕ) (ps : Params) (bs : List WrittenBound) (ts : List (List ℕ)) → ArePlain (written_spelling (written_trait f a n ps bs ts)) → has_colon n ≡ false
trait-plain false false n ps bs ts h = h.1.0
trait-plain false true n ps bs ts h = h.1.1.0
trait-plain true false n ps bs ts h = h.1.1.0
trait-plain true true n ps bs ts h = h.1.1.1.0

pub impl-plain : (ps : Params) (h : WrittenClause) (ks : List WrittenClause) → ArePlain (written_spelling (written_impl ps h ks)) → has_colon h.bound.bound.trait ≡ false
impl-plain ps h ks p = (plain-behind (params_spelling ps) _ (plain-front (params_spelling ps ++ _) _ p.1)).0

-- ---- names of companions
colon-after : (m n : List ℕ) → has_colon (m ++ 58 ∷ n) ≡ true
colon-after [] n = refl
colon-after (x ∷ m) n = by (x == 58) (colon-after m n)
  where
    by : (b : Bool) → has_colon (m ++ 58 ∷ n) ≡ true → b || has_colon (m ++ 58 ∷ n) ≡ true
    by true e = refl
    by false e = e

name-is : (m n : List ℕ) → companion_name m n ≡ m ++ 58 ∷ 58 ∷ n
name-is m n = append_assoc m (58 ∷ 58 ∷ []) n

pub companion-has-colon : (m n : List ℕ) → has_colon (companion_name m n) ≡ true
companion-has-colon m n = ap has_colon (name-is m n) ∙ colon-after m (58 ∷ n)

head-of : {x y : ℕ} {xs ys : List ℕ} → x ∷ xs ≡ y ∷ ys → x ≡ y
head-of e = cc

tail-of : {x y : ℕ} {xs ys : List ℕ} → x ∷ xs ≡ y ∷ ys → xs ≡ ys
tail-of e = cc

same-list : {x y : ℕ} {xs ys : List ℕ} → x ≡ y → xs ≡ ys → x ∷ xs ≡ y ∷ ys
same-list e f = cc

no-colon-first : (x : ℕ) (xs : List ℕ) → has_colon (x ∷ xs) ≡ false → x ≡ 58 → ⊥
no-colon-first x xs h e = clash (subst (λ z. has_colon (z ∷ xs) ≡ false) e h)
  where
    clash : true ≡ false → ⊥
    clash q = cc

rest-plain : (x : ℕ) (xs : List ℕ) → has_colon (x ∷ xs) ≡ false → has_colon xs ≡ false
rest-plain x xs h = by (x == 58) h
  where
    by : (b : Bool) → b || has_colon xs ≡ false → has_colon xs ≡ false
    by true e = absurd cc
    by false e = e

split-there : (m n a b : List ℕ) → has_colon m ≡ false → has_colon n ≡ false → m ++ 58 ∷ 58 ∷ a ≡ n ++ 58 ∷ 58 ∷ b → (m ≡ n) × (a ≡ b)
split-there [] [] a b h g e = (refl, tail-of (tail-of e))
split-there [] (y ∷ n) a b h g e = absurd (no-colon-first y n g (sym (head-of e)))
split-there (x ∷ m) [] a b h g e = absurd (no-colon-first x m h (head-of e))
split-there (x ∷ m) (y ∷ n) a b h g e =
    let q = split-there m n a b (rest-plain x m h) (rest-plain y n g) (tail-of e) in
    (same-list (head-of e) q.0, q.1)

-- what stands before the first colon, and behind the second one
pub names-split : (m n a b : List ℕ) → has_colon m ≡ false → has_colon n ≡ false → companion_name m a ≡ companion_name n b → (m ≡ n) × (a ≡ b)
names-split m n a b h g e = split-there m n a b h g (sym (name-is m a) ∙ e ∙ name-is n b)

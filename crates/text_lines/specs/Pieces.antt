-- Lists of tokens as they are made: of tokens of the line, of other tokens, and of names of companions.
use Rattle.std.specs.Prelude.{◌≡◌, ℕ, List, [], ◌∷◌, ◌++◌, Result, IfOk, map}
use Rattle.std.specs.List.{flat_map}
use Rattle.std.specs.Global.{Vec}
use Rattle.text_language.specs.Words.{Sign, comma}
use Rattle.text_language.specs.Tokens.{Token, name}
use Rattle.text_language.specs.Promised.Desugared.{companion_name}
use Rattle.text_lines.specs.TokenViews.{token_of, tokens_in}
use Rattle.text_lines.specs.declared.line_lists.Piece.{Piece}
use Rattle.text_lines.specs.declared.line_lists.Piece.TheVariants as pieces

abbrev pub piece_tokens : Piece → List Token
piece_tokens (pieces.Tokens ts) = tokens_in ts.now
piece_tokens (pieces.Token t) = token_of t ∷ []
piece_tokens (pieces.Companion t n) = name (companion_name t.now n.now) ∷ []

abbrev pub pieces_tokens : List Piece → List Token
pieces_tokens ps = flat_map piece_tokens ps

-- These tokens were written behind those that were there. Nothing is stated if memory was refused.
abbrev pub Writes : {E : Type 0} → Result (Unit {0}) E → List Token → List Piece → List Piece → Type 0
Writes result ts old new = IfOk result (λ u. pieces_tokens new ≡ pieces_tokens old ++ ts)

-- Each part behind a mark: the first behind this one, and the others behind the other.
abbrev pub led : List Token → List Token → List (List Token) → List Token
led a b [] = []
led a b (p ∷ ps) = a ++ (p ++ led b b ps)

-- The sign before a further part, where the first part stands behind this one.
abbrev pub sign_behind : Sign → List (List Token) → Sign
sign_behind s [] = s
sign_behind s (p ∷ ps) = comma

-- Each part behind these tokens.
abbrev pub each_behind : List Token → List (List Token) → List (List Token)
each_behind ts ps = map (λ p. ts ++ p) ps

-- The lists of several lines.
abbrev pub lists_in : List (Vec Piece) → List (List Token)
lists_in vs = map (λ v. pieces_tokens v.items) vs

-- the names of companions in a list, in order
abbrev pub companions_in : List Piece → List (List ℕ)
companions_in [] = []
companions_in (pieces.Tokens ts ∷ ps) = companions_in ps
companions_in (pieces.Token t ∷ ps) = companions_in ps
companions_in (pieces.Companion t n ∷ ps) = companion_name t.now n.now ∷ companions_in ps

abbrev pub names_in : List (Vec ℕ) → List (List ℕ)
names_in vs = map (λ v. v.items) vs

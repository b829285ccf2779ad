-- Values of the code as values of the definitions: tokens.
use Rattle.std.specs.Prelude.{ℕ, List, map}
use Rattle.std.specs.Borrow.{Bor}
use Rattle.type_terms.specs.Promised.Label.{Label, bool, char, str, int, uint}
use Rattle.text_language.specs.Words as words
use Rattle.text_language.specs.Tokens as token
use Rattle.text_lines.specs.declared.token.Keyword.{Keyword}
use Rattle.text_lines.specs.declared.token.Keyword.TheVariants as keywords
use Rattle.text_lines.specs.declared.token.Primitive.{Primitive}
use Rattle.text_lines.specs.declared.token.Primitive.TheVariants as primitives
use Rattle.text_lines.specs.declared.token.Sign.{Sign}
use Rattle.text_lines.specs.declared.token.Sign.TheVariants as signs
use Rattle.text_lines.specs.declared.token.Token.{Token}
use Rattle.text_lines.specs.declared.token.Token.TheVariants as tokens

-- the same keyword in the definitions
abbrev pub keyword_of : Keyword → words.Keyword
keyword_of keywords.Crate = words.crate_word
keyword_of keywords.Uses = words.uses_word
keyword_of keywords.Fundamental = words.fundamental_word
keyword_of keywords.Struct = words.struct_word
keyword_of keywords.Auto = words.auto_word
keyword_of keywords.Trait = words.trait_word
keyword_of keywords.Impl = words.impl_word
keyword_of keywords.For = words.for_word
keyword_of keywords.Where = words.where_word
keyword_of keywords.Prove = words.prove_word
keyword_of keywords.Refute = words.refute_word
keyword_of keywords.In = words.in_word
keyword_of keywords.Later = words.later_word
keyword_of keywords.Supers = words.supers_word
keyword_of keywords.Mut = words.mut_word
keyword_of keywords.Const = words.const_word
keyword_of keywords.Fn = words.fn_word
keyword_of keywords.Dyn = words.dyn_word
keyword_of keywords.Type = words.type_word

-- the label of a primitive type
abbrev pub primitive_label : Primitive → Label
primitive_label primitives.Bool = bool
primitive_label primitives.Char = char
primitive_label primitives.Str = str
primitive_label primitives.I8 = int 0
primitive_label primitives.I16 = int 1
primitive_label primitives.I32 = int 2
primitive_label primitives.I64 = int 3
primitive_label primitives.I128 = int 4
primitive_label primitives.Isize = int 5
primitive_label primitives.U8 = uint 0
primitive_label primitives.U16 = uint 1
primitive_label primitives.U32 = uint 2
primitive_label primitives.U64 = uint 3
primitive_label primitives.U128 = uint 4
primitive_label primitives.Usize = uint 5

-- the same sign in the definitions
abbrev pub sign_of : Sign → words.Sign
sign_of signs.OpenAngle = words.open_angle
sign_of signs.CloseAngle = words.close_angle
sign_of signs.OpenRound = words.open_round
sign_of signs.CloseRound = words.close_round
sign_of signs.OpenSquare = words.open_square
sign_of signs.CloseSquare = words.close_square
sign_of signs.Comma = words.comma
sign_of signs.Colon = words.colon
sign_of signs.Semicolon = words.semicolon
sign_of signs.Ampersand = words.ampersand
sign_of signs.Star = words.star
sign_of signs.Plus = words.plus
sign_of signs.Exclamation = words.exclamation
sign_of signs.Equals = words.equals
sign_of signs.OpenBrace = words.open_brace
sign_of signs.CloseBrace = words.close_brace

-- A token. Names and numbers are the bytes of the line.
abbrev pub token_of : Token → token.Token
token_of (tokens.Keyword k) = token.keyword (keyword_of k)
token_of (tokens.Primitive p) = token.primitive (primitive_label p)
token_of (tokens.Name w) = token.name w.now
token_of (tokens.Lifetime w) = token.lifetime w.now
token_of (tokens.Variable w) = token.variable w.now
token_of (tokens.Number w) = token.number (token.number_from 0 w.now)
token_of (tokens.Sign b) = token.sign (sign_of b)
token_of tokens.Arrow = token.arrow

-- the tokens in order
abbrev pub tokens_in : List Token → List token.Token
tokens_in ts = map token_of ts

-- the bytes of a name that is borrowed from the line
abbrev pub text_of : Bor (List ℕ) → List ℕ
text_of n = n.now

-- tokens that are borrowed from those of the line
abbrev pub slice_tokens : Bor (List Token) → List token.Token
slice_tokens ts = tokens_in ts.now

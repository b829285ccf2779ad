-- Each mark is read where its token stands.
use Rattle.std.proofs.Common.{◌≡◌, List, [], ◌∷◌, Some, None, refl, ap}
use Rattle.std.proofs.lemmas.Option.{same_Some}
use Rattle.text_language.specs.Words.{open_angle, close_angle, open_round, close_round, comma, colon, semicolon, plus, equals, open_brace, close_brace, uses_word, where_word, for_word, in_word, type_word}
use Rattle.text_language.specs.Tokens.{Token, keyword, sign}
use Rattle.text_lines.specs.Marks.{after_comma, after_plus, after_colon, after_open_angle, after_close_angle, after_open_round, after_close_round, after_uses, after_where, after_for, after_in, after_equals, after_semicolon, after_open_brace, after_close_brace, after_type}
use Rattle.text_lines.specs.TokenSteps.{NoPlus}
use Rattle.text_lines.proofs.IsPart.{IsMark}

comma-takes : (ts r : List Token) → after_comma ts ≡ Some r → ts ≡ sign comma ∷ r
comma-takes (sign comma ∷ ts) r e = ap (λ (x : List Token). sign comma ∷ x) (same_Some ts r e)
comma-takes _ r e = absurd cc

pub comma-mark : IsMark after_comma (sign comma)
comma-mark = record { takes = comma-takes; again = λ r. refl }

plus-takes : (ts r : List Token) → after_plus ts ≡ Some r → ts ≡ sign plus ∷ r
plus-takes (sign plus ∷ ts) r e = ap (λ (x : List Token). sign plus ∷ x) (same_Some ts r e)
plus-takes _ r e = absurd cc

pub plus-mark : IsMark after_plus (sign plus)
plus-mark = record { takes = plus-takes; again = λ r. refl }

colon-takes : (ts r : List Token) → after_colon ts ≡ Some r → ts ≡ sign colon ∷ r
colon-takes (sign colon ∷ ts) r e = ap (λ (x : List Token). sign colon ∷ x) (same_Some ts r e)
colon-takes _ r e = absurd cc

pub colon-mark : IsMark after_colon (sign colon)
colon-mark = record { takes = colon-takes; again = λ r. refl }

open_angle-takes : (ts r : List Token) → after_open_angle ts ≡ Some r → ts ≡ sign open_angle ∷ r
open_angle-takes (sign open_angle ∷ ts) r e = ap (λ (x : List Token). sign open_angle ∷ x) (same_Some ts r e)
open_angle-takes _ r e = absurd cc

pub open_angle-mark : IsMark after_open_angle (sign open_angle)
open_angle-mark = record { takes = open_angle-takes; again = λ r. refl }

close_angle-takes : (ts r : List Token) → after_close_angle ts ≡ Some r → ts ≡ sign close_angle ∷ r
close_angle-takes (sign close_angle ∷ ts) r e = ap (λ (x : List Token). sign close_angle ∷ x) (same_Some ts r e)
close_angle-takes _ r e = absurd cc

pub close_angle-mark : IsMark after_close_angle (sign close_angle)
close_angle-mark = record { takes = close_angle-takes; again = λ r. refl }

open_round-takes : (ts r : List Token) → after_open_round ts ≡ Some r → ts ≡ sign open_round ∷ r
open_round-takes (sign open_round ∷ ts) r e = ap (λ (x : List Token). sign open_round ∷ x) (same_Some ts r e)
open_round-takes _ r e = absurd cc

pub open_round-mark : IsMark after_open_round (sign open_round)
open_round-mark = record { takes = open_round-takes; again = λ r. refl }

close_round-takes : (ts r : List Token) → after_close_round ts ≡ Some r → ts ≡ sign close_round ∷ r
close_round-takes (sign close_round ∷ ts) r e = ap (λ (x : List Token). sign close_round ∷ x) (same_Some ts r e)
close_round-takes _ r e = absurd cc

pub close_round-mark : IsMark after_close_round (sign close_round)
close_round-mark = record { takes = close_round-takes; again = λ r. refl }

uses-takes : (ts r : List Token) → after_uses ts ≡ Some r → ts ≡ keyword uses_word ∷ r
uses-takes (keyword uses_word ∷ ts) r e = ap (λ (x : List Token). keyword uses_word ∷ x) (same_Some ts r e)
uses-takes _ r e = absurd cc

pub uses-mark : IsMark after_uses (keyword uses_word)
uses-mark = record { takes = uses-takes; again = λ r. refl }

where-takes : (ts r : List Token) → after_where ts ≡ Some r → ts ≡ keyword where_word ∷ r
where-takes (keyword where_word ∷ ts) r e = ap (λ (x : List Token). keyword where_word ∷ x) (same_Some ts r e)
where-takes _ r e = absurd cc

pub where-mark : IsMark after_where (keyword where_word)
where-mark = record { takes = where-takes; again = λ r. refl }

for-takes : (ts r : List Token) → after_for ts ≡ Some r → ts ≡ keyword for_word ∷ r
for-takes (keyword for_word ∷ ts) r e = ap (λ (x : List Token). keyword for_word ∷ x) (same_Some ts r e)
for-takes _ r e = absurd cc

pub for-mark : IsMark after_for (keyword for_word)
for-mark = record { takes = for-takes; again = λ r. refl }

in-takes : (ts r : List Token) → after_in ts ≡ Some r → ts ≡ keyword in_word ∷ r
in-takes (keyword in_word ∷ ts) r e = ap (λ (x : List Token). keyword in_word ∷ x) (same_Some ts r e)
in-takes _ r e = absurd cc

pub in-mark : IsMark after_in (keyword in_word)
in-mark = record { takes = in-takes; again = λ r. refl }

equals-takes : (ts r : List Token) → after_equals ts ≡ Some r → ts ≡ sign equals ∷ r
equals-takes (sign equals ∷ ts) r e = ap (λ (x : List Token). sign equals ∷ x) (same_Some ts r e)
equals-takes _ r e = absurd cc

pub equals-mark : IsMark after_equals (sign equals)
equals-mark = record { takes = equals-takes; again = λ r. refl }

semicolon-takes : (ts r : List Token) → after_semicolon ts ≡ Some r → ts ≡ sign semicolon ∷ r
semicolon-takes (sign semicolon ∷ ts) r e = ap (λ (x : List Token). sign semicolon ∷ x) (same_Some ts r e)
semicolon-takes _ r e = absurd cc

pub semicolon-mark : IsMark after_semicolon (sign semicolon)
semicolon-mark = record { takes = semicolon-takes; again = λ r. refl }

open_brace-takes : (ts r : List Token) → after_open_brace ts ≡ Some r → ts ≡ sign open_brace ∷ r
open_brace-takes (sign open_brace ∷ ts) r e = ap (λ (x : List Token). sign open_brace ∷ x) (same_Some ts r e)
open_brace-takes _ r e = absurd cc

pub open_brace-mark : IsMark after_open_brace (sign open_brace)
open_brace-mark = record { takes = open_brace-takes; again = λ r. refl }

close_brace-takes : (ts r : List Token) → after_close_brace ts ≡ Some r → ts ≡ sign close_brace ∷ r
close_brace-takes (sign close_brace ∷ ts) r e = ap (λ (x : List Token). sign close_brace ∷ x) (same_Some ts r e)
close_brace-takes _ r e = absurd cc

pub close_brace-mark : IsMark after_close_brace (sign close_brace)
close_brace-mark = record { takes = close_brace-takes; again = λ r. refl }

type-takes : (ts r : List Token) → after_type ts ≡ Some r → ts ≡ keyword type_word ∷ r
type-takes (keyword type_word ∷ ts) r e = ap (λ (x : List Token). keyword type_word ∷ x) (same_Some ts r e)
type-takes _ r e = absurd cc

pub type-mark : IsMark after_type (keyword type_word)
type-mark = record { takes = type-takes; again = λ r. refl }

pub no-plus : (ts : List Token) → NoPlus ts → after_plus ts ≡ None
no-plus [] h = refl
no-plus (sign plus ∷ ts) h = absurd h
no-plus _ h = refl

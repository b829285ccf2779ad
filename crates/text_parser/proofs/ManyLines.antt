-- A line stands for no more lines than it has tokens, and so than it has bytes.
use Rattle.std.proofs.Common.{◌≡◌, ℕ, suc, ◌+◌, ◌≤◌, Bool, ap, ◌∙◌, List, [], ◌∷◌, ◌++◌, length, map, length-append, arith}
use Rattle.std.specs.List.{flat_map}
use Rattle.std.proofs.lemmas.List.{length-map}
use Rattle.text_language.specs.Words.{close_brace, semicolon, type_word, fundamental_word, auto_word, struct_word, trait_word}
use Rattle.text_language.specs.Tokens.{Token, keyword, name, sign}
use Rattle.text_language.specs.Promised.Syntax.{Params, Clause, Line, trait_line, impl_line, prove_line, refute_line, Binding, WrittenClause, WrittenLine, written_crate, written_struct, written_trait, written_impl, written_prove, written_refute, written_later, written_supers}
use Rattle.text_language.specs.Promised.Desugared.{companion_name, value_name, bounds_of, clauses_of, asked_of, asking, desugared}
use Rattle.text_language.specs.Syntax.{if_so, after_each, in_braces, params_spelling, fields_spelling, bounds_spelling, where_spelling, binding_spelling, written_bound_spelling, written_clause_spelling, spelling, written_spelling}
use Rattle.text_language.specs.Written.{IsSpelled}
use Rattle.text_parser.proofs.Shortness.{tokens-of-few}

-- ---- the tokens of several parts, with one more for each
abbrev pub total : List (List Token) → ℕ
total [] = 0
total (p ∷ ps) = suc (length p + total ps)

pub count-total : (ps : List (List Token)) → length ps ≤ total ps
count-total [] = omega arith
count-total (p ∷ ps) = omega (arith, count-total ps)

pub each-total : (k : Token) (ps : List (List Token)) → length (after_each k ps) ≡ total ps
each-total k [] = omega arith
each-total k (p ∷ ps) = omega (arith, length-append p (after_each k ps), each-total k ps)

pub braces-total : (ps : List (List Token)) → total ps ≤ length (in_braces ps)
braces-total [] = omega arith
braces-total (p ∷ ps) =
    let k = keyword type_word in
    let end = sign close_brace ∷ [] in
    omega (arith, length-append p (after_each k ps ++ end), length-append (after_each k ps) end, each-total k ps)

-- ---- lines
some-tokens : (xs : List Token) (t : Token) (ys : List Token) → 1 ≤ length (xs ++ t ∷ ys)
some-tokens xs t ys = omega (arith, length-append xs (t ∷ ys))

pub trait-front : (f a : Bool) (n : List ℕ) (ps : Params) → 2 ≤ length (spelling (trait_line f a n ps []))
trait-front f a n ps =
    let rest = keyword trait_word ∷ name n ∷ (params_spelling ps ++ []) in
    omega (arith, length-append (if_so f fundamental_word) (if_so a auto_word ++ rest), length-append (if_so a auto_word) rest)

one-asked : (query : Clause → List Clause → Line) (qs : List Clause) → length (asking query qs) ≤ 1
one-asked query [] = omega arith
one-asked query (q ∷ qs) = omega arith

impl-front : (ps : Params) (h : WrittenClause) → 1 ≤ length (spelling (impl_line ps (record { subject = h.subject; bound = h.bound.bound }) []))
impl-front ps h = omega arith

clauses-count : (k : WrittenClause) → length (clauses_of k) ≡ suc (length k.bound.bindings)
clauses-count k = length-map (bounds_of k.bound) _ ∙ ap suc (length-map k.bound.bindings _)

pub lines-few : (w : WrittenLine) → length (desugared w) ≤ length (written_spelling w)
lines-few (written_crate n us) = omega arith
lines-few (written_struct f n ps fs) = some-tokens (if_so f fundamental_word) (keyword struct_word) (name n ∷ (params_spelling ps ++ fields_spelling fs))
lines-few (written_trait f a n ps bs ts) =
    let front = spelling (trait_line f a n ps []) in
    let bounds = bounds_spelling (map written_bound_spelling bs) in
    let ended = map (λ t. name t ∷ sign semicolon ∷ []) ts in
    omega (
      arith,
      trait-front f a n ps,
      length-append front (bounds ++ in_braces ended),
      length-append bounds (in_braces ended),
      braces-total ended,
      count-total ended,
      length-map ts (λ (t : List ℕ). name t ∷ sign semicolon ∷ []),
      length-map ts (λ t. trait_line f a (companion_name n t) (record ps { types = ps.types ++ value_name ∷ [] }) []),
    )
lines-few (written_impl ps h ks) =
    let front = spelling (impl_line ps (record { subject = h.subject; bound = h.bound.bound }) []) in
    let wheres = where_spelling (map written_clause_spelling ks) in
    let ended = map (λ v. binding_spelling v ++ sign semicolon ∷ []) h.bound.bindings in
    omega (
      arith,
      impl-front ps h,
      length-append front (wheres ++ in_braces ended),
      length-append wheres (in_braces ended),
      braces-total ended,
      count-total ended,
      length-map h.bound.bindings (λ (v : Binding). binding_spelling v ++ sign semicolon ∷ []),
      length-map (clauses_of h) (λ k. impl_line ps k (flat_map clauses_of ks)),
      clauses-count h,
    )
lines-few (written_prove c ps a bs ks) =
    let one = one-asked (λ k more. prove_line c ps k more (flat_map clauses_of ks)) (flat_map asked_of (a ∷ bs)) in
    omega (arith, one)
lines-few (written_refute c ps a bs) = let one = one-asked (refute_line c ps) (flat_map asked_of (a ∷ bs)) in omega (arith, one)
lines-few (written_later n) = omega arith
lines-few (written_supers n) = omega arith

pub lines-in-bytes : (bytes : List ℕ) (w : WrittenLine) → IsSpelled bytes w → length (desugared w) ≤ length bytes
lines-in-bytes bytes w s = omega (arith, lines-few w, tokens-of-few bytes (written_spelling w) s)

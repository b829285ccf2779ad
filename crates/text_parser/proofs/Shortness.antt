-- A line has no more cells than tokens, and no more tokens than bytes.
use Rattle.std.proofs.Common.{◌≡◌, ℕ, suc, ◌+◌, ◌≤◌, Bool, true, false, cond, List, [], ◌∷◌, ◌++◌, length, map, Option, Some, None, subst, length-append, arith}
use Rattle.std.specs.Prelude.{◌==◌, ◌&&◌}
use Rattle.text_language.specs.Words.{Sign, comma, open_angle, close_angle, close_square, semicolon, open_round, plus, colon, fundamental_word, struct_word, auto_word, trait_word, impl_word, for_word, where_word, prove_word, refute_word, in_word, fn_word, is_word_byte}
use Rattle.text_language.specs.Tokens.{Token, keyword, name, sign, LinePiece, word, quoted, queried, pointing, byte, onto, before, pieces, word_token, as_lifetime, as_variable, sign_token, arrow, in_front, tokens_from, tokens_of}
use Rattle.text_language.specs.Promised.Syntax.{TypeTree, of_primitive, never_type, variable_type, named, reference_to, pointer_to, slice_of, array_of, tuple_of, fn_of, fn_to, dyn_of, Types, no_types, and_type, Args, no_args, and_arg, Arg, lifetime_arg, number_arg, type_arg, Item, bound_item, lifetime_item, DynBounds, no_items, and_item, Bound, Clause, Line, crate_line, struct_line, trait_line, impl_line, prove_line, refute_line, later_line, supers_line}
use Rattle.text_language.specs.Syntax.{more_lifetimes, binder_spelling, lifetime_spelling, mut_spelling, length_token, type_spelling, tuple_spelling, second_item, inputs_spelling, more_types, args_spelling, more_args, arg_spelling, item_spelling, more_items, behind, params_spelling, bound_spelling, clause_spelling, bounds_spelling, where_spelling, fields_spelling, if_so, spelling}
use Rattle.text_language.specs.Written.{IsWritten}
use Rattle.text_lines.specs.Cells.{Cell, binder_cell, binder_onto, type_onto, types_onto, args_onto, arg_onto, item_onto, items_onto}
use Rattle.text_lines.specs.Statement.{bound_onto, clause_onto, all_onto, type_list, line_cells}

-- ---- tokens
onto-few : (b : ℕ) (ps : List LinePiece) → length (onto b ps) ≤ suc (length ps)
onto-few b [] = omega arith
onto-few b (word w ∷ ps) = omega arith
onto-few b (quoted w ∷ ps) = omega arith
onto-few b (queried w ∷ ps) = omega arith
onto-few b (pointing ∷ ps) = omega arith
onto-few b (byte c ∷ ps) = omega arith

either-few : (c : Bool) (xs ys : List LinePiece) (k : ℕ) → length xs ≤ k → length ys ≤ k → length (cond c xs ys) ≤ k
either-few true xs ys k a b = a
either-few false xs ys k a b = b

before-few : (b : ℕ) (ps : List LinePiece) → length (before b ps) ≤ suc (length ps)
before-few b [] = omega arith
before-few b (word w ∷ ps) =
    either-few (b == 39) (quoted w ∷ ps) (cond (b == 63) (queried w ∷ ps) (byte b ∷ word w ∷ ps)) (suc (suc (length ps))) (omega arith)
    (either-few (b == 63) (queried w ∷ ps) (byte b ∷ word w ∷ ps) (suc (suc (length ps))) (omega arith) (omega arith))
before-few b (quoted w ∷ ps) = omega arith
before-few b (queried w ∷ ps) = omega arith
before-few b (pointing ∷ ps) = omega arith
before-few b (byte c ∷ ps) = either-few ((b == 45) && (c == 62)) (pointing ∷ ps) (byte b ∷ byte c ∷ ps) (suc (suc (length ps))) (omega arith) (omega arith)

pieces-few : (bs : List ℕ) → length (pieces bs) ≤ length bs
pieces-few [] = omega arith
pieces-few (b ∷ bs) =
    either-few (is_word_byte b) (onto b (pieces bs)) (before b (pieces bs)) (suc (length bs))
    (omega (arith, onto-few b (pieces bs), pieces-few bs)) (omega (arith, before-few b (pieces bs), pieces-few bs))

-- so many, if any
Few : ℕ → Option (List Token) → Type 0
Few k None = Unit {0}
Few k (Some ts) = length ts ≤ k

more-few : (j k : ℕ) (o : Option (List Token)) → j ≤ k → Few j o → Few k o
unfolding Few
more-few j k None h f = tt
more-few j k (Some ts) h f = omega arith

front-few : (k : ℕ) (t : Option Token) (o : Option (List Token)) → Few k o → Few (suc k) (in_front t o)
unfolding Few
front-few k None o f = tt
front-few k (Some t) None f = tt
front-few k (Some t) (Some ts) f = omega arith

either-tokens : (c : Bool) (x y : Option (List Token)) (k : ℕ) → Few k x → Few k y → Few k (cond c x y)
either-tokens true x y k a b = a
either-tokens false x y k a b = b

tokens-few : (ps : List LinePiece) → Few (length ps) (tokens_from ps)
unfolding Few
tokens-few [] = omega arith
tokens-few (word w ∷ ps) = front-few (length ps) (word_token w) (tokens_from ps) (tokens-few ps)
tokens-few (quoted w ∷ ps) = front-few (length ps) (as_lifetime (word_token w)) (tokens_from ps) (tokens-few ps)
tokens-few (queried w ∷ ps) = front-few (length ps) (as_variable (word_token w)) (tokens_from ps) (tokens-few ps)
tokens-few (pointing ∷ ps) = front-few (length ps) (Some arrow) (tokens_from ps) (tokens-few ps)
tokens-few (byte b ∷ ps) =
    either-tokens (b == 32) (tokens_from ps) (in_front (sign_token b) (tokens_from ps)) (suc (length ps))
    (more-few (length ps) (suc (length ps)) (tokens_from ps) (omega arith) (tokens-few ps)) (front-few (length ps) (sign_token b) (tokens_from ps) (tokens-few ps))

pub tokens-of-few : (bytes : List ℕ) (ts : List Token) → tokens_of bytes ≡ Some ts → length ts ≤ length bytes
unfolding tokens_of Few
tokens-of-few bytes ts e = let few : length ts ≤ length (pieces bytes) = subst (Few (length (pieces bytes))) e (tokens-few (pieces bytes)) in omega (arith, few, pieces-few bytes)

-- ---- cells
last-more : (x o : List Cell) (c : Cell) (k : ℕ) → length x ≤ length o + k → length (x ++ c ∷ []) ≤ length o + suc k
last-more x o c k h = omega (arith, length-append x (c ∷ []), h)

-- behind some tokens, or before some
after-few : (front ts : List Token) (o x : List Cell) → length x ≤ length o + length ts → length x ≤ length o + length (front ++ ts)
after-few front ts o x h = omega (arith, length-append front ts, h)

before-some : (ts rest : List Token) (o x : List Cell) → length x ≤ length o + length ts → length x ≤ length o + length (ts ++ rest)
before-some ts rest o x h = omega (arith, length-append ts rest, h)

-- one after the other
both-few : (ts us : List Token) (o x y : List Cell) → length x ≤ length o + length ts → length y ≤ length x + length us → length y ≤ length o + length (ts ++ us)
both-few ts us o x y a b = omega (arith, length-append ts us, a, b)

one-more : (t : Token) (ts : List Token) (o x : List Cell) → length x ≤ length o + length ts → length x ≤ length o + length (t ∷ ts)
one-more t ts o x h = omega (arith, h)

names-few : (ns : List (List ℕ)) (o : List Cell) → length (binder_onto ns o) ≤ length o + length (more_lifetimes ns)
names-few [] o = omega arith
names-few (n ∷ ns) o = omega (arith, names-few ns (o ++ binder_cell n ∷ []), length-append o (binder_cell n ∷ []))

binder-few : (b : List (List ℕ)) (o : List Cell) → length (binder_onto b o) ≤ length o + length (binder_spelling b)
binder-few [] o = omega arith
binder-few (n ∷ ns) o = omega (arith, names-few ns (o ++ binder_cell n ∷ []), length-append o (binder_cell n ∷ []), length-append (more_lifetimes ns) (sign close_angle ∷ []))

mutual
  type-few : (t : TypeTree) (o : List Cell) → length (type_onto t o) ≤ length o + length (type_spelling t)
  type-few (of_primitive p) o = last-more o o _ 0 (omega arith)
  type-few never_type o = last-more o o _ 0 (omega arith)
  type-few (variable_type n) o = last-more o o _ 0 (omega arith)
  type-few (named n args) o = last-more (args_onto args o) o _ (length (args_spelling args)) (args-few args o)
  type-few (reference_to l m t) o =
      last-more (type_onto t o) o _ (length (lifetime_spelling l ++ (mut_spelling m ++ type_spelling t)))
      (after-few (lifetime_spelling l) (mut_spelling m ++ type_spelling t) o (type_onto t o) (after-few (mut_spelling m) (type_spelling t) o (type_onto t o) (type-few t o)))
  type-few (pointer_to m t) o = last-more (type_onto t o) o _ (suc (length (type_spelling t))) (omega (arith, type-few t o))
  type-few (slice_of t) o = last-more (type_onto t o) o _ (length (type_spelling t ++ sign close_square ∷ [])) (before-some (type_spelling t) (sign close_square ∷ []) o (type_onto t o) (type-few t o))
  type-few (array_of t n) o =
      last-more (type_onto t o) o _ (length (type_spelling t ++ sign semicolon ∷ length_token n ∷ sign close_square ∷ []))
      (before-some (type_spelling t) (sign semicolon ∷ length_token n ∷ sign close_square ∷ []) o (type_onto t o) (type-few t o))
  type-few (tuple_of ts) o = last-more (types_onto ts o) o _ (length (tuple_spelling ts)) (tuple-few ts o)
  type-few (fn_of b ts) o =
      let x = binder_onto b o in
      both-few (binder_spelling b) (keyword fn_word ∷ sign open_round ∷ inputs_spelling ts) o x (type_onto (fn_of b ts) o) (binder-few b o)
      (last-more (types_onto ts x) x _ (suc (length (inputs_spelling ts))) (omega (arith, inputs-few ts x)))
  type-few (fn_to b ts r) o =
      let x = binder_onto b o in
      let y = types_onto ts x in
      both-few (binder_spelling b) (keyword fn_word ∷ sign open_round ∷ (inputs_spelling ts ++ arrow ∷ type_spelling r)) o x (type_onto (fn_to b ts r) o) (binder-few b o)
      (last-more (type_onto r y) x _ (suc (length (inputs_spelling ts ++ arrow ∷ type_spelling r)))
      (one-more (sign open_round) (inputs_spelling ts ++ arrow ∷ type_spelling r) x (type_onto r y)
      (both-few (inputs_spelling ts) (arrow ∷ type_spelling r) x y (type_onto r y) (inputs-few ts x) (one-more arrow (type_spelling r) y (type_onto r y) (type-few r y)))))
  type-few (dyn_of i is) o =
      last-more (items_onto is (item_onto i o)) o _ (length (item_spelling i ++ more_items is))
      (both-few (item_spelling i) (more_items is) o (item_onto i o) (items_onto is (item_onto i o)) (item-few i o) (items-few is (item_onto i o)))

  tuple-few : (ts : Types) (o : List Cell) → length (types_onto ts o) ≤ length o + length (tuple_spelling ts)
  tuple-few no_types o = omega arith
  tuple-few (and_type t ts) o = both-few (type_spelling t) (second_item ts) o (type_onto t o) (types_onto ts (type_onto t o)) (type-few t o) (second-few ts (type_onto t o))

  second-few : (ts : Types) (o : List Cell) → length (types_onto ts o) ≤ length o + length (second_item ts)
  second-few no_types o = omega arith
  second-few (and_type t ts) o =
      one-more (sign comma) (type_spelling t ++ more_types ts) o (types_onto ts (type_onto t o))
      (both-few (type_spelling t) (more_types ts) o (type_onto t o) (types_onto ts (type_onto t o)) (type-few t o) (types-few ts (type_onto t o)))

  inputs-few : (ts : Types) (o : List Cell) → length (types_onto ts o) ≤ length o + length (inputs_spelling ts)
  inputs-few no_types o = omega arith
  inputs-few (and_type t ts) o = both-few (type_spelling t) (more_types ts) o (type_onto t o) (types_onto ts (type_onto t o)) (type-few t o) (types-few ts (type_onto t o))

  types-few : (ts : Types) (o : List Cell) → length (types_onto ts o) ≤ length o + length (more_types ts)
  types-few no_types o = omega arith
  types-few (and_type t ts) o =
      one-more (sign comma) (type_spelling t ++ more_types ts) o (types_onto ts (type_onto t o))
      (both-few (type_spelling t) (more_types ts) o (type_onto t o) (types_onto ts (type_onto t o)) (type-few t o) (types-few ts (type_onto t o)))

  args-few : (args : Args) (o : List Cell) → length (args_onto args o) ≤ length o + length (args_spelling args)
  args-few no_args o = omega arith
  args-few (and_arg a args) o =
      one-more (sign open_angle) (arg_spelling a ++ more_args args) o (args_onto args (arg_onto a o))
      (both-few (arg_spelling a) (more_args args) o (arg_onto a o) (args_onto args (arg_onto a o)) (arg-few a o) (others-few args (arg_onto a o)))

  others-few : (args : Args) (o : List Cell) → length (args_onto args o) ≤ length o + length (more_args args)
  others-few no_args o = omega arith
  others-few (and_arg a args) o =
      one-more (sign comma) (arg_spelling a ++ more_args args) o (args_onto args (arg_onto a o))
      (both-few (arg_spelling a) (more_args args) o (arg_onto a o) (args_onto args (arg_onto a o)) (arg-few a o) (others-few args (arg_onto a o)))

  arg-few : (a : Arg) (o : List Cell) → length (arg_onto a o) ≤ length o + length (arg_spelling a)
  arg-few (lifetime_arg n) o = last-more o o _ 0 (omega arith)
  arg-few (number_arg n) o = last-more o o _ 0 (omega arith)
  arg-few (type_arg t) o = type-few t o

  item-few : (i : Item) (o : List Cell) → length (item_onto i o) ≤ length o + length (item_spelling i)
  item-few (bound_item b n args) o =
      let x = binder_onto b o in
      both-few (binder_spelling b) (name n ∷ args_spelling args) o x (item_onto (bound_item b n args) o) (binder-few b o)
      (last-more (args_onto args x) x _ (length (args_spelling args)) (args-few args x))
  item-few (lifetime_item n) o = last-more o o _ 0 (omega arith)

  items-few : (is : DynBounds) (o : List Cell) → length (items_onto is o) ≤ length o + length (more_items is)
  items-few no_items o = omega arith
  items-few (and_item i is) o =
      one-more (sign plus) (item_spelling i ++ more_items is) o (items_onto is (item_onto i o))
      (both-few (item_spelling i) (more_items is) o (item_onto i o) (items_onto is (item_onto i o)) (item-few i o) (items-few is (item_onto i o)))

-- ---- parts of lines
bound-few : (b : Bound) (o : List Cell) → length (bound_onto b o) ≤ length o + length (bound_spelling b)
bound-few b o = type-few (named b.trait b.args) o

clause-few : (k : Clause) (o : List Cell) → length (clause_onto k o) ≤ length o + length (clause_spelling k)
clause-few k o =
    let x = type_onto k.subject o in
    both-few (type_spelling k.subject) (sign colon ∷ bound_spelling k.bound) o x (bound_onto k.bound x) (type-few k.subject o)
    (one-more (sign colon) (bound_spelling k.bound) x (bound_onto k.bound x) (bound-few k.bound x))

fields-few : (ts : Types) (o : List Cell) → length (all_onto type_onto (type_list ts) o) ≤ length o + length (more_types ts)
fields-few no_types o = omega arith
fields-few (and_type t ts) o =
    let x = type_onto t o in
    let y = all_onto type_onto (type_list ts) x in
    one-more (sign comma) (type_spelling t ++ more_types ts) o y (both-few (type_spelling t) (more_types ts) o x y (type-few t o) (fields-few ts x))

all-fields-few : (ts : Types) → length (all_onto type_onto (type_list ts) []) ≤ 0 + length (fields_spelling ts)
all-fields-few no_types = omega arith
all-fields-few (and_type t ts) =
    let x = type_onto t [] in
    let y = all_onto type_onto (type_list ts) x in
    one-more (sign open_round) (type_spelling t ++ more_types ts) [] y (both-few (type_spelling t) (more_types ts) [] x y (type-few t []) (fields-few ts x))

-- each behind the sign
behind-few : {T : Type 0} (s : Sign) (put : T → List Cell → List Cell) (spelled : T → List Token) → ((t : T) (o : List Cell) → length (put t o) ≤ length o + length (spelled t))
    → (ts : List T) (o : List Cell) → length (all_onto put ts o) ≤ length o + length (behind s (map spelled ts))
behind-few s put spelled h [] o = omega arith
behind-few s put spelled h (t ∷ ts) o =
    let x = put t o in
    let y = all_onto put ts x in
    one-more (sign s) (spelled t ++ behind s (map spelled ts)) o y (both-few (spelled t) (behind s (map spelled ts)) o x y (h t o) (behind-few s put spelled h ts x))

bounds-few : (bs : List Bound) (o : List Cell) → length (all_onto bound_onto bs o) ≤ length o + length (bounds_spelling (map bound_spelling bs))
bounds-few [] o = omega arith
bounds-few (b ∷ bs) o =
    let x = bound_onto b o in
    let y = all_onto bound_onto bs x in
    let more = behind plus (map bound_spelling bs) in
    one-more (sign colon) (bound_spelling b ++ more) o y (both-few (bound_spelling b) more o x y (bound-few b o) (behind-few plus bound_onto bound_spelling bound-few bs x))

clauses-few : (ks : List Clause) (o : List Cell) → length (all_onto clause_onto ks o) ≤ length o + length (where_spelling (map clause_spelling ks))
clauses-few [] o = omega arith
clauses-few (k ∷ ks) o =
    let x = clause_onto k o in
    let y = all_onto clause_onto ks x in
    let more = behind comma (map clause_spelling ks) in
    one-more (keyword where_word) (clause_spelling k ++ more) o y (both-few (clause_spelling k) more o x y (clause-few k o) (behind-few comma clause_onto clause_spelling clause-few ks x))

-- ---- lines
pub line-few : (l : Line) → length (line_cells l) ≤ 0 + length (spelling l)
line-few (crate_line n us) = omega arith
line-few (struct_line f n ps fs) =
    let x = all_onto type_onto (type_list fs) [] in
    after-few (if_so f fundamental_word) (keyword struct_word ∷ name n ∷ (params_spelling ps ++ fields_spelling fs)) [] x
    (one-more (keyword struct_word) (name n ∷ (params_spelling ps ++ fields_spelling fs)) [] x
    (one-more (name n) (params_spelling ps ++ fields_spelling fs) [] x (after-few (params_spelling ps) (fields_spelling fs) [] x (all-fields-few fs))))
line-few (trait_line f a n ps bs) =
    let x = all_onto bound_onto bs [] in
    let rest = params_spelling ps ++ bounds_spelling (map bound_spelling bs) in
    after-few (if_so f fundamental_word) (if_so a auto_word ++ keyword trait_word ∷ name n ∷ rest) [] x
    (after-few (if_so a auto_word) (keyword trait_word ∷ name n ∷ rest) [] x
    (one-more (keyword trait_word) (name n ∷ rest) [] x (one-more (name n) rest [] x (after-few (params_spelling ps) (bounds_spelling (map bound_spelling bs)) [] x (bounds-few bs [])))))
line-few (impl_line ps h ks) =
    let x = bound_onto h.bound [] in
    let y = type_onto h.subject x in
    let z = all_onto clause_onto ks y in
    let more = where_spelling (map clause_spelling ks) in
    let rest = keyword for_word ∷ (type_spelling h.subject ++ more) in
    one-more (keyword impl_word) (params_spelling ps ++ (bound_spelling h.bound ++ rest)) [] z
    (after-few (params_spelling ps) (bound_spelling h.bound ++ rest) [] z
    (both-few (bound_spelling h.bound) rest [] x z (bound-few h.bound [])
    (one-more (keyword for_word) (type_spelling h.subject ++ more) x z (both-few (type_spelling h.subject) more x y z (type-few h.subject x) (clauses-few ks y)))))
line-few (prove_line c ps k bs ks) =
    let x = clause_onto k [] in
    let y = all_onto clause_onto bs x in
    let z = all_onto clause_onto ks y in
    let others = behind comma (map clause_spelling bs) in
    let more = where_spelling (map clause_spelling ks) in
    let asked = clause_spelling k ++ (others ++ more) in
    let rest = params_spelling ps ++ asked in
    one-more (keyword prove_word) (keyword in_word ∷ name c ∷ rest) [] z
    (one-more (keyword in_word) (name c ∷ rest) [] z
    (one-more (name c) rest [] z
    (after-few (params_spelling ps) asked [] z
    (both-few (clause_spelling k) (others ++ more) [] x z (clause-few k []) (both-few others more x y z (behind-few comma clause_onto clause_spelling clause-few bs x) (clauses-few ks y))))))
line-few (refute_line c ps k bs) =
    let x = clause_onto k [] in
    let y = all_onto clause_onto bs x in
    let others = behind comma (map clause_spelling bs) in
    let asked = clause_spelling k ++ others in
    let rest = params_spelling ps ++ asked in
    one-more (keyword refute_word) (keyword in_word ∷ name c ∷ rest) [] y
    (one-more (keyword in_word) (name c ∷ rest) [] y
    (one-more (name c) rest [] y (after-few (params_spelling ps) asked [] y (both-few (clause_spelling k) others [] x y (clause-few k []) (behind-few comma clause_onto clause_spelling clause-few bs x)))))
line-few (later_line n) = omega arith
line-few (supers_line n) = omega arith

pub cells-are-few : (bytes : List ℕ) (l : Line) → IsWritten bytes l → length (line_cells l) ≤ length bytes
cells-are-few bytes l w = omega (arith, line-few l, tokens-of-few bytes (spelling l) w)

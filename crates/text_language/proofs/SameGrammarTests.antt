-- The tests of a line's pieces are those of its tokens.
use Rattle.std.proofs.Common.{◌≡◌, ℕ, Bool, true, false, not, ◌&&◌, ◌||◌, List, [], ◌∷◌, ◌++◌, map, Option, Some, None, codes, flat_map, slice_index, ◌==◌, refl, sym, ap, ◌∙◌, append_assoc, append-nil, bytes_eq}
use Rattle.std.specs.Char.{is_ascii_alphabetic, is_ascii_digit}
use Rattle.std.specs.List.{list_all, list_any}
use Rattle.std.specs.Option.{option_map_or}
use Rattle.std.specs.Str.Parse.{digits_value}
use Rattle.std.proofs.lemmas.List.{map-append}
use Rattle.type_terms.specs.Promised.Label.{Label}
use Rattle.type_terms.specs.Codes.{same_label}
use Rattle.text_language.specs.Words.{Sign, open_angle, close_angle, open_round, close_round, open_square, close_square, comma, colon, semicolon, ampersand, star, plus, exclamation, equals, open_brace, close_brace, keyword_text, crate_word, uses_word, fundamental_word, struct_word, auto_word, trait_word, impl_word, for_word, where_word, prove_word, refute_word, in_word, mut_word, const_word, fn_word, dyn_word, type_word}
use Rattle.text_language.specs.Tokens.{Token, keyword, primitive, name, lifetime, variable, number, sign, arrow}
use Rattle.text_language.specs.Promised.Syntax.{TypeTree, of_primitive, never_type, variable_type, named, reference_to, pointer_to, slice_of, array_of, tuple_of, fn_of, fn_to, dyn_of, number_length, name_length, variable_length, Types, no_types, and_type, Args, no_args, and_arg, Arg, lifetime_arg, number_arg, type_arg, Item, bound_item, lifetime_item, DynBounds, no_items, and_item, Params, Bound, Clause, Line, crate_line, struct_line, trait_line, impl_line, prove_line, refute_line, later_line, supers_line, Binding, WrittenBound, WrittenClause, WrittenLine, written_crate, written_struct, written_trait, written_impl, written_prove, written_refute, written_later, written_supers}
use Rattle.text_language.specs.Syntax.{type_spelling, inputs_spelling, more_types, args_spelling, more_args, arg_spelling, item_spelling, more_items, binder_spelling, more_lifetimes, lifetime_spelling, more_names, uses_spelling, param_spellings, params_spelling, after_each, behind, in_angles, bound_spelling, clause_spelling, bounds_spelling, where_spelling, fields_spelling, spelling, arg_spellings, binding_spelling, written_bound_spelling, written_clause_spelling, in_braces, written_spelling}
use Rattle.text_language.specs.Promised.Grammar.{primitive_names, reserved_words, PieceTests, literal, name_with, numeral, enclosed, type_tests, types_tests, args_tests, item_tests, items_tests, params_tests, bound_tests, clause_tests, line_tests, binding_tests, written_bound_tests, written_clause_tests, written_tests}

abbrev pub sign_text : Sign → List ℕ
sign_text open_angle = codes "<"
sign_text close_angle = codes ">"
sign_text open_round = codes "("
sign_text close_round = codes ")"
sign_text open_square = codes "["
sign_text close_square = codes "]"
sign_text comma = codes ","
sign_text colon = codes ":"
sign_text semicolon = codes ";"
sign_text ampersand = codes "&"
sign_text star = codes "*"
sign_text plus = codes "+"
sign_text exclamation = codes "!"
sign_text equals = codes "="
sign_text open_brace = codes "{"
sign_text close_brace = codes "}"

-- a name begins with a letter or _, and is not reserved
abbrev pub begins_name : List ℕ → Bool
begins_name n = is_ascii_alphabetic (slice_index n 0) || slice_index n 0 == 95

abbrev pub is_free : List ℕ → Bool
is_free n = not (list_any (bytes_eq n) reserved_words)

abbrev pub is_primitive : Label → List ℕ → Bool
is_primitive l p = list_any (λ x. bytes_eq p x.0 && same_label x.1 l) primitive_names

-- the test of a token's piece
abbrev pub test_of : Token → List ℕ → Bool
test_of (keyword k) = bytes_eq (keyword_text k)
test_of (primitive l) = is_primitive l
test_of (name n) = λ p. bytes_eq p n && begins_name n && is_free n
test_of (lifetime n) = λ p. bytes_eq p (39 ∷ n) && begins_name n && is_free n
test_of (variable n) = λ p. bytes_eq p (63 ∷ n) && begins_name n && is_free n
test_of (number n) = λ p. list_all is_ascii_digit p && digits_value 10 p == n
test_of (sign s) = bytes_eq (sign_text s)
test_of arrow = bytes_eq (codes "->")

abbrev pub tests_of : List Token → PieceTests
tests_of ts = map test_of ts

-- ---- parts

-- tests of tokens, and of those behind them
joined : (us vs : PieceTests) (xs ys : List Token) → us ≡ tests_of xs → vs ≡ tests_of ys → us ++ vs ≡ tests_of (xs ++ ys)
joined us vs xs ys e f = ap (λ w. w ++ vs) e ∙ ap (λ w. tests_of xs ++ w) f ∙ sym (map-append test_of xs ys)

-- behind tokens that compute
onward : (xs ys : List Token) (vs : PieceTests) → vs ≡ tests_of ys → tests_of xs ++ vs ≡ tests_of (xs ++ ys)
onward xs ys vs f = joined (tests_of xs) vs xs ys refl f

one_more : (s p e : PieceTests) (ps : List PieceTests) → flat_map (λ q. s ++ q) (p ∷ ps) ++ e ≡ s ++ (p ++ (flat_map (λ q. s ++ q) ps ++ e))
one_more s p e ps = append_assoc (s ++ p) (flat_map (λ q. s ++ q) ps) e ∙ append_assoc s p (flat_map (λ q. s ++ q) ps ++ e)

-- the parts, joined from the right
to_right : (b s e : PieceTests) (p : PieceTests) (ps : List PieceTests) → ((b ++ p) ++ flat_map (λ q. s ++ q) ps) ++ e ≡ b ++ (p ++ (flat_map (λ q. s ++ q) ps ++ e))
to_right b s e p ps = append_assoc (b ++ p) (flat_map (λ q. s ++ q) ps) e ∙ append_assoc b p (flat_map (λ q. s ++ q) ps ++ e)

-- four parts, joined from the right
three : (a b c d : PieceTests) → ((a ++ b) ++ c) ++ d ≡ a ++ (b ++ (c ++ d))
three a b c d = append_assoc (a ++ b) c d ∙ append_assoc a b (c ++ d)

lifetimes-same : (ns : List (List ℕ)) → flat_map (λ q. literal "," ++ q) (map (name_with "'") ns) ≡ tests_of (more_lifetimes ns)
lifetimes-same [] = refl
lifetimes-same (n ∷ ns) = ap (λ w. tests_of (sign comma ∷ lifetime n ∷ []) ++ w) (lifetimes-same ns)

names-same : (ns : List (List ℕ)) → flat_map (λ q. literal "," ++ q) (map (name_with "") ns) ≡ tests_of (more_names ns)
names-same [] = refl
names-same (n ∷ ns) = ap (λ w. tests_of (sign comma ∷ name n ∷ []) ++ w) (names-same ns)

binder-same : (b : List (List ℕ)) → enclosed "for<" "," ">" (map (name_with "'") b) ≡ tests_of (binder_spelling b)
binder-same [] = refl
binder-same (n ∷ ns) = ap (λ w. tests_of (keyword for_word ∷ sign open_angle ∷ lifetime n ∷ []) ++ w) (joined _ _ (more_lifetimes ns) (sign close_angle ∷ []) (lifetimes-same ns) refl)

lifetime-same : (l : Option (List ℕ)) → option_map_or (name_with "'") l [] ≡ tests_of (lifetime_spelling l)
lifetime-same None = refl
lifetime-same (Some n) = refl

abbrev arg_tests : Arg → PieceTests
arg_tests (lifetime_arg n) = name_with "'" n
arg_tests (number_arg n) = numeral n
arg_tests (type_arg t) = type_tests t

args-cons : (a : Arg) (args : Args) → args_tests (and_arg a args) ≡ arg_tests a ∷ args_tests args
args-cons (lifetime_arg n) args = refl
args-cons (number_arg n) args = refl
args-cons (type_arg t) args = refl

abbrev more : List PieceTests → PieceTests → PieceTests
more ps e = flat_map (λ q. literal "," ++ q) ps ++ e

fn-same : (b : List (List ℕ)) (ts : Types) → enclosed "" "," "" (types_tests ts) ++ literal ")" ≡ tests_of (inputs_spelling ts) → ((enclosed "for<" "," ">" (map (name_with "'") b) ++ literal "fn(") ++ enclosed "" "," "" (types_tests ts)) ++ literal ")" ≡ tests_of (binder_spelling b ++ keyword fn_word ∷ sign open_round ∷ inputs_spelling ts)
fn-same b ts e =
    three (enclosed "for<" "," ">" (map (name_with "'") b)) (literal "fn(") (enclosed "" "," "" (types_tests ts)) (literal ")")
    ∙ joined _ _ (binder_spelling b) (keyword fn_word ∷ sign open_round ∷ inputs_spelling ts) (binder-same b) (onward (keyword fn_word ∷ sign open_round ∷ []) (inputs_spelling ts) _ e)

-- ---- types
mutual
  pub type-same : (t : TypeTree) → type_tests t ≡ tests_of (type_spelling t)
  type-same (of_primitive p) = refl
  type-same never_type = refl
  type-same (variable_type n) = refl
  type-same (named n args) = onward (name n ∷ []) (args_spelling args) _ (args-same args)
  type-same (reference_to l false t) = onward (sign ampersand ∷ []) _ _ (append_assoc (option_map_or (name_with "'") l []) [] (type_tests t) ∙ joined _ _ (lifetime_spelling l) (type_spelling t) (lifetime-same l) (type-same t))
  type-same (reference_to l true t) = onward (sign ampersand ∷ []) _ _ (append_assoc (option_map_or (name_with "'") l []) (literal "mut") (type_tests t) ∙ joined _ _ (lifetime_spelling l) (keyword mut_word ∷ type_spelling t) (lifetime-same l) (onward (keyword mut_word ∷ []) (type_spelling t) _ (type-same t)))
  type-same (pointer_to false t) = onward (sign star ∷ keyword const_word ∷ []) (type_spelling t) _ (type-same t)
  type-same (pointer_to true t) = onward (sign star ∷ keyword mut_word ∷ []) (type_spelling t) _ (type-same t)
  type-same (slice_of t) = onward (sign open_square ∷ []) _ _ (joined _ _ (type_spelling t) (sign close_square ∷ []) (type-same t) refl)
  type-same (array_of t (number_length n)) = onward (sign open_square ∷ []) _ _ (three (type_tests t) (literal ";") (numeral n) (literal "]") ∙ joined _ _ (type_spelling t) (sign semicolon ∷ number n ∷ sign close_square ∷ []) (type-same t) refl)
  type-same (array_of t (name_length n)) = onward (sign open_square ∷ []) _ _ (three (type_tests t) (literal ";") (name_with "" n) (literal "]") ∙ joined _ _ (type_spelling t) (sign semicolon ∷ name n ∷ sign close_square ∷ []) (type-same t) refl)
  type-same (array_of t (variable_length n)) = onward (sign open_square ∷ []) _ _ (three (type_tests t) (literal ";") (name_with "?" n) (literal "]") ∙ joined _ _ (type_spelling t) (sign semicolon ∷ variable n ∷ sign close_square ∷ []) (type-same t) refl)
  type-same (tuple_of no_types) = refl
  type-same (tuple_of (and_type t no_types)) = onward (sign open_round ∷ []) _ _ (joined _ _ (type_spelling t) (sign comma ∷ sign close_round ∷ []) (type-same t) refl)
  type-same (tuple_of (and_type t (and_type u us))) = onward (sign open_round ∷ []) _ _ (inputs-same (and_type t (and_type u us)))
  type-same (fn_of b ts) = fn-same b ts (inputs-same ts)
  type-same (fn_to b ts r) =
      let X = (enclosed "for<" "," ">" (map (name_with "'") b) ++ literal "fn(") ++ enclosed "" "," "" (types_tests ts) in
      append_assoc X (literal ")->") (type_tests r) ∙ sym (append_assoc X (literal ")") (literal "->" ++ type_tests r))
      ∙ joined _ _ (binder_spelling b ++ keyword fn_word ∷ sign open_round ∷ inputs_spelling ts) (arrow ∷ type_spelling r) (fn-same b ts (inputs-same ts)) (onward (arrow ∷ []) (type_spelling r) _ (type-same r))
      ∙ ap tests_of (append_assoc (binder_spelling b) (keyword fn_word ∷ sign open_round ∷ inputs_spelling ts) (arrow ∷ type_spelling r))
  type-same (dyn_of i is) =
      to_right (literal "dyn") (literal "+") [] (item_tests i) (items_tests is)
      ∙ onward (keyword dyn_word ∷ []) (item_spelling i ++ more_items is) _ (joined _ _ (item_spelling i) (more_items is) (item-same i) (items-same is))

  pub inputs-same : (ts : Types) → enclosed "" "," "" (types_tests ts) ++ literal ")" ≡ tests_of (inputs_spelling ts)
  inputs-same no_types = refl
  inputs-same (and_type t ts) =
      ap (λ w. w ++ literal ")") (to_right [] (literal ",") [] (type_tests t) (types_tests ts)) ∙ append_assoc (type_tests t) (more (types_tests ts) []) (literal ")") ∙ ap (λ w. type_tests t ++ (w ++ literal ")")) (append-nil (flat_map (λ q. literal "," ++ q) (types_tests ts)))
      ∙ joined _ _ (type_spelling t) (more_types ts) (type-same t) (more-types-same ts)

  pub more-types-same : (ts : Types) → more (types_tests ts) (literal ")") ≡ tests_of (more_types ts)
  more-types-same no_types = refl
  more-types-same (and_type t ts) =
      one_more (literal ",") (type_tests t) (literal ")") (types_tests ts) ∙ onward (sign comma ∷ []) _ _ (joined _ _ (type_spelling t) (more_types ts) (type-same t) (more-types-same ts))

  args-same : (args : Args) → enclosed "<" "," ">" (args_tests args) ≡ tests_of (args_spelling args)
  args-same no_args = refl
  args-same (and_arg a args) =
      ap (enclosed "<" "," ">") (args-cons a args) ∙ to_right (literal "<") (literal ",") (literal ">") (arg_tests a) (args_tests args) ∙ onward (sign open_angle ∷ []) _ _ (joined (arg_tests a) (more (args_tests args) (literal ">")) (arg_spelling a) (more_args args) (arg-same a) (more-args-same args))

  more-args-same : (args : Args) → more (args_tests args) (literal ">") ≡ tests_of (more_args args)
  more-args-same no_args = refl
  more-args-same (and_arg a args) =
      ap (λ ps. more ps (literal ">")) (args-cons a args) ∙ one_more (literal ",") (arg_tests a) (literal ">") (args_tests args)
      ∙ onward (sign comma ∷ []) _ _ (joined (arg_tests a) (more (args_tests args) (literal ">")) (arg_spelling a) (more_args args) (arg-same a) (more-args-same args))

  arg-same : (a : Arg) → arg_tests a ≡ tests_of (arg_spelling a)
  arg-same (lifetime_arg n) = refl
  arg-same (number_arg n) = refl
  arg-same (type_arg t) = type-same t

  item-same : (i : Item) → item_tests i ≡ tests_of (item_spelling i)
  item-same (bound_item b n args) = append_assoc (enclosed "for<" "," ">" (map (name_with "'") b)) (name_with "" n) (enclosed "<" "," ">" (args_tests args)) ∙ joined _ _ (binder_spelling b) (name n ∷ args_spelling args) (binder-same b) (onward (name n ∷ []) (args_spelling args) _ (args-same args))
  item-same (lifetime_item n) = refl

  items-same : (is : DynBounds) → flat_map (λ q. literal "+" ++ q) (items_tests is) ++ [] ≡ tests_of (more_items is)
  items-same no_items = refl
  items-same (and_item i is) =
      one_more (literal "+") (item_tests i) [] (items_tests is) ∙ onward (sign plus ∷ []) _ _ (joined _ _ (item_spelling i) (more_items is) (item-same i) (items-same is))

-- ---- lines

-- parts, each with the tests of its tokens
behind-same : (k : Token) (c : PieceTests) → c ≡ tests_of (k ∷ []) → (ps : List (List Token)) → flat_map (λ q. c ++ q) (map tests_of ps) ≡ tests_of (after_each k ps)
behind-same k c e [] = refl
behind-same k c e (p ∷ ps) = joined _ _ (k ∷ p) (after_each k ps) (joined c (tests_of p) (k ∷ []) p e refl) (behind-same k c e ps)

each-same : {A : Type 0} (f : A → PieceTests) (g : A → List Token) → ((x : A) → f x ≡ tests_of (g x)) → (xs : List A) → map f xs ≡ map tests_of (map g xs)
each-same f g h [] = refl
each-same f g h (x ∷ xs) = ap (λ w. w ∷ map f xs) (h x) ∙ ap (λ w. tests_of (g x) ∷ w) (each-same f g h xs)

in-angles-same : (ps : List (List Token)) → enclosed "<" "," ">" (map tests_of ps) ≡ tests_of (in_angles ps)
in-angles-same [] = refl
in-angles-same (p ∷ ps) = to_right (literal "<") (literal ",") (literal ">") (tests_of p) (map tests_of ps) ∙ onward (sign open_angle ∷ []) _ _ (onward p (behind comma ps ++ sign close_angle ∷ []) _ (joined _ _ (behind comma ps) (sign close_angle ∷ []) (behind-same (sign comma) (literal ",") refl ps) refl))

params-same : (p : Params) → params_tests p ≡ tests_of (params_spelling p)
params-same p =
    ap (enclosed "<" "," ">") (parts p.lifetimes p.types p.consts) ∙ in-angles-same (param_spellings p)
  where
    parts : (ls ts cs : List (List ℕ)) → (map (name_with "'") ls ++ map (name_with "") ts) ++ map (λ n. literal "const" ++ name_with "" n) cs ≡ map tests_of (map (λ n. lifetime n ∷ []) ls ++ (map (λ n. name n ∷ []) ts ++ map (λ n. keyword const_word ∷ name n ∷ []) cs))
    parts [] [] [] = refl
    parts [] [] (c ∷ cs) = ap (λ w. tests_of (keyword const_word ∷ name c ∷ []) ∷ w) (parts [] [] cs)
    parts [] (t ∷ ts) cs = ap (λ w. tests_of (name t ∷ []) ∷ w) (parts [] ts cs)
    parts (l ∷ ls) ts cs = ap (λ w. tests_of (lifetime l ∷ []) ∷ w) (parts ls ts cs)

bound-same : (b : Bound) → bound_tests b ≡ tests_of (bound_spelling b)
bound-same b = type-same (named b.trait b.args)

clause-same : (k : Clause) → clause_tests k ≡ tests_of (clause_spelling k)
clause-same k = append_assoc (type_tests k.subject) (literal ":") (bound_tests k.bound) ∙ joined _ _ (type_spelling k.subject) (sign colon ∷ bound_spelling k.bound) (type-same k.subject) (onward (sign colon ∷ []) (bound_spelling k.bound) _ (bound-same k.bound))

bounds-same : (ps : List (List Token)) → enclosed ":" "+" "" (map tests_of ps) ≡ tests_of (bounds_spelling ps)
bounds-same [] = refl
bounds-same (p ∷ ps) = to_right (literal ":") (literal "+") [] (tests_of p) (map tests_of ps) ∙ onward (sign colon ∷ []) _ _ (onward p (behind plus ps) _ (append-nil _ ∙ behind-same (sign plus) (literal "+") refl ps))

where-same : (ps : List (List Token)) → enclosed "where" "," "" (map tests_of ps) ≡ tests_of (where_spelling ps)
where-same [] = refl
where-same (p ∷ ps) = to_right (literal "where") (literal ",") [] (tests_of p) (map tests_of ps) ∙ onward (keyword where_word ∷ []) _ _ (onward p (behind comma ps) _ (append-nil _ ∙ behind-same (sign comma) (literal ",") refl ps))

uses-same : (us : List (List ℕ)) → enclosed "uses" "," "" (map (name_with "") us) ≡ tests_of (uses_spelling us)
uses-same [] = refl
uses-same (n ∷ ns) = ap (λ w. tests_of (keyword uses_word ∷ name n ∷ []) ++ w) (append-nil _ ∙ names-same ns)

fields-same : (ts : Types) → enclosed "(" "," ")" (types_tests ts) ≡ tests_of (fields_spelling ts)
fields-same no_types = refl
fields-same (and_type t ts) = to_right (literal "(") (literal ",") (literal ")") (type_tests t) (types_tests ts) ∙ onward (sign open_round ∷ []) _ _ (joined _ _ (type_spelling t) (more_types ts) (type-same t) (more-types-same ts))

clauses-same : (ks : List Clause) → enclosed "where" "," "" (map clause_tests ks) ≡ tests_of (where_spelling (map clause_spelling ks))
clauses-same ks = ap (enclosed "where" "," "") (each-same clause_tests clause_spelling clause-same ks) ∙ where-same (map clause_spelling ks)

-- a bound and further ones
asked-same : (a : Clause) (bs : List Clause) → enclosed "" "," "" (map clause_tests (a ∷ bs)) ≡ tests_of (clause_spelling a ++ behind comma (map clause_spelling bs))
asked-same a bs =
    append-nil _ ∙ joined _ _ (clause_spelling a) (behind comma (map clause_spelling bs)) (clause-same a)
    (ap (flat_map (λ q. literal "," ++ q)) (each-same clause_tests clause_spelling clause-same bs) ∙ behind-same (sign comma) (literal ",") refl (map clause_spelling bs))

struct-same : (n : List ℕ) (ps : Params) (fs : Types) → literal "struct" ++ name_with "" n ++ params_tests ps ++ enclosed "(" "," ")" (types_tests fs) ≡ tests_of (keyword struct_word ∷ name n ∷ (params_spelling ps ++ fields_spelling fs))
struct-same n ps fs = onward (keyword struct_word ∷ name n ∷ []) _ _ (joined _ _ (params_spelling ps) (fields_spelling fs) (params-same ps) (fields-same fs))

trait-same : (n : List ℕ) (ps : Params) (bs : List Bound) → literal "trait" ++ name_with "" n ++ params_tests ps ++ enclosed ":" "+" "" (map bound_tests bs) ≡ tests_of (keyword trait_word ∷ name n ∷ (params_spelling ps ++ bounds_spelling (map bound_spelling bs)))
trait-same n ps bs =
    onward (keyword trait_word ∷ name n ∷ []) _ _ (joined _ _ (params_spelling ps) (bounds_spelling (map bound_spelling bs)) (params-same ps)
    (ap (enclosed ":" "+" "") (each-same bound_tests bound_spelling bound-same bs) ∙ bounds-same (map bound_spelling bs)))

pub line-same : (l : Line) → line_tests l ≡ tests_of (spelling l)
line-same (crate_line n us) = onward (keyword crate_word ∷ name n ∷ []) _ _ (uses-same us)
line-same (struct_line false n ps fs) = struct-same n ps fs
line-same (struct_line true n ps fs) = ap (λ w. tests_of (keyword fundamental_word ∷ []) ++ w) (struct-same n ps fs)
line-same (trait_line false false n ps bs) = trait-same n ps bs
line-same (trait_line false true n ps bs) = ap (λ w. tests_of (keyword auto_word ∷ []) ++ w) (trait-same n ps bs)
line-same (trait_line true false n ps bs) = ap (λ w. tests_of (keyword fundamental_word ∷ []) ++ w) (trait-same n ps bs)
line-same (trait_line true true n ps bs) = ap (λ w. tests_of (keyword fundamental_word ∷ keyword auto_word ∷ []) ++ w) (trait-same n ps bs)
line-same (impl_line ps h ks) =
    onward (keyword impl_word ∷ []) _ _ (append_assoc ((params_tests ps ++ bound_tests h.bound) ++ literal "for") (type_tests h.subject) (enclosed "where" "," "" (map clause_tests ks))
    ∙ three (params_tests ps) (bound_tests h.bound) (literal "for") (type_tests h.subject ++ enclosed "where" "," "" (map clause_tests ks)) ∙ joined _ _ (params_spelling ps) _ (params-same ps)
    (joined _ _ (bound_spelling h.bound) _ (bound-same h.bound)
    (onward (keyword for_word ∷ []) _ _ (joined _ _ (type_spelling h.subject) (where_spelling (map clause_spelling ks)) (type-same h.subject) (clauses-same ks)))))
line-same (prove_line c ps a bs ks) =
    onward (keyword prove_word ∷ keyword in_word ∷ name c ∷ []) _ _ (append_assoc (params_tests ps) (enclosed "" "," "" (map clause_tests (a ∷ bs))) (enclosed "where" "," "" (map clause_tests ks)) ∙ joined _ _ (params_spelling ps) _ (params-same ps)
    (joined _ _ (clause_spelling a ++ behind comma (map clause_spelling bs)) (where_spelling (map clause_spelling ks)) (asked-same a bs) (clauses-same ks)
    ∙ ap tests_of (append_assoc (clause_spelling a) (behind comma (map clause_spelling bs)) (where_spelling (map clause_spelling ks)))))
line-same (refute_line c ps a bs) =
    onward (keyword refute_word ∷ keyword in_word ∷ name c ∷ []) _ _ (joined _ _ (params_spelling ps) _ (params-same ps) (asked-same a bs))
line-same (later_line n) = refl
line-same (supers_line n) = refl

-- ---- lines as they are written
args-each-same : (args : Args) → args_tests args ≡ map tests_of (arg_spellings args)
args-each-same no_args = refl
args-each-same (and_arg a args) = args-cons a args ∙ ap (λ w. w ∷ args_tests args) (arg-same a) ∙ ap (λ w. tests_of (arg_spelling a) ∷ w) (args-each-same args)

binding-same : (v : Binding) → binding_tests v ≡ tests_of (binding_spelling v)
binding-same v = onward (name v.name ∷ sign equals ∷ []) (type_spelling v.value) _ (type-same v.value)

written-bound-same : (b : WrittenBound) → written_bound_tests b ≡ tests_of (written_bound_spelling b)
written-bound-same b =
    onward (name b.bound.trait ∷ []) _ _ (ap (enclosed "<" "," ">") (ap (λ w. w ++ map binding_tests b.bindings) (args-each-same b.bound.args)
    ∙ ap (λ w. map tests_of (arg_spellings b.bound.args) ++ w) (each-same binding_tests binding_spelling binding-same b.bindings)
    ∙ sym (map-append tests_of (arg_spellings b.bound.args) (map binding_spelling b.bindings)))
    ∙ in-angles-same (arg_spellings b.bound.args ++ map binding_spelling b.bindings))

written-clause-same : (k : WrittenClause) → written_clause_tests k ≡ tests_of (written_clause_spelling k)
written-clause-same k =
    append_assoc (type_tests k.subject) (literal ":") (written_bound_tests k.bound)
    ∙ joined _ _ (type_spelling k.subject) (sign colon ∷ written_bound_spelling k.bound) (type-same k.subject) (onward (sign colon ∷ []) (written_bound_spelling k.bound) _ (written-bound-same k.bound))

in-braces-same : (ps : List (List Token)) → enclosed "{ type" "type" "}" (map tests_of ps) ≡ tests_of (in_braces ps)
in-braces-same [] = refl
in-braces-same (p ∷ ps) =
    to_right (literal "{ type") (literal "type") (literal "}") (tests_of p) (map tests_of ps)
    ∙ onward (sign open_brace ∷ keyword type_word ∷ []) _ _ (onward p (after_each (keyword type_word) ps ++ sign close_brace ∷ []) _
    (joined _ _ (after_each (keyword type_word) ps) (sign close_brace ∷ []) (behind-same (keyword type_word) (literal "type") refl ps) refl))

types-same : (ts : List (List ℕ)) → enclosed "{ type" "type" "}" (map (λ t. name_with "" t ++ literal ";") ts) ≡ tests_of (in_braces (map (λ t. name t ∷ sign semicolon ∷ []) ts))
types-same ts =
    ap (enclosed "{ type" "type" "}") (each-same (λ t. name_with "" t ++ literal ";") (λ t. name t ∷ sign semicolon ∷ []) (λ t. refl) ts) ∙ in-braces-same _

given-same : (vs : List Binding) → enclosed "{ type" "type" "}" (map (λ v. binding_tests v ++ literal ";") vs) ≡ tests_of (in_braces (map (λ v. binding_spelling v ++ sign semicolon ∷ []) vs))
given-same vs =
    ap (enclosed "{ type" "type" "}")
    (each-same (λ v. binding_tests v ++ literal ";") (λ v. binding_spelling v ++ sign semicolon ∷ []) (λ v. joined _ _ (binding_spelling v) (sign semicolon ∷ []) (binding-same v) refl) vs)
    ∙ in-braces-same _

written-where-same : (ks : List WrittenClause) → enclosed "where" "," "" (map written_clause_tests ks) ≡ tests_of (where_spelling (map written_clause_spelling ks))
written-where-same ks = ap (enclosed "where" "," "") (each-same written_clause_tests written_clause_spelling written-clause-same ks) ∙ where-same (map written_clause_spelling ks)

written-asked-same : (a : WrittenClause) (bs : List WrittenClause)
    → enclosed "" "," "" (map written_clause_tests (a ∷ bs)) ≡ tests_of (written_clause_spelling a ++ behind comma (map written_clause_spelling bs))
written-asked-same a bs =
    append-nil _ ∙ joined _ _ (written_clause_spelling a) (behind comma (map written_clause_spelling bs)) (written-clause-same a)
    (ap (flat_map (λ q. literal "," ++ q)) (each-same written_clause_tests written_clause_spelling written-clause-same bs) ∙ behind-same (sign comma) (literal ",") refl (map written_clause_spelling bs))

pub written-same : (w : WrittenLine) → written_tests w ≡ tests_of (written_spelling w)
written-same (written_crate n us) = line-same (crate_line n us)
written-same (written_struct f n ps fs) = line-same (struct_line f n ps fs)
written-same (written_trait f a n ps bs ts) =
    append_assoc (line_tests (trait_line f a n ps [])) (enclosed ":" "+" "" (map written_bound_tests bs)) (enclosed "{ type" "type" "}" (map (λ t. name_with "" t ++ literal ";") ts))
    ∙ joined _ _ (spelling (trait_line f a n ps [])) _ (line-same (trait_line f a n ps []))
    (joined _ _ (bounds_spelling (map written_bound_spelling bs)) _
    (ap (enclosed ":" "+" "") (each-same written_bound_tests written_bound_spelling written-bound-same bs) ∙ bounds-same (map written_bound_spelling bs)) (types-same ts))
written-same (written_impl ps h ks) =
    let l = impl_line ps (record { subject = h.subject; bound = h.bound.bound }) [] in
    append_assoc (line_tests l) (enclosed "where" "," "" (map written_clause_tests ks)) (enclosed "{ type" "type" "}" (map (λ v. binding_tests v ++ literal ";") h.bound.bindings))
    ∙ joined _ _ (spelling l) _ (line-same l) (joined _ _ (where_spelling (map written_clause_spelling ks)) _ (written-where-same ks) (given-same h.bound.bindings))
written-same (written_prove c ps a bs ks) =
    onward (keyword prove_word ∷ keyword in_word ∷ name c ∷ []) _ _ (append_assoc (params_tests ps) (enclosed "" "," "" (map written_clause_tests (a ∷ bs))) (enclosed "where" "," "" (map written_clause_tests ks))
    ∙ joined _ _ (params_spelling ps) _ (params-same ps) (joined _ _ (written_clause_spelling a ++ behind comma (map written_clause_spelling bs)) (where_spelling (map written_clause_spelling ks)) (written-asked-same a bs) (written-where-same ks)))
written-same (written_refute c ps a bs) =
    onward (keyword refute_word ∷ keyword in_word ∷ name c ∷ []) _ _ (joined _ _ (params_spelling ps) _ (params-same ps) (written-asked-same a bs))
written-same (written_later n) = line-same (later_line n)
written-same (written_supers n) = line-same (supers_line n)

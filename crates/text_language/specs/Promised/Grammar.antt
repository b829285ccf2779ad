-- The grammar of a line. The bytes of a line are divided into pieces, which are words and signs. Each piece must pass
-- the test that the grammar has for it.
use Rattle.std.specs.Prelude.{◌≡◌, ℕ, Bool, true, not, ◌&&◌, ◌||◌, List, [], ◌∷◌, ◌++◌, map, zip, flat_map, slice_index, codes, ◌==◌, if◌then◌else◌}
use Rattle.std.specs.Char.{is_ascii_alphabetic, is_ascii_alphanumeric, is_ascii_digit}
use Rattle.std.specs.List.{AllZip, list_all, list_any, onto_first, range_with_len, slice_split}
use Rattle.std.specs.Option.{option_map_or}
use Rattle.std.specs.Str.{bytes_eq}
use Rattle.std.specs.Str.Parse.{digits_value}
use Prim.Native.String.{String}
use Rattle.type_terms.specs.Promised.Label.{Label, bool, char, str, int, uint}
use Rattle.type_terms.specs.Codes.{same_label}
use Rattle.text_language.specs.Promised.Syntax.{TypeTree, of_primitive, never_type, variable_type, named, reference_to, pointer_to, slice_of, array_of, tuple_of, fn_of, fn_to, dyn_of, number_length, name_length, variable_length, Types, no_types, and_type, Args, no_args, and_arg, lifetime_arg, number_arg, type_arg, Item, bound_item, lifetime_item, DynBounds, no_items, and_item, Params, Bound, Clause, Line, crate_line, struct_line, trait_line, impl_line, prove_line, refute_line, later_line, supers_line, Binding, WrittenBound, WrittenClause, WrittenLine, written_crate, written_struct, written_trait, written_impl, written_prove, written_refute, written_later, written_supers}

-- ---- the pieces of a line

-- Letters, digits and `_`.
abbrev pub is_word_part : ℕ → Bool
is_word_part b = is_ascii_alphanumeric b || b == 95

-- Two adjacent bytes are of the same piece: within a word, after `'` or `?` before a word, and in `->`.
abbrev pub in_one_piece : ℕ → ℕ → Bool
in_one_piece b c = (is_word_part c && (is_word_part b || b == 39 || b == 63)) || (b == 45 && c == 62)

-- The pieces of a line. Spaces are of no piece. Any other byte that is not part of a longer piece is a piece.
abbrev pub pieces_of : List ℕ → List (List ℕ)
pieces_of [] = []
pieces_of (b ∷ bs) = if b == 32 then pieces_of bs else (if in_one_piece b (slice_index bs 0) then onto_first b (pieces_of bs) else (b ∷ []) ∷ pieces_of bs)

-- The primitive types with their names. Integers are numbered by size, from 8 bits. The one with the size of a pointer
-- is last.
abbrev pub primitive_names : List (List ℕ × Label)
primitive_names = zip (pieces_of (codes "bool char str i8 i16 i32 i64 i128 isize u8 u16 u32 u64 u128 usize"))
    (bool ∷ char ∷ str ∷ map int (range_with_len 0 6) ++ map uint (range_with_len 0 6))

-- Words that are not names.
abbrev pub reserved_words : List (List ℕ)
reserved_words = map (λ p. p.0) primitive_names
    ++ pieces_of (codes "crate uses fundamental struct auto trait impl for where prove refute in later supers mut const fn dyn type")

-- ---- tests of pieces

-- One test for each piece of a sequence.
abbrev pub PieceTests : Type 0
PieceTests = List (List ℕ → Bool)

-- The pieces must be those of this text.
abbrev pub literal : String → PieceTests
literal text = map bytes_eq (pieces_of (codes text))

-- The piece is the mark, followed by the name. For example, `'a` is a lifetime and `?x` is a variable. A name begins
-- with a letter or `_`, and is not reserved.
abbrev pub name_with : String → List ℕ → PieceTests
name_with mark n =
    (λ p. bytes_eq p (codes mark ++ n) && (is_ascii_alphabetic (slice_index n 0) || slice_index n 0 == 95) && not (list_any (bytes_eq n) reserved_words)) ∷ []

-- The piece consists of digits, and its value is n.
abbrev pub numeral : ℕ → PieceTests
numeral n = (λ p. list_all is_ascii_digit p && digits_value 10 p == n) ∷ []

-- The parts with `before` in front of the first, `between` between each two, and `behind` after the last. If there are
-- no parts, there are no pieces at all.
abbrev pub enclosed : String → String → String → List PieceTests → PieceTests
enclosed before between behind [] = []
enclosed before between behind (p ∷ ps) = literal before ++ p ++ flat_map (λ q. literal between ++ q) ps ++ literal behind

-- ---- the grammar

-- type = primitive | "!" | "?"name | name ["<" arg {"," arg} ">"]
--      | "&" [lifetime] ["mut"] type | "*" ("const" | "mut") type
--      | "[" type "]" | "[" type ";" (number | name | "?"name) "]"
--      | "(" ")" | "(" type "," ")" | "(" type "," type {"," type} ")"
--      | [binder] "fn" "(" [type {"," type}] ")" ["->" type]
--      | "dyn" item {"+" item}
-- arg = lifetime | type | number
-- item = [binder] bound | lifetime
-- bound = name ["<" arg {"," arg} ">"]
-- binder = "for" "<" lifetime {"," lifetime} ">"
-- lifetime = "'"name
abbrev mutual
  pub type_tests : TypeTree → PieceTests
  type_tests (of_primitive l) = (λ p. list_any (λ x. bytes_eq p x.0 && same_label x.1 l) primitive_names) ∷ []
  type_tests never_type = literal "!"
  type_tests (variable_type n) = name_with "?" n
  type_tests (named n args) = name_with "" n ++ enclosed "<" "," ">" (args_tests args)
  type_tests (reference_to l m t) = literal "&" ++ option_map_or (name_with "'") l [] ++ (if m then literal "mut" else []) ++ type_tests t
  type_tests (pointer_to m t) = literal "*" ++ (if m then literal "mut" else literal "const") ++ type_tests t
  type_tests (slice_of t) = literal "[" ++ type_tests t ++ literal "]"
  type_tests (array_of t (number_length n)) = literal "[" ++ type_tests t ++ literal ";" ++ numeral n ++ literal "]"
  type_tests (array_of t (name_length n)) = literal "[" ++ type_tests t ++ literal ";" ++ name_with "" n ++ literal "]"
  type_tests (array_of t (variable_length n)) = literal "[" ++ type_tests t ++ literal ";" ++ name_with "?" n ++ literal "]"
  type_tests (tuple_of (and_type t no_types)) = literal "(" ++ type_tests t ++ literal ",)"
  type_tests (tuple_of ts) = literal "(" ++ enclosed "" "," "" (types_tests ts) ++ literal ")"
  type_tests (fn_of b ts) = enclosed "for<" "," ">" (map (name_with "'") b) ++ literal "fn(" ++ enclosed "" "," "" (types_tests ts) ++ literal ")"
  type_tests (fn_to b ts r) =
      enclosed "for<" "," ">" (map (name_with "'") b) ++ literal "fn(" ++ enclosed "" "," "" (types_tests ts) ++ literal ")->" ++ type_tests r
  type_tests (dyn_of i is) = enclosed "dyn" "+" "" (item_tests i ∷ items_tests is)

  -- The tests for each of the types.
  pub types_tests : Types → List PieceTests
  types_tests no_types = []
  types_tests (and_type t ts) = type_tests t ∷ types_tests ts

  -- The tests for each of the arguments: a lifetime, a number or a type.
  pub args_tests : Args → List PieceTests
  args_tests no_args = []
  args_tests (and_arg (lifetime_arg n) args) = name_with "'" n ∷ args_tests args
  args_tests (and_arg (number_arg n) args) = numeral n ∷ args_tests args
  args_tests (and_arg (type_arg t) args) = type_tests t ∷ args_tests args

  -- The tests for one bound of a `dyn`: a trait with its arguments, or a lifetime.
  pub item_tests : Item → PieceTests
  item_tests (bound_item b n args) = enclosed "for<" "," ">" (map (name_with "'") b) ++ name_with "" n ++ enclosed "<" "," ">" (args_tests args)
  item_tests (lifetime_item n) = name_with "'" n

  -- The tests for each of the bounds of a `dyn`.
  pub items_tests : DynBounds → List PieceTests
  items_tests no_items = []
  items_tests (and_item i is) = item_tests i ∷ items_tests is

-- params = "<" param {"," param} ">"
-- param = lifetime | name | "const" name
abbrev pub params_tests : Params → PieceTests
params_tests p = enclosed "<" "," ">" (map (name_with "'") p.lifetimes ++ map (name_with "") p.types ++ map (λ n. literal "const" ++ name_with "" n) p.consts)

-- The tests for a bound. A bound has the syntax of a struct with arguments.
abbrev pub bound_tests : Bound → PieceTests
bound_tests b = type_tests (named b.trait b.args)

-- clause = type ":" bound
abbrev pub clause_tests : Clause → PieceTests
clause_tests k = type_tests k.subject ++ literal ":" ++ bound_tests k.bound

-- crate  = "crate" name ["uses" name {"," name}]
-- struct = ["fundamental"] "struct" name [params] ["(" type {"," type} ")"]
-- trait  = ["fundamental"] ["auto"] "trait" name [params] [":" bound {"+" bound}]
-- impl   = "impl" [params] bound "for" type ["where" clause {"," clause}]
-- prove  = "prove" "in" name [params] clause {"," clause} ["where" clause {"," clause}]
-- refute = "refute" "in" name [params] clause {"," clause}
-- later  = "later" name
-- supers = "supers" "in" name
abbrev pub line_tests : Line → PieceTests
line_tests (crate_line n us) = literal "crate" ++ name_with "" n ++ enclosed "uses" "," "" (map (name_with "") us)
line_tests (struct_line f n ps fs) =
    (if f then literal "fundamental" else []) ++ literal "struct" ++ name_with "" n ++ params_tests ps ++ enclosed "(" "," ")" (types_tests fs)
line_tests (trait_line f a n ps bs) = (if f then literal "fundamental" else []) ++ (if a then literal "auto" else []) ++ literal "trait" ++ name_with "" n
    ++ params_tests ps ++ enclosed ":" "+" "" (map bound_tests bs)
line_tests (impl_line ps h ks) =
    literal "impl" ++ params_tests ps ++ bound_tests h.bound ++ literal "for" ++ type_tests h.subject ++ enclosed "where" "," "" (map clause_tests ks)
line_tests (prove_line c ps a bs ks) =
    literal "prove in" ++ name_with "" c ++ params_tests ps ++ enclosed "" "," "" (map clause_tests (a ∷ bs)) ++ enclosed "where" "," "" (map clause_tests ks)
line_tests (refute_line c ps a bs) = literal "refute in" ++ name_with "" c ++ params_tests ps ++ enclosed "" "," "" (map clause_tests (a ∷ bs))
line_tests (later_line n) = literal "later" ++ name_with "" n
line_tests (supers_line n) = literal "supers in" ++ name_with "" n

-- The bytes are this line: there are as many pieces as tests, and each piece passes its test.
abbrev pub BytesSay : List ℕ → Line → Type 0
BytesSay bytes l = AllZip (λ test piece. test piece ≡ true) (line_tests l) (pieces_of bytes)

-- ---- the grammar of lines as they are written
-- binding = name "=" type
abbrev pub binding_tests : Binding → PieceTests
binding_tests v = name_with "" v.name ++ literal "=" ++ type_tests v.value

-- bound = name ["<" (arg | binding) {"," (arg | binding)} ">"]
-- The bindings stand after the arguments.
abbrev pub written_bound_tests : WrittenBound → PieceTests
written_bound_tests b = name_with "" b.bound.trait ++ enclosed "<" "," ">" (args_tests b.bound.args ++ map binding_tests b.bindings)

-- clause = type ":" bound
abbrev pub written_clause_tests : WrittenClause → PieceTests
written_clause_tests k = type_tests k.subject ++ literal ":" ++ written_bound_tests k.bound

-- trait  = ["fundamental"] ["auto"] "trait" name [params] [":" bound {"+" bound}] ["{" "type" name ";" {"type" name ";"} "}"]
-- impl   = "impl" [params] name ["<" arg {"," arg} ">"] "for" type ["where" clause {"," clause}]
--          ["{" "type" binding ";" {"type" binding ";"} "}"]
-- prove  = "prove" "in" name [params] clause {"," clause} ["where" clause {"," clause}]
-- refute = "refute" "in" name [params] clause {"," clause}
-- The other lines are as above.
abbrev pub written_tests : WrittenLine → PieceTests
written_tests (written_crate n us) = line_tests (crate_line n us)
written_tests (written_struct f n ps fs) = line_tests (struct_line f n ps fs)
written_tests (written_trait f a n ps bs ts) =
    line_tests (trait_line f a n ps []) ++ enclosed ":" "+" "" (map written_bound_tests bs) ++ enclosed "{ type" "type" "}" (map (λ t. name_with "" t ++ literal ";") ts)
written_tests (written_impl ps h ks) =
    line_tests (impl_line ps (record { subject = h.subject; bound = h.bound.bound }) []) ++ enclosed "where" "," "" (map written_clause_tests ks)
    ++ enclosed "{ type" "type" "}" (map (λ v. binding_tests v ++ literal ";") h.bound.bindings)
written_tests (written_prove c ps a bs ks) =
    literal "prove in" ++ name_with "" c ++ params_tests ps ++ enclosed "" "," "" (map written_clause_tests (a ∷ bs)) ++ enclosed "where" "," "" (map written_clause_tests ks)
written_tests (written_refute c ps a bs) = literal "refute in" ++ name_with "" c ++ params_tests ps ++ enclosed "" "," "" (map written_clause_tests (a ∷ bs))
written_tests (written_later n) = line_tests (later_line n)
written_tests (written_supers n) = line_tests (supers_line n)

-- The bytes are this line, as it is written.
abbrev pub BytesWrite : List ℕ → WrittenLine → Type 0
BytesWrite bytes w = AllZip (λ test piece. test piece ≡ true) (written_tests w) (pieces_of bytes)

-- The lines of a text, without the newline.
abbrev pub text_lines : List ℕ → List (List ℕ)
text_lines bytes = slice_split (λ b. b == 10) bytes

-- The long definition of the grammar: the tokens of each line.
use Rattle.std.specs.Prelude.{ℕ, Bool, true, false, List, [], ◌∷◌, ◌++◌, map, Option, Some, None, if◌then◌else◌}
use Rattle.text_language.specs.Words.{Sign, comma, open_angle, close_angle, exclamation, ampersand, star, open_square, close_square, semicolon, open_round, close_round, plus, colon, equals, open_brace, close_brace, Keyword, crate_word, uses_word, fundamental_word, struct_word, auto_word, trait_word, impl_word, for_word, where_word, prove_word, refute_word, in_word, mut_word, const_word, fn_word, dyn_word, later_word, supers_word, type_word}
use Rattle.text_language.specs.Tokens.{Token, keyword, primitive, name, lifetime, variable, number, sign, arrow}
use Rattle.text_language.specs.Promised.Syntax.{Length, number_length, name_length, variable_length, TypeTree, of_primitive, never_type, variable_type, named, reference_to, pointer_to, slice_of, array_of, tuple_of, fn_of, fn_to, dyn_of, Types, no_types, and_type, Args, no_args, and_arg, Arg, lifetime_arg, number_arg, type_arg, Item, bound_item, lifetime_item, DynBounds, no_items, and_item, Params, Bound, Clause, Line, crate_line, struct_line, trait_line, impl_line, prove_line, refute_line, later_line, supers_line, Binding, WrittenBound, WrittenClause, WrittenLine, written_crate, written_struct, written_trait, written_impl, written_prove, written_refute, written_later, written_supers}

-- Lifetimes, each after a comma.
abbrev pub more_lifetimes : List (List ℕ) → List Token
more_lifetimes [] = []
more_lifetimes (n ∷ ns) = sign comma ∷ lifetime n ∷ more_lifetimes ns

-- binder = "for" "<" "'"name {"," "'"name} ">", or nothing
abbrev pub binder_spelling : List (List ℕ) → List Token
binder_spelling [] = []
binder_spelling (n ∷ ns) = keyword for_word ∷ sign open_angle ∷ lifetime n ∷ (more_lifetimes ns ++ sign close_angle ∷ [])

abbrev pub lifetime_spelling : Option (List ℕ) → List Token
lifetime_spelling None = []
lifetime_spelling (Some n) = lifetime n ∷ []

abbrev pub mut_spelling : Bool → List Token
mut_spelling false = []
mut_spelling true = keyword mut_word ∷ []

abbrev pub pointer_word : Bool → Keyword
pointer_word false = const_word
pointer_word true = mut_word

abbrev pub length_token : Length → Token
length_token (number_length n) = number n
length_token (name_length n) = name n
length_token (variable_length n) = variable n

-- type = primitive | "!" | "?"name | name ["<" arg {"," arg} ">"]
--      | "&" [lifetime] ["mut"] type | "*" ("const" | "mut") type
--      | "[" type "]" | "[" type ";" (number | name | "?"name) "]"
--      | "(" ")" | "(" type "," ")" | "(" type "," type {"," type} ")"
--      | [binder] "fn" "(" [type {"," type}] ")" ["->" type]
--      | "dyn" item {"+" item}
-- arg = lifetime | type | number
-- item = [binder] bound | lifetime
-- bound = name ["<" arg {"," arg} ">"]
abbrev mutual
  pub type_spelling : TypeTree → List Token
  type_spelling (of_primitive p) = primitive p ∷ []
  type_spelling never_type = sign exclamation ∷ []
  type_spelling (variable_type n) = variable n ∷ []
  type_spelling (named n args) = name n ∷ args_spelling args
  type_spelling (reference_to l m t) = sign ampersand ∷ (lifetime_spelling l ++ (mut_spelling m ++ type_spelling t))
  type_spelling (pointer_to m t) = sign star ∷ keyword (pointer_word m) ∷ type_spelling t
  type_spelling (slice_of t) = sign open_square ∷ (type_spelling t ++ sign close_square ∷ [])
  type_spelling (array_of t n) = sign open_square ∷ (type_spelling t ++ sign semicolon ∷ length_token n ∷ sign close_square ∷ [])
  type_spelling (tuple_of ts) = sign open_round ∷ tuple_spelling ts
  type_spelling (fn_of b ts) = binder_spelling b ++ keyword fn_word ∷ sign open_round ∷ inputs_spelling ts
  type_spelling (fn_to b ts r) = binder_spelling b ++ keyword fn_word ∷ sign open_round ∷ (inputs_spelling ts ++ arrow ∷ type_spelling r)
  type_spelling (dyn_of i is) = keyword dyn_word ∷ (item_spelling i ++ more_items is)

  -- The items of a tuple and `)`. A single item is followed by a comma.
  pub tuple_spelling : Types → List Token
  tuple_spelling no_types = sign close_round ∷ []
  tuple_spelling (and_type t ts) = type_spelling t ++ second_item ts

  pub second_item : Types → List Token
  second_item no_types = sign comma ∷ sign close_round ∷ []
  second_item (and_type t ts) = sign comma ∷ (type_spelling t ++ more_types ts)

  -- The inputs of a fn and `)`.
  pub inputs_spelling : Types → List Token
  inputs_spelling no_types = sign close_round ∷ []
  inputs_spelling (and_type t ts) = type_spelling t ++ more_types ts

  -- Types, each after a comma, and `)`.
  pub more_types : Types → List Token
  more_types no_types = sign close_round ∷ []
  more_types (and_type t ts) = sign comma ∷ (type_spelling t ++ more_types ts)

  pub args_spelling : Args → List Token
  args_spelling no_args = []
  args_spelling (and_arg a args) = sign open_angle ∷ (arg_spelling a ++ more_args args)

  pub more_args : Args → List Token
  more_args no_args = sign close_angle ∷ []
  more_args (and_arg a args) = sign comma ∷ (arg_spelling a ++ more_args args)

  pub arg_spelling : Arg → List Token
  arg_spelling (lifetime_arg n) = lifetime n ∷ []
  arg_spelling (number_arg n) = number n ∷ []
  arg_spelling (type_arg t) = type_spelling t

  pub item_spelling : Item → List Token
  item_spelling (bound_item b n args) = binder_spelling b ++ name n ∷ args_spelling args
  item_spelling (lifetime_item n) = lifetime n ∷ []

  -- Bounds of a `dyn`, each after `+`.
  pub more_items : DynBounds → List Token
  more_items no_items = []
  more_items (and_item i is) = sign plus ∷ (item_spelling i ++ more_items is)

abbrev pub no_params : Params
no_params = record { lifetimes = []; types = []; consts = [] }

-- Names, each after a comma.
abbrev pub more_names : List (List ℕ) → List Token
more_names [] = []
more_names (n ∷ ns) = sign comma ∷ name n ∷ more_names ns

abbrev pub uses_spelling : List (List ℕ) → List Token
uses_spelling [] = []
uses_spelling (n ∷ ns) = keyword uses_word ∷ name n ∷ more_names ns

-- param = "'"name | name | "const" name
abbrev pub param_spellings : Params → List (List Token)
param_spellings p = map (λ n. lifetime n ∷ []) p.lifetimes ++ (map (λ n. name n ∷ []) p.types ++ map (λ n. keyword const_word ∷ name n ∷ []) p.consts)

-- Each part after the token.
abbrev pub after_each : Token → List (List Token) → List Token
after_each k [] = []
after_each k (p ∷ ps) = k ∷ (p ++ after_each k ps)

-- Each part after the sign.
abbrev pub behind : Sign → List (List Token) → List Token
behind b ps = after_each (sign b) ps

-- params = "<" param {"," param} ">", or nothing
abbrev pub in_angles : List (List Token) → List Token
in_angles [] = []
in_angles (p ∷ ps) = sign open_angle ∷ (p ++ (behind comma ps ++ sign close_angle ∷ []))

abbrev pub params_spelling : Params → List Token
params_spelling p = in_angles (param_spellings p)

abbrev pub bound_spelling : Bound → List Token
bound_spelling b = name b.trait ∷ args_spelling b.args

abbrev pub clause_spelling : Clause → List Token
clause_spelling k = type_spelling k.subject ++ sign colon ∷ bound_spelling k.bound

-- `":" bound {"+" bound}`, or nothing
abbrev pub bounds_spelling : List (List Token) → List Token
bounds_spelling [] = []
bounds_spelling (b ∷ bs) = sign colon ∷ (b ++ behind plus bs)

-- where = "where" type ":" bound {"," type ":" bound}, or nothing
abbrev pub where_spelling : List (List Token) → List Token
where_spelling [] = []
where_spelling (k ∷ ks) = keyword where_word ∷ (k ++ behind comma ks)

-- `"(" type {"," type} ")"`, or nothing
abbrev pub fields_spelling : Types → List Token
fields_spelling no_types = []
fields_spelling (and_type t ts) = sign open_round ∷ (type_spelling t ++ more_types ts)

abbrev pub if_so : Bool → Keyword → List Token
if_so b k = if b then keyword k ∷ [] else []

-- crate  = "crate" name ["uses" name {"," name}]
-- struct = ["fundamental"] "struct" name [params] ["(" type {"," type} ")"]
-- trait  = ["fundamental"] ["auto"] "trait" name [params] [":" bound {"+" bound}]
-- impl   = "impl" [params] bound "for" type [where]
-- prove  = "prove" "in" name [params] type ":" bound {"," type ":" bound} [where]
-- refute = "refute" "in" name [params] type ":" bound {"," type ":" bound}
-- later  = "later" name
-- supers = "supers" "in" name
abbrev pub spelling : Line → List Token
spelling (crate_line n us) = keyword crate_word ∷ name n ∷ uses_spelling us
spelling (struct_line f n ps fs) = if_so f fundamental_word ++ keyword struct_word ∷ name n ∷ (params_spelling ps ++ fields_spelling fs)
spelling (trait_line f a n ps bs) =
    if_so f fundamental_word ++ (if_so a auto_word ++ keyword trait_word ∷ name n ∷ (params_spelling ps ++ bounds_spelling (map bound_spelling bs)))
spelling (impl_line ps h ks) =
    keyword impl_word ∷ (params_spelling ps ++ (bound_spelling h.bound ++ keyword for_word ∷ (type_spelling h.subject ++ where_spelling (map clause_spelling ks))))
spelling (prove_line c ps a bs ks) =
    keyword prove_word ∷ keyword in_word ∷ name c
    ∷ (params_spelling ps ++ (clause_spelling a ++ (behind comma (map clause_spelling bs) ++ where_spelling (map clause_spelling ks))))
spelling (refute_line c ps a bs) =
    keyword refute_word ∷ keyword in_word ∷ name c ∷ (params_spelling ps ++ (clause_spelling a ++ behind comma (map clause_spelling bs)))
spelling (later_line n) = keyword later_word ∷ name n ∷ []
spelling (supers_line n) = keyword supers_word ∷ keyword in_word ∷ name n ∷ []

-- ---- lines as they are written
abbrev pub arg_spellings : Args → List (List Token)
arg_spellings no_args = []
arg_spellings (and_arg a args) = arg_spelling a ∷ arg_spellings args

-- binding = name "=" type
abbrev pub binding_spelling : Binding → List Token
binding_spelling v = name v.name ∷ sign equals ∷ type_spelling v.value

-- bound = name ["<" (arg | binding) {"," (arg | binding)} ">"]
abbrev pub written_bound_spelling : WrittenBound → List Token
written_bound_spelling b = name b.bound.trait ∷ in_angles (arg_spellings b.bound.args ++ map binding_spelling b.bindings)

abbrev pub written_clause_spelling : WrittenClause → List Token
written_clause_spelling k = type_spelling k.subject ++ sign colon ∷ written_bound_spelling k.bound

-- `"{" "type" part {"type" part} "}"`, or nothing
abbrev pub in_braces : List (List Token) → List Token
in_braces [] = []
in_braces (p ∷ ps) = sign open_brace ∷ keyword type_word ∷ (p ++ (after_each (keyword type_word) ps ++ sign close_brace ∷ []))

abbrev pub written_spelling : WrittenLine → List Token
written_spelling (written_crate n us) = spelling (crate_line n us)
written_spelling (written_struct f n ps fs) = spelling (struct_line f n ps fs)
written_spelling (written_trait f a n ps bs ts) =
    spelling (trait_line f a n ps []) ++ (bounds_spelling (map written_bound_spelling bs) ++ in_braces (map (λ t. name t ∷ sign semicolon ∷ []) ts))
written_spelling (written_impl ps h ks) =
    spelling (impl_line ps (record { subject = h.subject; bound = h.bound.bound }) [])
    ++ (where_spelling (map written_clause_spelling ks) ++ in_braces (map (λ v. binding_spelling v ++ sign semicolon ∷ []) h.bound.bindings))
written_spelling (written_prove c ps a bs ks) =
    keyword prove_word ∷ keyword in_word ∷ name c
    ∷ (params_spelling ps ++ ((written_clause_spelling a ++ behind comma (map written_clause_spelling bs)) ++ where_spelling (map written_clause_spelling ks)))
written_spelling (written_refute c ps a bs) =
    keyword refute_word ∷ keyword in_word ∷ name c ∷ (params_spelling ps ++ (written_clause_spelling a ++ behind comma (map written_clause_spelling bs)))
written_spelling (written_later n) = spelling (later_line n)
written_spelling (written_supers n) = spelling (supers_line n)

-- Lines with `=` or `{` among their tokens. The others stand for themselves alone.
use Rattle.std.proofs.Common.{◌≡◌, ℕ, Bool, true, false, ◌||◌, List, [], ◌∷◌, ◌++◌, Option, Some, None, refl, ap, ◌∙◌}
use Rattle.std.specs.Prelude.{map}
use Rattle.text_language.specs.Words.{comma, plus, close_angle, close_square, semicolon, const_word, colon}
use Rattle.text_language.specs.Tokens.{Token, keyword, name, lifetime, sign, arrow}
use Rattle.text_language.specs.Promised.Syntax.{Length, number_length, name_length, variable_length, TypeTree, of_primitive, never_type, variable_type, named, reference_to, pointer_to, slice_of, array_of, tuple_of, fn_of, fn_to, dyn_of, Types, no_types, and_type, Args, no_args, and_arg, Arg, lifetime_arg, number_arg, type_arg, Item, bound_item, lifetime_item, DynBounds, no_items, and_item, Params, Clause, Line, crate_line, struct_line, trait_line, impl_line, prove_line, refute_line, later_line, supers_line, Binding, WrittenBound, WrittenClause, WrittenLine, written_crate, written_struct, written_trait, written_impl, written_prove, written_refute, written_later, written_supers}
use Rattle.text_language.specs.Syntax.{lifetime_spelling, mut_spelling, length_token, more_lifetimes, binder_spelling, type_spelling, tuple_spelling, second_item, inputs_spelling, more_types, args_spelling, more_args, arg_spelling, item_spelling, more_items, more_names, uses_spelling, param_spellings, after_each, in_angles, in_braces, params_spelling, fields_spelling, arg_spellings, binding_spelling, written_bound_spelling, written_clause_spelling, bounds_spelling, where_spelling, spelling, written_spelling}
use Rattle.text_language.specs.Agreement.{plain_bound, plain_clause, plain}
use Rattle.text_lines.specs.WrittenParts.{WrittenTokens}
use Rattle.text_lines.specs.WrittenLines.{written_tokens, is_type_sign, has_types}

-- no token is `=` or `{`
abbrev Free : List Token → Type 0
Free ts = has_types ts ≡ false

or-parts : (a b : Bool) → (a || b) ≡ false → (a ≡ false) × (b ≡ false)
or-parts false b e = (refl, e)
or-parts true b e = absurd cc

or-from : (a b : Bool) → a ≡ false → b ≡ false → (a || b) ≡ false
or-from false b e f = f
or-from true b e f = absurd cc

free-append : (xs ys : List Token) → Free xs → Free ys → Free (xs ++ ys)
free-append [] ys a b = b
free-append (x ∷ xs) ys a b = let p = or-parts (is_type_sign x) (has_types xs) a in or-from (is_type_sign x) (has_types (xs ++ ys)) p.0 (free-append xs ys p.1 b)

free-parts : (xs ys : List Token) → Free (xs ++ ys) → Free xs × Free ys
free-parts [] ys e = (refl, e)
free-parts (x ∷ xs) ys e =
    let p = or-parts (is_type_sign x) (has_types (xs ++ ys)) e in
    let q = free-parts xs ys p.1 in
    (or-from (is_type_sign x) (has_types xs) p.0 q.0, q.1)

-- ---- types have none
life-free : (l : Option (List ℕ)) → Free (lifetime_spelling l)
life-free None = refl
life-free (Some n) = refl

mut-free : (m : Bool) → Free (mut_spelling m)
mut-free false = refl
mut-free true = refl

length-free : (n : Length) (ts : List Token) → Free ts → Free (length_token n ∷ ts)
length-free (number_length n) ts e = e
length-free (name_length n) ts e = e
length-free (variable_length n) ts e = e

lifetimes-free : (ns : List (List ℕ)) → Free (more_lifetimes ns)
lifetimes-free [] = refl
lifetimes-free (n ∷ ns) = lifetimes-free ns

binder-free : (b : List (List ℕ)) → Free (binder_spelling b)
binder-free [] = refl
binder-free (n ∷ ns) = free-append (more_lifetimes ns) (sign close_angle ∷ []) (lifetimes-free ns) refl

mutual
  type-free : (t : TypeTree) → Free (type_spelling t)
  type-free (of_primitive p) = refl
  type-free never_type = refl
  type-free (variable_type n) = refl
  type-free (named n args) = args-free args
  type-free (reference_to l m t) = free-append (lifetime_spelling l) (mut_spelling m ++ type_spelling t) (life-free l) (free-append (mut_spelling m) (type_spelling t) (mut-free m) (type-free t))
  type-free (pointer_to m t) = type-free t
  type-free (slice_of t) = free-append (type_spelling t) _ (type-free t) refl
  type-free (array_of t n) = free-append (type_spelling t) (sign semicolon ∷ length_token n ∷ sign close_square ∷ []) (type-free t) (length-free n (sign close_square ∷ []) refl)
  type-free (tuple_of ts) = tuple-free ts
  type-free (fn_of b ts) = free-append (binder_spelling b) _ (binder-free b) (inputs-free ts)
  type-free (fn_to b ts r) = free-append (binder_spelling b) _ (binder-free b) (free-append (inputs_spelling ts) (arrow ∷ type_spelling r) (inputs-free ts) (type-free r))
  type-free (dyn_of i is) = free-append (item_spelling i) (more_items is) (item-free i) (items-free is)

  tuple-free : (ts : Types) → Free (tuple_spelling ts)
  tuple-free no_types = refl
  tuple-free (and_type t ts) = free-append (type_spelling t) (second_item ts) (type-free t) (second-free ts)

  second-free : (ts : Types) → Free (second_item ts)
  second-free no_types = refl
  second-free (and_type t ts) = free-append (type_spelling t) (more_types ts) (type-free t) (more-free ts)

  inputs-free : (ts : Types) → Free (inputs_spelling ts)
  inputs-free no_types = refl
  inputs-free (and_type t ts) = free-append (type_spelling t) (more_types ts) (type-free t) (more-free ts)

  more-free : (ts : Types) → Free (more_types ts)
  more-free no_types = refl
  more-free (and_type t ts) = free-append (type_spelling t) (more_types ts) (type-free t) (more-free ts)

  args-free : (args : Args) → Free (args_spelling args)
  args-free no_args = refl
  args-free (and_arg a args) = free-append (arg_spelling a) (more_args args) (arg-free a) (more-args-free args)

  more-args-free : (args : Args) → Free (more_args args)
  more-args-free no_args = refl
  more-args-free (and_arg a args) = free-append (arg_spelling a) (more_args args) (arg-free a) (more-args-free args)

  arg-free : (a : Arg) → Free (arg_spelling a)
  arg-free (lifetime_arg n) = refl
  arg-free (number_arg n) = refl
  arg-free (type_arg t) = type-free t

  item-free : (i : Item) → Free (item_spelling i)
  item-free (bound_item b n args) = free-append (binder_spelling b) (name n ∷ args_spelling args) (binder-free b) (args-free args)
  item-free (lifetime_item n) = refl

  items-free : (is : DynBounds) → Free (more_items is)
  items-free no_items = refl
  items-free (and_item i is) = free-append (item_spelling i) (more_items is) (item-free i) (items-free is)

-- ---- lines that can have no types have none
names-free : (ns : List (List ℕ)) → Free (more_names ns)
names-free [] = refl
names-free (n ∷ ns) = names-free ns

uses-free : (ns : List (List ℕ)) → Free (uses_spelling ns)
uses-free [] = refl
uses-free (n ∷ ns) = names-free ns

fields-free : (ts : Types) → Free (fields_spelling ts)
fields-free no_types = refl
fields-free (and_type t ts) = free-append (type_spelling t) (more_types ts) (type-free t) (more-free ts)

abbrev AllFree : List (List Token) → Type 0
AllFree [] = Unit {0}
AllFree (p ∷ ps) = Free p × AllFree ps

after-free : (ps : List (List Token)) → AllFree ps → Free (after_each (sign comma) ps)
after-free [] e = refl
after-free (p ∷ ps) e = free-append p (after_each (sign comma) ps) e.0 (after-free ps e.1)

angles-free : (ps : List (List Token)) → AllFree ps → Free (in_angles ps)
angles-free [] e = refl
angles-free (p ∷ ps) e = free-append p (after_each (sign comma) ps ++ sign close_angle ∷ []) e.0 (free-append (after_each (sign comma) ps) (sign close_angle ∷ []) (after-free ps e.1) refl)

each-free : (ls ts cs : List (List ℕ)) → AllFree (map (λ n. lifetime n ∷ []) ls ++ (map (λ n. name n ∷ []) ts ++ map (λ n. keyword const_word ∷ name n ∷ []) cs))
each-free [] [] [] = tt
each-free [] [] (c ∷ cs) = (refl, each-free [] [] cs)
each-free [] (t ∷ ts) cs = (refl, each-free [] ts cs)
each-free (l ∷ ls) ts cs = (refl, each-free ls ts cs)

params-free : (p : Params) → Free (params_spelling p)
params-free p = angles-free (param_spellings p) (each-free p.lifetimes p.types p.consts)

bare-free : (w : WrittenLine) → written_tokens w ≡ None → Free (written_spelling w)
bare-free (written_crate n us) e = uses-free us
bare-free (written_struct false n ps fs) e = free-append (params_spelling ps) (fields_spelling fs) (params-free ps) (fields-free fs)
bare-free (written_struct true n ps fs) e = free-append (params_spelling ps) (fields_spelling fs) (params-free ps) (fields-free fs)
bare-free (written_later n) e = refl
bare-free (written_supers n) e = refl
bare-free (written_trait f a n ps bs ts) e = absurd cc
bare-free (written_impl ps h ks) e = absurd cc
bare-free (written_prove c ps a bs ks) e = absurd cc
bare-free (written_refute c ps a bs) e = absurd cc

-- a line with types is of a kind that can have some
pub some-parts : (w : WrittenLine) → has_types (written_spelling w) ≡ true → (x : WrittenTokens) × (written_tokens w ≡ Some x)
some-parts (written_trait f a n ps bs ts) e = (_, refl)
some-parts (written_impl ps h ks) e = (_, refl)
some-parts (written_prove c ps a bs ks) e = (_, refl)
some-parts (written_refute c ps a bs) e = (_, refl)
some-parts (written_crate n us) e = let free = bare-free (written_crate n us) refl in absurd cc
some-parts (written_struct f n ps fs) e = let free = bare-free (written_struct f n ps fs) refl in absurd cc
some-parts (written_later n) e = let free = bare-free (written_later n) refl in absurd cc
some-parts (written_supers n) e = let free = bare-free (written_supers n) refl in absurd cc

-- ---- a line without types is one of the lines of the language
each-none : (ss : List (List Token)) (vs : List Binding) → Free (after_each (sign comma) (ss ++ map binding_spelling vs)) → vs ≡ []
each-none [] [] e = refl
each-none [] (v ∷ vs) e = absurd cc
each-none (s ∷ ss) vs e = each-none ss vs (free-parts s (after_each (sign comma) (ss ++ map binding_spelling vs)) e).1

no-bindings : (ss : List (List Token)) (vs : List Binding) → Free (in_angles (ss ++ map binding_spelling vs)) → vs ≡ []
no-bindings [] [] e = refl
no-bindings [] (v ∷ vs) e = absurd cc
no-bindings (s ∷ ss) vs e =
    let rest = after_each (sign comma) (ss ++ map binding_spelling vs) in
    each-none ss vs (free-parts rest (sign close_angle ∷ []) (free-parts s (rest ++ sign close_angle ∷ []) e).1).0

bound-plain : (b : WrittenBound) → Free (written_bound_spelling b) → b ≡ plain_bound b.bound
bound-plain b e = ap (λ (z : List Binding). record { bound = b.bound; bindings = z }) (no-bindings (arg_spellings b.bound.args) b.bindings e)

abbrev bare_clause : WrittenClause → Clause
bare_clause k = record { subject = k.subject; bound = k.bound.bound }

clause-plain : (k : WrittenClause) → Free (written_clause_spelling k) → k ≡ plain_clause (bare_clause k)
clause-plain k e = ap (λ (z : WrittenBound). record { subject = k.subject; bound = z }) (bound-plain k.bound (free-parts (type_spelling k.subject) (sign colon ∷ written_bound_spelling k.bound) e).1)

bounds-plain : (bs : List WrittenBound) → Free (after_each (sign plus) (map written_bound_spelling bs)) → bs ≡ map plain_bound (map (λ b. b.bound) bs)
bounds-plain [] e = refl
bounds-plain (b ∷ bs) e =
    let p = free-parts (written_bound_spelling b) (after_each (sign plus) (map written_bound_spelling bs)) e in
    ap (λ z. z ∷ bs) (bound-plain b p.0) ∙ ap (λ z. plain_bound b.bound ∷ z) (bounds-plain bs p.1)

supers-plain : (bs : List WrittenBound) → Free (bounds_spelling (map written_bound_spelling bs)) → bs ≡ map plain_bound (map (λ b. b.bound) bs)
supers-plain [] e = refl
supers-plain (b ∷ bs) e = bounds-plain (b ∷ bs) e

clauses-plain : (ks : List WrittenClause) → Free (after_each (sign comma) (map written_clause_spelling ks)) → ks ≡ map plain_clause (map bare_clause ks)
clauses-plain [] e = refl
clauses-plain (k ∷ ks) e =
    let p = free-parts (written_clause_spelling k) (after_each (sign comma) (map written_clause_spelling ks)) e in
    ap (λ z. z ∷ ks) (clause-plain k p.0) ∙ ap (λ z. plain_clause (bare_clause k) ∷ z) (clauses-plain ks p.1)

where-plain : (ks : List WrittenClause) → Free (where_spelling (map written_clause_spelling ks)) → ks ≡ map plain_clause (map bare_clause ks)
where-plain [] e = refl
where-plain (k ∷ ks) e = clauses-plain (k ∷ ks) e

no-braces : {A : Type 0} (s : A → List Token) (xs : List A) → Free (in_braces (map s xs)) → xs ≡ []
no-braces s [] e = refl
no-braces s (x ∷ xs) e = absurd cc

-- the line that it is
abbrev pub bare_line : WrittenLine → Line
bare_line (written_crate n us) = crate_line n us
bare_line (written_struct f n ps fs) = struct_line f n ps fs
bare_line (written_trait f a n ps bs ts) = trait_line f a n ps (map (λ b. b.bound) bs)
bare_line (written_impl ps h ks) = impl_line ps (bare_clause h) (map bare_clause ks)
bare_line (written_prove c ps a bs ks) = prove_line c ps (bare_clause a) (map bare_clause bs) (map bare_clause ks)
bare_line (written_refute c ps a bs) = refute_line c ps (bare_clause a) (map bare_clause bs)
bare_line (written_later n) = later_line n
bare_line (written_supers n) = supers_line n

trait-plain : (f a : Bool) (n : List ℕ) (ps : Params) (bs : List WrittenBound) (ts : List (List ℕ)) → Free (written_spelling (written_trait f a n ps bs ts)) → written_trait f a n ps bs ts ≡ plain (trait_line f a n ps (map (λ b. b.bound) bs))
trait-plain f a n ps bs ts e =
    let p = (free-parts (spelling (trait_line f a n ps [])) (bounds_spelling (map written_bound_spelling bs) ++ in_braces (map (λ t. name t ∷ sign semicolon ∷ []) ts)) e).1 in
    let q = free-parts (bounds_spelling (map written_bound_spelling bs)) (in_braces (map (λ t. name t ∷ sign semicolon ∷ []) ts)) p in
    ap (λ z. written_trait f a n ps z ts) (supers-plain bs q.0) ∙ ap (λ z. written_trait f a n ps (map plain_bound (map (λ b. b.bound) bs)) z) (no-braces (λ t. name t ∷ sign semicolon ∷ []) ts q.1)

impl-plain : (ps : Params) (h : WrittenClause) (ks : List WrittenClause) → Free (written_spelling (written_impl ps h ks)) → written_impl ps h ks ≡ plain (impl_line ps (bare_clause h) (map bare_clause ks))
impl-plain ps h ks e =
    let G = in_braces (map (λ v. binding_spelling v ++ sign semicolon ∷ []) h.bound.bindings) in
    let p = (free-parts (spelling (impl_line ps (bare_clause h) [])) (where_spelling (map written_clause_spelling ks) ++ G) e).1 in
    let q = free-parts (where_spelling (map written_clause_spelling ks)) G p in
    ap (λ z. written_impl ps (record { subject = h.subject; bound = record { bound = h.bound.bound; bindings = z } }) ks) (no-braces (λ v. binding_spelling v ++ sign semicolon ∷ []) h.bound.bindings q.1)
    ∙ ap (λ z. written_impl ps (plain_clause (bare_clause h)) z) (where-plain ks q.0)

prove-plain : (c : List ℕ) (ps : Params) (a : WrittenClause) (bs ks : List WrittenClause) → Free (written_spelling (written_prove c ps a bs ks))
    → written_prove c ps a bs ks ≡ plain (prove_line c ps (bare_clause a) (map bare_clause bs) (map bare_clause ks))
prove-plain c ps a bs ks e =
    let F = after_each (sign comma) (map written_clause_spelling bs) in
    let W = where_spelling (map written_clause_spelling ks) in
    let p = free-parts (written_clause_spelling a ++ F) W (free-parts (params_spelling ps) ((written_clause_spelling a ++ F) ++ W) e).1 in
    let q = free-parts (written_clause_spelling a) F p.0 in
    ap (λ z. written_prove c ps z bs ks) (clause-plain a q.0) ∙ ap (λ z. written_prove c ps (plain_clause (bare_clause a)) z ks) (clauses-plain bs q.1)
    ∙ ap (λ z. written_prove c ps (plain_clause (bare_clause a)) (map plain_clause (map bare_clause bs)) z) (where-plain ks p.1)

refute-plain : (c : List ℕ) (ps : Params) (a : WrittenClause) (bs : List WrittenClause) → Free (written_spelling (written_refute c ps a bs)) → written_refute c ps a bs ≡ plain (refute_line c ps (bare_clause a) (map bare_clause bs))
refute-plain c ps a bs e =
    let F = after_each (sign comma) (map written_clause_spelling bs) in
    let q = free-parts (written_clause_spelling a) F (free-parts (params_spelling ps) (written_clause_spelling a ++ F) e).1 in
    ap (λ z. written_refute c ps z bs) (clause-plain a q.0) ∙ ap (λ z. written_refute c ps (plain_clause (bare_clause a)) z) (clauses-plain bs q.1)

pub without-types : (w : WrittenLine) → has_types (written_spelling w) ≡ false → w ≡ plain (bare_line w)
without-types (written_crate n us) e = refl
without-types (written_struct f n ps fs) e = refl
without-types (written_trait f a n ps bs ts) e = trait-plain f a n ps bs ts e
without-types (written_impl ps h ks) e = impl-plain ps h ks e
without-types (written_prove c ps a bs ks) e = prove-plain c ps a bs ks e
without-types (written_refute c ps a bs) e = refute-plain c ps a bs e
without-types (written_later n) e = refl
without-types (written_supers n) e = refl

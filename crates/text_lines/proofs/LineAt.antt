-- The line that tokens spell, as a function from left to right.
use Rattle.std.proofs.Common.{ℕ, zero, suc, Bool, true, false, List, [], ◌∷◌, ◌++◌, length, Option, Some, None}
use Rattle.std.specs.Prelude.{map}
use Rattle.std.specs.Option.{option_map}
use Rattle.text_language.specs.Words.{comma, open_angle, close_angle, open_round, colon, crate_word, uses_word, fundamental_word, struct_word, auto_word, trait_word, impl_word, for_word, where_word, prove_word, refute_word, later_word, supers_word, in_word, const_word, fn_word, dyn_word}
use Rattle.text_language.specs.Tokens.{Token, keyword, name, lifetime, sign}
use Rattle.text_language.specs.Promised.Syntax.{TypeTree, fn_of, dyn_of, Types, no_types, and_type, Item, bound_item, DynBounds, no_items, and_item, Params, Bound, Clause, Line, crate_line, struct_line, trait_line, impl_line, prove_line, refute_line, later_line, supers_line}
use Rattle.text_language.specs.Syntax.{no_params}
use Rattle.text_lines.proofs.TypeAt.{◌>>=◌, type_at, bound_at, clause_at}

-- ---- names
abbrev pub names_at : List Token → Option (List (List ℕ))
names_at [] = Some []
names_at (sign comma ∷ name n ∷ ts) = option_map (λ ns. n ∷ ns) (names_at ts)
names_at _ = None

abbrev pub uses_at : List Token → Option (List (List ℕ))
uses_at [] = Some []
uses_at (keyword uses_word ∷ name n ∷ ts) = option_map (λ ns. n ∷ ns) (names_at ts)
uses_at _ = None

-- ---- parameters: read as they come, and then looked at for their order
pub data Param : Type 0 where
  lifetime_param type_param const_param : List ℕ → Param

abbrev pub param_spelling : Param → List Token
param_spelling (lifetime_param n) = lifetime n ∷ []
param_spelling (type_param n) = name n ∷ []
param_spelling (const_param n) = keyword const_word ∷ name n ∷ []

abbrev pub param_list : Params → List Param
param_list p = map lifetime_param p.lifetimes ++ (map type_param p.types ++ map const_param p.consts)

abbrev pub param_first : Param → Option (List Param × List Token) → Option (List Param × List Token)
param_first p None = None
param_first p (Some x) = Some (p ∷ x.0, x.1)

abbrev pub more_params : List Token → Option (List Param × List Token)
more_params (sign close_angle ∷ ts) = Some ([], ts)
more_params (sign comma ∷ lifetime n ∷ ts) = param_first (lifetime_param n) (more_params ts)
more_params (sign comma ∷ name n ∷ ts) = param_first (type_param n) (more_params ts)
more_params (sign comma ∷ keyword const_word ∷ name n ∷ ts) = param_first (const_param n) (more_params ts)
more_params _ = None

abbrev pub consts_of : List Param → Option (List (List ℕ))
consts_of [] = Some []
consts_of (const_param n ∷ ps) = option_map (λ ns. n ∷ ns) (consts_of ps)
consts_of _ = None

abbrev pub with_type : List ℕ → Params → Params
with_type n p = record { lifetimes = p.lifetimes; types = n ∷ p.types; consts = p.consts }

abbrev pub with_lifetime : List ℕ → Params → Params
with_lifetime n p = record { lifetimes = n ∷ p.lifetimes; types = p.types; consts = p.consts }

abbrev pub with_consts : List (List ℕ) → Params
with_consts ns = record { lifetimes = []; types = []; consts = ns }

abbrev pub types_of : List Param → Option Params
types_of (type_param n ∷ ps) = option_map (with_type n) (types_of ps)
types_of ps = option_map with_consts (consts_of ps)

abbrev pub ordered : List Param → Option Params
ordered (lifetime_param n ∷ ps) = option_map (with_lifetime n) (ordered ps)
ordered ps = types_of ps

abbrev pub in_order : Option (List Param × List Token) → Option (Params × List Token)
in_order None = None
in_order (Some x) = option_map (λ p. (p, x.1)) (ordered x.0)

abbrev pub params_at : List Token → Option (Params × List Token)
params_at (sign open_angle ∷ ts) = in_order (more_params (sign comma ∷ ts))
params_at ts = Some (no_params, ts)

-- ---- fields: read as the inputs of a fn
abbrev pub as_fields : Option (TypeTree × List Token) → Option Types
as_fields (Some (fn_of [] (and_type t ts), [])) = Some (and_type t ts)
as_fields _ = None

abbrev pub fields_at : List Token → Option Types
fields_at [] = Some no_types
fields_at (sign open_round ∷ ts) = as_fields (type_at (keyword fn_word ∷ sign open_round ∷ ts))
fields_at _ = None

-- ---- supertraits: read as the bounds of a `dyn`
abbrev pub item_bound : Item → Option Bound
item_bound (bound_item [] n args) = Some (record { trait = n; args = args })
item_bound _ = None

abbrev pub bound_first : Option Bound → Option (List Bound) → Option (List Bound)
bound_first (Some b) (Some bs) = Some (b ∷ bs)
bound_first _ _ = None

abbrev pub items_bounds : DynBounds → Option (List Bound)
items_bounds no_items = Some []
items_bounds (and_item i is) = bound_first (item_bound i) (items_bounds is)

abbrev pub as_bounds : Option (TypeTree × List Token) → Option (List Bound)
as_bounds (Some (dyn_of i is, [])) = bound_first (item_bound i) (items_bounds is)
as_bounds _ = None

abbrev pub bounds_at : List Token → Option (List Bound)
bounds_at [] = Some []
bounds_at (sign colon ∷ ts) = as_bounds (type_at (keyword dyn_word ∷ ts))
bounds_at _ = None

-- ---- where-clauses, to the end of the line; n is more than there are
abbrev pub more_clauses : (List Token → Option (List Clause)) → Clause × List Token → Option (List Clause)
more_clauses f (k, []) = Some (k ∷ [])
more_clauses f (k, sign comma ∷ ts) = option_map (λ ks. k ∷ ks) (f ts)
more_clauses f _ = None

abbrev pub clauses_at : ℕ → List Token → Option (List Clause)
clauses_at zero ts = None
clauses_at (suc n) ts = clause_at ts >>= more_clauses (clauses_at n)

abbrev pub where_at : List Token → Option (List Clause)
where_at [] = Some []
where_at (keyword where_word ∷ ts) = clauses_at (length ts) ts
where_at _ = None

-- ---- the bounds of a query after the first; n is more than there are
abbrev pub further_at : ℕ → List Token → Option (List Clause × List Token)
further_at zero ts = None
further_at (suc n) (sign comma ∷ ts) = clause_at ts >>= λ k. further_at n k.1 >>= λ ks. Some (k.0 ∷ ks.0, ks.1)
further_at (suc n) ts = Some ([], ts)

-- ---- lines
abbrev pub after_for : List Token → Option (List Token)
after_for (keyword for_word ∷ ts) = Some ts
after_for _ = None

abbrev pub if_end : Line → List Token → Option Line
if_end l [] = Some l
if_end l (t ∷ ts) = None

abbrev pub struct_at : Bool → List ℕ → List Token → Option Line
struct_at f n ts = params_at ts >>= λ p. fields_at p.1 >>= λ fs. Some (struct_line f n p.0 fs)

abbrev pub trait_at : Bool → Bool → List ℕ → List Token → Option Line
trait_at f a n ts = params_at ts >>= λ p. bounds_at p.1 >>= λ bs. Some (trait_line f a n p.0 bs)

abbrev pub item_at : Bool → List Token → Option Line
item_at f (keyword struct_word ∷ name n ∷ ts) = struct_at f n ts
item_at f (keyword trait_word ∷ name n ∷ ts) = trait_at f false n ts
item_at f (keyword auto_word ∷ keyword trait_word ∷ name n ∷ ts) = trait_at f true n ts
item_at f _ = None

abbrev pub impl_at : List Token → Option Line
impl_at ts =
    params_at ts >>= λ p. bound_at p.1 >>= λ b. after_for b.1 >>= λ self. type_at self >>= λ t. where_at t.1
    >>= λ ks. Some (impl_line p.0 (record { subject = t.0; bound = b.0 }) ks)

abbrev pub prove_at : List ℕ → List Token → Option Line
prove_at c ts =
    params_at ts >>= λ p. clause_at p.1 >>= λ k. further_at (suc (length k.1)) k.1 >>= λ bs. where_at bs.1 >>= λ ks. Some (prove_line c p.0 k.0 bs.0 ks)

abbrev pub refute_at : List ℕ → List Token → Option Line
refute_at c ts = params_at ts >>= λ p. clause_at p.1 >>= λ k. further_at (suc (length k.1)) k.1 >>= λ bs. if_end (refute_line c p.0 k.0 bs.0) bs.1

abbrev pub line_at : List Token → Option Line
line_at (keyword crate_word ∷ name n ∷ ts) = option_map (crate_line n) (uses_at ts)
line_at (keyword fundamental_word ∷ ts) = item_at true ts
line_at (keyword struct_word ∷ ts) = item_at false (keyword struct_word ∷ ts)
line_at (keyword trait_word ∷ ts) = item_at false (keyword trait_word ∷ ts)
line_at (keyword auto_word ∷ ts) = item_at false (keyword auto_word ∷ ts)
line_at (keyword impl_word ∷ ts) = impl_at ts
line_at (keyword prove_word ∷ keyword in_word ∷ name c ∷ ts) = prove_at c ts
line_at (keyword refute_word ∷ keyword in_word ∷ name c ∷ ts) = refute_at c ts
line_at (keyword later_word ∷ name n ∷ ts) = if_end (later_line n) ts
line_at (keyword supers_word ∷ keyword in_word ∷ name n ∷ ts) = if_end (supers_line n) ts
line_at _ = None

-- What a line without a fault adds to the declarations. Its names are looked up in the declarations before it, and in
-- the struct or trait that it declares itself. Since the line has no fault, each name is of the kind that its position
-- needs, and has as many arguments as parameters. For a line with a fault the definitions mean nothing.
use Rattle.std.specs.Prelude.{ℕ, suc, ◌-◌, Bool, true, false, ◌&&◌, if◌then◌else◌, nat_lt, List, [], ◌∷◌, ◌++◌, map, filter, length, position, Option, option_map, unwrap_or}
use Rattle.std.specs.List.{position_or_len, flat_map, fold, list_any}
use Rattle.std.specs.Option.{option_map_or}
use Rattle.std.specs.Str.{bytes_eq}
use Rattle.type_terms.specs.Promised.Label.{Label, Sort, of_type, of_const, of_lifetime, never, array, slice, tuple, dynamic, static, adt, fn_ptr, auto_trait, value, ref, raw_pointer, principal, param, placeholder, infer, bound}
use Rattle.type_terms.specs.Promised.Trees.{Trees, none, tree, leaf, ◌+++◌, is_sort}
use Rattle.type_terms.specs.Promised.Worlds.{Reference, StructDecl, TraitDecl, ImplDecl}
use Rattle.type_terms.specs.Promised.Rules.{together}
use Rattle.text_language.specs.Promised.Syntax.{TypeTree, of_primitive, variable_type, named, reference_to, pointer_to, slice_of, array_of, tuple_of, fn_of, fn_to, dyn_of, Types, no_types, and_type, Args, and_arg, lifetime_arg, number_arg, type_arg, bound_item, lifetime_item, DynBounds, no_items, and_item, number_length, name_length, variable_length, Params, Bound, Clause, Line, crate_line, struct_line, trait_line, impl_line, prove_line, refute_line, later_line, supers_line}
use Rattle.text_language.specs.Promised.Declarations.{Declarations, NamedImpl, Variable, of_later, of_supers, a_crate, a_struct, a_trait, known, last_crate, last_later, impl_owner}
use Rattle.text_language.specs.Promised.Faults.{is_auto_name}
use Rattle.text_language.specs.Promised.LineFaults.{variables_among}
use Rattle.text_language.specs.Promised.Mentions.{clause_mentions}

-- ---- names
-- The number of the crate, struct or trait with this name, and the kinds of its parameters.
abbrev pub means : Declarations → List ℕ → ℕ × List Sort
means d n = option_map_or (λ k. elim k [ a_crate i ↦ (i, []) | a_struct i h kinds ↦ (i, kinds) | a_trait i h a kinds ↦ (i, kinds) ]) (known d n) (0, [])

-- The parameters with their kinds, by number: lifetimes, then types, then constants.
abbrev pub named_params : Params → List (List ℕ × Sort)
named_params ps = map (λ n. (n, of_lifetime)) ps.lifetimes ++ map (λ n. (n, of_type)) ps.types ++ map (λ n. (n, of_const)) ps.consts

-- The label of the parameter with this name and kind, if there is one.
abbrev pub own_param : Params → (Sort → ℕ → Label) → Sort → List ℕ → Option Label
own_param ps label p n = option_map (label p) (position (λ v. bytes_eq v.0 n && is_sort v.1 p) (named_params ps))

-- The label of the variable with this name and kind. Variables of each kind are numbered from 0.
abbrev pub variable_meaning : List Variable → Sort → List ℕ → Label
variable_meaning vs p n = infer p (position_or_len (λ v. bytes_eq v.text n) (filter (λ v. is_sort v.kind p) vs))

-- The label of a lifetime below these binders, the first of which has the number k. A lifetime that is neither bound
-- nor a parameter is `'static`.
abbrev pub life_label : (Sort → List ℕ → Option Label) → ℕ → List (List (List ℕ)) → List ℕ → Label
life_label own k [] n = unwrap_or (own of_lifetime n) static
life_label own k (b ∷ s) n = option_map_or (bound of_lifetime k) (position (λ m. bytes_eq m n) b) (life_label own (suc k) s n)

-- ---- types, as terms
-- In what follows:
-- - d has the declarations in which names are looked up.
-- - `own` gives the labels of the line's own parameters.
-- - vs are the variables, in the order in which they first occur.
-- - s are the binders around, the innermost first.
-- The bounds of a `dyn` after its principal: its auto traits by their numbers, each once, and the lifetime, which is
-- `'static` unless one is written. ns are the auto traits so far.
abbrev pub dyn_end : Declarations → (Sort → List ℕ → Option Label) → List (List (List ℕ)) → List ℕ → DynBounds → Trees
dyn_end d own s ns no_items = together (map (λ i. leaf (auto_trait i)) ns) +++ leaf static
dyn_end d own s ns (and_item (lifetime_item n) is) = together (map (λ i. leaf (auto_trait i)) ns) +++ leaf (life_label own 0 s n)
dyn_end d own s ns (and_item (bound_item b n a) is) = let i = (means d n).0 in dyn_end d own s (filter (λ m. nat_lt m i) ns ++ i ∷ filter (nat_lt i) ns) is

abbrev mutual
  -- The term of a type at a position of kind p. An omitted lifetime is `'static`. The last line gives `!`, because no
  -- `dyn` begins with a lifetime.
  pub as_tree : Declarations → (Sort → List ℕ → Option Label) → List Variable → List (List (List ℕ)) → Sort → TypeTree → Trees
  as_tree d own vs s p (of_primitive x) = leaf x
  as_tree d own vs s p (variable_type n) = leaf (variable_meaning vs p n)
  as_tree d own vs s p (named n args) = option_map_or leaf (own p n) (tree (adt (means d n).0) (as_args d own vs s (means d n).1 args) none)
  as_tree d own vs s p (reference_to x m t) = tree (ref m) (tree (option_map_or (life_label own 0 s) x static) none (as_tree d own vs s of_type t)) none
  as_tree d own vs s p (pointer_to m t) = tree (raw_pointer m) (as_tree d own vs s of_type t) none
  as_tree d own vs s p (slice_of t) = tree slice (as_tree d own vs s of_type t) none
  as_tree d own vs s p (array_of t (number_length i)) = tree array (as_tree d own vs s of_type t +++ leaf (value i)) none
  as_tree d own vs s p (array_of t (name_length n)) = tree array (as_tree d own vs s of_type t +++ leaf (unwrap_or (own of_const n) never)) none
  as_tree d own vs s p (array_of t (variable_length n)) = tree array (as_tree d own vs s of_type t +++ leaf (variable_meaning vs of_const n)) none
  as_tree d own vs s p (tuple_of ts) = tree tuple (together (as_trees d own vs s ts)) none
  as_tree d own vs s p (fn_of b ts) = tree (fn_ptr (length b)) (together (as_trees d own vs (b ∷ s) ts) +++ leaf tuple) none
  as_tree d own vs s p (fn_to b ts t) = tree (fn_ptr (length b)) (together (as_trees d own vs (b ∷ s) ts) +++ as_tree d own vs (b ∷ s) of_type t) none
  as_tree d own vs s p (dyn_of (bound_item b n args) is) =
      tree dynamic (if is_auto_name d n then dyn_end d own s [] (and_item (bound_item b n args) is)
      else tree (principal (length b) (means d n).0) (as_args d own vs (b ∷ s) (means d n).1 args) (dyn_end d own s [] is)) none
  as_tree d own vs s p _ = leaf never

  -- The terms of the types, in order.
  pub as_trees : Declarations → (Sort → List ℕ → Option Label) → List Variable → List (List (List ℕ)) → Types → List Trees
  as_trees d own vs s no_types = []
  as_trees d own vs s (and_type t ts) = as_tree d own vs s of_type t ∷ as_trees d own vs s ts

  -- The terms of the arguments, for parameters of these kinds.
  pub as_args : Declarations → (Sort → List ℕ → Option Label) → List Variable → List (List (List ℕ)) → List Sort → Args → Trees
  as_args d own vs s (k ∷ ks) (and_arg (type_arg t) args) = as_tree d own vs s k t +++ as_args d own vs s ks args
  as_args d own vs s (k ∷ ks) (and_arg (lifetime_arg n) args) = tree (life_label own 0 s n) none (as_args d own vs s ks args)
  as_args d own vs s (k ∷ ks) (and_arg (number_arg n) args) = tree (value n) none (as_args d own vs s ks args)
  as_args d own vs s _ _ = none

-- ---- trait references
-- The trait reference of a bound for this self type.
abbrev pub bound_meaning : Declarations → (Sort → List ℕ → Option Label) → List Variable → Trees → Bound → Reference
bound_meaning d own vs self b = record { trait = (means d b.trait).0; args = self +++ as_args d own vs [] (means d b.trait).1 b.args }

-- The trait reference of a where-clause.
abbrev pub clause_meaning : Declarations → (Sort → List ℕ → Option Label) → List Variable → Clause → Reference
clause_meaning d own vs k = bound_meaning d own vs (as_tree d own vs [] of_type k.subject) k.bound

-- ---- lines
-- The declarations with a struct that has these fields.
abbrev pub struct_added : Declarations → Bool → List ℕ → Params → List Trees → Declarations
struct_added d f n ps ts =
    let item : StructDecl = record { name = length d.structs; home = last_crate d; is_fundamental = f; fields = ts } in
    record d { structs = d.structs ++ record { text = n; kinds = map (λ v. v.1) (named_params ps); item = item } ∷ [] }

-- The declarations with a trait that has these bounds.
abbrev pub trait_added : Declarations → Bool → Bool → List ℕ → Params → List Reference → Declarations
trait_added d f a n ps rs =
    let item : TraitDecl = record { name = length d.traits; home = last_crate d; is_fundamental = f; is_auto = a; bounds = rs } in
    record d { traits = d.traits ++ record { text = n; kinds = map (λ v. v.1) (named_params ps); item = item } ∷ [] }

-- The declarations with a query for the bound a and the further bounds bs. Its parameters are placeholders. Its
-- variables are those of all these bounds, each once, in the order in which they first occur.
abbrev pub question_added : Declarations → Bool → List ℕ → Params → Clause → List Clause → List Clause → Declarations
question_added d r c ps a bs ks =
    let named : List (List ℕ × Sort) = variables_among (flat_map (clause_mentions d) (a ∷ bs)) in
    let vs : List Variable = fold (λ r v. if list_any (λ w. bytes_eq v.0 w.text) r then r else r ++ record { text = v.0; kind = v.1 } ∷ []) [] named in
    let term = clause_meaning d (own_param ps placeholder) vs in
    record d {
      questions = d.questions ++ record {
        is_refute = r;
        asker = (means d c).0;
        params = map (λ v. v.0) (named_params ps);
        asked = term a;
        further = map term bs;
        clauses = map term ks;
        variables = vs;
      } ∷ [];
    }

-- The declarations with a line:
-- - Parameter 0 of a trait is Self.
-- - A section ends at a `crate` line and at a `later` line.
-- - The impls of each section are numbered from 0.
abbrev pub with_line : Declarations → Line → Declarations
with_line d (crate_line n us) =
    record d { crates = d.crates ++ record { text = n; item = record { name = length d.crates; uses = map (λ u. (means d u).0) us } } ∷ []; in_section = false }
with_line d (struct_line f n ps fs) = struct_added d f n ps (as_trees (struct_added d f n ps []) (own_param ps param) [] [] fs)
with_line d (trait_line f a n ps bs) =
    trait_added d f a n ps (map (bound_meaning (trait_added d f a n ps []) (own_param ps (λ p i. param p (suc i))) [] (leaf (param of_type 0))) bs)
with_line d (impl_line ps h ks) =
    let term = clause_meaning d (own_param ps param) [] in
    let item : ℕ → ImplDecl = λ i. record { name = i; home = impl_owner d; params = length (named_params ps); header = term h; clauses = map term ks } in
    let of_number : ℕ → NamedImpl = λ i. record { params = named_params ps; item = item i } in
    if d.in_section then record d { later_impls = d.later_impls ++ record { section = length d.sections - 1; added = of_number (last_later d) } ∷ [] }
    else record d { impls = d.impls ++ of_number (length d.impls) ∷ [] }
with_line d (prove_line c ps a bs ks) = question_added d false c ps a bs ks
with_line d (refute_line c ps a bs) = question_added d true c ps a bs []
with_line d (later_line n) =
    let c = (means d n).0 in record d { sections = d.sections ++ c ∷ []; checks = d.checks ++ of_later (length d.sections) c ∷ []; in_section = true }
with_line d (supers_line n) = record d { checks = d.checks ++ of_supers (means d n).0 ∷ [] }

-- Supertraits, and all rule instances that conclude a trait reference. The terms have no lifetimes.
use Rattle.std.specs.Prelude.{ℕ, zero, suc, Bool, true, false, ◌||◌, ◌&&◌, ◌==◌, if◌then◌else◌, not, List, [], ◌∷◌, ◌++◌, map, length}
use Rattle.std.specs.List.{flat_map, list_all, list_any}
use Rattle.type_terms.specs.Promised.Label.{Label, of_type, of_const, bool, char, str, never, array, slice, tuple, dynamic, int, uint, adt, fn_ptr, ref, raw_pointer, principal, auto_trait, param}
use Rattle.type_terms.specs.Promised.Trees.{Trees, none, tree, ◌+++◌, leaf, some_node, instantiate}
use Rattle.type_terms.specs.Trees.{arguments, fits}
use Rattle.type_terms.specs.Codes.{same, same_label}
use Rattle.type_terms.specs.Promised.Worlds.{World, Reference, StructDecl, ImplDecl, structs_named, traits_named, with_args, all_with_args}

-- The supertraits that the declaration of r's trait lists, for r. For example, with `trait Sub: Sup`, those of
-- `u8: Sub` are `u8: Sup`.
abbrev pub written_supertraits : World → Reference → List Reference
written_supertraits W r = flat_map (λ t. all_with_args r.args t.bounds) (traits_named W r.trait)

-- The supertraits of r through at most n levels, without r.
abbrev pub strict_supertraits_within : ℕ → World → Reference → List Reference
strict_supertraits_within zero W r = []
strict_supertraits_within (suc n) W r = flat_map (λ s. s ∷ strict_supertraits_within n W s) (written_supertraits W r)

-- The supertraits of r through all levels, without r (rustc: `supertraits`). A supertrait that is reached by several
-- paths of declared bounds is listed once for each. The number of traits bounds the number of levels.
abbrev pub strict_supertraits : World → Reference → List Reference
strict_supertraits W r = strict_supertraits_within (length W.traits) W r

-- The trait `Sized` of `core`. The rules name the traits of `core` by these numbers.
abbrev pub sized : ℕ
sized = 0

-- The trait `Clone`.
abbrev pub clone : ℕ
clone = 1

-- The trait `Copy`.
abbrev pub copy : ℕ
copy = 2

-- The trait `Tuple`.
abbrev pub tuple_trait : ℕ
tuple_trait = 3

-- The trait `FnPtr`.
abbrev pub fn_ptr_trait : ℕ
fn_ptr_trait = 4

-- The trait `FnOnce`.
abbrev pub fn_once : ℕ
fn_once = 5

-- The trait `FnMut`.
abbrev pub fn_mut : ℕ
fn_mut = 6

-- The trait `Fn`.
abbrev pub fn_shared : ℕ
fn_shared = 7

-- The trait is `FnOnce`, `FnMut` or `Fn`.
abbrev pub is_fn_trait : ℕ → Bool
is_fn_trait t = (t == fn_once) || ((t == fn_mut) || (t == fn_shared))

-- The trait `Unsize`.
abbrev pub unsize : ℕ
unsize = 8

-- Some trait with this name is declared.
abbrev pub is_declared : World → ℕ → Bool
is_declared W t = list_any (λ x. true) (traits_named W t)

-- The trait is declared `auto` (the Rust reference, auto traits).
abbrev pub is_auto : World → ℕ → Bool
is_auto W t = list_any (λ x. x.is_auto) (traits_named W t)

-- The trait is coinductive: a proof of it may use itself. Auto traits and `Sized` are (rustc: `trait_is_coinductive`).
abbrev pub is_coinductive : World → ℕ → Bool
is_coinductive W t = is_auto W t || (t == sized)

-- The built-in rules (rustc: `BuiltinImplSource`). Among them:
-- - `object_principal i` concludes entry i of a `dyn`'s principal and its supertraits (rustc: `Object(i)`).
-- - `unsize_upcast i` upcasts a `dyn` to entry i of the same list (rustc: `TraitUpcasting(i)`).
-- - `unsize_dyn` turns a `dyn` into one with the same principal, or without one (rustc: `Misc`).
pub data BuiltIn : Type 0 where
  sized_leaf sized_tuple sized_struct : BuiltIn
  copy_fn_ptr copy_tuple : BuiltIn
  auto_leaf auto_str auto_element auto_tuple auto_struct : BuiltIn
  tuple_of_tuple fn_ptr_of_fn_ptr fn_ptr_call : BuiltIn
  object_auto : BuiltIn
  unsize_array unsize_to_dyn unsize_dyn unsize_struct : BuiltIn
  object_principal unsize_upcast : ℕ → BuiltIn

-- The source of a rule instance (rustc: `CandidateSource`):
-- - by_impl n: impl n
-- - by_clause k: where-clause k
-- - by_super k i: entry i of the supertraits of where-clause k
-- - built_in b: a built-in rule
pub data Way : Type 0 where
  by_impl : ℕ → Way
  by_clause : ℕ → Way
  by_super : ℕ → ℕ → Way
  built_in : BuiltIn → Way

-- A rule instance: it concludes a trait reference from its premises.
pub record Rule : Type 0 where
  pub way : Way
  pub premises : List Reference

-- The two trait references are equal.
abbrev pub same_reference : Reference → Reference → Bool
same_reference r s = (r.trait == s.trait) && same r.args s.args

-- The rule instance of impl i for r, if r is an instance of its header. The premises are the impl's where-clauses. The
-- impl's arguments are read from r, where the header has the parameters. There is no rule instance if:
-- - an argument is not of its parameter's kind, or
-- - the header with these arguments is not r.
-- For example, `impl<T> Show for V<T> where T: Show` concludes `V<u8>: Show` from `u8: Show`.
abbrev pub impl_rules : Reference → ImplDecl → List Rule
impl_rules r i =
    let A = arguments i.params i.header.args r.args in
    if fits A i.header.args && same_reference (with_args A i.header) r then record { way = by_impl i.name; premises = all_with_args A i.clauses } ∷ [] else []

-- The trait reference of this self type, for a trait without arguments.
abbrev pub asked : ℕ → Trees → Reference
asked t self = record { trait = t; args = self }

-- One trait reference for each of the types, for the same trait.
abbrev pub each_asked : ℕ → Trees → List Reference
each_asked t none = []
each_asked t (tree l c o) = asked t (tree l c none) ∷ each_asked t o

-- The trait reference of the last type. It is none if the list is empty.
abbrev pub last_asked : ℕ → Trees → List Reference
last_asked t none = []
last_asked t (tree l c none) = asked t (tree l c none) ∷ []
last_asked t (tree l c (tree m d o)) = last_asked t (tree m d o)

-- The list of one rule instance, by this built-in rule.
abbrev pub row : BuiltIn → List Reference → List Rule
row b ps = record { way = built_in b; premises = ps } ∷ []

-- The lists of terms, one after the other.
abbrev pub together : List Trees → Trees
together [] = none
together (t ∷ ts) = t +++ together ts

-- The fields of the struct, with these arguments for its parameters.
abbrev pub fields_of : StructDecl → Trees → Trees
fields_of x args = together (map (instantiate zero args) x.fields)

-- `Sized` of a type (the Rust reference, dynamically sized types):
-- - scalars, pointers, references, fn pointers and arrays: without premises
-- - a tuple: if its last item is `Sized`
-- - a struct: if its last field is `Sized`
-- - `str`, slices, `dyn` and parameters: no rule
-- For example, `(u8, [bool]): Sized` has the premise `[bool]: Sized`.
abbrev pub sized_rules : World → Trees → List Rule
sized_rules W (tree bool c o) = row sized_leaf []
sized_rules W (tree char c o) = row sized_leaf []
sized_rules W (tree never c o) = row sized_leaf []
sized_rules W (tree (int _) c o) = row sized_leaf []
sized_rules W (tree (uint _) c o) = row sized_leaf []
sized_rules W (tree (fn_ptr _) c o) = row sized_leaf []
sized_rules W (tree (raw_pointer _) c o) = row sized_leaf []
sized_rules W (tree (ref _) c o) = row sized_leaf []
sized_rules W (tree array c o) = row sized_leaf []
sized_rules W (tree tuple items o) = row sized_tuple (last_asked sized items)
sized_rules W (tree (adt s) args o) = flat_map (λ x. row sized_struct (last_asked sized (fields_of x args))) (structs_named W s)
sized_rules W _ = []

-- `Copy` or `Clone` of a type, in addition to the impls of `core`:
-- - a fn pointer: without premises
-- - a tuple: if all of its items have the trait
abbrev pub copy_rules : ℕ → Trees → List Rule
copy_rules t (tree (fn_ptr _) c o) = row copy_fn_ptr []
copy_rules t (tree tuple items o) = row copy_tuple (each_asked t items)
copy_rules t _ = []

-- The self type is a parameter, or its label is l.
abbrev pub same_head : Label → Trees → Bool
same_head l none = false
same_head l (tree (param _ _) c o) = true
same_head l (tree m c o) = same_label l m

-- Some impl of the trait has a parameter as its self type, or a type with this label. Such an impl disables the
-- built-in rule of an auto trait.
abbrev pub is_written : World → ℕ → Label → Bool
is_written W t l = list_any (λ i. (i.header.trait == t) && same_head l i.header.args) W.impls

-- The built-in rule of an auto trait:
-- - scalars and fn pointers: without premises
-- - `str`: if `[u8]` has the trait
-- - a pointer, reference, array or slice: if its element has the trait
-- - a tuple: if all of its items have the trait
-- - a struct: if all of its fields have the trait
-- For example, `&(u8, V<T>): Send` has the premise `(u8, V<T>): Send`.
abbrev pub auto_rules_plain : World → ℕ → Trees → List Rule
auto_rules_plain W t (tree bool c o) = row auto_leaf []
auto_rules_plain W t (tree char c o) = row auto_leaf []
auto_rules_plain W t (tree never c o) = row auto_leaf []
auto_rules_plain W t (tree (int _) c o) = row auto_leaf []
auto_rules_plain W t (tree (uint _) c o) = row auto_leaf []
auto_rules_plain W t (tree (fn_ptr _) c o) = row auto_leaf []
auto_rules_plain W t (tree str c o) = row auto_str (asked t (tree slice (leaf (uint 0)) none) ∷ [])
auto_rules_plain W t (tree (raw_pointer _) (tree l c o) p) = row auto_element (asked t (tree l c none) ∷ [])
auto_rules_plain W t (tree array (tree l c o) p) = row auto_element (asked t (tree l c none) ∷ [])
auto_rules_plain W t (tree slice (tree l c o) p) = row auto_element (asked t (tree l c none) ∷ [])
auto_rules_plain W t (tree (ref _) (tree r rc (tree l c o)) p) = row auto_element (asked t (tree l c none) ∷ [])
auto_rules_plain W t (tree tuple items o) = row auto_tuple (each_asked t items)
auto_rules_plain W t (tree (adt s) args o) = flat_map (λ x. row auto_struct (each_asked t (fields_of x args))) (structs_named W s)
auto_rules_plain W t _ = []

-- The built-in rule of an auto trait, unless an impl of the trait disables it (RFC 19). For example, with
-- `impl Safe for L where L: Nope`, `L: Safe` has the rule of this impl alone.
abbrev pub auto_rules : World → ℕ → Trees → List Rule
auto_rules W t none = []
auto_rules W t (tree l c o) = if is_written W t l then [] else auto_rules_plain W t (tree l c o)

-- `Tuple`: of a tuple, without premises.
abbrev pub tuple_rules : Trees → List Rule
tuple_rules (tree tuple items o) = row tuple_of_tuple []
tuple_rules _ = []

-- `FnPtr`: of a fn pointer, without premises.
abbrev pub fn_ptr_rules : Trees → List Rule
fn_ptr_rules (tree (fn_ptr _) types o) = row fn_ptr_of_fn_ptr []
fn_ptr_rules _ = []

-- All terms but the last.
abbrev pub but_last : Trees → Trees
but_last none = none
but_last (tree l c none) = none
but_last (tree l c (tree m d o)) = tree l c (but_last (tree m d o))

-- `FnOnce`, `FnMut` and `Fn` of a fn pointer, if the trait's argument is the tuple of its inputs. The output must be
-- `Sized`. For example, `fn(u8, bool) -> R: FnOnce<(u8, bool)>` has the premise `R: Sized`.
abbrev pub call_rules : Trees → List Rule
call_rules (tree (fn_ptr _) types (tree tuple inputs o)) = if same (but_last types) inputs then row fn_ptr_call (last_asked sized types) else []
call_rules _ = []

-- The built-in rules that depend on the trait reference alone, and on no declaration.
abbrev pub plain_rules : Reference → List Rule
plain_rules r =
    (if (r.trait == copy) || (r.trait == clone) then copy_rules r.trait r.args else [])
    ++ ((if r.trait == tuple_trait then tuple_rules r.args else [])
    ++ ((if r.trait == fn_ptr_trait then fn_ptr_rules r.args else [])
    ++ (if is_fn_trait r.trait then call_rules r.args else [])))

-- The principal of a `dyn` with these bounds, for this self type. It is none if the `dyn` has no principal. For
-- example, `dyn Conv<u8> + Send` gives `T: Conv<u8>` for the self type T.
abbrev pub principal_with : Trees → Trees → List Reference
principal_with self (tree (principal _ t) args o) = record { trait = t; args = self +++ args } ∷ []
principal_with self _ = []

-- The auto traits of a `dyn` with these bounds, for this self type. For example, `dyn Conv<u8> + Send` gives `T: Send`
-- for the self type T.
abbrev pub autos_with : Trees → Trees → List Reference
autos_with self none = []
autos_with self (tree (auto_trait t) c o) = asked t self ∷ autos_with self o
autos_with self (tree l c o) = autos_with self o

-- The traits of all trait references are declared.
abbrev pub are_declared : World → List Reference → Bool
are_declared W rs = list_all (λ r. is_declared W r.trait) rs

-- The trait references, each with all of its supertraits (rustc: `elaborate`).
abbrev pub elaborated : World → List Reference → List Reference
elaborated W rs = flat_map (λ r. r ∷ strict_supertraits W r) rs

-- The principal of a `dyn`, if there is one, is dyn compatible: neither it nor any of its supertraits is `Sized` (RFC
-- 255; the Rust reference, dyn compatibility). For example, `dyn Clone` is not, because of `trait Clone: Sized`.
abbrev pub are_dyn_compatible : World → List Reference → Bool
are_dyn_compatible W rs = are_declared W rs && not (list_any (λ s. s.trait == sized) (elaborated W rs))

-- One rule instance for each entry of the list that is r. Its built-in rule has the index of that entry, from k. An
-- entry that occurs twice gives two rule instances, because the two may differ in lifetimes.
abbrev pub equal_rows : (ℕ → BuiltIn) → List Reference → Reference → ℕ → List Reference → List Rule
equal_rows b ps r k [] = []
equal_rows b ps r k (s ∷ ss) = (if same_reference r s then row (b k) ps else []) ++ equal_rows b ps r (suc k) ss

-- What a `dyn` has by its bounds, where ps is its principal, if any, and qs are its auto traits. r is concluded if:
-- - r is one of the auto traits, or
-- - r is the principal or one of its supertraits, once for each path of declared bounds to it.
-- The premises are the supertraits of r. There is no rule for `Sized`, for a trait that is not declared, or if the
-- principal is not dyn compatible.
abbrev pub object_bound_rules : World → Reference → List Reference → List Reference → List Rule
object_bound_rules W r ps qs =
    if is_declared W r.trait && are_dyn_compatible W ps
    then (if not (r.trait == sized) && list_any (same_reference r) qs then row object_auto (strict_supertraits W r) else [])
    ++ (if not (r.trait == sized) then equal_rows object_principal (strict_supertraits W r) r 0 (elaborated W ps) else [])
    else []

-- What a `dyn` has by its bounds (rustc: `probe_and_consider_object_bound_candidate`). For example, with
-- `trait Sub: Sup`, `dyn Sub + Send` has `Sub`, by the premise `dyn Sub + Send: Sup`, and `Sup` and `Send`.
abbrev pub object_rules : World → Reference → Trees → List Rule
object_rules W r (tree dynamic bounds o) =
    let self = tree dynamic bounds none in
    object_bound_rules W r (principal_with self bounds) (autos_with self bounds)
object_rules W r _ = []

-- `[T; N]: Unsize<[T]>`, without premises.
abbrev pub unsize_array_rules : Trees → List Rule
unsize_array_rules (tree array (tree l c n) (tree slice (tree m d p) o)) = if same (tree l c none) (tree m d none) then row unsize_array [] else []
unsize_array_rules _ = []

-- The label is that of a `dyn`.
abbrev pub is_dyn : Label → Bool
is_dyn dynamic = true
is_dyn _ = false

-- `T: Unsize<dyn B>`, if T is no `dyn`. The premises are each bound of B for T, and `T: Sized`. For example,
-- `u8: Unsize<dyn Show + Send>` has the premises `u8: Show`, `u8: Send` and `u8: Sized`.
abbrev pub unsize_to_dyn_rules : World → Trees → List Rule
unsize_to_dyn_rules W (tree l c (tree dynamic bounds o)) =
    let self = tree l c none in
    if not (is_dyn l) && are_dyn_compatible W (principal_with self bounds)
    then row unsize_to_dyn (principal_with self bounds ++ (autos_with self bounds ++ asked sized self ∷ []))
    else []
unsize_to_dyn_rules W _ = []

-- The rules that turn the principal of one `dyn`, if any, into that of another. Each of the two lists has at most one
-- entry:
-- - The target has no principal: one rule.
-- - Only the target has one: no rule.
-- - Both are of the same trait: one rule if they are equal, otherwise none.
-- - The target's is a supertrait of the other: one rule for each path of declared bounds to it.
abbrev pub upcasts_principal : World → List Reference → List Reference → List Rule
upcasts_principal W ps [] = row unsize_dyn []
upcasts_principal W [] (q ∷ qs) = []
upcasts_principal W (p ∷ ps) (q ∷ qs) =
    if p.trait == q.trait then (if same_reference p q then row unsize_dyn [] else []) else equal_rows unsize_upcast [] q 1 (strict_supertraits W p)

-- Each auto trait in bs is one of the auto traits qs of the source `dyn`, or of the traits of its principal ps and of
-- that principal's supertraits.
abbrev pub upcasts_autos : World → List Reference → List Reference → List Reference → Bool
upcasts_autos W ps qs bs = list_all (λ b. list_any (λ q. q.trait == b.trait) (qs ++ elaborated W ps)) bs

-- `dyn A: Unsize<dyn B>` (RFC 3324, trait upcasting). The principal of A stays, is dropped, or is upcast to a
-- supertrait. The auto traits of B must follow from A. For example, with `trait Sub: Sup + Send`, there is a rule for
-- `dyn Sub: Unsize<dyn Sup + Send>`.
abbrev pub unsize_upcast_rules : World → Trees → List Rule
unsize_upcast_rules W (tree dynamic a (tree dynamic b o)) =
    let self = tree dynamic a none in
    let p = principal_with self a in
    if are_declared W p && upcasts_autos W p (autos_with self a) (autos_with self b) then upcasts_principal W p (principal_with self b) else []
unsize_upcast_rules W _ = []

-- The label is that of type or const parameter i.
abbrev pub is_parameter : ℕ → Label → Bool
is_parameter i (param of_type j) = i == j
is_parameter i (param of_const j) = i == j
is_parameter i _ = false

-- Parameter i is unsizing in a struct with these fields: the last field mentions it, and no other does. For example,
-- the T of `struct S<T>(u8, V<T>)` is.
abbrev pub is_unsizing : List Trees → ℕ → Bool
is_unsizing [] i = false
is_unsizing (f ∷ []) i = some_node (is_parameter i) f
is_unsizing (f ∷ g ∷ fs) i = not (some_node (is_parameter i) f) && is_unsizing (g ∷ fs) i

-- Some parameter from k on is unsizing. There is one parameter for each argument of the list.
abbrev pub some_unsizing : List Trees → ℕ → Trees → Bool
some_unsizing fs k none = false
some_unsizing fs k (tree l c o) = is_unsizing fs k || some_unsizing fs (suc k) o

-- The arguments of parameters from k on: those of b for unsizing parameters, those of a for the others.
abbrev pub with_unsizing : List Trees → ℕ → Trees → Trees → Trees
with_unsizing fs k none b = none
with_unsizing fs k (tree l c o) none = tree l c o
with_unsizing fs k (tree l c o) (tree m d p) =
    if is_unsizing fs k then tree m d (with_unsizing fs (suc k) o p) else tree l c (with_unsizing fs (suc k) o p)

-- The trait reference `F<a>: Unsize<F<b>>`, where F is the last field. It is none if there are no fields.
abbrev pub last_unsizes : List Trees → Trees → Trees → List Reference
last_unsizes [] a b = []
last_unsizes (f ∷ []) a b = record { trait = unsize; args = instantiate zero a f +++ instantiate zero b f } ∷ []
last_unsizes (f ∷ g ∷ fs) a b = last_unsizes (g ∷ fs) a b

-- `S<a>: Unsize<S<b>>` (RFC 982), if:
-- - some parameter of S is unsizing, and
-- - a and b differ at unsizing parameters alone.
-- The premise is the same for the last field. For example, with `struct S<T>(u8, V<T>)`, `S<[u8; 3]>: Unsize<S<[u8]>>`
-- has the premise `V<[u8; 3]>: Unsize<V<[u8]>>`.
abbrev pub unsize_struct_rules : World → Trees → List Rule
unsize_struct_rules W (tree (adt s) a (tree (adt u) b o)) =
    if s == u
    then flat_map (λ x. if some_unsizing x.fields 0 a && same (with_unsizing x.fields 0 a b) b then row unsize_struct (last_unsizes x.fields a b) else []) (structs_named W s)
    else []
unsize_struct_rules W _ = []

-- `Unsize`, where the terms are the self type and the target.
abbrev pub unsize_rules : World → Trees → List Rule
unsize_rules W a = unsize_array_rules a ++ (unsize_to_dyn_rules W a ++ (unsize_upcast_rules W a ++ unsize_struct_rules W a))

-- The rule instances that conclude r by built-in rules.
abbrev pub built_in_rules : World → Reference → List Rule
built_in_rules W r =
    plain_rules r
    ++ ((if r.trait == sized then sized_rules W r.args else [])
    ++ ((if is_auto W r.trait then auto_rules W r.trait r.args else [])
    ++ ((if r.trait == unsize then unsize_rules W r.args else [])
    ++ object_rules W r r.args)))

-- One rule instance for each entry of the list that is r. The list has the supertraits of where-clause k, from index n.
abbrev pub super_rules : Reference → ℕ → ℕ → List Reference → List Rule
super_rules r k n [] = []
super_rules r k n (s ∷ ss) = (if same_reference s r then record { way = by_super k n; premises = [] } ∷ [] else []) ++ super_rules r k (suc n) ss

-- The rule instances by the where-clauses, the first of which has index k: one for each clause that is r, and one for
-- each supertrait of a clause that is r.
abbrev pub clause_rules : World → Reference → ℕ → List Reference → List Rule
clause_rules W r k [] = []
clause_rules W r k (s ∷ ss) =
    (if same_reference s r then record { way = by_clause k; premises = [] } ∷ [] else [])
    ++ (super_rules r k 0 (strict_supertraits W s) ++ clause_rules W r (suc k) ss)

-- All rule instances that conclude r, by the declarations of W and the where-clauses E. None are merged (rustc:
-- `assemble_and_evaluate_candidates`).
abbrev pub rules : World → List Reference → Reference → List Rule
rules W E r = flat_map (impl_rules r) W.impls ++ (built_in_rules W r ++ clause_rules W r 0 E)

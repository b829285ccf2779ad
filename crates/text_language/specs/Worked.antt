-- Examples of texts, and what the definitions give for them. Functions of the crate prove them.
use Rattle.std.specs.Prelude.{map, filter, not, take, ◌++◌, ◌≡◌, ℕ, zero, suc, Bool, true, false, List, [], ◌∷◌, drop, length, Option, Some, None, Result, Ok, Err, codes}
use Rattle.type_terms.specs.Promised.Label.{Label, of_type, of_const, of_lifetime, bool, uint, adt, array, slice, dynamic, principal, auto_trait, static, value, fn_ptr, tuple, ref, param, infer, bound, str}
use Rattle.type_terms.specs.Promised.Trees.{Trees, none, tree, leaf}
use Rattle.type_terms.specs.Promised.Worlds.{Reference, StructDecl, TraitDecl, ImplDecl}
use Rattle.text_language.specs.Promised.Syntax.{TypeTree, of_primitive, variable_type, named, reference_to, pointer_to, slice_of, array_of, fn_of, fn_to, dyn_of, no_types, and_type, Args, no_args, and_arg, lifetime_arg, number_arg, type_arg, bound_item, lifetime_item, no_items, and_item, number_length, name_length, never_type, Params, Bound, Clause, Line, crate_line, struct_line, trait_line, impl_line, prove_line, refute_line, later_line, supers_line, Binding, WrittenBound, WrittenClause, WrittenLine, written_crate, written_struct, written_trait, written_impl, written_prove, written_refute}
use Rattle.text_language.specs.Promised.Grammar.{BytesWrite}
use Rattle.text_language.specs.Promised.CoreText.{core_declared}
use Rattle.text_language.specs.Promised.Desugared.{written_says}
use Rattle.text_language.specs.Syntax.{no_params}
use Rattle.text_language.specs.Written.{IsWritten}
use Rattle.text_language.specs.Promised.Declarations.{Declarations, Check, of_later, of_supers, Question, Variable, world_of}
use Rattle.text_language.specs.Declarations.{nothing_declared}
use Rattle.text_language.specs.Faults.{fault_of}
use Rattle.text_language.specs.Adding.{added}
use Rattle.text_language.specs.Text.{TextGives}
use Rattle.type_terms.specs.Promised.Walks.{keeps_orphan_rule}
use Rattle.type_terms.specs.Promised.Erased.{erased_world}
use Rattle.type_terms.specs.Promised.Core.{core_world}
use Rattle.text_language.specs.Words.{primitives}
use Rattle.text_language.specs.Output.{Names, type_text, values_text}
use Rattle.text_language.specs.Names.{answer_values, with_free}

-- The bytes of a line, and the line that they are.
abbrev pub Said : Type 0
Said = List ℕ × Line

abbrev pub IsSaid : Said → Type 0
IsSaid s = IsWritten s.0 s.1

abbrev pub AllSaid : List Said → Type 0
AllSaid [] = Unit {0}
AllSaid (s ∷ ss) = IsSaid s × AllSaid ss

-- The meaning of lines, the first of which has number k: declarations, or the first faulty line with its fault.
abbrev pub after_fault : Declarations → ℕ → Option ℕ → Result Declarations (ℕ × ℕ) → Result Declarations (ℕ × ℕ)
after_fault d k None r = r
after_fault d k (Some n) r = Err (k, n)

abbrev pub outcome : List Said → Declarations → ℕ → Result Declarations (ℕ × ℕ)
outcome [] d k = Ok d
outcome (s ∷ ss) d k = after_fault d k (fault_of d s.1) (outcome ss (added d s.1) (suc k))

-- The lines are written in this way, and the text has this fault.
abbrev pub IsFaulty : List Said → ℕ → ℕ → Type 0
IsFaulty ss k n = AllSaid ss × (outcome ss nothing_declared 1 ≡ Err (k, n))

-- The lines are written in this way, and this is what they declare and ask in addition to `core`.
pub record Declared : Type 0 where
  pub structs : List StructDecl
  pub traits : List TraitDecl
  pub impls : List ImplDecl
  pub questions : List Question

abbrev pub beside_core : Declarations → Declared
beside_core d = record {
  structs = drop 2 (world_of d).structs;
  traits = drop 9 (world_of d).traits;
  impls = drop 39 (world_of d).impls;
  questions = d.questions;
}

abbrev pub declared_in : Result Declarations (ℕ × ℕ) → Option Declared
declared_in (Ok d) = Some (beside_core d)
declared_in (Err e) = None

abbrev pub Declares : List Said → Declared → Type 0
Declares ss r = AllSaid ss × (declared_in (outcome ss nothing_declared 1) ≡ Some r)

-- ---- parts of the examples
abbrev u8 : TypeTree
u8 = of_primitive (uint 0)

abbrev plain_name : List ℕ → TypeTree
plain_name n = named n no_args

abbrev one : TypeTree → Args
one t = and_arg (type_arg t) no_args

abbrev of_types : List (List ℕ) → Params
of_types ns = record { lifetimes = []; types = ns; consts = [] }

abbrev bare : List ℕ → Bound
bare n = record { trait = n; args = no_args }

abbrev is : TypeTree → Bound → Clause
is t b = record { subject = t; bound = b }

abbrev base : Said
base = (codes "crate base", crate_line (codes "base") [])

abbrev show : Said
show = (codes "trait Show", trait_line false false (codes "Show") no_params [])

abbrev num : Said
num = (codes "trait Num", trait_line false false (codes "Num") no_params [])

abbrev safe : Said
safe = (codes "auto trait Safe", trait_line false true (codes "Safe") no_params [])

abbrev v : Said
v = (codes "struct V<T>", struct_line false (codes "V") (of_types (codes "T" ∷ [])) no_types)

abbrev show_for : List ℕ → TypeTree → Said
show_for bytes t = (bytes, impl_line no_params (is t (bare (codes "Show"))) [])

-- ---- one text for each fault from 3
abbrev pub before_any_crate : List Said
before_any_crate = show ∷ []

abbrev pub taken : List Said
taken = base ∷ (codes "struct Clone", struct_line false (codes "Clone") no_params no_types) ∷ []

abbrev pub not_known : List Said
not_known = base ∷ show_for (codes "impl Show for u8") u8 ∷ []

abbrev pub not_seen : List Said
not_seen = (codes "crate a", crate_line (codes "a") []) ∷ show ∷ (codes "crate b", crate_line (codes "b") []) ∷ show_for (codes "impl Show for u8") u8 ∷ []

abbrev pub without_arguments : List Said
without_arguments = base ∷ v ∷ show ∷ show_for (codes "impl Show for V") (plain_name (codes "V")) ∷ []

abbrev pub free_parameter : List Said
free_parameter = base ∷ show ∷ (codes "impl<T> Show for u8", impl_line (of_types (codes "T" ∷ [])) (is u8 (bare (codes "Show"))) []) ∷ []

abbrev pub own_bound : List Said
own_bound = base ∷ (codes "trait Show: Show", trait_line false false (codes "Show") no_params (bare (codes "Show") ∷ [])) ∷ []

abbrev pub loaded_auto : List Said
loaded_auto = base ∷ (codes "auto trait Safe<T>", trait_line false true (codes "Safe") (of_types (codes "T" ∷ [])) []) ∷ []

abbrev pub foreign_auto : List Said
foreign_auto = base ∷ safe ∷ (codes "impl Safe for u8", impl_line no_params (is u8 (bare (codes "Safe"))) []) ∷ []

abbrev pub built_in : List Said
built_in = base ∷ (codes "impl Tuple for u8", impl_line no_params (is u8 (bare (codes "Tuple"))) []) ∷ []

abbrev pub stray_variable : List Said
stray_variable = base ∷ show ∷ show_for (codes "impl Show for ?x") (variable_type (codes "x")) ∷ []

abbrev pub refuted_parameter : List Said
refuted_parameter =
    base ∷ show
    ∷ (codes "refute in base <T> T: Show", refute_line (codes "base") (of_types (codes "T" ∷ [])) (is (plain_name (codes "T")) (bare (codes "Show"))) []) ∷ []

abbrev pub two_principals : List Said
two_principals =
    base ∷ show ∷ num
    ∷ show_for (codes "impl Show for dyn Show + Num") (dyn_of (bound_item [] (codes "Show") no_args) (and_item (bound_item [] (codes "Num") no_args) no_items)) ∷ []

abbrev pub long_number : List Said
long_number =
    base ∷ show
    ∷ show_for (codes "impl Show for [u8; 18446744073709551615]") (array_of u8 (number_length 18446744073709551615))
    ∷ show_for (codes "impl Show for [u8; 18446744073709551616]") (array_of u8 (number_length 18446744073709551616)) ∷ []

abbrev pub EachFault : Type 0
EachFault =
    IsFaulty before_any_crate 1 3 × IsFaulty taken 2 4 × IsFaulty not_known 2 5 × IsFaulty not_seen 4 6 × IsFaulty without_arguments 4 7
    × IsFaulty free_parameter 3 8 × IsFaulty own_bound 2 9 × IsFaulty loaded_auto 2 10 × IsFaulty foreign_auto 3 11 × IsFaulty built_in 2 12
    × IsFaulty stray_variable 3 13 × IsFaulty refuted_parameter 3 14 × IsFaulty two_principals 4 15 × IsFaulty long_number 4 16

-- ---- sections of later versions
abbrev later_base : Said
later_base = (codes "later base", later_line (codes "base"))

abbrev later_core : Said
later_core = (codes "later core", later_line (codes "core"))

abbrev struct_a : Said
struct_a = (codes "struct A", struct_line false (codes "A") no_params no_types)

-- A struct in a section is fault 3, also after a query, because a query does not end the section.
abbrev pub struct_in_section : List Said
struct_in_section = base ∷ num ∷ later_base ∷ struct_a ∷ []

abbrev pub struct_behind_question : List Said
struct_behind_question =
    base ∷ num ∷ later_base ∷ (codes "refute in base u8: Num", refute_line (codes "base") no_params (is u8 (bare (codes "Num"))) []) ∷ struct_a ∷ []

abbrev supers_base : Said
supers_base = (codes "supers in base", supers_line (codes "base"))

-- It is fault 3 after `supers in` as well, which does not end the section either.
abbrev pub struct_behind_supers : List Said
struct_behind_supers = base ∷ num ∷ later_base ∷ supers_base ∷ struct_a ∷ []

-- A section of a crate that is not declared is fault 5, and one of a trait is fault 7.
abbrev pub later_unknown : List Said
later_unknown = base ∷ (codes "later other", later_line (codes "other")) ∷ []

abbrev pub later_trait : List Said
later_trait = base ∷ num ∷ (codes "later Num", later_line (codes "Num")) ∷ []

abbrev pub supers_unknown : List Said
supers_unknown = base ∷ (codes "supers in other", supers_line (codes "other")) ∷ []

abbrev pub supers_trait : List Said
supers_trait = base ∷ num ∷ (codes "supers in Num", supers_line (codes "Num")) ∷ []

-- An added impl sees what its own crate sees, and not what the last crate sees.
abbrev pub later_unseen : List Said
later_unseen = base ∷ (codes "crate first", crate_line (codes "first") []) ∷ show ∷ later_base ∷ show_for (codes "impl Show for u8") u8 ∷ []

-- An added impl of an auto trait for a struct of another crate is fault 11, and one of a built-in trait is fault 12.
abbrev pub later_foreign_auto : List Said
later_foreign_auto =
    base ∷ safe ∷ (codes "crate first uses base", crate_line (codes "first") (codes "base" ∷ [])) ∷ struct_a ∷ (codes "later first", later_line (codes "first"))
    ∷ (codes "impl Safe for Box<A>", impl_line no_params (is (named (codes "Box") (one (plain_name (codes "A")))) (bare (codes "Safe"))) []) ∷ []

abbrev pub later_built_in : List Said
later_built_in = later_core ∷ (codes "impl Tuple for u8", impl_line no_params (is u8 (bare (codes "Tuple"))) []) ∷ []

abbrev pub SectionFaults : Type 0
SectionFaults =
    IsFaulty struct_in_section 4 3 × IsFaulty struct_behind_question 5 3 × IsFaulty struct_behind_supers 5 3 × IsFaulty later_unknown 2 5 × IsFaulty later_trait 3 7
    × IsFaulty supers_unknown 2 5 × IsFaulty supers_trait 3 7 × IsFaulty later_unseen 5 6
    × IsFaulty later_foreign_auto 6 11 × IsFaulty later_built_in 2 12

-- The checks, the headers that the sections add, and the number of impls of the crates in addition to those of `core`.
pub record AddedHeaders : Type 0 where
  pub checks : List Check
  pub headers : List (ℕ × (ℕ × Reference))
  pub impls : ℕ

abbrev pub added_in : Result Declarations (ℕ × ℕ) → Option AddedHeaders
added_in (Ok d) = Some (record {
  checks = d.checks;
  headers = map (λ i. (i.section, (i.added.item.home, i.added.item.header))) d.later_impls;
  impls = length (drop 39 d.impls);
})
added_in (Err e) = None

-- `crate base; trait Num; struct V<T>; crate first uses base; later base; impl<T> Num for V<T>; refute in base u8: Num;
-- supers in base; impl<T> Num for &T; later core; impl Clone for str; crate second uses base; struct A; impl Num for
-- A`: two impls are added to base, after its user, and one to `core`. The last impl is of second.
abbrev pub TwoSections : Type 0
TwoSections =
    let ss =
    base ∷ num ∷ v ∷ (codes "crate first uses base", crate_line (codes "first") (codes "base" ∷ [])) ∷ later_base
    ∷ (codes "impl<T> Num for V<T>", impl_line (of_types (codes "T" ∷ [])) (is (named (codes "V") (one (plain_name (codes "T")))) (bare (codes "Num"))) [])
    ∷ (codes "refute in base u8: Num", refute_line (codes "base") no_params (is u8 (bare (codes "Num"))) [])
    ∷ supers_base
    ∷ (codes "impl<T> Num for &T", impl_line (of_types (codes "T" ∷ [])) (is (reference_to None false (plain_name (codes "T"))) (bare (codes "Num"))) [])
    ∷ later_core
    ∷ (codes "impl Clone for str", impl_line no_params (is (of_primitive str) (bare (codes "Clone"))) [])
    ∷ (codes "crate second uses base", crate_line (codes "second") (codes "base" ∷ []))
    ∷ struct_a
    ∷ (codes "impl Num for A", impl_line no_params (is (plain_name (codes "A")) (bare (codes "Num"))) [])
    ∷ []
    in
    let T = leaf (param of_type 0) in
    AllSaid ss
    × (added_in (outcome ss nothing_declared 1)
    ≡ Some (record {
      checks = of_later 0 1 ∷ of_supers 1 ∷ of_later 1 0 ∷ [];
      headers = (0, (1, record { trait = 9; args = tree (adt 2) T none })) ∷ (0, (1, record { trait = 9; args = tree (ref false) (tree static none T) none })) ∷ (1, (0, record { trait = 1; args = leaf str })) ∷ [];
      impls = 1;
    }))

-- ---- fine points of the faults
abbrev pub is_good : Result Declarations (ℕ × ℕ) → Bool
is_good (Ok d) = true
is_good (Err e) = false

-- The lines are written in this way, and the text has no fault.
abbrev pub IsGood : List Said → Type 0
IsGood ss = AllSaid ss × (is_good (outcome ss nothing_declared 1) ≡ true)

-- Lifetimes have names of their own.
abbrev pub apart : List Said
apart = base ∷ (codes "struct Z<'a, a>", struct_line false (codes "Z") (record { lifetimes = codes "a" ∷ []; types = codes "a" ∷ []; consts = [] }) no_types) ∷ []

-- A parameter of a struct may not have the struct's name.
abbrev pub own_parameter : List Said
own_parameter = base ∷ (codes "struct V<V>", struct_line false (codes "V") (of_types (codes "V" ∷ [])) no_types) ∷ []

-- A query may be in `core`.
abbrev pub asked_in_core : List Said
asked_in_core = (codes "prove in core u8: Clone", prove_line (codes "core") no_params (is u8 (bare (codes "Clone"))) [] []) ∷ []

-- A trait at the position of a crate is fault 7.
abbrev pub asked_in_trait : List Said
asked_in_trait = base ∷ show ∷ (codes "prove in Show u8: Show", prove_line (codes "Show") no_params (is u8 (bare (codes "Show"))) [] []) ∷ []

-- A trait's own name in its bound is fault 9, which precedes fault 10. The same is true inside of a type.
abbrev pub own_bound_of_auto : List Said
own_bound_of_auto = base ∷ (codes "auto trait A: A", trait_line false true (codes "A") no_params (bare (codes "A") ∷ [])) ∷ []

abbrev pub own_name_inside : List Said
own_name_inside =
    base ∷ (codes "trait Sup<T>", trait_line false false (codes "Sup") (of_types (codes "T" ∷ [])) [])
    ∷ (codes "trait S: Sup<dyn S>", trait_line false false (codes "S") no_params (record { trait = codes "Sup"; args = one (dyn_of (bound_item [] (codes "S") no_args) no_items) } ∷ [])) ∷ []

-- A parameter is not a struct of the impl's crate.
abbrev pub auto_for_parameter : List Said
auto_for_parameter = base ∷ safe ∷ (codes "impl<T> Safe for T", impl_line (of_types (codes "T" ∷ [])) (is (plain_name (codes "T")) (bare (codes "Safe"))) []) ∷ []

-- A mentioned name that is too long is not declared.
abbrev long_text : List ℕ
long_text = codes "aaaaaaaaaaaaaaaaaaaaaaaaaaaaaaaaaaaaaaaaaaaaaaaaaaaaaaaaaaaaaaaaa"

abbrev pub long_used : List Said
long_used = base ∷ show ∷ show_for (codes "impl Show for " ++ long_text) (plain_name long_text) ∷ []

-- A variable cannot be a lifetime, and cannot be both a type and a constant.
abbrev pub variable_lifetime : List Said
variable_lifetime =
    base ∷ show ∷ (codes "struct W<'a>", struct_line false (codes "W") (record { lifetimes = codes "a" ∷ []; types = []; consts = [] }) no_types)
    ∷ (codes "prove in base W<?x>: Show", prove_line (codes "base") no_params (is (named (codes "W") (one (variable_type (codes "x")))) (bare (codes "Show"))) [] []) ∷ []

abbrev pub variable_twice : List Said
variable_twice =
    base ∷ (codes "trait Conv<U, const N>", trait_line false false (codes "Conv") (record { lifetimes = []; types = codes "U" ∷ []; consts = codes "N" ∷ [] }) [])
    ∷ (
      codes "prove in base u8: Conv<?x, ?x>",
      prove_line (codes "base") no_params (is u8 (record { trait = codes "Conv"; args = and_arg (type_arg (variable_type (codes "x"))) (and_arg (type_arg (variable_type (codes "x"))) no_args) })) [] [],
    ) ∷ []

-- The kinds of a variable are compared over all bounds of a query.
abbrev pub variable_apart : List Said
variable_apart =
    base ∷ (codes "trait Conv<U>", trait_line false false (codes "Conv") (of_types (codes "U" ∷ [])) [])
    ∷ (codes "trait Len<const N>", trait_line false false (codes "Len") (record { lifetimes = []; types = []; consts = codes "N" ∷ [] }) [])
    ∷ (
      codes "refute in base u8: Conv<?x>, u8: Len<?x>",
      refute_line (codes "base") no_params (is u8 (record { trait = codes "Conv"; args = one (variable_type (codes "x")) }))
          (is u8 (record { trait = codes "Len"; args = one (variable_type (codes "x")) }) ∷ []),
    ) ∷ []

-- A query has this number of bounds, and one more.
abbrev copied_text : ℕ → List ℕ → List ℕ
copied_text zero text = []
copied_text (suc n) text = text ++ copied_text n text

abbrev copied_clause : ℕ → Clause → List Clause
copied_clause zero k = []
copied_clause (suc n) k = k ∷ copied_clause n k

abbrev pub many_bounds : ℕ → List Said
many_bounds n =
    base ∷ show ∷ (codes "refute in base u8: Show" ++ copied_text n (codes ", u8: Show"), refute_line (codes "base") no_params (is u8 (bare (codes "Show"))) (copied_clause n (is u8 (bare (codes "Show")))))
    ∷ []

-- This number of `&` before the type. An omitted output adds no depth, so that 63 of them before `fn()` have depth 64.
-- Neither does a const argument that is a name.
abbrev ampersands : ℕ → List ℕ → List ℕ
ampersands zero bytes = bytes
ampersands (suc n) bytes = 38 ∷ ampersands n bytes

abbrev references : ℕ → TypeTree → TypeTree
references zero t = t
references (suc n) t = reference_to None false (references n t)

abbrev pub deep_fn : ℕ → List Said
deep_fn n = base ∷ show ∷ show_for (codes "impl Show for " ++ ampersands n (codes "fn()")) (references n (fn_of [] no_types)) ∷ []

abbrev pub deep_const : ℕ → List Said
deep_const n =
    base ∷ show ∷ (codes "struct C<const N>", struct_line false (codes "C") (record { lifetimes = []; types = []; consts = codes "N" ∷ [] }) no_types)
    ∷ (
      codes "impl<const M> Show for " ++ ampersands n (codes "C<M>"),
      impl_line (record { lifetimes = []; types = []; consts = codes "M" ∷ [] }) (is (references n (named (codes "C") (one (plain_name (codes "M"))))) (bare (codes "Show"))) [],
    ) ∷ []

abbrev pub FinePoints : Type 0
FinePoints =
    IsGood apart × IsFaulty own_parameter 2 4 × IsGood asked_in_core × IsFaulty asked_in_trait 3 7 × IsFaulty own_bound_of_auto 2 9 × IsFaulty own_name_inside 3 9
    × IsFaulty auto_for_parameter 3 11 × IsFaulty long_used 3 5 × IsFaulty variable_lifetime 4 7 × IsFaulty variable_twice 3 13
    × IsFaulty variable_apart 4 13

abbrev pub ManyBounds : Type 0
ManyBounds = IsGood (many_bounds 63) × IsFaulty (many_bounds 64) 3 16

abbrev pub Depths : Type 0
Depths = IsGood (deep_fn 63) × IsFaulty (deep_fn 64) 3 16 × IsGood (deep_const 63) × IsFaulty (deep_const 64) 4 16

-- ---- what is declared
-- `impl<T> Show for V<T> where T: Show`: the header and the clause have parameter 0. Structs are numbered after `Box`,
-- and traits and impls after those of `core`.
abbrev pub generic_impl : List Said
generic_impl =
    base ∷ show ∷ v
    ∷ (
      codes "impl<T> Show for V<T> where T: Show",
      impl_line (of_types (codes "T" ∷ [])) (is (named (codes "V") (one (plain_name (codes "T")))) (bare (codes "Show"))) (is (plain_name (codes "T")) (bare (codes "Show")) ∷ []),
    )
    ∷ (codes "prove in base V<V<u8>>: Show", prove_line (codes "base") no_params (is (named (codes "V") (one (named (codes "V") (one u8)))) (bare (codes "Show"))) [] []) ∷ []

abbrev pub GenericImpl : Type 0
GenericImpl = Declares generic_impl (record {
  structs = record { name = 2; home = 1; is_fundamental = false; fields = [] } ∷ [];
  traits = record { name = 9; home = 1; is_fundamental = false; is_auto = false; bounds = [] } ∷ [];
  impls = record {
    name = 39;
    home = 1;
    params = 1;
    header = record { trait = 9; args = tree (adt 2) (leaf (param of_type 0)) none };
    clauses = record { trait = 9; args = leaf (param of_type 0) } ∷ [];
  } ∷ [];
  questions = record {
    is_refute = false;
    asker = 1;
    params = [];
    asked = record { trait = 9; args = tree (adt 2) (tree (adt 2) (leaf (uint 0)) none) none };
    further = [];
    clauses = [];
    variables = [];
  } ∷ [];
})

-- The kinds of the parameters of `Conv<U, const N>` determine that `?n` is a constant.
abbrev pub two_kinds : List Said
two_kinds =
    base
    ∷ (codes "trait Conv<U, const N>", trait_line false false (codes "Conv") (record { lifetimes = []; types = codes "U" ∷ []; consts = codes "N" ∷ [] }) [])
    ∷ (codes "impl Conv<bool, 4> for u8", impl_line no_params (is u8 (record { trait = codes "Conv"; args = and_arg (type_arg (of_primitive bool)) (and_arg (number_arg 4) no_args) })) [])
    ∷ (
      codes "prove in base u8: Conv<?x, ?n>",
      prove_line (codes "base") no_params (is u8 (record { trait = codes "Conv"; args = and_arg (type_arg (variable_type (codes "x"))) (and_arg (type_arg (variable_type (codes "n"))) no_args) })) [] [],
    ) ∷ []

abbrev pub TwoKinds : Type 0
TwoKinds = Declares two_kinds (record {
  structs = [];
  traits = record { name = 9; home = 1; is_fundamental = false; is_auto = false; bounds = [] } ∷ [];
  impls = record { name = 39; home = 1; params = 0; header = record { trait = 9; args = tree (uint 0) none (tree bool none (leaf (value 4))) }; clauses = [] } ∷ [];
  questions = record {
    is_refute = false;
    asker = 1;
    params = [];
    asked = record { trait = 9; args = tree (uint 0) none (tree (infer of_type 0) none (leaf (infer of_const 0))) };
    further = [];
    clauses = [];
    variables = record { text = codes "x"; kind = of_type } ∷ record { text = codes "n"; kind = of_const } ∷ [];
  } ∷ [];
})

-- Both bounds of the query have `?x`, which is one variable.
abbrev conv : List ℕ → Bound
conv x = record { trait = codes "Conv"; args = one (variable_type x) }

abbrev pub two_bounds : List Said
two_bounds =
    base ∷ show ∷ (codes "trait Conv<U>", trait_line false false (codes "Conv") (of_types (codes "U" ∷ [])) [])
    ∷ (
      codes "prove in base u8: Conv<?x>, Box<?x>: Conv<?y> where u8: Show",
      prove_line (codes "base") no_params (is u8 (conv (codes "x"))) (is (named (codes "Box") (one (variable_type (codes "x")))) (conv (codes "y")) ∷ [])
          (is u8 (bare (codes "Show")) ∷ []),
    ) ∷ []

abbrev pub TwoBounds : Type 0
TwoBounds = Declares two_bounds (record {
  structs = [];
  traits = record { name = 9; home = 1; is_fundamental = false; is_auto = false; bounds = [] } ∷ record { name = 10; home = 1; is_fundamental = false; is_auto = false; bounds = [] } ∷ [];
  impls = [];
  questions = record {
    is_refute = false;
    asker = 1;
    params = [];
    asked = record { trait = 10; args = tree (uint 0) none (leaf (infer of_type 0)) };
    further = record { trait = 10; args = tree (adt 0) (leaf (infer of_type 0)) (leaf (infer of_type 1)) } ∷ [];
    clauses = record { trait = 9; args = leaf (uint 0) } ∷ [];
    variables = record { text = codes "x"; kind = of_type } ∷ record { text = codes "y"; kind = of_type } ∷ [];
  } ∷ [];
})

-- Binders are counted from the innermost. A `dyn` has its principal, its auto traits by their numbers, each once, and
-- its lifetime. What is omitted is `'static` or `()`. Supertraits have Self as parameter 0.
abbrev pub bound_lifetimes : List Said
bound_lifetimes =
    base
    ∷ (codes "auto trait Safe", trait_line false true (codes "Safe") no_params [])
    ∷ (codes "auto trait Sync", trait_line false true (codes "Sync") no_params [])
    ∷ (codes "trait Tr<'a, T>", trait_line false false (codes "Tr") (record { lifetimes = codes "a" ∷ []; types = codes "T" ∷ []; consts = [] }) [])
    ∷ (
      codes "fundamental trait Sub<T>: Tr<'static, T> + Safe",
      trait_line true false (codes "Sub") (of_types (codes "T" ∷ []))
          (record { trait = codes "Tr"; args = and_arg (lifetime_arg (codes "static")) (one (plain_name (codes "T"))) } ∷ bare (codes "Safe") ∷ []),
    )
    ∷ (
      codes "struct S<'p>(for<'a> fn(&'a u8), dyn Sync + Safe + Sync + 'p, dyn for<'b> Tr<'b, for<'c> fn(&'b u8, &'c mut u8) -> [u8]>)",
      struct_line false (codes "S") (record { lifetimes = codes "p" ∷ []; types = []; consts = [] })
          (and_type (fn_of (codes "a" ∷ []) (and_type (reference_to (Some (codes "a")) false u8) no_types))
          (and_type (dyn_of (bound_item [] (codes "Sync") no_args) (and_item (bound_item [] (codes "Safe") no_args) (and_item (bound_item [] (codes "Sync") no_args) (and_item (lifetime_item (codes "p")) no_items))))
          (and_type (dyn_of (bound_item (codes "b" ∷ []) (codes "Tr") (and_arg (lifetime_arg (codes "b")) (one
          (fn_to (codes "c" ∷ []) (and_type (reference_to (Some (codes "b")) false u8) (and_type (reference_to (Some (codes "c")) true u8) no_types)) (slice_of u8))))) no_items) no_types))),
    ) ∷ []

-- A reference to `u8`, followed by o.
abbrev to_u8 : Bool → Label → Trees → Trees
to_u8 m l o = tree (ref m) (tree l none (leaf (uint 0))) o

abbrev pub BoundLifetimes : Type 0
BoundLifetimes = Declares bound_lifetimes (record {
  structs = record {
    name = 2;
    home = 1;
    is_fundamental = false;
    fields =
        tree (fn_ptr 1) (to_u8 false (bound of_lifetime 0 0) (leaf tuple)) none
        ∷ tree dynamic (tree (auto_trait 9) none (tree (auto_trait 10) none (leaf (param of_lifetime 0)))) none
        ∷ tree dynamic (tree (principal 1 11)
        (tree (bound of_lifetime 0 0) none (tree (fn_ptr 1) (to_u8 false (bound of_lifetime 1 0) (to_u8 true (bound of_lifetime 0 0) (tree slice (leaf (uint 0)) none))) none)) (leaf static)) none ∷ [];
  } ∷ [];
  traits =
      record { name = 9; home = 1; is_fundamental = false; is_auto = true; bounds = [] }
      ∷ record { name = 10; home = 1; is_fundamental = false; is_auto = true; bounds = [] }
      ∷ record { name = 11; home = 1; is_fundamental = false; is_auto = false; bounds = [] }
      ∷ record {
        name = 12;
        home = 1;
        is_fundamental = true;
        is_auto = false;
        bounds = record { trait = 11; args = tree (param of_type 0) none (tree static none (leaf (param of_type 1))) } ∷ record { trait = 9; args = leaf (param of_type 0) } ∷ [];
      } ∷ [];
  impls = [];
  questions = [];
})

-- ---- `core`: its lines follow the grammar and declare the crate that the definitions give
abbrev core_line : List ℕ → Bool → List ℕ → Params → List Bound → Said
core_line bytes f n ps bs = (bytes, trait_line f false n ps bs)

abbrev to_A : List ℕ → Bound
to_A n = record { trait = n; args = one (plain_name (codes "A")) }

abbrev pub core_text : List Said
core_text =
    core_line (codes "fundamental trait Sized") true (codes "Sized") no_params []
    ∷ core_line (codes "trait Clone: Sized") false (codes "Clone") no_params (bare (codes "Sized") ∷ [])
    ∷ core_line (codes "trait Copy: Clone") false (codes "Copy") no_params (bare (codes "Clone") ∷ [])
    ∷ core_line (codes "trait Tuple") false (codes "Tuple") no_params []
    ∷ core_line (codes "trait FnPtr") false (codes "FnPtr") no_params []
    ∷ core_line (codes "fundamental trait FnOnce<A>") true (codes "FnOnce") (of_types (codes "A" ∷ [])) []
    ∷ core_line (codes "fundamental trait FnMut<A>: FnOnce<A>") true (codes "FnMut") (of_types (codes "A" ∷ [])) (to_A (codes "FnOnce") ∷ [])
    ∷ core_line (codes "fundamental trait Fn<A>: FnMut<A>") true (codes "Fn") (of_types (codes "A" ∷ [])) (to_A (codes "FnMut") ∷ [])
    ∷ core_line (codes "trait Unsize<T>") false (codes "Unsize") (of_types (codes "T" ∷ [])) []
    ∷ (codes "fundamental struct Box<T>(*const T)", struct_line true (codes "Box") (of_types (codes "T" ∷ [])) (and_type (pointer_to false (plain_name (codes "T"))) no_types))
    ∷ []

-- `impl Clone for bool` and so on, with the words before `for`.
abbrev for_scalars : List ℕ → List ℕ → List (List ℕ × TypeTree) → List Said
for_scalars start t [] = []
for_scalars start t (s ∷ ss) = (start ++ s.0, impl_line no_params (is s.1 (bare t)) []) ∷ for_scalars start t ss

abbrev scalar_types : List (List ℕ × TypeTree)
scalar_types = map (λ p. (p.0, of_primitive p.1)) (take 2 primitives) ++ (codes "!", never_type) ∷ map (λ p. (p.0, of_primitive p.1)) (drop 3 primitives)

abbrev T : TypeTree
T = plain_name (codes "T")

-- `impl<T> Clone for *const T` and so on: the rest of the line after its first words.
abbrev for_pointers : List ℕ → List ℕ → List Said
for_pointers t start =
    (codes "impl<'a, T>" ++ start ++ codes "&'a T", impl_line (record { lifetimes = codes "a" ∷ []; types = codes "T" ∷ []; consts = [] }) (is (reference_to (Some (codes "a")) false T) (bare t)) [])
    ∷ (codes "impl<T>" ++ start ++ codes "*const T", impl_line (of_types (codes "T" ∷ [])) (is (pointer_to false T) (bare t)) [])
    ∷ (codes "impl<T>" ++ start ++ codes "*mut T", impl_line (of_types (codes "T" ∷ [])) (is (pointer_to true T) (bare t)) [])
    ∷ (
      codes "impl<T, const N>" ++ start ++ codes "[T; N] where T: " ++ t,
      impl_line (record { lifetimes = []; types = codes "T" ∷ []; consts = codes "N" ∷ [] }) (is (array_of T (name_length (codes "N"))) (bare t)) (is T (bare t) ∷ []),
    )
    ∷ []

-- The impls 1 to 39.
abbrev pub core_impls : List Said
core_impls =
    for_scalars (codes "impl Clone for ") (codes "Clone") scalar_types ++ for_pointers (codes "Clone") (codes " Clone for ")
    ++ (codes "impl<T> Clone for Box<T> where T: Clone", impl_line (of_types (codes "T" ∷ [])) (is (named (codes "Box") (one T)) (bare (codes "Clone"))) (is T (bare (codes "Clone")) ∷ []))
    ∷ (for_scalars (codes "impl Copy for ") (codes "Copy") scalar_types ++ for_pointers (codes "Copy") (codes " Copy for "))

-- The crate without items.
abbrev empty_core : Declarations
empty_core = record { crates = nothing_declared.crates; structs = []; traits = []; impls = []; questions = []; sections = []; later_impls = []; checks = []; in_section = false }

-- The declarations with these lines. Their faults are not tested, because `core` has no `crate` line.
abbrev with_lines : List Said → Declarations → Declarations
with_lines [] d = d
with_lines (s ∷ ss) d = with_lines ss (added d s.1)

-- All but the wrapper, whose name no line can write.
abbrev pub CoreIsRead : Type 0
CoreIsRead = AllSaid (core_text ++ core_impls) × (with_lines core_impls (with_lines core_text empty_core) ≡ record nothing_declared { structs = take 1 nothing_declared.structs })

-- Without lifetimes, `core` is the crate whose rules are read.
abbrev pub CoreIsCore : Type 0
CoreIsCore = erased_world (world_of nothing_declared) ≡ core_world

-- ---- printing: `(T,)`, an omitted `-> ()`, and no lifetimes
abbrev names : Names
names = record { of_struct = λ _. codes "V"; of_trait = λ _. codes "Tr"; of_param = λ _ _. codes "T"; of_placeholder = λ _ _. codes "P"; of_unknown = λ _ _. codes "?1" }

abbrev pub Printed : Type 0
Printed =
    (type_text names (tree tuple (leaf (uint 0)) none) ≡ codes "(u8,)")
    × (type_text names (tree (fn_ptr 1) (to_u8 true (bound of_lifetime 0 0) (tree (uint 1) none (leaf tuple))) none) ≡ codes "fn(&mut u8, u16)")
    × (type_text names (tree (fn_ptr 0) (leaf bool) none) ≡ codes "fn() -> bool")
    × (type_text names (tree dynamic (tree (principal 1 3) (tree static none (leaf bool)) (tree (auto_trait 9) none (leaf static))) none) ≡ codes "dyn Tr<bool> + Tr")
    × (type_text names (tree (adt 1) (leaf static) none) ≡ codes "V")
    × (type_text names (tree array (tree (infer of_type 0) none (leaf (infer of_const 0))) none) ≡ codes "[?1; ?1]")
    × (values_text (record { variable = codes "x"; term = codes "bool" } ∷ record { variable = codes "n"; term = codes "4" } ∷ []) ≡ codes " ?x = bool, ?n = 4")

-- `?x` has the value `(?y, Box<u8>)`, `?y` has none, and `?z` is equated with it: `?x = (?y, Box<u8>)`, `?z = ?y`. An
-- inference variable that is not in the query is numbered by its first occurrence.
abbrev asking : Question
asking = record {
  is_refute = false;
  asker = 1;
  params = [];
  asked = record { trait = 9; args = none };
  further = [];
  clauses = [];
  variables = record { text = codes "x"; kind = of_type } ∷ record { text = codes "y"; kind = of_type } ∷ record { text = codes "z"; kind = of_type } ∷ [];
}

abbrev pub ValuesPrinted : Type 0
ValuesPrinted =
    (answer_values nothing_declared asking
    (tree tuple (tree (infer of_type 1) none (tree (adt 0) (leaf (uint 0)) none)) none ∷ leaf (infer of_type 1) ∷ leaf (infer of_type 1) ∷ [])
    ≡ record { variable = codes "x"; term = codes "(?y, Box<u8>)" } ∷ record { variable = codes "z"; term = codes "?y" } ∷ [])
    × (with_free asking (tree tuple (tree (infer of_type 7) none (tree (infer of_type 1) none (tree slice (leaf (infer of_type 5)) (leaf (infer of_type 7))))) none) [] ≡ (of_type, 7) ∷ (of_type, 5) ∷ [])

-- ---- a text without a line gives `core` alone
abbrev pub EmptyText : Type 0
EmptyText = TextGives [] (Ok nothing_declared)

-- ---- an impl of a used crate's trait for a type of no crate: the text has no fault, and the header breaks the orphan
-- rule
abbrev pub orphan : List Said
orphan = base ∷ show ∷ (codes "crate b uses base", crate_line (codes "b") (codes "base" ∷ [])) ∷ show_for (codes "impl Show for u8") u8 ∷ []

abbrev pub broken_headers : Result Declarations (ℕ × ℕ) → List ℕ
broken_headers (Err e) = []
broken_headers (Ok d) = map (λ i. i.name) (filter (λ i. not (keeps_orphan_rule (world_of d) i.home i.header)) (world_of d).impls)

abbrev pub OrphanHeader : Type 0
OrphanHeader = AllSaid orphan × (broken_headers (outcome orphan nothing_declared 1) ≡ 39 ∷ [])

-- ---- lines with types of traits

-- The bytes of a line, and the line as it is written.
abbrev pub AsWritten : Type 0
AsWritten = List ℕ × WrittenLine

abbrev pub AllWritten : List AsWritten → Type 0
AllWritten [] = Unit {0}
AllWritten (w ∷ ws) = BytesWrite w.0 w.1 × AllWritten ws

-- The meaning of lines, the first of which has number k: declarations, or the first faulty line with its fault.
abbrev pub written_after : Result Declarations ℕ → ℕ → (Declarations → Result Declarations (ℕ × ℕ)) → Result Declarations (ℕ × ℕ)
written_after (Ok d) k more = more d
written_after (Err n) k more = Err (k, n)

abbrev pub written_outcome : List AsWritten → Declarations → ℕ → Result Declarations (ℕ × ℕ)
written_outcome [] d k = Ok d
written_outcome (w ∷ ws) d k = written_after (written_says d w.0 w.1) k (λ e. written_outcome ws e (suc k))

-- The lines are written in this way, and the text has this fault.
abbrev pub IsFaultyWritten : List AsWritten → ℕ → ℕ → Type 0
IsFaultyWritten ws k n = AllWritten ws × (written_outcome ws core_declared 1 ≡ Err (k, n))

-- The lines are written in this way, and this is what they declare and ask in addition to `core`.
abbrev pub DeclaresWritten : List AsWritten → Declared → Type 0
DeclaresWritten ws r = AllWritten ws × (declared_in (written_outcome ws core_declared 1) ≡ Some r)

abbrev binding : List ℕ → TypeTree → Binding
binding n t = record { name = n; value = t }

abbrev unbound : Bound → WrittenBound
unbound b = record { bound = b; bindings = [] }

-- `It<Item = t>`
abbrev item_is : TypeTree → WrittenBound
item_is t = record { bound = bare (codes "It"); bindings = binding (codes "Item") t ∷ [] }

abbrev has : TypeTree → WrittenBound → WrittenClause
has t b = record { subject = t; bound = b }

abbrev vec_of : TypeTree → TypeTree
vec_of t = named (codes "Vec") (one t)

abbrev written_base : AsWritten
written_base = (codes "crate base", written_crate (codes "base") [])

abbrev written_vec : AsWritten
written_vec = (codes "struct Vec<T>", written_struct false (codes "Vec") (of_types (codes "T" ∷ [])) no_types)

abbrev with_item : AsWritten
with_item = (codes "trait It { type Item; }", written_trait false false (codes "It") no_params [] (codes "Item" ∷ []))

abbrev vec_item : AsWritten
vec_item = (codes "impl<T> It for Vec<T> { type Item = T; }", written_impl (of_types (codes "T" ∷ [])) (has (vec_of (plain_name (codes "T"))) (item_is (plain_name (codes "T")))) [])

-- The trait `It` has number 9, and its companion number 10. The impl 39 is of the trait, and the impl 40 of the companion.
-- Each query is about the companion. `Bytes` has both among its bounds. The struct 1 is the wrapper.
abbrev pub items_of_vectors : List AsWritten
items_of_vectors =
    written_base ∷ written_vec ∷ with_item ∷ vec_item
    ∷ (codes "prove in base Vec<u8>: It<Item = ?x>", written_prove (codes "base") no_params (has (vec_of u8) (item_is (variable_type (codes "x")))) [] [])
    ∷ (codes "refute in base Vec<u8>: It<Item = bool>", written_refute (codes "base") no_params (has (vec_of u8) (item_is (of_primitive bool))) [])
    ∷ (codes "trait Bytes: It<Item = u8>", written_trait false false (codes "Bytes") no_params (item_is u8 ∷ []) [])
    ∷ []

abbrev pub ItemsOfVectors : Type 0
ItemsOfVectors =
    let self = leaf (param of_type 0) in
    let plain : ℕ → List Reference → TraitDecl = λ n bounds. record { name = n; home = 1; is_fundamental = false; is_auto = false; bounds = bounds } in
    let asks : Bool → Trees → List Variable → Question = λ r item vs. record {
      is_refute = r;
      asker = 1;
      params = [];
      asked = record { trait = 10; args = tree (adt 2) (leaf (uint 0)) (tree (adt 1) item none) };
      further = [];
      clauses = [];
      variables = vs;
    } in
    DeclaresWritten items_of_vectors (record {
      structs = record { name = 2; home = 1; is_fundamental = false; fields = [] } ∷ [];
      traits =
          plain 9 [] ∷ plain 10 []
          ∷ plain 11 (record { trait = 9; args = self } ∷ record { trait = 10; args = tree (param of_type 0) none (tree (adt 1) (leaf (uint 0)) none) } ∷ []) ∷ [];
      impls =
          record { name = 39; home = 1; params = 1; header = record { trait = 9; args = tree (adt 2) self none }; clauses = [] }
          ∷ record { name = 40; home = 1; params = 1; header = record { trait = 10; args = tree (adt 2) self (tree (adt 1) self none) }; clauses = [] } ∷ [];
      questions = asks false (leaf (infer of_type 0)) (record { text = codes "x"; kind = of_type } ∷ []) ∷ asks true (leaf bool) [] ∷ [];
    })

-- One text for each fault of types: a type of which the trait knows nothing, in a bound and in an impl.
abbrev pub unknown_bound_type : List AsWritten
unknown_bound_type =
    written_base ∷ with_item
    ∷ (
      codes "refute in base u8: It<Thing = u8>",
      written_refute (codes "base") no_params (has u8 (record { bound = bare (codes "It"); bindings = binding (codes "Thing") u8 ∷ [] })) [],
    ) ∷ []

abbrev pub unknown_given_type : List AsWritten
unknown_given_type =
    written_base ∷ with_item
    ∷ (
      codes "impl It for u8 { type Item = u8; type Thing = u8; }",
      written_impl no_params (has u8 (record { bound = bare (codes "It"); bindings = binding (codes "Item") u8 ∷ binding (codes "Thing") u8 ∷ [] })) [],
    ) ∷ []

-- A type that is given twice, or not at all.
abbrev pub given_twice : List AsWritten
given_twice =
    written_base ∷ with_item
    ∷ (
      codes "impl It for u8 { type Item = u8; type Item = bool; }",
      written_impl no_params (has u8 (record { bound = bare (codes "It"); bindings = binding (codes "Item") u8 ∷ binding (codes "Item") (of_primitive bool) ∷ [] })) [],
    ) ∷ []

abbrev pub not_given : List AsWritten
not_given = written_base ∷ with_item ∷ (codes "impl It for u8", written_impl no_params (has u8 (unbound (bare (codes "It")))) []) ∷ []

-- A type that is bound twice, that its trait has twice, or that is of an auto trait.
abbrev pub bound_twice : List AsWritten
bound_twice =
    written_base ∷ with_item
    ∷ (
      codes "trait Bytes: It<Item = u8, Item = u8>",
      written_trait false false (codes "Bytes") no_params (record { bound = bare (codes "It"); bindings = binding (codes "Item") u8 ∷ binding (codes "Item") u8 ∷ [] } ∷ []) [],
    ) ∷ []

abbrev pub declared_twice : List AsWritten
declared_twice = written_base ∷ (codes "trait It { type Item; type Item; }", written_trait false false (codes "It") no_params [] (codes "Item" ∷ codes "Item" ∷ [])) ∷ []

abbrev pub auto_with_type : List AsWritten
auto_with_type = written_base ∷ (codes "auto trait It { type Item; }", written_trait false true (codes "It") no_params [] (codes "Item" ∷ [])) ∷ []

-- A type of a trait with a const parameter.
abbrev pub type_beside_const : List AsWritten
type_beside_const =
    written_base
    ∷ (codes "trait It<const N> { type Item; }", written_trait false false (codes "It") (record { lifetimes = []; types = []; consts = codes "N" ∷ [] }) [] (codes "Item" ∷ [])) ∷ []

abbrev pub TypeFaults : Type 0
TypeFaults =
    IsFaultyWritten unknown_bound_type 3 5 × IsFaultyWritten unknown_given_type 3 5 × IsFaultyWritten given_twice 3 7 × IsFaultyWritten not_given 3 7
    × IsFaultyWritten bound_twice 3 7 × IsFaultyWritten declared_twice 2 4 × IsFaultyWritten auto_with_type 2 10 × IsFaultyWritten type_beside_const 2 7

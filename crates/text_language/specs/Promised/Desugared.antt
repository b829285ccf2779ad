-- The lines that a written line stands for. The trait `It` with a type `Item` stands for two traits: for itself, and for
-- its companion `It::Item<V>`, "the Item is V". What is said of the type is said by the companion, with the type as its
-- last argument:
--   trait It { type Item; }                   trait It;  trait It::Item<V>
--   impl<T> It for Vec<T> { type Item = T; }  impl<T> It for Vec<T>;  impl<T> It::Item<W<T>> for Vec<T>
--   trait Bytes: It<Item = u8>                trait Bytes: It + It::Item<W<u8>>
--   prove in c Vec<u8>: It<Item = ?x>         prove in c Vec<u8>: It::Item<W<?x>>
-- `W` is a struct of `core`. It hides the type from the orphan rule, so that a crate may say of its types what it may say
-- of the trait.
use Rattle.std.specs.Prelude.{ℕ, min, Bool, not, ◌||◌, ◌&&◌, if◌then◌else◌, List, [], ◌∷◌, ◌++◌, map, drop, length, nat_lt, nat_eq, slice_get, false, ◌==◌, codes, Option, Some, None, Result, Ok, Err, fold}
use Rattle.std.specs.List.{flat_map, list_any, reduce, starts_with}
use Rattle.std.specs.Option.{option_map_or, option_or, option_to_list}
use Rattle.text_language.specs.Promised.Syntax.{TypeTree, named, Args, no_args, and_arg, type_arg, Bound, Clause, Line, crate_line, struct_line, trait_line, impl_line, prove_line, refute_line, later_line, supers_line, WrittenBound, WrittenClause, WrittenLine, written_crate, written_struct, written_trait, written_impl, written_prove, written_refute, written_later, written_supers}
use Rattle.text_language.specs.Promised.Declarations.{Declarations}
use Rattle.text_language.specs.Promised.Faults.{is_among, repeats}
use Rattle.text_language.specs.Promised.LineFaults.{line_fault}
use Rattle.text_language.specs.Promised.LineMeanings.{with_line}
use Rattle.text_language.specs.Promised.Written.{is_overlong}

-- ---- names that no text can write
-- The companion of a trait for one of its types, `It::Item`.
abbrev pub companion_name : (trait type : List ℕ) → List ℕ
companion_name t n = t ++ codes "::" ++ n

-- Whether a trait is a companion. No name in a text has a colon.
abbrev pub is_companion : Declarations → ℕ → Bool
is_companion d k = option_map_or (λ t. list_any (λ c. c == 58) t.text) (slice_get d.traits k) false

-- The struct of `core` around the type that a companion is about.
abbrev pub wrapper_name : List ℕ
wrapper_name = codes "::W"

-- The last parameter of each companion.
abbrev pub value_name : List ℕ
value_name = codes "="

-- ---- bounds
-- The arguments, followed by the type in its wrapper.
abbrev pub and_value : Args → TypeTree → Args
and_value no_args t = and_arg (type_arg (named wrapper_name (and_arg (type_arg t) no_args))) no_args
and_value (and_arg a args) t = and_arg a (and_value args t)

-- `It<Item = T>` stands for the bound `It`, and for `It::Item<W<T>>` of the companion.
abbrev pub bounds_of : WrittenBound → List Bound
bounds_of b = b.bound ∷ map (λ v. record { trait = companion_name b.bound.trait v.name; args = and_value b.bound.args v.value }) b.bindings

abbrev pub clauses_of : WrittenClause → List Clause
clauses_of k = map (λ b. record { subject = k.subject; bound = b }) (bounds_of k.bound)

-- A query for a bound with bindings asks for the companions alone. Their impls are those of the trait, with the same
-- where-clauses, so that the answer is the same, but is about one reference.
abbrev pub asked_of : WrittenClause → List Clause
asked_of k = if length k.bound.bindings == 0 then clauses_of k else drop 1 (clauses_of k)

-- ---- lines
-- The query with all these bounds. There is at least one.
abbrev pub asking : (Clause → List Clause → Line) → List Clause → List Line
asking query [] = []
asking query (a ∷ bs) = query a bs ∷ []

-- The lines for which a written line stands, in order.
-- - A companion has the words and the parameters of its trait, and the type as its last parameter.
-- - An impl that gives types is an impl of the trait, and one of each companion, with the same where-clauses.
abbrev pub desugared : WrittenLine → List Line
desugared (written_crate n us) = crate_line n us ∷ []
desugared (written_struct f n ps fs) = struct_line f n ps fs ∷ []
desugared (written_trait f a n ps bs ts) =
    trait_line f a n ps (flat_map bounds_of bs) ∷ map (λ t. trait_line f a (companion_name n t) (record ps { types = ps.types ++ value_name ∷ [] }) []) ts
desugared (written_impl ps h ks) = map (λ k. impl_line ps k (flat_map clauses_of ks)) (clauses_of h)
desugared (written_prove c ps a bs ks) = asking (λ k more. prove_line c ps k more (flat_map clauses_of ks)) (flat_map asked_of (a ∷ bs))
desugared (written_refute c ps a bs) = asking (refute_line c ps) (flat_map asked_of (a ∷ bs))
desugared (written_later n) = later_line n ∷ []
desugared (written_supers n) = supers_line n ∷ []

-- ---- faults
-- Most faults are faults of the lines for which the line stands. Among them are:
--   4   a trait has the same type twice: its companion is declared already
--   5   a bound or an impl names a type that its trait does not have: no companion has this name
--   10  an auto trait with a type: its companion would be an auto trait with a parameter
-- The following are faults of the written line itself, with the numbers 7 and 16.

-- The bounds of a line. An impl has its header among them.
abbrev pub bounds_in : WrittenLine → List WrittenBound
bounds_in (written_trait f a n ps bs ts) = bs
bounds_in (written_impl ps h ks) = map (λ k. k.bound) (h ∷ ks)
bounds_in (written_prove c ps a bs ks) = map (λ k. k.bound) (a ∷ bs ++ ks)
bounds_in (written_refute c ps a bs) = map (λ k. k.bound) (a ∷ bs)
bounds_in _ = []

-- Some type is bound or given twice.
abbrev pub binds_twice : WrittenBound → Bool
binds_twice b = repeats (map (λ v. v.name) b.bindings)

-- Some type of the trait is not given: the trait has a companion for which this bound does not stand.
abbrev pub leaves_out : Declarations → WrittenBound → Bool
leaves_out d b = list_any (λ t. starts_with nat_eq t.text (companion_name b.bound.trait []) && not (is_among t.text (map (λ c. c.trait) (bounds_of b)))) d.traits

-- The line has fault 7 by itself. A trait with types has no const parameters, because the type is the last argument of
-- its companion, and types precede constants.
abbrev pub is_ill_bound : Declarations → WrittenLine → Bool
is_ill_bound d (written_trait f a n ps bs ts) = (nat_lt 0 (length ts) && nat_lt 0 (length ps.consts)) || list_any binds_twice bs
is_ill_bound d (written_impl ps h ks) = leaves_out d h.bound || list_any binds_twice (map (λ k. k.bound) (h ∷ ks))
is_ill_bound d w = list_any binds_twice (bounds_in w)

-- The most types of a trait, and the most bindings of a bound.
abbrev pub types_limit : ℕ
types_limit = 16

-- The line has too many types, or a bound with too many bindings.
abbrev pub has_many_types : WrittenLine → Bool
has_many_types (written_trait f a n ps bs ts) = nat_lt types_limit (length ts) || list_any (λ b. nat_lt types_limit (length b.bindings)) bs
has_many_types w = list_any (λ b. nat_lt types_limit (length b.bindings)) (bounds_in w)

-- The line would stand for too much. It has fault 16, and is not desugared.
abbrev pub passes_types : List ℕ → WrittenLine → Bool
passes_types line w = is_overlong line || has_many_types w

-- The number of the fault of the written line itself, if it has one.
abbrev pub own_faults : Declarations → WrittenLine → List ℕ
own_faults d w = if is_ill_bound d w then 7 ∷ [] else []

-- The fault of the first of the lines that has one, when each is read after the lines before it.
abbrev pub first_fault : Declarations → List Line → Option ℕ
first_fault d [] = None
first_fault d (l ∷ ls) = option_or (line_fault d l) (first_fault (with_line d l) ls)

-- The fault of the bytes of a written line: the smallest number that applies, if it does not stand for too much.
abbrev pub written_fault : Declarations → List ℕ → WrittenLine → Option ℕ
written_fault d line w = if passes_types line w then Some 16 else reduce min (option_to_list (first_fault d (desugared w)) ++ own_faults d w)

-- ---- meaning
-- What a written line says: its fault, or the declarations with all its lines.
abbrev pub written_says : Declarations → List ℕ → WrittenLine → Result Declarations ℕ
written_says d line w = option_map_or (λ n. Err n) (written_fault d line w) (Ok (fold with_line d (desugared w)))

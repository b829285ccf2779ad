-- The candidates of a goal, as data: by where-clauses, built-in rules, impls, object bounds, and unknown impls of other crates.
use Rattle.std.specs.Prelude.{ℕ, zero, suc, ◌+◌, Bool, true, false, ◌||◌, ◌&&◌, ◌==◌, not, if◌then◌else◌, List, [], ◌∷◌, ◌++◌, map, length, Option, Some, None, min}
use Rattle.std.specs.List.{flat_map}
use Rattle.type_terms.specs.Promised.Label.{Label, Sort, of_type, of_const, char, tuple, dynamic, array, slice, adt, fn_ptr, param, canonical, predicate, region_outlives, type_outlives}
use Rattle.type_terms.specs.Promised.Label.{bool}
use Rattle.type_terms.specs.Promised.Trees.{Trees, none, tree, leaf, ◌+++◌, nth, sort_of, some_node, is_sort}
use Rattle.type_terms.specs.Promised.Worlds.{World, Reference, StructDecl, ImplDecl, structs_named}
use Rattle.type_terms.specs.Promised.Rules.{Rule, same_head, sized, clone, copy, tuple_trait, fn_ptr_trait, is_fn_trait, unsize, is_auto, is_coinductive, sized_rules, copy_rules, auto_rules, tuple_rules, fn_ptr_rules, unsize_to_dyn_rules, but_last, last_asked, principal_with, autos_with, are_declared, are_dyn_compatible, upcasts_autos, some_unsizing, with_unsizing, last_unsizes}
use Rattle.type_terms.specs.Promised.Answers.{is_open}
use Rattle.infer_table.specs.declared.canonical.CanonicalVarKind.{CanonicalVarKind}
use Rattle.infer_table.specs.declared.canonical.CanonicalVarKind.TheVariants.{Ty, Const, Region}
use Rattle.infer_table.specs.declared.certainty.Certainty.TheVariants.{Yes, Maybe}
use Rattle.infer_table.specs.declared.certainty.MaybeCause.TheVariants.{Ambiguity}
use Rattle.infer_table.specs.Values.{Value}
use Rattle.goal_evaluator.specs.declared.candidate.CandidateSource.{CandidateSource}
use Rattle.goal_evaluator.specs.declared.candidate.CandidateSource.TheVariants.{Impl, BuiltinImpl, ParamEnv, CoherenceUnknowable}
use Rattle.goal_evaluator.specs.declared.candidate.BuiltinImplSource.TheVariants.{Trivial, Misc, Object, TraitUpcasting}
use Rattle.goal_evaluator.specs.declared.candidate.ParamEnvSource.{ParamEnvSource}
use Rattle.goal_evaluator.specs.declared.candidate.ParamEnvSource.TheVariants.{Global, NonGlobal}
use Rattle.goal_evaluator.specs.Table.{workings}
use Rattle.goal_evaluator.specs.Candidate.{Spec}
use Rattle.goal_evaluator.specs.Instances.{put_in}
use Rattle.goal_evaluator.specs.FrameTables.{Nested, Equation}
use Rattle.goal_evaluator.specs.Tables.{frame_tables}
use Rattle.std.proofs.Math.Nat.{min-le_right}
use Rattle.type_terms.specs.declared.ImplId.{ImplId}
use Rattle.type_terms.specs.declared.TheConstants.{MAX_INDEX}
use Rattle.candidate_model.specs.Facts.{tree_of_reference}
use Rattle.declarations.specs.Promised.Elaboration.{elaborate, supertraits}
use Rattle.declarations.specs.Apart.{are_apart}
use Rattle.candidate_model.specs.Asking.{GoalOverKinds, self_of, next_of, begins_unknown, with_plain_head}

-- The handle of the impl with this number. Numbers of impls are in range.
abbrev pub impl_id : ℕ → ImplId
impl_id n = record { index = min n MAX_INDEX; in_range = min-le_right n MAX_INDEX }

abbrev pub Candidate : Type 0
Candidate = Spec (workings frame_tables)

-- ---- parts of candidates
-- A premise as a nested goal, with the goal's where-clauses. The flag says whether the step to it is coinductive.
abbrev pub premise : GoalOverKinds → Bool → Reference → Nested
premise a kind r = record { goal = record { environment = a.environment; predicate = tree_of_reference r none }; coinductive = kind }

abbrev pub first_value : Label → Trees → Value
first_value l c = record { sort = sort_of l; trees = tree l c none }

-- An equation without solutions.
abbrev pub never_met : Equation
never_met = record { left = first_value bool none; right = first_value char none }

-- Terms with the same index in both lists are equal, and the lists have one length.
abbrev pub all_equal : Trees → Trees → List Equation
all_equal (tree l c o) (tree m d p) = record { left = first_value l c; right = first_value m d } ∷ all_equal o p
all_equal none none = []
all_equal none (tree m d p) = never_met ∷ []
all_equal (tree l c o) none = never_met ∷ []

-- A certain candidate without variables of its own. Its premises are nested goals like the where-clauses of an impl.
abbrev pub by_rule : World → GoalOverKinds → CandidateSource → List Equation → List Reference → Candidate
by_rule V a source equations premises = record {
  source = source;
  kinds = [];
  equations = equations;
  regions = none;
  nested = map (premise a (is_coinductive V a.reference.trait)) premises;
  certainty = Yes;
}

-- The candidate with these constraints on lifetimes in addition. Nothing checks them.
abbrev pub recording : Trees → Candidate → Candidate
recording constraints c = record { source = c.source; kinds = c.kinds; equations = c.equations; regions = c.regions +++ constraints; nested = c.nested; certainty = c.certainty }

-- The ambiguous candidate, for a goal that cannot be decided.
abbrev pub unsure : Candidate
unsure = record { source = BuiltinImpl Misc; kinds = []; equations = []; regions = none; nested = []; certainty = Maybe Ambiguity }

-- The unknowable candidate: another crate may have an impl. Its premises are the goal's supertraits, which that impl has.
abbrev pub unknowable : World → GoalOverKinds → Candidate
unknowable V a = record {
  source = CoherenceUnknowable;
  kinds = [];
  equations = [];
  regions = none;
  nested = map (premise a false) (supertraits V a.reference);
  certainty = Maybe Ambiguity;
}

-- The trait reference r can be the goal's reference q: they are of one trait, and their arguments are not disjoint. rustc:
-- `fast_reject_assumption`, by `DeepRejectCtxt`.
abbrev pub can_be : Reference → Reference → Bool
can_be q r = (r.trait == q.trait) && not (are_apart q.args r.args)

-- ---- where-clauses
-- A where-clause is global if no parameter, variable or placeholder occurs in it, and no lifetime except `'static`.
abbrev pub clause_source : Reference → ParamEnvSource
clause_source r = if some_node is_open r.args then NonGlobal else Global

-- A candidate for each where-clause that can be the goal. It equates the two.
abbrev pub by_clauses : World → GoalOverKinds → List Reference → List Candidate
by_clauses V a [] = []
by_clauses V a (r ∷ rs) = if can_be a.reference r then by_rule V a (ParamEnv (clause_source r)) (all_equal a.reference.args r.args) [] ∷ by_clauses V a rs else by_clauses V a rs

-- ---- impls
-- The kind of an impl's parameter is that of its occurrences in the header. A parameter that does not occur there is a lifetime.
abbrev pub is_this_param : Sort → ℕ → Label → Bool
is_this_param k i (param s j) = is_sort k s && (i == j)
is_this_param k i l = false

abbrev pub kind_of_param : Trees → ℕ → CanonicalVarKind
kind_of_param header i = if some_node (is_this_param of_type i) header then Ty else if some_node (is_this_param of_const i) header then Const else Region

-- The kinds of n parameters, of which the first has the number i.
abbrev pub kinds_of_params : Trees → ℕ → ℕ → List CanonicalVarKind
kinds_of_params header i zero = []
kinds_of_params header i (suc n) = kind_of_param header i ∷ kinds_of_params header (suc i) n

-- The impl's parameters become canonical variables after the first n.
abbrev pub moved : ℕ → Label → Option Trees
moved n (param k i) = Some (leaf (canonical k (n + i)))
moved n l = None

abbrev pub rules_behind : ℕ → Reference → Reference
rules_behind n r = record { trait = r.trait; args = put_in (moved n) r.args }

abbrev pub by_the_impl : World → GoalOverKinds → ImplDecl → Candidate
by_the_impl V a i = record {
  source = Impl (impl_id i.name);
  kinds = kinds_of_params i.header.args zero i.params;
  equations = all_equal a.reference.args (rules_behind (length a.kinds) i.header).args;
  regions = none;
  nested = map (premise a (is_coinductive V a.reference.trait)) (map (rules_behind (length a.kinds)) i.clauses);
  certainty = Yes;
}

-- The impl's self type is a parameter, or it has the head of the goal's self type. rustc: `for_each_relevant_impl`.
abbrev pub is_relevant_to : Trees → Trees → Bool
is_relevant_to none header = false
is_relevant_to (tree l c o) header = same_head l header

-- The impl is relevant, and its arguments are not disjoint from the goal's. rustc: `DeepRejectCtxt`.
abbrev pub can_match : Trees → Trees → Bool
can_match args header = is_relevant_to (with_plain_head args) header && not (are_apart args header)

abbrev pub by_impls : World → GoalOverKinds → List ImplDecl → List Candidate
by_impls V a [] = []
by_impls V a (i ∷ is) = if (i.header.trait == a.reference.trait) && can_match a.reference.args i.header.args then by_the_impl V a i ∷ by_impls V a is else by_impls V a is

-- ---- built-in rules
-- Candidates by rules that depend on the goal's outermost types alone. They are the rule instances for the goal itself, without equations.
abbrev pub as_written : World → GoalOverKinds → CandidateSource → List Rule → List Candidate
as_written V a source [] = []
as_written V a source (u ∷ us) = by_rule V a source [] u.premises ∷ as_written V a source us

abbrev pub misc : CandidateSource
misc = BuiltinImpl Misc

abbrev pub if_so : {A : Type 0} → Bool → List A → List A
if_so true xs = xs
if_so false xs = []

abbrev pub by_sized : World → GoalOverKinds → List Candidate
by_sized V a = if_so (a.reference.trait == sized) (as_written V a (BuiltinImpl Trivial) (sized_rules V (self_of a)))

abbrev pub by_copy : World → GoalOverKinds → List Candidate
by_copy V a = if_so ((a.reference.trait == copy) || (a.reference.trait == clone)) (as_written V a misc (copy_rules a.reference.trait (self_of a)))

abbrev pub by_auto : World → GoalOverKinds → List Candidate
by_auto V a = if_so (is_auto V a.reference.trait) (as_written V a misc (auto_rules V a.reference.trait (self_of a)))

abbrev pub by_tuple : World → GoalOverKinds → List Candidate
by_tuple V a = if_so (a.reference.trait == tuple_trait) (as_written V a misc (tuple_rules (self_of a)))

abbrev pub by_fn_ptr : World → GoalOverKinds → List Candidate
by_fn_ptr V a = if_so (a.reference.trait == fn_ptr_trait) (as_written V a misc (fn_ptr_rules (self_of a)))

-- For `fn(T, U) -> R: FnOnce<A>` it equates `A` with `(T, U)`, and its premise is `R: Sized`.
abbrev pub call_of : World → GoalOverKinds → Trees → List Candidate
call_of V a (tree (fn_ptr n) types (tree l c others)) = by_rule V a misc (all_equal (tree tuple (but_last types) none) (tree l c none)) (last_asked sized types) ∷ []
call_of V a self = []

abbrev pub by_call : World → GoalOverKinds → List Candidate
by_call V a = if_so (is_fn_trait a.reference.trait) (call_of V a (self_of a))

-- ---- `Unsize`
-- For `[T; N]: Unsize<[U]>` it equates `T` with `U`.
abbrev pub unsize_array_of : World → GoalOverKinds → Trees → List Candidate
unsize_array_of V a (tree array (tree l c n) (tree slice (tree m d p) o)) = by_rule V a misc (all_equal (tree l c none) (tree m d none)) [] ∷ []
unsize_array_of V a args = []

abbrev pub upcast_source : ℕ → CandidateSource
upcast_source i = BuiltinImpl (TraitUpcasting i)

-- A candidate for each trait reference of the list that is of q's trait. It equates the two. The first index is i.
abbrev pub upcasts_from : World → GoalOverKinds → Reference → ℕ → List Reference → List Candidate
upcasts_from V a q i [] = []
upcasts_from V a q i (r ∷ rs) =
    if r.trait == q.trait then by_rule V a (upcast_source i) (all_equal r.args q.args) [] ∷ upcasts_from V a q (suc i) rs else upcasts_from V a q (suc i) rs

-- If the target has no principal, the principal is dropped. If both are of one trait, they are equated. In any other case the principal is
-- upcast to a supertrait.
abbrev pub upcasts_to : World → GoalOverKinds → List Reference → List Reference → List Candidate
upcasts_to V a ps [] = by_rule V a misc [] [] ∷ []
upcasts_to V a [] (q ∷ qs) = []
upcasts_to V a (p ∷ ps) (q ∷ qs) = if p.trait == q.trait then by_rule V a misc (all_equal p.args q.args) [] ∷ [] else upcasts_from V a q 1 (supertraits V p)

-- The candidates of `dyn A: Unsize<dyn B>`. Auto traits are compared by name alone.
abbrev pub upcasts_of : World → GoalOverKinds → Trees → List Candidate
upcasts_of V a (tree dynamic b (tree dynamic d o)) =
    let self = tree dynamic b none in
    if_so (are_declared V (principal_with self b) && upcasts_autos V (principal_with self b) (autos_with self b) (autos_with self d)) (upcasts_to V a (principal_with self b) (principal_with self d))
upcasts_of V a args = []

-- The candidate of `S<b>: Unsize<S<d>>`. The declaration determines which parameters are unsizing. The other arguments are equated. The
-- premise is that the last field unsizes.
abbrev pub unsize_by_struct : World → GoalOverKinds → Trees → Trees → StructDecl → List Candidate
unsize_by_struct V a b d x = if_so (some_unsizing x.fields 0 b) (by_rule V a misc (all_equal (with_unsizing x.fields 0 b d) d) (last_unsizes x.fields b d) ∷ [])

abbrev pub unsize_struct_of : World → GoalOverKinds → Trees → List Candidate
unsize_struct_of V a (tree (adt s) b (tree (adt u) d o)) = if_so (s == u) (flat_map (unsize_by_struct V a b d) (structs_named V s))
unsize_struct_of V a args = []

-- The candidates by rules of `Unsize`, if neither type is an inference variable. The premises of `T: Unsize<dyn B>` are that T has each
-- bound of `dyn B`, and `Sized`.
abbrev pub unsize_known : World → GoalOverKinds → Trees → List Candidate
unsize_known V a args = unsize_array_of V a args ++ (as_written V a misc (unsize_to_dyn_rules V args) ++ (upcasts_of V a args ++ unsize_struct_of V a args))

-- The last of the terms.
abbrev pub last_of : Trees → Trees
last_of none = none
last_of (tree l c none) = tree l c none
last_of (tree l c (tree m d o)) = last_of (tree m d o)

-- The lifetime of a `dyn`, if the first type is one. It comes after the bounds.
abbrev pub lifetime_of : Trees → Option Trees
lifetime_of (tree dynamic b o) = Some (last_of b)
lifetime_of t = None

-- The constraint that unsizing T records. If the target is a `dyn` with the lifetime 'b, it is `'a: 'b` for a `dyn` with 'a, and `T: 'b` for
-- any other type.
abbrev pub outlives : Trees → Option Trees → Option Trees → Trees
outlives T a None = none
outlives T (Some a) (Some b) = tree (predicate region_outlives) (a +++ b) none
outlives T None (Some b) = tree (predicate type_outlives) (T +++ b) none

-- The constraint for the self type and the target.
abbrev pub unsizing_outlives : Trees → Trees
unsizing_outlives args = outlives (nth args 0) (lifetime_of args) (lifetime_of (next_of args))

-- The candidates by rules of `Unsize`, with the constraint that they record.
abbrev pub unsize_recording : World → GoalOverKinds → List Candidate
unsize_recording V a = map (recording (unsizing_outlives a.reference.args)) (unsize_known V a (self_of a))

-- If the target is an inference variable, the only candidate is ambiguous.
abbrev pub by_unsize : World → GoalOverKinds → List Candidate
by_unsize V a = if_so (a.reference.trait == unsize) (if begins_unknown a.kinds (next_of (self_of a)) then unsure ∷ [] else unsize_recording V a)

abbrev pub built_in : World → GoalOverKinds → List Candidate
built_in V a = by_sized V a ++ (by_copy V a ++ (by_auto V a ++ (by_tuple V a ++ (by_fn_ptr V a ++ (by_call V a ++ by_unsize V a)))))

-- ---- object bounds
-- A candidate for each bound of the list that can be the goal. It equates the bound with the goal. Its premises are the goal's supertraits.
-- The first index is i.
abbrev pub bounds_from : World → GoalOverKinds → (ℕ → CandidateSource) → ℕ → List Reference → List Candidate
bounds_from V a source i [] = []
bounds_from V a source i (r ∷ rs) =
    if can_be a.reference r
    then by_rule V a (source i) (all_equal a.reference.args r.args) (supertraits V a.reference) ∷ bounds_from V a source (suc i) rs
    else bounds_from V a source (suc i) rs

abbrev pub object_source : ℕ → CandidateSource
object_source i = BuiltinImpl (Object i)

abbrev pub written_source : ℕ → CandidateSource
written_source i = misc

abbrev pub objects_of : World → GoalOverKinds → Trees → List Candidate
objects_of V a (tree dynamic bounds others) =
    let self = tree dynamic bounds none in
    if_so (are_dyn_compatible V (principal_with self bounds))
    (if_so (not (a.reference.trait == sized)) (bounds_from V a written_source 0 (autos_with self bounds))
    ++ if_so (not (a.reference.trait == sized)) (bounds_from V a object_source 0 (elaborate V (principal_with self bounds))))
objects_of V a self = []

abbrev pub by_objects : World → GoalOverKinds → List Candidate
by_objects V a = objects_of V a (self_of a)

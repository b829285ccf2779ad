-- A rule of the view that concludes a solution is a candidate: row by row.
use Rattle.std.proofs.Common.{◌≡◌, ℕ, Bool, true, false, ◌||◌, ◌==◌, if◌then◌else◌, List, [], ◌∷◌, ◌++◌, map, ◌⊎◌, inl, inr, refl, sym, ◌∙◌, ap, subst}
use Rattle.std.specs.List.{flat_map}
use Rattle.type_terms.specs.Promised.Label.{Label, of_type, param, placeholder, infer, canonical, bound, static}
use Rattle.type_terms.specs.Promised.Label.{value}
use Rattle.type_terms.specs.Promised.Trees.{Trees, tree, erase_label, is_sort, some_node}
use Rattle.type_terms.specs.Promised.Worlds.{World, Reference}
use Rattle.type_terms.specs.Promised.Rules.{Rule, rules, impl_rules, built_in_rules, plain_rules, sized, copy, clone, tuple_trait, fn_ptr_trait, is_fn_trait, unsize, is_auto, sized_rules, copy_rules, auto_rules, tuple_rules, fn_ptr_rules, call_rules, unsize_rules, object_rules}
use Rattle.type_terms.specs.Promised.Proofs.{In}
use Rattle.type_terms.specs.Promised.Proofs as Model
use Rattle.type_terms.specs.Promised.Answers.{is_closed, is_open}
use Rattle.type_terms.proofs.Members.{here, there, in-nothing, in-cases, in-append}
use Rattle.type_terms.proofs.Fitting.{child-shut}
use Rattle.type_terms.proofs.Walking.{right}
use Rattle.goal_evaluator.specs.Lists.{Every, SomeOf}
use Rattle.goal_evaluator.specs.declared.candidate.CandidateSource.{CandidateSource}
use Rattle.goal_evaluator.specs.declared.candidate.CandidateSource.TheVariants.{BuiltinImpl}
use Rattle.goal_evaluator.specs.declared.candidate.BuiltinImplSource.TheVariants.{Trivial}
use Rattle.goal_evaluator.specs.Instances.{read_with}
use Rattle.goal_evaluator.specs.Content.{Values, given}
use Rattle.candidate_model.specs.Declared.{is_declared_view}
use Rattle.candidate_model.specs.Asking.{GoalOverKinds, clauses, is_rigid, with_plain_head, self_of}
use Rattle.candidate_model.specs.Candidates.{Candidate, premise, by_rule, as_written, unsure, misc, if_so, by_clauses, built_in, by_sized, by_copy, by_auto, by_tuple, by_fn_ptr, by_call, by_unsize, by_impls, by_objects}
use Rattle.candidate_model.specs.Solver.{IsSolution}
use Rattle.candidate_model.specs.Cover.{slots, nested_at, SolvesEquations, all_candidates}
use Rattle.candidate_model.proofs.Reading.{read_reference}
use Rattle.candidate_model.proofs.Supers.{Proved, open-none}
use Rattle.candidate_model.proofs.HavingViews.{LeadsOn}
use Rattle.candidate_model.proofs.Rows.{read_rule, sized-natural, copy-natural, auto-natural, tuple-natural, fn-ptr-natural}
use Rattle.type_terms.proofs.BooleanBasics.{true-false}

-- ---- lists
pub some-left : {A : Type 0} (P : A → Type 0) (xs ys : List A) → SomeOf P xs → SomeOf P (xs ++ ys)
some-left P [] ys s = absurd s
some-left P (x ∷ xs) ys (inl p) = inl p
some-left P (x ∷ xs) ys (inr s) = inr (some-left P xs ys s)

pub some-right : {A : Type 0} (P : A → Type 0) (xs ys : List A) → SomeOf P ys → SomeOf P (xs ++ ys)
some-right P [] ys s = s
some-right P (x ∷ xs) ys s = inr (some-right P xs ys s)

-- a type whose head is known is read with its head
pub rigid-read : (xs : List Trees) (l : Label) (c o : Trees) → is_rigid l ≡ true → read_with (given xs) (tree l c o) ≡ tree (erase_label l) (read_with (given xs) c) (read_with (given xs) o)
rigid-read xs (param s i) c o r = absurd (true-false (sym (right (is_sort s of_type) false r)))
rigid-read xs (placeholder s i) c o r = absurd (true-false (sym (right (is_sort s of_type) false r)))
rigid-read xs (infer s i) c o r = absurd (true-false (sym (right (is_sort s of_type) false r)))
rigid-read xs (canonical s i) c o r = absurd (true-false (sym (right (is_sort s of_type) false r)))
rigid-read xs (bound s k i) c o r = absurd (true-false (sym (right (is_sort s of_type) false r)))
rigid-read xs static c o r = absurd (true-false (sym r))
rigid-read xs (value n) c o r = absurd (true-false (sym r))
rigid-read xs l c o r = refl

pub rigid-head : (l : Label) → is_rigid l ≡ true → is_rigid (erase_label l) ≡ true
rigid-head (param s i) r = absurd (true-false (sym (right (is_sort s of_type) false r)))
rigid-head (placeholder s i) r = absurd (true-false (sym (right (is_sort s of_type) false r)))
rigid-head (infer s i) r = absurd (true-false (sym (right (is_sort s of_type) false r)))
rigid-head (canonical s i) r = absurd (true-false (sym (right (is_sort s of_type) false r)))
rigid-head (bound s k i) r = absurd (true-false (sym (right (is_sort s of_type) false r)))
rigid-head l r = r

-- each premise of a rule that concludes what is closed is closed
pub premises-proved : (V : World) (H : Reference → Type 0) → LeadsOn V → (r : Reference) (u : Rule) → is_closed r.args ≡ true → In u (rules V [] r) → (ps : List Reference) → ((p : Reference) → In p ps → In p u.premises) → Model.Every H ps → Every (Proved H) ps
premises-proved V H l r u z i [] among e = tt
premises-proved V H l r u z i (p ∷ ps) among e = ((l.shut r u z i p (among p (here p ps)), e.0), premises-proved V H l r u z i ps (λ q j. among q (there q p ps j)) e.1)

module _ (H : Reference → Type 0) (V : World) (declared : is_declared_view V ≡ true) (a : GoalOverKinds) (v : Values) where
  abbrev xs : List Trees
  xs = slots a.kinds v []

  abbrev Given : List Candidate → Type 0
  Given cs = SomeOf (SolvesEquations H a.kinds v) cs

  gives-rule : (source : CandidateSource) (ps : List Reference) → Every (Proved H) (map (read_reference xs) ps) → SolvesEquations H a.kinds v (by_rule V a source [] ps)
  gives-rule source ps e = record { own = []; sorted = refl; equal = tt; solves = each ps e }
    where
      each : (qs : List Reference) → Every (Proved H) (map (read_reference xs) qs) → Every (λ n. IsSolution H (nested_at xs n)) (map (premise a (Rattle.type_terms.specs.Promised.Rules.is_coinductive V a.reference.trait)) qs)
      each [] f = tt
      each (q ∷ qs) f = (record { asks = refl; proper = refl; closed = f.0.0; proof = f.0.1 }, each qs f.1)

  -- a rule of an instance is the candidate of the rule of what is asked
  pub written : (source : CandidateSource) (us : List Rule) (u : Rule) → In u (map (read_rule V declared xs) us) → Every (Proved H) u.premises → Given (as_written V a source us)
  written source [] u i e = absurd (in-nothing u i)
  written source (x ∷ us) u i e = by (in-cases u (read_rule V declared xs x) (map (read_rule V declared xs) us) i) (λ j. written source us u j e)
    where
      by : (read_rule V declared xs x ≡ u) ⊎ In u (map (read_rule V declared xs) us) → (In u (map (read_rule V declared xs) us) → Given (as_written V a source us)) → Given (as_written V a source (x ∷ us))
      by (inl q) go = inl (gives-rule source x.premises (subst (λ (z : Rule). Every (Proved H) z.premises) (sym q) e))
      by (inr j) go = inr (go j)

  -- a row that stands under a test
  under : (b : Bool) (source : CandidateSource) (here there : List Rule) (u : Rule) → here ≡ map (read_rule V declared xs) there → In u (if b then here else []) → Every (Proved H) u.premises → Given (if_so b (as_written V a source there))
  under true source here there u n i e = written source there u (subst (λ z. In u z) n i) e
  under false source here there u n i e = absurd (in-nothing u i)

  -- the rows that are left: impls, calls, `Unsize` and object bounds
  pub record OtherRows : Type 0 where
    pub impls : (u : Rule) → In u (flat_map (impl_rules (read_reference xs a.reference)) V.impls) → Every (Proved H) u.premises → Given (by_impls V a V.impls)
    pub calls : (u : Rule) → In u (if is_fn_trait a.reference.trait then call_rules (read_with (given xs) a.reference.args) else []) → Every (Proved H) u.premises → Given (by_call V a)
    pub unsizes : (u : Rule) → In u (if a.reference.trait == unsize then unsize_rules V (read_with (given xs) a.reference.args) else []) → Every (Proved H) u.premises → Given (by_unsize V a)
    pub objects : (u : Rule) → In u (object_rules V (read_reference xs a.reference) (read_with (given xs) a.reference.args)) → Every (Proved H) u.premises → Given (by_objects V a)

  pub unsure-gives : SolvesEquations H a.kinds v unsure
  unsure-gives = record { own = []; sorted = refl; equal = tt; solves = tt }

  module _ (l : Label) (c o : Trees) (args_are : a.reference.args ≡ tree l c o) (rigid : is_rigid l ≡ true) (closed : is_closed (read_with (given xs) a.reference.args) ≡ true) (other : OtherRows) where
    k : Label
    k = erase_label l

    self-is : self_of a ≡ tree (erase_label l) c o
    self-is = ap with_plain_head args_are

    read-is : read_with (given xs) a.reference.args ≡ tree (erase_label l) (read_with (given xs) c) (read_with (given xs) o)
    read-is = ap (read_with (given xs)) args_are ∙ rigid-read xs l c o rigid

    inner : some_node is_open (read_with (given xs) c) ≡ false
    inner = child-shut is_open (erase_label l) (read_with (given xs) c) (read_with (given xs) o) (subst (λ t. some_node is_open t ≡ false) read-is (open-none (read_with (given xs) a.reference.args) closed))

    -- a natural row, over the goal as it is asked
    at-self : (F : Trees → List Rule) → F (tree (erase_label l) (read_with (given xs) c) (read_with (given xs) o)) ≡ map (read_rule V declared xs) (F (tree (erase_label l) c o)) → F (read_with (given xs) a.reference.args) ≡ map (read_rule V declared xs) (F (self_of a))
    at-self F n = ap F read-is ∙ n ∙ sym (ap (λ t. map (read_rule V declared xs) (F t)) self-is)

    abbrev row_list : Bool → (Trees → List Rule) → List Rule
    row_list b F = if b then F (read_with (given xs) a.reference.args) else []

    by-plain : (u : Rule) → In u (plain_rules (read_reference xs a.reference)) → Every (Proved H) u.premises → Given (built_in V a)
    by-plain u i e = first (in-append u copies (tuples ++ (fn_ptrs ++ calls)) i)
      where
        copies : List Rule
        copies = row_list ((a.reference.trait == copy) || (a.reference.trait == clone)) (copy_rules a.reference.trait)

        tuples : List Rule
        tuples = row_list (a.reference.trait == tuple_trait) tuple_rules

        fn_ptrs : List Rule
        fn_ptrs = row_list (a.reference.trait == fn_ptr_trait) fn_ptr_rules

        calls : List Rule
        calls = row_list (is_fn_trait a.reference.trait) call_rules

        after-sized : Given (by_copy V a ++ (by_auto V a ++ (by_tuple V a ++ (by_fn_ptr V a ++ (by_call V a ++ by_unsize V a))))) → Given (built_in V a)
        after-sized s = some-right (SolvesEquations H a.kinds v) (by_sized V a) (by_copy V a ++ (by_auto V a ++ (by_tuple V a ++ (by_fn_ptr V a ++ (by_call V a ++ by_unsize V a))))) s

        after-auto : Given (by_tuple V a ++ (by_fn_ptr V a ++ (by_call V a ++ by_unsize V a))) → Given (built_in V a)
        after-auto s =
            after-sized (some-right (SolvesEquations H a.kinds v) (by_copy V a) (by_auto V a ++ (by_tuple V a ++ (by_fn_ptr V a ++ (by_call V a ++ by_unsize V a))))
            (some-right (SolvesEquations H a.kinds v) (by_auto V a) (by_tuple V a ++ (by_fn_ptr V a ++ (by_call V a ++ by_unsize V a))) s))

        third : In u fn_ptrs ⊎ In u calls → Given (built_in V a)
        third (inl j) =
            after-auto (some-right (SolvesEquations H a.kinds v) (by_tuple V a) (by_fn_ptr V a ++ (by_call V a ++ by_unsize V a))
            (some-left (SolvesEquations H a.kinds v) (by_fn_ptr V a) (by_call V a ++ by_unsize V a)
            (under (a.reference.trait == fn_ptr_trait) misc (fn_ptr_rules (read_with (given xs) a.reference.args)) (fn_ptr_rules (self_of a)) u (at-self fn_ptr_rules (fn-ptr-natural V declared xs (erase_label l) c o)) j e)))
        third (inr j) =
            after-auto (some-right (SolvesEquations H a.kinds v) (by_tuple V a) (by_fn_ptr V a ++ (by_call V a ++ by_unsize V a))
            (some-right (SolvesEquations H a.kinds v) (by_fn_ptr V a) (by_call V a ++ by_unsize V a) (some-left (SolvesEquations H a.kinds v) (by_call V a) (by_unsize V a) (other.calls u j e))))

        second : In u tuples ⊎ In u (fn_ptrs ++ calls) → Given (built_in V a)
        second (inl j) =
            after-auto (some-left (SolvesEquations H a.kinds v) (by_tuple V a) (by_fn_ptr V a ++ (by_call V a ++ by_unsize V a))
            (under (a.reference.trait == tuple_trait) misc (tuple_rules (read_with (given xs) a.reference.args)) (tuple_rules (self_of a)) u (at-self tuple_rules (tuple-natural V declared xs (erase_label l) c o)) j e))
        second (inr j) = third (in-append u fn_ptrs calls j)

        first : In u copies ⊎ In u (tuples ++ (fn_ptrs ++ calls)) → Given (built_in V a)
        first (inl j) =
            after-sized (some-left (SolvesEquations H a.kinds v) (by_copy V a) (by_auto V a ++ (by_tuple V a ++ (by_fn_ptr V a ++ (by_call V a ++ by_unsize V a))))
            (under ((a.reference.trait == copy) || (a.reference.trait == clone)) misc (copy_rules a.reference.trait (read_with (given xs) a.reference.args)) (copy_rules a.reference.trait (self_of a)) u
            (at-self (copy_rules a.reference.trait) (copy-natural V declared xs a.reference.trait (erase_label l) c o)) j e))
        first (inr j) = second (in-append u tuples (fn_ptrs ++ calls) j)

    by-built-in : (u : Rule) → In u (built_in_rules V (read_reference xs a.reference)) → Every (Proved H) u.premises → Given (built_in V a) ⊎ Given (by_objects V a)
    by-built-in u i e = first (in-append u (plain_rules (read_reference xs a.reference)) (sizeds ++ (autos ++ (unsizes ++ objects))) i)
      where
        sizeds : List Rule
        sizeds = row_list (a.reference.trait == sized) (sized_rules V)

        autos : List Rule
        autos = row_list (is_auto V a.reference.trait) (auto_rules V a.reference.trait)

        unsizes : List Rule
        unsizes = row_list (a.reference.trait == unsize) (unsize_rules V)

        objects : List Rule
        objects = object_rules V (read_reference xs a.reference) (read_with (given xs) a.reference.args)

        fourth : In u unsizes ⊎ In u objects → Given (built_in V a) ⊎ Given (by_objects V a)
        fourth (inl j) =
            inl (some-right (SolvesEquations H a.kinds v) (by_sized V a) (by_copy V a ++ (by_auto V a ++ (by_tuple V a ++ (by_fn_ptr V a ++ (by_call V a ++ by_unsize V a)))))
            (some-right (SolvesEquations H a.kinds v) (by_copy V a) (by_auto V a ++ (by_tuple V a ++ (by_fn_ptr V a ++ (by_call V a ++ by_unsize V a))))
            (some-right (SolvesEquations H a.kinds v) (by_auto V a) (by_tuple V a ++ (by_fn_ptr V a ++ (by_call V a ++ by_unsize V a)))
            (some-right (SolvesEquations H a.kinds v) (by_tuple V a) (by_fn_ptr V a ++ (by_call V a ++ by_unsize V a))
            (some-right (SolvesEquations H a.kinds v) (by_fn_ptr V a) (by_call V a ++ by_unsize V a) (some-right (SolvesEquations H a.kinds v) (by_call V a) (by_unsize V a) (other.unsizes u j e)))))))
        fourth (inr j) = inr (other.objects u j e)

        third : In u autos ⊎ In u (unsizes ++ objects) → Given (built_in V a) ⊎ Given (by_objects V a)
        third (inl j) =
            inl (some-right (SolvesEquations H a.kinds v) (by_sized V a) (by_copy V a ++ (by_auto V a ++ (by_tuple V a ++ (by_fn_ptr V a ++ (by_call V a ++ by_unsize V a)))))
            (some-right (SolvesEquations H a.kinds v) (by_copy V a) (by_auto V a ++ (by_tuple V a ++ (by_fn_ptr V a ++ (by_call V a ++ by_unsize V a))))
            (some-left (SolvesEquations H a.kinds v) (by_auto V a) (by_tuple V a ++ (by_fn_ptr V a ++ (by_call V a ++ by_unsize V a)))
            (under (is_auto V a.reference.trait) misc (auto_rules V a.reference.trait (read_with (given xs) a.reference.args)) (auto_rules V a.reference.trait (self_of a)) u
            (at-self (auto_rules V a.reference.trait) (auto-natural V declared xs a.reference.trait (erase_label l) c o (rigid-head l rigid) inner)) j e))))
        third (inr j) = fourth (in-append u unsizes objects j)

        second : In u sizeds ⊎ In u (autos ++ (unsizes ++ objects)) → Given (built_in V a) ⊎ Given (by_objects V a)
        second (inl j) =
            inl (some-left (SolvesEquations H a.kinds v) (by_sized V a) (by_copy V a ++ (by_auto V a ++ (by_tuple V a ++ (by_fn_ptr V a ++ (by_call V a ++ by_unsize V a)))))
            (under (a.reference.trait == sized) (BuiltinImpl Trivial) (sized_rules V (read_with (given xs) a.reference.args)) (sized_rules V (self_of a)) u
            (at-self (sized_rules V) (sized-natural V declared xs (erase_label l) c o (rigid-head l rigid) inner)) j e))
        second (inr j) = third (in-append u autos (unsizes ++ objects) j)

        first : In u (plain_rules (read_reference xs a.reference)) ⊎ In u (sizeds ++ (autos ++ (unsizes ++ objects))) → Given (built_in V a) ⊎ Given (by_objects V a)
        first (inl j) = inl (by-plain u j e)
        first (inr j) = second (in-append u sizeds (autos ++ (unsizes ++ objects)) j)

    -- a rule of the view is a candidate
    pub by-view : (u : Rule) → In u (rules V [] (read_reference xs a.reference)) → Every (Proved H) u.premises → Given (all_candidates V a)
    by-view u i e = first (in-append u impls (built_in_rules V (read_reference xs a.reference) ++ []) i)
      where
        impls : List Rule
        impls = flat_map (impl_rules (read_reference xs a.reference)) V.impls

        after : Given (built_in V a ++ (by_impls V a V.impls ++ by_objects V a)) → Given (all_candidates V a)
        after s = some-right (SolvesEquations H a.kinds v) (by_clauses V a (clauses a)) (built_in V a ++ (by_impls V a V.impls ++ by_objects V a)) s

        third : Given (built_in V a) ⊎ Given (by_objects V a) → Given (all_candidates V a)
        third (inl s) = after (some-left (SolvesEquations H a.kinds v) (built_in V a) (by_impls V a V.impls ++ by_objects V a) s)
        third (inr s) = after (some-right (SolvesEquations H a.kinds v) (built_in V a) (by_impls V a V.impls ++ by_objects V a) (some-right (SolvesEquations H a.kinds v) (by_impls V a V.impls) (by_objects V a) s))

        second : In u (built_in_rules V (read_reference xs a.reference)) ⊎ In u [] → Given (all_candidates V a)
        second (inl j) = third (by-built-in u j e)
        second (inr j) = absurd (in-nothing u j)

        first : In u impls ⊎ In u (built_in_rules V (read_reference xs a.reference) ++ []) → Given (all_candidates V a)
        first (inl j) =
            after (some-right (SolvesEquations H a.kinds v) (built_in V a) (by_impls V a V.impls ++ by_objects V a) (some-left (SolvesEquations H a.kinds v) (by_impls V a V.impls) (by_objects V a) (other.impls u j e)))
        first (inr j) = second (in-append u (built_in_rules V (read_reference xs a.reference)) [] j)

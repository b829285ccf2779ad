-- The candidates by built-in rules, rule after rule.
use Rattle.std.specs.Prelude.{◌≡◌, ℕ, Bool, ◌||◌, ◌==◌, List, [], ◌∷◌, ◌++◌, Option, Some, None, option_map}
use Rattle.std.specs.List.{slice_get}
use Rattle.type_terms.specs.Promised.Worlds.{World}
use Rattle.type_terms.specs.Promised.Rules.{sized, clone, copy, tuple_trait, fn_ptr_trait, is_fn_trait, is_auto}
use Rattle.type_terms.specs.Promised.Handles.{Entry}
use Rattle.goal_evaluator.specs.declared.candidate.CandidateSpec.{CandidateSpec}
use Rattle.candidate_model.specs.Asking.{GoalOverKinds}
use Rattle.candidate_model.specs.Candidates.{Candidate, if_so, by_unsize}
use Rattle.built_in_candidates.specs.declared.built_in_rules.BuiltInRule.{BuiltInRule}
use Rattle.built_in_candidates.specs.declared.built_in_rules.BuiltInRule.TheVariants.{«Sized» as RSized, CopyClone, AutoTrait, «Tuple» as RTuple, FnPtr, Calls}
use Rattle.built_in_candidates.specs.BuiltIn.{sized_candidates, copy_candidates, auto_candidates, tuple_candidates, fn_ptr_candidates}
use Rattle.built_in_candidates.specs.FnPointers.{call_candidates}
use Rattle.built_in_candidates.specs.Goals.{candidate_of}
use Rattle.built_in_candidates.specs.Constituents.{candidates_of}

-- The rule is one of the trait t.
abbrev pub speaks_of : World → ℕ → BuiltInRule → Bool
speaks_of V t RSized = t == sized
speaks_of V t CopyClone = (t == copy) || (t == clone)
speaks_of V t AutoTrait = is_auto V t
speaks_of V t RTuple = t == tuple_trait
speaks_of V t FnPtr = t == fn_ptr_trait
speaks_of V t Calls = is_fn_trait t

-- The candidates by the rule. The goal's trait is not looked at here.
abbrev pub of_rule : World → GoalOverKinds → BuiltInRule → List Candidate
of_rule V a RSized = sized_candidates V a
of_rule V a CopyClone = copy_candidates V a
of_rule V a AutoTrait = auto_candidates V a
of_rule V a RTuple = tuple_candidates V a
of_rule V a FnPtr = fn_ptr_candidates V a
of_rule V a Calls = call_candidates V a

-- The candidates by the rule if it is one of the goal's trait, and none in any other case.
abbrev pub by_the_rule : World → GoalOverKinds → BuiltInRule → List Candidate
by_the_rule V a r = if_so (speaks_of V a.reference.trait r) (of_rule V a r)

-- The candidates by these rules, followed by those by the rule of `Unsize`.
abbrev pub by_rules : World → GoalOverKinds → List BuiltInRule → List Candidate
by_rules V a [] = by_unsize V a
by_rules V a (r ∷ rs) = by_the_rule V a r ++ by_rules V a rs

-- There may be a first candidate, and others follow it. An index among all of them is either that of the first candidate (`None`), or it
-- gives an index among the others.
abbrev pub IsBehind : Option CandidateSpec → ℕ → Option ℕ → Type 0
IsBehind o n (Some m) = (V : World) (t : ℕ) (es : List Entry) (others : List Candidate) → slice_get (candidates_of V t es o ++ others) n ≡ slice_get others m
IsBehind o n None = (V : World) (t : ℕ) (es : List Entry) (others : List Candidate) → slice_get (candidates_of V t es o ++ others) n ≡ option_map (candidate_of V t es) o

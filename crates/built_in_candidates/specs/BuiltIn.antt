-- The candidates by built-in rules that depend on the self type alone. The goal's trait is not looked at here.
use Rattle.std.specs.Prelude.{◌≡◌, List}
use Rattle.type_terms.specs.Promised.Worlds.{World}
use Rattle.type_terms.specs.Promised.Rules.{sized_rules, copy_rules, auto_rules, tuple_rules, fn_ptr_rules}
use Rattle.type_terms.specs.Promised.Handles.{Entry, trees_at}
use Rattle.goal_evaluator.specs.declared.candidate.CandidateSource.TheVariants.{BuiltinImpl}
use Rattle.goal_evaluator.specs.declared.candidate.BuiltinImplSource.TheVariants.{Trivial}
use Rattle.declarations.specs.Items.{Items}
use Rattle.declarations.specs.Promised.Elaboration.{Each}
use Rattle.candidate_model.specs.Asking.{GoalOverKinds, self_of, with_plain_head}
use Rattle.candidate_model.specs.Candidates.{Candidate, as_written, misc}

-- By the rule of `Sized`.
abbrev pub sized_candidates : World → GoalOverKinds → List Candidate
sized_candidates V a = as_written V a (BuiltinImpl Trivial) (sized_rules V (self_of a))

-- By the rule of `Copy` and `Clone`.
abbrev pub copy_candidates : World → GoalOverKinds → List Candidate
copy_candidates V a = as_written V a misc (copy_rules a.reference.trait (self_of a))

-- By the rule of auto traits.
abbrev pub auto_candidates : World → GoalOverKinds → List Candidate
auto_candidates V a = as_written V a misc (auto_rules V a.reference.trait (self_of a))

-- By the rule of `Tuple`.
abbrev pub tuple_candidates : World → GoalOverKinds → List Candidate
tuple_candidates V a = as_written V a misc (tuple_rules (self_of a))

-- By the rule of `FnPtr`.
abbrev pub fn_ptr_candidates : World → GoalOverKinds → List Candidate
fn_ptr_candidates V a = as_written V a misc (fn_ptr_rules (self_of a))

-- No self type of an impl has a binder of lifetimes at its head.
abbrev pub HavePlainHeads : List Entry → Items → Type 0
HavePlainHeads es d = Each (λ i. with_plain_head (trees_at es i.def.header.args.0) ≡ trees_at es i.def.header.args.0) d.impls

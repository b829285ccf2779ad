use Rattle.std.proofs.Common.{◌≡◌, ◌≤◌, ℕ, length}
use Rattle.search_paths.specs.declared.path_kind.PathKind.{PathKind}
use Rattle.search_paths.specs.Usages.{sticking_sum, usage_count}
use Rattle.search_paths.proofs.UsageFacts.{entry_count, AllFit, AreApart}
use Rattle.indexmap.specs.IndexMap.{spare}
use Rattle.search_paths.proofs.head_usages.CandidateHeadUsages.merge_usages.Given as goal

abbrev pub invariant-loop-head : goal.invariant-loop-head
invariant-loop-head l = record {
  can : (goal.iterator-loop-head).can_next l.head-iterator;
  finite : (goal.iterator-loop-head).is_finite l.head-iterator;
  sums : (head : ℕ) (kind : PathKind) → sticking_sum (entry_count l.self-inside.usages.entries head kind) (entry_count l.head-iterator head kind) ≡ sticking_sum (usage_count l.fn.self head kind) (usage_count l.fn.other head kind);
  fit : AllFit l.self-inside.usages.entries;
  apart : AreApart l.head-iterator;
  room : length l.head-iterator ≤ spare l.self-inside.usages;
}

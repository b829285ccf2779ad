use Rattle.std.proofs.Common.{◌≡◌, length}
use Rattle.std.specs.List.{slice_get}
use Rattle.type_terms.specs.Growth.{Grew}
use Rattle.declarations.specs.Items.{written}
use Rattle.candidate_model.specs.Candidates.{built_in}
use Rattle.built_in_candidates.specs.Goals.{asked_of}
use Rattle.built_in_candidates.specs.BuiltInRules.{by_rules}
use Rattle.built_in_candidates.proofs.built_in_rules.consider_builtin_candidate.Given as goal

abbrev pub invariant-rules : goal.invariant-rules
invariant-rules l = record {
  grew : Grew l.fn.cx l.cx;
  at : slice_get (by_rules (written l.fn.cx.entries l.fn.declarations) (asked_of l.fn.cx.entries l.fn.goal) l.left) l.before ≡ slice_get (built_in (written l.fn.cx.entries l.fn.declarations) (asked_of l.fn.cx.entries l.fn.goal)) l.fn.place;
}

abbrev pub decreases-rules : goal.decreases-rules
decreases-rules l = length l.left

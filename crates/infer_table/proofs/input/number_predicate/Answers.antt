use Rattle.std.proofs.Common.{◌≡◌, false, true, ap, sym, ◌∙◌}
use Rattle.std.specs.Prelude.{Result, Ok, Err, IfOk}
use Rattle.type_terms.specs.Promised.Handles.{trees_at}
use Rattle.type_terms.specs.declared.Fault.{Fault}
use Rattle.infer_table.specs.Canonical.{canonical_label}
use Rattle.infer_table.specs.Goals.{predicate_trees}
use Rattle.infer_table.specs.Leaves.{labels, are_closed_flags, is_closed_by}
use Rattle.infer_table.proofs.ClosedFacts.{closed-stays}
use Rattle.infer_table.proofs.Numbers.{predicate-numbered}
use Rattle.type_terms.proofs.FailFacts.{fold-at-limit}
use Rattle.infer_table.proofs.input.number_predicate.Goals as goal
use Rattle.type_terms.proofs.ListBasics.{head}

from-both : {T : Type 0} {P Q R : T → Type 0} (r : Result T Fault) → IfOk r P → IfOk r Q → ((x : T) → P x → Q x → R x) → IfOk r R
from-both (Ok x) h g f = f x h g
from-both (Err e) h g f = tt

pub returns-then-is_closed-clause-numbered : goal.returns-then-is_closed-clause-numbered
returns-then-is_closed-clause-numbered c =
    let es = c.args.cx.now.entries in
    let p = c.args.predicate in
    let closed : is_closed_by false (predicate_trees es p) ≡ true = sym (c.if-is_closed.ensures ∙ ap (are_closed_flags false) c.flags.ensures) in
    sym (closed-stays false (canonical_label (labels es c.args.leaves.now.keys)) (predicate_trees es p) closed)

pub returns-clause-numbered : goal.returns-clause-numbered
returns-clause-numbered c =
    let es = c.args.cx.now.entries in
    let now = c.fold_with.new.cx.entries in
    let p = c.args.predicate.trait_ref in
    from-both c.fold_with.result c.fold_with.ensures.outline c.fold_with.ensures.folded
    (λ q o f. predicate-numbered (labels es c.args.leaves.now.keys) p.def_id.index q.trait_ref.def_id.index (trees_at es p.args.0) (trees_at now q.trait_ref.args.0) (head _ _ o) f)

pub returns-clause-terms : goal.returns-clause-terms
returns-clause-terms c = record {
  grew = c.fold_with.ensures.grew;
  full = fold-at-limit c.fold_with.result c.fold_with.ensures.full;
}

use Rattle.std.proofs.Common.{◌≡◌, ap, sym, ◌∙◌, subst}
use Rattle.infer_table.specs.Canonical.{renamed, canonical_label}
use Rattle.infer_table.specs.Goals.{environment_trees, predicate_trees, goal_trees}
use Rattle.infer_table.specs.Values.{values-later}
use Rattle.infer_table.specs.Leaves.{labels, AreLeaves, AreOpen}
use Rattle.infer_table.specs.LeafLaws.{leaves-later, labels-later}
use Rattle.infer_table.proofs.Collections.{goal-open}
use Rattle.infer_table.proofs.LeafFacts.{leaves-held}
use Rattle.infer_table.proofs.Returning.{goal-filled-cong, goal-returned}
use Rattle.infer_table.proofs.input.canonicalize_resolved.Goals as goal

pub variable_kinds-requires-clause-open : goal.variable_kinds-requires-clause-open
variable_kinds-requires-clause-open c =
    let es = c.args.cx.now.entries in
    let same : c.deref.result.now ≡ c.in_ok-collected.collected.leaves.keys = c.deref.ensures.value ∙ c.in_ok-values.ensures.items ∙ c.as_slice.ensures.keys in
    subst AreOpen (sym (ap (labels es) same ∙ c.in_ok-collected.ensures.leaves)) (goal-open (environment_trees es c.args.goal.now.param_env.items) (predicate_trees es c.args.goal.now.predicate))

pub returns-clause-held : goal.returns-clause-held
returns-clause-held c =
    let es = c.args.cx.now.entries in
    let same : c.in_ok-values.values.items ≡ c.in_ok-collected.collected.leaves.keys = c.in_ok-values.ensures.items ∙ c.as_slice.ensures.keys in
    leaves-later es c.number_leaves.new.cx.entries c.number_leaves.ensures.terms.grew.keeps c.in_ok-values.values.items (subst (AreLeaves es) (sym same) c.in_ok-collected.ensures.listed)

pub returns-clause-values : goal.returns-clause-values
returns-clause-values c =
    let es = c.args.cx.now.entries in
    let same : c.in_ok-values.values.items ≡ c.in_ok-collected.collected.leaves.keys = c.in_ok-values.ensures.items ∙ c.as_slice.ensures.keys in
    labels-later es c.number_leaves.new.cx.entries c.number_leaves.ensures.terms.grew.keeps c.in_ok-values.values.items (subst (AreLeaves es) (sym same) c.in_ok-collected.ensures.listed)
    ∙ ap (labels es) same ∙ c.in_ok-collected.ensures.leaves

pub returns-clause-args : goal.returns-clause-args
returns-clause-args c =
    let es = c.args.cx.now.entries in
    let same : c.in_ok-values.values.items ≡ c.in_ok-collected.collected.leaves.keys = c.in_ok-values.ensures.items ∙ c.as_slice.ensures.keys in
    leaves-held c.number_leaves.new.cx.entries c.in_ok-values.values.items
    (leaves-later es c.number_leaves.new.cx.entries c.number_leaves.ensures.terms.grew.keeps c.in_ok-values.values.items (subst (AreLeaves es) (sym same) c.in_ok-collected.ensures.listed))

pub returns-clause-back : goal.returns-clause-back
returns-clause-back c = λ n.
    let es = c.args.cx.now.entries in
    let end = c.number_leaves.new.cx.entries in
    let xs = c.in_ok-values.values.items in
    let same : xs ≡ c.in_ok-collected.collected.leaves.keys = c.in_ok-values.ensures.items ∙ c.as_slice.ensures.keys in
    let listed : AreLeaves es xs = subst (AreLeaves es) (sym same) c.in_ok-collected.ensures.listed in
    let g = goal_trees es c.args.goal.now in
    goal-filled-cong _ _ _ _ (values-later es end c.number_leaves.ensures.terms.grew.keeps xs (leaves-held es xs listed)) (c.in_ok-goal.ensures.numbered ∙ ap (λ ks. renamed (canonical_label (labels es ks)) g) (sym same))
    ∙ goal-returned es c.lawful.ensures xs g listed (ap (labels es) same ∙ c.in_ok-collected.ensures.leaves) n c.in_ok-collected.ensures.only

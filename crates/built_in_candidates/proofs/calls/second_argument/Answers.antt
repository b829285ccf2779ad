use Rattle.std.proofs.Common.{sym, ◌∙◌, subst}
use Rattle.type_terms.specs.Terms.{args_lists}
use Rattle.type_terms.specs.Kinds.{args_trees}
use Rattle.type_terms.specs.Kept.{trees-is}
use Rattle.term_folds.proofs.ParamFacts.{copied-get}
use Rattle.candidate_model.specs.Asking.{next_of}
use Rattle.built_in_candidates.specs.FnPointers.{IsFirst}
use Rattle.built_in_candidates.proofs.FnPointers.{second-first}
use Rattle.built_in_candidates.proofs.calls.second_argument.Goals as goal

pub returns : goal.returns
returns c =
    let es = c.args.cx.now.entries in
    let xs = c.args-2.result.now in
    let same = c.copied.ensures ∙ copied-get xs 1 c.get.result c.get.ensures.lookup.0 c.get.ensures.lookup.1 in
    let list = trees-is es args_lists c.args.args.0 _ c.args-2.ensures.is in
    subst (λ t. IsFirst es (next_of t) c.copied.result) (sym list) (subst (IsFirst es (next_of (args_trees es xs))) (sym same) (second-first es c.lawful.ensures xs c.args-2.ensures.held))

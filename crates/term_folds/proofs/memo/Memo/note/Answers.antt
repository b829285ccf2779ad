use Rattle.std.proofs.Common.{length, subst}
use Rattle.type_terms.specs.declared.TheConstants.{MAX_INDEX}
use Rattle.type_terms.specs.Binders.{counts_of}
use Rattle.term_folds.specs.Memos.{IsMemo}
use Rattle.term_folds.proofs.MemoFacts.{under-limit, remembers-more}
use Rattle.term_folds.proofs.memo.Memo.note.Goals as goal

pub returns-clause-noted : goal.returns-clause-noted
returns-clause-noted c = λ f es h k.
    remembers-more f es c.args.self.now (record { steps = c.args.self.now.steps; found = c.insert.new.self }) c.args.ty.0 c.depth-depth.result.index c.args.folded c.in_ok-insert.ensures.updates.0 h
    (subst (λ d. IsMemo f es c.args.ty.0 d c.args.folded.0) (under-limit (length (counts_of c.args.binders.now)) MAX_INDEX c.depth-depth.result.index c.depth-depth.ensures c.if-depth.false) k)

use Rattle.std.proofs.Common.{◌≡◌, length, ◌∙◌}
use Rattle.std.specs.HashMap.{get}
use Rattle.type_terms.specs.declared.TheConstants.{MAX_INDEX}
use Rattle.type_terms.specs.Binders.{counts_of}
use Rattle.term_folds.specs.Memos.{place_eq}
use Rattle.term_folds.proofs.MemoFacts.{under-limit}
use Rattle.term_folds.specs.declared.memo.Place.{Place}
use Rattle.term_folds.proofs.memo.Memo.known.Goals as goal

pub returns-clause-found : goal.returns-clause-found
returns-clause-found c = λ f es h.
    let p : Place = record { ty = c.args.ty.0; depth = c.depth-depth.result.index } in
    let same : c.copied.result ≡ get place_eq c.args.self.now.found p = c.copied.ensures ∙ c.get.ensures.value in
    rw (same, under-limit (length (counts_of c.args.binders.now)) MAX_INDEX c.depth-depth.result.index c.depth-depth.ensures c.if-depth.false) (h p)

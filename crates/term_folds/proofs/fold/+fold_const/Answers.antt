use Rattle.std.proofs.Common.{◌≡◌, ap, sym, ◌∙◌, refl}
use Rattle.type_terms.specs.Trees.{Single}
use Rattle.type_terms.specs.Promised.Handles.{consts, trees_at}
use Rattle.type_terms.specs.Kinds.{const_trees, const_label}
use Rattle.type_terms.specs.Binders.{counts_of}
use Rattle.type_terms.specs.Kept.{trees-is}
use Rattle.term_folds.proofs.FoldFacts.{ConstIs, says-enters, says-puts, says-again, put-handle, turn-handle, leaf-stays, ok-map}
use Rattle.term_folds.proofs.fold.+fold_const.Goals as goal

pub returns-in-Enter-clause-folded : goal.returns-in-Enter-clause-folded
returns-in-Enter-clause-folded g t c =
    let es = c.args.cx.now.entries in
    let bs = counts_of c.args.binders.now in
    let f = g.F.FallibleTypeFolder.action c.args.folder.now es in
    let at : trees_at es c.args.ct.0 ≡ const_trees c.const_kind.result = trees-is es consts c.args.ct.0 _ c.const_kind.ensures.is in
    let does = says-enters (ConstIs c.try_fold_const.new.cx.entries) (f bs (trees_at es c.args.ct.0)) (rw (← c.in-Enter.is) c.in_ok-try_fold_const.ensures.answer) in
    let later : trees_at c.try_fold_const.new.cx.entries c.args.ct.0 ≡ const_trees c.const_kind.result =
    trees-is _ consts c.args.ct.0 _ (c.try_fold_const.ensures.grew.keeps c.args.ct.0 _ c.const_kind.ensures.is) in
    record {
      has = (_, c.try_fold_const.ensures.grew.keeps c.args.ct.0 _ c.const_kind.ensures.is);
      folded = rw (at, later) (leaf-stays f bs (const_label c.const_kind.result) (ap (f bs) (sym at) ∙ does));
    }

pub returns-in-Replace-clause-folded : goal.returns-in-Replace-clause-folded
returns-in-Replace-clause-folded g t c =
    let es = c.args.cx.now.entries in
    let bs = counts_of c.args.binders.now in
    let f = g.F.FallibleTypeFolder.action c.args.folder.now es in
    let at : trees_at es c.args.ct.0 ≡ const_trees c.const_kind.result = trees-is es consts c.args.ct.0 _ c.const_kind.ensures.is in
    let one : Single (trees_at es c.args.ct.0) = rw at refl in
    put-handle f bs (trees_at es c.args.ct.0) c.try_fold_const.new.cx.entries consts c.in-Replace.new.0 one
    (says-puts (ConstIs c.try_fold_const.new.cx.entries) (f bs (trees_at es c.args.ct.0)) c.in-Replace.new (rw (← c.in-Replace.is) c.in_ok-try_fold_const.ensures.answer))

pub returns-in-Again-clause-folded : goal.returns-in-Again-clause-folded
returns-in-Again-clause-folded g t c =
    let es = c.args.cx.now.entries in
    let es1 = c.try_fold_const.new.cx.entries in
    let bs = counts_of c.args.binders.now in
    let f = g.F.FallibleTypeFolder.action c.args.folder.now es in
    let at : trees_at es c.args.ct.0 ≡ const_trees c.const_kind.result = trees-is es consts c.args.ct.0 _ c.const_kind.ensures.is in
    let one : Single (trees_at es c.args.ct.0) = rw at refl in
    let law = g.met.F.FallibleTypeFolder.action_kept c.args.folder.now es es1 c.try_fold_const.ensures.grew.keeps c.requires.ready in
    ok-map c.fold_const.result c.fold_const.ensures.folded
    (λ r h. turn-handle (g.F.FallibleTypeFolder.action c.args.folder.now es1) f bs (trees_at es c.args.ct.0) es1 c.fold_const.new.cx.entries consts c.in-Again.next.0 r.0 one law
    (says-again (ConstIs c.try_fold_const.new.cx.entries) (f bs (trees_at es c.args.ct.0)) c.in-Again.next (rw (← c.in-Again.is) c.in_ok-try_fold_const.ensures.answer)) h)

use Rattle.std.proofs.Common.{◌≡◌, refl, subst}
use Rattle.type_terms.specs.Promised.Trees.{Trees}
use Rattle.type_terms.specs.Trees.{Single}
use Rattle.type_terms.specs.Promised.Handles.{consts, trees_at}
use Rattle.type_terms.specs.Kinds.{const_trees, const_label}
use Rattle.type_terms.specs.declared.visit.Seen.TheVariants.{Enter}
use Rattle.type_terms.specs.Binders.{counts_of}
use Rattle.type_terms.specs.Kept.{trees-is}
use Rattle.type_terms.proofs.VisitFacts.{break-at, pass-at, enter-leaf}
use Rattle.type_terms.proofs.visit.visit_const.Goals as goal

pub returns-in-Break-clause-visited : goal.returns-in-Break-clause-visited
returns-in-Break-clause-visited g c =
    let es = c.args.cx.now.entries in
    let at : trees_at es c.args.ct.0 ≡ const_trees c.const_kind-kind.result = trees-is es consts c.args.ct.0 _ c.const_kind-kind.ensures.is in
    let one : Single (trees_at es c.args.ct.0) = rw at refl in
    break-at (g.V.TypeVisitor.sees es) (counts_of c.args.binders.now) (trees_at es c.args.ct.0) _ _ _ one c.in-Break.ensures.sees

pub returns-in-Enter-clause-visited : goal.returns-in-Enter-clause-visited
returns-in-Enter-clause-visited g c =
    let es = c.args.cx.now.entries in
    let bs = counts_of c.args.binders.now in
    let at : trees_at es c.args.ct.0 ≡ const_trees c.const_kind-kind.result = trees-is es consts c.args.ct.0 _ c.const_kind-kind.ensures.is in
    let h = subst (λ (t : Trees). g.V.TypeVisitor.sees es bs t c.args.visitor.now c.visit_const.new.self Enter) at (rw (← c.in-Enter.is) c.visit_const.ensures.sees) in
    rw at (enter-leaf (g.V.TypeVisitor.sees es) bs (const_label c.const_kind-kind.result) _ _ h)

pub returns-in-Pass-clause-visited : goal.returns-in-Pass-clause-visited
returns-in-Pass-clause-visited g c =
    let es = c.args.cx.now.entries in
    let at : trees_at es c.args.ct.0 ≡ const_trees c.const_kind-kind.result = trees-is es consts c.args.ct.0 _ c.const_kind-kind.ensures.is in
    let one : Single (trees_at es c.args.ct.0) = rw at refl in
    pass-at (g.V.TypeVisitor.sees es) (counts_of c.args.binders.now) (trees_at es c.args.ct.0) _ _ one (rw (← c.in-Pass.is) c.visit_const.ensures.sees)

use Rattle.std.proofs.Common.{ap, reverse, subst, refl, ◌++◌}
use Rattle.type_terms.specs.Trees.{Single}
use Rattle.type_terms.specs.Promised.Handles.{trees_at}
use Rattle.type_terms.specs.declared.visit.Seen.TheVariants.{Enter}
use Rattle.type_terms.specs.Binders.{counts_of}
use Rattle.type_terms.specs.Pending.{ahead, crossed, path_pieces}
use Rattle.type_terms.proofs.Items.{type-is-one}
use Rattle.type_terms.proofs.VisitFacts.{break-at, pass-at}
use Rattle.type_terms.proofs.PendingFacts.{at-once, follows-by, visits-entered}
use Rattle.type_terms.proofs.deep_visit.turn_ty.Goals as goal

pub returns-in-Break-clause-follows : goal.returns-in-Break-clause-follows
returns-in-Break-clause-follows g c =
    let es = c.args.cx.now.entries in
    let sees = g.V.TypeVisitor.sees es in
    let bs = counts_of c.args.binders.now in
    let t = trees_at es c.args.ty.0 in
    let one : Single t = type-is-one es c.lawful.ensures c.args.ty.0 c.requires.held in
    at-once sees bs es (crossed c.args.path.now) (reverse c.deref.result.now) _ (ahead c.args.path.now) (ahead c.args.path.now) t _ _ _ (ap reverse c.deref.ensures.value) refl refl
    (break-at sees (reverse c.deref.result.now ++ bs) t _ _ _ one c.in-Break.ensures.sees)

pub returns-in-Pass-clause-follows : goal.returns-in-Pass-clause-follows
returns-in-Pass-clause-follows g c =
    let es = c.args.cx.now.entries in
    let sees = g.V.TypeVisitor.sees es in
    let bs = counts_of c.args.binders.now in
    let t = trees_at es c.args.ty.0 in
    let one : Single t = type-is-one es c.lawful.ensures c.args.ty.0 c.requires.held in
    at-once sees bs es (crossed c.args.path.now) (reverse c.deref.result.now) (crossed c.args.path.now) (ahead c.args.path.now) (ahead c.args.path.now) t _ _ _ (ap reverse c.deref.ensures.value) refl refl
    (pass-at sees (reverse c.deref.result.now ++ bs) t _ _ one (rw (← c.in-Pass.is) c.visit_ty.ensures.sees))

pub returns-in-Enter-clause-follows : goal.returns-in-Enter-clause-follows
returns-in-Enter-clause-follows g c =
    let es = c.args.cx.now.entries in
    let sees = g.V.TypeVisitor.sees es in
    let bs = counts_of c.args.binders.now in
    let cs = crossed c.args.path.now in
    let t = trees_at es c.args.ty.0 in
    let ps = path_pieces es c.args.path.now in
    let one : Single t = type-is-one es c.lawful.ensures c.args.ty.0 c.requires.held in
    let s : sees (reverse c.deref.result.now ++ bs) t c.args.visitor.now c.visit_ty.new.self Enter = rw (← c.in-Enter.is) c.visit_ty.ensures.sees in
    let here = subst (λ d. sees (d ++ bs) t c.args.visitor.now c.visit_ty.new.self Enter) (ap reverse c.deref.ensures.value) s in
    follows-by sees bs _ _ _ _ (λ x q h. visits-entered sees bs cs t ps c.args.visitor.now c.visit_ty.new.self x q one here h) _ _ _ c.enter.ensures.follows

use Rattle.std.proofs.Common.{◌==◌, sym, subst}
use Rattle.term_folds.specs.declared.predicate.TraitRef.{TraitRef}
use Rattle.declarations.specs.Applied.{TraitRefsHeld}
use Rattle.built_in_candidates.proofs.Objects.{upcast-level, numbered-held}
use Rattle.built_in_candidates.proofs.upcast.upcast_bound.Goals as goal

pub returns-in-Some-reference_at-clause-is : goal.returns-in-Some-reference_at-clause-is
returns-in-Some-reference_at-clause-is c = λ es V e.
    upcast-level V es c.args.def_id.index c.args.place c.args.from.now.principal c.in-Some.principal c.in-Some.is c.if-principal-def_id.false c.args.from.now.elaborated.items c.deref.result.now c.deref.ensures.value e _
    c.in-Some-reference_at.ensures

pub returns-in-Some-reference_at-clause-held : goal.returns-in-Some-reference_at-clause-held
returns-in-Some-reference_at-clause-held c = λ es h g.
    numbered-held es (λ (r : TraitRef). r.def_id.index == c.args.def_id.index) 0 c.args.place c.deref.result.now c.in-Some-reference_at.number c.in-Some-reference_at.bound (subst (TraitRefsHeld es) (sym c.deref.ensures.value) g) c.in-Some-reference_at.ensures

pub returns-in-None-reference_at-clause-is : goal.returns-in-None-reference_at-clause-is
returns-in-None-reference_at-clause-is c = λ es V e.
    upcast-level V es c.args.def_id.index c.args.place c.args.from.now.principal c.in-Some.principal c.in-Some.is c.if-principal-def_id.false c.args.from.now.elaborated.items c.deref.result.now c.deref.ensures.value e _
    c.in-None-reference_at.ensures

use Rattle.sessions.proofs.TypeTerms.Grown.{grew-none}
use Rattle.std.proofs.Common.{◌≡◌, Some, subst}
use Rattle.std.specs.List.{slice_get}
use Rattle.sessions.specs.TypeTerms.Kept.{has-later}
use Rattle.sessions.specs.TypeTerms.Promised.Handles.{Has}
use Rattle.sessions.specs.TypeTerms.Terms.{args_lists}
use Rattle.sessions.specs.TermFolds.declared.predicate.TraitRef.{TraitRef}
use Rattle.explain_sessions.proofs.ShownSteps.{every-there}
use Rattle.explain_sessions.proofs.steps.step_of.Goals as goal

pub way_by-requires-clause-reference : goal.way_by-requires-clause-reference
way_by-requires-clause-reference c =
    let es = c.args.cx.now.entries in
    every-there (λ (r : TraitRef). Has es args_lists r.args.0) c.args.walk.now.references.items c.args.shown.now.place c.in-Some.reference c.requires.walked
    (subst (λ xs. slice_get xs c.args.shown.now.place ≡ Some c.in-Some.reference) c.deref.ensures.value c.in-Some.ensures)

pub returns-clause-held : goal.returns-clause-held
returns-clause-held c =
    let es = c.args.cx.now.entries in
    let new = c.way_by.new.cx.entries in (
      has-later es new c.way_by.ensures.grew.keeps args_lists c.in-Some.reference.args.0
          (every-there (λ (r : TraitRef). Has es args_lists r.args.0) c.args.walk.now.references.items c.args.shown.now.place c.in-Some.reference c.requires.walked
          (subst (λ xs. slice_get xs c.args.shown.now.place ≡ Some c.in-Some.reference) c.deref.ensures.value c.in-Some.ensures)),
      c.in_ok-way.ensures.held,
    )

pub returns-clause-shown : goal.returns-clause-shown
returns-clause-shown c = record {
  reference = subst (λ xs. slice_get xs c.args.shown.now.place ≡ Some c.in-Some.reference) c.deref.ensures.value c.in-Some.ensures;
  premises = c.in_ok-premises.ensures;
}

pub returns-in_default-clause-grew : goal.returns-in_default-clause-grew
returns-in_default-clause-grew c = grew-none

pub returns-in_default-clause-table : goal.returns-in_default-clause-table
returns-in_default-clause-table c = c.requires.table

pub returns-in_default-clause-held : goal.returns-in_default-clause-held
returns-in_default-clause-held c = tt

pub returns-in_default-clause-shown : goal.returns-in_default-clause-shown
returns-in_default-clause-shown c = tt

pub way_by-requires-clause-ready : goal.way_by-requires-clause-ready
way_by-requires-clause-ready c = c.requires.ready

pub way_by-requires-clause-table : goal.way_by-requires-clause-table
way_by-requires-clause-table c = c.requires.table

pub way_by-requires-clause-clauses : goal.way_by-requires-clause-clauses
way_by-requires-clause-clauses c = c.requires.clauses

pub returns-in_err-way-clause-grew : goal.returns-in_err-way-clause-grew
returns-in_err-way-clause-grew c = c.way_by.ensures.grew

pub returns-in_err-way-clause-table : goal.returns-in_err-way-clause-table
returns-in_err-way-clause-table c = c.way_by.ensures.table

pub returns-in_err-premises-clause-grew : goal.returns-in_err-premises-clause-grew
returns-in_err-premises-clause-grew c = c.way_by.ensures.grew

pub returns-in_err-premises-clause-table : goal.returns-in_err-premises-clause-table
returns-in_err-premises-clause-table c = c.way_by.ensures.table

pub returns-clause-grew : goal.returns-clause-grew
returns-clause-grew c = c.way_by.ensures.grew

pub returns-clause-table : goal.returns-clause-table
returns-clause-table c = c.way_by.ensures.table

use Rattle.std.proofs.Common.{map, subst, sym, ap, ◌∙◌}
use Rattle.std.specs.Prelude.{◌==◌, filter}
use Rattle.text_language.specs.Promised.Declarations.{LaterImpl}
use Rattle.text_tables.specs.declared.declared.LaterEntry.{LaterEntry}
use Rattle.text_tables.specs.Numbered.{EachNumbered}
use Rattle.text_tables.specs.Made.{ReferenceMade, ReferencesMade}
use Rattle.text_tables.specs.Views.{later_impl_of}
use Rattle.text_tables.proofs.Each.{Each-filter, filter-map}
use Rattle.text_tables.proofs.workspace.Workspace.later_impls_of.Goals as goal

pub returns-clause-items : goal.returns-clause-items
returns-clause-items c =
    let n = c.args.section in
    ap (map later_impl_of) (c.impls_of_section.ensures ∙ ap (filter (λ (x : LaterEntry). x.section == n)) c.deref.ensures.value)
    ∙ sym (filter-map (λ (i : LaterImpl). i.section == n) later_impl_of c.self.inside.tables.later_impls.items)
    ∙ ap (λ d. filter (λ (i : LaterImpl). i.section == n) d.later_impls) c.self.view_is

-- all are made well, so those of the section are
pub returns-clause-headers : goal.returns-clause-headers
returns-clause-headers c =
    subst (EachNumbered (λ k (x : LaterEntry). ReferenceMade x.entry.header)) (sym c.impls_of_section.ensures)
    (Each-filter (λ (x : LaterEntry). ReferenceMade x.entry.header) (λ (x : LaterEntry). x.section == c.args.section) c.deref.result.now
    (subst (EachNumbered (λ k (x : LaterEntry). ReferenceMade x.entry.header)) (sym c.deref.ensures.value) c.self.invariant.0.made.later_headers))

pub returns-clause-clauses : goal.returns-clause-clauses
returns-clause-clauses c =
    subst (EachNumbered (λ k (x : LaterEntry). ReferencesMade x.entry.clauses.items)) (sym c.impls_of_section.ensures)
    (Each-filter (λ (x : LaterEntry). ReferencesMade x.entry.clauses.items) (λ (x : LaterEntry). x.section == c.args.section) c.deref.result.now
    (subst (EachNumbered (λ k (x : LaterEntry). ReferencesMade x.entry.clauses.items)) (sym c.deref.ensures.value) c.self.invariant.0.made.later_clauses))

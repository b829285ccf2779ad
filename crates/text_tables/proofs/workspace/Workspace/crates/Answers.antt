use Rattle.std.proofs.Common.{ap, sym, ◌∙◌}
use Rattle.std.specs.Prelude.{map}
use Rattle.text_tables.specs.Views.{numbers_of, crate_of}
use Rattle.text_tables.proofs.Each.{map-map}
use Rattle.text_tables.proofs.workspace.Workspace.crates.Goals as goal

pub returns-clause-crates : goal.returns-clause-crates
returns-clause-crates c =
    ap numbers_of c.deref.ensures.value ∙ c.self.invariant.0.ids ∙ sym (map-map (λ x. x.item.name) crate_of c.self.inside.tables.crates.items) ∙ ap (λ d. map (λ x. x.item.name) d.crates) c.self.view_is

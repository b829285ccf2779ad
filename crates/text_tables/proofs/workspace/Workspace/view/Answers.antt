use Rattle.std.proofs.Common.{ap, sym, ◌∙◌}
use Rattle.std.specs.Prelude.{map, filter}
use Rattle.type_terms.specs.Promised.Worlds.{sees}
use Rattle.text_language.specs.Promised.Declarations.{world_of}
use Rattle.text_tables.specs.Tables.{declared}
use Rattle.text_tables.specs.Views.{numbers_of, crate_of}
use Rattle.text_tables.proofs.Each.{filter-map, map-map}
use Rattle.text_tables.proofs.workspace.Workspace.view.Goals as goal

pub returns : goal.returns
returns c =
    let t = c.self.inside.tables in
    let W = world_of (declared t) in
    let k = c.args.crate_id.index in
    let named = c.self.invariant.0.ids ∙ sym (map-map (λ x. x.name) (λ x. x.item) (map crate_of t.crates.items) ∙ map-map (λ x. x.item.name) crate_of t.crates.items) in
    ap numbers_of c.in_ok-seen.ensures ∙ sym (filter-map (λ n. sees W k n) (λ i. i.index) t.ids.items) ∙ ap (filter (λ n. sees W k n)) named ∙ filter-map (λ n. sees W k n) (λ x. x.name) W.crates
    ∙ ap (λ d. map (λ x. x.name) (filter (λ x. sees (world_of d) k x.name) (world_of d).crates)) c.self.view_is

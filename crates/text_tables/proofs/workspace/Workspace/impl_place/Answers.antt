use Rattle.std.proofs.Common.{suc, length, take, refl, ap, sym, ◌∙◌, arith}
use Rattle.std.specs.Prelude.{count_by, ◌==◌}
use Rattle.std.proofs.lemmas.List.{length-map}
use Rattle.std.proofs.lemmas.Option.{slice_get_read}
use Rattle.text_tables.specs.Views.{impl_of}
use Rattle.text_tables.proofs.Each.{count_by-map, take-map}
use Rattle.text_tables.proofs.workspace.Workspace.impl_place.Goals as goal

pub returns-clause-number : goal.returns-clause-number
returns-clause-number c =
    let impls = c.self.inside.tables.impls.items in
    let k = c.args.id.index in
    let entry = c.index-entry.result.now in
    let long = sym (length-map impls impl_of) ∙ ap (λ d. length d.impls) c.self.view_is in
    let there = slice_get_read impls _ k entry refl (omega (arith, long, c.requires)) c.index-entry.ensures in
    c.self.invariant.0.numbers k entry there ∙ sym (count_by-map (λ i. i.item.home == entry.owner.index) impl_of (take (suc k) impls)) ∙ ap (count_by (λ i. i.item.home == entry.owner.index)) (sym (take-map impl_of (suc k) impls))
    ∙ ap (λ d. count_by (λ i. i.item.home == entry.owner.index) (take (suc k) d.impls)) c.self.view_is

use Rattle.std.proofs.Common.{ap, ◌∙◌, sym, subst}
use Rattle.std.proofs.lemmas.List.{take-map}
use Rattle.text_lines.specs.TypeViews.{cells_in, cell_of}
use Rattle.text_names.specs.Found.{AddsPart}
use Rattle.text_names.proofs.Finding.{adds-type, adds-bound}
use Rattle.text_names.proofs.parts.PartsFound.add.Goals as goal

pub returns-in_ok-join-in-Type : goal.returns-in_ok-join-in-Type
returns-in_ok-join-in-Type g c =
    let v = g.N.Names.sight c.args.names.now in
    let front = ap cells_in c.cells_to.ensures ∙ sym (take-map cell_of c.in-Type.span.end c.args.cells.now) in
    let e = c.in_ok-join-in-Type.ensures in
    subst (λ z. AddsPart v (cells_in c.args.cells.now) z c.args.self.now c.join.new.self) (sym c.in-Type.is)
    (adds-type v (cells_in c.args.cells.now) c.in-Type.span c.in_ok-found-in-Type.found c.args.self.now c.join.new.self (cells_in c.cells_to.result.now) front c.in_ok-found-in-Type.ensures e.faults e.variables e.deep e.parts)

pub returns-in_ok-join-in-Bound : goal.returns-in_ok-join-in-Bound
returns-in_ok-join-in-Bound g c =
    let v = g.N.Names.sight c.args.names.now in
    let front = ap cells_in c.cells_to-in-Bound.ensures ∙ sym (take-map cell_of c.in-Bound.span.end c.args.cells.now) in
    let e = c.in_ok-join-in-Bound.ensures in
    subst (λ z. AddsPart v (cells_in c.args.cells.now) z c.args.self.now c.join-in-Bound.new.self) (sym c.in-Bound.is)
    (adds-bound v (cells_in c.args.cells.now) c.in-Bound.span c.in_ok-found-in-Bound.found c.args.self.now c.join-in-Bound.new.self (cells_in c.cells_to-in-Bound.result.now) front c.in_ok-found-in-Bound.ensures e.faults e.variables e.deep e.parts)

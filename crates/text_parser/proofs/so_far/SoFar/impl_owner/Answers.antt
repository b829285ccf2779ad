use Rattle.std.proofs.Common.{◌<◌, length, subst, sym}
use Rattle.text_language.specs.Promised.Declarations.{Declarations}
use Rattle.text_tables.specs.Tables.{declared}
use Rattle.text_parser.proofs.Sections.{owner-there}
use Rattle.text_parser.proofs.so_far.SoFar.impl_owner.Goals as goal

pub returns-clause-there : goal.returns-clause-there
returns-clause-there c =
    let d = declared c.self.inside.tables.now in
    let there : c.impl_owner.result.index < length d.crates = subst (λ k. k < length d.crates) (sym c.impl_owner.ensures) (owner-there d c.self.invariant.0.numbered) in
    let P : Declarations → Type 0 = λ e. c.impl_owner.result.index < length e.crates in
    subst P c.self.view_is there

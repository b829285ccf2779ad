use Rattle.std.proofs.Common.{◌≡◌, ◌∙◌, ap, subst}
use Rattle.std.specs.Option.{option_map, option_and_then}
use Rattle.sessions.specs.TypeTerms.declared.CrateId.{CrateId}
use Rattle.sessions.specs.TextLanguage.Promised.Declarations.{Declarations, known}
use Rattle.sessions.specs.TextTables.Tables.{declared, number_of_crate}
use Rattle.coherence.specs.Asking.{AskedText}
use Rattle.coherence.proofs.Asking.{named-there}
use Rattle.coherence.proofs.asker.Asker.crate_named.Goals as goal

pub returns-clause-number : goal.returns-clause-number
returns-clause-number c =
    let same : declared c.tables.result.now ≡ c.args.self.now.declarations = c.tables.ensures.declared ∙ ap (λ (a : AskedText). a.declarations) c.self.view_is in
    subst (λ (d : Declarations). option_map (λ (i : CrateId). i.index) c.crate_named.result ≡ option_and_then number_of_crate (known d c.args.name.now)) same c.crate_named.ensures.number

pub returns-clause-there : goal.returns-clause-there
returns-clause-there c =
    let same : declared c.tables.result.now ≡ c.args.self.now.declarations = c.tables.ensures.declared ∙ ap (λ (a : AskedText). a.declarations) c.self.view_is in
    named-there c.tables.result.now c.args.self.now.declarations c.crate_named.result same c.crate_named.ensures.there

use Rattle.std.proofs.Common.{length, ap, arith}
use Rattle.std.proofs.lemmas.List.{length-map}
use Rattle.sessions.specs.TextLanguage.Promised.Declarations.{NamedCrate}
use Rattle.sessions.specs.TypeTerms.declared.CrateId.{CrateId}
use Rattle.coherence.proofs.output_lines.crates_with_lines.Goals as goal

pub returns : goal.returns
returns c = omega (arith, ap length c.crates.ensures.crates, length-map c.crates.result.now (λ (i : CrateId). i.index), length-map c.args.workspace.now.crates (λ (n : NamedCrate). n.item.name))

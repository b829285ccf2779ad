use Rattle.std.proofs.Common.{◌∙◌, ap, sym}
use Rattle.std.specs.Prelude.{bit_and}
use Rattle.infer_table.specs.Content.{content}
use Rattle.infer_table.proofs.ContentFacts.{valued}
use Rattle.infer_table.proofs.Resolutions.{value-free-pieces}
use Rattle.infer_table.proofs.resolving.resolve.Goals as goal

pub returns-then-flags-eq0-clause-resolved : goal.returns-then-flags-eq0-clause-resolved
returns-then-flags-eq0-clause-resolved g c =
    let es = c.args.cx.now.entries in
    value-free-pieces (content es c.args.table.now.values) (valued es c.args.table.now.values) (g.T.TypeVisitable.pieces c.args.value es) (ap (λ f. bit_and f 514) (sym c.flags.ensures) ∙ c.if-flags-eq0.true)

use Rattle.std.proofs.Common.{sym, ◌∙◌}
use Rattle.type_terms.specs.Promised.Handles.{trees_at}
use Rattle.sessions.proofs.Foreign.{unknown-found, unknown-not-found}
use Rattle.sessions.proofs.own_values.Asked.has_unknowns.Goals as goal

pub returns-then-has_type_flags : goal.returns-then-has_type_flags
returns-then-has_type_flags c = c.if-has_type_flags.true ∙ unknown-found (trees_at c.args.cx.now.entries c.args.self.reference.args.0) (sym c.has_type_flags.ensures ∙ c.if-has_type_flags.true)

pub returns-else-has_type_flags : goal.returns-else-has_type_flags
returns-else-has_type_flags c =
    c.has_type_flags-else-has_type_flags.ensures ∙ unknown-not-found (trees_at c.args.cx.now.entries c.args.self.reference.args.0) (sym c.has_type_flags.ensures ∙ c.if-has_type_flags.false)

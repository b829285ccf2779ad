use Rattle.std.proofs.Common.{sym, ◌∙◌}
use Rattle.type_terms.specs.Promised.Handles.{trees_at}
use Rattle.sessions.proofs.Answering.{bound-found, bound-not-found}
use Rattle.sessions.proofs.proving.has_bound_terms.Goals as goal

pub returns-then-has_type_flags : goal.returns-then-has_type_flags
returns-then-has_type_flags c = c.if-has_type_flags.true ∙ bound-found (trees_at c.args.cx.now.entries c.args.args.0) (sym c.has_type_flags.ensures ∙ c.if-has_type_flags.true)

pub returns-else-has_type_flags : goal.returns-else-has_type_flags
returns-else-has_type_flags c =
    c.has_type_flags-else-has_type_flags.ensures ∙ bound-not-found (trees_at c.args.cx.now.entries c.args.args.0) (sym c.has_type_flags.ensures ∙ c.if-has_type_flags.false)

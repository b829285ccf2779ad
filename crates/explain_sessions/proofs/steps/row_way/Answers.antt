use Rattle.explain_sessions.proofs.steps.row_way.Goals as goal

pub by_built_in-requires-clause-declared : goal.by_built_in-requires-clause-declared
by_built_in-requires-clause-declared c = c.requires.declared

pub by_built_in-requires-clause-reference : goal.by_built_in-requires-clause-reference
by_built_in-requires-clause-reference c = c.requires.reference

pub returns-in_err-by_built_in-clause-grew : goal.returns-in_err-by_built_in-clause-grew
returns-in_err-by_built_in-clause-grew c = c.by_built_in.ensures.terms.grew

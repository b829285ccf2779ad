use Rattle.sessions.proofs.TypeTerms.Grown.{grew-none}
use Rattle.explain_traces.proofs.Walks.{ready-later}
use Rattle.explain_sessions.proofs.steps.way_by.Goals as goal

pub returns-in-Some-ParamEnv-clause-table : goal.returns-in-Some-ParamEnv-clause-table
returns-in-Some-ParamEnv-clause-table c = ready-later c.args.cx.now.entries c.clause_way.new.cx.entries c.clause_way.ensures.grew.keeps c.args.table.now c.requires.table

pub returns-in-Some-BuiltinImpl-clause-table : goal.returns-in-Some-BuiltinImpl-clause-table
returns-in-Some-BuiltinImpl-clause-table c = ready-later c.args.cx.now.entries c.row_way.new.cx.entries c.row_way.ensures.grew.keeps c.args.table.now c.requires.table

pub impl_way-requires-clause-ready : goal.impl_way-requires-clause-ready
impl_way-requires-clause-ready c = c.requires.ready

pub impl_way-requires-clause-table : goal.impl_way-requires-clause-table
impl_way-requires-clause-table c = c.requires.table

pub impl_way-requires-clause-reference : goal.impl_way-requires-clause-reference
impl_way-requires-clause-reference c = c.requires.reference

pub clause_way-requires-clause-declared : goal.clause_way-requires-clause-declared
clause_way-requires-clause-declared c = c.requires.ready.held

pub clause_way-requires-clause-bounds : goal.clause_way-requires-clause-bounds
clause_way-requires-clause-bounds c = c.requires.ready.bounds

pub clause_way-requires-clause-clauses : goal.clause_way-requires-clause-clauses
clause_way-requires-clause-clauses c = c.requires.clauses

pub clause_way-requires-clause-reference : goal.clause_way-requires-clause-reference
clause_way-requires-clause-reference c = c.requires.reference

pub row_way-requires-clause-declared : goal.row_way-requires-clause-declared
row_way-requires-clause-declared c = c.requires.ready.held

pub row_way-requires-clause-reference : goal.row_way-requires-clause-reference
row_way-requires-clause-reference c = c.requires.reference

pub returns-in-Some-Impl-clause-grew : goal.returns-in-Some-Impl-clause-grew
returns-in-Some-Impl-clause-grew c = c.impl_way.ensures.grew

pub returns-in-Some-Impl-clause-table : goal.returns-in-Some-Impl-clause-table
returns-in-Some-Impl-clause-table c = c.impl_way.ensures.table

pub returns-in-Some-Impl-clause-held : goal.returns-in-Some-Impl-clause-held
returns-in-Some-Impl-clause-held c = c.impl_way.ensures.held

pub returns-in-Some-ParamEnv-clause-grew : goal.returns-in-Some-ParamEnv-clause-grew
returns-in-Some-ParamEnv-clause-grew c = c.clause_way.ensures.grew

pub returns-in-Some-ParamEnv-clause-held : goal.returns-in-Some-ParamEnv-clause-held
returns-in-Some-ParamEnv-clause-held c = c.clause_way.ensures.held

pub returns-in-Some-BuiltinImpl-clause-grew : goal.returns-in-Some-BuiltinImpl-clause-grew
returns-in-Some-BuiltinImpl-clause-grew c = c.row_way.ensures.grew

pub returns-in-Some-BuiltinImpl-clause-held : goal.returns-in-Some-BuiltinImpl-clause-held
returns-in-Some-BuiltinImpl-clause-held c = c.row_way.ensures.held

pub returns-in-Some-CoherenceUnknowable-clause-grew : goal.returns-in-Some-CoherenceUnknowable-clause-grew
returns-in-Some-CoherenceUnknowable-clause-grew c = grew-none

pub returns-in-Some-CoherenceUnknowable-clause-table : goal.returns-in-Some-CoherenceUnknowable-clause-table
returns-in-Some-CoherenceUnknowable-clause-table c = c.requires.table

pub returns-in-Some-CoherenceUnknowable-clause-held : goal.returns-in-Some-CoherenceUnknowable-clause-held
returns-in-Some-CoherenceUnknowable-clause-held c = tt

pub returns-in-None-clause-grew : goal.returns-in-None-clause-grew
returns-in-None-clause-grew c = grew-none

pub returns-in-None-clause-table : goal.returns-in-None-clause-table
returns-in-None-clause-table c = c.requires.table

pub returns-in-None-clause-held : goal.returns-in-None-clause-held
returns-in-None-clause-held c = tt

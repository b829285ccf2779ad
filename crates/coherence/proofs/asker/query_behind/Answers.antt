use Rattle.std.proofs.Common.{◌≡◌, true, inl, inr, arith, rules, subst, sym}
use Rattle.sessions.specs.TextLanguage.Promised.Declarations.{Declarations}
use Rattle.sessions.specs.TextTables.Numbered.{IsFew}
use Rattle.coherence.specs.declared.ask_fault.AskFault.TheVariants.{Memory}
use Rattle.coherence.proofs.Asking.{handed-shortage, query-at, shortages-are}
use Rattle.coherence.proofs.asker.query_behind.Goals as goal

pub read_query-requires-clause-few : goal.read_query-requires-clause-few
read_query-requires-clause-few c = subst (λ (d : Declarations). IsFew d 67108928) (sym c.tables.ensures.declared) c.tables.ensures.few

pub returns-in_err-entry-clause-fault : goal.returns-in_err-entry-clause-fault
returns-in_err-entry-clause-fault c =
    shortages-are c.args.workspace.now c.args.text_length c.args.line.now c.from_residual.result (handed-shortage c.from_residual.result Memory c.from_residual.ensures.1 tt)

pub returns-in-Query-clause-entry : goal.returns-in-Query-clause-entry
returns-in-Query-clause-entry c =
    let one : c.is_one_line.result ≡ true = search rules in
    let asks = query-at _ _ c.args.line.now _ _ c.tables.ensures.declared c.in-Query.is c.in_ok-entry.ensures in
    record { alone = c.is_one_line.ensures.one one; room = omega (arith, c.if-line-text_length.false, c.requires); fits = asks.0; gives = asks.1 }

pub returns-in-Faulty-clause-fault : goal.returns-in-Faulty-clause-fault
returns-in-Faulty-clause-fault c = query-at _ _ c.args.line.now _ _ c.tables.ensures.declared c.in-Faulty.is c.in_ok-entry.ensures

pub returns-in-Other-clause-fault : goal.returns-in-Other-clause-fault
returns-in-Other-clause-fault c = inl (query-at _ _ c.args.line.now _ _ c.tables.ensures.declared c.in-Other.is c.in_ok-entry.ensures)

pub returns-in-Declared-clause-fault : goal.returns-in-Declared-clause-fault
returns-in-Declared-clause-fault c = inr (query-at _ _ c.args.line.now _ _ c.tables.ensures.declared c.in-Declared.is c.in_ok-entry.ensures)

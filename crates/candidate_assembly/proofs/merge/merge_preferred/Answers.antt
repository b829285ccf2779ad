use Rattle.std.proofs.Common.{sym, ◌∙◌}
use Rattle.std.proofs.lemmas.Result.{IfOk-weaker}
use Rattle.candidate_assembly.proofs.Ends.{trivial-end, non-global-end, remaining-end}
use Rattle.candidate_assembly.proofs.merge.merge_preferred.Goals as goal

pub returns-then-holds_from-clause-is : goal.returns-then-holds_from-clause-is
returns-then-holds_from-clause-is c =
    let es = c.args.cx.now.entries in
    let new = c.merge_from.new.cx.entries in
    IfOk-weaker c.merge_from.result _ _
    (trivial-end es new c.args.variables.now c.args.done.now (sym c.holds_from.ensures ∙ c.if-holds_from.true)) c.merge_from.ensures.is

pub returns-then-holds_from-2-clause-is : goal.returns-then-holds_from-2-clause-is
returns-then-holds_from-2-clause-is c =
    let es = c.args.cx.now.entries in
    let new = c.take_clause.new.cx.entries in
    IfOk-weaker c.take_clause.result _ _
    (non-global-end es new c.args.variables.now c.args.done.now (sym c.holds_from.ensures ∙ c.if-holds_from.false) (sym c.holds_from-2.ensures ∙ c.if-holds_from-2.true)) c.take_clause.ensures.is

pub returns-clause-is : goal.returns-clause-is
returns-clause-is c =
    let es = c.args.cx.now.entries in
    let new = c.merge_from-2.new.cx.entries in
    IfOk-weaker c.merge_from-2.result _ _
    (remaining-end es new c.args.variables.now c.args.done.now (sym c.holds_from.ensures ∙ c.if-holds_from.false) (sym c.holds_from-2.ensures ∙ c.if-holds_from-2.false) c.remaining-sources.result c.remaining-sources.ensures)
    c.merge_from-2.ensures.is

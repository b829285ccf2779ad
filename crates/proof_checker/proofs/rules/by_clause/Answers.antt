use Rattle.proof_checker.specs.Steps.{term_of, terms_of}
use Rattle.proof_checker.proofs.Results.{mapped}
use Rattle.proof_checker.proofs.Ways.{get-at, get-map, clause-rule}
use Rattle.proof_checker.proofs.rules.by_clause.Goals as goal

pub returns-then-place-clauses-clause-rule : goal.returns-then-place-clauses-clause-rule
returns-then-place-clauses-clause-rule c =
    let es = c.args.cx.now.entries in
    let cl = c.args.clauses.now in
    let x = c.index-clauses-place.result in
    let there = get-map (term_of es) cl c.args.place x (get-at cl c.args.place x c.if-place-clauses.true c.index-clauses-place.is) in
    mapped _ _ c.are_one.result (λ b one q W. clause-rule W (terms_of es cl) (term_of es c.args.reference) c.args.place (term_of es x) there (one q)) c.are_one.ensures.one

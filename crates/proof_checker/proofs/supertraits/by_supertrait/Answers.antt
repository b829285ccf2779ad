use Rattle.declarations.specs.Items.{declared}
use Rattle.proof_checker.specs.Steps.{term_of, terms_of}
use Rattle.proof_checker.proofs.Results.{mapped}
use Rattle.proof_checker.proofs.Ways.{get-at, get-map, super-rule}
use Rattle.proof_checker.proofs.supertraits.by_supertrait.Goals as goal

pub returns-then-place-clauses-clause-rule : goal.returns-then-place-clauses-clause-rule
returns-then-place-clauses-clause-rule c =
    let es = c.args.cx.now.entries in
    let cl = c.args.clauses.now in
    let x = c.index-clauses-place.result in
    let there = get-map (term_of es) cl c.args.place x (get-at cl c.args.place x c.if-place-clauses.true c.index-clauses-place.is) in
    mapped _ _ c.is_supertrait_of.result
    (λ b above q. super-rule (declared es c.args.declarations.now) (terms_of es cl) (term_of es c.args.reference) c.args.place (term_of es x) there (above q)) c.is_supertrait_of.ensures.above

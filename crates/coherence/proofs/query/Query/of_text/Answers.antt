use Rattle.std.proofs.Common.{◌≡◌, ◌∙◌, length, ap, sym, arith, refl}
use Rattle.std.proofs.lemmas.List.{length-map}
use Rattle.sessions.specs.TextLanguage.Promised.Declarations.{Question}
use Rattle.sessions.specs.TextTables.Views.{asked_of}
use Rattle.coherence.proofs.QueryValues.{prove-query, refute-query}
use Rattle.coherence.proofs.query.Query.of_text.Goals as goal

pub returns-in-Prove-clause-is : goal.returns-in-Prove-clause-is
returns-in-Prove-clause-is c =
    let d = c.args.workspace.now in
    let asks = c.questions-asked.result.now in
    let many : length asks ≡ length d.questions =
    sym (length-map asks asked_of) ∙ ap length c.questions-asked.ensures ∙ length-map d.questions (λ (q : Question). (q.is_refute, q.asker))
    in
    (refl, prove-query d asks c.questions-asked.ensures c.crates-crates.ensures.numbered c.args.number (omega arith) (omega arith) _ c.in-Prove.crate_id c.in-Prove.is)

pub returns-in-Refute-clause-is : goal.returns-in-Refute-clause-is
returns-in-Refute-clause-is c =
    let d = c.args.workspace.now in
    let asks = c.questions-asked.result.now in
    let many : length asks ≡ length d.questions =
    sym (length-map asks asked_of) ∙ ap length c.questions-asked.ensures ∙ length-map d.questions (λ (q : Question). (q.is_refute, q.asker))
    in
    (refl, refute-query d asks c.questions-asked.ensures c.crates-crates.ensures.numbered c.args.number (omega arith) (omega arith) _ c.in-Refute.crate_id c.in-Refute.is)

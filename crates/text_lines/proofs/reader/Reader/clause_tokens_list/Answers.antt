use Rattle.std.proofs.Common.{◌≡◌, ◌∷◌, [], ◌++◌, Some, sym, ap, ◌∙◌}
use Rattle.std.proofs.lemmas.List.{map_push}
use Rattle.text_lines.specs.Marks.{after_comma}
use Rattle.text_lines.specs.WrittenParts.{clause_tokens_at}
use Rattle.text_lines.specs.Steps.{progress_of}
use Rattle.text_lines.specs.WrittenViews.{clause_of, clauses_in}
use Rattle.text_lines.proofs.EachMark.{comma-mark}
use Rattle.text_lines.proofs.Going.{begin, go_on, stop, shorter}
use Rattle.text_lines.proofs.WrittenTypes.{clause-tokens-part}
use Rattle.text_lines.proofs.reader.Reader.clause_tokens_list.Goals as goal

pub clauses-init : goal.clauses-init
clauses-init c = rw c.new-clauses.ensures.items (begin clause_tokens_at after_comma (progress_of c.args.self.now))

pub clauses-smaller : goal.clauses-smaller
clauses-smaller c = shorter clause-tokens-part comma-mark (progress_of c.clauses.self) (progress_of c.clause_tokens.new.self) (clause_of c.in_ok-clause.clause) c.take_comma.new.self c.in_ok-clause.ensures c.if-not-take_comma.ensures

pub clauses-preserved : goal.clauses-preserved
clauses-preserved c =
    let pushed : clauses_in c.push.new.self.items ≡ clauses_in c.clauses.clauses.items ++ (clause_of c.in_ok-clause.clause) ∷ [] = rw c.in_ok-push.ensures.items (map_push clause_of c.clauses.clauses.items c.in_ok-clause.clause) in
    let less = shorter clause-tokens-part comma-mark (progress_of c.clauses.self) (progress_of c.clause_tokens.new.self) (clause_of c.in_ok-clause.clause) c.take_comma.new.self c.in_ok-clause.ensures c.if-not-take_comma.ensures in
    rw pushed (go_on clause_tokens_at after_comma _ (progress_of c.clauses.self) (progress_of c.clause_tokens.new.self) (clauses_in c.clauses.clauses.items) (clause_of c.in_ok-clause.clause) c.take_comma.new.self c.in_ok-clause.ensures c.if-not-take_comma.ensures less c.clauses.invariant)

pub returns-then-not-take_comma : goal.returns-then-not-take_comma
returns-then-not-take_comma c =
    let pushed : clauses_in c.push.new.self.items ≡ clauses_in c.clauses.clauses.items ++ (clause_of c.in_ok-clause.clause) ∷ [] = rw c.in_ok-push.ensures.items (map_push clause_of c.clauses.clauses.items c.in_ok-clause.clause) in
    stop clause_tokens_at after_comma (progress_of c.args.self.now) (progress_of c.clauses.self) (progress_of c.clause_tokens.new.self) (clauses_in c.clauses.clauses.items) (clause_of c.in_ok-clause.clause) c.in_ok-clause.ensures c.if-not-take_comma.ensures.0 c.clauses.invariant
    ∙ ap (λ z. Some (z, progress_of c.clause_tokens.new.self)) (sym pushed)
    ∙ ap (λ z. Some (clauses_in c.push.new.self.items, ((progress_of c.clause_tokens.new.self).0, z))) (sym c.if-not-take_comma.ensures.1)

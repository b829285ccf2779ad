use Rattle.std.proofs.Common.{◌≡◌, ◌∷◌, [], ◌++◌}
use Rattle.text_lines.specs.Marks.{after_comma}
use Rattle.text_lines.specs.Parts.{clause_at}
use Rattle.text_lines.specs.Steps.{progress_of}
use Rattle.text_lines.proofs.EachMark.{comma-mark}
use Rattle.text_lines.proofs.Going.{begin, go_on, shorter}
use Rattle.text_lines.proofs.Types.{clause-part}
use Rattle.text_lines.proofs.reader.Reader.clauses.Goals as goal

pub clauses-init : goal.clauses-init
clauses-init c = rw c.new-clauses.ensures.items (begin clause_at after_comma (progress_of c.args.self.now))

pub clauses-smaller : goal.clauses-smaller
clauses-smaller c = shorter clause-part comma-mark (progress_of c.clauses.self) (progress_of c.clause.new.self) c.in_ok-clause.clause c.take_comma.new.self c.in_ok-clause.ensures (c.if-not-take_comma.ensures)

pub clauses-preserved : goal.clauses-preserved
clauses-preserved c =
    let pushed : c.push.new.self.items ≡ c.clauses.clauses.items ++ c.in_ok-clause.clause ∷ [] = c.in_ok-push.ensures.items in
    let less = shorter clause-part comma-mark (progress_of c.clauses.self) (progress_of c.clause.new.self) c.in_ok-clause.clause c.take_comma.new.self c.in_ok-clause.ensures (c.if-not-take_comma.ensures) in
    rw pushed (go_on clause_at after_comma _ (progress_of c.clauses.self) (progress_of c.clause.new.self) c.clauses.clauses.items c.in_ok-clause.clause c.take_comma.new.self c.in_ok-clause.ensures (c.if-not-take_comma.ensures) less c.clauses.invariant)

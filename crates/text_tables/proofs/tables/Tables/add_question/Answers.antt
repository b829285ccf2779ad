use Rattle.std.proofs.Common.{arith}
use Rattle.std.proofs.lemmas.List.{length-map}
use Rattle.text_tables.specs.Views.{crate_of}
use Rattle.text_tables.proofs.Consistent.{question-consistent}
use Rattle.text_tables.proofs.Unasked.{all-but-last, popped, refused}
use Rattle.text_tables.proofs.tables.Tables.add_question.Goals as goal

pub returns-in-Ok-clause-consistent : goal.returns-in-Ok-clause-consistent
returns-in-Ok-clause-consistent c =
    question-consistent c.args.self.now _ _ c.args.entry c.requires.consistent c.requires.asked c.requires.clauses c.in-Ok.ensures.items c.in_ok-push.ensures.items
    (omega (arith, c.requires.asker, length-map c.args.self.now.crates.items crate_of))

pub returns-in-Err-clause-still_consistent : goal.returns-in-Err-clause-still_consistent
returns-in-Err-clause-still_consistent c =
    refused c.args.self.now _ _ c.requires.consistent c.in-Err.ensures.items
    (popped c.args.self.now.asked.items c.push.new.self.items c.pop-taken.new.self.items c.args.entry.asked_how c.in_ok-push.ensures.items (all-but-last c.push.new.self _ c.pop-taken.ensures.rest))

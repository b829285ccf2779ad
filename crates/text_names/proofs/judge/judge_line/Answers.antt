use Rattle.std.proofs.Common.{ap, ◌∙◌}
use Rattle.text_language.specs.Faults.{first_of}
use Rattle.text_names.proofs.judge.judge_line.Goals as goal

pub returns-clause-fault : goal.returns-clause-fault
returns-clause-fault g c l h = c.judged_by.ensures.fault ∙ ap first_of (c.in_ok-tests.ensures l h (c.in_ok-found.ensures l h))

pub returns-clause-found : goal.returns-clause-found
returns-clause-found g c = c.judged_by.ensures.found (g.N.Names.sight c.args.names.now) c.args.read.now c.in_ok-found.ensures

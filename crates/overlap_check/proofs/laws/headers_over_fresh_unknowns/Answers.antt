use Rattle.std.proofs.Common.{ap}
use Rattle.type_terms.specs.Promised.Worlds.{Reference}
use Rattle.infer_table.specs.Content.{content}
use Rattle.overlap_check.proofs.Solved.{ready-facts}
use Rattle.overlap_check.proofs.Pairs.{apart, has-goals}
use Rattle.overlap_check.proofs.laws.headers_over_fresh_unknowns.Goals as goal

pub returns-clause-apart : goal.returns-clause-apart
returns-clause-apart c = λ w x t ps qs p n m. apart w x t ps qs p.left p.right n m

pub returns-clause-other_traits : goal.returns-clause-other_traits
returns-clause-other_traits c = λ w x n m. n (ap (λ (r : Reference). r.trait) m.equal)

pub returns-clause-goals : goal.returns-clause-goals
returns-clause-goals c = λ w x t ps qs p same es u ready more equates. has-goals w x t ps qs p.left p.right same u more (content es u.values) equates (ready-facts es u ready)

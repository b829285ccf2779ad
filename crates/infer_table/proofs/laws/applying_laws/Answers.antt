use Rattle.infer_table.specs.Content.{content}
use Rattle.infer_table.proofs.EquationFacts.{solved-sorted}
use Rattle.infer_table.proofs.Covers.{applies, refuses}
use Rattle.infer_table.proofs.laws.applying_laws.Goals as goal

pub returns-clause-applies : goal.returns-clause-applies
returns-clause-applies c = λ es t originals r new s law ho hv n k own e h g. applies es law t originals r s (solved-sorted s (content es t.values) h) ho hv n k new (content es t.values) own h e g

pub returns-clause-refuses : goal.returns-clause-refuses
returns-clause-refuses c = λ es t originals r s law ho hv n k own e h g. refuses es law t originals r s (solved-sorted s (content es t.values) h) ho hv n k (content es t.values) own h e g

pub returns-clause-narrows : goal.returns-clause-narrows
returns-clause-narrows c = λ old new a b s e h. (e.only s h).0

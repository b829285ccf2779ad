use Rattle.infer_table.proofs.CanonicalLaws.{canonical_form-renamed, canonical_form-equal}
use Rattle.infer_table.proofs.laws.canonical_form_laws.Goals as goal

pub returns : goal.returns
returns c = λ g h p q. (λ e. canonical_form-equal g h p.environment p.predicate q.environment q.predicate e, λ r. canonical_form-renamed g h r)

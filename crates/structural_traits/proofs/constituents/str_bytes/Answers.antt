use Rattle.std.proofs.Common.{ap, ◌∙◌, arith, Err}
use Rattle.type_terms.specs.Promised.Label.{slice}
use Rattle.type_terms.specs.Promised.Trees.{tree, none}
use Rattle.type_terms.specs.Promised.Handles.{types}
use Rattle.type_terms.specs.Kept.{trees-is}
use Rattle.type_terms.proofs.FailFacts.{refused-term, at-limit}
use Rattle.type_terms.proofs.Grown.{grew-on}
use Rattle.structural_traits.proofs.constituents.str_bytes.Goals as goal

pub returns-in_err-byte-clause-terms : goal.returns-in_err-byte-clause-terms
returns-in_err-byte-clause-terms c = record {
  grew = c.mk_ty.ensures.grew;
  full =
      let refused = c.in_err-byte.ensures in
      at-limit c.from_residual.result c.from_residual.ensures.1 (λ p. refused-term types (omega arith) (refused.full (ap Err p)) refused.grew.limit refused.refused);
}

pub returns-in_err-bytes-clause-terms : goal.returns-in_err-bytes-clause-terms
returns-in_err-bytes-clause-terms c = record {
  grew = grew-on c.mk_ty.ensures.grew c.mk_ty-2.ensures.grew;
  full =
      let refused = c.in_err-bytes.ensures in
      let handed = c.from_residual-in_err-bytes in
      at-limit handed.result handed.ensures.1 (λ p. refused-term types (omega arith) (refused.full (ap Err p)) refused.grew.limit refused.refused);
}

pub returns-clause-is : goal.returns-clause-is
returns-clause-is c =
    let mid = c.mk_ty.new.self.entries in
    let new = c.mk_ty-2.new.self.entries in
    trees-is new types c.in_ok-bytes.bytes.0 _ c.in_ok-bytes.ensures.is ∙ ap (λ t. tree slice t none) (trees-is mid types c.in_ok-byte.byte.0 _ c.in_ok-byte.ensures.is)

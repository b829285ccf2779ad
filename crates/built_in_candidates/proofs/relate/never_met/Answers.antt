use Rattle.std.proofs.Common.{◌≡◌, ap, arith, Err}
use Rattle.type_terms.specs.Promised.Label.{bool, char, of_type}
use Rattle.type_terms.specs.Promised.Trees.{Trees, leaf}
use Rattle.type_terms.specs.Promised.Handles.{types, trees_at}
use Rattle.type_terms.specs.Kept.{trees-is, has-later}
use Rattle.type_terms.proofs.FailFacts.{refused-term, at-limit}
use Rattle.goal_evaluator.specs.FrameTables.{Equation}
use Rattle.type_terms.proofs.Grown.{grew-on}
use Rattle.built_in_candidates.proofs.relate.never_met.Goals as goal

pub returns-in_err-bool_ty-clause-terms : goal.returns-in_err-bool_ty-clause-terms
returns-in_err-bool_ty-clause-terms c = record {
  grew = c.mk_ty.ensures.grew;
  full =
      let refused = c.in_err-bool_ty.ensures in
      at-limit c.from_residual.result c.from_residual.ensures.1 (λ p. refused-term types (omega arith) (refused.full (ap Err p)) refused.grew.limit refused.refused);
}

pub returns-in_err-char_ty-clause-terms : goal.returns-in_err-char_ty-clause-terms
returns-in_err-char_ty-clause-terms c = record {
  grew = grew-on c.mk_ty.ensures.grew c.mk_ty-2.ensures.grew;
  full =
      let refused = c.in_err-char_ty.ensures in
      let handed = c.from_residual-in_err-char_ty in
      at-limit handed.result handed.ensures.1 (λ p. refused-term types (omega arith) (refused.full (ap Err p)) refused.grew.limit refused.refused);
}

pub returns-clause-held : goal.returns-clause-held
returns-clause-held c =
    (has-later c.mk_ty.new.self.entries c.mk_ty-2.new.self.entries c.mk_ty-2.ensures.grew.keeps types c.in_ok-bool_ty.bool_ty.0 (_, c.in_ok-bool_ty.ensures.is), (_, c.in_ok-char_ty.ensures.is))

equated : (s t u v : Trees) → s ≡ u → t ≡ v
    → ◌≡◌ {A = Equation} (record { left = record { sort = of_type; trees = s }; right = record { sort = of_type; trees = t } }) (record { left = record { sort = of_type; trees = u }; right = record { sort = of_type; trees = v } })
equated s t u v e f = cc

pub returns-clause-is : goal.returns-clause-is
returns-clause-is c =
    let new = c.mk_ty-2.new.self.entries in
    equated (trees_at new c.in_ok-bool_ty.bool_ty.0) (trees_at new c.in_ok-char_ty.char_ty.0) (leaf bool) (leaf char)
    (trees-is new types c.in_ok-bool_ty.bool_ty.0 _ (c.mk_ty-2.ensures.grew.keeps c.in_ok-bool_ty.bool_ty.0 _ c.in_ok-bool_ty.ensures.is))
    (trees-is new types c.in_ok-char_ty.char_ty.0 _ c.in_ok-char_ty.ensures.is)

use Rattle.std.proofs.Common.{true, sym, ap, ◌∙◌, List, [], ◌∷◌, inl, inr}
use Rattle.type_terms.specs.Promised.Trees.{Trees, none, some_node}
use Rattle.type_terms.specs.Kept.{args-held-later}
use Rattle.type_terms.specs.Pieces.{Piece}
use Rattle.type_terms.proofs.Made.{false-true}
use Rattle.sessions.specs.Proving.{is_bound_term}
use Rattle.sessions.proofs.Answering.{values-earlier}
use Rattle.sessions.proofs.proving.read_values.Goals as goal

abbrev first_trees : List Piece → Trees
first_trees [] = none
first_trees (p ∷ ps) = p.trees

pub values_of-requires-clause-held : goal.values_of-requires-clause-held
values_of-requires-clause-held c = args-held-later c.args.cx.now.entries c.eager_resolve_vars.new.cx.entries c.eager_resolve_vars.ensures.terms.grew.keeps c.args.unknowns.now c.requires.unknowns

pub returns-then-not-has_bound-clause-read : goal.returns-then-not-has_bound-clause-read
returns-then-not-has_bound-clause-read c = (
  c.in_ok-values.ensures.are
      ∙ values-earlier c.args.cx.now.entries c.eager_resolve_vars.new.cx.entries c.eager_resolve_vars.ensures.terms.grew.keeps c.args.table.now c.requires.ready c.args.unknowns.now c.requires.unknowns,
  c.if-is_proved.true,
  ap (λ t. some_node is_bound_term t) (sym (ap first_trees c.in_ok-resolved.ensures.resolved)) ∙ sym c.has_bound_terms-has_bound.ensures ∙ c.if-not-has_bound.true,
)

pub returns-else-is_proved-clause-read : goal.returns-else-is_proved-clause-read
returns-else-is_proved-clause-read c = (
  c.in_ok-values.ensures.are
      ∙ values-earlier c.args.cx.now.entries c.eager_resolve_vars.new.cx.entries c.eager_resolve_vars.ensures.terms.grew.keeps c.args.table.now c.requires.ready c.args.unknowns.now c.requires.unknowns,
  λ proved. elim c.else-is_proved.either [
    | inl h ↦ ap (λ t. some_node is_bound_term t) (sym (ap first_trees c.in_ok-resolved.ensures.resolved)) ∙ sym c.has_bound_terms-has_bound.ensures ∙ h.1
    | inr h ↦ absurd (false-true (sym h ∙ proved))
  ],
)

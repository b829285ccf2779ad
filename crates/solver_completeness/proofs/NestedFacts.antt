-- What holds of all premises of the rule instances that the candidates are holds of their nested goals.
use Rattle.std.proofs.Common.{◌≡◌, List, [], ◌∷◌, sym, ◌∙◌, subst}
use Rattle.goal_evaluator.specs.Lists.{Every}
use Rattle.goal_evaluator.specs.Table.{Tables, workings}
use Rattle.goal_evaluator.specs.Candidate.{Spec}
use Rattle.solver_completeness.specs.Closed.{EquationsRefuse, AreWays, no_more, refused, applied, DeterminesNested}
use Rattle.solver_completeness.specs.NestedFacts.{AsksOnly}
use Rattle.solver_completeness.proofs.MovedWays.{every-from}

module _ {Question Response : Type 0} (t : Tables Question Response) (begin : t.Table) (v : t.Values) (P : t.Fact → Type 0) where
  -- of each nested goal, with all terms with which the equations hold
  abbrev Asks : Spec (workings t) → List t.Nested → Type 0
  Asks c ns = Every (λ n. (s : t.Assignment) → t.Allows (t.fresh begin c.kinds) s → Every (λ e. t.Meets e s) c.equations → t.own s ≡ v → P (t.fact n s)) ns

  none-asked : (c : Spec (workings t)) → EquationsRefuse t begin v c → (ns : List t.Nested) → Asks c ns
  none-asked c r [] = tt
  none-asked c r (n ∷ ns) = (λ s l m o. absurd (r s l o m), none-asked c r ns)

  all-asked : (c : Spec (workings t)) (a : t.Assignment) (ns : List t.Nested)
      → ((s : t.Assignment) → t.Allows (t.fresh begin c.kinds) s → Every (λ e. t.Meets e s) c.equations → t.own s ≡ v → Every (λ n. t.fact n s ≡ t.fact n a) ns) → Every (λ n. P (t.fact n a)) ns → Asks c ns
  all-asked c a [] f h = tt
  all-asked c a (n ∷ ns) f h = (λ s l m o. subst P (sym (f s l m o).0) h.0, all-asked c a ns (λ s l m o. (f s l m o).1) h.1)

  pub premises-asked : (cs : List (Spec (workings t))) (found : List (List t.Fact)) → AreWays t begin v cs found → Every (DeterminesNested t begin) cs → Every (Every P) found → Every (AsksOnly t P begin v) cs
  premises-asked [] [] no_more d h = tt
  premises-asked [] (ps ∷ found) u d h = elim u [ ]
  premises-asked (c ∷ cs) found (refused r u) d h = (none-asked c r c.nested, premises-asked cs found u d.1 h)
  premises-asked (c ∷ cs) (ps ∷ found) (applied a u) d h = (
    all-asked c a.assignment c.nested (λ s l m o. d.0 s a.assignment l a.allowed m a.meets (o ∙ sym a.own))
        (every-from (λ n. t.fact n a.assignment) P (λ n. P (t.fact n a.assignment)) (λ n p. p) c.nested (subst (Every P) (sym a.needs) h.0)),
    premises-asked cs found u d.1 h.1,
  )

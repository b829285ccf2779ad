-- Of a candidate it does not count what it records of lifetimes.
use Rattle.std.proofs.Common.{◌≡◌, suc, ◌+◌, List, [], ◌∷◌, map, length, inl, inr, refl, ap}
use Rattle.type_terms.specs.Promised.Trees.{Trees}
use Rattle.type_terms.specs.Promised.Worlds.{Reference}
use Rattle.infer_table.specs.declared.canonical.CanonicalVarKind.{CanonicalVarKind}
use Rattle.goal_evaluator.specs.Content.{Values}
use Rattle.goal_evaluator.specs.Lists.{Every, SomeOf}
use Rattle.goal_evaluator.specs.Plans.{nested_in}
use Rattle.goal_evaluator.specs.Tables.{frame_tables}
use Rattle.candidate_model.specs.Candidates.{Candidate, recording}
use Rattle.candidate_model.specs.Cover.{SolvesEquations}

module _ (r : Trees) where
  pub every-recorded : (P : Candidate → Type 0) → ((c : Candidate) → P c → P (recording r c)) → (cs : List Candidate) → Every P cs → Every P (map (recording r) cs)
  every-recorded P f [] h = tt
  every-recorded P f (c ∷ cs) h = (f c h.0, every-recorded P f cs h.1)

  pub some-recorded : (P : Candidate → Type 0) → ((c : Candidate) → P c → P (recording r c)) → (cs : List Candidate) → SomeOf P cs → SomeOf P (map (recording r) cs)
  some-recorded P f [] h = absurd h
  some-recorded P f (c ∷ cs) (inl h) = inl (f c h)
  some-recorded P f (c ∷ cs) (inr h) = inr (some-recorded P f cs h)

  pub some-unrecorded : (P : Candidate → Type 0) → ((c : Candidate) → P (recording r c) → P c) → (cs : List Candidate) → SomeOf P (map (recording r) cs) → SomeOf P cs
  some-unrecorded P f [] h = absurd h
  some-unrecorded P f (c ∷ cs) (inl h) = inl (f c h)
  some-unrecorded P f (c ∷ cs) (inr h) = inr (some-unrecorded P f cs h)

  pub length-recorded : (cs : List Candidate) → length (map (recording r) cs) ≡ length cs
  length-recorded [] = refl
  length-recorded (c ∷ cs) = ap suc (length-recorded cs)

  pub nested-recorded : (cs : List Candidate) → nested_in frame_tables (map (recording r) cs) ≡ nested_in frame_tables cs
  nested-recorded [] = refl
  nested-recorded (c ∷ cs) = ap (λ n. length c.nested + n) (nested-recorded cs)

  module _ (H : Reference → Type 0) (kinds : List CanonicalVarKind) (v : Values) where
    pub gives-recorded : (c : Candidate) → SolvesEquations H kinds v c → SolvesEquations H kinds v (recording r c)
    gives-recorded c g = record { own = g.own; sorted = g.sorted; equal = g.equal; solves = g.solves }

    pub gives-unrecorded : (c : Candidate) → SolvesEquations H kinds v (recording r c) → SolvesEquations H kinds v c
    gives-unrecorded c g = record { own = g.own; sorted = g.sorted; equal = g.equal; solves = g.solves }

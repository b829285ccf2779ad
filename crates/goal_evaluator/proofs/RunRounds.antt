-- The run of a round, reply by reply, and of the rounds, round by round.
use Rattle.std.proofs.Common.{◌≡◌, ℕ, suc, true, false, List, ◌∷◌, ◌∙◌, ap, Option, Some, None}
use Rattle.goal_evaluator.specs.Operations.{Operations, is_yes}
use Rattle.goal_evaluator.specs.Replays.{ready, run, onward}
use Rattle.goal_evaluator.specs.Rounds.{kept, judged, applied, round, next_round, rounds}
use Rattle.goal_evaluator.proofs.Replays.{run-followed}

module _ {Question Response : Type 0} (o : Operations Question Response) where
  -- and so does one that cannot be applied
  pub run-unapplied : (n : o.Nested) (ns : List o.Nested) (T : o.Table) (r : Response) (more : List (Option Response)) → o.apply T n r ≡ None
      → run (round o (n ∷ ns) T) (Some r ∷ more) ≡ ready None more
  run-unapplied n ns T r more e = ap (λ a. run (applied o (round o ns) n r a) more) e

  -- a definite yes drops its goal
  pub run-dropped : (n : o.Nested) (ns : List o.Nested) (T U : o.Table) (r : Response) (more : List (Option Response)) → o.apply T n r ≡ Some U → is_yes o r ≡ true
      → run (round o (n ∷ ns) T) (Some r ∷ more) ≡ run (round o ns U) more
  run-dropped n ns T U r more e y = ap (λ a. run (applied o (round o ns) n r a) more) e ∙ ap (λ b. run (judged o (round o ns) n r U b) more) y

  -- any other answer keeps it
  pub run-kept : (n : o.Nested) (ns : List o.Nested) (T U : o.Table) (r : Response) (more : List (Option Response)) → o.apply T n r ≡ Some U → is_yes o r ≡ false
      → run (round o (n ∷ ns) T) (Some r ∷ more) ≡ onward (kept o n r) (run (round o ns U) more)
  run-kept n ns T U r more e y =
      ap (λ a. run (applied o (round o ns) n r a) more) e ∙ ap (λ b. run (judged o (round o ns) n r U b) more) y ∙ run-followed (kept o n r) (round o ns U) more

  -- the rounds go on with what the first one ends with
  pub run-rounds : (limit : ℕ) (ns : List o.Nested) (T : o.Table) (replies : List (Option Response))
      → run (rounds o (suc limit) ns T) replies ≡ onward (next_round o (rounds o limit)) (run (round o ns T) replies)
  run-rounds limit ns T replies = run-followed (next_round o (rounds o limit)) (round o ns T) replies

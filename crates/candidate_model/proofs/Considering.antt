-- What a plan considers, whatever comes of it.
use Rattle.std.proofs.Common.{◌≡◌, ℕ, List, [], ◌∷◌, subst, ap, Option, Some, None}
use Rattle.goal_evaluator.specs.Lists.{Every}
use Rattle.goal_evaluator.specs.Table.{Tables, workings}
use Rattle.goal_evaluator.specs.Candidate.{Spec, Considered, Next, consider, answer}
use Rattle.goal_evaluator.specs.Plans.{Plan, considers, answers, told, after, wanted, came, each_of, if_refused, first_alone}

module _ {Question Response : Type 0} (t : Tables Question Response) (P : Spec (workings t) → Type 0) where
  -- all candidates that it may consider are so
  abbrev pub ConsidersOnly : Plan t → Type 0
  ConsidersOnly (considers s go) = P s × ((a : Option Response) (n : ℕ) → ConsidersOnly (go a n))
  ConsidersOnly (answers a ignored) = Unit {0}

  told-only : (c : Considered (workings t)) (p : Plan t) → ConsidersOnly p → ConsidersOnly (told t c p)
  told-only c (considers s go) h = h.1 c.response c.number
  told-only c (answers a ignored) h = tt

  pub after-only : (p : Plan t) (seen : List (Considered (workings t))) → ConsidersOnly p → ConsidersOnly (after t p seen)
  after-only p [] h = h
  after-only p (c ∷ seen) h = told-only c (after t p seen) (after-only p seen h)

  abbrev spec_in : Spec (workings t) → Next (workings t) → Spec (workings t)
  spec_in s (consider c) = c
  spec_in s (answer a ignored) = s

  pub wanted-only : (p : Plan t) (c : Spec (workings t)) → ConsidersOnly p → wanted t p ≡ consider c → P c
  wanted-only (considers s go) c h e = subst P (ap (spec_in s) e) h.0
  wanted-only (answers a ignored) c h e = absurd (cc)

  pub each-only : (specs : List (Spec (workings t))) (go : List (Considered (workings t)) → Plan t) (seen : List (Considered (workings t)))
      → Every P specs → ((later : List (Considered (workings t))) → ConsidersOnly (go later)) → ConsidersOnly (each_of t specs go seen)
  each-only [] go seen h k = k seen
  each-only (s ∷ specs) go seen h k = (h.0, λ a n. each-only specs go (came t s a n ∷ seen) h.1 k)

  refused-only : (refused held : Plan t) (a : Option Response) → ConsidersOnly refused → ConsidersOnly held → ConsidersOnly (if_refused t refused held a)
  refused-only refused held None h g = h
  refused-only refused held (Some r) h g = g

  pub first-only : (s : Spec (workings t)) (refused held : List (Considered (workings t)) → Plan t) (seen : List (Considered (workings t))) → P s
      → ((later : List (Considered (workings t))) → ConsidersOnly (refused later)) → ((later : List (Considered (workings t))) → ConsidersOnly (held later))
      → ConsidersOnly (first_alone t s refused held seen)
  first-only s refused held seen p h g = (p, λ a n. refused-only (refused (came t s a n ∷ seen)) (held (came t s a n ∷ seen)) a (h (came t s a n ∷ seen)) (g (came t s a n ∷ seen)))

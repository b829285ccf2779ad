-- What was considered along a plan holds a candidate of a kind whenever the plan answers.
use Rattle.std.proofs.Common.{◌≡◌, ℕ, List, [], ◌∷◌, refl, ap, subst, Option, Some, None}
use Rattle.goal_evaluator.specs.Lists.{SomeOf}
use Rattle.goal_evaluator.specs.Table.{Tables, workings}
use Rattle.goal_evaluator.specs.Candidate.{Spec, Considered, Next, consider, answer, IsHistory}
use Rattle.goal_evaluator.specs.Plans.{Plan, considers, answers, told, after, wanted, came, each_of, if_refused, first_alone, GoesByConsidering}

module _ {Question Response : Type 0} (t : Tables Question Response) (Q : Considered (workings t) → Type 0) where
  -- after these each answer of the plan comes when some considered candidate is so
  abbrev pub Holds : List (Considered (workings t)) → Plan t → Type 0
  Holds seen (answers a ignored) = SomeOf Q seen
  Holds seen (considers s go) = (a : Option Response) (n : ℕ) → Holds (came t s a n ∷ seen) (go a n)

  abbrev spec_in : Spec (workings t) → Next (workings t) → Spec (workings t)
  spec_in s (consider c) = c
  spec_in s (answer a ignored) = s

  same_considered : (s : Spec (workings t)) (c : Considered (workings t)) → s ≡ c.spec → came t s c.response c.number ≡ c
  same_considered s c e = ap (λ z. came t z c.response c.number) e

  step : (c : Considered (workings t)) (seen : List (Considered (workings t))) (p : Plan t) → wanted t p ≡ consider c.spec → Holds seen p → Holds (c ∷ seen) (told t c p)
  step c seen (answers a ignored) e h = absurd (cc)
  step c seen (considers s go) e h = subst (λ z. Holds (z ∷ seen) (go c.response c.number)) (same_considered s c (ap (spec_in s) e)) (h c.response c.number)

  walk : (p : Plan t) → Holds [] p → (seen : List (Considered (workings t))) → IsHistory (workings t) (λ seen. wanted t (after t p seen)) seen → Holds seen (after t p seen)
  walk p h [] hist = h
  walk p h (c ∷ seen) hist = step c seen (after t p seen) hist.0 (walk p h seen hist.2)

  ends : (seen : List (Considered (workings t))) (p : Plan t) (a : Option Response) (ignored : List ℕ) → wanted t p ≡ answer a ignored → Holds seen p → SomeOf Q seen
  ends seen (answers b others) a ignored e h = h
  ends seen (considers s go) a ignored e h = absurd (cc)

  -- so it is along each history
  pub answered : (p : Plan t) → Holds [] p → (seen : List (Considered (workings t))) (a : Option Response) (ignored : List ℕ) → IsHistory (workings t) (λ seen. wanted t (after t p seen)) seen
      → wanted t (after t p seen) ≡ answer a ignored → SomeOf Q seen
  answered p h seen a ignored hist e = ends seen (after t p seen) a ignored e (walk p h seen hist)

  pub each-holds : (specs : List (Spec (workings t))) (go : List (Considered (workings t)) → Plan t) (seen : List (Considered (workings t)))
      → ((later : List (Considered (workings t))) → GoesByConsidering t specs seen later → Holds later (go later)) → Holds seen (each_of t specs go seen)
  each-holds [] go seen k = k seen refl
  each-holds (s ∷ specs) go seen k = λ a n. each-holds specs go (came t s a n ∷ seen) (λ later g. k later (a, n, g))

  holds-if : (seen : List (Considered (workings t))) (refused held : Plan t) (a : Option Response) → Holds seen refused → Holds seen held → Holds seen (if_refused t refused held a)
  holds-if seen refused held None h g = h
  holds-if seen refused held (Some r) h g = g

  pub first-holds : (s : Spec (workings t)) (refused held : List (Considered (workings t)) → Plan t) (seen : List (Considered (workings t)))
      → ((later : List (Considered (workings t))) → GoesByConsidering t (s ∷ []) seen later → Holds later (refused later))
      → ((later : List (Considered (workings t))) → GoesByConsidering t (s ∷ []) seen later → Holds later (held later))
      → Holds seen (first_alone t s refused held seen)
  first-holds s refused held seen h g = λ a n. holds-if (came t s a n ∷ seen) (refused (came t s a n ∷ seen)) (held (came t s a n ∷ seen)) a (h (came t s a n ∷ seen) (a, n, refl)) (g (came t s a n ∷ seen) (a, n, refl))

-- A lawful list of candidates is a lawful plan.
use Rattle.std.proofs.Common.{◌≡◌, ℕ, ◌+◌, arith, Bool, List, [], ◌∷◌, length, ap, subst, Option}
use Rattle.std.specs.List.{slice_get}
use Rattle.goal_evaluator.specs.Lists.{Every}
use Rattle.goal_evaluator.specs.Table.{Tables, IsTable, workings}
use Rattle.goal_evaluator.specs.Candidate.{Spec, Considered, Next, consider, answer}
use Rattle.goal_evaluator.specs.Handler.{IsHandler}
use Rattle.goal_evaluator.specs.Merge.{responses, TellsResponsesApart, IsTest}
use Rattle.goal_evaluator.specs.Plans.{Plan, considers, answers, told, after, wanted, came, each_of}
use Rattle.goal_evaluator.specs.PlanAnswers.{all_merged}
use Rattle.goal_evaluator.proofs.Plans.{plan_is_lawful}
use Rattle.goal_evaluator.proofs.PlanAnswers.{list_keeps}
use Rattle.goal_frames.specs.Listings.{Listing, plan_of, as_plan, listed, IsListing}

pub listings-are-lawful : {Question Response : Type 0} (t : Tables Question Response) (applicable : Response → Bool) (same : Response → Response → Bool) → IsTable t → IsTest t applicable → TellsResponsesApart same
    → (l : Listing t) → IsListing t applicable same l → IsHandler t (listed t applicable same l)
listings-are-lawful t applicable same table is_test same_is l laws =
    plan_is_lawful t (as_plan t applicable same l)
    (record {
      begins = laws.begins;
      says_nothing = laws.says_nothing;
      begins_within = laws.begins_within;
      keeps = list_keeps t table applicable is_test same same_is (listed t applicable same l) laws.says_nothing laws.begins_within l.specs laws.each laws.cover (omega arith) laws.asks;
    })

module _ {Question Response : Type 0} (t : Tables Question Response) (applicable : Response → Bool) (same : Response → Response → Bool) where
  -- ---- what holds of each candidate of a plan holds of each that it wants
  abbrev EachOf : (Spec (workings t) → Type 0) → Plan t → Type 0
  EachOf P (considers s go) = P s × ((a : Option Response) (n : ℕ) → EachOf P (go a n))
  EachOf P (answers a ignored) = Unit {0}

  told-each : (P : Spec (workings t) → Type 0) (c : Considered (workings t)) (p : Plan t) → EachOf P p → EachOf P (told t c p)
  told-each P c (considers s go) h = h.1 c.response c.number
  told-each P c (answers a ignored) h = tt

  after-each : (P : Spec (workings t) → Type 0) (p : Plan t) → EachOf P p → (seen : List (Considered (workings t))) → EachOf P (after t p seen)
  after-each P p h [] = h
  after-each P p h (c ∷ seen) = told-each P c (after t p seen) (after-each P p h seen)

  abbrev spec-in : Spec (workings t) → Next (workings t) → Spec (workings t)
  spec-in s (consider c) = c
  spec-in s (answer a ignored) = s

  wanted-each : (P : Spec (workings t) → Type 0) (p : Plan t) → EachOf P p → (c : Spec (workings t)) → wanted t p ≡ consider c → P c
  wanted-each P (considers s go) h c e = subst P (ap (spec-in s) e) h.0
  wanted-each P (answers a ignored) h c e = absurd (cc)

  specs-each : (P : Spec (workings t) → Type 0) (begin : t.Table) (specs : List (Spec (workings t))) (seen : List (Considered (workings t))) → Every P specs → EachOf P (each_of t specs (all_merged t applicable same begin) seen)
  specs-each P begin [] seen h = tt
  specs-each P begin (s ∷ specs) seen h = (h.0, λ a n. specs-each P begin specs (came t s a n ∷ seen) h.1)

  -- what is considered stands in the list
  pub listed-each : (P : Spec (workings t) → Type 0) (l : Listing t) → Every P l.specs → (seen : List (Considered (workings t))) (c : Spec (workings t)) → (listed t applicable same l).next seen ≡ consider c → P c
  listed-each P l h seen c e = wanted-each P (after t (plan_of t applicable same l) seen) (after-each P (plan_of t applicable same l) (specs-each P l.begin l.specs [] h) seen) c e

  -- ---- what comes next, by the place in the list
  module _ (begin : t.Table) (specs : List (Spec (workings t))) where
    -- these candidates are left of the plan, and it knows the responses of those before them
    record IsLeft (seen : List (Considered (workings t))) (p : Plan t) : Type 0 where
      left : List (Spec (workings t))
      heard : List (Considered (workings t))
      is : p ≡ each_of t left (all_merged t applicable same begin) heard
      same_responses : responses t heard ≡ responses t seen
      place : (i : ℕ) → slice_get specs (length seen + i) ≡ slice_get left i

-- The meaning of a handler for one goal, and the laws of handlers.
use Rattle.std.specs.Prelude.{◌≡◌, ℕ, Bool, false, ◌+◌, ◌≤◌, ◌<◌, List, [], ◌∷◌, map, length, Option, Some, None}
use Rattle.infer_table.specs.declared.certainty.Certainty.{Certainty}
use Rattle.infer_table.specs.declared.certainty.Certainty.TheVariants.{Yes}
use Rattle.goal_evaluator.specs.Lists.{Every, SomeOf, IsAmong, IsNoneOf, IsDistinct}
use Rattle.goal_evaluator.specs.Table.{Tables, workings, IsFree}
use Rattle.goal_evaluator.specs.Candidate.{Spec, Considered, Next, consider, answer, used_numbers, IsHistory}
use Rattle.goal_evaluator.specs.Law.{IsYes, AgreesTo, Realizes}

module _ {Question Response : Type 0} (t : Tables Question Response) where
  pub record Handled : Type 1 where
    -- the goal's instances, and the table with which its frame begins
    pub goal : t.Values → t.Fact
    pub begin : t.Table
    -- the next request after these evaluated candidates, the newest first
    pub next : List (Considered (workings t)) → Next (workings t)
    -- a rule concludes the trait reference from these premises
    pub Rule : t.Fact → List t.Fact → Type 0
    -- The sets of crates in which solutions are sought, and what has a proof there. Outside coherence there are none.
    pub World : Type 0
    pub Proves : World → t.Fact → Type 0
    -- whether the goal's trait is coinductive
    pub coinductive : Bool
    -- the greatest number of candidates, and of nested goals of all candidates together
    pub candidates : ℕ
    pub number : ℕ
    -- the greatest width of a term in its frame
    pub widest : ℕ

  abbrev pub nested_of : List (Considered (workings t)) → ℕ
  nested_of [] = 0
  nested_of (c ∷ seen) = length c.spec.nested + nested_of seen

  -- a result without a solution has no values
  abbrev pub AnswerWithin : ℕ → Option Response → Type 0
  AnswerWithin n None = Unit {0}
  AnswerWithin n (Some r) = t.number_in r ≤ n

  -- some rule concludes the goal's instance at these values from trait references that satisfy P
  pub record FollowsFrom (h : Handled) (P : t.Fact → Type 0) (v : t.Values) : Type 0 where
    pub premises : List t.Fact
    pub rule : h.Rule (h.goal v) premises
    pub each : Every P premises

  -- the laws of a candidate, whatever was evaluated before
  pub record CandidateIsLawful (h : Handled) (c : Spec (workings t)) : Type 0 where
    -- If its equations hold, the goal follows by a rule whose premises are among the candidate's nested goals, unless the
    -- candidate's own certainty is `Maybe`.
    pub sound : c.certainty ≡ Yes → (s : t.Assignment) → t.Allows (t.fresh h.begin c.kinds) s → Every (λ e. t.Meets e s) c.equations
        → FollowsFrom h (λ f. IsAmong f (map (λ n. t.fact n s) c.nested)) (t.own s)
    -- in this case the steps to its nested goals are coinductive exactly if the goal's trait is
    pub steps : c.certainty ≡ Yes → (T : t.Table) → Every (λ n. t.is_coinductive (t.question T n) ≡ h.coinductive) c.nested
    -- the goal's variables determine its own, whatever its certainty
    pub determined : (s r : t.Assignment) → t.Allows (t.fresh h.begin c.kinds) s → t.Allows (t.fresh h.begin c.kinds) r
        → Every (λ e. t.Meets e s) c.equations → Every (λ e. t.Meets e r) c.equations
        → t.own s ≡ t.own r → Every (λ n. t.fact n s ≡ t.fact n r) c.nested
    -- its terms are at most this wide
    pub equations_within : Every (t.EquationWithin h.widest) c.equations
    pub nested_within : Every (t.NestedWithin h.widest) c.nested

  -- the laws of a candidate that is requested after these
  pub record IsCandidate (h : Handled) (seen : List (Considered (workings t))) (c : Spec (workings t)) : Type 0 where
    pub lawful : CandidateIsLawful h c
    -- the numbers of candidates and of their nested goals are not exceeded
    pub ends : length seen < h.candidates
    pub asks : length c.nested + nested_of seen ≤ h.number

  -- the laws of a result after these
  pub record AnswerIsLawful (h : Handled) (seen : List (Considered (workings t))) (a : Option Response) (ignored : List ℕ) : Type 0 where
    -- in every world a solution of the goal is one by an evaluated candidate
    pub cover : (w : h.World) (v : t.Values) → h.Proves w (h.goal v) → SomeOf (λ (c : Considered (workings t)). Realizes t (h.Proves w) h.begin v c.spec) seen
    -- a definite yes is the response of a candidate that is not ignored
    pub yes : IsYes t a → SomeOf (λ (c : Considered (workings t)). IsYes t c.response × IsNoneOf c.number ignored) seen
    -- if there is a world, values that agree with one of the responses agree with the result
    pub merged : h.World → (v : t.Values) → SomeOf (λ (c : Considered (workings t)). AgreesTo t c.response v) seen → AgreesTo t a v
    -- each ignored number is that of an evaluated candidate, and is ignored once
    pub ignores : Every (λ n. IsAmong n (used_numbers (workings t) seen)) ignored
    pub once : IsDistinct ignored
    -- the result has no wider terms than the responses
    pub within : Every (λ (c : Considered (workings t)). AnswerWithin h.widest c.response) seen → AnswerWithin h.widest a

  -- the laws of a handler
  pub record IsHandler (h : Handled) : Type 0 where
    pub begins : IsFree t h.begin
    pub says_nothing : (c : Certainty) → t.has_values (t.respond h.begin c) ≡ false
    pub begins_within : t.TableWithin h.widest h.begin
    pub candidate : (seen : List (Considered (workings t))) (c : Spec (workings t)) → IsHistory (workings t) h.next seen → h.next seen ≡ consider c → IsCandidate h seen c
    pub answer : (seen : List (Considered (workings t))) (a : Option Response) (ignored : List ℕ) → IsHistory (workings t) h.next seen → h.next seen ≡ answer a ignored → AnswerIsLawful h seen a ignored

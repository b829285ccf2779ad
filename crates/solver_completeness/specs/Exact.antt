-- The results of plain recursion for goals without inference variables.
use Rattle.std.specs.Prelude.{◌≡◌, ◌≤◌, ℕ, true, false, List, [], ◌∷◌, ◌++◌, length, Option, Some, None}
use Rattle.infer_table.specs.declared.certainty.Certainty.TheVariants.{Yes}
use Rattle.goal_evaluator.specs.Lists.{Every}
use Rattle.goal_evaluator.specs.Operations.{is_yes}
use Rattle.goal_evaluator.specs.Table.{Tables, operations, workings}
use Rattle.goal_evaluator.specs.Candidate.{Spec, Considered, Next, consider, answer}
use Rattle.goal_evaluator.specs.Merge.{responses}
use Rattle.goal_evaluator.specs.Handler.{Handled}
use Rattle.goal_frames.specs.Programs.{Programs}
use Rattle.goal_frames.specs.Searches.{Handles, GoalInMode, meaning}
use Rattle.search_graph.specs.Plain.{IsPlain}
use Rattle.solver_completeness.specs.Closed.{Closing, AreWays, DeterminesNested, AsksSuch, IsBare}
use Rattle.solver_completeness.specs.Ways.{IsSelection, HasShortChains, HasOneWayWithin, IsExactFor, IsRightFor}

module _ {Question Response : Type 0} (t : Tables Question Response) where
  -- each candidate was the one that the handler requested
  abbrev pub WereConsidered : (List (Considered (workings t)) → Next (workings t)) → List (Considered (workings t)) → Type 0
  WereConsidered next [] = Unit {0}
  WereConsidered next (c ∷ seen) = (next seen ≡ consider c.spec) × WereConsidered next seen

  -- The next candidate is one of the remaining ones. Some may be left out before it, but only if some candidate has a response.
  pub record GoesTo (left : List (Considered (workings t)) → List (Spec (workings t)))
      (seen : List (Considered (workings t))) (c : Spec (workings t)) : Type 0 where
    pub skipped : List (Spec (workings t))
    pub rest : List (Spec (workings t))
    pub is : left seen ≡ skipped ++ c ∷ rest
    pub after : (x : Option Response) (n : ℕ) → left (record { spec = c; response = x; number = n } ∷ seen) ≡ rest
    pub why : responses t seen ≡ [] → skipped ≡ []

  -- The result. It is `None` if no candidate has a response, and otherwise a response, even if some candidates are left out. It
  -- has no values if the responses have none. If there is one response and it is a definite yes, it is the result.
  pub record IsMadeOfResponses (left : List (Spec (workings t))) (seen : List (Considered (workings t))) (a : Option Response) : Type 0 where
    pub refused : responses t seen ≡ [] → (a ≡ None) × (left ≡ [])
    pub answers : (r : Response) (rs : List Response) → responses t seen ≡ r ∷ rs → (x : Response) × (a ≡ Some x)
    pub bare : Every (λ r. t.has_values r ≡ false) (responses t seen) → IsBare t a
    pub only : (r : Response) → responses t seen ≡ r ∷ [] → is_yes (operations t) r ≡ true → a ≡ Some r

module _ {Question Response : Type 0} (t : Tables Question Response) (k : Closing t) where
  -- the handler of a canonical goal without inference variables, at values that give different placeholders different terms: its
  -- candidates are exactly the rule instances of the goal's instance
  pub record IsExactHandler (ways : t.Fact → List (List t.Fact)) (IsAsked : Question → t.Values → Type 0) (q : Question) (v : t.Values) (h : Handled t) : Type 1 where
    -- its frame begins with a well-formed table for the canonical goal, whose instances are its goal's
    pub begins : k.shape h.begin ≡ k.shape_of q
    pub made : t.Made h.begin
    pub goal : h.goal v ≡ t.fact_of q v
    -- the candidates in the order of their evaluation
    pub specs : List (Spec (workings t))
    pub few : length specs ≤ h.candidates
    -- those that remain after these
    pub left : List (Considered (workings t)) → List (Spec (workings t))
    pub all : left [] ≡ specs
    pub considers : (seen : List (Considered (workings t))) (c : Spec (workings t))
        → WereConsidered t h.next seen → h.next seen ≡ consider c → GoesTo t left seen c
    pub makes : (seen : List (Considered (workings t))) (a : Option Response) (ignored : List ℕ)
        → WereConsidered t h.next seen → h.next seen ≡ answer a ignored → IsMadeOfResponses t (left seen) seen a
    -- the goal determines the nested goals of each candidate, and these are goals of the set
    pub determined : Every (DeterminesNested t h.begin) specs
    pub nested : Every (AsksSuch t k IsAsked h.begin v) specs
    -- those that apply are the rule instances of the goal's instance
    pub found : List (List t.Fact)
    pub applies : AreWays t h.begin v specs found
    pub selects : IsSelection found (ways (h.goal v))

  module _ (p : Programs t) (w : p.World) (mode : p.Mode) where
    -- what programs state about goals without inference variables, in addition to their laws
    pub record AnswersExactly : Type 1 where
      -- the goals of the set, with the values of their placeholders
      pub IsAsked : Question → t.Values → Type 0
      -- the rule instances of a trait reference, by their premises
      pub ways : t.Fact → List (List t.Fact)
      pub exact : (q : Question) (v : t.Values) → IsAsked q v → k.IsClosed (k.shape_of q) → k.IsApart (k.shape_of q) v → IsExactHandler ways IsAsked q v (p.handled w mode (p.goal_of q))

    -- no candidate is `Maybe` by itself
    abbrev pub AreSure : AnswersExactly → Type 0
    AreSure e =
        (q : Question) (v : t.Values) (i : e.IsAsked q v) (c : k.IsClosed (k.shape_of q)) (d : k.IsApart (k.shape_of q) v)
        → Every (λ (c : Spec (workings t)). c.certainty ≡ Yes) (e.exact q v i c d).specs

    module _ (e : AnswersExactly) {C I R F : Type 0} (handles : Handles C I R F p.World (GoalInMode t p) (Option Response)) where
      -- plain recursion in chains of fewer than n goals
      abbrev pub Plain : ℕ → Question → Option Response → Type 0
      Plain n q a = IsPlain (meaning t p handles) w n (mode, p.goal_of q) a

      -- if plain recursion refutes the goal, it is not possible, and if it has another result, it is possible
      abbrev pub PlainIsExact : Type 0
      PlainIsExact =
          (n : ℕ) (q : Question) (v : t.Values) (a : Option Response) → e.IsAsked q v → k.IsClosed (k.shape_of q) → k.IsApart (k.shape_of q) v
          → Plain n q a → IsBare t a × IsExactFor e.ways n (t.fact_of q v) a

      -- if at most one rule instance of each trait reference holds, its result is a definite yes or a refutation
      abbrev pub PlainIsRight : (t.Fact → Type 0) → Type 0
      PlainIsRight Holds =
          (n : ℕ) (q : Question) (v : t.Values) (a : Option Response) → e.IsAsked q v → k.IsClosed (k.shape_of q) → k.IsApart (k.shape_of q) v
          → HasOneWayWithin e.ways Holds n (t.fact_of q v) → Plain n q a → IsRightFor t Holds (t.fact_of q v) a

      -- plain recursion has a result for each goal whose chains of premises are short enough
      abbrev pub PlainAnswers : Type 0
      PlainAnswers =
          (n : ℕ) (q : Question) (v : t.Values) → e.IsAsked q v → k.IsClosed (k.shape_of q) → k.IsApart (k.shape_of q) v
          → HasShortChains e.ways n (t.fact_of q v) → (a : Option Response) × Plain n q a

-- The result of a search for a goal without inference variables. If its chains of premises are shorter than the search's depth,
-- it is that of plain recursion.
use Rattle.std.specs.Prelude.{◌≡◌, ◌≤◌, ℕ, Option}
use Rattle.goal_evaluator.specs.Table.{Tables}
use Rattle.goal_frames.specs.Programs.{Programs}
use Rattle.goal_frames.specs.Searches.{Handles, GoalInMode}
use Rattle.solver_completeness.specs.Closed.{Closing}
use Rattle.solver_completeness.specs.Ways.{HasShortChains, HasOneWayWithin, IsExactFor, IsRightFor}
use Rattle.solver_completeness.specs.Exact.{AnswersExactly, Plain}

module _ {Question Response : Type 0} (t : Tables Question Response) (k : Closing t) (p : Programs t) (w : p.World) (mode : p.Mode) (e : AnswersExactly t k p w mode)
    {C I R F : Type 0} (handles : Handles C I R F p.World (GoalInMode t p) (Option Response)) where
  -- plain recursion in chains of fewer than so many goals has no other result
  abbrev pub HasNoOtherAnswer : ℕ → Question → Option Response → Type 0
  HasNoOtherAnswer limit q a = (b : Option Response) → Plain t k p w mode e handles limit q b → b ≡ a

  -- plain recursion has a result, and it is this one
  abbrev pub FoundIsPlain : Type 0
  FoundIsPlain =
      (n limit : ℕ) (q : Question) (v : t.Values) (a : Option Response) → n ≤ limit → e.IsAsked q v → k.IsClosed (k.shape_of q) → k.IsApart (k.shape_of q) v
      → HasShortChains e.ways n (t.fact_of q v) → HasNoOtherAnswer limit q a → Plain t k p w mode e handles n q a

  -- a bounded goal is refuted exactly if it is not possible
  abbrev pub FoundIsExact : Type 0
  FoundIsExact =
      (n limit : ℕ) (q : Question) (v : t.Values) (a : Option Response) → n ≤ limit → e.IsAsked q v → k.IsClosed (k.shape_of q) → k.IsApart (k.shape_of q) v
      → HasShortChains e.ways n (t.fact_of q v) → HasNoOtherAnswer limit q a → IsExactFor e.ways n (t.fact_of q v) a

  -- an unambiguous goal gets a definite yes if it holds, and is refuted otherwise
  abbrev pub FoundIsRight : (t.Fact → Type 0) → Type 0
  FoundIsRight Holds =
      (n limit : ℕ) (q : Question) (v : t.Values) (a : Option Response) → n ≤ limit → e.IsAsked q v → k.IsClosed (k.shape_of q) → k.IsApart (k.shape_of q) v
      → HasOneWayWithin e.ways Holds n (t.fact_of q v) → HasNoOtherAnswer limit q a → IsRightFor t Holds (t.fact_of q v) a

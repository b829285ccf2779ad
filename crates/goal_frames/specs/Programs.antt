-- The handlers of all goals, for all declarations of contexts, and their laws.
use Rattle.std.specs.Prelude.{◌≡◌, ◌≤◌, Bool, false, List, Option, Some, None}
use Rattle.search_graph.specs.SearchPaths.declared.path_kind.PathKind.{PathKind}
use Rattle.search_graph.specs.SearchPaths.declared.path_kind.PathKind.TheVariants.{Coinductive}
use Rattle.goal_evaluator.specs.Table.{Tables}
use Rattle.goal_evaluator.specs.Law.{IsYes}
use Rattle.goal_evaluator.specs.Handler.{Handled, IsHandler}
use Rattle.goal_evaluator.specs.History.{evaluate, asks, CameInOrder}
use Rattle.goal_evaluator.specs.Promises.{frame_of_goal, Anything, History}
use Rattle.goal_evaluator.specs.System.{System, IsSystem}

module _ {Question Response : Type 0} (t : Tables Question Response) where
  pub record Programs : Type 1 where
    -- The declarations of a context. Goals have a typing mode, coherence or analysis. A nested goal has that of its parent.
    pub World : Type 0
    pub Mode : Type 0
    pub Goal : Type 0
    -- the goal of a canonical goal
    pub goal_of : Question → Goal
    pub handled : World → Mode → Goal → Handled t
    -- the rules of all goals, and which trait references are coinductive
    pub Rule : World → t.Fact → List t.Fact → Type 0
    pub coinductive : World → t.Fact → Bool
    -- the values of a goal's variables if each is one of these terms
    pub made_of : Goal → t.Values → List t.Values
    -- the response to a goal that recurs by a path of this kind, and to one that exceeds the depth or the number of repetitions
    pub initial : World → Mode → Goal → PathKind → Option Response
    pub overflow : World → Mode → Goal → Option Response

  module _ (p : Programs) where
    -- the goals of one typing mode
    abbrev pub system : p.World → p.Mode → System t
    system w mode =
        record {
          Goal = p.Goal;
          handled = p.handled w mode;
          goal_of = p.goal_of;
          Rule = p.Rule w;
          coinductive = p.coinductive w;
          made_of = p.made_of;
        }

    -- The response states nothing about the goal's solutions. It is `None` only if none are sought. Otherwise it has no values,
    -- and no wider terms than the goal's frame.
    abbrev pub SaysNothing : Handled t → Option Response → Type 0
    SaysNothing h None = h.World → ⊥
    SaysNothing h (Some r) = (t.has_values r ≡ false) × (t.number_in r ≤ h.widest)

    -- what has a proof in a set of crates for the first goal has one in some set for the second
    abbrev pub ProvesNoMore : Handled t → Handled t → Type 0
    ProvesNoMore h nested = (x : h.World) → (y : nested.World) × ((f : t.Fact) → h.Proves x f → nested.Proves y f)

    -- the laws of programs
    pub record ArePrograms : Type 0 where
      pub handlers : (w : p.World) (mode : p.Mode) (g : p.Goal) → IsHandler t (p.handled w mode g)
      pub systems : (w : p.World) (mode : p.Mode) → IsSystem t (system w mode)
      -- if a canonical goal is no wider than the terms of its parent's frame, its own frame makes no wider terms and has no more
      -- nested goals
      pub numbers : (w : p.World) (mode : p.Mode) (g : p.Goal) (q : Question) → t.number_of q ≤ (p.handled w mode g).widest
          → ((p.handled w mode (p.goal_of q)).widest ≤ (p.handled w mode g).widest) × ((p.handled w mode (p.goal_of q)).number ≤ (p.handled w mode g).number)
      -- a nested goal's solutions are sought wherever those of its parent are
      pub worlds : (w : p.World) (mode : p.Mode) (g : p.Goal) (heard : History t (p.handled w mode g)) (q : Question)
          → CameInOrder (Anything t (p.handled w mode g)) (frame_of_goal t (p.handled w mode g)) heard → asks (frame_of_goal t (p.handled w mode g)) heard ≡ evaluate q
          → ProvesNoMore (p.handled w mode g) (p.handled w mode (p.goal_of q))
      -- a definite yes is the response only for a coinductive path
      pub initial_yes : (w : p.World) (mode : p.Mode) (g : p.Goal) (k : PathKind) → IsYes t (p.initial w mode g k) → k ≡ Coinductive
      pub overflow_yes : (w : p.World) (mode : p.Mode) (g : p.Goal) → IsYes t (p.overflow w mode g) → ⊥
      pub initial : (w : p.World) (mode : p.Mode) (g : p.Goal) (k : PathKind) → SaysNothing (p.handled w mode g) (p.initial w mode g k)
      pub overflow : (w : p.World) (mode : p.Mode) (g : p.Goal) → SaysNothing (p.handled w mode g) (p.overflow w mode g)

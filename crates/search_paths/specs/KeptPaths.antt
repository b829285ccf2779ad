-- The path of some goals of a stack. If a goal is left out, its step is joined with that of the goal after it.
use Rattle.std.specs.Prelude.{◌≡◌, ◌<◌, ℕ, Bool, true, cond, List, [], ◌∷◌}
use Rattle.std.proofs.Common.{suc, zero}
use Rattle.search_paths.specs.declared.path_kind.PathKind.{PathKind}
use Rattle.search_paths.specs.declared.path_kind.PathKind.TheVariants.{Inductive}
use Rattle.search_paths.specs.declared.dependencies.CycleHead.{CycleHead}
use Rattle.search_paths.specs.Path.{greater}

-- the flags of the goals after the first
abbrev pub later : (ℕ → Bool) → ℕ → Bool
later kept place = kept (suc place)

module _ {G : Type 0} where
  -- the greatest kind of the steps to these goals and of a last step
  abbrev pub kind_of : List (G × PathKind) → PathKind → PathKind
  kind_of [] k = k
  kind_of (s ∷ steps) k = greater s.1 (kind_of steps k)

  -- the path with those of these goals, the oldest first, that `kept` keeps. `before` is the kind of the steps preceding
  -- the first of them
  abbrev pub kept_onto : (ℕ → Bool) → PathKind → List (G × PathKind) → List (G × PathKind) → List (G × PathKind)
  kept_onto kept before [] path = path
  kept_onto kept before (s ∷ steps) path = cond (kept zero) (kept_onto (later kept) Inductive steps ((s.0, greater before s.1) ∷ path)) (kept_onto (later kept) (greater before s.1) steps path)

  -- the kind of the steps after the last that is kept
  abbrev pub left_over : (ℕ → Bool) → PathKind → List (G × PathKind) → PathKind
  left_over kept before [] = before
  left_over kept before (s ∷ steps) = cond (kept zero) (left_over (later kept) Inductive steps) (left_over (later kept) (greater before s.1) steps)

  -- the path of the kept goals of a stack, the newest first
  abbrev pub kept_path : (ℕ → Bool) → List (G × PathKind) → List (G × PathKind)
  kept_path kept steps = kept_onto kept Inductive steps []

  -- the kind of the step from the last of them to a nested goal, which is reached by a step of this kind
  abbrev pub step_after : (ℕ → Bool) → List (G × PathKind) → PathKind → PathKind
  step_after kept steps k = greater (left_over kept Inductive steps) k

-- the indices of these heads in the stack
abbrev pub indices : List CycleHead → List ℕ
indices [] = []
indices (head ∷ heads) = head.index ∷ indices heads

-- all these goals are kept
abbrev pub AreKept : (ℕ → Bool) → List ℕ → Type 0
AreKept kept [] = Unit {0}
AreKept kept (place ∷ heads) = (kept place ≡ true) × AreKept kept heads

-- all these indices are less than `top`
abbrev pub AreBelow : ℕ → List ℕ → Type 0
AreBelow top [] = Unit {0}
AreBelow top (place ∷ heads) = (place < top) × AreBelow top heads

-- What a yes over a stack depends on: its heads, by their indices, and nothing else of the stack.
use Rattle.std.specs.Prelude.{◌≡◌, ℕ, Bool, true, length, List, [], ◌∷◌, ◌++◌}
use Rattle.search_paths.specs.declared.path_kind.PathKind.{PathKind}
use Rattle.search_paths.specs.declared.path_kind.PathKind.TheVariants.{Coinductive, ForcedAmbiguity}
use Rattle.search_paths.specs.Path.{greater}
use Rattle.search_graph.specs.Shown.{Shown}
use Rattle.search_paths.specs.KeptPaths.{kind_of, kept_path, step_after, AreKept, AreBelow}

module _ (G : Type 0) (Follows : G → List (G × PathKind) → Type 0) where
  -- the nested goal is shown, whatever goals of the stack are kept in addition to the heads
  abbrev pub ShownFor : List ℕ → List (G × PathKind) → G → PathKind → Type 0
  ShownFor heads steps g k = (kept : ℕ → Bool) → AreKept kept heads → Shown G Follows (kept_path kept steps) ((g, step_after kept steps k) ∷ [])

  -- the result of a run: the goal follows by a rule whose premises are shown below it in the same way
  abbrev pub DerivedFor : List ℕ → List (G × PathKind) → G → PathKind → Type 0
  DerivedFor heads steps g k = (premises : List (G × PathKind)) × Follows g premises × ((kept : ℕ → Bool) → AreKept kept heads → Shown G Follows ((g, step_after kept steps k) ∷ kept_path kept steps) premises)

  -- the nested goals with a yes in a run of the goal q, which was reached by a step of the kind j
  abbrev pub RunShownFor : List ℕ → List (G × PathKind) → G → PathKind → List (G × PathKind) → Type 0
  RunShownFor heads steps q j premises = (kept : ℕ → Bool) → AreKept kept heads → kept (length steps) ≡ true → Shown G Follows (kept_path kept (steps ++ (q, j) ∷ [])) premises

  -- an entry can be used if the path from the goals below it has its kind
  abbrev pub EntriesServe : Type 0
  EntriesServe = (heads : List ℕ) (before between : List (G × PathKind)) (g : G) (kind k : PathKind) → kind_of between k ≡ kind → ShownFor heads before g kind → ShownFor heads (before ++ between) g k

  -- a result that depends on none of the later goals gives an entry
  abbrev pub EntriesAreLeft : Type 0
  EntriesAreLeft = (heads : List ℕ) (before between : List (G × PathKind)) (g : G) (k : PathKind) → AreBelow (length before) heads → ShownFor heads (before ++ between) g k → ShownFor heads before g (kind_of between k)

  -- the result of a run depends on what the run depended on, except the goal itself
  abbrev pub RunsEnd : Type 0
  RunsEnd = (heads less : List ℕ) (steps premises : List (G × PathKind)) (q : G) (j : PathKind)
      → ((kept : ℕ → Bool) → AreKept kept less → kept (length steps) ≡ true → AreKept kept heads) → Follows q premises → RunShownFor heads steps q j premises → DerivedFor less steps q j

  -- a result of a run is a result of the nested goal
  abbrev pub RunsAnswer : Type 0
  RunsAnswer = (heads : List ℕ) (steps : List (G × PathKind)) (q : G) (j : PathKind) → DerivedFor heads steps q j → ShownFor heads steps q j

  -- the last result of a head, read by any path, depends on the head and on what that result depended on
  abbrev pub LastResultsServe : Type 0
  LastResultsServe = (heads : List ℕ) (below between : List (G × PathKind)) (h : G) (j k : PathKind) → DerivedFor heads below h j → ShownFor (length below ∷ heads) (below ++ (h, j) ∷ between) h k

  -- an initial yes of a head is read by coinductive paths alone, and depends on the head
  abbrev pub InitialResultsServe : Type 0
  InitialResultsServe = (below between : List (G × PathKind)) (h : G) (j k : PathKind) → kind_of between k ≡ Coinductive → ShownFor (length below ∷ []) (below ++ (h, j) ∷ between) h k

  -- what depends on no head is shown over any path
  abbrev pub HeadlessServe : Type 0
  HeadlessServe = (steps now : List (G × PathKind)) (g : G) (j k : PathKind) → DerivedFor [] steps g j → ShownFor [] now g k

  -- If a goal p ends with a result, an entry under it moves to the goal preceding it. The moved entry depends on what both
  -- depend on, except p: the proof of p replaces each cycle through p. No forced step may hide one of the kinds
  abbrev pub EntriesMove : Type 0
  EntriesMove =
      (heads own moved : List ℕ) (below : List (G × PathKind)) (p g : G) (j kind : PathKind)
      → ((kept : ℕ → Bool) → AreKept kept moved → kept (length below) ≡ true → AreKept kept heads) → ((kept : ℕ → Bool) → AreKept kept moved → AreKept kept own)
      → ((kept : ℕ → Bool) → AreKept kept moved → greater (step_after kept below j) kind ≡ ForcedAmbiguity → ⊥)
      → DerivedFor own below p j → ShownFor heads (below ++ (p, j) ∷ []) g kind → ShownFor moved below g (greater j kind)

  -- it moves further down to its new nearest head s, if its kind there is not the forced one
  abbrev pub EntriesMoveDown : Type 0
  EntriesMoveDown =
      (heads own moved : List ℕ) (before between : List (G × PathKind)) (s : G × PathKind) (p g : G) (j kind : PathKind)
      → ((kept : ℕ → Bool) → AreKept kept moved → kept (length ((before ++ s ∷ []) ++ between)) ≡ true → AreKept kept heads) → ((kept : ℕ → Bool) → AreKept kept moved → AreKept kept own)
      → AreBelow (length (before ++ s ∷ [])) moved → ((kept : ℕ → Bool) → AreKept kept moved → kept (length before) ≡ true)
      → (kind_of between (greater j kind) ≡ ForcedAmbiguity → ⊥)
      → DerivedFor own ((before ++ s ∷ []) ++ between) p j → ShownFor heads (((before ++ s ∷ []) ++ between) ++ (p, j) ∷ []) g kind
      → ShownFor moved (before ++ s ∷ []) g (kind_of between (greater j kind))

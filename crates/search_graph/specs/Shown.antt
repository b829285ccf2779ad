-- Proof graphs with open ends.
use Rattle.std.specs.Prelude.{◌≡◌, Bool, true, ◌||◌, List, [], ◌∷◌, ◌⊎◌}
use Rattle.search_paths.specs.declared.path_kind.PathKind.{PathKind}
use Rattle.search_paths.specs.Path.{is_coinductive_path}

-- A path is a list of goals with the steps to them, the newest first. The goal g is one of them, and a step after it is
-- coinductive, or `passed` says that one was
abbrev pub LoopsBack : {G : Type 0} → List (G × PathKind) → G → Bool → Type 0
LoopsBack [] g passed = ⊥
LoopsBack (h ∷ path) g passed = ((g ≡ h.0) × (passed ≡ true)) ⊎ LoopsBack path g (passed || is_coinductive_path h.1)

-- Each nested goal follows by rules, down to nested goals that close a cycle with a coinductive step: with a goal of the path,
-- or with a goal in between
pub data Shown (G : Type 0) (Follows : G → List (G × PathKind) → Type 0) : List (G × PathKind) → List (G × PathKind) → Type 0 where
  none : {path : List (G × PathKind)} → Shown G Follows path []
  loop : {path rest : List (G × PathKind)} {g : G} {k : PathKind} → LoopsBack path g (is_coinductive_path k) → Shown G Follows path rest → Shown G Follows path ((g, k) ∷ rest)
  rule : {path rest premises : List (G × PathKind)} {g : G} {k : PathKind} → Follows g premises → Shown G Follows ((g, k) ∷ path) premises → Shown G Follows path rest → Shown G Follows path ((g, k) ∷ rest)

-- Proofs: finitely many goals, each derived by rules, down to coinductive steps to goals among them.
use Rattle.std.specs.Prelude.{◌≡◌, true, List, [], ◌∷◌, ◌⊎◌}
use Rattle.search_paths.specs.declared.path_kind.PathKind.{PathKind}
use Rattle.search_paths.specs.Path.{is_coinductive_path}

abbrev pub IsAmong : {G : Type 0} → G → List G → Type 0
IsAmong g [] = ⊥
IsAmong g (h ∷ goals) = (g ≡ h) ⊎ IsAmong g goals

-- the nested goals are derived by rules, down to coinductive steps to assumed goals
pub data Derivation (G : Type 0) (Follows : G → List (G × PathKind) → Type 0) (assumed : List G) : List (G × PathKind) → Type 0 where
  end : Derivation G Follows assumed []
  again : {rest : List (G × PathKind)} {g : G} {k : PathKind} → is_coinductive_path k ≡ true → IsAmong g assumed → Derivation G Follows assumed rest → Derivation G Follows assumed ((g, k) ∷ rest)
  by_rule : {rest premises : List (G × PathKind)} {g : G} {k : PathKind} → Follows g premises → Derivation G Follows assumed premises → Derivation G Follows assumed rest → Derivation G Follows assumed ((g, k) ∷ rest)

-- a rule concludes the goal, and its premises are derived
abbrev pub IsDerived : (G : Type 0) → (G → List (G × PathKind) → Type 0) → List G → G → Type 0
IsDerived G Follows assumed g = (premises : List (G × PathKind)) × Follows g premises × Derivation G Follows assumed premises

-- the goal has a proof
pub record HasGraphProof (G : Type 0) (Follows : G → List (G × PathKind) → Type 0) (g : G) : Type 0 where
  pub goals : List G
  pub among : IsAmong g goals
  pub derived : (h : G) → IsAmong h goals → IsDerived G Follows goals h

-- Which line a statement is of, without types. What names stand for depends on nothing else of the line.
use Rattle.std.specs.Prelude.{◌≡◌, ℕ, Bool, true, false, List, [], ◌∷◌}
use Rattle.text_language.specs.Promised.Syntax.{Line, crate_line, struct_line, trait_line, impl_line, prove_line, refute_line, later_line, supers_line}
use Rattle.text_lines.specs.Statement.{Statement, crate_statement, struct_statement, trait_statement, impl_statement, prove_statement, refute_statement, later_statement, supers_statement, param_list}

-- the line is of this kind, and has this name and these parameters
abbrev pub Speaks : Line → Statement → Type 0
Speaks (crate_line n us) (crate_statement m vs) = n ≡ m
Speaks (struct_line f n ps fs) (struct_statement g m qs ss) = (f ≡ g) × (n ≡ m) × (param_list ps ≡ qs)
Speaks (trait_line f a n ps bs) (trait_statement g b m qs ss) = (f ≡ g) × (a ≡ b) × (n ≡ m) × (param_list ps ≡ qs)
Speaks (impl_line ps h ks) (impl_statement qs i ss) = param_list ps ≡ qs
Speaks (prove_line c ps k bs ks) (prove_statement b qs i js ss) = (c ≡ b) × (param_list ps ≡ qs)
Speaks (refute_line c ps k bs) (refute_statement b qs i js) = (c ≡ b) × (param_list ps ≡ qs)
Speaks (later_line n) (later_statement m) = n ≡ m
Speaks (supers_line n) (supers_statement m) = n ≡ m
Speaks _ _ = ⊥

-- the crates that it names
abbrev pub crates_mentioned : Statement → List (List ℕ)
crates_mentioned (crate_statement n us) = us
crates_mentioned (prove_statement c ps k js ks) = c ∷ []
crates_mentioned (refute_statement c ps k js) = c ∷ []
crates_mentioned (later_statement n) = n ∷ []
crates_mentioned (supers_statement n) = n ∷ []
crates_mentioned s = []

abbrev pub is_trait_said : Statement → Bool
is_trait_said (trait_statement f a n ps ss) = true
is_trait_said s = false

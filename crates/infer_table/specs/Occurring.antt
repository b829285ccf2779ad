-- The occurs check: its worklist, and what that says of the whole term.
use Rattle.std.specs.Prelude.{◌≡◌, ◌⊎◌, ◌+◌, ◌<◌, ◌≤◌, ℕ, List, [], ◌∷◌, ◌++◌, true, false, nat_eq}
use Rattle.std.specs.HashSet.{contains}
use Rattle.type_terms.specs.Promised.Label.{of_type}
use Rattle.type_terms.specs.Promised.Trees.{Trees}
use Rattle.type_terms.specs.Promised.Handles.{Entry, Has, types, trees_at}
use Rattle.type_terms.specs.declared.kinds.Ty.{Ty}
use Rattle.type_terms.specs.declared.entered.Entered.{Entered}
use Rattle.infer_table.specs.Solutions.{Binding, resolved, occurs, size}
use Rattle.infer_table.specs.Content.{IsProper}

-- the variable does not occur in the resolved term, and each variable of the term is a leaf
abbrev pub IsWithout : List Binding → ℕ → Trees → Type 0
IsWithout bs v t = (occurs of_type v (resolved bs t) ≡ false) × IsProper t

abbrev pub AreTypes : List Entry → List Ty → Type 0
AreTypes es [] = Unit {0}
AreTypes es (x ∷ xs) = Has es types x.0 × AreTypes es xs

abbrev pub AreWithout : List Entry → List Binding → ℕ → List Ty → Type 0
AreWithout es bs v [] = Unit {0}
AreWithout es bs v (x ∷ xs) = IsWithout bs v (trees_at es x.0) × AreWithout es bs v xs

-- if the variable occurs in one of the types, it occurs in the term
abbrev pub StandIn : List Entry → List Binding → ℕ → Trees → List Ty → Type 0
StandIn es bs v t [] = Unit {0}
StandIn es bs v t (x ∷ xs) = (occurs of_type v (resolved bs (trees_at es x.0)) ≡ true → occurs of_type v (resolved bs t) ≡ true) × StandIn es bs v t xs

-- the number of nodes of all types, once these are resolved
abbrev pub weight : List Entry → List Binding → List Ty → ℕ
weight es bs [] = 0
weight es bs (x ∷ xs) = size (resolved bs (trees_at es x.0)) + weight es bs xs

-- types of a term were appended to the list. If the variable does not occur in them, it does not occur in the term
pub record Pushes (es : List Entry) (bs : List Binding) (v : ℕ) (t : Trees) (old new : List Ty) : Type 0 where
  pub pushed : List Ty
  pub is : new ≡ old ++ pushed
  pub held : AreTypes es pushed
  pub stand : StandIn es bs v t pushed
  pub lighter : weight es bs pushed ≤ size (resolved bs t)
  pub without : AreWithout es bs v pushed → IsWithout bs v t

-- a type was visited. It was visited before, or its types were appended to the list
pub record LooksAt (es : List Entry) (bs : List Binding) (v : ℕ) (x : Ty) (before after : Entered) (old new : List Ty) : Type 0 where
  pub pushed : List Ty
  pub is : new ≡ old ++ pushed
  pub held : AreTypes es pushed
  pub stand : StandIn es bs v (trees_at es x.0) pushed
  pub lighter : weight es bs pushed < size (resolved bs (trees_at es x.0))
  pub way : (contains nat_eq before.types x.0 ≡ true) ⊎ (AreWithout es bs v pushed → IsWithout bs v (trees_at es x.0))
  pub listed : (i : ℕ) → contains nat_eq after.types i ≡ true → (contains nat_eq before.types i ≡ true) ⊎ (i ≡ x.0)

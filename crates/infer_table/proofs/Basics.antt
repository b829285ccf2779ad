-- Small facts that the proofs of several files cite.
use Rattle.std.proofs.Common.{IsSome, refl, ℕ, ◌≡◌, true, List, ◌∷◌, ap, ◌∙◌, []}
use Rattle.infer_table.specs.Canonical.{kind_in_clause, kind_of_leaf, GoalTrees}
use Rattle.infer_table.specs.Solutions.{Binding, resolved, replace}
use Rattle.infer_table.specs.Values.{Value}
use Rattle.infer_table.specs.WellFormed.{is_numbered}
use Rattle.type_terms.specs.Promised.Label.{Label, static, infer, of_lifetime, predicate, of_trait}
use Rattle.type_terms.specs.Promised.Trees.{Trees, tree, none}

pub clause-known : (l : Label) → IsSome (kind_in_clause l) → IsSome (kind_of_leaf l)
clause-known static h = refl
clause-known l h = h

pub opens : (v : ℕ) → is_numbered (infer of_lifetime v) ≡ true
opens v = refl

pub first-and-rest : (x y : Value) (xs ys : List Value) → x ≡ y → xs ≡ ys → ◌≡◌ {A = List Value} (x ∷ xs) (y ∷ ys)
first-and-rest x y xs ys e f = ap (λ z. z ∷ xs) e ∙ ap (λ zs. y ∷ zs) f

pub resolved-trait : (bs : List Binding) (i : ℕ) (c : Trees) → resolved bs (tree (predicate (of_trait i)) c none) ≡ tree (predicate (of_trait i)) (resolved bs c) none
resolved-trait [] i c = refl
resolved-trait (b ∷ older) i c = ap (replace b.sort b.var (resolved older b.value)) (resolved-trait older i c)

pub same-goal : (e d p q : Trees) → e ≡ d → p ≡ q → ◌≡◌ {A = GoalTrees} (record { environment = e; predicate = p }) (record { environment = d; predicate = q })
same-goal e d p q x y = cc

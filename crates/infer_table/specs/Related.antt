-- The cache of related pairs of types: when an equation can be skipped.
use Rattle.std.specs.Prelude.{◌≡◌, ◌⊎◌, ◌+◌, ◌≤◌, ◌<◌, ◌&&◌, ℕ, zero, Bool, true, nat_eq, List, [], ◌∷◌, ◌++◌, length, Some, None}
use Rattle.std.specs.HashSet.{contains}
use Rattle.type_terms.specs.Promised.Label.{of_lifetime}
use Rattle.type_terms.specs.Promised.Trees.{Trees, is_sort}
use Rattle.type_terms.specs.Codes.{same}
use Rattle.type_terms.specs.Promised.Handles.{Entry, Has, types, trees_at}
use Rattle.infer_table.specs.Solutions.{Binding, HasValues}
use Rattle.infer_table.specs.Constraints.{constraints_trees}
use Rattle.infer_table.specs.Content.{Table, content}
use Rattle.infer_table.specs.Resolving.{followed}
use Rattle.infer_table.specs.Unification.{Worklist, equal_constraint, is_recorded, term_sort, variable_at, binds, head_of, parts_of, pairs}
use Rattle.type_terms.specs.declared.kinds.Ty.{Ty}
use Rattle.type_terms.specs.declared.kinds.GenericArgKind.TheVariants.{Ty as AType}
use Rattle.infer_table.specs.declared.terms.Equation.{Equation}
use Rattle.infer_table.specs.declared.related.Pair.{Pair}
use Rattle.infer_table.specs.declared.related.Begun.{Begun}
use Rattle.infer_table.specs.declared.related.Related.{Related}

-- ---- equations that can be skipped
-- two terms that are not variables and bind no lifetime have the same head, and these are the equations of their parts
pub record HasParts (x y : Trees) (ps : Worklist) : Type 0 where
  pub left : variable_at x ≡ None
  pub right : variable_at y ≡ None
  pub heads : same (head_of x) (head_of y) ≡ true
  pub alone : binds x + binds y ≡ zero
  pub parts : (i j : ℕ) → pairs (parts_of i x) (parts_of j y) ≡ Some ps

-- it is recorded that the two lifetimes are equal
pub record RegionsAreRecorded (bs : List Binding) (cs : Trees) (a b : Trees) : Type 0 where
  pub lifetime : term_sort a ≡ of_lifetime
  pub left : term_sort (followed bs a) ≡ of_lifetime
  pub right : term_sort (followed bs b) ≡ of_lifetime
  pub recorded : is_recorded (equal_constraint (followed bs a) (followed bs b)) cs ≡ true

-- Equations that can be skipped, once the open ones are solved. Both sides resolve to the same term, or they are lifetimes that
-- are recorded as equal, or the equation is open, or those of its parts can be skipped.
pub data Rests : List Binding → Trees → Worklist → Worklist → Type 0 where
  rest_none : {bs : List Binding} {cs : Trees} {waiting : Worklist} → Rests bs cs waiting []
  rest_same : {bs : List Binding} {cs : Trees} {waiting rest : Worklist} (a b : Trees) → is_sort (term_sort a) (term_sort b) ≡ true → followed bs a ≡ followed bs b → Rests bs cs waiting rest → Rests bs cs waiting ((a, b) ∷ rest)
  rest_recorded : {bs : List Binding} {cs : Trees} {waiting rest : Worklist} (a b : Trees) → is_sort (term_sort a) (term_sort b) ≡ true → RegionsAreRecorded bs cs a b → Rests bs cs waiting rest → Rests bs cs waiting ((a, b) ∷ rest)
  rest_waiting : {bs : List Binding} {cs : Trees} {waiting rest : Worklist} (before after : Worklist) (a b : Trees) → waiting ≡ before ++ (a, b) ∷ after → Rests bs cs waiting rest → Rests bs cs waiting ((a, b) ∷ rest)
  rest_parts : {bs : List Binding} {cs : Trees} {waiting rest : Worklist} (a b : Trees) (ps : Worklist) → is_sort (term_sort a) (term_sort b) ≡ true → HasValues (term_sort a) → HasParts (followed bs a) (followed bs b) ps
      → Rests bs cs waiting ps → Rests bs cs waiting rest → Rests bs cs waiting ((a, b) ∷ rest)

-- the same over a table
abbrev pub RestsIn : List Entry → Table → Worklist → Worklist → Type 0
RestsIn es t = Rests (content es t.values) (constraints_trees es t.constraints)

-- ---- pairs of handles
abbrev pub pair_eq : Pair → Pair → Bool
pair_eq p q = nat_eq p.left q.left && nat_eq p.right q.right

abbrev pub pair_trees : List Entry → Pair → Trees × Trees
pair_trees es p = (trees_at es p.left, trees_at es p.right)

abbrev pub IsPairOfTypes : List Entry → Pair → Type 0
IsPairOfTypes es p = Has es types p.left × Has es types p.right

-- the equation of the pair can be skipped
pub record PairIsSettled (es : List Entry) (t : Table) (p : Pair) : Type 0 where
  pub held : IsPairOfTypes es p
  pub rests : RestsIn es t [] (pair_trees es p ∷ [])

-- A pair was begun. Unless a binder was opened since, it can be skipped once the equations of its parts are solved.
pub record IsBegun (es : List Entry) (t : Table) (todo : Worklist) (b : Begun) : Type 0 where
  pub before : Worklist
  pub after : Worklist
  pub list : todo ≡ before ++ after
  pub left : length after ≡ b.left
  pub lifetimes : b.lifetimes ≤ t.region_vars
  pub held : IsPairOfTypes es b.pair
  pub rests : b.lifetimes ≡ t.region_vars → RestsIn es t before (pair_trees es b.pair ∷ [])

-- at least as many equations follow a pair as follow the pairs that were begun before it
abbrev pub AreAbove : ℕ → List Begun → Type 0
AreAbove n [] = Unit {0}
AreAbove n (b ∷ rest) = (n ≤ b.left) × AreAbove n rest

abbrev pub BegunBelow : ℕ → List Begun → Type 0
BegunBelow n [] = Unit {0}
BegunBelow n (b ∷ rest) = (b.left < n) × BegunBelow n rest

abbrev pub AreBegun : List Entry → Table → Worklist → List Begun → Type 0
AreBegun es t todo [] = Unit {0}
AreBegun es t todo (b ∷ rest) = IsBegun es t todo b × AreAbove b.left rest × AreBegun es t todo rest

-- the pair of an equation of types is begun with this number of equations after it, or no pair is begun
abbrev pub Begins : Equation → ℕ → ℕ → List Begun → List Begun → Type 0
Begins e n r old new = (new ≡ old) ⊎ ((a b : Ty) × (e.left ≡ AType a) × (e.right ≡ AType b) × (new ≡ old ++ (record { pair = record { left = a.0; right = b.0 }; left = n; lifetimes = r }) ∷ []))

-- the cache is right for the table and the equations
pub record Tracks (es : List Entry) (t : Table) (todo : Worklist) (r : Related) : Type 0 where
  pub settled : (p : Pair) → contains pair_eq r.settled p ≡ true → PairIsSettled es t p
  pub begun : AreBegun es t todo r.begun.items

-- the same, and no begun pair is solved
pub record TracksOpen (es : List Entry) (t : Table) (todo : Worklist) (r : Related) : Type 0 where
  pub tracked : Tracks es t todo r
  pub undone : BegunBelow (length todo) r.begun.items

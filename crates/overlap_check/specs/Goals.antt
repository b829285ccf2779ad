-- The goals of a pair of impls: their where-clauses, after their headers are equated.
use Rattle.std.specs.Prelude.{◌≡◌, ℕ, suc, zero, false, List, [], ◌∷◌, ◌++◌}
use Rattle.type_terms.specs.Promised.Label.{Sort, of_type, of_const}
use Rattle.type_terms.specs.Promised.Trees.{Trees, some_node, instantiate, erase}
use Rattle.type_terms.specs.Promised.Erased.{erased_impl}
use Rattle.type_terms.specs.Erased.{IsCovered}
use Rattle.type_terms.specs.Promised.Worlds.{Reference, ImplDecl}
use Rattle.type_terms.specs.Promised.Proofs.{In}
use Rattle.type_terms.specs.Promised.Answers.{CommonInstance, FixedLeft, FixedRight, is_variable}
use Rattle.infer_table.specs.Solutions.{Binding, resolved}
use Rattle.infer_table.specs.Content.{Table}
use Rattle.overlap_check.specs.SessionLaws.{CoversLeft, CoversRight}
use Rattle.overlap_check.specs.Fresh.{with_unknowns, fresh_unknowns, HasArguments}

-- A list of n times the same kind.
abbrev pub repeated : Sort → ℕ → List Sort
repeated k zero = []
repeated k (suc n) = k ∷ repeated k n

-- The kinds of a table's variables, without lifetimes.
abbrev pub unknown_kinds : Table → List Sort
unknown_kinds t = repeated of_type t.ty_vars ++ repeated of_const t.const_vars

-- A where-clause of an impl as a goal over a table: without lifetimes, with variables for the parameters, and with values for the variables
-- that have one.
abbrev pub goal_of : List Binding → Trees → Reference → Reference
goal_of bs I k = record { trait = k.trait; args = erase (resolved bs (instantiate zero I k.args)) }

-- The goal g covers the where-clause k of i. It has no variables if the clause is fixed: one bound in all common instances.
pub record IsGoalLeft (i j : ImplDecl) (ks : List Sort) (k g : Reference) : Type 0 where
  pub covers : CoversLeft i j k ks g
  pub determined : (r : Reference) → FixedLeft i j k r → some_node is_variable g.args ≡ false

-- The same for a where-clause of j.
pub record IsGoalRight (i j : ImplDecl) (ks : List Sort) (k g : Reference) : Type 0 where
  pub covers : CoversRight i j k ks g
  pub determined : (r : Reference) → FixedRight i j k r → some_node is_variable g.args ≡ false

-- The pair has a common instance. Each where-clause has its goal in these lists, and each goal is that of a where-clause.
pub record HasGoals (i j : ImplDecl) (ks : List Sort) (left right : List Reference) : Type 0 where
  pub common : CommonInstance i j
  pub left_asked : (k : Reference) → In k i.clauses → (g : Reference) × In g left × IsGoalLeft i j ks k g
  pub right_asked : (k : Reference) → In k j.clauses → (g : Reference) × In g right × IsGoalRight i j ks k g
  pub left_only : (g : Reference) → In g left → (k : Reference) × IsGoalLeft i j ks k g
  pub right_only : (g : Reference) → In g right → (k : Reference) × IsGoalRight i j ks k g

-- The list I has an argument for each parameter in the header and in the where-clauses of an impl. Each parameter in a where-clause occurs
-- in the header too. The impl has its lifetimes.
pub record IsInstantiable (I : Trees) (i : ImplDecl) : Type 0 where
  pub header : HasArguments I i.header.args
  pub clauses : (k : Reference) → In k i.clauses → HasArguments I k.args
  pub covered : IsCovered (erased_impl i)

-- The same for two impls with parameters of the kinds ps and qs. The variables of the second impl come after those of the first one.
pub record IsPairWith (t : Table) (ps qs : List Sort) (w x : ImplDecl) : Type 0 where
  pub left : IsInstantiable (fresh_unknowns t ps) w
  pub right : IsInstantiable (fresh_unknowns (with_unknowns t ps) qs) x

-- The header's arguments, instantiated with a list of terms.
abbrev pub header_with : Trees → ImplDecl → Trees
header_with I i = instantiate zero I i.header.args

-- Where-clauses that the headers of two impls fix: with values that make the headers equal, they are one closed trait reference.
use Rattle.std.specs.Prelude.{◌≡◌, ℕ, zero, true, List, [], ◌++◌}
use Rattle.type_terms.specs.Promised.Label.{of_type, param}
use Rattle.type_terms.specs.Promised.Trees.{Trees, leaf, erase, instantiate}
use Rattle.type_terms.specs.Promised.Erased.{erased_impl}
use Rattle.type_terms.specs.Promised.Worlds.{Reference}
use Rattle.type_terms.specs.Promised.Proofs.{In}
use Rattle.type_terms.specs.Promised.Handles.{Entry, Has, types, trees_at}
use Rattle.type_terms.specs.declared.ImplId.{ImplId}
use Rattle.term_folds.specs.declared.predicate.TraitRef.{TraitRef}
use Rattle.declarations.specs.Apart.{is_fixed}
use Rattle.declarations.specs.Items.{impl_in}
use Rattle.declarations.specs.Promised.Elaboration.{Each}
use Rattle.declarations.specs.declared.items.ImplDef.{ImplDef}
use Rattle.overlap_check.specs.SessionLaws.{CoversClause}
use Rattle.overlap_check.specs.declared.fixed.FixedGoal.{FixedGoal}

-- The term t has no parameters, variables and lifetimes. Wherever arguments for the parameters make the terms x and y equal, without
-- lifetimes, those for x make the terms k equal to t.
pub record IsFixedClauseBy (k x y t : Trees) : Type 0 where
  pub fixed : is_fixed t ≡ true
  pub is : (A B : Trees) → instantiate zero A (erase x) ≡ instantiate zero B (erase y) → instantiate zero A (erase k) ≡ t

-- The same for one type parameter of x, by its number.
abbrev pub IsFixedBy : ℕ → Trees → Trees → Trees → Type 0
IsFixedBy n x y t = IsFixedClauseBy (leaf (param of_type n)) x y t

-- The goal as a trait reference.
abbrev pub fixed_reference : List Entry → FixedGoal → Reference
fixed_reference es g = record { trait = g.def_id.index; args = trees_at es g.self_ty.0 }

-- The goal is a where-clause of the list, wherever the left header equals the right one.
pub record IsFixedGoalOf (es : List Entry) (clauses : List TraitRef) (left right : TraitRef) (g : FixedGoal) : Type 0 where
  pub held : Has es types g.self_ty.0
  pub clause : TraitRef
  pub listed : In clause clauses
  pub trait : clause.def_id.index ≡ g.def_id.index
  pub by : IsFixedClauseBy (trees_at es clause.args.0) (trees_at es left.args.0) (trees_at es right.args.0) (trees_at es g.self_ty.0)

-- Only such goals were appended.
abbrev pub AppendsFixedGoals : List Entry → List TraitRef → TraitRef → TraitRef → List FixedGoal → List FixedGoal → Type 0
AppendsFixedGoals es clauses left right old new = (more : List FixedGoal) × (new ≡ old ++ more) × Each (IsFixedGoalOf es clauses left right) more

-- The goal has no parameters, variables and lifetimes, and it covers a where-clause of the pair. The indices of the impls do not matter.
pub record IsFixedGoalIn (es : List Entry) (w x : ImplDef) (g : FixedGoal) : Type 0 where
  pub held : Has es types g.self_ty.0
  pub fixed : is_fixed (trees_at es g.self_ty.0) ≡ true
  pub covers : (i j : ImplId) → CoversClause (erased_impl (impl_in es i w)) (erased_impl (impl_in es j x)) [] (fixed_reference es g)

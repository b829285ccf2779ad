-- Goals as trees: their where-clauses and predicates.
use Rattle.std.specs.Prelude.{◌≡◌, ℕ, List, [], ◌∷◌, ◌++◌}
use Rattle.type_terms.specs.Promised.Label.{Label, of_trait, region_outlives, type_outlives, predicate}
use Rattle.type_terms.specs.Promised.Trees.{Trees, none, tree, ◌+++◌}
use Rattle.type_terms.specs.Promised.Handles.{Entry, Has, trees_at}
use Rattle.type_terms.specs.Terms.{args_lists}
use Rattle.type_terms.specs.Promised.Handles.{region_trees}
use Rattle.term_folds.specs.declared.predicate.TraitPredicate.{TraitPredicate}
use Rattle.term_folds.specs.declared.predicate.Clause.{Clause}
use Rattle.term_folds.specs.declared.predicate.Clause.TheVariants.{Trait, RegionOutlives, TypeOutlives}
use Rattle.term_folds.specs.Clauses.{ClauseHeld, clause_outline, clause_pieces}
use Rattle.term_folds.specs.Folds.{Does, FoldsEach}
use Rattle.type_terms.specs.Pieces.{Piece, one_piece}
use Rattle.infer_table.specs.Canonical.{GoalTrees}
use Rattle.infer_table.specs.Solutions.{Binding, resolved}
use Rattle.infer_table.specs.declared.goal.Goal.{Goal}

-- A where-clause is one node. Its label says which of the three forms it has, and for a trait which trait. Its terms are its
-- children, the self type first
abbrev pub clause_label : Clause → Label
clause_label (Trait p) = predicate (of_trait p.trait_ref.def_id.index)
clause_label (RegionOutlives a b) = predicate region_outlives
clause_label (TypeOutlives t r) = predicate type_outlives

abbrev pub clause_terms : List Entry → Clause → Trees
clause_terms es (Trait p) = trees_at es p.trait_ref.args.0
clause_terms es (RegionOutlives a b) = region_trees a +++ region_trees b
clause_terms es (TypeOutlives t r) = trees_at es t.0 +++ region_trees r

abbrev pub environment_trees : List Entry → List Clause → Trees
environment_trees es [] = none
environment_trees es (c ∷ cs) = tree (clause_label c) (clause_terms es c) (environment_trees es cs)

abbrev pub predicate_trees : List Entry → TraitPredicate → Trees
predicate_trees es p = tree (predicate (of_trait p.trait_ref.def_id.index)) (trees_at es p.trait_ref.args.0) none

abbrev pub goal_trees : List Entry → Goal → GoalTrees
goal_trees es g = record { environment = environment_trees es g.param_env.items; predicate = predicate_trees es g.predicate }

-- ---- the handles are of this interner
abbrev pub ClausesHeld : List Entry → List Clause → Type 0
ClausesHeld es [] = Unit {0}
ClausesHeld es (c ∷ cs) = ClauseHeld es c × ClausesHeld es cs

abbrev pub PredicateHeld : List Entry → TraitPredicate → Type 0
PredicateHeld es p = Has es args_lists p.trait_ref.args.0

pub record GoalHeld (es : List Entry) (g : Goal) : Type 0 where
  pub environment : ClausesHeld es g.param_env.items
  pub predicate : PredicateHeld es g.predicate

-- ---- each clause of the second list is the fold of the clause with its index in the first
abbrev pub ClausesFold : (List ℕ → Trees → Does) → List Entry → List Clause → List Entry → List Clause → Type 0
ClausesFold f old [] new [] = Unit {0}
ClausesFold f old (x ∷ xs) new (y ∷ ys) = (clause_outline y ≡ clause_outline x) × FoldsEach f [] (clause_pieces old x) (clause_pieces new y) × ClausesFold f old xs new ys
ClausesFold f old _ new _ = ⊥

-- each part of the second goal is the fold of that part of the first
pub record GoalFolds (f : List ℕ → Trees → Does) (old : List Entry) (g : Goal) (new : List Entry) (h : Goal) : Type 0 where
  pub environment : ClausesFold f old g.param_env.items new h.param_env.items
  pub def_id : h.predicate.trait_ref.def_id.index ≡ g.predicate.trait_ref.def_id.index
  pub predicate : FoldsEach f [] (one_piece (trees_at old g.predicate.trait_ref.args.0)) (one_piece (trees_at new h.predicate.trait_ref.args.0))

-- the terms of the where-clauses, in order
abbrev pub environment_pieces : List Entry → List Clause → List Piece
environment_pieces es [] = []
environment_pieces es (c ∷ cs) = clause_pieces es c ++ environment_pieces es cs

-- the terms of the goal: those of the where-clauses, then the arguments of the predicate
abbrev pub goal_pieces : List Entry → Goal → List Piece
goal_pieces es g = environment_pieces es g.param_env.items ++ one_piece (trees_at es g.predicate.trait_ref.args.0)

-- the resolved goal
abbrev pub goal_resolved : List Binding → GoalTrees → GoalTrees
goal_resolved bs g = record { environment = resolved bs g.environment; predicate = resolved bs g.predicate }

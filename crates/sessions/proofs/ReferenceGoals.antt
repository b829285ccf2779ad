-- Goals whose where-clauses are references.
use Rattle.std.proofs.Common.{◌≡◌, List, [], ◌∷◌, refl, ap, ◌∙◌}
use Rattle.type_terms.specs.Promised.Label.{of_trait, predicate}
use Rattle.type_terms.specs.Promised.Trees.{Trees, none, tree}
use Rattle.type_terms.specs.Promised.Handles.{Entry, trees_at}
use Rattle.term_folds.specs.declared.predicate.TraitRef.{TraitRef}
use Rattle.infer_table.specs.Canonical.{GoalTrees}
use Rattle.infer_table.specs.Goals.{environment_trees}
use Rattle.declarations.specs.Applied.{references_in}
use Rattle.candidate_model.specs.Facts.{trees_of_clauses}
use Rattle.sessions.specs.Questions.{where_clauses, ReferencesAreGoals}

clauses-are : (es : List Entry) (rs : List TraitRef) → environment_trees es (where_clauses rs) ≡ trees_of_clauses (references_in es rs)
clauses-are es [] = refl
clauses-are es (r ∷ rs) = ap (λ t. tree (predicate (of_trait r.def_id.index)) (trees_at es r.args.0) t) (clauses-are es rs)

same-goal : {a b c d : Trees} → a ≡ b → c ≡ d → (let x : GoalTrees = record { environment = a; predicate = c } in x) ≡ (let y : GoalTrees = record { environment = b; predicate = d } in y)
same-goal p q = cc

pub references-are-goals : ReferencesAreGoals
references-are-goals es g rs r e p =
    same-goal (ap (λ cs. environment_trees es cs) e ∙ clauses-are es rs) (ap (λ (x : TraitRef). tree (predicate (of_trait x.def_id.index)) (trees_at es x.args.0) none) p)

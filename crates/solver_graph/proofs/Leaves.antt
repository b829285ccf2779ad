-- The variables, lifetimes and numbers of a goal that a table resolves have no children.
use Rattle.std.proofs.Common.{arith, ◌≡◌, ℕ, Bool, true, false, List, [], ◌∷◌, refl, sym, ◌∙◌, ap, if◌then◌else◌}
use Rattle.type_terms.specs.Promised.Label.{Sort, infer}
use Rattle.type_terms.specs.Promised.Trees.{Trees, none, tree, ◌+++◌}
use Rattle.type_terms.specs.Promised.Handles.{Entry, Has, types, trees_at}
use Rattle.type_terms.specs.Terms.{Lawful, args_lists}
use Rattle.type_terms.specs.Promised.Handles.{ArgHeld, arg_trees, region_trees}
use Rattle.type_terms.specs.declared.kinds.GenericArgKind.{GenericArgKind}
use Rattle.type_terms.specs.Made.{terms, is_leaf_label, is_in_range}
use Rattle.type_terms.proofs.MadeFacts.{type-made}
use Rattle.term_folds.specs.declared.predicate.Clause.{Clause}
use Rattle.term_folds.specs.declared.predicate.Clause.TheVariants.{Trait, RegionOutlives, TypeOutlives}
use Rattle.term_folds.specs.Clauses.{ClauseHeld}
use Rattle.type_terms.specs.Kept.{is-at}
use Rattle.infer_table.specs.Content.{Table, content, Ready}
use Rattle.infer_table.specs.Solutions.{Binding, replace, resolved, is_same_variable}
use Rattle.infer_table.specs.WellFormed.{AllTerms, is_numbered}
use Rattle.infer_table.proofs.Places.{ready-terms, arg-term}
use Rattle.infer_table.specs.declared.goal.Goal.{Goal}
use Rattle.infer_table.specs.Goals.{clause_label, clause_terms, environment_trees, ClausesHeld, GoalHeld, goal_trees, goal_resolved}
use Rattle.goal_evaluator.proofs.Readings.{HasLeaves, made-leaves}
use Rattle.type_terms.proofs.Made.{false-true}

-- ---- lists, and terms in the place of unknowns
pub leaves-append : (x y : Trees) → HasLeaves x → HasLeaves y → HasLeaves (x +++ y)
leaves-append none y p q = q
leaves-append (tree l c o) y p q = (p.0, p.1, leaves-append o y p.2 q)

leaves-replace : (k : Sort) (v : ℕ) (r t : Trees) → HasLeaves r → HasLeaves t → HasLeaves (replace k v r t)
leaves-replace k v r none p q = tt
leaves-replace k v r (tree (infer j w) c o) p q = by (is_same_variable j w k v) (leaves-replace k v r o p q.2)
  where
    by : (b : Bool) → HasLeaves (replace k v r o) → HasLeaves (if b then r +++ replace k v r o else tree (infer j w) c (replace k v r o))
    by true h = leaves-append r (replace k v r o) p h
    by false h = (q.0, q.1, h)
leaves-replace k v r (tree l c o) p q = (λ e. ap (replace k v r) (q.0 e), leaves-replace k v r c p q.1, leaves-replace k v r o p q.2)

leaves-resolved : (bs : List Binding) → AllTerms bs → (t : Trees) → HasLeaves t → HasLeaves (resolved bs t)
leaves-resolved [] h t q = q
leaves-resolved (b ∷ older) h t q =
    leaves-replace b.sort b.var (resolved older b.value) (resolved older t) (leaves-resolved older h.1 b.value (made-leaves is_numbered terms b.value h.0)) (leaves-resolved older h.1 t q)

-- ---- goals
module _ (es : List Entry) (law : Lawful es) where
  pub arg-leaves : (a : GenericArgKind) → ArgHeld es a → HasLeaves (arg_trees es a)
  arg-leaves a h = made-leaves is_numbered terms (arg_trees es a) (arg-term es law a h).1

  list-leaves : (i : ℕ) → Has es args_lists i → HasLeaves (trees_at es i)
  list-leaves i h = made-leaves is_in_range terms (trees_at es i) ((law.made i _ (is-at es args_lists i h)).as_terms (λ e. absurd (omega arith)))

  type-leaves : (i : ℕ) → Has es types i → HasLeaves (trees_at es i)
  type-leaves i h = made-leaves is_in_range terms (trees_at es i) (type-made es law.made i h)

  clause-leaves : (x : Clause) → ClauseHeld es x → HasLeaves (clause_terms es x)
  clause-leaves (Trait p) h = list-leaves p.trait_ref.args.0 h
  clause-leaves (RegionOutlives a b) h = (λ e. refl, tt, (λ e. refl, tt, tt))
  clause-leaves (TypeOutlives t r) h = leaves-append (trees_at es t.0) (region_trees r) (type-leaves t.0 h.0) (λ e. refl, tt, tt)

  clause-label : (x : Clause) → is_leaf_label (clause_label x) ≡ false
  clause-label (Trait p) = refl
  clause-label (RegionOutlives a b) = refl
  clause-label (TypeOutlives t r) = refl

  environment-leaves : (xs : List Clause) → ClausesHeld es xs → HasLeaves (environment_trees es xs)
  environment-leaves [] h = tt
  environment-leaves (x ∷ xs) h = (λ e. absurd (false-true (sym (clause-label x) ∙ e)), clause-leaves x h.0, environment-leaves xs h.1)

  pub goal-leaves : (t : Table) (g : Goal) → Ready es t → GoalHeld es g → HasLeaves (goal_resolved (content es t.values) (goal_trees es g)).environment × HasLeaves (goal_resolved (content es t.values) (goal_trees es g)).predicate
  goal-leaves t g r h =
      let all = (ready-terms es law t r).terms in (
        leaves-resolved (content es t.values) all (goal_trees es g).environment (environment-leaves g.param_env.items h.environment),
        leaves-resolved (content es t.values) all (goal_trees es g).predicate (λ e. absurd (false-true e), list-leaves g.predicate.trait_ref.args.0 h.predicate, tt),
      )

-- A probe restores the state before it.
use Rattle.std.proofs.Common.{◌≡◌, ℕ, List, [], ◌∷◌, map, refl, Option}
use Rattle.std.specs.List.{AllZip}
use Rattle.type_terms.specs.declared.kinds.GenericArgKind.{GenericArgKind}
use Rattle.term_folds.specs.declared.predicate.Clause.{Clause}
use Rattle.term_folds.specs.declared.predicate.TraitPredicate.{TraitPredicate}
use Rattle.infer_table.specs.Content.{Table}
use Rattle.infer_table.specs.declared.canonical.CanonicalVarKind.{CanonicalVarKind}
use Rattle.infer_table.specs.declared.certainty.TypingMode.{TypingMode}
use Rattle.infer_table.specs.declared.goal.Goal.{Goal}
use Rattle.infer_table.specs.declared.response.CanonicalResponse.{CanonicalResponse}
use Rattle.goal_evaluator.specs.declared.goal.GoalSource.{GoalSource}
use Rattle.goal_evaluator.specs.Context.{Context, NestedGoal, nested_goal}
use Rattle.goal_evaluator.specs.Probes.{ContextContinues}

same-goal : (s t : GoalSource) (xs ys : List Clause) (p q : TraitPredicate) → t ≡ s → ys ≡ xs → q ≡ p
    → ◌≡◌ {A = NestedGoal} (record { source = t; clauses = ys; predicate = q }) (record { source = s; clauses = xs; predicate = p })
same-goal s t xs ys p q a b c = cc

-- clones of goals are the same goals
pub clone-same : (n m : GoalSource × Goal) → m.0 ≡ n.0 → m.1.param_env.items ≡ n.1.param_env.items → m.1.predicate ≡ n.1.predicate → nested_goal m ≡ nested_goal n
clone-same n m a b c = same-goal n.0 m.0 n.1.param_env.items m.1.param_env.items n.1.predicate m.1.predicate a b c

both : (x y : NestedGoal) (xs ys : List NestedGoal) → y ≡ x → ys ≡ xs → y ∷ ys ≡ x ∷ xs
both x y xs ys e f = cc

pub clones-same : (R : GoalSource × Goal → GoalSource × Goal → Type 0) → ((n m : GoalSource × Goal) → R n m → nested_goal m ≡ nested_goal n)
    → (ns ms : List (GoalSource × Goal)) → AllZip R ns ms → map nested_goal ms ≡ map nested_goal ns
clones-same R f [] [] h = refl
clones-same R f [] (m ∷ ms) h = absurd h
clones-same R f (n ∷ ns) [] h = absurd h
clones-same R f (n ∷ ns) (m ∷ ms) h = both (nested_goal n) (nested_goal m) (map nested_goal ns) (map nested_goal ms) (f n m h.0) (clones-same R f ns ms h.1)

-- contexts with equal fields are equal
pub same-context : (m m' : TypingMode) (t t' : Table) (ks ks' : List CanonicalVarKind) (vs vs' : List GenericArgKind) (ns ns' : List NestedGoal) (rs rs' : List (Option CanonicalResponse)) (n n' : ℕ)
    → m' ≡ m → t' ≡ t → ks' ≡ ks → vs' ≡ vs → ns' ≡ ns → rs' ≡ rs → n' ≡ n
    → ◌≡◌ {A = Context} (record { mode = m'; table = t'; variables = ks'; values = vs'; nested = ns'; replies = rs'; capacity = n' })
    (record { mode = m; table = t; variables = ks; values = vs; nested = ns; replies = rs; capacity = n })
same-context m m' t t' ks ks' vs vs' ns ns' rs rs' n n' a b k c d e f = cc

-- with its table and its nested goals put back, a context is as before, but for its room
pub put-back : (old new : Context) (t : Table) (ns : List NestedGoal) → ContextContinues old new → t ≡ old.table → ns ≡ old.nested
    → record new { table = t; nested = ns } ≡ record old { capacity = new.capacity }
put-back old new t ns k e f =
    same-context old.mode new.mode old.table t old.variables new.variables old.values new.values old.nested ns old.replies new.replies new.capacity new.capacity
    k.mode e k.variables k.values f k.replies refl

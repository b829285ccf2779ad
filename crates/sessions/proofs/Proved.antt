-- A goal with the values of its table is its instance by the solution that leaves each other unknown as it is.
use Rattle.std.proofs.Common.{◌≡◌, ◌∙◌, ℕ, Bool, true, List, [], Option, refl, ap, subst}
use Rattle.type_terms.specs.Promised.Label.{infer}
use Rattle.type_terms.specs.Promised.Trees.{Trees, none, tree, erase}
use Rattle.type_terms.specs.Promised.Handles.{Entry}
use Rattle.type_terms.specs.Terms.{Lawful}
use Rattle.infer_table.specs.Content.{Table, content, Ready, IsProper}
use Rattle.infer_table.specs.Goals.{GoalHeld, goal_trees}
use Rattle.infer_table.specs.Solutions.{instance, resolved}
use Rattle.infer_table.specs.declared.goal.Goal.{Goal}
use Rattle.goal_evaluator.proofs.Readings.{HasLeaves}
use Rattle.goal_evaluator.specs.Content.{Fact, trait_of}
use Rattle.goal_evaluator.specs.Proof as Lists
use Rattle.solver_graph.proofs.Leaves.{goal-leaves}
use Rattle.sessions.specs.Proved.{ValuesAreProved}
use Rattle.sessions.proofs.Itself.{themselves, themselves-solve, themselves-read}

leaves-proper : (t : Trees) → HasLeaves t → IsProper t
leaves-proper none h = tt
leaves-proper (tree (infer k v) c o) h = (h.0 refl, leaves-proper o h.2)
leaves-proper (tree l c o) h = (leaves-proper c h.1, leaves-proper o h.2)

abbrev no_table : Table
no_table = record { ty_vars = 0; const_vars = 0; region_vars = 0; values = []; constraints = [] }

nothing-ready : (es : List Entry) → Ready es no_table
nothing-ready es = record { held = tt; constraints_held = tt; acyclic = tt; older = tt; proper = tt }

pub goal-proper : (es : List Entry) → Lawful es → (g : Goal) → GoalHeld es g → IsProper (goal_trees es g).environment × IsProper (goal_trees es g).predicate
goal-proper es law g held =
    let l = goal-leaves es law no_table g (nothing-ready es) held in
    (leaves-proper (goal_trees es g).environment l.0, leaves-proper (goal_trees es g).predicate l.1)

abbrev made : Option ℕ → Trees → Trees → Fact
made t e p = record { trait = t; goal = record { environment = e; predicate = p }; proper = true }

same-fact : (t : Option ℕ) (a b e p : Trees) → a ≡ e → b ≡ p → made t a b ≡ made t e p
same-fact t a b e p x y = ap (λ z. made t z b) x ∙ ap (λ z. made t e z) y

pub values-are-proved : (Rule : Fact → List Fact → Type 0) (coinductive : Fact → Bool) → ValuesAreProved Rule coinductive
values-are-proved Rule coinductive es t g law ready held all =
    let p = goal-proper es law g held in
    subst (Lists.FactHasProof Fact Rule coinductive)
    (same-fact (trait_of (goal_trees es g).predicate) (instance (themselves es t ready) (goal_trees es g).environment) (instance (themselves es t ready) (goal_trees es g).predicate)
    (erase (resolved (content es t.values) (goal_trees es g).environment)) (erase (resolved (content es t.values) (goal_trees es g).predicate))
    (themselves-read es t ready (goal_trees es g).environment p.0) (themselves-read es t ready (goal_trees es g).predicate p.1))
    (all (themselves es t ready) (themselves-solve es t ready))

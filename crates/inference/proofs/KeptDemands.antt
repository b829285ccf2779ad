-- Answers to goals that were asked keep each solution of all that was asked, and none of these goals is refused.
use Rattle.std.proofs.Common.{◌≡◌, ◌<◌, ◌≤◌, ◌∙◌, ℕ, arith, true, List, [], ◌∷◌, Option, Contains}
use Rattle.std.proofs.lemmas.List.Elements.{All-contains}
use Rattle.type_terms.specs.Promised.Label.{Sort}
use Rattle.type_terms.specs.Promised.Trees.{Trees}
use Rattle.infer_table.specs.Applying.{unknowns_of}
use Rattle.infer_table.specs.Canonical.{GoalTrees, canonical_form}
use Rattle.infer_table.specs.Content.{AllProper}
use Rattle.infer_table.specs.Goals.{goal_resolved}
use Rattle.infer_table.specs.Solutions.{Assignment, Binding, Solves, instance, resolved}
use Rattle.infer_table.specs.Unification.{TableTrees}
use Rattle.infer_table.specs.declared.certainty.TypingMode.{TypingMode}
use Rattle.infer_table.proofs.EquationFacts.{solved-sorted}
use Rattle.infer_table.proofs.Places.{in_terms, AllTrees, trees-proper}
use Rattle.infer_table.proofs.SolutionLaws.{instance-resolved}
use Rattle.infer_table.proofs.SolvableLaws.{resolved-proper}
use Rattle.goal_evaluator.specs.Content.{Fact, trait_of}
use Rattle.goal_frames.specs.Meanings.{HandlerMeaning}
use Rattle.solver_graph.specs.LeftTables.{AnswerLeaves, IsPosedIn}
use Rattle.solver_graph.specs.Roots.{fact_under}
use Rattle.fulfillment.specs.Leaving.{GoalsLeave, itself, further, IsRefusedAmong}
use Rattle.overlap_check.proofs.Owning.{NoFewer, own-more}
use Rattle.inference.specs.Inference.{Demand, proved, OwnVariables, AgreeOnOwn, IsSoughtAndProved, MeetsDemand, SolvesDemands}
use Rattle.fulfillment.proofs.OwnTables.{IsOwnInTrees, Stays, answered-own, any, beyond, posed, valued}
use Rattle.inference.proofs.Owned.{IsOwnGoal}

-- ---- assignments
pub bindings-proper : (bs : List Binding) → AllTrees any bs → AllProper bs
bindings-proper [] h = tt
bindings-proper (b ∷ older) h = (trees-proper any in_terms b.value h.0, bindings-proper older h.1)

pub less : {i a b : ℕ} → i < a → a ≤ b → i < b
less h le = omega (arith, h, le)

pub fact-same : (t u : Option ℕ) (e f p q : Trees) → t ≡ u → e ≡ f → p ≡ q
    → (let x : Fact = record { trait = t; goal = record { environment = e; predicate = p }; proper = true } in x) ≡ record { trait = u; goal = record { environment = f; predicate = q }; proper = true }
fact-same t u e f p q a b d = cc

-- a solution of a table sees through the values that are put into a goal
resolved-fact : (u : TableTrees) (g : GoalTrees) (n : Sort → ℕ) → IsOwnInTrees u → IsOwnGoal n g → (r : Assignment) → Solves r u.bindings → fact_under r (goal_resolved u.bindings g) ≡ fact_under r g
resolved-fact u g n is own r solves =
    let all = valued (unknowns_of u) u.bindings is.below in
    fact-same (trait_of (resolved u.bindings g.predicate)) (trait_of g.predicate) (instance r (resolved u.bindings g.environment)) (instance r g.environment)
    (instance r (resolved u.bindings g.predicate)) (instance r g.predicate) (own.trait u.bindings)
    (instance-resolved r u.bindings g.environment all solves) (instance-resolved r u.bindings g.predicate all solves)

module _ {Handler : Type 0} (handler : HandlerMeaning Handler) (mode : TypingMode) (w : handler.goals.World) (gs : List GoalTrees) (t : TableTrees)
    (goals : (g : GoalTrees) → Contains gs g → IsOwnGoal (unknowns_of t) g) where
  -- ---- tables that answers leave
  module _ (u : TableTrees) (more : NoFewer (unknowns_of t) (unknowns_of u)) (g : GoalTrees) (i : Contains gs g) where
    own-there : IsOwnGoal (unknowns_of u) g
    own-there = let h = goals g i in record {
      environment = own-more (unknowns_of t) (unknowns_of u) more g.environment h.environment;
      predicate = own-more (unknowns_of t) (unknowns_of u) more g.predicate h.predicate;
      environment_proper = h.environment_proper;
      predicate_proper = h.predicate_proper;
      trait = h.trait;
    }

    posed-there : IsOwnInTrees u → IsPosedIn u g
    posed-there is = posed u is g own-there.environment own-there.predicate

    answered-there : IsOwnInTrees u → (v : TableTrees) → AnswerLeaves handler mode w g u v → Stays u v
    answered-there is v l = answered-own u is g own-there.environment own-there.predicate v l.answer l.left

  -- they hold their own variables alone
  pub left-own : IsOwnInTrees t → (u : TableTrees) → GoalsLeave handler mode w gs t u → Stays t u
  left-own is u itself = (is, λ k. omega arith)
  left-own is v (further {u = u} l g i step) =
      let x = left-own is u l in
      let y = answered-there u x.1 g i x.0 v step in
      (y.0, beyond (unknowns_of t) (unknowns_of u) (unknowns_of v) x.1 y.1)

  -- ---- a solution of all that was asked
  module _ (own : OwnVariables) (asked : List Demand) (own_known : (k : Sort) (v : ℕ) → own k v ≡ true → v < unknowns_of t k) (among : (g : GoalTrees) → Contains gs g → Contains asked (proved g))
      (s : Assignment) (solution : SolvesDemands handler mode w own asked s) (is : IsOwnInTrees t) where
    -- it goes on to one of the table
    abbrev pub GoesOn : TableTrees → Type 0
    GoesOn u = (r : Assignment) × AgreeOnOwn own s r × Solves r u.bindings

    sought : (u : TableTrees) → Stays t u → (r : Assignment) → AgreeOnOwn own s r → Solves r u.bindings → (g : GoalTrees) → Contains gs g
        → let h = handler.goals.handled w mode (canonical_form (goal_resolved u.bindings g)) in (x : h.World) × h.Proves x (fact_under r g)
    sought u stays r agrees solves g i =
        let here = own-there u stays.1 g i in
        let sorted = solved-sorted r u.bindings solves in
        let proper = bindings-proper u.bindings stays.0.own.1 in
        let met : IsSoughtAndProved handler mode w (fact_under r g) = All-contains (MeetsDemand handler mode w r) asked (proved g) (solution.meets r sorted agrees) (among g i) in
        met (goal_resolved u.bindings g) r sorted (posed-there u stays.1 g i stays.0).clean
        (resolved-proper u.bindings g.environment proper here.environment_proper) (resolved-proper u.bindings g.predicate proper here.predicate_proper)
        (resolved-fact u g (unknowns_of u) stays.0 here r solves)

    pub goes-on : GoesOn t → (u : TableTrees) → GoalsLeave handler mode w gs t u → GoesOn u
    goes-on first u itself = first
    goes-on first v (further {u = u} l g i step) =
        let stays = left-own is u l in
        let x = goes-on first u l in
        let found = sought u stays x.0 x.1 x.2 g i in
        let z = step.keeps (posed-there u stays.1 g i stays.0) found.0 x.0 x.2 found.1 in
        (z.0, (λ k v h. z.1 k v (less (own_known k v h) (stays.1 k)) ∙ x.1 k v h), z.2)

    -- so none of the goals is refused
    pub none-refused : GoesOn t → (depth : ℕ) (g : GoalTrees) → Contains gs g → IsRefusedAmong handler mode w depth gs t g → ⊥
    none-refused first depth g i h =
        let stays = left-own is h.table h.left in
        let x = goes-on first h.table h.left in
        let found = sought h.table stays x.0 x.1 x.2 g i in
        h.refused.no_proof (posed-there h.table stays.1 g i stays.0) found.0 x.0 x.2 found.1

-- What the calls of a context leave.
use Rattle.std.proofs.Common.{◌≡◌, ◌<◌, ◌∙◌, ℕ, arith, true, ltb, refl, sym, ap, subst, List, [], ◌∷◌, ◌++◌, Some, All, Contains}
use Rattle.std.proofs.lemmas.Bool.Decides.{nat_tests}
use Rattle.std.proofs.lemmas.List.Elements.{All-append, All-cons, All-head, All-nil, All-push, All-same, All-tail, All-weaker, Contains-append_right}
use Rattle.type_terms.specs.Promised.Handles.{ArgHeld, Entry, Keeps, arg_trees}
use Rattle.type_terms.specs.Promised.Label.{Sort, of_type, of_const, of_lifetime, infer}
use Rattle.type_terms.specs.Promised.Trees.{Trees, leaf}
use Rattle.type_terms.specs.Terms.{Lawful}
use Rattle.type_terms.specs.declared.kinds.GenericArgKind.{GenericArgKind}
use Rattle.infer_table.specs.Applying.{unknowns_of}
use Rattle.infer_table.specs.Content.{AreOlder, Grows, Ready, Table, content, variables_of}
use Rattle.infer_table.specs.Covers.{AreKnown, IsOfKnown}
use Rattle.infer_table.specs.Equated.{MakesEqual, only_equation}
use Rattle.infer_table.specs.Goals.{GoalHeld, goal_trees}
use Rattle.infer_table.specs.Growth.{counts-kept}
use Rattle.infer_table.specs.Kept.{content-kept}
use Rattle.infer_table.specs.Solutions.{AllValued, Assignment, Binding, HasValues, IsSorted, Solves, instance, resolved, tree_of}
use Rattle.infer_table.specs.Unification.{table_trees, unified}
use Rattle.infer_table.specs.declared.certainty.MaybeCause.TheVariants.{Ambiguity}
use Rattle.infer_table.specs.declared.certainty.TypingMode.{TypingMode}
use Rattle.infer_table.specs.declared.goal.Goal.{Goal}
use Rattle.infer_table.proofs.ContentFacts.{valued}
use Rattle.infer_table.proofs.Covers.{same-unknowns}
use Rattle.infer_table.proofs.EquationFacts.{arg-single}
use Rattle.infer_table.proofs.SolutionLaws.{instance-resolved}
use Rattle.search_graph.specs.Cache.{AreJustified}
use Rattle.search_graph.specs.SearchState.{SearchState}
use Rattle.goal_frames.specs.Meanings.{HandlerMeaning}
use Rattle.solver_graph.specs.Contexts.{IsReady, entries_of}
use Rattle.solver_graph.specs.RootEvaluations.{KnownResults}
use Rattle.solver_graph.specs.Searching.{solver_meaning, world_in}
use Rattle.solver_graph.specs.declared.context.SolverCx.{SolverCx}
use Rattle.fulfillment.specs.Selecting.{DoneAreProved, IsProvedIn}
use Rattle.fulfillment.specs.declared.obligation.Obligation.{Obligation}
use Rattle.fulfillment.specs.declared.obligation.Standing.TheVariants.{Pending, Done}
use Rattle.fulfillment.specs.declared.selecting.FulfillmentCtxt.{FulfillmentCtxt}
use Rattle.fulfillment.proofs.Selections.{done-later}
use Rattle.inference.specs.Inference.{Demand, equal, proved, DemandIsOver, IsFaithfulTo, MeetsDemand, MeetsEquation, OwnVariables}
use Rattle.inference.specs.Inferring.{CanInfer, GoalIsOver, HasOneMore, IsAskedFurther, IsOverVariables, ShowsSolutions, ValuesAreOver, all_variables, equations_of, no_variables}
use Rattle.inference.specs.declared.context.Infer.{Infer}
use Rattle.inference.proofs.Faithful.{all-kept, asked-equal, asked-nothing, goals-later, held-later, instance-agree, one-more, over-more, values-more}
use Rattle.fulfillment.proofs.OwnTables.{known-table}
use Rattle.inference.proofs.Owned.{arg-own, equated-own, in-trees, of-trees}
use Rattle.overlap_check.proofs.Owning.{NoFewer}

-- ---- a new context
abbrev no_values : Table
no_values = record { ty_vars = 0; const_vars = 0; region_vars = 0; values = []; constraints = [] }

module _ {Handler : Type 0} (handler : HandlerMeaning Handler) where
  module _ (c : SolverCx Handler) (i : Infer) (empty : i.table ≡ no_values) (no_goals : i.goals.obligations.items ≡ []) where
    pub can-begin : (f : SearchState) (ks : KnownResults) → f.current_depth ≡ 0 → AreJustified (solver_meaning handler) c ks → IsReady handler.IsReady c → CanInfer handler f ks c i
    can-begin f ks rests justified ready = record {
      select =
          record {
            empty = rests;
            cache = justified;
            ready = ready;
            table = subst (Ready (entries_of c)) (sym empty) (record { held = tt; constraints_held = tt; acyclic = tt; older = tt; proper = tt });
            goals = All-same (λ (o : Obligation). GoalHeld (entries_of c) o.goal) i.goals.obligations.items [] no_goals (All-nil (λ (o : Obligation). GoalHeld (entries_of c) o.goal));
          };
      values = subst (λ (t : Table). ValuesAreOver (variables_of t) (content (entries_of c) t.values)) (sym empty) tt;
      goals =
          All-same (λ (o : Obligation). GoalIsOver (variables_of i.table) (goal_trees (entries_of c) o.goal)) i.goals.obligations.items [] no_goals
          (All-nil (λ (o : Obligation). GoalIsOver (variables_of i.table) (goal_trees (entries_of c) o.goal)));
    }

    pub faithful-begin : IsFaithfulTo handler no_variables [] c i
    faithful-begin = record {
      own_known = λ k v e. absurd cc;
      asked_known = All-nil (DemandIsOver (variables_of i.table));
      registered =
          All-same (λ (o : Obligation). Contains [] (proved (goal_trees (entries_of c) o.goal))) i.goals.obligations.items [] no_goals
          (All-nil (λ (o : Obligation). Contains [] (proved (goal_trees (entries_of c) o.goal))));
      covers = λ s h. (s, (λ k v e. refl), subst (λ (t : Table). Solves s (content (entries_of c) t.values)) (sym empty) h.sorted);
      equations = λ s h. All-nil (MeetsEquation s);
      done =
          All-same (λ (o : Obligation). o.standing ≡ Done → IsProvedIn handler c i.table o.goal) i.goals.obligations.items [] no_goals
          (All-nil (λ (o : Obligation). o.standing ≡ Done → IsProvedIn handler c i.table o.goal));
    }

  -- ---- calls that change the table
  module _ (f : SearchState) (ks : KnownResults) (c : SolverCx Handler) (i : Infer) (can : CanInfer handler f ks c i) (d : SolverCx Handler) (entries : Keeps (entries_of c) (entries_of d)) where
    abbrev es : List Entry
    es = entries_of c

    abbrev fs : List Entry
    fs = entries_of d

    abbrev os : List Obligation
    os = i.goals.obligations.items

    law : Lawful es
    law = can.select.ready.lawful

    pub same-values : content fs i.table.values ≡ content es i.table.values
    same-values = content-kept es fs i.table.values entries can.select.table.held

    module _ (u : Table) (grows : Grows i.table u) (ready : Ready fs u) where
      abbrev j : Infer
      j = record i { table = u }

      no-fewer : NoFewer (variables_of i.table) (variables_of u)
      no-fewer = counts-kept i.table u grows

      -- and another search has gone on in the context
      abbrev CanGoOn : Type 0
      CanGoOn = (g : SearchState) (ls : KnownResults) → g.current_depth ≡ 0 → AreJustified (solver_meaning handler) d ls → IsReady handler.IsReady d → CanInfer handler g ls d j

      can-grown : ValuesAreOver (variables_of u) (content fs u.values) → CanGoOn
      can-grown values g ls rests justified is_ready = record {
        select = record { empty = rests; cache = justified; ready = is_ready; table = ready; goals = held-later es fs entries os os (all-kept os) can.select.goals };
        values = values;
        goals = goals-later es fs entries (GoalIsOver (variables_of i.table)) (GoalIsOver (variables_of u)) (over-more (variables_of i.table) (variables_of u) no-fewer) os os (all-kept os) can.select.goals can.goals;
      }

      abbrev SameWorld : Type 0
      SameWorld = world_in handler d ≡ world_in handler c

      narrows-done : SameWorld → ((s : Assignment) → Solves s (content fs u.values) → Solves s (content es i.table.values)) → DoneAreProved handler c i.table os → DoneAreProved handler d u os
      narrows-done world narrows = done-later handler c d i.table u world entries narrows os can.select.goals

      -- no variable has got a value
      module _ (same : u.values ≡ i.table.values) where
        content-same : content fs u.values ≡ content es i.table.values
        content-same = ap (content fs) same ∙ same-values

        narrows-same : (s : Assignment) → Solves s (content fs u.values) → Solves s (content es i.table.values)
        narrows-same s = subst (Solves s) content-same

        pub can-same : CanGoOn
        can-same = can-grown (subst (ValuesAreOver (variables_of u)) (sym content-same) (values-more (variables_of i.table) (variables_of u) no-fewer (content es i.table.values) can.values))

        pub faithful-same : SameWorld → IsAskedFurther handler [] c i d j
        faithful-same world =
            asked-nothing handler c d i j world entries refl (all-kept os) can.select.goals no-fewer narrows-same (narrows-done world narrows-same)
            (λ own asked faithful s h. let x = faithful.covers s h in (x.0, x.1, subst (Solves x.0) (sym content-same) x.2))

        own-values : IsOfKnown (variables_of i.table) (content es i.table.values)
        own-values =
            let is = in-trees es law i.table can.select.table can.values in
            subst (λ (n : Sort → ℕ). IsOfKnown n (content es i.table.values)) (same-unknowns es i.table) (known-table (unknowns_of (table_trees es i.table)) (content es i.table.values) is.own.0 is.below)

        pub faithful-fresh : SameWorld → (k : Sort) (n : ℕ) → n ≡ variables_of i.table k → n < variables_of u k → HasOneMore handler k n c i d j
        faithful-fresh world k n is_next is_there =
            one-more handler c d i j world entries refl (all-kept os) can.select.goals no-fewer narrows-same (narrows-done world narrows-same) k n is_next is_there own-values content-same

      -- two terms were made equal
      module _ (a b : GenericArgKind) (a_held : ArgHeld es a) (b_held : ArgHeld es b) (a_over : IsOverVariables (variables_of i.table) (arg_trees es a)) (b_over : IsOverVariables (variables_of i.table) (arg_trees es b)) where
        abbrev of-table : (Sort → ℕ) → Type 0
        of-table n = IsOverVariables n (arg_trees es a) × IsOverVariables n (arg_trees es b)

        pub can-equal : unified (table_trees es i.table) (only_equation es a b) ≡ Some (table_trees fs u) → CanGoOn
        can-equal e =
            let both = subst of-table (sym (same-unknowns es i.table)) (a_over, b_over) in
            can-grown
            (of-trees fs u
            (equated-own (table_trees es i.table) (table_trees fs u) (arg_trees es a) (arg_trees es b) (arg-single es law a a_held) (arg-single es law b b_held)
            (in-trees es law i.table can.select.table can.values) (arg-own es law (unknowns_of (table_trees es i.table)) a a_held both.0) (arg-own es law (unknowns_of (table_trees es i.table)) b b_held both.1) e).0)

        pub faithful-equal : SameWorld → MakesEqual es i.table fs u (arg_trees es a) (arg_trees es b) → IsAskedFurther handler (equal (arg_trees es a) (arg_trees es b) ∷ []) c i d j
        faithful-equal world e =
            asked-equal handler c d i j world entries refl (all-kept os) can.select.goals no-fewer (λ s h. (e.only s h).0) (narrows-done world (λ s h. (e.only s h).0))
            (arg_trees es a) (arg_trees es b) a_over.0 b_over.0 e

  -- ---- a goal is registered
  module _ (f : SearchState) (ks : KnownResults) (c : SolverCx Handler) (i : Infer) (can : CanInfer handler f ks c i) (goals : FulfillmentCtxt) (g : Goal) (left : ℕ)
      (added : goals.obligations.items ≡ i.goals.obligations.items ++ (record { goal = g; standing = Pending Ambiguity; left = left }) ∷ []) where
    abbrev new : Obligation
    new = record { goal = g; standing = Pending Ambiguity; left = left }

    abbrev with_goal : Infer
    with_goal = record i { goals = goals }

    each : (P : Obligation → Type 0) → All P i.goals.obligations.items → P new → All P goals.obligations.items
    each P h x = All-same P goals.obligations.items (i.goals.obligations.items ++ new ∷ []) added (All-push P i.goals.obligations.items new h x)

    pub can-register : GoalHeld (entries_of c) g → GoalIsOver (variables_of i.table) (goal_trees (entries_of c) g) → CanInfer handler f ks c with_goal
    can-register held over = record {
      select = record { empty = can.select.empty; cache = can.select.cache; ready = can.select.ready; table = can.select.table; goals = each (λ (o : Obligation). GoalHeld (entries_of c) o.goal) can.select.goals held };
      values = can.values;
      goals = each (λ (o : Obligation). GoalIsOver (variables_of i.table) (goal_trees (entries_of c) o.goal)) can.goals over;
    }

    pub faithful-register : GoalIsOver (variables_of i.table) (goal_trees (entries_of c) g) → IsAskedFurther handler (proved (goal_trees (entries_of c) g) ∷ []) c i c with_goal
    faithful-register over own asked faithful =
        let goal = goal_trees (entries_of c) g in
        record {
          own_known = faithful.own_known;
          asked_known = All-cons (DemandIsOver (variables_of i.table)) (proved goal) asked (over.environment.0, over.predicate.0) faithful.asked_known;
          registered =
              each (λ (o : Obligation). Contains (proved goal ∷ asked) (proved (goal_trees (entries_of c) o.goal)))
              (All-weaker (λ (o : Obligation). Contains asked (proved (goal_trees (entries_of c) o.goal))) (λ (o : Obligation). Contains (proved goal ∷ asked) (proved (goal_trees (entries_of c) o.goal)))
              (λ o x. Contains-append_right (proved goal ∷ []) asked (proved (goal_trees (entries_of c) o.goal)) x) i.goals.obligations.items faithful.registered)
              (0, omega arith, refl);
          covers =
              λ s h. faithful.covers s
              (record { sorted = h.sorted; meets = λ r p q. All-tail (MeetsDemand handler i.mode (world_in handler c) r) (proved goal) asked (h.meets r p q) });
          equations = λ s h. All-cons (MeetsEquation s) (proved goal) asked tt (faithful.equations s h);
          done = each (λ (o : Obligation). o.standing ≡ Done → IsProvedIn handler c i.table o.goal) faithful.done (λ e. absurd cc);
        }

  -- none is
  pub can-refuse : (f : SearchState) (ks : KnownResults) (c : SolverCx Handler) (i : Infer) → CanInfer handler f ks c i → (goals : FulfillmentCtxt) → goals.obligations.items ≡ i.goals.obligations.items
      → CanInfer handler f ks c (record i { goals = goals })
  can-refuse f ks c i can goals same =
      record {
        select =
            record {
              empty = can.select.empty;
              cache = can.select.cache;
              ready = can.select.ready;
              table = can.select.table;
              goals = All-same (λ (o : Obligation). GoalHeld (entries_of c) o.goal) goals.obligations.items i.goals.obligations.items same can.select.goals;
            };
        values = can.values;
        goals = All-same (λ (o : Obligation). GoalIsOver (variables_of i.table) (goal_trees (entries_of c) o.goal)) goals.obligations.items i.goals.obligations.items same can.goals;
      }

  -- ---- what a context shows
  pub shows : (c : SolverCx Handler) (i : Infer) (t x : Trees) → x ≡ resolved (content (entries_of c) i.table.values) t → ShowsSolutions handler c i t x
  shows c i t x e own asked faithful alone s h =
      let y = faithful.covers s h in (
        y.0,
        ap (instance y.0) e ∙ instance-resolved y.0 (content (entries_of c) i.table.values) t (valued (entries_of c) i.table.values) y.2 ∙ instance-agree own s y.0 y.1 t alone,
      )

  -- ---- the variables of the table become the user's own
  variable-is : (s : Assignment) (k : Sort) (v : ℕ) → HasValues k → instance s (leaf (infer k v)) ≡ tree_of (s k v)
  variable-is s of_type v h = refl
  variable-is s of_const v h = refl
  variable-is s of_lifetime v h = absurd h

  solves : (mode : TypingMode) (w : handler.goals.World) (s : Assignment) → IsSorted s → (bs : List Binding) (asked : List Demand) → AllValued bs → All (MeetsDemand handler mode w s) (equations_of bs ++ asked) → Solves s bs
  solves mode w s sorted [] asked v h = sorted
  solves mode w s sorted (b ∷ older) asked v h = (
    sym (variable-is s b.sort b.var v.0) ∙ All-head (MeetsDemand handler mode w s) (equal (leaf (infer b.sort b.var)) b.value) (equations_of older ++ asked) h,
    solves mode w s sorted older asked v.1 (All-tail (MeetsDemand handler mode w s) (equal (leaf (infer b.sort b.var)) b.value) (equations_of older ++ asked) h),
  )

  met : (s : Assignment) (bs : List Binding) → AllValued bs → Solves s bs → All (MeetsEquation s) (equations_of bs)
  met s [] v h = All-nil (MeetsEquation s)
  met s (b ∷ older) v h = All-cons (MeetsEquation s) (equal (leaf (infer b.sort b.var)) b.value) (equations_of older) (variable-is s b.sort b.var v.0 ∙ h.0) (met s older v.1 h.1)

  known-variable : (n : Sort → ℕ) (k : Sort) (v : ℕ) → v < n k → AreKnown n (leaf (infer k v))
  known-variable n k v h = (h, tt, tt)

  equations-known : (n : Sort → ℕ) (bs : List Binding) → AreOlder n bs → ValuesAreOver n bs → All (DemandIsOver n) (equations_of bs)
  equations-known n [] o h = All-nil (DemandIsOver n)
  equations-known n (b ∷ older) o h = All-cons (DemandIsOver n) (equal (leaf (infer b.sort b.var)) b.value) (equations_of older) (known-variable n b.sort b.var o.0, h.0.0) (equations-known n older o.3 h.1)

  test-below : (v n : ℕ) → ltb v n ≡ true → v < n
  test-below v n e = grind (arith, nat_tests)

  pub adopted : (f : SearchState) (ks : KnownResults) (c : SolverCx Handler) (i : Infer) → CanInfer handler f ks c i → (own : OwnVariables) (asked : List Demand) → IsFaithfulTo handler own asked c i
      → IsFaithfulTo handler (all_variables (variables_of i.table)) (equations_of (content (entries_of c) i.table.values) ++ asked) c i
  adopted f ks c i can own asked faithful =
      let bs = content (entries_of c) i.table.values in
      let all = valued (entries_of c) i.table.values in
      record {
        own_known = λ k v e. test-below v (variables_of i.table k) e;
        asked_known = All-append (DemandIsOver (variables_of i.table)) (equations_of bs) asked (equations-known (variables_of i.table) bs can.select.table.older can.values) faithful.asked_known;
        registered =
            All-weaker (λ (o : Obligation). Contains asked (proved (goal_trees (entries_of c) o.goal))) (λ (o : Obligation). Contains (equations_of bs ++ asked) (proved (goal_trees (entries_of c) o.goal)))
            (λ o x. Contains-append_right (equations_of bs) asked (proved (goal_trees (entries_of c) o.goal)) x) i.goals.obligations.items faithful.registered;
        covers = λ s h. (s, (λ k v e. refl), solves i.mode (world_in handler c) s h.sorted bs asked all (h.meets s h.sorted (λ k v e. refl)));
        equations = λ s h. All-append (MeetsEquation s) (equations_of bs) asked (met s bs all h) (faithful.equations s h);
        done = faithful.done;
      }

-- What a context is faithful to, it stays faithful to.
use Rattle.std.specs.List.{AllZip}
use Rattle.std.specs.Prelude.{◌||◌, if◌then◌else◌}
use Rattle.std.proofs.Common.{◌≡◌, ◌<◌, ◌∙◌, ℕ, arith, Bool, true, false, refl, sym, ap, subst, List, [], ◌∷◌, get_or, All, Contains}
use Rattle.std.proofs.lemmas.List.Elements.{All-cons, All-contains, All-head, All-map, All-tail, All-weaker, Contains-append_right}
use Rattle.type_terms.specs.Promised.Handles.{Entry, Keeps}
use Rattle.type_terms.specs.Promised.Label.{Label, Sort, of_type, of_const, of_lifetime, infer}
use Rattle.type_terms.specs.Promised.Trees.{Trees, none, tree, sort_of}
use Rattle.type_terms.specs.Terms.{Lawful}
use Rattle.infer_table.specs.Applying.{unknowns_of}
use Rattle.infer_table.specs.Canonical.{GoalTrees}
use Rattle.infer_table.specs.Content.{content, variables_of}
use Rattle.infer_table.specs.Covers.{AreKnown, Continues, IsOfKnown}
use Rattle.infer_table.specs.Goals.{GoalHeld, goal_trees}
use Rattle.infer_table.specs.Growth.{counts-kept}
use Rattle.infer_table.specs.Solutions.{Assignment, Binding, Equates, HasNoSolution, IsSorted, Solves, instance, is_same_variable}
use Rattle.infer_table.specs.Unification.{TableTrees, table_trees}
use Rattle.infer_table.specs.WithoutCanonical.{HaveNoCanonical}
use Rattle.infer_table.specs.declared.certainty.TypingMode.{TypingMode}
use Rattle.infer_table.specs.declared.goal.Goal.{Goal}
use Rattle.infer_table.proofs.EquationFacts.{solved-sorted}
use Rattle.infer_table.proofs.SolvableLaws.{tree-cong}
use Rattle.infer_table.proofs.Covers.{same-unknowns}
use Rattle.infer_table.proofs.KnownUnknowns.{known-more}
use Rattle.infer_table.proofs.Numbers.{goal-held-later, goal-trees-later}
use Rattle.infer_table.proofs.SolutionLaws.{is_variable-equal}
use Rattle.search_graph.specs.SearchState.{SearchState}
use Rattle.goal_evaluator.specs.Content.{trait_of}
use Rattle.goal_frames.specs.Meanings.{HandlerMeaning}
use Rattle.solver_graph.specs.Contexts.{entries_of}
use Rattle.solver_graph.specs.RootEvaluations.{KnownResults}
use Rattle.solver_graph.specs.Searching.{world_in}
use Rattle.solver_graph.specs.declared.context.SolverCx.{SolverCx}
use Rattle.fulfillment.specs.Obligations.{ObligationIsKept, ObligationsHeld, trees_of_goals}
use Rattle.fulfillment.specs.Selecting.{AreClean, CanSelect, DoneAreProved, HasSelected, ObligationIsRefused}
use Rattle.fulfillment.specs.declared.obligation.Obligation.{Obligation}
use Rattle.fulfillment.specs.declared.obligation.ObligationId.{ObligationId}
use Rattle.fulfillment.proofs.Selections.{kept-itself}
use Rattle.fulfillment.proofs.Lists.{all-along, contains-map, zip-itself}
use Rattle.overlap_check.proofs.Owning.{NoFewer}
use Rattle.inference.specs.Inference.{AgreeOnOwn, Demand, equal, proved, DemandIsOver, HaveNoSolutionWith, IsFaithfulTo, IsSoughtAndProved, MeetsDemand, MeetsEquation, OwnVariables, SolvesDemands}
use Rattle.inference.specs.Inferring.{CanInfer, GoalIsOver, HasOneMore, HasOwnAlone, IsAskedFurther, ValuesAreOver, with_own_variable}
use Rattle.inference.specs.declared.context.Infer.{Infer}
use Rattle.inference.proofs.KeptDemands.{fact-same, goes-on, left-own, less, none-refused}
use Rattle.fulfillment.proofs.OwnTables.{IsOwnInTrees}
use Rattle.inference.proofs.Owned.{IsOwnGoal, goal-own, in-trees, of-trees}

-- ---- terms under assignments
instance-known : (n : Sort → ℕ) (s r : Assignment) → Continues n s r → (t : Trees) → AreKnown n t → instance r t ≡ instance s t
instance-known n s r a none h = refl
instance-known n s r a (tree (infer of_type v) c o) h = ap (λ (z : Label × Trees). tree z.0 z.1 (instance r o)) (a of_type v h.0) ∙ ap (tree (s of_type v).0 (s of_type v).1) (instance-known n s r a o h.2)
instance-known n s r a (tree (infer of_const v) c o) h = ap (λ (z : Label × Trees). tree z.0 z.1 (instance r o)) (a of_const v h.0) ∙ ap (tree (s of_const v).0 (s of_const v).1) (instance-known n s r a o h.2)
instance-known n s r a (tree (infer of_lifetime v) c o) h = tree-cong _ _ _ _ _ (instance-known n s r a c h.1) (instance-known n s r a o h.2)
instance-known n s r a (tree l c o) h = tree-cong _ _ _ _ _ (instance-known n s r a c h.0) (instance-known n s r a o h.1)

pub instance-agree : (own : OwnVariables) (s r : Assignment) → AgreeOnOwn own s r → (t : Trees) → HasOwnAlone own t → instance r t ≡ instance s t
instance-agree own s r a none h = refl
instance-agree own s r a (tree (infer of_type v) c o) h = ap (λ (z : Label × Trees). tree z.0 z.1 (instance r o)) (a of_type v h.0) ∙ ap (tree (s of_type v).0 (s of_type v).1) (instance-agree own s r a o h.2)
instance-agree own s r a (tree (infer of_const v) c o) h = ap (λ (z : Label × Trees). tree z.0 z.1 (instance r o)) (a of_const v h.0) ∙ ap (tree (s of_const v).0 (s of_const v).1) (instance-agree own s r a o h.2)
instance-agree own s r a (tree (infer of_lifetime v) c o) h = tree-cong _ _ _ _ _ (instance-agree own s r a c h.1) (instance-agree own s r a o h.2)
instance-agree own s r a (tree l c o) h = tree-cong _ _ _ _ _ (instance-agree own s r a c h.0) (instance-agree own s r a o h.1)

demand-more : (n m : Sort → ℕ) → NoFewer n m → (d : Demand) → DemandIsOver n d → DemandIsOver m d
demand-more n m le (equal a b) h = (known-more n m le a h.0, known-more n m le b h.1)
demand-more n m le (proved g) h = (known-more n m le g.environment h.0, known-more n m le g.predicate h.1)

pub over-more : (n m : Sort → ℕ) → NoFewer n m → (g : GoalTrees) → GoalIsOver n g → GoalIsOver m g
over-more n m le g h = record { environment = (known-more n m le g.environment h.environment.0, h.environment.1); predicate = (known-more n m le g.predicate h.predicate.0, h.predicate.1) }

pub values-more : (n m : Sort → ℕ) → NoFewer n m → (bs : List Binding) → ValuesAreOver n bs → ValuesAreOver m bs
values-more n m le [] h = tt
values-more n m le (b ∷ older) h = ((known-more n m le b.value h.0.0, h.0.1), values-more n m le older h.1)

pub all-kept : (os : List Obligation) → AllZip ObligationIsKept os os
all-kept os = zip-itself ObligationIsKept kept-itself os

-- what holds of the trees of goals, in a later interner
pub goals-later : (old new : List Entry) → Keeps old new → (P Q : GoalTrees → Type 0) → ((g : GoalTrees) → P g → Q g) → (os ps : List Obligation) → AllZip ObligationIsKept os ps → ObligationsHeld old os
    → All (λ (o : Obligation). P (goal_trees old o.goal)) os → All (λ (p : Obligation). Q (goal_trees new p.goal)) ps
goals-later old new k P Q f os ps z held h =
    all-along ObligationIsKept (λ (o : Obligation). GoalHeld old o.goal × P (goal_trees old o.goal)) (λ (p : Obligation). Q (goal_trees new p.goal))
    (λ o p i x. subst (λ (x : Goal). Q (goal_trees new x)) (sym i.goal) (subst Q (sym (goal-trees-later old new k o.goal x.0)) (f (goal_trees old o.goal) x.1)))
    os ps z (λ n o within. (held n o within, h n o within))

pub held-later : (old new : List Entry) → Keeps old new → (os ps : List Obligation) → AllZip ObligationIsKept os ps → ObligationsHeld old os → ObligationsHeld new ps
held-later old new k os ps z held =
    all-along ObligationIsKept (λ (o : Obligation). GoalHeld old o.goal) (λ (p : Obligation). GoalHeld new p.goal) (λ o p i x. subst (GoalHeld new) (sym i.goal) (goal-held-later old new k o.goal x)) os ps z held

-- the goals of obligations
own-goals : (es : List Entry) → Lawful es → (n : Sort → ℕ) (os : List Obligation) → ObligationsHeld es os → All (λ (o : Obligation). GoalIsOver n (goal_trees es o.goal)) os → (g : GoalTrees)
    → Contains (trees_of_goals es os) g → IsOwnGoal n g
own-goals es law n os held h g i =
    All-contains (IsOwnGoal n) (trees_of_goals es os) g (All-map (IsOwnGoal n) (λ (o : Obligation). goal_trees es o.goal) os (λ k o within. goal-own es law n (get_or os k o).goal (held k o within) (h k o within))) i

among-asked : (es : List Entry) (asked : List Demand) (os : List Obligation) → All (λ (o : Obligation). Contains asked (proved (goal_trees es o.goal))) os → (g : GoalTrees)
    → Contains (trees_of_goals es os) g → Contains asked (proved g)
among-asked es asked os h g i = All-contains (λ (x : GoalTrees). Contains asked (proved x)) (trees_of_goals es os) g (All-map (λ (x : GoalTrees). Contains asked (proved x)) (λ (o : Obligation). goal_trees es o.goal) os h) i

module _ {Handler : Type 0} (handler : HandlerMeaning Handler) where
  -- ---- from one context to a later one
  module _ (c d : SolverCx Handler) (i j : Infer) (world : world_in handler d ≡ world_in handler c) (entries : Keeps (entries_of c) (entries_of d)) (mode : j.mode ≡ i.mode)
      (kept : AllZip ObligationIsKept i.goals.obligations.items j.goals.obligations.items) (held : ObligationsHeld (entries_of c) i.goals.obligations.items)
      (more : NoFewer (variables_of i.table) (variables_of j.table))
      (narrows : (s : Assignment) → Solves s (content (entries_of d) j.table.values) → Solves s (content (entries_of c) i.table.values))
      (done : DoneAreProved handler c i.table i.goals.obligations.items → DoneAreProved handler d j.table j.goals.obligations.items) where
    before : (own : OwnVariables) (asked : List Demand) (s : Assignment) → SolvesDemands handler j.mode (world_in handler d) own asked s → SolvesDemands handler i.mode (world_in handler c) own asked s
    before own asked s h = subst (λ (m : TypingMode). SolvesDemands handler m (world_in handler c) own asked s) mode (subst (λ (w : handler.goals.World). SolvesDemands handler j.mode w own asked s) world h)

    abbrev Covers : OwnVariables → List Demand → Type 0
    Covers own asked = (s : Assignment) → SolvesDemands handler i.mode (world_in handler c) own asked s → (r : Assignment) × AgreeOnOwn own s r × Solves r (content (entries_of d) j.table.values)

    registered-later : (asked : List Demand) → All (λ (o : Obligation). Contains asked (proved (goal_trees (entries_of c) o.goal))) i.goals.obligations.items
        → All (λ (o : Obligation). Contains asked (proved (goal_trees (entries_of d) o.goal))) j.goals.obligations.items
    registered-later asked h = goals-later (entries_of c) (entries_of d) entries (λ (x : GoalTrees). Contains asked (proved x)) (λ (x : GoalTrees). Contains asked (proved x)) (λ x y. y) i.goals.obligations.items j.goals.obligations.items kept held h

    -- nothing further is asked
    pub asked-nothing : ((own : OwnVariables) (asked : List Demand) → IsFaithfulTo handler own asked c i → Covers own asked) → IsAskedFurther handler [] c i d j
    asked-nothing covers own asked f = record {
      own_known = λ k v h. less (f.own_known k v h) (more k);
      asked_known = All-weaker (DemandIsOver (variables_of i.table)) (DemandIsOver (variables_of j.table)) (demand-more (variables_of i.table) (variables_of j.table) more) asked f.asked_known;
      registered = registered-later asked f.registered;
      covers = λ s h. covers own asked f s (before own asked s h);
      equations = λ s h. f.equations s (narrows s h);
      done = done f.done;
    }

    -- two terms are made equal
    pub asked-equal : (a b : Trees) → AreKnown (variables_of i.table) a → AreKnown (variables_of i.table) b → Equates (content (entries_of c) i.table.values) (content (entries_of d) j.table.values) a b
        → IsAskedFurther handler (equal a b ∷ []) c i d j
    asked-equal a b ka kb e own asked f = record {
      own_known = λ k v h. less (f.own_known k v h) (more k);
      asked_known =
          All-cons (DemandIsOver (variables_of j.table)) (equal a b) asked (known-more (variables_of i.table) (variables_of j.table) more a ka, known-more (variables_of i.table) (variables_of j.table) more b kb)
          (All-weaker (DemandIsOver (variables_of i.table)) (DemandIsOver (variables_of j.table)) (demand-more (variables_of i.table) (variables_of j.table) more) asked f.asked_known);
      registered =
          All-weaker (λ (o : Obligation). Contains asked (proved (goal_trees (entries_of d) o.goal))) (λ (o : Obligation). Contains (equal a b ∷ asked) (proved (goal_trees (entries_of d) o.goal)))
          (λ o x. Contains-append_right (equal a b ∷ []) asked (proved (goal_trees (entries_of d) o.goal)) x) j.goals.obligations.items (registered-later asked f.registered);
      covers =
          λ s h.
          let now = before own (equal a b ∷ asked) s h in
          let x = f.covers s (record { sorted = now.sorted; meets = λ r p q. All-tail (MeetsDemand handler i.mode (world_in handler c) r) (equal a b) asked (now.meets r p q) }) in
          let same : instance x.0 a ≡ instance x.0 b =
          All-head (MeetsDemand handler i.mode (world_in handler c) x.0) (equal a b) asked (now.meets x.0 (solved-sorted x.0 (content (entries_of c) i.table.values) x.2) x.1) in
          (x.0, x.1, e.all x.0 x.2 same);
      equations = λ s h. let x = e.only s h in All-cons (MeetsEquation s) (equal a b) asked x.1 (f.equations s x.0);
      done = done f.done;
    }

    -- one more own variable
    module _ (k : Sort) (n : ℕ) (is_next : n ≡ variables_of i.table k) (is_there : n < variables_of j.table k) (own_table : IsOfKnown (variables_of i.table) (content (entries_of c) i.table.values))
        (same : content (entries_of d) j.table.values ≡ content (entries_of c) i.table.values) where
      -- the assignment with the value that another gives to this variable
      abbrev changed : Assignment → Assignment → Assignment
      changed s r = λ l v. if is_same_variable l v k n then s l v else r l v

      chosen-sorted : (s r : Assignment) → IsSorted s → IsSorted r → IsSorted (changed s r)
      chosen-sorted s r p q l v = by (is_same_variable l v k n)
        where
          by : (b : Bool) → sort_of (if b then s l v else r l v).0 ≡ l
          by true = p l v
          by false = q l v

      -- it is as before at earlier variables
      continues : (s r : Assignment) → Continues (variables_of i.table) r (changed s r)
      continues s r l v h = by (is_same_variable l v k n) refl
        where
          by : (b : Bool) → is_same_variable l v k n ≡ b → (if b then s l v else r l v) ≡ r l v
          by true e =
              let x = is_variable-equal l k v n e in
              let at : v < variables_of i.table k = subst (λ z. v < variables_of i.table z) x.0 h in
              absurd (omega (arith, at, is_next, x.1))
          by false e = refl

      agrees : (own : OwnVariables) (s r : Assignment) → AgreeOnOwn own s r → AgreeOnOwn (with_own_variable own k n) s (changed s r)
      agrees own s r a l v h = by (is_same_variable l v k n) h
        where
          by : (b : Bool) → (b || own l v) ≡ true → (if b then s l v else r l v) ≡ s l v
          by true e = refl
          by false e = a l v e

      known-agrees : (own : OwnVariables) → ((l : Sort) (v : ℕ) → own l v ≡ true → v < variables_of j.table l) → (l : Sort) (v : ℕ) → with_own_variable own k n l v ≡ true → v < variables_of j.table l
      known-agrees own known l v h = by (is_same_variable l v k n) refl h
        where
          by : (b : Bool) → is_same_variable l v k n ≡ b → (b || own l v) ≡ true → v < variables_of j.table l
          by true e g = let x = is_variable-equal l k v n e in subst (λ z. v < variables_of j.table z) (sym x.0) (let at : n < variables_of j.table k = is_there in omega (arith, at, x.1))
          by false e g = known l v g

      meets-before : (s r : Assignment) (d : Demand) → DemandIsOver (variables_of i.table) d → MeetsDemand handler i.mode (world_in handler c) (changed s r) d → MeetsDemand handler i.mode (world_in handler c) r d
      meets-before s r (equal a b) o h =
          sym (instance-known (variables_of i.table) r (changed s r) (continues s r) a o.0) ∙ h ∙ instance-known (variables_of i.table) r (changed s r) (continues s r) b o.1
      meets-before s r (proved g) o h =
          subst (IsSoughtAndProved handler i.mode (world_in handler c))
          (fact-same (trait_of g.predicate) (trait_of g.predicate) _ _ _ _ refl (instance-known (variables_of i.table) r (changed s r) (continues s r) g.environment o.0)
          (instance-known (variables_of i.table) r (changed s r) (continues s r) g.predicate o.1))
          h

      all-meet : (s r : Assignment) (ds : List Demand) → All (DemandIsOver (variables_of i.table)) ds → All (MeetsDemand handler i.mode (world_in handler c) (changed s r)) ds
          → All (MeetsDemand handler i.mode (world_in handler c) r) ds
      all-meet s r ds o h = λ p x within. meets-before s r (get_or ds p x) (o p x within) (h p x within)

      pub one-more : HasOneMore handler k n c i d j
      one-more own asked f = record {
        own_known = known-agrees own (λ l v h. less (f.own_known l v h) (more l));
        asked_known = All-weaker (DemandIsOver (variables_of i.table)) (DemandIsOver (variables_of j.table)) (demand-more (variables_of i.table) (variables_of j.table) more) asked f.asked_known;
        registered = registered-later asked f.registered;
        covers =
            λ s h.
            let now = before (with_own_variable own k n) asked s h in
            let x =
            f.covers s
            (record {
              sorted = now.sorted;
              meets = λ r p q. all-meet s r asked f.asked_known (now.meets (changed s r) (chosen-sorted s r now.sorted p) (agrees own s r q));
            }) in
            let sorted = solved-sorted x.0 (content (entries_of c) i.table.values) x.2 in (
              changed s x.0,
              agrees own s x.0 x.1,
              subst (Solves (changed s x.0)) (sym same) (own_table x.0 (changed s x.0) x.2 (chosen-sorted s x.0 now.sorted sorted) (continues s x.0)),
            );
        equations = λ s h. f.equations s (narrows s h);
        done = done f.done;
      }

  -- ---- what is asked has no solution
  pub never-equal : (c : SolverCx Handler) (i : Infer) (a b : Trees) → HasNoSolution (content (entries_of c) i.table.values) a b → HaveNoSolutionWith handler (equal a b ∷ []) c i
  never-equal c i a b never own asked f s h =
      let x = f.covers s (record { sorted = h.sorted; meets = λ r p q. All-tail (MeetsDemand handler i.mode (world_in handler c) r) (equal a b) asked (h.meets r p q) }) in
      never x.0 x.2 (All-head (MeetsDemand handler i.mode (world_in handler c) x.0) (equal a b) asked (h.meets x.0 (solved-sorted x.0 (content (entries_of c) i.table.values) x.2) x.1))

  -- ---- selections
  module _ (f : SearchState) (ks : KnownResults) (c : SolverCx Handler) (i : Infer) (can : CanInfer handler f ks c i) where
    abbrev es : List Entry
    es = entries_of c

    abbrev os : List Obligation
    os = i.goals.obligations.items

    abbrev start : TableTrees
    start = table_trees es i.table

    law : Lawful es
    law = can.select.ready.lawful

    table-own : IsOwnInTrees start
    table-own = in-trees es law i.table can.select.table can.values

    goals-own : (g : GoalTrees) → Contains (trees_of_goals es os) g → IsOwnGoal (unknowns_of start) g
    goals-own g x = own-goals es law (unknowns_of start) os can.select.goals (subst (λ (n : Sort → ℕ). All (λ (o : Obligation). GoalIsOver n (goal_trees es o.goal)) os) (sym (same-unknowns es i.table)) can.goals) g x

    own-there : (own : OwnVariables) (asked : List Demand) → IsFaithfulTo handler own asked c i → (k : Sort) (v : ℕ) → own k v ≡ true → v < unknowns_of start k
    own-there own asked faithful k v h = subst (λ (n : Sort → ℕ). v < n k) (sym (same-unknowns es i.table)) (faithful.own_known k v h)

    -- a goal that is refused
    pub never-proved : (id : ObligationId) → ObligationIsRefused handler i.mode f c i.table os id → HaveNoSolutionWith handler [] c i
    never-proved id r own asked faithful s h =
        none-refused handler i.mode (world_in handler c) (trees_of_goals es os) start goals-own own asked (own-there own asked faithful) (among-asked es asked os faithful.registered) s h table-own
        (faithful.covers s h) f.root_depth (goal_trees es r.0.goal) (contains-map (λ (o : Obligation). goal_trees es o.goal) os id.index r.0 r.1) r.2

    clean-values : (bs : List Binding) (n : Sort → ℕ) → ValuesAreOver n bs → HaveNoCanonical bs
    clean-values [] n h = tt
    clean-values (b ∷ older) n h = (h.0.1, clean-values older n h.1)

    clean : AreClean handler c i.table os
    clean = record {
      table = clean-values (content es i.table.values) (variables_of i.table) can.values;
      goals = λ p o within. let h = can.goals p o within in record { environment = h.environment.1; predicate = h.predicate.1 };
    }

    module _ (g : SearchState) (ls : KnownResults) (d : SolverCx Handler) (j : Infer) (mode : j.mode ≡ i.mode)
        (selected : HasSelected handler i.mode f ks c i.table os g ls d j.table j.goals.obligations.items) where
      no-fewer : NoFewer (variables_of i.table) (variables_of j.table)
      no-fewer = counts-kept i.table j.table selected.asked.grows

      pub can-after : CanSelect handler g ls d j.table j.goals.obligations.items → CanInfer handler g ls d j
      can-after select = record {
        select = select;
        values = of-trees (entries_of d) j.table (left-own handler i.mode (world_in handler c) (trees_of_goals es os) start goals-own table-own (table_trees (entries_of d) j.table) selected.covers).0;
        goals = goals-later es (entries_of d) selected.asked.entries (GoalIsOver (variables_of i.table)) (GoalIsOver (variables_of j.table)) (over-more (variables_of i.table) (variables_of j.table) no-fewer) os j.goals.obligations.items selected.kept can.select.goals can.goals;
      }

      going-on : (own : OwnVariables) (asked : List Demand) → IsFaithfulTo handler own asked c i → (s : Assignment) → SolvesDemands handler i.mode (world_in handler c) own asked s
          → (r : Assignment) × AgreeOnOwn own s r × Solves r (content (entries_of d) j.table.values)
      going-on own asked faithful s h =
          goes-on handler i.mode (world_in handler c) (trees_of_goals es os) start goals-own own asked (own-there own asked faithful) (among-asked es asked os faithful.registered) s h table-own
          (faithful.covers s h) (table_trees (entries_of d) j.table) selected.covers

      pub faithful-after : IsAskedFurther handler [] c i d j
      faithful-after = asked-nothing c d i j selected.asked.keeps.world selected.asked.entries mode selected.kept can.select.goals no-fewer selected.asked.narrows (selected.done clean) going-on

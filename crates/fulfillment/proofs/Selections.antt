-- Obligations that are selected, one after the other.
use Rattle.std.proofs.Common.{◌≡◌, ◌≤◌, ◌<◌, ◌+◌, ℕ, zero, suc, arith, List, Some, length, get_or, refl, sym, ap, ◌∙◌, subst, inl, inr, ◌⊎◌, set, slice_get, All, Any, Contains, ◌-◌, ◌*◌}
use Rattle.std.specs.List.{AllWithin, AllZip}
use Rattle.std.proofs.Math.Nat.{le_refl}
use Rattle.std.proofs.lemmas.List.Elements.{AllWithin-more_set, All-set, length_all_zip}
use Rattle.std.proofs.lemmas.List.Sums.{sum_by-set}
use Rattle.std.proofs.lemmas.Option.{slice_get_read, slice_get_within, slice_get-get_or, get_or_from_slice_get}
use Rattle.type_terms.specs.Promised.Handles.{Entry, Keeps}
use Rattle.infer_table.specs.Canonical.{GoalTrees}
use Rattle.infer_table.specs.Content.{Table, content}
use Rattle.infer_table.specs.Goals.{GoalHeld, goal_trees}
use Rattle.infer_table.specs.Growth.{grows-refl}
use Rattle.infer_table.specs.Inputs.{IsWithoutCanonical}
use Rattle.infer_table.specs.Solutions.{Assignment, Solves}
use Rattle.infer_table.specs.Unification.{TableTrees, table_trees}
use Rattle.infer_table.specs.WithoutCanonical.{HaveNoCanonical}
use Rattle.infer_table.specs.declared.certainty.TypingMode.{TypingMode}
use Rattle.infer_table.specs.declared.goal.Goal.{Goal}
use Rattle.infer_table.proofs.Numbers.{goal-held-later, goal-trees-later}
use Rattle.search_graph.specs.SearchState.{SearchState}
use Rattle.search_graph.proofs.Graphs.{Keeps-refl}
use Rattle.goal_evaluator.specs.Content.{Fact}
use Rattle.goal_evaluator.specs.Proof as Lists
use Rattle.goal_frames.specs.Meanings.{HandlerMeaning}
use Rattle.solver_graph.specs.Askings.{StartsFramesOfAsking}
use Rattle.solver_graph.specs.Contexts.{entries_of}
use Rattle.solver_graph.specs.LeftTables.{IsLeftByAnswers}
use Rattle.solver_graph.specs.RootEvaluations.{KnownResults}
use Rattle.solver_graph.specs.Roots.{fact_under}
use Rattle.solver_graph.specs.Searching.{solver_meaning, world_in}
use Rattle.solver_graph.specs.Settling.{HasAsked, IsAskable, IsProvedBy, GoalIsRefused, IsUnsettled}
use Rattle.solver_graph.specs.declared.context.SolverCx.{SolverCx}
use Rattle.solver_graph.proofs.Settled.{asked-further}
use Rattle.fulfillment.specs.Leaving.{GoalsLeave, itself, IsRefusedOver, IsUnsettledOver, EvaluationsStart, none, one_more}
use Rattle.fulfillment.specs.Obligations.{ObligationsHeld, ObligationIsKept, ObligationIsSettled, SomeIsSpent, most_evaluations, total_left, trees_of_goals}
use Rattle.fulfillment.specs.Selecting.{CanSelect, AreClean, IsProvedIn, DoneAreProved, StandsAfter, HasSelected, ObligationIsRefused, SomeStaysOpen, GoalStaysOpen, StartsFramesOfSelecting}
use Rattle.fulfillment.specs.declared.obligation.Obligation.{Obligation}
use Rattle.fulfillment.specs.declared.obligation.ObligationId.{ObligationId}
use Rattle.fulfillment.specs.declared.obligation.Standing.TheVariants.{Done}
use Rattle.fulfillment.proofs.Leaving.{leave-after, leave-by, refused-over}
use Rattle.fulfillment.proofs.Starting.{fewer-rounds, last-round, one-round-more, start-further, start-more}
use Rattle.fulfillment.proofs.Lists.{contains-map, zip-itself, zip-set, zip-further, zip-at, all-along, map-along, sum-along, sum-falls}

-- ---- obligations that are kept
pub kept-itself : (o : Obligation) → ObligationIsKept o o
kept-itself o = record { goal = refl; done = λ h. h; left = omega arith }

kept-further : (o p q : Obligation) → ObligationIsKept o p → ObligationIsKept p q → ObligationIsKept o q
kept-further o p q a b = record { goal = b.goal ∙ a.goal; done = λ h. b.done (a.done h); left = omega (arith, a.left, b.left) }

-- their goals are held by a later interner, and are the same trees
held-kept : (old new : List Entry) → Keeps old new → (os ps : List Obligation) → AllZip ObligationIsKept os ps → ObligationsHeld old os → ObligationsHeld new ps
held-kept old new k os ps z h =
    all-along ObligationIsKept (λ (o : Obligation). GoalHeld old o.goal) (λ (p : Obligation). GoalHeld new p.goal)
    (λ o p i g. subst (GoalHeld new) (sym i.goal) (goal-held-later old new k o.goal g)) os ps z h

trees-kept : (old new : List Entry) → Keeps old new → (os ps : List Obligation) → AllZip ObligationIsKept os ps → ObligationsHeld old os → trees_of_goals new ps ≡ trees_of_goals old os
trees-kept old new k os ps z h =
    map-along ObligationIsKept (λ (o : Obligation). GoalHeld old o.goal) (λ (o : Obligation). goal_trees old o.goal) (λ (p : Obligation). goal_trees new p.goal)
    (λ o p i g. ap (goal_trees new) i.goal ∙ goal-trees-later old new k o.goal g) os ps z h

-- answers with values are allowed no more often
pub left-kept : (os ps : List Obligation) → AllZip ObligationIsKept os ps → total_left ps ≤ total_left os
left-kept os ps z = sum-along ObligationIsKept (λ (o : Obligation). o.left) (λ o p i. i.left) os ps z

-- as often, if one of them is allowed as many
left-same : (os : List Obligation) (i : ℕ) (o p : Obligation) → slice_get os i ≡ Some o → p.left ≡ o.left → total_left (set os i p) ≡ total_left os
left-same os i o p at h =
    let here : get_or os i o ≡ o = get_or_from_slice_get os i o o at in
    let is : (get_or os i o).left ≡ o.left = ap (λ (x : Obligation). x.left) here in
    let sums = sum_by-set (λ (x : Obligation). x.left) os i p o (slice_get_within os i o at) in
    omega (arith, sums, is, h)

-- and less often if one of them is allowed fewer
pub left-falls : (os : List Obligation) (i : ℕ) (o p : Obligation) → slice_get os i ≡ Some o → p.left < o.left → total_left (set os i p) < total_left os
left-falls os i o p at h =
    let here : get_or os i o ≡ o = get_or_from_slice_get os i o o at in
    let is : (get_or os i o).left ≡ o.left = ap (λ (x : Obligation). x.left) here in
    let sums = sum_by-set (λ (x : Obligation). x.left) os i p o (slice_get_within os i o at) in
    omega (arith, sums, is, h)

-- If one is pending, and no further answers with values are allowed, then that was so before, or fewer are allowed now.
module _ (X : Type 0) (os ps : List Obligation) (z : AllZip ObligationIsKept os ps) (fewer : (total_left ps ≡ total_left os) ⊎ X) where
  pending-at : (k : ℕ) (o p : Obligation) → slice_get os k ≡ Some o → slice_get ps k ≡ Some p → ObligationIsKept o p → (p.standing ≡ Done → ⊥) → p.left ≡ 0 → (n : ℕ) → o.left ≡ n → SomeIsSpent os ⊎ X
  pending-at k o p there at kept pending spent zero e =
      inl (k, o, slice_get_within os k o there, get_or_from_slice_get os k o o there, (λ d. pending (kept.done d), e))
  pending-at k o p there at kept pending spent (suc n) e =
      let less : p.left < o.left = omega (arith, spent, e) in
      let falls = sum-falls ObligationIsKept (λ (x : Obligation). x.left) (λ x y i. i.left) os ps k o p z there at less in
      elim fewer [ inl same ↦ absurd (omega (arith, falls, same)) | inr x ↦ inr x ]

  pub pending-because : (Open : Obligation → Type 0) → ((p : Obligation) → Open p → X) → All (λ (p : Obligation). ObligationIsSettled p ⊎ Open p) ps → Any (λ (p : Obligation). p.standing ≡ Done → ⊥) ps → SomeIsSpent os ⊎ X
  pending-because Open because each pending =
      let k = pending.0 in
      let p = pending.1 in
      let at : slice_get ps k ≡ Some p = slice_get-get_or ps k p pending.2 ∙ ap Some pending.3 in
      let o = zip-at ObligationIsKept os ps k p z at in
      elim (subst (λ (q : Obligation). ObligationIsSettled q ⊎ Open q) pending.3 (each k p pending.2)) [
        | inl settled ↦
            let spent : p.left ≡ 0 = elim settled [ inl e ↦ absurd (pending.4 e) | inr e ↦ e ] in
            pending-at k o.0 p o.1 at o.2 pending.4 spent o.0.left refl
        | inr x ↦ inr (because p x)
      ]

module _ {Handler : Type 0} (handler : HandlerMeaning Handler) where
  -- ---- proofs, later
  -- the second context has the same declarations and further terms, and each solution of the second table is one of the first
  module _ (c d : SolverCx Handler) (t u : Table) (world : world_in handler d ≡ world_in handler c) (entries : Keeps (entries_of c) (entries_of d))
      (narrows : (s : Assignment) → Solves s (content (entries_of d) u.values) → Solves s (content (entries_of c) t.values)) where
    same-proof : (q : Goal) → GoalHeld (entries_of c) q → (s : Assignment)
        → Lists.FactHasProof Fact (handler.goals.Rule (world_in handler c)) (handler.goals.coinductive (world_in handler c)) (fact_under s (goal_trees (entries_of c) q))
        → Lists.FactHasProof Fact (handler.goals.Rule (world_in handler d)) (handler.goals.coinductive (world_in handler d)) (fact_under s (goal_trees (entries_of d) q))
    same-proof q held s p =
        subst (λ z. Lists.FactHasProof Fact (handler.goals.Rule z) (handler.goals.coinductive z) (fact_under s (goal_trees (entries_of d) q))) (sym world)
        (subst (λ z. Lists.FactHasProof Fact (handler.goals.Rule (world_in handler c)) (handler.goals.coinductive (world_in handler c)) (fact_under s z))
        (sym (goal-trees-later (entries_of c) (entries_of d) entries q held)) p)

    -- what is proved stays so
    proved-later : (q : Goal) → GoalHeld (entries_of c) q → IsProvedIn handler c t q → IsProvedIn handler d u q
    proved-later q held p s solves = same-proof q held s (p s (narrows s solves))

    -- what an evaluation proves is proved in the table that it leaves
    proved-there : (q : Goal) → GoalHeld (entries_of c) q → HaveNoCanonical (content (entries_of c) t.values) → IsWithoutCanonical (goal_trees (entries_of c) q)
        → IsProvedBy handler (world_in handler c) c t d u q → IsProvedIn handler d u q
    proved-there q held table clean p s solves = same-proof q held s (p table clean s solves)

    -- what is done stays proved as the table is narrowed
    pub done-later : (os : List Obligation) → ObligationsHeld (entries_of c) os → DoneAreProved handler c t os → DoneAreProved handler d u os
    done-later os held done k x in' = λ e. proved-later (get_or os k x).goal (held k x in') (done k x in' e)

  module _ (f g : SearchState) (ks ls : KnownResults) (c d : SolverCx Handler) (t u : Table) (asked : HasAsked handler f ks c t g ls d u) where
    clean-later : (os ps : List Obligation) → AllZip ObligationIsKept os ps → ObligationsHeld (entries_of c) os → AreClean handler c t os → AreClean handler d u ps
    clean-later os ps z held clean = record {
      table = asked.clean clean.table;
      goals =
          all-along ObligationIsKept (λ (o : Obligation). GoalHeld (entries_of c) o.goal × IsWithoutCanonical (goal_trees (entries_of c) o.goal)) (λ (p : Obligation). IsWithoutCanonical (goal_trees (entries_of d) p.goal))
          (λ o p i h. subst (λ (q : Goal). IsWithoutCanonical (goal_trees (entries_of d) q)) (sym i.goal) (subst IsWithoutCanonical (sym (goal-trees-later (entries_of c) (entries_of d) asked.entries o.goal h.0)) h.1))
          os ps z (λ k x in'. (held k x in', clean.goals k x in'));
    }

  -- ---- nothing selected, and one selection after the other
  pub asked-nothing : (f : SearchState) (ks : KnownResults) (c : SolverCx Handler) (t : Table) → HasAsked handler f ks c t f ks c t
  asked-nothing f ks c t = record {
    depth = refl;
    results = λ place x i. i;
    consistent = λ i. i;
    keeps = Keeps-refl (solver_meaning handler) c;
    entries = λ i x p. p;
    grows = grows-refl t;
    narrows = λ s i. i;
    clean = λ i. i;
  }

  pub selected-nothing : (mode : TypingMode) (f : SearchState) (ks : KnownResults) (c : SolverCx Handler) (t : Table) (os : List Obligation) → HasSelected handler mode f ks c t os f ks c t os
  selected-nothing mode f ks c t os = record { asked = asked-nothing f ks c t; covers = itself; kept = zip-itself ObligationIsKept kept-itself os; done = λ clean h. h; unsettled = inl refl }

  module _ (mode : TypingMode) (f g : SearchState) (ks ls : KnownResults) (c d : SolverCx Handler) (t u : Table) (os ps : List Obligation) (held : ObligationsHeld (entries_of c) os)
      (a : HasSelected handler mode f ks c t os g ls d u ps) where
    -- tables that answers leave later
    leave-later : (v : TableTrees) → GoalsLeave handler mode (world_in handler d) (trees_of_goals (entries_of d) ps) (table_trees (entries_of d) u) v
        → GoalsLeave handler mode (world_in handler c) (trees_of_goals (entries_of c) os) (table_trees (entries_of c) t) v
    leave-later v l =
        leave-after handler mode (world_in handler c) (trees_of_goals (entries_of c) os) (table_trees (entries_of c) t) (table_trees (entries_of d) u) v a.covers
        (subst (λ (gs : List GoalTrees). GoalsLeave handler mode (world_in handler c) gs (table_trees (entries_of d) u) v) (trees-kept (entries_of c) (entries_of d) a.asked.entries os ps a.kept held)
        (subst (λ (w : handler.goals.World). GoalsLeave handler mode w (trees_of_goals (entries_of d) ps) (table_trees (entries_of d) u) v) a.asked.keeps.world l))

    -- a goal that stays open later
    pub open-later : SomeStaysOpen handler mode g d u ps → SomeStaysOpen handler mode f c t os
    open-later x = record {
      goal = x.goal;
      among = subst (λ (gs : List GoalTrees). Contains gs x.goal) (trees-kept (entries_of c) (entries_of d) a.asked.entries os ps a.kept held) x.among;
      table = x.table;
      left = leave-later x.table x.left;
      unsettled =
          subst (λ (w : handler.goals.World). IsUnsettledOver handler mode w f.root_depth x.table x.goal) a.asked.keeps.world
          (subst (λ (n : ℕ). IsUnsettledOver handler mode (world_in handler d) n x.table x.goal) a.asked.depth x.unsettled);
    }

    -- evaluations later
    pub start-later : (m between n after k : ℕ) → EvaluationsStart handler mode (world_in handler c) f.root_depth (trees_of_goals (entries_of c) os) (table_trees (entries_of c) t) f.frames m between
        → EvaluationsStart handler mode (world_in handler d) g.root_depth (trees_of_goals (entries_of d) ps) (table_trees (entries_of d) u) between n after → m + n ≤ k
        → EvaluationsStart handler mode (world_in handler c) f.root_depth (trees_of_goals (entries_of c) os) (table_trees (entries_of c) t) f.frames k after
    start-later m between n after k x y le =
        start-further handler mode (world_in handler c) f.root_depth (trees_of_goals (entries_of c) os) (table_trees (entries_of c) t) (table_trees (entries_of d) u) a.covers f.frames m between n after k x
        (subst (λ (gs : List GoalTrees). EvaluationsStart handler mode (world_in handler c) f.root_depth gs (table_trees (entries_of d) u) between n after) (trees-kept (entries_of c) (entries_of d) a.asked.entries os ps a.kept held)
        (subst (λ (i : ℕ). EvaluationsStart handler mode (world_in handler c) i (trees_of_goals (entries_of d) ps) (table_trees (entries_of d) u) between n after) a.asked.depth
        (subst (λ (w : handler.goals.World). EvaluationsStart handler mode w g.root_depth (trees_of_goals (entries_of d) ps) (table_trees (entries_of d) u) between n after) a.asked.keeps.world y)))
        le

    pub start-within : (n k : ℕ) → n ≤ k → StartsFramesOfSelecting handler n mode f c t os g → StartsFramesOfSelecting handler k mode f c t os g
    start-within n k le x = start-more handler mode (world_in handler c) f.root_depth (trees_of_goals (entries_of c) os) (table_trees (entries_of c) t) f.frames n k g.frames le x

    -- those of a further round
    as-many-more : (n k : ℕ) → length os * n + length os ≤ k → length os * n + length ps ≤ k
    as-many-more n k h = let same = length_all_zip ObligationIsKept os ps a.kept in omega (arith, h, same)

    pub round-frames : (h : SearchState) (next : ℕ) → next < total_left ps → StartsFramesOfSelecting handler (length os * (total_left os - total_left ps)) mode f c t os g
        → StartsFramesOfSelecting handler (length ps) mode g d u ps h → StartsFramesOfSelecting handler (length os * (total_left os - next)) mode f c t os h
    round-frames h next less x y =
        let now = total_left os - total_left ps in
        let later = total_left os - next in
        let le = as-many-more now (length os * later) (one-round-more (length os) now later (fewer-rounds (total_left os) (total_left ps) next less (left-kept os ps a.kept))) in
        start-later (length os * now) g.frames (length ps) h.frames (length os * later) x y le

    -- and of the last one
    pub last-frames : (h : SearchState) → StartsFramesOfSelecting handler (length os * (total_left os - total_left ps)) mode f c t os g
        → StartsFramesOfSelecting handler (length ps) mode g d u ps h → StartsFramesOfSelecting handler (most_evaluations os) mode f c t os h
    last-frames h x y =
        let now = total_left os - total_left ps in
        let le = as-many-more now (length os * (total_left os + 1)) (one-round-more (length os) now (total_left os + 1) (last-round (total_left os) (total_left ps))) in
        start-later (length os * now) g.frames (length ps) h.frames (length os * (total_left os + 1)) x y le

    pub selected-further : (h : SearchState) (ms : KnownResults) (e : SolverCx Handler) (v : Table) (qs : List Obligation)
        → HasSelected handler mode g ls d u ps h ms e v qs → HasSelected handler mode f ks c t os h ms e v qs
    selected-further h ms e v qs b = record {
      asked = asked-further handler f g h ks ls ms c d e t u v a.asked b.asked;
      covers = leave-later (table_trees (entries_of e) v) b.covers;
      kept = zip-further ObligationIsKept kept-further os ps qs a.kept b.kept;
      done = λ clean p. b.done (clean-later f g ks ls c d t u a.asked os ps a.kept held clean) (a.done clean p);
      unsettled =
          elim a.unsettled [
            | inl e ↦ elim b.unsettled [ inl i ↦ inl (i ∙ e) | inr x ↦ inr (open-later x) ]
            | inr x ↦ inr x
          ];
    }

    -- what is refused later is refused
    pub refused-later : (id : ObligationId) → ObligationIsRefused handler mode g d u ps id → ObligationIsRefused handler mode f c t os id
    refused-later id r =
        let x = zip-at ObligationIsKept os ps id.index r.0 a.kept r.1 in
        let x-held : GoalHeld (entries_of c) x.0.goal = subst (λ (o : Obligation). GoalHeld (entries_of c) o.goal) (get_or_from_slice_get os id.index x.0 x.0 x.1) (held id.index x.0 (slice_get_within os id.index x.0 x.1)) in
        let same : goal_trees (entries_of d) r.0.goal ≡ goal_trees (entries_of c) x.0.goal = ap (goal_trees (entries_of d)) x.2.goal ∙ goal-trees-later (entries_of c) (entries_of d) a.asked.entries x.0.goal x-held in (
          x.0,
          x.1,
          record {
            table = r.2.table;
            left = leave-later r.2.table r.2.left;
            refused =
                subst (λ (w : handler.goals.World). IsRefusedOver handler mode w f.root_depth r.2.table (goal_trees (entries_of c) x.0.goal)) a.asked.keeps.world
                (subst (λ (n : ℕ). IsRefusedOver handler mode (world_in handler d) n r.2.table (goal_trees (entries_of c) x.0.goal)) a.asked.depth
                (subst (λ (q : GoalTrees). IsRefusedOver handler mode (world_in handler d) g.root_depth r.2.table q) same r.2.refused));
          },
        )

  -- ---- one obligation
  module _ (mode : TypingMode) (f g : SearchState) (ks ls : KnownResults) (c d : SolverCx Handler) (t u : Table) (os : List Obligation) (i : ℕ) (o p : Obligation) (at : slice_get os i ≡ Some o) (held : ObligationsHeld (entries_of c) os)
      (asked : HasAsked handler f ks c t g ls d u) (stands : StandsAfter handler f c t mode d u o p) where
    goal-held : GoalHeld (entries_of c) o.goal
    goal-held =
        subst (λ (x : Obligation). GoalHeld (entries_of c) x.goal) (get_or_from_slice_get os i o o at) (held i o (slice_get_within os i o at))

    one-done : AreClean handler c t os → DoneAreProved handler c t os → p.standing ≡ Done → IsProvedIn handler d u p.goal
    one-done clean done e = subst (IsProvedIn handler d u) (sym stands.goal) (by (stands.done e))
      where
        here : (P : Obligation → Type 0) → All P os → P o
        here P h = subst P (get_or_from_slice_get os i o o at) (h i o (slice_get_within os i o at))

        by : (o.standing ≡ Done) ⊎ IsProvedBy handler (world_in handler c) c t d u o.goal → IsProvedIn handler d u o.goal
        by (inl was) = proved-later c d t u asked.keeps.world asked.entries asked.narrows o.goal goal-held (here (λ (x : Obligation). x.standing ≡ Done → IsProvedIn handler c t x.goal) done was)
        by (inr is) = proved-there c d t u asked.keeps.world asked.entries asked.narrows o.goal goal-held clean.table (here (λ (x : Obligation). IsWithoutCanonical (goal_trees (entries_of c) x.goal)) clean.goals) is

    -- its goal stays open
    pub one-open : IsUnsettled handler c f t mode o.goal → SomeStaysOpen handler mode f c t os
    one-open x = record {
      goal = goal_trees (entries_of c) o.goal;
      among = contains-map (λ (y : Obligation). goal_trees (entries_of c) y.goal) os i o at;
      table = table_trees (entries_of c) t;
      left = itself;
      unsettled = x;
    }

    pub selected-one : IsLeftByAnswers handler c t mode o.goal d u → HasSelected handler mode f ks c t os g ls d u (set os i p)
    selected-one covers = record {
      asked = asked;
      covers =
          leave-by handler mode (world_in handler c) (trees_of_goals (entries_of c) os) (goal_trees (entries_of c) o.goal) (table_trees (entries_of c) t) (table_trees (entries_of d) u)
          (contains-map (λ (x : Obligation). goal_trees (entries_of c) x.goal) os i o at) covers;
      kept = zip-set ObligationIsKept kept-itself os i o p at (record { goal = stands.goal; done = stands.stays; left = stands.left });
      done = λ clean done. All-set (λ (x : Obligation). x.standing ≡ Done → IsProvedIn handler d u x.goal) os i p (one-done clean done) (done-later c d t u asked.keeps.world asked.entries asked.narrows os held done);
      unsettled = elim stands.unsettled [ inl e ↦ inl (left-same os i o p at e) | inr x ↦ inr (one-open x) ];
    }

    -- all can be selected again
    pub again-one : IsAskable handler g ls d u p.goal → CanSelect handler g ls d u (set os i p)
    again-one a = record {
      empty = a.empty;
      cache = a.cache;
      ready = a.ready;
      table = a.table;
      goals =
          All-set (λ (x : Obligation). GoalHeld (entries_of d) x.goal) os i p a.goal
          (λ k x in'. goal-held-later (entries_of c) (entries_of d) asked.entries (get_or os k x).goal (held k x in'));
    }

    -- it is refused
    pub refused-one : GoalIsRefused handler c f t mode o.goal → (id : ObligationId) → id.index ≡ i → ObligationIsRefused handler mode f c t os id
    refused-one r id e =
        (o, subst (λ (n : ℕ). slice_get os n ≡ Some o) (sym e) at, record { table = table_trees (entries_of c) t; left = itself; refused = refused-over handler mode c f t o.goal r })

  -- ---- one obligation after others
  module _ (mode : TypingMode) (f g h : SearchState) (ks ls ms : KnownResults) (c d e : SolverCx Handler) (t u v : Table) (os ps : List Obligation) (i : ℕ) (o p : Obligation)
      (held : ObligationsHeld (entries_of c) os) (before : HasSelected handler mode f ks c t os g ls d u ps) (again : CanSelect handler g ls d u ps) (within : i < length ps) (read : o ≡ get_or ps i o)
      (asked : HasAsked handler g ls d u h ms e v) (stands : StandsAfter handler g d u mode e v o p) where
    there : slice_get ps i ≡ Some o
    there = slice_get_read ps (length ps) i o refl within read

    pub turn-selected : IsLeftByAnswers handler d u mode o.goal e v → HasSelected handler mode f ks c t os h ms e v (set ps i p)
    turn-selected covers = selected-further mode f g ks ls c d t u os ps held before h ms e v (set ps i p) (selected-one mode g h ls ms d e u v ps i o p there again.goals asked stands covers)

    pub turn-again : IsAskable handler h ms e v p.goal → CanSelect handler h ms e v (set ps i p)
    turn-again a = again-one mode g h ls ms d e u v ps i o p there again.goals asked stands a

    pub turn-refused : GoalIsRefused handler d g u mode o.goal → (id : ObligationId) → id.index ≡ i → ObligationIsRefused handler mode f c t os id
    turn-refused r id n = refused-later mode f g ks ls c d t u os ps held before id (refused-one mode g h ls ms d e u v ps i o p there again.goals asked stands r id n)

    -- its goal is one of those before
    turn-goal : (x : Obligation) → slice_get os i ≡ Some x → ObligationIsKept x o → goal_trees (entries_of d) o.goal ≡ goal_trees (entries_of c) p.goal
    turn-goal x at kept =
        let x-held : GoalHeld (entries_of c) x.goal = subst (λ (y : Obligation). GoalHeld (entries_of c) y.goal) (get_or_from_slice_get os i x x at) (held i x (slice_get_within os i x at)) in
        ap (goal_trees (entries_of d)) kept.goal ∙ goal-trees-later (entries_of c) (entries_of d) before.asked.entries x.goal x-held ∙ sym (ap (goal_trees (entries_of c)) (stands.goal ∙ kept.goal))

    turn-open : IsUnsettled handler d g u mode o.goal → GoalStaysOpen handler mode f c t os p.goal
    turn-open x =
        let at = zip-at ObligationIsKept os ps i o before.kept there in (
          record {
            goal = goal_trees (entries_of d) o.goal;
            among =
                subst (λ (gs : List GoalTrees). Contains gs (goal_trees (entries_of d) o.goal)) (trees-kept (entries_of c) (entries_of d) before.asked.entries os ps before.kept held)
                (contains-map (λ (y : Obligation). goal_trees (entries_of d) y.goal) ps i o there);
            table = table_trees (entries_of d) u;
            left = before.covers;
            unsettled =
                subst (λ (w : handler.goals.World). IsUnsettledOver handler mode w f.root_depth (table_trees (entries_of d) u) (goal_trees (entries_of d) o.goal)) before.asked.keeps.world
                (subst (λ (n : ℕ). IsUnsettledOver handler mode (world_in handler d) n (table_trees (entries_of d) u) (goal_trees (entries_of d) o.goal)) before.asked.depth x);
          },
          turn-goal at.0 at.1 at.2,
        )

    pub turn-falls : p.left < o.left → total_left (set ps i p) < total_left os
    turn-falls less = let a = left-falls ps i o p there less in let b = left-kept os ps before.kept in omega (arith, a, b)

    pub turn-fell : total_left ps < total_left os → total_left (set ps i p) < total_left os
    turn-fell fell = let a = left-kept ps (set ps i p) (zip-set ObligationIsKept kept-itself ps i o p there (record { goal = stands.goal; done = stands.stays; left = stands.left })) in omega (arith, a, fell)

    -- its evaluation starts its frames
    pub turn-frames : StartsFramesOfSelecting handler i mode f c t os g → StartsFramesOfAsking handler d g u mode o.goal h → StartsFramesOfSelecting handler (i + 1) mode f c t os h
    turn-frames x y =
        start-later mode f g ks ls c d t u os ps held before i g.frames 1 h.frames (i + 1) x
        (one_more {m = zero} (none (le_refl g.frames)) (omega arith) (table_trees (entries_of d) u) itself (goal_trees (entries_of d) o.goal) (contains-map (λ (z : Obligation). goal_trees (entries_of d) z.goal) ps i o there) y)
        (omega arith)

    pub turn-frames-all : StartsFramesOfSelecting handler i mode f c t os g → StartsFramesOfAsking handler d g u mode o.goal h → StartsFramesOfSelecting handler (length os) mode f c t os h
    turn-frames-all x y =
        let same = length_all_zip ObligationIsKept os ps before.kept in
        let le : i + 1 ≤ length os = omega (arith, within, same) in
        start-more handler mode (world_in handler c) f.root_depth (trees_of_goals (entries_of c) os) (table_trees (entries_of c) t) f.frames (i + 1) (length os) h.frames le (turn-frames x y)

    pub turn-same : total_left ps ≡ total_left os → p.left ≡ o.left → total_left (set ps i p) ≡ total_left os
    turn-same same e = left-same ps i o p there e ∙ same

    -- each of those up to it is settled, or its goal stays open
    abbrev IsSeen : Obligation → Type 0
    IsSeen q = ObligationIsSettled q ⊎ GoalStaysOpen handler mode f c t os q.goal

    pub turn-settled : AllWithin IsSeen ps 0 i → ObligationIsSettled p ⊎ IsUnsettled handler d g u mode o.goal → AllWithin IsSeen (set ps i p) 0 (i + 1)
    turn-settled a y = AllWithin-more_set ps i p within IsSeen a (elim y [ inl s ↦ inl s | inr x ↦ inr (turn-open x) ])

    -- an answer with values leaves its goal open
    pub turn-narrowed : AllWithin IsSeen ps 0 i → p.left < o.left → AllWithin IsSeen (set ps i p) 0 (i + 1)
    turn-narrowed a less = turn-settled a (elim stands.unsettled [ inl same ↦ absurd (omega (arith, less, same)) | inr x ↦ inr x ])

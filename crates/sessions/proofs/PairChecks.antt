-- What was found of two impls by their numbers, and what the answers to their goals say of the pair.
use Rattle.std.proofs.Common.{◌≡◌, ℕ, zero, ◌+◌, Bool, true, false, IsTrue, List, map, refl, sym, ap, ◌∙◌, subst, Option, Some, None, Result, Ok, Err, ◌⊎◌, inl, inr, ◌||◌, not}
use Rattle.std.specs.Prelude.{IfOk, IfSome}
use Rattle.type_terms.specs.Promised.Label.{Label, Sort, param, placeholder, infer, canonical, bound, inside}
use Rattle.type_terms.specs.Promised.Trees.{Trees, none, tree, erase, some_node, shift, nth, instantiate}
use Rattle.type_terms.specs.Promised.Erased.{erased_impl, erased_reference}
use Rattle.type_terms.specs.Promised.Worlds.{World, Reference, ImplDecl}
use Rattle.type_terms.specs.Promised.Proofs.{In}
use Rattle.type_terms.specs.Promised.Answers.{is_open, CommonInstance}
use Rattle.type_terms.specs.Promised.LinkedSet.{is_stray, IsPair}
use Rattle.type_terms.proofs.ProofEntries.{map-in}
use Rattle.type_terms.proofs.Fitting.{child-shut, next-shut, or-no, append-shut, not-true}
use Rattle.type_terms.proofs.Members.{in-map}
use Rattle.type_terms.specs.Promised.Handles.{Entry, trees_at}
use Rattle.type_terms.specs.Terms.{Lawful}
use Rattle.type_terms.specs.declared.Fault.{Fault}
use Rattle.type_terms.specs.declared.ImplId.{ImplId}
use Rattle.term_folds.specs.declared.predicate.TraitRef.{TraitRef}
use Rattle.declarations.specs.Applied.{references_in}
use Rattle.declarations.specs.Held.{ReferenceHeld}
use Rattle.declarations.specs.Items.{Items, HeldImpl, reference_in, impl_in, impl_at, declared}
use Rattle.declarations.specs.Promised.Elaboration.{Each}
use Rattle.declarations.specs.declared.items.ImplDef.{ImplDef}
use Rattle.infer_table.specs.Canonical.{GoalTrees, canonical_form}
use Rattle.infer_table.specs.Content.{Table, content}
use Rattle.infer_table.specs.Responses.{AnswerTrees}
use Rattle.infer_table.specs.Solutions.{Binding, resolved}
use Rattle.infer_table.specs.declared.certainty.TypingMode.TheVariants.{Coherence}
use Rattle.search_graph.specs.Meaning as Search
use Rattle.search_graph.specs.Plain.{IsNotPlain}
use Rattle.search_graph.specs.SearchState.{SearchState}
use Rattle.goal_frames.specs.Handlers.{same_answer, applies_always}
use Rattle.goal_frames.specs.declared.frame.GoalFrame.{GoalFrame}
use Rattle.goal_frames.specs.declared.store.InputId.{InputId}
use Rattle.goal_frames.specs.declared.store.ResponseId.{ResponseId}
use Rattle.solver_graph.specs.declared.context.SolverCx.{SolverCx}
use Rattle.solver_graph.specs.Contexts.{entries_of}
use Rattle.solver_graph.specs.Evaluations.{IsFoundBySearch}
use Rattle.solver_graph.specs.Searching.{solver_meaning}
use Rattle.candidate_assembly.specs.declared.solver.Solver.{Solver}
use Rattle.candidate_assembly.specs.Ready.{AreReadyDeclarations}
use Rattle.candidate_assembly.specs.Solving.{Solving, solver_for, meaning_for}
use Rattle.overlap_check.specs.Goals.{HasGoals, unknown_kinds}
use Rattle.overlap_check.specs.Headers.{AreDisjointImpls, IsIntersection, IsSolved, IsPosed, IsOfTable, IsWithoutVariables, resolved_reference, goals_over}
use Rattle.overlap_check.specs.Partners.{IsPairAt, NoPairAt}
use Rattle.type_terms.specs.Promised.Questions.{filled, IsRefuted, IsRefuteAnswer, unrefuted}
use Rattle.overlap_check.specs.SessionLaws.{IsPassed}
use Rattle.type_terms.specs.Promised.Verdicts.{IsOverlap}
use Rattle.overlap_check.specs.Written.{IsWrittenWell}
use Rattle.overlap_check.specs.declared.intersection.ImplIntersection.{ImplIntersection}
use Rattle.overlap_check.proofs.Contracts.{refused-real}
use Rattle.overlap_check.proofs.Instances.{nth-shut, shut-stays}
use Rattle.overlap_check.proofs.Judged.{found-each, found-well}
use Rattle.overlap_check.proofs.Verdicts.{passes, refuses}
use Rattle.overlap_check.proofs.Written.{each-in}
use Rattle.text_language.specs.Promised.Declarations.{Declarations}
use Rattle.candidate_assembly.specs.SolverMeaning.{solver_by_view}
use Rattle.sessions.specs.Asking.{IsLeftOpen}
use Rattle.sessions.specs.Checking.{IsPairOf, HaveOwnNumbers, AreApartAt, IsFoundAt, ArePassedAt, IsJudgedAt, ReadyAreWritten, rules_in, solving_in}
use Rattle.pair_checks.specs.Impossible as Impossible
use Rattle.sessions.specs.OpenPairs.{OpenPairGoalsArePossible}
use Rattle.sessions.specs.PairGoals.{as_resolved}
use Rattle.sessions.specs.Promised.Promises.{view_in}
use Rattle.sessions.specs.Resting.{Cached}
use Rattle.sessions.specs.Sessions.{IsSession}
use Rattle.sessions.proofs.PairRefusals.{HasNoPlace, no-places, goal-proper, is-alone, unproved}
use Rattle.sessions.proofs.RefutedGoals.{is-refuted}
use Rattle.sessions.proofs.SelfTypes.{self-types-begin}

-- ---- where nothing was found
module _ (V : World) (c : ℕ) (k j : ℕ) where
  pub none-apart : NoPairAt V c k j → AreApartAt V c k j
  none-apart h x y p m = h x y p.pair p.later p.earlier (ap (λ (r : Reference). r.trait) m.equal)

same-pair : (P : ImplDecl → ImplDecl → Type 0) (a b x y : ImplDecl) → a ≡ x → b ≡ y → P a b → P x y
same-pair P a b x y e f h = subst (λ z. P z y) e (subst (P a) f h)

module _ (es : List Entry) (d : Items) (k j : ImplId) (w x : ImplDef) (at : IsPairAt es d k j w x) (own : HaveOwnNumbers (declared es d)) where
  -- a pair with these numbers is this one
  pub only : (P : ImplDecl → ImplDecl → Type 0) → P (erased_impl (impl_in es k w)) (erased_impl (impl_in es j x)) → (a b : ImplDecl) → IsPairOf (declared es d) d.local k.index j.index a b → P a b
  only P h a b p =
      same-pair P (erased_impl (impl_in es k w)) (erased_impl (impl_in es j x)) a b
      (own (erased_impl (impl_in es k w)) a at.pair.stands p.pair.stands (sym p.later))
      (own (erased_impl (impl_in es j x)) b at.pair.partner p.pair.partner (sym p.earlier)) h

  pub apart-at : AreDisjointImpls es w x → AreApartAt (declared es d) d.local k.index j.index
  apart-at apart = only (λ a b. CommonInstance a b → ⊥) (apart k j)

-- ---- what was found
found-free : (es : List Entry) (d : Items) → Each (λ (i : HeldImpl). IsWithoutVariables es i.def) d.impls → (n : ℕ) (def : ImplDef) → Some def ≡ impl_at n d.impls → IsWithoutVariables es def
found-free es d h n def e = found-each (IsWithoutVariables es) n def d.impls h e

module _ (old new : List Entry) (d : Items) (k j : ImplId) (w x : ImplDef) (at : IsPairAt old d k j w x) (free : Each (λ (i : HeldImpl). IsWithoutVariables old i.def) d.impls) where
  pub found-ok : (r : Result (Option ImplIntersection) Fault) → IfOk r (λ o. IfSome o (IsIntersection old w x new)) → IfOk r (λ o. IfSome o (IsSolved old w x new))
      → (IsWithoutVariables old w → IsWithoutVariables old x → IfOk r (λ o. IfSome o (IsPosed new))) → IfOk r (λ o. IfSome o (IsFoundAt old d k j new))
  found-ok (Ok None) h s p = h
  found-ok (Ok (Some f)) h s p =
      record { later = w; earlier = x; pair = at; intersection = h; solved = s; posed = p (found-free old d free k.index w at.later) (found-free old d free j.index x at.earlier) }
  found-ok (Err e) h s p = h

-- ---- no parameter, placeholder or bound type stands in a goal of a pair
shut-node : (l : Label) (c o : Trees) → is_open l ≡ false → some_node is_open c ≡ false → some_node is_open o ≡ false → some_node is_open (tree l c o) ≡ false
shut-node l c o e f g = or-no (is_open l || some_node is_open c) (some_node is_open o) (or-no (is_open l) (some_node is_open c) e f) g

plain-shut : (d : ℕ) (A t : Trees) → some_node is_open A ≡ false → some_node is_stray t ≡ false → some_node is_open (instantiate d A t) ≡ false
plain-shut d A none h g = refl
plain-shut d A (tree (param s i) c o) h g =
    append-shut is_open (shift zero d (nth A i)) (instantiate d A o) (ap (some_node is_open) (shut-stays zero d (nth A i) (nth-shut A i h)) ∙ nth-shut A i h)
    (plain-shut d A o h (next-shut is_stray (param s i) c o g))
plain-shut d A (tree (placeholder s i) c o) h g = absurd cc
plain-shut d A (tree (infer s i) c o) h g = absurd cc
plain-shut d A (tree (canonical s i) c o) h g = absurd cc
plain-shut d A (tree (bound s k i) c o) h g = absurd cc
plain-shut d A (tree l c o) h g =
    shut-node l (instantiate (inside l d) A c) (instantiate d A o) refl (plain-shut (inside l d) A c h (child-shut is_stray l c o g)) (plain-shut d A o h (next-shut is_stray l c o g))

plain-clause : (es : List Entry) (id : ImplId) (def : ImplDef) → IsWrittenWell es def → (k : Reference) → In k (erased_impl (impl_in es id def)).clauses → some_node is_stray k.args ≡ false
plain-clause es id def w k h =
    let a = map-in erased_reference (map (reference_in es) def.clauses.items) k h in
    let b = map-in (reference_in es) def.clauses.items a.0 a.1 in
    subst (λ (r : Reference). some_node is_stray r.args ≡ false) a.2
    (subst (λ (r : Reference). some_node is_stray (erase r.args) ≡ false) b.2
    (each-in (λ (r : TraitRef). some_node is_stray (erase (trees_at es r.args.0)) ≡ false) def.clauses.items b.0 w.plain_clauses b.1))

args-same : (a b : Reference) → a ≡ b → a.args ≡ b.args
args-same a b e = ap (λ (r : Reference). r.args) e

module _ (old : List Entry) (d : Items) (k j : ImplId) (new : List Entry) (found : ImplIntersection) (at : IsFoundAt old d k j new found) (lawful : Lawful new) (ready : AreReadyDeclarations old d) (law : ReadyAreWritten) where
  abbrev i : ImplDecl
  i = erased_impl (impl_in old k at.later)

  abbrev h : ImplDecl
  h = erased_impl (impl_in old j at.earlier)

  abbrev t : Table
  t = found.table

  abbrev bs : List Binding
  bs = content new t.values

  abbrev ks : List Sort
  ks = unknown_kinds t

  abbrev left : List Reference
  left = goals_over new t found.left.items

  abbrev right : List Reference
  right = goals_over new t found.right.items

  pub goals : HasGoals i h ks left right
  goals = at.intersection.goals k j

  later-well : IsWrittenWell old at.later
  later-well = (found-well old d (law old d ready).0 k.index at.later at.pair.later).0

  earlier-well : IsWrittenWell old at.earlier
  earlier-well = (found-well old d (law old d ready).0 j.index at.earlier at.pair.earlier).0

  -- with values that a common instance gives, a goal is closed
  left-closed : (g : Reference) → In g left → (vs : List Trees) × (some_node is_open (filled ks vs g.args) ≡ false)
  left-closed g n =
      let q = goals.left_only g n in
      let m = goals.common in (
        q.1.covers.values m,
        ap (some_node is_open) (sym (args-same _ _ (q.1.covers.instance_of m)))
            ∙ plain-shut zero m.left q.0.args (not-true (some_node is_open m.left) m.left_closed) (plain-clause old k at.later later-well q.0 q.1.covers.clause),
      )

  right-closed : (g : Reference) → In g right → (vs : List Trees) × (some_node is_open (filled ks vs g.args) ≡ false)
  right-closed g n =
      let q = goals.right_only g n in
      let m = goals.common in (
        q.1.covers.values m,
        ap (some_node is_open) (sym (args-same _ _ (q.1.covers.instance_of m)))
            ∙ plain-shut zero m.right q.0.args (not-true (some_node is_open m.right) m.right_closed) (plain-clause old j at.earlier earlier-well q.0 q.1.covers.clause),
      )

  -- one of the goals
  module _ (r : TraitRef) (side : In r found.left.items ⊎ In r found.right.items) where
    abbrev g : Reference
    g = resolved_reference bs (reference_in new r)

    in-goals : (rs : List TraitRef) → In r rs → In g (goals_over new t rs)
    in-goals rs n = in-map (resolved_reference bs) (references_in new rs) (reference_in new r) (in-map (reference_in new) rs r n)

    pub goal-in : In g left ⊎ In g right
    goal-in = elim side [ inl n ↦ inl (in-goals found.left.items n) | inr n ↦ inr (in-goals found.right.items n) ]

    pub held : ReferenceHeld new r
    held = elim side [
      | inl n ↦ each-in (ReferenceHeld new) found.left.items r at.intersection.left_held n
      | inr n ↦ each-in (ReferenceHeld new) found.right.items r at.intersection.right_held n
    ]

    pub of-table : IsOfTable new t r
    of-table = elim side [
      | inl n ↦ each-in (IsOfTable new t) found.left.items r at.posed.left n
      | inr n ↦ each-in (IsOfTable new t) found.right.items r at.posed.right n
    ]

    closed : (vs : List Trees) × (some_node is_open (filled ks vs g.args) ≡ false)
    closed = elim goal-in [ inl n ↦ left-closed g n | inr n ↦ right-closed g n ]

    free : HasNoPlace (resolved bs (trees_at new r.args.0))
    free = no-places ks closed.0 (resolved bs (trees_at new r.args.0)) (goal-proper new lawful t at.intersection.ready r held of-table) closed.1

    -- what is refused is refuted, by declarations that are what a crate sees of a text
    pub refused-is-refuted : (dd : Declarations) (c depth : ℕ) (cx : SolverCx Solver) (graph : SearchState) (cache : Cached) → IsSession dd c depth cx graph cache
        → Impossible.HasNoProofInWorlds (solver_for (solving_in cx)) new t r → IsRefuted (view_in dd c) c ks g
    refused-is-refuted dd c depth cx graph cache s refused =
        is-refuted dd c (meaning_for (solving_in cx) (canonical_form (Impossible.resolved_alone new t r))) s.view.rules s.view.local ks g
        (unproved new lawful t at.intersection.ready r held of-table free at.posed.table applies_always same_answer (meaning_for (solving_in cx) (canonical_form (Impossible.resolved_alone new t r))) refused)
        (self-types-begin (entries_of cx) cx.handler.declarations s.rest.ready.handler.held)

-- ---- in a session
module _ (dd : Declarations) (c depth : ℕ) (cx : SolverCx Solver) (graph : SearchState) (cache : Cached) (s : IsSession dd c depth cx graph cache) where
  abbrev V : World
  V = view_in dd c

  pub pair-here : (k j : ℕ) (x y : ImplDecl) → IsPairOf V c k j x y → IsPairOf (rules_in cx) cx.handler.declarations.local k j x y
  pair-here k j x y p = record {
    pair = record {
      stands = subst (λ (W : World). In x W.impls) (sym s.view.rules) p.pair.stands;
      partner = subst (λ (W : World). In y W.impls) (sym s.view.rules) p.pair.partner;
      own = p.pair.own ∙ sym s.view.local;
      before = λ e. p.pair.before (e ∙ s.view.local);
    };
    later = p.later;
    earlier = p.earlier;
  }

  pair-there : (x y : ImplDecl) → IsPair (rules_in cx) cx.handler.declarations.local x y → IsPair V c x y
  pair-there x y p = record {
    stands = subst (λ (W : World). In x W.impls) s.view.rules p.stands;
    partner = subst (λ (W : World). In y W.impls) s.view.rules p.partner;
    own = p.own ∙ s.view.local;
    before = λ e. p.before (e ∙ sym s.view.local);
  }

  pub apart-passes : (k j : ℕ) → AreApartAt (rules_in cx) cx.handler.declarations.local k j → ArePassedAt V c k j
  apart-passes k j h x y p = inl (h x y (pair-here k j x y p))

  module _ (k j : ImplId) (new : List Entry) (found : ImplIntersection) (at : IsFoundAt (entries_of cx) cx.handler.declarations k j new found) (lawful : Lawful new) (law : ReadyAreWritten) where
    abbrev a : ImplDecl
    a = erased_impl (impl_in (entries_of cx) k at.later)

    abbrev b : ImplDecl
    b = erased_impl (impl_in (entries_of cx) j at.earlier)

    -- a goal without a proof passes the pair
    pub refused-passes : HaveOwnNumbers (rules_in cx) → (w : Solving) → w ≡ solving_in cx
        → (r : TraitRef) × (In r found.left.items ⊎ In r found.right.items) × Impossible.HasNoProofInWorlds (solver_for w) new found.table r → ArePassedAt V c k.index j.index
    refused-passes own w e q =
        let refuted = refused-is-refuted (entries_of cx) cx.handler.declarations k j new found at lawful s.rest.ready.handler law q.0 q.1 dd c depth cx graph cache s
        (subst (λ z. Impossible.HasNoProofInWorlds (solver_for z) new found.table q.0) e q.2) in
        let passed : IsPassed V c a b =
        passes a b (unknown_kinds found.table) _ _ (at.intersection.goals k j) V c (resolved_reference (content new found.table.values) (reference_in new q.0))
        (goal-in (entries_of cx) cx.handler.declarations k j new found at lawful s.rest.ready.handler law q.0 q.1) refuted in
        λ x y p. only (entries_of cx) cx.handler.declarations k j at.later at.earlier at.pair own (IsPassed V c) passed x y (pair-here k.index j.index x y p)

    -- goals that are all left open refuse it
    pub open-overlaps : ((g : Reference) → In g (goals_over new found.table found.left.items) ⊎ In g (goals_over new found.table found.right.items)
        → IsRefuteAnswer depth V c (unknown_kinds found.table) g unrefuted) → IsOverlap depth V c k.index j.index
    open-overlaps all = record {
      later = a;
      earlier = b;
      later_number = refl;
      earlier_number = refl;
      pair = pair-there a b at.pair.pair;
      real = refused-real depth V c a b (refuses a b (unknown_kinds found.table) _ _ (at.intersection.goals k j) depth V c all);
    }

    -- goals of a list of where-clauses are of one of them
    from-clauses : (rs : List TraitRef) (g : Reference) → In g (goals_over new found.table rs) → (r : TraitRef) × In r rs × (resolved_reference (content new found.table.values) (reference_in new r) ≡ g)
    from-clauses rs g n =
        let p = map-in (resolved_reference (content new found.table.values)) (references_in new rs) g n in
        let q = map-in (reference_in new) rs p.0 p.1 in
        (q.0, q.1, ap (resolved_reference (content new found.table.values)) q.2 ∙ p.2)

    -- the search of a context that solves by the same declarations, and whose terms these are
    module _ (open_law : OpenPairGoalsArePossible) (law_old : Lawful (entries_of cx)) (w : Solving) (same : w ≡ solving_in cx) where
      abbrev m : Search.Meaning (SolverCx Solver) InputId (Option ResponseId) GoalFrame
      m = solver_meaning solver_by_view

      -- the goal is left open
      abbrev pub OpenGoal : ℕ → GoalTrees → Type 0
      OpenGoal n g = ((a : AnswerTrees) × IsFoundBySearch m w n (Coherence, canonical_form g) (Some a)) ⊎ IsNotPlain m w (n + 1) (Coherence, canonical_form g)

      abbrev OpenReference : Solving → ℕ → Reference → Type 0
      OpenReference v n r =
          IsLeftOpen solver_by_view v n r

      abbrev ready : AreReadyDeclarations (entries_of cx) cx.handler.declarations
      ready = s.rest.ready.handler

      abbrev answered : TraitRef → Type 0
      answered r = IsRefuteAnswer depth V c (unknown_kinds found.table) (resolved_reference (content new found.table.values) (reference_in new r)) unrefuted

      open-possible : (r : TraitRef) → In r found.left.items ⊎ In r found.right.items → OpenGoal graph.root_depth (Impossible.resolved_alone new found.table r) → answered r
      open-possible r side o =
          let h = held (entries_of cx) cx.handler.declarations k j new found at lawful ready law r side in
          let of = of-table (entries_of cx) cx.handler.declarations k j new found at lawful ready law r side in
          let alone = subst (OpenGoal graph.root_depth) (is-alone new lawful found.table at.intersection.ready r h of) o in
          open_law dd c depth s.text (entries_of cx) law_old cx.handler.declarations ready (law (entries_of cx) cx.handler.declarations ready).0 s.view.written s.solving k j at.later at.earlier at.pair new found at.intersection at.solved r side
          (subst (λ v. OpenReference v depth (as_resolved new found.table r)) same (subst (λ n. OpenReference w n (as_resolved new found.table r)) s.rest.depth alone))

      all-possible : Each (λ r. OpenGoal graph.root_depth (Impossible.resolved_alone new found.table r)) found.left.items → Each (λ r. OpenGoal graph.root_depth (Impossible.resolved_alone new found.table r)) found.right.items
          → (g : Reference) → In g (goals_over new found.table found.left.items) ⊎ In g (goals_over new found.table found.right.items) → IsRefuteAnswer depth V c (unknown_kinds found.table) g unrefuted
      all-possible ls rs g (inl n) =
          let q = from-clauses found.left.items g n in
          subst (λ z. IsRefuteAnswer depth V c (unknown_kinds found.table) z unrefuted) q.2
          (open-possible q.0 (inl q.1) (each-in (λ r. OpenGoal graph.root_depth (Impossible.resolved_alone new found.table r)) found.left.items q.0 ls q.1))
      all-possible ls rs g (inr n) =
          let q = from-clauses found.right.items g n in
          subst (λ z. IsRefuteAnswer depth V c (unknown_kinds found.table) z unrefuted) q.2
          (open-possible q.0 (inr q.1) (each-in (λ r. OpenGoal graph.root_depth (Impossible.resolved_alone new found.table r)) found.right.items q.0 rs q.1))

      -- so the pair is judged
      pub judged : HaveOwnNumbers (rules_in cx) → (refused : Bool)
          → (IsTrue refused → (r : TraitRef) × (In r found.left.items ⊎ In r found.right.items) × Impossible.HasNoProofInWorlds (solver_for w) new found.table r)
          → (refused ≡ false
          → Each (λ r. OpenGoal graph.root_depth (Impossible.resolved_alone new found.table r)) found.left.items × Each (λ r. OpenGoal graph.root_depth (Impossible.resolved_alone new found.table r)) found.right.items)
          → IsJudgedAt depth V c k.index j.index (not refused)
      judged own true f g = refused-passes own w same (f refl)
      judged own false f g = let o = g refl in open-overlaps (all-possible o.0 o.1)

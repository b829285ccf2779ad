-- The nested goals of goals without bound variables have none either, from all tables of the frame.
use Rattle.std.proofs.Common.{◌≡◌, ◌<◌, ℕ, Bool, true, false, not, ◌⊎◌, inl, inr, List, [], ◌∷◌, ◌++◌, map, refl, sym, ◌∙◌, ap, subst, arith, Some, if◌then◌else◌}
use Rattle.type_terms.specs.Promised.Label.{Sort, of_type, of_const, of_lifetime, of_trait, predicate, infer}
use Rattle.type_terms.specs.Promised.Trees.{Trees, none, some_node}
use Rattle.type_terms.proofs.Fitting.{child-shut}
use Rattle.infer_table.specs.Canonical.{goal_leaves}
use Rattle.infer_table.specs.Solutions.{Binding, HasValues, resolved}
use Rattle.infer_table.specs.declared.canonical.CanonicalVarKind.{CanonicalVarKind}
use Rattle.infer_table.specs.declared.certainty.TypingMode.{TypingMode}
use Rattle.infer_table.specs.declared.certainty.TypingMode.TheVariants.{Coherence, PostAnalysis}
use Rattle.goal_evaluator.specs.Lists.{Every}
use Rattle.goal_evaluator.specs.Table.{Narrows}
use Rattle.goal_evaluator.proofs.ListLaws.{Every-mono}
use Rattle.goal_evaluator.specs.Content.{Values, NestedQuestion, ChosenTerms}
use Rattle.goal_evaluator.specs.Equations.{IsValue}
use Rattle.goal_evaluator.specs.Finite.{IsDetermined}
use Rattle.goal_evaluator.specs.FrameTables.{kinds_known, FrameTable, IsMadeFrame, Allows, EquationIsMet, Nested, Equation, good_in, slot_at, goal_in, question, fact, in_turn, pairs_in, types_in, consts_in}
use Rattle.goal_evaluator.specs.Instances.{put_in}
use Rattle.goal_evaluator.specs.TableOperations.{begin, fresh, equate, recorded}
use Rattle.goal_evaluator.proofs.TableBeginning.{begin-made}
use Rattle.goal_evaluator.proofs.Equating.{with-content-is, equations-narrow}
use Rattle.goal_evaluator.specs.Tables.{frame_tables}
use Rattle.goal_evaluator.proofs.FrameTableLaws.{tables_are_lawful}
use Rattle.solver_completeness.specs.Closed.{AsksFrom, AsksSuch, DeterminesNested}
use Rattle.solver_completeness.specs.ClosedTables.{AreClosed, closed_tables}
use Rattle.solver_completeness.proofs.FreeTables.{no-unknown}
use Rattle.solver_completeness.proofs.RuleFilling.{no-types, no-consts}
use Rattle.candidate_model.specs.DeclaredWell.{IsDeclaredWell}
use Rattle.candidate_model.specs.Knowing.{is_knowable}
use Rattle.candidate_model.specs.Meaning.{ViewMeaning}
use Rattle.candidate_model.specs.Asking.{GoalOverKinds, goal_over_kinds, all_known}
use Rattle.candidate_model.specs.Candidates.{Candidate, unknowable}
use Rattle.candidate_model.specs.Cover.{all_candidates}
use Rattle.candidate_model.proofs.Cover.{asked-by, known-kinds}
use Rattle.candidate_model.proofs.Instances.{is_bound, Unbound}
use Rattle.candidate_model.proofs.SoundCandidates.{kinds-whole}
use Rattle.solver_completeness.specs.SolverGoals.{specs_by}
use Rattle.solver_completeness.specs.UnboundGoals.{is_unbound, UnboundAreKept, UnboundAreAdmitted}
use Rattle.solver_completeness.proofs.FormedForms.{formed-goals-fit}
use Rattle.solver_completeness.proofs.NestedForms.{no-unknowns}
use Rattle.solver_completeness.proofs.QuestionTerms.{is_unknown}
use Rattle.solver_completeness.proofs.SolverSpecs.{outside-is, specs-are-determined}
use Rattle.solver_completeness.proofs.UnboundTerms.{AreUnboundValues, AreUnboundLabels, GoesOn, reaches-goes, resolved-unbound, resolved-more, put-unbound, numbered-unbound, fresh-labels, values-unbound, IsUnboundEquation}
use Rattle.solver_completeness.proofs.UnboundCandidates.{IsFine, all-fine, unknowable-fine}

first-part : {A : Type 0} (P : A → Type 0) (xs ys : List A) → Every P (xs ++ ys) → Every P xs
first-part P [] ys h = tt
first-part P (x ∷ xs) ys h = (h.0, first-part P xs ys h.1)

-- a table of a goal without unknowns, and a candidate without unknowns, has no values
no-values : (ks : List CanonicalVarKind) → AreClosed (map Some ks) → (js : List CanonicalVarKind) → js ≡ [] → (es : List Equation) (U : FrameTable) → equate (fresh (begin ks) js) es ≡ Some U → AreUnboundValues U.content.bindings
no-values ks closed (j ∷ js) e es U q = absurd (cc)
no-values ks closed [] e es U q =
    let t = fresh (begin ks) [] in
    let made : IsMadeFrame t = tables_are_lawful.fresh_made (begin ks) [] (begin-made ks) in
    let x = with-content-is t (in_turn (pairs_in t es) t.content) U q in
    subst (λ (z : FrameTable). AreUnboundValues z.content.bindings) x.2
    (Every-mono (IsValue (good_in t)) (λ (b : Binding). Unbound b.value) (λ b v. absurd (none-known made b v)) x.0.bindings (equations-narrow t made es x.0 x.1).after.made.values)
  where
    none-below : (v n : ℕ) → n ≡ 0 → v < n → ⊥
    none-below v n e l = omega (arith, e, l)

    none-known : IsMadeFrame (fresh (begin ks) []) → (b : Binding) → IsValue (good_in (fresh (begin ks) [])) b → ⊥
    none-known made b v = by b.sort v.sort v.known
      where
        by : (s : Sort) → HasValues s → good_in (fresh (begin ks) []) (infer s b.var) ≡ true → ⊥
        by of_type h g = none-below b.var (types_in ks) (no-types ks closed) (made.table.counted.types b.var g)
        by of_const h g = none-below b.var (consts_in ks) (no-consts ks closed) (made.table.counted.consts b.var g)
        by of_lifetime h g = h

module _ (ks : List CanonicalVarKind) (closed : AreClosed (map Some ks)) (c : Candidate) (fine : (c.kinds ≡ []) ⊎ Every (λ (e : Equation). IsUnboundEquation e) c.equations) where
  abbrev t : FrameTable
  t = fresh (begin ks) c.kinds

  t-made : IsMadeFrame t
  t-made = tables_are_lawful.fresh_made (begin ks) c.kinds (begin-made ks)

  module _ (T : FrameTable) (from : AsksFrom frame_tables (begin ks) c T) where
    abbrev U : FrameTable
    U = recorded from.table c.regions

    narrow : Narrows frame_tables t from.table
    narrow = tables_are_lawful.equate_narrows t from.table c.equations t-made from.equal

    onto : Narrows frame_tables from.table U
    onto = tables_are_lawful.recorded_narrows from.table c.regions narrow.made

    allows-first : (s : ChosenTerms) → Allows U s → Allows t s
    allows-first s h = narrow.allows s (onto.allows s h)

    meets-first : (s : ChosenTerms) → Allows U s → Every (λ e. EquationIsMet e s) c.equations
    meets-first s h = tables_are_lawful.equate_meets t from.table c.equations t-made from.equal s (onto.allows s h)

    same-labels : U.labels ≡ t.labels
    same-labels = let x = with-content-is t (in_turn (pairs_in t c.equations) t.content) from.table from.equal in ap (λ (z : FrameTable). z.labels) (sym x.2)

    same-kinds : U.kinds ≡ ks
    same-kinds = let x = with-content-is t (in_turn (pairs_in t c.equations) t.content) from.table from.equal in ap (λ (z : FrameTable). z.kinds) (sym x.2)

    closed-there : AreClosed (map Some U.kinds)
    closed-there = subst (λ z. AreClosed (map Some z)) (sym same-kinds) closed

    values : AreUnboundValues U.content.bindings
    values = by fine
      where
        by : (c.kinds ≡ []) ⊎ Every (λ (e : Equation). IsUnboundEquation e) c.equations → AreUnboundValues from.table.content.bindings
        by (inl e) = no-values ks closed c.kinds e c.equations from.table from.equal
        by (inr h) = values-unbound ks c.kinds c.equations h from.table from.equal

    labels-there : AreUnboundLabels U.labels
    labels-there = subst AreUnboundLabels (sym same-labels) (fresh-labels ks c.kinds)

    goes : GoesOn U T
    goes = reaches-goes U T from.reached

    pub unbound-question : IsMadeFrame T → (n : Nested) → Unbound n.goal.predicate → IsDetermined U n → is_unbound (question T n).form ≡ true
    unbound-question made n fine det =
        ap not (numbered-unbound (goal_leaves (goal_in T n)) (goal_in T n).predicate (subst Unbound (sym here-is) (resolved-unbound U.content.bindings values y (put-unbound U.labels labels-there n.goal.predicate fine))))
      where
        y : Trees
        y = put_in (slot_at U.labels) n.goal.predicate

        known : some_node is_unknown (resolved U.content.bindings y) ≡ false
        known = no-unknowns (resolved U.content.bindings y) (λ k v h i. no-unknown U onto.made closed-there n det k h v (inr i))

        sorted : Every (λ (b : Binding). HasValues b.sort) goes.news
        sorted =
            first-part (λ (b : Binding). HasValues b.sort) goes.news U.content.bindings
            (subst (Every (λ (b : Binding). HasValues b.sort)) goes.bindings (Every-mono (IsValue (good_in T)) (λ (b : Binding). HasValues b.sort) (λ b v. v.sort) T.content.bindings made.table.values))

        here-is : (goal_in T n).predicate ≡ resolved U.content.bindings y
        here-is =
            ap (λ ls. resolved T.content.bindings (put_in (slot_at ls) n.goal.predicate)) goes.labels
            ∙ ap (λ bs. resolved bs y) goes.bindings
            ∙ resolved-more goes.news U.content.bindings sorted y known

-- ---- all candidates
module _ (m : ViewMeaning) (well : IsDeclaredWell m.view) (q : NestedQuestion) (v : Values) (closed : AreClosed q.form.kinds) (a : GoalOverKinds) (is_asked : goal_over_kinds m.view q.form ≡ Some a) (unbound : is_unbound q.form ≡ true) where
  abbrev kinds : List CanonicalVarKind
  kinds = kinds_known q.form.kinds

  closed-kinds : AreClosed (map Some kinds)
  closed-kinds =
      let is = asked-by m.view q.form.goal.environment q.form.goal.predicate (all_known q.form.kinds) a is_asked in
      subst (λ ks. AreClosed (map Some ks)) (sym (known-kinds q.form.kinds a.kinds is.kinds_are)) (subst AreClosed (sym (kinds-whole q.form.kinds a.kinds is.kinds_are)) closed)

  reference-shut : Unbound a.reference.args
  reference-shut =
      let is = asked-by m.view q.form.goal.environment q.form.goal.predicate (all_known q.form.kinds) a is_asked in
      child-shut is_bound (predicate (of_trait a.reference.trait)) a.reference.args none (subst Unbound is.predicate_is (not-so (some_node is_bound q.form.goal.predicate) unbound))
    where
      not-so : (b : Bool) → not b ≡ true → b ≡ false
      not-so true h = absurd (cc)
      not-so false h = refl

  abbrev Kept : Candidate → Type 0
  Kept c = AsksSuch frame_tables closed_tables (λ (p : NestedQuestion) (u : Values). is_unbound p.form ≡ true) (begin kinds) v c

  one-kept : (c : Candidate) → IsFine m.view well a reference-shut c → DeterminesNested frame_tables (begin kinds) c → Kept c
  one-kept c fine det = all c.nested fine.0 det
    where
      all : (ns : List Nested) → Every (λ (n : Nested). Unbound n.goal.predicate) ns
          → ((s r : ChosenTerms) → Allows (fresh (begin kinds) c.kinds) s → Allows (fresh (begin kinds) c.kinds) r → Every (λ e. EquationIsMet e s) c.equations → Every (λ e. EquationIsMet e r) c.equations → s.own ≡ r.own → Every (λ n. fact n s ≡ fact n r) ns)
          → Every (λ (n : Nested). (T : FrameTable) (s : ChosenTerms) → AsksFrom frame_tables (begin kinds) c T → IsMadeFrame T → AreClosed (map Some T.kinds) → IsDetermined T n → Allows T s → Allows (fresh (begin kinds) c.kinds) s
          → Every (λ e. EquationIsMet e s) c.equations → s.own ≡ v → is_unbound (question T n).form ≡ true) ns
      all [] h d = tt
      all (n ∷ ns) h d = (
        λ T s from made shut det allowed own_allowed meets own.
            unbound-question kinds closed-kinds c fine.1 T from made n h.0
            (λ x y ax ay e.
            (d x y (allows-first kinds closed-kinds c fine.1 T from x ax) (allows-first kinds closed-kinds c fine.1 T from y ay) (meets-first kinds closed-kinds c fine.1 T from x ax) (meets-first kinds closed-kinds c fine.1 T from y ay) e).0),
        all ns h.1 (λ x y ax ay mx my e. (d x y ax ay mx my e).1),
      )

  all-kept : (cs : List Candidate) → Every (IsFine m.view well a reference-shut) cs → Every (DeterminesNested frame_tables (begin kinds)) cs → Every Kept cs
  all-kept [] f d = tt
  all-kept (c ∷ cs) f d = (one-kept c f.0 d.0, all-kept cs f.1 d.1)

  specs-fine : (mode : TypingMode) → Every (IsFine m.view well a reference-shut) (specs_by m mode a)
  specs-fine PostAnalysis = subst (Every (IsFine m.view well a reference-shut)) (outside-is m a) (all-fine m.view well a reference-shut)
  specs-fine Coherence = by (is_knowable m.view m.crate a.reference)
    where
      by : (b : Bool) → Every (IsFine m.view well a reference-shut) (if b then all_candidates m.view a else unknowable m.view a ∷ all_candidates m.view a)
      by true = all-fine m.view well a reference-shut
      by false = (unknowable-fine m.view well a reference-shut, all-fine m.view well a reference-shut)

  determined : (mode : TypingMode) → Every (DeterminesNested frame_tables (begin kinds)) (specs_by m mode a)
  determined Coherence = (specs-are-determined m well q.form a is_asked).0
  determined PostAnalysis = (specs-are-determined m well q.form a is_asked).1

pub unbound-are-kept : UnboundAreKept
unbound-are-kept m mode well q v closed a e u = all-kept m well q v closed a e u (specs_by m mode a) (specs-fine m well q v closed a e u mode) (determined m well q v closed a e u mode)

pub unbound-are-admitted : UnboundAreAdmitted
unbound-are-admitted m mode fits sorts well told = record {
  fitting = λ q v i. told q.form i.form i.decided i.admitted (formed-goals-fit m.view sorts q v i.form i.decided i.of_fact);
  kept = λ q v i closed places a e. unbound-are-kept m mode well q v closed a e i.admitted;
}

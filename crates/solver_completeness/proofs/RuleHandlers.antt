-- Lists of rules over terms are exact.
use Rattle.std.proofs.Common.{rules, ◌≡◌, ℕ, ◌==◌, Bool, true, false, ◌&&◌, if◌then◌else◌, List, [], ◌∷◌, map, length, refl, sym, ◌∙◌, ap, subst, Some}
use Rattle.std.proofs.lemmas.Bool.{eqb-true, eq-eqb}
use Rattle.type_terms.specs.Promised.Label.{Label, adt, of_trait, predicate, canonical}
use Rattle.type_terms.specs.Promised.Trees.{Trees, none, tree}
use Rattle.type_terms.specs.Codes.{same, same_label}
use Rattle.type_terms.proofs.Matching.{same-sound}
use Rattle.infer_table.proofs.CanonicalLaws.{same_label-self}
use Rattle.type_terms.specs.Made.{terms, is_made}
use Rattle.infer_table.specs.Canonical.{GoalTrees, CanonicalForm, canonical_form}
use Rattle.infer_table.specs.Solutions.{resolved}
use Rattle.infer_table.specs.declared.canonical.CanonicalVarKind.{CanonicalVarKind}
use Rattle.infer_table.specs.declared.certainty.Certainty.TheVariants.{Yes}
use Rattle.infer_table.specs.declared.certainty.TypingMode.{TypingMode}
use Rattle.goal_evaluator.specs.Lists.{Every}
use Rattle.goal_evaluator.specs.Table.{workings}
use Rattle.goal_evaluator.specs.Candidate.{Spec}
use Rattle.goal_evaluator.proofs.ListLaws.{Every-mono, Every-map}
use Rattle.goal_evaluator.specs.Instances.{read_with, goal_read, put_in}
use Rattle.goal_evaluator.specs.Content.{Values, Fact, NestedQuestion, ChosenTerms, fits, given, fact_of}
use Rattle.goal_evaluator.specs.FrameTables.{FrameTable, IsMadeFrame, Allows, EquationIsMet, Nested, fact, kinds_known, good_in, slot_at, goal_in, question}
use Rattle.type_terms.proofs.Made.{false-true, right}
use Rattle.goal_evaluator.proofs.Labels.{made-more}
use Rattle.goal_evaluator.proofs.Equating.{made-put, slots-of}
use Rattle.goal_evaluator.proofs.Resolved.{made-resolved}
use Rattle.goal_evaluator.proofs.TableBeginning.{begin-made}
use Rattle.goal_evaluator.specs.TableOperations.{begin, fresh}
use Rattle.goal_evaluator.specs.Tables.{frame_tables}
use Rattle.goal_frames.specs.Rules.{TraitBound, goal_of, FrameRule, RuleBook, BoundIsOver, IsRule, AreRules, instance_of}
use Rattle.goal_frames.specs.Handlers.{BareGoal, bare_goal, bound_behind, as_one, nested_of_bound, spec_of, specs_for, candidates_of, listing_of, same_answer, applies_always}
use Rattle.goal_frames.specs.RulePrograms.{DeclaredRules, book_of}
use Rattle.solver_completeness.specs.RuleAnswers.{rule_programs}
use Rattle.goal_frames.specs.Forms.{is_unnumbered}
use Rattle.goal_frames.proofs.Behind.{dropped, read-behind, made-behind, made-open}
use Rattle.goal_evaluator.proofs.Readings.{made-leaves, reads-agree}
use Rattle.goal_evaluator.proofs.Slots.{own-slots-agree, kind-of}
use Rattle.goal_frames.proofs.Asked.{IsAsked, asked-is, kinds-are}
use Rattle.goal_frames.proofs.Sound.{term-one, fact-behind, heads, determined}
use Rattle.goal_frames.proofs.Forms.{canonical-goals-are-asked}
use Rattle.goal_evaluator.specs.Variables.{is_variable_over}
use Rattle.solver_completeness.specs.Closed.{Applies, EquationsRefuse, AreWays, no_more, refused, applied, DeterminesNested, AsksFrom, AsksSuch}
use Rattle.goal_evaluator.specs.Finite.{IsDetermined}
use Rattle.solver_completeness.specs.ClosedTables.{AreClosed, ArePlaces, closed_tables}
use Rattle.solver_completeness.specs.Ways.{IsSelection}
use Rattle.solver_completeness.specs.Exact.{AnswersExactly, AreSure}
use Rattle.solver_completeness.proofs.Listed.{IsExactListing}
use Rattle.solver_completeness.specs.RuleWays.{matched, values_for, arguments_of, concludes, rule_ways, IsAskedForm}
use Rattle.solver_completeness.proofs.ClosedQuestions.{places-fit}
use Rattle.solver_completeness.proofs.ClosedLaws.{closed_tables_are_lawful}
use Rattle.solver_completeness.proofs.Listed.{listed-exact}
use Rattle.solver_completeness.proofs.RuleMatching.{matched-agree}
use Rattle.solver_completeness.proofs.RuleFilling.{filled, filled-allowed, filled-agrees}
use Rattle.infer_table.proofs.SolutionLaws.{resolved-none}
use Rattle.type_terms.proofs.TermBasics.{predicate-parts as one-parts}
use Rattle.infer_table.proofs.Basics.{resolved-trait, same-goal}
use Rattle.type_terms.proofs.BooleanBasics.{both-true as both}

-- ---- equal trees
same-self : (t : Trees) → same t t ≡ true
same-self none = refl
same-self (tree l c o) = both (same_label l l) _ (same_label-self l) (both (same c c) (same o o) (same-self c) (same-self o))

-- ---- nested goals are asked

module _ (T : FrameTable) (made : IsMadeFrame T) (kind : Bool) (n : ℕ) (kinds : List CanonicalVarKind) (b : TraitBound) (over : BoundIsOver kinds b) where
  abbrev inside : TraitBound
  inside = record { trait = b.trait; arguments = resolved T.content.bindings (put_in (slot_at T.labels) (bound_behind n b).arguments) }

  goal-inside : goal_in T (nested_of_bound kind (bound_behind n b)) ≡ goal_of inside
  goal-inside = same-goal _ _ _ _ (resolved-none T.content.bindings) (resolved-trait T.content.bindings b.trait (put_in (slot_at T.labels) (bound_behind n b).arguments))

  unnumbered : (l : Label) → good_in T l ≡ true → is_unnumbered l ≡ true
  unnumbered (canonical k i) g = absurd (false-true g)
  unnumbered l g = refl

  made-inside : is_made is_unnumbered terms inside.arguments ≡ true
  made-inside =
      made-more (good_in T) is_unnumbered unnumbered terms inside.arguments
      (made-resolved (good_in T) T.content.bindings made.table.values terms (put_in (slot_at T.labels) (bound_behind n b).arguments)
      (made-put (good_in T) T.labels (slots-of T made) terms (bound_behind n b).arguments (made-behind kinds n terms b.arguments over)))

  question-asked : IsAskedForm (question T (nested_of_bound kind (bound_behind n b)))
  question-asked = let x = canonical-goals-are-asked inside made-inside in (x.0, ap (λ g. bare_goal (canonical_form g)) goal-inside ∙ x.1)

-- ---- one rule
module _ (f : CanonicalForm) (a : BareGoal) (h : IsAsked f a) (closed : AreClosed (map Some a.kinds)) (kind : Bool) (v : Values) (places : ArePlaces (map Some a.kinds) v) where
  abbrev n : ℕ
  n = length a.kinds

  abbrev goal : Fact
  goal = fact_of (record { form = f; coinductive = false }) v

  fits-here : fits (map Some a.kinds) v.terms ≡ true
  fits-here = places-fit (map Some a.kinds) v.terms closed places.fit

  goal-is : goal.goal ≡ goal_read (given v.terms) (goal_of a.bound)
  goal-is = ap (goal_read (given v.terms)) h.goal

  module _ (r : FrameRule) (good : IsRule r) where
    abbrev values : List Trees
    values = values_for r goal

    arguments-are : arguments_of goal.goal.predicate ≡ read_with (given v.terms) a.bound.arguments
    arguments-are = ap (λ (g : GoalTrees). arguments_of g.predicate) goal-is

    -- where the head can be read as the goal, it is read so with what is matched
    matches : (ys : List Trees) → r.head.trait ≡ a.bound.trait → read_with (given ys) r.head.arguments ≡ read_with (given v.terms) a.bound.arguments
        → read_with (given values) r.head.arguments ≡ read_with (given v.terms) a.bound.arguments
    matches ys t e =
        ap (λ z. read_with (given (matched 0 r.kinds r.head.arguments z)) r.head.arguments) (arguments-are ∙ sym e)
        ∙ reads-agree (matched 0 r.kinds r.head.arguments (read_with (given ys) r.head.arguments)) ys r.head.arguments
        (matched-agree r.kinds r.head.arguments (made-leaves (is_variable_over r.kinds) terms r.head.arguments good.head) (kind-of r.kinds r.head.arguments good.head) ys)
        ∙ e

    -- then the rule concludes it
    concludes-true : (ys : List Trees) → r.head.trait ≡ a.bound.trait → read_with (given ys) r.head.arguments ≡ read_with (given v.terms) a.bound.arguments → concludes r goal ≡ true
    concludes-true ys t e =
        both (same goal.goal.environment none) _ (ap (λ (g : GoalTrees). same g.environment none) goal-is)
        (ap (λ (g : GoalTrees). same g.predicate (tree (predicate (of_trait r.head.trait)) (read_with (given values) r.head.arguments) none)) goal-is
        ∙ ap (λ z. same (tree (predicate (of_trait a.bound.trait)) (read_with (given v.terms) a.bound.arguments) none) (tree (predicate (of_trait r.head.trait)) z none)) (matches ys t e)
        ∙ ap (λ z. same (tree (predicate (of_trait a.bound.trait)) (read_with (given v.terms) a.bound.arguments) none) (tree (predicate (of_trait z)) (read_with (given v.terms) a.bound.arguments) none)) t
        ∙ same-self (tree (predicate (of_trait a.bound.trait)) (read_with (given v.terms) a.bound.arguments) none))

    -- and what it concludes is read so
    concludes-parts : concludes r goal ≡ true → (a.bound.trait ≡ r.head.trait) × (read_with (given v.terms) a.bound.arguments ≡ read_with (given values) r.head.arguments)
    concludes-parts c =
        one-parts a.bound.trait r.head.trait (read_with (given v.terms) a.bound.arguments) (read_with (given values) r.head.arguments)
        (sym (ap (λ (g : GoalTrees). g.predicate) goal-is) ∙ same-sound goal.goal.predicate (tree (predicate (of_trait r.head.trait)) (read_with (given values) r.head.arguments) none) (right (same goal.goal.environment none) _ c))

    abbrev table : FrameTable
    table = fresh (begin a.kinds) r.kinds

    abbrev spec : Spec (workings frame_tables)
    spec = spec_of kind a r

    -- ---- it applies
    abbrev terms_of : ChosenTerms
    terms_of = filled a.kinds r.kinds closed good.kinds v values

    terms-allowed : Allows table terms_of
    terms-allowed = filled-allowed a.kinds r.kinds closed good.kinds v values

    values-read : (b : TraitBound) → BoundIsOver r.kinds b → read_with (given (dropped n terms_of.slots)) b.arguments ≡ read_with (given values) b.arguments
    values-read b m = reads-agree (dropped n terms_of.slots) values b.arguments (filled-agrees a.kinds r.kinds closed good.kinds v values b.arguments m)

    meets : concludes r goal ≡ true → EquationIsMet (record { left = as_one a.bound; right = as_one (bound_behind n r.head) }) terms_of
    meets c =
        let parts = concludes-parts c in
        ap (read_with (given terms_of.slots)) (term-one a.bound (made-open a.kinds terms a.bound.arguments h.over))
        ∙ ap (λ z. tree (adt a.bound.trait) z none)
        (sym (reads-agree v.terms terms_of.slots a.bound.arguments (own-slots-agree table terms_of terms-allowed fits-here a.bound.arguments h.over))
        ∙ parts.1 ∙ sym (values-read r.head good.head) ∙ sym (read-behind n terms_of.slots r.head.arguments))
        ∙ ap (λ z. tree (adt z) (read_with (given terms_of.slots) (bound_behind n r.head).arguments) none) parts.0
        ∙ ap (read_with (given terms_of.slots)) (sym (term-one (bound_behind n r.head) (made-behind r.kinds n terms r.head.arguments good.head)))

    proper-is : terms_of.proper ≡ goal.proper
    proper-is = ap (λ z. v.proper && fits z v.terms) (sym h.kinds)

    same-instance : (p q : Bool) (b : TraitBound) (x y : Trees) → p ≡ q → x ≡ y
        → ◌≡◌ {A = Fact} (record { trait = Some b.trait; goal = record { environment = none; predicate = tree (predicate (of_trait b.trait)) x none }; proper = p }) (record { trait = Some b.trait; goal = record { environment = none; predicate = tree (predicate (of_trait b.trait)) y none }; proper = q })
    same-instance p q b x y e g = cc

    premise-is : (b : TraitBound) → BoundIsOver r.kinds b → fact (nested_of_bound kind (bound_behind n b)) terms_of ≡ instance_of goal.proper values b
    premise-is b m = fact-behind kind n terms_of b ∙ same-instance terms_of.proper goal.proper b _ _ proper-is (values-read b m)

    cons : (x y : Fact) (xs ys : List Fact) → x ≡ y → xs ≡ ys → x ∷ xs ≡ y ∷ ys
    cons x y xs ys e g = cc

    premises-are : (bs : List TraitBound) → Every (BoundIsOver r.kinds) bs → map (λ (m : Nested). fact m terms_of) (map (λ b. nested_of_bound kind (bound_behind n b)) bs) ≡ map (instance_of goal.proper values) bs
    premises-are [] m = refl
    premises-are (b ∷ bs) m = cons _ _ _ _ (premise-is b m.0) (premises-are bs m.1)

    applies : concludes r goal ≡ true → Applies frame_tables (begin a.kinds) v spec (map (instance_of goal.proper values) r.premises)
    applies c = record { assignment = terms_of; allowed = terms-allowed; own = refl; meets = (meets c, tt); needs = premises-are r.premises good.premises }

    -- ---- or refuses
    refuses : r.head.trait ≡ a.bound.trait → concludes r goal ≡ false → EquationsRefuse frame_tables (begin a.kinds) v spec
    refuses t c s allowed own m =
        false-true (sym c ∙ concludes-true (dropped n s.slots) t
        (sym (heads f a h r good kind s m)
        ∙ sym (reads-agree s.own.terms s.slots a.bound.arguments (own-slots-agree table s allowed (subst (λ (o : Values). fits (map Some a.kinds) o.terms ≡ true) (sym own) fits-here) a.bound.arguments h.over))
        ∙ ap (λ (o : Values). read_with (given o.terms) a.bound.arguments) own))

  -- ---- all rules
  one-way : (r : FrameRule) → IsRule r → (rules : List FrameRule) → AreWays frame_tables (begin a.kinds) v (specs_for kind a rules) (rule_ways rules goal) → (b : Bool) → (r.head.trait == a.bound.trait) ≡ b → (c : Bool) → concludes r goal ≡ c
      → AreWays frame_tables (begin a.kinds) v (if b then spec_of kind a r ∷ specs_for kind a rules else specs_for kind a rules)
      (if c then map (instance_of goal.proper (values_for r goal)) r.premises ∷ rule_ways rules goal else rule_ways rules goal)
  one-way r good rules u true e true c = applied (applies r good c) u
  one-way r good rules u true e false c = refused (refuses r good (eqb-true r.head.trait a.bound.trait e) c) u
  one-way r good rules u false e false c = u
  one-way r good rules u false e true c = absurd (false-true (sym e ∙ eq-eqb r.head.trait a.bound.trait (sym (concludes-parts r good c).0)))

  all-ways : (rules : List FrameRule) → Every IsRule rules → AreWays frame_tables (begin a.kinds) v (specs_for kind a rules) (rule_ways rules goal)
  all-ways [] g = no_more
  all-ways (r ∷ rules) g = one-way r g.0 rules (all-ways rules g.1) (r.head.trait == a.bound.trait) refl (concludes r goal) refl

-- ---- what holds of the candidate of each rule
each-spec : (P : Spec (workings frame_tables) → Type 0) (kind : Bool) (a : BareGoal) (rules : List FrameRule) → Every IsRule rules → ((r : FrameRule) → IsRule r → P (spec_of kind a r)) → Every P (specs_for kind a rules)
each-spec P kind a [] g f = tt
each-spec P kind a (r ∷ rules) g f = by (r.head.trait == a.bound.trait) (each-spec P kind a rules g.1 f)
  where
    by : (b : Bool) → Every P (specs_for kind a rules) → Every P (if b then spec_of kind a r ∷ specs_for kind a rules else specs_for kind a rules)
    by true h = (f r g.0, h)
    by false h = h

itself : {A : Type 0} (xs : List (List A)) → IsSelection xs xs
itself xs = record { every = λ P h. h; some = λ P s. s; back = λ P s. s; one = λ P h. h }

-- whatever its placeholders stand for
abbrev AskedAt : NestedQuestion → Values → Type 0
AskedAt q v = IsAskedForm q

module _ (book : RuleBook) (rules_are : AreRules book) (mode : TypingMode) (q : NestedQuestion) (v : Values) (closed : AreClosed q.form.kinds) (places : ArePlaces q.form.kinds v) where
  exact-listing : (a : BareGoal) → IsAsked q.form a → IsExactListing frame_tables closed_tables (rule_ways book.rules) AskedAt q v (listing_of book mode q.form a.kinds (Some a))
  exact-listing a h =
      let kind = book.coinductive a.bound.trait in
      let c = subst AreClosed h.kinds closed in
      record {
        begins = sym h.kinds;
        made = begin-made a.kinds;
        goal = refl;
        closed = c;
        determined = each-spec (DeterminesNested frame_tables (begin a.kinds)) kind a book.rules rules_are (λ r good s t l k m e o. determined q.form a h r good kind s t l k m e o);
        nested =
            each-spec (AsksSuch frame_tables closed_tables AskedAt (begin a.kinds) v) kind a book.rules rules_are
            (λ r good.
            Every-map (Asks r) (λ b. nested_of_bound kind (bound_behind (length a.kinds) b)) r.premises
            (Every-mono (BoundIsOver r.kinds) (λ b. Asks r (nested_of_bound kind (bound_behind (length a.kinds) b)))
            (λ b over T s z made x d l i e o. question-asked T made kind (length a.kinds) r.kinds b over) r.premises good.premises));
        found = rule_ways book.rules (fact_of q v);
        applies = all-ways q.form a h c kind v (subst (λ ks. ArePlaces ks v) h.kinds places) book.rules rules_are;
        selects = itself (rule_ways book.rules (fact_of q v));
      }
    where
      Asks : FrameRule → Nested → Type 0
      Asks r n =
          (T : FrameTable) (s : ChosenTerms) → AsksFrom frame_tables (begin a.kinds) (spec_of (book.coinductive a.bound.trait) a r) T → IsMadeFrame T → AreClosed (map Some T.kinds) → IsDetermined T n → Allows T s → Allows (fresh (begin a.kinds) r.kinds) s → Every (λ e. EquationIsMet e s) (spec_of (book.coinductive a.bound.trait) a r).equations → s.own ≡ v → IsAskedForm (question T n)

  -- the same, of the goal's form as it is
  pub form-listing : IsAskedForm q → IsExactListing frame_tables closed_tables (rule_ways book.rules) AskedAt q v (listing_of book mode q.form (kinds_known q.form.kinds) (bare_goal q.form))
  form-listing x =
      let h = asked-is q.form x.0 x.1 in
      subst (λ o. IsExactListing frame_tables closed_tables (rule_ways book.rules) AskedAt q v (listing_of book mode q.form (kinds_known q.form.kinds) o)) (sym x.1)
      (subst (λ ks. IsExactListing frame_tables closed_tables (rule_ways book.rules) AskedAt q v (listing_of book mode q.form ks (Some x.0))) (sym (kinds-are q.form x.0 h)) (exact-listing x.0 h))

-- lists of rules answer exactly, in each mode
abbrev pub rules_answer_exactly : (w : DeclaredRules) (mode : TypingMode) → AnswersExactly frame_tables closed_tables rule_programs w mode
rules_answer_exactly w mode = record {
  IsAsked = AskedAt;
  ways = rule_ways w.rules;
  exact = λ q v i c d.
      let book = book_of w in
      listed-exact frame_tables closed_tables closed_tables_are_lawful (rule_ways w.rules) AskedAt q v applies_always same_answer (listing_of book mode q.form (kinds_known q.form.kinds) (bare_goal q.form)) (form-listing book w.made mode q v c d i);
}

-- ---- none of their candidates is unsure
specs-sure : (book : RuleBook) (rules_are : AreRules book) (mode : TypingMode) (q : NestedQuestion) (closed : AreClosed q.form.kinds) (a : BareGoal) (x : bare_goal q.form ≡ Some a) (h : IsAsked q.form a)
    → Every (λ (c : Spec (workings frame_tables)). c.certainty ≡ Yes) (candidates_of book (bare_goal q.form))
specs-sure book rules_are mode q closed a x h =
    subst (λ o. Every (λ (c : Spec (workings frame_tables)). c.certainty ≡ Yes) (candidates_of book o)) (sym x)
    (each-spec (λ (c : Spec (workings frame_tables)). c.certainty ≡ Yes) (book.coinductive a.bound.trait) a book.rules rules_are (λ r good. refl))

pub rules_are_sure : (w : DeclaredRules) (mode : TypingMode) → AreSure frame_tables closed_tables rule_programs w mode (rules_answer_exactly w mode)
rules_are_sure w mode q v i c d = specs-sure (book_of w) w.made mode q c i.0 i.1 (asked-is q.form i.0 i.1)

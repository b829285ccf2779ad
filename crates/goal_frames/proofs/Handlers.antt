-- The handler of a goal for a list of rules is lawful.
use Rattle.std.proofs.Common.{◌≡◌, ℕ, ◌≤◌, arith, Bool, true, false, not, ◌&&◌, ◌||◌, if◌then◌else◌, List, [], ◌∷◌, map, length, inl, inr, refl, sym, ◌∙◌, ap, subst, Option, Some, None, is_some}
use Rattle.std.proofs.lemmas.Bool.{eqb-true, eq-eqb}
use Rattle.std.specs.Prelude.{◌==◌, max}
use Rattle.type_terms.specs.Promised.Label.{adt, of_trait, predicate}
use Rattle.type_terms.specs.Promised.Trees.{Trees, none, tree}
use Rattle.type_terms.specs.Made.{terms}
use Rattle.infer_table.specs.Canonical.{GoalTrees, CanonicalForm}
use Rattle.infer_table.specs.declared.canonical.CanonicalVarKind.{CanonicalVarKind}
use Rattle.infer_table.specs.declared.canonical.CanonicalVarKind.TheVariants.{Ty, PlaceholderTy, Const, PlaceholderConst, Region}
use Rattle.infer_table.specs.declared.certainty.Certainty.TheVariants.{Yes}
use Rattle.infer_table.specs.declared.certainty.TypingMode.{TypingMode}
use Rattle.infer_table.specs.declared.certainty.TypingMode.TheVariants.{Coherence, PostAnalysis}
use Rattle.goal_evaluator.specs.Lists.{Every, SomeOf, IsAmong}
use Rattle.goal_evaluator.specs.Table.{workings}
use Rattle.goal_evaluator.specs.Candidate.{Spec}
use Rattle.goal_evaluator.specs.Law.{NestedIsSolved, Realizes}
use Rattle.goal_evaluator.specs.Handler.{CandidateIsLawful, IsHandler}
use Rattle.goal_evaluator.proofs.ListLaws.{Every-both, Every-map, SomeOf-both, among-all, not-true}
use Rattle.goal_evaluator.proofs.LastRules.{last_rule}
use Rattle.goal_evaluator.specs.Instances.{read_with, goal_read}
use Rattle.goal_evaluator.specs.Content.{Values, fits, given, trait_of, Fact, fact_of, ChosenTerms}
use Rattle.goal_evaluator.specs.FrameTables.{kinds_known, Nested, fact, EquationIsMet}
use Rattle.goal_evaluator.specs.Widths.{width_of_predicates}
use Rattle.type_terms.proofs.Made.{false-true, right}
use Rattle.goal_evaluator.proofs.OperationLaws.{begins-free, begins-within}
use Rattle.goal_evaluator.specs.TableOperations.{begin, fresh}
use Rattle.goal_evaluator.specs.Tables.{frame_tables}
use Rattle.goal_evaluator.proofs.FrameTableLaws.{tables_are_lawful}
use Rattle.goal_frames.specs.Listings.{listed, IsListing}
use Rattle.goal_frames.specs.Rules.{TraitBound, goal_of, FrameRule, RuleBook, BoundIsOver, IsRule, AreRules, instance_of, IsBy, IsClosedFact, is_coinductive_trait, fact_is_coinductive, FollowsClosed, HasProofByBook}
use Rattle.goal_frames.specs.Handlers.{BareGoal, bare_goal, bound_behind, as_one, nested_of_bound, spec_of, specs_for, unsure, number_of_rules, same_answer, applies_always, has_placeholder, world_of_search, widest_of, listing_of, handled_by}
use Rattle.goal_frames.proofs.Listings.{listings-are-lawful}
use Rattle.goal_evaluator.proofs.Readings.{reads-agree}
use Rattle.goal_frames.proofs.Behind.{dropped, read-behind, made-behind, made-open}
use Rattle.goal_frames.proofs.Asked.{IsAsked, asked-is, kinds-are}
use Rattle.goal_evaluator.proofs.Slots.{own-slots-agree}
use Rattle.goal_frames.proofs.Sound.{term-one, fact-behind, sound, determined}
use Rattle.goal_frames.proofs.Widths.{width-behind, rule-within, premises-behind, few}
use Rattle.goal_evaluator.proofs.FirstAnswers.{begin-says-nothing}
use Rattle.goal_frames.proofs.Same.{answers-are, applies-to-yeses}
use Rattle.goal_frames.proofs.Closed.{closed-kinds}
use Rattle.goal_evaluator.proofs.Unplaced.{IsNotPlace}
use Rattle.goal_frames.proofs.Filled.{filled, filled-allowed, filled-agrees}
use Rattle.type_terms.proofs.TermBasics.{predicate-parts}
use Rattle.goal_evaluator.proofs.Basics.{unmap as from-map}

-- ---- the candidates are the rules
module _ (kind : Bool) (a : BareGoal) where
  -- what holds of the candidate of each rule of the goal's trait holds of each candidate
  each-if : (P : Spec (workings frame_tables) → Type 0) (r : FrameRule) (rules : List FrameRule) (b : Bool) → (r.head.trait == a.bound.trait) ≡ b → (r.head.trait ≡ a.bound.trait → P (spec_of kind a r))
      → Every P (specs_for kind a rules) → Every P (if b then spec_of kind a r ∷ specs_for kind a rules else specs_for kind a rules)
  each-if P r rules true e h g = (h (eqb-true r.head.trait a.bound.trait e), g)
  each-if P r rules false e h g = g

  pub each-spec : (P : Spec (workings frame_tables) → Type 0) (rules : List FrameRule) → Every (λ r. r.head.trait ≡ a.bound.trait → P (spec_of kind a r)) rules → Every P (specs_for kind a rules)
  each-spec P [] h = tt
  each-spec P (r ∷ rules) h = each-if P r rules (r.head.trait == a.bound.trait) refl h.0 (each-spec P rules h.1)

  some-if : (P : Spec (workings frame_tables) → Type 0) (r : FrameRule) (rules : List FrameRule) (b : Bool) → SomeOf P (specs_for kind a rules) → SomeOf P (if b then spec_of kind a r ∷ specs_for kind a rules else specs_for kind a rules)
  some-if P r rules true s = inr s
  some-if P r rules false s = s

  some-spec : (P : Spec (workings frame_tables) → Type 0) (rules : List FrameRule) → SomeOf (λ (r : FrameRule). (r.head.trait ≡ a.bound.trait) × P (spec_of kind a r)) rules → SomeOf P (specs_for kind a rules)
  some-spec P [] s = absurd s
  some-spec P (r ∷ rules) (inl x) =
      subst (λ b. SomeOf P (if b then spec_of kind a r ∷ specs_for kind a rules else specs_for kind a rules)) (sym (eq-eqb r.head.trait a.bound.trait x.0)) (inl x.1)
  some-spec P (r ∷ rules) (inr s) = some-if P r rules (r.head.trait == a.bound.trait) (some-spec P rules s)

same-goal-parts : (i j : ℕ) (x y : Trees) → ◌≡◌ {A = GoalTrees} (record { environment = none; predicate = tree (predicate (of_trait i)) x none }) (record { environment = none; predicate = tree (predicate (of_trait j)) y none }) → (i ≡ j) × (x ≡ y)
same-goal-parts i j x y e = predicate-parts i j x y (ap (λ (z : GoalTrees). z.predicate) e)

-- ---- a goal that is made as canonical forms are
module _ (book : RuleBook) (rules_are : AreRules book) (mode : TypingMode) (f : CanonicalForm) (a : BareGoal) (h : IsAsked f a) where
  abbrev kind : Bool
  kind = book.coinductive a.bound.trait

  abbrev n : ℕ
  n = length a.kinds

  abbrev goal : Values → Fact
  goal v = fact_of (record { form = f; coinductive = false }) v

  abbrev number : ℕ
  number = widest_of book f

  goal-within : width_of_predicates (goal_of a.bound).predicate ≤ number
  goal-within = let e = ap (λ (g : GoalTrees). width_of_predicates g.predicate) h.goal in less _ _ _ _ e
    where
      less : (w e p m : ℕ) → p ≡ w → w ≤ max (max e p) m
      less w e p m q = omega (arith, q)

  rules-within : number_of_rules book.rules ≤ number
  rules-within = less _ _
    where
      less : (x y : ℕ) → y ≤ max x y
      less x y = omega arith

  abbrev IsRuleFor : Spec (workings frame_tables) → Type 0
  IsRuleFor c = CandidateIsLawful frame_tables (listed frame_tables applies_always same_answer (listing_of book mode f a.kinds (Some a))) c

  listed-rule : (r : FrameRule) → IsRule r → IsAmong r book.rules → r.head.trait ≡ a.bound.trait → IsRuleFor (spec_of kind a r)
  listed-rule r good i same =
      let w = rule-within number book.rules rules-within r i in
      record {
        sound = λ y s l m.
            let facts = map (λ n. fact n s) (spec_of kind a r).nested in record { premises = facts; rule = sound f a h r good kind book i same s l m; each = among-all facts };
        steps = λ y T. same-kind (λ b. bound_behind n b) r.premises;
        determined = λ s t l k m p e. determined f a h r good kind s t l k m p e;
        equations_within = ((goal-within, width-behind number n r.head w.head), tt);
        nested_within = premises-behind number n kind r.premises w.premises;
      }
    where
      same-kind : (g : TraitBound → TraitBound) (bs : List TraitBound) → Every (λ (m : Nested). m.coinductive ≡ is_coinductive_trait book (trait_of f.goal.predicate)) (map (λ b. nested_of_bound kind (g b)) bs)
      same-kind g [] = tt
      same-kind g (b ∷ bs) = (sym (ap (λ (z : GoalTrees). is_coinductive_trait book (trait_of z.predicate)) h.goal), same-kind g bs)

  -- ---- solutions
  module _ (v : Values) (closed : IsClosedFact (goal v)) (r : FrameRule) (good : IsRule r) (premises : List Fact) (by : IsBy (goal v) premises r) where
    no_places : Every IsNotPlace a.kinds
    no_places = closed-kinds f a h v closed

    abbrev terms_of : ChosenTerms
    terms_of = filled a.kinds r.kinds no_places good.kinds v by.values

    parts : (a.bound.trait ≡ r.head.trait) × (read_with (given v.terms) a.bound.arguments ≡ read_with (given by.values) r.head.arguments)
    parts = same-goal-parts a.bound.trait r.head.trait (read_with (given v.terms) a.bound.arguments) (read_with (given by.values) r.head.arguments) (sym (ap (goal_read (given v.terms)) h.goal) ∙ by.concludes)

    values-read : (b : TraitBound) → BoundIsOver r.kinds b → read_with (given (dropped n terms_of.slots)) b.arguments ≡ read_with (given by.values) b.arguments
    values-read b m = reads-agree (dropped n terms_of.slots) by.values b.arguments (filled-agrees a.kinds r.kinds no_places good.kinds v by.values b.arguments m)

    fits-here : fits (map Some a.kinds) v.terms ≡ true
    fits-here = ap (λ z. fits z v.terms) (sym h.kinds) ∙ right v.proper _ closed.proper

    meets : EquationIsMet (record { left = as_one a.bound; right = as_one (bound_behind n r.head) }) terms_of
    meets =
        ap (read_with (given terms_of.slots)) (term-one a.bound (made-open a.kinds terms a.bound.arguments h.over))
        ∙ ap (λ z. tree (adt a.bound.trait) z none)
        (sym (reads-agree v.terms terms_of.slots a.bound.arguments
        (own-slots-agree (fresh (begin a.kinds) r.kinds) terms_of (filled-allowed a.kinds r.kinds no_places good.kinds v by.values).allowed fits-here a.bound.arguments h.over))
        ∙ parts.1 ∙ sym (values-read r.head good.head) ∙ sym (read-behind n terms_of.slots r.head.arguments))
        ∙ ap (λ z. tree (adt z) (read_with (given terms_of.slots) (bound_behind n r.head).arguments) none) parts.0
        ∙ ap (read_with (given terms_of.slots)) (sym (term-one (bound_behind n r.head) (made-behind r.kinds n terms r.head.arguments good.head)))

    proper-is : terms_of.proper ≡ (goal v).proper
    proper-is = ap (λ z. v.proper && fits z v.terms) (sym h.kinds)

    same-instance : (p q : Bool) (b : TraitBound) (x y : Trees) → p ≡ q → x ≡ y
        → ◌≡◌ {A = Fact} (record { trait = Some b.trait; goal = record { environment = none; predicate = tree (predicate (of_trait b.trait)) x none }; proper = p }) (record { trait = Some b.trait; goal = record { environment = none; predicate = tree (predicate (of_trait b.trait)) y none }; proper = q })
    same-instance p q b x y e g = cc

    premise-is : (b : TraitBound) → BoundIsOver r.kinds b → fact (nested_of_bound kind (bound_behind n b)) terms_of ≡ instance_of (goal v).proper by.values b
    premise-is b m = fact-behind kind n terms_of b ∙ same-instance terms_of.proper (goal v).proper b _ _ proper-is (values-read b m)

    realizes : Every (HasProofByBook book) premises → Realizes frame_tables (HasProofByBook book) (begin a.kinds) v (spec_of kind a r)
    realizes ps = record {
      assignment = terms_of;
      allowed = filled-allowed a.kinds r.kinds no_places good.kinds v by.values;
      own = refl;
      meets = (meets, tt);
      solves =
          Every-map (NestedIsSolved frame_tables (HasProofByBook book) (fresh (begin a.kinds) r.kinds) terms_of) (λ b. nested_of_bound kind (bound_behind n b)) r.premises
          (Every-both (λ b. HasProofByBook book (instance_of (goal v).proper by.values b)) (BoundIsOver r.kinds) (λ b. Unit {0} × HasProofByBook book (fact (nested_of_bound kind (bound_behind n b)) terms_of))
          (λ b p m. (tt, subst (HasProofByBook book) (sym (premise-is b m)) p)) r.premises
          (from-map (HasProofByBook book) (instance_of (goal v).proper by.values) r.premises (subst (Every (HasProofByBook book)) (sym by.needs) ps)) good.premises);
    }

  cover-asked : (v : Values) → HasProofByBook book (goal v) → SomeOf (Realizes frame_tables (HasProofByBook book) (begin a.kinds) v) (specs_for kind a book.rules)
  cover-asked v p =
      let last = last_rule Fact (FollowsClosed book) (fact_is_coinductive book) (goal v) p in
      some-spec kind a (Realizes frame_tables (HasProofByBook book) (begin a.kinds) v) book.rules
      (SomeOf-both IsRule (IsBy (goal v) last.0) (λ (r : FrameRule). (r.head.trait ≡ a.bound.trait) × Realizes frame_tables (HasProofByBook book) (begin a.kinds) v (spec_of kind a r))
      (λ r good by. (sym (parts v last.1.0 r good last.0 by).0, realizes v last.1.0 r good last.0 by last.2)) book.rules rules_are last.1.1)

  asked-listing : IsListing frame_tables applies_always same_answer (listing_of book mode f a.kinds (Some a))
  asked-listing = record {
    begins = λ v. begins-free a.kinds v;
    says_nothing = λ c. begin-says-nothing a.kinds c;
    begins_within = begins-within _ a.kinds;
    each =
        each-spec kind a IsRuleFor book.rules
        (Every-both IsRule (λ r. IsAmong r book.rules) (λ r. r.head.trait ≡ a.bound.trait → IsRuleFor (spec_of kind a r))
        (λ r good i e. listed-rule r good i e) book.rules rules_are (among-all book.rules));
    asks = (let p = few kind a book.rules in let q = rules-within in less _ _ _ p q);
    cover = λ w v p. cover-asked v p;
  }
    where
      less : (x y z : ℕ) → x ≤ y → y ≤ z → x ≤ z
      less x y z p q = omega (arith, p, q)

-- ---- another goal
no-placeholder : (ks : List CanonicalVarKind) → has_placeholder ks ≡ false → Every IsNotPlace ks
no-placeholder [] e = tt
no-placeholder (Ty ∷ ks) e = (tt, no-placeholder ks e)
no-placeholder (Const ∷ ks) e = (tt, no-placeholder ks e)
no-placeholder (Region ∷ ks) e = (tt, no-placeholder ks e)
no-placeholder (PlaceholderTy ∷ ks) e = absurd (false-true (sym e))
no-placeholder (PlaceholderConst ∷ ks) e = absurd (false-true (sym e))

searched-kinds : (mode : TypingMode) (f : CanonicalForm) → bare_goal f ≡ None → world_of_search mode f → Every IsNotPlace (kinds_known f.kinds)
searched-kinds Coherence f e w = no-placeholder (kinds_known f.kinds) (not-true (has_placeholder (kinds_known f.kinds)) (ap (λ o. is_some o || not (has_placeholder (kinds_known f.kinds))) (sym e) ∙ w))
searched-kinds PostAnalysis f e w = absurd w

unsure-listing : (book : RuleBook) (mode : TypingMode) (f : CanonicalForm) → bare_goal f ≡ None → IsListing frame_tables applies_always same_answer (listing_of book mode f (kinds_known f.kinds) None)
unsure-listing book mode f e = record {
  begins = λ v. begins-free (kinds_known f.kinds) v;
  says_nothing = λ c. begin-says-nothing (kinds_known f.kinds) c;
  begins_within = begins-within _ (kinds_known f.kinds);
  each = (record { sound = λ y s l m. absurd (not-yes y); steps = λ y T. tt; determined = λ s r l k m n e. tt; equations_within = tt; nested_within = tt }, tt);
  asks = less _;
  cover = λ w v p. inl (realizes v (searched-kinds mode f e w));
}
  where
    not-yes : unsure.certainty ≡ Yes → ⊥
    not-yes e = cc

    less : (x : ℕ) → 0 ≤ x
    less x = omega arith

    realizes : (v : Values) → Every IsNotPlace (kinds_known f.kinds) → Realizes frame_tables (HasProofByBook book) (begin (kinds_known f.kinds)) v unsure
    realizes v n = record {
      assignment = filled (kinds_known f.kinds) [] n tt v [];
      allowed = filled-allowed (kinds_known f.kinds) [] n tt v [];
      own = refl;
      meets = tt;
      solves = tt;
    }

listing-at : (book : RuleBook) → AreRules book → (mode : TypingMode) (f : CanonicalForm) (o : Option BareGoal) → bare_goal f ≡ o → IsListing frame_tables applies_always same_answer (listing_of book mode f (kinds_known f.kinds) o)
listing-at book rules_are mode f None e = unsure-listing book mode f e
listing-at book rules_are mode f (Some a) e =
    let h = asked-is f a e in subst (λ ks. IsListing frame_tables applies_always same_answer (listing_of book mode f ks (Some a))) (sym (kinds-are f a h)) (asked-listing book rules_are mode f a h)

pub handlers-are-lawful : (book : RuleBook) → AreRules book → (mode : TypingMode) (f : CanonicalForm) → IsHandler frame_tables (handled_by book mode f)
handlers-are-lawful book rules_are mode f =
    listings-are-lawful frame_tables applies_always same_answer tables_are_lawful applies-to-yeses answers-are (listing_of book mode f (kinds_known f.kinds) (bare_goal f)) (listing-at book rules_are mode f (bare_goal f) refl)

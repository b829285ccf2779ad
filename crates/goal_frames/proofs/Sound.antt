-- A rule as a candidate: if its equation holds it is the rule, and the goal's variables determine its own.
use Rattle.std.proofs.Common.{◌≡◌, ℕ, Bool, true, false, ◌&&◌, List, [], ◌∷◌, map, length, refl, sym, ◌∙◌, ap, Some, if◌then◌else◌}
use Rattle.type_terms.specs.Promised.Label.{adt, never, of_trait, predicate}
use Rattle.type_terms.specs.Promised.Trees.{Trees, none, tree, leaf}
use Rattle.type_terms.specs.Made.{terms, is_made}
use Rattle.infer_table.specs.Canonical.{CanonicalForm}
use Rattle.goal_evaluator.specs.Lists.{Every, IsAmong}
use Rattle.goal_evaluator.proofs.ListLaws.{Every-mono, Every-map, SomeOf-at}
use Rattle.goal_evaluator.specs.Instances.{read_with, goal_read}
use Rattle.goal_evaluator.specs.Content.{Values, fits, given, fact_of, ChosenTerms}
use Rattle.goal_evaluator.specs.FrameTables.{FrameTable, Allows, Nested, fact, is_open_label, term_of, EquationIsMet}
use Rattle.type_terms.proofs.Made.{right}
use Rattle.goal_evaluator.specs.TableOperations.{begin, fresh}
use Rattle.goal_frames.specs.Rules.{TraitBound, FrameRule, RuleBook, IsDeterminedBy, IsRule, instance_of, IsBy, FollowsByRule}
use Rattle.goal_evaluator.specs.Variables.{is_variable_over}
use Rattle.goal_frames.specs.Handlers.{BareGoal, bound_behind, as_one, nested_of_bound, spec_of}
use Rattle.goal_evaluator.proofs.Readings.{AgreeIn, made-leaves, reads-agree, reads-determine}
use Rattle.goal_frames.proofs.Behind.{dropped, read-behind, bound-behind, made-behind, made-open}
use Rattle.goal_frames.proofs.Asked.{IsAsked}
use Rattle.goal_evaluator.proofs.Slots.{own-slots-agree, slots-agree}
use Rattle.type_terms.proofs.ListBasics.{cons}
use Rattle.goal_evaluator.proofs.TypeBasics.{same-fact}

-- all arguments are one term
pub term-one : (b : TraitBound) → is_made is_open_label terms b.arguments ≡ true → term_of (as_one b) ≡ tree (adt b.trait) b.arguments none
term-one b h = ap (λ z. if z && true then tree (adt b.trait) b.arguments none else leaf never) h

one-parts : (i j : ℕ) (x y : Trees) → tree (adt i) x none ≡ tree (adt j) y none → x ≡ y
one-parts i j x y e = cc

pub fact-behind : (kind : Bool) (n : ℕ) (s : ChosenTerms) (b : TraitBound) → fact (nested_of_bound kind (bound_behind n b)) s ≡ instance_of s.proper (dropped n s.slots) b
fact-behind kind n s b = same-fact (Some b.trait) _ _ s.proper s.proper (bound-behind n s.slots b) refl

pub facts-behind : (kind : Bool) (n : ℕ) (s : ChosenTerms) (p : Bool) → s.proper ≡ p → (bs : List TraitBound)
    → map (instance_of p (dropped n s.slots)) bs ≡ map (λ (m : Nested). fact m s) (map (λ b. nested_of_bound kind (bound_behind n b)) bs)
facts-behind kind n s p e [] = refl
facts-behind kind n s p e (b ∷ bs) =
    cons _ _ _ _ (ap (λ z. instance_of z (dropped n s.slots) b) (sym e) ∙ sym (fact-behind kind n s b)) (facts-behind kind n s p e bs)

module _ (f : CanonicalForm) (a : BareGoal) (h : IsAsked f a) (r : FrameRule) (good : IsRule r) (kind : Bool) where
  abbrev table : FrameTable
  table = fresh (begin a.kinds) r.kinds

  abbrev values : ChosenTerms → List Trees
  values s = dropped (length a.kinds) s.slots

  -- the goal's arguments are the head's
  pub heads : (s : ChosenTerms) → Every (λ e. EquationIsMet e s) (spec_of kind a r).equations → read_with (given s.slots) a.bound.arguments ≡ read_with (given (values s)) r.head.arguments
  heads s m =
      one-parts a.bound.trait r.head.trait (read_with (given s.slots) a.bound.arguments) (read_with (given s.slots) (bound_behind (length a.kinds) r.head).arguments)
      (ap (read_with (given s.slots)) (sym (term-one a.bound (made-open a.kinds terms a.bound.arguments h.over))) ∙ m.0
      ∙ ap (read_with (given s.slots)) (term-one (bound_behind (length a.kinds) r.head) (made-behind r.kinds (length a.kinds) terms r.head.arguments good.head)))
      ∙ read-behind (length a.kinds) s.slots r.head.arguments

  proper-is : (s : ChosenTerms) → Allows table s → s.proper ≡ (s.own.proper && fits f.kinds s.own.terms)
  proper-is s l = l.proper ∙ ap (λ z. s.own.proper && fits z s.own.terms) (sym h.kinds)

  pub sound : (book : RuleBook) → IsAmong r book.rules → r.head.trait ≡ a.bound.trait → (s : ChosenTerms) → Allows table s → Every (λ e. EquationIsMet e s) (spec_of kind a r).equations
      → FollowsByRule book (fact_of (record { form = f; coinductive = false }) s.own) (map (λ (m : Nested). fact m s) (spec_of kind a r).nested)
  sound book i same s l m proper =
      SomeOf-at (IsBy (fact_of (record { form = f; coinductive = false }) s.own) (map (λ (m : Nested). fact m s) (spec_of kind a r).nested)) r book.rules i
      (record {
        values = values s;
        concludes =
            ap (goal_read (given s.own.terms)) h.goal
            ∙ ap (λ z. record { environment = none; predicate = tree (predicate (of_trait a.bound.trait)) z none })
            (reads-agree s.own.terms s.slots a.bound.arguments (own-slots-agree table s l (ap (λ z. fits z s.own.terms) (sym h.kinds) ∙ right s.own.proper _ proper) a.bound.arguments h.over) ∙ heads s m)
            ∙ ap (λ z. record { environment = none; predicate = tree (predicate (of_trait z)) (read_with (given (values s)) r.head.arguments) none }) (sym same);
        needs = facts-behind kind (length a.kinds) s (s.own.proper && fits f.kinds s.own.terms) (proper-is s l) r.premises;
      })

  -- a rule's variables stand in its head
  values-agree : (s t : ChosenTerms) → Allows table s → Allows table t → Every (λ e. EquationIsMet e s) (spec_of kind a r).equations → Every (λ e. EquationIsMet e t) (spec_of kind a r).equations → s.own ≡ t.own
      → AgreeIn (values s) (values t) r.head.arguments
  values-agree s t l k m n e =
      reads-determine (values s) (values t) r.head.arguments (made-leaves (is_variable_over r.kinds) terms r.head.arguments good.head)
      (sym (heads s m) ∙ reads-agree s.slots t.slots a.bound.arguments (slots-agree table s t l k e a.bound.arguments h.over) ∙ heads t n)

  same-proper : (s t : ChosenTerms) → Allows table s → Allows table t → s.own ≡ t.own → s.proper ≡ t.proper
  same-proper s t l k e = l.proper ∙ ap (λ (v : Values). v.proper && fits (map Some a.kinds) v.terms) e ∙ sym k.proper

  pub determined : (s t : ChosenTerms) → Allows table s → Allows table t → Every (λ e. EquationIsMet e s) (spec_of kind a r).equations → Every (λ e. EquationIsMet e t) (spec_of kind a r).equations → s.own ≡ t.own
      → Every (λ (m : Nested). fact m s ≡ fact m t) (spec_of kind a r).nested
  determined s t l k m n e =
      Every-map (λ (m : Nested). fact m s ≡ fact m t) (λ b. nested_of_bound kind (bound_behind (length a.kinds) b)) r.premises
      (Every-mono (IsDeterminedBy r.head) (λ b. fact (nested_of_bound kind (bound_behind (length a.kinds) b)) s ≡ fact (nested_of_bound kind (bound_behind (length a.kinds) b)) t) one r.premises good.determined)
    where
      one : (b : TraitBound) → IsDeterminedBy r.head b → fact (nested_of_bound kind (bound_behind (length a.kinds) b)) s ≡ fact (nested_of_bound kind (bound_behind (length a.kinds) b)) t
      one b d =
          fact-behind kind (length a.kinds) s b
          ∙ same-fact (Some b.trait) _ _ s.proper t.proper
          (ap (λ z. record { environment = none; predicate = tree (predicate (of_trait b.trait)) z none })
          (reads-agree (values s) (values t) b.arguments (λ j i v st. values-agree s t l k m n e j i v (d j i st))))
          (same-proper s t l k e)
          ∙ sym (fact-behind kind (length a.kinds) t b)

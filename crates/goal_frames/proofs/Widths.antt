-- The candidates of a goal are no wider than the goal and the rules, and have no more premises than all rules together.
use Rattle.std.proofs.Common.{ℕ, suc, ◌+◌, ◌≤◌, arith, Bool, true, false, List, [], ◌∷◌, map, length, inl, inr, sym, subst, if◌then◌else◌}
use Rattle.std.specs.Prelude.{◌==◌}
use Rattle.type_terms.specs.Promised.Label.{Label, canonical}
use Rattle.goal_evaluator.specs.Lists.{Every, IsAmong}
use Rattle.goal_evaluator.proofs.ListLaws.{Every-mono, Every-map}
use Rattle.goal_evaluator.specs.Widths.{NestedWithin}
use Rattle.goal_evaluator.proofs.Widths.{IsOneIf, leaf-one, predicates-put, predicates-within, width-of-predicates}
use Rattle.goal_evaluator.specs.Tables.{frame_tables}
use Rattle.goal_evaluator.specs.Plans.{nested_in}
use Rattle.goal_frames.specs.Rules.{TraitBound, goal_of, FrameRule}
use Rattle.goal_frames.specs.Handlers.{BareGoal, moved, bound_behind, nested_of_bound, spec_of, specs_for, width_of_bound, number_of_premises, number_of_rules}
use Rattle.type_terms.proofs.ListBasics.{map-length as length-map}

moved-one : (m n : ℕ) (l : Label) → IsOneIf m (moved n l)
moved-one m n (canonical k i) = leaf-one m (canonical k (n + i))
moved-one m n l = tt

pub width-behind : (m n : ℕ) (b : TraitBound) → width_of_bound b ≤ m → width_of_bound (bound_behind n b) ≤ m
width-behind m n b h =
    width-of-predicates m (goal_of (bound_behind n b)).predicate (predicates-put m (moved n) (moved-one m n) (goal_of b).predicate (predicates-within m (goal_of b).predicate h))

premises-within : (bs : List TraitBound) → Every (λ b. width_of_bound b ≤ number_of_premises bs) bs
premises-within [] = tt
premises-within (b ∷ bs) = (first (width_of_bound b) (number_of_premises bs), Every-mono (λ c. width_of_bound c ≤ number_of_premises bs) (λ c. width_of_bound c ≤ number_of_premises (b ∷ bs)) (λ c h. more (width_of_bound c) (number_of_premises bs) (width_of_bound b) h) bs (premises-within bs))
  where
    first : (a n : ℕ) → a ≤ suc (a + n)
    first a n = omega arith

    more : (c n a : ℕ) → c ≤ n → c ≤ suc (a + n)
    more c n a h = omega (arith, h)

few-premises : (bs : List TraitBound) → length bs ≤ number_of_premises bs
few-premises [] = omega arith
few-premises (b ∷ bs) = let h = few-premises bs in omega (arith, h)

pub record RuleWithin (m : ℕ) (r : FrameRule) : Type 0 where
  pub head : width_of_bound r.head ≤ m
  pub premises : Every (λ b. width_of_bound b ≤ m) r.premises

pub rule-within : (m : ℕ) (rules : List FrameRule) → number_of_rules rules ≤ m → (r : FrameRule) → IsAmong r rules → RuleWithin m r
rule-within m [] h r i = absurd i
rule-within m (q ∷ rules) h r (inl e) =
    subst (RuleWithin m) (sym e)
    (record {
      head = omega (arith, h);
      premises = Every-mono (λ b. width_of_bound b ≤ number_of_premises q.premises) (λ b. width_of_bound b ≤ m) (λ b w. more (width_of_bound b) (number_of_premises q.premises) (width_of_bound q.head) (number_of_rules rules) w h) q.premises (premises-within q.premises);
    })
  where
    more : (b n a c : ℕ) → b ≤ n → a + n + c ≤ m → b ≤ m
    more b n a c w h = omega (arith, w, h)
rule-within m (q ∷ rules) h r (inr i) = rule-within m rules (omega (arith, h)) r i

pub premises-behind : (m n : ℕ) (kind : Bool) (bs : List TraitBound) → Every (λ b. width_of_bound b ≤ m) bs → Every (NestedWithin m) (map (λ b. nested_of_bound kind (bound_behind n b)) bs)
premises-behind m n kind bs h =
    Every-map (NestedWithin m) (λ b. nested_of_bound kind (bound_behind n b)) bs (Every-mono (λ b. width_of_bound b ≤ m) (λ b. NestedWithin m (nested_of_bound kind (bound_behind n b))) (λ b w. (zero-less m, width-behind m n b w)) bs h)
  where
    zero-less : (m : ℕ) → 0 ≤ m
    zero-less m = omega arith

specs-few : (b kind : Bool) (a : BareGoal) (r : FrameRule) (rules : List FrameRule) → nested_in frame_tables (specs_for kind a rules) ≤ number_of_rules rules
    → nested_in frame_tables (if b then spec_of kind a r ∷ specs_for kind a rules else specs_for kind a rules) ≤ number_of_rules (r ∷ rules)
specs-few true kind a r rules h = let e = length-map (λ b. nested_of_bound kind (bound_behind (length a.kinds) b)) r.premises in let p = few-premises r.premises in omega (arith, e, p, h)
specs-few false kind a r rules h = omega (arith, h)

pub few : (kind : Bool) (a : BareGoal) (rules : List FrameRule) → nested_in frame_tables (specs_for kind a rules) ≤ number_of_rules rules
few kind a [] = omega arith
few kind a (r ∷ rules) = specs-few (r.head.trait == a.bound.trait) kind a r rules (few kind a rules)

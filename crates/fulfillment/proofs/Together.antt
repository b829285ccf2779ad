-- Selections keep the solutions at which all goals have proofs.
use Rattle.std.specs.Prelude.{option_map, Contains}
use Rattle.std.proofs.Common.{◌≡◌, ◌≤◌, ◌<◌, ◌+◌, ◌∙◌, ℕ, arith, refl, Bool, true, false, if◌then◌else◌, List, [], ◌∷◌, Option, Some, None, subst}
use Rattle.type_terms.specs.Promised.Label.{Sort, of_type, of_const, of_lifetime}
use Rattle.type_terms.specs.Promised.Trees.{Trees}
use Rattle.infer_table.specs.Applied.{trees_of, solved_in_turn, with_constraints, applied}
use Rattle.infer_table.specs.Applying.{unknowns_of, table_after, table_for, known_value, applied_values, applied_table}
use Rattle.infer_table.specs.Canonical.{GoalTrees}
use Rattle.infer_table.specs.Covers.{Continues}
use Rattle.infer_table.specs.Responses.{AnswerTrees}
use Rattle.infer_table.specs.Solutions.{Assignment, Solves}
use Rattle.infer_table.specs.Unification.{TableTrees, Extends, with_binding, with_equal, with_regions}
use Rattle.infer_table.specs.Values.{Value, filled_values}
use Rattle.infer_table.specs.declared.canonical.CanonicalVarKind.{CanonicalVarKind}
use Rattle.infer_table.specs.declared.certainty.TypingMode.{TypingMode}
use Rattle.infer_table.proofs.Covers.{grown}
use Rattle.infer_table.proofs.ExtendFacts.{with-binding-adds, with-regions-adds, with-equal-adds}
use Rattle.infer_table.proofs.Kept.{Keeps, turns-keep}
use Rattle.infer_table.proofs.TypeBasics.{some-one}
use Rattle.goal_evaluator.specs.TableAnswers.{is_fitting_answer, put_into}
use Rattle.goal_frames.specs.Meanings.{HandlerMeaning}
use Rattle.fulfillment.specs.Leaving.{GoalsLeave, itself, further, IsRefusedAmong, AreProvedTogether}

-- ---- an answer leaves no fewer variables
abbrev HasNoFewer : TableTrees → TableTrees → Type 0
HasNoFewer t u = (k : Sort) → unknowns_of t k ≤ unknowns_of u k

none-fewer : (t : TableTrees) → HasNoFewer t t
none-fewer t k = omega arith

fewer-further : (t u v : TableTrees) → HasNoFewer t u → HasNoFewer u v → HasNoFewer t v
fewer-further t u v a b k = let x = a k in let y = b k in omega (arith, x, y)

by-extending : (t u : TableTrees) → Extends t u → HasNoFewer t u
by-extending t u e of_type = e.ty_vars
by-extending t u e of_const = e.const_vars
by-extending t u e of_lifetime = e.region_vars

by-solving : (t : TableTrees) → Keeps (λ x. Unit {0}) (HasNoFewer t)
by-solving t = record {
  first = λ l c o h. tt;
  others = λ l c o h. tt;
  parts = λ n x h. tt;
  values = λ u x h g. tt;
  bindings = λ u k v x h g. fewer-further t u (with_binding u k v x) h (by-extending u (with_binding u k v x) (with-binding-adds u k v x));
  regions = λ u n h. fewer-further t u (with_regions u n) h (by-extending u (with_regions u n) (with-regions-adds u n));
  equal = λ u a b h. fewer-further t u (with_equal u a b) h (by-extending u (with_equal u a b) (with-equal-adds u a b));
}

for-answer : (known : ℕ → Option Value) (t : TableTrees) (i : ℕ) (ks : List CanonicalVarKind) → HasNoFewer t (table_for known t i ks)
for-answer known t i [] = none-fewer t
for-answer known t i (k ∷ ks) = fewer-further t (table_after (known i) t k) (table_for known t i (k ∷ ks)) (grown (known i) t k) (for-answer known (table_after (known i) t k) (i + 1) ks)

constrained : (c : Trees) (t u : TableTrees) → HasNoFewer t u → HasNoFewer t (with_constraints c u)
constrained c t u h of_type = h of_type
constrained c t u h of_const = h of_const
constrained c t u h of_lifetime = h of_lifetime

put-more : (t u : TableTrees) (vs : List Value) (a : AnswerTrees) → put_into t vs a ≡ Some u → HasNoFewer t u
put-more t u vs a e = by (is_fitting_answer vs a) e
  where
    solved : (r : Option TableTrees) → solved_in_turn (applied_table t vs a) (trees_of vs) (filled_values (applied_values t vs a) (trees_of a.values)) ≡ r
        → option_map (with_constraints (filled_values (applied_values t vs a) a.constraints)) r ≡ Some u → HasNoFewer t u
    solved None i f = absurd cc
    solved (Some v) i f =
        subst (HasNoFewer t) (some-one (with_constraints (filled_values (applied_values t vs a) a.constraints) v) u f)
        (constrained (filled_values (applied_values t vs a) a.constraints) t v
        (turns-keep (λ x. Unit {0}) (HasNoFewer t) (by-solving t) (applied_table t vs a) v (trees_of vs) (filled_values (applied_values t vs a) (trees_of a.values)) (for-answer (known_value a vs) t 0 a.kinds) tt tt i))

    by : (b : Bool) → (if b then applied t vs a else Some t) ≡ Some u → HasNoFewer t u
    by true f = solved (solved_in_turn (applied_table t vs a) (trees_of vs) (filled_values (applied_values t vs a) (trees_of a.values))) refl f
    by false f = subst (HasNoFewer t) (some-one t u f) (none-fewer t)

module _ {Handler : Type 0} (handler : HandlerMeaning Handler) (mode : TypingMode) (w : handler.goals.World) (gs : List GoalTrees) where
  leave-more : (t u : TableTrees) → GoalsLeave handler mode w gs t u → HasNoFewer t u
  leave-more t u itself = none-fewer t
  leave-more t v (further {u = u} a g i l) = fewer-further t u v (leave-more t u a) (put-more u v _ l.answer l.left)

  below : (t u : TableTrees) → HasNoFewer t u → (k : Sort) (n : ℕ) → n < unknowns_of t k → n < unknowns_of u k
  below t u more k n h = let m = more k in omega (arith, m, h)

  -- no solution is lost at which all goals have proofs
  pub kept-together : (t u : TableTrees) (s : Assignment) → Solves s t.bindings → AreProvedTogether handler mode w gs t s → GoalsLeave handler mode w gs t u
      → (r : Assignment) × Continues (unknowns_of t) s r × Solves r u.bindings
  kept-together t u s solves all itself = (s, (λ k n h. refl), solves)
  kept-together t v s solves all (further {u = u} a g i l) =
      let x = kept-together t u s solves all a in
      let here = all u a x.0 x.1 x.2 g i in
      let y = l.keeps here.posed here.world x.0 x.2 here.proof in
      (y.0, (λ k n h. y.1 k n (below t u (leave-more t u a) k n h) ∙ x.1 k n h), y.2)

  -- and if one of the goals is refused, there is none
  pub none-together : (depth : ℕ) (t : TableTrees) (g : GoalTrees) → Contains gs g → IsRefusedAmong handler mode w depth gs t g → (s : Assignment) → Solves s t.bindings → AreProvedTogether handler mode w gs t s → ⊥
  none-together depth t g i r s solves all =
      let x = kept-together t r.table s solves all r.left in
      let here = all r.table r.left x.0 x.1 x.2 g i in
      r.refused.no_proof here.posed here.world x.0 x.2 here.proof

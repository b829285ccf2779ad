-- Where the equations of a candidate hold it is a rule of the view: what all kinds of candidates share, and where-clauses.
use Rattle.std.proofs.Common.{◌≡◌, Bool, true, false, not, ◌&&◌, List, [], ◌∷◌, map, inl, inr, refl, sym, ◌∙◌, ap, subst, Option, Some, None}
use Rattle.type_terms.specs.Promised.Label.{of_trait, predicate}
use Rattle.type_terms.specs.Promised.Trees.{Trees, none, tree, some_node}
use Rattle.type_terms.specs.Promised.Worlds.{World, Reference}
use Rattle.type_terms.specs.Promised.Answers.{is_open}
use Rattle.type_terms.specs.Promised.Rules.{Way, rules}
use Rattle.type_terms.specs.Promised.Proofs.{In}
use Rattle.type_terms.specs.Made.{terms}
use Rattle.type_terms.specs.Made.{is_made}
use Rattle.infer_table.specs.Canonical.{CanonicalForm, GoalTrees}
use Rattle.infer_table.specs.declared.canonical.CanonicalVarKind.{CanonicalVarKind}
use Rattle.goal_evaluator.specs.Lists.{Every, IsAmong}
use Rattle.goal_evaluator.proofs.ListLaws.{Every-mono}
use Rattle.goal_evaluator.specs.Instances.{read_with}
use Rattle.goal_evaluator.specs.Content.{fits, given, ChosenTerms, trait_of}
use Rattle.goal_evaluator.specs.FrameTables.{FrameTable, Allows, Nested, fact}
use Rattle.type_terms.proofs.Made.{false-true}
use Rattle.type_terms.proofs.Walking.{left, right}
use Rattle.goal_evaluator.specs.TableOperations.{begin}
use Rattle.goal_evaluator.specs.TableOperations.{fresh}
use Rattle.candidate_model.specs.Facts.{FactFollows, is_plain, is_unerased, clauses_of, beside}
use Rattle.candidate_model.specs.Asking.{GoalOverKinds, all_known, with_first, are_clauses}
use Rattle.goal_evaluator.specs.Variables.{is_variable_over}
use Rattle.candidate_model.specs.Candidates.{premise}
use Rattle.candidate_model.specs.Cover.{goal_fact, read_reference}
use Rattle.candidate_model.proofs.Cover.{IsAsked}
use Rattle.goal_evaluator.proofs.Readings.{AgreeIn, reads-agree}
use Rattle.goal_evaluator.proofs.Slots.{own-slots-agree}
use Rattle.goal_evaluator.proofs.TypeBasics.{same-fact}

-- kinds that are all known
pub kinds-whole : (os : List (Option CanonicalVarKind)) (ks : List CanonicalVarKind) → all_known os ≡ Some ks → map Some ks ≡ os
kinds-whole [] ks e = ap (map Some) (sym (some-is e))
  where
    some-is : {xs ys : List CanonicalVarKind} → Some xs ≡ Some ys → xs ≡ ys
    some-is f = cc
kinds-whole (None ∷ os) ks e = absurd (cc)
kinds-whole (Some k ∷ os) ks e = by (all_known os) refl e (λ js f. kinds-whole os js f)
  where
    by : (o : Option (List CanonicalVarKind)) → all_known os ≡ o → with_first (Some k) o ≡ Some ks → ((js : List CanonicalVarKind) → all_known os ≡ Some js → map Some js ≡ os) → map Some ks ≡ Some k ∷ os
    by None g f go = absurd (cc)
    by (Some js) g f go = ap (map Some) (sym (some-is f)) ∙ ap (λ z. Some k ∷ z) (go js g)
      where
        some-is : {xs ys : List CanonicalVarKind} → Some xs ≡ Some ys → xs ≡ ys
        some-is f = cc

module _ (V : World) (f : CanonicalForm) (a : GoalOverKinds) (is : IsAsked V f.goal.environment f.goal.predicate (all_known f.kinds) a) (are : are_clauses a.kinds a.environment ≡ true) (own : List CanonicalVarKind) where
  abbrev table : FrameTable
  table = fresh (begin a.kinds) own

  module _ (s : ChosenTerms) (l : Allows table s) (proper : (s.own.proper && fits f.kinds s.own.terms) ≡ true) where
    abbrev read : Trees → Trees
    read t = read_with (given s.slots) t

    abbrev rx : Reference
    rx = read_reference s.slots a.reference

    kinds-are : map Some a.kinds ≡ f.kinds
    kinds-are = kinds-whole f.kinds a.kinds is.kinds_are

    fitting : fits (map Some a.kinds) s.own.terms ≡ true
    fitting = ap (λ z. fits z s.own.terms) kinds-are ∙ right s.own.proper (fits f.kinds s.own.terms) proper

    own-clauses : (E : Trees) → are_clauses a.kinds E ≡ true → AgreeIn s.own.terms s.slots E
    own-clauses none h sort i v st = absurd st
    own-clauses (tree m c o) h sort i v (inl q) = absurd (false-true (subst (λ z. not (is_open z) ≡ true) q (left (not (is_open m)) _ h)))
    own-clauses (tree m c o) h sort i v (inr (inl st)) = own-slots-agree table s l fitting c (left (is_made (is_variable_over a.kinds) terms c) (are_clauses a.kinds o) (right (not (is_open m)) _ h)) sort i v st
    own-clauses (tree m c o) h sort i v (inr (inr st)) = own-clauses o (right (is_made (is_variable_over a.kinds) terms c) (are_clauses a.kinds o) (right (not (is_open m)) _ h)) sort i v st

    -- the goal's instance is the fact of the goal as a premise of its own
    pub goal-is : (kind : Bool) → goal_fact f s.own ≡ fact (premise a kind a.reference) s
    goal-is kind =
        ap (λ p. record { trait = trait_of p; goal = record { environment = read_with (given s.own.terms) f.goal.environment; predicate = read_with (given s.own.terms) p }; proper = s.own.proper && fits f.kinds s.own.terms }) is.predicate_is
        ∙ same-fact (Some a.reference.trait) _ _ (s.own.proper && fits f.kinds s.own.terms) s.proper
        (goals (ap (read_with (given s.own.terms)) is.environment_is ∙ reads-agree s.own.terms s.slots a.environment (own-clauses a.environment are))
        (ap (λ z. tree (predicate (of_trait a.reference.trait)) z none) (reads-agree s.own.terms s.slots a.reference.args (own-slots-agree table s l fitting a.reference.args is.over))))
        (ap (λ z. s.own.proper && fits z s.own.terms) (sym kinds-are) ∙ sym l.proper)
      where
        goals : {x y z w : Trees} → x ≡ y → z ≡ w → ◌≡◌ {A = GoalTrees} (record { environment = x; predicate = z }) (record { environment = y; predicate = w })
        goals p q = cc

    abbrev pub PlainReference : Reference → Type 0
    PlainReference r = some_node is_unerased (read r.args) ≡ false

    each-among : (kind : Bool) (ps : List Reference) → Every (λ r. IsAmong (beside (fact (premise a kind a.reference) s) r) (map (λ (n : Nested). fact n s) (map (premise a kind) ps))) (map (read_reference s.slots) ps)
    each-among kind [] = tt
    each-among kind (p ∷ ps) = (
      inl refl,
      Every-mono (λ r. IsAmong (beside (fact (premise a kind a.reference) s) r) (map (λ (n : Nested). fact n s) (map (premise a kind) ps)))
          (λ r. IsAmong (beside (fact (premise a kind a.reference) s) r) (map (λ (n : Nested). fact n s) (map (premise a kind) (p ∷ ps)))) (λ r i. inr i) (map (read_reference s.slots) ps) (each-among kind ps),
    )

    each-plain : (kind : Bool) (ps : List Reference) → Every PlainReference ps → Every (λ p. is_plain p ≡ true) (map (λ (n : Nested). fact n s) (map (premise a kind) ps))
    each-plain kind [] e = tt
    each-plain kind (p ∷ ps) e = (rw e.0 refl, each-plain kind ps e.1)

    -- the instance follows by a rule whose premises are the instances of these
    pub follows-by : (kind : Bool) (way : Way) (ps : List Reference) → In (record { way = way; premises = map (read_reference s.slots) ps }) (rules V (clauses_of (read a.environment)) rx) → Every PlainReference ps
        → FactFollows V (goal_fact f s.own) (map (λ (n : Nested). fact n s) (map (premise a kind) ps))
    follows-by kind way ps i e =
        subst (λ g. FactFollows V g (map (λ (n : Nested). fact n s) (map (premise a kind) ps))) (sym (goal-is kind))
        (record { asks = refl; way = way; references = map (read_reference s.slots) ps; rule = i; among = each-among kind ps; plain = each-plain kind ps e })

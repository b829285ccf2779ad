-- The own unknowns of each candidate are determined by the goal's, whatever its certainty; and the steps to its nested goals.
use Rattle.std.proofs.Common.{◌≡◌, ℕ, zero, suc, ◌+◌, Bool, true, not, ◌&&◌, List, [], ◌∷◌, ◌++◌, map, length, inl, inr, refl, sym, ◌∙◌, ap, subst, Option, Some, None}
use Rattle.type_terms.specs.Promised.Label.{Label, Sort, canonical, infer, param, placeholder, of_trait, predicate}
use Rattle.type_terms.specs.Promised.Trees.{Trees, none, tree, some_node}
use Rattle.type_terms.specs.Promised.Worlds.{Reference}
use Rattle.type_terms.specs.Promised.Answers.{is_open}
use Rattle.type_terms.specs.Made.{terms}
use Rattle.type_terms.specs.Made.{is_made}
use Rattle.infer_table.specs.Canonical.{GoalTrees}
use Rattle.infer_table.specs.declared.canonical.CanonicalVarKind.{CanonicalVarKind}
use Rattle.infer_table.specs.declared.canonical.CanonicalVarKind.TheVariants.{Ty, PlaceholderTy, Const, PlaceholderConst, Region}
use Rattle.goal_evaluator.specs.Lists.{Every}
use Rattle.goal_evaluator.specs.Instances.{read_with, goal_read, put_in, of_sort, term_at}
use Rattle.goal_evaluator.specs.Content.{Values, fits, given, ChosenTerms, trait_of}
use Rattle.goal_evaluator.specs.FrameTables.{kind_at, FrameTable, Allows, Nested, fact, EquationIsMet, is_open_label}
use Rattle.type_terms.proofs.Made.{false-true}
use Rattle.type_terms.proofs.Walking.{left, right}
use Rattle.goal_evaluator.proofs.Labels.{made-labels, IsGoodLabel, made-more}
use Rattle.goal_evaluator.specs.TableOperations.{begin}
use Rattle.goal_evaluator.specs.FrameTables.{labels_from}
use Rattle.goal_evaluator.specs.TableOperations.{fresh}
use Rattle.candidate_model.specs.Asking.{GoalOverKinds, are_clauses}
use Rattle.goal_evaluator.specs.Variables.{is_variable_over}
use Rattle.candidate_model.specs.Declared.{is_declared_leaf}
use Rattle.candidate_model.specs.Candidates.{premise, rules_behind, is_this_param, moved, all_equal}
use Rattle.goal_evaluator.proofs.Readings.{Agree, AgreeIn, made-leaves, reads-agree, reads-determine}
use Rattle.goal_evaluator.proofs.Slots.{own_slot, slot-is, slots-agree, each-stands}
use Rattle.candidate_model.proofs.Moving.{made-moved, stands-back, stands-on, met-reads, Came}
use Rattle.goal_evaluator.proofs.Basics.{nothing-at}
use Rattle.goal_evaluator.proofs.TypeBasics.{same-fact}

-- ---- steps
pub premises-step : (a : GoalOverKinds) (kind : Bool) (rs : List Reference) → Every (λ (n : Nested). n.coinductive ≡ kind) (map (premise a kind) rs)
premises-step a kind [] = tt
premises-step a kind (r ∷ rs) = (refl, premises-step a kind rs)

-- ---- no unknowns of its own
past-end : (f : Label → Trees) (a b c p : ℕ) (ks : List CanonicalVarKind) (i : ℕ) → kind_at ks i ≡ None → term_at (map f (labels_from a b c p ks ++ [])) i ≡ none
past-end f a b c p [] i e = nothing-at i
past-end f a b c p (k ∷ ks) zero e = absurd (cc)
past-end f a b c p (Ty ∷ ks) (suc i) e = past-end f (suc a) b c (suc p) ks i e
past-end f a b c p (Const ∷ ks) (suc i) e = past-end f a (suc b) c (suc p) ks i e
past-end f a b c p (Region ∷ ks) (suc i) e = past-end f a b (suc c) (suc p) ks i e
past-end f a b c p (PlaceholderTy ∷ ks) (suc i) e = past-end f a b c (suc p) ks i e
past-end f a b c p (PlaceholderConst ∷ ks) (suc i) e = past-end f a b c (suc p) ks i e

same-proper : (t : FrameTable) (s r : ChosenTerms) → Allows t s → Allows t r → s.own ≡ r.own → s.proper ≡ r.proper
same-proper t s r l k e = l.proper ∙ ap (λ (v : Values). v.proper && fits (map Some t.kinds) v.terms) e ∙ sym k.proper

module _ (ks : List CanonicalVarKind) (s r : ChosenTerms) (l : Allows (fresh (begin ks) []) s) (k : Allows (fresh (begin ks) []) r) (e : s.own ≡ r.own) where
  same-at : (i : ℕ) → term_at s.slots i ≡ term_at r.slots i
  same-at i = by (kind_at ks i) refl
    where
      by : (o : Option CanonicalVarKind) → kind_at ks i ≡ o → term_at s.slots i ≡ term_at r.slots i
      by None q = ap (λ z. term_at z i) l.slots ∙ past-end _ 0 0 0 0 ks i q ∙ sym (past-end _ 0 0 0 0 ks i q) ∙ sym (ap (λ z. term_at z i) k.slots)
      by (Some j) q = slot-is (fresh (begin ks) []) s l i j q ∙ ap (λ (v : Values). own_slot j (term_at v.terms i)) e ∙ sym (slot-is (fresh (begin ks) []) r k i j q)

  reads-same : (t : Trees) → read_with (given s.slots) t ≡ read_with (given r.slots) t
  reads-same t = reads-agree s.slots r.slots t (λ sort i v st. ap (of_sort sort) (same-at i))

  pub facts-same : (ns : List Nested) → Every (λ n. fact n s ≡ fact n r) ns
  facts-same [] = tt
  facts-same (n ∷ ns) =
      (same-fact (trait_of n.goal.predicate) (goal_read (given s.slots) n.goal) (goal_read (given r.slots) n.goal) s.proper r.proper (goals (reads-same n.goal.environment) (reads-same n.goal.predicate)) (same-proper (fresh (begin ks) []) s r l k e), facts-same ns)
    where
      goals : {x y z w : Trees} → x ≡ y → z ≡ w → ◌≡◌ {A = GoalTrees} (record { environment = x; predicate = z }) (record { environment = y; predicate = w })
      goals p q = cc

-- ---- unknowns that stand in the header
module _ (a : GoalOverKinds) (over : is_made (is_variable_over a.kinds) terms a.reference.args ≡ true) (clauses : are_clauses a.kinds a.environment ≡ true) (own : List CanonicalVarKind) where
  abbrev table : FrameTable
  table = fresh (begin a.kinds) own

  abbrev n : ℕ
  n = length a.kinds

  open-over : is_made is_open_label terms a.reference.args ≡ true
  open-over = made-more (is_variable_over a.kinds) is_open_label by terms a.reference.args over
    where
      by : (l : Label) → is_variable_over a.kinds l ≡ true → is_open_label l ≡ true
      by (infer k v) g = absurd (false-true g)
      by (param k v) g = absurd (false-true g)
      by (placeholder k v) g = absurd (false-true g)
      by l g = refl

  clauses-agree : (s r : ChosenTerms) → Allows table s → Allows table r → s.own ≡ r.own → (E : Trees) → are_clauses a.kinds E ≡ true → AgreeIn s.slots r.slots E
  clauses-agree s r l k e none h sort i v st = absurd st
  clauses-agree s r l k e (tree m c o) h sort i v (inl q) = absurd (false-true (subst (λ z. not (is_open z) ≡ true) q (left (not (is_open m)) _ h)))
  clauses-agree s r l k e (tree m c o) h sort i v (inr (inl st)) =
      slots-agree table s r l k e c (left (is_made (is_variable_over a.kinds) terms c) (are_clauses a.kinds o) (right (not (is_open m)) _ h)) sort i v st
  clauses-agree s r l k e (tree m c o) h sort i v (inr (inr st)) = clauses-agree s r l k e o (right (is_made (is_variable_over a.kinds) terms c) (are_clauses a.kinds o) (right (not (is_open m)) _ h)) sort i v st

  -- the goal's arguments are the header's
  pub heads : (s : ChosenTerms) (header : Trees) → is_made is_declared_leaf terms header ≡ true → Every (λ e. EquationIsMet e s) (all_equal a.reference.args (put_in (moved n) header))
      → read_with (given s.slots) a.reference.args ≡ read_with (given s.slots) (put_in (moved n) header)
  heads s header d m = met-reads s.slots a.reference.args (put_in (moved n) header) open-over (made-moved n header d) m

  module _ (header : Trees) (declared : is_made is_declared_leaf terms header ≡ true) (s r : ChosenTerms) (l : Allows table s) (k : Allows table r)
      (meets : Every (λ e. EquationIsMet e s) (all_equal a.reference.args (put_in (moved n) header))) (too : Every (λ e. EquationIsMet e r) (all_equal a.reference.args (put_in (moved n) header))) (e : s.own ≡ r.own) where
    header-agrees : AgreeIn s.slots r.slots (put_in (moved n) header)
    header-agrees =
        reads-determine s.slots r.slots (put_in (moved n) header) (made-leaves is_open_label terms (put_in (moved n) header) (made-moved n header declared))
        (sym (heads s header declared meets) ∙ reads-agree s.slots r.slots a.reference.args (slots-agree table s r l k e a.reference.args over) ∙ heads r header declared too)

    clause-agrees : (t : Trees) → is_made is_declared_leaf terms t ≡ true → ((q : Sort) (j : ℕ) → some_node (is_this_param q j) t ≡ true → some_node (is_this_param q j) header ≡ true) → AgreeIn s.slots r.slots (put_in (moved n) t)
    clause-agrees t d stands sort i v st = by (stands-back n sort i t st)
      where
        by : Came n sort i t → Agree s.slots r.slots sort i
        by (inl x) = absurd (false-true (each-stands (IsGoodLabel is_declared_leaf) (canonical sort i) t (made-labels is_declared_leaf terms t d) x refl))
        by (inr x) = subst (λ z. Agree s.slots r.slots sort z) x.1 (header-agrees sort (n + x.0) v (stands-on n sort x.0 header (made-leaves is_declared_leaf terms header declared) (stands sort x.0 x.2)))

    -- each clause whose parameters stand in the header has one fact
    pub clause-fact : (kind : Bool) (c : Reference) → is_made is_declared_leaf terms c.args ≡ true → ((q : Sort) (j : ℕ) → some_node (is_this_param q j) c.args ≡ true → some_node (is_this_param q j) header ≡ true)
        → fact (premise a kind (rules_behind n c)) s ≡ fact (premise a kind (rules_behind n c)) r
    clause-fact kind c d stands =
        same-fact (Some c.trait) _ _ s.proper r.proper
        (goals (reads-agree s.slots r.slots a.environment (clauses-agree s r l k e a.environment clauses)) (ap (λ z. tree (predicate (of_trait c.trait)) z none) (reads-agree s.slots r.slots (put_in (moved n) c.args) (clause-agrees c.args d stands))))
        (same-proper table s r l k e)
      where
        goals : {x y z w : Trees} → x ≡ y → z ≡ w → ◌≡◌ {A = GoalTrees} (record { environment = x; predicate = z }) (record { environment = y; predicate = w })
        goals p q = cc

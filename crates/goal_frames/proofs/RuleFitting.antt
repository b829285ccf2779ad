-- The candidates of a list of rules contain only the variables of the goal and of the rule.
use Rattle.std.proofs.Common.{◌≡◌, ℕ, zero, suc, ◌+◌, arith, Bool, true, List, [], ◌∷◌, ◌++◌, length, refl, sym, ◌∙◌, ap, subst, Option, Some, None}
use Rattle.std.specs.List.{slice_get}
use Rattle.type_terms.specs.Promised.Label.{Label, Sort, infer, param, placeholder, canonical}
use Rattle.type_terms.specs.Promised.Trees.{Trees, none, tree}
use Rattle.type_terms.specs.Made.{terms, is_leaf_label, is_made}
use Rattle.infer_table.specs.Canonical.{CanonicalForm}
use Rattle.infer_table.specs.Unification.{TableTrees}
use Rattle.infer_table.specs.declared.canonical.CanonicalVarKind.{CanonicalVarKind}
use Rattle.infer_table.specs.declared.canonical.CanonicalVarKind.TheVariants.{Ty, PlaceholderTy, Const, PlaceholderConst, Region}
use Rattle.infer_table.specs.Applying.{table_after}
use Rattle.goal_evaluator.specs.Lists.{Every}
use Rattle.goal_evaluator.specs.Table.{workings}
use Rattle.goal_evaluator.specs.Candidate.{Spec}
use Rattle.goal_evaluator.proofs.ListLaws.{Every-mono, Every-map}
use Rattle.goal_evaluator.specs.Instances.{put_in}
use Rattle.goal_evaluator.specs.FrameTables.{kind_at, kinds_known, Nested, is_open_label, labels_from, first_content, labels_for}
use Rattle.goal_evaluator.specs.TableAnswers.{is_kind_of}
use Rattle.type_terms.proofs.Made.{false-true, both}
use Rattle.goal_evaluator.proofs.Reading.{EachLabel}
use Rattle.goal_evaluator.proofs.Labels.{IsGoodLabel, made-labels}
use Rattle.goal_evaluator.specs.Tables.{frame_tables}
use Rattle.goal_evaluator.specs.Fitting.{is_of_sort, is_slot, AreOver, IsGoalOver, IsValueOver}
use Rattle.goal_frames.specs.Rules.{TraitBound, goal_of, FrameRule, BoundIsOver, IsRule}
use Rattle.goal_evaluator.specs.Variables.{is_variable_over}
use Rattle.goal_frames.specs.Handlers.{BareGoal, bare_goal, moved, bound_behind, as_one, nested_of_bound, spec_of, candidates_of}
use Rattle.goal_frames.specs.RuleFitting.{slots_of, IsOverSlots, CandidatesFit}
use Rattle.goal_evaluator.proofs.Readings.{HasLeaves, made-leaves}
use Rattle.goal_frames.proofs.Behind.{made-behind, made-open}
use Rattle.goal_frames.proofs.Asked.{IsAsked, asked-is, kinds-are}
use Rattle.goal_frames.proofs.Handlers.{each-spec}

-- ---- what stands at the places of variables
own-slots : (a b c i : ℕ) (ks : List CanonicalVarKind) (more : List Label) (s : Sort) (j : ℕ) → is_kind_of s (kind_at ks j) ≡ true → is_of_sort s (slice_get (labels_from a b c i ks ++ more) j) ≡ true
own-slots a b c i [] more s j h = absurd (false-true h)
own-slots a b c i (Ty ∷ ks) more s zero h = h
own-slots a b c i (Const ∷ ks) more s zero h = h
own-slots a b c i (Region ∷ ks) more s zero h = h
own-slots a b c i (PlaceholderTy ∷ ks) more s zero h = h
own-slots a b c i (PlaceholderConst ∷ ks) more s zero h = h
own-slots a b c i (Ty ∷ ks) more s (suc j) h = own-slots (suc a) b c (suc i) ks more s j h
own-slots a b c i (Const ∷ ks) more s (suc j) h = own-slots a (suc b) c (suc i) ks more s j h
own-slots a b c i (Region ∷ ks) more s (suc j) h = own-slots a b (suc c) (suc i) ks more s j h
own-slots a b c i (PlaceholderTy ∷ ks) more s (suc j) h = own-slots a b c (suc i) ks more s j h
own-slots a b c i (PlaceholderConst ∷ ks) more s (suc j) h = own-slots a b c (suc i) ks more s j h

new-slots : (t : TableTrees) (i : ℕ) (ks : List CanonicalVarKind) (s : Sort) (j : ℕ) → is_kind_of s (kind_at ks j) ≡ true → is_of_sort s (slice_get (labels_for t i ks) j) ≡ true
new-slots t i [] s j h = absurd (false-true h)
new-slots t i (Ty ∷ ks) s zero h = h
new-slots t i (Const ∷ ks) s zero h = h
new-slots t i (Region ∷ ks) s zero h = h
new-slots t i (PlaceholderTy ∷ ks) s zero h = h
new-slots t i (PlaceholderConst ∷ ks) s zero h = h
new-slots t i (k ∷ ks) s (suc j) h = new-slots (table_after None t k) (i + 1) ks s j h

own-length : (a b c i : ℕ) (ks : List CanonicalVarKind) → length (labels_from a b c i ks) ≡ length ks
own-length a b c i [] = refl
own-length a b c i (Ty ∷ ks) = ap suc (own-length (suc a) b c (suc i) ks)
own-length a b c i (Const ∷ ks) = ap suc (own-length a (suc b) c (suc i) ks)
own-length a b c i (Region ∷ ks) = ap suc (own-length a b (suc c) (suc i) ks)
own-length a b c i (PlaceholderTy ∷ ks) = ap suc (own-length a b c (suc i) ks)
own-length a b c i (PlaceholderConst ∷ ks) = ap suc (own-length a b c (suc i) ks)

get-behind : (xs ys : List Label) (j : ℕ) → slice_get (xs ++ ys) (length xs + j) ≡ slice_get ys j
get-behind [] ys j = ap (slice_get ys) (zero-plus j)
  where
    zero-plus : (n : ℕ) → 0 + n ≡ n
    zero-plus n = omega arith
get-behind (x ∷ xs) ys j = ap (slice_get (x ∷ (xs ++ ys))) (next (length xs) j) ∙ get-behind xs ys j
  where
    next : (n i : ℕ) → suc n + i ≡ suc (n + i)
    next n i = omega arith

-- each variable of these kinds, that many places on, stands for a label of its sort
abbrev pub HaveSlots : ℕ → List CanonicalVarKind → List Label → Type 0
HaveSlots n kinds ls = (s : Sort) (j : ℕ) → is_kind_of s (kind_at kinds j) ≡ true → is_of_sort s (slice_get ls (n + j)) ≡ true

pub goal-slots : (kinds own : List CanonicalVarKind) → HaveSlots 0 kinds (slots_of kinds own)
goal-slots kinds own s j h = ap (λ z. is_of_sort s (slice_get (slots_of kinds own) z)) (zero-plus j) ∙ own-slots 0 0 0 0 kinds (labels_for (first_content kinds) 0 own) s j h
  where
    zero-plus : (n : ℕ) → 0 + n ≡ n
    zero-plus n = omega arith

pub rule-slots : (kinds own : List CanonicalVarKind) → HaveSlots (length kinds) own (slots_of kinds own)
rule-slots kinds own s j h =
    ap (λ z. is_of_sort s (slice_get (slots_of kinds own) (z + j))) (sym (own-length 0 0 0 0 kinds))
    ∙ ap (is_of_sort s) (get-behind (labels_from 0 0 0 0 kinds) (labels_for (first_content kinds) 0 own) j)
    ∙ new-slots (first_content kinds) 0 own s j h

-- ---- terms
module _ (kinds : List CanonicalVarKind) (ls : List Label) where
  over-label : HaveSlots 0 kinds ls → (l : Label) → IsGoodLabel (is_variable_over kinds) l → is_slot ls l ≡ true
  over-label h (canonical s j) g = ap (λ z. is_of_sort s (slice_get ls z)) (zero-plus j) ∙ h s j (g refl)
    where
      zero-plus : (n : ℕ) → n ≡ 0 + n
      zero-plus n = omega arith
  over-label h (infer k v) g = absurd (false-true (g refl))
  over-label h (param k v) g = absurd (false-true (g refl))
  over-label h (placeholder k v) g = absurd (false-true (g refl))
  over-label h l g = refl

  pub over-labels : HaveSlots 0 kinds ls → (t : Trees) → EachLabel (IsGoodLabel (is_variable_over kinds)) t → HasLeaves t → AreOver ls t
  over-labels h none e g = tt
  over-labels h (tree l c o) e g = (over-label h l e.0, g.0, over-labels h c e.1 g.1, over-labels h o e.2 g.2)

  module _ (n : ℕ) (h : HaveSlots n kinds ls) where
    node-stays : (l : Label) (c o : Trees) → is_slot ls l ≡ true → (is_leaf_label l ≡ true → c ≡ none) → AreOver ls (put_in (moved n) c) → AreOver ls (put_in (moved n) o)
        → AreOver ls (tree l (put_in (moved n) c) (put_in (moved n) o))
    node-stays l c o s g p q = (s, λ e. ap (put_in (moved n)) (g e), p, q)

    node-behind : (l : Label) (c o : Trees) → IsGoodLabel (is_variable_over kinds) l → (is_leaf_label l ≡ true → c ≡ none) → AreOver ls (put_in (moved n) c) → AreOver ls (put_in (moved n) o)
        → AreOver ls (put_in (moved n) (tree l c o))
    node-behind (canonical s j) c o e g p q = (h s j (e refl), λ x. refl, tt, q)
    node-behind (infer k v) c o e g p q = absurd (false-true (e refl))
    node-behind (param k v) c o e g p q = absurd (false-true (e refl))
    node-behind (placeholder k v) c o e g p q = absurd (false-true (e refl))
    node-behind l c o e g p q = node-stays l c o refl g p q

    over-behind : (t : Trees) → EachLabel (IsGoodLabel (is_variable_over kinds)) t → HasLeaves t → AreOver ls (put_in (moved n) t)
    over-behind none e g = tt
    over-behind (tree l c o) e g = node-behind l c o e.0 g.0 (over-behind c e.1 g.1) (over-behind o e.2 g.2)

one-over : (ls : List Label) (b : TraitBound) → is_made is_open_label terms b.arguments ≡ true → AreOver ls b.arguments → IsValueOver ls (as_one b)
one-over ls b m o = record { sort = refl; made = both (is_made is_open_label terms b.arguments) true m refl; over = (refl, λ e. absurd (false-true e), o, tt) }

goal-over : (ls : List Label) (b : TraitBound) → AreOver ls b.arguments → IsGoalOver ls (goal_of b)
goal-over ls b o = record { environment = tt; predicate = (refl, λ e. absurd (false-true e), o, tt) }

arguments-behind : (kinds own : List CanonicalVarKind) (b : TraitBound) → BoundIsOver own b → AreOver (slots_of kinds own) (bound_behind (length kinds) b).arguments
arguments-behind kinds own b m =
    over-behind own (slots_of kinds own) (length kinds) (rule-slots kinds own) b.arguments (made-labels (is_variable_over own) terms b.arguments m) (made-leaves (is_variable_over own) terms b.arguments m)

-- ---- candidates
spec-fits : (kind : Bool) (f : CanonicalForm) (a : BareGoal) → IsAsked f a → (r : FrameRule) → IsRule r → IsOverSlots (slots_of a.kinds r.kinds) (spec_of kind a r)
spec-fits kind f a h r good =
    let ls = slots_of a.kinds r.kinds in
    record {
      equations = (
        (
          one-over ls a.bound (made-open a.kinds terms a.bound.arguments h.over)
              (over-labels a.kinds ls (goal-slots a.kinds r.kinds) a.bound.arguments (made-labels (is_variable_over a.kinds) terms a.bound.arguments h.over) (made-leaves (is_variable_over a.kinds) terms a.bound.arguments h.over)),
          one-over ls (bound_behind (length a.kinds) r.head) (made-behind r.kinds (length a.kinds) terms r.head.arguments good.head) (arguments-behind a.kinds r.kinds r.head good.head),
        ),
        tt,
      );
      constraints = tt;
      nested =
          Every-map (λ (n : Nested). IsGoalOver ls n.goal) (λ b. nested_of_bound kind (bound_behind (length a.kinds) b)) r.premises
          (Every-mono (BoundIsOver r.kinds) (λ b. IsGoalOver ls (goal_of (bound_behind (length a.kinds) b))) (λ b m. goal-over ls (bound_behind (length a.kinds) b) (arguments-behind a.kinds r.kinds b m)) r.premises good.premises);
    }

pub candidates-fit : CandidatesFit
candidates-fit book rules_are f = by (bare_goal f) refl
  where
    by : (o : Option BareGoal) → bare_goal f ≡ o → Every (λ (c : Spec (workings frame_tables)). IsOverSlots (slots_of (kinds_known f.kinds) c.kinds) c) (candidates_of book o)
    by None e = (record { equations = tt; constraints = tt; nested = tt }, tt)
    by (Some a) e =
        subst (λ ks. Every (λ (c : Spec (workings frame_tables)). IsOverSlots (slots_of ks c.kinds) c) (candidates_of book (Some a))) (sym (kinds-are f a (asked-is f a e)))
        (each-spec (book.coinductive a.bound.trait) a (λ (c : Spec (workings frame_tables)). IsOverSlots (slots_of a.kinds c.kinds) c) book.rules
        (Every-mono IsRule (λ (r : FrameRule). r.head.trait ≡ a.bound.trait → IsOverSlots (slots_of a.kinds r.kinds) (spec_of (book.coinductive a.bound.trait) a r))
        (λ r good q. spec-fits (book.coinductive a.bound.trait) f a (asked-is f a e) r good) book.rules rules_are))

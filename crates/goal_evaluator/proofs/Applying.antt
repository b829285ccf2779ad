-- Responses applied to the tables of frames allow nothing new, and lose nothing that agrees with the response.
use Rattle.std.proofs.Common.{◌≡◌, ℕ, zero, suc, ◌+◌, ◌<◌, ◌≤◌, arith, Bool, true, false, ◌&&◌, List, [], ◌∷◌, map, refl, sym, ◌∙◌, ap, subst, Option, Some, None, if◌then◌else◌, ◌⊎◌, inl, inr}
use Rattle.std.specs.Prelude.{IsSome, unwrap_or, option_map, option_and_then}
use Rattle.std.specs.List.{slice_get}
use Rattle.std.proofs.lemmas.Bool.{eqb-true}
use Rattle.type_terms.specs.Promised.Label.{Label, Sort, of_type, of_const, of_lifetime, infer, param, placeholder, canonical, bound, static, dynamic, principal, auto_trait, predicate}
use Rattle.type_terms.specs.Promised.Trees.{Trees, none, tree, leaf, ◌+++◌, sort_of, is_sort}
use Rattle.type_terms.specs.Trees.{is_a, is_no_tree, put_at_node, Single}
use Rattle.infer_table.specs.Canonical.{kind_of_leaf, kind_in_clause, leaves, goal_leaves}
use Rattle.infer_table.specs.Solutions.{Assignment, IsSorted, Binding, tree_of, resolved, is_same_variable, HasValues, Acyclic}
use Rattle.infer_table.specs.Unification.{TableTrees, Worklist, unified}
use Rattle.infer_table.specs.declared.canonical.CanonicalVarKind.{CanonicalVarKind}
use Rattle.infer_table.specs.declared.canonical.CanonicalVarKind.TheVariants.{Ty, PlaceholderTy, Const, PlaceholderConst, Region}
use Rattle.infer_table.proofs.SolutionLaws.{is_variable-equal, is_variable-self, is_sort-equal as is-sort}
use Rattle.infer_table.specs.Leaves.{root_label}
use Rattle.infer_table.specs.Values.{Value, if_of_sort, value_for, filled_values}
use Rattle.infer_table.specs.Raw.{sort_of_kind}
use Rattle.infer_table.specs.Responses.{AnswerTrees}
use Rattle.infer_table.specs.Answers.{have_same_sorts, is_answer_to}
use Rattle.infer_table.specs.Applying.{is_numbered, root_labels, original_of, next_unknown, unknowns_of, table_after, values_for, table_for, known_value}
use Rattle.infer_table.specs.Applied.{trees_of, solved_in_turn, with_constraints, applied}
use Rattle.goal_evaluator.specs.Lists.{Every}
use Rattle.goal_evaluator.specs.Instances.{read_with, put_in, of_sort}
use Rattle.type_terms.specs.Made.{terms, is_made}
use Rattle.goal_evaluator.specs.Content.{ChosenTerms, standing, reading_of, UnknownStands}
use Rattle.goal_evaluator.specs.Equations.{AreOne, IsTermOf, IsTermPair, IsValue, HasLifetimes, IsMadeTable}
use Rattle.goal_evaluator.specs.FrameTables.{kind_at, is_good, good_in, FrameTable, IsMadeFrame, Nested, goal_in, slot_at, in_turn, and_then}
use Rattle.goal_evaluator.specs.TableOperations.{with_content}
use Rattle.goal_evaluator.specs.TableAnswers.{picked, IsPicked, ArePicked, is_kind_of, is_variable_of, is_fitting, are_fitting, is_fitting_answer, put_into, leaf_value, originals_of}
use Rattle.type_terms.proofs.Made.{false-true, left, right, no-tree, is_ordinary, made-ordinary}
use Rattle.goal_evaluator.proofs.Reading.{append-none, append-assoc, EachLabel, IsPutIn, read-lifetime, GiveOne, same-read}
use Rattle.goal_evaluator.proofs.Questions.{sort-of-sort, reading-sorted}
use Rattle.goal_evaluator.proofs.TableBeginning.{below, below-is, sort-is}
use Rattle.goal_evaluator.proofs.Equating.{AreSlots, slot-cases, IsLeafOf, slots-of, lifetimes-good, in-turn-narrows, InTurn, none-some, some-is, single-of}
use Rattle.goal_evaluator.proofs.Labels.{IsGoodLabel, made-labels, IsLeafIn, each-label, each-resolved, every-leaf, clause-open, IsLeafFor, PutsLeaves, made-put-in, single-put-in, made-more, read-put-each}
use Rattle.type_terms.proofs.TermBasics.{is_sort-self as sort-self}
use Rattle.type_terms.proofs.ListBasics.{cons}
use Rattle.type_terms.proofs.NumberBasics.{itself, one-more, zero-first as zero-plus}

-- ---- the open leaves of a nested goal
static-leaf : (good : Label → Bool) (ls : List Label) (h : AreSlots good ls) (l : Label) → slot_at ls l ≡ None → IsLeafIn good l
static-leaf good ls h static e i = absurd (cc)
static-leaf good ls h (infer k v) e i = absurd (cc)
static-leaf good ls h (param k v) e i = absurd (cc)
static-leaf good ls h (placeholder k v) e i = absurd (cc)
static-leaf good ls h l e i = absurd (false-true i)

slots-leaves : (good : Label → Bool) (ls : List Label) (h : AreSlots good ls) (t : Trees) → EachLabel (IsLeafIn good) (put_in (slot_at ls) t)
slots-leaves good ls h none = tt
slots-leaves good ls h (tree l c o) = by (slot-cases good ls h l) (slots-leaves good ls h c) (slots-leaves good ls h o)
  where
    by : ((x : Trees) × (slot_at ls l ≡ Some x) × IsLeafOf good ls h l x) ⊎ (slot_at ls l ≡ None) → EachLabel (IsLeafIn good) (put_in (slot_at ls) c) → EachLabel (IsLeafIn good) (put_in (slot_at ls) o)
        → EachLabel (IsLeafIn good) (put_at_node (slot_at ls l) (tree l (put_in (slot_at ls) c) none) +++ put_in (slot_at ls) o)
    by (inl y) p q =
        subst (λ z. EachLabel (IsLeafIn good) (put_at_node z (tree l (put_in (slot_at ls) c) none) +++ put_in (slot_at ls) o)) (sym y.1)
        (subst (λ z. EachLabel (IsLeafIn good) (z +++ put_in (slot_at ls) o)) (sym y.2.is) (λ i. y.2.made, tt, q))
    by (inr e) p q =
        subst (λ z. EachLabel (IsLeafIn good) (put_at_node z (tree l (put_in (slot_at ls) c) none) +++ put_in (slot_at ls) o)) (sym e) (static-leaf good ls h l e, p, q)

-- each leaf is one of the table's
abbrev pub AreTheirs : (Label → Bool) → List Label → Type 0
AreTheirs good ls = Every (λ l. is_made good terms (leaf l) ≡ true) ls

pub goal-leaves : (t : FrameTable) → IsMadeFrame t → (n : Nested) → AreTheirs (good_in t) (goal_leaves (goal_in t n))
goal-leaves t made n =
    let part = λ (x : Trees). each-resolved (good_in t) t.content.bindings made.table.values (put_in (slot_at t.labels) x) (slots-leaves (good_in t) t.labels (slots-of t made) x) in
    let environment = resolved t.content.bindings (put_in (slot_at t.labels) n.goal.environment) in
    every-leaf kind_of_leaf (λ l. is_made (good_in t) terms (leaf l) ≡ true) (leaves kind_in_clause [] environment)
    (every-leaf kind_in_clause (λ l. is_made (good_in t) terms (leaf l) ≡ true) [] tt environment
    (each-label (IsLeafIn (good_in t)) (λ l. IsSome (kind_in_clause l) → is_made (good_in t) terms (leaf l) ≡ true) (λ l f i. f (clause-open l i)) environment (part n.goal.environment)))
    (resolved t.content.bindings (put_in (slot_at t.labels) n.goal.predicate)) (part n.goal.predicate)

-- ---- new unknowns
after-bindings : (x : Option Value) (t : TableTrees) (k : CanonicalVarKind) → (table_after x t k).bindings ≡ t.bindings
after-bindings (Some v) t k = refl
after-bindings None t Ty = refl
after-bindings None t k = refl

pub for-bindings : (known : ℕ → Option Value) (t : TableTrees) (i : ℕ) (ks : List CanonicalVarKind) → (table_for known t i ks).bindings ≡ t.bindings
for-bindings known t i [] = refl
for-bindings known t i (k ∷ ks) = for-bindings known (table_after (known i) t k) (i + 1) ks ∙ after-bindings (known i) t k

after-more : (x : Option Value) (t : TableTrees) (k : CanonicalVarKind) (j : Sort) → unknowns_of t j ≤ unknowns_of (table_after x t k) j
after-more (Some v) t k j = itself (unknowns_of t j)
after-more None t Ty of_type = one-more t.ty_vars
after-more None t PlaceholderTy of_type = one-more t.ty_vars
after-more None t Const of_const = one-more t.const_vars
after-more None t PlaceholderConst of_const = one-more t.const_vars
after-more None t Region of_lifetime = one-more t.region_vars
after-more None t k j = itself (unknowns_of t j)

pub for-more : (known : ℕ → Option Value) (t : TableTrees) (i : ℕ) (ks : List CanonicalVarKind) (j : Sort) → unknowns_of t j ≤ unknowns_of (table_for known t i ks) j
for-more known t i [] j = itself (unknowns_of t j)
for-more known t i (k ∷ ks) j = both-less (unknowns_of t j) (unknowns_of (table_after (known i) t k) j) _ (after-more (known i) t k j) (for-more known (table_after (known i) t k) (i + 1) ks j)
  where
    both-less : (a b c : ℕ) → a ≤ b → b ≤ c → a ≤ c
    both-less a b c p q = omega (arith, p, q)

-- the new unknown's own number is the table's from then on
pub after-own : (t : TableTrees) (k : CanonicalVarKind) → unknowns_of t (sort_of_kind k) < unknowns_of (table_after None t k) (sort_of_kind k)
after-own t Ty = less t.ty_vars
  where
    less : (n : ℕ) → n < n + 1
    less n = omega arith
after-own t PlaceholderTy = less t.ty_vars
  where
    less : (n : ℕ) → n < n + 1
    less n = omega arith
after-own t Const = less t.const_vars
  where
    less : (n : ℕ) → n < n + 1
    less n = omega arith
after-own t PlaceholderConst = less t.const_vars
  where
    less : (n : ℕ) → n < n + 1
    less n = omega arith
after-own t Region = less t.region_vars
  where
    less : (n : ℕ) → n < n + 1
    less n = omega arith

pub new-value : (t : TableTrees) (k : CanonicalVarKind) → next_unknown t k ≡ leaf_value (infer (sort_of_kind k) (unknowns_of t (sort_of_kind k)))
new-value t Ty = refl
new-value t k = refl

-- ---- terms for the new unknowns
abbrev with_term : Assignment → Sort → ℕ → Label × Trees → Assignment
with_term u k m x j n = if is_same_variable j n k m then x else u j n

-- a new unknown for variable i stands for what is picked for it
abbrev with_picked : Assignment → Assignment → TableTrees → ℕ → Option Value → CanonicalVarKind → Assignment
with_picked u q t i (Some v) k = u
with_picked u q t i None k = with_term u (sort_of_kind k) (unknowns_of t (sort_of_kind k)) (q (sort_of_kind k) i)

abbrev extended : Assignment → Assignment → (ℕ → Option Value) → TableTrees → ℕ → List CanonicalVarKind → Assignment
extended u q known t i [] = u
extended u q known t i (k ∷ ks) = extended (with_picked u q t i (known i) k) q known (table_after (known i) t k) (i + 1) ks

term-sorted : (u : Assignment) (k : Sort) (m : ℕ) (x : Label × Trees) → IsSorted u → sort_of x.0 ≡ k → IsSorted (with_term u k m x)
term-sorted u k m x h e j n = by (is_same_variable j n k m) refl
  where
    by : (b : Bool) → is_same_variable j n k m ≡ b → sort_of (if b then x else u j n).0 ≡ j
    by true p = e ∙ sym (is_variable-equal j k n m p).0
    by false p = h j n

picked-sorted : (u q : Assignment) (t : TableTrees) (i : ℕ) (v : Option Value) (k : CanonicalVarKind) → IsSorted u → IsSorted q → IsSorted (with_picked u q t i v k)
picked-sorted u q t i (Some v) k h g = h
picked-sorted u q t i None k h g = term-sorted u (sort_of_kind k) (unknowns_of t (sort_of_kind k)) (q (sort_of_kind k) i) h (g (sort_of_kind k) i)

pub extended-sorted : (u q : Assignment) (known : ℕ → Option Value) (t : TableTrees) (i : ℕ) (ks : List CanonicalVarKind) → IsSorted u → IsSorted q → IsSorted (extended u q known t i ks)
extended-sorted u q known t i [] h g = h
extended-sorted u q known t i (k ∷ ks) h g = extended-sorted (with_picked u q t i (known i) k) q known (table_after (known i) t k) (i + 1) ks (picked-sorted u q t i (known i) k h g) g

term-other : (u : Assignment) (k : Sort) (m : ℕ) (x : Label × Trees) (count : Sort → ℕ) (j : Sort) (n : ℕ) → n < count j → m ≡ count k → with_term u k m x j n ≡ u j n
term-other u k m x count j n h e = by (is_same_variable j n k m) refl
  where
    never : (a b c : ℕ) → a < b → a ≡ c → c ≡ b → ⊥
    never a b c p q r = omega (arith, p, q, r)

    by : (b : Bool) → is_same_variable j n k m ≡ b → (if b then x else u j n) ≡ u j n
    by true p = let same = is_variable-equal j k n m p in absurd (never n (count j) m h same.1 (e ∙ ap count (sym same.0)))
    by false p = refl

picked-old : (u q : Assignment) (t : TableTrees) (i : ℕ) (v : Option Value) (k : CanonicalVarKind) (j : Sort) (n : ℕ) → n < unknowns_of t j → with_picked u q t i v k j n ≡ u j n
picked-old u q t i (Some v) k j n h = refl
picked-old u q t i None k j n h = term-other u (sort_of_kind k) (unknowns_of t (sort_of_kind k)) (q (sort_of_kind k) i) (unknowns_of t) j n h refl

extended-old : (u q : Assignment) (known : ℕ → Option Value) (t : TableTrees) (i : ℕ) (ks : List CanonicalVarKind) (j : Sort) (n : ℕ) → n < unknowns_of t j → extended u q known t i ks j n ≡ u j n
extended-old u q known t i [] j n h = refl
extended-old u q known t i (k ∷ ks) j n h =
    extended-old (with_picked u q t i (known i) k) q known (table_after (known i) t k) (i + 1) ks j n (later n (unknowns_of t j) (unknowns_of (table_after (known i) t k) j) h (after-more (known i) t k j))
    ∙ picked-old u q t i (known i) k j n h
  where
    later : (a b c : ℕ) → a < b → b ≤ c → a < c
    later a b c p q = omega (arith, p, q)

-- ---- what is put in for a variable: the value that is known, or a new unknown that stands for what is picked
pub record IsKnownAt (known : ℕ → Option Value) (values : List Value) (d i : ℕ) : Type 0 where
  pub value : Value
  pub is : slice_get values d ≡ Some value
  pub known_is : known i ≡ Some value

pub record IsNewAt (known : ℕ → Option Value) (t : TableTrees) (from : ℕ) (ks : List CanonicalVarKind) (d i : ℕ) (s : Sort) : Type 0 where
  pub number : ℕ
  pub is : slice_get (values_for known t from ks) d ≡ Some (leaf_value (infer s number))
  pub counted : number < unknowns_of (table_for known t from ks) s
  pub stands : (u q : Assignment) → extended u q known t from ks s number ≡ q s i

pub some-kind : (k d : CanonicalVarKind) → Some k ≡ Some d → k ≡ d
some-kind k d e = cc

none-kind : (k : CanonicalVarKind) (T : Type 0) → None ≡ Some k → T
none-kind k T e = absurd (cc)

value-at : (known : ℕ → Option Value) (t : TableTrees) (i : ℕ) (ks : List CanonicalVarKind) (d : ℕ) (k : CanonicalVarKind) → kind_at ks d ≡ Some k
    → IsKnownAt known (values_for known t i ks) d (i + d) ⊎ IsNewAt known t i ks d (i + d) (sort_of_kind k)
value-at known t i [] d k e = none-kind k _ e
value-at known t i (x ∷ ks) zero k e = by (known i) refl
  where
    at-zero : i + zero ≡ i
    at-zero = omega arith

    known-at : (v : Value) → known i ≡ Some v → IsKnownAt known (values_for known t i (x ∷ ks)) zero (i + zero)
    known-at v q = record { value = v; is = ap (λ z. Some (unwrap_or z (next_unknown t x))) q; known_is = ap known at-zero ∙ q }

    own : ℕ
    own = unknowns_of t (sort_of_kind x)

    less : (a b c : ℕ) → a < b → b ≤ c → a < c
    less a b c p q = omega (arith, p, q)

    counted-here : known i ≡ None → own < unknowns_of (table_after (known i) t x) (sort_of_kind x)
    counted-here q = subst (λ z. own < unknowns_of (table_after z t x) (sort_of_kind x)) (sym q) (after-own t x)

    new-at : known i ≡ None → IsNewAt known t i (x ∷ ks) zero (i + zero) (sort_of_kind x)
    new-at q = record {
      number = own;
      is = ap (λ z. Some (unwrap_or z (next_unknown t x))) q ∙ ap Some (new-value t x);
      counted = less own _ _ (counted-here q) (for-more known (table_after (known i) t x) (i + 1) ks (sort_of_kind x));
      stands = λ u w.
          extended-old (with_picked u w t i (known i) x) w known (table_after (known i) t x) (i + 1) ks (sort_of_kind x) own (counted-here q)
          ∙ ap (λ z. with_picked u w t i z x (sort_of_kind x) own) q
          ∙ ap (λ (b : Bool). if b then w (sort_of_kind x) i else u (sort_of_kind x) own) (is_variable-self (sort_of_kind x) own)
          ∙ ap (w (sort_of_kind x)) (sym at-zero);
    }

    by : (o : Option Value) → known i ≡ o → IsKnownAt known (values_for known t i (x ∷ ks)) zero (i + zero) ⊎ IsNewAt known t i (x ∷ ks) zero (i + zero) (sort_of_kind k)
    by (Some v) q = inl (known-at v q)
    by None q = inr (subst (λ z. IsNewAt known t i (x ∷ ks) zero (i + zero) (sort_of_kind z)) (some-kind x k e) (new-at q))
value-at known t i (x ∷ ks) (suc d) k e = by (value-at known (table_after (known i) t x) (i + 1) ks d k e)
  where
    place : (i + 1) + d ≡ i + suc d
    place = omega arith

    by : IsKnownAt known (values_for known (table_after (known i) t x) (i + 1) ks) d ((i + 1) + d) ⊎ IsNewAt known (table_after (known i) t x) (i + 1) ks d ((i + 1) + d) (sort_of_kind k)
        → IsKnownAt known (values_for known t i (x ∷ ks)) (suc d) (i + suc d) ⊎ IsNewAt known t i (x ∷ ks) (suc d) (i + suc d) (sort_of_kind k)
    by (inl y) = inl (record { value = y.value; is = y.is; known_is = ap known (sym place) ∙ y.known_is })
    by (inr y) = inr (record { number = y.number; is = y.is; counted = y.counted; stands = λ u w. y.stands (with_picked u w t i (known i) x) w ∙ ap (w (sort_of_kind k)) place })

-- ---- the values in their places
abbrev paired : List Value → List Value → List (Value × Value)
paired [] vs = []
paired (o ∷ os) [] = []
paired (o ∷ os) (v ∷ vs) = (o, v) ∷ paired os vs

pub record IsMatch (good : Label → Bool) (ks : List CanonicalVarKind) (p : Value × Value) : Type 0 where
  pub same_sort : p.0.sort ≡ p.1.sort
  pub fits : is_fitting ks p.1 ≡ true
  pub label : Label
  pub is : p.0 ≡ leaf_value label
  pub made : is_made good terms (leaf label) ≡ true

all-match : (good : Label → Bool) (ks : List CanonicalVarKind) (ls : List Label) (vs : List Value) → AreTheirs good ls → have_same_sorts (map leaf_value ls) vs ≡ true → are_fitting ks vs ≡ true
    → Every (IsMatch good ks) (paired (map leaf_value ls) vs)
all-match good ks [] vs h e f = tt
all-match good ks (l ∷ ls) [] h e f = tt
all-match good ks (l ∷ ls) (v ∷ vs) h e f = (
  record { same_sort = is-sort (sort_of l) v.sort (left (is_sort (sort_of l) v.sort) _ e); fits = left (is_fitting ks v) _ f; label = l; is = refl; made = h.0 },
  all-match good ks ls vs h.1 (right (is_sort (sort_of l) v.sort) _ e) (right (is_fitting ks v) _ f),
)

-- the answer's value is read as the goal's
abbrev AgreeAt : ChosenTerms → Assignment → Value × Value → Type 0
AgreeAt s q p = IsPicked q p.1.sort p.1.trees (read_with (standing s) p.0.trees)

pub all-agree : (s : ChosenTerms) (q : Assignment) (ls : List Label) (vs : List Value) → ArePicked q vs (map (reading_of s) ls) → Every (AgreeAt s q) (paired (map leaf_value ls) vs)
all-agree s q [] vs h = tt
all-agree s q (l ∷ ls) [] h = tt
all-agree s q (l ∷ ls) (v ∷ vs) h = (h.0, all-agree s q ls vs h.1)

-- the value that stands for variable i is one of a pair whose other value is the variable
pub record IsOfPair (P : Value × Value → Type 0) (i : ℕ) (o : Value) : Type 0 where
  pub pair : Value × Value
  pub holds : P pair
  pub is : pair.0 ≡ o
  pub numbered : is_numbered i (root_label pair.1.trees) ≡ true

some-value : (v w : Value) → Some v ≡ Some w → v ≡ w
some-value v w e = cc

none-value : (v : Value) (T : Type 0) → None ≡ Some v → T
none-value v T e = absurd (cc)

of-pair : (P : Value × Value → Type 0) (os vs : List Value) → Every P (paired os vs) → (i : ℕ) (o : Value) → original_of i (root_labels vs) os ≡ Some o → IsOfPair P i o
of-pair P os [] h i o e = none-value o _ e
of-pair P [] (v ∷ vs) h i o e = none-value o _ e
of-pair P (p ∷ os) (v ∷ vs) h i o e = by (is_numbered i (root_label v.trees)) refl e (of-pair P os vs h.1 i o)
  where
    by : (b : Bool) → is_numbered i (root_label v.trees) ≡ b → (if b then Some p else original_of i (root_labels vs) os) ≡ Some o
        → (original_of i (root_labels vs) os ≡ Some o → IsOfPair P i o) → IsOfPair P i o
    by true n q r = record { pair = (p, v); holds = h.0; is = some-value p o q; numbered = n }
    by false n q r = r q

-- a fitting value that begins with variable i is that variable
fitting-variable : (ks : List CanonicalVarKind) (i : ℕ) (k : Sort) (t : Trees) → (is_a k t && is_made (is_variable_of ks) terms t) ≡ true → is_numbered i (root_label t) ≡ true
    → (t ≡ leaf (canonical k i)) × (is_kind_of k (kind_at ks i) ≡ true)
fitting-variable ks i k none h n = absurd (false-true n)
fitting-variable ks i k (tree (canonical s j) c o) h n =
    let a : is_a k (tree (canonical s j) c o) ≡ true = left (is_a k (tree (canonical s j) c o)) _ h in
    let m = made-ordinary (is_variable_of ks) (canonical s j) c o refl (right (is_a k (tree (canonical s j) c o)) _ h) in
    let sort : s ≡ k = sort-is k (canonical s j) c o a in
    let number : j ≡ i = eqb-true j i n in (
      ap (λ z. tree (canonical s j) z o) (no-tree c m.1) ∙ ap (tree (canonical s j) none) (single-of k (tree (canonical s j) c o) a) ∙ ap (λ z. leaf (canonical z j)) sort ∙ ap (λ z. leaf (canonical k z)) number,
      subst (λ z. is_kind_of k (kind_at ks z) ≡ true) number (subst (λ z. is_kind_of z (kind_at ks j) ≡ true) sort m.0),
    )
fitting-variable ks i k (tree l c o) h n = absurd (false-true n)

-- ---- labels that may stand in an answer's values
abbrev is_canonical : Label → Bool
is_canonical (canonical s i) = true
is_canonical l = false

-- what stays is good
open-good : (kinds ks : List CanonicalVarKind) (a b : ℕ) (l : Label) → ((s : Sort) (i : ℕ) → l ≡ canonical s i → ⊥) → is_variable_of ks l ≡ true → is_good kinds a b l ≡ true
open-good kinds ks a b (canonical s i) n h = absurd (n s i refl)
open-good kinds ks a b (infer of_type v) n h = absurd (false-true h)
open-good kinds ks a b (infer of_const v) n h = absurd (false-true h)
open-good kinds ks a b (param of_type v) n h = absurd (false-true h)
open-good kinds ks a b (param of_const v) n h = absurd (false-true h)
open-good kinds ks a b (placeholder of_type v) n h = absurd (false-true h)
open-good kinds ks a b (placeholder of_const v) n h = absurd (false-true h)
open-good kinds ks a b l n h = refl

-- and it is read alike
open-same : (ks : List CanonicalVarKind) (r : ChosenTerms) (q : Assignment) (l : Label) → ((s : Sort) (i : ℕ) → l ≡ canonical s i → ⊥) → is_variable_of ks l ≡ true → standing r l ≡ picked q l
open-same ks r q (canonical s i) n h = absurd (n s i refl)
open-same ks r q (infer of_type v) n h = absurd (false-true h)
open-same ks r q (infer of_const v) n h = absurd (false-true h)
open-same ks r q (infer of_lifetime v) n h = refl
open-same ks r q (param of_type v) n h = absurd (false-true h)
open-same ks r q (param of_const v) n h = absurd (false-true h)
open-same ks r q (param of_lifetime v) n h = refl
open-same ks r q (placeholder of_type v) n h = absurd (false-true h)
open-same ks r q (placeholder of_const v) n h = absurd (false-true h)
open-same ks r q (placeholder of_lifetime v) n h = refl
open-same ks r q (bound of_type i j) n h = refl
open-same ks r q (bound of_const i j) n h = refl
open-same ks r q (bound of_lifetime i j) n h = refl
open-same ks r q l n h = refl

picked-lifetime : (q : Assignment) (l : Label) → is_sort (sort_of l) of_lifetime ≡ true → read_with (picked q) (leaf l) ≡ leaf static
picked-lifetime q (param of_lifetime i) h = refl
picked-lifetime q (placeholder of_lifetime i) h = refl
picked-lifetime q (infer of_lifetime i) h = refl
picked-lifetime q (canonical of_lifetime i) h = refl
picked-lifetime q (bound of_lifetime i j) h = refl
picked-lifetime q static h = refl
picked-lifetime q l h = absurd (false-true h)

pub good-grows : (kinds : List CanonicalVarKind) (a b c d : ℕ) → a ≤ c → b ≤ d → (l : Label) → is_good kinds a b l ≡ true → is_good kinds c d l ≡ true
good-grows kinds a b c d p q (infer of_type v) h = below v c (less v a c (below-is v a h) p)
  where
    less : (x y z : ℕ) → x < y → y ≤ z → x < z
    less x y z f g = omega (arith, f, g)
good-grows kinds a b c d p q (infer of_const v) h = below v d (less v b d (below-is v b h) q)
  where
    less : (x y z : ℕ) → x < y → y ≤ z → x < z
    less x y z f g = omega (arith, f, g)
good-grows kinds a b c d p q l h = h

pub infer-leaf : (kinds : List CanonicalVarKind) (u : TableTrees) (s : Sort) (n : ℕ) → n < unknowns_of u s → is_made (is_good kinds u.ty_vars u.const_vars) terms (leaf (infer s n)) ≡ true
infer-leaf kinds u of_type n h = ap (λ b. b && true) (below n u.ty_vars h)
infer-leaf kinds u of_const n h = ap (λ b. b && true) (below n u.const_vars h)
infer-leaf kinds u of_lifetime n h = refl

pub filled-is : (vs : List Value) (t : Trees) → filled_values vs t ≡ put_in (value_for vs) t
filled-is vs none = refl
filled-is vs (tree l c o) = ap (λ z. put_at_node (value_for vs l) (tree l z none) +++ filled_values vs o) (filled-is vs c) ∙ ap (λ z. put_at_node (value_for vs l) (tree l (put_in (value_for vs) c) none) +++ z) (filled-is vs o)

filled-append : (vs : List Value) (x y : Trees) → filled_values vs (x +++ y) ≡ filled_values vs x +++ filled_values vs y
filled-append vs none y = refl
filled-append vs (tree l c o) y =
    ap (λ z. put_at_node (value_for vs l) (tree l (filled_values vs c) none) +++ z) (filled-append vs o y)
    ∙ sym (append-assoc (put_at_node (value_for vs l) (tree l (filled_values vs c) none)) (filled_values vs o) (filled_values vs y))

-- ---- pairs in turn
abbrev pairs_with : List Value → List (Value × Value) → Worklist
pairs_with vs m = map (λ (p : Value × Value). (p.0.trees, filled_values vs p.1.trees)) m

abbrev AreSingle : List Value → Value × Value → Type 0
AreSingle vs p = Single p.0.trees × Single (filled_values vs p.1.trees)

turn-step : (t : TableTrees) (x y r s : Trees) (todo : Worklist) → Single x → Single y → ((u : TableTrees) → solved_in_turn u r s ≡ in_turn todo u)
    → solved_in_turn t (x +++ r) (y +++ s) ≡ and_then (in_turn todo) (unified t ((x, y) ∷ []))
turn-step t none y r s todo a b f = absurd a
turn-step t (tree l c o) none r s todo a b f = absurd b
turn-step t (tree l c o) (tree m d p) r s todo a b f =
    ap (λ z. option_and_then (λ u. solved_in_turn u z (p +++ s)) (unified t ((tree l c none, tree m d none) ∷ []))) (ap (λ z. z +++ r) a)
    ∙ ap (λ z. option_and_then (λ u. solved_in_turn u r z) (unified t ((tree l c none, tree m d none) ∷ []))) (ap (λ z. z +++ s) b)
    ∙ by (unified t ((tree l c none, tree m d none) ∷ []))
    ∙ ap (λ z. and_then (in_turn todo) (unified t ((tree l c z, tree m d none) ∷ []))) (sym a)
    ∙ ap (λ z. and_then (in_turn todo) (unified t ((tree l c o, tree m d z) ∷ []))) (sym b)
  where
    by : (w : Option TableTrees) → option_and_then (λ u. solved_in_turn u r s) w ≡ and_then (in_turn todo) w
    by None = refl
    by (Some u) = f u

turns-are : (ws os vs : List Value) → have_same_sorts os vs ≡ true → Every (AreSingle ws) (paired os vs) → (t : TableTrees) → solved_in_turn t (trees_of os) (filled_values ws (trees_of vs)) ≡ in_turn (pairs_with ws (paired os vs)) t
turns-are ws [] [] e h t = refl
turns-are ws [] (v ∷ vs) e h t = absurd (false-true e)
turns-are ws (o ∷ os) [] e h t = absurd (false-true e)
turns-are ws (o ∷ os) (v ∷ vs) e h t =
    ap (solved_in_turn t (o.trees +++ trees_of os)) (filled-append ws v.trees (trees_of vs))
    ∙ turn-step t o.trees (filled_values ws v.trees) (trees_of os) (filled_values ws (trees_of vs)) (pairs_with ws (paired os vs)) h.0.0 h.0.1
    (λ u. turns-are ws os vs (right (is_sort o.sort v.sort) _ e) h.1 u)

-- ---- an answer to a goal with these leaves, put into a table
module _ (kinds : List CanonicalVarKind) (t : TableTrees) (ls : List Label) (theirs : AreTheirs (is_good kinds t.ty_vars t.const_vars) ls) (a : AnswerTrees)
    (answers : is_fitting_answer (map leaf_value ls) a ≡ true) where
  abbrev good : Label → Bool
  good l = is_good kinds t.ty_vars t.const_vars l

  abbrev pairs : List (Value × Value)
  pairs = paired (map leaf_value ls) a.values

  abbrev known : ℕ → Option Value
  known i = known_value a (map leaf_value ls) i

  abbrev values : List Value
  values = values_for known t 0 a.kinds

  abbrev grown : TableTrees
  grown = table_for known t 0 a.kinds

  abbrev better : Label → Bool
  better l = is_good kinds grown.ty_vars grown.const_vars l

  better-too : (l : Label) → good l ≡ true → better l ≡ true
  better-too l h = good-grows kinds t.ty_vars t.const_vars grown.ty_vars grown.const_vars (for-more known t 0 a.kinds of_type) (for-more known t 0 a.kinds of_const) l h

  matches : Every (IsMatch good a.kinds) pairs
  matches = all-match good a.kinds ls a.values theirs (left (is_answer_to (map leaf_value ls) a) _ answers) (right (is_answer_to (map leaf_value ls) a) _ answers)

  kind-of : (s : Sort) (o : Option CanonicalVarKind) → is_kind_of s o ≡ true → (k : CanonicalVarKind) × (o ≡ Some k) × (sort_of_kind k ≡ s)
  kind-of s None h = absurd (false-true h)
  kind-of s (Some k) h = (k, refl, is-sort (sort_of_kind k) s h)

  -- the pair of a known value: both are of the variable's sort
  record IsKnownPair (P : Value × Value → Type 0) (s : Sort) (i : ℕ) (v : Value) : Type 0 where
    pub pair : Value × Value
    pub holds : P pair
    pub matching : IsMatch good a.kinds pair
    pub is : pair.0 ≡ v
    pub variable : pair.1.trees ≡ leaf (canonical s i)
    pub sort : pair.1.sort ≡ s

  known-pair : (P : Value × Value → Type 0) → Every P pairs → (s : Sort) (i : ℕ) → is_kind_of s (kind_at a.kinds i) ≡ true → (v : Value) → known i ≡ Some v → IsKnownPair P s i v
  known-pair P h s i e v q =
      let x = of-pair (λ p. P p × IsMatch good a.kinds p) (map leaf_value ls) a.values (both-every P (IsMatch good a.kinds) pairs h matches) i v q in
      let y = fitting-variable a.kinds i x.pair.1.sort x.pair.1.trees x.holds.1.fits x.numbered in
      let k = kind-of s (kind_at a.kinds i) e in
      let j = kind-of x.pair.1.sort (kind_at a.kinds i) y.1 in
      let sort : x.pair.1.sort ≡ s = sym j.2 ∙ ap sort_of_kind (some-kind j.0 k.0 (sym j.1 ∙ k.1)) ∙ k.2 in
      record { pair = x.pair; holds = x.holds.0; matching = x.holds.1; is = x.is; variable = y.0 ∙ ap (λ z. leaf (canonical z i)) sort; sort = sort }
    where
      both-every : (P Q : Value × Value → Type 0) (m : List (Value × Value)) → Every P m → Every Q m → Every (λ p. P p × Q p) m
      both-every P Q [] h g = tt
      both-every P Q (p ∷ m) h g = ((h.0, g.0), both-every P Q m h.1 g.1)

  -- what is put in for a variable
  abbrev Found : Sort → ℕ → Type 0
  Found s i = IsKnownAt known values i (0 + i) ⊎ IsNewAt known t 0 a.kinds i (0 + i) s

  found : (s : Sort) (i : ℕ) → is_kind_of s (kind_at a.kinds i) ≡ true → Found s i
  found s i e = let k = kind-of s (kind_at a.kinds i) e in subst (Found' i) k.2 (value-at known t 0 a.kinds i k.0 k.1)
    where
      Found' : ℕ → Sort → Type 0
      Found' i s = IsKnownAt known values i (0 + i) ⊎ IsNewAt known t 0 a.kinds i (0 + i) s

  every-true : (m : List (Value × Value)) → Every (λ p. Unit {0}) m
  every-true [] = tt
  every-true (p ∷ m) = (tt, every-true m)

  -- the leaf that is put in
  abbrev known-label : (s : Sort) (i : ℕ) → is_kind_of s (kind_at a.kinds i) ≡ true → (x : IsKnownAt known values i (0 + i)) → IsKnownPair (λ p. Unit {0}) s i x.value
  known-label s i e x = known-pair (λ p. Unit {0}) (every-true pairs) s i e x.value (ap known (sym (zero-plus i)) ∙ x.known_is)

  value-known : (s : Sort) (i : ℕ) (v : Value) (l : Label) → slice_get values i ≡ Some v → v ≡ leaf_value l → sort_of l ≡ s → value_for values (canonical s i) ≡ Some (leaf l)
  value-known s i v l e q g =
      ap (if_of_sort s) e ∙ ap (λ (z : Value). if is_sort z.sort s then Some z.trees else None) q ∙ ap (λ z. if is_sort z s then Some (leaf l) else None) g
      ∙ ap (λ b. if b then Some (leaf l) else None) (sort-self s)

  put-leaf : (s : Sort) (i : ℕ) → is_kind_of s (kind_at a.kinds i) ≡ true → IsLeafFor better (value_for values) (canonical s i)
  put-leaf s i e = by (found s i e)
    where
      by : Found s i → IsLeafFor better (value_for values) (canonical s i)
      by (inl x) =
          let y = known-label s i e x in
          let is : x.value ≡ leaf_value y.matching.label = sym y.is ∙ y.matching.is in
          let sort : sort_of y.matching.label ≡ s = ap (λ (v : Value). v.sort) (sym y.matching.is) ∙ y.matching.same_sort ∙ y.sort in
          record {
            label = y.matching.label;
            is = value-known s i x.value y.matching.label x.is is sort;
            sort = sort;
            made = made-more good better better-too terms (leaf y.matching.label) y.matching.made;
          }
      by (inr y) =
          record {
            label = infer s y.number;
            is = value-known s i (leaf_value (infer s y.number)) (infer s y.number) y.is refl refl;
            sort = refl;
            made = infer-leaf kinds grown s y.number y.counted;
          }

  not-canonical : (l : Label) → is_canonical l ≡ false → (s : Sort) (i : ℕ) → l ≡ canonical s i → ⊥
  not-canonical l h s i e = false-true (sym h ∙ ap is_canonical e)

  puts : PutsLeaves (is_variable_of a.kinds) better (value_for values)
  puts = record { leaf_or_stays = case; others = other }
    where
      case : (l : Label) → is_ordinary l ≡ true → is_variable_of a.kinds l ≡ true → IsLeafFor better (value_for values) l ⊎ ((value_for values l ≡ None) × (better l ≡ true))
      case (canonical s i) o h = inl (put-leaf s i h)
      case l o h = inr (refl, open-good kinds a.kinds grown.ty_vars grown.const_vars l (not-canonical l refl) h)

      other : (l : Label) → is_ordinary l ≡ false → value_for values l ≡ None
      other dynamic e = refl
      other (principal x y) e = refl
      other (auto_trait x) e = refl
      other (predicate k) e = refl
      other l e = absurd (false-true (sym e))

  -- the pairs that are made equal are terms
  fitting-made : (v : Value) → is_fitting a.kinds v ≡ true → IsTermOf better (filled_values values v.trees)
  fitting-made v h =
      let made = right (is_a v.sort v.trees) _ h in
      subst (IsTermOf better) (sym (filled-is values v.trees))
      (record {
        single = single-put-in (is_variable_of a.kinds) better (value_for values) puts v.trees made (single-of v.sort v.trees (left (is_a v.sort v.trees) _ h));
        made = made-put-in (is_variable_of a.kinds) better (value_for values) puts terms v.trees made;
      })

  pair-made : (p : Value × Value) → IsMatch good a.kinds p → IsTermPair better (p.0.trees, filled_values values p.1.trees)
  pair-made p x = (
    subst (λ (v : Value). IsTermOf better v.trees) (sym x.is) (record { single = refl; made = made-more good better better-too terms (leaf x.label) x.made }),
    fitting-made p.1 x.fits,
  )

  every-map : (P : Value × Value → Type 0) (Q : Trees × Trees → Type 0) (f : Value × Value → Trees × Trees) → ((p : Value × Value) → P p → Q (f p)) → (m : List (Value × Value)) → Every P m → Every Q (map f m)
  every-map P Q f g [] h = tt
  every-map P Q f g (p ∷ m) h = (g p h.0, every-map P Q f g m h.1)

  every-of : (P Q : Value × Value → Type 0) → ((p : Value × Value) → P p → Q p) → (m : List (Value × Value)) → Every P m → Every Q m
  every-of P Q g [] h = tt
  every-of P Q g (p ∷ m) h = (g p h.0, every-of P Q g m h.1)

  pub pairs-made : Every (IsTermPair better) (pairs_with values pairs)
  pairs-made = every-map (IsMatch good a.kinds) (IsTermPair better) (λ p. (p.0.trees, filled_values values p.1.trees)) pair-made pairs matches

  pub turns : (u : TableTrees) → solved_in_turn u (trees_of (map leaf_value ls)) (filled_values values (trees_of a.values)) ≡ in_turn (pairs_with values pairs) u
  turns u =
      turns-are values (map leaf_value ls) a.values (left (is_answer_to (map leaf_value ls) a) _ answers)
      (every-of (IsMatch good a.kinds) (AreSingle values) (λ p x. ((pair-made p x).0.single, (pair-made p x).1.single)) pairs matches) u

  -- the table with new unknowns
  pub grown-made : IsMadeTable good t → IsMadeTable better grown
  grown-made m =
      record {
        acyclic = subst Acyclic (sym (for-bindings known t 0 a.kinds)) m.acyclic;
        values = subst (Every (IsValue better)) (sym (for-bindings known t 0 a.kinds)) (each-value t.bindings m.values);
        counted = record { types = λ v h. below-is v grown.ty_vars h; consts = λ v h. below-is v grown.const_vars h };
      }
    where
      each-value : (bs : List Binding) → Every (IsValue good) bs → Every (IsValue better) bs
      each-value [] h = tt
      each-value (b ∷ bs) h =
          (record { sort = h.0.sort; known = better-too (infer b.sort b.var) h.0.known; single = h.0.single; same_sort = h.0.same_sort; made = made-more good better better-too terms b.value h.0.made }, each-value bs h.1)

  -- ---- what is put in is read as what is picked
  module _ (r : ChosenTerms) (q : Assignment) (sorted : (k : Sort) (v : ℕ) → sort_of (r.unknowns k v).0 ≡ k) (agree : Every (AgreeAt r q) pairs)
      (new : (s : Sort) (i : ℕ) → (x : IsNewAt known t 0 a.kinds i (0 + i) s) → r.unknowns s x.number ≡ q s i) where
    leaf-read : (s : Sort) → HasValues s → (l : Label) → sort_of l ≡ s → of_sort s (read_with (standing r) (leaf l)) ≡ read_with (standing r) (leaf l)
    leaf-read s v l e = sort-of-sort s (reading_of r l) (reading-sorted r sorted s l v ∙ ap (λ z. is_sort z s) e ∙ sort-self s)

    picked-type : (i : ℕ) → read_with (picked q) (leaf (canonical of_type i)) ≡ tree_of (q of_type i)
    picked-type i = append-none (tree_of (q of_type i))

    picked-const : (i : ℕ) → read_with (picked q) (leaf (canonical of_const i)) ≡ tree_of (q of_const i)
    picked-const i = append-none (tree_of (q of_const i))

    at-type : (p : Value × Value) (i : ℕ) (l : Label) → AgreeAt r q p → p.1.trees ≡ leaf (canonical of_type i) → p.1.sort ≡ of_type → p.0 ≡ leaf_value l → sort_of l ≡ of_type
        → tree_of (q of_type i) ≡ read_with (standing r) (leaf l)
    at-type p i l g e f h s =
        let x = subst (λ (v : Value). IsPicked q of_type (leaf (canonical of_type i)) (read_with (standing r) v.trees)) h (subst (λ z. IsPicked q of_type z (read_with (standing r) p.0.trees)) e (subst (λ z. IsPicked q z p.1.trees (read_with (standing r) p.0.trees)) f g)) in
        sym (picked-type i) ∙ x ∙ leaf-read of_type tt l s

    at-const : (p : Value × Value) (i : ℕ) (l : Label) → AgreeAt r q p → p.1.trees ≡ leaf (canonical of_const i) → p.1.sort ≡ of_const → p.0 ≡ leaf_value l → sort_of l ≡ of_const
        → tree_of (q of_const i) ≡ read_with (standing r) (leaf l)
    at-const p i l g e f h s =
        let x = subst (λ (v : Value). IsPicked q of_const (leaf (canonical of_const i)) (read_with (standing r) v.trees)) h (subst (λ z. IsPicked q of_const z (read_with (standing r) p.0.trees)) e (subst (λ z. IsPicked q z p.1.trees (read_with (standing r) p.0.trees)) f g)) in
        sym (picked-const i) ∙ x ∙ leaf-read of_const tt l s

    -- the leaf that is put in for a variable is read as what is picked for it
    variable-read : (s : Sort) (i : ℕ) → is_kind_of s (kind_at a.kinds i) ≡ true → (l : Label) → value_for values (canonical s i) ≡ Some (leaf l) → picked q (canonical s i) ≡ Some (read_with (standing r) (leaf l))
    variable-read s i e l p = by (found s i e)
      where
        leaf-label : (x y : Label) → Some (leaf x) ≡ Some (leaf y) → x ≡ y
        leaf-label x y e = cc

        at-known : (s : Sort) → is_kind_of s (kind_at a.kinds i) ≡ true → value_for values (canonical s i) ≡ Some (leaf l) → (v : Value) → slice_get values i ≡ Some v → IsKnownPair (AgreeAt r q) s i v → picked q (canonical s i) ≡ Some (read_with (standing r) (leaf l))
        at-known of_type e p v x y =
            let sort : sort_of y.matching.label ≡ of_type = ap (λ (v : Value). v.sort) (sym y.matching.is) ∙ y.matching.same_sort ∙ y.sort in
            let same : y.matching.label ≡ l = leaf-label y.matching.label l (sym (value-known of_type i v y.matching.label x (sym y.is ∙ y.matching.is) sort) ∙ p) in
            ap Some (at-type y.pair i y.matching.label y.holds y.variable y.sort y.matching.is sort ∙ ap (λ z. read_with (standing r) (leaf z)) same)
        at-known of_const e p v x y =
            let sort : sort_of y.matching.label ≡ of_const = ap (λ (v : Value). v.sort) (sym y.matching.is) ∙ y.matching.same_sort ∙ y.sort in
            let same : y.matching.label ≡ l = leaf-label y.matching.label l (sym (value-known of_const i v y.matching.label x (sym y.is ∙ y.matching.is) sort) ∙ p) in
            ap Some (at-const y.pair i y.matching.label y.holds y.variable y.sort y.matching.is sort ∙ ap (λ z. read_with (standing r) (leaf z)) same)
        at-known of_lifetime e p v x y =
            let sort : sort_of y.matching.label ≡ of_lifetime = ap (λ (v : Value). v.sort) (sym y.matching.is) ∙ y.matching.same_sort ∙ y.sort in
            let same : y.matching.label ≡ l = leaf-label y.matching.label l (sym (value-known of_lifetime i v y.matching.label x (sym y.is ∙ y.matching.is) sort) ∙ p) in
            ap Some (sym (read-lifetime r l none (ap (λ z. is_sort (sort_of z) of_lifetime) (sym same) ∙ ap (λ z. is_sort z of_lifetime) sort)))

        at-new : (s : Sort) → value_for values (canonical s i) ≡ Some (leaf l) → (n : ℕ) → slice_get values i ≡ Some (leaf_value (infer s n)) → r.unknowns s n ≡ q s i → picked q (canonical s i) ≡ Some (read_with (standing r) (leaf l))
        at-new of_type p n x g =
            ap Some (ap tree_of (sym g) ∙ sym (append-none (tree_of (r.unknowns of_type n))))
            ∙ ap (λ z. Some (read_with (standing r) (leaf z))) (leaf-label (infer of_type n) l (sym (value-known of_type i (leaf_value (infer of_type n)) (infer of_type n) x refl refl) ∙ p))
        at-new of_const p n x g =
            ap Some (ap tree_of (sym g) ∙ sym (append-none (tree_of (r.unknowns of_const n))))
            ∙ ap (λ z. Some (read_with (standing r) (leaf z))) (leaf-label (infer of_const n) l (sym (value-known of_const i (leaf_value (infer of_const n)) (infer of_const n) x refl refl) ∙ p))
        at-new of_lifetime p n x g =
            ap (λ z. Some (read_with (standing r) (leaf z))) (leaf-label (infer of_lifetime n) l (sym (value-known of_lifetime i (leaf_value (infer of_lifetime n)) (infer of_lifetime n) x refl refl) ∙ p))

        by : Found s i → picked q (canonical s i) ≡ Some (read_with (standing r) (leaf l))
        by (inl x) = at-known s e p x.value x.is (known-pair (AgreeAt r q) agree s i e x.value (ap known (sym (zero-plus i)) ∙ x.known_is))
        by (inr x) = at-new s p x.number x.is (new s i x)

    label-read : (l : Label) → IsGoodLabel (is_variable_of a.kinds) l → IsPutIn (standing r) (picked q) l (value_for values l)
    label-read (canonical s i) g =
        let x = put-leaf s i (g refl) in
        subst (IsPutIn (standing r) (picked q) (canonical s i)) (sym x.is) (variable-read s i (g refl) x.label x.is)
    label-read dynamic g = refl
    label-read (principal x y) g = refl
    label-read (auto_trait x) g = refl
    label-read (predicate k) g = refl
    label-read l g = open-same a.kinds r q l (not-canonical l refl) (g refl)

    filled-read : (t : Trees) → is_made (is_variable_of a.kinds) terms t ≡ true → read_with (standing r) (filled_values values t) ≡ read_with (picked q) t
    filled-read t h =
        ap (read_with (standing r)) (filled-is values t)
        ∙ read-put-each (standing r) (picked q) (value_for values) t (each-label (IsGoodLabel (is_variable_of a.kinds)) (λ l. IsPutIn (standing r) (picked q) l (value_for values l)) label-read t (made-labels (is_variable_of a.kinds) terms t h))

    lifetime-tree : (t : Trees) → is_a of_lifetime t ≡ true → (l : Label) × (t ≡ leaf l) × (is_sort (sort_of l) of_lifetime ≡ true)
    lifetime-tree none h = absurd (false-true h)
    lifetime-tree (tree l c o) h =
        let x = right (is_sort (sort_of l) of_lifetime) _ h in
        (l, ap (λ z. tree l z o) (no-tree c (left (is_no_tree c) _ x)) ∙ ap (tree l none) (no-tree o (right (is_no_tree c) _ x)), left (is_sort (sort_of l) of_lifetime) _ h)

    -- each pair is read as one
    pair-read : (k : Sort) (l : Label) (v : Trees) → sort_of l ≡ k → (is_a k v && is_made (is_variable_of a.kinds) terms v) ≡ true → IsPicked q k v (read_with (standing r) (leaf l)) → read_with (standing r) (leaf l) ≡ read_with (standing r) (filled_values values v)
    pair-read of_type l v s h g = sym (filled-read v (right (is_a of_type v) _ h) ∙ g ∙ leaf-read of_type tt l s)
    pair-read of_const l v s h g = sym (filled-read v (right (is_a of_const v) _ h) ∙ g ∙ leaf-read of_const tt l s)
    pair-read of_lifetime l v s h g =
        let x = lifetime-tree v (left (is_a of_lifetime v) _ h) in
        read-lifetime r l none (ap (λ z. is_sort z of_lifetime) s)
        ∙ sym (filled-read v (right (is_a of_lifetime v) _ h) ∙ ap (read_with (picked q)) x.1 ∙ picked-lifetime q x.0 x.2)

    pair-one : (p : Value × Value) → IsMatch good a.kinds p → AgreeAt r q p → AreOne r (p.0.trees, filled_values values p.1.trees)
    pair-one p x g =
        let sort : sort_of x.label ≡ p.1.sort = ap (λ (v : Value). v.sort) (sym x.is) ∙ x.same_sort in
        let one = pair-read p.1.sort x.label p.1.trees sort x.fits (subst (λ (v : Value). IsPicked q p.1.sort p.1.trees (read_with (standing r) v.trees)) x.is g) in
        ap (λ (v : Value). read_with (standing r) v.trees) x.is ∙ one

    every-one : (m : List (Value × Value)) → Every (IsMatch good a.kinds) m → Every (AgreeAt r q) m → Every (AreOne r) (pairs_with values m)
    every-one [] h g = tt
    every-one (p ∷ m) h g = (pair-one p h.0 g.0, every-one m h.1 g.1)

    pub pairs-one : Every (AreOne r) (pairs_with values pairs)
    pairs-one = every-one pairs matches agree

-- ---- the table that an answer leaves
map-some : (f : TableTrees → TableTrees) (o : Option TableTrees) (u : TableTrees) → option_map f o ≡ Some u → (w : TableTrees) × (o ≡ Some w) × (f w ≡ u)
map-some f None u e = none-some u _ e
map-some f (Some w) u e = (w, refl, some-is (f w) u e)

pub with-constraints-made : (good : Label → Bool) (c : Trees) (w : TableTrees) → IsMadeTable good w → IsMadeTable good (with_constraints c w)
with-constraints-made good c w m = record { acyclic = m.acyclic; values = m.values; counted = record { types = m.counted.types; consts = m.counted.consts } }

module _ (t : FrameTable) (made : IsMadeFrame t) (n : Nested) (a : AnswerTrees) (answers : is_fitting_answer (originals_of t n) a ≡ true) where
  abbrev theirs_of : AreTheirs (good_in t) (goal_leaves (goal_in t n))
  theirs_of = goal-leaves t made n

  abbrev pub known_in : ℕ → Option Value
  known_in i = known t.kinds t.content (goal_leaves (goal_in t n)) theirs_of a answers i

  abbrev pub values_in : List Value
  values_in = values t.kinds t.content (goal_leaves (goal_in t n)) theirs_of a answers

  abbrev pairs_of : List (Value × Value)
  pairs_of = pairs t.kinds t.content (goal_leaves (goal_in t n)) theirs_of a answers

  abbrev pub grown_of : TableTrees
  grown_of = grown t.kinds t.content (goal_leaves (goal_in t n)) theirs_of a answers

  abbrev pub better_in : Label → Bool
  better_in l = is_good t.kinds grown_of.ty_vars grown_of.const_vars l

  abbrev pub todo : Worklist
  todo = pairs_with values_in pairs_of

  abbrev pub opens : HasLifetimes better_in
  opens = lifetimes-good t.kinds grown_of.ty_vars grown_of.const_vars

  -- what is left is what the pairs leave, with constraints
  pub record IsLeft (u : TableTrees) : Type 0 where
    pub before : TableTrees
    pub solved : in_turn todo grown_of ≡ Some before
    pub is : with_constraints (filled_values values_in a.constraints) before ≡ u

  pub is-left : (u : TableTrees) → applied t.content (originals_of t n) a ≡ Some u → IsLeft u
  is-left u e =
      let x = map-some (with_constraints (filled_values values_in a.constraints)) (solved_in_turn grown_of (trees_of (originals_of t n)) (filled_values values_in (trees_of a.values))) u e in
      record { before = x.0; solved = sym (turns t.kinds t.content (goal_leaves (goal_in t n)) theirs_of a answers grown_of) ∙ x.1; is = x.2 }

  pub turned : (u : TableTrees) → in_turn todo grown_of ≡ Some u → InTurn better_in opens grown_of todo u
  turned u e =
      in-turn-narrows better_in opens todo grown_of u (grown-made t.kinds t.content (goal_leaves (goal_in t n)) theirs_of a answers made.table)
      (pairs-made t.kinds t.content (goal_leaves (goal_in t n)) theirs_of a answers) e

  labels-made : (ls : List Label) → AreTheirs (good_in t) ls → AreTheirs better_in ls
  labels-made [] h = tt
  labels-made (l ∷ ls) h = (made-more (good_in t) better_in (better-too t.kinds t.content (goal_leaves (goal_in t n)) theirs_of a answers) terms (leaf l) h.0, labels-made ls h.1)

  left-made : (u : TableTrees) → IsLeft u → IsMadeFrame (with_content t u)
  left-made u x =
      let w = x.before in
      let y = turned w x.solved in
      let same : better_in ≡ is_good t.kinds w.ty_vars w.const_vars =
      ap (λ n. is_good t.kinds n grown_of.const_vars) (sym y.after.ty_vars) ∙ ap (λ n. is_good t.kinds w.ty_vars n) (sym y.after.const_vars) in
      subst (λ v. IsMadeFrame (with_content t v)) x.is
      (record {
        table = with-constraints-made (is_good t.kinds w.ty_vars w.const_vars) (filled_values values_in a.constraints) w (subst (λ g. IsMadeTable g w) same y.after.made);
        leaves = subst (λ g. AreTheirs g t.labels) same (labels-made t.labels made.leaves);
        own = made.own;
      })

-- the table is as the answer leaves it, or as it was
pub put-cases : (t : TableTrees) (originals : List Value) (a : AnswerTrees) (u : TableTrees) → put_into t originals a ≡ Some u
    → ((is_fitting_answer originals a ≡ true) × (applied t originals a ≡ Some u)) ⊎ (t ≡ u)
put-cases t originals a u e = by (is_fitting_answer originals a) refl e
  where
    by : (b : Bool) → is_fitting_answer originals a ≡ b → (if b then applied t originals a else Some t) ≡ Some u → ((is_fitting_answer originals a ≡ true) × (applied t originals a ≡ Some u)) ⊎ (t ≡ u)
    by true h q = inl (h, q)
    by false h q = inr (some-is t u q)

pub put-made : (t : FrameTable) → IsMadeFrame t → (n : Nested) (a : AnswerTrees) (u : TableTrees) → put_into t.content (originals_of t n) a ≡ Some u → IsMadeFrame (with_content t u)
put-made t made n a u e = by (put-cases t.content (originals_of t n) a u e)
  where
    by : ((is_fitting_answer (originals_of t n) a ≡ true) × (applied t.content (originals_of t n) a ≡ Some u)) ⊎ (t.content ≡ u) → IsMadeFrame (with_content t u)
    by (inl x) = left-made t made n a x.0 u (is-left t made n a x.0 u x.1)
    by (inr x) = subst (λ v. IsMadeFrame (with_content t v)) x made

-- ---- nothing is lost that agrees with the answer
module _ (t : FrameTable) (s : ChosenTerms) (q : Assignment) (known : ℕ → Option Value) (ks : List CanonicalVarKind) where
  -- the terms, with what is picked for new unknowns
  abbrev pub further : ChosenTerms
  further = record { own = s.own; slots = s.slots; unknowns = extended s.unknowns q known t.content 0 ks; proper = s.proper }

  further-same : (l : Label) → IsGoodLabel (good_in t) l → GiveOne further.unknowns s.unknowns l
  further-same (infer of_type v) g = extended-old s.unknowns q known t.content 0 ks of_type v (below-is v t.content.ty_vars (g refl))
  further-same (infer of_const v) g = extended-old s.unknowns q known t.content 0 ks of_const v (below-is v t.content.const_vars (g refl))
  further-same l g = tt

  further-read : (x : Trees) → is_made (good_in t) terms x ≡ true → read_with (standing further) x ≡ read_with (standing s) x
  further-read x h = same-read further s refl x (each-label (IsGoodLabel (good_in t)) (GiveOne further.unknowns s.unknowns) further-same x (made-labels (good_in t) terms x h))

  pub further-map : (ls : List Label) → AreTheirs (good_in t) ls → map (reading_of further) ls ≡ map (reading_of s) ls
  further-map [] h = refl
  further-map (l ∷ ls) h = cons _ _ _ _ (further-read (leaf l) h.0) (further-map ls h.1)

  counted-by : (k : Sort) (v : ℕ) → HasValues k → good_in t (infer k v) ≡ true → v < unknowns_of t.content k
  counted-by of_type v h g = below-is v t.content.ty_vars g
  counted-by of_const v h g = below-is v t.content.const_vars g
  counted-by of_lifetime v h g = absurd h

  pub further-holds : (bs : List Binding) → Every (IsValue (good_in t)) bs → Every (UnknownStands s) bs → Every (UnknownStands further) bs
  further-holds [] h g = tt
  further-holds (b ∷ bs) h g = (
    ap tree_of (extended-old s.unknowns q known t.content 0 ks b.sort b.var (counted-by b.sort b.var h.0.sort h.0.known)) ∙ g.0 ∙ sym (further-read b.value h.0.made),
    further-holds bs h.1 g.1,
  )

abbrev pub with_unknowns : ChosenTerms → Assignment → ChosenTerms
with_unknowns s u = record { own = s.own; slots = s.slots; unknowns = u; proper = s.proper }

-- If a response covers an instance, an assignment extended to the new variables makes the two equal.
use Rattle.std.proofs.Common.{◌≡◌, ℕ, zero, suc, ◌+◌, ◌<◌, ◌≤◌, Bool, true, false, refl, ap, sym, ◌∙◌, subst, arith, List, [], ◌∷◌, Option, Some, None, if◌then◌else◌, ◌⊎◌, inl, inr, ◌==◌}
use Rattle.std.specs.Prelude.{unwrap_or, option_map}
use Rattle.std.specs.List.{slice_get}
use Rattle.std.proofs.lemmas.Bool.Decides.{nat_tests}
use Rattle.type_terms.specs.Promised.Label.{Label, Sort, of_type, of_const, of_lifetime, infer, canonical}
use Rattle.type_terms.specs.Promised.Trees.{Trees, none, tree, leaf, ◌+++◌, erase_label, sort_of, is_sort, IsA}
use Rattle.type_terms.specs.Trees.{put_at_node, Single}
use Rattle.type_terms.specs.Promised.Handles.{Entry, types, consts, trees_at}
use Rattle.type_terms.specs.Terms.{Lawful}
use Rattle.type_terms.specs.Promised.Handles.{ArgHeld, ArgsHeld, arg_trees, region_label}
use Rattle.type_terms.specs.Kinds.{args_trees}
use Rattle.type_terms.specs.declared.region.RegionKind.{RegionKind}
use Rattle.type_terms.specs.declared.region.RegionKind.TheVariants.{ReBound}
use Rattle.type_terms.specs.declared.kinds.GenericArgKind.{GenericArgKind}
use Rattle.type_terms.specs.declared.kinds.GenericArgKind.TheVariants.{Lifetime, Ty as AType, Const as AConst}
use Rattle.type_terms.proofs.Sorts.{bound-sort, arg-single}
use Rattle.type_terms.specs.Kept.{is-at}
use Rattle.infer_table.specs.Solutions.{Assignment, tree_of, instance, is_same_variable, IsSorted, Binding, Solves, Equates, HasNoSolution}
use Rattle.infer_table.specs.Content.{Table, variables_of}
use Rattle.infer_table.specs.Unification.{TableTrees, table_trees}
use Rattle.infer_table.specs.declared.canonical.CanonicalVarKind.{CanonicalVarKind}
use Rattle.infer_table.specs.declared.canonical.CanonicalVarKind.TheVariants.{Ty, PlaceholderTy, Const, PlaceholderConst, Region}
use Rattle.infer_table.proofs.SolutionLaws.{is_variable-equal, is_variable-self, instance-append, instance-single}
use Rattle.infer_table.proofs.EquationFacts.{erase-sort}
use Rattle.infer_table.specs.declared.response.CanonicalResponse.{CanonicalResponse}
use Rattle.infer_table.specs.Leaves.{root_label, leaf_label}
use Rattle.infer_table.specs.Values.{Value, sort_of_arg, value_of, values_of, if_of_sort, value_for, filled_values}
use Rattle.infer_table.specs.Raw.{sort_of_kind}
use Rattle.infer_table.specs.Responses.{answer_trees}
use Rattle.infer_table.specs.Applying.{is_numbered, next_unknown, with_unknown, unknowns_of, table_after, values_for, known_value, applied_values}
use Rattle.infer_table.proofs.Values.{own_of, own-value}
use Rattle.infer_table.specs.Covers.{chosen, Agrees, AreNumbered, AreKnown, Continues, IsOfKnown}
use Rattle.type_terms.proofs.TermBasics.{tree-cong, two, is_sort-self}
use Rattle.type_terms.proofs.TypeBasics.{some-is}

node-cong : (n m : Label × Trees) (x y : Trees) → n ≡ m → x ≡ y → tree n.0 n.1 x ≡ tree m.0 m.1 y
node-cong n m x y p q = ap (λ (z : Label × Trees). tree z.0 z.1 x) p ∙ ap (λ z. tree m.0 m.1 z) q

-- ---- what both readings do with lists
pub chosen-append : (q : Assignment) (x y : Trees) → chosen q (x +++ y) ≡ chosen q x +++ chosen q y
chosen-append q none y = refl
chosen-append q (tree (canonical of_type i) c o) y = ap (λ z. tree (q of_type i).0 (q of_type i).1 z) (chosen-append q o y)
chosen-append q (tree (canonical of_const i) c o) y = ap (λ z. tree (q of_const i).0 (q of_const i).1 z) (chosen-append q o y)
chosen-append q (tree l c o) y = ap (λ z. tree (erase_label l) (chosen q c) z) (chosen-append q o y)

chosen-single : (q : Assignment) (t : Trees) → Single t → (n : Label × Trees) × (chosen q t ≡ tree_of n)
chosen-single q none h = absurd h
chosen-single q (tree (canonical of_type i) c o) h = (q of_type i, rw h refl)
chosen-single q (tree (canonical of_const i) c o) h = (q of_const i, rw h refl)
chosen-single q (tree l c o) h = ((erase_label l, chosen q c), rw h refl)

abbrev one_in : Trees → Trees
one_in none = none
one_in (tree l c o) = tree l c none

abbrev rest_in : Trees → Trees
rest_in none = none
rest_in (tree l c o) = o

-- the first trees of two lists, and the rest
heads : (q s : Assignment) (a b x y : Trees) → Single a → Single b → chosen q (a +++ x) ≡ instance s (b +++ y) → (chosen q a ≡ instance s b) × (chosen q x ≡ instance s y)
heads q s a b x y sa sb e =
    let m = chosen-single q a sa in
    let n = instance-single s b sb in
    let both : tree_of m.0 +++ chosen q x ≡ tree_of n.0 +++ instance s y =
    two _ _ _ _ (sym m.1) refl ∙ sym (chosen-append q a x) ∙ e ∙ instance-append s b y ∙ two _ _ _ _ n.1 refl in
    (m.1 ∙ firsts m.0 n.0 (chosen q x) (instance s y) both ∙ sym n.1, rests m.0 n.0 (chosen q x) (instance s y) both)
  where
    firsts : (n m : Label × Trees) (x y : Trees) → tree_of n +++ x ≡ tree_of m +++ y → tree_of n ≡ tree_of m
    firsts n m x y e = ap one_in e

    rests : (n m : Label × Trees) (x y : Trees) → tree_of n +++ x ≡ tree_of m +++ y → x ≡ y
    rests n m x y e = ap rest_in e

pub numbered-parts : (ks : List CanonicalVarKind) (x y : Trees) → AreNumbered ks (x +++ y) → AreNumbered ks x × AreNumbered ks y
numbered-parts ks none y h = (tt, h)
numbered-parts ks (tree (canonical s i) c o) y h = let r = numbered-parts ks o y h.2 in ((h.0, h.1, r.0), r.1)
numbered-parts ks (tree (infer s v) c o) y h = absurd h
numbered-parts ks (tree l c o) y h = let r = numbered-parts ks o y h.1 in ((h.0, r.0), r.1)

pub known-parts : (counts : Sort → ℕ) (x y : Trees) → AreKnown counts (x +++ y) → AreKnown counts x × AreKnown counts y
known-parts counts none y h = (tt, h)
known-parts counts (tree (infer s v) c o) y h = let r = known-parts counts o y h.2 in ((h.0, h.1, r.0), r.1)
known-parts counts (tree l c o) y h = let r = known-parts counts o y h.1 in ((h.0, r.0), r.1)

-- what continues an assignment reads known terms as it does
instance-known : (counts : Sort → ℕ) (s r : Assignment) (t : Trees) → Continues counts s r → AreKnown counts t → instance r t ≡ instance s t
instance-known counts s r none k h = refl
instance-known counts s r (tree (infer of_type v) c o) k h = node-cong (r of_type v) (s of_type v) _ _ (k of_type v h.0) (instance-known counts s r o k h.2)
instance-known counts s r (tree (infer of_const v) c o) k h = node-cong (r of_const v) (s of_const v) _ _ (k of_const v h.0) (instance-known counts s r o k h.2)
instance-known counts s r (tree (infer of_lifetime v) c o) k h = tree-cong _ _ _ _ _ _ refl (instance-known counts s r c k h.1) (instance-known counts s r o k h.2)
instance-known counts s r (tree l c o) k h = tree-cong _ _ _ _ _ _ refl (instance-known counts s r c k h.0) (instance-known counts s r o k h.1)

-- ---- sorts of roots
pub instance-root : (s : Assignment) → IsSorted s → (t : Trees) → sort_of (root_label (instance s t)) ≡ sort_of (root_label t)
instance-root s h none = refl
instance-root s h (tree (infer of_type v) c o) = h of_type v
instance-root s h (tree (infer of_const v) c o) = h of_const v
instance-root s h (tree l c o) = erase-sort l

chosen-root : (q : Assignment) → IsSorted q → (j : Sort) (i : ℕ) → sort_of (root_label (chosen q (leaf (canonical j i)))) ≡ j
chosen-root q h of_type i = h of_type i
chosen-root q h of_const i = h of_const i
chosen-root q h of_lifetime i = refl

pub region-root : (k : RegionKind) → sort_of (region_label k) ≡ of_lifetime
region-root (ReBound j v) = bound-sort of_lifetime j v
region-root k = refl

type-root : (t : Trees) → IsA of_type t → sort_of (root_label t) ≡ of_type
type-root none h = absurd h
type-root (tree l c o) h = h.0

const-root : (t : Trees) → IsA of_const t → sort_of (root_label t) ≡ of_const
const-root none h = absurd h
const-root (tree l c o) h = h.0

pub arg-root : (es : List Entry) → Lawful es → (a : GenericArgKind) → ArgHeld es a → sort_of (root_label (arg_trees es a)) ≡ sort_of_arg a
arg-root es law (Lifetime r) h = region-root r.kind
arg-root es law (AType t) h = type-root (trees_at es t.0) ((law.sorted t.0 _ (is-at es types t.0 h)).as_type refl)
arg-root es law (AConst t) h = const-root (trees_at es t.0) ((law.sorted t.0 _ (is-at es consts t.0 h)).as_const refl)

-- ---- the goal's own value in a variable's place
same-number : (m i : ℕ) → (m == i) ≡ true → m ≡ i
same-number m i e = grind (arith, nat_tests)

canonical-leaf : (s j : Sort) (m i : ℕ) (c o : Trees) → s ≡ j → m ≡ i → c ≡ none → o ≡ none → tree (canonical s m) c o ≡ tree (canonical j i) none none
canonical-leaf s j m i c o p q r w = cc

is-leaf : (ks : List CanonicalVarKind) (i : ℕ) (j : Sort) (a : Trees) → Single a → AreNumbered ks a → is_numbered i (root_label a) ≡ true → option_map sort_of_kind (slice_get ks i) ≡ Some j → a ≡ leaf (canonical j i)
is-leaf ks i j none sa h e g = absurd sa
is-leaf ks i j (tree (canonical s m) c o) sa h e g =
    let m-is : m ≡ i = same-number m i e in
    let s-is : s ≡ j = some-is s j (sym h.0 ∙ ap (λ n. option_map sort_of_kind (slice_get ks n)) m-is ∙ g) in
    canonical-leaf s j m i c o s-is m-is h.1 sa
is-leaf ks i j (tree l c o) sa h e g = cc

-- a value of the goal for variable i, which is of sort j
record IsValueFor (es : List Entry) (q s : Assignment) (counts : Sort → ℕ) (j : Sort) (i : ℕ) (a : GenericArgKind) : Type 0 where
  sort : sort_of_arg a ≡ j
  read : instance s (arg_trees es a) ≡ chosen q (leaf (canonical j i))
  known : AreKnown counts (arg_trees es a)

module _ (es : List Entry) (law : Lawful es) (ks : List CanonicalVarKind) (q s : Assignment) (q-sorted : IsSorted q) (s-sorted : IsSorted s) (counts : Sort → ℕ) (i : ℕ) (j : Sort) (kind : option_map sort_of_kind (slice_get ks i) ≡ Some j) where
  original-is : (vs os : List GenericArgKind) (a : GenericArgKind) → ArgsHeld es vs → ArgsHeld es os → AreNumbered ks (args_trees es vs) → AreKnown counts (args_trees es os)
      → chosen q (args_trees es vs) ≡ instance s (args_trees es os) → own_of es i vs os ≡ Some a → IsValueFor es q s counts j i a
  original-is [] os a hv ho n k e f = cc
  original-is (v ∷ vs) [] a hv ho n k e f = cc
  original-is (v ∷ vs) (o ∷ os) a hv ho n k e f =
      by (is_numbered i (leaf_label es v)) refl f
      (original-is vs os a hv.1 ho.1 (numbered-parts ks (arg_trees es v) (args_trees es vs) n).1 (known-parts counts (arg_trees es o) (args_trees es os) k).1 here.1)
    where
      here : (chosen q (arg_trees es v) ≡ instance s (arg_trees es o)) × (chosen q (args_trees es vs) ≡ instance s (args_trees es os))
      here = heads q s (arg_trees es v) (arg_trees es o) (args_trees es vs) (args_trees es os) (arg-single es law.sorted v hv.0) (arg-single es law.sorted o ho.0) e

      first : is_numbered i (leaf_label es v) ≡ true → IsValueFor es q s counts j i o
      first b =
          let is : arg_trees es v ≡ leaf (canonical j i) = is-leaf ks i j (arg_trees es v) (arg-single es law.sorted v hv.0) (numbered-parts ks (arg_trees es v) (args_trees es vs) n).0 b kind in
          let read : instance s (arg_trees es o) ≡ chosen q (leaf (canonical j i)) = sym here.0 ∙ ap (chosen q) is in
          record {
            sort = sym (arg-root es law o ho.0) ∙ sym (instance-root s s-sorted (arg_trees es o)) ∙ ap (λ z. sort_of (root_label z)) read ∙ chosen-root q q-sorted j i;
            read = read;
            known = (known-parts counts (arg_trees es o) (args_trees es os) k).0;
          }

      by : (b : Bool) → is_numbered i (leaf_label es v) ≡ b → (if is_numbered i (leaf_label es v) then Some o else own_of es i vs os) ≡ Some a
          → (own_of es i vs os ≡ Some a → IsValueFor es q s counts j i a) → IsValueFor es q s counts j i a
      by true b g rest = let same : o ≡ a = some-is o a (sym (ap (λ (x : Bool). if x then Some o else own_of es i vs os) b) ∙ g) in subst (IsValueFor es q s counts j i) same (first b)
      by false b g rest =
          rest (sym (ap (λ (x : Bool). if x then Some o else own_of es i vs os) b) ∙ g)

-- ---- an assignment, continued to the new unknowns
abbrev given : Sort → ℕ → Label × Trees → Assignment → Assignment
given j w n s = λ k v. if is_same_variable j w k v then n else s k v

given-other : (j : Sort) (w : ℕ) (n : Label × Trees) (s : Assignment) (k : Sort) (v : ℕ) → is_same_variable j w k v ≡ false → given j w n s k v ≡ s k v
given-other j w n s k v e = ap (λ (b : Bool). if b then n else s k v) e

given-self : (j : Sort) (w : ℕ) (n : Label × Trees) (s : Assignment) → given j w n s j w ≡ n
given-self j w n s = ap (λ (b : Bool). if b then n else s j w) (is_variable-self j w)

apart : (j k : Sort) (w v : ℕ) → (j ≡ k → w ≡ v → ⊥) → is_same_variable j w k v ≡ false
apart j k w v h = by (is_same_variable j w k v) refl
  where
    by : (b : Bool) → is_same_variable j w k v ≡ b → is_same_variable j w k v ≡ false
    by true e = let same = is_variable-equal j k w v e in absurd (h same.0 same.1)
    by false e = e

given-sorted : (j : Sort) (w : ℕ) (n : Label × Trees) (s : Assignment) → sort_of n.0 ≡ j → IsSorted s → IsSorted (given j w n s)
given-sorted j w n s e h k v = by (is_same_variable j w k v) refl
  where
    by : (b : Bool) → is_same_variable j w k v ≡ b → sort_of (given j w n s k v).0 ≡ k
    by true p = ap (λ (b : Bool). sort_of (if b then n else s k v).0) p ∙ e ∙ (is_variable-equal j k w v p).0
    by false p = ap (λ (b : Bool). sort_of (if b then n else s k v).0) p ∙ h k v

pub grown : (o : Option Value) (t : TableTrees) (k : CanonicalVarKind) (j : Sort) → unknowns_of t j ≤ unknowns_of (table_after o t k) j
grown (Some x) t k j = omega arith
grown None t Ty of_type = omega arith
grown None t Ty of_const = omega arith
grown None t Ty of_lifetime = omega arith
grown None t PlaceholderTy of_type = omega arith
grown None t PlaceholderTy of_const = omega arith
grown None t PlaceholderTy of_lifetime = omega arith
grown None t Const of_type = omega arith
grown None t Const of_const = omega arith
grown None t Const of_lifetime = omega arith
grown None t PlaceholderConst of_type = omega arith
grown None t PlaceholderConst of_const = omega arith
grown None t PlaceholderConst of_lifetime = omega arith
grown None t Region of_type = omega arith
grown None t Region of_const = omega arith
grown None t Region of_lifetime = omega arith

one-more : (t : TableTrees) (k : CanonicalVarKind) → unknowns_of (with_unknown t k) (sort_of_kind k) ≡ unknowns_of t (sort_of_kind k) + 1
one-more t Ty = refl
one-more t PlaceholderTy = refl
one-more t Const = refl
one-more t PlaceholderConst = refl
one-more t Region = refl

-- the next unknown of a kind
abbrev unknown_value : Sort → ℕ → Value
unknown_value j v = record { sort = j; trees = leaf (infer j v) }

next-is : (t : TableTrees) (k : CanonicalVarKind) → next_unknown t k ≡ unknown_value (sort_of_kind k) (unknowns_of t (sort_of_kind k))
next-is t Ty = refl
next-is t PlaceholderTy = refl
next-is t Const = refl
next-is t PlaceholderConst = refl
next-is t Region = refl

module _ (known : ℕ → Option Value) (q : Assignment) where
  abbrev with_choice : Option Value → TableTrees → ℕ → CanonicalVarKind → Assignment → Assignment
  with_choice (Some x) t i k s = s
  with_choice None t i k s = given (sort_of_kind k) (unknowns_of t (sort_of_kind k)) (q (sort_of_kind k) i) s

  -- each new unknown is given what is chosen for its variable
  abbrev continued : TableTrees → ℕ → List CanonicalVarKind → Assignment → Assignment
  continued t i [] s = s
  continued t i (k ∷ ks) s = with_choice (known i) t i k (continued (table_after (known i) t k) (i + 1) ks s)

  choice-keeps : (o : Option Value) (t : TableTrees) (i : ℕ) (k : CanonicalVarKind) (s : Assignment) (j : Sort) (v : ℕ) → v < unknowns_of t j → with_choice o t i k s j v ≡ s j v
  choice-keeps (Some x) t i k s j v h = refl
  choice-keeps None t i k s j v h =
      given-other (sort_of_kind k) (unknowns_of t (sort_of_kind k)) (q (sort_of_kind k) i) s j v
      (apart (sort_of_kind k) j (unknowns_of t (sort_of_kind k)) v (λ p e. let same : unknowns_of t (sort_of_kind k) ≡ unknowns_of t j = ap (unknowns_of t) p in omega (arith, same, e, h)))

  choice-above : (o : Option Value) (t : TableTrees) (i : ℕ) (k : CanonicalVarKind) (s : Assignment) (j : Sort) (v : ℕ) → unknowns_of (table_after o t k) j ≤ v → with_choice o t i k s j v ≡ s j v
  choice-above (Some x) t i k s j v h = refl
  choice-above None t i k s j v h =
      given-other (sort_of_kind k) (unknowns_of t (sort_of_kind k)) (q (sort_of_kind k) i) s j v
      (apart (sort_of_kind k) j (unknowns_of t (sort_of_kind k)) v
      (λ p e. let same : unknowns_of (with_unknown t k) (sort_of_kind k) ≡ unknowns_of (with_unknown t k) j = ap (unknowns_of (with_unknown t k)) p in let more = one-more t k in omega (arith, same, more, e, h)))

  continued-keeps : (t : TableTrees) (i : ℕ) (ks : List CanonicalVarKind) (s : Assignment) → Continues (unknowns_of t) s (continued t i ks s)
  continued-keeps t i [] s j v h = refl
  continued-keeps t i (k ∷ ks) s j v h =
      let after = table_after (known i) t k in
      let le = grown (known i) t k j in
      let lt : v < unknowns_of after j = omega (arith, le, h) in
      choice-keeps (known i) t i k (continued after (i + 1) ks s) j v h ∙ continued-keeps after (i + 1) ks s j v lt

  choice-sorted : (o : Option Value) (t : TableTrees) (i : ℕ) (k : CanonicalVarKind) (s : Assignment) → IsSorted q → IsSorted s → IsSorted (with_choice o t i k s)
  choice-sorted (Some x) t i k s g h = h
  choice-sorted None t i k s g h = given-sorted (sort_of_kind k) (unknowns_of t (sort_of_kind k)) (q (sort_of_kind k) i) s (g (sort_of_kind k) i) h

  continued-sorted : (t : TableTrees) (i : ℕ) (ks : List CanonicalVarKind) (s : Assignment) → IsSorted q → IsSorted s → IsSorted (continued t i ks s)
  continued-sorted t i [] s g h = h
  continued-sorted t i (k ∷ ks) s g h =
      choice-sorted (known i) t i k (continued (table_after (known i) t k) (i + 1) ks s) g (continued-sorted (table_after (known i) t k) (i + 1) ks s g h)

  -- a new unknown, which the assignment gives what is chosen for variable i
  record IsChosen (S : Assignment) (t : TableTrees) (j : Sort) (i : ℕ) (x : Value) : Type 0 where
    var : ℕ
    is : x ≡ unknown_value j var
    new : unknowns_of t j ≤ var
    chosen_for : S j var ≡ q j i

  abbrev Put : Assignment → TableTrees → Sort → ℕ → Value → Type 0
  Put S t j i x = (known i ≡ Some x) ⊎ IsChosen S t j i x

  record PutAt (S : Assignment) (t : TableTrees) (values : List Value) (j : Sort) (i n : ℕ) : Type 0 where
    value : Value
    at : slice_get values n ≡ Some value
    put : Put S t j i value

  here : (o : Option Value) (t : TableTrees) (i : ℕ) (k : CanonicalVarKind) (s : Assignment) → known i ≡ o → Put (with_choice o t i k s) t (sort_of_kind k) i (unwrap_or o (next_unknown t k))
  here (Some x) t i k s e = inl e
  here None t i k s e = inr (record {
    var = unknowns_of t (sort_of_kind k);
    is = next-is t k;
    new = omega arith;
    chosen_for = given-self (sort_of_kind k) (unknowns_of t (sort_of_kind k)) (q (sort_of_kind k) i) s;
  })

  later : (o : Option Value) (t : TableTrees) (i : ℕ) (k : CanonicalVarKind) (s : Assignment) (j : Sort) (m : ℕ) (x : Value) → Put s (table_after o t k) j m x → Put (with_choice o t i k s) t j m x
  later o t i k s j m x (inl e) = inl e
  later o t i k s j m x (inr c) = inr (record {
    var = c.var;
    is = c.is;
    new = let le = grown o t k j in let new = c.new in omega (arith, le, new);
    chosen_for = choice-above o t i k s j c.var c.new ∙ c.chosen_for;
  })

  put-at : (t : TableTrees) (i : ℕ) (ks : List CanonicalVarKind) (s : Assignment) (n : ℕ) (j : Sort) → option_map sort_of_kind (slice_get ks n) ≡ Some j → PutAt (continued t i ks s) t (values_for known t i ks) j (i + n) n
  put-at t i [] s n j e = cc
  put-at t i (k ∷ ks) s zero j e =
      let same : sort_of_kind k ≡ j = some-is (sort_of_kind k) j e in
      let place : i ≡ i + 0 = omega arith in
      record {
        value = unwrap_or (known i) (next_unknown t k);
        at = refl;
        put = subst (λ (m : ℕ). Put (continued t i (k ∷ ks) s) t j m (unwrap_or (known i) (next_unknown t k))) place
            (subst (λ (y : Sort). Put (continued t i (k ∷ ks) s) t y i (unwrap_or (known i) (next_unknown t k))) same
            (here (known i) t i k (continued (table_after (known i) t k) (i + 1) ks s) refl));
      }
  put-at t i (k ∷ ks) s (suc n) j e =
      let after = table_after (known i) t k in
      let rest = put-at after (i + 1) ks s n j e in
      let place : i + 1 + n ≡ i + suc n = omega arith in
      record {
        value = rest.value;
        at = rest.at;
        put = subst (λ (m : ℕ). Put (continued t i (k ∷ ks) s) t j m rest.value) place (later (known i) t i k (continued after (i + 1) ks s) j (i + 1 + n) rest.value rest.put);
      }

-- ---- what is put in reads as what is chosen
chosen-node : (q : Assignment) (j : Sort) (i : ℕ) (c o : Trees) → c ≡ none → chosen q (leaf (canonical j i)) +++ chosen q o ≡ chosen q (tree (canonical j i) c o)
chosen-node q of_type i c o h = refl
chosen-node q of_const i c o h = refl
chosen-node q of_lifetime i c o h = ap (λ z. tree (erase_label (canonical of_lifetime i)) (chosen q z) (chosen q o)) (sym h)

record IsRead (W : List Value) (q S : Assignment) (j : Sort) (i : ℕ) : Type 0 where
  trees : Trees
  put : value_for W (canonical j i) ≡ Some trees
  read : instance S trees ≡ chosen q (leaf (canonical j i))

module _ (W : List Value) (ks : List CanonicalVarKind) (q S : Assignment) (put : (i : ℕ) (j : Sort) → option_map sort_of_kind (slice_get ks i) ≡ Some j → IsRead W q S j i) where
  filled-chosen : (t : Trees) → AreNumbered ks t → instance S (filled_values W t) ≡ chosen q t
  filled-chosen none h = refl
  filled-chosen (tree (canonical j i) c o) h =
      let p = put i j h.0 in
      ap (λ v. instance S (put_at_node v (tree (canonical j i) (filled_values W c) none) +++ filled_values W o)) p.put
      ∙ instance-append S p.trees (filled_values W o) ∙ two _ _ _ _ p.read (filled-chosen o h.2) ∙ chosen-node q j i c o h.1
  filled-chosen (tree (infer k v) c o) h = absurd h
  filled-chosen (tree l c o) h = tree-cong _ _ _ _ _ _ refl (filled-chosen c h.0) (filled-chosen o h.1)

if-of-sort : (j : Sort) (x : Value) → x.sort ≡ j → if_of_sort j (Some x) ≡ Some x.trees
if-of-sort j x e = ap (λ (b : Bool). if b then Some x.trees else None) (ap (λ (s : Sort). is_sort s j) e ∙ is_sort-self j)

unknown-read : (q S : Assignment) (j : Sort) (v i : ℕ) → S j v ≡ q j i → instance S (leaf (infer j v)) ≡ chosen q (leaf (canonical j i))
unknown-read q S of_type v i e = ap tree_of e
unknown-read q S of_const v i e = ap tree_of e
unknown-read q S of_lifetime v i e = refl

none-some : {A : Type 0} (x : A) → None ≡ Some x → ⊥
none-some x e = cc

-- an assignment that continues the first one, and reads the values as what is put in
record IsContinued (counts : Sort → ℕ) (s : Assignment) (a b : Trees) : Type 0 where
  to : Assignment
  sorted : IsSorted to
  continues : Continues counts s to
  equal : instance to a ≡ instance to b

-- a table and its trees have the same unknowns
pub same-unknowns : (es : List Entry) (t : Table) → ◌≡◌ {A = Sort → ℕ} (unknowns_of (table_trees es t)) (variables_of t)
same-unknowns es t = λ i k. each k i
  where
    each : (k : Sort) → unknowns_of (table_trees es t) k ≡ variables_of t k
    each of_type = refl
    each of_const = refl
    each of_lifetime = refl

module _ (es : List Entry) (law : Lawful es) (t : Table) (originals : List GenericArgKind) (r : CanonicalResponse) (s : Assignment) (s-sorted : IsSorted s)
    (ho : ArgsHeld es originals) (hv : ArgsHeld es r.var_values.items) (n : AreNumbered r.variables.items (args_trees es r.var_values.items)) (k : AreKnown (variables_of t) (args_trees es originals)) where
  covers : Agrees (args_trees es r.var_values.items) (instance s (args_trees es originals))
      → IsContinued (variables_of t) s (args_trees es originals) (filled_values (applied_values (table_trees es t) (values_of es originals) (answer_trees es r)) (args_trees es r.var_values.items))
  covers (q, q-sorted, e) = record {
    to = S;
    sorted = continued-sorted known q (table_trees es t) 0 ks s q-sorted s-sorted;
    continues = keeps;
    equal = instance-known (variables_of t) s S (args_trees es originals) keeps k ∙ sym e ∙ sym (filled-chosen W ks q S read (args_trees es r.var_values.items) n);
  }
    where
      known : ℕ → Option Value
      known = known_value (answer_trees es r) (values_of es originals)

      ks : List CanonicalVarKind
      ks = r.variables.items

      W : List Value
      W = applied_values (table_trees es t) (values_of es originals) (answer_trees es r)

      S : Assignment
      S = continued known q (table_trees es t) 0 ks s

      keeps : Continues (variables_of t) s S
      keeps = subst (λ (counts : Sort → ℕ). Continues counts s S) (same-unknowns es t) (continued-keeps known q (table_trees es t) 0 ks s)

      own : (i : ℕ) (j : Sort) (x : Value) → option_map sort_of_kind (slice_get ks i) ≡ Some j → (f : Option GenericArgKind) → own_of es i r.var_values.items originals ≡ f → option_map (value_of es) f ≡ Some x
          → (x.sort ≡ j) × (instance S x.trees ≡ chosen q (leaf (canonical j i)))
      own i j x kind None f g = absurd (none-some x g)
      own i j x kind (Some a) f g =
          let same : value_of es a ≡ x = some-is (value_of es a) x g in
          let is = original-is es law ks q s q-sorted s-sorted (variables_of t) i j kind r.var_values.items originals a hv ho n k e f in
          (ap (λ (y : Value). y.sort) (sym same) ∙ is.sort, ap (λ (y : Value). instance S y.trees) (sym same) ∙ instance-known (variables_of t) s S (arg_trees es a) keeps is.known ∙ is.read)

      by : (i : ℕ) (j : Sort) (x : Value) → option_map sort_of_kind (slice_get ks i) ≡ Some j → Put known q S (table_trees es t) j i x → (x.sort ≡ j) × (instance S x.trees ≡ chosen q (leaf (canonical j i)))
      by i j x kind (inl g) = own i j x kind (own_of es i r.var_values.items originals) refl (own-value es i r.var_values.items originals ∙ g)
      by i j x kind (inr c) = (ap (λ (y : Value). y.sort) c.is, ap (λ (y : Value). instance S y.trees) c.is ∙ unknown-read q S j c.var i c.chosen_for)

      read : (i : ℕ) (j : Sort) → option_map sort_of_kind (slice_get ks i) ≡ Some j → IsRead W q S j i
      read i j kind =
          let p = put-at known q (table_trees es t) 0 ks s i j kind in
          let place : 0 + i ≡ i = omega arith in
          let put : Put known q S (table_trees es t) j i p.value = subst (λ (m : ℕ). Put known q S (table_trees es t) j m p.value) place p.put in
          let is = by i j p.value kind put in
          record { trees = p.value.trees; put = ap (if_of_sort j) p.at ∙ if-of-sort j p.value is.0; read = is.1 }

  -- an answer that is applied keeps the solutions that agree with it
  pub applies : (new : List Binding) → (bs : List Binding) → IsOfKnown (variables_of t) bs → Solves s bs → Equates bs new (args_trees es originals) (filled_values (applied_values (table_trees es t) (values_of es originals) (answer_trees es r)) (args_trees es r.var_values.items))
      → Agrees (args_trees es r.var_values.items) (instance s (args_trees es originals)) → (u : Assignment) × Continues (variables_of t) s u × Solves u new
  applies new bs own h e g =
      let c = covers g in
      (c.to, c.continues, e.all c.to (own s c.to h c.sorted c.continues) c.equal)

  -- one that is refused agrees with none
  pub refuses : (bs : List Binding) → IsOfKnown (variables_of t) bs → Solves s bs → HasNoSolution bs (args_trees es originals) (filled_values (applied_values (table_trees es t) (values_of es originals) (answer_trees es r)) (args_trees es r.var_values.items))
      → Agrees (args_trees es r.var_values.items) (instance s (args_trees es originals)) → ⊥
  refuses bs own h e g =
      let c = covers g in
      e c.to (own s c.to h c.sorted c.continues) c.equal

-- ---- tables that speak of their own unknowns
pub known-empty : (counts : Sort → ℕ) → IsOfKnown counts []
known-empty counts s r h g k = g

pub known-later : (counts more : Sort → ℕ) (bs : List Binding) → ((k : Sort) → counts k ≤ more k) → IsOfKnown counts bs → IsOfKnown more bs
known-later counts more bs le own s r h g k = own s r h g (λ j v lt. let l = le j in let lt2 : v < more j = omega (arith, l, lt) in k j v lt2)

pub known-equates : (counts : Sort → ℕ) (old new : List Binding) (a b : Trees) → Equates old new a b → AreKnown counts a → AreKnown counts b → IsOfKnown counts old → IsOfKnown counts new
known-equates counts old new a b e ka kb own s r h g k =
    let was = e.only s h in
    e.all r (own s r was.0 g k) (instance-known counts s r a k ka ∙ was.1 ∙ sym (instance-known counts s r b k kb))

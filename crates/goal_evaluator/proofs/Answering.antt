-- Responses over the tables of frames preserve what the table allows.
use Rattle.std.proofs.Common.{◌≡◌, ℕ, zero, suc, ◌+◌, ◌==◌, ◌≤◌, arith, Bool, true, false, not, ◌&&◌, ◌||◌, List, [], ◌∷◌, map, refl, sym, ◌∙◌, ap, subst, Some, if◌then◌else◌, is_some, ◌⊎◌, inl, inr}
use Rattle.std.proofs.lemmas.Bool.Decides.{nat_tests}
use Rattle.std.specs.Prelude.{IsSome}
use Rattle.std.proofs.lemmas.Bool.{eqb-true}
use Rattle.type_terms.specs.Promised.Label.{Label, Sort, of_type, of_const, of_lifetime, infer, param, placeholder, canonical, bound, static}
use Rattle.type_terms.specs.Promised.Trees.{Trees, none, tree, leaf, ◌+++◌, sort_of, is_sort}
use Rattle.type_terms.specs.Trees.{is_a}
use Rattle.type_terms.specs.Codes.{same_label}
use Rattle.type_terms.proofs.Matching.{same-label-sound}
use Rattle.infer_table.specs.Canonical.{OpenKinds, kind_of_leaf, StandsIn, HasNoCanonical, is_label_among, place_of, canonical_label, relabeled}
use Rattle.infer_table.specs.Solutions.{Assignment, tree_of, resolved, HasValues}
use Rattle.infer_table.proofs.CanonicalLaws.{leaves-hold}
use Rattle.infer_table.specs.declared.canonical.CanonicalVarKind.{CanonicalVarKind}
use Rattle.infer_table.specs.declared.canonical.CanonicalVarKind.TheVariants.{Ty, PlaceholderTy, Const, PlaceholderConst, Region}
use Rattle.infer_table.specs.Values.{Value}
use Rattle.goal_evaluator.specs.Lists.{Every}
use Rattle.infer_table.specs.Responses.{AnswerTrees}
use Rattle.goal_evaluator.specs.Instances.{read_with, default_label, of_sort, is_place, as_place, first_term, other_terms, term_at}
use Rattle.type_terms.specs.Made.{terms, is_made}
use Rattle.infer_table.specs.declared.certainty.Certainty.{Certainty}
use Rattle.infer_table.specs.declared.certainty.Certainty.TheVariants.{Yes, Maybe}
use Rattle.infer_table.specs.declared.certainty.MaybeCause.TheVariants.{Ambiguity, Overflow}
use Rattle.infer_table.specs.Raw.{variables_from, variable_value}
use Rattle.infer_table.proofs.SolutionLaws.{is_sort-equal as is-sort}
use Rattle.goal_evaluator.specs.Content.{Values, ChosenTerms, standing, reading_of}
use Rattle.goal_evaluator.specs.FrameTables.{is_good, FrameTable, AllowsApart, FitPlaceholders, HaveValues, IsOwn, AreOwn, label_at}
use Rattle.goal_evaluator.specs.TableAnswers.{is_variable_itself, are_variables, has_values, picked, IsPicked, ArePicked, IsInstanceOfAnswer, own_labels, own_values, joined, answer_leaves, numbered, value_numbered, respond}
use Rattle.type_terms.proofs.Made.{false-true, left, right}
use Rattle.goal_evaluator.proofs.Reading.{append-none, read-leaf, EachLabel, Carries, read-relabeled}
use Rattle.goal_evaluator.proofs.TableBeginning.{node_of, node-is}
use Rattle.goal_evaluator.proofs.Questions.{place-is-a, reading-sorted, sort-of-sort, read-resolved, clean-resolved, excludes-canonical, made-clean, some-none}
use Rattle.infer_table.proofs.WithoutCanonical.{IsNoCanonical, clean-parts}
use Rattle.type_terms.proofs.TermBasics.{is_sort-self}
use Rattle.type_terms.proofs.NumberBasics.{number-self as self-number}

-- ---- an answer without values agrees with all
pub not-false : (b : Bool) → not b ≡ false → b ≡ true
not-false true e = refl
not-false false e = absurd (false-true (sym e))

pub variable-is : (i : ℕ) (k : Sort) (t : Trees) → is_variable_itself i k t ≡ true → t ≡ leaf (canonical k i)
variable-is i k (tree (canonical s j) none none) h =
    let e : k ≡ s = is-sort k s (left (is_sort k s) _ h) in
    let n : i ≡ j = eqb-true i j (right (is_sort k s) _ h) in
    ap (λ z. leaf (canonical z j)) (sym e) ∙ ap (λ z. leaf (canonical k z)) (sym n)
variable-is i k t h = absurd (false-true h)

-- for each variable the term at the place of the value that it is
abbrev chosen_from : ℕ → List Value → List Trees → Assignment
chosen_from n [] ts k i = node_of k (leaf (default_label k))
chosen_from n (v ∷ vs) ts k i =
    if is_variable_itself n v.sort v.trees
    then (if i == n then node_of k (of_sort k (first_term ts)) else chosen_from (suc n) vs (other_terms ts) k i)
    else chosen_from n vs (other_terms ts) k i

chosen-sorted : (n : ℕ) (vs : List Value) (ts : List Trees) (k : Sort) (i : ℕ) → sort_of (chosen_from n vs ts k i).0 ≡ k
chosen-sorted n [] ts of_type i = refl
chosen-sorted n [] ts of_const i = refl
chosen-sorted n [] ts of_lifetime i = refl
chosen-sorted n (v ∷ vs) ts k i = by (is_variable_itself n v.sort v.trees) (i == n) (chosen-sorted (suc n) vs (other_terms ts) k i) (chosen-sorted n vs (other_terms ts) k i)
  where
    by : (b c : Bool) → sort_of (chosen_from (suc n) vs (other_terms ts) k i).0 ≡ k → sort_of (chosen_from n vs (other_terms ts) k i).0 ≡ k
        → sort_of (if b then (if c then node_of k (of_sort k (first_term ts)) else chosen_from (suc n) vs (other_terms ts) k i) else chosen_from n vs (other_terms ts) k i).0 ≡ k
    by true true p q = (node-is k (first_term ts)).sort
    by true false p q = p
    by false c p q = q

variable-picked : (q : Assignment) (i : ℕ) (k : Sort) (x : Trees) → q k i ≡ node_of k (of_sort k x) → IsPicked q k (leaf (canonical k i)) x
variable-picked q i of_lifetime x e = tt
variable-picked q i of_type x e = append-none (tree_of (q of_type i)) ∙ ap tree_of e ∙ (node-is of_type x).whole
variable-picked q i of_const x e = append-none (tree_of (q of_const i)) ∙ ap tree_of e ∙ (node-is of_const x).whole

lifetime-picked : (q : Assignment) (k : Sort) (t x : Trees) → is_sort k of_lifetime ≡ true → IsPicked q k t x
lifetime-picked q k t x h = subst (λ z. IsPicked q z t x) (sym (is-sort k of_lifetime h)) tt

other-number : (i n : ℕ) → suc n ≤ i → (i == n) ≡ false
other-number i n h = grind (arith, nat_tests, h)

variables-picked : (q : Assignment) (n : ℕ) (vs : List Value) (ts : List Trees) → ((k : Sort) (i : ℕ) → n ≤ i → q k i ≡ chosen_from n vs ts k i) → are_variables n vs ≡ true → ArePicked q vs ts
variables-picked q n [] ts h e = tt
variables-picked q n (v ∷ vs) ts h e = by (is_variable_itself n v.sort v.trees) refl h e (λ f g. variables-picked q (suc n) vs (other_terms ts) f g) (λ f g. variables-picked q n vs (other_terms ts) f g)
  where
    by : (b : Bool) → is_variable_itself n v.sort v.trees ≡ b
        → ((k : Sort) (i : ℕ) → n ≤ i → q k i ≡ (if b then (if i == n then node_of k (of_sort k (first_term ts)) else chosen_from (suc n) vs (other_terms ts) k i) else chosen_from n vs (other_terms ts) k i))
        → (if b then are_variables (suc n) vs else (is_sort v.sort of_lifetime && are_variables n vs)) ≡ true
        → (((k : Sort) (i : ℕ) → suc n ≤ i → q k i ≡ chosen_from (suc n) vs (other_terms ts) k i) → are_variables (suc n) vs ≡ true → ArePicked q vs (other_terms ts))
        → (((k : Sort) (i : ℕ) → n ≤ i → q k i ≡ chosen_from n vs (other_terms ts) k i) → are_variables n vs ≡ true → ArePicked q vs (other_terms ts))
        → IsPicked q v.sort v.trees (first_term ts) × ArePicked q vs (other_terms ts)
    by true p f g next same = (
      subst (λ z. IsPicked q v.sort z (first_term ts)) (sym (variable-is n v.sort v.trees p))
          (variable-picked q n v.sort (first_term ts) (f v.sort n (at-least n) ∙ ap (λ z. if z then node_of v.sort (of_sort v.sort (first_term ts)) else chosen_from (suc n) vs (other_terms ts) v.sort n) (self-number n))),
      next (λ k i m. f k i (less n i m) ∙ ap (λ z. if z then node_of k (of_sort k (first_term ts)) else chosen_from (suc n) vs (other_terms ts) k i) (other-number i n m)) g,
    )
      where
        at-least : (n : ℕ) → n ≤ n
        at-least n = omega arith

        less : (n i : ℕ) → suc n ≤ i → n ≤ i
        less n i m = omega (arith, m)
    by false p f g next same = (
      lifetime-picked q v.sort v.trees (first_term ts) (left (is_sort v.sort of_lifetime) _ g),
      same f (right (is_sort v.sort of_lifetime) _ g),
    )

pub bare-agrees : (a : AnswerTrees) → has_values a ≡ false → (v : Values) → IsInstanceOfAnswer a v
bare-agrees a h v = (
  chosen_from 0 a.values v.terms,
  chosen-sorted 0 a.values v.terms,
  variables-picked (chosen_from 0 a.values v.terms) 0 a.values v.terms (λ k i l. refl) (not-false (are_variables 0 a.values) h),
)

-- ---- what a table answers is an instance for all that it allows
pub stands-left : (kind : OpenKinds) (a b : Trees) (l : Label) → StandsIn kind a l → StandsIn kind (a +++ b) l
stands-left kind none b l h = absurd h
stands-left kind (tree m c o) b l (inl e) = inl e
stands-left kind (tree m c o) b l (inr (inl h)) = inr (inl h)
stands-left kind (tree m c o) b l (inr (inr h)) = inr (inr (stands-left kind o b l h))

stands-right : (kind : OpenKinds) (a b : Trees) (l : Label) → StandsIn kind b l → StandsIn kind (a +++ b) l
stands-right kind none b l h = h
stands-right kind (tree m c o) b l h = inr (inr (stands-right kind o b l h))

term-label : (l : Label) (ls : List Label) → is_label_among l ls ≡ true → label_at ls (place_of l ls) ≡ l
term-label l [] h = absurd (false-true h)
term-label l (m ∷ ms) h = by (same_label m l) refl h (term-label l ms)
  where
    by : (b : Bool) → same_label m l ≡ b → (b || is_label_among l ms) ≡ true → (is_label_among l ms ≡ true → label_at ms (place_of l ms) ≡ l)
        → label_at (m ∷ ms) (if b then zero else suc (place_of l ms)) ≡ l
    by true e q r = same-label-sound m l e
    by false e q r = r q

-- what is chosen for the variables of the answer: what stands for the leaves
abbrev leaf_terms : ChosenTerms → List Label → Assignment
leaf_terms s ls k i = node_of k (of_sort k (reading_of s (label_at ls i)))

module _ (s : ChosenTerms) (sorted : (k : Sort) (v : ℕ) → sort_of (s.unknowns k v).0 ≡ k) (ls : List Label) where
  picked-leaf : (k : Sort) (l : Label) (x : Trees) → HasValues k → sort_of l ≡ k → standing s l ≡ Some x → is_label_among l ls ≡ true → Some (tree_of (leaf_terms s ls k (place_of l ls))) ≡ standing s l
  picked-leaf k l x v e h a =
      let sort : is_a k (reading_of s l) ≡ true = reading-sorted s sorted k l v ∙ ap (λ z. is_sort z k) e ∙ is_sort-self k in
      ap Some ((node-is k (reading_of s (label_at ls (place_of l ls)))).whole ∙ ap (λ z. of_sort k (reading_of s z)) (term-label l ls a)
      ∙ sort-of-sort k (reading_of s l) sort ∙ read-leaf (standing s) l x h) ∙ sym h

  abbrev IsListed : Label → Type 0
  IsListed l = IsSome (kind_of_leaf l) → is_label_among l ls ≡ true

  abbrev Picks : Label → Label → Type 0
  Picks l m = Carries (picked (leaf_terms s ls)) (standing s) l m

  open-picks : (l m : Label) (x : Trees) → standing s l ≡ Some x → picked (leaf_terms s ls) m ≡ standing s l → Picks l m
  open-picks l m x h e = record { stands = e; erased = λ n. some-none x _ (sym h ∙ n) }

  same-picks : (l : Label) → picked (leaf_terms s ls) l ≡ standing s l → Picks l l
  same-picks l e = record { stands = e; erased = λ n. refl }

  picks : (l : Label) → IsNoCanonical l → IsListed l → Picks l (if is_some (kind_of_leaf l) then canonical_label ls l else l)
  picks (canonical k i) c h = absurd c
  picks (infer of_type v) c h = let x = tree_of (s.unknowns of_type v) in open-picks (infer of_type v) _ x refl (picked-leaf of_type (infer of_type v) x tt refl refl (h refl))
  picks (infer of_const v) c h = let x = tree_of (s.unknowns of_const v) in open-picks (infer of_const v) _ x refl (picked-leaf of_const (infer of_const v) x tt refl refl (h refl))
  picks (infer of_lifetime v) c h = open-picks (infer of_lifetime v) _ (leaf static) refl refl
  picks (param of_type v) c h = open-picks (param of_type v) _ (leaf (param of_type v)) refl (picked-leaf of_type (param of_type v) (leaf (param of_type v)) tt refl refl (h refl))
  picks (param of_const v) c h = open-picks (param of_const v) _ (leaf (param of_const v)) refl (picked-leaf of_const (param of_const v) (leaf (param of_const v)) tt refl refl (h refl))
  picks (param of_lifetime v) c h = open-picks (param of_lifetime v) _ (leaf static) refl refl
  picks (placeholder of_type v) c h = let x = as_place of_type (term_at s.own.terms v) in open-picks (placeholder of_type v) _ x refl (picked-leaf of_type (placeholder of_type v) x tt refl refl (h refl))
  picks (placeholder of_const v) c h = let x = as_place of_const (term_at s.own.terms v) in open-picks (placeholder of_const v) _ x refl (picked-leaf of_const (placeholder of_const v) x tt refl refl (h refl))
  picks (placeholder of_lifetime v) c h = open-picks (placeholder of_lifetime v) _ (leaf static) refl refl
  picks static c h = open-picks static _ (leaf static) refl refl
  picks (bound of_type a b) c h = same-picks (bound of_type a b) refl
  picks (bound of_const a b) c h = same-picks (bound of_const a b) refl
  picks (bound of_lifetime a b) c h = same-picks (bound of_lifetime a b) refl
  picks l c h = same-picks l refl

  each-picks : (t : Trees) → HasNoCanonical t → ((l : Label) → StandsIn kind_of_leaf t l → is_label_among l ls ≡ true) → EachLabel (λ l. Picks l (if is_some (kind_of_leaf l) then canonical_label ls l else l)) t
  each-picks none h a = tt
  each-picks (tree l c o) h a =
      let x = clean-parts l c o h in
      (picks l x.0 (λ i. a l (inl (refl, i))), each-picks c x.1 (λ m i. a m (inr (inl i))), each-picks o x.2 (λ m i. a m (inr (inr i))))

  read-numbered : (t : Trees) → HasNoCanonical t → ((l : Label) → StandsIn kind_of_leaf t l → is_label_among l ls ≡ true) → read_with (picked (leaf_terms s ls)) (relabeled kind_of_leaf (canonical_label ls) t) ≡ read_with (standing s) t
  read-numbered t h a = read-relabeled (picked (leaf_terms s ls)) (standing s) kind_of_leaf (canonical_label ls) t (each-picks t h a)

abbrev pub Among : Trees → List Trees → Type 0
Among t [] = ⊥
Among t (x ∷ ts) = (t ≡ x) ⊎ Among t ts

-- the leaves of each own value are among those of the answer
pub joined-stands : (kind : OpenKinds) (ts : List Trees) (t : Trees) (l : Label) → Among t ts → StandsIn kind t l → StandsIn kind (joined ts) l
joined-stands kind [] t l i h = absurd i
joined-stands kind (x ∷ ts) t l (inl e) h = stands-left kind x (joined ts) l (subst (λ z. StandsIn kind z l) e h)
joined-stands kind (x ∷ ts) t l (inr i) h = stands-right kind x (joined ts) l (joined-stands kind ts t l i h)

abbrev pub LabelAmong : Label → List Label → Type 0
LabelAmong l [] = ⊥
LabelAmong l (x ∷ xs) = (l ≡ x) ⊎ LabelAmong l xs

pub among-map : (f : Label → Trees) (l : Label) (ls : List Label) → LabelAmong l ls → Among (f l) (map f ls)
among-map f l [] i = absurd i
among-map f l (m ∷ ls) (inl e) = inl (ap f e)
among-map f l (m ∷ ls) (inr i) = inr (among-map f l ls i)

module _ (t : FrameTable) (s : ChosenTerms) (a : AllowsApart t s) where
  abbrev good : Label → Bool
  good l = is_good t.kinds t.content.ty_vars t.content.const_vars l

  abbrev ls : List Label
  ls = answer_leaves t

  -- a value of the goal, as the answer has it
  value-read : (l : Label) → LabelAmong l (own_labels t.kinds t.labels) → is_made good terms (leaf l) ≡ true
      → read_with (picked (leaf_terms s ls)) (numbered t (resolved t.content.bindings (leaf l))) ≡ reading_of s l
  value-read l i m =
      let clean = clean-resolved good (excludes-canonical t) t.content.bindings a.allowed.made.table.values (leaf l) (made-clean good (excludes-canonical t) terms (leaf l) m) in
      read-numbered s a.allowed.sorted ls (resolved t.content.bindings (leaf l)) clean
      (λ n h. leaves-hold kind_of_leaf n [] (joined (own_values t) +++ resolved t.content.bindings t.content.constraints)
      (stands-left kind_of_leaf (joined (own_values t)) (resolved t.content.bindings t.content.constraints) n
      (joined-stands kind_of_leaf (own_values t) (resolved t.content.bindings (leaf l)) n
      (among-map (λ x. resolved t.content.bindings (leaf x)) l (own_labels t.kinds t.labels) i) h)))
      ∙ read-resolved good s t.content.bindings a.allowed.made.table.values a.allowed.hold (leaf l)

  -- the value that is given is what stands for the goal's variable
  place-of-place : (k : Sort) (x : Trees) → is_place k x ≡ true → HasValues k → of_sort k x ≡ as_place k x +++ none
  place-of-place k x h v =
      sort-of-sort k x (place-is-a k k x h v ∙ is_sort-self k) ∙ sym (append-none (as_place k x) ∙ ap (λ b. if b then x else leaf (placeholder k 0)) h)

  abbrev all : List Trees
  all = s.own.terms

  picked-value : (place : ℕ) (k : CanonicalVarKind) (l : Label) (x : Trees) → IsOwn place k l → LabelAmong l (own_labels t.kinds t.labels) → is_made good terms (leaf l) ≡ true
      → HaveValues (k ∷ []) (x ∷ []) (reading_of s l ∷ []) → FitPlaceholders (k ∷ []) (x ∷ []) → x ≡ term_at all place
      → IsPicked (leaf_terms s ls) (sort_of l) (numbered t (resolved t.content.bindings (leaf l))) x
  picked-value place Ty l x o i m v f e =
      at l (ap sort_of o.1)
    where
      at : (l' : Label) → sort_of l ≡ of_type → IsPicked (leaf_terms s ls) (sort_of l) (numbered t (resolved t.content.bindings (leaf l))) x
      at l' q = subst (λ z. IsPicked (leaf_terms s ls) z (numbered t (resolved t.content.bindings (leaf l))) x) (sym q) (value-read l i m ∙ sym v.0)
  picked-value place Const l x o i m v f e =
      subst (λ z. IsPicked (leaf_terms s ls) z (numbered t (resolved t.content.bindings (leaf l))) x) (sym (ap sort_of o.1)) (value-read l i m ∙ sym v.0)
  picked-value place PlaceholderTy l x o i m v f e =
      subst (λ z. IsPicked (leaf_terms s ls) z (numbered t (resolved t.content.bindings (leaf l))) x) (sym (ap sort_of o))
      (value-read l i m ∙ ap (reading_of s) o ∙ ap (λ z. as_place of_type z +++ none) (sym e) ∙ sym (place-of-place of_type x f.0 tt))
  picked-value place PlaceholderConst l x o i m v f e =
      subst (λ z. IsPicked (leaf_terms s ls) z (numbered t (resolved t.content.bindings (leaf l))) x) (sym (ap sort_of o))
      (value-read l i m ∙ ap (reading_of s) o ∙ ap (λ z. as_place of_const z +++ none) (sym e) ∙ sym (place-of-place of_const x f.0 tt))
  picked-value place Region l x o i m v f e =
      subst (λ z. IsPicked (leaf_terms s ls) z (numbered t (resolved t.content.bindings (leaf l))) x) (sym o) tt

  head-values : (k : CanonicalVarKind) (ks : List CanonicalVarKind) (ts : List Trees) (x : Trees) (xs : List Trees) → HaveValues (k ∷ ks) ts (x ∷ xs) → HaveValues (k ∷ []) (first_term ts ∷ []) (x ∷ []) × HaveValues ks (other_terms ts) xs
  head-values Ty ks ts x xs h = ((h.0, tt), h.1)
  head-values Const ks ts x xs h = ((h.0, tt), h.1)
  head-values k ks ts x xs h = (tt, h)

  head-fit : (k : CanonicalVarKind) (ks : List CanonicalVarKind) (ts : List Trees) → FitPlaceholders (k ∷ ks) ts → FitPlaceholders (k ∷ []) (first_term ts ∷ []) × FitPlaceholders ks (other_terms ts)
  head-fit PlaceholderTy ks ts h = ((h.0, tt), h.1)
  head-fit PlaceholderConst ks ts h = ((h.0, tt), h.1)
  head-fit k ks ts h = (tt, h)

  picked-values : (place : ℕ) (ks : List CanonicalVarKind) (labels : List Label) (ts : List Trees) → AreOwn place ks labels
      → ((l : Label) → LabelAmong l (own_labels ks labels) → LabelAmong l (own_labels t.kinds t.labels)) → Every (λ l. is_made good terms (leaf l) ≡ true) labels
      → HaveValues ks ts (map (reading_of s) labels) → FitPlaceholders ks ts → ((j : ℕ) → term_at ts j ≡ term_at all (place + j))
      → ArePicked (leaf_terms s ls) (map (value_numbered t) (own_labels ks labels)) ts
  picked-values place [] labels ts o i m v f e = tt
  picked-values place (k ∷ ks) [] ts o i m v f e = absurd o
  picked-values place (k ∷ ks) (l ∷ labels) ts o i m v f e =
      let hv = head-values k ks ts (reading_of s l) (map (reading_of s) labels) v in
      let hf = head-fit k ks ts f in (
        picked-value place k l (first_term ts) o.0 (i l (inl refl)) m.0 hv.0 hf.0 (e zero ∙ ap (term_at all) (plus-zero place)),
        picked-values (suc place) ks labels (other_terms ts) o.1 (λ n h. i n (inr h)) m.1 hv.1 hf.1 (λ j. e (suc j) ∙ ap (term_at all) (plus-suc place j)),
      )
    where
      plus-zero : (i : ℕ) → i + zero ≡ i
      plus-zero i = omega arith

      plus-suc : (i j : ℕ) → i + suc j ≡ suc i + j
      plus-suc i j = omega arith

  table-agrees : (c : Certainty) → ArePicked (leaf_terms s ls) (map (value_numbered t) (own_labels t.kinds t.labels)) s.own.terms
  table-agrees c =
      picked-values 0 t.kinds t.labels s.own.terms a.allowed.made.own (λ l h. h) a.allowed.made.leaves
      (subst (HaveValues t.kinds s.own.terms) a.allowed.slots a.allowed.own) a.fit (λ j. ap (term_at all) (zero-plus j))
    where
      zero-plus : (j : ℕ) → j ≡ 0 + j
      zero-plus j = omega arith

from-variables : (i : ℕ) (ks : List CanonicalVarKind) → are_variables i (variables_from i ks) ≡ true
from-variables i [] = refl
from-variables i (k ∷ ks) =
    ap (λ z. if z then are_variables (suc i) (variables_from (i + 1) ks) else (is_sort (variable_value k i).sort of_lifetime && are_variables i (variables_from (i + 1) ks))) (here k)
    ∙ ap (λ n. are_variables n (variables_from (i + 1) ks)) (next i) ∙ from-variables (i + 1) ks
  where
    next : (i : ℕ) → suc i ≡ i + 1
    next i = omega arith

    here : (k : CanonicalVarKind) → is_variable_itself i (variable_value k i).sort (variable_value k i).trees ≡ true
    here Ty = self-number i
    here k = self-number i

-- an overflow carries no values
pub overflow_is_bare : (t : FrameTable) → has_values (respond t (Maybe Overflow)) ≡ false
overflow_is_bare t = ap not (from-variables 0 t.kinds)

pub respond_certainty : (t : FrameTable) (c : Certainty) → (respond t c).certainty ≡ c
respond_certainty t Yes = refl
respond_certainty t (Maybe Ambiguity) = refl
respond_certainty t (Maybe Overflow) = refl

-- what a table answers agrees with all that it allows
pub respond_keeps : (t : FrameTable) (c : Certainty) (s : ChosenTerms) → AllowsApart t s → IsInstanceOfAnswer (respond t c) s.own
respond_keeps t Yes s a = (leaf_terms s (answer_leaves t), λ k i. (node-is k (reading_of s (label_at (answer_leaves t) i))).sort, table-agrees t s a Yes)
respond_keeps t (Maybe Ambiguity) s a = (leaf_terms s (answer_leaves t), λ k i. (node-is k (reading_of s (label_at (answer_leaves t) i))).sort, table-agrees t s a Yes)
respond_keeps t (Maybe Overflow) s a = bare-agrees (respond t (Maybe Overflow)) (overflow_is_bare t) s.own

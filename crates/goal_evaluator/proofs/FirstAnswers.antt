-- The response of the table with which a frame begins: each variable is its own value.
use Rattle.std.proofs.Common.{◌≡◌, ℕ, zero, suc, ◌<◌, ◌==◌, arith, Bool, true, false, not, ◌&&◌, ◌||◌, List, [], ◌∷◌, ◌++◌, map, length, refl, sym, ◌∙◌, ap, subst, if◌then◌else◌, is_some}
use Rattle.type_terms.specs.Promised.Label.{Label, Sort, of_type, of_const, of_lifetime, infer, placeholder, canonical}
use Rattle.type_terms.specs.Promised.Trees.{leaf, sort_of, is_sort}
use Rattle.type_terms.specs.Codes.{same_label}
use Rattle.type_terms.proofs.Matching.{same-label-sound}
use Rattle.infer_table.specs.Canonical.{kind_of_leaf, is_label_among, with_label, leaves, place_of, canonical_label, relabeled}
use Rattle.infer_table.specs.declared.canonical.CanonicalVarKind.{CanonicalVarKind}
use Rattle.infer_table.specs.declared.canonical.CanonicalVarKind.TheVariants.{Ty, PlaceholderTy, Const, PlaceholderConst, Region}
use Rattle.infer_table.specs.declared.certainty.Certainty.{Certainty}
use Rattle.infer_table.specs.declared.certainty.Certainty.TheVariants.{Yes, Maybe}
use Rattle.infer_table.specs.declared.certainty.MaybeCause.TheVariants.{Ambiguity, Overflow}
use Rattle.infer_table.specs.Values.{Value}
use Rattle.infer_table.proofs.CanonicalLaws.{same_label-self}
use Rattle.goal_evaluator.specs.Lists.{Every}
use Rattle.goal_evaluator.proofs.ListLaws.{Every-mono}
use Rattle.goal_evaluator.specs.TableAnswers.{is_variable_itself, are_variables, has_values, own_labels, joined, answer_leaves, value_numbered, respond}
use Rattle.type_terms.proofs.Made.{false-true}
use Rattle.goal_evaluator.proofs.Reading.{append-none}
use Rattle.goal_evaluator.proofs.Answering.{overflow_is_bare}
use Rattle.goal_evaluator.specs.TableOperations.{begin}
use Rattle.goal_evaluator.specs.FrameTables.{labels_from}
use Rattle.goal_evaluator.proofs.Labels.{every-end}
use Rattle.type_terms.proofs.TermBasics.{is_sort-self as sort-self}
use Rattle.type_terms.proofs.NumberBasics.{last-less, not-less, number-self}

-- ---- labels that are open, each another than those before
abbrev pub AreFresh : List Label → List Label → Type 0
AreFresh seen [] = Unit {0}
AreFresh seen (l ∷ ls) = (is_some (kind_of_leaf l) ≡ true) × (is_label_among l seen ≡ false) × AreFresh (seen ++ l ∷ []) ls

pub append-list : {A : Type 0} (xs : List A) (y : A) (ys : List A) → (xs ++ y ∷ []) ++ ys ≡ xs ++ y ∷ ys
append-list [] y ys = refl
append-list (x ∷ xs) y ys = ap (λ z. x ∷ z) (append-list xs y ys)

pub length-more : {A : Type 0} (xs : List A) (y : A) → length (xs ++ y ∷ []) ≡ suc (length xs)
length-more [] y = refl
length-more (x ∷ xs) y = ap suc (length-more xs y)

-- each of them is an open leaf once
leaves-are : (seen ls : List Label) → AreFresh seen ls → leaves kind_of_leaf seen (joined (map (λ l. leaf l) ls)) ≡ seen ++ ls
leaves-are seen [] f = sym (append-nil seen)
  where
    append-nil : (xs : List Label) → xs ++ [] ≡ xs
    append-nil [] = refl
    append-nil (x ∷ xs) = ap (λ z. x ∷ z) (append-nil xs)
leaves-are seen (l ∷ ls) f =
    ap (λ b. leaves kind_of_leaf (if b then with_label l seen else seen) (joined (map (λ l. leaf l) ls))) f.0
    ∙ ap (λ b. leaves kind_of_leaf (if b then seen else seen ++ l ∷ []) (joined (map (λ l. leaf l) ls))) f.1
    ∙ leaves-are (seen ++ l ∷ []) ls f.2 ∙ append-list seen l ls

pub or-false : (a b : Bool) → (a || b) ≡ false → (a ≡ false) × (b ≡ false)
or-false true b h = absurd (false-true (sym h))
or-false false b h = (refl, h)

pub place-is : (seen : List Label) (l : Label) (ls : List Label) → is_label_among l seen ≡ false → place_of l (seen ++ l ∷ ls) ≡ length seen
place-is [] l ls h = ap (λ b. if b then zero else suc (place_of l ls)) (same_label-self l)
place-is (m ∷ ms) l ls h =
    let x = or-false (same_label m l) (is_label_among l ms) h in
    ap (λ b. if b then zero else suc (place_of l (ms ++ l ∷ ls))) x.0 ∙ ap suc (place-is ms l ls x.1)

abbrev pub value_by : List Label → Label → Value
value_by all l = record { sort = sort_of l; trees = relabeled kind_of_leaf (canonical_label all) (leaf l) }

itself : (i : ℕ) (k : Sort) → is_variable_itself i k (leaf (canonical k i)) ≡ true
itself i k = ap (λ b. b && (i == i)) (sort-self k) ∙ number-self i

are-variables : (all seen ls : List Label) → all ≡ seen ++ ls → AreFresh seen ls → are_variables (length seen) (map (value_by all) ls) ≡ true
are-variables all seen [] e f = refl
are-variables all seen (l ∷ ls) e f =
    ap (λ z. if is_variable_itself (length seen) (sort_of l) (leaf z) then are_variables (suc (length seen)) (map (value_by all) ls) else (is_sort (sort_of l) of_lifetime && are_variables (length seen) (map (value_by all) ls)))
    (ap (λ b. if b then canonical_label all l else l) f.0 ∙ ap (canonical (sort_of l)) (ap (place_of l) e ∙ place-is seen l ls f.1))
    ∙ ap (λ b. if b then are_variables (suc (length seen)) (map (value_by all) ls) else (is_sort (sort_of l) of_lifetime && are_variables (length seen) (map (value_by all) ls))) (itself (length seen) (sort_of l))
    ∙ ap (λ n. are_variables n (map (value_by all) ls)) (sym (length-more seen l))
    ∙ are-variables all (seen ++ l ∷ []) ls (e ∙ sym (append-list seen l ls)) f.2

-- ---- the labels with which a frame begins
abbrev IsBelow : ℕ → ℕ → ℕ → ℕ → Label → Type 0
IsBelow a b c i (infer of_type v) = v < a
IsBelow a b c i (infer of_const v) = v < b
IsBelow a b c i (infer of_lifetime v) = v < c
IsBelow a b c i (placeholder k v) = v < i
IsBelow a b c i l = Unit {0}

less-more : (n m : ℕ) → n < m → n < suc m
less-more n m h = omega (arith, h)

below-type : (a b c i : ℕ) (l : Label) → IsBelow a b c i l → IsBelow (suc a) b c (suc i) l
below-type a b c i (infer of_type v) h = less-more v a h
below-type a b c i (infer of_const v) h = h
below-type a b c i (infer of_lifetime v) h = h
below-type a b c i (placeholder k v) h = less-more v i h
below-type a b c i l h = tt

below-const : (a b c i : ℕ) (l : Label) → IsBelow a b c i l → IsBelow a (suc b) c (suc i) l
below-const a b c i (infer of_type v) h = h
below-const a b c i (infer of_const v) h = less-more v b h
below-const a b c i (infer of_lifetime v) h = h
below-const a b c i (placeholder k v) h = less-more v i h
below-const a b c i l h = tt

below-region : (a b c i : ℕ) (l : Label) → IsBelow a b c i l → IsBelow a b (suc c) (suc i) l
below-region a b c i (infer of_type v) h = h
below-region a b c i (infer of_const v) h = h
below-region a b c i (infer of_lifetime v) h = less-more v c h
below-region a b c i (placeholder k v) h = less-more v i h
below-region a b c i l h = tt

below-place : (a b c i : ℕ) (l : Label) → IsBelow a b c i l → IsBelow a b c (suc i) l
below-place a b c i (infer of_type v) h = h
below-place a b c i (infer of_const v) h = h
below-place a b c i (infer of_lifetime v) h = h
below-place a b c i (placeholder k v) h = less-more v i h
below-place a b c i l h = tt

pub among-has : (P : Label → Type 0) (l : Label) (ms : List Label) → Every P ms → is_label_among l ms ≡ true → P l
among-has P l [] h e = absurd (false-true e)
among-has P l (m ∷ ms) h e = by (same_label m l) refl e (among-has P l ms h.1)
  where
    by : (b : Bool) → same_label m l ≡ b → (b || is_label_among l ms) ≡ true → (is_label_among l ms ≡ true → P l) → P l
    by true q f g = subst P (same-label-sound m l q) h.0
    by false q f g = g f

not-among : (P : Label → Type 0) (l : Label) (ms : List Label) → Every P ms → (P l → ⊥) → is_label_among l ms ≡ false
not-among P l ms h n = by (is_label_among l ms) refl
  where
    by : (b : Bool) → is_label_among l ms ≡ b → b ≡ false
    by true e = absurd (n (among-has P l ms h e))
    by false e = refl

fresh-from : (a b c i : ℕ) (ks : List CanonicalVarKind) (seen : List Label) → Every (IsBelow a b c i) seen → AreFresh seen (labels_from a b c i ks)
fresh-from a b c i [] seen h = tt
fresh-from a b c i (Ty ∷ ks) seen h = (
  refl,
  not-among (IsBelow a b c i) (infer of_type a) seen h (not-less a),
  fresh-from (suc a) b c (suc i) ks (seen ++ infer of_type a ∷ []) (every-end (IsBelow (suc a) b c (suc i)) seen (infer of_type a) (Every-mono (IsBelow a b c i) (IsBelow (suc a) b c (suc i)) (below-type a b c i) seen h) (last-less a)),
)
fresh-from a b c i (Const ∷ ks) seen h = (
  refl,
  not-among (IsBelow a b c i) (infer of_const b) seen h (not-less b),
  fresh-from a (suc b) c (suc i) ks (seen ++ infer of_const b ∷ []) (every-end (IsBelow a (suc b) c (suc i)) seen (infer of_const b) (Every-mono (IsBelow a b c i) (IsBelow a (suc b) c (suc i)) (below-const a b c i) seen h) (last-less b)),
)
fresh-from a b c i (Region ∷ ks) seen h = (
  refl,
  not-among (IsBelow a b c i) (infer of_lifetime c) seen h (not-less c),
  fresh-from a b (suc c) (suc i) ks (seen ++ infer of_lifetime c ∷ []) (every-end (IsBelow a b (suc c) (suc i)) seen (infer of_lifetime c) (Every-mono (IsBelow a b c i) (IsBelow a b (suc c) (suc i)) (below-region a b c i) seen h) (last-less c)),
)
fresh-from a b c i (PlaceholderTy ∷ ks) seen h = (
  refl,
  not-among (IsBelow a b c i) (placeholder of_type i) seen h (not-less i),
  fresh-from a b c (suc i) ks (seen ++ placeholder of_type i ∷ []) (every-end (IsBelow a b c (suc i)) seen (placeholder of_type i) (Every-mono (IsBelow a b c i) (IsBelow a b c (suc i)) (below-place a b c i) seen h) (last-less i)),
)
fresh-from a b c i (PlaceholderConst ∷ ks) seen h = (
  refl,
  not-among (IsBelow a b c i) (placeholder of_const i) seen h (not-less i),
  fresh-from a b c (suc i) ks (seen ++ placeholder of_const i ∷ []) (every-end (IsBelow a b c (suc i)) seen (placeholder of_const i) (Every-mono (IsBelow a b c i) (IsBelow a b c (suc i)) (below-place a b c i) seen h) (last-less i)),
)

own-all : (a b c i : ℕ) (ks : List CanonicalVarKind) → own_labels ks (labels_from a b c i ks) ≡ labels_from a b c i ks
own-all a b c i [] = refl
own-all a b c i (Ty ∷ ks) = ap (λ z. infer of_type a ∷ z) (own-all (suc a) b c (suc i) ks)
own-all a b c i (Const ∷ ks) = ap (λ z. infer of_const b ∷ z) (own-all a (suc b) c (suc i) ks)
own-all a b c i (Region ∷ ks) = ap (λ z. infer of_lifetime c ∷ z) (own-all a b (suc c) (suc i) ks)
own-all a b c i (PlaceholderTy ∷ ks) = ap (λ z. placeholder of_type i ∷ z) (own-all a b c (suc i) ks)
own-all a b c i (PlaceholderConst ∷ ks) = ap (λ z. placeholder of_const i ∷ z) (own-all a b c (suc i) ks)

-- each label with which a frame begins stands for one of the goal's variables, and all of them are answered
pub own-labels-all : (ks : List CanonicalVarKind) → own_labels ks (begin ks).labels ≡ labels_from 0 0 0 0 ks
own-labels-all ks = own-all 0 0 0 0 ks

pub begin-fresh : (ks : List CanonicalVarKind) → AreFresh [] (labels_from 0 0 0 0 ks)
begin-fresh ks = fresh-from 0 0 0 0 ks [] tt

pub begin-leaves : (ks : List CanonicalVarKind) → answer_leaves (begin ks) ≡ labels_from 0 0 0 0 ks
begin-leaves ks =
    let ls = labels_from 0 0 0 0 ks in
    ap (λ z. leaves kind_of_leaf [] z) (append-none (joined (map (λ l. leaf l) (own_labels ks ls)))) ∙ ap (λ z. leaves kind_of_leaf [] (joined (map (λ l. leaf l) z))) (own-labels-all ks)
    ∙ leaves-are [] ls (begin-fresh ks)

known-bare : (ks : List CanonicalVarKind) → are_variables 0 (map (value_numbered (begin ks)) (own_labels ks (begin ks).labels)) ≡ true
known-bare ks =
    ap (λ z. are_variables 0 (map (value_numbered (begin ks)) z)) (own-labels-all ks)
    ∙ are-variables (answer_leaves (begin ks)) [] (labels_from 0 0 0 0 ks) (begin-leaves ks) (begin-fresh ks)

pub begin-says-nothing : (ks : List CanonicalVarKind) (c : Certainty) → has_values (respond (begin ks) c) ≡ false
begin-says-nothing ks Yes = ap not (known-bare ks)
begin-says-nothing ks (Maybe Ambiguity) = ap not (known-bare ks)
begin-says-nothing ks (Maybe Overflow) = overflow_is_bare (begin ks)

-- The response of the table with which a frame begins: each variable is its own value.
use Rattle.std.proofs.Common.{◌≡◌, ℕ, suc, ◌+◌, List, [], ◌∷◌, ◌++◌, map, length, refl, sym, ◌∙◌, ap, if◌then◌else◌, is_some, true, Some}
use Rattle.type_terms.specs.Promised.Label.{Label, canonical}
use Rattle.type_terms.specs.Promised.Trees.{none, leaf, sort_of}
use Rattle.infer_table.specs.Canonical.{kind_of_leaf, place_of, canonical_label}
use Rattle.infer_table.specs.declared.canonical.CanonicalVarKind.{CanonicalVarKind}
use Rattle.infer_table.specs.declared.canonical.CanonicalVarKind.TheVariants.{Ty, PlaceholderTy, Const, PlaceholderConst, Region}
use Rattle.infer_table.specs.declared.certainty.Certainty.{Certainty}
use Rattle.infer_table.specs.declared.certainty.Certainty.TheVariants.{Yes, Maybe}
use Rattle.infer_table.specs.declared.certainty.MaybeCause.TheVariants.{Ambiguity, Overflow}
use Rattle.infer_table.specs.Values.{Value}
use Rattle.infer_table.specs.Raw.{sort_of_kind, variable_value, variables_from}
use Rattle.infer_table.specs.Responses.{AnswerTrees}
use Rattle.goal_evaluator.specs.TableAnswers.{own_labels, answer_leaves, value_numbered, with_kind, kinds_of_labels, without_values, respond}
use Rattle.goal_evaluator.specs.TableOperations.{begin}
use Rattle.goal_evaluator.specs.FrameTables.{labels_from}
use Rattle.goal_evaluator.proofs.FirstAnswers.{AreFresh, append-list, length-more, place-is, value_by, own-labels-all, begin-fresh, begin-leaves}
use Rattle.type_terms.proofs.NumberBasics.{next-number as one-more}
use Rattle.infer_table.proofs.Basics.{first-and-rest}

-- the labels are of these kinds
abbrev AreOf : List CanonicalVarKind → List Label → Type 0
AreOf [] [] = Unit {0}
AreOf (k ∷ ks) (l ∷ ls) = (sort_of l ≡ sort_of_kind k) × (kind_of_leaf l ≡ Some k) × AreOf ks ls
AreOf _ _ = ⊥

labels-of : (a b c i : ℕ) (ks : List CanonicalVarKind) → AreOf ks (labels_from a b c i ks)
labels-of a b c i [] = tt
labels-of a b c i (Ty ∷ ks) = (refl, refl, labels-of (suc a) b c (suc i) ks)
labels-of a b c i (Const ∷ ks) = (refl, refl, labels-of a (suc b) c (suc i) ks)
labels-of a b c i (Region ∷ ks) = (refl, refl, labels-of a b (suc c) (suc i) ks)
labels-of a b c i (PlaceholderTy ∷ ks) = (refl, refl, labels-of a b c (suc i) ks)
labels-of a b c i (PlaceholderConst ∷ ks) = (refl, refl, labels-of a b c (suc i) ks)

kinds-are : (ks : List CanonicalVarKind) (ls : List Label) → AreOf ks ls → kinds_of_labels ls ≡ ks
kinds-are [] [] o = refl
kinds-are [] (l ∷ ls) o = absurd o
kinds-are (k ∷ ks) [] o = absurd o
kinds-are (k ∷ ks) (l ∷ ls) o = ap (λ x. with_kind x (kinds_of_labels ls)) o.1 ∙ ap (λ z. k ∷ z) (kinds-are ks ls o.2)

one : (all : List Label) (n : ℕ) (k : CanonicalVarKind) (l : Label) → is_some (kind_of_leaf l) ≡ true → sort_of l ≡ sort_of_kind k → place_of l all ≡ n → value_by all l ≡ variable_value k n
one all n k l o s p =
    ap (λ b. record { sort = sort_of l; trees = leaf (if b then canonical_label all l else l) }) o
    ∙ ap (λ j. record { sort = sort_of l; trees = leaf (canonical (sort_of l) j) }) p
    ∙ ap (λ z. record { sort = z; trees = leaf (canonical z n) }) s

values-are : (all seen : List Label) (ks : List CanonicalVarKind) (ls : List Label) → all ≡ seen ++ ls → AreFresh seen ls → AreOf ks ls → map (value_by all) ls ≡ variables_from (length seen) ks
values-are all seen [] [] e f o = refl
values-are all seen [] (l ∷ ls) e f o = absurd o
values-are all seen (k ∷ ks) [] e f o = absurd o
values-are all seen (k ∷ ks) (l ∷ ls) e f o =
    first-and-rest (value_by all l) (variable_value k (length seen)) (map (value_by all) ls) (variables_from (length seen + 1) ks)
    (one all (length seen) k l f.0 o.0 (ap (place_of l) e ∙ place-is seen l ls f.1))
    (values-are all (seen ++ l ∷ []) ks ls (e ∙ sym (append-list seen l ls)) f.2 o.2 ∙ ap (λ n. variables_from n ks) (length-more seen l ∙ one-more (length seen)))

begin-values : (ks : List CanonicalVarKind) → map (value_numbered (begin ks)) (own_labels ks (begin ks).labels) ≡ variables_from 0 ks
begin-values ks =
    let ls = labels_from 0 0 0 0 ks in
    ap (map (value_numbered (begin ks))) (own-labels-all ks) ∙ values-are (answer_leaves (begin ks)) [] ks ls (begin-leaves ks) (begin-fresh ks) (labels-of 0 0 0 0 ks)

begin-kinds : (ks : List CanonicalVarKind) → kinds_of_labels (answer_leaves (begin ks)) ≡ ks
begin-kinds ks = ap kinds_of_labels (begin-leaves ks) ∙ kinds-are ks (labels_from 0 0 0 0 ks) (labels-of 0 0 0 0 ks)

answer-cong : (ks js : List CanonicalVarKind) (c : Certainty) (vs ws : List Value) → ks ≡ js → vs ≡ ws
    → ◌≡◌ {A = AnswerTrees} (record { kinds = ks; certainty = c; values = vs; constraints = none }) (record { kinds = js; certainty = c; values = ws; constraints = none })
answer-cong ks js c vs ws e f = cc

pub silent-is : (ks : List CanonicalVarKind) (c : Certainty) → respond (begin ks) c ≡ without_values ks c
silent-is ks Yes = answer-cong _ _ Yes _ _ (begin-kinds ks) (begin-values ks)
silent-is ks (Maybe Ambiguity) = answer-cong _ _ (Maybe Ambiguity) _ _ (begin-kinds ks) (begin-values ks)
silent-is ks (Maybe Overflow) = refl

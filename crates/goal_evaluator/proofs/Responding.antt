-- The response of a frame's table is that of a context with the same content.
use Rattle.std.proofs.Common.{◌≡◌, Bool, true, false, List, [], ◌∷◌, map, refl, sym, ◌∙◌, ap, Option, Some, None, if◌then◌else◌, is_some}
use Rattle.type_terms.specs.Promised.Label.{Label, Sort}
use Rattle.type_terms.specs.Promised.Trees.{Trees, none, tree, leaf, ◌+++◌, sort_of}
use Rattle.infer_table.specs.Canonical.{OpenKinds, kind_of_leaf, canonical_label, leaves, relabeled}
use Rattle.infer_table.specs.Solutions.{Binding, resolved}
use Rattle.infer_table.specs.declared.canonical.CanonicalVarKind.{CanonicalVarKind}
use Rattle.infer_table.specs.declared.certainty.Certainty.{Certainty}
use Rattle.infer_table.specs.declared.certainty.Certainty.TheVariants.{Yes, Maybe}
use Rattle.infer_table.specs.declared.certainty.MaybeCause.TheVariants.{Ambiguity, Overflow}
use Rattle.infer_table.proofs.SolutionLaws.{resolved-append, resolved-none}
use Rattle.infer_table.specs.Values.{Value}
use Rattle.infer_table.specs.Applied.{trees_of}
use Rattle.infer_table.specs.Responses.{AnswerTrees}
use Rattle.goal_evaluator.specs.FrameTables.{FrameTable, IsMadeFrame}
use Rattle.goal_evaluator.specs.TableAnswers.{own_labels, own_values, joined, answer_leaves, numbered, value_numbered, with_kind, kinds_of_labels, respond, leaf_value}
use Rattle.goal_evaluator.proofs.Whole.{IsOne}
use Rattle.goal_evaluator.proofs.Free.{resolved-one}
use Rattle.goal_evaluator.specs.OwnAnswers.{kinds_in, values_in, answer_of}

-- ---- what is known
values-joined : (bs : List Binding) (ls : List Label) → resolved bs (trees_of (map leaf_value ls)) ≡ joined (map (λ l. resolved bs (leaf l)) ls)
values-joined bs [] = resolved-none bs
values-joined bs (l ∷ ls) = resolved-append bs (leaf l) (trees_of (map leaf_value ls)) ∙ ap (λ z. resolved bs (leaf l) +++ z) (values-joined bs ls)

known-joined : (t : FrameTable) → resolved t.content.bindings (trees_of (map leaf_value (own_labels t.kinds t.labels)) +++ t.content.constraints) ≡ joined (own_values t) +++ resolved t.content.bindings t.content.constraints
known-joined t =
    resolved-append t.content.bindings (trees_of (map leaf_value (own_labels t.kinds t.labels))) t.content.constraints
    ∙ ap (λ z. z +++ resolved t.content.bindings t.content.constraints) (values-joined t.content.bindings (own_labels t.kinds t.labels))

-- ---- kinds
kind-next : (o : Option CanonicalVarKind) (ks : List (Option CanonicalVarKind)) (rest : List CanonicalVarKind) → kinds_in ks ≡ rest → kinds_in (o ∷ ks) ≡ with_kind o rest
kind-next None ks rest e = e
kind-next (Some k) ks rest e = ap (λ z. k ∷ z) e

kinds-are : (ls : List Label) → kinds_in (map kind_of_leaf ls) ≡ kinds_of_labels ls
kinds-are [] = refl
kinds-are (l ∷ ls) = kind-next (kind_of_leaf l) (map kind_of_leaf ls) (kinds_of_labels ls) (kinds-are ls)

-- ---- values
relabeled-append : (kind : OpenKinds) (f : Label → Label) (x y : Trees) → relabeled kind f (x +++ y) ≡ relabeled kind f x +++ relabeled kind f y
relabeled-append kind f none y = refl
relabeled-append kind f (tree l c o) y = ap (tree (if is_some (kind l) then f l else l) (relabeled kind f c)) (relabeled-append kind f o y)

label-sort : (ls : List Label) (l : Label) (b : Bool) → sort_of (if b then canonical_label ls l else l) ≡ sort_of l
label-sort ls l true = refl
label-sort ls l false = refl

first-value : (ls : List Label) (k : Sort) (x rest : Trees) → IsOne k x
    → values_in (relabeled kind_of_leaf (canonical_label ls) x +++ rest) ≡ record { sort = k; trees = relabeled kind_of_leaf (canonical_label ls) x } ∷ values_in rest
first-value ls k x rest i =
    ap (λ z. values_in (relabeled kind_of_leaf (canonical_label ls) z +++ rest)) i.is
    ∙ ap (λ (z : Sort). record { sort = z; trees = relabeled kind_of_leaf (canonical_label ls) (tree i.label i.children none) } ∷ values_in rest) (label-sort ls i.label (is_some (kind_of_leaf i.label)) ∙ i.sort)
    ∙ ap (λ z. record { sort = k; trees = relabeled kind_of_leaf (canonical_label ls) z } ∷ values_in rest) (sym i.is)

values-are : (t : FrameTable) → IsMadeFrame t → (ls own : List Label)
    → values_in (relabeled kind_of_leaf (canonical_label ls) (joined (map (λ l. resolved t.content.bindings (leaf l)) own)))
    ≡ map (λ (l : Label). record { sort = sort_of l; trees = relabeled kind_of_leaf (canonical_label ls) (resolved t.content.bindings (leaf l)) }) own
values-are t made ls [] = refl
values-are t made ls (l ∷ own) =
    ap values_in (relabeled-append kind_of_leaf (canonical_label ls) (resolved t.content.bindings (leaf l)) (joined (map (λ m. resolved t.content.bindings (leaf m)) own)))
    ∙ first-value ls (sort_of l) (resolved t.content.bindings (leaf l)) (relabeled kind_of_leaf (canonical_label ls) (joined (map (λ m. resolved t.content.bindings (leaf m)) own)))
    (resolved-one _ t.content.bindings made.table.values (leaf l) refl)
    ∙ ap (λ z. record { sort = sort_of l; trees = relabeled kind_of_leaf (canonical_label ls) (resolved t.content.bindings (leaf l)) } ∷ z) (values-are t made ls own)

-- ---- the answer
answer-same : (c : Certainty) (a b : List CanonicalVarKind) (v w : List Value) (x y : Trees) → a ≡ b → v ≡ w → x ≡ y
    → ◌≡◌ {A = AnswerTrees} (record { kinds = a; certainty = c; values = v; constraints = x }) (record { kinds = b; certainty = c; values = w; constraints = y })
answer-same c a b v w x y p q r = cc

module _ (t : FrameTable) (made : IsMadeFrame t) where
  abbrev own : List Value
  own = map leaf_value (own_labels t.kinds t.labels)

  abbrev found : List Label
  found = leaves kind_of_leaf [] (resolved t.content.bindings (trees_of own +++ t.content.constraints))

  leaves-are : found ≡ answer_leaves t
  leaves-are = ap (leaves kind_of_leaf []) (known-joined t)

  known-is : (c : Certainty)
      → ◌≡◌ {A = AnswerTrees}
      (record { kinds = kinds_of_labels (answer_leaves t); certainty = c; values = map (value_numbered t) (own_labels t.kinds t.labels); constraints = numbered t (resolved t.content.bindings t.content.constraints) })
      (record {
        kinds = kinds_in (map kind_of_leaf found);
        certainty = c;
        values = values_in (relabeled kind_of_leaf (canonical_label found) (resolved t.content.bindings (trees_of own)));
        constraints = relabeled kind_of_leaf (canonical_label found) (resolved t.content.bindings t.content.constraints);
      })
  known-is c =
      answer-same c _ _ _ _ _ _
      (sym (kinds-are (answer_leaves t)) ∙ ap (λ ls. kinds_in (map kind_of_leaf ls)) (sym leaves-are))
      (sym (values-are t made (answer_leaves t) (own_labels t.kinds t.labels))
      ∙ ap (λ z. values_in (relabeled kind_of_leaf (canonical_label (answer_leaves t)) z)) (sym (values-joined t.content.bindings (own_labels t.kinds t.labels)))
      ∙ ap (λ ls. values_in (relabeled kind_of_leaf (canonical_label ls) (resolved t.content.bindings (trees_of own)))) (sym leaves-are))
      (ap (λ ls. relabeled kind_of_leaf (canonical_label ls) (resolved t.content.bindings t.content.constraints)) (sym leaves-are))

  pub respond-is : (c : Certainty) → respond t c ≡ answer_of t.kinds own t.content c
  respond-is Yes = known-is Yes
  respond-is (Maybe Ambiguity) = known-is (Maybe Ambiguity)
  respond-is (Maybe Overflow) = refl

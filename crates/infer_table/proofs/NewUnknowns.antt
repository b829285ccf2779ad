-- New values for canonical variables, one by one.
use Rattle.std.proofs.Common.{◌≡◌, ℕ, suc, refl, ap, sym, ◌∙◌, List, [], ◌∷◌, ◌++◌, length, get_or, take, ◌+◌, ◌<◌, ◌≤◌, arith}
use Rattle.std.proofs.lemmas.List.{length-take-le}
use Rattle.type_terms.specs.Promised.Label.{Label}
use Rattle.type_terms.specs.Promised.Handles.{Entry}
use Rattle.type_terms.specs.declared.kinds.GenericArgKind.{GenericArgKind}
use Rattle.type_terms.proofs.Items.{take-push}
use Rattle.infer_table.specs.Content.{Table, Grows}
use Rattle.infer_table.specs.Growth.{grows-refl, grows-ty, grows-const, grows-regions}
use Rattle.infer_table.specs.declared.canonical.CanonicalVarKind.{CanonicalVarKind}
use Rattle.infer_table.specs.declared.canonical.CanonicalVarKind.TheVariants.{Ty, PlaceholderTy, Const, PlaceholderConst, Region}
use Rattle.infer_table.specs.Leaves.{IsLeaf, AreLeaves, labels, leaf_label}
use Rattle.infer_table.specs.Unknowns.{next_label, with_next, next_labels, with_each}
use Rattle.type_terms.proofs.NumberBasics.{zero-plus}

pub leaves-push : (es : List Entry) (xs : List GenericArgKind) (x : GenericArgKind) → AreLeaves es xs → IsLeaf es x → AreLeaves es (xs ++ x ∷ [])
leaves-push es [] x h g = (g, tt)
leaves-push es (y ∷ ys) x h g = (h.0, leaves-push es ys x h.1 g)

labels-push : (es : List Entry) (xs : List GenericArgKind) (x : GenericArgKind) → labels es (xs ++ x ∷ []) ≡ labels es xs ++ leaf_label es x ∷ []
labels-push es [] x = refl
labels-push es (y ∷ ys) x = ap (λ z. leaf_label es y ∷ z) (labels-push es ys x)

with-push : (t : Table) (ks : List CanonicalVarKind) (k : CanonicalVarKind) → with_each t (ks ++ k ∷ []) ≡ with_next (with_each t ks) k
with-push t [] k = refl
with-push t (j ∷ ks) k = with-push (with_next t j) ks k

place-next : (p n : ℕ) → p + 1 + n ≡ p + suc n
place-next p n = omega arith

place-here : (p : ℕ) → p ≡ p + 0
place-here p = omega arith

next-push : (t : Table) (p : ℕ) (ks : List CanonicalVarKind) (k : CanonicalVarKind) → next_labels t p (ks ++ k ∷ []) ≡ next_labels t p ks ++ next_label (with_each t ks) (p + length ks) k ∷ []
next-push t p [] k = ap (λ i. next_label t i k ∷ []) (place-here p)
next-push t p (j ∷ ks) k =
    ap (λ z. next_label t p j ∷ z) (next-push (with_next t j) (p + 1) ks k ∙ ap (λ i. next_labels (with_next t j) (p + 1) ks ++ next_label (with_each (with_next t j) ks) i k ∷ []) (place-next p (length ks)))

join : (a b : List Label) (x y : Label) → a ≡ b → x ≡ y → a ++ x ∷ [] ≡ b ++ y ∷ []
join a b x y p q = cc

label-at : (t u : Table) (i j : ℕ) (k : CanonicalVarKind) → t ≡ u → i ≡ j → next_label t i k ≡ next_label u j k
label-at t u i j k p q = cc

below : {i n : ℕ} → i < n → i ≤ n
below h = omega arith

-- one more variable has its unknown
pub one-more-label : (es : List Entry) (t now : Table) (xs : List GenericArgKind) (x : GenericArgKind) (ks : List CanonicalVarKind) (i : ℕ) (d k : CanonicalVarKind) → i < length ks → k ≡ get_or ks i d
    → labels es xs ≡ next_labels t 0 (take i ks) → now ≡ with_each t (take i ks) → leaf_label es x ≡ next_label now i k → labels es (xs ++ x ∷ []) ≡ next_labels t 0 (take (i + 1) ks)
one-more-label es t now xs x ks i d k lt is h m e =
    let from : take (i + 1) ks ≡ take i ks ++ k ∷ [] = take-push ks i d lt ∙ ap (λ z. take i ks ++ z ∷ []) (sym is) in
    labels-push es xs x
    ∙ join _ _ _ _ h (e ∙ label-at _ _ _ _ k m (sym (length-take-le i ks (below lt)) ∙ zero-plus (length (take i ks))))
    ∙ sym (next-push t 0 (take i ks) k) ∙ ap (next_labels t 0) (sym from)

pub one-more-made : (t now after : Table) (ks : List CanonicalVarKind) (i : ℕ) (d k : CanonicalVarKind) → i < length ks → k ≡ get_or ks i d → now ≡ with_each t (take i ks) → after ≡ with_next now k → after ≡ with_each t (take (i + 1) ks)
one-more-made t now after ks i d k lt is m e =
    let from : take (i + 1) ks ≡ take i ks ++ k ∷ [] = take-push ks i d lt ∙ ap (λ z. take i ks ++ z ∷ []) (sym is) in
    e ∙ ap (λ u. with_next u k) m ∙ sym (with-push t (take i ks) k) ∙ ap (with_each t) (sym from)

-- a table with a new unknown has grown
pub next-grows : (t : Table) (k : CanonicalVarKind) → Grows t (with_next t k)
next-grows t Ty = grows-ty t
next-grows t PlaceholderTy = grows-refl t
next-grows t Const = grows-const t
next-grows t PlaceholderConst = grows-refl t
next-grows t Region = grows-regions t 1

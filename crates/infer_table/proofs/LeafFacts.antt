-- Leaves are equal if their labels are.
use Rattle.std.proofs.Common.{rules, ◌≡◌, ℕ, zero, suc, Bool, true, false, refl, ap, sym, ◌∙◌, subst, List, [], ◌∷◌, ◌++◌, Option, Some, None, IsSome, if◌then◌else◌, ◌+◌, ◌<◌, ◌≤◌, length, get_or, arith, cond, not, nat_lt}
use Rattle.std.specs.Bool.{Decides}
use Rattle.std.specs.List.{list_any, position_or_len, position}
use Rattle.std.proofs.lemmas.List.Sums.{prefix_len-le-length}
use Rattle.std.proofs.lemmas.Bool.Decides.{nat_tests}
use Rattle.indexmap.specs.IndexSet.{insert_key}
use Rattle.type_terms.specs.Promised.Label.{Label, Sort, of_type, of_const, of_lifetime}
use Rattle.type_terms.specs.Promised.Trees.{leaf, sort_of, IsA}
use Rattle.type_terms.specs.Codes.{same_label}
use Rattle.type_terms.proofs.Matching.{same-label-sound}
use Rattle.type_terms.specs.Promised.Handles.{Entry, Has, types, consts, trees_at}
use Rattle.type_terms.specs.Terms.{Lawful}
use Rattle.type_terms.specs.Promised.Handles.{ArgHeld, ArgsHeld, arg_trees, region_label}
use Rattle.type_terms.specs.declared.region.Region.{Region}
use Rattle.type_terms.specs.declared.region.RegionKind.{RegionKind}
use Rattle.type_terms.specs.declared.region.RegionKind.TheVariants.{ReBound}
use Rattle.type_terms.specs.declared.kinds.Ty as ty-module
use Rattle.type_terms.specs.declared.kinds.Const as const-module
use Rattle.type_terms.specs.declared.kinds.GenericArgKind.{GenericArgKind}
use Rattle.type_terms.specs.declared.kinds.GenericArgKind.TheVariants.{Lifetime, Ty as AType, Const as AConst}
use Rattle.type_terms.specs.contracts.region.RegionPartialEq.TheImpl.{ghosts as region}
use Rattle.type_terms.specs.contracts.kinds.TyPartialEq.TheImpl.{ghosts as ty}
use Rattle.type_terms.specs.contracts.kinds.ConstPartialEq.TheImpl.{ghosts as const}
use Rattle.type_terms.specs.contracts.kinds.GenericArgKindPartialEq.TheImpl.{ghosts as arg}
use Rattle.type_terms.proofs.Labels.{region-back}
use Rattle.type_terms.proofs.Equal.{through, region-kind-eq, const-eq}
use Rattle.type_terms.proofs.Sorts.{bound-sort}
use Rattle.type_terms.specs.Kept.{is-at}
use Rattle.infer_table.specs.declared.canonical.CanonicalVarKind.{CanonicalVarKind}
use Rattle.infer_table.specs.Canonical.{is_label_among, with_label, place_of, kind_of_leaf}
use Rattle.infer_table.proofs.CanonicalLaws.{same_label-self}
use Rattle.infer_table.specs.Leaves.{leaf_label, labels, IsLeaf, AreLeaves, AreOpen}
use Rattle.infer_table.proofs.Covers.{region-root as region-sort}
pub use Rattle.type_terms.proofs.Equal.{region-eq, ty-eq, arg-eq}

-- ---- the derived `==` of arguments

abbrev sort_of_arg : GenericArgKind → Sort
sort_of_arg (Lifetime r) = of_lifetime
sort_of_arg (AType t) = of_type
sort_of_arg (AConst c) = of_const

root-sort : (s : Sort) (l : Label) → IsA s (leaf l) → sort_of l ≡ s
root-sort of_type l h = h.0
root-sort of_const l h = h.0
root-sort of_lifetime l h = h.0

pub sort-is : (es : List Entry) → Lawful es → (a : GenericArgKind) (l : Label) → ArgHeld es a → arg_trees es a ≡ leaf l → sort_of l ≡ sort_of_arg a
sort-is es law (Lifetime r) l h e = let p : region_label r.kind ≡ l = cc in ap sort_of (sym p) ∙ region-sort r.kind
sort-is es law (AType t) l h e = root-sort of_type l (subst (IsA of_type) e ((law.sorted t.0 _ (is-at es types t.0 h)).as_type refl))
sort-is es law (AConst t) l h e = root-sort of_const l (subst (IsA of_const) e ((law.sorted t.0 _ (is-at es consts t.0 h)).as_const refl))

pub same-handle : (es : List Entry) → Lawful es → (kind i j : ℕ) → Has es kind i → Has es kind j → trees_at es i ≡ trees_at es j → i ≡ j
same-handle es law kind i j h g e = law.distinct i j _ (is-at es kind i h) (rw e (is-at es kind j g))

pub same-arg : (es : List Entry) → Lawful es → (a b : GenericArgKind) (l : Label) → ArgHeld es a → ArgHeld es b → arg_trees es a ≡ leaf l → arg_trees es b ≡ leaf l → a ≡ b
same-arg es law (Lifetime r) (Lifetime s) l h g p q = let e : region_label r.kind ≡ region_label s.kind = cc in ap (λ k. Lifetime (record { kind = k })) (region-back r.kind s.kind e)
same-arg es law (AType t) (AType u) l h g p q = ap (λ i. AType (record { 0 = i })) (same-handle es law types t.0 u.0 h g (p ∙ sym q))
same-arg es law (AConst t) (AConst u) l h g p q = ap (λ i. AConst (record { 0 = i })) (same-handle es law consts t.0 u.0 h g (p ∙ sym q))
same-arg es law a b l h g p q = let e = sym (sort-is es law a l h p) ∙ sort-is es law b l g q in cc

pub told-apart : (es : List Entry) → Lawful es → (k m : GenericArgKind) → IsLeaf es k → IsLeaf es m → same_label (leaf_label es m) (leaf_label es k) ≡ arg.eq k m
told-apart es law k m h g = by (arg.eq k m) refl (same_label (leaf_label es m) (leaf_label es k)) refl
  where
    by : (x : Bool) → arg.eq k m ≡ x → (y : Bool) → same_label (leaf_label es m) (leaf_label es k) ≡ y → y ≡ x
    by true p true q = refl
    by false p false q = refl
    by true p false q =
        let e = (arg-eq k m).0 p in
        let s : same_label (leaf_label es m) (leaf_label es k) ≡ true = subst (λ z. same_label (leaf_label es z) (leaf_label es k) ≡ true) e (same_label-self (leaf_label es k)) in
        sym q ∙ s
    by false p true q =
        let e : leaf_label es m ≡ leaf_label es k = same-label-sound (leaf_label es m) (leaf_label es k) q in
        let s : k ≡ m = same-arg es law k m (leaf_label es k) h.0 g.0 h.1 (g.1 ∙ ap leaf e) in
        sym ((arg-eq k m).1 s) ∙ p

pub among-keys : (es : List Entry) → Lawful es → (k : GenericArgKind) (ks : List GenericArgKind) → IsLeaf es k → AreLeaves es ks → is_label_among (leaf_label es k) (labels es ks) ≡ list_any (arg.eq k) ks
among-keys es law k [] h g = refl
among-keys es law k (m ∷ ms) h g = rw (told-apart es law k m h g.0, among-keys es law k ms h g.1) refl

map-append : (es : List Entry) (xs ys : List GenericArgKind) → labels es (xs ++ ys) ≡ labels es xs ++ labels es ys
map-append es [] ys = refl
map-append es (x ∷ xs) ys = ap (λ z. leaf_label es x ∷ z) (map-append es xs ys)

-- one more leaf is listed
pub labels-insert : (es : List Entry) → Lawful es → (k : GenericArgKind) (ks : List GenericArgKind) → IsLeaf es k → AreLeaves es ks → labels es (insert_key arg.eq ks k) ≡ with_label (leaf_label es k) (labels es ks)
labels-insert es law k ks h g = by (list_any (arg.eq k) ks) ∙ ap (λ b. if b then labels es ks else (labels es ks ++ leaf_label es k ∷ [])) (sym (among-keys es law k ks h g))
  where
    by : (b : Bool) → labels es (if b then ks else ks ++ k ∷ []) ≡ (if b then labels es ks else (labels es ks ++ leaf_label es k ∷ []))
    by true = refl
    by false = map-append es ks (k ∷ [])

leaves-push : (es : List Entry) (ks : List GenericArgKind) (k : GenericArgKind) → AreLeaves es ks → IsLeaf es k → AreLeaves es (ks ++ k ∷ [])
leaves-push es [] k g h = (h, tt)
leaves-push es (m ∷ ms) k g h = (g.0, leaves-push es ms k g.1 h)

pub leaves-insert : (es : List Entry) (k : GenericArgKind) (ks : List GenericArgKind) → IsLeaf es k → AreLeaves es ks → AreLeaves es (insert_key arg.eq ks k)
leaves-insert es k ks h g = by (list_any (arg.eq k) ks)
  where
    by : (b : Bool) → AreLeaves es (if b then ks else ks ++ k ∷ [])
    by true = g
    by false = leaves-push es ks k g h

one-more : (n : ℕ) → suc n ≡ 1 + n
one-more n = omega arith

-- where a leaf is listed
pub place-of-key : (es : List Entry) → Lawful es → (k : GenericArgKind) (ks : List GenericArgKind) → IsLeaf es k → AreLeaves es ks → place_of (leaf_label es k) (labels es ks) ≡ position_or_len (arg.eq k) ks
place-of-key es law k [] h g = refl
place-of-key es law k (m ∷ ms) h g = ap (λ (b : Bool). if b then zero else suc (place_of (leaf_label es k) (labels es ms))) (told-apart es law k m h g.0) ∙ ap (λ n. if arg.eq k m then zero else suc n) (place-of-key es law k ms h g.1) ∙ first (arg.eq k m) refl
  where
    first : (b : Bool) → arg.eq k m ≡ b → (if arg.eq k m then zero else suc (position_or_len (arg.eq k) ms)) ≡ position_or_len (arg.eq k) (m ∷ ms)
    first true e = rw e refl
    first false e = rw e (one-more _)

below : (m n : ℕ) → m ≤ n → nat_lt m n ≡ false → n ≡ m
below m n h e = grind (arith, nat_tests)

-- what a search for a key answers
pub found-at : (p : GenericArgKind → Bool) (xs : List GenericArgKind) (i : ℕ) → Some i ≡ position p xs → i ≡ position_or_len p xs
found-at p xs i e = by (nat_lt (position_or_len p xs) (length xs)) e
  where
    by : (b : Bool) → Some i ≡ cond b (Some (position_or_len p xs)) None → i ≡ position_or_len p xs
    by true e = cc
    by false e = cc

pub not-found-at : (p : GenericArgKind → Bool) (xs : List GenericArgKind) → None ≡ position p xs → length xs ≡ position_or_len p xs
not-found-at p xs e = by (nat_lt (position_or_len p xs) (length xs)) refl e
  where
    by : (b : Bool) → nat_lt (position_or_len p xs) (length xs) ≡ b → None ≡ cond b (Some (position_or_len p xs)) None → length xs ≡ position_or_len p xs
    by true q e = cc
    by false q e = below (position_or_len p xs) (length xs) (prefix_len-le-length (λ x. not (p x)) xs) q

-- ---- one of a list
pub leaf-at : (es : List Entry) (xs : List GenericArgKind) (i : ℕ) (d : GenericArgKind) → AreLeaves es xs → i < length xs → IsLeaf es (get_or xs i d)
leaf-at es [] i d h l = absurd (omega arith)
leaf-at es (x ∷ xs) zero d h l = h.0
leaf-at es (x ∷ xs) (suc i) d h l = leaf-at es xs i d h.1 (omega arith)

pub open-at : (es : List Entry) (xs : List GenericArgKind) (i : ℕ) (d : GenericArgKind) → AreOpen (labels es xs) → i < length xs → IsSome (kind_of_leaf (leaf_label es (get_or xs i d)))
open-at es [] i d h l = absurd (omega arith)
open-at es (x ∷ xs) zero d h l = h.0
open-at es (x ∷ xs) (suc i) d h l = open-at es xs i d h.1 (omega arith)

join : (a b : List (Option CanonicalVarKind)) (x y : Option CanonicalVarKind) → a ≡ b → x ≡ y → a ++ x ∷ [] ≡ b ++ y ∷ []
join a b x y p q = cc

pub leaves-held : (es : List Entry) (xs : List GenericArgKind) → AreLeaves es xs → ArgsHeld es xs
leaves-held es [] h = tt
leaves-held es (x ∷ xs) h = (h.0.0, leaves-held es xs h.1)

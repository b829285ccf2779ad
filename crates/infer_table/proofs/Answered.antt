-- The response made from a table agrees with each solution of the table.
use Rattle.std.proofs.Common.{◌≡◌, ℕ, zero, suc, Bool, true, false, refl, ap, sym, ◌∙◌, subst, List, [], ◌∷◌, map, Option, Some, None, is_some, IsSome, if◌then◌else◌, inl, inr}
use Rattle.std.specs.Prelude.{option_map}
use Rattle.std.specs.List.{slice_get}
use Rattle.type_terms.specs.Promised.Label.{Label, Sort, of_type, of_const, of_lifetime, infer, param, placeholder, canonical, static}
use Rattle.type_terms.specs.Promised.Trees.{Trees, none, tree, leaf, ◌+++◌, erase_label, sort_of, is_sort}
use Rattle.type_terms.specs.Codes.{same_label}
use Rattle.type_terms.proofs.Matching.{same-label-sound}
use Rattle.infer_table.specs.Solutions.{Assignment, tree_of, instance, IsSorted}
use Rattle.infer_table.specs.declared.canonical.CanonicalVarKind.{CanonicalVarKind}
use Rattle.infer_table.specs.Canonical.{kind_of_leaf, StandsIn, relabeled, leaves, is_label_among, place_of, canonical_label, HasNoCanonical}
use Rattle.infer_table.proofs.CanonicalLaws.{leaves-hold, leaves-keep, kind-sort}
use Rattle.infer_table.proofs.SolutionLaws.{is_sort-equal}
use Rattle.infer_table.proofs.EquationFacts.{erase-sort}
use Rattle.infer_table.specs.Leaves.{OpenAreLeaves}
use Rattle.infer_table.proofs.Collections.{leaves-append}
use Rattle.infer_table.specs.Raw.{sort_of_kind}
use Rattle.infer_table.specs.Responses.{answer_leaves}
use Rattle.infer_table.specs.Covers.{chosen, Agrees, AreNumbered}
use Rattle.type_terms.proofs.Made.{false-true}
use Rattle.type_terms.proofs.TermBasics.{tree-cong, two, is_sort-self}
use Rattle.type_terms.proofs.TypeBasics.{some-is}

-- the leaf in its place
leaf-at : (l : Label) (ls : List Label) → is_label_among l ls ≡ true → slice_get ls (place_of l ls) ≡ Some l
leaf-at l [] h = absurd (false-true h)
leaf-at l (m ∷ ms) h = by (same_label m l) refl (leaf-at l ms)
  where
    by : (b : Bool) → same_label m l ≡ b → (is_label_among l ms ≡ true → slice_get ms (place_of l ms) ≡ Some l) → slice_get (m ∷ ms) (if same_label m l then zero else suc (place_of l ms)) ≡ Some l
    by true e q = rw e (ap Some (same-label-sound m l e))
    by false e q = let rest : is_label_among l ms ≡ true = rw e at h in rw e (q rest)

-- the kind in its place
kind-at : (ks : List CanonicalVarKind) (ls : List Label) (i : ℕ) (l : Label) (k : CanonicalVarKind) → map Some ks ≡ map kind_of_leaf ls → slice_get ls i ≡ Some l → kind_of_leaf l ≡ Some k → slice_get ks i ≡ Some k
kind-at ks [] i l k e f g = cc
kind-at [] (m ∷ ms) i l k e f g = cc
kind-at (j ∷ ks) (m ∷ ms) zero l k e f g =
    let first : Some j ≡ kind_of_leaf m = cc in
    let same : m ≡ l = some-is m l f in
    first ∙ ap kind_of_leaf same ∙ g
kind-at (j ∷ ks) (m ∷ ms) (suc i) l k e f g = let rest : map Some ks ≡ map kind_of_leaf ms = cc in kind-at ks ms i l k rest f g

-- ---- what is chosen for a leaf is what it stands for
abbrev node_of : Assignment → Label → Label × Trees
node_of s (infer of_type v) = s of_type v
node_of s (infer of_const v) = s of_const v
node_of s l = (erase_label l, none)

node-of : (s : Assignment) (l : Label) → tree_of (node_of s l) ≡ instance s (leaf l)
node-of s (infer of_type v) = refl
node-of s (infer of_const v) = refl
node-of s l = refl

node-sort : (s : Assignment) → IsSorted s → (l : Label) → sort_of (node_of s l).0 ≡ sort_of l
node-sort s h (infer of_type v) = h of_type v
node-sort s h (infer of_const v) = h of_const v
node-sort s h l = erase-sort l

abbrev choose : Assignment → Sort → Option Label → Label × Trees
choose s k None = s k 0
choose s k (Some l) = if is_sort (sort_of l) k then node_of s l else s k 0

-- for variable i what its leaf stands for
abbrev choice : Assignment → List Label → Assignment
choice s ls = λ k i. choose s k (slice_get ls i)

choose-sorted : (s : Assignment) → IsSorted s → (k : Sort) (o : Option Label) → sort_of (choose s k o).0 ≡ k
choose-sorted s h k None = h k 0
choose-sorted s h k (Some l) = by (is_sort (sort_of l) k) refl
  where
    by : (b : Bool) → is_sort (sort_of l) k ≡ b → sort_of (if is_sort (sort_of l) k then node_of s l else s k 0).0 ≡ k
    by true e = ap (λ (b : Bool). sort_of (if b then node_of s l else s k 0).0) e ∙ node-sort s h l ∙ is_sort-equal (sort_of l) k e
    by false e = ap (λ (b : Bool). sort_of (if b then node_of s l else s k 0).0) e ∙ h k 0

choose-self : (s : Assignment) (ls : List Label) (l : Label) (i : ℕ) → slice_get ls i ≡ Some l → choice s ls (sort_of l) i ≡ node_of s l
choose-self s ls l i e = ap (choose s (sort_of l)) e ∙ ap (λ (b : Bool). if b then node_of s l else s (sort_of l) 0) (is_sort-self (sort_of l))

lifetime-node : (s : Assignment) (l : Label) (k : CanonicalVarKind) → kind_of_leaf l ≡ Some k → sort_of l ≡ of_lifetime → leaf static ≡ instance s (leaf l)
lifetime-node s (infer of_type v) k e h = cc
lifetime-node s (infer of_const v) k e h = cc
lifetime-node s (infer of_lifetime v) k e h = refl
lifetime-node s (param of_type v) k e h = cc
lifetime-node s (param of_const v) k e h = cc
lifetime-node s (param of_lifetime v) k e h = refl
lifetime-node s (placeholder of_type v) k e h = cc
lifetime-node s (placeholder of_const v) k e h = cc
lifetime-node s (placeholder of_lifetime v) k e h = refl
lifetime-node s static k e h = refl
lifetime-node s l k e h = cc

leaf-read : (s : Assignment) (ls : List Label) (l : Label) (k : CanonicalVarKind) → kind_of_leaf l ≡ Some k → is_label_among l ls ≡ true → (j : Sort) → sort_of l ≡ j → chosen (choice s ls) (leaf (canonical j (place_of l ls))) ≡ instance s (leaf l)
leaf-read s ls l k e m of_type h =
    ap (λ (j : Sort). tree_of (choice s ls j (place_of l ls))) (sym h) ∙ ap tree_of (choose-self s ls l (place_of l ls) (leaf-at l ls m)) ∙ node-of s l
leaf-read s ls l k e m of_const h =
    ap (λ (j : Sort). tree_of (choice s ls j (place_of l ls))) (sym h) ∙ ap tree_of (choose-self s ls l (place_of l ls) (leaf-at l ls m)) ∙ node-of s l
leaf-read s ls l k e m of_lifetime h = lifetime-node s l k e h

-- an answer's leaves hold those of its values
pub value-leaves : (v c p : Trees) → p ≡ v +++ c → (l : Label) → StandsIn kind_of_leaf v l → is_label_among l (answer_leaves p) ≡ true
value-leaves v c p e l q =
    subst (λ z. is_label_among l z ≡ true) (sym (ap (leaves kind_of_leaf []) e ∙ leaves-append kind_of_leaf [] v c)) (leaves-keep kind_of_leaf l (leaves kind_of_leaf [] v) c (leaves-hold kind_of_leaf l [] v q))

-- ---- numbered trees
chosen-split : (q : Assignment) (j : Sort) (i : ℕ) (o : Trees) → chosen q (tree (canonical j i) none o) ≡ chosen q (leaf (canonical j i)) +++ chosen q o
chosen-split q of_type i o = refl
chosen-split q of_const i o = refl
chosen-split q of_lifetime i o = refl

instance-split : (s : Assignment) (l : Label) (o : Trees) → instance s (leaf l) +++ instance s o ≡ instance s (tree l none o)
instance-split s (infer of_type v) o = refl
instance-split s (infer of_const v) o = refl
instance-split s l o = refl

-- a label that stays, and is no canonical variable
stays-chosen : (q s : Assignment) (l : Label) (c c' o o' : Trees) → kind_of_leaf l ≡ None → HasNoCanonical (tree l c' o') → chosen q c ≡ instance s c' → chosen q o ≡ instance s o' → chosen q (tree l c o) ≡ instance s (tree l c' o')
stays-chosen q s (infer of_type v) c c' o o' e n p r = cc
stays-chosen q s (infer of_const v) c c' o o' e n p r = cc
stays-chosen q s (infer of_lifetime v) c c' o o' e n p r = cc
stays-chosen q s (canonical j i) c c' o o' e n p r = absurd n
stays-chosen q s l c c' o o' e n p r = tree-cong _ _ _ _ _ _ refl p r

stays-numbered : (ks : List CanonicalVarKind) (l : Label) (c c' o o' : Trees) → kind_of_leaf l ≡ None → HasNoCanonical (tree l c' o') → AreNumbered ks c → AreNumbered ks o → AreNumbered ks (tree l c o)
stays-numbered ks (infer of_type v) c c' o o' e n p r = cc
stays-numbered ks (infer of_const v) c c' o o' e n p r = cc
stays-numbered ks (infer of_lifetime v) c c' o o' e n p r = cc
stays-numbered ks (canonical j i) c c' o o' e n p r = absurd n
stays-numbered ks l c c' o o' e n p r = (p, r)

parts : (l : Label) (c o : Trees) → HasNoCanonical (tree l c o) → HasNoCanonical c × HasNoCanonical o
parts (canonical s i) c o h = absurd h
parts l c o h = h

module _ (ls : List Label) where
  abbrev numbered : Trees → Trees
  numbered t = relabeled kind_of_leaf (canonical_label ls) t

  pub chosen-numbered : (s : Assignment) (t : Trees) → HasNoCanonical t → OpenAreLeaves kind_of_leaf t → ((l : Label) → StandsIn kind_of_leaf t l → is_label_among l ls ≡ true) → chosen (choice s ls) (numbered t) ≡ instance s t
  chosen-numbered s none n h m = refl
  chosen-numbered s (tree l c o) n h m =
      by (kind_of_leaf l) refl (chosen-numbered s c (parts l c o n).0 h.1 (λ x q. m x (inr (inl q)))) (chosen-numbered s o (parts l c o n).1 h.2 (λ x q. m x (inr (inr q))))
    where
      q : Assignment
      q = choice s ls

      by : (k : Option CanonicalVarKind) → kind_of_leaf l ≡ k → chosen q (numbered c) ≡ instance s c → chosen q (numbered o) ≡ instance s o
          → chosen q (tree (if is_some (kind_of_leaf l) then canonical_label ls l else l) (numbered c) (numbered o)) ≡ instance s (tree l c o)
      by None e p r =
          ap (λ (x : Option CanonicalVarKind). chosen q (tree (if is_some x then canonical_label ls l else l) (numbered c) (numbered o))) e
          ∙ stays-chosen q s l (numbered c) c (numbered o) o e n p r
      by (Some k) e p r =
          let is_open : IsSome (kind_of_leaf l) = ap is_some e in
          let c-none : c ≡ none = h.0 is_open in
          ap (λ (x : Option CanonicalVarKind). chosen q (tree (if is_some x then canonical_label ls l else l) (numbered c) (numbered o))) e
          ∙ ap (λ z. chosen q (tree (canonical_label ls l) (numbered z) (numbered o))) c-none
          ∙ chosen-split q (sort_of l) (place_of l ls) (numbered o)
          ∙ two _ _ _ _ (leaf-read s ls l k e (m l (inl (refl, is_open))) (sort_of l) refl) r
          ∙ instance-split s l o ∙ ap (λ z. instance s (tree l z o)) (sym c-none)

  pub are-numbered : (ks : List CanonicalVarKind) → map Some ks ≡ map kind_of_leaf ls → (t : Trees) → HasNoCanonical t → OpenAreLeaves kind_of_leaf t → ((l : Label) → StandsIn kind_of_leaf t l → is_label_among l ls ≡ true) → AreNumbered ks (numbered t)
  are-numbered ks kinds none n h m = tt
  are-numbered ks kinds (tree l c o) n h m =
      by (kind_of_leaf l) refl (are-numbered ks kinds c (parts l c o n).0 h.1 (λ x q. m x (inr (inl q)))) (are-numbered ks kinds o (parts l c o n).1 h.2 (λ x q. m x (inr (inr q))))
    where
      by : (k : Option CanonicalVarKind) → kind_of_leaf l ≡ k → AreNumbered ks (numbered c) → AreNumbered ks (numbered o)
          → AreNumbered ks (tree (if is_some (kind_of_leaf l) then canonical_label ls l else l) (numbered c) (numbered o))
      by None e p r =
          subst (λ (x : Option CanonicalVarKind). AreNumbered ks (tree (if is_some x then canonical_label ls l else l) (numbered c) (numbered o))) (sym e)
          (stays-numbered ks l (numbered c) c (numbered o) o e n p r)
      by (Some k) e p r =
          let is_open : IsSome (kind_of_leaf l) = ap is_some e in
          subst (λ (x : Option CanonicalVarKind). AreNumbered ks (tree (if is_some x then canonical_label ls l else l) (numbered c) (numbered o))) (sym e)
          (ap (option_map sort_of_kind) (kind-at ks ls (place_of l ls) l k kinds (leaf-at l ls (m l (inl (refl, is_open)))) e) ∙ ap Some (sym (kind-sort l k e)), ap numbered (h.0 is_open), r)

  -- the numbered trees agree with what the trees stand for
  pub agrees : (s : Assignment) (a t u : Trees) → IsSorted s → HasNoCanonical t → OpenAreLeaves kind_of_leaf t → ((l : Label) → StandsIn kind_of_leaf t l → is_label_among l ls ≡ true) → a ≡ numbered t → instance s t ≡ instance s u → Agrees a (instance s u)
  agrees s a t u h n k m e p = (choice s ls, λ j i. choose-sorted s h j (slice_get ls i), ap (chosen (choice s ls)) e ∙ chosen-numbered s t n k m ∙ p)

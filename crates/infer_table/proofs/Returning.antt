-- A canonical form with the values of its variables is the trees it was made from.
use Rattle.std.proofs.Common.{◌≡◌, zero, suc, Bool, true, false, refl, ap, sym, ◌∙◌, subst, List, [], ◌∷◌, Some, None, is_some, if◌then◌else◌, inl, inr}
use Rattle.type_terms.specs.Promised.Label.{Label, Sort, canonical}
use Rattle.type_terms.specs.Promised.Trees.{Trees, none, tree, leaf, ◌+++◌, sort_of, is_sort}
use Rattle.type_terms.specs.Trees.{put_at_node}
use Rattle.type_terms.specs.Codes.{same_label}
use Rattle.type_terms.proofs.Matching.{same-label-sound}
use Rattle.type_terms.specs.Promised.Handles.{Entry}
use Rattle.type_terms.specs.Terms.{Lawful}
use Rattle.type_terms.specs.declared.kinds.GenericArgKind.{GenericArgKind}
use Rattle.infer_table.specs.Canonical.{OpenKinds, GoalTrees, kind_in_clause, kind_of_leaf, leaves, StandsIn, relabeled, renamed, is_label_among, place_of, canonical_label, goal_leaves, HasNoCanonical}
use Rattle.infer_table.proofs.CanonicalLaws.{leaves-hold, leaves-keep}
use Rattle.infer_table.specs.Inputs.{IsWithoutCanonical}
use Rattle.infer_table.specs.Leaves.{leaf_label, labels, AreLeaves, OpenAreLeaves, OpenAreLeavesOf}
use Rattle.infer_table.specs.Values.{Value, sort_of_arg, value_of, values_of, if_of_sort, value_for, filled_values, goal_filled}
use Rattle.infer_table.proofs.LeafFacts.{sort-is}
use Rattle.type_terms.proofs.Made.{false-true}
use Rattle.type_terms.proofs.TermBasics.{sort-self}
use Rattle.infer_table.proofs.Numbers.{goal-same}

-- the value of a leaf's canonical variable is the leaf
pub value-of-leaf : (es : List Entry) → Lawful es → (xs : List GenericArgKind) (l : Label) → AreLeaves es xs → is_label_among l (labels es xs) ≡ true → value_for (values_of es xs) (canonical_label (labels es xs) l) ≡ Some (leaf l)
value-of-leaf es law [] l h m = absurd (false-true m)
value-of-leaf es law (x ∷ xs) l h m = by (same_label (leaf_label es x) l) refl (value-of-leaf es law xs l h.1)
  where
    here : leaf_label es x ≡ l → if_of_sort (sort_of l) (Some (value_of es x)) ≡ Some (leaf l)
    here e =
        let tree-is = h.0.1 ∙ ap leaf e in
        let sort : sort_of l ≡ sort_of_arg x = sort-is es law x l h.0.0 tree-is in
        ap (λ (s : Sort). if is_sort (sort_of_arg x) s then Some (value_of es x).trees else None) sort
        ∙ ap (λ (b : Bool). if b then Some (value_of es x).trees else None) (sort-self (sort_of_arg x)) ∙ ap Some tree-is

    by : (b : Bool) → same_label (leaf_label es x) l ≡ b → (is_label_among l (labels es xs) ≡ true → value_for (values_of es xs) (canonical_label (labels es xs) l) ≡ Some (leaf l))
        → value_for (values_of es (x ∷ xs)) (canonical (sort_of l) (if same_label (leaf_label es x) l then zero else suc (place_of l (labels es xs)))) ≡ Some (leaf l)
    by true e q = rw e (here (same-label-sound (leaf_label es x) l e))
    by false e q = let rest : is_label_among l (labels es xs) ≡ true = rw e at m in rw e (q rest)

module _ (vs : List Value) (ls : List Label) (stands : (l : Label) → is_label_among l ls ≡ true → value_for vs (canonical_label ls l) ≡ Some (leaf l)) where
  node : (l : Label) (o o' : Trees) → o' ≡ o → leaf l +++ o' ≡ tree l none o
  node l o o' e = ap (λ z. tree l none z) e

  tree-cong : (l : Label) (c c' o o' : Trees) → c' ≡ c → o' ≡ o → tree l c' o' ≡ tree l c o
  tree-cong l c c' o o' p q = cc

  no-value : (l : Label) (c o : Trees) → HasNoCanonical (tree l c o) → value_for vs l ≡ None
  no-value (canonical s i) c o h = absurd h
  no-value l c o h = refl

  parts : (l : Label) (c o : Trees) → HasNoCanonical (tree l c o) → HasNoCanonical c × HasNoCanonical o
  parts (canonical s i) c o h = absurd h
  parts l c o h = h

  pub returned : (kind : OpenKinds) (t : Trees) → HasNoCanonical t → OpenAreLeaves kind t → ((l : Label) → StandsIn kind t l → is_label_among l ls ≡ true) → filled_values vs (relabeled kind (canonical_label ls) t) ≡ t
  returned kind none n h m = refl
  returned kind (tree l c o) n h m = by (is_some (kind l)) refl (returned kind c below.0 h.1 (λ x q. m x (inr (inl q)))) (returned kind o below.1 h.2 (λ x q. m x (inr (inr q))))
    where
      below : HasNoCanonical c × HasNoCanonical o
      below = parts l c o n

      by : (b : Bool) → is_some (kind l) ≡ b → filled_values vs (relabeled kind (canonical_label ls) c) ≡ c → filled_values vs (relabeled kind (canonical_label ls) o) ≡ o
          → filled_values vs (tree (if is_some (kind l) then canonical_label ls l else l) (relabeled kind (canonical_label ls) c) (relabeled kind (canonical_label ls) o)) ≡ tree l c o
      by true e p q =
          ap (λ (b : Bool). filled_values vs (tree (if b then canonical_label ls l else l) (relabeled kind (canonical_label ls) c) (relabeled kind (canonical_label ls) o))) e
          ∙ ap (λ v. put_at_node v (tree (canonical_label ls l) (filled_values vs (relabeled kind (canonical_label ls) c)) none) +++ filled_values vs (relabeled kind (canonical_label ls) o)) (stands l (m l (inl (refl, e))))
          ∙ node l o _ q ∙ ap (λ z. tree l z o) (sym (h.0 e))
      by false e p q =
          ap (λ (b : Bool). filled_values vs (tree (if b then canonical_label ls l else l) (relabeled kind (canonical_label ls) c) (relabeled kind (canonical_label ls) o))) e
          ∙ ap (λ v. put_at_node v (tree l (filled_values vs (relabeled kind (canonical_label ls) c)) none) +++ filled_values vs (relabeled kind (canonical_label ls) o)) (no-value l c o n)
          ∙ tree-cong l c _ o _ p q

pub goal-filled-cong : (vs ws : List Value) (g h : GoalTrees) → vs ≡ ws → g ≡ h → goal_filled vs g ≡ goal_filled ws h
goal-filled-cong vs ws g h p q = cc

-- a goal comes back from its form
pub goal-returned : (es : List Entry) → Lawful es → (xs : List GenericArgKind) (g : GoalTrees) → AreLeaves es xs → labels es xs ≡ goal_leaves g → IsWithoutCanonical g → OpenAreLeavesOf g
    → goal_filled (values_of es xs) (renamed (canonical_label (labels es xs)) g) ≡ g
goal-returned es law xs g h e n k =
    goal-same _ _ _ _ (returned (values_of es xs) (labels es xs) stands kind_in_clause g.environment n.environment k.environment in-environment)
    (returned (values_of es xs) (labels es xs) stands kind_of_leaf g.predicate n.predicate k.predicate in-predicate)
  where
    stands : (l : Label) → is_label_among l (labels es xs) ≡ true → value_for (values_of es xs) (canonical_label (labels es xs) l) ≡ Some (leaf l)
    stands l m = value-of-leaf es law xs l h m

    in-environment : (l : Label) → StandsIn kind_in_clause g.environment l → is_label_among l (labels es xs) ≡ true
    in-environment l q = subst (λ ls. is_label_among l ls ≡ true) (sym e) (leaves-keep kind_of_leaf l (leaves kind_in_clause [] g.environment) g.predicate (leaves-hold kind_in_clause l [] g.environment q))

    in-predicate : (l : Label) → StandsIn kind_of_leaf g.predicate l → is_label_among l (labels es xs) ≡ true
    in-predicate l q = subst (λ ls. is_label_among l ls ≡ true) (sym e) (leaves-hold kind_of_leaf l (leaves kind_in_clause [] g.environment) g.predicate q)

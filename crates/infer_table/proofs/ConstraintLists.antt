-- Lists of constraints, mapped and collected one by one.
use Rattle.std.proofs.Common.{◌≡◌, ℕ, false, zero, suc, ◌+◌, ◌<◌, ◌≤◌, List, [], ◌∷◌, ◌++◌, length, take, drop, get_or, refl, ap, sym, ◌∙◌, subst, arith, None, Option}
use Rattle.std.proofs.lemmas.Grind.{common_steps}
use Rattle.type_terms.specs.Promised.Label.{Label}
use Rattle.type_terms.specs.Promised.Trees.{Trees, none, tree, ◌+++◌}
use Rattle.type_terms.specs.Promised.Handles.{Entry, Keeps, types}
use Rattle.type_terms.specs.Promised.Handles.{region_trees}
use Rattle.term_folds.specs.Folds.{Does, Folds, FoldsEach}
use Rattle.type_terms.specs.Pieces.{Piece, one_piece, each_piece}
use Rattle.type_terms.specs.Visits.{VisitsEach}
use Rattle.type_terms.specs.Kept.{append-both}
use Rattle.type_terms.proofs.Items.{take-push}
use Rattle.infer_table.specs.Solutions.{Binding, resolved}
use Rattle.infer_table.specs.declared.canonical.CanonicalVarKind.{CanonicalVarKind}
use Rattle.infer_table.specs.Canonical.{CanonicalForm, kind_of_leaf, leaves, canonical_label}
use Rattle.infer_table.specs.Content.{IsHeldConstraint, AllConstraintsHeld}
use Rattle.infer_table.specs.Kept.{trees-kept}
use Rattle.infer_table.specs.Constraints.{constraint_outline, constraint_pieces, constraint_label, constraint_terms, constraints_trees, constraint-pieces-later}
use Rattle.infer_table.specs.declared.terms.RegionConstraint.{RegionConstraint}
use Rattle.infer_table.specs.declared.terms.RegionConstraint.TheVariants.{Equal, RegionOutlives, TypeOutlives}
use Rattle.infer_table.proofs.SolutionLaws.{resolved-append, resolved-none, resolved-rigid}
use Rattle.infer_table.specs.declared.canonicalizer.LeafCollector.{LeafCollector}
use Rattle.infer_table.specs.Leaves.{open_kinds, labels, numbering}
use Rattle.infer_table.specs.LeafLaws.{Collecting}
use Rattle.infer_table.specs.Values.{Value, filled_values, filling}
use Rattle.infer_table.proofs.Numbers.{relabeled-append, numbered-fold}
use Rattle.infer_table.proofs.Fillings.{filled-append, filled-fold}
use Rattle.infer_table.proofs.Collections.{Collected, two-visits}
use Rattle.infer_table.specs.Responses.{ConstraintsFold, numbered_by, as_goal}

-- ---- lists
pub constraint-held-at : (es : List Entry) (xs : List RegionConstraint) (i : ℕ) (d : RegionConstraint) → AllConstraintsHeld es xs → i < length xs → IsHeldConstraint es (get_or xs i d)
constraint-held-at es [] i d h l = absurd (omega arith)
constraint-held-at es (x ∷ xs) zero d h l = h.0
constraint-held-at es (x ∷ xs) (suc i) d h l = constraint-held-at es xs i d h.1 (omega arith)

pub constraints-held-push : (es : List Entry) (xs : List RegionConstraint) (y : RegionConstraint) → AllConstraintsHeld es xs → IsHeldConstraint es y → AllConstraintsHeld es (xs ++ y ∷ [])
constraints-held-push es [] y h g = (g, tt)
constraints-held-push es (x ∷ xs) y h g = (h.0, constraints-held-push es xs y h.1 g)

pub constraints-append : (es : List Entry) (xs ys : List RegionConstraint) → constraints_trees es (xs ++ ys) ≡ constraints_trees es xs +++ constraints_trees es ys
constraints-append es [] ys = refl
constraints-append es (x ∷ xs) ys = ap (λ z. tree (constraint_label x) (constraint_terms es x) z) (constraints-append es xs ys)

terms-later : (old new : List Entry) → Keeps old new → (x : RegionConstraint) → IsHeldConstraint old x → constraint_terms new x ≡ constraint_terms old x
terms-later old new k (Equal a b) h = refl
terms-later old new k (RegionOutlives a b) h = refl
terms-later old new k (TypeOutlives t r) h = ap (λ z. z +++ region_trees r) (trees-kept old new types t.0 k h.0)

node : (l l' : Label) (c c' o o' : Trees) → l' ≡ l → c' ≡ c → o' ≡ o → tree l' c' o' ≡ tree l c o
node l l' c c' o o' p q r = cc

pub constraints-later : (old new : List Entry) → Keeps old new → (xs : List RegionConstraint) → AllConstraintsHeld old xs → constraints_trees new xs ≡ constraints_trees old xs
constraints-later old new k [] h = refl
constraints-later old new k (x ∷ xs) h = node _ _ _ _ _ _ refl (terms-later old new k x h.0) (constraints-later old new k xs h.1)

folds-push : (f : List ℕ → Trees → Does) (old now next : List Entry) → Keeps now next → (xs ys : List RegionConstraint) (x y : RegionConstraint) → AllConstraintsHeld now ys → ConstraintsFold f old xs now ys
    → constraint_outline y ≡ constraint_outline x → FoldsEach f [] (constraint_pieces old x) (constraint_pieces next y) → ConstraintsFold f old (xs ++ x ∷ []) next (ys ++ y ∷ [])
folds-push f old now next k [] [] x y held h o e = (o, e, tt)
folds-push f old now next k [] (b ∷ ys) x y held h o e = absurd h
folds-push f old now next k (a ∷ xs) [] x y held h o e = absurd h
folds-push f old now next k (a ∷ xs) (b ∷ ys) x y held h o e =
    (h.0, subst (λ z. FoldsEach f [] (constraint_pieces old a) z) (sym (constraint-pieces-later now next k b held.0)) h.1, folds-push f old now next k xs ys x y held.1 h.2 o e)

-- one more constraint is folded
pub one-more-fold : (f g : List ℕ → Trees → Does) (old now next : List Entry) → g ≡ f → Keeps old now → Keeps now next → (xs ys : List RegionConstraint) (i : ℕ) (x y : RegionConstraint) → i < length xs → x ≡ get_or xs i x
    → IsHeldConstraint old x → AllConstraintsHeld now ys → ConstraintsFold f old (take i xs) now ys
    → constraint_outline y ≡ constraint_outline x → FoldsEach g [] (constraint_pieces now x) (constraint_pieces next y) → ConstraintsFold f old (take (i + 1) xs) next (ys ++ y ∷ [])
one-more-fold f g old now next same k n xs ys i x y lt is had held h o e =
    let from : take (i + 1) xs ≡ take i xs ++ x ∷ [] = take-push xs i x lt ∙ ap (λ z. take i xs ++ z ∷ []) (sym is) in
    let here : FoldsEach f [] (constraint_pieces old x) (constraint_pieces next y) =
    subst (λ z. FoldsEach f [] z (constraint_pieces next y)) (constraint-pieces-later old now k x had) (subst (λ (w : List ℕ → Trees → Does). FoldsEach w [] (constraint_pieces now x) (constraint_pieces next y)) same e) in
    subst (λ z. ConstraintsFold f old z next (ys ++ y ∷ [])) (sym from) (folds-push f old now next n (take i xs) ys x y held h o here)

two-pieces : (a b c d : Trees) → one_piece a ++ one_piece b ≡ one_piece c ++ one_piece d → (a ≡ c) × (b ≡ d)
two-pieces a b c d e = (ap first e, ap second e)
  where
    first : List Piece → Trees
    first [] = none
    first (p ∷ ps) = p.trees

    second : List Piece → Trees
    second [] = none
    second (p ∷ ps) = first ps

pub one-piece-is : (a b : Trees) → one_piece a ≡ one_piece b → a ≡ b
one-piece-is a b e = ap first e
  where
    first : List Piece → Trees
    first [] = none
    first (p ∷ ps) = p.trees

pub form-same : (p q : Trees) (k l : List (Option CanonicalVarKind)) → p ≡ q → k ≡ l → ◌≡◌ {A = CanonicalForm} (record { goal = as_goal p; kinds = k }) (record { goal = as_goal q; kinds = l })
form-same p q k l a b = cc

-- ---- a map of trees that leaves the nodes of constraints
module _ (g : Trees → Trees) (at-none : g none ≡ none) (at-append : (x y : Trees) → g (x +++ y) ≡ g x +++ g y) (at-node : (x : RegionConstraint) (c o : Trees) → g (tree (constraint_label x) c o) ≡ tree (constraint_label x) (g c) (g o)) where
  record Mapped (old new : List Entry) (x y : RegionConstraint) : Type 0 where
    label : constraint_label y ≡ constraint_label x
    terms : constraint_terms new y ≡ g (constraint_terms old x)

  two : (a a' b b' : Trees) → a' ≡ g a → b' ≡ g b → a' +++ b' ≡ g (a +++ b)
  two a a' b b' p q = append-both a' (g a) b' (g b) p q ∙ sym (at-append a b)

  folded-one : (f : List ℕ → Trees → Does) → ((t u : Trees) → Folds f [] t u → u ≡ g t) → (old new : List Entry) (x y : RegionConstraint)
      → constraint_outline y ≡ constraint_outline x → FoldsEach f [] (constraint_pieces old x) (constraint_pieces new y) → Mapped old new x y
  folded-one f folds old new (Equal a b) (Equal a' b') e h = record { label = refl; terms = two _ _ _ _ (folds _ _ h.1) (folds _ _ h.2.1) }
  folded-one f folds old new (RegionOutlives a b) (RegionOutlives a' b') e h = record { label = refl; terms = two _ _ _ _ (folds _ _ h.1) (folds _ _ h.2.1) }
  folded-one f folds old new (TypeOutlives t r) (TypeOutlives t' r') e h = record { label = refl; terms = two _ _ _ _ (folds _ _ h.1) (folds _ _ h.2.1) }
  folded-one f folds old new x y e h = cc

  pub folded-all : (f : List ℕ → Trees → Does) → ((t u : Trees) → Folds f [] t u → u ≡ g t) → (old new : List Entry) (xs ys : List RegionConstraint)
      → ConstraintsFold f old xs new ys → constraints_trees new ys ≡ g (constraints_trees old xs)
  folded-all f folds old new [] [] h = sym at-none
  folded-all f folds old new [] (y ∷ ys) h = absurd h
  folded-all f folds old new (x ∷ xs) [] h = absurd h
  folded-all f folds old new (x ∷ xs) (y ∷ ys) h =
      let here = folded-one f folds old new x y h.0 h.1 in
      node _ _ _ _ _ _ here.label here.terms (folded-all f folds old new xs ys h.2) ∙ sym (at-node x (constraint_terms old x) (constraints_trees old xs))

  mapped-one : (old new : List Entry) (x y : RegionConstraint) → constraint_outline y ≡ constraint_outline x → constraint_pieces new y ≡ each_piece (λ d t. g t) (constraint_pieces old x) → Mapped old new x y
  mapped-one old new (Equal a b) (Equal a' b') e h = let p = two-pieces _ _ _ _ h in record { label = refl; terms = two _ _ _ _ p.0 p.1 }
  mapped-one old new (RegionOutlives a b) (RegionOutlives a' b') e h = let p = two-pieces _ _ _ _ h in record { label = refl; terms = two _ _ _ _ p.0 p.1 }
  mapped-one old new (TypeOutlives t r) (TypeOutlives t' r') e h = let p = two-pieces _ _ _ _ h in record { label = refl; terms = two _ _ _ _ p.0 p.1 }
  mapped-one old new x y e h = cc

  -- one more constraint is mapped
  one-more : (old now next : List Entry) → Keeps now next → (xs ys : List RegionConstraint) (i : ℕ) (x y : RegionConstraint) → i < length xs → x ≡ get_or xs i x → AllConstraintsHeld now ys
      → constraints_trees now ys ≡ g (constraints_trees old (take i xs)) → Mapped old next x y → constraints_trees next (ys ++ y ∷ []) ≡ g (constraints_trees old (take (i + 1) xs))
  one-more old now next k xs ys i x y lt is held h m =
      let from : take (i + 1) xs ≡ take i xs ++ x ∷ [] = take-push xs i x lt ∙ ap (λ z. take i xs ++ z ∷ []) (sym is) in
      let here : tree (constraint_label y) (constraint_terms next y) none ≡ g (tree (constraint_label x) (constraint_terms old x) none) =
      node _ _ _ _ _ _ m.label m.terms (sym at-none) ∙ sym (at-node x (constraint_terms old x) none) in
      constraints-append next ys (y ∷ [])
      ∙ append-both _ _ _ _ (constraints-later now next k ys held ∙ h) here
      ∙ sym (at-append (constraints_trees old (take i xs)) (tree (constraint_label x) (constraint_terms old x) none))
      ∙ ap g (sym (constraints-append old (take i xs) (x ∷ [])))
      ∙ ap (λ z. g (constraints_trees old z)) (sym from)

-- ---- numbering
numbered-node : (ls : List Label) (x : RegionConstraint) (c o : Trees) → numbered_by ls (tree (constraint_label x) c o) ≡ tree (constraint_label x) (numbered_by ls c) (numbered_by ls o)
numbered-node ls (Equal a b) c o = refl
numbered-node ls (RegionOutlives a b) c o = refl
numbered-node ls (TypeOutlives t r) c o = refl

pub constraints-numbered : (ls : List Label) (old new : List Entry) (xs ys : List RegionConstraint) → ConstraintsFold (numbering false ls) old xs new ys → constraints_trees new ys ≡ numbered_by ls (constraints_trees old xs)
constraints-numbered ls old new xs ys h =
    folded-all (numbered_by ls) refl (relabeled-append false (canonical_label ls)) (numbered-node ls) (numbering false ls) (λ t u f. numbered-fold false ls [] t u f) old new xs ys h

-- ---- filling
filled-node : (vs : List Value) (x : RegionConstraint) (c o : Trees) → filled_values vs (tree (constraint_label x) c o) ≡ tree (constraint_label x) (filled_values vs c) (filled_values vs o)
filled-node vs (Equal a b) c o = refl
filled-node vs (RegionOutlives a b) c o = refl
filled-node vs (TypeOutlives t r) c o = refl

pub constraints-filled : (vs : List Value) (old new : List Entry) (xs ys : List RegionConstraint) → ConstraintsFold (λ bs t. filling vs t) old xs new ys → constraints_trees new ys ≡ filled_values vs (constraints_trees old xs)
constraints-filled vs old new xs ys h = folded-all (filled_values vs) refl (filled-append vs) (filled-node vs) (λ bs t. filling vs t) (filled-fold vs) old new xs ys h

-- ---- resolving
resolved-node : (bs : List Binding) (x : RegionConstraint) (c o : Trees) → resolved bs (tree (constraint_label x) c o) ≡ tree (constraint_label x) (resolved bs c) (resolved bs o)
resolved-node bs (Equal a b) c o = resolved-rigid bs _ c o refl
resolved-node bs (RegionOutlives a b) c o = resolved-rigid bs _ c o refl
resolved-node bs (TypeOutlives t r) c o = resolved-rigid bs _ c o refl

-- one more constraint is resolved
pub one-more-resolved : (bs cs : List Binding) (old now next : List Entry) → cs ≡ bs → Keeps old now → Keeps now next → (xs ys : List RegionConstraint) (i : ℕ) (x y : RegionConstraint) → i < length xs → x ≡ get_or xs i x
    → IsHeldConstraint old x → AllConstraintsHeld now ys → constraints_trees now ys ≡ resolved bs (constraints_trees old (take i xs))
    → constraint_outline y ≡ constraint_outline x → constraint_pieces next y ≡ each_piece (λ d t. resolved cs t) (constraint_pieces now x)
    → constraints_trees next (ys ++ y ∷ []) ≡ resolved bs (constraints_trees old (take (i + 1) xs))
one-more-resolved bs cs old now next same k n xs ys i x y lt is had held h o e =
    let here : constraint_pieces next y ≡ each_piece (λ d t. resolved bs t) (constraint_pieces old x) =
    e ∙ ap (λ (z : List Binding). each_piece (λ d t. resolved z t) (constraint_pieces now x)) same ∙ ap (each_piece (λ d t. resolved bs t)) (constraint-pieces-later old now k x had) in
    one-more (resolved bs) (resolved-none bs) (resolved-append bs) (resolved-node bs) old now next n xs ys i x y lt is held h
    (mapped-one (resolved bs) (resolved-none bs) (resolved-append bs) (resolved-node bs) old next x y o here)

-- ---- collecting
pub constraint-collected : (es : List Entry) (x : RegionConstraint) (v w : LeafCollector) → VisitsEach (λ bs t v w a. Collecting es t v w a) [] (constraint_pieces es x) v w None → Collected es (constraint_terms es x) v w
constraint-collected es (Equal a b) v w h = two-visits es h refl
constraint-collected es (RegionOutlives a b) v w h = two-visits es h refl
constraint-collected es (TypeOutlives t r) v w h = two-visits es h refl

-- the leaves of one constraint and those after it
next-constraint : (es : List Entry) (x : RegionConstraint) (rest : List RegionConstraint) (seen : List Label)
    → leaves kind_of_leaf seen (constraints_trees es (x ∷ rest)) ≡ leaves kind_of_leaf (leaves kind_of_leaf seen (constraint_terms es x)) (constraints_trees es rest)
next-constraint es (Equal a b) rest seen = refl
next-constraint es (RegionOutlives a b) rest seen = refl
next-constraint es (TypeOutlives t r) rest seen = refl

cut-at : (xs : List RegionConstraint) (i : ℕ) (d : RegionConstraint) → i < length xs → drop i xs ≡ get_or xs i d ∷ drop (i + 1) xs
cut-at xs i d h = grind (arith, common_steps)

pub drop-past : (xs : List RegionConstraint) (i : ℕ) → length xs ≤ i → drop i xs ≡ []
drop-past xs i h = grind (arith, common_steps)

-- one more constraint is visited
pub one-more-constraint : (es : List Entry) (xs : List RegionConstraint) (i : ℕ) (x : RegionConstraint) (v w : LeafCollector) (all : List Label) → i < length xs → x ≡ get_or xs i x → v.in_clause ≡ false → Collected es (constraint_terms es x) v w
    → leaves kind_of_leaf (labels es v.leaves.keys) (constraints_trees es (drop i xs)) ≡ all → leaves kind_of_leaf (labels es w.leaves.keys) (constraints_trees es (drop (i + 1) xs)) ≡ all
one-more-constraint es xs i x v w all lt is e k h =
    let cut : drop i xs ≡ x ∷ drop (i + 1) xs = cut-at xs i x lt ∙ ap (λ z. z ∷ drop (i + 1) xs) (sym is) in
    let new : labels es w.leaves.keys ≡ leaves kind_of_leaf (labels es v.leaves.keys) (constraint_terms es x) = k.listed ∙ ap (λ b. leaves (open_kinds b) (labels es v.leaves.keys) (constraint_terms es x)) e in
    ap (λ z. leaves kind_of_leaf z (constraints_trees es (drop (i + 1) xs))) new ∙ sym (next-constraint es x (drop (i + 1) xs) (labels es v.leaves.keys))
    ∙ ap (λ z. leaves kind_of_leaf (labels es v.leaves.keys) (constraints_trees es z)) (sym cut) ∙ h

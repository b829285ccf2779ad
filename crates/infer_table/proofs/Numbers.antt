-- The numbering folder numbers the open leaves.
use Rattle.std.proofs.Common.{◌≡◌, ℕ, Bool, true, false, refl, ap, sym, ◌∙◌, List, [], ◌∷◌, is_some, if◌then◌else◌, ◌&&◌, zero, suc, ◌+◌, ◌<◌, ◌++◌, length, take, get_or, arith, subst}
use Rattle.type_terms.specs.Promised.Label.{Label, of_trait, predicate}
use Rattle.type_terms.specs.Promised.Trees.{Trees, none, tree, ◌+++◌}
use Rattle.type_terms.specs.Trees.{Single}
use Rattle.type_terms.specs.Promised.Handles.{Entry, trees_at, Keeps, types}
use Rattle.type_terms.specs.Terms.{args_lists}
use Rattle.type_terms.specs.Promised.Handles.{region_trees}
use Rattle.term_folds.specs.declared.predicate.Clause.{Clause}
use Rattle.term_folds.specs.declared.predicate.Clause.TheVariants.{Trait, RegionOutlives, TypeOutlives}
use Rattle.term_folds.specs.Clauses.{ClauseHeld, clause_outline, clause_pieces, clause-held-later, clause-pieces-later}
use Rattle.term_folds.specs.Folds.{Does, enters, puts, Folds, Answers, FoldsEach}
use Rattle.term_folds.specs.declared.fold.Answer.TheVariants.{Enter, Replace}
use Rattle.type_terms.specs.Pieces.{one_piece}
use Rattle.type_terms.specs.Kept.{has-later, trees-later}
use Rattle.type_terms.proofs.Items.{take-push}
use Rattle.term_folds.proofs.Replacing.{Describes, folds-are}
use Rattle.infer_table.specs.Canonical.{GoalTrees, kind_of_leaf, canonical_label, relabeled}
use Rattle.infer_table.specs.Goals.{clause_label, clause_terms, environment_trees, goal_trees, ClausesHeld, GoalHeld, ClausesFold}
use Rattle.infer_table.specs.declared.goal.Goal.{Goal}
use Rattle.infer_table.specs.Leaves.{open_kinds, root_label, is_closed_by, is_type_label, numbering}
use Rattle.infer_table.specs.LeafLaws.{numbering-once}
use Rattle.infer_table.proofs.ClosedFacts.{closed-stays}
use Rattle.type_terms.proofs.TermBasics.{below-node, at-single}

pub relabeled-append : (b : Bool) (f : Label → Label) (x y : Trees) → relabeled (open_kinds b) f (x +++ y) ≡ relabeled (open_kinds b) f x +++ relabeled (open_kinds b) f y
relabeled-append b f none y = refl
relabeled-append b f (tree l c o) y = ap (λ z. tree (if is_some (open_kinds b l) then f l else l) (relabeled (open_kinds b) f c) z) (relabeled-append b f o y)

module _ (b : Bool) (ls : List Label) where
  abbrev numbered : Trees → Trees
  numbered t = relabeled (open_kinds b) (canonical_label ls) t

  closed-numbered : (l : Label) (c : Trees) → (is_type_label l && is_closed_by b (tree l c none)) ≡ true → numbered (tree l c none) ≡ tree l c none
  closed-numbered l c h = by (is_type_label l) h
    where
      by : (y : Bool) → (y && is_closed_by b (tree l c none)) ≡ true → relabeled (open_kinds b) (canonical_label ls) (tree l c none) ≡ tree l c none
      by true e = closed-stays b (canonical_label ls) (tree l c none) e
      by false e = cc

  enters-is : (bs : List ℕ) (l : Label) (c : Trees) → numbering b ls bs (tree l c none) ≡ enters → numbered (tree l c none) ≡ tree l (numbered c) none
  enters-is bs l c e = by (is_some (open_kinds b l)) (is_type_label l && is_closed_by b (tree l c none)) (tree l c none) e
    where
      by : (x y : Bool) (t : Trees) → (if x then puts (tree (canonical_label ls l) (numbered c) none) else (if y then puts t else enters)) ≡ enters
          → tree (if x then canonical_label ls l else l) (numbered c) none ≡ tree l (numbered c) none
      by true y t e = cc
      by false true t e = cc
      by false false t e = refl

  puts-is : (bs : List ℕ) (l : Label) (c r : Trees) → numbering b ls bs (tree l c none) ≡ puts r → numbered (tree l c none) ≡ r
  puts-is bs l c r e = by (is_some (open_kinds b l)) refl (is_type_label l && is_closed_by b (tree l c none)) refl e
    where
      same : (s t : Trees) → puts s ≡ puts t → s ≡ t
      same s t e = cc

      by : (x : Bool) → is_some (open_kinds b l) ≡ x → (y : Bool) → (is_type_label l && is_closed_by b (tree l c none)) ≡ y
          → (if x then puts (tree (canonical_label ls l) (numbered c) none) else (if y then puts (tree l c none) else enters)) ≡ puts r
          → numbered (tree l c none) ≡ r
      by true p y q e = ap (λ (z : Bool). tree (if z then canonical_label ls l else l) (numbered c) none) p ∙ same _ _ e
      by false p true q e = closed-numbered l c q ∙ same _ _ e
      by false p false q e = cc

  numbering-describes : Describes (numbering b ls) (λ bs t. numbered t)
  numbering-describes = record {
    at_none = λ bs. refl;
    at_list = λ bs l c o. refl;
    at_enters = enters-is;
    at_puts = puts-is;
    at_again = λ bs l c s e. absurd (numbering-once b ls bs (tree l c none) s e);
  }

  pub numbered-fold : (bs : List ℕ) (t u : Trees) → Folds (numbering b ls) bs t u → u ≡ numbered t
  numbered-fold bs t u h = folds-are (λ bs t. numbered t) numbering-describes h

  -- ---- clauses
  pub record NumberedClause (old new : List Entry) (x y : Clause) : Type 0 where
    pub label : clause_label y ≡ clause_label x
    pub terms : clause_terms new y ≡ numbered (clause_terms old x)

  two : (a a' b b' : Trees) → a' ≡ a → b' ≡ b → a' +++ b' ≡ a +++ b
  two a a' b b' p q = cc

  pub clause-numbered : (old new : List Entry) (x y : Clause) → clause_outline y ≡ clause_outline x → FoldsEach (numbering b ls) [] (clause_pieces old x) (clause_pieces new y) → NumberedClause old new x y
  clause-numbered old new (Trait p) (Trait q) e h = record {
    label = let same : q.trait_ref.def_id.index ≡ p.trait_ref.def_id.index = cc in ap (λ i. predicate (of_trait i)) same;
    terms = numbered-fold [] _ _ h.1;
  }
  clause-numbered old new (RegionOutlives r s) (RegionOutlives r' s') e h = record {
    label = refl;
    terms = two _ _ _ _ (numbered-fold [] _ _ h.1) (numbered-fold [] _ _ h.2.1) ∙ sym (relabeled-append b (canonical_label ls) (region_trees r) (region_trees s));
  }
  clause-numbered old new (TypeOutlives t r) (TypeOutlives t' r') e h = record {
    label = refl;
    terms = two _ _ _ _ (numbered-fold [] _ _ h.1) (numbered-fold [] _ _ h.2.1) ∙ sym (relabeled-append b (canonical_label ls) (trees_at old t.0) (region_trees r));
  }
  clause-numbered old new x y e h = cc

  node : (l l' : Label) (c c' o o' : Trees) → l' ≡ l → c' ≡ c → o' ≡ o → tree l' c' o' ≡ tree l c o
  node l l' c c' o o' p q r = cc

  -- a clause's label is not open
  clause-closed : (x : Clause) → is_some (open_kinds b (clause_label x)) ≡ false
  clause-closed x = by b x
    where
      by : (z : Bool) (x : Clause) → is_some (open_kinds z (clause_label x)) ≡ false
      by true (Trait p) = refl
      by true (RegionOutlives r s) = refl
      by true (TypeOutlives t r) = refl
      by false (Trait p) = refl
      by false (RegionOutlives r s) = refl
      by false (TypeOutlives t r) = refl

  pub environment-numbered : (old new : List Entry) (xs ys : List Clause) → ClausesFold (numbering b ls) old xs new ys → environment_trees new ys ≡ numbered (environment_trees old xs)
  environment-numbered old new [] [] h = refl
  environment-numbered old new [] (y ∷ ys) h = absurd h
  environment-numbered old new (x ∷ xs) [] h = absurd h
  environment-numbered old new (x ∷ xs) (y ∷ ys) h =
      let here = clause-numbered old new x y h.0 h.1 in
      node _ _ _ _ _ _ (here.label ∙ ap (λ (z : Bool). if z then canonical_label ls (clause_label x) else clause_label x) (sym (clause-closed x))) here.terms (environment-numbered old new xs ys h.2)

-- ---- what the folder answers at one tree
chosen : (x y : Bool) (p q : Does) → x ≡ false → (if x then p else (if y then q else enters)) ≡ (if y then q else enters)
chosen x y p q e = rw e refl

pub enters-at : (b : Bool) (ls : List Label) (bs : List ℕ) (t : Trees) → Single t → is_some (open_kinds b (root_label t)) ≡ false → (is_type_label (root_label t) && is_closed_by b t) ≡ false → numbering b ls bs t ≡ enters
enters-at b ls bs t s =
    at-single (λ t. is_some (open_kinds b (root_label t)) ≡ false → (is_type_label (root_label t) && is_closed_by b t) ≡ false → numbering b ls bs t ≡ enters)
    (λ l c e f. chosen _ (is_type_label l && is_closed_by b (tree l c none)) _ (puts (tree l c none)) e ∙ ap (λ (y : Bool). if y then puts (tree l c none) else enters) f) t s

pub stays-at : (b : Bool) (ls : List Label) (bs : List ℕ) (t : Trees) → Single t → is_some (open_kinds b (root_label t)) ≡ false → (is_type_label (root_label t) && is_closed_by b t) ≡ true → numbering b ls bs t ≡ puts t
stays-at b ls bs t s =
    at-single (λ t. is_some (open_kinds b (root_label t)) ≡ false → (is_type_label (root_label t) && is_closed_by b t) ≡ true → numbering b ls bs t ≡ puts t)
    (λ l c e f. chosen _ (is_type_label l && is_closed_by b (tree l c none)) _ (puts (tree l c none)) e ∙ ap (λ (y : Bool). if y then puts (tree l c none) else enters) f) t s

pub says-stays : {T : Type 0} (P : T → Trees → Type 0) (d : Does) (t : Trees) (x : T) → d ≡ puts t → P x t → Answers P d (Replace x)
says-stays P d t x e h = rw e h

pub says-enters : {T : Type 0} (P : T → Trees → Type 0) (d : Does) → d ≡ enters → Answers P d Enter
says-enters P d e = rw e tt

-- ---- lists of clauses, fold by fold
pub clauses-held-later : (old new : List Entry) → Keeps old new → (xs : List Clause) → ClausesHeld old xs → ClausesHeld new xs
clauses-held-later old new k [] h = tt
clauses-held-later old new k (x ∷ xs) h = (clause-held-later old new k x h.0, clauses-held-later old new k xs h.1)

pub clause-held-at : (es : List Entry) (xs : List Clause) (i : ℕ) (d : Clause) → ClausesHeld es xs → i < length xs → ClauseHeld es (get_or xs i d)
clause-held-at es [] i d h l = absurd (omega arith)
clause-held-at es (x ∷ xs) zero d h l = h.0
clause-held-at es (x ∷ xs) (suc i) d h l = clause-held-at es xs i d h.1 (omega arith)

pub clauses-held-push : (es : List Entry) (xs : List Clause) (y : Clause) → ClausesHeld es xs → ClauseHeld es y → ClausesHeld es (xs ++ y ∷ [])
clauses-held-push es [] y h g = (g, tt)
clauses-held-push es (x ∷ xs) y h g = (h.0, clauses-held-push es xs y h.1 g)

folds-push : (f : List ℕ → Trees → Does) (old now next : List Entry) → Keeps now next → (xs ys : List Clause) (x y : Clause) → ClausesHeld now ys → ClausesFold f old xs now ys
    → clause_outline y ≡ clause_outline x → FoldsEach f [] (clause_pieces old x) (clause_pieces next y) → ClausesFold f old (xs ++ x ∷ []) next (ys ++ y ∷ [])
folds-push f old now next k [] [] x y held h o e = (o, e, tt)
folds-push f old now next k [] (b ∷ ys) x y held h o e = absurd h
folds-push f old now next k (a ∷ xs) [] x y held h o e = absurd h
folds-push f old now next k (a ∷ xs) (b ∷ ys) x y held h o e =
    (h.0, subst (λ z. FoldsEach f [] (clause_pieces old a) z) (sym (clause-pieces-later now next k b held.0)) h.1, folds-push f old now next k xs ys x y held.1 h.2 o e)

-- what was made of clauses stays their fold
pub clauses-fold-later : (f : List ℕ → Trees → Does) (old now next : List Entry) → Keeps now next → (xs ys : List Clause) → ClausesHeld now ys → ClausesFold f old xs now ys → ClausesFold f old xs next ys
clauses-fold-later f old now next k [] [] held h = tt
clauses-fold-later f old now next k [] (b ∷ ys) held h = absurd h
clauses-fold-later f old now next k (a ∷ xs) [] held h = absurd h
clauses-fold-later f old now next k (a ∷ xs) (b ∷ ys) held h =
    (h.0, subst (λ z. FoldsEach f [] (clause_pieces old a) z) (sym (clause-pieces-later now next k b held.0)) h.1, clauses-fold-later f old now next k xs ys held.1 h.2)

-- one more clause is folded
pub one-more-fold : (f g : List ℕ → Trees → Does) (old now next : List Entry) → g ≡ f → Keeps old now → Keeps now next → (xs ys : List Clause) (i : ℕ) (x y : Clause) → i < length xs → x ≡ get_or xs i x
    → ClauseHeld old x → ClausesHeld now ys → ClausesFold f old (take i xs) now ys
    → clause_outline y ≡ clause_outline x → FoldsEach g [] (clause_pieces now x) (clause_pieces next y) → ClausesFold f old (take (i + 1) xs) next (ys ++ y ∷ [])
one-more-fold f g old now next same k n xs ys i x y lt is had held h o e =
    let from : take (i + 1) xs ≡ take i xs ++ x ∷ [] = take-push xs i x lt ∙ ap (λ z. take i xs ++ z ∷ []) (sym is) in
    let here : FoldsEach f [] (clause_pieces old x) (clause_pieces next y) =
    subst (λ z. FoldsEach f [] z (clause_pieces next y)) (clause-pieces-later old now k x had) (subst (λ (w : List ℕ → Trees → Does). FoldsEach w [] (clause_pieces now x) (clause_pieces next y)) same e) in
    subst (λ z. ClausesFold f old z next (ys ++ y ∷ [])) (sym from) (folds-push f old now next n (take i xs) ys x y held h o here)

terms-later : (old new : List Entry) → Keeps old new → (x : Clause) → ClauseHeld old x → clause_terms new x ≡ clause_terms old x
terms-later old new k (Trait p) h = trees-later old new k args_lists p.trait_ref.args.0 h
terms-later old new k (RegionOutlives a b) h = refl
terms-later old new k (TypeOutlives t r) h = ap (λ z. z +++ region_trees r) (trees-later old new k types t.0 h.0)

pub environment-later : (old new : List Entry) → Keeps old new → (xs : List Clause) → ClausesHeld old xs → environment_trees new xs ≡ environment_trees old xs
environment-later old new k [] h = refl
environment-later old new k (x ∷ xs) h = below-node (clause_label x) _ _ _ _ (terms-later old new k x h.0) (environment-later old new k xs h.1)

-- ---- goals
pub goal-same : (e e' p p' : Trees) → e ≡ e' → p ≡ p' → ◌≡◌ {A = GoalTrees} (record { environment = e; predicate = p }) (record { environment = e'; predicate = p' })
goal-same e e' p p' a b = cc

pub predicate-numbered : (ls : List Label) (i j : ℕ) (t u : Trees) → j ≡ i → FoldsEach (numbering false ls) [] (one_piece t) (one_piece u) → tree (predicate (of_trait j)) u none ≡ relabeled kind_of_leaf (canonical_label ls) (tree (predicate (of_trait i)) t none)
predicate-numbered ls i j t u e h = same i j _ _ e (numbered-fold false ls [] t u h.1)
  where
    same : (i j : ℕ) (t u : Trees) → j ≡ i → u ≡ t → tree (predicate (of_trait j)) u none ≡ tree (predicate (of_trait i)) t none
    same i j t u p q = cc

pub goal-held-later : (old new : List Entry) → Keeps old new → (g : Goal) → GoalHeld old g → GoalHeld new g
goal-held-later old new k g h = record {
  environment = clauses-held-later old new k g.param_env.items h.environment;
  predicate = has-later old new k args_lists g.predicate.trait_ref.args.0 h.predicate;
}

pub goal-trees-later : (old new : List Entry) → Keeps old new → (g : Goal) → GoalHeld old g → goal_trees new g ≡ goal_trees old g
goal-trees-later old new k g h =
    goal-same _ _ _ _ (environment-later old new k g.param_env.items h.environment)
    (ap (λ z. tree (predicate (of_trait g.predicate.trait_ref.def_id.index)) z none) (trees-later old new k args_lists g.predicate.trait_ref.args.0 h.predicate))

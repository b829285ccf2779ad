-- Terms with values for their variables: which variables matter, and how a reading determines the values.
use Rattle.std.proofs.Common.{◌≡◌, ℕ, Bool, true, false, ◌||◌, not, List, ◌⊎◌, inl, inr, refl, sym, ◌∙◌, ap, subst, Option, Some, None, if◌then◌else◌}
use Rattle.type_terms.specs.Promised.Label.{Label, Sort, of_type, of_const, of_lifetime, infer, param, placeholder, canonical, bound, static, principal, dynamic, auto_trait, predicate}
use Rattle.type_terms.specs.Promised.Trees.{Trees, none, tree, leaf, ◌+++◌, erase_label}
use Rattle.type_terms.specs.Trees.{put_at_node, is_a, is_no_tree, Single}
use Rattle.type_terms.specs.Made.{Standing, terms, bounds, traits, is_leaf_label, is_made}
use Rattle.infer_table.specs.Solutions.{HasValues}
use Rattle.goal_evaluator.specs.Instances.{read_with, default_label, of_sort, term_at}
use Rattle.goal_evaluator.specs.Content.{given}
use Rattle.type_terms.proofs.Made.{false-true, left, right, no-tree, made-ordinary, IsLast, last-bound, last-trait, never-dynamic, never-dynamic-bound, never-principal}
use Rattle.goal_evaluator.proofs.Equating.{single-of}
use Rattle.goal_evaluator.specs.Variables.{LabelStandsIn}

-- ---- made terms have leaves
-- a lifetime, a variable or a number has no children
abbrev pub HasLeaves : Trees → Type 0
HasLeaves none = Unit {0}
HasLeaves (tree l c o) = (is_leaf_label l ≡ true → c ≡ none) × HasLeaves c × HasLeaves o

ordinary-leaf : (l : Label) (c : Trees) → (not (is_leaf_label l) || is_no_tree c) ≡ true → is_leaf_label l ≡ true → c ≡ none
ordinary-leaf l c h e = by (is_leaf_label l) h e
  where
    by : (b : Bool) → (not b || is_no_tree c) ≡ true → b ≡ true → c ≡ none
    by true h e = no-tree c h
    by false h e = absurd (false-true e)

last-leaves : (good : Label → Bool) (l : Label) (c o : Trees) → IsLast good l c o → HasLeaves (tree l c o)
last-leaves good l c o x = (λ e. x.children, subst HasLeaves (sym x.children) tt, subst HasLeaves (sym x.rest) tt)

pub made-leaves : (good : Label → Bool) (m : Standing) (t : Trees) → is_made good m t ≡ true → HasLeaves t
made-leaves good terms none h = tt
made-leaves good terms (tree dynamic c o) h =
    (λ e. absurd (false-true e), made-leaves good bounds c (left (is_made good bounds c) (is_made good terms o) h), made-leaves good terms o (right (is_made good bounds c) (is_made good terms o) h))
made-leaves good terms (tree (principal a b) c o) h = absurd (false-true h)
made-leaves good terms (tree (auto_trait a) c o) h = absurd (false-true h)
made-leaves good terms (tree (predicate k) c o) h = absurd (false-true h)
made-leaves good terms (tree l c o) h = let x = made-ordinary good l c o refl h in (ordinary-leaf l c x.1, made-leaves good terms c x.2, made-leaves good terms o x.3)
made-leaves good bounds none h = absurd (false-true h)
made-leaves good bounds (tree (principal a b) c o) h =
    (λ e. absurd (false-true e), made-leaves good terms c (left (is_made good terms c) (is_made good traits o) h), made-leaves good traits o (right (is_made good terms c) (is_made good traits o) h))
made-leaves good bounds (tree (predicate k) c o) h = absurd (false-true h)
made-leaves good bounds (tree (auto_trait a) c o) h =
    (λ e. absurd (false-true e), subst HasLeaves (sym (no-tree c (left (is_no_tree c) (is_made good traits o) h))) tt, made-leaves good traits o (right (is_no_tree c) (is_made good traits o) h))
made-leaves good bounds (tree dynamic c o) h = absurd (never-dynamic-bound good c o h)
made-leaves good bounds (tree l c o) h = last-leaves good l c o (last-bound good l c o refl h)
made-leaves good traits none h = absurd (false-true h)
made-leaves good traits (tree (predicate k) c o) h = absurd (false-true h)
made-leaves good traits (tree (auto_trait a) c o) h =
    (λ e. absurd (false-true e), subst HasLeaves (sym (no-tree c (left (is_no_tree c) (is_made good traits o) h))) tt, made-leaves good traits o (right (is_no_tree c) (is_made good traits o) h))
made-leaves good traits (tree dynamic c o) h = absurd (never-dynamic good c o h)
made-leaves good traits (tree (principal a b) c o) h = absurd (never-principal good a b c o h)
made-leaves good traits (tree l c o) h = last-leaves good l c o (last-trait good l c o refl h)

-- ---- values that agree where variables stand
-- the values of the second list, by their places, are those of the first
abbrev pub Agree : List Trees → List Trees → Sort → ℕ → Type 0
Agree xs ys k i = of_sort k (term_at xs i) ≡ of_sort k (term_at ys i)

-- on each variable that stands in the trees
abbrev pub AgreeIn : List Trees → List Trees → Trees → Type 0
AgreeIn xs ys t = (k : Sort) (i : ℕ) → HasValues k → LabelStandsIn (canonical k i) t → Agree xs ys k i

same-parts : (x : Option Trees) (l : Label) (c d o p : Trees) → c ≡ d → o ≡ p → put_at_node x (tree l c none) +++ o ≡ put_at_node x (tree l d none) +++ p
same-parts x l c d o p a b = ap (λ z. put_at_node x (tree l z none) +++ o) a ∙ ap (λ z. put_at_node x (tree l d none) +++ z) b

read-node : (xs ys : List Trees) (l : Label) (c d o p : Trees) → ((k : Sort) (i : ℕ) → HasValues k → l ≡ canonical k i → Agree xs ys k i) → c ≡ d → o ≡ p
    → put_at_node (given xs l) (tree (erase_label l) c none) +++ o ≡ put_at_node (given ys l) (tree (erase_label l) d none) +++ p
read-node xs ys (canonical of_type i) c d o p h a b = ap (λ z. z +++ o) (h of_type i tt refl) ∙ ap (λ z. of_sort of_type (term_at ys i) +++ z) b
read-node xs ys (canonical of_const i) c d o p h a b = ap (λ z. z +++ o) (h of_const i tt refl) ∙ ap (λ z. of_sort of_const (term_at ys i) +++ z) b
read-node xs ys (canonical of_lifetime i) c d o p h a b = same-parts (Some (leaf static)) static c d o p a b
read-node xs ys (infer k v) c d o p h a b = ap (λ z. leaf (default_label k) +++ z) b
read-node xs ys (param k v) c d o p h a b = ap (λ z. leaf (default_label k) +++ z) b
read-node xs ys (placeholder k v) c d o p h a b = ap (λ z. leaf (default_label k) +++ z) b
read-node xs ys static c d o p h a b = ap (λ z. leaf static +++ z) b
read-node xs ys (bound of_lifetime i j) c d o p h a b = ap (λ z. leaf static +++ z) b
read-node xs ys (bound of_type i j) c d o p h a b = same-parts None (bound of_type i j) c d o p a b
read-node xs ys (bound of_const i j) c d o p h a b = same-parts None (bound of_const i j) c d o p a b
read-node xs ys l c d o p h a b = same-parts None (erase_label l) c d o p a b

-- a reading looks at the values of the variables that stand in the trees alone
pub reads-agree : (xs ys : List Trees) (t : Trees) → AgreeIn xs ys t → read_with (given xs) t ≡ read_with (given ys) t
reads-agree xs ys none h = refl
reads-agree xs ys (tree l c o) h =
    read-node xs ys l (read_with (given xs) c) (read_with (given ys) c) (read_with (given xs) o) (read_with (given ys) o) (λ k i v e. h k i v (inl e))
    (reads-agree xs ys c (λ k i v s. h k i v (inr (inl s)))) (reads-agree xs ys o (λ k i v s. h k i v (inr (inr s))))

-- ---- a reading determines the values
append-parts : (l m : Label) (c d o p : Trees) → tree l c o ≡ tree m d p → (tree l c none ≡ tree m d none) × (c ≡ d) × (o ≡ p)
append-parts l m c d o p e = (cc, cc, cc)

single-parts : (x y o p : Trees) → Single x → Single y → x +++ o ≡ y +++ p → (x ≡ y) × (o ≡ p)
single-parts none y o p s r e = absurd s
single-parts (tree l c q) none o p s r e = absurd r
single-parts (tree l c q) (tree m d w) o p s r e =
    let f = ap (λ z. tree l c (z +++ o)) (sym s) ∙ e ∙ ap (λ z. tree m d (z +++ p)) r in
    let g = append-parts l m c d o p f in
    (ap (tree l c) s ∙ g.0 ∙ sym (ap (tree m d) r), g.2)

of-sort-single : (k : Sort) (t : Trees) → Single (of_sort k t)
of-sort-single k t = by (is_a k t) refl
  where
    by : (b : Bool) → is_a k t ≡ b → Single (if b then t else leaf (default_label k))
    by true e = single-of k t e
    by false e = refl

-- what is read of a node alone, and of the rest
pub record Parts (xs ys : List Trees) (l : Label) (c o : Trees) : Type 0 where
  pub here : (k : Sort) (i : ℕ) → HasValues k → l ≡ canonical k i → Agree xs ys k i
  pub below : (is_leaf_label l ≡ true) ⊎ (read_with (given xs) c ≡ read_with (given ys) c)
  pub after : read_with (given xs) o ≡ read_with (given ys) o

no-variable : (l : Label) (xs ys : List Trees) → ((k : Sort) (i : ℕ) → l ≡ canonical k i → ⊥) → (k : Sort) (i : ℕ) → HasValues k → l ≡ canonical k i → Agree xs ys k i
no-variable l xs ys n k i v e = absurd (n k i e)

leaf-parts : (xs ys : List Trees) (l x : Label) (c o : Trees) → is_leaf_label l ≡ true → ((k : Sort) (i : ℕ) → HasValues k → l ≡ canonical k i → ⊥)
    → leaf x +++ read_with (given xs) o ≡ leaf x +++ read_with (given ys) o → Parts xs ys l c o
leaf-parts xs ys l x c o i n e = record { here = λ k j v q. absurd (n k j v q); below = inl i; after = (append-parts x x none none (read_with (given xs) o) (read_with (given ys) o) e).2 }

node-parts : (xs ys : List Trees) (l : Label) (c o : Trees) → ((k : Sort) (i : ℕ) → l ≡ canonical k i → ⊥)
    → tree (erase_label l) (read_with (given xs) c) (read_with (given xs) o) ≡ tree (erase_label l) (read_with (given ys) c) (read_with (given ys) o) → Parts xs ys l c o
node-parts xs ys l c o n e =
    let p = append-parts (erase_label l) (erase_label l) (read_with (given xs) c) (read_with (given ys) c) (read_with (given xs) o) (read_with (given ys) o) e in
    record { here = no-variable l xs ys n; below = inr p.1; after = p.2 }

parts : (xs ys : List Trees) (l : Label) (c o : Trees) → read_with (given xs) (tree l c o) ≡ read_with (given ys) (tree l c o) → Parts xs ys l c o
parts xs ys (canonical of_type i) c o e =
    let p = single-parts (of_sort of_type (term_at xs i)) (of_sort of_type (term_at ys i)) (read_with (given xs) o) (read_with (given ys) o) (of-sort-single of_type (term_at xs i)) (of-sort-single of_type (term_at ys i)) e in
    record { here = λ k j v q. same k j (sort-of-label q) (number-of-label q) p.0; below = inl refl; after = p.1 }
  where
    sort-of-label : {k : Sort} {j : ℕ} → canonical of_type i ≡ canonical k j → of_type ≡ k
    sort-of-label q = cc

    number-of-label : {k : Sort} {j : ℕ} → canonical of_type i ≡ canonical k j → i ≡ j
    number-of-label q = cc

    same : (k : Sort) (j : ℕ) → of_type ≡ k → i ≡ j → Agree xs ys of_type i → Agree xs ys k j
    same k j a b h = subst (λ z. Agree xs ys k z) b (subst (λ z. Agree xs ys z i) a h)
parts xs ys (canonical of_const i) c o e =
    let p = single-parts (of_sort of_const (term_at xs i)) (of_sort of_const (term_at ys i)) (read_with (given xs) o) (read_with (given ys) o) (of-sort-single of_const (term_at xs i)) (of-sort-single of_const (term_at ys i)) e in
    record { here = λ k j v q. same k j (sort-of-label q) (number-of-label q) p.0; below = inl refl; after = p.1 }
  where
    sort-of-label : {k : Sort} {j : ℕ} → canonical of_const i ≡ canonical k j → of_const ≡ k
    sort-of-label q = cc

    number-of-label : {k : Sort} {j : ℕ} → canonical of_const i ≡ canonical k j → i ≡ j
    number-of-label q = cc

    same : (k : Sort) (j : ℕ) → of_const ≡ k → i ≡ j → Agree xs ys of_const i → Agree xs ys k j
    same k j a b h = subst (λ z. Agree xs ys k z) b (subst (λ z. Agree xs ys z i) a h)
parts xs ys (canonical of_lifetime i) c o e = leaf-parts xs ys (canonical of_lifetime i) static c o refl by e
  where
    sort-of-label : {k : Sort} {j : ℕ} → canonical of_lifetime i ≡ canonical k j → of_lifetime ≡ k
    sort-of-label q = cc

    by : (k : Sort) (j : ℕ) → HasValues k → canonical of_lifetime i ≡ canonical k j → ⊥
    by k j v q = subst HasValues (sym (sort-of-label q)) v
parts xs ys (infer k v) c o e = leaf-parts xs ys (infer k v) (default_label k) c o refl (λ j i w q. cc) e
parts xs ys (param k v) c o e = leaf-parts xs ys (param k v) (default_label k) c o refl (λ j i w q. cc) e
parts xs ys (placeholder k v) c o e = leaf-parts xs ys (placeholder k v) (default_label k) c o refl (λ j i w q. cc) e
parts xs ys static c o e = leaf-parts xs ys static static c o refl (λ j i w q. cc) e
parts xs ys (bound of_lifetime a b) c o e = leaf-parts xs ys (bound of_lifetime a b) static c o refl (λ j i w q. cc) e
parts xs ys (bound of_type a b) c o e = node-parts xs ys (bound of_type a b) c o (λ j i q. cc) e
parts xs ys (bound of_const a b) c o e = node-parts xs ys (bound of_const a b) c o (λ j i q. cc) e
parts xs ys l c o e = node-parts xs ys l c o (λ j i q. cc) e

-- equal readings of one term have equal values where its variables stand
pub reads-determine : (xs ys : List Trees) (t : Trees) → HasLeaves t → read_with (given xs) t ≡ read_with (given ys) t → AgreeIn xs ys t
reads-determine xs ys none h e k i v s = absurd s
reads-determine xs ys (tree l c o) h e k i v (inl q) = (parts xs ys l c o e).here k i v q
reads-determine xs ys (tree l c o) h e k i v (inr (inr s)) = reads-determine xs ys o h.2 (parts xs ys l c o e).after k i v s
reads-determine xs ys (tree l c o) h e k i v (inr (inl s)) = by (parts xs ys l c o e).below (λ f. reads-determine xs ys c h.1 f k i v s)
  where
    by : (is_leaf_label l ≡ true) ⊎ (read_with (given xs) c ≡ read_with (given ys) c) → (read_with (given xs) c ≡ read_with (given ys) c → Agree xs ys k i) → Agree xs ys k i
    by (inl a) f = absurd (subst (LabelStandsIn (canonical k i)) (h.0 a) s)
    by (inr a) f = f a

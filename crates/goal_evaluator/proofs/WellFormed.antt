-- The responses of the tables of frames are well-formed, and fit the goal of their table.
use Rattle.std.proofs.Common.{◌≡◌, ℕ, zero, suc, ◌+◌, arith, Bool, true, false, not, ◌||◌, List, [], ◌∷◌, map, refl, sym, ◌∙◌, ap, subst, Option, Some, None, if◌then◌else◌, is_some, inl, inr}
use Rattle.std.specs.Prelude.{IsSome}
use Rattle.type_terms.specs.Promised.Label.{Label, Sort, of_type, of_const, of_lifetime, infer, param, placeholder, canonical, static, bound, dynamic, principal, auto_trait, predicate}
use Rattle.type_terms.specs.Promised.Trees.{Trees, none, tree, leaf, ◌+++◌, sort_of, is_sort}
use Rattle.type_terms.specs.Trees.{is_a, is_no_tree}
use Rattle.type_terms.specs.Codes.{same_label}
use Rattle.type_terms.proofs.Matching.{same-label-sound}
use Rattle.type_terms.specs.Made.{Standing, terms, bounds, traits, is_leaf_label, is_made}
use Rattle.infer_table.specs.Canonical.{kind_of_leaf, StandsIn, is_label_among, place_of, canonical_label, relabeled}
use Rattle.infer_table.specs.Solutions.{resolved}
use Rattle.infer_table.specs.declared.canonical.CanonicalVarKind.{CanonicalVarKind}
use Rattle.infer_table.specs.declared.canonical.CanonicalVarKind.TheVariants.{Ty, PlaceholderTy, Const, PlaceholderConst, Region}
use Rattle.infer_table.specs.declared.certainty.Certainty.{Certainty}
use Rattle.infer_table.specs.declared.certainty.Certainty.TheVariants.{Yes, Maybe}
use Rattle.infer_table.specs.declared.certainty.MaybeCause.TheVariants.{Ambiguity, Overflow}
use Rattle.infer_table.proofs.CanonicalLaws.{leaves-hold}
use Rattle.infer_table.specs.Values.{Value}
use Rattle.infer_table.specs.Raw.{sort_of_kind, variable_value, variables_from}
use Rattle.infer_table.specs.Answers.{have_same_sorts, is_answer_to}
use Rattle.goal_evaluator.specs.Lists.{Every}
use Rattle.goal_evaluator.specs.FrameTables.{kind_at, good_in, FrameTable, IsMadeFrame, IsOwn, AreOwn}
use Rattle.goal_evaluator.specs.TableAnswers.{own_labels, own_values, joined, answer_leaves, numbered, value_numbered, kinds_of_labels, with_kind, respond, is_kind_of, is_variable_of, is_fitting, IsWellFormed}
use Rattle.type_terms.proofs.Made.{false-true, left, right, both, no-tree, is_ordinary, made-ordinary, makes-ordinary, IsLast, last-bound, last-trait, never-dynamic, never-dynamic-bound, never-principal}
use Rattle.goal_evaluator.proofs.Reading.{EachLabel}
use Rattle.goal_evaluator.proofs.Labels.{label-leaf, each-label, every-leaf, last-made}
use Rattle.goal_evaluator.proofs.Resolved.{made-resolved}
use Rattle.goal_evaluator.proofs.Free.{resolved-one}
use Rattle.goal_evaluator.proofs.Answering.{stands-left, joined-stands, among-map, LabelAmong}
use Rattle.type_terms.proofs.TermBasics.{is_sort-self as sort-self}

-- ---- terms with other labels at their open leaves
module _ (good better : Label → Bool) (f : Label → Label) where
  abbrev new : Label → Label
  new l = if is_some (kind_of_leaf l) then f l else l

  -- what stands in the place of a good label is good, and of its sort
  record IsRenamed (l : Label) : Type 0 where
    pub ordinary : is_ordinary (new l) ≡ is_ordinary l
    pub is_leaf : is_leaf_label (new l) ≡ is_leaf_label l
    pub sort : sort_of (new l) ≡ sort_of l
    pub is_good : good l ≡ true → better (new l) ≡ true

  abbrev again : Trees → Trees
  again t = relabeled kind_of_leaf f t

  leaf-again : (l m : Label) (c : Trees) → is_leaf_label m ≡ is_leaf_label l → (not (is_leaf_label l) || is_no_tree c) ≡ true → (not (is_leaf_label m) || is_no_tree (again c)) ≡ true
  leaf-again l m c e h = ap (λ b. not b || is_no_tree (again c)) e ∙ by (is_leaf_label l) h
    where
      by : (b : Bool) → (not b || is_no_tree c) ≡ true → (not b || is_no_tree (again c)) ≡ true
      by true h = ap (λ z. is_no_tree (again z)) (no-tree c h)
      by false h = refl

  last-again : (l : Label) (c o : Trees) → IsLast good l c o → IsRenamed l → (is_made better traits (again (tree l c o)) ≡ true) × (is_made better bounds (again (tree l c o)) ≡ true)
  last-again l c o x h =
      subst (λ z. (is_made better traits (again (tree l z o)) ≡ true) × (is_made better bounds (again (tree l z o)) ≡ true)) (sym x.children)
      (subst (λ z. (is_made better traits (again (tree l none z)) ≡ true) × (is_made better bounds (again (tree l none z)) ≡ true)) (sym x.rest)
      (last-made better (new l) (ap (λ z. is_sort z of_lifetime) h.sort ∙ x.lifetime) (h.is_good x.good_label)))

  made-again : (m : Standing) (t : Trees) → is_made good m t ≡ true → EachLabel IsRenamed t → is_made better m (again t) ≡ true
  made-again terms none e h = refl
  made-again terms (tree dynamic c o) e h =
      both (is_made better bounds (again c)) (is_made better terms (again o))
      (made-again bounds c (left (is_made good bounds c) (is_made good terms o) e) h.1) (made-again terms o (right (is_made good bounds c) (is_made good terms o) e) h.2)
  made-again terms (tree (principal a b) c o) e h = absurd (false-true e)
  made-again terms (tree (auto_trait a) c o) e h = absurd (false-true e)
  made-again terms (tree (predicate k) c o) e h = absurd (false-true e)
  made-again terms (tree l c o) e h =
      let x = made-ordinary good l c o refl e in
      makes-ordinary better (new l) (again c) (again o) h.0.ordinary (h.0.is_good x.0) (leaf-again l (new l) c h.0.is_leaf x.1) (made-again terms c x.2 h.1) (made-again terms o x.3 h.2)
  made-again bounds none e h = absurd (false-true e)
  made-again bounds (tree (principal a b) c o) e h =
      both (is_made better terms (again c)) (is_made better traits (again o))
      (made-again terms c (left (is_made good terms c) (is_made good traits o) e) h.1) (made-again traits o (right (is_made good terms c) (is_made good traits o) e) h.2)
  made-again bounds (tree (predicate k) c o) e h = absurd (false-true e)
  made-again bounds (tree (auto_trait a) c o) e h =
      both (is_no_tree (again c)) (is_made better traits (again o))
      (ap (λ z. is_no_tree (again z)) (no-tree c (left (is_no_tree c) (is_made good traits o) e))) (made-again traits o (right (is_no_tree c) (is_made good traits o) e) h.2)
  made-again bounds (tree dynamic c o) e h = absurd (never-dynamic-bound good c o e)
  made-again bounds (tree l c o) e h = (last-again l c o (last-bound good l c o refl e) h.0).1
  made-again traits none e h = absurd (false-true e)
  made-again traits (tree (predicate k) c o) e h = absurd (false-true e)
  made-again traits (tree (auto_trait a) c o) e h =
      both (is_no_tree (again c)) (is_made better traits (again o))
      (ap (λ z. is_no_tree (again z)) (no-tree c (left (is_no_tree c) (is_made good traits o) e))) (made-again traits o (right (is_no_tree c) (is_made good traits o) e) h.2)
  made-again traits (tree dynamic c o) e h = absurd (never-dynamic good c o e)
  made-again traits (tree (principal a b) c o) e h = absurd (never-principal good a b c o e)
  made-again traits (tree l c o) e h = (last-again l c o (last-trait good l c o refl e) h.0).0

-- ---- one term is a term of its sort
lifetime-leaf : (good : Label → Bool) (l : Label) (c : Trees) → is_sort (sort_of l) of_lifetime ≡ true → is_made good terms (tree l c none) ≡ true → is_no_tree c ≡ true
lifetime-leaf good (param k i) c s m = (made-ordinary good (param k i) c none refl m).1
lifetime-leaf good (placeholder k i) c s m = (made-ordinary good (placeholder k i) c none refl m).1
lifetime-leaf good (infer k i) c s m = (made-ordinary good (infer k i) c none refl m).1
lifetime-leaf good (canonical k i) c s m = (made-ordinary good (canonical k i) c none refl m).1
lifetime-leaf good (bound k i j) c s m = (made-ordinary good (bound k i j) c none refl m).1
lifetime-leaf good static c s m = (made-ordinary good static c none refl m).1
lifetime-leaf good l c s m = absurd (false-true s)

made-is-a : (good : Label → Bool) (k : Sort) (l : Label) (c : Trees) → sort_of l ≡ k → is_made good terms (tree l c none) ≡ true → is_a k (tree l c none) ≡ true
made-is-a good of_type l c s m = both (is_sort (sort_of l) of_type) true (ap (λ z. is_sort z of_type) s) refl
made-is-a good of_const l c s m = both (is_sort (sort_of l) of_const) true (ap (λ z. is_sort z of_const) s) refl
made-is-a good of_lifetime l c s m =
    let e = ap (λ z. is_sort z of_lifetime) s in
    both (is_sort (sort_of l) of_lifetime) _ e (both (is_no_tree c) true (lifetime-leaf good l c e m) refl)

-- ---- what the leaves of an answer stand for
abbrev IsOpen : Label → Type 0
IsOpen l = IsSome (kind_of_leaf l)

kind-of : (o : Option CanonicalVarKind) → IsSome o → (k : CanonicalVarKind) × (o ≡ Some k)
kind-of None h = absurd (false-true h)
kind-of (Some k) h = (k, refl)

kind-placed : (l : Label) (k : CanonicalVarKind) (ls : List Label) → Every IsOpen ls → kind_of_leaf l ≡ Some k → is_label_among l ls ≡ true → kind_at (kinds_of_labels ls) (place_of l ls) ≡ Some k
kind-placed l k [] h e a = absurd (false-true a)
kind-placed l k (m ∷ ms) h e a =
    let j = kind-of (kind_of_leaf m) h.0 in
    ap (λ z. kind_at (with_kind z (kinds_of_labels ms)) (place_of l (m ∷ ms))) j.1 ∙ by j.0 j.1 (same_label m l) refl a (kind-placed l k ms h.1 e)
  where
    by : (j : CanonicalVarKind) → kind_of_leaf m ≡ Some j → (b : Bool) → same_label m l ≡ b → (b || is_label_among l ms) ≡ true → (is_label_among l ms ≡ true → kind_at (kinds_of_labels ms) (place_of l ms) ≡ Some k)
        → kind_at (j ∷ kinds_of_labels ms) (if b then zero else suc (place_of l ms)) ≡ Some k
    by j p true q a r = sym p ∙ ap kind_of_leaf (same-label-sound m l q) ∙ e
    by j p false q a r = r a

module _ (t : FrameTable) (made : IsMadeFrame t) where
  abbrev ls : List Label
  ls = answer_leaves t

  abbrev ks : List CanonicalVarKind
  ks = kinds_of_labels ls

  abbrev f : Label → Label
  f l = canonical_label ls l

  abbrev IsListed : Label → Type 0
  IsListed l = IsOpen l → is_label_among l ls ≡ true

  each-open : (x : Trees) → EachLabel (λ l. IsOpen l → IsOpen l) x
  each-open none = tt
  each-open (tree l c o) = (λ i. i, each-open c, each-open o)

  all-open : Every IsOpen ls
  all-open = every-leaf kind_of_leaf IsOpen [] tt (joined (own_values t) +++ resolved t.content.bindings t.content.constraints) (each-open (joined (own_values t) +++ resolved t.content.bindings t.content.constraints))

  each-listed : (x : Trees) → ((l : Label) → StandsIn kind_of_leaf x l → is_label_among l ls ≡ true) → EachLabel IsListed x
  each-listed none a = tt
  each-listed (tree l c o) a = (λ i. a l (inl (refl, i)), each-listed c (λ m i. a m (inr (inl i))), each-listed o (λ m i. a m (inr (inr i))))

  -- an open leaf is numbered by a variable of the answer
  numbered-good : (l : Label) (k : CanonicalVarKind) → kind_of_leaf l ≡ Some k → IsListed l → sort_of_kind k ≡ sort_of l → is_variable_of ks (f l) ≡ true
  numbered-good l k e h s =
      ap (is_kind_of (sort_of l)) (kind-placed l k ls all-open e (h (ap is_some e))) ∙ ap (λ z. is_sort z (sort_of l)) s ∙ sort-self (sort_of l)

  abbrev Renamed : Label → Type 0
  Renamed l = IsRenamed (good_in t) (is_variable_of ks) f l

  renamed : (l : Label) → IsListed l → Renamed l
  renamed (infer of_type v) h = record { ordinary = refl; is_leaf = refl; sort = refl; is_good = λ g. numbered-good (infer of_type v) Ty refl h refl }
  renamed (infer of_const v) h = record { ordinary = refl; is_leaf = refl; sort = refl; is_good = λ g. numbered-good (infer of_const v) Const refl h refl }
  renamed (infer of_lifetime v) h = record { ordinary = refl; is_leaf = refl; sort = refl; is_good = λ g. numbered-good (infer of_lifetime v) Region refl h refl }
  renamed (param of_type v) h = record { ordinary = refl; is_leaf = refl; sort = refl; is_good = λ g. numbered-good (param of_type v) PlaceholderTy refl h refl }
  renamed (param of_const v) h = record { ordinary = refl; is_leaf = refl; sort = refl; is_good = λ g. numbered-good (param of_const v) PlaceholderConst refl h refl }
  renamed (param of_lifetime v) h = record { ordinary = refl; is_leaf = refl; sort = refl; is_good = λ g. numbered-good (param of_lifetime v) Region refl h refl }
  renamed (placeholder of_type v) h = record { ordinary = refl; is_leaf = refl; sort = refl; is_good = λ g. numbered-good (placeholder of_type v) PlaceholderTy refl h refl }
  renamed (placeholder of_const v) h = record { ordinary = refl; is_leaf = refl; sort = refl; is_good = λ g. numbered-good (placeholder of_const v) PlaceholderConst refl h refl }
  renamed (placeholder of_lifetime v) h = record { ordinary = refl; is_leaf = refl; sort = refl; is_good = λ g. numbered-good (placeholder of_lifetime v) Region refl h refl }
  renamed static h = record { ordinary = refl; is_leaf = refl; sort = refl; is_good = λ g. numbered-good static Region refl h refl }
  renamed (canonical s i) h = record { ordinary = refl; is_leaf = refl; sort = refl; is_good = λ g. absurd (false-true g) }
  renamed l h = record { ordinary = refl; is_leaf = refl; sort = refl; is_good = λ g. refl }

  -- ---- the values
  value-fits : (l : Label) → LabelAmong l (own_labels t.kinds t.labels) → is_made (good_in t) terms (leaf l) ≡ true → is_fitting ks (value_numbered t l) ≡ true
  value-fits l i m =
      let x = resolved t.content.bindings (leaf l) in
      let one = resolved-one (good_in t) t.content.bindings made.table.values (leaf l) refl in
      let listed = each-listed x (λ n h. leaves-hold kind_of_leaf n [] (joined (own_values t) +++ resolved t.content.bindings t.content.constraints)
      (stands-left kind_of_leaf (joined (own_values t)) (resolved t.content.bindings t.content.constraints) n
      (joined-stands kind_of_leaf (own_values t) x n (among-map (λ y. resolved t.content.bindings (leaf y)) l (own_labels t.kinds t.labels) i) h))) in
      let again : is_made (is_variable_of ks) terms (numbered t x) ≡ true =
      made-again (good_in t) (is_variable_of ks) f terms x (made-resolved (good_in t) t.content.bindings made.table.values terms (leaf l) m) (each-label IsListed Renamed renamed x listed) in
      let tree_is : numbered t x ≡ tree (new (good_in t) (is_variable_of ks) f one.label) (numbered t one.children) none = ap (numbered t) one.is in
      let sort = label-sort one.label (is_some (kind_of_leaf one.label)) ∙ one.sort in
      both (is_a (sort_of l) (numbered t x)) _
      (ap (is_a (sort_of l)) tree_is ∙ made-is-a (is_variable_of ks) (sort_of l) (new (good_in t) (is_variable_of ks) f one.label) (numbered t one.children) sort (subst (λ z. is_made (is_variable_of ks) terms z ≡ true) tree_is again))
      again
    where
      label-sort : (l : Label) (b : Bool) → sort_of (if b then f l else l) ≡ sort_of l
      label-sort l true = refl
      label-sort l false = refl

  values-fit : (kinds : List CanonicalVarKind) (labels : List Label) → ((l : Label) → LabelAmong l (own_labels kinds labels) → LabelAmong l (own_labels t.kinds t.labels))
      → Every (λ l. is_made (good_in t) terms (leaf l) ≡ true) labels → Every (λ (v : Value). is_fitting ks v ≡ true) (map (value_numbered t) (own_labels kinds labels))
  values-fit [] labels i m = tt
  values-fit (k ∷ kinds) [] i m = tt
  values-fit (k ∷ kinds) (l ∷ labels) i m = (value-fits l (i l (inl refl)) m.0, values-fit kinds labels (λ n h. i n (inr h)) m.1)

  known-fit : Every (λ (v : Value). is_fitting ks v ≡ true) (map (value_numbered t) (own_labels t.kinds t.labels))
  known-fit = values-fit t.kinds t.labels (λ l h. h) made.leaves

-- ---- variables that stand for themselves
variable-is-a : (k : Sort) (i : ℕ) → is_a k (leaf (canonical k i)) ≡ true
variable-is-a of_type i = refl
variable-is-a of_const i = refl
variable-is-a of_lifetime i = refl

variable-fits : (all : List CanonicalVarKind) (i : ℕ) (k : CanonicalVarKind) → kind_at all i ≡ Some k → is_fitting all (variable_value k i) ≡ true
variable-fits all i k e =
    both (is_a (sort_of_kind k) (leaf (canonical (sort_of_kind k) i))) _ (variable-is-a (sort_of_kind k) i)
    (label-leaf (is_variable_of all) (canonical (sort_of_kind k) i) refl (ap (is_kind_of (sort_of_kind k)) e ∙ sort-self (sort_of_kind k)))

variables-fit : (all : List CanonicalVarKind) (i : ℕ) (ks : List CanonicalVarKind) → ((j : ℕ) → kind_at all (i + j) ≡ kind_at ks j) → Every (λ (v : Value). is_fitting all v ≡ true) (variables_from i ks)
variables-fit all i [] h = tt
variables-fit all i (k ∷ ks) h = (variable-fits all i k (ap (kind_at all) (here i) ∙ h zero), variables-fit all (i + 1) ks (λ j. ap (kind_at all) (next i j) ∙ h (suc j)))
  where
    here : (i : ℕ) → i ≡ i + zero
    here i = omega arith

    next : (i j : ℕ) → (i + 1) + j ≡ i + suc j
    next i j = omega arith

pub answers_well_formed : (t : FrameTable) → IsMadeFrame t → (c : Certainty) → IsWellFormed (respond t c)
answers_well_formed t made Yes = known-fit t made
answers_well_formed t made (Maybe Ambiguity) = known-fit t made
answers_well_formed t made (Maybe Overflow) = variables-fit t.kinds 0 t.kinds (λ j. ap (kind_at t.kinds) (from-zero j))
  where
    from-zero : (j : ℕ) → 0 + j ≡ j
    from-zero j = omega arith

-- ---- the sorts of the goal's variables
own-sort : (place : ℕ) (k : CanonicalVarKind) (l : Label) → IsOwn place k l → is_sort (sort_of_kind k) (sort_of l) ≡ true
own-sort place Ty l o = ap (λ z. is_sort of_type (sort_of z)) o.1
own-sort place Const l o = ap (λ z. is_sort of_const (sort_of z)) o.1
own-sort place PlaceholderTy l o = ap (λ z. is_sort of_type (sort_of z)) o
own-sort place PlaceholderConst l o = ap (λ z. is_sort of_const (sort_of z)) o
own-sort place Region l o = ap (is_sort of_lifetime) o

own-sorts : (t : FrameTable) (place i : ℕ) (kinds : List CanonicalVarKind) (labels : List Label) → AreOwn place kinds labels → have_same_sorts (variables_from i kinds) (map (value_numbered t) (own_labels kinds labels)) ≡ true
own-sorts t place i [] labels o = refl
own-sorts t place i (k ∷ kinds) [] o = absurd o
own-sorts t place i (k ∷ kinds) (l ∷ labels) o = both (is_sort (sort_of_kind k) (sort_of l)) _ (own-sort place k l o.0) (own-sorts t (suc place) (i + 1) kinds labels o.1)

same-sorts : (vs : List Value) → have_same_sorts vs vs ≡ true
same-sorts [] = refl
same-sorts (v ∷ vs) = both (is_sort v.sort v.sort) _ (sort-self v.sort) (same-sorts vs)

pub answers_to_own_goal : (t : FrameTable) → IsMadeFrame t → (c : Certainty) → is_answer_to (variables_from 0 t.kinds) (respond t c) ≡ true
answers_to_own_goal t made Yes = own-sorts t 0 0 t.kinds t.labels made.own
answers_to_own_goal t made (Maybe Ambiguity) = own-sorts t 0 0 t.kinds t.labels made.own
answers_to_own_goal t made (Maybe Overflow) = same-sorts (variables_from 0 t.kinds)

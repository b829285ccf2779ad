-- The sides of the equations of candidates are made terms.
use Rattle.std.proofs.Common.{◌≡◌, ℕ, ◌+◌, Bool, true, false, not, ◌&&◌, ◌||◌, if◌then◌else◌, List, [], length, ◌⊎◌, inl, inr, refl, sym, ap, subst, None, suc, ◌∷◌}
use Rattle.std.specs.List.{list_all}
use Rattle.type_terms.specs.Promised.Label.{Label, of_type, of_const, of_lifetime, tuple, dynamic, array, slice, adt, fn_ptr, principal, auto_trait, infer, param, placeholder, canonical, bound, static, predicate}
use Rattle.type_terms.specs.Promised.Trees.{Trees, none, tree, sort_of, some_node}
use Rattle.type_terms.specs.Trees.{is_a, is_no_tree}
use Rattle.type_terms.specs.Promised.Worlds.{World, Reference, StructDecl, TraitDecl, ImplDecl}
use Rattle.type_terms.specs.Promised.Rules.{but_last, is_unsizing, with_unsizing, principal_with, autos_with}
use Rattle.type_terms.specs.Promised.Proofs.{In}
use Rattle.type_terms.proofs.NoHolds.{member-each}
use Rattle.type_terms.specs.Made.{Standing, is_leaf_label, is_made}
use Rattle.type_terms.specs.Made.{terms}
use Rattle.type_terms.specs.Made.{bounds}
use Rattle.type_terms.specs.Made.{traits}
use Rattle.infer_table.specs.declared.canonical.CanonicalVarKind.{CanonicalVarKind}
use Rattle.goal_evaluator.specs.Lists.{Every}
use Rattle.goal_evaluator.proofs.ListLaws.{Every-mono, Every-both}
use Rattle.goal_evaluator.specs.Instances.{put_in, default_label}
use Rattle.goal_evaluator.specs.FrameTables.{is_open_label, term_of, Equation}
use Rattle.type_terms.proofs.Made.{false-true}
use Rattle.type_terms.proofs.Walking.{left, right}
use Rattle.type_terms.proofs.Made.{is_ordinary, made-append}
use Rattle.goal_evaluator.proofs.Labels.{IsLeafFor, PutsLeaves, made-put-in, made-more}
use Rattle.declarations.specs.Promised.Elaboration.{elaborate, supertraits, rest_of}
use Rattle.candidate_model.specs.Declared.{is_declared_leaf, is_counted, are_terms, are_references, is_declared_view}
use Rattle.candidate_model.specs.Asking.{GoalOverKinds, clauses, self_of, with_plain_head}
use Rattle.goal_evaluator.specs.Variables.{is_variable_over}
use Rattle.candidate_model.specs.Candidates.{first_value, all_equal, moved}
use Rattle.candidate_model.specs.Cover.{AreTermsOf, BoundsAreTerms, all_candidates}
use Rattle.candidate_model.proofs.Rowwise.{AreRows, all-so}
use Rattle.type_terms.proofs.BooleanBasics.{both}

abbrev pub IsOpenTerms : Trees → Type 0
IsOpenTerms t = is_made is_open_label terms t ≡ true

-- ---- one tree of several
one-of : (x y z w : Bool) → x && (y && (z && w)) ≡ true → x && (y && (z && true)) ≡ true
one-of true true true w h = refl
one-of false y z w h = absurd (false-true h)
one-of true false z w h = absurd (false-true h)
one-of true true false w h = absurd (false-true h)

and-true : (x y : Bool) → x && y ≡ true → x && true ≡ true
and-true true y h = refl
and-true false y h = absurd (false-true h)

pub rests : (x y z w : Bool) → x && (y && (z && w)) ≡ true → (z ≡ true) × (w ≡ true)
rests x y z w h = let q = right y (z && w) (right x (y && (z && w)) h) in (left z w q, right z w q)

pub first-made : (l : Label) (c o : Trees) → IsOpenTerms (tree l c o) → IsOpenTerms (tree l c none)
first-made dynamic c o h = and-true (is_made is_open_label bounds c) (is_made is_open_label terms o) h
first-made (principal n t) c o h = absurd (false-true h)
first-made (auto_trait t) c o h = absurd (false-true h)
first-made (predicate t) c o h = absurd (false-true h)
first-made l c o h = one-of (is_open_label l) (not (is_leaf_label l) || is_no_tree c) (is_made is_open_label terms c) (is_made is_open_label terms o) h

pub rest-made : (l : Label) (c o : Trees) → IsOpenTerms (tree l c o) → IsOpenTerms o
rest-made dynamic c o h = right (is_made is_open_label bounds c) (is_made is_open_label terms o) h
rest-made (principal n t) c o h = absurd (false-true h)
rest-made (auto_trait t) c o h = absurd (false-true h)
rest-made (predicate t) c o h = absurd (false-true h)
rest-made l c o h = (rests (is_open_label l) (not (is_leaf_label l) || is_no_tree c) (is_made is_open_label terms c) (is_made is_open_label terms o) h).1

-- ---- equations of lists
pub leaf-is : (c : Trees) → is_no_tree c && (is_made is_open_label terms c && true) ≡ true → is_no_tree c && true ≡ true
leaf-is c h = both (is_no_tree c) true (left (is_no_tree c) (is_made is_open_label terms c && true) h) refl

pub one-is : (l : Label) (c : Trees) → IsOpenTerms (tree l c none) → is_a (sort_of l) (tree l c none) ≡ true
one-is static c h = leaf-is c h
one-is (param of_lifetime i) c h = leaf-is c h
one-is (placeholder of_lifetime i) c h = leaf-is c h
one-is (canonical of_lifetime i) c h = leaf-is c h
one-is (bound of_lifetime i j) c h = leaf-is c h
one-is (infer k v) c h = absurd (false-true h)
one-is (param of_type i) c h = refl
one-is (param of_const i) c h = refl
one-is (placeholder of_type i) c h = refl
one-is (placeholder of_const i) c h = refl
one-is (canonical of_type i) c h = refl
one-is (canonical of_const i) c h = refl
one-is (bound of_type i j) c h = refl
one-is (bound of_const i j) c h = refl
one-is l c h = refl

pub term-is : (l : Label) (c o : Trees) → IsOpenTerms (tree l c o) → term_of (first_value l c) ≡ (first_value l c).trees
term-is l c o h =
    ap (λ b. if b then tree l c none else leaf_of) (both (is_a (sort_of l) (tree l c none)) (is_made is_open_label terms (tree l c none)) (one-is l c (first-made l c o h)) (first-made l c o h))
  where
    leaf_of : Trees
    leaf_of = tree (default_label (sort_of l)) none none

abbrev AreTerms : List Equation → Type 0
AreTerms es = Every (λ (e : Equation). (term_of e.left ≡ e.left.trees) × (term_of e.right ≡ e.right.trees)) es

pub all-terms : (x y : Trees) → IsOpenTerms x → IsOpenTerms y → AreTerms (all_equal x y)
all-terms none none h g = tt
all-terms none (tree m d p) h g = ((refl, refl), tt)
all-terms (tree l c o) none h g = ((refl, refl), tt)
all-terms (tree l c o) (tree m d p) h g = ((term-is l c o h, term-is m d p g), all-terms o p (rest-made l c o h) (rest-made m d p g))

-- ---- the goal's own terms
pub made-open : (kinds : List CanonicalVarKind) (m : Standing) (t : Trees) → is_made (is_variable_over kinds) m t ≡ true → is_made is_open_label m t ≡ true
made-open kinds m t h = made-more (is_variable_over kinds) is_open_label by m t h
  where
    by : (l : Label) → is_variable_over kinds l ≡ true → is_open_label l ≡ true
    by (infer k v) g = absurd (false-true g)
    by (param k v) g = absurd (false-true g)
    by (placeholder k v) g = absurd (false-true g)
    by l g = refl

pub plain-made : (t : Trees) → IsOpenTerms t → IsOpenTerms (with_plain_head t)
plain-made none h = refl
plain-made (tree dynamic c o) h = h
plain-made (tree (principal n t) c o) h = absurd (false-true h)
plain-made (tree (auto_trait t) c o) h = absurd (false-true h)
plain-made (tree (predicate t) c o) h = absurd (false-true h)
plain-made (tree (infer k v) c o) h = absurd (false-true h)
plain-made (tree (param of_type v) c o) h = absurd (false-true h)
plain-made (tree (param of_const v) c o) h = absurd (false-true h)
plain-made (tree (param of_lifetime v) c o) h = h
plain-made (tree (placeholder of_type v) c o) h = absurd (false-true h)
plain-made (tree (placeholder of_const v) c o) h = absurd (false-true h)
plain-made (tree (placeholder of_lifetime v) c o) h = h
plain-made (tree (canonical of_type v) c o) h = h
plain-made (tree (canonical of_const v) c o) h = h
plain-made (tree (canonical of_lifetime v) c o) h = h
plain-made (tree (bound of_type k v) c o) h = h
plain-made (tree (bound of_const k v) c o) h = h
plain-made (tree (bound of_lifetime k v) c o) h = h
plain-made (tree (fn_ptr n) c o) h = h
plain-made (tree l c o) h = h

four : (x y z w : Bool) → x && (y && (z && true)) ≡ true → w ≡ true → x && (y && (z && w)) ≡ true
four x y z w h g = rw g h

before-made : (l : Label) (c o : Trees) → IsOpenTerms (tree l c none) → IsOpenTerms o → IsOpenTerms (tree l c o)
before-made dynamic c o h g = both (is_made is_open_label bounds c) (is_made is_open_label terms o) (left (is_made is_open_label bounds c) true h) g
before-made (principal n t) c o h g = absurd (false-true h)
before-made (auto_trait t) c o h g = absurd (false-true h)
before-made (predicate t) c o h g = absurd (false-true h)
before-made l c o h g = four (is_open_label l) (not (is_leaf_label l) || is_no_tree c) (is_made is_open_label terms c) (is_made is_open_label terms o) h g

but-last-made : (t : Trees) → IsOpenTerms t → IsOpenTerms (but_last t)
but-last-made none h = refl
but-last-made (tree l c none) h = refl
but-last-made (tree l c (tree m d o)) h = before-made l c (but_last (tree m d o)) (first-made l c (tree m d o) h) (but-last-made (tree m d o) (rest-made l c (tree m d o) h))

-- the arguments of a struct, with others in the places that are unsizing
unsizing-made : (fs : List Trees) (k : ℕ) (x y : Trees) → IsOpenTerms x → IsOpenTerms y → IsOpenTerms (with_unsizing fs k x y)
unsizing-made fs k none y h g = refl
unsizing-made fs k (tree l c o) none h g = h
unsizing-made fs k (tree l c o) (tree m d p) h g = by (is_unsizing fs k) (unsizing-made fs (suc k) o p (rest-made l c o h) (rest-made m d p g))
  where
    by : (b : Bool) → IsOpenTerms (with_unsizing fs (suc k) o p) → IsOpenTerms (if b then tree m d (with_unsizing fs (suc k) o p) else tree l c (with_unsizing fs (suc k) o p))
    by true r = before-made m d _ (first-made m d p g) r
    by false r = before-made l c _ (first-made l c o h) r

-- a principal trait's arguments, with a Self
pub principal-terms : (self x : Trees) → IsOpenTerms self → is_made is_open_label bounds x ≡ true → Every (λ (r : Reference). IsOpenTerms r.args) (principal_with self x)
principal-terms self none h g = tt
principal-terms self (tree (principal n t) c o) h g = (made-append is_open_label self c h (left (is_made is_open_label terms c) (is_made is_open_label traits o) g), tt)
principal-terms self (tree l c o) h g = tt

every-rest : {A : Type 0} (Q : A → Type 0) (xs : List A) → Every Q xs → Every Q (rest_of xs)
every-rest Q [] h = tt
every-rest Q (x ∷ xs) h = h.1

-- ---- headers behind the goal's variables
pub open-behind : (n : ℕ) → PutsLeaves is_declared_leaf is_open_label (moved n)
open-behind n = record { leaf_or_stays = λ l i g. by l g; others = λ l i. stays l i }
  where
    by : (l : Label) → is_declared_leaf l ≡ true → IsLeafFor is_open_label (moved n) l ⊎ ((moved n l ≡ None) × (is_open_label l ≡ true))
    by (param k i) g = inl (record { label = canonical k (n + i); is = refl; sort = refl; made = refl })
    by (infer k v) g = absurd (false-true g)
    by (canonical k v) g = absurd (false-true g)
    by (placeholder k v) g = absurd (false-true g)
    by (bound k i v) g = absurd (false-true g)
    by l g = inr (refl, refl)

    stays : (l : Label) → is_ordinary l ≡ false → moved n l ≡ None
    stays (param k i) e = absurd (false-true (sym e))
    stays l e = refl

pub made-behind : (n : ℕ) (t : Trees) → is_made is_declared_leaf terms t ≡ true → IsOpenTerms (put_in (moved n) t)
made-behind n t h = made-put-in is_declared_leaf is_open_label (moved n) (open-behind n) terms t h

-- ---- the candidates
autos-terms : (self x : Trees) (args : Trees) → IsOpenTerms args → IsOpenTerms self → Every (λ (r : Reference). AreTerms (all_equal args r.args)) (autos_with self x)
autos-terms self none args h g = tt
autos-terms self (tree (auto_trait t) c o) args h g = (all-terms args self h g, autos-terms self o args h g)
autos-terms self (tree l c o) args h g = autos-terms self o args h g

module _ (V : World) (declared : is_declared_view V ≡ true) (a : GoalOverKinds) (over : is_made (is_variable_over a.kinds) terms a.reference.args ≡ true) (clauses_are : Every (λ (r : Reference). IsOpenTerms r.args) (clauses a)) (bounds_are : BoundsAreTerms V a) where
  args_made : IsOpenTerms a.reference.args
  args_made = made-open a.kinds terms a.reference.args over

  self_made : IsOpenTerms (self_of a)
  self_made = plain-made a.reference.args args_made

  header-declared : (i : ImplDecl) → In i V.impls → is_made is_declared_leaf terms i.header.args ≡ true
  header-declared i j =
      let later = right (list_all (λ (x : StructDecl). list_all are_terms x.fields) V.structs) (list_all (λ (x : TraitDecl). are_references x.bounds) V.traits && list_all (λ (x : ImplDecl). are_terms x.header.args && are_references x.clauses) V.impls) declared in
      let impls = right (list_all (λ (x : TraitDecl). are_references x.bounds) V.traits) (list_all (λ (x : ImplDecl). are_terms x.header.args && are_references x.clauses) V.impls) later in
      let one = member-each (λ (x : ImplDecl). are_terms x.header.args && are_references x.clauses) V.impls i impls j in
      left (is_made is_declared_leaf terms i.header.args) (not (some_node is_counted i.header.args)) (left (are_terms i.header.args) (are_references i.clauses) one)

  call-terms : (n : ℕ) (l : Label) (types c others : Trees) → self_of a ≡ tree (fn_ptr n) types (tree l c others) → AreTerms (all_equal (tree tuple (but_last types) none) (tree l c none))
  call-terms n l types c others e =
      let p = rests true true (is_made is_open_label terms types) (is_made is_open_label terms (tree l c others)) (subst IsOpenTerms e self_made) in
      all-terms (tree tuple (but_last types) none) (tree l c none) (both (is_made is_open_label terms (but_last types)) true (but-last-made types p.0) refl) (first-made l c others p.1)

  array-terms : (l m : Label) (c n d p o : Trees) → self_of a ≡ tree array (tree l c n) (tree slice (tree m d p) o) → AreTerms (all_equal (tree l c none) (tree m d none))
  array-terms l m c n d p o e =
      let x = rests true true (is_made is_open_label terms (tree l c n)) (is_made is_open_label terms (tree slice (tree m d p) o)) (subst IsOpenTerms e self_made) in
      let y = rests true true (is_made is_open_label terms (tree m d p)) (is_made is_open_label terms o) x.1 in
      all-terms (tree l c none) (tree m d none) (first-made l c n x.0) (first-made m d p y.0)

  bound-terms : (bs others : Trees) → self_of a ≡ tree dynamic bs others
      → Every (λ (r : Reference). AreTerms (all_equal a.reference.args r.args)) (autos_with (tree dynamic bs none) bs)
      × Every (λ (r : Reference). AreTerms (all_equal a.reference.args r.args)) (elaborate V (principal_with (tree dynamic bs none) bs))
  bound-terms bs others e = (
    autos-terms (tree dynamic bs none) bs a.reference.args args_made (first-made dynamic bs others (subst IsOpenTerms e self_made)),
    Every-mono (λ (r : Reference). IsOpenTerms r.args) (λ (r : Reference). AreTerms (all_equal a.reference.args r.args)) (λ r h. all-terms a.reference.args r.args args_made h)
        (elaborate V (principal_with (tree dynamic bs none) bs)) (bounds_are bs others e),
  )

  struct-terms : (s u : ℕ) (b d o : Trees) → self_of a ≡ tree (adt s) b (tree (adt u) d o) → (x : StructDecl) → AreTerms (all_equal (with_unsizing x.fields 0 b d) d)
  struct-terms s u b d o e x =
      let p = rests true true (is_made is_open_label terms b) (is_made is_open_label terms (tree (adt u) d o)) (subst IsOpenTerms e self_made) in
      let q = rests true true (is_made is_open_label terms d) (is_made is_open_label terms o) p.1 in
      all-terms (with_unsizing x.fields 0 b d) d (unsizing-made x.fields 0 b d p.0 q.0) q.0

  -- the supertraits of a principal trait are among its bounds with their supertraits
  supers-terms : (self b : Trees) → Every (λ (r : Reference). IsOpenTerms r.args) (elaborate V (principal_with self b)) → Every (λ (p : Reference). Every (λ (r : Reference). IsOpenTerms r.args) (supertraits V p)) (principal_with self b)
  supers-terms self none h = tt
  supers-terms self (tree (principal n t) c o) h = (every-rest (λ (r : Reference). IsOpenTerms r.args) (elaborate V (principal_with self (tree (principal n t) c o))) h, tt)
  supers-terms self (tree l c o) h = tt

  upcast-terms : (b d o : Trees) → self_of a ≡ tree dynamic b (tree dynamic d o)
      → Every (λ (q : Reference). Every (λ (p : Reference). AreTerms (all_equal p.args q.args) × Every (λ (r : Reference). AreTerms (all_equal r.args q.args)) (supertraits V p)) (principal_with (tree dynamic b none) b))
      (principal_with (tree dynamic b none) d)
  upcast-terms b d o e =
      let m = subst IsOpenTerms e self_made in
      let b_made = left (is_made is_open_label bounds b) (is_made is_open_label terms (tree dynamic d o)) m in
      let d_made = left (is_made is_open_label bounds d) (is_made is_open_label terms o) (right (is_made is_open_label bounds b) (is_made is_open_label terms (tree dynamic d o)) m) in
      let self = tree dynamic b none in
      let made = first-made dynamic b (tree dynamic d o) m in
      Every-mono (λ (q : Reference). IsOpenTerms q.args)
      (λ (q : Reference). Every (λ (p : Reference). AreTerms (all_equal p.args q.args) × Every (λ (r : Reference). AreTerms (all_equal r.args q.args)) (supertraits V p)) (principal_with self b))
      (λ q g.
      Every-both (λ (p : Reference). IsOpenTerms p.args) (λ (p : Reference). Every (λ (r : Reference). IsOpenTerms r.args) (supertraits V p))
      (λ (p : Reference). AreTerms (all_equal p.args q.args) × Every (λ (r : Reference). AreTerms (all_equal r.args q.args)) (supertraits V p))
      (λ p h k. (all-terms p.args q.args h g, Every-mono (λ (r : Reference). IsOpenTerms r.args) (λ (r : Reference). AreTerms (all_equal r.args q.args)) (λ r i. all-terms r.args q.args i g) (supertraits V p) k))
      (principal_with self b) (principal-terms self b made b_made) (supers-terms self b (bounds_are b (tree dynamic d o) e)))
      (principal_with self d) (principal-terms self d made d_made)

  rows : AreRows V a AreTermsOf AreTerms
  rows = record {
    rule = λ source es ps e. e;
    nothing = tt;
    calls = call-terms;
    arrays = array-terms;
    upcasts = upcast-terms;
    structs = struct-terms;
    clauses = Every-mono (λ (r : Reference). IsOpenTerms r.args) (λ (r : Reference). AreTerms (all_equal a.reference.args r.args)) (λ r h. all-terms a.reference.args r.args args_made h) (clauses a) clauses_are;
    bounds = bound-terms;
    impls = λ i j. all-terms a.reference.args (put_in (moved (length a.kinds)) i.header.args) args_made (made-behind (length a.kinds) i.header.args (header-declared i j));
    unsures = tt;
    records = λ r c h. h;
  }

  pub all-are-terms : Every AreTermsOf (all_candidates V a)
  all-are-terms = all-so V a AreTermsOf AreTerms rows

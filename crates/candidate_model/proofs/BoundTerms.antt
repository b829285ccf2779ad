-- The bounds of `dyn` types, with the supertraits of their principal traits, have made terms as arguments.
use Rattle.std.proofs.Common.{◌≡◌, ℕ, zero, suc, Bool, true, false, not, ◌&&◌, ◌||◌, List, refl, ap, sym, subst}
use Rattle.std.specs.List.{list_all}
use Rattle.type_terms.specs.Promised.Label.{Label, of_type, of_const, of_lifetime, static, dynamic, principal, auto_trait, infer, param, placeholder, canonical, bound, inside, shift_label, of_trait, predicate}
use Rattle.type_terms.specs.Promised.Trees.{Trees, none, tree, is_sort, sort_of, some_node, nth, shift, instantiate}
use Rattle.type_terms.specs.Trees.{is_no_tree}
use Rattle.type_terms.specs.Promised.Worlds.{World, Reference, StructDecl, TraitDecl, ImplDecl}
use Rattle.type_terms.specs.Promised.Rules.{principal_with}
use Rattle.type_terms.specs.Promised.Proofs.{In}
use Rattle.type_terms.proofs.NoHolds.{member-each}
use Rattle.type_terms.specs.Promised.Answers.{is_open}
use Rattle.type_terms.specs.Made.{Standing, terms, bounds, traits, is_leaf_label, is_made}
use Rattle.type_terms.proofs.Made.{left, right, both, false-true, no-tree, made-ordinary, makes-ordinary, made-rest, made-alone, made-append, last-bound, last-trait, never-dynamic, never-dynamic-bound, never-principal}
use Rattle.infer_table.specs.declared.canonical.CanonicalVarKind.{CanonicalVarKind}
use Rattle.goal_evaluator.specs.Lists.{Every}
use Rattle.goal_evaluator.specs.FrameTables.{is_open_label}
use Rattle.candidate_model.specs.Facts.{clauses_of}
use Rattle.candidate_model.specs.Meaning.{ViewMeaning}
use Rattle.candidate_model.specs.Asking.{GoalOverKinds, all_known, are_clauses}
use Rattle.goal_evaluator.specs.Variables.{is_variable_over}
use Rattle.candidate_model.specs.Declared.{is_declared_leaf, are_terms, are_references, is_declared_view, is_counted, is_lifetime_parameter, BoundsAreErased}
use Rattle.candidate_model.specs.Cover.{BoundsAreTerms}
use Rattle.candidate_model.proofs.Premises.{EquationsAreTerms}
use Rattle.candidate_model.specs.CoverLaw.{ErasedBoundsAreLeft}
use Rattle.candidate_model.proofs.Cover.{asked-by}
use Rattle.candidate_model.proofs.Elaborating.{elaborated-so}
use Rattle.candidate_model.proofs.EquationTerms.{IsOpenTerms, made-open, plain-made, first-made, principal-terms, all-are-terms}
use Rattle.candidate_model.proofs.LawfulCandidates.{asked-clauses}
use Rattle.type_terms.proofs.TermBasics.{gone}

-- ---- no children
pub no-children : (b : Bool) (f : Trees → Trees) → f none ≡ none → (c : Trees) → (not b || is_no_tree c) ≡ true → (not b || is_no_tree (f c)) ≡ true
no-children false f e c h = refl
no-children true f e none h = ap is_no_tree e
no-children true f e (tree l c o) h = absurd (false-true h)

last-is : (l : Label) (c o : Trees) → is_open_label l ≡ true → is_sort (sort_of l) of_lifetime ≡ true → is_no_tree c ≡ true → is_no_tree o ≡ true
    → (is_open_label l && (is_sort (sort_of l) of_lifetime && (is_no_tree c && is_no_tree o))) ≡ true
last-is l c o g s e h = both (is_open_label l) _ g (both (is_sort (sort_of l) of_lifetime) _ s (both (is_no_tree c) (is_no_tree o) e h))

-- ---- shifted terms
shift-made : (d a : ℕ) (m : Standing) (t : Trees) → is_made is_open_label m t ≡ true → is_made is_open_label m (shift d a t) ≡ true
shift-made d a terms none h = refl
shift-made d a terms (tree dynamic c o) h =
    both (is_made is_open_label bounds (shift d a c)) _ (shift-made d a bounds c (left (is_made is_open_label bounds c) (is_made is_open_label terms o) h)) (shift-made d a terms o (right (is_made is_open_label bounds c) (is_made is_open_label terms o) h))
shift-made d a terms (tree (principal k t) c o) h = absurd (false-true h)
shift-made d a terms (tree (auto_trait t) c o) h = absurd (false-true h)
shift-made d a terms (tree (predicate k) c o) h = absurd (false-true h)
shift-made d a terms (tree l c o) h =
    let x = made-ordinary is_open_label l c o refl h in
    makes-ordinary is_open_label (shift_label d a l) (shift (inside l d) a c) (shift d a o) refl (x.0) (no-children (is_leaf_label l) (shift (inside l d) a) refl c x.1) (shift-made (inside l d) a terms c x.2) (shift-made d a terms o x.3)
shift-made d a bounds none h = absurd (false-true h)
shift-made d a bounds (tree (predicate k) c o) h = absurd (false-true h)
shift-made d a bounds (tree dynamic c o) h = absurd (never-dynamic-bound is_open_label c o h)
shift-made d a bounds (tree (principal k t) c o) h =
    both (is_made is_open_label terms (shift (inside (principal k t) d) a c)) _ (shift-made (inside (principal k t) d) a terms c (left (is_made is_open_label terms c) (is_made is_open_label traits o) h))
    (shift-made d a traits o (right (is_made is_open_label terms c) (is_made is_open_label traits o) h))
shift-made d a bounds (tree (auto_trait t) c o) h =
    both (is_no_tree (shift d a c)) _ (gone (shift d a) refl c (no-tree c (left (is_no_tree c) (is_made is_open_label traits o) h))) (shift-made d a traits o (right (is_no_tree c) (is_made is_open_label traits o) h))
shift-made d a bounds (tree l c o) h =
    let x = last-bound is_open_label l c o refl h in
    last-is (shift_label d a l) (shift (inside l d) a c) (shift d a o) x.good_label x.lifetime (gone (shift (inside l d) a) refl c x.children) (gone (shift d a) refl o x.rest)
shift-made d a traits none h = absurd (false-true h)
shift-made d a traits (tree (predicate k) c o) h = absurd (false-true h)
shift-made d a traits (tree dynamic c o) h = absurd (never-dynamic is_open_label c o h)
shift-made d a traits (tree (principal k t) c o) h = absurd (never-principal is_open_label k t c o h)
shift-made d a traits (tree (auto_trait t) c o) h =
    both (is_no_tree (shift d a c)) _ (gone (shift d a) refl c (no-tree c (left (is_no_tree c) (is_made is_open_label traits o) h))) (shift-made d a traits o (right (is_no_tree c) (is_made is_open_label traits o) h))
shift-made d a traits (tree l c o) h =
    let x = last-trait is_open_label l c o refl h in
    last-is (shift_label d a l) (shift (inside l d) a c) (shift d a o) x.good_label x.lifetime (gone (shift (inside l d) a) refl c x.children) (gone (shift d a) refl o x.rest)

nth-made : (i : ℕ) (A : Trees) → IsOpenTerms A → IsOpenTerms (nth A i)
nth-made i none h = refl
nth-made zero (tree l c o) h = made-alone is_open_label l c o h
nth-made (suc i) (tree l c o) h = nth-made i o (made-rest is_open_label l c o h)

-- ---- instances of what is declared
or-false : (x y z : Bool) → x || y || z ≡ false → (x ≡ false) × (y ≡ false) × (z ≡ false)
or-false false false false h = (refl, refl, refl)
or-false true y z h = absurd (false-true (sym h))
or-false false true z h = absurd (false-true (sym h))
or-false false false true h = absurd (false-true (sym h))

abbrev NoLifetimes : Trees → Type 0
NoLifetimes t = some_node is_lifetime_parameter t ≡ false

no-parts : (l : Label) (c o : Trees) → NoLifetimes (tree l c o) → (is_lifetime_parameter l ≡ false) × NoLifetimes c × NoLifetimes o
no-parts l c o h = or-false (is_lifetime_parameter l) (some_node is_lifetime_parameter c) (some_node is_lifetime_parameter o) h

module _ (A : Trees) (made : IsOpenTerms A) where
  -- the lifetime at the end of the bounds is `'static`
  lasts : (d : ℕ) (l : Label) (c o : Trees) → is_declared_leaf l ≡ true → is_sort (sort_of l) of_lifetime ≡ true → is_lifetime_parameter l ≡ false → c ≡ none → o ≡ none
      → (is_made is_open_label traits (instantiate d A (tree l c o)) ≡ true) × (is_made is_open_label bounds (instantiate d A (tree l c o)) ≡ true)
  lasts d static c o g s e p q = let x = last-is static (instantiate d A c) (instantiate d A o) refl refl (gone (instantiate d A) refl c p) (gone (instantiate d A) refl o q) in (x, x)
  lasts d (param of_lifetime i) c o g s e p q = absurd (false-true (sym e))
  lasts d (param of_type i) c o g s e p q = absurd (false-true s)
  lasts d (param of_const i) c o g s e p q = absurd (false-true s)
  lasts d (infer k i) c o g s e p q = absurd (false-true g)
  lasts d (canonical k i) c o g s e p q = absurd (false-true g)
  lasts d (placeholder k i) c o g s e p q = absurd (false-true g)
  lasts d (bound k j i) c o g s e p q = absurd (false-true g)
  lasts d l c o g s e p q = absurd (false-true s)

  instance-made : (d : ℕ) (m : Standing) (t : Trees) → is_made is_declared_leaf m t ≡ true → NoLifetimes t → is_made is_open_label m (instantiate d A t) ≡ true
  instance-made d terms none h e = refl
  instance-made d terms (tree dynamic c o) h e =
      let p = no-parts dynamic c o e in
      both (is_made is_open_label bounds (instantiate d A c)) _ (instance-made d bounds c (left (is_made is_declared_leaf bounds c) (is_made is_declared_leaf terms o) h) p.1) (instance-made d terms o (right (is_made is_declared_leaf bounds c) (is_made is_declared_leaf terms o) h) p.2)
  instance-made d terms (tree (principal k t) c o) h e = absurd (false-true h)
  instance-made d terms (tree (auto_trait t) c o) h e = absurd (false-true h)
  instance-made d terms (tree (predicate k) c o) h e = absurd (false-true h)
  instance-made d terms (tree (param s i) c o) h e =
      made-append is_open_label (shift zero d (nth A i)) (instantiate d A o) (shift-made zero d terms (nth A i) (nth-made i A made)) (instance-made d terms o (made-rest is_declared_leaf (param s i) c o h) (no-parts (param s i) c o e).2)
  instance-made d terms (tree (infer s i) c o) h e = absurd (false-true h)
  instance-made d terms (tree (canonical s i) c o) h e = absurd (false-true h)
  instance-made d terms (tree (placeholder s i) c o) h e = absurd (false-true h)
  instance-made d terms (tree (bound s k i) c o) h e = absurd (false-true h)
  instance-made d terms (tree l c o) h e =
      let x = made-ordinary is_declared_leaf l c o refl h in
      let p = no-parts l c o e in
      makes-ordinary is_open_label l (instantiate (inside l d) A c) (instantiate d A o) refl refl (no-children (is_leaf_label l) (instantiate (inside l d) A) refl c x.1) (instance-made (inside l d) terms c x.2 p.1) (instance-made d terms o x.3 p.2)
  instance-made d bounds none h e = absurd (false-true h)
  instance-made d bounds (tree (predicate k) c o) h e = absurd (false-true h)
  instance-made d bounds (tree dynamic c o) h e = absurd (never-dynamic-bound is_declared_leaf c o h)
  instance-made d bounds (tree (principal k t) c o) h e =
      let p = no-parts (principal k t) c o e in
      both (is_made is_open_label terms (instantiate (inside (principal k t) d) A c)) _ (instance-made (inside (principal k t) d) terms c (left (is_made is_declared_leaf terms c) (is_made is_declared_leaf traits o) h) p.1)
      (instance-made d traits o (right (is_made is_declared_leaf terms c) (is_made is_declared_leaf traits o) h) p.2)
  instance-made d bounds (tree (auto_trait t) c o) h e =
      both (is_no_tree (instantiate d A c)) _ (gone (instantiate d A) refl c (no-tree c (left (is_no_tree c) (is_made is_declared_leaf traits o) h)))
      (instance-made d traits o (right (is_no_tree c) (is_made is_declared_leaf traits o) h) (no-parts (auto_trait t) c o e).2)
  instance-made d bounds (tree l c o) h e = let x = last-bound is_declared_leaf l c o refl h in (lasts d l c o x.good_label x.lifetime (no-parts l c o e).0 x.children x.rest).1
  instance-made d traits none h e = absurd (false-true h)
  instance-made d traits (tree (predicate k) c o) h e = absurd (false-true h)
  instance-made d traits (tree dynamic c o) h e = absurd (never-dynamic is_declared_leaf c o h)
  instance-made d traits (tree (principal k t) c o) h e = absurd (never-principal is_declared_leaf k t c o h)
  instance-made d traits (tree (auto_trait t) c o) h e =
      both (is_no_tree (instantiate d A c)) _ (gone (instantiate d A) refl c (no-tree c (left (is_no_tree c) (is_made is_declared_leaf traits o) h)))
      (instance-made d traits o (right (is_no_tree c) (is_made is_declared_leaf traits o) h) (no-parts (auto_trait t) c o e).2)
  instance-made d traits (tree l c o) h e = let x = last-trait is_declared_leaf l c o refl h in (lasts d l c o x.good_label x.lifetime (no-parts l c o e).0 x.children x.rest).0

-- ---- the goals that are decided
parts : (kinds : List CanonicalVarKind) (l : Label) (c o : Trees) → are_clauses kinds (tree l c o) ≡ true → (is_made (is_variable_over kinds) terms c ≡ true) × (are_clauses kinds o ≡ true)
parts kinds l c o h =
    let x = right (not (is_open l)) (is_made (is_variable_over kinds) terms c && are_clauses kinds o) h in
    (left (is_made (is_variable_over kinds) terms c) (are_clauses kinds o) x, right (is_made (is_variable_over kinds) terms c) (are_clauses kinds o) x)

clauses-open : (kinds : List CanonicalVarKind) (E : Trees) → are_clauses kinds E ≡ true → Every (λ (r : Reference). IsOpenTerms r.args) (clauses_of E)
clauses-open kinds none h = tt
clauses-open kinds (tree (predicate (of_trait t)) c o) h = let x = parts kinds (predicate (of_trait t)) c o h in (made-open kinds terms c x.0, clauses-open kinds o x.1)
clauses-open kinds (tree l c o) h = clauses-open kinds o (parts kinds l c o h).1

module _ (V : World) (declared : is_declared_view V ≡ true) (erased : BoundsAreErased V) where
  bound-declared : (x : TraitDecl) → In x V.traits → (b : Reference) → In b x.bounds → is_made is_declared_leaf terms b.args ≡ true
  bound-declared x i b j =
      let later = right (list_all (λ (y : StructDecl). list_all are_terms y.fields) V.structs) (list_all (λ (y : TraitDecl). are_references y.bounds) V.traits && list_all (λ (y : ImplDecl). are_terms y.header.args && are_references y.clauses) V.impls) declared in
      let all = left (list_all (λ (y : TraitDecl). are_references y.bounds) V.traits) (list_all (λ (y : ImplDecl). are_terms y.header.args && are_references y.clauses) V.impls) later in
      let own = member-each (λ (y : TraitDecl). are_references y.bounds) V.traits x all i in
      left (is_made is_declared_leaf terms b.args) (not (some_node is_counted b.args)) (member-each (λ (r : Reference). are_terms r.args) x.bounds b own j)

  bounds-are-terms : (a : GoalOverKinds) → is_made (is_variable_over a.kinds) terms a.reference.args ≡ true → BoundsAreTerms V a
  bounds-are-terms a over bs others e =
      let self = subst IsOpenTerms e (plain-made a.reference.args (made-open a.kinds terms a.reference.args over)) in
      let own = left (is_made is_open_label bounds bs) (is_made is_open_label terms others) self in
      elaborated-so V (λ r. IsOpenTerms r.args) (λ r h x i b j. instance-made r.args h zero terms b.args (bound-declared x i b j) (erased x b i j)) (principal_with (tree dynamic bs none) bs)
      (principal-terms (tree dynamic bs none) bs (first-made dynamic bs others self) own)

pub equations-are-terms : (m : ViewMeaning) → is_declared_view m.view ≡ true → BoundsAreErased m.view → EquationsAreTerms m
equations-are-terms m declared erased f a is =
    let parts = asked-by m.view f.goal.environment f.goal.predicate (all_known f.kinds) a is in
    all-are-terms m.view declared a parts.over (clauses-open a.kinds a.environment (asked-clauses m.view f.goal.environment f.goal.predicate (all_known f.kinds) a is)) (bounds-are-terms m.view declared erased a parts.over)

pub bounds-are-left : ErasedBoundsAreLeft
bounds-are-left m declared erased f a is = bounds-are-terms m.view declared erased a (asked-by m.view f.goal.environment f.goal.predicate (all_known f.kinds) a is).over

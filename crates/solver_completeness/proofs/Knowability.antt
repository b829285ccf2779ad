-- If a goal without inference variables is knowable, so is its instance. Otherwise the candidate for that is one more rule
-- instance.
use Rattle.std.proofs.Common.{◌≡◌, ◌⊎◌, inl, inr, ℕ, ◌==◌, Bool, true, false, not, ◌&&◌, ◌||◌, if◌then◌else◌, List, [], ◌∷◌, ◌++◌, refl, ◌∙◌, ap, Option, Some, None}
use Rattle.std.specs.List.{list_all, list_any}
use Rattle.type_terms.specs.Promised.Label.{Label, of_type, of_const, of_lifetime, ref, adt, dynamic, static, value, principal, auto_trait, predicate, param, placeholder, infer, canonical, bound}
use Rattle.type_terms.specs.Promised.Trees.{Trees, none, tree, leaf, ◌+++◌, is_sort, sort_of}
use Rattle.type_terms.specs.Trees.{is_a, is_no_tree}
use Rattle.type_terms.specs.Promised.Worlds.{World}
use Rattle.type_terms.specs.Promised.Versions.{is_open_place}
use Rattle.type_terms.specs.Promised.Walks.{Met, local, entered, struct_leaf, open_place, other_leaf, visited, dyn_met, struct_is, trait_is, is_home, item_in, until_decisive, ends_local}
use Rattle.type_terms.proofs.Walking.{left, right}
use Rattle.type_terms.specs.Made.{terms, bounds, is_leaf_label, is_made}
use Rattle.type_terms.proofs.Made.{false-true}
use Rattle.infer_table.specs.Canonical.{CanonicalForm}
use Rattle.goal_evaluator.specs.Instances.{read_with, of_sort, term_at}
use Rattle.goal_evaluator.specs.Content.{Values, given}
use Rattle.goal_evaluator.specs.Variables.{is_variable_over}
use Rattle.solver_completeness.specs.ClosedTables.{AreClosed, ArePlaces}
use Rattle.candidate_model.specs.Meaning.{ViewMeaning}
use Rattle.candidate_model.specs.Knowing.{is_knowable}
use Rattle.candidate_model.specs.Asking.{GoalOverKinds, goal_over_kinds}
use Rattle.candidate_model.specs.Cover.{read_reference}
use Rattle.candidate_model.proofs.SoundCalls.{made-rest}
use Rattle.solver_completeness.proofs.Instances.{terms_of, BeginsWithPlace, read-place}
use Rattle.solver_completeness.proofs.Equating.{args-over}

-- a const is passed over
skip-const : (V : World) (d : Option ℕ) (l : Label) (c o : Trees) → is_sort (sort_of l) of_const ≡ true → visited V d (tree l c o) ≡ visited V d o
skip-const V d (value n) c o e = refl
skip-const V d (param of_const i) c o e = refl
skip-const V d (placeholder of_const i) c o e = refl
skip-const V d (infer of_const i) c o e = refl
skip-const V d (canonical of_const i) c o e = refl
skip-const V d (bound of_const i j) c o e = refl
skip-const V d l c o e = absurd (false-true e)

const-first : (V : World) (d : Option ℕ) (x o : Trees) → visited V d (of_sort of_const x +++ o) ≡ visited V d o
const-first V d x o = by (is_a of_const x) refl
  where
    one : (x : Trees) → is_a of_const x ≡ true → visited V d (x +++ o) ≡ visited V d o
    one none e = absurd (false-true e)
    one (tree l c none) e = skip-const V d l c o (left (is_sort (sort_of l) of_const) true e)
    one (tree l c (tree k b p)) e = absurd (false-true (right (is_sort (sort_of l) of_const) false e))

    by : (b : Bool) → is_a of_const x ≡ b → visited V d ((if b then x else leaf (value 0)) +++ o) ≡ visited V d o
    by true e = one x e
    by false e = refl

module _ (m : ViewMeaning) (f : CanonicalForm) (a : GoalOverKinds) (is_asked : goal_over_kinds m.view f ≡ Some a) (closed : AreClosed f.kinds) (v : Values) (places : ArePlaces f.kinds v) where
  abbrev V : World
  V = m.view

  abbrev xs : List Trees
  xs = (terms_of m f a is_asked closed v places).slots

  abbrev Read : Trees → Trees
  Read t = read_with (given xs) t

  abbrev over : Label → Bool
  over l = is_variable_over a.kinds l

  dyn-read : (d : Option ℕ) (c : Trees) → is_made over bounds c ≡ true → dyn_met V d (Read c) ≡ dyn_met V d c
  dyn-read d none h = refl
  dyn-read d (tree (principal n t) c o) h = refl
  dyn-read d (tree (auto_trait t) c o) h = refl
  dyn-read d (tree (predicate k) c o) h = absurd (false-true h)
  dyn-read d (tree static c o) h = refl
  dyn-read d (tree (param of_lifetime i) c o) h = absurd (false-true h)
  dyn-read d (tree (placeholder of_lifetime i) c o) h = absurd (false-true h)
  dyn-read d (tree (infer of_lifetime i) c o) h = absurd (false-true h)
  dyn-read d (tree (canonical of_lifetime i) c o) h = refl
  dyn-read d (tree (bound of_lifetime i j) c o) h = refl
  dyn-read d (tree l c o) h = absurd (false-true (left (is_sort (sort_of l) of_lifetime) (is_no_tree c && is_no_tree o) (right (over l) (is_sort (sort_of l) of_lifetime && (is_no_tree c && is_no_tree o)) h)))

  parts : (x y z w : Bool) → x && (y && (z && w)) ≡ true → z ≡ true
  parts x y z w h = left z w (right y (z && w) (right x (y && (z && w)) h))

  both-visited : (x y z w : List Met) → x ≡ y → z ≡ w → x ++ z ≡ y ++ w
  both-visited x y z w e g = ap (λ q. q ++ z) e ∙ ap (λ q. y ++ q) g

  pub visited-read : (d : Option ℕ) (t : Trees) → is_made over terms t ≡ true → visited V d (Read t) ≡ visited V d t
  visited-read d none h = refl
  visited-read d (tree (ref b) c o) h =
      both-visited (visited V d (Read c)) (visited V d c) (visited V d (Read o)) (visited V d o) (visited-read d c (parts (over (ref b)) (not (is_leaf_label (ref b)) || is_no_tree c) (is_made over terms c) (is_made over terms o) h)) (visited-read d o (made-rest over (ref b) c o h))
  visited-read d (tree (adt s) c o) h =
      both-visited _ _ (visited V d (Read o)) (visited V d o)
      (ap (λ ms. if struct_is (λ x. is_home d x.home) V s then local ∷ [] else if struct_is (λ x. x.is_fundamental) V s then entered s ∷ ms else struct_leaf s ∷ [])
      (visited-read d c (parts (over (adt s)) (not (is_leaf_label (adt s)) || is_no_tree c) (is_made over terms c) (is_made over terms o) h)))
      (visited-read d o (made-rest over (adt s) c o h))
  visited-read d (tree dynamic c o) h =
      both-visited (dyn_met V d (Read c)) (dyn_met V d c) (visited V d (Read o)) (visited V d o) (dyn-read d c (left (is_made over bounds c) (is_made over terms o) h)) (visited-read d o (right (is_made over bounds c) (is_made over terms o) h))
  visited-read d (tree (canonical of_type i) c o) h = by (read-place m f a is_asked closed v places i c o h) (visited-read d o (made-rest over (canonical of_type i) c o h))
    where
      by : BeginsWithPlace (Read (tree (canonical of_type i) c o)) (Read o) → visited V d (Read o) ≡ visited V d o → visited V d (Read (tree (canonical of_type i) c o)) ≡ open_place ∷ visited V d o
      by p e = either p.is
        where
          either : (Read (tree (canonical of_type i) c o) ≡ tree (param of_type p.number) none (Read o)) ⊎ (Read (tree (canonical of_type i) c o) ≡ tree (placeholder of_type p.number) none (Read o))
              → visited V d (Read (tree (canonical of_type i) c o)) ≡ open_place ∷ visited V d o
          either (inl q) = ap (visited V d) q ∙ ap (λ ms. open_place ∷ ms) e
          either (inr q) = ap (visited V d) q ∙ ap (λ ms. open_place ∷ ms) e
  visited-read d (tree (canonical of_const i) c o) h = const-first V d (term_at xs i) (Read o) ∙ visited-read d o (made-rest over (canonical of_const i) c o h)
  visited-read d (tree (canonical of_lifetime i) c o) h = visited-read d o (made-rest over (canonical of_lifetime i) c o h)
  visited-read d (tree (param k i) c o) h = absurd (false-true h)
  visited-read d (tree (placeholder k i) c o) h = absurd (false-true h)
  visited-read d (tree (infer k i) c o) h = absurd (false-true h)
  visited-read d (tree (bound of_type i j) c o) h = ap (λ ms. open_place ∷ ms) (visited-read d o (made-rest over (bound of_type i j) c o h))
  visited-read d (tree (bound of_const i j) c o) h = visited-read d o (made-rest over (bound of_const i j) c o h)
  visited-read d (tree (bound of_lifetime i j) c o) h = visited-read d o (made-rest over (bound of_lifetime i j) c o h)
  visited-read d (tree (value n) c o) h = visited-read d o (made-rest over (value n) c o h)
  visited-read d (tree static c o) h = visited-read d o (made-rest over static c o h)
  visited-read d (tree (principal n t) c o) h = absurd (false-true h)
  visited-read d (tree (auto_trait t) c o) h = absurd (false-true h)
  visited-read d (tree (predicate k) c o) h = absurd (false-true h)
  visited-read d (tree l c o) h = ap (λ ms. other_leaf ∷ ms) (visited-read d o (made-rest over l c o h))

  abbrev tells : List Met → List Met → Bool
  tells x y =
      (trait_is (λ _. true) V a.reference.trait && (list_all (item_in V) (until_decisive x) && (trait_is (λ x. (x.home == m.crate) || x.is_fundamental) V a.reference.trait || ends_local (until_decisive y))))
      && not (list_any is_open_place x)

  pub knowable-is : is_knowable V m.crate (read_reference xs a.reference) ≡ is_knowable V m.crate a.reference
  knowable-is =
      ap (λ x. tells x (visited V (Some m.crate) (Read a.reference.args))) (visited-read None a.reference.args (args-over m f a is_asked closed v places))
      ∙ ap (tells (visited V None a.reference.args)) (visited-read (Some m.crate) a.reference.args (args-over m f a is_asked closed v places))

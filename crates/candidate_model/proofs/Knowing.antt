-- What is knowable with unknowns is known whatever they stand for.
use Rattle.std.proofs.Common.{◌≡◌, ℕ, Bool, true, false, not, ◌&&◌, ◌||◌, ◌==◌, if◌then◌else◌, List, [], ◌∷◌, ◌++◌, refl, sym, ◌∙◌, ap, subst, Option, Some, None}
use Rattle.std.specs.List.{list_all, list_any}
use Rattle.type_terms.specs.Promised.Label.{Label, of_type, of_const, of_lifetime, dynamic, static, adt, auto_trait, principal, param, placeholder, infer, canonical, bound, predicate}
use Rattle.type_terms.specs.Promised.Label.{value}
use Rattle.type_terms.specs.Promised.Label.{ref}
use Rattle.type_terms.specs.Promised.Trees.{Trees, none, tree, leaf, ◌+++◌, is_sort, sort_of}
use Rattle.type_terms.specs.Trees.{is_a, is_no_tree}
use Rattle.type_terms.specs.Promised.Worlds.{World, Reference, StructDecl, structs_named}
use Rattle.type_terms.specs.Promised.Walks.{local, struct_leaf, other_leaf, struct_is, trait_is, is_home, dyn_met, visited, is_known_in, item_in, until_decisive, ends_local}
use Rattle.type_terms.specs.Promised.Walks.{entered}
use Rattle.type_terms.specs.Promised.Versions.{is_open_place}
use Rattle.type_terms.proofs.Walking.{left, right}
use Rattle.type_terms.specs.Made.{terms}
use Rattle.type_terms.specs.Made.{bounds}
use Rattle.type_terms.specs.Made.{is_leaf_label, is_made}
use Rattle.goal_evaluator.specs.Instances.{read_with, default_label, of_sort, term_at}
use Rattle.goal_evaluator.specs.Content.{given}
use Rattle.candidate_model.specs.Knowing.{is_knowable}
pub use Rattle.candidate_model.specs.Cover.{read_reference}
use Rattle.type_terms.proofs.BooleanBasics.{true-false}
use Rattle.candidate_model.proofs.ErasedCandidates.{not-true as not-false}

any-left : {A : Type 0} (p : A → Bool) (xs ys : List A) → list_any p (xs ++ ys) ≡ false → list_any p xs ≡ false
any-left p [] ys e = refl
any-left p (x ∷ xs) ys e = by (p x) e (λ f. any-left p xs ys f)
  where
    by : (b : Bool) → (b || list_any p (xs ++ ys)) ≡ false → (list_any p (xs ++ ys) ≡ false → list_any p xs ≡ false) → (b || list_any p xs) ≡ false
    by true f go = absurd (true-false f)
    by false f go = go f

any-right : {A : Type 0} (p : A → Bool) (xs ys : List A) → list_any p (xs ++ ys) ≡ false → list_any p ys ≡ false
any-right p [] ys e = e
any-right p (x ∷ xs) ys e = by (p x) e (λ f. any-right p xs ys f)
  where
    by : (b : Bool) → (b || list_any p (xs ++ ys)) ≡ false → (list_any p (xs ++ ys) ≡ false → list_any p ys ≡ false) → list_any p ys ≡ false
    by true f go = absurd (true-false f)
    by false f go = go f

-- a const is not visited
const-unseen : (V : World) (d : Option ℕ) (x y : Trees) → is_a of_const x ≡ true → visited V d (x +++ y) ≡ visited V d y
const-unseen V d none y e = refl
const-unseen V d (tree (value n) c none) y e = refl
const-unseen V d (tree (param of_const i) c none) y e = refl
const-unseen V d (tree (placeholder of_const i) c none) y e = refl
const-unseen V d (tree (infer of_const i) c none) y e = refl
const-unseen V d (tree (canonical of_const i) c none) y e = refl
const-unseen V d (tree (bound of_const i j) c none) y e = refl
const-unseen V d (tree l c o) y e = absurd (true-false (sym e))

is-const : (t : Trees) → is_a of_const (of_sort of_const t) ≡ true
is-const t = by (is_a of_const t) refl
  where
    by : (b : Bool) → is_a of_const t ≡ b → is_a of_const (if b then t else leaf (default_label of_const)) ≡ true
    by true e = e
    by false e = refl

-- a `dyn` is met as its principal, whatever its arguments stand for
dyn-read : (good : Label → Bool) (V : World) (d : Option ℕ) (ts : List Trees) (c : Trees) → is_made good bounds c ≡ true → dyn_met V d (read_with (given ts) c) ≡ dyn_met V d c
dyn-read good V d ts none m = absurd (true-false (sym m))
dyn-read good V d ts (tree (principal n t) c o) m = refl
dyn-read good V d ts (tree (auto_trait t) c o) m = refl
dyn-read good V d ts (tree (predicate k) c o) m = absurd (true-false (sym m))
dyn-read good V d ts (tree static c o) m = refl
dyn-read good V d ts (tree (param of_lifetime i) c o) m = refl
dyn-read good V d ts (tree (placeholder of_lifetime i) c o) m = refl
dyn-read good V d ts (tree (infer of_lifetime i) c o) m = refl
dyn-read good V d ts (tree (canonical of_lifetime i) c o) m = refl
dyn-read good V d ts (tree (bound of_lifetime i j) c o) m = refl
dyn-read good V d ts (tree l c o) m = absurd (true-false (sym (left (is_sort (sort_of l) of_lifetime) (is_no_tree c && is_no_tree o) (right (good l) (is_sort (sort_of l) of_lifetime && (is_no_tree c && is_no_tree o)) m))))

abbrev Closed : World → Trees → Type 0
Closed V t = list_any is_open_place (visited V None t) ≡ false

-- the parts of what is made
made-inside : (a : Bool) (x y z : Bool) → a && (x && (y && z)) ≡ true → (y ≡ true) × (z ≡ true)
made-inside a x y z m = let r = right x (y && z) (right a (x && (y && z)) m) in (left y z r, right y z r)

nobody : (V : World) (s : ℕ) → struct_is (λ x. is_home None x.home) V s ≡ false
nobody V s = none-of (structs_named V s)
  where
    none-of : (xs : List StructDecl) → list_any (λ x. false) xs ≡ false
    none-of [] = refl
    none-of (x ∷ xs) = none-of xs

struct-read : (V : World) (d : Option ℕ) (s : ℕ) (c x y z : Trees) (b : Bool) → struct_is (λ x. x.is_fundamental) V s ≡ b
    → list_any is_open_place ((if b then entered s ∷ visited V None c else struct_leaf s ∷ []) ++ visited V None y) ≡ false
    → (Closed V c → visited V d x ≡ visited V d c) → visited V d z ≡ visited V d y
    → (if struct_is (λ x. is_home d x.home) V s then local ∷ [] else if b then entered s ∷ visited V d x else struct_leaf s ∷ []) ++ visited V d z
    ≡ (if struct_is (λ x. is_home d x.home) V s then local ∷ [] else if b then entered s ∷ visited V d c else struct_leaf s ∷ []) ++ visited V d y
struct-read V d s c x y z true e n f g =
    ap (λ w. (if struct_is (λ x. is_home d x.home) V s then local ∷ [] else entered s ∷ w) ++ visited V d z) (f (any-left is_open_place (visited V None c) (visited V None y) n))
    ∙ ap (λ w. (if struct_is (λ x. is_home d x.home) V s then local ∷ [] else entered s ∷ visited V d c) ++ w) g
struct-read V d s c x y z false e n f g = ap (λ w. (if struct_is (λ x. is_home d x.home) V s then local ∷ [] else struct_leaf s ∷ []) ++ w) g

-- what a walk visits, where it meets no variable, stays whatever the variables stand for
pub visited-read : (good : Label → Bool) (V : World) (d : Option ℕ) (ts : List Trees) (t : Trees) → is_made good terms t ≡ true → Closed V t → visited V d (read_with (given ts) t) ≡ visited V d t
visited-read good V d ts none m n = refl
visited-read good V d ts (tree (ref b) c o) m n =
    let p = made-inside (good (ref b)) (not (is_leaf_label (ref b)) || is_no_tree c) (is_made good terms c) (is_made good terms o) m in
    ap (λ w. w ++ visited V d (read_with (given ts) o)) (visited-read good V d ts c p.0 (any-left is_open_place (visited V None c) (visited V None o) n))
    ∙ ap (λ w. visited V d c ++ w) (visited-read good V d ts o p.1 (any-right is_open_place (visited V None c) (visited V None o) n))
visited-read good V d ts (tree (adt s) c o) m n =
    let p = made-inside (good (adt s)) (not (is_leaf_label (adt s)) || is_no_tree c) (is_made good terms c) (is_made good terms o) m in
    let q : list_any is_open_place ((if struct_is (λ x. x.is_fundamental) V s then entered s ∷ visited V None c else struct_leaf s ∷ []) ++ visited V None o) ≡ false
    = subst (λ b. list_any is_open_place ((if b then local ∷ [] else if struct_is (λ x. x.is_fundamental) V s then entered s ∷ visited V None c else struct_leaf s ∷ []) ++ visited V None o) ≡ false) (nobody V s) n in
    struct-read V d s c (read_with (given ts) c) o (read_with (given ts) o) (struct_is (λ x. x.is_fundamental) V s) refl q
    (λ e. visited-read good V d ts c p.0 e)
    (visited-read good V d ts o p.1 (any-right is_open_place (if struct_is (λ x. x.is_fundamental) V s then entered s ∷ visited V None c else struct_leaf s ∷ []) (visited V None o) q))
visited-read good V d ts (tree dynamic c o) m n =
    ap (λ w. w ++ visited V d (read_with (given ts) o)) (dyn-read good V d ts c (left (is_made good bounds c) (is_made good terms o) m))
    ∙ ap (λ w. dyn_met V d c ++ w) (visited-read good V d ts o (right (is_made good bounds c) (is_made good terms o) m) (any-right is_open_place (dyn_met V None c) (visited V None o) n))
visited-read good V d ts (tree (principal k i) c o) m n = absurd (true-false (sym m))
visited-read good V d ts (tree (auto_trait i) c o) m n = absurd (true-false (sym m))
visited-read good V d ts (tree (predicate i) c o) m n = absurd (true-false (sym m))
visited-read good V d ts (tree (param of_type i) c o) m n = absurd (true-false n)
visited-read good V d ts (tree (placeholder of_type i) c o) m n = absurd (true-false n)
visited-read good V d ts (tree (infer of_type i) c o) m n = absurd (true-false n)
visited-read good V d ts (tree (canonical of_type i) c o) m n = absurd (true-false n)
visited-read good V d ts (tree (bound of_type i j) c o) m n = absurd (true-false n)
visited-read good V d ts (tree (param of_const i) c o) m n = visited-read good V d ts o (made-inside (good (param of_const i)) (not (is_leaf_label (param of_const i)) || is_no_tree c) (is_made good terms c) (is_made good terms o) m).1 n
visited-read good V d ts (tree (placeholder of_const i) c o) m n = visited-read good V d ts o (made-inside (good (placeholder of_const i)) (not (is_leaf_label (placeholder of_const i)) || is_no_tree c) (is_made good terms c) (is_made good terms o) m).1 n
visited-read good V d ts (tree (infer of_const i) c o) m n = visited-read good V d ts o (made-inside (good (infer of_const i)) (not (is_leaf_label (infer of_const i)) || is_no_tree c) (is_made good terms c) (is_made good terms o) m).1 n
visited-read good V d ts (tree (canonical of_const i) c o) m n =
    const-unseen V d (of_sort of_const (term_at ts i)) (read_with (given ts) o) (is-const (term_at ts i)) ∙ visited-read good V d ts o (made-inside (good (canonical of_const i)) (not (is_leaf_label (canonical of_const i)) || is_no_tree c) (is_made good terms c) (is_made good terms o) m).1 n
visited-read good V d ts (tree (bound of_const i j) c o) m n = visited-read good V d ts o (made-inside (good (bound of_const i j)) (not (is_leaf_label (bound of_const i j)) || is_no_tree c) (is_made good terms c) (is_made good terms o) m).1 n
visited-read good V d ts (tree (param of_lifetime i) c o) m n = visited-read good V d ts o (made-inside (good (param of_lifetime i)) (not (is_leaf_label (param of_lifetime i)) || is_no_tree c) (is_made good terms c) (is_made good terms o) m).1 n
visited-read good V d ts (tree (placeholder of_lifetime i) c o) m n = visited-read good V d ts o (made-inside (good (placeholder of_lifetime i)) (not (is_leaf_label (placeholder of_lifetime i)) || is_no_tree c) (is_made good terms c) (is_made good terms o) m).1 n
visited-read good V d ts (tree (infer of_lifetime i) c o) m n = visited-read good V d ts o (made-inside (good (infer of_lifetime i)) (not (is_leaf_label (infer of_lifetime i)) || is_no_tree c) (is_made good terms c) (is_made good terms o) m).1 n
visited-read good V d ts (tree (canonical of_lifetime i) c o) m n = visited-read good V d ts o (made-inside (good (canonical of_lifetime i)) (not (is_leaf_label (canonical of_lifetime i)) || is_no_tree c) (is_made good terms c) (is_made good terms o) m).1 n
visited-read good V d ts (tree (bound of_lifetime i j) c o) m n = visited-read good V d ts o (made-inside (good (bound of_lifetime i j)) (not (is_leaf_label (bound of_lifetime i j)) || is_no_tree c) (is_made good terms c) (is_made good terms o) m).1 n
visited-read good V d ts (tree static c o) m n = visited-read good V d ts o (made-inside (good static) (not (is_leaf_label static) || is_no_tree c) (is_made good terms c) (is_made good terms o) m).1 n
visited-read good V d ts (tree (value k) c o) m n = visited-read good V d ts o (made-inside (good (value k)) (not (is_leaf_label (value k)) || is_no_tree c) (is_made good terms c) (is_made good terms o) m).1 n
visited-read good V d ts (tree l c o) m n = ap (λ w. other_leaf ∷ w) (visited-read good V d ts o (made-inside (good l) (not (is_leaf_label l) || is_no_tree c) (is_made good terms c) (is_made good terms o) m).1 n)

known-as : (V : World) (c : ℕ) (r s : Reference) → r.trait ≡ s.trait → ((d : Option ℕ) → visited V d r.args ≡ visited V d s.args) → is_known_in V c r ≡ is_known_in V c s
known-as V c r s t e =
    ap (λ i. trait_is (λ _. true) V i && (list_all (item_in V) (until_decisive (visited V None r.args)) && (trait_is (λ x. (x.home == c) || x.is_fundamental) V i || ends_local (until_decisive (visited V (Some c) r.args))))) t
    ∙ ap (λ ms. trait_is (λ _. true) V s.trait && (list_all (item_in V) (until_decisive ms) && (trait_is (λ x. (x.home == c) || x.is_fundamental) V s.trait || ends_local (until_decisive (visited V (Some c) r.args))))) (e None)
    ∙ ap (λ ms. trait_is (λ _. true) V s.trait && (list_all (item_in V) (until_decisive (visited V None s.args)) && (trait_is (λ x. (x.home == c) || x.is_fundamental) V s.trait || ends_local (until_decisive ms)))) (e (Some c))

-- all instances of a knowable reference are known
pub instances-are-known : (good : Label → Bool) (V : World) (c : ℕ) (r : Reference) → is_made good terms r.args ≡ true → is_knowable V c r ≡ true
    → (ts : List Trees) → is_known_in V c (read_reference ts r) ≡ true
instances-are-known good V c r m k ts =
    known-as V c (read_reference ts r) r refl (λ d. visited-read good V d ts r.args m (not-false (list_any is_open_place (visited V None r.args)) (right (is_known_in V c r) (not (list_any is_open_place (visited V None r.args))) k))) ∙ left (is_known_in V c r) (not (list_any is_open_place (visited V None r.args))) k

-- Arranged auto traits, and functions of terms.
use Rattle.std.proofs.Common.{◌≡◌, ℕ, zero, suc, Bool, true, false, List, [], ◌∷◌, refl, ap, sym, ◌∙◌, ◌||◌, ◌==◌, if◌then◌else◌, subst, length}
use Rattle.type_terms.specs.Promised.Label.{Label, Sort, of_type, of_const, of_lifetime, never, dynamic, auto_trait, bound, param, inside}
use Rattle.type_terms.specs.Codes.{same}
use Rattle.type_terms.specs.Promised.Trees.{Trees, none, tree, ◌+++◌, leaf, nth, shift, instantiate, some_node}
use Rattle.type_terms.specs.Trees.{first_of, standing_at, arguments_from, arguments, is_no_tree, is_a, fits, Single}
use Rattle.type_terms.specs.Promised.Worlds.{Reference}
use Rattle.type_terms.specs.Promised.Rules.{same_reference}
use Rattle.type_terms.specs.Promised.Supers.{no_param, dyns_of_bounds}
use Rattle.type_terms.specs.Promised.Arranging.{Arrangement, own_auto, autos_in, autos_left, with_autos, children_in_order, arranged, arranged_reference}
use Rattle.type_terms.specs.Arranging.{turned_back}
use Rattle.type_terms.proofs.Walking.{left, right}
use Rattle.type_terms.proofs.TreeLaws.{single-nth, single-shift}
use Rattle.type_terms.proofs.Matching.{same-sound}
use Rattle.type_terms.proofs.Applies.{same-complete}
use Rattle.type_terms.proofs.RenumberedTrees.{and-same, bool-same}
use Rattle.type_terms.proofs.TermBasics.{node}

pub reference-at : (t : ℕ) {a b : Trees} → a ≡ b → (let x : Reference = record { trait = t; args = a } in x) ≡ record { trait = t; args = b }
reference-at t p = cc

-- Lists of bounds
pub fill-own : (t : Trees) → with_autos (autos_in t) t ≡ t
fill-own none = refl
fill-own (tree (auto_trait n) c o) = node refl refl (fill-own o)
fill-own (tree l c o) = node refl refl (fill-own o)

pub autos-filled : (ns : List ℕ) (t : Trees) → length ns ≡ length (autos_in t) → autos_in (with_autos ns t) ≡ ns
autos-filled [] none h = refl
autos-filled (n ∷ ns) none h = cc
autos-filled [] (tree (auto_trait t) c o) h = cc
autos-filled (n ∷ ns) (tree (auto_trait t) c o) h = ap (λ ms. n ∷ ms) (autos-filled ns o (injective-suc (length ns) (length (autos_in o)) h))
  where
    injective-suc : (m k : ℕ) → suc m ≡ suc k → m ≡ k
    injective-suc m k e = cc
autos-filled ns (tree l c o) h = autos-filled ns o h

pub fill-fill : (ns ms : List ℕ) (t : Trees) → length ns ≡ length (autos_in t) → with_autos ns (with_autos ms t) ≡ with_autos ns t
fill-fill ns ms none h = refl
fill-fill [] ms (tree (auto_trait t) c o) h = cc
fill-fill (n ∷ ns) [] (tree (auto_trait t) c o) h = node refl refl (fill-fill ns [] o (less-one (length ns) (length (autos_in o)) h))
  where
    less-one : (m k : ℕ) → suc m ≡ suc k → m ≡ k
    less-one m k e = cc
fill-fill (n ∷ ns) (m ∷ ms) (tree (auto_trait t) c o) h = node refl refl (fill-fill ns ms o (less-one (length ns) (length (autos_in o)) h))
  where
    less-one : (m k : ℕ) → suc m ≡ suc k → m ≡ k
    less-one m k e = cc
fill-fill ns ms (tree l c o) h = node refl refl (fill-fill ns ms o h)

-- tests and counts that the names of auto traits don't touch
some-filled : (p : Label → Bool) → ((m n : ℕ) → p (auto_trait m) ≡ p (auto_trait n)) → (ns : List ℕ) (t : Trees) → some_node p (with_autos ns t) ≡ some_node p t
some-filled p h ns none = refl
some-filled p h [] (tree (auto_trait t) c o) = ap (λ z. p (auto_trait t) || some_node p c || z) (some-filled p h [] o)
some-filled p h (n ∷ ns) (tree (auto_trait t) c o) = two (h n t) (some-filled p h ns o)
  where
    two : {a a' b b' : Bool} → a ≡ a' → b ≡ b' → a || some_node p c || b ≡ a' || some_node p c || b'
    two e g = cc
some-filled p h ns (tree l c o) = ap (λ z. p l || some_node p c || z) (some-filled p h ns o)

no-param-filled : (ns : List ℕ) (t : Trees) → no_param (with_autos ns t) ≡ no_param t
no-param-filled ns none = refl
no-param-filled [] (tree (auto_trait t) c o) = no-param-filled [] o
no-param-filled (n ∷ ns) (tree (auto_trait t) c o) = no-param-filled ns o
no-param-filled ns (tree (param s i) c o) = refl
no-param-filled ns (tree l c o) = no-param-filled ns o

dyns-filled : (ns : List ℕ) (t : Trees) → dyns_of_bounds (with_autos ns t) ≡ dyns_of_bounds t
dyns-filled ns none = refl
dyns-filled [] (tree (auto_trait t) c o) = and-same refl (dyns-filled [] o)
dyns-filled (n ∷ ns) (tree (auto_trait t) c o) = and-same refl (dyns-filled ns o)
dyns-filled ns (tree dynamic c o) = and-same refl (and-same refl (dyns-filled ns o))
dyns-filled ns (tree l c o) = and-same refl (dyns-filled ns o)

fits-filled : (B : Trees) (ns : List ℕ) (t : Trees) → fits B (with_autos ns t) ≡ fits B t
fits-filled B ns none = refl
fits-filled B [] (tree (auto_trait t) c o) = and-same refl (fits-filled B [] o)
fits-filled B (n ∷ ns) (tree (auto_trait t) c o) = and-same refl (fits-filled B ns o)
fits-filled B ns (tree (param s i) c o) = and-same refl (and-same refl (fits-filled B ns o))
fits-filled B ns (tree l c o) = and-same refl (fits-filled B ns o)

-- what is found at the place of a parameter
standing-by : (i : ℕ) (ns : List ℕ) (p t : Trees) → standing_at i (with_autos ns p) t ≡ standing_at i p t
standing-by i ns none t = refl
standing-by i ns (tree (param s j) pc po) none = refl
standing-by i [] (tree (auto_trait n) pc po) none = refl
standing-by i (m ∷ ns) (tree (auto_trait n) pc po) none = refl
standing-by i ns (tree l pc po) none = refl
standing-by i ns (tree (param s j) pc po) (tree m c o) = ap (λ z. if i == j then tree m c none else z) (standing-by i ns po o)
standing-by i [] (tree (auto_trait n) pc po) (tree m c o) = ap (λ z. first_of (standing_at i pc c) z) (standing-by i [] po o)
standing-by i (k ∷ ns) (tree (auto_trait n) pc po) (tree m c o) = ap (λ z. first_of (standing_at i pc c) z) (standing-by i ns po o)
standing-by i ns (tree l pc po) (tree m c o) = ap (λ z. first_of (standing_at i pc c) z) (standing-by i ns po o)

standing-in : (i : ℕ) (ns : List ℕ) (p t : Trees) → no_param p ≡ true → standing_at i p (with_autos ns t) ≡ standing_at i p t
standing-in i ns none t h = refl
standing-in i ns (tree (param s j) pc po) t h = cc
standing-in i ns (tree l pc po) none h = refl
standing-in i ns (tree l pc po) (tree m c o) h = ap (λ z. first_of (standing_at i pc c) z) (standing-in i (autos_left m ns) po o h)

-- shifts and instances
autos-shift : (d k : ℕ) (t : Trees) → autos_in (shift d k t) ≡ autos_in t
autos-shift d k none = refl
autos-shift d k (tree (auto_trait n) c o) = ap (λ ns. n ∷ ns) (autos-shift d k o)
autos-shift d k (tree (bound s i v) c o) = autos-shift d k o
autos-shift d k (tree l c o) = autos-shift d k o

fill-shift : (d k : ℕ) (ns : List ℕ) (t : Trees) → with_autos ns (shift d k t) ≡ shift d k (with_autos ns t)
fill-shift d k ns none = refl
fill-shift d k [] (tree (auto_trait n) c o) = node refl refl (fill-shift d k [] o)
fill-shift d k (m ∷ ns) (tree (auto_trait n) c o) = node refl refl (fill-shift d k ns o)
fill-shift d k ns (tree (bound s i v) c o) = node refl refl (fill-shift d k ns o)
fill-shift d k ns (tree l c o) = node refl refl (fill-shift d k ns o)

autos-instance : (d : ℕ) (B t : Trees) → no_param t ≡ true → autos_in (instantiate d B t) ≡ autos_in t
autos-instance d B none h = refl
autos-instance d B (tree (param s i) c o) h = cc
autos-instance d B (tree (auto_trait n) c o) h = ap (λ ns. n ∷ ns) (autos-instance d B o h)
autos-instance d B (tree l c o) h = autos-instance d B o h

fill-instance : (d : ℕ) (B : Trees) (ns : List ℕ) (t : Trees) → no_param t ≡ true → with_autos ns (instantiate d B t) ≡ instantiate d B (with_autos ns t)
fill-instance d B ns none h = refl
fill-instance d B ns (tree (param s i) c o) h = cc
fill-instance d B [] (tree (auto_trait n) c o) h = node refl refl (fill-instance d B [] o h)
fill-instance d B (m ∷ ns) (tree (auto_trait n) c o) h = node refl refl (fill-instance d B ns o h)
fill-instance d B ns (tree l c o) h = node refl refl (fill-instance d B ns o h)

module _ (a : Arrangement) where
  abbrev A : Trees → Trees
  A t = arranged a t

  pub autos-stay : (t : Trees) → autos_in (A t) ≡ autos_in t
  autos-stay none = refl
  autos-stay (tree l c o) = ap (own_auto l) (autos-stay o)

  no-param-stays : (t : Trees) → no_param (A t) ≡ no_param t
  no-param-stays none = refl
  no-param-stays (tree (param s i) c o) = refl
  no-param-stays (tree l c o) = no-param-stays o

  pub over-fill : (ns : List ℕ) (t : Trees) → A (with_autos ns t) ≡ with_autos ns (A t)
  over-fill ns none = refl
  over-fill [] (tree (auto_trait n) c o) = node refl refl (over-fill [] o)
  over-fill (m ∷ ns) (tree (auto_trait n) c o) = node refl refl (over-fill ns o)
  over-fill ns (tree dynamic c o) = node refl refl (over-fill ns o)
  over-fill ns (tree l c o) = node refl refl (over-fill ns o)

  -- as many as there were
  pub as-many : (c : Trees) → length (a.to (autos_in c)) ≡ length (autos_in (A c))
  as-many c = a.as_long (autos_in c) ∙ ap length (sym (autos-stay c))

  pub autos-now : (c : Trees) → autos_in (with_autos (a.to (autos_in c)) (A c)) ≡ a.to (autos_in c)
  autos-now c = autos-filled (a.to (autos_in c)) (A c) (as-many c)

  pub dyns-stay : (t : Trees) → dyns_of_bounds (A t) ≡ dyns_of_bounds t
  dyns-stay none = refl
  dyns-stay (tree dynamic c o) =
      and-same (no-param-filled (a.to (autos_in c)) (A c) ∙ no-param-stays c) (and-same (dyns-filled (a.to (autos_in c)) (A c) ∙ dyns-stay c) (dyns-stay o))
  dyns-stay (tree l c o) = and-same (dyns-stay c) (dyns-stay o)

  pub over-append : (x y : Trees) → A (x +++ y) ≡ A x +++ A y
  over-append none y = refl
  over-append (tree l c o) y = ap (λ z. tree l (children_in_order a l c (A c)) z) (over-append o y)

  pub over-shift : (d k : ℕ) (t : Trees) → A (shift d k t) ≡ shift d k (A t)
  over-shift d k none = refl
  over-shift d k (tree dynamic c o) =
      node refl
      (ap (λ ns. with_autos (a.to ns) (A (shift d k c))) (autos-shift d k c)
      ∙ ap (with_autos (a.to (autos_in c))) (over-shift d k c)
      ∙ fill-shift d k (a.to (autos_in c)) (A c))
      (over-shift d k o)
  over-shift d k (tree (bound s i v) c o) = node refl (over-shift d k c) (over-shift d k o)
  over-shift d k (tree l c o) = node refl (over-shift (inside l d) k c) (over-shift d k o)

  pub over-nth : (t : Trees) (i : ℕ) → A (nth t i) ≡ nth (A t) i
  over-nth none i = refl
  over-nth (tree l c o) zero = refl
  over-nth (tree l c o) (suc i) = over-nth o i

  pub over-instantiate : (d : ℕ) (B t : Trees) → dyns_of_bounds t ≡ true → A (instantiate d B t) ≡ instantiate d (A B) (A t)
  over-instantiate d B none h = refl
  over-instantiate d B (tree (param s i) c o) h =
      over-append (shift zero d (nth B i)) (instantiate d B o)
      ∙ ap (λ x. x +++ A (instantiate d B o)) (over-shift zero d (nth B i) ∙ ap (shift zero d) (over-nth B i))
      ∙ ap (λ x. shift zero d (nth (A B) i) +++ x) (over-instantiate d B o (right (dyns_of_bounds c) _ h))
  over-instantiate d B (tree dynamic c o) h =
      let bare = left (no_param c) _ h in
      node refl
      (ap (λ ns. with_autos (a.to ns) (A (instantiate d B c))) (autos-instance d B c bare)
      ∙ ap (with_autos (a.to (autos_in c))) (over-instantiate d B c (left (dyns_of_bounds c) _ (right (no_param c) _ h)))
      ∙ fill-instance d (A B) (a.to (autos_in c)) (A c) (no-param-stays c ∙ bare))
      (over-instantiate d B o (right (dyns_of_bounds c) _ (right (no_param c) _ h)))
  over-instantiate d B (tree l c o) h = node refl (over-instantiate (inside l d) B c (left (dyns_of_bounds c) _ h)) (over-instantiate d B o (right (dyns_of_bounds c) _ h))

  over-first : (x y : Trees) → A (first_of x y) ≡ first_of (A x) (A y)
  over-first none y = refl
  over-first (tree l c o) y = refl

  first-same : {x y z w : Trees} → x ≡ y → z ≡ w → first_of x z ≡ first_of y w
  first-same p q = cc

  append-same : {x y z w : Trees} → x ≡ y → z ≡ w → x +++ z ≡ y +++ w
  append-same p q = cc

  at-param : (i : ℕ) (s : Sort) (j : ℕ) (pc po x y : Trees) → Single x → A (standing_at i po y) ≡ standing_at i (A po) (A y)
      → A (standing_at i (tree (param s j) pc po) (x +++ y)) ≡ standing_at i (tree (param s j) (A pc) (A po)) (A (x +++ y))
  at-param i s j pc po none y e h = absurd e
  at-param i s j pc po (tree m c o) y e h =
      subst (λ z. A (standing_at i (tree (param s j) pc po) (tree m c z +++ y)) ≡ standing_at i (tree (param s j) (A pc) (A po)) (A (tree m c z +++ y))) (sym e) (by (i == j))
    where
      by : (b : Bool) → A (if b then tree m c none else standing_at i po y) ≡ (if b then tree m (children_in_order a m c (A c)) none else standing_at i (A po) (A y))
      by true = refl
      by false = h

  over-standing : (i d : ℕ) (B h : Trees) → dyns_of_bounds h ≡ true → A (standing_at i h (instantiate d B h)) ≡ standing_at i (A h) (A (instantiate d B h))
  over-standing i d B none w = refl
  over-standing i d B (tree (param s j) pc po) w =
      at-param i s j pc po (shift zero d (nth B j)) (instantiate d B po) (single-shift zero d (nth B j) (single-nth B j)) (over-standing i d B po (right (dyns_of_bounds pc) _ w))
  over-standing i d B (tree dynamic pc po) w =
      let bare = left (no_param pc) _ w in
      over-first (standing_at i pc (instantiate d B pc)) (standing_at i po (instantiate d B po))
      ∙ first-same
      (over-standing i d B pc (left (dyns_of_bounds pc) _ (right (no_param pc) _ w))
      ∙ sym (standing-by i (a.to (autos_in pc)) (A pc) (with_autos (a.to (autos_in (instantiate d B pc))) (A (instantiate d B pc)))
      ∙ standing-in i (a.to (autos_in (instantiate d B pc))) (A pc) (A (instantiate d B pc)) (no-param-stays pc ∙ bare)))
      (over-standing i d B po (right (dyns_of_bounds pc) _ (right (no_param pc) _ w)))
  over-standing i d B (tree l pc po) w =
      over-first (standing_at i pc (instantiate (inside l d) B pc)) (standing_at i po (instantiate d B po))
      ∙ first-same (over-standing i (inside l d) B pc (left (dyns_of_bounds pc) _ w)) (over-standing i d B po (right (dyns_of_bounds pc) _ w))

  over-arguments-from : (k n : ℕ) (B h : Trees) → dyns_of_bounds h ≡ true → A (arguments_from k n h (instantiate zero B h)) ≡ arguments_from k n (A h) (A (instantiate zero B h))
  over-arguments-from k zero B h w = refl
  over-arguments-from k (suc n) B h w =
      over-append (first_of (standing_at k h (instantiate zero B h)) (leaf never)) (arguments_from (suc k) n h (instantiate zero B h))
      ∙ append-same (over-first (standing_at k h (instantiate zero B h)) (leaf never) ∙ ap (λ z. first_of z (leaf never)) (over-standing k zero B h w))
      (over-arguments-from (suc k) n B h w)

  -- the arguments of an instance, read off it
  pub over-arguments : (n : ℕ) (B h : Trees) → dyns_of_bounds h ≡ true → A (arguments n h (instantiate zero B h)) ≡ arguments n (A h) (A (instantiate zero B h))
  over-arguments n B h w = over-arguments-from 0 n B h w

  over-no-tree : (t : Trees) → is_no_tree (A t) ≡ is_no_tree t
  over-no-tree none = refl
  over-no-tree (tree l c o) = refl

  no-children : (l : Label) (c : Trees) → is_no_tree (children_in_order a l c (A c)) ≡ is_no_tree c
  no-children dynamic none = refl
  no-children dynamic (tree l c o) = refl
  no-children l c = over-no-tree c

  over-is-a : (s : Sort) (t : Trees) → is_a s (A t) ≡ is_a s t
  over-is-a s none = refl
  over-is-a of_lifetime (tree l c o) = and-same refl (and-same (no-children l c) (over-no-tree o))
  over-is-a of_type (tree l c o) = and-same refl (over-no-tree o)
  over-is-a of_const (tree l c o) = and-same refl (over-no-tree o)

  pub over-fits : (B t : Trees) → fits (A B) (A t) ≡ fits B t
  over-fits B none = refl
  over-fits B (tree (param s i) c o) = and-same (ap (is_a s) (sym (over-nth B i)) ∙ over-is-a s (nth B i)) (and-same (over-no-tree c) (over-fits B o))
  over-fits B (tree dynamic c o) = and-same (fits-filled (A B) (a.to (autos_in c)) (A c) ∙ over-fits B c) (over-fits B o)
  over-fits B (tree l c o) = and-same (over-fits B c) (over-fits B o)

  -- a test of labels that does not read the names of auto traits
  pub over-some : (p : Label → Bool) → ((m n : ℕ) → p (auto_trait m) ≡ p (auto_trait n)) → (t : Trees) → some_node p (A t) ≡ some_node p t
  over-some p h none = refl
  over-some p h (tree dynamic c o) = three refl (some-filled p h (a.to (autos_in c)) (A c) ∙ over-some p h c) (over-some p h o)
    where
      three : {x x' y y' z z' : Bool} → x ≡ x' → y ≡ y' → z ≡ z' → x || y || z ≡ x' || y' || z'
      three e f g = cc
  over-some p h (tree l c o) = three refl (over-some p h c) (over-some p h o)
    where
      three : {x x' y y' z z' : Bool} → x ≡ x' → y ≡ y' → z ≡ z' → x || y || z ≡ x' || y' || z'
      three e f g = cc

-- There and back
pub back-to : (a : Arrangement) (t : Trees) → arranged (turned_back a) (arranged a t) ≡ t
back-to a none = refl
back-to a (tree dynamic c o) =
    node refl
    (ap (λ ns. with_autos (a.back ns) (arranged (turned_back a) (with_autos xs (arranged a c)))) (autos-now a c)
    ∙ ap (λ ns. with_autos ns (arranged (turned_back a) (with_autos xs (arranged a c)))) (a.back_to (autos_in c))
    ∙ ap (with_autos (autos_in c)) (over-fill (turned_back a) xs (arranged a c) ∙ ap (with_autos xs) (back-to a c))
    ∙ fill-fill (autos_in c) xs c refl
    ∙ fill-own c)
    (back-to a o)
  where
    xs : List ℕ
    xs = a.to (autos_in c)
back-to a (tree l c o) = node refl (back-to a c) (back-to a o)

pub reference-back : (a : Arrangement) (r : Reference) → arranged_reference (turned_back a) (arranged_reference a r) ≡ r
reference-back a r = reference-at r.trait (back-to a r.args)

pub over-same : (a : Arrangement) (x y : Trees) → same (arranged a x) (arranged a y) ≡ same x y
over-same a x y =
    bool-same (same (arranged a x) (arranged a y)) (same x y)
    (λ e. same-complete x y (sym (back-to a x) ∙ ap (arranged (turned_back a)) (same-sound (arranged a x) (arranged a y) e) ∙ back-to a y))
    (λ e. same-complete (arranged a x) (arranged a y) (ap (arranged a) (same-sound x y e)))

pub over-same-reference : (a : Arrangement) (r s : Reference) → same_reference (arranged_reference a r) (arranged_reference a s) ≡ same_reference r s
over-same-reference a r s = and-same refl (over-same a r.args s.args)

-- Renumbered structs and traits: functions of terms commute with the renumbering.
use Rattle.std.proofs.Common.{◌≡◌, ℕ, zero, suc, Bool, true, false, List, [], ◌∷◌, refl, ap, sym, ◌∙◌, ◌&&◌, ◌||◌, ◌==◌, not, if◌then◌else◌, subst, map}
use Rattle.type_terms.specs.Promised.Label.{Label, PredicateKind, Sort, of_type, of_const, of_lifetime, never, param, bound, adt, principal, auto_trait, fn_ptr, of_trait, predicate, inside, shift_label}
use Rattle.type_terms.specs.Codes.{same}
use Rattle.type_terms.specs.Promised.Trees.{Trees, none, tree, ◌+++◌, leaf, nth, shift, instantiate, is_sort, sort_of, some_node}
use Rattle.type_terms.specs.Trees.{first_of, standing_at, arguments_from, arguments, is_no_tree, is_a, fits}
use Rattle.type_terms.specs.Promised.Worlds.{Reference, ImplDecl, with_args, all_with_args}
use Rattle.type_terms.specs.Promised.Rules.{same_reference}
use Rattle.type_terms.specs.Promised.Answers.{is_open, is_closed, CommonInstance}
use Rattle.type_terms.specs.Promised.Renumbering.{Permutation, Renumbering, renumbered_kind, renumbered_label, renumbered, renumbered_reference, renumbered_impl}
use Rattle.type_terms.proofs.Members.{same-number, self-number}
use Rattle.type_terms.proofs.Matching.{same-sound}
use Rattle.type_terms.proofs.Fitting.{fits-sound}
use Rattle.type_terms.proofs.Applies.{same-complete, fits-complete}
use Rattle.type_terms.proofs.TermBasics.{node}

-- The way back
abbrev pub turned : Permutation → Permutation
turned p = record { to = p.back; back = p.to; back_to = p.to_back; to_back = p.back_to }

abbrev pub inverse : Renumbering → Renumbering
inverse ρ = record { crates = turned ρ.crates; structs = turned ρ.structs; traits = turned ρ.traits; impls = turned ρ.impls }

pub and-same : {a a' b b' : Bool} → a ≡ a' → b ≡ b' → a && b ≡ a' && b'
and-same p q = cc

pub reference-same : (t u : ℕ) (a b : Trees) → t ≡ u → a ≡ b → (let x : Reference = record { trait = t; args = a } in x) ≡ record { trait = u; args = b }
reference-same t u a b p q = cc

-- two tests are one where each follows from the other
pub bool-same : (a b : Bool) → (a ≡ true → b ≡ true) → (b ≡ true → a ≡ true) → a ≡ b
bool-same true b f g = sym (f refl)
bool-same false true f g = g refl
bool-same false false f g = refl

pub injective : (p : Permutation) (a b : ℕ) → p.to a ≡ p.to b → a ≡ b
injective p a b e = sym (p.back_to a) ∙ ap p.back e ∙ p.back_to b

pub same-numbers-to : (p : Permutation) (a b : ℕ) → (p.to a == p.to b) ≡ (a == b)
same-numbers-to p a b =
    bool-same (p.to a == p.to b) (a == b) (λ e. subst (λ n. (a == n) ≡ true) (injective p a b (same-number (p.to a) (p.to b) e)) (self-number a))
    (λ e. subst (λ n. (p.to a == p.to n) ≡ true) (same-number a b e) (self-number (p.to a)))

pub label-back : (ρ : Renumbering) (l : Label) → renumbered_label (inverse ρ) (renumbered_label ρ l) ≡ l
label-back ρ (adt s) = ap adt (ρ.structs.back_to s)
label-back ρ (principal n t) = ap (principal n) (ρ.traits.back_to t)
label-back ρ (auto_trait t) = ap auto_trait (ρ.traits.back_to t)
label-back ρ (predicate k) = ap predicate (kind-back k)
  where
    kind-back : (k : PredicateKind) → renumbered_kind (inverse ρ) (renumbered_kind ρ k) ≡ k
    kind-back (of_trait t) = ap of_trait (ρ.traits.back_to t)
    kind-back k = refl
label-back ρ l = refl

pub back : (ρ : Renumbering) (t : Trees) → renumbered (inverse ρ) (renumbered ρ t) ≡ t
back ρ none = refl
back ρ (tree l c o) = node (label-back ρ l) (back ρ c) (back ρ o)

pub reference-back : (ρ : Renumbering) (r : Reference) → renumbered_reference (inverse ρ) (renumbered_reference ρ r) ≡ r
reference-back ρ r = reference-same _ _ _ _ (ρ.traits.back_to r.trait) (back ρ r.args)

pub map-back : {A : Type 0} (f g : A → A) → ((x : A) → f (g x) ≡ x) → (xs : List A) → map f (map g xs) ≡ xs
map-back f g h [] = refl
map-back {A = A} f g h (x ∷ xs) = join (f (g x)) x (map f (map g xs)) xs (h x) (map-back f g h xs)
  where
    join : (a b : A) (c d : List A) → a ≡ b → c ≡ d → a ∷ c ≡ b ∷ d
    join a b c d p q = cc

pub impl-back : (ρ : Renumbering) (i : ImplDecl) → renumbered_impl (inverse ρ) (renumbered_impl ρ i) ≡ i
impl-back ρ i =
    join _ _ _ _ i.params _ _ _ _ (ρ.impls.back_to i.name) (ρ.crates.back_to i.home) (reference-back ρ i.header)
    (map-back (renumbered_reference (inverse ρ)) (renumbered_reference ρ) (reference-back ρ) i.clauses)
  where
    join : (n n' h h' p : ℕ) (r r' : Reference) (ks ks' : List Reference) → n ≡ n' → h ≡ h' → r ≡ r' → ks ≡ ks'
        → (let x : ImplDecl = record { name = n; home = h; params = p; header = r; clauses = ks } in x) ≡ record { name = n'; home = h'; params = p; header = r'; clauses = ks' }
    join n n' h h' p r r' ks ks' e1 e2 e3 e4 = cc

-- All that is done to trees
label-shift : (ρ : Renumbering) (d a : ℕ) (l : Label) → renumbered_label ρ (shift_label d a l) ≡ shift_label d a (renumbered_label ρ l)
label-shift ρ d a (bound s k v) = refl
label-shift ρ d a l = refl

pub label-inside : (ρ : Renumbering) (l : Label) (d : ℕ) → inside (renumbered_label ρ l) d ≡ inside l d
label-inside ρ (fn_ptr n) d = refl
label-inside ρ l d = refl

pub label-sort : (ρ : Renumbering) (l : Label) → sort_of (renumbered_label ρ l) ≡ sort_of l
label-sort ρ (adt s) = refl
label-sort ρ l = refl

module _ (ρ : Renumbering) where
  abbrev R : Trees → Trees
  R t = renumbered ρ t

  pub over-append : (x y : Trees) → R (x +++ y) ≡ R x +++ R y
  over-append none y = refl
  over-append (tree l c o) y = ap (λ z. tree (renumbered_label ρ l) (R c) z) (over-append o y)

  pub over-shift : (d a : ℕ) (t : Trees) → R (shift d a t) ≡ shift d a (R t)
  over-shift d a none = refl
  over-shift d a (tree l c o) =
      node (label-shift ρ d a l) (over-shift (inside l d) a c ∙ ap (λ e. shift e a (R c)) (sym (label-inside ρ l d))) (over-shift d a o)

  pub over-nth : (t : Trees) (i : ℕ) → R (nth t i) ≡ nth (R t) i
  over-nth none i = refl
  over-nth (tree l c o) zero = refl
  over-nth (tree l c o) (suc i) = over-nth o i

  pub over-instantiate : (d : ℕ) (A t : Trees) → R (instantiate d A t) ≡ instantiate d (R A) (R t)
  over-instantiate d A none = refl
  over-instantiate d A (tree (param s i) c o) =
      over-append (shift zero d (nth A i)) (instantiate d A o)
      ∙ ap (λ z. z +++ R (instantiate d A o)) (over-shift zero d (nth A i) ∙ ap (shift zero d) (over-nth A i))
      ∙ ap (λ z. shift zero d (nth (R A) i) +++ z) (over-instantiate d A o)
  over-instantiate d A (tree l c o) = node refl (over-instantiate (inside l d) A c) (over-instantiate d A o)

  over-first : (x y : Trees) → R (first_of x y) ≡ first_of (R x) (R y)
  over-first none y = refl
  over-first (tree l c o) y = refl

  over-standing : (i : ℕ) (p t : Trees) → R (standing_at i p t) ≡ standing_at i (R p) (R t)
  over-standing i none t = refl
  over-standing i (tree l c o) none = refl
  over-standing i (tree (param s j) pc po) (tree m c o) = by (i == j) (over-standing i po o)
    where
      by : (b : Bool) → R (standing_at i po o) ≡ standing_at i (R po) (R o)
          → R (if b then tree m c none else standing_at i po o) ≡ (if b then tree (renumbered_label ρ m) (R c) none else standing_at i (R po) (R o))
      by true e = refl
      by false e = e
  over-standing i (tree l pc po) (tree m c o) =
      over-first (standing_at i pc c) (standing_at i po o) ∙ two (over-standing i pc c) (over-standing i po o)
    where
      two : {a b c d : Trees} → a ≡ b → c ≡ d → first_of a c ≡ first_of b d
      two p q = cc

  over-arguments-from : (k n : ℕ) (p t : Trees) → R (arguments_from k n p t) ≡ arguments_from k n (R p) (R t)
  over-arguments-from k zero p t = refl
  over-arguments-from k (suc n) p t =
      over-append (first_of (standing_at k p t) (leaf never)) (arguments_from (suc k) n p t)
      ∙ two (over-first (standing_at k p t) (leaf never) ∙ ap (λ z. first_of z (leaf never)) (over-standing k p t)) (over-arguments-from (suc k) n p t)
    where
      two : {a b c d : Trees} → a ≡ b → c ≡ d → a +++ c ≡ b +++ d
      two p q = cc

  pub over-arguments : (n : ℕ) (p t : Trees) → R (arguments n p t) ≡ arguments n (R p) (R t)
  over-arguments n p t = over-arguments-from 0 n p t

  over-no-tree : (t : Trees) → is_no_tree (R t) ≡ is_no_tree t
  over-no-tree none = refl
  over-no-tree (tree l c o) = refl

  over-is-a : (s : Sort) (t : Trees) → is_a s (R t) ≡ is_a s t
  over-is-a s none = refl
  over-is-a of_lifetime (tree l c o) = three (ap (λ z. is_sort z of_lifetime) (label-sort ρ l)) (over-no-tree c) (over-no-tree o)
    where
      three : {a a' b b' c c' : Bool} → a ≡ a' → b ≡ b' → c ≡ c' → a && (b && c) ≡ a' && (b' && c')
      three p q r = cc
  over-is-a of_type (tree l c o) = two (ap (λ z. is_sort z of_type) (label-sort ρ l)) (over-no-tree o)
    where
      two : {a a' b b' : Bool} → a ≡ a' → b ≡ b' → a && b ≡ a' && b'
      two p q = cc
  over-is-a of_const (tree l c o) = two (ap (λ z. is_sort z of_const) (label-sort ρ l)) (over-no-tree o)
    where
      two : {a a' b b' : Bool} → a ≡ a' → b ≡ b' → a && b ≡ a' && b'
      two p q = cc

  pub over-fits : (A t : Trees) → fits (R A) (R t) ≡ fits A t
  over-fits A none = refl
  over-fits A (tree (param s i) c o) = and-same (ap (is_a s) (sym (over-nth A i)) ∙ over-is-a s (nth A i)) (and-same (over-no-tree c) (over-fits A o))
  over-fits A (tree l c o) = and-same (over-fits A c) (over-fits A o)

  pub over-same : (x y : Trees) → same (R x) (R y) ≡ same x y
  over-same x y =
      bool-same (same (R x) (R y)) (same x y) (λ e. same-complete x y (sym (back ρ x) ∙ ap (renumbered (inverse ρ)) (same-sound (R x) (R y) e) ∙ back ρ y))
      (λ e. same-complete (R x) (R y) (ap R (same-sound x y e)))

  pub over-same-reference : (r s : Reference) → same_reference (renumbered_reference ρ r) (renumbered_reference ρ s) ≡ same_reference r s
  over-same-reference r s = and-same (same-numbers-to ρ.traits r.trait s.trait) (over-same r.args s.args)

  pub over-with-args : (A : Trees) (r : Reference) → renumbered_reference ρ (with_args A r) ≡ with_args (R A) (renumbered_reference ρ r)
  over-with-args A r = ap (λ z. (let x : Reference = record { trait = ρ.traits.to r.trait; args = z } in x)) (over-instantiate zero A r.args)

  pub over-all-with-args : (A : Trees) (rs : List Reference) → map (renumbered_reference ρ) (all_with_args A rs) ≡ all_with_args (R A) (map (renumbered_reference ρ) rs)
  over-all-with-args A [] = refl
  over-all-with-args A (r ∷ rs) = two (over-with-args A r) (over-all-with-args A rs)
    where
      two : {a b : Reference} {c d : List Reference} → a ≡ b → c ≡ d → a ∷ c ≡ b ∷ d
      two p q = cc

  -- a test of labels that does not read the numbers
  pub over-some : (p q : Label → Bool) → ((l : Label) → p (renumbered_label ρ l) ≡ q l) → (t : Trees) → some_node p (R t) ≡ some_node q t
  over-some p q h none = refl
  over-some p q h (tree l c o) = three (h l) (over-some p q h c) (over-some p q h o)
    where
      three : {a a' b b' c c' : Bool} → a ≡ a' → b ≡ b' → c ≡ c' → a || b || c ≡ a' || b' || c'
      three p q r = cc

  open-label : (l : Label) → is_open (renumbered_label ρ l) ≡ is_open l
  open-label (adt s) = refl
  open-label l = refl

  pub over-closed : (t : Trees) → is_closed (R t) ≡ is_closed t
  over-closed t = ap not (over-some is_open is_open open-label t)

  abbrev pub over-common : (i j : ImplDecl) → CommonInstance i j → CommonInstance (renumbered_impl ρ i) (renumbered_impl ρ j)
  over-common i j m = record {
    left = R m.left;
    right = R m.right;
    left_closed = over-closed m.left ∙ m.left_closed;
    right_closed = over-closed m.right ∙ m.right_closed;
    left_fits = fits-sound (R m.left) (R i.header.args) (over-fits m.left i.header.args ∙ fits-complete m.left i.header.args m.left_fits);
    right_fits = fits-sound (R m.right) (R j.header.args) (over-fits m.right j.header.args ∙ fits-complete m.right j.header.args m.right_fits);
    equal = sym (over-with-args m.left i.header) ∙ ap (renumbered_reference ρ) m.equal ∙ over-with-args m.right j.header;
  }

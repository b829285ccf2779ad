-- The arguments of an impl's rule instance: they fit, they are closed if the trait reference is, and they turn the
-- header into it.
use Rattle.std.proofs.Common.{◌≡◌, ℕ, zero, suc, Bool, true, false, not, [], ◌∷◌, refl, ap, ◌&&◌, ◌||◌, ◌==◌, if◌then◌else◌, ◌⊎◌, inl, inr}
use Rattle.type_terms.specs.Promised.Label.{Label, Sort, of_type, of_const, of_lifetime, never, param}
use Rattle.type_terms.specs.Promised.Trees.{Trees, none, tree, ◌+++◌, leaf, nth, IsA, Fits, is_sort, sort_of, some_node}
use Rattle.type_terms.specs.Trees.{is_no_tree, is_a, fits, standing_at, arguments_from, arguments, first_of}
use Rattle.type_terms.specs.Promised.Worlds.{Reference, ImplDecl, with_args, all_with_args}
use Rattle.type_terms.specs.Promised.Rules.{Rule, by_impl, impl_rules, same_reference}
use Rattle.type_terms.specs.Promised.Proofs.{In}
use Rattle.type_terms.specs.Promised.Answers.{is_closed, is_open}
use Rattle.type_terms.proofs.Matching.{same-sound, or-false-left as no-left, or-false-right as no-right}
use Rattle.type_terms.proofs.Members.{in-cases, in-nothing, same-number}
use Rattle.type_terms.proofs.Walking.{left, right}
use Rattle.type_terms.proofs.TermBasics.{none-sound as is-none-sound}

pub is-sort-sound : (s r : Sort) → is_sort s r ≡ true → s ≡ r
is-sort-sound of_type of_type h = refl
is-sort-sound of_const of_const h = refl
is-sort-sound of_lifetime of_lifetime h = refl
is-sort-sound of_type of_const h = cc
is-sort-sound of_type of_lifetime h = cc
is-sort-sound of_const of_type h = cc
is-sort-sound of_const of_lifetime h = cc
is-sort-sound of_lifetime of_type h = cc
is-sort-sound of_lifetime of_const h = cc

is-a-sound : (s : Sort) (t : Trees) → is_a s t ≡ true → IsA s t
is-a-sound s none h = cc
is-a-sound of_type (tree l c o) h = (is-sort-sound _ _ (left (is_sort (sort_of l) of_type) _ h), is-none-sound o (right (is_sort (sort_of l) of_type) _ h))
is-a-sound of_const (tree l c o) h = (is-sort-sound _ _ (left (is_sort (sort_of l) of_const) _ h), is-none-sound o (right (is_sort (sort_of l) of_const) _ h))
is-a-sound of_lifetime (tree l c o) h =
    let r = right (is_sort (sort_of l) of_lifetime) _ h in
    (is-sort-sound _ _ (left (is_sort (sort_of l) of_lifetime) _ h), is-none-sound c (left (is_no_tree c) _ r), is-none-sound o (right (is_no_tree c) _ r))

pub fits-sound : (A t : Trees) → fits A t ≡ true → Fits A t
fits-sound A none h = tt
fits-sound A (tree (param s i) c o) h =
    let r = right (is_a s (nth A i)) _ h in
    (is-a-sound s (nth A i) (left (is_a s (nth A i)) _ h), is-none-sound c (left (is_no_tree c) _ r), fits-sound A o (right (is_no_tree c) _ r))
fits-sound A (tree l c o) h = (fits-sound A c (left (fits A c) _ h), fits-sound A o (right (fits A c) _ h))

pub same-reference-sound : (r s : Reference) → same_reference r s ≡ true → r ≡ s
same-reference-sound r s h =
    let t : r.trait ≡ s.trait = same-number r.trait s.trait (left (r.trait == s.trait) _ h) in
    let a : r.args ≡ s.args = same-sound r.args s.args (right (r.trait == s.trait) _ h) in
    join r.trait s.trait r.args s.args t a
  where
    join : (t u : ℕ) (a b : Trees) → t ≡ u → a ≡ b → (let x : Reference = record { trait = t; args = a } in x) ≡ record { trait = u; args = b }
    join t u a b p q = cc

-- what a rule of an impl is
pub record ByImpl (r : Reference) (i : ImplDecl) (u : Rule) : Type 0 where
  pub fitting : Fits (arguments i.params i.header.args r.args) i.header.args
  pub is-instance : with_args (arguments i.params i.header.args r.args) i.header ≡ r
  pub is-rule : record { way = by_impl i.name; premises = all_with_args (arguments i.params i.header.args r.args) i.clauses } ≡ u

pub impl-rule : (r : Reference) (i : ImplDecl) (u : Rule) → In u (impl_rules r i) → ByImpl r i u
impl-rule r i u h = by (fits A i.header.args && same_reference (with_args A i.header) r) refl h
  where
    A : Trees
    A = arguments i.params i.header.args r.args

    rule : Rule
    rule = record { way = by_impl i.name; premises = all_with_args A i.clauses }

    by : (b : Bool) → fits A i.header.args && same_reference (with_args A i.header) r ≡ b → In u (if b then rule ∷ [] else []) → ByImpl r i u
    by true e g = record {
      fitting = fits-sound A i.header.args (left (fits A i.header.args) _ e);
      is-instance = same-reference-sound _ r (right (fits A i.header.args) _ e);
      is-rule = one (in-cases u rule [] g);
    }
      where
        one : (rule ≡ u) ⊎ In u [] → rule ≡ u
        one (inl q) = q
        one (inr q) = absurd (in-nothing u q)
    by false e g = absurd (in-nothing u g)

-- What is read off a closed reference is closed
pub not-true : (b : Bool) → not b ≡ true → b ≡ false
not-true true h = cc
not-true false h = refl

pub or-no : (a b : Bool) → a ≡ false → b ≡ false → a || b ≡ false
or-no true b h g = cc
or-no false b h g = g

pub append-shut : (p : Label → Bool) (x y : Trees) → some_node p x ≡ false → some_node p y ≡ false → some_node p (x +++ y) ≡ false
append-shut p none y h g = g
append-shut p (tree l c o) y h g =
    or-no _ _ (no-left (p l || some_node p c) (some_node p o) h) (append-shut p o y (no-right (p l || some_node p c) (some_node p o) h) g)

pub first-shut : (p : Label → Bool) (x y : Trees) → some_node p x ≡ false → some_node p y ≡ false → some_node p (first_of x y) ≡ false
first-shut p none y h g = g
first-shut p (tree l c o) y h g = h

-- the first node alone
pub head-shut : (p : Label → Bool) (l : Label) (c o : Trees) → some_node p (tree l c o) ≡ false → some_node p (tree l c none) ≡ false
head-shut p l c o h = or-no (p l || some_node p c) false (no-left (p l || some_node p c) (some_node p o) h) refl

pub child-shut : (p : Label → Bool) (l : Label) (c o : Trees) → some_node p (tree l c o) ≡ false → some_node p c ≡ false
child-shut p l c o h = no-right (p l) (some_node p c) (no-left (p l || some_node p c) (some_node p o) h)

pub next-shut : (p : Label → Bool) (l : Label) (c o : Trees) → some_node p (tree l c o) ≡ false → some_node p o ≡ false
next-shut p l c o h = no-right (p l || some_node p c) (some_node p o) h

pub standing-shut : (p : Label → Bool) (i : ℕ) (h t : Trees) → some_node p t ≡ false → some_node p (standing_at i h t) ≡ false
standing-shut p i none t e = refl
standing-shut p i (tree l c o) none e = refl
standing-shut p i (tree (param s j) pc po) (tree m c o) e = by (i == j) (standing-shut p i po o (next-shut p m c o e))
  where
    by : (b : Bool) → some_node p (standing_at i po o) ≡ false → some_node p (if b then tree m c none else standing_at i po o) ≡ false
    by true f = head-shut p m c o e
    by false f = f
standing-shut p i (tree l pc po) (tree m c o) e =
    first-shut p (standing_at i pc c) (standing_at i po o) (standing-shut p i pc c (child-shut p m c o e)) (standing-shut p i po o (next-shut p m c o e))

arguments-shut : (k n : ℕ) (h t : Trees) → some_node is_open t ≡ false → some_node is_open (arguments_from k n h t) ≡ false
arguments-shut k zero h t e = refl
arguments-shut k (suc n) h t e =
    append-shut is_open (first_of (standing_at k h t) (leaf never)) (arguments_from (suc k) n h t)
    (first-shut is_open (standing_at k h t) (leaf never) (standing-shut is_open k h t e) refl) (arguments-shut (suc k) n h t e)

pub closed-arguments : (n : ℕ) (h t : Trees) → is_closed t ≡ true → is_closed (arguments n h t) ≡ true
closed-arguments n h t e = ap not (arguments-shut 0 n h t (not-true (some_node is_open t) e))

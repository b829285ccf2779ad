-- What is knowable by the view alone is knowable in the linked set.
use Rattle.std.proofs.Common.{◌≡◌, ℕ, Bool, true, false, List, [], ◌∷◌, ◌++◌, refl, ap, sym, ◌∙◌, ◌&&◌, ◌||◌, ◌==◌, if◌then◌else◌, subst, ◌⊎◌, inl, inr, Some, None}
use Rattle.std.specs.List.{list_all}
use Rattle.type_terms.specs.Promised.Label.{of_type, of_const, of_lifetime, dynamic, static, adt, value, ref, principal, param, placeholder, infer, canonical, bound}
use Rattle.type_terms.specs.Promised.Trees.{Trees, none, tree}
use Rattle.type_terms.specs.Promised.Worlds.{World, Reference, StructDecl, TraitDecl, structs_named, traits_named, sees, view_of}
use Rattle.type_terms.specs.Promised.Walks.{Met, local, struct_leaf, dyn_leaf, entered, other_leaf, open_place, struct_is, trait_is, dyn_met, visited, until_decisive, open_walk, walk, ends_local, seen, is_known, item_in, is_known_in}
use Rattle.type_terms.specs.Promised.Versions.{sees_struct, sees_trait}
use Rattle.type_terms.proofs.WalkLists.{clean}
use Rattle.type_terms.specs.Promised.Proofs.{In}
use Rattle.type_terms.proofs.Members.{in-filter, filter-in, member-some, self-number, true-or-false, not-both, so-false}
use Rattle.type_terms.proofs.Walking.{left, right, both, or-left, or-right, or-cases, walks-local, local-cases, clean-left, clean-right, nobody, nobody-trait}
use Rattle.type_terms.proofs.Unseen.{OneEach, struct-there, trait-there}

-- Items met before the walk ends
abbrev ok : (Met → Bool) → List Met → Bool
ok q ms = list_all q (until_decisive ms)

ok-left : (q : Met → Bool) (xs ys : List Met) → ok q (xs ++ ys) ≡ true → ok q xs ≡ true
ok-left q [] ys h = refl
ok-left q (local ∷ xs) ys h = h
ok-left q (open_place ∷ xs) ys h = h
ok-left q (struct_leaf s ∷ xs) ys h = both (q (struct_leaf s)) _ (left (q (struct_leaf s)) _ h) (ok-left q xs ys (right (q (struct_leaf s)) _ h))
ok-left q (entered s ∷ xs) ys h = both (q (entered s)) _ (left (q (entered s)) _ h) (ok-left q xs ys (right (q (entered s)) _ h))
ok-left q (dyn_leaf s ∷ xs) ys h = both (q (dyn_leaf s)) _ (left (q (dyn_leaf s)) _ h) (ok-left q xs ys (right (q (dyn_leaf s)) _ h))
ok-left q (other_leaf ∷ xs) ys h = both (q other_leaf) _ (left (q other_leaf) _ h) (ok-left q xs ys (right (q other_leaf) _ h))

ok-right : (q : Met → Bool) (xs ys : List Met) → ok q (xs ++ ys) ≡ true → clean xs ≡ true → ok q ys ≡ true
ok-right q [] ys h g = h
ok-right q (local ∷ xs) ys h g = cc
ok-right q (open_place ∷ xs) ys h g = cc
ok-right q (struct_leaf s ∷ xs) ys h g = ok-right q xs ys (right (q (struct_leaf s)) _ h) g
ok-right q (entered s ∷ xs) ys h g = ok-right q xs ys (right (q (entered s)) _ h) g
ok-right q (dyn_leaf s ∷ xs) ys h g = ok-right q xs ys (right (q (dyn_leaf s)) _ h) g
ok-right q (other_leaf ∷ xs) ys h g = ok-right q xs ys (right (q other_leaf) _ h) g

ok-join : (q : Met → Bool) (xs ys : List Met) → ok q xs ≡ true → (clean xs ≡ true → ok q ys ≡ true) → ok q (xs ++ ys) ≡ true
ok-join q [] ys h g = g refl
ok-join q (local ∷ xs) ys h g = h
ok-join q (open_place ∷ xs) ys h g = h
ok-join q (struct_leaf s ∷ xs) ys h g = both (q (struct_leaf s)) _ (left (q (struct_leaf s)) _ h) (ok-join q xs ys (right (q (struct_leaf s)) _ h) g)
ok-join q (entered s ∷ xs) ys h g = both (q (entered s)) _ (left (q (entered s)) _ h) (ok-join q xs ys (right (q (entered s)) _ h) g)
ok-join q (dyn_leaf s ∷ xs) ys h g = both (q (dyn_leaf s)) _ (left (q (dyn_leaf s)) _ h) (ok-join q xs ys (right (q (dyn_leaf s)) _ h) g)
ok-join q (other_leaf ∷ xs) ys h g = both (q other_leaf) _ (left (q other_leaf) _ h) (ok-join q xs ys (right (q other_leaf) _ h) g)

pub clean-join : (xs ys : List Met) → clean xs ≡ true → clean ys ≡ true → clean (xs ++ ys) ≡ true
clean-join [] ys h g = g
clean-join (local ∷ xs) ys h g = h
clean-join (open_place ∷ xs) ys h g = h
clean-join (struct_leaf s ∷ xs) ys h g = clean-join xs ys h g
clean-join (entered s ∷ xs) ys h g = clean-join xs ys h g
clean-join (dyn_leaf s ∷ xs) ys h g = clean-join xs ys h g
clean-join (other_leaf ∷ xs) ys h g = clean-join xs ys h g

local-left : (xs ys : List Met) → walks-local xs ≡ true → walks-local (xs ++ ys) ≡ true
local-left [] ys h = cc
local-left (local ∷ xs) ys h = refl
local-left (open_place ∷ xs) ys h = cc
local-left (struct_leaf s ∷ xs) ys h = local-left xs ys h
local-left (entered s ∷ xs) ys h = local-left xs ys h
local-left (dyn_leaf s ∷ xs) ys h = local-left xs ys h
local-left (other_leaf ∷ xs) ys h = local-left xs ys h

local-right : (xs ys : List Met) → clean xs ≡ true → walks-local ys ≡ true → walks-local (xs ++ ys) ≡ true
local-right [] ys h g = g
local-right (local ∷ xs) ys h g = refl
local-right (open_place ∷ xs) ys h g = cc
local-right (struct_leaf s ∷ xs) ys h g = local-right xs ys h g
local-right (entered s ∷ xs) ys h g = local-right xs ys h g
local-right (dyn_leaf s ∷ xs) ys h g = local-right xs ys h g
local-right (other_leaf ∷ xs) ys h g = local-right xs ys h g

-- A name that the view has means the same in the view and in the set
struct-value : (W : World) → OneEach W → (s : ℕ) (x : StructDecl) → In x W.structs → x.name ≡ s → (p : StructDecl → Bool) → struct_is p W s ≡ p x
struct-value W one s x m n p = by (true-or-false (p x))
  where
    by : (p x ≡ true) ⊎ (p x ≡ false) → struct_is p W s ≡ p x
    by (inl e) = member-some p (structs_named W s) x (filter-in (λ (y : StructDecl). y.name == s) W.structs x m (subst (λ v. (v == s) ≡ true) (sym n) (self-number s))) e ∙ sym e
    by (inr e) = so-false _ (λ g. no (struct-there p W s g)) ∙ sym e
      where
        no : (y : StructDecl) × In y W.structs × (y.name ≡ s) × (p y ≡ true) → ⊥
        no y = not-both (p x) (ap p (one.0 x y.0 m y.1 (n ∙ sym y.2)) ∙ y.3) e

trait-value : (W : World) → OneEach W → (s : ℕ) (x : TraitDecl) → In x W.traits → x.name ≡ s → (p : TraitDecl → Bool) → trait_is p W s ≡ p x
trait-value W one s x m n p = by (true-or-false (p x))
  where
    by : (p x ≡ true) ⊎ (p x ≡ false) → trait_is p W s ≡ p x
    by (inl e) = member-some p (traits_named W s) x (filter-in (λ (y : TraitDecl). y.name == s) W.traits x m (subst (λ v. (v == s) ≡ true) (sym n) (self-number s))) e ∙ sym e
    by (inr e) = so-false _ (λ g. no (trait-there p W s g)) ∙ sym e
      where
        no : (y : TraitDecl) × In y W.traits × (y.name ≡ s) × (p y ≡ true) → ⊥
        no y = not-both (p x) (ap p (one.1 x y.0 m y.1 (n ∙ sym y.2)) ∙ y.3) e

view-one : (W : World) (c : ℕ) → OneEach W → OneEach (view_of W c)
view-one W c one = (
  (λ x y a b e. one.0 x y (in-filter (λ (z : StructDecl). sees W c z.home) W.structs x a).0 (in-filter (λ (z : StructDecl). sees W c z.home) W.structs y b).0 e),
  (λ x y a b e. one.1 x y (in-filter (λ (z : TraitDecl). sees W c z.home) W.traits x a).0 (in-filter (λ (z : TraitDecl). sees W c z.home) W.traits y b).0 e),
)

-- a struct of the view: every test on it gives the same in both, and c sees it
pub struct-both : (W : World) → OneEach W → (c s : ℕ) → struct_is (λ _. true) (view_of W c) s ≡ true
    → ((p : StructDecl → Bool) → struct_is p (view_of W c) s ≡ struct_is p W s) × (sees_struct W c s ≡ true)
struct-both W one c s h =
    let x = struct-there (λ _. true) (view_of W c) s h in
    let m = in-filter (λ (z : StructDecl). sees W c z.home) W.structs x.0 x.1 in (
      (λ p. struct-value (view_of W c) (view-one W c one) s x.0 x.1 x.2 p ∙ sym (struct-value W one s x.0 m.0 x.2 p)),
      struct-value W one s x.0 m.0 x.2 (λ z. sees W c z.home) ∙ m.1,
    )

pub trait-both : (W : World) → OneEach W → (c s : ℕ) → trait_is (λ _. true) (view_of W c) s ≡ true
    → ((p : TraitDecl → Bool) → trait_is p (view_of W c) s ≡ trait_is p W s) × (sees_trait W c s ≡ true)
trait-both W one c s h =
    let x = trait-there (λ _. true) (view_of W c) s h in
    let m = in-filter (λ (z : TraitDecl). sees W c z.home) W.traits x.0 x.1 in (
      (λ p. trait-value (view_of W c) (view-one W c one) s x.0 x.1 x.2 p ∙ sym (trait-value W one s x.0 m.0 x.2 p)),
      trait-value W one s x.0 m.0 x.2 (λ z. sees W c z.home) ∙ m.1,
    )

-- The open walk, read in the view and in the set
abbrev Open : World → ℕ → List Met → List Met → Type 0
Open W c xs ys = ok (item_in (view_of W c)) xs ≡ true → (ok (seen W c) ys ≡ true) × (clean ys ≡ true → clean xs ≡ true)

open-join : (W : World) (c : ℕ) (xs ys xs' ys' : List Met) → Open W c xs xs' → Open W c ys ys' → Open W c (xs ++ ys) (xs' ++ ys')
open-join W c xs ys xs' ys' f k h =
    let a = f (ok-left (item_in (view_of W c)) xs ys h) in (
      ok-join (seen W c) xs' ys' a.0 (λ g. (k (ok-right (item_in (view_of W c)) xs ys h (a.1 g))).0),
      (λ g. clean-join xs ys (a.1 (clean-left xs' ys' g))
          ((k (ok-right (item_in (view_of W c)) xs ys h (a.1 (clean-left xs' ys' g)))).1 (clean-right xs' ys' g))),
    )

abbrev met-struct : Bool → Bool → ℕ → List Met → List Met
met-struct b0 b2 s xs = if b0 then local ∷ [] else if b2 then entered s ∷ xs else struct_leaf s ∷ []

open-struct : (W : World) (c s : ℕ) (v0 w0 v2 w2 : Bool) (xs xs' : List Met) → v0 ≡ false → w0 ≡ false
    → (struct_is (λ _. true) (view_of W c) s ≡ true → (v2 ≡ w2) × (sees_struct W c s ≡ true)) → Open W c xs xs' → Open W c (met-struct v0 v2 s xs) (met-struct w0 w2 s xs')
open-struct W c s true w0 v2 w2 xs xs' z y b f h = cc
open-struct W c s false true v2 w2 xs xs' z y b f h = cc
open-struct W c s false false true true xs xs' z y b f h =
    let r = b (left (struct_is (λ _. true) (view_of W c) s) _ h) in
    let g = f (right (struct_is (λ _. true) (view_of W c) s) _ h) in
    (both (sees_struct W c s) _ r.1 g.0, g.1)
open-struct W c s false false true false xs xs' z y b f h = let r = (b (left (struct_is (λ _. true) (view_of W c) s) _ h)).0 in cc
open-struct W c s false false false true xs xs' z y b f h = let r = (b (left (struct_is (λ _. true) (view_of W c) s) _ h)).0 in cc
open-struct W c s false false false false xs xs' z y b f h =
    (both (sees_struct W c s) true (b (left (struct_is (λ _. true) (view_of W c) s) _ h)).1 refl, (λ g. refl))

open-dyn : (W : World) → OneEach W → (c : ℕ) (k : Trees) → Open W c (dyn_met (view_of W c) None k) (dyn_met W None k)
open-dyn W one c none h = (refl, (λ g. g))
open-dyn W one c (tree (principal n t) k o) h =
    by (trait_is (λ x. false) (view_of W c) t) (trait_is (λ x. false) W t) (nobody-trait (traits_named (view_of W c) t)) (nobody-trait (traits_named W t)) h
  where
    by : (v w : Bool) → v ≡ false → w ≡ false → Open W c ((if v then local else dyn_leaf t) ∷ []) ((if w then local else dyn_leaf t) ∷ [])
    by true w z y g = cc
    by false true z y g = cc
    by false false z y g = (both (sees_trait W c t) true (trait-both W one c t (left (trait_is (λ _. true) (view_of W c) t) _ g)).1 refl, (λ e. refl))
open-dyn W one c (tree l k o) h = (refl, (λ g. g))

open-same : (W : World) → OneEach W → (c : ℕ) (t : Trees) → Open W c (visited (view_of W c) None t) (visited W None t)
open-same W one c none h = (refl, (λ g. refl))
open-same W one c (tree (ref m) k o) h =
    open-join W c (visited (view_of W c) None k) (visited (view_of W c) None o) (visited W None k) (visited W None o) (open-same W one c k) (open-same W one c o) h
open-same W one c (tree (adt s) k o) h =
    let v2 = struct_is (λ x. x.is_fundamental) (view_of W c) s in
    let w2 = struct_is (λ x. x.is_fundamental) W s in
    let v0 = struct_is (λ x. false) (view_of W c) s in
    let w0 = struct_is (λ x. false) W s in
    open-join W c (met-struct v0 v2 s (visited (view_of W c) None k)) (visited (view_of W c) None o) (met-struct w0 w2 s (visited W None k)) (visited W None o)
    (open-struct W c s v0 w0 v2 w2 (visited (view_of W c) None k) (visited W None k) (nobody (structs_named (view_of W c) s)) (nobody (structs_named W s))
    (λ e. let r = struct-both W one c s e in (r.0 (λ x. x.is_fundamental), r.1)) (open-same W one c k))
    (open-same W one c o) h
open-same W one c (tree dynamic k o) h =
    open-join W c (dyn_met (view_of W c) None k) (visited (view_of W c) None o) (dyn_met W None k) (visited W None o) (open-dyn W one c k) (open-same W one c o) h
open-same W one c (tree (param of_type i) k o) h = (refl, (λ g. g))
open-same W one c (tree (placeholder of_type i) k o) h = (refl, (λ g. g))
open-same W one c (tree (infer of_type i) k o) h = (refl, (λ g. g))
open-same W one c (tree (canonical of_type i) k o) h = (refl, (λ g. g))
open-same W one c (tree (bound of_type n i) k o) h = (refl, (λ g. g))
open-same W one c (tree (param of_const i) k o) h = open-same W one c o h
open-same W one c (tree (placeholder of_const i) k o) h = open-same W one c o h
open-same W one c (tree (infer of_const i) k o) h = open-same W one c o h
open-same W one c (tree (canonical of_const i) k o) h = open-same W one c o h
open-same W one c (tree (bound of_const n i) k o) h = open-same W one c o h
open-same W one c (tree (param of_lifetime i) k o) h = open-same W one c o h
open-same W one c (tree (placeholder of_lifetime i) k o) h = open-same W one c o h
open-same W one c (tree (infer of_lifetime i) k o) h = open-same W one c o h
open-same W one c (tree (canonical of_lifetime i) k o) h = open-same W one c o h
open-same W one c (tree (bound of_lifetime n i) k o) h = open-same W one c o h
open-same W one c (tree (value n) k o) h = open-same W one c o h
open-same W one c (tree static k o) h = open-same W one c o h
open-same W one c (tree l k o) h = open-same W one c o h

-- C's own walk, where the view has all that the open walk meets
abbrev Own : World → ℕ → List Met → List Met → List Met → Type 0
Own W c os xs ys =
    ok (item_in (view_of W c)) os ≡ true → (walks-local xs ≡ true → walks-local ys ≡ true) × (clean xs ≡ true → (clean ys ≡ true) × (clean os ≡ true))

own-join : (W : World) (c : ℕ) (os ps xs ys xs' ys' : List Met) → Own W c os xs xs' → Own W c ps ys ys' → Own W c (os ++ ps) (xs ++ ys) (xs' ++ ys')
own-join W c os ps xs ys xs' ys' f k h = ((λ g. by (local-cases xs ys g)), (λ g. all g))
  where
    a : (walks-local xs ≡ true → walks-local xs' ≡ true) × (clean xs ≡ true → (clean xs' ≡ true) × (clean os ≡ true))
    a = f (ok-left (item_in (view_of W c)) os ps h)

    rest : clean xs ≡ true → (walks-local ys ≡ true → walks-local ys' ≡ true) × (clean ys ≡ true → (clean ys' ≡ true) × (clean ps ≡ true))
    rest g = k (ok-right (item_in (view_of W c)) os ps h (a.1 g).1)

    by : (walks-local xs ≡ true) ⊎ ((clean xs ≡ true) × (walks-local ys ≡ true)) → walks-local (xs' ++ ys') ≡ true
    by (inl e) = local-left xs' ys' (a.0 e)
    by (inr e) = local-right xs' ys' (a.1 e.0).0 ((rest e.0).0 e.1)

    all : clean (xs ++ ys) ≡ true → (clean (xs' ++ ys') ≡ true) × (clean (os ++ ps) ≡ true)
    all g =
        let cx = clean-left xs ys g in
        let cy = clean-right xs ys g in
        (clean-join xs' ys' (a.1 cx).0 ((rest cx).1 cy).0, clean-join os ps (a.1 cx).1 ((rest cx).1 cy).1)

own-struct : (W : World) (c s : ℕ) (v0 v1 w1 v2 w2 : Bool) (os xs xs' : List Met) → v0 ≡ false
    → (struct_is (λ _. true) (view_of W c) s ≡ true → (v1 ≡ w1) × (v2 ≡ w2)) → Own W c os xs xs'
    → Own W c (met-struct v0 v2 s os) (met-struct v1 v2 s xs) (met-struct w1 w2 s xs')
own-struct W c s true v1 w1 v2 w2 os xs xs' z b f h = cc
own-struct W c s false v1 w1 true w2 os xs xs' z b f h =
    by v1 w1 w2 (b (left (struct_is (λ _. true) (view_of W c) s) _ h)) (f (right (struct_is (λ _. true) (view_of W c) s) _ h))
  where
    by : (v1 w1 w2 : Bool) → (v1 ≡ w1) × (true ≡ w2) → (walks-local xs ≡ true → walks-local xs' ≡ true) × (clean xs ≡ true → (clean xs' ≡ true) × (clean os ≡ true))
        → (walks-local (met-struct v1 true s xs) ≡ true → walks-local (met-struct w1 w2 s xs') ≡ true)
        × (clean (met-struct v1 true s xs) ≡ true → (clean (met-struct w1 w2 s xs') ≡ true) × (clean os ≡ true))
    by true true w2 q r = ((λ g. refl), (λ g. cc))
    by true false w2 q r = let e = q.0 in cc
    by false true w2 q r = let e = q.0 in cc
    by false false true q r = r
    by false false false q r = let e = q.1 in cc
own-struct W c s false v1 w1 false w2 os xs xs' z b f h = by v1 w1 w2 (b (left (struct_is (λ _. true) (view_of W c) s) _ h))
  where
    by : (v1 w1 w2 : Bool) → (v1 ≡ w1) × (false ≡ w2)
        → (walks-local (met-struct v1 false s xs) ≡ true → walks-local (met-struct w1 w2 s xs') ≡ true)
        × (clean (met-struct v1 false s xs) ≡ true → (clean (met-struct w1 w2 s xs') ≡ true) × (true ≡ true))
    by true true w2 q = ((λ g. refl), (λ g. cc))
    by true false w2 q = let e = q.0 in cc
    by false true w2 q = let e = q.0 in cc
    by false false true q = let e = q.1 in cc
    by false false false q = ((λ g. g), (λ g. (refl, refl)))

own-dyn : (W : World) → OneEach W → (c : ℕ) (k : Trees) → Own W c (dyn_met (view_of W c) None k) (dyn_met (view_of W c) (Some c) k) (dyn_met W (Some c) k)
own-dyn W one c none h = ((λ g. g), (λ g. (refl, refl)))
own-dyn W one c (tree (principal n t) k o) h =
    by (trait_is (λ x. false) (view_of W c) t) (trait_is (λ x. c == x.home) (view_of W c) t) (trait_is (λ x. c == x.home) W t) (nobody-trait (traits_named (view_of W c) t))
    (λ e. (trait-both W one c t e).0 (λ x. c == x.home)) h
  where
    by : (v0 v1 w1 : Bool) → v0 ≡ false → (trait_is (λ _. true) (view_of W c) t ≡ true → v1 ≡ w1)
        → Own W c ((if v0 then local else dyn_leaf t) ∷ []) ((if v1 then local else dyn_leaf t) ∷ []) ((if w1 then local else dyn_leaf t) ∷ [])
    by true v1 w1 z b g = cc
    by false true true z b g = ((λ e. refl), (λ e. cc))
    by false true false z b g = let e = b (left (trait_is (λ _. true) (view_of W c) t) _ g) in cc
    by false false true z b g = let e = b (left (trait_is (λ _. true) (view_of W c) t) _ g) in cc
    by false false false z b g = ((λ e. e), (λ e. (refl, refl)))
own-dyn W one c (tree l k o) h = ((λ g. g), (λ g. (refl, refl)))

own-same : (W : World) → OneEach W → (c : ℕ) (t : Trees) → Own W c (visited (view_of W c) None t) (visited (view_of W c) (Some c) t) (visited W (Some c) t)
own-same W one c none h = ((λ g. g), (λ g. (refl, refl)))
own-same W one c (tree (ref m) k o) h =
    own-join W c (visited (view_of W c) None k) (visited (view_of W c) None o) (visited (view_of W c) (Some c) k) (visited (view_of W c) (Some c) o) (visited W (Some c) k) (visited W (Some c) o)
    (own-same W one c k) (own-same W one c o) h
own-same W one c (tree (adt s) k o) h =
    let v2 = struct_is (λ x. x.is_fundamental) (view_of W c) s in
    let w2 = struct_is (λ x. x.is_fundamental) W s in
    let v0 = struct_is (λ x. false) (view_of W c) s in
    let v1 = struct_is (λ x. c == x.home) (view_of W c) s in
    let w1 = struct_is (λ x. c == x.home) W s in
    own-join W c (met-struct v0 v2 s (visited (view_of W c) None k)) (visited (view_of W c) None o)
    (met-struct v1 v2 s (visited (view_of W c) (Some c) k)) (visited (view_of W c) (Some c) o) (met-struct w1 w2 s (visited W (Some c) k)) (visited W (Some c) o)
    (own-struct W c s v0 v1 w1 v2 w2 (visited (view_of W c) None k) (visited (view_of W c) (Some c) k) (visited W (Some c) k) (nobody (structs_named (view_of W c) s))
    (λ e. let r = struct-both W one c s e in (r.0 (λ x. c == x.home), r.0 (λ x. x.is_fundamental))) (own-same W one c k))
    (own-same W one c o) h
own-same W one c (tree dynamic k o) h =
    own-join W c (dyn_met (view_of W c) None k) (visited (view_of W c) None o) (dyn_met (view_of W c) (Some c) k) (visited (view_of W c) (Some c) o)
    (dyn_met W (Some c) k) (visited W (Some c) o) (own-dyn W one c k) (own-same W one c o) h
own-same W one c (tree (param of_type i) k o) h = ((λ g. cc), (λ g. cc))
own-same W one c (tree (placeholder of_type i) k o) h = ((λ g. cc), (λ g. cc))
own-same W one c (tree (infer of_type i) k o) h = ((λ g. cc), (λ g. cc))
own-same W one c (tree (canonical of_type i) k o) h = ((λ g. cc), (λ g. cc))
own-same W one c (tree (bound of_type n i) k o) h = ((λ g. cc), (λ g. cc))
own-same W one c (tree (param of_const i) k o) h = own-same W one c o h
own-same W one c (tree (placeholder of_const i) k o) h = own-same W one c o h
own-same W one c (tree (infer of_const i) k o) h = own-same W one c o h
own-same W one c (tree (canonical of_const i) k o) h = own-same W one c o h
own-same W one c (tree (bound of_const n i) k o) h = own-same W one c o h
own-same W one c (tree (param of_lifetime i) k o) h = own-same W one c o h
own-same W one c (tree (placeholder of_lifetime i) k o) h = own-same W one c o h
own-same W one c (tree (infer of_lifetime i) k o) h = own-same W one c o h
own-same W one c (tree (canonical of_lifetime i) k o) h = own-same W one c o h
own-same W one c (tree (bound of_lifetime n i) k o) h = own-same W one c o h
own-same W one c (tree (value n) k o) h = own-same W one c o h
own-same W one c (tree static k o) h = own-same W one c o h
own-same W one c (tree l k o) h = own-same W one c o h

-- Known by the view alone is known in the set; so what the set makes unknown is unknown by the view alone
pub known-by-view : (W : World) → OneEach W → (c : ℕ) (r : Reference) → is_known_in (view_of W c) c r ≡ true → is_known W c r ≡ true
known-by-view W one c r h =
    both (sees_trait W c r.trait) _ t.1 (both (list_all (seen W c) (open_walk W r)) _ (open-same W one c r.args met).0 (by (or-cases _ _ h2)))
  where
    h1 : list_all (item_in (view_of W c)) (open_walk (view_of W c) r)
        && (trait_is (λ x. (x.home == c) || x.is_fundamental) (view_of W c) r.trait || ends_local (walk (view_of W c) c r)) ≡ true
    h1 = right (trait_is (λ _. true) (view_of W c) r.trait) _ h

    met : list_all (item_in (view_of W c)) (open_walk (view_of W c) r) ≡ true
    met = left (list_all (item_in (view_of W c)) (open_walk (view_of W c) r)) _ h1

    h2 : trait_is (λ x. (x.home == c) || x.is_fundamental) (view_of W c) r.trait || ends_local (walk (view_of W c) c r) ≡ true
    h2 = right (list_all (item_in (view_of W c)) (open_walk (view_of W c) r)) _ h1

    t : ((p : TraitDecl → Bool) → trait_is p (view_of W c) r.trait ≡ trait_is p W r.trait) × (sees_trait W c r.trait ≡ true)
    t = trait-both W one c r.trait (left (trait_is (λ _. true) (view_of W c) r.trait) _ h)

    by : (trait_is (λ x. (x.home == c) || x.is_fundamental) (view_of W c) r.trait ≡ true) ⊎ (ends_local (walk (view_of W c) c r) ≡ true)
        → trait_is (λ x. (x.home == c) || x.is_fundamental) W r.trait || ends_local (walk W c r) ≡ true
    by (inl e) = or-left _ _ (sym (t.0 (λ x. (x.home == c) || x.is_fundamental)) ∙ e)
    by (inr e) = or-right (trait_is (λ x. (x.home == c) || x.is_fundamental) W r.trait) _ ((own-same W one c r.args met).0 e)

pub unknown-by-view : (W : World) → OneEach W → (c : ℕ) (r : Reference) → is_known W c r ≡ false → is_known_in (view_of W c) c r ≡ false
unknown-by-view W one c r h = so-false _ (λ g. not-both (is_known W c r) (known-by-view W one c r g) h)

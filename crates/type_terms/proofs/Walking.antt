-- An orphan walk that ends at a local type does so for every instance. The header has what it passes.
use Rattle.std.proofs.Common.{◌≡◌, ℕ, zero, Bool, true, false, List, [], ◌∷◌, ◌++◌, refl, ap, sym, ◌∙◌, ◌&&◌, ◌||◌, ◌==◌, if◌then◌else◌, subst, ◌⊎◌, inl, inr, append_assoc, Option, Some, None}
use Rattle.std.specs.List.{list_all, list_any}
use Rattle.type_terms.specs.Promised.Label.{of_type, of_const, of_lifetime, dynamic, static, adt, auto_trait, value, ref, principal, param, placeholder, infer, canonical, bound, of_trait, predicate}
use Rattle.type_terms.specs.Promised.Trees.{Trees, none, tree, ◌+++◌, instantiate, nth, shift, IsA, Fits}
use Rattle.type_terms.proofs.TreeLaws.{shift-zero}
use Rattle.type_terms.specs.Promised.Worlds.{World, StructDecl, TraitDecl, structs_named, traits_named}
use Rattle.type_terms.specs.Promised.Walks.{Met, local, struct_leaf, dyn_leaf, entered, other_leaf, open_place, struct_is, trait_is, is_home, dyn_met, visited, until_decisive, ends_local}
use Rattle.type_terms.specs.Promised.Versions.{begins_with_bound, well_written}
use Rattle.type_terms.proofs.WalkLists.{clean, of_home, allowed, before}

-- Tests
pub left : (a b : Bool) → a && b ≡ true → a ≡ true
left true b h = refl
left false b h = h

pub right : (a b : Bool) → a && b ≡ true → b ≡ true
right true b h = h
right false b h = cc

pub both : (a b : Bool) → a ≡ true → b ≡ true → a && b ≡ true
both true b h g = g
both false b h g = h

pub or-left : (a b : Bool) → a ≡ true → a || b ≡ true
or-left true b h = refl
or-left false b h = cc

pub or-right : (a b : Bool) → b ≡ true → a || b ≡ true
or-right true b h = refl
or-right false b h = h

pub or-cases : (a b : Bool) → a || b ≡ true → (a ≡ true) ⊎ (b ≡ true)
or-cases true b h = inl refl
or-cases false b h = inr h

-- Lists of met items
pub clean-left : (xs ys : List Met) → clean (xs ++ ys) ≡ true → clean xs ≡ true
clean-left [] ys h = refl
clean-left (local ∷ xs) ys h = h
clean-left (open_place ∷ xs) ys h = h
clean-left (struct_leaf s ∷ xs) ys h = clean-left xs ys h
clean-left (dyn_leaf s ∷ xs) ys h = clean-left xs ys h
clean-left (entered s ∷ xs) ys h = clean-left xs ys h
clean-left (other_leaf ∷ xs) ys h = clean-left xs ys h

pub clean-right : (xs ys : List Met) → clean (xs ++ ys) ≡ true → clean ys ≡ true
clean-right [] ys h = h
clean-right (local ∷ xs) ys h = cc
clean-right (open_place ∷ xs) ys h = cc
clean-right (struct_leaf s ∷ xs) ys h = clean-right xs ys h
clean-right (dyn_leaf s ∷ xs) ys h = clean-right xs ys h
clean-right (entered s ∷ xs) ys h = clean-right xs ys h
clean-right (other_leaf ∷ xs) ys h = clean-right xs ys h

abbrev pub walks-local : List Met → Bool
walks-local ms = ends_local (until_decisive ms)

pub local-cases : (xs ys : List Met) → walks-local (xs ++ ys) ≡ true → (walks-local xs ≡ true) ⊎ ((clean xs ≡ true) × (walks-local ys ≡ true))
local-cases [] ys h = inr (refl, h)
local-cases (local ∷ xs) ys h = inl refl
local-cases (open_place ∷ xs) ys h = cc
local-cases (struct_leaf s ∷ xs) ys h = local-cases xs ys h
local-cases (dyn_leaf s ∷ xs) ys h = local-cases xs ys h
local-cases (entered s ∷ xs) ys h = local-cases xs ys h
local-cases (other_leaf ∷ xs) ys h = local-cases xs ys h

pub each-append : (q : Met → Bool) (xs ys : List Met) → list_all q xs ≡ true → list_all q ys ≡ true → list_all q (xs ++ ys) ≡ true
each-append q [] ys h g = g
each-append q (x ∷ xs) ys h g = both (q x) _ (left (q x) _ h) (each-append q xs ys (right (q x) _ h) g)

pub before-left : (p q : Met → Bool) (xs ys : List Met) → before p q xs ≡ true → before p q (xs ++ ys) ≡ true
before-left p q [] ys h = cc
before-left p q (x ∷ xs) ys h = both (q x) _ (left (q x) _ h) (by (or-cases (p x) _ (right (q x) _ h)) (before-left p q xs ys))
  where
    by : (p x ≡ true) ⊎ (before p q xs ≡ true) → (before p q xs ≡ true → before p q (xs ++ ys) ≡ true) → p x || before p q (xs ++ ys) ≡ true
    by (inl e) f = or-left (p x) _ e
    by (inr e) f = or-right (p x) _ (f e)

pub before-right : (p q : Met → Bool) (xs ys : List Met) → list_all q xs ≡ true → before p q ys ≡ true → before p q (xs ++ ys) ≡ true
before-right p q [] ys h g = g
before-right p q (x ∷ xs) ys h g = both (q x) _ (left (q x) _ h) (or-right (p x) _ (before-right p q xs ys (right (q x) _ h) g))

-- one walk over a header, and the open walk over its instance, in two parts
join : (p q : Met → Bool) (xs ys xs' ys' : List Met)
    → (walks-local xs ≡ true → before p q xs' ≡ true) → (clean xs ≡ true → list_all q xs' ≡ true) → (walks-local ys ≡ true → before p q ys' ≡ true)
    → walks-local (xs ++ ys) ≡ true → before p q (xs' ++ ys') ≡ true
join p q xs ys xs' ys' f g k h = by (local-cases xs ys h)
  where
    by : (walks-local xs ≡ true) ⊎ ((clean xs ≡ true) × (walks-local ys ≡ true)) → before p q (xs' ++ ys') ≡ true
    by (inl e) = before-left p q xs' ys' (f e)
    by (inr e) = before-right p q xs' ys' (g e.0) (k e.1)

-- Nobody's items
pub nobody : (xs : List StructDecl) → list_any (λ x. false) xs ≡ false
nobody [] = refl
nobody (x ∷ xs) = nobody xs

pub nobody-trait : (xs : List TraitDecl) → list_any (λ x. false) xs ≡ false
nobody-trait [] = refl
nobody-trait (x ∷ xs) = nobody-trait xs

-- The walk of two forests, and of what is no type
pub visited-append : (W : World) (d : Option ℕ) (x y : Trees) → visited W d (x +++ y) ≡ visited W d x ++ visited W d y
visited-append W d none y = refl
visited-append W d (tree (ref m) c o) y = ap (λ z. visited W d c ++ z) (visited-append W d o y) ∙ sym (append_assoc (visited W d c) (visited W d o) (visited W d y))
visited-append W d (tree (adt s) c o) y = ap (λ z. at ++ z) (visited-append W d o y) ∙ sym (append_assoc at (visited W d o) (visited W d y))
  where
    at : List Met
    at =
        if struct_is (λ x. is_home d x.home) W s
        then local ∷ []
        else if struct_is (λ x. x.is_fundamental) W s then entered s ∷ visited W d c else struct_leaf s ∷ []
visited-append W d (tree dynamic c o) y = ap (λ z. dyn_met W d c ++ z) (visited-append W d o y) ∙ sym (append_assoc (dyn_met W d c) (visited W d o) (visited W d y))
visited-append W d (tree (param of_type _) c o) y = ap (λ z. open_place ∷ z) (visited-append W d o y)
visited-append W d (tree (placeholder of_type _) c o) y = ap (λ z. open_place ∷ z) (visited-append W d o y)
visited-append W d (tree (infer of_type _) c o) y = ap (λ z. open_place ∷ z) (visited-append W d o y)
visited-append W d (tree (canonical of_type _) c o) y = ap (λ z. open_place ∷ z) (visited-append W d o y)
visited-append W d (tree (bound of_type _ _) c o) y = ap (λ z. open_place ∷ z) (visited-append W d o y)
visited-append W d (tree (param of_const _) c o) y = visited-append W d o y
visited-append W d (tree (placeholder of_const _) c o) y = visited-append W d o y
visited-append W d (tree (infer of_const _) c o) y = visited-append W d o y
visited-append W d (tree (canonical of_const _) c o) y = visited-append W d o y
visited-append W d (tree (bound of_const _ _) c o) y = visited-append W d o y
visited-append W d (tree (param of_lifetime _) c o) y = visited-append W d o y
visited-append W d (tree (placeholder of_lifetime _) c o) y = visited-append W d o y
visited-append W d (tree (infer of_lifetime _) c o) y = visited-append W d o y
visited-append W d (tree (canonical of_lifetime _) c o) y = visited-append W d o y
visited-append W d (tree (bound of_lifetime _ _) c o) y = visited-append W d o y
visited-append W d (tree (value _) c o) y = visited-append W d o y
visited-append W d (tree static c o) y = visited-append W d o y
visited-append W d (tree l c o) y = ap (λ z. other_leaf ∷ z) (visited-append W d o y)

const-unseen : (W : World) (d : Option ℕ) (x : Trees) → IsA of_const x → visited W d x ≡ []
const-unseen W d none a = absurd a
const-unseen W d (tree (value _) c o) a = ap (visited W d) a.1
const-unseen W d (tree (param of_const _) c o) a = ap (visited W d) a.1
const-unseen W d (tree (placeholder of_const _) c o) a = ap (visited W d) a.1
const-unseen W d (tree (infer of_const _) c o) a = ap (visited W d) a.1
const-unseen W d (tree (canonical of_const _) c o) a = ap (visited W d) a.1
const-unseen W d (tree (bound of_const _ _) c o) a = ap (visited W d) a.1
const-unseen W d (tree (param of_type _) c o) a = cc (a.0)
const-unseen W d (tree (placeholder of_type _) c o) a = cc (a.0)
const-unseen W d (tree (infer of_type _) c o) a = cc (a.0)
const-unseen W d (tree (canonical of_type _) c o) a = cc (a.0)
const-unseen W d (tree (bound of_type _ _) c o) a = cc (a.0)
const-unseen W d (tree (param of_lifetime _) c o) a = cc (a.0)
const-unseen W d (tree (placeholder of_lifetime _) c o) a = cc (a.0)
const-unseen W d (tree (infer of_lifetime _) c o) a = cc (a.0)
const-unseen W d (tree (canonical of_lifetime _) c o) a = cc (a.0)
const-unseen W d (tree (bound of_lifetime _ _) c o) a = cc (a.0)
const-unseen W d (tree l c o) a = cc (a.0)

lifetime-unseen : (W : World) (d : Option ℕ) (x : Trees) → IsA of_lifetime x → visited W d x ≡ []
lifetime-unseen W d none a = absurd a
lifetime-unseen W d (tree static c o) a = ap (visited W d) a.2
lifetime-unseen W d (tree (param of_lifetime _) c o) a = ap (visited W d) a.2
lifetime-unseen W d (tree (placeholder of_lifetime _) c o) a = ap (visited W d) a.2
lifetime-unseen W d (tree (infer of_lifetime _) c o) a = ap (visited W d) a.2
lifetime-unseen W d (tree (canonical of_lifetime _) c o) a = ap (visited W d) a.2
lifetime-unseen W d (tree (bound of_lifetime _ _) c o) a = ap (visited W d) a.2
lifetime-unseen W d (tree (param of_type _) c o) a = cc (a.0)
lifetime-unseen W d (tree (placeholder of_type _) c o) a = cc (a.0)
lifetime-unseen W d (tree (infer of_type _) c o) a = cc (a.0)
lifetime-unseen W d (tree (canonical of_type _) c o) a = cc (a.0)
lifetime-unseen W d (tree (bound of_type _ _) c o) a = cc (a.0)
lifetime-unseen W d (tree (param of_const _) c o) a = cc (a.0)
lifetime-unseen W d (tree (placeholder of_const _) c o) a = cc (a.0)
lifetime-unseen W d (tree (infer of_const _) c o) a = cc (a.0)
lifetime-unseen W d (tree (canonical of_const _) c o) a = cc (a.0)
lifetime-unseen W d (tree (bound of_const _ _) c o) a = cc (a.0)
lifetime-unseen W d (tree l c o) a = cc (a.0)

-- what stands for a const or a lifetime parameter is passed over
skipped : (W : World) (d : Option ℕ) (x y : Trees) → visited W d x ≡ [] → visited W d (shift zero zero x +++ y) ≡ visited W d y
skipped W d x y e = ap (λ z. visited W d (z +++ y)) (shift-zero zero x) ∙ visited-append W d x y ∙ ap (λ z. z ++ visited W d y) e

-- A struct, entered or not; xs is the walk of its arguments
abbrev struct-met : World → Option ℕ → ℕ → List Met → List Met
struct-met W d s xs =
    if struct_is (λ x. is_home d x.home) W s then local ∷ [] else if struct_is (λ x. x.is_fundamental) W s then entered s ∷ xs else struct_leaf s ∷ []

struct-passed : (q : Met → Bool) (s : ℕ) (b0 b1 b2 : Bool) (xs xs' : List Met) → b0 ≡ false → q (entered s) ≡ true → q (struct_leaf s) ≡ true
    → (clean xs ≡ true → list_all q xs' ≡ true)
    → clean (if b1 then local ∷ [] else if b2 then entered s ∷ xs else struct_leaf s ∷ []) ≡ true
    → list_all q (if b0 then local ∷ [] else if b2 then entered s ∷ xs' else struct_leaf s ∷ []) ≡ true
struct-passed q s true b1 b2 xs xs' z qe ql f h = cc
struct-passed q s false true b2 xs xs' z qe ql f h = cc
struct-passed q s false false true xs xs' z qe ql f h = both (q (entered s)) _ qe (f h)
struct-passed q s false false false xs xs' z qe ql f h = both (q (struct_leaf s)) true ql refl

struct-reached : (p q : Met → Bool) (s : ℕ) (b0 b1 b2 : Bool) (xs xs' : List Met) → b0 ≡ false
    → p (entered s) ≡ b1 → p (struct_leaf s) ≡ b1 → q (entered s) ≡ true → q (struct_leaf s) ≡ true
    → (walks-local xs ≡ true → before p q xs' ≡ true)
    → walks-local (if b1 then local ∷ [] else if b2 then entered s ∷ xs else struct_leaf s ∷ []) ≡ true
    → before p q (if b0 then local ∷ [] else if b2 then entered s ∷ xs' else struct_leaf s ∷ []) ≡ true
struct-reached p q s true b1 b2 xs xs' z pe pl qe ql f h = cc
struct-reached p q s false true true xs xs' z pe pl qe ql f h = both (q (entered s)) _ qe (or-left (p (entered s)) _ pe)
struct-reached p q s false true false xs xs' z pe pl qe ql f h = both (q (struct_leaf s)) _ ql (or-left (p (struct_leaf s)) _ pl)
struct-reached p q s false false true xs xs' z pe pl qe ql f h = both (q (entered s)) _ qe (or-right (p (entered s)) _ (f h))
struct-reached p q s false false false xs xs' z pe pl qe ql f h = cc

-- A `dyn`
dyn-one-passed : (q : Met → Bool) (t : ℕ) (b0 : Bool) → b0 ≡ false → q (dyn_leaf t) ≡ true → list_all q ((if b0 then local else dyn_leaf t) ∷ []) ≡ true
dyn-one-passed q t true z e = cc
dyn-one-passed q t false z e = both (q (dyn_leaf t)) true e refl

dyn-one-reached : (p q : Met → Bool) (t : ℕ) (b0 b1 : Bool) → b0 ≡ false → p (dyn_leaf t) ≡ b1 → q (dyn_leaf t) ≡ true
    → walks-local ((if b1 then local else dyn_leaf t) ∷ []) ≡ true → before p q ((if b0 then local else dyn_leaf t) ∷ []) ≡ true
dyn-one-reached p q t true b1 z pe qe h = cc
dyn-one-reached p q t false true z pe qe h = both (q (dyn_leaf t)) _ qe (or-left (p (dyn_leaf t)) _ pe)
dyn-one-reached p q t false false z pe qe h = cc

dyn-passed : (W : World) (S P : ℕ → Bool) (A c : Trees) → begins_with_bound c ≡ true → well_written S P c ≡ true
    → list_all (allowed S P) (dyn_met W None (instantiate zero A c)) ≡ true
dyn-passed W S P A none b w = refl
dyn-passed W S P A (tree (principal n t) c o) b w = dyn-one-passed (allowed S P) t _ (nobody-trait (traits_named W t)) (left (P t) _ w)
dyn-passed W S P A (tree (param s i) c o) b w = cc
dyn-passed W S P A (tree l c o) b w = refl

dyn-reached : (W : World) (d : ℕ) (S P : ℕ → Bool) (A c : Trees) → begins_with_bound c ≡ true → well_written S P c ≡ true
    → walks-local (dyn_met W (Some d) c) ≡ true
    → before (of_home W d) (allowed S P) (dyn_met W None (instantiate zero A c)) ≡ true
dyn-reached W d S P A none b w h = cc
dyn-reached W d S P A (tree (principal n t) c o) b w h =
    dyn-one-reached (of_home W d) (allowed S P) t _ (trait_is (λ x. d == x.home) W t) (nobody-trait (traits_named W t)) refl (left (P t) _ w) h
dyn-reached W d S P A (tree (param s i) c o) b w h = cc
dyn-reached W d S P A (tree l c o) b w h = cc

-- PASSED: what a walk without a decisive item meets is written in the header, on every instance
pub passed : (W : World) (d : Option ℕ) (S P : ℕ → Bool) (A t : Trees) → Fits A t → well_written S P t ≡ true → clean (visited W d t) ≡ true
    → list_all (allowed S P) (visited W None (instantiate zero A t)) ≡ true
passed W d S P A none f w h = refl
passed W d S P A (tree (ref m) c o) f w h =
    each-append (allowed S P) (visited W None (instantiate zero A c)) (visited W None (instantiate zero A o))
    (passed W d S P A c f.0 (left (well_written S P c) _ w) (clean-left (visited W d c) (visited W d o) h))
    (passed W d S P A o f.1 (right (well_written S P c) _ w) (clean-right (visited W d c) (visited W d o) h))
passed W d S P A (tree (adt s) c o) f w h =
    let names : S s ≡ true = left (S s) _ w in
    let rest = right (S s) _ w in
    let here = struct-met W d s (visited W d c) in
    let there = struct-met W None s (visited W None (instantiate zero A c)) in
    each-append (allowed S P) there (visited W None (instantiate zero A o))
    (struct-passed (allowed S P) s _ (struct_is (λ x. is_home d x.home) W s) (struct_is (λ x. x.is_fundamental) W s) (visited W d c) (visited W None (instantiate zero A c))
    (nobody (structs_named W s)) names names (passed W d S P A c f.0 (left (well_written S P c) _ rest)) (clean-left here (visited W d o) h))
    (passed W d S P A o f.1 (right (well_written S P c) _ rest) (clean-right here (visited W d o) h))
passed W d S P A (tree dynamic c o) f w h =
    let rest = right (begins_with_bound c) _ w in
    each-append (allowed S P) (dyn_met W None (instantiate zero A c)) (visited W None (instantiate zero A o))
    (dyn-passed W S P A c (left (begins_with_bound c) _ w) (left (well_written S P c) _ rest))
    (passed W d S P A o f.1 (right (well_written S P c) _ rest) (clean-right (dyn_met W d c) (visited W d o) h))
passed W d S P A (tree (param of_type i) c o) f w h = cc
passed W d S P A (tree (param of_const i) c o) f w h =
    subst (λ z. list_all (allowed S P) z ≡ true) (sym (skipped W None (nth A i) (instantiate zero A o) (const-unseen W None (nth A i) f.0)))
    (passed W d S P A o f.2 (right (well_written S P c) _ w) h)
passed W d S P A (tree (param of_lifetime i) c o) f w h =
    subst (λ z. list_all (allowed S P) z ≡ true) (sym (skipped W None (nth A i) (instantiate zero A o) (lifetime-unseen W None (nth A i) f.0)))
    (passed W d S P A o f.2 (right (well_written S P c) _ w) h)
passed W d S P A (tree (placeholder of_type i) c o) f w h = cc
passed W d S P A (tree (infer of_type i) c o) f w h = cc
passed W d S P A (tree (canonical of_type i) c o) f w h = cc
passed W d S P A (tree (bound of_type k i) c o) f w h = cc
passed W d S P A (tree (placeholder of_const i) c o) f w h = passed W d S P A o f.1 (right (well_written S P c) _ w) h
passed W d S P A (tree (infer of_const i) c o) f w h = passed W d S P A o f.1 (right (well_written S P c) _ w) h
passed W d S P A (tree (canonical of_const i) c o) f w h = passed W d S P A o f.1 (right (well_written S P c) _ w) h
passed W d S P A (tree (bound of_const k i) c o) f w h = passed W d S P A o f.1 (right (well_written S P c) _ w) h
passed W d S P A (tree (placeholder of_lifetime i) c o) f w h = passed W d S P A o f.1 (right (well_written S P c) _ w) h
passed W d S P A (tree (infer of_lifetime i) c o) f w h = passed W d S P A o f.1 (right (well_written S P c) _ w) h
passed W d S P A (tree (canonical of_lifetime i) c o) f w h = passed W d S P A o f.1 (right (well_written S P c) _ w) h
passed W d S P A (tree (bound of_lifetime k i) c o) f w h = passed W d S P A o f.1 (right (well_written S P c) _ w) h
passed W d S P A (tree (value n) c o) f w h = passed W d S P A o f.1 (right (well_written S P c) _ w) h
passed W d S P A (tree static c o) f w h = passed W d S P A o f.1 (right (well_written S P c) _ w) h
passed W d S P A (tree (principal n t) c o) f w h = passed W d S P A o f.1 (right (well_written S P c) _ (right (P t) _ w)) h
passed W d S P A (tree (auto_trait t) c o) f w h = passed W d S P A o f.1 (right (well_written S P c) _ (right (P t) _ w)) h
passed W d S P A (tree (predicate (of_trait t)) c o) f w h = passed W d S P A o f.1 (right (well_written S P c) _ (right (P t) _ w)) h
passed W d S P A (tree l c o) f w h = passed W d S P A o f.1 (right (well_written S P c) _ w) h

-- REACHED: where the walk of a header for d ends local, the open walk of every instance meets an item of d, and before it
-- no open place and nothing that isn't written in the header
pub reached : (W : World) (d : ℕ) (S P : ℕ → Bool) (A t : Trees) → Fits A t → well_written S P t ≡ true → walks-local (visited W (Some d) t) ≡ true
    → before (of_home W d) (allowed S P) (visited W None (instantiate zero A t)) ≡ true
reached W d S P A none f w h = cc
reached W d S P A (tree (ref m) c o) f w h =
    join (of_home W d) (allowed S P) (visited W (Some d) c) (visited W (Some d) o) (visited W None (instantiate zero A c)) (visited W None (instantiate zero A o))
    (reached W d S P A c f.0 (left (well_written S P c) _ w)) (passed W (Some d) S P A c f.0 (left (well_written S P c) _ w))
    (reached W d S P A o f.1 (right (well_written S P c) _ w)) h
reached W d S P A (tree (adt s) c o) f w h =
    let names : S s ≡ true = left (S s) _ w in
    let rest = right (S s) _ w in
    let wc : well_written S P c ≡ true = left (well_written S P c) _ rest in
    let b1 = struct_is (λ x. is_home (Some d) x.home) W s in
    let b2 = struct_is (λ x. x.is_fundamental) W s in
    join (of_home W d) (allowed S P)
    (struct-met W (Some d) s (visited W (Some d) c)) (visited W (Some d) o)
    (struct-met W None s (visited W None (instantiate zero A c))) (visited W None (instantiate zero A o))
    (struct-reached (of_home W d) (allowed S P) s _ b1 b2 (visited W (Some d) c) (visited W None (instantiate zero A c))
    (nobody (structs_named W s)) refl refl names names (reached W d S P A c f.0 wc))
    (struct-passed (allowed S P) s _ b1 b2 (visited W (Some d) c) (visited W None (instantiate zero A c))
    (nobody (structs_named W s)) names names (passed W (Some d) S P A c f.0 wc))
    (reached W d S P A o f.1 (right (well_written S P c) _ rest)) h
reached W d S P A (tree dynamic c o) f w h =
    let rest = right (begins_with_bound c) _ w in
    let b : begins_with_bound c ≡ true = left (begins_with_bound c) _ w in
    let wc : well_written S P c ≡ true = left (well_written S P c) _ rest in
    join (of_home W d) (allowed S P) (dyn_met W (Some d) c) (visited W (Some d) o) (dyn_met W None (instantiate zero A c)) (visited W None (instantiate zero A o))
    (dyn-reached W d S P A c b wc) (λ _. dyn-passed W S P A c b wc)
    (reached W d S P A o f.1 (right (well_written S P c) _ rest)) h
reached W d S P A (tree (param of_type i) c o) f w h = cc
reached W d S P A (tree (param of_const i) c o) f w h =
    subst (λ z. before (of_home W d) (allowed S P) z ≡ true) (sym (skipped W None (nth A i) (instantiate zero A o) (const-unseen W None (nth A i) f.0)))
    (reached W d S P A o f.2 (right (well_written S P c) _ w) h)
reached W d S P A (tree (param of_lifetime i) c o) f w h =
    subst (λ z. before (of_home W d) (allowed S P) z ≡ true) (sym (skipped W None (nth A i) (instantiate zero A o) (lifetime-unseen W None (nth A i) f.0)))
    (reached W d S P A o f.2 (right (well_written S P c) _ w) h)
reached W d S P A (tree (placeholder of_type i) c o) f w h = cc
reached W d S P A (tree (infer of_type i) c o) f w h = cc
reached W d S P A (tree (canonical of_type i) c o) f w h = cc
reached W d S P A (tree (bound of_type k i) c o) f w h = cc
reached W d S P A (tree (placeholder of_const i) c o) f w h = reached W d S P A o f.1 (right (well_written S P c) _ w) h
reached W d S P A (tree (infer of_const i) c o) f w h = reached W d S P A o f.1 (right (well_written S P c) _ w) h
reached W d S P A (tree (canonical of_const i) c o) f w h = reached W d S P A o f.1 (right (well_written S P c) _ w) h
reached W d S P A (tree (bound of_const k i) c o) f w h = reached W d S P A o f.1 (right (well_written S P c) _ w) h
reached W d S P A (tree (placeholder of_lifetime i) c o) f w h = reached W d S P A o f.1 (right (well_written S P c) _ w) h
reached W d S P A (tree (infer of_lifetime i) c o) f w h = reached W d S P A o f.1 (right (well_written S P c) _ w) h
reached W d S P A (tree (canonical of_lifetime i) c o) f w h = reached W d S P A o f.1 (right (well_written S P c) _ w) h
reached W d S P A (tree (bound of_lifetime k i) c o) f w h = reached W d S P A o f.1 (right (well_written S P c) _ w) h
reached W d S P A (tree (value n) c o) f w h = reached W d S P A o f.1 (right (well_written S P c) _ w) h
reached W d S P A (tree static c o) f w h = reached W d S P A o f.1 (right (well_written S P c) _ w) h
reached W d S P A (tree (principal n t) c o) f w h = reached W d S P A o f.1 (right (well_written S P c) _ (right (P t) _ w)) h
reached W d S P A (tree (auto_trait t) c o) f w h = reached W d S P A o f.1 (right (well_written S P c) _ (right (P t) _ w)) h
reached W d S P A (tree (predicate (of_trait t)) c o) f w h = reached W d S P A o f.1 (right (well_written S P c) _ (right (P t) _ w)) h
reached W d S P A (tree l c o) f w h = reached W d S P A o f.1 (right (well_written S P c) _ w) h

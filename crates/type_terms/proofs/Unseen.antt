-- Impls of crates that a crate does not see conclude only what is not knowable to it, and impls of two crates that do
-- not see each other do not overlap.
use Rattle.std.proofs.Common.{◌≡◌, ℕ, zero, Bool, true, false, List, [], ◌∷◌, ap, sym, ◌∙◌, ◌==◌, subst, ◌⊎◌, inl, inr, Some, None}
use Rattle.std.specs.List.{list_all}
use Rattle.type_terms.specs.Promised.Trees.{Trees, instantiate, Fits}
use Rattle.type_terms.specs.Promised.Worlds.{World, Reference, StructDecl, TraitDecl, structs_named, traits_named, sees, with_args}
use Rattle.type_terms.specs.Promised.Walks.{Met, local, struct_leaf, dyn_leaf, entered, other_leaf, open_place, struct_is, trait_is, visited, until_decisive, open_walk, keeps_orphan_rule, seen, is_known}
use Rattle.type_terms.specs.Promised.Versions.{well_written, sees_struct, sees_trait, in_scope}
use Rattle.type_terms.proofs.WalkLists.{of_home, allowed, before}
use Rattle.type_terms.specs.Promised.Proofs.{In}
use Rattle.type_terms.proofs.Members.{in-filter, some-member, same-number, not-both, so-false}
use Rattle.type_terms.proofs.Walking.{left, right, or-cases, reached, walks-local}

pub struct-there : (p : StructDecl → Bool) (W : World) (s : ℕ) → struct_is p W s ≡ true → (x : StructDecl) × In x W.structs × (x.name ≡ s) × (p x ≡ true)
struct-there p W s h =
    let a = some-member p (structs_named W s) h in
    let b = in-filter (λ x. x.name == s) W.structs a.0 a.1 in
    (a.0, b.0, same-number _ s b.1, a.2)

pub trait-there : (p : TraitDecl → Bool) (W : World) (t : ℕ) → trait_is p W t ≡ true → (x : TraitDecl) × In x W.traits × (x.name ≡ t) × (p x ≡ true)
trait-there p W t h =
    let a = some-member p (traits_named W t) h in
    let b = in-filter (λ x. x.name == t) W.traits a.0 a.1 in
    (a.0, b.0, same-number _ t b.1, a.2)

-- one name stands for one item
abbrev pub OneEach : World → Type 0
OneEach W = ((x y : StructDecl) → In x W.structs → In y W.structs → x.name ≡ y.name → x ≡ y) × ((x y : TraitDecl) → In x W.traits → In y W.traits → x.name ≡ y.name → x ≡ y)

struct-home : (W : World) → OneEach W → (d e s : ℕ) → struct_is (λ x. d == x.home) W s ≡ true → sees_struct W e s ≡ true → sees W e d ≡ true
struct-home W one d e s h g =
    let x = struct-there (λ x. d == x.home) W s h in
    let y = struct-there (λ x. sees W e x.home) W s g in
    let same : y.0 ≡ x.0 = one.0 y.0 x.0 y.1 x.1 (y.2 ∙ sym x.2) in
    subst (λ (z : ℕ). sees W e z ≡ true) (ap (λ (z : StructDecl). z.home) same ∙ sym (same-number d x.0.home x.3)) y.3

pub trait-home : (W : World) → OneEach W → (d e t : ℕ) → trait_is (λ x. d == x.home) W t ≡ true → sees_trait W e t ≡ true → sees W e d ≡ true
trait-home W one d e t h g =
    let x = trait-there (λ x. d == x.home) W t h in
    let y = trait-there (λ x. sees W e x.home) W t g in
    let same : y.0 ≡ x.0 = one.1 y.0 x.0 y.1 x.1 (y.2 ∙ sym x.2) in
    subst (λ (z : ℕ). sees W e z ≡ true) (ap (λ (z : TraitDecl). z.home) same ∙ sym (same-number d x.0.home x.3)) y.3

-- the trait's home, by the test of the orphan rule
pub own-trait : (W : World) → OneEach W → (d e t : ℕ) → trait_is (λ x. x.home == d) W t ≡ true → sees_trait W e t ≡ true → sees W e d ≡ true
own-trait W one d e t h g =
    let x = trait-there (λ x. x.home == d) W t h in
    let y = trait-there (λ x. sees W e x.home) W t g in
    let same : y.0 ≡ x.0 = one.1 y.0 x.0 y.1 x.1 (y.2 ∙ sym x.2) in
    subst (λ (z : ℕ). sees W e z ≡ true) (ap (λ (z : TraitDecl). z.home) same ∙ same-number x.0.home d x.3) y.3

-- An item of d that e names, or that is seen by e
pub item-named : (W : World) → OneEach W → (d e : ℕ) (m : Met) → of_home W d m ≡ true → allowed (sees_struct W e) (sees_trait W e) m ≡ true → sees W e d ≡ true
item-named W one d e (struct_leaf s) h g = struct-home W one d e s h g
item-named W one d e (entered s) h g = struct-home W one d e s h g
item-named W one d e (dyn_leaf t) h g = trait-home W one d e t h g
item-named W one d e local h g = cc
item-named W one d e other_leaf h g = cc
item-named W one d e open_place h g = cc

item-seen : (W : World) → OneEach W → (d c : ℕ) (m : Met) → of_home W d m ≡ true → seen W c m ≡ true → sees W c d ≡ true
item-seen W one d c (struct_leaf s) h g = struct-home W one d c s h g
item-seen W one d c (entered s) h g = struct-home W one d c s h g
item-seen W one d c (dyn_leaf t) h g = trait-home W one d c t h g
item-seen W one d c local h g = cc
item-seen W one d c other_leaf h g = cc
item-seen W one d c open_place h g = cc

-- an open walk that meets an item of d before any open place, and of which c sees everything
met-seen : (W : World) → OneEach W → (d c : ℕ) (S P : ℕ → Bool) (ms : List Met) → before (of_home W d) (allowed S P) ms ≡ true
    → list_all (seen W c) (until_decisive ms) ≡ true → sees W c d ≡ true
met-seen W one d c S P [] h g = cc
met-seen W one d c S P (local ∷ ms) h g = cc
met-seen W one d c S P (open_place ∷ ms) h g = cc
met-seen W one d c S P (struct_leaf s ∷ ms) h g = by (or-cases (of_home W d (struct_leaf s)) _ (right (S s) _ h)) (met-seen W one d c S P ms)
  where
    by : (of_home W d (struct_leaf s) ≡ true) ⊎ (before (of_home W d) (allowed S P) ms ≡ true)
        → (before (of_home W d) (allowed S P) ms ≡ true → list_all (seen W c) (until_decisive ms) ≡ true → sees W c d ≡ true) → sees W c d ≡ true
    by (inl e) f = item-seen W one d c (struct_leaf s) e (left (seen W c (struct_leaf s)) _ g)
    by (inr e) f = f e (right (seen W c (struct_leaf s)) _ g)
met-seen W one d c S P (entered s ∷ ms) h g = by (or-cases (of_home W d (entered s)) _ (right (S s) _ h)) (met-seen W one d c S P ms)
  where
    by : (of_home W d (entered s) ≡ true) ⊎ (before (of_home W d) (allowed S P) ms ≡ true)
        → (before (of_home W d) (allowed S P) ms ≡ true → list_all (seen W c) (until_decisive ms) ≡ true → sees W c d ≡ true) → sees W c d ≡ true
    by (inl e) f = item-seen W one d c (entered s) e (left (seen W c (entered s)) _ g)
    by (inr e) f = f e (right (seen W c (entered s)) _ g)
met-seen W one d c S P (dyn_leaf t ∷ ms) h g = by (or-cases (of_home W d (dyn_leaf t)) _ (right (P t) _ h)) (met-seen W one d c S P ms)
  where
    by : (of_home W d (dyn_leaf t) ≡ true) ⊎ (before (of_home W d) (allowed S P) ms ≡ true)
        → (before (of_home W d) (allowed S P) ms ≡ true → list_all (seen W c) (until_decisive ms) ≡ true → sees W c d ≡ true) → sees W c d ≡ true
    by (inl e) f = item-seen W one d c (dyn_leaf t) e (left (seen W c (dyn_leaf t)) _ g)
    by (inr e) f = f e (right (seen W c (dyn_leaf t)) _ g)
met-seen W one d c S P (other_leaf ∷ ms) h g = met-seen W one d c S P ms h g

-- two headers' walks over one reference: the crate whose item comes second names the other's item
names-other : (W : World) → OneEach W → (d e : ℕ) (ms : List Met)
    → before (of_home W d) (allowed (sees_struct W d) (sees_trait W d)) ms ≡ true
    → before (of_home W e) (allowed (sees_struct W e) (sees_trait W e)) ms ≡ true
    → (sees W e d ≡ true) ⊎ (sees W d e ≡ true)
names-other W one d e [] h g = cc
names-other W one d e (m ∷ ms) h g =
    by (or-cases (of_home W d m) _ (right (allowed (sees_struct W d) (sees_trait W d) m) _ h))
    (or-cases (of_home W e m) _ (right (allowed (sees_struct W e) (sees_trait W e) m) _ g))
    (names-other W one d e ms)
  where
    by : (of_home W d m ≡ true) ⊎ (before (of_home W d) (allowed (sees_struct W d) (sees_trait W d)) ms ≡ true)
        → (of_home W e m ≡ true) ⊎ (before (of_home W e) (allowed (sees_struct W e) (sees_trait W e)) ms ≡ true)
        → (before (of_home W d) (allowed (sees_struct W d) (sees_trait W d)) ms ≡ true → before (of_home W e) (allowed (sees_struct W e) (sees_trait W e)) ms ≡ true
        → (sees W e d ≡ true) ⊎ (sees W d e ≡ true))
        → (sees W e d ≡ true) ⊎ (sees W d e ≡ true)
    by (inl p) q f = inl (item-named W one d e m p (left (allowed (sees_struct W e) (sees_trait W e) m) _ g))
    by (inr p) (inl q) f = inr (item-named W one e d m q (left (allowed (sees_struct W d) (sees_trait W d) m) _ h))
    by (inr p) (inr q) f = f p q

-- THE WALK LEMMA. S and P are any tests that the header's names pass: only the shape of `dyn` is asked
pub walk-lemma : (W : World) → OneEach W → (c d : ℕ) (S P : ℕ → Bool) (h : Reference) (A : Trees) → Fits A h.args → well_written S P h.args ≡ true
    → keeps_orphan_rule W d h ≡ true → sees W c d ≡ false → is_known W c (with_args A h) ≡ false
walk-lemma W one c d S P h A f w k n = so-false _ (λ g. not-both (sees W c d) (by g (or-cases (trait_is (λ x. x.home == d) W h.trait) _ k)) n)
  where
    by : is_known W c (with_args A h) ≡ true → (trait_is (λ x. x.home == d) W h.trait ≡ true) ⊎ (walks-local (visited W (Some d) h.args) ≡ true) → sees W c d ≡ true
    by g (inl e) = own-trait W one d c h.trait e (left (sees_trait W c h.trait) _ g)
    by g (inr e) =
        met-seen W one d c S P (visited W None (instantiate zero A h.args)) (reached W d S P A h.args f w e)
        (left (list_all (seen W c) (open_walk W (with_args A h))) _ (right (sees_trait W c h.trait) _ g))

-- Two headers of crates that don't see each other have no common instance, closed or not
pub apart : (W : World) → OneEach W → (d e : ℕ) (h k : Reference) (A B : Trees) → Fits A h.args → Fits B k.args
    → in_scope W d h ≡ true → in_scope W e k ≡ true → keeps_orphan_rule W d h ≡ true → keeps_orphan_rule W e k ≡ true
    → with_args A h ≡ with_args B k → (sees W e d ≡ true) ⊎ (sees W d e ≡ true)
apart W one d e h k A B fa fb sh sk oh ok same =
    by (or-cases (trait_is (λ x. x.home == d) W h.trait) _ oh) (or-cases (trait_is (λ x. x.home == e) W k.trait) _ ok)
  where
    traits : h.trait ≡ k.trait
    traits = ap (λ (r : Reference). r.trait) same

    args : instantiate zero B k.args ≡ instantiate zero A h.args
    args = sym (ap (λ (r : Reference). r.args) same)

    by : (trait_is (λ x. x.home == d) W h.trait ≡ true) ⊎ (walks-local (visited W (Some d) h.args) ≡ true)
        → (trait_is (λ x. x.home == e) W k.trait ≡ true) ⊎ (walks-local (visited W (Some e) k.args) ≡ true)
        → (sees W e d ≡ true) ⊎ (sees W d e ≡ true)
    by (inl p) q = inl (own-trait W one d e h.trait p (subst (λ z. sees_trait W e z ≡ true) (sym traits) (left (sees_trait W e k.trait) _ sk)))
    by (inr p) (inl q) = inr (own-trait W one e d k.trait q (subst (λ z. sees_trait W d z ≡ true) traits (left (sees_trait W d h.trait) _ sh)))
    by (inr p) (inr q) =
        names-other W one d e (visited W None (instantiate zero A h.args))
        (reached W d (sees_struct W d) (sees_trait W d) A h.args fa (right (sees_trait W d h.trait) _ sh) p)
        (subst (λ z. before (of_home W e) (allowed (sees_struct W e) (sees_trait W e)) (visited W None z) ≡ true) args
        (reached W e (sees_struct W e) (sees_trait W e) B k.args fb (right (sees_trait W e k.trait) _ sk) q))

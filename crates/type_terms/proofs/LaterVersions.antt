-- A crate in a set with later versions of the crates that it uses: the set concludes what the crate saw before, and
-- what they have added is not knowable to it.
use Rattle.std.proofs.Common.{◌≡◌, ℕ, zero, Bool, true, false, List, [], ◌∷◌, ◌++◌, suc, refl, ap, sym, ◌∙◌, ◌&&◌, ◌||◌, ◌==◌, if◌then◌else◌, subst, ◌⊎◌, inl, inr, Some, None, IsTrue}
use Rattle.std.specs.List.{flat_map, list_all, list_any}
use Rattle.type_terms.specs.Promised.Label.{Label, of_type, of_const, of_lifetime, dynamic, static, adt, value, ref, principal, param, placeholder, infer, canonical, bound}
use Rattle.type_terms.specs.Promised.Trees.{Trees, none, tree, instantiate, Fits}
use Rattle.type_terms.specs.Trees.{arguments}
use Rattle.type_terms.specs.Promised.Worlds.{World, Reference, TraitDecl, ImplDecl, structs_named, traits_named, sees, view_of, with_args}
use Rattle.type_terms.specs.Promised.Walks.{Met, local, struct_leaf, dyn_leaf, entered, struct_is, trait_is, dyn_met, visited, open_walk, walk, ends_local, keeps_orphan_rule, seen, is_known, is_known_in}
use Rattle.type_terms.specs.Promised.Rules.{clause_rules, super_rules, same_reference, by_clause, Rule, rules, impl_rules, built_in_rules, strict_supertraits, is_auto, is_written, same_head}
use Rattle.type_terms.specs.Promised.Proofs.{ProofEntry, In, Every, Follows, HasProof}
use Rattle.type_terms.specs.Promised.Answers.{is_closed, children, is_bounded, is_possible, CommonInstance, IsFixedClause}
use Rattle.type_terms.specs.Promised.Renumbering.{View}
use Rattle.type_terms.specs.Promised.LinkedSet.{JoinedSet, LinkedSet, Cleared}
use Rattle.type_terms.specs.LinkedSet.{Unknown}
use Rattle.type_terms.specs.Promised.Versions.{in_scope, sees_struct, sees_trait}
use Rattle.type_terms.specs.Promised.Versions.{Added, with_impls, SeesLaterVersions}
use Rattle.type_terms.proofs.WalkLists.{clean, allowed, of_home}
use Rattle.type_terms.proofs.Members.{in-filter, filter-in, some-member, member-some, in-append, in-left, in-right, in-flat, flat-in, true-or-false, not-both, so-false, same-number, self-number}
use Rattle.type_terms.proofs.Walking.{left, right, or-left, or-right, or-cases, passed, walks-local, local-cases, nobody, nobody-trait}
use Rattle.type_terms.proofs.Unseen.{OneEach, own-trait, item-named}
use Rattle.type_terms.proofs.Fitting.{impl-rule, closed-arguments}
use Rattle.type_terms.proofs.RenumberedTrees.{bool-same}
use Rattle.type_terms.proofs.OpenWorld.{open-world}
use Rattle.type_terms.proofs.ViewKnown.{known-by-view, unknown-by-view}
use Rattle.type_terms.proofs.ViewProofs.{proof-up}
use Rattle.type_terms.proofs.NoTwo.{one-way, added-clean, added-trait, later-version}
use Rattle.type_terms.proofs.NoHolds.{Shut, shut, supers-of-view, member-each, no-holds, impossible-clears}
use Rattle.type_terms.proofs.OtherImpls.{supers-same, built-in-same, known-same}

-- A walk for c that ends local meets an item of c, and so does the open walk
any-left : (p : Met → Bool) (xs ys : List Met) → list_any p xs ≡ true → list_any p (xs ++ ys) ≡ true
any-left p [] ys h = cc
any-left p (x ∷ xs) ys h = by (or-cases (p x) _ h) (any-left p xs ys)
  where
    by : (p x ≡ true) ⊎ (list_any p xs ≡ true) → (list_any p xs ≡ true → list_any p (xs ++ ys) ≡ true) → p x || list_any p (xs ++ ys) ≡ true
    by (inl e) f = or-left (p x) _ e
    by (inr e) f = or-right (p x) _ (f e)

any-right : (p : Met → Bool) (xs ys : List Met) → list_any p ys ≡ true → list_any p (xs ++ ys) ≡ true
any-right p [] ys h = h
any-right p (x ∷ xs) ys h = or-right (p x) _ (any-right p xs ys h)

abbrev Local : World → ℕ → List Met → List Met → Type 0
Local W c xs ys = walks-local xs ≡ true → list_any (of_home W c) ys ≡ true

local-join : (W : World) (c : ℕ) (xs ys xs' ys' : List Met) → Local W c xs xs' → Local W c ys ys' → Local W c (xs ++ ys) (xs' ++ ys')
local-join W c xs ys xs' ys' f k h = by (local-cases xs ys h)
  where
    by : (walks-local xs ≡ true) ⊎ ((clean xs ≡ true) × (walks-local ys ≡ true)) → list_any (of_home W c) (xs' ++ ys') ≡ true
    by (inl e) = any-left (of_home W c) xs' ys' (f e)
    by (inr e) = any-right (of_home W c) xs' ys' (k e.1)

abbrev met-struct : Bool → Bool → ℕ → List Met → List Met
met-struct b0 b2 s xs = if b0 then local ∷ [] else if b2 then entered s ∷ xs else struct_leaf s ∷ []

local-struct : (W : World) (c s : ℕ) (b0 b1 b2 : Bool) (xs xs' : List Met) → b0 ≡ false → struct_is (λ x. c == x.home) W s ≡ b1
    → Local W c xs xs' → Local W c (met-struct b1 b2 s xs) (met-struct b0 b2 s xs')
local-struct W c s true b1 b2 xs xs' z e f h = cc
local-struct W c s false true true xs xs' z e f h = or-left (of_home W c (entered s)) _ e
local-struct W c s false true false xs xs' z e f h = or-left (of_home W c (struct_leaf s)) _ e
local-struct W c s false false true xs xs' z e f h = or-right (of_home W c (entered s)) _ (f h)
local-struct W c s false false false xs xs' z e f h = cc

local-dyn : (W : World) (c : ℕ) (k : Trees) → Local W c (dyn_met W (Some c) k) (dyn_met W None k)
local-dyn W c none h = cc
local-dyn W c (tree (principal n t) k o) h = by (trait_is (λ x. false) W t) (trait_is (λ x. c == x.home) W t) (nobody-trait (traits_named W t)) refl h
  where
    by : (b0 b1 : Bool) → b0 ≡ false → trait_is (λ x. c == x.home) W t ≡ b1 → Local W c ((if b1 then local else dyn_leaf t) ∷ []) ((if b0 then local else dyn_leaf t) ∷ [])
    by true b1 z e g = cc
    by false true z e g = or-left (of_home W c (dyn_leaf t)) _ e
    by false false z e g = cc
local-dyn W c (tree l k o) h = cc

local-met : (W : World) (c : ℕ) (a : Trees) → Local W c (visited W (Some c) a) (visited W None a)
local-met W c none h = cc
local-met W c (tree (ref m) k o) h = local-join W c (visited W (Some c) k) (visited W (Some c) o) (visited W None k) (visited W None o) (local-met W c k) (local-met W c o) h
local-met W c (tree (adt s) k o) h =
    let b0 = struct_is (λ x. false) W s in
    let b1 = struct_is (λ x. c == x.home) W s in
    let b2 = struct_is (λ x. x.is_fundamental) W s in
    local-join W c (met-struct b1 b2 s (visited W (Some c) k)) (visited W (Some c) o) (met-struct b0 b2 s (visited W None k)) (visited W None o)
    (local-struct W c s b0 b1 b2 (visited W (Some c) k) (visited W None k) (nobody (structs_named W s)) refl (local-met W c k)) (local-met W c o) h
local-met W c (tree dynamic k o) h =
    local-join W c (dyn_met W (Some c) k) (visited W (Some c) o) (dyn_met W None k) (visited W None o) (local-dyn W c k) (local-met W c o) h
local-met W c (tree (param of_type i) k o) h = cc
local-met W c (tree (placeholder of_type i) k o) h = cc
local-met W c (tree (infer of_type i) k o) h = cc
local-met W c (tree (canonical of_type i) k o) h = cc
local-met W c (tree (bound of_type n i) k o) h = cc
local-met W c (tree (param of_const i) k o) h = local-met W c o h
local-met W c (tree (placeholder of_const i) k o) h = local-met W c o h
local-met W c (tree (infer of_const i) k o) h = local-met W c o h
local-met W c (tree (canonical of_const i) k o) h = local-met W c o h
local-met W c (tree (bound of_const n i) k o) h = local-met W c o h
local-met W c (tree (param of_lifetime i) k o) h = local-met W c o h
local-met W c (tree (placeholder of_lifetime i) k o) h = local-met W c o h
local-met W c (tree (infer of_lifetime i) k o) h = local-met W c o h
local-met W c (tree (canonical of_lifetime i) k o) h = local-met W c o h
local-met W c (tree (bound of_lifetime n i) k o) h = local-met W c o h
local-met W c (tree (value n) k o) h = local-met W c o h
local-met W c (tree static k o) h = local-met W c o h
local-met W c (tree l k o) h = local-met W c o h

-- an item of c among those that d names
some-named : (W : World) → OneEach W → (c d : ℕ) (ms : List Met) → list_any (of_home W c) ms ≡ true → list_all (allowed (sees_struct W d) (sees_trait W d)) ms ≡ true → sees W d c ≡ true
some-named W one c d ms h g =
    let m = some-member (of_home W c) ms h in
    item-named W one c d m.0 m.2 (member-each (allowed (sees_struct W d) (sees_trait W d)) ms m.0 g m.1)

-- THE SECOND WALK LEMMA: what an impl that a later version of d may add concludes is unknown to each crate that d does not see
pub added-unknown : (W : World) → OneEach W → (c d : ℕ) (i : ImplDecl) → Added W d i → sees W d c ≡ false → (A : Trees) → Fits A i.header.args
    → is_known W c (with_args A i.header) ≡ false
added-unknown W one c d i a e A f = so-false _ (λ g. not-both (sees W d c) (by (or-cases _ _ (decisive g))) e)
  where
    decisive : is_known W c (with_args A i.header) ≡ true
        → trait_is (λ x. (x.home == c) || x.is_fundamental) W i.header.trait || ends_local (walk W c (with_args A i.header)) ≡ true
    decisive g = right (list_all (seen W c) (open_walk W (with_args A i.header))) _ (right (sees_trait W c i.header.trait) _ g)

    by : (trait_is (λ x. (x.home == c) || x.is_fundamental) W i.header.trait ≡ true) ⊎ (ends_local (walk W c (with_args A i.header)) ≡ true) → sees W d c ≡ true
    by (inl g) = of-trait (or-cases (x.0.home == c) x.0.is_fundamental x.2)
      where
        x : (x : TraitDecl) × In x (traits_named W i.header.trait) × ((x.home == c) || x.is_fundamental ≡ true)
        x = some-member (λ (x : TraitDecl). (x.home == c) || x.is_fundamental) (traits_named W i.header.trait) g

        of-trait : ((x.0.home == c) ≡ true) ⊎ (x.0.is_fundamental ≡ true) → sees W d c ≡ true
        of-trait (inl q) =
            own-trait W one c d i.header.trait (member-some (λ (y : TraitDecl). y.home == c) (traits_named W i.header.trait) x.0 x.1 q) (left (sees_trait W d i.header.trait) _ a.scope)
        of-trait (inr q) =
            absurd (not-both (trait_is (λ y. y.is_fundamental) W i.header.trait) (member-some (λ (y : TraitDecl). y.is_fundamental) (traits_named W i.header.trait) x.0 x.1 q) (added-trait W d i a).0)
    by (inr g) =
        some-named W one c d (visited W None (instantiate zero A i.header.args)) (local-met W c (instantiate zero A i.header.args) g)
        (passed W None (sees_struct W d) (sees_trait W d) A i.header.args f (right (sees_trait W d i.header.trait) _ a.scope)
        (added-clean W d i a))

-- A crate that stood in the set with the impls `is`
module _ (W : World) (vs : List View) (rank : ℕ → ℕ) (l : JoinedSet W vs rank) (c : ℕ) (is : List ImplDecl) (s : SeesLaterVersions W c is) where
  abbrev V : World
  V = view_of W c

  abbrev U : World
  U = with_impls V is

  one : OneEach W
  one = (l.fits.one_struct, l.fits.one_trait)

  seen-home : (i : ImplDecl) → In i V.impls → In i W.impls × (sees W c i.home ≡ true)
  seen-home i h = in-filter (λ (x : ImplDecl). sees W c x.home) W.impls i h

  -- a crate that c sees sees c only if it is c
  never-back : (d : ℕ) → sees W c d ≡ true → (d ≡ c → ⊥) → sees W d c ≡ false
  never-back d h ne = so-false _ (λ g. ne (sym (one-way W vs rank l c d h g)))

  -- an impl of its view that it did not have is of another crate, and may be added there
  pub added-since : (i : ImplDecl) → In i V.impls → In i is ⊎ ((i.home ≡ c → ⊥) × Added W i.home i)
  added-since i h = by (s.later.added i h) (true-or-false (i.home == c))
    where
      by : In i is ⊎ Added W i.home i → ((i.home == c) ≡ true) ⊎ ((i.home == c) ≡ false) → In i is ⊎ ((i.home ≡ c → ⊥) × Added W i.home i)
      by (inl g) e = inl g
      by (inr a) (inl e) = inl (s.own i h (same-number i.home c e))
      by (inr a) (inr e) = inr ((λ q. not-both (i.home == c) (subst (λ n. (i.home == n) ≡ true) q (self-number i.home)) e), a)

  -- no impl of an auto trait was added
  auto-set : (t : ℕ) → is_auto V t ≡ true → is_auto W t ≡ true
  auto-set t h =
      let x = some-member (λ (y : TraitDecl). y.is_auto) (traits_named V t) h in
      let a = in-filter (λ (y : TraitDecl). y.name == t) V.traits x.0 x.1 in
      member-some (λ (y : TraitDecl). y.is_auto) (traits_named W t) x.0 (filter-in (λ (y : TraitDecl). y.name == t) W.traits x.0 (in-filter (λ (y : TraitDecl). sees W c y.home) W.traits x.0 a.0).0 a.1) x.2

  written-same : (t : ℕ) → is_auto V t ≡ true → (k : Label) → is_written U t k ≡ is_written V t k
  written-same t h k = bool-same (is_written U t k) (is_written V t k) there back
    where
      test : ImplDecl → Bool
      test i = (i.header.trait == t) && same_head k i.header.args

      there : is_written U t k ≡ true → is_written V t k ≡ true
      there g = let i = some-member test is g in member-some test V.impls i.0 (s.later.stand i.0 i.1) i.2

      back : is_written V t k ≡ true → is_written U t k ≡ true
      back g = by (added-since i.0 i.1)
        where
          i : (i : ImplDecl) × In i V.impls × (test i ≡ true)
          i = some-member test V.impls g

          by : In i.0 is ⊎ ((i.0.home ≡ c → ⊥) × Added W i.0.home i.0) → is_written U t k ≡ true
          by (inl q) = member-some test is i.0 q i.2
          by (inr q) =
              absurd (not-both (is_auto W i.0.header.trait)
              (subst (λ n. is_auto W n ≡ true) (sym (same-number i.0.header.trait t (left (i.0.header.trait == t) _ i.2))) (auto-set t h)) (added-trait W i.0.home i.0 q.1).1)

  built-in-before : (r : Reference) → built_in_rules U r ≡ built_in_rules V r
  built-in-before r = built-in-same V V.crates is r (written-same r.trait)

  -- the rules that c had are rules of its view still
  clauses-before : (r : Reference) (k : ℕ) (E : List Reference) → clause_rules U r k E ≡ clause_rules V r k E
  clauses-before r k [] = refl
  clauses-before r k (x ∷ xs) =
      let own = if same_reference x r then record { way = by_clause k; premises = [] } ∷ [] else [] in
      ap (λ zs. own ++ (super_rules r k 0 zs ++ clause_rules U r (suc k) xs)) (supers-same V V.crates is x)
      ∙ ap (λ us. own ++ (super_rules r k 0 (strict_supertraits V x) ++ us)) (clauses-before r (suc k) xs)

  pub rules-of-view : (E : List Reference) (r : Reference) (u : Rule) → In u (rules U E r) → In u (rules V E r)
  rules-of-view E r u h = by (in-append u (flat_map (impl_rules r) is) (built_in_rules U r ++ clause_rules U r 0 E) h)
    where
      by : In u (flat_map (impl_rules r) is) ⊎ In u (built_in_rules U r ++ clause_rules U r 0 E) → In u (rules V E r)
      by (inl g) = let m = in-flat (impl_rules r) is u g in in-left u (flat_map (impl_rules r) V.impls) (built_in_rules V r ++ clause_rules V r 0 E) (flat-in (impl_rules r) V.impls m.0 u (s.later.stand m.0 m.1) m.2)
      by (inr g) = in-right u (flat_map (impl_rules r) V.impls) (built_in_rules V r ++ clause_rules V r 0 E) (subst (λ us. In u (us ++ clause_rules V r 0 E)) (built-in-before r) (subst (λ us. In u (built_in_rules U r ++ us)) (clauses-before r 0 E) g))

  -- and a rule of its view that it did not have is that of an added impl
  split : (r : Reference) (u : Rule) → In u (rules V [] r)
      → In u (rules U [] r) ⊎ ((i : ImplDecl) × In i V.impls × (i.home ≡ c → ⊥) × Added W i.home i × In u (impl_rules r i))
  split r u h = by (in-append u (flat_map (impl_rules r) V.impls) (built_in_rules V r ++ []) h)
    where
      by : In u (flat_map (impl_rules r) V.impls) ⊎ In u (built_in_rules V r ++ [])
          → In u (rules U [] r) ⊎ ((i : ImplDecl) × In i V.impls × (i.home ≡ c → ⊥) × Added W i.home i × In u (impl_rules r i))
      by (inl g) = pick (added-since m.0 m.1)
        where
          m : (i : ImplDecl) × In i V.impls × In u (impl_rules r i)
          m = in-flat (impl_rules r) V.impls u g

          pick : In m.0 is ⊎ ((m.0.home ≡ c → ⊥) × Added W m.0.home m.0)
              → In u (rules U [] r) ⊎ ((i : ImplDecl) × In i V.impls × (i.home ≡ c → ⊥) × Added W i.home i × In u (impl_rules r i))
          pick (inl q) = inl (in-left u (flat_map (impl_rules r) is) (built_in_rules U r ++ []) (flat-in (impl_rules r) is m.0 u q m.2))
          pick (inr q) = inr (m.0, m.1, q.0, q.1, m.2)
      by (inr g) = inl (in-right u (flat_map (impl_rules r) is) (built_in_rules U r ++ []) (subst (λ us. In u (us ++ [])) (sym (built-in-before r)) g))

  -- known, as c could tell
  pub known-before : (r : Reference) → is_known_in U c r ≡ true → is_known W c r ≡ true
  known-before r h = known-by-view W one c r (sym (known-same V V.crates is c r) ∙ h)

  pub unknown-before : (r : Reference) → is_known W c r ≡ false → is_known_in U c r ≡ false
  unknown-before r h = known-same V V.crates is c r ∙ unknown-by-view W one c r h

  pub supers-before : (r x : Reference) → In x (strict_supertraits U r) → In x (strict_supertraits W r)
  supers-before r x h = supers-of-view W c r x (subst (λ xs. In x xs) (supers-same V V.crates is r) h)

  -- what c could tell leads from closed references to closed ones
  shut-before : Shut U c
  shut-before r x z h = shut W vs rank l c r x z (by (in-append x (flat_map (λ (u : Rule). u.premises) (rules U [] r)) (if is_known_in U c r then [] else strict_supertraits U r) h))
    where
      by : In x (flat_map (λ (u : Rule). u.premises) (rules U [] r)) ⊎ In x (if is_known_in U c r then [] else strict_supertraits U r) → In x (children V c r)
      by (inl g) =
          let u = in-flat (λ (u : Rule). u.premises) (rules U [] r) x g in
          in-left x (flat_map (λ (u : Rule). u.premises) (rules V [] r)) (if is_known_in V c r then [] else strict_supertraits V r)
          (flat-in (λ (u : Rule). u.premises) (rules V [] r) u.0 x (rules-of-view [] r u.0 u.1) u.2)
      by (inr g) =
          in-right x (flat_map (λ (u : Rule). u.premises) (rules V [] r)) (if is_known_in V c r then [] else strict_supertraits V r)
          (subst (λ b. In x (if b then [] else strict_supertraits V r)) (known-same V V.crates is c r)
          (subst (λ xs. In x (if is_known_in U c r then [] else xs)) (supers-same V V.crates is r) g))

  -- a proof by the rules that c had
  follows-before : (E : List Reference) (all earlier rest : List ProofEntry) → Follows U E all earlier rest → Follows V E all earlier rest
  follows-before E all earlier [] f = tt
  follows-before E all earlier (e ∷ rest) f = (rules-of-view E e.of e.rule f.0, f.1, follows-before E all (earlier ++ e ∷ []) rest f.2)

  pub proof-before : (E : List Reference) (r : Reference) → HasProof U E r → HasProof W E r
  proof-before E r p = proof-up W vs rank l c E r (p.0, follows-before E p.0 [] p.0 p.1, p.2)

  -- an impl of c and one that was added have no common instance
  pub added-apart : (i j : ImplDecl) → In i W.impls → i.home ≡ c → In j V.impls → (j.home ≡ c → ⊥) → Added W j.home j → CommonInstance i j → ⊥
  added-apart i j hi e hj ne a m =
      later-version W vs rank l c j.home (seen-home j hj).1 (λ q. ne (sym q)) j i a
      (subst (λ n. in_scope W n i.header ≡ true) e (l.rules.headers_in_scope i hi)) (subst (λ n. keeps_orphan_rule W n i.header ≡ true) e (l.orphan_rule i hi))
      (record { left = m.right; right = m.left; left_closed = m.right_closed; right_closed = m.left_closed; left_fits = m.right_fits; right_fits = m.left_fits; equal = sym m.equal })

-- the same in a linked set
module _ (W : World) (vs : List View) (rank : ℕ → ℕ) (l : LinkedSet W vs rank) (c : ℕ) (is : List ImplDecl) (s : SeesLaterVersions W c is) where
  -- THE OPEN WORLD, with later versions: a rule of W is one that c had, or the reference is unknown to c and has its supertraits proved
  pub open-before : (r : Reference) → IsTrue (is_closed r.args) → (u : Rule) → In u (rules W [] r) → Every (HasProof W []) u.premises → In u (rules (with_impls (view_of W c) is) [] r) ⊎ Unknown W c r
  open-before r z u h ps = by (open-world W vs rank l c r z u h ps)
    where
      by : In u (rules (view_of W c) [] r) ⊎ Unknown W c r → In u (rules (with_impls (view_of W c) is) [] r) ⊎ Unknown W c r
      by (inr g) = inr g
      by (inl g) = pick (split W vs rank l.joined c is s r u g)
        where
          pick : In u (rules (with_impls (view_of W c) is) [] r) ⊎ ((i : ImplDecl) × In i (view_of W c).impls × (i.home ≡ c → ⊥) × Added W i.home i × In u (impl_rules r i)) → In u (rules (with_impls (view_of W c) is) [] r) ⊎ Unknown W c r
          pick (inl q) = inl q
          pick (inr q) =
              let i = q.0 in
              let m = seen-home W vs rank l.joined c is s i q.1 in
              let b = impl-rule r i u q.4 in
              let A = arguments i.params i.header.args r.args in
              inr (record {
                unknown = subst (λ (x : Reference). is_known W c x ≡ false) b.is-instance (added-unknown W (l.joined.fits.one_struct, l.joined.fits.one_trait) c i.home i q.3 (never-back W vs rank l.joined c is s i.home m.1 q.2) A b.fitting);
                supers_stand =
                    subst (λ (x : Reference). Every (HasProof W []) (strict_supertraits W x)) b.is-instance
                    (l.supers_proved i m.0 A (closed-arguments i.params i.header.args r.args z) b.fitting (subst (λ (v : Rule). Every (HasProof W []) v.premises) (sym b.is-rule) ps));
              })

  -- `no` holds
  pub no-before : (limit : ℕ) (r : Reference) → is_bounded limit (with_impls (view_of W c) is) c r ≡ true → is_possible limit (with_impls (view_of W c) is) c r ≡ false → HasProof W [] r → ⊥
  no-before = no-holds W c (with_impls (view_of W c) is) open-before (unknown-before W vs rank l.joined c is s) (supers-before W vs rank l.joined c is s) (shut-before W vs rank l.joined c is s)

  pub clears-before : (limit : ℕ) (i j : ImplDecl) (r : Reference) → IsFixedClause i j r → is_bounded limit (with_impls (view_of W c) is) c r ≡ true → is_possible limit (with_impls (view_of W c) is) c r ≡ false → Cleared W i j
  clears-before = impossible-clears W c (with_impls (view_of W c) is) open-before (unknown-before W vs rank l.joined c is s) (supers-before W vs rank l.joined c is s) (shut-before W vs rank l.joined c is s)

-- as a law
pub later-unknown : (W : World) (vs : List View) (rank : ℕ → ℕ) → LinkedSet W vs rank → (c d : ℕ) (i : ImplDecl) → sees W d c ≡ false → Added W d i → (A : Trees) → Fits A i.header.args
    → is_known W c (with_args A i.header) ≡ false
later-unknown W vs rank l c d i e a A f = added-unknown W (l.joined.fits.one_struct, l.joined.fits.one_trait) c d i a e A f

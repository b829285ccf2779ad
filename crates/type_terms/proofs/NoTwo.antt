-- In a linked set whose checked pairs are cleared, no closed trait reference has proofs by two impls. Then, the impls
-- that later versions add.
use Rattle.std.proofs.Common.{◌≡◌, ℕ, zero, suc, ◌<◌, Bool, true, false, List, [], ◌∷◌, refl, ap, sym, ◌∙◌, ◌||◌, ◌&&◌, not, ◌==◌, if◌then◌else◌, subst, ◌⊎◌, inl, inr, Some, None, IsTrue, map, arith, length}
use Rattle.std.specs.List.{list_all, list_any}
use Rattle.type_terms.specs.Promised.Label.{of_type, of_const, of_lifetime, dynamic, static, adt, value, ref, principal, param, placeholder, infer, canonical, bound}
use Rattle.type_terms.specs.Promised.Trees.{Trees, none, tree, instantiate, Fits}
use Rattle.type_terms.specs.Trees.{arguments}
use Rattle.type_terms.specs.Promised.Worlds.{World, CrateDecl, Reference, ImplDecl, core, structs_named, traits_named, crates_named, sees, sees_within, with_args}
use Rattle.type_terms.specs.Promised.Walks.{Met, local, struct_leaf, dyn_leaf, entered, other_leaf, open_place, struct_is, trait_is, dyn_met, visited, until_decisive, keeps_orphan_rule, is_known}
use Rattle.type_terms.specs.Promised.Rules.{Rule, by_impl, rules, impl_rules}
use Rattle.type_terms.specs.Promised.Proofs.{ProofEntry, In, Every, HasProof, HasProofByImpl}
use Rattle.type_terms.specs.Promised.Answers.{is_closed, CommonInstance}
use Rattle.type_terms.specs.Promised.Renumbering.{View}
use Rattle.type_terms.specs.Promised.Versions.{Added, is_open_place, open_walk_meets_param, in_scope, sees_struct, sees_trait}
use Rattle.type_terms.specs.Promised.LinkedSet.{JoinedSet, Cleared}
use Rattle.type_terms.specs.LinkedSet.{Visited}
use Rattle.type_terms.proofs.WalkLists.{clean, allowed, before, of_home}
use Rattle.type_terms.proofs.Members.{in-filter, some-member, same-number, not-both}
use Rattle.type_terms.proofs.Walking.{left, right, or-cases, reached, passed, walks-local, nobody, nobody-trait, each-append}
use Rattle.type_terms.proofs.Unseen.{OneEach, apart, own-trait, item-named, walk-lemma}
use Rattle.type_terms.proofs.Fitting.{ByImpl, impl-rule, closed-arguments, not-true}
use Rattle.type_terms.proofs.ProofEntries.{entry-proved, of-an-impl}

-- One proof by an impl gives the impl, its arguments and its proved clauses
record Won (W : World) (r : Reference) (n : ℕ) : Type 0 where
  which : ImplDecl
  stands : In which W.impls
  named : which.name ≡ n
  args : Trees
  args-closed : IsTrue (is_closed args)
  fitting : Fits args which.header.args
  is-instance : with_args args which.header ≡ r
  clauses : Every (HasProof W []) (map (with_args args) which.clauses)

won : (W : World) (r : Reference) → IsTrue (is_closed r.args) → (n : ℕ) → HasProofByImpl W [] r n → Won W r n
won W r z n h = record {
  which = i;
  stands = m.1;
  named = name (ap (λ (v : Rule). v.way) b.is-rule ∙ h.5);
  args = A;
  args-closed = closed-arguments i.params i.header.args r.args z;
  fitting = b.fitting;
  is-instance = b.is-instance;
  clauses = subst (λ (v : Rule). Every (HasProof W []) v.premises) (sym b.is-rule) p.1;
}
  where
    e : ProofEntry
    e = h.1

    p : In e.rule (rules W [] e.of) × Every (HasProof W []) e.rule.premises
    p = entry-proved W [] h.0 h.2 e h.3

    m : (i : ImplDecl) × In i W.impls × In e.rule (impl_rules r i)
    m = of-an-impl W r e.rule n (subst (λ (q : Reference). In e.rule (rules W [] q)) h.4 p.0) h.5

    i : ImplDecl
    i = m.0

    A : Trees
    A = arguments i.params i.header.args r.args

    b : ByImpl r i e.rule
    b = impl-rule r i e.rule m.2

    name : by_impl i.name ≡ by_impl n → i.name ≡ n
    name q = cc

-- a common instance of two impls by which r has proofs
abbrev meet : (W : World) (r : Reference) (n k : ℕ) (x : Won W r n) (y : Won W r k) → CommonInstance x.which y.which
meet W r n k x y = record {
  left = x.args;
  right = y.args;
  left_closed = x.args-closed;
  right_closed = y.args-closed;
  left_fits = x.fitting;
  right_fits = y.fitting;
  equal = x.is-instance ∙ sym y.is-instance;
}

-- the walk lemma, as a law
pub unseen-unknown : (W : World) (vs : List View) (rank : ℕ → ℕ) → JoinedSet W vs rank → (c : ℕ) (i : ImplDecl) → In i W.impls → sees W c i.home ≡ false
    → (A : Trees) → Fits A i.header.args → is_known W c (with_args A i.header) ≡ false
unseen-unknown W vs rank l c i m e A f =
    walk-lemma W (l.fits.one_struct, l.fits.one_trait) c i.home (sees_struct W i.home) (sees_trait W i.home) i.header A f
    (right (sees_trait W i.home i.header.trait) _ (l.rules.headers_in_scope i m)) (l.orphan_rule i m) e

pub common-apart : (W : World) (vs : List View) (rank : ℕ → ℕ) → JoinedSet W vs rank → (i j : ImplDecl) → In i W.impls → In j W.impls → CommonInstance i j
    → (sees W j.home i.home ≡ true) ⊎ (sees W i.home j.home ≡ true)
common-apart W vs rank l i j hi hj m =
    apart W (l.fits.one_struct, l.fits.one_trait) i.home j.home i.header j.header m.left m.right m.left_fits m.right_fits
    (l.rules.headers_in_scope i hi) (l.rules.headers_in_scope j hj) (l.orphan_rule i hi) (l.orphan_rule j hj) m.equal

-- As the theorem says it
pub no-common-instance : (W : World) (vs : List View) (rank : ℕ → ℕ) → JoinedSet W vs rank → (i j : ImplDecl) → In i W.impls → In j W.impls
    → sees W i.home j.home ≡ false → sees W j.home i.home ≡ false → CommonInstance i j → ⊥
no-common-instance W vs rank l i j hi hj a b m = by (common-apart W vs rank l i j hi hj m)
  where
    by : (sees W j.home i.home ≡ true) ⊎ (sees W i.home j.home ≡ true) → ⊥
    by (inl e) = not-both (sees W j.home i.home) e b
    by (inr e) = not-both (sees W i.home j.home) e a

-- NO TWO: with every visited pair cleared, the numbers of two impls by which a closed reference has proofs are one
less-or : (a b : ℕ) → (a ≡ b) ⊎ ((a < b) ⊎ (b < a))
less-or zero zero = inl refl
less-or zero (suc b) = inr (inl (omega arith))
less-or (suc a) zero = inr (inr (omega arith))
less-or (suc a) (suc b) = by (less-or a b)
  where
    by : (a ≡ b) ⊎ ((a < b) ⊎ (b < a)) → (suc a ≡ suc b) ⊎ ((suc a < suc b) ⊎ (suc b < suc a))
    by (inl e) = inl (ap suc e)
    by (inr (inl e)) = inr (inl (omega arith))
    by (inr (inr e)) = inr (inr (omega arith))

same-or : (a b : ℕ) → (a ≡ b) ⊎ (a ≡ b → ⊥)
same-or a b = by (less-or a b)
  where
    by : (a ≡ b) ⊎ ((a < b) ⊎ (b < a)) → (a ≡ b) ⊎ (a ≡ b → ⊥)
    by (inl e) = inl e
    by (inr (inl e)) = inr (λ q. absurd (omega (arith, q)))
    by (inr (inr e)) = inr (λ q. absurd (omega (arith, q)))

never-both : (W : World) (vs : List View) (rank : ℕ → ℕ) → JoinedSet W vs rank
    → ((i j : ImplDecl) → In i W.impls → In j W.impls → Visited W i j → Cleared W i j)
    → (r : Reference) (n k : ℕ) (x : Won W r n) (y : Won W r k) → k < n → ⊥
never-both W vs rank l ok r n k x y less =
    by (same-or x.which.home y.which.home) (common-apart W vs rank l x.which y.which x.stands y.stands (meet W r n k x y))
  where
    below : y.which.name < x.which.name
    below = omega (arith, x.named, y.named)

    forward : (sees W x.which.home y.which.home ≡ true) → (x.which.home ≡ y.which.home → y.which.name < x.which.name) → ⊥
    forward s f = ok x.which y.which x.stands y.stands (s, f) (meet W r n k x y) x.clauses y.clauses

    backward : (sees W y.which.home x.which.home ≡ true) → (y.which.home ≡ x.which.home → ⊥) → ⊥
    backward s ne = ok y.which x.which y.stands x.stands (s, (λ q. absurd (ne q))) (meet W r k n y x) y.clauses x.clauses

    turned : (a b : ℕ) → a ≡ b → sees W b a ≡ true → sees W a b ≡ true
    turned a b e s = subst (λ v. sees W a v ≡ true) e (subst (λ v. sees W v a ≡ true) (sym e) s)

    by : (x.which.home ≡ y.which.home) ⊎ (x.which.home ≡ y.which.home → ⊥)
        → (sees W y.which.home x.which.home ≡ true) ⊎ (sees W x.which.home y.which.home ≡ true) → ⊥
    by (inl e) (inl s) = forward (turned x.which.home y.which.home e s) (λ _. below)
    by (inl e) (inr s) = forward s (λ _. below)
    by (inr ne) (inl s) = backward s (λ q. ne (sym q))
    by (inr ne) (inr s) = forward s (λ q. absurd (ne q))

pub no-two : (W : World) (vs : List View) (rank : ℕ → ℕ) → JoinedSet W vs rank
    → ((i j : ImplDecl) → In i W.impls → In j W.impls → Visited W i j → Cleared W i j)
    → (r : Reference) → IsTrue (is_closed r.args) → (n k : ℕ) → HasProofByImpl W [] r n → HasProofByImpl W [] r k → n ≡ k
no-two W vs rank l ok r z n k hn hk = by (less-or n k)
  where
    by : (n ≡ k) ⊎ ((n < k) ⊎ (k < n)) → n ≡ k
    by (inl e) = e
    by (inr (inl e)) = absurd (never-both W vs rank l ok r k n (won W r z k hk) (won W r z n hn) e)
    by (inr (inr e)) = absurd (never-both W vs rank l ok r n k (won W r z n hn) (won W r z k hk) e)

-- The order of crates: no two crates see each other
pub sees-order : (n : ℕ) (W : World) (rank : ℕ → ℕ) → ((x : CrateDecl) (u : ℕ) → In x W.crates → In u x.uses → rank u < rank x.name)
    → (c d : ℕ) → sees_within n W c d ≡ true → (c ≡ d) ⊎ ((d ≡ core) ⊎ (rank d < rank c))
sees-order zero W rank o c d h = by (or-cases (c == d) (d == core) h)
  where
    by : ((c == d) ≡ true) ⊎ ((d == core) ≡ true) → (c ≡ d) ⊎ ((d ≡ core) ⊎ (rank d < rank c))
    by (inl e) = inl (same-number c d e)
    by (inr e) = inr (inl (same-number d core e))
sees-order (suc n) W rank o c d h = by (or-cases ((c == d) || (d == core)) (list_any (λ x. list_any (λ u. sees_within n W u d) x.uses) (crates_named W c)) h) (sees-order n W rank o)
  where
    by : ((c == d) || (d == core) ≡ true) ⊎ (list_any (λ (x : CrateDecl). list_any (λ u. sees_within n W u d) x.uses) (crates_named W c) ≡ true)
        → ((a b : ℕ) → sees_within n W a b ≡ true → (a ≡ b) ⊎ ((b ≡ core) ⊎ (rank b < rank a)))
        → (c ≡ d) ⊎ ((d ≡ core) ⊎ (rank d < rank c))
    by (inl e) f = near (or-cases (c == d) (d == core) e)
      where
        near : ((c == d) ≡ true) ⊎ ((d == core) ≡ true) → (c ≡ d) ⊎ ((d ≡ core) ⊎ (rank d < rank c))
        near (inl q) = inl (same-number c d q)
        near (inr q) = inr (inl (same-number d core q))
    by (inr e) f = far (f u.0 d u.2)
      where
        x : (x : CrateDecl) × In x (crates_named W c) × (list_any (λ u. sees_within n W u d) x.uses ≡ true)
        x = some-member (λ (x : CrateDecl). list_any (λ u. sees_within n W u d) x.uses) (crates_named W c) e

        m : In x.0 W.crates × ((x.0.name == c) ≡ true)
        m = in-filter (λ (y : CrateDecl). y.name == c) W.crates x.0 x.1

        u : (u : ℕ) × In u x.0.uses × (sees_within n W u d ≡ true)
        u = some-member (λ v. sees_within n W v d) x.0.uses x.2

        below : rank u.0 < rank c
        below = subst (λ v. rank u.0 < rank v) (same-number x.0.name c m.1) (o x.0 u.0 m.0 u.1)

        far : (u.0 ≡ d) ⊎ ((d ≡ core) ⊎ (rank d < rank u.0)) → (c ≡ d) ⊎ ((d ≡ core) ⊎ (rank d < rank c))
        far (inl q) = inr (inr (subst (λ v. rank v < rank c) q below))
        far (inr (inl q)) = inr (inl q)
        far (inr (inr q)) = inr (inr (omega (arith, q, below)))

pub one-way : (W : World) (vs : List View) (rank : ℕ → ℕ) → JoinedSet W vs rank → (c d : ℕ) → sees W c d ≡ true → sees W d c ≡ true → c ≡ d
one-way W vs rank l c d a b = by (sees-order (length W.crates) W rank l.fits.uses_before c d a) (sees-order (length W.crates) W rank l.fits.uses_before d c b)
  where
    bottom : (e : ℕ) → e ≡ core → rank e ≡ 0
    bottom e q = ap rank q ∙ l.fits.core_first

    by : (c ≡ d) ⊎ ((d ≡ core) ⊎ (rank d < rank c)) → (d ≡ c) ⊎ ((c ≡ core) ⊎ (rank c < rank d)) → c ≡ d
    by (inl e) q = e
    by (inr p) (inl e) = sym e
    by (inr (inl p)) (inr (inl q)) = q ∙ sym p
    by (inr (inl p)) (inr (inr q)) = absurd (omega (arith, bottom d p, q))
    by (inr (inr p)) (inr (inl q)) = absurd (omega (arith, bottom c q, p))
    by (inr (inr p)) (inr (inr q)) = absurd (omega (arith, p, q))

-- The open walk has no local item, so where it meets no open place it is clean
abbrev not-local : Met → Bool
not-local local = false
not-local _ = true

dyn-not-local : (W : World) (c : Trees) → list_all not-local (dyn_met W None c) ≡ true
dyn-not-local W none = refl
dyn-not-local W (tree (principal n t) c o) = by (trait_is (λ x. false) W t) (nobody-trait (traits_named W t))
  where
    by : (b : Bool) → b ≡ false → list_all not-local ((if b then local else dyn_leaf t) ∷ []) ≡ true
    by true z = cc
    by false z = refl
dyn-not-local W (tree l c o) = refl

pub meets-none-clean : (ms : List Met) → list_all not-local ms ≡ true → list_any is_open_place (until_decisive ms) ≡ false → clean ms ≡ true
meets-none-clean [] h g = refl
meets-none-clean (local ∷ ms) h g = cc
meets-none-clean (open_place ∷ ms) h g = cc
meets-none-clean (struct_leaf s ∷ ms) h g = meets-none-clean ms h g
meets-none-clean (dyn_leaf s ∷ ms) h g = meets-none-clean ms h g
meets-none-clean (entered s ∷ ms) h g = meets-none-clean ms h g
meets-none-clean (other_leaf ∷ ms) h g = meets-none-clean ms h g

pub never-local : (W : World) (t : Trees) → list_all not-local (visited W None t) ≡ true
never-local W none = refl
never-local W (tree (ref m) c o) = each-append not-local (visited W None c) (visited W None o) (never-local W c) (never-local W o)
never-local W (tree (adt s) c o) =
    each-append not-local (at (struct_is (λ x. false) W s) (struct_is (λ x. x.is_fundamental) W s)) (visited W None o)
    (by (struct_is (λ x. false) W s) (struct_is (λ x. x.is_fundamental) W s) (nobody (structs_named W s)) (never-local W c)) (never-local W o)
  where
    at : Bool → Bool → List Met
    at b0 b2 = if b0 then local ∷ [] else if b2 then entered s ∷ visited W None c else struct_leaf s ∷ []

    by : (b0 b2 : Bool) → b0 ≡ false → list_all not-local (visited W None c) ≡ true → list_all not-local (at b0 b2) ≡ true
    by true b2 z h = cc
    by false true z h = h
    by false false z h = refl
never-local W (tree dynamic c o) = each-append not-local (dyn_met W None c) (visited W None o) (dyn-not-local W c) (never-local W o)
never-local W (tree (param of_type i) c o) = never-local W o
never-local W (tree (placeholder of_type i) c o) = never-local W o
never-local W (tree (infer of_type i) c o) = never-local W o
never-local W (tree (canonical of_type i) c o) = never-local W o
never-local W (tree (bound of_type k i) c o) = never-local W o
never-local W (tree (param of_const i) c o) = never-local W o
never-local W (tree (placeholder of_const i) c o) = never-local W o
never-local W (tree (infer of_const i) c o) = never-local W o
never-local W (tree (canonical of_const i) c o) = never-local W o
never-local W (tree (bound of_const k i) c o) = never-local W o
never-local W (tree (param of_lifetime i) c o) = never-local W o
never-local W (tree (placeholder of_lifetime i) c o) = never-local W o
never-local W (tree (infer of_lifetime i) c o) = never-local W o
never-local W (tree (canonical of_lifetime i) c o) = never-local W o
never-local W (tree (bound of_lifetime k i) c o) = never-local W o
never-local W (tree (value n) c o) = never-local W o
never-local W (tree static c o) = never-local W o
never-local W (tree l c o) = never-local W o

-- the open walk of an impl that may be added
pub added-clean : (W : World) (d : ℕ) (i : ImplDecl) → Added W d i → clean (visited W None i.header.args) ≡ true
added-clean W d i a =
    meets-none-clean (visited W None i.header.args) (never-local W i.header.args)
    (not-true (open_walk_meets_param W i.header)
    (left (not (open_walk_meets_param W i.header)) (not (trait_is (λ x. x.is_fundamental) W i.header.trait) && not (trait_is (λ x. x.is_auto) W i.header.trait))
    (right (keeps_orphan_rule W d i.header) _ a.addable)))

-- its trait
pub added-trait : (W : World) (d : ℕ) (i : ImplDecl) → Added W d i → (trait_is (λ x. x.is_fundamental) W i.header.trait ≡ false) × (trait_is (λ x. x.is_auto) W i.header.trait ≡ false)
added-trait W d i a =
    let both = right (not (open_walk_meets_param W i.header)) (not (trait_is (λ x. x.is_fundamental) W i.header.trait) && not (trait_is (λ x. x.is_auto) W i.header.trait))
    (right (keeps_orphan_rule W d i.header) _ a.addable) in (
      not-true (trait_is (λ x. x.is_fundamental) W i.header.trait) (left (not (trait_is (λ x. x.is_fundamental) W i.header.trait)) _ both),
      not-true (trait_is (λ x. x.is_auto) W i.header.trait) (right (not (trait_is (λ x. x.is_fundamental) W i.header.trait)) _ both),
    )

-- an item of c before which all is fine, in a walk of which d names everything
names-it : (W : World) → OneEach W → (c d : ℕ) (q : Met → Bool) (ms : List Met) → before (of_home W c) q ms ≡ true
    → list_all (allowed (sees_struct W d) (sees_trait W d)) ms ≡ true → sees W d c ≡ true
names-it W one c d q [] h g = cc
names-it W one c d q (m ∷ ms) h g = by (or-cases (of_home W c m) _ (right (q m) _ h)) (names-it W one c d q ms)
  where
    by : (of_home W c m ≡ true) ⊎ (before (of_home W c) q ms ≡ true)
        → (before (of_home W c) q ms ≡ true → list_all (allowed (sees_struct W d) (sees_trait W d)) ms ≡ true → sees W d c ≡ true) → sees W d c ≡ true
    by (inl e) f = item-named W one c d m e (left (allowed (sees_struct W d) (sees_trait W d) m) _ g)
    by (inr e) f = f e (right (allowed (sees_struct W d) (sees_trait W d) m) _ g)

-- An impl that a later version of d adds has a common instance with a header of c only if d sees c
pub later-apart : (W : World) → OneEach W → (c d : ℕ) (i j : ImplDecl) → Added W d i → in_scope W c j.header ≡ true → keeps_orphan_rule W c j.header ≡ true
    → CommonInstance i j → sees W d c ≡ true
later-apart W one c d i j a sj oj m = by (or-cases (trait_is (λ x. x.home == c) W j.header.trait) _ oj)
  where
    traits : j.header.trait ≡ i.header.trait
    traits = sym (ap (λ (r : Reference). r.trait) m.equal)

    args : instantiate zero m.right j.header.args ≡ instantiate zero m.left i.header.args
    args = sym (ap (λ (r : Reference). r.args) m.equal)

    by : (trait_is (λ x. x.home == c) W j.header.trait ≡ true) ⊎ (walks-local (visited W (Some c) j.header.args) ≡ true) → sees W d c ≡ true
    by (inl p) = own-trait W one c d j.header.trait p (subst (λ z. sees_trait W d z ≡ true) (sym traits) (left (sees_trait W d i.header.trait) _ a.scope))
    by (inr p) =
        names-it W one c d (allowed (sees_struct W c) (sees_trait W c)) (visited W None (instantiate zero m.left i.header.args))
        (subst (λ z. before (of_home W c) (allowed (sees_struct W c) (sees_trait W c)) (visited W None z) ≡ true) args
        (reached W c (sees_struct W c) (sees_trait W c) m.right j.header.args m.right_fits (right (sees_trait W c j.header.trait) _ sj) p))
        (passed W None (sees_struct W d) (sees_trait W d) m.left i.header.args m.left_fits (right (sees_trait W d i.header.trait) _ a.scope)
        (added-clean W d i a))

-- so it has none with a header of a crate that uses the changed crate
pub later-version : (W : World) (vs : List View) (rank : ℕ → ℕ) → JoinedSet W vs rank → (c d : ℕ) → sees W c d ≡ true → (c ≡ d → ⊥)
    → (i j : ImplDecl) → Added W d i → in_scope W c j.header ≡ true → keeps_orphan_rule W c j.header ≡ true → CommonInstance i j → ⊥
later-version W vs rank l c d s ne i j a scope keeps m =
    ne (one-way W vs rank l c d s (later-apart W (l.fits.one_struct, l.fits.one_trait) c d i j a scope keeps m))

-- The crate `core` is a linked set, and so is a small world with it. Most conditions are tests that are computed. An
-- impl of `Copy` has proofs of its supertraits because an impl of `Clone` has the same header.
use Rattle.std.proofs.Common.{◌≡◌, ℕ, zero, ◌<◌, Bool, true, false, not, List, [], ◌∷◌, refl, ap, sym, ◌∙◌, ◌&&◌, ◌||◌, ◌==◌, if◌then◌else◌, subst, ◌⊎◌, inl, inr, arith, map, length, ltb, IsTrue}
use Rattle.std.proofs.lemmas.Bool.Decides.{nat_tests}
use Rattle.std.specs.List.{flat_map, list_all, list_any}
use Rattle.type_terms.specs.Promised.Label.{Label, Sort, bool, char, never, array, int, uint, adt, ref, raw_pointer, param, inside}
use Rattle.type_terms.specs.Codes.{same}
use Rattle.type_terms.specs.Promised.Trees.{Trees, none, tree, ◌+++◌, instantiate, some_node, Fits, is_sort}
use Rattle.type_terms.specs.Trees.{arguments}
use Rattle.type_terms.specs.Promised.Worlds.{World, Reference, CrateDecl, StructDecl, TraitDecl, ImplDecl, core, structs_named, traits_named, view_of, with_args, all_with_args}
use Rattle.type_terms.specs.Erased.{IsTerms, IsErasedTerm, IsCovered}
use Rattle.type_terms.specs.Promised.Rules.{sized_leaf, sized_struct, built_in, by_impl, Rule, row, impl_rules, sized_rules, is_auto, is_coinductive, same_reference, sized, clone, copy, asked, last_asked, each_asked, fields_of, strict_supertraits}
use Rattle.type_terms.specs.Promised.Proofs.{In, Every, HasProof}
use Rattle.type_terms.specs.Promised.Walks.{keeps_orphan_rule}
use Rattle.type_terms.specs.Promised.Answers.{is_closed}
use Rattle.type_terms.specs.Promised.Core.{core_world, box, box_impl, copy_impls, type_param}
use Rattle.type_terms.specs.Promised.Supers.{mentions_as, dyns_of_bounds}
use Rattle.type_terms.specs.Promised.LinkedSet.{LinkedSet, AllWritten, is_stray, dyns_rise}
use Rattle.type_terms.specs.LinkedSet.{all_written}
use Rattle.type_terms.specs.Promised.Versions.{in_scope}
use Rattle.type_terms.proofs.Members.{here, there, in-cases, in-nothing, in-append, in-left, in-filter, flat-in, some-member, member-some, same-number, self-number, not-both}
use Rattle.type_terms.proofs.Walking.{left, right, both, or-cases}
use Rattle.type_terms.proofs.TreeLaws.{shift-zero}
use Rattle.type_terms.proofs.Matching.{Occurs, same-sound, or-false-left as no-left, or-false-right as no-right}
use Rattle.type_terms.proofs.Fitting.{is-sort-sound, ByImpl, impl-rule, same-reference-sound, not-true}
use Rattle.type_terms.proofs.NoHolds.{member-each}
use Rattle.type_terms.proofs.OpenWorld.{Bare, bare-within}
use Rattle.type_terms.proofs.ProofLists.{by-rule}
use Rattle.type_terms.proofs.Applies.{applies, fits-complete, same-reference-complete}
use Rattle.type_terms.proofs.SupersProved.{CoreLike, Supers, in-sized, clone-supers, copy-supers, copy-has, copy-inductive, supers-of-all}
use Rattle.type_terms.proofs.CoreThere.{whole-there, whole-later}
use Rattle.type_terms.proofs.ArrangedTwice.{rising-in-order}
use Rattle.type_terms.proofs.JoinedParts.{terms-written, each-written}

-- Tests
-- no two have one key
abbrev distinct : {A : Type 0} → (A → ℕ) → List A → Bool
distinct key [] = true
distinct key (x ∷ xs) = not (list_any (λ y. key y == key x) xs) && distinct key xs

distinct-one : {A : Type 0} (key : A → ℕ) (xs : List A) → distinct key xs ≡ true → (x y : A) → In x xs → In y xs → key x ≡ key y → x ≡ y
distinct-one key [] h x y a b e = absurd (in-nothing x a)
distinct-one {A = A} key (z ∷ xs) h x y a b e = by (in-cases x z xs a) (in-cases y z xs b) (distinct-one key xs (right (not (list_any (λ w. key w == key z) xs)) _ h) x y)
  where
    alone : (w : A) → In w xs → key w ≡ key z → ⊥
    alone w g q =
        not-both (list_any (λ v. key v == key z) xs) (member-some (λ v. key v == key z) xs w g (subst (λ n. (key w == n) ≡ true) q (self-number (key w))))
        (not-true (list_any (λ v. key v == key z) xs) (left (not (list_any (λ v. key v == key z) xs)) _ h))

    by : (z ≡ x) ⊎ In x xs → (z ≡ y) ⊎ In y xs → (In x xs → In y xs → key x ≡ key y → x ≡ y) → x ≡ y
    by (inl p) (inl q) f = sym p ∙ q
    by (inl p) (inr q) f = absurd (alone y q (sym e ∙ ap key (sym p)))
    by (inr p) (inl q) f = absurd (alone x p (e ∙ ap key (sym q)))
    by (inr p) (inr q) f = f p q e

each-each : {A B : Type 0} (f : A → List B) (p : A → B → Bool) (xs : List A) → list_all (λ x. list_all (p x) (f x)) xs ≡ true → (x : A) (b : B) → In x xs → In b (f x) → p x b ≡ true
each-each f p xs h x b g k = member-each (p x) (f x) b (member-each (λ y. list_all (p y) (f y)) xs x h g) k

pub less : (a b : ℕ) → ltb a b ≡ true → a < b
less a b h = grind (arith, nat_tests)

abbrev pub nothing-written : List Reference → Bool
nothing-written [] = true
nothing-written (b ∷ bs) = false

-- each parameter of k stands in h, as the same sort
abbrev covers_as : Trees → Trees → Bool
covers_as none h = true
covers_as (tree (param s i) c o) h = mentions_as s i h && covers_as o h
covers_as (tree l c o) h = covers_as c h && covers_as o h

covers-all : (s : Sort) (n : ℕ) (k h : Trees) → covers_as k h ≡ true → mentions_as s n k ≡ true → mentions_as s n h ≡ true
covers-all s n none h e m = cc
covers-all s n (tree (param r j) c o) h e m = by (or-cases (is_sort s r && (n == j)) (mentions_as s n o) m) (covers-all s n o h (right (mentions_as r j h) _ e))
  where
    by : (is_sort s r && (n == j) ≡ true) ⊎ (mentions_as s n o ≡ true) → (mentions_as s n o ≡ true → mentions_as s n h ≡ true) → mentions_as s n h ≡ true
    by (inl q) f =
        subst (λ x. mentions_as s x h ≡ true) (sym (same-number n j (right (is_sort s r) _ q)))
        (subst (λ x. mentions_as x j h ≡ true) (sym (is-sort-sound s r (left (is_sort s r) _ q))) (left (mentions_as r j h) _ e))
    by (inr q) f = f q
covers-all s n (tree l c o) h e m = by (or-cases (mentions_as s n c) (mentions_as s n o) m) (covers-all s n c h (left (covers_as c h) _ e)) (covers-all s n o h (right (covers_as c h) _ e))
  where
    by : (mentions_as s n c ≡ true) ⊎ (mentions_as s n o ≡ true) → (mentions_as s n c ≡ true → mentions_as s n h ≡ true) → (mentions_as s n o ≡ true → mentions_as s n h ≡ true) → mentions_as s n h ≡ true
    by (inl q) f g = f q
    by (inr q) f g = g q

-- what can be tested of a world without impls of auto traits, whose crates and traits are numbered as they come
pub record Tested (W : World) : Type 0 where
  pub terms : IsTerms W
  pub core_there : view_of W core ≡ core_world
  pub structs : distinct (λ (x : StructDecl). x.name) W.structs ≡ true
  pub traits : distinct (λ (x : TraitDecl). x.name) W.traits ≡ true
  pub impls : distinct (λ (x : ImplDecl). x.name) W.impls ≡ true
  pub headers : list_all (λ (i : ImplDecl). in_scope W i.home i.header) W.impls ≡ true
  pub autos : list_all (λ (x : TraitDecl). not x.is_auto || nothing-written x.bounds) W.traits ≡ true
  pub not_of_autos : list_all (λ (i : ImplDecl). not (is_auto W i.header.trait)) W.impls ≡ true
  pub bounds : list_all (λ (x : TraitDecl). list_all (λ b. in_scope W x.home b && (ltb b.trait x.name && not (some_node is_stray b.args))) x.bounds) W.traits ≡ true
  pub clauses : list_all (λ (i : ImplDecl). list_all (λ k. not (some_node is_stray k.args)) i.clauses) W.impls ≡ true
  pub fields : list_all (λ (x : StructDecl). list_all (λ t. not (some_node is_stray t)) x.fields) W.structs ≡ true
  pub dyns : all_written dyns_rise W ≡ true
  pub plain_headers : list_all (λ (i : ImplDecl). not (some_node is_stray i.header.args)) W.impls ≡ true
  pub covered : list_all (λ (i : ImplDecl). list_all (λ k. covers_as k.args i.header.args) i.clauses) W.impls ≡ true
  pub sized_alone : list_all (λ (i : ImplDecl). not (i.header.trait == sized)) W.impls ≡ true
  pub dyns_hold_bounds : all_written dyns_of_bounds W ≡ true
  pub uses : list_all (λ (x : CrateDecl). list_all (λ u. ltb u x.name && list_any (λ (y : CrateDecl). y.name == u) W.crates) x.uses) W.crates ≡ true
  pub orphans : list_all (λ (i : ImplDecl). keeps_orphan_rule W i.home i.header) W.impls ≡ true

bare-auto : (x : TraitDecl) → not x.is_auto || nothing-written x.bounds ≡ true → x.is_auto ≡ true → x.bounds ≡ []
bare-auto x h e = by x.is_auto x.bounds h e
  where
    by : (b : Bool) (bs : List Reference) → not b || nothing-written bs ≡ true → b ≡ true → bs ≡ []
    by true [] h e = refl
    by true (r ∷ rs) h e = cc
    by false bs h e = cc

pub autos-bare : (W : World) → Tested W → (t : ℕ) (a : Trees) → is_auto W t ≡ true → strict_supertraits W (record { trait = t; args = a }) ≡ []
autos-bare W k t a h = bare-within (length W.traits) W t a bare
  where
    found : (x : TraitDecl) × In x (traits_named W t) × (x.is_auto ≡ true)
    found = some-member (λ (x : TraitDecl). x.is_auto) (traits_named W t) h

    named : In found.0 W.traits × ((found.0.name == t) ≡ true)
    named = in-filter (λ (y : TraitDecl). y.name == t) W.traits found.0 found.1

    bare : Bare W t
    bare y g n =
        let one : y ≡ found.0 = distinct-one (λ (x : TraitDecl). x.name) W.traits k.traits y found.0 g named.0 (n ∙ sym (same-number found.0.name t named.1)) in
        bare-auto y (member-each (λ (x : TraitDecl). not x.is_auto || nothing-written x.bounds) W.traits y k.autos g) (ap (λ (x : TraitDecl). x.is_auto) one ∙ found.2)

pub tested-linked : (W : World) → Tested W
    → ((i : ImplDecl) → In i W.impls → (A : Trees) → IsTrue (is_closed A) → Fits A i.header.args → Every (HasProof W []) (map (with_args A) i.clauses) → Supers W (with_args A i.header))
    → LinkedSet W [] (λ n. n)
tested-linked W t supers = record {
  joined = record {
    rules = record {
      plain = record {
        fields = λ x y h g. record {
          term = e.fields x y h g;
          open_places = not-true (some_node is_stray y) (each-each (λ (z : StructDecl). z.fields) (λ z q. not (some_node is_stray q)) W.structs t.fields x y h g);
          dyns = w.fields x y h g;
        };
        bounds = λ x b h g. record {
          term = e.bounds x b h g;
          open_places = not-true (some_node is_stray b.args) (right (ltb b.trait x.name) _ (right (in_scope W x.home b) _ (bound x b h g)));
          dyns = w.bounds x b h g;
        };
        headers = λ i h. record {
          term = e.headers i h;
          open_places = not-true (some_node is_stray i.header.args) (member-each (λ (j : ImplDecl). not (some_node is_stray j.header.args)) W.impls i t.plain_headers h);
          dyns = w.headers i h;
        };
        clauses = λ i k h g. record {
          term = e.clauses i k h g;
          open_places = not-true (some_node is_stray k.args) (each-each (λ (j : ImplDecl). j.clauses) (λ j q. not (some_node is_stray q.args)) W.impls t.clauses i k h g);
          dyns = w.clauses i k h g;
        };
      };
      headers_in_scope = λ i h. member-each (λ (j : ImplDecl). in_scope W j.home j.header) W.impls i t.headers h;
      bounds_in_scope = λ x b h g. left (in_scope W x.home b) _ (bound x b h g);
      trait_rank = λ n. n;
      supers_before = λ x b h g. less b.trait x.name (left (ltb b.trait x.name) _ (right (in_scope W x.home b) _ (bound x b h g)));
      autos_bare = λ x h e. bare-auto x (member-each (λ (y : TraitDecl). not y.is_auto || nothing-written y.bounds) W.traits x t.autos h) e;
      autos_at_home = λ i h e. absurd (not-both (is_auto W i.header.trait) e (not-true (is_auto W i.header.trait) (member-each (λ (j : ImplDecl). not (is_auto W j.header.trait)) W.impls i t.not_of_autos h)));
      clauses_covered = λ i k h g s n. covers-all s n k.args i.header.args (each-each (λ (j : ImplDecl). j.clauses) (λ j q. covers_as q.args j.header.args) W.impls t.covered i k h g);
      sized_alone = λ i h. not-true (i.header.trait == sized) (member-each (λ (j : ImplDecl). not (j.header.trait == sized)) W.impls i t.sized_alone h);
    };
    fits = record {
      core_there = whole-there W t.core_there;
      core_later = whole-later W t.core_there;
      core_first = refl;
      uses_before = λ x u h g. less u x.name (left (ltb u x.name) _ (used x u h g));
      uses_stand = λ x u h g. right (ltb u x.name) _ (used x u h g);
      one_struct = distinct-one (λ (x : StructDecl). x.name) W.structs t.structs;
      one_trait = distinct-one (λ (x : TraitDecl). x.name) W.traits t.traits;
      one_impl = distinct-one (λ (x : ImplDecl). x.name) W.impls t.impls;
      dyns_in_order = rising-in-order W t.dyns;
    };
    orphan_rule = λ i h. member-each (λ (j : ImplDecl). keeps_orphan_rule W j.home j.header) W.impls i t.orphans h;
    as_answered = tt;
  };
  supers_proved = supers;
}
  where
    e : AllWritten IsErasedTerm W
    e = terms-written W t.terms

    w : AllWritten (λ t. dyns_of_bounds t ≡ true) W
    w = each-written dyns_of_bounds W t.dyns_hold_bounds

    bound : (x : TraitDecl) (b : Reference) → In x W.traits → In b x.bounds → in_scope W x.home b && (ltb b.trait x.name && not (some_node is_stray b.args)) ≡ true
    bound x b h g = each-each (λ (y : TraitDecl). y.bounds) (λ y q. in_scope W y.home q && (ltb q.trait y.name && not (some_node is_stray q.args))) W.traits t.bounds x b h g

    used : (x : CrateDecl) (u : ℕ) → In x W.crates → In u x.uses → ltb u x.name && list_any (λ (y : CrateDecl). y.name == u) W.crates ≡ true
    used x u h g = each-each (λ (y : CrateDecl). y.uses) (λ y v. ltb v y.name && list_any (λ (z : CrateDecl). z.name == v) W.crates) W.crates t.uses x u h g

-- Core's impls
-- types that are `Sized` without a premise, and are no parameter
abbrev sized-plainly : Label → Bool
sized-plainly bool = true
sized-plainly char = true
sized-plainly never = true
sized-plainly (int _) = true
sized-plainly (uint _) = true
sized-plainly (raw_pointer _) = true
sized-plainly (ref _) = true
sized-plainly array = true
sized-plainly _ = false

abbrev single-sized : Trees → Bool
single-sized (tree l c none) = sized-plainly l
single-sized _ = false

plain-row : (W : World) (l : Label) (c o : Trees) → sized-plainly l ≡ true → sized_rules W (tree l c o) ≡ row sized_leaf []
plain-row W bool c o h = refl
plain-row W char c o h = refl
plain-row W never c o h = refl
plain-row W (int n) c o h = refl
plain-row W (uint n) c o h = refl
plain-row W (raw_pointer b) c o h = refl
plain-row W (ref b) c o h = refl
plain-row W array c o h = refl
plain-row W l c o h = cc

abbrev leaf-rule : Rule
leaf-rule = record { way = built_in sized_leaf; premises = [] }

sized-plain : (W : World) (l : Label) (c : Trees) → sized-plainly l ≡ true → HasProof W [] (asked sized (tree l c none))
sized-plain W l c h =
    by-rule W [] (asked sized (tree l c none)) leaf-rule (in-sized W (tree l c none) leaf-rule (subst (λ us. In leaf-rule us) (sym (plain-row W l c none h)) (here leaf-rule []))) tt

record Plain (A t : Trees) : Type 0 where
  label : Label
  children : Trees
  is : instantiate zero A t ≡ tree label children none
  sized-is : sized-plainly label ≡ true

put-plain : (A t : Trees) → single-sized t ≡ true → Plain A t
put-plain A none h = cc
put-plain A (tree (param s i) c none) h = cc
put-plain A (tree l c none) h = record { label = l; children = instantiate (inside l zero) A c; is = refl; sized-is = h }
put-plain A (tree l c (tree m d o)) h = cc

-- the argument for the first parameter
first-form : (A : Trees) → (m : Label) × (d : Trees) × (instantiate zero A (type_param 0) ≡ tree m d none)
first-form none = (_, none, refl)
first-form (tree l c o) = (l, c, ap (λ z. z +++ none) (shift-zero zero (tree l c none)))

abbrev same-all : List Reference → List Reference → Bool
same-all [] [] = true
same-all (r ∷ rs) (s ∷ ss) = same_reference r s && same-all rs ss
same-all _ _ = false

same-all-sound : (rs ss : List Reference) → same-all rs ss ≡ true → rs ≡ ss
same-all-sound [] [] h = refl
same-all-sound [] (s ∷ ss) h = cc
same-all-sound (r ∷ rs) [] h = cc
same-all-sound (r ∷ rs) (s ∷ ss) h = join r s rs ss (same-reference-sound r s (left (same_reference r s) _ h)) (same-all-sound rs ss (right (same_reference r s) _ h))
  where
    join : (r s : Reference) (rs ss : List Reference) → r ≡ s → rs ≡ ss → r ∷ rs ≡ s ∷ ss
    join r s rs ss p q = cc

-- j is an impl of Clone with i's header and where-clauses
abbrev twin : ImplDecl → ImplDecl → Bool
twin i j = (j.header.trait == clone) && (same j.header.args i.header.args && ((j.params == i.params) && same-all j.clauses (map (λ k. asked clone k.args) i.clauses)))

abbrev clone-test : ImplDecl → Bool
clone-test i = (i.header.trait == clone) && single-sized i.header.args

abbrev copy-test : ImplDecl → Bool
copy-test i =
    (i.header.trait == copy)
    && (single-sized i.header.args && (list_all (λ k. same_reference k (asked copy (type_param 0))) i.clauses && list_any (twin i) core_world.impls))

clones : list_all clone-test (copy_impls 0 clone) ≡ true
clones = refl

copies : list_all copy-test (copy_impls 20 copy) ≡ true
copies = refl

module _ (W : World) (k : CoreLike W) (boxes : structs_named W box ≡ structs_named core_world box) (more : (i : ImplDecl) → In i core_world.impls → In i W.impls) where
  -- the reference of a rule
  at-self : (r : Reference) (i : ImplDecl) (t : ℕ) → with_args (arguments i.params i.header.args r.args) i.header ≡ r → i.header.trait ≡ t → (p : Plain (arguments i.params i.header.args r.args) i.header.args)
      → asked t (tree p.label p.children none) ≡ r
  at-self r i t e q p = join _ _ _ _ (sym q) (sym p.is) ∙ e
    where
      join : (t v : ℕ) (a b : Trees) → t ≡ v → a ≡ b → (let x : Reference = record { trait = t; args = a } in x) ≡ record { trait = v; args = b }
      join t v a b x y = cc

  clone-impl : (r : Reference) (i : ImplDecl) (u : Rule) → clone-test i ≡ true → In u (impl_rules r i) → Supers W r
  clone-impl r i u t h =
      let b = impl-rule r i u h in
      let p = put-plain (arguments i.params i.header.args r.args) i.header.args (right (i.header.trait == clone) _ t) in
      subst (Supers W) (at-self r i clone b.is-instance (same-number i.header.trait clone (left (i.header.trait == clone) _ t)) p)
      (subst (Every (HasProof W [])) (sym (clone-supers W k p.label p.children none)) (sized-plain W p.label p.children p.sized-is, tt))

  box-impl : (r : Reference) (u : Rule) → In u (impl_rules r box_impl) → Supers W r
  box-impl r u h =
      let b = impl-rule r box_impl u h in
      subst (Supers W) b.is-instance
      (subst (Every (HasProof W [])) (sym (clone-supers W k (adt box) x none)) (is-sized, tt))
    where
      x : Trees
      x = instantiate zero (arguments 1 (tree (adt box) (type_param 0) none) r.args) (type_param 0)

      f : StructDecl → List Rule
      f d = row sized_struct (last_asked sized (fields_of d x))

      pointer : Trees
      pointer = instantiate zero x (type_param 0)

      box-rule : Rule
      box-rule = record { way = built_in sized_struct; premises = asked sized (tree (raw_pointer false) pointer none) ∷ [] }

      is-sized : HasProof W [] (asked sized (tree (adt box) x none))
      is-sized =
          by-rule W [] (asked sized (tree (adt box) x none)) box-rule
          (in-sized W (tree (adt box) x none) box-rule (subst (λ ds. In box-rule (flat_map f ds)) (sym boxes) (here box-rule [])))
          (sized-plain W (raw_pointer false) pointer refl, tt)

  copy-impl : (r : Reference) (i : ImplDecl) (u : Rule) → copy-test i ≡ true → In u (impl_rules r i)
      → (is_coinductive W r.trait ≡ false → (p : Reference) → In p u.premises → Supers W p) → Supers W r
  copy-impl r i u t h before =
      subst (Supers W) (at-self r i copy b.is-instance trait p)
      (subst (Every (HasProof W [])) (sym (copy-supers W k p.label p.children none))
      (subst (λ a. HasProof W [] (asked clone a)) (ap (λ (x : Reference). x.args) (sym (at-self r i copy b.is-instance trait p))) cloned, (sized-plain W p.label p.children p.sized-is, tt)))
    where
      A : Trees
      A = arguments i.params i.header.args r.args

      b : ByImpl r i u
      b = impl-rule r i u h

      trait : i.header.trait ≡ copy
      trait = same-number i.header.trait copy (left (i.header.trait == copy) _ t)

      p : Plain A i.header.args
      p = put-plain A i.header.args (left (single-sized i.header.args) _ (right (i.header.trait == copy) _ t))

      t2 : list_all (λ (q : Reference). same_reference q (asked copy (type_param 0))) i.clauses && list_any (twin i) core_world.impls ≡ true
      t2 = right (single-sized i.header.args) _ (right (i.header.trait == copy) _ t)

      found : (j : ImplDecl) × In j core_world.impls × (twin i j ≡ true)
      found = some-member (twin i) core_world.impls (right (list_all (λ (q : Reference). same_reference q (asked copy (type_param 0))) i.clauses) _ t2)

      -- the twin, by i's parts
      j : ImplDecl
      j = record { name = found.0.name; home = found.0.home; params = i.params; header = asked clone i.header.args; clauses = map (λ (q : Reference). asked clone q.args) i.clauses }

      j-is : found.0 ≡ j
      j-is =
          let e1 = right (found.0.header.trait == clone) _ found.2 in
          let e2 = right (same found.0.header.args i.header.args) _ e1 in
          join found.0.name found.0.home _ _ _ _ _ _ _ _ (same-number found.0.params i.params (left (found.0.params == i.params) _ e2)) (same-number found.0.header.trait clone (left (found.0.header.trait == clone) _ found.2))
          (same-sound found.0.header.args i.header.args (left (same found.0.header.args i.header.args) _ e1)) (same-all-sound found.0.clauses _ (right (found.0.params == i.params) _ e2))
        where
          join : (n h p p' t t' : ℕ) (a a' : Trees) (ks ks' : List Reference) → p ≡ p' → t ≡ t' → a ≡ a' → ks ≡ ks'
              → (let x : ImplDecl = record { name = n; home = h; params = p; header = record { trait = t; args = a }; clauses = ks } in x)
              ≡ record { name = n; home = h; params = p'; header = record { trait = t'; args = a' }; clauses = ks' }
          join n h p p' t t' a a' ks ks' q1 q2 q3 q4 = cc

      s : Reference
      s = asked clone r.args

      args-are : instantiate zero A i.header.args ≡ r.args
      args-are = ap (λ (x : Reference). x.args) b.is-instance

      v : Rule
      v = record { way = by_impl j.name; premises = all_with_args A (map (λ (q : Reference). asked clone q.args) i.clauses) }

      there-if : (c : Bool) (w : Rule) → c ≡ true → In w (if c then w ∷ [] else [])
      there-if true w e = here w []
      there-if false w e = cc

      rule-is : In v (impl_rules s j)
      rule-is = there-if _ v (both _ _ (fits-complete A i.header.args b.fitting) (same-reference-complete (with_args A j.header) s (ap (λ a. asked clone a) args-are)))

      each : (ks : List Reference) → list_all (λ (q : Reference). same_reference q (asked copy (type_param 0))) ks ≡ true → ((q : Reference) → In q (all_with_args A ks) → Supers W q)
          → Every (HasProof W []) (all_with_args A (map (λ (q : Reference). asked clone q.args) ks))
      each [] g f = tt
      each (q ∷ ks) g f = (one, each ks (right (same_reference q (asked copy (type_param 0))) _ g) (λ x m. f x (there x (with_args A q) (all_with_args A ks) m)))
        where
          q-is : q ≡ asked copy (type_param 0)
          q-is = same-reference-sound q (asked copy (type_param 0)) (left (same_reference q (asked copy (type_param 0))) _ g)

          form : (m : Label) × (d : Trees) × (instantiate zero A (type_param 0) ≡ tree m d none)
          form = first-form A

          has : Supers W (asked copy (tree form.0 form.1 none))
          has = subst (λ a. Supers W (asked copy a)) form.2 (subst (λ (x : Reference). Supers W (with_args A x)) q-is (f (with_args A q) (here (with_args A q) (all_with_args A ks))))

          one : HasProof W [] (with_args A (asked clone q.args))
          one = subst (λ (x : Reference). HasProof W [] (with_args A (asked clone x.args))) (sym q-is) (subst (λ a. HasProof W [] (asked clone a)) (sym form.2) (copy-has W k form.0 form.1 none has).0)

      inductive : is_coinductive W r.trait ≡ false
      inductive = subst (λ n. is_coinductive W n ≡ false) (sym trait ∙ ap (λ (x : Reference). x.trait) b.is-instance) (copy-inductive W k)

      cloned : HasProof W [] (asked clone r.args)
      cloned =
          by-rule W [] s v (in-left v (flat_map (impl_rules s) W.impls) _ (flat-in (impl_rules s) W.impls j v (more j (subst (λ (x : ImplDecl). In x core_world.impls) j-is found.1)) rule-is))
          (each i.clauses (left (list_all (λ (q : Reference). same_reference q (asked copy (type_param 0))) i.clauses) _ t2)
          (λ q m. before inductive q (subst (λ (w : Rule). In q w.premises) b.is-rule m)))

  pub core-impl : (r : Reference) (i : ImplDecl) (u : Rule) → In i core_world.impls → In u (impl_rules r i)
      → (is_coinductive W r.trait ≡ false → (p : Reference) → In p u.premises → Supers W p) → Supers W r
  core-impl r i u h g before = by (in-append i (copy_impls 0 clone) (box_impl ∷ copy_impls 20 copy) h)
    where
      rest : (box_impl ≡ i) ⊎ In i (copy_impls 20 copy) → Supers W r
      rest (inl e) = box-impl r u (subst (λ (x : ImplDecl). In u (impl_rules r x)) (sym e) g)
      rest (inr m) = copy-impl r i u (member-each copy-test (copy_impls 20 copy) i copies m) g before

      by : In i (copy_impls 0 clone) ⊎ In i (box_impl ∷ copy_impls 20 copy) → Supers W r
      by (inl m) = clone-impl r i u (member-each clone-test (copy_impls 0 clone) i clones m) g
      by (inr m) = rest (in-cases i box_impl (copy_impls 20 copy) m)

-- Core's impls apply to all instances of their headers
abbrev too-high : ℕ → Label → Bool
too-high n (param s i) = not (ltb i n)
too-high n _ = false

occurs-below : (n j : ℕ) (t : Trees) → some_node (too-high n) t ≡ false → Occurs j t ≡ true → ltb j n ≡ true
occurs-below n j none h g = cc
occurs-below n j (tree (param s i) c o) h g = by (or-cases (j == i) (Occurs j o) g) (occurs-below n j o (no-right (not (ltb i n) || some_node (too-high n) c) (some_node (too-high n) o) h))
  where
    low : not (ltb i n) ≡ false → ltb i n ≡ true
    low = at (ltb i n)
      where
        at : (b : Bool) → not b ≡ false → b ≡ true
        at true e = refl
        at false e = cc

    by : ((j == i) ≡ true) ⊎ (Occurs j o ≡ true) → (Occurs j o ≡ true → ltb j n ≡ true) → ltb j n ≡ true
    by (inl e) f = subst (λ m. ltb m n ≡ true) (sym (same-number j i e)) (low (no-left (not (ltb i n)) (some_node (too-high n) c) (no-left (not (ltb i n) || some_node (too-high n) c) (some_node (too-high n) o) h)))
    by (inr e) f = f e
occurs-below n j (tree l c o) h g = by (or-cases (Occurs j c) (Occurs j o) g) (occurs-below n j c (no-left (some_node (too-high n) c) (some_node (too-high n) o) h)) (occurs-below n j o (no-right (some_node (too-high n) c) (some_node (too-high n) o) h))
  where
    by : (Occurs j c ≡ true) ⊎ (Occurs j o ≡ true) → (Occurs j c ≡ true → ltb j n ≡ true) → (Occurs j o ≡ true → ltb j n ≡ true) → ltb j n ≡ true
    by (inl e) f k = f e
    by (inr e) f k = k e

abbrev covers : ImplDecl → Bool
covers i = not (some_node (too-high i.params) i.header.args) && list_all (λ k. same k.args (type_param 0) && Occurs 0 i.header.args) i.clauses

all-covered : list_all covers core_world.impls ≡ true
all-covered = refl

pub covered : (i : ImplDecl) → covers i ≡ true → IsCovered i
covered i h = record {
  below = λ j g. less j i.params (occurs-below i.params j i.header.args (not-true (some_node (too-high i.params) i.header.args) (left (not (some_node (too-high i.params) i.header.args)) _ h)) g);
  in_header = λ k m j g. at k m j g;
}
  where
    at : (k : Reference) → In k i.clauses → (j : ℕ) → Occurs j k.args ≡ true → Occurs j i.header.args ≡ true
    at k m j g = zero-only (or-cases (j == 0) false (subst (λ t. Occurs j t ≡ true) (same-sound k.args (type_param 0) (left (same k.args (type_param 0)) _ q)) g))
      where
        q : same k.args (type_param 0) && Occurs 0 i.header.args ≡ true
        q = member-each (λ (x : Reference). same x.args (type_param 0) && Occurs 0 i.header.args) i.clauses k (right (not (some_node (too-high i.params) i.header.args)) _ h) m

        zero-only : ((j == 0) ≡ true) ⊎ (false ≡ true) → Occurs j i.header.args ≡ true
        zero-only (inl e) = subst (λ n. Occurs n i.header.args ≡ true) (sym (same-number j 0 e)) (right (same k.args (type_param 0)) _ q)
        zero-only (inr e) = cc

pub core-covered : (i : ImplDecl) → In i core_world.impls → IsCovered i
core-covered i h = covered i (member-each covers core_world.impls i all-covered h)

-- supertraits of what an impl of core concludes, in a world with further impls
module _ (W : World) (k : CoreLike W) (boxes : structs_named W box ≡ structs_named core_world box) (more : (i : ImplDecl) → In i core_world.impls → In i W.impls)
    (others : (i : ImplDecl) → In i W.impls → In i core_world.impls ⊎ ((r : Reference) (u : Rule) → In u (impl_rules r i) → Supers W r)) where
  each-impl : (r : Reference) (i : ImplDecl) (u : Rule) → In i W.impls → In u (impl_rules r i) → (is_coinductive W r.trait ≡ false → (p : Reference) → In p u.premises → Supers W p) → Supers W r
  each-impl r i u h g before = by (others i h)
    where
      by : In i core_world.impls ⊎ ((r : Reference) (u : Rule) → In u (impl_rules r i) → Supers W r) → Supers W r
      by (inl m) = core-impl W k boxes more r i u m g before
      by (inr f) = f r u g

  every-unit : (ps : List Reference) → Every (λ (r : Reference). Unit {0}) ps
  every-unit [] = tt
  every-unit (p ∷ ps) = (tt, every-unit ps)

  pub core-supers-proved : (i : ImplDecl) → In i core_world.impls → (A : Trees) → is_closed A ≡ true → Fits A i.header.args
      → Every (HasProof W []) (map (with_args A) i.clauses) → Supers W (with_args A i.header)
  core-supers-proved i h A c f p =
      supers-of-all W k (λ (r : Reference). Unit {0}) (λ t x o _. every-unit (each_asked t x)) (λ r j u m g _ _ before. each-impl r j u m g (λ e q z. before e q z tt))
      (with_args A i.header) tt (applies W i (more i h) (covered i (member-each covers core_world.impls i all-covered h)) A c f p)

core-tested : Tested core_world
core-tested = record {
  terms = refl;
  core_there = refl;
  structs = refl;
  traits = refl;
  impls = refl;
  headers = refl;
  autos = refl;
  not_of_autos = refl;
  bounds = refl;
  clauses = refl;
  fields = refl;
  dyns = refl;
  plain_headers = refl;
  covered = refl;
  sized_alone = refl;
  dyns_hold_bounds = refl;
  uses = refl;
  orphans = refl;
}

core-like-core : CoreLike core_world
core-like-core = record {
  of_sized = λ a. refl;
  of_unsize = λ a. refl;
  of_tuple = λ a. refl;
  of_fn_ptr = λ a. refl;
  of_fn_once = λ a. refl;
  of_fn_mut = λ a. refl;
  of_fn = λ a. refl;
  of_clone = λ a. refl;
  of_copy = λ a. refl;
  clone_not_auto = refl;
  copy_not_auto = refl;
  autos_bare = autos-bare core_world core-tested;
}

-- Core is a linked set
pub core-linked : LinkedSet core_world [] (λ n. n)
core-linked =
    tested-linked core_world core-tested
    (λ i h A c f p. core-supers-proved core_world core-like-core refl (λ j m. m) (λ j m. inl m) i h A c f p)

-- A set that is made of answered crates of several texts obeys the rules of texts and keeps the orphan rule.
use Rattle.std.proofs.Common.{◌≡◌, ◌<◌, ◌≤◌, ◌+◌, ◌⊎◌, inl, inr, ℕ, zero, suc, Bool, true, false, ◌==◌, if◌then◌else◌, List, [], ◌∷◌, map, length, refl, sym, ap, ◌∙◌, subst, Option, Some, None, arith}
use Rattle.type_terms.specs.Promised.Label.{Label, dynamic, adt}
use Rattle.type_terms.specs.Promised.Trees.{Trees, none, tree}
use Rattle.type_terms.specs.Promised.Worlds.{World, StructDecl, TraitDecl, ImplDecl, Reference, core, traits_named, sees, view_of}
use Rattle.type_terms.specs.Promised.Core.{core_world}
use Rattle.type_terms.specs.Promised.Proofs.{In}
use Rattle.type_terms.specs.Promised.Walks.{struct_is, keeps_orphan_rule}
use Rattle.type_terms.specs.Promised.Rules.{is_auto}
use Rattle.type_terms.specs.Promised.Versions.{with_impls, in_scope}
use Rattle.type_terms.specs.Promised.Renumbering.{View, IsRenumbering, view_before, asker_in_set, renumbered_reference, renumbered_impl}
use Rattle.type_terms.specs.Renumbering.{as_they_are}
use Rattle.type_terms.specs.Promised.Supers.{dyns_of_bounds}
use Rattle.type_terms.specs.Promised.LinkedSet.{AutoAtHome, ObeysTextRules, OrderedCrates}
use Rattle.type_terms.specs.Promised.Arranging.{Arrangement, autos_in, with_autos, arranged, arranged_reference, arranged_struct, arranged_trait, arranged_impl, arranged_world}
use Rattle.type_terms.specs.ArrangingLaws.{Listed, HoldsInOrder}
use Rattle.type_terms.proofs.Members.{here, there, in-cases, in-nothing, in-filter, filter-in, in-map, same-number, self-number, not-both, true-or-false}
use Rattle.type_terms.proofs.ProofEntries.{map-in}
use Rattle.type_terms.proofs.NoHolds.{member-each}
use Rattle.type_terms.proofs.NoTwo.{sees-order}
use Rattle.type_terms.proofs.ViewLaws.{sees-itself}
use Rattle.type_terms.proofs.SameNumbers.{holds-view, impl-same}
use Rattle.type_terms.proofs.CoreApart.{core-coherent}
use Rattle.type_terms.proofs.CoreLinked.{core-linked}
use Rattle.type_terms.proofs.RenumberedTrees.{injective}
use Rattle.type_terms.proofs.Unseen.{OneEach}
use Rattle.type_terms.proofs.ArrangedTrees.{fill-own, dyns-stay}
use Rattle.type_terms.proofs.ArrangedRules.{BoundWorld}
use Rattle.type_terms.proofs.ArrangedSets.{sees-same}
use Rattle.type_terms.proofs.JoinedParts.{fixed-member, StructObeys, TraitObeys, ImplObeys, struct-rules, trait-rules, impl-rules, all-obey}
use Rattle.sessions.specs.AnsweredSets.{WasAskedInOrder}
use Rattle.sessions.specs.Promised.AnsweredSets.{IsOfAskedCrates}
use Rattle.sessions.proofs.RenumberedItems.{struct-obeys, trait-obeys, impl-obeys, auto-at-home, keeps-over, super-at}
use Rattle.sessions.proofs.ArrangedItems.{plain-here, plain-trees-here, plain-references-here, trait-here, impl-here, keeps-here, auto-there, at-home-here}

-- ---- a view of a world that obeys the rules of texts, which stands in the set in some order of auto traits
pub record SeesText (v : View) : Type 0 where
  pub text : World
  pub rules : ObeysTextRules text
  pub seen : v.world ≡ view_of text v.asker

record Stands (W : World) (o : Listed) : Type 0 where
  sees-text : SeesText o.view
  renumbers : IsRenumbering o.view.numbers o.view.world (view_before (arranged_world o.order W) o.view)

record Source (W : World) (h : ℕ) : Type 0 where
  listed : Listed
  stands : Stands W listed
  asker : asker_in_set listed.view ≡ h

-- the first view of crate h
abbrev pick : (W : World) (h : ℕ) (o : Listed) → Stands W o → (b : Bool) → (asker_in_set o.view == h) ≡ b → Option (Source W h) → Option (Source W h)
pick W h o s true e rest = Some (record { listed = o; stands = s; asker = same-number (asker_in_set o.view) h e })
pick W h o s false e rest = rest

abbrev first : (W : World) (h : ℕ) (os : List Listed) → ((o : Listed) → In o os → Stands W o) → Option (Source W h)
first W h [] g = None
first W h (o ∷ os) g = pick W h o (g o (here o os)) (asker_in_set o.view == h) refl (first W h os (λ w m. g w (there w o os m)))

found : (W : World) (h : ℕ) (os : List Listed) (g : (o : Listed) → In o os → Stands W o) (o : Listed) → In o os → asker_in_set o.view ≡ h → (s : Source W h) × (first W h os g ≡ Some s)
found W h [] g o m e = absurd (in-nothing o m)
found W h (w ∷ os) g o m e = at (asker_in_set w.view == h) refl (in-cases o w os m) (λ k. found W h os (λ u n. g u (there u w os n)) o k e)
  where
    rest : Option (Source W h)
    rest = first W h os (λ u n. g u (there u w os n))

    at : (b : Bool) (q : (asker_in_set w.view == h) ≡ b) → (w ≡ o) ⊎ In o os → (In o os → (s : Source W h) × (rest ≡ Some s)) → (s : Source W h) × (pick W h w (g w (here w os)) b q rest ≡ Some s)
    at true q k f = (record { listed = w; stands = g w (here w os); asker = same-number (asker_in_set w.view) h q }, refl)
    at false q (inl k) f = absurd (not-both (asker_in_set w.view == h) (subst (λ n. (n == h) ≡ true) (sym (ap (λ (z : Listed). asker_in_set z.view) k ∙ e)) (self-number h)) q)
    at false q (inr k) f = f k

-- ---- numbers in an order of two keys
abbrev total : {A : Type 0} (key : A → ℕ) → List A → ℕ
total key [] = 0
total key (x ∷ xs) = suc (key x) + total key xs

below-total : {A : Type 0} (key : A → ℕ) (xs : List A) (x : A) → In x xs → key x < total key xs
below-total key [] x m = absurd (in-nothing x m)
below-total {A = A} key (y ∷ xs) x m = by (in-cases x y xs m) (below-total key xs x)
  where
    by : (y ≡ x) ⊎ In x xs → (In x xs → key x < total key xs) → key x < suc (key y) + total key xs
    by (inl e) f = subst (λ z. key z < suc (key y) + total key xs) e (omega arith)
    by (inr k) f = let q = f k in omega (arith, q)

-- k times m
abbrev times : ℕ → ℕ → ℕ
times zero m = 0
times (suc k) m = m + times k m

times-more : (j k m : ℕ) → j ≤ k → times j m ≤ times k m
times-more zero k m h = omega arith
times-more (suc j) zero m h = absurd (omega (arith, h))
times-more (suc j) (suc k) m h = let q = times-more j k m (omega (arith, h)) in omega (arith, q)

two-keys : (j k m a b : ℕ) → j < k → a < m → times j m + a < times k m + b
two-keys j k m a b h l = let q = times-more (suc j) k m h in omega (arith, q, l)

-- ---- auto traits as they stand
abbrev pub as-listed : Arrangement
as-listed = record {
  to = λ ns. ns;
  back = λ ns. ns;
  back_to = λ ns. refl;
  to_back = λ ns. refl;
  as_long = λ ns. refl;
  as_long_back = λ ns. refl;
  same_traits = λ ns. ((λ n h. h), (λ n h. h));
  same_traits_back = λ ns. ((λ n h. h), (λ n h. h));
}

tree-listed : (t : Trees) → arranged as-listed t ≡ t
tree-listed none = refl
tree-listed (tree dynamic c o) = node refl (ap (with_autos (autos_in c)) (tree-listed c) ∙ fill-own c) (tree-listed o)
  where
    node : {l l' : Label} {c c' o o' : Trees} → l ≡ l' → c ≡ c' → o ≡ o' → tree l c o ≡ tree l' c' o'
    node p q r = cc
tree-listed (tree l c o) = node refl (tree-listed c) (tree-listed o)
  where
    node : {l l' : Label} {c c' o o' : Trees} → l ≡ l' → c ≡ c' → o ≡ o' → tree l c o ≡ tree l' c' o'
    node p q r = cc

map-fixed : {A : Type 0} (f : A → A) (xs : List A) → ((x : A) → In x xs → f x ≡ x) → map f xs ≡ xs
map-fixed f [] h = refl
map-fixed {A = A} f (x ∷ xs) h = two (h x (here x xs)) (map-fixed f xs (λ y m. h y (there y x xs m)))
  where
    two : {a b : A} {ys zs : List A} → a ≡ b → ys ≡ zs → a ∷ ys ≡ b ∷ zs
    two p q = cc

references-listed : (rs : List Reference) → map (arranged_reference as-listed) rs ≡ rs
references-listed rs = map-fixed (arranged_reference as-listed) rs (λ r m. ap (λ z. (let x : Reference = record { trait = r.trait; args = z } in x)) (tree-listed r.args))

pub world-listed : (W : World) → arranged_world as-listed W ≡ W
world-listed W = three (map-fixed (arranged_struct as-listed) W.structs (λ x m. struct-listed x)) (map-fixed (arranged_trait as-listed) W.traits (λ x m. trait-listed x)) (map-fixed (arranged_impl as-listed) W.impls (λ x m. impl-listed x))
  where
    struct-listed : (x : StructDecl) → arranged_struct as-listed x ≡ x
    struct-listed x = ap (λ z. (let y : StructDecl = record { name = x.name; home = x.home; is_fundamental = x.is_fundamental; fields = z } in y)) (map-fixed (arranged as-listed) x.fields (λ t m. tree-listed t))

    trait-listed : (x : TraitDecl) → arranged_trait as-listed x ≡ x
    trait-listed x = ap (λ z. (let y : TraitDecl = record { name = x.name; home = x.home; is_fundamental = x.is_fundamental; is_auto = x.is_auto; bounds = z } in y)) (references-listed x.bounds)

    impl-listed : (x : ImplDecl) → arranged_impl as-listed x ≡ x
    impl-listed x =
        ap (λ z. (let y : ImplDecl = record { name = x.name; home = x.home; params = x.params; header = record { trait = x.header.trait; args = z }; clauses = map (arranged_reference as-listed) x.clauses } in y)) (tree-listed x.header.args)
        ∙ ap (λ z. (let y : ImplDecl = record { name = x.name; home = x.home; params = x.params; header = x.header; clauses = z } in y)) (references-listed x.clauses)

    three : {ss ss' : List StructDecl} {ts ts' : List TraitDecl} {is is' : List ImplDecl} → ss ≡ ss' → ts ≡ ts' → is ≡ is'
        → (let V : World = record { crates = W.crates; structs = ss; traits = ts; impls = is } in V) ≡ record { crates = W.crates; structs = ss'; traits = ts'; impls = is' }
    three p q r = cc

-- ---- core, as a view of itself
abbrev core-view : View
core-view = record { numbers = as_they_are; asker = core; world = core_world }

abbrev core-listed : Listed
core-listed = record { order = as-listed; view = core-view }

core-rules : ObeysTextRules core_world
core-rules = core-linked.joined.rules

core-homes : (i : ImplDecl) → In i core_world.impls → i.home ≡ core
core-homes i m = same-number i.home core (member-each (λ (x : ImplDecl). x.home == core) core_world.impls i refl m)

core-stands : (W : World) (rank : ℕ → ℕ) → OrderedCrates W rank → Stands W core-listed
core-stands W rank o = record {
  sees-text = record { text = core_world; rules = core-rules; seen = refl };
  renumbers = subst (λ V. IsRenumbering as_they_are core_world (view_before V core-view)) (sym (world-listed W)) (subst (IsRenumbering as_they_are core_world) (sym there) (holds-view core_world core).renumbers);
}
  where
    there : view_before W core-view ≡ core_world
    there = ap (with_impls (view_of W core)) (map-fixed (renumbered_impl as_they_are) core_world.impls (λ i m. impl-same i)) ∙ o.core_there

-- ---- the set
module _ (W : World) (os : List Listed) (rank : ℕ → ℕ) (o : OrderedCrates W rank) (holds : (l : Listed) → In l os → HoldsInOrder W l.order l.view) (of : IsOfAskedCrates W (WasAskedInOrder os)) (texts : (l : Listed) → In l os → SeesText l.view) where
  abbrev all : List Listed
  all = core-listed ∷ os

  stand : (l : Listed) → In l all → Stands W l
  stand l m = by (in-cases l core-listed os m)
    where
      by : (core-listed ≡ l) ⊎ In l os → Stands W l
      by (inl e) = subst (Stands W) e (core-stands W rank o)
      by (inr k) = record { sees-text = texts l k; renumbers = (holds l k).renumbers }

  source : (h : ℕ) → (h ≡ core) ⊎ WasAskedInOrder os h → (s : Source W h) × (first W h all stand ≡ Some s)
  source h (inl e) = found W h all stand core-listed (here core-listed os) (sym e)
  source h (inr a) = found W h all stand a.0 (there a.0 core-listed os a.1) a.2

  abbrev set-of : Listed → World
  set-of l = arranged_world l.order W

  one : (l : Listed) → OneEach (set-of l)
  one l = (one-of (arranged_struct l.order) (λ (x : StructDecl). x.name) (λ x. refl) W.structs o.one_struct, one-of (arranged_trait l.order) (λ (x : TraitDecl). x.name) (λ x. refl) W.traits o.one_trait)
    where
      one-of : {A : Type 0} (f : A → A) (name : A → ℕ) → ((x : A) → name (f x) ≡ name x) → (xs : List A) → ((x y : A) → In x xs → In y xs → name x ≡ name y → x ≡ y)
          → (x y : A) → In x (map f xs) → In y (map f xs) → name x ≡ name y → x ≡ y
      one-of f name h xs only x y mx my e =
          let a = map-in f xs x mx in
          let b = map-in f xs y my in
          sym a.2 ∙ ap f (only a.0 b.0 a.1 b.1 (sym (h a.0) ∙ ap name a.2 ∙ e ∙ sym (ap name b.2) ∙ h b.0)) ∙ b.2

  structs : (x : StructDecl) → In x W.structs → StructObeys x
  structs x m =
      let s = (source x.home (of.structs x m)).0 in
      let α = s.listed.order in
      plain-trees-here α x.fields
      (struct-obeys (set-of s.listed) s.listed.view s.stands.renumbers s.stands.sees-text.text s.stands.sees-text.seen (struct-rules s.stands.sees-text.text s.stands.sees-text.rules) (arranged_struct α x) (in-map (arranged_struct α) W.structs x m)
      (sees-same α W (asker_in_set s.listed.view) x.home ∙ subst (λ d. sees W d x.home ≡ true) (sym s.asker) (sees-itself (length W.crates) W x.home)))

  trait-there : (x : TraitDecl) → In x W.traits → (s : Source W x.home) → TraitObeys (set-of s.listed) (arranged_trait s.listed.order x)
  trait-there x m s =
      trait-obeys (set-of s.listed) s.listed.view s.stands.renumbers s.stands.sees-text.text s.stands.sees-text.seen (trait-rules s.stands.sees-text.text s.stands.sees-text.rules) (arranged_trait s.listed.order x)
      (in-map (arranged_trait s.listed.order) W.traits x m) (sym s.asker)

  -- ---- impls
  record OfView (i : ImplDecl) : Type 0 where
    listed : Listed
    stands : Stands W listed
    written : ImplDecl
    there-written : In written listed.view.world.impls
    own : written.home ≡ listed.view.asker
    is : renumbered_impl listed.view.numbers written ≡ arranged_impl listed.order i
    keeps : keeps_orphan_rule listed.view.world listed.view.asker written.header ≡ true

  module _ (kept : (l : Listed) → In l os → (i : ImplDecl) → In i l.view.world.impls → i.home ≡ l.view.asker → keeps_orphan_rule l.view.world l.view.asker i.header ≡ true) where
    of-view : (i : ImplDecl) → In i W.impls → OfView i
    of-view i m = by (of.impls i m)
      where
        by : In i core_world.impls ⊎ WasAskedInOrder os i.home → OfView i
        by (inl c) = record {
          listed = core-listed;
          stands = core-stands W rank o;
          written = i;
          there-written = c;
          own = core-homes i c;
          is = impl-same i ∙ sym (fixed-member (arranged_impl as-listed) W.impls (ap (λ (V : World). V.impls) (world-listed W)) i m);
          keeps = member-each (λ (x : ImplDecl). keeps_orphan_rule core_world core x.header) core_world.impls i core-coherent.0 c;
        }
        by (inr a) =
            let l = a.0 in
            let v = l.view in
            let X = set-of l in
            let s = holds l a.1 in
            let j = arranged_impl l.order i in
            let y = map-in (renumbered_impl v.numbers) v.world.impls j
            (s.later.own j (filter-in (λ (z : ImplDecl). sees X (asker_in_set v) z.home) X.impls j (in-map (arranged_impl l.order) W.impls i m)
            (sees-same l.order W (asker_in_set v) i.home ∙ subst (λ d. sees W (asker_in_set v) d ≡ true) a.2 (sees-itself (length W.crates) W (asker_in_set v)))) (sym a.2)) in
            let own = injective v.numbers.crates y.0.home v.asker (ap (λ (z : ImplDecl). z.home) y.2 ∙ sym a.2) in
            record { listed = l; stands = record { sees-text = texts l a.1; renumbers = s.renumbers }; written = y.0; there-written = y.1; own = own; is = y.2; keeps = kept l a.1 y.0 y.1 own }

    in-text : (i : ImplDecl) (w : OfView i) → In w.written w.stands.sees-text.text.impls
    in-text i w = (in-filter (λ (z : ImplDecl). sees w.stands.sees-text.text w.listed.view.asker z.home) w.stands.sees-text.text.impls w.written (subst (λ (V : World). In w.written V.impls) w.stands.sees-text.seen w.there-written)).0

    obeys-text : (i : ImplDecl) (w : OfView i) → ImplObeys w.stands.sees-text.text w.written
    obeys-text i w = impl-rules w.stands.sees-text.text w.stands.sees-text.rules w.written (in-text i w)

    impl-there : (i : ImplDecl) (w : OfView i) → ImplObeys (set-of w.listed) (arranged_impl w.listed.order i)
    impl-there i w =
        subst (ImplObeys (set-of w.listed)) w.is (impl-obeys (set-of w.listed) w.listed.view w.stands.renumbers w.stands.sees-text.text w.stands.sees-text.seen w.written w.own (obeys-text i w))

    scope-there : (i : ImplDecl) (w : OfView i) → in_scope w.stands.sees-text.text w.listed.view.asker w.written.header ≡ true
    scope-there i w = subst (λ d. in_scope w.stands.sees-text.text d w.written.header ≡ true) w.own (obeys-text i w).names

    -- bounds alone stand in a `dyn`, of the set in each order
    bound : BoundWorld W
    bound = record {
      headers = λ i m. let w = of-view i m in (plain-here w.listed.order i.header.args (impl-there i w).plain_header).dyns;
      clauses = λ i k m g. let w = of-view i m in (plain-references-here w.listed.order i.clauses (impl-there i w).plain_clauses k g).dyns;
      fields = λ x t m g. (structs x m t g).dyns;
      bounds = λ x b m g. let s = (source x.home (of.traits x m)).0 in (plain-references-here s.listed.order x.bounds (trait-there x m s).plain b g).dyns;
    }

    bound-there : (α : Arrangement) → BoundWorld (arranged_world α W)
    bound-there α = record {
      headers = λ i m. let x = map-in (arranged_impl α) W.impls i m in subst (λ (y : ImplDecl). dyns_of_bounds y.header.args ≡ true) x.2 (dyns-stay α x.0.header.args ∙ bound.headers x.0 x.1);
      clauses = λ i k m g.
          let x = map-in (arranged_impl α) W.impls i m in
          let q = map-in (arranged_reference α) x.0.clauses k (subst (λ (y : ImplDecl). In k y.clauses) (sym x.2) g) in
          subst (λ (r : Reference). dyns_of_bounds r.args ≡ true) q.2 (dyns-stay α q.0.args ∙ bound.clauses x.0 q.0 x.1 q.1);
      fields = λ y t m g.
          let x = map-in (arranged_struct α) W.structs y m in
          let q = map-in (arranged α) x.0.fields t (subst (λ (z : StructDecl). In t z.fields) (sym x.2) g) in
          subst (λ z. dyns_of_bounds z ≡ true) q.2 (dyns-stay α q.0 ∙ bound.fields x.0 q.0 x.1 q.1);
      bounds = λ y b m g.
          let x = map-in (arranged_trait α) W.traits y m in
          let q = map-in (arranged_reference α) x.0.bounds b (subst (λ (z : TraitDecl). In b z.bounds) (sym x.2) g) in
          subst (λ (r : Reference). dyns_of_bounds r.args ≡ true) q.2 (dyns-stay α q.0.args ∙ bound.bounds x.0 q.0 x.1 q.1);
    }

    traits : (x : TraitDecl) → In x W.traits → TraitObeys W x
    traits x m = let s = (source x.home (of.traits x m)).0 in trait-here s.listed.order W (bound-there s.listed.order) x (trait-there x m s)

    impls : (i : ImplDecl) → In i W.impls → ImplObeys W i
    impls i m = let w = of-view i m in impl-here w.listed.order W (bound-there w.listed.order) i (impl-there i w)

    at-home : AutoAtHome W
    at-home i m auto = by (of-view i m)
      where
        by : OfView i → (s : ℕ) × (ks : Trees) × (os : Trees) × (i.header.args ≡ tree (adt s) ks os) × (struct_is (λ x. x.home == i.home) W s ≡ true)
        by w =
            at-home-here w.listed.order W bound i
            (subst (λ (z : ImplDecl). (s : ℕ) × (ks : Trees) × (os : Trees) × (z.header.args ≡ tree (adt s) ks os) × (struct_is (λ x. x.home == z.home) (set-of w.listed) s ≡ true)) w.is
            (auto-at-home (set-of w.listed) w.listed.view w.stands.renumbers w.stands.sees-text.text w.stands.sees-text.seen (one w.listed) w.stands.sees-text.rules.autos_at_home w.written (in-text i w) w.own (scope-there i w)
            (subst (λ (z : ImplDecl). is_auto (set-of w.listed) z.header.trait ≡ true) (sym w.is) (auto-there w.listed.order W bound i.header.trait auto))))

    orphans : (i : ImplDecl) → In i W.impls → keeps_orphan_rule W i.home i.header ≡ true
    orphans i m = by (of-view i m)
      where
        by : OfView i → keeps_orphan_rule W i.home i.header ≡ true
        by w =
            keeps-here w.listed.order W (bound-there w.listed.order) i.home i.header
            (subst (λ (z : ImplDecl). keeps_orphan_rule (set-of w.listed) z.home z.header ≡ true) w.is
            (subst (λ d. keeps_orphan_rule (set-of w.listed) d (renumbered_reference w.listed.view.numbers w.written.header) ≡ true) (ap w.listed.view.numbers.crates.to (sym w.own))
            (keeps-over (set-of w.listed) w.listed.view w.stands.renumbers w.stands.sees-text.text w.stands.sees-text.seen (one w.listed) w.written.header (scope-there i w) w.keeps)))

  -- ---- an order of traits: by their crates, and in a crate as its text has them
  abbrev level : ℕ → ℕ
  level c = if c == core then 0 else suc (rank c)

  abbrev place_in : {h : ℕ} → Option (Source W h) → ℕ → ℕ
  place_in None t = 0
  place_in (Some s) t = s.stands.sees-text.rules.trait_rank (s.listed.view.numbers.traits.back t)

  abbrev key : ℕ → ℕ → ℕ
  key h t = place_in (first W h all stand) t

  abbrev home-of : List TraitDecl → ℕ
  home-of [] = core
  home-of (x ∷ xs) = x.home

  abbrev home : ℕ → ℕ
  home t = home-of (traits_named W t)

  bound-of-keys : ℕ
  bound-of-keys = total (λ (x : TraitDecl). key x.home x.name) W.traits

  abbrev place : ℕ → ℕ
  place t = times (level (home t)) bound-of-keys + key (home t) t

  home-is : (x : TraitDecl) → In x W.traits → home x.name ≡ x.home
  home-is x m =
      at (traits_named W x.name) (filter-in (λ (y : TraitDecl). y.name == x.name) W.traits x m (self-number x.name))
      (λ y k. let w = in-filter (λ (z : TraitDecl). z.name == x.name) W.traits y k in o.one_trait y x w.0 m (same-number y.name x.name w.1))
    where
      at : (ys : List TraitDecl) → In x ys → ((y : TraitDecl) → In y ys → y ≡ x) → home-of ys ≡ x.home
      at [] k f = absurd (in-nothing x k)
      at (y ∷ ys) k f = ap (λ (z : TraitDecl). z.home) (f y (here y ys))

  below-bound-of-keys : (x : TraitDecl) → In x W.traits → key x.home x.name < bound-of-keys
  unfolding bound-of-keys
  below-bound-of-keys x m = below-total (λ (y : TraitDecl). key y.home y.name) W.traits x m

  level-core : (c : ℕ) → (c == core) ≡ true → level c ≡ 0
  level-core c e = ap (λ b. if b then 0 else suc (rank c)) e

  level-other : (c : ℕ) → (c == core) ≡ false → level c ≡ suc (rank c)
  level-other c e = ap (λ b. if b then 0 else suc (rank c)) e

  level-below : (c : ℕ) → level c ≤ suc (rank c)
  level-below c = by (c == core)
    where
      by : (b : Bool) → (if b then 0 else suc (rank c)) ≤ suc (rank c)
      by true = omega arith
      by false = omega arith

  -- the crates of a trait and of one of its supertraits
  lower : (x z : ℕ) → sees W x z ≡ true → (x ≡ z) ⊎ (level z < level x)
  lower x z e = by (sees-order (length W.crates) W rank o.uses_before x z e) (true-or-false (x == core))
    where
      by : (x ≡ z) ⊎ ((z ≡ core) ⊎ (rank z < rank x)) → ((x == core) ≡ true) ⊎ ((x == core) ≡ false) → (x ≡ z) ⊎ (level z < level x)
      by (inl q) k = inl q
      by (inr (inl q)) (inl k) = inl (same-number x core k ∙ sym q)
      by (inr (inl q)) (inr k) =
          let a = level-other x k in
          let b = level-core z (ap (λ n. n == core) q ∙ self-number core) in
          inr (omega (arith, a, b))
      by (inr (inr q)) (inl k) =
          let a : rank x ≡ 0 = ap rank (same-number x core k) ∙ o.core_first in
          absurd (omega (arith, a, q))
      by (inr (inr q)) (inr k) =
          let a = level-other x k in
          let b = level-below z in
          inr (omega (arith, a, b, q))

  placed : (x : TraitDecl) → In x W.traits → place x.name ≡ times (level x.home) bound-of-keys + key x.home x.name
  placed x m = ap (λ n. times (level n) bound-of-keys + key n x.name) (home-is x m)

  supers-before : (x : TraitDecl) (b : Reference) → In x W.traits → In b x.bounds → place b.trait < place x.name
  supers-before x b m k = by (source x.home (of.traits x m))
    where
      less : (i j n u : ℕ) → i ≡ n → j ≡ u → n < u → i < j
      less i j n u p q l = omega (arith, p, q, l)

      same-crate : (h : ℕ) (s : Source W h) (t u : ℕ) → first W h all stand ≡ Some s
          → s.stands.sees-text.rules.trait_rank (s.listed.view.numbers.traits.back t) < s.stands.sees-text.rules.trait_rank (s.listed.view.numbers.traits.back u) → key h t < key h u
      same-crate h s t u e l = subst (λ (q : Option (Source W h)). place_in q t < place_in q u) (sym e) l

      by : (s : Source W x.home) × (first W x.home all stand ≡ Some s) → place b.trait < place x.name
      by s =
          let v = s.0 in
          let α = v.listed.order in
          let z = super-at (set-of v.listed) v.listed.view v.stands.renumbers v.stands.sees-text.text v.stands.sees-text.seen v.stands.sees-text.rules.trait_rank v.stands.sees-text.rules.supers_before (trait-rules v.stands.sees-text.text v.stands.sees-text.rules)
          (arranged_trait α x) (in-map (arranged_trait α) W.traits x m) (sym v.asker) (arranged_reference α b) (in-map (arranged_reference α) x.bounds b k) in
          let y = map-in (arranged_trait α) W.traits z.0 z.1 in
          let named : y.0.name ≡ b.trait = ap (λ (q : TraitDecl). q.name) y.2 ∙ z.2 in
          let seen : sees W x.home y.0.home ≡ true = subst (λ d. sees W d y.0.home ≡ true) v.asker (sym (sees-same α W (asker_in_set v.listed.view) y.0.home) ∙ ap (λ (q : TraitDecl). sees (set-of v.listed) (asker_in_set v.listed.view) q.home) y.2 ∙ z.3) in
          let before : key x.home y.0.name < key x.home x.name = same-crate x.home v y.0.name x.name s.1 (subst (λ n. v.stands.sees-text.rules.trait_rank (v.listed.view.numbers.traits.back n) < v.stands.sees-text.rules.trait_rank (v.listed.view.numbers.traits.back x.name)) (sym named) z.4) in
          subst (λ n. place n < place x.name) named
          (less (place y.0.name) (place x.name) (times (level y.0.home) bound-of-keys + key y.0.home y.0.name) (times (level x.home) bound-of-keys + key x.home x.name) (placed y.0 y.1) (placed x m)
          (of-two y.0 (below-bound-of-keys y.0 y.1) before (lower x.home y.0.home seen)))
        where
          of-two : (z : TraitDecl) → key z.home z.name < bound-of-keys → key x.home z.name < key x.home x.name → (x.home ≡ z.home) ⊎ (level z.home < level x.home)
              → times (level z.home) bound-of-keys + key z.home z.name < times (level x.home) bound-of-keys + key x.home x.name
          of-two z a l (inl e) = subst (λ n. times (level n) bound-of-keys + key n z.name < times (level x.home) bound-of-keys + key x.home x.name) e (omega (arith, l))
          of-two z a l (inr q) = two-keys (level z.home) (level x.home) bound-of-keys (key z.home z.name) (key x.home x.name) q a

  pub answered-obey : ((l : Listed) → In l os → (i : ImplDecl) → In i l.view.world.impls → i.home ≡ l.view.asker → keeps_orphan_rule l.view.world l.view.asker i.header ≡ true)
      → ObeysTextRules W × ((i : ImplDecl) → In i W.impls → keeps_orphan_rule W i.home i.header ≡ true)
  answered-obey kept = (all-obey W structs (traits kept) (impls kept) (at-home kept) place supers-before, orphans kept)

-- What the text of a view keeps, a set that holds the view keeps of the view's crate.
use Rattle.std.proofs.Common.{◌≡◌, ◌<◌, ℕ, true, false, ◌==◌, List, map, length, refl, sym, ap, ◌∙◌, subst}
use Rattle.type_terms.specs.Promised.Label.{Label, Sort, of_lifetime, param, placeholder, infer, canonical, bound, fn_ptr, dynamic, adt, principal, auto_trait, predicate}
use Rattle.type_terms.specs.Promised.Trees.{Trees, none, tree, erase, erase_label}
use Rattle.type_terms.specs.Promised.Worlds.{World, StructDecl, TraitDecl, ImplDecl, Reference, structs_named, traits_named, sees, view_of}
use Rattle.type_terms.specs.Promised.Rules.{is_auto, sized}
use Rattle.type_terms.specs.Promised.Supers.{no_param, mentions_as, dyns_of_bounds}
use Rattle.type_terms.specs.Promised.Proofs.{In}
use Rattle.type_terms.specs.Promised.Walks.{struct_is, keeps_orphan_rule}
use Rattle.type_terms.specs.Promised.Versions.{sees_struct, sees_trait, in_scope}
use Rattle.type_terms.specs.Promised.LinkedSet.{AutoAtHome, is_stray, IsPlainTerm}
use Rattle.type_terms.specs.Promised.Renumbering.{Renumbering, View, IsRenumbering, view_before, asker_in_set, renumbered_label, renumbered, renumbered_reference, renumbered_struct, renumbered_trait, renumbered_impl}
use Rattle.type_terms.proofs.Members.{in-filter, filter-in, in-map, some-member, member-some, same-number, self-number}
use Rattle.type_terms.proofs.Walking.{left, right, both}
use Rattle.type_terms.proofs.ProofEntries.{map-in}
use Rattle.type_terms.proofs.ViewLaws.{sees-itself}
use Rattle.type_terms.proofs.RenumberedTrees.{and-same, injective, same-numbers-to, over-some}
use Rattle.type_terms.proofs.RenumberedRules.{or-same}
use Rattle.type_terms.proofs.RenumberedAnswers.{keeps-same}
use Rattle.type_terms.proofs.AddedByView.{written-over, keeps-in-set}
use Rattle.type_terms.proofs.Unseen.{OneEach}
use Rattle.type_terms.proofs.JoinedParts.{StructObeys, TraitObeys, ImplObeys}

-- ---- trees
module _ (ρ : Renumbering) where
  label-over : (l : Label) → erase_label (renumbered_label ρ l) ≡ renumbered_label ρ (erase_label l)
  label-over (adt s) = refl
  label-over (fn_ptr n) = refl
  label-over (principal n t) = refl
  label-over (auto_trait t) = refl
  label-over (predicate k) = refl
  label-over (param of_lifetime i) = refl
  label-over (placeholder of_lifetime i) = refl
  label-over (infer of_lifetime i) = refl
  label-over (canonical of_lifetime i) = refl
  label-over (bound of_lifetime n i) = refl
  label-over l = refl

  erase-over : (t : Trees) → erase (renumbered ρ t) ≡ renumbered ρ (erase t)
  erase-over none = refl
  erase-over (tree l c o) = node (label-over l) (erase-over c) (erase-over o)
    where
      node : {l l' : Label} {c c' o o' : Trees} → l ≡ l' → c ≡ c' → o ≡ o' → tree l c o ≡ tree l' c' o'
      node p q r = cc

  stray-label : (l : Label) → is_stray (renumbered_label ρ l) ≡ is_stray l
  stray-label (adt s) = refl
  stray-label l = refl

  no-param-over : (t : Trees) → no_param (renumbered ρ t) ≡ no_param t
  no-param-over none = refl
  no-param-over (tree (param s i) c o) = refl
  no-param-over (tree l c o) = no-param-over o

  dyns-over : (t : Trees) → dyns_of_bounds (renumbered ρ t) ≡ dyns_of_bounds t
  dyns-over none = refl
  dyns-over (tree dynamic c o) = and-same (no-param-over c) (and-same (dyns-over c) (dyns-over o))
  dyns-over (tree l c o) = and-same (dyns-over c) (dyns-over o)

  mentions-over : (s : Sort) (i : ℕ) (t : Trees) → mentions_as s i (renumbered ρ t) ≡ mentions_as s i t
  mentions-over s i none = refl
  mentions-over s i (tree (param r j) c o) = or-same refl (mentions-over s i o)
  mentions-over s i (tree l c o) = or-same (mentions-over s i c) (mentions-over s i o)

  plain-over : (t : Trees) → IsPlainTerm t → IsPlainTerm (renumbered ρ t)
  plain-over t p = record {
    term = erase-over t ∙ ap (renumbered ρ) p.term;
    open_places = over-some ρ is_stray is_stray stray-label t ∙ p.open_places;
    dyns = dyns-over t ∙ p.dyns;
  }

  plain-references : (rs : List Reference) → ((r : Reference) → In r rs → IsPlainTerm r.args) → (q : Reference) → In q (map (renumbered_reference ρ) rs) → IsPlainTerm q.args
  plain-references rs h q m =
      let r = map-in (renumbered_reference ρ) rs q m in
      subst (λ (z : Reference). IsPlainTerm z.args) r.2 (plain-over r.0.args (h r.0 r.1))

named : (a b : ℕ) → a ≡ b → (a == b) ≡ true
named a b e = ap (λ n. a == n) (sym e) ∙ self-number a

-- ---- the set W, and the view v of a crate of T
module _ (W : World) (v : View) (s : IsRenumbering v.numbers v.world (view_before W v)) (T : World) (seen : v.world ≡ view_of T v.asker) where
  abbrev ρ : Renumbering
  ρ = v.numbers

  abbrev h : ℕ
  h = asker_in_set v

  abbrev c : ℕ
  c = v.asker

  abbrev U : World
  U = view_before W v

  -- what the crate sees in the set it saw in the text
  struct-from : (x : StructDecl) → In x W.structs → sees W h x.home ≡ true → (y : StructDecl) × In y T.structs × (sees T c y.home ≡ true) × (renumbered_struct ρ y ≡ x)
  struct-from x m e =
      let there : In x (structs_named U x.name) = filter-in (λ (y : StructDecl). y.name == x.name) U.structs x (filter-in (λ (y : StructDecl). sees W h y.home) W.structs x m e) (self-number x.name) in
      let back = ρ.structs.back x.name in
      let q = map-in (renumbered_struct ρ) (structs_named v.world back) x (subst (In x) (s.same_structs back) (subst (λ n. In x (structs_named U n)) (sym (ρ.structs.to_back x.name)) there)) in
      let w = in-filter (λ (y : StructDecl). y.name == back) v.world.structs q.0 q.1 in
      let z = in-filter (λ (y : StructDecl). sees T c y.home) T.structs q.0 (subst (λ (V : World). In q.0 V.structs) seen w.0) in
      (q.0, z.0, z.1, q.2)

  trait-from : (x : TraitDecl) → In x W.traits → sees W h x.home ≡ true → (y : TraitDecl) × In y T.traits × (sees T c y.home ≡ true) × (renumbered_trait ρ y ≡ x)
  trait-from x m e =
      let there : In x (traits_named U x.name) = filter-in (λ (y : TraitDecl). y.name == x.name) U.traits x (filter-in (λ (y : TraitDecl). sees W h y.home) W.traits x m e) (self-number x.name) in
      let back = ρ.traits.back x.name in
      let q = map-in (renumbered_trait ρ) (traits_named v.world back) x (subst (In x) (s.same_traits back) (subst (λ n. In x (traits_named U n)) (sym (ρ.traits.to_back x.name)) there)) in
      let w = in-filter (λ (y : TraitDecl). y.name == back) v.world.traits q.0 q.1 in
      let z = in-filter (λ (y : TraitDecl). sees T c y.home) T.traits q.0 (subst (λ (V : World). In q.0 V.traits) seen w.0) in
      (q.0, z.0, z.1, q.2)

  -- and the other way
  struct-to : (y : StructDecl) → In y T.structs → sees T c y.home ≡ true → In (renumbered_struct ρ y) W.structs × (sees W h (ρ.crates.to y.home) ≡ true)
  struct-to y m e =
      let there : In y v.world.structs = subst (λ (V : World). In y V.structs) (sym seen) (filter-in (λ (z : StructDecl). sees T c z.home) T.structs y m e) in
      let q = in-map (renumbered_struct ρ) (structs_named v.world y.name) y (filter-in (λ (z : StructDecl). z.name == y.name) v.world.structs y there (self-number y.name)) in
      let w = in-filter (λ (z : StructDecl). z.name == ρ.structs.to y.name) U.structs (renumbered_struct ρ y) (subst (In (renumbered_struct ρ y)) (sym (s.same_structs y.name)) q) in
      in-filter (λ (z : StructDecl). sees W h z.home) W.structs (renumbered_struct ρ y) w.0

  trait-to : (y : TraitDecl) → In y T.traits → sees T c y.home ≡ true → In (renumbered_trait ρ y) W.traits × (sees W h (ρ.crates.to y.home) ≡ true)
  trait-to y m e =
      let there : In y v.world.traits = subst (λ (V : World). In y V.traits) (sym seen) (filter-in (λ (z : TraitDecl). sees T c z.home) T.traits y m e) in
      let q = in-map (renumbered_trait ρ) (traits_named v.world y.name) y (filter-in (λ (z : TraitDecl). z.name == y.name) v.world.traits y there (self-number y.name)) in
      let w = in-filter (λ (z : TraitDecl). z.name == ρ.traits.to y.name) U.traits (renumbered_trait ρ y) (subst (In (renumbered_trait ρ y)) (sym (s.same_traits y.name)) q) in
      in-filter (λ (z : TraitDecl). sees W h z.home) W.traits (renumbered_trait ρ y) w.0

  -- a trait that the crate names in its text
  pub trait-at : (t : ℕ) → sees_trait T c t ≡ true → (y : TraitDecl) × In y T.traits × (y.name ≡ t) × (sees T c y.home ≡ true)
  trait-at t e =
      let q = some-member (λ (x : TraitDecl). sees T c x.home) (traits_named T t) e in
      let w = in-filter (λ (x : TraitDecl). x.name == t) T.traits q.0 q.1 in
      (q.0, w.0, same-number q.0.name t w.1, q.2)

  -- ---- what is in scope
  struct-seen : (k : ℕ) → sees_struct T c k ≡ true → sees_struct W h (ρ.structs.to k) ≡ true
  struct-seen k e =
      let q = some-member (λ (x : StructDecl). sees T c x.home) (structs_named T k) e in
      let w = in-filter (λ (x : StructDecl). x.name == k) T.structs q.0 q.1 in
      let r = struct-to q.0 w.0 q.2 in
      member-some (λ (x : StructDecl). sees W h x.home) (structs_named W (ρ.structs.to k)) (renumbered_struct ρ q.0)
      (filter-in (λ (x : StructDecl). x.name == ρ.structs.to k) W.structs (renumbered_struct ρ q.0) r.0 (named (ρ.structs.to q.0.name) (ρ.structs.to k) (ap ρ.structs.to (same-number q.0.name k w.1)))) r.1

  trait-seen : (k : ℕ) → sees_trait T c k ≡ true → sees_trait W h (ρ.traits.to k) ≡ true
  trait-seen k e =
      let q = trait-at k e in
      let r = trait-to q.0 q.1 q.3 in
      member-some (λ (x : TraitDecl). sees W h x.home) (traits_named W (ρ.traits.to k)) (renumbered_trait ρ q.0)
      (filter-in (λ (x : TraitDecl). x.name == ρ.traits.to k) W.traits (renumbered_trait ρ q.0) r.0 (named (ρ.traits.to q.0.name) (ρ.traits.to k) (ap ρ.traits.to q.2))) r.1

  scope-over : (r : Reference) → in_scope T c r ≡ true → in_scope W h (renumbered_reference ρ r) ≡ true
  scope-over r e =
      both (sees_trait W h (ρ.traits.to r.trait)) _ (trait-seen r.trait (left (sees_trait T c r.trait) _ e))
      (written-over ρ (sees_struct T c) (sees_trait T c) (sees_struct W h) (sees_trait W h) struct-seen trait-seen r.args (right (sees_trait T c r.trait) _ e))

  -- ---- what the set's items obey
  pub struct-obeys : ((y : StructDecl) → In y T.structs → StructObeys y) → (x : StructDecl) → In x W.structs → sees W h x.home ≡ true → StructObeys x
  struct-obeys o x m e =
      let y = struct-from x m e in
      subst StructObeys y.3 (λ t k. let q = map-in (renumbered ρ) y.0.fields t k in subst IsPlainTerm q.2 (plain-over ρ q.0 (o y.0 y.1 q.0 q.1)))

  pub trait-obeys : ((y : TraitDecl) → In y T.traits → TraitObeys T y) → (x : TraitDecl) → In x W.traits → x.home ≡ h → TraitObeys W x
  trait-obeys o x m e =
      let y = trait-from x m (subst (λ d. sees W h d ≡ true) (sym e) (sees-itself (length W.crates) W h)) in
      subst (TraitObeys W) y.3 (over y.0 (injective ρ.crates y.0.home c (ap (λ (z : TraitDecl). z.home) y.3 ∙ e)) (o y.0 y.1))
    where
      over : (y : TraitDecl) → y.home ≡ c → TraitObeys T y → TraitObeys W (renumbered_trait ρ y)
      over y own p = record {
        plain = λ b k. plain-references ρ y.bounds p.plain b k;
        names = λ b k. let q = map-in (renumbered_reference ρ) y.bounds b k in
            subst (λ d. in_scope W d b ≡ true) (ap ρ.crates.to (sym own)) (subst (λ r. in_scope W h r ≡ true) q.2 (scope-over q.0 (subst (λ d. in_scope T d q.0 ≡ true) own (p.names q.0 q.1))));
        autos_bare = λ a. ap (map (renumbered_reference ρ)) (p.autos_bare a);
      }

  pub impl-obeys : (y : ImplDecl) → y.home ≡ c → ImplObeys T y → ImplObeys W (renumbered_impl ρ y)
  impl-obeys y own p = record {
    plain_header = plain-over ρ y.header.args p.plain_header;
    plain_clauses = λ k g. plain-references ρ y.clauses p.plain_clauses k g;
    names = subst (λ d. in_scope W d (renumbered_reference ρ y.header) ≡ true) (ap ρ.crates.to (sym own)) (scope-over y.header (subst (λ d. in_scope T d y.header ≡ true) own p.names));
    covered = λ k g r n e. let q = map-in (renumbered_reference ρ) y.clauses k g in
        mentions-over ρ r n y.header.args ∙ p.covered q.0 q.1 r n (sym (mentions-over ρ r n q.0.args) ∙ ap (λ (z : Reference). mentions_as r n z.args) q.2 ∙ e);
    not_sized = subst (λ n. (ρ.traits.to y.header.trait == n) ≡ false) (s.core_traits_stay sized refl) (same-numbers-to ρ.traits y.header.trait sized ∙ p.not_sized);
  }

  sees-own : (k : ℕ) → k ≡ c → sees T c k ≡ true
  sees-own k e = subst (λ d. sees T c d ≡ true) (sym e) (sees-itself (length T.crates) T c)

  -- an impl of an auto trait
  auto-in-text : OneEach W → (t : ℕ) → sees_trait T c t ≡ true → is_auto W (ρ.traits.to t) ≡ true → is_auto T t ≡ true
  auto-in-text one t scope auto = by (trait-at t scope) (some-member (λ (z : TraitDecl). z.is_auto) (traits_named W (ρ.traits.to t)) auto)
    where
      by : (y : TraitDecl) × In y T.traits × (y.name ≡ t) × (sees T c y.home ≡ true) → (x : TraitDecl) × In x (traits_named W (ρ.traits.to t)) × (x.is_auto ≡ true) → is_auto T t ≡ true
      by (y, m, n, e) (x, k, a) =
          member-some (λ (z : TraitDecl). z.is_auto) (traits_named T t) y (filter-in (λ (z : TraitDecl). z.name == t) T.traits y m (named y.name t n))
          (same-auto x (renumbered_trait ρ y) (one.1 x (renumbered_trait ρ y) stands.0 (trait-to y m e).0 (same-number x.name (ρ.traits.to t) stands.1 ∙ ap ρ.traits.to (sym n))) a)
        where
          stands : In x W.traits × ((x.name == ρ.traits.to t) ≡ true)
          stands = in-filter (λ (z : TraitDecl). z.name == ρ.traits.to t) W.traits x k

          same-auto : (x z : TraitDecl) → x ≡ z → x.is_auto ≡ true → z.is_auto ≡ true
          same-auto x z q a = subst (λ (u : TraitDecl). u.is_auto ≡ true) q a

  struct-at-home : (b k : ℕ) → b ≡ c → struct_is (λ x. x.home == b) T k ≡ true → struct_is (λ x. x.home == ρ.crates.to b) W (ρ.structs.to k) ≡ true
  struct-at-home b k own e = by (some-member (λ (x : StructDecl). x.home == b) (structs_named T k) e)
    where
      by : (z : StructDecl) × In z (structs_named T k) × ((z.home == b) ≡ true) → struct_is (λ x. x.home == ρ.crates.to b) W (ρ.structs.to k) ≡ true
      by (z, m, h) =
          member-some (λ (x : StructDecl). x.home == ρ.crates.to b) (structs_named W (ρ.structs.to k)) (renumbered_struct ρ z)
          (filter-in (λ (x : StructDecl). x.name == ρ.structs.to k) W.structs (renumbered_struct ρ z) (struct-to z stands.0 (sees-own z.home (at-home ∙ own))).0
          (named (ρ.structs.to z.name) (ρ.structs.to k) (ap ρ.structs.to (same-number z.name k stands.1))))
          (named (ρ.crates.to z.home) (ρ.crates.to b) (ap ρ.crates.to at-home))
        where
          stands : In z T.structs × ((z.name == k) ≡ true)
          stands = in-filter (λ (x : StructDecl). x.name == k) T.structs z m

          at-home : z.home ≡ b
          at-home = same-number z.home b h

  pub auto-at-home : OneEach W → AutoAtHome T → (y : ImplDecl) → In y T.impls → y.home ≡ c → in_scope T c y.header ≡ true → is_auto W (ρ.traits.to y.header.trait) ≡ true
      → (k : ℕ) × (ks : Trees) × (os : Trees) × (renumbered ρ y.header.args ≡ tree (adt k) ks os) × (struct_is (λ x. x.home == ρ.crates.to y.home) W k ≡ true)
  auto-at-home one o y m own scope auto =
      by (o y m (auto-in-text one y.header.trait (left (sees_trait T c y.header.trait) _ scope) auto))
    where
      by : (k : ℕ) × (ks : Trees) × (os : Trees) × (y.header.args ≡ tree (adt k) ks os) × (struct_is (λ x. x.home == y.home) T k ≡ true)
          → (k : ℕ) × (ks : Trees) × (os : Trees) × (renumbered ρ y.header.args ≡ tree (adt k) ks os) × (struct_is (λ x. x.home == ρ.crates.to y.home) W k ≡ true)
      by (k, ks, os, e, g) = (ρ.structs.to k, renumbered ρ ks, renumbered ρ os, ap (renumbered ρ) e, struct-at-home y.home k own g)

  -- the orphan rule
  pub keeps-over : OneEach W → (r : Reference) → in_scope T c r ≡ true → keeps_orphan_rule v.world c r ≡ true → keeps_orphan_rule W h (renumbered_reference ρ r) ≡ true
  keeps-over one r scope k =
      sym (keeps-in-set W one h U.impls (renumbered_reference ρ r) (scope-over r scope)) ∙ keeps-same ρ v.world U s c r ∙ k

  -- a supertrait of one of the crate's traits: a trait of the set that the crate sees, before it in the text
  abbrev SuperAt : (ℕ → ℕ) → TraitDecl → Reference → Type 0
  SuperAt place x b = (z : TraitDecl) × In z W.traits × (z.name ≡ b.trait) × (sees W h z.home ≡ true) × (place (ρ.traits.back b.trait) < place (ρ.traits.back x.name))

  pub super-at : (place : ℕ → ℕ) → ((y : TraitDecl) (b : Reference) → In y T.traits → In b y.bounds → place b.trait < place y.name) → ((y : TraitDecl) → In y T.traits → TraitObeys T y)
      → (x : TraitDecl) → In x W.traits → x.home ≡ h → (b : Reference) → In b x.bounds → SuperAt place x b
  super-at place before o x m e b k =
      by (trait-from x m (subst (λ d. sees W h d ≡ true) (sym e) (sees-itself (length W.crates) W h)))
    where
      back-name : (y : TraitDecl) → renumbered_trait ρ y ≡ x → y.name ≡ ρ.traits.back x.name
      back-name y q = sym (ρ.traits.back_to y.name) ∙ ap (λ (z : TraitDecl). ρ.traits.back z.name) q

      back-trait : (r : Reference) → renumbered_reference ρ r ≡ b → r.trait ≡ ρ.traits.back b.trait
      back-trait r q = sym (ρ.traits.back_to r.trait) ∙ ap (λ (z : Reference). ρ.traits.back z.trait) q

      less : (i j n u : ℕ) → i ≡ n → j ≡ u → place i < place j → place n < place u
      less i j n u p q l = subst (λ z. place z < place u) p (subst (λ z. place i < place z) q l)

      of-trait : (y : TraitDecl) (r : Reference) → renumbered_trait ρ y ≡ x → renumbered_reference ρ r ≡ b → place r.trait < place y.name
          → (a : TraitDecl) × In a T.traits × (a.name ≡ r.trait) × (sees T c a.home ≡ true) → SuperAt place x b
      of-trait y r q g l (a, n, named, seen-there) = (
        renumbered_trait ρ a,
        (trait-to a n seen-there).0,
        ap ρ.traits.to named ∙ ap (λ (z : Reference). z.trait) g,
        (trait-to a n seen-there).1,
        less r.trait y.name (ρ.traits.back b.trait) (ρ.traits.back x.name) (back-trait r g) (back-name y q) l,
      )

      of-bound : (y : TraitDecl) → In y T.traits → y.home ≡ c → renumbered_trait ρ y ≡ x → (r : Reference) × In r y.bounds × (renumbered_reference ρ r ≡ b) → SuperAt place x b
      of-bound y n own q (r, g, f) =
          of-trait y r q f (before y r n g)
          (trait-at r.trait (left (sees_trait T c r.trait) _ (subst (λ d. in_scope T d r ≡ true) own ((o y n).names r g))))

      by : (y : TraitDecl) × In y T.traits × (sees T c y.home ≡ true) × (renumbered_trait ρ y ≡ x) → SuperAt place x b
      by (y, n, seen-there, q) =
          of-bound y n (injective ρ.crates y.home c (ap (λ (z : TraitDecl). z.home) q ∙ e)) q
          (map-in (renumbered_reference ρ) y.bounds b (subst (λ (z : TraitDecl). In b z.bounds) (sym q) k))

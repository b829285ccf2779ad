-- `no` holds in every linked set: a closed trait reference with short chains and a proof in the set is possible by the
-- view.
use Rattle.std.proofs.Common.{◌≡◌, ℕ, zero, suc, ◌≤◌, Bool, true, false, not, List, [], ◌∷◌, ◌++◌, refl, ap, sym, ◌∙◌, ◌&&◌, ◌||◌, ◌==◌, if◌then◌else◌, cond, subst, ◌⊎◌, inl, inr, map, filter, length, arith}
use Rattle.std.specs.List.{flat_map, list_all, list_any}
use Rattle.type_terms.specs.Codes.{same}
use Rattle.type_terms.specs.Promised.Label.{Label, param, placeholder, infer, canonical, bound, inside, array, slice, tuple, adt, raw_pointer, ref, fn_ptr, dynamic, principal, auto_trait}
use Rattle.type_terms.specs.Promised.Trees.{Trees, none, tree, ◌+++◌, instantiate, shift, nth, some_node}
use Rattle.type_terms.specs.Trees.{arguments}
use Rattle.type_terms.specs.Promised.Worlds.{World, Reference, StructDecl, TraitDecl, ImplDecl, structs_named, traits_named, sees, view_of, with_args, all_with_args}
use Rattle.type_terms.specs.Promised.Walks.{is_known, is_known_in}
use Rattle.type_terms.specs.Promised.Rules.{BuiltIn, sized_tuple, sized_struct, copy_tuple, auto_element, auto_tuple, auto_struct, fn_ptr_call, object_auto, object_principal, equal_rows, upcasts_principal, upcasts_autos, are_declared, unsize_array, unsize_to_dyn, unsize_dyn, unsize_upcast, unsize_struct, Rule, rules, impl_rules, built_in_rules, plain_rules, sized_rules, copy_rules, tuple_rules, fn_ptr_rules, call_rules, but_last, auto_rules, auto_rules_plain, unsize_rules, unsize_array_rules, unsize_to_dyn_rules, unsize_upcast_rules, unsize_struct_rules, some_unsizing, with_unsizing, last_unsizes, object_rules, principal_with, autos_with, elaborated, is_declared, are_dyn_compatible, is_dyn, same_reference, is_auto, is_written, is_fn_trait, sized, copy, clone, tuple_trait, fn_ptr_trait, unsize, row, asked, last_asked, each_asked, together, fields_of, strict_supertraits, strict_supertraits_within, written_supertraits}
use Rattle.type_terms.specs.Promised.Proofs.{ProofEntry, In, Every, HasProof}
use Rattle.type_terms.specs.Promised.Answers.{is_closed, is_open, children, short_chains, is_possible, is_bounded, written_in, FixedLeft, FixedRight, IsFixedClause}
use Rattle.type_terms.specs.Promised.Renumbering.{View}
use Rattle.type_terms.specs.Promised.LinkedSet.{JoinedSet, is_stray, Cleared}
use Rattle.type_terms.specs.LinkedSet.{Unknown}
use Rattle.type_terms.proofs.Members.{here, there, in-cases, in-nothing, in-filter, filter-in, in-append, in-left, in-right, in-flat, flat-in, in-map, not-both}
use Rattle.type_terms.proofs.Walking.{left, right, both, or-left, or-right}
use Rattle.type_terms.proofs.Fitting.{impl-rule, closed-arguments, not-true, or-no, append-shut, head-shut, child-shut, next-shut}
use Rattle.type_terms.proofs.ProofEntries.{map-in, entry-proved}
use Rattle.type_terms.proofs.RuleLists.{equal-all}
use Rattle.type_terms.proofs.TermBasics.{label-kept}
use Rattle.type_terms.proofs.BooleanBasics.{or-cong}

pub member-each : {A : Type 0} (p : A → Bool) (xs : List A) (x : A) → list_all p xs ≡ true → In x xs → p x ≡ true
member-each p [] x h g = absurd (in-nothing x g)
member-each p (y ∷ xs) x h g = by (in-cases x y xs g) (member-each p xs x (right (p y) _ h))
  where
    by : (y ≡ x) ⊎ In x xs → (In x xs → p x ≡ true) → p x ≡ true
    by (inl q) f = ap p (sym q) ∙ left (p y) _ h
    by (inr q) f = f q

pub each-member : {A : Type 0} (p : A → Bool) (xs : List A) → ((x : A) → In x xs → p x ≡ true) → list_all p xs ≡ true
each-member p [] f = refl
each-member p (x ∷ xs) f = both (p x) _ (f x (here x xs)) (each-member p xs (λ y g. f y (there y x xs g)))

pub every-member : {A : Type 0} (P : A → Type 0) (xs : List A) (x : A) → Every P xs → In x xs → P x
every-member P [] x h g = absurd (in-nothing x g)
every-member P (y ∷ xs) x h g = by (in-cases x y xs g) (every-member P xs x h.1)
  where
    by : (y ≡ x) ⊎ In x xs → (In x xs → P x) → P x
    by (inl q) f = subst P q h.0
    by (inr q) f = f q

member-some-of : {A : Type 0} (p : A → Bool) (xs : List A) (x : A) → In x xs → p x ≡ true → list_any p xs ≡ true
member-some-of p [] x g e = absurd (in-nothing x g)
member-some-of p (y ∷ xs) x g e = by (in-cases x y xs g) (member-some-of p xs x)
  where
    by : (y ≡ x) ⊎ In x xs → (In x xs → p x ≡ true → list_any p xs ≡ true) → p y || list_any p xs ≡ true
    by (inl q) f = or-left (p y) _ (ap p q ∙ e)
    by (inr q) f = or-right (p y) _ (f q e)

-- The supertraits by the view are among those by the set
fewer-length : {A : Type 0} (p : A → Bool) (xs : List A) → length (filter p xs) ≤ length xs
fewer-length p [] = omega arith
fewer-length p (x ∷ xs) = by (p x) (fewer-length p xs)
  where
    by : (b : Bool) → length (filter p xs) ≤ length xs → length (cond b (x ∷ filter p xs) (filter p xs)) ≤ suc (length xs)
    by true h = omega arith
    by false h = omega arith

written-more : (W : World) (c : ℕ) (r s : Reference) → In s (written_supertraits (view_of W c) r) → In s (written_supertraits W r)
written-more W c r s h =
    let m = in-flat (λ (t : TraitDecl). all_with_args r.args t.bounds) (traits_named (view_of W c) r.trait) s h in
    let a = in-filter (λ (y : TraitDecl). y.name == r.trait) (view_of W c).traits m.0 m.1 in
    let b = in-filter (λ (y : TraitDecl). sees W c y.home) W.traits m.0 a.0 in
    flat-in (λ (t : TraitDecl). all_with_args r.args t.bounds) (traits_named W r.trait) m.0 s (filter-in (λ (y : TraitDecl). y.name == r.trait) W.traits m.0 b.0 a.1) m.2

supers-more : (k n : ℕ) → k ≤ n → (W : World) (c : ℕ) (r s : Reference) → In s (strict_supertraits_within k (view_of W c) r) → In s (strict_supertraits_within n W r)
supers-more zero n l W c r s h = absurd (in-nothing s h)
supers-more (suc k) zero l W c r s h = absurd (omega arith)
supers-more (suc k) (suc n) l W c r s h = by (in-cases s m.0 (strict_supertraits_within k (view_of W c) m.0) m.2) (supers-more k n (omega arith) W c m.0 s)
  where
    m : (x : Reference) × In x (written_supertraits (view_of W c) r) × In s (x ∷ strict_supertraits_within k (view_of W c) x)
    m = in-flat (λ x. x ∷ strict_supertraits_within k (view_of W c) x) (written_supertraits (view_of W c) r) s h

    put : In s (m.0 ∷ strict_supertraits_within n W m.0) → In s (strict_supertraits_within (suc n) W r)
    put g = flat-in (λ x. x ∷ strict_supertraits_within n W x) (written_supertraits W r) m.0 s (written-more W c r m.0 m.1) g

    by : (m.0 ≡ s) ⊎ In s (strict_supertraits_within k (view_of W c) m.0) → (In s (strict_supertraits_within k (view_of W c) m.0) → In s (strict_supertraits_within n W m.0)) → In s (strict_supertraits_within (suc n) W r)
    by (inl q) f = put (subst (λ z. In z (m.0 ∷ strict_supertraits_within n W m.0)) q (here m.0 (strict_supertraits_within n W m.0)))
    by (inr q) f = put (there s m.0 (strict_supertraits_within n W m.0) (f q))

pub supers-of-view : (W : World) (c : ℕ) (r s : Reference) → In s (strict_supertraits (view_of W c) r) → In s (strict_supertraits W r)
supers-of-view W c r s h = supers-more (length (view_of W c).traits) (length W.traits) (fewer-length (λ (y : TraitDecl). sees W c y.home) W.traits) W c r s h

-- `no` holds, where children of closed references are closed
abbrev pub Shut : World → ℕ → Type 0
Shut V c = (r s : Reference) → is_closed r.args ≡ true → In s (children V c r) → is_closed s.args ≡ true

in-child : (V : World) (c : ℕ) (r p : Reference) (u : Rule) → In u (rules V [] r) → In p u.premises → In p (children V c r)
in-child V c r p u h g =
    in-left p (flat_map (λ (v : Rule). v.premises) (rules V [] r)) (if is_known_in V c r then [] else strict_supertraits V r) (flat-in (λ (v : Rule). v.premises) (rules V [] r) u p h g)

in-unknown : (V : World) (c : ℕ) (r p : Reference) → is_known_in V c r ≡ false → In p (strict_supertraits V r) → In p (children V c r)
in-unknown V c r p e g = in-right p (flat_map (λ (v : Rule). v.premises) (rules V [] r)) (if is_known_in V c r then [] else strict_supertraits V r) (by (is_known_in V c r) e)
  where
    by : (b : Bool) → b ≡ false → In p (if b then [] else strict_supertraits V r)
    by true q = cc
    by false q = g

-- V is what c could tell: what W concludes V gives, or it is unknown to c
module _ (W : World) (c : ℕ) (V : World)
    (gives : (r : Reference) → is_closed r.args ≡ true → (u : Rule) → In u (rules W [] r) → Every (HasProof W []) u.premises → In u (rules V [] r) ⊎ Unknown W c r)
    (unknown : (r : Reference) → is_known W c r ≡ false → is_known_in V c r ≡ false)
    (supers : (r s : Reference) → In s (strict_supertraits V r) → In s (strict_supertraits W r))
    (sh : Shut V c) where
  proved-is-possible : (n : ℕ) (r : Reference) → is_closed r.args ≡ true → short_chains n V c r ≡ true → HasProof W [] r → is_possible n V c r ≡ true
  proved-is-possible zero r z h p = cc
  proved-is-possible (suc n) r z h p =
      by (gives r z e.rule rule.0 rule.1) (λ s g q. proved-is-possible n s (sh r s z g) (member-each (λ x. short_chains n V c x) (children V c r) s h g) q)
    where
      m : (e : ProofEntry) × In e p.0 × (e.of ≡ r)
      m = map-in (λ (e : ProofEntry). e.of) p.0 r p.2

      e : ProofEntry
      e = m.0

      rule : In e.rule (rules W [] r) × Every (HasProof W []) e.rule.premises
      rule = let a = entry-proved W [] p.0 p.1 e m.1 in (subst (λ q. In e.rule (rules W [] q)) m.2 a.0, a.1)

      by : In e.rule (rules V [] r) ⊎ Unknown W c r → ((s : Reference) → In s (children V c r) → HasProof W [] s → is_possible n V c s ≡ true) → is_possible (suc n) V c r ≡ true
      by (inl g) f =
          or-left _ _ (member-some-of (λ u. list_all (λ x. is_possible n V c x) u.premises) (rules V [] r) e.rule g
          (each-member (λ x. is_possible n V c x) e.rule.premises
          (λ x k. f x (in-child V c r x e.rule g k) (every-member (HasProof W []) e.rule.premises x rule.1 k))))
      by (inr g) f =
          or-right _ _ (both (not (is_known_in V c r)) _ (ap not not-known)
          (each-member (λ x. is_possible n V c x) (strict_supertraits V r)
          (λ x k. f x (in-unknown V c r x not-known k) (every-member (HasProof W []) (strict_supertraits W r) x g.supers_stand (supers r x k)))))
        where
          not-known : is_known_in V c r ≡ false
          not-known = unknown r g.unknown

  -- NO HOLDS: what is bounded and not possible by V has no proof in W
  pub no-holds : (limit : ℕ) (r : Reference) → is_bounded limit V c r ≡ true → is_possible limit V c r ≡ false → HasProof W [] r → ⊥
  no-holds limit r b h p =
      not-both (is_possible limit V c r) (proved-is-possible limit r (left (is_closed r.args) _ b) (right (written_in V r) _ (right (is_closed r.args) _ b)) p) h

  -- so a pair with a fixed clause that is bounded and not possible by V is cleared
  cleared-by-no : (limit : ℕ) (i j : ImplDecl) (k r : Reference) → FixedLeft i j k r ⊎ FixedRight i j k r → is_bounded limit V c r ≡ true → is_possible limit V c r ≡ false → Cleared W i j
  cleared-by-no limit i j k r (inl f) b h m ci cj =
      no-holds limit r b h
      (subst (HasProof W []) (f.1 m) (every-member (HasProof W []) (map (with_args m.left) i.clauses) (with_args m.left k) ci (in-map (with_args m.left) i.clauses k f.0)))
  cleared-by-no limit i j k r (inr f) b h m ci cj =
      no-holds limit r b h
      (subst (HasProof W []) (f.1 m) (every-member (HasProof W []) (map (with_args m.right) j.clauses) (with_args m.right k) cj (in-map (with_args m.right) j.clauses k f.0)))

  pub impossible-clears : (limit : ℕ) (i j : ImplDecl) (r : Reference) → IsFixedClause i j r → is_bounded limit V c r ≡ true → is_possible limit V c r ≡ false → Cleared W i j
  impossible-clears limit i j r (inl f) b h = cleared-by-no limit i j f.0 r (inl f.1) b h
  impossible-clears limit i j r (inr f) b h = cleared-by-no limit i j f.0 r (inr f.1) b h

-- Children of closed references are closed
abbrev Shuts : Trees → Type 0
Shuts t = some_node is_open t ≡ false

shift-keeps : (d a : ℕ) (t : Trees) → some_node is_open (shift d a t) ≡ some_node is_open t
shift-keeps d a none = refl
shift-keeps d a (tree l c o) = or-cong _ _ _ _ _ _ (label-kept d a l) (shift-keeps (inside l d) a c) (shift-keeps d a o)

pub nth-shut : (A : Trees) (i : ℕ) → Shuts A → Shuts (nth A i)
nth-shut none i h = refl
nth-shut (tree l c o) zero h = head-shut is_open l c o h
nth-shut (tree l c o) (suc i) h = nth-shut o i (next-shut is_open l c o h)

pub closed-node : (l : Label) (c o : Trees) → is_open l ≡ false → Shuts c → Shuts o → Shuts (tree l c o)
closed-node l c o e f g = or-no (is_open l || some_node is_open c) (some_node is_open o) (or-no (is_open l) (some_node is_open c) e f) g

pub plain-shut : (d : ℕ) (A t : Trees) → Shuts A → some_node is_stray t ≡ false → Shuts (instantiate d A t)
plain-shut d A none h g = refl
plain-shut d A (tree (param s i) c o) h g =
    append-shut is_open (shift zero d (nth A i)) (instantiate d A o) (shift-keeps zero d (nth A i) ∙ nth-shut A i h)
    (plain-shut d A o h (next-shut is_stray (param s i) c o g))
plain-shut d A (tree (placeholder s i) c o) h g = cc
plain-shut d A (tree (infer s i) c o) h g = cc
plain-shut d A (tree (canonical s i) c o) h g = cc
plain-shut d A (tree (bound s k i) c o) h g = cc
plain-shut d A (tree l c o) h g =
    closed-node l (instantiate (inside l d) A c) (instantiate d A o) refl (plain-shut (inside l d) A c h (child-shut is_stray l c o g)) (plain-shut d A o h (next-shut is_stray l c o g))

pub all-plain-shut : (A : Trees) (ks : List Reference) → Shuts A → ((k : Reference) → In k ks → some_node is_stray k.args ≡ false)
    → (p : Reference) → In p (all_with_args A ks) → Shuts p.args
all-plain-shut A ks h f p g =
    let m = map-in (with_args A) ks p g in
    subst (λ (q : Reference). Shuts q.args) m.2 (plain-shut zero A m.0.args h (f m.0 m.1))

-- supertraits
module _ (W : World) (c : ℕ) (bounds : (x : TraitDecl) (b : Reference) → In x W.traits → In b x.bounds → some_node is_stray b.args ≡ false) where
  written-shut : (r s : Reference) → Shuts r.args → In s (written_supertraits (view_of W c) r) → Shuts s.args
  written-shut r s h g =
      let m = in-flat (λ (t : TraitDecl). all_with_args r.args t.bounds) (traits_named (view_of W c) r.trait) s g in
      let a = in-filter (λ (y : TraitDecl). y.name == r.trait) (view_of W c).traits m.0 m.1 in
      let b = in-filter (λ (y : TraitDecl). sees W c y.home) W.traits m.0 a.0 in
      all-plain-shut r.args m.0.bounds h (λ k i. bounds m.0 k b.0 i) s m.2

  pub supers-shut : (n : ℕ) (r s : Reference) → Shuts r.args → In s (strict_supertraits_within n (view_of W c) r) → Shuts s.args
  supers-shut zero r s h g = absurd (in-nothing s g)
  supers-shut (suc n) r s h g = by (in-cases s m.0 (strict_supertraits_within n (view_of W c) m.0) m.2) (supers-shut n m.0 s here-shut)
    where
      m : (x : Reference) × In x (written_supertraits (view_of W c) r) × In s (x ∷ strict_supertraits_within n (view_of W c) x)
      m = in-flat (λ x. x ∷ strict_supertraits_within n (view_of W c) x) (written_supertraits (view_of W c) r) s g

      here-shut : Shuts m.0.args
      here-shut = written-shut r m.0 h m.1

      by : (m.0 ≡ s) ⊎ In s (strict_supertraits_within n (view_of W c) m.0) → (In s (strict_supertraits_within n (view_of W c) m.0) → Shuts s.args) → Shuts s.args
      by (inl q) f = subst (λ (z : Reference). Shuts z.args) q here-shut
      by (inr q) f = f q

-- premises, as tests
abbrev premises-closed : List Rule → Bool
premises-closed us = list_all (λ u. list_all (λ p. is_closed p.args) u.premises) us

pub closed-by : (t : Trees) → Shuts t → is_closed t ≡ true
closed-by t h = ap not h

one-asked : (t : ℕ) (l : Label) (c o : Trees) → Shuts (tree l c o) → premises-closed (row auto_element (asked t (tree l c none) ∷ [])) ≡ true
one-asked t l c o h = both _ true (both (is_closed (tree l c none)) true (closed-by (tree l c none) (head-shut is_open l c o h)) refl) refl

last-closed : (t : ℕ) (a : Trees) → Shuts a → list_all (λ (p : Reference). is_closed p.args) (last_asked t a) ≡ true
last-closed t none h = refl
last-closed t (tree l c none) h = both (is_closed (tree l c none)) true (closed-by (tree l c none) h) refl
last-closed t (tree l c (tree m d o)) h = last-closed t (tree m d o) (next-shut is_open l c (tree m d o) h)

pub each-closed : (t : ℕ) (a : Trees) → Shuts a → list_all (λ (p : Reference). is_closed p.args) (each_asked t a) ≡ true
each-closed t none h = refl
each-closed t (tree l c o) h = both (is_closed (tree l c none)) _ (closed-by (tree l c none) (head-shut is_open l c o h)) (each-closed t o (next-shut is_open l c o h))

a-row : (n : BuiltIn) (ps : List Reference) → list_all (λ (p : Reference). is_closed p.args) ps ≡ true → premises-closed (row n ps) ≡ true
a-row n ps h = both _ true h refl

together-shut : (A : Trees) (fs : List Trees) → Shuts A → ((t : Trees) → In t fs → some_node is_stray t ≡ false) → Shuts (together (map (instantiate zero A) fs))
together-shut A [] h f = refl
together-shut A (t ∷ fs) h f =
    append-shut is_open (instantiate zero A t) (together (map (instantiate zero A) fs)) (plain-shut zero A t h (f t (here t fs)))
    (together-shut A fs h (λ x g. f x (there x t fs g)))

flat-closed : {A : Type 0} (f : A → List Rule) (xs : List A) → ((x : A) → In x xs → premises-closed (f x) ≡ true) → premises-closed (flat_map f xs) ≡ true
flat-closed f [] h = refl
flat-closed f (x ∷ xs) h = joined (f x) (flat_map f xs) (h x (here x xs)) (flat-closed f xs (λ y g. h y (there y x xs g)))
  where
    joined : (us vs : List Rule) → premises-closed us ≡ true → premises-closed vs ≡ true → premises-closed (us ++ vs) ≡ true
    joined [] vs e g = g
    joined (u ∷ us) vs e g =
        both (list_all (λ p. is_closed p.args) u.premises) _ (left (list_all (λ p. is_closed p.args) u.premises) _ e)
        (joined us vs (right (list_all (λ p. is_closed p.args) u.premises) _ e) g)

module _ (V : World) (fields : (x : StructDecl) (t : Trees) → In x V.structs → In t x.fields → some_node is_stray t ≡ false) where
  fields-shut : (s : ℕ) (k : Trees) → Shuts k → (x : StructDecl) → In x (structs_named V s) → Shuts (fields_of x k)
  fields-shut s k h x g = together-shut k x.fields h (λ t i. fields x t (in-filter (λ (y : StructDecl). y.name == s) V.structs x g).0 i)

  sized-closed : (a : Trees) → Shuts a → premises-closed (sized_rules V a) ≡ true
  sized-closed none h = refl
  sized-closed (tree tuple k o) h = a-row sized_tuple (last_asked sized k) (last-closed sized k (child-shut is_open tuple k o h))
  sized-closed (tree (adt s) k o) h =
      flat-closed (λ x. row sized_struct (last_asked sized (fields_of x k))) (structs_named V s)
      (λ x g. a-row sized_struct (last_asked sized (fields_of x k)) (last-closed sized (fields_of x k) (fields-shut s k (child-shut is_open (adt s) k o h) x g)))
  sized-closed (tree l k o) h = refl

  auto-closed : (t : ℕ) (a : Trees) → Shuts a → premises-closed (auto_rules_plain V t a) ≡ true
  auto-closed t none h = refl
  auto-closed t (tree tuple k o) h = a-row auto_tuple (each_asked t k) (each-closed t k (child-shut is_open tuple k o h))
  auto-closed t (tree (adt s) k o) h =
      flat-closed (λ x. row auto_struct (each_asked t (fields_of x k))) (structs_named V s)
      (λ x g. a-row auto_struct (each_asked t (fields_of x k)) (each-closed t (fields_of x k) (fields-shut s k (child-shut is_open (adt s) k o h) x g)))
  auto-closed t (tree (raw_pointer b) none p) h = refl
  auto-closed t (tree (raw_pointer b) (tree l k o) p) h = one-asked t l k o (child-shut is_open (raw_pointer b) (tree l k o) p h)
  auto-closed t (tree array none p) h = refl
  auto-closed t (tree array (tree l k o) p) h = one-asked t l k o (child-shut is_open array (tree l k o) p h)
  auto-closed t (tree slice none p) h = refl
  auto-closed t (tree slice (tree l k o) p) h = one-asked t l k o (child-shut is_open slice (tree l k o) p h)
  auto-closed t (tree (ref b) none p) h = refl
  auto-closed t (tree (ref b) (tree r rc none) p) h = refl
  auto-closed t (tree (ref b) (tree r rc (tree l k o)) p) h =
      one-asked t l k o (next-shut is_open r rc (tree l k o) (child-shut is_open (ref b) (tree r rc (tree l k o)) p h))
  auto-closed t (tree l k o) h = refl

  auto-all-closed : (t : ℕ) (a : Trees) → Shuts a → premises-closed (auto_rules V t a) ≡ true
  auto-all-closed t none h = refl
  auto-all-closed t (tree l k o) h = by (is_written V t l) (auto-closed t (tree l k o) h)
    where
      by : (b : Bool) → premises-closed (auto_rules_plain V t (tree l k o)) ≡ true → premises-closed (if b then [] else auto_rules_plain V t (tree l k o)) ≡ true
      by true g = refl
      by false g = g

copy-closed : (t : ℕ) (a : Trees) → Shuts a → premises-closed (copy_rules t a) ≡ true
copy-closed t none h = refl
copy-closed t (tree (fn_ptr n) k o) h = refl
copy-closed t (tree tuple k o) h = a-row copy_tuple (each_asked t k) (each-closed t k (child-shut is_open tuple k o h))
copy-closed t (tree l k o) h = refl

-- what a list of rules asks, where the list is there only if b is true
pub if-closed : (b : Bool) (us : List Rule) → premises-closed us ≡ true → premises-closed (if b then us else []) ≡ true
if-closed true us h = h
if-closed false us h = refl

join-closed : (us vs : List Rule) → premises-closed us ≡ true → premises-closed vs ≡ true → premises-closed (us ++ vs) ≡ true
join-closed [] vs e g = g
join-closed (u ∷ us) vs e g =
    both (list_all (λ p. is_closed p.args) u.premises) _ (left (list_all (λ p. is_closed p.args) u.premises) _ e)
    (join-closed us vs (right (list_all (λ p. is_closed p.args) u.premises) _ e) g)

pub tuple-closed : (a : Trees) → premises-closed (tuple_rules a) ≡ true
tuple-closed none = refl
tuple-closed (tree tuple k o) = refl
tuple-closed (tree l k o) = refl

pub fn-ptr-closed : (a : Trees) → premises-closed (fn_ptr_rules a) ≡ true
fn-ptr-closed none = refl
fn-ptr-closed (tree (fn_ptr n) k o) = refl
fn-ptr-closed (tree l k o) = refl

call-closed : (a : Trees) → Shuts a → premises-closed (call_rules a) ≡ true
call-closed (tree (fn_ptr n) types (tree tuple inputs o)) h =
    if-closed (same (but_last types) inputs) (row fn_ptr_call (last_asked sized types))
    (a-row fn_ptr_call (last_asked sized types) (last-closed sized types (child-shut is_open (fn_ptr n) types (tree tuple inputs o) h)))
call-closed a h = refl

pub plain-closed : (r : Reference) → Shuts r.args → premises-closed (plain_rules r) ≡ true
plain-closed r h =
    join-closed (if (r.trait == copy) || (r.trait == clone) then copy_rules r.trait r.args else []) _
    (if-closed ((r.trait == copy) || (r.trait == clone)) (copy_rules r.trait r.args) (copy-closed r.trait r.args h))
    (join-closed (if r.trait == tuple_trait then tuple_rules r.args else []) _ (if-closed (r.trait == tuple_trait) (tuple_rules r.args) (tuple-closed r.args))
    (join-closed (if r.trait == fn_ptr_trait then fn_ptr_rules r.args else []) _ (if-closed (r.trait == fn_ptr_trait) (fn_ptr_rules r.args) (fn-ptr-closed r.args))
    (if-closed (is_fn_trait r.trait) (call_rules r.args) (call-closed r.args h))))

pub unsize-array-closed : (a : Trees) → premises-closed (unsize_array_rules a) ≡ true
unsize-array-closed (tree array (tree l c n) (tree slice (tree m d p) o)) = if-closed (same (tree l c none) (tree m d none)) (row unsize_array []) refl
unsize-array-closed a = refl

-- each of the rows for equal references asks the same
equal-closed : (b : ℕ → BuiltIn) (ps : List Reference) (r : Reference) (k : ℕ) (ss : List Reference)
    → list_all (λ (p : Reference). is_closed p.args) ps ≡ true → premises-closed (equal_rows b ps r k ss) ≡ true
equal-closed b ps r k ss h = equal-all (λ (u : Rule). list_all (λ (p : Reference). is_closed p.args) u.premises) b ps r k ss (λ n. h)

pub upcasts-closed : (V : World) (ps qs : List Reference) → premises-closed (upcasts_principal V ps qs) ≡ true
upcasts-closed V ps [] = refl
upcasts-closed V [] (q ∷ qs) = refl
upcasts-closed V (p ∷ ps) (q ∷ qs) = by (p.trait == q.trait)
  where
    by : (b : Bool) → premises-closed (if b then (if same_reference p q then row unsize_dyn [] else []) else equal_rows unsize_upcast [] q 1 (strict_supertraits V p)) ≡ true
    by true = if-closed (same_reference p q) (row unsize_dyn []) refl
    by false = equal-closed unsize_upcast [] q 1 (strict_supertraits V p) refl

pub unsize-upcast-closed : (V : World) (a : Trees) → premises-closed (unsize_upcast_rules V a) ≡ true
unsize-upcast-closed V (tree dynamic k (tree dynamic b o)) =
    let self = tree dynamic k none in
    let p = principal_with self k in
    let q = principal_with self b in
    if-closed (are_declared V p && upcasts_autos V p (autos_with self k) (autos_with self b)) (upcasts_principal V p q) (upcasts-closed V p q)
unsize-upcast-closed V a = refl

-- lists of references, all closed
abbrev all-closed : List Reference → Bool
all-closed ps = list_all (λ (p : Reference). is_closed p.args) ps

append-closed : (ps qs : List Reference) → all-closed ps ≡ true → all-closed qs ≡ true → all-closed (ps ++ qs) ≡ true
append-closed [] qs h g = g
append-closed (p ∷ ps) qs h g = both (is_closed p.args) _ (left (is_closed p.args) _ h) (append-closed ps qs (right (is_closed p.args) _ h) g)

principal-closed : (self b : Trees) → Shuts self → Shuts b → all-closed (principal_with self b) ≡ true
principal-closed self none h g = refl
principal-closed self (tree (principal n t) k o) h g =
    both (is_closed (self +++ k)) true (closed-by (self +++ k) (append-shut is_open self k h (child-shut is_open (principal n t) k o g))) refl
principal-closed self (tree l k o) h g = refl

autos-closed : (self b : Trees) → Shuts self → all-closed (autos_with self b) ≡ true
autos-closed self none h = refl
autos-closed self (tree (auto_trait t) k o) h = both (is_closed self) _ (closed-by self h) (autos-closed self o h)
autos-closed self (tree l k o) h = autos-closed self o h

unsize-to-dyn-closed : (V : World) (a : Trees) → Shuts a → premises-closed (unsize_to_dyn_rules V a) ≡ true
unsize-to-dyn-closed V (tree l k (tree dynamic b o)) h =
    if-closed (not (is_dyn l) && are_dyn_compatible V (principal_with self b)) (row unsize_to_dyn (principal_with self b ++ (autos_with self b ++ asked sized self ∷ [])))
    (a-row unsize_to_dyn (principal_with self b ++ (autos_with self b ++ asked sized self ∷ []))
    (append-closed (principal_with self b) (autos_with self b ++ asked sized self ∷ []) (principal-closed self b self-shut bounds-shut)
    (append-closed (autos_with self b) (asked sized self ∷ []) (autos-closed self b self-shut) (both (is_closed self) true (closed-by self self-shut) refl))))
  where
    self : Trees
    self = tree l k none

    self-shut : Shuts self
    self-shut = head-shut is_open l k (tree dynamic b o) h

    bounds-shut : Shuts b
    bounds-shut = child-shut is_open dynamic b o (next-shut is_open l k (tree dynamic b o) h)
unsize-to-dyn-closed V a h = refl

last-unsizes-closed : (fs : List Trees) (a b : Trees) → Shuts a → Shuts b → ((t : Trees) → In t fs → some_node is_stray t ≡ false) → all-closed (last_unsizes fs a b) ≡ true
last-unsizes-closed [] a b h g f = refl
last-unsizes-closed (t ∷ []) a b h g f =
    both _ true
    (closed-by (instantiate zero a t +++ instantiate zero b t)
    (append-shut is_open (instantiate zero a t) (instantiate zero b t) (plain-shut zero a t h (f t (here t []))) (plain-shut zero b t g (f t (here t []))))) refl
last-unsizes-closed (t ∷ v ∷ fs) a b h g f = last-unsizes-closed (v ∷ fs) a b h g (λ x k. f x (there x t (v ∷ fs) k))

module _ (V : World) (fields : (x : StructDecl) (t : Trees) → In x V.structs → In t x.fields → some_node is_stray t ≡ false) where
  unsize-struct-closed : (a : Trees) → Shuts a → premises-closed (unsize_struct_rules V a) ≡ true
  unsize-struct-closed (tree (adt s) x (tree (adt v) y o)) h =
      if-closed (s == v) (flat_map f (structs_named V s))
      (flat-closed f (structs_named V s)
      (λ d g. if-closed (some_unsizing d.fields 0 x && same (with_unsizing d.fields 0 x y) y) (row unsize_struct (last_unsizes d.fields x y))
      (a-row unsize_struct (last_unsizes d.fields x y)
      (last-unsizes-closed d.fields x y (child-shut is_open (adt s) x (tree (adt v) y o) h) (child-shut is_open (adt v) y o (next-shut is_open (adt s) x (tree (adt v) y o) h))
      (λ t i. fields d t (in-filter (λ (z : StructDecl). z.name == s) V.structs d g).0 i)))))
    where
      f : StructDecl → List Rule
      f d = if some_unsizing d.fields 0 x && same (with_unsizing d.fields 0 x y) y then row unsize_struct (last_unsizes d.fields x y) else []
  unsize-struct-closed a h = refl

  unsize-closed : (a : Trees) → Shuts a → premises-closed (unsize_rules V a) ≡ true
  unsize-closed a h =
      join-closed (unsize_array_rules a) _ (unsize-array-closed a)
      (join-closed (unsize_to_dyn_rules V a) _ (unsize-to-dyn-closed V a h)
      (join-closed (unsize_upcast_rules V a) _ (unsize-upcast-closed V a) (unsize-struct-closed a h)))

pub object-closed : (V : World) (r : Reference) (a : Trees) → all-closed (strict_supertraits V r) ≡ true → premises-closed (object_rules V r a) ≡ true
object-closed V r none h = refl
object-closed V r (tree dynamic k o) h =
    if-closed (is_declared V r.trait && are_dyn_compatible V p) (autos ++ principal)
    (join-closed autos principal
    (if-closed (not (r.trait == sized) && list_any (same_reference r) q) (row object_auto (strict_supertraits V r)) (a-row object_auto (strict_supertraits V r) h))
    (if-closed (not (r.trait == sized)) (equal_rows object_principal (strict_supertraits V r) r 0 (elaborated V p)) (equal-closed object_principal (strict_supertraits V r) r 0 (elaborated V p) h)))
  where
    p : List Reference
    p = principal_with (tree dynamic k none) k

    q : List Reference
    q = autos_with (tree dynamic k none) k

    autos : List Rule
    autos = if not (r.trait == sized) && list_any (same_reference r) q then row object_auto (strict_supertraits V r) else []

    principal : List Rule
    principal = if not (r.trait == sized) then equal_rows object_principal (strict_supertraits V r) r 0 (elaborated V p) else []
object-closed V r (tree l k o) h = refl

member-closed : (us : List Rule) → premises-closed us ≡ true → (u : Rule) → In u us → (p : Reference) → In p u.premises → is_closed p.args ≡ true
member-closed us h u g p k =
    member-each (λ (q : Reference). is_closed q.args) u.premises p (member-each (λ (v : Rule). list_all (λ q. is_closed q.args) v.premises) us u h g) k

pub shut : (W : World) (vs : List View) (rank : ℕ → ℕ) → JoinedSet W vs rank → (c : ℕ) → Shut (view_of W c) c
shut W vs rank l c r s z h = by (in-append s (flat_map (λ (u : Rule). u.premises) (rules V [] r)) (if is_known_in V c r then [] else strict_supertraits V r) h)
  where
    V : World
    V = view_of W c

    rs : Shuts r.args
    rs = not-true (some_node is_open r.args) z

    fields : (x : StructDecl) (t : Trees) → In x V.structs → In t x.fields → some_node is_stray t ≡ false
    fields x t g k = (l.rules.plain.fields x t (in-filter (λ (y : StructDecl). sees W c y.home) W.structs x g).0 k).open_places

    bounds : (x : TraitDecl) (b : Reference) → In x W.traits → In b x.bounds → some_node is_stray b.args ≡ false
    bounds x b g k = (l.rules.plain.bounds x b g k).open_places

    of-supers : In s (if is_known_in V c r then [] else strict_supertraits V r) → is_closed s.args ≡ true
    of-supers g = closed-by s.args (supers-shut W c bounds (length V.traits) r s rs (pick (is_known_in V c r) g))
      where
        pick : (b : Bool) → In s (if b then [] else strict_supertraits V r) → In s (strict_supertraits V r)
        pick true q = absurd (in-nothing s q)
        pick false q = q

    supers-closed : list_all (λ (p : Reference). is_closed p.args) (strict_supertraits V r) ≡ true
    supers-closed = each-member (λ (p : Reference). is_closed p.args) (strict_supertraits V r) (λ x g. closed-by x.args (supers-shut W c bounds (length V.traits) r x rs g))

    built-in-closed : premises-closed (built_in_rules V r) ≡ true
    built-in-closed =
        join-closed (plain_rules r) _ (plain-closed r rs)
        (join-closed (if r.trait == sized then sized_rules V r.args else []) _ (if-closed (r.trait == sized) (sized_rules V r.args) (sized-closed V fields r.args rs))
        (join-closed (if is_auto V r.trait then auto_rules V r.trait r.args else []) _ (if-closed (is_auto V r.trait) (auto_rules V r.trait r.args) (auto-all-closed V fields r.trait r.args rs))
        (join-closed (if r.trait == unsize then unsize_rules V r.args else []) _ (if-closed (r.trait == unsize) (unsize_rules V r.args) (unsize-closed V fields r.args rs))
        (object-closed V r r.args supers-closed))))

    of-built-in : (u : Rule) → In s u.premises → In u (built_in_rules V r) → is_closed s.args ≡ true
    of-built-in u k g = member-closed (built_in_rules V r) built-in-closed u g s k

    of-impl : (u : Rule) → In s u.premises → In u (flat_map (impl_rules r) V.impls) → is_closed s.args ≡ true
    of-impl u k g =
        let m = in-flat (impl_rules r) V.impls u g in
        let i = in-filter (λ (x : ImplDecl). sees W c x.home) W.impls m.0 m.1 in
        let b = impl-rule r m.0 u m.2 in
        let A = arguments m.0.params m.0.header.args r.args in
        closed-by s.args
        (all-plain-shut A m.0.clauses (not-true (some_node is_open A) (closed-arguments m.0.params m.0.header.args r.args z))
        (λ q j. (l.rules.plain.clauses m.0 q i.0 j).open_places) s (subst (λ (v : Rule). In s v.premises) (sym b.is-rule) k))

    of-rules : (u : Rule) × In u (rules V [] r) × In s u.premises → is_closed s.args ≡ true
    of-rules m = pick (in-append m.0 (flat_map (impl_rules r) V.impls) (built_in_rules V r ++ []) m.1)
      where
        pick : In m.0 (flat_map (impl_rules r) V.impls) ⊎ In m.0 (built_in_rules V r ++ []) → is_closed s.args ≡ true
        pick (inl g) = of-impl m.0 m.2 g
        pick (inr g) = rest (in-append m.0 (built_in_rules V r) [] g)
          where
            rest : In m.0 (built_in_rules V r) ⊎ In m.0 [] → is_closed s.args ≡ true
            rest (inl q) = of-built-in m.0 m.2 q
            rest (inr q) = absurd (in-nothing m.0 q)

    by : In s (flat_map (λ (u : Rule). u.premises) (rules V [] r)) ⊎ In s (if is_known_in V c r then [] else strict_supertraits V r) → is_closed s.args ≡ true
    by (inl g) = of-rules (in-flat (λ (u : Rule). u.premises) (rules V [] r) s g)
    by (inr g) = of-supers g

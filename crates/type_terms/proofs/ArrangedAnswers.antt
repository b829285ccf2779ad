-- Arranged auto traits: knowable, bounded and possible trait references stay so.
use Rattle.std.proofs.Common.{◌≡◌, ℕ, zero, suc, Bool, true, false, List, [], ◌∷◌, refl, ap, sym, ◌∙◌, ◌&&◌, ◌||◌, ◌==◌, not, if◌then◌else◌, subst, ◌⊎◌, inl, inr, map, Option, Some, None}
use Rattle.std.specs.List.{list_all, list_any, flat_map}
use Rattle.type_terms.specs.Promised.Label.{Label, of_type, of_const, of_lifetime, dynamic, static, adt, value, ref, principal, auto_trait, param, placeholder, infer, canonical, bound, of_trait, predicate}
use Rattle.type_terms.specs.Promised.Trees.{Trees, none, tree, some_node}
use Rattle.type_terms.specs.Promised.Worlds.{World, Reference, StructDecl, TraitDecl, ImplDecl, structs_named, traits_named}
use Rattle.type_terms.specs.Promised.Rules.{Rule, rules, strict_supertraits}
use Rattle.type_terms.specs.Promised.Proofs.{In}
use Rattle.type_terms.specs.Promised.Walks.{Met, local, struct_leaf, dyn_leaf, entered, struct_is, trait_is, is_home, dyn_met, visited, until_decisive, open_walk, ends_local, item_in, is_known_in}
use Rattle.type_terms.specs.Promised.Answers.{is_open, is_closed, is_undeclared, written_in, children, short_chains, is_bounded, is_possible, CommonInstance}
use Rattle.type_terms.specs.Promised.Supers.{dyns_of_bounds}
use Rattle.type_terms.specs.LinkedSet.{all_written}
use Rattle.type_terms.specs.Promised.Arranging.{Arrangement, autos_in, with_autos, arranged, arranged_reference, arranged_struct, arranged_trait, arranged_impl, arranged_world}
use Rattle.type_terms.specs.Arranging.{turned_back}
use Rattle.type_terms.proofs.Members.{here, there, in-cases, in-append, in-left, in-right, in-flat, flat-in, in-map, some-member, member-some, in-nothing}
use Rattle.type_terms.proofs.Walking.{left, right, both, or-left, or-right, or-cases}
use Rattle.type_terms.proofs.ProofEntries.{map-in}
use Rattle.type_terms.proofs.NoHolds.{member-each, each-member}
use Rattle.type_terms.proofs.Fitting.{fits-sound}
use Rattle.type_terms.proofs.Applies.{fits-complete}
use Rattle.type_terms.proofs.RenumberedTrees.{and-same, bool-same}
use Rattle.type_terms.proofs.RenumberedRules.{append-same, cons-same, or-same, any-over}
use Rattle.type_terms.proofs.ArrangedTrees.{back-to, reference-back, reference-at, over-some, over-fits, over-instantiate}
use Rattle.type_terms.proofs.ArrangedRules.{BoundWorld, rules-arranged, over-supers, structs-there, traits-there}
use Rattle.type_terms.proofs.ArrangedProofs.{bound-world, written-stays, world-back}

-- a test that some auto trait passes
autos-some : (p : Label → Bool) (n : ℕ) (t : Trees) → In n (autos_in t) → p (auto_trait n) ≡ true → some_node p t ≡ true
autos-some p n none h e = absurd (in-nothing n h)
autos-some p n (tree (auto_trait m) c o) h e = by (in-cases n m (autos_in o) h) (λ k. autos-some p n o k e)
  where
    by : (m ≡ n) ⊎ In n (autos_in o) → (In n (autos_in o) → some_node p o ≡ true) → p (auto_trait m) || some_node p c || some_node p o ≡ true
    by (inl q) f = or-left _ _ (or-left' (subst (λ k. p (auto_trait k) ≡ true) (sym q) e))
      where
        or-left' : p (auto_trait m) ≡ true → p (auto_trait m) || some_node p c ≡ true
        or-left' k = or-left _ _ k
    by (inr k) f = or-right _ _ (f k)
autos-some p n (tree l c o) h e = or-right _ _ (autos-some p n o h e)

some-from : (p : Label → Bool) (b : Bool) (ns : List ℕ) (t : Trees) → ((n : ℕ) → In n ns → p (auto_trait n) ≡ true → b ≡ true) → (some_node p t ≡ true → b ≡ true) → some_node p (with_autos ns t) ≡ true → b ≡ true
some-from p b ns none f g h = g h
some-from p b [] (tree (auto_trait m) c o) f g h = by (or-cases (p (auto_trait m) || some_node p c) (some_node p (with_autos [] o)) h) (some-from p b [] o f (λ k. g (or-right _ _ k)))
  where
    by : (p (auto_trait m) || some_node p c ≡ true) ⊎ (some_node p (with_autos [] o) ≡ true) → (some_node p (with_autos [] o) ≡ true → b ≡ true) → b ≡ true
    by (inl k) r = g (or-left _ _ k)
    by (inr k) r = r k
some-from p b (n ∷ ns) (tree (auto_trait m) c o) f g h =
    by (or-cases (p (auto_trait n) || some_node p c) (some_node p (with_autos ns o)) h) (some-from p b ns o (λ k i. f k (there k n ns i)) (λ k. g (or-right _ _ k)))
  where
    first : (p (auto_trait n) ≡ true) ⊎ (some_node p c ≡ true) → b ≡ true
    first (inl k) = f n (here n ns) k
    first (inr k) = g (or-left _ _ (or-right _ _ k))

    by : (p (auto_trait n) || some_node p c ≡ true) ⊎ (some_node p (with_autos ns o) ≡ true) → (some_node p (with_autos ns o) ≡ true → b ≡ true) → b ≡ true
    by (inl k) r = first (or-cases (p (auto_trait n)) (some_node p c) k)
    by (inr k) r = r k
some-from p b ns (tree l c o) f g h = by (or-cases (p l || some_node p c) (some_node p (with_autos ns o)) h) (some-from p b ns o f (λ k. g (or-right _ _ k)))
  where
    by : (p l || some_node p c ≡ true) ⊎ (some_node p (with_autos ns o) ≡ true) → (some_node p (with_autos ns o) ≡ true → b ≡ true) → b ≡ true
    by (inl k) r = g (or-left _ _ k)
    by (inr k) r = r k

-- some node of the tree in the other order passes, so some node of the tree does
some-before : (α : Arrangement) (p : Label → Bool) (t : Trees) → some_node p (arranged α t) ≡ true → some_node p t ≡ true
some-before α p none h = h
some-before α p (tree dynamic c o) h =
    by (or-cases (p dynamic || some_node p (with_autos (α.to (autos_in c)) (arranged α c))) (some_node p (arranged α o)) h) (some-before α p c) (some-before α p o)
  where
    inner : (some_node p (arranged α c) ≡ true → some_node p c ≡ true) → some_node p (with_autos (α.to (autos_in c)) (arranged α c)) ≡ true → some_node p c ≡ true
    inner f = some-from p (some_node p c) (α.to (autos_in c)) (arranged α c) (λ n i e. autos-some p n c ((α.same_traits (autos_in c)).1 n i) e) f

    first : (some_node p (arranged α c) ≡ true → some_node p c ≡ true) → (p dynamic ≡ true) ⊎ (some_node p (with_autos (α.to (autos_in c)) (arranged α c)) ≡ true) → p dynamic || some_node p c ≡ true
    first f (inl k) = or-left _ _ k
    first f (inr k) = or-right _ _ (inner f k)

    by : (p dynamic || some_node p (with_autos (α.to (autos_in c)) (arranged α c)) ≡ true) ⊎ (some_node p (arranged α o) ≡ true) → (some_node p (arranged α c) ≡ true → some_node p c ≡ true)
        → (some_node p (arranged α o) ≡ true → some_node p o ≡ true) → p dynamic || some_node p c || some_node p o ≡ true
    by (inl k) f g = or-left _ _ (first f (or-cases (p dynamic) (some_node p (with_autos (α.to (autos_in c)) (arranged α c))) k))
    by (inr k) f g = or-right _ _ (g k)
some-before α p (tree l c o) h = by (or-cases (p l || some_node p (arranged α c)) (some_node p (arranged α o)) h) (some-before α p c) (some-before α p o)
  where
    first : (some_node p (arranged α c) ≡ true → some_node p c ≡ true) → (p l ≡ true) ⊎ (some_node p (arranged α c) ≡ true) → p l || some_node p c ≡ true
    first f (inl k) = or-left _ _ k
    first f (inr k) = or-right _ _ (f k)

    by : (p l || some_node p (arranged α c) ≡ true) ⊎ (some_node p (arranged α o) ≡ true) → (some_node p (arranged α c) ≡ true → some_node p c ≡ true) → (some_node p (arranged α o) ≡ true → some_node p o ≡ true)
        → p l || some_node p c || some_node p o ≡ true
    by (inl k) f g = or-left _ _ (first f (or-cases (p l) (some_node p (arranged α c)) k))
    by (inr k) f g = or-right _ _ (g k)

pub some-same : (α : Arrangement) (p : Label → Bool) (t : Trees) → some_node p (arranged α t) ≡ some_node p t
some-same α p t =
    bool-same (some_node p (arranged α t)) (some_node p t) (some-before α p t)
    (λ h. some-before (turned_back α) p (arranged α t) (subst (λ x. some_node p x ≡ true) (sym (back-to α t)) h))

open-same : (m n : ℕ) → is_open (auto_trait m) ≡ is_open (auto_trait n)
open-same m n = refl

pub over-closed : (α : Arrangement) (t : Trees) → is_closed (arranged α t) ≡ is_closed t
over-closed α t = ap not (over-some α is_open open-same t)

pub over-common : (α : Arrangement) (i j : ImplDecl) → dyns_of_bounds i.header.args ≡ true → dyns_of_bounds j.header.args ≡ true → CommonInstance i j → CommonInstance (arranged_impl α i) (arranged_impl α j)
over-common α i j f g m = record {
  left = arranged α m.left;
  right = arranged α m.right;
  left_closed = over-closed α m.left ∙ m.left_closed;
  right_closed = over-closed α m.right ∙ m.right_closed;
  left_fits = fits-sound (arranged α m.left) (arranged α i.header.args) (over-fits α m.left i.header.args ∙ fits-complete m.left i.header.args m.left_fits);
  right_fits = fits-sound (arranged α m.right) (arranged α j.header.args) (over-fits α m.right j.header.args ∙ fits-complete m.right j.header.args m.right_fits);
  equal = sym (reference-at i.header.trait (over-instantiate α 0 m.left i.header.args f)) ∙ ap (arranged_reference α) m.equal ∙ reference-at j.header.trait (over-instantiate α 0 m.right j.header.args g);
}

module _ (α : Arrangement) (V : World) (w : BoundWorld V) where
  abbrev U : World
  U = arranged_world α V

  abbrev P : Trees → Trees
  P t = arranged α t

  abbrev Q : Reference → Reference
  Q r = arranged_reference α r

  struct-same : (p : StructDecl → Bool) → ((x : StructDecl) → p (arranged_struct α x) ≡ p x) → (s : ℕ) → struct_is p U s ≡ struct_is p V s
  struct-same p e s = ap (list_any p) (structs-there α V w s) ∙ any-over (arranged_struct α) p p e (structs_named V s)

  trait-same : (p : TraitDecl → Bool) → ((x : TraitDecl) → p (arranged_trait α x) ≡ p x) → (t : ℕ) → trait_is p U t ≡ trait_is p V t
  trait-same p e t = ap (list_any p) (traits-there α V w t) ∙ any-over (arranged_trait α) p p e (traits_named V t)

  -- Walks
  dyn-met-filled : (d : Option ℕ) (ns : List ℕ) (c : Trees) → dyn_met U d (with_autos ns c) ≡ dyn_met U d c
  dyn-met-filled d ns none = refl
  dyn-met-filled d [] (tree (auto_trait t) c o) = refl
  dyn-met-filled d (n ∷ ns) (tree (auto_trait t) c o) = refl
  dyn-met-filled d ns (tree (principal k t) c o) = refl
  dyn-met-filled d ns (tree l c o) = refl

  over-dyn-met : (d : Option ℕ) (c : Trees) → dyn_met U d (P c) ≡ dyn_met V d c
  over-dyn-met d none = refl
  over-dyn-met d (tree (principal n t) c o) = ap (λ b. (if b then local else dyn_leaf t) ∷ []) (trait-same (λ x. is_home d x.home) (λ x. refl) t)
  over-dyn-met d (tree l c o) = refl

  pub over-visited : (d : Option ℕ) (t : Trees) → visited U d (P t) ≡ visited V d t
  over-visited d none = refl
  over-visited d (tree (ref b) c o) = append-same (over-visited d c) (over-visited d o)
  over-visited d (tree (adt s) c o) =
      append-same
      (by (struct_is (λ x. is_home d x.home) V s) (struct_is (λ x. is_home d x.home) U s) (struct_is (λ x. x.is_fundamental) V s) (struct_is (λ x. x.is_fundamental) U s)
      (struct-same (λ x. is_home d x.home) (λ x. refl) s) (struct-same (λ x. x.is_fundamental) (λ x. refl) s) (over-visited d c))
      (over-visited d o)
    where
      by : (a a' f f' : Bool) → a' ≡ a → f' ≡ f → visited U d (P c) ≡ visited V d c
          → (if a' then local ∷ [] else if f' then entered s ∷ visited U d (P c) else struct_leaf s ∷ []) ≡ (if a then local ∷ [] else if f then entered s ∷ visited V d c else struct_leaf s ∷ [])
      by true true f f' e g k = refl
      by true false f f' e g k = cc
      by false true f f' e g k = cc
      by false false true true e g k = cons-same refl k
      by false false true false e g k = cc
      by false false false true e g k = cc
      by false false false false e g k = refl
  over-visited d (tree dynamic c o) = append-same (dyn-met-filled d (α.to (autos_in c)) (P c) ∙ over-dyn-met d c) (over-visited d o)
  over-visited d (tree (param of_type i) c o) = cons-same refl (over-visited d o)
  over-visited d (tree (param of_const i) c o) = over-visited d o
  over-visited d (tree (param of_lifetime i) c o) = over-visited d o
  over-visited d (tree (placeholder of_type i) c o) = cons-same refl (over-visited d o)
  over-visited d (tree (placeholder of_const i) c o) = over-visited d o
  over-visited d (tree (placeholder of_lifetime i) c o) = over-visited d o
  over-visited d (tree (infer of_type i) c o) = cons-same refl (over-visited d o)
  over-visited d (tree (infer of_const i) c o) = over-visited d o
  over-visited d (tree (infer of_lifetime i) c o) = over-visited d o
  over-visited d (tree (canonical of_type i) c o) = cons-same refl (over-visited d o)
  over-visited d (tree (canonical of_const i) c o) = over-visited d o
  over-visited d (tree (canonical of_lifetime i) c o) = over-visited d o
  over-visited d (tree (bound of_type k i) c o) = cons-same refl (over-visited d o)
  over-visited d (tree (bound of_const k i) c o) = over-visited d o
  over-visited d (tree (bound of_lifetime k i) c o) = over-visited d o
  over-visited d (tree (value n) c o) = over-visited d o
  over-visited d (tree static c o) = over-visited d o
  over-visited d (tree l c o) = cons-same refl (over-visited d o)

  item-same : (m : Met) → item_in U m ≡ item_in V m
  item-same (struct_leaf s) = struct-same (λ x. true) (λ x. refl) s
  item-same (entered s) = struct-same (λ x. true) (λ x. refl) s
  item-same (dyn_leaf t) = trait-same (λ x. true) (λ x. refl) t
  item-same m = refl

  all-same : (ms : List Met) → list_all (item_in U) ms ≡ list_all (item_in V) ms
  all-same [] = refl
  all-same (m ∷ ms) = and-same (item-same m) (all-same ms)

  pub known-same : (c : ℕ) (r : Reference) → is_known_in U c (Q r) ≡ is_known_in V c r
  known-same c r =
      and-same (trait-same (λ x. true) (λ x. refl) r.trait)
      (and-same (ap (λ ms. list_all (item_in U) (until_decisive ms)) (over-visited None r.args) ∙ all-same (open_walk V r))
      (or-same (trait-same (λ x. (x.home == c) || x.is_fundamental) (λ x. refl) r.trait) (ap (λ ms. ends_local (until_decisive ms)) (over-visited (Some c) r.args))))

  undeclared-same : (l : Label) → is_undeclared U l ≡ is_undeclared V l
  undeclared-same (adt s) = ap not (struct-same (λ x. true) (λ x. refl) s)
  undeclared-same (principal n t) = ap not (trait-same (λ x. true) (λ x. refl) t)
  undeclared-same (auto_trait t) = ap not (trait-same (λ x. true) (λ x. refl) t)
  undeclared-same (predicate (of_trait t)) = ap not (trait-same (λ x. true) (λ x. refl) t)
  undeclared-same l = refl

  some-one : (p q : Label → Bool) → ((l : Label) → p l ≡ q l) → (t : Trees) → some_node p t ≡ some_node q t
  some-one p q h none = refl
  some-one p q h (tree l c o) = three (h l) (some-one p q h c) (some-one p q h o)
    where
      three : {x x' y y' z z' : Bool} → x ≡ x' → y ≡ y' → z ≡ z' → x || y || z ≡ x' || y' || z'
      three e f g = cc

  written-in-same : (r : Reference) → written_in U (Q r) ≡ written_in V r
  written-in-same r = and-same (trait-same (λ x. true) (λ x. refl) r.trait) (ap not (some-same α (is_undeclared U) r.args ∙ some-one (is_undeclared U) (is_undeclared V) undeclared-same r.args))

  -- What a reference leads to
  pub children-there : (c : ℕ) (r s : Reference) → In s (children V c r) → In (Q s) (children U c (Q r))
  children-there c r s g = by (in-append s (flat_map (λ (u : Rule). u.premises) (rules V [] r)) (if is_known_in V c r then [] else strict_supertraits V r) g)
    where
      supers : (b b' : Bool) → b' ≡ b → In s (if b then [] else strict_supertraits V r) → In (Q s) (if b' then [] else strict_supertraits U (Q r))
      supers true b' e m = absurd (in-nothing s m)
      supers false true e m = cc
      supers false false e m = subst (In (Q s)) (over-supers α V w r) (in-map Q (strict_supertraits V r) s m)

      by : In s (flat_map (λ (u : Rule). u.premises) (rules V [] r)) ⊎ In s (if is_known_in V c r then [] else strict_supertraits V r) → In (Q s) (children U c (Q r))
      by (inl m) =
          let u = in-flat (λ (u : Rule). u.premises) (rules V [] r) s m in
          let v = rules-arranged α V w [] r u.0 u.1 in
          in-left (Q s) (flat_map (λ (u : Rule). u.premises) (rules U [] (Q r))) (if is_known_in U c (Q r) then [] else strict_supertraits U (Q r))
          (flat-in (λ (u : Rule). u.premises) (rules U [] (Q r)) v.0 (Q s) v.1 (v.2.same_premises.0 (Q s) (in-map Q u.0.premises s u.2)))
      by (inr m) =
          in-right (Q s) (flat_map (λ (u : Rule). u.premises) (rules U [] (Q r))) (if is_known_in U c (Q r) then [] else strict_supertraits U (Q r))
          (supers (is_known_in V c r) (is_known_in U c (Q r)) (known-same c r) m)

  pub possible-there : (n c : ℕ) (r : Reference) → is_possible n V c r ≡ true → is_possible n U c (Q r) ≡ true
  possible-there zero c r e = e
  possible-there (suc n) c r e =
      by (or-cases (list_any (λ u. list_all (λ p. is_possible n V c p) u.premises) (rules V [] r)) (not (is_known_in V c r) && list_all (λ p. is_possible n V c p) (strict_supertraits V r)) e)
      (λ q k. possible-there n c q k)
    where
      each : ((s : Reference) → is_possible n V c s ≡ true → is_possible n U c (Q s) ≡ true) → (xs : List Reference) → list_all (λ p. is_possible n V c p) xs ≡ true
          → (ys : List Reference) → ((y : Reference) → In y ys → In y (map Q xs)) → list_all (λ p. is_possible n U c p) ys ≡ true
      each f xs g ys k =
          each-member (λ p. is_possible n U c p) ys
          (λ y i. let m = map-in Q xs y (k y i) in
          subst (λ z. is_possible n U c z ≡ true) m.2 (f m.0 (member-each (λ p. is_possible n V c p) xs m.0 g m.1)))

      by : (list_any (λ (u : Rule). list_all (λ p. is_possible n V c p) u.premises) (rules V [] r) ≡ true) ⊎ (not (is_known_in V c r) && list_all (λ p. is_possible n V c p) (strict_supertraits V r) ≡ true)
          → ((s : Reference) → is_possible n V c s ≡ true → is_possible n U c (Q s) ≡ true) → is_possible (suc n) U c (Q r) ≡ true
      by (inl g) f =
          let u = some-member (λ (u : Rule). list_all (λ p. is_possible n V c p) u.premises) (rules V [] r) g in
          let v = rules-arranged α V w [] r u.0 u.1 in
          or-left _ _
          (member-some (λ (u : Rule). list_all (λ p. is_possible n U c p) u.premises) (rules U [] (Q r)) v.0 v.1 (each f u.0.premises u.2 v.0.premises v.2.same_premises.1))
      by (inr g) f =
          or-right _ _
          (both (not (is_known_in U c (Q r))) _ (ap not (known-same c r) ∙ left (not (is_known_in V c r)) _ g)
          (each f (strict_supertraits V r) (right (not (is_known_in V c r)) _ g) (strict_supertraits U (Q r)) (λ y i. subst (In y) (sym (over-supers α V w r)) i)))

module _ (α : Arrangement) (V : World) (h : all_written dyns_of_bounds V ≡ true) where
  abbrev Y : World
  Y = arranged_world α V

  there-bound : BoundWorld Y
  there-bound = bound-world Y (written-stays α V ∙ h)

  children-back : (c : ℕ) (r s : Reference) → In s (children Y c (arranged_reference α r)) → In (arranged_reference (turned_back α) s) (children V c r)
  children-back c r s g =
      subst (λ (W : World). In (arranged_reference (turned_back α) s) (children W c r)) (world-back α V)
      (subst (λ q. In (arranged_reference (turned_back α) s) (children (arranged_world (turned_back α) Y) c q)) (reference-back α r)
      (children-there (turned_back α) Y there-bound c (arranged_reference α r) s g))

  short-there : (n c : ℕ) (r : Reference) → short_chains n V c r ≡ true → short_chains n Y c (arranged_reference α r) ≡ true
  short-there zero c r e = e
  short-there (suc n) c r e = each-member (λ s. short_chains n Y c s) (children Y c (arranged_reference α r)) (λ s g. at s (children-back c r s g) (λ q k. short-there n c q k))
    where
      at : (s : Reference) → In (arranged_reference (turned_back α) s) (children V c r)
          → ((q : Reference) → short_chains n V c q ≡ true → short_chains n Y c (arranged_reference α q) ≡ true) → short_chains n Y c s ≡ true
      at s m f =
          subst (λ q. short_chains n Y c q ≡ true) (reference-back (turned_back α) s)
          (f (arranged_reference (turned_back α) s) (member-each (λ q. short_chains n V c q) (children V c r) (arranged_reference (turned_back α) s) e m))

  pub bounded-there : (n c : ℕ) (r : Reference) → is_bounded n V c r ≡ true → is_bounded n Y c (arranged_reference α r) ≡ true
  bounded-there n c r e =
      both (is_closed (arranged α r.args)) _ (over-closed α r.args ∙ left (is_closed r.args) _ e)
      (both (written_in Y (arranged_reference α r)) _ (written-in-same α V (bound-world V h) r ∙ left (written_in V r) _ (right (is_closed r.args) _ e))
      (short-there n c r (right (written_in V r) _ (right (is_closed r.args) _ e))))

module _ (α : Arrangement) (V : World) (h : all_written dyns_of_bounds V ≡ true) where
  pub bounded-same : (n c : ℕ) (r : Reference) → is_bounded n (arranged_world α V) c (arranged_reference α r) ≡ is_bounded n V c r
  bounded-same n c r =
      bool-same (is_bounded n (arranged_world α V) c (arranged_reference α r)) (is_bounded n V c r)
      (λ e. subst (λ (W : World). is_bounded n W c r ≡ true) (world-back α V)
      (subst (λ q. is_bounded n (arranged_world (turned_back α) (arranged_world α V)) c q ≡ true) (reference-back α r)
      (bounded-there (turned_back α) (arranged_world α V) (written-stays α V ∙ h) n c (arranged_reference α r) e)))
      (bounded-there α V h n c r)

  pub possible-same : (n c : ℕ) (r : Reference) → is_possible n (arranged_world α V) c (arranged_reference α r) ≡ is_possible n V c r
  possible-same n c r =
      bool-same (is_possible n (arranged_world α V) c (arranged_reference α r)) (is_possible n V c r)
      (λ e. subst (λ (W : World). is_possible n W c r ≡ true) (world-back α V)
      (subst (λ q. is_possible n (arranged_world (turned_back α) (arranged_world α V)) c q ≡ true) (reference-back α r)
      (possible-there (turned_back α) (arranged_world α V) (bound-world (arranged_world α V) (written-stays α V ∙ h)) n c (arranged_reference α r) e)))
      (possible-there α V (bound-world V h) n c r)

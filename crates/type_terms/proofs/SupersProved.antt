-- In a linked set, every closed trait reference with a proof has proofs of its supertraits. For impls this is a
-- condition of the set. For built-in rules it holds because those of `Clone` and `Copy`, and those of the traits of
-- calls, occur together.
use Rattle.std.proofs.Common.{◌≡◌, ℕ, zero, true, false, List, [], ◌∷◌, ◌++◌, refl, ap, sym, ◌∙◌, ◌||◌, ◌==◌, if◌then◌else◌, subst, ◌⊎◌, inl, inr, length, map}
use Rattle.std.specs.List.{flat_map, list_any, list_all}
use Rattle.type_terms.specs.Promised.Label.{of_type, param, fn_ptr, tuple, dynamic}
use Rattle.type_terms.specs.Promised.Trees.{Trees, none, tree, ◌+++◌, instantiate, some_node}
use Rattle.type_terms.specs.Trees.{arguments}
use Rattle.type_terms.specs.Promised.Worlds.{World, Reference, TraitDecl, ImplDecl, core, traits_named, view_of}
use Rattle.type_terms.specs.Promised.Rules.{BuiltIn, sized_leaf, sized_tuple, copy_fn_ptr, copy_tuple, built_in, Rule, rules, impl_rules, built_in_rules, plain_rules, sized_rules, copy_rules, tuple_rules, fn_ptr_rules, call_rules, auto_rules, unsize_rules, object_rules, principal_with, autos_with, is_auto, is_declared, is_coinductive, is_fn_trait, sized, clone, copy, tuple_trait, fn_ptr_trait, fn_once, fn_mut, fn_shared, unsize, row, asked, last_asked, each_asked, strict_supertraits}
use Rattle.type_terms.specs.Promised.Proofs.{ProofEntry, In, Every, Stands, Follows, HasProof}
use Rattle.type_terms.specs.Promised.Answers.{is_closed, is_open}
use Rattle.type_terms.specs.Promised.Core.{core_world, type_param}
use Rattle.type_terms.specs.Promised.Renumbering.{View}
use Rattle.type_terms.specs.Promised.LinkedSet.{JoinedSet, LinkedSet}
use Rattle.type_terms.specs.Promised.Versions.{sees_trait}
use Rattle.type_terms.proofs.Members.{here, there, in-cases, in-nothing, in-filter, in-append, in-left, in-right, in-flat, some-member, same-number}
use Rattle.type_terms.proofs.Walking.{left, right, or-cases}
use Rattle.type_terms.proofs.TreeLaws.{shift-zero}
use Rattle.type_terms.proofs.Fitting.{impl-rule, closed-arguments, not-true, or-no, child-shut}
use Rattle.type_terms.proofs.ProofEntries.{entry-proved}
use Rattle.type_terms.proofs.Supertraits.{same-named, same-supers}
use Rattle.type_terms.proofs.OtherImpls.{supers-same}
use Rattle.type_terms.proofs.CoreThere.{core-seen}
use Rattle.type_terms.proofs.OpenWorld.{Bare, bare-within, was-true, object-premises}
use Rattle.type_terms.proofs.NoHolds.{every-member, each-closed}
use Rattle.type_terms.proofs.ProofLists.{by-rule, stands-split}

-- the strict supertraits of r have proofs
abbrev pub Supers : World → Reference → Type 0
Supers W r = Every (HasProof W []) (strict_supertraits W r)

-- two arguments, as the traits of calls have them
abbrev pub pair : Trees
pair = tree (param of_type 0) none (type_param 1)

pub self-of : (l : _) (c o : Trees) → instantiate zero (tree l c o) (type_param 0) ≡ tree l c none
self-of l c o = ap (λ z. z +++ none) (shift-zero zero (tree l c none))

pair-of : (l : _) (c : Trees) (m : _) (d o : Trees) → instantiate zero (tree l c (tree m d o)) pair ≡ tree l c (tree m d none)
pair-of l c m d o =
    ap (λ z. z +++ instantiate zero (tree l c (tree m d o)) (type_param 1)) (shift-zero zero (tree l c none))
    ∙ ap (λ z. tree l c none +++ (z +++ none)) (shift-zero zero (tree m d none))

-- what core's traits have as supertraits, and which of its traits are not auto
pub record CoreLike (W : World) : Type 0 where
  pub of_sized : (a : Trees) → strict_supertraits W (record { trait = sized; args = a }) ≡ []
  pub of_unsize : (a : Trees) → strict_supertraits W (record { trait = unsize; args = a }) ≡ []
  pub of_tuple : (a : Trees) → strict_supertraits W (record { trait = tuple_trait; args = a }) ≡ []
  pub of_fn_ptr : (a : Trees) → strict_supertraits W (record { trait = fn_ptr_trait; args = a }) ≡ []
  pub of_fn_once : (a : Trees) → strict_supertraits W (record { trait = fn_once; args = a }) ≡ []
  pub of_fn_mut : (a : Trees) → strict_supertraits W (record { trait = fn_mut; args = a }) ≡ record { trait = fn_once; args = instantiate zero a pair } ∷ []
  pub of_fn : (a : Trees) → strict_supertraits W (record { trait = fn_shared; args = a })
      ≡ record { trait = fn_mut; args = instantiate zero a pair } ∷ record { trait = fn_once; args = instantiate zero (instantiate zero a pair) pair } ∷ []
  pub of_clone : (a : Trees) → strict_supertraits W (asked clone a) ≡ asked sized (instantiate zero a (type_param 0)) ∷ []
  pub of_copy : (a : Trees) → strict_supertraits W (asked copy a)
      ≡ asked clone (instantiate zero a (type_param 0)) ∷ asked sized (instantiate zero (instantiate zero a (type_param 0)) (type_param 0)) ∷ []
  pub clone_not_auto : is_auto W clone ≡ false
  pub copy_not_auto : is_auto W copy ≡ false
  pub autos_bare : (t : ℕ) (a : Trees) → is_auto W t ≡ true → strict_supertraits W (record { trait = t; args = a }) ≡ []

-- Rules of a row are rules
in-plain : (W : World) (r : Reference) (u : Rule) → In u (plain_rules r) → In u (rules W [] r)
in-plain W r u h = in-right u (flat_map (impl_rules r) W.impls) (built_in_rules W r ++ []) (in-left u (built_in_rules W r) [] (in-left u (plain_rules r) _ h))

pub in-sized : (W : World) (a : Trees) (u : Rule) → In u (sized_rules W a) → In u (rules W [] (asked sized a))
in-sized W a u h =
    in-right u (flat_map (impl_rules (asked sized a)) W.impls) (built_in_rules W (asked sized a) ++ [])
    (in-left u (built_in_rules W (asked sized a)) []
    (in-right u (plain_rules (asked sized a)) _ (in-left u (sized_rules W a) _ h)))

only : (n : BuiltIn) (ps : List Reference) (u : Rule) → In u (row n ps) → record { way = built_in n; premises = ps } ≡ u
only n ps u h = by (in-cases u (record { way = built_in n; premises = ps }) [] h)
  where
    by : (record { way = built_in n; premises = ps } ≡ u) ⊎ In u [] → record { way = built_in n; premises = ps } ≡ u
    by (inl e) = e
    by (inr e) = absurd (in-nothing u e)

-- what holds of each item asked for one trait gives what is to hold of each, or of the last, asked for another
each-item : (P Q : Reference → Type 0) (t v : ℕ) → ((l : _) (c : Trees) → P (asked t (tree l c none)) → Q (asked v (tree l c none))) → (xs : Trees)
    → Every P (each_asked t xs) → Every Q (each_asked v xs)
each-item P Q t v f none h = tt
each-item P Q t v f (tree l c o) h = (f l c h.0, each-item P Q t v f o h.1)

last-item : (P Q : Reference → Type 0) (t v : ℕ) → ((l : _) (c : Trees) → P (asked t (tree l c none)) → Q (asked v (tree l c none))) → (xs : Trees)
    → Every P (each_asked t xs) → Every Q (last_asked v xs)
last-item P Q t v f none h = tt
last-item P Q t v f (tree l c none) h = (f l c h.0, tt)
last-item P Q t v f (tree l c (tree m d o)) h = last-item P Q t v f (tree m d o) h.1

module _ (W : World) (k : CoreLike W) where
  pub clone-supers : (l : _) (c o : Trees) → strict_supertraits W (asked clone (tree l c o)) ≡ asked sized (tree l c none) ∷ []
  clone-supers l c o = k.of_clone (tree l c o) ∙ ap (λ z. asked sized z ∷ []) (self-of l c o)

  pub copy-supers : (l : _) (c o : Trees) → strict_supertraits W (asked copy (tree l c o)) ≡ asked clone (tree l c none) ∷ asked sized (tree l c none) ∷ []
  copy-supers l c o =
      k.of_copy (tree l c o)
      ∙ ap (λ z. asked clone z ∷ asked sized (instantiate zero z (type_param 0)) ∷ []) (self-of l c o)
      ∙ ap (λ z. asked clone (tree l c none) ∷ asked sized z ∷ []) (self-of l c none)

  pub clone-has-sized : (l : _) (c o : Trees) → Supers W (asked clone (tree l c o)) → HasProof W [] (asked sized (tree l c none))
  clone-has-sized l c o s = let z = subst (Every (HasProof W [])) (clone-supers l c o) s in z.0

  pub copy-has : (l : _) (c o : Trees) → Supers W (asked copy (tree l c o)) → HasProof W [] (asked clone (tree l c none)) × HasProof W [] (asked sized (tree l c none))
  copy-has l c o s = let z = subst (Every (HasProof W [])) (copy-supers l c o) s in (z.0, z.1.0)

  sized-fn-ptr : (n : ℕ) (c : Trees) → HasProof W [] (asked sized (tree (fn_ptr n) c none))
  sized-fn-ptr n c = by-rule W [] (asked sized (tree (fn_ptr n) c none)) (record { way = built_in sized_leaf; premises = [] }) (in-sized W (tree (fn_ptr n) c none) _ (here _ [])) tt

  sized-tuple : (items : Trees) → Every (HasProof W []) (last_asked sized items) → HasProof W [] (asked sized (tree tuple items none))
  sized-tuple items h =
      by-rule W [] (asked sized (tree tuple items none)) (record { way = built_in sized_tuple; premises = last_asked sized items }) (in-sized W (tree tuple items none) _ (here _ [])) h

  clone-fn-ptr : (n : ℕ) (c : Trees) → HasProof W [] (asked clone (tree (fn_ptr n) c none))
  clone-fn-ptr n c =
      by-rule W [] (asked clone (tree (fn_ptr n) c none)) (record { way = built_in copy_fn_ptr; premises = [] }) (in-plain W (asked clone (tree (fn_ptr n) c none)) _ (here _ [])) tt

  clone-tuple : (items : Trees) → Every (HasProof W []) (each_asked clone items) → HasProof W [] (asked clone (tree tuple items none))
  clone-tuple items h =
      by-rule W [] (asked clone (tree tuple items none)) (record { way = built_in copy_tuple; premises = each_asked clone items })
      (in-plain W (asked clone (tree tuple items none)) _ (here _ [])) h

  -- the rows of Clone and of Copy
  clone-row : (a : Trees) (u : Rule) → In u (copy_rules clone a) → Every (Supers W) u.premises → Supers W (asked clone a)
  clone-row none u h s = absurd (in-nothing u h)
  clone-row (tree (fn_ptr n) c o) u h s = subst (Every (HasProof W [])) (sym (clone-supers (fn_ptr n) c o)) (sized-fn-ptr n c, tt)
  clone-row (tree tuple c o) u h s =
      let e : record { way = built_in copy_tuple; premises = each_asked clone c } ≡ u = only copy_tuple (each_asked clone c) u h in
      let each : Every (Supers W) (each_asked clone c) = subst (λ (v : Rule). Every (Supers W) v.premises) (sym e) s in
      subst (Every (HasProof W [])) (sym (clone-supers tuple c o))
      (sized-tuple c (last-item (Supers W) (HasProof W []) clone sized (λ l d z. clone-has-sized l d none z) c each), tt)
  clone-row (tree l c o) u h s = absurd (in-nothing u h)

  copy-row : (a : Trees) (u : Rule) → In u (copy_rules copy a) → Every (Supers W) u.premises → Supers W (asked copy a)
  copy-row none u h s = absurd (in-nothing u h)
  copy-row (tree (fn_ptr n) c o) u h s = subst (Every (HasProof W [])) (sym (copy-supers (fn_ptr n) c o)) (clone-fn-ptr n c, (sized-fn-ptr n c, tt))
  copy-row (tree tuple c o) u h s =
      let e : record { way = built_in copy_tuple; premises = each_asked copy c } ≡ u = only copy_tuple (each_asked copy c) u h in
      let each : Every (Supers W) (each_asked copy c) = subst (λ (v : Rule). Every (Supers W) v.premises) (sym e) s in
      subst (Every (HasProof W [])) (sym (copy-supers tuple c o)) (
        clone-tuple c (each-item (Supers W) (HasProof W []) copy clone (λ l d z. (copy-has l d none z).0) c each),
        (sized-tuple c (last-item (Supers W) (HasProof W []) copy sized (λ l d z. (copy-has l d none z).1) c each), tt),
      )
  copy-row (tree l c o) u h s = absurd (in-nothing u h)

  -- the row of calls: the same premises for each of the three traits
  call-row : (t : ℕ) (a : Trees) (u : Rule) → is_fn_trait t ≡ true → In u (call_rules a) → Every (HasProof W []) u.premises → Supers W (record { trait = t; args = a })
  call-row t (tree (fn_ptr n) types (tree tuple inputs o)) u e h s = by (or-cases (t == fn_once) _ e)
    where
      x : Trees
      x = tree (fn_ptr n) types (tree tuple inputs none)

      once : HasProof W [] (record { trait = fn_once; args = x })
      once = by-rule W [] (record { trait = fn_once; args = x }) u (in-plain W (record { trait = fn_once; args = x }) u h) s

      mut-too : HasProof W [] (record { trait = fn_mut; args = x })
      mut-too = by-rule W [] (record { trait = fn_mut; args = x }) u (in-plain W (record { trait = fn_mut; args = x }) u h) s

      a : Trees
      a = tree (fn_ptr n) types (tree tuple inputs o)

      of-once : strict_supertraits W (record { trait = fn_once; args = a }) ≡ []
      of-once = k.of_fn_once a

      of-mut : strict_supertraits W (record { trait = fn_mut; args = a }) ≡ record { trait = fn_once; args = x } ∷ []
      of-mut = k.of_fn_mut a ∙ ap (λ z. (let y : Reference = record { trait = fn_once; args = z } in y) ∷ []) (pair-of (fn_ptr n) types tuple inputs o)

      two : Trees → List Reference
      two z = record { trait = fn_mut; args = z } ∷ record { trait = fn_once; args = instantiate zero z pair } ∷ []

      last : Trees → List Reference
      last z = record { trait = fn_mut; args = x } ∷ record { trait = fn_once; args = z } ∷ []

      of-shared : strict_supertraits W (record { trait = fn_shared; args = a }) ≡ record { trait = fn_mut; args = x } ∷ record { trait = fn_once; args = x } ∷ []
      of-shared = k.of_fn a ∙ ap two (pair-of (fn_ptr n) types tuple inputs o) ∙ ap last (pair-of (fn_ptr n) types tuple inputs none)

      at : (v : ℕ) → t ≡ v → Supers W (record { trait = v; args = a }) → Supers W (record { trait = t; args = a })
      at v q z = subst (λ w. Supers W (record { trait = w; args = a })) (sym q) z

      rest : ((t == fn_mut) ≡ true) ⊎ ((t == fn_shared) ≡ true) → Supers W (record { trait = t; args = a })
      rest (inl q) = at fn_mut (same-number t fn_mut q) (subst (Every (HasProof W [])) (sym of-mut) (once, tt))
      rest (inr q) = at fn_shared (same-number t fn_shared q) (subst (Every (HasProof W [])) (sym of-shared) (mut-too, (once, tt)))

      by : ((t == fn_once) ≡ true) ⊎ ((t == fn_mut) || (t == fn_shared) ≡ true) → Supers W (record { trait = t; args = a })
      by (inl q) = at fn_once (same-number t fn_once q) (subst (Every (HasProof W [])) (sym of-once) tt)
      by (inr q) = rest (or-cases (t == fn_mut) (t == fn_shared) q)
  call-row t a u e h s = absurd (in-nothing u h)

  bare : (t v : ℕ) (a : Trees) → (t == v) ≡ true → strict_supertraits W (record { trait = v; args = a }) ≡ [] → Supers W (record { trait = t; args = a })
  bare t v a e z = subst (λ w. Supers W (record { trait = w; args = a })) (sym (same-number t v e)) (subst (Every (HasProof W [])) (sym z) tt)

  clone-inductive : is_coinductive W clone ≡ false
  clone-inductive = or-no (is_auto W clone) (clone == sized) k.clone_not_auto refl

  pub copy-inductive : is_coinductive W copy ≡ false
  copy-inductive = or-no (is_auto W copy) (copy == sized) k.copy_not_auto refl

  plain-supers : (t : ℕ) (a : Trees) (u : Rule) → In u (plain_rules (record { trait = t; args = a })) → Every (HasProof W []) u.premises
      → (is_coinductive W t ≡ false → (t ≡ clone) ⊎ (t ≡ copy) → In u (plain_rules (record { trait = t; args = a })) → Every (Supers W) u.premises) → Supers W (record { trait = t; args = a })
  plain-supers t a u h g s = by (in-append u p1 (p2 ++ (p3 ++ p4)) h)
    where
      p1 : List Rule
      p1 = if (t == copy) || (t == clone) then copy_rules t a else []

      p2 : List Rule
      p2 = if t == tuple_trait then tuple_rules a else []

      p3 : List Rule
      p3 = if t == fn_ptr_trait then fn_ptr_rules a else []

      p4 : List Rule
      p4 = if is_fn_trait t then call_rules a else []

      copies : ((t == copy) ≡ true) ⊎ ((t == clone) ≡ true) → In u (copy_rules t a) → Supers W (record { trait = t; args = a })
      copies (inl e) i =
          let q = same-number t copy e in
          subst (λ w. Supers W (record { trait = w; args = a })) (sym q)
          (copy-row a u (subst (λ w. In u (copy_rules w a)) q i) (s (subst (λ w. is_coinductive W w ≡ false) (sym q) copy-inductive) (inr q) h))
      copies (inr e) i =
          let q = same-number t clone e in
          subst (λ w. Supers W (record { trait = w; args = a })) (sym q)
          (clone-row a u (subst (λ w. In u (copy_rules w a)) q i) (s (subst (λ w. is_coinductive W w ≡ false) (sym q) clone-inductive) (inl q) h))

      last : In u p3 ⊎ In u p4 → Supers W (record { trait = t; args = a })
      last (inl i) = bare t fn_ptr_trait a (was-true (t == fn_ptr_trait) (fn_ptr_rules a) u i).0 (k.of_fn_ptr a)
      last (inr i) = let m = was-true (is_fn_trait t) (call_rules a) u i in call-row t a u m.0 m.1 g

      rest : In u p2 ⊎ In u (p3 ++ p4) → Supers W (record { trait = t; args = a })
      rest (inl i) = bare t tuple_trait a (was-true (t == tuple_trait) (tuple_rules a) u i).0 (k.of_tuple a)
      rest (inr i) = last (in-append u p3 p4 i)

      by : In u p1 ⊎ In u (p2 ++ (p3 ++ p4)) → Supers W (record { trait = t; args = a })
      by (inl i) = let m = was-true ((t == copy) || (t == clone)) (copy_rules t a) u i in copies (or-cases (t == copy) (t == clone) m.0) m.1
      by (inr i) = rest (in-append u p2 (p3 ++ p4) i)

  object-supers : (r : Reference) (a : Trees) (u : Rule) → In u (object_rules W r a) → Every (HasProof W []) u.premises → Supers W r
  object-supers r none u h g = absurd (in-nothing u h)
  object-supers r (tree dynamic b o) u h g =
      subst (Every (HasProof W [])) (object-premises W r (principal_with (tree dynamic b none) b) (autos_with (tree dynamic b none) b) u h) g
  object-supers r (tree l c o) u h g = absurd (in-nothing u h)

  built-in-supers : (t : ℕ) (a : Trees) (u : Rule) → In u (built_in_rules W (record { trait = t; args = a })) → Every (HasProof W []) u.premises
      → (is_coinductive W t ≡ false → (t ≡ clone) ⊎ (t ≡ copy) → In u (plain_rules (record { trait = t; args = a })) → Every (Supers W) u.premises) → Supers W (record { trait = t; args = a })
  built-in-supers t a u h g s = by (in-append u (plain_rules r) (p1 ++ (p2 ++ (p3 ++ object_rules W r a))) h)
    where
      r : Reference
      r = record { trait = t; args = a }

      p1 : List Rule
      p1 = if t == sized then sized_rules W a else []

      p2 : List Rule
      p2 = if is_auto W t then auto_rules W t a else []

      p3 : List Rule
      p3 = if t == unsize then unsize_rules W a else []

      last : In u p3 ⊎ In u (object_rules W r a) → Supers W r
      last (inl i) = bare t unsize a (was-true (t == unsize) (unsize_rules W a) u i).0 (k.of_unsize a)
      last (inr i) = object-supers r a u i g

      more : In u p2 ⊎ In u (p3 ++ object_rules W r a) → Supers W r
      more (inl i) = subst (Every (HasProof W [])) (sym (k.autos_bare t a (was-true (is_auto W t) (auto_rules W t a) u i).0)) tt
      more (inr i) = last (in-append u p3 (object_rules W r a) i)

      rest : In u p1 ⊎ In u (p2 ++ (p3 ++ object_rules W r a)) → Supers W r
      rest (inl i) = bare t sized a (was-true (t == sized) (sized_rules W a) u i).0 (k.of_sized a)
      rest (inr i) = more (in-append u p2 (p3 ++ object_rules W r a) i)

      by : In u (plain_rules r) ⊎ In u (p1 ++ (p2 ++ (p3 ++ object_rules W r a))) → Supers W r
      by (inl i) = plain-supers t a u i g s
      by (inr i) = rest (in-append u p1 (p2 ++ (p3 ++ object_rules W r a)) i)

-- All proofs, where the impls' rules are taken care of. C is what is asked of a reference: that it is closed, or nothing
module _ (W : World) (k : CoreLike W) (C : Reference → Type 0) (items : (t : ℕ) (c o : Trees) → C (asked t (tree tuple c o)) → Every C (each_asked t c))
    (impls : (r : Reference) (i : ImplDecl) (u : Rule) → In i W.impls → In u (impl_rules r i) → C r → Every (HasProof W []) u.premises
    → (is_coinductive W r.trait ≡ false → (p : Reference) → In p u.premises → C p → Supers W p) → Supers W r) where
  each-of : (ps : List Reference) → Every C ps → ((p : Reference) → In p ps → C p → Supers W p) → Every (Supers W) ps
  each-of [] c f = tt
  each-of (p ∷ ps) c f = (f p (here p ps) c.0, each-of ps c.1 (λ q h. f q (there q p ps h)))

  -- the premises of the rows of Clone and Copy
  asked-items : (t : ℕ) (a : Trees) (u : Rule) → (t ≡ clone) ⊎ (t ≡ copy) → In u (plain_rules (record { trait = t; args = a })) → C (record { trait = t; args = a }) → Every C u.premises
  asked-items t a u (inl e) h c = at a (subst (λ v. In u (plain_rules (record { trait = v; args = a }))) e h) (subst (λ v. C (record { trait = v; args = a })) e c)
    where
      at : (b : Trees) → In u (plain_rules (asked clone b)) → C (asked clone b) → Every C u.premises
      at none i z = absurd (in-nothing u i)
      at (tree (fn_ptr n) x o) i z = subst (λ (v : Rule). Every C v.premises) (only copy_fn_ptr [] u i) tt
      at (tree tuple x o) i z = subst (λ (v : Rule). Every C v.premises) (only copy_tuple (each_asked clone x) u i) (items clone x o z)
      at (tree l x o) i z = absurd (in-nothing u i)
  asked-items t a u (inr e) h c = at a (subst (λ v. In u (plain_rules (record { trait = v; args = a }))) e h) (subst (λ v. C (record { trait = v; args = a })) e c)
    where
      at : (b : Trees) → In u (plain_rules (asked copy b)) → C (asked copy b) → Every C u.premises
      at none i z = absurd (in-nothing u i)
      at (tree (fn_ptr n) x o) i z = subst (λ (v : Rule). Every C v.premises) (only copy_fn_ptr [] u i) tt
      at (tree tuple x o) i z = subst (λ (v : Rule). Every C v.premises) (only copy_tuple (each_asked copy x) u i) (items copy x o z)
      at (tree l x o) i z = absurd (in-nothing u i)

  entry-supers : (t : ℕ) (a : Trees) (u : Rule) → C (record { trait = t; args = a }) → In u (rules W [] (record { trait = t; args = a })) → Every (HasProof W []) u.premises
      → (is_coinductive W t ≡ false → (p : Reference) → In p u.premises → C p → Supers W p) → Supers W (record { trait = t; args = a })
  entry-supers t a u c h g before = by (in-append u (flat_map (impl_rules r) W.impls) (built_in_rules W r ++ []) h)
    where
      r : Reference
      r = record { trait = t; args = a }

      rest : In u (built_in_rules W r) ⊎ In u [] → Supers W r
      rest (inl i) = built-in-supers W k t a u i g (λ e q m. each-of u.premises (asked-items t a u q m c) (before e))
      rest (inr i) = absurd (in-nothing u i)

      by : In u (flat_map (impl_rules r) W.impls) ⊎ In u (built_in_rules W r ++ []) → Supers W r
      by (inl i) = let m = in-flat (impl_rules r) W.impls u i in impls r m.0 u m.1 m.2 c g before
      by (inr i) = rest (in-append u (built_in_rules W r) [] i)

  -- each entry, where those before it have their supertraits proved
  supers-in : (all earlier left : List ProofEntry) → ((e : ProofEntry) → In e left → Every (HasProof W []) e.rule.premises) → Follows W [] all earlier left
      → ((p : Reference) → Stands p earlier → C p → Supers W p) → (p : Reference) → Stands p left → C p → Supers W p
  supers-in all earlier [] proved f before p s c = absurd (in-nothing p s)
  supers-in all earlier (e ∷ left) proved f before p s c =
      by (in-cases p e.of (map (λ (x : ProofEntry). x.of) left) s) (λ q. supers-in all (earlier ++ e ∷ []) left (λ x h. proved x (there x e left h)) f.2 more p q c)
    where
      here-too : C e.of → Supers W e.of
      here-too d =
          entry-supers e.of.trait e.of.args e.rule d f.0 (proved e (here e left))
          (λ q x h z. before x (every-member (λ y. Stands y earlier) e.rule.premises x (subst (λ b. Every (λ y. Stands y (if b then all else earlier)) e.rule.premises) q f.1) h) z)

      more : (x : Reference) → Stands x (earlier ++ e ∷ []) → C x → Supers W x
      more x h z = at (stands-split x earlier (e ∷ []) h)
        where
          at : Stands x earlier ⊎ Stands x (e ∷ []) → Supers W x
          at (inl g) = before x g z
          at (inr g) = last (in-cases x e.of [] g)
            where
              last : (e.of ≡ x) ⊎ In x [] → Supers W x
              last (inl q) = subst (Supers W) q (here-too (subst C (sym q) z))
              last (inr q) = absurd (in-nothing x q)

      by : (e.of ≡ p) ⊎ In p (map (λ (x : ProofEntry). x.of) left) → (In p (map (λ (x : ProofEntry). x.of) left) → Supers W p) → Supers W p
      by (inl q) again = subst (Supers W) q (here-too (subst C (sym q) c))
      by (inr q) again = again q

  pub supers-of-all : (r : Reference) → C r → HasProof W [] r → Supers W r
  supers-of-all r c p = supers-in p.0 [] p.0 (λ e h. (entry-proved W [] p.0 p.1 e h).1) p.1 (λ x s z. absurd (in-nothing x s)) r p.2 c

-- A linked set
module _ (W : World) (vs : List View) (rank : ℕ → ℕ) (l : JoinedSet W vs rank) where
  -- a trait of core is seen by core
  sees-core : (t : ℕ) → is_declared core_world t ≡ true → sees_trait W core t ≡ true
  sees-core t h =
      let x = some-member (λ (x : TraitDecl). true) (traits_named core_world t) h in
      let m = in-filter (λ (y : TraitDecl). y.name == t) core_world.traits x.0 x.1 in
      subst (λ v. sees_trait W core v ≡ true) (same-number x.0.name t m.1) (core-seen W vs rank l x.0 m.0)

  core-supers : (r : Reference) → is_declared core_world r.trait ≡ true → strict_supertraits W r ≡ strict_supertraits core_world r
  core-supers r h =
      sym (same-supers W vs rank l core r (sees-core r.trait h))
      ∙ sym (supers-same (view_of W core) (view_of W core).crates core_world.impls r)
      ∙ ap (λ (V : World). strict_supertraits V r) l.fits.core_there

  core-autos : (t : ℕ) → is_declared core_world t ≡ true → is_auto W t ≡ is_auto core_world t
  core-autos t h = ap (list_any (λ (x : TraitDecl). x.is_auto)) (sym (same-named W vs rank l core t (sees-core t h)) ∙ ap (λ (V : World). traits_named V t) l.fits.core_there)

  auto-bare : (t : ℕ) → is_auto W t ≡ true → Bare W t
  auto-bare t h y g n =
      let x = some-member (λ (x : TraitDecl). x.is_auto) (traits_named W t) h in
      let m = in-filter (λ (y : TraitDecl). y.name == t) W.traits x.0 x.1 in
      l.rules.autos_bare y g (ap (λ (z : TraitDecl). z.is_auto) (l.fits.one_trait y x.0 g m.0 (n ∙ sym (same-number x.0.name t m.1))) ∙ x.2)

  pub core-like : CoreLike W
  core-like = record {
    of_sized = λ a. core-supers (record { trait = sized; args = a }) refl;
    of_unsize = λ a. core-supers (record { trait = unsize; args = a }) refl;
    of_tuple = λ a. core-supers (record { trait = tuple_trait; args = a }) refl;
    of_fn_ptr = λ a. core-supers (record { trait = fn_ptr_trait; args = a }) refl;
    of_fn_once = λ a. core-supers (record { trait = fn_once; args = a }) refl;
    of_fn_mut = λ a. core-supers (record { trait = fn_mut; args = a }) refl;
    of_fn = λ a. core-supers (record { trait = fn_shared; args = a }) refl;
    of_clone = λ a. core-supers (asked clone a) refl;
    of_copy = λ a. core-supers (asked copy a) refl;
    clone_not_auto = core-autos clone refl;
    copy_not_auto = core-autos copy refl;
    autos_bare = λ t a h. bare-within (length W.traits) W t a (auto-bare t h);
  }

pub closed-items : (t : ℕ) (c o : Trees) → is_closed (tree tuple c o) ≡ true → Every (λ (r : Reference). is_closed r.args ≡ true) (each_asked t c)
closed-items t c o h = every-of (each_asked t c) (each-closed t c (child-shut is_open tuple c o (not-true (some_node is_open (tree tuple c o)) h)))
  where
    every-of : (ps : List Reference) → list_all (λ (p : Reference). is_closed p.args) ps ≡ true → Every (λ (r : Reference). is_closed r.args ≡ true) ps
    every-of [] g = tt
    every-of (p ∷ ps) g = (left (is_closed p.args) _ g, every-of ps (right (is_closed p.args) _ g))

module _ (W : World) (vs : List View) (rank : ℕ → ℕ) (l : LinkedSet W vs rank) where
  by-impl : (r : Reference) (i : ImplDecl) (u : Rule) → In i W.impls → In u (impl_rules r i) → is_closed r.args ≡ true → Every (HasProof W []) u.premises → Supers W r
  by-impl r i u h g c p =
      let b = impl-rule r i u g in
      subst (Supers W) b.is-instance
      (l.supers_proved i h (arguments i.params i.header.args r.args) (closed-arguments i.params i.header.args r.args c) b.fitting (subst (λ (v : Rule). Every (HasProof W []) v.premises) (sym b.is-rule) p))

  -- EVERY CLOSED REFERENCE WITH A PROOF HAS ITS SUPERTRAITS PROVED
  pub supers-proved-for-all : (r : Reference) → is_closed r.args ≡ true → HasProof W [] r → Supers W r
  supers-proved-for-all r c p =
      supers-of-all W (core-like W vs rank l.joined) (λ (q : Reference). is_closed q.args ≡ true) (λ t x o h. closed-items t x o h) (λ q i u h g z f before. by-impl q i u h g z f) r c p

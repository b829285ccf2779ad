-- The built-in rules of `dyn` and of unsizing, by a crate's view and by the set. They are equal if the crate sees the
-- principal.
use Rattle.std.proofs.Common.{◌≡◌, ℕ, Bool, true, false, not, List, [], ◌∷◌, ◌++◌, refl, ap, sym, ◌∙◌, ◌&&◌, ◌==◌, if◌then◌else◌, subst, ◌⊎◌, inl, inr, None}
use Rattle.std.specs.List.{list_all, list_any}
use Rattle.type_terms.specs.Promised.Label.{Label, of_type, of_const, of_lifetime, dynamic, static, adt, value, ref, principal, param, placeholder, infer, canonical, bound}
use Rattle.type_terms.specs.Promised.Trees.{Trees, none, tree, some_node}
use Rattle.type_terms.specs.Promised.Worlds.{World, Reference, view_of, traits_named, structs_named}
use Rattle.type_terms.specs.Promised.Walks.{Met, local, struct_leaf, dyn_leaf, entered, other_leaf, open_place, struct_is, trait_is, dyn_met, visited, until_decisive, open_walk, seen, is_known}
use Rattle.type_terms.specs.Promised.Rules.{Rule, row, sized, same_reference, strict_supertraits, is_declared, are_declared, elaborated, are_dyn_compatible, principal_with, autos_with, asked, is_dyn, object_auto, object_principal, equal_rows, unsize_to_dyn, unsize_dyn, unsize_upcast, object_bound_rules, unsize_to_dyn_rules, upcasts_principal, upcasts_autos, unsize_upcast_rules}
use Rattle.type_terms.specs.Promised.Proofs.{In}
use Rattle.type_terms.specs.Promised.Answers.{is_open}
use Rattle.type_terms.specs.Promised.Renumbering.{View}
use Rattle.type_terms.specs.Promised.LinkedSet.{JoinedSet}
use Rattle.type_terms.specs.Promised.Versions.{sees_trait}
use Rattle.type_terms.proofs.WalkLists.{clean}
use Rattle.type_terms.proofs.Members.{here, there, in-cases, in-nothing, in-right, not-both, so-false}
use Rattle.type_terms.proofs.Walking.{left, right, both, nobody, nobody-trait}
use Rattle.type_terms.proofs.Fitting.{child-shut, next-shut}
use Rattle.type_terms.proofs.ViewKnown.{clean-join}
use Rattle.type_terms.proofs.Supertraits.{same-named, same-supers, view-declares}

-- What c sees, its view has
module _ (W : World) (vs : List View) (rank : ℕ → ℕ) (l : JoinedSet W vs rank) (c : ℕ) where
  -- c sees each of the traits
  abbrev pub sees-all : List Reference → Bool
  sees-all ps = list_all (λ p. sees_trait W c p.trait) ps

  pub same-declared : (t : ℕ) → sees_trait W c t ≡ true → is_declared (view_of W c) t ≡ is_declared W t
  same-declared t h = ap (list_any (λ x. true)) (same-named W vs rank l c t h)

  same-are-declared : (ps : List Reference) → sees-all ps ≡ true → are_declared (view_of W c) ps ≡ are_declared W ps
  same-are-declared [] h = refl
  same-are-declared (p ∷ ps) h =
      join _ _ _ _ (same-declared p.trait (left (sees_trait W c p.trait) _ h)) (same-are-declared ps (right (sees_trait W c p.trait) _ h))
    where
      join : (a b d e : Bool) → a ≡ b → d ≡ e → a && d ≡ b && e
      join a b d e p q = cc

  same-elaborated : (ps : List Reference) → sees-all ps ≡ true → elaborated (view_of W c) ps ≡ elaborated W ps
  same-elaborated [] h = refl
  same-elaborated (p ∷ ps) h =
      join _ _ _ _ (ap (λ z. p ∷ z) (same-supers W vs rank l c p (left (sees_trait W c p.trait) _ h))) (same-elaborated ps (right (sees_trait W c p.trait) _ h))
    where
      join : (a b d e : List Reference) → a ≡ b → d ≡ e → a ++ d ≡ b ++ e
      join a b d e p q = cc

  same-compatible : (ps : List Reference) → sees-all ps ≡ true → are_dyn_compatible (view_of W c) ps ≡ are_dyn_compatible W ps
  same-compatible ps h =
      ap (λ b. b && not (list_any (λ (s : Reference). s.trait == sized) (elaborated (view_of W c) ps))) (same-are-declared ps h)
      ∙ ap (λ z. are_declared W ps && not (list_any (λ (s : Reference). s.trait == sized) z)) (same-elaborated ps h)

  -- the object bounds, by what they read
  abbrev shape : Reference → List Reference → Bool → Bool → List Reference → List Reference → List Rule
  shape r qs d k e s =
      if d && k
      then (if not (r.trait == sized) && list_any (same_reference r) qs then row object_auto s else [])
      ++ (if not (r.trait == sized) then equal_rows object_principal s r 0 e else [])
      else []

  pub same-object-bounds : (r : Reference) (ps qs : List Reference) → sees_trait W c r.trait ≡ true → sees-all ps ≡ true
      → object_bound_rules (view_of W c) r ps qs ≡ object_bound_rules W r ps qs
  same-object-bounds r ps qs h g =
      ap (λ d. shape r qs d (are_dyn_compatible (view_of W c) ps) (elaborated (view_of W c) ps) (strict_supertraits (view_of W c) r)) (same-declared r.trait h)
      ∙ ap (λ k. shape r qs (is_declared W r.trait) k (elaborated (view_of W c) ps) (strict_supertraits (view_of W c) r)) (same-compatible ps g)
      ∙ ap (λ e. shape r qs (is_declared W r.trait) (are_dyn_compatible W ps) e (strict_supertraits (view_of W c) r)) (same-elaborated ps g)
      ∙ ap (λ s. shape r qs (is_declared W r.trait) (are_dyn_compatible W ps) (elaborated W ps) s) (same-supers W vs rank l c r h)

  pub same-to-dyn : (m : Label) (k b o : Trees) → sees-all (principal_with (tree m k none) b) ≡ true
      → unsize_to_dyn_rules (view_of W c) (tree m k (tree dynamic b o)) ≡ unsize_to_dyn_rules W (tree m k (tree dynamic b o))
  same-to-dyn m k b o h =
      let self = tree m k none in
      ap (λ z. if not (is_dyn m) && z then row unsize_to_dyn (principal_with self b ++ (autos_with self b ++ asked sized self ∷ [])) else [])
      (same-compatible (principal_with self b) h)

  same-upcasts-principal : (ps qs : List Reference) → sees-all ps ≡ true → upcasts_principal (view_of W c) ps qs ≡ upcasts_principal W ps qs
  same-upcasts-principal ps [] h = refl
  same-upcasts-principal [] (q ∷ qs) h = refl
  same-upcasts-principal (p ∷ ps) (q ∷ qs) h =
      ap (λ z. if p.trait == q.trait then (if same_reference p q then row unsize_dyn [] else []) else equal_rows unsize_upcast [] q 1 z)
      (same-supers W vs rank l c p (left (sees_trait W c p.trait) _ h))

  same-upcasts-autos : (ps qs bs : List Reference) → sees-all ps ≡ true → upcasts_autos (view_of W c) ps qs bs ≡ upcasts_autos W ps qs bs
  same-upcasts-autos ps qs bs h = ap (λ z. list_all (λ (b : Reference). list_any (λ (q : Reference). q.trait == b.trait) (qs ++ z)) bs) (same-elaborated ps h)

  pub same-upcast : (a b o : Trees) → sees-all (principal_with (tree dynamic a none) a) ≡ true
      → unsize_upcast_rules (view_of W c) (tree dynamic a (tree dynamic b o)) ≡ unsize_upcast_rules W (tree dynamic a (tree dynamic b o))
  same-upcast a b o h =
      let self = tree dynamic a none in
      let p = principal_with self a in
      join _ _ _ _ _ _ (same-are-declared p h) (same-upcasts-autos p (autos_with self a) (autos_with self b) h) (same-upcasts-principal p (principal_with self b) h)
    where
      join : (d d' e e' : Bool) (us us' : List Rule) → d ≡ d' → e ≡ e' → us ≡ us' → (if d && e then us else []) ≡ (if d' && e' then us' else [])
      join d d' e e' us us' p q r = cc

  -- what the view declares, c sees
  pub declared-seen : (t : ℕ) → is_declared (view_of W c) t ≡ true → sees_trait W c t ≡ true
  declared-seen t h = view-declares W c t h

  pub all-declared-seen : (ps : List Reference) → are_declared (view_of W c) ps ≡ true → sees-all ps ≡ true
  all-declared-seen [] h = refl
  all-declared-seen (p ∷ ps) h =
      both (sees_trait W c p.trait) _ (declared-seen p.trait (left (is_declared (view_of W c) p.trait) _ h)) (all-declared-seen ps (right (is_declared (view_of W c) p.trait) _ h))

  -- What c does not see makes a reference unknown
  pub unseen-dyn : (t : ℕ) (k o : Trees) → sees-all (principal_with (tree dynamic k none) k) ≡ false → is_known W c (record { trait = t; args = tree dynamic k o }) ≡ false
  unseen-dyn t none o h = cc
  unseen-dyn t (tree (principal n s) pa rest) o h = so-false _ (λ g. not-both (sees_trait W c s && true) (both (sees_trait W c s) true (found g) refl) h)
    where
      first : (b : Bool) (ys : List Met) → b ≡ false → list_all (seen W c) (until_decisive (((if b then local else dyn_leaf s) ∷ []) ++ ys)) ≡ true → sees_trait W c s ≡ true
      first true ys z h = cc
      first false ys z h = left (sees_trait W c s) _ h

      found : is_known W c (record { trait = t; args = tree dynamic (tree (principal n s) pa rest) o }) ≡ true → sees_trait W c s ≡ true
      found g =
          first (trait_is (λ x. false) W s) (visited W None o) (nobody-trait (traits_named W s))
          (left (list_all (seen W c) (open_walk W (record { trait = t; args = tree dynamic (tree (principal n s) pa rest) o }))) _ (right (sees_trait W c t) _ g))
  unseen-dyn t (tree m pa rest) o h = cc

-- A `dyn` that the open walk meets late
-- the open walk goes on with what comes after a type
later-met : (W : World) (m : Met) (l : Label) (k o : Trees) → In m (visited W None o) → In m (visited W None (tree l k o))
later-met W m (ref b) k o h = in-right m (visited W None k) (visited W None o) h
later-met W m (adt s) k o h = in-right m _ (visited W None o) h
later-met W m dynamic k o h = in-right m (dyn_met W None k) (visited W None o) h
later-met W m (param of_type i) k o h = there m open_place (visited W None o) h
later-met W m (param of_const i) k o h = h
later-met W m (param of_lifetime i) k o h = h
later-met W m (placeholder of_type i) k o h = there m open_place (visited W None o) h
later-met W m (placeholder of_const i) k o h = h
later-met W m (placeholder of_lifetime i) k o h = h
later-met W m (infer of_type i) k o h = there m open_place (visited W None o) h
later-met W m (infer of_const i) k o h = h
later-met W m (infer of_lifetime i) k o h = h
later-met W m (canonical of_type i) k o h = there m open_place (visited W None o) h
later-met W m (canonical of_const i) k o h = h
later-met W m (canonical of_lifetime i) k o h = h
later-met W m (bound of_type j i) k o h = there m open_place (visited W None o) h
later-met W m (bound of_const j i) k o h = h
later-met W m (bound of_lifetime j i) k o h = h
later-met W m (value n) k o h = h
later-met W m static k o h = h
later-met W m l k o h = there m other_leaf (visited W None o) h

struct-clean : (s : ℕ) (b0 b2 : Bool) (xs : List Met) → b0 ≡ false → clean xs ≡ true → clean (if b0 then local ∷ [] else if b2 then entered s ∷ xs else struct_leaf s ∷ []) ≡ true
struct-clean s true b2 xs z h = cc
struct-clean s false true xs z h = h
struct-clean s false false xs z h = refl

dyn-clean : (W : World) (k : Trees) → clean (dyn_met W None k) ≡ true
dyn-clean W none = refl
dyn-clean W (tree (principal n t) pa rest) = by (trait_is (λ x. false) W t) (nobody-trait (traits_named W t))
  where
    by : (b : Bool) → b ≡ false → clean ((if b then local else dyn_leaf t) ∷ []) ≡ true
    by true z = cc
    by false z = refl
dyn-clean W (tree m pa rest) = refl

-- the open walk of a closed type meets nothing decisive
closed-clean : (W : World) (t : Trees) → some_node is_open t ≡ false → clean (visited W None t) ≡ true
closed-clean W none h = refl
closed-clean W (tree (ref b) k o) h =
    clean-join (visited W None k) (visited W None o) (closed-clean W k (child-shut is_open (ref b) k o h)) (closed-clean W o (next-shut is_open (ref b) k o h))
closed-clean W (tree (adt s) k o) h =
    clean-join (if struct_is (λ x. false) W s then local ∷ [] else if struct_is (λ x. x.is_fundamental) W s then entered s ∷ visited W None k else struct_leaf s ∷ []) (visited W None o)
    (struct-clean s (struct_is (λ x. false) W s) (struct_is (λ x. x.is_fundamental) W s) (visited W None k) (nobody (structs_named W s)) (closed-clean W k (child-shut is_open (adt s) k o h)))
    (closed-clean W o (next-shut is_open (adt s) k o h))
closed-clean W (tree dynamic k o) h = clean-join (dyn_met W None k) (visited W None o) (dyn-clean W k) (closed-clean W o (next-shut is_open dynamic k o h))
closed-clean W (tree (param of_type i) k o) h = cc
closed-clean W (tree (param of_const i) k o) h = cc
closed-clean W (tree (param of_lifetime i) k o) h = cc
closed-clean W (tree (placeholder of_type i) k o) h = cc
closed-clean W (tree (placeholder of_const i) k o) h = cc
closed-clean W (tree (placeholder of_lifetime i) k o) h = cc
closed-clean W (tree (infer of_type i) k o) h = cc
closed-clean W (tree (infer of_const i) k o) h = cc
closed-clean W (tree (infer of_lifetime i) k o) h = cc
closed-clean W (tree (canonical of_type i) k o) h = cc
closed-clean W (tree (canonical of_const i) k o) h = cc
closed-clean W (tree (canonical of_lifetime i) k o) h = cc
closed-clean W (tree (bound of_type j i) k o) h = cc
closed-clean W (tree (bound of_const j i) k o) h = cc
closed-clean W (tree (bound of_lifetime j i) k o) h = cc
closed-clean W (tree (value n) k o) h = closed-clean W o (next-shut is_open (value n) k o h)
closed-clean W (tree static k o) h = closed-clean W o (next-shut is_open static k o h)
closed-clean W (tree l k o) h = closed-clean W o (next-shut is_open l k o h)

clean-whole : (ms : List Met) → clean ms ≡ true → until_decisive ms ≡ ms
clean-whole [] h = refl
clean-whole (local ∷ ms) h = cc
clean-whole (open_place ∷ ms) h = cc
clean-whole (struct_leaf s ∷ ms) h = ap (λ z. struct_leaf s ∷ z) (clean-whole ms h)
clean-whole (dyn_leaf s ∷ ms) h = ap (λ z. dyn_leaf s ∷ z) (clean-whole ms h)
clean-whole (entered s ∷ ms) h = ap (λ z. entered s ∷ z) (clean-whole ms h)
clean-whole (other_leaf ∷ ms) h = ap (λ z. other_leaf ∷ z) (clean-whole ms h)

each-passes : (p : Met → Bool) (ms : List Met) (m : Met) → list_all p ms ≡ true → In m ms → p m ≡ true
each-passes p [] m h g = absurd (in-nothing m g)
each-passes p (x ∷ ms) m h g = by (in-cases m x ms g) (each-passes p ms m (right (p x) _ h))
  where
    by : (x ≡ m) ⊎ In m ms → (In m ms → p m ≡ true) → p m ≡ true
    by (inl e) f = ap p (sym e) ∙ left (p x) _ h
    by (inr e) f = f e

-- a closed reference whose open walk meets an item that c does not see is unknown to c
unseen-item : (W : World) (c t : ℕ) (a : Trees) (m : Met) → some_node is_open a ≡ false → In m (visited W None a) → seen W c m ≡ false → is_known W c (record { trait = t; args = a }) ≡ false
unseen-item W c t a m z g e = so-false _ (λ h. not-both (seen W c m) (each-passes (seen W c) (visited W None a) m (all h) g) e)
  where
    all : is_known W c (record { trait = t; args = a }) ≡ true → list_all (seen W c) (visited W None a) ≡ true
    all h =
        subst (λ z. list_all (seen W c) z ≡ true) (clean-whole (visited W None a) (closed-clean W a z))
        (left (list_all (seen W c) (open_walk W (record { trait = t; args = a }))) _ (right (sees_trait W c t) _ h))

dyn-there : (W : World) (n s : ℕ) (pa rest o : Trees) → In (dyn_leaf s) (visited W None (tree dynamic (tree (principal n s) pa rest) o))
dyn-there W n s pa rest o = by (trait_is (λ x. false) W s) (visited W None o) (nobody-trait (traits_named W s))
  where
    by : (b : Bool) (ys : List Met) → b ≡ false → In (dyn_leaf s) (((if b then local else dyn_leaf s) ∷ []) ++ ys)
    by true ys z = cc
    by false ys z = here (dyn_leaf s) ys

-- the `dyn` that a type is asked to unsize to
pub unseen-target : (W : World) (vs : List View) (rank : ℕ → ℕ) (l : JoinedSet W vs rank) (c t : ℕ) (m : Label) (k b o : Trees)
    → some_node is_open (tree m k (tree dynamic b o)) ≡ false → sees-all W vs rank l c (principal_with (tree m k none) b) ≡ false
    → is_known W c (record { trait = t; args = tree m k (tree dynamic b o) }) ≡ false
unseen-target W vs rank l c t m k none o z h = cc
unseen-target W vs rank l c t m k (tree (principal n s) pa rest) o z h =
    unseen-item W c t (tree m k (tree dynamic (tree (principal n s) pa rest) o)) (dyn_leaf s) z
    (later-met W (dyn_leaf s) m k (tree dynamic (tree (principal n s) pa rest) o) (dyn-there W n s pa rest o))
    (so-false _ (λ g. not-both (sees_trait W c s && true) (both (sees_trait W c s) true g refl) h))
unseen-target W vs rank l c t m k (tree q pa rest) o z h = cc

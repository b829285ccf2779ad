-- A world with other crates and impls: functions of structs and traits alone give the same for it.
use Rattle.std.proofs.Common.{◌≡◌, ℕ, zero, suc, Bool, true, false, List, [], ◌∷◌, ◌++◌, refl, ap, ◌∙◌, ◌&&◌, ◌||◌, ◌==◌, not, if◌then◌else◌, Option, None, Some, length}
use Rattle.std.specs.List.{flat_map, list_all, list_any}
use Rattle.type_terms.specs.Promised.Label.{Label, of_type, of_const, of_lifetime, adt, array, slice, raw_pointer, ref, dynamic, principal, static, value, param, placeholder, infer, canonical, bound}
use Rattle.type_terms.specs.Promised.Trees.{Trees, none, tree}
use Rattle.type_terms.specs.Promised.Worlds.{World, Reference, CrateDecl, ImplDecl}
use Rattle.type_terms.specs.Promised.Walks.{Met, local, struct_leaf, dyn_leaf, entered, other_leaf, open_place, struct_is, trait_is, is_home, dyn_met, visited, until_decisive, ends_local, item_in, is_known_in}
use Rattle.type_terms.specs.Promised.Rules.{Rule, plain_rules, sized_rules, auto_rules, auto_rules_plain, unsize_rules, unsize_array_rules, unsize_to_dyn_rules, unsize_upcast_rules, unsize_struct_rules, upcasts_principal, upcasts_autos, object_rules, object_principal, object_auto, unsize_upcast, unsize_to_dyn, unsize_dyn, equal_rows, built_in_rules, principal_with, autos_with, is_declared, are_declared, are_dyn_compatible, is_dyn, is_auto, is_written, elaborated, same_reference, sized, unsize, row, asked, strict_supertraits, strict_supertraits_within, written_supertraits}

flat-same : {A B : Type 0} (f g : A → List B) → ((x : A) → f x ≡ g x) → (xs : List A) → flat_map f xs ≡ flat_map g xs
flat-same f g h [] = refl
flat-same f g h (x ∷ xs) = ap (λ z. z ++ flat_map f xs) (h x) ∙ ap (λ z. g x ++ z) (flat-same f g h xs)

each-same : {A : Type 0} (p q : A → Bool) → ((x : A) → p x ≡ q x) → (xs : List A) → list_all p xs ≡ list_all q xs
each-same p q h [] = refl
each-same p q h (x ∷ xs) = ap (λ z. z && list_all p xs) (h x) ∙ ap (λ z. q x && z) (each-same p q h xs)

if-same : (b : Bool) (us vs : List Rule) → (b ≡ true → us ≡ vs) → (if b then us else []) ≡ (if b then vs else [])
if-same true us vs h = h refl
if-same false us vs h = refl

module _ (V : World) (cs : List CrateDecl) (is : List ImplDecl) where
  abbrev U : World
  U = record V { crates = cs; impls = is }

  -- supertraits
  within-same : (n : ℕ) (r : Reference) → strict_supertraits_within n U r ≡ strict_supertraits_within n V r
  within-same zero r = refl
  within-same (suc n) r =
      flat-same (λ s. s ∷ strict_supertraits_within n U s) (λ s. s ∷ strict_supertraits_within n V s) (λ s. ap (λ z. s ∷ z) (within-same n s)) (written_supertraits V r)

  pub supers-same : (r : Reference) → strict_supertraits U r ≡ strict_supertraits V r
  supers-same r = within-same (length V.traits) r

  elaborated-same : (rs : List Reference) → elaborated U rs ≡ elaborated V rs
  elaborated-same rs = flat-same (λ r. r ∷ strict_supertraits U r) (λ r. r ∷ strict_supertraits V r) (λ r. ap (λ z. r ∷ z) (supers-same r)) rs

  compatible-same : (rs : List Reference) → are_dyn_compatible U rs ≡ are_dyn_compatible V rs
  compatible-same rs = ap (λ es. are_declared V rs && not (list_any (λ s. s.trait == sized) es)) (elaborated-same rs)

  -- the rows that read no impl
  pub sized-same : (a : Trees) → sized_rules U a ≡ sized_rules V a
  sized-same none = refl
  sized-same (tree (adt s) k o) = refl
  sized-same (tree l k o) = refl

  pub plain-same : (t : ℕ) (a : Trees) → auto_rules_plain U t a ≡ auto_rules_plain V t a
  plain-same t none = refl
  plain-same t (tree (adt s) k o) = refl
  plain-same t (tree (raw_pointer _) none p) = refl
  plain-same t (tree (raw_pointer _) (tree l k o) p) = refl
  plain-same t (tree array none p) = refl
  plain-same t (tree array (tree l k o) p) = refl
  plain-same t (tree slice none p) = refl
  plain-same t (tree slice (tree l k o) p) = refl
  plain-same t (tree (ref _) none p) = refl
  plain-same t (tree (ref _) (tree r rc none) p) = refl
  plain-same t (tree (ref _) (tree r rc (tree l k o)) p) = refl
  plain-same t (tree l k o) = refl

  -- the switch of an auto trait's rule, where the impls of the trait are the same
  auto-same-rules : (t : ℕ) (a : Trees) → ((l : Label) → is_written U t l ≡ is_written V t l) → auto_rules U t a ≡ auto_rules V t a
  auto-same-rules t none h = refl
  auto-same-rules t (tree l k o) h =
      ap (λ b. if b then [] else auto_rules_plain U t (tree l k o)) (h l) ∙ ap (λ z. if is_written V t l then [] else z) (plain-same t (tree l k o))

  pub object-same : (r : Reference) (a : Trees) → object_rules U r a ≡ object_rules V r a
  object-same r none = refl
  object-same r (tree dynamic k o) =
      ap (λ b. F b (strict_supertraits U r) (elaborated U p)) (compatible-same p)
      ∙ ap (λ s. F (are_dyn_compatible V p) s (elaborated U p)) (supers-same r)
      ∙ ap (λ e. F (are_dyn_compatible V p) (strict_supertraits V r) e) (elaborated-same p)
    where
      p : List Reference
      p = principal_with (tree dynamic k none) k

      q : List Reference
      q = autos_with (tree dynamic k none) k

      F : Bool → List Reference → List Reference → List Rule
      F b s e =
          if is_declared V r.trait && b
          then (if not (r.trait == sized) && list_any (same_reference r) q then row object_auto s else []) ++ (if not (r.trait == sized) then equal_rows object_principal s r 0 e else [])
          else []
  object-same r (tree l k o) = refl

  to-dyn-same : (a : Trees) → unsize_to_dyn_rules U a ≡ unsize_to_dyn_rules V a
  to-dyn-same (tree l k (tree dynamic b o)) =
      ap (λ v. if not (is_dyn l) && v then row unsize_to_dyn (principal_with (tree l k none) b ++ (autos_with (tree l k none) b ++ asked sized (tree l k none) ∷ [])) else [])
      (compatible-same (principal_with (tree l k none) b))
  to-dyn-same a = refl

  principal-same : (ps qs : List Reference) → upcasts_principal U ps qs ≡ upcasts_principal V ps qs
  principal-same ps [] = refl
  principal-same [] (q ∷ qs) = refl
  principal-same (p ∷ ps) (q ∷ qs) =
      ap (λ s. if p.trait == q.trait then (if same_reference p q then row unsize_dyn [] else []) else equal_rows unsize_upcast [] q 1 s) (supers-same p)

  upcast-same : (a : Trees) → unsize_upcast_rules U a ≡ unsize_upcast_rules V a
  upcast-same (tree dynamic k (tree dynamic b o)) =
      ap (λ e. if are_declared V p && list_all (λ z. list_any (λ q. q.trait == z.trait) (autos_with self k ++ e)) (autos_with self b) then upcasts_principal U p (principal_with self b) else [])
      (elaborated-same p)
      ∙ ap (λ z. if are_declared V p && upcasts_autos V p (autos_with self k) (autos_with self b) then z else []) (principal-same p (principal_with self b))
    where
      self : Trees
      self = tree dynamic k none

      p : List Reference
      p = principal_with self k
  upcast-same a = refl

  struct-same : (a : Trees) → unsize_struct_rules U a ≡ unsize_struct_rules V a
  struct-same (tree (adt s) x (tree (adt v) y o)) = refl
  struct-same a = refl

  pub unsize-same : (a : Trees) → unsize_rules U a ≡ unsize_rules V a
  unsize-same a =
      ap (λ z. unsize_array_rules a ++ (z ++ (unsize_upcast_rules U a ++ unsize_struct_rules U a))) (to-dyn-same a)
      ∙ ap (λ z. unsize_array_rules a ++ (unsize_to_dyn_rules V a ++ (z ++ unsize_struct_rules U a))) (upcast-same a)
      ∙ ap (λ z. unsize_array_rules a ++ (unsize_to_dyn_rules V a ++ (unsize_upcast_rules V a ++ z))) (struct-same a)

  pub built-in-same : (r : Reference) → (is_auto V r.trait ≡ true → (l : Label) → is_written U r.trait l ≡ is_written V r.trait l) → built_in_rules U r ≡ built_in_rules V r
  built-in-same r h =
      ap (λ z. plain_rules r ++ (z ++ (s2 U ++ (s3 U ++ object_rules U r a)))) (if-same (t == sized) (sized_rules U a) (sized_rules V a) (λ e. sized-same a))
      ∙ ap (λ z. plain_rules r ++ (s1 V ++ (z ++ (s3 U ++ object_rules U r a)))) (if-same (is_auto V t) (auto_rules U t a) (auto_rules V t a) (λ e. auto-same-rules t a (h e)))
      ∙ ap (λ z. plain_rules r ++ (s1 V ++ (s2 V ++ (z ++ object_rules U r a)))) (if-same (t == unsize) (unsize_rules U a) (unsize_rules V a) (λ e. unsize-same a))
      ∙ ap (λ z. plain_rules r ++ (s1 V ++ (s2 V ++ (s3 V ++ z)))) (object-same r a)
    where
      t : ℕ
      t = r.trait

      a : Trees
      a = r.args

      s1 : World → List Rule
      s1 X = if t == sized then sized_rules X a else []

      s2 : World → List Rule
      s2 X = if is_auto X t then auto_rules X t a else []

      s3 : World → List Rule
      s3 X = if t == unsize then unsize_rules X a else []

  -- walks
  dyn-same : (d : Option ℕ) (k : Trees) → dyn_met U d k ≡ dyn_met V d k
  dyn-same d none = refl
  dyn-same d (tree (principal n t) k o) = refl
  dyn-same d (tree l k o) = refl

  pub visited-same : (d : Option ℕ) (a : Trees) → visited U d a ≡ visited V d a
  visited-same d none = refl
  visited-same d (tree (ref m) k o) = ap (λ z. z ++ visited U d o) (visited-same d k) ∙ ap (λ z. visited V d k ++ z) (visited-same d o)
  visited-same d (tree (adt s) k o) =
      ap (λ z. (if struct_is (λ x. is_home d x.home) V s then local ∷ [] else if struct_is (λ x. x.is_fundamental) V s then entered s ∷ z else struct_leaf s ∷ []) ++ visited U d o) (visited-same d k)
      ∙ ap (λ z. (if struct_is (λ x. is_home d x.home) V s then local ∷ [] else if struct_is (λ x. x.is_fundamental) V s then entered s ∷ visited V d k else struct_leaf s ∷ []) ++ z) (visited-same d o)
  visited-same d (tree dynamic k o) = ap (λ z. z ++ visited U d o) (dyn-same d k) ∙ ap (λ z. dyn_met V d k ++ z) (visited-same d o)
  visited-same d (tree (param of_type i) k o) = ap (λ z. open_place ∷ z) (visited-same d o)
  visited-same d (tree (placeholder of_type i) k o) = ap (λ z. open_place ∷ z) (visited-same d o)
  visited-same d (tree (infer of_type i) k o) = ap (λ z. open_place ∷ z) (visited-same d o)
  visited-same d (tree (canonical of_type i) k o) = ap (λ z. open_place ∷ z) (visited-same d o)
  visited-same d (tree (bound of_type n i) k o) = ap (λ z. open_place ∷ z) (visited-same d o)
  visited-same d (tree (param of_const i) k o) = visited-same d o
  visited-same d (tree (placeholder of_const i) k o) = visited-same d o
  visited-same d (tree (infer of_const i) k o) = visited-same d o
  visited-same d (tree (canonical of_const i) k o) = visited-same d o
  visited-same d (tree (bound of_const n i) k o) = visited-same d o
  visited-same d (tree (param of_lifetime i) k o) = visited-same d o
  visited-same d (tree (placeholder of_lifetime i) k o) = visited-same d o
  visited-same d (tree (infer of_lifetime i) k o) = visited-same d o
  visited-same d (tree (canonical of_lifetime i) k o) = visited-same d o
  visited-same d (tree (bound of_lifetime n i) k o) = visited-same d o
  visited-same d (tree (value n) k o) = visited-same d o
  visited-same d (tree static k o) = visited-same d o
  visited-same d (tree l k o) = ap (λ z. other_leaf ∷ z) (visited-same d o)

  item-same : (m : Met) → item_in U m ≡ item_in V m
  item-same (struct_leaf s) = refl
  item-same (entered s) = refl
  item-same (dyn_leaf t) = refl
  item-same local = refl
  item-same other_leaf = refl
  item-same open_place = refl

  pub known-same : (c : ℕ) (r : Reference) → is_known_in U c r ≡ is_known_in V c r
  known-same c r =
      ap (λ ms. F (list_all (item_in U) (until_decisive ms)) (visited U (Some c) r.args)) (visited-same None r.args)
      ∙ ap (λ b. F b (visited U (Some c) r.args)) (each-same (item_in U) (item_in V) item-same (until_decisive (visited V None r.args)))
      ∙ ap (λ ms. F (list_all (item_in V) (until_decisive (visited V None r.args))) ms) (visited-same (Some c) r.args)
    where
      F : Bool → List Met → Bool
      F b ms = trait_is (λ _. true) V r.trait && (b && (trait_is (λ x. (x.home == c) || x.is_fundamental) V r.trait || ends_local (until_decisive ms)))

-- Terms in place of placeholders: a trait reference has the same rule instances.
use Rattle.std.proofs.Common.{◌≡◌, ℕ, zero, suc, Bool, true, false, List, [], ◌∷◌, ◌++◌, refl, ap, sym, ◌∙◌, ◌&&◌, ◌||◌, ◌==◌, not, if◌then◌else◌, subst, ◌⊎◌, inl, inr, map, length}
use Rattle.std.specs.List.{list_any, flat_map}
use Rattle.type_terms.specs.Promised.Label.{Label, array, slice, tuple, dynamic, adt, fn_ptr, ref, raw_pointer, principal, auto_trait, placeholder}
use Rattle.type_terms.specs.Codes.{same}
use Rattle.type_terms.specs.Promised.Trees.{Trees, none, tree, ◌+++◌, instantiate, Fits}
use Rattle.type_terms.specs.Trees.{arguments, fits}
use Rattle.type_terms.specs.Promised.Worlds.{World, Reference, StructDecl, TraitDecl, ImplDecl, structs_named, traits_named, with_args, all_with_args}
use Rattle.type_terms.specs.Promised.Rules.{Rule, BuiltIn, by_impl, built_in, row, impl_rules, built_in_rules, plain_rules, sized_rules, copy_rules, tuple_rules, fn_ptr_rules, call_rules, but_last, auto_rules, auto_rules_plain, is_written, unsize_rules, unsize_array_rules, unsize_to_dyn_rules, unsize_upcast_rules, unsize_struct_rules, upcasts_principal, upcasts_autos, is_unsizing, some_unsizing, with_unsizing, last_unsizes, object_rules, object_bound_rules, principal_with, autos_with, equal_rows, elaborated, are_declared, are_dyn_compatible, is_declared, is_auto, is_fn_trait, is_dyn, same_reference, asked, each_asked, last_asked, together, fields_of, written_supertraits, strict_supertraits, strict_supertraits_within, sized, clone, copy, tuple_trait, fn_ptr_trait, unsize, sized_tuple, sized_struct, copy_tuple, auto_tuple, auto_struct, fn_ptr_call, object_auto, object_principal, unsize_array, unsize_to_dyn, unsize_dyn, unsize_upcast, unsize_struct}
use Rattle.type_terms.specs.Promised.Proofs.{In}
use Rattle.type_terms.specs.Promised.LinkedSet.{AllWritten}
use Rattle.type_terms.proofs.Members.{here, there, in-cases, in-nothing, in-append, in-left, in-right, in-flat, flat-in, in-map, in-filter, some-member, member-some}
use Rattle.type_terms.proofs.Walking.{left, right, both}
use Rattle.type_terms.proofs.RenumberedTrees.{and-same}
use Rattle.type_terms.proofs.RenumberedRules.{map-append, append-same, cons-same, any-over, all-over}
use Rattle.type_terms.proofs.Fitting.{ByImpl, impl-rule, same-reference-sound, not-true as not-is}
use Rattle.type_terms.proofs.Applies.{fits-complete, same-reference-complete}
use Rattle.type_terms.proofs.OpenWorld.{was-true}
use Rattle.type_terms.proofs.FilledTrees.{Filling, new_label, new_inner, put, Written, over-append, over-instantiate, over-arguments, fits-filled, same-filled}
use Rattle.type_terms.proofs.ArrangedTrees.{reference-at as reference-with}

-- The world's declarations may be put into
abbrev pub PlainWorld : World → Type 0
PlainWorld W = AllWritten Written W

flat-into : {A B C : Type 0} (m : B → C) (f : A → List B) (g : A → List C) (xs : List A) → ((x : A) → In x xs → map m (f x) ≡ g x) → map m (flat_map f xs) ≡ flat_map g xs
flat-into m f g [] h = refl
flat-into m f g (x ∷ xs) h = map-append m (f x) (flat_map f xs) ∙ append-same (h x (here x xs)) (flat-into m f g xs (λ y k. h y (there y x xs k)))

map-into : {A B : Type 0} (m : A → B) (f : A → A) (g : A → B) (xs : List A) → ((x : A) → In x xs → m (f x) ≡ g x) → map m (map f xs) ≡ map g xs
map-into m f g [] h = refl
map-into m f g (x ∷ xs) h = cons-same (h x (here x xs)) (map-into m f g xs (λ y k. h y (there y x xs k)))

module _ (W : World) (w : PlainWorld W) (σ : Filling) where
  abbrev P : Trees → Trees
  P t = put σ true t

  abbrev pub filled_reference : Reference → Reference
  filled_reference r = record { trait = r.trait; args = P r.args }

  abbrev Q : Reference → Reference
  Q r = filled_reference r

  abbrev pub filled_rule : Rule → Rule
  filled_rule u = record { way = u.way; premises = map Q u.premises }

  abbrev M : Rule → Rule
  M u = filled_rule u

  -- each rule of the one list is, filled, one of the other
  Into : List Rule → List Rule → Type 0
  Into us vs = (u : Rule) → In u us → In (M u) vs

  by-eq : (us vs : List Rule) → map M us ≡ vs → Into us vs
  unfolding Into
  by-eq us vs e u h = subst (In (M u)) e (in-map M us u h)

  nothing : (vs : List Rule) → Into [] vs
  unfolding Into
  nothing vs u h = absurd (in-nothing u h)

  if-into : (b c : Bool) (us vs : List Rule) → (b ≡ true → c ≡ true) → Into us vs → Into (if b then us else []) (if c then vs else [])
  unfolding Into
  if-into true true us vs e h u g = h u g
  if-into true false us vs e h u g = let z = e refl in cc
  if-into false c us vs e h u g = absurd (in-nothing u g)

  both-into : (us us' vs vs' : List Rule) → Into us vs → Into us' vs' → Into (us ++ us') (vs ++ vs')
  unfolding Into
  both-into us us' vs vs' f g u h = by (in-append u us us' h)
    where
      by : In u us ⊎ In u us' → In (M u) (vs ++ vs')
      by (inl k) = in-left (M u) vs vs' (f u k)
      by (inr k) = in-right (M u) vs vs' (g u k)

  -- Impls
  with-filled : (B : Trees) (ks : List Reference) → ((k : Reference) → In k ks → Written k.args) → map Q (all_with_args B ks) ≡ all_with_args (P B) ks
  with-filled B ks h = map-into Q (with_args B) (with_args (P B)) ks (λ k g. reference-with k.trait (over-instantiate σ B k.args (h k g)))

  into-impl : (r : Reference) (i : ImplDecl) → In i W.impls → Into (impl_rules r i) (impl_rules (Q r) i)
  unfolding Into
  into-impl r i m u h =
      there-if (fits A' i.header.args && same_reference (with_args A' i.header) (Q r)) (M u) (record { way = by_impl i.name; premises = all_with_args A' i.clauses })
      (sym (ap M b.is-rule) ∙ ap (λ z. (let v : Rule = record { way = by_impl i.name; premises = z } in v)) (with-filled A i.clauses (λ k g. w.clauses i k m g) ∙ ap (λ z. all_with_args z i.clauses) A-is))
      (both (fits A' i.header.args) _ (fits-complete A' i.header.args (subst (λ z. Fits z i.header.args) A-is (fits-filled σ A i.header.args b.fitting)))
      (same-reference-complete (with_args A' i.header) (Q r) (ap (λ z. with_args z i.header) (sym A-is) ∙ sym (reference-with i.header.trait (over-instantiate σ A i.header.args (w.headers i m))) ∙ ap Q b.is-instance)))
    where
      A : Trees
      A = arguments i.params i.header.args r.args

      A' : Trees
      A' = arguments i.params i.header.args (P r.args)

      b : ByImpl r i u
      b = impl-rule r i u h

      args-is : instantiate zero A i.header.args ≡ r.args
      args-is = ap (λ (x : Reference). x.args) b.is-instance

      A-is : P A ≡ A'
      A-is =
          subst (λ z. P (arguments i.params i.header.args z) ≡ arguments i.params i.header.args (P z)) args-is
          (over-arguments σ i.params A i.header.args (w.headers i m))

      there-if : (b : Bool) (u v : Rule) → u ≡ v → b ≡ true → In u (if b then v ∷ [] else [])
      there-if true u v q e = subst (λ z. In z (v ∷ [])) (sym q) (here v [])
      there-if false u v q e = cc

  -- Premises
  over-each : (t : ℕ) (xs : Trees) → map Q (each_asked t xs) ≡ each_asked t (P xs)
  over-each t none = refl
  over-each t (tree l c o) = cons-same refl (over-each t o)

  over-last : (t : ℕ) (xs : Trees) → map Q (last_asked t xs) ≡ last_asked t (P xs)
  over-last t none = refl
  over-last t (tree l c none) = refl
  over-last t (tree l c (tree m d o)) = over-last t (tree m d o)

  over-together : (ts : List Trees) → P (together ts) ≡ together (map P ts)
  over-together [] = refl
  over-together (t ∷ ts) = over-append σ true t (together ts) ∙ ap (λ z. P t +++ z) (over-together ts)

  over-fields : (x : StructDecl) → In x W.structs → (args : Trees) → P (fields_of x args) ≡ fields_of x (P args)
  over-fields x m args =
      over-together (map (instantiate zero args) x.fields)
      ∙ ap together (map-into P (instantiate zero args) (instantiate zero (P args)) x.fields (λ t g. over-instantiate σ args t (w.fields x t m g)))

  over-structs : (s : ℕ) (f g : StructDecl → List Rule) → ((x : StructDecl) → In x W.structs → map M (f x) ≡ g x) → map M (flat_map f (structs_named W s)) ≡ flat_map g (structs_named W s)
  over-structs s f g h = flat-into M f g (structs_named W s) (λ x k. h x (in-filter (λ (y : StructDecl). y.name == s) W.structs x k).0)

  -- Rows that read Self
  into-sized : (a : Trees) → Into (sized_rules W a) (sized_rules W (P a))
  into-sized none = nothing []
  into-sized (tree (placeholder s i) c o) = nothing _
  into-sized (tree tuple c o) = by-eq (sized_rules W (tree tuple c o)) _ (ap (row sized_tuple) (over-last sized c))
  into-sized (tree (adt s) c o) =
      by-eq (sized_rules W (tree (adt s) c o)) _
      (over-structs s (λ x. row sized_struct (last_asked sized (fields_of x c))) (λ x. row sized_struct (last_asked sized (fields_of x (P c))))
      (λ x m. ap (row sized_struct) (over-last sized (fields_of x c) ∙ ap (last_asked sized) (over-fields x m c))))
  into-sized (tree l c o) = by-eq (sized_rules W (tree l c o)) _ refl

  into-copy : (t : ℕ) (a : Trees) → Into (copy_rules t a) (copy_rules t (P a))
  into-copy t none = nothing []
  into-copy t (tree (placeholder s i) c o) = nothing _
  into-copy t (tree tuple c o) = by-eq (copy_rules t (tree tuple c o)) _ (ap (row copy_tuple) (over-each t c))
  into-copy t (tree l c o) = by-eq (copy_rules t (tree l c o)) _ refl

  into-auto-plain : (t : ℕ) (a : Trees) → Into (auto_rules_plain W t a) (auto_rules_plain W t (P a))
  into-auto-plain t none = nothing []
  into-auto-plain t (tree (placeholder s i) c o) = nothing _
  into-auto-plain t (tree tuple c o) = by-eq (auto_rules_plain W t (tree tuple c o)) _ (ap (row auto_tuple) (over-each t c))
  into-auto-plain t (tree (adt s) c o) =
      by-eq (auto_rules_plain W t (tree (adt s) c o)) _
      (over-structs s (λ x. row auto_struct (each_asked t (fields_of x c))) (λ x. row auto_struct (each_asked t (fields_of x (P c))))
      (λ x m. ap (row auto_struct) (over-each t (fields_of x c) ∙ ap (each_asked t) (over-fields x m c))))
  into-auto-plain t (tree (raw_pointer b) none p) = nothing _
  into-auto-plain t (tree (raw_pointer b) (tree l k o) p) = by-eq (auto_rules_plain W t (tree (raw_pointer b) (tree l k o) p)) _ refl
  into-auto-plain t (tree array none p) = nothing _
  into-auto-plain t (tree array (tree l k o) p) = by-eq (auto_rules_plain W t (tree array (tree l k o) p)) _ refl
  into-auto-plain t (tree slice none p) = nothing _
  into-auto-plain t (tree slice (tree l k o) p) = by-eq (auto_rules_plain W t (tree slice (tree l k o) p)) _ refl
  into-auto-plain t (tree (ref b) none p) = nothing _
  into-auto-plain t (tree (ref b) (tree r rc none) p) = nothing _
  into-auto-plain t (tree (ref b) (tree r rc (tree l k o)) p) = by-eq (auto_rules_plain W t (tree (ref b) (tree r rc (tree l k o)) p)) _ refl
  into-auto-plain t (tree l c o) = by-eq (auto_rules_plain W t (tree l c o)) _ refl

  unless-into : (b : Bool) (us vs : List Rule) → Into us vs → Into (if b then [] else us) (if b then [] else vs)
  unless-into true us vs h = nothing []
  unless-into false us vs h = h

  unless-nothing : (b : Bool) (vs : List Rule) → Into (if b then [] else []) vs
  unless-nothing true vs = nothing vs
  unless-nothing false vs = nothing vs

  into-auto : (t : ℕ) (a : Trees) → Into (auto_rules W t a) (auto_rules W t (P a))
  into-auto t none = nothing []
  into-auto t (tree (placeholder s i) c o) = unless-nothing (is_written W t (placeholder s i)) _
  into-auto t (tree l c o) = unless-into (is_written W t l) (auto_rules_plain W t (tree l c o)) _ (into-auto-plain t (tree l c o))

  into-tuple : (a : Trees) → Into (tuple_rules a) (tuple_rules (P a))
  into-tuple none = nothing []
  into-tuple (tree tuple c o) = by-eq (tuple_rules (tree tuple c o)) _ refl
  into-tuple (tree l c o) = nothing _

  into-fn-ptr : (a : Trees) → Into (fn_ptr_rules a) (fn_ptr_rules (P a))
  into-fn-ptr none = nothing []
  into-fn-ptr (tree (fn_ptr n) c o) = by-eq (fn_ptr_rules (tree (fn_ptr n) c o)) _ refl
  into-fn-ptr (tree l c o) = nothing _

  over-but-last : (t : Trees) → P (but_last t) ≡ but_last (P t)
  over-but-last none = refl
  over-but-last (tree l c none) = refl
  over-but-last (tree l c (tree m d o)) = ap (λ z. tree (new_label σ l true) (new_inner σ l true (put σ true c) (put σ false c)) z) (over-but-last (tree m d o))

  into-call : (a : Trees) → Into (call_rules a) (call_rules (P a))
  into-call (tree (fn_ptr n) types (tree tuple inputs o)) =
      if-into (same (but_last types) inputs) (same (but_last (P types)) (P inputs)) (row fn_ptr_call (last_asked sized types)) (row fn_ptr_call (last_asked sized (P types)))
      (λ e. subst (λ z. same z (P inputs) ≡ true) (over-but-last types) (same-filled σ (but_last types) inputs e))
      (by-eq (row fn_ptr_call (last_asked sized types)) _ (ap (row fn_ptr_call) (over-last sized types)))
  into-call (tree (fn_ptr n) types none) = nothing _
  into-call (tree (fn_ptr n) types (tree l c o)) = nothing _
  into-call none = nothing _
  into-call (tree l c o) = nothing _

  into-plain : (r : Reference) → Into (plain_rules r) (plain_rules (Q r))
  into-plain r =
      both-into p1 _ (if (t == copy) || (t == clone) then copy_rules t (P a) else []) _
      (if-into ((t == copy) || (t == clone)) _ (copy_rules t a) (copy_rules t (P a)) (λ e. e) (into-copy t a))
      (both-into (if t == tuple_trait then tuple_rules a else []) _ (if t == tuple_trait then tuple_rules (P a) else []) _
      (if-into (t == tuple_trait) _ (tuple_rules a) (tuple_rules (P a)) (λ e. e) (into-tuple a))
      (both-into (if t == fn_ptr_trait then fn_ptr_rules a else []) _ (if t == fn_ptr_trait then fn_ptr_rules (P a) else []) _
      (if-into (t == fn_ptr_trait) _ (fn_ptr_rules a) (fn_ptr_rules (P a)) (λ e. e) (into-fn-ptr a))
      (if-into (is_fn_trait t) _ (call_rules a) (call_rules (P a)) (λ e. e) (into-call a))))
    where
      t : ℕ
      t = r.trait

      a : Trees
      a = r.args

      p1 : List Rule
      p1 = if (t == copy) || (t == clone) then copy_rules t a else []

  -- Supertraits
  over-written-supers : (r : Reference) → map Q (written_supertraits W r) ≡ written_supertraits W (Q r)
  over-written-supers r =
      flat-into Q (λ t. all_with_args r.args t.bounds) (λ t. all_with_args (P r.args) t.bounds) (traits_named W r.trait)
      (λ x m. with-filled r.args x.bounds (λ b g. w.bounds x b (in-filter (λ (y : TraitDecl). y.name == r.trait) W.traits x m).0 g))

  flat-over-to : (f g : Reference → List Reference) → ((s : Reference) → map Q (f s) ≡ g (Q s)) → (ss : List Reference) → map Q (flat_map f ss) ≡ flat_map g (map Q ss)
  flat-over-to f g h [] = refl
  flat-over-to f g h (s ∷ ss) = map-append Q (f s) (flat_map f ss) ∙ append-same (h s) (flat-over-to f g h ss)

  over-within : (n : ℕ) (r : Reference) → map Q (strict_supertraits_within n W r) ≡ strict_supertraits_within n W (Q r)
  over-within zero r = refl
  over-within (suc n) r =
      flat-over-to (λ s. s ∷ strict_supertraits_within n W s) (λ s. s ∷ strict_supertraits_within n W s) (λ s. cons-same refl (over-within n s)) (written_supertraits W r)
      ∙ ap (flat_map (λ s. s ∷ strict_supertraits_within n W s)) (over-written-supers r)

  pub over-supers : (r : Reference) → map Q (strict_supertraits W r) ≡ strict_supertraits W (Q r)
  over-supers r = over-within (length W.traits) r

  over-elaborated : (rs : List Reference) → map Q (elaborated W rs) ≡ elaborated W (map Q rs)
  over-elaborated rs = flat-over-to (λ r. r ∷ strict_supertraits W r) (λ r. r ∷ strict_supertraits W r) (λ r. cons-same refl (over-supers r)) rs

  over-are-declared : (rs : List Reference) → are_declared W (map Q rs) ≡ are_declared W rs
  over-are-declared rs = all-over Q (λ (r : Reference). is_declared W r.trait) (λ (r : Reference). is_declared W r.trait) (λ r. refl) rs

  over-compatible : (ps : List Reference) → are_dyn_compatible W (map Q ps) ≡ are_dyn_compatible W ps
  over-compatible ps =
      and-same (over-are-declared ps)
      (ap (λ z. not (list_any (λ (s : Reference). s.trait == sized) z)) (sym (over-elaborated ps))
      ∙ ap not (any-over Q (λ (s : Reference). s.trait == sized) (λ (s : Reference). s.trait == sized) (λ s. refl) (elaborated W ps)))

  pub same-reference-filled : (r s : Reference) → same_reference r s ≡ true → same_reference (Q r) (Q s) ≡ true
  same-reference-filled r s e = same-reference-complete (Q r) (Q s) (ap Q (same-reference-sound r s e))

  into-equal : (b : ℕ → BuiltIn) (ps : List Reference) (r : Reference) (k : ℕ) (ss : List Reference) → Into (equal_rows b ps r k ss) (equal_rows b (map Q ps) (Q r) k (map Q ss))
  into-equal b ps r k [] = nothing []
  into-equal b ps r k (s ∷ ss) =
      both-into (if same_reference r s then row (b k) ps else []) (equal_rows b ps r (suc k) ss) (if same_reference (Q r) (Q s) then row (b k) (map Q ps) else []) _
      (if-into (same_reference r s) (same_reference (Q r) (Q s)) (row (b k) ps) (row (b k) (map Q ps)) (same-reference-filled r s) (by-eq (row (b k) ps) _ refl))
      (into-equal b ps r (suc k) ss)

  -- Rows of `dyn`
  over-principal : (self b : Trees) → map Q (principal_with self b) ≡ principal_with (P self) (put σ false b)
  over-principal self none = refl
  over-principal self (tree (placeholder s i) c o) = refl
  over-principal self (tree (principal n t) c o) = ap (λ z. (let x : Reference = record { trait = t; args = z } in x) ∷ []) (over-append σ true self c)
  over-principal self (tree l c o) = refl

  over-autos : (self b : Trees) → map Q (autos_with self b) ≡ autos_with (P self) (put σ false b)
  over-autos self none = refl
  over-autos self (tree (placeholder s i) c o) = over-autos self o
  over-autos self (tree (auto_trait t) c o) = cons-same refl (over-autos self o)
  over-autos self (tree l c o) = over-autos self o

  any-filled : (r : Reference) (qs : List Reference) → list_any (same_reference r) qs ≡ true → list_any (same_reference (Q r)) (map Q qs) ≡ true
  any-filled r qs h =
      let m = some-member (same_reference r) qs h in
      member-some (same_reference (Q r)) (map Q qs) (Q m.0) (in-map Q qs m.0 m.1) (same-reference-filled r m.0 m.2)

  into-object-bounds : (r : Reference) (ps qs : List Reference) → Into (object_bound_rules W r ps qs) (object_bound_rules W (Q r) (map Q ps) (map Q qs))
  into-object-bounds r ps qs =
      if-into (is_declared W r.trait && are_dyn_compatible W ps) (is_declared W r.trait && are_dyn_compatible W (map Q ps)) (autos ++ principals) (autos' ++ principals')
      (λ e. and-same refl (over-compatible ps) ∙ e)
      (both-into autos principals autos' principals'
      (if-into (not (r.trait == sized) && list_any (same_reference r) qs) (not (r.trait == sized) && list_any (same_reference (Q r)) (map Q qs)) (row object_auto (strict_supertraits W r)) (row object_auto (strict_supertraits W (Q r)))
      (λ e. both (not (r.trait == sized)) _ (left (not (r.trait == sized)) _ e) (any-filled r qs (right (not (r.trait == sized)) _ e))) (by-eq (row object_auto (strict_supertraits W r)) _ (ap (row object_auto) (over-supers r))))
      (if-into (not (r.trait == sized)) (not (r.trait == sized)) (equal_rows object_principal (strict_supertraits W r) r 0 (elaborated W ps))
      (equal_rows object_principal (strict_supertraits W (Q r)) (Q r) 0 (elaborated W (map Q ps))) (λ e. e) principals-in))
    where
      autos : List Rule
      autos = if not (r.trait == sized) && list_any (same_reference r) qs then row object_auto (strict_supertraits W r) else []

      autos' : List Rule
      autos' = if not (r.trait == sized) && list_any (same_reference (Q r)) (map Q qs) then row object_auto (strict_supertraits W (Q r)) else []

      principals : List Rule
      principals = if not (r.trait == sized) then equal_rows object_principal (strict_supertraits W r) r 0 (elaborated W ps) else []

      principals' : List Rule
      principals' = if not (r.trait == sized) then equal_rows object_principal (strict_supertraits W (Q r)) (Q r) 0 (elaborated W (map Q ps)) else []

      principals-in : Into (equal_rows object_principal (strict_supertraits W r) r 0 (elaborated W ps)) (equal_rows object_principal (strict_supertraits W (Q r)) (Q r) 0 (elaborated W (map Q ps)))
      principals-in =
          subst (λ z. Into (equal_rows object_principal (strict_supertraits W r) r 0 (elaborated W ps)) (equal_rows object_principal (strict_supertraits W (Q r)) (Q r) 0 z)) (over-elaborated ps)
          (subst (λ z. Into (equal_rows object_principal (strict_supertraits W r) r 0 (elaborated W ps)) (equal_rows object_principal z (Q r) 0 (map Q (elaborated W ps)))) (over-supers r)
          (into-equal object_principal (strict_supertraits W r) r 0 (elaborated W ps)))

  into-object : (r : Reference) (a : Trees) → Into (object_rules W r a) (object_rules W (Q r) (P a))
  into-object r none = nothing []
  into-object r (tree (placeholder s i) c o) = nothing _
  into-object r (tree dynamic b o) =
      subst (λ z. Into (object_rules W r (tree dynamic b o)) (object_bound_rules W (Q r) (principal_with (tree dynamic (put σ false b) none) (put σ false b)) z)) (over-autos (tree dynamic b none) b)
      (subst (λ z. Into (object_rules W r (tree dynamic b o)) (object_bound_rules W (Q r) z (map Q (autos_with (tree dynamic b none) b)))) (over-principal (tree dynamic b none) b)
      (into-object-bounds r (principal_with (tree dynamic b none) b) (autos_with (tree dynamic b none) b)))
  into-object r (tree l c o) = nothing _

  -- Rows of `Unsize`
  into-unsize-array : (a : Trees) → Into (unsize_array_rules a) (unsize_array_rules (P a))
  into-unsize-array (tree array (tree l c n) (tree slice (tree m d p) o)) =
      if-into (same (tree l c none) (tree m d none)) (same (P (tree l c none)) (P (tree m d none))) (row unsize_array []) (row unsize_array [])
      (same-filled σ (tree l c none) (tree m d none)) (by-eq (row unsize_array []) _ refl)
  into-unsize-array (tree array (tree l c n) (tree slice none o)) = nothing _
  into-unsize-array (tree array (tree l c n) (tree m d o)) = nothing _
  into-unsize-array (tree array (tree l c n) none) = nothing _
  into-unsize-array (tree array none o) = nothing _
  into-unsize-array none = nothing _
  into-unsize-array (tree l c o) = nothing _

  -- where no `dyn` is put in for a Self that is asked to be `Sized`
  abbrev pub NoDynAsSized : Trees → Rule → Type 0
  NoDynAsSized a u = (l : Label) (c o : Trees) → a ≡ tree l c o → is_dyn l ≡ false → is_dyn (new_label σ l true) ≡ true → In (asked sized (tree l c none)) u.premises → ⊥

  is-not : (b : Bool) → (b ≡ true → ⊥) → not b ≡ true
  is-not true h = absurd (h refl)
  is-not false h = refl

  into-unsize-to-dyn : (a : Trees) (u : Rule) → NoDynAsSized a u → In u (unsize_to_dyn_rules W a) → In (M u) (unsize_to_dyn_rules W (P a))
  unfolding Into
  into-unsize-to-dyn (tree l c (tree dynamic b o)) u apart h =
      if-into (not (is_dyn l) && are_dyn_compatible W ps) (not (is_dyn (new_label σ l true)) && are_dyn_compatible W ps') (row unsize_to_dyn wanted) (row unsize_to_dyn wanted')
      (λ e. both (not (is_dyn (new_label σ l true))) _ (is-not (is_dyn (new_label σ l true)) (λ d. apart l c (tree dynamic b o) refl (not-is (is_dyn l) (left (not (is_dyn l)) _ e)) d asks))
      (ap (are_dyn_compatible W) (sym (over-principal self b)) ∙ over-compatible ps ∙ right (not (is_dyn l)) _ e))
      (by-eq (row unsize_to_dyn wanted) _ (ap (row unsize_to_dyn) wanted-is)) u h
    where
      self : Trees
      self = tree l c none

      ps : List Reference
      ps = principal_with self b

      ps' : List Reference
      ps' = principal_with (P self) (put σ false b)

      wanted : List Reference
      wanted = ps ++ (autos_with self b ++ asked sized self ∷ [])

      wanted' : List Reference
      wanted' = ps' ++ (autos_with (P self) (put σ false b) ++ asked sized (P self) ∷ [])

      wanted-is : map Q wanted ≡ wanted'
      wanted-is =
          map-append Q ps (autos_with self b ++ asked sized self ∷ [])
          ∙ append-same (over-principal self b) (map-append Q (autos_with self b) (asked sized self ∷ []) ∙ append-same (over-autos self b) refl)

      asks : In (asked sized self) u.premises
      asks =
          subst (λ (v : Rule). In (asked sized self) v.premises) (one (in-cases u (record { way = built_in unsize_to_dyn; premises = wanted }) [] (was-true (not (is_dyn l) && are_dyn_compatible W ps) (row unsize_to_dyn wanted) u h).1))
          (in-right (asked sized self) ps _ (in-right (asked sized self) (autos_with self b) (asked sized self ∷ []) (here (asked sized self) [])))
        where
          one : (record { way = built_in unsize_to_dyn; premises = wanted } ≡ u) ⊎ In u [] → record { way = built_in unsize_to_dyn; premises = wanted } ≡ u
          one (inl q) = q
          one (inr q) = absurd (in-nothing u q)
  into-unsize-to-dyn (tree l c none) u apart h = absurd (in-nothing u h)
  into-unsize-to-dyn (tree l c (tree m d o)) u apart h = absurd (in-nothing u h)
  into-unsize-to-dyn none u apart h = absurd (in-nothing u h)

  into-upcasts : (ps qs : List Reference) → Into (upcasts_principal W ps qs) (upcasts_principal W (map Q ps) (map Q qs))
  into-upcasts ps [] = by-eq (row unsize_dyn []) _ refl
  into-upcasts [] (q ∷ qs) = nothing []
  into-upcasts (p ∷ ps) (q ∷ qs) = by (p.trait == q.trait)
    where
      kept : Into (if same_reference p q then row unsize_dyn [] else []) (if same_reference (Q p) (Q q) then row unsize_dyn [] else [])
      kept = if-into (same_reference p q) (same_reference (Q p) (Q q)) (row unsize_dyn []) (row unsize_dyn []) (same-reference-filled p q) (by-eq (row unsize_dyn []) _ refl)

      up : Into (equal_rows unsize_upcast [] q 1 (strict_supertraits W p)) (equal_rows unsize_upcast [] (Q q) 1 (strict_supertraits W (Q p)))
      up = subst (λ z. Into (equal_rows unsize_upcast [] q 1 (strict_supertraits W p)) (equal_rows unsize_upcast [] (Q q) 1 z)) (over-supers p) (into-equal unsize_upcast [] q 1 (strict_supertraits W p))

      by : (b : Bool) → Into (if b then (if same_reference p q then row unsize_dyn [] else []) else equal_rows unsize_upcast [] q 1 (strict_supertraits W p))
          (if b then (if same_reference (Q p) (Q q) then row unsize_dyn [] else []) else equal_rows unsize_upcast [] (Q q) 1 (strict_supertraits W (Q p)))
      by true = kept
      by false = up

  over-upcasts-autos : (ps qs bs : List Reference) → upcasts_autos W (map Q ps) (map Q qs) (map Q bs) ≡ upcasts_autos W ps qs bs
  over-upcasts-autos ps qs bs =
      all-over Q (λ (b : Reference). list_any (λ (q : Reference). q.trait == b.trait) (map Q qs ++ elaborated W (map Q ps))) (λ (b : Reference). list_any (λ (q : Reference). q.trait == b.trait) (qs ++ elaborated W ps))
      (λ b. ap (list_any (λ (q : Reference). q.trait == b.trait)) (append-same refl (sym (over-elaborated ps)) ∙ sym (map-append Q qs (elaborated W ps)))
      ∙ any-over Q (λ (q : Reference). q.trait == b.trait) (λ (q : Reference). q.trait == b.trait) (λ q. refl) (qs ++ elaborated W ps))
      bs

  into-upcast : (a : Trees) → Into (unsize_upcast_rules W a) (unsize_upcast_rules W (P a))
  into-upcast (tree dynamic a (tree dynamic b o)) =
      if-into (are_declared W p && upcasts_autos W p (autos_with self a) (autos_with self b)) (are_declared W p' && upcasts_autos W p' (autos_with self' a') (autos_with self' b'))
      (upcasts_principal W p (principal_with self b)) (upcasts_principal W p' (principal_with self' b'))
      (λ e. same-test ∙ e)
      (subst (λ z. Into (upcasts_principal W p (principal_with self b)) (upcasts_principal W p' z)) (over-principal self b)
      (subst (λ z. Into (upcasts_principal W p (principal_with self b)) (upcasts_principal W z (map Q (principal_with self b)))) (over-principal self a) (into-upcasts p (principal_with self b))))
    where
      self : Trees
      self = tree dynamic a none

      a' : Trees
      a' = put σ false a

      b' : Trees
      b' = put σ false b

      self' : Trees
      self' = tree dynamic a' none

      p : List Reference
      p = principal_with self a

      p' : List Reference
      p' = principal_with self' a'

      same-test : are_declared W p' && upcasts_autos W p' (autos_with self' a') (autos_with self' b') ≡ are_declared W p && upcasts_autos W p (autos_with self a) (autos_with self b)
      same-test =
          and-same (ap (are_declared W) (sym (over-principal self a)) ∙ over-are-declared p)
          (ap (λ z. upcasts_autos W z (autos_with self' a') (autos_with self' b')) (sym (over-principal self a))
          ∙ ap (λ z. upcasts_autos W (map Q p) z (autos_with self' b')) (sym (over-autos self a))
          ∙ ap (λ z. upcasts_autos W (map Q p) (map Q (autos_with self a)) z) (sym (over-autos self b))
          ∙ over-upcasts-autos p (autos_with self a) (autos_with self b))
  into-upcast (tree dynamic a none) = nothing _
  into-upcast (tree dynamic a (tree l c o)) = nothing _
  into-upcast none = nothing _
  into-upcast (tree l c o) = nothing _

  over-some-unsizing : (fs : List Trees) (k : ℕ) (t : Trees) → some_unsizing fs k (P t) ≡ some_unsizing fs k t
  over-some-unsizing fs k none = refl
  over-some-unsizing fs k (tree l c o) = ap (λ b. is_unsizing fs k || b) (over-some-unsizing fs (suc k) o)

  over-with-unsizing : (fs : List Trees) (k : ℕ) (a b : Trees) → P (with_unsizing fs k a b) ≡ with_unsizing fs k (P a) (P b)
  over-with-unsizing fs k none b = refl
  over-with-unsizing fs k (tree l c o) none = refl
  over-with-unsizing fs k (tree l c o) (tree m d p) = by (is_unsizing fs k) (over-with-unsizing fs (suc k) o p)
    where
      new : Label → Trees → Trees
      new x y = new_inner σ x true (put σ true y) (put σ false y)

      by : (x : Bool) → P (with_unsizing fs (suc k) o p) ≡ with_unsizing fs (suc k) (P o) (P p)
          → P (if x then tree m d (with_unsizing fs (suc k) o p) else tree l c (with_unsizing fs (suc k) o p))
          ≡ (if x then tree (new_label σ m true) (new_inner σ m true (put σ true d) (put σ false d)) (with_unsizing fs (suc k) (P o) (P p))
          else tree (new_label σ l true) (new_inner σ l true (put σ true c) (put σ false c)) (with_unsizing fs (suc k) (P o) (P p)))
      by true g = ap (λ z. tree (new_label σ m true) (new_inner σ m true (put σ true d) (put σ false d)) z) g
      by false g = ap (λ z. tree (new_label σ l true) (new_inner σ l true (put σ true c) (put σ false c)) z) g

  over-last-unsizes : (fs : List Trees) → ((f : Trees) → In f fs → Written f) → (a b : Trees) → map Q (last_unsizes fs a b) ≡ last_unsizes fs (P a) (P b)
  over-last-unsizes [] h a b = refl
  over-last-unsizes (f ∷ []) h a b =
      cons-same
      (reference-with unsize (over-append σ true (instantiate zero a f) (instantiate zero b f) ∙ two (over-instantiate σ a f (h f (here f []))) (over-instantiate σ b f (h f (here f []))))) refl
    where
      two : {x y z v : Trees} → x ≡ y → z ≡ v → x +++ z ≡ y +++ v
      two p q = cc
  over-last-unsizes (f ∷ g ∷ fs) h a b = over-last-unsizes (g ∷ fs) (λ x k. h x (there x f (g ∷ fs) k)) a b

  flat-each : (f g : StructDecl → List Rule) (xs : List StructDecl) → ((x : StructDecl) → In x xs → Into (f x) (g x)) → Into (flat_map f xs) (flat_map g xs)
  flat-each f g [] h = nothing []
  flat-each f g (x ∷ xs) h = both-into (f x) (flat_map f xs) (g x) (flat_map g xs) (h x (here x xs)) (flat-each f g xs (λ y k. h y (there y x xs k)))

  into-unsize-struct : (a : Trees) → Into (unsize_struct_rules W a) (unsize_struct_rules W (P a))
  into-unsize-struct (tree (adt s) a (tree (adt u) b o)) =
      if-into (s == u) (s == u) (flat_map f (structs_named W s)) (flat_map g (structs_named W s)) (λ e. e) (flat-each f g (structs_named W s) each)
    where
      f : StructDecl → List Rule
      f x = if some_unsizing x.fields 0 a && same (with_unsizing x.fields 0 a b) b then row unsize_struct (last_unsizes x.fields a b) else []

      g : StructDecl → List Rule
      g x = if some_unsizing x.fields 0 (P a) && same (with_unsizing x.fields 0 (P a) (P b)) (P b) then row unsize_struct (last_unsizes x.fields (P a) (P b)) else []

      each : (x : StructDecl) → In x (structs_named W s) → Into (f x) (g x)
      each x m =
          if-into (some_unsizing x.fields 0 a && same (with_unsizing x.fields 0 a b) b) (some_unsizing x.fields 0 (P a) && same (with_unsizing x.fields 0 (P a) (P b)) (P b))
          (row unsize_struct (last_unsizes x.fields a b)) (row unsize_struct (last_unsizes x.fields (P a) (P b)))
          (λ e. both (some_unsizing x.fields 0 (P a)) _ (over-some-unsizing x.fields 0 a ∙ left (some_unsizing x.fields 0 a) _ e)
          (subst (λ z. same z (P b) ≡ true) (over-with-unsizing x.fields 0 a b) (same-filled σ (with_unsizing x.fields 0 a b) b (right (some_unsizing x.fields 0 a) _ e))))
          (by-eq (row unsize_struct (last_unsizes x.fields a b)) _
          (ap (row unsize_struct) (over-last-unsizes x.fields (λ t k. w.fields x t (in-filter (λ (y : StructDecl). y.name == s) W.structs x m).0 k) a b)))
  into-unsize-struct (tree (adt s) a none) = nothing _
  into-unsize-struct (tree (adt s) a (tree l c o)) = nothing _
  into-unsize-struct none = nothing _
  into-unsize-struct (tree l c o) = nothing _

  into-unsize : (a : Trees) (u : Rule) → NoDynAsSized a u → In u (unsize_rules W a) → In (M u) (unsize_rules W (P a))
  unfolding Into
  into-unsize a u apart h = by (in-append u (unsize_array_rules a) (unsize_to_dyn_rules W a ++ (unsize_upcast_rules W a ++ unsize_struct_rules W a)) h)
    where
      rest : In u (unsize_to_dyn_rules W a) ⊎ In u (unsize_upcast_rules W a ++ unsize_struct_rules W a)
          → In (M u) (unsize_to_dyn_rules W (P a) ++ (unsize_upcast_rules W (P a) ++ unsize_struct_rules W (P a)))
      rest (inl k) = in-left (M u) (unsize_to_dyn_rules W (P a)) _ (into-unsize-to-dyn a u apart k)
      rest (inr k) =
          in-right (M u) (unsize_to_dyn_rules W (P a)) _
          (both-into (unsize_upcast_rules W a) (unsize_struct_rules W a) (unsize_upcast_rules W (P a)) (unsize_struct_rules W (P a)) (into-upcast a) (into-unsize-struct a) u k)

      by : In u (unsize_array_rules a) ⊎ In u (unsize_to_dyn_rules W a ++ (unsize_upcast_rules W a ++ unsize_struct_rules W a)) → In (M u) (unsize_rules W (P a))
      by (inl k) = in-left (M u) (unsize_array_rules (P a)) _ (into-unsize-array a u k)
      by (inr k) = in-right (M u) (unsize_array_rules (P a)) _ (rest (in-append u (unsize_to_dyn_rules W a) _ k))

  -- All of them
  pub into-built-in : (r : Reference) (u : Rule) → NoDynAsSized r.args u → In u (built_in_rules W r) → In (M u) (built_in_rules W (Q r))
  unfolding Into
  into-built-in r u apart h = by (in-append u (plain_rules r) _ h)
    where
      t : ℕ
      t = r.trait

      a : Trees
      a = r.args

      q1 : List Rule
      q1 = if t == sized then sized_rules W (P a) else []

      q2 : List Rule
      q2 = if is_auto W t then auto_rules W t (P a) else []

      q3 : List Rule
      q3 = if t == unsize then unsize_rules W (P a) else []

      unsized : (b : Bool) → In u (if b then unsize_rules W a else []) → In (M u) (if b then unsize_rules W (P a) else [])
      unsized true k = into-unsize a u apart k
      unsized false k = absurd (in-nothing u k)

      last : In u (if t == unsize then unsize_rules W a else []) ⊎ In u (object_rules W r a) → In (M u) (q3 ++ object_rules W (Q r) (P a))
      last (inl k) = in-left (M u) q3 _ (unsized (t == unsize) k)
      last (inr k) = in-right (M u) q3 _ (into-object r a u k)

      more : In u (if is_auto W t then auto_rules W t a else []) ⊎ In u ((if t == unsize then unsize_rules W a else []) ++ object_rules W r a) → In (M u) (q2 ++ (q3 ++ object_rules W (Q r) (P a)))
      more (inl k) = in-left (M u) q2 _ (if-into (is_auto W t) (is_auto W t) (auto_rules W t a) (auto_rules W t (P a)) (λ e. e) (into-auto t a) u k)
      more (inr k) = in-right (M u) q2 _ (last (in-append u (if t == unsize then unsize_rules W a else []) _ k))

      rest : In u (if t == sized then sized_rules W a else []) ⊎ In u ((if is_auto W t then auto_rules W t a else []) ++ ((if t == unsize then unsize_rules W a else []) ++ object_rules W r a))
          → In (M u) (q1 ++ (q2 ++ (q3 ++ object_rules W (Q r) (P a))))
      rest (inl k) = in-left (M u) q1 _ (if-into (t == sized) (t == sized) (sized_rules W a) (sized_rules W (P a)) (λ e. e) (into-sized a) u k)
      rest (inr k) = in-right (M u) q1 _ (more (in-append u (if is_auto W t then auto_rules W t a else []) _ k))

      by : In u (plain_rules r) ⊎ In u ((if t == sized then sized_rules W a else []) ++ ((if is_auto W t then auto_rules W t a else []) ++ ((if t == unsize then unsize_rules W a else []) ++ object_rules W r a)))
          → In (M u) (built_in_rules W (Q r))
      by (inl k) = in-left (M u) (plain_rules (Q r)) _ (into-plain r u k)
      by (inr k) = in-right (M u) (plain_rules (Q r)) _ (rest (in-append u (if t == sized then sized_rules W a else []) _ k))

  pub into-impls : (r : Reference) (u : Rule) → In u (flat_map (impl_rules r) W.impls) → In (M u) (flat_map (impl_rules (Q r)) W.impls)
  unfolding Into
  into-impls r u h =
      let m = in-flat (impl_rules r) W.impls u h in
      flat-in (impl_rules (Q r)) W.impls m.0 (M u) m.1 (into-impl r m.0 m.1 u m.2)

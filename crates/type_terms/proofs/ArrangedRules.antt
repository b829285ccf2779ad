-- Arranged auto traits: a trait reference has the same rule instances, with premises in any order.
use Rattle.std.proofs.Common.{◌≡◌, ℕ, zero, suc, Bool, true, false, List, [], ◌∷◌, ◌++◌, refl, ap, sym, ◌∙◌, ◌&&◌, ◌||◌, ◌==◌, not, if◌then◌else◌, subst, ◌⊎◌, inl, inr, map, filter, length}
use Rattle.std.specs.List.{list_any, flat_map}
use Rattle.type_terms.specs.Promised.Label.{Label, array, slice, tuple, dynamic, adt, fn_ptr, ref, raw_pointer, principal, auto_trait, param}
use Rattle.type_terms.specs.Codes.{same}
use Rattle.type_terms.specs.Promised.Trees.{Trees, none, tree, ◌+++◌, instantiate}
use Rattle.type_terms.specs.Trees.{arguments, fits}
use Rattle.type_terms.specs.Promised.Worlds.{World, Reference, StructDecl, TraitDecl, ImplDecl, structs_named, traits_named, with_args, all_with_args}
use Rattle.type_terms.specs.Promised.Rules.{Rule, BuiltIn, Way, by_impl, by_clause, by_super, built_in, row, rules, impl_rules, built_in_rules, clause_rules, super_rules, plain_rules, sized_rules, copy_rules, tuple_rules, fn_ptr_rules, call_rules, but_last, auto_rules, auto_rules_plain, is_written, same_head, unsize_rules, unsize_array_rules, unsize_to_dyn_rules, unsize_upcast_rules, unsize_struct_rules, upcasts_principal, upcasts_autos, is_parameter, is_unsizing, some_unsizing, with_unsizing, last_unsizes, object_rules, object_bound_rules, principal_with, autos_with, equal_rows, elaborated, are_declared, are_dyn_compatible, is_declared, is_auto, is_coinductive, is_fn_trait, is_dyn, same_reference, asked, each_asked, last_asked, together, fields_of, written_supertraits, strict_supertraits, strict_supertraits_within, sized, clone, copy, tuple_trait, fn_ptr_trait, unsize, sized_tuple, sized_struct, copy_tuple, auto_tuple, auto_struct, fn_ptr_call, object_auto, object_principal, unsize_array, unsize_to_dyn, unsize_dyn, unsize_upcast, unsize_struct}
use Rattle.type_terms.specs.Promised.Proofs.{In}
use Rattle.type_terms.specs.Promised.Supers.{dyns_of_bounds}
use Rattle.type_terms.specs.Promised.LinkedSet.{AllWritten}
use Rattle.type_terms.specs.Promised.Renumbering.{SameMembers}
use Rattle.type_terms.specs.Promised.Arranging.{Arrangement, autos_in, with_autos, children_in_order, arranged, arranged_reference, arranged_struct, arranged_trait, arranged_impl, arranged_world}
use Rattle.type_terms.specs.Arranging.{IsArrangedRule}
use Rattle.type_terms.proofs.Members.{here, there, in-cases, in-nothing, in-append, in-left, in-right, in-flat, flat-in, in-map, in-filter, some-member, member-some}
use Rattle.type_terms.proofs.Walking.{left, right, both}
use Rattle.type_terms.proofs.ProofEntries.{map-in}
use Rattle.type_terms.proofs.NoHolds.{member-each, each-member}
use Rattle.type_terms.proofs.RenumberedTrees.{and-same}
use Rattle.type_terms.proofs.RenumberedRules.{map-append, append-same, cons-same, any-over, all-over, if-over}
use Rattle.type_terms.proofs.Fitting.{ByImpl, impl-rule}
use Rattle.type_terms.proofs.Applies.{fits-complete, same-reference-complete}
use Rattle.type_terms.proofs.ArrangedTrees.{reference-at, autos-now, over-append, over-instantiate, over-arguments, over-fits, over-some, over-same, over-same-reference}

-- No bound of a `dyn` in the world's declarations is a parameter
abbrev pub BoundWorld : World → Type 0
BoundWorld W = AllWritten (λ t. dyns_of_bounds t ≡ true) W

flat-into : {A B C D : Type 0} (m : B → C) (n : A → D) (f : A → List B) (g : D → List C) (xs : List A) → ((x : A) → In x xs → map m (f x) ≡ g (n x)) → map m (flat_map f xs) ≡ flat_map g (map n xs)
flat-into m n f g [] h = refl
flat-into m n f g (x ∷ xs) h = map-append m (f x) (flat_map f xs) ∙ append-same (h x (here x xs)) (flat-into m n f g xs (λ y k. h y (there y x xs k)))

map-into : {A B C : Type 0} (m : A → B) (f : C → A) (g : C → B) (xs : List C) → ((x : C) → In x xs → m (f x) ≡ g x) → map m (map f xs) ≡ map g xs
map-into m f g [] h = refl
map-into m f g (x ∷ xs) h = cons-same (h x (here x xs)) (map-into m f g xs (λ y k. h y (there y x xs k)))

map-twice : {A B C : Type 0} (f : A → B) (g : B → C) (xs : List A) → map (λ x. g (f x)) xs ≡ map g (map f xs)
map-twice f g [] = refl
map-twice f g (x ∷ xs) = cons-same refl (map-twice f g xs)

pub filter-map : {A B : Type 0} (p : B → Bool) (f : A → B) (xs : List A) → filter p (map f xs) ≡ map f (filter (λ x. p (f x)) xs)
filter-map p f [] = refl
filter-map {A = A} {B = B} p f (x ∷ xs) = by (p (f x)) (filter-map p f xs)
  where
    by : (b : Bool) → filter p (map f xs) ≡ map f (filter (λ x. p (f x)) xs)
        → (if b then f x ∷ filter p (map f xs) else filter p (map f xs)) ≡ map f (if b then x ∷ filter (λ x. p (f x)) xs else filter (λ x. p (f x)) xs)
    by true e = ap (λ z. f x ∷ z) e
    by false e = e

module _ (α : Arrangement) (V : World) (w : BoundWorld V) where
  abbrev U : World
  U = arranged_world α V

  abbrev P : Trees → Trees
  P t = arranged α t

  abbrev Q : Reference → Reference
  Q r = arranged_reference α r

  abbrev M : Rule → Rule
  M u = record { way = u.way; premises = map Q u.premises }

  pub structs-there : (s : ℕ) → structs_named U s ≡ map (arranged_struct α) (structs_named V s)
  structs-there s = filter-map (λ (x : StructDecl). x.name == s) (arranged_struct α) V.structs

  pub traits-there : (t : ℕ) → traits_named U t ≡ map (arranged_trait α) (traits_named V t)
  traits-there t = filter-map (λ (x : TraitDecl). x.name == t) (arranged_trait α) V.traits

  as-many-traits : length U.traits ≡ length V.traits
  as-many-traits = by V.traits
    where
      by : (xs : List TraitDecl) → length (map (arranged_trait α) xs) ≡ length xs
      by [] = refl
      by (x ∷ xs) = ap suc (by xs)

  pub auto-same : (t : ℕ) → is_auto U t ≡ is_auto V t
  auto-same t = ap (list_any (λ (x : TraitDecl). x.is_auto)) (traits-there t) ∙ any-over (arranged_trait α) (λ (x : TraitDecl). x.is_auto) (λ (x : TraitDecl). x.is_auto) (λ x. refl) (traits_named V t)

  declared-same : (t : ℕ) → is_declared U t ≡ is_declared V t
  declared-same t = ap (list_any (λ (x : TraitDecl). true)) (traits-there t) ∙ any-over (arranged_trait α) (λ (x : TraitDecl). true) (λ (x : TraitDecl). true) (λ x. refl) (traits_named V t)

  written-same : (t : ℕ) (l : Label) → is_written U t l ≡ is_written V t l
  written-same t l = any-over (arranged_impl α) (λ (i : ImplDecl). (i.header.trait == t) && same_head l i.header.args) (λ (i : ImplDecl). (i.header.trait == t) && same_head l i.header.args) (λ i. and-same refl (head-same i.header.args)) V.impls
    where
      head-same : (x : Trees) → same_head l (P x) ≡ same_head l x
      head-same none = refl
      head-same (tree (param s i) c o) = refl
      head-same (tree m c o) = refl

  -- each rule of the one list is, in the other order, one of the other
  Into : List Rule → List Rule → Type 0
  Into us vs = (u : Rule) → In u us → (v : Rule) × In v vs × IsArrangedRule α u v

  by-eq : (us vs : List Rule) → map M us ≡ vs → Into us vs
  unfolding Into
  by-eq us vs e u h = (M u, subst (In (M u)) e (in-map M us u h), record { same_way = refl; same_premises = (λ x g. g, λ x g. g) })

  nothing : (vs : List Rule) → Into [] vs
  unfolding Into
  nothing vs u h = absurd (in-nothing u h)

  if-into : (b c : Bool) (us vs : List Rule) → (b ≡ true → c ≡ true) → Into us vs → Into (if b then us else []) (if c then vs else [])
  unfolding Into
  if-into true true us vs e h u g = h u g
  if-into true false us vs e h u g = let z = e refl in cc
  if-into false c us vs e h u g = absurd (in-nothing u g)

  both-into : (us us' vs vs' : List Rule) → Into us vs → Into us' vs' → Into (us ++ us') (vs ++ vs')
  unfolding Into
  both-into us us' vs vs' f g u h = by (in-append u us us' h)
    where
      by : In u us ⊎ In u us' → (v : Rule) × In v (vs ++ vs') × IsArrangedRule α u v
      by (inl k) = let m = f u k in (m.0, in-left m.0 vs vs' m.1, m.2)
      by (inr k) = let m = g u k in (m.0, in-right m.0 vs vs' m.1, m.2)

  -- Impls
  pub with-there : (B : Trees) (ks : List Reference) → ((k : Reference) → In k ks → dyns_of_bounds k.args ≡ true) → map Q (all_with_args B ks) ≡ all_with_args (P B) (map Q ks)
  with-there B ks h = map-into Q (with_args B) (λ k. with_args (P B) (Q k)) ks (λ k g. reference-at k.trait (over-instantiate α 0 B k.args (h k g))) ∙ map-twice Q (with_args (P B)) ks

  there-if : (b : Bool) (u v : Rule) → u ≡ v → b ≡ true → In u (if b then v ∷ [] else [])
  there-if true u v q e = subst (λ z. In z (v ∷ [])) (sym q) (here v [])
  there-if false u v q e = cc

  into-impl : (r : Reference) (i : ImplDecl) → In i V.impls → (u : Rule) → In u (impl_rules r i) → In (M u) (impl_rules (Q r) (arranged_impl α i))
  into-impl r i m u h =
      there-if (fits B' (P i.header.args) && same_reference (with_args B' (Q i.header)) (Q r)) (M u) (record { way = by_impl i.name; premises = all_with_args B' (map Q i.clauses) })
      (sym (ap M b.is-rule) ∙ ap (λ z. (let v : Rule = record { way = by_impl i.name; premises = z } in v)) (with-there B i.clauses (λ k g. w.clauses i k m g) ∙ ap (λ z. all_with_args z (map Q i.clauses)) B-is))
      (both (fits B' (P i.header.args)) _ (ap (λ z. fits z (P i.header.args)) (sym B-is) ∙ over-fits α B i.header.args ∙ fits-complete B i.header.args b.fitting)
      (same-reference-complete (with_args B' (Q i.header)) (Q r) (ap (λ z. with_args z (Q i.header)) (sym B-is) ∙ sym (reference-at i.header.trait (over-instantiate α 0 B i.header.args (w.headers i m))) ∙ ap Q b.is-instance)))
    where
      B : Trees
      B = arguments i.params i.header.args r.args

      B' : Trees
      B' = arguments i.params (P i.header.args) (P r.args)

      b : ByImpl r i u
      b = impl-rule r i u h

      args-is : instantiate zero B i.header.args ≡ r.args
      args-is = ap (λ (x : Reference). x.args) b.is-instance

      B-is : P B ≡ B'
      B-is =
          subst (λ z. P (arguments i.params i.header.args z) ≡ arguments i.params (P i.header.args) (P z)) args-is
          (over-arguments α i.params B i.header.args (w.headers i m))

  -- Premises
  over-each : (t : ℕ) (xs : Trees) → map Q (each_asked t xs) ≡ each_asked t (P xs)
  over-each t none = refl
  over-each t (tree l c o) = cons-same refl (over-each t o)

  over-last : (t : ℕ) (xs : Trees) → map Q (last_asked t xs) ≡ last_asked t (P xs)
  over-last t none = refl
  over-last t (tree l c none) = refl
  over-last t (tree l c (tree m d o)) = over-last t (tree m d o)

  over-together : (ts : List Trees) → P (together ts) ≡ together (map P ts)
  over-together [] = refl
  over-together (t ∷ ts) = over-append α t (together ts) ∙ ap (λ z. P t +++ z) (over-together ts)

  over-fields : (x : StructDecl) → In x V.structs → (args : Trees) → P (fields_of x args) ≡ fields_of (arranged_struct α x) (P args)
  over-fields x m args =
      over-together (map (instantiate zero args) x.fields)
      ∙ ap together (map-into P (instantiate zero args) (λ t. instantiate zero (P args) (P t)) x.fields (λ t g. over-instantiate α 0 args t (w.fields x t m g)) ∙ map-twice P (instantiate zero (P args)) x.fields)

  over-structs : (s : ℕ) (f g : StructDecl → List Rule) → ((x : StructDecl) → In x V.structs → map M (f x) ≡ g (arranged_struct α x)) → map M (flat_map f (structs_named V s)) ≡ flat_map g (structs_named U s)
  over-structs s f g h = flat-into M (arranged_struct α) f g (structs_named V s) (λ x k. h x (in-filter (λ (y : StructDecl). y.name == s) V.structs x k).0) ∙ ap (flat_map g) (sym (structs-there s))

  -- Rows that read Self
  over-sized : (x : Trees) → map M (sized_rules V x) ≡ sized_rules U (P x)
  over-sized none = refl
  over-sized (tree tuple c o) = ap (row sized_tuple) (over-last sized c)
  over-sized (tree (adt s) c o) =
      over-structs s (λ x. row sized_struct (last_asked sized (fields_of x c))) (λ x. row sized_struct (last_asked sized (fields_of x (P c))))
      (λ x m. ap (row sized_struct) (over-last sized (fields_of x c) ∙ ap (last_asked sized) (over-fields x m c)))
  over-sized (tree l c o) = refl

  over-copy : (t : ℕ) (x : Trees) → map M (copy_rules t x) ≡ copy_rules t (P x)
  over-copy t none = refl
  over-copy t (tree tuple c o) = ap (row copy_tuple) (over-each t c)
  over-copy t (tree l c o) = refl

  over-auto-plain : (t : ℕ) (x : Trees) → map M (auto_rules_plain V t x) ≡ auto_rules_plain U t (P x)
  over-auto-plain t none = refl
  over-auto-plain t (tree tuple c o) = ap (row auto_tuple) (over-each t c)
  over-auto-plain t (tree (adt s) c o) =
      over-structs s (λ x. row auto_struct (each_asked t (fields_of x c))) (λ x. row auto_struct (each_asked t (fields_of x (P c))))
      (λ x m. ap (row auto_struct) (over-each t (fields_of x c) ∙ ap (each_asked t) (over-fields x m c)))
  over-auto-plain t (tree (raw_pointer _) none p) = refl
  over-auto-plain t (tree (raw_pointer _) (tree l k o) p) = refl
  over-auto-plain t (tree array none p) = refl
  over-auto-plain t (tree array (tree l k o) p) = refl
  over-auto-plain t (tree slice none p) = refl
  over-auto-plain t (tree slice (tree l k o) p) = refl
  over-auto-plain t (tree (ref _) none p) = refl
  over-auto-plain t (tree (ref _) (tree r rc none) p) = refl
  over-auto-plain t (tree (ref _) (tree r rc (tree l k o)) p) = refl
  over-auto-plain t (tree l c o) = refl

  unless-over : (b c : Bool) (us vs : List Rule) → c ≡ b → map M us ≡ vs → map M (if b then [] else us) ≡ (if c then [] else vs)
  unless-over true true us vs e h = refl
  unless-over true false us vs e h = cc
  unless-over false true us vs e h = cc
  unless-over false false us vs e h = h

  over-auto : (t : ℕ) (x : Trees) → map M (auto_rules V t x) ≡ auto_rules U t (P x)
  over-auto t none = refl
  over-auto t (tree l c o) = unless-over (is_written V t l) (is_written U t l) (auto_rules_plain V t (tree l c o)) (auto_rules_plain U t (P (tree l c o))) (written-same t l) (over-auto-plain t (tree l c o))

  over-tuple : (x : Trees) → map M (tuple_rules x) ≡ tuple_rules (P x)
  over-tuple none = refl
  over-tuple (tree tuple c o) = refl
  over-tuple (tree l c o) = refl

  over-fn-ptr : (x : Trees) → map M (fn_ptr_rules x) ≡ fn_ptr_rules (P x)
  over-fn-ptr none = refl
  over-fn-ptr (tree (fn_ptr n) c o) = refl
  over-fn-ptr (tree l c o) = refl

  over-but-last : (t : Trees) → P (but_last t) ≡ but_last (P t)
  over-but-last none = refl
  over-but-last (tree l c none) = refl
  over-but-last (tree l c (tree m d o)) = ap (λ z. tree l (children_in_order α l c (P c)) z) (over-but-last (tree m d o))

  over-call : (x : Trees) → map M (call_rules x) ≡ call_rules (P x)
  over-call (tree (fn_ptr n) types (tree tuple inputs o)) =
      if-over M (same (but_last types) inputs) (same (but_last (P types)) (P inputs)) (row fn_ptr_call (last_asked sized types)) (row fn_ptr_call (last_asked sized (P types)))
      (ap (λ z. same z (P inputs)) (sym (over-but-last types)) ∙ over-same α (but_last types) inputs) (ap (row fn_ptr_call) (over-last sized types))
  over-call (tree (fn_ptr n) types none) = refl
  over-call (tree (fn_ptr n) types (tree l c o)) = refl
  over-call none = refl
  over-call (tree l c o) = refl

  over-plain : (r : Reference) → map M (plain_rules r) ≡ plain_rules (Q r)
  over-plain r =
      map-append M p1 (p2 ++ (p3 ++ p4))
      ∙ append-same (if-over M ((t == copy) || (t == clone)) ((t == copy) || (t == clone)) (copy_rules t x) (copy_rules t (P x)) refl (over-copy t x))
      (map-append M p2 (p3 ++ p4)
      ∙ append-same (if-over M (t == tuple_trait) (t == tuple_trait) (tuple_rules x) (tuple_rules (P x)) refl (over-tuple x))
      (map-append M p3 p4
      ∙ append-same (if-over M (t == fn_ptr_trait) (t == fn_ptr_trait) (fn_ptr_rules x) (fn_ptr_rules (P x)) refl (over-fn-ptr x))
      (if-over M (is_fn_trait t) (is_fn_trait t) (call_rules x) (call_rules (P x)) refl (over-call x))))
    where
      t : ℕ
      t = r.trait

      x : Trees
      x = r.args

      p1 : List Rule
      p1 = if (t == copy) || (t == clone) then copy_rules t x else []

      p2 : List Rule
      p2 = if t == tuple_trait then tuple_rules x else []

      p3 : List Rule
      p3 = if t == fn_ptr_trait then fn_ptr_rules x else []

      p4 : List Rule
      p4 = if is_fn_trait t then call_rules x else []

  -- Supertraits
  over-written-supers : (r : Reference) → map Q (written_supertraits V r) ≡ written_supertraits U (Q r)
  over-written-supers r =
      flat-into Q (arranged_trait α) (λ t. all_with_args r.args t.bounds) (λ t. all_with_args (P r.args) t.bounds) (traits_named V r.trait)
      (λ x m. with-there r.args x.bounds (λ b g. w.bounds x b (in-filter (λ (y : TraitDecl). y.name == r.trait) V.traits x m).0 g))
      ∙ ap (flat_map (λ (t : TraitDecl). all_with_args (P r.args) t.bounds)) (sym (traits-there r.trait))

  over-within : (n : ℕ) (r : Reference) → map Q (strict_supertraits_within n V r) ≡ strict_supertraits_within n U (Q r)
  over-within zero r = refl
  over-within (suc n) r =
      flat-into Q Q (λ s. s ∷ strict_supertraits_within n V s) (λ s. s ∷ strict_supertraits_within n U s) (written_supertraits V r) (λ s m. cons-same refl (over-within n s))
      ∙ ap (flat_map (λ s. s ∷ strict_supertraits_within n U s)) (over-written-supers r)

  pub over-supers : (r : Reference) → map Q (strict_supertraits V r) ≡ strict_supertraits U (Q r)
  over-supers r = over-within (length V.traits) r ∙ ap (λ n. strict_supertraits_within n U (Q r)) (sym as-many-traits)

  over-elaborated : (rs : List Reference) → map Q (elaborated V rs) ≡ elaborated U (map Q rs)
  over-elaborated rs = flat-into Q Q (λ r. r ∷ strict_supertraits V r) (λ r. r ∷ strict_supertraits U r) rs (λ r m. cons-same refl (over-supers r))

  over-are-declared : (rs : List Reference) → are_declared U (map Q rs) ≡ are_declared V rs
  over-are-declared rs = all-over Q (λ (r : Reference). is_declared U r.trait) (λ (r : Reference). is_declared V r.trait) (λ r. declared-same r.trait) rs

  over-compatible : (ps : List Reference) → are_dyn_compatible U (map Q ps) ≡ are_dyn_compatible V ps
  over-compatible ps =
      and-same (over-are-declared ps)
      (ap (λ z. not (list_any (λ (s : Reference). s.trait == sized) z)) (sym (over-elaborated ps))
      ∙ ap not (any-over Q (λ (s : Reference). s.trait == sized) (λ (s : Reference). s.trait == sized) (λ s. refl) (elaborated V ps)))

  over-equal : (b : ℕ → BuiltIn) (ps : List Reference) (r : Reference) (k : ℕ) (ss : List Reference) → map M (equal_rows b ps r k ss) ≡ equal_rows b (map Q ps) (Q r) k (map Q ss)
  over-equal b ps r k [] = refl
  over-equal b ps r k (s ∷ ss) =
      map-append M (if same_reference r s then row (b k) ps else []) (equal_rows b ps r (suc k) ss)
      ∙ append-same (if-over M (same_reference r s) (same_reference (Q r) (Q s)) (row (b k) ps) (row (b k) (map Q ps)) (over-same-reference α r s) refl) (over-equal b ps r (suc k) ss)

  -- Rows of `dyn`
  principal-stays : (self : Trees) (ns : List ℕ) (b : Trees) → principal_with self (with_autos ns b) ≡ principal_with self b
  principal-stays self ns none = refl
  principal-stays self [] (tree (auto_trait t) c o) = refl
  principal-stays self (n ∷ ns) (tree (auto_trait t) c o) = refl
  principal-stays self ns (tree (principal k t) c o) = refl
  principal-stays self ns (tree l c o) = refl

  abbrev bounds-now : Trees → Trees
  bounds-now b = with_autos (α.to (autos_in b)) (P b)

  over-principal : (self b : Trees) → map Q (principal_with self b) ≡ principal_with (P self) (bounds-now b)
  over-principal self b = at b ∙ sym (principal-stays (P self) (α.to (autos_in b)) (P b))
    where
      at : (b : Trees) → map Q (principal_with self b) ≡ principal_with (P self) (P b)
      at none = refl
      at (tree (principal n t) c o) = ap (λ z. (let x : Reference = record { trait = t; args = z } in x) ∷ []) (over-append α self c)
      at (tree l c o) = refl

  -- the auto traits of a `dyn`, each with the Self
  asked-autos : (self b : Trees) → autos_with self b ≡ map (λ t. asked t self) (autos_in b)
  asked-autos self none = refl
  asked-autos self (tree (auto_trait t) c o) = cons-same refl (asked-autos self o)
  asked-autos self (tree l c o) = asked-autos self o

  autos-are : (self b : Trees) → autos_with (P self) (bounds-now b) ≡ map (λ t. asked t (P self)) (α.to (autos_in b))
  autos-are self b = asked-autos (P self) (with_autos (α.to (autos_in b)) (P b)) ∙ ap (map (λ t. asked t (P self))) (autos-now α b)

  old-autos : (self b : Trees) → map Q (autos_with self b) ≡ map (λ t. asked t (P self)) (autos_in b)
  old-autos self b = ap (map Q) (asked-autos self b) ∙ sym (map-twice (λ t. asked t self) Q (autos_in b))

  -- the same ones, in another order
  same-autos : (self b : Trees) → SameMembers (map Q (autos_with self b)) (autos_with (P self) (bounds-now b))
  same-autos self b = (
    λ x g. subst (In x) (sym (autos-are self b)) (move (autos_in b) (α.to (autos_in b)) (α.same_traits (autos_in b)).0 x (subst (In x) (old-autos self b) g)),
    λ x g. subst (In x) (sym (old-autos self b)) (move (α.to (autos_in b)) (autos_in b) (α.same_traits (autos_in b)).1 x (subst (In x) (autos-are self b) g)),
  )
    where
      move : (ns ms : List ℕ) → ((n : ℕ) → In n ns → In n ms) → (x : Reference) → In x (map (λ t. asked t (P self)) ns) → In x (map (λ t. asked t (P self)) ms)
      move ns ms f x g =
          let m = map-in (λ t. asked t (P self)) ns x g in
          subst (λ (y : Reference). In y (map (λ t. asked t (P self)) ms)) m.2 (in-map (λ t. asked t (P self)) ms m.0 (f m.0 m.1))

  any-there : (r : Reference) (qs qs' : List Reference) → ((x : Reference) → In x (map Q qs) → In x qs') → list_any (same_reference r) qs ≡ true → list_any (same_reference (Q r)) qs' ≡ true
  any-there r qs qs' f h =
      let m = some-member (same_reference r) qs h in
      member-some (same_reference (Q r)) qs' (Q m.0) (f (Q m.0) (in-map Q qs m.0 m.1)) (over-same-reference α r m.0 ∙ m.2)

  into-object-bounds : (r : Reference) (ps qs qs' : List Reference) → ((x : Reference) → In x (map Q qs) → In x qs') → Into (object_bound_rules V r ps qs) (object_bound_rules U (Q r) (map Q ps) qs')
  into-object-bounds r ps qs qs' f =
      if-into (is_declared V r.trait && are_dyn_compatible V ps) (is_declared U r.trait && are_dyn_compatible U (map Q ps)) (autos ++ principals) (autos' ++ principals')
      (λ e. and-same (declared-same r.trait) (over-compatible ps) ∙ e)
      (both-into autos principals autos' principals'
      (if-into (not (r.trait == sized) && list_any (same_reference r) qs) (not (r.trait == sized) && list_any (same_reference (Q r)) qs') (row object_auto (strict_supertraits V r)) (row object_auto (strict_supertraits U (Q r)))
      (λ e. both (not (r.trait == sized)) _ (left (not (r.trait == sized)) _ e) (any-there r qs qs' f (right (not (r.trait == sized)) _ e)))
      (by-eq (row object_auto (strict_supertraits V r)) (row object_auto (strict_supertraits U (Q r))) (ap (row object_auto) (over-supers r))))
      (by-eq principals principals'
      (if-over M (not (r.trait == sized)) (not (r.trait == sized)) (equal_rows object_principal (strict_supertraits V r) r 0 (elaborated V ps)) (equal_rows object_principal (strict_supertraits U (Q r)) (Q r) 0 (elaborated U (map Q ps))) refl
      (over-equal object_principal (strict_supertraits V r) r 0 (elaborated V ps)
      ∙ ap (λ z. equal_rows object_principal z (Q r) 0 (map Q (elaborated V ps))) (over-supers r)
      ∙ ap (λ z. equal_rows object_principal (strict_supertraits U (Q r)) (Q r) 0 z) (over-elaborated ps)))))
    where
      autos : List Rule
      autos = if not (r.trait == sized) && list_any (same_reference r) qs then row object_auto (strict_supertraits V r) else []

      autos' : List Rule
      autos' = if not (r.trait == sized) && list_any (same_reference (Q r)) qs' then row object_auto (strict_supertraits U (Q r)) else []

      principals : List Rule
      principals = if not (r.trait == sized) then equal_rows object_principal (strict_supertraits V r) r 0 (elaborated V ps) else []

      principals' : List Rule
      principals' = if not (r.trait == sized) then equal_rows object_principal (strict_supertraits U (Q r)) (Q r) 0 (elaborated U (map Q ps)) else []

  into-object : (r : Reference) (x : Trees) → Into (object_rules V r x) (object_rules U (Q r) (P x))
  into-object r none = nothing []
  into-object r (tree dynamic b o) =
      subst (λ z. Into (object_rules V r (tree dynamic b o)) (object_bound_rules U (Q r) z (autos_with (P (tree dynamic b none)) (bounds-now b)))) (over-principal (tree dynamic b none) b)
      (into-object-bounds r (principal_with (tree dynamic b none) b) (autos_with (tree dynamic b none) b) (autos_with (P (tree dynamic b none)) (bounds-now b)) (same-autos (tree dynamic b none) b).0)
  into-object r (tree l c o) = nothing _

  -- Rows of `Unsize`
  over-unsize-array : (x : Trees) → map M (unsize_array_rules x) ≡ unsize_array_rules (P x)
  over-unsize-array (tree array (tree l c n) (tree slice (tree m d p) o)) =
      if-over M (same (tree l c none) (tree m d none)) (same (P (tree l c none)) (P (tree m d none))) (row unsize_array []) (row unsize_array []) (over-same α (tree l c none) (tree m d none)) refl
  over-unsize-array (tree array (tree l c n) (tree slice none o)) = refl
  over-unsize-array (tree array (tree l c n) (tree m d o)) = refl
  over-unsize-array (tree array (tree l c n) none) = refl
  over-unsize-array (tree array none o) = refl
  over-unsize-array none = refl
  over-unsize-array (tree l c o) = refl

  -- one rule, whose premises stand in another order
  one-into : (k : Way) (ps qs : List Reference) → SameMembers (map Q ps) qs → Into (record { way = k; premises = ps } ∷ []) (record { way = k; premises = qs } ∷ [])
  unfolding Into
  one-into k ps qs h u g = by (in-cases u (record { way = k; premises = ps }) [] g)
    where
      by : (record { way = k; premises = ps } ≡ u) ⊎ In u [] → (v : Rule) × In v (record { way = k; premises = qs } ∷ []) × IsArrangedRule α u v
      by (inl e) = (
        record { way = k; premises = qs },
        here (record { way = k; premises = qs }) [],
        subst (λ (x : Rule). IsArrangedRule α x (record { way = k; premises = qs })) e (record { same_way = refl; same_premises = h }),
      )
      by (inr e) = absurd (in-nothing u e)

  same-append : (xs xs' ys ys' : List Reference) → SameMembers xs xs' → SameMembers ys ys' → SameMembers (xs ++ ys) (xs' ++ ys')
  same-append xs xs' ys ys' f g = (λ x h. one xs ys xs' ys' f.0 g.0 x (in-append x xs ys h), λ x h. one xs' ys' xs ys f.1 g.1 x (in-append x xs' ys' h))
    where
      one : (ws bs cs ds : List Reference) → ((x : Reference) → In x ws → In x cs) → ((x : Reference) → In x bs → In x ds) → (x : Reference) → In x ws ⊎ In x bs → In x (cs ++ ds)
      one ws bs cs ds p q x (inl h) = in-left x cs ds (p x h)
      one ws bs cs ds p q x (inr h) = in-right x cs ds (q x h)

  same-if : (xs ys : List Reference) → xs ≡ ys → SameMembers xs ys
  same-if xs ys e = (λ x h. subst (In x) e h, λ x h. subst (In x) (sym e) h)

  into-unsize-to-dyn : (x : Trees) → Into (unsize_to_dyn_rules V x) (unsize_to_dyn_rules U (P x))
  into-unsize-to-dyn (tree l c (tree dynamic b o)) =
      if-into (not (is_dyn l) && are_dyn_compatible V ps) (not (is_dyn l) && are_dyn_compatible U ps') (row unsize_to_dyn wanted) (row unsize_to_dyn wanted')
      (λ e. and-same refl (ap (are_dyn_compatible U) (sym (over-principal self b)) ∙ over-compatible ps) ∙ e)
      (one-into (built_in unsize_to_dyn) wanted wanted'
      (subst (λ z. SameMembers z wanted') (sym (map-append Q ps (autos_with self b ++ asked sized self ∷ [])))
      (same-append (map Q ps) ps' _ _ (same-if (map Q ps) ps' (over-principal self b))
      (subst (λ z. SameMembers z (autos_with (P self) (bounds-now b) ++ asked sized (P self) ∷ [])) (sym (map-append Q (autos_with self b) (asked sized self ∷ [])))
      (same-append (map Q (autos_with self b)) (autos_with (P self) (bounds-now b)) _ _ (same-autos self b) (same-if (asked sized (P self) ∷ []) (asked sized (P self) ∷ []) refl))))))
    where
      self : Trees
      self = tree l c none

      ps : List Reference
      ps = principal_with self b

      ps' : List Reference
      ps' = principal_with (P self) (bounds-now b)

      wanted : List Reference
      wanted = ps ++ (autos_with self b ++ asked sized self ∷ [])

      wanted' : List Reference
      wanted' = ps' ++ (autos_with (P self) (bounds-now b) ++ asked sized (P self) ∷ [])
  into-unsize-to-dyn (tree l c none) = nothing _
  into-unsize-to-dyn (tree l c (tree m d o)) = nothing _
  into-unsize-to-dyn none = nothing _

  over-upcasts : (ps qs : List Reference) → map M (upcasts_principal V ps qs) ≡ upcasts_principal U (map Q ps) (map Q qs)
  over-upcasts ps [] = refl
  over-upcasts [] (q ∷ qs) = refl
  over-upcasts (p ∷ ps) (q ∷ qs) = by (p.trait == q.trait)
    where
      kept : map M (if same_reference p q then row unsize_dyn [] else []) ≡ (if same_reference (Q p) (Q q) then row unsize_dyn [] else [])
      kept = if-over M (same_reference p q) (same_reference (Q p) (Q q)) (row unsize_dyn []) (row unsize_dyn []) (over-same-reference α p q) refl

      up : map M (equal_rows unsize_upcast [] q 1 (strict_supertraits V p)) ≡ equal_rows unsize_upcast [] (Q q) 1 (strict_supertraits U (Q p))
      up = over-equal unsize_upcast [] q 1 (strict_supertraits V p) ∙ ap (equal_rows unsize_upcast [] (Q q) 1) (over-supers p)

      by : (b : Bool) → map M (if b then (if same_reference p q then row unsize_dyn [] else []) else equal_rows unsize_upcast [] q 1 (strict_supertraits V p))
          ≡ (if b then (if same_reference (Q p) (Q q) then row unsize_dyn [] else []) else equal_rows unsize_upcast [] (Q q) 1 (strict_supertraits U (Q p)))
      by true = kept
      by false = up

  upcasts-there : (ps qs qs' bs bs' : List Reference) → ((x : Reference) → In x (map Q qs) → In x qs') → ((x : Reference) → In x bs' → In x (map Q bs))
      → upcasts_autos V ps qs bs ≡ true → upcasts_autos U (map Q ps) qs' bs' ≡ true
  upcasts-there ps qs qs' bs bs' f g h = each-member (λ (b : Reference). list_any (λ (q : Reference). q.trait == b.trait) (qs' ++ elaborated U (map Q ps))) bs' each
    where
      each : (b : Reference) → In b bs' → list_any (λ (q : Reference). q.trait == b.trait) (qs' ++ elaborated U (map Q ps)) ≡ true
      each b k =
          let m = map-in Q bs b (g b k) in
          let s = some-member (λ (q : Reference). q.trait == m.0.trait) (qs ++ elaborated V ps) (member-each (λ (c : Reference). list_any (λ (q : Reference). q.trait == c.trait) (qs ++ elaborated V ps)) bs m.0 h m.1) in
          member-some (λ (q : Reference). q.trait == b.trait) (qs' ++ elaborated U (map Q ps)) (Q s.0) (stands s.0 (in-append s.0 qs (elaborated V ps) s.1)) (ap (λ (c : Reference). s.0.trait == c.trait) (sym m.2) ∙ s.2)
        where
          stands : (s : Reference) → In s qs ⊎ In s (elaborated V ps) → In (Q s) (qs' ++ elaborated U (map Q ps))
          stands s (inl i) = in-left (Q s) qs' (elaborated U (map Q ps)) (f (Q s) (in-map Q qs s i))
          stands s (inr i) = in-right (Q s) qs' (elaborated U (map Q ps)) (subst (In (Q s)) (over-elaborated ps) (in-map Q (elaborated V ps) s i))

  into-upcast : (x : Trees) → Into (unsize_upcast_rules V x) (unsize_upcast_rules U (P x))
  into-upcast (tree dynamic x (tree dynamic b o)) =
      if-into (are_declared V p && upcasts_autos V p (autos_with self x) (autos_with self b)) (are_declared U p' && upcasts_autos U p' (autos_with self' x') (autos_with self' b'))
      (upcasts_principal V p (principal_with self b)) (upcasts_principal U p' (principal_with self' b'))
      (λ e. both (are_declared U p') _ (ap (are_declared U) (sym (over-principal self x)) ∙ over-are-declared p ∙ left (are_declared V p) _ e)
      (ap (λ z. upcasts_autos U z (autos_with self' x') (autos_with self' b')) (sym (over-principal self x))
      ∙ upcasts-there p (autos_with self x) (autos_with self' x') (autos_with self b) (autos_with self' b') (same-autos self x).0 (same-autos self b).1 (right (are_declared V p) _ e)))
      (by-eq (upcasts_principal V p (principal_with self b)) (upcasts_principal U p' (principal_with self' b'))
      (over-upcasts p (principal_with self b) ∙ ap (λ z. upcasts_principal U z (map Q (principal_with self b))) (over-principal self x) ∙ ap (upcasts_principal U p') (over-principal self b)))
    where
      self : Trees
      self = tree dynamic x none

      x' : Trees
      x' = bounds-now x

      b' : Trees
      b' = bounds-now b

      self' : Trees
      self' = P self

      p : List Reference
      p = principal_with self x

      p' : List Reference
      p' = principal_with self' x'
  into-upcast (tree dynamic x none) = nothing _
  into-upcast (tree dynamic x (tree l c o)) = nothing _
  into-upcast none = nothing _
  into-upcast (tree l c o) = nothing _

  parameter-same : (i m n : ℕ) → is_parameter i (auto_trait m) ≡ is_parameter i (auto_trait n)
  parameter-same i m n = refl

  over-is-unsizing : (fs : List Trees) (i : ℕ) → is_unsizing (map P fs) i ≡ is_unsizing fs i
  over-is-unsizing [] i = refl
  over-is-unsizing (f ∷ []) i = over-some α (is_parameter i) (parameter-same i) f
  over-is-unsizing (f ∷ g ∷ fs) i = and-same (ap not (over-some α (is_parameter i) (parameter-same i) f)) (over-is-unsizing (g ∷ fs) i)

  or-same : {x y z v : Bool} → x ≡ y → z ≡ v → x || z ≡ y || v
  or-same e f = cc

  over-some-unsizing : (fs : List Trees) (k : ℕ) (t : Trees) → some_unsizing (map P fs) k (P t) ≡ some_unsizing fs k t
  over-some-unsizing fs k none = refl
  over-some-unsizing fs k (tree l c o) = or-same (over-is-unsizing fs k) (over-some-unsizing fs (suc k) o)

  over-with-unsizing : (fs : List Trees) (k : ℕ) (x b : Trees) → P (with_unsizing fs k x b) ≡ with_unsizing (map P fs) k (P x) (P b)
  over-with-unsizing fs k none b = refl
  over-with-unsizing fs k (tree l c o) none = refl
  over-with-unsizing fs k (tree l c o) (tree m d p) = by (is_unsizing fs k) (is_unsizing (map P fs) k) (over-is-unsizing fs k) (over-with-unsizing fs (suc k) o p)
    where
      by : (x y : Bool) → y ≡ x → P (with_unsizing fs (suc k) o p) ≡ with_unsizing (map P fs) (suc k) (P o) (P p)
          → P (if x then tree m d (with_unsizing fs (suc k) o p) else tree l c (with_unsizing fs (suc k) o p))
          ≡ (if y then tree m (children_in_order α m d (P d)) (with_unsizing (map P fs) (suc k) (P o) (P p)) else tree l (children_in_order α l c (P c)) (with_unsizing (map P fs) (suc k) (P o) (P p)))
      by true true e g = ap (λ z. tree m (children_in_order α m d (P d)) z) g
      by true false e g = cc
      by false true e g = cc
      by false false e g = ap (λ z. tree l (children_in_order α l c (P c)) z) g

  over-last-unsizes : (fs : List Trees) → ((f : Trees) → In f fs → dyns_of_bounds f ≡ true) → (x b : Trees) → map Q (last_unsizes fs x b) ≡ last_unsizes (map P fs) (P x) (P b)
  over-last-unsizes [] h x b = refl
  over-last-unsizes (f ∷ []) h x b =
      cons-same
      (reference-at unsize (over-append α (instantiate zero x f) (instantiate zero b f) ∙ two (over-instantiate α 0 x f (h f (here f []))) (over-instantiate α 0 b f (h f (here f []))))) refl
    where
      two : {x y z v : Trees} → x ≡ y → z ≡ v → x +++ z ≡ y +++ v
      two p q = cc
  over-last-unsizes (f ∷ g ∷ fs) h x b = over-last-unsizes (g ∷ fs) (λ y k. h y (there y f (g ∷ fs) k)) x b

  over-unsize-struct : (x : Trees) → map M (unsize_struct_rules V x) ≡ unsize_struct_rules U (P x)
  over-unsize-struct (tree (adt s) x (tree (adt u) b o)) = if-over M (s == u) (s == u) (flat_map f (structs_named V s)) (flat_map g (structs_named U s)) refl (over-structs s f g each)
    where
      f : StructDecl → List Rule
      f y = if some_unsizing y.fields 0 x && same (with_unsizing y.fields 0 x b) b then row unsize_struct (last_unsizes y.fields x b) else []

      g : StructDecl → List Rule
      g y = if some_unsizing y.fields 0 (P x) && same (with_unsizing y.fields 0 (P x) (P b)) (P b) then row unsize_struct (last_unsizes y.fields (P x) (P b)) else []

      each : (y : StructDecl) → In y V.structs → map M (f y) ≡ g (arranged_struct α y)
      each y m =
          if-over M (some_unsizing y.fields 0 x && same (with_unsizing y.fields 0 x b) b) (some_unsizing (map P y.fields) 0 (P x) && same (with_unsizing (map P y.fields) 0 (P x) (P b)) (P b))
          (row unsize_struct (last_unsizes y.fields x b)) (row unsize_struct (last_unsizes (map P y.fields) (P x) (P b)))
          (and-same (over-some-unsizing y.fields 0 x) (ap (λ z. same z (P b)) (sym (over-with-unsizing y.fields 0 x b)) ∙ over-same α (with_unsizing y.fields 0 x b) b))
          (ap (row unsize_struct) (over-last-unsizes y.fields (λ t k. w.fields y t m k) x b))
  over-unsize-struct (tree (adt s) x none) = refl
  over-unsize-struct (tree (adt s) x (tree l c o)) = refl
  over-unsize-struct none = refl
  over-unsize-struct (tree l c o) = refl

  into-unsize : (x : Trees) → Into (unsize_rules V x) (unsize_rules U (P x))
  into-unsize x =
      both-into (unsize_array_rules x) _ (unsize_array_rules (P x)) _ (by-eq (unsize_array_rules x) (unsize_array_rules (P x)) (over-unsize-array x))
      (both-into (unsize_to_dyn_rules V x) _ (unsize_to_dyn_rules U (P x)) _ (into-unsize-to-dyn x)
      (both-into (unsize_upcast_rules V x) (unsize_struct_rules V x) (unsize_upcast_rules U (P x)) (unsize_struct_rules U (P x)) (into-upcast x) (by-eq (unsize_struct_rules V x) (unsize_struct_rules U (P x)) (over-unsize-struct x))))

  -- All of them
  into-built-in : (r : Reference) → Into (built_in_rules V r) (built_in_rules U (Q r))
  into-built-in r =
      both-into (plain_rules r) _ (plain_rules (Q r)) _ (by-eq (plain_rules r) (plain_rules (Q r)) (over-plain r))
      (both-into (if t == sized then sized_rules V x else []) _ (if t == sized then sized_rules U (P x) else []) _
      (if-into (t == sized) (t == sized) (sized_rules V x) (sized_rules U (P x)) (λ e. e) (by-eq (sized_rules V x) (sized_rules U (P x)) (over-sized x)))
      (both-into (if is_auto V t then auto_rules V t x else []) _ (if is_auto U t then auto_rules U t (P x) else []) _
      (if-into (is_auto V t) (is_auto U t) (auto_rules V t x) (auto_rules U t (P x)) (λ e. auto-same t ∙ e) (by-eq (auto_rules V t x) (auto_rules U t (P x)) (over-auto t x)))
      (both-into (if t == unsize then unsize_rules V x else []) (object_rules V r x) (if t == unsize then unsize_rules U (P x) else []) (object_rules U (Q r) (P x))
      (if-into (t == unsize) (t == unsize) (unsize_rules V x) (unsize_rules U (P x)) (λ e. e) (into-unsize x))
      (into-object r x))))
    where
      t : ℕ
      t = r.trait

      x : Trees
      x = r.args

  over-super-rules : (r : Reference) (k n : ℕ) (ss : List Reference) → map M (super_rules r k n ss) ≡ super_rules (Q r) k n (map Q ss)
  over-super-rules r k n [] = refl
  over-super-rules r k n (s ∷ ss) =
      map-append M (if same_reference s r then record { way = by_super k n; premises = [] } ∷ [] else []) (super_rules r k (suc n) ss)
      ∙ append-same
      (if-over M (same_reference s r) (same_reference (Q s) (Q r)) (record { way = by_super k n; premises = [] } ∷ []) (record { way = by_super k n; premises = [] } ∷ []) (over-same-reference α s r) refl)
      (over-super-rules r k (suc n) ss)

  over-clause-rules : (r : Reference) (k : ℕ) (E : List Reference) → map M (clause_rules V r k E) ≡ clause_rules U (Q r) k (map Q E)
  over-clause-rules r k [] = refl
  over-clause-rules r k (s ∷ ss) =
      map-append M (if same_reference s r then record { way = by_clause k; premises = [] } ∷ [] else []) (super_rules r k 0 (strict_supertraits V s) ++ clause_rules V r (suc k) ss)
      ∙ append-same
      (if-over M (same_reference s r) (same_reference (Q s) (Q r)) (record { way = by_clause k; premises = [] } ∷ []) (record { way = by_clause k; premises = [] } ∷ []) (over-same-reference α s r) refl)
      (map-append M (super_rules r k 0 (strict_supertraits V s)) (clause_rules V r (suc k) ss)
      ∙ append-same (over-super-rules r k 0 (strict_supertraits V s) ∙ ap (super_rules (Q r) k 0) (over-supers s)) (over-clause-rules r (suc k) ss))

  into-impls : (r : Reference) → Into (flat_map (impl_rules r) V.impls) (flat_map (impl_rules (Q r)) U.impls)
  unfolding Into
  into-impls r u h =
      let m = in-flat (impl_rules r) V.impls u h in (
        M u,
        flat-in (impl_rules (Q r)) U.impls (arranged_impl α m.0) (M u) (in-map (arranged_impl α) V.impls m.0 m.1) (into-impl r m.0 m.1 u m.2),
        record { same_way = refl; same_premises = (λ x g. g, λ x g. g) },
      )

  -- each rule of V is, in the other order, a rule of U
  pub rules-arranged : (E : List Reference) (r : Reference) (u : Rule) → In u (rules V E r) → (v : Rule) × In v (rules U (map Q E) (Q r)) × IsArrangedRule α u v
  unfolding Into
  rules-arranged E r =
      both-into (flat_map (impl_rules r) V.impls) _ (flat_map (impl_rules (Q r)) U.impls) _ (into-impls r)
      (both-into (built_in_rules V r) (clause_rules V r 0 E) (built_in_rules U (Q r)) (clause_rules U (Q r) 0 (map Q E)) (into-built-in r) (by-eq (clause_rules V r 0 E) (clause_rules U (Q r) 0 (map Q E)) (over-clause-rules r 0 E)))

  pub coinductive-same : (t : ℕ) → is_coinductive U t ≡ is_coinductive V t
  coinductive-same t = ap (λ b. b || (t == sized)) (auto-same t)

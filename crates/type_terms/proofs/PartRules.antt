-- A part with all that a set of trait references needs agrees with the world on it.
use Rattle.std.proofs.Common.{◌≡◌, ℕ, zero, suc, ◌<◌, ◌≤◌, Bool, true, false, not, List, [], ◌∷◌, ◌++◌, refl, ap, sym, ◌∙◌, ◌&&◌, ◌||◌, ◌==◌, if◌then◌else◌, subst, ◌⊎◌, inl, inr, Option, None, Some, length, arith}
use Rattle.std.specs.List.{flat_map, list_all, list_any}
use Rattle.type_terms.specs.Promised.Label.{Label, of_type, of_const, of_lifetime, of_trait, region_outlives, type_outlives, regions_equal, adt, array, slice, raw_pointer, ref, dynamic, principal, auto_trait, predicate, static, value, param, placeholder, infer, canonical, bound}
use Rattle.type_terms.specs.Promised.Trees.{Trees, none, tree, some_node}
use Rattle.type_terms.specs.Promised.Worlds.{World, Reference, StructDecl, TraitDecl, ImplDecl, structs_named, traits_named, all_with_args}
use Rattle.type_terms.specs.Promised.Walks.{Met, local, struct_leaf, dyn_leaf, entered, other_leaf, open_place, struct_is, trait_is, is_home, dyn_met, visited, until_decisive, ends_local, item_in, is_known_in, keeps_orphan_rule}
use Rattle.type_terms.specs.Promised.Rules.{Rule, rules, impl_rules, plain_rules, sized_rules, auto_rules, auto_rules_plain, unsize_rules, unsize_array_rules, unsize_to_dyn_rules, unsize_upcast_rules, unsize_struct_rules, upcasts_principal, object_rules, object_principal, object_auto, unsize_upcast, unsize_to_dyn, unsize_dyn, unsize_struct, sized_struct, auto_struct, equal_rows, built_in_rules, principal_with, autos_with, is_declared, are_declared, are_dyn_compatible, is_dyn, is_auto, is_written, same_head, elaborated, same_reference, sized, unsize, row, asked, each_asked, last_asked, fields_of, some_unsizing, with_unsizing, last_unsizes, strict_supertraits, strict_supertraits_within, written_supertraits}
use Rattle.type_terms.specs.Codes.{same}
use Rattle.type_terms.specs.Promised.Proofs.{In, Every}
use Rattle.type_terms.specs.Promised.Answers.{is_undeclared}
use Rattle.type_terms.specs.Parts.{KeptNames, is_left_out, IsPartFor, Agrees}
use Rattle.type_terms.proofs.Members.{here, in-flat, flat-in, in-filter, in-append, in-left, in-right, some-member, member-some, same-number}
use Rattle.type_terms.proofs.Fitting.{child-shut, next-shut}
use Rattle.type_terms.proofs.ProofEntries.{map-in}
use Rattle.type_terms.proofs.Below.{below, below-length, below-up, below-strict}
use Rattle.type_terms.proofs.Supertraits.{flat-same}
use Rattle.type_terms.proofs.Matching.{or-false-left as no-left}
use Rattle.type_terms.proofs.BooleanBasics.{not_false as is-kept}
use Rattle.type_terms.proofs.RenumberedTrees.{bool-same as one-truth}

two : {A B C : Type 0} (f : A → B → C) {a a' : A} {b b' : B} → a ≡ a' → b ≡ b' → f a b ≡ f a' b'
two f {a} {a'} {b} {b'} p q = ap (λ x. f x b) p ∙ ap (f a') q

three : {A B C D : Type 0} (f : A → B → C → D) {a a' : A} {b b' : B} {c c' : C} → a ≡ a' → b ≡ b' → c ≡ c' → f a b c ≡ f a' b' c'
three f {a} {a'} {b} {b'} {c} {c'} p q r = ap (λ x. f x b c) p ∙ two (f a') q r

if-same : (b d : Bool) (us vs : List Rule) → b ≡ d → (d ≡ true → us ≡ vs) → (if b then us else []) ≡ (if d then vs else [])
if-same true true us vs e h = h refl
if-same true false us vs e h = cc
if-same false true us vs e h = cc
if-same false false us vs e h = refl

none-flat : {A B : Type 0} (f : A → List B) (xs : List A) → ((x : A) → In x xs → ⊥) → flat_map f xs ≡ []
none-flat f [] h = refl
none-flat f (x ∷ xs) h = absurd (h x (here x xs))

every-append : {A : Type 0} (Q : A → Type 0) (xs ys : List A) → Every Q xs → Every Q ys → Every Q (xs ++ ys)
every-append Q [] ys f g = g
every-append Q (x ∷ xs) ys f g = (f.0, every-append Q xs ys f.1 g)

module _ (R : Reference → Bool) (V P : World) (p : IsPartFor R V P) where
  abbrev N : KeptNames
  N = p.kept

  -- nothing in it is left out
  abbrev Whole : Trees → Type 0
  Whole a = some_node (is_left_out p.kept) a ≡ false

  abbrev Has : Reference → Type 0
  Has r = p.kept.traits r.trait ≡ true

  label : (l : Label) (k o : Trees) → Whole (tree l k o) → is_left_out p.kept l ≡ false
  label l k o h = no-left (is_left_out p.kept l) (some_node (is_left_out p.kept) k) (no-left _ (some_node (is_left_out p.kept) o) h)

  struct-kept : (s : ℕ) (k o : Trees) → Whole (tree (adt s) k o) → structs_named P s ≡ structs_named V s
  struct-kept s k o h = p.structs s (is-kept (p.kept.structs s) (label (adt s) k o h))

  -- SUPERTRAITS
  written-same : (r : Reference) → Has r → written_supertraits P r ≡ written_supertraits V r
  written-same r h = ap (flat_map (λ (t : TraitDecl). all_with_args r.args t.bounds)) (p.traits r.trait h)

  record FromBound (r s : Reference) : Type 0 where
    decl : TraitDecl
    stands : In decl V.traits
    stands_here : In decl P.traits
    place : p.rank decl.name ≡ p.rank r.trait
    kept : p.kept.traits s.trait ≡ true
    less : p.rank s.trait < p.rank r.trait

  from-bound : (r s : Reference) → Has r → In s (written_supertraits V r) → FromBound r s
  from-bound r s k h =
      let m = in-flat (λ (t : TraitDecl). all_with_args r.args t.bounds) (traits_named V r.trait) s h in
      let a = in-filter (λ (y : TraitDecl). y.name == r.trait) V.traits m.0 m.1 in
      let d = in-filter (λ (y : TraitDecl). y.name == r.trait) P.traits m.0 (subst (In m.0) (sym (p.traits r.trait k)) m.1) in
      let b = map-in _ m.0.bounds s m.2 in
      record {
        decl = m.0;
        stands = a.0;
        stands_here = d.0;
        place = ap p.rank (same-number m.0.name r.trait a.1);
        kept = subst (λ t. p.kept.traits t ≡ true) (ap (λ (q : Reference). q.trait) b.2) (p.bounds r.trait k m.0 b.0 m.1 b.1);
        less = subst (λ t. p.rank t < p.rank r.trait) (ap (λ (q : Reference). q.trait) b.2) (p.bounds_before r.trait k m.0 b.0 m.1 b.1);
      }

  place : TraitDecl → ℕ
  place x = p.rank x.name

  up-to : List TraitDecl → ℕ → ℕ
  up-to xs t = below place (suc (p.rank t)) xs

  -- each step leads to fewer traits
  fewer : (xs : List TraitDecl) (x : TraitDecl) (t s : ℕ) → In x xs → p.rank x.name ≡ p.rank t → p.rank s < p.rank t → up-to xs s < up-to xs t
  unfolding place up-to
  fewer xs x t s h e less =
      omega (
        arith,
        below-up place (suc (p.rank s)) (p.rank t) xs less,
        subst (λ n. below place n xs < below place (suc (p.rank t)) xs) e (below-strict place (suc (p.rank t)) xs x h (subst (λ n. n < suc (p.rank t)) (sym e) (omega arith))),
      )

  within-same : (n m : ℕ) (r : Reference) → Has r → up-to P.traits r.trait ≤ n → up-to V.traits r.trait ≤ m → strict_supertraits_within n P r ≡ strict_supertraits_within m V r
  within-same zero zero r h a b = refl
  within-same zero (suc m) r h a b = sym (none-flat (λ s. s ∷ strict_supertraits_within m V s) (written_supertraits V r) (λ s g. no s (from-bound r s h g)))
    where
      no : (s : Reference) → FromBound r s → ⊥
      no s f = absurd (omega (arith, a, fewer P.traits f.decl r.trait s.trait f.stands_here f.place f.less))
  within-same (suc n) zero r h a b =
      none-flat (λ s. s ∷ strict_supertraits_within n P s) (written_supertraits P r) (λ s g. no s (from-bound r s h (subst (λ z. In s z) (written-same r h) g)))
    where
      no : (s : Reference) → FromBound r s → ⊥
      no s f = absurd (omega (arith, b, fewer V.traits f.decl r.trait s.trait f.stands f.place f.less))
  within-same (suc n) (suc m) r h a b =
      ap (flat_map (λ s. s ∷ strict_supertraits_within n P s)) (written-same r h)
      ∙ flat-same (λ s. s ∷ strict_supertraits_within n P s) (λ s. s ∷ strict_supertraits_within m V s) (written_supertraits V r) (λ s g. at s (from-bound r s h g) (λ e d q. within-same n m s e d q))
    where
      at : (s : Reference) → FromBound r s → (Has s → up-to P.traits s.trait ≤ n → up-to V.traits s.trait ≤ m → strict_supertraits_within n P s ≡ strict_supertraits_within m V s)
          → s ∷ strict_supertraits_within n P s ≡ s ∷ strict_supertraits_within m V s
      at s f again =
          ap (λ z. s ∷ z)
          (again f.kept (omega (arith, a, fewer P.traits f.decl r.trait s.trait f.stands_here f.place f.less)) (omega (arith, b, fewer V.traits f.decl r.trait s.trait f.stands f.place f.less)))

  pub supers-same : (r : Reference) → Has r → strict_supertraits P r ≡ strict_supertraits V r
  unfolding place up-to
  supers-same r h = within-same (length P.traits) (length V.traits) r h (below-length place (suc (p.rank r.trait)) P.traits) (below-length place (suc (p.rank r.trait)) V.traits)

  -- DECLARATIONS
  declared-same : (t : ℕ) → p.kept.traits t ≡ true → is_declared P t ≡ is_declared V t
  declared-same t h = ap (list_any (λ (x : TraitDecl). true)) (p.traits t h)

  auto-same : (t : ℕ) → p.kept.traits t ≡ true → is_auto P t ≡ is_auto V t
  auto-same t h = ap (list_any (λ (x : TraitDecl). x.is_auto)) (p.traits t h)

  all-declared-same : (rs : List Reference) → Every Has rs → are_declared P rs ≡ are_declared V rs
  all-declared-same [] h = refl
  all-declared-same (r ∷ rs) h = two (λ x y. x && y) (declared-same r.trait h.0) (all-declared-same rs h.1)

  elaborated-same : (rs : List Reference) → Every Has rs → elaborated P rs ≡ elaborated V rs
  elaborated-same [] h = refl
  elaborated-same (r ∷ rs) h = two (λ x y. (r ∷ x) ++ y) (supers-same r h.0) (elaborated-same rs h.1)

  compatible-same : (rs : List Reference) → Every Has rs → are_dyn_compatible P rs ≡ are_dyn_compatible V rs
  compatible-same rs h = two (λ x y. x && not (list_any (λ (s : Reference). s.trait == sized) y)) (all-declared-same rs h) (elaborated-same rs h)

  principal-kept : (self a : Trees) → Whole a → Every Has (principal_with self a)
  principal-kept self none h = tt
  principal-kept self (tree (principal n t) k o) h = (is-kept (p.kept.traits t) (label (principal n t) k o h), tt)
  principal-kept self (tree l k o) h = tt

  -- BUILT-IN RULES
  sized-same : (a : Trees) → Whole a → sized_rules P a ≡ sized_rules V a
  sized-same none h = refl
  sized-same (tree (adt s) k o) h = ap (flat_map (λ (x : StructDecl). row sized_struct (last_asked sized (fields_of x k)))) (struct-kept s k o h)
  sized-same (tree l k o) h = refl

  plain-same : (t : ℕ) (a : Trees) → Whole a → auto_rules_plain P t a ≡ auto_rules_plain V t a
  plain-same t none h = refl
  plain-same t (tree (adt s) k o) h = ap (flat_map (λ (x : StructDecl). row auto_struct (each_asked t (fields_of x k)))) (struct-kept s k o h)
  plain-same t (tree (raw_pointer _) none q) h = refl
  plain-same t (tree (raw_pointer _) (tree l k o) q) h = refl
  plain-same t (tree array none q) h = refl
  plain-same t (tree array (tree l k o) q) h = refl
  plain-same t (tree slice none q) h = refl
  plain-same t (tree slice (tree l k o) q) h = refl
  plain-same t (tree (ref _) none q) h = refl
  plain-same t (tree (ref _) (tree r rc none) q) h = refl
  plain-same t (tree (ref _) (tree r rc (tree l k o)) q) h = refl
  plain-same t (tree l k o) h = refl

  auto-rules-same : (t : ℕ) (a : Trees) → Whole a → ((l : Label) (k o : Trees) → a ≡ tree l k o → is_written P t l ≡ is_written V t l) → auto_rules P t a ≡ auto_rules V t a
  auto-rules-same t none w h = refl
  auto-rules-same t (tree l k o) w h = two (λ b z. if b then [] else z) (h l k o refl) (plain-same t (tree l k o) w)

  object-same : (r : Reference) (a : Trees) → Has r → Whole a → object_rules P r a ≡ object_rules V r a
  object-same r none e h = refl
  object-same r (tree dynamic k o) e h =
      two (λ b s. F b s (elaborated P ps)) (two (λ x y. x && y) (declared-same r.trait e) (compatible-same ps m)) (supers-same r e)
      ∙ ap (λ z. F (is_declared V r.trait && are_dyn_compatible V ps) (strict_supertraits V r) z) (elaborated-same ps m)
    where
      ps : List Reference
      ps = principal_with (tree dynamic k none) k

      m : Every Has ps
      m = principal-kept (tree dynamic k none) k (child-shut (is_left_out p.kept) dynamic k o h)

      F : Bool → List Reference → List Reference → List Rule
      F b s z =
          if b
          then (if not (r.trait == sized) && list_any (same_reference r) (autos_with (tree dynamic k none) k) then row object_auto s else []) ++ (if not (r.trait == sized) then equal_rows object_principal s r 0 z else [])
          else []
  object-same r (tree l k o) e h = refl

  to-dyn-same : (a : Trees) → Whole a → unsize_to_dyn_rules P a ≡ unsize_to_dyn_rules V a
  to-dyn-same (tree l k (tree dynamic b o)) h =
      ap (λ v. if not (is_dyn l) && v then row unsize_to_dyn (principal_with (tree l k none) b ++ (autos_with (tree l k none) b ++ asked sized (tree l k none) ∷ [])) else [])
      (compatible-same (principal_with (tree l k none) b)
      (principal-kept (tree l k none) b (child-shut (is_left_out p.kept) dynamic b o (next-shut (is_left_out p.kept) l k (tree dynamic b o) h))))
  to-dyn-same a h = refl

  principal-same : (ps qs : List Reference) → Every Has ps → upcasts_principal P ps qs ≡ upcasts_principal V ps qs
  principal-same ps [] h = refl
  principal-same [] (q ∷ qs) h = refl
  principal-same (r ∷ ps) (q ∷ qs) h = ap (λ s. if r.trait == q.trait then (if same_reference r q then row unsize_dyn [] else []) else equal_rows unsize_upcast [] q 1 s) (supers-same r h.0)

  upcast-same : (a : Trees) → Whole a → unsize_upcast_rules P a ≡ unsize_upcast_rules V a
  upcast-same (tree dynamic k (tree dynamic b o)) h =
      three (λ d e z. if d && list_all (λ (y : Reference). list_any (λ (q : Reference). q.trait == y.trait) (autos_with self k ++ e)) (autos_with self b) then z else [])
      (all-declared-same ps m) (elaborated-same ps m) (principal-same ps (principal_with self b) m)
    where
      self : Trees
      self = tree dynamic k none

      ps : List Reference
      ps = principal_with self k

      m : Every Has ps
      m = principal-kept self k (child-shut (is_left_out p.kept) dynamic k (tree dynamic b o) h)
  upcast-same a h = refl

  struct-same : (a : Trees) → Whole a → unsize_struct_rules P a ≡ unsize_struct_rules V a
  struct-same (tree (adt s) x (tree (adt v) y o)) h =
      ap
      (λ zs. if s == v then flat_map (λ (z : StructDecl). if some_unsizing z.fields 0 x && same (with_unsizing z.fields 0 x y) y then row unsize_struct (last_unsizes z.fields x y) else []) zs else [])
      (struct-kept s x (tree (adt v) y o) h)
  struct-same a h = refl

  unsize-same : (a : Trees) → Whole a → unsize_rules P a ≡ unsize_rules V a
  unsize-same a h = three (λ x y z. unsize_array_rules a ++ (x ++ (y ++ z))) (to-dyn-same a h) (upcast-same a h) (struct-same a h)

  written-head-same : (r : Reference) → R r ≡ true → is_auto V r.trait ≡ true → (l : Label) (k o : Trees) → r.args ≡ tree l k o → is_written P r.trait l ≡ is_written V r.trait l
  written-head-same r a e l k o q = one-truth (is_written P r.trait l) (is_written V r.trait l) back (p.autos r a e l k o q)
    where
      back : is_written P r.trait l ≡ true → is_written V r.trait l ≡ true
      back h =
          let i = some-member (λ (i : ImplDecl). (i.header.trait == r.trait) && same_head l i.header.args) P.impls h in
          member-some (λ (i : ImplDecl). (i.header.trait == r.trait) && same_head l i.header.args) V.impls i.0 (p.impls_back i.0 i.1) i.2

  pub built-in-same : (r : Reference) → R r ≡ true → built_in_rules P r ≡ built_in_rules V r
  built-in-same r a =
      three (λ x y z. plain_rules r ++ (x ++ (y ++ z)))
      (if-same (r.trait == sized) (r.trait == sized) (sized_rules P r.args) (sized_rules V r.args) refl (λ e. sized-same r.args n.1))
      (if-same (is_auto P r.trait) (is_auto V r.trait) (auto_rules P r.trait r.args) (auto_rules V r.trait r.args) (auto-same r.trait n.0) (λ e. auto-rules-same r.trait r.args n.1 (written-head-same r a e)))
      (two (λ x y. x ++ y) (if-same (r.trait == unsize) (r.trait == unsize) (unsize_rules P r.args) (unsize_rules V r.args) refl (λ e. unsize-same r.args n.1)) (object-same r r.args n.0 n.1))
    where
      n : (p.kept.traits r.trait ≡ true) × (some_node (is_left_out p.kept) r.args ≡ false)
      n = p.named r a

  -- ALL RULES
  rules-there : (r : Reference) → R r ≡ true → (u : Rule) → In u (rules V [] r) → In u (rules P [] r)
  rules-there r a u h = by (in-append u (flat_map (impl_rules r) V.impls) _ h)
    where
      by : In u (flat_map (impl_rules r) V.impls) ⊎ In u (built_in_rules V r ++ []) → In u (rules P [] r)
      by (inl g) =
          let i = in-flat (impl_rules r) V.impls u g in
          in-left u (flat_map (impl_rules r) P.impls) _ (flat-in (impl_rules r) P.impls i.0 u (p.impls_there r a i.0 u i.1 i.2) i.2)
      by (inr g) = in-right u (flat_map (impl_rules r) P.impls) (built_in_rules P r ++ []) (subst (λ z. In u (z ++ [])) (sym (built-in-same r a)) g)

  rules-back : (r : Reference) → R r ≡ true → (u : Rule) → In u (rules P [] r) → In u (rules V [] r)
  rules-back r a u h = by (in-append u (flat_map (impl_rules r) P.impls) _ h)
    where
      by : In u (flat_map (impl_rules r) P.impls) ⊎ In u (built_in_rules P r ++ []) → In u (rules V [] r)
      by (inl g) =
          let i = in-flat (impl_rules r) P.impls u g in
          in-left u (flat_map (impl_rules r) V.impls) _ (flat-in (impl_rules r) V.impls i.0 u (p.impls_back i.0 i.1) i.2)
      by (inr g) = in-right u (flat_map (impl_rules r) V.impls) (built_in_rules V r ++ []) (subst (λ z. In u (z ++ [])) (built-in-same r a) g)

  -- WALKS
  abbrev Is : Met → Type 0
  Is (struct_leaf s) = p.kept.structs s ≡ true
  Is (entered s) = p.kept.structs s ≡ true
  Is (dyn_leaf t) = p.kept.traits t ≡ true
  Is local = Unit {0}
  Is other_leaf = Unit {0}
  Is open_place = Unit {0}

  dyn-same : (d : Option ℕ) (k : Trees) → Whole k → dyn_met P d k ≡ dyn_met V d k
  dyn-same d none h = refl
  dyn-same d (tree (principal n t) k o) h =
      ap (λ zs. (if list_any (λ (x : TraitDecl). is_home d x.home) zs then local else dyn_leaf t) ∷ []) (p.traits t (is-kept (p.kept.traits t) (label (principal n t) k o h)))
  dyn-same d (tree l k o) h = refl

  visited-same : (d : Option ℕ) (a : Trees) → Whole a → visited P d a ≡ visited V d a
  visited-same d none h = refl
  visited-same d (tree (ref m) k o) h =
      two (λ x y. x ++ y) (visited-same d k (child-shut (is_left_out p.kept) (ref m) k o h)) (visited-same d o (next-shut (is_left_out p.kept) (ref m) k o h))
  visited-same d (tree (adt s) k o) h =
      three
      (λ zs x y. (if list_any (λ (z : StructDecl). is_home d z.home) zs then local ∷ [] else if list_any (λ (z : StructDecl). z.is_fundamental) zs then entered s ∷ x else struct_leaf s ∷ []) ++ y)
      (struct-kept s k o h) (visited-same d k (child-shut (is_left_out p.kept) (adt s) k o h)) (visited-same d o (next-shut (is_left_out p.kept) (adt s) k o h))
  visited-same d (tree dynamic k o) h =
      two (λ x y. x ++ y) (dyn-same d k (child-shut (is_left_out p.kept) dynamic k o h)) (visited-same d o (next-shut (is_left_out p.kept) dynamic k o h))
  visited-same d (tree (param of_type i) k o) h = ap (λ z. open_place ∷ z) (visited-same d o (next-shut (is_left_out p.kept) (param of_type i) k o h))
  visited-same d (tree (placeholder of_type i) k o) h = ap (λ z. open_place ∷ z) (visited-same d o (next-shut (is_left_out p.kept) (placeholder of_type i) k o h))
  visited-same d (tree (infer of_type i) k o) h = ap (λ z. open_place ∷ z) (visited-same d o (next-shut (is_left_out p.kept) (infer of_type i) k o h))
  visited-same d (tree (canonical of_type i) k o) h = ap (λ z. open_place ∷ z) (visited-same d o (next-shut (is_left_out p.kept) (canonical of_type i) k o h))
  visited-same d (tree (bound of_type n i) k o) h = ap (λ z. open_place ∷ z) (visited-same d o (next-shut (is_left_out p.kept) (bound of_type n i) k o h))
  visited-same d (tree (param of_const i) k o) h = visited-same d o (next-shut (is_left_out p.kept) (param of_const i) k o h)
  visited-same d (tree (placeholder of_const i) k o) h = visited-same d o (next-shut (is_left_out p.kept) (placeholder of_const i) k o h)
  visited-same d (tree (infer of_const i) k o) h = visited-same d o (next-shut (is_left_out p.kept) (infer of_const i) k o h)
  visited-same d (tree (canonical of_const i) k o) h = visited-same d o (next-shut (is_left_out p.kept) (canonical of_const i) k o h)
  visited-same d (tree (bound of_const n i) k o) h = visited-same d o (next-shut (is_left_out p.kept) (bound of_const n i) k o h)
  visited-same d (tree (param of_lifetime i) k o) h = visited-same d o (next-shut (is_left_out p.kept) (param of_lifetime i) k o h)
  visited-same d (tree (placeholder of_lifetime i) k o) h = visited-same d o (next-shut (is_left_out p.kept) (placeholder of_lifetime i) k o h)
  visited-same d (tree (infer of_lifetime i) k o) h = visited-same d o (next-shut (is_left_out p.kept) (infer of_lifetime i) k o h)
  visited-same d (tree (canonical of_lifetime i) k o) h = visited-same d o (next-shut (is_left_out p.kept) (canonical of_lifetime i) k o h)
  visited-same d (tree (bound of_lifetime n i) k o) h = visited-same d o (next-shut (is_left_out p.kept) (bound of_lifetime n i) k o h)
  visited-same d (tree (value n) k o) h = visited-same d o (next-shut (is_left_out p.kept) (value n) k o h)
  visited-same d (tree static k o) h = visited-same d o (next-shut (is_left_out p.kept) static k o h)
  visited-same d (tree l k o) h = ap (λ z. other_leaf ∷ z) (visited-same d o (next-shut (is_left_out p.kept) l k o h))

  -- what is met is kept
  dyn-kept : (d : Option ℕ) (k : Trees) → Whole k → Every Is (dyn_met V d k)
  dyn-kept d none h = (tt, tt)
  dyn-kept d (tree (principal n t) k o) h = by (trait_is (λ x. is_home d x.home) V t)
    where
      by : (b : Bool) → Every Is ((if b then local else dyn_leaf t) ∷ [])
      by true = (tt, tt)
      by false = (is-kept (p.kept.traits t) (label (principal n t) k o h), tt)
  dyn-kept d (tree l k o) h = (tt, tt)

  visited-kept : (d : Option ℕ) (a : Trees) → Whole a → Every Is (visited V d a)
  visited-kept d none h = tt
  visited-kept d (tree (ref m) k o) h =
      every-append Is _ _ (visited-kept d k (child-shut (is_left_out p.kept) (ref m) k o h)) (visited-kept d o (next-shut (is_left_out p.kept) (ref m) k o h))
  visited-kept d (tree (adt s) k o) h =
      every-append Is _ _ (by (struct_is (λ x. is_home d x.home) V s) (struct_is (λ x. x.is_fundamental) V s) (visited-kept d k (child-shut (is_left_out p.kept) (adt s) k o h)))
      (visited-kept d o (next-shut (is_left_out p.kept) (adt s) k o h))
    where
      at : p.kept.structs s ≡ true
      at = is-kept (p.kept.structs s) (label (adt s) k o h)

      by : (b e : Bool) → Every Is (visited V d k) → Every Is (if b then local ∷ [] else if e then entered s ∷ visited V d k else struct_leaf s ∷ [])
      by true e f = (tt, tt)
      by false true f = (at, f)
      by false false f = (at, tt)
  visited-kept d (tree dynamic k o) h =
      every-append Is _ _ (dyn-kept d k (child-shut (is_left_out p.kept) dynamic k o h)) (visited-kept d o (next-shut (is_left_out p.kept) dynamic k o h))
  visited-kept d (tree (param of_type i) k o) h = (tt, visited-kept d o (next-shut (is_left_out p.kept) (param of_type i) k o h))
  visited-kept d (tree (placeholder of_type i) k o) h = (tt, visited-kept d o (next-shut (is_left_out p.kept) (placeholder of_type i) k o h))
  visited-kept d (tree (infer of_type i) k o) h = (tt, visited-kept d o (next-shut (is_left_out p.kept) (infer of_type i) k o h))
  visited-kept d (tree (canonical of_type i) k o) h = (tt, visited-kept d o (next-shut (is_left_out p.kept) (canonical of_type i) k o h))
  visited-kept d (tree (bound of_type n i) k o) h = (tt, visited-kept d o (next-shut (is_left_out p.kept) (bound of_type n i) k o h))
  visited-kept d (tree (param of_const i) k o) h = visited-kept d o (next-shut (is_left_out p.kept) (param of_const i) k o h)
  visited-kept d (tree (placeholder of_const i) k o) h = visited-kept d o (next-shut (is_left_out p.kept) (placeholder of_const i) k o h)
  visited-kept d (tree (infer of_const i) k o) h = visited-kept d o (next-shut (is_left_out p.kept) (infer of_const i) k o h)
  visited-kept d (tree (canonical of_const i) k o) h = visited-kept d o (next-shut (is_left_out p.kept) (canonical of_const i) k o h)
  visited-kept d (tree (bound of_const n i) k o) h = visited-kept d o (next-shut (is_left_out p.kept) (bound of_const n i) k o h)
  visited-kept d (tree (param of_lifetime i) k o) h = visited-kept d o (next-shut (is_left_out p.kept) (param of_lifetime i) k o h)
  visited-kept d (tree (placeholder of_lifetime i) k o) h = visited-kept d o (next-shut (is_left_out p.kept) (placeholder of_lifetime i) k o h)
  visited-kept d (tree (infer of_lifetime i) k o) h = visited-kept d o (next-shut (is_left_out p.kept) (infer of_lifetime i) k o h)
  visited-kept d (tree (canonical of_lifetime i) k o) h = visited-kept d o (next-shut (is_left_out p.kept) (canonical of_lifetime i) k o h)
  visited-kept d (tree (bound of_lifetime n i) k o) h = visited-kept d o (next-shut (is_left_out p.kept) (bound of_lifetime n i) k o h)
  visited-kept d (tree (value n) k o) h = visited-kept d o (next-shut (is_left_out p.kept) (value n) k o h)
  visited-kept d (tree static k o) h = visited-kept d o (next-shut (is_left_out p.kept) static k o h)
  visited-kept d (tree l k o) h = (tt, visited-kept d o (next-shut (is_left_out p.kept) l k o h))

  decisive-kept : (ms : List Met) → Every Is ms → Every Is (until_decisive ms)
  decisive-kept [] h = tt
  decisive-kept (local ∷ ms) h = (tt, tt)
  decisive-kept (open_place ∷ ms) h = (tt, tt)
  decisive-kept (m ∷ ms) h = (h.0, decisive-kept ms h.1)

  item-same : (m : Met) → Is m → item_in P m ≡ item_in V m
  item-same (struct_leaf s) h = ap (list_any (λ (x : StructDecl). true)) (p.structs s h)
  item-same (entered s) h = ap (list_any (λ (x : StructDecl). true)) (p.structs s h)
  item-same (dyn_leaf t) h = ap (list_any (λ (x : TraitDecl). true)) (p.traits t h)
  item-same local h = refl
  item-same other_leaf h = refl
  item-same open_place h = refl

  items-same : (ms : List Met) → Every Is ms → list_all (item_in P) ms ≡ list_all (item_in V) ms
  items-same [] h = refl
  items-same (m ∷ ms) h = two (λ x y. x && y) (item-same m h.0) (items-same ms h.1)

  known-same : (c : ℕ) (r : Reference) → R r ≡ true → is_known_in P c r ≡ is_known_in V c r
  known-same c r a =
      three (λ ts b ms. list_any (λ (x : TraitDecl). true) ts && (b && (list_any (λ (x : TraitDecl). (x.home == c) || x.is_fundamental) ts || ends_local (until_decisive ms))))
      (p.traits r.trait n.0)
      (ap (λ ms. list_all (item_in P) (until_decisive ms)) (visited-same None r.args n.1)
      ∙ items-same (until_decisive (visited V None r.args)) (decisive-kept (visited V None r.args) (visited-kept None r.args n.1)))
      (visited-same (Some c) r.args n.1)
    where
      n : (p.kept.traits r.trait ≡ true) × (some_node (is_left_out p.kept) r.args ≡ false)
      n = p.named r a

  pub orphan-same : (d : ℕ) (r : Reference) → Has r → Whole r.args → keeps_orphan_rule P d r ≡ keeps_orphan_rule V d r
  orphan-same d r a w =
      two (λ ts ms. list_any (λ (x : TraitDecl). x.home == d) ts || ends_local (until_decisive ms)) (p.traits r.trait a) (visited-same (Some d) r.args w)

  -- NAMES
  label-same : (l : Label) → is_left_out p.kept l ≡ false → is_undeclared P l ≡ is_undeclared V l
  label-same (adt s) h = ap (λ zs. not (list_any (λ (x : StructDecl). true) zs)) (p.structs s (is-kept (p.kept.structs s) h))
  label-same (principal n t) h = ap (λ zs. not (list_any (λ (x : TraitDecl). true) zs)) (p.traits t (is-kept (p.kept.traits t) h))
  label-same (auto_trait t) h = ap (λ zs. not (list_any (λ (x : TraitDecl). true) zs)) (p.traits t (is-kept (p.kept.traits t) h))
  label-same (predicate (of_trait t)) h = ap (λ zs. not (list_any (λ (x : TraitDecl). true) zs)) (p.traits t (is-kept (p.kept.traits t) h))
  label-same (predicate region_outlives) h = refl
  label-same (predicate type_outlives) h = refl
  label-same (predicate regions_equal) h = refl
  label-same l h = refl

  nodes-same : (a : Trees) → Whole a → some_node (is_undeclared P) a ≡ some_node (is_undeclared V) a
  nodes-same none h = refl
  nodes-same (tree l k o) h =
      three (λ x y z. (x || y) || z) (label-same l (label l k o h)) (nodes-same k (child-shut (is_left_out p.kept) l k o h)) (nodes-same o (next-shut (is_left_out p.kept) l k o h))

  pub part-agrees : (c : ℕ) → Agrees R V P c
  part-agrees c = record {
    rules_there = rules-there;
    rules_back = rules-back;
    coinductive = λ r a. ap (λ b. b || (r.trait == sized)) (auto-same r.trait (p.named r a).0);
    supers = λ r a. supers-same r (p.named r a).0;
    known = known-same c;
    written = λ r a. two (λ x y. x && not y) (ap (list_any (λ (x : TraitDecl). true)) (p.traits r.trait (p.named r a).0)) (nodes-same r.args (p.named r a).1);
  }

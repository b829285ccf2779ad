-- Renumbered views: their rules are the renumbered rules.
use Rattle.std.proofs.Common.{◌≡◌, ℕ, zero, suc, Bool, true, false, List, [], ◌∷◌, ◌++◌, refl, ap, sym, ◌∙◌, ◌&&◌, ◌||◌, ◌==◌, not, if◌then◌else◌, subst, ◌⊎◌, inl, inr, map, length}
use Rattle.std.specs.List.{list_all, list_any, flat_map}
use Rattle.type_terms.specs.Promised.Label.{Label, of_type, of_const, of_lifetime, array, slice, tuple, dynamic, adt, fn_ptr, ref, raw_pointer, principal, auto_trait, param}
use Rattle.type_terms.specs.Codes.{same, same_label}
use Rattle.type_terms.specs.Promised.Trees.{Trees, none, tree, ◌+++◌, instantiate}
use Rattle.type_terms.specs.Trees.{arguments, fits}
use Rattle.type_terms.specs.Promised.Worlds.{World, Reference, CrateDecl, StructDecl, TraitDecl, ImplDecl, crates_named, structs_named, traits_named, with_args, all_with_args}
use Rattle.type_terms.specs.Promised.Core.{core_world}
use Rattle.type_terms.specs.Promised.Rules.{Rule, BuiltIn, by_impl, row, rules, impl_rules, built_in_rules, plain_rules, sized_rules, copy_rules, tuple_rules, fn_ptr_rules, call_rules, but_last, auto_rules, auto_rules_plain, is_written, same_head, unsize_rules, unsize_array_rules, unsize_to_dyn_rules, unsize_upcast_rules, unsize_struct_rules, upcasts_principal, upcasts_autos, is_parameter, is_unsizing, some_unsizing, with_unsizing, last_unsizes, object_rules, object_bound_rules, principal_with, autos_with, equal_rows, elaborated, are_declared, are_dyn_compatible, is_declared, is_auto, is_fn_trait, is_dyn, clause_rules, super_rules, by_clause, by_super, same_reference, asked, each_asked, last_asked, together, fields_of, written_supertraits, strict_supertraits, strict_supertraits_within, sized, clone, copy, tuple_trait, fn_ptr_trait, fn_once, fn_mut, fn_shared, unsize, sized_tuple, sized_struct, copy_tuple, auto_tuple, auto_struct, fn_ptr_call, object_auto, object_principal, unsize_array, unsize_to_dyn, unsize_dyn, unsize_upcast, unsize_struct}
use Rattle.type_terms.specs.Promised.Proofs.{In}
use Rattle.type_terms.specs.Promised.Renumbering.{Renumbering, renumbered_label, renumbered, renumbered_reference, renumbered_crate, renumbered_struct, renumbered_trait, renumbered_impl, IsRenumbering}
use Rattle.type_terms.specs.Renumbering.{renumbered_rule}
use Rattle.type_terms.proofs.ProofEntries.{map-in}
use Rattle.type_terms.proofs.Members.{in-append, in-left, in-right, in-flat, flat-in, in-map, some-member, member-some}
use Rattle.type_terms.proofs.Matching.{same-label-sound}
use Rattle.type_terms.proofs.Applies.{same-label-itself}
use Rattle.type_terms.proofs.RenumberedTrees.{inverse, reference-same, bool-same, and-same, same-numbers-to, label-back, back, reference-back, map-back, impl-back, over-append, over-instantiate, over-arguments, over-fits, over-same, over-same-reference, over-with-args, over-all-with-args, over-some}

-- Lists
pub map-append : {A B : Type 0} (f : A → B) (xs ys : List A) → map f (xs ++ ys) ≡ map f xs ++ map f ys
map-append f [] ys = refl
map-append f (x ∷ xs) ys = ap (λ z. f x ∷ z) (map-append f xs ys)

pub append-same : {A : Type 0} {a b c d : List A} → a ≡ b → c ≡ d → a ++ c ≡ b ++ d
append-same p q = cc

pub cons-same : {A : Type 0} {a b : A} {c d : List A} → a ≡ b → c ≡ d → a ∷ c ≡ b ∷ d
cons-same p q = cc

pub flat-over : {A B C D : Type 0} (m : B → D) (n : A → C) (f : A → List B) (g : C → List D) → ((x : A) → map m (f x) ≡ g (n x)) → (xs : List A) → map m (flat_map f xs) ≡ flat_map g (map n xs)
flat-over m n f g h [] = refl
flat-over m n f g h (x ∷ xs) = map-append m (f x) (flat_map f xs) ∙ append-same (h x) (flat-over m n f g h xs)

pub if-over : {A B : Type 0} (m : A → B) (b c : Bool) (xs : List A) (ys : List B) → c ≡ b → map m xs ≡ ys → map m (if b then xs else []) ≡ (if c then ys else [])
if-over m true true xs ys e h = h
if-over m true false xs ys e h = cc
if-over m false true xs ys e h = cc
if-over m false false xs ys e h = refl

pub any-over : {A B : Type 0} (n : A → B) (p : B → Bool) (q : A → Bool) → ((x : A) → p (n x) ≡ q x) → (xs : List A) → list_any p (map n xs) ≡ list_any q xs
any-over n p q h [] = refl
any-over n p q h (x ∷ xs) = or-same (h x) (any-over n p q h xs)
  where
    or-same : {a b c d : Bool} → a ≡ b → c ≡ d → a || c ≡ b || d
    or-same e f = cc

pub all-over : {A B : Type 0} (n : A → B) (p : B → Bool) (q : A → Bool) → ((x : A) → p (n x) ≡ q x) → (xs : List A) → list_all p (map n xs) ≡ list_all q xs
all-over n p q h [] = refl
all-over n p q h (x ∷ xs) = and-same (h x) (all-over n p q h xs)

pub or-same : {a b c d : Bool} → a ≡ b → c ≡ d → a || c ≡ b || d
or-same e f = cc

unless-over : {A B : Type 0} (m : A → B) (b c : Bool) (xs : List A) (ys : List B) → c ≡ b → map m xs ≡ ys → map m (if b then [] else xs) ≡ (if c then [] else ys)
unless-over m true true xs ys e h = refl
unless-over m true false xs ys e h = cc
unless-over m false true xs ys e h = cc
unless-over m false false xs ys e h = h

else-over : {A B : Type 0} (m : A → B) (b c : Bool) (xs xs' : List A) (ys ys' : List B) → c ≡ b → map m xs ≡ ys → map m xs' ≡ ys' → map m (if b then xs else xs') ≡ (if c then ys else ys')
else-over m true true xs xs' ys ys' e h g = h
else-over m true false xs xs' ys ys' e h g = cc
else-over m false true xs xs' ys ys' e h g = cc
else-over m false false xs xs' ys ys' e h g = g

map-over : {A B : Type 0} (m : A → B) (f : A → A) (g : B → B) → ((x : A) → m (f x) ≡ g (m x)) → (xs : List A) → map m (map f xs) ≡ map g (map m xs)
map-over m f g h [] = refl
map-over m f g h (x ∷ xs) = cons-same (h x) (map-over m f g h xs)

-- Items, and back
crate-back : (ρ : Renumbering) (x : CrateDecl) → renumbered_crate (inverse ρ) (renumbered_crate ρ x) ≡ x
crate-back ρ x = join _ _ _ _ (ρ.crates.back_to x.name) (map-back ρ.crates.back ρ.crates.to ρ.crates.back_to x.uses)
  where
    join : (n n' : ℕ) (us us' : List ℕ) → n ≡ n' → us ≡ us' → (let y : CrateDecl = record { name = n; uses = us } in y) ≡ record { name = n'; uses = us' }
    join n n' us us' p q = cc

struct-back : (ρ : Renumbering) (x : StructDecl) → renumbered_struct (inverse ρ) (renumbered_struct ρ x) ≡ x
struct-back ρ x = join _ _ _ _ x.is_fundamental _ _ (ρ.structs.back_to x.name) (ρ.crates.back_to x.home) (map-back (renumbered (inverse ρ)) (renumbered ρ) (back ρ) x.fields)
  where
    join : (n n' k k' : ℕ) (b : Bool) (us us' : List Trees) → n ≡ n' → k ≡ k' → us ≡ us'
        → (let y : StructDecl = record { name = n; home = k; is_fundamental = b; fields = us } in y) ≡ record { name = n'; home = k'; is_fundamental = b; fields = us' }
    join n n' k k' b us us' p q r = cc

trait-back : (ρ : Renumbering) (x : TraitDecl) → renumbered_trait (inverse ρ) (renumbered_trait ρ x) ≡ x
trait-back ρ x =
    join _ _ _ _ x.is_fundamental x.is_auto _ _ (ρ.traits.back_to x.name) (ρ.crates.back_to x.home) (map-back (renumbered_reference (inverse ρ)) (renumbered_reference ρ) (reference-back ρ) x.bounds)
  where
    join : (n n' k k' : ℕ) (b c : Bool) (us us' : List Reference) → n ≡ n' → k ≡ k' → us ≡ us'
        → (let y : TraitDecl = record { name = n; home = k; is_fundamental = b; is_auto = c; bounds = us } in y) ≡ record { name = n'; home = k'; is_fundamental = b; is_auto = c; bounds = us' }
    join n n' k k' b c us us' p q r = cc

label-same : (ρ : Renumbering) (l m : Label) → same_label (renumbered_label ρ l) (renumbered_label ρ m) ≡ same_label l m
label-same ρ l m =
    bool-same (same_label (renumbered_label ρ l) (renumbered_label ρ m)) (same_label l m)
    (λ e. at l m (sym (label-back ρ l) ∙ ap (renumbered_label (inverse ρ)) (same-label-sound (renumbered_label ρ l) (renumbered_label ρ m) e) ∙ label-back ρ m))
    (λ e. at (renumbered_label ρ l) (renumbered_label ρ m) (ap (renumbered_label ρ) (same-label-sound l m e)))
  where
    at : (x y : Label) → x ≡ y → same_label x y ≡ true
    at x y e = subst (λ z. same_label x z ≡ true) e (same-label-itself x)

pub auto-same : (ρ : Renumbering) (V U : World) → IsRenumbering ρ V U → (t : ℕ) → is_auto U (ρ.traits.to t) ≡ is_auto V t
auto-same ρ V U h t =
    ap (list_any (λ (x : TraitDecl). x.is_auto)) (h.same_traits t) ∙ any-over (renumbered_trait ρ) (λ (x : TraitDecl). x.is_auto) (λ (x : TraitDecl). x.is_auto) (λ x. refl) (traits_named V t)

pub inverse-is : (ρ : Renumbering) (V U : World) → IsRenumbering ρ V U → IsRenumbering (inverse ρ) U V
inverse-is ρ V U h = record {
  core_stays = sym (ap ρ.crates.back h.core_stays) ∙ ρ.crates.back_to _;
  box_stays = sym (ap ρ.structs.back h.box_stays) ∙ ρ.structs.back_to _;
  core_traits_stay = λ t e. sym (ap ρ.traits.back (h.core_traits_stay t e)) ∙ ρ.traits.back_to t;
  same_crates = λ c. sym (ap (λ n. map (renumbered_crate (inverse ρ)) (crates_named U n)) (sym (ρ.crates.to_back c)) ∙ ap (map (renumbered_crate (inverse ρ))) (h.same_crates (ρ.crates.back c))
      ∙ map-back (renumbered_crate (inverse ρ)) (renumbered_crate ρ) (crate-back ρ) (crates_named V (ρ.crates.back c)));
  same_structs = λ s. sym (ap (λ n. map (renumbered_struct (inverse ρ)) (structs_named U n)) (sym (ρ.structs.to_back s)) ∙ ap (map (renumbered_struct (inverse ρ))) (h.same_structs (ρ.structs.back s))
      ∙ map-back (renumbered_struct (inverse ρ)) (renumbered_struct ρ) (struct-back ρ) (structs_named V (ρ.structs.back s)));
  same_traits = λ t. sym (ap (λ n. map (renumbered_trait (inverse ρ)) (traits_named U n)) (sym (ρ.traits.to_back t)) ∙ ap (map (renumbered_trait (inverse ρ))) (h.same_traits (ρ.traits.back t))
      ∙ map-back (renumbered_trait (inverse ρ)) (renumbered_trait ρ) (trait-back ρ) (traits_named V (ρ.traits.back t)));
  as_many_traits = sym h.as_many_traits;
  same_impls = (λ x m. there-impl x (map-in (renumbered_impl (inverse ρ)) U.impls x m), λ x m. back-impl x m);
}
  where
    there-impl : (x : ImplDecl) → (u : ImplDecl) × In u U.impls × (renumbered_impl (inverse ρ) u ≡ x) → In x V.impls
    there-impl x u = let v = map-in (renumbered_impl ρ) V.impls u.0 (h.same_impls.1 u.0 u.1) in
        subst (λ (y : ImplDecl). In y V.impls) (sym (impl-back ρ v.0) ∙ ap (renumbered_impl (inverse ρ)) v.2 ∙ u.2) v.1

    back-impl : (x : ImplDecl) → In x V.impls → In x (map (renumbered_impl (inverse ρ)) U.impls)
    back-impl x m =
        subst (λ (y : ImplDecl). In y (map (renumbered_impl (inverse ρ)) U.impls)) (impl-back ρ x)
        (in-map (renumbered_impl (inverse ρ)) U.impls (renumbered_impl ρ x) (h.same_impls.0 (renumbered_impl ρ x) (in-map (renumbered_impl ρ) V.impls x m)))

-- an impl that switches an auto trait's rule off
written-there : (ρ : Renumbering) (V U : World) → IsRenumbering ρ V U → (t : ℕ) (l : Label) → is_written V t l ≡ true → is_written U (ρ.traits.to t) (renumbered_label ρ l) ≡ true
written-there ρ V U h t l e =
    member-some (λ (i : ImplDecl). (i.header.trait == ρ.traits.to t) && same_head (renumbered_label ρ l) i.header.args) U.impls (renumbered_impl ρ i.0)
    (h.same_impls.0 (renumbered_impl ρ i.0) (in-map (renumbered_impl ρ) V.impls i.0 i.1)) (and-same (same-numbers-to ρ.traits i.0.header.trait t) (head-same i.0.header.args) ∙ i.2)
  where
    i : (i : ImplDecl) × In i V.impls × ((i.header.trait == t) && same_head l i.header.args ≡ true)
    i = some-member (λ (i : ImplDecl). (i.header.trait == t) && same_head l i.header.args) V.impls e

    head-same : (a : Trees) → same_head (renumbered_label ρ l) (renumbered ρ a) ≡ same_head l a
    head-same none = refl
    head-same (tree (param s i) c o) = refl
    head-same (tree (adt m) c o) = label-same ρ l (adt m)
    head-same (tree m c o) = label-same ρ l m

pub written-same : (ρ : Renumbering) (V U : World) → IsRenumbering ρ V U → (t : ℕ) (l : Label) → is_written U (ρ.traits.to t) (renumbered_label ρ l) ≡ is_written V t l
written-same ρ V U h t l =
    bool-same (is_written U (ρ.traits.to t) (renumbered_label ρ l)) (is_written V t l)
    (λ e. subst (λ m. is_written V t m ≡ true) (label-back ρ l) (subst (λ n. is_written V n (renumbered_label (inverse ρ) (renumbered_label ρ l)) ≡ true) (ρ.traits.back_to t)
    (written-there (inverse ρ) U V (inverse-is ρ V U h) (ρ.traits.to t) (renumbered_label ρ l) e)))
    (written-there ρ V U h t l)

module _ (ρ : Renumbering) (V U : World) (h : IsRenumbering ρ V U) where
  abbrev R : Trees → Trees
  R t = renumbered ρ t

  abbrev Q : Reference → Reference
  Q r = renumbered_reference ρ r

  abbrev M : Rule → Rule
  M u = renumbered_rule ρ u

  pub is-core : (t k : ℕ) → is_declared core_world k ≡ true → (ρ.traits.to t == k) ≡ (t == k)
  is-core t k e = ap (λ n. ρ.traits.to t == n) (sym (h.core_traits_stay k e)) ∙ same-numbers-to ρ.traits t k

  -- Premises
  over-each : (t : ℕ) (xs : Trees) → map Q (each_asked t xs) ≡ each_asked (ρ.traits.to t) (R xs)
  over-each t none = refl
  over-each t (tree l c o) = cons-same refl (over-each t o)

  over-last : (t : ℕ) (xs : Trees) → map Q (last_asked t xs) ≡ last_asked (ρ.traits.to t) (R xs)
  over-last t none = refl
  over-last t (tree l c none) = refl
  over-last t (tree l c (tree m d o)) = over-last t (tree m d o)

  over-last-sized : (xs : Trees) → map Q (last_asked sized xs) ≡ last_asked sized (R xs)
  over-last-sized xs = over-last sized xs ∙ ap (λ n. last_asked n (R xs)) (h.core_traits_stay sized refl)

  over-together : (ts : List Trees) → R (together ts) ≡ together (map R ts)
  over-together [] = refl
  over-together (t ∷ ts) = over-append ρ t (together ts) ∙ ap (λ z. R t +++ z) (over-together ts)

  over-fields : (x : StructDecl) (args : Trees) → R (fields_of x args) ≡ fields_of (renumbered_struct ρ x) (R args)
  over-fields x args = over-together (map (instantiate zero args) x.fields) ∙ ap together (map-over R (instantiate zero args) (instantiate zero (R args)) (over-instantiate ρ zero args) x.fields)

  over-structs : (s : ℕ) (f g : StructDecl → List Rule) → ((x : StructDecl) → map M (f x) ≡ g (renumbered_struct ρ x)) → map M (flat_map f (structs_named V s)) ≡ flat_map g (structs_named U (ρ.structs.to s))
  over-structs s f g e = flat-over M (renumbered_struct ρ) f g e (structs_named V s) ∙ ap (flat_map g) (sym (h.same_structs s))

  -- Impls
  over-impl : (r : Reference) (i : ImplDecl) → map M (impl_rules r i) ≡ impl_rules (Q r) (renumbered_impl ρ i)
  over-impl r i =
      if-over M (fits A i.header.args && same_reference (with_args A i.header) r) (fits A' (R i.header.args) && same_reference (with_args A' (Q i.header)) (Q r))
      (record { way = by_impl i.name; premises = all_with_args A i.clauses } ∷ []) (record { way = by_impl (ρ.impls.to i.name); premises = all_with_args A' (map Q i.clauses) } ∷ [])
      (and-same (ap (λ z. fits z (R i.header.args)) (sym A-is) ∙ over-fits ρ A i.header.args)
      (ap (λ z. same_reference (with_args z (Q i.header)) (Q r)) (sym A-is) ∙ ap (λ z. same_reference z (Q r)) (sym (over-with-args ρ A i.header)) ∙ over-same-reference ρ (with_args A i.header) r))
      (ap (λ z. (let u : Rule = record { way = by_impl (ρ.impls.to i.name); premises = z } in u) ∷ []) (over-all-with-args ρ A i.clauses ∙ ap (λ z. all_with_args z (map Q i.clauses)) A-is))
    where
      A : Trees
      A = arguments i.params i.header.args r.args

      A' : Trees
      A' = arguments i.params (R i.header.args) (R r.args)

      A-is : R A ≡ A'
      A-is = over-arguments ρ i.params i.header.args r.args

  -- Rows that read Self
  over-sized : (a : Trees) → map M (sized_rules V a) ≡ sized_rules U (R a)
  over-sized none = refl
  over-sized (tree tuple c o) = ap (row sized_tuple) (over-last-sized c)
  over-sized (tree (adt s) c o) =
      over-structs s (λ x. row sized_struct (last_asked sized (fields_of x c))) (λ x. row sized_struct (last_asked sized (fields_of x (R c))))
      (λ x. ap (row sized_struct) (over-last-sized (fields_of x c) ∙ ap (last_asked sized) (over-fields x c)))
  over-sized (tree l c o) = refl

  over-copy : (t : ℕ) (a : Trees) → map M (copy_rules t a) ≡ copy_rules (ρ.traits.to t) (R a)
  over-copy t none = refl
  over-copy t (tree tuple c o) = ap (row copy_tuple) (over-each t c)
  over-copy t (tree l c o) = refl

  over-auto-plain : (t : ℕ) (a : Trees) → map M (auto_rules_plain V t a) ≡ auto_rules_plain U (ρ.traits.to t) (R a)
  over-auto-plain t none = refl
  over-auto-plain t (tree tuple c o) = ap (row auto_tuple) (over-each t c)
  over-auto-plain t (tree (adt s) c o) =
      over-structs s (λ x. row auto_struct (each_asked t (fields_of x c))) (λ x. row auto_struct (each_asked (ρ.traits.to t) (fields_of x (R c))))
      (λ x. ap (row auto_struct) (over-each t (fields_of x c) ∙ ap (each_asked (ρ.traits.to t)) (over-fields x c)))
  over-auto-plain t (tree (raw_pointer _) none p) = refl
  over-auto-plain t (tree (raw_pointer _) (tree l k o) p) = refl
  over-auto-plain t (tree array none p) = refl
  over-auto-plain t (tree array (tree l k o) p) = refl
  over-auto-plain t (tree slice none p) = refl
  over-auto-plain t (tree slice (tree l k o) p) = refl
  over-auto-plain t (tree (ref _) none p) = refl
  over-auto-plain t (tree (ref _) (tree r rc none) p) = refl
  over-auto-plain t (tree (ref _) (tree r rc (tree l k o)) p) = refl
  over-auto-plain t (tree l c o) = refl

  over-auto : (t : ℕ) (a : Trees) → map M (auto_rules V t a) ≡ auto_rules U (ρ.traits.to t) (R a)
  over-auto t none = refl
  over-auto t (tree l c o) =
      unless-over M (is_written V t l) (is_written U (ρ.traits.to t) (renumbered_label ρ l)) (auto_rules_plain V t (tree l c o)) (auto_rules_plain U (ρ.traits.to t) (R (tree l c o)))
      (written-same ρ V U h t l) (over-auto-plain t (tree l c o))

  over-tuple : (a : Trees) → map M (tuple_rules a) ≡ tuple_rules (R a)
  over-tuple none = refl
  over-tuple (tree tuple c o) = refl
  over-tuple (tree l c o) = refl

  over-fn-ptr : (a : Trees) → map M (fn_ptr_rules a) ≡ fn_ptr_rules (R a)
  over-fn-ptr none = refl
  over-fn-ptr (tree (fn_ptr n) c o) = refl
  over-fn-ptr (tree l c o) = refl

  over-but-last : (t : Trees) → R (but_last t) ≡ but_last (R t)
  over-but-last none = refl
  over-but-last (tree l c none) = refl
  over-but-last (tree l c (tree m d o)) = ap (λ z. tree (renumbered_label ρ l) (R c) z) (over-but-last (tree m d o))

  over-call : (a : Trees) → map M (call_rules a) ≡ call_rules (R a)
  over-call (tree (fn_ptr n) types (tree tuple inputs o)) =
      if-over M (same (but_last types) inputs) (same (but_last (R types)) (R inputs)) (row fn_ptr_call (last_asked sized types)) (row fn_ptr_call (last_asked sized (R types)))
      (ap (λ z. same z (R inputs)) (sym (over-but-last types)) ∙ over-same ρ (but_last types) inputs) (ap (row fn_ptr_call) (over-last-sized types))
  over-call (tree (fn_ptr n) types none) = refl
  over-call (tree (fn_ptr n) types (tree l c o)) = refl
  over-call none = refl
  over-call (tree l c o) = refl

  over-plain : (r : Reference) → map M (plain_rules r) ≡ plain_rules (Q r)
  over-plain r =
      map-append M p1 (p2 ++ (p3 ++ p4))
      ∙ append-same (if-over M ((t == copy) || (t == clone)) ((ρ.traits.to t == copy) || (ρ.traits.to t == clone)) (copy_rules t a) (copy_rules (ρ.traits.to t) (R a)) (or-same (is-core t copy refl) (is-core t clone refl)) (over-copy t a))
      (map-append M p2 (p3 ++ p4)
      ∙ append-same (if-over M (t == tuple_trait) (ρ.traits.to t == tuple_trait) (tuple_rules a) (tuple_rules (R a)) (is-core t tuple_trait refl) (over-tuple a))
      (map-append M p3 p4
      ∙ append-same (if-over M (t == fn_ptr_trait) (ρ.traits.to t == fn_ptr_trait) (fn_ptr_rules a) (fn_ptr_rules (R a)) (is-core t fn_ptr_trait refl) (over-fn-ptr a))
      (if-over M (is_fn_trait t) (is_fn_trait (ρ.traits.to t)) (call_rules a) (call_rules (R a)) (or-same (is-core t fn_once refl) (or-same (is-core t fn_mut refl) (is-core t fn_shared refl))) (over-call a))))
    where
      t : ℕ
      t = r.trait

      a : Trees
      a = r.args

      p1 : List Rule
      p1 = if (t == copy) || (t == clone) then copy_rules t a else []

      p2 : List Rule
      p2 = if t == tuple_trait then tuple_rules a else []

      p3 : List Rule
      p3 = if t == fn_ptr_trait then fn_ptr_rules a else []

      p4 : List Rule
      p4 = if is_fn_trait t then call_rules a else []

  -- Supertraits
  over-written-supers : (r : Reference) → map Q (written_supertraits V r) ≡ written_supertraits U (Q r)
  over-written-supers r =
      flat-over Q (renumbered_trait ρ) (λ t. all_with_args r.args t.bounds) (λ t. all_with_args (R r.args) t.bounds) (λ x. over-all-with-args ρ r.args x.bounds) (traits_named V r.trait)
      ∙ ap (flat_map (λ (t : TraitDecl). all_with_args (R r.args) t.bounds)) (sym (h.same_traits r.trait))

  over-within : (n : ℕ) (r : Reference) → map Q (strict_supertraits_within n V r) ≡ strict_supertraits_within n U (Q r)
  over-within zero r = refl
  over-within (suc n) r =
      flat-over Q Q (λ s. s ∷ strict_supertraits_within n V s) (λ s. s ∷ strict_supertraits_within n U s) (λ s. cons-same refl (over-within n s)) (written_supertraits V r)
      ∙ ap (flat_map (λ s. s ∷ strict_supertraits_within n U s)) (over-written-supers r)

  pub over-supers : (r : Reference) → map Q (strict_supertraits V r) ≡ strict_supertraits U (Q r)
  over-supers r = over-within (length V.traits) r ∙ ap (λ n. strict_supertraits_within n U (Q r)) (sym h.as_many_traits)

  pub over-elaborated : (rs : List Reference) → map Q (elaborated V rs) ≡ elaborated U (map Q rs)
  over-elaborated rs = flat-over Q Q (λ r. r ∷ strict_supertraits V r) (λ r. r ∷ strict_supertraits U r) (λ r. cons-same refl (over-supers r)) rs

  pub over-declared : (t : ℕ) → is_declared U (ρ.traits.to t) ≡ is_declared V t
  over-declared t = ap (list_any (λ (x : TraitDecl). true)) (h.same_traits t) ∙ any-over (renumbered_trait ρ) (λ (x : TraitDecl). true) (λ (x : TraitDecl). true) (λ x. refl) (traits_named V t)

  over-are-declared : (rs : List Reference) → are_declared U (map Q rs) ≡ are_declared V rs
  over-are-declared rs = all-over Q (λ (r : Reference). is_declared U r.trait) (λ (r : Reference). is_declared V r.trait) (λ r. over-declared r.trait) rs

  over-compatible : (ps : List Reference) → are_dyn_compatible U (map Q ps) ≡ are_dyn_compatible V ps
  over-compatible ps =
      and-same (over-are-declared ps)
      (ap (λ z. not (list_any (λ (s : Reference). s.trait == sized) z)) (sym (over-elaborated ps))
      ∙ ap not (any-over Q (λ (s : Reference). s.trait == sized) (λ (s : Reference). s.trait == sized) (λ s. is-core s.trait sized refl) (elaborated V ps)))

  over-equal : (b : ℕ → BuiltIn) (ps : List Reference) (r : Reference) (k : ℕ) (ss : List Reference) → map M (equal_rows b ps r k ss) ≡ equal_rows b (map Q ps) (Q r) k (map Q ss)
  over-equal b ps r k [] = refl
  over-equal b ps r k (s ∷ ss) =
      map-append M (if same_reference r s then row (b k) ps else []) (equal_rows b ps r (suc k) ss)
      ∙ append-same (if-over M (same_reference r s) (same_reference (Q r) (Q s)) (row (b k) ps) (row (b k) (map Q ps)) (over-same-reference ρ r s) refl) (over-equal b ps r (suc k) ss)

  -- Rows of `dyn`
  over-principal : (self b : Trees) → map Q (principal_with self b) ≡ principal_with (R self) (R b)
  over-principal self none = refl
  over-principal self (tree (principal n t) c o) = ap (λ z. (let x : Reference = record { trait = ρ.traits.to t; args = z } in x) ∷ []) (over-append ρ self c)
  over-principal self (tree l c o) = refl

  over-autos : (self b : Trees) → map Q (autos_with self b) ≡ autos_with (R self) (R b)
  over-autos self none = refl
  over-autos self (tree (auto_trait t) c o) = cons-same refl (over-autos self o)
  over-autos self (tree l c o) = over-autos self o

  over-any-same : (r : Reference) (qs : List Reference) → list_any (same_reference (Q r)) (map Q qs) ≡ list_any (same_reference r) qs
  over-any-same r qs = any-over Q (same_reference (Q r)) (same_reference r) (λ s. over-same-reference ρ r s) qs

  over-object-bounds : (r : Reference) (ps qs : List Reference) → map M (object_bound_rules V r ps qs) ≡ object_bound_rules U (Q r) (map Q ps) (map Q qs)
  over-object-bounds r ps qs =
      if-over M (is_declared V r.trait && are_dyn_compatible V ps) (is_declared U (ρ.traits.to r.trait) && are_dyn_compatible U (map Q ps)) (autos ++ principals) (autos' ++ principals')
      (and-same (over-declared r.trait) (over-compatible ps))
      (map-append M autos principals
      ∙ append-same
      (if-over M (not (r.trait == sized) && list_any (same_reference r) qs) (not (ρ.traits.to r.trait == sized) && list_any (same_reference (Q r)) (map Q qs)) (row object_auto (strict_supertraits V r)) (row object_auto (strict_supertraits U (Q r)))
      (and-same (ap not (is-core r.trait sized refl)) (over-any-same r qs))
      (ap (row object_auto) (over-supers r)))
      (if-over M (not (r.trait == sized)) (not (ρ.traits.to r.trait == sized)) (equal_rows object_principal (strict_supertraits V r) r 0 (elaborated V ps))
      (equal_rows object_principal (strict_supertraits U (Q r)) (Q r) 0 (elaborated U (map Q ps))) (ap not (is-core r.trait sized refl))
      (over-equal object_principal (strict_supertraits V r) r 0 (elaborated V ps)
      ∙ ap (λ z. equal_rows object_principal z (Q r) 0 (map Q (elaborated V ps))) (over-supers r)
      ∙ ap (λ z. equal_rows object_principal (strict_supertraits U (Q r)) (Q r) 0 z) (over-elaborated ps))))
    where
      autos : List Rule
      autos = if not (r.trait == sized) && list_any (same_reference r) qs then row object_auto (strict_supertraits V r) else []

      autos' : List Rule
      autos' = if not (ρ.traits.to r.trait == sized) && list_any (same_reference (Q r)) (map Q qs) then row object_auto (strict_supertraits U (Q r)) else []

      principals : List Rule
      principals = if not (r.trait == sized) then equal_rows object_principal (strict_supertraits V r) r 0 (elaborated V ps) else []

      principals' : List Rule
      principals' = if not (ρ.traits.to r.trait == sized) then equal_rows object_principal (strict_supertraits U (Q r)) (Q r) 0 (elaborated U (map Q ps)) else []

  over-object : (r : Reference) (a : Trees) → map M (object_rules V r a) ≡ object_rules U (Q r) (R a)
  over-object r none = refl
  over-object r (tree dynamic b o) =
      over-object-bounds r (principal_with (tree dynamic b none) b) (autos_with (tree dynamic b none) b)
      ∙ ap (λ z. object_bound_rules U (Q r) z (map Q (autos_with (tree dynamic b none) b))) (over-principal (tree dynamic b none) b)
      ∙ ap (λ z. object_bound_rules U (Q r) (principal_with (tree dynamic (R b) none) (R b)) z) (over-autos (tree dynamic b none) b)
  over-object r (tree l c o) = refl

  -- Rows of `Unsize`
  over-unsize-array : (a : Trees) → map M (unsize_array_rules a) ≡ unsize_array_rules (R a)
  over-unsize-array (tree array (tree l c n) (tree slice (tree m d p) o)) =
      if-over M (same (tree l c none) (tree m d none)) (same (R (tree l c none)) (R (tree m d none))) (row unsize_array []) (row unsize_array []) (over-same ρ (tree l c none) (tree m d none)) refl
  over-unsize-array (tree array (tree l c n) (tree slice none o)) = refl
  over-unsize-array (tree array (tree l c n) (tree m d o)) = refl
  over-unsize-array (tree array (tree l c n) none) = refl
  over-unsize-array (tree array none o) = refl
  over-unsize-array none = refl
  over-unsize-array (tree l c o) = refl

  is-dyn-same : (l : Label) → is_dyn (renumbered_label ρ l) ≡ is_dyn l
  is-dyn-same (adt s) = refl
  is-dyn-same l = refl

  over-unsize-to-dyn : (a : Trees) → map M (unsize_to_dyn_rules V a) ≡ unsize_to_dyn_rules U (R a)
  over-unsize-to-dyn (tree l c (tree dynamic b o)) =
      if-over M (not (is_dyn l) && are_dyn_compatible V (principal_with self b)) (not (is_dyn (renumbered_label ρ l)) && are_dyn_compatible U (principal_with (R self) (R b))) (row unsize_to_dyn ps) (row unsize_to_dyn qs)
      (and-same (ap not (is-dyn-same l)) (ap (are_dyn_compatible U) (sym (over-principal self b)) ∙ over-compatible (principal_with self b)))
      (ap (row unsize_to_dyn)
      (map-append Q (principal_with self b) (autos_with self b ++ asked sized self ∷ [])
      ∙ append-same (over-principal self b) (map-append Q (autos_with self b) (asked sized self ∷ []) ∙ append-same (over-autos self b) (ap (λ n. asked n (R self) ∷ []) (h.core_traits_stay sized refl)))))
    where
      self : Trees
      self = tree l c none

      ps : List Reference
      ps = principal_with self b ++ (autos_with self b ++ asked sized self ∷ [])

      qs : List Reference
      qs = principal_with (R self) (R b) ++ (autos_with (R self) (R b) ++ asked sized (R self) ∷ [])
  over-unsize-to-dyn (tree l c none) = refl
  over-unsize-to-dyn (tree l c (tree m d o)) = refl
  over-unsize-to-dyn none = refl

  over-upcasts : (ps qs : List Reference) → map M (upcasts_principal V ps qs) ≡ upcasts_principal U (map Q ps) (map Q qs)
  over-upcasts ps [] = refl
  over-upcasts [] (q ∷ qs) = refl
  over-upcasts (p ∷ ps) (q ∷ qs) =
      else-over M (p.trait == q.trait) (ρ.traits.to p.trait == ρ.traits.to q.trait) (if same_reference p q then row unsize_dyn [] else []) (equal_rows unsize_upcast [] q 1 (strict_supertraits V p))
      (if same_reference (Q p) (Q q) then row unsize_dyn [] else []) (equal_rows unsize_upcast [] (Q q) 1 (strict_supertraits U (Q p))) (same-numbers-to ρ.traits p.trait q.trait)
      (if-over M (same_reference p q) (same_reference (Q p) (Q q)) (row unsize_dyn []) (row unsize_dyn []) (over-same-reference ρ p q) refl)
      (over-equal unsize_upcast [] q 1 (strict_supertraits V p) ∙ ap (equal_rows unsize_upcast [] (Q q) 1) (over-supers p))

  over-upcasts-autos : (ps qs bs : List Reference) → upcasts_autos U (map Q ps) (map Q qs) (map Q bs) ≡ upcasts_autos V ps qs bs
  over-upcasts-autos ps qs bs =
      all-over Q (λ (b : Reference). list_any (λ (q : Reference). q.trait == b.trait) (map Q qs ++ elaborated U (map Q ps))) (λ (b : Reference). list_any (λ (q : Reference). q.trait == b.trait) (qs ++ elaborated V ps))
      (λ b. ap (list_any (λ (q : Reference). q.trait == ρ.traits.to b.trait)) (append-same refl (sym (over-elaborated ps)) ∙ sym (map-append Q qs (elaborated V ps)))
      ∙ any-over Q (λ (q : Reference). q.trait == ρ.traits.to b.trait) (λ (q : Reference). q.trait == b.trait) (λ q. same-numbers-to ρ.traits q.trait b.trait) (qs ++ elaborated V ps))
      bs

  over-upcast : (a : Trees) → map M (unsize_upcast_rules V a) ≡ unsize_upcast_rules U (R a)
  over-upcast (tree dynamic a (tree dynamic b o)) =
      if-over M (are_declared V p && upcasts_autos V p (autos_with self a) (autos_with self b)) (are_declared U p' && upcasts_autos U p' (autos_with (R self) (R a)) (autos_with (R self) (R b)))
      (upcasts_principal V p (principal_with self b)) (upcasts_principal U p' (principal_with (R self) (R b)))
      (and-same (ap (are_declared U) (sym (over-principal self a)) ∙ over-are-declared p)
      (ap (λ z. upcasts_autos U z (autos_with (R self) (R a)) (autos_with (R self) (R b))) (sym (over-principal self a))
      ∙ ap (λ z. upcasts_autos U (map Q p) z (autos_with (R self) (R b))) (sym (over-autos self a))
      ∙ ap (λ z. upcasts_autos U (map Q p) (map Q (autos_with self a)) z) (sym (over-autos self b))
      ∙ over-upcasts-autos p (autos_with self a) (autos_with self b)))
      (over-upcasts p (principal_with self b) ∙ ap (λ z. upcasts_principal U z (map Q (principal_with self b))) (over-principal self a) ∙ ap (upcasts_principal U p') (over-principal self b))
    where
      self : Trees
      self = tree dynamic a none

      p : List Reference
      p = principal_with self a

      p' : List Reference
      p' = principal_with (R self) (R a)
  over-upcast (tree dynamic a none) = refl
  over-upcast (tree dynamic a (tree l c o)) = refl
  over-upcast none = refl
  over-upcast (tree l c o) = refl

  parameter-same : (i : ℕ) (l : Label) → is_parameter i (renumbered_label ρ l) ≡ is_parameter i l
  parameter-same i (param of_type j) = refl
  parameter-same i (param of_const j) = refl
  parameter-same i (param of_lifetime j) = refl
  parameter-same i l = refl

  over-is-unsizing : (fs : List Trees) (i : ℕ) → is_unsizing (map R fs) i ≡ is_unsizing fs i
  over-is-unsizing [] i = refl
  over-is-unsizing (f ∷ []) i = over-some ρ (is_parameter i) (is_parameter i) (parameter-same i) f
  over-is-unsizing (f ∷ g ∷ fs) i = and-same (ap not (over-some ρ (is_parameter i) (is_parameter i) (parameter-same i) f)) (over-is-unsizing (g ∷ fs) i)

  over-some-unsizing : (fs : List Trees) (k : ℕ) (t : Trees) → some_unsizing (map R fs) k (R t) ≡ some_unsizing fs k t
  over-some-unsizing fs k none = refl
  over-some-unsizing fs k (tree l c o) = or-same (over-is-unsizing fs k) (over-some-unsizing fs (suc k) o)

  over-with-unsizing : (fs : List Trees) (k : ℕ) (a b : Trees) → R (with_unsizing fs k a b) ≡ with_unsizing (map R fs) k (R a) (R b)
  over-with-unsizing fs k none b = refl
  over-with-unsizing fs k (tree l c o) none = refl
  over-with-unsizing fs k (tree l c o) (tree m d p) = by (is_unsizing fs k) (is_unsizing (map R fs) k) (over-is-unsizing fs k) (over-with-unsizing fs (suc k) o p)
    where
      by : (x y : Bool) → y ≡ x → R (with_unsizing fs (suc k) o p) ≡ with_unsizing (map R fs) (suc k) (R o) (R p)
          → R (if x then tree m d (with_unsizing fs (suc k) o p) else tree l c (with_unsizing fs (suc k) o p))
          ≡ (if y then tree (renumbered_label ρ m) (R d) (with_unsizing (map R fs) (suc k) (R o) (R p)) else tree (renumbered_label ρ l) (R c) (with_unsizing (map R fs) (suc k) (R o) (R p)))
      by true true e g = ap (λ z. tree (renumbered_label ρ m) (R d) z) g
      by true false e g = cc
      by false true e g = cc
      by false false e g = ap (λ z. tree (renumbered_label ρ l) (R c) z) g

  over-last-unsizes : (fs : List Trees) (a b : Trees) → map Q (last_unsizes fs a b) ≡ last_unsizes (map R fs) (R a) (R b)
  over-last-unsizes [] a b = refl
  over-last-unsizes (f ∷ []) a b =
      cons-same
      (reference-same _ _ _ _ (h.core_traits_stay unsize refl)
      (over-append ρ (instantiate zero a f) (instantiate zero b f) ∙ two (over-instantiate ρ zero a f) (over-instantiate ρ zero b f))) refl
    where
      two : {x y z w : Trees} → x ≡ y → z ≡ w → x +++ z ≡ y +++ w
      two p q = cc
  over-last-unsizes (f ∷ g ∷ fs) a b = over-last-unsizes (g ∷ fs) a b

  over-unsize-struct : (a : Trees) → map M (unsize_struct_rules V a) ≡ unsize_struct_rules U (R a)
  over-unsize-struct (tree (adt s) a (tree (adt u) b o)) =
      if-over M (s == u) (ρ.structs.to s == ρ.structs.to u) (flat_map f (structs_named V s)) (flat_map g (structs_named U (ρ.structs.to s))) (same-numbers-to ρ.structs s u) (over-structs s f g each)
    where
      f : StructDecl → List Rule
      f x = if some_unsizing x.fields 0 a && same (with_unsizing x.fields 0 a b) b then row unsize_struct (last_unsizes x.fields a b) else []

      g : StructDecl → List Rule
      g x = if some_unsizing x.fields 0 (R a) && same (with_unsizing x.fields 0 (R a) (R b)) (R b) then row unsize_struct (last_unsizes x.fields (R a) (R b)) else []

      each : (x : StructDecl) → map M (f x) ≡ g (renumbered_struct ρ x)
      each x =
          if-over M (some_unsizing x.fields 0 a && same (with_unsizing x.fields 0 a b) b) (some_unsizing (map R x.fields) 0 (R a) && same (with_unsizing (map R x.fields) 0 (R a) (R b)) (R b))
          (row unsize_struct (last_unsizes x.fields a b)) (row unsize_struct (last_unsizes (map R x.fields) (R a) (R b)))
          (and-same (over-some-unsizing x.fields 0 a) (ap (λ z. same z (R b)) (sym (over-with-unsizing x.fields 0 a b)) ∙ over-same ρ (with_unsizing x.fields 0 a b) b))
          (ap (row unsize_struct) (over-last-unsizes x.fields a b))
  over-unsize-struct (tree (adt s) a none) = refl
  over-unsize-struct (tree (adt s) a (tree l c o)) = refl
  over-unsize-struct none = refl
  over-unsize-struct (tree l c o) = refl

  over-unsize : (a : Trees) → map M (unsize_rules V a) ≡ unsize_rules U (R a)
  over-unsize a =
      map-append M (unsize_array_rules a) (unsize_to_dyn_rules V a ++ (unsize_upcast_rules V a ++ unsize_struct_rules V a))
      ∙ append-same (over-unsize-array a)
      (map-append M (unsize_to_dyn_rules V a) (unsize_upcast_rules V a ++ unsize_struct_rules V a)
      ∙ append-same (over-unsize-to-dyn a) (map-append M (unsize_upcast_rules V a) (unsize_struct_rules V a) ∙ append-same (over-upcast a) (over-unsize-struct a)))

  -- All of them
  pub over-built-in : (r : Reference) → map M (built_in_rules V r) ≡ built_in_rules U (Q r)
  over-built-in r =
      map-append M (plain_rules r) (p1 ++ (p2 ++ (p3 ++ object_rules V r a)))
      ∙ append-same (over-plain r)
      (map-append M p1 (p2 ++ (p3 ++ object_rules V r a))
      ∙ append-same (if-over M (t == sized) (ρ.traits.to t == sized) (sized_rules V a) (sized_rules U (R a)) (is-core t sized refl) (over-sized a))
      (map-append M p2 (p3 ++ object_rules V r a)
      ∙ append-same (if-over M (is_auto V t) (is_auto U (ρ.traits.to t)) (auto_rules V t a) (auto_rules U (ρ.traits.to t) (R a)) (auto-same ρ V U h t) (over-auto t a))
      (map-append M p3 (object_rules V r a)
      ∙ append-same (if-over M (t == unsize) (ρ.traits.to t == unsize) (unsize_rules V a) (unsize_rules U (R a)) (is-core t unsize refl) (over-unsize a)) (over-object r a))))
    where
      t : ℕ
      t = r.trait

      a : Trees
      a = r.args

      p1 : List Rule
      p1 = if t == sized then sized_rules V a else []

      p2 : List Rule
      p2 = if is_auto V t then auto_rules V t a else []

      p3 : List Rule
      p3 = if t == unsize then unsize_rules V a else []

  over-super-rules : (r : Reference) (k n : ℕ) (ss : List Reference) → map M (super_rules r k n ss) ≡ super_rules (Q r) k n (map Q ss)
  over-super-rules r k n [] = refl
  over-super-rules r k n (s ∷ ss) =
      map-append M (if same_reference s r then record { way = by_super k n; premises = [] } ∷ [] else []) (super_rules r k (suc n) ss)
      ∙ append-same
      (if-over M (same_reference s r) (same_reference (Q s) (Q r)) (record { way = by_super k n; premises = [] } ∷ []) (record { way = by_super k n; premises = [] } ∷ []) (over-same-reference ρ s r) refl)
      (over-super-rules r k (suc n) ss)

  over-clause-rules : (r : Reference) (k : ℕ) (E : List Reference) → map M (clause_rules V r k E) ≡ clause_rules U (Q r) k (map Q E)
  over-clause-rules r k [] = refl
  over-clause-rules r k (s ∷ ss) =
      map-append M (if same_reference s r then record { way = by_clause k; premises = [] } ∷ [] else []) (super_rules r k 0 (strict_supertraits V s) ++ clause_rules V r (suc k) ss)
      ∙ append-same
      (if-over M (same_reference s r) (same_reference (Q s) (Q r)) (record { way = by_clause k; premises = [] } ∷ []) (record { way = by_clause k; premises = [] } ∷ []) (over-same-reference ρ s r) refl)
      (map-append M (super_rules r k 0 (strict_supertraits V s)) (clause_rules V r (suc k) ss)
      ∙ append-same (over-super-rules r k 0 (strict_supertraits V s) ∙ ap (super_rules (Q r) k 0) (over-supers s)) (over-clause-rules r (suc k) ss))

  -- each rule of V is, with other numbers, a rule of U
  pub rules-there : (E : List Reference) (r : Reference) (u : Rule) → In u (rules V E r) → In (M u) (rules U (map Q E) (Q r))
  rules-there E r u g = by (in-append u (flat_map (impl_rules r) V.impls) (built_in_rules V r ++ clause_rules V r 0 E) g)
    where
      rest : In u (built_in_rules V r) ⊎ In u (clause_rules V r 0 E) → In (M u) (built_in_rules U (Q r) ++ clause_rules U (Q r) 0 (map Q E))
      rest (inl m) = in-left (M u) (built_in_rules U (Q r)) (clause_rules U (Q r) 0 (map Q E)) (subst (In (M u)) (over-built-in r) (in-map M (built_in_rules V r) u m))
      rest (inr m) = in-right (M u) (built_in_rules U (Q r)) (clause_rules U (Q r) 0 (map Q E)) (subst (In (M u)) (over-clause-rules r 0 E) (in-map M (clause_rules V r 0 E) u m))

      by : In u (flat_map (impl_rules r) V.impls) ⊎ In u (built_in_rules V r ++ clause_rules V r 0 E) → In (M u) (rules U (map Q E) (Q r))
      by (inl m) =
          let i = in-flat (impl_rules r) V.impls u m in
          in-left (M u) (flat_map (impl_rules (Q r)) U.impls) (built_in_rules U (Q r) ++ clause_rules U (Q r) 0 (map Q E))
          (flat-in (impl_rules (Q r)) U.impls (renumbered_impl ρ i.0) (M u) (h.same_impls.0 (renumbered_impl ρ i.0) (in-map (renumbered_impl ρ) V.impls i.0 i.1))
          (subst (In (M u)) (over-impl r i.0) (in-map M (impl_rules r i.0) u i.2)))
      by (inr m) = in-right (M u) (flat_map (impl_rules (Q r)) U.impls) (built_in_rules U (Q r) ++ clause_rules U (Q r) 0 (map Q E)) (rest (in-append u (built_in_rules V r) (clause_rules V r 0 E) m))

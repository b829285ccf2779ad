-- The terms of a world one by one and all together, and what obeys the rules of texts declaration by declaration.
use Rattle.std.proofs.Common.{◌≡◌, ◌⊎◌, inl, inr, ℕ, ◌<◌, Bool, true, false, ◌&&◌, ◌==◌, List, [], ◌∷◌, map, ap, subst, IsTrue}
use Rattle.std.specs.List.{list_all}
use Rattle.type_terms.specs.Promised.Label.{Sort}
use Rattle.type_terms.specs.Promised.Trees.{Trees, erase}
use Rattle.type_terms.specs.Promised.Worlds.{World, StructDecl, TraitDecl, ImplDecl, Reference}
use Rattle.type_terms.specs.Promised.Rules.{sized}
use Rattle.type_terms.specs.Promised.Erased.{erased_reference, erased_struct, erased_trait, erased_impl}
use Rattle.type_terms.specs.Erased.{IsTerms, IsErasedTerm}
use Rattle.type_terms.specs.Promised.Supers.{mentions_as, dyns_of_bounds}
use Rattle.type_terms.specs.Promised.Proofs.{In}
use Rattle.type_terms.specs.Promised.Versions.{in_scope}
use Rattle.type_terms.specs.Promised.LinkedSet.{AllWritten, AutoAtHome, IsPlainTerm, ObeysTextRules}
use Rattle.type_terms.specs.LinkedSet.{all_args, all_written}
use Rattle.type_terms.proofs.Members.{in-cases, in-nothing}
use Rattle.type_terms.proofs.Walking.{left, right, both}
use Rattle.type_terms.proofs.NoHolds.{each-member, member-each}

-- what a function leaves as it is
pub fixed-member : {A : Type 0} (f : A → A) (xs : List A) → map f xs ≡ xs → (x : A) → In x xs → f x ≡ x
fixed-member f [] e x m = absurd (in-nothing x m)
fixed-member {A = A} f (y ∷ xs) e x m = by (in-cases x y xs m) (fixed-member f xs (tail-of e) x)
  where
    head-of : f y ∷ map f xs ≡ y ∷ xs → f y ≡ y
    head-of q = cc

    tail-of : f y ∷ map f xs ≡ y ∷ xs → map f xs ≡ xs
    tail-of q = cc

    by : (y ≡ x) ⊎ In x xs → (In x xs → f x ≡ x) → f x ≡ x
    by (inl q) g = subst (λ z. f z ≡ z) q (head-of e)
    by (inr k) g = g k

-- ---- the terms of a world
pub map-written : {P Q : Trees → Type 0} (W : World) → ((t : Trees) → P t → Q t) → AllWritten P W → AllWritten Q W
map-written W f w = record {
  fields = λ x t m k. f t (w.fields x t m k);
  bounds = λ x b m k. f b.args (w.bounds x b m k);
  headers = λ i m. f i.header.args (w.headers i m);
  clauses = λ i k m g. f k.args (w.clauses i k m g);
}

-- what a test finds of all, it finds of each
pub each-written : (p : Trees → Bool) (W : World) → all_written p W ≡ true → AllWritten (λ t. p t ≡ true) W
each-written p W h = record {
  fields = λ x t m g. member-each p x.fields t (member-each (λ (y : StructDecl). list_all p y.fields) W.structs x (left (list_all (λ (y : StructDecl). list_all p y.fields) W.structs) _ h) m) g;
  bounds = λ x b m g. member-each (λ (r : Reference). p r.args) x.bounds b (member-each (λ (y : TraitDecl). all_args p y.bounds) W.traits x (left (list_all (λ (y : TraitDecl). all_args p y.bounds) W.traits) _ rest) m) g;
  headers = λ i m. left (p i.header.args) _ (impl i m);
  clauses = λ i k m g. member-each (λ (r : Reference). p r.args) i.clauses k (right (p i.header.args) _ (impl i m)) g;
}
  where
    rest : list_all (λ (y : TraitDecl). all_args p y.bounds) W.traits && list_all (λ (i : ImplDecl). p i.header.args && all_args p i.clauses) W.impls ≡ true
    rest = right (list_all (λ (y : StructDecl). list_all p y.fields) W.structs) _ h

    impl : (i : ImplDecl) → In i W.impls → p i.header.args && all_args p i.clauses ≡ true
    impl i m = member-each (λ (j : ImplDecl). p j.header.args && all_args p j.clauses) W.impls i (right (list_all (λ (y : TraitDecl). all_args p y.bounds) W.traits) _ rest) m

pub all-written : (p : Trees → Bool) (W : World) → AllWritten (λ t. p t ≡ true) W → all_written p W ≡ true
all-written p W w =
    both (list_all (λ (x : StructDecl). list_all p x.fields) W.structs) _
    (each-member (λ (x : StructDecl). list_all p x.fields) W.structs (λ x m. each-member p x.fields (λ t k. w.fields x t m k)))
    (both (list_all (λ (x : TraitDecl). all_args p x.bounds) W.traits) _
    (each-member (λ (x : TraitDecl). all_args p x.bounds) W.traits (λ x m. each-member (λ (r : Reference). p r.args) x.bounds (λ b k. w.bounds x b m k)))
    (each-member (λ (i : ImplDecl). p i.header.args && all_args p i.clauses) W.impls
    (λ i m. both (p i.header.args) _ (w.headers i m) (each-member (λ (r : Reference). p r.args) i.clauses (λ k g. w.clauses i k m g)))))

pub dyns-hold-bounds : (W : World) → ObeysTextRules W → all_written dyns_of_bounds W ≡ true
dyns-hold-bounds W rules = all-written dyns_of_bounds W (map-written W (λ t p. p.dyns) rules.plain)

-- no term of an erased world has lifetimes
pub terms-written : (W : World) → IsTerms W → AllWritten IsErasedTerm W
terms-written W e = record {
  fields = λ x t m. fixed-member erase x.fields (ap (λ (y : StructDecl). y.fields) (fixed-member erased_struct W.structs (ap (λ (V : World). V.structs) e) x m)) t;
  bounds = λ x b m. references x.bounds (ap (λ (y : TraitDecl). y.bounds) (fixed-member erased_trait W.traits (ap (λ (V : World). V.traits) e) x m)) b;
  headers = λ i m. ap (λ (y : ImplDecl). y.header.args) (impl-term i m);
  clauses = λ i k m. references i.clauses (ap (λ (y : ImplDecl). y.clauses) (impl-term i m)) k;
}
  where
    references : (rs : List Reference) → map erased_reference rs ≡ rs → (r : Reference) → In r rs → erase r.args ≡ r.args
    references rs q r m = ap (λ (y : Reference). y.args) (fixed-member erased_reference rs q r m)

    impl-term : (x : ImplDecl) → In x W.impls → erased_impl x ≡ x
    impl-term x m = fixed-member erased_impl W.impls (ap (λ (V : World). V.impls) e) x m

-- ---- the rules of texts, declaration by declaration
abbrev pub StructObeys : StructDecl → Type 0
StructObeys x = (t : Trees) → In t x.fields → IsPlainTerm t

pub record TraitObeys (W : World) (x : TraitDecl) : Type 0 where
  pub plain : (b : Reference) → In b x.bounds → IsPlainTerm b.args
  pub names : (b : Reference) → In b x.bounds → IsTrue (in_scope W x.home b)
  pub autos_bare : x.is_auto ≡ true → x.bounds ≡ []

pub record ImplObeys (W : World) (i : ImplDecl) : Type 0 where
  pub plain_header : IsPlainTerm i.header.args
  pub plain_clauses : (k : Reference) → In k i.clauses → IsPlainTerm k.args
  pub names : IsTrue (in_scope W i.home i.header)
  pub covered : (k : Reference) → In k i.clauses → (s : Sort) (n : ℕ) → mentions_as s n k.args ≡ true → mentions_as s n i.header.args ≡ true
  pub not_sized : (i.header.trait == sized) ≡ false

module _ (W : World) where
  module _ (rules : ObeysTextRules W) where
    pub struct-rules : (x : StructDecl) → In x W.structs → StructObeys x
    struct-rules x m t k = rules.plain.fields x t m k

    pub trait-rules : (x : TraitDecl) → In x W.traits → TraitObeys W x
    trait-rules x m = record { plain = λ b k. rules.plain.bounds x b m k; names = λ b k. rules.bounds_in_scope x b m k; autos_bare = rules.autos_bare x m }

    pub impl-rules : (i : ImplDecl) → In i W.impls → ImplObeys W i
    impl-rules i m = record {
      plain_header = rules.plain.headers i m;
      plain_clauses = λ k g. rules.plain.clauses i k m g;
      names = rules.headers_in_scope i m;
      covered = λ k g. rules.clauses_covered i k m g;
      not_sized = rules.sized_alone i m;
    }

  pub all-obey : ((x : StructDecl) → In x W.structs → StructObeys x) → ((x : TraitDecl) → In x W.traits → TraitObeys W x) → ((i : ImplDecl) → In i W.impls → ImplObeys W i) → AutoAtHome W
      → (rank : ℕ → ℕ) → ((x : TraitDecl) (b : Reference) → In x W.traits → In b x.bounds → rank b.trait < rank x.name) → ObeysTextRules W
  all-obey structs traits impls home rank before = record {
    plain = record {
      fields = λ x t m k. structs x m t k;
      bounds = λ x b m k. (traits x m).plain b k;
      headers = λ i m. (impls i m).plain_header;
      clauses = λ i k m g. (impls i m).plain_clauses k g;
    };
    headers_in_scope = λ i m. (impls i m).names;
    bounds_in_scope = λ x b m k. (traits x m).names b k;
    trait_rank = rank;
    supers_before = before;
    autos_bare = λ x m. (traits x m).autos_bare;
    autos_at_home = home;
    clauses_covered = λ i k m g. (impls i m).covered k g;
    sized_alone = λ i m. (impls i m).not_sized;
  }

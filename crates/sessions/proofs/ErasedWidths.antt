-- Lifetimes make nothing wider: what is declared is as wide without them.
use Rattle.std.proofs.Common.{◌≡◌, ◌+◌, Bool, ℕ, zero, suc, max, List, [], ◌∷◌, ◌++◌, map, length, length-append, arith, refl, sym, ◌∙◌, ap}
use Rattle.std.specs.Prelude.{◌==◌, filter, fold}
use Rattle.std.specs.List.{flat_map}
use Rattle.type_terms.specs.Promised.Label.{Label, of_lifetime, fn_ptr, principal, param, placeholder, infer, canonical, bound}
use Rattle.type_terms.specs.Promised.Trees.{Trees, none, tree, erase, erase_label}
use Rattle.type_terms.specs.Promised.Erased.{erased_reference, erased_struct, erased_trait, erased_impl}
use Rattle.type_terms.specs.Promised.Rules.{written_supertraits, strict_supertraits_within, together}
use Rattle.type_terms.specs.Promised.Worlds.{World, Reference, StructDecl, TraitDecl, ImplDecl, traits_named, all_with_args}
use Rattle.type_terms.proofs.RenumberedRules.{map-append}
use Rattle.type_terms.proofs.TermRules.{filter-map}
use Rattle.goal_evaluator.specs.Promised.Widths.{count, width, with_self}
use Rattle.goal_evaluator.proofs.Widths.{count-append}
use Rattle.candidate_model.specs.Promised.Widths.{clauses_in, declared_width, greatest, supers_of, supertraits_in, width_of}
use Rattle.text_lowering.specs.Promised.SeenWorlds.{plain_reference}
use Rattle.sessions.proofs.SeenPlainly.{reference-erased}
use Rattle.type_terms.proofs.ListBasics.{map-length as length-map}

-- ---- terms
count-erased : (t : Trees) → count (erase t) ≡ count t
count-erased none = refl
count-erased (tree l c o) = ap suc (count-erased o)

self-erased : (l : Label) (n : ℕ) → with_self (erase_label l) n ≡ with_self l n
self-erased (principal m i) zero = refl
self-erased (principal m i) (suc n) = refl
self-erased (fn_ptr m) n = refl
self-erased (param of_lifetime i) n = refl
self-erased (placeholder of_lifetime i) n = refl
self-erased (infer of_lifetime i) n = refl
self-erased (canonical of_lifetime i) n = refl
self-erased (bound of_lifetime i j) n = refl
self-erased l n = refl

max-same : {a b c d : ℕ} → a ≡ b → c ≡ d → max a c ≡ max b d
max-same {b = b} {c = c} e f = ap (λ z. max z c) e ∙ ap (max b) f

width-erased : (t : Trees) → width (erase t) ≡ width t
width-erased none = refl
width-erased (tree l c o) = max-same (ap (with_self (erase_label l)) (count-erased c) ∙ self-erased l (count c)) (max-same (width-erased c) (width-erased o))

width-of-erased : (r : Reference) → width_of (erased_reference r) ≡ width_of r
width-of-erased r = max-same (count-erased r.args) (width-erased r.args)

pub plain-width : (kept : ℕ → Bool) (r : Reference) → width_of (plain_reference kept r) ≡ width_of r
plain-width kept r = sym (width-of-erased (plain_reference kept r)) ∙ ap width_of (reference-erased kept r) ∙ width-of-erased r

count-together : (ts : List Trees) → count (together (map erase ts)) ≡ count (together ts)
count-together [] = refl
count-together (t ∷ ts) =
    count-append (erase t) (together (map erase ts)) ∙ ap (λ z. z + count (together (map erase ts))) (count-erased t) ∙ ap (λ z. count t + z) (count-together ts) ∙ sym (count-append t (together ts))

-- ---- lists
-- what is made of a list of numbers by an operation, one after the other
along : {A B : Type 0} (op : ℕ → ℕ → ℕ) (f : B → ℕ) (h : A → B) (g : A → ℕ) → ((x : A) → f (h x) ≡ g x) → (xs : List A) (z : ℕ) → fold op z (map f (map h xs)) ≡ fold op z (map g xs)
along op f h g e [] z = refl
along op f h g e (x ∷ xs) z = ap (λ n. fold op (op z n) (map f (map h xs))) (e x) ∙ along op f h g e xs (op z (g x))

greatest-erased : {A B : Type 0} (f : B → ℕ) (h : A → B) (g : A → ℕ) → ((x : A) → f (h x) ≡ g x) → (xs : List A) (ys : List B) → map h xs ≡ ys → greatest g xs ≡ greatest f ys
greatest-erased f h g e xs ys is = sym (along max f h g e xs zero) ∙ ap (greatest f) is

-- ---- supertraits, counted by their traits alone
abbrev traits_of : List Reference → List ℕ
traits_of rs = map (λ (r : Reference). r.trait) rs

-- what is declared by the second world is what the first declares, without lifetimes
pub record IsErasedWorld (V W : World) : Type 0 where
  pub structs : map erased_struct V.structs ≡ W.structs
  pub traits : map erased_trait V.traits ≡ W.traits
  pub impls : map erased_impl V.impls ≡ W.impls

cons-same : {A : Type 0} {a b : A} {c d : List A} → a ≡ b → c ≡ d → a ∷ c ≡ b ∷ d
cons-same e f = cc

append-same : {A : Type 0} {a b c d : List A} → a ≡ b → c ≡ d → a ++ c ≡ b ++ d
append-same {b = b} {c = c} e f = ap (λ z. z ++ c) e ∙ ap (λ z. b ++ z) f

bounds-traits : (A B : Trees) (bs : List Reference) → traits_of (all_with_args B (map erased_reference bs)) ≡ traits_of (all_with_args A bs)
bounds-traits A B [] = refl
bounds-traits A B (b ∷ bs) = cons-same refl (bounds-traits A B bs)

written-traits : (A B : Trees) (xs : List TraitDecl) → traits_of (flat_map (λ (x : TraitDecl). all_with_args B x.bounds) (map erased_trait xs)) ≡ traits_of (flat_map (λ (x : TraitDecl). all_with_args A x.bounds) xs)
written-traits A B [] = refl
written-traits A B (x ∷ xs) =
    map-append (λ (r : Reference). r.trait) (all_with_args B (map erased_reference x.bounds)) (flat_map (λ (x : TraitDecl). all_with_args B x.bounds) (map erased_trait xs))
    ∙ append-same (bounds-traits A B x.bounds) (written-traits A B xs)
    ∙ sym (map-append (λ (r : Reference). r.trait) (all_with_args A x.bounds) (flat_map (λ (x : TraitDecl). all_with_args A x.bounds) xs))

module _ (V W : World) (is : IsErasedWorld V W) where
  named-erased : (t : ℕ) → traits_named W t ≡ map erased_trait (traits_named V t)
  named-erased t = ap (filter (λ (x : TraitDecl). x.name == t)) (sym is.traits) ∙ filter-map erased_trait (λ (x : TraitDecl). x.name == t) (λ (x : TraitDecl). x.name == t) (λ x. refl) V.traits

  written-same : (r q : Reference) → q.trait ≡ r.trait → traits_of (written_supertraits W q) ≡ traits_of (written_supertraits V r)
  written-same r q e =
      ap (λ n. traits_of (flat_map (λ (x : TraitDecl). all_with_args q.args x.bounds) (traits_named W n))) e
      ∙ ap (λ xs. traits_of (flat_map (λ (x : TraitDecl). all_with_args q.args x.bounds) xs)) (named-erased r.trait)
      ∙ written-traits r.args q.args (traits_named V r.trait)

  abbrev below : ℕ → World → Reference → List Reference
  below n U r = r ∷ strict_supertraits_within n U r

  first-same : (r q : Reference) (rs qs : List Reference) → traits_of (q ∷ qs) ≡ traits_of (r ∷ rs) → q.trait ≡ r.trait
  first-same r q rs qs e = cc

  rest-same : (r q : Reference) (rs qs : List Reference) → traits_of (q ∷ qs) ≡ traits_of (r ∷ rs) → traits_of qs ≡ traits_of rs
  rest-same r q rs qs e = cc

  added : (a b c d x y : ℕ) → x ≡ a + b → y ≡ c + d → a ≡ c → b ≡ d → suc x ≡ suc y
  added a b c d x y e f g h = omega (arith, e, f, g, h)

  levels : (n : ℕ) → ((r q : Reference) → q.trait ≡ r.trait → length (strict_supertraits_within n W q) ≡ length (strict_supertraits_within n V r)) → (rs qs : List Reference) → traits_of qs ≡ traits_of rs
      → length (flat_map (below n W) qs) ≡ length (flat_map (below n V) rs)
  levels n go [] [] e = refl
  levels n go [] (q ∷ qs) e = absurd (cc)
  levels n go (r ∷ rs) [] e = absurd (cc)
  levels n go (r ∷ rs) (q ∷ qs) e =
      added (length (strict_supertraits_within n W q)) (length (flat_map (below n W) qs)) (length (strict_supertraits_within n V r)) (length (flat_map (below n V) rs)) _ _
      (length-append (strict_supertraits_within n W q) (flat_map (below n W) qs)) (length-append (strict_supertraits_within n V r) (flat_map (below n V) rs))
      (go r q (first-same r q rs qs e)) (levels n go rs qs (rest-same r q rs qs e))

  as-many : (n : ℕ) (r q : Reference) → q.trait ≡ r.trait → length (strict_supertraits_within n W q) ≡ length (strict_supertraits_within n V r)
  as-many zero r q e = refl
  as-many (suc n) r q e = levels n (as-many n) (written_supertraits V r) (written_supertraits W q) (written-same r q e)

  supers-erased : (x : TraitDecl) → supers_of W (erased_trait x) ≡ supers_of V x
  supers-erased x =
      let r : Reference = record { trait = x.name; args = none } in
      ap (λ n. length (strict_supertraits_within n W r)) (ap length (sym is.traits) ∙ length-map erased_trait V.traits) ∙ as-many (length V.traits) r r refl

  -- ---- what is declared
  struct-width : (x : StructDecl) → max (count (together (map erase x.fields))) (greatest width (map erase x.fields)) ≡ max (count (together x.fields)) (greatest width x.fields)
  struct-width x = max-same (count-together x.fields) (sym (greatest-erased width erase width width-erased x.fields (map erase x.fields) refl))

  references-width : (rs : List Reference) → greatest width_of (map erased_reference rs) ≡ greatest width_of rs
  references-width rs = sym (greatest-erased width_of erased_reference width_of width-of-erased rs (map erased_reference rs) refl)

  trait-width : (x : TraitDecl) → max (supers_of W (erased_trait x)) (max (length (map erased_reference x.bounds)) (greatest width_of (map erased_reference x.bounds)))
      ≡ max (supers_of V x) (max (length x.bounds) (greatest width_of x.bounds))
  trait-width x = max-same (supers-erased x) (max-same (length-map erased_reference x.bounds) (references-width x.bounds))

  impl-width : (x : ImplDecl) → max (width_of (erased_reference x.header)) (greatest width_of (map erased_reference x.clauses)) ≡ max (width_of x.header) (greatest width_of x.clauses)
  impl-width x = max-same (width-of-erased x.header) (references-width x.clauses)

  pub declared-erased : declared_width V ≡ declared_width W
  declared-erased =
      max-same (greatest-erased (λ (x : StructDecl). max (count (together x.fields)) (greatest width x.fields)) erased_struct (λ (x : StructDecl). max (count (together x.fields)) (greatest width x.fields)) struct-width V.structs W.structs is.structs)
      (max-same (greatest-erased (λ (x : TraitDecl). max (supers_of W x) (max (length x.bounds) (greatest width_of x.bounds))) erased_trait (λ (x : TraitDecl). max (supers_of V x) (max (length x.bounds) (greatest width_of x.bounds))) trait-width V.traits W.traits is.traits)
      (greatest-erased (λ (x : ImplDecl). max (width_of x.header) (greatest width_of x.clauses)) erased_impl (λ (x : ImplDecl). max (width_of x.header) (greatest width_of x.clauses)) impl-width V.impls W.impls is.impls))

  pub supertraits-erased : supertraits_in V ≡ supertraits_in W
  supertraits-erased = greatest-erased (supers_of W) erased_trait (supers_of V) supers-erased V.traits W.traits is.traits

  pub clauses-in-erased : clauses_in V ≡ clauses_in W
  clauses-in-erased =
      sym (along (λ a b. a + b) (λ (x : ImplDecl). length x.clauses) erased_impl (λ (x : ImplDecl). length x.clauses) (λ x. length-map erased_reference x.clauses) V.impls zero)
      ∙ ap (λ xs. fold (λ a b. a + b) zero (map (λ (x : ImplDecl). length x.clauses) xs)) is.impls

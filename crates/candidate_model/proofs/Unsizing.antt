-- `T: Unsize<dyn B>`: the rule of an instance is the instance of the rule of what is asked.
use Rattle.std.proofs.Common.{◌≡◌, ℕ, zero, suc, Bool, true, false, not, ◌&&◌, ◌||◌, ◌==◌, if◌then◌else◌, List, [], ◌∷◌, ◌++◌, map, length, refl, sym, ◌∙◌, ap, subst}
use Rattle.std.specs.List.{flat_map, list_all, list_any}
use Rattle.type_terms.specs.Promised.Label.{Label, of_lifetime, dynamic, static, principal, auto_trait, param, placeholder, infer, canonical, bound, predicate}
use Rattle.type_terms.specs.Promised.Trees.{Trees, none, tree, is_sort, sort_of}
use Rattle.type_terms.specs.Trees.{is_no_tree}
use Rattle.type_terms.specs.Promised.Worlds.{World, Reference, TraitDecl, traits_named, all_with_args}
use Rattle.type_terms.specs.Promised.Rules.{row, unsize_to_dyn, unsize_to_dyn_rules, is_dyn, is_declared, are_declared, are_dyn_compatible, elaborated, principal_with, autos_with, asked, sized, strict_supertraits, strict_supertraits_within, written_supertraits}
use Rattle.type_terms.proofs.Walking.{left, right}
use Rattle.type_terms.specs.Made.{terms}
use Rattle.type_terms.specs.Made.{bounds}
use Rattle.type_terms.specs.Made.{traits}
use Rattle.type_terms.specs.Made.{is_made}
use Rattle.goal_evaluator.specs.Instances.{read_with}
use Rattle.goal_evaluator.specs.Content.{given}
use Rattle.candidate_model.specs.Declared.{is_declared_view}
use Rattle.candidate_model.proofs.Reading.{read-append, read_reference}
use Rattle.candidate_model.proofs.Rows.{read_rule}
use Rattle.type_terms.proofs.BooleanBasics.{true-false}

-- ---- which traits are supertraits depends on the trait alone
abbrev pub traits_of : List Reference → List ℕ
traits_of rs = map (λ (r : Reference). r.trait) rs

pub map-append : {A B : Type 0} (f : A → B) (ys zs : List A) → map f (ys ++ zs) ≡ map f ys ++ map f zs
map-append f [] zs = refl
map-append f (y ∷ ys) zs = ap (λ w. f y ∷ w) (map-append f ys zs)

bounds-same : (A B : Trees) (bs : List Reference) → traits_of (all_with_args A bs) ≡ traits_of (all_with_args B bs)
bounds-same A B [] = refl
bounds-same A B (b ∷ bs) = ap (λ w. b.trait ∷ w) (bounds-same A B bs)

written-same : (A B : Trees) (xs : List TraitDecl) → traits_of (flat_map (λ (t : TraitDecl). all_with_args A t.bounds) xs) ≡ traits_of (flat_map (λ (t : TraitDecl). all_with_args B t.bounds) xs)
written-same A B [] = refl
written-same A B (x ∷ xs) =
    map-append (λ (r : Reference). r.trait) (all_with_args A x.bounds) (flat_map (λ (t : TraitDecl). all_with_args A t.bounds) xs)
    ∙ ap (λ w. w ++ traits_of (flat_map (λ (t : TraitDecl). all_with_args A t.bounds) xs)) (bounds-same A B x.bounds)
    ∙ ap (λ w. traits_of (all_with_args B x.bounds) ++ w) (written-same A B xs)
    ∙ sym (map-append (λ (r : Reference). r.trait) (all_with_args B x.bounds) (flat_map (λ (t : TraitDecl). all_with_args B t.bounds) xs))

first-same : (i j : ℕ) (is js : List ℕ) → i ∷ is ≡ j ∷ js → i ≡ j
first-same i j is js e = cc

rest-same : (i j : ℕ) (is js : List ℕ) → i ∷ is ≡ j ∷ js → is ≡ js
rest-same i j is js e = cc

-- lists of the same traits, each with what is made of it
pub spread-same : (f g : Reference → List Reference) → ((r s : Reference) → r.trait ≡ s.trait → traits_of (f r) ≡ traits_of (g s)) → (rs ss : List Reference) → traits_of rs ≡ traits_of ss
    → traits_of (flat_map (λ r. r ∷ f r) rs) ≡ traits_of (flat_map (λ s. s ∷ g s) ss)
spread-same f g h [] [] e = refl
spread-same f g h [] (s ∷ ss) e = absurd (cc)
spread-same f g h (r ∷ rs) [] e = absurd (cc)
spread-same f g h (r ∷ rs) (s ∷ ss) e =
    let p = first-same r.trait s.trait (traits_of rs) (traits_of ss) e in
    map-append (λ (x : Reference). x.trait) (r ∷ f r) (flat_map (λ x. x ∷ f x) rs)
    ∙ ap (λ i. (i ∷ traits_of (f r)) ++ traits_of (flat_map (λ x. x ∷ f x) rs)) p
    ∙ ap (λ w. (s.trait ∷ w) ++ traits_of (flat_map (λ x. x ∷ f x) rs)) (h r s p)
    ∙ ap (λ w. (s.trait ∷ traits_of (g s)) ++ w) (spread-same f g h rs ss (rest-same r.trait s.trait (traits_of rs) (traits_of ss) e))
    ∙ sym (map-append (λ (x : Reference). x.trait) (s ∷ g s) (flat_map (λ x. x ∷ g x) ss))

pub within-same : (n : ℕ) (V : World) (r s : Reference) → r.trait ≡ s.trait → traits_of (strict_supertraits_within n V r) ≡ traits_of (strict_supertraits_within n V s)
within-same zero V r s e = refl
within-same (suc n) V r s e =
    spread-same (strict_supertraits_within n V) (strict_supertraits_within n V) (λ x y q. within-same n V x y q) (written_supertraits V r) (written_supertraits V s)
    (ap (λ i. traits_of (flat_map (λ (t : TraitDecl). all_with_args r.args t.bounds) (traits_named V i))) e ∙ written-same r.args s.args (traits_named V s.trait))

any-trait : (rs : List Reference) → list_any (λ (r : Reference). r.trait == sized) rs ≡ list_any (λ i. i == sized) (traits_of rs)
any-trait [] = refl
any-trait (r ∷ rs) = ap (λ b. (r.trait == sized) || b) (any-trait rs)

pub all-declared : (V : World) (rs : List Reference) → are_declared V rs ≡ list_all (is_declared V) (traits_of rs)
all-declared V [] = refl
all-declared V (r ∷ rs) = ap (λ b. is_declared V r.trait && b) (all-declared V rs)

pub compatible-same : (V : World) (rs ss : List Reference) → traits_of rs ≡ traits_of ss → are_dyn_compatible V rs ≡ are_dyn_compatible V ss
compatible-same V rs ss e =
    ap (λ b. b && not (list_any (λ (s : Reference). s.trait == sized) (elaborated V rs))) (all-declared V rs ∙ ap (list_all (is_declared V)) e ∙ sym (all-declared V ss))
    ∙ ap (λ b. are_declared V ss && not b)
    (any-trait (elaborated V rs)
    ∙ ap (list_any (λ i. i == sized)) (spread-same (strict_supertraits V) (strict_supertraits V) (λ x y q. within-same (length V.traits) V x y q) rs ss e)
    ∙ sym (any-trait (elaborated V ss)))

module _ (V : World) (declared : is_declared_view V ≡ true) (xs : List Trees) where
  abbrev read : Trees → Trees
  read t = read_with (given xs) t

  -- ---- the bounds of a `dyn`
  pub principal-read : (good : Label → Bool) (self b : Trees) → is_made good bounds b ≡ true → principal_with (read self) (read b) ≡ map (read_reference xs) (principal_with self b)
  principal-read good self none m = refl
  principal-read good self (tree (principal n t) c o) m = ap (λ z. record { trait = t; args = z } ∷ []) (sym (read-append xs self c))
  principal-read good self (tree (auto_trait t) c o) m = refl
  principal-read good self (tree (predicate k) c o) m = absurd (true-false (sym m))
  principal-read good self (tree static c o) m = refl
  principal-read good self (tree (param of_lifetime i) c o) m = refl
  principal-read good self (tree (placeholder of_lifetime i) c o) m = refl
  principal-read good self (tree (infer of_lifetime i) c o) m = refl
  principal-read good self (tree (canonical of_lifetime i) c o) m = refl
  principal-read good self (tree (bound of_lifetime i j) c o) m = refl
  principal-read good self (tree l c o) m = absurd (true-false (sym (left (is_sort (sort_of l) of_lifetime) (is_no_tree c && is_no_tree o) (right (good l) (is_sort (sort_of l) of_lifetime && (is_no_tree c && is_no_tree o)) m))))

  last-lifetime : (good : Label → Bool) (self : Trees) (l : Label) (c o : Trees) → good l && (is_sort (sort_of l) of_lifetime && (is_no_tree c && is_no_tree o)) ≡ true → o ≡ none
  last-lifetime good self l c none m = refl
  last-lifetime good self l c (tree k d p) m =
      absurd (true-false (sym (right (is_no_tree c) false (right (is_sort (sort_of l) of_lifetime) (is_no_tree c && false) (right (good l) (is_sort (sort_of l) of_lifetime && (is_no_tree c && false)) m)))))

  traits-read : (good : Label → Bool) (self b : Trees) → is_made good traits b ≡ true → autos_with (read self) (read b) ≡ map (read_reference xs) (autos_with self b)
  traits-read good self none m = refl
  traits-read good self (tree (auto_trait t) c o) m = ap (λ w. asked t (read self) ∷ w) (traits-read good self o (right (is_no_tree c) (is_made good traits o) m))
  traits-read good self (tree (predicate k) c o) m = absurd (true-false (sym m))
  traits-read good self (tree static c o) m = traits-none static c o m
    where
      traits-none : (l : Label) (c o : Trees) → good l && (is_sort (sort_of l) of_lifetime && (is_no_tree c && is_no_tree o)) ≡ true → autos_with (read self) (read o) ≡ map (read_reference xs) (autos_with self o)
      traits-none l c o e = subst (λ z. autos_with (read self) (read z) ≡ map (read_reference xs) (autos_with self z)) (sym (last-lifetime good self l c o e)) refl
  traits-read good self (tree (param of_lifetime i) c o) m = subst (λ z. autos_with (read self) (read z) ≡ map (read_reference xs) (autos_with self z)) (sym (last-lifetime good self (param of_lifetime i) c o m)) refl
  traits-read good self (tree (placeholder of_lifetime i) c o) m = subst (λ z. autos_with (read self) (read z) ≡ map (read_reference xs) (autos_with self z)) (sym (last-lifetime good self (placeholder of_lifetime i) c o m)) refl
  traits-read good self (tree (infer of_lifetime i) c o) m = subst (λ z. autos_with (read self) (read z) ≡ map (read_reference xs) (autos_with self z)) (sym (last-lifetime good self (infer of_lifetime i) c o m)) refl
  traits-read good self (tree (canonical of_lifetime i) c o) m = subst (λ z. autos_with (read self) (read z) ≡ map (read_reference xs) (autos_with self z)) (sym (last-lifetime good self (canonical of_lifetime i) c o m)) refl
  traits-read good self (tree (bound of_lifetime i j) c o) m = subst (λ z. autos_with (read self) (read z) ≡ map (read_reference xs) (autos_with self z)) (sym (last-lifetime good self (bound of_lifetime i j) c o m)) refl
  traits-read good self (tree l c o) m = absurd (true-false (sym (left (is_sort (sort_of l) of_lifetime) (is_no_tree c && is_no_tree o) (right (good l) (is_sort (sort_of l) of_lifetime && (is_no_tree c && is_no_tree o)) m))))

  pub autos-read : (good : Label → Bool) (self b : Trees) → is_made good bounds b ≡ true → autos_with (read self) (read b) ≡ map (read_reference xs) (autos_with self b)
  autos-read good self none m = refl
  autos-read good self (tree (principal n t) c o) m = traits-read good self o (right (is_made good terms c) (is_made good traits o) m)
  autos-read good self (tree (auto_trait t) c o) m = ap (λ w. asked t (read self) ∷ w) (traits-read good self o (right (is_no_tree c) (is_made good traits o) m))
  autos-read good self (tree (predicate k) c o) m = absurd (true-false (sym m))
  autos-read good self (tree static c o) m = subst (λ z. autos_with (read self) (read z) ≡ map (read_reference xs) (autos_with self z)) (sym (last-lifetime good self static c o m)) refl
  autos-read good self (tree (param of_lifetime i) c o) m = subst (λ z. autos_with (read self) (read z) ≡ map (read_reference xs) (autos_with self z)) (sym (last-lifetime good self (param of_lifetime i) c o m)) refl
  autos-read good self (tree (placeholder of_lifetime i) c o) m = subst (λ z. autos_with (read self) (read z) ≡ map (read_reference xs) (autos_with self z)) (sym (last-lifetime good self (placeholder of_lifetime i) c o m)) refl
  autos-read good self (tree (infer of_lifetime i) c o) m = subst (λ z. autos_with (read self) (read z) ≡ map (read_reference xs) (autos_with self z)) (sym (last-lifetime good self (infer of_lifetime i) c o m)) refl
  autos-read good self (tree (canonical of_lifetime i) c o) m = subst (λ z. autos_with (read self) (read z) ≡ map (read_reference xs) (autos_with self z)) (sym (last-lifetime good self (canonical of_lifetime i) c o m)) refl
  autos-read good self (tree (bound of_lifetime i j) c o) m = subst (λ z. autos_with (read self) (read z) ≡ map (read_reference xs) (autos_with self z)) (sym (last-lifetime good self (bound of_lifetime i j) c o m)) refl
  autos-read good self (tree l c o) m = absurd (true-false (sym (left (is_sort (sort_of l) of_lifetime) (is_no_tree c && is_no_tree o) (right (good l) (is_sort (sort_of l) of_lifetime && (is_no_tree c && is_no_tree o)) m))))

  pub traits-stay : (rs : List Reference) → traits_of (map (read_reference xs) rs) ≡ traits_of rs
  traits-stay [] = refl
  traits-stay (r ∷ rs) = ap (λ w. r.trait ∷ w) (traits-stay rs)

  -- the row, where both the type and the target's head are known
  pub unsize-natural : (good : Label → Bool) (k : Label) (c b o : Trees) → read (tree k c none) ≡ tree k (read c) none → is_made good bounds b ≡ true
      → unsize_to_dyn_rules V (tree k (read c) (tree dynamic (read b) (read o))) ≡ map (read_rule V declared xs) (unsize_to_dyn_rules V (tree k c (tree dynamic b o)))
  unsize-natural good k c b o self m =
      ap (λ s. if not (is_dyn k) && are_dyn_compatible V (principal_with s (read b)) then row unsize_to_dyn (principal_with s (read b) ++ (autos_with s (read b) ++ asked sized s ∷ [])) else []) (sym self)
      ∙ ap (λ ps. if not (is_dyn k) && are_dyn_compatible V ps then row unsize_to_dyn (ps ++ (autos_with (read own) (read b) ++ asked sized (read own) ∷ [])) else []) (principal-read good own b m)
      ∙ ap (λ q. if not (is_dyn k) && q then row unsize_to_dyn (map (read_reference xs) (principal_with own b) ++ (autos_with (read own) (read b) ++ asked sized (read own) ∷ [])) else [])
      (compatible-same V (map (read_reference xs) (principal_with own b)) (principal_with own b) (traits-stay (principal_with own b)))
      ∙ ap (λ qs. if not (is_dyn k) && are_dyn_compatible V (principal_with own b) then row unsize_to_dyn (map (read_reference xs) (principal_with own b) ++ (qs ++ asked sized (read own) ∷ [])) else []) (autos-read good own b m)
      ∙ by (not (is_dyn k) && are_dyn_compatible V (principal_with own b))
    where
      own : Trees
      own = tree k c none

      all : map (read_reference xs) (principal_with own b) ++ (map (read_reference xs) (autos_with own b) ++ asked sized (read own) ∷ []) ≡ map (read_reference xs) (principal_with own b ++ (autos_with own b ++ asked sized own ∷ []))
      all =
          ap (λ w. map (read_reference xs) (principal_with own b) ++ w) (sym (map-append (read_reference xs) (autos_with own b) (asked sized own ∷ [])))
          ∙ sym (map-append (read_reference xs) (principal_with own b) (autos_with own b ++ asked sized own ∷ []))

      by : (q : Bool) → (if q then row unsize_to_dyn (map (read_reference xs) (principal_with own b) ++ (map (read_reference xs) (autos_with own b) ++ asked sized (read own) ∷ [])) else [])
          ≡ map (read_rule V declared xs) (if q then row unsize_to_dyn (principal_with own b ++ (autos_with own b ++ asked sized own ∷ [])) else [])
      by true = ap (λ w. row unsize_to_dyn w) all
      by false = refl

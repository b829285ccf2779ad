-- What holds of references, and of the written supertraits of those of which it holds, holds of all that they are elaborated to.
use Rattle.std.proofs.Common.{ℕ, zero, suc, Bool, true, false, if◌then◌else◌, ◌==◌, List, [], ◌∷◌, ◌++◌, map, length}
use Rattle.std.specs.List.{flat_map}
use Rattle.type_terms.specs.Promised.Worlds.{World, Reference, TraitDecl, traits_named, with_args}
use Rattle.type_terms.specs.Promised.Rules.{written_supertraits}
use Rattle.type_terms.specs.Promised.Proofs.{In}
use Rattle.type_terms.proofs.Members.{here, there, in-filter}
use Rattle.goal_evaluator.specs.Lists.{Every}
use Rattle.declarations.specs.Promised.Elaboration.{is_put, new_of, pushed, off_stack, all_levels, elaborate, rest_of, supertraits}
use Rattle.goal_evaluator.proofs.ListLaws.{Every-map as every-map}
use Rattle.goal_evaluator.proofs.Basics.{both-lists}

pub every-in : {A : Type 0} (P : A → Type 0) (xs : List A) → ((x : A) → In x xs → P x) → Every P xs
every-in P [] f = tt
every-in P (x ∷ xs) f = (f x (here x xs), every-in P xs (λ y i. f y (there y x xs i)))

pub every-flat : {A B : Type 0} (P : B → Type 0) (f : A → List B) (xs : List A) → ((x : A) → In x xs → Every P (f x)) → Every P (flat_map f xs)
every-flat P f [] h = tt
every-flat P f (x ∷ xs) h = both-lists P (f x) (flat_map f xs) (h x (here x xs)) (every-flat P f xs (λ y i. h y (there y x xs i)))

pub every-rest : {A : Type 0} (P : A → Type 0) (xs : List A) → Every P xs → Every P (rest_of xs)
every-rest P [] h = tt
every-rest P (x ∷ xs) h = h.1

module _ (V : World) (P : Reference → Type 0) (closed : (r : Reference) → P r → (x : TraitDecl) → In x V.traits → (b : Reference) → In b x.bounds → P (with_args r.args b)) where
  written-so : (r : Reference) → P r → Every P (written_supertraits V r)
  written-so r h =
      every-flat P (λ (x : TraitDecl). map (with_args r.args) x.bounds) (traits_named V r.trait)
      (λ x i. every-map P (with_args r.args) x.bounds (every-in (λ (b : Reference). P (with_args r.args b)) x.bounds (λ b j. closed r h x (in-filter (λ (y : TraitDecl). y.name == r.trait) V.traits x i).0 b j)))

  new-so : (before rs : List Reference) → Every P rs → Every P (new_of before rs)
  new-so before [] h = tt
  new-so before (r ∷ rs) h = by (is_put r before) (new-so before rs h.1) (new-so (r ∷ before) rs h.1)
    where
      by : (b : Bool) → Every P (new_of before rs) → Every P (new_of (r ∷ before) rs) → Every P (if b then new_of before rs else r ∷ new_of (r ∷ before) rs)
      by true f g = f
      by false f g = (h.0, g)

  pushed-so : (rs stack : List Reference) → Every P rs → Every P stack → Every P (pushed rs stack)
  pushed-so [] stack h g = g
  pushed-so (r ∷ rs) stack h g = pushed-so rs (r ∷ stack) h.1 (h.0, g)

  off-so : (n : ℕ) (before stack : List Reference) → Every P stack → Every P (off_stack n V before stack)
  off-so zero before stack h = tt
  off-so (suc n) before [] h = tt
  off-so (suc n) before (r ∷ stack) h =
      let new = new_of before (written_supertraits V r) in
      (h.0, off-so n (new ++ before) (pushed new stack) (pushed-so new stack (new-so before (written_supertraits V r) (written-so r h.0)) h.1))

  pub elaborated-so : (rs : List Reference) → Every P rs → Every P (elaborate V rs)
  elaborated-so rs h = off-so (length (all_levels V rs)) (new_of [] rs) (pushed (new_of [] rs) []) (pushed-so (new_of [] rs) [] (new-so [] rs h) tt)

  pub supertraits-so : (r : Reference) → P r → Every P (supertraits V r)
  supertraits-so r h = every-rest P (elaborate V (r ∷ [])) (elaborated-so (r ∷ []) (h, tt))

-- What a crate sees of a text determines what is solved by.
use Rattle.std.proofs.Common.{◌≡◌, ◌∙◌, ℕ, Bool, true, false, ◌==◌, ◌&&◌, ◌||◌, not, List, [], ◌∷◌, map, Option, Some, if◌then◌else◌, refl, sym, ap}
use Rattle.std.proofs.Math.Path.{fun_ext}
use Rattle.std.specs.Option.{option_map_or}
use Rattle.type_terms.specs.Promised.Label.{Sort, of_type, of_trait, predicate, dynamic, principal, adt}
use Rattle.type_terms.specs.Promised.Trees.{Trees, none, tree}
use Rattle.type_terms.specs.Promised.Worlds.{World, Reference, StructDecl, TraitDecl}
use Rattle.type_terms.specs.Promised.Rules.{unsize}
use Rattle.type_terms.specs.Promised.Handles.{Entry}
use Rattle.type_terms.specs.declared.AdtId.{AdtId}
use Rattle.type_terms.specs.declared.TraitId.{TraitId}
use Rattle.type_terms.proofs.ListBasics.{first-same, rest-same}
use Rattle.declarations.specs.Applied.{sort_of_param, sorts_of}
use Rattle.declarations.specs.Items.{Items, struct_at, struct_in, trait_at, trait_in, written}
use Rattle.declarations.specs.declared.items.AdtDef.{AdtDef}
use Rattle.declarations.specs.declared.items.TraitDef.{TraitDef}
use Rattle.infer_table.specs.Canonical.{CanonicalForm}
use Rattle.candidate_model.specs.Asking.{next_of}
use Rattle.candidate_assembly.specs.Fitting.{are_of_struct, are_of_trait, fits_declared, is_shut, names_unsize, predicate_fits, principal_fits, reference_fits, same_sorts, sorts_declared, type_fits}
use Rattle.candidate_assembly.specs.Solving.{Solving, DeclaredSorts}
use Rattle.text_language.specs.Promised.Declarations.{Declarations}
use Rattle.text_lowering.specs.Seen.{struct_sorts, trait_sorts}
use Rattle.sessions.specs.Sessions.{IsSolvingOf}

-- ---- items with the same numbers and the same kinds of parameters
abbrev traits_told : List Sort → Option TraitDef → Bool
traits_told ss o = option_map_or (λ (def : TraitDef). same_sorts ss (map sort_of_param def.params.items)) o true

abbrev structs_told : List Sort → Option AdtDef → Bool
structs_told ss o = option_map_or (λ (def : AdtDef). same_sorts ss (map sort_of_param def.params.items)) o true

traits-alike : (t : ℕ) (ss : List Sort) (xs ys : List (TraitId × TraitDef)) → map (λ (x : TraitId × TraitDef). x.0.index) xs ≡ map (λ (x : TraitId × TraitDef). x.0.index) ys
    → map trait_sorts xs ≡ map trait_sorts ys → traits_told ss (trait_at t xs) ≡ traits_told ss (trait_at t ys)
traits-alike t ss [] [] n s = refl
traits-alike t ss [] (y ∷ ys) n s = absurd cc
traits-alike t ss (x ∷ xs) [] n s = absurd cc
traits-alike t ss (x ∷ xs) (y ∷ ys) n s =
    by (t == x.0.index) (t == y.0.index) (ap (λ k. t == k) (first-same _ _ _ _ n)) (ap (same_sorts ss) (first-same _ _ _ _ s)) (traits-alike t ss xs ys (rest-same _ _ _ _ n) (rest-same _ _ _ _ s))
  where
    by : (b c : Bool) → b ≡ c → same_sorts ss (trait_sorts x) ≡ same_sorts ss (trait_sorts y) → traits_told ss (trait_at t xs) ≡ traits_told ss (trait_at t ys)
        → traits_told ss (if b then Some x.1 else trait_at t xs) ≡ traits_told ss (if c then Some y.1 else trait_at t ys)
    by true true e p q = p
    by false false e p q = q
    by true false e p q = absurd cc
    by false true e p q = absurd cc

structs-alike : (t : ℕ) (ss : List Sort) (xs ys : List (AdtId × AdtDef)) → map (λ (x : AdtId × AdtDef). x.0.index) xs ≡ map (λ (x : AdtId × AdtDef). x.0.index) ys
    → map struct_sorts xs ≡ map struct_sorts ys → structs_told ss (struct_at t xs) ≡ structs_told ss (struct_at t ys)
structs-alike t ss [] [] n s = refl
structs-alike t ss [] (y ∷ ys) n s = absurd cc
structs-alike t ss (x ∷ xs) [] n s = absurd cc
structs-alike t ss (x ∷ xs) (y ∷ ys) n s =
    by (t == x.0.index) (t == y.0.index) (ap (λ k. t == k) (first-same _ _ _ _ n)) (ap (same_sorts ss) (first-same _ _ _ _ s)) (structs-alike t ss xs ys (rest-same _ _ _ _ n) (rest-same _ _ _ _ s))
  where
    by : (b c : Bool) → b ≡ c → same_sorts ss (struct_sorts x) ≡ same_sorts ss (struct_sorts y) → structs_told ss (struct_at t xs) ≡ structs_told ss (struct_at t ys)
        → structs_told ss (if b then Some x.1 else struct_at t xs) ≡ structs_told ss (if c then Some y.1 else struct_at t ys)
    by true true e p q = p
    by false false e p q = q
    by true false e p q = absurd cc
    by false true e p q = absurd cc

-- ---- what fits
module _ (d e : Items) (traits : (t : ℕ) (ss : List Sort) → are_of_trait d t ss ≡ are_of_trait e t ss) (structs : (t : ℕ) (ss : List Sort) → are_of_struct d t ss ≡ are_of_struct e t ss) where
  principal-alike : (b : Trees) → principal_fits d b ≡ principal_fits e b
  principal-alike none = refl
  principal-alike (tree (principal n t) args o) = ap (λ z. z && is_shut args) (traits t (of_type ∷ sorts_of args))
  principal-alike (tree l c o) = refl

  type-alike : (t : Trees) → type_fits d t ≡ type_fits e t
  type-alike none = refl
  type-alike (tree (adt s) args o) = structs s (sorts_of args)
  type-alike (tree dynamic bounds o) = ap (λ z. z && not (names_unsize bounds)) (principal-alike bounds)
  type-alike (tree l c o) = refl

  reference-alike : (r : Reference) → reference_fits d r ≡ reference_fits e r
  reference-alike r =
      ap (λ z. z && (is_shut r.args && (type_fits d r.args && (not (r.trait == unsize) || type_fits d (next_of r.args))))) (traits r.trait (sorts_of r.args))
      ∙ ap (λ z. are_of_trait e r.trait (sorts_of r.args) && (is_shut r.args && (z && (not (r.trait == unsize) || type_fits d (next_of r.args))))) (type-alike r.args)
      ∙ ap (λ z. are_of_trait e r.trait (sorts_of r.args) && (is_shut r.args && (type_fits e r.args && (not (r.trait == unsize) || z)))) (type-alike (next_of r.args))

  predicate-alike : (p : Trees) → predicate_fits d p ≡ predicate_fits e p
  predicate-alike none = refl
  predicate-alike (tree (predicate (of_trait t)) args o) = reference-alike (record { trait = t; args = args })
  predicate-alike (tree l c o) = refl

  pub fits-alike : fits_declared d ≡ fits_declared e
  fits-alike = fun_ext (λ (f : CanonicalForm). predicate-alike f.goal.predicate)

-- ---- the same view, crate and kinds
trait-numbers : (es : List Entry) (xs : List (TraitId × TraitDef)) → map (λ (x : TraitDecl). x.name) (map (trait_in es) xs) ≡ map (λ (x : TraitId × TraitDef). x.0.index) xs
trait-numbers es [] = refl
trait-numbers es (x ∷ xs) = ap (λ ns. x.0.index ∷ ns) (trait-numbers es xs)

struct-numbers : (es : List Entry) (xs : List (AdtId × AdtDef)) → map (λ (x : StructDecl). x.name) (map (struct_in es) xs) ≡ map (λ (x : AdtId × AdtDef). x.0.index) xs
struct-numbers es [] = refl
struct-numbers es (x ∷ xs) = ap (λ ns. x.0.index ∷ ns) (struct-numbers es xs)

solving-parts : (V W : World) (c k : ℕ) (f g : CanonicalForm → Bool) (s t : DeclaredSorts) → V ≡ W → c ≡ k → f ≡ g → s ≡ t
    → (let x : Solving = record { view = V; crate = c; fits = f; sorts = s } in x) ≡ record { view = W; crate = k; fits = g; sorts = t }
solving-parts V W c k f g s t p q r u = cc

sorts-parts : (a b : List (List Sort)) (p q : List (List Sort)) (x y : List (List Sort)) → a ≡ b → p ≡ q → x ≡ y
    → (let s : DeclaredSorts = record { structs = a; traits = p; impls = x } in s) ≡ record { structs = b; traits = q; impls = y }
sorts-parts a b p q x y e f g = cc

pub same-solving : (d : Declarations) (c : ℕ) (s t : Solving) → IsSolvingOf d c s → IsSolvingOf d c t → s ≡ t
same-solving d c s t x y =
    let es = x.entries in
    let fs = y.entries in
    let D = x.declarations in
    let E = y.declarations in
    let view : written es D ≡ written fs E = x.seen.written ∙ sym y.seen.written in
    let traits = sym (trait-numbers es D.traits) ∙ ap (λ (w : World). map (λ (z : TraitDecl). z.name) w.traits) view ∙ trait-numbers fs E.traits in
    let structs = sym (struct-numbers es D.structs) ∙ ap (λ (w : World). map (λ (z : StructDecl). z.name) w.structs) view ∙ struct-numbers fs E.structs in
    let fits =
    fits-alike D E (λ t ss. traits-alike t ss D.traits E.traits traits (x.seen.traits ∙ sym y.seen.traits))
    (λ t ss. structs-alike t ss D.structs E.structs structs (x.seen.structs ∙ sym y.seen.structs))
    in
    x.is
    ∙ solving-parts (written es D) (written fs E) D.local E.local (fits_declared D) (fits_declared E) (sorts_declared D) (sorts_declared E) view (x.local ∙ sym y.local) fits
    (sorts-parts _ _ _ _ _ _ (x.seen.structs ∙ sym y.seen.structs) (x.seen.traits ∙ sym y.seen.traits) (x.seen.impls ∙ sym y.seen.impls))
    ∙ sym y.is

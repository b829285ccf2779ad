-- The views of a world are in it with its own numbers.
use Rattle.std.proofs.Common.{◌≡◌, ℕ, List, [], ◌∷◌, map, refl, sym, ap, ◌∙◌, subst}
use Rattle.type_terms.specs.Promised.Label.{Label, of_trait, adt, principal, auto_trait, predicate}
use Rattle.type_terms.specs.Promised.Trees.{Trees, none, tree}
use Rattle.type_terms.specs.Promised.Worlds.{World, CrateDecl, Reference, StructDecl, TraitDecl, ImplDecl, crates_named, structs_named, traits_named, view_of}
use Rattle.type_terms.specs.Promised.Proofs.{In, Every}
use Rattle.type_terms.specs.Renumbering.{as_they_are, view_at}
use Rattle.type_terms.specs.Promised.Renumbering.{HoldsView, renumbered_label, renumbered, renumbered_reference, renumbered_crate, renumbered_struct, renumbered_trait, renumbered_impl}
use Rattle.type_terms.proofs.ViewLaws.{as-it-was}

two : {A : Type 0} {a b : A} {c d : List A} → a ≡ b → c ≡ d → a ∷ c ≡ b ∷ d
two e g = cc

map-same : {A : Type 0} (f : A → A) → ((x : A) → f x ≡ x) → (xs : List A) → map f xs ≡ xs
map-same f h [] = refl
map-same f h (x ∷ xs) = two (h x) (map-same f h xs)

label-same : (l : Label) → renumbered_label as_they_are l ≡ l
label-same (adt s) = refl
label-same (principal n t) = refl
label-same (auto_trait t) = refl
label-same (predicate (of_trait t)) = refl
label-same (predicate k) = refl
label-same l = refl

tree-same : (t : Trees) → renumbered as_they_are t ≡ t
tree-same none = refl
tree-same (tree l c o) = node (label-same l) (tree-same c) (tree-same o)
  where
    node : {l m : Label} {c d o p : Trees} → l ≡ m → c ≡ d → o ≡ p → tree l c o ≡ tree m d p
    node e f g = cc

pub reference-same : (r : Reference) → renumbered_reference as_they_are r ≡ r
reference-same r = ap (λ z. (let x : Reference = record { trait = r.trait; args = z } in x)) (tree-same r.args)

crate-same : (x : CrateDecl) → renumbered_crate as_they_are x ≡ x
crate-same x = ap (λ z. (let y : CrateDecl = record { name = x.name; uses = z } in y)) (map-same (λ n. n) (λ n. refl) x.uses)

struct-same : (x : StructDecl) → renumbered_struct as_they_are x ≡ x
struct-same x = ap (λ z. (let y : StructDecl = record { name = x.name; home = x.home; is_fundamental = x.is_fundamental; fields = z } in y)) (map-same (renumbered as_they_are) tree-same x.fields)

trait-same : (x : TraitDecl) → renumbered_trait as_they_are x ≡ x
trait-same x = ap (λ z. (let y : TraitDecl = record { name = x.name; home = x.home; is_fundamental = x.is_fundamental; is_auto = x.is_auto; bounds = z } in y)) (map-same (renumbered_reference as_they_are) reference-same x.bounds)

pub impl-same : (x : ImplDecl) → renumbered_impl as_they_are x ≡ x
impl-same x =
    ap (λ z. (let y : ImplDecl = record { name = x.name; home = x.home; params = x.params; header = z; clauses = map (renumbered_reference as_they_are) x.clauses } in y)) (reference-same x.header)
    ∙ ap (λ z. (let y : ImplDecl = record { name = x.name; home = x.home; params = x.params; header = x.header; clauses = z } in y)) (map-same (renumbered_reference as_they_are) reference-same x.clauses)

pub holds-view : (W : World) (c : ℕ) → HoldsView W (view_at W c)
holds-view W c =
    let V = view_of W c in
    let same = map-same (renumbered_impl as_they_are) impl-same V.impls in
    as-it-was W (view_at W c)
    (record {
      core_stays = refl;
      box_stays = refl;
      core_traits_stay = λ t h. refl;
      same_crates = λ x. sym (map-same (renumbered_crate as_they_are) crate-same (crates_named V x));
      same_structs = λ x. sym (map-same (renumbered_struct as_they_are) struct-same (structs_named V x));
      same_traits = λ x. sym (map-same (renumbered_trait as_they_are) trait-same (traits_named V x));
      as_many_traits = refl;
      same_impls = (λ x h. subst (In x) same h, λ x h. subst (In x) (sym same) h);
    })

pub hold-views : (W : World) (cs : List ℕ) → Every (HoldsView W) (map (view_at W) cs)
hold-views W [] = tt
hold-views W (c ∷ cs) = (holds-view W c, hold-views W cs)

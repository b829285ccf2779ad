-- Well-formed declarations, without lifetimes.
use Rattle.std.specs.Prelude.{◌≡◌, ◌≤◌, ◌<◌, ◌==◌, ℕ, suc, Bool, true, false, ◌&&◌, ◌||◌, not, nat_lt, List, length}
use Rattle.std.specs.List.{list_all}
use Rattle.type_terms.specs.Promised.Label.{Label, Sort, of_lifetime, param, placeholder, infer, canonical, bound, fn_ptr, principal}
use Rattle.type_terms.specs.Promised.Trees.{Trees, is_sort, some_node}
use Rattle.type_terms.specs.Trees.{Single}
use Rattle.type_terms.specs.Promised.Worlds.{World, Reference, StructDecl, TraitDecl, ImplDecl, structs_named}
use Rattle.type_terms.specs.Promised.Proofs.{In}
use Rattle.type_terms.specs.Made.{terms}
use Rattle.type_terms.specs.Made.{is_made}

-- Neither a variable nor a placeholder. Declarations may have parameters.
abbrev pub is_declared_leaf : Label → Bool
is_declared_leaf (placeholder k i) = false
is_declared_leaf (infer k i) = false
is_declared_leaf (canonical k i) = false
is_declared_leaf (bound k j i) = false
is_declared_leaf l = true

-- A binder with a number of lifetimes, which terms without lifetimes do not have.
abbrev pub is_counted : Label → Bool
is_counted (fn_ptr (suc n)) = true
is_counted (principal (suc n) t) = true
is_counted l = false

-- The terms are well-formed and bind no lifetimes.
abbrev pub are_terms : Trees → Bool
are_terms t = is_made is_declared_leaf terms t && not (some_node is_counted t)

abbrev pub IsDeclared : Trees → Type 0
IsDeclared t = are_terms t ≡ true

abbrev pub are_references : List Reference → Bool
are_references rs = list_all (λ r. are_terms r.args) rs

-- All terms of the view's declarations are so.
abbrev pub is_declared_view : World → Bool
is_declared_view V =
    list_all (λ (x : StructDecl). list_all are_terms x.fields) V.structs
    && (list_all (λ (x : TraitDecl). are_references x.bounds) V.traits && list_all (λ (i : ImplDecl). are_terms i.header.args && are_references i.clauses) V.impls)

-- No two structs have one name.
abbrev pub StructsAreOne : World → Type 0
StructsAreOne V = (s : ℕ) → length (structs_named V s) ≤ 1

-- A field of a struct is one term.
abbrev pub FieldsAreOne : World → Type 0
FieldsAreOne V = (x : StructDecl) (t : Trees) → In x V.structs → In t x.fields → Single t

abbrev pub is_lifetime_parameter : Label → Bool
is_lifetime_parameter (param of_lifetime i) = true
is_lifetime_parameter l = false

-- The bounds of traits are without lifetimes: no lifetime parameter occurs in them.
abbrev pub BoundsAreErased : World → Type 0
BoundsAreErased V = (x : TraitDecl) (r : Reference) → In x V.traits → In r x.bounds → some_node is_lifetime_parameter r.args ≡ false

-- A parameter with this number, but of another kind.
abbrev pub is_otherwise : Sort → ℕ → Label → Bool
is_otherwise k i (param s j) = not (is_sort s k) && (i == j)
is_otherwise k i l = false

-- A parameter that the impl does not declare, or one that occurs in the header with two kinds.
abbrev pub is_unsorted : ℕ → Trees → Label → Bool
is_unsorted n header (param s i) = not (nat_lt i n) || some_node (is_otherwise s i) header
is_unsorted n header l = false

-- Each parameter in the header of an impl is declared by the impl, and has one kind there.
abbrev pub parameters_are_sorted : World → Bool
parameters_are_sorted V = list_all (λ (i : ImplDecl). not (some_node (is_unsorted i.params i.header.args) i.header.args)) V.impls

-- Each supertrait has a lower rank than the trait.
abbrev pub LeadDown : World → (ℕ → ℕ) → Type 0
LeadDown V rank = (x : TraitDecl) (b : Reference) → In x V.traits → In b x.bounds → rank b.trait < rank x.name

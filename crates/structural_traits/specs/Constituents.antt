-- The types that a built-in rule has as premises. They depend on the self type alone.
use Rattle.std.specs.Prelude.{◌≡◌, ℕ, List, [], ◌∷◌, map, Option, Some, None, IfSome}
use Rattle.type_terms.specs.Promised.Label.{adt}
use Rattle.type_terms.specs.Promised.Trees.{Trees, tree, erase}
use Rattle.type_terms.specs.Trees.{outer_binder}
use Rattle.type_terms.specs.Promised.Worlds.{Reference}
use Rattle.type_terms.specs.Promised.Rules.{Rule, Way, built_in, asked}
use Rattle.type_terms.specs.Promised.Handles.{Entry, trees_at}
use Rattle.type_terms.specs.declared.AdtId.{AdtId}
use Rattle.type_terms.specs.declared.kinds.Ty.{Ty}
use Rattle.declarations.specs.declared.items.AdtDef.{AdtDef}
use Rattle.declarations.specs.Items.{Items, struct_at}
use Rattle.declarations.specs.Promised.Elaboration.{Each}
use Rattle.declarations.specs.Applied.{sort_of_param, sorts_of, SpeaksOf}

-- The premises of each of the rules.
abbrev pub premises_of : List Rule → List (List Reference)
premises_of us = map (λ u. u.premises) us

-- The trait reference `type: Trait` for each of the types.
abbrev pub types_asked : List Entry → ℕ → List Ty → List Reference
types_asked es t tys = map (λ ty. asked t (trees_at es ty.0)) tys

-- If types are given there is one rule, and its premises are these types with the trait. For `None` there is no rule.
abbrev pub AreConstituents : {R : Type 0} → (R → List Ty) → List Entry → ℕ → List Rule → Option R → Type 0
AreConstituents items es t us None = premises_of us ≡ []
AreConstituents items es t us (Some r) = premises_of us ≡ types_asked es t (items r) ∷ []

-- The same without lifetimes.
abbrev pub each_asked_of : List Entry → ℕ → List Ty → List Reference
each_asked_of es t tys = map (λ (ty : Ty). asked t (erase (trees_at es ty.0))) tys

-- The rule instance is a built-in rule.
abbrev pub IsBuiltInWay : Way → Type 0
IsBuiltInWay (built_in b) = Unit {0}
IsBuiltInWay w = ⊥

-- There is one rule, a built-in rule with these premises.
abbrev pub IsOneRow : List Rule → List Reference → Type 0
IsOneRow (u ∷ []) ps = IsBuiltInWay u.way × (u.premises ≡ ps)
IsOneRow us ps = ⊥

-- The last type, as a list.
abbrev pub last_of : List Ty → List Ty
last_of [] = []
last_of (t ∷ []) = t ∷ []
last_of (t ∷ u ∷ ts) = last_of (u ∷ ts)

-- If the struct is declared, the arguments have the kinds of its parameters. No bound variable in them refers to a binder outside.
pub record AreArguments (d : Items) (s : ℕ) (args : Trees) : Type 0 where
  pub sorts : IfSome (struct_at s d.structs) (λ def. sorts_of args ≡ map sort_of_param def.params.items)
  pub closed : outer_binder args ≡ 0

-- If the first type is a struct, it has an argument for each parameter.
abbrev pub StructIsApplied : Items → Trees → Type 0
StructIsApplied d (tree (adt s) args o) = AreArguments d s args
StructIsApplied d t = Unit {0}

-- The parameters in the fields of a struct are parameters of that struct.
abbrev pub HaveFields : List Entry → Items → Type 0
HaveFields es d = Each (λ (x : AdtId × AdtDef). Each (λ (f : Ty). SpeaksOf (map sort_of_param x.1.params.items) (trees_at es f.0)) x.1.fields.items) d.structs

-- If the type is a struct, its arguments fit the fields.
pub record FitsFields (es : List Entry) (d : Items) (t : Trees) : Type 0 where
  pub fields : HaveFields es d
  pub applied : StructIsApplied d t

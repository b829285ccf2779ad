-- What the queries of a text hold.
use Rattle.std.specs.Prelude.{◌≡◌, ℕ, zero, suc, Bool, true, false, not, ltb, if◌then◌else◌, List, [], ◌∷◌, Ok, Some, slice_get}
use Rattle.type_terms.specs.Promised.Label.{Label, Sort, of_type, of_const, of_lifetime, param, placeholder, infer, canonical, bound}
use Rattle.type_terms.specs.Promised.Trees.{is_sort, some_node}
use Rattle.type_terms.specs.Promised.Worlds.{Reference}
use Rattle.declarations.specs.Promised.Elaboration.{Each}
use Rattle.text_language.specs.Promised.Declarations.{Declarations, Question}
use Rattle.text_language.specs.Text.{TextGives}
use Rattle.text_lowering.specs.Promised.SeenWorlds.{unbound_reference}
use Rattle.text_lowering.specs.Promised.Questions.{variable_kinds}

-- How many of them are of a kind.
abbrev pub number_of : Sort → List Sort → ℕ
number_of s [] = zero
number_of s (k ∷ ks) = if is_sort k s then suc (number_of s ks) else number_of s ks

-- A parameter or inference variable that is none of these kinds. In a query it cannot get a value.
abbrev pub is_undeclared_variable : List Sort → Label → Bool
is_undeclared_variable ks (infer of_type i) = not (ltb i (number_of of_type ks))
is_undeclared_variable ks (infer of_const i) = not (ltb i (number_of of_const ks))
is_undeclared_variable ks (infer of_lifetime i) = true
is_undeclared_variable ks (canonical s i) = true
is_undeclared_variable ks (param of_lifetime i) = false
is_undeclared_variable ks (param s i) = true
is_undeclared_variable ks (placeholder of_lifetime i) = false
is_undeclared_variable ks (placeholder s i) = true
is_undeclared_variable ks (bound of_lifetime j i) = false
is_undeclared_variable ks (bound s j i) = true
is_undeclared_variable ks l = false

-- The trait reference holds no parameter that is a type or a constant, and no inference variable but those of these kinds.
abbrev pub HoldsVariablesAlone : List Sort → Reference → Type 0
HoldsVariablesAlone ks r = some_node (is_undeclared_variable ks) (unbound_reference r).args ≡ false

-- This holds of each trait reference of the query, with the kinds of the query's variables.
abbrev pub HasVariablesAlone : Question → Type 0
HasVariablesAlone q = Each (HoldsVariablesAlone (variable_kinds q)) (q.asked ∷ q.further)

-- This holds for each `refute` query of a text without a fault.
abbrev pub RefutationsHaveVariablesAlone : Type 0
RefutationsHaveVariablesAlone =
    (bytes : List ℕ) (d : Declarations) → TextGives bytes (Ok d) → (k : ℕ) (q : Question) → slice_get d.questions k ≡ Some q → q.is_refute ≡ true → HasVariablesAlone q

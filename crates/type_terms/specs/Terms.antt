-- Interners, as contracts describe them, and what is true of the terms of each.
use Rattle.std.specs.Prelude.{◌≡◌, ℕ, List, [], ◌∷◌, ◌++◌, Some, refl, ◌⊎◌, ◌≢◌, true}
use Rattle.std.specs.List.{slice_get}
use Rattle.std.specs.Coded.{Coded, code_by, coded×, coded_ℕ, coded_list}
use Rattle.type_terms.specs.Promised.Label.{Label, of_type, of_const, of_lifetime}
use Rattle.type_terms.specs.Promised.Trees.{Trees, leaf, ◌+++◌, sort_of, IsA}
use Rattle.type_terms.specs.Codes.{trees_code}
use Rattle.type_terms.specs.Made.{terms, bounds, is_made, is_in_range}
use Rattle.type_terms.specs.Promised.Handles.{Entry, types, consts, bounds_lists}

abbrev pub entry_code : Coded Entry
entry_code = code_by (ℕ × Trees) (coded× coded_ℕ trees_code) (λ e. (e.kind, e.trees)) (λ p. record { kind = p.0; trees = p.1 }) (λ _. refl)

-- The terms by rising number, the limit of each kind of handle, and how many more terms fit without an allocation.
pub record Terms : Type 0 where
  pub entries : List Entry
  pub limit : ℕ
  pub room : ℕ

abbrev pub terms_code : Coded Terms
terms_code =
    code_by (List Entry × (ℕ × ℕ)) (coded× (coded_list entry_code) (coded× coded_ℕ coded_ℕ))
    (λ e. (e.entries, (e.limit, e.room)))
    (λ p. record { entries = p.0; limit = p.1.0; room = p.1.1 })
    (λ _. refl)

abbrev pub args_lists : ℕ
args_lists = 2

abbrev pub type_lists : ℕ
type_lists = 3

-- The term is not among these.
abbrev pub Absent : Entry → List Entry → Type 0
Absent e es = (i : ℕ) → slice_get es i ≡ Some e → ⊥

-- The new terms are the old ones, with one more if it was not among them.
abbrev pub AddsAtMost : List Entry → Entry → List Entry → Type 0
AddsAtMost old e new = (new ≡ old) ⊎ (Absent e old × (new ≡ old ++ e ∷ []))

-- Handles of one kind are equal exactly if their terms are.
abbrev pub Distinct : List Entry → Type 0
Distinct es = (i j : ℕ) (e : Entry) → slice_get es i ≡ Some e → slice_get es j ≡ Some e → i ≡ j

-- A handle of a type has one type, and a handle of a constant one constant.
pub record Sorted (e : Entry) : Type 0 where
  pub as_type : e.kind ≡ types → IsA of_type e.trees
  pub as_const : e.kind ≡ consts → IsA of_const e.trees

abbrev pub AllSorted : List Entry → Type 0
AllSorted es = (i : ℕ) (e : Entry) → slice_get es i ≡ Some e → Sorted e

-- The term has the shape of a term. Bounds have it when a lifetime follows them.
pub record Made (e : Entry) : Type 0 where
  pub as_terms : e.kind ≢ bounds_lists → is_made is_in_range terms e.trees ≡ true
  pub as_bounds : e.kind ≡ bounds_lists → (l : Label) → sort_of l ≡ of_lifetime → is_in_range l ≡ true → is_made is_in_range bounds (e.trees +++ leaf l) ≡ true

abbrev pub AllMade : List Entry → Type 0
AllMade es = (i : ℕ) (e : Entry) → slice_get es i ≡ Some e → Made e

-- What is true of the terms of every interner.
pub record Lawful (es : List Entry) : Type 0 where
  pub sorted : AllSorted es
  pub made : AllMade es
  pub distinct : Distinct es

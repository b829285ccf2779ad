-- The tables of frames of goals without inference variables.
use Rattle.std.specs.Prelude.{◌≡◌, ℕ, zero, suc, true, false, List, [], ◌∷◌, map, Option, Some, None}
use Rattle.type_terms.specs.Promised.Label.{Sort, of_type, of_const, of_lifetime}
use Rattle.type_terms.specs.Promised.Trees.{Trees, is_sort}
use Rattle.infer_table.specs.declared.canonical.CanonicalVarKind.{CanonicalVarKind}
use Rattle.infer_table.specs.declared.canonical.CanonicalVarKind.TheVariants.{Ty, PlaceholderTy, Const, PlaceholderConst, Region}
use Rattle.goal_evaluator.specs.Lists.{Every}
use Rattle.goal_evaluator.specs.Instances.{is_place, as_place, first_term, other_terms, term_at}
use Rattle.goal_evaluator.specs.Content.{Values, NestedQuestion}
use Rattle.goal_evaluator.specs.FrameTables.{FrameTable, is_placeholder_of}
use Rattle.goal_evaluator.specs.Tables.{frame_tables}
use Rattle.solver_completeness.specs.Closed.{Closing}

abbrev pub Kinds : Type 0
Kinds = List (Option CanonicalVarKind)

-- a placeholder or a lifetime
abbrev pub IsClosedKind : Option CanonicalVarKind → Type 0
IsClosedKind (Some PlaceholderTy) = Unit {0}
IsClosedKind (Some PlaceholderConst) = Unit {0}
IsClosedKind (Some Region) = Unit {0}
IsClosedKind (Some Ty) = ⊥
IsClosedKind (Some Const) = ⊥
IsClosedKind None = ⊥

abbrev pub AreClosed : Kinds → Type 0
AreClosed ks = Every IsClosedKind ks

abbrev pub kind_in : Kinds → ℕ → Option CanonicalVarKind
kind_in [] i = None
kind_in (k ∷ ks) zero = k
kind_in (k ∷ ks) (suc i) = kind_in ks i

-- the value of each placeholder is a parameter or placeholder
abbrev pub FitPlaces : Kinds → List Trees → Type 0
FitPlaces [] ts = Unit {0}
FitPlaces (Some PlaceholderTy ∷ ks) ts = (is_place of_type (first_term ts) ≡ true) × FitPlaces ks (other_terms ts)
FitPlaces (Some PlaceholderConst ∷ ks) ts = (is_place of_const (first_term ts) ≡ true) × FitPlaces ks (other_terms ts)
FitPlaces (k ∷ ks) ts = FitPlaces ks (other_terms ts)

-- and different ones have different values
abbrev pub TellPlaces : Kinds → List Trees → Type 0
TellPlaces ks ts =
    (k : Sort) (i j : ℕ) → is_placeholder_of k (kind_in ks i) ≡ true → is_placeholder_of k (kind_in ks j) ≡ true
    → as_place k (term_at ts i) ≡ as_place k (term_at ts j) → (is_sort k of_lifetime ≡ false) → i ≡ j

pub record ArePlaces (ks : Kinds) (v : Values) : Type 0 where
  pub proper : v.proper ≡ true
  pub fit : FitPlaces ks v.terms
  pub apart : TellPlaces ks v.terms

abbrev pub closed_tables : Closing frame_tables
closed_tables = record {
  Shape = Kinds;
  shape = λ (t : FrameTable). map Some t.kinds;
  shape_of = λ (q : NestedQuestion). q.form.kinds;
  IsClosed = AreClosed;
  IsApart = ArePlaces;
}

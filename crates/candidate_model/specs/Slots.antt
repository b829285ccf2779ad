-- Values of variables of these kinds, in the form of the tables of frames.
use Rattle.std.specs.Prelude.{List, [], ◌∷◌}
use Rattle.type_terms.specs.Promised.Label.{of_type, of_const, static}
use Rattle.type_terms.specs.Promised.Trees.{Trees, leaf}
use Rattle.infer_table.specs.declared.canonical.CanonicalVarKind.{CanonicalVarKind}
use Rattle.infer_table.specs.declared.canonical.CanonicalVarKind.TheVariants.{Ty, PlaceholderTy, Const, PlaceholderConst, Region}
use Rattle.goal_evaluator.specs.Instances.{of_sort, as_place, first_term, other_terms}
use Rattle.goal_evaluator.specs.Content.{Values}

-- A term of the variable's kind. Lifetimes are `'static`.
abbrev pub own_slot : CanonicalVarKind → Trees → Trees
own_slot Ty x = of_sort of_type x
own_slot Const x = of_sort of_const x
own_slot PlaceholderTy x = as_place of_type x
own_slot PlaceholderConst x = as_place of_const x
own_slot Region x = leaf static

-- A term for each kind.
abbrev pub as_slots : List CanonicalVarKind → List Trees → List Trees
as_slots [] ts = []
as_slots (k ∷ ks) ts = own_slot k (first_term ts) ∷ as_slots ks (other_terms ts)

abbrev pub with_slots : List CanonicalVarKind → Values → Values
with_slots ks v = record { proper = v.proper; terms = as_slots ks v.terms }

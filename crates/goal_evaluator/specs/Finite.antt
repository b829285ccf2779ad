-- The values of the variables of a canonical goal if each is one of given terms: finitely many.
use Rattle.std.specs.Prelude.{◌≡◌, Bool, true, false, List, [], ◌∷◌, ◌++◌, map, Option}
use Rattle.type_terms.specs.Promised.Label.{of_type, of_const, of_lifetime, placeholder}
use Rattle.type_terms.specs.Promised.Trees.{Trees, leaf}
use Rattle.infer_table.specs.declared.canonical.CanonicalVarKind.{CanonicalVarKind}
use Rattle.goal_evaluator.specs.Lists.{IsAmong}
use Rattle.goal_evaluator.specs.Instances.{default_label}
use Rattle.goal_evaluator.specs.Content.{Values, NestedQuestion, ChosenTerms}
use Rattle.goal_evaluator.specs.FrameTables.{FrameTable, Allows, Nested, question, fact, values_at}

-- the terms that replace missing ones
abbrev pub default_terms : List Trees
default_terms =
    leaf (default_label of_type)
    ∷ leaf (default_label of_const)
    ∷ leaf (default_label of_lifetime)
    ∷ leaf (placeholder of_type 0)
    ∷ leaf (placeholder of_const 0)
    ∷ []

-- each of the terms in front of each of the lists
abbrev pub each_before : List Trees → List (List Trees) → List (List Trees)
each_before [] lists = []
each_before (t ∷ ts) lists = map (λ rest. t ∷ rest) lists ++ each_before ts lists

-- the lists of these terms that are as long as the list of kinds
abbrev pub lists_of : List Trees → List (Option CanonicalVarKind) → List (List Trees)
lists_of ts [] = [] ∷ []
lists_of ts (k ∷ ks) = each_before ts (lists_of ts ks)

abbrev pub marked : Bool → List Trees → Values
marked b ts = record { proper = b; terms = ts }

-- all values of a canonical goal's variables that are given terms or defaults
abbrev pub made_of : NestedQuestion → Values → List Values
made_of q v = map (marked true) (lists_of (v.terms ++ default_terms) q.form.kinds) ++ map (marked false) (lists_of (v.terms ++ default_terms) q.form.kinds)

-- values made of terms that are made of other terms are made of the other terms
abbrev pub MadeOfIsClosed : Type 0
MadeOfIsClosed = (p q : NestedQuestion) (u v w : Values) → IsAmong v (made_of q u) → IsAmong w (made_of p v) → IsAmong w (made_of p u)

-- ---- goals that a table's own variables determine
-- the table's own variables can have all values
abbrev pub IsFree : FrameTable → Type 0
IsFree t = (v : Values) → (s : ChosenTerms) × Allows t s × (s.own ≡ v)

-- the values of these variables determine the nested goal
abbrev pub IsDetermined : FrameTable → Nested → Type 0
IsDetermined t n = (s r : ChosenTerms) → Allows t s → Allows t r → s.own ≡ r.own → fact n s ≡ fact n r

-- if a table's own variables are free and determine a nested goal, the goal's variables have only values made of theirs
abbrev pub OwnDetermine : Type 0
OwnDetermine =
    (t : FrameTable) (n : Nested) → IsFree t → IsDetermined t n
    → (s : ChosenTerms) → Allows t s → IsAmong (values_at t n s) (made_of (question t n) s.own)

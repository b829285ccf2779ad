-- Calls of `fn` pointers: the candidates, and the parts of the goal's arguments that they depend on.
use Rattle.std.specs.Prelude.{◌≡◌, List, Option, Some, None}
use Rattle.type_terms.specs.Promised.Label.{fn_ptr}
use Rattle.type_terms.specs.Promised.Trees.{Trees, none, tree, ◌+++◌}
use Rattle.type_terms.specs.Promised.Worlds.{World}
use Rattle.type_terms.specs.Promised.Handles.{Entry}
use Rattle.type_terms.specs.Promised.Handles.{ArgHeld, arg_trees}
use Rattle.type_terms.specs.declared.kinds.GenericArgKind.{GenericArgKind}
use Rattle.candidate_model.specs.Asking.{GoalOverKinds, self_of}
use Rattle.candidate_model.specs.Candidates.{Candidate, call_of}

-- By the rule of `Fn`, `FnMut` and `FnOnce`.
abbrev pub call_candidates : World → GoalOverKinds → List Candidate
call_candidates V a = call_of V a (self_of a)

-- The inputs and the output of a `fn` pointer, if the first type is one.
abbrev pub signature_of : Trees → Option Trees
signature_of (tree (fn_ptr n) types o) = Some types
signature_of t = None

-- The argument is the first of these terms. `None` says that there are no terms.
abbrev pub IsFirst : List Entry → Trees → Option GenericArgKind → Type 0
IsFirst es t None = t ≡ none
IsFirst es t (Some x) = ArgHeld es x × (rest : Trees) × (t ≡ arg_trees es x +++ rest)

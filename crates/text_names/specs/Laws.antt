-- What the visit of a type's cells finds.
use Rattle.std.specs.Prelude.{◌≡◌, ℕ, Bool, false, List, [], ◌∷◌, length, reverse, Option}
use Rattle.type_terms.specs.Promised.Label.{Sort}
use Rattle.text_language.specs.Promised.Syntax.{TypeTree, Args, Arg}
use Rattle.text_language.specs.Uses.{args_count, arg_uses, args_uses, arg_depth, args_depth}
use Rattle.text_lines.specs.Cells.{Cell, type_onto, args_onto}
use Rattle.text_names.specs.Resolved.{arg_before, args_before}
use Rattle.text_lines.specs.Back.{type_back, args_back, arg_back}
use Rattle.text_names.specs.Machine.{Sight, seen_items, params, Found, using, sinking, keeping, Place, args_inside, WalkFrame, visiting, going, finished, WalkReaches}

-- What was found, with an argument before it, under the binders s: its uses, how deep it is, and its resolved cells. A type is an argument.
abbrev pub with_arg : Sight → List (List (List ℕ)) → Place → Arg → Found → Found
with_arg v s pl x a = using v (arg_uses (seen_items v) s pl.kind x) (sinking pl.room (arg_depth (seen_items v) x) (keeping pl.is_kept (arg_before (seen_items v) (params v) s pl.kind x) a))

-- The same with arguments for parameters of these kinds.
abbrev pub with_arguments_found : Sight → List (List (List ℕ)) → List Sort → Option ℕ → Bool → Args → Found → Found
with_arguments_found v s ks room kept args a = using v (args_uses (seen_items v) s ks args) (sinking room (args_depth (seen_items v) ks args) (keeping kept (args_before (seen_items v) (params v) s ks args) a))

-- From the cells of an argument the machine finds what the definitions say of it.
abbrev pub MachineResolves : Type 0
MachineResolves = (v : Sight) (pl : Place) (x : Arg) (r : List Cell) (a : Found) → WalkReaches v (visiting pl [] [] (arg_back x r) a) (finished r (with_arg v [] pl x a))

-- the frame of the arguments of a bound
abbrev pub bound_args : List Cell → List Sort → Option ℕ → Bool → ℕ → WalkFrame
bound_args r ks room kept k = record { start = length r; inner = length r; binds = false; holds = args_inside ks k; room = room; is_kept = kept }

abbrev pub ArgsResolved : Type 0
ArgsResolved =
    (v : Sight) (ks : List Sort) (room : Option ℕ) (kept : Bool) (args : Args) (r : List Cell) (a : Found)
    → WalkReaches v (going (bound_args r ks room kept (args_count args) ∷ []) [] (args_back args r) a) (finished r (with_arguments_found v [] ks room kept args a))

-- The cells that were read, reversed.
abbrev pub TypesTurned : Type 0
TypesTurned = (t : TypeTree) (o : List Cell) → reverse (type_onto t o) ≡ type_back t (reverse o)

abbrev pub ArgsTurned : Type 0
ArgsTurned = (args : Args) (o : List Cell) → reverse (args_onto args o) ≡ args_back args (reverse o)

-- Reading a type with a stack of open parts: each step reads the tokens at the front, or closes the part on top.
use Rattle.std.specs.Prelude.{◌≡◌, ℕ, zero, suc, Bool, true, false, List, [], ◌∷◌, ◌++◌, length, Option, Some, None}
use Rattle.text_language.specs.Words.{mut_word, const_word, fn_word, dyn_word, for_word, open_angle, close_angle, open_round, close_round, open_square, close_square, comma, semicolon, ampersand, star, plus, exclamation}
use Rattle.text_language.specs.Tokens.{Token, keyword, primitive, name, lifetime, variable, number, sign, arrow}
use Rattle.text_language.specs.Promised.Syntax.{Length, number_length, name_length, variable_length}
use Rattle.text_lines.specs.Cells.{binder_onto, Cell, primitive_cell, never_cell, slice_cell, variable_cell, lifetime_cell, number_cell, named_cell, reference_cell, pointer_cell, array_cell, tuple_cell, dyn_cell, fn_cell, fn_to_cell, bound_cell}

-- A part that is open, with the indices of the cells at which it began.
pub data Open : Type 0 where
  -- the arguments of a type
  open_args : List ℕ → (start : ℕ) → Open
  -- the arguments of a bound of a `dyn`
  open_bound : (dyn_start start inner : ℕ) → List ℕ → Open
  open_reference : Option (List ℕ) → Bool → Open
  open_pointer : Bool → Open
  open_brackets : Open
  -- a tuple before its first comma, and after it
  open_tuple open_items : (start : ℕ) → Open
  open_inputs open_output : (start inner : ℕ) → Open

pub data State : Type 0 where
  -- a type is next, or an argument of another kind
  opening : List Open → List Cell → List Token → State
  -- an item of the `dyn` that began at `start` is next
  item : List Open → List Cell → (start : ℕ) → List Token → State
  -- a type has been read
  closing : List Open → List Cell → List Token → State
  finished : List Cell → List Token → State
  stuck : State

-- the names of a binder after `for`, and the remaining tokens
abbrev pub in_front : List ℕ → Option (List (List ℕ) × List Token) → Option (List (List ℕ) × List Token)
in_front n None = None
in_front n (Some x) = Some (n ∷ x.0, x.1)

abbrev pub more_binder : List Token → Option (List (List ℕ) × List Token)
more_binder (sign close_angle ∷ ts) = Some ([], ts)
more_binder (sign comma ∷ lifetime n ∷ ts) = in_front n (more_binder ts)
more_binder _ = None

abbrev pub first_binder : List Token → Option (List (List ℕ) × List Token)
first_binder (lifetime n ∷ ts) = in_front n (more_binder ts)
first_binder _ = None

abbrev pub binder_at : List Token → Option (List (List ℕ) × List Token)
binder_at (sign open_angle ∷ ts) = first_binder ts
binder_at _ = None

-- ---- after an item of a `dyn`
abbrev pub item_end : List Open → List Cell → ℕ → List Token → State
item_end s out d (sign plus ∷ ts) = item s out d ts
item_end s out d ts = closing s (out ++ dyn_cell d ∷ []) ts

abbrev pub bound_end : List Open → List Cell → ℕ → ℕ → ℕ → List ℕ → List Token → State
bound_end s out d start inner n ts = item_end s (out ++ bound_cell n start inner ∷ []) d ts

-- ---- after an argument
abbrev pub args_end : List Open → List Cell → List ℕ → ℕ → List Token → State
args_end s out n start (sign comma ∷ ts) = opening (open_args n start ∷ s) out ts
args_end s out n start (sign close_angle ∷ ts) = closing s (out ++ named_cell n start ∷ []) ts
args_end s out n start _ = stuck

abbrev pub bound_args_end : List Open → List Cell → ℕ → ℕ → ℕ → List ℕ → List Token → State
bound_args_end s out d start inner n (sign comma ∷ ts) = opening (open_bound d start inner n ∷ s) out ts
bound_args_end s out d start inner n (sign close_angle ∷ ts) = bound_end s out d start inner n ts
bound_args_end s out d start inner n _ = stuck

-- a lifetime or a number in the position of a type: it must be an argument
abbrev pub arg_end : List Open → List Cell → List Token → State
arg_end (open_args n start ∷ s) out ts = args_end s out n start ts
arg_end (open_bound d start inner n ∷ s) out ts = bound_args_end s out d start inner n ts
arg_end _ out ts = stuck

-- ---- after the first tokens of a type
abbrev pub name_step : List Open → List Cell → List ℕ → List Token → State
name_step s out n (sign open_angle ∷ ts) = opening (open_args n (length out) ∷ s) out ts
name_step s out n ts = closing s (out ++ named_cell n (length out) ∷ []) ts

abbrev pub bound_step : List Open → List Cell → ℕ → ℕ → List ℕ → List Token → State
bound_step s out d start n (sign open_angle ∷ ts) = opening (open_bound d start (length out) n ∷ s) out ts
bound_step s out d start n ts = bound_end s out d start (length out) n ts

abbrev pub reference_step : List Open → List Cell → Option (List ℕ) → List Token → State
reference_step s out l (keyword mut_word ∷ ts) = opening (open_reference l true ∷ s) out ts
reference_step s out l ts = opening (open_reference l false ∷ s) out ts

abbrev pub ampersand_step : List Open → List Cell → List Token → State
ampersand_step s out (lifetime n ∷ ts) = reference_step s out (Some n) ts
ampersand_step s out ts = reference_step s out None ts

abbrev pub star_step : List Open → List Cell → List Token → State
star_step s out (keyword const_word ∷ ts) = opening (open_pointer false ∷ s) out ts
star_step s out (keyword mut_word ∷ ts) = opening (open_pointer true ∷ s) out ts
star_step s out _ = stuck

abbrev pub tuple_step : List Open → List Cell → List Token → State
tuple_step s out (sign close_round ∷ ts) = closing s (out ++ tuple_cell (length out) ∷ []) ts
tuple_step s out ts = opening (open_tuple (length out) ∷ s) out ts

abbrev pub inputs_end : List Open → List Cell → ℕ → ℕ → List Token → State
inputs_end s out start inner (arrow ∷ ts) = opening (open_output start inner ∷ s) out ts
inputs_end s out start inner ts = closing s (out ++ fn_cell start inner ∷ []) ts

abbrev pub inputs_step : List Open → List Cell → ℕ → List Token → State
inputs_step s out start (sign close_round ∷ ts) = inputs_end s out start (length out) ts
inputs_step s out start ts = opening (open_inputs start (length out) ∷ s) out ts

-- after `fn`; the binder that precedes it began at `start`
abbrev pub fn_step : List Open → List Cell → ℕ → List Token → State
fn_step s out start (sign open_round ∷ ts) = inputs_step s out start ts
fn_step s out start _ = stuck

-- after a binder: a `fn`, or a bound of a `dyn`
abbrev pub bound_fn : List Open → List Cell → Option (List (List ℕ) × List Token) → State
bound_fn s out (Some (b, keyword fn_word ∷ ts)) = fn_step s (binder_onto b out) (length out) ts
bound_fn s out _ = stuck

abbrev pub bound_item : List Open → List Cell → ℕ → Option (List (List ℕ) × List Token) → State
bound_item s out d (Some (b, name n ∷ ts)) = bound_step s (binder_onto b out) d (length out) n ts
bound_item s out d _ = stuck

-- ---- the steps
abbrev pub open_step : List Open → List Cell → List Token → State
open_step s out (primitive p ∷ ts) = closing s (out ++ primitive_cell p ∷ []) ts
open_step s out (sign exclamation ∷ ts) = closing s (out ++ never_cell ∷ []) ts
open_step s out (variable n ∷ ts) = closing s (out ++ variable_cell n ∷ []) ts
open_step s out (name n ∷ ts) = name_step s out n ts
open_step s out (lifetime n ∷ ts) = arg_end s (out ++ lifetime_cell n ∷ []) ts
open_step s out (number n ∷ ts) = arg_end s (out ++ number_cell n ∷ []) ts
open_step s out (sign ampersand ∷ ts) = ampersand_step s out ts
open_step s out (sign star ∷ ts) = star_step s out ts
open_step s out (sign open_square ∷ ts) = opening (open_brackets ∷ s) out ts
open_step s out (sign open_round ∷ ts) = tuple_step s out ts
open_step s out (keyword for_word ∷ ts) = bound_fn s out (binder_at ts)
open_step s out (keyword fn_word ∷ ts) = fn_step s out (length out) ts
open_step s out (keyword dyn_word ∷ ts) = item s out (length out) ts
open_step s out _ = stuck

abbrev pub item_step : List Open → List Cell → ℕ → List Token → State
item_step s out d (lifetime n ∷ ts) = item_end s (out ++ lifetime_cell n ∷ []) d ts
item_step s out d (name n ∷ ts) = bound_step s out d (length out) n ts
item_step s out d (keyword for_word ∷ ts) = bound_item s out d (binder_at ts)
item_step s out d _ = stuck

abbrev pub length_end : List Open → List Cell → Length → List Token → State
length_end s out n (sign close_square ∷ ts) = closing s (out ++ array_cell n ∷ []) ts
length_end s out n _ = stuck

abbrev pub length_step : List Open → List Cell → List Token → State
length_step s out (number n ∷ ts) = length_end s out (number_length n) ts
length_step s out (name n ∷ ts) = length_end s out (name_length n) ts
length_step s out (variable n ∷ ts) = length_end s out (variable_length n) ts
length_step s out _ = stuck

abbrev pub brackets_end : List Open → List Cell → List Token → State
brackets_end s out (sign close_square ∷ ts) = closing s (out ++ slice_cell ∷ []) ts
brackets_end s out (sign semicolon ∷ ts) = length_step s out ts
brackets_end s out _ = stuck

-- after the first comma of a tuple
abbrev pub second_step : List Open → List Cell → ℕ → List Token → State
second_step s out start (sign close_round ∷ ts) = closing s (out ++ tuple_cell start ∷ []) ts
second_step s out start ts = opening (open_items start ∷ s) out ts

abbrev pub tuple_end : List Open → List Cell → ℕ → List Token → State
tuple_end s out start (sign comma ∷ ts) = second_step s out start ts
tuple_end s out start _ = stuck

abbrev pub items_end : List Open → List Cell → ℕ → List Token → State
items_end s out start (sign comma ∷ ts) = opening (open_items start ∷ s) out ts
items_end s out start (sign close_round ∷ ts) = closing s (out ++ tuple_cell start ∷ []) ts
items_end s out start _ = stuck

abbrev pub input_end : List Open → List Cell → ℕ → ℕ → List Token → State
input_end s out start inner (sign comma ∷ ts) = opening (open_inputs start inner ∷ s) out ts
input_end s out start inner (sign close_round ∷ ts) = inputs_end s out start inner ts
input_end s out start inner _ = stuck

abbrev pub close_step : List Open → List Cell → List Token → State
close_step [] out ts = finished out ts
close_step (open_args n start ∷ s) out ts = args_end s out n start ts
close_step (open_bound d start inner n ∷ s) out ts = bound_args_end s out d start inner n ts
close_step (open_reference l m ∷ s) out ts = closing s (out ++ reference_cell l m ∷ []) ts
close_step (open_pointer m ∷ s) out ts = closing s (out ++ pointer_cell m ∷ []) ts
close_step (open_brackets ∷ s) out ts = brackets_end s out ts
close_step (open_tuple start ∷ s) out ts = tuple_end s out start ts
close_step (open_items start ∷ s) out ts = items_end s out start ts
close_step (open_inputs start inner ∷ s) out ts = input_end s out start inner ts
close_step (open_output start inner ∷ s) out ts = closing s (out ++ fn_to_cell start inner ∷ []) ts

abbrev pub step : State → State
step (opening s out ts) = open_step s out ts
step (item s out d ts) = item_step s out d ts
step (closing s out ts) = close_step s out ts
step (finished out ts) = finished out ts
step stuck = stuck

abbrev pub run : ℕ → State → State
run zero x = x
run (suc n) x = run n (step x)

-- in some number of steps
abbrev pub Reaches : State → State → Type 0
Reaches x y = (n : ℕ) × (run n x ≡ y)

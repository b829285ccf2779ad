-- The machine that makes trees: what the machine of specs/ does with places and cells, it does with the trees that they stand for.
use Rattle.std.specs.Prelude.{ℕ, zero, suc, Bool, true, false, List, [], ◌∷◌, Option, Some, None}
use Rattle.text_language.specs.Words.{mut_word, const_word, fn_word, dyn_word, for_word, open_angle, close_angle, open_round, close_round, open_square, close_square, comma, semicolon, ampersand, star, plus, exclamation}
use Rattle.text_language.specs.Tokens.{Token, keyword, primitive, name, lifetime, variable, number, sign, arrow}
use Rattle.text_language.specs.Promised.Syntax.{TypeTree, of_primitive, never_type, variable_type, named, reference_to, pointer_to, slice_of, array_of, tuple_of, fn_of, fn_to, dyn_of, Types, no_types, and_type, Args, no_args, and_arg, Arg, lifetime_arg, number_arg, type_arg, Item, bound_item, lifetime_item, DynBounds, no_items, and_item, Length, number_length, name_length, variable_length}
use Rattle.text_lines.specs.Machine.{binder_at}

-- lists of what has been read are the last one first
pub data Frame : Type 0 where
  in_args : List ℕ → List Arg → Frame
  in_bound : List Item → List (List ℕ) → List ℕ → List Arg → Frame
  in_reference : Option (List ℕ) → Bool → Frame
  in_pointer : Bool → Frame
  in_brackets in_tuple : Frame
  in_items : TypeTree → List TypeTree → Frame
  in_inputs : List (List ℕ) → List TypeTree → Frame
  in_output : List (List ℕ) → Types → Frame

pub data TreeState : Type 0 where
  opening : List Frame → List Token → TreeState
  item : List Frame → List Item → List Token → TreeState
  closing : List Frame → TypeTree → List Token → TreeState
  finished : TypeTree → List Token → TreeState
  stuck : TreeState

-- in their order, before others
abbrev pub args_rev : List Arg → Args → Args
args_rev [] args = args
args_rev (a ∷ xs) args = args_rev xs (and_arg a args)

abbrev pub types_rev : List TypeTree → Types → Types
types_rev [] ts = ts
types_rev (t ∷ us) ts = types_rev us (and_type t ts)

abbrev pub dyn_rev : Item → List Item → DynBounds → TypeTree
dyn_rev i [] js = dyn_of i js
dyn_rev i (h ∷ is) js = dyn_rev h is (and_item i js)

abbrev pub item_end : List Frame → List Item → Item → List Token → TreeState
item_end s is i (sign plus ∷ ts) = item s (i ∷ is) ts
item_end s is i ts = closing s (dyn_rev i is no_items) ts

abbrev pub args_end : List Frame → List ℕ → List Arg → List Token → TreeState
args_end s n xs (sign comma ∷ ts) = opening (in_args n xs ∷ s) ts
args_end s n xs (sign close_angle ∷ ts) = closing s (named n (args_rev xs no_args)) ts
args_end s n xs _ = stuck

abbrev pub bound_args_end : List Frame → List Item → List (List ℕ) → List ℕ → List Arg → List Token → TreeState
bound_args_end s is b n xs (sign comma ∷ ts) = opening (in_bound is b n xs ∷ s) ts
bound_args_end s is b n xs (sign close_angle ∷ ts) = item_end s is (bound_item b n (args_rev xs no_args)) ts
bound_args_end s is b n xs _ = stuck

abbrev pub arg_end : List Frame → Arg → List Token → TreeState
arg_end (in_args n xs ∷ s) a ts = args_end s n (a ∷ xs) ts
arg_end (in_bound is b n xs ∷ s) a ts = bound_args_end s is b n (a ∷ xs) ts
arg_end _ a ts = stuck

abbrev pub name_step : List Frame → List ℕ → List Token → TreeState
name_step s n (sign open_angle ∷ ts) = opening (in_args n [] ∷ s) ts
name_step s n ts = closing s (named n no_args) ts

abbrev pub bound_step : List Frame → List Item → List (List ℕ) → List ℕ → List Token → TreeState
bound_step s is b n (sign open_angle ∷ ts) = opening (in_bound is b n [] ∷ s) ts
bound_step s is b n ts = item_end s is (bound_item b n no_args) ts

abbrev pub reference_step : List Frame → Option (List ℕ) → List Token → TreeState
reference_step s l (keyword mut_word ∷ ts) = opening (in_reference l true ∷ s) ts
reference_step s l ts = opening (in_reference l false ∷ s) ts

abbrev pub ampersand_step : List Frame → List Token → TreeState
ampersand_step s (lifetime n ∷ ts) = reference_step s (Some n) ts
ampersand_step s ts = reference_step s None ts

abbrev pub star_step : List Frame → List Token → TreeState
star_step s (keyword const_word ∷ ts) = opening (in_pointer false ∷ s) ts
star_step s (keyword mut_word ∷ ts) = opening (in_pointer true ∷ s) ts
star_step s _ = stuck

abbrev pub tuple_step : List Frame → List Token → TreeState
tuple_step s (sign close_round ∷ ts) = closing s (tuple_of no_types) ts
tuple_step s ts = opening (in_tuple ∷ s) ts

abbrev pub inputs_end : List Frame → List (List ℕ) → Types → List Token → TreeState
inputs_end s b us (arrow ∷ ts) = opening (in_output b us ∷ s) ts
inputs_end s b us ts = closing s (fn_of b us) ts

abbrev pub inputs_step : List Frame → List (List ℕ) → List Token → TreeState
inputs_step s b (sign close_round ∷ ts) = inputs_end s b no_types ts
inputs_step s b ts = opening (in_inputs b [] ∷ s) ts

abbrev pub fn_step : List Frame → List (List ℕ) → List Token → TreeState
fn_step s b (sign open_round ∷ ts) = inputs_step s b ts
fn_step s b _ = stuck

abbrev pub bound_fn : List Frame → Option (List (List ℕ) × List Token) → TreeState
bound_fn s (Some (b, keyword fn_word ∷ ts)) = fn_step s b ts
bound_fn s _ = stuck

abbrev pub bound_at : List Frame → List Item → Option (List (List ℕ) × List Token) → TreeState
bound_at s is (Some (b, name n ∷ ts)) = bound_step s is b n ts
bound_at s is _ = stuck

abbrev pub open_step : List Frame → List Token → TreeState
open_step s (primitive p ∷ ts) = closing s (of_primitive p) ts
open_step s (sign exclamation ∷ ts) = closing s never_type ts
open_step s (variable n ∷ ts) = closing s (variable_type n) ts
open_step s (name n ∷ ts) = name_step s n ts
open_step s (lifetime n ∷ ts) = arg_end s (lifetime_arg n) ts
open_step s (number n ∷ ts) = arg_end s (number_arg n) ts
open_step s (sign ampersand ∷ ts) = ampersand_step s ts
open_step s (sign star ∷ ts) = star_step s ts
open_step s (sign open_square ∷ ts) = opening (in_brackets ∷ s) ts
open_step s (sign open_round ∷ ts) = tuple_step s ts
open_step s (keyword for_word ∷ ts) = bound_fn s (binder_at ts)
open_step s (keyword fn_word ∷ ts) = fn_step s [] ts
open_step s (keyword dyn_word ∷ ts) = item s [] ts
open_step s _ = stuck

abbrev pub item_step : List Frame → List Item → List Token → TreeState
item_step s is (lifetime n ∷ ts) = item_end s is (lifetime_item n) ts
item_step s is (name n ∷ ts) = bound_step s is [] n ts
item_step s is (keyword for_word ∷ ts) = bound_at s is (binder_at ts)
item_step s is _ = stuck

abbrev pub length_end : List Frame → TypeTree → Length → List Token → TreeState
length_end s t n (sign close_square ∷ ts) = closing s (array_of t n) ts
length_end s t n _ = stuck

abbrev pub length_step : List Frame → TypeTree → List Token → TreeState
length_step s t (number n ∷ ts) = length_end s t (number_length n) ts
length_step s t (name n ∷ ts) = length_end s t (name_length n) ts
length_step s t (variable n ∷ ts) = length_end s t (variable_length n) ts
length_step s t _ = stuck

abbrev pub brackets_end : List Frame → TypeTree → List Token → TreeState
brackets_end s t (sign close_square ∷ ts) = closing s (slice_of t) ts
brackets_end s t (sign semicolon ∷ ts) = length_step s t ts
brackets_end s t _ = stuck

abbrev pub second_step : List Frame → TypeTree → List Token → TreeState
second_step s t (sign close_round ∷ ts) = closing s (tuple_of (and_type t no_types)) ts
second_step s t ts = opening (in_items t [] ∷ s) ts

abbrev pub tuple_end : List Frame → TypeTree → List Token → TreeState
tuple_end s t (sign comma ∷ ts) = second_step s t ts
tuple_end s t _ = stuck

abbrev pub items_end : List Frame → TypeTree → List TypeTree → List Token → TreeState
items_end s t us (sign comma ∷ ts) = opening (in_items t us ∷ s) ts
items_end s t us (sign close_round ∷ ts) = closing s (tuple_of (and_type t (types_rev us no_types))) ts
items_end s t us _ = stuck

abbrev pub input_end : List Frame → List (List ℕ) → List TypeTree → List Token → TreeState
input_end s b us (sign comma ∷ ts) = opening (in_inputs b us ∷ s) ts
input_end s b us (sign close_round ∷ ts) = inputs_end s b (types_rev us no_types) ts
input_end s b us _ = stuck

abbrev pub close_step : List Frame → TypeTree → List Token → TreeState
close_step [] t ts = finished t ts
close_step (in_args n xs ∷ s) t ts = args_end s n (type_arg t ∷ xs) ts
close_step (in_bound is b n xs ∷ s) t ts = bound_args_end s is b n (type_arg t ∷ xs) ts
close_step (in_reference l m ∷ s) t ts = closing s (reference_to l m t) ts
close_step (in_pointer m ∷ s) t ts = closing s (pointer_to m t) ts
close_step (in_brackets ∷ s) t ts = brackets_end s t ts
close_step (in_tuple ∷ s) t ts = tuple_end s t ts
close_step (in_items u us ∷ s) t ts = items_end s u (t ∷ us) ts
close_step (in_inputs b us ∷ s) t ts = input_end s b (t ∷ us) ts
close_step (in_output b us ∷ s) t ts = closing s (fn_to b us t) ts

abbrev pub step : TreeState → TreeState
step (opening s ts) = open_step s ts
step (item s is ts) = item_step s is ts
step (closing s t ts) = close_step s t ts
step (finished t ts) = finished t ts
step stuck = stuck

abbrev pub run : ℕ → TreeState → TreeState
run zero x = x
run (suc n) x = run n (step x)

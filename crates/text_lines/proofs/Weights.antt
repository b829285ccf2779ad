-- Each step of the machine leaves less to do: twice the tokens left, and what is open.
use Rattle.std.proofs.Common.{◌≡◌, ℕ, ◌+◌, ◌*◌, ◌<◌, List, [], ◌∷◌, ◌++◌, length, Option, Some, None, refl, ap, arith}
use Rattle.std.proofs.lemmas.Option.{same_Some}
use Rattle.text_language.specs.Words.{mut_word, const_word, fn_word, dyn_word, for_word, open_angle, close_angle, open_round, close_round, open_square, close_square, comma, semicolon, ampersand, star, plus, exclamation}
use Rattle.text_language.specs.Tokens.{Token, keyword, primitive, name, lifetime, variable, number, sign, arrow}
use Rattle.text_language.specs.Promised.Syntax.{Length, number_length, name_length, variable_length}
use Rattle.text_lines.specs.Cells.{Cell, bound_cell, binder_onto, lifetime_cell, number_cell}
use Rattle.text_lines.specs.Machine.{Open, open_args, open_bound, open_reference, open_pointer, open_brackets, open_tuple, open_items, open_inputs, open_output, State, opening, item, closing, finished, stuck, in_front, more_binder, binder_at, item_end, bound_end, args_end, bound_args_end, arg_end, name_step, bound_step, reference_step, ampersand_step, star_step, tuple_step, inputs_end, inputs_step, fn_step, bound_fn, bound_item, open_step, item_step, length_end, length_step, brackets_end, second_step, tuple_end, items_end, input_end, close_step, step}
use Rattle.text_lines.specs.TypeSteps.{weight, IsGoing}

abbrev load : List Open → List Token → ℕ → ℕ
load s ts k = 2 * length ts + length s + k

item-end : (s : List Open) (out : List Cell) (d : ℕ) (ts : List Token) → weight (item_end s out d ts) < load s ts 2
item-end s out d [] = omega arith
item-end s out d (sign plus ∷ ts) = omega arith
item-end s out d (_ ∷ ts) = omega arith

args-end : (s : List Open) (out : List Cell) (n : List ℕ) (k : ℕ) (ts : List Token) → weight (args_end s out n k ts) < load s ts 2
args-end s out n k (sign comma ∷ ts) = omega arith
args-end s out n k (sign close_angle ∷ ts) = omega arith
args-end s out n k _ = omega arith

bound-args-end : (s : List Open) (out : List Cell) (d k i : ℕ) (n : List ℕ) (ts : List Token) → weight (bound_args_end s out d k i n ts) < load s ts 2
bound-args-end s out d k i n (sign comma ∷ ts) = omega arith
bound-args-end s out d k i n (sign close_angle ∷ ts) = let h : weight (bound_end s out d k i n ts) < load s ts 2 = item-end s (out ++ bound_cell n k i ∷ []) d ts in omega (arith, h)
bound-args-end s out d k i n _ = omega arith

arg-end : (s : List Open) (out : List Cell) (ts : List Token) → weight (arg_end s out ts) < load s ts 3
arg-end [] out ts = omega arith
arg-end (open_args n k ∷ s) out ts = let h = args-end s out n k ts in omega (arith, h)
arg-end (open_bound d k i n ∷ s) out ts = let h = bound-args-end s out d k i n ts in omega (arith, h)
arg-end (_ ∷ s) out ts = omega arith

name-step : (s : List Open) (out : List Cell) (n : List ℕ) (ts : List Token) → weight (name_step s out n ts) < load s ts 2
name-step s out n (sign open_angle ∷ ts) = omega arith
name-step s out n _ = omega arith

bound-step : (s : List Open) (out : List Cell) (d k : ℕ) (n : List ℕ) (ts : List Token) → weight (bound_step s out d k n ts) < load s ts 2
bound-step s out d k n (sign open_angle ∷ ts) = omega arith
bound-step s out d k n ts = item-end s (out ++ bound_cell n k (length out) ∷ []) d ts

reference-step : (s : List Open) (out : List Cell) (l : Option (List ℕ)) (ts : List Token) → weight (reference_step s out l ts) < load s ts 3
reference-step s out l (keyword mut_word ∷ ts) = omega arith
reference-step s out l _ = omega arith

ampersand-step : (s : List Open) (out : List Cell) (ts : List Token) → weight (ampersand_step s out ts) < load s ts 3
ampersand-step s out (lifetime n ∷ ts) = let h = reference-step s out (Some n) ts in omega (arith, h)
ampersand-step s out ts = reference-step s out None ts

star-step : (s : List Open) (out : List Cell) (ts : List Token) → weight (star_step s out ts) < load s ts 3
star-step s out (keyword const_word ∷ ts) = omega arith
star-step s out (keyword mut_word ∷ ts) = omega arith
star-step s out _ = omega arith

tuple-step : (s : List Open) (out : List Cell) (ts : List Token) → weight (tuple_step s out ts) < load s ts 3
tuple-step s out (sign close_round ∷ ts) = omega arith
tuple-step s out _ = omega arith

inputs-end : (s : List Open) (out : List Cell) (k i : ℕ) (ts : List Token) → weight (inputs_end s out k i ts) < load s ts 2
inputs-end s out k i (arrow ∷ ts) = omega arith
inputs-end s out k i _ = omega arith

inputs-step : (s : List Open) (out : List Cell) (k : ℕ) (ts : List Token) → weight (inputs_step s out k ts) < load s ts 3
inputs-step s out k (sign close_round ∷ ts) = let h = inputs-end s out k (length out) ts in omega (arith, h)
inputs-step s out k _ = omega arith

fn-step : (s : List Open) (out : List Cell) (k : ℕ) (ts : List Token) → weight (fn_step s out k ts) < load s ts 3
fn-step s out k (sign open_round ∷ ts) = let h = inputs-step s out k ts in omega (arith, h)
fn-step s out k _ = omega arith

-- what is left behind a binder is shorter
front-some : (n : List ℕ) (x : Option (List (List ℕ) × List Token)) (b : List (List ℕ)) (r : List Token) → in_front n x ≡ Some (b, r) → (c : List (List ℕ)) × (x ≡ Some (c, r))
front-some n None b r e = absurd cc
front-some n (Some (c, q)) b r e = (c, ap (λ y. Some (c, y)) (ap (λ (z : List (List ℕ) × List Token). z.1) (same_Some (n ∷ c, q) (b, r) e)))

more-shorter : (ts : List Token) (b : List (List ℕ)) (r : List Token) → more_binder ts ≡ Some (b, r) → length r < length ts
more-shorter (sign close_angle ∷ ts) b r e = let f : length ts ≡ length r = ap (λ (z : List (List ℕ) × List Token). length z.1) (same_Some ([], ts) (b, r) e) in omega (arith, f)
more-shorter (sign comma ∷ lifetime n ∷ ts) b r e = let p = front-some n (more_binder ts) b r e in let h = more-shorter ts p.0 r p.1 in omega (arith, h)
more-shorter _ b r e = absurd cc

binder-shorter : (ts : List Token) (b : List (List ℕ)) (r : List Token) → binder_at ts ≡ Some (b, r) → length r < length ts
binder-shorter (sign open_angle ∷ lifetime n ∷ ts) b r e = let p = front-some n (more_binder ts) b r e in let h = more-shorter ts p.0 r p.1 in omega (arith, h)
binder-shorter (sign open_angle ∷ []) b r e = absurd cc
binder-shorter (sign open_angle ∷ _ ∷ ts) b r e = absurd cc
binder-shorter _ b r e = absurd cc

bound-fn : (s : List Open) (out : List Cell) (ts : List Token) (x : Option (List (List ℕ) × List Token)) → binder_at ts ≡ x → weight (bound_fn s out x) < load s ts 3
bound-fn s out ts (Some (b, keyword fn_word ∷ r)) e = let h = fn-step s (binder_onto b out) (length out) r in let k = binder-shorter ts b (keyword fn_word ∷ r) e in omega (arith, h, k)
bound-fn s out ts _ e = omega arith

bound-at : (s : List Open) (out : List Cell) (d : ℕ) (ts : List Token) (x : Option (List (List ℕ) × List Token)) → binder_at ts ≡ x → weight (bound_item s out d x) < load s ts 3
bound-at s out d ts (Some (b, name n ∷ r)) e = let h = bound-step s (binder_onto b out) d (length out) n r in let k = binder-shorter ts b (name n ∷ r) e in omega (arith, h, k)
bound-at s out d ts _ e = omega arith

open-step : (s : List Open) (out : List Cell) (ts : List Token) → weight (open_step s out ts) < load s ts 1
open-step s out (primitive p ∷ ts) = omega arith
open-step s out (sign exclamation ∷ ts) = omega arith
open-step s out (variable n ∷ ts) = omega arith
open-step s out (name n ∷ ts) = let h = name-step s out n ts in omega (arith, h)
open-step s out (lifetime n ∷ ts) = let h = arg-end s (out ++ lifetime_cell n ∷ []) ts in omega (arith, h)
open-step s out (number n ∷ ts) = let h = arg-end s (out ++ number_cell n ∷ []) ts in omega (arith, h)
open-step s out (sign ampersand ∷ ts) = let h = ampersand-step s out ts in omega (arith, h)
open-step s out (sign star ∷ ts) = let h = star-step s out ts in omega (arith, h)
open-step s out (sign open_square ∷ ts) = omega arith
open-step s out (sign open_round ∷ ts) = let h = tuple-step s out ts in omega (arith, h)
open-step s out (keyword for_word ∷ ts) = let h = bound-fn s out ts (binder_at ts) refl in omega (arith, h)
open-step s out (keyword fn_word ∷ ts) = let h = fn-step s out (length out) ts in omega (arith, h)
open-step s out (keyword dyn_word ∷ ts) = omega arith
open-step s out _ = omega arith

item-step : (s : List Open) (out : List Cell) (d : ℕ) (ts : List Token) → weight (item_step s out d ts) < load s ts 1
item-step s out d (lifetime n ∷ ts) = let h = item-end s (out ++ lifetime_cell n ∷ []) d ts in omega (arith, h)
item-step s out d (name n ∷ ts) = let h = bound-step s out d (length out) n ts in omega (arith, h)
item-step s out d (keyword for_word ∷ ts) = let h = bound-at s out d ts (binder_at ts) refl in omega (arith, h)
item-step s out d _ = omega arith

length-end : (s : List Open) (out : List Cell) (n : Length) (ts : List Token) → weight (length_end s out n ts) < load s ts 2
length-end s out n (sign close_square ∷ ts) = omega arith
length-end s out n _ = omega arith

length-step : (s : List Open) (out : List Cell) (ts : List Token) → weight (length_step s out ts) < load s ts 2
length-step s out (number n ∷ ts) = let h = length-end s out (number_length n) ts in omega (arith, h)
length-step s out (name n ∷ ts) = let h = length-end s out (name_length n) ts in omega (arith, h)
length-step s out (variable n ∷ ts) = let h = length-end s out (variable_length n) ts in omega (arith, h)
length-step s out _ = omega arith

brackets-end : (s : List Open) (out : List Cell) (ts : List Token) → weight (brackets_end s out ts) < load s ts 2
brackets-end s out (sign close_square ∷ ts) = omega arith
brackets-end s out (sign semicolon ∷ ts) = let h = length-step s out ts in omega (arith, h)
brackets-end s out _ = omega arith

second-step : (s : List Open) (out : List Cell) (k : ℕ) (ts : List Token) → weight (second_step s out k ts) < load s ts 3
second-step s out k (sign close_round ∷ ts) = omega arith
second-step s out k _ = omega arith

tuple-end : (s : List Open) (out : List Cell) (k : ℕ) (ts : List Token) → weight (tuple_end s out k ts) < load s ts 2
tuple-end s out k (sign comma ∷ ts) = let h = second-step s out k ts in omega (arith, h)
tuple-end s out k _ = omega arith

items-end : (s : List Open) (out : List Cell) (k : ℕ) (ts : List Token) → weight (items_end s out k ts) < load s ts 2
items-end s out k (sign comma ∷ ts) = omega arith
items-end s out k (sign close_round ∷ ts) = omega arith
items-end s out k _ = omega arith

input-end : (s : List Open) (out : List Cell) (k i : ℕ) (ts : List Token) → weight (input_end s out k i ts) < load s ts 2
input-end s out k i (sign comma ∷ ts) = omega arith
input-end s out k i (sign close_round ∷ ts) = let h = inputs-end s out k i ts in omega (arith, h)
input-end s out k i _ = omega arith

close-step : (s : List Open) (out : List Cell) (ts : List Token) → weight (close_step s out ts) < load s ts 1
close-step [] out ts = omega arith
close-step (open_args n k ∷ s) out ts = let h = args-end s out n k ts in omega (arith, h)
close-step (open_bound d k i n ∷ s) out ts = let h = bound-args-end s out d k i n ts in omega (arith, h)
close-step (open_reference l m ∷ s) out ts = omega arith
close-step (open_pointer m ∷ s) out ts = omega arith
close-step (open_brackets ∷ s) out ts = let h = brackets-end s out ts in omega (arith, h)
close-step (open_tuple k ∷ s) out ts = let h = tuple-end s out k ts in omega (arith, h)
close-step (open_items k ∷ s) out ts = let h = items-end s out k ts in omega (arith, h)
close-step (open_inputs k i ∷ s) out ts = let h = input-end s out k i ts in omega (arith, h)
close-step (open_output k i ∷ s) out ts = omega arith

pub lighter : (x : State) → IsGoing x → weight (step x) < weight x
lighter (opening s out ts) h = open-step s out ts
lighter (item s out d ts) h = item-step s out d ts
lighter (closing s out ts) h = close-step s out ts
lighter (finished out ts) h = absurd h
lighter stuck h = absurd h

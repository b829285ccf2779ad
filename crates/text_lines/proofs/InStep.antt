-- The machine of specs/ keeps step with the one that makes trees.
use Rattle.std.proofs.Common.{◌≡◌, ℕ, zero, suc, List, [], ◌∷◌, ◌++◌, length, Option, Some, None, refl, ap, ◌∙◌}
use Rattle.text_language.specs.Words.{mut_word, const_word, fn_word, for_word, open_angle, close_angle, open_round, close_round, close_square, comma, semicolon, ampersand, star, plus}
use Rattle.text_language.specs.Tokens.{Token, keyword, name, lifetime, variable, number, sign, arrow}
use Rattle.text_language.specs.Promised.Syntax.{TypeTree, Types, no_types, and_type, Args, no_args, and_arg, Arg, lifetime_arg, number_arg, type_arg, Item, bound_item, lifetime_item, DynBounds, no_items, and_item, Length, number_length, name_length, variable_length}
use Rattle.text_lines.specs.Cells.{Cell, named_cell, bound_cell, dyn_cell, tuple_cell, binder_onto, type_onto, types_onto, args_onto, arg_onto, item_onto, items_onto}
use Rattle.text_lines.specs.Machine as flat
use Rattle.text_lines.proofs.TreeMachine.{Frame, in_args, in_bound, in_reference, in_pointer, in_brackets, in_tuple, in_items, in_inputs, in_output, TreeState, opening, item, closing, finished, stuck, args_rev, types_rev, dyn_rev, item_end, args_end, bound_args_end, arg_end, name_step, bound_step, reference_step, ampersand_step, star_step, tuple_step, inputs_end, inputs_step, fn_step, bound_fn, bound_at, open_step, item_step, length_end, length_step, brackets_end, second_step, tuple_end, items_end, input_end, close_step, step, run}

-- ---- the cells of what has been read
abbrev args_made : List Arg → List Cell → List Cell
args_made [] out = out
args_made (a ∷ xs) out = arg_onto a (args_made xs out)

abbrev types_made : List TypeTree → List Cell → List Cell
types_made [] out = out
types_made (t ∷ ts) out = type_onto t (types_made ts out)

abbrev items_made : List Item → List Cell → List Cell
items_made [] out = out
items_made (i ∷ is) out = item_onto i (items_made is out)

args-made : (xs : List Arg) (args : Args) (out : List Cell) → args_onto (args_rev xs args) out ≡ args_onto args (args_made xs out)
args-made [] args out = refl
args-made (a ∷ xs) args out = args-made xs (and_arg a args) out

types-made : (us : List TypeTree) (ts : Types) (out : List Cell) → types_onto (types_rev us ts) out ≡ types_onto ts (types_made us out)
types-made [] ts out = refl
types-made (u ∷ us) ts out = types-made us (and_type u ts) out

dyn-made : (i : Item) (is : List Item) (js : DynBounds) (out : List Cell) → type_onto (dyn_rev i is js) out ≡ items_onto js (item_onto i (items_made is out)) ++ dyn_cell (length out) ∷ []
dyn-made i [] js out = refl
dyn-made i (h ∷ is) js out = dyn-made h is (and_item i js) out

-- ---- the view
-- behind the cells `o` that are there
abbrev pub made : List Cell → List Frame → List Cell
made o [] = o
made o (in_args n xs ∷ s) = args_made xs (made o s)
made o (in_bound is b n xs ∷ s) = args_made xs (binder_onto b (items_made is (made o s)))
made o (in_items t us ∷ s) = types_made us (type_onto t (made o s))
made o (in_inputs b us ∷ s) = types_made us (binder_onto b (made o s))
made o (in_output b us ∷ s) = types_onto us (binder_onto b (made o s))
made o (_ ∷ s) = made o s

abbrev pub opens : List Cell → List Frame → List flat.Open
opens o [] = []
opens o (in_args n xs ∷ s) = flat.open_args n (length (made o s)) ∷ opens o s
opens o (in_bound is b n xs ∷ s) = flat.open_bound (length (made o s)) (length (items_made is (made o s))) (length (binder_onto b (items_made is (made o s)))) n ∷ opens o s
opens o (in_reference l m ∷ s) = flat.open_reference l m ∷ opens o s
opens o (in_pointer m ∷ s) = flat.open_pointer m ∷ opens o s
opens o (in_brackets ∷ s) = flat.open_brackets ∷ opens o s
opens o (in_tuple ∷ s) = flat.open_tuple (length (made o s)) ∷ opens o s
opens o (in_items t us ∷ s) = flat.open_items (length (made o s)) ∷ opens o s
opens o (in_inputs b us ∷ s) = flat.open_inputs (length (made o s)) (length (binder_onto b (made o s))) ∷ opens o s
opens o (in_output b us ∷ s) = flat.open_output (length (made o s)) (length (binder_onto b (made o s))) ∷ opens o s

abbrev pub view : List Cell → TreeState → flat.State
view o (opening s ts) = flat.opening (opens o s) (made o s) ts
view o (item s is ts) = flat.item (opens o s) (items_made is (made o s)) (length (made o s)) ts
view o (closing s t ts) = flat.closing (opens o s) (type_onto t (made o s)) ts
view o (finished t ts) = flat.finished (type_onto t o) ts
view o stuck = flat.stuck

-- ---- step by step
item-end : (o : List Cell) → (s : List Frame) (is : List Item) (i : Item) (ts : List Token) → view o (item_end s is i ts) ≡ flat.item_end (opens o s) (item_onto i (items_made is (made o s))) (length (made o s)) ts
item-end o s is i (sign plus ∷ ts) = refl
item-end o s is i ts = ap (λ out. flat.closing (opens o s) out ts) (dyn-made i is no_items (made o s))

args-end : (o : List Cell) → (s : List Frame) (n : List ℕ) (xs : List Arg) (ts : List Token) → view o (args_end s n xs ts) ≡ flat.args_end (opens o s) (args_made xs (made o s)) n (length (made o s)) ts
args-end o s n xs (sign comma ∷ ts) = refl
args-end o s n xs (sign close_angle ∷ ts) = ap (λ out. flat.closing (opens o s) (out ++ named_cell n (length (made o s)) ∷ []) ts) (args-made xs no_args (made o s))
args-end o s n xs _ = refl

bound-end : (o : List Cell) → (s : List Frame) (is : List Item) (b : List (List ℕ)) (n : List ℕ) (xs : List Arg) (ts : List Token) → view o (item_end s is (bound_item b n (args_rev xs no_args)) ts) ≡ flat.bound_end (opens o s) (args_made xs (binder_onto b (items_made is (made o s)))) (length (made o s)) (length (items_made is (made o s))) (length (binder_onto b (items_made is (made o s)))) n ts
bound-end o s is b n xs ts =
    item-end o s is (bound_item b n (args_rev xs no_args)) ts
    ∙ ap (λ out. flat.item_end (opens o s) (out ++ bound_cell n (length (items_made is (made o s))) (length (binder_onto b (items_made is (made o s)))) ∷ []) (length (made o s)) ts) (args-made xs no_args (binder_onto b (items_made is (made o s))))

bound-args-end : (o : List Cell) → (s : List Frame) (is : List Item) (b : List (List ℕ)) (n : List ℕ) (xs : List Arg) (ts : List Token) → view o (bound_args_end s is b n xs ts) ≡ flat.bound_args_end (opens o s) (args_made xs (binder_onto b (items_made is (made o s)))) (length (made o s)) (length (items_made is (made o s))) (length (binder_onto b (items_made is (made o s)))) n ts
bound-args-end o s is b n xs (sign comma ∷ ts) = refl
bound-args-end o s is b n xs (sign close_angle ∷ ts) = bound-end o s is b n xs ts
bound-args-end o s is b n xs _ = refl

arg-end : (o : List Cell) → (s : List Frame) (a : Arg) (ts : List Token) → view o (arg_end s a ts) ≡ flat.arg_end (opens o s) (arg_onto a (made o s)) ts
arg-end o [] a ts = refl
arg-end o (in_args n xs ∷ s) a ts = args-end o s n (a ∷ xs) ts
arg-end o (in_bound is b n xs ∷ s) a ts = bound-args-end o s is b n (a ∷ xs) ts
arg-end o (_ ∷ s) a ts = refl

name-step : (o : List Cell) → (s : List Frame) (n : List ℕ) (ts : List Token) → view o (name_step s n ts) ≡ flat.name_step (opens o s) (made o s) n ts
name-step o s n (sign open_angle ∷ ts) = refl
name-step o s n _ = refl

bound-step : (o : List Cell) → (s : List Frame) (is : List Item) (b : List (List ℕ)) (n : List ℕ) (ts : List Token) → view o (bound_step s is b n ts) ≡ flat.bound_step (opens o s) (binder_onto b (items_made is (made o s))) (length (made o s)) (length (items_made is (made o s))) n ts
bound-step o s is b n (sign open_angle ∷ ts) = refl
bound-step o s is b n ts = item-end o s is (bound_item b n no_args) ts

reference-step : (o : List Cell) → (s : List Frame) (l : Option (List ℕ)) (ts : List Token) → view o (reference_step s l ts) ≡ flat.reference_step (opens o s) (made o s) l ts
reference-step o s l (keyword mut_word ∷ ts) = refl
reference-step o s l _ = refl

ampersand-step : (o : List Cell) → (s : List Frame) (ts : List Token) → view o (ampersand_step s ts) ≡ flat.ampersand_step (opens o s) (made o s) ts
ampersand-step o s (lifetime n ∷ ts) = reference-step o s (Some n) ts
ampersand-step o s ts = reference-step o s None ts

star-step : (o : List Cell) → (s : List Frame) (ts : List Token) → view o (star_step s ts) ≡ flat.star_step (opens o s) (made o s) ts
star-step o s (keyword const_word ∷ ts) = refl
star-step o s (keyword mut_word ∷ ts) = refl
star-step o s _ = refl

tuple-step : (o : List Cell) → (s : List Frame) (ts : List Token) → view o (tuple_step s ts) ≡ flat.tuple_step (opens o s) (made o s) ts
tuple-step o s (sign close_round ∷ ts) = refl
tuple-step o s _ = refl

inputs-end : (o : List Cell) → (s : List Frame) (b : List (List ℕ)) (us : Types) (ts : List Token) → view o (inputs_end s b us ts) ≡ flat.inputs_end (opens o s) (types_onto us (binder_onto b (made o s))) (length (made o s)) (length (binder_onto b (made o s))) ts
inputs-end o s b us (arrow ∷ ts) = refl
inputs-end o s b us _ = refl

inputs-step : (o : List Cell) → (s : List Frame) (b : List (List ℕ)) (ts : List Token) → view o (inputs_step s b ts) ≡ flat.inputs_step (opens o s) (binder_onto b (made o s)) (length (made o s)) ts
inputs-step o s b (sign close_round ∷ ts) = inputs-end o s b no_types ts
inputs-step o s b _ = refl

fn-step : (o : List Cell) → (s : List Frame) (b : List (List ℕ)) (ts : List Token) → view o (fn_step s b ts) ≡ flat.fn_step (opens o s) (binder_onto b (made o s)) (length (made o s)) ts
fn-step o s b (sign open_round ∷ ts) = inputs-step o s b ts
fn-step o s b _ = refl

bound-fn : (o : List Cell) → (s : List Frame) (x : Option (List (List ℕ) × List Token)) → view o (bound_fn s x) ≡ flat.bound_fn (opens o s) (made o s) x
bound-fn o s (Some (b, keyword fn_word ∷ ts)) = fn-step o s b ts
bound-fn o s _ = refl

bound-at : (o : List Cell) → (s : List Frame) (is : List Item) (x : Option (List (List ℕ) × List Token)) → view o (bound_at s is x) ≡ flat.bound_item (opens o s) (items_made is (made o s)) (length (made o s)) x
bound-at o s is (Some (b, name n ∷ ts)) = bound-step o s is b n ts
bound-at o s is _ = refl

open-step : (o : List Cell) → (s : List Frame) (ts : List Token) → view o (open_step s ts) ≡ flat.open_step (opens o s) (made o s) ts
open-step o s (name n ∷ ts) = name-step o s n ts
open-step o s (lifetime n ∷ ts) = arg-end o s (lifetime_arg n) ts
open-step o s (number n ∷ ts) = arg-end o s (number_arg n) ts
open-step o s (sign ampersand ∷ ts) = ampersand-step o s ts
open-step o s (sign star ∷ ts) = star-step o s ts
open-step o s (sign open_round ∷ ts) = tuple-step o s ts
open-step o s (keyword for_word ∷ ts) = bound-fn o s (flat.binder_at ts)
open-step o s (keyword fn_word ∷ ts) = fn-step o s [] ts
open-step o s _ = refl

item-step : (o : List Cell) → (s : List Frame) (is : List Item) (ts : List Token) → view o (item_step s is ts) ≡ flat.item_step (opens o s) (items_made is (made o s)) (length (made o s)) ts
item-step o s is (lifetime n ∷ ts) = item-end o s is (lifetime_item n) ts
item-step o s is (name n ∷ ts) = bound-step o s is [] n ts
item-step o s is (keyword for_word ∷ ts) = bound-at o s is (flat.binder_at ts)
item-step o s is _ = refl

length-end : (o : List Cell) → (s : List Frame) (t : TypeTree) (n : Length) (ts : List Token) → view o (length_end s t n ts) ≡ flat.length_end (opens o s) (type_onto t (made o s)) n ts
length-end o s t n (sign close_square ∷ ts) = refl
length-end o s t n _ = refl

length-step : (o : List Cell) → (s : List Frame) (t : TypeTree) (ts : List Token) → view o (length_step s t ts) ≡ flat.length_step (opens o s) (type_onto t (made o s)) ts
length-step o s t (number n ∷ ts) = length-end o s t (number_length n) ts
length-step o s t (name n ∷ ts) = length-end o s t (name_length n) ts
length-step o s t (variable n ∷ ts) = length-end o s t (variable_length n) ts
length-step o s t _ = refl

brackets-end : (o : List Cell) → (s : List Frame) (t : TypeTree) (ts : List Token) → view o (brackets_end s t ts) ≡ flat.brackets_end (opens o s) (type_onto t (made o s)) ts
brackets-end o s t (sign close_square ∷ ts) = refl
brackets-end o s t (sign semicolon ∷ ts) = length-step o s t ts
brackets-end o s t _ = refl

second-step : (o : List Cell) → (s : List Frame) (t : TypeTree) (ts : List Token) → view o (second_step s t ts) ≡ flat.second_step (opens o s) (type_onto t (made o s)) (length (made o s)) ts
second-step o s t (sign close_round ∷ ts) = refl
second-step o s t _ = refl

tuple-end : (o : List Cell) → (s : List Frame) (t : TypeTree) (ts : List Token) → view o (tuple_end s t ts) ≡ flat.tuple_end (opens o s) (type_onto t (made o s)) (length (made o s)) ts
tuple-end o s t (sign comma ∷ ts) = second-step o s t ts
tuple-end o s t _ = refl

items-end : (o : List Cell) → (s : List Frame) (t : TypeTree) (us : List TypeTree) (ts : List Token) → view o (items_end s t us ts) ≡ flat.items_end (opens o s) (types_made us (type_onto t (made o s))) (length (made o s)) ts
items-end o s t us (sign comma ∷ ts) = refl
items-end o s t us (sign close_round ∷ ts) = ap (λ out. flat.closing (opens o s) (out ++ tuple_cell (length (made o s)) ∷ []) ts) (types-made us no_types (type_onto t (made o s)))
items-end o s t us _ = refl

input-end : (o : List Cell) → (s : List Frame) (b : List (List ℕ)) (us : List TypeTree) (ts : List Token) → view o (input_end s b us ts) ≡ flat.input_end (opens o s) (types_made us (binder_onto b (made o s))) (length (made o s)) (length (binder_onto b (made o s))) ts
input-end o s b us (sign comma ∷ ts) = refl
input-end o s b us (sign close_round ∷ ts) =
    inputs-end o s b (types_rev us no_types) ts
    ∙ ap (λ out. flat.inputs_end (opens o s) out (length (made o s)) (length (binder_onto b (made o s))) ts) (types-made us no_types (binder_onto b (made o s)))
input-end o s b us _ = refl

close-step : (o : List Cell) → (s : List Frame) (t : TypeTree) (ts : List Token) → view o (close_step s t ts) ≡ flat.close_step (opens o s) (type_onto t (made o s)) ts
close-step o [] t ts = refl
close-step o (in_args n xs ∷ s) t ts = args-end o s n (type_arg t ∷ xs) ts
close-step o (in_bound is b n xs ∷ s) t ts = bound-args-end o s is b n (type_arg t ∷ xs) ts
close-step o (in_reference l m ∷ s) t ts = refl
close-step o (in_pointer m ∷ s) t ts = refl
close-step o (in_brackets ∷ s) t ts = brackets-end o s t ts
close-step o (in_tuple ∷ s) t ts = tuple-end o s t ts
close-step o (in_items u us ∷ s) t ts = items-end o s u (t ∷ us) ts
close-step o (in_inputs b us ∷ s) t ts = input-end o s b (t ∷ us) ts
close-step o (in_output b us ∷ s) t ts = refl

pub view-step : (o : List Cell) → (x : TreeState) → view o (step x) ≡ flat.step (view o x)
view-step o (opening s ts) = open-step o s ts
view-step o (item s is ts) = item-step o s is ts
view-step o (closing s t ts) = close-step o s t ts
view-step o (finished t ts) = refl
view-step o stuck = refl

pub view-run : (o : List Cell) → (n : ℕ) (x : TreeState) → view o (run n x) ≡ flat.run n (view o x)
view-run o zero x = refl
view-run o (suc n) x = view-run o n (step x) ∙ ap (flat.run n) (view-step o x)

-- What is read as a type spells it.
use Rattle.std.proofs.Common.{◌≡◌, ℕ, zero, suc, Bool, List, [], ◌∷◌, ◌++◌, Option, Some, None, refl, sym, ap, ◌∙◌, subst, append_assoc}
use Rattle.std.proofs.lemmas.Option.{same_Some}
use Rattle.text_language.specs.Words.{mut_word, const_word, fn_word, dyn_word, for_word, open_angle, close_angle, open_round, close_round, open_square, close_square, comma, semicolon, ampersand, star, plus, exclamation}
use Rattle.text_language.specs.Tokens.{Token, keyword, primitive, name, lifetime, variable, number, sign, arrow}
use Rattle.text_language.specs.Promised.Syntax.{TypeTree, reference_to, tuple_of, fn_of, fn_to, Types, no_types, and_type, Args, no_args, and_arg, Arg, lifetime_arg, number_arg, type_arg, Item, bound_item, lifetime_item, DynBounds, no_items, and_item, Length, number_length, name_length, variable_length}
use Rattle.text_language.specs.Syntax.{more_lifetimes, binder_spelling, lifetime_spelling, mut_spelling, pointer_word, length_token, type_spelling, second_item, inputs_spelling, more_types, args_spelling, more_args, arg_spelling, item_spelling, more_items}
use Rattle.text_lines.specs.Machine.{binder_at, more_binder, in_front}
use Rattle.text_lines.proofs.TreeMachine.{Frame, in_args, in_bound, in_reference, in_pointer, in_brackets, in_tuple, in_items, in_inputs, in_output, TreeState, opening, item, closing, finished, stuck, args_rev, types_rev, dyn_rev, item_end, args_end, bound_args_end, arg_end, name_step, bound_step, reference_step, ampersand_step, star_step, tuple_step, inputs_end, inputs_step, fn_step, bound_fn, bound_at, open_step, item_step, length_end, length_step, brackets_end, second_step, tuple_end, items_end, input_end, close_step, step, run}

-- ---- the tokens of what is open, before those that are left

-- arguments with a comma behind each
abbrev args_before : List Arg → List Token → List Token
args_before [] r = r
args_before (a ∷ xs) r = args_before xs (arg_spelling a ++ sign comma ∷ r)

abbrev types_before : List TypeTree → List Token → List Token
types_before [] r = r
types_before (t ∷ us) r = types_before us (type_spelling t ++ sign comma ∷ r)

-- items with a plus behind each
abbrev items_before : List Item → List Token → List Token
items_before [] r = r
items_before (i ∷ is) r = items_before is (item_spelling i ++ sign plus ∷ r)

abbrev before : List Frame → List Token → List Token
before [] r = r
before (in_args n xs ∷ s) r = before s (name n ∷ sign open_angle ∷ args_before xs r)
before (in_bound is b n xs ∷ s) r = before s (keyword dyn_word ∷ items_before is (binder_spelling b ++ name n ∷ sign open_angle ∷ args_before xs r))
before (in_reference l m ∷ s) r = before s (sign ampersand ∷ (lifetime_spelling l ++ (mut_spelling m ++ r)))
before (in_pointer m ∷ s) r = before s (sign star ∷ keyword (pointer_word m) ∷ r)
before (in_brackets ∷ s) r = before s (sign open_square ∷ r)
before (in_tuple ∷ s) r = before s (sign open_round ∷ r)
before (in_items t us ∷ s) r = before s (sign open_round ∷ (type_spelling t ++ sign comma ∷ types_before us r))
before (in_inputs b us ∷ s) r = before s (binder_spelling b ++ keyword fn_word ∷ sign open_round ∷ types_before us r)
before (in_output b us ∷ s) r = before s (binder_spelling b ++ keyword fn_word ∷ sign open_round ∷ (inputs_spelling us ++ arrow ∷ r))

-- a state stands for all tokens
abbrev Says : List Token → TreeState → Type 0
Says all (opening s ts) = all ≡ before s ts
Says all (item s is ts) = all ≡ before s (keyword dyn_word ∷ items_before is ts)
Says all (closing s t ts) = all ≡ before s (type_spelling t ++ ts)
Says all (finished t ts) = all ≡ type_spelling t ++ ts
Says all stuck = Unit {0}

-- ---- lists that end
args-end-spelled : (xs : List Arg) (a : Arg) (args : Args) (r : List Token) → args_spelling (args_rev xs (and_arg a args)) ++ r ≡ sign open_angle ∷ args_before xs (arg_spelling a ++ (more_args args ++ r))
args-end-spelled [] a args r = ap (λ x. sign open_angle ∷ x) (append_assoc (arg_spelling a) (more_args args) r)
args-end-spelled (h ∷ xs) a args r = args-end-spelled xs h (and_arg a args) r ∙ ap (λ x. sign open_angle ∷ args_before xs (arg_spelling h ++ sign comma ∷ x)) (append_assoc (arg_spelling a) (more_args args) r)

inputs-end-spelled : (us : List TypeTree) (t : TypeTree) (ts : Types) (r : List Token) → inputs_spelling (types_rev us (and_type t ts)) ++ r ≡ types_before us (type_spelling t ++ (more_types ts ++ r))
inputs-end-spelled [] t ts r = append_assoc (type_spelling t) (more_types ts) r
inputs-end-spelled (h ∷ us) t ts r = inputs-end-spelled us h (and_type t ts) r ∙ ap (λ x. types_before us (type_spelling h ++ sign comma ∷ x)) (append_assoc (type_spelling t) (more_types ts) r)

second-spelled : (us : List TypeTree) (t : TypeTree) (ts : Types) (r : List Token) → second_item (types_rev us (and_type t ts)) ++ r ≡ sign comma ∷ types_before us (type_spelling t ++ (more_types ts ++ r))
second-spelled [] t ts r = ap (λ x. sign comma ∷ x) (append_assoc (type_spelling t) (more_types ts) r)
second-spelled (h ∷ us) t ts r = second-spelled us h (and_type t ts) r ∙ ap (λ x. sign comma ∷ types_before us (type_spelling h ++ sign comma ∷ x)) (append_assoc (type_spelling t) (more_types ts) r)

dyn-spelled : (is : List Item) (i : Item) (js : DynBounds) (r : List Token) → type_spelling (dyn_rev i is js) ++ r ≡ keyword dyn_word ∷ items_before is (item_spelling i ++ (more_items js ++ r))
dyn-spelled [] i js r = ap (λ x. keyword dyn_word ∷ x) (append_assoc (item_spelling i) (more_items js) r)
dyn-spelled (h ∷ is) i js r = dyn-spelled is h (and_item i js) r ∙ ap (λ x. keyword dyn_word ∷ items_before is (item_spelling h ++ sign plus ∷ x)) (append_assoc (item_spelling i) (more_items js) r)

-- ---- binders
in-front-some : (n : List ℕ) (x : Option (List (List ℕ) × List Token)) (b : List (List ℕ)) (r : List Token) → in_front n x ≡ Some (b, r) → (c : List (List ℕ)) × (x ≡ Some (c, r)) × (b ≡ n ∷ c)
in-front-some n None b r e = absurd cc
in-front-some n (Some (c, q)) b r e =
    let p = same_Some (n ∷ c, q) (b, r) e in
    (c, ap (λ y. Some (c, y)) (ap (λ (z : List (List ℕ) × List Token). z.1) p), sym (ap (λ (z : List (List ℕ) × List Token). z.0) p))

more-read : (ts : List Token) (b : List (List ℕ)) (r : List Token) → more_binder ts ≡ Some (b, r) → ts ≡ more_lifetimes b ++ sign close_angle ∷ r
more-read (sign close_angle ∷ ts) b r e =
    let p = same_Some ([], ts) (b, r) e in
    ap (λ (z : List (List ℕ) × List Token). more_lifetimes z.0 ++ sign close_angle ∷ z.1) p
more-read (sign comma ∷ lifetime n ∷ ts) b r e =
    let p = in-front-some n (more_binder ts) b r e in
    ap (λ x. sign comma ∷ lifetime n ∷ x) (more-read ts p.0 r p.1) ∙ ap (λ c. more_lifetimes c ++ sign close_angle ∷ r) (sym p.2)
more-read _ b r e = absurd cc

binder-read : (ts : List Token) (b : List (List ℕ)) (r : List Token) → binder_at ts ≡ Some (b, r) → keyword for_word ∷ ts ≡ binder_spelling b ++ r
binder-read (sign open_angle ∷ lifetime n ∷ ts) b r e =
    let p = in-front-some n (more_binder ts) b r e in
    ap (λ x. keyword for_word ∷ sign open_angle ∷ lifetime n ∷ x) (more-read ts p.0 r p.1 ∙ sym (append_assoc (more_lifetimes p.0) (sign close_angle ∷ []) r)) ∙ ap (λ c. binder_spelling c ++ r) (sym p.2)
binder-read (sign open_angle ∷ []) b r e = absurd cc
binder-read (sign open_angle ∷ _ ∷ ts) b r e = absurd cc
binder-read _ b r e = absurd cc

-- ---- each step keeps what the state says
item-kept : (all : List Token) (s : List Frame) (is : List Item) (i : Item) (ts : List Token) → all ≡ before s (keyword dyn_word ∷ items_before is (item_spelling i ++ ts)) → Says all (item_end s is i ts)
item-kept all s is i (sign plus ∷ ts) h = h
item-kept all s is i ts h = h ∙ ap (before s) (sym (dyn-spelled is i no_items ts))

args-kept : (all : List Token) (s : List Frame) (n : List ℕ) (a : Arg) (xs : List Arg) (ts : List Token) → all ≡ before s (name n ∷ sign open_angle ∷ args_before xs (arg_spelling a ++ ts)) → Says all (args_end s n (a ∷ xs) ts)
args-kept all s n a xs (sign comma ∷ ts) h = h
args-kept all s n a xs (sign close_angle ∷ ts) h = h ∙ ap (λ x. before s (name n ∷ x)) (sym (args-end-spelled xs a no_args ts))
args-kept all s n a xs _ h = tt

bound-spelled : (b : List (List ℕ)) (n : List ℕ) (args : Args) (r : List Token) → item_spelling (bound_item b n args) ++ r ≡ binder_spelling b ++ name n ∷ (args_spelling args ++ r)
bound-spelled b n args r = append_assoc (binder_spelling b) (name n ∷ args_spelling args) r

bound-args-kept : (all : List Token) (s : List Frame) (is : List Item) (b : List (List ℕ)) (n : List ℕ) (a : Arg) (xs : List Arg) (ts : List Token) → all ≡ before s (keyword dyn_word ∷ items_before is (binder_spelling b ++ name n ∷ sign open_angle ∷ args_before xs (arg_spelling a ++ ts))) → Says all (bound_args_end s is b n (a ∷ xs) ts)
bound-args-kept all s is b n a xs (sign comma ∷ ts) h = h
bound-args-kept all s is b n a xs (sign close_angle ∷ ts) h =
    item-kept all s is (bound_item b n (args_rev (a ∷ xs) no_args)) ts
    (h ∙ ap (λ x. before s (keyword dyn_word ∷ items_before is x)) (ap (λ x. binder_spelling b ++ name n ∷ x) (sym (args-end-spelled xs a no_args ts)) ∙ sym (bound-spelled b n (args_rev (a ∷ xs) no_args) ts)))
bound-args-kept all s is b n a xs _ h = tt

arg-kept : (all : List Token) (s : List Frame) (a : Arg) (ts : List Token) → all ≡ before s (arg_spelling a ++ ts) → Says all (arg_end s a ts)
arg-kept all [] a ts h = tt
arg-kept all (in_args n xs ∷ s) a ts h = args-kept all s n a xs ts h
arg-kept all (in_bound is b n xs ∷ s) a ts h = bound-args-kept all s is b n a xs ts h
arg-kept all (_ ∷ s) a ts h = tt

name-kept : (all : List Token) (s : List Frame) (n : List ℕ) (ts : List Token) → all ≡ before s (name n ∷ ts) → Says all (name_step s n ts)
name-kept all s n (sign open_angle ∷ ts) h = h
name-kept all s n _ h = h

bound-kept : (all : List Token) (s : List Frame) (is : List Item) (b : List (List ℕ)) (n : List ℕ) (ts : List Token) → all ≡ before s (keyword dyn_word ∷ items_before is (binder_spelling b ++ name n ∷ ts)) → Says all (bound_step s is b n ts)
bound-kept all s is b n (sign open_angle ∷ ts) h = h
bound-kept all s is b n ts h = item-kept all s is (bound_item b n no_args) ts (h ∙ ap (λ x. before s (keyword dyn_word ∷ items_before is x)) (sym (bound-spelled b n no_args ts)))

reference-kept : (all : List Token) (s : List Frame) (l : Option (List ℕ)) (ts : List Token) → all ≡ before s (sign ampersand ∷ (lifetime_spelling l ++ ts)) → Says all (reference_step s l ts)
reference-kept all s l (keyword mut_word ∷ ts) h = h
reference-kept all s l _ h = h

ampersand-kept : (all : List Token) (s : List Frame) (ts : List Token) → all ≡ before s (sign ampersand ∷ ts) → Says all (ampersand_step s ts)
ampersand-kept all s (lifetime n ∷ ts) h = reference-kept all s (Some n) ts h
ampersand-kept all s ts h = reference-kept all s None ts h

star-kept : (all : List Token) (s : List Frame) (ts : List Token) → all ≡ before s (sign star ∷ ts) → Says all (star_step s ts)
star-kept all s (keyword const_word ∷ ts) h = h
star-kept all s (keyword mut_word ∷ ts) h = h
star-kept all s _ h = tt

tuple-kept : (all : List Token) (s : List Frame) (ts : List Token) → all ≡ before s (sign open_round ∷ ts) → Says all (tuple_step s ts)
tuple-kept all s (sign close_round ∷ ts) h = h
tuple-kept all s _ h = h

fn-spelled : (b : List (List ℕ)) (us : Types) (r : List Token) → type_spelling (fn_of b us) ++ r ≡ binder_spelling b ++ keyword fn_word ∷ sign open_round ∷ (inputs_spelling us ++ r)
fn-spelled b us r = append_assoc (binder_spelling b) (keyword fn_word ∷ sign open_round ∷ inputs_spelling us) r

inputs-kept : (all : List Token) (s : List Frame) (b : List (List ℕ)) (us : Types) (ts : List Token) → all ≡ before s (binder_spelling b ++ keyword fn_word ∷ sign open_round ∷ (inputs_spelling us ++ ts)) → Says all (inputs_end s b us ts)
inputs-kept all s b us (arrow ∷ ts) h = h
inputs-kept all s b us ts h = h ∙ ap (before s) (sym (fn-spelled b us ts))

inputs-step-kept : (all : List Token) (s : List Frame) (b : List (List ℕ)) (ts : List Token) → all ≡ before s (binder_spelling b ++ keyword fn_word ∷ sign open_round ∷ ts) → Says all (inputs_step s b ts)
inputs-step-kept all s b (sign close_round ∷ ts) h = inputs-kept all s b no_types ts h
inputs-step-kept all s b _ h = h

fn-kept : (all : List Token) (s : List Frame) (b : List (List ℕ)) (ts : List Token) → all ≡ before s (binder_spelling b ++ keyword fn_word ∷ ts) → Says all (fn_step s b ts)
fn-kept all s b (sign open_round ∷ ts) h = inputs-step-kept all s b ts h
fn-kept all s b _ h = tt

bound-fn-kept : (all : List Token) (s : List Frame) (ts : List Token) (x : Option (List (List ℕ) × List Token)) → binder_at ts ≡ x → all ≡ before s (keyword for_word ∷ ts) → Says all (bound_fn s x)
bound-fn-kept all s ts (Some (b, keyword fn_word ∷ r)) e h = fn-kept all s b r (h ∙ ap (before s) (binder-read ts b (keyword fn_word ∷ r) e))
bound-fn-kept all s ts _ e h = tt

bound-at-kept : (all : List Token) (s : List Frame) (is : List Item) (ts : List Token) (x : Option (List (List ℕ) × List Token)) → binder_at ts ≡ x → all ≡ before s (keyword dyn_word ∷ items_before is (keyword for_word ∷ ts)) → Says all (bound_at s is x)
bound-at-kept all s is ts (Some (b, name n ∷ r)) e h = bound-kept all s is b n r (h ∙ ap (λ y. before s (keyword dyn_word ∷ items_before is y)) (binder-read ts b (name n ∷ r) e))
bound-at-kept all s is ts _ e h = tt

open-kept : (all : List Token) (s : List Frame) (ts : List Token) → all ≡ before s ts → Says all (open_step s ts)
open-kept all s (primitive p ∷ ts) h = h
open-kept all s (sign exclamation ∷ ts) h = h
open-kept all s (variable n ∷ ts) h = h
open-kept all s (name n ∷ ts) h = name-kept all s n ts h
open-kept all s (lifetime n ∷ ts) h = arg-kept all s (lifetime_arg n) ts h
open-kept all s (number n ∷ ts) h = arg-kept all s (number_arg n) ts h
open-kept all s (sign ampersand ∷ ts) h = ampersand-kept all s ts h
open-kept all s (sign star ∷ ts) h = star-kept all s ts h
open-kept all s (sign open_square ∷ ts) h = h
open-kept all s (sign open_round ∷ ts) h = tuple-kept all s ts h
open-kept all s (keyword for_word ∷ ts) h = bound-fn-kept all s ts (binder_at ts) refl h
open-kept all s (keyword fn_word ∷ ts) h = fn-kept all s [] ts h
open-kept all s (keyword dyn_word ∷ ts) h = h
open-kept all s _ h = tt

item-step-kept : (all : List Token) (s : List Frame) (is : List Item) (ts : List Token) → all ≡ before s (keyword dyn_word ∷ items_before is ts) → Says all (item_step s is ts)
item-step-kept all s is (lifetime n ∷ ts) h = item-kept all s is (lifetime_item n) ts h
item-step-kept all s is (name n ∷ ts) h = bound-kept all s is [] n ts h
item-step-kept all s is (keyword for_word ∷ ts) h = bound-at-kept all s is ts (binder_at ts) refl h
item-step-kept all s is _ h = tt

length-end-kept : (all : List Token) (s : List Frame) (t : TypeTree) (n : Length) (ts : List Token) → all ≡ before s (sign open_square ∷ (type_spelling t ++ sign semicolon ∷ length_token n ∷ ts)) → Says all (length_end s t n ts)
length-end-kept all s t n (sign close_square ∷ ts) h = h ∙ ap (λ x. before s (sign open_square ∷ x)) (sym (append_assoc (type_spelling t) (sign semicolon ∷ length_token n ∷ sign close_square ∷ []) ts))
length-end-kept all s t n _ h = tt

length-kept : (all : List Token) (s : List Frame) (t : TypeTree) (ts : List Token) → all ≡ before s (sign open_square ∷ (type_spelling t ++ sign semicolon ∷ ts)) → Says all (length_step s t ts)
length-kept all s t (number n ∷ ts) h = length-end-kept all s t (number_length n) ts h
length-kept all s t (name n ∷ ts) h = length-end-kept all s t (name_length n) ts h
length-kept all s t (variable n ∷ ts) h = length-end-kept all s t (variable_length n) ts h
length-kept all s t _ h = tt

brackets-kept : (all : List Token) (s : List Frame) (t : TypeTree) (ts : List Token) → all ≡ before s (sign open_square ∷ (type_spelling t ++ ts)) → Says all (brackets_end s t ts)
brackets-kept all s t (sign close_square ∷ ts) h = h ∙ ap (λ x. before s (sign open_square ∷ x)) (sym (append_assoc (type_spelling t) (sign close_square ∷ []) ts))
brackets-kept all s t (sign semicolon ∷ ts) h = length-kept all s t ts h
brackets-kept all s t _ h = tt

tuple-spelled : (t : TypeTree) (us : Types) (r : List Token) → type_spelling (tuple_of (and_type t us)) ++ r ≡ sign open_round ∷ (type_spelling t ++ (second_item us ++ r))
tuple-spelled t us r = ap (λ x. sign open_round ∷ x) (append_assoc (type_spelling t) (second_item us) r)

second-kept : (all : List Token) (s : List Frame) (t : TypeTree) (ts : List Token) → all ≡ before s (sign open_round ∷ (type_spelling t ++ sign comma ∷ ts)) → Says all (second_step s t ts)
second-kept all s t (sign close_round ∷ ts) h = h ∙ ap (before s) (sym (tuple-spelled t no_types ts))
second-kept all s t _ h = h

tuple-end-kept : (all : List Token) (s : List Frame) (t : TypeTree) (ts : List Token) → all ≡ before s (sign open_round ∷ (type_spelling t ++ ts)) → Says all (tuple_end s t ts)
tuple-end-kept all s t (sign comma ∷ ts) h = second-kept all s t ts h
tuple-end-kept all s t _ h = tt

items-kept : (all : List Token) (s : List Frame) (t u : TypeTree) (us : List TypeTree) (ts : List Token) → all ≡ before s (sign open_round ∷ (type_spelling t ++ sign comma ∷ types_before us (type_spelling u ++ ts))) → Says all (items_end s t (u ∷ us) ts)
items-kept all s t u us (sign comma ∷ ts) h = h
items-kept all s t u us (sign close_round ∷ ts) h =
    h ∙ ap (λ x. before s (sign open_round ∷ (type_spelling t ++ x))) (sym (second-spelled us u no_types ts)) ∙ ap (before s) (sym (tuple-spelled t (types_rev (u ∷ us) no_types) ts))
items-kept all s t u us _ h = tt

input-kept : (all : List Token) (s : List Frame) (b : List (List ℕ)) (u : TypeTree) (us : List TypeTree) (ts : List Token) → all ≡ before s (binder_spelling b ++ keyword fn_word ∷ sign open_round ∷ types_before us (type_spelling u ++ ts)) → Says all (input_end s b (u ∷ us) ts)
input-kept all s b u us (sign comma ∷ ts) h = h
input-kept all s b u us (sign close_round ∷ ts) h = inputs-kept all s b (types_rev (u ∷ us) no_types) ts (h ∙ ap (λ x. before s (binder_spelling b ++ keyword fn_word ∷ sign open_round ∷ x)) (sym (inputs-end-spelled us u no_types ts)))
input-kept all s b u us _ h = tt

reference-spelled : (l : Option (List ℕ)) (m : Bool) (t : TypeTree) (r : List Token) → type_spelling (reference_to l m t) ++ r ≡ sign ampersand ∷ (lifetime_spelling l ++ (mut_spelling m ++ (type_spelling t ++ r)))
reference-spelled l m t r = ap (λ x. sign ampersand ∷ x) (append_assoc (lifetime_spelling l) (mut_spelling m ++ type_spelling t) r ∙ ap (λ x. lifetime_spelling l ++ x) (append_assoc (mut_spelling m) (type_spelling t) r))

output-spelled : (b : List (List ℕ)) (us : Types) (t : TypeTree) (r : List Token) → type_spelling (fn_to b us t) ++ r ≡ binder_spelling b ++ keyword fn_word ∷ sign open_round ∷ (inputs_spelling us ++ arrow ∷ (type_spelling t ++ r))
output-spelled b us t r =
    append_assoc (binder_spelling b) (keyword fn_word ∷ sign open_round ∷ (inputs_spelling us ++ arrow ∷ type_spelling t)) r
    ∙ ap (λ x. binder_spelling b ++ keyword fn_word ∷ sign open_round ∷ x) (append_assoc (inputs_spelling us) (arrow ∷ type_spelling t) r)

close-kept : (all : List Token) (s : List Frame) (t : TypeTree) (ts : List Token) → all ≡ before s (type_spelling t ++ ts) → Says all (close_step s t ts)
close-kept all [] t ts h = h
close-kept all (in_args n xs ∷ s) t ts h = args-kept all s n (type_arg t) xs ts h
close-kept all (in_bound is b n xs ∷ s) t ts h = bound-args-kept all s is b n (type_arg t) xs ts h
close-kept all (in_reference l m ∷ s) t ts h = h ∙ ap (before s) (sym (reference-spelled l m t ts))
close-kept all (in_pointer m ∷ s) t ts h = h
close-kept all (in_brackets ∷ s) t ts h = brackets-kept all s t ts h
close-kept all (in_tuple ∷ s) t ts h = tuple-end-kept all s t ts h
close-kept all (in_items u us ∷ s) t ts h = items-kept all s u t us ts h
close-kept all (in_inputs b us ∷ s) t ts h = input-kept all s b t us ts h
close-kept all (in_output b us ∷ s) t ts h = h ∙ ap (before s) (sym (output-spelled b us t ts))

kept : (all : List Token) (x : TreeState) → Says all x → Says all (step x)
kept all (opening s ts) h = open-kept all s ts h
kept all (item s is ts) h = item-step-kept all s is ts h
kept all (closing s t ts) h = close-kept all s t ts h
kept all (finished t ts) h = h
kept all stuck h = h

all-kept : (n : ℕ) (all : List Token) (x : TreeState) → Says all x → Says all (run n x)
all-kept zero all x h = h
all-kept (suc n) all x h = all-kept n all (step x) (kept all x h)

pub spells : (n : ℕ) (ts r : List Token) (t : TypeTree) → run n (opening [] ts) ≡ finished t r → ts ≡ type_spelling t ++ r
spells n ts r t e = subst (Says ts) e (all-kept n ts (opening [] ts) refl)

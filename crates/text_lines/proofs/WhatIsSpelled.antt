-- What spells a type is read, in however many steps, whatever stands behind it.
use Rattle.std.proofs.Common.{◌≡◌, ℕ, zero, suc, ◌+◌, Bool, true, false, List, [], ◌∷◌, ◌++◌, Option, Some, None, refl, sym, ap, ◌∙◌, subst, append_assoc, arith}
use Rattle.text_language.specs.Words.{mut_word, fn_word, dyn_word, open_angle, close_angle, open_round, close_round, open_square, close_square, comma, semicolon, ampersand, star, plus, exclamation}
use Rattle.text_language.specs.Tokens.{Token, keyword, primitive, name, lifetime, variable, number, sign, arrow}
use Rattle.text_language.specs.Promised.Syntax.{TypeTree, of_primitive, never_type, variable_type, named, reference_to, pointer_to, slice_of, array_of, tuple_of, fn_of, fn_to, dyn_of, Types, no_types, and_type, Args, no_args, and_arg, Arg, lifetime_arg, number_arg, type_arg, Item, bound_item, lifetime_item, DynBounds, no_items, and_item, Length, number_length, name_length, variable_length}
use Rattle.text_language.specs.Syntax.{more_lifetimes, binder_spelling, lifetime_spelling, mut_spelling, pointer_word, length_token, type_spelling, second_item, inputs_spelling, more_types, more_args, arg_spelling, item_spelling, more_items}
use Rattle.text_lines.specs.Machine.{more_binder, in_front}
use Rattle.text_lines.specs.Follows.{IsCompleteType}
use Rattle.text_lines.specs.TokenSteps.{NoAngle}
use Rattle.text_lines.proofs.TreeMachine.{Frame, in_args, in_bound, in_reference, in_pointer, in_brackets, in_tuple, in_items, in_inputs, in_output, TreeState, opening, item, closing, finished, args_rev, types_rev, dyn_rev, item_end, args_end, bound_args_end, name_step, bound_step, reference_step, ampersand_step, star_step, tuple_step, inputs_end, inputs_step, fn_step, bound_fn, bound_at, open_step, item_step, length_step, second_step, items_end, input_end, step, run}

-- ---- the machine comes from one state to another
pub record Leads (x y : TreeState) : Type 0 where
  pub steps : ℕ
  pub comes : run steps x ≡ y

pub run-then : (n m : ℕ) (x : TreeState) → run m (run n x) ≡ run (n + m) x
run-then zero m x = let e : 0 + m ≡ m = omega arith in rw e refl
run-then (suc n) m x = let e : suc n + m ≡ suc (n + m) = omega arith in rw e (run-then n m (step x))

stays : (x : TreeState) → Leads x x
stays x = record { steps = 0; comes = refl }

goes : (x : TreeState) → Leads x (step x)
goes x = record { steps = 1; comes = refl }

then : (x y z : TreeState) → Leads x y → Leads y z → Leads x z
then x y z p q = record { steps = p.steps + q.steps; comes = sym (run-then p.steps q.steps x) ∙ ap (run q.steps) p.comes ∙ q.comes }

-- from an equal state
from : (x y z : TreeState) → x ≡ y → Leads y z → Leads x z
from x y z e p = subst (λ w. Leads w z) (sym e) p

to : (x y z : TreeState) → Leads x y → y ≡ z → Leads x z
to x y z p e = subst (λ w. Leads x w) e p

-- ---- what may stand behind a bound: no arguments

follows-no-args : (r : List Token) → IsCompleteType r → NoAngle r
follows-no-args [] h = tt
follows-no-args (sign open_angle ∷ r) h = h
follows-no-args (_ ∷ r) h = tt

name-alone : (s : List Frame) (n : List ℕ) (r : List Token) → NoAngle r → name_step s n r ≡ closing s (named n no_args) r
name-alone s n [] h = refl
name-alone s n (sign open_angle ∷ r) h = absurd h
name-alone s n (_ ∷ r) h = refl

bound-alone : (s : List Frame) (is : List Item) (b : List (List ℕ)) (n : List ℕ) (r : List Token) → NoAngle r → bound_step s is b n r ≡ item_end s is (bound_item b n no_args) r
bound-alone s is b n [] h = refl
bound-alone s is b n (sign open_angle ∷ r) h = absurd h
bound-alone s is b n (_ ∷ r) h = refl

item-alone : (s : List Frame) (is : List Item) (i : Item) (r : List Token) → IsCompleteType r → item_end s is i r ≡ closing s (dyn_rev i is no_items) r
item-alone s is i [] h = refl
item-alone s is i (sign plus ∷ r) h = absurd h
item-alone s is i (_ ∷ r) h = refl

fn-alone : (s : List Frame) (b : List (List ℕ)) (us : Types) (r : List Token) → IsCompleteType r → inputs_end s b us r ≡ closing s (fn_of b us) r
fn-alone s b us [] h = refl
fn-alone s b us (arrow ∷ r) h = absurd h
fn-alone s b us (_ ∷ r) h = refl

more-types-follow : (ts : Types) (r : List Token) → IsCompleteType (more_types ts ++ r)
more-types-follow no_types r = tt
more-types-follow (and_type t ts) r = tt

second-follows : (ts : Types) (r : List Token) → IsCompleteType (second_item ts ++ r)
second-follows no_types r = tt
second-follows (and_type t ts) r = tt

more-args-follow : (args : Args) (r : List Token) → IsCompleteType (more_args args ++ r)
more-args-follow no_args r = tt
more-args-follow (and_arg a args) r = tt

more-items-no-args : (js : DynBounds) (r : List Token) → IsCompleteType r → NoAngle (more_items js ++ r)
more-items-no-args no_items r h = follows-no-args r h
more-items-no-args (and_item j js) r h = tt

-- ---- binders
more-binder : (b : List (List ℕ)) (r : List Token) → more_binder ((more_lifetimes b ++ sign close_angle ∷ []) ++ r) ≡ Some (b, r)
more-binder [] r = refl
more-binder (n ∷ ns) r = ap (in_front n) (more-binder ns r)

-- ---- a type begins with no `)`
abbrev Opens : List Token → Type 0
Opens [] = ⊥
Opens (sign close_round ∷ ts) = ⊥
Opens (_ ∷ ts) = Unit {0}

opens : (t : TypeTree) (r : List Token) → Opens (type_spelling t ++ r)
opens (fn_of [] ts) r = tt
opens (fn_of (n ∷ ns) ts) r = tt
opens (fn_to [] ts u) r = tt
opens (fn_to (n ∷ ns) ts u) r = tt
opens _ r = tt

tuple-opens : (s : List Frame) (ts : List Token) → Opens ts → tuple_step s ts ≡ opening (in_tuple ∷ s) ts
tuple-opens s [] h = absurd h
tuple-opens s (sign close_round ∷ ts) h = absurd h
tuple-opens s (_ ∷ ts) h = refl

inputs-opens : (s : List Frame) (b : List (List ℕ)) (ts : List Token) → Opens ts → inputs_step s b ts ≡ opening (in_inputs b [] ∷ s) ts
inputs-opens s b [] h = absurd h
inputs-opens s b (sign close_round ∷ ts) h = absurd h
inputs-opens s b (_ ∷ ts) h = refl

second-opens : (s : List Frame) (t : TypeTree) (ts : List Token) → Opens ts → second_step s t ts ≡ opening (in_items t [] ∷ s) ts
second-opens s t [] h = absurd h
second-opens s t (sign close_round ∷ ts) h = absurd h
second-opens s t (_ ∷ ts) h = refl

-- a type begins with no lifetime and no `mut`
abbrev Begins : List Token → Type 0
Begins [] = ⊥
Begins (lifetime n ∷ ts) = ⊥
Begins (keyword mut_word ∷ ts) = ⊥
Begins (_ ∷ ts) = Unit {0}

begins : (t : TypeTree) (r : List Token) → Begins (type_spelling t ++ r)
begins (fn_of [] ts) r = tt
begins (fn_of (n ∷ ns) ts) r = tt
begins (fn_to [] ts u) r = tt
begins (fn_to (n ∷ ns) ts u) r = tt
begins _ r = tt

shared-begins : (s : List Frame) (l : Option (List ℕ)) (ts : List Token) → Begins ts → reference_step s l ts ≡ opening (in_reference l false ∷ s) ts
shared-begins s l [] h = absurd h
shared-begins s l (lifetime n ∷ ts) h = absurd h
shared-begins s l (keyword mut_word ∷ ts) h = absurd h
shared-begins s l (_ ∷ ts) h = refl

omitted-begins : (s : List Frame) (ts : List Token) → Begins ts → ampersand_step s ts ≡ reference_step s None ts
omitted-begins s [] h = absurd h
omitted-begins s (lifetime n ∷ ts) h = absurd h
omitted-begins s (keyword mut_word ∷ ts) h = absurd h
omitted-begins s (_ ∷ ts) h = refl

reference-opens : (s : List Frame) (l : Option (List ℕ)) (m : Bool) (ts : List Token) → Begins ts → ampersand_step s (lifetime_spelling l ++ (mut_spelling m ++ ts)) ≡ opening (in_reference l m ∷ s) ts
reference-opens s None false ts h = omitted-begins s ts h ∙ shared-begins s None ts h
reference-opens s None true ts h = refl
reference-opens s (Some n) false ts h = shared-begins s (Some n) ts h
reference-opens s (Some n) true ts h = refl

pointer-opens : (s : List Frame) (m : Bool) (ts : List Token) → star_step s (keyword (pointer_word m) ∷ ts) ≡ opening (in_pointer m ∷ s) ts
pointer-opens s false ts = refl
pointer-opens s true ts = refl

-- behind a binder, or none
fn-opens : (s : List Frame) (b : List (List ℕ)) (ts : List Token) → open_step s (binder_spelling b ++ keyword fn_word ∷ ts) ≡ fn_step s b ts
fn-opens s [] ts = refl
fn-opens s (n ∷ ns) ts = ap (λ x. bound_fn s (in_front n x)) (more-binder ns (keyword fn_word ∷ ts))

bound-opens : (s : List Frame) (is : List Item) (b : List (List ℕ)) (n : List ℕ) (ts : List Token) → item_step s is (binder_spelling b ++ name n ∷ ts) ≡ bound_step s is b n ts
bound-opens s is [] n ts = refl
bound-opens s is (m ∷ ms) n ts = ap (λ x. bound_at s is (in_front m x)) (more-binder ms (name n ∷ ts))

length-ends : (s : List Frame) (t : TypeTree) (n : Length) (r : List Token) → length_step s t (length_token n ∷ sign close_square ∷ r) ≡ closing s (array_of t n) r
length-ends s t (number_length n) r = refl
length-ends s t (name_length n) r = refl
length-ends s t (variable_length n) r = refl

-- ---- the law
mutual
  pub reads : (t : TypeTree) (s : List Frame) (r : List Token) → IsCompleteType r → Leads (opening s (type_spelling t ++ r)) (closing s t r)
  reads (of_primitive p) s r h = goes (opening s (primitive p ∷ r))
  reads never_type s r h = goes (opening s (sign exclamation ∷ r))
  reads (variable_type n) s r h = goes (opening s (variable n ∷ r))
  reads (named n no_args) s r h = to (opening s (name n ∷ r)) (name_step s n r) (closing s (named n no_args) r) (goes (opening s (name n ∷ r))) (name-alone s n r (follows-no-args r h))
  reads (named n (and_arg a args)) s r h =
      then _ (opening (in_args n [] ∷ s) ((arg_spelling a ++ more_args args) ++ r)) _ (goes (opening s (name n ∷ sign open_angle ∷ ((arg_spelling a ++ more_args args) ++ r))))
      (from _ (opening (in_args n [] ∷ s) (arg_spelling a ++ (more_args args ++ r))) _ (ap (opening (in_args n [] ∷ s)) (append_assoc (arg_spelling a) (more_args args) r))
      (then _ (args_end s n (a ∷ []) (more_args args ++ r)) _ (reads_arg a s n [] (more_args args ++ r) (more-args-follow args r)) (reads_more args s n (a ∷ []) r)))
  reads (reference_to l m t) s r h =
      then _ (opening (in_reference l m ∷ s) (type_spelling t ++ r)) _
      (to (opening s (sign ampersand ∷ ((lifetime_spelling l ++ (mut_spelling m ++ type_spelling t)) ++ r))) (ampersand_step s ((lifetime_spelling l ++ (mut_spelling m ++ type_spelling t)) ++ r)) _
      (goes (opening s (sign ampersand ∷ ((lifetime_spelling l ++ (mut_spelling m ++ type_spelling t)) ++ r))))
      (ap (ampersand_step s) (append_assoc (lifetime_spelling l) (mut_spelling m ++ type_spelling t) r ∙ ap (λ x. lifetime_spelling l ++ x) (append_assoc (mut_spelling m) (type_spelling t) r)) ∙ reference-opens s l m (type_spelling t ++ r) (begins t r)))
      (then _ (closing (in_reference l m ∷ s) t r) _ (reads t (in_reference l m ∷ s) r h) (goes (closing (in_reference l m ∷ s) t r)))
  reads (pointer_to m t) s r h =
      then _ (opening (in_pointer m ∷ s) (type_spelling t ++ r)) _
      (to (opening s (sign star ∷ keyword (pointer_word m) ∷ (type_spelling t ++ r))) (star_step s (keyword (pointer_word m) ∷ (type_spelling t ++ r))) _ (goes (opening s (sign star ∷ keyword (pointer_word m) ∷ (type_spelling t ++ r)))) (pointer-opens s m (type_spelling t ++ r)))
      (then _ (closing (in_pointer m ∷ s) t r) _ (reads t (in_pointer m ∷ s) r h) (goes (closing (in_pointer m ∷ s) t r)))
  reads (slice_of t) s r h =
      then _ (opening (in_brackets ∷ s) ((type_spelling t ++ sign close_square ∷ []) ++ r)) _ (goes (opening s (sign open_square ∷ ((type_spelling t ++ sign close_square ∷ []) ++ r))))
      (from _ (opening (in_brackets ∷ s) (type_spelling t ++ sign close_square ∷ r)) _ (ap (opening (in_brackets ∷ s)) (append_assoc (type_spelling t) (sign close_square ∷ []) r))
      (then _ (closing (in_brackets ∷ s) t (sign close_square ∷ r)) _ (reads t (in_brackets ∷ s) (sign close_square ∷ r) tt) (goes (closing (in_brackets ∷ s) t (sign close_square ∷ r)))))
  reads (array_of t n) s r h =
      then _ (opening (in_brackets ∷ s) ((type_spelling t ++ sign semicolon ∷ length_token n ∷ sign close_square ∷ []) ++ r)) _ (goes (opening s (sign open_square ∷ ((type_spelling t ++ sign semicolon ∷ length_token n ∷ sign close_square ∷ []) ++ r))))
      (from _ (opening (in_brackets ∷ s) (type_spelling t ++ sign semicolon ∷ length_token n ∷ sign close_square ∷ r)) _ (ap (opening (in_brackets ∷ s)) (append_assoc (type_spelling t) (sign semicolon ∷ length_token n ∷ sign close_square ∷ []) r))
      (then _ (closing (in_brackets ∷ s) t (sign semicolon ∷ length_token n ∷ sign close_square ∷ r)) _ (reads t (in_brackets ∷ s) (sign semicolon ∷ length_token n ∷ sign close_square ∷ r) tt)
      (to (closing (in_brackets ∷ s) t (sign semicolon ∷ length_token n ∷ sign close_square ∷ r)) (length_step s t (length_token n ∷ sign close_square ∷ r)) _ (goes (closing (in_brackets ∷ s) t (sign semicolon ∷ length_token n ∷ sign close_square ∷ r))) (length-ends s t n r))))
  reads (tuple_of no_types) s r h = goes (opening s (sign open_round ∷ sign close_round ∷ r))
  reads (tuple_of (and_type t ts)) s r h =
      then _ (opening (in_tuple ∷ s) (type_spelling t ++ (second_item ts ++ r))) _
      (to (opening s (sign open_round ∷ ((type_spelling t ++ second_item ts) ++ r))) (tuple_step s ((type_spelling t ++ second_item ts) ++ r)) _ (goes (opening s (sign open_round ∷ ((type_spelling t ++ second_item ts) ++ r))))
      (ap (tuple_step s) (append_assoc (type_spelling t) (second_item ts) r) ∙ tuple-opens s (type_spelling t ++ (second_item ts ++ r)) (opens t (second_item ts ++ r))))
      (then _ (closing (in_tuple ∷ s) t (second_item ts ++ r)) _ (reads t (in_tuple ∷ s) (second_item ts ++ r) (second-follows ts r)) (reads_second ts s t r))
  reads (fn_of b ts) s r h =
      then _ (inputs_step s b (inputs_spelling ts ++ r)) _
      (to (opening s ((binder_spelling b ++ keyword fn_word ∷ sign open_round ∷ inputs_spelling ts) ++ r)) (open_step s ((binder_spelling b ++ keyword fn_word ∷ sign open_round ∷ inputs_spelling ts) ++ r)) _ (goes (opening s ((binder_spelling b ++ keyword fn_word ∷ sign open_round ∷ inputs_spelling ts) ++ r)))
      (ap (open_step s) (append_assoc (binder_spelling b) (keyword fn_word ∷ sign open_round ∷ inputs_spelling ts) r) ∙ fn-opens s b (sign open_round ∷ (inputs_spelling ts ++ r))))
      (to (inputs_step s b (inputs_spelling ts ++ r)) (inputs_end s b ts r) _ (reads_inputs ts s b r) (fn-alone s b ts r h))
  reads (fn_to b ts u) s r h =
      then _ (inputs_step s b (inputs_spelling ts ++ (arrow ∷ (type_spelling u ++ r)))) _
      (to (opening s ((binder_spelling b ++ keyword fn_word ∷ sign open_round ∷ (inputs_spelling ts ++ arrow ∷ type_spelling u)) ++ r)) (open_step s ((binder_spelling b ++ keyword fn_word ∷ sign open_round ∷ (inputs_spelling ts ++ arrow ∷ type_spelling u)) ++ r)) _ (goes (opening s ((binder_spelling b ++ keyword fn_word ∷ sign open_round ∷ (inputs_spelling ts ++ arrow ∷ type_spelling u)) ++ r)))
      (ap (open_step s) (append_assoc (binder_spelling b) (keyword fn_word ∷ sign open_round ∷ (inputs_spelling ts ++ arrow ∷ type_spelling u)) r) ∙ fn-opens s b (sign open_round ∷ ((inputs_spelling ts ++ arrow ∷ type_spelling u) ++ r))
      ∙ ap (inputs_step s b) (append_assoc (inputs_spelling ts) (arrow ∷ type_spelling u) r)))
      (then _ (inputs_end s b ts (arrow ∷ (type_spelling u ++ r))) _ (reads_inputs ts s b (arrow ∷ (type_spelling u ++ r)))
      (then _ (closing (in_output b ts ∷ s) u r) _ (reads u (in_output b ts ∷ s) r h) (goes (closing (in_output b ts ∷ s) u r))))
  reads (dyn_of i is) s r h =
      then _ (item s [] ((item_spelling i ++ more_items is) ++ r)) _ (goes (opening s (keyword dyn_word ∷ ((item_spelling i ++ more_items is) ++ r))))
      (from _ (item s [] (item_spelling i ++ (more_items is ++ r))) _ (ap (item s []) (append_assoc (item_spelling i) (more_items is) r))
      (then _ (item_end s [] i (more_items is ++ r)) _ (reads_item i s [] (more_items is ++ r) (more-items-no-args is r h)) (reads_items is s [] i r h)))

  -- behind the first item of a tuple
  reads_second : (ts : Types) (s : List Frame) (t : TypeTree) (r : List Token) → Leads (closing (in_tuple ∷ s) t (second_item ts ++ r)) (closing s (tuple_of (and_type t ts)) r)
  reads_second no_types s t r = goes (closing (in_tuple ∷ s) t (sign comma ∷ sign close_round ∷ r))
  reads_second (and_type u us) s t r =
      then _ (opening (in_items t [] ∷ s) (type_spelling u ++ (more_types us ++ r))) _
      (to (closing (in_tuple ∷ s) t (sign comma ∷ ((type_spelling u ++ more_types us) ++ r))) (second_step s t ((type_spelling u ++ more_types us) ++ r)) _ (goes (closing (in_tuple ∷ s) t (sign comma ∷ ((type_spelling u ++ more_types us) ++ r))))
      (ap (second_step s t) (append_assoc (type_spelling u) (more_types us) r) ∙ second-opens s t (type_spelling u ++ (more_types us ++ r)) (opens u (more_types us ++ r))))
      (then _ (closing (in_items t [] ∷ s) u (more_types us ++ r)) _ (reads u (in_items t [] ∷ s) (more_types us ++ r) (more-types-follow us r))
      (then _ (items_end s t (u ∷ []) (more_types us ++ r)) _ (goes (closing (in_items t [] ∷ s) u (more_types us ++ r))) (reads_more_items us s t (u ∷ []) r)))

  reads_more_items : (ts : Types) (s : List Frame) (t : TypeTree) (us : List TypeTree) (r : List Token) → Leads (items_end s t us (more_types ts ++ r)) (closing s (tuple_of (and_type t (types_rev us ts))) r)
  reads_more_items no_types s t us r = stays _
  reads_more_items (and_type u ts) s t us r =
      from _ (opening (in_items t us ∷ s) (type_spelling u ++ (more_types ts ++ r))) _ (ap (opening (in_items t us ∷ s)) (append_assoc (type_spelling u) (more_types ts) r))
      (then _ (closing (in_items t us ∷ s) u (more_types ts ++ r)) _ (reads u (in_items t us ∷ s) (more_types ts ++ r) (more-types-follow ts r))
      (then _ (items_end s t (u ∷ us) (more_types ts ++ r)) _ (goes (closing (in_items t us ∷ s) u (more_types ts ++ r))) (reads_more_items ts s t (u ∷ us) r)))

  -- behind the `(` of a fn
  reads_inputs : (ts : Types) (s : List Frame) (b : List (List ℕ)) (r : List Token) → Leads (inputs_step s b (inputs_spelling ts ++ r)) (inputs_end s b ts r)
  reads_inputs no_types s b r = stays _
  reads_inputs (and_type t ts) s b r =
      from _ (opening (in_inputs b [] ∷ s) (type_spelling t ++ (more_types ts ++ r))) _ (ap (inputs_step s b) (append_assoc (type_spelling t) (more_types ts) r) ∙ inputs-opens s b (type_spelling t ++ (more_types ts ++ r)) (opens t (more_types ts ++ r)))
      (then _ (closing (in_inputs b [] ∷ s) t (more_types ts ++ r)) _ (reads t (in_inputs b [] ∷ s) (more_types ts ++ r) (more-types-follow ts r))
      (then _ (input_end s b (t ∷ []) (more_types ts ++ r)) _ (goes (closing (in_inputs b [] ∷ s) t (more_types ts ++ r))) (reads_more_inputs ts s b (t ∷ []) r)))

  reads_more_inputs : (ts : Types) (s : List Frame) (b : List (List ℕ)) (us : List TypeTree) (r : List Token) → Leads (input_end s b us (more_types ts ++ r)) (inputs_end s b (types_rev us ts) r)
  reads_more_inputs no_types s b us r = stays _
  reads_more_inputs (and_type u ts) s b us r =
      from _ (opening (in_inputs b us ∷ s) (type_spelling u ++ (more_types ts ++ r))) _ (ap (opening (in_inputs b us ∷ s)) (append_assoc (type_spelling u) (more_types ts) r))
      (then _ (closing (in_inputs b us ∷ s) u (more_types ts ++ r)) _ (reads u (in_inputs b us ∷ s) (more_types ts ++ r) (more-types-follow ts r))
      (then _ (input_end s b (u ∷ us) (more_types ts ++ r)) _ (goes (closing (in_inputs b us ∷ s) u (more_types ts ++ r))) (reads_more_inputs ts s b (u ∷ us) r)))

  reads_arg : (a : Arg) (s : List Frame) (n : List ℕ) (xs : List Arg) (r : List Token) → IsCompleteType r → Leads (opening (in_args n xs ∷ s) (arg_spelling a ++ r)) (args_end s n (a ∷ xs) r)
  reads_arg (lifetime_arg l) s n xs r h = goes (opening (in_args n xs ∷ s) (lifetime l ∷ r))
  reads_arg (number_arg l) s n xs r h = goes (opening (in_args n xs ∷ s) (number l ∷ r))
  reads_arg (type_arg t) s n xs r h = then _ (closing (in_args n xs ∷ s) t r) _ (reads t (in_args n xs ∷ s) r h) (goes (closing (in_args n xs ∷ s) t r))

  reads_more : (args : Args) (s : List Frame) (n : List ℕ) (xs : List Arg) (r : List Token) → Leads (args_end s n xs (more_args args ++ r)) (closing s (named n (args_rev xs args)) r)
  reads_more no_args s n xs r = stays _
  reads_more (and_arg a args) s n xs r =
      from _ (opening (in_args n xs ∷ s) (arg_spelling a ++ (more_args args ++ r))) _ (ap (opening (in_args n xs ∷ s)) (append_assoc (arg_spelling a) (more_args args) r))
      (then _ (args_end s n (a ∷ xs) (more_args args ++ r)) _ (reads_arg a s n xs (more_args args ++ r) (more-args-follow args r)) (reads_more args s n (a ∷ xs) r))

  reads_bound_arg : (a : Arg) (s : List Frame) (is : List Item) (b : List (List ℕ)) (n : List ℕ) (xs : List Arg) (r : List Token) → IsCompleteType r → Leads (opening (in_bound is b n xs ∷ s) (arg_spelling a ++ r)) (bound_args_end s is b n (a ∷ xs) r)
  reads_bound_arg (lifetime_arg l) s is b n xs r h = goes (opening (in_bound is b n xs ∷ s) (lifetime l ∷ r))
  reads_bound_arg (number_arg l) s is b n xs r h = goes (opening (in_bound is b n xs ∷ s) (number l ∷ r))
  reads_bound_arg (type_arg t) s is b n xs r h = then _ (closing (in_bound is b n xs ∷ s) t r) _ (reads t (in_bound is b n xs ∷ s) r h) (goes (closing (in_bound is b n xs ∷ s) t r))

  reads_more_bound : (args : Args) (s : List Frame) (is : List Item) (b : List (List ℕ)) (n : List ℕ) (xs : List Arg) (r : List Token) → Leads (bound_args_end s is b n xs (more_args args ++ r)) (item_end s is (bound_item b n (args_rev xs args)) r)
  reads_more_bound no_args s is b n xs r = stays _
  reads_more_bound (and_arg a args) s is b n xs r =
      from _ (opening (in_bound is b n xs ∷ s) (arg_spelling a ++ (more_args args ++ r))) _ (ap (opening (in_bound is b n xs ∷ s)) (append_assoc (arg_spelling a) (more_args args) r))
      (then _ (bound_args_end s is b n (a ∷ xs) (more_args args ++ r)) _ (reads_bound_arg a s is b n xs (more_args args ++ r) (more-args-follow args r)) (reads_more_bound args s is b n (a ∷ xs) r))

  reads_item : (i : Item) (s : List Frame) (is : List Item) (r : List Token) → NoAngle r → Leads (item s is (item_spelling i ++ r)) (item_end s is i r)
  reads_item (lifetime_item n) s is r h = goes (item s is (lifetime n ∷ r))
  reads_item (bound_item b n no_args) s is r h =
      to (item s is ((binder_spelling b ++ name n ∷ []) ++ r)) (item_step s is ((binder_spelling b ++ name n ∷ []) ++ r)) _ (goes (item s is ((binder_spelling b ++ name n ∷ []) ++ r)))
      (ap (item_step s is) (append_assoc (binder_spelling b) (name n ∷ []) r) ∙ bound-opens s is b n r ∙ bound-alone s is b n r h)
  reads_item (bound_item b n (and_arg a args)) s is r h =
      then _ (opening (in_bound is b n [] ∷ s) (arg_spelling a ++ (more_args args ++ r))) _
      (to (item s is ((binder_spelling b ++ name n ∷ sign open_angle ∷ (arg_spelling a ++ more_args args)) ++ r)) (item_step s is ((binder_spelling b ++ name n ∷ sign open_angle ∷ (arg_spelling a ++ more_args args)) ++ r)) _ (goes (item s is ((binder_spelling b ++ name n ∷ sign open_angle ∷ (arg_spelling a ++ more_args args)) ++ r)))
      (ap (item_step s is) (append_assoc (binder_spelling b) (name n ∷ sign open_angle ∷ (arg_spelling a ++ more_args args)) r) ∙ bound-opens s is b n (sign open_angle ∷ ((arg_spelling a ++ more_args args) ++ r))
      ∙ ap (opening (in_bound is b n [] ∷ s)) (append_assoc (arg_spelling a) (more_args args) r)))
      (then _ (bound_args_end s is b n (a ∷ []) (more_args args ++ r)) _ (reads_bound_arg a s is b n [] (more_args args ++ r) (more-args-follow args r)) (reads_more_bound args s is b n (a ∷ []) r))

  reads_items : (js : DynBounds) (s : List Frame) (is : List Item) (i : Item) (r : List Token) → IsCompleteType r → Leads (item_end s is i (more_items js ++ r)) (closing s (dyn_rev i is js) r)
  reads_items no_items s is i r h = from _ _ _ (item-alone s is i r h) (stays _)
  reads_items (and_item j js) s is i r h =
      from _ (item s (i ∷ is) (item_spelling j ++ (more_items js ++ r))) _ (ap (item s (i ∷ is)) (append_assoc (item_spelling j) (more_items js) r))
      (then _ (item_end s (i ∷ is) j (more_items js ++ r)) _ (reads_item j s (i ∷ is) (more_items js ++ r) (more-items-no-args js r h)) (reads_items js s (i ∷ is) j r h))

pub all_read : (t : TypeTree) (r : List Token) → IsCompleteType r → Leads (opening [] (type_spelling t ++ r)) (finished t r)
all_read t r h = then _ (closing [] t r) _ (reads t [] r h) (goes (closing [] t r))

-- A bound is read as the type of its name and arguments; a `+` may stand behind it.
reads_bound : (n : List ℕ) (args : Args) (s : List Frame) (r : List Token) → NoAngle r → Leads (opening s (type_spelling (named n args) ++ r)) (closing s (named n args) r)
reads_bound n no_args s r h = to (opening s (name n ∷ r)) (name_step s n r) (closing s (named n no_args) r) (goes (opening s (name n ∷ r))) (name-alone s n r h)
reads_bound n (and_arg a args) s r h =
    then _ (opening (in_args n [] ∷ s) ((arg_spelling a ++ more_args args) ++ r)) _ (goes (opening s (name n ∷ sign open_angle ∷ ((arg_spelling a ++ more_args args) ++ r))))
    (from _ (opening (in_args n [] ∷ s) (arg_spelling a ++ (more_args args ++ r))) _ (ap (opening (in_args n [] ∷ s)) (append_assoc (arg_spelling a) (more_args args) r))
    (then _ (args_end s n (a ∷ []) (more_args args ++ r)) _ (reads_arg a s n [] (more_args args ++ r) (more-args-follow args r)) (reads_more args s n (a ∷ []) r)))

pub bound_read : (n : List ℕ) (args : Args) (r : List Token) → NoAngle r → Leads (opening [] (type_spelling (named n args) ++ r)) (finished (named n args) r)
bound_read n args r h = then _ (closing [] (named n args) r) _ (reads_bound n args [] r h) (goes (closing [] (named n args) r))

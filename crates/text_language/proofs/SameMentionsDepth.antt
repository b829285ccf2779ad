-- The depth of the types in a line, by its mentions.
use Rattle.std.proofs.Common.{◌≡◌, ℕ, zero, suc, ◌+◌, Bool, true, false, List, [], ◌∷◌, ◌++◌, map, drop, get_or, Option, Some, None, refl, ap, sym, ◌∙◌, arith}
use Rattle.std.specs.Prelude.{max, nat_lt, ◌||◌, ◌&&◌, not, ◌==◌, if◌then◌else◌}
use Rattle.std.specs.List.{flat_map, list_any}
use Rattle.std.specs.Option.{option_map_or}
use Rattle.std.proofs.lemmas.Bool.Decides.{nat_tests}
use Rattle.std.proofs.lemmas.List.Folds.{list_any-append}
use Rattle.type_terms.specs.Promised.Label.{Sort, of_type, of_const, of_lifetime}
use Rattle.text_language.specs.Promised.Syntax.{TypeTree, of_primitive, never_type, variable_type, named, reference_to, pointer_to, slice_of, array_of, tuple_of, fn_of, fn_to, dyn_of, Types, no_types, and_type, Args, no_args, and_arg, Arg, lifetime_arg, number_arg, type_arg, Item, bound_item, lifetime_item, DynBounds, no_items, and_item, number_length, name_length, variable_length, Bound, Clause, Line, crate_line, struct_line, trait_line, impl_line, prove_line, refute_line, later_line, supers_line}
use Rattle.text_language.specs.Promised.Declarations.{Declarations, Known, known}
use Rattle.text_language.specs.Uses.{Use, name_use, misfit_use, next_kind, other_kinds, at_place, type_depth, types_depth, args_depth, arg_depth, item_depth, items_depth, bound_depth, clause_depth, greatest_number, line_depth, uses, params_of}
use Rattle.text_language.specs.Faults.{is_other_sort, is_type_of, is_line_param}
use Rattle.text_language.specs.Promised.Faults.{is_among, with_own}
use Rattle.text_language.specs.Promised.Mentions.{Mention, crate_mention, name_mention, trait_mention, lifetime_mention, binder_mention, variable_mention, misfit_mention, dyn_mention, list_mention, number_mention, type_mention, struct_kinds, trait_kinds, type_mentions, types_mentions, args_mentions, arg_mentions, item_mentions, items_mentions, bound_mentions, clause_mentions, header_mentions, line_mentions}
use Rattle.text_language.proofs.SameMentions.{as_uses, mentions-are, first-kind, later-kinds, struct-kinds, trait-kinds}
use Rattle.type_terms.proofs.BooleanBasics.{or-nothing as or-false}

-- a type stands deeper than the limit
abbrev pub is_deeper : ℕ → Mention → Bool
is_deeper limit (type_mention k) = nat_lt limit k
is_deeper limit _ = false

-- no argument has this at its place: it isn't of the place's kind, or it is a const with arguments
abbrev pub ill_placed : Mention → Bool
ill_placed misfit_mention = true
ill_placed (name_mention of_const n (suc k)) = true
ill_placed _ = false

abbrev deep : ℕ → List Mention → Bool
deep L ms = list_any (is_deeper L) ms

abbrev Placed : List Mention → Type 0
Placed ms = list_any ill_placed ms ≡ false

abbrev all_of : List (List Mention) → List Mention
all_of parts = flat_map (λ p. p) parts

abbrev Scope : Type 0
Scope = List (List (List ℕ))

-- ---- tests
first-of : (a b : Bool) → a || b ≡ false → a ≡ false
first-of true b h = absurd cc
first-of false b h = refl

second-of : (a b : Bool) → a || b ≡ false → b ≡ false
second-of true b h = absurd cc
second-of false b h = h

placed-left : (xs ys : List Mention) → Placed (xs ++ ys) → Placed xs
placed-left xs ys h = first-of (list_any ill_placed xs) (list_any ill_placed ys) (sym (list_any-append ill_placed xs ys) ∙ h)

placed-right : (xs ys : List Mention) → Placed (xs ++ ys) → Placed ys
placed-right xs ys h = second-of (list_any ill_placed xs) (list_any ill_placed ys) (sym (list_any-append ill_placed xs ys) ∙ h)

lt-max : (L i a b : ℕ) → nat_lt L (i + max a b) ≡ nat_lt L (i + a) || nat_lt L (i + b)
lt-max L i a b = grind (arith, nat_tests)

lt-next : (L i n : ℕ) → nat_lt L (suc i + n) ≡ nat_lt L (i + suc n)
lt-next L i n = ap (nat_lt L) (omega arith)

lt-none : (L i : ℕ) → nat_lt L (i + 0) ≡ nat_lt L i
lt-none L i = ap (nat_lt L) (omega arith)

lt-more : (L i : ℕ) → nat_lt L i ≡ true → nat_lt L (suc i) ≡ true
lt-more L i h = grind (arith, nat_tests)

-- where types stand i deep beyond the limit, they do one deeper
absorbed : (a b x : Bool) → (a ≡ true → b ≡ true) → a || (b || x) ≡ b || x
absorbed true true x h = refl
absorbed true false x h = let e : false ≡ true = h refl in absurd cc
absorbed false b x h = refl

or-append : (a x y : Bool) → a || (x || y) ≡ (a || x) || (a || y)
or-append true x y = refl
or-append false x y = refl

-- two parts
abbrev Deep : ℕ → ℕ → List Mention → ℕ → Type 0
Deep L i ms n = nat_lt L i || deep L ms ≡ nat_lt L (i + n)

deep-both : (L i : ℕ) (xs ys : List Mention) (m n : ℕ) → Deep L i xs m → Deep L i ys n → Deep L i (xs ++ ys) (max m n)
deep-both L i xs ys m n e f =
    ap (λ b. nat_lt L i || b) (list_any-append (is_deeper L) xs ys) ∙ (or-append (nat_lt L i) (deep L xs) (deep L ys)
    ∙ (ap (λ b. b || (nat_lt L i || deep L ys)) e ∙ (ap (λ b. nat_lt L (i + m) || b) f ∙ sym (lt-max L i m n))))

deep-none : (L i : ℕ) → Deep L i [] 0
deep-none L i = or-false (nat_lt L i) ∙ sym (lt-none L i)

-- a type that stands there, and what is inside it
stands : (L i n : ℕ) (ms : List Mention) → nat_lt L (suc i) || deep L ms ≡ nat_lt L (i + n) → Deep L i (type_mention (suc i) ∷ ms) n
stands L i n ms e = absorbed (nat_lt L i) (nat_lt L (suc i)) (deep L ms) (lt-more L i) ∙ e

-- behind it something that is no type
deep-then : (L i n : ℕ) (ms : List Mention) (m : Mention) → is_deeper L m ≡ false → Deep L i ms n → Deep L i (ms ++ m ∷ []) n
deep-then L i n ms m h e =
    ap (λ b. nat_lt L i || b) (list_any-append (is_deeper L) ms (m ∷ []) ∙ (ap (λ b. deep L ms || (b || false)) h ∙ or-false (deep L ms))) ∙ e

deep-next : (L i n : ℕ) (ms : List Mention) → Deep L (suc i) ms n → nat_lt L (suc i) || deep L ms ≡ nat_lt L (i + suc n)
deep-next L i n ms e = e ∙ lt-next L i n

-- a type with one inside
one-inside : (L i n : ℕ) (ms : List Mention) → nat_lt L (suc (suc i)) || deep L ms ≡ nat_lt L (suc i + n)
    → nat_lt L (suc i) || deep L (type_mention (suc (suc i)) ∷ ms) ≡ nat_lt L (i + suc n)
one-inside L i n ms e = deep-next L i n (type_mention (suc (suc i)) ∷ ms) (stands L (suc i) n ms e)

-- an array: behind its item stands its length
array-inside : (L i n : ℕ) (ms : List Mention) (m : Mention) → is_deeper L m ≡ false → nat_lt L (suc (suc i)) || deep L ms ≡ nat_lt L (suc i + n)
    → nat_lt L (suc i) || deep L (type_mention (suc (suc i)) ∷ (ms ++ m ∷ [])) ≡ nat_lt L (i + suc n)
array-inside L i n ms m h e =
    deep-next L i n (type_mention (suc (suc i)) ∷ (ms ++ m ∷ [])) (deep-then L (suc i) n (type_mention (suc (suc i)) ∷ ms) m h (stands L (suc i) n ms e))

-- what stands at a const's place is no type
const-deep : (L i : ℕ) (d : Declarations) (s : Scope) (t : TypeTree) → Placed (arg_mentions d s (suc i) of_const (type_arg t))
    → Deep L i (arg_mentions d s (suc i) of_const (type_arg t)) 0
const-deep L i d s (named n no_args) h = deep-none L i
const-deep L i d s (named n (and_arg a args)) h = absurd cc
const-deep L i d s (variable_type n) h = deep-none L i
const-deep L i d s t h = absurd cc

-- ---- types
mutual
  type-deep : (L i : ℕ) (d : Declarations) (s : Scope) (t : TypeTree) → Placed (type_mentions d s (suc (suc i)) of_type t)
      → nat_lt L (suc i) || deep L (type_mentions d s (suc (suc i)) of_type t) ≡ nat_lt L (i + type_depth d t)
  type-deep L i d s (of_primitive l) h = deep-next L i 0 [] (deep-none L (suc i))
  type-deep L i d s never_type h = deep-next L i 0 [] (deep-none L (suc i))
  type-deep L i d s (variable_type n) h = deep-next L i 0 [] (deep-none L (suc i))
  type-deep L i d s (named n args) h =
      let ks : List Sort = struct_kinds d n in
      deep-next L i (args_depth d ks args) (all_of (args_mentions d s (suc (suc i)) ks args)) (args-deep L (suc i) d s ks args h)
      ∙ ap (λ q. nat_lt L (i + suc (args_depth d q args))) (struct-kinds d n)
  type-deep L i d s (reference_to None m t) h = one-inside L i (type_depth d t) (type_mentions d s (suc (suc (suc i))) of_type t) (type-deep L (suc i) d s t h)
  type-deep L i d s (reference_to (Some n) m t) h = one-inside L i (type_depth d t) (type_mentions d s (suc (suc (suc i))) of_type t) (type-deep L (suc i) d s t h)
  type-deep L i d s (pointer_to m t) h = one-inside L i (type_depth d t) (type_mentions d s (suc (suc (suc i))) of_type t) (type-deep L (suc i) d s t h)
  type-deep L i d s (slice_of t) h = one-inside L i (type_depth d t) (type_mentions d s (suc (suc (suc i))) of_type t) (type-deep L (suc i) d s t h)
  type-deep L i d s (array_of t (number_length n)) h =
      let ms : List Mention = type_mentions d s (suc (suc (suc i))) of_type t in
      array-inside L i (type_depth d t) ms (number_mention n) refl (type-deep L (suc i) d s t (placed-left ms (number_mention n ∷ []) h))
  type-deep L i d s (array_of t (name_length n)) h =
      let ms : List Mention = type_mentions d s (suc (suc (suc i))) of_type t in
      array-inside L i (type_depth d t) ms (name_mention of_const n 0) refl (type-deep L (suc i) d s t (placed-left ms (name_mention of_const n 0 ∷ []) h))
  type-deep L i d s (array_of t (variable_length n)) h =
      let ms : List Mention = type_mentions d s (suc (suc (suc i))) of_type t in
      array-inside L i (type_depth d t) ms (variable_mention of_const n) refl (type-deep L (suc i) d s t (placed-left ms (variable_mention of_const n ∷ []) h))
  type-deep L i d s (tuple_of ts) h = deep-next L i (types_depth d ts) (all_of (types_mentions d s (suc (suc i)) ts)) (types-deep L (suc i) d s ts h)
  type-deep L i d s (fn_of b ts) h =
      deep-next L i (types_depth d ts) (all_of (types_mentions d (b ∷ s) (suc (suc i)) ts)) (types-deep L (suc i) d (b ∷ s) ts h)
  type-deep L i d s (fn_to b ts r) h =
      let xs : List Mention = all_of (types_mentions d (b ∷ s) (suc (suc i)) ts) in
      let zs : List Mention = type_mentions d (b ∷ s) (suc (suc (suc i))) of_type r in
      let ys : List Mention = type_mention (suc (suc i)) ∷ zs in
      deep-next L i (max (types_depth d ts) (type_depth d r)) (xs ++ ys)
      (deep-both L (suc i) xs ys (types_depth d ts) (type_depth d r) (types-deep L (suc i) d (b ∷ s) ts (placed-left xs ys h))
      (stands L (suc i) (type_depth d r) zs (type-deep L (suc i) d (b ∷ s) r (placed-right xs ys h))))
  type-deep L i d s (dyn_of j is) h =
      let xs : List Mention = item_mentions d s (suc (suc i)) j in
      let ys : List Mention = items_mentions d s (suc (suc i)) is in
      deep-next L i (max (item_depth d j) (items_depth d is)) (xs ++ ys)
      (deep-both L (suc i) xs ys (item_depth d j) (items_depth d is) (item-deep L (suc i) d s j (placed-left xs ys h)) (items-deep L (suc i) d s is (placed-right xs ys h)))

  types-deep : (L i : ℕ) (d : Declarations) (s : Scope) (ts : Types) → Placed (all_of (types_mentions d s (suc i) ts))
      → Deep L i (all_of (types_mentions d s (suc i) ts)) (types_depth d ts)
  types-deep L i d s no_types h = deep-none L i
  types-deep L i d s (and_type t ts) h =
      let zs : List Mention = type_mentions d s (suc (suc i)) of_type t in
      let xs : List Mention = type_mention (suc i) ∷ zs in
      let ys : List Mention = all_of (types_mentions d s (suc i) ts) in
      deep-both L i xs ys (type_depth d t) (types_depth d ts) (stands L i (type_depth d t) zs (type-deep L i d s t (placed-left xs ys h))) (types-deep L i d s ts (placed-right xs ys h))

  args-deep : (L i : ℕ) (d : Declarations) (s : Scope) (ks : List Sort) (args : Args) → Placed (all_of (args_mentions d s (suc i) ks args))
      → Deep L i (all_of (args_mentions d s (suc i) ks args)) (args_depth d ks args)
  args-deep L i d s ks no_args h = deep-none L i
  args-deep L i d s ks (and_arg a args) h =
      let p : Sort = get_or ks 0 of_type in
      let xs : List Mention = arg_mentions d s (suc i) p a in
      let ys : List Mention = all_of (args_mentions d s (suc i) (drop 1 ks) args) in
      deep-both L i xs ys (at_place (next_kind ks) (arg_depth d a)) (args_depth d (other_kinds ks) args)
      (arg-deep L i d s p a (placed-left xs ys h) ∙ ap (λ q. nat_lt L (i + at_place q (arg_depth d a))) (first-kind ks))
      (args-deep L i d s (drop 1 ks) args (placed-right xs ys h) ∙ ap (λ q. nat_lt L (i + args_depth d q args)) (later-kinds ks))

  arg-deep : (L i : ℕ) (d : Declarations) (s : Scope) (p : Sort) (a : Arg) → Placed (arg_mentions d s (suc i) p a) → Deep L i (arg_mentions d s (suc i) p a) (at_place p (arg_depth d a))
  arg-deep L i d s of_lifetime (lifetime_arg n) h = deep-none L i
  arg-deep L i d s of_type (lifetime_arg n) h = absurd cc
  arg-deep L i d s of_const (lifetime_arg n) h = absurd cc
  arg-deep L i d s of_lifetime (number_arg n) h = absurd cc
  arg-deep L i d s of_type (number_arg n) h = absurd cc
  arg-deep L i d s of_const (number_arg n) h = deep-none L i
  arg-deep L i d s of_type (type_arg t) h = stands L i (type_depth d t) (type_mentions d s (suc (suc i)) of_type t) (type-deep L i d s t h)
  arg-deep L i d s of_lifetime (type_arg t) h = absurd cc
  arg-deep L i d s of_const (type_arg t) h = const-deep L i d s t h

  item-deep : (L i : ℕ) (d : Declarations) (s : Scope) (j : Item) → Placed (item_mentions d s (suc i) j) → Deep L i (item_mentions d s (suc i) j) (item_depth d j)
  item-deep L i d s (bound_item b n args) h = args-deep L i d (b ∷ s) (trait_kinds d n) args h ∙ ap (λ q. nat_lt L (i + args_depth d q args)) (trait-kinds d n)
  item-deep L i d s (lifetime_item n) h = deep-none L i

  items-deep : (L i : ℕ) (d : Declarations) (s : Scope) (is : DynBounds) → Placed (items_mentions d s (suc i) is) → Deep L i (items_mentions d s (suc i) is) (items_depth d is)
  items-deep L i d s no_items h = deep-none L i
  items-deep L i d s (and_item j is) h =
      let xs : List Mention = item_mentions d s (suc i) j in
      let ys : List Mention = items_mentions d s (suc i) is in
      deep-both L i xs ys (item_depth d j) (items_depth d is) (item-deep L i d s j (placed-left xs ys h)) (items-deep L i d s is (placed-right xs ys h))

-- ---- parts of lines
bound-deep : (L : ℕ) (d : Declarations) (b : Bound) → Placed (bound_mentions d b) → Deep L 0 (bound_mentions d b) (bound_depth d b)
bound-deep L d b h = args-deep L 0 d [] (trait_kinds d b.trait) b.args h ∙ ap (λ q. nat_lt L (0 + args_depth d q b.args)) (trait-kinds d b.trait)

subject-deep : (L : ℕ) (d : Declarations) (t : TypeTree) → Placed (type_mentions d [] 2 of_type t) → Deep L 0 (type_mention 1 ∷ type_mentions d [] 2 of_type t) (type_depth d t)
subject-deep L d t h = stands L 0 (type_depth d t) (type_mentions d [] 2 of_type t) (type-deep L 0 d [] t h)

clause-deep : (L : ℕ) (d : Declarations) (k : Clause) → Placed (clause_mentions d k) → Deep L 0 (clause_mentions d k) (clause_depth d k)
clause-deep L d k h =
    let xs : List Mention = type_mention 1 ∷ type_mentions d [] 2 of_type k.subject in
    let ys : List Mention = bound_mentions d k.bound in
    deep-both L 0 xs ys (type_depth d k.subject) (bound_depth d k.bound) (subject-deep L d k.subject (placed-left xs ys h)) (bound-deep L d k.bound (placed-right xs ys h))

max-swap : (L a b : ℕ) → nat_lt L (0 + max a b) ≡ nat_lt L (0 + max b a)
max-swap L a b = ap (nat_lt L) (omega arith)

header-deep : (L : ℕ) (d : Declarations) (k : Clause) → Placed (header_mentions d k) → Deep L 0 (header_mentions d k) (clause_depth d k)
header-deep L d k h =
    let xs : List Mention = bound_mentions d k.bound in
    let ys : List Mention = type_mention 1 ∷ type_mentions d [] 2 of_type k.subject in
    deep-both L 0 xs ys (bound_depth d k.bound) (type_depth d k.subject) (bound-deep L d k.bound (placed-left xs ys h)) (subject-deep L d k.subject (placed-right xs ys h))
    ∙ max-swap L (bound_depth d k.bound) (type_depth d k.subject)

each-deep : {X : Type 0} (L : ℕ) (f : X → List Mention) (g : X → ℕ) → ((x : X) → Placed (f x) → Deep L 0 (f x) (g x))
    → (xs : List X) → Placed (flat_map f xs) → Deep L 0 (flat_map f xs) (greatest_number (map g xs))
each-deep L f g e [] h = deep-none L 0
each-deep L f g e (x ∷ xs) h =
    deep-both L 0 (f x) (flat_map f xs) (g x) (greatest_number (map g xs)) (e x (placed-left (f x) (flat_map f xs) h)) (each-deep L f g e xs (placed-right (f x) (flat_map f xs) h))

clauses-deep : (L : ℕ) (d : Declarations) (ks : List Clause) → Placed (flat_map (clause_mentions d) ks) → Deep L 0 (flat_map (clause_mentions d) ks) (greatest_number (map (clause_depth d) ks))
clauses-deep L d ks h = each-deep L (clause_mentions d) (clause_depth d) (clause-deep L d) ks h

crates-deep : (L : ℕ) (ns : List (List ℕ)) → Deep L 0 (map crate_mention ns) 0
crates-deep L [] = deep-none L 0
crates-deep L (n ∷ ns) = crates-deep L ns

line-deep : (L : ℕ) (d : Declarations) (l : Line) → Placed (line_mentions d l) → Deep L 0 (line_mentions d l) (line_depth d l)
line-deep L d (crate_line n us) h = crates-deep L us
line-deep L d (struct_line f n ps fs) h = types-deep L 0 d [] fs h
line-deep L d (trait_line f a n ps bs) h = each-deep L (bound_mentions d) (bound_depth d) (bound-deep L d) bs h
line-deep L d (impl_line ps k ks) h =
    let xs : List Mention = header_mentions d k in
    let ys : List Mention = flat_map (clause_mentions d) ks in
    deep-both L 0 xs ys (clause_depth d k) (greatest_number (map (clause_depth d) ks)) (header-deep L d k (placed-left xs ys h)) (clauses-deep L d ks (placed-right xs ys h))
line-deep L d (prove_line c ps k bs ks) h =
    let xs : List Mention = flat_map (clause_mentions d) (k ∷ bs) in
    let ys : List Mention = flat_map (clause_mentions d) ks in
    deep-both L 0 xs ys (greatest_number (map (clause_depth d) (k ∷ bs))) (greatest_number (map (clause_depth d) ks)) (clauses-deep L d (k ∷ bs) (placed-left xs ys h))
    (clauses-deep L d ks (placed-right xs ys h))
line-deep L d (refute_line c ps k bs) h = clauses-deep L d (k ∷ bs) h
line-deep L d (later_line n) h = deep-none L 0
line-deep L d (supers_line n) h = deep-none L 0

-- ---- from what is used
abbrev ill_used : Use → Bool
ill_used misfit_use = true
ill_used (name_use of_const n (suc k)) = true
ill_used _ = false

ill-name : (p : Sort) (n : List ℕ) (k : ℕ) → ill_used (name_use p n k) ≡ ill_placed (name_mention p n k)
ill-name of_type n k = refl
ill-name of_lifetime n k = refl
ill-name of_const n zero = refl
ill-name of_const n (suc k) = refl

ill-same : (ms : List Mention) → list_any ill_used (flat_map as_uses ms) ≡ list_any ill_placed ms
ill-same [] = refl
ill-same (crate_mention n ∷ ms) = ill-same ms
ill-same (name_mention p n k ∷ ms) = ap (λ b. b || list_any ill_used (flat_map as_uses ms)) (ill-name p n k) ∙ ap (λ b. ill_placed (name_mention p n k) || b) (ill-same ms)
ill-same (trait_mention n k ∷ ms) = ill-same ms
ill-same (lifetime_mention s n ∷ ms) = ill-same ms
ill-same (binder_mention s [] ∷ ms) = ill-same ms
ill-same (binder_mention s (n ∷ ns) ∷ ms) = ill-same ms
ill-same (variable_mention p n ∷ ms) = ill-same ms
ill-same (misfit_mention ∷ ms) = refl
ill-same (dyn_mention is ∷ ms) = ill-same ms
ill-same (list_mention n ∷ ms) = ill-same ms
ill-same (number_mention n ∷ ms) = ill-same ms
ill-same (type_mention k ∷ ms) = ill-same ms

no-zero : (k : ℕ) → (suc k == 0) ≡ false
no-zero k = grind (arith, nat_tests)

const-has-none : (b c : Bool) (w : Option Known) (k : ℕ) → not (if b then c && (suc k == 0) else option_map_or (is_type_of of_const (suc k)) w false) ≡ true
const-has-none true true w k = ap not (no-zero k)
const-has-none true false w k = refl
const-has-none false c None k = refl
const-has-none false c (Some w) k = refl

ill-is-other : (d : Declarations) (l : Line) (u : Use) → is_other_sort d l u ≡ false → ill_used u ≡ false
ill-is-other d l misfit_use h = h
ill-is-other d l (name_use of_const n (suc k)) h = sym (const-has-none (is_line_param l n) (is_among n (params_of l).consts) (known (with_own d l) n) k) ∙ h
ill-is-other d l _ h = refl

ill-uses : (d : Declarations) (l : Line) (us : List Use) → list_any (is_other_sort d l) us ≡ false → list_any ill_used us ≡ false
ill-uses d l [] h = refl
ill-uses d l (u ∷ us) h =
    ap (λ b. b || list_any ill_used us) (ill-is-other d l u (first-of (is_other_sort d l u) (list_any (is_other_sort d l) us) h))
    ∙ ill-uses d l us (second-of (is_other_sort d l u) (list_any (is_other_sort d l) us) h)

not-below : (L : ℕ) → nat_lt L 0 ≡ false
not-below L = grind (arith, nat_tests)

from-zero : (L n : ℕ) → nat_lt L (0 + n) ≡ nat_lt L n
from-zero L n = ap (nat_lt L) (omega arith)

-- Where no use is of another sort than is needed, a type in the line stands deeper than the limit if the line is deeper.
pub depth-agrees : (limit : ℕ) (e d : Declarations) (l : Line) → list_any (is_other_sort e l) (uses d l) ≡ false → list_any (is_deeper limit) (line_mentions d l) ≡ nat_lt limit (line_depth d l)
depth-agrees L e d l h =
    let p : Placed (line_mentions d l) = sym (ill-same (line_mentions d l)) ∙ (ap (list_any ill_used) (mentions-are d l) ∙ ill-uses e l (uses d l) h) in
    sym (ap (λ b. b || list_any (is_deeper L) (line_mentions d l)) (not-below L)) ∙ (line-deep L d l p ∙ from-zero L (line_depth d l))

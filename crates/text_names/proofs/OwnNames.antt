-- Whether a type uses a name does not depend on what names stand for.
use Rattle.std.proofs.Common.{◌≡◌, ℕ, false, List, [], ◌∷◌, ◌++◌, refl, sym, ap, ◌∙◌}
use Rattle.std.specs.Prelude.{◌||◌, ◌&&◌}
use Rattle.std.specs.List.{list_any, flat_map}
use Rattle.std.specs.Str.{bytes_eq}
use Rattle.std.proofs.lemmas.List.Folds.{list_any-append}
use Rattle.type_terms.specs.Promised.Label.{Sort, of_type, of_const, of_lifetime}
use Rattle.text_language.specs.Promised.Syntax.{TypeTree, of_primitive, never_type, variable_type, named, reference_to, pointer_to, slice_of, array_of, tuple_of, fn_of, fn_to, dyn_of, Types, no_types, and_type, Args, no_args, and_arg, Arg, lifetime_arg, number_arg, type_arg, Item, bound_item, lifetime_item, DynBounds, no_items, and_item, Bound, Line, crate_line, struct_line, trait_line, impl_line, prove_line, refute_line, later_line, supers_line}
use Rattle.text_language.specs.Promised.Declarations.{Declarations, known}
use Rattle.text_language.specs.Uses.{Use, trait_use, items_use, binder_uses, lifetime_uses, lifetime_arg_uses, number_arg_uses, length_uses, type_misfits, types_count, args_count, next_kind, other_kinds, kinds_of_struct, kinds_of_trait, type_uses, types_uses, args_uses, arg_uses, item_uses, items_uses, bound_uses, uses}
use Rattle.text_language.specs.Faults.{is_use_of, bounds_use_own}
use Rattle.text_language.specs.Promised.Faults.{with_own}
use Rattle.text_names.specs.Machine.{findings}
use Rattle.text_lines.specs.Statement.{line_statement}
use Rattle.text_names.specs.Speaks.{is_trait_said}
use Rattle.text_names.proofs.Bare.{sight}

abbrev Alike : List ℕ → List Use → List Use → Type 0
Alike n us ws = list_any (is_use_of n) us ≡ list_any (is_use_of n) ws

joined : (n : List ℕ) (us us' ws ws' : List Use) → Alike n us us' → Alike n ws ws' → Alike n (us ++ ws) (us' ++ ws')
joined n us us' ws ws' e f = list_any-append (is_use_of n) us ws ∙ ap (λ b. b || list_any (is_use_of n) ws) e ∙ ap (λ b. list_any (is_use_of n) us' || b) f ∙ sym (list_any-append (is_use_of n) us' ws')

behind : (n : List ℕ) (us ws ws' : List Use) → Alike n ws ws' → Alike n (us ++ ws) (us ++ ws')
behind n us ws ws' f = joined n us us ws ws' refl f

lifetime-alike : (n : List ℕ) (s : List (List (List ℕ))) (p q : Sort) (m : List ℕ) → Alike n (lifetime_arg_uses s p m) (lifetime_arg_uses s q m)
lifetime-alike n s p q m = none p ∙ sym (none q)
  where
    none : (r : Sort) → list_any (is_use_of n) (lifetime_arg_uses s r m) ≡ false
    none of_type = refl
    none of_const = refl
    none of_lifetime = refl

number-alike : (n : List ℕ) (p q : Sort) (k : ℕ) → Alike n (number_arg_uses p k) (number_arg_uses q k)
number-alike n p q k = none p ∙ sym (none q)
  where
    none : (r : Sort) → list_any (is_use_of n) (number_arg_uses r k) ≡ false
    none of_type = refl
    none of_const = refl
    none of_lifetime = refl

misfits-none : (n : List ℕ) (p : Sort) (t : TypeTree) → list_any (is_use_of n) (type_misfits p t) ≡ false
misfits-none n of_type t = refl
misfits-none n of_lifetime t = refl
misfits-none n of_const (named m args) = refl
misfits-none n of_const (variable_type m) = refl
misfits-none n of_const (of_primitive l) = refl
misfits-none n of_const never_type = refl
misfits-none n of_const (reference_to l m t) = refl
misfits-none n of_const (pointer_to m t) = refl
misfits-none n of_const (slice_of t) = refl
misfits-none n of_const (array_of t l) = refl
misfits-none n of_const (tuple_of ts) = refl
misfits-none n of_const (fn_of b ts) = refl
misfits-none n of_const (fn_to b ts r) = refl
misfits-none n of_const (dyn_of i is) = refl

mutual
  type-alike : (t : TypeTree) (n : List ℕ) (d e : Declarations) (s : List (List (List ℕ))) (p q : Sort) → Alike n (type_uses d s p t) (type_uses e s q t)
  type-alike (of_primitive l) n d e s p q = refl
  type-alike never_type n d e s p q = refl
  type-alike (variable_type m) n d e s p q = refl
  type-alike (named m args) n d e s p q = ap (λ b. bytes_eq m n || b) (args-alike args n d e s (kinds_of_struct (known d m)) (kinds_of_struct (known e m)))
  type-alike (reference_to l m t) n d e s p q = behind n (lifetime_uses s l) (type_uses d s of_type t) (type_uses e s of_type t) (type-alike t n d e s of_type of_type)
  type-alike (pointer_to m t) n d e s p q = type-alike t n d e s of_type of_type
  type-alike (slice_of t) n d e s p q = type-alike t n d e s of_type of_type
  type-alike (array_of t k) n d e s p q = joined n (type_uses d s of_type t) (type_uses e s of_type t) (length_uses k) (length_uses k) (type-alike t n d e s of_type of_type) refl
  type-alike (tuple_of ts) n d e s p q = types-alike ts n d e s
  type-alike (fn_of b ts) n d e s p q =
      behind n (binder_uses s b) (items_use (types_count ts) ∷ types_uses d (b ∷ s) ts) (items_use (types_count ts) ∷ types_uses e (b ∷ s) ts) (types-alike ts n d e (b ∷ s))
  type-alike (fn_to b ts r) n d e s p q =
      behind n (binder_uses s b) (items_use (types_count ts) ∷ (types_uses d (b ∷ s) ts ++ type_uses d (b ∷ s) of_type r)) (items_use (types_count ts) ∷ (types_uses e (b ∷ s) ts ++ type_uses e (b ∷ s) of_type r))
      (joined n (types_uses d (b ∷ s) ts) (types_uses e (b ∷ s) ts) (type_uses d (b ∷ s) of_type r) (type_uses e (b ∷ s) of_type r) (types-alike ts n d e (b ∷ s)) (type-alike r n d e (b ∷ s) of_type of_type))
  type-alike (dyn_of i is) n d e s p q = joined n (item_uses d s i) (item_uses e s i) (items_uses d s is) (items_uses e s is) (item-alike i n d e s) (items-alike is n d e s)

  types-alike : (ts : Types) (n : List ℕ) (d e : Declarations) (s : List (List (List ℕ))) → Alike n (types_uses d s ts) (types_uses e s ts)
  types-alike no_types n d e s = refl
  types-alike (and_type t ts) n d e s = joined n (type_uses d s of_type t) (type_uses e s of_type t) (types_uses d s ts) (types_uses e s ts) (type-alike t n d e s of_type of_type) (types-alike ts n d e s)

  args-alike : (args : Args) (n : List ℕ) (d e : Declarations) (s : List (List (List ℕ))) (ks js : List Sort) → Alike n (args_uses d s ks args) (args_uses e s js args)
  args-alike no_args n d e s ks js = refl
  args-alike (and_arg a args) n d e s ks js =
      joined n (arg_uses d s (next_kind ks) a) (arg_uses e s (next_kind js) a) (args_uses d s (other_kinds ks) args) (args_uses e s (other_kinds js) args)
      (arg-alike a n d e s (next_kind ks) (next_kind js)) (args-alike args n d e s (other_kinds ks) (other_kinds js))

  arg-alike : (a : Arg) (n : List ℕ) (d e : Declarations) (s : List (List (List ℕ))) (p q : Sort) → Alike n (arg_uses d s p a) (arg_uses e s q a)
  arg-alike (lifetime_arg m) n d e s p q = lifetime-alike n s p q m
  arg-alike (number_arg k) n d e s p q = number-alike n p q k
  arg-alike (type_arg t) n d e s p q =
      joined n (type_misfits p t) (type_misfits q t) (type_uses d s p t) (type_uses e s q t) (misfits-none n p t ∙ sym (misfits-none n q t)) (type-alike t n d e s p q)

  item-alike : (i : Item) (n : List ℕ) (d e : Declarations) (s : List (List (List ℕ))) → Alike n (item_uses d s i) (item_uses e s i)
  item-alike (bound_item b m args) n d e s =
      behind n (binder_uses s b) (trait_use m (args_count args) ∷ args_uses d (b ∷ s) (kinds_of_trait (known d m)) args) (trait_use m (args_count args) ∷ args_uses e (b ∷ s) (kinds_of_trait (known e m)) args)
      (ap (λ x. bytes_eq m n || x) (args-alike args n d e (b ∷ s) (kinds_of_trait (known d m)) (kinds_of_trait (known e m))))
  item-alike (lifetime_item m) n d e s = refl

  items-alike : (is : DynBounds) (n : List ℕ) (d e : Declarations) (s : List (List (List ℕ))) → Alike n (items_uses d s is) (items_uses e s is)
  items-alike no_items n d e s = refl
  items-alike (and_item i is) n d e s = joined n (item_uses d s i) (item_uses e s i) (items_uses d s is) (items_uses e s is) (item-alike i n d e s) (items-alike is n d e s)

bounds-alike : (bs : List Bound) (n : List ℕ) (d e : Declarations) → Alike n (flat_map (bound_uses d) bs) (flat_map (bound_uses e) bs)
bounds-alike [] n d e = refl
bounds-alike (b ∷ bs) n d e =
    joined n (bound_uses d b) (bound_uses e b) (flat_map (bound_uses d) bs) (flat_map (bound_uses e) bs)
    (ap (λ x. bytes_eq b.trait n || x) (args-alike b.args n d e [] (kinds_of_trait (known d b.trait)) (kinds_of_trait (known e b.trait)))) (bounds-alike bs n d e)

-- a trait's bounds use its own name
pub own-bound : (d : Declarations) (l : Line) → is_trait_said (line_statement l) && (findings (sight d l) (uses (with_own d l) l)).uses_own ≡ bounds_use_own d l
own-bound d (trait_line f a n ps bs) = bounds-alike bs n (with_own d (trait_line f a n ps bs)) d
own-bound d (crate_line n us) = refl
own-bound d (struct_line f n ps fs) = refl
own-bound d (impl_line ps h ks) = refl
own-bound d (prove_line c ps k bs ks) = refl
own-bound d (refute_line c ps k bs) = refl
own-bound d (later_line n) = refl
own-bound d (supers_line n) = refl

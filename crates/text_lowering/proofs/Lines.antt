-- What a line without a fault declares is declared well.
use Rattle.std.proofs.Common.{◌≡◌, ℕ, zero, suc, ◌+◌, ◌<◌, Bool, true, false, ◌&&◌, ◌||◌, List, [], ◌∷◌, ◌++◌, map, length, Some, append_assoc, refl, sym, ap, ◌∙◌, subst, arith}
use Rattle.std.specs.Prelude.{not, if◌then◌else◌, slice_get}
use Rattle.std.specs.List.{list_all}
use Rattle.std.specs.Option.{option_map_or}
use Rattle.std.specs.Str.{bytes_eq}
use Rattle.type_terms.specs.Promised.Label.{Sort, of_lifetime, of_type, of_const, param}
use Rattle.type_terms.specs.Promised.Trees.{Trees, is_sort}
use Rattle.text_language.specs.Promised.Syntax.{TypeTree, of_primitive, never_type, variable_type, named, reference_to, pointer_to, slice_of, array_of, tuple_of, fn_of, fn_to, dyn_of, Types, no_types, and_type, Params, Line}
use Rattle.text_language.specs.Promised.Declarations.{Declarations, kinds_of}
use Rattle.text_language.specs.Uses.{type_uses, types_uses, params_of}
use Rattle.text_language.specs.Promised.Faults.{with_own, is_among}
use Rattle.text_language.specs.Lowering.{place_among, type_tree, field_trees}
use Rattle.text_language.specs.Adding.{item_meanings}
use Rattle.candidate_model.specs.DeclaredWell.{is_single}
use Rattle.text_lowering.specs.Promised.SeenWorlds.{none_kept}
use Rattle.text_lowering.proofs.Sorts.{has_sort}
use Rattle.text_lowering.proofs.Tests.{is_good}
use Rattle.text_lowering.proofs.Scalars.{ScalarTypes}
use Rattle.text_lowering.proofs.Trees.{Good, and}
use Rattle.text_lowering.proofs.Types.{AllFit, first-fit, rest-fit, NumberedBy, Numbered, good-type}
use Rattle.type_terms.proofs.TermBasics.{sort-self}

-- ---- the sorts of a line's parameters, by number
place-found : (n : List ℕ) (ns : List (List ℕ)) → is_among n ns ≡ true → place_among n ns < length ns
place-found n [] h = absurd cc
place-found n (m ∷ ms) h = by (bytes_eq m n) h (place-found n ms)
  where
    by : (b : Bool) → b || is_among n ms ≡ true → (is_among n ms ≡ true → place_among n ms < length ms) → (if b then 0 else suc (place_among n ms)) < suc (length ms)
    by true g r = omega arith
    by false g r = omega (arith, r g)

-- so many of one sort, and others
abbrev of-sort : Sort → List (List ℕ) → List Sort
of-sort s ns = map (λ _. s) ns

here : (s : Sort) (ns : List (List ℕ)) (rest : List Sort) (i : ℕ) → i < length ns → slice_get (of-sort s ns ++ rest) i ≡ Some s
here s [] rest i h = absurd (omega (arith, h))
here s (n ∷ ns) rest zero h = refl
here s (n ∷ ns) rest (suc i) h = here s ns rest i (omega (arith, h))

behind : (s : Sort) (ns : List (List ℕ)) (rest : List Sort) (i : ℕ) → slice_get (of-sort s ns ++ rest) (length ns + i) ≡ slice_get rest i
behind s [] rest i = ap (slice_get rest) (omega arith)
behind s (n ∷ ns) rest i = ap (slice_get (s ∷ (of-sort s ns ++ rest))) (more (length ns)) ∙ behind s ns rest i
  where
    more : (k : ℕ) → suc k + i ≡ suc (k + i)
    more k = omega arith

sorted : (sorts : List Sort) (s : Sort) (i : ℕ) → slice_get sorts i ≡ Some s → has_sort sorts (param s i) ≡ true
sorted sorts s i e = ap (λ o. option_map_or (is_sort s) o false) e ∙ sort-self s

last-of : (s : Sort) (ns : List (List ℕ)) (i : ℕ) → i < length ns → slice_get (of-sort s ns) i ≡ Some s
last-of s [] i h = absurd (omega (arith, h))
last-of s (n ∷ ns) zero h = refl
last-of s (n ∷ ns) (suc i) h = last-of s ns i (omega (arith, h))

moved-sort : (sorts : List Sort) (s : Sort) (i j : ℕ) → i ≡ j → slice_get sorts j ≡ Some s → has_sort sorts (param s i) ≡ true
moved-sort sorts s i j e h = subst (λ k. has_sort sorts (param s k) ≡ true) (sym e) (sorted sorts s j h)

pub kinds-numbered : (l : Line) → Numbered l 0 (kinds_of (params_of l))
kinds-numbered l =
    subst (Numbered l 0) (sym (append_assoc (of-sort of_lifetime (params_of l).lifetimes) (of-sort of_type (params_of l).types) (of-sort of_const (params_of l).consts))) (ordered (params_of l))
  where
    ordered : (p : Params) → NumberedBy p 0 (of-sort of_lifetime p.lifetimes ++ (of-sort of_type p.types ++ of-sort of_const p.consts))
    ordered p =
        let sorts = of-sort of_lifetime p.lifetimes ++ (of-sort of_type p.types ++ of-sort of_const p.consts) in
        record {
          lifetimes = λ n h.
              moved-sort sorts of_lifetime (0 + place_among n p.lifetimes) (place_among n p.lifetimes) (omega arith)
              (here of_lifetime p.lifetimes (of-sort of_type p.types ++ of-sort of_const p.consts) (place_among n p.lifetimes) (place-found n p.lifetimes h));
          types = λ n h.
              moved-sort sorts of_type (0 + length p.lifetimes + place_among n p.types) (length p.lifetimes + place_among n p.types) (omega arith)
              (behind of_lifetime p.lifetimes (of-sort of_type p.types ++ of-sort of_const p.consts) (place_among n p.types) ∙ here of_type p.types (of-sort of_const p.consts) (place_among n p.types) (place-found n p.types h));
          consts = λ n h.
              moved-sort sorts of_const (0 + length p.lifetimes + length p.types + place_among n p.consts) (length p.lifetimes + (length p.types + place_among n p.consts)) (omega arith)
              (behind of_lifetime p.lifetimes (of-sort of_type p.types ++ of-sort of_const p.consts) (length p.types + place_among n p.consts) ∙ behind of_type p.types (of-sort of_const p.consts) (place_among n p.consts)
              ∙ last-of of_const p.consts (place_among n p.consts) (place-found n p.consts h));
        }

-- a trait has Self before its written parameters
pub trait-numbered : (l : Line) → Numbered l 1 (of_type ∷ kinds_of (params_of l))
trait-numbered l =
    let k = kinds-numbered l in
    record {
      lifetimes = λ n h. one-more of_lifetime _ _ (omega arith) (k.lifetimes n h);
      types = λ n h. one-more of_type _ _ (omega arith) (k.types n h);
      consts = λ n h. one-more of_const _ _ (omega arith) (k.consts n h);
    }
  where
    one-more : (s : Sort) (i j : ℕ) → i ≡ suc j → has_sort (kinds_of (params_of l)) (param s j) ≡ true → has_sort (of_type ∷ kinds_of (params_of l)) (param s i) ≡ true
    one-more s i j e h = subst (λ x. has_sort (of_type ∷ kinds_of (params_of l)) (param s x) ≡ true) (sym e) h

-- ---- tests
pub good-test : (kept : ℕ → Bool) (sorts : List Sort) (t : Trees) → Good kept sorts t → is_good kept sorts t ≡ true
good-test kept sorts t g = by _ _ g.made g.fits
  where
    by : (a b : Bool) → a ≡ true → b ≡ false → a && not b ≡ true
    by true false e f = refl
    by true true e f = absurd cc
    by false b e f = absurd cc

type-single : (d : Declarations) (l : Line) (first : ℕ) (t : TypeTree) → is_single (type_tree (item_meanings d l first) [] of_type t) ≡ true
type-single d l first (of_primitive p) = refl
type-single d l first never_type = refl
type-single d l first (variable_type n) = refl
type-single d l first (named n args) = refl
type-single d l first (reference_to o m t) = refl
type-single d l first (pointer_to m t) = refl
type-single d l first (slice_of t) = refl
type-single d l first (array_of t n) = refl
type-single d l first (tuple_of ts) = refl
type-single d l first (fn_of b ts) = refl
type-single d l first (fn_to b ts r) = refl
type-single d l first (dyn_of i is) = refl

pub fields-good : (d : Declarations) (l : Line) (fs : Types) → ScalarTypes fs → AllFit d l (types_uses (with_own d l) [] fs)
    → list_all (λ t. is_good none_kept (kinds_of (params_of l)) t && is_single t) (field_trees (item_meanings d l 0) fs) ≡ true
fields-good d l no_types f h = refl
fields-good d l (and_type t ts) f h =
    and _ _
    (and _ _
    (good-test none_kept (kinds_of (params_of l)) (type_tree (item_meanings d l 0) [] of_type t) (good-type none_kept (kinds_of (params_of l)) d l 0 (kinds-numbered l) [] t f.0 (first-fit d l (type_uses (with_own d l) [] of_type t) (types_uses (with_own d l) [] ts) h)))
    (type-single d l 0 t)) (fields-good d l ts f.1 (rest-fit d l (type_uses (with_own d l) [] of_type t) (types_uses (with_own d l) [] ts) h))

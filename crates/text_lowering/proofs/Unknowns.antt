-- The unknowns of a question, made one after the other, and the question's row.
use Rattle.std.proofs.Common.{◌≡◌, ℕ, suc, ◌+◌, ◌<◌, List, [], ◌∷◌, ◌++◌, length, map, drop, get_or, append_assoc, Some, refl, sym, ap, ◌∙◌, arith}
use Rattle.std.proofs.lemmas.List.{map_push}
use Rattle.std.proofs.lemmas.Option.{slice_get-map, get_or_from_slice_get}
use Rattle.std.specs.Prelude.{slice_get}
use Rattle.type_terms.specs.Promised.Trees.{Trees}
use Rattle.type_terms.specs.Promised.Handles.{Entry, Keeps, types, consts}
use Rattle.type_terms.specs.Promised.Handles.{arg_trees, ArgHeld, ArgsHeld}
use Rattle.type_terms.specs.declared.kinds.GenericArgKind.{GenericArgKind}
use Rattle.type_terms.specs.declared.kinds.GenericArgKind.TheVariants as args
use Rattle.type_terms.specs.Kept.{has-later, trees-later}
use Rattle.type_terms.proofs.TypeBasics.{mapped-some as row-of}
use Rattle.type_terms.proofs.ListBasics.{next-behind}

-- ---- arguments, xs the interner grows
module _ (old new : List Entry) (k : Keeps old new) where
  arg-kept : (a : GenericArgKind) → ArgHeld old a → ArgHeld new a
  arg-kept (args.Lifetime r) h = h
  arg-kept (args.Ty t) h = has-later old new k types t.0 h
  arg-kept (args.Const c) h = has-later old new k consts c.0 h

  arg-same : (a : GenericArgKind) → ArgHeld old a → arg_trees new a ≡ arg_trees old a
  arg-same (args.Lifetime r) h = refl
  arg-same (args.Ty t) h = trees-later old new k types t.0 h
  arg-same (args.Const c) h = trees-later old new k consts c.0 h

  args-same : (xs : List GenericArgKind) → ArgsHeld old xs → map (arg_trees new) xs ≡ map (arg_trees old) xs
  args-same [] h = refl
  args-same (a ∷ xs) h = ap (λ t. t ∷ map (arg_trees new) xs) (arg-same a h.0) ∙ ap (λ ts. arg_trees old a ∷ ts) (args-same xs h.1)

  pub args-more : (xs : List GenericArgKind) (a : GenericArgKind) → ArgsHeld old xs → ArgHeld new a → ArgsHeld new (xs ++ a ∷ [])
  args-more [] a h g = (g, tt)
  args-more (b ∷ xs) a h g = (arg-kept b h.0, args-more xs a h.1 g)

  -- one more of the unknowns us, where `left` stand for the variables that are left
  pub unknowns-further : (us : List GenericArgKind) (u : GenericArgKind) (left rest all : List Trees) → ArgsHeld old us → map (arg_trees old) us ++ left ≡ all → left ≡ arg_trees new u ∷ rest
      → map (arg_trees new) (us ++ u ∷ []) ++ rest ≡ all
  unknowns-further us u left rest all h e is =
      ap (λ ts. ts ++ rest) (map_push (arg_trees new) us u) ∙ append_assoc (map (arg_trees new) us) (arg_trees new u ∷ []) rest ∙ ap (λ ts. ts ++ arg_trees new u ∷ rest) (args-same us h)
      ∙ ap (λ ts. map (arg_trees old) us ++ ts) (sym is) ∙ e

one-up : (i : ℕ) → suc i ≡ i + 1
one-up i = omega arith

pub next-left : {A : Type 0} (xs : List A) (i : ℕ) (x : A) → i < length xs → x ≡ get_or xs i x → drop i xs ≡ x ∷ drop (i + 1) xs
next-left xs i x h e = next-behind xs i x h e ∙ ap (λ n. x ∷ drop n xs) (one-up i)

-- ---- the row of a question
-- the row that is read at the place of q
pub row-read : {A B : Type 0} (f : A → B) (rows : List A) (qs : List B) (n : ℕ) (q : B) (r : A) → map f rows ≡ qs → slice_get qs n ≡ Some q → r ≡ get_or rows n r → (slice_get rows n ≡ Some r) × (f r ≡ q)
row-read f rows qs n q r are there is =
    let found = row-of f (slice_get rows n) q (sym (slice_get-map f rows n) ∙ ap (λ l. slice_get l n) are ∙ there) in
    let same : r ≡ found.0 = is ∙ get_or_from_slice_get rows n found.0 r found.1 in
    (found.1 ∙ ap (λ z. Some z) (sym same), ap f same ∙ found.2)

-- The items of `core`, put one behind the other.
use Rattle.std.proofs.Common.{◌≡◌, ℕ, zero, suc, ◌+◌, ◌<◌, ◌≤◌, List, [], ◌∷◌, ◌++◌, length, take, refl, sym, ap, subst, ◌∙◌, arith, length-append, append_assoc, get_or, add-one}
use Rattle.std.proofs.lemmas.List.{map_push, length-map}
use Rattle.std.specs.Prelude.{map}
use Rattle.type_terms.specs.Promised.Label.{Sort}
use Rattle.type_terms.specs.Promised.Trees.{Trees}
use Rattle.type_terms.specs.Promised.Worlds.{Reference, ImplDecl, core}
use Rattle.type_terms.specs.Promised.Core.{impls_for, scalars}
use Rattle.type_terms.specs.Promised.Rules.{asked}
use Rattle.text_language.specs.Promised.Declarations.{Declarations, NamedImpl, last_crate}
use Rattle.text_language.specs.Declarations.{nothing_declared, bare_impl, copied}
use Rattle.text_tables.specs.declared.cell.TermCell.{TermCell}
use Rattle.text_tables.specs.declared.cell.TermCell.TheVariants as cells
use Rattle.type_terms.specs.declared.kinds.IntTy.TheVariants as ints
use Rattle.type_terms.specs.declared.kinds.Mutability.TheVariants.{Not, Mut}
use Rattle.type_terms.specs.declared.kinds.UintTy.TheVariants as uints
use Rattle.text_tables.specs.Tables.{with_impl}
use Rattle.text_tables.specs.Parts.{new_impl}
use Rattle.text_tables.specs.TermCells.{trees_of, joined}
use Rattle.text_tables.specs.Views.{cell_of}
use Rattle.text_tables.specs.CoreItems.{HasRoom, IsInCore, core_traits_to, core_cloned, core_boxed, impl_for, ref_impl, pointer_impl, array_impl, boxed_impl}

-- ---- impls
-- an impl of `core` with this number
abbrev impl_at : ℕ → List (List ℕ × Sort) → Reference → List Reference → NamedImpl
impl_at n ps h cs = record { params = ps; item = record { name = n; home = core; params = length ps; header = h; clauses = cs } }

-- one more behind those that were put there
pub put-behind : (d e : Declarations) (M : List NamedImpl) (m : ℕ) (ps : List (List ℕ × Sort)) (h : Reference) (cs : List Reference) → last_crate d ≡ core → length M ≡ m → e ≡ record d { impls = d.impls ++ M }
    → with_impl e (new_impl e ps h cs) ≡ record d { impls = d.impls ++ (M ++ impl_at (length d.impls + m) ps h cs ∷ []) }
put-behind d e M m ps h cs home long before =
    let number : length (d.impls ++ M) ≡ length d.impls + m = omega (arith, length-append d.impls M, long) in
    ap (λ f. with_impl f (new_impl f ps h cs)) before
    ∙ ap (λ n. record d { impls = (d.impls ++ M) ++ record { params = ps; item = record { name = n; home = last_crate d; params = length ps; header = h; clauses = cs } } ∷ [] }) number
    ∙ ap (λ c. record d { impls = (d.impls ++ M) ++ record { params = ps; item = record { name = length d.impls + m; home = c; params = length ps; header = h; clauses = cs } } ∷ [] }) home
    ∙ ap (λ is. record d { impls = is }) (append_assoc d.impls M (impl_at (length d.impls + m) ps h cs ∷ []))

abbrev plain_at : ℕ → ℕ → Trees → ImplDecl
plain_at n t a = record { name = n; home = core; params = 0; header = asked t a; clauses = [] }

impls_for-push : (n t : ℕ) (xs : List Trees) (a : Trees) → impls_for n t (xs ++ a ∷ []) ≡ impls_for n t xs ++ plain_at (n + length xs) t a ∷ []
impls_for-push n t [] a = let e : n ≡ n + 0 = omega arith in ap (λ k. plain_at k t a ∷ []) e
impls_for-push n t (x ∷ xs) a =
    let e : suc n + length xs ≡ n + suc (length xs) = omega arith in
    ap (λ r. plain_at n t x ∷ r) (impls_for-push (suc n) t xs a ∙ ap (λ k. impls_for (suc n) t xs ++ plain_at k t a ∷ []) e)

impls_for-length : (n t : ℕ) (xs : List Trees) → length (impls_for n t xs) ≡ length xs
impls_for-length n t [] = refl
impls_for-length n t (x ∷ xs) = ap suc (impls_for-length (suc n) t xs)

-- the type of one cell
abbrev pub one : TermCell → Trees
one c = joined (trees_of (cell_of c ∷ []))

abbrev pub plain_impls : ℕ → ℕ → List TermCell → List NamedImpl
plain_impls n t xs = map bare_impl (impls_for n t (map one xs))

plain-push : (n t : ℕ) (xs : List TermCell) (c : TermCell) → plain_impls n t (xs ++ c ∷ []) ≡ plain_impls n t xs ++ bare_impl (plain_at (n + length xs) t (one c)) ∷ []
plain-push n t xs c =
    ap (λ ys. map bare_impl (impls_for n t ys)) (map_push one xs c)
    ∙ ap (map bare_impl) (impls_for-push n t (map one xs) (one c))
    ∙ map_push bare_impl (impls_for n t (map one xs)) (plain_at (n + length (map one xs)) t (one c))
    ∙ ap (λ k. plain_impls n t xs ++ bare_impl (plain_at (n + k) t (one c)) ∷ []) (length-map xs one)

pub plain-length : (n t : ℕ) (xs : List TermCell) → length (plain_impls n t xs) ≡ length xs
plain-length n t xs = length-map (impls_for n t (map one xs)) bare_impl ∙ impls_for-length n t (map one xs) ∙ length-map xs one

pub scalar-added : (d e : Declarations) (t : ℕ) (xs : List TermCell) (c : TermCell) → last_crate d ≡ core → e ≡ record d { impls = d.impls ++ plain_impls (length d.impls) t xs }
    → with_impl e (impl_for e t c) ≡ record d { impls = d.impls ++ plain_impls (length d.impls) t (xs ++ c ∷ []) }
scalar-added d e t xs c home before =
    put-behind d e (plain_impls (length d.impls) t xs) (length xs) [] (asked t (one c)) [] home (plain-length (length d.impls) t xs) before
    ∙ ap (λ is. record d { impls = d.impls ++ is }) (sym (plain-push (length d.impls) t xs c))

-- what stands behind the impls for scalars
pub copied-built : (d d1 d2 d3 d4 d5 : Declarations) (t : ℕ) → last_crate d ≡ core → d1 ≡ record d { impls = d.impls ++ map bare_impl (impls_for (length d.impls) t scalars) }
    → d2 ≡ with_impl d1 (ref_impl d1 t) → d3 ≡ with_impl d2 (pointer_impl d2 t Not) → d4 ≡ with_impl d3 (pointer_impl d3 t Mut) → d5 ≡ with_impl d4 (array_impl d4 t)
    → d5 ≡ record d { impls = d.impls ++ copied (length d.impls) t }
copied-built d d1 d2 d3 d4 d5 t home e1 e2 e3 e4 e5 =
    let s2 = e2 ∙ put-behind d d1 _ 15 _ _ _ home refl e1 in
    let s3 = e3 ∙ put-behind d d2 _ 16 _ _ _ home refl s2 in
    let s4 = e4 ∙ put-behind d d3 _ 17 _ _ _ home refl s3 in
    e5 ∙ put-behind d d4 _ 18 _ _ _ home refl s4

-- `bool`, `char`, `!` and the integer types
abbrev pub scalar_cells : List TermCell
scalar_cells =
    cells.Bool ∷ cells.Char ∷ cells.Never
    ∷ cells.Int ints.I8 ∷ cells.Int ints.I16 ∷ cells.Int ints.I32 ∷ cells.Int ints.I64 ∷ cells.Int ints.I128 ∷ cells.Int ints.Isize
    ∷ cells.Uint uints.U8 ∷ cells.Uint uints.U16 ∷ cells.Uint uints.U32 ∷ cells.Uint uints.U64 ∷ cells.Uint uints.U128 ∷ cells.Uint uints.Usize
    ∷ []

-- ---- room
pub room-behind : (d e : Declarations) (M : List NamedImpl) (m : ℕ) → IsInCore d → length M ≡ m → m < 100 → e ≡ record d { impls = d.impls ++ M } → HasRoom e
room-behind d e M m i long short is =
    subst HasRoom (sym is) (record {
      few_crates = omega (arith, i.few_crates);
      few_structs = omega (arith, i.few_structs);
      few_traits = omega (arith, i.few_traits);
      few_impls = omega (arith, length-append d.impls M, long, short, i.few_impls);
      few_questions = omega (arith, i.few_questions);
      few_sections = omega (arith, i.few_sections);
      few_later = omega (arith, i.few_later);
    })

pub take-more : {A : Type 0} (xs : List A) (i : ℕ) (x : A) → i < length xs → x ≡ get_or xs i x → take (i + 1) xs ≡ take i xs ++ x ∷ []
take-more xs i x h e = ap (λ n. take n xs) (add-one i) ∙ further xs i x h e
  where
    further : {A : Type 0} (xs : List A) (i : ℕ) (x : A) → i < length xs → x ≡ get_or xs i x → take (suc i) xs ≡ take i xs ++ x ∷ []
    further [] i x h e = absurd (omega (arith, h))
    further (y ∷ xs) zero x h e = ap (λ z. z ∷ []) (sym e)
    further (y ∷ xs) (suc i) x h e = ap (λ r. y ∷ r) (further xs i x (omega (arith, h)) e)

take-short : {A : Type 0} (n : ℕ) (xs : List A) → length (take n xs) ≤ length xs
take-short zero xs = omega arith
take-short (suc n) [] = omega arith
take-short (suc n) (x ∷ xs) = omega (arith, take-short n xs)

pub room-then : (d e : Declarations) (t n : ℕ) (xs : List TermCell) → IsInCore d → length xs ≡ 15 → e ≡ record d { impls = d.impls ++ plain_impls (length d.impls) t (take n xs) } → HasRoom e
room-then d e t n xs i long is = room-behind d e (plain_impls (length d.impls) t (take n xs)) (length (take n xs)) i (plain-length (length d.impls) t (take n xs)) (omega (arith, take-short n xs, long)) is

-- how far the impls of `Clone`, or of `Copy`, have come
abbrev pub Scalars : Declarations → Declarations → ℕ → Type 0
Scalars d e t = e ≡ record d { impls = d.impls ++ map bare_impl (impls_for (length d.impls) t scalars) }

pub room-1 : (d d1 : Declarations) (t : ℕ) → IsInCore d → Scalars d d1 t → HasRoom d1
room-1 d d1 t i e1 = room-behind d d1 (map bare_impl (impls_for (length d.impls) t scalars)) 15 i refl (omega arith) e1

pub room-2 : (d d1 d2 : Declarations) (t : ℕ) → IsInCore d → Scalars d d1 t → d2 ≡ with_impl d1 (ref_impl d1 t) → HasRoom d2
room-2 d d1 d2 t i e1 e2 = room-behind d d2 _ 16 i refl (omega arith) (e2 ∙ put-behind d d1 _ 15 _ _ _ i.home refl e1)

pub room-3 : (d d1 d2 d3 : Declarations) (t : ℕ) → IsInCore d → Scalars d d1 t → d2 ≡ with_impl d1 (ref_impl d1 t) → d3 ≡ with_impl d2 (pointer_impl d2 t Not) → HasRoom d3
room-3 d d1 d2 d3 t i e1 e2 e3 = room-behind d d3 _ 17 i refl (omega arith) (e3 ∙ put-behind d d2 _ 16 _ _ _ i.home refl (e2 ∙ put-behind d d1 _ 15 _ _ _ i.home refl e1))

pub room-4 : (d d1 d2 d3 d4 : Declarations) (t : ℕ) → IsInCore d → Scalars d d1 t → d2 ≡ with_impl d1 (ref_impl d1 t) → d3 ≡ with_impl d2 (pointer_impl d2 t Not)
    → d4 ≡ with_impl d3 (pointer_impl d3 t Mut) → HasRoom d4
room-4 d d1 d2 d3 d4 t i e1 e2 e3 e4 =
    room-behind d d4 _ 18 i refl (omega arith)
    (e4 ∙ put-behind d d3 _ 17 _ _ _ i.home refl (e3 ∙ put-behind d d2 _ 16 _ _ _ i.home refl (e2 ∙ put-behind d d1 _ 15 _ _ _ i.home refl e1)))

-- ---- the whole
pub in_core : IsInCore (core_traits_to 9)
in_core = record { home = refl; few_crates = omega arith; few_structs = omega arith; few_traits = omega arith; few_impls = omega arith; few_questions = omega arith; few_sections = omega arith; few_later = omega arith }

pub in_core_boxed : IsInCore core_boxed
in_core_boxed = record { home = refl; few_crates = omega arith; few_structs = omega arith; few_traits = omega arith; few_impls = omega arith; few_questions = omega arith; few_sections = omega arith; few_later = omega arith }

pub room_cloned : HasRoom core_cloned
room_cloned = record { few_crates = omega arith; few_structs = omega arith; few_traits = omega arith; few_impls = omega arith; few_questions = omega arith; few_sections = omega arith; few_later = omega arith }

pub cloned : (d e : Declarations) → d ≡ core_traits_to 9 → e ≡ record d { impls = d.impls ++ copied (length d.impls) 1 } → e ≡ core_cloned
cloned d e before is = is ∙ ap {A = Declarations} (λ x. record x { impls = x.impls ++ copied (length x.impls) 1 }) before

pub boxed : (d e : Declarations) → d ≡ core_cloned → e ≡ with_impl d (boxed_impl d) → e ≡ core_boxed
boxed d e before is = is ∙ ap (λ x. with_impl x (boxed_impl x)) before

pub all_copied : (d e : Declarations) → d ≡ core_boxed → e ≡ record d { impls = d.impls ++ copied (length d.impls) 2 } → e ≡ nothing_declared
all_copied d e before is = is ∙ ap {A = Declarations} (λ x. record x { impls = x.impls ++ copied (length x.impls) 2 }) before

-- How many unknowns of each kind there are.
use Rattle.std.proofs.Common.{◌≡◌, ℕ, zero, suc, ◌+◌, ◌<◌, Bool, true, false, if◌then◌else◌, List, [], ◌∷◌, ◌++◌, length, map, take, get_or, refl, sym, ap, ◌∙◌, arith}
use Rattle.type_terms.specs.Promised.Label.{Sort, of_type, of_const, of_lifetime}
use Rattle.type_terms.specs.Promised.Trees.{is_sort}
use Rattle.type_terms.specs.declared.kinds.GenericArgKind.{GenericArgKind}
use Rattle.term_folds.specs.Arguments.{arg_sort}
use Rattle.type_terms.proofs.Items.{take-push}
use Rattle.infer_table.specs.Content.{Table}
use Rattle.sessions.specs.Tables.{count_of, table_of}
use Rattle.type_terms.proofs.NumberBasics.{plus-zero as as-before}

-- one more
one-if : (b : Bool) (n : ℕ) → (if b then suc n else n) ≡ n + (if b then 1 else 0)
one-if true n = omega arith
one-if false n = omega arith

pub count-push : (s : Sort) (ks : List Sort) (k : Sort) → count_of s (ks ++ k ∷ []) ≡ count_of s ks + (if is_sort k s then 1 else 0)
count-push s [] k = one-if (is_sort k s) zero
count-push s (j ∷ ks) k = by (is_sort j s) (count-push s ks k)
  where
    by : (b : Bool) → count_of s (ks ++ k ∷ []) ≡ count_of s ks + (if is_sort k s then 1 else 0)
        → (if b then suc (count_of s (ks ++ k ∷ [])) else count_of s (ks ++ k ∷ [])) ≡ (if b then suc (count_of s ks) else count_of s ks) + (if is_sort k s then 1 else 0)
    by true e = omega (arith, e)
    by false e = e

abbrev counted : ℕ → ℕ → ℕ → Table
counted a b c = record { ty_vars = a; const_vars = b; region_vars = c; values = []; constraints = [] }

same-table : (a b c d e f : ℕ) → a ≡ b → c ≡ d → e ≡ f → counted a c e ≡ counted b d f
same-table a b c d e f p q r = cc

-- a table with one more
pub one-more-type : (t u : Table) (ks : List Sort) → u ≡ record t { ty_vars = t.ty_vars + 1 } → t ≡ table_of ks → u ≡ table_of (ks ++ of_type ∷ [])
one-more-type t u ks e f =
    e ∙ ap (λ (z : Table). record z { ty_vars = z.ty_vars + 1 }) f
    ∙ same-table _ _ _ _ _ _ (sym (count-push of_type ks of_type)) (sym (count-push of_const ks of_type ∙ as-before (count_of of_const ks))) (sym (count-push of_lifetime ks of_type ∙ as-before (count_of of_lifetime ks)))

pub one-more-const : (t u : Table) (ks : List Sort) → u ≡ record t { const_vars = t.const_vars + 1 } → t ≡ table_of ks → u ≡ table_of (ks ++ of_const ∷ [])
one-more-const t u ks e f =
    e ∙ ap (λ (z : Table). record z { const_vars = z.const_vars + 1 }) f
    ∙ same-table _ _ _ _ _ _ (sym (count-push of_type ks of_const ∙ as-before (count_of of_type ks))) (sym (count-push of_const ks of_const)) (sym (count-push of_lifetime ks of_const ∙ as-before (count_of of_lifetime ks)))

pub one-more-lifetime : (t u : Table) (ks : List Sort) → u ≡ record t { region_vars = t.region_vars + 1 } → t ≡ table_of ks → u ≡ table_of (ks ++ of_lifetime ∷ [])
one-more-lifetime t u ks e f =
    e ∙ ap (λ (z : Table). record z { region_vars = z.region_vars + 1 }) f
    ∙ same-table _ _ _ _ _ _ (sym (count-push of_type ks of_lifetime ∙ as-before (count_of of_type ks))) (sym (count-push of_const ks of_lifetime ∙ as-before (count_of of_const ks))) (sym (count-push of_lifetime ks of_lifetime))

-- ---- the kinds of those before a place
map-push : (xs : List GenericArgKind) (x : GenericArgKind) → map arg_sort (xs ++ x ∷ []) ≡ map arg_sort xs ++ arg_sort x ∷ []
map-push [] x = refl
map-push (y ∷ xs) x = ap (λ l. arg_sort y ∷ l) (map-push xs x)

pub sorts-push : (xs : List GenericArgKind) (i : ℕ) (x : GenericArgKind) → i < length xs → x ≡ get_or xs i x → map arg_sort (take (i + 1) xs) ≡ map arg_sort (take i xs) ++ arg_sort x ∷ []
sorts-push xs i x lt is = ap (map arg_sort) (take-push xs i x lt ∙ ap (λ z. take i xs ++ z ∷ []) (sym is)) ∙ map-push (take i xs) x

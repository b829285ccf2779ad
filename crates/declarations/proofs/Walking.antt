-- What a walk along the impls of a head finds, once those that are apart are passed over.
use Rattle.std.proofs.Common.{◌≡◌, ℕ, ◌<◌, Bool, true, false, cond, ◌&&◌, not, List, [], ◌∷◌, Option, Some, refl, sym, ap, ◌∙◌, arith, inl, inr, subst, if◌then◌else◌}
use Rattle.std.proofs.lemmas.Bool.Decides.{nat_tests}
use Rattle.std.specs.Prelude.{map, filter, ◌==◌}
use Rattle.std.specs.Option.{option_map, option_map_or}
use Rattle.type_terms.specs.Promised.Trees.{Trees}
use Rattle.type_terms.specs.Promised.Handles.{Entry, trees_at}
use Rattle.type_terms.specs.declared.ImplId.{ImplId}
use Rattle.type_terms.proofs.Members.{self-number}
use Rattle.declarations.specs.Apart.{are_apart}
use Rattle.declarations.specs.Index.{ids_of}
use Rattle.declarations.specs.Items.{Items, HeldImpl, impl_at}
use Rattle.declarations.specs.Promised.Elaboration.{Each}
use Rattle.declarations.specs.Merges.{Rises, IsMerge}
use Rattle.declarations.specs.Relevant.{is_above}
use Rattle.declarations.specs.Walks.{header_meets, first_that}
use Rattle.declarations.proofs.Above.{first, in-front}

-- ---- what is kept of merges, and of what rises
pub merge-kept : (t : ImplId → Bool) (xs ys zs : List ImplId) → IsMerge xs ys zs → IsMerge (filter t xs) (filter t ys) (filter t zs)
merge-kept t xs ys [] m = (ap (filter t) m.0, ap (filter t) m.1)
merge-kept t xs ys (z ∷ zs) (inl m) =
    subst (λ l. IsMerge (filter t l) (filter t ys) (filter t (z ∷ zs))) (sym m.1) (by (t z) (merge-kept t m.0 ys zs m.2))
  where
    by : (b : Bool) → IsMerge (filter t m.0) (filter t ys) (filter t zs) → IsMerge (cond b (z ∷ filter t m.0) (filter t m.0)) (filter t ys) (cond b (z ∷ filter t zs) (filter t zs))
    by true r = inl (filter t m.0, refl, r)
    by false r = r
merge-kept t xs ys (z ∷ zs) (inr m) =
    subst (λ l. IsMerge (filter t xs) (filter t l) (filter t (z ∷ zs))) (sym m.1) (by (t z) (merge-kept t xs m.0 zs m.2))
  where
    by : (b : Bool) → IsMerge (filter t xs) (filter t m.0) (filter t zs) → IsMerge (filter t xs) (cond b (z ∷ filter t m.0) (filter t m.0)) (cond b (z ∷ filter t zs) (filter t zs))
    by true r = inr (filter t m.0, refl, r)
    by false r = r

each-kept : (P : ImplId → Type 0) (t : ImplId → Bool) (xs : List ImplId) → Each P xs → Each P (filter t xs)
each-kept P t [] h = tt
each-kept P t (x ∷ xs) h = by (t x) (each-kept P t xs h.1)
  where
    by : (b : Bool) → Each P (filter t xs) → Each P (cond b (x ∷ filter t xs) (filter t xs))
    by true r = (h.0, r)
    by false r = r

pub rises-kept : (t : ImplId → Bool) (xs : List ImplId) → Rises xs → Rises (filter t xs)
rises-kept t [] h = tt
rises-kept t (x ∷ xs) h = by (t x) (rises-kept t xs h.1)
  where
    by : (b : Bool) → Rises (filter t xs) → Rises (cond b (x ∷ filter t xs) (filter t xs))
    by true r = (each-kept (λ y. x.index < y.index) t xs h.0, r)
    by false r = r

-- ---- each impl is found by its number
later-number : (n m : ℕ) → n < m → (m == n) ≡ false
later-number n m h = grind (arith, nat_tests)

abbrev IsFoundIn : List HeldImpl → HeldImpl → Type 0
IsFoundIn is j = impl_at j.id.index is ≡ Some j.def

each-later : (i : HeldImpl) (is js : List HeldImpl) → Each (λ (y : ImplId). i.id.index < y.index) (map (λ (j : HeldImpl). j.id) js) → Each (IsFoundIn is) js → Each (IsFoundIn (i ∷ is)) js
each-later i is [] a h = tt
each-later i is (j ∷ js) a h =
    (ap (λ b. if b then Some i.def else impl_at j.id.index is) (later-number i.id.index j.id.index a.0) ∙ h.0, each-later i is js a.1 h.1)

each-found : (is : List HeldImpl) → Rises (map (λ (i : HeldImpl). i.id) is) → Each (IsFoundIn is) is
each-found [] r = tt
each-found (i ∷ is) r = (ap (λ b. if b then Some i.def else impl_at i.id.index is) (self-number i.id.index), each-later i is is r.0 (each-found is r.1))

-- whether its header meets the arguments
abbrev pub meets : List Entry → Trees → HeldImpl → Bool
meets es args i = not (are_apart args (trees_at es i.def.header.args.0))

each-meets : (es : List Entry) (d : Items) (args : Trees) (is : List HeldImpl) → Each (IsFoundIn d.impls) is → Each (λ (i : HeldImpl). header_meets es d args i.id ≡ meets es args i) is
each-meets es d args [] h = tt
each-meets es d args (i ∷ is) h =
    (ap (λ o. option_map_or (λ def. not (are_apart args (trees_at es def.header.args.0))) o false) h.0, each-meets es d args is h.1)

-- ---- the first that is found
module _ (last : Option ImplId) (m : ImplId → Bool) (t r : HeldImpl → Bool) where
  abbrev found : List HeldImpl → Option ℕ
  found is = option_map (λ (i : ImplId). i.index) (first_that m (filter (λ i. is_above last i.index) (ids_of r is)))

  found-in-front : (i : HeldImpl) (is : List HeldImpl) → found (i ∷ is) ≡ cond (r i) (cond (is_above last i.id.index) (cond (m i.id) (Some i.id.index) (found is)) (found is)) (found is)
  found-in-front i is = by (r i)
    where
      rest : List ImplId
      rest = filter (λ i. is_above last i.index) (ids_of r is)

      tested : (b : Bool) → option_map (λ (i : ImplId). i.index) (cond b (Some i.id) (first_that m rest)) ≡ cond b (Some i.id.index) (found is)
      tested true = refl
      tested false = refl

      placed : (b : Bool) → option_map (λ (i : ImplId). i.index) (first_that m (cond b (i.id ∷ rest) rest)) ≡ cond b (cond (m i.id) (Some i.id.index) (found is)) (found is)
      placed true = tested (m i.id)
      placed false = refl

      by : (b : Bool) → option_map (λ (i : ImplId). i.index) (first_that m (filter (λ i. is_above last i.index) (map (λ (i : HeldImpl). i.id) (cond b (i ∷ filter r is) (filter r is)))))
          ≡ cond b (cond (is_above last i.id.index) (cond (m i.id) (Some i.id.index) (found is)) (found is)) (found is)
      by true = placed (is_above last i.id.index)
      by false = refl

  found-first : (is : List HeldImpl) → Each (λ (i : HeldImpl). m i.id ≡ t i) is → found is ≡ first last (λ i. r i && t i) is
  found-first [] h = refl
  found-first (i ∷ is) h =
      found-in-front i is
      ∙ ap (λ b. cond (r i) (cond (is_above last i.id.index) (cond b (Some i.id.index) (found is)) (found is)) (found is)) h.0
      ∙ by (r i) (t i) (is_above last i.id.index) (found-first is h.1)
      ∙ sym (in-front last (λ i. r i && t i) (r i && t i) (is_above last i.id.index) i is refl refl)
    where
      by : (a b u : Bool) → found is ≡ first last (λ i. r i && t i) is
          → cond a (cond u (cond b (Some i.id.index) (found is)) (found is)) (found is) ≡ cond (a && b) (cond u (Some i.id.index) (first last (λ i. r i && t i) is)) (first last (λ i. r i && t i) is)
      by true true true e = refl
      by true true false e = e
      by true false true e = e
      by true false false e = e
      by false b u e = e

pub walk-finds : (last : Option ImplId) (es : List Entry) (d : Items) (args : Trees) (r : HeldImpl → Bool) → Rises (map (λ (i : HeldImpl). i.id) d.impls)
    → option_map (λ (i : ImplId). i.index) (first_that (header_meets es d args) (filter (λ i. is_above last i.index) (ids_of r d.impls))) ≡ first last (λ i. r i && meets es args i) d.impls
walk-finds last es d args r rises = found-first last (header_meets es d args) (meets es args) r d.impls (each-meets es d args d.impls (each-found d.impls rises))

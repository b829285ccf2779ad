-- Counts in a map of usages.
use Rattle.std.proofs.Common.{◌≡◌, ℕ, ◌^◌, ◌<◌, ◌⊎◌, inl, inr, false, cond, eqb, List, [], ◌∷◌, None, Some, unwrap_or, refl, sym, ap, subst, ◌∙◌, arith}
use Rattle.std.specs.Ordering.{nat_cmp, is_eq, eq_by_cmp}
use Rattle.std.specs.declared.cmp.Ordering.TheVariants.{Less, Equal, Greater}
use Rattle.std.specs.Cmp.{nat_cmp_total}
use Rattle.std.specs.FinMap.{find, from_entries, get-from_entries}
use Rattle.std.specs.Map.{lookup, keys_of}
use Rattle.std.specs.List.{IsDistinct, AllByRecursion}
use Rattle.std.proofs.lemmas.Bool.{eq-eqb, ne_eqb, lt-ltb, le-ltb, cases_order, cases_eq}
use Rattle.search_paths.specs.declared.path_kind.PathKind.{PathKind}
use Rattle.search_paths.specs.declared.path_kind.PathKind.TheVariants.{Inductive, Unknown, Coinductive, ForcedAmbiguity}
use Rattle.search_paths.specs.declared.head_usages.HeadUsages.{HeadUsages}
use Rattle.search_paths.specs.Path.{rank}
use Rattle.search_paths.specs.Usages.{sticking_sum, count_by, no_usages, usage_count}
use Rattle.search_paths.proofs.KindOrder.{same_rank}

-- two kinds are one, or not
pub cases_kind : (j k : PathKind) → (j ≡ k) ⊎ (j ≡ k → ⊥)
cases_kind j k = elim (cases_eq (rank j) (rank k)) [ inl e ↦ inl (same_rank j k e) | inr ne ↦ inr (λ e. ne (ap rank e)) ]

-- how often in a list of entries
abbrev pub entry_count : List (ℕ × HeadUsages) → ℕ → PathKind → ℕ
entry_count es head kind = count_by (unwrap_or (lookup (eqb head) es) no_usages) kind

abbrev pub AllFit : List (ℕ × HeadUsages) → Type 0
AllFit es = (head : ℕ) (kind : PathKind) → entry_count es head kind < 2 ^ 32

pub count-none : (kind : PathKind) → count_by no_usages kind ≡ 0
count-none Inductive = refl
count-none Unknown = refl
count-none Coinductive = refl
count-none ForcedAmbiguity = refl

pub AllFit-none : AllFit []
AllFit-none head kind = omega (arith, count-none kind)

same_test : (a b : ℕ) → eq_by_cmp nat_cmp a b ≡ eqb a b
same_test a b = elim (cases_order a b) [
  | inl e ↦ ap (λ t. is_eq (cond t Less (cond (eqb a b) Equal Greater))) (le-ltb a b (omega arith)) ∙ ap (λ t. is_eq (cond t Equal Greater)) (eq-eqb a b e) ∙ sym (eq-eqb a b e)
  | inr (inl lt) ↦ ap (λ t. is_eq (cond t Less (cond (eqb a b) Equal Greater))) (lt-ltb a b lt) ∙ sym (ne_eqb a b (λ e. absurd (omega arith)))
  | inr (inr gt) ↦ ap (λ t. is_eq (cond t Less (cond (eqb a b) Equal Greater))) (le-ltb a b (omega arith)) ∙ ap (λ t. is_eq (cond t Equal Greater)) (ne_eqb a b (λ e. absurd (omega arith))) ∙ sym (ne_eqb a b (λ e. absurd (omega arith)))
]

find-lookup : (head : ℕ) (es : List (ℕ × HeadUsages)) → find nat_cmp head es ≡ lookup (eqb head) es
find-lookup head [] = refl
find-lookup head (e ∷ es) = λ i. cond (same_test head e.0 i) (Some e.1) (find-lookup head es i)

pub usage_count-entries : (es : List (ℕ × HeadUsages)) (head : ℕ) (kind : PathKind) → usage_count (from_entries es) head kind ≡ entry_count es head kind
usage_count-entries es head kind = ap (λ o. count_by (unwrap_or o no_usages) kind) (get-from_entries nat_cmp_total es head ∙ find-lookup head es)

module _ (es fs : List (ℕ × HeadUsages)) (head : ℕ) (w : HeadUsages) (updates : (q : ℕ) → lookup (eqb q) fs ≡ cond (eqb head q) (Some w) (lookup (eqb q) es)) where
  pub count-at : (kind : PathKind) → entry_count fs head kind ≡ count_by w kind
  count-at kind = ap (λ o. count_by (unwrap_or o no_usages) kind) (updates head ∙ ap (λ b. cond b (Some w) (lookup (eqb head) es)) (eq-eqb head head refl))

  pub count-apart : (q : ℕ) (kind : PathKind) → (q ≡ head → ⊥) → entry_count fs q kind ≡ entry_count es q kind
  count-apart q kind ne = ap (λ o. count_by (unwrap_or o no_usages) kind) (updates q ∙ ap (λ b. cond b (Some w) (lookup (eqb q) es)) (ne_eqb head q (λ e. ne (sym e))))

  pub AllFit-updated : AllFit es → ((kind : PathKind) → count_by w kind < 2 ^ 32) → AllFit fs
  AllFit-updated old fits q kind = elim (cases_eq q head) [
    | inl e ↦ let at = count-at kind in let here : entry_count fs q kind ≡ entry_count fs head kind = ap (λ p. entry_count fs p kind) e in let fit = fits kind in omega arith
    | inr ne ↦ let apart = count-apart q kind ne in let fit = old q kind in omega arith
  ]

-- no head stands twice
abbrev pub AreApart : List (ℕ × HeadUsages) → Type 0
AreApart [] = Unit {0}
AreApart (e ∷ es) = (lookup (eqb e.0) es ≡ None) × AreApart es

unlisted : (head : ℕ) (es : List (ℕ × HeadUsages)) → AllByRecursion (λ k. eqb head k ≡ false) (keys_of es) → lookup (eqb head) es ≡ None
unlisted head [] h = refl
unlisted head (e ∷ es) h = ap (λ b. cond b (Some e.1) (lookup (eqb head) es)) h.0 ∙ unlisted head es h.1

pub AreApart-distinct : (es : List (ℕ × HeadUsages)) → IsDistinct eqb (keys_of es) → AreApart es
unfolding IsDistinct
AreApart-distinct [] h = tt
AreApart-distinct (e ∷ es) h = (unlisted e.0 es h.0, AreApart-distinct es h.1)

-- one entry of those left is merged
pub merge-step : (es fs rest : List (ℕ × HeadUsages)) (head : ℕ) (more w : HeadUsages) → lookup (eqb head) rest ≡ None → ((q : ℕ) → lookup (eqb q) fs ≡ cond (eqb head q) (Some w) (lookup (eqb q) es))
    → ((kind : PathKind) → count_by w kind ≡ sticking_sum (entry_count es head kind) (count_by more kind))
    → (q : ℕ) (kind : PathKind) → sticking_sum (entry_count fs q kind) (entry_count rest q kind) ≡ sticking_sum (entry_count es q kind) (entry_count ((head, more) ∷ rest) q kind)
merge-step es fs rest head more w apart updates sums q kind = elim (cases_eq q head) [
  | inl e ↦
      let at = count-at es fs head w updates kind in
      let sum = sums kind in
      let none : entry_count rest head kind ≡ 0 = ap (λ o. count_by (unwrap_or o no_usages) kind) apart ∙ count-none kind in
      let listed : entry_count ((head, more) ∷ rest) head kind ≡ count_by more kind = ap (λ b. count_by (unwrap_or (cond b (Some more) (lookup (eqb head) rest)) no_usages) kind) (eq-eqb head head refl) in
      let there : sticking_sum (entry_count fs head kind) (entry_count rest head kind) ≡ sticking_sum (entry_count es head kind) (entry_count ((head, more) ∷ rest) head kind) = omega arith in
      subst (λ p. sticking_sum (entry_count fs p kind) (entry_count rest p kind) ≡ sticking_sum (entry_count es p kind) (entry_count ((head, more) ∷ rest) p kind)) (sym e) there
  | inr ne ↦
      let same = count-apart es fs head w updates q kind ne in
      let listed : entry_count ((head, more) ∷ rest) q kind ≡ entry_count rest q kind = ap (λ b. count_by (unwrap_or (cond b (Some more) (lookup (eqb q) rest)) no_usages) kind) (ne_eqb q head ne) in
      ap (λ n. sticking_sum n (entry_count rest q kind)) same ∙ ap (sticking_sum (entry_count es q kind)) (sym listed)
]

-- none is left
pub merge-end : (es : List (ℕ × HeadUsages)) → AllFit es → (q : ℕ) (kind : PathKind) → sticking_sum (entry_count es q kind) (entry_count [] q kind) ≡ entry_count es q kind
merge-end es fits q kind = let fit = fits q kind in omega (arith, count-none kind)

-- the same of the map that a contract sees
pub AllFit-shown : (es : List (ℕ × HeadUsages)) → AllFit es → (head : ℕ) (kind : PathKind) → usage_count (from_entries es) head kind < 2 ^ 32
AllFit-shown es fits head kind = let is = usage_count-entries es head kind in let fit = fits head kind in omega arith

pub AllFit-seen : (es : List (ℕ × HeadUsages)) → ((head : ℕ) (kind : PathKind) → usage_count (from_entries es) head kind < 2 ^ 32) → AllFit es
AllFit-seen es fits head kind = let is = usage_count-entries es head kind in let fit = fits head kind in omega arith

pub sticking_fits : (a b : ℕ) → sticking_sum a b < 2 ^ 32
sticking_fits a b = omega arith

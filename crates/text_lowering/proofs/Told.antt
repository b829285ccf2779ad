-- The header of an impl tells the kinds of its parameters.
use Rattle.std.proofs.Common.{◌≡◌, ℕ, zero, suc, ◌+◌, Bool, true, false, ◌&&◌, List, [], ◌∷◌, map, length, Some, refl, sym, ap, ◌∙◌, subst, arith}
use Rattle.std.proofs.lemmas.Bool.{eqb-true}
use Rattle.std.proofs.lemmas.Option.{same_Some}
use Rattle.std.specs.Prelude.{if◌then◌else◌, ◌==◌, slice_get}
use Rattle.type_terms.specs.Promised.Label.{Label, Sort, of_lifetime, of_type, of_const, param}
use Rattle.type_terms.specs.Promised.Trees.{Trees, some_node, is_sort}
use Rattle.infer_table.specs.declared.canonical.CanonicalVarKind.TheVariants.{Ty, Const, Region}
use Rattle.candidate_model.specs.Candidates.{is_this_param, kind_of_param, kinds_of_params}
use Rattle.text_lowering.specs.Promised.SeenWorlds.{plain, all_kept}
use Rattle.text_lowering.specs.Ready.{kind_of_sort}
use Rattle.text_lowering.proofs.Sorts.{is_bad}
use Rattle.text_lowering.proofs.Tests.{all_stand}
use Rattle.text_lowering.proofs.SeenViews.{some-weaker, sort-there, stands-by}
use Rattle.text_lowering.proofs.Headers.{still}
use Rattle.type_terms.proofs.NumberBasics.{zero-first}

not-both : (b : Bool) → b ≡ true → b ≡ false → ⊥
not-both true p q = absurd cc
not-both false p q = absurd cc

module _ (sorts : List Sort) (t : Trees) (good : some_node (is_bad sorts) t ≡ false) where
  -- a parameter does not stand there with another sort
  none-of : (r s : Sort) (i : ℕ) → slice_get sorts i ≡ Some s → is_sort r s ≡ false → some_node (is_this_param r i) t ≡ false
  none-of r s i e n = some-weaker (is_bad sorts) (is_this_param r i) not-here t good
    where
      not-here : (l : Label) → is_bad sorts l ≡ false → is_this_param r i l ≡ false
      not-here (param q j) h = by (is_sort r q) refl (i == j) refl
        where
          by : (a : Bool) → is_sort r q ≡ a → (b : Bool) → (i == j) ≡ b → a && b ≡ false
          by false u b v = refl
          by true u false v = refl
          by true u true v =
              absurd (not-both (is_sort r s) (subst (λ z. is_sort r z ≡ true) (same_Some q s (sym (sort-there sorts q j h) ∙ ap (slice_get sorts) (sym (eqb-true i j v)) ∙ e)) u) n)
      not-here l h = refl

module _ (header : Trees) (sorts : List Sort) (stand : all_stand header 0 sorts ≡ true) (good : some_node (is_bad sorts) (plain all_kept header) ≡ false) where
  abbrev H : Trees
  H = plain all_kept header

  stands : (s : Sort) (i : ℕ) → slice_get sorts i ≡ Some s → (s ≡ of_lifetime → ⊥) → some_node (is_this_param s i) H ≡ true
  stands s i e n = still s i header (subst (λ k. some_node (is_this_param s k) header ≡ true) (zero-first i) (stands-by header 0 sorts s i stand e n))

  kind-is : (i : ℕ) (s : Sort) → slice_get sorts i ≡ Some s → kind_of_sort s ≡ kind_of_param H i
  kind-is i of_type e = sym (ap (λ b. if b then Ty else if some_node (is_this_param of_const i) H then Const else Region) (stands of_type i e (λ q. absurd cc)))
  kind-is i of_const e =
      sym
      (ap (λ b. if b then Ty else if some_node (is_this_param of_const i) H then Const else Region) (none-of sorts H good of_type of_const i e refl)
      ∙ ap (λ b. if b then Const else Region) (stands of_const i e (λ q. absurd cc)))
  kind-is i of_lifetime e =
      sym
      (ap (λ b. if b then Ty else if some_node (is_this_param of_const i) H then Const else Region) (none-of sorts H good of_type of_lifetime i e refl)
      ∙ ap (λ b. if b then Const else Region) (none-of sorts H good of_const of_lifetime i e refl))

  kinds-from : (first : ℕ) (ss : List Sort) → ((k : ℕ) (s : Sort) → slice_get ss k ≡ Some s → kind_of_sort s ≡ kind_of_param H (first + k)) → map kind_of_sort ss ≡ kinds_of_params H first (length ss)
  kinds-from first [] f = refl
  kinds-from first (s ∷ ss) f =
      ap (λ k. k ∷ map kind_of_sort ss) (f zero s refl ∙ ap (kind_of_param H) (no-more first))
      ∙ ap (λ ks. kind_of_param H first ∷ ks) (kinds-from (suc first) ss (λ k r e. f (suc k) r e ∙ ap (kind_of_param H) (more first k)))
    where
      no-more : (n : ℕ) → n + zero ≡ n
      no-more n = omega arith

      more : (a i : ℕ) → a + suc i ≡ suc a + i
      more a i = omega arith

  pub kinds-told : map kind_of_sort sorts ≡ kinds_of_params H 0 (length sorts)
  kinds-told = kinds-from 0 sorts (λ k s e. kind-is k s e ∙ ap (kind_of_param H) (sym (zero-first k)))

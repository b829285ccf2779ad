-- What a map of traits lists once one more impl is put under one of them.
use Rattle.std.proofs.Common.{◌≡◌, Bool, true, false, cond, List, [], ◌∷◌, ◌++◌, Some, refl, sym, ap, ◌∙◌, if◌then◌else◌}
use Rattle.std.specs.Prelude.{◌==◌}
use Rattle.std.specs.Option.{option_map_or}
use Rattle.std.specs.HashMap.{HashMap, get_by}
use Rattle.std.specs.declared.vec.Vec.{Vec}
use Rattle.type_terms.proofs.Members.{same-number, self-number}
use Rattle.type_terms.specs.declared.ImplId.{ImplId}
use Rattle.type_terms.specs.declared.TraitId.{TraitId}
use Rattle.type_terms.specs.contracts.TraitIdPartialEq.TheImpl.{ghosts as trait-id}
use Rattle.declarations.proofs.Lookups.{lookup-agree}
use Rattle.pair_checks.specs.ByTrait.{is_trait}

trait-tells : (t u : TraitId) → trait-id.eq t u ≡ is_trait t u
trait-tells t u = refl

-- two equal traits are equal to the same ones
tests-agree : (t u : TraitId) → is_trait t u ≡ true → (v : TraitId) → is_trait t v ≡ is_trait u v
tests-agree t u e v = ap (λ n. n == v.index) (same-number t.index u.index e)

pub same-trait : (t u : TraitId) → u.index ≡ t.index → is_trait t u ≡ true
same-trait t u e = ap (λ n. t.index == n) e ∙ self-number t.index

module _ {A S : Type 0} where
  abbrev pub under : HashMap TraitId (Vec ImplId A) S → TraitId → List ImplId
  under m t = option_map_or (λ v. v.items) (get_by (is_trait t) m) []

  same-under : (m : HashMap TraitId (Vec ImplId A) S) (t u : TraitId) → is_trait t u ≡ true → under m t ≡ under m u
  same-under m t u e = ap (λ o. option_map_or (λ v. v.items) o []) (lookup-agree (is_trait t) (is_trait u) m.entries (tests-agree t u e))

  pub under-by : (m : HashMap TraitId (Vec ImplId A) S) (t : TraitId) → under m t ≡ option_map_or (λ v. v.items) (get_by (trait-id.eq t) m) []
  under-by m t = ap (λ o. option_map_or (λ v. v.items) o []) (sym (lookup-agree (trait-id.eq t) (is_trait t) m.entries (trait-tells t)))

  -- each trait has what it had, but t has w
  abbrev pub Changes : HashMap TraitId (Vec ImplId A) S → HashMap TraitId (Vec ImplId A) S → TraitId → Vec ImplId A → Type 0
  Changes m n t w = (u : TraitId) → get_by (trait-id.eq u) n ≡ cond (trait-id.eq t u) (Some w) (get_by (trait-id.eq u) m)

  changed : (m n : HashMap TraitId (Vec ImplId A) S) (t : TraitId) (w : Vec ImplId A) → Changes m n t w → (u : TraitId) → under n u ≡ cond (is_trait t u) w.items (under m u)
  changed m n t w c u =
      under-by n u ∙ ap (λ o. option_map_or (λ v. v.items) o []) (c u) ∙ by (trait-id.eq t u)
      ∙ ap (λ b. cond b w.items (under m u)) (trait-tells t u)
    where
      by : (b : Bool) → option_map_or (λ v. v.items) (cond b (Some w) (get_by (trait-id.eq u) m)) [] ≡ cond b w.items (under m u)
      by true = refl
      by false = sym (under-by m u)

  pub one-more-under : (m n : HashMap TraitId (Vec ImplId A) S) (t : TraitId) (w : Vec ImplId A) (i : ImplId) → Changes m n t w → w.items ≡ under m t ++ i ∷ []
      → (u : TraitId) → under n u ≡ (if is_trait t u then under m u ++ i ∷ [] else under m u)
  one-more-under m n t w i c more u = changed m n t w c u ∙ by (is_trait t u) refl
    where
      by : (b : Bool) → is_trait t u ≡ b → cond b w.items (under m u) ≡ cond b (under m u ++ i ∷ []) (under m u)
      by true e = more ∙ ap (λ l. l ++ i ∷ []) (same-under m t u e)
      by false e = refl

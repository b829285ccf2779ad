-- In a world that lists auto traits in one order no two lists have the same members.
use Rattle.std.proofs.Common.{◌≡◌, ℕ, zero, suc, ◌<◌, true, ap, sym, ◌∙◌, subst, ◌⊎◌, inl, inr, arith, leb}
use Rattle.std.proofs.lemmas.Bool.Decides.{nat_tests}
use Rattle.type_terms.specs.Promised.Label.{auto_trait}
use Rattle.type_terms.specs.Promised.Trees.{Trees, none, tree}
use Rattle.type_terms.specs.Promised.Proofs.{In}
use Rattle.type_terms.specs.Promised.LinkedSet.{autos_rise}
use Rattle.type_terms.specs.Promised.Arranging.{autos_in, with_autos, arranged}
use Rattle.type_terms.specs.Arranging.{RisesBy}
use Rattle.type_terms.specs.ArrangingLaws.{OneOrderIsOneList}
use Rattle.type_terms.proofs.Members.{in-cases, in-nothing}
use Rattle.type_terms.proofs.Walking.{left, right}
use Rattle.type_terms.proofs.ArrangedTrees.{autos-now}
use Rattle.type_terms.proofs.TwoOrders.{each-of, unique}

no-less : (a b : ℕ) → leb a b ≡ true → a < suc b
no-less a b h = grind (arith, nat_tests)

-- what rises from n on
from-on : (n : ℕ) (t : Trees) → autos_rise n t ≡ true → (m : ℕ) → In m (autos_in t) → n < suc m
from-on n none h m k = absurd (in-nothing m k)
from-on n (tree (auto_trait t) c o) h m k = by (in-cases m t (autos_in o) k) (from-on (suc t) o (right (leb n t) _ h) m)
  where
    first : n < suc t
    first = no-less n t (left (leb n t) _ h)

    by : (t ≡ m) ⊎ In m (autos_in o) → (In m (autos_in o) → suc t < suc m) → n < suc m
    by (inl e) f = subst (λ x. n < suc x) e first
    by (inr g) f = let q = f g in omega (arith, first, q)
from-on n (tree l c o) h m k = from-on n o h m k

list-rises : (n : ℕ) (t : Trees) → autos_rise n t ≡ true → RisesBy (λ m. m) (autos_in t)
list-rises n none h = tt
list-rises n (tree (auto_trait t) c o) h = (each-of (λ m. t < m) (autos_in o) (λ m k. later m (from-on (suc t) o (right (leb n t) _ h) m k)), list-rises (suc t) o (right (leb n t) _ h))
  where
    later : (m : ℕ) → suc t < suc m → t < m
    later m g = omega (arith, g)
list-rises n (tree l c o) h = list-rises n o h

pub one-list : OneOrderIsOneList
one-list α c d rc rd s =
    sym (α.back_to (autos_in c))
    ∙ ap α.back (unique (λ m. m) (α.to (autos_in c)) (α.to (autos_in d)) (rise c rc) (rise d rd)
    (λ x h. (α.same_traits (autos_in d)).0 x (s.0 x ((α.same_traits (autos_in c)).1 x h)))
    (λ x h. (α.same_traits (autos_in c)).0 x (s.1 x ((α.same_traits (autos_in d)).1 x h))))
    ∙ α.back_to (autos_in d)
  where
    rise : (e : Trees) → autos_rise zero (with_autos (α.to (autos_in e)) (arranged α e)) ≡ true → RisesBy (λ m. m) (α.to (autos_in e))
    rise e h = subst (RisesBy (λ m. m)) (autos-now α e) (list-rises zero (with_autos (α.to (autos_in e)) (arranged α e)) h)

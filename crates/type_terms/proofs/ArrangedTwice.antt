-- Two arrangements one after the other: a world that lists auto traits in one order does so after an arrangement.
use Rattle.std.proofs.Common.{◌≡◌, ℕ, Bool, true, List, refl, ap, sym, ◌∙◌, ◌&&◌, map}
use Rattle.std.specs.List.{list_all}
use Rattle.type_terms.specs.Promised.Label.{dynamic}
use Rattle.type_terms.specs.Promised.Trees.{Trees, none, tree}
use Rattle.type_terms.specs.Promised.Worlds.{World, Reference, StructDecl, TraitDecl, ImplDecl}
use Rattle.type_terms.specs.Promised.LinkedSet.{dyns_rise, DynsInOneOrder}
use Rattle.type_terms.specs.LinkedSet.{all_args, all_written}
use Rattle.type_terms.specs.Promised.Arranging.{Arrangement, autos_in, with_autos, arranged, arranged_reference, arranged_struct, arranged_trait, arranged_impl, arranged_world}
use Rattle.type_terms.proofs.RenumberedTrees.{and-same}
use Rattle.type_terms.proofs.RenumberedRules.{all-over}
use Rattle.type_terms.proofs.ArrangedTrees.{fill-own, fill-fill, over-fill, autos-now, as-many}
use Rattle.type_terms.proofs.TermBasics.{node}
use Rattle.type_terms.proofs.JoinedParts.{each-written, all-written}

-- As they are listed
abbrev as-listed : Arrangement
as-listed = record {
  to = λ ns. ns;
  back = λ ns. ns;
  back_to = λ ns. refl;
  to_back = λ ns. refl;
  as_long = λ ns. refl;
  as_long_back = λ ns. refl;
  same_traits = λ ns. ((λ n h. h), (λ n h. h));
  same_traits_back = λ ns. ((λ n h. h), (λ n h. h));
}

listed : (t : Trees) → arranged as-listed t ≡ t
listed none = refl
listed (tree dynamic c o) = node refl (ap (with_autos (autos_in c)) (listed c) ∙ fill-own c) (listed o)
listed (tree l c o) = node refl (listed c) (listed o)

-- From the order that α leads to, to the one that β leads to
abbrev from : Arrangement → Arrangement → Arrangement
from α β = record {
  to = λ ns. β.to (α.back ns);
  back = λ ns. α.to (β.back ns);
  back_to = λ ns. ap α.to (β.back_to (α.back ns)) ∙ α.to_back ns;
  to_back = λ ns. ap β.to (α.back_to (β.back ns)) ∙ β.to_back ns;
  as_long = λ ns. β.as_long (α.back ns) ∙ α.as_long_back ns;
  as_long_back = λ ns. α.as_long (β.back ns) ∙ β.as_long_back ns;
  same_traits = λ ns. ((λ n h. (β.same_traits (α.back ns)).0 n ((α.same_traits_back ns).0 n h)), (λ n h. (α.same_traits_back ns).1 n ((β.same_traits (α.back ns)).1 n h)));
  same_traits_back = λ ns. ((λ n h. (α.same_traits (β.back ns)).0 n ((β.same_traits_back ns).0 n h)), (λ n h. (β.same_traits_back ns).1 n ((α.same_traits (β.back ns)).1 n h)));
}

led-on : (α β : Arrangement) (t : Trees) → arranged (from α β) (arranged α t) ≡ arranged β t
led-on α β none = refl
led-on α β (tree dynamic c o) =
    node refl
    (ap (λ ns. with_autos (β.to (α.back ns)) (arranged (from α β) (with_autos xs (arranged α c)))) (autos-now α c)
    ∙ ap (λ ns. with_autos (β.to ns) (arranged (from α β) (with_autos xs (arranged α c)))) (α.back_to (autos_in c))
    ∙ ap (with_autos (β.to (autos_in c))) (over-fill (from α β) xs (arranged α c) ∙ ap (with_autos xs) (led-on α β c))
    ∙ fill-fill (β.to (autos_in c)) xs (arranged β c) (as-many β c))
    (led-on α β o)
  where
    xs : List ℕ
    xs = α.to (autos_in c)
led-on α β (tree l c o) = node refl (led-on α β c) (led-on α β o)

-- A test of all that is written in the other order is one of all that is written
pub written-over : (α : Arrangement) (W : World) (p q : Trees → Bool) → ((t : Trees) → p (arranged α t) ≡ q t) → all_written p (arranged_world α W) ≡ all_written q W
written-over α W p q h =
    and-same (all-over (arranged_struct α) (λ (x : StructDecl). list_all p x.fields) (λ (x : StructDecl). list_all q x.fields) (λ x. all-over (arranged α) p q h x.fields) W.structs)
    (and-same (all-over (arranged_trait α) (λ (x : TraitDecl). all_args p x.bounds) (λ (x : TraitDecl). all_args q x.bounds) (λ x. args x.bounds) W.traits)
    (all-over (arranged_impl α) (λ (i : ImplDecl). p i.header.args && all_args p i.clauses) (λ (i : ImplDecl). q i.header.args && all_args q i.clauses) (λ i. and-same (h i.header.args) (args i.clauses)) W.impls))
  where
    args : (rs : List Reference) → all_args p (map (arranged_reference α) rs) ≡ all_args q rs
    args rs = all-over (arranged_reference α) (λ (r : Reference). p r.args) (λ (r : Reference). q r.args) (λ r. h r.args) rs

-- By their numbers they stand in one order
pub rising-in-order : (W : World) → all_written dyns_rise W ≡ true → DynsInOneOrder W
rising-in-order W h = (as-listed, each-written dyns_rise (arranged_world as-listed W) (written-over as-listed W dyns_rise dyns_rise (λ t. ap dyns_rise (listed t)) ∙ h))

pub order-stays : (α : Arrangement) (W : World) → DynsInOneOrder W → DynsInOneOrder (arranged_world α W)
order-stays α W (β, h) = (
  from α β,
  each-written dyns_rise (arranged_world (from α β) (arranged_world α W))
      (written-over (from α β) (arranged_world α W) dyns_rise (λ t. dyns_rise (arranged (from α β) t)) (λ t. refl)
      ∙ written-over α W (λ t. dyns_rise (arranged (from α β) t)) (λ t. dyns_rise (arranged β t)) (λ t. ap dyns_rise (led-on α β t))
      ∙ sym (written-over β W dyns_rise (λ t. dyns_rise (arranged β t)) (λ t. refl)) ∙ all-written dyns_rise (arranged_world β W) h),
)

-- What holds after auto traits are arranged, and an example.
use Rattle.std.proofs.Common.{◌≡◌, ℕ, zero, suc, List, [], ◌∷◌, refl, length, subst}
use Rattle.type_terms.specs.Promised.Worlds.{CrateDecl, TraitDecl, view_of}
use Rattle.type_terms.specs.Promised.Proofs.{In}
use Rattle.type_terms.specs.Promised.Core.{core_world}
use Rattle.type_terms.specs.Worked.{auto_trait_of, text_with_left_first}
use Rattle.type_terms.specs.Promised.Arranging.{Arrangement, arranged_world}
use Rattle.type_terms.specs.ArrangingLaws.{ArrangingCarriesOver, HoldsInOrder, OppositeOrdersOfOneDyn, text_with_both_right_first, set_with_left_first}
use Rattle.type_terms.proofs.ArrangedRules.{rules-arranged, over-supers}
use Rattle.type_terms.proofs.ArrangedProofs.{bound-world, proof-arranged, proof-unarranged}
use Rattle.type_terms.proofs.ArrangedAnswers.{known-same, bounded-same, possible-same, over-common}
use Rattle.type_terms.specs.Renumbering.{as_they_are}
use Rattle.type_terms.specs.Promised.Renumbering.{View, HoldsView}
use Rattle.type_terms.proofs.Members.{in-nothing}
use Rattle.type_terms.proofs.SupersProved.{CoreLike}
use Rattle.type_terms.proofs.CoreLinked.{Tested, autos-bare, tested-linked}
use Rattle.type_terms.proofs.Inhabited.{beside-core-supers}
use Rattle.type_terms.proofs.ViewLaws.{as-it-was}
use Rattle.type_terms.proofs.TwoTexts.{turned, by-lists, with-answers, swapped-named, different, core-stays, below-twenty}

pub arranging-carries-over : ArrangingCarriesOver
arranging-carries-over α V h =
    let w = bound-world V h in
    record {
      rules_there = rules-arranged α V w;
      supertraits = over-supers α V w;
      proof_there = proof-arranged α V w;
      proof_back = proof-unarranged α V h;
      known = known-same α V w;
      bounded = bounded-same α V h;
      possible = possible-same α V h;
      common = λ i j m k. over-common α i j (w.headers i m) (w.headers j k);
    }

-- Lists of two turned round, and each other list as it is
turn : List ℕ → List ℕ
turn (x ∷ y ∷ []) = y ∷ x ∷ []
turn ns = ns

turn-back : (ns : List ℕ) → turn (turn ns) ≡ ns
unfolding turn
turn-back [] = refl
turn-back (x ∷ []) = refl
turn-back (x ∷ y ∷ []) = refl
turn-back (x ∷ y ∷ z ∷ ns) = refl

turn-length : (ns : List ℕ) → length (turn ns) ≡ length ns
unfolding turn
turn-length [] = refl
turn-length (x ∷ []) = refl
turn-length (x ∷ y ∷ []) = refl
turn-length (x ∷ y ∷ z ∷ ns) = refl

turn-in : (ns : List ℕ) (n : ℕ) → In n ns → In n (turn ns)
unfolding turn
turn-in [] n h = h
turn-in (x ∷ []) n h = h
turn-in (x ∷ y ∷ []) n (zero, e) = (1, e)
turn-in (x ∷ y ∷ []) n (suc zero, e) = (0, e)
turn-in (x ∷ y ∷ []) n (suc (suc k), e) = (suc (suc k), e)
turn-in (x ∷ y ∷ z ∷ ns) n h = h

turned-round : Arrangement
turned-round = record {
  to = turn;
  back = turn;
  back_to = turn-back;
  to_back = turn-back;
  as_long = turn-length;
  as_long_back = turn-length;
  same_traits = λ ns. (turn-in ns, λ n h. subst (In n) (turn-back ns) (turn-in (turn ns) n h));
  same_traits_back = λ ns. (turn-in ns, λ n h. subst (In n) (turn-back ns) (turn-in (turn ns) n h));
}

-- The set is linked, and holds both users
tested : Tested set_with_left_first
tested = record {
  terms = refl;
  core_there = refl;
  structs = refl;
  traits = refl;
  impls = refl;
  headers = refl;
  autos = refl;
  not_of_autos = refl;
  bounds = refl;
  clauses = refl;
  fields = refl;
  dyns = refl;
  plain_headers = refl;
  covered = refl;
  sized_alone = refl;
  dyns_hold_bounds = refl;
  uses = refl;
  orphans = refl;
}

core-like : CoreLike set_with_left_first
core-like = record {
  of_sized = λ a. refl;
  of_unsize = λ a. refl;
  of_tuple = λ a. refl;
  of_fn_ptr = λ a. refl;
  of_fn_once = λ a. refl;
  of_fn_mut = λ a. refl;
  of_fn = λ a. refl;
  of_clone = λ a. refl;
  of_copy = λ a. refl;
  clone_not_auto = refl;
  copy_not_auto = refl;
  autos_bare = autos-bare set_with_left_first tested;
}

left-view : View
left-view = record { numbers = as_they_are; asker = 3; world = text_with_left_first }

right-view : View
right-view = record { numbers = turned; asker = 3; world = text_with_both_right_first }

left-stands : HoldsView set_with_left_first left-view
unfolding left-view
left-stands =
    as-it-was set_with_left_first left-view
    (by-lists as_they_are text_with_left_first (view_of set_with_left_first 3) refl refl (λ t h. refl) (λ n. refl) (λ n. refl) (λ n. refl) refl refl)

right-stands : HoldsInOrder set_with_left_first turned-round right-view
unfolding turn turned-round right-view
right-stands =
    as-it-was (arranged_world turned-round set_with_left_first) right-view
    (by-lists turned text_with_both_right_first (view_of (arranged_world turned-round set_with_left_first) 4) refl refl (λ t h. core-stays t (below-twenty t h))
    (λ n. swapped-named (λ (x : CrateDecl). x.name) (record { name = 1; uses = [] }) (record { name = 2; uses = [] }) (record { name = 4; uses = 2 ∷ 1 ∷ [] } ∷ []) (different 1 2 refl) n core_world.crates) (λ n. refl)
    (λ n. swapped-named (λ (x : TraitDecl). x.name) (auto_trait_of 20 1) (auto_trait_of 21 2) [] (different 20 21 refl) n core_world.traits) refl refl)

pub opposite-orders-of-one-dyn : OppositeOrdersOfOneDyn
unfolding turn turned-round left-view right-view
opposite-orders-of-one-dyn = (
  turned-round,
  as_they_are,
  turned,
  refl,
  refl,
  refl,
  with-answers set_with_left_first (left-view ∷ []) (λ n. n)
      (tested-linked set_with_left_first tested (beside-core-supers set_with_left_first core-like refl [] refl (λ i h A. absurd (in-nothing i h)))) (left-stands, tt),
  right-stands,
)

-- The pairs of an impl: where those with a common instance are passed, all are.
use Rattle.std.proofs.Common.{◌≡◌, ◌==◌, ℕ, Bool, true, false, List, [], ◌∷◌, None, map, subst, sym, ◌∙◌, ◌⊎◌, inl, inr, refl}
use Rattle.type_terms.specs.Promised.Proofs.{In}
use Rattle.type_terms.proofs.ProofEntries.{map-in}
use Rattle.type_terms.proofs.Members.{here, there, in-cases, in-nothing, same-number, self-number}
use Rattle.type_terms.specs.declared.ImplId.{ImplId}
use Rattle.declarations.specs.Promised.Elaboration.{Each}
use Rattle.overlap_check.specs.SessionLaws.{IsPassed}
use Rattle.pair_checks.specs.ByTrait.{HasNumber, ListsImpls}
use Rattle.sessions.specs.Checking.{HasPartner, ListsSeen, HavePartnersSeen}
use Rattle.sessions.specs.Promised.Promises.{view_in}
use Rattle.sessions.specs.Promised.Subjects.{Subject, StaysOn}
use Rattle.pair_checks.specs.declared.by_trait.ImplsByTrait.{ImplsByTrait}
use Rattle.sessions.proofs.CheckedSubjects.{Passed}
use Rattle.pair_checks.proofs.Lists.{in-list}

pub lists-still : (a b : Subject) → StaysOn a b → (m : ImplsByTrait) → ListsSeen a m → ListsSeen b m
lists-still a b f m h =
    subst (λ d. ListsImpls (view_in d b.of_crate) b.of_crate m) (sym f.declarations) (subst (λ c. ListsImpls (view_in a.declarations c) c m) (sym f.of_crate) h)

-- a number is in a list or not
in-or-not : (k : ℕ) (ns : List ℕ) → In k ns ⊎ (In k ns → ⊥)
in-or-not k [] = inr (in-nothing k)
in-or-not k (n ∷ ns) = by (n == k) refl (in-or-not k ns)
  where
    by : (b : Bool) → (n == k) ≡ b → In k ns ⊎ (In k ns → ⊥) → In k (n ∷ ns) ⊎ (In k (n ∷ ns) → ⊥)
    by true e o = inl (subst (λ z. In z (n ∷ ns)) (same-number n k e) (here n ns))
    by false e (inl i) = inl (there k n ns i)
    by false e (inr f) = inr (λ i. apart (in-cases k n ns i))
      where
        apart : (n ≡ k) ⊎ In k ns → ⊥
        apart (inl q) = let clash : true ≡ false = sym (subst (λ z. (n == z) ≡ true) q (self-number n)) ∙ e in cc
        apart (inr j) = f j

pub all-partners-passed : (s : Subject) (k : ℕ) (ids : List ImplId) → HavePartnersSeen s k ids → Each (λ (i : ImplId). Passed s k i.index) ids → (n : ℕ) → HasPartner s n k None
all-partners-passed s k ids have passed n j lt x y p = by (in-or-not y.name (map (λ (i : ImplId). i.index) ids))
  where
    by : HasNumber y.name ids ⊎ (HasNumber y.name ids → ⊥) → IsPassed (view_in s.declarations s.of_crate) s.of_crate x y
    by (inl h) =
        let i = map-in (λ (z : ImplId). z.index) ids y.name h in
        in-list (λ (z : ImplId). Passed s k z.index) ids i.0 passed i.1 x y (record { pair = p.pair; later = p.later; earlier = sym i.2 })
    by (inr f) = inl (λ m. f (have x y p.pair p.later m))

-- Steps that follow each are a proof.
use Rattle.std.proofs.Common.{◌≡◌, ◌<◌, ℕ, zero, suc, ◌+◌, List, [], ◌∷◌, ◌++◌, length, map, take, refl, ap, sym, subst, Some, arith, get_or, if◌then◌else◌, ◌⊎◌, inl, inr}
use Rattle.std.specs.Prelude.{IfSome}
use Rattle.std.specs.List.{slice_get}
use Rattle.type_terms.specs.Promised.Worlds.{World, Reference}
use Rattle.type_terms.specs.Promised.Rules as rule
use Rattle.type_terms.specs.Promised.Rules.{is_coinductive}
use Rattle.type_terms.specs.Promised.Proofs as proofs
use Rattle.type_terms.specs.Promised.Proofs.{In, Every}
use Rattle.type_terms.specs.Promised.Handles.{Entry}
use Rattle.proof_checker.specs.declared.steps.Step.{Step}
use Rattle.proof_checker.specs.Checked.{StepHasRule, IsRuleByWay, PremisesStand}
use Rattle.proof_checker.specs.Steps.{term_of, steps_say, at_places, assumed_in, IsWayOf, AreEntriesOf, AreProof}
use Rattle.proof_checker.proofs.Following.{FollowsAt, is-proof}
use Rattle.proof_checker.proofs.Places.{said-at}

-- the step follows by its place
pub record StepFollows (W : World) (E : List Reference) (es : List Entry) (rs : List Reference) (i : ℕ) (s : Step) : Type 0 where
  pub rule : StepHasRule W E es rs s
  pub stand : PremisesStand W rs i s.reference.def_id.index (at_places rs s.premises.items)

module _ (W : World) (es : List Entry) (ss : List Step) (k : ℕ) (s : Step) (l : k < length ss) (e : s ≡ get_or ss k s) (ps : List Reference) (q : at_places (steps_say es ss) s.premises.items ≡ ps) where
  -- the step at the place has this rule instance
  pub rule-at : (E : List Reference) (w : rule.Way) → IsWayOf s.way w → IsRuleByWay W E (term_of es s.reference) w ps → IfSome (slice_get ss k) (StepHasRule W E es (steps_say es ss))
  rule-at E w y i = said-at (StepHasRule W E es (steps_say es ss)) ss k s l e (record { way = w; of_step = y; rule = subst (IsRuleByWay W E (term_of es s.reference) w) (sym q) i })

  -- its premises stand
  pub stand-at : Every (λ p. In p (if is_coinductive W s.reference.def_id.index then steps_say es ss else take k (steps_say es ss))) ps
      → IfSome (slice_get ss k) (λ x. PremisesStand W (steps_say es ss) k x.reference.def_id.index (at_places (steps_say es ss) x.premises.items))
  stand-at h =
      said-at (λ (x : Step). PremisesStand W (steps_say es ss) k x.reference.def_id.index (at_places (steps_say es ss) x.premises.items)) ss k s l e
      (subst (PremisesStand W (steps_say es ss) k s.reference.def_id.index) (sym q) h)

pub get-below : (ss : List Step) (i : ℕ) (s : Step) → slice_get ss i ≡ Some s → i < length ss
get-below [] i s e = absurd cc
get-below (x ∷ ss) zero s e = omega arith
get-below (x ∷ ss) (suc i) s e = let r = get-below ss i s e in omega (arith, r)

-- the entries of steps, from place j on
record Entries (W : World) (E : List Reference) (es : List Entry) (rs : List Reference) (j : ℕ) (ss : List Step) : Type 0 where
  entries : List proofs.ProofEntry
  are : AreEntriesOf es rs ss entries
  follow : FollowsAt W E rs j entries
  say : map (λ (e : proofs.ProofEntry). e.of) entries ≡ steps_say es ss

entry-of : (W : World) (E : List Reference) (es : List Entry) (rs : List Reference) (s : Step) → StepHasRule W E es rs s → proofs.ProofEntry
entry-of W E es rs s h = record { of = term_of es s.reference; rule = record { way = h.way; premises = at_places rs s.premises.items } }

from : (W : World) (E : List Reference) (es : List Entry) (rs : List Reference) (j : ℕ) (ss : List Step)
    → ((i : ℕ) (s : Step) (n : ℕ) → n ≡ j + i → slice_get ss i ≡ Some s → StepFollows W E es rs n s) → Entries W E es rs j ss
unfolding entry-of
from W E es rs j [] f = record { entries = []; are = tt; follow = tt; say = refl }
from W E es rs j (s ∷ ss) f =
    let h = f 0 s j (omega arith) refl in
    let r = from W E es rs (suc j) ss (λ i x n e g. f (suc i) x n (omega (arith, e)) g) in
    record {
      entries = entry-of W E es rs s h.rule ∷ r.entries;
      are = (record { of = refl; way = h.rule.of_step; premises = refl }, r.are);
      follow = (h.rule.rule, h.stand, r.follow);
      say = ap (λ l. term_of es s.reference ∷ l) r.say;
    }

pub are-proof : (es : List Entry) (W : World) (E : List Reference) (ss : List Step)
    → ((i : ℕ) (s : Step) → slice_get ss i ≡ Some s → StepFollows W (E ++ assumed_in es ss) es (steps_say es ss) i s) → AreProof es W E ss
are-proof es W E ss f =
    let r = from W (E ++ assumed_in es ss) es (steps_say es ss) 0 ss (λ i s n e g. let q : i ≡ n = omega (arith, e) in subst (λ m. StepFollows W (E ++ assumed_in es ss) es (steps_say es ss) m s) q (f i s g)) in
    record {
      entries = r.entries;
      are = r.are;
      proof = is-proof W (E ++ assumed_in es ss) r.entries (subst (λ l. FollowsAt W (E ++ assumed_in es ss) l 0 r.entries) (sym r.say) r.follow);
    }

-- what follows does so by the same terms of another interner
pub moved : (W V : World) (E D : List Reference) (es fs : List Entry) (rs ss : List Reference) (i : ℕ) (s : Step) → W ≡ V → E ≡ D → term_of es s.reference ≡ term_of fs s.reference → rs ≡ ss
    → StepFollows W E es rs i s → StepFollows V D fs ss i s
moved W V E D es fs rs ss i s p q t r h = record {
  rule = record {
    way = h.rule.way;
    of_step = h.rule.of_step;
    rule = subst (λ x. IsRuleByWay x D (term_of fs s.reference) h.rule.way (at_places ss s.premises.items)) p
        (subst (λ x. IsRuleByWay W x (term_of fs s.reference) h.rule.way (at_places ss s.premises.items)) q
        (subst (λ x. IsRuleByWay W E x h.rule.way (at_places ss s.premises.items)) t
        (subst (λ x. IsRuleByWay W E (term_of es s.reference) h.rule.way (at_places x s.premises.items)) r h.rule.rule)));
  };
  stand = subst (λ x. PremisesStand x ss i s.reference.def_id.index (at_places ss s.premises.items)) p
      (subst (λ x. PremisesStand W x i s.reference.def_id.index (at_places x s.premises.items)) r h.stand);
}

pub one-more-place : (i n : ℕ) → i < n + 1 → (i < n) ⊎ (i ≡ n)
one-more-place zero zero h = inr refl
one-more-place zero (suc n) h = inl (omega arith)
one-more-place (suc i) zero h = absurd (omega (arith, h))
one-more-place (suc i) (suc n) h = by (one-more-place i n (omega (arith, h)))
  where
    by : (i < n) ⊎ (i ≡ n) → (suc i < suc n) ⊎ (suc i ≡ suc n)
    by (inl g) = inl (omega (arith, g))
    by (inr g) = inr (ap suc g)

-- Calls as data, and the numbers that they give.
use Rattle.std.specs.Prelude.{IfErr, IfOk, IsErrAnd, OnErr, OnOk}
use Rattle.std.proofs.Common.{◌≡◌, ◌∙◌, ◌≤◌, ℕ, Bool, true, false, arith, refl, sym, ap, subst, List, [], ◌∷◌, ◌++◌, length, Option, Some, None, Result, Ok, Err}
use Rattle.type_terms.specs.declared.Fault.{Fault}
use Rattle.type_terms.specs.declared.Fault.TheVariants.{Full}
use Rattle.fulfillment.specs.declared.obligation.Obligation.{Obligation}
use Rattle.fulfillment.specs.declared.obligation.ObligationId.{ObligationId}
use Rattle.fulfillment.specs.declared.selecting.Selected.{Selected}
use Rattle.fulfillment.specs.declared.selecting.Selected.TheVariants.{AllDone, Pending, Refused}
use Rattle.sessions.specs.Promised.Shortages.{IsAtLimit}
use Rattle.sessions.specs.Promised.Subjects.{Subject, StaysOn}
use Rattle.inference.specs.Inferring.{HasGrownFrom}
use Rattle.inference.specs.declared.context.Infer.{Infer}
use Rattle.session_inference.specs.Contexts.{IsAskedFurtherIn}
use Rattle.session_inference.specs.Inferences.{AsksFurther, HasAssumed, Inference, InfersOn}
use Rattle.session_inference.specs.declared.assumption.Assumption.{Assumption}
use Rattle.session_inference.specs.declared.term_id.TermId.{TermId}
use Rattle.type_terms.specs.declared.TraitId.{TraitId}
use Rattle.session_inference.specs.Operations.{IsNumberOfSelected, StandsAs, StaysAsItWas, yes_number}
use Rattle.session_inference.proofs.Inferences.{goes-on-itself}
use Rattle.session_inference.specs.declared.error.InferenceError.{InferenceError}
use Rattle.session_inference.specs.declared.error.InferenceError.TheVariants as error

-- a fault that `?` hands on
pub residual-full : {B : Type 0} (s : Subject) (r : Result B InferenceError) (x : Fault) → IsErrAnd r (λ y. y ≡ error.Fault x) → (x ≡ Full → IsAtLimit s) → IfErr r (λ e. e ≡ error.Fault Full → IsAtLimit s)
residual-full s (Ok y) x h f = tt
residual-full s (Err y) x h f = λ q. f (by x (sym h ∙ q))
  where
    by : (z : Fault) → error.Fault z ≡ error.Fault Full → z ≡ Full
    by z e = cc

-- yes and no
pub yes-no : (b : Bool) (n : ℕ) (P Q : Type 0) → n ≡ yes_number b → (b ≡ true → P) → (b ≡ false → Q) → (n ≡ 1 → P) × (n ≡ 0 → Q)
yes-no true n P Q e p q = (λ h. p refl, λ h. absurd (omega (arith, e, h)))
yes-no false n P Q e p q = (λ h. absurd (omega (arith, e, h)), λ h. q refl)

pub can-number : {E : Type 0} (b : Bool) (r : Result Bool E) (n : ℕ) (P Q : Type 0) → n ≡ yes_number b → r ≡ Ok b → (r ≡ Ok true → P) → (r ≡ Ok false → Q) → (n ≡ 1 → P) × (n ≡ 0 → Q)
can-number b r n P Q e is p q = yes-no b n P Q e (λ h. p (is ∙ ap Ok h)) (λ h. q (is ∙ ap Ok h))

-- how a selection ends
pub select-number : {E : Type 0} (x : Option Selected) (r : Result (Option Selected) E) (n : ℕ) (P Q S R : Type 0) → IsNumberOfSelected x n → r ≡ Ok x → (r ≡ Ok (Some AllDone) → P) → (r ≡ Ok (Some Pending) → Q)
    → (r ≡ Ok None → S) → ((id : ObligationId) → r ≡ Ok (Some (Refused id)) → R) → (n ≡ 0 → P) × (n ≡ 1 → Q) × (n ≡ 2 → S) × (3 ≤ n → R)
select-number (Some AllDone) r n P Q S R e is p q s f = (λ h. p is, λ h. absurd (omega (arith, e, h)), λ h. absurd (omega (arith, e, h)), λ h. absurd (omega (arith, e, h)))
select-number (Some Pending) r n P Q S R e is p q s f = (λ h. absurd (omega (arith, e, h)), λ h. q is, λ h. absurd (omega (arith, e, h)), λ h. absurd (omega (arith, e, h)))
select-number None r n P Q S R e is p q s f = (λ h. absurd (omega (arith, e, h)), λ h. absurd (omega (arith, e, h)), λ h. s is, λ h. absurd (omega (arith, e, h)))
select-number (Some (Refused id)) r n P Q S R e is p q s f = (λ h. absurd (omega (arith, e, h)), λ h. absurd (omega (arith, e, h)), λ h. absurd (omega (arith, e, h)), λ h. f id is)

-- how an obligation stands
pub stands-too : {A : Type 0} (os ps : List Obligation) (id : ObligationId) (r : Result ℕ InferenceError) (v : A) → os ≡ ps → IfOk r (StandsAs os id) → IfOk r (λ n. StandsAs ps id n × (v ≡ v))
stands-too os ps id (Ok n) v same h = (subst (λ (qs : List Obligation). StandsAs qs id n) same h, refl)
stands-too os ps id (Err e) v same h = tt

pub lacks-obligation : (os ps : List Obligation) (id : ObligationId) (r : Result ℕ InferenceError) → os ≡ ps → r ≡ Err error.NoSuchTerm → OnErr r (length os ≤ id.index) → length ps ≤ id.index
lacks-obligation os ps id r same e h = subst (λ (qs : List Obligation). length qs ≤ id.index) same (subst (λ z. OnErr z (length os ≤ id.index)) e h)

-- ---- calls that fail
-- a fault is no missing term
pub residual-there : {B : Type 0} (r : Result B InferenceError) (x : Fault) (P : Type 0) → IsErrAnd r (λ y. y ≡ error.Fault x) → r ≡ Err error.NoSuchTerm → P
residual-there (Ok y) x P h q = absurd h
residual-there (Err y) x P h q = absurd cc

-- ---- calls that leave the session and the context alone
module _ (v w : Inference) (subject : w.subject ≡ v.subject) (context : w.context ≡ v.context) where
  pub alone-goes-on : w.snapshots ≡ v.snapshots → w.assumptions ≡ v.assumptions → InfersOn v w
  alone-goes-on snapshots assumptions = record {
    stays = subst (λ (s : Subject). StaysOn v.subject s) (sym subject) (goes-on-itself v).stays;
    grows = subst (λ (i : Infer). HasGrownFrom v.context i) (sym context) (goes-on-itself v).grows;
    snapshots = snapshots;
    assumptions = assumptions;
  }

  pub alone-still : AsksFurther [] v w
  alone-still =
      subst (λ (s : Subject). IsAskedFurtherIn [] v.subject v.context s w.context) (sym subject)
      (subst (λ (i : Infer). IsAskedFurtherIn [] v.subject v.context v.subject i) (sym context) (λ own asked f. f))

pub alone-stays : (v w : Inference) → w.subject ≡ v.subject → w.context ≡ v.context → w.terms ≡ v.terms → w.snapshots ≡ v.snapshots → w.assumptions ≡ v.assumptions → StaysAsItWas v w
alone-stays v w subject context terms snapshots assumptions = record { goes_on = alone-goes-on v w subject context snapshots assumptions; terms = terms; faithful = alone-still v w subject context }

-- ---- what is assumed
pub has-assumed : {T E : Type 0} (v w : Inference) (t : TraitId) (ids : List TermId) (r : Result T E) → OnOk r ((a : Assumption) × (w.assumptions ≡ v.assumptions ++ a ∷ []) × (a.trait_id ≡ t) × (a.args.items ≡ ids))
    → IfOk r (λ _. HasAssumed v w t ids)
has-assumed v w t ids (Ok x) h = record { assumption = h.0; added = h.1; trait = h.2; args = h.3 }
has-assumed v w t ids (Err e) h = tt

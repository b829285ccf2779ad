-- Inference on the text of a slot.
use Rattle.std.specs.Prelude.{IsErr, OnErr}
use Rattle.std.proofs.Common.{◌≡◌, ◌∙◌, Option, None, Some, Result, Ok, Err, ap, refl, sym, subst}
use Rattle.inference.proofs.Growing.{itself}
use Rattle.coherence.specs.Asking.{AskedText}
use Rattle.coherence.specs.TextLanguage.Promised.Declarations.{Declarations}
use Rattle.session_inference.specs.Inferences.{Inference}
use Rattle.session_inference.specs.LeftInferences.{inference_after}
use Rattle.session_inference.specs.Operations.{StaysAsItWas}
use Rattle.session_inference.specs.declared.left_inference.LeftInference.{LeftInference}
use Rattle.celtisdarts_c.specs.Inferred.{inference_on}

pub inferring-now : (x : Option AskedText) (y : Option LeftInference) (a : AskedText) (l : LeftInference) (v : Inference) → x ≡ Some a → y ≡ Some l → inference_after a.declarations l ≡ v → inference_on x y ≡ Some v
inferring-now x y a l v e f g =
    subst (λ (z : Option AskedText). inference_on z y ≡ Some v) (sym e) (subst (λ (z : Option LeftInference). inference_on (Some a) z ≡ Some v) (sym f) (ap Some g))

-- what a session that goes on leaves
pub left-on : (d : Declarations) (l : LeftInference) (v w : Inference) → v.subject.declarations ≡ d → w.subject.declarations ≡ v.subject.declarations → inference_after w.subject.declarations l ≡ w → inference_after d l ≡ w
left-on d l v w e f g = subst (λ (x : Declarations). inference_after x l ≡ w) (f ∙ e) g

-- there is none
pub nothing-on : (x : Option AskedText) (y : Option LeftInference) (v : Inference) (P : Type 0) → y ≡ None → inference_on x y ≡ Some v → P
nothing-on x y v P e is = by x (subst (λ (z : Option LeftInference). inference_on x z ≡ Some v) e is)
  where
    by : (z : Option AskedText) → inference_on z None ≡ Some v → P
    by None q = absurd cc
    by (Some a) q = absurd cc

-- a call that fails
pub stays-as-it-was : (x y : Option Inference) (v w : Inference) → x ≡ Some v → y ≡ Some w → StaysAsItWas v w → (u : Inference) → x ≡ Some u → (z : Inference) × (y ≡ Some z) × StaysAsItWas u z
stays-as-it-was x y v w e f h u g = let same : v ≡ u = cc in (w, f, subst (λ (z : Inference). StaysAsItWas z w) same h)

pub err-on : {A E : Type 0} (r : Result A E) (P : Type 0) → IsErr r → OnErr r P → P
err-on (Ok x) P i h = absurd cc
err-on (Err e) P i h = h

pub refused-so : {A E : Type 0} (r : Result A E) (P : Type 0) → P → OnErr r P
refused-so (Ok x) P p = tt
refused-so (Err e) P p = p

-- a call that is not made
pub stays-itself : (v : Inference) → StaysAsItWas v v
stays-itself v = record {
  goes_on = record {
    stays = record { declarations = refl; of_crate = refl; depth = refl; handles = refl; terms = λ i e h. h };
    grows = itself v.context;
    snapshots = refl;
    assumptions = refl;
  };
  terms = refl;
  faithful = λ own asked f. f;
}

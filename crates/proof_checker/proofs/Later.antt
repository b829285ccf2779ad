-- Steps while the interner grows.
use Rattle.std.proofs.Common.{◌≡◌, ℕ, zero, suc, List, [], ◌∷◌, ◌++◌, length, take, refl, ap, sym, subst, Bool, true, false, if◌then◌else◌, arith, Some}
use Rattle.std.specs.List.{slice_get}
use Rattle.type_terms.specs.Promised.Worlds.{Reference}
use Rattle.type_terms.specs.Promised.Erased.{erased_reference}
use Rattle.type_terms.specs.Promised.Proofs.{In, Every}
use Rattle.type_terms.specs.Promised.Handles.{Entry, Keeps}
use Rattle.type_terms.specs.Terms.{args_lists}
use Rattle.type_terms.proofs.Members.{here, in-right}
use Rattle.type_terms.specs.Kept.{has-later}
use Rattle.term_folds.specs.declared.predicate.TraitRef.{TraitRef}
use Rattle.declarations.specs.Applied.{TraitRefsHeld}
use Rattle.declarations.specs.Held.{ReferenceHeld}
use Rattle.declarations.specs.Promised.Elaboration.{Each}
use Rattle.declarations.proofs.Growth.{reference-same, reference-kept, each-kept}
use Rattle.proof_checker.specs.declared.steps.Way.{Way}
use Rattle.proof_checker.specs.declared.steps.Way.TheVariants.{Impl, Clause, Supertrait, BuiltIn, Assumed}
use Rattle.proof_checker.specs.declared.steps.Step.{Step}
use Rattle.proof_checker.specs.Steps.{term_of, terms_of, steps_say, assumed_by, assumed_in, StepHeld, WayHeld}
use Rattle.type_terms.proofs.TermBasics.{more as joined}

together : (t u ts us : List Reference) → t ≡ u → ts ≡ us → t ++ ts ≡ u ++ us
together t u ts us q p = cc

module _ (es fs : List Entry) (k : Keeps es fs) where
  way-kept : (w : Way) → WayHeld es w → WayHeld fs w
  way-kept (Impl i) h = has-later es fs k args_lists i.args.0 h
  way-kept (Clause n) h = h
  way-kept (Supertrait n) h = h
  way-kept BuiltIn h = h
  way-kept Assumed h = h

  step-kept : (s : Step) → StepHeld es s → StepHeld fs s
  step-kept s h = (reference-kept es fs k s.reference h.0, way-kept s.way h.1)

  pub steps-kept : (ss : List Step) → Each (StepHeld es) ss → Each (StepHeld fs) ss
  steps-kept ss h = each-kept (StepHeld es) (StepHeld fs) step-kept ss h

  pub term-same : (r : TraitRef) → ReferenceHeld es r → term_of fs r ≡ term_of es r
  term-same r h = ap erased_reference (reference-same es fs k r h)

  pub terms-same : (rs : List TraitRef) → TraitRefsHeld es rs → terms_of fs rs ≡ terms_of es rs
  terms-same [] h = refl
  terms-same (r ∷ rs) h = joined (term_of fs r) (term_of es r) (terms_of fs rs) (terms_of es rs) (term-same r h.0) (terms-same rs h.1)

  pub say-same : (ss : List Step) → Each (StepHeld es) ss → steps_say fs ss ≡ steps_say es ss
  say-same [] h = refl
  say-same (s ∷ ss) h = joined (term_of fs s.reference) (term_of es s.reference) (steps_say fs ss) (steps_say es ss) (term-same s.reference h.0.0) (say-same ss h.1)

  one-assumed : (r : TraitRef) (w : Way) → ReferenceHeld es r → assumed_by fs r w ≡ assumed_by es r w
  one-assumed r (Impl i) h = refl
  one-assumed r (Clause n) h = refl
  one-assumed r (Supertrait n) h = refl
  one-assumed r BuiltIn h = refl
  one-assumed r Assumed h = ap (λ t. t ∷ []) (term-same r h)

  pub assumed-same : (ss : List Step) → Each (StepHeld es) ss → assumed_in fs ss ≡ assumed_in es ss
  assumed-same [] h = refl
  assumed-same (s ∷ ss) h =
      together (assumed_by fs s.reference s.way) (assumed_by es s.reference s.way) (assumed_in fs ss) (assumed_in es ss) (one-assumed s.reference s.way h.0.0) (assumed-same ss h.1)

take-all : (n : ℕ) (rs : List Reference) → n ≡ length rs → take n rs ≡ rs
take-all zero [] e = refl
take-all (suc n) [] e = absurd (omega (arith, e))
take-all zero (r ∷ rs) e = absurd (omega (arith, e))
take-all (suc n) (r ∷ rs) e = ap (λ l. r ∷ l) (take-all n rs (omega (arith, e)))

pub say-length : (es : List Entry) (ss : List Step) → length (steps_say es ss) ≡ length ss
say-length es [] = refl
say-length es (s ∷ ss) = let r = say-length es ss in omega (arith, r)

pub stand-all : (b : Bool) → b ≡ true → (n k : ℕ) (rs ps : List Reference) → n ≡ length rs → Every (λ p. In p (take n rs)) ps → Every (λ p. In p (if b then rs else take k rs)) ps
stand-all true q n k rs ps e h = subst (λ l. Every (λ p. In p l) ps) (take-all n rs e) h
stand-all false q n k rs ps e h = absurd cc

pub stand-before : (b : Bool) → b ≡ false → (n k : ℕ) (rs ps : List Reference) → n ≡ k → Every (λ p. In p (take n rs)) ps → Every (λ p. In p (if b then rs else take k rs)) ps
stand-before false q n k rs ps e h = subst (λ j. Every (λ p. In p (take j rs)) ps) e h
stand-before true q n k rs ps e h = absurd cc

-- what a step assumes is among what is assumed
pub assumed-in : (es : List Entry) (ss : List Step) (i : ℕ) (s : Step) → slice_get ss i ≡ Some s → s.way ≡ Assumed → In (term_of es s.reference) (assumed_in es ss)
assumed-in es [] i s e q = absurd cc
assumed-in es (x ∷ ss) zero s e q =
    let y : x ≡ s = cc in
    subst (λ (z : Step). In (term_of es s.reference) (assumed_by es z.reference z.way ++ assumed_in es ss)) (sym y)
    (subst (λ w. In (term_of es s.reference) (assumed_by es s.reference w ++ assumed_in es ss)) (sym q) (here (term_of es s.reference) (assumed_in es ss)))
assumed-in es (x ∷ ss) (suc i) s e q = in-right (term_of es s.reference) (assumed_by es x.reference x.way) (assumed_in es ss) (assumed-in es ss i s e q)

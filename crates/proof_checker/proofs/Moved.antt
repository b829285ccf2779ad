-- What steps say over one interner they say over it as it was before, and what their entries conclude is what they say.
use Rattle.std.proofs.Common.{◌≡◌, ◌∙◌, ◌++◌, List, [], ◌∷◌, map, refl, ap, sym, subst}
use Rattle.type_terms.specs.Promised.Worlds.{World, Reference}
use Rattle.type_terms.specs.Promised.Proofs as proofs
use Rattle.type_terms.specs.Promised.Proofs.{In, IsProof}
use Rattle.type_terms.specs.Promised.Handles.{Entry, Keeps}
use Rattle.type_terms.proofs.Members.{here, there}
use Rattle.declarations.specs.Promised.Elaboration.{Each}
use Rattle.proof_checker.specs.declared.steps.Step.{Step}
use Rattle.proof_checker.specs.Steps.{term_of, steps_say, at_places, StepHeld, AreEntriesOf, AreProof, AreProofOf}
use Rattle.proof_checker.proofs.Later.{term-same, say-same, assumed-same}
use Rattle.type_terms.proofs.TermBasics.{more as joined}

-- ---- what entries conclude
pub entries-say : (es : List Entry) (rs : List Reference) (ss : List Step) (ps : List proofs.ProofEntry) → AreEntriesOf es rs ss ps → map (λ (e : proofs.ProofEntry). e.of) ps ≡ steps_say es ss
entries-say es rs [] [] h = refl
entries-say es rs [] (e ∷ ps) h = absurd h
entries-say es rs (s ∷ ss) [] h = absurd h
entries-say es rs (s ∷ ss) (e ∷ ps) h = joined e.of (term_of es s.reference) (map (λ (x : proofs.ProofEntry). x.of) ps) (steps_say es ss) h.0.of (entries-say es rs ss ps h.1)

pub concludes : (es : List Entry) (W : World) (E : List Reference) (r : Reference) (ss : List Step) → AreProof es W E ss → In r (steps_say es ss) → AreProofOf es W E r ss
concludes es W E r ss p i = record { proof = p; stands = subst (In r) (sym (entries-say es (steps_say es ss) ss p.entries p.are)) i }

-- the last step is one of them
said-last : (es : List Entry) (front : List Step) (last : Step) → In (term_of es last.reference) (steps_say es (front ++ last ∷ []))
said-last es [] last = here (term_of es last.reference) []
said-last es (s ∷ front) last = there (term_of es last.reference) (term_of es s.reference) (steps_say es (front ++ last ∷ [])) (said-last es front last)

pub last-said : (es : List Entry) (ss front : List Step) (last : Step) → ss ≡ front ++ last ∷ [] → In (term_of es last.reference) (steps_say es ss)
last-said es ss front last e = subst (λ l. In (term_of es last.reference) (steps_say es l)) (sym e) (said-last es front last)

-- ---- before
module _ (es fs : List Entry) (k : Keeps es fs) where
  entries-before : (rs qs : List Reference) → qs ≡ rs → (ss : List Step) → Each (StepHeld es) ss → (ps : List proofs.ProofEntry) → AreEntriesOf fs qs ss ps → AreEntriesOf es rs ss ps
  entries-before rs qs q [] g [] h = tt
  entries-before rs qs q [] g (e ∷ ps) h = absurd h
  entries-before rs qs q (s ∷ ss) g [] h = absurd h
  entries-before rs qs q (s ∷ ss) g (e ∷ ps) h = (
    record { of = h.0.of ∙ term-same es fs k s.reference g.0.0; way = h.0.way; premises = h.0.premises ∙ ap (λ l. at_places l s.premises.items) q },
    entries-before rs qs q ss g.1 ps h.1,
  )

  pub proof-before : (W : World) (E : List Reference) (r : Reference) (ss : List Step) → Each (StepHeld es) ss → AreProofOf fs W E r ss → AreProofOf es W E r ss
  proof-before W E r ss g h = record {
    proof = record {
      entries = h.proof.entries;
      are = entries-before (steps_say es ss) (steps_say fs ss) (say-same es fs k ss g) ss g h.proof.entries h.proof.are;
      proof = subst (λ A. IsProof W (E ++ A) h.proof.entries) (assumed-same es fs k ss g) h.proof.proof;
    };
    stands = h.stands;
  }

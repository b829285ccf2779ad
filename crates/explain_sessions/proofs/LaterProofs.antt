-- Proofs over the terms of an interner that has grown.
use Rattle.std.proofs.Common.{◌∙◌, List, [], ◌∷◌, ◌++◌, sym, subst}
use Rattle.sessions.specs.TypeTerms.Promised.Worlds.{World, Reference}
use Rattle.sessions.specs.TypeTerms.Promised.Proofs.{ProofEntry, IsProof}
use Rattle.sessions.specs.TypeTerms.Promised.Handles.{Entry, Keeps}
use Rattle.sessions.specs.Declarations.Held.{ReferenceHeld}
use Rattle.sessions.specs.Declarations.Promised.Elaboration.{Each}
use Rattle.sessions.specs.ProofChecker.Steps.{AreEntriesOf, AreProofOf, IsEntryOf, StepHeld, steps_say}
use Rattle.sessions.specs.ProofChecker.declared.steps.Step.{Step}
use Rattle.sessions.proofs.ProofChecker.Later.{assumed-same, say-same, term-same}

module _ (es fs : List Entry) (k : Keeps es fs) where
  entry-later : (rs : List Reference) (s : Step) (e : ProofEntry) → ReferenceHeld es s.reference → IsEntryOf es rs s e → IsEntryOf fs rs s e
  entry-later rs s e h x = record { of = x.of ∙ sym (term-same es fs k s.reference h); way = x.way; premises = x.premises }

  entries-later : (rs : List Reference) (ss : List Step) (ps : List ProofEntry) → Each (StepHeld es) ss → AreEntriesOf es rs ss ps → AreEntriesOf fs rs ss ps
  entries-later rs [] [] h x = tt
  entries-later rs [] (e ∷ ps) h x = absurd x
  entries-later rs (s ∷ ss) [] h x = absurd x
  entries-later rs (s ∷ ss) (e ∷ ps) h x = (entry-later rs s e h.0.0 x.0, entries-later rs ss ps h.1 x.1)

  pub proof-later : (W : World) (E : List Reference) (r : Reference) (ss : List Step) → Each (StepHeld es) ss → AreProofOf es W E r ss → AreProofOf fs W E r ss
  proof-later W E r ss h p = record {
    proof = record {
      entries = p.proof.entries;
      are = subst (λ rs. AreEntriesOf fs rs ss p.proof.entries) (sym (say-same es fs k ss h)) (entries-later (steps_say es ss) ss p.proof.entries h p.proof.are);
      proof = subst (λ assumed. IsProof W (E ++ assumed) p.proof.entries) (sym (assumed-same es fs k ss h)) p.proof.proof;
    };
    stands = p.stands;
  }

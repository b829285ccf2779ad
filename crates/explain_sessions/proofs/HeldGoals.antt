-- Goals that have a proof with nothing taken for granted.
use Rattle.std.proofs.Common.{◌≡◌, List, [], ◌∷◌, ◌++◌, sym, subst, ap, ◌∙◌, ℕ}
use Rattle.sessions.specs.TypeTerms.Promised.Proofs.{ProofEntry, In, Follows, IsProof, HasProof}
use Rattle.sessions.specs.TypeTerms.Promised.Handles.{Entry, Keeps}
use Rattle.sessions.specs.TypeTerms.Promised.Worlds.{World, CrateDecl, Reference}
use Rattle.sessions.specs.TermFolds.declared.predicate.TraitRef.{TraitRef}
use Rattle.explain_traces.specs.Walking.{ReferencesHeld}
use Rattle.sessions.specs.ProofChecker.declared.steps.Step.{Step}
use Rattle.sessions.specs.ProofChecker.Steps.{AreProofOf, assumed_by, assumed_in}
use Rattle.sessions.proofs.ProofChecker.Later.{term-same}
use Rattle.sessions.specs.Promised.Promises.{view_in}
use Rattle.sessions.specs.Promised.Subjects.{Subject, StaysOn}
use Rattle.sessions.proofs.ProofsAside.{rules-aside}
use Rattle.explain_sessions.specs.Refusals.{HoldsAt}
use Rattle.explain_sessions.proofs.RuleCandidates.{there-held}

-- ---- what steps assume
pub one-less : (es : List Entry) (left : List Step) (s : Step) (others : List Step) → left ≡ s ∷ others → assumed_by es s.reference s.way ≡ [] → assumed_in es others ≡ assumed_in es left
one-less es left s others e h = sym (ap (assumed_in es) e ∙ ap (λ (l : List Reference). l ++ assumed_in es others) h)

pub has-proof : (es : List Entry) (W : World) (r : Reference) (ss : List Step) → assumed_in es ss ≡ [] → AreProofOf es W [] r ss → HasProof W [] r
has-proof es W r ss e p = (p.proof.entries, subst (λ l. IsProof W l p.proof.entries) e p.proof.proof, p.stands)

-- ---- which crates a world lists
module _ (V : World) (cs : List CrateDecl) where
  abbrev W : World
  W = record V { crates = cs }

  follows-aside : (E : List Reference) (all earlier left : List ProofEntry) → Follows V E all earlier left → Follows W E all earlier left
  follows-aside E all earlier [] f = tt
  follows-aside E all earlier (e ∷ left) f = (subst (In e.rule) (sym (rules-aside V cs E e.of)) f.0, f.1, follows-aside E all (earlier ++ e ∷ []) left f.2)

  pub holds-aside : (es : List Entry) (rs : List TraitRef) (p : ℕ) → HoldsAt es V rs p → HoldsAt es W rs p
  holds-aside es rs p x = (x.0, x.1, (x.2.0, follows-aside [] x.2.0 [] x.2.0 x.2.1, x.2.2))

-- ---- as it was before
pub holds-before : (old now : List Entry) → Keeps old now → (V : World) (rs : List TraitRef) → ReferencesHeld old rs → (p : ℕ) → HoldsAt now V rs p → HoldsAt old V rs p
holds-before old now k V rs h p x = (x.0, x.1, subst (HasProof V []) (term-same old now k x.0 (there-held old rs p x.0 h x.1)) x.2)

-- as a session says it that stays on
pub holds-staying : (s t : Subject) → StaysOn s t → (rs : List TraitRef) → ReferencesHeld s.terms rs → (p : ℕ) → HoldsAt t.terms (view_in t.declarations t.of_crate) rs p → HoldsAt s.terms (view_in s.declarations s.of_crate) rs p
holds-staying s t on rs h p x =
    holds-before s.terms t.terms on.terms (view_in s.declarations s.of_crate) rs h p
    (subst (λ d. HoldsAt t.terms (view_in d s.of_crate) rs p) on.declarations (subst (λ k. HoldsAt t.terms (view_in t.declarations k) rs p) on.of_crate x))

pub proved-before : (V W : World) → V ≡ W → (r s : Reference) → r ≡ s → HasProof V [] r → HasProof W [] s
proved-before V W e r s q h = subst (λ (U : World). HasProof U [] s) e (subst (HasProof V []) q h)

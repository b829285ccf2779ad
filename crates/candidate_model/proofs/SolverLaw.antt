-- The solver is a lawful handler in both modes, and in coherence covers each solution, where the view is declared well.
use Rattle.candidate_model.specs.Lawful.{WellDeclaredIsLawful, SolverIsLawfulAndCovers}
use Rattle.candidate_model.proofs.Given.{given-is-realized}
use Rattle.candidate_model.proofs.ErasedViews.{solutions-by}
use Rattle.candidate_model.proofs.BoundTerms.{equations-are-terms, bounds-are-left}
use Rattle.candidate_model.proofs.CandidateBounds.{candidates-are-few}
use Rattle.candidate_model.proofs.NarrowCandidates.{candidates-are-narrow}
use Rattle.candidate_model.proofs.LawfulAll.{sound-and-narrow-is-lawful}
use Rattle.candidate_model.proofs.LawfulSolver.{solver-is-lawful}
use Rattle.candidate_model.proofs.Covered.{coherence-is-covered}
use Rattle.candidate_model.proofs.SoundAll.{candidates-are-sound}

pub well-declared-is-lawful : WellDeclaredIsLawful
well-declared-is-lawful m w = sound-and-narrow-is-lawful m w.terms w.determined (candidates-are-sound m w) (candidates-are-narrow m w.one_field)

pub solver-is-lawful-and-covers : SolverIsLawfulAndCovers
solver-is-lawful-and-covers applicable is_test same is_same m well f fits = (
  λ mode. solver-is-lawful applicable is_test same is_same m
      (record {
        realized = given-is-realized;
        covers = λ e. (solutions-by m (well e).terms (well e).determined (well e).erased (well e).rank (well e).acyclic).0;
        covers_alone = λ e. (solutions-by m (well e).terms (well e).determined (well e).erased (well e).rank (well e).acyclic).1;
        terms = λ e. equations-are-terms m (well e).terms (well e).erased;
        lawful = λ e. well-declared-is-lawful m (well e);
        few = λ e. (candidates-are-few m (well e).one_struct (well e).rank (well e).acyclic).0;
        asks = λ e. (candidates-are-few m (well e).one_struct (well e).rank (well e).acyclic).1;
      })
      mode f fits,
  coherence-is-covered applicable same m (λ e. record { declared = (well e).terms; determined = (well e).determined; erased = (well e).erased; rank = (well e).rank; acyclic = (well e).acyclic; bounds = bounds-are-left m (well e).terms (well e).erased }) f fits,
)

-- Sessions that walks leave as they were.
use Rattle.std.proofs.Common.{◌≡◌, ◌∙◌, ℕ, refl, subst, length}
use Rattle.sessions.specs.TypeTerms.Promised.Handles.{Keeps}
use Rattle.sessions.specs.GoalFrames.Stores.{kept_inputs, kept_responses}
use Rattle.sessions.specs.SearchGraph.SearchState.{SearchState}
use Rattle.sessions.specs.SolverGraph.declared.context.SolverCx.{SolverCx}
use Rattle.sessions.specs.CandidateAssembly.declared.solver.Solver.{Solver}
use Rattle.sessions.specs.TextLanguage.Promised.Declarations.{Declarations}
use Rattle.sessions.specs.Resting.{Cached}
use Rattle.sessions.specs.Sessions.{IsSessionWithin}
use Rattle.sessions.specs.Promised.Subjects.{Subject, StaysOn}
use Rattle.sessions.proofs.Keeping.{limits-stay, session-kept}
use Rattle.explain_sessions.specs.Walked.{RestsAfter}

-- what is asked about in a session of these parts
abbrev pub subject : Declarations → ℕ → ℕ → ℕ → SolverCx Solver → SearchState → Subject
subject d c n h x g = record {
  declarations = d;
  of_crate = c;
  depth = n;
  handles = h;
  terms = x.interner.entries;
  goals = length (kept_inputs x.store);
  answers = length (kept_responses x.store);
  frames = g.frames;
}

pub stays : (d : Declarations) (c n h : ℕ) (x y : SolverCx Solver) (g k : SearchState) (s : Subject) → subject d c n h x g ≡ s → Keeps x.interner.entries y.interner.entries → StaysOn s (subject d c n h y k)
stays d c n h x y g k s e terms = subst (λ z. StaysOn z (subject d c n h y k)) e (record { declarations = refl; of_crate = refl; depth = refl; handles = refl; terms = terms })

pub stays-further : (r s t : Subject) → StaysOn r s → StaysOn s t → StaysOn r t
stays-further r s t x y = record {
  declarations = y.declarations ∙ x.declarations;
  of_crate = y.of_crate ∙ x.of_crate;
  depth = y.depth ∙ x.depth;
  handles = y.handles ∙ x.handles;
  terms = λ i z p. y.terms i z (x.terms i z p);
}

pub kept-within : (d : Declarations) (c n h : ℕ) (x y : SolverCx Solver) (g k : SearchState) (ks ls : Cached) → IsSessionWithin d c n h x g ks → RestsAfter g.root_depth x y k ls → IsSessionWithin d c n h y k ls
kept-within d c n h x y g k ks ls is r = record {
  session = session-kept d c n x g ks is.session y k ls r.solving r.rest;
  limits = limits-stay h x y is.limits r.limits;
}

-- Why calls answer `Full`, from what their parts say.
use Rattle.std.proofs.Common.{◌≡◌, ◌≤◌, inl, inr, ℕ, List, length, Result, Ok, Err, refl, sym, ◌∙◌, subst, arith}
use Rattle.std.specs.Prelude.{◌==◌, IfErr, IsErrAnd}
use Rattle.std.proofs.lemmas.List.Sums.{count_by-le-length}
use Rattle.std.proofs.lemmas.Result.{IfErr-weaker}
use Rattle.type_terms.specs.Promised.Handles.{Entry}
use Rattle.type_terms.specs.Promised.Handles.{SomeKindIsFull, full}
use Rattle.type_terms.specs.declared.Fault.{Fault}
use Rattle.type_terms.specs.Growth.{FullAtLimit}
use Rattle.goal_frames.specs.Stores.{kept_inputs, kept_responses}
use Rattle.solver_graph.specs.Contexts.{entries_of}
use Rattle.solver_graph.specs.Shortages.{ContextIsFull, ContextFullAtLimit, interner, store}
use Rattle.solver_graph.proofs.Shortages.{handed}
use Rattle.solver_graph.specs.declared.context.SolverCx.{SolverCx}
use Rattle.candidate_assembly.specs.declared.solver.Solver.{Solver}
use Rattle.sessions.specs.Sessions.{HasLimits}
use Rattle.sessions.specs.Promised.Shortages.{IsAtLimit, SessionFullAtLimit, terms, goals, answers}
use Rattle.sessions.specs.Promised.Subjects.{Subject}

-- an error as it is
pub at-err : {T E : Type 0} (P : E → Type 0) (r : Result T E) {x : E} → IfErr r P → r ≡ Err x → P x
at-err P r h q = subst (λ z. IfErr z P) q h

pub when-err : {T E : Type 0} (P : E → Type 0) (r : Result T E) → ((x : E) → r ≡ Err x → P x) → IfErr r P
when-err P (Ok y) f = tt
when-err P (Err y) f = f y refl

-- a fault for want of terms is one of their context, also where it is handed on
pub full-of-terms : {Handler : Type 0} (c : SolverCx Handler) (x : Fault) → FullAtLimit c.interner x → ContextFullAtLimit c x
full-of-terms c x h = λ q. interner (h q)

pub handed-by-terms : {Handler T : Type 0} (c : SolverCx Handler) (r : Result T Fault) {x : Fault} → IsErrAnd r (λ y. y ≡ x) → FullAtLimit c.interner x → IfErr r (ContextFullAtLimit c)
handed-by-terms c r h f = handed (ContextFullAtLimit c) r h (λ q. interner (f q))

-- where a kind is full there are so many terms
pub many-terms : (es : List Entry) (limit n : ℕ) → SomeKindIsFull es limit → length es ≤ n → limit ≤ n
many-terms es limit n (full kind le e) few = let count = count_by-le-length (λ (x : Entry). x.kind == kind) es in omega (arith, count, e, few)

-- ---- a session and its context
-- The session holds the terms, and as many goals and answers, as the context does, and both have the limits that it was given.
pub record HoldsAs (c : SolverCx Solver) (s : Subject) : Type 0 where
  pub terms : s.terms ≡ entries_of c
  pub goals : s.goals ≡ length (kept_inputs c.store)
  pub answers : s.answers ≡ length (kept_responses c.store)
  pub limits : HasLimits s.handles c

-- a session whose context is full is at a limit
full-at-limit : (s : Subject) (c : SolverCx Solver) → HoldsAs c s → ContextIsFull c → IsAtLimit s
full-at-limit s c h (interner k) =
    terms (subst (λ es. SomeKindIsFull es s.handles) (sym h.terms) (subst (SomeKindIsFull (entries_of c)) h.limits.terms k))
full-at-limit s c h (store (inl e)) = goals (h.goals ∙ e ∙ h.limits.kept)
full-at-limit s c h (store (inr e)) = answers (h.answers ∙ e ∙ h.limits.kept)

-- a call over the context, and one that makes terms alone
pub at-limit : {T : Type 0} (s : Subject) (c : SolverCx Solver) → HoldsAs c s → (r : Result T Fault) → IfErr r (ContextFullAtLimit c) → IfErr r (SessionFullAtLimit s)
at-limit s c h r = IfErr-weaker r (ContextFullAtLimit c) (SessionFullAtLimit s) (λ fault k q. full-at-limit s c h (k q))

pub terms-at-limit : {T : Type 0} (s : Subject) (c : SolverCx Solver) → HoldsAs c s → (r : Result T Fault) → IfErr r (FullAtLimit c.interner) → IfErr r (SessionFullAtLimit s)
terms-at-limit s c h r = IfErr-weaker r (FullAtLimit c.interner) (SessionFullAtLimit s) (λ fault k q. full-at-limit s c h (interner (k q)))

-- What sessions leave for the next session of their crate, and sessions that go on with it.
use Rattle.std.proofs.Common.{◌≡◌, ℕ, refl, sym, ap, ◌∙◌, subst}
use Rattle.type_terms.specs.Terms.{Terms}
use Rattle.text_language.specs.Promised.Declarations.{Declarations, Question}
use Rattle.text_tables.specs.Tables.{with_question}
use Rattle.candidate_assembly.specs.Solving.{Solving}
use Rattle.candidate_assembly.specs.declared.solver.Solver.{Solver}
use Rattle.sessions.specs.LeftSessions.{IsLeftSession, LeavesView}
use Rattle.sessions.specs.SeenViews.{IsViewOf}
use Rattle.sessions.specs.Sessions.{IsSessionWithin}
use Rattle.sessions.specs.Promised.Subjects.{IsOfText}
use Rattle.sessions.specs.declared.left_session.LeftSession.{LeftSession}
use Rattle.sessions.specs.declared.seen_view.SeenView.{SeenView}

-- ---- a session without its text, and with it again
pub session-left : (d : Declarations) (depth handles : ℕ) (left : LeftSession) → IsSessionWithin d left.crate_id.index depth handles left.search.cx left.search.graph left.search.cache
    → IsLeftSession d depth handles left
session-left d depth handles left is = record {
  declared = is.session.declared;
  view = is.session.view;
  solving = is.session.solving;
  rest = is.session.rest;
  limits = is.limits;
}

pub session-after : (d : Declarations) (depth handles : ℕ) (left : LeftSession) → IsOfText d → IsLeftSession d depth handles left
    → IsSessionWithin d left.crate_id.index depth handles left.search.cx left.search.graph left.search.cache
session-after d depth handles left text is = record {
  session = record { text = text; declared = is.declared; view = is.view; solving = is.solving; rest = is.rest };
  limits = is.limits;
}

-- ---- its crate's view
pub view-left-by : (d : Declarations) (depth handles : ℕ) (left : LeftSession) → IsLeftSession d depth handles left
    → (interner : Terms) (solver : Solver) → interner ≡ left.search.cx.interner → solver ≡ left.search.cx.handler → (frames : ℕ)
    → IsViewOf d left.crate_id.index handles (record { crate_id = left.crate_id; interner = interner; declarations = solver.declarations; frames = frames })
view-left-by d depth handles left is interner solver same by frames =
    let id = left.crate_id in
    let cx = left.search.cx in
    let view : IsViewOf d id.index handles (record { crate_id = id; interner = cx.interner; declarations = cx.handler.declarations; frames = frames }) = record {
      crate = refl;
      seen = record {
        written = is.view.written;
        structs = ap (λ (x : Solving). x.sorts.structs) is.solving.is ∙ is.solving.seen.structs;
        traits = ap (λ (x : Solving). x.sorts.traits) is.solving.is ∙ is.solving.seen.traits;
        impls = ap (λ (x : Solving). x.sorts.impls) is.solving.is ∙ is.solving.seen.impls;
      };
      rules = is.view.rules;
      local = is.view.local;
      ready = is.rest.ready.handler;
      limit = is.limits.terms;
      declared = is.declared;
    } in
    subst (λ (t : Terms). IsViewOf d id.index handles (record { crate_id = id; interner = t; declarations = solver.declarations; frames = frames })) (sym same)
    (subst (λ (h : Solver). IsViewOf d id.index handles (record { crate_id = id; interner = cx.interner; declarations = h.declarations; frames = frames })) (sym by) view)

-- ---- none of it is about queries
pub left-of-asked : (d : Declarations) (q : Question) (depth handles : ℕ) (left : LeftSession) → IsLeftSession d depth handles left → IsLeftSession (with_question d q) depth handles left
left-of-asked d q depth handles left h = record {
  declared = h.declared;
  view = record { written = h.view.written; rules = h.view.rules; local = h.view.local };
  solving = record {
    entries = h.solving.entries;
    declarations = h.solving.declarations;
    seen = record { written = h.solving.seen.written; structs = h.solving.seen.structs; traits = h.solving.seen.traits; impls = h.solving.seen.impls };
    local = h.solving.local;
    is = h.solving.is;
  };
  rest = h.rest;
  limits = h.limits;
}

pub left-of-unasked : (d : Declarations) (q : Question) (depth handles : ℕ) (left : LeftSession) → IsLeftSession (with_question d q) depth handles left → IsLeftSession d depth handles left
left-of-unasked d q depth handles left h = record {
  declared = h.declared;
  view = record { written = h.view.written; rules = h.view.rules; local = h.view.local };
  solving = record {
    entries = h.solving.entries;
    declarations = h.solving.declarations;
    seen = record { written = h.solving.seen.written; structs = h.solving.seen.structs; traits = h.solving.seen.traits; impls = h.solving.seen.impls };
    local = h.solving.local;
    is = h.solving.is;
  };
  rest = h.rest;
  limits = h.limits;
}

-- ---- nor about frames that are counted
pub left-counted : (d : Declarations) (depth handles : ℕ) (left : LeftSession) (frames : ℕ) → IsLeftSession d depth handles left
    → IsLeftSession d depth handles (record left { frames_before = frames })
left-counted d depth handles left frames h = record { declared = h.declared; view = h.view; solving = h.solving; rest = h.rest; limits = h.limits }

-- ---- its view begins the session of another crate
pub left-handed : (d : Declarations) (depth handles : ℕ) (left : LeftSession) (view : SeenView) → IsLeftSession d depth handles left → LeavesView left view
    → IsViewOf d view.crate_id.index handles view
left-handed d depth handles left view is leaves = let h = leaves d depth handles is in subst (λ n. IsViewOf d n handles view) (sym h.crate) h

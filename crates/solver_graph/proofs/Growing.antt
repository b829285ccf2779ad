-- A context that has grown preserves all that a search has.
use Rattle.std.proofs.Common.{◌≡◌, ◌∙◌, List, [], refl, sym, ap, subst, Option, Some, None, option_map}
use Rattle.std.proofs.lemmas.Option.{same_Some}
use Rattle.type_terms.specs.Promised.Handles.{Entry, Keeps}
use Rattle.type_terms.specs.Terms.{Lawful}
use Rattle.search_graph.specs.Meaning as Search
use Rattle.search_graph.specs.declared.delegate.Reply.{Reply}
use Rattle.search_graph.specs.declared.delegate.Reply.TheVariants.{Begin, Result, Entered, Finished, Ignored}
use Rattle.infer_table.specs.declared.input.CanonicalInput.{CanonicalInput}
use Rattle.infer_table.specs.Goals.{GoalHeld}
use Rattle.infer_table.specs.declared.response.CanonicalResponse.{CanonicalResponse}
use Rattle.infer_table.specs.Inputs.{form_of}
use Rattle.infer_table.specs.Responses.{AnswerTrees, answer_trees}
use Rattle.goal_evaluator.specs.Lists.{Every}
use Rattle.goal_evaluator.proofs.ListLaws.{Every-mono}
use Rattle.goal_evaluator.specs.TableAnswers.{IsWellFormed}
use Rattle.goal_frames.specs.Searches.{replies_of}
use Rattle.goal_frames.specs.declared.store.InputId.{InputId}
use Rattle.goal_frames.specs.declared.store.ResponseId.{ResponseId}
use Rattle.goal_frames.specs.Stores.{StoreIsHeld, StoreGrows, response_at, HasResponse, StandsForInput, StandsForResponse, limit_of}
use Rattle.term_folds.specs.declared.predicate.TraitRef.{TraitRef}
use Rattle.goal_frames.proofs.Answers.{response-held-later, answer-later, same-answers}
use Rattle.goal_frames.proofs.Numbers.{goal-later, same-goals}
use Rattle.infer_table.proofs.Numbers.{goal-held-later}
use Rattle.goal_frames.specs.declared.frame.GoalFrame.{GoalFrame}
use Rattle.goal_frames.specs.Frames as Frames
use Rattle.goal_frames.specs.Meanings.{HandlerMeaning, StayNotes}
use Rattle.solver_graph.specs.declared.context.SolverCx.{SolverCx}
use Rattle.solver_graph.specs.Contexts.{Asked, asked_of, asked_or_none, entries_of, goal_of, answer_of, IsReady, IsInput, ResponseIsMade, IsKeptAnswer, Advances, KeepsLimits}
use Rattle.solver_graph.specs.Searching.{bare, AnyAnswer, RepliedResultIs, world_in, FrameHasHeard, solver_meaning, Lasting, of_term, of_limits, HasLasting}
use Rattle.solver_graph.proofs.Frames.{heard-later}

pub grows-same : {Handler : Type 0} (c : SolverCx Handler) → StoreGrows c.store c.store
grows-same c = record { inputs = λ i a e. e; responses = λ i r e. e }

-- what is kept is held by an interner that has grown
pub store-held : {Handler : Type 0} (c : SolverCx Handler) (new : List Entry) → Keeps (entries_of c) new → StoreIsHeld (entries_of c) c.store → StoreIsHeld new c.store
store-held c new k h = record {
  inputs = λ i a e. goal-held-later (entries_of c) new k a.goal (h.inputs i a e);
  responses = λ i r e. response-held-later (entries_of c) new k r (h.responses i r e);
}

pub asked-later : (old new : List Entry) → Keeps old new → (a : CanonicalInput) → GoalHeld old a.goal → asked_of new a ≡ asked_of old a
asked-later old new k a h = ap (λ q. (q.mode, q.form)) (goal-later old new k a h)

-- limits that are kept, and kept again
pub limits-further : {Handler : Type 0} (c d e : SolverCx Handler) → KeepsLimits c d → KeepsLimits d e → KeepsLimits c e
limits-further c d e a b = record { terms = b.terms ∙ a.terms; kept = b.kept ∙ a.kept }

-- what a context has for good stays
lasting-later : {Handler : Type 0} (c d : SolverCx Handler) → Keeps (entries_of c) (entries_of d) → KeepsLimits c d → (x : Lasting) → HasLasting c x → HasLasting d x
lasting-later c d k l (of_term i e) h = k i e h
lasting-later c d k l (of_limits terms kept) h = (l.terms ∙ h.0, l.kept ∙ h.1)

module _ {Handler : Type 0} (ready : Handler → List Entry → Type 0) (c d : SolverCx Handler) (a : Advances ready c d) where
  pub input-later : (i : InputId) → IsInput ready c i → IsInput ready d i × (goal_of d i ≡ goal_of c i)
  input-later i x =
      let kept = x.1.0 in
      let at = a.store.inputs i kept x.1.1 in (
        (a.ready, (kept, at)),
        ap (asked_or_none (entries_of d)) at ∙ asked-later (entries_of c) (entries_of d) a.entries kept (x.0.store.inputs i kept x.1.1) ∙ sym (ap (asked_or_none (entries_of c)) x.1.1),
      )

  result-later : (r : Option ResponseId) → ResponseIsMade ready c r → ResponseIsMade ready d r × (answer_of d r ≡ answer_of c r)
  result-later None x = (tt, refl)
  result-later (Some i) x =
      let kept = x.1.0 in
      let at = a.store.responses i kept x.1.1 in
      let same = answer-later (entries_of c) (entries_of d) a.entries kept (x.0.store.responses i kept x.1.1) in (
        (a.ready, (kept, at, subst IsWellFormed (sym same) x.1.2)),
        ap (option_map (answer_trees (entries_of d))) at ∙ ap Some same ∙ sym (ap (option_map (answer_trees (entries_of c))) x.1.1),
      )

  pub kept-there : (o : Option AnswerTrees) → IsKeptAnswer ready c o → IsKeptAnswer ready d o
  kept-there o x = let y = result-later x.0 x.1 in (x.0, y.0, y.1 ∙ x.2)

module _ {Handler : Type 0} (ready : Handler → List Entry → Type 0) where
  -- a context of which the interner has grown, and nothing else
  pub later : ((h : Handler) (old new : List Entry) → Keeps old new → ready h old → ready h new) → (c d : SolverCx Handler) → IsReady ready c → d.handler ≡ c.handler → d.store ≡ c.store
      → Keeps (entries_of c) (entries_of d) → Lawful (entries_of d) → d.interner.limit ≡ c.interner.limit → Advances ready c d
  later stays c d now h s k law limit = record {
    handler = h;
    entries = k;
    store = subst (λ z. StoreGrows c.store z) (sym s) (grows-same c);
    ready = record {
      handler = subst (λ z. ready z (entries_of d)) (sym h) (stays c.handler (entries_of c) (entries_of d) k now.handler);
      store = subst (StoreIsHeld (entries_of d)) (sym s) (store-held c (entries_of d) k now.store);
      lawful = law;
    };
    limits = record { terms = limit; kept = ap limit_of s };
  }

  -- one after the other
  pub further : (c d e : SolverCx Handler) → Advances ready c d → Advances ready d e → Advances ready c e
  further c d e a b = record {
    handler = b.handler ∙ a.handler;
    entries = λ i x h. b.entries i x (a.entries i x h);
    store = record { inputs = λ i x h. b.store.inputs i x (a.store.inputs i x h); responses = λ i x h. b.store.responses i x (a.store.responses i x h) };
    ready = b.ready;
    limits = limits-further c d e a.limits b.limits;
  }

  goal-is : (c : SolverCx Handler) (i : InputId) (a : CanonicalInput) → StandsForInput c.store i a → goal_of c i ≡ asked_of (entries_of c) a
  goal-is c i a x = ap (asked_or_none (entries_of c)) x.1 ∙ ap (λ q. (q.mode, q.form)) (sym (same-goals (entries_of c) a x.0 x.2))

  pub goal-kept : (c : SolverCx Handler) (i : InputId) (a : CanonicalInput) → IsReady ready c → StandsForInput c.store i a → IsInput ready c i × (goal_of c i ≡ asked_of (entries_of c) a)
  goal-kept c i a now x = ((now, (x.0, x.1)), goal-is c i a x)

  pub answer-kept : (c : SolverCx Handler) (i : ResponseId) (r : CanonicalResponse) → IsReady ready c → StandsForResponse c.store i r → IsWellFormed (answer_trees (entries_of c) r)
      → ResponseIsMade ready c (Some i) × (answer_of c (Some i) ≡ Some (answer_trees (entries_of c) r))
  answer-kept c i r now x fits =
      let same = same-answers (entries_of c) r x.0 x.2 in
      ((now, (x.0, x.1, subst IsWellFormed same fits)), ap (option_map (answer_trees (entries_of c))) x.1 ∙ ap Some (sym same))

  -- the number of an answer is the store's
  pub is-there : (c : SolverCx Handler) (i : ResponseId) (r : Option ResponseId) → r ≡ Some i → ResponseIsMade ready c r → HasResponse c.store i
  is-there c i r e x = let y = subst (ResponseIsMade ready c) e x in (y.1.0, y.1.1)

  pub ready-there : (c : SolverCx Handler) (i : ResponseId) (r : Option ResponseId) → r ≡ Some i → ResponseIsMade ready c r → IsReady ready c
  ready-there c i r e x = (subst (ResponseIsMade ready c) e x).0

  -- what stands under the number is well-formed, and is the answer
  pub read-there : (c : SolverCx Handler) (i : ResponseId) (r : Option ResponseId) (kept : CanonicalResponse) → r ≡ Some i → ResponseIsMade ready c r → response_at c.store i ≡ Some kept
      → IsWellFormed (answer_trees (entries_of c) kept) × (answer_of c r ≡ Some (answer_trees (entries_of c) kept))
  read-there c i r kept e x at =
      let y = subst (ResponseIsMade ready c) e x in
      let same : y.1.0 ≡ kept = same_Some _ _ (sym y.1.1 ∙ at) in
      (subst (λ z. IsWellFormed (answer_trees (entries_of c) z)) same y.1.2, ap (answer_of c) e ∙ ap (option_map (answer_trees (entries_of c))) at)

module _ {Handler : Type 0} (m : HandlerMeaning Handler)
    (kept : (h : Handler) (old new : List Entry) → Keeps old new → m.IsReady h old → m.world h new ≡ m.world h old) where
  abbrev world : SolverCx Handler → m.goals.World
  world c = world_in m c

  abbrev Heard : SolverCx Handler → Asked → List (Reply (Option AnswerTrees)) → GoalFrame → Type 0
  Heard = FrameHasHeard m

  -- a result that is replied is kept
  abbrev Told : SolverCx Handler → Reply (Option AnswerTrees) → Type 0
  Told c = RepliedResultIs (IsKeptAnswer m.IsReady c)

  module _ (c d : SolverCx Handler) (now : IsReady m.IsReady c) (a : Advances m.IsReady c d) where
    pub told-there : (r : Reply (Option AnswerTrees)) → Told c r → Told d r
    told-there Begin h = tt
    told-there (Result o) h = kept-there m.IsReady c d a o h
    told-there Entered h = tt
    told-there (Finished n) h = tt
    told-there Ignored h = tt

    -- what was replied stays kept
    pub all-told : (heard : List (Reply (Option AnswerTrees))) → Every (Told c) heard → Every (Told d) heard
    all-told heard h = Every-mono (Told c) (Told d) told-there heard h

    pub same-world : world d ≡ world c
    same-world = ap (λ h. m.world h (entries_of d)) a.handler ∙ kept c.handler (entries_of c) (entries_of d) a.entries now.handler

    -- true notes stay true
    pub notes-later : (notes : List TraitRef) → StayNotes m c.handler (entries_of c) notes → StayNotes m d.handler (entries_of d) notes
    notes-later notes x = λ later k. subst (λ h. m.AreNotes h later notes) (sym a.handler) (x later (λ i e h. k i e (a.entries i e h)))

    frame-later : (g : Asked) (heard : List (Reply (Option AnswerTrees))) (f : GoalFrame) → Heard c g heard f → Heard d g heard f
    frame-later g heard f x = record {
      ready = a.ready;
      mode = x.mode;
      form = ap (λ q. q.1) (asked-later (entries_of c) (entries_of d) a.entries f.goal x.frame.held.goal) ∙ x.form;
      kept = let i = x.kept.0 in let j = input-later m.IsReady c d a i x.kept.1 in (i, j.0, j.1 ∙ x.kept.2);
      replies = all-told heard x.replies;
      due = subst (λ w. Search.AreReplies (bare m.goals) AnyAnswer w g heard) (sym same-world) x.due;
      frame = subst (λ w. Frames.HasHeard (entries_of d) (m.goals.handled w g.0 g.1) f (replies_of heard)) (sym same-world)
          (heard-later (entries_of c) (entries_of d) a.entries (m.goals.handled (world c) g.0 g.1) f (replies_of heard) x.frame);
      notes = notes-later f.notes.items x.notes;
    }

    pub keeps : Search.KeepsContext (solver_meaning m) c d
    keeps = record {
      world = same-world;
      inputs = λ i x. input-later m.IsReady c d a i x;
      results = λ r x. result-later m.IsReady c d a r x;
      frames = frame-later;
      held = lasting-later c d a.entries a.limits;
    }

  -- the frame of a goal that is kept
  pub started : (c : SolverCx Handler) (i : InputId) (a : CanonicalInput) (f : GoalFrame) → IsInput m.IsReady c i → StandsForInput c.store i a → f.goal ≡ a
      → Frames.HasHeard (entries_of c) (m.goals.handled (world c) (goal_of c i).0 (goal_of c i).1) f [] → StayNotes m c.handler (entries_of c) f.notes.items
      → Heard c (goal_of c i) [] f
  started c i a f x s e heard notes =
      let same = goal-is m.IsReady c i a s in
      record {
        ready = x.0;
        mode = ap (λ z. z.mode) e ∙ sym (ap (λ z. z.0) same);
        form = ap (form_of (entries_of c)) e ∙ sym (ap (λ z. z.1) same);
        kept = (i, x, refl);
        replies = tt;
        due = tt;
        frame = heard;
        notes = notes;
      }

-- What walks keep.
use Rattle.std.proofs.Common.{◌≡◌, ◌⊎◌, inl, inr, List, [], ◌∷◌, ◌++◌, refl, sym, subst, ◌∙◌, Option, None, Some, IfSome}
use Rattle.std.proofs.Math.Nat.{le_refl}
use Rattle.type_terms.specs.Promised.Handles.{Entry, Has, Keeps}
use Rattle.type_terms.specs.Terms.{args_lists}
use Rattle.type_terms.specs.Kept.{has-later}
use Rattle.term_folds.specs.declared.predicate.TraitRef.{TraitRef}
use Rattle.infer_table.specs.Content.{Table, Ready, Grows, variables_of}
use Rattle.infer_table.specs.Goals.{GoalHeld}
use Rattle.infer_table.specs.Growth.{grows-trans, grows-refl}
use Rattle.infer_table.specs.declared.goal.Goal.{Goal}
use Rattle.infer_table.proofs.Numbers.{goal-held-later}
use Rattle.infer_table.proofs.TableFacts.{ready-grow}
use Rattle.search_graph.specs.Meaning as Search
use Rattle.search_graph.specs.SearchState.{SearchState}
use Rattle.search_graph.proofs.Graphs.{Keeps-refl, Keeps-trans}
use Rattle.goal_frames.specs.Meanings.{HandlerMeaning}
use Rattle.search_graph.specs.Cache.{AreJustified}
use Rattle.goal_frames.specs.declared.store.InputId.{InputId}
use Rattle.solver_graph.specs.Contexts.{entries_of, IsInput, IsReady}
use Rattle.solver_graph.specs.Searching.{solver_meaning, of_term}
use Rattle.solver_graph.proofs.Caches.{justified-later}
use Rattle.solver_graph.specs.declared.context.SolverCx.{SolverCx}
use Rattle.explain_traces.specs.Walking.{KnownAnswers, WalkIsAskable, WalkHasAsked, IsWalkable, HasWalked, ReferencesHeld, GoalsHeld}

-- ---- handles of an interner that has grown
pub references-later : (old new : List Entry) → Keeps old new → (rs : List TraitRef) → ReferencesHeld old rs → ReferencesHeld new rs
references-later old new k [] h = tt
references-later old new k (r ∷ rs) h = (has-later old new k _ _ h.0, references-later old new k rs h.1)

pub references-push : (es : List Entry) (rs : List TraitRef) (r : TraitRef) → ReferencesHeld es rs → Has es args_lists r.args.0 → ReferencesHeld es (rs ++ r ∷ [])
references-push es [] r h x = (x, tt)
references-push es (y ∷ rs) r h x = (h.0, references-push es rs r h.1 x)

-- one more reference, or none
pub references-met : (es : List Entry) (rs more : List TraitRef) (r : TraitRef) → ReferencesHeld es rs → Has es args_lists r.args.0 → (more ≡ rs) ⊎ (more ≡ rs ++ r ∷ []) → ReferencesHeld es more
references-met es rs more r h x (inl e) = subst (ReferencesHeld es) (sym e) h
references-met es rs more r h x (inr e) = subst (ReferencesHeld es) (sym e) (references-push es rs r h x)

pub goals-later : (old new : List Entry) → Keeps old new → (gs : List Goal) → GoalsHeld old gs → GoalsHeld new gs
goals-later old new k [] h = tt
goals-later old new k (g ∷ gs) h = (goal-held-later old new k g h.0, goals-later old new k gs h.1)

pub goals-push : (es : List Entry) (gs : List Goal) (g : Goal) → GoalsHeld es gs → GoalHeld es g → GoalsHeld es (gs ++ g ∷ [])
goals-push es [] g h x = (x, tt)
goals-push es (y ∷ gs) g h x = (h.0, goals-push es gs g h.1 x)

-- a table of an interner that has grown
pub ready-later : (old new : List Entry) → Keeps old new → (t : Table) → Ready old t → Ready new t
ready-later old new k t r = ready-grow old new t t k (λ s. le_refl (variables_of t s)) refl refl r

-- ---- askings and walks, one after the other
module _ {Handler : Type 0} (handler : HandlerMeaning Handler) where
  pub asked-none : (g : SearchState) (c : SolverCx Handler) → WalkHasAsked handler g c g c
  asked-none g c = record { depth = refl; keeps = Keeps-refl (solver_meaning handler) c; entries = λ i x h. h }

  pub asked-further : (g h i : SearchState) (c d e : SolverCx Handler) → WalkHasAsked handler g c h d → WalkHasAsked handler h d i e → WalkHasAsked handler g c i e
  asked-further g h i c d e x y = record {
    depth = y.depth ∙ x.depth;
    keeps = Keeps-trans (solver_meaning handler) c d e x.keeps y.keeps;
    entries = λ j z p. y.entries j z (x.entries j z p);
  }

  pub walked-further : (g h i : SearchState) (c d e : SolverCx Handler) (t u v : Table) → HasWalked handler g c t h d u → HasWalked handler h d u i e v → HasWalked handler g c t i e v
  walked-further g h i c d e t u v x y = record { asked = asked-further g h i c d e x.asked y.asked; grows = grows-trans t u v x.grows y.grows }

  -- after a search
  pub askable-after : (graph : SearchState) (ks : KnownAnswers) (c d : SolverCx Handler) → Search.KeepsContext (solver_meaning handler) c d → (i : InputId) → IsInput handler.IsReady c i
      → graph.current_depth ≡ 0 → AreJustified (solver_meaning handler) d ks → WalkIsAskable handler graph ks d
  askable-after graph ks c d k i h e j = record { empty = e; cache = j; ready = (k.inputs i h).0.0 }

  pub asked-after : (graph left : SearchState) (c d : SolverCx Handler) → Search.KeepsContext (solver_meaning handler) c d → left.root_depth ≡ graph.root_depth → WalkHasAsked handler graph c left d
  asked-after graph left c d k e = record { depth = e; keeps = k; entries = λ i x h. k.held (of_term i x) h }

  -- where the context has grown alone
  pub askable-later : (graph : SearchState) (ks : KnownAnswers) (c d : SolverCx Handler) → Search.KeepsContext (solver_meaning handler) c d → IsReady handler.IsReady d
      → AreJustified (solver_meaning handler) d ks → WalkIsAskable handler graph ks c → WalkIsAskable handler graph ks d
  askable-later graph ks c d k r j x = record { empty = x.empty; cache = j; ready = r }

  -- goals can be walked after an asking, and where the context has grown alone
  pub walkable-asked : (g h : SearchState) (ks ls : KnownAnswers) (c d : SolverCx Handler) (t u : Table) (rs : List TraitRef) → IsWalkable handler g ks c t rs → WalkIsAskable handler h ls d
      → Keeps (entries_of c) (entries_of d) → Ready (entries_of d) u → IsWalkable handler h ls d u rs
  walkable-asked g h ks ls c d t u rs x a k r = record { askable = a; table = r; references = references-later (entries_of c) (entries_of d) k rs x.references }

  pub walkable-later : (graph : SearchState) (ks : KnownAnswers) (c d : SolverCx Handler) (t : Table) (rs : List TraitRef) → Search.KeepsContext (solver_meaning handler) c d → IsReady handler.IsReady d
      → IsWalkable handler graph ks c t rs → IsWalkable handler graph ks d t rs
  walkable-later graph ks c d t rs k r x =
      let same : Keeps (entries_of c) (entries_of d) = λ i e h. k.held (of_term i e) h in
      record {
        askable = askable-later graph ks c d k r (justified-later (solver_meaning handler) c d ks k x.askable.cache) x.askable;
        table = ready-later (entries_of c) (entries_of d) same t x.table;
        references = references-later (entries_of c) (entries_of d) same rs x.references;
      }

  pub walkable-met : (g : SearchState) (ks : KnownAnswers) (c : SolverCx Handler) (t : Table) (rs more : List TraitRef) (r : TraitRef) → IsWalkable handler g ks c t rs
      → Has (entries_of c) args_lists r.args.0 → (more ≡ rs) ⊎ (more ≡ rs ++ r ∷ []) → IsWalkable handler g ks c t more
  walkable-met g ks c t rs more r x h m = record { askable = x.askable; table = x.table; references = references-met (entries_of c) rs more r x.references h m }

  pub asked-grown : (g : SearchState) (c d : SolverCx Handler) → Search.KeepsContext (solver_meaning handler) c d → WalkHasAsked handler g c g d
  asked-grown g c d k = asked-after g g c d k refl

  pub walked-asked : (g h : SearchState) (c d : SolverCx Handler) (t : Table) → WalkHasAsked handler g c h d → HasWalked handler g c t h d t
  walked-asked g h c d t a = record { asked = a; grows = grows-refl t }

  -- where the table is put back to what it was
  pub walkable-back : (g h : SearchState) (ks ls : KnownAnswers) (c d : SolverCx Handler) (t v : Table) (rs ss : List TraitRef) → IsWalkable handler g ks c t rs → WalkIsAskable handler h ls d
      → ReferencesHeld (entries_of d) ss → WalkHasAsked handler g c h d → v ≡ t → IsWalkable handler h ls d v ss
  walkable-back g h ks ls c d t v rs ss x a r k e = record {
    askable = a;
    table = subst (Ready (entries_of d)) (sym e) (ready-later (entries_of c) (entries_of d) k.entries t x.table);
    references = r;
  }

  pub walked-back : (g h : SearchState) (c d : SolverCx Handler) (t v : Table) → WalkHasAsked handler g c h d → v ≡ t → HasWalked handler g c t h d v
  walked-back g h c d t v k e = record { asked = k; grows = subst (Grows t) (sym e) (grows-refl t) }

  -- where references stay
  pub walkable-same : (g : SearchState) (ks : KnownAnswers) (c : SolverCx Handler) (t : Table) (rs ss : List TraitRef) → IsWalkable handler g ks c t rs → ss ≡ rs → IsWalkable handler g ks c t ss
  walkable-same g ks c t rs ss x e = record { askable = x.askable; table = x.table; references = subst (ReferencesHeld (entries_of c)) (sym e) x.references }

  -- and where the context grows after a walk
  pub walked-grown : (g h : SearchState) (c d e : SolverCx Handler) (t u : Table) → HasWalked handler g c t h d u → Search.KeepsContext (solver_meaning handler) d e → HasWalked handler g c t h e u
  walked-grown g h c d e t u x k = record { asked = asked-further g h h c d e x.asked (asked-grown h d e k); grows = x.grows }

-- what an answer has, if there is one, becomes something else
pub some-later : {A : Type 0} (P Q : A → Type 0) → ((x : A) → P x → Q x) → (o : Option A) → IfSome o P → IfSome o Q
some-later P Q f None h = tt
some-later P Q f (Some x) h = f x h

-- Inference contexts over the search of a session.
use Rattle.std.specs.Prelude.{IfErr, OnErr, OnOk}
use Rattle.std.proofs.Common.{◌≡◌, ◌<◌, ◌∙◌, ◌||◌, ℕ, refl, sym, ap, subst, List, [], ◌++◌, get_or, length, All, Contains, Result, ◌⊎◌, inl, inr}
use Rattle.std.proofs.lemmas.Result.{IfErr-weaker}
use Rattle.type_terms.specs.Promised.Handles.{Entry, Keeps, SomeKindIsFull}
use Rattle.type_terms.specs.Promised.Label.{Sort}
use Rattle.type_terms.specs.Promised.Trees.{Trees}
use Rattle.type_terms.specs.Promised.Proofs.{HasProof}
use Rattle.type_terms.specs.Promised.Worlds.{World}
use Rattle.declarations.specs.Items.{written}
use Rattle.infer_table.specs.Content.{content, variables_of}
use Rattle.infer_table.specs.Goals.{goal_trees}
use Rattle.infer_table.specs.Growth.{grows-refl}
use Rattle.infer_table.specs.Kept.{ready-later}
use Rattle.infer_table.specs.Solutions.{Assignment, Solves}
use Rattle.infer_table.specs.Shortages.{EqFullAtLimit}
use Rattle.infer_table.specs.Unification.{table_trees}
use Rattle.infer_table.specs.declared.certainty.EqError.{EqError}
use Rattle.infer_table.proofs.SolutionLaws.{is_variable-self}
use Rattle.search_graph.specs.Cache.{AreJustified}
use Rattle.search_graph.specs.SearchState.{SearchState}
use Rattle.goal_evaluator.specs.Content.{Fact}
use Rattle.goal_evaluator.specs.Proof as Lists
use Rattle.goal_frames.specs.Stores.{kept_inputs, kept_responses, limit_of}
use Rattle.solver_graph.specs.Contexts.{KeepsLimits, entries_of}
use Rattle.solver_graph.specs.Roots.{fact_under}
use Rattle.solver_graph.specs.Searching.{of_limits, solver_meaning, world_in}
use Rattle.solver_graph.specs.declared.context.SolverCx.{SolverCx}
use Rattle.solver_graph.proofs.Caches.{justified-later}
use Rattle.solver_graph.proofs.Growing.{keeps}
use Rattle.candidate_model.specs.Facts.{clauses_of, reference_in}
use Rattle.candidate_model.proofs.Facts.{proofs-of-facts}
use Rattle.candidate_assembly.specs.Fitting.{solving_of}
use Rattle.candidate_assembly.specs.SolverLaws.{solver-laws}
use Rattle.candidate_assembly.specs.SolverMeaning.{solver_by_view}
use Rattle.candidate_assembly.specs.Solving.{Solving}
use Rattle.candidate_assembly.specs.declared.solver.Solver.{Solver}
use Rattle.fulfillment.specs.Leaving.{SomeIsOpen}
use Rattle.fulfillment.specs.Obligations.{SomeIsSpent, trees_of_goals}
use Rattle.fulfillment.specs.Selecting.{HasSelected, SomeStaysOpen}
use Rattle.fulfillment.specs.declared.obligation.Obligation.{Obligation}
use Rattle.fulfillment.specs.declared.obligation.Standing.TheVariants.{Done}
use Rattle.text_language.specs.Promised.Declarations.{Declarations}
use Rattle.sessions.specs.Promised.Shortages.{IsAtLimit, terms}
use Rattle.sessions.specs.Promised.Subjects.{Subject, StaysOn}
use Rattle.sessions.specs.Proving.{SolverAdvances}
use Rattle.sessions.specs.Resting.{Cached}
use Rattle.sessions.specs.Sessions.{IsSessionWithin, SolverRests}
use Rattle.sessions.proofs.Keeping.{limits-stay, session-kept, session-rests}
use Rattle.sessions.proofs.ShortCalls.{HoldsAs}
use Rattle.inference.specs.Inference.{Demand, proved, HaveNoSolutionWith, IsFaithfulTo, OwnVariables, SolvesDemands}
use Rattle.inference.specs.Inferring.{CanInfer, HasGrownFrom, HasOneMore, IsAsBefore, IsAskedFurther, ShowsSolutions, with_own_variable}
use Rattle.inference.specs.declared.context.Infer.{Infer}
use Rattle.inference.proofs.Calls.{can-same, faithful-same}
use Rattle.inference.proofs.Growing.{itself}
use Rattle.inference.proofs.Results.{either, on-err, on-ok}
use Rattle.session_inference.specs.Contexts.{CanInferIn, DoneHaveProofs, EquationAtLimit, HasOneMoreIn, HaveNoSolutionIn, IsAskedFurtherIn, IsContextOf, IsFaithfulIn, IsOverTerms, LeavesInferring, LetsRest, ShowsSolutionsIn, SomeIsUnsettledIn}
use Rattle.session_inference.proofs.Restored.{faithful-as}
use Rattle.session_inference.proofs.Solvings.{same-solving}

-- ---- sessions by their parts
abbrev pub subject : Declarations → ℕ → ℕ → ℕ → SolverCx Solver → SearchState → Subject
subject d c n h x g = record {
  declarations = d;
  of_crate = c;
  depth = n;
  handles = h;
  terms = x.interner.entries;
  goals = length (kept_inputs x.store);
  answers = length (kept_responses x.store);
  frames = g.frames;
}

-- The second context solves by the same, has kept the first one's terms and limits, and all is at rest in it.
pub record SearchGoesOn (n : ℕ) (x y : SolverCx Solver) (k : SearchState) (ls : Cached) : Type 0 where
  pub rest : SolverRests n y k ls
  pub solving : solving_of (entries_of y) y.handler.declarations ≡ solving_of (entries_of x) x.handler.declarations
  pub keeps : Keeps (entries_of x) (entries_of y)
  pub limits : KeepsLimits x y

pub stayed : (n : ℕ) (x : SolverCx Solver) (g : SearchState) (ks : Cached) → SolverRests n x g ks → SearchGoesOn n x x g ks
stayed n x g ks r = record { rest = r; solving = refl; keeps = λ i e h. h; limits = record { terms = refl; kept = refl } }

-- the graph is as it was
pub advanced : (n : ℕ) (x y : SolverCx Solver) (g k : SearchState) (ks ls : Cached) → SolverRests n x g ks → k ≡ g → SolverAdvances x y → AreJustified (solver_meaning solver_by_view) y ls → SearchGoesOn n x y k ls
advanced n x y g k ks ls r e a cached = record {
  rest = record { empty = ap (λ (z : SearchState). z.current_depth) e ∙ r.empty; depth = ap (λ (z : SearchState). z.root_depth) e ∙ r.depth; cached = cached; ready = a.ready };
  solving = (keeps solver_by_view solver-laws.world_kept x y r.ready a).world;
  keeps = a.entries;
  limits = a.limits;
}

-- and the cache
pub grown : (n : ℕ) (x y : SolverCx Solver) (g : SearchState) (ks : Cached) → SolverRests n x g ks → SolverAdvances x y → SearchGoesOn n x y g ks
grown n x y g ks r a = advanced n x y g g ks ks r refl a (justified-later (solver_meaning solver_by_view) x y ks (keeps solver_by_view solver-laws.world_kept x y r.ready a) r.cached)

-- a context in a search with another graph, in which no goal is being evaluated
pub over-graph : (g k : SearchState) (ls : Cached) (y : SolverCx Solver) (j : Infer) → g.current_depth ≡ 0 → CanInfer solver_by_view k ls y j → CanInfer solver_by_view g ls y j
over-graph g k ls y j empty can = record {
  select = record { empty = empty; cache = can.select.cache; ready = can.select.ready; table = can.select.table; goals = can.select.goals };
  values = can.values;
  goals = can.goals;
}

pub selected : (n : ℕ) (x y : SolverCx Solver) (g k : SearchState) (ks ls : Cached) (i j : Infer) → SolverRests n x g ks → CanInfer solver_by_view k ls y j
    → HasSelected solver_by_view i.mode g ks x i.table i.goals.obligations.items k ls y j.table j.goals.obligations.items → SearchGoesOn n x y k ls
selected n x y g k ks ls i j r can s = record {
  rest = record { empty = can.select.empty; depth = s.asked.depth ∙ r.depth; cached = can.select.cache; ready = can.select.ready };
  solving = s.asked.keeps.world;
  keeps = s.asked.entries;
  limits = let same = s.asked.keeps.held (of_limits x.interner.limit (limit_of x.store)) (refl, refl) in record { terms = same.0; kept = same.1 };
}

-- ---- what a context is faithful to depends on the terms, and on what is solved by
module _ (x y : SolverCx Solver) (i : Infer) (entries : entries_of y ≡ entries_of x) (world : world_in solver_by_view y ≡ world_in solver_by_view x) where
  abbrev os : List Obligation
  os = i.goals.obligations.items

  abbrev AreProvedBy : Solving → List Entry → Type 0
  AreProvedBy w es =
      All (λ (o : Obligation). o.standing ≡ Done → (s : Assignment) → Solves s (content es i.table.values)
      → Lists.FactHasProof Fact (solver_by_view.goals.Rule w) (solver_by_view.goals.coinductive w) (fact_under s (goal_trees es o.goal))) os

  pub faithful-by : (own : OwnVariables) (asked : List Demand) → IsFaithfulTo solver_by_view own asked x i → IsFaithfulTo solver_by_view own asked y i
  faithful-by own asked f = record {
    own_known = f.own_known;
    asked_known = f.asked_known;
    registered = subst (λ (es : List Entry). All (λ (o : Obligation). Contains asked (proved (goal_trees es o.goal))) os) (sym entries) f.registered;
    covers =
        λ s h.
        let z = f.covers s (subst (λ (w : Solving). SolvesDemands solver_by_view i.mode w own asked s) world h) in
        (z.0, z.1, subst (λ (es : List Entry). Solves z.0 (content es i.table.values)) (sym entries) z.2);
    equations = λ s h. f.equations s (subst (λ (es : List Entry). Solves s (content es i.table.values)) entries h);
    done = subst (λ (es : List Entry). AreProvedBy (world_in solver_by_view y) es) (sym entries) (subst (λ (w : Solving). AreProvedBy w (entries_of x)) (sym world) f.done);
  }

-- ---- a session
module _ (d : Declarations) (c n h : ℕ) (x : SolverCx Solver) (g : SearchState) (ks : Cached) (is : IsSessionWithin d c n h x g ks) where
  pub own-context : IsContextOf (subject d c n h x g) x
  own-context = record { terms = refl; solving = is.session.solving }

  pub faithful-in : (own : OwnVariables) (asked : List Demand) (i : Infer) → IsFaithfulTo solver_by_view own asked x i → IsFaithfulIn own asked (subject d c n h x g) i
  faithful-in own asked i f y of = faithful-by x y i of.terms (same-solving d c _ _ of.solving is.session.solving) own asked f

  pub rests-here : SolverRests g.root_depth x g ks
  rests-here = session-rests d c n x g ks is.session

  -- what can be used in the session can be used in the search, and the converse
  pub infers : (i : Infer) → CanInferIn (subject d c n h x g) i → CanInfer solver_by_view g ks x i
  infers i can = record {
    select = record { empty = is.session.rest.empty; cache = is.session.rest.cached; ready = is.session.rest.ready; table = can.over.table; goals = can.over.held };
    values = can.over.values;
    goals = can.over.goals;
  }

  pub over-by : (i : Infer) → CanInfer solver_by_view g ks x i → IsOverTerms (entries_of x) i
  over-by i can = record { table = can.select.table; held = can.select.goals; values = can.values; goals = can.goals }

  pub never-in : (further : List Demand) (i : Infer) → HaveNoSolutionWith solver_by_view further x i → HaveNoSolutionIn further (subject d c n h x g) i
  never-in further i never own asked f v s =
      never own asked (f x own-context) v
      (subst (λ (w : Solving). SolvesDemands solver_by_view i.mode w own (further ++ asked) v) (same-solving d c s.0 _ s.1 is.session.solving) s.2)

  pub unsettled-in : (i : Infer) → SomeIsSpent i.goals.obligations.items ⊎ SomeStaysOpen solver_by_view i.mode g x i.table i.goals.obligations.items → SomeIsUnsettledIn (subject d c n h x g) i
  unsettled-in i (inl spent) = inl spent
  unsettled-in i (inr left) =
      inr (
        solving_of (entries_of x) x.handler.declarations,
        is.session.solving,
        subst (λ depth. SomeIsOpen solver_by_view i.mode (world_in solver_by_view x) depth (trees_of_goals (entries_of x) i.goals.obligations.items) (table_trees (entries_of x) i.table)) is.session.rest.depth
            left,
      )

  pub shows-in : (i : Infer) (t shown : Trees) → ShowsSolutions solver_by_view x i t shown → ShowsSolutionsIn (subject d c n h x g) i t shown
  shows-in i t shown shows own asked f alone v s =
      shows own asked (f x own-context) alone v
      (subst (λ (w : Solving). SolvesDemands solver_by_view i.mode w own asked v) (same-solving d c s.0 _ s.1 is.session.solving) s.2)

-- ---- a session whose search goes on
module _ (d : Declarations) (c n h : ℕ) (x y : SolverCx Solver) (g k : SearchState) (ks ls : Cached) (is : IsSessionWithin d c n h x g ks) (on : SearchGoesOn g.root_depth x y k ls) where
  abbrev old : Subject
  old = subject d c n h x g

  abbrev new : Subject
  new = subject d c n h y k

  pub within : IsSessionWithin d c n h y k ls
  within = record {
    session = session-kept d c n x g ks is.session y k ls on.solving on.rest;
    limits = limits-stay h x y is.limits on.limits;
  }

  pub holds-as : HoldsAs y new
  holds-as = record { terms = refl; goals = refl; answers = refl; limits = limits-stay h x y is.limits on.limits }

  pub stays-on : StaysOn old new
  stays-on = record { declarations = refl; of_crate = refl; depth = refl; handles = refl; terms = on.keeps }

  pub further-in : (further : List Demand) (i j : Infer) → IsAskedFurther solver_by_view further x i y j → IsAskedFurtherIn further old i new j
  further-in further i j f own asked faithful =
      faithful-in d c n h y k ls within own (further ++ asked) j (f own asked (faithful x (own-context d c n h x g ks is)))

  pub more-in : (s : Sort) (v : ℕ) (i j : Infer) → HasOneMore solver_by_view s v x i y j → HasOneMoreIn s v old i new j
  more-in s v i j f own asked faithful =
      faithful-in d c n h y k ls within (with_own_variable own s v) asked j (f own asked (faithful x (own-context d c n h x g ks is)))

  -- contexts that rest
  rests-faithful : (i : Infer) → CanInfer solver_by_view g ks x i → IsAskedFurther solver_by_view [] x i y i
  rests-faithful i can =
      faithful-same solver_by_view g ks x i can y on.keeps i.table (grows-refl i.table) (ready-later (entries_of x) (entries_of y) i.table on.keeps can.select.table) refl on.solving

  rests-can : (i : Infer) → CanInfer solver_by_view g ks x i → CanInfer solver_by_view k ls y i
  rests-can i can =
      can-same solver_by_view g ks x i can y on.keeps i.table (grows-refl i.table) (ready-later (entries_of x) (entries_of y) i.table on.keeps can.select.table) refl
      k ls on.rest.empty on.rest.cached on.rest.ready

  pub rests-further : (i : Infer) → CanInferIn old i → IsAskedFurtherIn [] old i new i
  rests-further i can = further-in [] i i (rests-faithful i (infers d c n h x g ks is i can))

  pub lets-rest : LetsRest old new
  lets-rest = record {
    can =
        λ i can.
        let f = can.faithful in
        record {
          over = over-by d c n h y k ls within i (rests-can i (infers d c n h x g ks is i can));
          mode = can.mode;
          faithful = (f.0, f.1, rests-further i can f.0 f.1 f.2);
        };
    faithful = rests-further;
  }

  -- ---- what a call leaves
  module _ (i j : Infer) (can : CanInferIn old i) (next : CanInfer solver_by_view k ls y j) (grows : HasGrownFrom i j) where
    abbrev pub IsFaithfulThere : Type 0
    IsFaithfulThere = (own : OwnVariables) × (asked : List Demand) × IsFaithfulIn own asked new j

    -- what is done has proofs
    pub done-proved : IsFaithfulThere → DoneHaveProofs new j
    done-proved f p o within_it e v solves plain =
        let V = written (entries_of y) y.handler.declarations in
        let fact = fact_under v (goal_trees (entries_of y) (get_or j.goals.obligations.items p o).goal) in
        let proof = (f.2 y (own-context d c n h y k ls within)).done p o within_it e v solves in
        subst (λ (W : World). HasProof W (clauses_of fact.goal.environment) (reference_in fact)) within.session.view.written (proofs-of-facts V fact refl plain proof)

    leaves-with : IsFaithfulThere → LeavesInferring old i new j
    leaves-with f = record {
      can = record { over = over-by d c n h y k ls within j next; mode = grows.mode ∙ can.mode; faithful = f };
      stays = stays-on;
      grows = grows;
      rests = lets-rest;
    }

    as-before : j ≡ i → IsFaithfulThere
    as-before same = let f = can.faithful in subst (λ (z : Infer). (own : OwnVariables) × (asked : List Demand) × IsFaithfulIn own asked new z) (sym same) (f.0, f.1, rests-further i can f.0 f.1 f.2)

    -- a call that asks further, or refuses and changes nothing
    pub leaves-asked : (further : List Demand) → IsAskedFurther solver_by_view further x i y j → LeavesInferring old i new j
    leaves-asked further f = let e = can.faithful in leaves-with (e.0, further ++ e.1, further-in further i j f e.0 e.1 e.2)

    pub leaves-either : {T E : Type 0} (r : Result T E) (further : List Demand) → OnOk r (IsAskedFurther solver_by_view further x i y j) → OnErr r (j ≡ i) → LeavesInferring old i new j
    leaves-either r further p q =
        let e = can.faithful in
        leaves-with
        (either r IsFaithfulThere (on-ok r _ IsFaithfulThere (λ f. (e.0, further ++ e.1, further-in further i j f e.0 e.1 e.2)) p)
        (on-err r _ IsFaithfulThere as-before q))

    pub leaves-registered : {T E : Type 0} (r : Result T E) (further : List Demand) → OnOk r (IsAskedFurther solver_by_view further x i y j) → OnErr r (IsAsBefore i j) → LeavesInferring old i new j
    leaves-registered r further p q =
        let e = can.faithful in
        leaves-with
        (either r IsFaithfulThere (on-ok r _ IsFaithfulThere (λ f. (e.0, further ++ e.1, further-in further i j f e.0 e.1 e.2)) p)
        (on-err r _ IsFaithfulThere
        (λ same. let f = (lets-rest.can i can).faithful in (f.0, f.1, λ z of. faithful-as i j same f.0 f.1 z (f.2 z of))) q))

    pub leaves-more : {T E : Type 0} (r : Result T E) (s : Sort) (v : ℕ) → OnOk r (HasOneMore solver_by_view s v x i y j) → OnErr r (j ≡ i) → LeavesInferring old i new j
    leaves-more r s v p q =
        let e = can.faithful in
        leaves-with
        (either r IsFaithfulThere (on-ok r _ IsFaithfulThere (λ f. (with_own_variable e.0 s v, e.1, more-in s v i j f e.0 e.1 e.2)) p)
        (on-err r _ IsFaithfulThere as-before q))

    -- a new variable is one of the table
    pub is-known : (s : Sort) (v : ℕ) → HasOneMore solver_by_view s v x i y j → v < variables_of j.table s
    is-known s v f =
        let e = can.faithful in
        (more-in s v i j f e.0 e.1 e.2 y (own-context d c n h y k ls within)).own_known s v (ap (λ b. b || e.0 s v) (is_variable-self s v))

pub full-of : (s : Subject) (x : SolverCx Solver) → HoldsAs x s → SomeKindIsFull (entries_of x) x.interner.limit → IsAtLimit s
full-of s x h k = terms (subst (λ (es : List Entry). SomeKindIsFull es s.handles) (sym h.terms) (subst (SomeKindIsFull (entries_of x)) h.limits.terms k))

-- an equation fails with `Full` only if its session is at a limit
pub equation-at-limit : {T : Type 0} (s : Subject) (x : SolverCx Solver) → HoldsAs x s → (r : Result T EqError) → IfErr r (EqFullAtLimit x.interner) → IfErr r (EquationAtLimit s)
equation-at-limit s x h r p =
    IfErr-weaker r (EqFullAtLimit x.interner) (EquationAtLimit s)
    (λ error k q. full-of s x h (k q)) p

-- ---- calls one after the other
stays-further : (r s t : Subject) → StaysOn r s → StaysOn s t → StaysOn r t
stays-further r s t x y = record {
  declarations = y.declarations ∙ x.declarations;
  of_crate = y.of_crate ∙ x.of_crate;
  depth = y.depth ∙ x.depth;
  handles = y.handles ∙ x.handles;
  terms = λ i z p. y.terms i z (x.terms i z p);
}

-- the context rests
pub rests-leaves : (s t : Subject) (i : Infer) → CanInferIn s i → StaysOn s t → LetsRest s t → LeavesInferring s i t i
rests-leaves s t i can stays rests = record { can = rests.can i can; stays = stays; grows = itself i; rests = rests }

-- and is used then
pub leaves-after : (s t u : Subject) (i j : Infer) → StaysOn s t → LetsRest s t → LeavesInferring t i u j → LeavesInferring s i u j
leaves-after s t u i j stays rests l = record {
  can = l.can;
  stays = stays-further s t u stays l.stays;
  grows = l.grows;
  rests = record {
    can = λ k can. l.rests.can k (rests.can k can);
    faithful = λ k can own asked f. l.rests.faithful k (rests.can k can) own asked (rests.faithful k can own asked f);
  };
}

pub asked-after : (s t u : Subject) (i j : Infer) (further : List Demand) → CanInferIn s i → LetsRest s t → IsAskedFurtherIn further t i u j → IsAskedFurtherIn further s i u j
asked-after s t u i j further can rests f own asked faithful = f own asked (rests.faithful i can own asked faithful)

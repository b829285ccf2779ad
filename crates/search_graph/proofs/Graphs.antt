-- Proof graphs over stacks, and what stacks, caches and runs preserve.
use Rattle.std.proofs.Common.{◌≡◌, ℕ, ◌+◌, ◌↔◌, Bool, true, false, cond, List, [], ◌∷◌, ◌++◌, inl, inr, refl, sym, ◌∙◌, ap, subst, Option, Some, None, MatchOption, zero, suc, arith, take, drop, length, unwrap_or}
use Rattle.std.proofs.Common.{get_or, slice_get}
use Rattle.std.proofs.lemmas.Option.{slice_get_within, get_or_from_slice_get, MatchOption-at_some}
use Rattle.std.proofs.lemmas.List.{append-nil, length-take-le}
use Rattle.std.proofs.Math.Seq.{split_at}
use Rattle.std.proofs.Math.Numerals.{add-one}
use Rattle.search_paths.specs.declared.path_kind.PathKind.{PathKind}
use Rattle.search_paths.specs.declared.path_kind.PathKind.TheVariants.{Inductive, Coinductive}
use Rattle.search_graph.specs.declared.stack.StackEntry.{StackEntry}
use Rattle.search_graph.specs.declared.cache.CacheEntry.{CacheEntry}
use Rattle.search_paths.specs.Path.{greater}
use Rattle.search_graph.specs.declared.delegate.Request.{Request}
use Rattle.search_graph.specs.declared.delegate.Request.TheVariants.{Evaluate, EnterCandidate, FinishCandidate, IgnoreCandidate, Done}
use Rattle.search_graph.specs.declared.delegate.Reply.{Reply}
use Rattle.search_graph.specs.declared.delegate.Reply.TheVariants.{Begin, Result, Entered, Finished, Ignored}
use Rattle.search_graph.specs.Meaning.{Meaning, KeepsContext, IsLawful, IsFair, IsReplyBy, Steps, premises, premises_back, premise_of, finished, answer_count, request_of, reply_of, IsDue, IsDueAt, IsDueAfter, IsInOrder, has_open_candidate}
use Rattle.search_graph.specs.Computed.{Hears, nothing, also, given, computed, IsGiven, HoldsNoResult, IsComputed, MakesMisstep, here}
use Rattle.search_graph.specs.Shown.{Shown, none, loop, rule}
use Rattle.search_paths.specs.KeptPaths.{indices, kind_of, kept_path, AreKept, AreBelow}
use Rattle.search_graph.specs.Rests.{ShownFor, DerivedFor}
use Rattle.search_paths.specs.Heads.{RestsOn, AreHeadsBut}
use Rattle.search_graph.specs.Question.{IsRunOver}
use Rattle.search_paths.specs.declared.dependencies.CycleHead.{CycleHead}
use Rattle.search_graph.specs.Faithful.{IsKept}
use Rattle.search_graph.specs.Stack.{question_of, steps_of, IsNextRun, IsStack, IsEntry, IsProvisional, IsAnswer, IsRunning, IsCached, AreCached, HasBegun, kind_after, yes_questions}
use Rattle.search_paths.proofs.HeadFacts.{but_kept, below_more, heads_but, below_but}
use Rattle.search_graph.proofs.Keeping.{append_one, left_last, runs_end, runs_answer, last_results_serve, initial_results_serve, headless_serve, derived_anywhere}

-- one more question
pub Shown-cons : {G : Type 0} (Follows : G → List (G × PathKind) → Type 0) {path rest : List (G × PathKind)} (q : G × PathKind) → Shown G Follows path (q ∷ []) → Shown G Follows path rest → Shown G Follows path (q ∷ rest)
Shown-cons Follows q (loop l none) more = loop l more
Shown-cons Follows q (rule f below none) more = rule f below more

-- the other questions
pub Shown-rest : {G : Type 0} (Follows : G → List (G × PathKind) → Type 0) {path rest : List (G × PathKind)} {q : G × PathKind} → Shown G Follows path (q ∷ rest) → Shown G Follows path rest
Shown-rest Follows (loop l rest) = rest
Shown-rest Follows (rule f below rest) = rest

pub Shown-replace : {G : Type 0} (Follows : G → List (G × PathKind) → Type 0) {path xs ys : List (G × PathKind)} {q : G × PathKind} → (Shown G Follows path xs → Shown G Follows path ys)
    → Shown G Follows path (q ∷ xs) → Shown G Follows path (q ∷ ys)
Shown-replace Follows f (loop l rest) = loop l (f rest)
Shown-replace Follows f (rule g below rest) = rule g below (f rest)

MatchOption-weaker : {A : Type 0} (o : Option A) (P Q : A → Type 0) → ((x : A) → P x → Q x) → MatchOption o (Unit {0}) P → MatchOption o (Unit {0}) Q
MatchOption-weaker None P Q f h = h
MatchOption-weaker (Some x) P Q f h = f x h

pub split_some : {X : Type 0} (es : List X) (i : ℕ) (e : X) → slice_get es i ≡ Some e → es ≡ take i es ++ e ∷ drop (i + 1) es
split_some es i e h = rw add-one (let s = split_at es i e (slice_get_within es i e h) in rw (get_or_from_slice_get es i e e h) at s)

module _ {C I R F : Type 0} (m : Meaning C I R F) where
  pub steps_of-append : (c : C) (xs ys : List (StackEntry I R)) → steps_of m c (xs ++ ys) ≡ steps_of m c xs ++ steps_of m c ys
  steps_of-append c [] ys = refl
  steps_of-append c (x ∷ xs) ys = ap (λ l. question_of m c x ∷ l) (steps_of-append c xs ys)

  pub length-steps_of : (c : C) (es : List (StackEntry I R)) → length (steps_of m c es) ≡ length es
  length-steps_of c [] = refl
  length-steps_of c (e ∷ es) = ap suc (length-steps_of c es)

  pub step_at : (c : C) (es : List (StackEntry I R)) (i : ℕ) (e : StackEntry I R) → slice_get es i ≡ Some e → slice_get (steps_of m c es) i ≡ Some (question_of m c e)
  step_at c [] i e h = let none : None ≡ Some e = h in absurd cc
  step_at c (x ∷ es) zero e h = let is : x ≡ e = (let s : Some x ≡ Some e = h in cc) in ap (λ z. Some (question_of m c z)) is
  step_at c (x ∷ es) (suc i) e h = step_at c es i e h

  kind_of-steps : (c : C) (es : List (StackEntry I R)) (k : PathKind) → kind_of (steps_of m c es) k ≡ kind_after es k
  kind_of-steps c [] k = refl
  kind_of-steps c (e ∷ es) k = ap (greater e.step_kind) (kind_of-steps c es k)

  pub steps_split : (c : C) (es : List (StackEntry I R)) (i : ℕ) (e : StackEntry I R) → slice_get es i ≡ Some e → steps_of m c es ≡ steps_of m c (take i es) ++ question_of m c e ∷ steps_of m c (drop (i + 1) es)
  steps_split c es i e h = ap (steps_of m c) (split_some es i e h) ∙ steps_of-append c (take i es) (e ∷ drop (i + 1) es)

  pub steps_before : (c : C) (es : List (StackEntry I R)) (i : ℕ) (e : StackEntry I R) → slice_get es i ≡ Some e → length (steps_of m c (take i es)) ≡ i
  steps_before c es i e h = let within = slice_get_within es i e h in length-steps_of c (take i es) ∙ length-take-le i es (omega (arith, within))

  pub IsStack-append : (w : m.World) (c : C) (xs ys : List (StackEntry I R)) (steps : List (m.Goal × PathKind)) → IsStack m w steps c (xs ++ ys) → IsStack m w (steps ++ steps_of m c xs) c ys
  IsStack-append w c [] ys steps h = subst (λ l. IsStack m w l c ys) (sym (append-nil steps)) h
  IsStack-append w c (x ∷ xs) ys steps h = subst (λ l. IsStack m w l c ys) (append_one steps (question_of m c x) (steps_of m c xs)) (IsStack-append w c xs ys (steps ++ question_of m c x ∷ []) h.1)

  pub IsEntry-at : (w : m.World) (c : C) (es : List (StackEntry I R)) (i : ℕ) (e : StackEntry I R) → slice_get es i ≡ Some e → IsStack m w [] c es → IsEntry m w (steps_of m c (take i es)) c e
  IsEntry-at w c es i e h s = (IsStack-append w c (take i es) (e ∷ drop (i + 1) es) [] (subst (λ l. IsStack m w [] c l) (split_some es i e h) s)).0

  -- what is read of a goal of the stack lies on the stack
  read_below : (w : m.World) (c : C) (es : List (StackEntry I R)) (i : ℕ) (e : StackEntry I R) → slice_get es i ≡ Some e → IsStack m w [] c es → AreBelow (length (steps_of m c es)) (i ∷ e.heads.items)
  read_below w c es i e at stack =
      let entry = IsEntry-at w c es i e at stack in
      let before = steps_before c es i e at in
      let within = slice_get_within es i e at in
      let all = length-steps_of c es in
      (omega (arith, within, all), below_more (length (steps_of m c (take i es))) (length (steps_of m c es)) e.heads.items (omega (arith, before, within, all)) entry.below)

  -- the reply to a question on a goal of the stack that has no result yet
  pub initial_answers : IsLawful m → (w : m.World) (c d : C) (es : List (StackEntry I R)) (i : ℕ) (e : StackEntry I R) (x : I) (j k : PathKind) (r : R)
      → slice_get es i ≡ Some e → e.input ≡ x → j ≡ kind_after (drop (i + 1) es) k → IsStack m w [] c es
      → m.IsResult d r → m.answer_of d r ≡ m.initial w (m.goal_of c x) j
      → IsAnswer m w (steps_of m c es) (m.goal_of c x, k) (i ∷ e.heads.items) d r
  initial_answers law w c d es i e x j k r at same kind stack known is = record {
    known = known;
    fair = rw is (law.initial_fair w (m.goal_of c x) j);
    source = rw is (record { how = inl (inr (inr (j, refl))) });
    below = read_below w c es i e at stack;
    yes = λ y.
        let j_is : j ≡ Coinductive = law.initial w (m.goal_of c x) j (rw is at y) in
        let shown = initial_results_serve (m.Follows w) (steps_of m c (take i es)) (steps_of m c (drop (i + 1) es)) (m.goal_of c e.input) e.step_kind k (kind_of-steps c (drop (i + 1) es) k ∙ sym kind ∙ j_is) in
        let over : ShownFor m.Goal (m.Follows w) (i ∷ e.heads.items) (steps_of m c es) (m.goal_of c e.input) k =
        subst (λ l. ShownFor m.Goal (m.Follows w) (i ∷ e.heads.items) l (m.goal_of c e.input) k) (sym (steps_split c es i e at))
        (λ kept all. shown kept (subst (λ n. kept n ≡ true) (sym (steps_before c es i e at)) all.0, tt))
        in
        subst (λ z. ShownFor m.Goal (m.Follows w) (i ∷ e.heads.items) (steps_of m c es) (m.goal_of c z) k) same over;
  }

  -- the reply to a question on a goal of the stack with a result
  pub last_answers : (w : m.World) (c d : C) (es : List (StackEntry I R)) (i : ℕ) (e : StackEntry I R) (x : I) (k : PathKind) (r : R)
      → slice_get es i ≡ Some e → e.input ≡ x → e.provisional_result ≡ Some r → IsStack m w [] c es → KeepsContext m c d
      → IsAnswer m w (steps_of m c es) (m.goal_of c x, k) (i ∷ e.heads.items) d r
  last_answers w c d es i e x k r at same last stack keeps =
      let entry = IsEntry-at w c es i e at stack in
      let result : IsProvisional m w (steps_of m c (take i es)) (question_of m c e) e.heads.items c r = MatchOption-at_some (Unit {0}) (IsProvisional m w (steps_of m c (take i es)) (question_of m c e) e.heads.items c) r last entry.last in
      record {
        known = (keeps.results r result.known).0;
        fair = rw ((keeps.results r result.known).1, ← same) result.fair;
        source = rw ((keeps.results r result.known).1, ← same) result.source;
        below = read_below w c es i e at stack;
        yes = λ y.
            let derived = result.yes (rw (keeps.results r result.known).1 at y) in
            let shown = last_results_serve (m.Follows w) e.heads.items (steps_of m c (take i es)) (steps_of m c (drop (i + 1) es)) (m.goal_of c e.input) e.step_kind k derived in
            let over : ShownFor m.Goal (m.Follows w) (i ∷ e.heads.items) (steps_of m c es) (m.goal_of c e.input) k =
            subst (λ l. ShownFor m.Goal (m.Follows w) (i ∷ e.heads.items) l (m.goal_of c e.input) k) (sym (steps_split c es i e at))
            (λ kept all. shown kept (subst (λ n. kept n ≡ true) (sym (steps_before c es i e at)) all.0, all.1))
            in
            subst (λ z. ShownFor m.Goal (m.Follows w) (i ∷ e.heads.items) (steps_of m c es) (m.goal_of c z) k) same over;
      }

  pub Keeps-refl : (c : C) → KeepsContext m c c
  Keeps-refl c = record { world = refl; inputs = λ i h. (h, refl); results = λ r h. (h, refl); frames = λ g heard f h. h; held = λ x h. h }

  pub Keeps-trans : (a b c : C) → KeepsContext m a b → KeepsContext m b c → KeepsContext m a c
  Keeps-trans a b c k l = record {
    world = l.world ∙ k.world;
    inputs = λ i h. ((l.inputs i (k.inputs i h).0).0, (l.inputs i (k.inputs i h).0).1 ∙ (k.inputs i h).1);
    results = λ r h. ((l.results r (k.results r h).0).0, (l.results r (k.results r h).0).1 ∙ (k.results r h).1);
    frames = λ g heard f h. l.frames g heard f (k.frames g heard f h);
    held = λ x h. l.held x (k.held x h);
  }

  pub question-keeps : (c d : C) (e : StackEntry I R) → KeepsContext m c d → m.IsInput c e.input → question_of m d e ≡ question_of m c e
  question-keeps c d e keeps known = ap (λ z. (z, e.step_kind)) (keeps.inputs e.input known).1

  pub IsProvisional-keeps : (w : m.World) (steps : List (m.Goal × PathKind)) (q : m.Goal × PathKind) (heads : List ℕ) (c d : C) (r : R) → KeepsContext m c d → IsProvisional m w steps q heads c r → IsProvisional m w steps q heads d r
  IsProvisional-keeps w steps q heads c d r keeps h = record {
    known = (keeps.results r h.known).0;
    fair = rw (keeps.results r h.known).1 h.fair;
    source = rw (keeps.results r h.known).1 h.source;
    yes = λ y. h.yes (rw (keeps.results r h.known).1 at y);
  }

  pub IsEntry-keeps : (w : m.World) (steps : List (m.Goal × PathKind)) (c d : C) (e : StackEntry I R) → KeepsContext m c d → IsEntry m w steps c e → IsEntry m w steps d e
  IsEntry-keeps w steps c d e keeps h = record {
    known = (keeps.inputs e.input h.known).0;
    below = h.below;
    last = MatchOption-weaker e.provisional_result (IsProvisional m w steps (question_of m c e) e.heads.items c) (IsProvisional m w steps (question_of m d e) e.heads.items d)
        (λ r p. rw (question-keeps c d e keeps h.known) (IsProvisional-keeps w steps (question_of m c e) e.heads.items c d r keeps p)) h.last;
  }

  pub IsStack-keeps : (w : m.World) (steps : List (m.Goal × PathKind)) (c d : C) (es : List (StackEntry I R)) → KeepsContext m c d → IsStack m w steps c es → IsStack m w steps d es
  IsStack-keeps w steps c d [] keeps h = h
  IsStack-keeps w steps c d (e ∷ es) keeps h = (
    IsEntry-keeps w steps c d e keeps h.0,
    subst (λ q. IsStack m w (steps ++ q ∷ []) d es) (sym (question-keeps c d e keeps h.0.known)) (IsStack-keeps w (steps ++ question_of m c e ∷ []) c d es keeps h.1),
  )

  pub steps-keep : (w : m.World) (steps : List (m.Goal × PathKind)) (c d : C) (es : List (StackEntry I R)) → KeepsContext m c d → IsStack m w steps c es → steps_of m d es ≡ steps_of m c es
  steps-keep w steps c d [] keeps h = refl
  steps-keep w steps c d (e ∷ es) keeps h =
      ap (λ q. q ∷ steps_of m d es) (question-keeps c d e keeps h.0.known) ∙ ap (λ l. question_of m c e ∷ l) (steps-keep w (steps ++ question_of m c e ∷ []) c d es keeps h.1)

  pub IsStack-later : (c d : C) (es : List (StackEntry I R)) → KeepsContext m c d → IsStack m (m.world c) [] c es → IsStack m (m.world d) [] d es
  IsStack-later c d es keeps h = rw keeps.world (IsStack-keeps (m.world c) [] c d es keeps h)

  IsStack-push_on : (w : m.World) (steps : List (m.Goal × PathKind)) (c : C) (es : List (StackEntry I R)) (e : StackEntry I R) → IsStack m w steps c es → IsEntry m w (steps ++ steps_of m c es) c e → IsStack m w steps c (es ++ e ∷ [])
  IsStack-push_on w steps c [] e h last = (subst (λ l. IsEntry m w l c e) (append-nil steps) last, tt)
  IsStack-push_on w steps c (x ∷ es) e h last = (
    h.0,
    IsStack-push_on w (steps ++ question_of m c x ∷ []) c es e h.1 (subst (λ l. IsEntry m w l c e) (sym (append_one steps (question_of m c x) (steps_of m c es))) last),
  )

  pub IsStack-push : (w : m.World) (c : C) (es : List (StackEntry I R)) (e : StackEntry I R) → IsStack m w [] c es → IsEntry m w (steps_of m c es) c e → IsStack m w [] c (es ++ e ∷ [])
  IsStack-push w c es e h last = IsStack-push_on w [] c es e h last

  -- the steps over which the newest goal asks
  pub steps_pushed : (c : C) (es : List (StackEntry I R)) (e : StackEntry I R) → steps_of m c (es ++ e ∷ []) ≡ steps_of m c es ++ question_of m c e ∷ []
  steps_pushed c es e = steps_of-append c es (e ∷ [])

  pub AreCached-keeps : (w : m.World) (c d : C) (es : List (CacheEntry I R)) → KeepsContext m c d → AreCached m w c es → AreCached m w d es
  AreCached-keeps w c d [] keeps h = h
  AreCached-keeps w c d (e ∷ es) keeps h = (
    record {
      known = (keeps.inputs e.input h.0.known).0;
      result = rw (keeps.inputs e.input h.0.known).1 (IsProvisional-keeps w [] (m.goal_of c e.input, Inductive) [] c d e.result keeps h.0.result);
      kept = rw ((keeps.inputs e.input h.0.known).1, (keeps.results e.result h.0.result.known).1) h.0.kept;
    },
    AreCached-keeps w c d es keeps h.1,
  )

  -- the cache's entries stand in a later context
  pub AreCached-later : (c d : C) (es : List (CacheEntry I R)) → KeepsContext m c d → AreCached m (m.world c) c es → AreCached m (m.world d) d es
  AreCached-later c d es keeps h = rw keeps.world (AreCached-keeps (m.world c) c d es keeps h)

  pub AreCached-push : (w : m.World) (c : C) (es : List (CacheEntry I R)) (e : CacheEntry I R) → AreCached m w c es → IsCached m w c e → AreCached m w c (es ++ e ∷ [])
  AreCached-push w c [] e h last = (last, tt)
  AreCached-push w c (x ∷ es) e h last = (h.0, AreCached-push w c es e h.1 last)

  AreCached-append : (w : m.World) (c : C) (xs ys : List (CacheEntry I R)) → AreCached m w c (xs ++ ys) → AreCached m w c ys
  AreCached-append w c [] ys h = h
  AreCached-append w c (x ∷ xs) ys h = AreCached-append w c xs ys h.1

  pub IsCached-at : (w : m.World) (c : C) (es : List (CacheEntry I R)) (i : ℕ) (e : CacheEntry I R) → slice_get es i ≡ Some e → AreCached m w c es → IsCached m w c e
  IsCached-at w c es i e at h = (AreCached-append w c (take i es) (e ∷ drop (i + 1) es) (subst (λ l. AreCached m w c l) (split_some es i e at) h)).0

  -- what rests on no head serves anywhere
  pub cached_answers : (w : m.World) (steps : List (m.Goal × PathKind)) (g : m.Goal) (j k : PathKind) (c : C) (r : R) → IsProvisional m w [] (g, j) [] c r → IsAnswer m w steps (g, k) [] c r
  cached_answers w steps g j k c r h = record { known = h.known; fair = h.fair; source = h.source; below = tt; yes = λ y. headless_serve (m.Follows w) [] steps g j k (h.yes y) }

  pub provisional_alone : (w : m.World) (steps : List (m.Goal × PathKind)) (g : m.Goal) (j k : PathKind) (heads : List ℕ) (c : C) (r : R) → heads ≡ [] → IsProvisional m w steps (g, j) heads c r → IsProvisional m w [] (g, k) [] c r
  provisional_alone w steps g j k heads c r empty p = record {
    known = p.known;
    fair = p.fair;
    source = p.source;
    yes = λ y. derived_anywhere (m.Follows w) steps [] g j k (subst (λ hs. DerivedFor m.Goal (m.Follows w) hs steps g j) empty (p.yes y));
  }

  -- what stood at the context c and the stack es stands later, at the context d and a stack that is the same
  module _ (c d : C) (es now : List (StackEntry I R)) (keeps : KeepsContext m c d) (same : now ≡ es) (stack : IsStack m (m.world c) [] c es) where
    pub IsStack-now : IsStack m (m.world d) [] d now
    IsStack-now = rw same (IsStack-later c d es keeps stack)

    pub steps-now : steps_of m d now ≡ steps_of m c es
    steps-now = rw same (steps-keep (m.world c) [] c d es keeps stack)

    pub IsEntry-now : (e : StackEntry I R) → IsEntry m (m.world c) (steps_of m c es) d e → IsEntry m (m.world d) (steps_of m d now) d e
    IsEntry-now e h = rw (keeps.world, steps-now) h

    pub IsProvisional-then : (e : StackEntry I R) (x : I) (k : PathKind) (heads : List ℕ) (f : C) (r : R) → e.input ≡ x → e.step_kind ≡ k → m.IsInput c x
        → IsProvisional m (m.world d) (steps_of m d now) (question_of m d e) heads f r → IsProvisional m (m.world c) (steps_of m c es) (m.goal_of c x, k) heads f r
    IsProvisional-then e x k heads f r input kind known h =
        let q : question_of m d e ≡ (m.goal_of c x, k) = rw (input, kind, (keeps.inputs x known).1) refl in
        rw (keeps.world, steps-now, q) at h

    pub IsAnswer-then : (q : m.Goal × PathKind) (heads : List ℕ) (f : C) (r : R)
        → IsAnswer m (m.world d) (steps_of m d now) q heads f r → IsAnswer m (m.world c) (steps_of m c es) q heads f r
    IsAnswer-then q heads f r h = rw (keeps.world, steps-now) at h

  -- the entry for the next run, by the result of the last
  pub next_entry : (w : m.World) (steps : List (m.Goal × PathKind)) (d : C) (e next : StackEntry I R) (x : I) (k : PathKind) (last : R) (heads : List ℕ) → IsNextRun e last heads next → e.input ≡ x → e.step_kind ≡ k → m.IsInput d x
      → AreBelow (length steps) heads → IsProvisional m w steps (m.goal_of d x, k) heads d last → IsEntry m w steps d next
  next_entry w steps d e next x k last heads is input kind known below p = record {
    known = rw (is.input ∙ input) known;
    below = rw is.rests below;
    last = rw (is.result, is.input ∙ input, is.kind ∙ kind, is.rests) p;
  }

  -- a run of a goal ended with a result, over a stack that is the same
  pub record IsEnded (c : C) (es : List (StackEntry I R)) (x : I) (k : PathKind) (heads less : List CycleHead) (d : C) (r : R) : Type 0 where
    pub result : IsProvisional m (m.world c) (steps_of m c es) (m.goal_of c x, k) (indices less) d r
    pub but : AreHeadsBut (length (steps_of m c es)) (indices less) (indices heads)
    pub below : AreBelow (length es) (indices less)
    pub within : AreBelow (length (steps_of m c es)) (indices less)

  pub run_ended : (c b : C) (es now : List (StackEntry I R)) (keeps : KeepsContext m c b) (same : now ≡ es) (stack : IsStack m (m.world c) [] c es) (e : StackEntry I R) (x : I) (k : PathKind) (index : ℕ) (heads less : List CycleHead) (d : C) (r : R)
      → index ≡ length es → ((other : ℕ) → RestsOn less other ↔ (RestsOn heads other × (other ≡ index → ⊥))) → e.input ≡ x → e.step_kind ≡ k → m.IsInput c x → IsRunOver m b now e heads d r → IsEnded c es x k heads less d r
  run_ended c b es now keeps same stack e x k index heads less d r place taken input kind known ran =
      let but : AreHeadsBut (length es) (indices less) (indices heads) = subst (λ n. AreHeadsBut n (indices less) (indices heads)) place (heads_but heads less index taken) in
      let low : AreBelow (index + 1) (indices heads) = subst (λ n. AreBelow (n + 1) (indices heads)) (ap length same ∙ sym place) ran.0 in
      let below : AreBelow (length es) (indices less) = subst (λ n. AreBelow n (indices less)) place (below_but heads less index taken low) in
      let size : length es ≡ length (steps_of m c es) = sym (length-steps_of c es) in
      record {
        result = IsProvisional-then c b es now keeps same stack e x k (indices less) d r input kind known (ran.1 (indices less) (subst (λ n. AreHeadsBut n (indices less) (indices heads)) (sym (ap length same)) but));
        but = subst (λ n. AreHeadsBut n (indices less) (indices heads)) size but;
        below = below;
        within = subst (λ n. AreBelow n (indices less)) size below;
      }

  pub answer_of_run : (w : m.World) (steps : List (m.Goal × PathKind)) (q : m.Goal × PathKind) (heads : List ℕ) (c : C) (r : R) → AreBelow (length steps) heads → IsProvisional m w steps q heads c r → IsAnswer m w steps q heads c r
  answer_of_run w steps q heads c r below h = record { known = h.known; fair = h.fair; source = h.source; below = below; yes = λ y. runs_answer (m.Follows w) heads steps q.0 q.1 (h.yes y) }

  fair-begin : (P : m.Goal → m.Answer → Type 0) (q : Request m.Goal m.Answer) → IsReplyBy m P q Begin
  fair-begin P (Evaluate g k) = tt
  fair-begin P EnterCandidate = tt
  fair-begin P FinishCandidate = tt
  fair-begin P (IgnoreCandidate n) = tt
  fair-begin P (Done a) = tt

  shown_more : (w : m.World) (path rest : List (m.Goal × PathKind)) (q : m.Goal × PathKind) (b : Bool) → (b ≡ true → Shown m.Goal (m.Follows w) path (q ∷ []))
      → Shown m.Goal (m.Follows w) path rest → Shown m.Goal (m.Follows w) path (cond b (q ∷ rest) rest)
  shown_more w path rest q true h shown = Shown-cons (m.Follows w) q (h refl) shown
  shown_more w path rest q false h shown = shown

  cond_rest : (w : m.World) (path : List (m.Goal × PathKind)) (q : m.Goal × PathKind) (b : Bool) (xs : List (m.Goal × PathKind)) → Shown m.Goal (m.Follows w) path (cond b (q ∷ xs) xs) → Shown m.Goal (m.Follows w) path xs
  cond_rest w path q true xs s = Shown-rest (m.Follows w) s
  cond_rest w path q false xs s = s

  cond_replace : (w : m.World) (path : List (m.Goal × PathKind)) (q : m.Goal × PathKind) (b : Bool) (xs ys : List (m.Goal × PathKind)) → (Shown m.Goal (m.Follows w) path xs → Shown m.Goal (m.Follows w) path ys)
      → Shown m.Goal (m.Follows w) path (cond b (q ∷ xs) xs) → Shown m.Goal (m.Follows w) path (cond b (q ∷ ys) ys)
  cond_replace w path q true xs ys f s = Shown-replace (m.Follows w) f s
  cond_replace w path q false xs ys f s = f s

  premise_rest : (w : m.World) (path : List (m.Goal × PathKind)) (q : Request m.Goal m.Answer) (a : m.Answer) (xs : List (m.Goal × PathKind)) → Shown m.Goal (m.Follows w) path (premise_of m q a xs) → Shown m.Goal (m.Follows w) path xs
  premise_rest w path (Evaluate g k) a xs s = cond_rest w path (g, k) (m.is_yes a) xs s
  premise_rest w path EnterCandidate a xs s = s
  premise_rest w path FinishCandidate a xs s = s
  premise_rest w path (IgnoreCandidate n) a xs s = s
  premise_rest w path (Done b) a xs s = s

  premise_replace : (w : m.World) (path : List (m.Goal × PathKind)) (q : Request m.Goal m.Answer) (a : m.Answer) (xs ys : List (m.Goal × PathKind)) → (Shown m.Goal (m.Follows w) path xs → Shown m.Goal (m.Follows w) path ys)
      → Shown m.Goal (m.Follows w) path (premise_of m q a xs) → Shown m.Goal (m.Follows w) path (premise_of m q a ys)
  premise_replace w path (Evaluate g k) a xs ys f s = cond_replace w path (g, k) (m.is_yes a) xs ys f s
  premise_replace w path EnterCandidate a xs ys f s = f s
  premise_replace w path FinishCandidate a xs ys f s = f s
  premise_replace w path (IgnoreCandidate n) a xs ys f s = f s
  premise_replace w path (Done b) a xs ys f s = f s

  cond_premise : (w : m.World) (path : List (m.Goal × PathKind)) (q : Request m.Goal m.Answer) (a : m.Answer) (ignored : Bool) (xs ys : List (m.Goal × PathKind)) → (Shown m.Goal (m.Follows w) path xs → Shown m.Goal (m.Follows w) path ys)
      → Shown m.Goal (m.Follows w) path (premise_of m q a xs) → Shown m.Goal (m.Follows w) path (cond ignored ys (premise_of m q a ys))
  cond_premise w path q a true xs ys f s = f (premise_rest w path q a xs s)
  cond_premise w path q a false xs ys f s = premise_replace w path q a xs ys f s

  -- the premises are some of the questions that got a yes
  shown_premises : (w : m.World) (path : List (m.Goal × PathKind)) (g : m.Goal) (candidates : List Bool) (ignored : Bool) (heard : List (Reply m.Answer))
      → Shown m.Goal (m.Follows w) path (yes_questions m w g heard) → Shown m.Goal (m.Follows w) path (premises_back m w g candidates ignored heard)
  shown_premises w path g candidates ignored [] s = s
  shown_premises w path g candidates ignored (Begin ∷ heard) s = shown_premises w path g candidates ignored heard s
  shown_premises w path g candidates ignored (Result a ∷ heard) s =
      cond_premise w path (m.asks w g heard) a ignored (yes_questions m w g heard) (premises_back m w g candidates ignored heard) (shown_premises w path g candidates ignored heard) s
  shown_premises w path g candidates ignored (Entered ∷ heard) s = shown_premises w path g candidates false heard s
  shown_premises w path g candidates ignored (Finished n ∷ heard) s = shown_premises w path g candidates (unwrap_or (slice_get candidates n) false) heard s
  shown_premises w path g candidates ignored (Ignored ∷ heard) s = shown_premises w path g candidates ignored heard s

  due_after : (w : m.World) (g : m.Goal) (heard : List (Reply m.Answer)) (q : Request m.Goal m.Answer) (reply : Reply m.Answer) → (heard ≡ [] → ⊥) → q ≡ m.asks w g heard → IsDueAt m w g heard q reply → IsDueAfter m w g heard reply
  due_after w g [] q reply begun e due = absurd (begun refl)
  due_after w g (x ∷ heard) q reply begun e due = rw (← e) due

  -- the answer to a question
  pub hears_more : (w : m.World) (Given : m.Goal → m.Answer → Type 0) (g q : m.Goal) (k : PathKind) (heard : List (Reply m.Answer)) (a : m.Answer) → Hears m w Given g heard → m.asks w g heard ≡ Evaluate q k → IsDueAfter m w g heard (Result a)
      → IsComputed m w Given q a → Hears m w Given g (Result a ∷ heard)
  hears_more w Given g q k heard a hears asks due source = elim source.how [ inl x ↦ given hears asks due x | inr y ↦ computed hears asks due y.1 y.2 y.3 ]

  pub running_next : IsLawful m → (w : m.World) (steps : List (m.Goal × PathKind)) (g : m.Goal) (j : PathKind) (heads nested all : List ℕ) (b c d : C) (f h : F) (asked : Request I R) (i : I) (k : PathKind) (r : R) (q : Request I R)
      → ((kept : ℕ → Bool) → AreKept kept all → AreKept kept heads × AreKept kept nested) → AreBelow (length steps + 1) all
      → asked ≡ Evaluate i k → m.world c ≡ w → KeepsContext m b c → IsRunning m w steps g j heads b f asked → IsAnswer m w (steps ++ (g, j) ∷ []) (m.goal_of b i, k) nested c r
      → Steps m c f (Result r) d h q → IsRunning m w steps g j all d h q
  running_next law w steps g j heads nested all b c d f h asked i k r q both low is world keeps running answer moves =
      let request : Evaluate (m.goal_of b i) k ≡ m.asks w g running.heard = rw is at running.request in
      let had = keeps.frames g running.heard f running.frame in
      let now : IsDueAfter m w g running.heard (Result (m.answer_of c r)) = due_after w g running.heard (Evaluate (m.goal_of b i) k) (Result (m.answer_of c r)) running.begun request (tt, tt) in
      let due : IsDueAfter m (m.world c) g running.heard (Result (m.answer_of c r)) = rw world now in
      record {
        heard = Result (m.answer_of c r) ∷ running.heard;
        begun = λ e. cc;
        frame = (moves.1 g running.heard had due).0;
        request = rw (← world) (moves.1 g running.heard had due).1;
        known = moves.0;
        below = low;
        fair = (now, rw (← request) answer.fair, running.fair);
        hears = hears_more w (IsGiven m w) g (m.goal_of b i) k running.heard (m.answer_of c r) running.hears (sym request) now answer.source;
        count = let h = (law.asks_fair w g (m.goal_of b i) k running.heard running.fair (sym request)).0 in omega arith;
        shown = rw (← request) (λ kept all own.
            let path = kept_path kept (steps ++ (g, j) ∷ []) in
            shown_more w path (yes_questions m w g running.heard) (m.goal_of b i, k) (m.is_yes (m.answer_of c r))
            (λ y. subst (λ z. Shown m.Goal (m.Follows w) path ((m.goal_of b i, z) ∷ [])) (ap (λ z. greater z k) (left_last kept steps g j own)) (answer.yes y kept (both kept all).1))
            (running.shown kept (both kept all).0 own));
      }

  pub running_done : IsLawful m → (w : m.World) (steps : List (m.Goal × PathKind)) (g : m.Goal) (j : PathKind) (heads less : List ℕ) (c : C) (f : F) (asked : Request I R) (r : R) → asked ≡ Done r → AreHeadsBut (length steps) less heads
      → (running : IsRunning m w steps g j heads c f asked) → has_open_candidate m running.heard ≡ false → IsProvisional m w steps (g, j) less c r
  running_done law w steps g j heads less c f asked r is but running closed =
      let request : Done (m.answer_of c r) ≡ m.asks w g running.heard = rw is at running.request in
      record {
        known = rw is at running.known;
        fair = law.done_fair w g running.heard (m.answer_of c r) running.fair (sym request);
        source = record { how = inr (running.heard, running.hears, sym request, closed) };
        yes = λ y. runs_end (m.Follows w) heads less steps (premises m w g running.heard) g j (but_kept (length steps) less heads but)
            (law.sound w g running.heard (m.answer_of c r) running.fair (sym request) y)
            (λ kept all own. shown_premises w (kept_path kept (steps ++ (g, j) ∷ [])) g (finished m w g running.heard) false running.heard (running.shown kept all own));
      }

  module _ (w : m.World) (steps : List (m.Goal × PathKind)) (g : m.Goal) (j : PathKind) (heads : List ℕ) (b : C) (f : F) (q0 asked : Request I R) (is : q0 ≡ asked) (world : m.world b ≡ w) (running : IsRunning m w steps g j heads b f q0) where
    pub asked_now : request_of m b asked ≡ m.asks w g running.heard
    asked_now = rw is at running.request

    -- after a reply on a candidate
    pub running_other : (d : C) (h : F) (reply : Reply R) (q : Request I R)
        → IsDueAt m w g running.heard (request_of m b asked) (reply_of m b reply) → IsReplyBy m (IsFair m w) (request_of m b asked) (reply_of m b reply) → HoldsNoResult (reply_of m b reply)
        → answer_count m (reply_of m b reply ∷ running.heard) ≡ answer_count m running.heard
        → yes_questions m w g (reply_of m b reply ∷ running.heard) ≡ yes_questions m w g running.heard
        → Steps m b f reply d h q → (n : IsRunning m w steps g j heads d h q) × (n.heard ≡ reply_of m b reply ∷ running.heard)
    running_other d h reply q due by quiet counts shows moves =
        let now : IsDueAfter m w g running.heard (reply_of m b reply) = due_after w g running.heard (request_of m b asked) (reply_of m b reply) running.begun asked_now due in
        let there : IsDueAfter m (m.world b) g running.heard (reply_of m b reply) = rw world now in
        let count = running.count in (
          record {
            heard = reply_of m b reply ∷ running.heard;
            begun = λ e. cc;
            frame = (moves.1 g running.heard running.frame there).0;
            request = rw (← world) (moves.1 g running.heard running.frame there).1;
            known = moves.0;
            below = running.below;
            fair = (now, rw (← asked_now) by, running.fair);
            hears = also running.hears now quiet;
            count = rw counts count;
            shown = rw shows running.shown;
          },
          refl,
        )

    pub hears_other : (Given : m.Goal → m.Answer → Type 0) (reply : Reply R) → Hears m w Given g running.heard → IsDueAt m w g running.heard (request_of m b asked) (reply_of m b reply) → HoldsNoResult (reply_of m b reply)
        → Hears m w Given g (reply_of m b reply ∷ running.heard)
    hears_other Given reply hears due quiet = also hears (due_after w g running.heard (request_of m b asked) (reply_of m b reply) running.begun asked_now due) quiet

    pub hears_next : (Given : m.Goal → m.Answer → Type 0) (i : I) (k : PathKind) (a : m.Answer) → asked ≡ Evaluate i k → Hears m w Given g running.heard → IsComputed m w Given (m.goal_of b i) a → Hears m w Given g (Result a ∷ running.heard)
    hears_next Given i k a e hears source =
        let request : Evaluate (m.goal_of b i) k ≡ m.asks w g running.heard = rw e at asked_now in
        hears_more w Given g (m.goal_of b i) k running.heard a hears (sym request) (due_after w g running.heard (Evaluate (m.goal_of b i) k) (Result a) running.begun request (tt, tt)) source

    pub due_other : (reply : Reply R) → IsDueAt m w g running.heard (request_of m b asked) (reply_of m b reply) → IsDue m b f reply
    due_other reply due = (
      g,
      running.heard,
      running.frame,
      rw world (due_after w g running.heard (request_of m b asked) (reply_of m b reply) running.begun asked_now due),
    )

    -- a request out of order
    pub misstep_now : (IsInOrder m w g running.heard (request_of m b asked) → ⊥) → MakesMisstep m w g
    misstep_now not = here running.hears (λ h. not (rw asked_now h))

  pub cached_get : (c d : C) (es : List (CacheEntry I R)) (i : ℕ) (e entry : CacheEntry I R) (x : I) (r : R)
      → slice_get es i ≡ Some e → e.input ≡ x → entry ≡ get_or es i entry → r ≡ entry.result → AreCached m (m.world c) c es → KeepsContext m c d
      → IsProvisional m (m.world c) [] (m.goal_of c x, Inductive) [] d r
  cached_get c d es i e entry x r at same is copy cached keeps =
      let cache = IsCached-at (m.world c) c es i e at cached in
      let entry_is : entry ≡ e = is ∙ get_or_from_slice_get es i e entry at in
      let result : e.result ≡ r = sym (copy ∙ ap (λ z. z.result) entry_is) in
      let p = IsProvisional-keeps (m.world c) [] (m.goal_of c e.input, Inductive) [] c d e.result keeps cache.result in
      subst (λ z. IsProvisional m (m.world c) [] (m.goal_of c x, Inductive) [] d z) result (subst (λ z. IsProvisional m (m.world c) [] (m.goal_of c z, Inductive) [] d e.result) same p)

  pub cached_insert : (c d : C) (es : List (CacheEntry I R)) (e : CacheEntry I R) (r : R)
      → AreCached m (m.world c) c es → KeepsContext m c d → m.IsInput c e.input → e.result ≡ r → IsProvisional m (m.world c) [] (m.goal_of c e.input, Inductive) [] c r
      → IsKept m (m.world c) (m.goal_of c e.input) (m.answer_of c r) e.depth e.encountered_overflow
      → AreCached m (m.world d) d (es ++ e ∷ [])
  cached_insert c d es e r cached keeps known copy p kept =
      AreCached-push (m.world d) d es e (AreCached-later c d es keeps cached)
      (record { known = (keeps.inputs e.input known).0; result = rw (keeps.world, (keeps.inputs e.input known).1, copy) (IsProvisional-keeps (m.world c) [] (m.goal_of c e.input, Inductive) [] c d r keeps p); kept = rw (keeps.world, (keeps.inputs e.input known).1, copy, (keeps.results r p.known).1) kept })

  -- an overflow stands anywhere
  pub overflow_stands : (w : m.World) (steps : List (m.Goal × PathKind)) (q : m.Goal × PathKind) (heads : List ℕ) (c : C) (r : R) (a : m.Answer) → m.IsResult c r → m.answer_of c r ≡ a → m.is_yes a ≡ false → IsFair m w q.0 a → IsGiven m w q.0 a
      → IsProvisional m w steps q heads c r
  overflow_stands w steps q heads c r a known is never fair unrun = record { known = known; fair = rw is fair; source = rw is (record { how = inl unrun }); yes = λ y. let n : true ≡ false = sym (rw is at y) ∙ never in cc }

  pub overflow_answers : (w : m.World) (steps : List (m.Goal × PathKind)) (q : m.Goal × PathKind) (heads : List ℕ) (c : C) (r : R) (a : m.Answer) → AreBelow (length steps) heads → m.IsResult c r → m.answer_of c r ≡ a → m.is_yes a ≡ false → IsFair m w q.0 a → IsGiven m w q.0 a
      → IsAnswer m w steps q heads c r
  overflow_answers w steps q heads c r a below known is never fair unrun =
      record { known = known; fair = rw is fair; source = rw is (record { how = inl unrun }); below = below; yes = λ y. let n : true ≡ false = sym (rw is at y) ∙ never in cc }

  pub due_next : (w : m.World) (steps : List (m.Goal × PathKind)) (g : m.Goal) (j : PathKind) (heads : List ℕ) (b c : C) (f : F) (asked : Request I R) (i : I) (k : PathKind) (r : R)
      → asked ≡ Evaluate i k → m.world c ≡ w → KeepsContext m b c → IsRunning m w steps g j heads b f asked → IsDue m c f (Result r)
  due_next w steps g j heads b c f asked i k r is world keeps running =
      let request : Evaluate (m.goal_of b i) k ≡ m.asks w g running.heard = rw is at running.request in (
        g,
        running.heard,
        keeps.frames g running.heard f running.frame,
        rw world (due_after w g running.heard (Evaluate (m.goal_of b i) k) (Result (m.answer_of c r)) running.begun request (tt, tt)),
      )

  pub running_begun : (steps : List (m.Goal × PathKind)) (x : I) (j : PathKind) (heads : List ℕ) (c d : C) (f : F) (q : Request I R) → AreBelow (length steps + 1) heads → HasBegun m c x d f q
      → (r : IsRunning m (m.world c) steps (m.goal_of c x) j heads d f q) × (r.heard ≡ Begin ∷ [])
  running_begun steps x j heads c d f q low first = (
    record {
      heard = Begin ∷ [];
      begun = λ e. cc;
      frame = first.0;
      request = first.2;
      known = first.1;
      below = low;
      fair = (refl, fair-begin (IsFair m (m.world c)) (m.asks (m.world c) (m.goal_of c x) []), tt);
      hears = also nothing refl tt;
      count = omega arith;
      shown = λ kept all own. none;
    },
    refl,
  )

  pub running_next_counted : IsLawful m → (w : m.World) (steps : List (m.Goal × PathKind)) (g : m.Goal) (j : PathKind) (heads nested all : List ℕ) (b c d : C) (f h : F) (asked : Request I R) (i : I) (k : PathKind) (r : R) (q : Request I R)
      → ((kept : ℕ → Bool) → AreKept kept all → AreKept kept heads × AreKept kept nested) → AreBelow (length steps + 1) all
      → asked ≡ Evaluate i k → m.world c ≡ w → KeepsContext m b c → (running : IsRunning m w steps g j heads b f asked) → IsAnswer m w (steps ++ (g, j) ∷ []) (m.goal_of b i, k) nested c r
      → Steps m c f (Result r) d h q → (n : IsRunning m w steps g j all d h q) × (n.heard ≡ Result (m.answer_of c r) ∷ running.heard)
  unfolding running_next
  running_next_counted law w steps g j heads nested all b c d f h asked i k r q both low is world keeps running answer moves =
      (running_next law w steps g j heads nested all b c d f h asked i k r q both low is world keeps running answer moves, refl)

  pub kept_get : (c d : C) (es : List (CacheEntry I R)) (i : ℕ) (e entry : CacheEntry I R) (x : I) (r : R)
      → slice_get es i ≡ Some e → e.input ≡ x → entry ≡ get_or es i entry → r ≡ entry.result → AreCached m (m.world c) c es → KeepsContext m c d
      → IsKept m (m.world c) (m.goal_of c x) (m.answer_of d r) entry.depth entry.encountered_overflow
  kept_get c d es i e entry x r at same is copy cached keeps =
      let cache = IsCached-at (m.world c) c es i e at cached in
      let entry_is : e ≡ entry = sym (is ∙ get_or_from_slice_get es i e entry at) in
      let answer : m.answer_of d r ≡ m.answer_of c e.result = ap (m.answer_of d) (copy ∙ ap (λ z. z.result) (sym entry_is)) ∙ (keeps.results e.result cache.result.known).1 in
      rw answer (subst (λ z. IsKept m (m.world c) (m.goal_of c x) (m.answer_of c e.result) z.depth z.encountered_overflow) entry_is
      (subst (λ z. IsKept m (m.world c) (m.goal_of c z) (m.answer_of c e.result) e.depth e.encountered_overflow) same cache.kept))

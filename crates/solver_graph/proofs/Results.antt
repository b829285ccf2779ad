-- Cached responses: in contexts that have grown, and before and after a search.
use Rattle.std.proofs.Common.{◌≡◌, ◌∙◌, ◌≤◌, ◌+◌, arith, ℕ, zero, suc, Bool, true, false, List, [], ◌∷◌, refl, sym, ap, subst, Some, slice_get}
use Rattle.std.proofs.lemmas.Option.{none-some, same_Some}
use Rattle.goal_evaluator.specs.declared.TheConstants.{FIXPOINT_STEP_LIMIT}
use Rattle.search_graph.specs.Promised.FrameBound.{frame_bound}
use Rattle.search_graph.specs.Cache.{KnownResult, IsJustified, AreJustified, answers_in}
use Rattle.search_graph.specs.Chain.{IsWithinDepth}
use Rattle.search_graph.specs.Computed.{IsComputed, IsGivenWithin}
use Rattle.search_graph.specs.Meaning as Search
use Rattle.search_graph.specs.Plain.{IsNotPlain}
use Rattle.search_graph.specs.SearchState.{SearchState}
use Rattle.solver_graph.specs.Evaluations.{IsFoundBySearch}
use Rattle.solver_graph.specs.Results.{IsCachedAnswer, FramesAreBounded, KnownIsFree, LimitsAreNoted, IsResult}

one-more : {A B : Type 0} (a b : A) (x y : B) (xs ys : List (A × B)) → a ≡ b → x ≡ y → xs ≡ ys → ◌≡◌ {A = List (A × B)} ((a, x) ∷ xs) ((b, y) ∷ ys)
one-more a b x y xs ys e f g = cc

both : {A : Type 0} (b : Bool) → b ≡ false → b ≡ true → A
both true e f = cc
both false e f = cc

module _ {C I R F : Type 0} (m : Search.Meaning C I R F) where
  pub justified-at : (c : C) (ks : List (KnownResult I R)) (place : ℕ) (k : KnownResult I R) → slice_get ks place ≡ Some k → AreJustified m c ks → IsJustified m c k
  justified-at c [] place k at h = absurd (none-some k at)
  justified-at c (x ∷ ks) zero k at h = subst (IsJustified m c) (same_Some x k at) h.0
  justified-at c (x ∷ ks) (suc place) k at h = justified-at c ks place k at h.1

  -- ---- where nothing was searched
  module _ (c : C) (g : m.Goal) (s : SearchState) where
    pub no-frames : FramesAreBounded m c g s s
    no-frames width h = omega arith

    pub no-cost : (ks : List (KnownResult I R)) → KnownIsFree m c ks g s s ks
    no-cost ks a x = (refl, refl)

    pub no-limits : LimitsAreNoted m c g s s
    no-limits = record { noted = λ e. e; not_plain = λ e n. both s.limits_met e n }

  -- ---- a context that has grown
  module _ (c d : C) (keeps : Search.KeepsContext m c d) where
    answers-later : (ks : List (KnownResult I R)) → AreJustified m c ks → answers_in m d ks ≡ answers_in m c ks
    answers-later [] h = refl
    answers-later (k ∷ ks) h = one-more _ _ _ _ _ _ (keeps.inputs k.input h.0.known).1 (keeps.results k.result h.0.result.known).1 (answers-later ks h.1)

    module _ (ks : List (KnownResult I R)) (now : AreJustified m c ks) (depth : ℕ) (g : m.Goal) (a : m.Answer) where
      pub known-later : IsCachedAnswer m c ks depth g a → IsCachedAnswer m d ks depth g a
      known-later x =
          let k = justified-at c ks x.place x.result x.there now in
          record {
            place = x.place;
            result = x.result;
            there = x.there;
            goal = (keeps.inputs x.result.input k.known).1 ∙ x.goal;
            answer = (keeps.results x.result.result k.result.known).1 ∙ x.answer;
            within = x.within;
          }

      pub known-before : IsCachedAnswer m d ks depth g a → IsCachedAnswer m c ks depth g a
      known-before x =
          let k = justified-at c ks x.place x.result x.there now in
          record {
            place = x.place;
            result = x.result;
            there = x.there;
            goal = sym (keeps.inputs x.result.input k.known).1 ∙ x.goal;
            answer = sym (keeps.results x.result.result k.result.known).1 ∙ x.answer;
            within = x.within;
          }

    -- what was promised of the later context, and of its goal, is promised of the first one
    module _ (g q : m.Goal) (same : g ≡ q) (old new : SearchState) where
      pub frames-before : FramesAreBounded m d g old new → FramesAreBounded m c q old new
      frames-before x =
          subst (λ w. (width : ℕ) → m.number_of w q ≤ width → new.frames ≤ old.frames + frame_bound FIXPOINT_STEP_LIMIT width old.root_depth) keeps.world
          (subst (λ z. FramesAreBounded m d z old new) same x)

      pub limits-before : LimitsAreNoted m d g old new → LimitsAreNoted m c q old new
      limits-before x = record {
        noted = x.noted;
        not_plain = λ e n. subst (λ w. IsNotPlain m w (old.root_depth + 1) q) keeps.world (subst (λ z. IsNotPlain m (m.world d) (old.root_depth + 1) z) same (x.not_plain e n));
      }

      module _ (ks : List (KnownResult I R)) (now : AreJustified m c ks) (ls : List (KnownResult I R)) where
        pub free-before : KnownIsFree m d ks g old new ls → KnownIsFree m c ks q old new ls
        free-before x = λ a y. subst (λ z. KnownIsFree m d ks z old new ls) same x a (known-later ks now old.root_depth q a y)

        pub result-before : (e : C) (a b : m.Answer) → a ≡ b → IsResult m d ks old e ls new g a → IsResult m c ks old e ls new q b
        result-before e a b is x =
            let y : IsResult m d ks old e ls new q b = subst (λ z. IsResult m d ks old e ls new z b) same (subst (IsResult m d ks old e ls new g) is x) in
            record {
              found = subst (λ w. IsFoundBySearch m w old.root_depth q b) keeps.world y.found;
              known = λ o k. known-before ks now old.root_depth q b (y.known o (known-later ks now old.root_depth q o k));
              kept = y.kept;
              limits = λ n. subst (λ w. IsComputed m w (IsGivenWithin m w (answers_in m c ks)) q b) keeps.world
                  (subst (λ l. IsComputed m (m.world d) (IsGivenWithin m (m.world d) l) q b) (answers-later ks now) (y.limits n));
            }

  -- the cache that a search leaves holds the answer in a context that has grown since
  pub result-later : (c d e : C) (keeps : Search.KeepsContext m d e) (ks ls : List (KnownResult I R)) → AreJustified m d ls → (old new : SearchState) (g : m.Goal) (a : m.Answer)
      → IsResult m c ks old d ls new g a → IsResult m c ks old e ls new g a
  result-later c d e keeps ks ls then old new g a x = record { found = x.found; known = x.known; kept = known-later d e keeps ls then old.root_depth g a x.kept; limits = x.limits }

  -- ---- a search for the goal of an input, which no other input stands for
  module _ (c d : C) (keeps : Search.KeepsContext m c d) (ks : List (KnownResult I R)) (now : AreJustified m c ks) (input : I) (is : m.IsInput c input)
      (one : (i : I) → m.IsInput c i → m.goal_of c i ≡ m.goal_of c input → i ≡ input) where
    pub its-input : (depth : ℕ) (a : m.Answer) (x : IsCachedAnswer m c ks depth (m.goal_of c input) a) → x.result.input ≡ input
    its-input depth a x = one x.result.input (justified-at c ks x.place x.result x.there now).known x.goal

    pub found-known : (depth : ℕ) (r : R)
        → (other : ℕ) × (l : KnownResult I R) × (slice_get ks other ≡ Some l) × (l.input ≡ input) × (l.result ≡ r) × IsWithinDepth l.overflowed l.depth depth
        → IsCachedAnswer m c ks depth (m.goal_of c input) (m.answer_of d r)
    found-known depth r x = record {
      place = x.0;
      result = x.1;
      there = x.2;
      goal = ap (m.goal_of c) x.3;
      answer = sym (keeps.results x.1.result (justified-at c ks x.0 x.1 x.2 now).result.known).1 ∙ ap (m.answer_of d) x.4;
      within = x.5;
    }

    pub found-kept : (ls : List (KnownResult I R)) (depth : ℕ) (r : R)
        → (place : ℕ) × (k : KnownResult I R) × (slice_get ls place ≡ Some k) × (k.input ≡ input) × (k.result ≡ r) × IsWithinDepth k.overflowed k.depth depth
        → IsCachedAnswer m d ls depth (m.goal_of c input) (m.answer_of d r)
    found-kept ls depth r x = record {
      place = x.0;
      result = x.1;
      there = x.2;
      goal = ap (m.goal_of d) x.3 ∙ (keeps.inputs input is).1;
      answer = ap (m.answer_of d) x.4;
      within = x.5;
    }

    -- what a search says of its input is said of the goal
    pub free-here : (ls : List (KnownResult I R)) (old new : SearchState)
        → ((place : ℕ) (k : KnownResult I R) → slice_get ks place ≡ Some k → k.input ≡ input → IsWithinDepth k.overflowed k.depth old.root_depth → (new.frames ≡ old.frames) × (ls ≡ ks))
        → KnownIsFree m c ks (m.goal_of c input) old new ls
    free-here ls old new f a x = f x.place x.result x.there (its-input old.root_depth a x) x.within

    pub result-here : (ls : List (KnownResult I R)) (old new : SearchState) (r : R) (a : m.Answer) → m.answer_of d r ≡ a → IsFoundBySearch m (m.world c) old.root_depth (m.goal_of c input) (m.answer_of d r)
        → ((place : ℕ) (k : KnownResult I R) → slice_get ks place ≡ Some k → k.input ≡ input → IsWithinDepth k.overflowed k.depth old.root_depth
        → (other : ℕ) × (l : KnownResult I R) × (slice_get ks other ≡ Some l) × (l.input ≡ input) × (l.result ≡ r) × IsWithinDepth l.overflowed l.depth old.root_depth)
        → ((place : ℕ) × (k : KnownResult I R) × (slice_get ls place ≡ Some k) × (k.input ≡ input) × (k.result ≡ r) × IsWithinDepth k.overflowed k.depth old.root_depth)
        → (new.limits_met ≡ false → IsComputed m (m.world c) (IsGivenWithin m (m.world c) (answers_in m c ks)) (m.goal_of c input) (m.answer_of d r))
        → IsResult m c ks old d ls new (m.goal_of c input) a
    result-here ls old new r a is found known kept limits =
        let there : IsResult m c ks old d ls new (m.goal_of c input) (m.answer_of d r) =
        record {
          found = found;
          known = λ b x. found-known old.root_depth r (known x.place x.result x.there (its-input old.root_depth b x) x.within);
          kept = found-kept ls old.root_depth r kept;
          limits = limits;
        } in
        subst (IsResult m c ks old d ls new (m.goal_of c input)) is there

-- Runs that follow plain recursion, over heads.
use Rattle.std.proofs.Common.{◌≡◌, ◌≤◌, ◌<◌, ◌+◌, ℕ, suc, zero, pred, Bool, true, false, cond, ◌||◌, List, [], ◌∷◌, ◌++◌, ◌⊎◌, inl, inr, refl, sym, ◌∙◌, subst, Some, slice_get, length, arith}
use Rattle.std.proofs.lemmas.Option.{slice_get_within}
use Rattle.search_paths.specs.declared.path_kind.PathKind.{PathKind}
use Rattle.search_graph.specs.declared.delegate.Request.TheVariants.{Evaluate, EnterCandidate, FinishCandidate, IgnoreCandidate, Done}
use Rattle.search_graph.specs.declared.delegate.Reply.{Reply}
use Rattle.search_graph.specs.declared.delegate.Reply.TheVariants.{Begin, Result, Entered, Finished, Ignored}
use Rattle.search_graph.specs.declared.stack.StackEntry.{StackEntry}
use Rattle.search_graph.specs.Meaning.{Meaning, finished}
use Rattle.search_graph.specs.Stack.{steps_of, question_of}
use Rattle.search_paths.specs.Heads.{AreHeadsBut}
use Rattle.search_graph.specs.Plain.{IsPlain, IsNotPlain, Descends}
use Rattle.search_graph.specs.Faithful.{HeadsDescend, AllDescend, HasPlainHead, NeedsHead, IsUntouched, IsTold, IsTracking, IsFaithful, IsOnPlainTrack, IsKept}
use Rattle.search_paths.specs.Heads.{IsHead}
use Rattle.search_graph.proofs.Graphs.{step_at}
use Rattle.search_graph.proofs.Plains.{Descends-trans, on_track_first, on_track_done, asked, entered_next, finished_next, ignored_next}
use Rattle.type_terms.proofs.BooleanBasics.{true-false as true_not_false}

-- what a nested goal promises is what the asking one wants
pub reach_within : (overflowed : Bool) (depth nested : ℕ) → (overflowed ≡ false → nested + 1 ≡ depth) → cond overflowed 0 depth ≤ nested + 1
reach_within true depth nested less = omega arith
reach_within false depth nested less = let e = less refl in omega arith

cond_zero : (b : Bool) → ◌≡◌ {A = ℕ} (cond b 0 0) 0
cond_zero true = refl
cond_zero false = refl

pub or_first : (a b : Bool) → (a || b) ≡ false → a ≡ false
or_first true b h = h
or_first false b h = refl

pub or_second : (a b : Bool) → (a || b) ≡ false → b ≡ false
or_second true b h = let e : true ≡ false = h in absurd cc
or_second false b h = h

pub or_either : (a b : Bool) → (a || b) ≡ true → (a ≡ true) ⊎ (b ≡ true)
or_either true b h = inl refl
or_either false b h = inr h

-- what stands in a longer list stood before, or is the last
pub slice_get_last : {X : Type 0} (xs : List X) (y s : X) (place : ℕ) → slice_get (xs ++ y ∷ []) place ≡ Some s → (slice_get xs place ≡ Some s) ⊎ (y ≡ s)
slice_get_last [] y s zero h = inr (let e : Some y ≡ Some s = h in cc)
slice_get_last [] y s (suc place) h = inl h
slice_get_last (x ∷ xs) y s zero h = inl h
slice_get_last (x ∷ xs) y s (suc place) h = slice_get_last xs y s place h

module _ {C I R F : Type 0} (m : Meaning C I R F) where
  Descends-less : (w : m.World) (limit less : ℕ) (g h : m.Goal) → less ≤ limit → Descends m w limit g h → Descends m w less g h
  Descends-less w limit less g h l d n b within p = d n b (omega arith) p

  all_heads_descend : (w : m.World) (limit : ℕ) (heads : List ℕ) (steps : List (m.Goal × PathKind)) (g : m.Goal) → AllDescend m w limit steps g → HeadsDescend m w limit heads steps g
  all_heads_descend w limit heads steps g d place s head at = d place s at

  -- of more heads, in a longer chain
  pub plain_head_more : (w : m.World) (n more : ℕ) (heads all : List ℕ) (steps : List (m.Goal × PathKind)) → n ≤ more → ((place : ℕ) → IsHead place heads → IsHead place all) → HasPlainHead m w n heads steps → HasPlainHead m w more all steps
  plain_head_more w n more heads all steps longer from x = record {
    place = x.place;
    step = x.step;
    head = from x.place x.head;
    there = x.there;
    chain = x.chain;
    answer = x.answer;
    within = let l = x.within in omega (arith, l, longer);
    plain = x.plain;
  }

  -- no head is plain if there is none
  pub no_plain_head : (w : m.World) (n : ℕ) (heads : List ℕ) (steps : List (m.Goal × PathKind)) → heads ≡ [] → HasPlainHead m w n heads steps → ⊥
  no_plain_head w n heads steps none x = subst (λ hs. IsHead x.place hs) none x.head

  -- the goal that runs is not on the stack below it
  pub run_plain_head : (w : m.World) (n : ℕ) (heads less : List ℕ) (steps : List (m.Goal × PathKind)) → AreHeadsBut (length steps) less heads → HasPlainHead m w n heads steps → HasPlainHead m w n less steps
  run_plain_head w n heads less steps but x = record {
    place = x.place;
    step = x.step;
    head = elim (but x.place x.head) [ inl is ↦ absurd (let within = slice_get_within steps x.place x.step x.there in omega (arith, within, is)) | inr there ↦ there ];
    there = x.there;
    chain = x.chain;
    answer = x.answer;
    within = x.within;
    plain = x.plain;
  }

  -- a goal of the stack that is asked again is plain only if it is plain there
  pub cycle_needs_head : (w : m.World) (c : C) (reach : ℕ) (es : List (StackEntry I R)) (i : ℕ) (e : StackEntry I R) (x : I) (overflowed : Bool) (heads : List ℕ) → slice_get es i ≡ Some e → e.input ≡ x → IsHead i heads
      → NeedsHead m w reach (steps_of m c es) (m.goal_of c x) overflowed heads
  cycle_needs_head w c reach es i e x overflowed heads at same head n b h p = record {
    place = i;
    step = question_of m c e;
    head = head;
    there = step_at m c es i e at;
    chain = n;
    answer = b;
    within = omega arith;
    plain = subst (λ z. IsPlain m w n (m.goal_of c z) b) (sym same) p;
  }

  module _ (w : m.World) (limit : ℕ) (heads : List ℕ) (steps : List (m.Goal × PathKind)) (g : m.Goal) (d : HeadsDescend m w limit heads steps g) (T : ℕ → m.Answer → Type 0)
      (unread : (n : ℕ) (b : m.Answer) → T n b → heads ≡ []) (claim : (n : ℕ) (b : m.Answer) → n ≤ limit → IsPlain m w n g b → T n b ⊎ HasPlainHead m w n heads steps) where
    -- plain recursion that descends from each head to the goal answers none, so the goal is told
    told_below : (fuel n : ℕ) (b : m.Answer) → n < fuel → n ≤ limit → IsPlain m w n g b → T n b
    told_below zero n b less within p = absurd (omega (arith, less))
    told_below (suc fuel) n b less within p = elim (claim n b within p) [
      | inl told ↦ told
      | inr x ↦
          let l = x.within in
          let next = d x.place x.step x.head x.there x.chain x.answer (omega (arith, l, within)) x.plain in
          let shorter = next.2 in
          absurd (subst (λ hs. IsHead x.place hs) (unread next.0 next.1 (told_below fuel next.0 next.1 (omega (arith, shorter, l, less)) (omega (arith, shorter, l, within)) next.3)) x.head)
    ]

    told_descending : (n : ℕ) (b : m.Answer) → n ≤ limit → IsPlain m w n g b → T n b
    told_descending n b within p = told_below (suc n) n b (omega arith) within p

  faithful_told : (w : m.World) (reach : ℕ) (steps : List (m.Goal × PathKind)) (g : m.Goal) (a : m.Answer) (overflowed : Bool) (heads : List ℕ) → IsFaithful m w reach steps g a overflowed heads
      → (limit : ℕ) → (limit ≤ reach) ⊎ (overflowed ≡ false) → HeadsDescend m w limit heads steps g → (n : ℕ) (b : m.Answer) → n ≤ limit → IsPlain m w n g b → IsTold m b a overflowed heads
  faithful_told w reach steps g a overflowed heads faithful limit h d =
      told_descending w limit heads steps g d (λ n b. IsTold m b a overflowed heads) (λ n b told. told.unread)
      (λ n b within p. faithful n b (elim h [ inl l ↦ inl (omega (arith, l, within)) | inr y ↦ inr y ]) p)

  tracking : (w : m.World) (reach : ℕ) (steps : List (m.Goal × PathKind)) (g : m.Goal) (overflowed : Bool) (heads : List ℕ) (heard : List (Reply m.Answer)) → IsOnPlainTrack m w reach steps g overflowed heads heard
      → (limit : ℕ) → (limit ≤ reach) ⊎ (overflowed ≡ false) → HeadsDescend m w limit heads steps g → (n : ℕ) (b : m.Answer) → n ≤ limit → IsPlain m w n g b → IsTracking m w g overflowed heads heard (pred n) b
  tracking w reach steps g overflowed heads heard track limit h d = told_descending w limit heads steps g d (λ n b. IsTracking m w g overflowed heads heard (pred n) b) (λ n b now. now.told.unread) claim where
    claim : (n : ℕ) (b : m.Answer) → n ≤ limit → IsPlain m w n g b → IsTracking m w g overflowed heads heard (pred n) b ⊎ HasPlainHead m w n heads steps
    claim zero b within p = absurd p
    claim (suc n) b within p = track n b (elim h [ inl l ↦ inl (omega (arith, l, within)) | inr y ↦ inr y ]) p

  question_descends : (w : m.World) (limit : ℕ) (g q : m.Goal) (k : PathKind) (overflowed : Bool) (heads : List ℕ) (heard : List (Reply m.Answer)) → m.asks w g heard ≡ Evaluate q k
      → ((n : ℕ) (b : m.Answer) → n ≤ limit → IsPlain m w n g b → IsTracking m w g overflowed heads heard (pred n) b) → Descends m w limit g q
  question_descends w limit g q k overflowed heads heard asks now zero b within p = absurd p
  question_descends w limit g q k overflowed heads heard asks now (suc n) b within p =
      let t = now (suc n) b within p in
      let x = asked m w (IsPlain m w n) g q k heard t.track.0 b asks t.track.1 in
      (n, x.0, omega arith, x.2)

  pub plain_first : (w : m.World) (reach : ℕ) (steps : List (m.Goal × PathKind)) (g : m.Goal) (overflowed : Bool) (heads : List ℕ) → IsUntouched m w reach steps g overflowed heads → IsOnPlainTrack m w reach steps g overflowed heads (Begin ∷ [])
  plain_first w reach steps g overflowed heads untouched n b h p = elim (untouched (suc n) b h p) [
    | inl told ↦ inl (record { track = on_track_first m w n g b p; told = told })
    | inr x ↦ inr x
  ]

  -- nothing was asked yet
  pub untouched_first : (w : m.World) (reach : ℕ) (steps : List (m.Goal × PathKind)) (g : m.Goal) (overflowed : Bool) (heads : List ℕ) → overflowed ≡ false → heads ≡ [] → IsUntouched m w reach steps g overflowed heads
  untouched_first w reach steps g overflowed heads none empty n b h p = inl (record { same = refl; within = none; unread = empty })

  -- what needs a head was touched or not, and is answered in any way
  pub untouched_needs_head : (w : m.World) (reach : ℕ) (steps : List (m.Goal × PathKind)) (g : m.Goal) (overflowed : Bool) (heads : List ℕ) → NeedsHead m w reach steps g overflowed heads → IsUntouched m w reach steps g overflowed heads
  untouched_needs_head w reach steps g overflowed heads needs n b h p = inr (needs n b h p)

  pub faithful_needs_head : (w : m.World) (reach : ℕ) (steps : List (m.Goal × PathKind)) (g : m.Goal) (a : m.Answer) (overflowed : Bool) (heads : List ℕ) → NeedsHead m w reach steps g overflowed heads → IsFaithful m w reach steps g a overflowed heads
  faithful_needs_head w reach steps g a overflowed heads needs n b h p = inr (needs n b h p)

  module _ (w : m.World) (reach : ℕ) (steps : List (m.Goal × PathKind)) (g : m.Goal) (overflowed : Bool) (heads : List ℕ) (heard : List (Reply m.Answer)) (track : IsOnPlainTrack m w reach steps g overflowed heads heard) where
    pub plain_entered : m.asks w g heard ≡ EnterCandidate → IsOnPlainTrack m w reach steps g overflowed heads (Entered ∷ heard)
    plain_entered is n b h p = elim (track n b h p) [
      | inl now ↦ inl (record { track = entered_next m w n g b heard is now.track; told = now.told })
      | inr x ↦ inr x
    ]

    pub plain_finished : (number : ℕ) → number ≡ length (finished m w g heard) → m.asks w g heard ≡ FinishCandidate → IsOnPlainTrack m w reach steps g overflowed heads (Finished number ∷ heard)
    plain_finished number is asks n b h p = elim (track n b h p) [
      | inl now ↦ inl (record { track = finished_next m w n g b heard number is asks now.track; told = now.told })
      | inr x ↦ inr x
    ]

    pub plain_ignored : (number : ℕ) → m.asks w g heard ≡ IgnoreCandidate number → IsOnPlainTrack m w reach steps g overflowed heads (Ignored ∷ heard)
    plain_ignored number is n b h p = elim (track n b h p) [
      | inl now ↦ inl (record { track = ignored_next m w n g b heard number is now.track; told = now.told })
      | inr x ↦ inr x
    ]

  module _ (w : m.World) (depth : ℕ) (steps : List (m.Goal × PathKind)) (g q : m.Goal) (j k : PathKind) (overflowed more : Bool) (heads nested all : List ℕ) (heard : List (Reply m.Answer)) (a : m.Answer)
      (from_heads : (place : ℕ) → IsHead place heads → IsHead place all) (from_nested : (place : ℕ) → IsHead place nested → IsHead place all) (none : heads ≡ [] → nested ≡ [] → all ≡ [])
      (asks : m.asks w g heard ≡ Evaluate q k) (track : IsOnPlainTrack m w (depth + 1) steps g overflowed heads heard)
      (faithful : IsFaithful m w (cond overflowed 0 depth) (steps ++ (g, j) ∷ []) q a more nested) where
    -- what one more reply shows, if the goal is plain
    abbrev IsToldNext : ℕ → m.Answer → Type 0
    IsToldNext n b = IsTracking m w g (overflowed || more) all (Result a ∷ heard) n b ⊎ HasPlainHead m w (suc n) all steps

    -- the nested goal needs a head. If that is the goal itself, the goal is plain in a shorter chain, and needs a head there
    nested_head : (n : ℕ) → ((i : ℕ) (b : m.Answer) → i < n → IsPlain m w (suc i) g b → IsToldNext i b) → HasPlainHead m w n nested (steps ++ (g, j) ∷ []) → HasPlainHead m w (suc n) all steps
    nested_head n again x = elim (slice_get_last steps (g, j) x.step x.place x.there) [
      | inl there ↦ record { place = x.place; step = x.step; head = from_nested x.place x.head; there = there; chain = x.chain; answer = x.answer; within = let l = x.within in omega (arith, l); plain = x.plain }
      | inr own ↦ own_head x.chain x.within (subst (λ z. IsPlain m w x.chain z.0 x.answer) (sym own) x.plain)
    ] where
      own_head : (chain : ℕ) → chain ≤ n → IsPlain m w chain g x.answer → HasPlainHead m w (suc n) all steps
      own_head zero l p = absurd p
      own_head (suc i) l p = elim (again i x.answer (omega (arith, l)) p) [
        | inl now ↦ absurd (subst (λ hs. IsHead x.place hs) now.told.unread (from_nested x.place x.head))
        | inr y ↦ plain_head_more w (suc i) (suc n) all all steps (omega (arith, l)) (λ place head. head) y
      ]

    told_next : (fuel n : ℕ) (b : m.Answer) → n < fuel → (suc n ≤ depth + 1) ⊎ ((overflowed || more) ≡ false) → IsPlain m w (suc n) g b → IsToldNext n b
    told_next zero n b less h p = absurd (omega (arith, less))
    told_next (suc fuel) n b less h p =
        let old : (suc n ≤ depth + 1) ⊎ (overflowed ≡ false) = elim h [ inl l ↦ inl l | inr y ↦ inr (or_first overflowed more y) ] in
        elim (track n b old p) [
          | inr x ↦ inr (plain_head_more w (suc n) (suc n) heads all steps (omega arith) from_heads x)
          | inl now ↦
              let x = asked m w (IsPlain m w n) g q k heard now.track.0 b asks now.track.1 in
              let reach : (n ≤ cond overflowed 0 depth) ⊎ (more ≡ false) = elim h [ inl l ↦ inl (rw now.told.within (omega (arith, l))) | inr y ↦ inr (or_second overflowed more y) ] in
              elim (faithful n x.0 reach x.2) [
                | inl say ↦ inl (record { track = (x.1, rw say.same at x.3); told = record { same = refl; within = rw (now.told.within, say.within) refl; unread = none now.told.unread say.unread } })
                | inr y ↦ inr (nested_head n (λ i c l. told_next fuel i c (omega (arith, l, less)) (elim h [ inl k ↦ inl (omega (arith, k, l)) | inr y ↦ inr y ])) y)
              ]
        ]

    pub plain_next : IsOnPlainTrack m w (depth + 1) steps g (overflowed || more) all (Result a ∷ heard)
    plain_next n b h p = told_next (suc n) n b (omega arith) h p

  pub plain_done : (w : m.World) (reach : ℕ) (steps : List (m.Goal × PathKind)) (g : m.Goal) (overflowed : Bool) (heads : List ℕ) (heard : List (Reply m.Answer)) (a : m.Answer)
      → m.asks w g heard ≡ Done a → IsOnPlainTrack m w reach steps g overflowed heads heard → IsFaithful m w reach steps g a overflowed heads
  plain_done w reach steps g overflowed heads heard a is track zero b h p = absurd p
  plain_done w reach steps g overflowed heads heard a is track (suc n) b h p = elim (track n b h p) [
    | inl now ↦ inl (record { same = on_track_done m w n g heard a b is now.track; within = now.told.within; unread = now.told.unread })
    | inr x ↦ inr x
  ]

  -- a goal that was read under itself is not plain, and one that wasn't keeps what its run told
  pub faithful_taken : (w : m.World) (reach : ℕ) (steps : List (m.Goal × PathKind)) (g : m.Goal) (a : m.Answer) (overflowed : Bool) (heads less : List ℕ) → (heads ≡ [] → less ≡ []) → AreHeadsBut (length steps) less heads
      → IsFaithful m w reach steps g a overflowed heads → IsFaithful m w reach steps g a overflowed less
  faithful_taken w reach steps g a overflowed heads less none but f n b h p = elim (f n b h p) [
    | inl told ↦ inl (record { same = told.same; within = told.within; unread = none told.unread })
    | inr x ↦ inr (run_plain_head w n heads less steps but x)
  ]

  pub IsFaithful-less : (w : m.World) (reach less : ℕ) (steps : List (m.Goal × PathKind)) (g : m.Goal) (a : m.Answer) (overflowed : Bool) (heads : List ℕ) → less ≤ reach
      → IsFaithful m w reach steps g a overflowed heads → IsFaithful m w less steps g a overflowed heads
  IsFaithful-less w reach less steps g a overflowed heads h f n b k p = f n b (elim k [ inl l ↦ inl (omega (arith, l, h)) | inr y ↦ inr y ]) p

  -- a result that rests on others, or came after an overflow, may be marked as one after an overflow
  pub faithful_marked : (w : m.World) (reach : ℕ) (steps : List (m.Goal × PathKind)) (g : m.Goal) (a : m.Answer) (before after : Bool) (heads : List ℕ)
      → (before ≡ true → after ≡ true) → (after ≡ true → (before ≡ true) ⊎ (heads ≡ [] → ⊥)) → IsFaithful m w reach steps g a before heads → IsFaithful m w reach steps g a after heads
  faithful_marked w reach steps g a before true heads told due f n b h p =
      let near : n ≤ reach = elim h [ inl l ↦ l | inr off ↦ absurd (true_not_false off) ] in
      elim (f n b (inl near) p) [
        | inl said ↦ absurd (elim (due refl) [ inl on ↦ true_not_false (sym on ∙ said.within) | inr rests ↦ rests said.unread ])
        | inr x ↦ inr x
      ]
  faithful_marked w reach steps g a true false heads told due f n b h p = absurd (true_not_false (sym (told refl)))
  faithful_marked w reach steps g a false false heads told due f n b h p = f n b h p

  -- at depth 0 no question is plain
  pub faithful_at_zero : (w : m.World) (before : Bool) (steps : List (m.Goal × PathKind)) (g : m.Goal) (a : m.Answer) (heads : List ℕ) → IsFaithful m w (cond before 0 0) steps g a true heads
  faithful_at_zero w before steps g a heads zero b h p = absurd p
  faithful_at_zero w before steps g a heads (suc n) b h p =
      elim h [ inl l ↦ absurd (let z = cond_zero before in let k : suc n ≤ 0 = rw z at l in omega (arith, k)) | inr y ↦ absurd (let e : true ≡ false = y in cc) ]

  pub not_plain_at_zero : (w : m.World) (before : Bool) (limit : ℕ) (g : m.Goal) → limit ≤ cond before 0 0 → IsNotPlain m w limit g
  not_plain_at_zero w before limit g h zero b within p = p
  not_plain_at_zero w before limit g h (suc n) b within p = let z = cond_zero before in let k : limit ≤ 0 = rw z at h in omega arith

  -- what isn't plain is answered in any way
  pub faithful_not_plain : (w : m.World) (reach : ℕ) (steps : List (m.Goal × PathKind)) (g : m.Goal) (a : m.Answer) (overflowed : Bool) (heads : List ℕ)
      → ((limit : ℕ) → (limit ≤ reach) ⊎ (overflowed ≡ false) → IsNotPlain m w limit g) → IsFaithful m w reach steps g a overflowed heads
  faithful_not_plain w reach steps g a overflowed heads never n b h p = absurd (never n h n b (omega arith) p)

  -- a kept result is told anywhere
  pub faithful_kept : (w : m.World) (depth kept : ℕ) (steps : List (m.Goal × PathKind)) (g : m.Goal) (a : m.Answer) (overflowed : Bool) (heads : List ℕ)
      → (overflowed ≡ true → kept ≡ depth) → heads ≡ [] → IsKept m w g a kept overflowed → IsFaithful m w (depth + 1) steps g a overflowed heads
  faithful_kept w depth kept steps g a true heads at empty k n b h p =
      let told = k n (elim h [ inl l ↦ inl (rw (at refl) l) | inr y ↦ inr y ]) n b (omega arith) p in inl (record { same = told.0; within = told.1; unread = empty })
  faithful_kept w depth kept steps g a false heads at empty k n b h p =
      let told = k n (inr refl) n b (omega arith) p in inl (record { same = told.0; within = told.1; unread = empty })

  -- a faithful result that rests on no goal of the stack is kept
  pub kept_of_faithful : (w : m.World) (depth : ℕ) (steps : List (m.Goal × PathKind)) (g : m.Goal) (a : m.Answer) (overflowed : Bool) (heads : List ℕ)
      → heads ≡ [] → IsFaithful m w (depth + 1) steps g a overflowed heads → IsKept m w g a depth overflowed
  kept_of_faithful w depth steps g a overflowed heads none f limit h n b within p = elim (f n b (elim h [ inl l ↦ inl (omega (arith, l, within)) | inr y ↦ inr y ]) p) [
    | inl told ↦ (told.same, told.within)
    | inr x ↦ absurd (no_plain_head w n heads steps none x)
  ]

  pub plain_next_at : (w : m.World) (depth : ℕ) (steps : List (m.Goal × PathKind)) (g q : m.Goal) (j k : PathKind) (overflowed more now : Bool) (heads nested all : List ℕ) (heard : List (Reply m.Answer)) (a : m.Answer)
      → now ≡ (overflowed || more) → ((place : ℕ) → IsHead place heads → IsHead place all) → ((place : ℕ) → IsHead place nested → IsHead place all) → (heads ≡ [] → nested ≡ [] → all ≡ [])
      → m.asks w g heard ≡ Evaluate q k → IsOnPlainTrack m w (depth + 1) steps g overflowed heads heard
      → IsFaithful m w (cond overflowed 0 depth) (steps ++ (g, j) ∷ []) q a more nested
      → IsOnPlainTrack m w (depth + 1) steps g now all (Result a ∷ heard)
  plain_next_at w depth steps g q j k overflowed more now heads nested all heard a is_now from_heads from_nested none asks track faithful =
      rw is_now (plain_next w depth steps g q j k overflowed more heads nested all heard a from_heads from_nested none asks track faithful)

  -- a conflict under a question: the asking goal isn't plain either
  pub conflict_up : (w : m.World) (depth : ℕ) (steps : List (m.Goal × PathKind)) (g q : m.Goal) (j k : PathKind) (overflowed : Bool) (heads : List ℕ) (heard : List (Reply m.Answer))
      → m.asks w g heard ≡ Evaluate q k → IsOnPlainTrack m w (depth + 1) steps g overflowed heads heard
      → ((limit : ℕ) → limit ≤ cond overflowed 0 depth → AllDescend m w limit (steps ++ (g, j) ∷ []) q → IsNotPlain m w limit q)
      → (limit : ℕ) → limit ≤ depth + 1 → AllDescend m w limit steps g → IsNotPlain m w limit g
  conflict_up w depth steps g q j k overflowed heads heard asks track nested limit l d zero b within p = absurd p
  conflict_up w depth steps g q j k overflowed heads heard asks track nested limit l d (suc n) b within p =
      let now = tracking w (depth + 1) steps g overflowed heads heard track limit (inl l) (all_heads_descend w limit heads steps g d) in
      let t = now (suc n) b within p in
      let x = asked m w (IsPlain m w n) g q k heard t.track.0 b asks t.track.1 in
      let down : Descends m w limit g q = question_descends w limit g q k overflowed heads heard asks now in
      let all : AllDescend m w (pred limit) (steps ++ (g, j) ∷ []) q =
      λ place s at. Descends-less w limit (pred limit) s.0 q (omega arith)
      (elim (slice_get_last steps (g, j) s place at) [
        | inl there ↦ Descends-trans m w limit s.0 g q (d place s there) down
        | inr own ↦ subst (λ z. Descends m w limit z.0 q) own down
      ])
      in
      nested (pred limit) (rw t.told.within (omega (arith, l))) all n x.0 (omega (arith, within)) x.2

  -- a goal that ends with a result that rests on others, or after an overflow, isn't plain
  pub ends_not_plain : (w : m.World) (reach : ℕ) (steps : List (m.Goal × PathKind)) (g : m.Goal) (a : m.Answer) (overflowed : Bool) (heads : List ℕ)
      → (overflowed ≡ true) ⊎ (heads ≡ [] → ⊥) → IsFaithful m w reach steps g a overflowed heads
      → (limit : ℕ) → limit ≤ reach → AllDescend m w limit steps g → IsNotPlain m w limit g
  ends_not_plain w reach steps g a overflowed heads ends faithful limit l d n b within p =
      let told = faithful_told w reach steps g a overflowed heads faithful limit (inl l) (all_heads_descend w limit heads steps g d) n b within p in
      elim ends [ inl x ↦ true_not_false (sym x ∙ told.within) | inr y ↦ y told.unread ]

  -- nor is one that needs a head
  pub needs_not_plain : (w : m.World) (reach : ℕ) (steps : List (m.Goal × PathKind)) (g : m.Goal) (overflowed : Bool) (heads : List ℕ) → NeedsHead m w reach steps g overflowed heads
      → (limit : ℕ) → limit ≤ reach → AllDescend m w limit steps g → IsNotPlain m w limit g
  needs_not_plain w reach steps g overflowed heads needs limit l d =
      told_descending w limit heads steps g (all_heads_descend w limit heads steps g d) (λ n b. ⊥) (λ n b none. absurd none) (λ n b within p. inr (needs n b (inl (omega (arith, l, within))) p))

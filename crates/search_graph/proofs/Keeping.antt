-- Paths of kept goals.
use Rattle.std.proofs.Common.{◌≡◌, ◌<◌, ℕ, suc, zero, Bool, true, false, cond, List, [], ◌∷◌, ◌++◌, length, inl, inr, refl, sym, ◌∙◌, ap, subst, arith}
use Rattle.search_paths.specs.declared.path_kind.PathKind.{PathKind}
use Rattle.search_paths.specs.declared.path_kind.PathKind.TheVariants.{Inductive, Coinductive, ForcedAmbiguity}
use Rattle.search_paths.specs.Path.{greater}
use Rattle.search_graph.specs.Shown.{Shown, none, loop, rule, LoopsBack}
use Rattle.search_paths.specs.KeptPaths.{kind_of, later, kept_onto, left_over, kept_path, step_after, AreKept, AreBelow}
use Rattle.search_graph.specs.Rests.{ShownFor, DerivedFor, EntriesServe, EntriesAreLeft, RunsEnd, RunsAnswer, LastResultsServe, InitialResultsServe, HeadlessServe, EntriesMove, EntriesMoveDown}
use Rattle.search_paths.proofs.KindOrder.{greater-associative, greater_forced}
use Rattle.search_graph.proofs.ProofGraphs.{Shown-weaken, Shown-between, Shown-again, Shown-moves}

-- the places after these goals
abbrev past : {G : Type 0} → List (G × PathKind) → (ℕ → Bool) → ℕ → Bool
past [] kept = kept
past (s ∷ steps) kept = past steps (later kept)

module _ {G : Type 0} where
  kept_onto-append : (kept : ℕ → Bool) (k : PathKind) (xs ys path : List (G × PathKind)) → kept_onto kept k (xs ++ ys) path ≡ kept_onto (past xs kept) (left_over kept k xs) ys (kept_onto kept k xs path)
  kept_onto-append kept k [] ys path = refl
  kept_onto-append kept k (x ∷ xs) ys path =
      elim (kept zero) as (λ b. cond b (kept_onto (later kept) Inductive (xs ++ ys) ((x.0, greater k x.1) ∷ path)) (kept_onto (later kept) (greater k x.1) (xs ++ ys) path)
      ≡ kept_onto (past xs (later kept)) (cond b (left_over (later kept) Inductive xs) (left_over (later kept) (greater k x.1) xs)) ys (cond b (kept_onto (later kept) Inductive xs ((x.0, greater k x.1) ∷ path)) (kept_onto (later kept) (greater k x.1) xs path))) [
        | true ↦ kept_onto-append (later kept) Inductive xs ys ((x.0, greater k x.1) ∷ path)
        | false ↦ kept_onto-append (later kept) (greater k x.1) xs ys path
      ]

  left_over-append : (kept : ℕ → Bool) (k : PathKind) (xs ys : List (G × PathKind)) → left_over kept k (xs ++ ys) ≡ left_over (past xs kept) (left_over kept k xs) ys
  left_over-append kept k [] ys = refl
  left_over-append kept k (x ∷ xs) ys =
      elim (kept zero) as (λ b. cond b (left_over (later kept) Inductive (xs ++ ys)) (left_over (later kept) (greater k x.1) (xs ++ ys))
      ≡ left_over (past xs (later kept)) (cond b (left_over (later kept) Inductive xs) (left_over (later kept) (greater k x.1) xs)) ys) [
        | true ↦ left_over-append (later kept) Inductive xs ys
        | false ↦ left_over-append (later kept) (greater k x.1) xs ys
      ]

  past_first : (xs : List (G × PathKind)) (kept : ℕ → Bool) → past xs kept zero ≡ kept (length xs)
  past_first [] kept = refl
  past_first (x ∷ xs) kept = past_first xs (later kept)

module _ {G : Type 0} (Follows : G → List (G × PathKind) → Type 0) where
  -- goals are put onto the path, as many of them as are kept
  Shown-onto : (kept : ℕ → Bool) (before k : PathKind) (steps path : List (G × PathKind)) (g : G) → Shown G Follows path ((g, greater before (kind_of steps k)) ∷ []) → Shown G Follows (kept_onto kept before steps path) ((g, greater (left_over kept before steps) k) ∷ [])
  Shown-onto kept before k [] path g s = s
  Shown-onto kept before k (x ∷ xs) path g s =
      let moved : Shown G Follows path ((g, greater (greater before x.1) (kind_of xs k)) ∷ []) = subst (λ z. Shown G Follows path ((g, z) ∷ [])) (sym (greater-associative before x.1 (kind_of xs k))) s in
      elim (kept zero) as (λ b. Shown G Follows (cond b (kept_onto (later kept) Inductive xs ((x.0, greater before x.1) ∷ path)) (kept_onto (later kept) (greater before x.1) xs path))
      ((g, greater (cond b (left_over (later kept) Inductive xs) (left_over (later kept) (greater before x.1) xs)) k) ∷ [])) [
        | true ↦ Shown-onto (later kept) Inductive k xs ((x.0, greater before x.1) ∷ path) g (Shown-between Follows path x.0 g (greater before x.1) (kind_of xs k) moved)
        | false ↦ Shown-onto (later kept) (greater before x.1) k xs path g moved
      ]

  pub entries_serve : EntriesServe G Follows
  entries_serve heads before between g kind k is entry kept all =
      let whole = Shown-onto (past before kept) (left_over kept Inductive before) k between (kept_path kept before) g (subst (λ z. Shown G Follows (kept_path kept before) ((g, greater (left_over kept Inductive before) z) ∷ [])) (sym is) (entry kept all)) in
      rw (kept_onto-append kept Inductive before between [], left_over-append kept Inductive before between) whole

-- the kept places of these goals, and none after them
abbrev cut : {G : Type 0} → List (G × PathKind) → (ℕ → Bool) → ℕ → Bool
cut [] kept place = false
cut (s ∷ steps) kept zero = kept zero
cut (s ∷ steps) kept (suc place) = cut steps (later kept) place

cut_before : {G : Type 0} (steps : List (G × PathKind)) (kept : ℕ → Bool) (place : ℕ) → place < length steps → cut steps kept place ≡ kept place
cut_before [] kept place h = absurd (omega (arith, h))
cut_before (s ∷ steps) kept zero h = refl
cut_before (s ∷ steps) kept (suc place) h = cut_before steps (later kept) place (omega (arith, h))

-- the place after these goals, and the kept ones
abbrev with : {G : Type 0} → List (G × PathKind) → (ℕ → Bool) → ℕ → Bool
with [] kept zero = true
with [] kept (suc place) = kept (suc place)
with (s ∷ steps) kept zero = kept zero
with (s ∷ steps) kept (suc place) = with steps (later kept) place

with_more : {G : Type 0} (steps : List (G × PathKind)) (kept : ℕ → Bool) (place : ℕ) → kept place ≡ true → with steps kept place ≡ true
with_more [] kept zero h = refl
with_more [] kept (suc place) h = h
with_more (s ∷ steps) kept zero h = h
with_more (s ∷ steps) kept (suc place) h = with_more steps (later kept) place h

with_last : {G : Type 0} (steps : List (G × PathKind)) (kept : ℕ → Bool) → with steps kept (length steps) ≡ true
with_last [] kept = refl
with_last (s ∷ steps) kept = with_last steps (later kept)

AreKept-more : (kept other : ℕ → Bool) (heads : List ℕ) → ((place : ℕ) → kept place ≡ true → other place ≡ true) → AreKept kept heads → AreKept other heads
AreKept-more kept other [] f all = tt
AreKept-more kept other (h ∷ heads) f all = (f h all.0, AreKept-more kept other heads f all.1)

AreKept-cut : {G : Type 0} (steps : List (G × PathKind)) (kept : ℕ → Bool) (heads : List ℕ) → AreBelow (length steps) heads → AreKept kept heads → AreKept (cut steps kept) heads
AreKept-cut steps kept [] low all = tt
AreKept-cut steps kept (h ∷ heads) low all = (cut_before steps kept h low.0 ∙ all.0, AreKept-cut steps kept heads low.1 all.1)

module _ {G : Type 0} where
  -- nothing is kept of the goals after those
  none_onto : (k : PathKind) (ys path : List (G × PathKind)) → kept_onto (λ place. false) k ys path ≡ path
  none_onto k [] path = refl
  none_onto k (y ∷ ys) path = none_onto (greater k y.1) ys path

  none_left : (before k : PathKind) (ys : List (G × PathKind)) → greater (left_over (λ place. false) before ys) k ≡ greater before (kind_of ys k)
  none_left before k [] = refl
  none_left before k (y ∷ ys) = none_left (greater before y.1) k ys ∙ greater-associative before y.1 (kind_of ys k)

  past_cut : (xs : List (G × PathKind)) (kept : ℕ → Bool) → past xs (cut xs kept) ≡ (λ place. false)
  past_cut [] kept = refl
  past_cut (x ∷ xs) kept = past_cut xs (later kept)

  cut_onto : (xs : List (G × PathKind)) (kept : ℕ → Bool) (k : PathKind) (path : List (G × PathKind)) → kept_onto (cut xs kept) k xs path ≡ kept_onto kept k xs path
  cut_onto [] kept k path = refl
  cut_onto (x ∷ xs) kept k path =
      elim (kept zero) as (λ b. cond b (kept_onto (cut xs (later kept)) Inductive xs ((x.0, greater k x.1) ∷ path)) (kept_onto (cut xs (later kept)) (greater k x.1) xs path)
      ≡ cond b (kept_onto (later kept) Inductive xs ((x.0, greater k x.1) ∷ path)) (kept_onto (later kept) (greater k x.1) xs path)) [
        | true ↦ cut_onto xs (later kept) Inductive ((x.0, greater k x.1) ∷ path)
        | false ↦ cut_onto xs (later kept) (greater k x.1) path
      ]

  cut_left : (xs : List (G × PathKind)) (kept : ℕ → Bool) (k : PathKind) → left_over (cut xs kept) k xs ≡ left_over kept k xs
  cut_left [] kept k = refl
  cut_left (x ∷ xs) kept k =
      elim (kept zero) as (λ b. cond b (left_over (cut xs (later kept)) Inductive xs) (left_over (cut xs (later kept)) (greater k x.1) xs)
      ≡ cond b (left_over (later kept) Inductive xs) (left_over (later kept) (greater k x.1) xs)) [
        | true ↦ cut_left xs (later kept) Inductive
        | false ↦ cut_left xs (later kept) (greater k x.1)
      ]

  with_onto : (xs : List (G × PathKind)) (kept : ℕ → Bool) (k : PathKind) (path : List (G × PathKind)) → kept_onto (with xs kept) k xs path ≡ kept_onto kept k xs path
  with_onto [] kept k path = refl
  with_onto (x ∷ xs) kept k path =
      elim (kept zero) as (λ b. cond b (kept_onto (with xs (later kept)) Inductive xs ((x.0, greater k x.1) ∷ path)) (kept_onto (with xs (later kept)) (greater k x.1) xs path)
      ≡ cond b (kept_onto (later kept) Inductive xs ((x.0, greater k x.1) ∷ path)) (kept_onto (later kept) (greater k x.1) xs path)) [
        | true ↦ with_onto xs (later kept) Inductive ((x.0, greater k x.1) ∷ path)
        | false ↦ with_onto xs (later kept) (greater k x.1) path
      ]

  with_left : (xs : List (G × PathKind)) (kept : ℕ → Bool) (k : PathKind) → left_over (with xs kept) k xs ≡ left_over kept k xs
  with_left [] kept k = refl
  with_left (x ∷ xs) kept k =
      elim (kept zero) as (λ b. cond b (left_over (with xs (later kept)) Inductive xs) (left_over (with xs (later kept)) (greater k x.1) xs)
      ≡ cond b (left_over (later kept) Inductive xs) (left_over (later kept) (greater k x.1) xs)) [
        | true ↦ with_left xs (later kept) Inductive
        | false ↦ with_left xs (later kept) (greater k x.1)
      ]

  -- where the goal after these is kept, it is the newest of the path
  pub kept_last : (kept : ℕ → Bool) (steps : List (G × PathKind)) (q : G) (j : PathKind) → kept (length steps) ≡ true → kept_path kept (steps ++ (q, j) ∷ []) ≡ (q, step_after kept steps j) ∷ kept_path kept steps
  kept_last kept steps q j h =
      kept_onto-append kept Inductive steps ((q, j) ∷ []) []
      ∙ ap (λ b. cond b ((q, step_after kept steps j) ∷ kept_path kept steps) (kept_path kept steps)) (past_first steps kept ∙ h)

  pub left_last : (kept : ℕ → Bool) (steps : List (G × PathKind)) (q : G) (j : PathKind) → kept (length steps) ≡ true → left_over kept Inductive (steps ++ (q, j) ∷ []) ≡ Inductive
  left_last kept steps q j h =
      left_over-append kept Inductive steps ((q, j) ∷ [])
      ∙ ap (λ b. cond b Inductive (greater (left_over kept Inductive steps) j)) (past_first steps kept ∙ h)

  pub append_one : (xs : List (G × PathKind)) (y : G × PathKind) (ys : List (G × PathKind)) → (xs ++ y ∷ []) ++ ys ≡ xs ++ y ∷ ys
  append_one [] y ys = refl
  append_one (x ∷ xs) y ys = ap (λ l. x ∷ l) (append_one xs y ys)

module _ {G : Type 0} (Follows : G → List (G × PathKind) → Type 0) where
  pub entries_are_left : EntriesAreLeft G Follows
  entries_are_left heads before between g k low entry kept all =
      let s = entry (cut before kept) (AreKept-cut before kept heads low all) in
      let path : kept_path (cut before kept) (before ++ between) ≡ kept_path kept before =
      kept_onto-append (cut before kept) Inductive before between []
      ∙ ap (λ f. kept_onto f (left_over (cut before kept) Inductive before) between (kept_onto (cut before kept) Inductive before [])) (past_cut before kept)
      ∙ none_onto (left_over (cut before kept) Inductive before) between (kept_onto (cut before kept) Inductive before [])
      ∙ cut_onto before kept Inductive []
      in
      let step : step_after (cut before kept) (before ++ between) k ≡ step_after kept before (kind_of between k) =
      ap (λ z. greater z k) (left_over-append (cut before kept) Inductive before between)
      ∙ ap (λ f. greater (left_over f (left_over (cut before kept) Inductive before) between) k) (past_cut before kept)
      ∙ none_left (left_over (cut before kept) Inductive before) k between
      ∙ ap (λ z. greater z (kind_of between k)) (cut_left before kept Inductive)
      in
      subst (λ z. Shown G Follows (kept_path kept before) ((g, z) ∷ [])) step (subst (λ p. Shown G Follows p ((g, step_after (cut before kept) (before ++ between) k) ∷ [])) path s)

  pub runs_end : RunsEnd G Follows
  runs_end heads less steps premises q j back follows run = (
    premises,
    follows,
    λ kept all.
        let others = with steps kept in
        let s = run others (back others (AreKept-more kept others less (with_more steps kept) all) (with_last steps kept)) (with_last steps kept) in
        let path : kept_path others (steps ++ (q, j) ∷ []) ≡ (q, step_after kept steps j) ∷ kept_path kept steps =
        kept_last others steps q j (with_last steps kept)
        ∙ ap (λ z. (q, greater z j) ∷ kept_path others steps) (with_left steps kept Inductive)
        ∙ ap (λ p. (q, step_after kept steps j) ∷ p) (with_onto steps kept Inductive [])
        in
        subst (λ p. Shown G Follows p premises) path s,
  )

  pub runs_answer : RunsAnswer G Follows
  runs_answer heads steps q j (premises, follows, below) kept all = rule follows (below kept all) none

  pub last_results_serve : LastResultsServe G Follows
  last_results_serve heads below between h j k (premises, follows, shown) =
      subst (λ l. ShownFor G Follows (length below ∷ heads) l h k) (append_one below (h, j) between)
      (entries_serve Follows (length below ∷ heads) (below ++ (h, j) ∷ []) between h (kind_of between k) k refl entry) where
        entry : ShownFor G Follows (length below ∷ heads) (below ++ (h, j) ∷ []) h (kind_of between k)
        entry kept all =
            rw (kept_last kept below h j all.0)
            (Shown-again Follows (kept_path kept below) premises h (step_after kept below j) (step_after kept (below ++ (h, j) ∷ []) (kind_of between k)) follows (shown kept all.1))

  read_first : (path : List (G × PathKind)) (h : G) (a : PathKind) → Shown G Follows ((h, a) ∷ path) ((h, Coinductive) ∷ [])
  read_first path h a =
      let back : LoopsBack ((h, a) ∷ path) h true = inl (refl, refl) in
      loop back none

  pub initial_results_serve : InitialResultsServe G Follows
  initial_results_serve below between h j k is =
      subst (λ l. ShownFor G Follows (length below ∷ []) l h k) (append_one below (h, j) between)
      (entries_serve Follows (length below ∷ []) (below ++ (h, j) ∷ []) between h Coinductive k is entry) where
        entry : ShownFor G Follows (length below ∷ []) (below ++ (h, j) ∷ []) h Coinductive
        entry kept all = rw (kept_last kept below h j all.0, left_last kept below h j all.0) (read_first (kept_path kept below) h (step_after kept below j))

  -- what rests on no head is derived over any path
  pub derived_anywhere : (steps now : List (G × PathKind)) (g : G) (j k : PathKind) → DerivedFor G Follows [] steps g j → DerivedFor G Follows [] now g k
  derived_anywhere steps now g j k (premises, follows, below) = (
    premises,
    follows,
    λ kept all.
        let s = below (λ place. false) tt in
        let alone : Shown G Follows ((g, step_after (λ place. false) steps j) ∷ []) premises = subst (λ p. Shown G Follows ((g, step_after (λ place. false) steps j) ∷ p) premises) (none_onto Inductive steps []) s in
        Shown-weaken Follows ((g, step_after kept now k) ∷ kept_path kept now) (λ x b l. elim l [ inl y ↦ inl y | inr y ↦ absurd y ]) alone,
  )

  pub headless_serve : HeadlessServe G Follows
  headless_serve steps now g j k derived = runs_answer [] now g k (derived_anywhere steps now g j k derived)

  pub entries_move : EntriesMove G Follows
  entries_move heads own moved below p g j kind back rests free (premises, follows, shown) entry kept all =
      let others = with below kept in
      let s = entry others (back others (AreKept-more kept others moved (with_more below kept) all) (with_last below kept)) in
      let path : kept_path others (below ++ (p, j) ∷ []) ≡ (p, step_after kept below j) ∷ kept_path kept below =
      kept_last others below p j (with_last below kept)
      ∙ ap (λ z. (p, greater z j) ∷ kept_path others below) (with_left below kept Inductive)
      ∙ ap (λ l. (p, step_after kept below j) ∷ l) (with_onto below kept Inductive [])
      in
      let step : step_after others (below ++ (p, j) ∷ []) kind ≡ kind = ap (λ z. greater z kind) (left_last others below p j (with_last below kept)) in
      let over : Shown G Follows ((p, step_after kept below j) ∷ kept_path kept below) ((g, kind) ∷ []) =
      subst (λ l. Shown G Follows l ((g, kind) ∷ [])) path (subst (λ z. Shown G Follows (kept_path others (below ++ (p, j) ∷ [])) ((g, z) ∷ [])) step s)
      in
      subst (λ z. Shown G Follows (kept_path kept below) ((g, z) ∷ [])) (greater-associative (left_over kept Inductive below) j kind)
      (Shown-moves Follows p (step_after kept below j) (kept_path kept below) premises follows (shown kept (rests kept all)) g kind (free kept all) over)

-- the kinds that are left over are no greater than all of them
left_forced : {G : Type 0} (kept : ℕ → Bool) (before j kind : PathKind) (ys : List (G × PathKind)) → greater (greater (left_over kept before ys) j) kind ≡ ForcedAmbiguity → greater before (kind_of ys (greater j kind)) ≡ ForcedAmbiguity
left_forced kept before j kind [] h = sym (greater-associative before j kind) ∙ h
left_forced kept before j kind (y ∷ ys) h =
    elim (kept zero) as (λ b. greater (greater (cond b (left_over (later kept) Inductive ys) (left_over (later kept) (greater before y.1) ys)) j) kind ≡ ForcedAmbiguity → greater before (greater y.1 (kind_of ys (greater j kind))) ≡ ForcedAmbiguity) [
      | true ↦ λ f. greater_forced before (greater y.1 (kind_of ys (greater j kind))) (greater_forced y.1 (kind_of ys (greater j kind)) (left_forced (later kept) Inductive j kind ys f))
      | false ↦ λ f. sym (greater-associative before y.1 (kind_of ys (greater j kind))) ∙ left_forced (later kept) (greater before y.1) j kind ys f
    ] h

module _ {G : Type 0} (Follows : G → List (G × PathKind) → Type 0) where
  pub entries_move_down : EntriesMoveDown G Follows
  entries_move_down heads own moved before between s p g j kind back rests low next free derived entry =
      let free_for : (kept : ℕ → Bool) → AreKept kept moved → greater (step_after kept ((before ++ s ∷ []) ++ between) j) kind ≡ ForcedAmbiguity → ⊥ =
      λ kept all h.
      let left : left_over kept Inductive ((before ++ s ∷ []) ++ between) ≡ left_over (past (before ++ s ∷ []) kept) Inductive between =
      left_over-append kept Inductive (before ++ s ∷ []) between
      ∙ ap (λ z. left_over (past (before ++ s ∷ []) kept) z between) (left_last kept before s.0 s.1 (next kept all))
      in
      free (left_forced (past (before ++ s ∷ []) kept) Inductive j kind between (subst (λ z. greater (greater z j) kind ≡ ForcedAmbiguity) left h))
      in
      entries_are_left Follows moved (before ++ s ∷ []) between g (greater j kind) low
      (entries_move Follows heads own moved ((before ++ s ∷ []) ++ between) p g j kind back rests free_for derived entry)

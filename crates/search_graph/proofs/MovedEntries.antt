-- Entries that move to their next heads when their nearest head ends.
use Rattle.std.proofs.Common.{◌≡◌, ◌≤◌, ◌<◌, ◌+◌, ◌↔◌, ℕ, suc, zero, Bool, true, false, List, [], ◌∷◌, ◌++◌, ◌⊎◌, inl, inr, Some, None, slice_get, take, drop, length, refl, sym, ◌∙◌, ap, subst, arith}
use Rattle.std.proofs.lemmas.List.{take-append-drop, length-append, length-take-le}
use Rattle.std.proofs.lemmas.Option.{slice_get_within}
use Rattle.std.specs.Global.{Vec}
use Rattle.search_paths.specs.declared.path_kind.PathKind.{PathKind}
use Rattle.search_graph.specs.declared.cache.Asked.{Asked}
use Rattle.search_graph.specs.declared.provisional.ProvisionalEntry.{ProvisionalEntry}
use Rattle.search_paths.specs.declared.dependencies.EvaluationResult.{EvaluationResult}
use Rattle.search_graph.specs.declared.stack.StackEntry.{StackEntry}
use Rattle.search_paths.specs.declared.dependencies.CycleHead.{CycleHead}
use Rattle.search_paths.specs.Path.{greater}
use Rattle.search_paths.specs.KeptPaths.{kind_of, indices, AreKept, AreBelow}
use Rattle.search_paths.specs.Heads.{RestsOn, AreHeadsOfBoth}
use Rattle.search_graph.specs.Meaning.{Meaning}
use Rattle.search_graph.specs.Rests.{ShownFor, DerivedFor}
use Rattle.search_graph.specs.Stack.{steps_of}
use Rattle.search_graph.specs.Plain.{IsPlain}
use Rattle.search_graph.specs.Faithful.{HasPlainHead, NeedsHead}
use Rattle.search_graph.specs.Question.{IsResultOver, IsFaithfulOver}
use Rattle.search_graph.specs.Provisional.{AddsEntry, AreEntriesWithin, IsProvisionalEntry, AreProvisional, AreLeft, IsMoved, AreMoved}
use Rattle.search_paths.proofs.HeadFacts.{indices-none, below_head, kept_head, all_kept, same_or_not, less_or}
use Rattle.search_graph.proofs.Keeping.{entries_move_down}
use Rattle.search_graph.proofs.Graphs.{length-steps_of}
use Rattle.search_graph.proofs.Entries.{kind_steps, entry_added, slice_get-take, within_depth, plain_head_there}
use Rattle.search_graph.proofs.Faithfuls.{or_first, or_second, slice_get_last, plain_head_more}
use Rattle.search_graph.proofs.Ranges.{at_end}

-- what stands at a place
there_is : {X : Type 0} (xs : List X) (i : ℕ) → i < length xs → (x : X) × (slice_get xs i ≡ Some x)
there_is [] i h = absurd (omega (arith, h))
there_is (x ∷ xs) zero h = (x, refl)
there_is (x ∷ xs) (suc i) h = there_is xs i (omega (arith, h))

took : {X : Type 0} (xs : List X) (i : ℕ) (x : X) → slice_get xs i ≡ Some x → take (suc i) xs ≡ take i xs ++ x ∷ []
took [] i x h = let e : None ≡ Some x = h in absurd cc
took (y ∷ ys) zero x h = let is : y ≡ x = (let e : Some y ≡ Some x = h in cc) in ap (λ z. z ∷ []) is
took (y ∷ ys) (suc i) x h = ap (λ l. y ∷ l) (took ys i x h)

-- an entry that moved rests on what both rest on, but for the goal itself
pub moved_rests : (size : ℕ) (old taken own new : List CycleHead) → ((other : ℕ) → RestsOn taken other ↔ (RestsOn old other × (other ≡ size → ⊥))) → AreHeadsOfBoth taken own new
    → (place : ℕ) → RestsOn new place ↔ ((RestsOn old place × (place ≡ size → ⊥)) ⊎ RestsOn own place)
moved_rests size old taken own new without both place = (
  λ h. elim ((both place).0 h) [ inl x ↦ inl ((without place).0 x) | inr y ↦ inr y ],
  λ h. (both place).1 (elim h [ inl x ↦ inl ((without place).1 x) | inr y ↦ inr y ]),
)

-- and so on goals below that one
pub moved_below : (size : ℕ) (old own new : List CycleHead) → ((place : ℕ) → RestsOn new place ↔ ((RestsOn old place × (place ≡ size → ⊥)) ⊎ RestsOn own place))
    → AreBelow (size + 1) (indices old) → AreBelow size (indices own) → (place : ℕ) → RestsOn new place → place < size
moved_below size old own new rests first second place h = elim ((rests place).0 h) [
  | inl was ↦ less_or place size was.1 (below_head (size + 1) place (indices old) first was.0)
  | inr is ↦ below_head size place (indices own) second is
]

only_one : {X : Type 0} (x y : X) (i : ℕ) → slice_get (x ∷ []) i ≡ Some y → x ≡ y
only_one x y zero h = let e : Some x ≡ Some y = h in cc
only_one x y (suc i) h = let e : None ≡ Some y = h in absurd cc

module _ {I R : Type 0} (es : List (StackEntry I R)) (j : PathKind) (o : EvaluationResult R) (reach at : ℕ) where
  -- where one of the entries moves after others
  pub moved_on : (left : List (ProvisionalEntry I R)) (i : ℕ) (entry : ProvisionalEntry I R) (old between new : List (Vec (ProvisionalEntry I R))) → slice_get left i ≡ Some entry
      → AreMoved es left j o reach at old between → AreMoved es (entry ∷ []) j o reach at between new → AreMoved es left j o reach at old new
  moved_on left i entry old between new there before step head place e is = elim (step head place e is) [
    | inl stood ↦ before head place e stood
    | inr came ↦ inr (i, entry, there, subst (λ from. IsMoved es j o reach at head from e) (sym (only_one entry came.1 came.0 came.2)) came.3)
  ]

  -- an entry that is added as it moves
  pub moved_there : (next : ℕ) (entry new : ProvisionalEntry I R) (old lists : List (Vec (ProvisionalEntry I R))) → next < length old → AddsEntry old lists next new → IsMoved es j o reach at next entry new → AreMoved es (entry ∷ []) j o reach at old lists
  moved_there next entry new old lists inside adds moved head place e is = elim (entry_added old lists next new head place e adds inside is) [
    | inl stood ↦ inl stood
    | inr own ↦ inr (0, entry, refl, subst (λ n. IsMoved es j o reach at n entry e) (sym own.0) (subst (λ z. IsMoved es j o reach at next entry z) own.1 moved))
  ]

module _ {C I R F : Type 0} (m : Meaning C I R F) (c : C) (es : List (StackEntry I R)) (input : I) (j : PathKind) (o : EvaluationResult R) (depth reach : ℕ) (asked earlier : List Asked) (at : ℕ) (a : Asked)
    (here : slice_get asked at ≡ Some a) (below : AreBelow (length es) (indices o.dependencies.heads.items)) (rested : o.dependencies.heads.items ≡ [] → ⊥) (result : IsResultOver m c es input j o)
    (far : o.dependencies.encountered_overflow ≡ true → reach ≡ depth) (faithful : IsFaithfulOver m c es input (depth + 1) c o) where
  -- an entry of a goal that ended stands over the stack up to its next head
  module _ (next : ℕ) (e new : ProvisionalEntry I R) (entry : IsProvisionalEntry m (m.world c) c earlier (steps_of m c es ++ (m.goal_of c input, j) ∷ []) e) (moved : IsMoved es j o reach at next e new) where
    low : (place : ℕ) → RestsOn new.heads.items place → place < length es
    low place h =
        let n = length-append (steps_of m c es) ((m.goal_of c input, j) ∷ []) in
        let k = length-steps_of m c es in
        let first : AreBelow (length es + 1) (indices e.heads.items) = subst (λ n. AreBelow n (indices e.heads.items)) (omega (arith, n, k)) entry.below in
        moved_below (length es) e.heads.items o.dependencies.heads.items new.heads.items moved.rests first below place h

    moved_shown : m.is_yes (m.answer_of c new.result) ≡ true → ShownFor m.Goal (m.Follows (m.world c)) (indices new.heads.items) (take (next + 1) (steps_of m c es)) (m.goal_of c new.input) new.kind
    moved_shown y =
        let w = m.world c in
        let steps = steps_of m c es in
        let p = m.goal_of c input in
        let g = m.goal_of c e.input in
        let heads = indices e.heads.items in
        let own = indices o.dependencies.heads.items in
        let rests = indices new.heads.items in
        let same_size : length steps ≡ length es = length-steps_of m c es in
        let inside : next < length steps = let l = low next moved.nearest.0 in omega (arith, l, same_size) in
        let s = there_is steps next inside in
        let before = take next steps in
        let between = drop (next + 1) steps in
        let more : suc next ≡ next + 1 = omega (arith) in
        let first : take (next + 1) steps ≡ before ++ s.0 ∷ [] = subst (λ n. take n steps ≡ before ++ s.0 ∷ []) more (took steps next s.0 s.1) in
        let whole : (before ++ s.0 ∷ []) ++ between ≡ steps = ap (λ l. l ++ between) (sym first) ∙ take-append-drop (next + 1) steps in
        let size : length before ≡ next = length-take-le next steps (omega (arith, inside)) in
        let yes : m.is_yes (m.answer_of c e.result) ≡ true = rw moved.result at y in
        let own_yes : m.is_yes (m.answer_of c o.result) ≡ true = rw moved.same at yes in
        let derived : DerivedFor m.Goal (m.Follows w) own ((before ++ s.0 ∷ []) ++ between) p j = subst (λ l. DerivedFor m.Goal (m.Follows w) own l p j) (sym whole) (result.yes own_yes) in
        let shown : ShownFor m.Goal (m.Follows w) heads (((before ++ s.0 ∷ []) ++ between) ++ (p, j) ∷ []) g e.kind =
        subst (λ l. ShownFor m.Goal (m.Follows w) heads (l ++ (p, j) ∷ []) g e.kind) (sym whole) (entry.yes yes)
        in
        let back : (kept : ℕ → Bool) → AreKept kept rests → kept (length ((before ++ s.0 ∷ []) ++ between)) ≡ true → AreKept kept heads =
        λ kept all top. all_kept kept heads (λ place h. elim (same_or_not place (length es)) [
          | inl is ↦ subst (λ n. kept n ≡ true) (ap length whole ∙ same_size ∙ sym is) top
          | inr other ↦ kept_head kept place rests all ((moved.rests place).1 (inl (h, other)))
        ])
        in
        let kind : kind_of between (greater j e.kind) ≡ new.kind = kind_steps m c (next + 1) es (greater j e.kind) ∙ sym moved.kind in
        let low_too : AreBelow (length (before ++ s.0 ∷ [])) rests = subst (λ n. AreBelow n rests) (let n = length-append before (s.0 ∷ []) in omega (arith, size, n)) moved.nearest.1 in
        let down : ShownFor m.Goal (m.Follows w) rests (before ++ s.0 ∷ []) g (kind_of between (greater j e.kind)) =
        entries_move_down (m.Follows w) heads own rests before between s.0 p g j e.kind back
        (λ kept all. all_kept kept own (λ place h. kept_head kept place rests all ((moved.rests place).1 (inr h)))) low_too
        (λ kept all. subst (λ n. kept n ≡ true) (sym size) (kept_head kept next rests all moved.nearest.0))
        (λ forced. moved.free (sym kind ∙ forced)) derived shown
        in
        rw moved.input (subst (λ k. ShownFor m.Goal (m.Follows w) rests (take (next + 1) steps) g k) kind (subst (λ l. ShownFor m.Goal (m.Follows w) rests l g (kind_of between (greater j e.kind))) (sym first) down))

    -- the heads of the moved entry are among the goals up to its nearest head
    low_head_plain : (n : ℕ) → HasPlainHead m (m.world c) n (indices new.heads.items) (steps_of m c es) → HasPlainHead m (m.world c) n (indices new.heads.items) (take (next + 1) (steps_of m c es))
    low_head_plain n x =
        plain_head_there m (m.world c) n (indices new.heads.items) (steps_of m c es) (take (next + 1) (steps_of m c es)) x
        (slice_get-take (next + 1) (steps_of m c es) x.place (below_head (next + 1) x.place (indices new.heads.items) moved.nearest.1 x.head) ∙ x.there)

    -- the goal that ended needs a head, since it rests on one
    ended_needs : (n chain : ℕ) (b : m.Answer) → chain ≤ n → (n ≤ reach + 1) ⊎ (o.dependencies.encountered_overflow ≡ false) → IsPlain m (m.world c) chain (m.goal_of c input) b
        → HasPlainHead m (m.world c) n (indices new.heads.items) (take (next + 1) (steps_of m c es))
    ended_needs n chain b within h p = elim (faithful chain b (within_depth chain o.dependencies.encountered_overflow depth reach far (elim h [ inl l ↦ inl (omega (arith, l, within)) | inr off ↦ inr off ])) p) [
      | inl told ↦ absurd (rested (indices-none o.dependencies.heads.items told.unread))
      | inr x ↦ low_head_plain n (plain_head_more m (m.world c) chain n (indices o.dependencies.heads.items) (indices new.heads.items) (steps_of m c es) within (λ place head. (moved.rests place).1 (inr head)) x)
    ]

    moved_needs : NeedsHead m (m.world c) (new.reach + 1) (take (next + 1) (steps_of m c es)) (m.goal_of c e.input) new.encountered_overflow (indices new.heads.items)
    moved_needs n b h p =
        let steps = steps_of m c es in
        let own = o.dependencies.encountered_overflow in
        let first : (n ≤ e.reach + 1) ⊎ (e.encountered_overflow ≡ false) = elim h [
          | inl l ↦ inl (let is = moved.reached in omega (arith, l, is))
          | inr off ↦ inr (or_first e.encountered_overflow own (sym moved.overflow ∙ off))
        ]
        in
        let second : (n ≤ reach + 1) ⊎ (own ≡ false) = elim h [
          | inl l ↦ inl (let is = moved.reached in omega (arith, l, is))
          | inr off ↦ inr (or_second e.encountered_overflow own (sym moved.overflow ∙ off))
        ]
        in
        let x = entry.needs n b first p in
        elim (slice_get_last steps (m.goal_of c input, j) x.step x.place x.there) [
          | inl there ↦
              let within = slice_get_within steps x.place x.step there in
              let size = length-steps_of m c es in
              low_head_plain n (record {
                place = x.place;
                step = x.step;
                head = (moved.rests x.place).1 (inl (x.head, λ is. absurd (omega (arith, is, within, size))));
                there = there;
                chain = x.chain;
                answer = x.answer;
                within = x.within;
                plain = x.plain;
              })
          | inr last ↦ ended_needs n x.chain x.answer x.within second (subst (λ z. IsPlain m (m.world c) x.chain z.0 x.answer) (sym last) x.plain)
        ]

    pub moved_entry : IsProvisionalEntry m (m.world c) c asked (take (next + 1) (steps_of m c es)) new
    moved_entry =
        let steps = steps_of m c es in
        let inside : next < length steps = let l = low next moved.nearest.0 in let n = length-steps_of m c es in omega (arith, l, n) in
        let size : length (take (next + 1) steps) ≡ next + 1 = length-take-le (next + 1) steps (omega (arith, inside)) in
        record {
          input = rw moved.input entry.input;
          known = rw moved.result entry.known;
          fair = rw (moved.input, moved.result) entry.fair;
          source = rw (moved.input, moved.result) entry.source;
          some = λ none. subst (λ l. RestsOn l next) none moved.nearest.0;
          below = subst (λ n. AreBelow n (indices new.heads.items)) (sym size) moved.nearest.1;
          yes = moved_shown;
          needs = rw moved.input moved_needs;
          listed = (a, rw moved.asked_under here);
        }

  pub entries_moved : (left : List (ProvisionalEntry I R)) (old new : List (Vec (ProvisionalEntry I R))) → AreLeft m (m.world c) c earlier (steps_of m c es ++ (m.goal_of c input, j) ∷ []) left
      → AreMoved es left j o reach at old new → AreProvisional m (m.world c) c asked (steps_of m c es) old → AreProvisional m (m.world c) c asked (steps_of m c es) new
  entries_moved left old new over moved all head place e is = elim (moved head place e is) [
    | inl stood ↦ all head place e stood
    | inr came ↦ moved_entry head came.1 e (over came.0 came.1 came.2) came.3
  ]

-- no limit had a part in entries that moved, where none had in them before
pub entries_within_moved : {C I R F : Type 0} (m : Meaning C I R F) (w : m.World) (before : List (m.Goal × m.Answer)) (c : C) (es : List (StackEntry I R)) (j : PathKind) (o : EvaluationResult R) (reach at : ℕ)
    (left : Vec (ProvisionalEntry I R)) (first old new : List (Vec (ProvisionalEntry I R)))
    → AreMoved es left.items j o reach at old new → AreEntriesWithin m w before c (first ++ left ∷ []) → AreEntriesWithin m w before c old → AreEntriesWithin m w before c new
entries_within_moved m w before c es j o reach at left first old new moved stay now head place e is = elim (moved head place e is) [
  | inl stood ↦ now head place e stood
  | inr came ↦ rw (came.3.input, came.3.result) (stay (length first) came.0 came.1 (left, at_end first left, came.2))
]

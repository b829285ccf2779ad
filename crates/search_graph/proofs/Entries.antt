-- Provisional entries over the stack.
use Rattle.std.proofs.Common.{◌≡◌, ◌<◌, ◌≤◌, ◌+◌, ℕ, suc, zero, Bool, true, false, List, [], ◌∷◌, ◌++◌, ◌⊎◌, inl, inr, Some, if◌then◌else◌, slice_get, slice_set, get_or, take, drop, length, refl, sym, ◌∙◌, ap, subst, arith}
use Rattle.std.proofs.lemmas.List.{length-set, take-append-drop, take-append-le, take_all, length-append, length-take-le}
use Rattle.std.proofs.lemmas.Option.{slice_get_within, slice_get_read, same_Some, none-some}
use Rattle.std.specs.Global.{Vec}
use Rattle.search_paths.specs.declared.path_kind.PathKind.{PathKind}
use Rattle.search_graph.specs.declared.cache.Asked.{Asked}
use Rattle.search_graph.specs.declared.provisional.ProvisionalEntry.{ProvisionalEntry}
use Rattle.search_paths.specs.KeptPaths.{kind_of, indices, AreBelow}
use Rattle.search_graph.specs.Cache.{KeepsResults}
use Rattle.search_graph.specs.Meaning.{Meaning, KeepsContext}
use Rattle.search_paths.specs.declared.dependencies.CycleHead.{CycleHead}
use Rattle.search_graph.specs.declared.stack.StackEntry.{StackEntry}
use Rattle.search_paths.specs.Heads.{RestsOn}
use Rattle.search_paths.specs.Path.{greater}
use Rattle.search_graph.specs.Stack.{steps_of, kind_after, IsAnswer, IsProvisional, IsWithin}
use Rattle.search_graph.specs.Question.{AreEntriesOver}
use Rattle.search_graph.specs.Rests.{ShownFor}
use Rattle.search_graph.specs.Faithful.{HasPlainHead, NeedsHead, IsFaithful}
use Rattle.search_paths.specs.Heads.{IsHead}
use Rattle.search_graph.specs.Provisional.{IsEntryAt, IsServingAt, AreEntriesWithin, NoneIsLeft, AddsEntry, IsProvisionalEntry, AreProvisional, AreLeft}
use Rattle.search_graph.proofs.Keeping.{entries_serve, entries_are_left, runs_answer}
use Rattle.search_paths.proofs.HeadFacts.{below_head, below_more}
use Rattle.search_graph.proofs.Graphs.{length-steps_of}
use Rattle.search_graph.proofs.Chains.{push_cases}
use Rattle.search_graph.proofs.Ranges.{at_end}
use Rattle.search_graph.proofs.Faithfuls.{faithful_needs_head}
use Rattle.search_graph.proofs.Caches.{KeepsResults-push}

-- what stands in a longer list stood before, or is the last
stood : {X : Type 0} (xs : List X) (y x : X) (i : ℕ) → slice_get (xs ++ y ∷ []) i ≡ Some x → (slice_get xs i ≡ Some x) ⊎ (y ≡ x)
stood xs y x i h = elim (push_cases xs y x i h) [ inl old ↦ inl old.1 | inr last ↦ inr last.1 ]

nothing_in : {X : Type 0} (xs : List X) (x : X) (i : ℕ) → xs ≡ [] → slice_get xs i ≡ Some x → ⊥
nothing_in xs x i is h = none-some x (rw is at h)

same_or_other : (i j : ℕ) → (i ≡ j) ⊎ (i ≡ j → ⊥)
same_or_other zero zero = inl refl
same_or_other zero (suc j) = inr (λ e. absurd (omega (arith, e)))
same_or_other (suc i) zero = inr (λ e. absurd (omega (arith, e)))
same_or_other (suc i) (suc j) = elim (same_or_other i j) [ inl e ↦ inl (ap (λ k. suc k) e) | inr n ↦ inr (λ e. n (omega (arith, e))) ]

set_there : {X : Type 0} (xs : List X) (i : ℕ) (v : X) → i < length xs → slice_get (slice_set xs i v) i ≡ Some v
set_there [] i v h = absurd (omega (arith, h))
set_there (x ∷ xs) zero v h = refl
set_there (x ∷ xs) (suc i) v h = set_there xs i v (omega (arith, h))

set_other : {X : Type 0} (xs : List X) (i j : ℕ) (v : X) → (j ≡ i → ⊥) → slice_get (slice_set xs i v) j ≡ slice_get xs j
set_other [] i j v h = refl
set_other (x ∷ xs) zero zero v h = absurd (h refl)
set_other (x ∷ xs) zero (suc j) v h = refl
set_other (x ∷ xs) (suc i) zero v h = refl
set_other (x ∷ xs) (suc i) (suc j) v h = set_other xs i j v (λ e. h (ap (λ k. suc k) e))

-- what stands among the first stands there in all
pub slice_get-take : {X : Type 0} (n : ℕ) (xs : List X) (i : ℕ) → i < n → slice_get (take n xs) i ≡ slice_get xs i
slice_get-take zero xs i h = absurd (omega (arith, h))
slice_get-take (suc n) [] i h = refl
slice_get-take (suc n) (x ∷ xs) zero h = refl
slice_get-take (suc n) (x ∷ xs) (suc i) h = slice_get-take n xs i (omega (arith, h))

length-take-whole : {X : Type 0} (n : ℕ) (xs : List X) → length (take n xs) ≤ length xs
length-take-whole zero xs = omega arith
length-take-whole (suc n) [] = omega arith
length-take-whole (suc n) (x ∷ xs) = omega (arith, length-take-whole n xs)

length-take-within : {X : Type 0} (n : ℕ) (xs : List X) → length (take n xs) ≤ n
length-take-within zero xs = omega arith
length-take-within (suc n) [] = omega arith
length-take-within (suc n) (x ∷ xs) = omega (arith, length-take-within n xs)

module _ {I R : Type 0} where
  -- an entry that stands in the old lists stands in the longer ones
  pub entry_stays : (lists : List (Vec (ProvisionalEntry I R))) (last : Vec (ProvisionalEntry I R)) (head place : ℕ) (e : ProvisionalEntry I R) → IsEntryAt lists head place e → IsEntryAt (lists ++ last ∷ []) head place e
  entry_stays lists last head place e at = (at.0, KeepsResults-push lists last head at.0 at.1, at.2)

  -- and the other way round, where the last list is empty
  pub entry_stood : (lists : List (Vec (ProvisionalEntry I R))) (none : Vec (ProvisionalEntry I R)) (head place : ℕ) (e : ProvisionalEntry I R) → none.items ≡ [] → IsEntryAt (lists ++ none ∷ []) head place e → IsEntryAt lists head place e
  entry_stood lists none head place e empty at = elim (stood lists none at.0 head at.1) [
    | inl old ↦ (at.0, old, at.2)
    | inr own ↦ absurd (nothing_in at.0.items e place (ap (λ l. l.items) (sym own) ∙ empty) at.2)
  ]

  -- where none was left, none is with one more list that is empty
  pub none_begins : (lists new : List (Vec (ProvisionalEntry I R))) (none : Vec (ProvisionalEntry I R)) (b : Bool) → new ≡ (if b then lists ++ none ∷ [] else lists) → none.items ≡ [] → NoneIsLeft lists → NoneIsLeft new
  none_begins lists new none true is empty without head place e at = without head place e (entry_stood lists none head place e empty (subst (λ l. IsEntryAt l head place e) is at))
  none_begins lists new none false is empty without head place e at = without head place e (subst (λ l. IsEntryAt l head place e) is at)

  -- the list of the goal is another one, with the entry at its end
  pub adds_entry : (lists : List (Vec (ProvisionalEntry I R))) (head : ℕ) (list more : Vec (ProvisionalEntry I R)) (e : ProvisionalEntry I R) → head < length lists → slice_get lists head ≡ Some list → more.items ≡ list.items ++ e ∷ []
      → AddsEntry lists (slice_set lists head more) head e
  adds_entry lists head list more e inside at is = record {
    added = λ other there. (more, set_there lists head more inside, is ∙ ap (λ z. z.items ++ e ∷ []) (same_Some list other (sym at ∙ there)));
    others = λ other apart. set_other lists head other more apart;
    goals = length-set lists head more;
  }

  pub head_within : (lists : List (Vec (ProvisionalEntry I R))) (head place : ℕ) (e : ProvisionalEntry I R) → IsEntryAt lists head place e → head < length lists
  head_within lists head place e at = slice_get_within lists head at.0 at.1

  -- the entry at a place is what is read there
  pub entry_read : (lists : List (Vec (ProvisionalEntry I R))) (head place : ℕ) (e : ProvisionalEntry I R) → IsEntryAt lists head place e → (list : Vec (ProvisionalEntry I R)) (read : ProvisionalEntry I R)
      → list ≡ get_or lists head list → read ≡ get_or list.items place read → e ≡ read
  entry_read lists head place e at list read is same =
      let there = slice_get_read lists (length lists) head list refl (head_within lists head place e at) is in
      let one : at.0 ≡ list = same_Some at.0 list (sym at.1 ∙ there) in
      let among : slice_get list.items place ≡ Some e = subst (λ l. slice_get l.items place ≡ Some e) one at.2 in
      same_Some e read (sym among ∙ slice_get_read list.items (length list.items) place read refl (slice_get_within list.items place e among) same)

  pub none_listed : (lists : List (Vec (ProvisionalEntry I R))) → length lists ≡ 0 → NoneIsLeft lists
  none_listed lists empty head place e at = let h = head_within lists head place e at in omega (arith, h, empty)

  -- where an entry was added, each stood before or is that one
  pub entry_added : (old new : List (Vec (ProvisionalEntry I R))) (added : ℕ) (entry : ProvisionalEntry I R) (head place : ℕ) (e : ProvisionalEntry I R) → AddsEntry old new added entry → added < length old
      → IsEntryAt new head place e → IsEntryAt old head place e ⊎ ((head ≡ added) × (entry ≡ e))
  entry_added old new added entry head place e adds inside at = elim (same_or_other head added) [
    | inr other ↦ inl (at.0, sym (adds.others head other) ∙ at.1, at.2)
    | inl same ↦ in_list same (list_at old added inside)
  ] where
    list_at : (xs : List (Vec (ProvisionalEntry I R))) (i : ℕ) → i < length xs → (x : Vec (ProvisionalEntry I R)) × (slice_get xs i ≡ Some x)
    list_at [] i h = absurd (omega (arith, h))
    list_at (x ∷ xs) zero h = (x, refl)
    list_at (x ∷ xs) (suc i) h = list_at xs i (omega (arith, h))

    in_list : head ≡ added → ((list : Vec (ProvisionalEntry I R)) × (slice_get old added ≡ Some list)) → IsEntryAt old head place e ⊎ ((head ≡ added) × (entry ≡ e))
    in_list same (list, there) =
        let more = adds.added list there in
        let is : at.0 ≡ more.0 = same_Some at.0 more.0 (sym at.1 ∙ ap (λ n. slice_get new n) same ∙ more.1) in
        let among : slice_get (list.items ++ entry ∷ []) place ≡ Some e = subst (λ xs. slice_get xs place ≡ Some e) (ap (λ l. l.items) is ∙ more.2) at.2 in
        elim (stood list.items entry e place among) [
          | inl stood_there ↦ inl (list, ap (λ n. slice_get old n) same ∙ there, stood_there)
          | inr own ↦ inr (same, own)
        ]

-- within the depth of a goal, if it met an overflow
pub within_depth : (n : ℕ) (overflowed : Bool) (depth reach : ℕ) → (overflowed ≡ true → reach ≡ depth) → (n ≤ reach + 1) ⊎ (overflowed ≡ false) → (n ≤ depth + 1) ⊎ (overflowed ≡ false)
within_depth n true depth reach far h = elim h [ inl l ↦ inl (let is = far refl in omega (arith, l, is)) | inr off ↦ inr off ]
within_depth n false depth reach far h = inr refl

module _ {C I R F : Type 0} (m : Meaning C I R F) where
  -- a head that is plain is so over other goals of the stack too, if it is among them
  pub plain_head_there : (w : m.World) (n : ℕ) (heads : List ℕ) (steps others : List (m.Goal × PathKind)) (x : HasPlainHead m w n heads steps) → slice_get others x.place ≡ Some x.step → HasPlainHead m w n heads others
  plain_head_there w n heads steps others x at = record { place = x.place; step = x.step; head = x.head; there = at; chain = x.chain; answer = x.answer; within = x.within; plain = x.plain }

  -- the entries that are there stay as they are where a goal without entries is put on the stack
  pub runs_begin : (w : m.World) (c : C) (asked : List Asked) (steps : List (m.Goal × PathKind)) (s : m.Goal × PathKind) (lists : List (Vec (ProvisionalEntry I R))) (none : Vec (ProvisionalEntry I R))
      → length lists ≡ length steps → none.items ≡ [] → AreProvisional m w c asked steps lists → AreProvisional m w c asked (steps ++ s ∷ []) (lists ++ none ∷ [])
  runs_begin w c asked steps s lists none long empty all head place e at =
      let old = entry_stood lists none head place e empty at in
      let inside : head + 1 ≤ length steps = let h = head_within lists head place e old in omega (arith, long, h) in
      subst (λ l. IsProvisionalEntry m w c asked l e) (sym (take-append-le (head + 1) steps (s ∷ []) inside)) (all head place e old)

  -- and where the newest goal leaves it with its list
  pub runs_leave : (w : m.World) (c : C) (asked : List Asked) (steps : List (m.Goal × PathKind)) (s : m.Goal × PathKind) (lists : List (Vec (ProvisionalEntry I R))) (last : Vec (ProvisionalEntry I R))
      → length lists ≡ length steps → AreProvisional m w c asked (steps ++ s ∷ []) (lists ++ last ∷ []) → AreProvisional m w c asked steps lists
  runs_leave w c asked steps s lists last long all head place e at =
      let inside : head + 1 ≤ length steps = let h = head_within lists head place e at in omega (arith, long, h) in
      subst (λ l. IsProvisionalEntry m w c asked l e) (take-append-le (head + 1) steps (s ∷ []) inside) (all head place e (entry_stays lists last head place e at))

  -- its own entries stand over the stack with it
  pub runs_left : (w : m.World) (c : C) (asked : List Asked) (steps : List (m.Goal × PathKind)) (s : m.Goal × PathKind) (lists : List (Vec (ProvisionalEntry I R))) (last : Vec (ProvisionalEntry I R))
      → length lists ≡ length steps → AreProvisional m w c asked (steps ++ s ∷ []) (lists ++ last ∷ []) → AreLeft m w c asked (steps ++ s ∷ []) last.items
  runs_left w c asked steps s lists last long all place e at =
      let whole : take (length lists + 1) (steps ++ s ∷ []) ≡ steps ++ s ∷ [] = take_all (length lists + 1) (steps ++ s ∷ []) (let n = length-append steps (s ∷ []) in omega (arith, long, n)) in
      subst (λ l. IsProvisionalEntry m w c asked l e) whole (all (length lists) place e (last, at_end lists last, at))

  -- in a later context, with more listed that was asked
  pub entries_keep : (w : m.World) (c d : C) (asked more : List Asked) (steps : List (m.Goal × PathKind)) (lists : List (Vec (ProvisionalEntry I R)))
      → KeepsContext m c d → KeepsResults asked more → AreProvisional m w c asked steps lists → AreProvisional m w d more steps lists
  entries_keep w c d asked more steps lists keeps grows all head place e at =
      let h = all head place e at in
      let input = keeps.inputs e.input h.input in
      let result = keeps.results e.result h.known in
      record {
        input = input.0;
        known = result.0;
        fair = rw (input.1, result.1) h.fair;
        source = rw (input.1, result.1) h.source;
        some = h.some;
        below = h.below;
        yes = λ y. rw input.1 (h.yes (rw result.1 at y));
        needs = rw input.1 h.needs;
        listed = (h.listed.0, grows e.asked h.listed.0 h.listed.1);
      }

  -- where lists and what was asked are the same
  pub entries_same : (w : m.World) (c d : C) (asked more : List Asked) (steps : List (m.Goal × PathKind)) (lists new : List (Vec (ProvisionalEntry I R)))
      → KeepsContext m c d → more ≡ asked → new ≡ lists → AreProvisional m w c asked steps lists → AreProvisional m w d more steps new
  entries_same w c d asked more steps lists new keeps same is all = rw (same, is) (entries_keep w c d asked asked steps lists keeps (λ place x at. at) all)

  pub entries_within_keep : (w v : m.World) (before : List (m.Goal × m.Answer)) (c d : C) (asked : List Asked) (steps : List (m.Goal × PathKind)) (lists : List (Vec (ProvisionalEntry I R)))
      → KeepsContext m c d → AreProvisional m v c asked steps lists → AreEntriesWithin m w before c lists → AreEntriesWithin m w before d lists
  entries_within_keep w v before c d asked steps lists keeps all stay head place e at =
      let h = all head place e at in
      rw ((keeps.inputs e.input h.input).1, (keeps.results e.result h.known).1) (stay head place e at)

  -- where a goal without entries is put on the stack, and where the newest one leaves it
  pub entries_within_begin : (w : m.World) (before : List (m.Goal × m.Answer)) (c : C) (lists : List (Vec (ProvisionalEntry I R))) (none : Vec (ProvisionalEntry I R))
      → none.items ≡ [] → AreEntriesWithin m w before c lists → AreEntriesWithin m w before c (lists ++ none ∷ [])
  entries_within_begin w before c lists none empty stay head place e at = stay head place e (entry_stood lists none head place e empty at)

  pub entries_within_leave : (w : m.World) (before : List (m.Goal × m.Answer)) (c : C) (lists : List (Vec (ProvisionalEntry I R))) (last : Vec (ProvisionalEntry I R))
      → AreEntriesWithin m w before c (lists ++ last ∷ []) → AreEntriesWithin m w before c lists
  entries_within_leave w before c lists last stay head place e at = stay head place e (entry_stays lists last head place e at)

  -- and where one was added, of a result in which none had a part
  pub entries_within_left : (w : m.World) (before : List (m.Goal × m.Answer)) (c : C) (old new : List (Vec (ProvisionalEntry I R))) (added : ℕ) (entry : ProvisionalEntry I R)
      → AddsEntry old new added entry → added < length old → IsWithin m w before (m.goal_of c entry.input) (m.answer_of c entry.result) → AreEntriesWithin m w before c old → AreEntriesWithin m w before c new
  entries_within_left w before c old new added entry adds inside is stay head place e at = elim (entry_added old new added entry head place e adds inside at) [
    | inl stood_there ↦ stay head place e stood_there
    | inr own ↦ subst (λ z. IsWithin m w before (m.goal_of c z.input) (m.answer_of c z.result)) own.1 is
  ]

  -- and where one was added
  pub entries_left : (w : m.World) (c : C) (asked : List Asked) (steps : List (m.Goal × PathKind)) (old new : List (Vec (ProvisionalEntry I R))) (added : ℕ) (entry : ProvisionalEntry I R)
      → AddsEntry old new added entry → added < length old → IsProvisionalEntry m w c asked (take (added + 1) steps) entry → AreProvisional m w c asked steps old → AreProvisional m w c asked steps new
  entries_left w c asked steps old new added entry adds inside is all head place e at = elim (entry_added old new added entry head place e adds inside at) [
    | inl stood_there ↦ all head place e stood_there
    | inr own ↦ subst (λ n. IsProvisionalEntry m w c asked (take (n + 1) steps) e) (sym own.0) (subst (λ z. IsProvisionalEntry m w c asked (take (added + 1) steps) z) own.1 is)
  ]

  module _ (w : m.World) (c : C) (asked : List Asked) (steps : List (m.Goal × PathKind)) (lists : List (Vec (ProvisionalEntry I R))) (all : AreProvisional m w c asked steps lists) (head place : ℕ) (e : ProvisionalEntry I R) (at : IsEntryAt lists head place e) where
    -- a yes of an entry is shown as the reply to a question over the whole stack, where the path from its head is of its kind
    pub entry_shown : (k : PathKind) → e.kind ≡ kind_of (drop (head + 1) steps) k → m.is_yes (m.answer_of c e.result) ≡ true
        → ShownFor m.Goal (m.Follows w) (indices e.heads.items) steps (m.goal_of c e.input) k
    entry_shown k kind holds =
        subst (λ l. ShownFor m.Goal (m.Follows w) (indices e.heads.items) l (m.goal_of c e.input) k) (take-append-drop (head + 1) steps)
        (entries_serve (m.Follows w) (indices e.heads.items) (take (head + 1) steps) (drop (head + 1) steps) (m.goal_of c e.input) e.kind k (sym kind) ((all head place e at).yes holds))

    -- an entry answers a goal that plain recursion answers only if it answers a head
    pub entry_needs : NeedsHead m w (e.reach + 1) steps (m.goal_of c e.input) e.encountered_overflow (indices e.heads.items)
    entry_needs n b h p =
        let entry = all head place e at in
        let x = entry.needs n b h p in
        let low : x.place < head + 1 = let l = below_head (length (take (head + 1) steps)) x.place (indices e.heads.items) entry.below x.head in let t = length-take-within (head + 1) steps in omega (arith, l, t) in
        plain_head_there w n (indices e.heads.items) (take (head + 1) steps) steps x (sym (slice_get-take (head + 1) steps x.place low) ∙ x.there)

  -- the kind of the steps to the goals of a stack
  pub kind_steps : (c : C) (n : ℕ) (es : List (StackEntry I R)) (k : PathKind) → kind_of (drop n (steps_of m c es)) k ≡ kind_after (drop n es) k
  kind_steps c zero [] k = refl
  kind_steps c zero (e ∷ es) k = ap (greater e.step_kind) (kind_steps c zero es k)
  kind_steps c (suc n) [] k = refl
  kind_steps c (suc n) (e ∷ es) k = kind_steps c n es k

  module _ (c : C) (es : List (StackEntry I R)) (asked : List Asked) (lists : List (Vec (ProvisionalEntry I R))) (all : AreEntriesOver m c es asked lists)
      (number : ℕ) (input : I) (k : PathKind) (depth head place : ℕ) (at : IsServingAt lists es number input k depth head place) where
    -- an entry that serves a question is the reply to it
    pub entry_answers : IsAnswer m (m.world c) (steps_of m c es) (m.goal_of c input, k) (indices at.0.heads.items) c at.0.result
    entry_answers =
        let e : ProvisionalEntry I R = at.0 in
        let entry = all head place e at.1 in
        let kind : e.kind ≡ kind_of (drop (head + 1) (steps_of m c es)) k = at.2.alike ∙ sym (kind_steps c (head + 1) es k) in
        let low : length (take (head + 1) (steps_of m c es)) < length (steps_of m c es) + 1 = let t = length-take-whole (head + 1) (steps_of m c es) in omega (arith, t) in
        subst (λ i. IsAnswer m (m.world c) (steps_of m c es) (m.goal_of c i, k) (indices e.heads.items) c e.result) at.2.same
        (record {
          known = entry.known;
          fair = entry.fair;
          source = entry.source;
          below = below_more (length (take (head + 1) (steps_of m c es))) (length (steps_of m c es)) (indices e.heads.items) low entry.below;
          yes = entry_shown (m.world c) c asked (steps_of m c es) lists all head place e at.1 k kind;
        })

    pub entry_faithful : IsFaithful m (m.world c) (at.0.reach + 1) (steps_of m c es) (m.goal_of c input) (m.answer_of c at.0.result) at.0.encountered_overflow (indices at.0.heads.items)
    entry_faithful =
        let e : ProvisionalEntry I R = at.0 in
        faithful_needs_head m (m.world c) (e.reach + 1) (steps_of m c es) (m.goal_of c input) (m.answer_of c e.result) e.encountered_overflow (indices e.heads.items)
        (subst (λ i. NeedsHead m (m.world c) (e.reach + 1) (steps_of m c es) (m.goal_of c i) e.encountered_overflow (indices e.heads.items)) at.2.same
        (entry_needs (m.world c) c asked (steps_of m c es) lists all head place e at.1))

    -- no limit had a part in it if none had in the entries
    pub entry_within : (before : List (m.Goal × m.Answer)) → AreEntriesWithin m (m.world c) before c lists → IsWithin m (m.world c) before (m.goal_of c input) (m.answer_of c at.0.result)
    entry_within before stay = subst (λ i. IsWithin m (m.world c) before (m.goal_of c i) (m.answer_of c at.0.result)) at.2.same (stay head place at.0 at.1)

  module _ (c : C) (es : List (StackEntry I R)) (k : PathKind) (nearest : ℕ) (heads : List CycleHead) (inside : nearest < length es) (rests : RestsOn heads nearest) (low : AreBelow (nearest + 1) (indices heads)) where
    -- a result over the stack leaves an entry in the list of its nearest head
    pub left_entry : (asked : List Asked) (input : I) (depth : ℕ) (overflowed : Bool) (r : R) (e : ProvisionalEntry I R) (a : Asked)
        → e.input ≡ input → e.result ≡ r → e.heads.items ≡ heads → e.kind ≡ kind_after (drop (nearest + 1) es) k → slice_get asked e.asked ≡ Some a
        → e.encountered_overflow ≡ overflowed → (overflowed ≡ true → e.reach ≡ depth)
        → m.IsInput c input → IsProvisional m (m.world c) (steps_of m c es) (m.goal_of c input, k) (indices heads) c r
        → IsFaithful m (m.world c) (depth + 1) (steps_of m c es) (m.goal_of c input) (m.answer_of c r) overflowed (indices heads)
        → IsProvisionalEntry m (m.world c) c asked (take (nearest + 1) (steps_of m c es)) e
    left_entry asked input depth overflowed r e a same copy on kind at met_is far known result faithful =
        let w = m.world c in
        let g = m.goal_of c input in
        let steps = steps_of m c es in
        let before = take (nearest + 1) steps in
        let between = drop (nearest + 1) steps in
        let size : length before ≡ nearest + 1 = length-take-le (nearest + 1) steps (let l = length-steps_of m c es in omega (arith, inside, l)) in
        let below : AreBelow (length before) (indices heads) = subst (λ n. AreBelow n (indices heads)) (sym size) low in
        let step : kind_of between k ≡ e.kind = kind_steps c (nearest + 1) es k ∙ sym kind in
        record {
          input = rw same known;
          known = rw copy result.known;
          fair = rw (same, copy) result.fair;
          source = rw (same, copy) result.source;
          some = λ none. subst (λ l. RestsOn l nearest) (sym on ∙ none) rests;
          below = rw on below;
          yes = λ y.
              let over : ShownFor m.Goal (m.Follows w) (indices heads) steps g k = runs_answer (m.Follows w) (indices heads) steps g k (result.yes (rw copy at y)) in
              let split : ShownFor m.Goal (m.Follows w) (indices heads) (before ++ between) g k = subst (λ l. ShownFor m.Goal (m.Follows w) (indices heads) l g k) (sym (take-append-drop (nearest + 1) steps)) over in
              rw (same, on, ← step) (entries_are_left (m.Follows w) (indices heads) before between g k below split);
          needs = rw (same, on, met_is) (λ n b h p. elim (faithful n b (within_depth n overflowed depth e.reach far h) p) [
            | inl told ↦ absurd (subst (IsHead nearest) told.unread rests)
            | inr x ↦ plain_head_there w n (indices heads) steps before x (slice_get-take (nearest + 1) steps x.place (below_head (nearest + 1) x.place (indices heads) low x.head) ∙ x.there)
          ]);
          listed = (a, at);
        }

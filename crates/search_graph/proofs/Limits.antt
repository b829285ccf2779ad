-- Answers that depend on no limit.
use Rattle.std.proofs.Common.{◌≡◌, ℕ, ◌+◌, Bool, true, false, List, [], ◌∷◌, ◌++◌, inl, inr, refl, sym, ◌∙◌, subst, Option, Some, None, MatchOption, take, drop, slice_get}
use Rattle.search_paths.specs.declared.path_kind.PathKind.{PathKind}
use Rattle.search_graph.specs.declared.stack.StackEntry.{StackEntry}
use Rattle.search_graph.specs.declared.cache.CacheEntry.{CacheEntry}
use Rattle.std.specs.Global.{Vec}
use Rattle.search_graph.specs.declared.provisional.ProvisionalEntry.{ProvisionalEntry}
use Rattle.search_graph.specs.Provisional.{AreKeptWithin}
use Rattle.search_graph.specs.Meaning.{Meaning, KeepsContext}
use Rattle.search_graph.specs.Proof.{IsAmong}
use Rattle.search_graph.specs.Cache.{answers_in, known_results}
use Rattle.search_graph.specs.Stack.{question_of, IsStack, IsEntry, IsProvisional, AreCached, IsWithin, IsLastWithin, AreLastWithin, AreCachedWithin}
use Rattle.search_graph.proofs.Graphs.{split_some}

-- what was not noted in the end was not noted before
pub unnoted : (old new : Bool) → (old ≡ true → new ≡ true) → new ≡ false → old ≡ false
unnoted true new kept h = sym (kept refl) ∙ h
unnoted false new kept h = refl

-- what was noted in the end was noted before or then
pub either_noted : {P : Type 0} (old new : Bool) → (old ≡ true → P) → (old ≡ false → new ≡ true → P) → new ≡ true → P
either_noted true new before then_noted h = before refl
either_noted false new before then_noted h = then_noted refl h

pub not_both : {P : Type 0} (b : Bool) → b ≡ false → b ≡ true → P
not_both b off on = absurd (let e : false ≡ true = sym off ∙ on in cc)

MatchOption-both : {A : Type 0} (o : Option A) (P Q S : A → Type 0) → ((x : A) → P x → Q x → S x) → MatchOption o (Unit {0}) P → MatchOption o (Unit {0}) Q → MatchOption o (Unit {0}) S
MatchOption-both None P Q S f p q = tt
MatchOption-both (Some x) P Q S f p q = f x p q

module _ {C I R F : Type 0} (m : Meaning C I R F) (w : m.World) (before : List (m.Goal × m.Answer)) where
  pub IsLastWithin-keeps : (v : m.World) (steps : List (m.Goal × PathKind)) (c d : C) (e : StackEntry I R) → KeepsContext m c d → IsEntry m v steps c e → IsLastWithin m w before c e → IsLastWithin m w before d e
  IsLastWithin-keeps v steps c d e keeps entry h =
      MatchOption-both e.provisional_result (IsProvisional m v steps (question_of m c e) e.heads.items c) (λ r. IsWithin m w before (m.goal_of c e.input) (m.answer_of c r)) (λ r. IsWithin m w before (m.goal_of d e.input) (m.answer_of d r))
      (λ r p q. rw ((keeps.inputs e.input entry.known).1, (keeps.results r p.known).1) q) entry.last h

  -- in a later context
  pub AreLastWithin-keeps : (v : m.World) (steps : List (m.Goal × PathKind)) (c d : C) (es : List (StackEntry I R)) → KeepsContext m c d → IsStack m v steps c es → AreLastWithin m w before c es → AreLastWithin m w before d es
  AreLastWithin-keeps v steps c d [] keeps stack h = h
  AreLastWithin-keeps v steps c d (e ∷ es) keeps stack h = (IsLastWithin-keeps v steps c d e keeps stack.0 h.0, AreLastWithin-keeps v (steps ++ question_of m c e ∷ []) c d es keeps stack.1 h.1)

  pub AreLastWithin-push : (c : C) (es : List (StackEntry I R)) (e : StackEntry I R) → AreLastWithin m w before c es → IsLastWithin m w before c e → AreLastWithin m w before c (es ++ e ∷ [])
  AreLastWithin-push c [] e h last = (last, tt)
  AreLastWithin-push c (x ∷ es) e h last = (h.0, AreLastWithin-push c es e h.1 last)

  AreLastWithin-append : (c : C) (xs ys : List (StackEntry I R)) → AreLastWithin m w before c (xs ++ ys) → AreLastWithin m w before c ys
  AreLastWithin-append c [] ys h = h
  AreLastWithin-append c (x ∷ xs) ys h = AreLastWithin-append c xs ys h.1

  pub AreLastWithin-at : (c : C) (es : List (StackEntry I R)) (i : ℕ) (e : StackEntry I R) → slice_get es i ≡ Some e → AreLastWithin m w before c es → IsLastWithin m w before c e
  AreLastWithin-at c es i e at h = (AreLastWithin-append c (take i es) (e ∷ drop (i + 1) es) (subst (λ l. AreLastWithin m w before c l) (split_some es i e at) h)).0

  -- in a later context and over a stack that is the same
  pub AreLastWithin-now : (v : m.World) (c d : C) (es now : List (StackEntry I R)) → KeepsContext m c d → now ≡ es → IsStack m v [] c es → AreLastWithin m w before c es → AreLastWithin m w before d now
  AreLastWithin-now v c d es now keeps same stack h = rw same (AreLastWithin-keeps v [] c d es keeps stack h)

  pub AreCachedWithin-keeps : (v : m.World) (c d : C) (es : List (CacheEntry I R)) → KeepsContext m c d → AreCached m v c es → AreCachedWithin m w before c es → AreCachedWithin m w before d es
  AreCachedWithin-keeps v c d [] keeps cached h = h
  AreCachedWithin-keeps v c d (e ∷ es) keeps cached h =
      (rw ((keeps.inputs e.input cached.0.known).1, (keeps.results e.result cached.0.result.known).1) h.0, AreCachedWithin-keeps v c d es keeps cached.1 h.1)

  pub AreCachedWithin-push : (c : C) (es : List (CacheEntry I R)) (e : CacheEntry I R) → AreCachedWithin m w before c es → IsWithin m w before (m.goal_of c e.input) (m.answer_of c e.result) → AreCachedWithin m w before c (es ++ e ∷ [])
  AreCachedWithin-push c [] e h last = (last, tt)
  AreCachedWithin-push c (x ∷ es) e h last = (h.0, AreCachedWithin-push c es e h.1 last)

  AreCachedWithin-append : (c : C) (xs ys : List (CacheEntry I R)) → AreCachedWithin m w before c (xs ++ ys) → AreCachedWithin m w before c ys
  AreCachedWithin-append c [] ys h = h
  AreCachedWithin-append c (x ∷ xs) ys h = AreCachedWithin-append c xs ys h.1

  pub AreCachedWithin-at : (c : C) (es : List (CacheEntry I R)) (i : ℕ) (e : CacheEntry I R) → slice_get es i ≡ Some e → AreCachedWithin m w before c es → IsWithin m w before (m.goal_of c e.input) (m.answer_of c e.result)
  AreCachedWithin-at c es i e at h = (AreCachedWithin-append c (take i es) (e ∷ drop (i + 1) es) (subst (λ l. AreCachedWithin m w before c l) (split_some es i e at) h)).0

  -- what was known before
  pub AreCachedWithin-among : (c : C) (es : List (CacheEntry I R)) → ((x : m.Goal × m.Answer) → IsAmong x (answers_in m c (known_results es)) → IsAmong x before) → AreCachedWithin m w before c es
  AreCachedWithin-among c [] f = tt
  AreCachedWithin-among c (e ∷ es) f = (record { how = inl (inr (f (m.goal_of c e.input, m.answer_of c e.result) (inl refl))) }, AreCachedWithin-among c es (λ x h. f x (inr h)))

-- a run of a goal, in whose last result no limit had a part
pub told_within : {C I R F : Type 0} (m : Meaning C I R F) (c b d : C) (es now : List (StackEntry I R)) (keeps : KeepsContext m c b) (same : now ≡ es) (stack : IsStack m (m.world c) [] c es) (before : List (m.Goal × m.Answer))
    (x : I) (e : StackEntry I R) (r : R) → e.input ≡ x → m.IsInput c x → (old new : List (CacheEntry I R)) (lists more : List (Vec (ProvisionalEntry I R)))
    → (AreLastWithin m (m.world b) before b now → IsLastWithin m (m.world b) before b e → AreKeptWithin m (m.world b) before b old lists → AreKeptWithin m (m.world b) before d new more × IsWithin m (m.world b) before (m.goal_of b e.input) (m.answer_of d r))
    → AreLastWithin m (m.world c) before c es → AreKeptWithin m (m.world c) before b old lists × IsLastWithin m (m.world c) before b e
    → AreKeptWithin m (m.world c) before d new more × IsWithin m (m.world c) before (m.goal_of c x) (m.answer_of d r)
told_within m c b d es now keeps same stack before x e r input known old new lists more ran last had =
    let told = ran (rw keeps.world (AreLastWithin-now m (m.world c) before (m.world c) c b es now keeps same stack last)) (rw keeps.world had.1) (rw keeps.world had.0) in
    rw (keeps.world, input, (keeps.inputs x known).1) at told

-- The results of a cache, as clauses of public calls describe them.
use Rattle.std.proofs.Common.{◌≡◌, ◌<◌, ◌+◌, ℕ, zero, suc, Bool, true, false, List, [], ◌∷◌, ◌++◌, ◌⊎◌, length, inl, inr, refl, sym, ap, ◌∙◌, subst, Some, slice_get, take, drop}
use Rattle.std.proofs.lemmas.Option.{none-some, same_Some}
use Rattle.search_graph.specs.declared.cache.CacheEntry.{CacheEntry}
use Rattle.search_graph.specs.declared.newest.Chain.{Chain}
use Rattle.search_graph.specs.declared.newest.Chain.TheVariants.{Successes, Overflows}
use Rattle.search_graph.specs.Chain.{chain_of, chain_of_entry}
use Rattle.search_graph.specs.Meaning.{Meaning}
use Rattle.search_graph.specs.Stack.{AreCached}
use Rattle.search_graph.specs.Cache.{KnownResult, known_result, known_results, AreJustified, IsContradicted, HasConflict, IsAlike, AreConsistent, IsNumberOf, KeepsResults}
use Rattle.search_graph.proofs.Chains.{push_cases}
use Rattle.search_graph.proofs.Graphs.{split_some}
use Rattle.type_terms.proofs.BooleanBasics.{true-false as true_not_false}

module _ {C I R F : Type 0} (m : Meaning C I R F) where
  pub AreJustified-known : (c : C) (es : List (CacheEntry I R)) → AreCached m (m.world c) c es → AreJustified m c (known_results es)
  AreJustified-known c [] h = h
  AreJustified-known c (e ∷ es) h = (record { known = h.0.known; result = h.0.result; kept = h.0.kept }, AreJustified-known c es h.1)

  pub AreCached-known : (c : C) (es : List (CacheEntry I R)) → AreJustified m c (known_results es) → AreCached m (m.world c) c es
  AreCached-known c [] h = h
  AreCached-known c (e ∷ es) h = (record { known = h.0.known; result = h.0.result; kept = h.0.kept }, AreCached-known c es h.1)

  HasConflict-append : (c : C) (xs ys : List (CacheEntry I R)) → HasConflict m c (known_results ys) → HasConflict m c (known_results (xs ++ ys))
  HasConflict-append c [] ys h = h
  HasConflict-append c (x ∷ xs) ys h = inr (HasConflict-append c xs ys h)

  pub HasConflict-at : (c : C) (es : List (CacheEntry I R)) (i : ℕ) (e : CacheEntry I R) → slice_get es i ≡ Some e → IsContradicted m c (known_result e) → HasConflict m c (known_results es)
  HasConflict-at c es i e at h = subst (λ l. HasConflict m c (known_results l)) (sym (split_some es i e at)) (HasConflict-append c (take i es) (e ∷ drop (i + 1) es) (inl h))

-- results of one chain are of one kind
same_kind : (n m d e : ℕ) (a b : Bool) → chain_of n d a ≡ chain_of m e b → (a ≡ b) × (b ≡ true → d ≡ e)
same_kind n m d e true true h = (refl, λ o. ap depth_in h)
  where
    depth_in : Chain → ℕ
    depth_in (Successes number) = 0
    depth_in (Overflows number depth) = depth
same_kind n m d e true false h = cc
same_kind n m d e false true h = cc
same_kind n m d e false false h = (refl, λ o. absurd (true_not_false (sym o)))

same_chain : (n m d e : ℕ) (b : Bool) → n ≡ m → (b ≡ true → d ≡ e) → chain_of n d b ≡ chain_of m e b
same_chain n m d e true same at = rw (same, at refl) refl
same_chain n m d e false same at = ap Successes same

module _ {I R : Type 0} where
  pub alike_in : (e : CacheEntry I R) (input : I) (number depth : ℕ) (overflowed : Bool) → e.input ≡ input → chain_of_entry e ≡ chain_of number depth overflowed → IsAlike input depth overflowed (known_result e)
  alike_in e input number depth overflowed same along =
      let kind = same_kind e.number number e.depth depth e.encountered_overflow overflowed along in
      record { same = same; kind = kind.0; at = kind.1 }

  pub chain_alike : (e : CacheEntry I R) (input : I) (number depth : ℕ) (overflowed : Bool) → e.number ≡ number → IsAlike input depth overflowed (known_result e) → chain_of_entry e ≡ chain_of number depth overflowed
  chain_alike e input number depth overflowed same alike = ap (chain_of e.number e.depth) alike.kind ∙ same_chain e.number number e.depth depth overflowed same alike.at

-- one more result leaves each at its place
pub KeepsResults-push : {X : Type 0} (xs : List X) (y : X) → KeepsResults xs (xs ++ y ∷ [])
KeepsResults-push [] y place x at = absurd (none-some x at)
KeepsResults-push (z ∷ xs) y zero x at = at
KeepsResults-push (z ∷ xs) y (suc place) x at = KeepsResults-push xs y place x at

module _ {I R : Type 0} where
  pub known_length : (es : List (CacheEntry I R)) → length (known_results es) ≡ length es
  known_length [] = refl
  known_length (e ∷ es) = ap suc (known_length es)

  pub known_at : (es : List (CacheEntry I R)) (i : ℕ) (e : CacheEntry I R) → slice_get es i ≡ Some e → slice_get (known_results es) i ≡ Some (known_result e)
  known_at [] i e at = absurd (none-some e at)
  known_at (x ∷ es) zero e at = ap (λ z. Some (known_result z)) (same_Some x e at)
  known_at (x ∷ es) (suc i) e at = known_at es i e at

  pub entry_at : (es : List (CacheEntry I R)) (i : ℕ) (k : KnownResult I R) → slice_get (known_results es) i ≡ Some k → (e : CacheEntry I R) × (slice_get es i ≡ Some e) × (known_result e ≡ k)
  entry_at [] i k at = absurd (none-some k at)
  entry_at (x ∷ es) zero k at = (x, refl, same_Some (known_result x) k at)
  entry_at (x ∷ es) (suc i) k at = entry_at es i k at

  -- the results of one goal and one kind, as the entries hold them
  abbrev AreAgreeing : List (CacheEntry I R) → Type 0
  AreAgreeing es = (i j : ℕ) (e d : CacheEntry I R) → slice_get es i ≡ Some e → slice_get es j ≡ Some d → IsAlike d.input d.depth d.encountered_overflow (known_result e) → e.result ≡ d.result

  agreeing : (es : List (CacheEntry I R)) → AreConsistent (known_results es) → AreAgreeing es
  agreeing es consistent i j e d at-e at-d alike = consistent i j (known_result e) (known_result d) (known_at es i e at-e) (known_at es j d at-d) alike

  consistent : (es : List (CacheEntry I R)) → AreAgreeing es → AreConsistent (known_results es)
  consistent es agree i j k l at-k at-l alike =
      let e = entry_at es i k at-k in
      let d = entry_at es j l at-l in
      sym (ap (λ z. z.result) e.2) ∙ agree i j e.0 d.0 e.1 d.1 (of_entries e.0 d.0 k l e.2 d.2 alike) ∙ ap (λ z. z.result) d.2
    where
      of_entries : (e d : CacheEntry I R) (k l : KnownResult I R) → known_result e ≡ k → known_result d ≡ l → IsAlike l.input l.depth l.overflowed k → IsAlike d.input d.depth d.encountered_overflow (known_result e)
      of_entries e d k l is-k is-l alike =
          subst (λ z. IsAlike d.input d.depth d.encountered_overflow z) (sym is-k) (subst (λ z. IsAlike z.input z.depth z.overflowed k) (sym is-l) alike)

  alike_back : (e d : CacheEntry I R) → IsAlike d.input d.depth d.encountered_overflow (known_result e) → IsAlike e.input e.depth e.encountered_overflow (known_result d)
  alike_back e d alike = record { same = sym alike.same; kind = sym alike.kind; at = λ o. sym (alike.at (sym alike.kind ∙ o)) }

  -- one more result is kept that differs from none of its goal and kind
  pub AreConsistent-push : (es : List (CacheEntry I R)) (x : CacheEntry I R) → AreConsistent (known_results es)
      → ((place : ℕ) (e : CacheEntry I R) → slice_get es place ≡ Some e → IsAlike x.input x.depth x.encountered_overflow (known_result e) → e.result ≡ x.result) → AreConsistent (known_results (es ++ x ∷ []))
  AreConsistent-push es x old new = consistent (es ++ x ∷ []) (λ i j e d at-e at-d. by i j e d (push_cases es x e i at-e) (push_cases es x d j at-d))
    where
      by : (i j : ℕ) (e d : CacheEntry I R) → ((i < length es) × (slice_get es i ≡ Some e)) ⊎ ((i ≡ length es) × (x ≡ e)) → ((j < length es) × (slice_get es j ≡ Some d)) ⊎ ((j ≡ length es) × (x ≡ d))
          → IsAlike d.input d.depth d.encountered_overflow (known_result e) → e.result ≡ d.result
      by i j e d (inl a) (inl b) alike = agreeing es old i j e d a.1 b.1 alike
      by i j e d (inl a) (inr b) alike = new i e a.1 (rw b.1 alike) ∙ ap (λ z. z.result) b.1
      by i j e d (inr a) (inl b) alike = sym (new j d b.1 (rw a.1 (alike_back e d alike)) ∙ ap (λ z. z.result) a.1)
      by i j e d (inr a) (inr b) alike = ap (λ z. z.result) (sym a.1 ∙ b.1)

  -- where one result of a goal and kind is this one, each is
  pub same_as_alike : (es : List (CacheEntry I R)) → AreConsistent (known_results es) → (place : ℕ) (d : CacheEntry I R) (input : I) (found : R) (depth : ℕ) (overflowed : Bool) → slice_get es place ≡ Some d
      → d.input ≡ input → d.encountered_overflow ≡ overflowed → (d.encountered_overflow ≡ true → d.depth ≡ depth) → d.result ≡ found
      → (i : ℕ) (e : CacheEntry I R) → slice_get es i ≡ Some e → IsAlike input depth overflowed (known_result e) → e.result ≡ found
  same_as_alike es old place d input found depth overflowed at same kind with is i e at-e alike =
      agreeing es old i place e d at-e at (record { same = alike.same ∙ sym same; kind = alike.kind ∙ sym kind; at = λ o. alike.at (sym kind ∙ o) ∙ sym (with o) }) ∙ is

  -- each result has its goal's number after one more is kept
  pub numbered_push : (eq : I → I → Bool) (goals : List I) (es : List (CacheEntry I R)) (x : CacheEntry I R) → ((place : ℕ) (e : CacheEntry I R) → slice_get es place ≡ Some e → IsNumberOf eq goals e.input e.number) → IsNumberOf eq goals x.input x.number
      → (place : ℕ) (e : CacheEntry I R) → slice_get (es ++ x ∷ []) place ≡ Some e → IsNumberOf eq goals e.input e.number
  numbered_push eq goals es x numbered is place e at = by (push_cases es x e place at)
    where
      by : ((place < length es) × (slice_get es place ≡ Some e)) ⊎ ((place ≡ length es) × (x ≡ e)) → IsNumberOf eq goals e.input e.number
      by (inl a) = numbered place e a.1
      by (inr a) = subst (λ z. IsNumberOf eq goals z.input z.number) a.1 is

-- A walk over the impls that can match a goal, from one to the next.
use Rattle.std.proofs.Common.{◌≡◌, ℕ, Bool, true, false, cond, ◌&&◌, arith, List, [], ◌∷◌, Option, Some, None, refl, sym, ap, subst, ◌∙◌}
use Rattle.std.proofs.lemmas.Bool.Decides.{nat_tests}
use Rattle.std.specs.Prelude.{◌==◌, filter, if◌then◌else◌}
use Rattle.std.specs.List.{slice_get}
use Rattle.type_terms.specs.Promised.Worlds.{World, ImplDecl}
use Rattle.type_terms.specs.Promised.Handles.{Entry, trees_at}
use Rattle.type_terms.specs.declared.ImplId.{ImplId}
use Rattle.declarations.specs.declared.items.ImplDef.{ImplDef}
use Rattle.declarations.specs.Items.{HeldImpl, impl_at}
use Rattle.declarations.specs.Promised.Elaboration.{Each}
use Rattle.declarations.specs.Relevant.{is_above, next_above}
use Rattle.candidate_model.specs.Asking.{GoalOverKinds, with_plain_head}
use Rattle.candidate_model.specs.Candidates.{by_impls, by_the_impl, can_match}
use Rattle.built_in_candidates.proofs.Relevant.{names}
use Rattle.candidate_assembly.specs.Headers.{CanBeCandidate}

-- ---- the first that is above the last one considered
same-number : (m n : ℕ) → m ≡ n → (n == m) ≡ true
same-number m n h = grind (arith, nat_tests)

module _ (V : World) (a : GoalOverKinds) (last : Option ImplId) where
  abbrev rel : ImplDecl → Bool
  rel i = (i.header.trait == a.reference.trait) && can_match a.reference.args i.header.args

  abbrev above : ImplDecl → Bool
  above i = is_above last i.name

  -- the impl is skipped, since it isn't above
  passed : (i : ImplDecl) (ns : List ℕ) (o : Option ℕ) → above i ≡ false → o ≡ next_above last (i.name ∷ ns) → o ≡ next_above last ns
  passed i ns o e h = h ∙ ap (λ b. if b then Some i.name else next_above last ns) e

  taken : (i : ImplDecl) (ns : List ℕ) (o : Option ℕ) → above i ≡ true → o ≡ next_above last (i.name ∷ ns) → o ≡ Some i.name
  taken i ns o e h = h ∙ ap (λ b. if b then Some i.name else next_above last ns) e

  kept : (i : ImplDecl) (is : List ImplDecl) (b : Bool) → rel i ≡ b → by_impls V a (i ∷ is) ≡ cond b (by_the_impl V a i ∷ by_impls V a is) (by_impls V a is)
  kept i is b e = ap (λ b. if b then by_the_impl V a i ∷ by_impls V a is else by_impls V a is) e

  pub no-next : (is : List ImplDecl) → None ≡ next_above last (names (filter rel is)) → slice_get (by_impls V a (filter above is)) 0 ≡ None
  no-next [] h = refl
  no-next (i ∷ is) h = by (rel i) (above i) refl refl h (no-next is)
    where
      by : (p q : Bool) → rel i ≡ p → above i ≡ q → None ≡ next_above last (names (cond p (i ∷ filter rel is) (filter rel is)))
          → (None ≡ next_above last (names (filter rel is)) → slice_get (by_impls V a (filter above is)) 0 ≡ None)
          → slice_get (by_impls V a (cond q (i ∷ filter above is) (filter above is))) 0 ≡ None
      by true true e f h rest = let bad = taken i (names (filter rel is)) None f h in absurd cc
      by true false e f h rest = rest (passed i (names (filter rel is)) None f h)
      by false true e f h rest = ap (λ l. slice_get l 0) (kept i (filter above is) false e) ∙ rest h
      by false false e f h rest = rest h

  -- what holds of all impls of the number holds of the one that is next
  abbrev pub IsNext : (ImplDecl → Type 0) → List ImplDecl → Type 0
  IsNext P is = (j : ImplDecl) × P j × (slice_get (by_impls V a (filter above is)) 0 ≡ Some (by_the_impl V a j))

  pub one-next : (P : ImplDecl → Type 0) (n : ℕ) (is : List ImplDecl) → Each (λ j. (j.name == n) ≡ true → P j) is → Some n ≡ next_above last (names (filter rel is)) → IsNext P is
  one-next P n [] k h = absurd cc
  one-next P n (i ∷ is) k h = by (rel i) (above i) refl refl h (one-next P n is k.1)
    where
      by : (p q : Bool) → rel i ≡ p → above i ≡ q → Some n ≡ next_above last (names (cond p (i ∷ filter rel is) (filter rel is)))
          → (Some n ≡ next_above last (names (filter rel is)) → IsNext P is)
          → (j : ImplDecl) × P j × (slice_get (by_impls V a (cond q (i ∷ filter above is) (filter above is))) 0 ≡ Some (by_the_impl V a j))
      by true true e f h rest =
          let found : Some n ≡ Some i.name = taken i (names (filter rel is)) (Some n) f h in
          let number : n ≡ i.name = cc in
          (i, k.0 (same-number n i.name number), ap (λ l. slice_get l 0) (kept i (filter above is) true e))
      by true false e f h rest = rest (passed i (names (filter rel is)) (Some n) f h)
      by false true e f h rest = let r = rest h in (r.0, r.1, ap (λ l. slice_get l 0) (kept i (filter above is) false e) ∙ r.2)
      by false false e f h rest = rest h

-- ---- impls of a number
pub none-of-number : (P : ImplDecl → Type 0) (n : ℕ) (is : List ImplDecl) → filter (λ (j : ImplDecl). j.name == n) is ≡ [] → Each (λ j. (j.name == n) ≡ true → P j) is
none-of-number P n [] h = tt
none-of-number P n (i ∷ is) h = by (i.name == n) refl h (none-of-number P n is)
  where
    by : (b : Bool) → (i.name == n) ≡ b → cond b (i ∷ filter (λ (j : ImplDecl). j.name == n) is) (filter (λ (j : ImplDecl). j.name == n) is) ≡ []
        → (filter (λ (j : ImplDecl). j.name == n) is ≡ [] → Each (λ j. (j.name == n) ≡ true → P j) is) → ((i.name == n) ≡ true → P i) × Each (λ j. (j.name == n) ≡ true → P j) is
    by true e h rest = absurd cc
    by false e h rest = (λ t. let bad : true ≡ false = sym t ∙ e in absurd cc, rest h)

pub one-of-number : (x : ImplDecl) (n : ℕ) (is : List ImplDecl) → filter (λ (j : ImplDecl). j.name == n) is ≡ x ∷ [] → Each (λ j. (j.name == n) ≡ true → j ≡ x) is
one-of-number x n [] h = tt
one-of-number x n (i ∷ is) h = by (i.name == n) refl h (one-of-number x n is)
  where
    by : (b : Bool) → (i.name == n) ≡ b → cond b (i ∷ filter (λ (j : ImplDecl). j.name == n) is) (filter (λ (j : ImplDecl). j.name == n) is) ≡ x ∷ []
        → (filter (λ (j : ImplDecl). j.name == n) is ≡ x ∷ [] → Each (λ j. (j.name == n) ≡ true → j ≡ x) is) → ((i.name == n) ≡ true → i ≡ x) × Each (λ j. (j.name == n) ≡ true → j ≡ x) is
    by true e h rest =
        let first : i ≡ x = cc in
        let others : filter (λ (j : ImplDecl). j.name == n) is ≡ [] = cc in
        (λ t. first, none-of-number (λ j. j ≡ x) n is others)
    by false e h rest = (λ t. let bad : true ≡ false = sym t ∙ e in absurd cc, rest h)

pub at-number : (P : ImplDef → Type 0) (n : ℕ) (is : List HeldImpl) (def : ImplDef) → Each (λ i. P i.def) is → Some def ≡ impl_at n is → P def
at-number P n [] def h e = absurd cc
at-number P n (i ∷ is) def h e = by (n == i.id.index) e (at-number P n is def h.1)
  where
    by : (b : Bool) → Some def ≡ cond b (Some i.def) (impl_at n is) → (Some def ≡ impl_at n is → P def) → P def
    by true e rest = let same : i.def ≡ def = cc in subst P same h.0
    by false e rest = rest e

pub plain-heads : (es : List Entry) (is : List HeldImpl) → Each (λ i. CanBeCandidate es i.def) is → Each (λ i. with_plain_head (trees_at es i.def.header.args.0) ≡ trees_at es i.def.header.args.0) is
plain-heads es [] h = tt
plain-heads es (i ∷ is) h = (h.0.plain, plain-heads es is h.1)

-- A walk over impls of rising numbers meets each candidate in its turn.
use Rattle.std.proofs.Common.{◌≡◌, ℕ, zero, suc, ◌<◌, ◌&&◌, arith, Bool, true, false, cond, List, [], ◌∷◌, Some, None, refl, sym, ap, subst, ◌∙◌}
use Rattle.std.proofs.lemmas.Bool.Decides.{nat_tests}
use Rattle.std.specs.Prelude.{◌==◌, nat_lt, map, filter, if◌then◌else◌}
use Rattle.std.specs.List.{slice_get}
use Rattle.type_terms.specs.Promised.Worlds.{World, ImplDecl}
use Rattle.type_terms.specs.Promised.Handles.{Entry}
use Rattle.type_terms.specs.declared.ImplId.{ImplId}
use Rattle.goal_evaluator.specs.declared.candidate.CandidateSource.{CandidateSource}
use Rattle.goal_evaluator.specs.declared.candidate.CandidateSource.TheVariants.{Impl}
use Rattle.declarations.specs.Items.{HeldImpl, impl_in}
use Rattle.declarations.specs.Promised.Elaboration.{Each}
use Rattle.declarations.specs.Merges.{Rises}
use Rattle.declarations.specs.Relevant.{is_above}
use Rattle.candidate_model.specs.Asking.{GoalOverKinds}
use Rattle.candidate_model.specs.Candidates.{Candidate, by_impls, by_the_impl, can_match, impl_id}
use Rattle.candidate_assembly.proofs.Behind.{same-impl}
use Rattle.type_terms.proofs.TypeBasics.{some-is}

not-below : (m n : ℕ) → m ≡ n → nat_lt n m ≡ false
not-below m n h = grind (arith, nat_tests)

is-below : (m n : ℕ) → m < n → nat_lt n m ≡ false
is-below m n h = grind (arith, nat_tests)

above-test : (m n : ℕ) → n < m → nat_lt n m ≡ true
above-test m n h = grind (arith, nat_tests)

one-source : (i j : ImplId) → ◌≡◌ {A = CandidateSource} (Impl i) (Impl j) → i ≡ j
one-source i j h = cc

module _ (es : List Entry) (V : World) (a : GoalOverKinds) where
  abbrev decls : List HeldImpl → List ImplDecl
  decls is = map (λ (i : HeldImpl). impl_in es i.id i.def) is

  abbrev candidates : List ImplDecl → List Candidate
  candidates ds = by_impls V a ds

  abbrev rel : ImplDecl → Bool
  rel d = (d.header.trait == a.reference.trait) && can_match a.reference.args d.header.args

  abbrev after : ImplId → List ImplDecl → List ImplDecl
  after last ds = filter (λ (d : ImplDecl). is_above (Some last) d.name) ds

  -- the source of an impl's candidate is the impl
  source-is : (i : HeldImpl) (c : Candidate) (last : ImplId) → by_the_impl V a (impl_in es i.id i.def) ≡ c → c.source ≡ Impl last → i.id ≡ last
  source-is i c last e h = sym (same-impl i.id) ∙ one-source (impl_id i.id.index) last (ap (λ (x : Candidate). x.source) e ∙ h)

  skipped : (d : ImplDecl) (ds : List ImplDecl) (b : Bool) → rel d ≡ b → candidates (d ∷ ds) ≡ cond b (by_the_impl V a d ∷ candidates ds) (candidates ds)
  skipped d ds b e = ap (λ b. if b then by_the_impl V a d ∷ candidates ds else candidates ds) e

  -- what holds of all impls holds of that of a candidate
  of-source : (P : ImplId → Type 0) (is : List HeldImpl) (n : ℕ) (c : Candidate) (last : ImplId) → Each P (map (λ (i : HeldImpl). i.id) is) → slice_get (candidates (decls is)) n ≡ Some c → c.source ≡ Impl last → P last
  of-source P [] n c last h e s = absurd cc
  of-source P (i ∷ is) n c last h e s = by (rel (impl_in es i.id i.def)) refl n e (λ m f. of-source P is m c last h.1 f s)
    where
      by : (b : Bool) → rel (impl_in es i.id i.def) ≡ b → (m : ℕ) → slice_get (candidates (decls (i ∷ is))) m ≡ Some c → ((k : ℕ) → slice_get (candidates (decls is)) k ≡ Some c → P last) → P last
      by true r zero f go =
          let here = sym (ap (λ l. slice_get l 0) (skipped (impl_in es i.id i.def) (decls is) true r)) ∙ f in
          subst P (source-is i c last (some-is (by_the_impl V a (impl_in es i.id i.def)) c here) s) h.0
      by true r (suc m) f go = go m (sym (ap (λ l. slice_get l (suc m)) (skipped (impl_in es i.id i.def) (decls is) true r)) ∙ f)
      by false r m f go = go m (sym (ap (λ l. slice_get l m) (skipped (impl_in es i.id i.def) (decls is) false r)) ∙ f)

  all-after : (last : ImplId) (is : List HeldImpl) → Each (λ (y : ImplId). last.index < y.index) (map (λ (i : HeldImpl). i.id) is) → after last (decls is) ≡ decls is
  all-after last [] h = refl
  all-after last (i ∷ is) h =
      ap (λ b. cond b (impl_in es i.id i.def ∷ after last (decls is)) (after last (decls is))) (above-test i.id.index last.index h.0)
      ∙ ap (λ l. impl_in es i.id i.def ∷ l) (all-after last is h.1)

  -- an impl that cannot match may be left out
  left-out : (d : ImplDecl) (ds : List ImplDecl) (b : Bool) → rel d ≡ false → candidates (cond b (d ∷ ds) ds) ≡ candidates ds
  left-out d ds true e = skipped d ds false e
  left-out d ds false e = refl

  pub goes-on : (is : List HeldImpl) (n : ℕ) (c : Candidate) (last : ImplId) → Rises (map (λ (i : HeldImpl). i.id) is) → slice_get (candidates (decls is)) n ≡ Some c → c.source ≡ Impl last
      → slice_get (candidates (after last (decls is))) 0 ≡ slice_get (candidates (decls is)) (suc n)
  goes-on [] n c last r e s = absurd cc
  goes-on (i ∷ is) n c last r e s = by (rel (impl_in es i.id i.def)) refl n e (λ m f. goes-on is m c last r.1 f s) (λ m f. of-source (λ (y : ImplId). i.id.index < y.index) is m c last r.0 f s)
    where
      by : (b : Bool) → rel (impl_in es i.id i.def) ≡ b → (m : ℕ) → slice_get (candidates (decls (i ∷ is))) m ≡ Some c
          → ((k : ℕ) → slice_get (candidates (decls is)) k ≡ Some c → slice_get (candidates (after last (decls is))) 0 ≡ slice_get (candidates (decls is)) (suc k))
          → ((k : ℕ) → slice_get (candidates (decls is)) k ≡ Some c → i.id.index < last.index)
          → slice_get (candidates (after last (decls (i ∷ is)))) 0 ≡ slice_get (candidates (decls (i ∷ is))) (suc m)
      by true q zero f go below =
          let all = skipped (impl_in es i.id i.def) (decls is) true q in
          let here = sym (ap (λ l. slice_get l 0) all) ∙ f in
          let same : i.id ≡ last = source-is i c last (some-is (by_the_impl V a (impl_in es i.id i.def)) c here) s in
          let gone = not-below i.id.index last.index (ap (λ (y : ImplId). y.index) same) in
          let rest = subst (λ (z : ImplId). Each (λ (y : ImplId). z.index < y.index) (map (λ (i : HeldImpl). i.id) is)) same r.0 in
          ap (λ b. slice_get (candidates (cond b (impl_in es i.id i.def ∷ after last (decls is)) (after last (decls is)))) 0) gone
          ∙ ap (λ ds. slice_get (candidates ds) 0) (all-after last is rest) ∙ sym (ap (λ l. slice_get l (suc zero)) all)
      by true q (suc m) f go below =
          let all = skipped (impl_in es i.id i.def) (decls is) true q in
          let there = sym (ap (λ l. slice_get l (suc m)) all) ∙ f in
          let gone = is-below i.id.index last.index (below m there) in
          ap (λ b. slice_get (candidates (cond b (impl_in es i.id i.def ∷ after last (decls is)) (after last (decls is)))) 0) gone
          ∙ go m there ∙ sym (ap (λ l. slice_get l (suc (suc m))) all)
      by false q m f go below =
          let all = skipped (impl_in es i.id i.def) (decls is) false q in
          let there = sym (ap (λ l. slice_get l m) all) ∙ f in
          ap (λ l. slice_get l 0) (left-out (impl_in es i.id i.def) (after last (decls is)) (is_above (Some last) i.id.index) q)
          ∙ go m there ∙ sym (ap (λ l. slice_get l (suc m)) all)

  pub begins : (is : List HeldImpl) → filter (λ (d : ImplDecl). is_above None d.name) (decls is) ≡ decls is
  begins [] = refl
  begins (i ∷ is) = ap (λ l. impl_in es i.id i.def ∷ l) (begins is)

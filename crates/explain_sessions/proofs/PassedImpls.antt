-- Impls by rising number: those up to the last one considered have no rule for a reference, and then none has.
use Rattle.std.proofs.Common.{◌≡◌, ℕ, ◌-◌, ◌<◌, ◌≤◌, arith, Bool, true, false, not, List, [], ◌∷◌, map, cond, Option, Some, None, refl, sym, ap, ◌∙◌, subst, ◌⊎◌, inl, inr}
use Rattle.std.proofs.lemmas.Bool.Decides.{nat_tests}
use Rattle.std.specs.Option.{is_some, option_map}
use Rattle.std.specs.Prelude.{filter, nat_lt}
use Rattle.sessions.specs.TypeTerms.Promised.Erased.{erased_reference, erased_impl}
use Rattle.sessions.specs.TypeTerms.Promised.Proofs.{In}
use Rattle.sessions.specs.TypeTerms.Promised.Handles.{Entry}
use Rattle.sessions.specs.TypeTerms.Promised.Worlds.{World, Reference, ImplDecl}
use Rattle.sessions.specs.TypeTerms.declared.ImplId.{ImplId}
use Rattle.sessions.proofs.TypeTerms.Members.{in-cases, in-nothing, in-map}
use Rattle.sessions.proofs.TypeTerms.ProofEntries.{map-in}
use Rattle.sessions.specs.TermFolds.declared.predicate.TraitRef.{TraitRef}
use Rattle.sessions.specs.Declarations.Items.{Items, HeldImpl, declared, written, impl_in, reference_in}
use Rattle.sessions.specs.Declarations.Merges.{Rises}
use Rattle.sessions.specs.Declarations.Relevant.{is_above, is_match, matches_in, next_above}
use Rattle.sessions.proofs.OverlapCheck.Written.{each-in}
use Rattle.explain_sessions.specs.Rules.{HasNoImpl, HasNoRuleBy, HasNoRuleByImpl, begins_known}
use Rattle.explain_sessions.proofs.Unmatched.{HasInstance, no-match}
use Rattle.sessions.proofs.TypeTerms.BooleanBasics.{no-both as not-both}

module _ (last : Option ImplId) where
  abbrev next : List ImplDecl → Option ℕ
  next is = next_above last (map (λ (i : ImplDecl). i.name) is)

  taken : (i : ImplDecl) (is : List ImplDecl) → is_above last i.name ≡ true → next (i ∷ is) ≡ Some i.name
  taken i is e = ap (λ b. cond b (Some i.name) (next is)) e

  passed : (i : ImplDecl) (is : List ImplDecl) → is_above last i.name ≡ false → next (i ∷ is) ≡ next is
  passed i is e = ap (λ b. cond b (Some i.name) (next is)) e

  -- it is above the last one considered
  pub next-above : (ns : List ℕ) (n : ℕ) → Some n ≡ next_above last ns → is_above last n ≡ true
  next-above [] n e = cc
  next-above (m ∷ ns) n e = by (is_above last m) refl e (next-above ns n)
    where
      by : (b : Bool) → is_above last m ≡ b → Some n ≡ cond b (Some m) (next_above last ns) → (Some n ≡ next_above last ns → is_above last n ≡ true) → is_above last n ≡ true
      by true f g go = let same : n ≡ m = cc in subst (λ k. is_above last k ≡ true) (sym same) f
      by false f g go = go g

  module _ (p : ImplDecl → Bool) where
    kept : (i : ImplDecl) (is : List ImplDecl) (b : Bool) → p i ≡ b → next (filter p (i ∷ is)) ≡ next (cond b (i ∷ filter p is) (filter p is))
    kept i is b e = ap (λ c. next (cond c (i ∷ filter p is) (filter p is))) e

    -- where there is none, none of those that pass is above it
    pub none-above : (is : List ImplDecl) → None ≡ next (filter p is) → (x : ImplDecl) → In x is → p x ≡ true → is_above last x.name ≡ false
    none-above [] e x j q = absurd (in-nothing x j)
    none-above (i ∷ is) e x j q = by (p i) refl (is_above last i.name) refl (in-cases x i is j) (λ f k. none-above is f x k q)
      where
        differ : None ≡ Some i.name → ⊥
        differ z = cc

        by : (b : Bool) → p i ≡ b → (v : Bool) → is_above last i.name ≡ v → (i ≡ x) ⊎ In x is → (None ≡ next (filter p is) → In x is → is_above last x.name ≡ false) → is_above last x.name ≡ false
        by true f true g k go = absurd (differ (e ∙ kept i is true f ∙ taken i (filter p is) g))
        by true f false g (inl s) go = subst (λ (z : ImplDecl). is_above last z.name ≡ false) s g
        by true f false g (inr k) go = go (e ∙ kept i is true f ∙ passed i (filter p is) g) k
        by false f v g (inl s) go = absurd (not-both (p x) q (subst (λ z. p z ≡ false) s f))
        by false f v g (inr k) go = go (e ∙ kept i is false f) k

    -- of those that pass it is the least one above it
    module _ (es : List Entry) where
      abbrev at : HeldImpl → ImplDecl
      at i = impl_in es i.id i.def

      pub least : (is : List HeldImpl) → Rises (map (λ i. i.id) is) → (n : ℕ) → Some n ≡ next (filter p (map at is)) → (x : ImplDecl) → In x (map at is) → p x ≡ true → is_above last x.name ≡ true → n ≤ x.name
      least [] r n e x j q u = absurd (in-nothing x j)
      least (i ∷ is) r n e x j q u = by (p (at i)) refl (is_above last i.id.index) refl (in-cases x (at i) (map at is) j) (λ f k. least is r.1 n f x k q u)
        where
          some : {m k : ℕ} → Some m ≡ Some k → m ≡ k
          some z = cc

          behind : In x (map at is) → i.id.index ≤ x.name
          behind k =
              let m = map-in at is x k in
              let lt : i.id.index < m.0.id.index = each-in (λ (y : ImplId). i.id.index < y.index) (map (λ (z : HeldImpl). z.id) is) m.0.id r.0 (in-map (λ (z : HeldImpl). z.id) is m.0 m.1) in
              let same : m.0.id.index ≡ x.name = ap (λ (z : ImplDecl). z.name) m.2 in
              omega (arith, lt, same)

          first : n ≡ i.id.index → (at i ≡ x) ⊎ In x (map at is) → n ≤ x.name
          first z (inl s) = let same : i.id.index ≡ x.name = ap (λ (y : ImplDecl). y.name) s in omega (arith, z, same)
          first z (inr k) = let le = behind k in omega (arith, z, le)

          by : (b : Bool) → p (at i) ≡ b → (v : Bool) → is_above last i.id.index ≡ v → (at i ≡ x) ⊎ In x (map at is) → (Some n ≡ next (filter p (map at is)) → In x (map at is) → n ≤ x.name) → n ≤ x.name
          by true f true g k go = first (some (e ∙ kept (at i) (map at is) true f ∙ taken (at i) (filter p (map at is)) g)) k
          by true f false g (inl s) go = absurd (not-both (is_above last x.name) u (subst (λ (z : ImplDecl). is_above last z.name ≡ false) s g))
          by true f false g (inr k) go = go (e ∙ kept (at i) (map at is) true f ∙ passed (at i) (filter p (map at is)) g) k
          by false f v g (inl s) go = absurd (not-both (p x) q (subst (λ z. p z ≡ false) s f))
          by false f v g (inr k) go = go (e ∙ kept (at i) (map at is) false f) k

-- ---- those that were considered
-- those of W with numbers up to the last one considered have no rule for r
abbrev pub HaveNone : World → Reference → Option ImplId → Type 0
HaveNone W r last = (i : ImplDecl) → In i W.impls → is_above last i.name ≡ false → HasNoRuleBy r i

pub none-considered : (W : World) (r : Reference) → HaveNone W r None
none-considered W r i j u = absurd (not-both true refl u)

module _ (es : List Entry) (d : Items) (r : Reference) (known : begins_known r.args ≡ true) (law : (q : Reference) (i : ImplDecl) → HasInstance q i) (last : Option ImplId)
    (done : HaveNone (declared es d) (erased_reference r) last) where
  unlike : (i x : ImplDecl) → erased_impl x ≡ i → is_match r.trait r.args x ≡ false → HasNoRuleBy (erased_reference r) i
  unlike i x e m = subst (HasNoRuleBy (erased_reference r)) e (no-match law r known x m)

  same-name : (i x : ImplDecl) → erased_impl x ≡ i → x.name ≡ i.name
  same-name i x e = ap (λ (z : ImplDecl). z.name) e

  -- the next one that heads let through, and those that they do not
  pub one-more : Rises (map (λ i. i.id) d.impls) → (k : ImplId) → Some k.index ≡ next_above last (matches_in es d r) → HasNoRuleByImpl (declared es d) (erased_reference r) k.index
      → HaveNone (declared es d) (erased_reference r) (Some k)
  one-more rises k e one i j up = let x = map-in erased_impl (written es d).impls i j in by x.0 x.1 x.2 (is_above last i.name) refl (is_match r.trait r.args x.0) refl
    where
      no-more : nat_lt k.index i.name ≡ false → i.name ≤ k.index
      no-more z = grind (arith, nat_tests)

      by : (x : ImplDecl) → In x (written es d).impls → erased_impl x ≡ i → (b : Bool) → is_above last i.name ≡ b → (m : Bool) → is_match r.trait r.args x ≡ m → HasNoRuleBy (erased_reference r) i
      by x z q false f m g = done i j f
      by x z q true f false g = unlike i x q g
      by x z q true f true g =
          let same = same-name i x q in
          let le = least last (is_match r.trait r.args) es d.impls rises k.index e x z g (subst (λ n. is_above last n ≡ true) (sym same) f) in
          let ge = no-more up in
          one i j (omega (arith, same, le, ge))

  -- where heads let no further one through
  pub all-considered : None ≡ next_above last (matches_in es d r) → HasNoImpl (declared es d) (erased_reference r)
  all-considered e i j = let x = map-in erased_impl (written es d).impls i j in by x.0 x.1 x.2 (is_above last i.name) refl (is_match r.trait r.args x.0) refl
    where
      by : (x : ImplDecl) → In x (written es d).impls → erased_impl x ≡ i → (b : Bool) → is_above last i.name ≡ b → (m : Bool) → is_match r.trait r.args x ≡ m → HasNoRuleBy (erased_reference r) i
      by x z q false f m g = done i j f
      by x z q true f false g = unlike i x q g
      by x z q true f true g = done i j (subst (λ n. is_above last n ≡ false) (same-name i x q) (none-above last (is_match r.trait r.args) (written es d).impls e x z g))

-- ---- what is said of the terms as they were
pub same-matches : (old new : List Entry) (d : Items) (r : TraitRef) → written new d ≡ written old d → reference_in new r ≡ reference_in old r → matches_in new d (reference_in new r) ≡ matches_in old d (reference_in old r)
same-matches old new d r e f =
    ap (λ (W : World). map (λ (i : ImplDecl). i.name) (filter (is_match (reference_in new r).trait (reference_in new r).args) W.impls)) e
    ∙ ap (λ (q : Reference). map (λ (i : ImplDecl). i.name) (filter (is_match q.trait q.args) (written old d).impls)) f

pub no-rule-before : (V W : World) (q r : Reference) (n : ℕ) → V ≡ W → q ≡ r → HasNoRuleByImpl V q n → HasNoRuleByImpl W r n
no-rule-before V W q r n e f h = subst (λ x. HasNoRuleByImpl x r n) e (subst (λ x. HasNoRuleByImpl V x n) f h)

pub no-impl-before : (V W : World) (q r : Reference) → V ≡ W → q ≡ r → HasNoImpl V q → HasNoImpl W r
no-impl-before V W q r e f h = subst (λ x. HasNoImpl x r) e (subst (HasNoImpl V) f h)

-- ---- what a look at the impls tells
pub nothing-next : (o : Option ImplId) (b : Bool) → is_some o ≡ not b → b ≡ true → None ≡ option_map (λ (i : ImplId). i.index) o
nothing-next None b h q = refl
nothing-next (Some i) true h q = cc
nothing-next (Some i) false h q = cc

-- ---- how many numbers are left
abbrev pub numbers_left : Option ImplId → ℕ
numbers_left None = 4294967296
numbers_left (Some k) = 4294967295 - k.index

pub fewer-left : (last : Option ImplId) (k : ImplId) (ns : List ℕ) → Some k.index ≡ next_above last ns → numbers_left (Some k) < numbers_left last
fewer-left None k ns e = omega arith
fewer-left (Some j) k ns e = less (next-above (Some j) ns k.index e)
  where
    below : nat_lt j.index k.index ≡ true → j.index < k.index
    below z = grind (arith, nat_tests)

    less : nat_lt j.index k.index ≡ true → 4294967295 - k.index < 4294967295 - j.index
    less z = let lt = below z in let range = k.in_range in omega (arith, lt, range)

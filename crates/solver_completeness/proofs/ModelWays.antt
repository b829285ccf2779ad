-- What is possible, unambiguous, bounded or proved by rules is so by rule instances.
use Rattle.std.proofs.Common.{◌≡◌, ℕ, zero, suc, Bool, true, false, not, ◌&&◌, ◌||◌, List, [], ◌∷◌, ◌++◌, map, refl, sym, ap, subst, ◌⊎◌, inl, inr, if◌then◌else◌, append_assoc}
use Rattle.std.specs.List.{flat_map, list_all, list_any}
use Rattle.type_terms.specs.Promised.Worlds.{World, Reference}
use Rattle.type_terms.specs.Promised.Rules.{Rule, rules, strict_supertraits, is_coinductive}
use Rattle.type_terms.specs.Promised.Proofs.{ProofEntry, In, Stands, Follows, IsProof, HasProof}
use Rattle.type_terms.specs.Promised.Walks.{is_known_in}
use Rattle.type_terms.specs.Promised.Answers.{children, short_chains, is_possible, SingleWay}
use Rattle.type_terms.proofs.Members.{here, there, in-cases, in-nothing, in-map}
use Rattle.type_terms.proofs.ProofEntries.{map-in, stands-more}
use Rattle.type_terms.proofs.WorkedProofs.{needs-rule}
use Rattle.goal_evaluator.specs.Lists.{Every, SomeOf}
use Rattle.solver_completeness.specs.Ways.{AtMostOneHolds, HasShortChains, IsPossible, HasOneWayWithin}
use Rattle.solver_completeness.specs.ModelWays.{ways_under, ways_for, ProofsAreByWays, SingleWayIsDecided, PossibleIsByWays, ShortIsByWays}
use Rattle.type_terms.specs.Promised.Proofs as Model
use Rattle.type_terms.specs.Promised.Answers
use Rattle.type_terms.proofs.Made.{false-true as no-true}
use Rattle.type_terms.proofs.ProofLists.{stands-after}
use Rattle.type_terms.proofs.BooleanBasics.{or-right, both-left as left, both-true as both}
use Rattle.goal_evaluator.proofs.Basics.{both-lists as every-append}
use Rattle.candidate_model.proofs.ByView.{some-left, some-right}

right : (a b : Bool) → (a && b) ≡ true → b ≡ true
right true b e = e
right false b e = absurd (no-true e)

-- ---- lists
every-to : {A : Type 0} (P Q : A → Type 0) → ((x : A) → P x → Q x) → (xs : List A) → Model.Every P xs → Every Q xs
every-to P Q f [] h = tt
every-to P Q f (x ∷ xs) h = (f x h.0, every-to P Q f xs h.1)

every-from : {A : Type 0} (P : A → Type 0) (xs : List A) → Every P xs → Model.Every P xs
every-from P [] h = tt
every-from P (x ∷ xs) h = (h.0, every-from P xs h.1)

some-in : {A : Type 0} (P : A → Type 0) (x : A) (xs : List A) → In x xs → P x → SomeOf P xs
some-in P x [] i p = absurd (in-nothing x i)
some-in P x (y ∷ ys) i p = by (in-cases x y ys i) (λ j. some-in P x ys j p)
  where
    by : (y ≡ x) ⊎ In x ys → (In x ys → SomeOf P ys) → SomeOf P (y ∷ ys)
    by (inl e) f = inl (subst P (sym e) p)
    by (inr j) f = inr (f j)

in-some : {A : Type 0} (P : A → Type 0) (xs : List A) → SomeOf P xs → (x : A) × In x xs × P x
in-some P [] s = absurd s
in-some P (x ∷ xs) (inl p) = (x, here x xs, p)
in-some P (x ∷ xs) (inr s) = let y = in-some P xs s in (y.0, there y.0 x xs y.1, y.2)

module _ (W : World) (E : List Reference) where
  abbrev Within : List ProofEntry → List ProofEntry → Type 0
  Within xs ys = (p : Reference) → Stands p xs → Stands p ys

  either : (b : Bool) (all more earlier before : List ProofEntry) → Within all more → Within earlier before → (p : Reference) → Stands p (if b then all else earlier) → Stands p (if b then more else before)
  either true all more earlier before f g p s = f p s
  either false all more earlier before f g p s = g p s

  within-end : (xs ys : List ProofEntry) (e : ProofEntry) → Within xs ys → Within (xs ++ e ∷ []) (ys ++ e ∷ [])
  within-end xs ys e f p s =
      let m = map-in (λ (x : ProofEntry). x.of) (xs ++ e ∷ []) p s in
      subst (λ q. Stands q (ys ++ e ∷ [])) m.2 (by m.0 (parts xs m.0 m.1))
    where
      parts : (xs : List ProofEntry) (x : ProofEntry) → In x (xs ++ e ∷ []) → In x xs ⊎ (e ≡ x)
      parts [] x i = at (in-cases x e [] i)
        where
          at : (e ≡ x) ⊎ In x [] → In x [] ⊎ (e ≡ x)
          at (inl q) = inr q
          at (inr j) = inl j
      parts (z ∷ zs) x i = at (in-cases x z (zs ++ e ∷ []) i) (λ j. parts zs x j)
        where
          at : (z ≡ x) ⊎ In x (zs ++ e ∷ []) → (In x (zs ++ e ∷ []) → In x zs ⊎ (e ≡ x)) → In x (z ∷ zs) ⊎ (e ≡ x)
          at (inl q) f = inl (subst (λ y. In y (z ∷ zs)) q (here z zs))
          at (inr j) f = on (f j)
            where
              on : In x zs ⊎ (e ≡ x) → In x (z ∷ zs) ⊎ (e ≡ x)
              on (inl k) = inl (there x z zs k)
              on (inr q) = inr q

      by : (x : ProofEntry) → In x xs ⊎ (e ≡ x) → Stands x.of (ys ++ e ∷ [])
      by x (inl i) = stands-more x.of ys (e ∷ []) (f x.of (in-map (λ (y : ProofEntry). y.of) xs x i))
      by x (inr q) = stands-after x.of ys (e ∷ []) (in-map (λ (y : ProofEntry). y.of) (e ∷ []) x (subst (λ y. In y (e ∷ [])) q (here e [])))

  more : (all after earlier before left : List ProofEntry) → Within all after → Within earlier before → Follows W E all earlier left → Follows W E after before left
  more all after earlier before [] f g h = tt
  more all after earlier before (e ∷ rest) f g h = (
    h.0,
    each e.rule.premises h.1,
    more all after (earlier ++ e ∷ []) (before ++ e ∷ []) rest f (within-end earlier before e g) h.2,
  )
    where
      each : (ps : List Reference) → Model.Every (λ p. Stands p (if is_coinductive W e.of.trait then all else earlier)) ps → Model.Every (λ p. Stands p (if is_coinductive W e.of.trait then after else before)) ps
      each [] h = tt
      each (p ∷ ps) h = (either (is_coinductive W e.of.trait) all after earlier before f g p h.0, each ps h.1)

  onward : (all earlier xs ys : List ProofEntry) → Follows W E all earlier xs → Follows W E all (earlier ++ xs) ys → Follows W E all earlier (xs ++ ys)
  onward all earlier [] ys h g = subst (λ z. Follows W E all z ys) (nil earlier) g
    where
      nil : {A : Type 0} (xs : List A) → xs ++ [] ≡ xs
      nil [] = refl
      nil (x ∷ xs) = ap (λ z. x ∷ z) (nil xs)
  onward all earlier (x ∷ xs) ys h g = (h.0, h.1, onward all (earlier ++ x ∷ []) xs ys h.2 (subst (λ z. Follows W E all z ys) (sym (append_assoc earlier (x ∷ []) xs)) g))

  nothing-within : (xs : List ProofEntry) → Within [] xs
  nothing-within xs p s = let m = map-in (λ (x : ProofEntry). x.of) [] p s in absurd (in-nothing m.0 m.1)

  -- proofs of all premises as one
  all-proved : (ps : List Reference) → Model.Every (HasProof W E) ps → (es : List ProofEntry) × IsProof W E es × Model.Every (λ p. Stands p es) ps
  all-proved [] h = ([], tt, tt)
  all-proved (p ∷ ps) h =
      let first = h.0 in
      let rest = all-proved ps h.1 in
      let both = first.0 ++ rest.0 in (
        both,
        onward both [] first.0 rest.0 (more first.0 both [] [] first.0 (λ q s. stands-more q first.0 rest.0 s) (λ q s. s) first.1)
            (more rest.0 both [] first.0 rest.0 (λ q s. stands-after q first.0 rest.0 s) (nothing-within first.0) rest.1),
        (stands-more p first.0 rest.0 first.2, later ps first.0 rest.0 rest.2),
      )
    where
      later : (ps : List Reference) (xs ys : List ProofEntry) → Model.Every (λ p. Stands p ys) ps → Model.Every (λ p. Stands p (xs ++ ys)) ps
      later [] xs ys h = tt
      later (p ∷ ps) xs ys h = (stands-after p xs ys h.0, later ps xs ys h.1)

  -- what a rule with proved premises concludes has a proof
  pub by-rule : (r : Reference) (u : Rule) → In u (rules W E r) → Model.Every (HasProof W E) u.premises → HasProof W E r
  by-rule r u i h =
      let x = all-proved u.premises h in
      let e : ProofEntry = record { of = r; rule = u } in (
        x.0 ++ e ∷ [],
        onward (x.0 ++ e ∷ []) [] x.0 (e ∷ []) (more x.0 (x.0 ++ e ∷ []) [] [] x.0 (λ q s. stands-more q x.0 (e ∷ []) s) (λ q s. s) x.1) (i, each e x.0 u.premises x.2, tt),
        stands-after r x.0 (e ∷ []) (in-map (λ (y : ProofEntry). y.of) (e ∷ []) e (here e [])),
      )
    where
      pick : (b : Bool) (e : ProofEntry) (es : List ProofEntry) (p : Reference) → Stands p es → Stands p (if b then es ++ e ∷ [] else es)
      pick true e es p s = stands-more p es (e ∷ []) s
      pick false e es p s = s

      each : (e : ProofEntry) (es : List ProofEntry) (ps : List Reference) → Model.Every (λ p. Stands p es) ps → Model.Every (λ p. Stands p (if is_coinductive W r.trait then es ++ e ∷ [] else es)) ps
      each e es [] h = tt
      each e es (p ∷ ps) h = (pick (is_coinductive W r.trait) e es p h.0, each e es ps h.1)

some-mapped : (P : List Reference → Type 0) (us : List Rule) → SomeOf P (map (λ u. u.premises) us) → SomeOf (λ (u : Rule). P u.premises) us
some-mapped P [] s = absurd s
some-mapped P (u ∷ us) (inl p) = inl p
some-mapped P (u ∷ us) (inr s) = inr (some-mapped P us s)

mapped-some : (P : List Reference → Type 0) (us : List Rule) → SomeOf (λ (u : Rule). P u.premises) us → SomeOf P (map (λ u. u.premises) us)
mapped-some P [] s = absurd s
mapped-some P (u ∷ us) (inl p) = inl p
mapped-some P (u ∷ us) (inr s) = inr (mapped-some P us s)

pub proofs_are_by_ways : ProofsAreByWays
proofs_are_by_ways W E = record {
  by_way = λ r s.
      let x = in-some (λ (u : Rule). Every (HasProof W E) u.premises) (rules W E r) (some-mapped (Every (HasProof W E)) (rules W E r) s) in
      by-rule W E r x.0 x.1 (every-from (HasProof W E) x.0.premises x.2);
  has_way = λ r p.
      let x = needs-rule W E r p in
      mapped-some (Every (HasProof W E)) (rules W E r) (some-in (λ (u : Rule). Every (HasProof W E) u.premises) x.0 (rules W E r) x.1 (every-to (HasProof W E) (HasProof W E) (λ p h. h) x.0.premises x.2));
}

-- ---- one way at most
module _ (W : World) (E : List Reference) where
  pub at-most : (us : List Rule) → Answers.AtMostOne W E us → AtMostOneHolds (Every (HasProof W E)) (map (λ u. u.premises) us)
  at-most [] h = tt
  at-most (u ∷ us) h = (
    λ p s.
        let x = in-some (λ (v : Rule). Every (HasProof W E) v.premises) us (some-mapped (Every (HasProof W E)) us s) in
        no-zero x.1.0 (h zero (suc x.1.0) u x.0 refl x.1.1 (every-from (HasProof W E) u.premises p) (every-from (HasProof W E) x.0.premises x.2)),
    at-most us (λ i j v w a b p q. less (h (suc i) (suc j) v w a b p q)),
  )
    where
      no-zero : (n : ℕ) → zero ≡ suc n → ⊥
      no-zero n e = cc

      less : {i j : ℕ} → suc i ≡ suc j → i ≡ j
      less e = cc

  pub every-mapped : (P : List Reference → Type 0) (us : List Rule) → Every (λ (u : Rule). P u.premises) us → Every P (map (λ u. u.premises) us)
  every-mapped P [] h = tt
  every-mapped P (u ∷ us) h = (h.0, every-mapped P us h.1)

  decided : (n : ℕ) (r : Reference) → SingleWay n W E r → HasOneWayWithin (ways_under W E) (HasProof W E) n r
  decided zero r h = absurd h
  decided (suc n) r h = (
    at-most (rules W E r) h.0,
    every-mapped (Every (HasOneWayWithin (ways_under W E) (HasProof W E) n)) (rules W E r)
        (every-to (λ (u : Rule). Model.Every (λ p. SingleWay n W E p) u.premises) (λ (u : Rule). Every (HasOneWayWithin (ways_under W E) (HasProof W E) n) u.premises)
        (λ u i. every-to (λ p. SingleWay n W E p) (HasOneWayWithin (ways_under W E) (HasProof W E) n) (λ p s. decided n p s) u.premises i) (rules W E r) h.1),
  )

pub single_way_is_decided : SingleWayIsDecided
single_way_is_decided W E n r h = decided W E n r h

-- ---- tests
all-to : {A : Type 0} (f : A → Bool) (P : A → Type 0) → ((x : A) → f x ≡ true → P x) → (xs : List A) → list_all f xs ≡ true → Every P xs
all-to f P g [] h = tt
all-to f P g (x ∷ xs) h = (g x (left (f x) _ h), all-to f P g xs (right (f x) _ h))

all-from : {A : Type 0} (f : A → Bool) (P : A → Type 0) → ((x : A) → P x → f x ≡ true) → (xs : List A) → Every P xs → list_all f xs ≡ true
all-from f P g [] h = refl
all-from f P g (x ∷ xs) h = both (f x) _ (g x h.0) (all-from f P g xs h.1)

any-to : {A : Type 0} (f : A → Bool) (P : A → Type 0) → ((x : A) → f x ≡ true → P x) → (xs : List A) → list_any f xs ≡ true → SomeOf P xs
any-to f P g [] h = absurd (no-true h)
any-to f P g (x ∷ xs) h = by (f x) refl h (λ e. any-to f P g xs e)
  where
    by : (b : Bool) → f x ≡ b → (b || list_any f xs) ≡ true → (list_any f xs ≡ true → SomeOf P xs) → SomeOf P (x ∷ xs)
    by true e h r = inl (g x e)
    by false e h r = inr (r h)

or-left : (a b : Bool) → a ≡ true → (a || b) ≡ true
or-left a b e = ap (λ x. x || b) e

any-from : {A : Type 0} (f : A → Bool) (P : A → Type 0) → ((x : A) → P x → f x ≡ true) → (xs : List A) → SomeOf P xs → list_any f xs ≡ true
any-from f P g [] s = absurd s
any-from f P g (x ∷ xs) (inl p) = or-left (f x) _ (g x p)
any-from f P g (x ∷ xs) (inr s) = or-right (f x) _ (any-from f P g xs s)

some-parts : {A : Type 0} (P : A → Type 0) (xs ys : List A) → SomeOf P (xs ++ ys) → SomeOf P xs ⊎ SomeOf P ys
some-parts P [] ys s = inr s
some-parts P (x ∷ xs) ys (inl p) = inl (inl p)
some-parts P (x ∷ xs) ys (inr s) = by (some-parts P xs ys s)
  where
    by : SomeOf P xs ⊎ SomeOf P ys → SomeOf P (x ∷ xs) ⊎ SomeOf P ys
    by (inl a) = inl (inr a)
    by (inr b) = inr b

-- ---- possible
module _ (V : World) (c : ℕ) where
  abbrev unknown_way : Bool → Reference → List (List Reference)
  unknown_way known r = if known then [] else strict_supertraits V r ∷ []

  mutual_to : (n : ℕ) → ((p : Reference) → is_possible n V c p ≡ true → IsPossible (ways_for V c) n p) → (r : Reference) → is_possible (suc n) V c r ≡ true → IsPossible (ways_for V c) (suc n) r
  mutual_to n ih r h = by (list_any (λ u. list_all (λ p. is_possible n V c p) u.premises) (rules V [] r)) refl h
    where
      supers : (known : Bool) → (not known && list_all (λ p. is_possible n V c p) (strict_supertraits V r)) ≡ true → SomeOf (Every (IsPossible (ways_for V c) n)) (unknown_way known r)
      supers true e = absurd (no-true e)
      supers false e = inl (all-to (λ p. is_possible n V c p) (IsPossible (ways_for V c) n) ih (strict_supertraits V r) e)

      by : (b : Bool) → list_any (λ u. list_all (λ p. is_possible n V c p) u.premises) (rules V [] r) ≡ b
          → (b || (not (is_known_in V c r) && list_all (λ p. is_possible n V c p) (strict_supertraits V r))) ≡ true → SomeOf (Every (IsPossible (ways_for V c) n)) (ways_for V c r)
      by true e h =
          some-left (Every (IsPossible (ways_for V c) n)) (map (λ u. u.premises) (rules V [] r)) (unknown_way (is_known_in V c r) r)
          (mapped-some (Every (IsPossible (ways_for V c) n)) (rules V [] r)
          (any-to (λ (u : Rule). list_all (λ p. is_possible n V c p) u.premises) (λ (u : Rule). Every (IsPossible (ways_for V c) n) u.premises)
          (λ u e. all-to (λ p. is_possible n V c p) (IsPossible (ways_for V c) n) ih u.premises e) (rules V [] r) e))
      by false e h = some-right (Every (IsPossible (ways_for V c) n)) (map (λ u. u.premises) (rules V [] r)) (unknown_way (is_known_in V c r) r) (supers (is_known_in V c r) h)

  possible-to : (n : ℕ) (r : Reference) → is_possible n V c r ≡ true → IsPossible (ways_for V c) n r
  possible-to zero r h = absurd (no-true h)
  possible-to (suc n) r h = mutual_to n (λ p e. possible-to n p e) r h

  mutual_from : (n : ℕ) → ((p : Reference) → IsPossible (ways_for V c) n p → is_possible n V c p ≡ true) → (r : Reference) → IsPossible (ways_for V c) (suc n) r → is_possible (suc n) V c r ≡ true
  mutual_from n ih r h = by (some-parts (Every (IsPossible (ways_for V c) n)) (map (λ u. u.premises) (rules V [] r)) (unknown_way (is_known_in V c r) r) h)
    where
      supers : (known : Bool) → SomeOf (Every (IsPossible (ways_for V c) n)) (unknown_way known r) → (not known && list_all (λ p. is_possible n V c p) (strict_supertraits V r)) ≡ true
      supers true s = absurd s
      supers false (inl e) = all-from (λ p. is_possible n V c p) (IsPossible (ways_for V c) n) ih (strict_supertraits V r) e
      supers false (inr e) = absurd e

      by : SomeOf (Every (IsPossible (ways_for V c) n)) (map (λ u. u.premises) (rules V [] r)) ⊎ SomeOf (Every (IsPossible (ways_for V c) n)) (unknown_way (is_known_in V c r) r) → is_possible (suc n) V c r ≡ true
      by (inl s) =
          or-left (list_any (λ u. list_all (λ p. is_possible n V c p) u.premises) (rules V [] r)) _
          (any-from (λ (u : Rule). list_all (λ p. is_possible n V c p) u.premises) (λ (u : Rule). Every (IsPossible (ways_for V c) n) u.premises)
          (λ u e. all-from (λ p. is_possible n V c p) (IsPossible (ways_for V c) n) ih u.premises e) (rules V [] r) (some-mapped (Every (IsPossible (ways_for V c) n)) (rules V [] r) s))
      by (inr s) = or-right (list_any (λ u. list_all (λ p. is_possible n V c p) u.premises) (rules V [] r)) _ (supers (is_known_in V c r) s)

  possible-from : (n : ℕ) (r : Reference) → IsPossible (ways_for V c) n r → is_possible n V c r ≡ true
  possible-from zero r h = absurd h
  possible-from (suc n) r h = mutual_from n (λ p e. possible-from n p e) r h

  -- ---- chains
  every-flat : (P : Reference → Type 0) (us : List Rule) (rest : List Reference) → Every P (flat_map (λ u. u.premises) us ++ rest) → Every (Every P) (map (λ u. u.premises) us) × Every P rest
  every-flat P [] rest h = (tt, h)
  every-flat P (u ∷ us) rest h =
      let x = parts u.premises (flat_map (λ u. u.premises) us) h in
      let y = every-flat P us rest x.1 in
      ((x.0, y.0), y.1)
    where
      parts : (xs ys : List Reference) → Every P ((xs ++ ys) ++ rest) → Every P xs × Every P (ys ++ rest)
      parts [] ys h = (tt, h)
      parts (x ∷ xs) ys h = let y = parts xs ys h.1 in ((h.0, y.0), y.1)

  short-to : (n : ℕ) (r : Reference) → short_chains n V c r ≡ true → HasShortChains (ways_for V c) n r
  short-to zero r h = absurd (no-true h)
  short-to (suc n) r h = by (λ p e. short-to n p e)
    where
      known_way : (known : Bool) → Every (HasShortChains (ways_for V c) n) (if known then [] else strict_supertraits V r) → Every (Every (HasShortChains (ways_for V c) n)) (unknown_way known r)
      known_way true h = tt
      known_way false h = (h, tt)

      by : ((p : Reference) → short_chains n V c p ≡ true → HasShortChains (ways_for V c) n p) → HasShortChains (ways_for V c) (suc n) r
      by ih =
          let x = every-flat (HasShortChains (ways_for V c) n) (rules V [] r) (if is_known_in V c r then [] else strict_supertraits V r)
          (all-to (λ s. short_chains n V c s) (HasShortChains (ways_for V c) n) ih (children V c r) h) in
          every-append (Every (HasShortChains (ways_for V c) n)) (map (λ u. u.premises) (rules V [] r)) (unknown_way (is_known_in V c r) r) x.0 (known_way (is_known_in V c r) x.1)

pub possible_is_by_ways : PossibleIsByWays
possible_is_by_ways = record { to = λ V c n r h. possible-to V c n r h; from = λ V c n r h. possible-from V c n r h }

pub short_is_by_ways : ShortIsByWays
short_is_by_ways V c n r h = short-to V c n r h

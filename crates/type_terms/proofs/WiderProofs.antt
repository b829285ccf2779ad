-- What has a proof in a world has one in each world above it.
use Rattle.std.proofs.Common.{◌≡◌, ℕ, suc, Bool, true, false, List, [], ◌∷◌, ◌++◌, refl, ap, sym, ◌∙◌, if◌then◌else◌, subst, ◌⊎◌, inl, inr, append_assoc}
use Rattle.type_terms.specs.Promised.Trees.{Trees}
use Rattle.type_terms.specs.Promised.Worlds.{World, Reference}
use Rattle.type_terms.specs.Promised.Rules.{rules, is_coinductive, strict_supertraits}
use Rattle.type_terms.specs.Promised.Proofs.{ProofEntry, In, Every, Stands, Follows, IsProof, HasProof}
use Rattle.type_terms.specs.Promised.Proofs.{HasElaboratedProof}
use Rattle.type_terms.specs.Wider.{AsksNoMore, IsBelow, HasRulesOf, IsVoid, KeepsTest, SupersKeepTest}
use Rattle.type_terms.proofs.Members.{here, in-cases, in-nothing, not-both}
use Rattle.type_terms.proofs.ProofEntries.{every-map, stands-more}
use Rattle.type_terms.proofs.ProofLists.{stands-split}
use Rattle.type_terms.proofs.NoHolds.{every-member}
use Rattle.type_terms.proofs.OtherImpls.{supers-same}
use Rattle.type_terms.proofs.WiderRules.{rules-above, as-changed}
use Rattle.type_terms.proofs.TermBasics.{stands-later}

stands-here : (e : ProofEntry) (es : List ProofEntry) → Stands e.of (e ∷ es)
stands-here e es = here e.of _

pub stands-cases : (p : Reference) (e : ProofEntry) (es : List ProofEntry) → Stands p (e ∷ es) → (e.of ≡ p) ⊎ Stands p es
stands-cases p e es h = in-cases p e.of _ h

pub every-in : {A : Type 0} (P : A → Type 0) (xs : List A) → ((x : A) → In x xs → P x) → Every P xs
every-in P [] f = tt
every-in P (x ∷ xs) f = (f x (here x xs), every-in P xs (λ y g. f y (suc g.0, g.1)))

-- at the end of a list
stands-last : (e : ProofEntry) (es : List ProofEntry) → Stands e.of (es ++ e ∷ [])
stands-last e [] = stands-here e []
stands-last e (x ∷ es) = stands-later e.of x (es ++ e ∷ []) (stands-last e es)

module _ (t : Trees → Bool) (V U : World) (b : IsBelow t V U) where
  pub supers-above : (r : Reference) → strict_supertraits V r ≡ strict_supertraits U r
  supers-above r = sym (supers-same V U.crates U.impls r) ∙ ap (λ (Y : World). strict_supertraits Y r) (sym (as-changed t V U b))

  coinductive-above : (n : ℕ) → is_coinductive V n ≡ is_coinductive U n
  coinductive-above n = ap (λ (Y : World). is_coinductive Y n) (sym (as-changed t V U b))

  -- the world above has the rules
  pub above-has-rules : (E : List Reference) → HasRulesOf t V U E
  above-has-rules E = record { there = λ r a u h. inl (rules-above t V U b E r a u h); coinductive = coinductive-above; supers = supers-above }

module _ (t : Trees → Bool) (V U : World) (E : List Reference) (b : HasRulesOf t V U E) where
  module _ (keep : KeepsTest t V E) where
    -- p, which passes the test, stands in the second list where it stands in the first
    abbrev More : List ProofEntry → List ProofEntry → Type 0
    More xs ys = (p : Reference) → t p.args ≡ true → Stands p xs → Stands p ys

    -- the entries of a proof that pass the test, by the rules above
    record Raised (all earlier left : List ProofEntry) : Type 0 where
      entries : List ProofEntry
      there : More left entries
      passed : Every (λ e. (t e.of.args ≡ true) × ((x : ProofEntry) × In x left × (x.of ≡ e.of))) entries
      follow : (all' earlier' : List ProofEntry) → More all all' → More earlier earlier' → Follows U E all' earlier' entries

    raised : (all : List ProofEntry) → IsProof V E all → (earlier left : List ProofEntry) → all ≡ earlier ++ left → Follows V E all earlier left → Raised all earlier left
    raised all whole earlier [] is f = record { entries = []; there = λ p a k. k; passed = tt; follow = λ all' earlier' g h. tt }
    raised all whole earlier (e ∷ left) is f = by (t e.of.args) refl (raised all whole (earlier ++ e ∷ []) left (is ∙ sym (append_assoc earlier (e ∷ []) left)) f.2)
      where
        later : (e' : ProofEntry) → (t e'.of.args ≡ true) × ((x : ProofEntry) × In x left × (x.of ≡ e'.of)) → (t e'.of.args ≡ true) × ((x : ProofEntry) × In x (e ∷ left) × (x.of ≡ e'.of))
        later e' k = (k.0, (k.1.0, (suc k.1.1.0, k.1.1.1), k.1.2))

        by : (x : Bool) → t e.of.args ≡ x → Raised all (earlier ++ e ∷ []) left → Raised all earlier (e ∷ left)
        by true a m = record {
          entries = d ∷ m.entries;
          there = λ p c k. put p c (stands-cases p e left k);
          passed = ((a, (e, here e left, refl)), every-map _ _ m.entries later m.passed);
          follow = λ all' earlier' g h. (
            w.1,
            every-map (λ p. In p e.rule.premises) (λ p. Stands p (if is_coinductive U e.of.trait then all' else earlier')) w.0.premises
                (λ p k. at all' earlier' g h p (keep e.of a e.rule f.0 p k) (is_coinductive V e.of.trait) (is_coinductive U e.of.trait) (b.coinductive e.of.trait)
                (every-member (λ q. Stands q (if is_coinductive V e.of.trait then all else earlier)) e.rule.premises p f.1 k)) w.2,
            m.follow all' (earlier' ++ d ∷ []) g (λ p c k. more earlier' h p c (stands-split p earlier (e ∷ []) k)),
          );
        }
          where
            w : AsksNoMore (rules U E e.of) e.rule
            w = of-two (b.there e.of a e.rule f.0)
              where
                in-all : (x : Bool) (p : Reference) → Stands p (if x then all else earlier) → Stands p all
                in-all true p s = s
                in-all false p s = subst (Stands p) (sym is) (stands-more p earlier (e ∷ left) s)

                of-two : AsksNoMore (rules U E e.of) e.rule ⊎ IsVoid V E e.rule → AsksNoMore (rules U E e.of) e.rule
                of-two (inl x) = x
                of-two (inr x) =
                    absurd
                    (x.2 (
                      all,
                      whole,
                      in-all (is_coinductive V e.of.trait) x.0 (every-member (λ q. Stands q (if is_coinductive V e.of.trait then all else earlier)) e.rule.premises x.0 f.1 x.1),
                    ))

            d : ProofEntry
            d = record { of = e.of; rule = w.0 }

            put : (p : Reference) → t p.args ≡ true → (e.of ≡ p) ⊎ Stands p left → Stands p (d ∷ m.entries)
            put p c (inl q) = subst (λ z. Stands z (d ∷ m.entries)) q (stands-here d m.entries)
            put p c (inr k) = stands-later p d m.entries (m.there p c k)

            at : (all' earlier' : List ProofEntry) → More all all' → More earlier earlier' → (p : Reference) → t p.args ≡ true → (x y : Bool) → x ≡ y
                → Stands p (if x then all else earlier) → Stands p (if y then all' else earlier')
            at all' earlier' g h p c true true q k = g p c k
            at all' earlier' g h p c true false q k = absurd (not-both true refl q)
            at all' earlier' g h p c false true q k = absurd (not-both true refl (sym q))
            at all' earlier' g h p c false false q k = h p c k

            more : (earlier' : List ProofEntry) → More earlier earlier' → (p : Reference) → t p.args ≡ true → Stands p earlier ⊎ Stands p (e ∷ []) → Stands p (earlier' ++ d ∷ [])
            more earlier' h p c (inl k) = stands-more p earlier' (d ∷ []) (h p c k)
            more earlier' h p c (inr k) = one (stands-cases p e [] k)
              where
                one : (e.of ≡ p) ⊎ Stands p [] → Stands p (earlier' ++ d ∷ [])
                one (inl q) = subst (λ z. Stands z (earlier' ++ d ∷ [])) q (stands-last d earlier')
                one (inr q) = absurd (in-nothing p q)
        by false a m = record {
          entries = m.entries;
          there = λ p c k. put p c (stands-cases p e left k);
          passed = every-map _ _ m.entries later m.passed;
          follow = λ all' earlier' g h. m.follow all' earlier' g (λ p c k. more earlier' h p c (stands-split p earlier (e ∷ []) k));
        }
          where
            other : (p : Reference) → t p.args ≡ true → e.of ≡ p → ⊥
            other p c q = not-both (t e.of.args) (ap (λ (z : Reference). t z.args) q ∙ c) a

            put : (p : Reference) → t p.args ≡ true → (e.of ≡ p) ⊎ Stands p left → Stands p m.entries
            put p c (inl q) = absurd (other p c q)
            put p c (inr k) = m.there p c k

            more : (earlier' : List ProofEntry) → More earlier earlier' → (p : Reference) → t p.args ≡ true → Stands p earlier ⊎ Stands p (e ∷ []) → Stands p earlier'
            more earlier' h p c (inl k) = h p c k
            more earlier' h p c (inr k) = one (stands-cases p e [] k)
              where
                one : (e.of ≡ p) ⊎ Stands p [] → Stands p earlier'
                one (inl q) = absurd (other p c q)
                one (inr q) = absurd (in-nothing p q)

    pub proof-above : (r : Reference) → t r.args ≡ true → HasProof V E r → HasProof U E r
    proof-above r a h =
        let m = raised h.0 h.1 [] h.0 refl h.1 in
        (m.entries, m.follow m.entries [] m.there (λ p c k. k), m.there r a h.2)

    pub elaborated-above : SupersKeepTest t V → (r : Reference) → t r.args ≡ true → HasElaboratedProof V E r → HasElaboratedProof U E r
    elaborated-above supers r a h =
        (m.entries, (m.follow m.entries [] m.there (λ p c k. k), every-map _ _ m.entries each m.passed), m.there r a h.2)
      where
        m : Raised h.0 [] h.0
        m = raised h.0 h.1.0 [] h.0 refl h.1.0

        each : (e : ProofEntry) → (t e.of.args ≡ true) × ((x : ProofEntry) × In x h.0 × (x.of ≡ e.of)) → Every (λ s. Stands s m.entries) (strict_supertraits U e.of)
        each e k =
            subst (Every (λ s. Stands s m.entries)) (b.supers e.of)
            (every-in (λ s. Stands s m.entries) (strict_supertraits V e.of)
            (λ s g. m.there s (supers e.of k.0 s g)
            (every-member (λ s. Stands s h.0) (strict_supertraits V e.of) s
            (subst (λ z. Every (λ s. Stands s h.0) (strict_supertraits V z)) k.1.2
            (every-member (λ (x : ProofEntry). Every (λ s. Stands s h.0) (strict_supertraits V x.of)) h.0 k.1.0 h.1.1 k.1.1)) g)))

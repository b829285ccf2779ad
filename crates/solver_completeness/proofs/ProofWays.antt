-- Proofs as lists are by the rule instances of trait references.
use Rattle.std.proofs.Common.{◌≡◌, Bool, true, false, if◌then◌else◌, List, [], ◌∷◌, ◌++◌, refl, sym, ap, subst, inl, inr}
use Rattle.goal_evaluator.specs.Lists.{Every, SomeOf, IsAmong}
use Rattle.goal_evaluator.proofs.ListLaws.{SomeOf-at, Every-mono}
use Rattle.goal_evaluator.specs.Proof.{FactEntry, facts, EntriesContinue, IsFactProof, FactHasProof}

-- the rules are the ways
pub record AreTheWays {Fact : Type 0} (ways : Fact → List (List Fact)) (Rule : Fact → List Fact → Type 0) : Type 0 where
  pub to : (f : Fact) (premises : List Fact) → Rule f premises → IsAmong premises (ways f)
  pub from : (f : Fact) (premises : List Fact) → IsAmong premises (ways f) → Rule f premises

among-left : {A : Type 0} (x : A) (xs ys : List A) → IsAmong x xs → IsAmong x (xs ++ ys)
among-left x [] ys i = absurd i
among-left x (y ∷ xs) ys (inl e) = inl e
among-left x (y ∷ xs) ys (inr i) = inr (among-left x xs ys i)

among-right : {A : Type 0} (x : A) (xs ys : List A) → IsAmong x ys → IsAmong x (xs ++ ys)
among-right x [] ys i = i
among-right x (y ∷ xs) ys i = inr (among-right x xs ys i)

module _ {Fact : Type 0} (ways : Fact → List (List Fact)) (Rule : Fact → List Fact → Type 0) (coinductive : Fact → Bool) (are : AreTheWays ways Rule) where
  abbrev Entry' : Type 0
  Entry' = FactEntry Fact Rule coinductive

  abbrev facts' : List Entry' → List Fact
  facts' es = facts Fact Rule coinductive es

  abbrev Continues' : List Fact → List Fact → List Entry' → Type 0
  Continues' all earlier es = EntriesContinue Fact Rule coinductive all earlier es

  abbrev Proved : Fact → Type 0
  Proved f = FactHasProof Fact Rule coinductive f

  abbrev Within : List Fact → List Fact → Type 0
  Within xs ys = (p : Fact) → IsAmong p xs → IsAmong p ys

  facts-append : (xs ys : List Entry') → facts' (xs ++ ys) ≡ facts' xs ++ facts' ys
  facts-append [] ys = refl
  facts-append (x ∷ xs) ys = ap (λ z. x.0 ∷ z) (facts-append xs ys)

  -- ---- an entry's premises stand in the proof
  either : (b : Bool) (all earlier : List Fact) → Within earlier all → (p : Fact) → IsAmong p (if b then all else earlier) → IsAmong p all
  either true all earlier f p i = i
  either false all earlier f p i = f p i

  entry-stands : (all earlier : List Fact) (es : List Entry') → Within earlier all → Within (facts' es) all → Continues' all earlier es → (f : Fact) → IsAmong f (facts' es)
      → (premises : List Fact) × Rule f premises × Every (λ p. IsAmong p all) premises
  entry-stands all earlier [] g h c f i = absurd i
  entry-stands all earlier (e ∷ es) g h c f (inl q) =
      (e.1, subst (λ z. Rule z e.1) (sym q) c.0, Every-mono (λ p. IsAmong p (if coinductive e.0 then all else earlier)) (λ p. IsAmong p all) (either (coinductive e.0) all earlier g) e.1 c.1)
  entry-stands all earlier (e ∷ es) g h c f (inr i) = entry-stands all (e.0 ∷ earlier) es (λ p j. by p j) (λ p j. h p (inr j)) c.2 f i
    where
      by : (p : Fact) → IsAmong p (e.0 ∷ earlier) → IsAmong p all
      by p (inl q) = h p (inl q)
      by p (inr j) = g p j

  needs : (f : Fact) → Proved f → SomeOf (Every Proved) (ways f)
  needs f x =
      let y = entry-stands (facts' x.0) [] x.0 (λ p i. absurd i) (λ p i. i) x.1 f x.2 in
      SomeOf-at (Every Proved) y.0 (ways f) (are.to f y.0 y.1) (Every-mono (λ p. IsAmong p (facts' x.0)) Proved (λ p i. (x.0, x.1, i)) y.0 y.2)

  -- ---- proofs one after the other
  either-more : (b : Bool) (all more earlier before : List Fact) → Within all more → Within earlier before → (p : Fact) → IsAmong p (if b then all else earlier) → IsAmong p (if b then more else before)
  either-more true all more earlier before f g p i = f p i
  either-more false all more earlier before f g p i = g p i

  within-next : (x : Fact) (xs ys : List Fact) → Within xs ys → Within (x ∷ xs) (x ∷ ys)
  within-next x xs ys f p (inl q) = inl q
  within-next x xs ys f p (inr i) = inr (f p i)

  more : (all after earlier before : List Fact) (es : List Entry') → Within all after → Within earlier before → Continues' all earlier es → Continues' after before es
  more all after earlier before [] f g c = tt
  more all after earlier before (e ∷ es) f g c = (
    c.0,
    Every-mono (λ p. IsAmong p (if coinductive e.0 then all else earlier)) (λ p. IsAmong p (if coinductive e.0 then after else before)) (either-more (coinductive e.0) all after earlier before f g) e.1 c.1,
    more all after (e.0 ∷ earlier) (e.0 ∷ before) es f (within-next e.0 earlier before g) c.2,
  )

  -- the first entries, and others that need nothing but what was before them, and what the first conclude
  onward : (all earlier : List Fact) (xs ys : List Entry') → Continues' all earlier xs → ((later : List Fact) → Within earlier later → Within (facts' xs) later → Continues' all later ys) → Continues' all earlier (xs ++ ys)
  onward all earlier [] ys c f = f earlier (λ p i. i) (λ p i. absurd i)
  onward all earlier (x ∷ xs) ys c f = (c.0, c.1, onward all (x.0 ∷ earlier) xs ys c.2 (λ later g h. f later (λ p i. g p (inr i)) (λ p i. by later g h p i)))
    where
      by : (later : List Fact) → Within (x.0 ∷ earlier) later → Within (facts' xs) later → (p : Fact) → IsAmong p (x.0 ∷ facts' xs) → IsAmong p later
      by later g h p (inl q) = g p (inl q)
      by later g h p (inr i) = h p i

  pub record Together (premises : List Fact) : Type 0 where
    pub entries : List Entry'
    pub proof : IsFactProof Fact Rule coinductive entries
    pub each : Every (λ p. IsAmong p (facts' entries)) premises

  together : (premises : List Fact) → Every Proved premises → Together premises
  together [] h = record { entries = []; proof = tt; each = tt }
  together (p ∷ ps) h =
      let x = h.0 in
      let y = together ps h.1 in
      let all = facts' (x.0 ++ y.entries) in
      let first : Within (facts' x.0) all = λ q i. subst (IsAmong q) (sym (facts-append x.0 y.entries)) (among-left q (facts' x.0) (facts' y.entries) i) in
      let second : Within (facts' y.entries) all = λ q i. subst (IsAmong q) (sym (facts-append x.0 y.entries)) (among-right q (facts' x.0) (facts' y.entries) i) in
      record {
        entries = x.0 ++ y.entries;
        proof =
            onward all [] x.0 y.entries (more (facts' x.0) all [] [] x.0 first (λ q i. i) x.1)
            (λ later g k. more (facts' y.entries) all [] later y.entries second (λ q i. absurd i) y.proof);
        each = (first p x.2, Every-mono (λ q. IsAmong q (facts' y.entries)) (λ q. IsAmong q all) second ps y.each);
      }

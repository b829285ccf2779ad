-- Entries whose premises stand among the references of entries before them follow each other.
use Rattle.std.proofs.Common.{◌≡◌, ℕ, zero, suc, List, [], ◌∷◌, ◌++◌, length, take, map, refl, ap, sym, ◌∙◌, subst, Bool, true, false, if◌then◌else◌, arith}
use Rattle.type_terms.specs.Promised.Worlds.{World, Reference}
use Rattle.type_terms.specs.Promised.Rules.{rules, is_coinductive}
use Rattle.type_terms.specs.Promised.Proofs.{ProofEntry, In, Every, Stands, Follows, IsProof}
use Rattle.type_terms.proofs.ProofEntries.{every-map}

abbrev refs : List ProofEntry → List Reference
refs es = map (λ (e : ProofEntry). e.of) es

-- As `Follows`, by the place: the references of all entries are rs, and k of them stand before.
abbrev pub FollowsAt : World → List Reference → List Reference → ℕ → List ProofEntry → Type 0
FollowsAt W E rs k [] = Unit {0}
FollowsAt W E rs k (e ∷ left) =
    In e.rule (rules W E e.of) × Every (λ p. In p (if is_coinductive W e.of.trait then rs else take k rs)) e.rule.premises × FollowsAt W E rs (suc k) left

take-front : (k : ℕ) (xs ys : List Reference) → k ≡ length xs → take k (xs ++ ys) ≡ xs
take-front zero [] ys e = refl
take-front (suc k) [] ys e = absurd (omega (arith, e))
take-front zero (x ∷ xs) ys e = absurd (omega (arith, e))
take-front (suc k) (x ∷ xs) ys e = ap (λ l. x ∷ l) (take-front k xs ys (omega (arith, e)))

refs-length : (es : List ProofEntry) → length (refs es) ≡ length es
refs-length [] = refl
refs-length (e ∷ es) = let r = refs-length es in omega (arith, r)

refs-snoc : (xs : List ProofEntry) (e : ProofEntry) (ys : List ProofEntry) → refs (xs ++ e ∷ []) ++ refs ys ≡ refs xs ++ refs (e ∷ ys)
refs-snoc [] e ys = refl
refs-snoc (x ∷ xs) e ys = ap (λ l. x.of ∷ l) (refs-snoc xs e ys)

length-snoc : (xs : List ProofEntry) (e : ProofEntry) → length (xs ++ e ∷ []) ≡ suc (length xs)
length-snoc [] e = refl
length-snoc (x ∷ xs) e = let r = length-snoc xs e in omega (arith, r)

follows : (W : World) (E : List Reference) (all earlier left : List ProofEntry) (k : ℕ) → k ≡ length earlier → refs earlier ++ refs left ≡ refs all → FollowsAt W E (refs all) k left → Follows W E all earlier left
follows W E all earlier [] k n q f = tt
follows W E all earlier (e ∷ left) k n q f = (
  f.0,
  every-map (λ p. In p (if is_coinductive W e.of.trait then refs all else take k (refs all))) (λ p. Stands p (if is_coinductive W e.of.trait then all else earlier)) e.rule.premises (at (is_coinductive W e.of.trait)) f.1,
  follows W E all (earlier ++ e ∷ []) left (suc k) (let r = length-snoc earlier e in omega (arith, r, n)) (refs-snoc earlier e left ∙ q) f.2,
)
  where
    before : take k (refs all) ≡ refs earlier
    before = ap (take k) (sym q) ∙ take-front k (refs earlier) (refs (e ∷ left)) (let r = refs-length earlier in omega (arith, r, n))

    at : (b : Bool) (p : Reference) → In p (if b then refs all else take k (refs all)) → Stands p (if b then all else earlier)
    at true p h = h
    at false p h = subst (In p) before h

pub is-proof : (W : World) (E : List Reference) (all : List ProofEntry) → FollowsAt W E (refs all) 0 all → IsProof W E all
is-proof W E all f = follows W E all [] all 0 refl refl f

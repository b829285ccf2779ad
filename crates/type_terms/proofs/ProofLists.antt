-- Proofs joined: a rule instance whose premises have proofs gives a proof.
use Rattle.std.proofs.Common.{◌≡◌, Bool, true, false, List, [], ◌∷◌, ◌++◌, refl, ap, sym, if◌then◌else◌, subst, ◌⊎◌, inl, inr, append_assoc}
use Rattle.type_terms.specs.Promised.Worlds.{World, Reference}
use Rattle.type_terms.specs.Promised.Rules.{Rule, rules, is_coinductive}
use Rattle.type_terms.specs.Promised.Proofs.{ProofEntry, In, Every, Stands, Follows, IsProof, HasProof}
use Rattle.type_terms.proofs.Members.{here, in-append, in-right, in-map}
use Rattle.type_terms.proofs.ProofEntries.{map-in, every-map, stands-more}

pub stands-after : (p : Reference) (xs ys : List ProofEntry) → Stands p ys → Stands p (xs ++ ys)
stands-after p xs ys h =
    let m = map-in (λ (e : ProofEntry). e.of) ys p h in
    subst (λ q. Stands q (xs ++ ys)) m.2 (in-map (λ (e : ProofEntry). e.of) (xs ++ ys) m.0 (in-right m.0 xs ys m.1))

pub stands-split : (p : Reference) (xs ys : List ProofEntry) → Stands p (xs ++ ys) → Stands p xs ⊎ Stands p ys
stands-split p xs ys h = by (in-append m.0 xs ys m.1)
  where
    m : (e : ProofEntry) × In e (xs ++ ys) × (e.of ≡ p)
    m = map-in (λ (e : ProofEntry). e.of) (xs ++ ys) p h

    by : In m.0 xs ⊎ In m.0 ys → Stands p xs ⊎ Stands p ys
    by (inl g) = inl (subst (λ q. Stands q xs) m.2 (in-map (λ (e : ProofEntry). e.of) xs m.0 g))
    by (inr g) = inr (subst (λ q. Stands q ys) m.2 (in-map (λ (e : ProofEntry). e.of) ys m.0 g))

-- entries still follow where more stands
follows-more : (W : World) (E : List Reference) (all all' earlier earlier' rest : List ProofEntry) → ((p : Reference) → Stands p all → Stands p all')
    → ((p : Reference) → Stands p earlier → Stands p earlier') → Follows W E all earlier rest → Follows W E all' earlier' rest
follows-more W E all all' earlier earlier' [] f g h = tt
follows-more W E all all' earlier earlier' (e ∷ rest) f g h = (
  h.0,
  every-map (λ p. Stands p (if is_coinductive W e.of.trait then all else earlier)) (λ p. Stands p (if is_coinductive W e.of.trait then all' else earlier')) e.rule.premises
      (at (is_coinductive W e.of.trait)) h.1,
  follows-more W E all all' (earlier ++ e ∷ []) (earlier' ++ e ∷ []) rest f (λ p k. more p (stands-split p earlier (e ∷ []) k)) h.2,
)
  where
    at : (b : Bool) (p : Reference) → Stands p (if b then all else earlier) → Stands p (if b then all' else earlier')
    at true p k = f p k
    at false p k = g p k

    more : (p : Reference) → Stands p earlier ⊎ Stands p (e ∷ []) → Stands p (earlier' ++ e ∷ [])
    more p (inl k) = stands-more p earlier' (e ∷ []) (g p k)
    more p (inr k) = stands-after p earlier' (e ∷ []) k

follows-append : (W : World) (E : List Reference) (all earlier xs ys : List ProofEntry) → Follows W E all earlier xs → Follows W E all (earlier ++ xs) ys → Follows W E all earlier (xs ++ ys)
follows-append W E all earlier [] ys f g = subst (λ es. Follows W E all es ys) (append-nothing earlier) g
  where
    append-nothing : (es : List ProofEntry) → es ++ [] ≡ es
    append-nothing [] = refl
    append-nothing (e ∷ es) = ap (λ z. e ∷ z) (append-nothing es)
follows-append W E all earlier (x ∷ xs) ys f g = (
  f.0,
  f.1,
  follows-append W E all (earlier ++ x ∷ []) xs ys f.2 (subst (λ es. Follows W E all es ys) (sym (append_assoc earlier (x ∷ []) xs)) g),
)

pub joined : (W : World) (E : List Reference) (ps qs : List ProofEntry) → IsProof W E ps → Follows W E (ps ++ qs) ps qs → IsProof W E (ps ++ qs)
joined W E ps qs f g = follows-append W E (ps ++ qs) [] ps qs (follows-more W E ps (ps ++ qs) [] [] ps (λ p h. stands-more p ps qs h) (λ p h. h) f) g

-- one proof in which all of them stand
pub all-stand : (W : World) (E rs : List Reference) → Every (HasProof W E) rs → (ps : List ProofEntry) × IsProof W E ps × Every (λ r. Stands r ps) rs
all-stand W E [] h = ([], tt, tt)
all-stand W E (r ∷ rs) h = by h.0 (all-stand W E rs h.1)
  where
    by : HasProof W E r → (ps : List ProofEntry) × IsProof W E ps × Every (λ s. Stands s ps) rs → (ps : List ProofEntry) × IsProof W E ps × Every (λ s. Stands s ps) (r ∷ rs)
    by a b = (
      a.0 ++ b.0,
      joined W E a.0 b.0 a.1 (follows-more W E b.0 (a.0 ++ b.0) [] a.0 b.0 (λ p k. stands-after p a.0 b.0 k) (λ p k. absurd (nothing p k)) b.1),
      (stands-more r a.0 b.0 a.2, every-map (λ s. Stands s b.0) (λ s. Stands s (a.0 ++ b.0)) rs (λ s k. stands-after s a.0 b.0 k) b.2),
    )
      where
        nothing : (p : Reference) → Stands p [] → ⊥
        nothing p k = cc (k.1)

-- a rule whose premises have proofs gives a proof
pub by-rule : (W : World) (E : List Reference) (r : Reference) (u : Rule) → In u (rules W E r) → Every (HasProof W E) u.premises → HasProof W E r
by-rule W E r u h g = (
  a.0 ++ e ∷ [],
  joined W E a.0 (e ∷ []) a.1 (h, every-map (λ p. Stands p a.0) (λ p. Stands p (if is_coinductive W r.trait then a.0 ++ e ∷ [] else a.0)) u.premises (at (is_coinductive W r.trait)) a.2, tt),
  stands-after r a.0 (e ∷ []) (here r []),
)
  where
    e : ProofEntry
    e = record { of = r; rule = u }

    a : (ps : List ProofEntry) × IsProof W E ps × Every (λ s. Stands s ps) u.premises
    a = all-stand W E u.premises g

    at : (b : Bool) (p : Reference) → Stands p a.0 → Stands p (if b then a.0 ++ e ∷ [] else a.0)
    at true p k = stands-more p a.0 (e ∷ []) k
    at false p k = k

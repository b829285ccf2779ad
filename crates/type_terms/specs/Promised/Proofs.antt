-- Proofs: finite lists of trait references, each with one of its rule instances.
use Rattle.std.specs.Prelude.{◌≡◌, ℕ, if◌then◌else◌, List, [], ◌∷◌, ◌++◌, map, Some}
use Rattle.std.specs.List.{slice_get}
use Rattle.type_terms.specs.Promised.Worlds.{World, Reference}
use Rattle.type_terms.specs.Promised.Rules.{Rule, by_impl, rules, is_coinductive, strict_supertraits}

-- One step of a proof: a trait reference, with the rule instance that concludes it.
pub record ProofEntry : Type 0 where
  pub of : Reference
  pub rule : Rule

-- P holds of each entry of the list.
abbrev pub Every : {A : Type 0} → (A → Type 0) → List A → Type 0
Every P [] = Unit {0}
Every P (x ∷ xs) = P x × Every P xs

-- x is an entry of xs.
abbrev pub In : {A : Type 0} → A → List A → Type 0
In x xs = (k : ℕ) × (slice_get xs k ≡ Some x)

-- The proof concludes r: r is the trait reference of some entry.
abbrev pub Stands : Reference → List ProofEntry → Type 0
Stands r ps = In r (map (λ e. e.of) ps)

-- The condition on the entries in `left`, which are in `all` after `earlier`. Each entry has:
-- - a rule instance that concludes its trait reference, and
-- - premises that are concluded by earlier entries, or by any entries if its trait is coinductive.
abbrev pub Follows : World → List Reference → List ProofEntry → List ProofEntry → List ProofEntry → Type 0
Follows W E all earlier [] = Unit {0}
Follows W E all earlier (e ∷ left) =
    In e.rule (rules W E e.of)
    × Every (λ p. Stands p (if is_coinductive W e.of.trait then all else earlier)) e.rule.premises
    × Follows W E all (earlier ++ e ∷ []) left

-- The entries are a proof by the rules of W and the where-clauses E. For example, a proof of `V<u8>: Show` is:
-- - `u8: Show` by `impl Show for u8`
-- - `V<u8>: Show` by `impl<T> Show for V<T> where T: Show`
abbrev pub IsProof : World → List Reference → List ProofEntry → Type 0
IsProof W E ps = Follows W E ps [] ps

-- A proof that also concludes all supertraits of what it concludes. For example, with only
-- `trait Sup; trait Sub: Sup; impl Sub for u8`, `u8: Sub` has a proof, but no elaborated proof.
abbrev pub IsElaboratedProof : World → List Reference → List ProofEntry → Type 0
IsElaboratedProof W E ps = IsProof W E ps × Every (λ e. Every (λ s. Stands s ps) (strict_supertraits W e.of)) ps

-- Some elaborated proof concludes r.
abbrev pub HasElaboratedProof : World → List Reference → Reference → Type 0
HasElaboratedProof W E r = (ps : List ProofEntry) × IsElaboratedProof W E ps × Stands r ps

-- Some proof concludes r.
abbrev pub HasProof : World → List Reference → Reference → Type 0
HasProof W E r = (ps : List ProofEntry) × IsProof W E ps × Stands r ps

-- Some proof concludes r by the rule of impl i.
abbrev pub HasProofByImpl : World → List Reference → Reference → ℕ → Type 0
HasProofByImpl W E r i = (ps : List ProofEntry) × (e : ProofEntry) × IsProof W E ps × In e ps × (e.of ≡ r) × (e.rule.way ≡ by_impl i)

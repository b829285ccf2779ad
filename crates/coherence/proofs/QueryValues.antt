-- A query of the text at an index, as a value.
use Rattle.std.proofs.Common.{◌≡◌, ℕ, ◌+◌, ◌-◌, ◌<◌, ◌≤◌, List, length, map, subst, arith, get_or}
use Rattle.sessions.specs.TypeTerms.declared.CrateId.{CrateId}
use Rattle.sessions.specs.Promised.Subjects.{AsksProof, AsksRefutation}
use Rattle.sessions.specs.TextLanguage.Promised.Declarations.{Declarations, Question}
use Rattle.sessions.specs.TextTables.Numbered.{IsNumbered}
use Rattle.sessions.specs.TextTables.Views.{asked_of}
use Rattle.sessions.specs.TextTables.declared.declared.Asked.{Asked}
use Rattle.sessions.specs.TextTables.declared.declared.Asked.TheVariants.{Prove, Refute}
use Rattle.coherence.specs.Queries.{IsProveQuery, IsRefuteQuery}
use Rattle.coherence.proofs.Places.{asked-at, proof-asked, refutation-asked}

pub prove-query : (d : Declarations) (asks : List Asked) → map asked_of asks ≡ map (λ (q : Question). (q.is_refute, q.asker)) d.questions → IsNumbered d → (n : ℕ) → 1 ≤ n → n - 1 < length d.questions
    → (o : Asked) (c : CrateId) → get_or asks (n - 1) o ≡ Prove c → IsProveQuery d (record { crate_id = c; number = n })
prove-query d asks e i n one within o c h =
    let there = asked-at d asks e (n - 1) within o (Prove c) h in
    let same : n - 1 + 1 ≡ n = omega (arith, one) in
    record {
      declared = subst (λ k. k < length d.crates) there.3 (i.questions (n - 1) there.0 there.1);
      asks = (there.0, subst (λ m. AsksProof d c.index m there.0) same (proof-asked d c.index (n - 1) there.0 there.1 there.3 there.2));
    }

pub refute-query : (d : Declarations) (asks : List Asked) → map asked_of asks ≡ map (λ (q : Question). (q.is_refute, q.asker)) d.questions → IsNumbered d → (n : ℕ) → 1 ≤ n → n - 1 < length d.questions
    → (o : Asked) (c : CrateId) → get_or asks (n - 1) o ≡ Refute c → IsRefuteQuery d (record { crate_id = c; number = n })
refute-query d asks e i n one within o c h =
    let there = asked-at d asks e (n - 1) within o (Refute c) h in
    let same : n - 1 + 1 ≡ n = omega (arith, one) in
    record {
      declared = subst (λ k. k < length d.crates) there.3 (i.questions (n - 1) there.0 there.1);
      asks = (there.0, subst (λ m. AsksRefutation d c.index m there.0) same (refutation-asked d c.index (n - 1) there.0 there.1 there.3 there.2));
    }

-- Crates, checks and questions by their places.
use Rattle.std.proofs.Common.{◌≡◌, ℕ, zero, suc, ◌+◌, ◌-◌, ◌<◌, Bool, true, false, List, [], ◌∷◌, map, length, Some, refl, sym, ap, ◌∙◌, subst, arith, get_or}
use Rattle.std.specs.List.{slice_get}
use Rattle.std.specs.Option.{option_map}
use Rattle.std.proofs.lemmas.List.{length-map}
use Rattle.std.proofs.lemmas.Option.{same_Some, slice_get-get_or, slice_get-map, slice_get_within}
use Rattle.sessions.specs.TypeTerms.declared.CrateId.{CrateId}
use Rattle.sessions.specs.Promised.Subjects.{Asks, AsksProof, AsksRefutation}
use Rattle.sessions.specs.TextLanguage.Promised.Declarations.{Declarations, NamedCrate, Question}
use Rattle.sessions.specs.TextTables.Numbered.{IsNumbered}
use Rattle.sessions.specs.TextTables.Views.{numbers_of, asked_of, asker_of, is_refute, check_of}
use Rattle.sessions.specs.TextTables.declared.declared.Asked.{Asked}
use Rattle.sessions.specs.TextTables.declared.declared.Check.{Check}

-- an element of a list has one that stands for it
pub map-get : {A B C : Type 0} (f : A → C) (g : B → C) (xs : List A) (ys : List B) → map f xs ≡ map g ys → (k : ℕ) (x : A) → slice_get xs k ≡ Some x → (y : B) × (slice_get ys k ≡ Some y) × (f x ≡ g y)
map-get f g [] ys e k x h = absurd cc
map-get f g (x ∷ xs) [] e k z h = absurd cc
map-get f g (x ∷ xs) (y ∷ ys) e zero z h = (y, refl, ap f (sym (same_Some x z h)) ∙ first e)
  where
    first : f x ∷ map f xs ≡ g y ∷ map g ys → f x ≡ g y
    first p = cc
map-get f g (x ∷ xs) (y ∷ ys) e (suc k) z h = map-get f g xs ys (rest e) k z h
  where
    rest : f x ∷ map f xs ≡ g y ∷ map g ys → map f xs ≡ map g ys
    rest p = cc

-- a crate's number is its place
pub crate-number : (d : Declarations) (ids : List CrateId) (k : ℕ) (id : CrateId) → IsNumbered d → numbers_of ids ≡ map (λ c. c.item.name) d.crates → slice_get ids k ≡ Some id → id.index ≡ k
crate-number d ids k id n e h =
    let at = map-get (λ (i : CrateId). i.index) (λ (c : NamedCrate). c.item.name) ids d.crates e k id h in
    at.2 ∙ (n.crates k at.0 at.1).0

-- what a question asks
pub question-at : (d : Declarations) (asks : List Asked) → map asked_of asks ≡ map (λ (q : Question). (q.is_refute, q.asker)) d.questions → (k : ℕ) (a : Asked) → slice_get asks k ≡ Some a
    → (q : Question) × (slice_get d.questions k ≡ Some q) × (asked_of a ≡ (q.is_refute, q.asker))
question-at d asks e k a h = map-get asked_of (λ (q : Question). (q.is_refute, q.asker)) asks d.questions e k a h

pub asked-at : (d : Declarations) (asks : List Asked) → map asked_of asks ≡ map (λ (q : Question). (q.is_refute, q.asker)) d.questions → (k : ℕ) → k < length d.questions → (o a : Asked) → get_or asks k o ≡ a
    → (q : Question) × (slice_get d.questions k ≡ Some q) × (q.is_refute ≡ is_refute a) × (q.asker ≡ asker_of a)
asked-at d asks e k within o a h =
    let same : length asks ≡ length d.questions = sym (length-map asks asked_of) ∙ ap length e ∙ length-map d.questions (λ (q : Question). (q.is_refute, q.asker)) in
    let there = question-at d asks e k a (slice_get-get_or asks k o (omega arith) ∙ ap Some h) in
    (there.0, there.1, ap (λ (p : Bool × ℕ). p.0) (sym there.2), ap (λ (p : Bool × ℕ). p.1) (sym there.2))

-- an element of a mapped list
pub entry-of : {A B : Type 0} (f : A → B) (xs : List A) (ys : List B) → map f xs ≡ ys → (k : ℕ) (x : A) → slice_get xs k ≡ Some x → slice_get ys k ≡ Some (f x)
entry-of {B = B} f xs ys e k x h = subst (λ (zs : List B). slice_get zs k ≡ Some (f x)) e (slice_get-map f xs k ∙ ap (option_map f) h)

-- what is asked at a place, if it is known which question stands there
pub asking : (d : Declarations) (asks : List Asked) → map asked_of asks ≡ map (λ (q : Question). (q.is_refute, q.asker)) d.questions → (k : ℕ) (o a : Asked) → get_or asks k o ≡ a
    → (q : Question) → slice_get d.questions k ≡ Some q → q.is_refute ≡ is_refute a
asking d asks e k o a h q at =
    let there = asked-at d asks e k (slice_get_within d.questions k q at) o a h in
    ap (λ (x : Question). x.is_refute) (same_Some q there.0 (sym at ∙ there.1)) ∙ there.2

asks-at : (d : Declarations) (c k : ℕ) (q : Question) → slice_get d.questions k ≡ Some q → q.asker ≡ c → Asks d c (k + 1) q
asks-at d c k q at e =
    let same : k + 1 - 1 ≡ k = omega arith in
    record { question = record { counted = omega arith; there = ap (slice_get d.questions) same ∙ at }; asker = e }

pub proof-asked : (d : Declarations) (c k : ℕ) (q : Question) → slice_get d.questions k ≡ Some q → q.asker ≡ c → q.is_refute ≡ false → AsksProof d c (k + 1) q
proof-asked d c k q at e r = record { asks = asks-at d c k q at e; proves = r }

pub refutation-asked : (d : Declarations) (c k : ℕ) (q : Question) → slice_get d.questions k ≡ Some q → q.asker ≡ c → q.is_refute ≡ true → AsksRefutation d c (k + 1) q
refutation-asked d c k q at e r = record { asks = asks-at d c k q at e; refutes = r }

-- what is checked at a place
pub check-at : (d : Declarations) (xs : List Check) → map check_of xs ≡ d.checks → (k : ℕ) → k < length d.checks → (o a : Check) → get_or xs k o ≡ a → slice_get d.checks k ≡ Some (check_of a)
check-at d xs e k within o a h =
    let same : length xs ≡ length d.checks = sym (length-map xs check_of) ∙ ap length e in
    entry-of check_of xs d.checks e k a (slice_get-get_or xs k o (omega arith) ∙ ap Some h)

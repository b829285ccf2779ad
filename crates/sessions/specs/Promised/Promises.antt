-- What the answers of a session promise.
use Rattle.std.specs.Prelude.{◌≡◌, ℕ, zero, suc, Bool, true, false, IsTrue, not, List, [], map}
use Rattle.type_terms.specs.Promised.Answers.{AtMostOne, is_variable}
use Rattle.type_terms.specs.Promised.Erased.{erased_world, erased_reference}
use Rattle.type_terms.specs.Promised.Label.{Label, Sort, fn_ptr, principal, static}
use Rattle.type_terms.specs.Promised.Proofs.{HasProof, Every}
use Rattle.type_terms.specs.Promised.Rules.{rules, clause_rules}
use Rattle.type_terms.specs.Promised.Trees.{Trees, some_node}
use Rattle.type_terms.specs.Promised.Worlds.{World, Reference, view_of}
use Rattle.text_language.specs.Promised.Declarations.{Declarations, Question, world_of}
use Rattle.type_terms.specs.Promised.Questions.{FitKinds, filled, ProveAnswer, yes, unproved, maybe, HoldUnknownsAlone, SolutionBy, IsProveAnswer, RefuteAnswer, IsRefuteAnswer}
use Rattle.type_terms.specs.Promised.Verdicts.{Verdict, IsVerdict}
use Rattle.text_lowering.specs.Promised.Questions.{variable_kinds}
use Rattle.sessions.specs.Promised.OwnValues.{HasNoParameter, SpeaksOfOwn}
use Rattle.sessions.specs.Promised.Together.{all_asked, SolutionOfAll, AreProved, AreRefuted}

-- The view that answers of crate c are about: all that it sees, up to lifetimes.
abbrev pub view_in : Declarations → ℕ → World
view_in d c = view_of (erased_world (world_of d)) c

-- The verdict of crate c, by what it sees of the text.
abbrev pub IsVerdictOf : ℕ → Declarations → ℕ → Verdict → Type 0
IsVerdictOf limit d c v = IsVerdict limit (view_in d c) c v

-- Values are forced where there is no choice: if the trait reference has one solution alone, the values of a yes are that solution.
abbrev pub AreForced : World → List Sort → List Reference → Reference → ProveAnswer → Type 0
AreForced V ks E r (yes ts) =
    HoldUnknownsAlone ts → (s : SolutionBy (HasProof V E) ks r) → ((x : SolutionBy (HasProof V E) ks r) → x.values ≡ s.values) → ts ≡ s.values
AreForced V ks E r a = Unit {0}

-- Each solution is these values, with terms us for the variables that they leave open, of kinds js.
abbrev pub CoverSolutions : World → List Sort → List Reference → List Reference → List Trees → Type 0
CoverSolutions V ks E rs ts =
    (s : SolutionOfAll (HasProof V E) ks rs) → (js : List Sort) × (us : List Trees) × FitKinds js us × (map (filled js us) ts ≡ s.values)

-- The answer to a question without parameters covers its solutions. Those of a maybe are its values, and without where-clauses so are those
-- of a yes, and an unproved question has none.
abbrev pub CoversSolutions : World → List Sort → List Reference → List Reference → ProveAnswer → Type 0
CoversSolutions V ks E rs (yes ts) = E ≡ [] → Every HasNoParameter rs → CoverSolutions V ks E rs ts
CoversSolutions V ks E rs unproved = E ≡ [] → Every HasNoParameter rs → SolutionOfAll (HasProof V E) ks rs → ⊥
CoversSolutions V ks E rs (maybe ts) = Every HasNoParameter rs → CoverSolutions V ks E rs ts

-- Every chain of premises from r has fewer than n steps.
abbrev pub EndsWithin : ℕ → World → List Reference → Reference → Type 0
EndsWithin zero W E r = ⊥
EndsWithin (suc n) W E r = Every (λ u. Every (λ p. EndsWithin n W E p) u.premises) (rules W E r)

-- The label is that of a lifetime, a `fn` or the principal of a `dyn`. Terms without such a label are equal up to lifetimes only if they are
-- equal.
abbrev pub has_lifetimes : Label → Bool
has_lifetimes static = true
has_lifetimes (fn_ptr _) = true
has_lifetimes (principal _ _) = true
has_lifetimes _ = false

-- At r, and at every trait reference that chains of premises lead to:
-- - at most one impl or built-in rule has premises with proofs, and
-- - if lifetimes occur, at most one where-clause is it, counting supertraits of where-clauses. Otherwise these count as one.
abbrev pub HasFewRules : ℕ → World → List Reference → Reference → Type 0
HasFewRules zero W E r = ⊥
HasFewRules (suc n) W E r =
    AtMostOne W E (rules W [] r)
    × (some_node has_lifetimes r.args ≡ true → AtMostOne W E (clause_rules W r 0 E))
    × Every (λ u. Every (λ p. HasFewRules n W E p) u.premises) (rules W E r)

-- The answer for a trait reference without variables, whose chains of premises have fewer steps than the limit:
-- - `unproved`: it has no proof.
-- - `maybe`: it has a proof, and at some step there is more than one rule.
abbrev pub IsDecided : ℕ → World → List Reference → Reference → ProveAnswer → Type 0
IsDecided limit V E r (yes ts) = Unit {0}
IsDecided limit V E r unproved = IsTrue (not (some_node is_variable r.args)) → EndsWithin limit V E r → HasProof V E r → ⊥
IsDecided limit V E r (maybe ts) = IsTrue (not (some_node is_variable r.args)) → EndsWithin limit V E r → HasProof V E r × (HasFewRules limit V E r → ⊥)

-- The answer to a question about one trait reference alone.
abbrev pub IsProvedAlone : ℕ → World → List Sort → List Reference → Reference → ProveAnswer → Type 0
IsProvedAlone limit V ks E r a = IsProveAnswer limit V ks E r a × AreForced V ks E r a × IsDecided limit V E r a

-- The answer to a `prove` question, by what the asking crate sees of the text and the question's where-clauses; its values name only what
-- that crate sees, and their open places are unknowns and the question's parameters. Of one trait reference alone, without variables and
-- within the limit, `unproved` and `maybe` tell whether there is a proof.
abbrev pub IsProved : ℕ → Declarations → Question → ProveAnswer → Type 0
IsProved limit d q a =
    let V = view_in d q.asker in
    let ks = variable_kinds q in
    let E = map erased_reference q.clauses in
    AreProved V ks E (all_asked q) a × SpeaksOfOwn V E (all_asked q) a × CoversSolutions V ks E (all_asked q) a
    × (q.further ≡ [] → IsProvedAlone limit V ks E (erased_reference q.asked) a)

-- The answer to a `refute` query, by what its crate sees of the text. `unrefuted` says something of one trait reference alone.
abbrev pub IsRefutation : ℕ → Declarations → Question → RefuteAnswer → Type 0
IsRefutation limit d q a =
    let V = view_in d q.asker in
    AreRefuted V q.asker (variable_kinds q) (all_asked q) a
    × (q.further ≡ [] → IsRefuteAnswer limit V q.asker (variable_kinds q) (erased_reference q.asked) a)

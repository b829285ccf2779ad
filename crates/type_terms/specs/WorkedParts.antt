-- Examples of parts: a small text, what a query needs of it, and parts that lack something.
use Rattle.std.specs.Prelude.{◌≡◌, Bool, true, false, ◌||◌, ◌==◌, List, [], ◌∷◌, length}
use Rattle.type_terms.specs.Promised.Label.{adt, bool}
use Rattle.type_terms.specs.Promised.Trees.{leaf}
use Rattle.type_terms.specs.Promised.Worlds.{World, StructDecl, TraitDecl, ImplDecl, Reference}
use Rattle.type_terms.specs.Promised.Rules.{rules, asked, is_coinductive, strict_supertraits}
use Rattle.type_terms.specs.Promised.Proofs.{HasProof}
use Rattle.type_terms.specs.Promised.Walks.{is_known_in}
use Rattle.type_terms.specs.Promised.Answers.{is_bounded}
use Rattle.type_terms.specs.Worked.{base, first, struct, trait_of, auto_trait_of, impl_of, u8, T, applied}
use Rattle.type_terms.specs.Parts.{KeptNames, cut_down, keeps_enough, is_closed_list, AnswersAlike}

-- `crate base; struct V<T>(T); struct L; trait Sup; trait Show: Sup; trait Other; auto trait Safe; impl Show for u8;
-- impl<T> Show for V<T> where T: Show; impl Sup for u8; impl<T> Sup for V<T> where T: Sup; impl Other for u8; impl Other for L; impl Safe for V<u8>`.
abbrev pub whole : World
whole = record {
  crates = record { name = base; uses = [] } ∷ [];
  structs = struct 10 base (T ∷ []) ∷ struct 11 base [] ∷ [];
  traits = trait_of 20 base [] ∷ trait_of 21 base (asked 20 T ∷ []) ∷ trait_of 22 base [] ∷ auto_trait_of 23 base ∷ [];
  impls = impl_of 100 base 0 (asked 21 u8) []
      ∷ impl_of 101 base 1 (asked 21 (applied 10 T)) (asked 21 T ∷ [])
      ∷ impl_of 102 base 0 (asked 20 u8) []
      ∷ impl_of 103 base 1 (asked 20 (applied 10 T)) (asked 20 T ∷ [])
      ∷ impl_of 104 base 0 (asked 22 u8) []
      ∷ impl_of 105 base 0 (asked 22 (leaf (adt 11))) []
      ∷ impl_of 106 base 0 (asked 23 (applied 10 u8)) []
      ∷ [];
}

-- The struct V, and the traits Sup and Show.
abbrev pub few : KeptNames
few = record { structs = λ s. s == 10; traits = λ t. (t == 20) || (t == 21) }

-- `V<u8>: Show` and everything that it leads to.
abbrev pub asked_of_show : List Reference
asked_of_show = asked 21 (applied 10 u8) ∷ asked 21 u8 ∷ asked 20 (applied 10 u8) ∷ asked 20 u8 ∷ []

-- The impls of Show and Sup.
abbrev pub show_and_sup : ImplDecl → Bool
show_and_sup i = (i.header.trait == 20) || (i.header.trait == 21)

-- Four of the seven impls are enough for `V<u8>: Show`.
abbrev pub FourImplsAreEnough : Type 0
FourImplsAreEnough =
    let part = cut_down few show_and_sup [] whole in
    (length part.impls ≡ 4) × (keeps_enough few show_and_sup (λ n. n) whole asked_of_show ≡ true) × (is_closed_list part asked_of_show ≡ true)
    × AnswersAlike whole part base (asked 21 (applied 10 u8))

-- Without the impls for V they are not enough. Without `u8: Show` the list is not closed.
abbrev pub TooFew : Type 0
TooFew =
    (keeps_enough few (λ i. i.name == 100) (λ n. n) whole asked_of_show ≡ false)
    × (is_closed_list whole (asked 21 (applied 10 u8) ∷ asked 20 (applied 10 u8) ∷ asked 20 u8 ∷ []) ≡ false)

-- `V<bool>: Safe` has no rule, because `impl Safe for V<u8>` disables the built-in rule. Without this impl it has one.
-- So the part must have the impl.
abbrev pub AnImplThatConcludesNothingIsNeeded : Type 0
AnImplThatConcludesNothingIsNeeded =
    let K : KeptNames = record { structs = λ s. s == 10; traits = λ t. t == 23 } in
    let r = asked 23 (applied 10 (leaf bool)) in
    (rules whole [] r ≡ []) × (length (rules (cut_down K (λ i. false) [] whole) [] r) ≡ 1)
    × (keeps_enough K (λ i. false) (λ n. n) whole (r ∷ []) ≡ false) × (keeps_enough K (λ i. i.name == 106) (λ n. n) whole (r ∷ []) ≡ true)

-- `struct L; impl Loop for L where L: Loop`, where the trait is `auto trait Loop` or `trait Loop`.
abbrev pub looping : TraitDecl → World
looping t = record {
  crates = record { name = base; uses = [] } ∷ [];
  structs = struct 10 base [] ∷ [];
  traits = t ∷ [];
  impls = impl_of 100 base 0 (asked 20 (leaf (adt 10))) (asked 20 (leaf (adt 10)) ∷ []) ∷ [];
}

-- Both worlds have the same rules for `L: Loop`, no supertraits, and it is knowable in both. But only the auto trait
-- has a proof, because a proof of an auto trait may use itself. So the same rules are not enough for a part.
abbrev pub SameRulesAreNotEnough : Type 0
SameRulesAreNotEnough =
    let V = looping (auto_trait_of 20 base) in
    let P = looping (trait_of 20 base []) in
    let r = asked 20 (leaf (adt 10)) in
    (rules P [] r ≡ rules V [] r) × (strict_supertraits P r ≡ strict_supertraits V r) × (is_known_in P base r ≡ is_known_in V base r)
    × (is_closed_list V (r ∷ []) ≡ true) × HasProof V [] r × (HasProof P [] r → ⊥)

-- `trait Show` of base, with `struct L` of base or without it.
abbrev pub with_structs : List StructDecl → World
with_structs ss = record { crates = record { name = base; uses = [] } ∷ []; structs = ss; traits = trait_of 20 base [] ∷ []; impls = [] }

-- `L: Show` has no rule and no supertraits, and is not knowable to first, whether L is declared or not. But it is
-- bounded only if L is declared. So the part must have the names.
abbrev pub NamesHaveToStay : Type 0
NamesHaveToStay =
    let V = with_structs (struct 10 base [] ∷ []) in
    let P = with_structs [] in
    let r = asked 20 (leaf (adt 10)) in
    (rules P [] r ≡ rules V [] r) × (strict_supertraits P r ≡ strict_supertraits V r) × (is_known_in P first r ≡ is_known_in V first r)
    × (is_coinductive P 20 ≡ is_coinductive V 20) × (is_bounded 1 V first r ≡ true) × (is_bounded 1 P first r ≡ false)

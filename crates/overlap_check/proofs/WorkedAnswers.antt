-- Two texts in one set, and answers to questions.
use Rattle.std.proofs.Common.{◌≡◌, ℕ, zero, suc, true, List, [], ◌∷◌, refl, ap, sym, ◌∙◌, subst, ◌⊎◌, inl, inr, IsTrue, filter, ◌==◌}
use Rattle.type_terms.specs.Promised.Label.{of_type, adt, bool, value, placeholder}
use Rattle.type_terms.specs.Promised.Trees.{Trees, none, tree, leaf}
use Rattle.type_terms.specs.Promised.Worlds.{World, ImplDecl, StructDecl, Reference, sees, view_of}
use Rattle.type_terms.specs.Promised.Rules.{asked, by_impl, by_clause, Rule}
use Rattle.type_terms.specs.Promised.Proofs.{In, HasProof, HasProofByImpl}
use Rattle.type_terms.specs.Promised.Answers.{is_closed, AtMostOne, IsUnambiguous}
use Rattle.type_terms.proofs.WorkedProofs.{no-rule, one-rule, one-way}
use Rattle.type_terms.specs.Promised.Core.{core_world}
use Rattle.type_terms.specs.Promised.Renumbering.{Renumbering, View, HoldsView, renumbered_struct}
use Rattle.type_terms.specs.Promised.LinkedSet.{IsOfAnAnsweredCrate, LinkedSet}
use Rattle.type_terms.specs.Worked.{beside_core, trait_of, base, first, second, u8, to, struct, impl_of, show_world, applied, text_of_a_user, set_of_two_users}
use Rattle.type_terms.proofs.Members.{in-nothing, in-append, in-cases, in-filter, filter-in, self-number}
use Rattle.type_terms.proofs.TwoTexts.{two-texts}
use Rattle.type_terms.specs.Promised.Verdicts.{IsAccepted}
use Rattle.overlap_check.specs.Worked.{TwoTextsAccepted, ValuesOfBothKinds, ParametersStandForThemselves}
use Rattle.overlap_check.proofs.Contracts.{apart-cleared, headline}
use Rattle.overlap_check.proofs.Computing.{keeps-by, no-pair}

user-accepted : IsAccepted text_of_a_user 2
user-accepted = record {
  keeps = keeps-by text_of_a_user 2 refl;
  cleared = λ i j p. apart-cleared text_of_a_user 2 i j (no-pair text_of_a_user 2 refl i j p);
}

-- where the struct of the text is a struct of crate h, the text's crate 2 is h
abbrev the-struct : Renumbering → StructDecl
the-struct ρ = renumbered_struct ρ (struct 10 2 [])

abbrev the-view : Renumbering → World
the-view ρ = view_of set_of_two_users (ρ.crates.to 2)

asker-of : (ρ : Renumbering) (n : ℕ) (S : StructDecl) → ρ.structs.to 10 ≡ n → HoldsView set_of_two_users (record { numbers = ρ; asker = 2; world = text_of_a_user })
    → filter (λ (x : StructDecl). x.name == n) set_of_two_users.structs ≡ S ∷ [] → ρ.crates.to 2 ≡ S.home
asker-of ρ n S e s only =
    by (in-cases (the-struct ρ) S [] (subst (In (the-struct ρ)) only (filter-in (λ (y : StructDecl). y.name == n) set_of_two_users.structs (the-struct ρ) in-set (subst (λ m. (m == n) ≡ true) (sym e) (self-number n)))))
  where
    named : In (the-struct ρ) (filter (λ (y : StructDecl). y.name == ρ.structs.to 10) (the-view ρ).structs)
    named = subst (In (the-struct ρ)) (sym (s.renumbers.same_structs 10)) (0, refl)

    in-set : In (the-struct ρ) set_of_two_users.structs
    in-set = (in-filter (λ (y : StructDecl). sees set_of_two_users (ρ.crates.to 2) y.home) set_of_two_users.structs (the-struct ρ) (in-filter (λ (y : StructDecl). y.name == ρ.structs.to 10) (the-view ρ).structs (the-struct ρ) named).0).0

    by : (S ≡ the-struct ρ) ⊎ In (the-struct ρ) [] → ρ.crates.to 2 ≡ S.home
    by (inl q) = sym (ap (λ (y : StructDecl). y.home) q)
    by (inr q) = absurd (in-nothing (the-struct ρ) q)

abbrev a-impl : ImplDecl
a-impl = impl_of 100 first 0 (asked 20 (leaf (adt 10))) []

abbrev b-impl : ImplDecl
b-impl = impl_of 101 second 0 (asked 20 (leaf (adt 11))) []

abbrev at : Renumbering → View
at ρ = record { numbers = ρ; asker = 2; world = text_of_a_user }

module _ (ρ σ : Renumbering) (e : ρ.structs.to 10 ≡ 10) (f : σ.structs.to 10 ≡ 11) where
  abbrev views : List View
  views = record { numbers = ρ; asker = 2; world = text_of_a_user } ∷ record { numbers = σ; asker = 2; world = text_of_a_user } ∷ []

  two-of : LinkedSet set_of_two_users views (λ n. n) → (r : Reference) → IsTrue (is_closed r.args) → (n k : ℕ) → HasProofByImpl set_of_two_users [] r n → HasProofByImpl set_of_two_users [] r k → n ≡ k
  two-of l = (headline set_of_two_users views (λ n. n) l answered ok).one_impl
    where
      own : (i : ImplDecl) → (a-impl ≡ i) ⊎ In i (b-impl ∷ []) → IsOfAnAnsweredCrate views i
      own i (inl q) = inr (at ρ, (0, refl), (asker-of ρ 10 (struct 10 first []) e l.joined.as_answered.0 refl ∙ ap (λ (x : ImplDecl). x.home) q))
      own i (inr q) = last (in-cases i b-impl [] q)
        where
          last : (b-impl ≡ i) ⊎ In i [] → IsOfAnAnsweredCrate views i
          last (inl p) = inr (at σ, (1, refl), (asker-of σ 11 (struct 11 second []) f l.joined.as_answered.1.0 refl ∙ ap (λ (x : ImplDecl). x.home) p))
          last (inr p) = absurd (in-nothing i p)

      either : (i : ImplDecl) → In i core_world.impls ⊎ In i (a-impl ∷ b-impl ∷ []) → IsOfAnAnsweredCrate views i
      either i (inl h) = inl h
      either i (inr h) = own i (in-cases i a-impl (b-impl ∷ []) h)

      answered : (i : ImplDecl) → In i set_of_two_users.impls → IsOfAnAnsweredCrate views i
      answered i h = either i (in-append i core_world.impls (a-impl ∷ b-impl ∷ []) h)

      accepted-at : (v : View) → v.world ≡ text_of_a_user → v.asker ≡ 2 → IsAccepted v.world v.asker
      accepted-at v p q = subst (λ c. IsAccepted v.world c) (sym q) (subst (λ V. IsAccepted V 2) (sym p) user-accepted)

      ok : (v : View) → In v views → IsAccepted v.world v.asker
      ok v h = by (in-cases v (at ρ) (at σ ∷ []) h)
        where
          rest : (record { numbers = σ; asker = 2; world = text_of_a_user } ≡ v) ⊎ In v [] → IsAccepted v.world v.asker
          rest (inl p) = accepted-at v (sym (ap (λ (x : View). x.world) p)) (sym (ap (λ (x : View). x.asker) p))
          rest (inr p) = absurd (in-nothing v p)

          by : (record { numbers = ρ; asker = 2; world = text_of_a_user } ≡ v) ⊎ In v (record { numbers = σ; asker = 2; world = text_of_a_user } ∷ []) → IsAccepted v.world v.asker
          by (inl p) = accepted-at v (sym (ap (λ (x : View). x.world) p)) (sym (ap (λ (x : View). x.asker) p))
          by (inr p) = rest (in-cases v (at σ) [] p)

pub two-texts-accepted : TwoTextsAccepted
two-texts-accepted = (user-accepted, (two-of two-texts.0 two-texts.1 two-texts.2 two-texts.3 two-texts.4))

-- ---- questions
abbrev both_kinds : World
both_kinds = beside_core [] (trait_of 20 base [] ∷ []) (impl_of 100 base 0 (to 20 u8 (tree bool none (leaf (value 4)))) [] ∷ [])

pub values-of-both-kinds : ValuesOfBothKinds
values-of-both-kinds = (
  ((refl, refl), ((refl, refl), tt)),
  both-proved,
  λ _. record { values = leaf bool ∷ leaf (value 4) ∷ []; fitting = ((refl, refl), ((refl, refl), tt)); closed = (refl, (refl, tt)); proved = both-proved },
)
  where
    both-proved : HasProof both_kinds [] (to 20 u8 (tree bool none (leaf (value 4))))
    both-proved = (
      record { of = to 20 u8 (tree bool none (leaf (value 4))); rule = record { way = by_impl 100; premises = [] } } ∷ [],
      ((0, refl), tt, tt),
      (0, refl),
    )

abbrev P : Trees
P = leaf (placeholder of_type 0)

decided : IsUnambiguous 8 show_world [] (asked 20 (applied 10 u8))
decided = (refl, (one-way show_world [] _, (((one-way show_world [] _, (tt, tt)), tt), tt)))

proved-u8 : HasProof show_world [] (asked 20 (applied 10 u8))
proved-u8 = (
  record { of = asked 20 u8; rule = record { way = by_impl 101; premises = [] } }
      ∷ record { of = asked 20 (applied 10 u8); rule = record { way = by_impl 100; premises = asked 20 u8 ∷ [] } }
      ∷ [],
  ((0, refl), tt, ((0, refl), ((0, refl), tt), tt)),
  (1, refl),
)

by-clause : HasProof show_world (asked 20 P ∷ []) (asked 20 (applied 10 P))
by-clause = (
  record { of = asked 20 P; rule = record { way = by_clause 0; premises = [] } }
      ∷ record { of = asked 20 (applied 10 P); rule = record { way = by_impl 100; premises = asked 20 P ∷ [] } }
      ∷ [],
  ((0, refl), tt, ((0, refl), ((0, refl), tt), tt)),
  (1, refl),
)

pub parameters-stand : ParametersStandForThemselves
parameters-stand = (
  (tt, by-clause, λ _. record { values = []; fitting = tt; closed = tt; proved = by-clause }),
  (λ d p. no-rule show_world [] (asked 20 P) refl (one-rule show_world [] (asked 20 (applied 10 P)) (record { way = by_impl 100; premises = asked 20 P ∷ [] }) refl p).0),
  (λ m. m decided),
  (λ u. u decided proved-u8),
)

-- By what a crate sees of a text, nothing but the built-in rule concludes `Sized`.
use Rattle.std.proofs.Common.{◌≡◌, ◌==◌, ℕ, Bool, true, false, List, filter, Option, Ok, refl, sym, ap, ◌∙◌, subst}
use Rattle.std.specs.List.{slice_get}
use Rattle.std.specs.Option.{option_map_or}
use Rattle.std.proofs.lemmas.Bool.{eqb-true}
use Rattle.type_terms.specs.Promised.Worlds.{TraitDecl, ImplDecl, sees, traits_named}
use Rattle.type_terms.specs.Promised.Proofs.{In}
use Rattle.type_terms.specs.Promised.Rules.{is_auto, sized}
use Rattle.type_terms.proofs.Members.{in-filter, some-member}
use Rattle.type_terms.proofs.BooleanBasics.{true-false}
use Rattle.text_language.specs.Promised.Declarations as text
use Rattle.text_language.specs.Promised.Declarations.{NamedTrait, NamedImpl, world_of}
use Rattle.text_language.specs.Text.{TextGives}
use Rattle.candidate_model.specs.Solver.{SizedIsBuiltIn}
use Rattle.text_lowering.specs.Promised.SeenWorlds.{plain_trait, plain_impl, plainly_seen_from}
use Rattle.sessions.proofs.FormedViews.{each-in, map-in}
use Rattle.sessions.proofs.KeptTexts.{AllKept, HeaderKept, texts-are-kept}

module _ (bytes : List ℕ) (d : text.Declarations) (h : TextGives bytes (Ok d)) (c : ℕ) where
  kept : AllKept d
  kept = texts-are-kept bytes d h

  no-impls : (i : ImplDecl) → In i (plainly_seen_from d c).impls → (i.header.trait == sized) ≡ false
  no-impls i stands =
      let a = map-in plain_impl (filter (λ (x : ImplDecl). sees (world_of d) c x.home) (world_of d).impls) i stands in
      let b = in-filter (λ (x : ImplDecl). sees (world_of d) c x.home) (world_of d).impls a.0 a.1 in
      let n = map-in (λ (x : NamedImpl). x.item) d.impls a.0 b.0 in
      subst (λ (z : ImplDecl). (z.header.trait == sized) ≡ false) (sym a.2)
      (subst (λ (z : ImplDecl). (z.header.trait == sized) ≡ false) (sym n.2) (each-in (HeaderKept d) d.impls kept.kept.headers n.0 n.1).not_sized)

  -- the first trait of a text is that of `core`
  abbrev says_auto : Option NamedTrait → Bool
  says_auto o = option_map_or (λ (x : NamedTrait). x.item.is_auto) o true

  not-auto : (n : NamedTrait) → In n d.traits → (n.item.name == sized) ≡ true → n.item.is_auto ≡ false
  not-auto n i e =
      let first : i.0 ≡ 0 = sym (kept.well.trait_numbers i.0 n i.1) ∙ eqb-true n.item.name sized e in
      sym (ap says_auto i.1) ∙ ap (λ k. says_auto (slice_get d.traits k)) first ∙ ap (λ ts. says_auto (slice_get ts 0)) kept.kept.traits.1

  no-auto : is_auto (plainly_seen_from d c) sized ≡ false
  no-auto = by (is_auto (plainly_seen_from d c) sized) refl
    where
      by : (b : Bool) → is_auto (plainly_seen_from d c) sized ≡ b → b ≡ false
      by false e = refl
      by true e =
          let x = some-member (λ (y : TraitDecl). y.is_auto) (traits_named (plainly_seen_from d c) sized) e in
          let g = in-filter (λ (y : TraitDecl). y.name == sized) (plainly_seen_from d c).traits x.0 x.1 in
          let a = map-in plain_trait (filter (λ (y : TraitDecl). sees (world_of d) c y.home) (world_of d).traits) x.0 g.0 in
          let b = in-filter (λ (y : TraitDecl). sees (world_of d) c y.home) (world_of d).traits a.0 a.1 in
          let n = map-in (λ (y : NamedTrait). y.item) d.traits a.0 b.0 in
          let named : (n.0.item.name == sized) ≡ true = sym (ap (λ (y : TraitDecl). y.name == sized) n.2) ∙ sym (ap (λ (y : TraitDecl). y.name == sized) a.2) ∙ g.1 in
          let auto : n.0.item.is_auto ≡ true = sym (ap (λ (y : TraitDecl). y.is_auto) n.2) ∙ sym (ap (λ (y : TraitDecl). y.is_auto) a.2) ∙ x.2 in
          absurd (true-false (sym auto ∙ not-auto n.0 n.1 named))

  pub sized-alone : SizedIsBuiltIn (plainly_seen_from d c)
  sized-alone = record { no_impls = no-impls; no_auto = no-auto }

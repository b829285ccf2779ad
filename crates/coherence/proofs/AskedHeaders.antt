-- The supertraits of a header that a check asks for, read from the erased traits of the view.
use Rattle.std.proofs.Common.{◌≡◌, ℕ, true, List, [], ◌∷◌, map, refl, sym, ap, ◌∙◌}
use Rattle.sessions.specs.TypeTerms.Promised.Erased.{erased_reference, erased_trait}
use Rattle.sessions.specs.TypeTerms.Promised.Proofs.{In}
use Rattle.sessions.specs.TypeTerms.Promised.Supers.{opaque_reference}
use Rattle.sessions.specs.TypeTerms.Promised.Worlds.{World, Reference, TraitDecl, ImplDecl, view_of}
use Rattle.sessions.proofs.TypeTerms.Members.{here, there, in-map}
use Rattle.sessions.proofs.TypeTerms.TermRules.{erased-views}
use Rattle.sessions.proofs.TypeTerms.Walking.{left}
use Rattle.sessions.specs.TextLanguage.Promised.Declarations.{Declarations, world_of}
use Rattle.sessions.specs.CandidateModel.Declared.{is_declared_view}
use Rattle.sessions.proofs.CandidateModel.DeclaredParts.{header-declared, bound-declared}
use Rattle.sessions.proofs.CandidateModel.PlainRules.{tame}
use Rattle.sessions.specs.TextLowering.Promised.SeenWorlds.{plain, all_kept, none_kept, plain_reference, plain_trait, plain_impl, plainly_seen_from, unbound_reference}
use Rattle.sessions.proofs.TextLowering.WellSeen.{texts-seen-well}
use Rattle.sessions.specs.Promised.Promises.{view_in}
use Rattle.sessions.specs.Promised.Releases.{asked_supers}
use Rattle.sessions.specs.Promised.Subjects.{IsOfText}
use Rattle.coherence.specs.Promised.CheckAnswers.{asked_header, header_supers}
use Rattle.coherence.proofs.OpaqueHeaders.{opaque-same, plain-is-erased}
use Rattle.coherence.proofs.SupersInTurn.{turns_of, supertraits-in-turn, turns-by-traits}
use Rattle.sessions.proofs.GivenTexts.{text-given}

map-where : {A B : Type 0} (f g : A → B) (xs : List A) → ((x : A) → In x xs → f x ≡ g x) → map f xs ≡ map g xs
map-where f g [] h = refl
map-where {B = B} f g (x ∷ xs) h = two (h x (here x xs)) (map-where f g xs (λ y i. h y (there y x xs i)))
  where
    two : {a b : B} {c d : List B} → a ≡ b → c ≡ d → a ∷ c ≡ b ∷ d
    two p q = cc

module _ (d : Declarations) (text : IsOfText d) (c : ℕ) where
  abbrev P : World
  P = plainly_seen_from d c

  abbrev traits : List TraitDecl
  traits = (view_of (world_of d) c).traits

  declared : is_declared_view P ≡ true
  declared = left (is_declared_view P) _ (texts-seen-well text.0 d (text-given d text) c)

  -- the bounds of traits hold no lifetime but those that are erased
  bound-same : (x : TraitDecl) → In x traits → (b : Reference) → In b x.bounds → plain_reference none_kept b ≡ erased_reference b
  bound-same x i b j =
      ap (λ z. (let y : Reference = record { trait = b.trait; args = z } in y))
      (plain-is-erased b.args
      (tame (plain none_kept b.args) (bound-declared P declared (plain_trait x) (plain_reference none_kept b) (in-map plain_trait traits x i) (in-map (plain_reference none_kept) x.bounds b j))))

  trait-same : (x : TraitDecl) → In x traits → plain_trait x ≡ erased_trait x
  trait-same x i =
      ap (λ z. (let y : TraitDecl = record { name = x.name; home = x.home; is_fundamental = x.is_fundamental; is_auto = x.is_auto; bounds = z } in y))
      (map-where (plain_reference none_kept) erased_reference x.bounds (bound-same x i))

  traits-same : P.traits ≡ (view_in d c).traits
  traits-same = map-where plain_trait erased_trait traits trait-same ∙ sym (ap (λ (W : World). W.traits) (erased-views (world_of d) c))

  module _ (x : ImplDecl) (stands : In x (view_of (world_of d) c).impls) where
    abbrev asked : Reference
    asked = record { trait = x.header.trait; args = asked_header x.header.args }

    header-same : opaque_reference (unbound_reference x.header) ≡ asked
    header-same =
        ap (λ z. (let y : Reference = record { trait = x.header.trait; args = z } in y))
        (opaque-same x.header.args (tame (plain all_kept x.header.args) (header-declared P declared (plain_impl x) (in-map plain_impl (view_of (world_of d) c).impls x stands))))

    pub supers-are-asked : asked_supers d c x ≡ header_supers (view_in d c) x
    supers-are-asked =
        ap (map erased_reference)
        (supertraits-in-turn P (opaque_reference (unbound_reference x.header))
        ∙ turns-by-traits P (view_in d c) traits-same (opaque_reference (unbound_reference x.header))
        ∙ ap (turns_of (view_in d c)) header-same)

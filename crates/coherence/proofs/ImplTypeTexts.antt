-- A type of an impl's header, with a name for each parameter, is printed as the lines of the answer have it.
use Rattle.std.proofs.Common.{◌≡◌, ℕ, List, [], ◌∷◌, map, refl}
use Rattle.std.specs.Prelude.{slice_get}
use Rattle.std.specs.List.{AllByRecursion}
use Rattle.std.specs.Option.{option_map_or}
use Rattle.sessions.specs.TypeTerms.Promised.Label.{Label, of_type, of_const, of_lifetime, infer}
use Rattle.sessions.specs.TypeTerms.Promised.Supers.{opaque}
use Rattle.sessions.specs.TypeTerms.Promised.Trees.{Trees}
use Rattle.sessions.specs.TextLanguage.Promised.Declarations.{Declarations}
use Rattle.sessions.specs.TextLanguage.Names.{struct_text, trait_text, text_at}
use Rattle.sessions.specs.TextLanguage.Output.{type_text}
use Rattle.sessions.specs.TextLanguage.Promised.PrintedTypes.{unknowns_within}
use Rattle.sessions.proofs.TextLanguage.SamePrintedTypes.{Agrees, type-same}
use Rattle.coherence.specs.Promised.CrateAnswers.{impl_type_text}

abbrev pub named_type_text : Declarations → ℕ → Trees → List ℕ
named_type_text d k t =
    let names = map (λ p. p.0) (option_map_or (λ i. i.params) (slice_get d.impls k) []) in
    type_text (record {
      of_struct = struct_text d;
      of_trait = trait_text d;
      of_param = λ s i. [];
      of_placeholder = λ s i. text_at names i;
      of_unknown = λ s i. [];
    }) (opaque t)

-- no unknown has a text on either side
agrees : (l : Label) → Agrees (λ s i. []) [] l
agrees (infer of_lifetime i) = tt
agrees (infer of_type i) = refl
agrees (infer of_const i) = refl
agrees l = tt

all-agree : (ls : List Label) → AllByRecursion (Agrees (λ s i. []) []) ls
all-agree [] = tt
all-agree (l ∷ ls) = (agrees l, all-agree ls)

pub impl-type-text-is : (d : Declarations) (k : ℕ) (t : Trees) → impl_type_text d k t ≡ named_type_text d k t
impl-type-text-is d k t = type-same d (map (λ p. p.0) (option_map_or (λ i. i.params) (slice_get d.impls k) [])) (λ s i. []) [] tt (opaque t) (all-agree (unknowns_within (opaque t)))

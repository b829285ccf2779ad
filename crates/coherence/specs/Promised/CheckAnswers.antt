-- The text of the line of each check, without its end, with what it promises.
use Rattle.std.specs.Prelude.{◌≡◌, ℕ, suc, ◌+◌, ◌<◌, false, if◌then◌else◌, List, [], ◌∷◌, ◌++◌, map, length, take, drop, count_by, Some, slice_get, codes}
use Rattle.std.specs.Fmt.{decimal}
use Rattle.std.specs.List.{fold, list_any}
use Rattle.sessions.specs.TypeTerms.Promised.Answers.{IsDeterminate}
use Rattle.sessions.specs.TypeTerms.Promised.Erased.{erased_reference, erased_impl}
use Rattle.sessions.specs.TypeTerms.Promised.Label.{param, placeholder}
use Rattle.sessions.specs.TypeTerms.Promised.Proofs.{In, Every, HasProof}
use Rattle.sessions.specs.TypeTerms.Promised.Rules.{same_reference, elaborated, written_supertraits}
use Rattle.sessions.specs.TypeTerms.Promised.Supers.{opaque_reference, SupersHold, IsHeld}
use Rattle.sessions.specs.TypeTerms.Promised.Trees.{Trees, none, tree, erase_label}
use Rattle.sessions.specs.TypeTerms.Promised.Versions.{Added, is_addable}
use Rattle.sessions.specs.TypeTerms.Promised.Worlds.{World, Reference, ImplDecl}
use Rattle.sessions.specs.TextLanguage.Promised.Declarations.{Declarations, NamedImpl, Check, of_later, of_supers, section_impls}
use Rattle.sessions.specs.Promised.Promises.{view_in}
use Rattle.coherence.specs.Promised.CrateAnswers.{crate_text, is_written, number_in_crate}

-- ---- the supertraits of a header that a check evaluates

-- The terms of a header as they are evaluated: each parameter stands for itself, a lifetime too, and other lifetimes are erased.
abbrev pub asked_header : Trees → Trees
asked_header none = none
asked_header (tree (param s i) c o) = tree (placeholder s i) (asked_header c) (asked_header o)
asked_header (tree l c o) = tree (erase_label l) (asked_header c) (asked_header o)

-- The trait references `left` and their supertraits in V, in the order in which they come up, at most n. The first one is the next. The
-- supertraits that its trait is declared with go before the others, the last of them first, without those that came up before or are left
-- already. For `S: A1 + B1`, with `A1: A2`, they are S, B1, A1, A2.
abbrev pub supers_in_turn : ℕ → World → List Reference → List Reference → List Reference
supers_in_turn (suc n) V before (r ∷ left) =
    r ∷ supers_in_turn n V (r ∷ before) (fold (λ rs s. if list_any (same_reference s) (r ∷ before ++ rs) then rs else s ∷ rs) left (written_supertraits V r))
supers_in_turn _ V before _ = []

-- The strict supertraits of an impl's header, each once, in that order. Two of them may be one up to lifetimes. There are no more steps
-- than paths of written bounds.
abbrev pub header_supers : World → ImplDecl → List Reference
header_supers V i =
    let h : Reference = record { trait = i.header.trait; args = asked_header i.header.args } in
    map erased_reference (drop 1 (supers_in_turn (length (elaborated V (h ∷ []))) V [] (h ∷ [])))

-- Number k of the text's impls is the first of crate c's with a supertrait of its header for which no proof was found. Supertrait j,
-- counted from 0, is the first such one. Those before it have proofs from the impl's where-clauses, and it is not determinate.
pub record StopsWith (limit : ℕ) (d : Declarations) (c k j : ℕ) : Type 0 where
  pub earlier : (n : ℕ) (i : NamedImpl) → n < k → slice_get d.impls n ≡ Some i → i.item.home ≡ c → SupersHold (view_in d c) (erased_impl i.item)
  pub found : NamedImpl
  pub there : slice_get d.impls k ≡ Some found
  pub own : found.item.home ≡ c
  pub super : Reference
  pub at : slice_get (header_supers (view_in d c) found.item) j ≡ Some super
  pub before : Every (HasProof (view_in d c) (map opaque_reference (erased_impl found.item).clauses)) (take j (header_supers (view_in d c) found.item))
  pub not_determinate : IsDeterminate limit (view_in d c) (map opaque_reference (erased_impl found.item).clauses) super → ⊥

-- The number of impl n of section k, both counted from 1. The number counts those that the text has.
abbrev pub number_in_section : Declarations → ℕ → ℕ → ℕ
number_in_section d k n = count_by (is_written d) (take n (section_impls d k))

-- A later version of crate c may add all impls of section k, or number n, counted from 0, is the first that it may not add. The supertraits
-- of the crate's headers have proofs, or a check stopped, and then both words promise the same.
pub data CheckAnswer (limit : ℕ) (d : Declarations) : Check → List ℕ → Type 0 where
  says_compatible : (k c : ℕ) → Every (λ i. Added (view_in d c) c (erased_impl i.item)) (section_impls d k)
      → CheckAnswer limit d (of_later k c) (codes "later " ++ crate_text d c ++ codes ": compatible")
  says_breaking : (k c n : ℕ) (i : NamedImpl) → slice_get (section_impls d k) n ≡ Some i → is_addable (view_in d c) c (erased_impl i.item).header ≡ false
      → Every (λ e. Added (view_in d c) c (erased_impl e.item)) (take n (section_impls d k))
      → CheckAnswer limit d (of_later k c) (codes "later " ++ crate_text d c ++ codes ": breaking impl " ++ decimal (number_in_section d k (n + 1)))
  says_held : (c : ℕ) → IsHeld (view_in d c) c → CheckAnswer limit d (of_supers c) (codes "supers " ++ crate_text d c ++ codes ": held")
  says_stopped : (c k j : ℕ) (w : List ℕ) → In w (codes "missing" ∷ codes "undecided" ∷ []) → StopsWith limit d c k j → CheckAnswer limit d (of_supers c)
      (codes "supers " ++ crate_text d c ++ codes ": " ++ w ++ codes " impl " ++ decimal (number_in_crate d k) ++ codes " clause " ++ decimal (j + 1))

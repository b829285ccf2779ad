-- What is known of the types and bounds of a line without a fault.
use Rattle.std.specs.Prelude.{◌≡◌, ℕ, List, [], ◌∷◌, None}
use Rattle.type_terms.specs.Promised.Label.{of_type}
use Rattle.text_language.specs.Promised.Syntax.{Bound, Clause, Line, crate_line, struct_line, trait_line, impl_line, prove_line, refute_line, later_line, supers_line}
use Rattle.text_language.specs.Promised.Declarations.{Declarations}
use Rattle.text_language.specs.Uses.{type_uses, types_uses, bound_uses}
use Rattle.text_language.specs.Promised.Faults.{with_own}
use Rattle.text_language.specs.Faults.{fault_of}
use Rattle.text_lines.specs.Faultless.{UsesFit}
use Rattle.text_tables.specs.Numbered.{IsNumbered, IsFew}
use Rattle.text_parser.specs.Meant.{NumbersFit}

abbrev pub AllOf : {T : Type 0} → (T → Type 0) → List T → Type 0
AllOf P [] = Unit {0}
AllOf P (t ∷ ts) = P t × AllOf P ts

-- What the line uses in the bound, and in the where-clause.
abbrev pub BoundFits : Declarations → Line → Bound → Type 0
BoundFits d l b = UsesFit d l (bound_uses (with_own d l) b)

abbrev pub ClauseFits : Declarations → Line → Clause → Type 0
ClauseFits d l k = UsesFit d l (type_uses (with_own d l) [] of_type k.subject) × UsesFit d l (bound_uses (with_own d l) k.bound)

-- What the line uses fits, part by part.
abbrev pub LineFits : Declarations → Line → Type 0
LineFits d (crate_line n us) = Unit {0}
LineFits d (struct_line f n ps fs) = UsesFit d (struct_line f n ps fs) (types_uses (with_own d (struct_line f n ps fs)) [] fs)
LineFits d (trait_line f a n ps bs) = AllOf (BoundFits d (trait_line f a n ps bs)) bs
LineFits d (impl_line ps h ks) = ClauseFits d (impl_line ps h ks) h × AllOf (ClauseFits d (impl_line ps h ks)) ks
LineFits d (prove_line c ps k bs ks) = AllOf (ClauseFits d (prove_line c ps k bs ks)) (k ∷ bs) × AllOf (ClauseFits d (prove_line c ps k bs ks)) ks
LineFits d (refute_line c ps k bs) = AllOf (ClauseFits d (refute_line c ps k bs)) (k ∷ bs)
LineFits d (later_line n) = Unit {0}
LineFits d (supers_line n) = Unit {0}

abbrev pub FaultlessParts : Type 0
FaultlessParts = (d : Declarations) (l : Line) → fault_of d l ≡ None → LineFits d l

-- with fewer than k of each
abbrev pub NumbersAreSmall : ℕ → Type 0
NumbersAreSmall k = (d : Declarations) (l : Line) → IsNumbered d → IsFew d k → NumbersFit (with_own d l)

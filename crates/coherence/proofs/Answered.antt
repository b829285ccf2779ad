-- What a session answers, of the text that it is on.
use Rattle.std.proofs.Common.{◌≡◌, ℕ, List, [], Option, Some, None, map, sym, ap, ◌∙◌, subst}
use Rattle.std.specs.List.{slice_get}
use Rattle.std.specs.Option.{option_map, option_map_or}
use Rattle.std.proofs.lemmas.Option.{same_Some}
use Rattle.sessions.specs.TypeTerms.Promised.Trees.{erase}
use Rattle.sessions.specs.TextLanguage.Promised.Declarations.{Declarations, NamedCrate, Question}
use Rattle.sessions.specs.TextLanguage.Names.{answer_values}
use Rattle.sessions.specs.TextLanguage.Output.{Answer, ValueText, overlap, output_text}
use Rattle.sessions.specs.TypeTerms.Promised.Handles.{arg_trees}
use Rattle.sessions.specs.TypeTerms.Promised.Handles.{Entry}
use Rattle.sessions.specs.TypeTerms.declared.kinds.GenericArgKind.{GenericArgKind}
use Rattle.sessions.specs.Promised.Promises.{IsVerdictOf, IsProved, IsRefutation}
use Rattle.sessions.specs.QuestionAnswers as answers
use Rattle.sessions.specs.Promised.Releases as releases
use Rattle.sessions.specs.Promised.Releases.{IsSectionOf, IsLaterAnswer, IsSupersAnswer}
use Rattle.sessions.specs.Promised.Subjects.{Subject, AsksProof, AsksRefutation}
use Rattle.sessions.specs.Verdicts.{Verdict}
use Rattle.coherence.specs.Promised.CheckAnswers.{number_in_section}
use Rattle.coherence.specs.Promised.CrateAnswers.{crate_text, impl_home, number_in_crate}

pub verdict-of : (s : Subject) (d : Declarations) (c : ℕ) (v : Verdict) → s.declarations ≡ d → s.of_crate ≡ c → IsVerdictOf s.depth s.declarations s.of_crate v → IsVerdictOf s.depth d c v
verdict-of s d c v e f h = subst (λ k. IsVerdictOf s.depth d k v) f (subst (λ (x : Declarations). IsVerdictOf s.depth x s.of_crate v) e h)

pub proved-of : (s : Subject) (d : Declarations) (n : ℕ) (a : answers.ProveAnswer) → s.declarations ≡ d → ((q : Question) → AsksProof s.declarations s.of_crate n q → IsProved s.depth s.declarations q a)
    → (q : Question) → AsksProof d s.of_crate n q → IsProved s.depth d q a
proved-of s d n a e h q x = subst (λ (y : Declarations). AsksProof y s.of_crate n q → IsProved s.depth y q a) e (h q) x

pub refuted-of : (s : Subject) (d : Declarations) (n : ℕ) (a : answers.RefuteAnswer) → s.declarations ≡ d → ((q : Question) → AsksRefutation s.declarations s.of_crate n q → IsRefutation s.depth s.declarations q a)
    → (q : Question) → AsksRefutation d s.of_crate n q → IsRefutation s.depth d q a
refuted-of s d n a e h q x = subst (λ (y : Declarations). AsksRefutation y s.of_crate n q → IsRefutation s.depth y q a) e (h q) x

-- named values, in the terms of another list and by another slice
pub named-values : (d : Declarations) (q : Question) (es fs : List Entry) (vs ws : List GenericArgKind) (values : List ValueText) → es ≡ fs → vs ≡ ws
    → values ≡ answer_values d q (map (λ v. erase (arg_trees es v)) vs) → values ≡ answer_values d q (map (λ v. erase (arg_trees fs v)) ws)
named-values d q es fs vs ws values e f h =
    subst (λ (zs : List GenericArgKind). values ≡ answer_values d q (map (λ v. erase (arg_trees fs v)) zs)) f
    (subst (λ (gs : List Entry). values ≡ answer_values d q (map (λ v. erase (arg_trees gs v)) vs)) e h)

-- ---- what is checked
pub section-of : (s : Subject) (d : Declarations) (c k : ℕ) → s.declarations ≡ d → s.of_crate ≡ c → IsSectionOf d c k → IsSectionOf s.declarations s.of_crate k
section-of s d c k e f h = subst (λ n. IsSectionOf s.declarations n k) (sym f) (subst (λ (x : Declarations). IsSectionOf x c k) (sym e) h)

pub later-of : (s : Subject) (d : Declarations) (c k : ℕ) (a : releases.LaterAnswer) → s.declarations ≡ d → s.of_crate ≡ c → IsLaterAnswer s.declarations s.of_crate k a → IsLaterAnswer d c k a
later-of s d c k a e f h = subst (λ n. IsLaterAnswer d n k a) f (subst (λ (x : Declarations). IsLaterAnswer x s.of_crate k a) e h)

pub supers-of : (s : Subject) (d : Declarations) (c : ℕ) (a : releases.SupersAnswer) → s.declarations ≡ d → s.of_crate ≡ c → IsSupersAnswer s.depth s.declarations s.of_crate a → IsSupersAnswer s.depth d c a
supers-of s d c a e f h = subst (λ n. IsSupersAnswer s.depth d n a) f (subst (λ (x : Declarations). IsSupersAnswer s.depth x s.of_crate a) e h)

-- a crate's name is its text
name-of : (d : Declarations) (c : ℕ) (n : List ℕ) → option_map (λ x. x.text) (slice_get d.crates c) ≡ Some n → crate_text d c ≡ n
name-of d c n h = by (slice_get d.crates c) h
  where
    by : (o : Option NamedCrate) → option_map (λ x. x.text) o ≡ Some n → option_map_or (λ x. x.text) o [] ≡ n
    by None e = absurd cc
    by (Some x) e = same_Some x.text n e

-- a line of a crate, by its name
pub named-line : (line : List ℕ → Answer) (d : Declarations) (c : ℕ) (n text : List ℕ) → option_map (λ x. x.text) (slice_get d.crates c) ≡ Some n → text ≡ output_text (line n) → text ≡ output_text (line (crate_text d c))
named-line line d c n text h e = e ∙ ap (λ m. output_text (line m)) (sym (name-of d c n h))

-- ... and of one of its impls, by its number there
pub numbered-line : (line : List ℕ → ℕ → Answer) (d : Declarations) (c k m : ℕ) (n text : List ℕ) → option_map (λ x. x.text) (slice_get d.crates c) ≡ Some n → m ≡ number_in_crate d k → text ≡ output_text (line n m)
    → text ≡ output_text (line (crate_text d c) (number_in_crate d k))
numbered-line line d c k m n text h is e = named-line (λ x. line x m) d c n text h e ∙ ap (λ i. output_text (line (crate_text d c) i)) is

-- ... and of an impl of a section
pub section-line : (line : List ℕ → ℕ → Answer) (d : Declarations) (c k i m : ℕ) (n text : List ℕ) → option_map (λ x. x.text) (slice_get d.crates c) ≡ Some n → m ≡ number_in_section d k i → text ≡ output_text (line n m)
    → text ≡ output_text (line (crate_text d c) (number_in_section d k i))
section-line line d c k i m n text h is e = named-line (λ x. line x m) d c n text h e ∙ ap (λ j. output_text (line (crate_text d c) j)) is

-- ... and of two impls, with the crate of the other
pub pair-answer : (d : Declarations) (c k j a b : ℕ) (n o : List ℕ) → option_map (λ x. x.text) (slice_get d.crates c) ≡ Some n → a ≡ number_in_crate d k → o ≡ crate_text d (impl_home d j) → b ≡ number_in_crate d j
    → overlap n a o b ≡ overlap (crate_text d c) (number_in_crate d k) (crate_text d (impl_home d j)) (number_in_crate d j)
pair-answer d c k j a b n o h e f g =
    ap (λ m. overlap m a o b) (sym (name-of d c n h)) ∙ ap (λ m. overlap (crate_text d c) m o b) e
    ∙ ap (λ t. overlap (crate_text d c) (number_in_crate d k) t b) f
    ∙ ap (λ m. overlap (crate_text d c) (number_in_crate d k) (crate_text d (impl_home d j)) m) g

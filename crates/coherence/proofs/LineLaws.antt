-- Lines, one after the other, and prefixes of them.
use Rattle.std.proofs.Common.{◌≡◌, ℕ, ◌+◌, List, [], ◌∷◌, ◌++◌, length, take, Option, sym, ap, ◌∙◌, subst, append-nil}
use Rattle.std.specs.List.{flat_map}
use Rattle.std.specs.Io.KnownBytes.{Appends}
use Rattle.std.proofs.Math.Seq.{take-length, take-append-add}
use Rattle.std.proofs.KnownBytes.{Appends-trans}
use Rattle.std.proofs.lemmas.List.Concat.{flat_map-cons, flat_map-append}
use Rattle.sessions.specs.TextLanguage.Output.{Answer, output_text}
use Rattle.coherence.specs.Promised.Streams.{AppendsPrefix}

-- ---- whole lines
one-line : (ls : List Answer) (l : Answer) → flat_map output_text ls ++ output_text l ≡ flat_map output_text (ls ++ l ∷ [])
one-line ls l = sym (flat_map-append output_text ls (l ∷ []) ∙ ap (λ (r : List ℕ). flat_map output_text ls ++ r) (flat_map-cons output_text l [] ∙ append-nil (output_text l)))

pub one_more : (a b c : Option (List ℕ)) (ls : List Answer) (l : Answer) → Appends a b (flat_map output_text ls) → Appends b c (output_text l) → Appends a c (flat_map output_text (ls ++ l ∷ []))
one_more a b c ls l p q = subst (λ (bs : List ℕ). Appends a c bs) (one-line ls l) (Appends-trans a b c _ _ p q)

-- ---- prefixes
pub prefix_after : (a b c : Option (List ℕ)) (t u : List ℕ) → Appends a b t → AppendsPrefix b c u → AppendsPrefix a c (t ++ u)
prefix_after a b c t u p q = (length t + q.0, subst (λ (bs : List ℕ). Appends a c bs) (sym (take-append-add t u q.0)) (Appends-trans a b c t (take q.0 u) p q.1))

pub line_prefix : (a b c : Option (List ℕ)) (ls : List Answer) (l : Answer) → Appends a b (flat_map output_text ls) → AppendsPrefix b c (output_text l) → AppendsPrefix a c (flat_map output_text (ls ++ l ∷ []))
line_prefix a b c ls l p q = subst (λ (bs : List ℕ). AppendsPrefix a c bs) (one-line ls l) (prefix_after a b c _ _ p q)

-- a whole is a prefix
pub whole_prefix : (a b : Option (List ℕ)) (t : List ℕ) → Appends a b t → AppendsPrefix a b t
whole_prefix a b t p = (length t, subst (λ (bs : List ℕ). Appends a b bs) (sym (take-length t)) p)

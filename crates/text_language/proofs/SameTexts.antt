-- The short and the long definition of a text's meaning agree.
use Rattle.std.proofs.Common.{◌≡◌, ℕ, suc, Bool, true, false, if◌then◌else◌, List, [], ◌∷◌, ◌++◌, Option, Some, None, Result, Ok, Err, refl, sym, ap, ◌∙◌, subst, min, fold}
use Rattle.std.specs.List.{reduce}
use Rattle.std.specs.Option.{option_map_or, option_or, option_to_list}
use Rattle.text_language.specs.Promised.Syntax.{Line, WrittenLine}
use Rattle.text_language.specs.Promised.Declarations.{Declarations}
use Rattle.text_language.specs.Declarations.{nothing_declared}
use Rattle.text_language.specs.Faults.{fault_of}
use Rattle.text_language.specs.Adding.{added}
use Rattle.text_language.specs.Promised.Desugared.{desugared, own_faults, passes_types, first_fault, written_fault, written_says}
use Rattle.text_language.specs.Text.{LineGives, other_byte, blank, unwritten, faulty, adds, LinesGive, ends, fails, goes_on, TextGives, too_long, fits, lines_of, first_of, fault_written}
use Rattle.text_language.specs.Promised.CoreText.{core_declared}
use Rattle.text_language.specs.Promised.Grammar.{text_lines}
use Rattle.text_language.specs.Promised.LineMeanings.{with_line}
use Rattle.text_language.specs.Promised.TextSays.{LineSays, has_other_byte, says_blank, says_no_line, says_line, LinesSay, text_ends, line_fails, lines_follow, TextSays, overlong, of_lines}
use Rattle.text_language.proofs.SameGrammar.{writes-is-spelled, spelled-is-written, text-lines-are}
use Rattle.text_language.proofs.SameFaults.{line-fault-is}
use Rattle.text_language.proofs.SameMeanings.{with-line-is}
use Rattle.text_language.proofs.SameCore.{core-declared-is}

-- ---- the lines for which a written line stands
first-is : (d : Declarations) (ls : List Line) → first_fault d ls ≡ first_of d ls
first-is d [] = refl
first-is d (l ∷ ls) = ap (λ (o : Option ℕ). option_or o (first_fault (with_line d l) ls)) (line-fault-is d l) ∙ by (fault_of d l) refl (first-is (added d l) ls)
  where
    by : (o : Option ℕ) → fault_of d l ≡ o → first_fault (added d l) ls ≡ first_of (added d l) ls → option_or o (first_fault (with_line d l) ls) ≡ option_or o (first_of (added d l) ls)
    by (Some n) f more = refl
    by None f more = ap (λ (e : Declarations). first_fault e ls) (with-line-is d l f) ∙ more

lines-are : (d : Declarations) (ls : List Line) → first_of d ls ≡ None → fold with_line d ls ≡ fold added d ls
lines-are d [] f = refl
lines-are d (l ∷ ls) f = by (fault_of d l) refl f (λ h. lines-are (added d l) ls h)
  where
    by : (o : Option ℕ) → fault_of d l ≡ o → option_or o (first_of (added d l) ls) ≡ None → (first_of (added d l) ls ≡ None → fold with_line (added d l) ls ≡ fold added (added d l) ls)
        → fold with_line (with_line d l) ls ≡ fold added (added d l) ls
    by (Some n) g h more = absurd (let e = h in cc)
    by None g h more = ap (λ (e : Declarations). fold with_line e ls) (with-line-is d l g) ∙ more h

written-fault-is : (d : Declarations) (line : List ℕ) (w : WrittenLine) → written_fault d line w ≡ fault_written d line w
written-fault-is d line w =
    ap (λ (o : Option ℕ). if passes_types line w then Some 16 else reduce min (option_to_list o ++ own_faults d w)) (first-is d (desugared w))

-- a line without a fault stands for none with one
none-first : (o : Option ℕ) (ns : List ℕ) → reduce min (option_to_list o ++ ns) ≡ None → o ≡ None
none-first None ns h = refl
none-first (Some n) ns h = absurd (let e = h in cc)

none-below : (b : Bool) (o : Option ℕ) (ns : List ℕ) → (if b then Some 16 else reduce min (option_to_list o ++ ns)) ≡ None → o ≡ None
none-below true o ns h = absurd (let e = h in cc)
none-below false o ns h = none-first o ns h

written-lines-are : (d : Declarations) (line : List ℕ) (w : WrittenLine) → fault_written d line w ≡ None → fold with_line d (desugared w) ≡ fold added d (desugared w)
written-lines-are d line w h = lines-are d (desugared w) (none-below (passes_types line w) (first_of d (desugared w)) _ h)

-- ---- texts
line-says : (d : Declarations) (line : List ℕ) (r : Result Declarations ℕ) → LineGives d line r → LineSays d line r
line-says d line _ (other_byte a) = has_other_byte a
line-says d line _ (blank a b) = says_blank a b
line-says d line _ (unwritten a b unsaid) = says_no_line a b (λ w s. unsaid w (writes-is-spelled line w s))
line-says d line _ (faulty w n a b s f) =
    subst (λ (o : Option ℕ). LineSays d line (option_map_or (λ m. Err m) o (Ok (fold with_line d (desugared w))))) (written-fault-is d line w ∙ f) (says_line w a b (spelled-is-written line w s))
line-says d line _ (adds w a b s f) =
    subst (λ (e : Declarations). LineSays d line (Ok e)) (written-lines-are d line w f)
    (subst (λ (o : Option ℕ). LineSays d line (option_map_or (λ m. Err m) o (Ok (fold with_line d (desugared w))))) (written-fault-is d line w ∙ f) (says_line w a b (spelled-is-written line w s)))

lines-say : (d : Declarations) (k : ℕ) (ls : List (List ℕ)) (r : Result Declarations (ℕ × ℕ)) → LinesGive d k ls r → LinesSay d k ls r
lines-say _ _ _ _ (ends d k) = text_ends d k
lines-say _ _ _ _ (fails d k l ls n h) = line_fails d k n l ls (line-says d l (Err n) h)
lines-say _ _ _ _ (goes_on d e k l ls r h more) = lines_follow d e k l ls r (line-says d l (Ok e) h) (lines-say e (suc k) ls r more)

pub text-says : (bytes : List ℕ) (r : Result Declarations (ℕ × ℕ)) → TextGives bytes r → TextSays bytes r
text-says bytes _ (too_long h) = overlong h
text-says bytes _ (fits r h ls) =
    of_lines r h
    (subst (λ (d : Declarations). LinesSay d 1 (text_lines bytes) r) (sym core-declared-is)
    (subst (λ (xs : List (List ℕ)). LinesSay nothing_declared 1 xs r) (sym (text-lines-are bytes)) (lines-say nothing_declared 1 (lines_of bytes) r ls)))

-- and back
line-gives : (d : Declarations) (line : List ℕ) (r : Result Declarations ℕ) → LineSays d line r → LineGives d line r
line-gives d line _ (has_other_byte a) = other_byte a
line-gives d line _ (says_blank a b) = blank a b
line-gives d line _ (says_no_line a b unsaid) = unwritten a b (λ w s. unsaid w (spelled-is-written line w s))
line-gives d line _ (says_line w a b s) = by (fault_written d line w) refl
  where
    by : (o : Option ℕ) → fault_written d line w ≡ o → LineGives d line (written_says d line w)
    by (Some n) f =
        subst (λ (o : Option ℕ). LineGives d line (option_map_or (λ m. Err m) o (Ok (fold with_line d (desugared w))))) (sym (written-fault-is d line w ∙ f)) (faulty w n a b (writes-is-spelled line w s) f)
    by None f =
        subst (λ (o : Option ℕ). LineGives d line (option_map_or (λ m. Err m) o (Ok (fold with_line d (desugared w))))) (sym (written-fault-is d line w ∙ f))
        (subst (λ (e : Declarations). LineGives d line (Ok e)) (sym (written-lines-are d line w f)) (adds w a b (writes-is-spelled line w s) f))

lines-give : (d : Declarations) (k : ℕ) (ls : List (List ℕ)) (r : Result Declarations (ℕ × ℕ)) → LinesSay d k ls r → LinesGive d k ls r
lines-give _ _ _ _ (text_ends d k) = ends d k
lines-give _ _ _ _ (line_fails d k n l ls h) = fails d k l ls n (line-gives d l (Err n) h)
lines-give _ _ _ _ (lines_follow d e k l ls r h more) = goes_on d e k l ls r (line-gives d l (Ok e) h) (lines-give e (suc k) ls r more)

pub text-gives : (bytes : List ℕ) (r : Result Declarations (ℕ × ℕ)) → TextSays bytes r → TextGives bytes r
text-gives bytes _ (overlong h) = too_long h
text-gives bytes _ (of_lines r h ls) =
    fits r h
    (subst (λ (d : Declarations). LinesGive d 1 (lines_of bytes) r) core-declared-is
    (subst (λ (xs : List (List ℕ)). LinesGive core_declared 1 xs r) (text-lines-are bytes) (lines-give core_declared 1 (text_lines bytes) r ls)))

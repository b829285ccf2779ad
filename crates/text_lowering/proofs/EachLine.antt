-- What each line keeps, a text keeps.
use Rattle.std.proofs.Common.{◌≡◌, ℕ, zero, suc, ◌-◌, Bool, true, false, if◌then◌else◌, List, [], ◌∷◌, ◌++◌, length, fold, min, Option, Some, None, Ok, refl, subst}
use Rattle.std.proofs.lemmas.Option.{same_Some}
use Rattle.std.specs.Prelude.{slice_get}
use Rattle.std.specs.List.{reduce}
use Rattle.std.specs.Option.{option_or, option_to_list}
use Rattle.text_language.specs.Promised.Syntax.{Params, Clause, Line, crate_line, struct_line, trait_line, impl_line, prove_line, refute_line, later_line, supers_line, WrittenLine}
use Rattle.text_language.specs.Promised.Declarations.{Declarations, NamedImpl, Question}
use Rattle.text_language.specs.Promised.Desugared.{desugared, own_faults, passes_types}
use Rattle.text_language.specs.Declarations.{nothing_declared}
use Rattle.text_language.specs.Syntax.{spelling}
use Rattle.text_language.specs.Faults.{fault_of}
use Rattle.text_language.specs.Adding.{added, impl_of, item_meanings, question_of, question_meanings}
use Rattle.text_language.specs.Text.{LineGives, blank, adds, LinesGive, ends, goes_on, TextGives, fits, first_of, fault_written}
use Rattle.declarations.specs.Promised.Elaboration.{Each}
use Rattle.text_lowering.proofs.Applied.{each-more}
use Rattle.text_lowering.proofs.ScalarTokens.{AllFine, written-fine}
use Rattle.text_lowering.proofs.FineLines.{stands-fine}

-- ---- faults
-- the first of two
neither : (o p : Option ℕ) → option_or o p ≡ None → (o ≡ None) × (p ≡ None)
neither None p e = (refl, e)
neither (Some n) p e = absurd cc

-- a written line without a fault stands for lines without one
lines-faultless : (d : Declarations) (line : List ℕ) (w : WrittenLine) → fault_written d line w ≡ None → first_of d (desugared w) ≡ None
lines-faultless d line w f = by (passes_types line w) (first_of d (desugared w)) f
  where
    by : (b : Bool) (o : Option ℕ) → (if b then Some 16 else reduce min (option_to_list o ++ own_faults d w)) ≡ None → o ≡ None
    by true o g = absurd cc
    by false None g = refl
    by false (Some n) g = absurd cc

-- ---- declarations
-- What declarations keep if a line without a fault is added. A written line stands for such lines. Of how they are
-- spelled only this is known: their primitive types are scalars, or `str`.
module _ (P : Declarations → Type 0) (keeps : (d : Declarations) (l : Line) → AllFine (spelling l) → fault_of d l ≡ None → P d → P (added d l)) where
  -- of the lines for which a line of the text stands
  fold-keeps : (d : Declarations) (ls : List Line) → Each (λ l. AllFine (spelling l)) ls → first_of d ls ≡ None → P d → P (fold added d ls)
  fold-keeps d [] w f h = h
  fold-keeps d (l ∷ ls) w f h =
      let g = neither (fault_of d l) (first_of (added d l) ls) f in
      fold-keeps (added d l) ls w.1 g.1 (keeps d l w.0 g.0 h)

  -- of one line of the text
  line-keeps : (d e : Declarations) (line : List ℕ) → LineGives d line (Ok e) → P d → P e
  line-keeps d e line (blank a b) h = h
  line-keeps d e line (adds w a b s f) h = fold-keeps d (desugared w) (stands-fine w (written-fine line w s)) (lines-faultless d line w f) h

  -- the induction over its lines
  lines-keep : (d e : Declarations) (k : ℕ) (ls : List (List ℕ)) → LinesGive d k ls (Ok e) → P d → P e
  lines-keep d e k [] (ends _ _) h = h
  lines-keep d e k (l ∷ ls) (goes_on _ c _ _ _ _ first rest) h = lines-keep c e (suc k) ls rest (line-keeps d c l first h)

  -- a text's declarations are those of `core` with its lines
  pub text-keeps : P nothing_declared → (bytes : List ℕ) (d : Declarations) → TextGives bytes (Ok d) → P d
  text-keeps core bytes d (fits _ _ given) = lines-keep nothing_declared d 1 _ given core

-- ---- questions
-- what each of a list has, the one at a place has
each-at : {A : Type 0} (P : A → Type 0) (xs : List A) → Each P xs → (k : ℕ) (x : A) → slice_get xs k ≡ Some x → P x
each-at P [] h k x e = absurd cc
each-at P (y ∷ ys) h zero x e = subst P (same_Some y x e) h.0
each-at P (y ∷ ys) h (suc k) x e = each-at P ys h.1 k x e

-- What a question has as its line is read, each question of a text has.
module _ (P : Question → Type 0)
    (proves : (d : Declarations) (c : List ℕ) (ps : Params) (a : Clause) (bs ks : List Clause) → AllFine (spelling (prove_line c ps a bs ks)) → fault_of d (prove_line c ps a bs ks) ≡ None
    → P (question_of d (question_meanings d (prove_line c ps a bs ks)) false c ps a bs ks))
    (refutes : (d : Declarations) (c : List ℕ) (ps : Params) (a : Clause) (bs : List Clause) → AllFine (spelling (refute_line c ps a bs)) → fault_of d (refute_line c ps a bs) ≡ None
    → P (question_of d (question_meanings d (refute_line c ps a bs)) true c ps a bs [])) where
  -- no line changes earlier questions
  line-asks : (d : Declarations) (l : Line) → AllFine (spelling l) → fault_of d l ≡ None → Each P d.questions → Each P (added d l).questions
  line-asks d (crate_line n us) w f h = h
  line-asks d (struct_line g n ps fs) w f h = h
  line-asks d (trait_line g b n ps bs) w f h = h
  line-asks d (impl_line ps k ks) w f h = by d.in_section
    where
      x : NamedImpl
      x = impl_of d (item_meanings d (impl_line ps k ks) 0) ps k ks

      by : (b : Bool) → Each P (if b then record d { later_impls = d.later_impls ++ record { section = length d.sections - 1; added = x } ∷ [] } else record d { impls = d.impls ++ x ∷ [] }).questions
      by true = h
      by false = h
  line-asks d (prove_line c ps a bs ks) w f h = each-more P d.questions _ h (proves d c ps a bs ks w f)
  line-asks d (refute_line c ps a bs) w f h = each-more P d.questions _ h (refutes d c ps a bs w f)
  line-asks d (later_line n) w f h = h
  line-asks d (supers_line n) w f h = h

  -- for all of them
  pub questions-keep : (bytes : List ℕ) (d : Declarations) → TextGives bytes (Ok d) → Each P d.questions
  questions-keep bytes d t = text-keeps (λ e. Each P e.questions) line-asks tt bytes d t

  -- for the one at a place
  pub question-keeps : (bytes : List ℕ) (d : Declarations) → TextGives bytes (Ok d) → (k : ℕ) (q : Question) → slice_get d.questions k ≡ Some q → P q
  question-keeps bytes d t k q at = each-at P d.questions (questions-keep bytes d t) k q at

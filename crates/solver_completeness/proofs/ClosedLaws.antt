-- The tables of frames are lawful for goals without inference variables.
use Rattle.std.proofs.Common.{◌≡◌, ℕ, zero, suc, ◌+◌, arith, true, false, List, [], ◌∷◌, map, refl, sym, ◌∙◌, ap, Option, Some, None, if◌then◌else◌}
use Rattle.type_terms.specs.Promised.Label.{Sort, of_type, of_const, of_lifetime, placeholder}
use Rattle.type_terms.specs.Promised.Trees.{Trees, leaf, is_sort}
use Rattle.infer_table.specs.declared.canonical.CanonicalVarKind.{CanonicalVarKind}
use Rattle.infer_table.specs.declared.canonical.CanonicalVarKind.TheVariants.{Ty, PlaceholderTy, Const, PlaceholderConst, Region}
use Rattle.infer_table.specs.Responses.{AnswerTrees}
use Rattle.goal_evaluator.specs.Instances.{as_place, other_terms, term_at}
use Rattle.goal_evaluator.specs.Content.{Values, ChosenTerms}
use Rattle.goal_evaluator.specs.FrameTables.{FrameTable, Allows, AllowsApart, FitPlaceholders, Nested, Equation, is_placeholder_of, in_turn, pairs_in}
use Rattle.goal_evaluator.specs.TableAnswers.{put_into, originals_of}
use Rattle.type_terms.proofs.Made.{false-true}
use Rattle.goal_evaluator.specs.TableOperations.{equate, apply}
use Rattle.goal_evaluator.proofs.Equating.{with-content-is}
use Rattle.goal_evaluator.specs.Tables.{frame_tables}
use Rattle.solver_completeness.specs.Closed.{IsClosing}
use Rattle.solver_completeness.specs.ClosedTables.{Kinds, AreClosed, kind_in, FitPlaces, ArePlaces, closed_tables}
use Rattle.solver_completeness.proofs.FreeTables.{free}
use Rattle.solver_completeness.proofs.SilentTables.{silent}
use Rattle.solver_completeness.proofs.ClosedQuestions.{kind-same, question-closed, question-apart}
use Rattle.type_terms.proofs.TermBasics.{is_sort-self}

-- ---- the kinds stay
equate-kinds : (t u : FrameTable) (es : List Equation) → equate t es ≡ Some u → map Some u.kinds ≡ map Some t.kinds
equate-kinds t u es e = let x = with-content-is t (in_turn (pairs_in t es) t.content) u e in ap (λ (v : FrameTable). map Some v.kinds) (sym x.2)

apply-kinds : (t u : FrameTable) (n : Nested) (a : AnswerTrees) → apply t n a ≡ Some u → map Some u.kinds ≡ map Some t.kinds
apply-kinds t u n a e = let x = with-content-is t (put_into t.content (originals_of t n) a) u e in ap (λ (v : FrameTable). map Some v.kinds) (sym x.2)

-- ---- terms that tell placeholders apart
fit-placeholders : (ks : List CanonicalVarKind) (ts : List Trees) → FitPlaces (map Some ks) ts → FitPlaceholders ks ts
fit-placeholders [] ts f = tt
fit-placeholders (Ty ∷ ks) ts f = fit-placeholders ks (other_terms ts) f
fit-placeholders (Const ∷ ks) ts f = fit-placeholders ks (other_terms ts) f
fit-placeholders (Region ∷ ks) ts f = fit-placeholders ks (other_terms ts) f
fit-placeholders (PlaceholderTy ∷ ks) ts f = (f.0, fit-placeholders ks (other_terms ts) f.1)
fit-placeholders (PlaceholderConst ∷ ks) ts f = (f.0, fit-placeholders ks (other_terms ts) f.1)

tells-apart : (t : FrameTable) (s : ChosenTerms) → ArePlaces (map Some t.kinds) s.own → Allows t s → AllowsApart t s
tells-apart t s p a = record {
  allowed = a;
  apart = λ k i j e f same g. p.apart k i j (ap (is_placeholder_of k) (kind-same t.kinds i) ∙ e) (ap (is_placeholder_of k) (kind-same t.kinds j) ∙ f) same g;
  fit = fit-placeholders t.kinds s.own.terms p.fit;
}

-- ---- each placeholder can stand for the placeholder of its place
abbrev sort_for : Option CanonicalVarKind → Sort
sort_for (Some PlaceholderConst) = of_const
sort_for k = of_type

abbrev places_from : ℕ → Kinds → List Trees
places_from n [] = []
places_from n (k ∷ ks) = leaf (placeholder (sort_for k) n) ∷ places_from (suc n) ks

places-fit : (n : ℕ) (ks : Kinds) → FitPlaces ks (places_from n ks)
places-fit n [] = tt
places-fit n (None ∷ ks) = places-fit (suc n) ks
places-fit n (Some Ty ∷ ks) = places-fit (suc n) ks
places-fit n (Some Const ∷ ks) = places-fit (suc n) ks
places-fit n (Some Region ∷ ks) = places-fit (suc n) ks
places-fit n (Some PlaceholderTy ∷ ks) = (refl, places-fit (suc n) ks)
places-fit n (Some PlaceholderConst ∷ ks) = (refl, places-fit (suc n) ks)

plus-zero : (n : ℕ) → n ≡ n + 0
plus-zero n = omega arith

plus-suc : (n i : ℕ) → suc n + i ≡ n + suc i
plus-suc n i = omega arith

place-here : (k : Sort) (o : Option CanonicalVarKind) (n : ℕ) → is_sort k of_lifetime ≡ false → is_placeholder_of k o ≡ true → leaf (placeholder (sort_for o) n) ≡ leaf (placeholder k n)
place-here of_lifetime o n g e = absurd (false-true (sym g))
place-here of_type (Some PlaceholderTy) n g e = refl
place-here of_const (Some PlaceholderConst) n g e = refl
place-here of_type None n g e = absurd (false-true e)
place-here of_type (Some Ty) n g e = absurd (false-true e)
place-here of_type (Some Const) n g e = absurd (false-true e)
place-here of_type (Some PlaceholderConst) n g e = absurd (false-true e)
place-here of_type (Some Region) n g e = absurd (false-true e)
place-here of_const None n g e = absurd (false-true e)
place-here of_const (Some Ty) n g e = absurd (false-true e)
place-here of_const (Some Const) n g e = absurd (false-true e)
place-here of_const (Some PlaceholderTy) n g e = absurd (false-true e)
place-here of_const (Some Region) n g e = absurd (false-true e)

no-place : (k : Sort) → is_sort k of_lifetime ≡ false → is_placeholder_of k None ≡ true → ⊥
no-place of_type g e = false-true e
no-place of_const g e = false-true e
no-place of_lifetime g e = false-true (sym g)

place-at : (k : Sort) (n : ℕ) (ks : Kinds) (i : ℕ) → is_sort k of_lifetime ≡ false → is_placeholder_of k (kind_in ks i) ≡ true → term_at (places_from n ks) i ≡ leaf (placeholder k (n + i))
place-at k n [] i g e = absurd (no-place k g e)
place-at k n (o ∷ ks) zero g e = place-here k o n g e ∙ ap (λ m. leaf (placeholder k m)) (plus-zero n)
place-at k n (o ∷ ks) (suc i) g e = place-at k (suc n) ks i g e ∙ ap (λ m. leaf (placeholder k m)) (plus-suc n i)

as-placeholder : (k : Sort) (m : ℕ) → as_place k (leaf (placeholder k m)) ≡ leaf (placeholder k m)
as-placeholder k m = ap (λ b. if b then leaf (placeholder k m) else leaf (placeholder k 0)) (is_sort-self k)

same-number : (k : Sort) (i j : ℕ) → leaf (placeholder k (0 + i)) ≡ leaf (placeholder k (0 + j)) → i ≡ j
same-number k i j e = let x : 0 + i ≡ 0 + j = cc in omega (arith, x)

some-places : (ks : Kinds) → AreClosed ks → (v : Values) × ArePlaces ks v
some-places ks c = (
  record { proper = true; terms = places_from 0 ks },
  record {
    proper = refl;
    fit = places-fit 0 ks;
    apart = λ k i j e f same g.
        same-number k i j
        (sym (as-placeholder k (0 + i)) ∙ ap (as_place k) (sym (place-at k 0 ks i g e)) ∙ same ∙ ap (as_place k) (place-at k 0 ks j g f) ∙ as-placeholder k (0 + j));
  },
)

pub closed_tables_are_lawful : IsClosing frame_tables closed_tables
closed_tables_are_lawful = record {
  fresh = λ t kinds. refl;
  equate = equate-kinds;
  recorded = λ t c. refl;
  apply = apply-kinds;
  some = some-places;
  free = free;
  tells = tells-apart;
  silent = λ t c m h. silent t m c h;
  closed = λ t n m c d. question-closed t m c n d;
  apart = λ t n c d s a p. question-apart t c n s a p;
  knows = λ t n. tt;
}

-- The unknowns that a question doesn't hold.
use Rattle.std.proofs.Common.{◌≡◌, ℕ, ◌<◌, ◌≤◌, ◌⊎◌, inl, inr, get_or, arith, true, false, List, map, Option, Some, None, refl, sym, ap, ◌∙◌, length, is_some}
use Rattle.std.specs.Prelude.{slice_get, nat_lt}
use Rattle.std.proofs.lemmas.Option.{slice_get_cases}
use Rattle.std.proofs.lemmas.Bool.Decides.{nat_tests}
use Rattle.type_terms.specs.Promised.Label.{Label, Sort, infer}
use Rattle.type_terms.specs.Promised.Trees.{Trees, none, tree}
use Rattle.type_terms.specs.Visits.{Visits, ended, passed, broken, entered, broken_below}
use Rattle.text_language.specs.Promised.Declarations.{Question}
use Rattle.text_language.specs.Names.{variables_of_kind, with_free}
use Rattle.text_tables.specs.Views.{variable_of, question_of}
use Rattle.text_tables.specs.declared.declared.Param.{Param}
use Rattle.text_tables.specs.declared.declared.QuestionEntry.{QuestionEntry}
use Rattle.text_printer.specs.Called.{unknowns_of}
use Rattle.text_printer.specs.Listing.{is_inference_variable, Lists}
use Rattle.text_printer.specs.declared.free.ListsFree.{ListsFree}
use Rattle.text_printer.proofs.Called.{of_sort, own-read}

less-is : (m n : ℕ) → m < n → nat_lt m n ≡ true
less-is m n h = grind (arith, nat_tests)

not-less : (m n : ℕ) → n ≤ m → nat_lt m n ≡ false
not-less m n h = grind (arith, nat_tests)

got : {A : Type 0} (xs : List A) (i : ℕ) → is_some (slice_get xs i) ≡ nat_lt i (length xs)
got {A = A} xs i = by (slice_get_cases xs i).1
  where
    by : ((x : A) × (i < length xs) × (slice_get xs i ≡ Some x) × (get_or xs i x ≡ x)) ⊎ ((length xs ≤ i) × (slice_get xs i ≡ None)) → is_some (slice_get xs i) ≡ nat_lt i (length xs)
    by (inl h) = ap is_some h.2 ∙ sym (less-is i (length xs) h.1)
    by (inr h) = ap is_some h.1 ∙ sym (not-less i (length xs) h.0)

pub own : (s : Sort) (vs : List Param) (i : ℕ) (o : Option Param) → o ≡ slice_get (of_sort s vs) i → is_some o ≡ nat_lt i (length (variables_of_kind s (map variable_of vs)))
own s vs i o e = ap is_some e ∙ got (of_sort s vs) i ∙ ap (nat_lt i) (own-read s vs)

-- ---- a visit
split : (q : Question) (l : Label) (c o : Trees) (us : List (Sort × ℕ)) → with_free q (tree l c o) us ≡ with_free q o (with_free q (tree l c none) us)
split q (infer s i) c o us = refl
split q l c o us = refl

split-entered : (q : Question) (l : Label) (c o : Trees) (us : List (Sort × ℕ)) → is_inference_variable l ≡ false → with_free q (tree l c o) us ≡ with_free q o (with_free q c us)
split-entered q (infer s i) c o us e = cc
split-entered q l c o us e = refl

alike : (p q : QuestionEntry) (t : Trees) (us ws : List (Sort × ℕ)) → p ≡ q → us ≡ ws → with_free (question_of p) t us ≡ with_free (question_of q) t ws
alike p q t us ws e f = cc

abbrev Listed : Trees → ListsFree → ListsFree → Type 0
Listed t v w = unknowns_of w.free.items ≡ with_free (question_of v.question.now) t (unknowns_of v.free.items)

-- a visit to its end lists the unknowns of the trees
pub visited : {B : Type 0} {bs : List ℕ} {t : Trees} {v w : ListsFree} {r : Option B}
    → Visits {V = ListsFree} {B = B} (λ bs t v w a. Lists t v w a) bs t v w r → (w.question.now ≡ v.question.now) × (r ≡ None → Listed t v w)
visited ended = (refl, λ _. refl)
visited (passed {l = l} {c = c} {o = o} {v = v} {w = w} s b) =
    let j = visited b in
    (j.0 ∙ s.0, λ e. j.1 e ∙ alike w.question.now v.question.now o _ _ s.0 s.1 ∙ sym (split (question_of v.question.now) l c o (unknowns_of v.free.items)))
visited (broken s) = (s.0, λ e. cc)
visited (entered {l = l} {c = c} {o = o} {v = v} {u = u} {w = w} s a b) =
    let i = visited a in
    let j = visited b in (
      j.0 ∙ i.0 ∙ s.0,
      λ e. j.1 e ∙ alike w.question.now v.question.now o _ _ (i.0 ∙ s.0) (i.1 refl ∙ alike u.question.now v.question.now c _ _ s.0 (ap unknowns_of s.1.0))
          ∙ sym (split-entered (question_of v.question.now) l c o (unknowns_of v.free.items) s.1.1),
    )
visited (broken_below s a) =
    let i = visited a in
    (i.0 ∙ s.0, λ e. cc)

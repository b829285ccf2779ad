-- The lines of checks and of questions, said directly.
use Rattle.std.proofs.Common.{◌≡◌, ◌≤◌, ◌<◌, ℕ, zero, suc, ◌+◌, ◌-◌, true, List, [], ◌∷◌, ◌++◌, map, take, length, get_or, Some, refl, sym, ap, ◌∙◌, subst, arith, append_assoc}
use Rattle.std.specs.Fmt.{decimal}
use Rattle.std.specs.Prelude.{codes, slice_get}
use Rattle.std.proofs.lemmas.List.{append_cancel_left}
use Rattle.std.proofs.lemmas.Option.{same_Some}
use Rattle.sessions.specs.TypeTerms.Promised.Answers.{IsDeterminate}
use Rattle.sessions.specs.TypeTerms.Promised.Erased.{erased_reference, erased_impl, erased_world}
use Rattle.sessions.specs.TypeTerms.Promised.Proofs.{In, Every, HasProof}
use Rattle.sessions.specs.TypeTerms.Promised.Supers.{opaque_reference, IsHeld}
use Rattle.sessions.specs.TypeTerms.Promised.Worlds.{World, Reference, ImplDecl, sees, view_of}
use Rattle.sessions.proofs.TypeTerms.Members.{in-filter, filter-in, in-map}
use Rattle.sessions.proofs.TypeTerms.ProofEntries.{map-in}
use Rattle.sessions.proofs.TypeTerms.ViewLaws.{sees-itself}
use Rattle.sessions.specs.TextLanguage.Promised.Declarations.{Declarations, NamedImpl, Check, of_later, of_supers, Question, world_of}
use Rattle.sessions.specs.TextLanguage.Names.{answer_values}
use Rattle.sessions.specs.TypeTerms.Promised.Trees.{Trees}
use Rattle.sessions.specs.TextLanguage.Output.{Answer, answer_text, values_text}
use Rattle.sessions.specs.TextLanguage.Promised.PrintedTypes.{yes_values_text}
use Rattle.sessions.proofs.TextLanguage.SamePrinted.{yes-values-text-is}
use Rattle.sessions.specs.QuestionAnswers as answers
use Rattle.sessions.specs.TextQuestions.{variable_kinds}
use Rattle.sessions.specs.Verdicts.{placed}
use Rattle.sessions.proofs.Entailment.{yes-holds}
use Rattle.sessions.specs.Promised.Promises.{view_in}
use Rattle.sessions.specs.Promised.Together.{all_asked}
use Rattle.sessions.specs.Promised.Releases as releases
use Rattle.sessions.specs.Promised.Releases.{StopsAt, given_clauses}
use Rattle.sessions.specs.Promised.Subjects.{IsOfText}
use Rattle.sessions.proofs.OpaqueTerms.{reference-opaque-erased}
use Rattle.coherence.specs.Promised.CheckAnswers.{header_supers, number_in_section, StopsWith, CheckAnswer, says_compatible, says_breaking, says_held, says_stopped}
use Rattle.coherence.specs.Promised.CrateAnswers.{crate_text, number_in_crate}
use Rattle.coherence.specs.Lines.{IsCheckLine, of_version, of_headers, IsQuestionLine, of_prove, of_refute}
use Rattle.coherence.specs.Promised.ProvedAnswers.{QuestionAnswer, says_proved, says_refuted}
use Rattle.coherence.proofs.AskedHeaders.{supers-are-asked}
use Rattle.sessions.proofs.KeptTexts.{texts-are-kept}
use Rattle.sessions.proofs.GivenTexts.{text-given}

-- ---- texts
behind-clause : (x a b c e : List ℕ) → x ++ (a ++ b ++ c ++ e) ≡ x ++ a ++ b ++ c ++ e
behind-clause x a b c e = simp append_assoc

behind-word : (x s w a b c e : List ℕ) → x ++ s ++ w ++ a ++ b ++ c ++ e ≡ x ++ (s ++ (w ++ (a ++ b ++ c ++ e)))
behind-word x s w a b c e = simp append_assoc

-- ---- where a check stops
clauses-given : (rs : List Reference) → map (λ r. erased_reference (opaque_reference r)) rs ≡ map opaque_reference (map erased_reference rs)
clauses-given [] = refl
clauses-given (r ∷ rs) = two (sym (reference-opaque-erased r)) (clauses-given rs)
  where
    two : {a b : Reference} {xs ys : List Reference} → a ≡ b → xs ≡ ys → a ∷ xs ≡ b ∷ ys
    two p q = cc

module _ (d : Declarations) (text : IsOfText d) (c : ℕ) where
  abbrev U : World
  U = view_in d c

  places : (k : ℕ) (x : NamedImpl) → slice_get d.impls k ≡ Some x → x.item.name ≡ k
  places = (texts-are-kept text.0 d (text-given d text)).kept.impl_numbers

  at-number : (x : ImplDecl) → In x (view_of (world_of d) c).impls → (n : NamedImpl) × (slice_get d.impls x.name ≡ Some n) × (n.item ≡ x)
  at-number x i =
      let f = in-filter (λ (y : ImplDecl). sees (world_of d) c y.home) (world_of d).impls x i in
      let m = map-in (λ (n : NamedImpl). n.item) d.impls x f.0 in
      let number : m.1.0 ≡ x.name = sym (places m.1.0 m.0 m.1.1) ∙ ap (λ (y : ImplDecl). y.name) m.2 in
      (m.0, subst (λ k. slice_get d.impls k ≡ Some m.0) number m.1.1, m.2)

  own-seen : (k : ℕ) (n : NamedImpl) → slice_get d.impls k ≡ Some n → n.item.home ≡ c → In (erased_impl n.item) U.impls
  own-seen k n at own =
      let W : World = erased_world (world_of d) in
      filter-in (λ (y : ImplDecl). sees W c y.home) W.impls (erased_impl n.item)
      (in-map erased_impl (world_of d).impls n.item (in-map (λ (m : NamedImpl). m.item) d.impls n (k, at)))
      (subst (λ h. sees W c h ≡ true) (sym own) (sees-itself (length W.crates) W c))

  module _ (limit k j : ℕ) (h : StopsAt limit d c k j) where
    abbrev x : ImplDecl
    x = h.stops.found

    record StopsOn (E supers : List Reference) : Type 0 where
      at : slice_get supers (j - 1) ≡ Some h.stops.super
      before : Every (HasProof U E) (take (j - 1) supers)
      not_determinate : IsDeterminate limit U E h.stops.super → ⊥

    stops-on : StopsOn (map opaque_reference (erased_impl x).clauses) (header_supers U x)
    stops-on =
        subst (λ E. StopsOn E (header_supers U x)) (clauses-given x.clauses)
        (subst (StopsOn (given_clauses x)) (supers-are-asked d text c x h.stops.stands)
        (record { at = h.stops.at; before = h.stops.before; not_determinate = h.stops.not_determinate }))

    pub stops-with : StopsWith limit d c k (j - 1)
    stops-with =
        let n = at-number x h.stops.stands in
        let s = subst (λ y. StopsOn (map opaque_reference (erased_impl y).clauses) (header_supers U y)) (sym n.2) stops-on in
        record {
          earlier = λ m i l at own. h.first (erased_impl i.item) (own-seen m i at own) own (subst (λ z. z < k) (sym (places m i at)) l);
          found = n.0;
          there = subst (λ z. slice_get d.impls z ≡ Some n.0) h.stops.named n.1;
          own = ap (λ (y : ImplDecl). y.home) n.2 ∙ h.stops.own;
          super = h.stops.super;
          at = s.at;
          before = s.before;
          not_determinate = s.not_determinate;
        }

-- ---- checks
one-back : (n : ℕ) → 1 ≤ n → n - 1 + 1 ≡ n
one-back n h = omega (arith, h)

module _ (limit : ℕ) (d : Declarations) (text : IsOfText d) where
  stopped : (c k j : ℕ) (w : List ℕ) → In w (codes "missing" ∷ codes "undecided" ∷ []) → StopsAt limit d c k j
      → CheckAnswer limit d (of_supers c) (codes "supers " ++ crate_text d c ++ codes ": " ++ w ++ (codes " impl " ++ decimal (number_in_crate d k) ++ codes " clause " ++ decimal j))
  stopped c k j w i h =
      let line = codes "supers " ++ crate_text d c ++ codes ": " ++ w in
      subst (CheckAnswer limit d (of_supers c)) (sym (behind-clause line (codes " impl ") (decimal (number_in_crate d k)) (codes " clause ") (decimal j)))
      (subst (λ m. CheckAnswer limit d (of_supers c) (line ++ codes " impl " ++ decimal (number_in_crate d k) ++ codes " clause " ++ decimal m)) (one-back j h.stops.counted)
      (says_stopped c k (j - 1) w i (stops-with d text c limit k j h)))

  check-told : (x : Check) (l : Answer) → IsCheckLine limit d x l → CheckAnswer limit d x (answer_text l)
  check-told _ _ (of_version k c releases.compatible h) =
      subst (CheckAnswer limit d (of_later k c)) (sym (append_assoc (codes "later " ++ crate_text d c) (codes ": ") (codes "compatible"))) (says_compatible k c h)
  check-told _ _ (of_version k c (releases.breaking n) h) =
      subst (λ t. CheckAnswer limit d (of_later k c) (t ++ decimal (number_in_section d k n))) (sym (append_assoc (codes "later " ++ crate_text d c) (codes ": ") (codes "breaking impl ")))
      (subst (λ m. CheckAnswer limit d (of_later k c) (codes "later " ++ crate_text d c ++ codes ": breaking impl " ++ decimal (number_in_section d k m))) (one-back n h.counted)
      (says_breaking k c (n - 1) h.found h.there h.breaks h.before))
  check-told _ _ (of_headers c releases.held h) =
      subst (CheckAnswer limit d (of_supers c)) (sym (append_assoc (codes "supers " ++ crate_text d c) (codes ": ") (codes "held"))) (says_held c h)
  check-told _ _ (of_headers c (releases.missing k j) h) = stopped c k j (codes "missing") (0, refl) h
  check-told _ _ (of_headers c (releases.undecided k j) h) = stopped c k j (codes "undecided") (1, refl) h

pub check-answer : (limit : ℕ) (d : Declarations) (x : Check) (l : Answer) → IsOfText d → IsCheckLine limit d x l → CheckAnswer limit d x (answer_text l)
check-answer limit d x l text h = check-told limit d text x l h

-- ---- the word of a line that does not say `held`
other-word : (w rest : List ℕ) → In w (codes "missing" ∷ codes "undecided" ∷ []) → w ++ rest ≡ codes "held" → ⊥
other-word w rest (zero, e) h = absurd (apart (ap (λ (xs : List ℕ). get_or (xs ++ rest) 0 0) (same_Some (codes "missing") w e) ∙ ap (λ (xs : List ℕ). get_or xs 0 0) h))
  where
    apart : ◌≡◌ {A = ℕ} 109 104 → ⊥
    apart g = omega (arith, g)
other-word w rest (suc zero, e) h = absurd (apart (ap (λ (xs : List ℕ). get_or (xs ++ rest) 0 0) (same_Some (codes "undecided") w e) ∙ ap (λ (xs : List ℕ). get_or xs 0 0) h))
  where
    apart : ◌≡◌ {A = ℕ} 117 104 → ⊥
    apart g = omega (arith, g)
other-word w rest (suc (suc k), e) h = absurd cc

pub held-answer : (limit : ℕ) (d : Declarations) (c : ℕ) (t : List ℕ) → CheckAnswer limit d (of_supers c) t → t ≡ codes "supers " ++ crate_text d c ++ codes ": held" → IsHeld (view_in d c) c
held-answer limit d c _ (says_held _ h) e = h
held-answer limit d c _ (says_stopped _ k j w i s) e =
    let a = codes " impl " in
    let b = decimal (number_in_crate d k) in
    let f = codes " clause " in
    let g = decimal (j + 1) in
    let line = codes "supers " ++ crate_text d c in
    absurd (other-word w (a ++ b ++ f ++ g) i (append_cancel_left (codes ": ") (w ++ (a ++ b ++ f ++ g)) (codes "held") (append_cancel_left line (codes ": " ++ (w ++ (a ++ b ++ f ++ g))) (codes ": held") (sym (behind-word line (codes ": ") w a b f g) ∙ e))))

-- ---- questions
module _ (limit : ℕ) (d : Declarations) (n : ℕ) (q : Question) where
  -- the line with the values, which come after a word
  with-values : (word : List ℕ) (ts : List Trees) → codes "prove " ++ decimal n ++ codes ": " ++ (word ++ yes_values_text d q ts) ≡ codes "prove " ++ decimal n ++ codes ": " ++ word ++ values_text (answer_values d q ts)
  with-values word ts =
      let start : List ℕ = codes "prove " ++ decimal n ++ codes ": " in
      ap (λ v. start ++ (word ++ v)) (yes-values-text-is d q ts) ∙ sym (append_assoc start word (values_text (answer_values d q ts)))

  question-told : (l : Answer) → IsQuestionLine limit d n q l → QuestionAnswer limit d n q (answer_text l)
  question-told _ (of_prove (answers.yes ts) e h) =
      subst (QuestionAnswer limit d n q) (with-values (codes "yes") ts)
      (says_proved (answers.yes ts) e h (λ W vs rank l ρ v.
      yes-holds W vs rank l (placed (view_in d q.asker) q.asker ρ) v (variable_kinds q) ts (map erased_reference q.clauses) (all_asked q) h.0))
  question-told _ (of_prove answers.unproved e h) = says_proved answers.unproved e h tt
  question-told _ (of_prove (answers.maybe ts) e h) = subst (QuestionAnswer limit d n q) (with-values (codes "maybe") ts) (says_proved (answers.maybe ts) e h tt)
  question-told _ (of_refute answers.no e h) = says_refuted answers.no e h
  question-told _ (of_refute answers.unrefuted e h) = says_refuted answers.unrefuted e h

pub question-answer : (limit : ℕ) (d : Declarations) (n : ℕ) (q : Question) (l : Answer) → IsQuestionLine limit d n q l → QuestionAnswer limit d n q (answer_text l)
question-answer limit d n q l h = question-told limit d n q l h

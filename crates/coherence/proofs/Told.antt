-- Lines, given one after the other, are those for the topics of a text.
use Rattle.std.proofs.Common.{◌≡◌, ℕ, suc, ◌+◌, ◌-◌, ◌≤◌, true, false, inl, inr, List, [], ◌∷◌, ◌++◌, length, map, take, Option, Some, Result, Ok, Err, refl, sym, ap, ◌∙◌, subst, arith}
use Rattle.std.specs.List.{flat_map, slice_get, range_with_len, enumerate_from, AllZip}
use Rattle.std.proofs.lemmas.List.{length-append, length-map, take_all}
use Rattle.std.proofs.lemmas.List.FromFn.{length-map-range_with_len, length-enumerate_from}
use Rattle.std.proofs.lemmas.List.Folds.{flat_map-map}
use Rattle.sessions.proofs.TypeTerms.Lists.{slice_get-append, slice_get-map}
use Rattle.sessions.specs.TextLanguage.Promised.Declarations.{Declarations}
use Rattle.sessions.specs.TextLanguage.Output.{Answer, answer_text, output_text}
use Rattle.sessions.specs.TextLanguage.Text.{TextGives}
use Rattle.sessions.proofs.TextLanguage.SameTexts.{text-says}
use Rattle.sessions.specs.Promised.Subjects.{IsOfText}
use Rattle.coherence.specs.LineByLine.{OutputProgress, HasNoMore, line_count, IsAnswerOf, of_crate, of_check, of_question, IsAnswerAt}
use Rattle.coherence.specs.Promised.Told.{status_of}
use Rattle.coherence.specs.Promised.Streams.{AppendsPrefix}
use Rattle.coherence.specs.Promised.Told.{LineTopic, fault_topic, crate_topic, check_topic, question_topic, topics, TellsTopic, with_ends, IsToldText, TellsSome}
use Rattle.coherence.proofs.CheckAnswersHold.{check-answer, question-answer}
use Rattle.coherence.proofs.CrateAnswersHold.{crate-answer}
use Rattle.coherence.proofs.Topics.{take-more, get-range, get-enumerated, get-behind, one-more}
use Rattle.sessions.proofs.GivenTexts.{given-text}

-- the first n lines
pub data FirstLines (limit : ℕ) (t : Result Declarations (ℕ × ℕ)) : ℕ → List Answer → Type 0 where
  no_lines : FirstLines limit t 0 []
  and_line : (n : ℕ) (ls : List Answer) (l : Answer) → FirstLines limit t n ls → IsAnswerAt limit t n l → FirstLines limit t (n + 1) (ls ++ l ∷ [])

-- the line about the topic at this place
abbrev TellsOf : ℕ → Result Declarations (ℕ × ℕ) → ℕ → Answer → Type 0
TellsOf limit t n l = (x : LineTopic) × (slice_get (topics t) n ≡ Some x) × TellsTopic limit x (answer_text l)

module _ (limit : ℕ) (d : Declarations) (of_text : IsOfText d) where
  abbrev crates : List LineTopic
  crates = map (crate_topic d) (range_with_len 1 (length d.crates - 1))

  abbrev checks : List LineTopic
  checks = map (check_topic d) d.checks

  abbrev questions : List LineTopic
  questions = map (question_topic d) (enumerate_from 1 d.questions)

  crates-count : length crates ≡ length d.crates - 1
  crates-count = length-map-range_with_len (crate_topic d) 1 (length d.crates - 1)

  checks-count : length checks ≡ length d.checks
  checks-count = length-map d.checks (check_topic d)

  questions-count : length questions ≡ length d.questions
  questions-count = length-map (enumerate_from 1 d.questions) (question_topic d) ∙ length-enumerate_from 1 d.questions

  pub count-is : length (topics (Ok d)) ≡ line_count (Ok d)
  count-is =
      let all : length (crates ++ (checks ++ questions)) ≡ length crates + length (checks ++ questions) = length-append crates (checks ++ questions) in
      let behind : length (checks ++ questions) ≡ length checks + length questions = length-append checks questions in
      omega (arith, all, behind, crates-count, checks-count, questions-count)

  told-of : (n : ℕ) (l : Answer) → IsAnswerOf limit d n l → TellsOf limit (Ok d) n l
  told-of _ _ (of_crate n v within h) =
      let said = crate-answer limit d (n + 1) v of_text h in
      let next : 1 + n ≡ n + 1 = omega arith in (
        crate_topic d (n + 1),
        slice_get-append crates (checks ++ questions) n (crate_topic d (n + 1)) (get-range (crate_topic d) 1 (length d.crates - 1) n within ∙ ap (λ k. Some (crate_topic d k)) next),
        said,
      )
  told-of _ _ (of_check n x l at h) =
      let place : length d.crates - 1 + n ≡ length crates + n = ap (λ k. k + n) (sym crates-count) in (
        check_topic d x,
        ap (λ k. slice_get (crates ++ (checks ++ questions)) k) place ∙ get-behind crates (checks ++ questions) n ∙ slice_get-append checks questions n (check_topic d x) (slice_get-map (check_topic d) d.checks n x at),
        check-answer limit d x l of_text h,
      )
  told-of _ _ (of_question n q l at h) =
      let place : length d.crates - 1 + length d.checks + n ≡ length crates + (length checks + n) = omega (arith, crates-count, checks-count) in
      let next : 1 + n ≡ n + 1 = omega arith in (
        question_topic d (n + 1, q),
        ap (λ k. slice_get (crates ++ (checks ++ questions)) k) place ∙ get-behind crates (checks ++ questions) (length checks + n) ∙ get-behind checks questions n
            ∙ get-enumerated (question_topic d) 1 d.questions n q at
            ∙ ap (λ k. Some (question_topic d (k, q))) next,
        question-answer limit d (n + 1) q l h,
      )

module _ (limit : ℕ) (bytes : List ℕ) where
  told-at : (t : Result Declarations (ℕ × ℕ)) → TextGives bytes t → (n : ℕ) (l : Answer) → IsAnswerAt limit t n l → TellsOf limit t n l
  told-at (Ok d) g n l is = told-of limit d (given-text bytes d g) n l is
  told-at (Err f) g n l is = (
    fault_topic f,
    ap (λ k. slice_get (fault_topic f ∷ []) k) is.0,
    ap answer_text is.1,
  )

  map-more : (ls : List Answer) (l : Answer) → map answer_text (ls ++ l ∷ []) ≡ map answer_text ls ++ answer_text l ∷ []
  map-more [] l = refl
  map-more (m ∷ ls) l = ap (λ xs. answer_text m ∷ xs) (map-more ls l)

  told-lines : (t : Result Declarations (ℕ × ℕ)) → TextGives bytes t → (n : ℕ) (ls : List Answer) → FirstLines limit t n ls → AllZip (TellsTopic limit) (take n (topics t)) (map answer_text ls)
  told-lines t g _ _ no_lines = tt
  told-lines t g _ _ (and_line n ls l p is) =
      let told = told-at t g n l is in
      let next : n + 1 ≡ suc n = omega arith in
      let more : take (n + 1) (topics t) ≡ take n (topics t) ++ told.0 ∷ [] = ap (λ k. take k (topics t)) next ∙ take-more (topics t) n told.0 told.1 in
      subst (λ (xs : List LineTopic). AllZip (TellsTopic limit) xs (map answer_text (ls ++ l ∷ []))) (sym more)
      (subst (λ (ms : List (List ℕ)). AllZip (TellsTopic limit) (take n (topics t) ++ told.0 ∷ []) ms) (sym (map-more ls l))
      (one-more (TellsTopic limit) (take n (topics t)) (map answer_text ls) told.0 (answer_text l) (told-lines t g n ls p) told.2))

  as-lines : (ls : List Answer) → flat_map output_text ls ≡ with_ends (map answer_text ls)
  as-lines ls = sym (flat_map-map (λ (l : List ℕ). l ++ 10 ∷ []) answer_text ls)

  counted : (t : Result Declarations (ℕ × ℕ)) → TextGives bytes t → length (topics t) ≡ line_count t
  counted (Ok d) g = count-is limit d (given-text bytes d g)
  counted (Err f) g = refl

  -- at the end each is given
  pub all-lines : (t : Result Declarations (ℕ × ℕ)) → TextGives bytes t → (n : ℕ) (ls : List Answer) → FirstLines limit t n ls → n ≡ line_count t → IsToldText limit bytes (status_of t) (flat_map output_text ls)
  all-lines t g n ls p e =
      let whole : length (topics t) ≤ n = omega (arith, e, counted t g) in (
        t,
        map answer_text ls,
        text-says bytes t g,
        subst (λ (xs : List LineTopic). AllZip (TellsTopic limit) xs (map answer_text ls)) (take_all n (topics t) whole) (told-lines t g n ls p),
        refl,
        as-lines ls,
      )

  -- before, they are the first
  pub some-lines : (t : Result Declarations (ℕ × ℕ)) → TextGives bytes t → (n : ℕ) (ls : List Answer) → FirstLines limit t n ls → (a b : Option (List ℕ)) → AppendsPrefix a b (flat_map output_text ls)
      → TellsSome limit bytes a b
  some-lines t g n ls p a b w = inr (flat_map output_text ls, (t, n, map answer_text ls, text-says bytes t g, told-lines t g n ls p, as-lines ls), w)

-- where nothing is given and none has failed, all were
pub all-given : (p : OutputProgress) → p.has_failed ≡ false → HasNoMore p → p.given ≡ line_count p.text
all-given p f (inl e) = e
all-given p f (inr h) = absurd (differ (sym f ∙ h))
  where
    differ : false ≡ true → ⊥
    differ e = cc

-- What is shown of candidates, the oldest first, against the past of a plan, the newest first.
use Rattle.std.proofs.Common.{◌≡◌, ℕ, ◌==◌, Bool, true, false, ◌&&◌, ◌||◌, not, if◌then◌else◌, List, [], ◌∷◌, ◌++◌, append_assoc, map, reverse, refl, sym, ◌∙◌, ap, Option, Some, None, option_map}
use Rattle.std.specs.Prelude.{is_some, filter}
use Rattle.std.specs.List.{list_any}
use Rattle.std.proofs.lemmas.List.{reverse-append, append-nil}
use Rattle.std.proofs.lemmas.List.Folds.{list_any-append}
use Rattle.type_terms.specs.Promised.Handles.{Entry}
use Rattle.infer_table.specs.declared.response.CanonicalResponse.{CanonicalResponse}
use Rattle.infer_table.specs.Responses.{AnswerTrees, answer_trees}
use Rattle.goal_evaluator.specs.declared.candidate.CandidateSource.{CandidateSource}
use Rattle.goal_evaluator.specs.declared.candidate.Considered as InCode
use Rattle.goal_evaluator.specs.Candidate.{Considered}
use Rattle.goal_evaluator.specs.Merge.{or_else, if_there, responses}
use Rattle.goal_evaluator.specs.PlanAnswers.{if_so, numbers_but, passes, first_passing}
use Rattle.goal_evaluator.specs.Table.{workings}
use Rattle.goal_evaluator.specs.FrameTables.{FrameTable}
use Rattle.goal_evaluator.specs.Tables.{frame_tables}
use Rattle.goal_frames.specs.Handlers.{same_answer, applies_always}
use Rattle.goal_frames.specs.Merges.{responses_of}
use Rattle.goal_evaluator.specs.StepReadings.{ShownCandidate, Shows, shown, shown_by, result_read}
use Rattle.candidate_model.specs.Solver.{SolverPast, from, is_clause, is_object, gives_none, holds_from, oldest_gives_none}
use Rattle.candidate_assembly.proofs.Taken.{or-none, or-assoc}
use Rattle.candidate_assembly.proofs.Counted.{shown-next}
use Rattle.candidate_assembly.specs.Shown.{yes_of, clause_yes, first_yes, other_clauses, first_bound_gives_none}
use Rattle.goal_evaluator.proofs.TypeBasics.{map-else}
use Rattle.type_terms.proofs.BooleanBasics.{turned}

-- ---- whether some candidate from there holds
module _ (P : CandidateSource → Bool) where
  abbrev holds_at : ShownCandidate → Bool
  holds_at x = P x.source && is_some x.result

  read-some : (es : List Entry) (o : Option CanonicalResponse) → is_some o ≡ is_some (result_read es o)
  read-some es None = refl
  read-some es (Some r) = refl

  holds-read : (es : List Entry) (done : List InCode.Considered) → list_any (λ (d : InCode.Considered). P d.source && is_some d.result) done ≡ list_any holds_at (map (shown_by es) done)
  holds-read es [] = refl
  holds-read es (d ∷ done) = ap (λ b. (P d.source && b) || list_any (λ (d : InCode.Considered). P d.source && is_some d.result) done) (read-some es d.result) ∙ ap (λ b. holds_at (shown_by es d) || b) (holds-read es done)

  holds-shown : (seen : SolverPast) → list_any holds_at (reverse (map shown seen)) ≡ holds_from P seen
  holds-shown [] = refl
  holds-shown (c ∷ seen) =
      ap (list_any holds_at) (shown-next c seen) ∙ list_any-append holds_at (reverse (map shown seen)) (shown c ∷ [])
      ∙ turned (list_any holds_at (reverse (map shown seen))) (holds_at (shown c)) ∙ ap (λ b. holds_at (shown c) || b) (holds-shown seen)

  pub holds : (es : List Entry) (done : List InCode.Considered) (seen : SolverPast) → Shows (map (shown_by es) done) seen → list_any (λ (d : InCode.Considered). P d.source && is_some d.result) done ≡ holds_from P seen
  holds es done seen h = holds-read es done ∙ ap (list_any holds_at) h ∙ holds-shown seen

-- ---- the responses from there
module _ (P : CandidateSource → Bool) where
  abbrev answer_of : ShownCandidate → List AnswerTrees
  answer_of x = if P x.source then if_there x.result else []

  abbrev answers_of : List ShownCandidate → List AnswerTrees
  answers_of [] = []
  answers_of (x ∷ xs) = answer_of x ++ answers_of xs

  answers-append : (xs ys : List ShownCandidate) → answers_of (xs ++ ys) ≡ answers_of xs ++ answers_of ys
  answers-append [] ys = refl
  answers-append (x ∷ xs) ys = ap (λ z. answer_of x ++ z) (answers-append xs ys) ∙ sym (append_assoc (answer_of x) (answers_of xs) (answers_of ys))

  abbrev kept : List InCode.Considered → List InCode.Considered
  kept done = filter (λ (d : InCode.Considered). P d.source) done

  answers-read : (es : List Entry) (done : List InCode.Considered) → map (answer_trees es) (responses_of (kept done)) ≡ answers_of (map (shown_by es) done)
  answers-read es [] = refl
  answers-read es (d ∷ done) = by (P d.source) d.result (answers-read es done)
    where
      by : (b : Bool) (o : Option CanonicalResponse) → map (answer_trees es) (responses_of (kept done)) ≡ answers_of (map (shown_by es) done)
          → map (answer_trees es) (responses_of (if b then record d { result = o } ∷ kept done else kept done)) ≡ (if b then if_there (result_read es o) else []) ++ answers_of (map (shown_by es) done)
      by true None e = e
      by true (Some r) e = ap (λ z. answer_trees es r ∷ z) e
      by false o e = e

  answers-shown : (seen : SolverPast) → answers_of (reverse (map shown seen)) ≡ responses frame_tables (filter (from P) seen)
  answers-shown [] = refl
  answers-shown (c ∷ seen) =
      ap answers_of (shown-next c seen) ∙ answers-append (reverse (map shown seen)) (shown c ∷ [])
      ∙ ap (λ z. answers_of (reverse (map shown seen)) ++ z) (append-nil (answer_of (shown c)))
      ∙ ap (λ z. z ++ answer_of (shown c)) (answers-shown seen) ∙ by (P c.spec.source)
    where
      by : (b : Bool) → responses frame_tables (filter (from P) seen) ++ (if b then if_there c.response else []) ≡ responses frame_tables (if b then c ∷ filter (from P) seen else filter (from P) seen)
      by true = refl
      by false = append-nil (responses frame_tables (filter (from P) seen))

  pub answers : (es : List Entry) (done : List InCode.Considered) (seen : SolverPast) → Shows (map (shown_by es) done) seen → map (answer_trees es) (responses_of (kept done)) ≡ responses frame_tables (filter (from P) seen)
  answers es done seen h = answers-read es done ∙ ap answers_of h ∙ answers-shown seen

-- the same from the same sources
pub all-kept : {A : Type 0} (xs : List A) → filter (λ (x : A). true) xs ≡ xs
all-kept [] = refl
all-kept (x ∷ xs) = ap (λ z. x ∷ z) (all-kept xs)

-- ---- the first bound of a `dyn`
bound-append : (otherwise : Bool) (xs ys : List ShownCandidate) → first_bound_gives_none otherwise (xs ++ ys) ≡ first_bound_gives_none (first_bound_gives_none otherwise ys) xs
bound-append otherwise [] ys = refl
bound-append otherwise (x ∷ xs) ys = ap (gives_none x.result (is_object x.source)) (bound-append otherwise xs ys)

bound-shown : (otherwise : Bool) (seen : SolverPast) → first_bound_gives_none otherwise (reverse (map shown seen)) ≡ oldest_gives_none is_object otherwise seen
bound-shown otherwise [] = refl
bound-shown otherwise (c ∷ seen) =
    ap (first_bound_gives_none otherwise) (shown-next c seen) ∙ bound-append otherwise (reverse (map shown seen)) (shown c ∷ [])
    ∙ bound-shown (gives_none c.response (is_object c.spec.source) otherwise) seen

pub bound : (es : List Entry) (done : List InCode.Considered) (seen : SolverPast) → Shows (map (shown_by es) done) seen → first_bound_gives_none false (map (shown_by es) done) ≡ oldest_gives_none is_object false seen
bound es done seen h = ap (first_bound_gives_none false) h ∙ bound-shown false seen

-- ---- the first where-clause that is a yes
yes-append : (xs ys : List ShownCandidate) → first_yes (xs ++ ys) ≡ or_else (first_yes xs) (first_yes ys)
yes-append [] ys = refl
yes-append (x ∷ xs) ys = ap (or_else (clause_yes x)) (yes-append xs ys) ∙ or-assoc (clause_yes x) (first_yes xs) (first_yes ys)

abbrev pub as_taken : AnswerTrees × ℕ → Option AnswerTrees × ℕ
as_taken x = (Some x.0, x.1)

abbrev pub taken_of : Considered (workings frame_tables) → Option AnswerTrees × ℕ
taken_of c = (c.response, c.number)

abbrev pub clauses_of : SolverPast → SolverPast
clauses_of seen = filter (from is_clause) seen

pub yes-shown : (t : FrameTable) (seen : SolverPast) → option_map as_taken (first_yes (reverse (map shown seen))) ≡ option_map taken_of (first_passing frame_tables applies_always same_answer t (clauses_of seen))
yes-shown t [] = refl
yes-shown t (c ∷ seen) =
    ap (λ z. option_map as_taken (first_yes z)) (shown-next c seen)
    ∙ ap (option_map as_taken) (yes-append (reverse (map shown seen)) (shown c ∷ []) ∙ ap (or_else (first_yes (reverse (map shown seen)))) (or-none (clause_yes (shown c))))
    ∙ map-else as_taken (first_yes (reverse (map shown seen))) (clause_yes (shown c))
    ∙ ap (λ z. or_else z (option_map as_taken (clause_yes (shown c)))) (yes-shown t seen)
    ∙ by (is_clause c.spec.source)
  where
    before : Option (Considered (workings frame_tables))
    before = first_passing frame_tables applies_always same_answer t (clauses_of seen)

    answered : (o : Option AnswerTrees) → c.response ≡ o → option_map as_taken (yes_of o c.number) ≡ option_map taken_of (if_so (passes frame_tables applies_always same_answer t o) c)
    answered None e = refl
    answered (Some r) e = passing (applies_always r)
      where
        passing : (b : Bool) → option_map as_taken (if b then Some (r, c.number) else None) ≡ option_map taken_of (if_so b c)
        passing true = ap (λ (z : Option AnswerTrees). Some (z, c.number)) (sym e)
        passing false = refl

    by : (b : Bool) → or_else (option_map taken_of before) (option_map as_taken (if b then yes_of c.response c.number else None))
        ≡ option_map taken_of (first_passing frame_tables applies_always same_answer t (if b then c ∷ clauses_of seen else clauses_of seen))
    by true = ap (or_else (option_map taken_of before)) (answered c.response refl) ∙ sym (map-else taken_of before (if_so (passes frame_tables applies_always same_answer t c.response) c))
    by false = or-none (option_map taken_of before)

-- ---- the numbers of the other where-clauses
others-append : (n : ℕ) (xs ys : List ShownCandidate) → other_clauses n (xs ++ ys) ≡ other_clauses n xs ++ other_clauses n ys
others-append n [] ys = refl
others-append n (x ∷ xs) ys = ap (λ z. if is_clause x.source && not (x.number == n) then x.number ∷ z else z) (others-append n xs ys) ∙ by (is_clause x.source && not (x.number == n))
  where
    by : (b : Bool) → (if b then x.number ∷ (other_clauses n xs ++ other_clauses n ys) else other_clauses n xs ++ other_clauses n ys) ≡ (if b then x.number ∷ other_clauses n xs else other_clauses n xs) ++ other_clauses n ys
    by true = refl
    by false = refl

pub others-shown : (n : ℕ) (seen : SolverPast) → reverse (other_clauses n (reverse (map shown seen))) ≡ numbers_but frame_tables n (clauses_of seen)
others-shown n [] = refl
others-shown n (c ∷ seen) =
    ap (λ z. reverse (other_clauses n z)) (shown-next c seen) ∙ ap reverse (others-append n (reverse (map shown seen)) (shown c ∷ []))
    ∙ reverse-append (other_clauses n (reverse (map shown seen))) (other_clauses n (shown c ∷ [])) ∙ ap (λ z. reverse (other_clauses n (shown c ∷ [])) ++ z) (others-shown n seen)
    ∙ by (is_clause c.spec.source)
  where
    rest : List ℕ
    rest = numbers_but frame_tables n (clauses_of seen)

    at : (d : Bool) → reverse (if not d then c.number ∷ [] else []) ++ rest ≡ (if d then rest else c.number ∷ rest)
    at true = refl
    at false = refl

    by : (b : Bool) → reverse (if b && not (c.number == n) then c.number ∷ [] else []) ++ rest ≡ numbers_but frame_tables n (if b then c ∷ clauses_of seen else clauses_of seen)
    by true = at (c.number == n)
    by false = refl

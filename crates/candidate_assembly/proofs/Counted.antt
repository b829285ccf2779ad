-- What is counted of candidates, the oldest first, is what is counted of the past that they show.
use Rattle.std.proofs.Common.{◌≡◌, suc, Bool, true, false, cond, List, [], ◌∷◌, ◌++◌, map, reverse, length, refl, ◌∙◌, ap, Option, None}
use Rattle.std.specs.Prelude.{filter}
use Rattle.std.proofs.lemmas.List.{reverse-append}
use Rattle.type_terms.specs.Promised.Handles.{Entry}
use Rattle.type_terms.specs.declared.ImplId.{ImplId}
use Rattle.goal_evaluator.specs.declared.candidate.CandidateSource.{CandidateSource}
use Rattle.goal_evaluator.specs.declared.candidate.Considered as InCode
use Rattle.goal_evaluator.specs.Candidate.{Considered}
use Rattle.goal_evaluator.specs.Table.{workings}
use Rattle.goal_evaluator.specs.Tables.{frame_tables}
use Rattle.goal_evaluator.specs.StepReadings.{ShownCandidate, shown, shown_by}
use Rattle.candidate_model.specs.Solver.{SolverPast, from}
use Rattle.candidate_assembly.specs.Counted.{count_from, last_from, ends_by, ForEachPast}
use Rattle.candidate_assembly.specs.Sections.{considered_from, impl_or, last_impl}
use Rattle.candidate_assembly.proofs.Along.{count-last}
use Rattle.candidate_assembly.proofs.Taken.{count}

-- one more candidate stands at the end of what is shown
pub shown-next : (c : Considered (workings frame_tables)) (seen : SolverPast) → reverse (map shown (c ∷ seen)) ≡ reverse (map shown seen) ++ shown c ∷ []
shown-next c seen = reverse-append (shown c ∷ []) (map shown seen)

-- ---- counts
module _ (p : CandidateSource → Bool) where
  abbrev from-there : ShownCandidate → Bool
  from-there x = p x.source

  count-read : (es : List Entry) (done : List InCode.Considered) → count_from p done ≡ count from-there (map (shown_by es) done)
  count-read es [] = refl
  count-read es (d ∷ done) = by (p d.source) (count-read es done)
    where
      by : (b : Bool) → count_from p done ≡ count from-there (map (shown_by es) done)
          → length (cond b (d ∷ filter (λ (x : InCode.Considered). p x.source) done) (filter (λ (x : InCode.Considered). p x.source) done))
          ≡ length (cond b (shown_by es d ∷ filter from-there (map (shown_by es) done)) (filter from-there (map (shown_by es) done)))
      by true h = ap suc h
      by false h = h

  count-shown : (seen : SolverPast) → count from-there (reverse (map shown seen)) ≡ considered_from p seen
  count-shown [] = refl
  count-shown (c ∷ seen) = ap (count from-there) (shown-next c seen) ∙ count-last from-there (reverse (map shown seen)) (shown c) ∙ by (p c.spec.source) (count-shown seen)
    where
      by : (b : Bool) → count from-there (reverse (map shown seen)) ≡ considered_from p seen
          → length (cond b (shown c ∷ filter from-there (reverse (map shown seen))) (filter from-there (reverse (map shown seen)))) ≡ length (cond b (c ∷ filter (from p) seen) (filter (from p) seen))
      by true h = ap suc h
      by false h = h

  pub counted : (es : List Entry) (done : List InCode.Considered) → ForEachPast es done (λ seen. count_from p done ≡ considered_from p seen)
  counted es done seen h = count-read es done ∙ ap (count from-there) h ∙ count-shown seen

-- ---- the last impl
abbrev last-shown : Option ImplId → List ShownCandidate → Option ImplId
last-shown o [] = o
last-shown o (x ∷ xs) = last-shown (impl_or x.source o) xs

last-read : (es : List Entry) (o : Option ImplId) (done : List InCode.Considered) → last_from o done ≡ last-shown o (map (shown_by es) done)
last-read es o [] = refl
last-read es o (d ∷ done) = last-read es (impl_or d.source o) done

last-one : (o : Option ImplId) (xs : List ShownCandidate) (x : ShownCandidate) → last-shown o (xs ++ x ∷ []) ≡ impl_or x.source (last-shown o xs)
last-one o [] x = refl
last-one o (y ∷ xs) x = last-one (impl_or y.source o) xs x

last-of-shown : (seen : SolverPast) → last-shown None (reverse (map shown seen)) ≡ last_impl seen
last-of-shown [] = refl
last-of-shown (c ∷ seen) = ap (last-shown None) (shown-next c seen) ∙ last-one None (reverse (map shown seen)) (shown c) ∙ ap (impl_or c.spec.source) (last-of-shown seen)

pub last-is : (es : List Entry) (done : List InCode.Considered) → ForEachPast es done (λ seen. last_from None done ≡ last_impl seen)
last-is es done seen h = last-read es None done ∙ ap (last-shown None) h ∙ last-of-shown seen

-- the newest stands at the end
pub last-behind : (o : Option ImplId) (done : List InCode.Considered) (d : InCode.Considered) → last_from o (done ++ d ∷ []) ≡ impl_or d.source (last_from o done)
last-behind o [] d = refl
last-behind o (x ∷ done) d = last-behind (impl_or x.source o) done d

-- ---- whether one from there was last of all
module _ (p : CandidateSource → Bool) where
  pub ends-behind : (b : Bool) (done : List InCode.Considered) (d : InCode.Considered) → ends_by p b (done ++ d ∷ []) ≡ p d.source
  ends-behind b [] d = refl
  ends-behind b (x ∷ done) d = ends-behind (p x.source) done d

  abbrev ends-shown : Bool → List ShownCandidate → Bool
  ends-shown b [] = b
  ends-shown b (x ∷ xs) = ends-shown (p x.source) xs

  ends-read : (es : List Entry) (b : Bool) (done : List InCode.Considered) → ends_by p b done ≡ ends-shown b (map (shown_by es) done)
  ends-read es b [] = refl
  ends-read es b (d ∷ done) = ends-read es (p d.source) done

  ends-one : (b : Bool) (xs : List ShownCandidate) (x : ShownCandidate) → ends-shown b (xs ++ x ∷ []) ≡ p x.source
  ends-one b [] x = refl
  ends-one b (y ∷ xs) x = ends-one (p y.source) xs x

  abbrev pub newest_by : SolverPast → Bool
  newest_by [] = false
  newest_by (c ∷ seen) = p c.spec.source

  pub ends-is : (es : List Entry) (done : List InCode.Considered) → ForEachPast es done (λ seen. ends_by p false done ≡ newest_by seen)
  ends-is es done [] h = ends-read es false done ∙ ap (ends-shown false) h
  ends-is es done (c ∷ seen) h = ends-read es false done ∙ ap (ends-shown false) h ∙ ap (ends-shown false) (shown-next c seen) ∙ ends-one false (reverse (map shown seen)) (shown c)

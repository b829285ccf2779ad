-- How the merge of what is shown of candidates is the end of a goal's plan.
use Rattle.std.proofs.Common.{◌≡◌, ℕ, ◌+◌, ◌<◌, Bool, true, false, ◌&&◌, ◌||◌, not, if◌then◌else◌, List, [], ◌∷◌, map, length, drop, get_or, reverse, refl, sym, ◌∙◌, ap, subst, Option, Some, None, option_map}
use Rattle.std.specs.Prelude.{is_some, filter}
use Rattle.std.specs.List.{list_any}
use Rattle.type_terms.specs.Promised.Handles.{Entry}
use Rattle.infer_table.specs.declared.canonical.CanonicalVarKind.{CanonicalVarKind}
use Rattle.infer_table.specs.declared.certainty.TypingMode.TheVariants.{Coherence, PostAnalysis}
use Rattle.infer_table.specs.declared.response.CanonicalResponse.{CanonicalResponse}
use Rattle.infer_table.specs.Responses.{AnswerTrees, answer_trees}
use Rattle.infer_table.specs.Values.{values_of}
use Rattle.infer_table.proofs.Values.{cut-at}
use Rattle.goal_evaluator.specs.declared.candidate.CandidateSource.{CandidateSource}
use Rattle.goal_evaluator.specs.declared.candidate.Considered as InCode
use Rattle.goal_evaluator.specs.declared.candidate.HandlerStep.{HandlerStep}
use Rattle.goal_evaluator.specs.Candidate.{Considered, Next, answer}
use Rattle.goal_evaluator.specs.Merge.{merge_or_flounder, responses}
use Rattle.goal_evaluator.specs.PlanAnswers.{kept_merged, first_passing, taken_or_merged, numbers_but}
use Rattle.goal_evaluator.specs.Plans.{Plan, wanted}
use Rattle.goal_evaluator.specs.Responses.{is_identity_modulo_regions}
use Rattle.goal_evaluator.specs.Table.{workings}
use Rattle.goal_evaluator.specs.TableAnswers.{IsWellFormed}
use Rattle.goal_evaluator.specs.TableOperations.{begin}
use Rattle.goal_evaluator.specs.Tables.{frame_tables}
use Rattle.goal_evaluator.proofs.Filling.{same-values}
use Rattle.goal_frames.specs.Fitting.{ResultFits, ConsideredFits}
use Rattle.goal_frames.specs.Handlers.{same_answer, applies_always}
use Rattle.goal_frames.specs.Merges.{responses_of, merge_of}
use Rattle.goal_evaluator.specs.StepReadings.{Shows, shown_by, result_read}
use Rattle.candidate_model.specs.Solver.{SolverPast, from, is_clause, is_global, is_impl, is_non_global, is_object, is_trivial, gives_none, holds_from, oldest_gives_none, remain, remains}
use Rattle.candidate_assembly.specs.declared.merge.Sources.{Sources}
use Rattle.candidate_assembly.specs.declared.merge.Sources.TheVariants.{All, Trivial, NonGlobalClauses, Clauses, Remaining}
use Rattle.candidate_assembly.specs.Merging.{is_source_among, from_sources, end_in, clause_taken, IsEnd, MergesFrom, AreRemaining}
use Rattle.candidate_assembly.specs.Shown.{first_yes, other_clauses, first_bound_gives_none}
use Rattle.candidate_assembly.proofs.Shown.{holds, answers, all-kept, bound, as_taken, taken_of, clauses_of, yes-shown, others-shown}
use Rattle.type_terms.proofs.BooleanBasics.{twice}
use Rattle.std.proofs.lemmas.List.Elements.{filter_agree}
use Rattle.std.proofs.lemmas.Option.{some_pair_parts}

-- ---- merges
abbrev ends : Option AnswerTrees → Next (workings frame_tables)
ends a = answer a []

merge-kept : (sources : Sources) (es : List Entry) (ks : List CanonicalVarKind) (done : List InCode.Considered) (seen : SolverPast) → Shows (map (shown_by es) done) seen → (Q : CandidateSource → Bool) → ((s : CandidateSource) → is_source_among sources s ≡ Q s)
    → merge_of es ks (responses_of (from_sources sources done)) ≡ merge_or_flounder frame_tables applies_always same_answer (begin ks) (responses frame_tables (filter (from Q) seen))
merge-kept sources es ks done seen h Q same =
    ap (merge_or_flounder frame_tables applies_always same_answer (begin ks))
    (answers (is_source_among sources) es done seen h ∙ ap (responses frame_tables) (filter_agree (from (is_source_among sources)) (from Q) (λ c. same c.spec.source) seen))

abbrev kept_end : List CanonicalVarKind → (SolverPast → CandidateSource → Bool) → SolverPast → Plan frame_tables
kept_end ks Q seen = kept_merged frame_tables applies_always same_answer (begin ks) (from (Q seen)) seen

pub end-kept : (sources : Sources) (es new : List Entry) (ks : List CanonicalVarKind) (done : List InCode.Considered) (Q : SolverPast → CandidateSource → Bool)
    → ((seen : SolverPast) → Shows (map (shown_by es) done) seen → (s : CandidateSource) → is_source_among sources s ≡ Q seen s) → (step : HandlerStep) → MergesFrom sources ks es done new step → IsEnd (kept_end ks Q) es done new step
end-kept sources es new ks done Q same step m = λ seen h kind. m kind ∙ ap ends (merge-kept sources es ks done seen h (Q seen) (same seen h))

pub end-all : (es new : List Entry) (ks : List CanonicalVarKind) (done : List InCode.Considered) (step : HandlerStep) → MergesFrom All ks es done new step → IsEnd (end_in Coherence ks) es done new step
end-all es new ks done step m = λ seen h kind.
    m kind ∙ ap ends (merge-kept All es ks done seen h (λ s. true) (λ s. refl)
    ∙ ap (λ z. merge_or_flounder frame_tables applies_always same_answer (begin ks) (responses frame_tables z)) (all-kept seen))

-- ---- where-clauses
no-pair : (a : Option AnswerTrees) (b : ℕ) → ◌≡◌ {A = Option (Option AnswerTrees × ℕ)} (Some (a, b)) None → ⊥
no-pair a b e = cc

answer-cong : (a c : Option AnswerTrees) (ns ms : List ℕ) → a ≡ c → ns ≡ ms → ◌≡◌ {A = Next (workings frame_tables)} (answer a ns) (answer c ms)
answer-cong a c ns ms e f = cc

pub clause-end : (es : List Entry) (ks : List CanonicalVarKind) (done : List InCode.Considered) (seen : SolverPast) → Shows (map (shown_by es) done) seen → (r : AnswerTrees) (n : ℕ) (ns : List ℕ)
    → ◌≡◌ {A = Option (AnswerTrees × ℕ)} (Some (r, n)) (first_yes (map (shown_by es) done)) → ns ≡ reverse (other_clauses n (map (shown_by es) done)) → ◌≡◌ {A = Next (workings frame_tables)} (answer (Some r) ns) (wanted frame_tables (clause_taken ks seen))
clause-end es ks done seen h r n ns e f = by (first_passing frame_tables applies_always same_answer (begin ks) (clauses_of seen)) (ap (option_map as_taken) (e ∙ ap first_yes h) ∙ yes-shown (begin ks) seen)
  where
    numbers : ns ≡ numbers_but frame_tables n (clauses_of seen)
    numbers = f ∙ ap (λ z. reverse (other_clauses n z)) h ∙ others-shown n seen

    by : (o : Option (Considered (workings frame_tables))) → ◌≡◌ {A = Option (Option AnswerTrees × ℕ)} (Some (Some r, n)) (option_map taken_of o)
        → ◌≡◌ {A = Next (workings frame_tables)} (answer (Some r) ns) (wanted frame_tables (taken_or_merged frame_tables applies_always same_answer (begin ks) (clauses_of seen) o))
    by None q = absurd (no-pair (Some r) n q)
    by (Some c) q =
        let p = some_pair_parts (Some r) c.response n c.number q in
        answer-cong (Some r) c.response ns (numbers_but frame_tables c.number (clauses_of seen)) p.0 (numbers ∙ ap (λ m. numbers_but frame_tables m (clauses_of seen)) p.1)

pub no-clause-end : (es new : List Entry) (ks : List CanonicalVarKind) (done : List InCode.Considered) → None ≡ first_yes (map (shown_by es) done) → (step : HandlerStep) → MergesFrom Clauses ks es done new step → IsEnd (clause_taken ks) es done new step
no-clause-end es new ks done e step m = λ seen h kind.
    end-kept Clauses es new ks done (λ z. is_clause) (λ z g s. refl) step m seen h kind
    ∙ by seen (first_passing frame_tables applies_always same_answer (begin ks) (clauses_of seen)) (ap (option_map as_taken) (e ∙ ap first_yes h) ∙ yes-shown (begin ks) seen)
  where
    none-some : (c : Considered (workings frame_tables)) → None ≡ Some (taken_of c) → ⊥
    none-some c q = cc

    by : (seen : SolverPast) (o : Option (Considered (workings frame_tables))) → None ≡ option_map taken_of o
        → ◌≡◌ {A = Next (workings frame_tables)} (wanted frame_tables (kept_end ks (λ z. is_clause) seen)) (wanted frame_tables (taken_or_merged frame_tables applies_always same_answer (begin ks) (clauses_of seen) o))
    by seen None q = refl
    by seen (Some c) q = absurd (none-some c q)

-- ---- what remains
apart : (i f : Bool) → (not f || not i) ≡ not (i && f)
apart true true = refl
apart true false = refl
apart false true = refl
apart false false = refl

around : (g h : Bool) → (not h || not g) ≡ (not g || not h)
around true true = refl
around true false = refl
around false true = refl
around false false = refl

holds-same : (P Q : CandidateSource → Bool) → ((s : CandidateSource) → P s ≡ Q s) → (seen : SolverPast) → holds_from P seen ≡ holds_from Q seen
holds-same P Q same [] = refl
holds-same P Q same (c ∷ seen) = ap (λ b. (b && is_some c.response) || holds_from P seen) (same c.spec.source) ∙ ap (λ b. (Q c.spec.source && is_some c.response) || b) (holds-same P Q same seen)

pub remaining-are : (es : List Entry) (done : List InCode.Considered) (f g : Bool) → f ≡ first_bound_gives_none false (map (shown_by es) done)
    → g ≡ list_any (λ (d : InCode.Considered). is_source_among (Remaining (not f) false) d.source && is_some d.result) done → AreRemaining (Remaining (not f) (not g)) es done
remaining-are es done f g first others = λ seen h s.
    let oldest : f ≡ oldest_gives_none is_object false seen = first ∙ bound es done seen h in
    let stays = λ (r : CandidateSource). apart (is_impl r) f ∙ ap (λ b. not (is_impl r && b)) oldest in
    let rest : g ≡ holds_from (λ r. remain seen r && not (is_global r)) seen =
    others ∙ holds (is_source_among (Remaining (not f) false)) es done seen h
    ∙ holds-same (is_source_among (Remaining (not f) false)) (λ r. remain seen r && not (is_global r)) (λ r. ap (λ b. b && not (is_global r)) (stays r)) seen in
    ap (λ b. b && (not g || not (is_global s))) (stays s) ∙ ap (λ b. remain seen s && b) (around (is_global s) g ∙ ap (λ b. not (is_global s) || not b) rest)

-- ---- the merge outside coherence
module _ (es new : List Entry) (ks : List CanonicalVarKind) (done : List InCode.Considered) where
  abbrev some_from : Sources → Bool
  some_from sources = list_any (λ (d : InCode.Considered). is_source_among sources d.source && is_some d.result) done

  pub trivial-end : some_from Trivial ≡ true → (step : HandlerStep) → MergesFrom Trivial ks es done new step → IsEnd (end_in PostAnalysis ks) es done new step
  trivial-end e step m = λ seen h kind.
      end-kept Trivial es new ks done (λ z. is_trivial) (λ z g s. refl) step m seen h kind
      ∙ ap (λ (b : Bool). wanted frame_tables (if b then kept_end ks (λ z. is_trivial) seen
      else if holds_from is_non_global seen then clause_taken ks seen else kept_end ks remains seen)) (sym (sym (holds is_trivial es done seen h) ∙ e))

  pub non-global-end : some_from Trivial ≡ false → some_from NonGlobalClauses ≡ true → (step : HandlerStep) → IsEnd (clause_taken ks) es done new step → IsEnd (end_in PostAnalysis ks) es done new step
  non-global-end e f step m = λ seen h kind.
      m seen h kind
      ∙ ap (λ (b : Bool). wanted frame_tables (if b then clause_taken ks seen else kept_end ks remains seen)) (sym (sym (holds is_non_global es done seen h) ∙ f))
      ∙ ap (λ (b : Bool). wanted frame_tables (if b then kept_end ks (λ z. is_trivial) seen
      else if holds_from is_non_global seen then clause_taken ks seen else kept_end ks remains seen)) (sym (sym (holds is_trivial es done seen h) ∙ e))

  pub remaining-end : some_from Trivial ≡ false → some_from NonGlobalClauses ≡ false → (sources : Sources) → AreRemaining sources es done → (step : HandlerStep) → MergesFrom sources ks es done new step → IsEnd (end_in PostAnalysis ks) es done new step
  remaining-end e f sources are step m = λ seen h kind.
      end-kept sources es new ks done remains are step m seen h kind
      ∙ ap (λ (b : Bool). wanted frame_tables (if b then clause_taken ks seen else kept_end ks remains seen)) (sym (sym (holds is_non_global es done seen h) ∙ f))
      ∙ ap (λ (b : Bool). wanted frame_tables (if b then kept_end ks (λ z. is_trivial) seen
      else if holds_from is_non_global seen then clause_taken ks seen else kept_end ks remains seen)) (sym (sym (holds is_trivial es done seen h) ∙ e))

-- ---- a bound that was met
pub bound-here : (es : List Entry) (done : List InCode.Considered) (i : ℕ) (x : InCode.Considered) (r : CanonicalResponse) (b total : Bool) → i < length done → x ≡ get_or done i x → is_object x.source ≡ true → x.result ≡ Some r
    → ConsideredFits es (drop i done) → first_bound_gives_none false (map (shown_by es) (drop i done)) ≡ total → b ≡ is_identity_modulo_regions 0 (values_of es r.var_values.items) → b ≡ total
bound-here es done i x r b total lt is object here fits e q =
    q ∙ sym (twice (is_identity_modulo_regions 0 (values_of es r.var_values.items))) ∙ ap not (sym (same-values (answer_trees es r) formed))
    ∙ ap (λ z. gives_none (Some (answer_trees es r)) z rest) (sym object) ∙ ap (λ z. gives_none (result_read es z) (is_object x.source) rest) (sym here)
    ∙ ap (λ z. first_bound_gives_none false (map (shown_by es) z)) (sym cut) ∙ e
  where
    cut : drop i done ≡ x ∷ drop (i + 1) done
    cut = cut-at done i x lt ∙ ap (λ z. z ∷ drop (i + 1) done) (sym is)

    rest : Bool
    rest = first_bound_gives_none false (map (shown_by es) (drop (i + 1) done))

    formed : IsWellFormed (answer_trees es r)
    formed = let f = subst (ConsideredFits es) cut fits in subst (ResultFits es) here f.0

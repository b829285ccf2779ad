-- The solver's merge of responses outside coherence is lawful: no preference drops all of them, and a single one is the result.
use Rattle.solver_completeness.specs.Closed.{IsBare}
use Rattle.std.proofs.Common.{◌≡◌, ◌≤◌, ◌+◌, ℕ, arith, Bool, true, false, not, ◌&&◌, ◌||◌, if◌then◌else◌, List, [], ◌∷◌, ◌++◌, length, length-append, filter, ◌⊎◌, inl, inr, refl, sym, ◌∙◌, ap, subst, Option, Some, None, is_some}
use Rattle.infer_table.specs.Responses.{AnswerTrees}
use Rattle.infer_table.specs.declared.certainty.Certainty.{Certainty}
use Rattle.goal_evaluator.specs.declared.candidate.CandidateSource.{CandidateSource}
use Rattle.goal_evaluator.specs.declared.candidate.CandidateSource.TheVariants.{Impl, BuiltinImpl, ParamEnv, CoherenceUnknowable}
use Rattle.goal_evaluator.specs.Lists.{Every, SomeOf}
use Rattle.goal_evaluator.specs.declared.candidate.ParamEnvSource.TheVariants.{Global, NonGlobal}
use Rattle.goal_evaluator.specs.Operations.{is_yes}
use Rattle.goal_evaluator.specs.Table.{operations, workings}
use Rattle.goal_evaluator.specs.Candidate.{Considered}
use Rattle.goal_evaluator.specs.Merge.{responses, if_there, or_else}
use Rattle.goal_evaluator.specs.PlanAnswers.{passes, first_passing, if_so, taken_or_merged, first_taken}
use Rattle.goal_evaluator.proofs.ListLaws.{Every-mono, SomeOf-mono}
use Rattle.goal_evaluator.specs.FrameTables.{FrameTable}
use Rattle.goal_evaluator.specs.Tables.{frame_tables}
use Rattle.solver_completeness.specs.Exact.{IsMadeOfResponses}
use Rattle.solver_completeness.proofs.ExactPlans.{IsExactFrom, EndsSo}
use Rattle.solver_completeness.proofs.FewWays.{MergesEach}
use Rattle.solver_completeness.proofs.Merging.{merged, merged-one, merged-some, merged-bare}
use Rattle.candidate_model.specs.Candidates.{Candidate}
use Rattle.candidate_model.specs.Solver.{SolverPast, from, holds_from, is_clause, is_non_global, is_global, is_impl, is_object, is_trivial, gives_none, oldest_gives_none, remain, remains, says_nothing, is_settled, preferred}

abbrev Heed : Type 0
Heed = Considered (workings frame_tables)

false-is-true : {A : Type 0} → false ≡ true → A
false-is-true e = absurd (cc)

left-true : (a b : Bool) → (a && b) ≡ true → a ≡ true
left-true true b e = refl
left-true false b e = false-is-true e

right-true : (a b : Bool) → (a && b) ≡ true → b ≡ true
right-true true b e = e
right-true false b e = false-is-true e

-- ---- what was heard
-- some candidate from there was not refused
abbrev pub Heard : (CandidateSource → Bool) → SolverPast → Type 0
Heard p seen = SomeOf (λ (c : Heed). (from p c ≡ true) × (is_some c.response ≡ true)) seen

pub heard-from : (p : CandidateSource → Bool) (seen : SolverPast) → holds_from p seen ≡ true → Heard p seen
heard-from p [] e = false-is-true e
heard-from p (c ∷ seen) e = by (from p c && is_some c.response) refl e (λ f. heard-from p seen f)
  where
    by : (b : Bool) → (from p c && is_some c.response) ≡ b → (b || holds_from p seen) ≡ true → (holds_from p seen ≡ true → Heard p seen) → Heard p (c ∷ seen)
    by true q e go = inl (left-true (from p c) (is_some c.response) q, right-true (from p c) (is_some c.response) q)
    by false q e go = inr (go e)

heard-more : (p q : CandidateSource → Bool) → ((s : CandidateSource) → p s ≡ true → q s ≡ true) → (seen : SolverPast) → Heard p seen → Heard q seen
heard-more p q f seen h = SomeOf-mono (λ (c : Heed). (from p c ≡ true) × (is_some c.response ≡ true)) (λ (c : Heed). (from q c ≡ true) × (is_some c.response ≡ true)) (λ c x. (f c.spec.source x.0, x.1)) seen h

-- those that pass a test, or one that doesn't
heard-either : (p : CandidateSource → Bool) (seen : SolverPast) → Heard (λ s. true) seen → Heard p seen ⊎ Heard (λ s. not (p s)) seen
heard-either p [] h = absurd h
heard-either p (c ∷ seen) (inl x) = by (from p c) refl
  where
    by : (b : Bool) → from p c ≡ b → Heard p (c ∷ seen) ⊎ Heard (λ s. not (p s)) (c ∷ seen)
    by true e = inl (inl (e, x.1))
    by false e = inr (inl (ap not e, x.1))
heard-either p (c ∷ seen) (inr h) = by (heard-either p seen h)
  where
    by : Heard p seen ⊎ Heard (λ s. not (p s)) seen → Heard p (c ∷ seen) ⊎ Heard (λ s. not (p s)) (c ∷ seen)
    by (inl x) = inl (inr x)
    by (inr x) = inr (inr x)

-- ---- responses
pub any-heard : (r : AnswerTrees) (rs : List AnswerTrees) (seen : SolverPast) → responses frame_tables seen ≡ r ∷ rs → Heard (λ s. true) seen
any-heard r rs [] e = absurd (cc)
any-heard r rs (c ∷ seen) e = by c.response refl (responses frame_tables seen) refl e (λ x xs f. any-heard x xs seen f)
  where
    by : (o : Option AnswerTrees) → c.response ≡ o → (xs : List AnswerTrees) → responses frame_tables seen ≡ xs → (xs ++ if_there o) ≡ r ∷ rs
        → ((x : AnswerTrees) (ys : List AnswerTrees) → responses frame_tables seen ≡ x ∷ ys → Heard (λ s. true) seen) → Heard (λ s. true) (c ∷ seen)
    by (Some x) q xs g f go = inl (refl, ap is_some q)
    by None q [] g f go = absurd (cc)
    by None q (x ∷ xs) g f go = inr (go x xs g)

some-after : (xs ys : List AnswerTrees) (y : AnswerTrees) (zs : List AnswerTrees) → ys ≡ y ∷ zs → (r : AnswerTrees) × (rs : List AnswerTrees) × (xs ++ ys ≡ r ∷ rs)
some-after [] ys y zs e = (y, zs, e)
some-after (x ∷ xs) ys y zs e = (x, xs ++ ys, refl)

some-before : (xs ys : List AnswerTrees) (x : AnswerTrees) (zs : List AnswerTrees) → xs ≡ x ∷ zs → (r : AnswerTrees) × (rs : List AnswerTrees) × (xs ++ ys ≡ r ∷ rs)
some-before xs ys x zs e = (x, zs ++ ys, ap (λ w. w ++ ys) e)

if-there : (o : Option AnswerTrees) → is_some o ≡ true → (y : AnswerTrees) × (if_there o ≡ y ∷ [])
if-there (Some x) e = (x, refl)
if-there None e = false-is-true e

-- those that are kept have a response
kept-heard : (p : CandidateSource → Bool) (seen : SolverPast) → Heard p seen → (r : AnswerTrees) × (rs : List AnswerTrees) × (responses frame_tables (filter (from p) seen) ≡ r ∷ rs)
kept-heard p [] h = absurd h
kept-heard p (c ∷ seen) (inl x) = by (from p c) x.0
  where
    by : (b : Bool) → b ≡ true → (r : AnswerTrees) × (rs : List AnswerTrees) × (responses frame_tables (if b then c ∷ filter (from p) seen else filter (from p) seen) ≡ r ∷ rs)
    by true e = let y = if-there c.response x.1 in some-after (responses frame_tables (filter (from p) seen)) (if_there c.response) y.0 [] y.1
    by false e = false-is-true e
kept-heard p (c ∷ seen) (inr h) = by (from p c) (kept-heard p seen h)
  where
    by : (b : Bool) → (r : AnswerTrees) × (rs : List AnswerTrees) × (responses frame_tables (filter (from p) seen) ≡ r ∷ rs)
        → (r : AnswerTrees) × (rs : List AnswerTrees) × (responses frame_tables (if b then c ∷ filter (from p) seen else filter (from p) seen) ≡ r ∷ rs)
    by true y = some-before (responses frame_tables (filter (from p) seen)) (if_there c.response) y.0 y.1 y.2
    by false y = y

every-append : (P : AnswerTrees → Type 0) (xs ys : List AnswerTrees) → Every P xs → Every P ys → Every P (xs ++ ys)
every-append P [] ys h g = g
every-append P (x ∷ xs) ys h g = (h.0, every-append P xs ys h.1 g)

every-parts : (P : AnswerTrees → Type 0) (xs ys : List AnswerTrees) → Every P (xs ++ ys) → Every P xs × Every P ys
every-parts P [] ys h = (tt, h)
every-parts P (x ∷ xs) ys h = let y = every-parts P xs ys h.1 in ((h.0, y.0), y.1)

-- what holds of all responses holds of those that are kept
kept-every : (P : AnswerTrees → Type 0) (p : CandidateSource → Bool) (seen : SolverPast) → Every P (responses frame_tables seen) → Every P (responses frame_tables (filter (from p) seen))
kept-every P p [] h = tt
kept-every P p (c ∷ seen) h =
    let y = every-parts P (responses frame_tables seen) (if_there c.response) h in by (from p c) (kept-every P p seen y.0) y.1
  where
    by : (b : Bool) → Every P (responses frame_tables (filter (from p) seen)) → Every P (if_there c.response)
        → Every P (responses frame_tables (if b then c ∷ filter (from p) seen else filter (from p) seen))
    by true h g = every-append P (responses frame_tables (filter (from p) seen)) (if_there c.response) h g
    by false h g = h

kept-fewer : (p : CandidateSource → Bool) (seen : SolverPast) → length (responses frame_tables (filter (from p) seen)) ≤ length (responses frame_tables seen)
kept-fewer p [] = omega arith
kept-fewer p (c ∷ seen) = by (from p c) (kept-fewer p seen)
  where
    by : (b : Bool) → length (responses frame_tables (filter (from p) seen)) ≤ length (responses frame_tables seen)
        → length (responses frame_tables (if b then c ∷ filter (from p) seen else filter (from p) seen)) ≤ length (responses frame_tables seen ++ if_there c.response)
    by true h = omega (arith, h, length-append (responses frame_tables (filter (from p) seen)) (if_there c.response), length-append (responses frame_tables seen) (if_there c.response))
    by false h = omega (arith, h, length-append (responses frame_tables seen) (if_there c.response))

none-kept : (p : CandidateSource → Bool) (seen : SolverPast) → responses frame_tables seen ≡ [] → responses frame_tables (filter (from p) seen) ≡ []
none-kept p seen e = by (responses frame_tables (filter (from p) seen)) (kept-every (λ r. ⊥) p seen (subst (λ rs. Every (λ r. ⊥) rs) (sym e) tt))
  where
    by : (rs : List AnswerTrees) → Every (λ r. ⊥) rs → rs ≡ []
    by [] h = refl
    by (x ∷ xs) h = absurd h.0

one-kept : (p : CandidateSource → Bool) (seen : SolverPast) (r : AnswerTrees) → responses frame_tables seen ≡ r ∷ [] → Heard p seen → responses frame_tables (filter (from p) seen) ≡ r ∷ []
one-kept p seen r e h =
    by (responses frame_tables (filter (from p) seen)) (kept-heard p seen h).0 (kept-heard p seen h).1 (kept-heard p seen h).2
    (kept-every (λ x. x ≡ r) p seen (subst (λ rs. Every (λ x. x ≡ r) rs) (sym e) (refl, tt)))
    (subst (λ rs. length (responses frame_tables (filter (from p) seen)) ≤ length rs) e (kept-fewer p seen))
  where
    by : (rs : List AnswerTrees) (x : AnswerTrees) (xs : List AnswerTrees) → rs ≡ x ∷ xs → Every (λ y. y ≡ r) rs → length rs ≤ 1 → rs ≡ r ∷ []
    by [] x xs f g n = absurd (cc)
    by (y ∷ []) x xs f g n = ap (λ z. z ∷ []) g.0
    by (y ∷ z ∷ ys) x xs f g n = absurd (omega (arith, n))

-- if those of the first sources that have a response are of the second sources, they are no more than these
fewer-kept : (p q : CandidateSource → Bool) (seen : SolverPast) → Every (λ (c : Heed). from p c ≡ true → is_some c.response ≡ true → from q c ≡ true) seen
    → length (responses frame_tables (filter (from p) seen)) ≤ length (responses frame_tables (filter (from q) seen))
fewer-kept p q [] h = omega arith
fewer-kept p q (c ∷ seen) h =
    subst (λ rs. length rs ≤ length (responses frame_tables (filter (from q) (c ∷ seen)))) (sym (pushed (filter (from p) seen) (from p c)))
    (subst (λ rs. length (if from p c then xs ++ if_there c.response else xs) ≤ length rs) (sym (pushed (filter (from q) seen) (from q c))) (by (from p c) (from q c) c.response h.0 (fewer-kept p q seen h.1)))
  where
    xs : List AnswerTrees
    xs = responses frame_tables (filter (from p) seen)

    ys : List AnswerTrees
    ys = responses frame_tables (filter (from q) seen)

    pushed : (before : SolverPast) (b : Bool) → responses frame_tables (if b then c ∷ before else before) ≡ (if b then responses frame_tables before ++ if_there c.response else responses frame_tables before)
    pushed before true = refl
    pushed before false = refl

    by : (b d : Bool) (o : Option AnswerTrees) → (b ≡ true → is_some o ≡ true → d ≡ true) → length xs ≤ length ys → length (if b then xs ++ if_there o else xs) ≤ length (if d then ys ++ if_there o else ys)
    by true true o h l = omega (arith, l, length-append xs (if_there o), length-append ys (if_there o))
    by true false None h l =
        let e : length (xs ++ []) ≡ length xs + 0 = length-append xs [] in
        omega (arith, l, e)
    by true false (Some r) h l = false-is-true (h refl refl)
    by false true o h l = omega (arith, l, length-append ys (if_there o))
    by false false o h l = l

-- no candidate from there has a response
none-from : (p : CandidateSource → Bool) (seen : SolverPast) → holds_from p seen ≡ false → Every (λ (c : Heed). (from p c && is_some c.response) ≡ false) seen
none-from p [] e = tt
none-from p (c ∷ seen) e = let x = neither (from p c && is_some c.response) (holds_from p seen) e in (x.0, none-from p seen x.1)
  where
    neither : (a b : Bool) → (a || b) ≡ false → (a ≡ false) × (b ≡ false)
    neither false false e = (refl, refl)
    neither true b e = absurd (cc)
    neither false true e = absurd (cc)

-- ---- which are merged where no where-clause is preferred
oldest-heard : (p : CandidateSource → Bool) (b : Bool) (seen : SolverPast) → oldest_gives_none p b seen ≡ true → (b ≡ true) ⊎ Heard p seen
oldest-heard p b [] e = inl e
oldest-heard p b (c ∷ seen) e = by (oldest-heard p (gives_none c.response (from p c) b) seen e)
  where
    first : (o : Option AnswerTrees) (d : Bool) → gives_none o d b ≡ true → (b ≡ true) ⊎ ((d ≡ true) × (is_some o ≡ true))
    first (Some r) true e = inr (refl, refl)
    first (Some r) false e = inl e
    first None d e = inl e

    then_so : (b ≡ true) ⊎ ((from p c ≡ true) × (is_some c.response ≡ true)) → (b ≡ true) ⊎ Heard p (c ∷ seen)
    then_so (inl x) = inl x
    then_so (inr x) = inr (inl x)

    by : (gives_none c.response (from p c) b ≡ true) ⊎ Heard p seen → (b ≡ true) ⊎ Heard p (c ∷ seen)
    by (inl x) = then_so (first c.response (from p c) x)
    by (inr h) = inr (inr h)

object-heard : (seen : SolverPast) → oldest_gives_none is_object false seen ≡ true → Heard is_object seen
object-heard seen e = by (oldest-heard is_object false seen e)
  where
    by : (false ≡ true) ⊎ Heard is_object seen → Heard is_object seen
    by (inl x) = false-is-true x
    by (inr h) = h

-- an object bound is no impl and no where-clause
object-stays : (b : Bool) (s : CandidateSource) → is_object s ≡ true → (not (is_impl s && b) && not (is_global s)) ≡ true
object-stays b (Impl i) e = false-is-true e
object-stays b (ParamEnv g) e = false-is-true e
object-stays b CoherenceUnknowable e = false-is-true e
object-stays b (BuiltinImpl x) e = refl

abbrev local_remain : SolverPast → CandidateSource → Bool
local_remain seen s = remain seen s && not (is_global s)

-- what remains and is not global remains in the end, and so does what is global if there is no other
not-global-stays : (x g b : Bool) → (x && not g) ≡ true → (x && (not g || not b)) ≡ true
not-global-stays true false b e = refl
not-global-stays true true b e = false-is-true e
not-global-stays false g b e = false-is-true e

alone-stays : (x g b : Bool) → b ≡ false → x ≡ true → (x && (not g || not b)) ≡ true
alone-stays true true false e f = refl
alone-stays true false false e f = refl
alone-stays true g true e f = false-is-true (sym e)
alone-stays false g b e f = false-is-true f

remains-local : (seen : SolverPast) → Heard (local_remain seen) seen → Heard (remains seen) seen
remains-local seen h = heard-more (local_remain seen) (remains seen) (λ s e. not-global-stays (remain seen s) (is_global s) (holds_from (λ r. remain seen r && not (is_global r)) seen) e) seen h

remains-first : (seen : SolverPast) → Heard (remain seen) seen → Heard (remains seen) seen
remains-first seen h = by (holds_from (λ r. remain seen r && not (is_global r)) seen) refl
  where
    by : (b : Bool) → holds_from (λ r. remain seen r && not (is_global r)) seen ≡ b → Heard (remains seen) seen
    by true e = remains-local seen (heard-from (local_remain seen) seen e)
    by false e = heard-more (remain seen) (remains seen) (λ s f. alone-stays (remain seen s) (is_global s) (holds_from (λ r. remain seen r && not (is_global r)) seen) e f) seen h

was-dropped : (a b : Bool) → not (not (a && b)) ≡ true → b ≡ true
was-dropped true true e = refl
was-dropped true false e = false-is-true e
was-dropped false b e = false-is-true e

dropped-by : (b : Bool) (seen : SolverPast) → Heard (λ s. not (not (is_impl s && b))) seen → b ≡ true
dropped-by b [] h = absurd h
dropped-by b (c ∷ seen) (inl x) = was-dropped (from is_impl c) b x.0
dropped-by b (c ∷ seen) (inr h) = dropped-by b seen h

remains-heard : (seen : SolverPast) → Heard (λ s. true) seen → Heard (remains seen) seen
remains-heard seen h = by (heard-either (remain seen) seen h)
  where
    by : Heard (remain seen) seen ⊎ Heard (λ s. not (remain seen s)) seen → Heard (remains seen) seen
    by (inl x) = remains-first seen x
    by (inr x) =
        remains-local seen
        (heard-more is_object (local_remain seen) (object-stays (oldest_gives_none is_object false seen)) seen (object-heard seen (dropped-by (oldest_gives_none is_object false seen) seen x)))

-- a candidate by a where-clause
abbrev pub is_by_clause : Candidate → Bool
is_by_clause c = is_clause c.source

-- one definite yes of a where-clause, and one of another candidate, are merged to a definite yes
abbrev pub MergesSo : SolverPast → Option AnswerTrees → Type 0
MergesSo seen a = MergesEach frame_tables is_by_clause seen a

-- ---- plans that end
module _ (applicable : AnswerTrees → Bool) (same : AnswerTrees → AnswerTrees → Bool) (begin : FrameTable) (silent : (c : Certainty) → frame_tables.has_values (frame_tables.respond begin c) ≡ false) where
  abbrev Bare : AnswerTrees → Type 0
  Bare r = frame_tables.has_values r ≡ false

  abbrev Joined : List AnswerTrees → Option AnswerTrees
  Joined rs = merged frame_tables applicable same begin rs

  -- the kept ones are merged, and some one is kept where something was not refused
  pub kept-made : (p : CandidateSource → Bool) (left : List Candidate) (seen : SolverPast) → (responses frame_tables seen ≡ [] → left ≡ []) → (Heard (λ s. true) seen → Heard p seen)
      → IsMadeOfResponses frame_tables left seen (Joined (responses frame_tables (filter (from p) seen)))
  kept-made p left seen none_left keeps = record {
    refused = λ e. (ap Joined (none-kept p seen e), none_left e);
    answers = λ r rs e. let y = kept-heard p seen (keeps (any-heard r rs seen e)) in let z = merged-some frame_tables applicable same begin y.0 y.1 in (z.0, ap Joined y.2 ∙ z.1);
    bare = λ h. merged-bare frame_tables applicable same begin silent (responses frame_tables (filter (from p) seen)) (kept-every Bare p seen h);
    only = λ r e i. ap Joined (one-kept p seen r e (keeps (any-heard r [] seen e))) ∙ merged-one frame_tables applicable same begin r;
  }

  -- ---- the first that passes
  pub passing-holds : (P : AnswerTrees → Type 0) (seen : SolverPast) (c : Heed) → first_passing frame_tables applicable same begin seen ≡ Some c → Every P (responses frame_tables seen)
      → (x : AnswerTrees) × (c.response ≡ Some x) × P x
  passing-holds P [] c e h = absurd (cc)
  passing-holds P (d ∷ seen) c e h =
      let y = every-parts P (responses frame_tables seen) (if_there d.response) h in
      by (first_passing frame_tables applicable same begin seen) refl e y.1 (λ q. passing-holds P seen c q y.0)
    where
      same-one : (x z : Heed) → ◌≡◌ {A = Option Heed} (Some x) (Some z) → x ≡ z
      same-one x z q = cc

      at : (o : Option AnswerTrees) → d.response ≡ o → if_so (passes frame_tables applicable same begin o) d ≡ Some c → Every P (if_there o) → (x : AnswerTrees) × (c.response ≡ Some x) × P x
      at None q f g = absurd (cc)
      at (Some x) q f g = go (applicable x) f
        where
          go : (b : Bool) → if_so b d ≡ Some c → (y : AnswerTrees) × (c.response ≡ Some y) × P y
          go true f = (x, ap (λ (z : Heed). z.response) (sym (same-one d c f)) ∙ q, g.0)
          go false f = absurd (cc)

      by : (o : Option Heed) → first_passing frame_tables applicable same begin seen ≡ o → or_else o (if_so (passes frame_tables applicable same begin d.response) d) ≡ Some c → Every P (if_there d.response)
          → (first_passing frame_tables applicable same begin seen ≡ Some c → (x : AnswerTrees) × (c.response ≡ Some x) × P x) → (x : AnswerTrees) × (c.response ≡ Some x) × P x
      by (Some z) q f g go = go (q ∙ f)
      by None q f g go = at d.response refl f g

  module _ (p : CandidateSource → Bool) (left : List Candidate) (seen : SolverPast) (none_left : responses frame_tables seen ≡ [] → left ≡ []) (keeps : Heard (λ s. true) seen → Heard p seen) where
    taken : (c : Heed) → first_passing frame_tables applicable same begin (filter (from p) seen) ≡ Some c → IsMadeOfResponses frame_tables left seen c.response
    taken c e = record {
      refused = λ n. absurd ((passing-holds (λ r. ⊥) (filter (from p) seen) c e (kept-every (λ r. ⊥) p seen (subst (λ rs. Every (λ r. ⊥) rs) (sym n) tt))).2);
      answers = λ r rs n. let y = passing-holds (λ r. Unit {0}) (filter (from p) seen) c e (all-units (responses frame_tables (filter (from p) seen))) in (y.0, y.1);
      bare = λ h. let y = passing-holds Bare (filter (from p) seen) c e (kept-every Bare p seen h) in subst (λ o. IsBare frame_tables o) (sym y.1) y.2;
      only = λ r n i. let y = passing-holds (λ x. x ≡ r) (filter (from p) seen) c e (kept-every (λ x. x ≡ r) p seen (subst (λ rs. Every (λ x. x ≡ r) rs) (sym n) (refl, tt))) in y.1 ∙ ap Some y.2;
    }
      where
        all-units : (rs : List AnswerTrees) → Every (λ r. Unit {0}) rs
        all-units [] = tt
        all-units (r ∷ rs) = (tt, all-units rs)

    pub taken-made : (o : Option Heed) → first_passing frame_tables applicable same begin (filter (from p) seen) ≡ o → IsExactFrom frame_tables left seen (taken_or_merged frame_tables applicable same begin (filter (from p) seen) o)
    taken-made (Some c) e = taken c e
    taken-made None e = kept-made p left seen none_left keeps

  non-global-clause : (s : CandidateSource) → is_non_global s ≡ true → is_clause s ≡ true
  non-global-clause (ParamEnv g) e = refl
  non-global-clause (Impl i) e = false-is-true e
  non-global-clause (BuiltinImpl x) e = false-is-true e
  non-global-clause CoherenceUnknowable e = false-is-true e

  -- the preferences
  pub preferred-exact : (left : List Candidate) (seen : SolverPast) → (responses frame_tables seen ≡ [] → left ≡ []) → IsExactFrom frame_tables left seen (preferred applicable same begin seen)
  preferred-exact left seen none_left = by (holds_from is_trivial seen) refl (holds_from is_non_global seen) refl
    where
      by : (b : Bool) → holds_from is_trivial seen ≡ b → (d : Bool) → holds_from is_non_global seen ≡ d
          → IsExactFrom frame_tables left seen (if b then Rattle.candidate_model.specs.Solver.merged applicable same begin is_trivial seen
          else if d then first_taken frame_tables applicable same begin (from is_clause) seen
          else Rattle.candidate_model.specs.Solver.merged applicable same begin (remains seen) seen)
      by true e d f = kept-made is_trivial left seen none_left (λ h. heard-from is_trivial seen e)
      by false e true f =
          taken-made is_clause left seen none_left (λ h. heard-more is_non_global is_clause non-global-clause seen (heard-from is_non_global seen f))
          (first_passing frame_tables applicable same begin (filter (from is_clause) seen)) refl
      by false e false f = kept-made (remains seen) left seen none_left (remains-heard seen)

  -- ---- where-clauses and other candidates, of each of which at most one has a response, and that is a definite yes
  abbrev IsYes : AnswerTrees → Type 0
  IsYes r = is_yes (operations frame_tables) r ≡ true

  some-same : (r x : AnswerTrees) → ◌≡◌ {A = Option AnswerTrees} (Some r) (Some x) → r ≡ x
  some-same r x e = cc

  none-some : (x : AnswerTrees) → ◌≡◌ {A = Option AnswerTrees} None (Some x) → ⊥
  none-some x e = cc

  one-yes : (rs : List AnswerTrees) → Every IsYes rs → length rs ≤ 1 → (x : AnswerTrees) → Joined rs ≡ Some x → IsYes x
  one-yes [] h l x e = absurd (none-some x e)
  one-yes (r ∷ []) h l x e = subst IsYes (some-same r x (sym (merged-one frame_tables applicable same begin r) ∙ e)) h.0
  one-yes (r ∷ s ∷ rs) h l x e = absurd (omega (arith, l))

  kept-yes : (p : CandidateSource → Bool) (seen : SolverPast) → Every IsYes (responses frame_tables seen) → length (responses frame_tables (filter (from p) seen)) ≤ 1
      → (x : AnswerTrees) → Joined (responses frame_tables (filter (from p) seen)) ≡ Some x → IsYes x
  kept-yes p seen h l x e = one-yes (responses frame_tables (filter (from p) seen)) (kept-every IsYes p seen h) l x e

  under : (a b c : ℕ) → a ≤ b → b ≤ c → a ≤ c
  under a b c h g = omega (arith, h, g)

  trivial-other : (s : CandidateSource) → is_trivial s ≡ true → not (is_clause s) ≡ true
  trivial-other (ParamEnv g) e = false-is-true e
  trivial-other (Impl i) e = refl
  trivial-other (BuiltinImpl x) e = refl
  trivial-other CoherenceUnknowable e = refl

  global-is-clause : (s : CandidateSource) → is_global s ≡ true → is_clause s ≡ true
  global-is-clause (ParamEnv g) e = refl
  global-is-clause (Impl i) e = false-is-true e
  global-is-clause (BuiltinImpl x) e = false-is-true e
  global-is-clause CoherenceUnknowable e = false-is-true e

  no-clause : (s : CandidateSource) → is_global s ≡ false → is_non_global s ≡ false → not (is_clause s) ≡ true
  no-clause (ParamEnv Global) e f = false-is-true (sym e)
  no-clause (ParamEnv NonGlobal) e f = false-is-true (sym f)
  no-clause (Impl i) e f = refl
  no-clause (BuiltinImpl x) e f = refl
  no-clause CoherenceUnknowable e f = refl

  -- those that remain beside another candidate are not global, and alone they are
  beside-local : (x g b : Bool) → (x && (not g || not b)) ≡ true → b ≡ true → g ≡ false
  beside-local true false b e f = refl
  beside-local true true true e f = false-is-true e
  beside-local true true false e f = false-is-true f
  beside-local false g b e f = false-is-true e

  alone-global : (x g i b : Bool) → ((x && not g) && i) ≡ false → i ≡ true → (x && (not g || not b)) ≡ true → g ≡ true
  alone-global true true i b e f h = refl
  alone-global true false true b e f h = false-is-true (sym e)
  alone-global true false false b e f h = false-is-true f
  alone-global false g i b e f h = false-is-true h

  not-both : (a b : Bool) → (a && b) ≡ false → b ≡ true → a ≡ false
  not-both false b e f = refl
  not-both true true e f = false-is-true (sym e)
  not-both true false e f = false-is-true f

  all-sources : (p q : CandidateSource → Bool) → ((s : CandidateSource) → p s ≡ true → q s ≡ true) → (seen : SolverPast) → Every (λ (c : Heed). from p c ≡ true → is_some c.response ≡ true → from q c ≡ true) seen
  all-sources p q f [] = tt
  all-sources p q f (c ∷ seen) = (λ e i. f c.spec.source e, all-sources p q f seen)

  module _ (seen : SolverPast) where
    abbrev Own : Type 0
    Own = length (responses frame_tables (filter (from is_clause) seen)) ≤ 1

    abbrev Others : Type 0
    Others = length (responses frame_tables (filter (from (λ s. not (is_clause s))) seen)) ≤ 1

    remaining : holds_from is_non_global seen ≡ false → Own → Others → length (responses frame_tables (filter (from (remains seen)) seen)) ≤ 1
    remaining quiet own others = by (holds_from (local_remain seen) seen) refl
      where
        by : (b : Bool) → holds_from (local_remain seen) seen ≡ b → length (responses frame_tables (filter (from (remains seen)) seen)) ≤ 1
        by true e =
            under _ _ 1
            (fewer-kept (remains seen) (λ s. not (is_clause s)) seen
            (Every-mono (λ (c : Heed). (from is_non_global c && is_some c.response) ≡ false) (λ (c : Heed). from (remains seen) c ≡ true → is_some c.response ≡ true → from (λ s. not (is_clause s)) c ≡ true)
            (λ c n q i. no-clause c.spec.source (beside-local (remain seen c.spec.source) (is_global c.spec.source) (holds_from (local_remain seen) seen) q e) (not-both (is_non_global c.spec.source) (is_some c.response) n i))
            seen (none-from is_non_global seen quiet)))
            others
        by false e =
            under _ _ 1
            (fewer-kept (remains seen) is_clause seen
            (Every-mono (λ (c : Heed). (from (local_remain seen) c && is_some c.response) ≡ false) (λ (c : Heed). from (remains seen) c ≡ true → is_some c.response ≡ true → from is_clause c ≡ true)
            (λ c n q i. global-is-clause c.spec.source (alone-global (remain seen c.spec.source) (is_global c.spec.source) (is_some c.response) (holds_from (local_remain seen) seen) n i q))
            seen (none-from (local_remain seen) seen e)))
            own

    taken-ends : (o : Option Heed) → first_passing frame_tables applicable same begin (filter (from is_clause) seen) ≡ o
        → EndsSo frame_tables MergesSo seen (taken_or_merged frame_tables applicable same begin (filter (from is_clause) seen) o)
    taken-ends (Some c) e = λ h own others x q.
        let y = passing-holds IsYes (filter (from is_clause) seen) c e (kept-every IsYes is_clause seen h) in
        subst IsYes (some-same y.0 x (sym y.1 ∙ q)) y.2
    taken-ends None e = λ h own others x q. kept-yes is_clause seen h own x q

    pub preferred-ends : EndsSo frame_tables MergesSo seen (preferred applicable same begin seen)
    preferred-ends = by (holds_from is_trivial seen) (holds_from is_non_global seen) refl
      where
        by : (b d : Bool) → holds_from is_non_global seen ≡ d
            → EndsSo frame_tables MergesSo seen (if b then Rattle.candidate_model.specs.Solver.merged applicable same begin is_trivial seen
            else if d then first_taken frame_tables applicable same begin (from is_clause) seen
            else Rattle.candidate_model.specs.Solver.merged applicable same begin (remains seen) seen)
        by true d f = λ h own others x q. kept-yes is_trivial seen h (under _ _ 1 (fewer-kept is_trivial (λ s. not (is_clause s)) seen (all-sources is_trivial (λ s. not (is_clause s)) trivial-other seen)) others) x q
        by false true f = taken-ends (first_passing frame_tables applicable same begin (filter (from is_clause) seen)) refl
        by false false f = λ h own others x q. kept-yes (remains seen) seen h (remaining f own others) x q

-- a where-clause that settles the goal was not refused
pub settled-heard : (seen : SolverPast) → is_settled seen ≡ true → responses frame_tables seen ≡ [] → ⊥
settled-heard [] e n = false-is-true e
settled-heard (c ∷ seen) e n = by (from is_non_global c && says_nothing c.response) refl e (λ f g. settled-heard seen f g)
  where
    left-none : (xs ys : List AnswerTrees) → xs ++ ys ≡ [] → (xs ≡ []) × (ys ≡ [])
    left-none [] ys q = (refl, q)
    left-none (x ∷ xs) ys q = absurd (cc)

    there : (o : Option AnswerTrees) → says_nothing o ≡ true → if_there o ≡ [] → ⊥
    there None q f = false-is-true q
    there (Some r) q f = absurd (cc)

    by : (b : Bool) → (from is_non_global c && says_nothing c.response) ≡ b → (b || is_settled seen) ≡ true → (is_settled seen ≡ true → responses frame_tables seen ≡ [] → ⊥) → ⊥
    by true q f go = there c.response (right-true (from is_non_global c) (says_nothing c.response) q) (left-none (responses frame_tables seen) (if_there c.response) n).1
    by false q f go = go f (left-none (responses frame_tables seen) (if_there c.response) n).0

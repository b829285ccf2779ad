-- The nested goals and responses of rounds, candidates and frames, as long as their tables and nested goals are well-formed.
use Rattle.std.proofs.Common.{◌≡◌, ℕ, zero, suc, Bool, true, false, List, [], ◌∷◌, refl, Option, Some, None}
use Rattle.infer_table.specs.declared.certainty.Certainty.{Certainty}
use Rattle.infer_table.specs.declared.certainty.Certainty.TheVariants.{Maybe}
use Rattle.infer_table.specs.declared.certainty.MaybeCause.TheVariants.{Ambiguity}
use Rattle.infer_table.specs.Certainties.{joined}
use Rattle.goal_evaluator.specs.declared.TheConstants.{FIXPOINT_STEP_LIMIT}
use Rattle.goal_evaluator.specs.Lists.{Every, IsNoneOf}
use Rattle.goal_evaluator.specs.Operations.{is_yes}
use Rattle.goal_evaluator.specs.Table.{Tables, operations, workings, IsTable}
use Rattle.goal_evaluator.specs.Rounds.{Round, Rounds, kept, judged, applied, replied, round, settled, next_round, rounds}
use Rattle.goal_evaluator.specs.Candidate.{Spec, Considered, Next, consider, answer, answered, equated, candidate, goes_on, frame, IsHistory, used_numbers}
use Rattle.goal_evaluator.specs.Handler.{Handled}
use Rattle.goal_evaluator.specs.History.{evaluate, asks, CameInOrder}
use Rattle.goal_evaluator.specs.Promises.{frame_of_goal, Anything, History}
use Rattle.goal_evaluator.proofs.Scripts.{Asks, FrameAsks, Asks-followed, Asks-mono}
use Rattle.goal_evaluator.proofs.Histories.{asks_so}

module _ {Question Response : Type 0} (t : Tables Question Response) where
  -- what is to hold of tables, of nested goals, of questions, of answers to them, and of responses
  pub record Invariant : Type 1 where
    pub Tabled : t.Table → Type 0
    pub Nested : t.Nested → Type 0
    pub Asked : Question → Type 0
    pub Heard : Question → Option Response → Type 0
    pub Responded : Option Response → Type 0

  module _ (i : Invariant) where
    -- what is done with a table keeps it so
    pub record IsKept : Type 0 where
      pub question : (T : t.Table) (n : t.Nested) → i.Tabled T → i.Nested n → i.Asked (t.question T n)
      pub apply : (T U : t.Table) (n : t.Nested) (r : Response) → i.Tabled T → i.Nested n → i.Heard (t.question T n) (Some r) → t.apply T n r ≡ Some U → i.Tabled U
      pub recorded : (T : t.Table) (c : t.Regions) → i.Tabled T → i.Tabled (t.recorded T c)
      pub respond : (T : t.Table) (c : Certainty) → i.Tabled T → i.Responded (Some (t.respond T c))
      pub refused : i.Responded None

    -- so are the table that a candidate's equations leave of this one, and its nested goals
    pub record IsSo (T : t.Table) (c : Spec (workings t)) : Type 0 where
      pub equated : (U : t.Table) → t.equate (t.fresh T c.kinds) c.equations ≡ Some U → i.Tabled U
      pub nested : Every i.Nested c.nested

    module _ (keeps : IsKept) where
      abbrev RoundSo : Option (Round (operations t)) → Type 0
      RoundSo None = Unit {0}
      RoundSo (Some o) = i.Tabled o.table × Every i.Nested o.left

      abbrev RoundsSo : Option (Rounds (operations t)) → Type 0
      RoundsSo None = Unit {0}
      RoundsSo (Some o) = i.Tabled o.table

      abbrev Staying : List t.Nested → Type 0
      Staying ns = (U : t.Table) → i.Tabled U → Every i.Nested ns → Asks i.Asked i.Heard RoundSo (round (operations t) ns U)

      kept_so : (n : t.Nested) (r : Response) → i.Nested n → (o : Option (Round (operations t))) → RoundSo o → Asks i.Asked i.Heard RoundSo (kept (operations t) n r o)
      kept_so n r w None o = tt
      kept_so n r w (Some x) o = (o.0, (w, o.1))

      judged_so : (n : t.Nested) (ns : List t.Nested) (r : Response) (U : t.Table) (b : Bool) → i.Tabled U → Every i.Nested (n ∷ ns) → Staying ns → Asks i.Asked i.Heard RoundSo (judged (operations t) (round (operations t) ns) n r U b)
      judged_so n ns r U true u w rest = rest U u w.1
      judged_so n ns r U false u w rest = Asks-followed i.Asked i.Heard RoundSo RoundSo (kept (operations t) n r) (λ o x. kept_so n r w.0 o x) (round (operations t) ns U) (rest U u w.1)

      applied_so : (T : t.Table) (n : t.Nested) (ns : List t.Nested) (r : Response) (e : Option t.Table) → t.apply T n r ≡ e → i.Tabled T → i.Heard (t.question T n) (Some r) → Every i.Nested (n ∷ ns) → Staying ns
          → Asks i.Asked i.Heard RoundSo (applied (operations t) (round (operations t) ns) n r e)
      applied_so T n ns r None e u f w rest = tt
      applied_so T n ns r (Some U) e u f w rest = judged_so n ns r U (is_yes (operations t) r) (keeps.apply T U n r u w.0 f e) w rest

      replied_so : (T : t.Table) (n : t.Nested) (ns : List t.Nested) (a : Option Response) → i.Heard (t.question T n) a → i.Tabled T → Every i.Nested (n ∷ ns) → Staying ns
          → Asks i.Asked i.Heard RoundSo (replied (operations t) (round (operations t) ns) T n a)
      replied_so T n ns None f u w rest = tt
      replied_so T n ns (Some r) f u w rest = applied_so T n ns r (t.apply T n r) refl u f w rest

      round_so : (ns : List t.Nested) → Staying ns
      round_so [] U u w = (u, tt)
      round_so (n ∷ ns) U u w = (keeps.question U n u w.0, λ a f. replied_so U n ns a f u w (λ V v z. round_so ns V v z))

      abbrev StayingRounds : ℕ → Type 0
      StayingRounds limit = (ns : List t.Nested) (U : t.Table) → i.Tabled U → Every i.Nested ns → Asks i.Asked i.Heard RoundsSo (rounds (operations t) limit ns U)

      settled_so : (limit : ℕ) (left : List t.Nested) (U : t.Table) (c : Certainty) (changed : Bool) → i.Tabled U → Every i.Nested left → StayingRounds limit
          → Asks i.Asked i.Heard RoundsSo (settled (operations t) (rounds (operations t) limit) left U c changed)
      settled_so limit left U c true u w rest = rest left U u w
      settled_so limit [] U c false u w rest = u
      settled_so limit (n ∷ left) U c false u w rest = u

      next_so : (limit : ℕ) (o : Option (Round (operations t))) → RoundSo o → StayingRounds limit → Asks i.Asked i.Heard RoundsSo (next_round (operations t) (rounds (operations t) limit) o)
      next_so limit None w rest = tt
      next_so limit (Some o) w rest = settled_so limit o.left o.table o.certainty o.changed w.0 w.1 rest

      rounds_so : (limit : ℕ) → StayingRounds limit
      rounds_so zero ns U u w = u
      rounds_so (suc limit) ns U u w =
          Asks-followed i.Asked i.Heard RoundSo RoundsSo (next_round (operations t) (rounds (operations t) limit)) (λ o x. next_so limit o x (λ ms V v z. rounds_so limit ms V v z)) (round (operations t) ns U) (round_so ns U u w)

      answered_so : (c : Certainty) (o : Option (Rounds (operations t))) → RoundsSo o → Asks i.Asked i.Heard i.Responded (answered (workings t) c o)
      answered_so c None w = keeps.refused
      answered_so c (Some o) w = keeps.respond o.table (joined c o.certainty) w

      equated_so : (limit : ℕ) (T : t.Table) (c : Spec (workings t)) (e : Option t.Table) → t.equate (t.fresh T c.kinds) c.equations ≡ e → IsSo T c → Asks i.Asked i.Heard i.Responded (equated (workings t) limit c e)
      equated_so limit T c None e so = keeps.refused
      equated_so limit T c (Some U) e so =
          Asks-followed i.Asked i.Heard RoundsSo i.Responded (answered (workings t) c.certainty) (λ o x. answered_so c.certainty o x)
          (rounds (operations t) limit c.nested (t.recorded U c.regions)) (rounds_so limit c.nested (t.recorded U c.regions) (keeps.recorded U c.regions (so.equated U e)) so.nested)

      pub candidate_so : (limit : ℕ) (T : t.Table) (c : Spec (workings t)) → IsSo T c → Asks i.Asked i.Heard i.Responded (candidate (workings t) limit T c)
      candidate_so limit T c so = equated_so limit T c (t.equate (t.fresh T c.kinds) c.equations) refl so

      -- ---- frames
      abbrev pub AllResponded : List (Considered (workings t)) → Type 0
      AllResponded seen = Every (λ (c : Considered (workings t)). i.Responded c.response) seen

      -- so are the table with which the frame begins, its candidates and its answers
      pub record IsFrameSo (h : Handled t) : Type 0 where
        pub begins : i.Tabled h.begin
        pub each : (seen : List (Considered (workings t))) (c : Spec (workings t)) → IsHistory (workings t) h.next seen → h.next seen ≡ consider c → IsSo h.begin c
        pub ends : (seen : List (Considered (workings t))) (a : Option Response) (ignored : List ℕ) → IsHistory (workings t) h.next seen → h.next seen ≡ answer a ignored → AllResponded seen → i.Responded a

      module _ (h : Handled t) (so : IsFrameSo h) (limit : ℕ) where
        abbrev FrameStays : ℕ → Type 0
        FrameStays fuel =
            (seen : List (Considered (workings t))) → IsHistory (workings t) h.next seen → AllResponded seen
            → FrameAsks i.Asked i.Heard i.Responded (used_numbers (workings t) seen) (frame (workings t) limit h.begin h.next fuel seen)

        goes_on_so : (fuel : ℕ) (seen : List (Considered (workings t))) (n : Next (workings t)) → h.next seen ≡ n → IsHistory (workings t) h.next seen → AllResponded seen → FrameStays fuel
            → FrameAsks i.Asked i.Heard i.Responded (used_numbers (workings t) seen) (goes_on (workings t) limit h.begin h.next (frame (workings t) limit h.begin h.next fuel) seen n)
        goes_on_so fuel seen (answer a ignored) e hist d rest = so.ends seen a ignored hist e d
        goes_on_so fuel seen (consider c) e hist d rest =
            Asks-mono i.Asked i.Heard i.Responded
            (λ a. (n : ℕ) → IsNoneOf n (used_numbers (workings t) seen)
            → FrameAsks i.Asked i.Heard i.Responded (n ∷ used_numbers (workings t) seen) (frame (workings t) limit h.begin h.next fuel (record { spec = c; response = a; number = n } ∷ seen)))
            (λ a w n new. rest (record { spec = c; response = a; number = n } ∷ seen) (e, new, hist) (w, d))
            (candidate (workings t) limit h.begin c) (candidate_so limit h.begin c (so.each seen c hist e))

        pub frame_so : (fuel : ℕ) → FrameStays fuel
        frame_so zero seen hist d = keeps.respond h.begin (Maybe Ambiguity) so.begins
        frame_so (suc fuel) seen hist d = goes_on_so fuel seen (h.next seen) refl hist d (λ s p q. frame_so fuel s p q)

  -- ---- questions over tables that are kept so
  module _ (S : Question → Type 0) (K : t.Table → Type 0) where
    -- what is done with a table keeps it so
    pub record AreKept : Type 0 where
      pub fresh : (T : t.Table) (kinds : t.Kinds) → K T → K (t.fresh T kinds)
      pub equate : (T U : t.Table) (es : List t.Equation) → K T → t.equate T es ≡ Some U → K U
      pub recorded : (T : t.Table) (c : t.Regions) → K T → K (t.recorded T c)
      pub apply : (T U : t.Table) (n : t.Nested) (r : Response) → K T → t.apply T n r ≡ Some U → K U

    -- so are all questions of the nested goal over such tables
    abbrev pub AreSo : t.Nested → Type 0
    AreSo n = (T : t.Table) → K T → S (t.question T n)

    abbrev questions : (Option Response → Type 0) → Invariant
    questions P = record { Tabled = K; Nested = AreSo; Asked = S; Heard = λ q a. Unit {0}; Responded = P }

    module _ (keeps : AreKept) (P : Option Response → Type 0) (respond : (T : t.Table) (c : Certainty) → K T → P (Some (t.respond T c))) (refused : P None) where
      abbrev tables_kept : IsKept (questions P)
      tables_kept = record { question = λ T n k a. a T k; apply = λ T U n r k a f e. keeps.apply T U n r k e; recorded = keeps.recorded; respond = respond; refused = refused }

      candidate_kept : (T : t.Table) (c : Spec (workings t)) → K T → Every AreSo c.nested → IsSo (questions P) T c
      candidate_kept T c k a = record { equated = λ U e. keeps.equate (t.fresh T c.kinds) U c.equations (keeps.fresh T c.kinds k) e; nested = a }

      -- so are the responses of candidates
      pub responds_so : (limit : ℕ) (T : t.Table) (c : Spec (workings t)) → K T → Every AreSo c.nested → Asks S (λ q a. Unit {0}) P (candidate (workings t) limit T c)
      responds_so limit T c k a = candidate_so (questions P) tables_kept limit T c (candidate_kept T c k a)

    -- whatever is answered, each question of the frame is so
    pub questions_so : AreKept → (h : Handled t) → K h.begin → ((seen : List (Considered (workings t))) (c : Spec (workings t)) → h.next seen ≡ consider c → Every AreSo c.nested)
        → (heard : History t h) (q : Question) → CameInOrder (Anything t h) (frame_of_goal t h) heard → asks (frame_of_goal t h) heard ≡ evaluate q → S q
    questions_so keeps h begins each heard q came e =
        let P = λ (a : Option Response). Unit {0} in
        asks_so (Anything t h) S P (frame_of_goal t h)
        (frame_so (questions P) (tables_kept keeps P (λ T c k. tt) tt) h
        (record { begins = begins; each = λ seen c hist e. candidate_kept keeps P (λ T c k. tt) tt h.begin c begins (each seen c e); ends = λ seen a ignored hist e d. tt }) FIXPOINT_STEP_LIMIT (suc h.candidates) [] tt tt)
        heard q came e

  -- tables stay made as they are to be
  pub made_kept : IsTable t → (S : Question → Type 0) → AreKept S t.Made
  made_kept laws S = record {
    fresh = laws.fresh_made;
    equate = λ T U es m e. (laws.equate_narrows T U es m e).made;
    recorded = λ T c m. (laws.recorded_narrows T c m).made;
    apply = λ T U n r m e. (laws.apply_narrows T U n r m e).made;
  }

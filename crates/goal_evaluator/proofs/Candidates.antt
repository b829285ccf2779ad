-- A candidate that is evaluated in code corresponds to the candidate over the tables of frames.
use Rattle.std.proofs.Common.{◌≡◌, Bool, List, [], ◌∷◌, ◌++◌, map, refl, sym, ◌∙◌, ap, subst, Option, Some, None}
use Rattle.std.specs.Prelude.{option_map}
use Rattle.type_terms.specs.Promised.Label.{Label}
use Rattle.type_terms.specs.Promised.Trees.{Trees}
use Rattle.infer_table.specs.Unification.{TableTrees, Worklist}
use Rattle.infer_table.specs.Certainties.{joined}
use Rattle.infer_table.specs.declared.canonical.CanonicalVarKind.{CanonicalVarKind}
use Rattle.infer_table.specs.declared.certainty.Certainty.{Certainty}
use Rattle.infer_table.specs.declared.certainty.TypingMode.{TypingMode}
use Rattle.infer_table.specs.Values.{filled_values}
use Rattle.infer_table.specs.Responses.{AnswerTrees}
use Rattle.infer_table.specs.Applied.{with_constraints}
use Rattle.goal_evaluator.specs.declared.TheConstants.{FIXPOINT_STEP_LIMIT}
use Rattle.goal_evaluator.specs.Lists.{Pairwise, OnBoth}
use Rattle.goal_evaluator.specs.Script.{Script}
use Rattle.goal_evaluator.specs.Rounds.{Rounds, rounds}
use Rattle.goal_evaluator.specs.Table.{operations, workings}
use Rattle.goal_evaluator.specs.Candidate.{Spec}
use Rattle.goal_evaluator.specs.Candidate as Frames
use Rattle.goal_evaluator.specs.Correspondences.{RoundsEndTogether}
use Rattle.goal_evaluator.proofs.Correspondences.{Alike, alike_followed, alike_runs, rounds_alike}
use Rattle.goal_evaluator.specs.Content as Asked
use Rattle.goal_evaluator.specs.Instances.{put_in, goal_put_in}
use Rattle.goal_evaluator.specs.FrameTables.{FrameTable, IsMadeFrame, Nested, Equation, slot_at, pair_in, in_turn, labels_from, first_content, pairs_in, labels_for}
use Rattle.goal_evaluator.specs.TableAnswers.{leaf_value, own_labels}
use Rattle.goal_evaluator.specs.TableOperations.{begin, equate, fresh, recorded, with_content}
use Rattle.goal_evaluator.proofs.Equating.{made-in-turn, none-some, some-is}
use Rattle.goal_evaluator.proofs.TableBeginning.{begin-made}
use Rattle.goal_evaluator.proofs.Fresh.{fresh-made, recorded-made}
use Rattle.goal_evaluator.specs.Tables.{frame_tables}
use Rattle.goal_evaluator.specs.Evaluating.{AskedQuestion, NestedTrees, evaluation}
use Rattle.goal_evaluator.specs.OwnAnswers.{answer_of}
use Rattle.goal_evaluator.specs.Frames.{FrameTrees, begun, own_values, unknowns, with_unknowns, pair_filled, solved, nested_filled}
use Rattle.goal_evaluator.specs.Frames as Code
use Rattle.goal_evaluator.specs.Trial.{SpecTrees, answered, equated, candidate}
use Rattle.goal_evaluator.specs.RoundLaws.{AreOneTable, AreOneGoal, in_rounds}
use Rattle.goal_evaluator.specs.Candidates.{labels_of, AreOneEquation, AreOnePremise, CandidatesAreOne}
use Rattle.goal_evaluator.proofs.Filling.{filled-is, goal-filled-is, side-is}
use Rattle.goal_evaluator.proofs.RoundLaws.{rounds-are-one}
use Rattle.goal_evaluator.proofs.Beginnings.{own-values-are, first-content-is, unknowns-are, unknown-table-is, map-append, turns-are, own-stay}
use Rattle.goal_evaluator.proofs.Responding.{respond-is}

some-none : {A : Type 0} (x : A) (T : Type 0) → Some x ≡ None → T
some-none x T e = absurd (cc)

module _ (mode : TypingMode) (coinductive : Bool) (kinds own : List CanonicalVarKind) where
  abbrev labels : List Label
  labels = labels_of kinds own

  -- the table with the candidate's own unknowns, in both forms
  abbrev table : FrameTable
  table = fresh (begin kinds) own

  abbrev code : FrameTrees
  code = Code.fresh (begun kinds) own

  values-are : map leaf_value labels ≡ code.values
  values-are =
      map-append leaf_value (labels_from 0 0 0 0 kinds) (labels_for (first_content kinds) 0 own)
      ∙ ap (λ z. z ++ map leaf_value (labels_for (first_content kinds) 0 own)) (own-values-are kinds)
      ∙ ap (λ z. own_values kinds ++ z) (unknowns-are (first_content kinds) 0 own ∙ ap (λ t. unknowns t own) (first-content-is kinds))

  content-is : table.content ≡ code.table
  content-is = unknown-table-is (first_content kinds) 0 own ∙ ap (λ t. with_unknowns t own) (first-content-is kinds)

  -- ---- equations
  pair-same : (a b c d : Trees) → a ≡ c → b ≡ d → ◌≡◌ {A = Trees × Trees} (a, b) (c, d)
  pair-same a b c d p q = cc

  pair-is : (e : Equation) (f : Trees × Trees) → AreOneEquation labels e f → pair_in table e ≡ pair_filled code.values f
  pair-is e f h =
      pair-same _ _ _ _
      (sym (side-is labels e.left h.left_over) ∙ ap (filled_values (map leaf_value labels)) h.left_is ∙ ap (λ vs. filled_values vs f.0) values-are)
      (sym (side-is labels e.right h.right_over) ∙ ap (filled_values (map leaf_value labels)) h.right_is ∙ ap (λ vs. filled_values vs f.1) values-are)

  pairs-next : (x y : Trees × Trees) (xs ys : Worklist) → x ≡ y → xs ≡ ys → ◌≡◌ {A = Worklist} (x ∷ xs) (y ∷ ys)
  pairs-next x y xs ys p q = cc

  pairs-are : (es : List Equation) (fs : List (Trees × Trees)) → Pairwise (AreOneEquation labels) es fs → pairs_in table es ≡ map (pair_filled code.values) fs
  pairs-are [] [] h = refl
  pairs-are [] (f ∷ fs) h = absurd h
  pairs-are (e ∷ es) [] h = absurd h
  pairs-are (e ∷ es) (f ∷ fs) h = pairs-next _ _ _ _ (pair-is e f h.0) (pairs-are es fs h.1)

  solved-is : (es : List Equation) (fs : List (Trees × Trees)) → Pairwise (AreOneEquation labels) es fs → in_turn (pairs_in table es) table.content ≡ solved code.table (map (pair_filled code.values) fs)
  solved-is es fs h =
      ap (λ z. in_turn z table.content) (pairs-are es fs h) ∙ ap (in_turn (map (pair_filled code.values) fs)) content-is ∙ turns-are (map (pair_filled code.values) fs) code.table

  -- ---- nested goals
  goals-are : (ns : List Nested) (ms : List NestedTrees) → Pairwise (AreOnePremise coinductive labels) ns ms → Pairwise (AreOneGoal mode coinductive kinds labels) ns (map (nested_filled code.values) ms)
  goals-are [] [] h = tt
  goals-are [] (m ∷ ms) h = absurd h
  goals-are (n ∷ ns) [] h = absurd h
  goals-are (n ∷ ns) (m ∷ ms) h = (
    record {
      goal_is = ap (goal_put_in (slot_at labels)) h.0.goal_is ∙ sym (goal-filled-is labels m.goal h.0.over) ∙ ap (λ vs. (nested_filled vs m).goal) values-are;
      step_is = h.0.step_is;
    },
    goals-are ns ms h.1,
  )

  -- ---- the answer
  abbrev Ends : Option (Rounds (operations frame_tables)) → Option (Rounds (evaluation mode)) → Type 0
  Ends a b = OnBoth (RoundsEndTogether (operations frame_tables) (evaluation mode) (in_rounds mode coinductive kinds labels)) a b

  abbrev Same : Script Asked.NestedQuestion (Option AnswerTrees) (Option AnswerTrees) → Script AskedQuestion (Option AnswerTrees) (Option AnswerTrees) → Type 0
  Same s t = Alike (operations frame_tables) (evaluation mode) (in_rounds mode coinductive kinds labels) (λ (a b : Option AnswerTrees). a ≡ b) s t

  own-are : own_labels kinds labels ≡ labels_from 0 0 0 0 kinds
  own-are = own-stay 0 0 0 0 kinds (labels_for (first_content kinds) 0 own)

  answer-is : (t : FrameTable) (u : TableTrees) (c : Certainty) → AreOneTable mode coinductive kinds labels t u → (workings frame_tables).respond t c ≡ answer_of kinds (own_values kinds) u c
  answer-is t u c h =
      respond-is t h.made c
      ∙ ap (λ ks. answer_of ks (map leaf_value (own_labels ks t.labels)) t.content c) h.kinds_are
      ∙ ap (λ ls. answer_of kinds (map leaf_value (own_labels kinds ls)) t.content c) h.labels_are
      ∙ ap (λ w. answer_of kinds (map leaf_value (own_labels kinds labels)) w c) h.content_is
      ∙ ap (λ ls. answer_of kinds (map leaf_value ls) u c) own-are
      ∙ ap (λ vs. answer_of kinds vs u c) (own-values-are kinds)

  answered-alike : (x y : Certainty) → x ≡ y → (t : FrameTrees) → t.kinds ≡ kinds → t.own ≡ own_values kinds → (a : Option (Rounds (operations frame_tables))) (b : Option (Rounds (evaluation mode))) → Ends a b
      → Same (Frames.answered (workings frame_tables) x a) (answered mode t y b)
  answered-alike x y e t k o None None h = refl
  answered-alike x y e t k o (Some a) (Some b) h =
      ap Some
      (answer-is a.table b.table (joined x a.certainty) h.table
      ∙ ap (λ z. answer_of kinds (own_values kinds) b.table (joined z a.certainty)) e
      ∙ ap (λ z. answer_of kinds (own_values kinds) b.table (joined y z)) h.certainty
      ∙ ap (λ vs. answer_of kinds vs b.table (joined y b.certainty)) (sym o)
      ∙ ap (λ ks. answer_of ks t.own b.table (joined y b.certainty)) (sym k))
  answered-alike x y e t k o None (Some b) h = absurd h
  answered-alike x y e t k o (Some a) None h = absurd h

  -- ---- from the table that the equations leave
  module _ (x : Spec (workings frame_tables)) (y : SpecTrees) (equations : Pairwise (AreOneEquation labels) x.equations y.equations)
      (constraints : filled_values (map leaf_value labels) y.constraints ≡ put_in (slot_at labels) y.constraints) (constraints_are : x.regions ≡ y.constraints)
      (nested : Pairwise (AreOnePremise coinductive labels) x.nested y.nested) (certainty_is : x.certainty ≡ y.certainty) where
    asked-alike : (t : FrameTable) (u : TableTrees) → AreOneTable mode coinductive kinds labels t u
        → Same (Frames.equated (workings frame_tables) FIXPOINT_STEP_LIMIT x (Some t)) (equated mode y (Some (record code { table = u })))
    asked-alike t u h =
        alike_followed (operations frame_tables) (evaluation mode) (in_rounds mode coinductive kinds labels) Ends (λ (a b : Option AnswerTrees). a ≡ b)
        (Frames.answered (workings frame_tables) x.certainty) (answered mode (Code.recorded (record code { table = u }) y.constraints) y.certainty)
        (λ a b e. answered-alike x.certainty y.certainty certainty_is (Code.recorded (record code { table = u }) y.constraints) refl refl a b e)
        (rounds (operations frame_tables) FIXPOINT_STEP_LIMIT x.nested (recorded t x.regions))
        (rounds (evaluation mode) FIXPOINT_STEP_LIMIT (map (nested_filled code.values) y.nested) (with_constraints (filled_values code.values y.constraints) u))
        (rounds_alike (operations frame_tables) (evaluation mode) (in_rounds mode coinductive kinds labels) (rounds-are-one mode coinductive kinds labels) FIXPOINT_STEP_LIMIT
        x.nested (map (nested_filled code.values) y.nested) (goals-are x.nested y.nested nested) (recorded t x.regions) (with_constraints (filled_values code.values y.constraints) u)
        (record {
          made = recorded-made t h.made x.regions;
          kinds_are = h.kinds_are;
          labels_are = h.labels_are;
          content_is =
              ap (λ c. with_constraints (put_in (slot_at t.labels) c) t.content) constraints_are
              ∙ ap (λ ls. with_constraints (put_in (slot_at ls) y.constraints) t.content) h.labels_are
              ∙ ap (λ c. with_constraints c t.content) (sym constraints)
              ∙ ap (λ vs. with_constraints (filled_values vs y.constraints) t.content) values-are
              ∙ ap (with_constraints (filled_values code.values y.constraints)) h.content_is;
        }))

    equated-alike : (o p : Option TableTrees) → ((u : TableTrees) → o ≡ Some u → IsMadeFrame (with_content table u)) → o ≡ p
        → Same (Frames.equated (workings frame_tables) FIXPOINT_STEP_LIMIT x (option_map (with_content table) o)) (equated mode y (option_map (λ u. record code { table = u }) p))
    equated-alike None None f e = refl
    equated-alike (Some u) (Some v) f e = asked-alike (with_content table u) v (record { made = f u refl; kinds_are = refl; labels_are = refl; content_is = some-is u v e })
    equated-alike None (Some v) f e = none-some v _ e
    equated-alike (Some u) None f e = some-none u _ e

    candidate-alike : Same (Frames.equated (workings frame_tables) FIXPOINT_STEP_LIMIT x (equate table x.equations)) (candidate mode (begun kinds) (record y { kinds = own }))
    candidate-alike =
        equated-alike (in_turn (pairs_in table x.equations) table.content) (solved code.table (map (pair_filled code.values) y.equations)) (made-in-turn table (fresh-made (begin kinds) (begin-made kinds) own) x.equations) (solved-is x.equations y.equations equations)

pub candidates-are-one : CandidatesAreOne
candidates-are-one mode coinductive kinds x y answers others h answered =
    alike_runs (operations frame_tables) (evaluation mode) (in_rounds mode coinductive kinds (labels_of kinds y.kinds)) (λ (a b : Option AnswerTrees). a ≡ b)
    (Frames.candidate (workings frame_tables) FIXPOINT_STEP_LIMIT (begin kinds) x) (candidate mode (begun kinds) y)
    (subst (λ ks. Alike (operations frame_tables) (evaluation mode) (in_rounds mode coinductive kinds (labels_of kinds y.kinds)) (λ (a b : Option AnswerTrees). a ≡ b)
    (Frames.equated (workings frame_tables) FIXPOINT_STEP_LIMIT x (equate (fresh (begin kinds) ks) x.equations)) (candidate mode (begun kinds) y)) (sym h.kinds_are)
    (candidate-alike mode coinductive kinds y.kinds x y h.equations (filled-is (labels_of kinds y.kinds) y.constraints h.constraints_over) h.constraints_are h.nested h.certainty_is))
    answers others answered

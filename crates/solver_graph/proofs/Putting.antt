-- Responses applied to a table.
use Rattle.std.proofs.Common.{◌≡◌, true, ◌&&◌, List, [], ◌∷◌, Result, Ok, Err, refl, ◌∙◌, ap, Some, if◌then◌else◌}
use Rattle.std.specs.Prelude.{OnOk}
use Rattle.infer_table.specs.Unification.{TableTrees}
use Rattle.infer_table.specs.declared.canonical.CanonicalVarKind.{CanonicalVarKind}
use Rattle.infer_table.specs.Values.{Value}
use Rattle.infer_table.specs.Responses.{AnswerTrees}
use Rattle.infer_table.specs.Answers.{is_answer_to}
use Rattle.infer_table.specs.Applied.{applied}
use Rattle.goal_evaluator.specs.Lists.{Every}
use Rattle.goal_evaluator.specs.TableAnswers.{is_fitting, are_fitting, IsWellFormed, put_into}

all-fit : (ks : List CanonicalVarKind) (vs : List Value) → Every (λ v. is_fitting ks v ≡ true) vs → are_fitting ks vs ≡ true
all-fit ks [] h = refl
all-fit ks (v ∷ vs) h = ap (λ b. b && are_fitting ks vs) h.0 ∙ all-fit ks vs h.1

-- a well-formed answer to the goal is put in, and leaves what it leaves once it is applied
pub put-applied : (t : TableTrees) (vs : List Value) (a : AnswerTrees) → IsWellFormed a → is_answer_to vs a ≡ true → put_into t vs a ≡ applied t vs a
put-applied t vs a w e =
    ap (λ b. if b && are_fitting a.kinds a.values then applied t vs a else Some t) e ∙ ap (λ b. if b then applied t vs a else Some t) (all-fit a.kinds a.values w)

pub on-ok : {T E P Q : Type 0} → (r : Result T E) → (P → Q) → OnOk r P → OnOk r Q
on-ok (Ok x) f h = f h
on-ok (Err e) f h = h

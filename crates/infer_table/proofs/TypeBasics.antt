-- Small facts on the types of the code.
use Rattle.std.proofs.Common.{◌≡◌, rules, Some, List, []}
use Rattle.std.specs.Bool.{Decides}
use Rattle.infer_table.specs.Responses.{AnswerTrees}
use Rattle.infer_table.specs.Unification.{TableTrees}
use Rattle.infer_table.specs.Values.{Value}
use Rattle.infer_table.specs.contracts.canonical.CanonicalVarKindPartialEq.TheImpl.{ghosts as kind}
use Rattle.infer_table.specs.declared.canonical.CanonicalVarKind.{CanonicalVarKind}
use Rattle.infer_table.specs.declared.certainty.Certainty.{Certainty}
use Rattle.infer_table.specs.declared.certainty.Certainty.TheVariants.{Yes}
use Rattle.type_terms.specs.Promised.Trees.{Trees, none}

pub kind-eq : (a b : CanonicalVarKind) → Decides (kind.eq a b) (a ≡ b)
kind-eq a b = search rules

pub some-kind : (j k : CanonicalVarKind) → Some j ≡ Some k → j ≡ k
some-kind j k e = cc

pub some-one : (t u : TableTrees) → Some t ≡ Some u → t ≡ u
some-one t u e = cc

pub same-parts : (ks ls : List CanonicalVarKind) (c d : Certainty) (vs ws : List Value) (x y : Trees) → ks ≡ ls → c ≡ d → vs ≡ ws → x ≡ y
    → ◌≡◌ {A = AnswerTrees} (record { kinds = ks; certainty = c; values = vs; constraints = x }) (record { kinds = ls; certainty = d; values = ws; constraints = y })
same-parts ks ls c d vs ws x y e f g h = cc

pub answer-cong : (ks ls : List CanonicalVarKind) (c d : Certainty) (vs ws : List Value) (x y : Trees) → ks ≡ ls → c ≡ d → vs ≡ ws → x ≡ y
    → ◌≡◌ {A = AnswerTrees} (record { kinds = ks; certainty = c; values = vs; constraints = x }) (record { kinds = ls; certainty = d; values = ws; constraints = y })
answer-cong ks ls c d vs ws x y p q e f = cc

pub some-answer : AnswerTrees
some-answer = record { kinds = []; certainty = Yes; values = []; constraints = none }

use Rattle.std.proofs.Common.{◌≡◌, ℕ, false, List, ◌∷◌, ◌<◌, ◌==◌, length, refl, sym, ap, ◌∙◌, subst, arith, Err}
use Rattle.std.proofs.lemmas.Bool.Decides.{nat_tests}
use Rattle.std.proofs.lemmas.Result.{err_from_is_err_and}
use Rattle.type_terms.specs.Promised.Handles.{ArgsHeld}
use Rattle.type_terms.specs.Kinds.{args_trees}
use Rattle.type_terms.proofs.Grown.{grew-on}
use Rattle.infer_table.specs.Solutions.{Equates, HasNoSolution}
use Rattle.infer_table.specs.Content.{content}
use Rattle.infer_table.specs.Growth.{grows-trans}
use Rattle.infer_table.specs.Unification.{table_trees}
use Rattle.infer_table.specs.Applied.{solved_in_turn}
use Rattle.infer_table.proofs.InTurn.{next-turn}
use Rattle.infer_table.proofs.Values.{equates-from, never-from, never-after, never-of-lengths}
use Rattle.overlap_check.proofs.equate.equate_args.Goals as goal

first : {A : Type 0} (x : A) (xs : List A) → 0 < length (x ∷ xs)
first x xs = omega arith

some-left : (n : ℕ) → n == 0 ≡ false → n ≡ 0 → ⊥
some-left n e h = grind (arith, nat_tests)

pub returns-in_default-split_first-clause-never : goal.returns-in_default-split_first-clause-never
returns-in_default-split_first-clause-never c = λ _.
    let es = c.args.cx.now.entries in
    let inv = c.pairs.invariant in
    inv.never (never-of-lengths es c.lawful.ensures (content c.pairs.cx.entries c.pairs.table.values) c.pairs.left_rest.now c.pairs.right_rest.now
    (λ e. let a = ap length c.in-Some.ensures.cases.0 in let b = c.in_default-split_first.ensures.cases in absurd (omega (arith, a, b, e))) inv.left_held inv.right_held)

pub returns-else-is_empty-clause-never : goal.returns-else-is_empty-clause-never
returns-else-is_empty-clause-never c = λ _.
    let es = c.args.cx.now.entries in
    let inv = c.pairs.invariant in
    inv.never (never-of-lengths es c.lawful.ensures (content c.pairs.cx.entries c.pairs.table.values) c.pairs.left_rest.now c.pairs.right_rest.now
    (λ e. some-left (length c.pairs.right_rest.now) (sym c.is_empty.ensures ∙ c.if-is_empty.false) (sym e ∙ c.in_default.ensures.cases)) inv.left_held inv.right_held)

pub pairs-preserved : goal.pairs-preserved
pairs-preserved c =
    let es = c.args.cx.now.entries in
    let law = c.lawful.ensures in
    let now = c.pairs.cx.entries in
    let next = c.eq.new.cx.entries in
    let inv = c.pairs.invariant in
    let x = c.in-Some.first.now in
    let xs = c.in-Some.left_others.now in
    let y = c.in-Some-split_first.second.now in
    let ys = c.in-Some-split_first.right_others.now in
    let left = c.in-Some.ensures.cases.0 in
    let right = c.in-Some-split_first.ensures.cases.0 in
    let hx = subst (ArgsHeld es) left inv.left_held in
    let hy = subst (ArgsHeld es) right inv.right_held in
    let bs = content now c.pairs.table.values in
    let cs = content next c.eq.new.self.values in
    let t = table_trees now c.pairs.table in
    let u = table_trees next c.eq.new.self in
    let all = solved_in_turn (table_trees es c.args.table.now) (args_trees es c.args.left.now) (args_trees es c.args.right.now) in
    let made = c.in_ok-eq.ensures in
    record {
      ready = c.eq.ensures.ready;
      grows = grows-trans _ _ _ inv.grows c.eq.ensures.grows;
      grew = grew-on inv.grew c.eq.ensures.terms.grew;
      left_held = hx.1;
      right_held = hy.1;
      equates = λ later e. inv.equates later
          (subst (λ l. Equates bs later (args_trees es l) (args_trees es c.pairs.right_rest.now)) (sym left) (subst (λ l. Equates bs later (args_trees es (x ∷ xs)) (args_trees es l)) (sym right)
          (equates-from es law now inv.grew.keeps bs cs later (x ∷ xs) (y ∷ ys) 0 x y (first x xs) (first y ys) refl refl hx.0 hy.0 made.equates e)));
      never = λ n. inv.never
          (subst (λ l. HasNoSolution bs (args_trees es l) (args_trees es c.pairs.right_rest.now)) (sym left) (subst (λ l. HasNoSolution bs (args_trees es (x ∷ xs)) (args_trees es l)) (sym right)
          (never-after es law now inv.grew.keeps bs cs (x ∷ xs) (y ∷ ys) 0 x y (first x xs) (first y ys) refl refl hx.0 hy.0 made.equates n)));
      exact = next-turn es law now inv.grew.keeps (x ∷ xs) (y ∷ ys) 0 x y (first x xs) (first y ys) refl refl hx.0 hy.0 t u all made.exact
          (subst (λ l. solved_in_turn t (args_trees es (x ∷ xs)) (args_trees es l) ≡ all) right (subst (λ l. solved_in_turn t (args_trees es l) (args_trees es c.pairs.right_rest.now) ≡ all) left inv.exact));
    }

pub returns-in_err-eq-clause-never : goal.returns-in_err-eq-clause-never
returns-in_err-eq-clause-never c = λ e.
    let es = c.args.cx.now.entries in
    let now = c.pairs.cx.entries in
    let inv = c.pairs.invariant in
    let x = c.in-Some.first.now in
    let xs = c.in-Some.left_others.now in
    let y = c.in-Some-split_first.second.now in
    let ys = c.in-Some-split_first.right_others.now in
    let left = c.in-Some.ensures.cases.0 in
    let right = c.in-Some-split_first.ensures.cases.0 in
    let hx = subst (ArgsHeld es) left inv.left_held in
    let hy = subst (ArgsHeld es) right inv.right_held in
    let bs = content now c.pairs.table.values in
    let p = err_from_is_err_and c.from_residual.result c.from_residual.ensures.1 in
    inv.never
    (subst (λ l. HasNoSolution bs (args_trees es l) (args_trees es c.pairs.right_rest.now)) (sym left) (subst (λ l. HasNoSolution bs (args_trees es (x ∷ xs)) (args_trees es l)) (sym right)
    (never-from es c.lawful.ensures now inv.grew.keeps bs (x ∷ xs) (y ∷ ys) 0 x y (first x xs) (first y ys) refl refl hx.0 hy.0 (c.eq.ensures.never (c.in_err-eq.was ∙ ap Err (sym p.2) ∙ sym p.1 ∙ e)))))

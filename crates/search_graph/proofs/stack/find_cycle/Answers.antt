use Rattle.std.specs.Option.{option_copied}
use Rattle.std.proofs.Common.{◌≡◌, ◌<◌, ◌≤◌, ◌∙◌, ℕ, List, Option, Some, None, IfNone, Bool, true, false, length, get_or, slice_get, sym, ap, refl, arith}
use Rattle.std.proofs.lemmas.Option.{slice_get_read, slice_get_within, same_Some, get_or_from_slice_get, none-some}
use Rattle.search_graph.proofs.stack.find_cycle.Goals as goal
use Rattle.type_terms.proofs.BooleanBasics.{true-false as true_not_false}

-- no goal is found at a place past the end
past_end : {X : Type 0} (xs : List X) (found : Option ℕ) (index place : ℕ) (e : X) → Some index ≡ found → length xs ≤ index → found ≡ Some place → slice_get xs place ≡ Some e → ⊥
past_end xs found index place e is past at there =
    let here = same_Some index place (is ∙ at) in
    let inside = slice_get_within xs place e there in
    omega (arith, here, inside, past)

-- no goal is found where its number has no place
no_place : {R X : Type 0} (r : Option R) (xs : List X) (Same : X → Type 0) (found : Option ℕ) → r ≡ None → None ≡ found → IfNone r ((place : ℕ) (e : X) → found ≡ Some place → slice_get xs place ≡ Some e → Same e → ⊥)
no_place None xs Same found empty is = λ place e at there same. none-some place (is ∙ at)
no_place (Some x) xs Same found empty is = tt

-- the goal at the place that was found is another than the one that is asked
other_goal : {X I : Type 0} (xs : List X) (input : X → I) (eq : I → I → Bool) (asked : I) (found : Option ℕ) (index place : ℕ) (entry e : X) → ((x : I) → eq x x ≡ true) → Some index ≡ found → entry ≡ get_or xs index entry → false ≡ eq (input entry) asked → found ≡ Some place → slice_get xs place ≡ Some e → input e ≡ asked → ⊥
other_goal xs input eq asked found index place entry e own is read apart at there same =
    let here = same_Some index place (is ∙ at) in
    let known = read ∙ ap (λ k. get_or xs k entry) here ∙ get_or_from_slice_get xs place e entry there in
    true_not_false (sym (own asked) ∙ ap (λ x. eq x asked) (sym (ap input known ∙ same)) ∙ sym apart)

pub returns-then-eq-clause-found : goal.returns-then-eq-clause-found
returns-then-eq-clause-found g c =
    let inside : c.in_ok-index.field-0.now < length c.args.stack.now = omega arith in
    (c.index-stack-index.result, slice_get_read _ _ _ _ refl inside c.index-stack-index.is, g.met.D.Cx.Cx.same_input _ _ (sym c.if-eq.ensures), c.kind_of_path-path_kind.ensures)

pub returns-in_err-index-clause-found : goal.returns-in_err-index-clause-found
returns-in_err-index-clause-found g c = rw c.from_residual.ensures tt

pub returns-in_err-index-clause-place : goal.returns-in_err-index-clause-place
returns-in_err-index-clause-place g c = rw c.from_residual.ensures tt

pub returns-in_err-index-clause-none : goal.returns-in_err-index-clause-none
returns-in_err-index-clause-none g c = no_place c.from_residual.result c.args.stack.now (λ e. e.input ≡ c.args.input.now) _ c.from_residual.ensures (ap option_copied (sym c.in_err-index.was) ∙ c.get.ensures.value)

pub returns-then-index-stack-clause-none : goal.returns-then-index-stack-clause-none
returns-then-index-stack-clause-none g c = λ place e at there same.
    past_end c.args.stack.now _ c.in_ok-index.field-0.now place e c.in_ok-index.ensures.value c.if-index-stack.true at there

pub returns-then-eq-clause-place : goal.returns-then-eq-clause-place
returns-then-eq-clause-place g c = sym c.in_ok-index.ensures.value

pub returns-clause-none : goal.returns-clause-none
returns-clause-none g c = λ place e at there same.
    other_goal c.args.stack.now (λ entry. entry.input) g.D.Cx.Input.PartialEq.eq c.args.input.now _ c.in_ok-index.field-0.now place c.index-stack-index.result e g.met.D.Cx.Input.Eq.laws.refl c.in_ok-index.ensures.value c.index-stack-index.is c.if-eq.ensures at there same

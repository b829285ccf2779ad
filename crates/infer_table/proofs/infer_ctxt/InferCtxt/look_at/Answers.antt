use Rattle.std.proofs.Common.{sym, subst, ap, ◌∙◌, inl, inr, refl, ◌≡◌, true, false}
use Rattle.std.specs.Prelude.{bit_and}
use Rattle.type_terms.specs.Promised.Handles.{types, trees_at}
use Rattle.type_terms.specs.Kinds.{args_trees}
use Rattle.infer_table.specs.Content.{content, variables_of, IsProper}
use Rattle.infer_table.specs.Occurring.{Pushes}
use Rattle.infer_table.proofs.ContentFacts.{is-trees, valued}
use Rattle.infer_table.proofs.OccurFacts.{variable-occurs}
use Rattle.infer_table.proofs.Places.{type-proper}
use Rattle.infer_table.proofs.ResolveFacts.{value-free-occurs, proper-through}
use Rattle.infer_table.proofs.Occurring.{looked-at, looked-past, type-filled}
use Rattle.infer_table.proofs.infer_ctxt.InferCtxt.look_at.Goals as goal

pub returns-then-flags-eq0-clause-looked : goal.returns-then-flags-eq0-clause-looked
returns-then-flags-eq0-clause-looked c = λ _.
    let es = c.args.cx.now.entries in
    let bs = content es c.args.self.now.values in
    let none-there = ap (λ n. bit_and n 514) (sym c.flags.ensures) ∙ c.if-flags-eq0.true in
    looked-past es bs c.args.variable.index c.args.ty c.args.entered.now c.args.entered.now c.args.todo.now.items (type-filled es (variables_of c.args.self.now) bs c.args.ty c.lawful.ensures c.requires.ready.older c.requires.held)
    (inr (λ _. (value-free-occurs bs (valued es c.args.self.now.values) c.args.variable.index (trees_at es c.args.ty.0) none-there, type-proper es c.lawful.ensures c.args.ty.0 c.requires.held))) (λ i h. inl h)

pub returns-then-enter-clause-looked : goal.returns-then-enter-clause-looked
returns-then-enter-clause-looked c = λ _.
    let es = c.args.cx.now.entries in
    let bs = content es c.args.self.now.values in
    looked-past es bs c.args.variable.index c.args.ty c.args.entered.now c.enter.new.self c.args.todo.now.items (type-filled es (variables_of c.args.self.now) bs c.args.ty c.lawful.ensures c.requires.ready.older c.requires.held)
    (inl (c.enter.ensures.before c.if-enter.true)) c.enter.ensures.one

pub returns-in-Infer-clause-found : goal.returns-in-Infer-clause-found
returns-in-Infer-clause-found c = λ e.
    let es = c.args.cx.now.entries in
    let r = c.shallow_resolve-followed in
    sym (variable-occurs es (content es c.args.self.now.values) c.args.variable.index c.in-Infer.other.index r.result.0 c.args.ty.0 c.in-Infer.ensures.is r.ensures.unbound r.ensures.same) ∙ e

pub returns-in-Infer-clause-looked : goal.returns-in-Infer-clause-looked
returns-in-Infer-clause-looked c = λ e.
    let es = c.args.cx.now.entries in
    let bs = content es c.args.self.now.values in
    let r = c.shallow_resolve-followed in
    let proper = proper-through es bs c.args.ty.0 r.result.0 c.type_has_kind.ensures.0 c.type_has_kind.ensures.1 r.ensures.exact (subst IsProper (sym (is-trees es types r.result.0 _ c.in-Infer.ensures.is)) (refl, tt)) in
    looked-past es bs c.args.variable.index c.args.ty c.args.entered.now c.enter.new.self c.args.todo.now.items (type-filled es (variables_of c.args.self.now) bs c.args.ty c.lawful.ensures c.requires.ready.older c.requires.held)
    (inr (λ _. (sym (variable-occurs es bs c.args.variable.index c.in-Infer.other.index r.result.0 c.args.ty.0 c.in-Infer.ensures.is r.ensures.unbound r.ensures.same) ∙ e, proper))) c.enter.ensures.one

pub returns-in_ok-push_types-in_default : goal.returns-in_ok-push_types-in_default
returns-in_ok-push_types-in_default c =
    let es = c.args.cx.now.entries in
    let bs = content es c.args.self.now.values in
    let v = c.args.variable.index in
    let r = c.shallow_resolve-followed in
    let k = c.kind.result in
    let bounds = c.in_ok-list-in_default.ensures.bounds in
    let pushed = subst (λ t. Pushes es bs v t c.args.todo.now.items c.push_types.new.todo.items) (ap (args_trees es) c.deref.ensures.value ∙ c.in_ok-list-in_default.ensures.trees) c.in_ok-push_types-in_default.ensures.pushed in
    record {
      found = λ e. absurd (off e);
      looked = λ _. looked-at es bs v c.args.ty r.result k c.args.entered.now c.enter.new.self c.args.todo.now.items c.push_types.new.todo.items c.in_default.not-Infer bounds c.kind.ensures.is r.ensures.same
          (proper-through es bs c.args.ty.0 r.result.0 c.type_has_kind.ensures.0 c.type_has_kind.ensures.1 r.ensures.exact) c.enter.ensures.one pushed;
    }
  where
    off : false ≡ true → ⊥
    off e = cc

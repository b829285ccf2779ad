use Rattle.std.proofs.Common.{sym, subst, ap, ◌∙◌, ◌<◌}
use Rattle.std.specs.Prelude.{bit_and}
use Rattle.type_terms.specs.Promised.Handles.{trees_at}
use Rattle.infer_table.specs.Content.{content}
use Rattle.infer_table.specs.Occurring.{weight}
use Rattle.infer_table.proofs.Occurring.{Searches, searches-on, searches-found, searches-next}
use Rattle.infer_table.proofs.ContentFacts.{valued}
use Rattle.infer_table.proofs.ResolveFacts.{value-free-occurs}
use Rattle.infer_table.proofs.Places.{type-proper}
use Rattle.infer_table.proofs.infer_ctxt.InferCtxt.occurs.Goals as goal

pub returns-then-flags-eq0-clause-found : goal.returns-then-flags-eq0-clause-found
returns-then-flags-eq0-clause-found c =
    let es = c.args.cx.now.entries in
    sym (value-free-occurs (content es c.args.self.now.values) (valued es c.args.self.now.values) c.args.variable.index (trees_at es c.args.ty.0) (ap (λ n. bit_and n 514) (sym c.flags-flags.ensures) ∙ c.if-flags-eq0.true))

pub returns-then-flags-eq0-clause-proper : goal.returns-then-flags-eq0-clause-proper
returns-then-flags-eq0-clause-proper c = λ _. type-proper c.args.cx.now.entries c.lawful.ensures c.args.ty.0 c.requires.held

pub look_at-requires-clause-held : goal.look_at-requires-clause-held
look_at-requires-clause-held c =
    let es = c.args.cx.now.entries in
    searches-next es (content es c.args.self.now.values) c.args.variable.index c.args.ty.0 c.work.entered c.pop.new.self.items c.in-Some.next
    (subst (Searches es (content es c.args.self.now.values) c.args.variable.index c.args.ty.0 c.work.entered) c.in-Some.ensures.items c.work.invariant)

pub returns-then-found-clause-found : goal.returns-then-found-clause-found
returns-then-found-clause-found c =
    let es = c.args.cx.now.entries in
    let bs = content es c.args.self.now.values in
    let v = c.args.variable.index in
    sym (searches-found es bs v c.args.ty.0 c.work.entered c.pop.new.self.items c.in-Some.next (subst (Searches es bs v c.args.ty.0 c.work.entered) c.in-Some.ensures.items c.work.invariant) (c.in_ok-found.ensures.found c.if-found.true))

pub work-smaller : goal.work-smaller
work-smaller c =
    let es = c.args.cx.now.entries in
    let bs = content es c.args.self.now.values in
    let v = c.args.variable.index in
    let step = searches-on es bs v c.args.ty.0 c.in-Some.next c.work.entered c.look_at.new.entered c.pop.new.self.items c.look_at.new.todo.items (subst (Searches es bs v c.args.ty.0 c.work.entered) c.in-Some.ensures.items c.work.invariant)
    (c.in_ok-found.ensures.looked c.if-found.false) in
    subst (λ xs. weight es bs c.look_at.new.todo.items < weight es bs xs) (sym c.in-Some.ensures.items) step.1

pub work-preserved : goal.work-preserved
work-preserved c =
    let es = c.args.cx.now.entries in
    let bs = content es c.args.self.now.values in
    let v = c.args.variable.index in
    (searches-on es bs v c.args.ty.0 c.in-Some.next c.work.entered c.look_at.new.entered c.pop.new.self.items c.look_at.new.todo.items (subst (Searches es bs v c.args.ty.0 c.work.entered) c.in-Some.ensures.items c.work.invariant)
    (c.in_ok-found.ensures.looked c.if-found.false)).0

use Rattle.std.proofs.Common.{◌∙◌, ◌+◌, refl, subst, length, arith}
use Rattle.type_terms.specs.Promised.Handles.{SomeKindIsFull}
use Rattle.type_terms.specs.Growth.{FullAtLimit}
use Rattle.text_lowering.specs.MostTerms.{most_terms}
use Rattle.text_lowering.specs.Ready.{AreSeen}
use Rattle.solver_graph.proofs.Shortages.{handed}
use Rattle.sessions.proofs.SeenViews.{new-are-fewer}
use Rattle.sessions.proofs.ShortCalls.{at-err, many-terms}
use Rattle.sessions.proofs.GivenTexts.{text-given}
use Rattle.sessions.proofs.seen_view.SeenView.grown.Goals as goal

pub lower_behind-requires : goal.lower_behind-requires
lower_behind-requires c = record {
  earlier = c.requires.view.declared;
  there = c.requires.declared;
  begin = c.impls_begin_declared.ensures c.requires.text.0 c.args.workspace.now (text-given c.args.workspace.now c.requires.text);
  written = c.requires.view.seen.written;
  struct_sorts = c.requires.view.seen.structs;
  trait_sorts = c.requires.view.seen.traits;
  impl_sorts = c.requires.view.seen.impls;
  held = c.requires.view.ready.held;
}

pub returns-in_err-lower_behind-clause-full : goal.returns-in_err-lower_behind-clause-full
returns-in_err-lower_behind-clause-full c = λ q.
    let new = c.lower_behind.new.cx in
    let is-full = at-err (FullAtLimit new) c.from_residual.result (handed (FullAtLimit new) c.from_residual.result c.from_residual.ensures.1 c.in_err-lower_behind.ensures.terms.full) q refl in
    let limit = c.lower_behind.ensures.terms.grew.limit ∙ c.requires.view.limit in
    let few = c.lower_behind.ensures.few in
    let fewer = new-are-fewer c.args.workspace.now c.args.crate_id.index c.args.self.crate_id.index in
    many-terms new.entries c.args.handles (length c.args.self.interner.entries + most_terms c.args.workspace.now c.args.crate_id.index) (subst (SomeKindIsFull new.entries) limit is-full) (omega (arith, few, fewer))

pub returns-clause-view : goal.returns-clause-view
returns-clause-view c =
    let es = c.lower_behind.new.cx.entries in
    let decls = c.lower_behind.new.decls in
    let view = c.in_ok-lower_behind.ensures in
    let seen : AreSeen es decls c.args.workspace.now c.args.crate_id.index = record { written = view.written; structs = view.struct_sorts; traits = view.trait_sorts; impls = view.impl_sorts } in
    record {
      crate = refl;
      seen = seen;
      rules = view.rules;
      local = view.local;
      ready = c.declarations_are_ready.ensures c.requires.text.0 c.args.workspace.now (text-given c.args.workspace.now c.requires.text) c.args.crate_id.index es decls seen view.held;
      limit = view.terms.grew.limit ∙ c.requires.view.limit;
      declared = c.requires.declared;
    }

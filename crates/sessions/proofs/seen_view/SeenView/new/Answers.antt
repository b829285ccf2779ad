use Rattle.std.proofs.Common.{◌∙◌, refl, ap, subst, length, arith}
use Rattle.type_terms.specs.Promised.Handles.{SomeKindIsFull}
use Rattle.type_terms.specs.Growth.{FullAtLimit}
use Rattle.text_lowering.specs.MostTerms.{most_terms}
use Rattle.solver_graph.proofs.Shortages.{handed}
use Rattle.sessions.proofs.ShortCalls.{at-err, many-terms}
use Rattle.sessions.proofs.seen_view.SeenView.new.Goals as goal

pub returns-in_err-declarations-clause-full : goal.returns-in_err-declarations-clause-full
returns-in_err-declarations-clause-full c = λ q.
    let new = c.lower_view.new.cx in
    let is-full = at-err (FullAtLimit new) c.from_residual.result (handed (FullAtLimit new) c.from_residual.result c.from_residual.ensures.1 c.in_err-declarations.ensures.full) q refl in
    let limit = c.lower_view.ensures.limit ∙ c.new-interner.ensures.limit in
    let none = ap length c.new-interner.ensures.empty in
    let few = c.lower_view.ensures.few in
    many-terms new.entries c.args.handles (most_terms c.args.workspace.now c.args.crate_id.index) (subst (SomeKindIsFull new.entries) limit is-full) (omega (arith, none, few))

pub returns-clause-view : goal.returns-clause-view
returns-clause-view c =
    let view = c.in_ok-declarations.ensures in
    record {
      crate = refl;
      seen = record { written = view.written; structs = view.struct_sorts; traits = view.trait_sorts; impls = view.impl_sorts };
      rules = view.rules;
      local = view.local;
      ready = view.ready;
      limit = c.lower_view.ensures.limit ∙ c.new-interner.ensures.limit;
      declared = c.requires.declared;
    }

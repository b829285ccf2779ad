use Rattle.std.proofs.Common.{length, reverse, sym, ap, ◌∙◌}
use Rattle.text_language.specs.Promised.Syntax.{named}
use Rattle.text_language.specs.Promised.Declarations.{known}
use Rattle.text_language.specs.Lowering.{trait_number}
use Rattle.text_lines.specs.TypeViews.{cells_in}
use Rattle.text_lines.specs.Back.{args_back}
use Rattle.text_names.specs.Machine.{seen_items}
use Rattle.text_names.proofs.Resolving.{bound-begins}
use Rattle.text_names.proofs.Turned.{type-turned}
use Rattle.text_names.proofs.resolve.resolve_bound.Goals as goal

pub returns-in_ok-trait_number-in-Some : goal.returns-in_ok-trait_number-in-Some
returns-in_ok-trait_number-in-Some g c b before h =
    let v = g.N.Names.sight c.args.names.now in
    let at = bound-begins b before (cells_in c.args.cells.now) c.next_named.new.self c.in-Some.name.now c.in-Some.start h (sym c.new-walk.ensures.rest ∙ c.in-Some.ensures) in (
      c.finish-in-Some.ensures ∙ c.into_found-in-Some.ensures ∙ c.in_ok-trait_number-in-Some.ensures.found b (reverse before) at.0 at.1 at.2,
      c.in_ok-trait_number-in-Some.ensures.number ∙ ap (λ m. trait_number (known (seen_items v) m)) at.0,
    )

pub run_bound-requires-clause-frames : goal.run_bound-requires-clause-frames
run_bound-requires-clause-frames g c = c.new-walk.ensures.frames

pub run_bound-requires-clause-binders : goal.run_bound-requires-clause-binders
run_bound-requires-clause-binders g c = c.new-walk.ensures.binders

pub run_bound-requires-clause-found : goal.run_bound-requires-clause-found
run_bound-requires-clause-found g c = c.new-walk.ensures.found

pub returns-in-None : goal.returns-in-None
returns-in-None g c b before h = absurd (c.in-None.ensures b.trait (length (reverse before)) (args_back b.args (reverse before)) (c.new-walk.ensures.rest ∙ ap reverse h ∙ type-turned (named b.trait b.args) before))

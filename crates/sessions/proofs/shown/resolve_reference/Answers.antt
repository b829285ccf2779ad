use Rattle.std.proofs.Common.{ap, ◌∙◌, refl, List, [], ◌∷◌}
use Rattle.type_terms.specs.Promised.Trees.{Trees, none}
use Rattle.type_terms.specs.Kept.{trees-later}
use Rattle.type_terms.specs.Pieces.{Piece}
use Rattle.type_terms.specs.Terms.{args_lists}
use Rattle.infer_table.specs.Content.{content}
use Rattle.infer_table.specs.Solutions.{resolved}
use Rattle.sessions.proofs.shown.resolve_reference.Goals as goal

abbrev first_trees : List Piece → Trees
first_trees [] = none
first_trees (p ∷ ps) = p.trees

pub returns-clause-resolved : goal.returns-clause-resolved
returns-clause-resolved c =
    let es = c.args.cx.now.entries in
    let fs = c.equate_all.new.cx.entries in
    let t = c.equate_all.new.table in
    record {
      entries = fs;
      table = t;
      ready = c.in_ok-equate_all.ensures.ready;
      trait = refl;
      args = ap first_trees c.in_ok-args.ensures.resolved ∙ ap (resolved (content fs t.values)) (trees-later es fs c.equate_all.ensures.grew.keeps args_lists c.args.reference.args.0 c.requires.reference);
    }

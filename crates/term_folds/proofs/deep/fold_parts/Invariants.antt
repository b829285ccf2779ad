use Rattle.std.proofs.Common.{◌≡◌}
use Rattle.type_terms.specs.Promised.Handles.{Keeps}
use Rattle.term_folds.specs.Memos.{Remembers}
use Rattle.term_folds.specs.Deep.{StepsHeld}
use Rattle.term_folds.proofs.deep.fold_parts.Given as goal

abbrev pub invariant-loop : goal.invariant-loop
invariant-loop g l =
    Keeps l.fn.cx.entries l.cx.entries
    × g.F.FallibleTypeFolder.ready l.folder l.cx.entries
    × Remembers (g.F.FallibleTypeFolder.action l.folder l.cx.entries) l.cx.entries l.memo
    × StepsHeld l.cx.entries l.todo.items
    × (l.cx.limit ≡ l.fn.cx.limit)

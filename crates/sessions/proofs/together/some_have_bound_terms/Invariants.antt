use Rattle.std.proofs.Common.{◌≡◌, take}
use Rattle.type_terms.specs.Promised.Handles.{Keeps}
use Rattle.type_terms.specs.Promised.Proofs.{Every}
use Rattle.declarations.specs.Applied.{references_in}
use Rattle.infer_table.specs.Content.{Ready}
use Rattle.sessions.specs.ProvingTogether.{IsUnbound}
use Rattle.sessions.proofs.together.some_have_bound_terms.Given as goal

abbrev pub invariant-loop-reference : goal.invariant-loop-reference
invariant-loop-reference l = record {
  keeps : Keeps l.fn.cx.entries l.cx.entries;
  limit : l.cx.limit ≡ l.fn.cx.limit;
  ready : Ready l.cx.entries l.table;
  unbound : Every (IsUnbound l.fn.cx.entries l.table) (references_in l.fn.cx.entries (take l.reference-index l.references));
}

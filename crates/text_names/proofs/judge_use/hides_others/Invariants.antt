use Rattle.std.proofs.Common.{◌≡◌, drop, map}
use Rattle.std.specs.List.{list_any}
use Rattle.text_lines.specs.TokenViews.{text_of}
use Rattle.text_language.specs.Faults.{is_in_scope}
use Rattle.text_names.proofs.judge_use.hides_others.Given as goal

abbrev pub invariant-loop-name : goal.invariant-loop-name
invariant-loop-name g l = list_any (is_in_scope (g.N.Names.sight l.names).line l.binders) (map text_of (drop l.name-index l.bound)) ≡ list_any (is_in_scope (g.N.Names.sight l.names).line l.binders) (map text_of l.bound)

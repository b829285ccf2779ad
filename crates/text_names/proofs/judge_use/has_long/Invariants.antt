use Rattle.std.proofs.Common.{◌≡◌, drop, map}
use Rattle.std.specs.List.{list_any}
use Rattle.text_lines.specs.TokenViews.{text_of}
use Rattle.text_language.specs.Faults.{is_long}
use Rattle.text_names.proofs.judge_use.has_long.Given as goal

abbrev pub invariant-loop-name : goal.invariant-loop-name
invariant-loop-name l = list_any is_long (map text_of (drop l.name-index l.names)) ≡ list_any is_long (map text_of l.names)

use Rattle.std.proofs.Common.{◌≡◌, ◌++◌, map, length}
use Rattle.text_lines.specs.TokenViews.{text_of}
use Rattle.text_lines.specs.Views.{params_in}
use Rattle.text_names.specs.Params.{lifetimes_said, others_said}
use Rattle.text_names.proofs.params.ParamNames.of.Given as goal

abbrev pub invariant-loop-rest : goal.invariant-loop-rest
invariant-loop-rest l = record {
  lifetimes : map text_of l.names.lifetimes.items ++ lifetimes_said (params_in l.rest) ≡ lifetimes_said (params_in l.params);
  others : map text_of l.names.others.items ++ others_said (params_in l.rest) ≡ others_said (params_in l.params);
}

abbrev pub decreases-loop-rest : goal.decreases-loop-rest
decreases-loop-rest l = length l.rest

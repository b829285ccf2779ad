-- Which links are checked.
use Rattle.std.specs.Prelude.{Bool, false, Option, Some, None}
use Rattle.explain_texts.specs.declared.links.CandidateLink.{CandidateLink}

-- Whether it was checked that a candidate needs the goal. Without a candidate nothing was.
abbrev pub is_rule_of : Option CandidateLink → Bool
is_rule_of None = false
is_rule_of (Some x) = x.is_rule

-- When a session is at a limit.
use Rattle.std.specs.Prelude.{◌≡◌}
use Rattle.type_terms.specs.Promised.Handles.{SomeKindIsFull}
use Rattle.type_terms.specs.declared.Fault.{Fault}
use Rattle.type_terms.specs.declared.Fault.TheVariants.{Full}
use Rattle.sessions.specs.Promised.Subjects.{Subject}

-- The session holds as many terms of some kind, or as many goals, or as many answers, as its limit allows.
pub data IsAtLimit (s : Subject) : Type 0 where
  terms : SomeKindIsFull s.terms s.handles → IsAtLimit s
  goals : s.goals ≡ s.handles → IsAtLimit s
  answers : s.answers ≡ s.handles → IsAtLimit s

-- The fault is `Full` only if the session is at a limit.
abbrev pub SessionFullAtLimit : Subject → Fault → Type 0
SessionFullAtLimit s fault = fault ≡ Full → IsAtLimit s

-- What is kept between the calls of an asker.
use Rattle.std.specs.Prelude.{List}
use Rattle.std.specs.List.{All}
use Rattle.sessions.specs.TextLanguage.Promised.Declarations.{Declarations}
use Rattle.sessions.specs.LeftSessions.{IsLeftSession}
use Rattle.sessions.specs.declared.left_session.LeftSession.{LeftSession}
use Rattle.sessions.specs.declared.limits.Limits.{Limits}

-- Sessions on these declarations, with these limits, left them.
abbrev pub AreLeftSessions : Declarations → Limits → List LeftSession → Type 0
AreLeftSessions d limits = All (IsLeftSession d limits.depth limits.handles)

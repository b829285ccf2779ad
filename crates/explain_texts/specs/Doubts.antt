-- Which doubts have the code of an overflow.
use Rattle.std.specs.Prelude.{Bool, true, false}
use Rattle.explain_texts.specs.declared.doubts.Doubt.{Doubt}
use Rattle.explain_texts.specs.declared.doubts.Doubt.TheVariants.{Depth, Limits, Either, Cycle, Growth, Ways, Open, Other}

-- A limit was met, or a goal needs itself, or its answers have values again and again.
abbrev pub is_overflow : Doubt → Bool
is_overflow Depth = true
is_overflow Limits = true
is_overflow Either = true
is_overflow Cycle = true
is_overflow Growth = true
is_overflow Ways = false
is_overflow Open = false
is_overflow Other = false

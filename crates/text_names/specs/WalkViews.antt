-- What the state of the machine in code stands for, and what its methods do.
use Rattle.std.specs.Prelude.{◌≡◌, ℕ, Bool, true, false, List, [], ◌∷◌, Result, Ok, Err}
use Rattle.std.specs.declared.alloc.AllocError.{AllocError}
use Rattle.text_tables.specs.Views.{sort_of_kind, sorts_of}
use Rattle.text_names.specs.Machine as machine
use Rattle.text_names.specs.Machine.{Sight, WalkState, visiting, going, finished, Found, WalkReaches}
use Rattle.text_lines.specs.Cells.{Cell}
use Rattle.text_names.specs.declared.walk.Place.{Place}
use Rattle.text_names.specs.declared.walk.Inside.{Inside}
use Rattle.text_names.specs.declared.walk.Inside.TheVariants as insides
use Rattle.text_names.specs.declared.walk.Frame.{Frame}
use Rattle.text_names.specs.declared.walk.Next.{Next}
use Rattle.text_names.specs.declared.walk.Next.TheVariants as nexts
use Rattle.text_names.specs.declared.walk.Walk.{Walk}

abbrev pub place_of : Place → machine.Place
place_of p = record { kind = sort_of_kind p.sort; room = p.room; is_kept = p.is_kept }

abbrev pub inside_of : Inside → machine.Inside
inside_of insides.Types = machine.types_inside
inside_of insides.Items = machine.items_inside
inside_of (insides.Args ks k) = machine.args_inside (sorts_of ks.now) k

abbrev pub frame_of : Frame → machine.WalkFrame
frame_of f = record { start = f.start; inner = f.inner; binds = f.binds; holds = inside_of f.holds; room = f.room; is_kept = f.is_kept }

-- The last one in the vector is the innermost.
abbrev pub frames_onto : List Frame → List machine.WalkFrame → List machine.WalkFrame
frames_onto [] s = s
frames_onto (f ∷ fs) s = frames_onto fs (frame_of f ∷ s)

abbrev pub frames_in : List Frame → List machine.WalkFrame
frames_in fs = frames_onto fs []

-- The state of the machine, if this comes next.
abbrev pub state_in : Next → Walk → WalkState
state_in (nexts.Visiting p) w = visiting (place_of p) (frames_in w.frames.items) w.binders w.rest w.found
state_in (nexts.Opened f) w = going (frame_of f ∷ frames_in w.frames.items) w.binders w.rest w.found
state_in nexts.Going w = going (frames_in w.frames.items) w.binders w.rest w.found
state_in nexts.Finished w = finished w.rest w.found

-- What was returned, with the machine as it was left, is this state. If memory was refused, nothing is said.
abbrev pub WalkComes : Result Next AllocError → WalkState → Walk → Type 0
WalkComes (Ok n) x w = x ≡ state_in n w
WalkComes (Err e) x w = Unit {0}

-- The method did this step of the machine.
abbrev pub WalkSteps : Result Next AllocError → (List machine.WalkFrame → List (List (List ℕ)) → List Cell → Found → WalkState) → Walk → Walk → Type 0
WalkSteps result f old new = WalkComes result (f (frames_in old.frames.items) old.binders old.rest old.found) new

-- Nothing comes next.
abbrev pub is_finished : Next → Bool
is_finished nexts.Finished = true
is_finished _ = false

-- The machine went from this state to the end.
abbrev pub WalkEnds : Result (Unit {0}) AllocError → Sight → WalkState → Walk → Type 0
WalkEnds (Ok u) v x w = WalkReaches v x (finished w.rest w.found)
WalkEnds (Err e) v x w = Unit {0}

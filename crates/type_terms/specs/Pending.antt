-- What is still to be visited of a deep term.
use Rattle.std.specs.ControlFlow.{break_value}
use Rattle.std.proofs.Common.{ControlFlow}
use Rattle.std.specs.Prelude.{◌≡◌, ℕ, List, [], ◌∷◌, ◌++◌, drop, reverse, Option, Some, None, MatchResult}
use Rattle.std.specs.declared.result.Result.{Result}
use Rattle.type_terms.specs.Promised.Trees.{Trees, none, tree, ◌+++◌}
use Rattle.type_terms.specs.Promised.Handles.{Entry, Has, bounds_lists, trees_at}
use Rattle.type_terms.specs.Promised.Handles.{ArgHeld, ArgsHeld, arg_trees}
use Rattle.type_terms.specs.Kinds.{TysHeld, args_trees, tys_trees}
use Rattle.type_terms.specs.declared.deep_visit.Part.{Part}
use Rattle.type_terms.specs.declared.deep_visit.Part.TheVariants.{Arg, Tys, Args, Bounds}
use Rattle.type_terms.specs.declared.deep_visit.Pending.{Pending}
use Rattle.type_terms.specs.declared.deep_visit.Pending.TheVariants.{Visit, Leave}
use Rattle.type_terms.specs.declared.deep_visit.Path.{Path}
use Rattle.type_terms.specs.declared.visit.Seen.{Seen}
use Rattle.type_terms.specs.declared.binders.Binders.{Binders}
use Rattle.type_terms.specs.Binders.{counts_of}
use Rattle.type_terms.specs.Visits.{around, VisitsEach}
use Rattle.type_terms.specs.Pieces.{Piece}

-- The terms of a part.
abbrev pub part_trees : List Entry → Part → Trees
part_trees es (Arg a) = arg_trees es a
part_trees es (Tys xs) = tys_trees es xs.now
part_trees es (Args xs) = args_trees es xs.now
part_trees es (Bounds b) = trees_at es b.0

abbrev pub PartHeld : List Entry → Part → Type 0
PartHeld es (Arg a) = ArgHeld es a
PartHeld es (Tys xs) = TysHeld es xs.now
PartHeld es (Args xs) = ArgsHeld es xs.now
PartHeld es (Bounds b) = Has es bounds_lists b.0

abbrev pub AllHeld : List Entry → List Pending → Type 0
AllHeld es [] = Unit {0}
AllHeld es (Leave ∷ ps) = AllHeld es ps
AllHeld es (Visit p ∷ ps) = PartHeld es p × AllHeld es ps

-- What is ahead, the next first, and the binders around the next, the innermost first.
abbrev pub ahead : Path → List Pending
ahead p = reverse p.todo.items

abbrev pub crossed : Path → List ℕ
crossed p = reverse p.counts.items

-- These come next, before what was ahead. If memory is refused, nothing changed.
abbrev pub PutsAhead : {A B : Type 0} → List Pending → Path → Path → Result A B → Type 0
PutsAhead ps old new r = MatchResult r (λ _. ahead new ≡ ps ++ ahead old) (λ _. ahead new ≡ ahead old)

-- The terms below these binders.
abbrev pub piece : List ℕ → Trees → Piece
piece cs t = record { counts = cs; trees = t }

-- The children of a node below these binders.
abbrev pub piece_below : List ℕ → Trees → Piece
piece_below cs none = piece cs none
piece_below cs (tree l c o) = piece (around l cs) c

-- Below the binders around what comes next: a part, two parts, a part below one more binder, the term of a handle, and
-- its children.
abbrev pub part_here : Part → List Entry → Path → Piece
part_here p es w = piece (crossed w) (part_trees es p)

abbrev pub both_here : Part → Part → List Entry → Path → Piece
both_here p q es w = piece (crossed w) (part_trees es p +++ part_trees es q)

abbrev pub bound_here : ℕ → Part → List Entry → Path → Piece
bound_here n p es w = piece (n ∷ crossed w) (part_trees es p)

abbrev pub term_here : ℕ → List Entry → Path → Piece
term_here i es w = piece (crossed w) (trees_at es i)

abbrev pub children_here : ℕ → List Entry → Path → Piece
children_here i es w = piece_below (crossed w) (trees_at es i)

-- What is ahead, starting below these binders, each part with the binders that are around it.
abbrev pub pieces_ahead : List Entry → List ℕ → List Pending → List Piece
pieces_ahead es cs [] = []
pieces_ahead es cs (Leave ∷ ps) = pieces_ahead es (drop 1 cs) ps
pieces_ahead es cs (Visit p ∷ ps) = piece cs (part_trees es p) ∷ pieces_ahead es cs ps

abbrev pub path_pieces : List Entry → Path → List Piece
path_pieces es p = pieces_ahead es (crossed p) (ahead p)

-- If the first visit ended without a break, each visit of what is after completes a visit of what was before. If it
-- ended with a break, it is a visit of what was before.
abbrev pub VisitsFollow : {V B : Type 0} → (List ℕ → Trees → V → V → Seen B → Type 0) → List ℕ → List Piece → V → List Piece → V → Option B → Type 0
VisitsFollow {V} {B} sees bs before v after w None = (x : V) (r : Option B) → VisitsEach sees bs after w x r → VisitsEach sees bs before v x r
VisitsFollow sees bs before v after w (Some b) = VisitsEach sees bs before v w (Some b)

-- The same for a visit that is at the first path, with a piece before what is ahead there, and then at the second.
abbrev pub GoesOn : {V B : Type 0} → (List Entry → List ℕ → Trees → V → V → Seen B → Type 0) → List Entry → Binders → (List Entry → Path → Piece) → Path → V → Path → V → ControlFlow B (Unit {0}) → Type 0
GoesOn sees es bs first p v q w r = VisitsFollow (sees es) (counts_of bs) (first es p ∷ path_pieces es p) v (path_pieces es q) w (break_value r)

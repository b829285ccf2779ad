-- A handle and its parts own what a box at the same types owns.
use mir.Syntax.{impl, tnil, dnil}
use mathlib.Core.List.{[]}
use denote.Signature.{Slot, plain}
use Rattle.std_alloc.proofs.BoxSteps.Form.{Bx}
use Rattle.std_heap.specs.contracts.Global as Heap
use Rattle.std_heap.specs.contracts.GlobalAllocator.TheImpl.{ghosts, dict}
use Rattle.std_heap.proofs.Global.TheLaws as heap
use Rattle.celtisdarts_c.specs.contracts.slot.Slot as held
use Rattle.celtisdarts_c.proofs.slot.Slot.TheLaws as held_laws
use Rattle.celtisdarts_c.specs.contracts.parts.Parts as Parts
use Rattle.celtisdarts_c.specs.contracts.handle.Handle as Handle

abbrev pub E : Bx
E = record { row = held.the_row; laws = held_laws.the_row_laws; al = record { row = Heap.the_row; laws = heap.the_row_laws; g = ghosts; d = dict; drops = impl [] tnil dnil } }

abbrev pub FromSeal : Slot 0
FromSeal = plain (λ _. Handle.the_row)

abbrev pub FromParts : Slot 0
FromParts = plain (λ _. Parts.the_row held.the_row Heap.the_row ghosts)

-- A handle owns the same memory as a box of its slot.
use base.Fml.{Fml}
use base.Stored.{Coded}
use denote.RawPtr.{Ptr}
use Rattle.std.specs.Box.Ownership.{box_owns}
use Rattle.std.specs.Global.{Global}
use Rattle.std.specs.contracts.impls.GlobalAllocator.TheImpl.{ghosts}
use Rattle.celtisdarts_c.specs.contracts.slot.Slot.{the_row}

-- a slot as a value in contracts
abbrev pub SlotValue : Type 0
SlotValue = the_row.Denot

-- a boxed slot in the memory of this allocator
abbrev pub slot_behind : Global → Ptr → SlotValue → Fml
slot_behind g p t = box_owns (ghosts.dealloc_token g) the_row p t

abbrev pub slot_coded : Coded SlotValue
slot_coded = the_row.coded

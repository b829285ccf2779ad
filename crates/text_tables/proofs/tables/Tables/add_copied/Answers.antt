use Rattle.text_tables.specs.Tables.{declared}
use Rattle.text_tables.proofs.CoreLemmas.{copied-built, room-1, room-2, room-3, room-4}
use Rattle.text_tables.proofs.tables.Tables.add_copied.Goals as goal

pub add_ref_impl-requires-clause-room : goal.add_ref_impl-requires-clause-room
add_ref_impl-requires-clause-room c = room-1 (declared c.args.self.now) _ c.args.trait_id.index c.requires.core c.in_ok-add_scalar_impls.ensures.declared

pub add_pointer_impl-requires-clause-room : goal.add_pointer_impl-requires-clause-room
add_pointer_impl-requires-clause-room c = room-2 (declared c.args.self.now) _ _ c.args.trait_id.index c.requires.core c.in_ok-add_scalar_impls.ensures.declared c.in_ok-add_ref_impl.ensures.declared

pub add_pointer_impl-requires-2-clause-room : goal.add_pointer_impl-requires-2-clause-room
add_pointer_impl-requires-2-clause-room c =
    room-3 (declared c.args.self.now) _ _ _ c.args.trait_id.index c.requires.core c.in_ok-add_scalar_impls.ensures.declared c.in_ok-add_ref_impl.ensures.declared c.in_ok-add_pointer_impl.ensures.declared

pub add_array_impl-requires-clause-room : goal.add_array_impl-requires-clause-room
add_array_impl-requires-clause-room c =
    room-4 (declared c.args.self.now) _ _ _ _ c.args.trait_id.index c.requires.core c.in_ok-add_scalar_impls.ensures.declared c.in_ok-add_ref_impl.ensures.declared c.in_ok-add_pointer_impl.ensures.declared
    c.in_ok-add_pointer_impl-2.ensures.declared

pub returns-clause-declared : goal.returns-clause-declared
returns-clause-declared c =
    copied-built (declared c.args.self.now) _ _ _ _ _ c.args.trait_id.index c.requires.core.home c.in_ok-add_scalar_impls.ensures.declared c.in_ok-add_ref_impl.ensures.declared c.in_ok-add_pointer_impl.ensures.declared
    c.in_ok-add_pointer_impl-2.ensures.declared c.in_ok-add_array_impl.ensures.declared

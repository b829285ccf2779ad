use Rattle.std.proofs.Common.{subst, sym}
use Rattle.text_tables.specs.CoreItems.{HasRoom, IsInCore}
use Rattle.text_tables.proofs.CoreLemmas.{in_core, in_core_boxed, room_cloned, cloned, boxed, all_copied}
use Rattle.text_tables.proofs.tables.Tables.new.Goals as goal

pub add_copied-requires-clause-core : goal.add_copied-requires-clause-core
add_copied-requires-clause-core c = subst IsInCore (sym c.in_ok-add_third_traits.ensures.declared) in_core

pub add_box_impl-requires-clause-room : goal.add_box_impl-requires-clause-room
add_box_impl-requires-clause-room c = subst HasRoom (sym (cloned _ _ c.in_ok-add_third_traits.ensures.declared c.in_ok-add_copied.ensures.declared)) room_cloned

pub add_copied-requires-2-clause-core : goal.add_copied-requires-2-clause-core
add_copied-requires-2-clause-core c =
    subst IsInCore (sym (boxed _ _ (cloned _ _ c.in_ok-add_third_traits.ensures.declared c.in_ok-add_copied.ensures.declared) c.in_ok-add_box_impl.ensures.declared)) in_core_boxed

pub returns-clause-declared : goal.returns-clause-declared
returns-clause-declared c =
    all_copied _ _ (boxed _ _ (cloned _ _ c.in_ok-add_third_traits.ensures.declared c.in_ok-add_copied.ensures.declared) c.in_ok-add_box_impl.ensures.declared) c.in_ok-add_copied-2.ensures.declared

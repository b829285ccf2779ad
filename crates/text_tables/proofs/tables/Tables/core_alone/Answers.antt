use Rattle.std.proofs.Common.{refl, rules}
use Rattle.text_tables.proofs.Consistent.{core-consistent}
use Rattle.text_tables.proofs.tables.Tables.core_alone.Goals as goal

pub returns-clause-consistent : goal.returns-clause-consistent
returns-clause-consistent c =
    core-consistent _ c.new-names.result _ _ _ _ _ c.in_ok-push.ensures.items c.in_ok-vec-2.ensures.items c.in_ok-insert.ensures.updates (search rules) refl (search rules) (search rules) (search rules) (search rules) c.in_ok-vec.ensures.items refl
    (search rules) (search rules) (search rules) refl refl (record { sections = search rules; later = search rules; checks = search rules; outside = refl; none = refl }) c.new-names.ensures.empty (search rules) refl

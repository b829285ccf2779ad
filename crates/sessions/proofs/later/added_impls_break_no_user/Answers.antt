use Rattle.type_terms.specs.Promised.Renumbering.{asker_in_set, renumbered_impl}
use Rattle.sessions.proofs.later.added_impls_break_no_user.Goals as goal

pub returns : goal.returns
returns c = λ W vs rank l v h i a.
    let added = c.added_by_the_view_is_added.ensures W vs rank l v h i a in
    record {
      apart = λ x s n j p k o. c.later_versions_break_no_user.ensures W vs rank l x (asker_in_set v) s n (renumbered_impl v.numbers i) j added p k o;
      unknown = λ x s A f. c.later_impls_conclude_nothing_known.ensures W vs rank l x (asker_in_set v) (renumbered_impl v.numbers i) s added A f;
    }

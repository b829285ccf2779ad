use Rattle.std.proofs.Common.{◌∙◌, ap, sym, subst, inl, inr}
use Rattle.search_paths.specs.KeptPaths.{indices}
use Rattle.search_paths.specs.Heads.{IsHead}
use Rattle.search_paths.proofs.HeadFacts.{indices-none}
use Rattle.search_graph.proofs.steps.hear.Goals as goal

pub step-requires-clause-due : goal.step-requires-clause-due
step-requires-clause-due g c = c.requires.due

pub step-requires-clause-reply : goal.step-requires-clause-reply
step-requires-clause-reply g c = c.requires.reply

pub returns-clause-unread : goal.returns-clause-unread
returns-clause-unread g c = λ none unread. c.in_ok-gather.ensures.unread none (indices-none c.hold.new.heads.items (c.in_ok-hold.ensures.same ∙ ap indices unread))

pub returns-clause-rests : goal.returns-clause-rests
returns-clause-rests g c = λ place.
    let both = c.in_ok-gather.ensures.rests place in
    let same = c.in_ok-hold.ensures.same in (
      λ h. elim (both.0 h) [ inl old ↦ inl old | inr more ↦ inr (subst (IsHead place) same more) ],
      λ h. both.1 (elim h [ inl old ↦ inl old | inr more ↦ inr (subst (IsHead place) (sym same) more) ]),
    )

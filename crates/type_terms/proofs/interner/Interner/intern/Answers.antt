use Rattle.std.proofs.Common.{◌≡◌, ◌∷◌, [], ◌++◌, sym, ◌∙◌, ap, refl, Option, None, Some, is_some, false, subst, inr}
use Rattle.indexmap.specs.IndexMap.{keys}
use Rattle.indexmap.proofs.CallerLemmas.{insert_entry-new}
use Rattle.type_terms.specs.Terms.{Absent, Terms}
use Rattle.type_terms.specs.Promised.Handles.{held}
use Rattle.type_terms.specs.Nodes.{node_entry, node_trees, kind_of, Held}
use Rattle.type_terms.specs.Infos.{info_of}
use Rattle.type_terms.proofs.Unique.{absent-entry}
use Rattle.type_terms.specs.Counts.{count_of, raised}
use Rattle.type_terms.specs.Inner.{entries_of}
use Rattle.type_terms.proofs.Entries.{found-entry, count-held, entries-added, sound-added, last-added, keeps-added}
use Rattle.type_terms.specs.contracts.node.NodePartialEq.TheImpl.{ghosts}
use Rattle.type_terms.specs.declared.interner.Interner.TheInside.{Inside}
use Rattle.indexmap.specs.IndexMap.{get}
use Rattle.type_terms.proofs.interner.Interner.intern.Goals as goal
use Rattle.type_terms.proofs.interner.Interner.intern.Goals.{In_default, After-of}
use Rattle.type_terms.proofs.TypeBasics.{on-err as on_err}

not_some : {A : Type 0} (o : Option A) → is_some o ≡ false → o ≡ None
not_some None h = refl
not_some (Some x) h = cc

pub returns-in-Some-clause-is : goal.returns-in-Some-clause-is
returns-in-Some-clause-is c =
    rw (← c.self.view_is) (found-entry (keys c.self.inside.nodes) c.args.node c.in-Some.index c.self.invariant.older (sym c.in-Some.ensures.index))

pub returns-then-of-self-clause-full : goal.returns-then-of-self-clause-full
returns-then-of-self-clause-full c =
    λ _. rw (← c.self.view_is)
    (sym (count-held c.self.inside.counts (entries_of c.self.inside) c.args.node c.self.invariant.counted)
    ∙ ap (λ t. count_of t c.self.inside.counts) (sym c.handle_kind-kind.ensures) ∙ sym c.of.ensures ∙ c.if-of-self.true)

pub added : (c : goal.After-self-1) → c.insert.new.self.entries ≡ c.self.inside.nodes.entries ++ (c.args.node, c.args.info) ∷ []
added c =
    let none : get ghosts.eq c.self.inside.nodes c.args.node ≡ None = not_some _ (sym c.in_default.ensures.found) in
    c.in_ok-insert.ensures.entries ∙ insert_entry-new ghosts.eq c.self.inside.nodes c.args.node c.args.info none

pub invariant_of-self-2 : goal.invariant_of-self-2
invariant_of-self-2 c =
    let table = c.handle_kind-kind.ensures in
    let after : Inside = record { nodes = c.insert.new.self; counts = c.raised-self-inside.result; limit = c.self.inside.limit } in
    sound-added c.self.inside after c.args.node c.args.info (added c) c.self.invariant
    (subst (λ (v : Terms). Held v.entries c.args.node) (sym c.self.view_is) c.requires.held)
    (c.requires.info ∙ ap (λ v. info_of (node_trees v.entries c.args.node)) (sym c.self.view_is))
    (λ e. c.if-of-self.false (c.of.ensures ∙ ap (λ t. count_of t c.self.inside.counts) table ∙ e))
    (c.raised-self-inside.ensures ∙ ap (λ t. raised t c.self.inside.counts) table)
    refl

pub returns-clause-is : goal.returns-clause-is
returns-clause-is c =
    let after : Inside = record { nodes = c.insert.new.self; counts = c.raised-self-inside.result; limit = c.self.inside.limit } in
    rw (← c.self.view_is)
    (last-added c.self.inside after c.args.node c.args.info (added c) c.len-index.result c.len-index.ensures.len)

pub returns-clause-grew : goal.returns-clause-grew
returns-clause-grew c =
    let after : Inside = record { nodes = c.insert.new.self; counts = c.raised-self-inside.result; limit = c.self.inside.limit } in
    rw (← c.self.view_is) (record { keeps = keeps-added c.self.inside after c.args.node c.args.info (added c); limit = refl })

absent-in : (c : In_default) → Absent (node_entry c.args.self.now.entries c.args.node) c.args.self.now.entries
absent-in c =
    subst (λ (v : Terms). Absent (node_entry v.entries c.args.node) v.entries) c.self.view_is
    (absent-entry c.self.inside.nodes.entries c.self.invariant.older c.get_index_of.ensures.unique c.args.node
    (subst (λ (v : Terms). Held v.entries c.args.node) (sym c.self.view_is) c.requires.held)
    (not_some _ (sym c.in_default.ensures.found)))

pub returns-then-of-self-clause-absent : goal.returns-then-of-self-clause-absent
returns-then-of-self-clause-absent c = absent-in (goal.at.returns-then-of-self-clause-absent c).In_default

pub returns-in_err-insert-clause-absent : goal.returns-in_err-insert-clause-absent
returns-in_err-insert-clause-absent c = on_err _ c.from_residual.result (absent-in (goal.at.returns-in_err-insert-clause-absent c).In_default)

pub returns-in-Some-clause-refuses : goal.returns-in-Some-clause-refuses
returns-in-Some-clause-refuses c =
    λ full absent. absurd
    (absent c.in-Some.index
    (rw (← c.self.view_is) (found-entry (keys c.self.inside.nodes) c.args.node c.in-Some.index c.self.invariant.older (sym c.in-Some.ensures.index))))

-- after the test the table has room
has-room : (c : After-of) → (c.of.result ≡ c.self.inside.limit → ⊥) → held (kind_of c.args.node) c.args.self.now.entries ≡ c.args.self.now.limit → ⊥
has-room c unlike full =
    let inside : held (kind_of c.args.node) (entries_of c.self.inside) ≡ c.self.inside.limit =
    subst (λ (v : Terms). held (kind_of c.args.node) v.entries ≡ v.limit) (sym c.self.view_is) full in
    unlike (c.of.ensures ∙ ap (λ t. count_of t c.self.inside.counts) c.handle_kind-kind.ensures
    ∙ count-held c.self.inside.counts (entries_of c.self.inside) c.args.node c.self.invariant.counted ∙ inside)

pub returns-in_err-insert-clause-refuses : goal.returns-in_err-insert-clause-refuses
returns-in_err-insert-clause-refuses c = λ full absent. absurd (has-room (goal.at.returns-in_err-insert-clause-refuses c).After-of c.if-of-self.false full)

pub returns-clause-refuses : goal.returns-clause-refuses
returns-clause-refuses c = λ full absent. absurd (has-room (goal.at.returns-clause-refuses c).After-of c.if-of-self.false full)

pub returns-clause-adds : goal.returns-clause-adds
returns-clause-adds c =
    let after : Inside = record { nodes = c.insert.new.self; counts = c.raised-self-inside.result; limit = c.self.inside.limit } in
    inr (absent-in (goal.at.returns-clause-adds c).In_default, rw (← c.self.view_is) (entries-added c.self.inside after c.args.node c.args.info (added c)))

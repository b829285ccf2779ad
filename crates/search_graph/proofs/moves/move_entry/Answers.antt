use Rattle.std.proofs.Common.{◌∙◌, ◌+◌, ◌↔◌, ◌⊎◌, ap, refl, sym, subst, arith, length, drop}
use Rattle.search_paths.specs.Path.{HasPath, IsExtended}
use Rattle.search_paths.specs.Heads.{paths_to, first_paths}
use Rattle.search_graph.specs.Stack.{kind_after}
use Rattle.search_paths.proofs.ReadHeads.{first_read}
use Rattle.search_graph.proofs.MovedEntries.{moved_rests, moved_below, moved_there}
use Rattle.search_graph.proofs.moves.move_entry.Goals as goal
use Rattle.type_terms.proofs.BooleanBasics.{true-false as true_not_false}

pub kind_of_path-kind-requires : goal.kind_of_path-kind-requires
kind_of_path-kind-requires g c =
    let rests = moved_rests (length c.args.stack.now) c.args.entry.heads.items c.take_head.new.heads.items c.args.ended.now.dependencies.heads.items c.rest_through.new.heads.items c.take_head.ensures.rests (rw c.deref.ensures.value at c.in_ok-rest_through.ensures.rests) in
    moved_below (length c.args.stack.now) c.args.entry.heads.items c.args.ended.now.dependencies.heads.items c.rest_through.new.heads.items rests c.requires.rests c.requires.below c.in-Some.next (rw c.deref-2.ensures.value at c.in-Some.ensures.head)

pub index-list-requires : goal.index-list-requires
index-list-requires g c =
    let rests = moved_rests (length c.args.stack.now) c.args.entry.heads.items c.take_head.new.heads.items c.args.ended.now.dependencies.heads.items c.rest_through.new.heads.items c.take_head.ensures.rests (rw c.deref.ensures.value at c.in_ok-rest_through.ensures.rests) in
    let low = moved_below (length c.args.stack.now) c.args.entry.heads.items c.args.ended.now.dependencies.heads.items c.rest_through.new.heads.items rests c.requires.rests c.requires.below c.in-Some.next (rw c.deref-2.ensures.value at c.in-Some.ensures.head) in
    omega (arith, low, c.requires.listed, c.args.entries.now.lists.ok.0)

pub leave-requires : goal.leave-requires
leave-requires g c =
    let rests = moved_rests (length c.args.stack.now) c.args.entry.heads.items c.take_head.new.heads.items c.args.ended.now.dependencies.heads.items c.rest_through.new.heads.items c.take_head.ensures.rests (rw c.deref.ensures.value at c.in_ok-rest_through.ensures.rests) in
    let low = moved_below (length c.args.stack.now) c.args.entry.heads.items c.args.ended.now.dependencies.heads.items c.rest_through.new.heads.items rests c.requires.rests c.requires.below c.in-Some.next (rw c.deref-2.ensures.value at c.in-Some.ensures.head) in
    omega (arith, low, c.requires.listed)

pub returns-clause-moved : goal.returns-clause-moved
returns-clause-moved g c =
    let stack = c.args.stack.now in
    let next = c.in-Some.next in
    let rests = moved_rests (length stack) c.args.entry.heads.items c.take_head.new.heads.items c.args.ended.now.dependencies.heads.items c.rest_through.new.heads.items c.take_head.ensures.rests (rw c.deref.ensures.value at c.in_ok-rest_through.ensures.rests) in
    let low = moved_below (length stack) c.args.entry.heads.items c.args.ended.now.dependencies.heads.items c.rest_through.new.heads.items rests c.requires.rests c.requires.below next (rw c.deref-2.ensures.value at c.in-Some.ensures.head) in
    let old = c.args.entry.heads.items in
    let own = c.args.ended.now.dependencies.heads.items in
    let taken = c.take_head.new.heads.items in
    let new = c.rest_through.new.heads.items in
    let first = first_read old (length stack) c.take_head.result c.empty.result c.unwrap_or-read.result c.take_head.ensures.taken c.take_head.ensures.absent (c.empty.ensures tt) c.unwrap_or-read.ensures in
    moved_there stack c.args.step_kind c.args.ended.now c.args.ended_reach c.args.asked next c.args.entry _ c.args.entries.now.lists.items c.leave.new.self.lists.items (omega (arith, low, c.requires.listed)) c.in_ok-leave.ensures.added
    (record {
      input = refl;
      number = refl;
      result = refl;
      depth = refl;
      overflow = c.is_met-encountered_overflow.ensures;
      reached = c.min-reach.ensures;
      asked_under = refl;
      same = c.requires.same;
      rests = rests;
      nearest = (rw c.deref-2.ensures.value at c.in-Some.ensures.head, rw c.deref-2.ensures.value at c.in-Some.ensures.nearest);
      reads = λ place apart path.
          subst (λ n. HasPath (paths_to new place) path ↔ (HasPath n path ⊎ IsExtended (first_paths old (length stack)) (paths_to own place) path)) (c.take_head.ensures.others place apart)
          (subst (λ k. HasPath (paths_to new place) path ↔ (HasPath (paths_to taken place) path ⊎ IsExtended k (paths_to own place) path)) (sym first) ((rw c.deref.ensures.value at c.in_ok-rest_through.ensures.read) place path));
      kind = c.kind_of_path-kind.ensures ∙ ap (λ k. kind_after (drop (next + 1) stack) k) c.extend.ensures.is;
      free = λ forced. true_not_false (sym (rw forced at c.eq.ensures) ∙ c.if-eq.false);
    })

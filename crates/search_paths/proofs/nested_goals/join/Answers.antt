use Rattle.std.proofs.Common.{◌≡◌, ◌++◌, ◌∙◌}
use Rattle.std.proofs.lemmas.List.Sorted.{IsPermutation-append_comm, IsPermutation-refl}
use Rattle.search_paths.proofs.nested_goals.join.Goals as goal
use Rattle.search_paths.proofs.nested_goals.join.Goals.{then-len, else-len}

pub returns : goal.returns
returns c =
    elim c.if-len.branch [
      | then-len w ↦
          let numbers = w.numbers-is ∙ w.swap.ensures.x_after in
          let more = w.more-is ∙ w.swap.ensures.y_after in
          let e : c.append.new.self.items ≡ c.args.more.items ++ c.args.numbers.now.items = c.in_ok-append.ensures.items ∙ (λ i. (numbers i).items ++ (more i).items) in
          rw e (IsPermutation-append_comm c.args.numbers.now.items c.args.more.items)
      | else-len w ↦
          let e : c.append.new.self.items ≡ c.args.numbers.now.items ++ c.args.more.items = c.in_ok-append.ensures.items ∙ (λ i. (w.numbers-is i).items ++ (w.more-is i).items) in
          rw e (IsPermutation-refl (c.args.numbers.now.items ++ c.args.more.items))
    ]

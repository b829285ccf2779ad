use Rattle.std.proofs.Common.{◌≡◌, length, sym, ap, ◌∙◌, arith}
use Rattle.search_graph.proofs.Caches.{known_length}
use Rattle.search_graph.proofs.global_cache.GlobalCache.forget_if_many.Goals as goal

pub returns-then-len-gt-MAX_KEPT_RESULTS-clause-kept : goal.returns-then-len-gt-MAX_KEPT_RESULTS-clause-kept
returns-then-len-gt-MAX_KEPT_RESULTS-clause-kept g c = λ few.
    let all : length c.args.self.now ≡ length c.self.inside.results.entries.items = ap length (sym c.self.view_is) ∙ known_length c.self.inside.results.entries.items in
    absurd (omega arith)

pub returns-else-len-gt-MAX_KEPT_RESULTS-clause-forgotten : goal.returns-else-len-gt-MAX_KEPT_RESULTS-clause-forgotten
returns-else-len-gt-MAX_KEPT_RESULTS-clause-forgotten g c = λ many.
    let all : length c.args.self.now ≡ length c.self.inside.results.entries.items = ap length (sym c.self.view_is) ∙ known_length c.self.inside.results.entries.items in
    absurd (omega arith)

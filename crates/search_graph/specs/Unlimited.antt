-- What a nested goal gave and stored depends on no limit, stated of the search and the cache before and after it.
use Rattle.std.specs.declared.cmp.PartialEq
use Rattle.std.specs.declared.hash.Hash
use Rattle.search_graph.specs.declared.delegate.Delegate
use Rattle.std.specs.Prelude.{◌++◌, ◌∷◌, []}
use Rattle.std.specs.Global.{Vec}
use Rattle.search_graph.specs.declared.stack.StackEntry.{StackEntry}
use Rattle.search_graph.specs.declared.provisional.ProvisionalEntry.{ProvisionalEntry}
use Rattle.search_graph.specs.declared.search.Search.{Search}
use Rattle.search_graph.specs.declared.cache.CachedResults.{CachedResults}
use Rattle.search_graph.specs.Meaning.{Meaning}
use Rattle.search_graph.specs.Question.{AllStayWithin, RunStaysWithin}

module _ {D C F I R A : Type 0} {delegate : Delegate.Ghosts D C F I R A} {eq : PartialEq.Ghosts I} {hash : Hash.Ghosts I} {same : PartialEq.Ghosts R} (m : Meaning C I R F) where
  -- for a nested goal: `old` and `cache` are before its evaluation, `new` and `more` after it
  abbrev pub SearchStaysWithin : C → Search D C F I R A delegate eq hash same → CachedResults D C F I R A delegate eq hash same → I
      → C → Search D C F I R A delegate eq hash same → CachedResults D C F I R A delegate eq hash same → R → Type 0
  SearchStaysWithin c old cache input d new more r = AllStayWithin m c old.stack.items cache.entries.items old.entries.lists.items input new.limits_met d more.entries.items new.entries.lists.items r

  -- for a run of the entry's goal, which ended with these provisional entries
  abbrev pub SearchRunsWithin : C → Search D C F I R A delegate eq hash same → CachedResults D C F I R A delegate eq hash same → StackEntry I R
      → C → Search D C F I R A delegate eq hash same → CachedResults D C F I R A delegate eq hash same → R → Vec (ProvisionalEntry I R) → Type 0
  SearchRunsWithin c old cache entry d new more r left =
      RunStaysWithin m c old.stack.items cache.entries.items old.entries.lists.items entry new.limits_met d more.entries.items (new.entries.lists.items ++ left ∷ []) r

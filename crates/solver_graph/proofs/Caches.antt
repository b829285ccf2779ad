-- Caches over contexts that have grown.
use Rattle.std.proofs.Common.{List, [], ◌∷◌}
use Rattle.search_graph.specs.SearchPaths.declared.path_kind.PathKind.TheVariants.{Inductive}
use Rattle.search_graph.specs.Meaning as Search
use Rattle.search_graph.specs.Cache.{KnownResult, IsJustified, AreJustified}
use Rattle.search_graph.proofs.Graphs.{IsProvisional-keeps}

-- ---- caches
module _ {C I R F : Type 0} (m : Search.Meaning C I R F) where
  one-later : (c d : C) (k : KnownResult I R) → Search.KeepsContext m c d → IsJustified m c k → IsJustified m d k
  one-later c d k keeps h = record {
    known = (keeps.inputs k.input h.known).0;
    result = rw (keeps.world, (keeps.inputs k.input h.known).1) (IsProvisional-keeps m (m.world c) [] (m.goal_of c k.input, Inductive) [] c d k.result keeps h.result);
    kept = rw (keeps.world, (keeps.inputs k.input h.known).1, (keeps.results k.result h.result.known).1) h.kept;
  }

  -- what is justified in a context is so in a later one
  pub justified-later : (c d : C) (ks : List (KnownResult I R)) → Search.KeepsContext m c d → AreJustified m c ks → AreJustified m d ks
  justified-later c d [] keeps h = tt
  justified-later c d (k ∷ ks) keeps h = (one-later c d k keeps h.0, justified-later c d ks keeps h.1)

-- Pairs of impls whose goals are left open.
use Rattle.std.specs.Prelude.{◌≡◌, ◌⊎◌, ℕ, List}
use Rattle.type_terms.specs.Promised.Proofs.{In}
use Rattle.type_terms.specs.Promised.Handles.{Entry}
use Rattle.type_terms.specs.Terms.{Lawful}
use Rattle.type_terms.specs.declared.ImplId.{ImplId}
use Rattle.term_folds.specs.declared.predicate.TraitRef.{TraitRef}
use Rattle.infer_table.specs.Content.{content}
use Rattle.declarations.specs.Items.{Items, reference_in, written}
use Rattle.declarations.specs.declared.items.ImplDef.{ImplDef}
use Rattle.overlap_check.specs.Goals.{unknown_kinds}
use Rattle.overlap_check.specs.Headers.{resolved_reference, IsIntersection, IsSolved}
use Rattle.overlap_check.specs.Orphans.{AreWrittenWell}
use Rattle.overlap_check.specs.Partners.{IsPairAt}
use Rattle.type_terms.specs.Promised.Questions.{IsRefuteAnswer, unrefuted}
use Rattle.overlap_check.specs.declared.intersection.ImplIntersection.{ImplIntersection}
use Rattle.text_language.specs.Promised.Declarations.{Declarations}
use Rattle.text_lowering.specs.Promised.SeenWorlds.{plainly_seen_from}
use Rattle.candidate_assembly.specs.Fitting.{solving_of}
use Rattle.candidate_assembly.specs.Ready.{AreReadyDeclarations}
use Rattle.candidate_assembly.specs.SolverMeaning.{solver_by_view}
use Rattle.sessions.specs.Asking.{IsLeftOpen}
use Rattle.sessions.specs.PairGoals.{as_resolved}
use Rattle.sessions.specs.Promised.Promises.{view_in}
use Rattle.sessions.specs.Sessions.{IsSolvingOf}
use Rattle.sessions.specs.Promised.Subjects.{IsOfText}

-- For a pair of impls that a crate sees in a text, each goal that is left open within this depth is possible, if it is bounded.
abbrev pub OpenPairGoalsArePossible : Type 0
OpenPairGoalsArePossible =
    (d : Declarations) (c depth : ℕ) → IsOfText d
    → (old : List Entry) → Lawful old → (decls : Items) → AreReadyDeclarations old decls → AreWrittenWell old decls → written old decls ≡ plainly_seen_from d c → IsSolvingOf d c (solving_of old decls)
    → (k j : ImplId) (w x : ImplDef) → IsPairAt old decls k j w x
    → (es : List Entry) (found : ImplIntersection) → IsIntersection old w x es found → IsSolved old w x es found
    → (r : TraitRef) → In r found.left.items ⊎ In r found.right.items
    → IsLeftOpen solver_by_view (solving_of old decls) depth
    (as_resolved es found.table r)
    → IsRefuteAnswer depth (view_in d c) c (unknown_kinds found.table) (resolved_reference (content es found.table.values) (reference_in es r)) unrefuted

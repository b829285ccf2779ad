-- The goals of a pair of impls, as the search evaluates them: their terms are well-formed, by what a crate sees of a text.
use Rattle.std.specs.Prelude.{ℕ, List}
use Rattle.type_terms.specs.Promised.Worlds.{World, Reference}
use Rattle.type_terms.specs.Promised.Proofs.{In}
use Rattle.type_terms.specs.Promised.Handles.{Entry, trees_at}
use Rattle.type_terms.specs.Terms.{Lawful}
use Rattle.type_terms.specs.declared.ImplId.{ImplId}
use Rattle.term_folds.specs.declared.predicate.TraitRef.{TraitRef}
use Rattle.infer_table.specs.Content.{Table, content}
use Rattle.infer_table.specs.Solutions.{resolved}
use Rattle.declarations.specs.Held.{ImplHeld}
use Rattle.declarations.specs.Items.{Items, written, impl_in}
use Rattle.declarations.specs.Promised.Elaboration.{Each}
use Rattle.declarations.specs.declared.items.ImplDef.{ImplDef}
use Rattle.overlap_check.specs.Headers.{IsIntersection, IsSolved}
use Rattle.overlap_check.specs.Written.{IsWrittenWell}
use Rattle.overlap_check.specs.declared.intersection.ImplIntersection.{ImplIntersection}
use Rattle.text_language.specs.Promised.Declarations.{Declarations}
use Rattle.text_lowering.specs.Promised.SeenWorlds.{plainly_seen_from}
use Rattle.text_lowering.specs.Ready.{AreSeen}
use Rattle.solver_completeness.specs.FormedFacts.{Sorts}
use Rattle.sessions.specs.Fitting.{sorts_in}
use Rattle.sessions.specs.Goals.{HasFormedTerms}
use Rattle.sessions.specs.Promised.Subjects.{IsOfText}

-- The trait reference as the table resolves it.
abbrev pub as_resolved : List Entry → Table → TraitRef → Reference
as_resolved es t r = record { trait = r.def_id.index; args = resolved (content es t.values) (trees_at es r.args.0) }

-- The goals over the table have well-formed terms there.
abbrev pub AreFormedOver : World → Sorts → List Entry → Table → List TraitRef → Type 0
AreFormedOver V sorts es t rs = Each (λ (r : TraitRef). HasFormedTerms V sorts (as_resolved es t r)) rs

-- An impl of the view, over the terms of an interner.
pub record IsImplOf (V : World) (es : List Entry) (i : ImplId) (def : ImplDef) : Type 0 where
  pub seen : In (impl_in es i def) V.impls
  pub held : ImplHeld es def
  pub written : IsWrittenWell es def

-- The goals of two impls that a crate sees in a text have well-formed terms, as the table of the pair resolves them.
abbrev pub PairGoalsAreFormed : Type 0
PairGoalsAreFormed =
    (d : Declarations) → IsOfText d → (c : ℕ) (es : List Entry) → Lawful es
    → (k j : ImplId) (w x : ImplDef) → IsImplOf (plainly_seen_from d c) es k w → IsImplOf (plainly_seen_from d c) es j x
    → (new : List Entry) (found : ImplIntersection) → IsIntersection es w x new found → IsSolved es w x new found
    → (at : List Entry) (decls : Items) → AreSeen at decls d c
    → AreFormedOver (written at decls) (sorts_in decls) new found.table found.left.items × AreFormedOver (written at decls) (sorts_in decls) new found.table found.right.items

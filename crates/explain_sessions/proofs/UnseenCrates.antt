-- What the walks tell of crates that are not seen.
use Rattle.std.proofs.Common.{◌≡◌, ◌<◌, ◌∙◌, ℕ, ap, subst, arith, List, [], Some, None, Result, Ok, Err}
use Rattle.sessions.specs.TypeTerms.Promised.Handles.{Entry, trees_at}
use Rattle.sessions.specs.TypeTerms.Trees.{depth}
use Rattle.sessions.specs.TypeTerms.Promised.Worlds.{World, Reference}
use Rattle.sessions.specs.TermFolds.declared.predicate.TraitRef.{TraitRef}
use Rattle.sessions.specs.InferTable.Content.{Table, content}
use Rattle.sessions.specs.InferTable.Solutions.{resolved}
use Rattle.sessions.specs.Declarations.Items.{reference_in}
use Rattle.sessions.specs.OrphanCheck.Exact.{reference_read, WalkTellsKnown}
use Rattle.sessions.specs.OrphanCheck.declared.errors.Conflict.{Conflict}
use Rattle.sessions.specs.OrphanCheck.declared.errors.Conflict.TheVariants.{Upstream, Downstream}
use Rattle.sessions.specs.OrphanCheck.declared.errors.WalkError.{WalkError}
use Rattle.sessions.specs.OrphanCheck.declared.errors.WalkError.TheVariants.{Deep}
use Rattle.explain_sessions.specs.Unseen.{IsUnseen}

-- no variable has a value in an empty table
pub unread : (es : List Entry) (t : Table) → t.values ≡ [] → (r : TraitRef) → reference_read es t r ≡ reference_in es r
unread es t e r = ap (λ vs. let x : Reference = record { trait = r.def_id.index; args = resolved (content es vs) (trees_at es r.args.0) } in x) e

module _ {E : Type 0} (V : World) (c limit : ℕ) (r : Reference) (a : Result (Result (Unit {0}) Conflict) (WalkError E)) (told : WalkTellsKnown V c limit r a) where
  pub told-known : (x : Result (Unit {0}) Conflict) (u : Unit {0}) → a ≡ Ok x → x ≡ Ok u → IsUnseen V c r None
  told-known x u e f = subst (WalkTellsKnown V c limit r) (e ∙ ap Ok f) told

  pub told-conflict : (x : Result (Unit {0}) Conflict) (y : Conflict) → a ≡ Ok x → x ≡ Err y → IsUnseen V c r (Some y)
  told-conflict x Upstream e f = subst (WalkTellsKnown V c limit r) (e ∙ ap Ok f) told
  told-conflict x Downstream e f = subst (WalkTellsKnown V c limit r) (e ∙ ap Ok f) told

  pub never-deep : (x : WalkError E) → a ≡ Err x → x ≡ Deep → limit ≡ depth r.args → ⊥
  never-deep x e f k = let deep : limit < depth r.args = subst (WalkTellsKnown V c limit r) (e ∙ ap Err f) told in omega (arith, deep, k)

-- The visitor of parameters may enter a type once.
use Rattle.std.proofs.Common.{◌≡◌, ℕ, List, refl, ap, sym, ◌∙◌, Bool, true, false, Option, subst}
use Rattle.std.specs.Prelude.{◌||◌}
use Rattle.type_terms.specs.Promised.Trees.{Trees}
use Rattle.type_terms.specs.Promised.Handles.{Entry, trees_at}
use Rattle.term_folds.specs.declared.instantiate.InstantiateError.{InstantiateError}
use Rattle.term_folds.specs.declared.instantiate.ParamVisitor.{ParamVisitor}
use Rattle.type_terms.specs.declared.once.Once.{Once}
use Rattle.type_terms.specs.declared.visit.Seen.{Seen}
use Rattle.type_terms.specs.Pieces.{Piece}
use Rattle.type_terms.specs.Visits.{VisitsEach}
use Rattle.term_folds.specs.Arguments.{looked_at, is_param_node, Looks}
use Rattle.type_terms.specs.Entering.{HasEntered, SeesOnce}
use Rattle.term_folds.proofs.MisfitFacts.{FoundIn, visit-finds-in}
use Rattle.type_terms.proofs.OnceFacts.{Repeats, once-visits-each}

or-true : (b c : Bool) → c ≡ true → b || c ≡ true
or-true true c e = refl
or-true false c e = e

-- the arguments do not change, and a recorded parameter remains recorded
abbrev Leads : ParamVisitor → ParamVisitor → Type 0
Leads v w = (w.args ≡ v.args) × (v.met ≡ true → w.met ≡ true)

looks-again : (es : List Entry) (bs cs : List ℕ) (t : Trees) (v w x : ParamVisitor) (a : Seen InstantiateError) → Looks es bs t v w a → Leads w x → Looks es cs t x x a
looks-again es bs cs t v w x a h l = (h.0 ∙ ap (λ y. looked_at (trees_at es y.0) t) (sym (l.0 ∙ h.1.0)), (refl, go (is_param_node t) h.1.1))
  where
    go : (b : Bool) → w.met ≡ b || v.met → x.met ≡ b || x.met
    go true e = l.1 e
    go false e = refl

looks-repeat : (es : List Entry) → Repeats (Looks es) Leads
looks-repeat es = record {
  nowhere = λ v. (refl, λ e. e);
  on = λ u v w a b. (b.0 ∙ a.0, λ e. b.1 (a.1 e));
  by = λ bs t v w a h. (h.1.0, λ e. h.1.1 ∙ or-true (is_param_node t) v.met e);
  again = λ bs cs t v w x a h l. looks-again es bs cs t v w x a h l;
}

-- so it finds the first misfit
pub found-once : (es : List Entry) (A : Trees) (x : ParamVisitor) {bs : List ℕ} {ps : List Piece} {v w : Once ParamVisitor} {r : Option InstantiateError} → VisitsEach (SeesOnce (Looks es) es) bs ps v w r
    → v.visitor ≡ x → ((t : Trees) → HasEntered es v.entered t → ⊥) → trees_at es x.args.0 ≡ A → FoundIn A ps x w.visitor r
found-once es A x {bs = bs} {ps = ps} {v = v} {w = w} {r = r} h e none q =
    let visited = once-visits-each (Looks es) Leads (looks-repeat es) es bs ps v w r h (λ s has. absurd (none s has)) in
    visit-finds-in es A (subst (λ z. VisitsEach (Looks es) bs ps z w.visitor r) e visited) q

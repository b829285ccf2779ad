-- A visitor that looks for some trees may enter a type once: it finds them where it would without.
use Rattle.std.proofs.Common.{◌≡◌, ℕ, List, refl, sym, ◌∙◌, ap, subst, Bool, Option, is_some}
use Rattle.type_terms.specs.Promised.Trees.{Trees}
use Rattle.type_terms.specs.Promised.Handles.{Entry}
use Rattle.type_terms.specs.declared.once.Once.{Once}
use Rattle.type_terms.specs.Visits.{Visits}
use Rattle.type_terms.specs.Entering.{HasEntered, SeesOnce}
use Rattle.type_terms.proofs.OnceFacts.{Repeats, once-visits}
use Rattle.candidate_assembly.specs.Finding.{BreaksAt}
use Rattle.candidate_assembly.proofs.Finding.{Sees, some_tree, visits-find}

module _ {V B : Type 0} (p : V → Trees → Bool) where
  -- it stays as it is, so to a tree that it has seen it answers the same
  sees-repeat : Repeats (Sees p B) (λ v w. w ≡ v)
  sees-repeat = record {
    nowhere = λ v. refl;
    on = λ u v w a b. b ∙ a;
    by = λ bs t v w a h. h.0;
    again = λ bs cs t v w x a h l. (refl, subst (λ z. BreaksAt (p z t) a) (sym (l ∙ h.0)) h.1);
  }

  pub once-finds : (es : List Entry) {x : V} {bs : List ℕ} {t : Trees} {v w : Once V} {r : Option B} → Visits (SeesOnce (Sees p B) es) bs t v w r
      → v.visitor ≡ x → ((s : Trees) → HasEntered es v.entered s → ⊥) → is_some r ≡ some_tree (p x) t
  once-finds es {x = x} {bs = bs} {t = t} {v = v} {w = w} {r = r} h e new =
      let visit = once-visits (Sees p B) (λ a b. b ≡ a) sees-repeat es bs t v w r h (λ s has. absurd (new s has)) in
      (visits-find p visit.visited).1 ∙ ap (λ z. some_tree (p z) t) e

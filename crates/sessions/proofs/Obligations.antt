-- Obligations for the first of some trait references, as they are registered one by one.
use Rattle.std.proofs.Common.{◌≡◌, ◌<◌, ◌≤◌, ◌+◌, ℕ, List, [], ◌∷◌, ◌++◌, length, get_or, take, refl, sym, ap, ◌∙◌, subst}
use Rattle.std.specs.List.{AllZip}
use Rattle.std.proofs.lemmas.List.{take_all}
use Rattle.type_terms.proofs.Items.{take-push}
use Rattle.term_folds.specs.declared.predicate.TraitRef.{TraitRef}
use Rattle.infer_table.specs.declared.certainty.MaybeCause.TheVariants.{Ambiguity}
use Rattle.infer_table.specs.declared.goal.Goal.{Goal}
use Rattle.fulfillment.specs.declared.obligation.Obligation.{Obligation}
use Rattle.fulfillment.specs.declared.obligation.Standing.TheVariants.{Pending, Done}
use Rattle.sessions.specs.ProvingTogether.{AreObligationsFor, IsObligationFor}
use Rattle.sessions.specs.Questions.{where_clauses}

-- one more pair
zip-push : {A B : Type 0} (R : A → B → Type 0) (xs : List A) (ys : List B) (x : A) (y : B) → AllZip R xs ys → R x y → AllZip R (xs ++ x ∷ []) (ys ++ y ∷ [])
zip-push R [] [] x y h r = (r, tt)
zip-push R [] (z ∷ ys) x y h r = absurd h
zip-push R (z ∷ xs) [] x y h r = absurd h
zip-push R (z ∷ xs) (w ∷ ys) x y h r = (h.0, zip-push R xs ys x y h.1 r)

module _ (clauses rs : List TraitRef) where
  pub none-yet : (os : List Obligation) → os ≡ [] → AreObligationsFor clauses (take 0 rs) os
  none-yet os e = subst (AreObligationsFor clauses []) (sym e) tt

  not-done : (o : Obligation) → o.standing ≡ Pending Ambiguity → o.standing ≡ Done → ⊥
  not-done o e d = apart (sym e ∙ d)
    where
      apart : Pending Ambiguity ≡ Done → ⊥
      apart f = cc

  pub one-more : (i : ℕ) (r : TraitRef) → i < length rs → r ≡ get_or rs i r → (os : List Obligation) (g : Goal) (limit : ℕ) → AreObligationsFor clauses (take i rs) os
      → g.param_env.items ≡ where_clauses clauses → g.predicate.trait_ref ≡ r → (ps : List Obligation) → ps ≡ os ++ (record { goal = g; standing = Pending Ambiguity; left = limit }) ∷ []
      → AreObligationsFor clauses (take (i + 1) rs) ps
  one-more i r lt is os g limit h cs asked ps reg =
      let o : Obligation = record { goal = g; standing = Pending Ambiguity; left = limit } in
      let first : take (i + 1) rs ≡ take i rs ++ r ∷ [] = take-push rs i r lt ∙ ap (λ z. take i rs ++ z ∷ []) (sym is) in
      subst (λ xs. AreObligationsFor clauses xs ps) (sym first)
      (subst (AreObligationsFor clauses (take i rs ++ r ∷ [])) (sym reg)
      (zip-push (IsObligationFor clauses) (take i rs) os r o h (record { clauses_are = cs; asked = asked; fresh = not-done o refl })))

  pub all-taken : (i : ℕ) (os : List Obligation) → length rs ≤ i → AreObligationsFor clauses (take i rs) os → AreObligationsFor clauses rs os
  all-taken i os le h = subst (λ xs. AreObligationsFor clauses xs os) (take_all i rs le) h

-- Trait references in which nothing bound occurs with the values of a table, one by one.
use Rattle.std.proofs.Common.{◌≡◌, ◌<◌, ◌≤◌, ◌+◌, ℕ, zero, suc, arith, List, [], ◌∷◌, ◌++◌, length, get_or, take, sym, ap, ◌∙◌, subst}
use Rattle.std.proofs.lemmas.List.{take_all}
use Rattle.type_terms.specs.Promised.Handles.{Entry, Has}
use Rattle.type_terms.specs.Promised.Proofs.{Every}
use Rattle.type_terms.specs.Terms.{args_lists}
use Rattle.type_terms.proofs.Items.{take-push}
use Rattle.term_folds.specs.declared.predicate.TraitRef.{TraitRef}
use Rattle.declarations.specs.Applied.{TraitRefsHeld, references_in}
use Rattle.declarations.specs.Items.{reference_in}
use Rattle.infer_table.specs.Content.{Table}
use Rattle.sessions.specs.ProvingTogether.{IsUnbound}

at-held : (es : List Entry) (rs : List TraitRef) (i : ℕ) (d : TraitRef) → TraitRefsHeld es rs → i < length rs → Has es args_lists (get_or rs i d).args.0
at-held es [] i d h lt = absurd (omega (arith, lt))
at-held es (r ∷ rs) zero d h lt = h.0
at-held es (r ∷ rs) (suc i) d h lt = at-held es rs i d h.1 (omega (arith, lt))

pub held-at : (es : List Entry) (rs : List TraitRef) (i : ℕ) (r : TraitRef) → TraitRefsHeld es rs → i < length rs → r ≡ get_or rs i r → Has es args_lists r.args.0
held-at es rs i r h lt is = subst (λ (x : TraitRef). Has es args_lists x.args.0) (sym is) (at-held es rs i r h lt)

module _ (es : List Entry) (t : Table) (rs : List TraitRef) where
  abbrev AreUnbound : List TraitRef → Type 0
  AreUnbound xs = Every (IsUnbound es t) (references_in es xs)

  pushed : (xs : List TraitRef) (r : TraitRef) → AreUnbound xs → IsUnbound es t (reference_in es r) → AreUnbound (xs ++ r ∷ [])
  pushed [] r h u = (u, tt)
  pushed (x ∷ xs) r h u = (h.0, pushed xs r h.1 u)

  pub none-unbound : AreUnbound (take 0 rs)
  none-unbound = tt

  pub one-unbound : (i : ℕ) (r : TraitRef) → i < length rs → r ≡ get_or rs i r → AreUnbound (take i rs) → IsUnbound es t (reference_in es r) → AreUnbound (take (i + 1) rs)
  one-unbound i r lt is h u = subst AreUnbound (sym (take-push rs i r lt ∙ ap (λ z. take i rs ++ z ∷ []) (sym is))) (pushed (take i rs) r h u)

  pub all-unbound : (i : ℕ) → length rs ≤ i → AreUnbound (take i rs) → AreUnbound rs
  all-unbound i le h = subst AreUnbound (take_all i rs le) h

-- What a table resolves a reference to is an instance of it.
use Rattle.std.proofs.Common.{◌≡◌, ℕ, Bool, true, false, List, refl, sym, ap, ◌∙◌, Option, Some, None}
use Rattle.sessions.specs.TypeTerms.Promised.Label.{Label, Sort}
use Rattle.sessions.specs.TypeTerms.Promised.Trees.{Trees, erase}
use Rattle.sessions.specs.TypeTerms.Promised.Handles.{Entry, Has, trees_at}
use Rattle.sessions.specs.TypeTerms.Terms.{Lawful, args_lists}
use Rattle.sessions.specs.TypeTerms.Promised.Worlds.{Reference}
use Rattle.sessions.specs.InferTable.WellFormed.{is_numbered}
use Rattle.sessions.specs.TermFolds.declared.predicate.TraitRef.{TraitRef}
use Rattle.sessions.specs.InferTable.Solutions.{Assignment, IsSorted, Binding, instance, resolved, value_in, occurs}
use Rattle.sessions.specs.InferTable.Content.{Table, content, Ready, IsProper}
use Rattle.sessions.proofs.InferTable.EquationFacts.{solved-sorted}
use Rattle.sessions.proofs.InferTable.SolutionLaws.{instance-erase}
use Rattle.sessions.proofs.InferTable.SolvableLaws.{itself, instance-itself}
use Rattle.sessions.proofs.InferTable.Places.{in_terms, trees-proper}
use Rattle.sessions.proofs.OverlapCheck.Solved.{Facts, ready-facts}
use Rattle.sessions.proofs.OverlapCheck.Values.{instance-agrees}
use Rattle.sessions.proofs.OverlapCheck.Posed.{made}
use Rattle.sessions.specs.ProofChecker.Steps.{term_of}
use Rattle.explain_sessions.specs.Rules.{IsInstanceOf}

-- some values for the unknowns give what the table resolves each term to
some-values : (bs : List Binding) → Facts bs → (s : Assignment) × IsSorted s × ((x : Trees) → IsProper x → instance s x ≡ erase (resolved bs x))
some-values bs facts =
    let c = facts.completed itself (λ k v. refl) in (
      c.0,
      solved-sorted c.0 bs c.1.solves,
      λ x p.
          sym (facts.same c.0 x c.1.solves)
          ∙ instance-agrees c.0 itself (resolved bs x) (facts.proper x p) (λ j v h m. by j v x (value_in bs j v) refl m (c.1.agrees j v))
          ∙ instance-itself (resolved bs x) (facts.proper x p),
    )
  where
    by : (j : Sort) (v : ℕ) (x : Trees) (o : Option Trees) → value_in bs j v ≡ o → occurs j v (resolved bs x) ≡ true → {r s : Label × Trees} → (value_in bs j v ≡ None → r ≡ s) → r ≡ s
    by j v x None e m f = f e
    by j v x (Some y) e m f = let n = facts.free j v y x e in absurd (clash m n)
      where
        clash : {b : Bool} → b ≡ true → b ≡ false → ⊥
        clash p q = cc

pub resolved-instance : (es fs : List Entry) → Lawful es → (t : Table) → Ready es t → (r q : TraitRef) → Has es args_lists r.args.0 → r.def_id ≡ q.def_id
    → trees_at fs q.args.0 ≡ resolved (content es t.values) (trees_at es r.args.0) → IsInstanceOf (term_of es r) (term_of fs q)
resolved-instance es fs law t ready r q held same is =
    let v = some-values (content es t.values) (ready-facts es t ready) in
    let x = trees_at es r.args.0 in
    let args : instance v.0 (erase x) ≡ erase (trees_at fs q.args.0) =
    instance-erase v.0 x ∙ v.2 x (trees-proper is_numbered in_terms x (made es law r.args.0 held)) ∙ ap erase (sym is) in
    (v.0, v.1, one (ap (λ d. d.index) same) args)
  where
    one : {m n : ℕ} {y z : Trees} → m ≡ n → y ≡ z → (let a : Reference = record { trait = m; args = y } in a) ≡ record { trait = n; args = z }
    one e f = cc

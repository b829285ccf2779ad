-- Vectors as stacks.
use Rattle.std.proofs.Common.{◌≡◌, ℕ, Bool, true, List, [], ◌∷◌, ◌++◌, map, reverse, refl, sym, ap, ◌∙◌, append_assoc}
use Rattle.std.proofs.lemmas.List.{append-nil, map-append, reverse-append}
use Rattle.type_terms.specs.Promised.Label.{Sort}
use Rattle.text_names.specs.Machine.{Found, keeping}
use Rattle.text_names.specs.Views.{resolved_in, resolved_onto, variable_in, variables_onto}
use Rattle.text_names.specs.Resolved as resolved
use Rattle.text_names.specs.declared.findings.Findings.{Findings}
use Rattle.text_names.specs.declared.resolved.ResolvedCell.{ResolvedCell}
use Rattle.text_names.specs.declared.resolved.Variable.{Variable}

pub resolved-push : (xs : List ResolvedCell) (x : ResolvedCell) (cs : List resolved.ResolvedCell) → resolved_onto (xs ++ x ∷ []) cs ≡ resolved_in x ∷ resolved_onto xs cs
resolved-push [] x cs = refl
resolved-push (y ∷ xs) x cs = resolved-push xs x (resolved_in y ∷ cs)

pub variables-push : (xs : List Variable) (x : Variable) (vs : List (List ℕ × Sort)) → variables_onto (xs ++ x ∷ []) vs ≡ variable_in x ∷ variables_onto xs vs
variables-push [] x vs = refl
variables-push (y ∷ xs) x vs = variables-push xs x (variable_in y ∷ vs)

-- a cell more
pub found-kept : (f : Findings) (vs : List (List ℕ × Sort)) (d : Bool) (xs ys : List ResolvedCell) (x : ResolvedCell) (now : Found) (b : Bool)
    → ys ≡ xs ++ x ∷ [] → record { faults = f; variables = vs; is_deep = d; cells = resolved_onto xs [] } ≡ now → b ≡ true
    → record { faults = f; variables = vs; is_deep = d; cells = resolved_onto ys [] } ≡ keeping b (λ cs. resolved_in x ∷ cs) now
found-kept f vs d xs ys x now b e h t =
    let view : List resolved.ResolvedCell → Found = λ cs. record { faults = f; variables = vs; is_deep = d; cells = cs } in
    ap (λ zs. view (resolved_onto zs [])) e ∙ ap view (resolved-push xs x []) ∙ ap (keeping true (λ cs. resolved_in x ∷ cs)) h ∙ ap (λ c. keeping c (λ cs. resolved_in x ∷ cs) now) (sym t)

pub found-variable : (f : Findings) (xs ys : List Variable) (d : Bool) (cs : List resolved.ResolvedCell) (x : Variable) (now : Found)
    → ys ≡ xs ++ x ∷ [] → record { faults = f; variables = variables_onto xs []; is_deep = d; cells = cs } ≡ now
    → record { faults = f; variables = variables_onto ys []; is_deep = d; cells = cs } ≡ record now { variables = variable_in x ∷ now.variables }
found-variable f xs ys d cs x now e h =
    let view : List (List ℕ × Sort) → Found = λ vs. record { faults = f; variables = vs; is_deep = d; cells = cs } in
    let more : Found → Found = λ a. record a { variables = variable_in x ∷ a.variables } in
    ap (λ zs. view (variables_onto zs [])) e ∙ ap view (variables-push xs x []) ∙ ap more h

-- ---- turned round
one-last : {A : Type 0} (x : A) (xs : List A) → reverse (x ∷ xs) ≡ reverse xs ++ x ∷ []
one-last x xs = reverse-append (x ∷ []) xs

variables-onto : (xs : List Variable) (vs : List (List ℕ × Sort)) → variables_onto xs vs ≡ map variable_in (reverse xs) ++ vs
variables-onto [] vs = refl
variables-onto (x ∷ xs) vs =
    variables-onto xs (variable_in x ∷ vs) ∙ sym (append_assoc (map variable_in (reverse xs)) (variable_in x ∷ []) vs)
    ∙ ap (λ ys. ys ++ vs) (sym (map-append variable_in (reverse xs) (x ∷ []))) ∙ ap (λ ys. map variable_in ys ++ vs) (sym (one-last x xs))

cells-onto : (xs : List ResolvedCell) (cs : List resolved.ResolvedCell) → resolved_onto xs cs ≡ map resolved_in (reverse xs) ++ cs
cells-onto [] cs = refl
cells-onto (x ∷ xs) cs =
    cells-onto xs (resolved_in x ∷ cs) ∙ sym (append_assoc (map resolved_in (reverse xs)) (resolved_in x ∷ []) cs)
    ∙ ap (λ ys. ys ++ cs) (sym (map-append resolved_in (reverse xs) (x ∷ []))) ∙ ap (λ ys. map resolved_in ys ++ cs) (sym (one-last x xs))

pub variables-turned : (xs : List Variable) → map variable_in (reverse xs) ≡ variables_onto xs []
variables-turned xs = sym (variables-onto xs [] ∙ append-nil (map variable_in (reverse xs)))

pub cells-turned : (xs : List ResolvedCell) → map resolved_in (reverse xs) ≡ resolved_onto xs []
cells-turned xs = sym (cells-onto xs [] ∙ append-nil (map resolved_in (reverse xs)))

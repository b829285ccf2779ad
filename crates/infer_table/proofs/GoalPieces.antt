-- The terms of where-clauses, clause by clause.
use Rattle.std.proofs.Common.{◌≡◌, ℕ, ◌+◌, ◌<◌, ◌≤◌, List, [], ◌∷◌, ◌++◌, length, take, drop, get_or, refl, ap, sym, ◌∙◌, arith, append_assoc}
use Rattle.std.proofs.lemmas.Grind.{common_steps}
use Rattle.type_terms.specs.Promised.Handles.{Entry}
use Rattle.term_folds.specs.declared.predicate.Clause.{Clause}
use Rattle.term_folds.specs.Clauses.{clause_pieces}
use Rattle.type_terms.specs.Pieces.{Piece}
use Rattle.type_terms.proofs.Items.{take-push}
use Rattle.infer_table.specs.Goals.{environment_pieces}
use Rattle.type_terms.proofs.ListBasics.{take-drop}

pieces-none : (ps : List Piece) → ps ++ [] ≡ ps
pieces-none ps = grind (arith, common_steps)

take-past : {X : Type 0} (xs : List X) (n : ℕ) → length xs ≤ n → take n xs ≡ xs
take-past xs n h = grind (arith, common_steps)

environment-append : (es : List Entry) (xs ys : List Clause) → environment_pieces es (xs ++ ys) ≡ environment_pieces es xs ++ environment_pieces es ys
environment-append es [] ys = refl
environment-append es (x ∷ xs) ys = ap (λ z. clause_pieces es x ++ z) (environment-append es xs ys) ∙ sym (append_assoc (clause_pieces es x) (environment_pieces es xs) (environment_pieces es ys))

module _ (es : List Entry) (xs : List Clause) (i : ℕ) (x : Clause) (lt : i < length xs) (is : x ≡ get_or xs i x) where
  pub one-more-clause : environment_pieces es (take (i + 1) xs) ≡ environment_pieces es (take i xs) ++ clause_pieces es x
  one-more-clause =
      ap (environment_pieces es) (take-push xs i x lt ∙ ap (λ z. take i xs ++ z ∷ []) (sym is)) ∙ environment-append es (take i xs) (x ∷ [])
      ∙ ap (λ z. environment_pieces es (take i xs) ++ z) (pieces-none (clause_pieces es x))

  -- those before a clause, its own, and those after it
  pub from-clause : environment_pieces es xs ≡ (environment_pieces es (take i xs) ++ clause_pieces es x) ++ environment_pieces es (drop (i + 1) xs)
  from-clause =
      ap (environment_pieces es) (sym (take-drop (i + 1) xs)) ∙ environment-append es (take (i + 1) xs) (drop (i + 1) xs) ∙ ap (λ z. z ++ environment_pieces es (drop (i + 1) xs)) one-more-clause

pub all-clauses : (es : List Entry) (xs : List Clause) (i : ℕ) → length xs ≤ i → environment_pieces es (take i xs) ≡ environment_pieces es xs
all-clauses es xs i h = ap (environment_pieces es) (take-past xs i h)

-- Goals resolved by a table.
use Rattle.std.proofs.Common.{◌≡◌, ℕ, true, refl, ap, sym, ◌∙◌, List, [], ◌∷◌, ◌++◌, length, get_or, take, ◌+◌, ◌<◌}
use Rattle.type_terms.specs.Promised.Label.{Label, of_trait, predicate}
use Rattle.type_terms.specs.Promised.Trees.{Trees, none, tree, ◌+++◌}
use Rattle.type_terms.specs.Promised.Handles.{Entry, Keeps, trees_at}
use Rattle.type_terms.specs.Promised.Handles.{ArgsHeld, arg_trees, region_trees}
use Rattle.type_terms.specs.Kinds.{args_trees}
use Rattle.type_terms.specs.Kept.{args-trees-later}
use Rattle.type_terms.specs.declared.kinds.GenericArgKind.{GenericArgKind}
use Rattle.term_folds.specs.declared.predicate.Clause.{Clause}
use Rattle.term_folds.specs.declared.predicate.Clause.TheVariants.{Trait, RegionOutlives, TypeOutlives}
use Rattle.term_folds.specs.Clauses.{ClauseHeld, clause_outline, clause_pieces, clause-pieces-later}
use Rattle.std.specs.Prelude.{bit_and}
use Rattle.type_terms.specs.Trees.{flags}
use Rattle.type_terms.specs.Pieces.{Piece, each_piece, one_piece, piece_flags}
use Rattle.type_terms.proofs.Items.{args-push, take-push}
use Rattle.type_terms.proofs.TreeLaws.{append-assoc}
use Rattle.infer_table.specs.Solutions.{Binding, AllValued, resolved, is_rigid}
use Rattle.infer_table.proofs.ClosedFacts.{or-left, or-right}
use Rattle.infer_table.proofs.ResolveFacts.{value-free-resolved}
use Rattle.infer_table.proofs.SolutionLaws.{resolved-append, resolved-none, resolved-rigid}
use Rattle.infer_table.specs.Goals.{clause_label, clause_terms, environment_trees, ClausesHeld}
use Rattle.infer_table.proofs.Numbers.{environment-later}

abbrev first_trees : List Piece → Trees
first_trees [] = none
first_trees (p ∷ ps) = p.trees

abbrev second_trees : List Piece → Trees
second_trees [] = none
second_trees (p ∷ ps) = first_trees ps

clause-rigid : (x : Clause) → is_rigid (clause_label x) ≡ true
clause-rigid (Trait p) = refl
clause-rigid (RegionOutlives a b) = refl
clause-rigid (TypeOutlives t r) = refl

environment-append : (es : List Entry) (xs ys : List Clause) → environment_trees es (xs ++ ys) ≡ environment_trees es xs +++ environment_trees es ys
environment-append es [] ys = refl
environment-append es (x ∷ xs) ys = ap (λ z. tree (clause_label x) (clause_terms es x) z) (environment-append es xs ys)

module _ (bs : List Binding) where
  record ResolvedClause (old new : List Entry) (x y : Clause) : Type 0 where
    label : clause_label y ≡ clause_label x
    terms : clause_terms new y ≡ resolved bs (clause_terms old x)

  two : (a a' b b' : Trees) → a' ≡ a → b' ≡ b → a' +++ b' ≡ a +++ b
  two a a' b b' p q = cc

  clause-resolved : (old new : List Entry) (x y : Clause) → clause_outline y ≡ clause_outline x → clause_pieces new y ≡ each_piece (λ d t. resolved bs t) (clause_pieces old x) → ResolvedClause old new x y
  clause-resolved old new (Trait p) (Trait q) o e = record {
    label = let same : q.trait_ref.def_id.index ≡ p.trait_ref.def_id.index = cc in ap (λ i. predicate (of_trait i)) same;
    terms = ap first_trees e;
  }
  clause-resolved old new (RegionOutlives r s) (RegionOutlives r' s') o e = record {
    label = refl;
    terms = two _ _ _ _ (ap first_trees e) (ap second_trees e) ∙ sym (resolved-append bs (region_trees r) (region_trees s));
  }
  clause-resolved old new (TypeOutlives t r) (TypeOutlives t' r') o e = record {
    label = refl;
    terms = two _ _ _ _ (ap first_trees e) (ap second_trees e) ∙ sym (resolved-append bs (trees_at old t.0) (region_trees r));
  }
  clause-resolved old new x y o e = cc

  node : (l l' : Label) (c c' o o' : Trees) → l' ≡ l → c' ≡ c → o' ≡ o → tree l' c' o' ≡ tree l c o
  node l l' c c' o o' p q r = cc

  -- one more clause is resolved
  pub one-more-resolved : (old now next : List Entry) → Keeps old now → Keeps now next → (xs ys : List Clause) (i : ℕ) (x y : Clause) → i < length xs → x ≡ get_or xs i x
      → ClauseHeld old x → ClausesHeld now ys → environment_trees now ys ≡ resolved bs (environment_trees old (take i xs))
      → clause_outline y ≡ clause_outline x → clause_pieces next y ≡ each_piece (λ d t. resolved bs t) (clause_pieces now x)
      → environment_trees next (ys ++ y ∷ []) ≡ resolved bs (environment_trees old (take (i + 1) xs))
  one-more-resolved old now next k n xs ys i x y lt is had held h o e =
      let from : take (i + 1) xs ≡ take i xs ++ x ∷ [] = take-push xs i x lt ∙ ap (λ z. take i xs ++ z ∷ []) (sym is) in
      let here = clause-resolved old next x y o (e ∙ ap (each_piece (λ d t. resolved bs t)) (clause-pieces-later old now k x had)) in
      let last : tree (clause_label y) (clause_terms next y) none ≡ resolved bs (tree (clause_label x) (clause_terms old x) none) =
      node _ _ _ _ _ _ here.label here.terms (sym (resolved-none bs)) ∙ sym (resolved-rigid bs (clause_label x) (clause_terms old x) none (clause-rigid x)) in
      environment-append next ys (y ∷ [])
      ∙ two _ _ _ _ (environment-later now next n ys held ∙ h) last
      ∙ sym (resolved-append bs (environment_trees old (take i xs)) (environment_trees old (x ∷ [])))
      ∙ ap (resolved bs) (sym (environment-append old (take i xs) (x ∷ []))) ∙ ap (λ z. resolved bs (environment_trees old z)) (sym from)

  pub predicate-resolved : (i : ℕ) (t u : Trees) → u ≡ resolved bs t → tree (predicate (of_trait i)) u none ≡ resolved bs (tree (predicate (of_trait i)) t none)
  predicate-resolved i t u h = node _ _ _ _ _ _ refl h (sym (resolved-none bs)) ∙ sym (resolved-rigid bs (predicate (of_trait i)) t none refl)

  pub only-piece : (t u : Trees) → one_piece u ≡ each_piece (λ d t. resolved bs t) (one_piece t) → u ≡ resolved bs t
  only-piece t u h = ap first_trees h

  -- one more argument is resolved
  pub one-more-argument : (es now new : List Entry) → Keeps now new → (xs : List GenericArgKind) (a x : GenericArgKind) (rest : List GenericArgKind) (all : Trees) → ArgsHeld now xs
      → arg_trees new a ≡ resolved bs (arg_trees es x) → args_trees now xs +++ resolved bs (args_trees es (x ∷ rest)) ≡ all → args_trees new (xs ++ a ∷ []) +++ resolved bs (args_trees es rest) ≡ all
  one-more-argument es now new kept xs a x rest all h e f =
      ap (λ z. z +++ resolved bs (args_trees es rest)) (args-push new xs a)
      ∙ append-assoc (args_trees new xs) (arg_trees new a) (resolved bs (args_trees es rest))
      ∙ ap (λ z. z +++ (arg_trees new a +++ resolved bs (args_trees es rest))) (args-trees-later now new kept xs h)
      ∙ ap (λ z. args_trees now xs +++ (z +++ resolved bs (args_trees es rest))) e
      ∙ ap (λ z. args_trees now xs +++ z) (sym (resolved-append bs (arg_trees es x) (args_trees es rest))) ∙ f

pub resolved-nothing : (bs : List Binding) → none ≡ resolved bs none
resolved-nothing bs = sym (resolved-none bs)

-- ---- without variables that can have values nothing changes
same-piece : (n : List ℕ) (t u : Trees) (ps qs : List Piece) → t ≡ u → ps ≡ qs → ◌≡◌ {A = List Piece} (record { counts = n; trees = t } ∷ ps) (record { counts = n; trees = u } ∷ qs)
same-piece n t u ps qs e f = cc

pub value-free-pieces : (bs : List Binding) → AllValued bs → (ps : List Piece) → bit_and (piece_flags ps) 514 ≡ 0 → ps ≡ each_piece (λ d t. resolved bs t) ps
value-free-pieces bs a [] h = refl
value-free-pieces bs a (p ∷ ps) h =
    same-piece p.counts p.trees (resolved bs p.trees) ps (each_piece (λ d t. resolved bs t) ps) (sym (value-free-resolved bs a p.trees (or-left (flags p.trees) (piece_flags ps) 514 h)))
    (value-free-pieces bs a ps (or-right (flags p.trees) (piece_flags ps) 514 h))

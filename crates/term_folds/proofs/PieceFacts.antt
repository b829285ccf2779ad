-- Folds of values, part by part.
use Rattle.std.proofs.Common.{ℕ, List, [], ◌∷◌, ◌++◌, ap, sym, subst, append_assoc}
use Rattle.type_terms.specs.Promised.Trees.{Trees}
use Rattle.term_folds.specs.Folds.{Does, Folds, FoldsEach}
use Rattle.type_terms.specs.Pieces.{Piece, under}

pub folds-under : (f : List ℕ → Trees → Does) (bs : List ℕ) (n : ℕ) (ps qs : List Piece) → FoldsEach f (n ∷ bs) ps qs → FoldsEach f bs (under n ps) (under n qs)
folds-under f bs n [] [] a = tt
folds-under f bs n [] (q ∷ qs) a = absurd a
folds-under f bs n (p ∷ ps) [] a = absurd a
folds-under f bs n (p ∷ ps) (q ∷ qs) a =
    (ap (λ c. c ++ n ∷ []) a.0, subst (λ c. Folds f c p.trees q.trees) (sym (append_assoc p.counts (n ∷ []) bs)) a.1, folds-under f bs n ps qs a.2)

-- Small facts that the proofs of several files cite.
use Rattle.std.proofs.Common.{List, ◌++◌, ◌≡◌, [], refl, ◌∷◌, ap, map, ◌∙◌}
use Rattle.candidate_model.specs.Candidates.{Candidate}
use Rattle.candidate_model.specs.DeclaredWell.{are_distinct}
use Rattle.type_terms.specs.Promised.Rules.{autos_with, same_head}
use Rattle.type_terms.specs.Promised.Trees.{Trees, none, erase, tree, erase_label}
use Rattle.type_terms.specs.Promised.Worlds.{Reference}
use Rattle.type_terms.specs.Promised.Label.{Label}
use Rattle.candidate_model.specs.Asking.{with_plain_head}
use Rattle.type_terms.proofs.TermBasics.{head-alone, label-is}

pub append-assoc : (xs ys zs : List Candidate) → xs ++ (ys ++ zs) ≡ (xs ++ ys) ++ zs
append-assoc [] ys zs = refl
append-assoc (x ∷ xs) ys zs = ap (λ l. x ∷ l) (append-assoc xs ys zs)

pub same-autos : (c d : Trees) → autos_with none d ≡ autos_with none c → are_distinct (map (λ (r : Reference). r.trait) (autos_with none d)) ≡ are_distinct (map (λ (r : Reference). r.trait) (autos_with none c))
same-autos c d e = ap (λ z. are_distinct (map (λ (r : Reference). r.trait) z)) e

pub plain-head : (k : Label) (H : Trees) → with_plain_head H ≡ H → same_head k (erase H) ≡ same_head k H
plain-head k none h = refl
plain-head k (tree m d q) h = head-alone k (erase_label m) (erase d) (erase q) d q ∙ ap (λ x. same_head k (tree x d q)) (label-is (erase_label m) m d q d q h)

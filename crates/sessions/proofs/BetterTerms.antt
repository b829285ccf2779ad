-- Terms that are made of good labels, none of them bad, are made of better labels.
use Rattle.std.proofs.Common.{◌≡◌, Bool, true, false, ◌&&◌, ◌||◌, refl}
use Rattle.type_terms.specs.Promised.Label.{Label, of_lifetime, dynamic, principal, auto_trait, predicate}
use Rattle.type_terms.specs.Promised.Trees.{Trees, none, tree, sort_of, is_sort, some_node}
use Rattle.type_terms.specs.Trees.{is_no_tree}
use Rattle.type_terms.proofs.Fitting.{child-shut, next-shut}
use Rattle.type_terms.specs.Made.{Standing, terms, bounds, traits, is_made}
use Rattle.type_terms.proofs.Made.{left, right, both, false-true, made-ordinary, makes-ordinary, never-dynamic, never-dynamic-bound, never-principal}
use Rattle.type_terms.proofs.Matching.{or-false-left as no-left}

-- terms made of good labels, none of them bad, are made of labels that are good and not bad
module _ (good better bad : Label → Bool) (label : (l : Label) → good l ≡ true → bad l ≡ false → better l ≡ true) where
  abbrev Clean : Trees → Type 0
  Clean t = some_node bad t ≡ false

  own-clean : (l : Label) (c o : Trees) → Clean (tree l c o) → bad l ≡ false
  own-clean l c o e = no-left (bad l) (some_node bad c) (no-left (bad l || some_node bad c) (some_node bad o) e)

  pub all-better : (m : Standing) (t : Trees) → is_made good m t ≡ true → Clean t → is_made better m t ≡ true
  all-better terms none h e = refl
  all-better terms (tree dynamic c o) h e =
      both (is_made better bounds c) _ (all-better bounds c (left (is_made good bounds c) _ h) (child-shut bad dynamic c o e)) (all-better terms o (right (is_made good bounds c) _ h) (next-shut bad dynamic c o e))
  all-better terms (tree (principal n i) c o) h e = absurd (false-true h)
  all-better terms (tree (auto_trait i) c o) h e = absurd (false-true h)
  all-better terms (tree (predicate k) c o) h e = absurd (false-true h)
  all-better terms (tree l c o) h e =
      let x = made-ordinary good l c o refl h in
      makes-ordinary better l c o refl (label l x.0 (own-clean l c o e)) x.1 (all-better terms c x.2 (child-shut bad l c o e)) (all-better terms o x.3 (next-shut bad l c o e))
  all-better bounds none h e = absurd (false-true h)
  all-better bounds (tree (principal n i) c o) h e =
      both (is_made better terms c) _ (all-better terms c (left (is_made good terms c) _ h) (child-shut bad (principal n i) c o e)) (all-better traits o (right (is_made good terms c) _ h) (next-shut bad (principal n i) c o e))
  all-better bounds (tree (auto_trait i) c o) h e = both (is_no_tree c) _ (left (is_no_tree c) _ h) (all-better traits o (right (is_no_tree c) _ h) (next-shut bad (auto_trait i) c o e))
  all-better bounds (tree (predicate k) c o) h e = absurd (false-true h)
  all-better bounds (tree dynamic c o) h e = absurd (never-dynamic-bound good c o h)
  all-better bounds (tree l c o) h e =
      let rest = is_sort (sort_of l) of_lifetime && (is_no_tree c && is_no_tree o) in both (better l) rest (label l (left (good l) rest h) (own-clean l c o e)) (right (good l) rest h)
  all-better traits none h e = absurd (false-true h)
  all-better traits (tree (auto_trait i) c o) h e = both (is_no_tree c) _ (left (is_no_tree c) _ h) (all-better traits o (right (is_no_tree c) _ h) (next-shut bad (auto_trait i) c o e))
  all-better traits (tree (predicate k) c o) h e = absurd (false-true h)
  all-better traits (tree dynamic c o) h e = absurd (never-dynamic good c o h)
  all-better traits (tree (principal n i) c o) h e = absurd (never-principal good n i c o h)
  all-better traits (tree l c o) h e =
      let rest = is_sort (sort_of l) of_lifetime && (is_no_tree c && is_no_tree o) in both (better l) rest (label l (left (good l) rest h) (own-clean l c o e)) (right (good l) rest h)

-- Whether the self type of a goal is a `dyn`.
use Rattle.std.proofs.Common.{◌≡◌, true, false, refl, sym, ap, ◌∙◌, None}
use Rattle.type_terms.specs.Promised.Label.{Label, dynamic}
use Rattle.type_terms.specs.Promised.Trees.{Trees, none, tree, nth, erase_label}
use Rattle.type_terms.specs.Promised.Rules.{is_dyn}
use Rattle.term_folds.specs.Signatures.{StartsWithType}
use Rattle.candidate_model.specs.Asking.{with_plain_head}
use Rattle.built_in_candidates.specs.Objects.{bounds_of}
use Rattle.built_in_candidates.proofs.ToDyn.{no-dyn}
use Rattle.candidate_assembly.specs.Sections.{begins_dyn}

dyn-label : (l : Label) (c o b : Trees) → tree l c none ≡ tree dynamic b none → begins_dyn (tree (erase_label l) c o) ≡ true
dyn-label l c o b e = let q : l ≡ dynamic = cc in ap (λ m. begins_dyn (tree (erase_label m) c o)) q

pub dyn-first : (T S b : Trees) → StartsWithType T → S ≡ nth T 0 → S ≡ tree dynamic b none → begins_dyn (with_plain_head T) ≡ true
dyn-first none S b s e q = absurd s
dyn-first (tree l c o) S b s e q = dyn-label l c o b (sym e ∙ q)

no-dyn-label : (l : Label) (c o : Trees) → is_dyn l ≡ false → begins_dyn (tree l c o) ≡ false
no-dyn-label dynamic c o e = absurd cc
no-dyn-label l c o e = refl

pub no-dyn-first : (T S : Trees) → StartsWithType T → S ≡ nth T 0 → bounds_of S ≡ None → begins_dyn (with_plain_head T) ≡ false
no-dyn-first none S s e q = absurd s
no-dyn-first (tree l c o) S s e q = no-dyn-label (erase_label l) c o (no-dyn l c none (ap bounds_of (sym e) ∙ q))

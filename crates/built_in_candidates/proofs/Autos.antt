-- Where the rule of an auto trait stands: an impl for a type of the head switches it off.
use Rattle.std.proofs.Common.{◌≡◌, ℕ, Bool, true, false, cond, ◌||◌, ◌&&◌, List, [], ◌∷◌, Some, None, refl, ap}
use Rattle.std.specs.Prelude.{◌==◌, filter, if◌then◌else◌}
use Rattle.std.specs.List.{list_any}
use Rattle.type_terms.specs.Promised.Trees.{Trees, none, tree, erase_label}
use Rattle.type_terms.specs.Promised.Worlds.{World, ImplDecl}
use Rattle.type_terms.specs.Promised.Rules.{same_head, auto_rules, auto_rules_plain}
use Rattle.term_folds.specs.Signatures.{StartsWithType}
use Rattle.declarations.specs.Relevant.{next_above}
use Rattle.candidate_model.specs.Asking.{with_plain_head}
use Rattle.candidate_model.specs.Candidates.{is_relevant_to}
use Rattle.built_in_candidates.proofs.Relevant.{names}

some-is : (p : ImplDecl → Bool) (n : ℕ) (is : List ImplDecl) → Some n ≡ next_above None (names (filter p is)) → list_any p is ≡ true
some-is p n [] h = absurd cc
some-is p n (i ∷ is) h = by (p i) h (some-is p n is)
  where
    by : (b : Bool) → Some n ≡ next_above None (names (cond b (i ∷ filter p is) (filter p is))) → (Some n ≡ next_above None (names (filter p is)) → list_any p is ≡ true) → (b || list_any p is) ≡ true
    by true h rest = refl
    by false h rest = rest h

none-is : (p : ImplDecl → Bool) (is : List ImplDecl) → None ≡ next_above None (names (filter p is)) → list_any p is ≡ false
none-is p [] h = refl
none-is p (i ∷ is) h = by (p i) h (none-is p is)
  where
    by : (b : Bool) → None ≡ next_above None (names (cond b (i ∷ filter p is) (filter p is))) → (None ≡ next_above None (names (filter p is)) → list_any p is ≡ false) → (b || list_any p is) ≡ false
    by true h rest = absurd cc
    by false h rest = rest h

module _ (V : World) (t : ℕ) where
  pub switched-off : (T : Trees) (n : ℕ) → StartsWithType T → Some n ≡ next_above None (names (filter (λ i. (i.header.trait == t) && is_relevant_to (with_plain_head T) i.header.args) V.impls))
      → auto_rules V t (with_plain_head T) ≡ []
  switched-off none n s h = absurd s
  switched-off (tree l c o) n s h =
      ap (λ b. if b then [] else auto_rules_plain V t (tree (erase_label l) c o)) (some-is (λ i. (i.header.trait == t) && same_head (erase_label l) i.header.args) n V.impls h)

  pub switched-on : (T : Trees) → StartsWithType T → None ≡ next_above None (names (filter (λ i. (i.header.trait == t) && is_relevant_to (with_plain_head T) i.header.args) V.impls))
      → auto_rules V t (with_plain_head T) ≡ auto_rules_plain V t (with_plain_head T)
  switched-on none s h = absurd s
  switched-on (tree l c o) s h =
      ap (λ b. if b then [] else auto_rules_plain V t (tree (erase_label l) c o)) (none-is (λ i. (i.header.trait == t) && same_head (erase_label l) i.header.args) V.impls h)

-- Why a crate may not write an impl, as its line says it.
use Rattle.std.proofs.Common.{◌≡◌, ℕ, Bool, refl, sym, ap, ◌∙◌, List, [], ◌++◌, Option, Some, None, codes}
use Rattle.std.specs.Prelude.{find, slice_get}
use Rattle.std.specs.List.{list_any}
use Rattle.std.specs.Option.{option_map, option_map_or}
use Rattle.std.proofs.lemmas.Option.{same_Some}
use Rattle.sessions.specs.TypeTerms.Promised.Label.{Sort}
use Rattle.sessions.specs.TypeTerms.Promised.Trees.{Trees}
use Rattle.sessions.specs.TypeTerms.Promised.Worlds.{World, ImplDecl}
use Rattle.sessions.specs.TypeTerms.Promised.Walks.{Met, visited, ends_local}
use Rattle.sessions.specs.TypeTerms.Promised.Versions.{is_open_place}
use Rattle.sessions.specs.TextLanguage.Promised.Declarations.{Declarations}
use Rattle.sessions.specs.TextLanguage.Output.{before_text}
use Rattle.sessions.specs.TypeTerms.Promised.OpenedHeaders.{opened, with_variables}
use Rattle.sessions.specs.TypeTerms.Promised.OrphanErrors.{OrphanError, nonlocal, uncovered, orphan_error}
use Rattle.coherence.specs.Lines.{header_text}
use Rattle.sessions.specs.Promised.Promises.{view_in}
use Rattle.coherence.specs.Promised.CrateAnswers.{types_met, impl_type_text, orphan_reason}
use Rattle.coherence.proofs.TypesMet.{nonlocal-met, uncovered-met}
use Rattle.coherence.proofs.HeaderNames.{KnowsParams, AllOk, text-opened}
use Rattle.coherence.proofs.ImplTypeTexts.{impl-type-text-is}
use Rattle.coherence.proofs.OpenedTypes.{first-opened, first-ok}

-- what stands behind `orphan impl K`
abbrev pub error_text : Declarations → ℕ → OrphanError → List ℕ
error_text d k (nonlocal ts) = codes " nonlocal"
error_text d k (uncovered t u) = codes " uncovered " ++ header_text d k t ++ before_text (option_map (header_text d k) u)

-- the parameters of an impl
abbrev pub params_at : Declarations → ℕ → List (List ℕ × Sort)
params_at d k = option_map_or (λ i. i.params) (slice_get d.impls k) []

none-mapped : {A : Type 0} (f : A → A) (o : Option A) → option_map f o ≡ None → o ≡ None
none-mapped f None e = refl
none-mapped f (Some x) e = absurd cc

some-mapped : {A : Type 0} (f : A → A) (o : Option A) (y : A) → option_map f o ≡ Some y → (x : A) × (o ≡ Some x) × (f x ≡ y)
some-mapped f None y e = absurd cc
some-mapped f (Some x) y e = (x, refl, same_Some (f x) y e)

module _ (d : Declarations) (c : ℕ) (i : ImplDecl) (knows : KnowsParams (params_at d i.name) i.header.args) (ok : AllOk (params_at d i.name) i.header.args knows i.header.args) where
  abbrev V : World
  V = view_in d c

  abbrev w : Trees → Trees
  w t = with_variables i.header.args t

  abbrev first : (List Met → Bool) → Option Trees
  first p = find (λ t. p (visited V (Some c) t)) (types_met V c i.header.args)

  type-same : (p : List Met → Bool) (t : Trees) → first p ≡ Some t → header_text d i.name (w t) ≡ impl_type_text d i.name t
  type-same p t e =
      text-opened (params_at d i.name) i.header.args knows d t (first-ok V c (params_at d i.name) i.header.args knows p i.header.args t ok e)
      ∙ sym (impl-type-text-is d i.name t)

  local-same : (o u : Option Trees) → first ends_local ≡ o → option_map w o ≡ u
      → before_text (option_map (header_text d i.name) u) ≡ option_map_or (λ u. codes " before " ++ impl_type_text d i.name u) o []
  local-same None u e f = ap (λ z. before_text (option_map (header_text d i.name) z)) (sym f)
  local-same (Some t) u e f = ap (λ z. before_text (option_map (header_text d i.name) z)) (sym f) ∙ ap (λ z. codes " before " ++ z) (type-same ends_local t e)

  pub reason-is : (e : OrphanError) → orphan_error V c (opened i.header).args ≡ Some e → error_text d i.name e ≡ orphan_reason d c i
  reason-is (nonlocal ts) h =
      let none-open : first (list_any is_open_place) ≡ None = none-mapped w (first (list_any is_open_place)) (sym (first-opened V c i.header.args (list_any is_open_place) i.header.args) ∙ nonlocal-met V c (w i.header.args) ts h) in
      sym (ap (λ o. option_map_or (λ t. codes " uncovered " ++ impl_type_text d i.name t ++ option_map_or (λ u. codes " before " ++ impl_type_text d i.name u) (first ends_local) []) o (codes " nonlocal")) none-open)
  reason-is (uncovered s u) h =
      let met = uncovered-met V c (w i.header.args) s u h in
      let found = some-mapped w (first (list_any is_open_place)) s (sym (first-opened V c i.header.args (list_any is_open_place) i.header.args) ∙ met.0) in
      let behind = local-same (first ends_local) u refl (sym (first-opened V c i.header.args ends_local i.header.args) ∙ met.1) in
      ap (λ z. codes " uncovered " ++ header_text d i.name z ++ before_text (option_map (header_text d i.name) u)) (sym found.2)
      ∙ ap (λ z. codes " uncovered " ++ z ++ before_text (option_map (header_text d i.name) u)) (type-same (list_any is_open_place) found.0 found.1)
      ∙ ap (λ z. codes " uncovered " ++ impl_type_text d i.name found.0 ++ z) behind
      ∙ sym (ap (λ o. option_map_or (λ t. codes " uncovered " ++ impl_type_text d i.name t ++ option_map_or (λ u. codes " before " ++ impl_type_text d i.name u) (first ends_local) []) o (codes " nonlocal")) found.1)

-- What the calls answer where a normalizer answers its input.
use Rattle.std.proofs.Common.{arith, ◌≡◌, ◌⊎◌, ℕ, ◌<◌, refl, sym, ap, ◌∙◌, inl, inr, Bool, true, false, not, ◌&&◌, ◌||◌, ◌==◌, List, [], ◌∷◌, map, Option, Some, None, Result, Ok, Err}
use Rattle.std.specs.Option.{option_map}
use Rattle.std.specs.List.{list_all}
use Rattle.type_terms.specs.Promised.Trees.{Trees}
use Rattle.type_terms.specs.Trees.{depth}
use Rattle.type_terms.specs.Promised.Worlds.{World, Reference}
use Rattle.type_terms.specs.Promised.Walks.{trait_is, item_in, walk, open_walk, ends_local}
use Rattle.type_terms.specs.Promised.Handles.{Entry, trees_at, Has}
use Rattle.type_terms.specs.Terms.{Lawful, args_lists}
use Rattle.type_terms.specs.declared.kinds.Ty.{Ty}
use Rattle.infer_table.specs.Solutions.{resolved}
use Rattle.infer_table.specs.Content.{Table, content, Ready}
use Rattle.declarations.specs.Promised.Elaboration.{Each}
use Rattle.orphan_check.specs.declared.errors.Conflict.TheVariants.{Upstream, Downstream}
use Rattle.orphan_check.specs.declared.errors.OrphanCheckMode.{OrphanCheckMode}
use Rattle.orphan_check.specs.declared.errors.InCrate.TheVariants.{Local, Remote}
use Rattle.orphan_check.specs.declared.errors.IsFirstInputType.{IsFirstInputType}
use Rattle.orphan_check.specs.declared.errors.OrphanCheckErr.TheVariants.{NonLocalInputType, UncoveredTyParams}
use Rattle.orphan_check.specs.declared.errors.WalkError.TheVariants.{Normalize, Deep, Memory}
use Rattle.orphan_check.specs.Promised.Errors.{is_first}
use Rattle.orphan_check.specs.Flags.{leaves_in}
use Rattle.type_terms.specs.Promised.OrphanErrors.{WalkItem, local_item, open_item, items, decisive, first_local, foreign_leaves, OrphanError, nonlocal, uncovered, error_at, orphan_error}
use Rattle.orphan_check.specs.Steps.{Reading, Step, refused, too_deep, entered, met_local, met_open, met_foreign, first_end, second_end, leaves, reading, steps}
use Rattle.orphan_check.specs.Answers.{Passes, IsLocalType, IsDeep, IsTooDeep, IsOrphanAnswer, IsBarred, IsKnowableAnswer, OrphanAnswer, KnowableAnswer}
use Rattle.orphan_check.specs.Knowing.{meets_open, IsKnowableBy}
use Rattle.type_terms.specs.Made.{is_in_range, terms}
use Rattle.type_terms.proofs.Made.{made-weaker}
use Rattle.type_terms.specs.Kept.{is-at}
use Rattle.term_folds.specs.declared.predicate.TraitRef.{TraitRef}
use Rattle.declarations.specs.Items.{Items, declared}
use Rattle.infer_table.specs.Unification.{table_trees}
use Rattle.infer_table.specs.WellFormed.{is_numbered}
use Rattle.infer_table.proofs.Places.{in_terms, AreTrees, IsOfTrees, numbered, trees-of, table-trees, ready-terms}
use Rattle.orphan_check.specs.declared.errors.InCrate.{InCrate}
use Rattle.orphan_check.specs.declared.errors.OrphanCheckMode.TheVariants.{Proper}
use Rattle.orphan_check.specs.Exact.{type_read, leaves_read, reference_read, AnswersItsInput, IsOrphanCheck, IsOrphanCheckOf, WalkTellsKnown, IsKnownOf}
use Rattle.orphan_check.proofs.Reading.{steps-shown, shown}
use Rattle.orphan_check.proofs.Calm.{steps-calm, IsCalm, calm-first, calm-second}
use Rattle.orphan_check.proofs.Visiting.{is_none, decides, no-error-is, open-decides}

abbrev pub resolved_leaves : {E : Type 0} → Reading E → List (Trees × Bool) → List (Trees × Bool)
resolved_leaves r ls = map (λ p. (resolved r.values p.0, p.1)) ls

-- ---- ends and items
module _ {E : Type 0} (r : Reading E) where
  decisive-local : (ss : List (Step E)) (t : Trees) → first_end ss ≡ Some (met_local t) → decisive (shown r ss) ≡ Some (local_item (resolved r.values t))
  decisive-local [] t e = cc
  decisive-local (refused x ∷ ss) t e = cc
  decisive-local (too_deep u first ∷ ss) t e = cc
  decisive-local (entered ∷ ss) t e = decisive-local ss t e
  decisive-local (met_local u ∷ ss) t e = let same : u ≡ t = cc in ap (λ z. Some (local_item (resolved r.values z))) same
  decisive-local (met_open u ∷ ss) t e = cc
  decisive-local (met_foreign u first ∷ ss) t e = decisive-local ss t e

  decisive-open : (ss : List (Step E)) (t : Trees) → first_end ss ≡ Some (met_open t) → decisive (shown r ss) ≡ Some (open_item (resolved r.values t))
  decisive-open [] t e = cc
  decisive-open (refused x ∷ ss) t e = cc
  decisive-open (too_deep u first ∷ ss) t e = cc
  decisive-open (entered ∷ ss) t e = decisive-open ss t e
  decisive-open (met_local u ∷ ss) t e = cc
  decisive-open (met_open u ∷ ss) t e = let same : u ≡ t = cc in ap (λ z. Some (open_item (resolved r.values z))) same
  decisive-open (met_foreign u first ∷ ss) t e = decisive-open ss t e

  decisive-none : (ss : List (Step E)) → first_end ss ≡ None → (decisive (shown r ss) ≡ None) × (foreign_leaves (shown r ss) ≡ resolved_leaves r (leaves ss))
  decisive-none [] e = (refl, refl)
  decisive-none (refused x ∷ ss) e = cc
  decisive-none (too_deep u first ∷ ss) e = cc
  decisive-none (entered ∷ ss) e = decisive-none ss e
  decisive-none (met_local u ∷ ss) e = cc
  decisive-none (met_open u ∷ ss) e = cc
  decisive-none (met_foreign u first ∷ ss) e = let h = decisive-none ss e in (h.0, ap (λ z. (resolved r.values u, first) ∷ z) h.1)

  local-behind : (ss : List (Step E)) (t : Trees) → second_end ss ≡ Some (met_local t) → first_local (shown r ss) ≡ Some (resolved r.values t)
  local-behind [] t e = cc
  local-behind (refused x ∷ ss) t e = cc
  local-behind (too_deep u first ∷ ss) t e = cc
  local-behind (entered ∷ ss) t e = local-behind ss t e
  local-behind (met_local u ∷ ss) t e = let same : u ≡ t = cc in ap (λ z. Some (resolved r.values z)) same
  local-behind (met_open u ∷ ss) t e = local-behind ss t e
  local-behind (met_foreign u first ∷ ss) t e = local-behind ss t e

  none-behind : (ss : List (Step E)) → second_end ss ≡ None → first_local (shown r ss) ≡ None
  none-behind [] e = refl
  none-behind (refused x ∷ ss) e = cc
  none-behind (too_deep u first ∷ ss) e = cc
  none-behind (entered ∷ ss) e = none-behind ss e
  none-behind (met_local u ∷ ss) e = cc
  none-behind (met_open u ∷ ss) e = none-behind ss e
  none-behind (met_foreign u first ∷ ss) e = none-behind ss e

leaves-are : {E : Type 0} (es : List Entry) (t : Table) (r : Reading E) → r.values ≡ content es t.values → (ps : List (Ty × IsFirstInputType)) → leaves_read es t ps ≡ resolved_leaves r (leaves_in es ps)
leaves-are es t r v [] = refl
leaves-are es t r v (p ∷ ps) =
    ap (λ z. (resolved z (trees_at es p.0.0), is_first p.1) ∷ leaves_read es t ps) (sym v) ∙ ap (λ z. (resolved r.values (trees_at es p.0.0), is_first p.1) ∷ z) (leaves-are es t r v ps)

-- ---- the orphan check
module _ {E : Type 0} (es : List Entry) (t : Table) (r : Reading E) (v : r.values ≡ content es t.values) (limit : ℕ) (ref : Reference) (ss : List (Step E)) (calm : Each (IsCalm (limit < depth ref.args)) ss) where
  local-is : (x : Option Ty) (e : Option (Step E)) → second_end ss ≡ e → IsLocalType es x e → first_local (shown r ss) ≡ option_map (type_read es t) x
  local-is (Some y) (Some (met_local u)) e h = local-behind r ss u e ∙ ap (λ z. Some (resolved r.values z)) h ∙ ap (λ z. Some (resolved z (trees_at es y.0))) v
  local-is (Some y) None e h = absurd h
  local-is (Some y) (Some s) e h = absurd h
  local-is None None e h = none-behind r ss e
  local-is None (Some (refused x)) e h = absurd (calm-second (limit < depth ref.args) ss (refused x) calm e)
  local-is None (Some s) e h = absurd h

  first-deep : (e : Option (Step E)) → first_end ss ≡ e → IsDeep e → limit < depth ref.args
  first-deep (Some (too_deep u first)) e h = calm-first (limit < depth ref.args) ss (too_deep u first) calm e
  first-deep None e h = absurd h
  first-deep (Some s) e h = absurd h

  second-deep : (e : Option (Step E)) → second_end ss ≡ e → IsDeep e → limit < depth ref.args
  second-deep (Some (too_deep u first)) e h = calm-second (limit < depth ref.args) ss (too_deep u first) calm e
  second-deep None e h = absurd h
  second-deep (Some s) e h = absurd h

  module _ (V : World) (c : ℕ) (is : shown r ss ≡ items V (Some c) true ref.args) where
    error-by : (d : Option WalkItem) → decisive (shown r ss) ≡ d → orphan_error V c ref.args ≡ error_at d (shown r ss)
    error-by d e = ap (λ z. error_at (decisive z) z) (sym is) ∙ ap (λ z. error_at z (shown r ss)) e

    walk-by : (x : Option OrphanError) → orphan_error V c ref.args ≡ x → ends_local (walk V c ref) ≡ is_none x
    walk-by x e = sym (no-error-is V c ref.args) ∙ ap is_none e

    pub passes-local : (mode : OrphanCheckMode) (e : Option (Step E)) → first_end ss ≡ e → Passes (Local mode) e → ends_local (walk V c ref) ≡ true
    passes-local mode (Some (met_local u)) e h = walk-by None (error-by (Some (local_item (resolved r.values u))) (decisive-local r ss u e))
    passes-local mode None e h = absurd h
    passes-local mode (Some s) e h = absurd h

    pub barred-local : (e : Option (Step E)) → first_end ss ≡ e → IsBarred e → ends_local (walk V c ref) ≡ false
    barred-local None e h = walk-by (Some (nonlocal (foreign_leaves (shown r ss)))) (error-by None (decisive-none r ss e).0)
    barred-local (Some (met_open u)) e h = walk-by (Some (uncovered (resolved r.values u) (first_local (shown r ss)))) (error-by (Some (open_item (resolved r.values u))) (decisive-open r ss u e))
    barred-local (Some s) e h = absurd h

    pub local-exact : (mode : OrphanCheckMode) (a : OrphanAnswer E) → IsOrphanAnswer es (Local mode) ss a → IsOrphanCheck es t V c (Local mode) limit ref a
    local-exact mode (Ok (Ok u)) h = passes-local mode (first_end ss) refl h
    local-exact mode (Ok (Err (NonLocalInputType x))) h =
        let n = decisive-none r ss h.0 in
        let e : orphan_error V c ref.args ≡ Some (nonlocal (leaves_read es t x.items)) =
        error-by None n.0 ∙ ap (λ z. Some (nonlocal z)) (n.1 ∙ ap (resolved_leaves r) (sym h.1) ∙ sym (leaves-are es t r v x.items)) in
        (walk-by _ e, e)
    local-exact mode (Ok (Err (UncoveredTyParams x))) h =
        let e : orphan_error V c ref.args ≡ Some (uncovered (type_read es t x.uncovered) (option_map (type_read es t) x.local_ty)) =
        error-by (Some (open_item (resolved r.values (trees_at es x.uncovered.0)))) (decisive-open r ss (trees_at es x.uncovered.0) h.0)
        ∙ ap (λ z. Some (uncovered (resolved z (trees_at es x.uncovered.0)) (first_local (shown r ss)))) v
        ∙ ap (λ z. Some (uncovered (type_read es t x.uncovered) z)) (local-is x.local_ty (second_end ss) refl h.1) in
        (walk-by _ e, e)
    local-exact mode (Err (Normalize x)) h = calm-first (limit < depth ref.args) ss (refused x) calm h
    local-exact mode (Err Deep) (inl h) = first-deep (first_end ss) refl h
    local-exact mode (Err Deep) (inr h) = second-deep (second_end ss) refl h.2
    local-exact mode (Err Memory) h = tt

  module _ (V : World) (c : ℕ) (is : shown r ss ≡ items V None true ref.args) where
    meets-by : (d : Option WalkItem) → decisive (shown r ss) ≡ d → meets_open V ref ≡ decides d
    meets-by d e = sym (open-decides V true ref.args) ∙ ap (λ z. decides (decisive z)) (sym is) ∙ ap decides e

    pub passes-remote : (e : Option (Step E)) → first_end ss ≡ e → Passes Remote e → meets_open V ref ≡ true
    passes-remote (Some (met_local u)) e h = meets-by (Some (local_item (resolved r.values u))) (decisive-local r ss u e)
    passes-remote (Some (met_open u)) e h = meets-by (Some (open_item (resolved r.values u))) (decisive-open r ss u e)
    passes-remote None e h = absurd h
    passes-remote (Some s) e h = absurd h

    pub runs-out : first_end ss ≡ None → meets_open V ref ≡ false
    runs-out e = meets-by None (decisive-none r ss e).0

    pub remote-exact : (a : OrphanAnswer E) → IsOrphanAnswer es Remote ss a → IsOrphanCheck es t V c Remote limit ref a
    remote-exact (Ok (Ok u)) h = passes-remote (first_end ss) refl h
    remote-exact (Ok (Err (NonLocalInputType x))) h =
        let n = decisive-none r ss h.0 in (
          runs-out h.0,
          ap nonlocal (leaves-are es t r v x.items ∙ ap (resolved_leaves r) h.1 ∙ sym n.1 ∙ ap foreign_leaves is),
        )
    remote-exact (Ok (Err (UncoveredTyParams x))) h = absurd h.0
    remote-exact (Err (Normalize x)) h = calm-first (limit < depth ref.args) ss (refused x) calm h
    remote-exact (Err Deep) (inl h) = first-deep (first_end ss) refl h
    remote-exact (Err Deep) (inr h) = absurd h.1
    remote-exact (Err Memory) h = tt

-- ---- knowability

known-is : (a b own ends meets : Bool) → (a && b) ≡ true → (own || ends) ≡ true → meets ≡ false → ((a && (b && (own || ends))) && not meets) ≡ true
known-is true true own ends meets w k m = ap (λ z. z && not meets) k ∙ ap not m
known-is true false own ends meets w k m = cc
known-is false b own ends meets w k m = cc

unknown-is : (a b own ends : Bool) → own ≡ false → ends ≡ false → (a && (b && (own || ends))) ≡ false
unknown-is true true own ends o e = ap (λ z. z || ends) o ∙ e
unknown-is true false own ends o e = refl
unknown-is false b own ends o e = refl

or-left : (a b : Bool) → a ≡ true → (a || b) ≡ true
or-left a b h = ap (λ z. z || b) h

or-right : (a b : Bool) → b ≡ true → (a || b) ≡ true
or-right true b h = refl
or-right false b h = h

module _ {E : Type 0} (es : List Entry) (t : Table) (q r : Reading E) (u : q.values ≡ content es t.values) (v : r.values ≡ content es t.values) (limit : ℕ) (ref : Reference) (rs ls : List (Step E))
    (rcalm : Each (IsCalm (limit < depth ref.args)) rs) (lcalm : Each (IsCalm (limit < depth ref.args)) ls) (V : World) (c : ℕ)
    (ris : shown q rs ≡ items V None true ref.args) (lis : shown r ls ≡ items V (Some c) true ref.args) (mode : OrphanCheckMode) where
  pub known-exact : (a : KnowableAnswer E) → IsKnowableAnswer (trait_is (λ x. (x.home == c) || x.is_fundamental) V ref.trait) rs ls (Local mode) a → WalkTellsKnown V c limit ref a
  known-exact (Ok (Ok x)) h = λ w. known-is (trait_is (λ _. true) V ref.trait) (list_all (item_in V) (open_walk V ref)) (trait_is (λ x. (x.home == c) || x.is_fundamental) V ref.trait) (ends_local (walk V c ref)) (meets_open V ref) w
      (by h.1) (runs-out es t q u limit ref rs rcalm V c ris h.0)
    where
      by : (trait_is (λ x. (x.home == c) || x.is_fundamental) V ref.trait ≡ true) ⊎ Passes (Local mode) (first_end ls) → (trait_is (λ x. (x.home == c) || x.is_fundamental) V ref.trait || ends_local (walk V c ref)) ≡ true
      by (inl o) = or-left _ (ends_local (walk V c ref)) o
      by (inr p) = or-right (trait_is (λ x. (x.home == c) || x.is_fundamental) V ref.trait) _ (passes-local es t r v limit ref ls lcalm V c lis mode (first_end ls) refl p)
  known-exact (Ok (Err Downstream)) h = passes-remote es t q u limit ref rs rcalm V c ris (first_end rs) refl h
  known-exact (Ok (Err Upstream)) h = (
    runs-out es t q u limit ref rs rcalm V c ris h.0,
    unknown-is (trait_is (λ _. true) V ref.trait) (list_all (item_in V) (open_walk V ref)) _ _ h.1 (barred-local es t r v limit ref ls lcalm V c lis (first_end ls) refl h.2),
  )
  known-exact (Err (Normalize x)) (inl h) = calm-first (limit < depth ref.args) rs (refused x) rcalm h
  known-exact (Err (Normalize x)) (inr h) = calm-first (limit < depth ref.args) ls (refused x) lcalm h.2
  known-exact (Err Deep) (inl (inl h)) = first-deep es t q u limit ref rs rcalm (first_end rs) refl h
  known-exact (Err Deep) (inl (inr h)) = absurd h.1
  known-exact (Err Deep) (inr h) = by h.2
    where
      by : IsTooDeep (Local mode) ls → limit < depth ref.args
      by (inl g) = first-deep es t r v limit ref ls lcalm (first_end ls) refl g
      by (inr g) = second-deep es t r v limit ref ls lcalm (second_end ls) refl g.2
  known-exact (Err Memory) h = tt

-- ---- of an interner and a table
module _ {E : Type 0} (es : List Entry) (law : Lawful es) (d : Items) (t : Table) (ready : Ready es t) (f : Trees → Result Trees E) (limit : ℕ) (x : TraitRef) (held : Has es args_lists x.args.0) (same : AnswersItsInput f) where
  table : IsOfTrees is_numbered (table_trees es t)
  table = table-trees (table_trees es t) (ready-terms es law t ready)

  made : AreTrees is_numbered in_terms (trees_at es x.args.0)
  made = trees-of is_numbered terms (trees_at es x.args.0) (made-weaker is_in_range is_numbered numbered terms (trees_at es x.args.0) ((law.made x.args.0 _ (is-at es args_lists x.args.0 held)).as_terms (λ e. absurd (omega (arith, e)))))

  calm : (k : InCrate) → Each (IsCalm (limit < depth (reference_read es t x).args)) (steps (reading es d t f k) limit (trees_at es x.args.0))
  calm k = steps-calm (limit < depth (reference_read es t x).args) (reading es d t f k) same table.valued table.acyclic table.sorted table.terms limit (trees_at es x.args.0) made (λ q. q)

  shows : (k : InCrate) → shown (reading es d t f k) (steps (reading es d t f k) limit (trees_at es x.args.0)) ≡ items (reading es d t f k).view (reading es d t f k).home true (reference_read es t x).args
  shows k = steps-shown (reading es d t f k) same table.valued table.acyclic table.sorted table.terms limit (trees_at es x.args.0) made

  pub orphan-exact : (k : InCrate) (a : OrphanAnswer E) → IsOrphanAnswer es k (steps (reading es d t f k) limit (trees_at es x.args.0)) a → IsOrphanCheckOf es d t k limit x a
  orphan-exact (Local mode) a h = local-exact es t (reading es d t f (Local mode)) refl limit (reference_read es t x) _ (calm (Local mode)) (declared es d) d.local (shows (Local mode)) mode a h
  orphan-exact Remote a h = remote-exact es t (reading es d t f Remote) refl limit (reference_read es t x) _ (calm Remote) (declared es d) d.local (shows Remote) a h

  pub knowable-exact : (a : KnowableAnswer E) → IsKnowableBy es d t f limit x a → IsKnownOf es d t limit x a
  knowable-exact a h =
      known-exact es t (reading es d t f Remote) (reading es d t f (Local Proper)) refl refl limit (reference_read es t x) _ _ (calm Remote) (calm (Local Proper)) (declared es d) d.local (shows Remote) (shows (Local Proper)) Proper a h

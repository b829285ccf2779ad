-- The paths of heads that were read through another head.
use Rattle.std.proofs.Common.{◌≡◌, ℕ, zero, suc, ◌<◌, ◌↔◌, ◌⊎◌, inl, inr, true, false, cond, eqb, not, filter, All, List, [], ◌∷◌, ◌++◌, Option, None, Some, IfSome, IfNone, unwrap_or, get_or, length, refl, sym, ap, subst, ◌∙◌, arith}
use Rattle.std.proofs.lemmas.Bool.{eq-eqb, ne_eqb}
use Rattle.std.proofs.lemmas.List.Quantifiers.{position-Some}
use Rattle.std.proofs.lemmas.Option.{get_or_from_slice_get}
use Rattle.std.proofs.lemmas.List.Elements.{All-head, All-tail}
use Rattle.std.specs.Int.Bits.{or_zero_r}
use Rattle.std.specs.Int.RustNames.{bit_or}
use Rattle.search_paths.specs.declared.path_kind.PathKind.{PathKind}
use Rattle.search_paths.specs.declared.path_kind.PathsToNested.{PathsToNested}
use Rattle.search_paths.specs.declared.dependencies.CycleHead.{CycleHead}
use Rattle.search_paths.specs.Path.{HasPath, IsExtended, AreExtendedByEach, flag_of}
use Rattle.search_paths.specs.Heads.{paths_to, first_paths, IsFirstOf, AreReadThrough}
use Rattle.search_paths.proofs.HeadFacts.{paths_to-append, same_or_not}
use Rattle.search_paths.proofs.PathSets.{bit-union, bit-either, none-in}

-- what was read of two sets
either : (kinds a b : ℕ) (path : Option PathKind) → IsExtended kinds (bit_or a b) path ↔ (IsExtended kinds a path ⊎ IsExtended kinds b path)
either kinds a b path = (
  λ h. elim (bit-either a b (flag_of h.2) h.3) [ inl x ↦ inl (h.0, h.1, h.2, x, h.4) | inr y ↦ inr (h.0, h.1, h.2, y, h.4) ],
  λ h. elim h [ inl x ↦ (x.0, x.1, x.2, bit-union a b (flag_of x.2) (inl x.3), x.4) | inr y ↦ (y.0, y.1, y.2, bit-union a b (flag_of y.2) (inr y.3), y.4) ],
)

nothing_extended : (kinds : ℕ) (path : Option PathKind) → IsExtended kinds 0 path → ⊥
nothing_extended kinds path h = none-in h.2 h.3

-- of one head
one_extended : (kinds place : ℕ) (head read : CycleHead) (path : Option PathKind) → read.index ≡ head.index → AreExtendedByEach kinds head.paths.0 read.paths.0
    → HasPath (paths_to (read ∷ []) place) path ↔ IsExtended kinds (paths_to (head ∷ []) place) path
one_extended kinds place head read path same each =
    subst (λ n. HasPath (cond (eqb n place) (bit_or read.paths.0 0) 0) path ↔ IsExtended kinds (paths_to (head ∷ []) place) path) (sym same)
    (elim (eqb head.index place) as (λ b. HasPath (cond b (bit_or read.paths.0 0) 0) path ↔ IsExtended kinds (cond b (bit_or head.paths.0 0) 0) path) [
      | true ↦ subst (λ n. HasPath n path ↔ IsExtended kinds (bit_or head.paths.0 0) path) (sym (or_zero_r read.paths.0)) (subst (λ n. HasPath read.paths.0 path ↔ IsExtended kinds n path) (sym (or_zero_r head.paths.0)) (each path))
      | false ↦ (λ h. absurd (none-in path h), λ h. absurd (nothing_extended kinds path h))
    ])

pub through_none : (kinds : ℕ) (heads : List CycleHead) → AreReadThrough kinds heads [] heads
through_none kinds heads place path = (λ h. inl h, λ h. elim h [ inl x ↦ x | inr y ↦ absurd (nothing_extended kinds path y) ])

-- and of one head more
pub through_further : (kinds : ℕ) (first more then now : List CycleHead) (head read : CycleHead) → AreReadThrough kinds first more then
    → ((place : ℕ) → paths_to now place ≡ bit_or (paths_to then place) (paths_to (read ∷ []) place)) → read.index ≡ head.index → AreExtendedByEach kinds head.paths.0 read.paths.0 → AreReadThrough kinds first (more ++ head ∷ []) now
through_further kinds first more then now head read before united same each place path = (to, from)
  where
    both : paths_to (more ++ head ∷ []) place ≡ bit_or (paths_to more place) (paths_to (head ∷ []) place)
    both = paths_to-append more (head ∷ []) place

    to : HasPath (paths_to now place) path → HasPath (paths_to first place) path ⊎ IsExtended kinds (paths_to (more ++ head ∷ []) place) path
    to h = elim (bit-either (paths_to then place) (paths_to (read ∷ []) place) (flag_of path) (subst (λ n. HasPath n path) (united place) h)) [
      | inl x ↦ elim ((before place path).0 x) [
        | inl y ↦ inl y
        | inr y ↦ inr (subst (λ n. IsExtended kinds n path) (sym both) ((either kinds (paths_to more place) (paths_to (head ∷ []) place) path).1 (inl y)))
      ]
      | inr x ↦ inr (subst (λ n. IsExtended kinds n path) (sym both) ((either kinds (paths_to more place) (paths_to (head ∷ []) place) path).1 (inr ((one_extended kinds place head read path same each).0 x))))
    ]

    union : HasPath (paths_to then place) path ⊎ HasPath (paths_to (read ∷ []) place) path → HasPath (paths_to now place) path
    union h = subst (λ n. HasPath n path) (sym (united place)) (bit-union (paths_to then place) (paths_to (read ∷ []) place) (flag_of path) h)

    from : HasPath (paths_to first place) path ⊎ IsExtended kinds (paths_to (more ++ head ∷ []) place) path → HasPath (paths_to now place) path
    from h = elim h [
      | inl x ↦ union (inl ((before place path).1 (inl x)))
      | inr y ↦ elim ((either kinds (paths_to more place) (paths_to (head ∷ []) place) path).0 (subst (λ n. IsExtended kinds n path) both y)) [
        | inl z ↦ union (inl ((before place path).1 (inr z)))
        | inr z ↦ union (inr ((one_extended kinds place head read path same each).1 z))
      ]
    ]

-- what was read of other goals than one that is taken out
pub paths_to-others : (hs : List CycleHead) (index other : ℕ) → (other ≡ index → ⊥) → paths_to (filter (λ head. not (eqb head.index index)) hs) other ≡ paths_to hs other
paths_to-others [] index other apart = refl
paths_to-others (x ∷ hs) index other apart =
    elim (same_or_not x.index index) [
      | inl e ↦
          let away : eqb x.index other ≡ false = ne_eqb x.index other (λ f. apart (sym f ∙ e)) in
          subst (λ b. paths_to (cond (not b) (x ∷ filter (λ head. not (eqb head.index index)) hs) (filter (λ head. not (eqb head.index index)) hs)) other ≡ paths_to (x ∷ hs) other) (sym (eq-eqb x.index index e))
          (subst (λ b. paths_to (filter (λ head. not (eqb head.index index)) hs) other ≡ cond b (bit_or x.paths.0 (paths_to hs other)) (paths_to hs other)) (sym away) (paths_to-others hs index other apart))
      | inr n ↦
          subst (λ b. paths_to (cond (not b) (x ∷ filter (λ head. not (eqb head.index index)) hs) (filter (λ head. not (eqb head.index index)) hs)) other ≡ paths_to (x ∷ hs) other) (sym (ne_eqb x.index index n))
          (ap (λ r. cond (eqb x.index other) (bit_or x.paths.0 r) r) (paths_to-others hs index other apart))
    ]

-- the paths of the first head of a goal
first_at : (hs : List CycleHead) (i index : ℕ) (d : CycleHead) → i < length hs → eqb (get_or hs i d).index index ≡ true → ((k : ℕ) → k < i → eqb (get_or hs k d).index index ≡ false) → first_paths hs index ≡ (get_or hs i d).paths.0
first_at [] i index d inside is before = absurd (omega (arith, inside))
first_at (x ∷ hs) zero index d inside is before = subst (λ b. cond b x.paths.0 (first_paths hs index) ≡ x.paths.0) (sym is) refl
first_at (x ∷ hs) (suc i) index d inside is before =
    let away : eqb x.index index ≡ false = before zero (omega arith) in
    subst (λ b. cond b x.paths.0 (first_paths hs index) ≡ (get_or hs i d).paths.0) (sym away)
    (first_at hs i index d (omega (arith, inside)) is (λ k less. before (suc k) (omega (arith, less))))

pub first_found : (hs : List CycleHead) (index : ℕ) (paths : PathsToNested) → IsFirstOf hs (record { index = index; paths = paths }) → first_paths hs index ≡ paths.0
first_found hs index paths found =
    let head : CycleHead = record { index = index; paths = paths } in
    let at = position-Some (λ (other : CycleHead). eqb other.index index) hs found.0 head found.1 in
    first_at hs found.0 index head at.0 at.1 at.2 ∙ ap (λ h. h.paths.0) (get_or_from_slice_get hs found.0 head head found.2)

pub first_absent : (hs : List CycleHead) (index : ℕ) → All (λ head. head.index ≡ index → ⊥) hs → first_paths hs index ≡ 0
first_absent [] index none = refl
first_absent (x ∷ hs) index none =
    subst (λ b. cond b x.paths.0 (first_paths hs index) ≡ 0) (sym (ne_eqb x.index index (All-head (λ head. head.index ≡ index → ⊥) x hs none)))
    (first_absent hs index (All-tail (λ head. head.index ≡ index → ⊥) x hs none))

-- what was read of a goal that is taken out, if it was
pub first_read : (hs : List CycleHead) (index : ℕ) (r : Option PathsToNested) (empty read : PathsToNested) → IfSome r (λ paths. IsFirstOf hs (record { index = index; paths = paths })) → IfNone r (All (λ head. head.index ≡ index → ⊥) hs)
    → empty.0 ≡ 0 → read ≡ unwrap_or r empty → first_paths hs index ≡ read.0
first_read hs index None empty read some none nothing is = first_absent hs index none ∙ sym nothing ∙ ap (λ p. p.0) (sym is)
first_read hs index (Some paths) empty read some none nothing is = first_found hs index paths some ∙ ap (λ p. p.0) (sym is)

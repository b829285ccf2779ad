-- The order of kinds, and the flags of paths.
use Rattle.std.proofs.Common.{◌≡◌, ℕ, zero, suc, ◌<◌, max, Bool, true, false, ◌||◌, Option, None, Some, refl, sym, ap, ◌∙◌, arith}
use Rattle.search_paths.specs.declared.path_kind.PathKind.{PathKind}
use Rattle.search_paths.specs.declared.path_kind.PathKind.TheVariants.{Inductive, Unknown, Coinductive, ForcedAmbiguity}
use Rattle.search_paths.specs.Laws.{IsAssociative}
use Rattle.search_paths.specs.Path.{rank, is_coinductive_path, greater, after, flag_of}

-- the kind at a place of the order
abbrev kind_at : ℕ → PathKind
kind_at zero = Inductive
kind_at (suc zero) = Unknown
kind_at (suc (suc zero)) = Coinductive
kind_at (suc (suc (suc n))) = ForcedAmbiguity

kind_at-rank : (k : PathKind) → kind_at (rank k) ≡ k
kind_at-rank Inductive = refl
kind_at-rank Unknown = refl
kind_at-rank Coinductive = refl
kind_at-rank ForcedAmbiguity = refl

pub same_rank : (j k : PathKind) → rank j ≡ rank k → j ≡ k
same_rank j k e = sym (kind_at-rank j) ∙ ap kind_at e ∙ kind_at-rank k

pub rank-greater : (j k : PathKind) → rank (greater j k) ≡ max (rank j) (rank k)
rank-greater Inductive Inductive = refl
rank-greater Inductive Unknown = refl
rank-greater Inductive Coinductive = refl
rank-greater Inductive ForcedAmbiguity = refl
rank-greater Unknown Inductive = refl
rank-greater Unknown Unknown = refl
rank-greater Unknown Coinductive = refl
rank-greater Unknown ForcedAmbiguity = refl
rank-greater Coinductive Inductive = refl
rank-greater Coinductive Unknown = refl
rank-greater Coinductive Coinductive = refl
rank-greater Coinductive ForcedAmbiguity = refl
rank-greater ForcedAmbiguity Inductive = refl
rank-greater ForcedAmbiguity Unknown = refl
rank-greater ForcedAmbiguity Coinductive = refl
rank-greater ForcedAmbiguity ForcedAmbiguity = refl

pub greater-associative : IsAssociative greater
greater-associative a b c =
    same_rank _ _ (omega (arith, rank-greater (greater a b) c, rank-greater a b, rank-greater a (greater b c), rank-greater b c))

-- the path at a place of the flags
abbrev pub path_at : ℕ → Option PathKind
path_at zero = None
path_at (suc n) = Some (kind_at n)

path_at-flag_of : (path : Option PathKind) → path_at (flag_of path) ≡ path
path_at-flag_of None = refl
path_at-flag_of (Some Inductive) = refl
path_at-flag_of (Some Unknown) = refl
path_at-flag_of (Some Coinductive) = refl
path_at-flag_of (Some ForcedAmbiguity) = refl

pub same_flag : (p q : Option PathKind) → flag_of p ≡ flag_of q → p ≡ q
same_flag p q e = sym (path_at-flag_of p) ∙ ap path_at e ∙ path_at-flag_of q

pub flag_of-path_at : (i : ℕ) → i < 5 → flag_of (path_at i) ≡ i
flag_of-path_at zero h = refl
flag_of-path_at (suc zero) h = refl
flag_of-path_at (suc (suc zero)) h = refl
flag_of-path_at (suc (suc (suc zero))) h = refl
flag_of-path_at (suc (suc (suc (suc zero)))) h = refl
flag_of-path_at (suc (suc (suc (suc (suc n))))) h = absurd (omega arith)

pub rank-below : (k : PathKind) → rank k < 4
rank-below Inductive = omega arith
rank-below Unknown = omega arith
rank-below Coinductive = omega arith
rank-below ForcedAmbiguity = omega arith

pub flag_of-below : (path : Option PathKind) → flag_of path < 5
flag_of-below None = omega arith
flag_of-below (Some k) = omega (arith, rank-below k)

pub flag_of-after : (path : Option PathKind) (k : PathKind) → flag_of (Some (after path k)) ≡ max (flag_of path) (flag_of (Some k))
flag_of-after None k = omega arith
flag_of-after (Some j) k = omega (arith, rank-greater j k)

-- to extend by two steps in turn
pub after-twice : (path : Option PathKind) (j k : PathKind) → greater (after path j) k ≡ after path (greater j k)
after-twice None j k = refl
after-twice (Some i) j k = greater-associative i j k

-- a coinductive step is one of two
pub greater_passes : (j k : PathKind) (b : Bool) → b || is_coinductive_path (greater j k) ≡ true → (b || is_coinductive_path k) || is_coinductive_path j ≡ true
greater_passes j k true h = refl
greater_passes Inductive Coinductive false h = refl
greater_passes Inductive Inductive false h = h
greater_passes Inductive Unknown false h = h
greater_passes Inductive ForcedAmbiguity false h = h
greater_passes Unknown Inductive false h = h
greater_passes Unknown Unknown false h = h
greater_passes Unknown Coinductive false h = refl
greater_passes Unknown ForcedAmbiguity false h = h
greater_passes Coinductive Inductive false h = refl
greater_passes Coinductive Unknown false h = refl
greater_passes Coinductive Coinductive false h = refl
greater_passes Coinductive ForcedAmbiguity false h = refl
greater_passes ForcedAmbiguity k false h = elim k as (λ k. (false || is_coinductive_path k) || is_coinductive_path ForcedAmbiguity ≡ true) [ Inductive ↦ h | Unknown ↦ h | Coinductive ↦ refl | ForcedAmbiguity ↦ h ]

-- where neither hides a coinductive step, a coinductive one of two makes the greater coinductive
pub greater_keeps : (j k : PathKind) (b : Bool) → (greater j k ≡ ForcedAmbiguity → ⊥) → (b || is_coinductive_path k) || is_coinductive_path j ≡ true → b || is_coinductive_path (greater j k) ≡ true
greater_keeps j k true free h = refl
greater_keeps Inductive Inductive false free h = h
greater_keeps Inductive Unknown false free h = h
greater_keeps Inductive Coinductive false free h = refl
greater_keeps Inductive ForcedAmbiguity false free h = h
greater_keeps Unknown Inductive false free h = h
greater_keeps Unknown Unknown false free h = h
greater_keeps Unknown Coinductive false free h = refl
greater_keeps Unknown ForcedAmbiguity false free h = h
greater_keeps Coinductive Inductive false free h = refl
greater_keeps Coinductive Unknown false free h = refl
greater_keeps Coinductive Coinductive false free h = refl
greater_keeps Coinductive ForcedAmbiguity false free h = absurd (free refl)
greater_keeps ForcedAmbiguity k false free h = absurd (free refl)

pub greater_forced : (j k : PathKind) → k ≡ ForcedAmbiguity → greater j k ≡ ForcedAmbiguity
greater_forced Inductive k h = h
greater_forced Unknown k h = rw h refl
greater_forced Coinductive k h = rw h refl
greater_forced ForcedAmbiguity k h = refl

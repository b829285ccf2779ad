-- What is recorded of lifetimes: the lifetime of a `dyn` stands behind its bounds, and is read off the first of the types.
use Rattle.std.proofs.Common.{◌≡◌, ℕ, zero, suc, List, [], ◌∷◌, map, refl, sym, ap, ◌∙◌, option_map}
use Rattle.std.specs.List.{slice_get}
use Rattle.type_terms.specs.Promised.Label.{Label, of_type, dynamic}
use Rattle.type_terms.specs.Promised.Trees.{Trees, none, tree, leaf, nth, ◌+++◌, IsA}
use Rattle.term_folds.specs.Signatures.{StartsWithType}
use Rattle.candidate_model.specs.Asking.{next_of}
use Rattle.candidate_model.specs.Candidates.{Candidate, recording, last_of, lifetime_of, outlives, unsizing_outlives}
use Rattle.candidate_model.proofs.CandidateKinds.{with_regions}
use Rattle.built_in_candidates.specs.Unsizing.{BeginsWith}
use Rattle.type_terms.proofs.TermBasics.{append-none}

-- the last of a list of trees that ends with a leaf
pub last-is : (b : Trees) (l : Label) → last_of (b +++ leaf l) ≡ leaf l
last-is none l = refl
last-is (tree m c none) l = refl
last-is (tree m c (tree k d o)) l = last-is (tree k d o) l

-- of other types no lifetime is read
lifetime-alone : (l : Label) (c o p : Trees) → lifetime_of (tree l c o) ≡ lifetime_of (tree l c p)
lifetime-alone dynamic c o p = refl
lifetime-alone l c o p = refl

first-lifetime : (T S : Trees) → StartsWithType T → S ≡ nth T 0 → lifetime_of S ≡ lifetime_of T
first-lifetime none S s e = absurd s
first-lifetime (tree l c o) S s e = ap lifetime_of e ∙ lifetime-alone l c none o

target-lifetime : (t X : Trees) → IsA of_type X → BeginsWith t X → lifetime_of X ≡ lifetime_of t
target-lifetime t none h g = absurd h
target-lifetime t (tree m d p) h g = lifetime-alone m d p (p +++ g.0) ∙ ap lifetime_of (sym g.1)

-- what is recorded of the goal's self type and target
pub goal-outlives : (T S X : Trees) → StartsWithType T → S ≡ nth T 0 → IsA of_type X → BeginsWith (next_of T) X → outlives S (lifetime_of S) (lifetime_of X) ≡ unsizing_outlives T
goal-outlives T S X s e h g =
    ap (λ z. outlives z (lifetime_of S) (lifetime_of X)) e ∙ ap (λ a. outlives (nth T 0) a (lifetime_of X)) (first-lifetime T S s e)
    ∙ ap (outlives (nth T 0) (lifetime_of T)) (target-lifetime (next_of T) X h g)

-- the candidate at a place, recording
pub recorded-at : (r : Trees) (cs : List Candidate) (n : ℕ) → option_map (recording r) (slice_get cs n) ≡ slice_get (map (recording r) cs) n
recorded-at r [] n = refl
recorded-at r (c ∷ cs) zero = refl
recorded-at r (c ∷ cs) (suc n) = recorded-at r cs n

-- where nothing is recorded
pub recording-none : (c : Candidate) → c ≡ recording none c
recording-none c = ap (λ r. with_regions r c) (sym (append-none c.regions))

-- The bound that comes next is the first one after the last that can be the goal.
use Rattle.std.proofs.Common.{◌≡◌, ℕ, zero, suc, ◌+◌, ◌<◌, Bool, true, false, not, if◌then◌else◌, List, [], ◌∷◌, ◌++◌, drop, length, get_or, Option, Some, None, refl, sym, ap, ◌∙◌, subst, arith}
use Rattle.std.specs.Prelude.{◌==◌, option_map}
use Rattle.std.specs.List.{slice_get}
use Rattle.type_terms.specs.Promised.Trees.{Trees, none, tree, nth}
use Rattle.type_terms.specs.Promised.Label.{dynamic}
use Rattle.type_terms.specs.Promised.Worlds.{World, Reference}
use Rattle.type_terms.specs.Promised.Rules.{sized, principal_with, autos_with, are_dyn_compatible}
use Rattle.term_folds.specs.Signatures.{StartsWithType}
use Rattle.goal_evaluator.specs.declared.candidate.BuiltinImplSource.{BuiltinImplSource}
use Rattle.goal_evaluator.specs.declared.candidate.BuiltinImplSource.TheVariants.{Misc, Object}
use Rattle.goal_evaluator.specs.declared.candidate.CandidateSource.{CandidateSource}
use Rattle.goal_evaluator.specs.declared.candidate.CandidateSource.TheVariants.{BuiltinImpl}
use Rattle.type_terms.specs.Promised.Handles.{Entry}
use Rattle.term_folds.specs.declared.predicate.TraitRef.{TraitRef}
use Rattle.declarations.specs.Held.{ReferenceHeld}
use Rattle.declarations.specs.Applied.{references_in, TraitRefsHeld}
use Rattle.declarations.specs.Promised.Elaboration.{elaborate}
use Rattle.candidate_model.specs.Asking.{GoalOverKinds, with_plain_head}
use Rattle.candidate_model.specs.Candidates.{Candidate, if_so, can_be, objects_of}
use Rattle.built_in_candidates.specs.Objects.{BoundRule, numbered_to, can_be_in, bounds_to, object_bounds, IsOfBound}
use Rattle.built_in_candidates.proofs.Objects.{by_bound, objects-at, with_source, bound-at}

object-number : (i n : ℕ) → ◌≡◌ {A = Option BuiltinImplSource} (Some (Object i)) (Some (Object n)) → i ≡ n
object-number i n e = cc

number-here : (i n : ℕ) → i ≡ n → n ≡ i + 0
number-here i n e = omega (arith, e)

number-later : (i n s : ℕ) → n ≡ suc i + s → n ≡ i + suc s
number-later i n s e = omega (arith, e)

number-first : (n s : ℕ) → n ≡ 0 + s → s ≡ n
number-first n s e = omega (arith, e)

abbrev pub rules_after : (Reference → Bool) → ℕ → List Reference → Option BoundRule
rules_after p n rs = slice_get (bounds_to p Object (suc n) rs) 0

-- What comes after the rule with this index.
pub record Next (p : Reference → Bool) (i n : ℕ) (rs : List Reference) (next : Option BoundRule) : Type 0 where
  pub skipped : ℕ
  pub number : n ≡ i + skipped
  pub is : next ≡ rules_after p n (drop (suc skipped) rs)

module _ (q : Reference) where
  abbrev p : Reference → Bool
  p = can_be q

  next-level : (i n : ℕ) (rs : List Reference) (k : ℕ) → IsOfBound (bounds_to p Object i rs) n k → Next p i n rs (slice_get (bounds_to p Object i rs) (suc k))
  next-level i n [] k e = absurd cc
  next-level i n (r ∷ rs) k e = by (p r) k e (λ m f. next-level (suc i) n rs m f)
    where
      later : (next : Option BoundRule) → Next p (suc i) n rs next → Next p i n (r ∷ rs) next
      later next x = record { skipped = suc x.skipped; number = number-later i n x.skipped x.number; is = x.is }

      by : (b : Bool) (m : ℕ) → IsOfBound (if b then record { source = Object i; reference = r } ∷ bounds_to p Object (suc i) rs else bounds_to p Object (suc i) rs) n m
          → ((j : ℕ) → IsOfBound (bounds_to p Object (suc i) rs) n j → Next p (suc i) n rs (slice_get (bounds_to p Object (suc i) rs) (suc j)))
          → Next p i n (r ∷ rs) (slice_get (if b then record { source = Object i; reference = r } ∷ bounds_to p Object (suc i) rs else bounds_to p Object (suc i) rs) (suc m))
      by true zero f go =
          let same : i ≡ n = object-number i n f in
          record { skipped = 0; number = number-here i n same; is = ap (λ z. slice_get (bounds_to p Object (suc z) rs) 0) same }
      by true (suc m) f go = later (slice_get (bounds_to p Object (suc i) rs) (suc m)) (go m f)
      by false m f go = later (slice_get (bounds_to p Object (suc i) rs) (suc m)) (go m f)

  -- auto traits come before
  next-past : (ys : List BoundRule) (i n : ℕ) (rs : List Reference) (k : ℕ) → IsOfBound (bounds_to p (λ j. Misc) i rs ++ ys) n k
      → (m : ℕ) × IsOfBound ys n m × (slice_get (bounds_to p (λ j. Misc) i rs ++ ys) (suc k) ≡ slice_get ys (suc m))
  next-past ys i n [] k e = (k, e, refl)
  next-past ys i n (r ∷ rs) k e = by (p r) k e (λ m f. next-past ys (suc i) n rs m f)
    where
      by : (b : Bool) (m : ℕ) → IsOfBound ((if b then record { source = Misc; reference = r } ∷ bounds_to p (λ j. Misc) (suc i) rs else bounds_to p (λ j. Misc) (suc i) rs) ++ ys) n m
          → ((k : ℕ) → IsOfBound (bounds_to p (λ j. Misc) (suc i) rs ++ ys) n k
          → (m : ℕ) × IsOfBound ys n m × (slice_get (bounds_to p (λ j. Misc) (suc i) rs ++ ys) (suc k) ≡ slice_get ys (suc m)))
          → (j : ℕ) × IsOfBound ys n j × (slice_get ((if b then record { source = Misc; reference = r } ∷ bounds_to p (λ j. Misc) (suc i) rs else bounds_to p (λ j. Misc) (suc i) rs) ++ ys) (suc m) ≡ slice_get ys (suc j))
      by true zero f go = absurd cc
      by true (suc m) f go = go m f
      by false m f go = go m f

  next-elaborated : (rs : List Reference) (n k : ℕ) → IsOfBound (bounds_to p Object 0 rs) n k → slice_get (bounds_to p Object 0 rs) (suc k) ≡ rules_after p n (drop (suc n) rs)
  next-elaborated rs n k e =
      let x = next-level 0 n rs k e in
      let same : x.skipped ≡ n = number-first n x.skipped x.number in
      x.is ∙ ap (λ z. rules_after p n (drop (suc z) rs)) same

  abbrev all : Trees → Trees → List Reference → List BoundRule
  all S b rs = bounds_to p (λ i. Misc) 0 (autos_with S b) ++ bounds_to p Object 0 rs

  next-if : (S b : Trees) (rs : List Reference) (n k : ℕ) (x y : Bool) → IsOfBound (if_so x (if_so y (all S b rs))) n k
      → slice_get (if_so x (if_so y (all S b rs))) (suc k) ≡ rules_after p n (drop (suc n) rs)
  next-if S b rs n k true true f = let x = next-past (bounds_to p Object 0 rs) 0 n (autos_with S b) k f in x.2 ∙ next-elaborated rs n x.0 x.1
  next-if S b rs n k true false f = absurd cc
  next-if S b rs n k false y f = absurd cc

  pub next-bound : (V : World) (S b : Trees) (n k : ℕ) → IsOfBound (object_bounds V q S b) n k
      → slice_get (object_bounds V q S b) (suc k) ≡ rules_after p n (drop (suc n) (elaborate V (principal_with S b)))
  next-bound V S b n k e = next-if S b (elaborate V (principal_with S b)) n k (are_dyn_compatible V (principal_with S b)) (not (q.trait == sized)) e

-- ---- in code
number-on : (i p : ℕ) → suc (i + p) ≡ i + suc p
number-on i p = omega arith

-- the list from an index on, by the bound at that index
level : (p : TraitRef → Bool) (j : ℕ) (rs : List TraitRef) (k : ℕ) (d : TraitRef) → k < length rs → d ≡ get_or rs k d
    → numbered_to p j (drop k rs) ≡ (if p d then (j, d) ∷ numbered_to p (suc j) (drop (suc k) rs) else numbered_to p (suc j) (drop (suc k) rs))
level p j [] k d lt is = absurd (omega (arith, lt))
level p j (r ∷ rs) zero d lt is = ap (λ (z : TraitRef). if p z then (j, z) ∷ numbered_to p (suc j) rs else numbered_to p (suc j) rs) (sym is)
level p j (r ∷ rs) (suc k) d lt is = level p j rs k d (omega (arith, lt)) is

module _ (p : TraitRef → Bool) (i : ℕ) (rs : List TraitRef) (k : ℕ) (d : TraitRef) (lt : k < length rs) (is : d ≡ get_or rs k d) where
  -- from that index on, if the bound has the property or has not
  here-on : (b : Bool) → p d ≡ b → numbered_to p (i + k) (drop k rs) ≡ (if b then (i + k, d) ∷ numbered_to p (i + suc k) (drop (suc k) rs) else numbered_to p (i + suc k) (drop (suc k) rs))
  here-on b e =
      level p (i + k) rs k d lt is
      ∙ ap (λ z. if z then (i + k, d) ∷ numbered_to p (suc (i + k)) (drop (suc k) rs) else numbered_to p (suc (i + k)) (drop (suc k) rs)) e
      ∙ ap (λ z. if b then (i + k, d) ∷ numbered_to p z (drop (suc k) rs) else numbered_to p z (drop (suc k) rs)) (number-on i k)

  -- one without it is passed over
  pub passed-over : (m n : ℕ) → m ≡ suc k → p d ≡ false → slice_get (numbered_to p (i + k) (drop k rs)) n ≡ slice_get (numbered_to p (i + m) (drop m rs)) n
  passed-over m n next e = ap (λ l. slice_get l n) (here-on false e) ∙ ap (λ z. slice_get (numbered_to p (i + z) (drop z rs)) n) (sym next)

  -- one with it is the first
  pub counted-on : (m n : ℕ) → m ≡ suc k → p d ≡ true → slice_get (numbered_to p (i + k) (drop k rs)) (suc n) ≡ slice_get (numbered_to p (i + m) (drop m rs)) n
  counted-on m n next e = ap (λ l. slice_get l (suc n)) (here-on true e) ∙ ap (λ z. slice_get (numbered_to p (i + z) (drop z rs)) n) (sym next)

  pub found-here : p d ≡ true → slice_get (numbered_to p (i + k) (drop k rs)) 0 ≡ Some (i + k, d)
  found-here e = ap (λ l. slice_get l 0) (here-on true e)

pub held-here : (es : List Entry) (rs : List TraitRef) (k : ℕ) (d : TraitRef) → TraitRefsHeld es rs → k < length rs → d ≡ get_or rs k d → ReferenceHeld es d
held-here es [] k d h lt is = absurd (omega (arith, lt))
held-here es (r ∷ rs) zero d h lt is = subst (ReferenceHeld es) (sym is) h.0
held-here es (r ∷ rs) (suc k) d h lt is = held-here es rs k d h.1 (omega (arith, lt)) is

pub dropped-held : (es : List Entry) (n : ℕ) (rs : List TraitRef) → TraitRefsHeld es rs → TraitRefsHeld es (drop n rs)
dropped-held es zero rs h = h
dropped-held es (suc n) [] h = tt
dropped-held es (suc n) (r ∷ rs) h = dropped-held es n rs h.1

dropped-read : (es : List Entry) (n : ℕ) (rs : List TraitRef) → references_in es (drop n rs) ≡ drop n (references_in es rs)
dropped-read es zero rs = refl
dropped-read es (suc n) [] = refl
dropped-read es (suc n) (r ∷ rs) = dropped-read es n rs

pub bound-after : (V : World) (es : List Entry) (q : Reference) (S b : Trees) (n k : ℕ) (rs : List TraitRef) (o : Option (ℕ × TraitRef)) → o ≡ slice_get (numbered_to (can_be_in es q) (suc n) (drop (suc n) rs)) 0
    → references_in es rs ≡ elaborate V (principal_with S b) → IsOfBound (object_bounds V q S b) n k → option_map (with_source Object es) o ≡ slice_get (object_bounds V q S b) (suc k)
bound-after V es q S b n k rs o e is was =
    bound-at Object es (can_be q) (suc n) 0 (drop (suc n) rs) o e
    ∙ ap (λ l. slice_get (bounds_to (can_be q) Object (suc n) l) 0) (dropped-read es (suc n) rs ∙ ap (drop (suc n)) is)
    ∙ sym (next-bound q V S b n k was)

-- ---- as candidates
module _ (V : World) (a : GoalOverKinds) where
  abbrev source-of : Candidate → CandidateSource
  source-of c = c.source

  inner : (o : Option BoundRule) (n : ℕ) → option_map source-of (option_map (by_bound V a) o) ≡ Some (BuiltinImpl (Object n)) → option_map (λ (x : BoundRule). x.source) o ≡ Some (Object n)
  inner None n e = absurd cc
  inner (Some x) n e = ap Some (by x.source e)
    where
      by : (s : BuiltinImplSource) → ◌≡◌ {A = Option CandidateSource} (Some (BuiltinImpl s)) (Some (BuiltinImpl (Object n))) → s ≡ Object n
      by s f = cc

  -- the rule of a candidate by a bound
  pub by-rule-of : (T S b : Trees) → StartsWithType T → S ≡ nth T 0 → S ≡ tree dynamic b none → (n k : ℕ)
      → option_map source-of (slice_get (objects_of V a (with_plain_head T)) k) ≡ Some (BuiltinImpl (Object n)) → IsOfBound (object_bounds V a.reference S b) n k
  by-rule-of T S b h e f n k g = inner (slice_get (object_bounds V a.reference S b) k) n (sym (ap (option_map source-of) (objects-at V a T S b h e f k)) ∙ g)

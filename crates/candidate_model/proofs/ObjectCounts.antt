-- How often a trait occurs among the bounds of a `dyn`, and how many premises these bounds have together.
use Rattle.std.proofs.Common.{◌≡◌, ℕ, zero, suc, ◌+◌, ◌*◌, ◌≤◌, ◌<◌, Bool, true, false, not, ◌&&◌, if◌then◌else◌, ◌==◌, List, [], ◌∷◌, ◌++◌, length, refl, sym, ◌∙◌, ap, subst, arith}
use Rattle.std.proofs.lemmas.Nat.{mul-le}
use Rattle.std.proofs.Math.Nat.{le_refl}
use Rattle.type_terms.specs.Promised.Worlds.{World, Reference}
use Rattle.type_terms.specs.Promised.Rules.{is_coinductive, strict_supertraits, written_supertraits}
use Rattle.type_terms.specs.Promised.Proofs.{In}
use Rattle.type_terms.proofs.Members.{here, there, same-number, so-false}
use Rattle.type_terms.proofs.ListBasics.{map-length, length-append}
use Rattle.type_terms.proofs.NumberBasics.{not-less}
use Rattle.goal_evaluator.specs.Plans.{nested_in}
use Rattle.goal_evaluator.specs.Tables.{frame_tables}
use Rattle.goal_evaluator.specs.declared.candidate.CandidateSource.{CandidateSource}
use Rattle.declarations.specs.Apart.{are_apart}
use Rattle.declarations.specs.Promised.Elaboration.{is_put, new_of, pushed, off_stack, all_levels, elaborate, supertraits}
use Rattle.candidate_model.specs.Asking.{GoalOverKinds}
use Rattle.candidate_model.specs.Candidates.{premise, by_rule, all_equal, bounds_from}
use Rattle.candidate_model.proofs.CandidateCounts.{supertraits-few}
use Rattle.candidate_model.proofs.CandidateNumbers.{same-lengths}
use Rattle.candidate_model.specs.Declared.{LeadDown}
use Rattle.declarations.proofs.Levels.{supers-by-bounds}
use Rattle.candidate_model.proofs.OpenLevels.{written-lower, within-lower}
use Rattle.candidate_model.proofs.Unsizing.{within-same}

-- ---- how many are of a trait
abbrev pub once : Bool → ℕ
once b = if b then suc zero else zero

-- how many of the references are of this trait
abbrev pub many : ℕ → List Reference → ℕ
many t [] = zero
many t (r ∷ rs) = once (r.trait == t) + many t rs

pub many-few : (t : ℕ) (rs : List Reference) → many t rs ≤ length rs
many-few t [] = omega arith
many-few t (r ∷ rs) = let h = many-few t rs in let o = at-most (r.trait == t) in omega (arith, h, o)
  where
    at-most : (b : Bool) → once b ≤ 1
    at-most true = omega arith
    at-most false = omega arith

many-append : (t : ℕ) (xs ys : List Reference) → many t (xs ++ ys) ≡ many t xs + many t ys
many-append t [] ys = omega arith
many-append t (x ∷ xs) ys = let h = many-append t xs ys in omega (arith, h)

many-none : (t : ℕ) (rs : List Reference) → ((r : Reference) → In r rs → (r.trait == t) ≡ false) → many t rs ≡ 0
many-none t [] h = refl
many-none t (r ∷ rs) h =
    let o : once (r.trait == t) ≡ 0 = ap once (h r (here r rs)) in
    let m = many-none t rs (λ q i. h q (there q r rs i)) in
    omega (arith, o, m)

spread : (k l w : ℕ) → (k + l) * w ≡ k * w + l * w
spread k l w = grind arith

-- the candidates of a list of bounds have the goal's supertraits as premises, at most once for each that is of the goal's trait
pub bounds-ask : (V : World) (a : GoalOverKinds) (source : ℕ → CandidateSource) (i : ℕ) (rs : List Reference)
    → nested_in frame_tables (bounds_from V a source i rs) ≤ many a.reference.trait rs * length (supertraits V a.reference)
bounds-ask V a source i [] = omega arith
bounds-ask V a source i (r ∷ rs) = by (r.trait == a.reference.trait) (not (are_apart a.reference.args r.args)) (bounds-ask V a source (suc i) rs)
  where
    next : (n k l x : ℕ) → l ≤ k → x ≤ n * k → l + x ≤ (1 + n) * k
    next n k l x e f = let d = spread 1 n k in omega (arith, d, e, f)

    more : (n k x : ℕ) → x ≤ n * k → x ≤ (1 + n) * k
    more n k x f = let d = spread 1 n k in omega (arith, d, f)

    same : (n k x : ℕ) → x ≤ n * k → x ≤ (0 + n) * k
    same n k x f = let d = spread 0 n k in omega (arith, d, f)

    by : (b n : Bool) → nested_in frame_tables (bounds_from V a source (suc i) rs) ≤ many a.reference.trait rs * length (supertraits V a.reference)
        → nested_in frame_tables (if b && n then by_rule V a (source i) (all_equal a.reference.args r.args) (supertraits V a.reference) ∷ bounds_from V a source (suc i) rs else bounds_from V a source (suc i) rs)
        ≤ (once b + many a.reference.trait rs) * length (supertraits V a.reference)
    by true true h =
        let l = map-length (premise a (is_coinductive V a.reference.trait)) (supertraits V a.reference) in
        next (many a.reference.trait rs) (length (supertraits V a.reference)) _ _ (omega (arith, l)) h
    by true false h = more (many a.reference.trait rs) (length (supertraits V a.reference)) _ h
    by false n h = same (many a.reference.trait rs) (length (supertraits V a.reference)) _ h

module _ (V : World) (rank : ℕ → ℕ) (down : LeadDown V rank) where
  -- ---- what is elaborated is among the levels
  module _ (t : ℕ) where
    levels-next : (r : Reference) (rs : List Reference) → many t (all_levels V (r ∷ rs)) ≡ many t (r ∷ strict_supertraits V r) + many t (all_levels V rs)
    levels-next r rs = many-append t (r ∷ strict_supertraits V r) (all_levels V rs)

    pushed-many : (rs stack : List Reference) → many t (all_levels V (pushed rs stack)) ≡ many t (all_levels V rs) + many t (all_levels V stack)
    pushed-many [] stack = omega arith
    pushed-many (r ∷ rs) stack =
        let h = pushed-many rs (r ∷ stack) in
        let k = levels-next r stack in
        let l = levels-next r rs in
        omega (arith, h, k, l)

    new-many : (before rs : List Reference) → many t (all_levels V (new_of before rs)) ≤ many t (all_levels V rs)
    new-many before [] = omega arith
    new-many before (r ∷ rs) = by (is_put r before) (new-many before rs) (new-many (r ∷ before) rs)
      where
        by : (b : Bool) → many t (all_levels V (new_of before rs)) ≤ many t (all_levels V rs) → many t (all_levels V (new_of (r ∷ before) rs)) ≤ many t (all_levels V rs)
            → many t (all_levels V (if b then new_of before rs else r ∷ new_of (r ∷ before) rs)) ≤ many t (all_levels V (r ∷ rs))
        by true f g = let l = levels-next r rs in omega (arith, f, l)
        by false f g = let k = levels-next r (new_of (r ∷ before) rs) in let l = levels-next r rs in omega (arith, g, k, l)

    off-many : (n : ℕ) (before stack : List Reference) → many t (off_stack n V before stack) ≤ many t (all_levels V stack)
    off-many zero before stack = omega arith
    off-many (suc n) before [] = omega arith
    off-many (suc n) before (r ∷ stack) =
        let new = new_of before (written_supertraits V r) in
        let h = off-many n (new ++ before) (pushed new stack) in
        let p = pushed-many new stack in
        let w = new-many before (written_supertraits V r) in
        let o : many t (strict_supertraits V r) ≡ many t (all_levels V (written_supertraits V r)) = ap (many t) (supers-by-bounds V rank down r) in
        let l = levels-next r stack in
        omega (arith, h, p, w, o, l)

    elaborated-many : (rs : List Reference) → many t (elaborate V rs) ≤ many t (all_levels V rs)
    elaborated-many rs =
        let h = off-many (length (all_levels V rs)) (new_of [] rs) (pushed (new_of [] rs) []) in
        let p = pushed-many (new_of [] rs) [] in
        let w = new-many [] rs in
        omega (arith, h, p, w)

  -- ---- each occurrence of a trait brings its supertraits with it
  module _ (q : Reference) where
    abbrev own : ℕ
    own = length (strict_supertraits V q)

    -- what is lower is of another trait
    apart : (p r : Reference) → rank p.trait < rank r.trait → r.trait ≡ q.trait → (p.trait == q.trait) ≡ false
    apart p r l e = so-false (p.trait == q.trait) (λ f. not-less (rank r.trait) (subst (λ z. rank z < rank r.trait) (same-number p.trait q.trait f ∙ sym e) l))

    none-below : (r : Reference) → r.trait ≡ q.trait → many q.trait (strict_supertraits V r) ≡ 0
    none-below r e = many-none q.trait (strict_supertraits V r) (λ p i. apart p r (within-lower V rank down (length V.traits) r p i) e)

    as-many : (r : Reference) → r.trait ≡ q.trait → length (strict_supertraits V r) ≡ own
    as-many r e = same-lengths (strict_supertraits V r) (strict_supertraits V q) (within-same (length V.traits) V r q e)

    levels-weighed : (n : ℕ) → ((r : Reference) → rank r.trait < n → many q.trait (r ∷ strict_supertraits V r) * suc own ≤ suc (length (strict_supertraits V r)))
        → (rs : List Reference) → ((r : Reference) → In r rs → rank r.trait < n) → many q.trait (all_levels V rs) * suc own ≤ length (all_levels V rs)
    levels-weighed n go [] f = omega arith
    levels-weighed n go (r ∷ rs) f =
        total (many q.trait (all_levels V (r ∷ rs))) (many q.trait (r ∷ strict_supertraits V r)) (many q.trait (all_levels V rs)) (length (strict_supertraits V r)) (length (all_levels V rs)) (length (strict_supertraits V r ++ all_levels V rs)) own
        (levels-next q.trait r rs) (go r (f r (here r rs))) (levels-weighed n go rs (λ p i. f p (there p r rs i))) (length-append (strict_supertraits V r) (all_levels V rs))
      where
        total : (a b c k l m s : ℕ) → a ≡ b + c → b * suc s ≤ suc k → c * suc s ≤ l → m ≡ k + l → a * suc s ≤ suc m
        total a b c k l m s e f g h = let x = ap (λ z. z * suc s) e in let d = spread b c (suc s) in omega (arith, x, d, f, g, h)

    below-weighed : (n : ℕ) → ((r : Reference) → rank r.trait < n → many q.trait (r ∷ strict_supertraits V r) * suc own ≤ suc (length (strict_supertraits V r)))
        → (r : Reference) → rank r.trait < suc n → many q.trait (strict_supertraits V r) * suc own ≤ length (strict_supertraits V r)
    below-weighed n go r h =
        subst (λ (xs : List Reference). many q.trait xs * suc own ≤ length xs) (sym (supers-by-bounds V rank down r))
        (levels-weighed n go (written_supertraits V r) (λ p i. less (rank p.trait) (rank r.trait) n (written-lower V rank down r p i) h))
      where
        less : (a b n : ℕ) → a < b → b < suc n → a < n
        less a b n f g = omega (arith, f, g)

    weighed : (n : ℕ) (r : Reference) → rank r.trait < n → many q.trait (r ∷ strict_supertraits V r) * suc own ≤ suc (length (strict_supertraits V r))
    weighed zero r h = absurd (omega (arith, h))
    weighed (suc n) r h = by (weighed n) (r.trait == q.trait) refl
      where
        at-own : (b m k s : ℕ) → b ≡ 1 → m ≡ 0 → k ≡ s → (b + m) * suc s ≤ suc k
        at-own b m k s e f g = let x : b + m ≡ 1 = omega (arith, e, f) in let y = ap (λ z. z * suc s) x in omega (arith, y, g)

        above : (b m k s : ℕ) → b ≡ 0 → m * suc s ≤ k → (b + m) * suc s ≤ suc k
        above b m k s e f = let x : b + m ≡ m = omega (arith, e) in let y = ap (λ z. z * suc s) x in omega (arith, y, f)

        by : ((p : Reference) → rank p.trait < n → many q.trait (p ∷ strict_supertraits V p) * suc own ≤ suc (length (strict_supertraits V p))) → (b : Bool) → (r.trait == q.trait) ≡ b
            → many q.trait (r ∷ strict_supertraits V r) * suc own ≤ suc (length (strict_supertraits V r))
        by go true e =
            let i = same-number r.trait q.trait e in
            at-own (once (r.trait == q.trait)) (many q.trait (strict_supertraits V r)) (length (strict_supertraits V r)) own (ap once e) (none-below r i) (as-many r i)
        by go false e = above (once (r.trait == q.trait)) (many q.trait (strict_supertraits V r)) (length (strict_supertraits V r)) own (ap once e) (below-weighed n go r h)

    -- the principal, if there is one, with its supertraits: those of the trait have no more supertraits together than one trait has
    principal-asks : (k : ℕ) → ((r : Reference) → length (strict_supertraits V r) ≤ k) → (rs : List Reference) → length rs ≤ 1 → many q.trait (elaborate V rs) * own ≤ k
    principal-asks k each [] g = at-zero (many q.trait (elaborate V [])) own (elaborated-many q.trait [])
      where
        at-zero : (a s : ℕ) → a ≤ 0 → a * s ≤ k
        at-zero a s h = let x : a ≡ 0 = omega (arith, h) in let y = ap (λ z. z * s) x in omega (arith, y)
    principal-asks k each (p ∷ []) g = by (p.trait == q.trait) refl
      where
        at-own : (a b m n s : ℕ) → a ≤ n → n ≡ (b + m) + 0 → b ≡ 1 → m ≡ 0 → s ≤ k → a * s ≤ k
        at-own a b m n s h i e f l = let y = mul-le a s 1 s (omega (arith, h, i, e, f)) (le_refl s) in omega (arith, y, l)

        above : (a b m n s j : ℕ) → a ≤ n → n ≡ (b + m) + 0 → b ≡ 0 → m * suc s ≤ j → j ≤ k → a * s ≤ k
        above a b m n s j h i e f l = let y = mul-le a s m (suc s) (omega (arith, h, i, e)) (omega arith) in omega (arith, y, f, l)

        by : (b : Bool) → (p.trait == q.trait) ≡ b → many q.trait (elaborate V (p ∷ [])) * own ≤ k
        by true e =
            let i = same-number p.trait q.trait e in
            at-own (many q.trait (elaborate V (p ∷ []))) (once (p.trait == q.trait)) (many q.trait (strict_supertraits V p)) (many q.trait (all_levels V (p ∷ []))) own
            (elaborated-many q.trait (p ∷ [])) (levels-next q.trait p []) (ap once e) (none-below p i) (each q)
        by false e =
            above (many q.trait (elaborate V (p ∷ []))) (once (p.trait == q.trait)) (many q.trait (strict_supertraits V p)) (many q.trait (all_levels V (p ∷ []))) own (length (strict_supertraits V p))
            (elaborated-many q.trait (p ∷ [])) (levels-next q.trait p []) (ap once e) (below-weighed (rank p.trait) (weighed (rank p.trait)) p (omega arith)) (each p)
    principal-asks k each (p ∷ r ∷ rs) g = absurd (omega (arith, g))

    -- the same of the supertraits without repeats
    pub objects-ask : (k : ℕ) → ((r : Reference) → length (strict_supertraits V r) ≤ k) → (rs : List Reference) → length rs ≤ 1 → many q.trait (elaborate V rs) * length (supertraits V q) ≤ k
    objects-ask k each rs g =
        let x = principal-asks k each rs g in
        let y = mul-le (many q.trait (elaborate V rs)) (length (supertraits V q)) (many q.trait (elaborate V rs)) own (le_refl (many q.trait (elaborate V rs))) (supertraits-few V q) in
        omega (arith, x, y)

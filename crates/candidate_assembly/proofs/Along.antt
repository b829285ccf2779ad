-- A plan that considers lists of candidates, one after the other: what it wants after each history.
use Rattle.std.proofs.Common.{◌≡◌, ℕ, suc, Bool, true, false, cond, ◌&&◌, ◌||◌, if◌then◌else◌, List, [], ◌∷◌, ◌++◌, append_assoc, length, refl, sym, ◌∙◌, ap, subst, Option, Some, None, ◌⊎◌, inl, inr}
use Rattle.std.specs.Prelude.{filter, is_some}
use Rattle.std.specs.List.{slice_get, list_any}
use Rattle.goal_evaluator.specs.Lists.{Every}
use Rattle.goal_evaluator.specs.Merge.{or_else}
use Rattle.goal_evaluator.specs.Table.{Tables, workings}
use Rattle.goal_evaluator.specs.Candidate.{Spec, Considered, Next, consider, answer}
use Rattle.goal_evaluator.specs.Plans.{Plan, answers, told, after, wanted, came, each_of, if_refused, first_alone}
use Rattle.candidate_assembly.proofs.Taken.{count, rest_of, AreIn, AreOut, front, past, still-counted, or-none, or-assoc}
use Rattle.type_terms.proofs.ListBasics.{append-none}
use Rattle.type_terms.proofs.BooleanBasics.{or-false}

empty-back : {A : Type 0} (xs ys : List A) → xs ++ ys ≡ [] → ys ≡ []
empty-back [] ys e = e
empty-back (x ∷ xs) ys e = absurd cc

-- ---- counts
module _ {A : Type 0} where
  pub out-behind : (p : A → Bool) (xs ys : List A) → AreOut p ys → count p (xs ++ ys) ≡ count p xs
  out-behind p [] [] o = refl
  out-behind p [] (y ∷ ys) o = ap (λ b. length (cond b (y ∷ filter p ys) (filter p ys))) o.0 ∙ out-behind p [] ys o.1
  out-behind p (x ∷ xs) ys o = by (p x) (out-behind p xs ys o)
    where
      by : (b : Bool) → count p (xs ++ ys) ≡ count p xs → length (cond b (x ∷ filter p (xs ++ ys)) (filter p (xs ++ ys))) ≡ length (cond b (x ∷ filter p xs) (filter p xs))
      by true h = ap suc h
      by false h = h

  pub out-before : (p : A → Bool) (xs ys : List A) → AreOut p xs → count p (xs ++ ys) ≡ count p ys
  out-before p [] ys o = refl
  out-before p (x ∷ xs) ys o = ap (λ b. length (cond b (x ∷ filter p (xs ++ ys)) (filter p (xs ++ ys)))) o.0 ∙ out-before p xs ys o.1

  pub others-out : (p q : A → Bool) → ((x : A) → q x ≡ true → p x ≡ false) → (xs : List A) → AreIn q xs → AreOut p xs
  others-out p q d [] i = tt
  others-out p q d (x ∷ xs) i = (d x i.0, others-out p q d xs i.1)

  pub both : (P : A → Type 0) (xs ys : List A) → Every P xs → Every P ys → Every P (xs ++ ys)
  both P [] ys h g = g
  both P (x ∷ xs) ys h g = (h.0, both P xs ys h.1 g)

  pub count-last : (p : A → Bool) (xs : List A) (x : A) → count p (xs ++ x ∷ []) ≡ count p (x ∷ xs)
  count-last p [] x = refl
  count-last p (y ∷ xs) x = by (p y) (p x) (count-last p xs x)
    where
      by : (b c : Bool) → count p (xs ++ x ∷ []) ≡ length (cond c (x ∷ filter p xs) (filter p xs))
          → length (cond b (y ∷ filter p (xs ++ x ∷ [])) (filter p (xs ++ x ∷ []))) ≡ length (cond c (x ∷ cond b (y ∷ filter p xs) (filter p xs)) (cond b (y ∷ filter p xs) (filter p xs)))
      by true true h = ap suc h
      by true false h = ap suc h
      by false true h = h
      by false false h = h

  -- two sections
  pub chain2 : (p q : A → Bool) → ((x : A) → q x ≡ true → p x ≡ false) → (xs ys : List A) → AreIn p xs → AreIn q ys → (t rest : List A) → t ++ rest ≡ xs ++ ys
      → slice_get rest 0 ≡ or_else (slice_get xs (count p t)) (slice_get ys (count q t))
  chain2 p q d xs ys i j t rest e =
      let h = past p xs ys i (others-out p q d ys j) t rest e in
      let g = past q ys [] j tt (rest_of p t) h.left (h.others ∙ sym (append-none ys)) in
      let nothing : slice_get g.left 0 ≡ None = ap (λ l. slice_get l 0) (empty-back (rest_of q (rest_of p t)) g.left g.others) in
      h.next
      ∙ ap (or_else (slice_get xs (count p t)))
      (g.next ∙ ap (or_else (slice_get ys (count q (rest_of p t)))) nothing ∙ or-none (slice_get ys (count q (rest_of p t))) ∙ ap (slice_get ys) (still-counted p q d t))

  -- four sections
  module _ (pA pB pC pD : A → Bool)
      (ba : (x : A) → pB x ≡ true → pA x ≡ false) (ca : (x : A) → pC x ≡ true → pA x ≡ false) (da : (x : A) → pD x ≡ true → pA x ≡ false)
      (cb : (x : A) → pC x ≡ true → pB x ≡ false) (db : (x : A) → pD x ≡ true → pB x ≡ false) (dc : (x : A) → pD x ≡ true → pC x ≡ false)
      (us vs xs ys : List A) (ia : AreIn pA us) (ib : AreIn pB vs) (ic : AreIn pC xs) (id : AreIn pD ys) where
    pub chain4 : (t rest : List A) → t ++ rest ≡ us ++ (vs ++ (xs ++ ys))
        → slice_get rest 0 ≡ or_else (or_else (slice_get us (count pA t)) (slice_get vs (count pB t))) (or_else (slice_get xs (count pC t)) (slice_get ys (count pD t)))
    chain4 t rest e =
        let outs : AreOut pA (vs ++ (xs ++ ys)) = both (λ x. pA x ≡ false) vs (xs ++ ys) (others-out pA pB ba vs ib) (both (λ x. pA x ≡ false) xs ys (others-out pA pC ca xs ic) (others-out pA pD da ys id)) in
        let h = past pA us (vs ++ (xs ++ ys)) ia outs t rest e in
        let t1 = rest_of pA t in
        let outs2 : AreOut pB (xs ++ ys) = both (λ x. pB x ≡ false) xs ys (others-out pB pC cb xs ic) (others-out pB pD db ys id) in
        let g = past pB vs (xs ++ ys) ib outs2 t1 h.left h.others in
        let t2 = rest_of pB t1 in
        let k = chain2 pC pD dc xs ys ic id t2 g.left g.others in
        let nc : count pC t2 ≡ count pC t = still-counted pB pC cb t1 ∙ still-counted pA pC ca t in
        let nd : count pD t2 ≡ count pD t = still-counted pB pD db t1 ∙ still-counted pA pD da t in
        h.next
        ∙ ap (or_else (slice_get us (count pA t)))
        (g.next ∙ ap (λ n. or_else (slice_get vs n) (slice_get g.left 0)) (still-counted pA pB ba t)
        ∙ ap (or_else (slice_get vs (count pB t))) (k ∙ ap (λ n. or_else (slice_get xs n) (slice_get ys (count pD t2))) nc ∙ ap (λ n. or_else (slice_get xs (count pC t)) (slice_get ys n)) nd))
        ∙ or-assoc (slice_get us (count pA t)) (slice_get vs (count pB t)) (or_else (slice_get xs (count pC t)) (slice_get ys (count pD t)))

-- ---- along plans
module _ {Question Response : Type 0} (T : Tables Question Response) where
  abbrev Past : Type 0
  Past = List (Considered (workings T))

  abbrev Way : Type 0
  Way = Plan T

  -- each candidate was the one that the plan wanted
  abbrev pub Follows : Way → Past → Type 0
  Follows p [] = Unit {0}
  Follows p (c ∷ seen) = (wanted T (after T p seen) ≡ consider c.spec) × Follows p seen

  -- the candidates, the oldest first
  abbrev pub specs_of : Past → List (Spec (workings T))
  specs_of [] = []
  specs_of (c ∷ seen) = specs_of seen ++ c.spec ∷ []

  pub specs-append : (later earlier : Past) → specs_of (later ++ earlier) ≡ specs_of earlier ++ specs_of later
  specs-append [] earlier = sym (append-none (specs_of earlier))
  specs-append (c ∷ later) earlier = ap (λ l. l ++ c.spec ∷ []) (specs-append later earlier) ∙ append_assoc (specs_of earlier) (specs_of later) (c.spec ∷ [])

  pub count-specs : (p : (Spec (workings T)) → Bool) (seen : Past) → count p (specs_of seen) ≡ count (λ (c : Considered (workings T)). p c.spec) seen
  count-specs p [] = refl
  count-specs p (c ∷ seen) = count-last p (specs_of seen) c.spec ∙ by (p c.spec) (count-specs p seen)
    where
      by : (b : Bool) → count p (specs_of seen) ≡ count (λ (d : Considered (workings T)). p d.spec) seen
          → length (cond b (c.spec ∷ filter p (specs_of seen)) (filter p (specs_of seen))) ≡ length (cond b (c ∷ filter (λ (d : Considered (workings T)). p d.spec) seen) (filter (λ (d : Considered (workings T)). p d.spec) seen))
      by true h = ap suc h
      by false h = h

  abbrev spec_in : (Spec (workings T)) → Next (workings T) → (Spec (workings T))
  spec_in s (consider c) = c
  spec_in s (answer a ignored) = s

  pub same-considered : (s : Spec (workings T)) (c : Considered (workings T)) → s ≡ c.spec → came T s c.response c.number ≡ c
  same-considered s c e = ap (λ z. came T z c.response c.number) e

  after-answer : (a : Option Response) (ns : List ℕ) (seen : Past) → after T (answers a ns) seen ≡ answers a ns
  after-answer a ns [] = refl
  after-answer a ns (c ∷ seen) = ap (told T c) (after-answer a ns seen)

  -- a plan that has answered considers nothing more
  pub nothing-more : (a : Option Response) (ns : List ℕ) (seen : Past) → Follows (answers a ns) seen → seen ≡ []
  nothing-more a ns [] f = refl
  nothing-more a ns (c ∷ seen) f =
      let bad : ◌≡◌ {A = Next (workings T)} (answer a ns) (consider c.spec) = sym (ap (wanted T) (after-answer a ns seen)) ∙ f.0 in
      absurd cc

  -- ---- a list of candidates
  module _ (specs : List (Spec (workings T))) (go : Past → Way) (pre : Past) where
    -- some are left, or all were considered and it went on
    pub record Within (seen : Past) : Type 0 where
      pub left : List (Spec (workings T))
      pub taken : specs_of seen ++ left ≡ specs
      pub is : after T (each_of T specs go pre) seen ≡ each_of T left go (seen ++ pre)

    pub record Beyond (seen : Past) : Type 0 where
      pub later : Past
      pub earlier : Past
      pub split : later ++ earlier ≡ seen
      pub taken : specs_of earlier ≡ specs
      pub is : after T (each_of T specs go pre) seen ≡ after T (go (earlier ++ pre)) later
      pub follows : Follows (go (earlier ++ pre)) later

    step-within : (c : Considered (workings T)) (seen : Past) (left : List (Spec (workings T))) → specs_of seen ++ left ≡ specs → after T (each_of T specs go pre) seen ≡ each_of T left go (seen ++ pre)
        → wanted T (after T (each_of T specs go pre) seen) ≡ consider c.spec → Within (c ∷ seen) ⊎ Beyond (c ∷ seen)
    step-within c seen [] t e w =
        inr (record {
          later = c ∷ [];
          earlier = seen;
          split = refl;
          taken = sym (append-none (specs_of seen)) ∙ t;
          is = ap (told T c) e;
          follows = (sym (ap (wanted T) e) ∙ w, tt);
        })
    step-within c seen (s ∷ left) t e w =
        let same : s ≡ c.spec = ap (spec_in s) (sym (ap (wanted T) e) ∙ w) in
        inl (record {
          left = left;
          taken = append_assoc (specs_of seen) (c.spec ∷ []) left ∙ ap (λ z. specs_of seen ++ z ∷ left) (sym same) ∙ t;
          is = ap (told T c) e ∙ ap (λ z. each_of T left go (z ∷ (seen ++ pre))) (same-considered s c same);
        })

    pub along : (seen : Past) → Follows (each_of T specs go pre) seen → Within seen ⊎ Beyond seen
    along [] f = inl (record { left = specs; taken = refl; is = refl })
    along (c ∷ seen) f = by (along seen f.1)
      where
        by : Within seen ⊎ Beyond seen → Within (c ∷ seen) ⊎ Beyond (c ∷ seen)
        by (inl w) = step-within c seen w.left w.taken w.is f.0
        by (inr b) =
            inr (record {
              later = c ∷ b.later;
              earlier = b.earlier;
              split = ap (λ l. c ∷ l) b.split;
              taken = b.taken;
              is = ap (told T c) b.is;
              follows = (sym (ap (wanted T) b.is) ∙ f.0, b.follows);
            })

  abbrev pub chosen : Option (Spec (workings T)) → Next (workings T) → Next (workings T)
  chosen (Some s) end = consider s
  chosen None end = end

  -- the plan answers
  pub record Answers (p : Way) : Type 0 where
    pub response : Option Response
    pub ignored : List ℕ
    pub is : p ≡ answers response ignored

  -- a list of candidates before an answer
  pub record IsThere (specs : List (Spec (workings T))) (end : Past → Way) (pre seen : Past) (next : Next (workings T)) : Type 0 where
    pub left : List (Spec (workings T))
    pub taken : specs_of seen ++ left ≡ specs
    pub is : next ≡ chosen (slice_get left 0) (wanted T (end (seen ++ pre)))

  module _ (end : Past → Way) (ends : (seen : Past) → Answers (end seen)) where
    at-left : (left : List (Spec (workings T))) (seen : Past) → wanted T (each_of T left end seen) ≡ chosen (slice_get left 0) (wanted T (end seen))
    at-left [] seen = refl
    at-left (s ∷ left) seen = refl

    later-none : (later before : Past) → Follows (end before) later → later ≡ []
    later-none later before f = let a = ends before in nothing-more a.response a.ignored later (subst (λ p. Follows p later) a.is f)

    pub before-answer : (specs : List (Spec (workings T))) (pre seen : Past) → Follows (each_of T specs end pre) seen
        → IsThere specs end pre seen (wanted T (after T (each_of T specs end pre) seen))
    before-answer specs pre seen f = by (along specs end pre seen f)
      where
        by : Within specs end pre seen ⊎ Beyond specs end pre seen → IsThere specs end pre seen (wanted T (after T (each_of T specs end pre) seen))
        by (inl w) = record { left = w.left; taken = w.taken; is = ap (wanted T) w.is ∙ at-left w.left (seen ++ pre) }
        by (inr b) =
            let none = later-none b.later (b.earlier ++ pre) b.follows in
            let same : b.earlier ≡ seen = ap (λ l. l ++ b.earlier) (sym none) ∙ b.split in
            record {
              left = [];
              taken = append-none (specs_of seen) ∙ ap specs_of (sym same) ∙ b.taken;
              is = ap (wanted T) (b.is ∙ ap (after T (end (b.earlier ++ pre))) none ∙ ap (λ l. end (l ++ pre)) same);
            }

-- ---- four sections of candidates
module _ {Question Response : Type 0} (T : Tables Question Response) (pU pA pB pC pD : Spec (workings T) → Bool)
    (ba : (x : Spec (workings T)) → pB x ≡ true → pA x ≡ false) (ca : (x : Spec (workings T)) → pC x ≡ true → pA x ≡ false) (da : (x : Spec (workings T)) → pD x ≡ true → pA x ≡ false)
    (cb : (x : Spec (workings T)) → pC x ≡ true → pB x ≡ false) (db : (x : Spec (workings T)) → pD x ≡ true → pB x ≡ false) (dc : (x : Spec (workings T)) → pD x ≡ true → pC x ≡ false)
    (ac : (x : Spec (workings T)) → pA x ≡ true → pC x ≡ false) (ad : (x : Spec (workings T)) → pA x ≡ true → pD x ≡ false)
    (bc : (x : Spec (workings T)) → pB x ≡ true → pC x ≡ false) (bd : (x : Spec (workings T)) → pB x ≡ true → pD x ≡ false)
    (us vs xs ys : List (Spec (workings T))) (ia : AreIn pA us) (ib : AreIn pB vs) (ic : AreIn pC xs) (id : AreIn pD ys) where
  -- so many of a section were considered
  abbrev pub considered : ((Spec (workings T)) → Bool) → List (Considered (workings T)) → ℕ
  considered p seen = count (λ (c : Considered (workings T)). p c.spec) seen

  abbrev pub early : List (Considered (workings T)) → Option (Spec (workings T))
  early seen = or_else (slice_get us (considered pA seen)) (slice_get vs (considered pB seen))

  abbrev pub late : List (Considered (workings T)) → Option (Spec (workings T))
  late seen = or_else (slice_get xs (considered pC seen)) (slice_get ys (considered pD seen))

  abbrev pub held : List (Considered (workings T)) → Bool
  held seen = list_any (λ (c : Considered (workings T)). pU c.spec && is_some c.response) seen

  -- the same, of the candidates alone
  abbrev early_of : List (Spec (workings T)) → Option (Spec (workings T))
  early_of t = or_else (slice_get us (count pA t)) (slice_get vs (count pB t))

  abbrev late_of : List (Spec (workings T)) → Option (Spec (workings T))
  late_of t = or_else (slice_get xs (count pC t)) (slice_get ys (count pD t))

  early-is : (seen : List (Considered (workings T))) → early_of (specs_of T seen) ≡ early seen
  early-is seen = ap (λ n. or_else (slice_get us n) (slice_get vs (count pB (specs_of T seen)))) (count-specs T pA seen) ∙ ap (λ n. or_else (slice_get us (considered pA seen)) (slice_get vs n)) (count-specs T pB seen)

  late-is : (seen : List (Considered (workings T))) → late_of (specs_of T seen) ≡ late seen
  late-is seen = ap (λ n. or_else (slice_get xs n) (slice_get ys (count pD (specs_of T seen)))) (count-specs T pC seen) ∙ ap (λ n. or_else (slice_get xs (considered pC seen)) (slice_get ys n)) (count-specs T pD seen)

  all-out : (p : (Spec (workings T)) → Bool) → AreOut p us → AreOut p vs → AreOut p xs → AreOut p ys → AreOut p (us ++ (vs ++ (xs ++ ys)))
  all-out p a b c d = both (λ s. p s ≡ false) us (vs ++ (xs ++ ys)) a (both (λ s. p s ≡ false) vs (xs ++ ys) b (both (λ s. p s ≡ false) xs ys c d))

  late-out-a : AreOut pA (xs ++ ys)
  late-out-a = both (λ s. pA s ≡ false) xs ys (others-out pA pC ca xs ic) (others-out pA pD da ys id)

  late-out-b : AreOut pB (xs ++ ys)
  late-out-b = both (λ s. pB s ≡ false) xs ys (others-out pB pC cb xs ic) (others-out pB pD db ys id)

  early-out-c : AreOut pC (us ++ vs)
  early-out-c = both (λ s. pC s ≡ false) us vs (others-out pC pA ac us ia) (others-out pC pB bc vs ib)

  early-out-d : AreOut pD (us ++ vs)
  early-out-d = both (λ s. pD s ≡ false) us vs (others-out pD pA ad us ia) (others-out pD pB bd vs ib)

  module _ (end : List (Considered (workings T)) → Plan T) (ends : (seen : List (Considered (workings T))) → Answers T (end seen)) where
    abbrev finish : List (Considered (workings T)) → Next (workings T)
    finish seen = wanted T (end seen)

    abbrev pick : Option (Spec (workings T)) → List (Considered (workings T)) → Next (workings T)
    pick o seen = chosen T o (finish seen)

    -- ---- outside coherence: the later sections only where nothing is settled
    module _ (settled : List (Considered (workings T)) → Bool) (quiet : (Spec (workings T)) → Bool)
        (stays : (c : Considered (workings T)) (seen : List (Considered (workings T))) → quiet c.spec ≡ true → settled (c ∷ seen) ≡ settled seen) (still : AreIn quiet (xs ++ ys)) where
      abbrev goes : List (Considered (workings T)) → Plan T
      goes seen = if settled seen then end seen else each_of T (xs ++ ys) end seen

      abbrev pub outside : List (Considered (workings T)) → Option (Spec (workings T))
      outside seen = or_else (early seen) (if settled seen then None else late seen)

      settled-still : (later earlier : List (Considered (workings T))) → AreIn quiet (specs_of T later) → settled (later ++ earlier) ≡ settled earlier
      settled-still [] earlier q = refl
      settled-still (c ∷ later) earlier q =
          stays c (later ++ earlier) (last-in (specs_of T later) c.spec q) ∙ settled-still later earlier (front (λ s. quiet s ≡ true) (specs_of T later) (c.spec ∷ []) q)
        where
          last-in : (ss : List (Spec (workings T))) (s : Spec (workings T)) → AreIn quiet (ss ++ s ∷ []) → quiet s ≡ true
          last-in [] s i = i.0
          last-in (z ∷ ss) s i = last-in ss s i.1

      -- all of the early sections were considered
      early-over : (earlier : List (Considered (workings T))) (later : List (Spec (workings T))) → specs_of T earlier ≡ us ++ vs → AreOut pA later → AreOut pB later
          → early_of (specs_of T earlier ++ later) ≡ None
      early-over earlier later t oa ob =
          ap (λ n. or_else (slice_get us n) (slice_get vs (count pB (specs_of T earlier ++ later)))) (out-behind pA (specs_of T earlier) later oa)
          ∙ ap (λ n. or_else (slice_get us (count pA (specs_of T earlier))) (slice_get vs n)) (out-behind pB (specs_of T earlier) later ob)
          ∙ sym (chain2 pA pB ba us vs ia ib (specs_of T earlier) [] (append-none (specs_of T earlier) ∙ t))

      beyond-next : (earlier later : List (Considered (workings T))) → specs_of T earlier ≡ us ++ vs → Follows T (goes earlier) later
          → wanted T (after T (goes earlier) later) ≡ pick (outside (later ++ earlier)) (later ++ earlier)
      beyond-next earlier later t f = by (settled earlier) refl f
        where
          by : (b : Bool) → settled earlier ≡ b → Follows T (if b then end earlier else each_of T (xs ++ ys) end earlier) later
              → wanted T (after T (if b then end earlier else each_of T (xs ++ ys) end earlier) later) ≡ pick (outside (later ++ earlier)) (later ++ earlier)
          by true e g =
              let a = ends earlier in
              let none = nothing-more T a.response a.ignored later (subst (λ p. Follows T p later) a.is g) in
              let over : early earlier ≡ None = sym (early-is earlier) ∙ ap early_of (sym (append-none (specs_of T earlier))) ∙ early-over earlier [] t tt tt in
              ap (λ l. wanted T (after T (end earlier) l)) none
              ∙ sym (ap (λ l. pick (outside (l ++ earlier)) (l ++ earlier)) none
              ∙ ap (λ o. pick (or_else o (if settled earlier then None else late earlier)) earlier) over
              ∙ ap (λ (b : Bool). pick (if b then None else late earlier) earlier) e)
          by false e g =
              let h = before-answer T end ends (xs ++ ys) earlier later g in
              let taken_late = specs_of T later in
              let all = specs-append T later earlier in
              let oa : AreOut pA taken_late = front (λ s. pA s ≡ false) taken_late h.left (subst (AreOut pA) (sym h.taken) late-out-a) in
              let ob : AreOut pB taken_late = front (λ s. pB s ≡ false) taken_late h.left (subst (AreOut pB) (sym h.taken) late-out-b) in
              let oc : AreOut pC (specs_of T earlier) = subst (AreOut pC) (sym t) early-out-c in
              let od : AreOut pD (specs_of T earlier) = subst (AreOut pD) (sym t) early-out-d in
              let over : early (later ++ earlier) ≡ None = sym (early-is (later ++ earlier)) ∙ ap early_of all ∙ early-over earlier taken_late t oa ob in
              let unsettled : settled (later ++ earlier) ≡ false = settled-still later earlier (front (λ s. quiet s ≡ true) taken_late h.left (subst (AreIn quiet) (sym h.taken) still)) ∙ e in
              let next : slice_get h.left 0 ≡ late (later ++ earlier) =
              chain2 pC pD dc xs ys ic id taken_late h.left h.taken
              ∙ sym (ap (λ n. or_else (slice_get xs n) (slice_get ys (count pD taken_late))) (out-before pC (specs_of T earlier) taken_late oc))
              ∙ sym (ap (λ n. or_else (slice_get xs (count pC (specs_of T earlier ++ taken_late))) (slice_get ys n)) (out-before pD (specs_of T earlier) taken_late od))
              ∙ ap late_of (sym all) ∙ late-is (later ++ earlier) in
              h.is ∙ ap (λ o. pick o (later ++ earlier)) next
              ∙ sym (ap (λ o. pick (or_else o (if settled (later ++ earlier) then None else late (later ++ earlier))) (later ++ earlier)) over
              ∙ ap (λ (b : Bool). pick (if b then None else late (later ++ earlier)) (later ++ earlier)) unsettled)

      pub outside-next : (seen : List (Considered (workings T))) → Follows T (each_of T (us ++ vs) goes []) seen
          → wanted T (after T (each_of T (us ++ vs) goes []) seen) ≡ pick (outside seen) seen
      outside-next seen f = by (along T (us ++ vs) goes [] seen f)
        where
          plan : Plan T
          plan = each_of T (us ++ vs) goes []

          within : (left : List (Spec (workings T))) → specs_of T seen ++ left ≡ us ++ vs → after T plan seen ≡ each_of T left goes (seen ++ [])
              → wanted T (after T plan seen) ≡ pick (outside seen) seen
          within [] t e =
              ap (wanted T) e ∙ ap (λ l. wanted T (goes l)) (append-none seen)
              ∙ beyond-next seen [] (sym (append-none (specs_of T seen)) ∙ t) tt
          within (s ∷ left) t e =
              let first : early seen ≡ Some s = sym (early-is seen) ∙ sym (chain2 pA pB ba us vs ia ib (specs_of T seen) (s ∷ left) t) in
              ap (wanted T) e ∙ sym (ap (λ o. pick (or_else o (if settled seen then None else late seen)) seen) first)

          by : Within T (us ++ vs) goes [] seen ⊎ Beyond T (us ++ vs) goes [] seen → wanted T (after T plan seen) ≡ pick (outside seen) seen
          by (inl w) = within w.left w.taken w.is
          by (inr b) =
              let same = append-none b.earlier in
              ap (wanted T) b.is ∙ ap (λ l. wanted T (after T (goes l) b.later)) same
              ∙ beyond-next b.earlier b.later b.taken (subst (λ l. Follows T (goes l) b.later) same b.follows)
              ∙ ap (λ l. pick (outside l) l) b.split

    -- ---- in coherence: all sections, behind what other crates may say
    module _ (ua : (x : Spec (workings T)) → pA x ≡ true → pU x ≡ false) (ub : (x : Spec (workings T)) → pB x ≡ true → pU x ≡ false) (uc : (x : Spec (workings T)) → pC x ≡ true → pU x ≡ false) (ud : (x : Spec (workings T)) → pD x ≡ true → pU x ≡ false) where
      abbrev all : List (Spec (workings T))
      all = us ++ (vs ++ (xs ++ ys))

      abbrev pub inside : List (Considered (workings T)) → Option (Spec (workings T))
      inside seen = if held seen then None else or_else (early seen) (late seen)

      none-held : AreOut pU all
      none-held = all-out pU (others-out pU pA ua us ia) (others-out pU pB ub vs ib) (others-out pU pC uc xs ic) (others-out pU pD ud ys id)

      held-of : (seen earlier : List (Considered (workings T))) → AreOut pU (specs_of T seen) → held (seen ++ earlier) ≡ held earlier
      held-of [] earlier o = refl
      held-of (c ∷ seen) earlier o =
          ap (λ b. (b && is_some c.response) || held (seen ++ earlier)) (last-out (specs_of T seen) c.spec o)
          ∙ held-of seen earlier (front (λ s. pU s ≡ false) (specs_of T seen) (c.spec ∷ []) o)
        where
          last-out : (ss : List (Spec (workings T))) (s : Spec (workings T)) → AreOut pU (ss ++ s ∷ []) → pU s ≡ false
          last-out [] s i = i.0
          last-out (z ∷ ss) s i = last-out ss s i.1

      sections : (t left : List (Spec (workings T))) → t ++ left ≡ all → slice_get left 0 ≡ or_else (early_of t) (late_of t)
      sections t left e = chain4 pA pB pC pD ba ca da cb db dc us vs xs ys ia ib ic id t left e

      pub known-next : (seen : List (Considered (workings T))) → Follows T (each_of T all end []) seen
          → wanted T (after T (each_of T all end []) seen) ≡ pick (inside seen) seen
      known-next seen f =
          let h = before-answer T end ends all [] seen f in
          let out : AreOut pU (specs_of T seen) = front (λ s. pU s ≡ false) (specs_of T seen) h.left (subst (AreOut pU) (sym h.taken) none-held) in
          let none : held seen ≡ false = ap held (sym (append-none seen)) ∙ held-of seen [] out in
          h.is ∙ ap (λ l. chosen T (slice_get h.left 0) (finish l)) (append-none seen)
          ∙ ap (λ o. pick o seen) (sections (specs_of T seen) h.left h.taken ∙ ap (λ o. or_else o (late_of (specs_of T seen))) (early-is seen) ∙ ap (or_else (early seen)) (late-is seen))
          ∙ sym (ap (λ (b : Bool). pick (if b then None else or_else (early seen) (late seen)) seen) none)

      module _ (u : Spec (workings T)) (iu : pU u ≡ true) (na : pA u ≡ false) (nb : pB u ≡ false) (nc : pC u ≡ false) (nd : pD u ≡ false) where
        abbrev refused : List (Considered (workings T)) → Plan T
        refused seen = each_of T all end seen

        abbrev whole : Plan T
        whole = first_alone T u refused end []

        abbrev pub begun : List (Considered (workings T)) → Option (Spec (workings T))
        begun [] = Some u
        begun (c ∷ seen) = inside (c ∷ seen)

        abbrev behind : Considered (workings T) → Plan T
        behind c = if_refused T (refused (c ∷ [])) (end (c ∷ [])) c.response

        record IsBehind (seen : List (Considered (workings T))) : Type 0 where
          pub later : List (Considered (workings T))
          pub first : Considered (workings T)
          pub split : later ++ first ∷ [] ≡ seen
          pub spec : first.spec ≡ u
          pub is : after T whole seen ≡ after T (behind first) later
          pub follows : Follows T (behind first) later

        first-is : (c : Considered (workings T)) → wanted T whole ≡ consider c.spec → IsBehind (c ∷ [])
        first-is c w =
            let same : u ≡ c.spec = ap (spec_in T u) w in
            record {
              later = [];
              first = c;
              split = refl;
              spec = sym same;
              is = ap (λ z. if_refused T (refused (z ∷ [])) (end (z ∷ [])) c.response) (same-considered T u c same);
              follows = tt;
            }

        along-first : (c : Considered (workings T)) (seen : List (Considered (workings T))) → Follows T whole (c ∷ seen) → IsBehind (c ∷ seen)
        along-first c [] f = first-is c f.0
        along-first c (d ∷ seen) f =
            let h = along-first d seen f.1 in
            record {
              later = c ∷ h.later;
              first = h.first;
              split = ap (λ l. c ∷ l) h.split;
              spec = h.spec;
              is = ap (told T c) h.is;
              follows = (sym (ap (wanted T) h.is) ∙ f.0, h.follows);
            }

        held-first : (c : Considered (workings T)) → c.spec ≡ u → held (c ∷ []) ≡ is_some c.response
        held-first c e = ap (λ b. (b && is_some c.response) || false) (ap pU e ∙ iu) ∙ or-false (is_some c.response)

        -- what was considered behind the first counts as if it were not there
        skips : (p : (Spec (workings T)) → Bool) → p u ≡ false → (c : Considered (workings T)) → c.spec ≡ u → (later : List (Considered (workings T))) → count p (specs_of T (later ++ c ∷ [])) ≡ count p (specs_of T later)
        skips p o c e later = ap (count p) (specs-append T later (c ∷ [])) ∙ out-before p (specs_of T (c ∷ [])) (specs_of T later) (ap p e ∙ o, tt)

        behind-next : (c : Considered (workings T)) (later : List (Considered (workings T))) → c.spec ≡ u → Follows T (behind c) later
            → wanted T (after T (behind c) later) ≡ pick (inside (later ++ c ∷ [])) (later ++ c ∷ [])
        behind-next c later e f = by c.response refl f
          where
            by : (r : Option Response) → c.response ≡ r → Follows T (if_refused T (refused (c ∷ [])) (end (c ∷ [])) r) later
                → wanted T (after T (if_refused T (refused (c ∷ [])) (end (c ∷ [])) r) later) ≡ pick (inside (later ++ c ∷ [])) (later ++ c ∷ [])
            by (Some r) q g =
                let a = ends (c ∷ []) in
                let none = nothing-more T a.response a.ignored later (subst (λ p. Follows T p later) a.is g) in
                let holds : held (c ∷ []) ≡ true = held-first c e ∙ ap is_some q in
                ap (λ l. wanted T (after T (end (c ∷ [])) l)) none
                ∙ sym (ap (λ l. pick (inside (l ++ c ∷ [])) (l ++ c ∷ [])) none ∙ ap (λ (b : Bool). pick (if b then None else or_else (early (c ∷ [])) (late (c ∷ []))) (c ∷ [])) holds)
            by None q g =
                let h = before-answer T end ends all (c ∷ []) later g in
                let t = specs_of T later in
                let seen = later ++ c ∷ [] in
                let out : AreOut pU t = front (λ s. pU s ≡ false) t h.left (subst (AreOut pU) (sym h.taken) none-held) in
                let none : held seen ≡ false = held-of later (c ∷ []) out ∙ held-first c e ∙ ap is_some q in
                let first : early_of t ≡ early seen =
                sym (ap (λ n. or_else (slice_get us n) (slice_get vs (count pB (specs_of T seen)))) (skips pA na c e later) ∙ ap (λ n. or_else (slice_get us (count pA t)) (slice_get vs n)) (skips pB nb c e later))
                ∙ early-is seen in
                let second : late_of t ≡ late seen =
                sym (ap (λ n. or_else (slice_get xs n) (slice_get ys (count pD (specs_of T seen)))) (skips pC nc c e later) ∙ ap (λ n. or_else (slice_get xs (count pC t)) (slice_get ys n)) (skips pD nd c e later))
                ∙ late-is seen in
                h.is ∙ ap (λ o. pick o seen) (sections t h.left h.taken ∙ ap (λ o. or_else o (late_of t)) first ∙ ap (or_else (early seen)) second)
                ∙ sym (ap (λ (b : Bool). pick (if b then None else or_else (early seen) (late seen)) seen) none)

        pub unknown-next : (seen : List (Considered (workings T))) → Follows T whole seen → wanted T (after T whole seen) ≡ pick (begun seen) seen
        unknown-next [] f = refl
        unknown-next (c ∷ seen) f =
            let h = along-first c seen f in
            ap (wanted T) h.is ∙ behind-next h.first h.later h.spec h.follows ∙ ap (λ l. pick (inside l) l) h.split

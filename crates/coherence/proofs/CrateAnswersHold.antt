-- The line of a crate, and what it promises, as a verdict has it.
use Rattle.std.proofs.Common.{◌≡◌, ℕ, zero, suc, ◌+◌, ◌≤◌, Bool, true, false, ◌&&◌, ◌==◌, not, cond, List, [], ◌∷◌, ◌++◌, filter, Some, None, Ok, codes, append_assoc, refl, sym, ap, ◌∙◌, subst, arith}
use Rattle.std.specs.Prelude.{find, slice_get}
use Rattle.std.specs.Fmt.{decimal}
use Rattle.std.specs.Option.{option_map, option_map_or}
use Rattle.std.proofs.lemmas.Option.{same_Some}
use Rattle.sessions.specs.TypeTerms.Promised.Erased.{erased_impl, erased_world}
use Rattle.sessions.specs.TypeTerms.Promised.Trees.{erase}
use Rattle.sessions.specs.TypeTerms.Promised.Proofs.{In}
use Rattle.sessions.specs.TypeTerms.Promised.Walks.{keeps_orphan_rule}
use Rattle.sessions.specs.TypeTerms.Promised.Worlds.{World, ImplDecl, sees, core}
use Rattle.sessions.proofs.TypeTerms.Members.{in-filter, filter-in, same-number, self-number, so-false}
use Rattle.sessions.proofs.TypeTerms.Walking.{left, right}
use Rattle.sessions.specs.TextLanguage.Promised.Declarations.{Declarations, NamedImpl, world_of}
use Rattle.sessions.specs.TextLanguage.Output.{answer_text, crate_start, before_text}
use Rattle.sessions.specs.TypeTerms.Promised.OrphanErrors.{OrphanError, nonlocal, uncovered, orphan_error}
use Rattle.sessions.specs.TypeTerms.Promised.OpenedHeaders.{opened}
use Rattle.sessions.specs.TypeTerms.Promised.Verdicts as verdicts
use Rattle.sessions.specs.TypeTerms.Promised.Verdicts.{IsAccepted}
use Rattle.coherence.specs.Lines.{header_text, orphan_line, verdict_line}
use Rattle.coherence.specs.Promised.CrateAnswers.{crate_text, impl_home, number_in_crate}
use Rattle.sessions.specs.Promised.Promises.{view_in, IsVerdictOf}
use Rattle.sessions.specs.Promised.Subjects.{IsOfText}
use Rattle.coherence.specs.Promised.CrateAnswers.{orphan_reason, first_orphan, CrateAnswer, is_accepted, is_orphan, is_overlap}
use Rattle.sessions.proofs.TextLowering.Tests.{is_good_impl}
use Rattle.coherence.proofs.HeaderNames.{KnowsParams, AllOk}
use Rattle.sessions.proofs.TextLowering.Texts.{texts-are-well}
use Rattle.sessions.proofs.TypeTerms.NoHolds.{member-each}
use Rattle.coherence.proofs.ImplParams.{unmapped, knows, header-ok}
use Rattle.sessions.proofs.KeptTexts.{texts-are-kept}
use Rattle.coherence.proofs.OrphanReasons.{params_at, error_text, reason-is}
use Rattle.sessions.proofs.TextLanguage.SameTexts.{text-gives}

-- ---- an impl that a crate sees, in the text
numbered : (d : Declarations) → IsOfText d → (k : ℕ) (x : NamedImpl) → slice_get d.impls k ≡ Some x → x.item.name ≡ k
numbered d (bytes, t) = (texts-are-kept bytes d (text-gives bytes (Ok d) t)).kept.impl_numbers

-- as it stands there without its lifetimes
pub erased : (d : Declarations) (c : ℕ) (i : ImplDecl) → IsOfText d → In i (view_in d c).impls → (n : NamedImpl) × (slice_get d.impls i.name ≡ Some n) × (erased_impl n.item ≡ i)
erased d c i t h =
    let W = erased_world (world_of d) in
    let seen = in-filter (λ (x : ImplDecl). sees W c x.home) W.impls i h in
    let plain = unmapped erased_impl (world_of d).impls seen.0.0 i seen.0.1 in
    let named = unmapped (λ (x : NamedImpl). x.item) d.impls seen.0.0 plain.0 plain.1 in
    let number : seen.0.0 ≡ i.name = sym (numbered d t seen.0.0 named.0 named.1) ∙ ap (λ (x : ImplDecl). x.name) named.2 ∙ ap (λ (x : ImplDecl). x.name) plain.2 in
    (named.0, subst (λ k. slice_get d.impls k ≡ Some named.0) number named.1, ap erased_impl named.2 ∙ plain.2)

home-at : (d : Declarations) (i : ImplDecl) (n : NamedImpl) → slice_get d.impls i.name ≡ Some n → n.item.home ≡ i.home → impl_home d i.name ≡ i.home
home-at d i n e h = ap (λ o. option_map_or (λ (x : NamedImpl). x.item.home) o core) e ∙ h

-- ---- the first that breaks the rule
found-least : (p : ImplDecl → Bool) (xs : List ImplDecl) (n : ℕ) → ((k : ℕ) (x : ImplDecl) → slice_get xs k ≡ Some x → x.name ≡ n + k) → (i : ImplDecl) → In i xs → p i ≡ true
    → ((x : ImplDecl) → In x xs → p x ≡ true → i.name ≤ x.name) → find p xs ≡ Some i
found-least p [] n h i (k, e) t least = absurd cc
found-least p (x ∷ xs) n h i at t least = by (p x) refl at (λ k f. found-least p xs (suc n) (λ j y g. h (suc j) y g ∙ more j) i (k, f) t (λ y m q. least y (suc m.0, m.1) q))
  where
    more : (k : ℕ) → n + suc k ≡ suc n + k
    more k = omega arith

    clash : (b : Bool) → b ≡ false → b ≡ true → ⊥
    clash b q r = cc

    by : (b : Bool) → p x ≡ b → In i (x ∷ xs) → ((k : ℕ) → slice_get xs k ≡ Some i → find p xs ≡ Some i) → cond b (Some x) (find p xs) ≡ Some i
    by true e (zero, f) r = f
    by true e (suc k, f) r = let l = least x (0, refl) e in let a = h (suc k) i f in let b = h 0 x refl in absurd (omega (arith, l, a, b))
    by false e (zero, f) r = absurd (clash (p x) e (ap p (same_Some x i f) ∙ t))
    by false e (suc k, f) r = r k f

none-found : {A : Type 0} (p : A → Bool) (xs : List A) → ((x : A) → In x xs → p x ≡ false) → find p xs ≡ None
none-found p [] h = refl
none-found p (x ∷ xs) h = ap (λ b. cond b (Some x) (find p xs)) (h x (0, refl)) ∙ none-found p xs (λ y m. h y (suc m.0, m.1))

none-passes : {A : Type 0} (p : A → Bool) (xs : List A) (x : A) → find p xs ≡ None → In x xs → p x ≡ false
none-passes p [] x h (k, e) = absurd cc
none-passes p (y ∷ ys) x h m = by (p y) refl h m (none-passes p ys x)
  where
    by : (b : Bool) → p y ≡ b → cond b (Some y) (find p ys) ≡ None → In x (y ∷ ys) → (find p ys ≡ None → In x ys → p x ≡ false) → p x ≡ false
    by true s g m r = absurd cc
    by false s g (zero, e) r = subst (λ z. p z ≡ false) (same_Some y x e) s
    by false s g (suc k, e) r = r g (k, e)

filtered-find : {A : Type 0} (p q : A → Bool) (xs : List A) → find p (filter q xs) ≡ find (λ x. q x && p x) xs
filtered-find p q [] = refl
filtered-find p q (x ∷ xs) = by (q x) (filtered-find p q xs)
  where
    by : (a : Bool) → find p (filter q xs) ≡ find (λ y. q y && p y) xs → find p (cond a (x ∷ filter q xs) (filter q xs)) ≡ cond (a && p x) (Some x) (find (λ y. q y && p y) xs)
    by true e = ap (cond (p x) (Some x)) e
    by false e = e

both-true : (a b : Bool) → a ≡ true → b ≡ true → a && b ≡ true
both-true a b e f = cc

not-false : (b : Bool) → b ≡ false → not b ≡ true
not-false b e = cc

not-true : (b : Bool) → not b ≡ true → b ≡ false
not-true true e = absurd cc
not-true false e = refl

module _ (d : Declarations) (c : ℕ) (text : IsOfText d) where
  abbrev V : World
  V = view_in d c

  abbrev all : List ImplDecl
  all = (erased_world (world_of d)).impls

  abbrev is_seen : ImplDecl → Bool
  is_seen x = sees (erased_world (world_of d)) c x.home

  abbrev breaks : ImplDecl → Bool
  breaks x = (x.home == c) && not (keeps_orphan_rule V c x.header)

  all-numbered : (k : ℕ) (x : ImplDecl) → slice_get all k ≡ Some x → x.name ≡ 0 + k
  all-numbered k x e =
      let plain = unmapped erased_impl (world_of d).impls k x e in
      let named = unmapped (λ (y : NamedImpl). y.item) d.impls k plain.0 plain.1 in
      ap (λ (y : ImplDecl). y.name) (sym plain.2) ∙ ap (λ (y : ImplDecl). y.name) (sym named.2) ∙ numbered d text k named.0 named.1 ∙ from-zero k
    where
      from-zero : (n : ℕ) → n ≡ 0 + n
      from-zero n = omega arith

  first-found : (k : ℕ) (e : OrphanError) (h : verdicts.IsFirstOrphan V c k e) → first_orphan V c ≡ Some h.found
  first-found k e h =
      let i = h.found in
      let seen = in-filter is_seen all i h.broken.stands in
      let own : (i.home == c) ≡ true = ap (λ n. n == c) h.broken.own ∙ self-number c in
      let bad : breaks i ≡ true = both-true (i.home == c) (not (keeps_orphan_rule V c i.header)) own (not-false (keeps_orphan_rule V c i.header) h.broken.breaks) in
      filtered-find breaks is_seen all
      ∙ found-least (λ x. is_seen x && breaks x) all 0 all-numbered i seen.0 (both-true (is_seen i) (breaks i) seen.1 bad)
      (λ x at q.
      let b = right (is_seen x) (breaks x) q in
      subst (λ n. n ≤ x.name) (sym h.number) (h.first x (record {
        stands = filter-in is_seen all x at (left (is_seen x) (breaks x) q);
        own = same-number x.home c (left (x.home == c) _ b);
        breaks = not-true (keeps_orphan_rule V c x.header) (right (x.home == c) _ b);
      })))

  kept : verdicts.KeepsOrphanRule V c → first_orphan V c ≡ None
  kept h = none-found breaks V.impls (λ x at. so-false (breaks x) (λ q. clash (keeps_orphan_rule V c x.header) (h x at (same-number x.home c (left (x.home == c) _ q))) (right (x.home == c) _ q)))
    where
      clash : (b : Bool) → b ≡ true → not b ≡ true → ⊥
      clash b e q = cc

  -- ---- the line of an orphan
  orphan-text : (k : ℕ) (e : OrphanError) → answer_text (orphan_line d c k e) ≡ crate_start (crate_text d c) ++ (codes "orphan impl " ++ decimal (number_in_crate d k) ++ error_text d k e)
  orphan-text k (nonlocal ts) = four (crate_start (crate_text d c)) (codes "orphan impl ") (decimal (number_in_crate d k)) (codes " nonlocal")
    where
      four : (a b k e : List ℕ) → a ++ b ++ k ++ e ≡ a ++ (b ++ k ++ e)
      four a b k e = simp append_assoc
  orphan-text k (uncovered t u) = six (crate_start (crate_text d c)) (codes "orphan impl ") (decimal (number_in_crate d k)) (codes " uncovered ") (header_text d k t) (before_text (option_map (header_text d k) u))
    where
      six : (a b k e t u : List ℕ) → a ++ b ++ k ++ e ++ t ++ u ≡ a ++ (b ++ k ++ (e ++ t ++ u))
      six a b k e t u = simp append_assoc

  overlap-text : (k j : ℕ) → answer_text (verdict_line d c (verdicts.overlap k j))
      ≡ crate_start (crate_text d c) ++ (codes "overlap impl " ++ decimal (number_in_crate d k) ++ codes " with " ++ crate_text d (impl_home d j) ++ codes " " ++ decimal (number_in_crate d j))
  overlap-text k j =
      seven (crate_start (crate_text d c)) (codes "overlap impl ") (decimal (number_in_crate d k)) (codes " with ") (crate_text d (impl_home d j)) (codes " ") (decimal (number_in_crate d j))
    where
      seven : (a b k e f g h : List ℕ) → a ++ b ++ k ++ e ++ f ++ g ++ h ≡ a ++ (b ++ k ++ e ++ f ++ g ++ h)
      seven a b k e f g h = simp append_assoc

  reason-of : (i : ImplDecl) (n : NamedImpl) → is_good_impl n ≡ true → slice_get d.impls i.name ≡ Some n → erased_impl n.item ≡ i → (e : OrphanError)
      → orphan_error V c (opened i.header).args ≡ Some e → error_text d i.name e ≡ orphan_reason d c i
  reason-of i n g at is e h =
      let ps : params_at d i.name ≡ n.params = ap (λ o. option_map_or (λ (x : NamedImpl). x.params) o []) at in
      let args : i.header.args ≡ erase n.item.header.args = ap (λ (x : ImplDecl). x.header.args) (sym is) in
      let both : (k : KnowsParams (params_at d i.name) i.header.args) × AllOk (params_at d i.name) i.header.args k i.header.args =
      subst (λ t. (k : KnowsParams (params_at d i.name) t) × AllOk (params_at d i.name) t k t) (sym args)
      (subst (λ qs. (k : KnowsParams qs (erase n.item.header.args)) × AllOk qs (erase n.item.header.args) k (erase n.item.header.args)) (sym ps) (knows n g, header-ok n g)) in
      reason-is d c i both.0 both.1 e h

  -- ---- the promise
  pub answer-of : (limit : ℕ) → ((k : ℕ) (n : NamedImpl) → slice_get d.impls k ≡ Some n → is_good_impl n ≡ true) → (v : verdicts.Verdict) → IsVerdictOf limit d c v
      → (t : List ℕ) × CrateAnswer limit d c t × (answer_text (verdict_line d c v) ≡ crate_start (crate_text d c) ++ t)
  answer-of limit well verdicts.accepted h = (codes "accepted", is_accepted (kept h.keeps) h.cleared, refl)
  answer-of limit well (verdicts.orphan k e) h =
      let i = h.found in
      let w = erased d c i text h.broken.stands in
      let err : orphan_error V c (opened i.header).args ≡ Some e = h.error in (
        codes "orphan impl " ++ decimal (number_in_crate d i.name) ++ orphan_reason d c i,
        is_orphan i (first-found k e h),
        orphan-text k e
            ∙ ap (λ m. crate_start (crate_text d c) ++ (codes "orphan impl " ++ decimal (number_in_crate d m) ++ error_text d m e)) (sym h.number)
            ∙ ap (λ z. crate_start (crate_text d c) ++ (codes "orphan impl " ++ decimal (number_in_crate d i.name) ++ z)) (reason-of i w.0 (well i.name w.0 w.1) w.1 w.2 e err),
      )
  answer-of limit well (verdicts.overlap k j) (keeps, o) =
      let w = erased d c o.earlier text o.pair.partner in
      let line : List ℕ → List ℕ → List ℕ → List ℕ = λ m n r. crate_start (crate_text d c) ++ (codes "overlap impl " ++ m ++ codes " with " ++ n ++ codes " " ++ r) in (
        codes "overlap impl " ++ decimal (number_in_crate d o.later.name) ++ codes " with " ++ crate_text d o.earlier.home ++ codes " " ++ decimal (number_in_crate d o.earlier.name),
        is_overlap o.later o.earlier (kept keeps) o.pair o.real,
        overlap-text k j
            ∙ ap (λ m. line (decimal (number_in_crate d m)) (crate_text d (impl_home d j)) (decimal (number_in_crate d j))) (sym o.later_number)
            ∙ ap (λ m. line (decimal (number_in_crate d o.later.name)) (crate_text d (impl_home d m)) (decimal (number_in_crate d m))) (sym o.earlier_number)
            ∙ ap (λ m. line (decimal (number_in_crate d o.later.name)) (crate_text d m) (decimal (number_in_crate d o.earlier.name))) (home-at d o.earlier w.0 w.1 (ap (λ (x : ImplDecl). x.home) w.2)),
      )

pub crate-answer : (limit : ℕ) (d : Declarations) (c : ℕ) (v : verdicts.Verdict) → IsOfText d → IsVerdictOf limit d c v
    → (t : List ℕ) × CrateAnswer limit d c t × (answer_text (verdict_line d c v) ≡ crate_start (crate_text d c) ++ t)
crate-answer limit d c v (bytes, t) h = answer-of d c (bytes, t) limit (λ k n e. member-each is_good_impl d.impls n (texts-are-well bytes d (text-gives bytes (Ok d) t)).impls (k, e)) v h

-- the text `accepted` is that of an accepted crate alone
no-other : (xs ys : List ℕ) → codes "orphan impl " ++ xs ≡ codes "accepted" → ⊥
no-other xs ys e = cc

no-overlap : (xs ys : List ℕ) → codes "overlap impl " ++ xs ≡ codes "accepted" → ⊥
no-overlap xs ys e = cc

pub accepted-answer : (limit : ℕ) (d : Declarations) (c : ℕ) (t : List ℕ) → CrateAnswer limit d c t → t ≡ codes "accepted" → IsAccepted (view_in d c) c
accepted-answer limit d c _ (is_accepted keeps cleared) e = record { keeps = λ i at own. still (i.home == c) (keeps_orphan_rule (view_in d c) c i.header) (ap (λ n. n == c) own ∙ self-number c) (none-passes _ (view_in d c).impls i keeps at); cleared = cleared }
  where
    still : (a b : Bool) → a ≡ true → a && not b ≡ false → b ≡ true
    still true true h g = refl
    still true false h g = absurd cc
    still false b h g = absurd cc
accepted-answer limit d c _ (is_orphan i f) e = absurd (no-other _ [] e)
accepted-answer limit d c _ (is_overlap i j k p r) e = absurd (no-overlap _ [] e)

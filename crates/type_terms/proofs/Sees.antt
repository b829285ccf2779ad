-- A crate sees what the crates see that it uses. The number of crates is enough steps.
use Rattle.std.proofs.Common.{◌≡◌, ℕ, zero, suc, ◌<◌, ◌≤◌, true, List, sym, ◌||◌, ◌==◌, subst, ◌⊎◌, inl, inr, length, arith}
use Rattle.std.specs.List.{list_any}
use Rattle.type_terms.specs.Promised.Worlds.{World, CrateDecl, core, crates_named, sees, sees_within}
use Rattle.type_terms.specs.Promised.Proofs.{In}
use Rattle.type_terms.specs.Promised.Renumbering.{View}
use Rattle.type_terms.specs.Promised.LinkedSet.{JoinedSet}
use Rattle.type_terms.proofs.Members.{in-filter, filter-in, some-member, member-some, same-number, self-number}
use Rattle.type_terms.proofs.Walking.{or-left, or-right, or-cases}
use Rattle.type_terms.proofs.NoTwo.{sees-order}
use Rattle.type_terms.proofs.Below.{below, below-length, below-strict}

-- a crate's place in the order
abbrev crate-rank : (ℕ → ℕ) → CrateDecl → ℕ
crate-rank rank x = rank x.name

-- More fuel
through : (n : ℕ) (W : World) (c d : ℕ) (x : CrateDecl) (u : ℕ) → In x W.crates → x.name ≡ c → In u x.uses → sees_within n W u d ≡ true → sees_within (suc n) W c d ≡ true
through n W c d x u m e g h =
    or-right ((c == d) || (d == core)) _
    (member-some (λ (y : CrateDecl). list_any (λ v. sees_within n W v d) y.uses) (crates_named W c) x
    (filter-in (λ (y : CrateDecl). y.name == c) W.crates x m (subst (λ v. (x.name == v) ≡ true) e (self-number x.name)))
    (member-some (λ v. sees_within n W v d) x.uses u g h))

-- a step of seeing: near, or through a use
record Near (W : World) (n c d : ℕ) : Type 0 where
  crate : CrateDecl
  way : ℕ
  stands : In crate W.crates
  named : crate.name ≡ c
  used : In way crate.uses
  sees-on : sees_within n W way d ≡ true

near-any : (n : ℕ) (W : World) (c d : ℕ) → (c ≡ d) ⊎ (d ≡ core) → sees_within n W c d ≡ true
near-any zero W c d (inl e) = or-left (c == d) _ (subst (λ v. (c == v) ≡ true) e (self-number c))
near-any zero W c d (inr e) = or-right (c == d) (d == core) (subst (λ v. (d == v) ≡ true) e (self-number d))
near-any (suc n) W c d (inl e) = or-left ((c == d) || (d == core)) _ (or-left (c == d) _ (subst (λ v. (c == v) ≡ true) e (self-number c)))
near-any (suc n) W c d (inr e) = or-left ((c == d) || (d == core)) _ (or-right (c == d) (d == core) (subst (λ v. (d == v) ≡ true) e (self-number d)))

near-cases : (c d : ℕ) → (c == d) || (d == core) ≡ true → (c ≡ d) ⊎ (d ≡ core)
near-cases c d h = by (or-cases (c == d) (d == core) h)
  where
    by : ((c == d) ≡ true) ⊎ ((d == core) ≡ true) → (c ≡ d) ⊎ (d ≡ core)
    by (inl e) = inl (same-number c d e)
    by (inr e) = inr (same-number d core e)

split : (n : ℕ) (W : World) (c d : ℕ) → sees_within (suc n) W c d ≡ true → ((c ≡ d) ⊎ (d ≡ core)) ⊎ Near W n c d
split n W c d h = by (or-cases ((c == d) || (d == core)) (list_any (λ x. list_any (λ u. sees_within n W u d) x.uses) (crates_named W c)) h)
  where
    by : ((c == d) || (d == core) ≡ true) ⊎ (list_any (λ (x : CrateDecl). list_any (λ u. sees_within n W u d) x.uses) (crates_named W c) ≡ true)
        → ((c ≡ d) ⊎ (d ≡ core)) ⊎ Near W n c d
    by (inl e) = inl (near-cases c d e)
    by (inr e) = inr (record { crate = x.0; way = u.0; stands = m.0; named = same-number x.0.name c m.1; used = u.1; sees-on = u.2 })
      where
        x : (x : CrateDecl) × In x (crates_named W c) × (list_any (λ u. sees_within n W u d) x.uses ≡ true)
        x = some-member (λ (x : CrateDecl). list_any (λ u. sees_within n W u d) x.uses) (crates_named W c) e

        m : In x.0 W.crates × ((x.0.name == c) ≡ true)
        m = in-filter (λ (y : CrateDecl). y.name == c) W.crates x.0 x.1

        u : (u : ℕ) × In u x.0.uses × (sees_within n W u d ≡ true)
        u = some-member (λ v. sees_within n W v d) x.0.uses x.2

more-fuel : (n m : ℕ) → n ≤ m → (W : World) (c d : ℕ) → sees_within n W c d ≡ true → sees_within m W c d ≡ true
more-fuel zero m l W c d h = near-any m W c d (near-cases c d h)
more-fuel (suc n) zero l W c d h = absurd (omega arith)
more-fuel (suc n) (suc m) l W c d h = by (split n W c d h) (more-fuel n m (omega arith) W)
  where
    by : ((c ≡ d) ⊎ (d ≡ core)) ⊎ Near W n c d → ((a b : ℕ) → sees_within n W a b ≡ true → sees_within m W a b ≡ true) → sees_within (suc m) W c d ≡ true
    by (inl e) f = near-any (suc m) W c d e
    by (inr e) f = through m W c d e.crate e.way e.stands e.named e.used (f e.way d e.sees-on)

one-up : (k m : ℕ) → k < m → (W : World) (c d : ℕ) (x : CrateDecl) (u : ℕ) → In x W.crates → x.name ≡ c → In u x.uses → sees_within k W u d ≡ true → sees_within m W c d ≡ true
one-up k zero l W c d x u s e g h = absurd (omega arith)
one-up k (suc m) l W c d x u s e g h = through m W c d x u s e g (more-fuel k m (omega arith) W u d h)

-- however far c sees, the crates below it are fuel enough
enough : (W : World) (vs : List View) (rank : ℕ → ℕ) → JoinedSet W vs rank → (n c d : ℕ) → sees_within n W c d ≡ true → sees_within (below (crate-rank rank) (rank c) W.crates) W c d ≡ true
enough W vs rank l zero c d h = near-any (below (crate-rank rank) (rank c) W.crates) W c d (near-cases c d h)
enough W vs rank l (suc n) c d h = by (split n W c d h) (enough W vs rank l n)
  where
    by : ((c ≡ d) ⊎ (d ≡ core)) ⊎ Near W n c d → ((a b : ℕ) → sees_within n W a b ≡ true → sees_within (below (crate-rank rank) (rank a) W.crates) W a b ≡ true)
        → sees_within (below (crate-rank rank) (rank c) W.crates) W c d ≡ true
    by (inl e) f = near-any (below (crate-rank rank) (rank c) W.crates) W c d e
    by (inr e) f = one-up (below (crate-rank rank) (rank e.way) W.crates) (below (crate-rank rank) (rank c) W.crates) fewer W c d e.crate e.way e.stands e.named e.used (f e.way d e.sees-on)
      where
        y : (y : CrateDecl) × In y W.crates × ((y.name == e.way) ≡ true)
        y = some-member (λ (z : CrateDecl). z.name == e.way) W.crates (l.fits.uses_stand e.crate e.way e.stands e.used)

        name : y.0.name ≡ e.way
        name = same-number y.0.name e.way y.2

        down : rank e.way < rank c
        down = subst (λ v. rank e.way < rank v) e.named (l.fits.uses_before e.crate e.way e.stands e.used)

        fewer : below (crate-rank rank) (rank e.way) W.crates < below (crate-rank rank) (rank c) W.crates
        fewer =
            subst (λ v. below (crate-rank rank) (rank v) W.crates < below (crate-rank rank) (rank c) W.crates) name
            (below-strict (crate-rank rank) (rank c) W.crates y.0 y.1 (subst (λ v. rank v < rank c) (sym name) down))

-- core sees only itself
core-alone : (W : World) (vs : List View) (rank : ℕ → ℕ) → JoinedSet W vs rank → (m e : ℕ) → sees_within m W core e ≡ true → e ≡ core
core-alone W vs rank l m e g = by (sees-order m W rank l.fits.uses_before core e g)
  where
    by : (core ≡ e) ⊎ ((e ≡ core) ⊎ (rank e < rank core)) → e ≡ core
    by (inl q) = sym q
    by (inr (inl q)) = q
    by (inr (inr q)) = absurd (omega (arith, q, l.fits.core_first))

near-chain : (W : World) (vs : List View) (rank : ℕ → ℕ) → JoinedSet W vs rank → (m c d e : ℕ) → (c ≡ d) ⊎ (d ≡ core) → sees_within m W d e ≡ true
    → (k : ℕ) × (sees_within k W c e ≡ true)
near-chain W vs rank l m c d e (inl q) g = (m, subst (λ v. sees_within m W v e ≡ true) (sym q) g)
near-chain W vs rank l m c d e (inr q) g = (zero, near-any zero W c e (inr (core-alone W vs rank l m e (subst (λ v. sees_within m W v e ≡ true) q g))))

chain : (W : World) (vs : List View) (rank : ℕ → ℕ) → JoinedSet W vs rank → (n m c d e : ℕ) → sees_within n W c d ≡ true → sees_within m W d e ≡ true
    → (k : ℕ) × (sees_within k W c e ≡ true)
chain W vs rank l zero m c d e h g = near-chain W vs rank l m c d e (near-cases c d h) g
chain W vs rank l (suc n) m c d e h g = by (split n W c d h) (λ a q. chain W vs rank l n m a d e q g)
  where
    by : ((c ≡ d) ⊎ (d ≡ core)) ⊎ Near W n c d → ((a : ℕ) → sees_within n W a d ≡ true → (k : ℕ) × (sees_within k W a e ≡ true)) → (k : ℕ) × (sees_within k W c e ≡ true)
    by (inl q) f = near-chain W vs rank l m c d e q g
    by (inr q) f = let r = f q.way q.sees-on in (suc r.0, through r.0 W c e q.crate q.way q.stands q.named q.used r.1)

pub sees-through : (W : World) (vs : List View) (rank : ℕ → ℕ) → JoinedSet W vs rank → (c d e : ℕ) → sees W c d ≡ true → sees W d e ≡ true → sees W c e ≡ true
sees-through W vs rank l c d e h g =
    let k = chain W vs rank l (length W.crates) (length W.crates) c d e h g in
    more-fuel (below (crate-rank rank) (rank c) W.crates) (length W.crates) (below-length (crate-rank rank) (rank c) W.crates) W c e (enough W vs rank l k.0 c e k.1)

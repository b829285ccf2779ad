-- What a crate sees, where crates use earlier ones alone and a crate is put behind the others.
use Rattle.std.proofs.Common.{◌≡◌, ℕ, zero, suc, ◌<◌, ◌≤◌, Bool, true, false, cond, ◌||◌, List, [], ◌∷◌, ◌++◌, length, refl, sym, ap, ◌∙◌, arith, inl, inr, length-append}
use Rattle.std.proofs.lemmas.Bool.{cases_Bool, eqb-true, ne_eqb}
use Rattle.std.proofs.lemmas.Option.{slice_get_within}
use Rattle.std.proofs.lemmas.List.Elements.{All-head, All-tail, filter-append}
use Rattle.std.specs.Prelude.{◌==◌, filter, All}
use Rattle.std.specs.List.{list_any}
use Rattle.type_terms.specs.Promised.Worlds.{World, CrateDecl, core, crates_named, sees_within, sees}
use Rattle.text_tables.specs.Numbered.{EachNumbered}
use Rattle.text_tables.proofs.Each.{Every, Every-from_Each, filter-none, filter-push, self-number}
use Rattle.type_terms.proofs.BooleanBasics.{or-false}

-- a crate's number is its place, and it uses earlier crates
abbrev pub IsOrdered : List CrateDecl → Type 0
IsOrdered cs = EachNumbered (λ k c. (c.name ≡ k) × All (λ u. u < k) c.uses) cs

-- ---- one crate's uses
abbrev HasEarlier : ℕ → CrateDecl → Type 0
HasEarlier c x = (x.name == c) ≡ true → All (λ u. u < c) x.uses

earlier : (c : ℕ) (cs : List CrateDecl) → IsOrdered cs → Every (HasEarlier c) cs
earlier c cs h = Every-from_Each cs (λ k x p e. let same : k ≡ c = sym p.0 ∙ eqb-true x.name c e in rw (← same) p.1) h

uses-agree : (f g : ℕ → Bool) (c : ℕ) (us : List ℕ) → All (λ u. u < c) us → ((u : ℕ) → u < c → f u ≡ g u) → list_any f us ≡ list_any g us
uses-agree f g c [] a h = refl
uses-agree f g c (u ∷ us) a h = ap (λ t. t || list_any f us) (h u (All-head (λ v. v < c) u us a)) ∙ ap (λ t. g u || t) (uses-agree f g c us (All-tail (λ v. v < c) u us a) h)

abbrev any_use : (ℕ → Bool) → List CrateDecl → Bool
any_use f xs = list_any (λ x. list_any f x.uses) xs

named-agree : (f g : ℕ → Bool) (c : ℕ) (cs : List CrateDecl) → Every (HasEarlier c) cs → ((u : ℕ) → u < c → f u ≡ g u) → any_use f (filter (λ x. x.name == c) cs) ≡ any_use g (filter (λ x. x.name == c) cs)
named-agree f g c [] a h = refl
named-agree f g c (x ∷ cs) a h =
    elim (cases_Bool (x.name == c)) [
      | inl e ↦
          ap (λ t. any_use f (cond t (x ∷ filter (λ y. y.name == c) cs) (filter (λ y. y.name == c) cs))) e
          ∙ ap (λ t. t || any_use f (filter (λ y. y.name == c) cs)) (uses-agree f g c x.uses (a.0 e) h)
          ∙ ap (λ t. list_any g x.uses || t) (named-agree f g c cs a.1 h)
          ∙ ap (λ t. any_use g (cond t (x ∷ filter (λ y. y.name == c) cs) (filter (λ y. y.name == c) cs))) (sym e)
      | inr e ↦
          ap (λ t. any_use f (cond t (x ∷ filter (λ y. y.name == c) cs) (filter (λ y. y.name == c) cs))) e
          ∙ named-agree f g c cs a.1 h
          ∙ ap (λ t. any_use g (cond t (x ∷ filter (λ y. y.name == c) cs) (filter (λ y. y.name == c) cs))) (sym e)
    ]

no-use : (us : List ℕ) → list_any (λ u. false) us ≡ false
no-use [] = refl
no-use (u ∷ us) = no-use us

none-uses : (xs : List CrateDecl) → any_use (λ u. false) xs ≡ false
none-uses [] = refl
none-uses (x ∷ xs) = ap (λ t. t || any_use (λ u. false) xs) (no-use x.uses) ∙ none-uses xs

named-none : (f : ℕ → Bool) (c : ℕ) (cs : List CrateDecl) → IsOrdered cs → ((u : ℕ) → u < c → f u ≡ false) → any_use f (filter (λ x. x.name == c) cs) ≡ false
named-none f c cs o h = named-agree f (λ u. false) c cs (earlier c cs o) h ∙ none-uses (filter (λ x. x.name == c) cs)

-- ---- what is seen, itself and `core` apart
abbrev base : ℕ → ℕ → Bool
base c e = (c == e) || (e == core)

-- a deeper look finds no more
pub deeper : (n : ℕ) (W : World) (c e : ℕ) → IsOrdered W.crates → c ≤ n → sees_within (suc n) W c e ≡ sees_within n W c e
deeper zero W c e o h = ap (λ t. base c e || t) (named-none (λ u. sees_within zero W u e) c W.crates o (λ u g. absurd (omega (arith, g, h)))) ∙ or-false (base c e)
deeper (suc n) W c e o h = ap (λ t. base c e || t) (named-agree (λ u. sees_within (suc n) W u e) (λ u. sees_within n W u e) c W.crates (earlier c W.crates o) (λ u g. deeper n W u e o (omega (arith, g, h))))

-- a later crate isn't seen
not-base : (c e : ℕ) → c < e → base c e ≡ false
not-base c e h =
    let apart : (c == e) ≡ false = ne_eqb c e (λ p. absurd (omega (arith, p, h))) in
    let some : (e == core) ≡ false = ne_eqb e core (λ p. absurd (omega (arith, p, h))) in
    ap (λ t. t || (e == core)) apart ∙ some

pub later-unseen : (n : ℕ) (W : World) (c e : ℕ) → IsOrdered W.crates → c < e → sees_within n W c e ≡ false
later-unseen zero W c e o h = not-base c e h
later-unseen (suc n) W c e o h =
    ap (λ t. t || any_use (λ u. sees_within n W u e) (crates_named W c)) (not-base c e h)
    ∙ named-none (λ u. sees_within n W u e) c W.crates o (λ u g. later-unseen n W u e o (omega (arith, g, h)))

-- it is a matter of the crates alone
pub same-crates : (n : ℕ) (V W : World) (c e : ℕ) → V.crates ≡ W.crates → sees_within n V c e ≡ sees_within n W c e
same-crates zero V W c e s = refl
same-crates (suc n) V W c e s =
    ap (λ cs. base c e || any_use (λ u. sees_within n V u e) (filter (λ x. x.name == c) cs)) s
    ∙ ap (λ t. base c e || t) (any-agree (λ u. sees_within n V u e) (λ u. sees_within n W u e) (crates_named W c) (λ u. same-crates n V W u e s))
  where
    use-agree : (f g : ℕ → Bool) (us : List ℕ) → ((u : ℕ) → f u ≡ g u) → list_any f us ≡ list_any g us
    use-agree f g [] h = refl
    use-agree f g (u ∷ us) h = ap (λ t. t || list_any f us) (h u) ∙ ap (λ t. g u || t) (use-agree f g us h)

    any-agree : (f g : ℕ → Bool) (xs : List CrateDecl) → ((u : ℕ) → f u ≡ g u) → any_use f xs ≡ any_use g xs
    any-agree f g [] h = refl
    any-agree f g (x ∷ xs) h = ap (λ t. t || any_use f xs) (use-agree f g x.uses h) ∙ ap (λ t. list_any g x.uses || t) (any-agree f g xs h)

pub sees-same : (V W : World) (c e : ℕ) → V.crates ≡ W.crates → sees V c e ≡ sees W c e
sees-same V W c e s = ap (λ cs. sees_within (length cs) V c e) s ∙ same-crates (length W.crates) V W c e s

-- `core`, and what these see
abbrev pub seen_by : World → List ℕ → ℕ → Bool
seen_by W us e = (e == core) || list_any (λ u. sees W u e) us

-- ---- a crate put behind the others
module _ (W V : World) (x : CrateDecl) (o : IsOrdered W.crates) (grown : V.crates ≡ W.crates ++ x ∷ []) (number : x.name ≡ length W.crates) where
  named-old : (c : ℕ) → c < length W.crates → crates_named V c ≡ crates_named W c
  named-old c h =
      let other : (x.name == c) ≡ false = ne_eqb x.name c (λ p. absurd (omega (arith, p, number, h))) in
      ap (filter (λ y. y.name == c)) grown ∙ filter-append (λ y. y.name == c) W.crates (x ∷ []) ∙ ap (λ t. crates_named W c ++ cond t (x ∷ []) []) other ∙ none-behind (crates_named W c)
    where
      none-behind : (xs : List CrateDecl) → xs ++ [] ≡ xs
      none-behind [] = refl
      none-behind (y ∷ ys) = ap (λ r. y ∷ r) (none-behind ys)

  pub old-within : (n c e : ℕ) → c < length W.crates → sees_within n V c e ≡ sees_within n W c e
  old-within zero c e h = refl
  old-within (suc n) c e h =
      ap (λ xs. base c e || any_use (λ u. sees_within n V u e) xs) (named-old c h)
      ∙ ap (λ t. base c e || t) (named-agree (λ u. sees_within n V u e) (λ u. sees_within n W u e) c W.crates (earlier c W.crates o) (λ u g. old-within n u e (omega (arith, g, h))))

  one-longer : length V.crates ≡ suc (length W.crates)
  one-longer = ap length grown ∙ length-append W.crates (x ∷ []) ∙ omega arith

  pub old-sees : (c e : ℕ) → c < length W.crates → sees V c e ≡ sees W c e
  old-sees c e h = ap (λ n. sees_within n V c e) one-longer ∙ old-within (suc (length W.crates)) c e h ∙ deeper (length W.crates) W c e o (omega (arith, h))

  unnamed : Every (λ y. (y.name == length W.crates) ≡ false) W.crates
  unnamed = Every-from_Each {P = λ k y. (y.name ≡ k) × (k < length W.crates)} W.crates (λ k y p. ne_eqb y.name (length W.crates) (λ q. absurd (omega (arith, p.0, p.1, q)))) (λ k y e. ((o k y e).0, slice_get_within W.crates k y e))

  named-new : crates_named V (length W.crates) ≡ x ∷ []
  named-new =
      let yes : (x.name == length W.crates) ≡ true = ap (λ n. n == length W.crates) number ∙ self-number (length W.crates) in
      ap (filter (λ y. y.name == length W.crates)) grown ∙ filter-push (λ y. y.name == length W.crates) W.crates x
      ∙ ap (λ r. r ++ cond (x.name == length W.crates) (x ∷ []) []) (filter-none (λ y. y.name == length W.crates) W.crates unnamed) ∙ ap (λ t. cond t (x ∷ []) []) yes

  pub new-sees : All (λ u. u < length W.crates) x.uses → (e : ℕ) → sees V (length W.crates) e ≡ ((length W.crates == e) || seen_by W x.uses e)
  new-sees a e =
      ap (λ n. sees_within n V (length W.crates) e) one-longer
      ∙ ap (λ xs. base (length W.crates) e || any_use (λ u. sees_within (length W.crates) V u e) xs) named-new
      ∙ ap (λ t. base (length W.crates) e || t) (or-false (list_any (λ u. sees_within (length W.crates) V u e) x.uses))
      ∙ ap (λ t. base (length W.crates) e || t) (uses-agree (λ u. sees_within (length W.crates) V u e) (λ u. sees W u e) (length W.crates) x.uses a (λ u g. old-within (length W.crates) u e g))
      ∙ or-assoc (length W.crates == e) (e == core) (list_any (λ u. sees W u e) x.uses)
    where
      or-assoc : (a b c : Bool) → ((a || b) || c) ≡ (a || (b || c))
      or-assoc true b c = refl
      or-assoc false b c = refl

-- The supertraits of a solution are solutions.
use Rattle.std.proofs.Common.{◌≡◌, ℕ, zero, suc, Bool, true, false, not, ◌||◌, ◌==◌, if◌then◌else◌, List, [], ◌∷◌, ◌++◌, filter, length, refl, sym, ◌∙◌, ap, subst}
use Rattle.std.specs.List.{flat_map}
use Rattle.type_terms.specs.Promised.Label.{Label, param, placeholder, infer, canonical, bound, inside, shift_label}
use Rattle.type_terms.specs.Promised.Trees.{Trees, none, tree, nth, instantiate, shift, some_node}
use Rattle.type_terms.specs.Promised.Worlds.{World, Reference, TraitDecl, traits_named, with_args, all_with_args}
use Rattle.type_terms.specs.Promised.Rules.{written_supertraits, strict_supertraits, strict_supertraits_within}
use Rattle.type_terms.specs.Promised.Proofs.{In}
use Rattle.type_terms.specs.Promised.Answers.{is_closed, is_open}
use Rattle.type_terms.specs.Promised.LinkedSet.{is_stray}
use Rattle.type_terms.proofs.Members.{here, there, in-nothing, in-flat, flat-in, in-map, in-filter}
use Rattle.type_terms.proofs.ProofEntries.{map-in}
use Rattle.type_terms.proofs.Fitting.{head-shut, child-shut, next-shut, append-shut, or-no}
use Rattle.goal_evaluator.specs.Lists.{Every}
use Rattle.goal_evaluator.specs.Instances.{read_with}
use Rattle.goal_evaluator.specs.Content.{given}
use Rattle.candidate_model.specs.Declared.{is_declared_view}
use Rattle.candidate_model.proofs.HavingViews.{ProvesBy}
use Rattle.candidate_model.proofs.DeclaredParts.{bound-declared}
pub use Rattle.candidate_model.specs.Cover.{Proved}
use Rattle.declarations.specs.Promised.Elaboration.{is_put, new_of, pushed, off_stack, all_levels, elaborate, rest_of, supertraits}
use Rattle.candidate_model.proofs.Reading.{read_reference}
use Rattle.candidate_model.proofs.Instances.{read-declared}
use Rattle.type_terms.proofs.TermBasics.{label-kept}
use Rattle.type_terms.proofs.BooleanBasics.{true-false}
use Rattle.candidate_model.proofs.Elaborating.{every-in as each}

-- ---- what is made of closed terms and declarations is closed
abbrev Shuts : Trees → Type 0
Shuts t = some_node is_open t ≡ false

or-cong : (a b c x y z : Bool) → a ≡ x → b ≡ y → c ≡ z → a || b || c ≡ x || y || z
or-cong a b c x y z p q r = cc

shift-keeps : (d a : ℕ) (t : Trees) → some_node is_open (shift d a t) ≡ some_node is_open t
shift-keeps d a none = refl
shift-keeps d a (tree l c o) =
    or-cong (is_open (shift_label d a l)) (some_node is_open (shift (inside l d) a c)) (some_node is_open (shift d a o)) (is_open l) (some_node is_open c) (some_node is_open o)
    (label-kept d a l) (shift-keeps (inside l d) a c) (shift-keeps d a o)

nth-shut : (A : Trees) (i : ℕ) → Shuts A → Shuts (nth A i)
nth-shut none i h = refl
nth-shut (tree l c o) zero h = head-shut is_open l c o h
nth-shut (tree l c o) (suc i) h = nth-shut o i (next-shut is_open l c o h)

closed-node : (l : Label) (c o : Trees) → is_open l ≡ false → Shuts c → Shuts o → Shuts (tree l c o)
closed-node l c o e f g = or-no (is_open l || some_node is_open c) (some_node is_open o) (or-no (is_open l) (some_node is_open c) e f) g

pub plain-shut : (d : ℕ) (A t : Trees) → Shuts A → some_node is_stray t ≡ false → Shuts (instantiate d A t)
plain-shut d A none h g = refl
plain-shut d A (tree (param s i) c o) h g =
    append-shut is_open (shift zero d (nth A i)) (instantiate d A o) (shift-keeps zero d (nth A i) ∙ nth-shut A i h) (plain-shut d A o h (next-shut is_stray (param s i) c o g))
plain-shut d A (tree (placeholder s i) c o) h g = absurd (true-false g)
plain-shut d A (tree (infer s i) c o) h g = absurd (true-false g)
plain-shut d A (tree (canonical s i) c o) h g = absurd (true-false g)
plain-shut d A (tree (bound s k i) c o) h g = absurd (true-false g)
plain-shut d A (tree l c o) h g =
    closed-node l (instantiate (inside l d) A c) (instantiate d A o) refl (plain-shut (inside l d) A c h (child-shut is_stray l c o g)) (plain-shut d A o h (next-shut is_stray l c o g))

pub open-none : (t : Trees) → is_closed t ≡ true → Shuts t
open-none t e = by (some_node is_open t) e
  where
    by : (b : Bool) → not b ≡ true → b ≡ false
    by true f = absurd (true-false (sym f))
    by false f = refl

pub none-open : (t : Trees) → Shuts t → is_closed t ≡ true
none-open t e = ap not e

-- a written supertrait is a strict one
written-strict : (V : World) (r s : Reference) → In s (written_supertraits V r) → In s (strict_supertraits V r)
written-strict V r s i = by V.traits refl
  where
    none-named : (ts : List TraitDecl) → V.traits ≡ ts → ts ≡ [] → ⊥
    none-named ts e f = in-nothing s (subst (λ (xs : List TraitDecl). In s (flat_map (λ t. all_with_args r.args t.bounds) (filter (λ x. x.name == r.trait) xs))) (e ∙ f) i)

    at : (n : ℕ) → In s (strict_supertraits_within (suc n) V r)
    at n = flat-in (λ x. x ∷ strict_supertraits_within n V x) (written_supertraits V r) s s i (here s (strict_supertraits_within n V s))

    by : (ts : List TraitDecl) → V.traits ≡ ts → In s (strict_supertraits V r)
    by [] e = absurd (none-named [] e refl)
    by (t ∷ ts) e = subst (λ (xs : List TraitDecl). In s (strict_supertraits_within (length xs) V r)) (sym e) (at (length ts))

-- ---- the stack
module _ (V : World) (P : Reference → Type 0) (keeps : (r : Reference) → P r → Every P (written_supertraits V r)) where
  every-new : (before rs : List Reference) → Every P rs → Every P (new_of before rs)
  every-new before [] e = tt
  every-new before (r ∷ rs) e = by (is_put r before) (every-new before rs e.1) (every-new (r ∷ before) rs e.1)
    where
      by : (b : Bool) → Every P (new_of before rs) → Every P (new_of (r ∷ before) rs) → Every P (if b then new_of before rs else r ∷ new_of (r ∷ before) rs)
      by true x y = x
      by false x y = (e.0, y)

  every-pushed : (rs stack : List Reference) → Every P rs → Every P stack → Every P (pushed rs stack)
  every-pushed [] stack e s = s
  every-pushed (r ∷ rs) stack e s = every-pushed rs (r ∷ stack) e.1 (e.0, s)

  every-off : (n : ℕ) (before stack : List Reference) → Every P stack → Every P (off_stack n V before stack)
  every-off zero before stack s = tt
  every-off (suc n) before [] s = tt
  every-off (suc n) before (r ∷ stack) s =
      let new = every-new before (written_supertraits V r) (keeps r s.0) in
      (s.0, every-off n (new_of before (written_supertraits V r) ++ before) (pushed (new_of before (written_supertraits V r)) stack) (every-pushed (new_of before (written_supertraits V r)) stack new s.1))

  every-rest : (rs : List Reference) → Every P rs → Every P (rest_of rs)
  every-rest [] e = tt
  every-rest (r ∷ rs) e = e.1

  pub every-supertrait : (r : Reference) → P r → Every P (supertraits V r)
  every-supertrait r p =
      every-rest (elaborate V (r ∷ []))
      (every-off (length (all_levels V (r ∷ []))) (new_of [] (r ∷ [])) (pushed (new_of [] (r ∷ [])) []) (every-pushed (new_of [] (r ∷ [])) [] (every-new [] (r ∷ []) (p, tt)) tt))

-- ---- where solutions are looked for
module _ (V : World) (crate : ℕ) (H : Reference → Type 0) (l : ProvesBy V crate H) (declared : is_declared_view V ≡ true) (ts : List Trees) where
  written-proved : (s : Reference) → Proved H (read_reference ts s) → Every (λ r. Proved H (read_reference ts r)) (written_supertraits V s)
  written-proved s p = each (λ r. Proved H (read_reference ts r)) (written_supertraits V s) one
    where
      one : (r : Reference) → In r (written_supertraits V s) → Proved H (read_reference ts r)
      one r i =
          let m = in-flat (λ (t : TraitDecl). all_with_args s.args t.bounds) (traits_named V s.trait) r i in
          let named = in-filter (λ (y : TraitDecl). y.name == s.trait) V.traits m.0 m.1 in
          let b = map-in (with_args s.args) m.0.bounds r m.2 in
          let A = read_with (given ts) s.args in
          let same : with_args A b.0 ≡ read_reference ts r
          = ap (λ z. record { trait = b.0.trait; args = z }) (sym (read-declared ts s.args (open-none A p.0) b.0.args (bound-declared V declared m.0 b.0 named.0 b.1))) ∙ ap (read_reference ts) b.2 in
          let written : In (with_args A b.0) (written_supertraits V (read_reference ts s))
          = flat-in (λ (t : TraitDecl). all_with_args A t.bounds) (traits_named V s.trait) m.0 (with_args A b.0) m.1 (in-map (with_args A) m.0.bounds b.0 b.1) in
          subst (Proved H) same (
            none-open (instantiate zero A b.0.args) (plain-shut zero A b.0.args (open-none A p.0) (l.leads.plain m.0 b.0 named.0 b.1)),
            l.supers (read_reference ts s) p.0 p.1 (with_args A b.0) (written-strict V (read_reference ts s) (with_args A b.0) written),
          )

  -- each of the supertraits of the goal has a proof where the goal has
  pub supertraits-proved : (r : Reference) → Proved H (read_reference ts r) → Every (λ s. Proved H (read_reference ts s)) (supertraits V r)
  supertraits-proved r p = every-supertrait V (λ s. Proved H (read_reference ts s)) (λ s q. written-proved s q) r p

-- What is declared is no wider than is said; impls are narrow.
use Rattle.std.proofs.Common.{◌≡◌, ℕ, zero, ◌≤◌, max, List, [], ◌∷◌, map, length, ◌⊎◌, inl, inr, subst, arith}
use Rattle.std.specs.Prelude.{fold}
use Rattle.type_terms.specs.Promised.Worlds.{World, Reference, ImplDecl}
use Rattle.type_terms.specs.Promised.Rules.{is_coinductive}
use Rattle.type_terms.specs.Promised.Proofs.{In}
use Rattle.type_terms.proofs.Members.{here, there, in-cases, in-nothing}
use Rattle.goal_evaluator.specs.Lists.{Every}
use Rattle.goal_evaluator.specs.Promised.Widths.{width}
use Rattle.goal_evaluator.specs.Widths.{width_of_predicates}
use Rattle.candidate_model.specs.Asking.{GoalOverKinds}
use Rattle.candidate_model.specs.Candidates.{by_the_impl, rules_behind}
use Rattle.candidate_model.specs.Promised.Widths.{greatest, width_of, declared_width}
use Rattle.candidate_model.proofs.Premises.{IsNarrow}
use Rattle.candidate_model.proofs.CandidateWidths.{equal-within, premises-within, behind-within, behind-all-within}

-- the greatest is above that with which it begins, and above each
above-first : {A : Type 0} (f : A → ℕ) (xs : List A) (z : ℕ) → z ≤ fold max z (map f xs)
above-first f [] z = omega arith
above-first f (y ∷ xs) z = let g = above-first f xs (max z (f y)) in next z (f y) (fold max (max z (f y)) (map f xs)) g
  where
    next : (z y w : ℕ) → max z y ≤ w → z ≤ w
    next z y w h = omega (arith, h)

above-each : {A : Type 0} (f : A → ℕ) (xs : List A) (z : ℕ) (x : A) → In x xs → f x ≤ fold max z (map f xs)
above-each f [] z x i = absurd (in-nothing x i)
above-each f (y ∷ xs) z x i = by (in-cases x y xs i) (above-first f xs (max z (f y))) (λ j. above-each f xs (max z (f y)) x j)
  where
    own : (z y w : ℕ) → max z y ≤ w → y ≤ w
    own z y w h = omega (arith, h)

    by : (y ≡ x) ⊎ In x xs → max z (f y) ≤ fold max (max z (f y)) (map f xs) → (In x xs → f x ≤ fold max (max z (f y)) (map f xs)) → f x ≤ fold max (max z (f y)) (map f xs)
    by (inl e) h go = subst (λ q. f q ≤ fold max (max z (f y)) (map f xs)) e (own z (f y) (fold max (max z (f y)) (map f xs)) h)
    by (inr j) h go = go j

pub greatest-at : {A : Type 0} (f : A → ℕ) (xs : List A) (x : A) → In x xs → f x ≤ greatest f xs
greatest-at f xs x i = above-each f xs zero x i

less-both : (a b c : ℕ) → a ≤ b → b ≤ c → a ≤ c
less-both a b c h g = omega (arith, h, g)

each-in : (xs all : List Reference) (n : ℕ) → ((r : Reference) → In r xs → In r all) → greatest width_of all ≤ n → Every (λ r. width_of r ≤ n) xs
each-in [] all n f h = tt
each-in (r ∷ rs) all n f h = (less-both (width_of r) (greatest width_of all) n (greatest-at width_of all r (f r (here r rs))) h, each-in rs all n (λ q j. f q (there q r rs j)) h)

each-greatest : (xs : List Reference) (n : ℕ) → greatest width_of xs ≤ n → Every (λ r. width_of r ≤ n) xs
each-greatest xs n h = each-in xs xs n (λ r j. j) h

args-width : (r : Reference) (n : ℕ) → width_of r ≤ n → width r.args ≤ n
args-width r n h = omega (arith, h)

module _ (V : World) (a : GoalOverKinds) (n : ℕ) (declared : declared_width V ≤ n) (goal : width a.reference.args ≤ n) (environment : width_of_predicates a.environment ≤ n) where
  impl-width : (i : ImplDecl) → In i V.impls → max (width_of i.header) (greatest width_of i.clauses) ≤ n
  impl-width i j = let g = greatest-at (λ (x : ImplDecl). max (width_of x.header) (greatest width_of x.clauses)) V.impls i j in omega (arith, g, declared)

  pub impl-narrow : (i : ImplDecl) → In i V.impls → IsNarrow n (by_the_impl V a i)
  impl-narrow i j =
      let w = impl-width i j in
      let b = behind-within n (length a.kinds) i.header (omega (arith, w)) in (
        equal-within n a.reference.args (rules_behind (length a.kinds) i.header).args goal (args-width (rules_behind (length a.kinds) i.header) n b),
        premises-within n a (is_coinductive V a.reference.trait) environment (map (rules_behind (length a.kinds)) i.clauses) (behind-all-within n (length a.kinds) i.clauses (each-greatest i.clauses n (omega (arith, w)))),
      )

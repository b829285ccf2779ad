-- A test that all rules of a list pass.
use Rattle.std.proofs.Common.{◌≡◌, ℕ, suc, Bool, true, false, List, [], ◌∷◌, ◌++◌, refl, ap, sym, ◌∙◌, if◌then◌else◌, ◌⊎◌, inl, inr}
use Rattle.std.specs.List.{flat_map, list_all}
use Rattle.type_terms.specs.Promised.Rules.{BuiltIn, Rule, built_in, row, equal_rows, same_reference}
use Rattle.type_terms.specs.Promised.Worlds.{Reference}
use Rattle.type_terms.specs.Promised.Proofs.{In}
use Rattle.type_terms.proofs.Members.{here, there, in-cases, in-nothing}
use Rattle.type_terms.proofs.Walking.{left, right, both}

pub append-all : (p : Rule → Bool) (us vs : List Rule) → list_all p us ≡ true → list_all p vs ≡ true → list_all p (us ++ vs) ≡ true
append-all p [] vs e g = g
append-all p (u ∷ us) vs e g = both (p u) _ (left (p u) _ e) (append-all p us vs (right (p u) _ e) g)

pub if-all : (p : Rule → Bool) (b : Bool) (us : List Rule) → list_all p us ≡ true → list_all p (if b then us else []) ≡ true
if-all p true us h = h
if-all p false us h = refl

pub unless-all : (p : Rule → Bool) (b : Bool) (us : List Rule) → list_all p us ≡ true → list_all p (if b then [] else us) ≡ true
unless-all p true us h = refl
unless-all p false us h = h

pub row-all : (p : Rule → Bool) (n : BuiltIn) (ps : _) → p (record { way = built_in n; premises = ps }) ≡ true → list_all p (row n ps) ≡ true
row-all p n ps h = both _ true h refl

-- each of the rows for equal references
pub equal-all : (p : Rule → Bool) (b : ℕ → BuiltIn) (ps : List Reference) (r : Reference) (k : ℕ) (ss : List Reference)
    → ((n : ℕ) → p (record { way = built_in (b n); premises = ps }) ≡ true) → list_all p (equal_rows b ps r k ss) ≡ true
equal-all p b ps r k [] h = refl
equal-all p b ps r k (s ∷ ss) h =
    append-all p (if same_reference r s then row (b k) ps else []) (equal_rows b ps r (suc k) ss) (if-all p (same_reference r s) (row (b k) ps) (row-all p (b k) ps (h k)))
    (equal-all p b ps r (suc k) ss h)

pub flat-all : {A : Type 0} (p : Rule → Bool) (f : A → List Rule) (xs : List A) → ((x : A) → In x xs → list_all p (f x) ≡ true) → list_all p (flat_map f xs) ≡ true
flat-all p f [] h = refl
flat-all p f (x ∷ xs) h = append-all p (f x) (flat_map f xs) (h x (here x xs)) (flat-all p f xs (λ y g. h y (there y x xs g)))

pub member-all : (p : Rule → Bool) (us : List Rule) → list_all p us ≡ true → (u : Rule) → In u us → p u ≡ true
member-all p [] h u g = absurd (in-nothing u g)
member-all p (v ∷ us) h u g = by (in-cases u v us g) (member-all p us (right (p v) _ h) u)
  where
    by : (v ≡ u) ⊎ In u us → (In u us → p u ≡ true) → p u ≡ true
    by (inl q) f = ap p (sym q) ∙ left (p v) _ h
    by (inr q) f = f q

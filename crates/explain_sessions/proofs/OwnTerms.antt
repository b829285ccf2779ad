-- What is said of terms that speak of a table's own unknowns alone.
use Rattle.std.proofs.Common.{◌≡◌, ℕ, ◌<◌, true, false, not, ◌||◌, refl, ◌∙◌, ap, arith}
use Rattle.std.proofs.lemmas.Bool.Decides.{nat_tests}
use Rattle.std.specs.Prelude.{nat_lt}
use Rattle.sessions.specs.TypeTerms.Promised.Label.{Label, Sort, of_type, of_const, of_lifetime, infer, canonical}
use Rattle.sessions.specs.TypeTerms.Promised.Trees.{Trees, none, tree, some_node}
use Rattle.sessions.proofs.TypeTerms.Fitting.{child-shut, next-shut, not-true}
use Rattle.sessions.specs.InferTable.Canonical.{HasNoCanonical}
use Rattle.sessions.specs.InferTable.Content.{Table, variables_of, place_in}
use Rattle.sessions.specs.InferTable.Covers.{AreKnown}
use Rattle.sessions.specs.InferTable.declared.terms.Snapshot.{Snapshot}
use Rattle.explain_sessions.specs.Unknowns.{is_other_place, known_to, speaks_of_known}
use Rattle.explain_sessions.specs.declared.unknowns.FindsOther.{FindsOther}
use Rattle.sessions.proofs.TypeTerms.Matching.{or-false-left as no-left}

-- ---- what a visit finds
abbrev pub visitor_at : Snapshot → FindsOther
visitor_at p = record { ty_vars = p.ty_vars; const_vars = p.const_vars; region_vars = p.region_vars }

-- the visitor knows what the table has
pub same-counts : (t : Table) (p : Snapshot) → p ≡ place_in t → ◌≡◌ {A = Sort → ℕ} (known_to (visitor_at p)) (variables_of t)
same-counts t p e = ap (λ (q : Snapshot). known_to (visitor_at q)) e ∙ (λ i k. each k i)
  where
    each : (k : Sort) → known_to (visitor_at (place_in t)) k ≡ variables_of t k
    each of_type = refl
    each of_const = refl
    each of_lifetime = refl

-- ---- what that says
module _ (counts : Sort → ℕ) where
  abbrev pub IsOwn : Trees → Type 0
  IsOwn t = some_node (is_other_place counts) t ≡ false

  pub here : (l : Label) (c o : Trees) → IsOwn (tree l c o) → is_other_place counts l ≡ false
  here l c o h = no-left (is_other_place counts l) (some_node (is_other_place counts) c) (no-left (is_other_place counts l || some_node (is_other_place counts) c) (some_node (is_other_place counts) o) h)

  pub below : (l : Label) (c o : Trees) → IsOwn (tree l c o) → IsOwn c
  below l c o h = child-shut (is_other_place counts) l c o h

  pub behind : (l : Label) (c o : Trees) → IsOwn (tree l c o) → IsOwn o
  behind l c o h = next-shut (is_other_place counts) l c o h

  less : (v n : ℕ) → not (nat_lt v n) ≡ false → v < n
  less v n h = grind (arith, nat_tests)

  known : (t : Trees) → IsOwn t → AreKnown counts t
  known none h = tt
  known (tree (infer s v) c o) h = (less v (counts s) (here (infer s v) c o h), known c (below (infer s v) c o h), known o (behind (infer s v) c o h))
  known (tree l c o) h = (known c (below l c o h), known o (behind l c o h))

  clean : (t : Trees) → IsOwn t → HasNoCanonical t
  clean none h = tt
  clean (tree (canonical s i) c o) h = absurd cc
  clean (tree l c o) h = (clean c (below l c o h), clean o (behind l c o h))

  pub own : (t : Trees) → speaks_of_known counts t ≡ true → IsOwn t
  own t h = not-true (some_node (is_other_place counts) t) h

  -- such a term has no other unknowns, and no canonical variable
  pub speaks-known : (t : Trees) → speaks_of_known counts t ≡ true → AreKnown counts t
  speaks-known t h = known t (own t h)

  pub speaks-clean : (t : Trees) → speaks_of_known counts t ≡ true → HasNoCanonical t
  speaks-clean t h = clean t (own t h)

-- Variables once each, by their first place.
use Rattle.std.proofs.Common.{◌≡◌, ℕ, suc, Bool, true, false, List, [], ◌∷◌, ◌++◌, map, filter, length, drop, get_or, refl, sym, ap, ◌∙◌, cond, arith, append_assoc, drop-cons}
use Rattle.std.specs.Prelude.{if◌then◌else◌, not, ◌&&◌, ◌<◌, ◌+◌}
use Rattle.std.specs.Str.{bytes_eq}
use Rattle.std.proofs.lemmas.List.{map-append}
use Rattle.std.proofs.lemmas.Cmp.{nat_list_eq_equiv}
use Rattle.type_terms.specs.Promised.Label.{Sort}
use Rattle.text_language.specs.Promised.Faults.{is_among}
use Rattle.text_language.specs.Faults.{once}
use Rattle.text_language.proofs.SameFaultsLimits.{filter-both, filter-all, seen-stays}
use Rattle.text_names.specs.Views.{variable_in}
use Rattle.text_names.specs.UsedNames.{Holds}
use Rattle.text_names.specs.declared.name_set.NameSet.{NameSet}
use Rattle.text_names.specs.declared.resolved.Variable as code
use Rattle.type_terms.proofs.BooleanBasics.{not-either}

abbrev Named : Type 0
Named = List ℕ × Sort

-- those whose names weren't seen, with the names that are seen on the way
abbrev pub unseen : List (List ℕ) → List Named → List Named
unseen seen [] = []
unseen seen (v ∷ vs) = if is_among v.0 seen then unseen seen vs else v ∷ unseen (v.0 ∷ seen) vs

-- ---- as `once`
abbrev is-unseen : List (List ℕ) → Named → Bool
is-unseen seen w = not (is_among w.0 seen)

unseen-once : (seen : List (List ℕ)) (vs : List Named) → unseen seen vs ≡ filter (is-unseen seen) (once vs)
unseen-once seen [] = refl
unseen-once seen (v ∷ vs) = by (is_among v.0 seen) refl (unseen-once seen vs) (unseen-once (v.0 ∷ seen) vs)
  where
    by : (b : Bool) → is_among v.0 seen ≡ b → unseen seen vs ≡ filter (is-unseen seen) (once vs) → unseen (v.0 ∷ seen) vs ≡ filter (is-unseen (v.0 ∷ seen)) (once vs)
        → (if b then unseen seen vs else v ∷ unseen (v.0 ∷ seen) vs) ≡ cond (not b) (v ∷ filter (is-unseen seen) (filter (λ w. not (bytes_eq w.0 v.0)) (once vs))) (filter (is-unseen seen) (filter (λ w. not (bytes_eq w.0 v.0)) (once vs)))
    by true e f g = f ∙ sym (filter-both (is-unseen seen) (λ w. not (bytes_eq w.0 v.0)) (is-unseen seen) (λ w. seen-stays w.0 v.0 seen e) (once vs))
    by false e f g =
        ap (λ z. v ∷ z)
        (g ∙ sym (filter-both (is-unseen seen) (λ w. not (bytes_eq w.0 v.0)) (is-unseen (v.0 ∷ seen)) (λ w. not-either (bytes_eq v.0 w.0) (is_among w.0 seen) ∙ ap (λ b. not b && not (is_among w.0 seen)) (nat_list_eq_equiv.symm v.0 w.0)) (once vs)))

-- ---- from the first on
pub record Firsts (all : List code.Variable) (i : ℕ) (firsts : List code.Variable) (seen : List (List ℕ)) : Type 0 where
  pub so_far : map variable_in firsts ++ unseen seen (map variable_in (drop i all)) ≡ once (map variable_in all)

pub firsts-none : (all : List code.Variable) → Firsts all 0 [] []
firsts-none all = record { so_far = unseen-once [] (map variable_in all) ∙ filter-all (once (map variable_in all)) }

-- the variable at a place and those behind it
behind : (all : List code.Variable) (i : ℕ) (d : code.Variable) → i < length all → map variable_in (drop i all) ≡ variable_in (get_or all i d) ∷ map variable_in (drop (i + 1) all)
behind all i d h =
    let e : suc i ≡ i + 1 = omega arith in
    ap (map variable_in) (drop-cons all i d h) ∙ ap (λ j. variable_in (get_or all i d) ∷ map variable_in (drop j all)) e

pub firsts-skip : (all : List code.Variable) (i : ℕ) (d : code.Variable) (firsts : List code.Variable) (seen : List (List ℕ)) → i < length all → is_among (variable_in (get_or all i d)).0 seen ≡ true → Firsts all i firsts seen → Firsts all (i + 1) firsts seen
firsts-skip all i d firsts seen h e f =
    let v = variable_in (get_or all i d) in
    let vs = map variable_in (drop (i + 1) all) in
    record { so_far = sym (ap (λ z. map variable_in firsts ++ unseen seen z) (behind all i d h) ∙ ap (λ b. map variable_in firsts ++ (if b then unseen seen vs else v ∷ unseen (v.0 ∷ seen) vs)) e) ∙ f.so_far }

pub firsts-more : (all : List code.Variable) (i : ℕ) (d : code.Variable) (firsts more : List code.Variable) (seen : List (List ℕ)) → i < length all → is_among (variable_in (get_or all i d)).0 seen ≡ false → more ≡ firsts ++ get_or all i d ∷ []
    → Firsts all i firsts seen → Firsts all (i + 1) more ((variable_in (get_or all i d)).0 ∷ seen)
firsts-more all i d firsts more seen h e m f =
    let x = get_or all i d in
    let v = variable_in x in
    let vs = map variable_in (drop (i + 1) all) in
    let rest = unseen (v.0 ∷ seen) vs in
    record {
      so_far = ap (λ z. map variable_in z ++ rest) m ∙ ap (λ z. z ++ rest) (map-append variable_in firsts (x ∷ [])) ∙ append_assoc (map variable_in firsts) (v ∷ []) rest
          ∙ sym (ap (λ z. map variable_in firsts ++ unseen seen z) (behind all i d h) ∙ ap (λ b. map variable_in firsts ++ (if b then unseen seen vs else v ∷ rest)) e) ∙ f.so_far;
    }

-- what was met holds the names that were seen
abbrev pub Seen : List code.Variable → ℕ → NameSet → List code.Variable → Type 0
Seen all i met firsts = (seen : List (List ℕ)) × Holds met seen × Firsts all i firsts seen

pub seen-more : (all : List code.Variable) (i : ℕ) (d : code.Variable) (new : NameSet) (firsts more : List code.Variable) (seen : List (List ℕ)) → i < length all → is_among (variable_in (get_or all i d)).0 seen ≡ false
    → Holds new ((variable_in (get_or all i d)).0 ∷ seen) → more ≡ firsts ++ get_or all i d ∷ [] → Firsts all i firsts seen → Seen all (i + 1) new more
seen-more all i d new firsts more seen h e k m f = ((variable_in (get_or all i d)).0 ∷ seen, k, firsts-more all i d firsts more seen h e m f)

pub seen-skip : (all : List code.Variable) (i : ℕ) (d : code.Variable) (met : NameSet) (firsts : List code.Variable) (seen : List (List ℕ)) → i < length all → is_among (variable_in (get_or all i d)).0 seen ≡ true → Holds met seen
    → Firsts all i firsts seen → Seen all (i + 1) met firsts
seen-skip all i d met firsts seen h e k f = (seen, k, firsts-skip all i d firsts seen h e f)

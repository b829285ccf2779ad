-- Variables of two kinds.
use Rattle.std.proofs.Common.{◌≡◌, ℕ, suc, ◌+◌, ◌-◌, ◌<◌, ◌≤◌, Bool, true, false, List, [], ◌∷◌, length, drop, get_or, map, refl, sym, ap, ◌∙◌, arith, drop-cons}
use Rattle.std.specs.Prelude.{if◌then◌else◌, not, ◌||◌, ◌&&◌}
use Rattle.std.specs.List.{list_any}
use Rattle.std.specs.Str.{bytes_eq}
use Rattle.std.proofs.lemmas.Cmp.{nat_list_eq_equiv}
use Rattle.type_terms.specs.Promised.Label.{Sort}
use Rattle.type_terms.specs.Promised.Trees.{is_sort}
use Rattle.text_language.specs.Promised.Faults.{is_among}
use Rattle.text_language.specs.Faults.{is_of_other_kind}
use Rattle.text_names.specs.Views.{variable_in}
use Rattle.text_names.specs.declared.resolved.Variable.{Variable}
use Rattle.text_names.specs.Variables.{other_kind_names}

and-false : (a b : Bool) → a && false || b ≡ b
and-false true b = refl
and-false false b = refl

and-true : (a b : Bool) → a && true || b ≡ a || b
and-true true b = refl
and-true false b = refl

others-among : (p : Sort) (n : List ℕ) (vs : List (List ℕ × Sort)) → list_any (is_of_other_kind (n, p)) vs ≡ is_among n (other_kind_names p vs)
others-among p n [] = refl
others-among p n ((m, q) ∷ vs) = by (is_sort p q) (others-among p n vs)
  where
    by : (b : Bool) → list_any (is_of_other_kind (n, p)) vs ≡ is_among n (other_kind_names p vs)
        → bytes_eq n m && not b || list_any (is_of_other_kind (n, p)) vs ≡ is_among n (if b then other_kind_names p vs else m ∷ other_kind_names p vs)
    by true e = and-false (bytes_eq n m) (list_any (is_of_other_kind (n, p)) vs) ∙ e
    by false e = and-true (bytes_eq n m) (list_any (is_of_other_kind (n, p)) vs) ∙ ap (λ b. b || list_any (is_of_other_kind (n, p)) vs) (nat_list_eq_equiv.symm n m) ∙ ap (λ b. bytes_eq m n || b) e

-- one more, before those from a place on
before : (vs : List Variable) (at : ℕ) (d : Variable) → 0 < at → at ≤ length vs → map variable_in (drop (at - 1) vs) ≡ variable_in (get_or vs (at - 1) d) ∷ map variable_in (drop at vs)
before vs at d h k =
    let l : at - 1 < length vs = omega arith in
    let e : suc (at - 1) ≡ at = omega arith in
    ap (map variable_in) (drop-cons vs (at - 1) d l) ∙ ap (λ j. variable_in (get_or vs (at - 1) d) ∷ map variable_in (drop j vs)) e

pub other-before : (p : Sort) (vs : List Variable) (at : ℕ) (d : Variable) → 0 < at → at ≤ length vs → is_sort p (variable_in (get_or vs (at - 1) d)).1 ≡ false
    → (variable_in (get_or vs (at - 1) d)).0 ∷ other_kind_names p (map variable_in (drop at vs)) ≡ other_kind_names p (map variable_in (drop (at - 1) vs))
other-before p vs at d h k e =
    let v = variable_in (get_or vs (at - 1) d) in
    let ns = other_kind_names p (map variable_in (drop at vs)) in
    ap (λ b. if b then ns else v.0 ∷ ns) (sym e) ∙ ap (other_kind_names p) (sym (before vs at d h k))

pub same-before : (p : Sort) (vs : List Variable) (at : ℕ) (d : Variable) → 0 < at → at ≤ length vs → is_sort p (variable_in (get_or vs (at - 1) d)).1 ≡ true
    → other_kind_names p (map variable_in (drop at vs)) ≡ other_kind_names p (map variable_in (drop (at - 1) vs))
same-before p vs at d h k e =
    let v = variable_in (get_or vs (at - 1) d) in
    let ns = other_kind_names p (map variable_in (drop at vs)) in
    ap (λ b. if b then ns else v.0 ∷ ns) (sym e) ∙ ap (other_kind_names p) (sym (before vs at d h k))

pub has-other : (x : Variable) (q : Sort) (b : Bool) (vs : List (List ℕ × Sort)) → q ≡ (variable_in x).1 → b ≡ is_among (variable_in x).0 (other_kind_names q vs) → b ≡ list_any (is_of_other_kind (variable_in x)) vs
has-other x q b vs eq eb = eb ∙ sym (others-among q (variable_in x).0 vs) ∙ ap (λ p. list_any (is_of_other_kind ((variable_in x).0, p)) vs) eq

-- one after the other
pub any-behind : (p : List ℕ × Sort → Bool) (all : List Variable) (i : ℕ) (d : Variable) → i < length all
    → list_any p (map variable_in (drop i all)) ≡ p (variable_in (get_or all i d)) || list_any p (map variable_in (drop (i + 1) all))
any-behind p all i d h = let e : suc i ≡ i + 1 = omega arith in ap (λ z. list_any p (map variable_in z)) (drop-cons all i d h) ∙ ap (λ j. p (variable_in (get_or all i d)) || list_any p (map variable_in (drop j all))) e

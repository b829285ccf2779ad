-- Terms as values of the logic, so that a contract may describe a struct by a list of terms, and equality of terms as a
-- test.
use Rattle.std.specs.Prelude.{◌≡◌, ℕ, zero, suc, Bool, true, false, refl, [], ◌∷◌, ◌==◌, ◌&&◌}
use Rattle.std.proofs.Common.{get_or, ap}
use Rattle.std.specs.Coded.{Coded, coded_ℕ, coded×, code_by}
use base.Stored.{Gv, gnil, gcons}
use Rattle.type_terms.specs.Promised.Label.{Label, Sort, of_type, of_const, of_lifetime, bool, char, str, never, array, slice, tuple, dynamic, static, int, uint, adt, fn_ptr, auto_trait, value, ref, raw_pointer, principal, param, placeholder, infer, canonical, bound, PredicateKind, of_trait, region_outlives, type_outlives, regions_equal, predicate}
use Rattle.type_terms.specs.Promised.Trees.{Trees, none, tree}

-- The kind as a number.
abbrev pub sort_number : Sort → ℕ
sort_number of_type = 0
sort_number of_const = 1
sort_number of_lifetime = 2

-- The kind with this number.
abbrev pub sort_at : ℕ → Sort
sort_at zero = of_type
sort_at (suc zero) = of_const
sort_at _ = of_lifetime

-- The truth value as a number.
abbrev pub bit : Bool → ℕ
bit false = 0
bit true = 1

-- The truth value with this number.
abbrev pub truth : ℕ → Bool
truth zero = false
truth _ = true

-- The kind of predicate as two numbers: which it is, and the number of its trait.
abbrev pub kind_numbers : PredicateKind → ℕ × ℕ
kind_numbers (of_trait t) = (0, t)
kind_numbers region_outlives = (1, 0)
kind_numbers type_outlives = (2, 0)
kind_numbers regions_equal = (3, 0)

-- The kind of predicate with these numbers.
abbrev pub kind_at : ℕ → ℕ → PredicateKind
kind_at zero t = of_trait t
kind_at (suc zero) t = region_outlives
kind_at (suc (suc zero)) t = type_outlives
kind_at _ t = regions_equal

-- The label as four numbers: which it is, and the numbers that it has.
abbrev pub numbers : Label → ℕ × (ℕ × (ℕ × ℕ))
numbers bool = (0, (0, (0, 0)))
numbers char = (1, (0, (0, 0)))
numbers str = (2, (0, (0, 0)))
numbers never = (3, (0, (0, 0)))
numbers array = (4, (0, (0, 0)))
numbers slice = (5, (0, (0, 0)))
numbers tuple = (6, (0, (0, 0)))
numbers dynamic = (7, (0, (0, 0)))
numbers static = (8, (0, (0, 0)))
numbers (int n) = (9, (n, (0, 0)))
numbers (uint n) = (10, (n, (0, 0)))
numbers (adt n) = (11, (n, (0, 0)))
numbers (fn_ptr n) = (12, (n, (0, 0)))
numbers (auto_trait n) = (13, (n, (0, 0)))
numbers (value n) = (14, (n, (0, 0)))
numbers (ref b) = (15, (bit b, (0, 0)))
numbers (raw_pointer b) = (16, (bit b, (0, 0)))
numbers (principal n t) = (17, (n, (t, 0)))
numbers (param s i) = (18, (sort_number s, (i, 0)))
numbers (placeholder s i) = (19, (sort_number s, (i, 0)))
numbers (infer s i) = (20, (sort_number s, (i, 0)))
numbers (canonical s i) = (21, (sort_number s, (i, 0)))
numbers (bound s k v) = (22, (sort_number s, (k, v)))
numbers (predicate k) = (23, ((kind_numbers k).0, ((kind_numbers k).1, 0)))

-- The label with these numbers.
abbrev pub label_at : ℕ × (ℕ × (ℕ × ℕ)) → Label
label_at (t, (a, (b, c))) =
    get_or
    (bool ∷ char ∷ str ∷ never ∷ array ∷ slice ∷ tuple ∷ dynamic ∷ static ∷ int a ∷ uint a ∷ adt a ∷ fn_ptr a ∷ auto_trait a ∷ value a
    ∷ ref (truth a) ∷ raw_pointer (truth a) ∷ principal a b ∷ param (sort_at a) b ∷ placeholder (sort_at a) b ∷ infer (sort_at a) b
    ∷ canonical (sort_at a) b ∷ bound (sort_at a) b c ∷ predicate (kind_at a b) ∷ [])
    t
    never

-- The kind with a kind's number is that kind.
sort-back : (s : Sort) → sort_at (sort_number s) ≡ s
sort-back of_type = refl
sort-back of_const = refl
sort-back of_lifetime = refl

-- The truth value with a truth value's number is that truth value.
truth-back : (b : Bool) → truth (bit b) ≡ b
truth-back true = refl
truth-back false = refl

-- The kind of predicate with the numbers of one is that one.
kind-back : (k : PredicateKind) → kind_at (kind_numbers k).0 (kind_numbers k).1 ≡ k
kind-back (of_trait t) = refl
kind-back region_outlives = refl
kind-back type_outlives = refl
kind-back regions_equal = refl

-- The label with a label's numbers is that label.
pub label_back : (l : Label) → label_at (numbers l) ≡ l
label_back (ref b) = ap ref (truth-back b)
label_back (raw_pointer b) = ap raw_pointer (truth-back b)
label_back (param s i) = ap (λ r. param r i) (sort-back s)
label_back (placeholder s i) = ap (λ r. placeholder r i) (sort-back s)
label_back (infer s i) = ap (λ r. infer r i) (sort-back s)
label_back (canonical s i) = ap (λ r. canonical r i) (sort-back s)
label_back (bound s k v) = ap (λ r. bound r k v) (sort-back s)
label_back (predicate k) = ap predicate (kind-back k)
label_back l = refl

-- The code of labels.
abbrev pub label_code : Coded Label
label_code = code_by (ℕ × (ℕ × (ℕ × ℕ))) (coded× coded_ℕ (coded× coded_ℕ (coded× coded_ℕ coded_ℕ))) numbers label_at label_back

-- The terms as a value of the logic.
abbrev stored : Trees → Gv
stored none = gnil
stored (tree l c o) = gcons (label_code.code l) (gcons (stored c) (stored o))

-- The first part of a pair of values.
abbrev first : Gv → Gv
first (gcons a b) = a
first _ = gnil

-- The second part of a pair of values.
abbrev rest : Gv → Gv
rest (gcons a b) = b
rest _ = gnil

-- Different terms are different values.
pub one_to_one : (x y : Trees) → stored x ≡ stored y → x ≡ y
one_to_one none none e = refl
one_to_one none (tree l c o) e = cc
one_to_one (tree l c o) none e = cc
one_to_one (tree l c o) (tree m d p) e =
    let same : l ≡ m = label_code.inj l m (ap first e) in
    let children : c ≡ d = one_to_one c d (ap (λ g. first (rest g)) e) in
    let others : o ≡ p = one_to_one o p (ap (λ g. rest (rest g)) e) in
    cc

-- The code of terms.
abbrev pub trees_code : Coded Trees
trees_code = record { code = stored; inj = one_to_one }

-- The numbers of two labels are equal.
abbrev pub same_numbers : ℕ × (ℕ × (ℕ × ℕ)) → ℕ × (ℕ × (ℕ × ℕ)) → Bool
same_numbers (a, (b, (c, d))) (e, (f, (g, h))) = (a == e) && ((b == f) && ((c == g) && (d == h)))

-- The two labels are equal.
abbrev pub same_label : Label → Label → Bool
same_label l m = same_numbers (numbers l) (numbers m)

-- The two terms are equal.
abbrev pub same : Trees → Trees → Bool
same none none = true
same none (tree m d p) = false
same (tree l c o) none = false
same (tree l c o) (tree m d p) = same_label l m && (same c d && same o p)

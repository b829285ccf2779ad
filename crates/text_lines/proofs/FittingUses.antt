-- What a line without a fault uses fits, and it keeps the limits.
use Rattle.std.proofs.Common.{◌≡◌, ◌^◌, Bool, false, not, List, [], ◌∷◌, length, None, count_by}
use Rattle.std.specs.Prelude.{◌||◌, nat_lt, if◌then◌else◌}
use Rattle.std.specs.List.{list_any}
use Rattle.std.specs.Option.{option_map_or}
use Rattle.std.specs.Str.{bytes_eq}
use Rattle.std.proofs.lemmas.Bool.{leb-false, ltb-false}
use Rattle.text_language.specs.Promised.Syntax.{Line}
use Rattle.text_language.specs.Promised.Declarations.{Declarations, known, kinds_of}
use Rattle.text_language.specs.Uses.{Use, crate_use, name_use, trait_use, lifetime_use, binder_use, variable_use, misfit_use, dyn_use, items_use, number_use, uses, asked_uses, params_of, line_depth}
use Rattle.text_language.specs.Faults.{fault_of, is_unknown_use, is_other_sort, is_bad_dyn, passes_in, is_full, has_long_name, is_line_param, is_param_of, is_type_of, is_trait_of, static_name, is_in_scope, is_bound, parts, once, variables_in, param_limit, part_limit, list_limit, variable_limit, depth_limit}
use Rattle.text_language.specs.Promised.Faults.{with_own}
use Rattle.text_lines.specs.Faultless.{names_crate, UseFits, UsesFit, KeepsLimits}
use Rattle.text_lines.proofs.NoFault.{or-first, or-second, not-false, passes-tests}
use Rattle.type_terms.proofs.BooleanBasics.{true-false as not-both}

use-fits : (d : Declarations) (l : Line) (u : Use) → is_unknown_use d l u ≡ false → is_other_sort d l u ≡ false → is_bad_dyn (with_own d l) u ≡ false → passes_in u ≡ false → UseFits d l u
use-fits d l (crate_use n) a b c e = not-false (names_crate d n) b
use-fits d l (name_use p n k) a b c e = not-false (if is_line_param l n then is_param_of l p n k else option_map_or (is_type_of p k) (known (with_own d l) n) false) b
use-fits d l (trait_use n k) a b c e = (
  or-first (is_line_param l n) (not (option_map_or (is_trait_of k) (known (with_own d l) n) false)) b,
  not-false (option_map_or (is_trait_of k) (known (with_own d l) n) false) (or-second (is_line_param l n) (not (option_map_or (is_trait_of k) (known (with_own d l) n) false)) b),
)
use-fits d l (lifetime_use s n) a b c e = not-false (bytes_eq n static_name || is_in_scope l s n) a
use-fits d l (binder_use s ns) a b c e = tt
use-fits d l (variable_use p n) a b c e = tt
use-fits d l misfit_use a b c e = not-both b
use-fits d l (dyn_use is) a b c e = (c, ltb-false part_limit (count_by is_bound is) e)
use-fits d l (items_use k) a b c e = ltb-false list_limit k e
use-fits d l (number_use n) a b c e = leb-false (2 ^ 64) n e

uses-fit :
    (d : Declarations) (l : Line) (us : List Use)
    → list_any (is_unknown_use d l) us ≡ false → list_any (is_other_sort d l) us ≡ false → list_any (is_bad_dyn (with_own d l)) us ≡ false → list_any passes_in us ≡ false → UsesFit d l us
uses-fit d l [] a b c e = tt
uses-fit d l (u ∷ us) a b c e =
    let x = is_unknown_use d l in
    let y = is_other_sort d l in
    let z = is_bad_dyn (with_own d l) in (
      use-fits d l u (or-first (x u) (list_any x us) a) (or-first (y u) (list_any y us) b) (or-first (z u) (list_any z us) c) (or-first (passes_in u) (list_any passes_in us) e),
      uses-fit d l us (or-second (x u) (list_any x us) a) (or-second (y u) (list_any y us) b) (or-second (z u) (list_any z us) c) (or-second (passes_in u) (list_any passes_in us) e),
    )

-- of seven that none holds
abbrev Seven : (a b c d e f g : Bool) → Type 0
Seven a b c d e f g = (a ≡ false) × ((b ≡ false) × ((c ≡ false) × ((d ≡ false) × ((e ≡ false) × ((f ≡ false) × (g ≡ false))))))

seven : (a b c d e f g : Bool) → a || (b || (c || (d || (e || (f || g))))) ≡ false → Seven a b c d e f g
seven a b c d e f g h =
    let i = or-second a (b || (c || (d || (e || (f || g))))) h in
    let j = or-second b (c || (d || (e || (f || g)))) i in
    let k = or-second c (d || (e || (f || g))) j in
    let m = or-second d (e || (f || g)) k in
    let n = or-second e (f || g) m in
    (or-first a (b || (c || (d || (e || (f || g))))) h, (or-first b (c || (d || (e || (f || g)))) i, (or-first c (d || (e || (f || g))) j, (or-first d (e || (f || g)) k, (or-first e (f || g) m, (or-first f g n, or-second f g n))))))

limits : (d : Declarations) (l : Line) → fault_of d l ≡ None → Seven (is_full d l) (has_long_name l) (nat_lt param_limit (length (kinds_of (params_of l)))) (nat_lt part_limit (parts l)) (nat_lt depth_limit (line_depth (with_own d l) l)) (nat_lt variable_limit (length (once (variables_in (asked_uses d l))))) (list_any passes_in (uses (with_own d l) l))
limits d l e =
    seven (is_full d l) (has_long_name l) (nat_lt param_limit (length (kinds_of (params_of l)))) (nat_lt part_limit (parts l)) (nat_lt depth_limit (line_depth (with_own d l) l)) (nat_lt variable_limit (length (once (variables_in (asked_uses d l))))) (list_any passes_in (uses (with_own d l) l))
    (passes-tests d l e).keeps_limits

pub faultless-uses : (d : Declarations) (l : Line) → fault_of d l ≡ None → UsesFit d l (uses (with_own d l) l)
faultless-uses d l e =
    let t = passes-tests d l e in
    uses-fit d l (uses (with_own d l) l) t.has_known_names t.has_fitting_sorts t.has_good_dyn (limits d l e).1.1.1.1.1.1

pub faultless-limits : (d : Declarations) (l : Line) → fault_of d l ≡ None → KeepsLimits d l
faultless-limits d l e =
    let k = limits d l e in
    record {
      params = ltb-false param_limit (length (kinds_of (params_of l))) k.1.1.0;
      lists = ltb-false part_limit (parts l) k.1.1.1.0;
      depth = ltb-false depth_limit (line_depth (with_own d l) l) k.1.1.1.1.0;
      variables = ltb-false variable_limit (length (once (variables_in (asked_uses d l)))) k.1.1.1.1.1.0;
    }

-- Stacks of parts: what types, arguments and the auto traits of a `dyn` put there, and what is taken off again.
use Rattle.std.proofs.Common.{◌≡◌, ℕ, suc, ◌+◌, ◌≤◌, Bool, true, false, List, [], ◌∷◌, length, Option, Some, None, refl, ap, ◌∙◌, arith}
use Rattle.std.specs.Prelude.{◌==◌, nat_lt, if◌then◌else◌}
use Rattle.std.proofs.lemmas.Bool.Decides.{nat_tests}
use Rattle.type_terms.specs.Promised.Label.{Sort, of_type, of_const, of_lifetime}
use Rattle.text_language.specs.Promised.Syntax.{Types, no_types, and_type, Args, no_args, and_arg, Arg, lifetime_arg, number_arg, type_arg}
use Rattle.text_language.specs.Uses.{types_count, args_count, next_kind, other_kinds}
use Rattle.text_language.specs.Lowering.{inserted}
use Rattle.text_tables.specs.Made.{StackPart, type_part, const_part, lifetime_part, auto_part, is_type, is_arg, is_below, off, off_autos}

-- ---- types
abbrev pub types_parts : Types → List StackPart → List StackPart
types_parts no_types S = S
types_parts (and_type t ts) S = types_parts ts (type_part ∷ S)

types-off : (ts : Types) (j : ℕ) (S : List StackPart) → off is_type (types_count ts + j) (types_parts ts S) ≡ off is_type j S
types-off no_types j S = let e : 0 + j ≡ j = omega arith in ap (λ k. off is_type k S) e
types-off (and_type t ts) j S =
    let e : suc (types_count ts) + j ≡ types_count ts + suc j = omega arith in
    ap (λ k. off is_type k (types_parts ts (type_part ∷ S))) e ∙ types-off ts (suc j) (type_part ∷ S)

pub types-gone : (ts : Types) (S : List StackPart) → off is_type (types_count ts) (types_parts ts S) ≡ Some S
types-gone ts S = let e : types_count ts ≡ types_count ts + 0 = omega arith in ap (λ k. off is_type k (types_parts ts S)) e ∙ types-off ts 0 S

-- ---- arguments
abbrev pub arg_part : Sort → Arg → StackPart
arg_part p (lifetime_arg n) = lifetime_part
arg_part p (number_arg n) = const_part
arg_part of_const (type_arg t) = const_part
arg_part p (type_arg t) = type_part

abbrev pub args_parts : List Sort → Args → List StackPart → List StackPart
args_parts ks no_args S = S
args_parts ks (and_arg a args) S = args_parts (other_kinds ks) args (arg_part (next_kind ks) a ∷ S)

pub arg-is : (p : Sort) (a : Arg) → is_arg (arg_part p a) ≡ true
arg-is p (lifetime_arg n) = refl
arg-is p (number_arg n) = refl
arg-is of_type (type_arg t) = refl
arg-is of_const (type_arg t) = refl
arg-is of_lifetime (type_arg t) = refl

one-off : (p : StackPart → Bool) (x : StackPart) (j : ℕ) (S : List StackPart) → p x ≡ true → off p (suc j) (x ∷ S) ≡ off p j S
one-off p x j S h = ap (λ b. if b then off p j S else None) h

args-off : (ks : List Sort) (args : Args) (j : ℕ) (S : List StackPart) → off is_arg (args_count args + j) (args_parts ks args S) ≡ off is_arg j S
args-off ks no_args j S = let e : 0 + j ≡ j = omega arith in ap (λ k. off is_arg k S) e
args-off ks (and_arg a args) j S =
    let e : suc (args_count args) + j ≡ args_count args + suc j = omega arith in
    ap (λ k. off is_arg k (args_parts (other_kinds ks) args (arg_part (next_kind ks) a ∷ S))) e ∙ args-off (other_kinds ks) args (suc j) (arg_part (next_kind ks) a ∷ S)
    ∙ one-off is_arg (arg_part (next_kind ks) a) j S (arg-is (next_kind ks) a)

pub args-gone : (ks : List Sort) (args : Args) (S : List StackPart) → off is_arg (args_count args) (args_parts ks args S) ≡ Some S
args-gone ks args S = let e : args_count args ≡ args_count args + 0 = omega arith in ap (λ k. off is_arg k (args_parts ks args S)) e ∙ args-off ks args 0 S

-- ---- the auto traits of a `dyn`
abbrev pub auto_parts : List ℕ → List StackPart → List StackPart
auto_parts [] S = S
auto_parts (n ∷ ns) S = auto_parts ns (auto_part n ∷ S)

abbrev pub first_of : List ℕ → Option ℕ
first_of [] = None
first_of (n ∷ ns) = Some n

-- each is below the next
abbrev pub Rises : List ℕ → Type 0
Rises [] = Unit {0}
Rises (n ∷ ns) = (is_below n (first_of ns) ≡ true) × Rises ns

one-auto : (n j : ℕ) (u : Option ℕ) (S : List StackPart) → is_below n u ≡ true → off_autos (suc j) u (auto_part n ∷ S) ≡ off_autos j (Some n) S
one-auto n j u S h = ap (λ b. if b then off_autos j (Some n) S else None) h

autos-off : (ns : List ℕ) (j : ℕ) (S : List StackPart) → Rises ns → off_autos (length ns + j) None (auto_parts ns S) ≡ off_autos j (first_of ns) S
autos-off [] j S r = let e : 0 + j ≡ j = omega arith in ap (λ k. off_autos k None S) e
autos-off (n ∷ ns) j S r =
    let e : suc (length ns) + j ≡ length ns + suc j = omega arith in
    ap (λ k. off_autos k None (auto_parts ns (auto_part n ∷ S))) e ∙ autos-off ns (suc j) (auto_part n ∷ S) r.1 ∙ one-auto n j (first_of ns) S r.0

pub autos-gone : (ns : List ℕ) (S : List StackPart) → Rises ns → off_autos (length ns) None (auto_parts ns S) ≡ Some S
autos-gone ns S r = let e : length ns ≡ length ns + 0 = omega arith in ap (λ k. off_autos k None (auto_parts ns S)) e ∙ autos-off ns 0 S r

-- ---- sorted numbers
below-other : (n m : ℕ) → (n == m) ≡ false → nat_lt n m ≡ false → nat_lt m n ≡ true
below-other n m e h = grind (arith, nat_tests, e, h)

if-below : (b : Bool) (n m k : ℕ) (ms : List ℕ) → nat_lt n m ≡ b → (nat_lt k n ≡ true) → (nat_lt k m ≡ true) → is_below k (first_of (if b then n ∷ m ∷ ms else m ∷ inserted n ms)) ≡ true
if-below true n m k ms e h g = h
if-below false n m k ms e h g = g

if-first : (b : Bool) (n m k : ℕ) (ms : List ℕ) → nat_lt k n ≡ true → nat_lt k m ≡ true → is_below k (first_of (if b then m ∷ ms else (if nat_lt n m then n ∷ m ∷ ms else m ∷ inserted n ms))) ≡ true
if-first true n m k ms h g = g
if-first false n m k ms h g = if-below (nat_lt n m) n m k ms refl h g

-- what is below both is below the first
below-first : (n k : ℕ) (ms : List ℕ) → nat_lt k n ≡ true → is_below k (first_of ms) ≡ true → is_below k (first_of (inserted n ms)) ≡ true
below-first n k [] h g = h
below-first n k (m ∷ ms) h g = if-first (n == m) n m k ms h g

-- P of both ways
if-both : (P : List ℕ → Type 0) (b : Bool) (x y : List ℕ) → (b ≡ true → P x) → (b ≡ false → P y) → P (if b then x else y)
if-both P true x y f g = f refl
if-both P false x y f g = g refl

pub inserted-rises : (n : ℕ) (ns : List ℕ) → Rises ns → Rises (inserted n ns)
inserted-rises n [] r = (refl, tt)
inserted-rises n (m ∷ ms) r =
    if-both Rises (n == m) (m ∷ ms) (if nat_lt n m then n ∷ m ∷ ms else m ∷ inserted n ms) (λ e. r)
    (λ e. if-both Rises (nat_lt n m) (n ∷ m ∷ ms) (m ∷ inserted n ms) (λ h. (h, r)) (λ h. (below-first n m ms (below-other n m e h) r.0, inserted-rises n ms r.1)))

pub inserted-length : (n : ℕ) (ns : List ℕ) → length (inserted n ns) ≤ suc (length ns)
inserted-length n [] = omega arith
inserted-length n (m ∷ ms) =
    let P = λ (xs : List ℕ). length xs ≤ suc (suc (length ms)) in
    let h = inserted-length n ms in
    if-both P (n == m) (m ∷ ms) (if nat_lt n m then n ∷ m ∷ ms else m ∷ inserted n ms) (λ e. omega arith) (λ e. if-both P (nat_lt n m) (n ∷ m ∷ ms) (m ∷ inserted n ms) (λ g. omega arith) (λ g. omega (arith, h)))

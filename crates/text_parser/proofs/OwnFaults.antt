-- The fault that a line has by itself, and what comes of a line with it.
use Rattle.std.proofs.Common.{◌≡◌, ℕ, ◌<◌, ◌≤◌, min, Bool, true, false, ◌||◌, if◌then◌else◌, List, [], ◌∷◌, ◌++◌, map, fold, Option, Some, None, refl, sym, ap, ◌∙◌, subst, arith}
use Rattle.std.specs.List.{list_any, reduce}
use Rattle.std.specs.Option.{option_map, option_to_list}
use Rattle.std.proofs.Math.Nat.{min-eq_left, min-eq_right}
use Rattle.text_language.specs.Adding.{added}
use Rattle.text_language.specs.Agreement.{plain, plain_bound, lacks_types}
use Rattle.text_language.specs.Faults.{fault_of}
use Rattle.text_language.specs.Promised.Declarations.{Declarations}
use Rattle.text_language.specs.Promised.Desugared.{companion_name, and_value, leaves_out, is_ill_bound, has_many_types, own_faults, desugared}
use Rattle.text_language.specs.Promised.Syntax.{Args, Bound, Line, crate_line, struct_line, trait_line, impl_line, prove_line, refute_line, later_line, supers_line, Binding, WrittenBound, WrittenLine, written_crate, written_struct, written_trait, written_impl, written_prove, written_refute, written_later, written_supers}
use Rattle.text_language.specs.Promised.Written.{is_overlong}
use Rattle.text_language.specs.Text.{first_of, fault_written}
use Rattle.text_language.proofs.PlainLines.{fault-alone, added-alone}
use Rattle.text_lines.specs.Lines.{ReadsLine}
use Rattle.text_lines.specs.Pieces.{names_in}
use Rattle.text_lines.specs.TypedLines.{NamesHeader, AreNamesFor, IsHeaderFor, header_of, is_ill_alone}
use Rattle.text_lines.specs.declared.statement.LineRead.{LineRead}
use Rattle.text_lines.specs.declared.typed_line.HeaderNames.{HeaderNames}
use Rattle.text_names.specs.FaultNumbers.{fault_number}
use Rattle.text_names.specs.Header.{trait_of_impl}
use Rattle.text_names.specs.declared.fault.FaultKind.{FaultKind}
use Rattle.text_names.specs.declared.fault.FaultKind.TheVariants as kinds
use Rattle.text_tables.specs.Tables.{has_name_besides}
use Rattle.text_parser.specs.Declaring.{FindsFault, AddsLine}
use Rattle.text_parser.specs.Lists.{ComesTo}
use Rattle.text_parser.specs.WrittenLines.{lacks_given, with_own, TakesWritten}

-- ---- types that are not given
companions : (t : List ℕ) (args : Args) (vs : List Binding)
    → map (companion_name t) (map (λ v. v.name) vs) ≡ map (λ (c : Bound). c.trait) (map (λ (v : Binding). record { trait = companion_name t v.name; args = and_value args v.value }) vs)
companions t args [] = refl
companions t args (v ∷ vs) = ap (λ z. companion_name t v.name ∷ z) (companions t args vs)

-- some trait has a name of a companion, and is none of these
abbrev any_besides : Declarations → List ℕ → List (List ℕ) → Bool
any_besides d front names = list_any (λ t. has_name_besides front names t.text) d.traits

pub left-out : (d : Declarations) (b : WrittenBound) (h : HeaderNames) → NamesHeader b.bound.trait (map (λ v. v.name) b.bindings) h
    → lacks_given d h ≡ leaves_out d b
left-out d b h n =
    let t = b.bound.trait in
    ap (λ z. any_besides d z (names_in h.names.items)) n.front ∙ ap (any_besides d (companion_name t [])) (n.names ∙ ap (λ z. t ∷ z) (companions t b.bound.args b.bindings))

-- of a line without types
pub lacks-none : (d : Declarations) (l : Line) → None ≡ trait_of_impl l → false ≡ lacks_types d l
lacks-none d (impl_line ps h ks) e = absurd cc
lacks-none d (crate_line n us) e = refl
lacks-none d (struct_line f n ps fs) e = refl
lacks-none d (trait_line f a n ps bs) e = refl
lacks-none d (prove_line c ps k bs ks) e = refl
lacks-none d (refute_line c ps k bs) e = refl
lacks-none d (later_line n) e = refl
lacks-none d (supers_line n) e = refl

same-name : {n m : List ℕ} → Some n ≡ Some m → n ≡ m
same-name e = cc

pub lacks-some : (d : Declarations) (l : Line) (t : List ℕ) (h : HeaderNames) → Some t ≡ trait_of_impl l → NamesHeader t [] h → lacks_given d h ≡ lacks_types d l
lacks-some d (impl_line ps k ks) t h e n = left-out d (plain_bound k.bound) h (subst (λ z. NamesHeader z [] h) (same-name e) n)
lacks-some d (crate_line m us) t h e n = absurd cc
lacks-some d (struct_line f m ps fs) t h e n = absurd cc
lacks-some d (trait_line f a m ps bs) t h e n = absurd cc
lacks-some d (prove_line c ps k bs ks) t h e n = absurd cc
lacks-some d (refute_line c ps k bs) t h e n = absurd cc
lacks-some d (later_line m) t h e n = absurd cc
lacks-some d (supers_line m) t h e n = absurd cc

-- of a line with types
pub ill-alone : (d : Declarations) (w : WrittenLine) → AreNamesFor (header_of w) None → is_ill_alone w ≡ is_ill_bound d w
ill-alone d (written_impl ps h ks) e = absurd e
ill-alone d (written_trait f a n ps bs ts) e = refl
ill-alone d (written_prove c ps a bs ks) e = refl
ill-alone d (written_refute c ps a bs) e = refl
ill-alone d (written_crate n us) e = refl
ill-alone d (written_struct f n ps fs) e = refl
ill-alone d (written_later n) e = refl
ill-alone d (written_supers n) e = refl

pub ill-header : (d : Declarations) (w : WrittenLine) (h : HeaderNames) → AreNamesFor (header_of w) (Some h) → lacks_given d h || is_ill_alone w ≡ is_ill_bound d w
ill-header d (written_impl ps k ks) h n = ap (λ z. z || is_ill_alone (written_impl ps k ks)) (left-out d k.bound h n)
ill-header d (written_trait f a m ps bs ts) h n = absurd n
ill-header d (written_prove c ps a bs ks) h n = absurd n
ill-header d (written_refute c ps a bs) h n = absurd n
ill-header d (written_crate m us) h n = absurd n
ill-header d (written_struct f m ps fs) h n = absurd n
ill-header d (written_later m) h n = absurd n
ill-header d (written_supers m) h n = absurd n

pub header-none : (d : Declarations) (w : WrittenLine) (o : Option HeaderNames) → o ≡ None → IsHeaderFor w o → is_ill_alone w ≡ is_ill_bound d w
header-none d w o is n = ill-alone d w (subst (λ (z : Option HeaderNames). IsHeaderFor w z) is n)

pub header-some : (d : Declarations) (w : WrittenLine) (o : Option HeaderNames) (h : HeaderNames) (a b : Bool) → o ≡ Some h → IsHeaderFor w o → a ≡ lacks_given d h → b ≡ is_ill_alone w → a || b ≡ is_ill_bound d w
header-some d w o h a b is n lacks ill =
    ap (λ z. z || b) lacks ∙ ap (λ z. lacks_given d h || z) ill ∙ ill-header d w h (subst (λ (z : Option HeaderNames). IsHeaderFor w z) is n)

-- ---- the smaller number
pub own-none : (o : Option ℕ) → o ≡ with_own o false
own-none None = refl
own-none (Some n) = refl

pub own-above : (n : ℕ) → 7 ≤ n → Some 7 ≡ with_own (Some n) true
own-above n h = ap Some (sym (min-eq_right h))

pub own-below : (n : ℕ) → n < 7 → Some n ≡ with_own (Some n) true
own-below n h = ap Some (sym (min-eq_left (omega (arith, h))))

-- ---- what comes of a line
number-found : (found : Option FaultKind) (e f : Declarations) (o : Option ℕ) → ComesTo found e o f → option_map fault_number found ≡ o
number-found None e f o h = sym h.0
number-found (Some k) e f o h = sym h

no-own : (found : Option FaultKind) (is_ill : Bool) → None ≡ with_own (option_map fault_number found) is_ill → found ≡ None
no-own None is_ill h = refl
no-own (Some k) true h = absurd cc
no-own (Some k) false h = absurd cc

pub own-comes : (found r : Option FaultKind) (is_ill : Bool) (e f : Declarations) (o : Option ℕ)
    → ComesTo found e o f → option_map fault_number r ≡ with_own (option_map fault_number found) is_ill → ComesTo r e (with_own o is_ill) f
own-comes found (Some k) is_ill e f o h is = ap (λ z. with_own z is_ill) (sym (number-found found e f o h)) ∙ sym is
own-comes found None is_ill e f o h is =
    let none = no-own found is_ill is in
    let both : (o ≡ None) × (e ≡ f) = subst (λ z. ComesTo z e o f) none h in
    (ap (λ z. with_own z is_ill) (sym (number-found found e f o h)) ∙ sym is, both.1)

-- a line without types
pub plain-found : (d e : Declarations) (l : Line) (read : LineRead) (found : Option FaultKind) → ReadsLine l read → FindsFault d read found → (found ≡ None → AddsLine d read e) → ComesTo found e (fault_of d l) (added d l)
plain-found d e l read None r finds new = (sym (finds l r), new refl l r)
plain-found d e l read (Some k) r finds new = sym (finds l r)

pub plain-fault : (d : Declarations) (line : List ℕ) (l : Line) (is_ill : Bool) → is_overlong line ≡ false → is_ill ≡ lacks_types d l → with_own (fault_of d l) is_ill ≡ fault_written d line (plain l)
plain-fault d line l is_ill short ill = ap (with_own (fault_of d l)) ill ∙ sym (fault-alone d line l short)

pub plain-comes : (d e : Declarations) (line : List ℕ) (l : Line) (found r : Option FaultKind) (is_ill : Bool) → is_overlong line ≡ false → ComesTo found e (fault_of d l) (added d l) → is_ill ≡ lacks_types d l
    → option_map fault_number r ≡ with_own (option_map fault_number found) is_ill → TakesWritten d line (plain l) r e
plain-comes d e line l found r is_ill short h ill is =
    subst (λ (z : Declarations). ComesTo r e (fault_written d line (plain l)) z) (sym (added-alone d l))
    (subst (λ (z : Option ℕ). ComesTo r e z (added d l)) (plain-fault d line l is_ill short ill) (own-comes found r is_ill e (added d l) (fault_of d l) h is))

-- a line with types
pub typed-fault : (d : Declarations) (line : List ℕ) (w : WrittenLine) (is_ill : Bool) → is_overlong line ≡ false → has_many_types w ≡ false → is_ill ≡ is_ill_bound d w
    → with_own (first_of d (desugared w)) is_ill ≡ fault_written d line w
typed-fault d line w is_ill short few ill =
    let whole : Option ℕ = reduce min (option_to_list (first_of d (desugared w)) ++ own_faults d w) in
    ap (with_own (first_of d (desugared w))) ill
    ∙ sym (ap (λ (b : Bool). if b || has_many_types w then Some 16 else whole) short ∙ ap (λ (b : Bool). if b then Some 16 else whole) few)

pub typed-comes : (d e : Declarations) (line : List ℕ) (w : WrittenLine) (found r : Option FaultKind) (is_ill : Bool) → is_overlong line ≡ false → has_many_types w ≡ false
    → ComesTo found e (first_of d (desugared w)) (fold added d (desugared w)) → is_ill ≡ is_ill_bound d w
    → option_map fault_number r ≡ with_own (option_map fault_number found) is_ill → TakesWritten d line w r e
typed-comes d e line w found r is_ill short few h ill is =
    subst (λ (z : Option ℕ). ComesTo r e z (fold added d (desugared w))) (typed-fault d line w is_ill short few ill)
    (own-comes found r is_ill e (fold added d (desugared w)) (first_of d (desugared w)) h is)

-- a line that would stand for too much
pub overlong-fault : (d : Declarations) (line : List ℕ) (w : WrittenLine) → is_overlong line ≡ true → fault_written d line w ≡ Some 16
overlong-fault d line w long =
    ap (λ (b : Bool). if b || has_many_types w then Some 16 else reduce min (option_to_list (first_of d (desugared w)) ++ own_faults d w)) long

pub many-fault : (d : Declarations) (line : List ℕ) (w : WrittenLine) → has_many_types w ≡ true → fault_written d line w ≡ Some 16
many-fault d line w many =
    ap (λ (b : Bool). if is_overlong line || b then Some 16 else reduce min (option_to_list (first_of d (desugared w)) ++ own_faults d w)) many ∙ or-true (is_overlong line)
  where
    or-true : (b : Bool) → (if b || true then Some 16 else reduce min (option_to_list (first_of d (desugared w)) ++ own_faults d w)) ≡ Some 16
    or-true true = refl
    or-true false = refl

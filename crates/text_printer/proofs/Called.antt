-- Names of parameters and variables of one kind.
use Rattle.std.proofs.Common.{◌≡◌, ℕ, suc, ◌+◌, Bool, true, false, cond, List, [], ◌∷◌, ◌++◌, map, Option, Some, None, refl, sym, ap, ◌∙◌}
use Rattle.std.proofs.lemmas.Option.{slice_get-map}
use Rattle.std.specs.Prelude.{slice_get, filter, codes, length}
use Rattle.std.specs.Option.{option_map, option_map_or}
use Rattle.type_terms.specs.Promised.Label.{Sort}
use Rattle.type_terms.specs.Promised.Trees.{is_sort}
use Rattle.std.specs.Fmt.{decimal}
use Rattle.text_language.specs.Output.{place_in, unknown_text}
use Rattle.text_language.specs.Promised.Declarations.{Variable}
use Rattle.text_language.specs.Names.{variables_of_kind, text_at, param_texts}
use Rattle.text_tables.specs.Views.{sort_of_kind, sorted_params, variable_of}
use Rattle.text_tables.specs.declared.declared.Param.{Param}
use Rattle.type_terms.proofs.NumberBasics.{plus-one as one-up}

abbrev pub of_sort : Sort → List Param → List Param
of_sort s ps = filter (λ p. is_sort (sort_of_kind p.kind) s) ps

filter-read : {A B : Type 0} (f : A → B) (p : B → Bool) (xs : List A) → filter p (map f xs) ≡ map f (filter (λ x. p (f x)) xs)
filter-read f p [] = refl
filter-read {A = A} {B = B} f p (x ∷ xs) = by (p (f x)) (filter-read f p xs)
  where
    by : (b : Bool) → filter p (map f xs) ≡ map f (filter (λ y. p (f y)) xs)
        → cond b (f x ∷ filter p (map f xs)) (filter p (map f xs)) ≡ map f (cond b (x ∷ filter (λ y. p (f y)) xs) (filter (λ y. p (f y)) xs))
    by true e = ap (λ l. f x ∷ l) e
    by false e = e

twice : {A B C : Type 0} (f : A → B) (g : B → C) (xs : List A) → map g (map f xs) ≡ map (λ x. g (f x)) xs
twice f g [] = refl
twice f g (x ∷ xs) = ap (λ l. g (f x) ∷ l) (twice f g xs)

read-or : {A B C : Type 0} (f : A → B) (g : B → C) (o : Option A) (d : C) → option_map_or (λ x. g (f x)) o d ≡ option_map_or g (option_map f o) d
read-or f g None d = refl
read-or f g (Some x) d = refl

texts-same : (s : Sort) (ps : List Param) → param_texts (sorted_params ps) s ≡ map (λ p. p.name.items) (of_sort s ps)
texts-same s ps =
    ap (map (λ q. q.0)) (filter-read (λ (p : Param). (p.name.items, sort_of_kind p.kind)) (λ q. is_sort q.1 s) ps) ∙ twice (λ (p : Param). (p.name.items, sort_of_kind p.kind)) (λ q. q.0) (of_sort s ps)

pub header-called : (s : Sort) (ps : List Param) (i : ℕ) (o : Option Param) → o ≡ slice_get (of_sort s ps) i → option_map_or (λ p. p.name.items) o [] ≡ text_at (param_texts (sorted_params ps) s) i
header-called s ps i o e =
    ap (λ z. option_map_or (λ (p : Param). p.name.items) z []) e ∙ read-or (λ (p : Param). p.name.items) (λ n. n) (slice_get (of_sort s ps) i) []
    ∙ ap (λ z. option_map_or (λ n. n) z []) (sym (slice_get-map (λ (p : Param). p.name.items) (of_sort s ps) i)) ∙ ap (λ l. text_at l i) (sym (texts-same s ps))

pub question-called : (s : Sort) (vs : List Param) (i : ℕ) (other : List ℕ) (o : Option Param) → o ≡ slice_get (of_sort s vs) i
    → option_map_or (λ p. codes "?" ++ p.name.items) o other ≡ option_map_or (λ v. codes "?" ++ v.text) (slice_get (variables_of_kind s (map variable_of vs)) i) other
question-called s vs i other o e =
    ap (λ z. option_map_or (λ (p : Param). codes "?" ++ p.name.items) z other) e ∙ read-or variable_of (λ (v : Variable). codes "?" ++ v.text) (slice_get (of_sort s vs) i) other
    ∙ ap (λ z. option_map_or (λ (v : Variable). codes "?" ++ v.text) z other) (sym (slice_get-map variable_of (of_sort s vs) i))
    ∙ ap (λ l. option_map_or (λ (v : Variable). codes "?" ++ v.text) (slice_get l i) other) (sym (filter-read variable_of (λ (v : Variable). is_sort v.kind s) vs))

pub numbered-called : (us : List (Sort × ℕ)) (s : Sort) (i n : ℕ) → n ≡ place_in s i us → codes "?" ++ decimal (n + 1) ≡ unknown_text us s i
numbered-called us s i n e = ap (λ m. codes "?" ++ decimal m) (one-up n ∙ ap suc e)

length-map : {A B : Type 0} (f : A → B) (xs : List A) → length xs ≡ length (map f xs)
length-map f [] = refl
length-map f (x ∷ xs) = ap suc (length-map f xs)

-- as many parameters are of a sort as variables
pub own-read : (s : Sort) (vs : List Param) → length (of_sort s vs) ≡ length (variables_of_kind s (map variable_of vs))
own-read s vs = length-map variable_of (of_sort s vs) ∙ ap length (sym (filter-read variable_of (λ (v : Variable). is_sort v.kind s) vs))

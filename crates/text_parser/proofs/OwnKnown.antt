-- What a name stands for beside the line's own struct or trait.
use Rattle.std.proofs.Common.{◌≡◌, ℕ, Bool, true, false, List, [], ◌∷◌, ◌++◌, Option, Some, None, refl, sym, ap, ◌∙◌}
use Rattle.std.proofs.lemmas.List.Folds.{find-append}
use Rattle.std.specs.Prelude.{if◌then◌else◌, find, length}
use Rattle.type_terms.specs.Promised.Label.{Sort}
use Rattle.text_language.specs.Promised.Syntax.{Params}
use Rattle.text_language.specs.Promised.Faults.{own_struct, own_trait}
use Rattle.std.specs.Option.{option_map, option_or}
use Rattle.std.specs.Str.{bytes_eq}
use Rattle.text_language.specs.Promised.Declarations.{Declarations, NamedCrate, NamedStruct, NamedTrait, Known, a_crate, a_struct, a_trait, known, kinds_of, last_crate}
use Rattle.text_parser.specs.OwnItems.{known_with_struct, known_with_trait}

own : {A : Type 0} → Bool → A → Option A
own b x = if b then Some x else None

find-behind : {A : Type 0} (p : A → Bool) (xs : List A) (y : A) → find p (xs ++ y ∷ []) ≡ option_or (find p xs) (own (p y) y)
unfolding own
find-behind p xs y = find-append p xs (y ∷ [])

of_crate : NamedCrate → Known
of_crate c = a_crate c.item.name

of_struct : NamedStruct → Known
of_struct s = a_struct s.item.name s.item.home s.kinds

of_trait : NamedTrait → Known
of_trait t = a_trait t.item.name t.item.home t.item.is_auto t.kinds

three : Option NamedCrate → Option NamedStruct → Option NamedTrait → Option Known
three c s t = option_or (option_map of_crate c) (option_or (option_map of_struct s) (option_map of_trait t))

struct-cases : (c : Option NamedCrate) (s : Option NamedStruct) (t : Option NamedTrait) (b : Bool) (o : NamedStruct)
    → three c (option_or s (own b o)) t ≡ known_with_struct (three c s t) (if b then Some (of_struct o) else None)
unfolding three own of_crate of_struct of_trait
struct-cases (Some c) s t b o = refl
struct-cases None (Some s) t b o = refl
struct-cases None None (Some t) true o = refl
struct-cases None None (Some t) false o = refl
struct-cases None None None true o = refl
struct-cases None None None false o = refl

pub known-beside-struct : (d : Declarations) (o : NamedStruct) (n : List ℕ)
    → known (record d { structs = d.structs ++ o ∷ [] }) n ≡ known_with_struct (known d n) (if bytes_eq o.text n then Some (a_struct o.item.name o.item.home o.kinds) else None)
unfolding three own of_crate of_struct of_trait
known-beside-struct d o n =
    let c = find (λ c. bytes_eq c.text n) d.crates in
    let s = find (λ s. bytes_eq s.text n) d.structs in
    let t = find (λ t. bytes_eq t.text n) d.traits in
    ap (λ x. three c x t) (find-behind (λ s. bytes_eq s.text n) d.structs o) ∙ struct-cases c s t (bytes_eq o.text n) o

trait-cases : (c : Option NamedCrate) (s : Option NamedStruct) (t : Option NamedTrait) (b : Bool) (o : NamedTrait)
    → three c s (option_or t (own b o)) ≡ known_with_trait (three c s t) (if b then Some (of_trait o) else None)
unfolding three own of_crate of_struct of_trait
trait-cases (Some c) s t b o = refl
trait-cases None (Some s) t b o = refl
trait-cases None None (Some t) b o = refl
trait-cases None None None true o = refl
trait-cases None None None false o = refl

pub known-beside-trait : (d : Declarations) (o : NamedTrait) (n : List ℕ)
    → known (record d { traits = d.traits ++ o ∷ [] }) n ≡ known_with_trait (known d n) (if bytes_eq o.text n then Some (a_trait o.item.name o.item.home o.item.is_auto o.kinds) else None)
unfolding three own of_crate of_struct of_trait
known-beside-trait d o n =
    let c = find (λ c. bytes_eq c.text n) d.crates in
    let s = find (λ s. bytes_eq s.text n) d.structs in
    let t = find (λ t. bytes_eq t.text n) d.traits in
    ap (λ x. three c s x) (find-behind (λ t. bytes_eq t.text n) d.traits o) ∙ trait-cases c s t (bytes_eq o.text n) o

-- what is known by the tests of the code
pub struct-known : (d : Declarations) (f : Bool) (o n : List ℕ) (ps : Params) (ks : List Sort) → ks ≡ kinds_of ps → (r x y : Option Known) (b : Bool) → b ≡ bytes_eq o n → x ≡ known d n
    → y ≡ (if b then Some (a_struct (length d.structs) (last_crate d) ks) else None) → r ≡ known_with_struct x y → r ≡ known (record d { structs = d.structs ++ own_struct d f o ps ∷ [] }) n
struct-known d f o n ps ks k r x y b q e g h =
    h ∙ ap (λ z. known_with_struct z y) e
    ∙ ap (known_with_struct (known d n)) (g ∙ ap (λ (z : Bool). if z then Some (a_struct (length d.structs) (last_crate d) ks) else None) q ∙ ap (λ (z : List Sort). if bytes_eq o n then Some (a_struct (length d.structs) (last_crate d) z) else None) k)
    ∙ sym (known-beside-struct d (own_struct d f o ps) n)

pub trait-known : (d : Declarations) (f a : Bool) (o n : List ℕ) (ps : Params) (ks : List Sort) → ks ≡ kinds_of ps → (r x y : Option Known) (b : Bool) → b ≡ bytes_eq o n → x ≡ known d n
    → y ≡ (if b then Some (a_trait (length d.traits) (last_crate d) a ks) else None) → r ≡ known_with_trait x y → r ≡ known (record d { traits = d.traits ++ own_trait d f a o ps ∷ [] }) n
trait-known d f a o n ps ks k r x y b q e g h =
    h ∙ ap (λ z. known_with_trait z y) e
    ∙ ap (known_with_trait (known d n)) (g ∙ ap (λ (z : Bool). if z then Some (a_trait (length d.traits) (last_crate d) a ks) else None) q ∙ ap (λ (z : List Sort). if bytes_eq o n then Some (a_trait (length d.traits) (last_crate d) a z) else None) k)
    ∙ sym (known-beside-trait d (own_trait d f a o ps) n)

-- Declarations as stored values, so that a struct may be seen as them (`impl Model`).
use Rattle.std.specs.Prelude.{◌≡◌, ℕ, Bool, true, false, List, refl}
use Rattle.std.specs.Coded.{Coded, code_by, coded_ℕ, coded_bool, coded_list, coded×}
use Rattle.type_terms.specs.Promised.Label.{Sort, of_type, of_const, of_lifetime}
use Rattle.type_terms.specs.Promised.Trees.{Trees}
use Rattle.type_terms.specs.Codes.{trees_code, sort_number, sort_at}
use Rattle.type_terms.specs.Promised.Worlds.{Reference}
use Rattle.text_language.specs.Promised.Declarations.{Declarations, NamedCrate, NamedStruct, NamedTrait, NamedImpl, LaterImpl, Check, of_later, of_supers, Variable, Question}

pub sort_again : (s : Sort) → sort_at (sort_number s) ≡ s
sort_again of_type = refl
sort_again of_const = refl
sort_again of_lifetime = refl

abbrev pub sort_code : Coded Sort
sort_code = code_by ℕ coded_ℕ sort_number sort_at sort_again

abbrev pub text_code : Coded (List ℕ)
text_code = coded_list coded_ℕ

abbrev pub reference_code : Coded Reference
reference_code = code_by (ℕ × Trees) (coded× coded_ℕ trees_code) (λ r. (r.trait, r.args)) (λ p. record { trait = p.0; args = p.1 }) (λ _. refl)

abbrev pub crate_code : Coded NamedCrate
crate_code =
    code_by (List ℕ × (ℕ × List ℕ)) (coded× text_code (coded× coded_ℕ text_code))
    (λ c. (c.text, (c.item.name, c.item.uses))) (λ (t, (n, u)). record { text = t; item = record { name = n; uses = u } }) (λ _. refl)

abbrev pub struct_code : Coded NamedStruct
struct_code =
    code_by (List ℕ × (List Sort × (ℕ × (ℕ × (Bool × List Trees))))) (coded× text_code (coded× (coded_list sort_code) (coded× coded_ℕ (coded× coded_ℕ (coded× coded_bool (coded_list trees_code))))))
    (λ s. (s.text, (s.kinds, (s.item.name, (s.item.home, (s.item.is_fundamental, s.item.fields))))))
    (λ (t, (k, (n, (h, (f, fs))))). record { text = t; kinds = k; item = record { name = n; home = h; is_fundamental = f; fields = fs } }) (λ _. refl)

abbrev pub trait_code : Coded NamedTrait
trait_code =
    code_by (List ℕ × (List Sort × (ℕ × (ℕ × (Bool × (Bool × List Reference))))))
    (coded× text_code (coded× (coded_list sort_code) (coded× coded_ℕ (coded× coded_ℕ (coded× coded_bool (coded× coded_bool (coded_list reference_code)))))))
    (λ s. (s.text, (s.kinds, (s.item.name, (s.item.home, (s.item.is_fundamental, (s.item.is_auto, s.item.bounds)))))))
    (λ (t, (k, (n, (h, (f, (a, bs)))))). record { text = t; kinds = k; item = record { name = n; home = h; is_fundamental = f; is_auto = a; bounds = bs } }) (λ _. refl)

abbrev pub impl_code : Coded NamedImpl
impl_code =
    code_by (List (List ℕ × Sort) × (ℕ × (ℕ × (ℕ × (Reference × List Reference))))) (coded× (coded_list (coded× text_code sort_code)) (coded× coded_ℕ (coded× coded_ℕ (coded× coded_ℕ (coded× reference_code (coded_list reference_code))))))
    (λ i. (i.params, (i.item.name, (i.item.home, (i.item.params, (i.item.header, i.item.clauses))))))
    (λ (ps, (n, (h, (p, (r, cs))))). record { params = ps; item = record { name = n; home = h; params = p; header = r; clauses = cs } }) (λ _. refl)

abbrev pub variable_code : Coded Variable
variable_code = code_by (List ℕ × Sort) (coded× text_code sort_code) (λ v. (v.text, v.kind)) (λ p. record { text = p.0; kind = p.1 }) (λ _. refl)

abbrev pub question_code : Coded Question
question_code =
    code_by (Bool × (ℕ × (List (List ℕ) × (Reference × (List Reference × (List Reference × List Variable))))))
    (coded× coded_bool (coded× coded_ℕ (coded× (coded_list text_code) (coded× reference_code (coded× (coded_list reference_code) (coded× (coded_list reference_code) (coded_list variable_code)))))))
    (λ q. (q.is_refute, (q.asker, (q.params, (q.asked, (q.further, (q.clauses, q.variables)))))))
    (λ (b, (a, (ps, (r, (rs, (cs, vs)))))). record { is_refute = b; asker = a; params = ps; asked = r; further = rs; clauses = cs; variables = vs }) (λ _. refl)

abbrev pub later_code : Coded LaterImpl
later_code = code_by (ℕ × NamedImpl) (coded× coded_ℕ impl_code) (λ i. (i.section, i.added)) (λ (k, i). record { section = k; added = i }) (λ _. refl)

-- a section's number and its crate, or none and the crate
abbrev pub check_parts : Check → Bool × (ℕ × ℕ)
check_parts (of_later k c) = (true, (k, c))
check_parts (of_supers c) = (false, (0, c))

abbrev pub check_with : Bool → ℕ → ℕ → Check
check_with true k c = of_later k c
check_with false k c = of_supers c

pub check_again : (x : Check) → check_with (check_parts x).0 (check_parts x).1.0 (check_parts x).1.1 ≡ x
check_again (of_later k c) = refl
check_again (of_supers c) = refl

abbrev pub check_code : Coded Check
check_code = code_by (Bool × (ℕ × ℕ)) (coded× coded_bool (coded× coded_ℕ coded_ℕ)) check_parts (λ p. check_with p.0 p.1.0 p.1.1) check_again

abbrev pub declarations_code : Coded Declarations
declarations_code =
    code_by (List NamedCrate × (List NamedStruct × (List NamedTrait × (List NamedImpl × (List Question × (List ℕ × (List LaterImpl × (List Check × Bool))))))))
    (coded× (coded_list crate_code)
    (coded× (coded_list struct_code)
    (coded× (coded_list trait_code) (coded× (coded_list impl_code) (coded× (coded_list question_code) (coded× text_code (coded× (coded_list later_code) (coded× (coded_list check_code) coded_bool))))))))
    (λ d. (d.crates, (d.structs, (d.traits, (d.impls, (d.questions, (d.sections, (d.later_impls, (d.checks, d.in_section)))))))))
    (λ (c, (s, (t, (i, (q, (n, (l, (k, b)))))))). record { crates = c; structs = s; traits = t; impls = i; questions = q; sections = n; later_impls = l; checks = k; in_section = b })
    (λ _. refl)

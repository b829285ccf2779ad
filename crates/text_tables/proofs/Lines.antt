-- What the parts of a line declare is what the line adds.
use Rattle.std.proofs.Common.{◌≡◌, ℕ, ◌-◌, Bool, false, if◌then◌else◌, List, ◌++◌, length, sym, ap, ◌∙◌, arith, length-append}
use Rattle.std.proofs.lemmas.List.{length-map}
use Rattle.std.specs.Prelude.{map}
use Rattle.type_terms.specs.Promised.Label.{Sort, of_type, of_const, of_lifetime}
use Rattle.type_terms.specs.Promised.Trees.{Trees}
use Rattle.type_terms.specs.Promised.Worlds.{Reference}
use Rattle.text_language.specs.Promised.Syntax.{Params, Clause, Line, struct_line, trait_line, impl_line}
use Rattle.text_language.specs.Promised.Declarations.{Declarations, NamedImpl, kinds_of, last_crate, last_changed, last_later}
use Rattle.text_language.specs.Declarations.{with_sort, sorted_names}
use Rattle.text_language.specs.Adding.{added, item_meanings}
use Rattle.text_language.specs.Lowering.{clause_reference}
use Rattle.text_tables.specs.Tables.{with_struct, with_trait, with_impl, with_later}
use Rattle.text_tables.specs.Parts.{IsStructLine, IsTraitLine, IsImplLine, new_struct, new_trait, new_impl}

pub struct-added : (d : Declarations) (n : List ℕ) (f : Bool) (kinds : List Sort) (fields : List Trees) (l : Line) → IsStructLine d n f kinds fields l → with_struct d (new_struct d n f kinds fields) ≡ added d l
struct-added d n f kinds fields (struct_line g m ps fs) h =
    ap (λ x. with_struct d (new_struct d x f kinds fields)) h.0
    ∙ ap (λ x. with_struct d (new_struct d m x kinds fields)) h.1
    ∙ ap (λ x. with_struct d (new_struct d m g x fields)) h.2
    ∙ ap (λ x. with_struct d (new_struct d m g (kinds_of ps) x)) h.3
struct-added d n f kinds fields _ h = absurd h

pub trait-added : (d : Declarations) (n : List ℕ) (f a : Bool) (kinds : List Sort) (bounds : List Reference) (l : Line) → IsTraitLine d n f a kinds bounds l → with_trait d (new_trait d n f a kinds bounds) ≡ added d l
trait-added d n f a kinds bounds (trait_line g b m ps bs) h =
    ap (λ x. with_trait d (new_trait d x f a kinds bounds)) h.0
    ∙ ap (λ x. with_trait d (new_trait d m x a kinds bounds)) h.1
    ∙ ap (λ x. with_trait d (new_trait d m g x kinds bounds)) h.2
    ∙ ap (λ x. with_trait d (new_trait d m g b x bounds)) h.3
    ∙ ap (λ x. with_trait d (new_trait d m g b (kinds_of ps) x)) h.4
trait-added d n f a kinds bounds _ h = absurd h

sorted-length : (s : Sort) (ns : List (List ℕ)) → length (with_sort s ns) ≡ length ns
sorted-length s ns = length-map {B = List ℕ × Sort} ns (λ n. (n, s))

as_many : (ps : Params) → length (sorted_names ps) ≡ length (kinds_of ps)
as_many ps =
    omega (
      arith,
      length-append (with_sort of_lifetime ps.lifetimes ++ with_sort of_type ps.types) (with_sort of_const ps.consts),
      length-append (with_sort of_lifetime ps.lifetimes) (with_sort of_type ps.types),
      sorted-length of_lifetime ps.lifetimes,
      sorted-length of_type ps.types,
      sorted-length of_const ps.consts,
      length-append (map (λ _. of_lifetime) ps.lifetimes ++ map (λ _. of_type) ps.types) (map (λ _. of_const) ps.consts),
      length-append (map (λ _. of_lifetime) ps.lifetimes) (map (λ _. of_type) ps.types),
      length-map ps.lifetimes (λ _. of_lifetime),
      length-map ps.types (λ _. of_type),
      length-map ps.consts (λ _. of_const),
    )

-- what an impl line adds, in a section or not
line_impl : Declarations → Params → Clause → List Clause → Bool → NamedImpl
line_impl d ps h ks b = record {
  params = sorted_names ps;
  item = record {
    name = if b then last_later d else length d.impls;
    home = if b then last_changed d else last_crate d;
    params = length (kinds_of ps);
    header = clause_reference (item_meanings d (impl_line ps h ks) 0) h;
    clauses = map (clause_reference (item_meanings d (impl_line ps h ks) 0)) ks;
  };
}

with_line : Declarations → Params → Clause → List Clause → Bool → Declarations
with_line d ps h ks b =
    if b
    then with_later d (record { section = length d.sections - 1; added = line_impl d ps h ks b })
    else with_impl d (line_impl d ps h ks b)

line-adds : (d : Declarations) (ps : Params) (h : Clause) (ks : List Clause) (b : Bool) → d.in_section ≡ b → with_line d ps h ks b ≡ added d (impl_line ps h ks)
unfolding with_line line_impl
line-adds d ps h ks b e = ap (with_line d ps h ks) (sym e)

pub impl-added : (d : Declarations) (params : List (List ℕ × Sort)) (header : Reference) (clauses : List Reference) (l : Line) → d.in_section ≡ false → IsImplLine d params header clauses l → with_impl d (new_impl d params header clauses) ≡ added d l
unfolding with_line line_impl
impl-added d params header clauses (impl_line ps h ks) out e =
    ap (λ x. with_impl d (new_impl d x header clauses)) e.0
    ∙ ap (λ x. with_impl d (new_impl d (sorted_names ps) x clauses)) e.1
    ∙ ap (λ x. with_impl d (new_impl d (sorted_names ps) (clause_reference (item_meanings d (impl_line ps h ks) 0) h) x)) e.2
    ∙ ap
    (λ k. with_impl d (record {
      params = sorted_names ps;
      item = record { name = length d.impls; home = last_crate d; params = k; header = clause_reference (item_meanings d (impl_line ps h ks) 0) h; clauses = map (clause_reference (item_meanings d (impl_line ps h ks) 0)) ks };
    }))
    (as_many ps)
    ∙ line-adds d ps h ks false out
impl-added d params header clauses _ out e = absurd e

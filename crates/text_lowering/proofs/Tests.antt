-- Items of a text that are declared well once they are plain.
use Rattle.std.specs.Prelude.{ℕ, suc, Bool, true, ◌&&◌, ◌==◌, not, List, [], ◌∷◌, length, nat_lt}
use Rattle.std.specs.List.{list_all}
use Rattle.type_terms.specs.Promised.Label.{Sort, of_type, of_const, of_lifetime}
use Rattle.type_terms.specs.Promised.Trees.{Trees, some_node}
use Rattle.type_terms.specs.Promised.Worlds.{Reference}
use Rattle.type_terms.specs.Made.{terms, is_made}
use Rattle.text_language.specs.Promised.Declarations.{NamedStruct, NamedTrait, NamedImpl}
use Rattle.candidate_model.specs.Candidates.{is_this_param}
use Rattle.candidate_model.specs.Declared.{is_declared_leaf}
use Rattle.candidate_model.specs.DeclaredWell.{is_single}
use Rattle.text_lowering.specs.Promised.SeenWorlds.{plain, all_kept, none_kept, stands_in}
use Rattle.text_lowering.specs.Seen.{param_sorts}
use Rattle.text_lowering.proofs.Sorts.{is_bad}

-- the trees are made as declarations are, of parameters of these sorts
abbrev pub is_good : (ℕ → Bool) → List Sort → Trees → Bool
is_good kept sorts t = is_made is_declared_leaf terms (plain kept t) && not (some_node (is_bad sorts) (plain kept t))

abbrev pub is_good_struct : NamedStruct → Bool
is_good_struct x = list_all (λ t. is_good none_kept x.kinds t && is_single t) x.item.fields

-- the bounds' traits are declared before
abbrev pub is_good_trait : NamedTrait → Bool
is_good_trait x = list_all (λ (b : Reference). is_good none_kept (of_type ∷ x.kinds) b.args && nat_lt b.trait x.item.name) x.item.bounds

-- each type and const parameter from number i on stands there
abbrev pub all_stand : Trees → ℕ → List Sort → Bool
all_stand t i [] = true
all_stand t i (of_lifetime ∷ ss) = all_stand t (suc i) ss
all_stand t i (of_type ∷ ss) = some_node (is_this_param of_type i) t && all_stand t (suc i) ss
all_stand t i (of_const ∷ ss) = some_node (is_this_param of_const i) t && all_stand t (suc i) ss

abbrev pub is_good_impl : NamedImpl → Bool
is_good_impl x =
    is_good all_kept (param_sorts x) x.item.header.args
    && ((x.item.params == length (param_sorts x))
    && (all_stand x.item.header.args 0 (param_sorts x) && list_all (λ (c : Reference). is_good (stands_in x.item.header.args) (param_sorts x) c.args) x.item.clauses))

-- What crates do not see in a linked set, and which pairs they check.
use Rattle.std.specs.Prelude.{◌≡◌, ℕ, ◌<◌, Bool, true, false, ◌&&◌, List, []}
use Rattle.std.specs.List.{list_all}
use Rattle.type_terms.specs.Promised.Trees.{Trees}
use Rattle.type_terms.specs.Promised.Worlds.{World, Reference, ImplDecl, sees}
use Rattle.type_terms.specs.Promised.Rules.{strict_supertraits}
use Rattle.type_terms.specs.Promised.Proofs.{Every, HasProof}
use Rattle.type_terms.specs.Promised.Walks.{is_known}

-- What a linked set promises of a trait reference with proofs by a rule that is not in c's view: it is not knowable to
-- c, and its supertraits have proofs.
pub record Unknown (W : World) (c : ℕ) (r : Reference) : Type 0 where
  pub unknown : is_known W c r ≡ false
  pub supers_stand : Every (HasProof W []) (strict_supertraits W r)

-- The crate of i checks the pair: j is of a crate that it sees. If j is of the same crate, it precedes i.
abbrev pub Visited : World → ImplDecl → ImplDecl → Type 0
Visited W i j = (sees W i.home j.home ≡ true) × (i.home ≡ j.home → j.name < i.name)

-- The arguments of all trait references pass the test.
abbrev pub all_args : (Trees → Bool) → List Reference → Bool
all_args p rs = list_all (λ r. p r.args) rs

-- All terms in the declarations of W pass the test: fields, supertraits, headers and where-clauses.
abbrev pub all_written : (Trees → Bool) → World → Bool
all_written p W =
    list_all (λ x. list_all p x.fields) W.structs
    && (list_all (λ x. all_args p x.bounds) W.traits
    && list_all (λ i. p i.header.args && all_args p i.clauses) W.impls)

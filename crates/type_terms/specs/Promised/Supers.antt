-- What the answer `held` promises: each impl of a crate has its trait's supertraits. Then, two facts of texts that this
-- needs.
use Rattle.std.specs.Prelude.{◌≡◌, ℕ, Bool, true, false, ◌&&◌, ◌||◌, ◌==◌, map}
use Rattle.type_terms.specs.Promised.Label.{Sort, dynamic, param, placeholder}
use Rattle.type_terms.specs.Promised.Trees.{Trees, none, tree, is_sort}
use Rattle.type_terms.specs.Promised.Worlds.{World, Reference, ImplDecl}
use Rattle.type_terms.specs.Promised.Rules.{strict_supertraits}
use Rattle.type_terms.specs.Promised.Proofs.{In, Every, HasProof}

-- The terms with placeholders for their parameters. For example, the T of `V<T>` in an impl becomes an opaque type.
abbrev pub opaque : Trees → Trees
opaque none = none
opaque (tree (param s i) c o) = tree (placeholder s i) (opaque c) (opaque o)
opaque (tree l c o) = tree l (opaque c) (opaque o)

-- The trait reference with placeholders for its parameters.
abbrev pub opaque_reference : Reference → Reference
opaque_reference r = record { trait = r.trait; args = opaque r.args }

-- Each supertrait of the impl's header has a proof from the impl's where-clauses. For example, with `trait Sub: Sup`,
-- `impl<T> Sub for V<T> where T: Sup` needs a proof of `V<T>: Sup` from `T: Sup`, for an arbitrary T.
abbrev pub SupersHold : World → ImplDecl → Type 0
SupersHold V i = Every (HasProof V (map opaque_reference i.clauses)) (strict_supertraits V (opaque_reference i.header))

-- Each impl of crate c has proofs of its supertraits.
abbrev pub IsHeld : World → ℕ → Type 0
IsHeld V c = (i : ImplDecl) → In i V.impls → i.home ≡ c → SupersHold V i

-- No term of the list is a parameter. Their children are not looked at.
abbrev pub no_param : Trees → Bool
no_param none = true
no_param (tree (param _ _) c o) = false
no_param (tree l c o) = no_param o

-- No child of a `dyn` is a parameter.
abbrev pub dyns_of_bounds : Trees → Bool
dyns_of_bounds none = true
dyns_of_bounds (tree dynamic c o) = no_param c && (dyns_of_bounds c && dyns_of_bounds o)
dyns_of_bounds (tree l c o) = dyns_of_bounds c && dyns_of_bounds o

-- The terms mention parameter i, as a parameter of this kind.
abbrev pub mentions_as : Sort → ℕ → Trees → Bool
mentions_as s i none = false
mentions_as s i (tree (param r j) c o) = (is_sort s r && (i == j)) || mentions_as s i o
mentions_as s i (tree l c o) = mentions_as s i c || mentions_as s i o

-- What the fields of an interner mean.
use Rattle.std.specs.Prelude.{◌≡◌, ℕ, ◌+◌, ◌≤◌, List, [], length, map}
use Rattle.indexmap.specs.IndexMap.{keys, values, spare}
use Rattle.type_terms.specs.Terms.{Terms, args_lists, type_lists}
use Rattle.type_terms.specs.Promised.Handles.{Entry, held, types, consts, bounds_lists}
use Rattle.type_terms.specs.Nodes.{grow, Older}
use Rattle.type_terms.specs.Infos.{info_of}
use Rattle.type_terms.specs.declared.node.Counts.{Counts}
use Rattle.type_terms.specs.declared.interner.TheConstants.{MAX_HANDLES}
use Rattle.type_terms.specs.declared.interner.Interner.TheInside.{Inside}

-- The counts are those of the terms.
pub record Counted (c : Counts) (es : List Entry) : Type 0 where
  pub types_held : c.types ≡ held types es
  pub consts_held : c.consts ≡ held consts es
  pub args_lists_held : c.args_lists ≡ held args_lists es
  pub type_lists_held : c.type_lists ≡ held type_lists es
  pub bounds_lists_held : c.bounds_lists ≡ held bounds_lists es

abbrev pub Within : Counts → ℕ → Type 0
Within c n = (c.types ≤ n) × (c.consts ≤ n) × (c.args_lists ≤ n) × (c.type_lists ≤ n) × (c.bounds_lists ≤ n)

abbrev pub entries_of : Inside → List Entry
entries_of a = grow [] (keys a.nodes)

abbrev pub terms_view : Inside → Terms
terms_view a = record { entries = entries_of a; limit = a.limit; room = spare a.nodes }

pub record Sound (a : Inside) : Type 0 where
  pub older : Older [] (keys a.nodes)
  pub infos : values a.nodes ≡ map (λ e. info_of e.trees) (entries_of a)
  pub counted : Counted a.counts (entries_of a)
  pub in_all : length (keys a.nodes) ≡ a.counts.types + a.counts.consts + a.counts.args_lists + a.counts.type_lists + a.counts.bounds_lists
  pub within : Within a.counts a.limit
  pub limit_fits : a.limit ≤ MAX_HANDLES

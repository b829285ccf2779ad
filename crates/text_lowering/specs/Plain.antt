-- Declarations and queries as goals are made of them: they bind no lifetimes. A lifetime that a `for<...>` binds is `'static`. So is a
-- parameter of an impl that occurs in its where-clauses alone, and each lifetime parameter in the fields of a struct and the bounds of a
-- trait. Up to lifetimes nothing changes.
use Rattle.std.specs.Prelude.{List, map}
use Rattle.type_terms.specs.Promised.Worlds.{Reference}
use Rattle.text_lowering.specs.Promised.SeenWorlds.{unbound_reference}

abbrev pub unbound_references : List Reference → List Reference
unbound_references rs = map unbound_reference rs

-- Values of the code as values of the definitions: lines with types.
use Rattle.std.specs.Prelude.{List, map}
use Rattle.text_lines.specs.TokenViews.{tokens_in}
use Rattle.text_lines.specs.Views.{params_in, texts_in}
use Rattle.text_lines.specs.WrittenParts as parts
use Rattle.text_lines.specs.declared.written_line.Binding.{Binding}
use Rattle.text_lines.specs.declared.written_line.Entry.{Entry}
use Rattle.text_lines.specs.declared.written_line.Entry.TheVariants as entries
use Rattle.text_lines.specs.declared.written_line.BoundRead.{BoundRead}
use Rattle.text_lines.specs.declared.written_line.ClauseRead.{ClauseRead}
use Rattle.text_lines.specs.declared.written_line.WrittenRead.{WrittenRead}
use Rattle.text_lines.specs.declared.written_line.WrittenRead.TheVariants as written

abbrev pub binding_of : Binding → parts.BindingTokens
binding_of v = record { name = v.name.now; value = tokens_in v.value.now }

abbrev pub bindings_in : List Binding → List parts.BindingTokens
bindings_in vs = map binding_of vs

abbrev pub entry_of : Entry → parts.Entry
entry_of (entries.Argument ts) = parts.argument (tokens_in ts.now)
entry_of (entries.Binding v) = parts.binding (binding_of v)

abbrev pub entries_in : List Entry → List parts.Entry
entries_in es = map entry_of es

abbrev pub bound_of : BoundRead → parts.BoundTokens
bound_of b = record { trait = b.name.now; entries = entries_in b.entries.items }

abbrev pub bounds_in : List BoundRead → List parts.BoundTokens
bounds_in bs = map bound_of bs

abbrev pub clause_of : ClauseRead → parts.ClauseTokens
clause_of k = record { subject = tokens_in k.subject.now; bound = bound_of k.bound }

abbrev pub clauses_in : List ClauseRead → List parts.ClauseTokens
clauses_in ks = map clause_of ks

-- a line, with the bytes of its names
abbrev pub written_of : WrittenRead → parts.WrittenTokens
written_of (written.Trait f a n ps bs ts) = parts.trait_tokens f a n.now (params_in ps.items) (bounds_in bs.items) (texts_in ts.items)
written_of (written.Impl ps h ks vs) = parts.impl_tokens (params_in ps.items) (clause_of h) (clauses_in ks.items) (bindings_in vs.items)
written_of (written.Prove c ps a bs ks) = parts.prove_tokens c.now (params_in ps.items) (clause_of a) (clauses_in bs.items) (clauses_in ks.items)
written_of (written.Refute c ps a bs) = parts.refute_tokens c.now (params_in ps.items) (clause_of a) (clauses_in bs.items)

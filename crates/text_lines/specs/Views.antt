-- Values of the code as values of the definitions: statements.
use Rattle.std.specs.Prelude.{ℕ, List, map}
use Rattle.std.specs.Borrow.{Bor}
use Rattle.text_lines.specs.TokenViews.{text_of}
use Rattle.text_lines.specs.Cells.{Cell}
use Rattle.text_lines.specs.TypeViews.{cells_in}
use Rattle.text_lines.specs.Statement as said
use Rattle.text_lines.specs.declared.statement.Param.{Param}
use Rattle.text_lines.specs.declared.statement.Param.TheVariants as params
use Rattle.text_lines.specs.declared.statement.Statement.{Statement}
use Rattle.text_lines.specs.declared.statement.Statement.TheVariants as statements
use Rattle.text_lines.specs.declared.statement.LineRead.{LineRead}

abbrev pub param_of : Param → said.Param
param_of (params.Lifetime n) = said.lifetime_param n.now
param_of (params.Type n) = said.type_param n.now
param_of (params.Const n) = said.const_param n.now

abbrev pub params_in : List Param → List said.Param
params_in ps = map param_of ps

-- the bytes of each name
abbrev pub texts_in : List (Bor (List ℕ)) → List (List ℕ)
texts_in ns = map text_of ns

-- a statement, with the bytes of its names
abbrev pub statement_of : Statement → said.Statement
statement_of (statements.Crate n us) = said.crate_statement n.now (texts_in us.items)
statement_of (statements.Struct f n ps fs) = said.struct_statement f n.now (params_in ps.items) fs.items
statement_of (statements.Trait f a n ps bs) = said.trait_statement f a n.now (params_in ps.items) bs.items
statement_of (statements.Impl ps h ks) = said.impl_statement (params_in ps.items) h ks.items
statement_of (statements.Prove c ps k js ks) = said.prove_statement c.now (params_in ps.items) k js.items ks.items
statement_of (statements.Refute c ps k js) = said.refute_statement c.now (params_in ps.items) k js.items
statement_of (statements.Later n) = said.later_statement n.now
statement_of (statements.Supers n) = said.supers_statement n.now

abbrev pub read_of : LineRead → said.Statement × List Cell
read_of r = (statement_of r.statement, cells_in r.cells.items)

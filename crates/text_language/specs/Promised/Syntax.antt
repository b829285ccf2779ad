-- The syntax of lines, as data. The grammar gives exactly one way to write each.
use Rattle.std.specs.Prelude.{ℕ, Bool, List, Option}
use Rattle.type_terms.specs.Promised.Label.{Label}

-- ---- types

-- The length of an array: a number, the name of a parameter, or a variable.
pub data Length : Type 0 where
  number_length : ℕ → Length
  name_length variable_length : List ℕ → Length

-- A type as it is written. A name is a list of bytes, and is not looked up. What the text omits, the data omits as
-- well: a lifetime, or the output of a fn. A binder is the list of names in `for<'a, 'b>`. It is empty if there is
-- none. An argument that is just a name or a variable is a type here. It means a constant if the declared parameter is
-- one.
mutual
  pub data TypeTree : Type 0 where
    of_primitive : Label → TypeTree
    never_type : TypeTree
    variable_type : List ℕ → TypeTree
    named : List ℕ → Args → TypeTree
    reference_to : (life : Option (List ℕ)) (is_mut : Bool) → TypeTree → TypeTree
    pointer_to : (is_mut : Bool) → TypeTree → TypeTree
    slice_of : TypeTree → TypeTree
    array_of : TypeTree → Length → TypeTree
    tuple_of : Types → TypeTree
    fn_of : (binder : List (List ℕ)) → Types → TypeTree
    fn_to : (binder : List (List ℕ)) → Types → TypeTree → TypeTree
    dyn_of : Item → DynBounds → TypeTree

  -- A list of types.
  pub data Types : Type 0 where
    no_types : Types
    and_type : TypeTree → Types → Types

  -- The arguments between `<` and `>`. If there are none, these signs are not written.
  pub data Args : Type 0 where
    no_args : Args
    and_arg : Arg → Args → Args

  -- An argument: a lifetime, a number, or a type.
  pub data Arg : Type 0 where
    lifetime_arg : List ℕ → Arg
    number_arg : ℕ → Arg
    type_arg : TypeTree → Arg

  -- A bound of a `dyn`: a trait with its arguments, possibly under a binder, or a lifetime.
  pub data Item : Type 0 where
    bound_item : (binder : List (List ℕ)) (name : List ℕ) → Args → Item
    lifetime_item : List ℕ → Item

  -- The bounds of a `dyn` after its first.
  pub data DynBounds : Type 0 where
    no_items : DynBounds
    and_item : Item → DynBounds → DynBounds

-- ---- parts of lines

-- The parameters: lifetimes, then types, then constants. No other order can be written.
pub record Params : Type 0 where
  pub lifetimes : List (List ℕ)
  pub types : List (List ℕ)
  pub consts : List (List ℕ)

-- A trait with its arguments.
pub record Bound : Type 0 where
  pub trait : List ℕ
  pub args : Args

-- `type: bound`.
pub record Clause : Type 0 where
  pub subject : TypeTree
  pub bound : Bound

-- A line that declares or asks something, with its parts as they are written.
pub data Line : Type 0 where
  crate_line : (name : List ℕ) (uses : List (List ℕ)) → Line
  struct_line : (is_fundamental : Bool) (name : List ℕ) (params : Params) (fields : Types) → Line
  trait_line : (is_fundamental is_auto : Bool) (name : List ℕ) (params : Params) (bounds : List Bound) → Line
  impl_line : (params : Params) (header : Clause) (clauses : List Clause) → Line
  -- A query asks a bound and further ones, which may share variables with it.
  prove_line : (asker : List ℕ) (params : Params) (asked : Clause) (further clauses : List Clause) → Line
  refute_line : (asker : List ℕ) (params : Params) (asked : Clause) (further : List Clause) → Line
  later_line : (changed : List ℕ) → Line
  supers_line : (asked : List ℕ) → Line

-- ---- lines as they are written
-- A trait may have types, as in `trait It { type Item; }`. An impl gives each of them, and a bound may say what they are,
-- as in `It<Item = u8>`. A line without types is one of the lines above. A line with types stands for several of these.

-- `name = type`: what an impl gives, or what a bound says, for a type of a trait.
pub record Binding : Type 0 where
  pub name : List ℕ
  pub value : TypeTree

-- A trait with its arguments, and with what is said of its types.
pub record WrittenBound : Type 0 where
  pub bound : Bound
  pub bindings : List Binding

-- `type: bound`. In the header of an impl, the bindings are the types that the impl gives.
pub record WrittenClause : Type 0 where
  pub subject : TypeTree
  pub bound : WrittenBound

-- A line as it is written.
pub data WrittenLine : Type 0 where
  written_crate : (name : List ℕ) (uses : List (List ℕ)) → WrittenLine
  written_struct : (is_fundamental : Bool) (name : List ℕ) (params : Params) (fields : Types) → WrittenLine
  written_trait : (is_fundamental is_auto : Bool) (name : List ℕ) (params : Params) (bounds : List WrittenBound) (types : List (List ℕ)) → WrittenLine
  written_impl : (params : Params) (header : WrittenClause) (clauses : List WrittenClause) → WrittenLine
  written_prove : (asker : List ℕ) (params : Params) (asked : WrittenClause) (further clauses : List WrittenClause) → WrittenLine
  written_refute : (asker : List ℕ) (params : Params) (asked : WrittenClause) (further : List WrittenClause) → WrittenLine
  written_later : (changed : List ℕ) → WrittenLine
  written_supers : (asked : List ℕ) → WrittenLine

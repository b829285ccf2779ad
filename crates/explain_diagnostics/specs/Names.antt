-- The words of levels and codes.
use Rattle.std.specs.Prelude.{ℕ, List, [], ◌++◌, codes, Option, Some, None}
use Rattle.explain_diagnostics.specs.declared.diagnostic.Level.{Level}
use Rattle.explain_diagnostics.specs.declared.diagnostic.Level.TheVariants.{Error, Note, Help}
use Rattle.explain_diagnostics.specs.declared.diagnostic.ErrCode.{ErrCode}
use Rattle.explain_diagnostics.specs.declared.diagnostic.ErrCode.TheVariants.{E0117, E0119, E0207, E0210, E0275, E0277, E0283, E0391}

-- The word that rustc prints.
abbrev pub level_name : Level → List ℕ
level_name Error = codes "error"
level_name Note = codes "note"
level_name Help = codes "help"

-- The code as rustc prints it.
abbrev pub code_name : ErrCode → List ℕ
code_name E0117 = codes "E0117"
code_name E0119 = codes "E0119"
code_name E0207 = codes "E0207"
code_name E0210 = codes "E0210"
code_name E0275 = codes "E0275"
code_name E0277 = codes "E0277"
code_name E0283 = codes "E0283"
code_name E0391 = codes "E0391"

-- The code in brackets, if there is one.
abbrev pub in_brackets : Option ErrCode → List ℕ
in_brackets None = []
in_brackets (Some code) = codes "[" ++ code_name code ++ codes "]"

-- What pieces stand for.
use Rattle.std.specs.Prelude.{◌≡◌, ℕ, ◌+◌, ◌<◌, Bool, true, false, List, [], ◌∷◌, ◌++◌, codes}
use Rattle.type_terms.specs.Promised.Trees.{Trees, none, tree, ◌+++◌}
use Rattle.type_terms.specs.Promised.Label.{adt, tuple, fn_ptr}
use Rattle.text_language.specs.Output.{Names, angled, between, texts, type_text, output_part}
use Rattle.type_terms.specs.Promised.Handles.{Entry, Has, trees_at, types, consts}
use Rattle.type_terms.specs.Kinds.{kind_trees, args_trees, tys_trees, autos_trees, TysHeld}
use Rattle.type_terms.specs.Promised.Handles.{ArgsHeld}
use Rattle.type_terms.specs.declared.TraitId.{TraitId}
use Rattle.type_terms.specs.declared.kinds.Ty.{Ty}
use Rattle.type_terms.specs.declared.kinds.TyKind.{TyKind}
use Rattle.type_terms.specs.declared.kinds.GenericArgKind.{GenericArgKind}
use Rattle.text_printer.specs.declared.piece.Piece.{Piece}
use Rattle.text_printer.specs.declared.piece.Piece.TheVariants.{Ty as PTy, Const as PConst, Text, Types, Args, Autos}

-- ---- texts
-- The texts, with this before each.
abbrev pub text_behind : List ℕ → List (List ℕ) → List ℕ
text_behind c [] = []
text_behind c (t ∷ ts) = c ++ (t ++ text_behind c ts)

-- Arguments, after some that are printed, or after none.
abbrev pub more_args : Bool → List (List ℕ) → List ℕ
more_args false ts = angled ts
more_args true ts = text_behind (codes ", ") ts ++ codes ">"

abbrev pub piece_text : Names → List Entry → Piece → List ℕ
piece_text N es (PTy t) = type_text N (trees_at es t.0)
piece_text N es (PConst c) = type_text N (trees_at es c.0)
piece_text N es (Text b) = b.now
piece_text N es (Types ts) = text_behind (codes ", ") (texts N (tys_trees es ts.now))
piece_text N es (Args xs is_open) = more_args is_open (texts N (args_trees es xs.now))
piece_text N es (Autos ts) = text_behind (codes " + ") (texts N (autos_trees ts.now))

-- The text of all pieces of a stack. The last piece comes first.
abbrev pub pending : Names → List Entry → List Piece → List ℕ
pending N es [] = []
pending N es (p ∷ ps) = pending N es ps ++ piece_text N es p

-- ---- handles
abbrev pub PieceHeld : List Entry → Piece → Type 0
PieceHeld es (PTy t) = Has es types t.0
PieceHeld es (PConst c) = Has es consts c.0
PieceHeld es (Text b) = Unit {0}
PieceHeld es (Types ts) = TysHeld es ts.now
PieceHeld es (Args xs is_open) = ArgsHeld es xs.now
PieceHeld es (Autos ts) = Unit {0}

abbrev pub PiecesHeld : List Entry → List Piece → Type 0
PiecesHeld es [] = Unit {0}
PiecesHeld es (p ∷ ps) = PieceHeld es p × PiecesHeld es ps

-- ---- how much is left to do
abbrev pub load : Trees → ℕ
load none = 0
load (tree l c o) = 6 + load c + load o

abbrev pub piece_load : List Entry → Piece → ℕ
piece_load es (PTy t) = load (trees_at es t.0)
piece_load es (PConst c) = load (trees_at es c.0)
piece_load es (Text b) = 1
piece_load es (Types ts) = 1 + load (tys_trees es ts.now)
piece_load es (Args xs is_open) = 1 + load (args_trees es xs.now)
piece_load es (Autos ts) = 1 + load (autos_trees ts.now)

abbrev pub pieces_load : List Entry → List Piece → ℕ
pieces_load es [] = 0
pieces_load es (p ∷ ps) = piece_load es p + pieces_load es ps

-- ---- A step appends a part of a text to what is written, and puts the rest of it on the stack, which is less than there was.
pub record Prints (N : Names) (es : List Entry) (t : List ℕ) (l : ℕ) (stack_before stack_after : List Piece) (before after : List ℕ) : Type 0 where
  pub bytes : List ℕ
  pub pieces : List Piece
  pub written : after ≡ before ++ bytes
  pub pushed : stack_after ≡ stack_before ++ pieces
  pub text : bytes ++ pending N es pieces ≡ t
  pub held : PiecesHeld es pieces
  pub lighter : pieces_load es pieces < l

-- ... for the text of a term
abbrev pub PrintsTrees : Names → List Entry → Trees → List Piece → List Piece → List ℕ → List ℕ → Type 0
PrintsTrees N es t so sn oo on = Prints N es (type_text N t) (load t) so sn oo on

-- ... for the text of a piece
abbrev pub PrintsPiece : Names → List Entry → Piece → List Piece → List Piece → List ℕ → List ℕ → Type 0
PrintsPiece N es p so sn oo on = Prints N es (piece_text N es p) (piece_load es p) so sn oo on

-- ---- what comes before a type
abbrev pub ref_sign : Bool → List ℕ
ref_sign false = codes "&"
ref_sign true = codes "&mut "

abbrev pub raw_ptr_sign : Bool → List ℕ
raw_ptr_sign false = codes "*const "
raw_ptr_sign true = codes "*mut "

-- ---- what comes before an argument
abbrev pub arg_sign : Bool → List ℕ
arg_sign false = codes "<"
arg_sign true = codes ", "

-- ---- steps that write nothing at once: types with commas between them, and what comes after the inputs of a fn
abbrev pub PushesTypes : List Entry → Trees → List Piece → List Piece → Type 0
PushesTypes es t so sn = (N : Names) (o : List ℕ) → Prints N es (between (codes ", ") (texts N t)) (2 + load t) so sn o o

abbrev pub PushesOutput : List Entry → Trees → List Piece → List Piece → Type 0
PushesOutput es t so sn = (N : Names) (o : List ℕ) → Prints N es (codes ")" ++ output_part t (type_text N t)) (2 + load t) so sn o o

-- ---- a `dyn` with a principal trait t, its arguments and the auto traits, and one of auto traits alone
abbrev pub PrintsPrincipal : Names → List Entry → ℕ → Trees → Trees → List Piece → List Piece → List ℕ → List ℕ → Type 0
PrintsPrincipal N es t args autos so sn oo on = Prints N es (codes "dyn " ++ between (codes " + ") ((N.of_trait t ++ angled (texts N args)) ∷ texts N autos)) (6 + load args + load autos) so sn oo on

abbrev pub PrintsAutos : Names → List Entry → Trees → List Piece → List Piece → List ℕ → List ℕ → Type 0
PrintsAutos N es autos so sn oo on = Prints N es (codes "dyn " ++ between (codes " + ") (texts N autos)) (6 + load autos) so sn oo on

-- ---- the next of types, of arguments and of auto traits after those that are printed
abbrev pub PrintsTypes : Names → List Entry → Trees → List Piece → List Piece → List ℕ → List ℕ → Type 0
PrintsTypes N es t so sn oo on = Prints N es (text_behind (codes ", ") (texts N t)) (1 + load t) so sn oo on

abbrev pub PrintsArgs : Names → List Entry → Bool → Trees → List Piece → List Piece → List ℕ → List ℕ → Type 0
PrintsArgs N es is_open t so sn oo on = Prints N es (more_args is_open (texts N t)) (1 + load t) so sn oo on

abbrev pub PrintsMoreAutos : Names → List Entry → Trees → List Piece → List Piece → List ℕ → List ℕ → Type 0
PrintsMoreAutos N es t so sn oo on = Prints N es (text_behind (codes " + ") (texts N t)) (1 + load t) so sn oo on

-- ---- the texts of kinds
-- A struct has its arguments, a tuple and a fn have their types, a principal trait has its arguments and the auto traits, and arguments
-- have the term of the first one.
abbrev pub PrintsKind : Names → List Entry → TyKind → List Piece → List Piece → List ℕ → List ℕ → Type 0
PrintsKind N es k so sn oo on = PrintsTrees N es (kind_trees es k) so sn oo on

abbrev pub PrintsAdt : Names → List Entry → ℕ → List GenericArgKind → List Piece → List Piece → List ℕ → List ℕ → Type 0
PrintsAdt N es s xs so sn oo on = PrintsTrees N es (tree (adt s) (args_trees es xs) none) so sn oo on

abbrev pub PrintsTuple : Names → List Entry → List Ty → List Piece → List Piece → List ℕ → List ℕ → Type 0
PrintsTuple N es ts so sn oo on = PrintsTrees N es (tree tuple (tys_trees es ts) none) so sn oo on

abbrev pub PrintsFn : Names → List Entry → ℕ → List Ty → List Piece → List Piece → List ℕ → List ℕ → Type 0
PrintsFn N es n ts so sn oo on = PrintsTrees N es (tree (fn_ptr n) (tys_trees es ts) none) so sn oo on

abbrev pub PrintsPrincipalOf : Names → List Entry → ℕ → List GenericArgKind → List TraitId → List Piece → List Piece → List ℕ → List ℕ → Type 0
PrintsPrincipalOf N es t xs us so sn oo on = PrintsPrincipal N es t (args_trees es xs) (autos_trees us) so sn oo on

abbrev pub PrintsArg : Names → List Entry → Bool → Trees → List GenericArgKind → List Piece → List Piece → List ℕ → List ℕ → Type 0
PrintsArg N es is_open t xs so sn oo on = PrintsArgs N es is_open (t +++ args_trees es xs) so sn oo on

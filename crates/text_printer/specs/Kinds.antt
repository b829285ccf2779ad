-- What the values of the code stand for among the definitions.
use Rattle.type_terms.specs.Promised.Label.{Sort, of_type, of_const}
use Rattle.text_printer.specs.declared.names.TermKind.{TermKind}
use Rattle.text_printer.specs.declared.names.TermKind.TheVariants.{Ty as KTy, Const as KConst}

abbrev pub sort_of_kind : TermKind → Sort
sort_of_kind KTy = of_type
sort_of_kind KConst = of_const

use Rattle.std.proofs.Common.{◌-◌, length, take, drop, sym, ap, subst, ◌∙◌, arith}
use Rattle.text_tables.specs.Tables.{declared}
use Rattle.text_parser.specs.Entries.{IsImpl}
use Rattle.text_parser.specs.Sights.{sight_of}
use Rattle.text_parser.proofs.KeptTypes.{two-first}
use Rattle.text_parser.proofs.Meaning.{header-is, clauses-are, header-there, line-known, ready-item}
use Rattle.text_parser.proofs.entries.impl_references.Goals as goal

pub unreachable-requires : goal.unreachable-requires
unreachable-requires c =
    let (l, r) = c.requires.judged.faultless.0 in
    let d = declared c.args.tables.now in
    let v = sight_of c.in_ok-names.names in
    let known = line-known d c.args.read.now v c.args.found.now c.in_ok-names.ensures c.requires.judged.faultless c.requires.judged.short c.requires.judged.found l r in
    let there = header-there d c.args.read.now v l c.args.found.now known (subst IsImpl r.0 c.requires.line) in
    absurd (omega (arith, c.in_default.len_below, there, ap length c.as_slice.ensures.value))

pub clause_cells-requires : goal.clause_cells-requires
clause_cells-requires c = ready-item (declared c.args.tables.now) c.args.read.now (sight_of c.in_ok-names.names) 0 c.requires.judged.agrees.numbered c.requires.judged.few c.in_ok-names.ensures c.requires.judged.faultless (omega arith)

pub clauses_cells-requires : goal.clauses_cells-requires
clauses_cells-requires c = ready-item (declared c.args.tables.now) c.args.read.now (sight_of c.in_ok-names.names) 0 c.requires.judged.agrees.numbered c.requires.judged.few c.in_ok-names.ensures c.requires.judged.faultless (omega arith)

pub returns-clause-header_made : goal.returns-clause-header_made
returns-clause-header_made c =
    let (l, r) = c.requires.judged.faultless.0 in
    let xs = c.as_slice.result.now in
    let same = sym c.as_slice.ensures.value ∙ two-first xs c.bound-item.result c.subject-item.result _ _ c.in-len2-up.len_at_least c.bound-item.is c.subject-item.is in
    (header-is (declared c.args.tables.now) c.args.read.now (sight_of c.in_ok-names.names) c.args.found.now c.bound-item.result c.subject-item.result (take (length xs - 2) (drop 2 xs)) c.in_ok-reference.reference c.in_ok-names.ensures
    c.requires.judged.faultless c.requires.judged.short c.requires.judged.found c.requires.line same c.in_ok-reference.ensures l r).1

pub returns-clause-header : goal.returns-clause-header
returns-clause-header c = λ l r.
    let xs = c.as_slice.result.now in
    let same = sym c.as_slice.ensures.value ∙ two-first xs c.bound-item.result c.subject-item.result _ _ c.in-len2-up.len_at_least c.bound-item.is c.subject-item.is in
    (header-is (declared c.args.tables.now) c.args.read.now (sight_of c.in_ok-names.names) c.args.found.now c.bound-item.result c.subject-item.result (take (length xs - 2) (drop 2 xs)) c.in_ok-reference.reference c.in_ok-names.ensures
    c.requires.judged.faultless c.requires.judged.short c.requires.judged.found c.requires.line same c.in_ok-reference.ensures l r).0

pub returns-clause-clauses_made : goal.returns-clause-clauses_made
returns-clause-clauses_made c =
    let (l, r) = c.requires.judged.faultless.0 in
    let xs = c.as_slice.result.now in
    let same = sym c.as_slice.ensures.value ∙ two-first xs c.bound-item.result c.subject-item.result _ _ c.in-len2-up.len_at_least c.bound-item.is c.subject-item.is in
    (clauses-are (declared c.args.tables.now) c.args.read.now (sight_of c.in_ok-names.names) c.args.found.now c.bound-item.result c.subject-item.result (take (length xs - 2) (drop 2 xs)) c.in_ok-references.references.items c.in_ok-names.ensures
    c.requires.judged.faultless c.requires.judged.short c.requires.judged.found c.requires.line same c.in_ok-references.ensures l r).1

pub returns-clause-clauses : goal.returns-clause-clauses
returns-clause-clauses c = λ l r.
    let xs = c.as_slice.result.now in
    let same = sym c.as_slice.ensures.value ∙ two-first xs c.bound-item.result c.subject-item.result _ _ c.in-len2-up.len_at_least c.bound-item.is c.subject-item.is in
    (clauses-are (declared c.args.tables.now) c.args.read.now (sight_of c.in_ok-names.names) c.args.found.now c.bound-item.result c.subject-item.result (take (length xs - 2) (drop 2 xs)) c.in_ok-references.references.items c.in_ok-names.ensures
    c.requires.judged.faultless c.requires.judged.short c.requires.judged.found c.requires.line same c.in_ok-references.ensures l r).0

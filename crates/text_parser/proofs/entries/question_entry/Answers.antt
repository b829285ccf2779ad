use Rattle.std.proofs.Common.{◌-◌, length, take, drop, map, sym, ap, subst, ◌∙◌, arith}
use Rattle.text_language.specs.Faults.{once}
use Rattle.text_lines.specs.Views.{params_in}
use Rattle.text_names.specs.Views.{variable_in}
use Rattle.text_tables.specs.Tables.{declared}
use Rattle.text_tables.specs.Views.{is_refute}
use Rattle.text_parser.specs.Entries.{AsksQuestion}
use Rattle.text_parser.specs.Kept.{MeansClauses}
use Rattle.text_parser.specs.Sights.{sight_of}
use Rattle.text_parser.specs.declared.numbering.Numbering.TheVariants.{Question}
use Rattle.text_parser.proofs.KeptTypes.{two-first}
use Rattle.text_parser.proofs.Meaning.{variables-are, asked-is, further-are, made-onto, given-are, asked-there, line-known, ready-question}
use Rattle.text_parser.proofs.entries.question_entry.Goals as goal

pub unreachable-requires : goal.unreachable-requires
unreachable-requires c =
    let (l, r) = c.requires.judged.faultless.0 in
    let d = declared c.args.tables.now in
    let v = sight_of c.in_ok-names.names in
    let known = line-known d c.args.read.now v c.args.found.now c.in_ok-names.ensures c.requires.judged.faultless c.requires.judged.short c.requires.judged.found l r in
    let there = asked-there d c.args.read.now v l c.args.found.now (is_refute c.args.asked_how) c.requires.line.0 (params_in c.args.params.now) known
    (subst (λ s. AsksQuestion s (is_refute c.args.asked_how) c.requires.line.0 (params_in c.args.params.now)) r.0 c.requires.line.1) in
    absurd (omega (arith, c.in_default.len_below, there, ap length c.as_slice.ensures.value))

pub clause_cells-requires : goal.clause_cells-requires
clause_cells-requires c =
    ready-question (declared c.args.tables.now) c.args.read.now (sight_of c.in_ok-names.names) c.as_slice-variables.result c.requires.judged.agrees.numbered c.requires.judged.few c.in_ok-names.ensures c.requires.judged.faultless
    (variables-are (declared c.args.tables.now) c.args.read.now (sight_of c.in_ok-names.names) c.args.found.now c.as_slice-variables.result.now c.in_ok-names.ensures c.requires.judged.faultless c.requires.judged.short c.requires.judged.found (ap (map variable_in) c.as_slice-variables.ensures.value ∙ c.in_ok-firsts.ensures ∙ ap (λ vs. once (map variable_in vs)) c.deref.ensures.value))

pub clauses_cells-requires-2 : goal.clauses_cells-requires-2
clauses_cells-requires-2 c =
    ready-question (declared c.args.tables.now) c.args.read.now (sight_of c.in_ok-names.names) c.as_slice-variables.result c.requires.judged.agrees.numbered c.requires.judged.few c.in_ok-names.ensures c.requires.judged.faultless
    (variables-are (declared c.args.tables.now) c.args.read.now (sight_of c.in_ok-names.names) c.args.found.now c.as_slice-variables.result.now c.in_ok-names.ensures c.requires.judged.faultless c.requires.judged.short c.requires.judged.found (ap (map variable_in) c.as_slice-variables.ensures.value ∙ c.in_ok-firsts.ensures ∙ ap (λ vs. once (map variable_in vs)) c.deref.ensures.value))

pub clauses_cells-requires : goal.clauses_cells-requires
clauses_cells-requires c =
    ready-question (declared c.args.tables.now) c.args.read.now (sight_of c.in_ok-names.names) c.as_slice-variables.result c.requires.judged.agrees.numbered c.requires.judged.few c.in_ok-names.ensures c.requires.judged.faultless
    (variables-are (declared c.args.tables.now) c.args.read.now (sight_of c.in_ok-names.names) c.args.found.now c.as_slice-variables.result.now c.in_ok-names.ensures c.requires.judged.faultless c.requires.judged.short c.requires.judged.found (ap (map variable_in) c.as_slice-variables.ensures.value ∙ c.in_ok-firsts.ensures ∙ ap (λ vs. once (map variable_in vs)) c.deref.ensures.value))

pub returns-clause-asked_made : goal.returns-clause-asked_made
returns-clause-asked_made c =
    let (l, r) = c.requires.judged.faultless.0 in
    let xs = c.as_slice.result.now in
    let same = sym c.as_slice.ensures.value ∙ two-first xs c.subject-item.result c.bound-item.result _ _ c.in-len2-up.len_at_least c.subject-item.is c.bound-item.is in
    made-onto c.in_ok-reference.reference c.in_ok-further.further.items
    (asked-is (declared c.args.tables.now) c.args.read.now (sight_of c.in_ok-names.names) c.args.found.now (is_refute c.args.asked_how) c.requires.line.0 (params_in c.args.params.now) c.subject-item.result c.bound-item.result (take (length xs - 2) (drop 2 xs)) c.as_slice-variables.result c.in_ok-reference.reference
    c.in_ok-names.ensures c.requires.judged.faultless c.requires.judged.short c.requires.judged.found c.requires.line.1 (ap (map variable_in) c.as_slice-variables.ensures.value ∙ c.in_ok-firsts.ensures ∙ ap (λ vs. once (map variable_in vs)) c.deref.ensures.value) same c.in_ok-reference.ensures l r).1
    (further-are (declared c.args.tables.now) c.args.read.now (sight_of c.in_ok-names.names) c.args.found.now (is_refute c.args.asked_how) c.requires.line.0 (params_in c.args.params.now) c.subject-item.result c.bound-item.result (take (length xs - 2) (drop 2 xs)) c.as_slice-variables.result c.in_ok-further.further.items
    c.in_ok-names.ensures c.requires.judged.faultless c.requires.judged.short c.requires.judged.found c.requires.line.1 (ap (map variable_in) c.as_slice-variables.ensures.value ∙ c.in_ok-firsts.ensures ∙ ap (λ vs. once (map variable_in vs)) c.deref.ensures.value) same c.in_ok-further.ensures l r).1

pub returns-clause-clauses_made : goal.returns-clause-clauses_made
returns-clause-clauses_made c =
    let (l, r) = c.requires.judged.faultless.0 in
    let v = sight_of c.in_ok-names.names in
    (given-are (declared c.args.tables.now) c.args.read.now (sight_of c.in_ok-names.names) c.args.found.now (is_refute c.args.asked_how) c.requires.line.0 (params_in c.args.params.now) c.as_slice-variables.result c.in_ok-references.references.items c.in_ok-names.ensures
    c.requires.judged.faultless c.requires.judged.short c.requires.judged.found c.requires.line.1 (ap (map variable_in) c.as_slice-variables.ensures.value ∙ c.in_ok-firsts.ensures ∙ ap (λ vs. once (map variable_in vs)) c.deref.ensures.value)
    (subst (λ rs. MeansClauses v (Question c.as_slice-variables.result) rs c.in_ok-references.references.items) c.deref-2.ensures.value c.in_ok-references.ensures) l r).1

pub returns-clause-entry : goal.returns-clause-entry
returns-clause-entry c = record {
  named = c.in_ok-named.ensures;
  asked = λ l r.
      let xs = c.as_slice.result.now in
      let same = sym c.as_slice.ensures.value ∙ two-first xs c.subject-item.result c.bound-item.result _ _ c.in-len2-up.len_at_least c.subject-item.is c.bound-item.is in
      (asked-is (declared c.args.tables.now) c.args.read.now (sight_of c.in_ok-names.names) c.args.found.now (is_refute c.args.asked_how) c.requires.line.0 (params_in c.args.params.now) c.subject-item.result c.bound-item.result (take (length xs - 2) (drop 2 xs)) c.as_slice-variables.result c.in_ok-reference.reference
      c.in_ok-names.ensures c.requires.judged.faultless c.requires.judged.short c.requires.judged.found c.requires.line.1 (ap (map variable_in) c.as_slice-variables.ensures.value ∙ c.in_ok-firsts.ensures ∙ ap (λ vs. once (map variable_in vs)) c.deref.ensures.value) same c.in_ok-reference.ensures l r).0;
  further = λ l r.
      let xs = c.as_slice.result.now in
      let same = sym c.as_slice.ensures.value ∙ two-first xs c.subject-item.result c.bound-item.result _ _ c.in-len2-up.len_at_least c.subject-item.is c.bound-item.is in
      (further-are (declared c.args.tables.now) c.args.read.now (sight_of c.in_ok-names.names) c.args.found.now (is_refute c.args.asked_how) c.requires.line.0 (params_in c.args.params.now) c.subject-item.result c.bound-item.result (take (length xs - 2) (drop 2 xs)) c.as_slice-variables.result c.in_ok-further.further.items
      c.in_ok-names.ensures c.requires.judged.faultless c.requires.judged.short c.requires.judged.found c.requires.line.1 (ap (map variable_in) c.as_slice-variables.ensures.value ∙ c.in_ok-firsts.ensures ∙ ap (λ vs. once (map variable_in vs)) c.deref.ensures.value) same c.in_ok-further.ensures l r).0;
  clauses = λ l r.
      let v = sight_of c.in_ok-names.names in
      (given-are (declared c.args.tables.now) c.args.read.now (sight_of c.in_ok-names.names) c.args.found.now (is_refute c.args.asked_how) c.requires.line.0 (params_in c.args.params.now) c.as_slice-variables.result c.in_ok-references.references.items c.in_ok-names.ensures
      c.requires.judged.faultless c.requires.judged.short c.requires.judged.found c.requires.line.1 (ap (map variable_in) c.as_slice-variables.ensures.value ∙ c.in_ok-firsts.ensures ∙ ap (λ vs. once (map variable_in vs)) c.deref.ensures.value)
      (subst (λ rs. MeansClauses v (Question c.as_slice-variables.result) rs c.in_ok-references.references.items) c.deref-2.ensures.value c.in_ok-references.ensures) l r).0;
  variables = λ l r.
      c.in_ok-unknowns.ensures
      ∙ variables-are (declared c.args.tables.now) c.args.read.now (sight_of c.in_ok-names.names) c.args.found.now c.as_slice-variables.result.now c.in_ok-names.ensures c.requires.judged.faultless c.requires.judged.short c.requires.judged.found (ap (map variable_in) c.as_slice-variables.ensures.value ∙ c.in_ok-firsts.ensures ∙ ap (λ vs. once (map variable_in vs)) c.deref.ensures.value) l r;
}

-- The types and references of a line that was read stand for those of whichever line it was.
use Rattle.std.proofs.Common.{◌≡◌, ℕ, zero, suc, ◌*◌, ◌≤◌, Bool, true, false, List, [], ◌∷◌, ◌++◌, length, map, take, drop, None, refl, sym, ap, ◌∙◌, subst, arith}
use Rattle.std.specs.List.{flat_map}
use Rattle.std.specs.Prelude.{min}
use Rattle.std.proofs.lemmas.List.{length-map}
use Rattle.std.proofs.lemmas.Option.{same_Some}
use Rattle.type_terms.specs.Promised.Label.{Label, Sort, of_type, param, placeholder}
use Rattle.type_terms.specs.Promised.Trees.{leaf}
use Rattle.text_language.specs.Promised.Syntax.{Params, Clause, Line, struct_line, trait_line, impl_line, prove_line, refute_line}
use Rattle.text_language.specs.Promised.Declarations.{Declarations, kinds_of}
use Rattle.text_language.specs.Uses.{asked_uses, params_of}
use Rattle.text_language.specs.Promised.Faults.{with_own}
use Rattle.text_language.specs.Faults.{fault_of, variables_in, once, param_limit}
use Rattle.text_language.specs.Lowering.{Meanings, field_trees, clause_reference, bound_with_self}
use Rattle.text_language.specs.Adding.{item_meanings, question_meanings}
use Rattle.text_lines.proofs.FittingUses.{faultless-limits}
use Rattle.text_lines.specs.LineParts.{LinePart, type_part, bound_part, clause_parts, header_parts, PartStands, places_in, asked_parts}
use Rattle.text_lines.specs.TypeViews.{cells_in}
use Rattle.text_lines.specs.Lines.{ReadsLine}
use Rattle.text_lines.specs.Places.{EachOf}
use Rattle.std.specs.Borrow.{Bor}
use Rattle.text_lines.specs.Statement as said
use Rattle.text_lines.specs.Statement.{Statement, line_statement, type_list}
use Rattle.text_lines.specs.Views.{statement_of}
use Rattle.text_lines.specs.declared.parts.LinePart as places
use Rattle.text_lines.specs.declared.statement.LineRead.{LineRead}
use Rattle.text_names.proofs.LineTests.{asked-variables}
use Rattle.text_names.proofs.Splitting.{read-split}
use Rattle.text_names.specs.Found.{Resolves}
use Rattle.text_names.specs.LineFound.{other_parts, asked_bounds, IsLineFound}
use Rattle.text_names.specs.Machine.{Sight, seen_items, params}
use Rattle.text_names.specs.Views.{variable_in}
use Rattle.text_names.specs.declared.line.LineFound.{LineFound}
use Rattle.text_names.specs.declared.parts.ResolvedPart.{ResolvedPart}
use Rattle.text_names.specs.declared.resolved.Variable.{Variable}
use Rattle.text_parser.specs.Declaring.{IsFaultless, IsFoundOf}
use Rattle.text_parser.specs.Kept.{IsSightOf, HasSmallNumbers, NumberingFits, IsReadAs, MeansFields, MeansClause, MeansClauses, MeansBounds}
use Rattle.text_parser.specs.Meant.{NumbersFit}
use Rattle.text_parser.specs.Numbering.{meanings}
use Rattle.text_parser.specs.declared.numbering.Numbering.{Numbering}
use Rattle.text_parser.specs.declared.numbering.Numbering.TheVariants.{Item, Question}
use Rattle.text_parser.proofs.Fits.{faultless-parts, numbers-fit}
use Rattle.text_parser.proofs.Sighted.{same-sight, speaks}
use Rattle.text_tables.specs.Made.{AreMade, ReferenceMade, ReferencesMade, is_type}
use Rattle.text_tables.specs.Numbered.{IsNumbered, IsFew}
use Rattle.text_tables.specs.TermCells.{trees_of}
use Rattle.text_tables.specs.Views.{cells_of, reference_of}
use Rattle.text_tables.specs.declared.cell.TermCell.{TermCell}
use Rattle.text_tables.specs.declared.declared.ReferenceCells.{ReferenceCells}
use Rattle.text_parser.specs.Entries.{AreFields, AreBoundsOfLine, IsMain, AreFurther, AreClauses, AreVariables, IsStruct, IsTrait, IsImpl, AsksQuestion}
use Rattle.text_parser.specs.Sights.{IsSightOfRead}

pub sight-of : (d : Declarations) (read : LineRead) (v : Sight) (l : Line) → IsSightOfRead d read v → ReadsLine l read → IsSightOf v l
sight-of d read v l s r = record { items = s.items l r ∙ ap (λ x. with_own x l) (sym s.before); params = s.params l r }

-- ---- what names stand for
made : Declarations → Params → ℕ → (Sort → ℕ → Label) → List (List ℕ × Sort) → Meanings
made d ps n p vs = record { items = d; params = ps; first = n; parameter = p; variables = vs }

item-means : (d : Declarations) (v : Sight) (l : Line) (n : ℕ) → seen_items v ≡ with_own d l → params v ≡ params_of l → meanings v (Item n) ≡ item_meanings d l n
unfolding made
item-means d v l n i p = ap (λ x. made x (params v) n param []) i ∙ ap (λ x. made (with_own d l) x n param []) p

-- ---- the types and bounds of the line, as they were resolved
each-with : {T Y Z : Type 0} (P : T → Y → Type 0) (Q R : T → Z → Type 0) → ((t : T) (y : Y) (z : Z) → P t y → Q t z → R t z) → (ts : List T) (ys : List Y) (zs : List Z) → EachOf P ts ys → EachOf Q ts zs → EachOf R ts zs
each-with P Q R f [] [] [] p q = tt
each-with P Q R f [] [] (z ∷ zs) p q = absurd q
each-with P Q R f [] (y ∷ ys) zs p q = absurd p
each-with P Q R f (t ∷ ts) [] zs p q = absurd p
each-with P Q R f (t ∷ ts) (y ∷ ys) [] p q = absurd q
each-with P Q R f (t ∷ ts) (y ∷ ys) (z ∷ zs) p q = (f t y z p.0 q.0, each-with P Q R f ts ys zs p.1 q.1)

-- what is known of a line without a fault that was read
pub record Known (d : Declarations) (read : LineRead) (v : Sight) (l : Line) (found : LineFound) : Type 0 where
  pub before : v.before ≡ d
  pub items_are : seen_items v ≡ with_own d l
  pub params_are : params v ≡ params_of l
  pub sight : IsSightOf v l
  pub none : fault_of d l ≡ None
  pub asked : EachOf (IsReadAs v) (asked_parts l) found.asked.parts.items
  pub others : EachOf (IsReadAs v) (other_parts l) found.others.parts.items
  pub variables : map variable_in found.asked.variables.items ≡ variables_in (asked_uses d l)

pub line-known : (d : Declarations) (read : LineRead) (v : Sight) (found : LineFound) → IsSightOfRead d read v → IsFaultless d read → length read.cells.items ≤ 67108864 → IsFoundOf d read found → (l : Line) → ReadsLine l read → Known d read v l found
line-known d read v found s f short finds l r =
    let is : IsLineFound v l found = subst (λ x. IsLineFound x l found) (sym (same-sight d read v s)) (finds l r) in
    let at = places_in (statement_of read.statement) in
    let count = min (2 * asked_bounds (statement_of read.statement)) (length at) in
    let split = read-split l read count at r refl refl in
    record {
      before = s.before;
      items_are = s.items l r;
      params_are = s.params l r;
      sight = sight-of d read v l s r;
      none = f.1 l r;
      asked = each-with (PartStands (cells_in read.cells.items)) (Resolves v) (IsReadAs v) as-read (asked_parts l) (take count at) found.asked.parts.items split.0 is.asked.parts;
      others = each-with (PartStands (cells_in read.cells.items)) (Resolves v) (IsReadAs v) as-read (other_parts l) (drop count at) found.others.parts.items split.1 is.others.parts;
      variables = asked-variables v l found (speaks read v s.line l r) is ∙ ap (λ x. variables_in (asked_uses x l)) s.before;
    }
  where
    as-read : (p : LinePart) (at : places.LinePart) (x : ResolvedPart) → PartStands (cells_in read.cells.items) p at → Resolves v p x → IsReadAs v p x
    as-read p at x st h = (h, (read.cells.items, at, omega (arith, short), st))

fits-line : (d : Declarations) (read : LineRead) (v : Sight) (l : Line) (found : LineFound) → Known d read v l found → fault_of v.before l ≡ None
fits-line d read v l found n = ap (λ x. fault_of x l) n.before ∙ n.none

-- ---- fields
fields-at : (d : Declarations) (read : LineRead) (v : Sight) (l : Line) (found : LineFound) (out : List TermCell) → Known d read v l found → IsStruct (line_statement l)
    → MeansFields v (Item 0) found.others.parts.items out → AreFields d l (trees_of (cells_of out)) × AreMade is_type out
fields-at d read v (struct_line g m qs fs) found out known says means =
    let l = struct_line g m qs fs in
    let h = means l fs known.sight known.others (faultless-parts v.before l (fits-line d read v l found known)) in
    (h.0 ∙ ap (λ e. field_trees e fs) (item-means d v l 0 known.items_are known.params_are), h.1)
fields-at d read v l found out known says means = absurd says

pub fields-are : (d : Declarations) (read : LineRead) (v : Sight) (found : LineFound) (out : List TermCell) → IsSightOfRead d read v → IsFaultless d read → length read.cells.items ≤ 67108864
    → IsFoundOf d read found → IsStruct (statement_of read.statement) → MeansFields v (Item 0) found.others.parts.items out → (l : Line) → ReadsLine l read → AreFields d l (trees_of (cells_of out)) × AreMade is_type out
fields-are d read v found out s none short finds says means l r =
    fields-at d read v l found out (line-known d read v found s none short finds l r) (subst IsStruct r.0 says) means

-- ---- bounds
bounds-at : (d : Declarations) (read : LineRead) (v : Sight) (l : Line) (found : LineFound) (out : List ReferenceCells) → Known d read v l found → IsTrait (line_statement l)
    → MeansBounds v found.others.parts.items out → AreBoundsOfLine d l (map reference_of out) × ReferencesMade out
bounds-at d read v (trait_line g b m qs bs) found out known says means =
    let l = trait_line g b m qs bs in
    let h = means l bs known.sight known.others (faultless-parts v.before l (fits-line d read v l found known)) in
    (h.0 ∙ ap (λ e. map (bound_with_self e (leaf (param of_type 0))) bs) (item-means d v l 1 known.items_are known.params_are), h.1)
bounds-at d read v l found out known says means = absurd says

pub bounds-are : (d : Declarations) (read : LineRead) (v : Sight) (found : LineFound) (out : List ReferenceCells) → IsSightOfRead d read v → IsFaultless d read → length read.cells.items ≤ 67108864
    → IsFoundOf d read found → IsTrait (statement_of read.statement) → MeansBounds v found.others.parts.items out → (l : Line) → ReadsLine l read → AreBoundsOfLine d l (map reference_of out) × ReferencesMade out
bounds-are d read v found out s none short finds says means l r =
    bounds-at d read v l found out (line-known d read v found s none short finds l r) (subst IsTrait r.0 says) means

-- ---- impls
-- the bound of the header stands first, and its subject next
pub header-there : (d : Declarations) (read : LineRead) (v : Sight) (l : Line) (found : LineFound) → Known d read v l found → IsImpl (line_statement l) → 2 ≤ length found.others.parts.items
header-there d read v (impl_line qs h ks) found known says = by found.others.parts.items known.others
  where
    by : (rs : List ResolvedPart) → EachOf (IsReadAs v) (header_parts h ++ flat_map clause_parts ks) rs → 2 ≤ length rs
    by [] st = absurd st
    by (x ∷ []) st = absurd st.1
    by (x ∷ y ∷ rs) st = omega arith
header-there d read v l found known says = absurd says

header-at : (d : Declarations) (read : LineRead) (v : Sight) (l : Line) (found : LineFound) (b s : ResolvedPart) (rest : List ResolvedPart) (out : ReferenceCells) → Known d read v l found → IsImpl (line_statement l)
    → found.others.parts.items ≡ b ∷ s ∷ rest → MeansClause v (Item 0) s b out → IsMain d l (reference_of out) × ReferenceMade out
header-at d read v (impl_line qs h ks) found b s rest out known says same means =
    let l = impl_line qs h ks in
    let fits = (faultless-parts v.before l (fits-line d read v l found known)).0 in
    let st : EachOf (IsReadAs v) (bound_part h.bound ∷ type_part h.subject ∷ flat_map clause_parts ks) (b ∷ s ∷ rest) = subst (EachOf (IsReadAs v) (bound_part h.bound ∷ type_part h.subject ∷ flat_map clause_parts ks)) same known.others in
    let w = means l h known.sight st.1.0 st.0 fits in
    (w.0 ∙ ap (λ e. clause_reference e h) (item-means d v l 0 known.items_are known.params_are), w.1)
header-at d read v l found b s rest out known says same means = absurd says

pub header-is : (d : Declarations) (read : LineRead) (v : Sight) (found : LineFound) (b s : ResolvedPart) (rest : List ResolvedPart) (out : ReferenceCells) → IsSightOfRead d read v → IsFaultless d read
    → length read.cells.items ≤ 67108864 → IsFoundOf d read found → IsImpl (statement_of read.statement) → found.others.parts.items ≡ b ∷ s ∷ rest → MeansClause v (Item 0) s b out
    → (l : Line) → ReadsLine l read → IsMain d l (reference_of out) × ReferenceMade out
header-is d read v found b s rest out sight none short finds says same means l r =
    header-at d read v l found b s rest out (line-known d read v found sight none short finds l r) (subst IsImpl r.0 says) same means

clauses-at : (d : Declarations) (read : LineRead) (v : Sight) (l : Line) (found : LineFound) (b s : ResolvedPart) (rest : List ResolvedPart) (out : List ReferenceCells) → Known d read v l found → IsImpl (line_statement l)
    → found.others.parts.items ≡ b ∷ s ∷ rest → MeansClauses v (Item 0) rest out → AreClauses d l (map reference_of out) × ReferencesMade out
clauses-at d read v (impl_line qs h ks) found b s rest out known says same means =
    let l = impl_line qs h ks in
    let fits = (faultless-parts v.before l (fits-line d read v l found known)).1 in
    let st : EachOf (IsReadAs v) (bound_part h.bound ∷ type_part h.subject ∷ flat_map clause_parts ks) (b ∷ s ∷ rest) = subst (EachOf (IsReadAs v) (bound_part h.bound ∷ type_part h.subject ∷ flat_map clause_parts ks)) same known.others in
    let w = means l ks known.sight st.1.1 fits in
    (w.0 ∙ ap (λ e. map (clause_reference e) ks) (item-means d v l 0 known.items_are known.params_are), w.1)
clauses-at d read v l found b s rest out known says same means = absurd says

pub clauses-are : (d : Declarations) (read : LineRead) (v : Sight) (found : LineFound) (b s : ResolvedPart) (rest : List ResolvedPart) (out : List ReferenceCells) → IsSightOfRead d read v → IsFaultless d read
    → length read.cells.items ≤ 67108864 → IsFoundOf d read found → IsImpl (statement_of read.statement) → found.others.parts.items ≡ b ∷ s ∷ rest → MeansClauses v (Item 0) rest out
    → (l : Line) → ReadsLine l read → AreClauses d l (map reference_of out) × ReferencesMade out
clauses-are d read v found b s rest out sight none short finds says same means l r =
    clauses-at d read v l found b s rest out (line-known d read v found sight none short finds l r) (subst IsImpl r.0 says) same means

-- ---- questions
question-means : (d : Declarations) (v : Sight) (l : Line) (vs : Bor (List Variable)) → seen_items v ≡ d → params v ≡ params_of l → map variable_in vs.now ≡ once (variables_in (asked_uses d l))
    → meanings v (Question vs) ≡ question_meanings d l
unfolding made
question-means d v l vs i p e =
    ap (λ x. made x (params v) 0 placeholder (map variable_in vs.now)) i ∙ ap (λ x. made d x 0 placeholder (map variable_in vs.now)) p ∙ ap (made d (params_of l) 0 placeholder) e

pub variables-are : (d : Declarations) (read : LineRead) (v : Sight) (found : LineFound) (vs : List Variable) → IsSightOfRead d read v → IsFaultless d read → length read.cells.items ≤ 67108864 → IsFoundOf d read found
    → map variable_in vs ≡ once (map variable_in found.asked.variables.items) → (l : Line) → ReadsLine l read → AreVariables d l (map variable_in vs)
variables-are d read v found vs s none short finds is l r = is ∙ ap once (line-known d read v found s none short finds l r).variables

asked-two : (v : Sight) (k : Clause) (bs : List Clause) (rs : List ResolvedPart) → EachOf (IsReadAs v) (flat_map clause_parts (k ∷ bs)) rs → 2 ≤ length rs
asked-two v k bs [] st = absurd st
asked-two v k bs (x ∷ []) st = absurd st.1
asked-two v k bs (x ∷ y ∷ rs) st = omega arith

-- what is asked first is its subject, and then its bound
pub asked-there : (d : Declarations) (read : LineRead) (v : Sight) (l : Line) (found : LineFound) (b : Bool) (c : List ℕ) (ps : List said.Param) → Known d read v l found → AsksQuestion (line_statement l) b c ps → 2 ≤ length found.asked.parts.items
asked-there d read v (prove_line a qs k bs ks) found false c ps known asks = asked-two v k bs found.asked.parts.items known.asked
asked-there d read v (refute_line a qs k bs) found true c ps known asks = asked-two v k bs found.asked.parts.items known.asked
asked-there d read v l found b c ps known asks = absurd asks

asked-at : (d : Declarations) (read : LineRead) (v : Sight) (l : Line) (found : LineFound) (q : Bool) (c : List ℕ) (ps : List said.Param) (s b : ResolvedPart) (rest : List ResolvedPart) (vs : Bor (List Variable)) (out : ReferenceCells) → Known d read v l found
    → AsksQuestion (line_statement l) q c ps → AreVariables d l (map variable_in vs.now) → found.asked.parts.items ≡ s ∷ b ∷ rest → MeansClause v (Question vs) s b out → IsMain d l (reference_of out) × ReferenceMade out
asked-at d read v (prove_line a qs k bs ks) found false c ps s b rest vs out known asks are same means =
    let l = prove_line a qs k bs ks in
    let fits = (faultless-parts v.before l (fits-line d read v l found known)).0.0 in
    let st : EachOf (IsReadAs v) (flat_map clause_parts (k ∷ bs)) (s ∷ b ∷ rest) = subst (EachOf (IsReadAs v) (flat_map clause_parts (k ∷ bs))) same known.asked in
    let w = means l k known.sight st.0 st.1.0 fits in
    (w.0 ∙ ap (λ e. clause_reference e k) (question-means d v l vs known.items_are known.params_are are), w.1)
asked-at d read v (refute_line a qs k bs) found true c ps s b rest vs out known asks are same means =
    let l = refute_line a qs k bs in
    let fits = (faultless-parts v.before l (fits-line d read v l found known)).0 in
    let st : EachOf (IsReadAs v) (flat_map clause_parts (k ∷ bs)) (s ∷ b ∷ rest) = subst (EachOf (IsReadAs v) (flat_map clause_parts (k ∷ bs))) same known.asked in
    let w = means l k known.sight st.0 st.1.0 fits in
    (w.0 ∙ ap (λ e. clause_reference e k) (question-means d v l vs known.items_are known.params_are are), w.1)
asked-at d read v l found q c ps s b rest vs out known asks are same means = absurd asks

further-at : (d : Declarations) (read : LineRead) (v : Sight) (l : Line) (found : LineFound) (q : Bool) (c : List ℕ) (ps : List said.Param) (s b : ResolvedPart) (rest : List ResolvedPart) (vs : Bor (List Variable)) (out : List ReferenceCells) → Known d read v l found
    → AsksQuestion (line_statement l) q c ps → AreVariables d l (map variable_in vs.now) → found.asked.parts.items ≡ s ∷ b ∷ rest → MeansClauses v (Question vs) rest out → AreFurther d l (map reference_of out) × ReferencesMade out
further-at d read v (prove_line a qs k bs ks) found false c ps s b rest vs out known asks are same means =
    let l = prove_line a qs k bs ks in
    let fits = (faultless-parts v.before l (fits-line d read v l found known)).0.1 in
    let st : EachOf (IsReadAs v) (flat_map clause_parts (k ∷ bs)) (s ∷ b ∷ rest) = subst (EachOf (IsReadAs v) (flat_map clause_parts (k ∷ bs))) same known.asked in
    let w = means l bs known.sight st.1.1 fits in
    (w.0 ∙ ap (λ e. map (clause_reference e) bs) (question-means d v l vs known.items_are known.params_are are), w.1)
further-at d read v (refute_line a qs k bs) found true c ps s b rest vs out known asks are same means =
    let l = refute_line a qs k bs in
    let fits = (faultless-parts v.before l (fits-line d read v l found known)).1 in
    let st : EachOf (IsReadAs v) (flat_map clause_parts (k ∷ bs)) (s ∷ b ∷ rest) = subst (EachOf (IsReadAs v) (flat_map clause_parts (k ∷ bs))) same known.asked in
    let w = means l bs known.sight st.1.1 fits in
    (w.0 ∙ ap (λ e. map (clause_reference e) bs) (question-means d v l vs known.items_are known.params_are are), w.1)
further-at d read v l found q c ps s b rest vs out known asks are same means = absurd asks

given-at : (d : Declarations) (read : LineRead) (v : Sight) (l : Line) (found : LineFound) (q : Bool) (c : List ℕ) (ps : List said.Param) (vs : Bor (List Variable)) (out : List ReferenceCells) → Known d read v l found
    → AsksQuestion (line_statement l) q c ps → AreVariables d l (map variable_in vs.now) → MeansClauses v (Question vs) found.others.parts.items out → AreClauses d l (map reference_of out) × ReferencesMade out
given-at d read v (prove_line a qs k bs ks) found false c ps vs out known asks are means =
    let l = prove_line a qs k bs ks in
    let fits = (faultless-parts v.before l (fits-line d read v l found known)).1 in
    let w = means l ks known.sight known.others fits in
    (w.0 ∙ ap (λ e. map (clause_reference e) ks) (question-means d v l vs known.items_are known.params_are are), w.1)
given-at d read v (refute_line a qs k bs) found true c ps vs out known asks are means = means (refute_line a qs k bs) [] known.sight known.others tt
given-at d read v l found q c ps vs out known asks are means = absurd asks

pub asked-is : (d : Declarations) (read : LineRead) (v : Sight) (found : LineFound) (q : Bool) (c : List ℕ) (ps : List said.Param) (s b : ResolvedPart) (rest : List ResolvedPart) (vs : Bor (List Variable)) (out : ReferenceCells) → IsSightOfRead d read v → IsFaultless d read
    → length read.cells.items ≤ 67108864 → IsFoundOf d read found → AsksQuestion (statement_of read.statement) q c ps → map variable_in vs.now ≡ once (map variable_in found.asked.variables.items) → found.asked.parts.items ≡ s ∷ b ∷ rest
    → MeansClause v (Question vs) s b out → (l : Line) → ReadsLine l read → IsMain d l (reference_of out) × ReferenceMade out
asked-is d read v found q c ps s b rest vs out sight none short finds asks is same means l r =
    asked-at d read v l found q c ps s b rest vs out (line-known d read v found sight none short finds l r) (subst (λ x. AsksQuestion x q c ps) r.0 asks)
    (variables-are d read v found vs.now sight none short finds is l r) same means

pub further-are : (d : Declarations) (read : LineRead) (v : Sight) (found : LineFound) (q : Bool) (c : List ℕ) (ps : List said.Param) (s b : ResolvedPart) (rest : List ResolvedPart) (vs : Bor (List Variable)) (out : List ReferenceCells) → IsSightOfRead d read v → IsFaultless d read
    → length read.cells.items ≤ 67108864 → IsFoundOf d read found → AsksQuestion (statement_of read.statement) q c ps → map variable_in vs.now ≡ once (map variable_in found.asked.variables.items) → found.asked.parts.items ≡ s ∷ b ∷ rest
    → MeansClauses v (Question vs) rest out → (l : Line) → ReadsLine l read → AreFurther d l (map reference_of out) × ReferencesMade out
further-are d read v found q c ps s b rest vs out sight none short finds asks is same means l r =
    further-at d read v l found q c ps s b rest vs out (line-known d read v found sight none short finds l r) (subst (λ x. AsksQuestion x q c ps) r.0 asks)
    (variables-are d read v found vs.now sight none short finds is l r) same means

pub given-are : (d : Declarations) (read : LineRead) (v : Sight) (found : LineFound) (q : Bool) (c : List ℕ) (ps : List said.Param) (vs : Bor (List Variable)) (out : List ReferenceCells) → IsSightOfRead d read v → IsFaultless d read
    → length read.cells.items ≤ 67108864 → IsFoundOf d read found → AsksQuestion (statement_of read.statement) q c ps → map variable_in vs.now ≡ once (map variable_in found.asked.variables.items)
    → MeansClauses v (Question vs) found.others.parts.items out → (l : Line) → ReadsLine l read → AreClauses d l (map reference_of out) × ReferencesMade out
given-are d read v found q c ps vs out sight none short finds asks is means l r =
    given-at d read v l found q c ps vs out (line-known d read v found sight none short finds l r) (subst (λ x. AsksQuestion x q c ps) r.0 asks)
    (variables-are d read v found vs.now sight none short finds is l r) means

pub made-onto : (r : ReferenceCells) (rs : List ReferenceCells) → ReferenceMade r → ReferencesMade rs → ReferencesMade (r ∷ rs)
made-onto r rs h g zero x e = subst ReferenceMade (same_Some r x e) h
made-onto r rs h g (suc k) x e = g k x e

-- ---- what is needed of numbers
ready : (d : Declarations) (read : LineRead) (v : Sight) (n : Numbering) → IsNumbered d → IsFew d 67108928 → IsSightOfRead d read v → IsFaultless d read → NumberingFits n → HasSmallNumbers v n
ready d read v n numbered few s f fits =
    let (l, r) = f.0 in
    let limits = faultless-limits d l (f.1 l r) in
    record {
      numbers = subst NumbersFit (sym (s.items l r)) (numbers-fit d l numbered few);
      params = subst (λ ps. length (kinds_of ps) ≤ param_limit) (sym (s.params l r)) limits.params;
      numbering = fits;
    }

pub ready-item : (d : Declarations) (read : LineRead) (v : Sight) (k : ℕ) → IsNumbered d → IsFew d 67108928 → IsSightOfRead d read v → IsFaultless d read → k ≤ 1 → HasSmallNumbers v (Item k)
ready-item d read v k numbered few s f h = ready d read v (Item k) numbered few s f h

pub ready-question : (d : Declarations) (read : LineRead) (v : Sight) (vs : Bor (List Variable)) → IsNumbered d → IsFew d 67108928 → IsSightOfRead d read v → IsFaultless d read
    → ((l : Line) → ReadsLine l read → AreVariables d l (map variable_in vs.now)) → HasSmallNumbers v (Question vs)
ready-question d read v vs numbered few s f are =
    let (l, r) = f.0 in
    let limits = faultless-limits d l (f.1 l r) in
    ready d read v (Question vs) numbered few s f (omega (arith, limits.variables, ap length (are l r), length-map vs.now variable_in))

-- What a line is that is asked behind the lines of a text.
use Rattle.std.proofs.Common.{◌≡◌, ℕ, ◌-◌, ◌≤◌, Bool, true, false, if◌then◌else◌, List, [], ◌∷◌, ◌++◌, length, map, fold, Option, None, Some, Result, Ok, Err, IfOk, refl, sym, ap, ◌∙◌, subst, arith}
use Rattle.std.specs.Global.{Vec}
use Rattle.std.specs.List.{flat_map}
use Rattle.std.specs.Option.{option_or}
use Rattle.std.proofs.lemmas.Option.{same_Some}
use Rattle.text_language.specs.Adding.{added, with_impl, impl_of, item_meanings}
use Rattle.text_language.specs.Agreement.{plain, lacks_types}
use Rattle.text_language.specs.Faults.{fault_of}
use Rattle.text_language.specs.Promised.Declarations.{Declarations, Question, NamedImpl}
use Rattle.text_language.specs.Promised.Desugared.{companion_name, value_name, bounds_of, clauses_of, asked_of, asking, desugared, is_ill_bound, has_many_types}
use Rattle.text_language.specs.Promised.Syntax.{Params, Clause, Line, trait_line, impl_line, prove_line, refute_line, WrittenLine, written_crate, written_struct, written_trait, written_impl, written_prove, written_refute, written_later, written_supers}
use Rattle.text_language.specs.Promised.Written.{is_overlong}
use Rattle.text_language.specs.Syntax.{spelling}
use Rattle.text_language.specs.Text.{LineGives, faulty, adds, blank, first_of, fault_written}
use Rattle.text_language.specs.Written.{IsSpelled}
use Rattle.text_language.proofs.PlainLines.{added-alone}
use Rattle.text_lines.proofs.OneWritten.{one_written}
use Rattle.text_lines.specs.Lines.{ReadsLine}
use Rattle.text_lines.specs.Pieces.{lists_in, pieces_tokens}
use Rattle.text_lines.specs.Statement.{Param}
use Rattle.text_lines.specs.TypedLines.{ReadsTyped, is_query_line}
use Rattle.text_lines.specs.Views.{statement_of}
use Rattle.text_lines.specs.declared.line_lists.Piece.{Piece}
use Rattle.text_lines.specs.declared.statement.LineRead.{LineRead}
use Rattle.text_lines.specs.declared.typed_line.TypedLine.{TypedLine}
use Rattle.text_names.specs.FaultNumbers.{fault_number}
use Rattle.text_names.specs.declared.fault.FaultKind.{FaultKind}
use Rattle.text_names.specs.declared.fault.FaultKind.TheVariants as kinds
use Rattle.text_tables.specs.Parts.{IsWrittenQuestion}
use Rattle.text_tables.specs.Tables.{with_question}
use Rattle.text_tables.specs.Views.{question_of}
use Rattle.text_tables.specs.declared.declared.Asked.{Asked}
use Rattle.text_tables.specs.declared.declared.QuestionEntry.{QuestionEntry}
use Rattle.text_parser.specs.Declaring.{FindsFault, AddsLine, IsFaultless}
use Rattle.text_parser.specs.Entries.{IsAsking, IsQuestionEntry}
use Rattle.text_parser.specs.Forms.{IsForm, SaysSomething}
use Rattle.text_parser.specs.Queries.{IsQueryLine, IsQueryRead, ComesToQuery, IsQueryWritten, IsQueryPlain, IsQueryTyped, IsQueryList, IsQueryLists, IsWithOwn}
use Rattle.text_parser.specs.WrittenLines.{IsTypedLine, with_own}
use Rattle.text_parser.specs.declared.form.LineForm.{LineForm}
use Rattle.text_parser.specs.declared.form.LineForm.TheVariants as forms
use Rattle.text_parser.specs.declared.query_line.QueryLine.{QueryLine}
use Rattle.text_parser.specs.declared.query_line.QueryLine.TheVariants as lines
use Rattle.text_parser.proofs.Adding.{question-adds}
use Rattle.text_parser.proofs.OwnFaults.{own-none, plain-fault, typed-fault}
use Rattle.text_parser.proofs.Taking.{plain_is}

pub no-fault : (d : Declarations) (read : LineRead) → IsFaultless d read → FindsFault d read None
no-fault d read h = λ l r. sym (h.1 l r)

-- ---- a question
question-added : (d : Declarations) (q : Question) (l : Line) → IsWrittenQuestion d q l → with_question d q ≡ added d l
question-added d q (prove_line c ps a bs ks) h = ap (with_question d) h
question-added d q (refute_line c ps a bs) h = ap (with_question d) h
question-added d q _ h = absurd h

pub asks-this : (d : Declarations) (read : LineRead) (how : Asked) (ps : List Param) (q : QuestionEntry)
    → IsAsking d (statement_of read.statement) how ps → q.asked_how ≡ how → IsQuestionEntry d ps read q → AddsLine d read (with_question d (question_of q))
asks-this d read how ps q asking same entry =
    question-adds d (with_question d (question_of q)) read how ps q asking same entry (λ l h. question-added d (question_of q) l h)

-- ---- a line that was read
pub read-comes : (d : Declarations) (read : LineRead) (l : Line) (q : QueryLine) → ReadsLine l read → IsQueryRead d read q → ComesToQuery d (fault_of d l) (added d l) q
read-comes d read l (lines.Query q) r (finds, fits, asks) = (fits, sym (finds l r), asks l r)
read-comes d read l (lines.Faulty k) r finds = sym (finds l r)
read-comes d read l lines.Other r (finds, same) = (sym (finds l r), same l r)
read-comes d read l lines.Declared r h = absurd h

-- ---- the fault that the line has by itself
pub own-stays : (d : Declarations) (q : QueryLine) → IsWithOwn d q false q
own-stays d q = λ o e h. subst (λ (z : Option ℕ). ComesToQuery d z e q) (own-none o) h

not-faulty : (d : Declarations) (o : Option ℕ) (e : Declarations) (q : QueryLine) → ((k : FaultKind) → q ≡ lines.Faulty k → ⊥) → ComesToQuery d o e q → o ≡ None
not-faulty d o e (lines.Query q) other (fits, none, asks) = none
not-faulty d o e (lines.Faulty k) other h = absurd (other k refl)
not-faulty d o e lines.Other other (none, same) = none
not-faulty d o e lines.Declared other h = absurd h

pub own-alone : (d : Declarations) (q : QueryLine) → ((k : FaultKind) → q ≡ lines.Faulty k → ⊥) → IsWithOwn d q true (lines.Faulty kinds.OtherSort)
own-alone d q other = λ o e h. ap (λ (z : Option ℕ). with_own z true) (not-faulty d o e q other h)

-- ---- a line as it is written
pub plain-query : (d : Declarations) (line : List ℕ) (l : Line) (q r : QueryLine) (is_ill : Bool) → is_overlong line ≡ false → ComesToQuery d (fault_of d l) (added d l) q → is_ill ≡ lacks_types d l
    → IsWithOwn d q is_ill r → IsQueryWritten d line (plain l) r
plain-query d line l q r is_ill short h ill own =
    subst (λ (z : Declarations). ComesToQuery d (fault_written d line (plain l)) z r) (sym (added-alone d l))
    (subst (λ (z : Option ℕ). ComesToQuery d z (added d l) r) (plain-fault d line l is_ill short ill) (own (fault_of d l) (added d l) h))

pub typed-query : (d : Declarations) (line : List ℕ) (w : WrittenLine) (q r : QueryLine) (is_ill : Bool) → is_overlong line ≡ false → has_many_types w ≡ false
    → ComesToQuery d (first_of d (desugared w)) (fold added d (desugared w)) q → is_ill ≡ is_ill_bound d w → IsWithOwn d q is_ill r → IsQueryWritten d line w r
typed-query d line w q r is_ill short few h ill own =
    subst (λ (z : Option ℕ). ComesToQuery d z (fold added d (desugared w)) r) (typed-fault d line w is_ill short few ill) (own (first_of d (desugared w)) (fold added d (desugared w)) h)

-- of a list that was read
pub list-query : {X : Type 0} (d : Declarations) (list : List Piece) (read : LineRead) (r : Result QueryLine X)
    → ((l : Line) → pieces_tokens list ≡ spelling l → ReadsLine l read) → IfOk r (IsQueryRead d read) → IfOk r (IsQueryList d list)
list-query d list read (Ok q) reads h = λ l s. read-comes d read l q (reads l s) h
list-query d list read (Err x) reads h = tt

-- one list
or-nothing : (o : Option ℕ) → o ≡ option_or o None
or-nothing None = refl
or-nothing (Some n) = refl

same-ends : {A : Type 0} {x y : A} {xs ys : List A} → x ∷ xs ≡ y ∷ ys → (x ≡ y) × (xs ≡ ys)
same-ends e = (cc, cc)

pub lists-one : (d : Declarations) (v : Vec Piece) (vs : List (Vec Piece)) (q : QueryLine) → IsQueryList d v.items q → IsQueryLists d (v ∷ vs) q
lists-one d v vs q h = by
  where
    by : (ls : List Line) → lists_in (v ∷ vs) ≡ map spelling ls → length ls ≤ 1 → ComesToQuery d (first_of d ls) (fold added d ls) q
    by [] e one = absurd cc
    by (l ∷ []) e one = subst (λ (z : Option ℕ). ComesToQuery d z (added d l) q) (or-nothing (fault_of d l)) (h l (same-ends e).0)
    by (l ∷ m ∷ ls) e one = absurd (omega (arith, one))

-- the first of the lists
pub lists-first : {X : Type 0} (d : Declarations) (xs others : List (Vec Piece)) (v : Vec Piece) (ps : List Piece) (r : Result QueryLine X)
    → xs ≡ v ∷ others → ps ≡ v.items → IfOk r (IsQueryList d ps) → IfOk r (IsQueryLists d xs)
lists-first d xs others v ps (Ok q) split is h =
    subst (λ (z : List (Vec Piece)). IsQueryLists d z q) (sym split) (lists-one d v others q (subst (λ (p : List Piece). IsQueryList d p q) is h))
lists-first d xs others v ps (Err x) split is h = tt

pub lists-none : (d : Declarations) → IsQueryLists d [] lines.Other
lists-none d = by
  where
    by : (ls : List Line) → lists_in [] ≡ map spelling ls → length ls ≤ 1 → ComesToQuery d (first_of d ls) (fold added d ls) lines.Other
    by [] e one = (refl, refl)
    by (l ∷ ls) e one = absurd cc

-- a query stands for one line at most
one-asked : (query : Clause → List Clause → Line) (qs : List Clause) → length (asking query qs) ≤ 1
one-asked query [] = omega arith
one-asked query (q ∷ qs) = omega arith

pub query-alone : (w : WrittenLine) → is_query_line w ≡ true → length (desugared w) ≤ 1
query-alone (written_prove c ps a bs ks) e = one-asked (λ k more. prove_line c ps k more (flat_map clauses_of ks)) (flat_map asked_of (a ∷ bs))
query-alone (written_refute c ps a bs) e = one-asked (refute_line c ps) (flat_map asked_of (a ∷ bs))
query-alone (written_trait f a n ps bs ts) e = absurd cc
query-alone (written_impl ps h ks) e = absurd cc
query-alone (written_crate n us) e = absurd cc
query-alone (written_struct f n ps fs) e = absurd cc
query-alone (written_later n) e = absurd cc
query-alone (written_supers n) e = absurd cc

-- ---- the bytes of the line
pub query-given : (d : Declarations) (line : List ℕ) (w : WrittenLine) (q : QueryLine) → SaysSomething line → IsSpelled line w → IsQueryWritten d line w q → IsQueryLine d line q
query-given d line w (lines.Query q) some s (fits, none, asks) = (fits, subst (λ (z : Declarations). LineGives d line (Ok z)) (sym asks) (adds w some.0 some.1 s none))
query-given d line w (lines.Faulty k) some s h = faulty w (fault_number k) some.0 some.1 s h
query-given d line w lines.Other some s (none, same) = (fold added d (desugared w), adds w some.0 some.1 s none, same)
query-given d line w lines.Declared some s h = absurd h

pub plain-given : {X : Type 0} (d : Declarations) (line : List ℕ) (form : LineForm) (read : LineRead) (r : Result QueryLine X)
    → IsForm line form → form ≡ forms.Read read → IfOk r (IsQueryPlain d line read) → IfOk r (IsQueryLine d line)
plain-given d line form read (Ok q) h is asks = let (some, (l, w, r)) = plain_is line form read h is in query-given d line (plain l) q some w (asks l r)
plain-given d line form read (Err x) h is asks = tt

pub typed-given : {X : Type 0} (d : Declarations) (line : List ℕ) (t : TypedLine) (r : Result QueryLine X)
    → SaysSomething line → IsTypedLine line t → IfOk r (IsQueryTyped d line t) → IfOk r (IsQueryLine d line)
typed-given d line t (Ok q) some (w, s, typed, reads) asks = query-given d line w q some s (asks w reads)
typed-given d line t (Err x) some is asks = tt

-- the test of a query holds for whichever line was read
pub query-holds : (t : TypedLine) (b : Bool) → ((w : WrittenLine) → ReadsTyped w t → b ≡ is_query_line w) → b ≡ true → (w : WrittenLine) → ReadsTyped w t → is_query_line w ≡ true
query-holds t b same is = λ w r. sym (same w r) ∙ is

-- ---- a declaration asks nothing
impl-asks-nothing : (d : Declarations) (i : NamedImpl) → (with_impl d i).questions ≡ d.questions
impl-asks-nothing d i = by d.in_section
  where
    by : (b : Bool)
        → (if b then record d { later_impls = d.later_impls ++ record { section = length d.sections - 1; added = i } ∷ [] } else record d { impls = d.impls ++ i ∷ [] }).questions ≡ d.questions
    by true = refl
    by false = refl

companions-ask-nothing : (d : Declarations) (f a : Bool) (n : List ℕ) (ps : Params) (ts : List (List ℕ))
    → (fold added d (map (λ t. trait_line f a (companion_name n t) (record ps { types = ps.types ++ value_name ∷ [] }) []) ts)).questions ≡ d.questions
companions-ask-nothing d f a n ps [] = refl
companions-ask-nothing d f a n ps (t ∷ ts) = companions-ask-nothing (added d (trait_line f a (companion_name n t) (record ps { types = ps.types ++ value_name ∷ [] }) [])) f a n ps ts

impls-ask-nothing : (d : Declarations) (ps : Params) (ks cs : List Clause) → (fold added d (map (λ k. impl_line ps k cs) ks)).questions ≡ d.questions
impls-ask-nothing d ps [] cs = refl
impls-ask-nothing d ps (k ∷ ks) cs =
    impls-ask-nothing (added d (impl_line ps k cs)) ps ks cs ∙ impl-asks-nothing d (impl_of d (item_meanings d (impl_line ps k cs) 0) ps k cs)

asks-nothing : (d : Declarations) (w : WrittenLine) → is_query_line w ≡ false → (fold added d (desugared w)).questions ≡ d.questions
asks-nothing d (written_trait f a n ps bs ts) e = companions-ask-nothing (added d (trait_line f a n ps (flat_map bounds_of bs))) f a n ps ts
asks-nothing d (written_impl ps h ks) e = impls-ask-nothing d ps (clauses_of h) (flat_map clauses_of ks)
asks-nothing d (written_crate n us) e = refl
asks-nothing d (written_struct f n ps fs) e = refl
asks-nothing d (written_later n) e = refl
asks-nothing d (written_supers n) e = refl
asks-nothing d (written_prove c ps a bs ks) e = absurd cc
asks-nothing d (written_refute c ps a bs) e = absurd cc

not-both : {x : Bool} → x ≡ false → x ≡ true → ⊥
not-both p q = cc

pub declared-asks-nothing : (d : Declarations) (line : List ℕ) (w : WrittenLine) → SaysSomething line → IsSpelled line w → is_query_line w ≡ false → IsQueryLine d line lines.Declared
declared-asks-nothing d line w some s asks = by
  where
    by : (e : Declarations) → LineGives d line (Ok e) → e.questions ≡ d.questions
    by e (blank a b) = absurd (not-both some.1 b)
    by e (adds v a b t none) =
        let same : w ≡ v = one_written w v (same_Some _ _ (sym s ∙ t)) in
        asks-nothing d v (ap is_query_line (sym same) ∙ asks)

pub declared-given : (d : Declarations) (line : List ℕ) (t : TypedLine) (b : Bool) → SaysSomething line → IsTypedLine line t → ((w : WrittenLine) → ReadsTyped w t → b ≡ is_query_line w) → b ≡ false → IsQueryLine d line lines.Declared
declared-given d line t b some (w, s, typed, reads) same is = declared-asks-nothing d line w some s (sym (same w reads) ∙ is)

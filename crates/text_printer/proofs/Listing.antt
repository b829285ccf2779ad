-- The variables with a value of their own.
use Rattle.std.proofs.Common.{◌≡◌, ℕ, zero, suc, ◌+◌, ◌<◌, ◌≤◌, arith, Bool, true, false, List, [], ◌∷◌, ◌++◌, map, length, drop, get_or, refl, sym, ap, subst, ◌∙◌, if◌then◌else◌, append_assoc, append-nil}
use Rattle.type_terms.specs.Promised.Label.{infer}
use Rattle.type_terms.specs.Promised.Trees.{Trees, leaf}
use Rattle.type_terms.specs.Codes.{same}
use Rattle.text_language.specs.Promised.Declarations.{Variable}
use Rattle.text_language.specs.Names.{valued, own_from}
use Rattle.type_terms.specs.Promised.Handles.{arg_trees, ArgHeld, ArgsHeld}
use Rattle.type_terms.specs.Promised.Handles.{Entry}
use Rattle.type_terms.specs.declared.kinds.GenericArgKind.{GenericArgKind}
use Rattle.text_tables.specs.Views.{sort_of_kind, variable_of}
use Rattle.text_tables.specs.declared.cell.ParamKind.{ParamKind}
use Rattle.text_tables.specs.declared.cell.ParamKind.TheVariants as kinds
use Rattle.text_tables.specs.declared.declared.Param.{Param}
use Rattle.text_printer.specs.declared.listed.Listed.{Listed}
use Rattle.text_printer.specs.declared.listed.Counts.{Counts}
use Rattle.text_printer.specs.Listed.{ListHeld, own_number, counted, valued_one}
use Rattle.type_terms.proofs.ListBasics.{empty, next-behind}

-- with the unknowns that stand for variables behind these counts
abbrev pub valued_from : List Entry → Counts → List Param → List GenericArgKind → List (Variable × Trees)
valued_from es n ps ds = valued (map variable_of ps) (own_from n.types n.consts (map variable_of ps)) (map (arg_trees es) ds)

own-first : (k : ParamKind) (n : Counts) (p : Param) (vs : List Variable) → p.kind ≡ k
    → own_from n.types n.consts (variable_of p ∷ vs) ≡ leaf (infer (sort_of_kind p.kind) (own_number p.kind n)) ∷ own_from (counted p.kind n).types (counted p.kind n).consts vs
own-first kinds.Lifetime n p vs e = rw (e) refl
own-first kinds.Type n p vs e = rw (e) refl
own-first kinds.Const n p vs e = rw (e) refl

chosen : {A : Type 0} (b : Bool) (x : A) (rest : List A) → (if b then rest else x ∷ rest) ≡ (if b then [] else x ∷ []) ++ rest
chosen true x rest = refl
chosen false x rest = refl

pub valued-next : (es : List Entry) (n : Counts) (p : Param) (ps : List Param) (a : GenericArgKind) (ds : List GenericArgKind)
    → valued_from es n (p ∷ ps) (a ∷ ds) ≡ valued_one es p a (own_number p.kind n) ++ valued_from es (counted p.kind n) ps ds
valued-next es n p ps a ds =
    ap (λ us. valued (variable_of p ∷ map variable_of ps) us (arg_trees es a ∷ map (arg_trees es) ds)) (own-first p.kind n p (map variable_of ps) refl)
    ∙ chosen (same (leaf (infer (sort_of_kind p.kind) (own_number p.kind n))) (arg_trees es a)) (variable_of p, arg_trees es a) (valued_from es (counted p.kind n) ps ds)

-- without values none is listed
pub valued-none : (es : List Entry) (n : Counts) (ps : List Param) → valued_from es n ps [] ≡ []
valued-none es n [] = refl
valued-none es n (p ∷ ps) = ap (λ us. valued (variable_of p ∷ map variable_of ps) us []) (own-first p.kind n p (map variable_of ps) refl)

pub list-more : (es : List Entry) (ls : List Listed) (l : Listed) → ListHeld es ls → ArgHeld es l.value → ListHeld es (ls ++ l ∷ [])
list-more es [] l h g = (g, tt)
list-more es (k ∷ ls) l h g = (h.0, list-more es ls l h.1 g)

pub list-held-at : (es : List Entry) (ls : List Listed) (i : ℕ) (l : Listed) → ListHeld es ls → i < length ls → l ≡ get_or ls i l → ArgHeld es l.value
list-held-at es [] i l h g e = absurd (omega (arith, g))
list-held-at es (k ∷ ls) zero l h g e = subst (λ (m : Listed). ArgHeld es m.value) (sym e) h.0
list-held-at es (k ∷ ls) (suc i) l h g e = list-held-at es ls i l h.1 (omega (arith, g)) e

-- ---- a turn of the loop
one-up : (i : ℕ) → suc i ≡ i + 1
one-up i = omega arith

pub next-left : {A : Type 0} (xs : List A) (i : ℕ) (x : A) → i < length xs → x ≡ get_or xs i x → drop i xs ≡ x ∷ drop (i + 1) xs
next-left xs i x h e = next-behind xs i x h e ∙ ap (λ n. x ∷ drop n xs) (one-up i)

pub types-counted : (k : ParamKind) (n m : Counts) (i : ℕ) → m ≡ counted k n → n.types ≤ i → m.types ≤ i + 1
types-counted k n m i e h = subst (λ (c : Counts). c.types ≤ i + 1) (sym e) (by k)
  where
    by : (k : ParamKind) → (counted k n).types ≤ i + 1
    by kinds.Lifetime = omega (arith, h)
    by kinds.Type = omega (arith, h)
    by kinds.Const = omega (arith, h)

pub consts-counted : (k : ParamKind) (n m : Counts) (i : ℕ) → m ≡ counted k n → n.consts ≤ i → m.consts ≤ i + 1
consts-counted k n m i e h = subst (λ (c : Counts). c.consts ≤ i + 1) (sym e) (by k)
  where
    by : (k : ParamKind) → (counted k n).consts ≤ i + 1
    by kinds.Lifetime = omega (arith, h)
    by kinds.Type = omega (arith, h)
    by kinds.Const = omega (arith, h)

pub rest-held : (es : List Entry) (rest others : List GenericArgKind) (a : GenericArgKind) → rest ≡ a ∷ others → ArgsHeld es rest → ArgHeld es a × ArgsHeld es others
rest-held es rest others a e h = subst (ArgsHeld es) e h

pub listed-on : (es : List Entry) (ps : List Param) (i k : ℕ) (p : Param) (n m : Counts) (rest others : List GenericArgKind) (a : GenericArgKind) (all before after : List (Variable × Trees))
    → i < length ps → p ≡ get_or ps i p → rest ≡ a ∷ others → k ≡ own_number p.kind n → m ≡ counted p.kind n
    → all ≡ before ++ valued_from es n (drop i ps) rest → after ≡ before ++ valued_one es p a k → all ≡ after ++ valued_from es m (drop (i + 1) ps) others
listed-on es ps i k p n m rest others a all before after h e r f g was put =
    was ∙ ap (λ l. before ++ valued_from es n l rest) (next-left ps i p h e) ∙ ap (λ l. before ++ valued_from es n (p ∷ drop (i + 1) ps) l) r
    ∙ ap (λ l. before ++ l) (valued-next es n p (drop (i + 1) ps) a others)
    ∙ sym (append_assoc before (valued_one es p a (own_number p.kind n)) (valued_from es (counted p.kind n) (drop (i + 1) ps) others))
    ∙ ap (λ c. (before ++ valued_one es p a (own_number p.kind n)) ++ valued_from es c (drop (i + 1) ps) others) (sym g)
    ∙ ap (λ j. (before ++ valued_one es p a j) ++ valued_from es m (drop (i + 1) ps) others) (sym f)
    ∙ ap (λ l. l ++ valued_from es m (drop (i + 1) ps) others) (sym put)

pub listed-out : (es : List Entry) (ps : List Param) (n : Counts) (rest : List GenericArgKind) (all before : List (Variable × Trees))
    → length rest ≡ 0 → all ≡ before ++ valued_from es n ps rest → before ≡ all
listed-out es ps n rest all before r was = sym (was ∙ ap (λ l. before ++ valued_from es n ps l) (empty rest r) ∙ ap (λ l. before ++ l) (valued-none es n ps) ∙ append-nil before)

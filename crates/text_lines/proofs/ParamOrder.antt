-- Parameters, in their order.
use Rattle.std.proofs.Common.{◌≡◌, ℕ, true, List, [], ◌∷◌, ◌++◌, Some, None, refl, sym, ap, ◌∙◌, append_assoc}
use Rattle.std.specs.Prelude.{map}
use Rattle.std.proofs.lemmas.Option.{same_Some}
use Rattle.text_language.specs.Words.{comma, open_angle, close_angle, const_word}
use Rattle.text_language.specs.Tokens.{Token, keyword, name, lifetime, sign}
use Rattle.text_language.specs.Promised.Syntax.{Params}
use Rattle.text_language.specs.Syntax.{behind, in_angles, params_spelling}
use Rattle.text_lines.specs.Marks.{after_comma, after_open_angle}
use Rattle.text_lines.specs.Cells.{Cell}
use Rattle.text_lines.specs.Statement.{Param, lifetime_param, type_param, const_param, param_list}
use Rattle.text_lines.specs.LineLists.{param_tokens}
use Rattle.text_lines.specs.Parts.{param_front, param_at, is_ordered_from, params_at}
use Rattle.text_lines.proofs.IsPart.{Found, IsPart, Any, bind-some, moved, before-part, kept-part, recast, spell_list, list-part, spell_optional, optional-part}
use Rattle.text_lines.proofs.EachMark.{comma-mark, open_angle-mark, close_angle-mark}
use Rattle.text_lines.proofs.Types.{no_cells, itself, cells-kept, places-same}

abbrev pub param_spelling : Param → List Token
param_spelling p = param_tokens p

front-takes : (ts : List Token) (x : Param × List Token) → param_front ts ≡ Some x → ts ≡ param_spelling x.0 ++ x.1
front-takes (lifetime n ∷ ts) x e = ap (λ (y : Param × List Token). param_spelling y.0 ++ y.1) (same_Some (lifetime_param n, ts) x e)
front-takes (name n ∷ ts) x e = ap (λ (y : Param × List Token). param_spelling y.0 ++ y.1) (same_Some (type_param n, ts) x e)
front-takes (keyword const_word ∷ name n ∷ ts) x e = ap (λ (y : Param × List Token). param_spelling y.0 ++ y.1) (same_Some (const_param n, ts) x e)
front-takes _ x e = absurd cc

front-again : (c : List Cell) (t : Param) (r : List Token) → param_at (c, param_spelling t ++ r) ≡ Some (t, (c, r))
unfolding param_at
front-again c (lifetime_param n) r = refl
front-again c (type_param n) r = refl
front-again c (const_param n) r = refl

pub param-part : IsPart param_at param_spelling no_cells itself Any
unfolding param_at
param-part = record {
  takes = λ p q y e.
      let a = bind-some (param_front p.1) (λ x. Some (x.0, (p.0, x.1))) (y, q) e in
      let found : Found param_spelling no_cells itself p (p.0, a.0.1) a.0.0 = record { tree = a.0.0; tokens = front-takes p.1 a.0 a.1; placed = refl; cells = refl } in
      moved (a.0.0, (p.0, a.0.1)) (y, q) found (same_Some (a.0.0, (p.0, a.0.1)) (y, q) a.2);
  again = λ c t r b. front-again c t r;
}

-- ---- their order
consts-only : (ps : List Param) → is_ordered_from 2 ps ≡ true → (cs : List (List ℕ)) × (ps ≡ map const_param cs)
consts-only [] e = ([], refl)
consts-only (const_param n ∷ ps) e = let p = consts-only ps e in (n ∷ p.0, ap (λ x. const_param n ∷ x) p.1)
consts-only (_ ∷ ps) e = absurd cc

types-on : (ps : List Param) → is_ordered_from 1 ps ≡ true → (ts cs : List (List ℕ)) × (ps ≡ map type_param ts ++ map const_param cs)
types-on [] e = ([], [], refl)
types-on (const_param n ∷ ps) e = let p = consts-only ps e in ([], n ∷ p.0, ap (λ x. const_param n ∷ x) p.1)
types-on (type_param n ∷ ps) e = let p = types-on ps e in (n ∷ p.0, p.1, ap (λ x. type_param n ∷ x) p.2)
types-on (_ ∷ ps) e = absurd cc

ordered-only : (ps : List Param) → is_ordered_from 0 ps ≡ true → (p : Params) × (ps ≡ param_list p)
ordered-only [] e = (record { lifetimes = []; types = []; consts = [] }, refl)
ordered-only (const_param n ∷ ps) e = let p = consts-only ps e in (record { lifetimes = []; types = []; consts = n ∷ p.0 }, ap (λ x. const_param n ∷ x) p.1)
ordered-only (type_param n ∷ ps) e = let p = types-on ps e in (record { lifetimes = []; types = n ∷ p.0; consts = p.1 }, ap (λ x. type_param n ∷ x) p.2)
ordered-only (lifetime_param n ∷ ps) e =
    let p = ordered-only ps e in
    (record { lifetimes = n ∷ p.0.lifetimes; types = p.0.types; consts = p.0.consts }, ap (λ x. lifetime_param n ∷ x) p.1)

consts-ordered : (cs : List (List ℕ)) → is_ordered_from 2 (map const_param cs) ≡ true
consts-ordered [] = refl
consts-ordered (c ∷ cs) = consts-ordered cs

types-ordered : (ts cs : List (List ℕ)) → is_ordered_from 1 (map type_param ts ++ map const_param cs) ≡ true
types-ordered [] [] = refl
types-ordered [] (c ∷ cs) = consts-ordered cs
types-ordered (t ∷ ts) cs = types-ordered ts cs

list-ordered : (ls ts cs : List (List ℕ)) → is_ordered_from 0 (map lifetime_param ls ++ (map type_param ts ++ map const_param cs)) ≡ true
list-ordered [] [] [] = refl
list-ordered [] [] (c ∷ cs) = consts-ordered cs
list-ordered [] (t ∷ ts) cs = types-ordered ts cs
list-ordered (l ∷ ls) ts cs = list-ordered ls ts cs

-- ---- their spelling
consts-spelled : (cs : List (List ℕ)) → map param_spelling (map const_param cs) ≡ map (λ n. keyword const_word ∷ name n ∷ []) cs
consts-spelled [] = refl
consts-spelled (c ∷ cs) = ap (λ x. (keyword const_word ∷ name c ∷ []) ∷ x) (consts-spelled cs)

types-spelled : (ts cs : List (List ℕ)) → map param_spelling (map type_param ts ++ map const_param cs) ≡ map (λ n. name n ∷ []) ts ++ map (λ n. keyword const_word ∷ name n ∷ []) cs
types-spelled [] cs = consts-spelled cs
types-spelled (t ∷ ts) cs = ap (λ x. (name t ∷ []) ∷ x) (types-spelled ts cs)

pub list-spelled : (ls ts cs : List (List ℕ)) → map param_spelling (map lifetime_param ls ++ (map type_param ts ++ map const_param cs)) ≡ map (λ n. lifetime n ∷ []) ls ++ (map (λ n. name n ∷ []) ts ++ map (λ n. keyword const_word ∷ name n ∷ []) cs)
list-spelled [] ts cs = types-spelled ts cs
list-spelled (l ∷ ls) ts cs = ap (λ x. (lifetime l ∷ []) ∷ x) (list-spelled ls ts cs)

abbrev closed : Param × List Param → List Token
closed x = spell_list param_spelling (sign comma) x ++ sign close_angle ∷ []

angles-spelled : (ps : List Param) → spell_optional (sign open_angle) closed ps ≡ in_angles (map param_spelling ps)
angles-spelled [] = refl
angles-spelled (p ∷ ps) = ap (λ x. sign open_angle ∷ x) (append_assoc (param_spelling p) (behind comma (map param_spelling ps)) (sign close_angle ∷ []))

-- no `<` is next
abbrev pub NotAngle : List Token → Type 0
NotAngle r = after_open_angle r ≡ None

pub params-part : IsPart params_at params_spelling no_cells (λ p c. param_list p) NotAngle
unfolding params_at
params-part =
    recast (λ (p : Params). p) (λ p. p)
    (kept-part (is_ordered_from 0) param_list
    (optional-part {E = NotAngle} open_angle-mark (before-part close_angle-mark (list-part {D = λ r. after_comma r ≡ None} param-part comma-mark (λ r. tt) (λ r h. tt) (λ r h. h)) (λ r. refl)) (λ r h. tt) (λ r h. h))
    (λ p c. ap (is_ordered_from 0) (places-same (param_list p) c) ∙ list-ordered p.lifetimes p.types p.consts)
    (λ ps c e. ordered-only ps (ap (is_ordered_from 0) (sym (places-same ps c)) ∙ e)))
    (λ p. angles-spelled (param_list p) ∙ ap in_angles (list-spelled p.lifetimes p.types p.consts))
    (λ p c. cells-kept (param_list p) c)
    (λ p c. places-same (param_list p) c)
    (λ p. refl)

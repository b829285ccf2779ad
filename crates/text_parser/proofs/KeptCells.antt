-- Cells that are kept, one list behind the other.
use Rattle.std.proofs.Common.{◌≡◌, ℕ, suc, ◌+◌, ◌<◌, ◌≤◌, length, drop, get_or, drop-cons, arith, Bool, true, ◌&&◌, List, [], ◌∷◌, ◌++◌, map, Option, Some, None, refl, sym, ap, ◌∙◌, append_assoc, append-nil, subst}
use Rattle.std.specs.Prelude.{reverse}
use Rattle.std.specs.List.{list_all}
use Rattle.std.specs.Option.{option_map, option_and_then}
use Rattle.type_terms.specs.Promised.Trees.{Trees}
use Rattle.text_language.specs.Lowering.{Meanings}
use Rattle.type_terms.specs.Promised.Label.{Label, auto_trait}
use Rattle.text_names.specs.Resolved.{ResolvedCell, node_cell, param_cell, variable_cell, lifetime_cell, reference_cell}
use Rattle.text_names.specs.Views.{resolved_in}
use Rattle.text_names.specs.declared.resolved.ResolvedCell as code
use Rattle.text_names.specs.Standing.{standing}
use Rattle.text_tables.specs.TermCells.{behind_cells, behind_cell, trees_of}
use Rattle.text_tables.specs.Made.{StackPart, parts_of, parts_behind, CellHeld, CellsHeld, AreMade}
use Rattle.text_tables.specs.Views.{cell_of, cells_of}
use Rattle.text_tables.specs.declared.cell.TermCell.{TermCell}
use Rattle.text_tables.proofs.Each.{Every}
use Rattle.text_parser.specs.Making.{Makes, label_autos, next_autos, term_of}
use Rattle.text_parser.specs.Keeping.{pushed_on, PutsTrees, AddsCells}
use Rattle.text_parser.specs.Numbering.{CellStands}
use Rattle.text_parser.proofs.Standing.{cells-same, pushed-append, pushed-back}

held-both : (a b : List TermCell) → CellsHeld a → CellsHeld b → CellsHeld (a ++ b)
held-both [] b h g = g
held-both (c ∷ a) b h g = (h.0, held-both a b h.1 g)

parts-then : (c : TermCell) (a b : List TermCell) (o : Option (List StackPart)) → ((M : List StackPart) → parts_of (a ++ b) M ≡ option_and_then (parts_of b) (parts_of a M))
    → option_and_then (parts_of (a ++ b)) o ≡ option_and_then (parts_of b) (option_and_then (parts_of a) o)
parts-then c a b None h = refl
parts-then c a b (Some M) h = h M

parts-both : (a b : List TermCell) (S : List StackPart) → parts_of (a ++ b) S ≡ option_and_then (parts_of b) (parts_of a S)
parts-both [] b S = refl
parts-both (c ∷ a) b S = parts-then c a b (parts_behind c S) (parts-both a b)

trees-both : (a b : List TermCell) (S : List Trees) → behind_cells (cells_of (a ++ b)) S ≡ behind_cells (cells_of b) (behind_cells (cells_of a) S)
trees-both [] b S = refl
trees-both (c ∷ a) b S = trees-both a b (behind_cell (cell_of c) S)

pub keeps-both : (a b : List TermCell) (ts us : List Trees) (xs ys : List StackPart) → PutsTrees a ts xs → PutsTrees b us ys → PutsTrees (a ++ b) (ts ++ us) (xs ++ ys)
keeps-both a b ts us xs ys h g = record {
  held = held-both a b h.held g.held;
  trees = λ S. trees-both a b S ∙ ap (behind_cells (cells_of b)) (h.trees S) ∙ g.trees (pushed_on ts S) ∙ sym (pushed-append ts us S);
  parts = λ S. parts-both a b S ∙ ap (option_and_then (parts_of b)) (h.parts S) ∙ g.parts (pushed_on xs S) ∙ ap Some (sym (pushed-append xs ys S));
}

pub keeps-none : PutsTrees [] [] []
keeps-none = record { held = tt; trees = λ S. refl; parts = λ S. refl }

-- what was added stands for trees behind the others
pub kept-more : (e : Meanings) (cs : List ResolvedCell) (old new : List TermCell) (us : List Trees) (ys : List StackPart) → AddsCells e cs old new → ((S : List StackPart) → Makes e 0 cs S (pushed_on ys S)) → ((S : List Trees) → standing e cs S ≡ pushed_on us S)
    → (ts : List Trees) (xs : List StackPart) → PutsTrees old ts xs → PutsTrees new (ts ++ us) (xs ++ ys)
kept-more e cs old new us ys h makes stands ts xs k =
    subst (λ z. PutsTrees z (ts ++ us) (xs ++ ys)) (sym h.behind)
    (keeps-both old h.added ts us xs ys k (record {
      held = h.held;
      trees = λ S. ap (λ z. behind_cells z S) (h.cells [] (pushed_on ys []) (makes [])) ∙ cells-same e cs S ∙ stands S;
      parts = λ S. h.parts S (pushed_on ys S) (makes S);
    }))

-- ---- made
and-true : (a b : Bool) → a ≡ true → b ≡ true → a && b ≡ true
and-true a b h g = ap (λ x. x && b) h ∙ g

all-pushed : (p : StackPart → Bool) (xs S : List StackPart) → Every (λ x. p x ≡ true) xs → list_all p S ≡ true → list_all p (pushed_on xs S) ≡ true
all-pushed p [] S h g = g
all-pushed p (x ∷ xs) S h g = all-pushed p xs (x ∷ S) h.1 (and-true (p x) (list_all p S) h.0 g)

pub kept-trees : (cs : List TermCell) (ts : List Trees) (xs : List StackPart) → PutsTrees cs ts xs → trees_of (cells_of cs) ≡ ts
kept-trees cs ts xs k = ap reverse (k.trees []) ∙ pushed-back ts

pub kept-made : (p : StackPart → Bool) (cs : List TermCell) (ts : List Trees) (xs : List StackPart) → PutsTrees cs ts xs → Every (λ x. p x ≡ true) xs → AreMade p cs
kept-made p cs ts xs k h = record { held = k.held; parts = ap (option_map (list_all p)) (k.parts []) ∙ ap Some (all-pushed p xs [] h refl) }

-- ---- the loop over cells: some were put there, the others are to come
pub record Adding (e : Meanings) (all rest : List ResolvedCell) (autos : ℕ) (old now : List TermCell) : Type 0 where
  pub added : List TermCell
  pub behind : now ≡ old ++ added
  pub held : CellsHeld added
  pub far : (S R : List StackPart) → Makes e 0 all S R → (M : List StackPart) × (parts_of added S ≡ Some M) × Makes e autos rest M R × (cells_of added ++ map (term_of e) rest ≡ map (term_of e) all)

pub adding-starts : (e : Meanings) (all : List ResolvedCell) (old : List TermCell) → Adding e all all 0 old old
adding-starts e all old = record { added = []; behind = sym (append-nil old); held = tt; far = λ S R m. (S, refl, m, refl) }

pub adding-on : (e : Meanings) (all rest : List ResolvedCell) (c : ResolvedCell) (autos : ℕ) (old now : List TermCell) (x : TermCell) → CellHeld x → CellStands e autos c x → Adding e all (c ∷ rest) autos old now
    → Adding e all rest (next_autos autos c) old (now ++ x ∷ [])
adding-on e all rest c autos old now x held stands a = record {
  added = a.added ++ x ∷ [];
  behind = ap (λ z. z ++ x ∷ []) a.behind ∙ append_assoc old a.added (x ∷ []);
  held = held-both a.added (x ∷ []) a.held (held, tt);
  far = λ S R m.
      let f = a.far S R m in
      let s = stands f.0 f.2.0 f.2.1 in (
        f.2.0,
        parts-both a.added (x ∷ []) S ∙ ap (option_and_then (parts_of (x ∷ []))) f.1 ∙ ap (option_and_then (parts_of [])) s.0,
        f.2.2,
        ap (λ z. z ++ map (term_of e) rest) (cells-push a.added x ∙ ap (λ z. cells_of a.added ++ z ∷ []) s.1) ∙ append_assoc (cells_of a.added) (term_of e c ∷ []) (map (term_of e) rest) ∙ f.3,
      );
}
  where
    cells-push : (a : List TermCell) (x : TermCell) → cells_of (a ++ x ∷ []) ≡ cells_of a ++ cell_of x ∷ []
    cells-push [] x = refl
    cells-push (y ∷ a) x = ap (λ z. cell_of y ∷ z) (cells-push a x)

pub adding-ends : (e : Meanings) (all : List ResolvedCell) (autos : ℕ) (old now : List TermCell) → Adding e all [] autos old now → AddsCells e all old now
adding-ends e all autos old now a = record {
  added = a.added;
  behind = a.behind;
  held = a.held;
  parts = λ S R m. let f = a.far S R m in f.1 ∙ ap Some f.2;
  cells = λ S R m. let f = a.far S R m in sym (append-nil (cells_of a.added)) ∙ f.3;
}

-- one more, at a place
pub adding-at : (e : Meanings) (all : List code.ResolvedCell) (i : ℕ) (d c : code.ResolvedCell) (autos next : ℕ) (old now new : List TermCell) (x : TermCell) → i < length all → c ≡ get_or all i d → CellHeld x → CellStands e autos (resolved_in c) x
    → next ≡ next_autos autos (resolved_in c) → new ≡ now ++ x ∷ [] → Adding e (map resolved_in all) (map resolved_in (drop i all)) autos old now → Adding e (map resolved_in all) (map resolved_in (drop (i + 1) all)) next old new
adding-at e all i d c autos next old now new x h same held stands n b a =
    let s : suc i ≡ i + 1 = omega arith in
    let front : drop i all ≡ c ∷ drop (i + 1) all = drop-cons all i d h ∙ ap (λ j. get_or all i d ∷ drop j all) s ∙ ap (λ z. z ∷ drop (i + 1) all) (sym same) in
    subst (λ z. Adding e (map resolved_in all) (map resolved_in (drop (i + 1) all)) next old z) (sym b)
    (subst (λ z. Adding e (map resolved_in all) (map resolved_in (drop (i + 1) all)) z old (now ++ x ∷ [])) (sym n)
    (adding-on e (map resolved_in all) (map resolved_in (drop (i + 1) all)) (resolved_in c) autos old now x held stands (subst (λ z. Adding e (map resolved_in all) (map resolved_in z) autos old now) front a)))

label-within : (a : ℕ) (l : Label) → label_autos a l ≤ suc a
label-within a (auto_trait t) = omega arith
label-within a _ = omega arith

next-within : (a : ℕ) (c : ResolvedCell) → next_autos a c ≤ suc a
next-within a (node_cell l k) = label-within a l
next-within a (param_cell p i k) = omega arith
next-within a (variable_cell p n) = omega arith
next-within a (lifetime_cell r) = omega arith
next-within a (reference_cell r m) = omega arith

pub next-small : (all : List code.ResolvedCell) (i : ℕ) (d c : code.ResolvedCell) (autos next : ℕ) → c ≡ get_or all i d → next ≡ next_autos autos (resolved_in c) → autos ≤ i → next ≤ i + 1
next-small all i d c autos next same n h = omega (arith, n, h, next-within autos (resolved_in c))

-- What is put behind cells leaves these as they are, so a type stands where it was put.
use Rattle.std.proofs.Common.{◌≡◌, ℕ, ◌≤◌, List, [], ◌∷◌, ◌++◌, length, refl, sym, ap, ◌∙◌, append_assoc, append-nil, arith}
use Rattle.std.specs.Prelude.{take}
use Rattle.std.proofs.Math.Seq.{take-append_seam}
use Rattle.std.proofs.lemmas.List.{length-append}
use Rattle.text_language.specs.Promised.Syntax.{TypeTree, of_primitive, never_type, variable_type, named, reference_to, pointer_to, slice_of, array_of, tuple_of, fn_of, fn_to, dyn_of, Types, no_types, and_type, Args, no_args, and_arg, Arg, lifetime_arg, number_arg, type_arg, Item, bound_item, lifetime_item, DynBounds, no_items, and_item, Bound, Clause, crate_line, struct_line, trait_line, impl_line, prove_line, refute_line, later_line, supers_line}
use Rattle.text_lines.specs.Cells.{Cell, primitive_cell, never_cell, slice_cell, variable_cell, lifetime_cell, binder_cell, number_cell, named_cell, reference_cell, pointer_cell, array_cell, tuple_cell, dyn_cell, fn_cell, fn_to_cell, bound_cell, binder_onto, type_onto, types_onto, args_onto, arg_onto, item_onto, items_onto}
use Rattle.text_lines.specs.Statement.{type_span, bound_onto, bound_span, clause_onto, clause_spans, header_onto, header_spans, all_onto, all_spans, type_list}
use Rattle.text_lines.specs.Places.{TypeStands, BoundStands, ClauseStands, EachOf, SpansStand}

-- the cells o, and more behind them
record Extends (o x : List Cell) : Type 0 where
  more : List Cell
  whole : x ≡ o ++ more

-- at least one more
record Grows (o x : List Cell) : Type 0 where
  inner : List Cell
  last : Cell
  whole : x ≡ inner ++ last ∷ []
  extends : Extends o inner

same : (o : List Cell) → Extends o o
same o = record { more = []; whole = sym (append-nil o) }

one : (o : List Cell) (c : Cell) → Extends o (o ++ c ∷ [])
one o c = record { more = c ∷ []; whole = refl }

further : {o x y : List Cell} → Extends o x → Extends x y → Extends o y
further {o} {x} {y} a b = record { more = a.more ++ b.more; whole = b.whole ∙ ap (λ z. z ++ b.more) a.whole ∙ append_assoc o a.more b.more }

grown : {o x : List Cell} → Grows o x → Extends o x
grown {o} {x} g = record { more = g.extends.more ++ g.last ∷ []; whole = g.whole ∙ ap (λ z. z ++ g.last ∷ []) g.extends.whole ∙ append_assoc o g.extends.more (g.last ∷ []) }

binder-extends : (b : List (List ℕ)) (o : List Cell) → Extends o (binder_onto b o)
binder-extends [] o = same o
binder-extends (n ∷ ns) o = further (one o (binder_cell n)) (binder-extends ns (o ++ binder_cell n ∷ []))

mutual
  type-grows : (t : TypeTree) (o : List Cell) → Grows o (type_onto t o)
  type-grows (of_primitive p) o = record { inner = o; last = primitive_cell p; whole = refl; extends = same o }
  type-grows never_type o = record { inner = o; last = never_cell; whole = refl; extends = same o }
  type-grows (variable_type n) o = record { inner = o; last = variable_cell n; whole = refl; extends = same o }
  type-grows (named n args) o = record { inner = args_onto args o; last = named_cell n (length o); whole = refl; extends = args-extend args o }
  type-grows (reference_to l m t) o = record { inner = type_onto t o; last = reference_cell l m; whole = refl; extends = grown (type-grows t o) }
  type-grows (pointer_to m t) o = record { inner = type_onto t o; last = pointer_cell m; whole = refl; extends = grown (type-grows t o) }
  type-grows (slice_of t) o = record { inner = type_onto t o; last = slice_cell; whole = refl; extends = grown (type-grows t o) }
  type-grows (array_of t n) o = record { inner = type_onto t o; last = array_cell n; whole = refl; extends = grown (type-grows t o) }
  type-grows (tuple_of ts) o = record { inner = types_onto ts o; last = tuple_cell (length o); whole = refl; extends = types-extend ts o }
  type-grows (fn_of b ts) o = record { inner = types_onto ts (binder_onto b o); last = fn_cell (length o) (length (binder_onto b o)); whole = refl; extends = further (binder-extends b o) (types-extend ts (binder_onto b o)) }
  type-grows (fn_to b ts r) o = record {
    inner = type_onto r (types_onto ts (binder_onto b o));
    last = fn_to_cell (length o) (length (binder_onto b o));
    whole = refl;
    extends = further (further (binder-extends b o) (types-extend ts (binder_onto b o))) (grown (type-grows r (types_onto ts (binder_onto b o))));
  }
  type-grows (dyn_of i is) o = record { inner = items_onto is (item_onto i o); last = dyn_cell (length o); whole = refl; extends = further (item-extends i o) (items-extend is (item_onto i o)) }

  types-extend : (ts : Types) (o : List Cell) → Extends o (types_onto ts o)
  types-extend no_types o = same o
  types-extend (and_type t ts) o = further (grown (type-grows t o)) (types-extend ts (type_onto t o))

  args-extend : (args : Args) (o : List Cell) → Extends o (args_onto args o)
  args-extend no_args o = same o
  args-extend (and_arg a args) o = further (arg-extends a o) (args-extend args (arg_onto a o))

  arg-extends : (a : Arg) (o : List Cell) → Extends o (arg_onto a o)
  arg-extends (lifetime_arg n) o = one o (lifetime_cell n)
  arg-extends (number_arg n) o = one o (number_cell n)
  arg-extends (type_arg t) o = grown (type-grows t o)

  item-extends : (i : Item) (o : List Cell) → Extends o (item_onto i o)
  item-extends (bound_item b n args) o =
      further (further (binder-extends b o) (args-extend args (binder_onto b o))) (one (args_onto args (binder_onto b o)) (bound_cell n (length o) (length (binder_onto b o))))
  item-extends (lifetime_item n) o = one o (lifetime_cell n)

  items-extend : (is : DynBounds) (o : List Cell) → Extends o (items_onto is o)
  items-extend no_items o = same o
  items-extend (and_item i is) o = further (item-extends i o) (items-extend is (item_onto i o))

-- ---- a type stands where it was put, whatever stands behind it
type-extends : (t : TypeTree) (o : List Cell) → Extends o (type_onto t o)
type-extends t o = grown (type-grows t o)

kept : {o x : List Cell} → Extends o x → take (length o) x ≡ o
kept {o} {x} e = ap (take (length o)) e.whole ∙ take-append_seam o e.more

longer : {o x : List Cell} → Extends o x → length o ≤ length x
longer {o} {x} e = let a = ap length e.whole in let b = length-append o e.more in omega (arith, a, b)

stands : (t : TypeTree) (o cells : List Cell) → Extends (type_onto t o) cells → TypeStands cells t (type_span t o)
stands t o cells e =
    let g = type-grows t o in
    let a = ap length g.whole in
    let b = length-append g.inner (g.last ∷ []) in
    let d = longer g.extends in
    (omega (arith, a, b, d), longer e, kept e ∙ ap (type_onto t) (sym (kept (further (type-extends t o) e))))

bound-extends : (b : Bound) (o : List Cell) → Extends o (bound_onto b o)
bound-extends b o = type-extends (named b.trait b.args) o

bound-stands : (b : Bound) (o cells : List Cell) → Extends (bound_onto b o) cells → BoundStands cells b (bound_span b o)
bound-stands b o cells e = stands (named b.trait b.args) o cells e

clause-extends : (k : Clause) (o : List Cell) → Extends o (clause_onto k o)
clause-extends k o = further (type-extends k.subject o) (bound-extends k.bound (type_onto k.subject o))

clause-stands : (k : Clause) (o cells : List Cell) → Extends (clause_onto k o) cells → ClauseStands cells k (clause_spans k o)
clause-stands k o cells e =
    (stands k.subject o cells (further (bound-extends k.bound (type_onto k.subject o)) e), bound-stands k.bound (type_onto k.subject o) cells e)

header-stands : (h : Clause) (o cells : List Cell) → Extends (header_onto h o) cells → ClauseStands cells h (header_spans h o)
header-stands h o cells e =
    (stands h.subject (bound_onto h.bound o) cells e, bound-stands h.bound o cells (further (type-extends h.subject (bound_onto h.bound o)) e))

all-extend : {T : Type 0} (onto : T → List Cell → List Cell) → ((t : T) (o : List Cell) → Extends o (onto t o)) → (ts : List T) (o : List Cell) → Extends o (all_onto onto ts o)
all-extend onto f [] o = same o
all-extend onto f (t ∷ ts) o = further (f t o) (all-extend onto f ts (onto t o))

each-stands : {T Y : Type 0} (onto : T → List Cell → List Cell) (place : T → List Cell → Y) (P : T → Y → Type 0) (cells : List Cell) → ((t : T) (o : List Cell) → Extends o (onto t o))
    → ((t : T) (o : List Cell) → Extends (onto t o) cells → P t (place t o)) → (ts : List T) (o : List Cell) → Extends (all_onto onto ts o) cells → EachOf P ts (all_spans onto place ts o)
each-stands onto place P cells f g [] o e = tt
each-stands onto place P cells f g (t ∷ ts) o e = (g t o (further (all-extend onto f ts (onto t o)) e), each-stands onto place P cells f g ts (onto t o) e)

clauses-stand : (ks : List Clause) (o : List Cell) → EachOf (ClauseStands (all_onto clause_onto ks o)) ks (all_spans clause_onto clause_spans ks o)
clauses-stand ks o =
    let cells = all_onto clause_onto ks o in
    each-stands clause_onto clause_spans (ClauseStands cells) cells clause-extends (λ k c e. clause-stands k c cells e) ks o (same cells)

pub spans-stand : SpansStand
spans-stand (crate_line n us) = tt
spans-stand (later_line n) = tt
spans-stand (supers_line n) = tt
spans-stand (struct_line f n ps ts) =
    let cells = all_onto type_onto (type_list ts) [] in
    each-stands type_onto type_span (TypeStands cells) cells type-extends (λ t c e. stands t c cells e) (type_list ts) [] (same cells)
spans-stand (trait_line f a n ps bs) =
    let cells = all_onto bound_onto bs [] in
    each-stands bound_onto bound_span (BoundStands cells) cells bound-extends (λ b c e. bound-stands b c cells e) bs [] (same cells)
spans-stand (impl_line ps h ks) = (header-stands h [] (all_onto clause_onto ks (header_onto h [])) (all-extend clause_onto clause-extends ks (header_onto h [])), clauses-stand ks (header_onto h []))
spans-stand (prove_line c ps k bs ks) =
    let o : List Cell = all_onto clause_onto (k ∷ bs) [] in
    let cells : List Cell = all_onto clause_onto ks o in
    (each-stands clause_onto clause_spans (ClauseStands cells) cells clause-extends (λ j c e. clause-stands j c cells e) (k ∷ bs) [] (all-extend clause_onto clause-extends ks o), clauses-stand ks o)
spans-stand (refute_line c ps k bs) = clauses-stand (k ∷ bs) []

-- What is found of types and bounds that stand one behind the other.
use Rattle.std.proofs.Common.{◌≡◌, ℕ, suc, ◌+◌, ◌<◌, Bool, List, [], ◌∷◌, ◌++◌, length, take, drop, get_or, map, refl, sym, ap, ◌∙◌, arith, subst, append_assoc, drop-cons}
use Rattle.std.specs.Prelude.{max, nat_lt, ◌||◌}
use Rattle.std.proofs.lemmas.List.{append-nil}
use Rattle.std.proofs.lemmas.Grind.{flat_map-append}
use Rattle.type_terms.specs.Promised.Label.{Sort}
use Rattle.text_language.specs.Faults.{variables_in, depth_limit}
use Rattle.text_lines.specs.Cells.{Cell}
use Rattle.text_lines.specs.LineParts.{LinePart, type_part, bound_part, PartStands, part_uses, part_depth}
use Rattle.text_lines.specs.Places.{EachOf}
use Rattle.text_lines.specs.declared.parts.LinePart as places
use Rattle.text_lines.specs.declared.parts.LinePart.TheVariants as place
use Rattle.text_lines.specs.declared.statement.Span.{Span}
use Rattle.text_names.specs.Machine.{Sight, seen_items, findings, either}
use Rattle.text_names.specs.Resolving.{found_in, type_found, bound_found, ResolvesType, ResolvesBound}
use Rattle.text_names.specs.Views.{variable_in}
use Rattle.text_names.specs.declared.findings.Findings.{Findings}
use Rattle.text_names.specs.declared.resolve.Resolved.{Resolved}
use Rattle.text_names.specs.declared.resolve.ResolvedBound.{ResolvedBound}
use Rattle.text_names.proofs.Uses.{findings-append, variables-append}
use Rattle.text_names.specs.Found.{uses_of, depth_of, Resolves, IsFound, FindsParts, AddsPart}
use Rattle.text_names.specs.declared.parts.PartsFound.{PartsFound}
use Rattle.text_names.specs.declared.parts.ResolvedPart.{ResolvedPart}
use Rattle.type_terms.proofs.NumberBasics.{lt-max}

max-assoc : (a b c : ℕ) → max a (max b c) ≡ max (max a b) c
max-assoc a b c = omega arith

pub uses-together : (v : Sight) (ps qs : List LinePart) → uses_of v (ps ++ qs) ≡ uses_of v ps ++ uses_of v qs
uses-together v ps qs = flat_map-append (part_uses (seen_items v)) ps qs

uses-more : (v : Sight) (ps : List LinePart) (p : LinePart) → uses_of v (ps ++ p ∷ []) ≡ uses_of v ps ++ part_uses (seen_items v) p
uses-more v ps p = uses-together v ps (p ∷ []) ∙ ap (λ z. uses_of v ps ++ z) (append-nil (part_uses (seen_items v) p))

pub depth-together : (v : Sight) (ps qs : List LinePart) → depth_of v (ps ++ qs) ≡ max (depth_of v ps) (depth_of v qs)
depth-together v [] qs = omega arith
depth-together v (p ∷ ps) qs = ap (max (part_depth (seen_items v) p)) (depth-together v ps qs) ∙ max-assoc (part_depth (seen_items v) p) (depth_of v ps) (depth_of v qs)

depth-more : (v : Sight) (ps : List LinePart) (p : LinePart) → depth_of v (ps ++ p ∷ []) ≡ max (depth_of v ps) (part_depth (seen_items v) p)
depth-more v ps p = let e : max (part_depth (seen_items v) p) 0 ≡ part_depth (seen_items v) p = omega arith in depth-together v ps (p ∷ []) ∙ ap (max (depth_of v ps)) e

each-more : {T Y : Type 0} (P : T → Y → Type 0) (ts : List T) (ys : List Y) (t : T) (y : Y) → EachOf P ts ys → P t y → EachOf P (ts ++ t ∷ []) (ys ++ y ∷ [])
each-more P [] [] t y h p = (p, tt)
each-more P [] (z ∷ ys) t y h p = absurd h
each-more P (s ∷ ts) [] t y h p = absurd h
each-more P (s ∷ ts) (z ∷ ys) t y h p = (h.0, each-more P ts ys t y h.1 p)

-- the part was found to be this
pub found-more : (v : Sight) (ps : List LinePart) (p : LinePart) (old new : PartsFound) (f : Findings) (vs : List (List ℕ × Sort)) (b : Bool) (r : ResolvedPart)
    → f ≡ findings v (part_uses (seen_items v) p) → vs ≡ variables_in (part_uses (seen_items v) p) → b ≡ nat_lt depth_limit (part_depth (seen_items v) p)
    → Resolves v p r → new.faults ≡ either old.faults f → map variable_in new.variables.items ≡ map variable_in old.variables.items ++ vs → new.is_deep ≡ old.is_deep || b
    → new.parts.items ≡ old.parts.items ++ r ∷ [] → IsFound v ps old → IsFound v (ps ++ p ∷ []) new
found-more v ps p old new f vs b r ef ev eb er nf nv nb nr is =
    let us = part_uses (seen_items v) p in
    record {
      faults = nf ∙ ap (λ x. either x f) is.faults ∙ ap (either (findings v (uses_of v ps))) ef ∙ sym (findings-append v (uses_of v ps) us) ∙ sym (ap (findings v) (uses-more v ps p));
      variables = nv ∙ ap (λ x. x ++ vs) is.variables ∙ ap (λ x. variables_in (uses_of v ps) ++ x) ev ∙ sym (variables-append (uses_of v ps) us) ∙ sym (ap variables_in (uses-more v ps p));
      is_deep = nb ∙ ap (λ x. x || b) is.is_deep ∙ ap (λ x. nat_lt depth_limit (depth_of v ps) || x) eb ∙ sym (lt-max depth_limit (depth_of v ps) (part_depth (seen_items v) p)) ∙ sym (ap (nat_lt depth_limit) (depth-more v ps p));
      parts = subst (EachOf (Resolves v) (ps ++ p ∷ [])) (sym nr) (each-more (Resolves v) ps old.parts.items p r is.parts er);
    }

-- ---- one after the other
pub record Going (v : Sight) (cells : List Cell) (ps : List LinePart) (rest : List places.LinePart) (found : PartsFound) : Type 0 where
  done : List LinePart
  behind : List LinePart
  whole : ps ≡ done ++ behind
  stand : EachOf (PartStands cells) behind rest
  is : IsFound v done found

pub going-starts : (v : Sight) (cells : List Cell) (ps : List LinePart) (rest : List places.LinePart) (found : PartsFound) → IsFound v [] found → EachOf (PartStands cells) ps rest → Going v cells ps rest found
going-starts v cells ps rest found is h = record { done = []; behind = ps; whole = refl; stand = h; is = is }

pub going-on : (v : Sight) (cells : List Cell) (ps : List LinePart) (at : places.LinePart) (rest : List places.LinePart) (old new : PartsFound) → AddsPart v cells at old new → Going v cells ps (at ∷ rest) old → Going v cells ps rest new
going-on v cells ps at rest old new adds g = by g.behind g.whole g.stand
  where
    by : (behind : List LinePart) → ps ≡ g.done ++ behind → EachOf (PartStands cells) behind (at ∷ rest) → Going v cells ps rest new
    by [] e h = absurd h
    by (p ∷ qs) e h = record { done = g.done ++ p ∷ []; behind = qs; whole = e ∙ sym (append_assoc g.done (p ∷ []) qs); stand = h.1; is = adds g.done p h.0 g.is }

pub going-ends : (v : Sight) (cells : List Cell) (ps : List LinePart) (found : PartsFound) → Going v cells ps [] found → IsFound v ps found
going-ends v cells ps found g = by g.behind g.whole g.stand
  where
    by : (behind : List LinePart) → ps ≡ g.done ++ behind → EachOf (PartStands cells) behind [] → IsFound v ps found
    by [] e h = subst (λ z. IsFound v z found) (sym (e ∙ append-nil g.done)) g.is
    by (p ∷ qs) e h = absurd h

-- one more, at a place
pub going-at : (v : Sight) (cells : List Cell) (ps : List LinePart) (all : List places.LinePart) (i : ℕ) (d at : places.LinePart) (old new : PartsFound) → i < length all → at ≡ get_or all i d → AddsPart v cells at old new
    → Going v cells ps (drop i all) old → Going v cells ps (drop (i + 1) all) new
going-at v cells ps all i d at old new h e adds g =
    let s : suc i ≡ i + 1 = omega arith in
    let front : drop i all ≡ at ∷ drop (i + 1) all = drop-cons all i d h ∙ ap (λ j. get_or all i d ∷ drop j all) s ∙ ap (λ x. x ∷ drop (i + 1) all) (sym e) in
    going-on v cells ps at (drop (i + 1) all) old new adds (subst (λ z. Going v cells ps z old) front g)

-- ---- one part
pub adds-type : (v : Sight) (cells : List Cell) (s : Span) (r : Resolved) (old new : PartsFound) (front : List Cell) → front ≡ take s.end cells → ResolvesType v front r
    → new.faults ≡ either old.faults r.faults → map variable_in new.variables.items ≡ map variable_in old.variables.items ++ map variable_in r.variables.items → new.is_deep ≡ old.is_deep || r.is_deep
    → new.parts.items ≡ old.parts.items ++ record { trait_number = 0; cells = r.cells } ∷ [] → AddsPart v cells (place.Type s) old new
adds-type v cells s r old new front e is nf nv nb nr ps (type_part t) h k =
    let found : found_in r ≡ type_found v t = is t (take s.start cells) (e ∙ h.2) in
    found-more v ps (type_part t) old new r.faults (map variable_in r.variables.items) r.is_deep (record { trait_number = 0; cells = r.cells })
    (ap (λ x. x.faults) found) (ap (λ x. x.variables) found) (ap (λ x. x.is_deep) found) (ap (λ x. x.cells) found) nf nv nb nr k
adds-type v cells s r old new front e is nf nv nb nr ps (bound_part b) h k = absurd h

pub adds-bound : (v : Sight) (cells : List Cell) (s : Span) (r : ResolvedBound) (old new : PartsFound) (front : List Cell) → front ≡ take s.end cells → ResolvesBound v front r
    → new.faults ≡ either old.faults r.resolved.faults → map variable_in new.variables.items ≡ map variable_in old.variables.items ++ map variable_in r.resolved.variables.items → new.is_deep ≡ old.is_deep || r.resolved.is_deep
    → new.parts.items ≡ old.parts.items ++ record { trait_number = r.trait_number; cells = r.resolved.cells } ∷ [] → AddsPart v cells (place.Bound s) old new
adds-bound v cells s r old new front e is nf nv nb nr ps (bound_part b) h k =
    let both = is b (take s.start cells) (e ∙ h.2) in
    let found : found_in r.resolved ≡ bound_found v b = both.0 in
    found-more v ps (bound_part b) old new r.resolved.faults (map variable_in r.resolved.variables.items) r.resolved.is_deep (record { trait_number = r.trait_number; cells = r.resolved.cells })
    (ap (λ x. x.faults) found) (ap (λ x. x.variables) found) (ap (λ x. x.is_deep) found) (ap (λ x. x.cells) found, both.1) nf nv nb nr k
adds-bound v cells s r old new front e is nf nv nb nr ps (type_part t) h k = absurd h

-- what was found of the parts that stand there, wherever the code has the list of these
pub finds-at : (v : Sight) (cells cs : List Cell) (ps : List LinePart) (at ys : List places.LinePart) (f : PartsFound) → FindsParts v cs at f → cs ≡ cells → at ≡ ys → EachOf (PartStands cells) ps ys → IsFound v ps f
finds-at v cells cs ps at ys f finds ec ey h = finds ps (subst (λ z. EachOf (PartStands z) ps at) (sym ec) (subst (λ z. EachOf (PartStands cells) ps z) (sym ey) h))

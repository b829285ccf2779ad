-- The step at a `dyn`, and steps that others stand for.
use Rattle.std.proofs.Common.{◌≡◌, ℕ, ◌+◌, ◌≤◌, List, [], ◌∷◌, ◌++◌, Some, None, refl, sym, ap, ◌∙◌, subst, append-nil, arith, codes}
use Rattle.type_terms.specs.Promised.Label.{dynamic, of_type}
use Rattle.type_terms.specs.Promised.Trees.{Trees, none, tree, leaf, ◌+++◌}
use Rattle.text_language.specs.Output.{Names, texts, between, angled}
use Rattle.type_terms.specs.Promised.Handles.{Entry, Is, trees_at, bounds_lists}
use Rattle.type_terms.specs.Terms.{args_lists}
use Rattle.type_terms.specs.Kinds.{args_trees, autos_trees, principal_trees, bounds_trees, kind_trees}
use Rattle.type_terms.specs.Promised.Handles.{region_trees, region_label, bound_label}
use Rattle.type_terms.specs.declared.TraitId.{TraitId}
use Rattle.type_terms.specs.declared.number.BoundVar.{BoundVar}
use Rattle.type_terms.specs.declared.number.BoundVarIndexKind.{BoundVarIndexKind}
use Rattle.type_terms.specs.declared.number.BoundVarIndexKind.TheVariants.{Bound as KBinder, Canonical as KCanonical}
use Rattle.type_terms.specs.declared.region.Region.{Region}
use Rattle.type_terms.specs.declared.region.RegionKind.{RegionKind}
use Rattle.type_terms.specs.declared.region.RegionKind.TheVariants.{ReStatic, ReEarlyParam, RePlaceholder, ReBound, ReVar}
use Rattle.type_terms.specs.declared.kinds.TyKind.{TyKind}
use Rattle.type_terms.specs.declared.kinds.TyKind.TheVariants.{Bound as KBound}
use Rattle.type_terms.specs.declared.kinds.GenericArgKind.{GenericArgKind}
use Rattle.type_terms.specs.declared.kinds.Principal.{Principal}
use Rattle.type_terms.specs.declared.kinds.BoundsData.{BoundsData}
use Rattle.text_printer.specs.declared.piece.Piece.{Piece}
use Rattle.text_printer.specs.Pieces.{load, Prints, PrintsTrees, PrintsPrincipal, PrintsAutos}
use Rattle.text_printer.proofs.Texts.{texts-append, load-append}
use Rattle.text_printer.proofs.Steps.{nothing}
use Rattle.type_terms.proofs.TermBasics.{trees-of}

-- the same step, of a text that is equal, with no less to do
pub same : {N : Names} {es : List Entry} {so sn : List Piece} {oo on t u : List ℕ} {l m : ℕ} → Prints N es t l so sn oo on → t ≡ u → l ≤ m → Prints N es u m so sn oo on
same {N} {es} {so} {sn} {oo} {on} {t} {u} {l} {m} P e h = record { bytes = P.bytes; pieces = P.pieces; written = P.written; pushed = P.pushed; text = P.text ∙ e; held = P.held; lighter = let q = P.lighter in omega (arith, q, h) }

-- a lifetime isn't printed
pub no-region : (N : Names) (r : RegionKind) → texts N (leaf (region_label r)) ≡ []
no-region N ReStatic = refl
no-region N (ReEarlyParam i) = refl
no-region N (RePlaceholder i) = refl
no-region N (ReBound (KBinder k) v) = refl
no-region N (ReBound KCanonical v) = refl
no-region N (ReVar v) = refl

dyn-texts : (N : Names) (es : List Entry) (b : ℕ) (r : Region) (d : BoundsData) → Is es bounds_lists b (bounds_trees es d) → texts N (trees_at es b +++ region_trees r) ≡ texts N (bounds_trees es d)
dyn-texts N es b r d h =
    texts-append N (trees_at es b) (region_trees r) ∙ ap (λ y. texts N (trees_at es b) ++ y) (no-region N r.kind) ∙ append-nil (texts N (trees_at es b))
    ∙ ap (texts N) (trees-of es bounds_lists b (bounds_trees es d) h)

dyn-load : (es : List Entry) (b : ℕ) (r : Region) (d : BoundsData) → Is es bounds_lists b (bounds_trees es d) → load (trees_at es b +++ region_trees r) ≡ load (bounds_trees es d) + 6
dyn-load es b r d h = load-append (trees_at es b) (region_trees r) ∙ ap (λ y. load y + 6) (trees-of es bounds_lists b (bounds_trees es d) h)

pub autos-dyn : (N : Names) (es : List Entry) (so sn : List Piece) (oo on : List ℕ) (b : ℕ) (r : Region) (d : BoundsData) (us : List TraitId) → us ≡ d.autos.items → Is es bounds_lists b (bounds_trees es d) → d.principal ≡ None
    → PrintsAutos N es (autos_trees us) so sn oo on → PrintsTrees N es (tree dynamic (trees_at es b +++ region_trees r) none) so sn oo on
autos-dyn N es so sn oo on b r d us v h e R =
    let P : PrintsAutos N es (autos_trees d.autos.items) so sn oo on = subst (λ x. PrintsAutos N es (autos_trees x) so sn oo on) v R in
    let q : load (trees_at es b +++ region_trees r) ≡ load (bounds_trees es d) + 6 = dyn-load es b r d h in
    let k : load (bounds_trees es d) ≡ load (autos_trees d.autos.items) = ap (λ p. load (principal_trees es p +++ autos_trees d.autos.items)) e in
    same P
    (ap (λ ts. codes "dyn " ++ between (codes " + ") ts) (sym (dyn-texts N es b r d h ∙ ap (λ p. texts N (principal_trees es p +++ autos_trees d.autos.items)) e)))
    (omega (arith, q, k))

pub principal-dyn : (N : Names) (es : List Entry) (so sn : List Piece) (oo on : List ℕ) (b : ℕ) (r : Region) (d : BoundsData) (p : Principal) (xs : List GenericArgKind) (us : List TraitId) → us ≡ d.autos.items → Is es bounds_lists b (bounds_trees es d)
    → d.principal ≡ Some p → Is es args_lists p.args.0 (args_trees es xs) → PrintsPrincipal N es p.def_id.index (args_trees es xs) (autos_trees us) so sn oo on
    → PrintsTrees N es (tree dynamic (trees_at es b +++ region_trees r) none) so sn oo on
principal-dyn N es so sn oo on b r d p xs us v h e k R =
    let P : PrintsPrincipal N es p.def_id.index (args_trees es xs) (autos_trees d.autos.items) so sn oo on = subst (λ x. PrintsPrincipal N es p.def_id.index (args_trees es xs) (autos_trees x) so sn oo on) v R in
    let autos : Trees = autos_trees d.autos.items in
    let args : trees_at es p.args.0 ≡ args_trees es xs = trees-of es args_lists p.args.0 (args_trees es xs) k in
    let q : load (trees_at es b +++ region_trees r) ≡ load (bounds_trees es d) + 6 = dyn-load es b r d h in
    let f : load (bounds_trees es d) ≡ 6 + load (args_trees es xs) + load autos = ap (λ o. load (principal_trees es o +++ autos)) e ∙ ap (λ y. 6 + load y + load autos) args in
    same P
    (ap (λ ts. codes "dyn " ++ between (codes " + ") ts)
    (sym (dyn-texts N es b r d h ∙ ap (λ o. texts N (principal_trees es o +++ autos)) e ∙ ap (λ y. (N.of_trait p.def_id.index ++ angled (texts N y)) ∷ texts N autos) args)))
    (omega (arith, q, f))

-- a bound variable isn't printed
bound-step : (N : Names) (es : List Entry) (so : List Piece) (oo : List ℕ) (k : BoundVarIndexKind) (v : BoundVar) → PrintsTrees N es (leaf (bound_label of_type k v)) so so oo oo
bound-step N es so oo (KBinder k) v = nothing (sym (append-nil oo)) (omega arith)
bound-step N es so oo KCanonical v = nothing (sym (append-nil oo)) (omega arith)

pub bound-kind : (N : Names) (es : List Entry) (so : List Piece) (oo : List ℕ) (kind : TyKind) (k : BoundVarIndexKind) (v : BoundVar) → kind ≡ KBound k v → PrintsTrees N es (kind_trees es kind) so so oo oo
bound-kind N es so oo kind k v e = subst (λ y. PrintsTrees N es (kind_trees es y) so so oo oo) (sym e) (bound-step N es so oo k v)

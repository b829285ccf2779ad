-- The self types of held impls.
use Rattle.std.proofs.Common.{◌≡◌, true, List, subst}
use Rattle.type_terms.specs.Promised.Worlds.{ImplDecl}
use Rattle.type_terms.proofs.ProofEntries.{map-in}
use Rattle.type_terms.specs.Promised.Handles.{Entry}
use Rattle.declarations.specs.Heads.{begins_declared}
use Rattle.declarations.specs.Held.{ImplHeld, AreHeld}
use Rattle.declarations.specs.Items.{Items, HeldImpl, impl_in, written}
use Rattle.candidate_model.specs.Meaning.{SelfTypesBegin}
use Rattle.candidate_model.proofs.HeldViews.{each-of}

-- those of the declarations as they are written
pub self-types-begin : (es : List Entry) (d : Items) → AreHeld es d → SelfTypesBegin (written es d)
self-types-begin es d held x i =
    let m = map-in (λ (y : HeldImpl). impl_in es y.id y.def) d.impls x i in
    subst (λ (z : ImplDecl). begins_declared z.header.args ≡ true) m.2 (each-of (λ (y : HeldImpl). ImplHeld es y.def) d.impls m.0 held.impls m.1).begins

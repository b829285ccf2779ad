-- Noted supertraits, as the interner grows.
use Rattle.std.proofs.Common.{◌≡◌, List, [], ◌∷◌, Result, Ok, Err, refl, sym, ap, ◌∙◌}
use Rattle.std.specs.Prelude.{OnOk}
use Rattle.type_terms.specs.Promised.Handles.{Entry, Keeps}
use Rattle.type_terms.specs.Promised.Worlds.{World, Reference}
use Rattle.term_folds.specs.declared.predicate.TraitRef.{TraitRef}
use Rattle.infer_table.proofs.StepFacts.{keeps-trans}
use Rattle.declarations.specs.Items.{Items, written}
use Rattle.declarations.specs.Held.{AreHeld}
use Rattle.declarations.specs.Applied.{references_in, TraitRefsHeld}
use Rattle.declarations.specs.Promised.Elaboration.{elaborate}
use Rattle.declarations.proofs.Growth.{all-written, references-kept}
use Rattle.declarations.proofs.Bounded.{all-same}
use Rattle.built_in_candidates.specs.Noted.{first_of, IsElaborated, StayElaborated}

pub noted-later : (old new : List Entry) (d : Items) (rs : List TraitRef) → Keeps old new → StayElaborated old d rs → StayElaborated new d rs
noted-later old new d rs k s = λ later l. s later (keeps-trans old new later k l)

-- as they are now
pub noted-now : (es : List Entry) (d : Items) (rs : List TraitRef) → StayElaborated es d rs → IsElaborated es d rs
noted-now es d rs s = s es (λ i e h. h)

pub none-noted : (es : List Entry) (d : Items) → IsElaborated es d []
none-noted es d = record { held = tt; is = refl }

-- the elaboration of one trait reference begins with it
begins : (V : World) (r : Reference) (rs : List Reference) → rs ≡ elaborate V (r ∷ []) → rs ≡ elaborate V (first_of rs)
begins V r rs e = e ∙ ap (λ l. elaborate V (first_of l)) (sym e)

-- what was elaborated over earlier declarations can be noted
pub can-be-noted : (old new : List Entry) (d : Items) (r : Reference) (rs : List TraitRef) → Keeps old new → AreHeld old d → TraitRefsHeld new rs
    → references_in new rs ≡ elaborate (written old d) (r ∷ []) → StayElaborated new d rs
can-be-noted old new d r rs k held there e = λ later l.
    let same : references_in later rs ≡ references_in new rs = all-same new later l rs there in
    let V : written later d ≡ written old d = all-written old later (keeps-trans old new later k l) d held in
    record {
      held = references-kept new later l rs there;
      is = begins (written later d) r (references_in later rs) (same ∙ e ∙ ap (λ W. elaborate W (r ∷ [])) (sym V));
    }

-- what holds anyway holds of each value
pub always-ok : {A E : Type 0} {P : Type 0} (r : Result A E) → P → OnOk r P
always-ok (Ok x) p = p
always-ok (Err e) p = tt

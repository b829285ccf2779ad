use Rattle.std.proofs.Common.{◌≡◌, Some, map, slice_get, take}
use Rattle.session_inference.specs.declared.term_id.TermId.{TermId}
use Rattle.session_inference.proofs.terms.terms_at.Given as goal

abbrev pub invariant-ids : goal.invariant-ids
invariant-ids l = map (λ (id : TermId). slice_get l.terms id.index) (take l.id-index l.ids) ≡ map Some l.list.items

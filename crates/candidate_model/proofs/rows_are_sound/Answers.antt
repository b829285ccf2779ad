use Rattle.candidate_model.proofs.SoundCalls.{rows-are-sound}
use Rattle.candidate_model.proofs.SoundUnsizing.{unsizing-is-sound}
use Rattle.candidate_model.proofs.SoundImpls.{impls-are-sound}
use Rattle.candidate_model.proofs.SoundObjects.{object-bounds-are-sound}
use Rattle.candidate_model.proofs.SoundUpcasts.{upcasts-are-sound}
use Rattle.candidate_model.proofs.SoundToDyn.{to-dyn-is-sound}
use Rattle.candidate_model.proofs.rows_are_sound.Goals as goal

pub returns-clause-rows : goal.returns-clause-rows
returns-clause-rows g m = rows-are-sound m

pub returns-clause-unsizing : goal.returns-clause-unsizing
returns-clause-unsizing g m = unsizing-is-sound m

pub returns-clause-impls : goal.returns-clause-impls
returns-clause-impls g m = impls-are-sound m

pub returns-clause-objects : goal.returns-clause-objects
returns-clause-objects g m = object-bounds-are-sound m

pub returns-clause-upcasts : goal.returns-clause-upcasts
returns-clause-upcasts g m = upcasts-are-sound m

pub returns-clause-to_dyn : goal.returns-clause-to_dyn
returns-clause-to_dyn g m = to-dyn-is-sound m

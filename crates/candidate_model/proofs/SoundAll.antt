-- Every candidate that is not proved to be sound by rows is sound too: by types that unsize to a `dyn`, upcasts, impls and object bounds.
use Rattle.std.proofs.Common.{◌≡◌, ◌==◌, Bool, true, false, List, ◌++◌, refl}
use Rattle.type_terms.specs.Promised.Rules.{unsize, unsize_to_dyn_rules}
use Rattle.goal_evaluator.specs.Lists.{Every}
use Rattle.candidate_model.specs.Meaning.{ViewMeaning}
use Rattle.candidate_model.specs.DeclaredWell.{IsDeclaredWell}
use Rattle.candidate_model.specs.Asking.{self_of}
use Rattle.candidate_model.specs.Candidates.{Candidate, misc, if_so, as_written, upcasts_of, by_impls, by_objects}
use Rattle.candidate_model.specs.Lawful.{IsSoundFor}
use Rattle.candidate_model.proofs.Premises.{CandidatesAreSound}
use Rattle.candidate_model.proofs.SoundImpls.{impls-sound}
use Rattle.candidate_model.proofs.SoundObjects.{objects-sound}
use Rattle.candidate_model.proofs.SoundUpcasts.{upcasts-sound}
use Rattle.candidate_model.proofs.SoundToDyn.{to-dyn-sound}
use Rattle.goal_evaluator.proofs.Basics.{every-append}

under : (P : Candidate → Type 0) (b : Bool) (cs : List Candidate) → (b ≡ true → Every P cs) → Every P (if_so b cs)
under P true cs e = e refl
under P false cs e = tt

pub candidates-are-sound : (m : ViewMeaning) → IsDeclaredWell m.view → CandidatesAreSound m
candidates-are-sound m w f a is known =
    every-append (IsSoundFor m f a) (if_so (a.reference.trait == unsize) (to_dyn ++ upcasts)) (by_impls m.view a m.view.impls ++ by_objects m.view a)
    (under (IsSoundFor m f a) (a.reference.trait == unsize) (to_dyn ++ upcasts)
    (λ q. every-append (IsSoundFor m f a) to_dyn upcasts (to-dyn-sound m w.terms f a is q known) (upcasts-sound m w.terms w.erased w.rank w.acyclic f a is q)))
    (every-append (IsSoundFor m f a) (by_impls m.view a m.view.impls) (by_objects m.view a) (impls-sound m w.terms w.determined w.sorted f a is) (objects-sound m w.terms f a is w.erased w.rank w.acyclic))
  where
    to_dyn : List Candidate
    to_dyn = as_written m.view a misc (unsize_to_dyn_rules m.view (self_of a))

    upcasts : List Candidate
    upcasts = upcasts_of m.view a (self_of a)

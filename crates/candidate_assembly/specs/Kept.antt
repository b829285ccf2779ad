-- Declarations that are ready stay so while the interner grows, and mean the same.
use Rattle.std.proofs.Common.{◌≡◌, true, List, [], ◌∷◌, map, length, sym, ◌∙◌, ap, subst}
use Rattle.type_terms.specs.Promised.Label.{Sort}
use Rattle.type_terms.specs.Promised.Trees.{Trees}
use Rattle.type_terms.specs.Promised.Worlds.{World}
use Rattle.type_terms.specs.Promised.Handles.{Entry, Keeps, trees_at}
use Rattle.term_folds.specs.declared.predicate.TraitRef.{TraitRef}
use Rattle.declarations.specs.declared.items.ImplDef.{ImplDef}
use Rattle.declarations.specs.Applied.{sort_of_param, SpeaksOf}
use Rattle.declarations.specs.Held.{ReferenceHeld, ImplHeld, AreHeld}
use Rattle.declarations.specs.Items.{Items, HeldImpl}
use Rattle.declarations.specs.Promised.Elaboration.{Each}
use Rattle.declarations.proofs.Elaborating.{have-bounds-later}
use Rattle.declarations.proofs.Growth.{args-same, all-held, all-written}
use Rattle.candidate_model.specs.Asking.{with_plain_head}
use Rattle.candidate_model.specs.Candidates.{kinds_of_params}
use Rattle.candidate_model.specs.DeclaredWell.{is_declared_well}
use Rattle.built_in_candidates.proofs.Later.{fields-later}
use Rattle.candidate_assembly.specs.Fitting.{solving_of, fits_declared, sorts_declared}
use Rattle.candidate_assembly.specs.Headers.{CanBeCandidate, HaveCandidates}
use Rattle.candidate_assembly.specs.Ready.{AreReadyDeclarations}
use Rattle.candidate_assembly.specs.Solving.{Solving}

-- What holds for each of two lists of facts.
pub each-of-both : {A : Type 0} (P Q R : A → Type 0) → ((x : A) → P x → Q x → R x) → (xs : List A) → Each P xs → Each Q xs → Each R xs
each-of-both P Q R f [] h g = tt
each-of-both P Q R f (x ∷ xs) h g = (f x h.0 g.0, each-of-both P Q R f xs h.1 g.1)

module _ (old new : List Entry) (k : Keeps old new) where
  pub speaks-later : (sorts : List Sort) (r : TraitRef) → ReferenceHeld old r → SpeaksOf sorts (trees_at old r.args.0) → SpeaksOf sorts (trees_at new r.args.0)
  speaks-later sorts r h s = subst (SpeaksOf sorts) (sym (args-same old new k r h)) s

  candidate-later : (def : ImplDef) → ImplHeld old def → CanBeCandidate old def → CanBeCandidate new def
  candidate-later def h c =
      let same = sym (args-same old new k def.header h.header) in
      record {
        params = c.params ∙ ap (λ (t : Trees). kinds_of_params t 0 (length def.params.items)) same;
        speaks = record {
          header = speaks-later (map sort_of_param def.params.items) def.header h.header c.speaks.header;
          clauses =
              each-of-both (ReferenceHeld old) (λ (r : TraitRef). SpeaksOf (map sort_of_param def.params.items) (trees_at old r.args.0)) (λ (r : TraitRef). SpeaksOf (map sort_of_param def.params.items) (trees_at new r.args.0))
              (λ r g s. speaks-later (map sort_of_param def.params.items) r g s) def.clauses.items h.clauses c.speaks.clauses;
        };
        plain = subst (λ (t : Trees). with_plain_head t ≡ t) same c.plain;
      }

  pub candidates-later : (d : Items) → AreHeld old d → HaveCandidates old d → HaveCandidates new d
  candidates-later d h c =
      each-of-both (λ (i : HeldImpl). ImplHeld old i.def) (λ (i : HeldImpl). CanBeCandidate old i.def) (λ (i : HeldImpl). CanBeCandidate new i.def) (λ i g x. candidate-later i.def g x) d.impls h.impls c

pub ready-kept : (d : Items) (old new : List Entry) → Keeps old new → AreReadyDeclarations old d → AreReadyDeclarations new d
ready-kept d old new k r = record {
  held = all-held old new k d r.held;
  well = subst (λ (V : World). is_declared_well V ≡ true) (sym (all-written old new k d r.held)) r.well;
  impls = candidates-later old new k d r.held r.impls;
  fields = fields-later old new k d r.held r.fields;
  bounds = have-bounds-later old new k d r.held r.bounds;
}

pub solving-kept : (d : Items) (old new : List Entry) → Keeps old new → AreReadyDeclarations old d → solving_of new d ≡ solving_of old d
solving-kept d old new k r =
    ap (λ (V : World). let s : Solving = record { view = V; crate = d.local; fits = fits_declared d; sorts = sorts_declared d } in s) (all-written old new k d r.held)

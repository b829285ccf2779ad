-- The collector of leaves may enter a type once.
use Rattle.std.proofs.Common.{◌≡◌, List, [], refl, ap, sym, ◌∙◌, subst, Bool, true, false, Option, if◌then◌else◌, ◌∷◌, ◌++◌}
use Rattle.std.specs.Prelude.{is_some}
use Rattle.type_terms.specs.Promised.Label.{Label}
use Rattle.type_terms.specs.Promised.Trees.{Trees, none, tree}
use Rattle.type_terms.specs.Promised.Handles.{Entry}
use Rattle.type_terms.specs.declared.Fault.{Fault}
use Rattle.type_terms.specs.declared.once.Once.{Once}
use Rattle.type_terms.specs.declared.visit.Seen.{Seen}
use Rattle.type_terms.specs.declared.visit.Seen.TheVariants.{Break, Enter, Pass}
use Rattle.type_terms.specs.Pieces.{Piece}
use Rattle.type_terms.specs.Visits.{VisitsEach}
use Rattle.type_terms.specs.Entering.{HasEntered, SeesOnce}
use Rattle.type_terms.proofs.OnceFacts.{Repeats, once-visits-each}
use Rattle.infer_table.specs.Canonical.{OpenKinds, is_label_among, with_label, leaves}
use Rattle.infer_table.specs.Leaves.{open_kinds, labels, Collects}
use Rattle.infer_table.specs.LeafLaws.{Collecting}
use Rattle.infer_table.specs.declared.canonicalizer.LeafCollector.{LeafCollector}
use Rattle.infer_table.proofs.CanonicalLaws.{with-among, among-head, leaves-keep}

-- what is listed stays listed
abbrev Within : List Label → List Label → Type 0
Within ls ms = (l : Label) → is_label_among l ls ≡ true → is_label_among l ms ≡ true

abbrev pub Leads : List Entry → LeafCollector → LeafCollector → Type 0
Leads es v w = (w.in_clause ≡ v.in_clause) × Within (labels es v.leaves.keys) (labels es w.leaves.keys)

-- what is listed is not listed again
listed-stays : (l : Label) (ls : List Label) → is_label_among l ls ≡ true → with_label l ls ≡ ls
listed-stays l ls h = ap (λ (b : Bool). if b then ls else ls ++ l ∷ []) h

module _ (kind : OpenKinds) where
  abbrev head : List Label → Label → List Label
  head seen l = if is_some (kind l) then with_label l seen else seen

  head-keeps : (l m : Label) (seen : List Label) → is_label_among l seen ≡ true → is_label_among l (head seen m) ≡ true
  head-keeps l m seen h = among-head kind l m seen h

  head-listed : (m : Label) (seen after : List Label) → Within (head seen m) after → head after m ≡ after
  head-listed m seen after h = by (is_some (kind m)) h
    where
      by : (b : Bool) → Within (if b then with_label m seen else seen) after → (if b then with_label m after else after) ≡ after
      by true g = listed-stays m after (g m (with-among m seen))
      by false g = refl

  leaves-within : (seen : List Label) (t : Trees) → Within seen (leaves kind seen t)
  leaves-within seen t l h = leaves-keep kind l seen t h

  -- leaves that are all listed
  leaves-listed : (t : Trees) (seen after : List Label) → Within (leaves kind seen t) after → leaves kind after t ≡ after
  leaves-listed none seen after h = refl
  leaves-listed (tree m c o) seen after h =
      let first = head seen m in
      let below = leaves kind first c in
      let inner : Within below after = λ l q. h l (leaves-within below o l q) in
      let outer : Within first after = λ l q. inner l (leaves-within first c l q) in
      ap (λ z. leaves kind (leaves kind z c) o) (head-listed m seen after outer) ∙ ap (λ z. leaves kind z o) (leaves-listed c first after inner) ∙ leaves-listed o below after h

  collects-within : (t : Trees) (before after : List Label) (a : Seen Fault) → Collects kind t before after a → Within before after
  collects-within none before after Enter h = λ l q. subst (λ z. is_label_among l z ≡ true) (sym h.0) q
  collects-within (tree m c o) before after Enter h = λ l q. subst (λ z. is_label_among l z ≡ true) (sym h.0) (head-keeps l m before q)
  collects-within t before after Pass h = λ l q. subst (λ z. is_label_among l z ≡ true) (sym h.0) (leaves-within before t l q)
  collects-within t before after (Break f) h = λ l q. subst (λ z. is_label_among l z ≡ true) (sym h.1) q

  -- a node whose leaves are listed
  collects-again : (t : Trees) (before after later : List Label) (a : Seen Fault) → Collects kind t before after a → Within after later → Collects kind t later later a
  collects-again none before after later Enter h w = (refl, h.1)
  collects-again (tree m c o) before after later Enter h w = (sym (head-listed m before later (λ l q. w l (subst (λ z. is_label_among l z ≡ true) (sym h.0) q))), h.1)
  collects-again t before after later Pass h w = (sym (leaves-listed t before later (λ l q. w l (subst (λ z. is_label_among l z ≡ true) (sym h.0) q))), h.1)
  collects-again t before after later (Break f) h w = (h.0, refl)

collecting-repeats : (es : List Entry) → Repeats (λ bs t v w a. Collecting es t v w a) (Leads es)
collecting-repeats es = record {
  nowhere = λ v. (refl, λ l q. q);
  on = λ u v w a b. (b.0 ∙ a.0, λ l q. b.1 l (a.1 l q));
  by = λ bs t v w a h. (h.0, collects-within (open_kinds v.in_clause) t (labels es v.leaves.keys) (labels es w.leaves.keys) a h.1);
  again = λ bs cs t v w x a h l. (
    refl,
    subst (λ b. Collects (open_kinds b) t (labels es x.leaves.keys) (labels es x.leaves.keys) a) (sym (l.0 ∙ h.0))
        (collects-again (open_kinds v.in_clause) t (labels es v.leaves.keys) (labels es w.leaves.keys) (labels es x.leaves.keys) a h.1 l.1),
  );
}

-- so it collects what it would without
pub collected-once : (es : List Entry) (x : LeafCollector) {ps : List Piece} {v w : Once LeafCollector} {r : Option Fault} → VisitsEach (SeesOnce (λ bs t v w a. Collecting es t v w a) es) [] ps v w r
    → v.visitor ≡ x → ((t : Trees) → HasEntered es v.entered t → ⊥) → VisitsEach (λ bs t v w a. Collecting es t v w a) [] ps x w.visitor r
collected-once es x {ps = ps} {v = v} {w = w} {r = r} h e new =
    subst (λ z. VisitsEach (λ bs t v w a. Collecting es t v w a) [] ps z w.visitor r) e (once-visits-each (λ bs t v w a. Collecting es t v w a) (Leads es) (collecting-repeats es) es [] ps v w r h (λ s has. absurd (new s has)))

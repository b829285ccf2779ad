use Rattle.std.proofs.Common.{arith, ◌≡◌, ℕ, List, [], ◌∷◌, map, length, refl, subst, sym, ap, ◌∙◌}
use Rattle.std.proofs.lemmas.List.{length-map}
use Rattle.type_terms.specs.Promised.Worlds.{ImplDecl, Reference}
use Rattle.declarations.specs.Applied.{sort_of_param}
use Rattle.declarations.specs.Heads.{begins_declared}
use Rattle.declarations.proofs.Growth.{reference-kept, reference-same, args-same}
use Rattle.text_tables.specs.Made.{ReferencesMade, is_arg}
use Rattle.text_tables.specs.Views.{sort_of_kind, sorted_params, reference_of}
use Rattle.text_tables.specs.declared.declared.Param.{Param}
use Rattle.text_lowering.specs.Promised.SeenWorlds.{all_kept, stands_in, plain_reference}
use Rattle.text_lowering.specs.PlainCells.{named_in}
use Rattle.text_lowering.proofs.Plainly.{references-same, begins-plain}
use Rattle.text_lowering.proofs.Named.{named-stands}
use Rattle.std.specs.Prelude.{sum_by}
use Rattle.text_tables.specs.TermCounts.{reference_terms}
use Rattle.text_lowering.proofs.items.lower_impl.Goals as goal

twice : (ps : List Param) → map (λ q. q.1) (sorted_params ps) ≡ map (λ p. sort_of_kind p.kind) ps
twice [] = refl
twice (p ∷ ps) = ap (λ l. sort_of_kind p.kind ∷ l) (twice ps)

pub lower_references-requires : goal.lower_references-requires
lower_references-requires c = subst ReferencesMade (sym c.deref-3.ensures.value) c.requires.clauses

pub returns-clause-is : goal.returns-clause-is
returns-clause-is c =
    let e = c.args.entry.now in
    let old = c.lower_reference.new.cx.entries in
    let new = c.lower_references.new.cx.entries in
    let cs = e.header.args.items in
    let kept = named_in c.deref-2.result.now in
    join e.id.index e.owner.index _ _ _ _ _ _
    (sym (length-map c.in_ok-params.params.items sort_of_param) ∙ ap length (c.in_ok-params.ensures ∙ ap (map (λ p. sort_of_kind p.kind)) c.deref.ensures.value) ∙ length-map e.params.items (λ p. sort_of_kind p.kind))
    (reference-same old new c.lower_references.ensures.terms.grew.keeps c.in_ok-header.header c.in_ok-header.ensures.held ∙ c.in_ok-header.ensures.is)
    (c.in_ok-clauses.ensures.are ∙ ap (λ x. map (plain_reference kept) (map reference_of x)) c.deref-3.ensures.value
    ∙ references-same kept (stands_in (reference_of e.header).args) (λ i. ap (λ x. named_in x i) c.deref-2.ensures.value ∙ named-stands is_arg cs c.requires.header i) (map reference_of e.clauses.items))
  where
    join : (n h p q : ℕ) (x y : Reference) (ks ls : List Reference) → p ≡ q → x ≡ y → ks ≡ ls
        → (let i : ImplDecl = record { name = n; home = h; params = p; header = x; clauses = ks } in i) ≡ record { name = n; home = h; params = q; header = y; clauses = ls }
    join n h p q x y ks ls a b d = cc

pub returns-clause-held : goal.returns-clause-held
returns-clause-held c =
    let old = c.lower_reference.new.cx.entries in
    let new = c.lower_references.new.cx.entries in
    let k = c.lower_references.ensures.terms.grew.keeps in
    let r = c.in_ok-header.header in
    record {
      header = reference-kept old new k r c.in_ok-header.ensures.held;
      clauses = c.in_ok-clauses.ensures.held;
      begins =
          ap begins_declared (args-same old new k r c.in_ok-header.ensures.held) ∙ ap (λ x. begins_declared x.args) c.in_ok-header.ensures.is
          ∙ begins-plain all_kept (reference_of c.args.entry.now.header).args ∙ c.requires.begins;
    }

pub returns-clause-sorts : goal.returns-clause-sorts
returns-clause-sorts c = c.in_ok-params.ensures ∙ ap (map (λ p. sort_of_kind p.kind)) c.deref.ensures.value ∙ sym (twice c.args.entry.now.params.items)

pub returns-in_err-header-clause-few : goal.returns-in_err-header-clause-few
returns-in_err-header-clause-few c = omega (arith, c.lower_reference.ensures.few)

pub returns-in_err-clauses-clause-few : goal.returns-in_err-clauses-clause-few
returns-in_err-clauses-clause-few c =
    let clauses = ap (λ x. sum_by reference_terms (map reference_of x)) c.deref-3.ensures.value in
    omega (arith, clauses, c.lower_reference.ensures.few, c.lower_references.ensures.few)

pub returns-clause-few : goal.returns-clause-few
returns-clause-few c =
    let clauses = ap (λ x. sum_by reference_terms (map reference_of x)) c.deref-3.ensures.value in
    omega (arith, clauses, c.lower_reference.ensures.few, c.lower_references.ensures.few)

use Rattle.std.proofs.Common.{◌≡◌, ◌++◌, ℕ, List, length, take, get_or, refl, sym, ap, ◌∙◌, arith}
use Rattle.text_tables.specs.Tables.{declared, with_impl}
use Rattle.text_tables.specs.CoreItems.{impl_for}
use Rattle.text_tables.specs.declared.cell.TermCell.{TermCell}
use Rattle.text_tables.proofs.CoreLemmas.{room-then, scalar-added, take-more, plain_impls, scalar_cells}
use Rattle.text_tables.proofs.tables.Tables.add_scalar_impls.Goals as goal

pub add_bare_impl-requires-clause-room : goal.add_bare_impl-requires-clause-room
add_bare_impl-requires-clause-room c =
    room-then (declared c.args.self.now) _ c.args.trait_id.index c.loop-scalar.scalar-index scalar_cells c.requires.core refl c.loop-scalar.invariant.so_far

pub loop-scalar-preserved : goal.loop-scalar-preserved
loop-scalar-preserved c =
    let d = declared c.args.self.now in
    let t = c.args.trait_id.index in
    let i = c.loop-scalar.scalar-index in
    let x = get_or scalar_cells i c.scalar-item.result in
    let made : declared c.add_bare_impl.new.self ≡ with_impl (declared c.loop-scalar.self) (impl_for (declared c.loop-scalar.self) t x) = c.in_ok-add_bare_impl.ensures.declared in
    record {
      so_far =
          made
          ∙ scalar-added d (declared c.loop-scalar.self) t (take i scalar_cells) x c.requires.core.home c.loop-scalar.invariant.so_far
          ∙ ap (λ (xs : List TermCell). record d { impls = d.impls ++ plain_impls (length d.impls) t xs }) (sym (take-more scalar_cells i x (omega (arith, c.loop-scalar-test.true)) (ap (λ y. get_or scalar_cells i y) c.scalar-item.is)));
      consistent = c.in_ok-add_bare_impl.ensures.consistent;
    }

pub returns-clause-declared : goal.returns-clause-declared
returns-clause-declared c =
    let d = declared c.args.self.now in
    let all : c.loop-scalar.scalar-index ≡ 15 = omega (arith, c.loop-scalar-test.false, c.loop-scalar.auto.scalar-index-end) in
    c.loop-scalar.invariant.so_far ∙ ap (λ (i : ℕ). record d { impls = d.impls ++ plain_impls (length d.impls) c.args.trait_id.index (take i scalar_cells) }) all

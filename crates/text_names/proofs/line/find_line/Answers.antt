use Rattle.std.proofs.Common.{◌≡◌, ◌<◌, ◌*◌, ◌-◌, ap, ◌∙◌, map, take, drop, length, arith}
use Rattle.std.specs.Prelude.{min}
use Rattle.text_language.specs.Uses.{crate_use}
use Rattle.text_lines.specs.TypeViews.{cells_in}
use Rattle.text_names.specs.Machine.{findings}
use Rattle.text_lines.specs.LineParts.{asked_parts}
use Rattle.text_lines.specs.Views.{statement_of}
use Rattle.text_names.specs.LineFound.{other_parts, asked_bounds}
use Rattle.text_names.specs.Speaks.{crates_mentioned}
use Rattle.text_names.proofs.Crates.{crates-are-named}
use Rattle.text_names.proofs.Finding.{finds-at}
use Rattle.text_names.proofs.Splitting.{read-split, rest-is}
use Rattle.text_names.proofs.line.find_line.Goals as goal

pub returns : goal.returns
returns g c l h =
    let v = g.N.Names.sight c.args.names.now in
    let r = c.args.read.now in
    let ys = c.in_ok-parts.parts.items in
    let k = c.min-count.result in
    let n : c.len.result ≡ length ys = omega (arith, c.len.ensures) in
    let small : length ys < 9223372036854775808 = omega (arith, c.in_ok-parts.parts.ok, c.in_ok-parts.parts.small) in
    let count : k ≡ min (2 * asked_bounds (statement_of r.statement)) (length ys) =
    omega (arith, c.min-count.ensures, c.saturating_mul.ensures, c.asked_bounds.ensures, n, small) in
    let split = read-split l r k ys h count c.in_ok-parts.ensures in
    record {
      crates = c.named_crates.ensures ∙ ap (λ s. findings v (map crate_use (crates_mentioned s))) h.0 ∙ ap (λ z. findings v (map crate_use z)) (crates-are-named l);
      asked = finds-at v (cells_in r.cells.items) (cells_in c.deref.result.now) (asked_parts l) (take k c.deref-2.result.now) (take k ys) c.in_ok-asked.asked c.in_ok-asked.ensures (ap cells_in c.deref.ensures.value) (ap (take k) c.deref-2.ensures.value) split.0;
      others = finds-at v (cells_in r.cells.items) (cells_in c.deref-3.result.now) (other_parts l) (take (length c.deref-4.result.now - k) (drop k c.deref-4.result.now)) (drop k ys) c.in_ok-others.others c.in_ok-others.ensures (ap cells_in c.deref-3.ensures.value)
          (rest-is k c.deref-4.result.now ∙ ap (drop k) c.deref-4.ensures.value) split.1;
    }

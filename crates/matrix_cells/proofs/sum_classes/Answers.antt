-- `matrix_cells::sum_classes` meets its contract: after v turns the sums are over the first v vertices.
use mathlib.Core.Path.{◌≡◌, sym, ap₂, ◌∙◌}
use Prim.Native.Nat.{ℕ, ◌+◌, ◌-◌, ◌*◌, ◌≤◌, ◌<◌}
use lib.ListN.{length, get_or}
use native.Mathlib.Omega.{arith}
use Rattle.std.proofs.Common.{rules}
use Rattle.layout.specs.Inner.Arrays.{class_in}
use Rattle.adjacency.specs.Adjacency.{side, edge}
use Rattle.adjacency.proofs.Mirrored.{mirrored-simple}
use Rattle.matrix_cells.proofs.Sums.{class_edges-none, class_edges-le, class_edgess_more, part_at, added_part}
use Rattle.matrix_cells.proofs.sum_classes.Goals as goal

pub loop-v-init : goal.loop-v-init
loop-v-init c = (
  omega arith,
  c.requires.4,
  λ k w h. c.requires.5 (k * side + w) ∙ sym (class_edges-none (class_in c.args.classes.now) (edge c.args.adjacency.now) k w),
)

pub add_row-requires : goal.add_row-requires
add_row-requires c =
    let a = c.args in
    let n = a.n in
    let v = c.loop-v.v in
    let k = c.from-at.result in
    let cls = class_in a.classes.now in
    let E = edge a.adjacency.now in
    let simple = mirrored-simple n a.adjacency.now c.requires.2 in
    let b = c.requires.3 v (omega arith) in (
      search rules,
      λ i h.
          let l : i < n = search rules in
          let x = part_at c.loop-v.sums (k * side) (k * side + n - k * side) i (omega arith) in
          let y = part_at a.adjacency.now (v * side) (v * side + n - v * side) i (omega arith) in
          omega (
            arith,
            x,
            y,
            c.loop-v.invariant.2 k i l,
            class_edges-le cls E k i v (λ u m. simple.binary u i (omega arith) l),
            simple.binary v i (omega arith) l,
          ),
    )

pub loop-v-preserved : goal.loop-v-preserved
loop-v-preserved c =
    let a = c.args in
    let n = a.n in
    let v = c.loop-v.v in
    let at = c.from-at.result * side in
    let cls = class_in a.classes.now in
    let E = edge a.adjacency.now in
    let b = c.requires.3 v (omega arith) in
    let room : at + n ≤ length c.loop-v.sums = omega (arith, c.loop-v.invariant.1, c.from-at.ensures) in
    let long : length c.add_row.new.sums ≡ n = search rules in
    let sums : (i : ℕ) → i < n → get_or c.add_row.new.sums i 0 ≡ get_or c.loop-v.sums (at + i) 0 + E v i =
    λ i l.
    c.add_row.ensures.sums i (search rules)
    ∙ ap₂ ◌+◌ (part_at c.loop-v.sums at (at + n - at) i (omega arith)) (part_at a.adjacency.now (v * side) (v * side + n - v * side) i (omega arith)) in
    let added = added_part c.loop-v.sums c.add_row.new.sums at (at + n - at) n (E v) (omega arith) room long sums in (
      omega arith,
      added.long ∙ c.loop-v.invariant.1,
      class_edgess_more n cls E c.loop-v.sums _ v c.from-at.result (omega arith) c.from-at.ensures c.loop-v.invariant.2 added,
    )

-- `swap_log::log_ok` meets its contract.
use mathlib.Core.Path.{refl, sym, ap, ◌∙◌}
use mathlib.Core.Bool.{not}
use native.Mathlib.Omega.{arith}
use Rattle.graph.specs.Tests.{vertex_class}
use Rattle.slices.proofs.PartSum.{rest}
use Rattle.layout.specs.Inner.Arrays.{count_in, table_in, class_in}
use Rattle.adjacency.proofs.Classes.{class-at}
use Rattle.swap_log.specs.Log.{Undone}
use Rattle.swap_log.proofs.Undo.{undo-none, undo-same}
use Rattle.swap_log.proofs.Valid.{by_records}
use Rattle.swap_log.proofs.log_ok.Goals as goal

pub returns-then-m-eq0 : goal.returns-then-m-eq0
returns-then-m-eq0 c =
    let e = c.swap_count-m.ensures in
    let a = c.args in
    let cls = vertex_class (table_in a.cells.now (count_in a.counts.now 0)) in
    let zero = rw rest at c.all_zero.ensures in
    let checked = by_records a.n cls a.adjacency.now a.log.now e.2 e.0 (omega arith) zero (ap not c.if-not-all_zero.false) in
    record { value = sym (checked ∙ rw (c.if-m-eq0.true, undo-none)); adjacency_unchanged = refl }

pub returns : goal.returns
returns c =
    let e = c.swap_count-m.ensures in
    let a = c.args in
    let t = table_in a.cells.now (count_in a.counts.now 0) in
    let zero = rw rest at c.all_zero.ensures in
    let same = class-at t (omega arith) c.requires.4 c.classes-c.ensures in
    let undone = undo-same a.n (class_in c.classes-c.result) a.log.now (vertex_class t) same c.swap_count-m.result a.adjacency.now in
    let checked = by_records a.n (vertex_class t) a.adjacency.now a.log.now e.2 e.0 (omega arith) zero (ap not c.if-not-all_zero.false) in
    record { value = c.undoable.ensures.value ∙ ap (λ (o : Undone). o.legal) undone ∙ sym checked; adjacency_unchanged = c.undoable.ensures.adjacency_unchanged }

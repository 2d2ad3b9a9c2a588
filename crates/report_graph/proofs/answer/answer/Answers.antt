-- The waits and the bounds are the graph's, and the ring has room for every circuit.
use native.Mathlib.Omega.{arith}
use Rattle.report_graph.proofs.Answers.{bounds_numbers, ring_count, ring_within, ring_writable}
use Rattle.net_start.proofs.Starting.{started_holds}
use Rattle.report_graph.proofs.answer.answer.Goals as goal

pub measure-found-requires-clause-holds_start : goal.measure-found-requires-clause-holds_start
measure-found-requires-clause-holds_start c = started_holds c.start_marking.ensures

pub slice_bounds-ring-end : goal.slice_bounds-ring-end
slice_bounds-ring-end c = ring_within c.requires.good c.measure-found.ensures

pub slice_bounds-circuit-end : goal.slice_bounds-circuit-end
slice_bounds-circuit-end c = ring_count c.requires.good c.measure-found.ensures

pub write_report-requires : goal.write_report-requires
write_report-requires c = ring_writable c.requires.good c.measure-found.ensures c.requires.report_bytes_in_bounds (omega (arith, c.requires.good.wired.operations, c.every_wait.ensures.long))

pub returns : goal.returns
returns c =
    let numbers = bounds_numbers c.requires.good c.measure-found.ensures (started_holds c.start_marking.ensures) c.every_wait.ensures in
    record { values = _; ring = _; wait = _; numbers = numbers; put = c.write_report.ensures }

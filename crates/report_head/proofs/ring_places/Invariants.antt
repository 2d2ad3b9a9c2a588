-- The loop's invariant: the first places are written.
use Rattle.pen.proofs.Wrote.{WroteRow}
use Rattle.report_text.specs.Text.{ring_place}
use Rattle.report_head.proofs.ring_places.Given as goal

abbrev pub invariant-loop-place : goal.invariant-loop-place
invariant-loop-place l = WroteRow l.initial.w (ring_place l.ring) l.place-index l.w

-- Two texts, one behind the other: the head and the waits. The whole fits, since its numbers are short.
use borrow.Author.Rules.{rules}
use Rattle.pen_put.proofs.PutLaws.{first_room}
use Rattle.pen.proofs.Wrote.{room_next, wrote_next, wrote_put}
use Rattle.report_text.specs.Text.{report_text}
use Rattle.report_text.proofs.FitLaws.{writable_fits}
use Rattle.report_lines.proofs.write_report.Goals as goal

pub head_lines-requires : goal.head_lines-requires
unfolding report_text
head_lines-requires c =
    first_room _ (writable_fits c.requires _ _ _ (search rules) (search rules) (search rules) (λ i. (c.type_inv.ring i).fits) (λ t. (c.type_inv.waits t).fits))

pub wait_lines-requires-clause-has_room : goal.wait_lines-requires-clause-has_room
unfolding report_text
wait_lines-requires-clause-has_room c =
    room_next c.head_lines.ensures
    (writable_fits c.requires _ _ _ (search rules) (search rules) (search rules) (λ i. (c.type_inv.ring i).fits) (λ t. (c.type_inv.waits t).fits))

pub returns : goal.returns
unfolding report_text
returns c = let put = wrote_put (wrote_next c.head_lines.ensures c.wait_lines.ensures) in search (rules, put)

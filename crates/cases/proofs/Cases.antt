-- The table of the worked graphs holds: one test over its cases is passed by computing, and gives what they say.
use native.Mathlib.Decide.{ℕ_discrete}
use Rattle.little.specs.Little.{quad, word}
use Rattle.marked.specs.Sums.{sum, upto}
use Rattle.marked.specs.Wait.{others}
use Rattle.net.specs.Ends.{dst_of, src_of, start_at, time_of}
use Rattle.file_trailer.specs.File.{back_of, edge_byte, edges_at, edges_of, operations_at, operations_of, operation_time, trailer_at}
use Rattle.reader.proofs.Total.{look_total, look_of}
use Rattle.paths_finish.specs.Modified.{node_time}
use Rattle.pen_put.specs.Digits.{digits, digits_by}
use Rattle.pen_put.specs.Lines.{item, item_line, line_end, pair_line}
use Rattle.report_text.specs.Text.{bound_lines, circuit_line, head_text, ops_line, report_text, ring_places, wait_lines}
use Rattle.cases.specs.Files.{file_of}
use Rattle.cases.specs.Table.{Case, P1_to_P10, True, case, table}
use Rattle.cases.proofs.Trying.{Tried, every, given}
use Rattle.cases.proofs.Sentences.{said?}

-- The test of a case: look reads its file once, and each sentence is tested.
abbrev case? : (c : Case) → Tried (True c)
case? (case times edges said) = let f = file_of times edges in every (said? f (look_of f) (look_total f)) said

-- P1 to P10 hold.
pub cases_hold : P1_to_P10
unfolding look_of trailer_at operations_at operations_of edges_at edges_of back_of operation_time edge_byte word quad src_of dst_of start_at time_of sum upto others node_time ℕ_discrete report_text head_text ops_line bound_lines circuit_line ring_places wait_lines item item_line pair_line line_end digits digits_by
cases_hold = given (every case? table) tt

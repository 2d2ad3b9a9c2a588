-- From a file's bytes and report's reply: the number on each wait line meets the three sentences of the wait.
use mathlib.Core.List.{List}
use Prim.Native.Nat.{ℕ, ◌≤◌}
use lib.ListN.{length}
use Rattle.marked.proofs.Demand.{waits_unique}
use Rattle.pen_put.proofs.PutLaws.{put_read}
pub use Rattle.pen_put.proofs.PutLaws.{sets_front}
use Rattle.report_text.specs.Text.{head_text, report_text}
use Rattle.report.specs.Demand.{WaitsPrinted}
use Rattle.report.specs.Reply.{ReportReply, written}
use Rattle.std.specs.Prelude.{Ok}
use Rattle.report.proofs.Theorems.{numbers_demand, reported_good}

-- The three sentences of the wait through the report.
pub report_demand : (f before after : List ℕ) (len : ℕ) → len ≤ length before → ReportReply f before (Ok len) after → WaitsPrinted f after len
unfolding report_text
report_demand f before after len h (written {g = g} {v = v} {ring = ring} {wait = wait} k e n p) =
    let meets = numbers_demand {g = g} {v = v} {ring = ring} {wait = wait} (reported_good e) n in
    record {
      graph = g;
      ends = e;
      head = head_text g.operations g.edges v.numerator v.denominator v.tbio v.tt v.tce ring;
      wait = wait;
      text = put_read p h;
      meets = meets;
      only = λ t x l d. waits_unique d (meets t l);
    }

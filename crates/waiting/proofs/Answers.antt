-- From the reply for a graph to the reply for a file.
use mathlib.Core.Path.{◌≡◌, subst}
use mathlib.Core.List.{List}
use Prim.Native.Nat.{ℕ}
use Rattle.refusal.specs.declared.Refusal.{Refusal}
use Rattle.marked.specs.Net.{at}
use Rattle.marked.specs.Wait.{WaitSum}
use Rattle.net.specs.Plan.{Plan}
use Rattle.net.specs.Graph.{net_of}
use Rattle.net.specs.helpers.Tables.{plan_of_accepted, plan_of_plotted}
use Rattle.net.specs.declared.rows.Accepted.{Accepted}
use Rattle.reader.specs.Reply.{LookReply, shown}
use Rattle.reader.specs.declared.graph.Graph.{Graph}
use Rattle.reader.specs.Outcome.{passed, refused as stopped, unread}
use Rattle.accepting.specs.Rows.{wait_rows}
use Rattle.waiting.specs.Reply.{WaitReply}
use Rattle.waiting.specs.Reply.WaitReply.{refused as reply_refused, waits as reply_waits}
use Rattle.waiting_graph.specs.helpers.Work.{GraphWaits}
use Rattle.waiting_graph.specs.helpers.Work.GraphWaits.{refused, waits}
use Rattle.std.specs.Prelude.{Err, Ok, Result}
use Rattle.refusal.specs.Asking.{Given, Sound}

pub unread_reply : {f m : List ℕ} {t : ℕ} {r : Refusal} → LookReply f (Err r) → WaitReply f m t (Err r)
unread_reply look = reply_refused (unread look)

-- (Rows 10 to 12 and the sum of a graph tell nothing of times.)
pub ended_reply : {f m : List ℕ} {t : ℕ} {g : Graph} {r : Result ℕ Refusal} (a : Accepted) → LookReply f (Ok g) → plan_of_accepted a ≡ shown g
    → GraphWaits (plan_of_plotted a.plotted) m t r → WaitReply f m t r
ended_reply {m} {t} {r = Err x} a look lent (refused h) = reply_refused (stopped look (subst (λ (p : Plan). Given (wait_rows m t p) x) lent h))
ended_reply {m} {t} {r = Ok w} a look lent (waits h s) =
    reply_waits (passed look (subst (λ (p : Plan). Sound (wait_rows m t p)) lent h)) (subst (λ (p : Plan). WaitSum (net_of p) (at m) t w) lent s)

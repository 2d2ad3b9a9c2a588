-- What is said of lent rows, of a wiring with its marks, and of a graph whose rules are kept.
use Rattle.std.specs.Prelude.{List, [], ℕ}
use Rattle.net.specs.Good.{Good}
use Rattle.net.specs.Plan.{Plan, rows}
use Rattle.net.specs.declared.rows.Accepted.{Accepted}
use Rattle.net.specs.declared.rows.Plotted.{Plotted}
use Rattle.net.specs.declared.rows.Rows.{Rows}

-- The plan of rows.
abbrev pub plan_of_rows : Rows → Plan
plan_of_rows g = rows g.operations g.edges g.times.now g.from.now g.to.now g.mark.now g.buffers.now

-- A word over counts, ends and marks, said of a wiring with its marks.
abbrev pub marked_over : {A : Type 1} → (ℕ → ℕ → List ℕ → List ℕ → List ℕ → A) → Plotted → A
marked_over W g = W g.wiring.operations g.wiring.edges g.wiring.from.now g.wiring.to.now g.mark.now

-- The plan of a wiring with its marks.
abbrev pub plan_of_plotted : Plotted → Plan
plan_of_plotted g = rows g.wiring.operations g.wiring.edges [] g.wiring.from.now g.wiring.to.now g.mark.now []

-- A word over counts, times and the bytes of the edges, said of a graph whose rules are kept.
abbrev pub accepted_over : {A : Type 1} → (ℕ → ℕ → List ℕ → List ℕ → List ℕ → List ℕ → List ℕ → A) → Accepted → A
accepted_over W g =
    W g.plotted.wiring.operations g.plotted.wiring.edges g.times.now g.plotted.wiring.from.now g.plotted.wiring.to.now g.plotted.mark.now g.buffers.now

-- Its plan.
abbrev pub plan_of_accepted : Accepted → Plan
plan_of_accepted g =
    rows g.plotted.wiring.operations g.plotted.wiring.edges g.times.now g.plotted.wiring.from.now g.plotted.wiring.to.now g.plotted.mark.now g.buffers.now

-- Its graph is good.
abbrev pub IsGood : Accepted → Type 0
IsGood g = accepted_over Good g

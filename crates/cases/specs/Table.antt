-- The table P1 to P10: each case is a graph, and what is said of it.
use Rattle.std.specs.Prelude.{List, [], ◌∷◌, ℕ, set}
use Rattle.little.specs.Text.{bytes}
use Rattle.refusal.specs.declared.Reason.TheVariants.{CircuitDead, MarkingUnreached, NodeApart, NodeLoose, TransitionDisabled}
use Rattle.bounds_graph.specs.declared.reply.Measures.{Measures}
use Rattle.cases.specs.Files.{Arrow, file_of, plain, star}
use Rattle.cases.specs.Said.{Holds, Said, circuit_is, marking_refused, no_circuit, refused, report_is, step_refused, tbio_is, tbo_is, tt_is}

-- P holds of every entry.
abbrev pub EachOf : {A : Type 0} → (A → Type 0) → List A → Type 0
EachOf P [] = Unit {0}
EachOf P (x ∷ xs) = P x × EachOf P xs

-- The times of operations 1, 2, ..; edges 0, 1, ..; and what is said.
pub data Case : Type 0 where
  case : List ℕ → List Arrow → List Said → Case

-- A case holds: each sentence holds of its file.
abbrev pub True : Case → Type 0
True (case times edges said) = EachOf (Holds (file_of times edges)) said

-- The graph of P1, of which P8 speaks too.
abbrev pub P1 : List Said → Case
P1 = case (5 ∷ []) (plain 0 1 ∷ plain 1 2 ∷ [])

-- The report of P1, whole.
abbrev pub P1_report : List ℕ
P1_report =
    bytes
    "ops 1 edges 2 transitions 5 places 7\nTBO 5/1\nTBIO 5\nTT 5\nTCE 5\ncircuit 0 1 2\nwait 0 0\nwait 1 1\nwait 2 3\nwait 3 4\nwait 4 8\n"

-- The bounds that it tells.
abbrev pub P1_bounds : Measures
P1_bounds = record { numerator = 5; denominator = 1; tbio = 5; tt = 5; tce = 5; length = 3 }

-- The graph of P2, of which P7 speaks too.
abbrev pub P2 : List Said → Case
P2 = case (3 ∷ 4 ∷ []) (plain 0 1 ∷ plain 1 2 ∷ star 2 1 ∷ plain 2 3 ∷ [])

-- P7's marking: P2 started, then edge 2's full, place 3 * 2 + 2 * 2, set to 0 and its empty, the next, to 1.
abbrev pub moved : List ℕ → List ℕ
moved m = set (set m 10 0) 11 1

-- The cases.
abbrev pub table : List Case
table =
    P1 (report_is P1_bounds (0 ∷ 1 ∷ 2 ∷ []) (0 ∷ 1 ∷ 3 ∷ 4 ∷ 8 ∷ []) P1_report ∷ [])
    ∷ P2 (tbo_is 7 1 ∷ tbio_is 7 ∷ tt_is 7 ∷ [])
    -- P3
    ∷ case (5 ∷ 5 ∷ 5 ∷ []) (plain 0 1 ∷ plain 1 2 ∷ star 2 3 ∷ star 3 1 ∷ plain 3 4 ∷ [])
    (tbo_is 15 2 ∷ tbio_is 5 ∷ tt_is 10 ∷ circuit_is (0 ∷ 1 ∷ 11 ∷ 3 ∷ 4 ∷ 13 ∷ 6 ∷ 7 ∷ 15 ∷ []) ∷ [])
    -- P4
    ∷ case (1 ∷ 1 ∷ []) (plain 0 1 ∷ plain 1 2 ∷ star 1 2 ∷ plain 2 3 ∷ []) (refused CircuitDead 3 ∷ no_circuit ∷ [])
    -- P5
    ∷ case (5 ∷ []) (plain 0 1 ∷ star 1 1 ∷ plain 1 2 ∷ []) (tbo_is 5 1 ∷ [])
    -- P6
    ∷ case (5 ∷ []) (plain 0 1 ∷ plain 1 1 ∷ plain 1 2 ∷ []) (refused CircuitDead 1 ∷ [])
    -- P7
    ∷ P2 (marking_refused moved MarkingUnreached 0 ∷ [])
    -- P8
    ∷ P1 (step_refused 1 TransitionDisabled 3 ∷ [])
    -- P9
    ∷ case (1 ∷ 1 ∷ []) (plain 0 1 ∷ plain 1 3 ∷ star 2 2 ∷ []) (refused NodeApart 2 ∷ [])
    -- P10
    ∷ case (1 ∷ 1 ∷ []) (plain 0 1 ∷ plain 0 2 ∷ plain 1 3 ∷ []) (refused NodeLoose 2 ∷ [])
    ∷ []

-- P1 to P10 as a single statement: every case of the table holds (theorem `cases_hold`).
abbrev pub P1_to_P10 : Type 0
P1_to_P10 = EachOf True table

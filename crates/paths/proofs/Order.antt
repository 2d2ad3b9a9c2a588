-- TBIO and TT always have a path, no two numbers are allowed for either, and TBIO ≤ TT ≤ TCE.
use mathlib.Core.Path.{◌≡◌}
use mathlib.Core.List.{List}
use Prim.Native.Nat.{◌+◌, ◌≤◌, ℕ}
use native.Mathlib.Omega.{arith}
use Rattle.net.specs.Plan.{Plan, rows}
use Rattle.paths_finish.specs.Longest.{Longest, TBIO, TCE, TT}
use Rattle.paths.specs.helpers.Answers.{SumsOf}
use Rattle.paths.specs.declared.Sums.{Sums}
use Rattle.paths_finish.proofs.Distinct.{path_effort}
use Rattle.paths_finish.proofs.Reached.{Reached, reached}
use Rattle.paths_finish.proofs.Passing.{Passing}

-- There is a path from the source to the data sink: TBIO and TT are never over nothing.
pub some_path : {g : Plan} → Passing g → Reached g (g.operations + 1)
some_path {g} ok = reached ok (g.operations + 1) (omega arith)

pub longest_unique : {g : Plan} {Kind : ℕ → Type 0} {r s : ℕ} → Longest g Kind r → Longest g Kind s → r ≡ s
longest_unique x y = omega (arith, x.most _ _ y.kind y.path, y.has, y.most _ _ x.kind x.path, x.has)

pub tbio_unique : {g : Plan} {r s : ℕ} → TBIO g r → TBIO g s → r ≡ s
tbio_unique x y = longest_unique x y

pub tt_unique : {g : Plan} {r s : ℕ} → TT g r → TT g s → r ≡ s
tt_unique x y = longest_unique x y

pub tce_unique : (g : Plan) {r s : ℕ} → TCE g r → TCE g s → r ≡ s
tce_unique g x y = omega arith

-- The data sink is a sink.
pub tbio_most : {g : Plan} {r s : ℕ} → TBIO g r → TT g s → r ≤ s
tbio_most {g} x y = omega (arith, y.most x.end x.nodes (omega (arith, x.kind)) x.path, x.has)

-- A path comes to no operation twice.
pub tt_most : {g : Plan} {r s : ℕ} → Passing g → TT g r → TCE g s → r ≤ s
tt_most {g} ok x y = omega (arith, path_effort ok x.path, x.has)

-- So the answer leaves no choice.
pub told_determined : {n e : ℕ} {times from to mark buffers : List ℕ} {r s : Sums} → SumsOf n e times from to mark buffers r → SumsOf n e times from to mark buffers s → r ≡ s
told_determined {n} {e} {times} {from} {to} {mark} {buffers} x y =
    let a = tbio_unique x.tbio y.tbio in
    let b = tt_unique x.tt y.tt in
    let c = tce_unique (rows n e times from to mark buffers) x.tce y.tce in
    λ i. record { tbio = a i; tt = b i; tce = c i }

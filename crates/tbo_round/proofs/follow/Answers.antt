-- The invariant: w stands that many steps back.
use Prim.Native.Nat.{ℕ, ◌+◌, ◌*◌, ◌-◌}
use mathlib.Core.Path.{◌∙◌, ap, sym}
use native.Mathlib.Omega.{arith}
use Rattle.marked.specs.Net.{at}
use Rattle.net.specs.Graph.{net_of}
use Rattle.net.specs.helpers.Wirings.{wires_of}
use Rattle.net.proofs.Shapes.{wired_proper}
use Rattle.tbo_round.specs.helpers.Chains.{back}
use Rattle.tbo_round.proofs.Chains.{back_in}
use Rattle.tbo_round.proofs.Ways.{back_none, back_stays, back_step, behind_noted}
use Rattle.tbo_round.proofs.follow.Goals as goal

pub loop-init : goal.loop-init
loop-init c = back_none _ _ _

pub offset_bounds-pred-w : goal.offset_bounds-pred-w
offset_bounds-pred-w c =
    omega (arith, c.args.g.now.wired.operations, c.loop.invariant, back_in c.requires.notes (wired_proper c.args.g.now.wired) c.loop.counter c.args.v c.requires.v_bound)

pub bounds-pred-w : goal.bounds-pred-w
bounds-pred-w c =
    omega (arith, c.args.g.now.wired.operations, c.loop.invariant, back_in c.requires.notes (wired_proper c.args.g.now.wired) c.loop.counter c.args.v c.requires.v_bound)

pub returns-then-q-eq0 : goal.returns-then-q-eq0
returns-then-q-eq0 c =
    let g = net_of (wires_of c.args.g.now) in
    let notes = at c.args.pred.now in
    let none = sym c.from-q.ensures ∙ c.if-q-eq0.true in
    back_stays g notes c.loop.counter (3 * c.args.g.now.operations + 2) c.args.v c.loop.w c.loop.invariant none (omega arith)

pub source-w-requires : goal.source-w-requires
source-w-requires c =
    c.requires.notes.inside c.loop.w (c.from-q.result - 1) (omega (arith, c.from-q.ensures))

pub loop-preserved : goal.loop-preserved
loop-preserved c =
    let g = net_of (wires_of c.args.g.now) in
    let notes = at c.args.pred.now in
    let w = c.loop.w in
    let noted = behind_noted g w (notes w) (c.from-q.result - 1) (omega (arith, c.from-q.ensures)) in
    back_step g notes c.loop.counter c.args.v w _ c.loop.invariant (c.source-w.ensures.is ∙ noted)

pub returns : goal.returns
returns c =
    let g = net_of (wires_of c.args.g.now) in
    let notes = at c.args.pred.now in
    c.loop.invariant ∙ ap (λ (z : ℕ). back g notes z c.args.v) (omega arith)

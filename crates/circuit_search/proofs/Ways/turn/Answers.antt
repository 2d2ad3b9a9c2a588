-- Each branch is one move of the search.
use mathlib.Core.Path.{sym}
use native.Mathlib.Omega.{arith}
use Rattle.circuit_tight.proofs.Entries.{next_at, source_told, target_told}
use Rattle.circuit_search.specs.helpers.Turns.MoveEnds.{gone, got, moved}
use Rattle.circuit_search.proofs.Turning.{arrive, beyond, further, go_on, leads_in, no_way, noted_in, pass, step_back, still}
use Rattle.circuit_search.proofs.Ways.turn.Goals as goal

pub returns-then-x-root : goal.returns-then-x-root
returns-then-x-root c =
    record {
      outcome = gone (no_way c.args.self.now.threaded c.requires c.from-q.ensures c.if-q-self.true c.if-x-root.true) c.requires.deep;
      further = further c.args.self.now.threaded c.requires (omega (arith, still c.args.self.now.threaded c.requires));
    }

pub bounds-self-p : goal.bounds-self-p
bounds-self-p c =
    omega (arith, noted_in c.args.self.now.threaded c.requires c.from-q.ensures c.if-q-self.true c.if-x-root.false c.from-p.ensures, c.args.self.now.threaded.many)

pub returns-then-q-self : goal.returns-then-q-self
returns-then-q-self c =
    let back = step_back c.args.self.now.threaded c.requires c.from-q.ensures c.if-q-self.true c.if-x-root.false c.from-p.ensures (source_told c.args.self.now.lists.now.entries c.from-p.result c.from.ensures) in
    record { outcome = moved back; further = further c.args.self.now.threaded c.requires (omega (arith, still c.args.self.now.threaded c.requires)) }

pub bounds-via-y : goal.bounds-via-y
bounds-via-y c =
    omega (arith, leads_in c.args.self.now.threaded c.requires c.from-q.ensures c.if-q-self.false (target_told c.args.self.now.lists.now.entries c.from-q.result c.from-y.ensures), c.args.self.now.threaded.few, c.requires.deep)

pub returns-then-y-goal : goal.returns-then-y-goal
returns-then-y-goal c =
    let there = arrive c.args.self.now.threaded c.requires c.from-q.ensures c.if-q-self.false (target_told c.args.self.now.lists.now.entries c.from-q.result c.from-y.ensures) c.if-y-goal.true in
    rw (← next_at c.args.self.now.lists.now.entries c.from-q.result) (record { outcome = got there.0 there.1; further = further c.args.self.now.threaded c.requires (beyond c.args.self.now.threaded c.requires c.from-q.ensures c.if-q-self.false) })

pub bounds-seen-y : goal.bounds-seen-y
bounds-seen-y c =
    omega (arith, leads_in c.args.self.now.threaded c.requires c.from-q.ensures c.if-q-self.false (target_told c.args.self.now.lists.now.entries c.from-q.result c.from-y.ensures), c.args.self.now.threaded.few, c.requires.wide)

pub returns-then-seen-y : goal.returns-then-seen-y
returns-then-seen-y c =
    let next = beyond c.args.self.now.threaded c.requires c.from-q.ensures c.if-q-self.false in
    let past = pass c.args.self.now.threaded c.requires c.from-q.ensures c.if-q-self.false (target_told c.args.self.now.lists.now.entries c.from-q.result c.from-y.ensures) c.if-seen-y.true in
    rw (← next_at c.args.self.now.lists.now.entries c.from-q.result) (record { outcome = moved past; further = further c.args.self.now.threaded c.requires next })

pub bounds-seen-y-2 : goal.bounds-seen-y-2
bounds-seen-y-2 c =
    omega (arith, leads_in c.args.self.now.threaded c.requires c.from-q.ensures c.if-q-self.false (target_told c.args.self.now.lists.now.entries c.from-q.result c.from-y.ensures), c.args.self.now.threaded.few, c.requires.wide)

pub bounds-via-y-2 : goal.bounds-via-y-2
bounds-via-y-2 c =
    omega (arith, leads_in c.args.self.now.threaded c.requires c.from-q.ensures c.if-q-self.false (target_told c.args.self.now.lists.now.entries c.from-q.result c.from-y.ensures), c.args.self.now.threaded.few, c.requires.deep)

pub returns : goal.returns
returns c =
    let next = beyond c.args.self.now.threaded c.requires c.from-q.ensures c.if-q-self.false in
    let onward = go_on c.args.self.now.threaded c.requires c.from-q.ensures c.if-q-self.false (target_told c.args.self.now.lists.now.entries c.from-q.result c.from-y.ensures) c.if-seen-y.false (λ z. c.if-y-goal.false (sym z)) in
    rw (← next_at c.args.self.now.lists.now.entries c.from-q.result) (record { outcome = moved onward; further = further c.args.self.now.threaded c.requires next })

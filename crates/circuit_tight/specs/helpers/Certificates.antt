-- What is said of a certificate and of the lists.
use Rattle.std.specs.Prelude.{ℕ}
use Rattle.fraction.specs.helpers.Loads.{loaded_of}
use Rattle.circuit_tight.specs.helpers.Entries.{nexts, sources, targets}
use Rattle.circuit_tight.specs.helpers.Lists.{Lengthened, TightIn}
use Rattle.circuit_tight.specs.declared.Certificate.{Certificate}
use Rattle.circuit_tight.specs.declared.Lists.{Lists}

-- The place p is tight.
abbrev pub IsTight : Certificate → ℕ → Type 0
IsTight c p = TightIn (loaded_of c.load) c.rate.time c.rate.tokens c.potentials.now p

-- The lists became m: what was listed from hi on is now listed from lo on.
abbrev pub Longer : Certificate → ℕ → ℕ → Lists → Lists → Type 0
Longer c hi lo l m = Lengthened (loaded_of c.load) c.rate.time c.rate.tokens c.potentials.now hi lo l.head (nexts l.entries) (sources l.entries) (targets l.entries) m.head (nexts m.entries) (sources m.entries) (targets m.entries)

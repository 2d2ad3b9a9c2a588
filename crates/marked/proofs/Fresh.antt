-- A fresh array: no entry is above the number that it was filled with, and behind the last one 0 is read.
use mathlib.Core.Path.{◌≡◌}
use Prim.Native.Nat.{◌≤◌, suc, zero, ℕ}
use native.Mathlib.Omega.{arith}
use lib.ListN.{replicate}
use Rattle.marked.specs.Net.{at}

pub fresh_low : (n c v : ℕ) → at (replicate n c) v ≤ c
fresh_low zero c v = omega arith
fresh_low (suc n) c zero = omega arith
fresh_low (suc n) c (suc v) = fresh_low n c v

pub zeros : (n v : ℕ) → at (replicate n 0) v ≡ 0
zeros n v = omega (arith, fresh_low n 0 v)

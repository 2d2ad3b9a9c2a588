-- Every report fits 4,096 bytes: its numbers' digits bound each line, and the bounds add up to fewer.
use Prim.Native.Nat.{ℕ, zero, suc, ◌+◌, ◌*◌, ◌^◌, ◌<◌, ◌≤◌}
use native.Mathlib.Omega.{arith}
use mathlib.Core.List.{List}
use lib.ListN.{length, length-append}
use Rattle.marked.specs.Net.{at}
use Rattle.pen_put.specs.Lines.{HasRoom, line_end, item, item_line, pair_line, series}
use Rattle.pen_put.proofs.DigitLaws.{digits_short}
use Rattle.report_text.specs.Words.{ops_word, edges_word, transitions_word, places_word, tbo_word, slash_word, tbio_word, tt_word, tce_word, blank_word, wait_word, refused_word, at_word}
use Rattle.report_text.specs.Text.{ops_line, bound_lines, ring_place, ring_places, circuit_line, head_text, wait_of, wait_lines, report_text, refused_line}
use Rattle.report_text.specs.helpers.Limits.{CountsFit, Printable, Writable}

-- a number below 10 ^ suc k behind a word has at most suc k bytes more than the word
item_short : (name : List ℕ) (k n : ℕ) → n < 10 ^ suc k → length (item name n) ≤ length name + suc k
unfolding item
item_short name k n h = simp length-append (omega (arith, digits_short k n h))

-- a line of one item has a byte more
line_short : (name : List ℕ) (k n : ℕ) → n < 10 ^ suc k → length (item_line name n) ≤ length name + suc k + 1
unfolding item_line line_end
line_short name k n h = simp length-append (omega (arith, item_short name k n h))

-- and so has a line of two
pair_short : (name bar : List ℕ) (j k m n : ℕ) → m < 10 ^ suc j → n < 10 ^ suc k → length (pair_line name m bar n) ≤ length name + suc j + (length bar + suc k + 1)
unfolding pair_line
pair_short name bar j k m n h l = simp length-append (omega (arith, item_short name j m h, line_short bar k n l))

-- texts of at most k bytes
series_short : (text : ℕ → List ℕ) (k n : ℕ) → ((i : ℕ) → i < n → length (text i) ≤ k) → length (series text n) ≤ k * n
series_short text k zero h = omega arith
series_short text k (suc n) h = simp length-append (omega (arith, series_short text k n (λ i l. h i (omega arith)), h n (omega arith)))

ops_short : {n e : ℕ} → CountsFit n e → length (ops_line n e) ≤ 45
unfolding ops_line
ops_short {n} {e} c = simp length-append (omega (
  arith,
  item_short ops_word 2 n (omega arith),
  item_short edges_word 2 e (omega arith),
  pair_short transitions_word places_word 2 2 (3 * n + 2) (3 * n + 2 * e) (omega arith) (omega arith),
))

-- what a graph's numbers make of the other lines
module _ {n e a b x y z : ℕ} {ring : List ℕ} {waits : ℕ → ℕ} (g : Printable n e a b x y z ring waits) where
  bounds_short : length (bound_lines a b x y z) ≤ 71
  unfolding bound_lines
  bounds_short = simp length-append (omega (
    arith,
    pair_short tbo_word slash_word 9 9 a b g.numerator g.denominator,
    line_short tbio_word 9 x g.tbio,
    line_short tt_word 9 y g.total,
    line_short tce_word 9 z g.tce,
  ))

  circuit_short : length (circuit_line ring) ≤ 740
  unfolding circuit_line ring_places line_end
  circuit_short = simp length-append (omega (arith, series_short (ring_place ring) 6 (length ring) (λ i l. item_short blank_word 4 (at ring i) (g.places i l))))

  waits_short : length (wait_lines n waits) ≤ 2440
  unfolding wait_lines
  waits_short = omega (arith, series_short (wait_of waits) 20 (3 * n + 2) (λ t l. pair_short wait_word blank_word 2 9 t (waits t) (omega arith) (g.waited t l)))

  -- every report fits
  pub report_fits : length (report_text n e a b x y z ring waits) ≤ 4096
  unfolding report_text head_text
  report_fits = simp length-append (omega (arith, ops_short g.counts, bounds_short, circuit_short, waits_short))

-- so what may be written fits, where 16 and 32 bits limit the other numbers
pub writable_fits : {buf : List ℕ} {n e a b : ℕ} {ring waits : List ℕ} → Writable buf n e a b ring waits → (x y z : ℕ) → x < 2 ^ 32 → y < 2 ^ 32 → z < 2 ^ 32
    → ((i : ℕ) → at ring i < 2 ^ 16) → ((t : ℕ) → at waits t < 2 ^ 32) → HasRoom buf 0 (report_text n e a b x y z ring (at waits))
writable_fits {n = n} {e = e} {a = a} {b = b} {ring = ring} {waits = waits} w x y z hx hy hz hr hw =
    let g : Printable n e a b x y z ring (at waits) = record {
      counts = w.counts;
      numerator = w.numerator;
      denominator = w.denominator;
      tbio = omega arith;
      total = omega arith;
      tce = omega arith;
      circuit = w.circuit;
      places = λ i l. omega (arith, hr i);
      waited = λ t l. omega (arith, hw t);
    } in record { room = omega (arith, w.room, report_fits g) }

-- and so does every refusal
pub refused_fits : (k x : ℕ) → k < 10 ^ 3 → x < 10 ^ 5 → length (refused_line k x) ≤ 4096
refused_fits k x h l = omega (arith, pair_short refused_word at_word 2 4 k x h l)

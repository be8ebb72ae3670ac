-- The formulas of a lent list stand in order, inside its bytes.
use Prim.Native.Nat.{ℕ, zero, suc, ◌+◌, ◌<◌, ◌≤◌}
use mathlib.Core.Path.{◌≡◌}
use mathlib.Core.List.{List, [], ◌∷◌}
use native.Mathlib.Omega.{arith}
use lib.ListN.{length, get_or}
use Rattle.formula.specs.Tree.{Tree}
use Rattle.desk.specs.Mirror.Moves.{RangesFrom, Listing}

module _ (b starts : List ℕ) where
  ranges_at : (i k : ℕ) (xs : List Tree) → RangesFrom b starts i xs → k < length xs → (get_or starts (i + k) 0 ≤ get_or starts (i + k + 1) 0) × (get_or starts (i + k + 1) 0 ≤ length b)
  unfolding RangesFrom
  ranges_at i k [] r h = absurd (omega arith)
  ranges_at i zero (x ∷ xs) r h = let e : i + 0 ≡ i = omega arith in rw e (r.0.from_to, r.0.inside)
  ranges_at i (suc k) (x ∷ xs) r h = let e : i + suc k ≡ i + 1 + k = omega arith in rw e (ranges_at (i + 1) k xs r.1 (omega arith))

  module _ (n : ℕ) (xs : List Tree) (L : Listing b starts n 0 xs) where
    at : (k : ℕ) → k < n → (get_or starts k 0 ≤ get_or starts (k + 1) 0) × (get_or starts (k + 1) 0 ≤ length b)
    at k h = let e : 0 + k ≡ k = omega arith in rw e at (ranges_at 0 k xs L.stand (omega (arith, L.count)))

    pub listing_in_order : (k : ℕ) → k < n → get_or starts k 0 ≤ get_or starts (k + 1) 0
    listing_in_order k h = (at k h).0

    pub listing_inside : (k : ℕ) → k < n → get_or starts (k + 1) 0 ≤ length b
    listing_inside k h = (at k h).1

-- A literal of eight bytes is its two's complement value: w below 2 ^ 63, and w − 2 ^ 64, which is negative, from there on.
use Prim.Native.Nat.{ℕ, suc, ◌-◌, ◌<◌, ◌≤◌, ◌^◌}
use mathlib.Core.Path.{◌≡◌}
use lib.IntN.{pos, negsuc}
use borrow.Author.Tests.{lt-ltb, le-ltb}
use Rattle.meaning.specs.Operators.{signed}

pub literal_low : (w : ℕ) → w < 2 ^ 63 → signed w ≡ pos w
literal_low w h = rw (lt-ltb w (2 ^ 63) h)

pub literal_high : (w : ℕ) → 2 ^ 63 ≤ w → w < 2 ^ 64 → signed w ≡ negsuc (2 ^ 64 - suc w)
literal_high w h k = rw (le-ltb w (2 ^ 63) h, lt-ltb w (2 ^ 64) k)

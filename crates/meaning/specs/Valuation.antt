-- Document 01, "Meaning": bound variables range over the interval lo..hi given with the valuation.
use Rattle.std.specs.Prelude.{ℕ, zero, suc, ◌≡◌, List, [], ◌∷◌, map, true, ℤ, nat_abs, ◌-ℤ◌}
use Rattle.std.proofs.Math.IntN.{suc_ℤ}
use Rattle.std.specs.Int.Signed.{le_z}
use Rattle.formula.specs.Types.{types_of}
use Rattle.meaning.specs.Value.{Val, ty_of}

-- z and the n integers after it
abbrev pub from : ℤ → ℕ → List ℤ
from z zero = z ∷ []
from z (suc n) = z ∷ from (suc_ℤ z) n

-- lo..hi, where lo ≤ hi
unfoldable pub interval : ℤ → ℤ → List ℤ
interval lo hi = from lo (nat_abs (hi -ℤ lo))

-- lo ≤ hi, and a value of the declared type for each identifier
pub record Valuation (types : List ℕ) : Type 0 where
  pub lo : ℤ
  pub hi : ℤ
  pub ordered : le_z lo hi ≡ true
  pub ids : List Val
  pub fits : map ty_of ids ≡ types_of types

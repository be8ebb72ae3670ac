-- Stripping ¬ on bytes, as the code does it.
use Rattle.std.specs.Prelude.{ℕ, zero, suc, ◌+◌, List, Bool, not, eqb}
use Rattle.formula.specs.Pick.{pick}
use Rattle.formula.specs.Codes.{neg, fun_byte}
use Rattle.formula.specs.Mirror.Bytes.{byte_at}
use Rattle.keys.specs.declared.strip.Bare.{Bare}

unfoldable pub strip_from : ℕ → List ℕ → ℕ → Bool → Bare
strip_from zero s p b = record { at = p; value = b }
strip_from (suc n) s p b = pick (eqb (byte_at s p) (fun_byte neg)) (strip_from n s (p + 1) (not b)) (record { at = p; value = b })

-- 32 levels have at most 31 ¬
unfoldable pub strip_at : List ℕ → ℕ → Bool → Bare
strip_at s p b = strip_from 32 s p b

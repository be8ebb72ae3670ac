-- Writing a sequent, on bytes, as the code does it: each definition is a function of the code.
use Rattle.std.specs.Prelude.{ℕ, zero, suc, ◌+◌, ◌≤◌, List, ◌++◌, length, get_or, set, take, drop, ltb}
use Rattle.formula.specs.Pick.{pick}
use Rattle.desk.specs.File.{header}
use Rattle.desk.specs.Mirror.Masks.{flag_byte_of}
use Rattle.desk.specs.declared.hypotheses.Hypotheses.{Hypotheses}
use Rattle.desk.specs.declared.view.View.{View}

-- the goal fits after the hypotheses, in 60,000 bytes and in `room`
pub record Fitting (h : Hypotheses) (g : List ℕ) (room : ℕ) : Type 0 where
  pub few : h.view.hypotheses ≤ 64
  pub on_desk : h.view.end ≤ length h.bytes.now
  pub short : h.view.end + length g ≤ 60000
  pub in_room : h.view.end + length g ≤ room

unfoldable pub low_byte : ℕ → ℕ
low_byte n = pick (ltb n 256) n 0

-- xs over the bytes from `at` on
abbrev pub put_at : ℕ → List ℕ → List ℕ → List ℕ
put_at at xs o = take at o ++ (xs ++ drop (length xs) (drop at o))

-- as much of the header as there is room for
unfoldable pub with_header : ℕ → ℕ → List ℕ → List ℕ
with_header t h o = put_at 0 (take (length o) (header (low_byte t) (low_byte h))) o

-- the flag bytes of n hypotheses from i on
unfoldable pub with_flags : ℕ → List ℕ → View → ℕ → List ℕ → List ℕ
with_flags zero places v i o = o
with_flags (suc n) places v i o = with_flags n places v (i + 1) (set o (get_or places i 0) (flag_byte_of v i))

-- the hypotheses, then the header and the flags over them, and the goal after them
unfoldable pub file_on : Hypotheses → List ℕ → List ℕ → List ℕ
file_on h g o =
    put_at h.view.end g (with_flags h.view.hypotheses h.places.now h.view 0 (with_header h.view.identifiers h.view.hypotheses (put_at 0 (take h.view.end h.bytes.now) o)))

-- Masks over the hypotheses, as the code keeps them: bit i for hypothesis i.
use Rattle.std.specs.Prelude.{ℕ, ◌-◌, ◌/◌, ◌%◌, ◌^◌, ◌<◌, ◌≡◌, List, Bool, not, ◌&&◌, length, eqb, leb, ltb}
use Rattle.std.specs.Int.Bits.{bit_or}
use Rattle.formula.specs.Pick.{pick}
use Rattle.desk.specs.Sequent.{Hypothesis, is_hidden, is_selected}
use Rattle.desk.specs.Mirror.Desk.{Holds, flag_at, view}
use Rattle.desk.specs.declared.view.View.{View}

unfoldable pub bit_of : ℕ → ℕ → Bool
bit_of m i = eqb (m / 2 ^ i % 2) 1

unfoldable pub with_bit : ℕ → ℕ → ℕ
with_bit m i = bit_or m (2 ^ i)

unfoldable pub without_bit : ℕ → ℕ → ℕ
without_bit m i = pick (bit_of m i) (m - 2 ^ i) m

unfoldable pub put_bit : ℕ → ℕ → Bool → ℕ
put_bit m i b = pick b (with_bit m i) (without_bit m i)

-- a hidden hypothesis is not selected
unfoldable pub with_flag : View → ℕ → Bool → Bool → View
with_flag v i hid sel =
    view v.identifiers v.hypotheses v.end (put_bit v.hidden i hid) (put_bit v.selected i (not hid && sel))

-- the flag byte of hypothesis i; there are at most 64
unfoldable pub flag_byte_of : View → ℕ → ℕ
flag_byte_of v i = pick (leb 64 i) 0 (pick (bit_of v.hidden i) 1 (pick (bit_of v.selected i) 2 0))

-- those of the first h hypotheses that are not hidden; there are at most 64
unfoldable pub visible_mask : ℕ → ℕ → ℕ
visible_mask h m = pick (ltb 64 h) 0 (2 ^ h - 1 - m)

-- what the masks say of a hypothesis
abbrev pub HiddenIs : View → ℕ → Bool → Type 0
HiddenIs v i r = (desk places types : List ℕ) (hs : List Hypothesis) → Holds desk places v types hs → i < length hs → r ≡ is_hidden (flag_at hs i)

abbrev pub SelectedIs : View → ℕ → Bool → Type 0
SelectedIs v i r = (desk places types : List ℕ) (hs : List Hypothesis) → Holds desk places v types hs → i < length hs → r ≡ is_selected (flag_at hs i)

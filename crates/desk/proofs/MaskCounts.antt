-- The ones of the masks are the counts of the flags.
use Prim.Native.Nat.{ℕ, suc, ◌+◌, ◌*◌, ◌^◌, ◌<◌, ◌≤◌}
use mathlib.Core.Path.{◌≡◌, refl, ap, ◌∙◌}
use mathlib.Core.Bool.{Bool, true, false}
use mathlib.Core.List.{List, [], ◌∷◌}
use native.Mathlib.Nat.{pow-suc}
use native.Mathlib.Omega.{arith}
use lib.ListN.{length}
use lib.Count.{ones, ones_in, ones_cat}
use borrow.Author.Tests.{le-ltb}
use Rattle.formula.specs.Pick.{pick}
use Rattle.desk.specs.Sequent.{Flag, plain, hidden, selected, Hypothesis, is_hidden, is_visible, count_of}
use Rattle.desk.specs.Mirror.Masks.{visible_mask}
use Rattle.desk.specs.Mirror.Desk.{mask_of}

abbrev pub bit : Bool → ℕ
bit b = pick b 1 0

pub bit_small : (b : Bool) → bit b < 2
bit_small true = omega arith
bit_small false = omega arith

ones_bit : (b : Bool) → ones (bit b) ≡ bit b
unfolding ones ones_in
ones_bit true = refl
ones_bit false = refl

module _ (f : Flag → Bool) where
  -- the ones of a mask are the hypotheses with such a flag
  pub ones_mask : (hs : List Hypothesis) → ones (mask_of f hs) ≡ count_of f hs
  unfolding mask_of count_of ones ones_in
  ones_mask [] = refl
  ones_mask (h ∷ hs) =
      let b = bit (f h.flag) in
      let w : b + 2 * mask_of f hs ≡ mask_of f hs * 2 ^ 1 + b = omega arith in
      let k : b < 2 ^ 1 = bit_small (f h.flag) in
      let i = ones_mask hs in
      let j = ones_bit (f h.flag) in
      let c = ap ones w ∙ ones_cat 1 (mask_of f hs) b k in
      omega arith

-- those that are not hidden have the bits that the hidden ones leave
pub visible_bits : (hs : List Hypothesis) → mask_of is_hidden hs + mask_of is_visible hs + 1 ≡ 2 ^ length hs
unfolding mask_of
visible_bits [] = refl
visible_bits (h ∷ hs) = go h.flag (visible_bits hs)
  where
    go : (f : Flag) → mask_of is_hidden hs + mask_of is_visible hs + 1 ≡ 2 ^ length hs → pick (is_hidden f) 1 0 + 2 * mask_of is_hidden hs + (pick (is_visible f) 1 0 + 2 * mask_of is_visible hs) + 1 ≡ 2 ^ suc (length hs)
    go plain i = omega (arith, pow-suc 2 (length hs))
    go hidden i = omega (arith, pow-suc 2 (length hs))
    go selected i = omega (arith, pow-suc 2 (length hs))

pub visible_is : (hs : List Hypothesis) → length hs ≤ 64 → visible_mask (length hs) (mask_of is_hidden hs) ≡ mask_of is_visible hs
unfolding visible_mask
visible_is hs h = simp (le-ltb _ _ h) (omega (arith, visible_bits hs))

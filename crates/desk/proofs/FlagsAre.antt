-- Flags compared one by one, and as two masks.
use Prim.Native.Nat.{ℕ, ◌+◌, ◌*◌}
use mathlib.Core.Path.{◌≡◌, refl, sym, ap, ◌∙◌}
use mathlib.Core.Bool.{Bool, true, false, not, ◌&&◌, ◌||◌}
use mathlib.Core.List.{List, [], ◌∷◌, map}
use native.Mathlib.Omega.{arith}
use lib.ListN.{length}
use lib.Dec.{eqb}
use borrow.Author.Tests.{eq-eqb, ne_eqb, eqb-true, eqb-false, not-false}
use Rattle.formula.specs.Pick.{pick}
use Rattle.formula.proofs.Choices.{never, agree}
use Rattle.desk.specs.Sequent.{Flag, plain, hidden, selected, Hypothesis, is_hidden, is_selected}
use Rattle.desk.specs.File.{flag_byte}
use Rattle.desk.specs.Mirror.Desk.{mask_of}
use Rattle.desk.proofs.Apart.{or_false}

abbrev pub same_flag : Flag → Flag → Bool
same_flag f g = eqb (flag_byte f) (flag_byte g)

-- some flag differs, of those that both have
unfoldable pub flags_differ : List Hypothesis → List Hypothesis → Bool
flags_differ [] ks = false
flags_differ (h ∷ hs) [] = false
flags_differ (h ∷ hs) (k ∷ ks) = not (same_flag h.flag k.flag) || flags_differ hs ks

abbrev pub flags_of : List Hypothesis → List Flag
flags_of = map (λ h. h.flag)

-- ---- a flag is known by its two bits
flag_bits : (f g : Flag) → same_flag f g ≡ (agree (is_hidden f) (is_hidden g) && agree (is_selected f) (is_selected g))
flag_bits plain plain = refl
flag_bits plain hidden = refl
flag_bits plain selected = refl
flag_bits hidden plain = refl
flag_bits hidden hidden = refl
flag_bits hidden selected = refl
flag_bits selected plain = refl
flag_bits selected hidden = refl
flag_bits selected selected = refl

flag_one : (f g : Flag) → same_flag f g ≡ true → f ≡ g
flag_one plain plain e = refl
flag_one plain hidden e = never e
flag_one plain selected e = never e
flag_one hidden plain e = never e
flag_one hidden hidden e = refl
flag_one hidden selected e = never e
flag_one selected plain e = never e
flag_one selected hidden e = never e
flag_one selected selected e = refl

-- one bit and the others
same_bit : (c m n : ℕ) → eqb (c + 2 * m) (c + 2 * n) ≡ eqb m n
same_bit c m n = go (eqb m n) refl
  where
    go : (b : Bool) → eqb m n ≡ b → eqb (c + 2 * m) (c + 2 * n) ≡ b
    go true e = eq-eqb (c + 2 * m) (c + 2 * n) (let i = eqb-true m n e in omega arith)
    go false e = ne_eqb (c + 2 * m) (c + 2 * n) (λ j. eqb-false m n e (omega arith))

bit_step : (a b : Bool) (m n : ℕ) → eqb (pick a 1 0 + 2 * m) (pick b 1 0 + 2 * n) ≡ (agree a b && eqb m n)
bit_step true true m n = same_bit 1 m n
bit_step true false m n = ne_eqb (1 + 2 * m) (0 + 2 * n) (λ j. omega arith)
bit_step false true m n = ne_eqb (0 + 2 * m) (1 + 2 * n) (λ j. omega arith)
bit_step false false m n = same_bit 0 m n

regroup : (a b c d : Bool) → (not (a && b) || (not c || not d)) ≡ (not (a && c) || not (b && d))
regroup true true c d = refl
regroup true false true d = refl
regroup true false false d = refl
regroup false b c d = refl

-- ---- some flag differs just if a mask does
pub masks_differ : (hs ks : List Hypothesis) → length hs ≡ length ks
    → flags_differ hs ks ≡ (not (eqb (mask_of is_hidden hs) (mask_of is_hidden ks)) || not (eqb (mask_of is_selected hs) (mask_of is_selected ks)))
unfolding flags_differ mask_of
masks_differ [] [] e = refl
masks_differ [] (k ∷ ks) e = absurd (omega arith)
masks_differ (h ∷ hs) [] e = absurd (omega arith)
masks_differ (h ∷ hs) (k ∷ ks) e =
    let f = h.flag in
    let g = k.flag in
    rw (masks_differ hs ks (omega arith), flag_bits f g, bit_step (is_hidden f) (is_hidden g) (mask_of is_hidden hs) (mask_of is_hidden ks), bit_step (is_selected f) (is_selected g) (mask_of is_selected hs) (mask_of is_selected ks))
    (regroup (agree (is_hidden f) (is_hidden g)) (agree (is_selected f) (is_selected g)) (eqb (mask_of is_hidden hs) (mask_of is_hidden ks)) (eqb (mask_of is_selected hs) (mask_of is_selected ks)))

-- ---- so equal masks are equal flags
pub flags_same : (hs ks : List Hypothesis) → length hs ≡ length ks → flags_differ hs ks ≡ false → flags_of hs ≡ flags_of ks
unfolding flags_differ
flags_same [] [] l e = refl
flags_same [] (k ∷ ks) l e = absurd (omega arith)
flags_same (h ∷ hs) [] l e = absurd (omega arith)
flags_same (h ∷ hs) (k ∷ ks) l e =
    let i = or_false (not (same_flag h.flag k.flag)) (flags_differ hs ks) e in
    let f = flag_one h.flag k.flag (not-false _ i.0) in
    let fs = flags_same hs ks (omega arith) i.1 in
    cc

module _ (hs ks : List Hypothesis) where
  pub masks_flags : length hs ≡ length ks → mask_of is_hidden hs ≡ mask_of is_hidden ks → mask_of is_selected hs ≡ mask_of is_selected ks → flags_of hs ≡ flags_of ks
  masks_flags l p q = flags_same hs ks l (masks_differ hs ks l ∙ rw (eq-eqb _ _ p, eq-eqb _ _ q) refl)

  pub flags_mask : (f : Flag → Bool) → flags_of hs ≡ flags_of ks → mask_of f hs ≡ mask_of f ks
  unfolding mask_of
  flags_mask f e = mask_of_law hs ∙ ap mask e ∙ sym (mask_of_law ks)
    where
      mask : List Flag → ℕ
      mask [] = 0
      mask (g ∷ gs) = pick (f g) 1 0 + 2 * mask gs

      mask_of_law : (hs : List Hypothesis) → mask_of f hs ≡ mask (flags_of hs)
      mask_of_law [] = refl
      mask_of_law (h ∷ hs) = ap (λ (n : ℕ). pick (f h.flag) 1 0 + 2 * n) (mask_of_law hs)

-- Lists of bytes from a place on, and numbers as little-endian bytes.
use Prim.Native.Nat.{ℕ, zero, suc, ◌+◌, ◌*◌, ◌/◌, ◌%◌, ◌<◌, ◌≤◌, ◌^◌}
use mathlib.Core.Path.{◌≡◌, refl, sym, ap, ◌∙◌}
use mathlib.Core.List.{List, [], ◌∷◌, ◌++◌}
use native.Mathlib.Numerals.{add-one}
use native.Mathlib.Nat.{add-zero}
use native.Mathlib.Omega.{arith}
use lib.ListN.{length, get_or, take, drop, length-drop, length-append, take-append-drop}
use lib.Seq.{get_or-drop, drop-drop, drop-cons, drop_at}
use Rattle.formula.specs.Tree.{bytes_le}
use Rattle.formula.specs.Reading.{of_le}

-- ---- a list that begins with something at a place
module _ (s : List ℕ) (at : ℕ) where
  pub head_is : (c : ℕ) (l : List ℕ) → drop at s ≡ c ∷ l → get_or s at 0 ≡ c
  head_is c l e = ap (λ (n : ℕ). get_or s n 0) (sym (add-zero at)) ∙ sym (get_or-drop at s 0 0) ∙ ap (λ (m : List ℕ). get_or m 0 0) e

  pub behind : (a l : List ℕ) → drop at s ≡ a ++ l → drop (at + length a) s ≡ l
  behind a l e = sym (drop-drop (length a) at s) ∙ ap (drop (length a)) e ∙ drop_at a l (length a) refl

  pub reaches : (a l : List ℕ) → drop at s ≡ a ++ l → 0 < length a → at + length a ≤ length s
  reaches a l e h = omega (arith, sym (length-drop at s) ∙ ap length e ∙ length-append a l)

  pub one_more : at < length s → drop at s ≡ get_or s at 0 ∷ drop (at + 1) s
  one_more h = drop-cons s at 0 h ∙ ap (λ (n : ℕ). get_or s at 0 ∷ drop n s) (sym (add-one at))

  pub parted : (n : ℕ) → drop at s ≡ take n (drop at s) ++ drop (at + n) s
  parted n = sym (take-append-drop n (drop at s)) ∙ ap (λ (l : List ℕ). take n (drop at s) ++ l) (drop-drop n at s)

-- ---- bytes: each element is below 256
abbrev pub AllBytes : List ℕ → Type 0
AllBytes [] = Unit {0}
AllBytes (b ∷ s) = (b < 256) × AllBytes s

pub drop_bytes : (n : ℕ) (s : List ℕ) → AllBytes s → AllBytes (drop n s)
drop_bytes zero s h = h
drop_bytes (suc n) [] h = h
drop_bytes (suc n) (b ∷ s) h = drop_bytes n s h.1

pub take_bytes : (n : ℕ) (s : List ℕ) → AllBytes s → AllBytes (take n s)
take_bytes zero s h = tt
take_bytes (suc n) [] h = h
take_bytes (suc n) (b ∷ s) h = (h.0, take_bytes n s h.1)

pub byte_small : (s : List ℕ) (i : ℕ) → AllBytes s → get_or s i 0 < 256
byte_small [] i h = omega arith
byte_small (b ∷ s) zero h = h.0
byte_small (b ∷ s) (suc i) h = byte_small s i h.1

-- ---- little-endian numbers
pub le_long : (n w : ℕ) → length (bytes_le n w) ≡ n
le_long zero w = refl
le_long (suc n) w = ap suc (le_long n (w / 256))

pub le_there : (n w : ℕ) → w < 256 ^ n → of_le (bytes_le n w) ≡ w
le_there zero w h = omega arith
le_there (suc n) w h =
    let k : w / 256 < 256 ^ n = omega arith in
    let i = le_there n (w / 256) k in omega arith

pub le_back : (s : List ℕ) → AllBytes s → bytes_le (length s) (of_le s) ≡ s
le_back [] h = refl
le_back (b ∷ s) h =
    let k = h.0 in
    let p : (b + 256 * of_le s) % 256 ≡ b = omega arith in
    let q : (b + 256 * of_le s) / 256 ≡ of_le s = omega arith in
    rw (p, q) (ap (λ (l : List ℕ). b ∷ l) (le_back s h.1))

pub le_small : (n : ℕ) (s : List ℕ) → AllBytes s → of_le (take n s) < 256 ^ n
le_small zero s h = omega arith
le_small (suc n) [] h = let i = le_small n [] h in omega arith
le_small (suc n) (b ∷ s) h = let k = h.0 in let i = le_small n s h.1 in omega arith

-- The cases of the masks, and that they have the flags of the hypotheses.
use Prim.Native.Nat.{ℕ, zero, suc, ◌+◌, ◌-◌, ◌*◌, ◌/◌, ◌%◌, ◌^◌, max, ◌<◌, ◌≤◌}
use mathlib.Core.Path.{◌≡◌, refl, sym, ap, ◌∙◌, subst}
use mathlib.Core.Bool.{Bool, true, false, not, ◌&&◌}
use mathlib.Core.List.{List, [], ◌∷◌, ◌++◌}
use native.Mathlib.Nat.{le-div_iff_mul-le, div-eq_of_lt, one-mul, mod-eq_of_lt, pow-suc, pow-succ', div-div-eq-div-mul}
use native.Mathlib.Omega.{arith}
use lib.ListN.{length, take, length-append}
use lib.Dec.{eqb, ltb}
use lib.Bits.{bit_or, or_step, or_zero_r}
use Rattle.std.specs.Int.Bits.{bit_and}
use Rattle.std.proofs.lemmas.Nat.{and-not, and_comm}
use Rattle.std.proofs.lemmas.Nat.Bits.{and_pow}
use lib.Pow.{pow_pos, pow-lt, pow_mono}
use borrow.Author.Tests.{eqb-true, lt-leb, le-ltb}
use Rattle.formula.specs.Pick.{pick}
use Rattle.formula.specs.Tree.{encode}
use Rattle.desk.specs.Sequent.{Flag, plain, hidden, selected, Hypothesis, is_hidden, is_selected}
use Rattle.desk.specs.File.{flag_byte, hypotheses_bytes}
use Rattle.desk.specs.Mirror.Desk.{mask_of, places_from, HypothesesStand, flag_from, set_flag, flag_at, SetIs}
use Rattle.desk.specs.Mirror.Masks.{bit_of, with_bit, without_bit, put_bit, with_flag, flag_byte_of, HiddenIs, SelectedIs}
use Rattle.desk.specs.declared.view.View.{View}
use Rattle.desk.proofs.MaskCounts.{bit, bit_small}

-- ---- the code's cases
module _ (m i : ℕ) where
  -- a mask has 64 bits, and none past them
  pub bit_past : 64 ≤ i → m < 2 ^ 64 → ltb i 64 ≡ bit_of m i
  unfolding bit_of
  bit_past h k = let q : m / 2 ^ i ≡ 0 = div-eq_of_lt (omega (arith, k, pow_mono h)) in rw q (le-ltb i 64 h)

  shifted_one : i < 64 → (1 * 2 ^ i) % 2 ^ 64 ≡ 2 ^ i
  shifted_one h = ap (λ (n : ℕ). n % 2 ^ 64) (one-mul (2 ^ i)) ∙ mod-eq_of_lt (pow-lt h)

  pub with_is : i < 64 → bit_or m ((1 * 2 ^ i) % 2 ^ 64) ≡ with_bit m i
  unfolding with_bit
  with_is h = ap (bit_or m) (shifted_one h)

  bit_within : bit_of m i ≡ true → 2 ^ i ≤ m
  unfolding bit_of
  bit_within e =
      let f : m / 2 ^ i % 2 ≡ 1 = eqb-true _ _ e in
      let g : 1 ≤ m / 2 ^ i = omega arith in subst (λ (n : ℕ). n ≤ m) (one-mul (2 ^ i)) ((le-div_iff_mul-le (pow_pos i)).0 g)

  pub without_is : i < 64 → m < 2 ^ 64 → bit_and m (2 ^ 64 - 1 - (1 * 2 ^ i) % 2 ^ 64) ≡ without_bit m i
  unfolding without_bit bit_of
  without_is h k =
      let e = and-not 64 (2 ^ i) m (pow-lt h) k in
      let n = 2 ^ 64 - 1 - 2 ^ i in
      let f : bit_and m n + m / 2 ^ i % 2 * 2 ^ i ≡ m = rw (and_comm m n, ← and_pow m i, and_comm m (2 ^ i)) e in
      rw (shifted_one h) (go (bit_and m n) (m / 2 ^ i % 2) (omega arith) f)
    where
      go : (r b : ℕ) → b < 2 → r + b * 2 ^ i ≡ m → r ≡ pick (eqb b 1) (m - 2 ^ i) m
      go r zero l f = omega (arith, f)
      go r (suc zero) l f = omega (arith, f)
      go r (suc (suc b)) l f = absurd (omega arith)

pub ruleset masks = (with_is, without_is)

-- ---- a mask by its first bit and the others
module _ (m : ℕ) where
  bit_first : (d : Bool) → bit_of (bit d + 2 * m) 0 ≡ d
  unfolding bit_of
  bit_first true = let e : (1 + 2 * m) / 2 ^ 0 % 2 ≡ 1 = omega arith in rw e refl
  bit_first false = let e : (0 + 2 * m) / 2 ^ 0 % 2 ≡ 0 = omega arith in rw e refl

  bit_later : (c i : ℕ) → c < 2 → bit_of (c + 2 * m) (suc i) ≡ bit_of m i
  unfolding bit_of
  bit_later c i h =
      let e : (c + 2 * m) / 2 ≡ m = omega arith in
      let q : (c + 2 * m) / 2 ^ suc i ≡ m / 2 ^ i = ap (λ (n : ℕ). (c + 2 * m) / n) (pow-succ' 2 i) ∙ sym (div-div-eq-div-mul (c + 2 * m) 2 (2 ^ i)) ∙ ap (λ (n : ℕ). n / 2 ^ i) e in
      ap (λ (n : ℕ). eqb (n % 2) 1) q

  with_first : (c : ℕ) → c < 2 → with_bit (c + 2 * m) 0 ≡ 1 + 2 * m
  unfolding with_bit
  with_first c h =
      let e : (c + 2 * m) / 2 ≡ m = omega arith in
      let f : (c + 2 * m) % 2 ≡ c = omega arith in
      let g : max c 1 ≡ 1 = omega arith in
      let k : m * 2 + 1 ≡ 1 + 2 * m = omega arith in
      or_step (c + 2 * m) 1 ∙ simp (e, f, g, or_zero_r) k

  with_later : (c i : ℕ) → c < 2 → with_bit (c + 2 * m) (suc i) ≡ c + 2 * with_bit m i
  unfolding with_bit
  with_later c i h =
      let e : (c + 2 * m) / 2 ≡ m = omega arith in
      let f : (c + 2 * m) % 2 ≡ c = omega arith in
      let p : 2 ^ suc i / 2 ≡ 2 ^ i = omega (arith, pow-suc 2 i) in
      let q : 2 ^ suc i % 2 ≡ 0 = omega (arith, pow-suc 2 i) in
      let g : max c 0 ≡ c = omega arith in
      let k : bit_or m (2 ^ i) * 2 + c ≡ c + 2 * bit_or m (2 ^ i) = omega arith in
      or_step (c + 2 * m) (2 ^ suc i) ∙ rw (e, f, p, q, g) k

  without_first : (d : Bool) → without_bit (bit d + 2 * m) 0 ≡ 2 * m
  unfolding without_bit
  without_first true = rw (bit_first true) (omega arith)
  without_first false = rw (bit_first false) (omega arith)

  without_later : (c i : ℕ) → c < 2 → without_bit (c + 2 * m) (suc i) ≡ c + 2 * without_bit m i
  unfolding without_bit
  without_later c i h = rw (bit_later c i h) (go (bit_of m i) refl)
    where
      go : (b : Bool) → bit_of m i ≡ b → pick b (c + 2 * m - 2 ^ suc i) (c + 2 * m) ≡ c + 2 * pick b (m - 2 ^ i) m
      go true e = let w = bit_within m i e in omega (arith, pow-suc 2 i)
      go false e = refl

  put_first : (d b : Bool) → put_bit (bit d + 2 * m) 0 b ≡ bit b + 2 * m
  unfolding put_bit
  put_first d true = with_first (bit d) (bit_small d)
  put_first d false = without_first d ∙ omega arith

  put_later : (c i : ℕ) (b : Bool) → c < 2 → put_bit (c + 2 * m) (suc i) b ≡ c + 2 * put_bit m i b
  unfolding put_bit
  put_later c i true h = with_later c i h
  put_later c i false h = without_later c i h

-- ---- the masks have the flags
module _ (f : Flag → Bool) where
  pub bit_flag : (hs : List Hypothesis) (i : ℕ) → i < length hs → bit_of (mask_of f hs) i ≡ f (flag_at hs i)
  unfolding mask_of flag_at
  bit_flag [] i h = absurd (omega (arith, h))
  bit_flag (x ∷ hs) zero h = bit_first (mask_of f hs) (f x.flag)
  bit_flag (x ∷ hs) (suc i) h = bit_later (mask_of f hs) (bit (f x.flag)) i (bit_small (f x.flag)) ∙ bit_flag hs i (omega arith)

  pub put_flag : (hs : List Hypothesis) (i : ℕ) (g : Flag) → i < length hs → put_bit (mask_of f hs) i (f g) ≡ mask_of f (set_flag i g hs)
  unfolding mask_of set_flag
  put_flag [] i g h = absurd (omega (arith, h))
  put_flag (x ∷ hs) zero g h = put_first (mask_of f hs) (f x.flag) (f g)
  put_flag (x ∷ hs) (suc i) g h =
      put_later (mask_of f hs) (bit (f x.flag)) i (f g) (bit_small (f x.flag)) ∙ ap (λ (n : ℕ). bit (f x.flag) + 2 * n) (put_flag hs i g (omega arith))

  pub put_new : (hs : List Hypothesis) (x : Hypothesis) → put_bit (mask_of f hs) (length hs) (f x.flag) ≡ mask_of f (hs ++ (x ∷ []))
  unfolding mask_of
  put_new [] x = put_first 0 false (f x.flag)
  put_new (y ∷ hs) x =
      put_later (mask_of f hs) (bit (f y.flag)) (length hs) (f x.flag) (bit_small (f y.flag)) ∙ ap (λ (n : ℕ). bit (f y.flag) + 2 * n) (put_new hs x)

pub hidden_from : (hid sel : Bool) → is_hidden (flag_from hid sel) ≡ hid
hidden_from true sel = refl
hidden_from false true = refl
hidden_from false false = refl

pub selected_from : (hid sel : Bool) → is_selected (flag_from hid sel) ≡ (not hid && sel)
selected_from true sel = refl
selected_from false true = refl
selected_from false false = refl

flag_byte_by : (f : Flag) → pick (is_hidden f) 1 (pick (is_selected f) 2 0) ≡ flag_byte f
flag_byte_by plain = refl
flag_byte_by hidden = refl
flag_byte_by selected = refl

pub byte_is : (v : View) (hs : List Hypothesis) (i : ℕ) → v.hidden ≡ mask_of is_hidden hs → v.selected ≡ mask_of is_selected hs → i < length hs → i < 64 → flag_byte_of v i ≡ flag_byte (flag_at hs i)
unfolding flag_byte_of
byte_is v hs i p q h k = simp (lt-leb _ _ k, p, q, bit_flag is_hidden hs i h, bit_flag is_selected hs i h) (flag_byte_by (flag_at hs i))

-- ---- a flag set changes no more than the masks
module _ (g : Flag) where
  set_count : (i : ℕ) (hs : List Hypothesis) → length (set_flag i g hs) ≡ length hs
  unfolding set_flag
  set_count i [] = refl
  set_count zero (h ∷ hs) = refl
  set_count (suc i) (h ∷ hs) = ap suc (set_count i hs)

  set_bytes : (i : ℕ) (hs : List Hypothesis) → length (hypotheses_bytes (set_flag i g hs)) ≡ length (hypotheses_bytes hs)
  unfolding set_flag hypotheses_bytes
  set_bytes i [] = refl
  set_bytes zero (h ∷ hs) = refl
  set_bytes (suc i) (h ∷ hs) = let k = set_bytes i hs in simp length-append (omega arith)

  set_places : (i p : ℕ) (hs : List Hypothesis) → places_from p (set_flag i g hs) ≡ places_from p hs
  unfolding set_flag places_from
  set_places i p [] = refl
  set_places zero p (h ∷ hs) = refl
  set_places (suc i) p (h ∷ hs) = ap (λ (l : List ℕ). p ∷ l) (set_places i (p + 1 + length (encode h.formula)) hs)

  set_stand : (desk : List ℕ) (i p : ℕ) (hs : List Hypothesis) → HypothesesStand desk p hs → HypothesesStand desk p (set_flag i g hs)
  unfolding set_flag HypothesesStand
  set_stand desk i p [] s = s
  set_stand desk zero p (h ∷ hs) s = s
  set_stand desk (suc i) p (h ∷ hs) s = (s.0, set_stand desk i (p + 1 + length (encode h.formula)) hs s.1)

set_holds : (v : View) (i : ℕ) (hid sel : Bool) → SetIs v i hid sel (with_flag v i hid sel)
unfolding with_flag
set_holds v i hid sel desk places types hs H k n =
    let g = flag_from hid sel in
    let c = set_count g i hs in
    record {
      identifiers_are = H.identifiers_are;
      hypotheses_are = H.hypotheses_are ∙ sym c;
      end_is = H.end_is ∙ ap (λ (n : ℕ). 8 + length types + n) (sym (set_bytes g i hs));
      in_desk = H.in_desk;
      types_are = H.types_are;
      places_are = ap (λ (n : ℕ). take (suc n) places) c ∙ H.places_are ∙ sym (set_places g i (8 + length types) hs);
      stand = set_stand g desk i (8 + length types) hs H.stand;
      hidden_is = ap (λ (m : ℕ). put_bit m i hid) H.hidden_is ∙ ap (put_bit (mask_of is_hidden hs) i) (sym (hidden_from hid sel)) ∙ put_flag is_hidden hs i g k;
      selected_is = ap (λ (m : ℕ). put_bit m i (not hid && sel)) H.selected_is ∙ ap (put_bit (mask_of is_selected hs) i) (sym (selected_from hid sel)) ∙ put_flag is_selected hs i g k;
    }

pub set_is : (v w : View) (i : ℕ) (hid sel : Bool) → w ≡ with_flag v i hid sel → SetIs v i hid sel w
set_is v w i hid sel e = rw e (set_holds v i hid sel)

pub hidden_is : (v : View) (i : ℕ) (r : Bool) → r ≡ bit_of v.hidden i → HiddenIs v i r
hidden_is v i r e desk places types hs H k = e ∙ ap (λ (m : ℕ). bit_of m i) H.hidden_is ∙ bit_flag is_hidden hs i k

pub selected_is : (v : View) (i : ℕ) (r : Bool) → r ≡ bit_of v.selected i → SelectedIs v i r
selected_is v i r e desk places types hs H k = e ∙ ap (λ (m : ℕ). bit_of m i) H.selected_is ∙ bit_flag is_selected hs i k

pub ruleset flags = (set_is, hidden_is, selected_is)

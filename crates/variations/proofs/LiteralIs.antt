-- Which literal stands at a place, by its bytes.
use Prim.Native.Nat.{ℕ, zero, suc, ◌+◌, ◌-◌, ◌*◌, ◌/◌, ◌%◌, ◌<◌, ◌^◌}
use mathlib.Core.Path.{◌≡◌, refl, sym, ap, ◌∙◌}
use mathlib.Core.Bool.{Bool, true, false, ◌&&◌}
use mathlib.Core.List.{List, [], ◌∷◌, ◌++◌, append-nil}
use native.Mathlib.Omega.{arith}
use lib.ListN.{length, get_or, take, drop}
use lib.Seq.{get_or-drop, take_at}
use lib.Dec.{eqb, ltb, leb}
use borrow.Author.Tests.{eqb-true, eq-eqb, ne_eqb, lt-ltb, le-leb, lt-leb, ltb-true, ltb-false}
use Rattle.std.specs.Prelude.{Option, Some, None}
use Rattle.formula.specs.Pick.{pick}
use Rattle.formula.specs.Codes.{Code, lit, byte_of}
use Rattle.formula.specs.NodeTable.{row_of, operands}
use Rattle.formula.specs.Tree.{node, Trees, nil, ◌▹◌, size, number_of, number_bytes, bytes_le, encode, encodes}
use Rattle.formula.specs.Reading.{of_le}
use Rattle.formula.specs.Equal.{same_bytes}
use Rattle.formula.specs.Mirror.Bytes.{byte_at}
use Rattle.formula.proofs.Places.{head_is, le_long, le_there, reaches}
use Rattle.formula.proofs.Numbers.{own_bytes_law}
use Rattle.formula.proofs.SameType.{same_test}
use Rattle.formula.proofs.SameBytes.{same_bytes_is, is_same_bytes}
use Rattle.formula.specs.Mirror.Ranges.{same_range}
use Rattle.keys.specs.Mirror.Constants.{part, constants}
use Rattle.keys.specs.Mirror.RowTests.{is_zero, is_positive, is_negative}
use Rattle.keys.specs.declared.Part.{Part}
use Rattle.keys.specs.declared.facts.Literal.{Literal}
use Rattle.keys.specs.declared.facts.Literal.TheVariants as literal
use Rattle.variations.specs.Mirror.SourceBytes.{literal_at}
use Rattle.keys.proofs.RowIs.{Bytes, ranges_are}
use Rattle.keys.proofs.Standing.{There, first_byte, row_by}

-- the literal 0, positive, negative
abbrev pub literal_kind : Bool → ℕ → Option Literal
literal_kind b w = pick b (pick (eqb w 0) (Some literal.Zero) (pick (ltb w (2 ^ 63)) (Some literal.Positive) (Some literal.Negative))) None

-- ---- words
abbrev signed? : ℕ → ℕ → Bool
signed? n w = ltb (get_or (bytes_le (suc n) w) n 0) 128

top_byte : (n w : ℕ) → w < 256 ^ suc n → signed? n w ≡ ltb w (128 * 256 ^ n)
top_byte zero w h = let e : w % 256 ≡ w = omega arith in ap (λ (m : ℕ). ltb m 128) e
top_byte (suc n) w h =
    let k : w / 256 < 256 ^ suc n = omega arith in
    top_byte n (w / 256) k ∙ same_test (ltb (w / 256) (128 * 256 ^ n)) (ltb w (128 * 256 ^ suc n))
    (λ e. let i = ltb-true (w / 256) (128 * 256 ^ n) e in lt-ltb w (128 * 256 ^ suc n) (omega arith))
    (λ e. let i = ltb-true w (128 * 256 ^ suc n) e in lt-ltb (w / 256) (128 * 256 ^ n) (omega arith))

zero_word : (w : ℕ) → w < 2 ^ 64 → same_bytes (bytes_le 8 0) (bytes_le 8 w) ≡ eqb w 0
zero_word w h =
    same_test (same_bytes (bytes_le 8 0) (bytes_le 8 w)) (eqb w 0)
    (λ e. eq-eqb w 0 (sym (le_there 8 w h) ∙ ap of_le (sym (same_bytes_is (bytes_le 8 0) (bytes_le 8 w) e)) ∙ le_there 8 0 (omega arith)))
    (λ e. is_same_bytes (bytes_le 8 0) (bytes_le 8 w) (ap (bytes_le 8) (sym (eqb-true w 0 e))))

zero_bytes : Bytes constants 0 9 (34 ∷ bytes_le 8 0)
unfolding constants
zero_bytes = record { long = refl; in_bounds = omega arith; bytes_are = refl }

-- the word w stands from p on
module _ (s : List ℕ) (p w : ℕ) (r : List ℕ) (h : w < 2 ^ 64) (d : drop p s ≡ (34 ∷ bytes_le 8 w) ++ r) where
  word_long : length (34 ∷ bytes_le 8 w) ≡ 9
  word_long = ap suc (le_long 8 w)

  word_bytes : Bytes s p (p + 9) (34 ∷ bytes_le 8 w)
  word_bytes =
      let n = word_long in
      let i = reaches s p (34 ∷ bytes_le 8 w) r d (omega arith) in
      record {
        long = omega arith;
        in_bounds = omega arith;
        bytes_are = ap (take (length (34 ∷ bytes_le 8 w))) d ∙ take_at (34 ∷ bytes_le 8 w) r (length (34 ∷ bytes_le 8 w)) refl;
      }

  zero_there : same_range constants 0 9 s p (p + 9) ≡ eqb w 0
  unfolding same_bytes
  zero_there = ranges_are constants 0 9 (34 ∷ bytes_le 8 0) zero_bytes s p (p + 9) (34 ∷ bytes_le 8 w) word_bytes ∙ zero_word w h

  sign_there : ltb (byte_at s (p + 9 - 1)) 128 ≡ ltb w (2 ^ 63)
  unfolding byte_at
  sign_there =
      let e : p + 9 - 1 ≡ p + 8 = omega arith in
      ap (λ (b : ℕ). ltb b 128) (ap (λ (n : ℕ). get_or s n 0) e ∙ sym (get_or-drop p s 8 0) ∙ ap (λ (l : List ℕ). get_or l 8 0) d) ∙ top_byte 7 w h

  word_there : literal_at s (part p (p + 9)) ≡ literal_kind true w
  unfolding literal_at
  word_there =
      let c : byte_at s p ≡ 34 = unfold byte_at in head_is s p 34 (bytes_le 8 w ++ r) d in
      rw (c, zero_there, sign_there) refl

no_operands : (xs : Trees) → size xs ≡ 0 → encodes xs ≡ []
unfolding encode
no_operands nil e = refl
no_operands (x ▹ xs) e = absurd (omega (arith, e))

-- THE LAW of literals
pub literal_is : (s : List ℕ) (a : Part) (k : Code) (xs : Trees) → There s a.at (node k xs) → a.at + length (encode (node k xs)) ≡ a.end → size xs ≡ operands (row_of k).arity (number_of k (size xs))
    → number_of k (size xs) < 2 ^ 64 → literal_at s a ≡ literal_kind (eqb (byte_of k) 34) (number_of k (size xs))
unfolding literal_at encode
literal_is s a k xs T i o h = go (eqb (byte_of k) 34) refl
  where
    w : ℕ
    w = number_of k (size xs)

    bytes : byte_of k ≡ 34 → encode (node k xs) ≡ 34 ∷ bytes_le 8 w
    bytes e =
        let R : row_of k ≡ row_of (lit 0) = row_by k (lit 0) e in
        let z : size xs ≡ 0 = rw R at o in
        let n : number_bytes k (size xs) ≡ bytes_le 8 w = own_bytes_law k (size xs) ∙ rw R refl in
        rw (e, no_operands xs z, append-nil (number_bytes k (size xs))) (ap (λ (l : List ℕ). 34 ∷ l) n)

    go : (v : Bool) → eqb (byte_of k) 34 ≡ v → literal_at s a ≡ literal_kind v w
    go true q =
        let b = bytes (eqb-true (byte_of k) 34 q) in
        let n = ap length b ∙ ap suc (le_long 8 w) in
        let d : drop a.at s ≡ (34 ∷ bytes_le 8 w) ++ T.0 = T.1 ∙ ap (λ (l : List ℕ). l ++ T.0) b in
        let e : a.at + 9 ≡ a.end = omega (arith, n, i) in
        ap (λ (e : ℕ). literal_at s (part a.at e)) (sym e) ∙ word_there s a.at w T.0 h d
    go false q = rw (first_byte s a.at k xs T) (simp q)

-- ---- what the conditions ask
pub zero_is : (b : Bool) (w : ℕ) → is_zero (literal_kind b w) ≡ (b && eqb w 0)
zero_is true w = go (eqb w 0) (ltb w (2 ^ 63))
  where
    go : (u v : Bool) → is_zero (pick u (Some literal.Zero) (pick v (Some literal.Positive) (Some literal.Negative))) ≡ u
    go true v = refl
    go false true = refl
    go false false = refl
zero_is false w = refl

pub positive_is : (b : Bool) (w : ℕ) → is_positive (literal_kind b w) ≡ (b && (ltb 0 w && ltb w (2 ^ 63)))
positive_is true zero = refl
positive_is true (suc w) = go (ltb (suc w) (2 ^ 63))
  where
    go : (v : Bool) → is_positive (pick (eqb (suc w) 0) (Some literal.Zero) (pick v (Some literal.Positive) (Some literal.Negative))) ≡ (ltb 0 (suc w) && v)
    go true = simp (ne_eqb (suc w) 0 (λ e. omega (arith, e)), lt-ltb 0 (suc w) (omega arith))
    go false = simp (ne_eqb (suc w) 0 (λ e. omega (arith, e)), lt-ltb 0 (suc w) (omega arith))
positive_is false w = refl

pub negative_is : (b : Bool) (w : ℕ) → is_negative (literal_kind b w) ≡ (b && leb (2 ^ 63) w)
negative_is true w = go (ltb w (2 ^ 63)) refl
  where
    go : (v : Bool) → ltb w (2 ^ 63) ≡ v → is_negative (pick (eqb w 0) (Some literal.Zero) (pick v (Some literal.Positive) (Some literal.Negative))) ≡ leb (2 ^ 63) w
    go true q = let i = ltb-true w (2 ^ 63) q in rw (lt-leb (2 ^ 63) w i) (low (eqb w 0))
      where
        low : (u : Bool) → is_negative (pick u (Some literal.Zero) (Some literal.Positive)) ≡ false
        low true = refl
        low false = refl
    go false q = let i = ltb-false w (2 ^ 63) q in simp (le-leb (2 ^ 63) w i, ne_eqb w 0 (λ e. omega arith))
negative_is false w = refl

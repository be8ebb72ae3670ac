-- A formula that stands somewhere in a buffer: its first byte, its operands, and its bytes as a range.
use Prim.Native.Nat.{ℕ, suc, ◌+◌, ◌-◌, ◌<◌, ◌≤◌}
use mathlib.Core.Path.{◌≡◌, refl, sym, ap, ◌∙◌}
use mathlib.Core.List.{List, [], ◌∷◌, ◌++◌}
use native.Mathlib.Omega.{arith}
use lib.ListN.{length, take, drop, length-drop}
use lib.Seq.{take_at, length-take-le}
use Rattle.formula.specs.Codes.{Code, byte_of, code_at, with_number}
use Rattle.formula.specs.NodeTable.{row_of, nothing}
use Rattle.formula.specs.Tree.{Tree, node, Trees, size, number_of, number_bytes, encode, encodes}
use Rattle.formula.specs.Formed.{Formed}
use Rattle.formula.specs.Equal.{Range}
use Rattle.formula.specs.Mirror.Bytes.{byte_at, skip_end}
use Rattle.formula.specs.declared.Sort.{Sort}
use Rattle.formula.proofs.Places.{head_is, behind, reaches, parted}
use Rattle.formula.proofs.Coded.{listed, same_row, last_number}
use Rattle.formula.proofs.Numbers.{own_bytes_law, own_number}
use Rattle.formula.proofs.Round.{reads}
use Rattle.formula.proofs.ReadStands.{read_stands}
use Rattle.formula.proofs.Stands.{Stands}
use Rattle.formula.proofs.SkipIs.{skip_is}
use Rattle.keys.proofs.RowIs.{Bytes}

-- the bytes from p on begin with those of x
abbrev pub There : List ℕ → ℕ → Tree → Type 0
There s p x = (r : List ℕ) × (drop p s ≡ encode x ++ r)

pub some_bytes : (x : Tree) → 0 < length (encode x)
unfolding encode
some_bytes (node k xs) = omega arith

module _ (s : List ℕ) (p : ℕ) where
  pub first_byte : (k : Code) (xs : Trees) → There s p (node k xs) → byte_at s p ≡ byte_of k
  unfolding encode byte_at
  first_byte k xs T = head_is s p (byte_of k) (number_bytes k (size xs) ++ encodes xs ++ T.0) T.1

  module _ (x : Tree) (T : There s p x) where
    pub there_in : p + length (encode x) ≤ length s
    there_in = reaches s p (encode x) T.0 T.1 (some_bytes x)

    pub there_bytes : Bytes s p (p + length (encode x)) (encode x)
    there_bytes = record { long = refl; in_bounds = there_in; bytes_are = ap (take (length (encode x))) T.1 ∙ take_at (encode x) T.0 (length (encode x)) refl }

    pub there_stands : (l n d : ℕ) (σ : Sort) → Formed l n d σ x → Stands s n l p x (p + length (encode x))
    there_stands l n d σ F =
        let limit = p + length (encode x) in
        read_stands s n limit l d σ p x limit (reads x l s n limit d σ p T.0 F T.1 (omega arith))

    pub there_skip : (l n d : ℕ) (σ : Sort) → Formed l n d σ x → length (encode x) ≤ 1024 → skip_end s p ≡ p + length (encode x)
    there_skip l n d σ F h = skip_is s n x l p (p + length (encode x)) (there_stands l n d σ F) (omega arith)

-- ---- ranges
module _ (s : List ℕ) (a e : ℕ) (x : Tree) (R : Range s a e x) where
  pub range_there : There s a x
  range_there = (drop (a + (e - a)) s, parted s a (e - a) ∙ rw R.bytes_are refl)

  pub range_ends : a + length (encode x) ≡ e
  range_ends =
      let f = R.from_to in
      let i = R.inside in
      let n = ap length (sym R.bytes_are) ∙ length-take-le (e - a) (drop a s) (rw length-drop (omega arith)) in omega arith

  pub range_bytes : Bytes s a e (encode x)
  range_bytes = record { long = range_ends; in_bounds = R.inside; bytes_are = ap (take (length (encode x))) range_there.1 ∙ take_at (encode x) range_there.0 (length (encode x)) refl }

-- ---- codes by their bytes
code_by : (k j : Code) → byte_of k ≡ byte_of j → with_number k 0 ≡ with_number j 0
code_by k j e = let i = sym (listed k) ∙ ap code_at e ∙ listed j in cc

pub code_is : (k j : Code) (n : ℕ) → byte_of k ≡ byte_of j → k ≡ with_number j (number_of k n)
code_is k j n e =
    let w = number_of k n in
    sym (own_number k n) ∙ sym (last_number w k 0) ∙ ap (λ (c : Code). with_number c w) (code_by k j e) ∙ last_number w j 0

pub row_by : (k j : Code) → byte_of k ≡ byte_of j → row_of k ≡ row_of j
row_by k j e = sym (same_row 0 k) ∙ ap row_of (code_by k j e) ∙ same_row 0 j

-- ---- operands of a node that carries no number
module _ (k : Code) (xs : Trees) (plain : (row_of k).number ≡ nothing) where
  no_number : number_bytes k (size xs) ≡ []
  no_number = own_bytes_law k (size xs) ∙ rw plain refl

  pub plain_long : length (encode (node k xs)) ≡ suc (length (encodes xs))
  unfolding encode
  plain_long = rw no_number refl

  pub operands_there : (s : List ℕ) (p : ℕ) (T : There s p (node k xs)) → drop (p + 1) s ≡ encodes xs ++ T.0
  unfolding encode
  operands_there s p T = behind s p (byte_of k ∷ []) (encodes xs ++ T.0) (T.1 ∙ rw no_number refl)

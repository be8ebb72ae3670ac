-- A formula's bytes are read as that formula.
use Prim.Native.Nat.{ℕ, zero, suc, ◌+◌, ◌<◌, ◌≤◌}
use mathlib.Core.Path.{◌≡◌, refl, sym, ap, ◌∙◌}
use mathlib.Core.List.{List, [], ◌∷◌, ◌++◌, append_assoc}
use native.Mathlib.Numerals.{sub-one}
use native.Mathlib.Nat.{add-zero}
use native.Mathlib.Omega.{arith}
use lib.ListN.{length, drop, length-append}
use borrow.Author.Tests.{lt-leb, le-ltb, ne_eqb}
use Rattle.formula.specs.Codes.{Code, byte_of, with_number}
use Rattle.formula.specs.NodeTable.{row_of, own_length, sort_of_kinds, sort_of_rest}
use Rattle.formula.specs.Tree.{Tree, node, Trees, nil, ◌▹◌, size, number_of, number_bytes, encode, encodes}
use Rattle.formula.specs.Formed.{Allowed, inner, Formed, AllFormed}
use Rattle.formula.specs.Reading.{Parsed, got, number_at, node_at, operands_by, node_by, formula_at}
use Rattle.formula.specs.declared.Sort.{Sort}
use Rattle.formula.proofs.FaultLaws.{sound}
use Rattle.formula.proofs.Places.{head_is, behind, reaches}
use Rattle.formula.proofs.Coded.{listed, same_row, last_number}
use Rattle.formula.proofs.Numbers.{carried, number_there, own_bytes_law, own_long, own_number, given_number}

-- ---- the own bytes of a node
module _ (s : List ℕ) (t limit l d : ℕ) (σ : Sort) (at : ℕ) (k : Code) (n : ℕ) (r : List ℕ)
    (A : Allowed t d σ k n) (e : drop at s ≡ byte_of k ∷ (number_bytes k n ++ r)) where
  number_found : number_at (row_of k).number s (at + 1) ≡ number_of k n
  number_found =
      let f = (row_of k).number in
      let w = number_of k n in
      let c : carried f w ≡ w =
      sym (given_number k w) ∙ ap (number_of (with_number k w)) (sym A.operands_are) ∙ ap (λ (j : Code). number_of j n) (own_number k n) in
      number_there s (at + 1) f w r A.word_in (behind s at (byte_of k ∷ []) _ e ∙ rw own_bytes_law refl) ∙ c

  node_found : 0 < l → at + own_length k ≤ limit → node_at s t limit l d σ at ≡ got k n
  unfolding node_at
  node_found p q =
      let g = reaches s at (byte_of k ∷ number_bytes k n) r e (omega arith) in
      let y = own_long k n in
      let a : at < length s = omega arith in
      let b : at + own_length k ≤ length s = omega arith in
      let f : (l ≡ 0 → ⊥) = λ z. omega arith in
      simp (
        lt-leb _ _ a,
        head_is s at _ _ e,
        listed k,
        same_row 0 k,
        le-ltb _ _ b,
        number_found,
        (sound t d σ k n A.faultless).same_sort_law,
        (sound t d σ k n A.faultless).in_range,
        ne_eqb _ _ f,
        le-ltb _ _ q,
        last_number (number_of k n) k 0,
        own_number k n,
        ← A.operands_are,
      )

-- ---- the whole formula
node_by_law : (f : ℕ → Sort → ℕ → Parsed Tree) (d at : ℕ) (h : Parsed Code) (k : Code) (n : ℕ) (xs : Trees) (q : ℕ) → h ≡ got k n
    → operands_by (f (inner d k n)) n (sort_of_kinds (row_of k).first) (sort_of_rest (row_of k).rest) (at + own_length k) ≡ got xs q
    → node_by f d at h ≡ got (node k xs) q
unfolding node_by
node_by_law f d at h k n xs q e i = rw e (rw i)

mutual
  unfolding encode Formed formula_at operands_by

  pub reads : (x : Tree) (l : ℕ) (s : List ℕ) (t limit d : ℕ) (σ : Sort) (at : ℕ) (r : List ℕ)
      → Formed l t d σ x → drop at s ≡ encode x ++ r → at + length (encode x) ≤ limit
      → formula_at s t limit l d σ at ≡ got x (at + length (encode x))
  reads (node k xs) zero s t limit d σ at r F e q = absurd (omega (arith, F.0))
  reads (node k xs) (suc l) s t limit d σ at r F e q =
      let n = size xs in
      let own = byte_of k ∷ number_bytes k n in
      let e' : drop at s ≡ own ++ (encodes xs ++ r) = e ∙ ap (λ (m : List ℕ). byte_of k ∷ m) (append_assoc (number_bytes k n) (encodes xs) r) in
      let y = own_long k n in
      let z = length-append (number_bytes k n) (encodes xs) in
      let h = node_found s t limit (suc l) d σ at k n (encodes xs ++ r) F.1 e' (omega arith) (omega arith) in
      let j : at + length own ≡ at + own_length k = omega arith in
      let b : drop (at + own_length k) s ≡ encodes xs ++ r = rw j at (behind s at own (encodes xs ++ r) e') in
      let G : AllFormed l t (inner d k n) (sort_of_kinds (row_of k).first) (sort_of_rest (row_of k).rest) xs = rw (sub-one (suc l)) at F.2 in
      let i = reads_all xs l s t limit (inner d k n) _ _ (at + own_length k) r G b (omega arith) in
      node_by_law (formula_at s t limit l) d at _ k n xs _ h i ∙ ap (got (node k xs)) (omega arith)

  pub reads_all : (xs : Trees) (l : ℕ) (s : List ℕ) (t limit d : ℕ) (σ ρ : Sort) (at : ℕ) (r : List ℕ)
      → AllFormed l t d σ ρ xs → drop at s ≡ encodes xs ++ r → at + length (encodes xs) ≤ limit
      → operands_by (formula_at s t limit l d) (size xs) σ ρ at ≡ got xs (at + length (encodes xs))
  reads_all nil l s t limit d σ ρ at r F e q = ap (got nil) (sym (add-zero at))
  reads_all (x ▹ xs) l s t limit d σ ρ at r F e q =
      let e' : drop at s ≡ encode x ++ (encodes xs ++ r) = e ∙ append_assoc (encode x) (encodes xs) r in
      let z = length-append (encode x) (encodes xs) in
      let i = reads x l s t limit d σ at (encodes xs ++ r) F.0 e' (omega arith) in
      let j = reads_all xs l s t limit d ρ ρ (at + length (encode x)) r F.1 (behind s at (encode x) (encodes xs ++ r) e') (omega arith) in
      simp (i, j) (ap (got (x ▹ xs)) (omega arith))

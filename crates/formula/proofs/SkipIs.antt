-- Skipping a formula that stands somewhere ends where it ends.
use Prim.Native.Nat.{ℕ, zero, suc, ◌+◌, ◌-◌, ◌<◌, ◌≤◌}
use mathlib.Core.Path.{◌≡◌, refl, ap, ◌∙◌}
use mathlib.Core.List.{List}
use native.Mathlib.Omega.{arith}
use lib.ListN.{length}
use borrow.Author.Tests.{lt-leb, ne_eqb}
use Rattle.formula.specs.Codes.{Code}
use Rattle.formula.specs.NodeTable.{own_length}
use Rattle.formula.specs.Tree.{Tree, node, Trees, nil, ◌▹◌, size}
use Rattle.formula.specs.Mirror.PackedTable.{row_at, own, count_of}
use Rattle.formula.specs.Mirror.Bytes.{byte_at, own_byte, skip_from, skip_end}
use Rattle.formula.proofs.Stands.{NodeAt, Stands, StandAll}
use Rattle.formula.proofs.OwnIs.{columns_there, count_there}

-- ---- a formula has at least as many bytes as nodes, and they are there
unfoldable mutual
  pub nodes : Tree → ℕ
  nodes (node k xs) = suc (nodes_in xs)

  pub nodes_in : Trees → ℕ
  nodes_in nil = 0
  nodes_in (x ▹ xs) = nodes x + nodes_in xs

module _ (s : List ℕ) (t : ℕ) where
  mutual
    unfolding nodes Stands

    pub nodes_fit : (x : Tree) (l p q : ℕ) → Stands s t l p x q → p + nodes x ≤ q
    nodes_fit (node k xs) l p q S = let h = nodes_fit_in xs (l - 1) (p + own_length k) q S.2 in omega (arith, h)

    nodes_fit_in : (xs : Trees) (l p q : ℕ) → StandAll s t l p xs q → p + nodes_in xs ≤ q
    nodes_fit_in nil l p q S = omega (arith, S)
    nodes_fit_in (x ▹ xs) l p q S =
        let h = nodes_fit x l p S.0 S.1 in
        let k = nodes_fit_in xs l S.0 q S.2 in
        omega (arith, h, k)

  mutual
    unfolding Stands

    pub stands_in : (x : Tree) (l p q : ℕ) → Stands s t l p x q → q ≤ length s
    stands_in (node k xs) l p q S = stand_in xs (l - 1) (p + own_length k) q S.2 S.1.inside

    stand_in : (xs : Trees) (l p q : ℕ) → StandAll s t l p xs q → p ≤ length s → q ≤ length s
    stand_in nil l p q S h = omega (arith, S, h)
    stand_in (x ▹ xs) l p q S h = stand_in xs l S.0 q S.2 (stands_in x l p S.0 S.1)

  pub stands_grows : (x : Tree) (l p q : ℕ) → Stands s t l p x q → p < q
  unfolding nodes
  stands_grows (node k xs) l p q S = let h = nodes_fit (node k xs) l p q S in omega (arith, h)

  -- ---- one node's own bytes are passed, and its operands are left to do
  skip_own : (p : ℕ) (k : Code) (n : ℕ) → NodeAt s t p k n → (fuel left : ℕ) → skip_from (suc fuel) s (suc left) p ≡ skip_from fuel s (n + left) (p + own_length k)
  unfolding skip_from
  skip_own p k n N fuel left =
      let i = N.inside in
      let w = (columns_there N).own_is in
      let c = count_there N in
      let a : p < length s = omega (arith, i) in
      let b : own (row_at (byte_at s p)) < length s - p = omega (arith, i, w) in
      let j : suc left - 1 + count_of (row_at (byte_at s p)) (own_byte (row_at (byte_at s p)) s (p + 1)) ≡ n + left = omega (arith, c) in
      let z : p + own (row_at (byte_at s p)) + 1 ≡ p + own_length k = omega (arith, w) in
      simp (ne_eqb (suc left) 0 (λ e. omega (arith, e)), lt-leb (length s) p a, lt-leb _ _ b) (rw (j, z))

  mutual
    unfolding nodes Stands

    skip_node : (x : Tree) (l p q fuel left : ℕ) → Stands s t l p x q → skip_from (nodes x + fuel) s (suc left) p ≡ skip_from fuel s left q
    skip_node (node k xs) l p q fuel left S =
        let i : suc (nodes_in xs) + fuel ≡ suc (nodes_in xs + fuel) = omega arith in
        rw i (skip_own p k (size xs) S.1 (nodes_in xs + fuel) left) ∙ skip_nodes xs (l - 1) (p + own_length k) q fuel left S.2

    skip_nodes : (xs : Trees) (l p q fuel left : ℕ) → StandAll s t l p xs q → skip_from (nodes_in xs + fuel) s (size xs + left) p ≡ skip_from fuel s left q
    skip_nodes nil l p q fuel left S =
        let i : 0 + fuel ≡ fuel = omega arith in
        let j : 0 + left ≡ left = omega arith in
        rw (i, j, S)
    skip_nodes (x ▹ xs) l p q fuel left S =
        let i : nodes x + nodes_in xs + fuel ≡ nodes x + (nodes_in xs + fuel) = omega arith in
        let j : suc (size xs) + left ≡ suc (size xs + left) = omega arith in
        rw (i, j) (skip_node x l p S.0 (nodes_in xs + fuel) (size xs + left) S.1) ∙ skip_nodes xs l S.0 q fuel left S.2

  none_left : (fuel p : ℕ) → skip_from fuel s 0 p ≡ p
  unfolding skip_from
  none_left zero p = refl
  none_left (suc fuel) p = refl

  -- THE LAW of skipping: each step passes a node, so 1024 steps are enough for 1024 bytes
  pub skip_is : (x : Tree) (l p q : ℕ) → Stands s t l p x q → q ≤ p + 1024 → skip_end s p ≡ q
  unfolding skip_end
  skip_is x l p q S h =
      let n = nodes_fit x l p q S in
      let i : 1024 ≡ nodes x + (1024 - nodes x) = omega (arith, n, h) in
      ap (λ (f : ℕ). skip_from f s 1 p) i ∙ skip_node x l p q (1024 - nodes x) 0 S ∙ none_left (1024 - nodes x) q

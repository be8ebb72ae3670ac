-- A formed tree in two parts: what reading itself tests, and that each number fits into a word; and that more levels do no harm.
use Prim.Native.Nat.{ℕ, ◌-◌, ◌<◌, ◌≤◌, ◌^◌}
use mathlib.Core.Path.{◌≡◌}
use mathlib.Core.Option.{none}
use native.Mathlib.Omega.{arith}
use Rattle.formula.specs.Codes.{Code}
use Rattle.formula.specs.NodeTable.{row_of, operands, sort_of_kinds, sort_of_rest}
use Rattle.formula.specs.Tree.{Tree, node, Trees, nil, ◌▹◌, size, number_of}
use Rattle.formula.specs.Formed.{fault_in, inner, Formed, AllFormed}
use Rattle.formula.specs.declared.Sort.{Sort}

-- `Allowed` without `word_in`
pub record Tested (t d : ℕ) (σ : Sort) (k : Code) (n : ℕ) : Type 0 where
  pub faultless : fault_in t d σ k n ≡ none
  pub operands_are : n ≡ operands (row_of k).arity (number_of k n)

-- `Formed` without `word_in`, ..
unfoldable mutual
  pub Shaped : ℕ → ℕ → ℕ → Sort → Tree → Type 0
  Shaped l t d σ (node k xs) =
      (0 < l) × Tested t d σ k (size xs) × AllShaped (l - 1) t (inner d k (size xs)) (sort_of_kinds (row_of k).first) (sort_of_rest (row_of k).rest) xs

  pub AllShaped : ℕ → ℕ → ℕ → Sort → Sort → Trees → Type 0
  AllShaped l t d σ ρ nil = Unit {0}
  AllShaped l t d σ ρ (x ▹ xs) = Shaped l t d σ x × AllShaped l t d ρ ρ xs

-- .. and `word_in` of each node
unfoldable mutual
  pub WordsIn : Tree → Type 0
  WordsIn (node k xs) = (number_of k (size xs) < 2 ^ 64) × AllWordsIn xs

  pub AllWordsIn : Trees → Type 0
  AllWordsIn nil = Unit {0}
  AllWordsIn (x ▹ xs) = WordsIn x × AllWordsIn xs

mutual
  unfolding Shaped WordsIn Formed

  pub formed : (x : Tree) (l t d : ℕ) (σ : Sort) → Shaped l t d σ x → WordsIn x → Formed l t d σ x
  formed (node k xs) l t d σ S w =
      let T = S.1 in
      (S.0, record { faultless = T.faultless; word_in = w.0; operands_are = T.operands_are }, all_formed xs (l - 1) t _ _ _ S.2 w.1)

  pub all_formed : (xs : Trees) (l t d : ℕ) (σ ρ : Sort) → AllShaped l t d σ ρ xs → AllWordsIn xs → AllFormed l t d σ ρ xs
  all_formed nil l t d σ ρ S w = tt
  all_formed (x ▹ xs) l t d σ ρ S w = (formed x l t d σ S.0 w.0, all_formed xs l t d ρ ρ S.1 w.1)

mutual
  unfolding Formed

  -- of at most l levels, so of at most m
  pub deeper : (x : Tree) (l m t d : ℕ) (σ : Sort) → l ≤ m → Formed l t d σ x → Formed m t d σ x
  deeper (node k xs) l m t d σ h F = (omega (arith, F.0), F.1, all_deeper xs (l - 1) (m - 1) t _ _ _ (omega arith) F.2)

  pub all_deeper : (xs : Trees) (l m t d : ℕ) (σ ρ : Sort) → l ≤ m → AllFormed l t d σ ρ xs → AllFormed m t d σ ρ xs
  all_deeper nil l m t d σ ρ h F = tt
  all_deeper (x ▹ xs) l m t d σ ρ h F = (deeper x l m t d σ h F.0, all_deeper xs l m t d ρ ρ h F.1)

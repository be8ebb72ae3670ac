-- THE THEOREMS: which bytes are accepted as a formula, and that the formula is one.
use Rattle.std.specs.Prelude.{Ok}
use Prim.Native.Nat.{ℕ, ◌+◌, ◌≤◌}
use mathlib.Core.Path.{◌≡◌, refl, sym, ap, ◌∙◌, subst}
use mathlib.Core.Option.{Option, some, none}
use mathlib.Core.List.{List, ◌++◌}
use native.Mathlib.Omega.{arith}
use lib.ListN.{length, drop, length-map}
use Rattle.formula.specs.Types.{type_of_byte, types_of}
use Rattle.formula.specs.Tree.{Tree, encode}
use Rattle.formula.specs.Formed.{Formed}
use Rattle.formula.specs.Typing.{first_wrong}
use Rattle.formula.specs.Reading.{Parsed, got, not_got, formula_at}
use Rattle.formula.specs.Formula.{typed?, asked8, tree_at, end_or_refusal, read_formula, Formula}
use Rattle.formula.specs.declared.Sort.{Sort}
use Rattle.formula.proofs.Places.{AllBytes}
use Rattle.formula.proofs.Round.{reads}
use Rattle.formula.proofs.Back.{read_ends, read_is}
use Rattle.formula.proofs.OneFormula.{one_formula, encode_one}
use Rattle.formula.proofs.Typed.{right_typed, typed_right}

read_inv : (x : Tree) (o : Option ℕ) (q : ℕ) (y : Tree) (n : ℕ) → typed? x q o ≡ got y n → (o ≡ none) × (x ≡ y) × (q ≡ n)
read_inv x none q y n e = (refl, cc, cc)
read_inv x (some p) q y n e = absurd (let z : ◌≡◌ {A = ℕ} 0 1 = cc in omega (arith, z))

module _ (s types : List ℕ) (σ : Sort) (start : ℕ) where
  -- the bytes of a formula are read as that formula, whatever follows, ..
  pub reads_tree : (x : Tree) (r : List ℕ) → Formula types σ x → drop start s ≡ encode x ++ r → tree_at s types σ start ≡ got x (start + length (encode x))
  unfolding tree_at
  reads_tree x r F e =
      let h = F.short in
      rw (reads x 32 s (length types) (start + 1024) 0 σ start r F.formed e (omega arith), (typed_right x (types_of types) 0 start F.type F.typed).0) refl

  -- .. and what is read is a formula, whose bytes stand there
  pub tree_is : AllBytes s → (x : Tree) (n : ℕ) → tree_at s types σ start ≡ got x n → Formula types σ x × (drop start s ≡ encode x ++ drop n s) × (n ≡ start + length (encode x)) × (n ≤ length s)
  unfolding tree_at
  tree_is B y n e = go (formula_at s (length types) (start + 1024) 32 0 σ start) refl e
    where
      Is : Tree → Type 0
      Is x = Formula types σ x × (drop start s ≡ encode x ++ drop n s) × (n ≡ start + length (encode x)) × (n ≤ length s)

      go : (z : Parsed Tree) → formula_at s (length types) (start + 1024) 32 0 σ start ≡ z → asked8 (types_of types) start z ≡ got y n → Is y
      go (not_got c p) q e = absurd (let z : ◌≡◌ {A = ℕ} 0 1 = cc in omega (arith, z))
      go (got x m) q e =
          let i = read_inv x (first_wrong (types_of types) start x) m y n e in
          let R = read_is s (length types) (start + 1024) 32 0 σ start x m q B in
          let E = read_ends s (length types) (start + 1024) 32 0 σ start x m q in
          let E₀ = E.0 in
          let E₁ = E.1 in
          let E₂ = E.2 in
          let T = right_typed x 32 (types_of types) 0 σ start (subst (λ (t : ℕ). Formed 32 t 0 σ x) (sym (length-map types type_of_byte)) R.0) i.0 in
          subst Is i.1 (record { formed = R.0; short = omega arith; type = T.0; typed = T.1 }, R.1 ∙ ap (λ (v : ℕ). encode x ++ drop v s) i.2, sym i.2 ∙ E₀, let w = i.2 in omega arith)

  -- ACCEPTED are the bytes of a formula, ..
  pub accepts : (x : Tree) (r : List ℕ) → Formula types σ x → drop start s ≡ encode x ++ r → read_formula s types σ start ≡ Ok (start + length (encode x))
  unfolding read_formula
  accepts x r F e = ap end_or_refusal (reads_tree x r F e)

  -- .. and nothing else
  pub accepted : AllBytes s → (n : ℕ) → read_formula s types σ start ≡ Ok n → (x : Tree) × Formula types σ x × (drop start s ≡ encode x ++ drop n s) × (n ≡ start + length (encode x))
  unfolding read_formula
  accepted B n e = go (tree_at s types σ start) refl e
    where
      go : (z : Parsed Tree) → tree_at s types σ start ≡ z → end_or_refusal z ≡ Ok n → (x : Tree) × Formula types σ x × (drop start s ≡ encode x ++ drop n s) × (n ≡ start + length (encode x))
      go (not_got c p) q e = absurd (let z : ◌≡◌ {A = ℕ} 0 1 = cc in omega (arith, z))
      go (got x m) q e =
          let m≡ : m ≡ n = cc in
          let I = tree_is B x n (q ∙ ap (got x) m≡) in
          (x, I.0, I.1, I.2)

module _ (types : List ℕ) (σ : Sort) (x y : Tree) (F : Formula types σ x) (G : Formula types σ y) where
  -- bytes that begin with two formulas begin with one, ..
  pub unique : (r r' : List ℕ) → encode x ++ r ≡ encode y ++ r' → (x ≡ y) × (r ≡ r')
  unique = one_formula (length types) 0 σ 32 32 x y F.formed G.formed

  -- .. so equal bytes are equal formulas
  pub same_tree : encode x ≡ encode y → x ≡ y
  same_tree = encode_one (length types) 0 σ 32 32 x y F.formed G.formed

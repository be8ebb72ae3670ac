-- What is read is a formula, and its bytes stand there.
use Prim.Native.Nat.{ℕ, zero, suc, ◌+◌, ◌<◌, ◌≤◌}
use mathlib.Core.Path.{◌≡◌, refl, sym, ap, ◌∙◌, subst}
use mathlib.Core.Bool.{Bool, true, false}
use mathlib.Core.Option.{Option, some, none}
use mathlib.Core.List.{List, ◌∷◌, ◌++◌, append_assoc}
use native.Mathlib.Numerals.{sub-one}
use native.Mathlib.Omega.{arith}
use lib.ListN.{length, get_or, drop, length-append}
use lib.Dec.{ltb, leb, eqb}
use borrow.Author.Tests.{ltb-false, eqb-false}
use Rattle.formula.specs.Pick.{pick}
use Rattle.formula.specs.Codes.{Code, byte_of, code_at, with_number}
use Rattle.formula.specs.NodeTable.{row_of, width, own_length, operands, sort_of_kinds, sort_of_rest}
use Rattle.formula.specs.Tree.{Tree, node, Trees, ◌▹◌, size, number_of, number_bytes, encode, encodes}
use Rattle.formula.specs.Formed.{inner, Formed, AllFormed}
use Rattle.formula.specs.Reading.{Parsed, got, not_got, on_fault, on_got, number_at, own_bytes, node_at, operands_by, node_by, formula_at}
use Rattle.refusal.specs.declared.Cause.{Cause}
use Rattle.formula.specs.declared.Sort.{Sort}
use Rattle.formula.specs.NodeFault.{Fault, other_sort, number_out, node_fault}
use Rattle.formula.proofs.FaultLaws.{no_fault}
use Rattle.formula.proofs.Places.{AllBytes, one_more}
use Rattle.formula.proofs.Coded.{byte_is, same_byte, same_row}
use Rattle.formula.proofs.Numbers.{carried_at, number_back, number_small, own_bytes_law, own_long, given_number}
use Rattle.formula.proofs.Shaped.{Tested, Shaped, AllShaped, WordsIn, AllWordsIn, formed, all_formed}

-- ---- P holds of what is got, if anything is; a rule for each step of reading, of a formula and of a file
abbrev pub OfGot : {A : Type 0} → (A → ℕ → Type 0) → Parsed A → Type 0
OfGot P (got a p) = P a p
OfGot P (not_got c p) = Unit {0}

pub on_got_law : {A B : Type 0} (P : A → ℕ → Type 0) (Q : B → ℕ → Type 0) (z : Parsed A) (f : A → ℕ → Parsed B)
    → OfGot P z → ((a : A) (p : ℕ) → P a p → OfGot Q (f a p)) → OfGot Q (on_got z f)
on_got_law P Q (got a p) f h k = k a p h
on_got_law P Q (not_got c p) f h k = tt

pub unless : {A : Type 0} (P : A → ℕ → Type 0) (b : Bool) (c : Cause) (p : ℕ) (z : Parsed A) → (b ≡ false → OfGot P z) → OfGot P (pick b (not_got c p) z)
unless P true c p z h = tt
unless P false c p z h = h refl

on_fault_law : {A : Type 0} (P : A → ℕ → Type 0) (at : ℕ) (f : Option Fault) (z : Parsed A) → (f ≡ none → OfGot P z) → OfGot P (on_fault at f z)
on_fault_law P at none z h = h refl
on_fault_law P at (some f) z h = tt

module _ (s : List ℕ) (t limit : ℕ) where
  -- ---- the own bytes of a node
  pub record OwnRead (l d : ℕ) (σ : Sort) (at : ℕ) (k : Code) (n : ℕ) : Type 0 where
    pub tested : Tested t d σ k n
    pub level_left : 0 < l
    pub in_limit : at + own_length k ≤ limit
    pub in_bytes : at + own_length k ≤ length s
    pub number_was : number_of k n ≡ number_at (row_of k).number s (at + 1)
    pub byte_was : byte_of k ≡ get_or s at 0

  own_read : (l d : ℕ) (σ : Sort) (at : ℕ) (o : Option Code) → code_at (get_or s at 0) ≡ o → OfGot (OwnRead l d σ at) (own_bytes s t limit l d σ at o)
  own_read l d σ at none e = tt
  own_read l d σ at (some k) e =
      on_fault_law P at (node_fault (ltb (length s) (at + own_length k)) (other_sort σ k) (number_out (row_of k).number w t d) (eqb l 0) (ltb limit (at + own_length k)) (row_of k).number)
      (got (with_number k w) (operands (row_of k).arity w)) λ e₁.
      let F = no_fault (ltb (length s) (at + own_length k)) (other_sort σ k) (number_out (row_of k).number w t d) (eqb l 0) (ltb limit (at + own_length k)) (row_of k).number e₁ in
      let i = ltb-false _ _ F.not_cut in
      let r = ltb-false _ _ F.not_long in
      let v : l ≡ 0 → ⊥ = eqb-false l 0 F.not_deep in
      record {
        tested = record { faultless = rw (R, N, F.same_sort_law, F.in_range) refl; operands_are = rw (R, N) refl };
        level_left = omega arith;
        in_limit = rw R r;
        in_bytes = rw R i;
        number_was = rw R N;
        byte_was = same_byte w k ∙ byte_is _ k e;
      }
    where
      w : ℕ
      w = number_at (row_of k).number s (at + 1)

      P : Code → ℕ → Type 0
      P = OwnRead l d σ at

      R : row_of (with_number k w) ≡ row_of k
      R = same_row w k

      N : number_of (with_number k w) (operands (row_of k).arity w) ≡ w
      N = given_number k w ∙ carried_at s (at + 1) (row_of k).number

  pub node_read : (l d : ℕ) (σ : Sort) (at : ℕ) → OfGot (OwnRead l d σ at) (node_at s t limit l d σ at)
  unfolding node_at
  node_read l d σ at = unless (OwnRead l d σ at) (leb (length s) at) _ _ (own_bytes s t limit l d σ at (code_at (get_or s at 0))) λ h. own_read l d σ at _ refl

  -- of bytes, those of the node stand there
  own_back : (l d : ℕ) (σ : Sort) (at : ℕ) (k : Code) (n : ℕ) → AllBytes s → OwnRead l d σ at k n → drop at s ≡ (byte_of k ∷ number_bytes k n) ++ drop (at + own_length k) s
  own_back l d σ at k n B O =
      let i = O.in_bytes in
      let j : at + 1 + width (row_of k).number ≡ at + own_length k = omega arith in
      let b : drop (at + 1) s ≡ number_bytes k n ++ drop (at + own_length k) s = rw (own_bytes_law k n, O.number_was, ← j) (number_back s (at + 1) B (row_of k).number (omega arith)) in
      one_more s at (omega arith) ∙ rw (O.byte_was, b)

  -- ---- a formula, and operands one after the other
  pub record IsFormula (l d : ℕ) (σ : Sort) (at : ℕ) (x : Tree) (q : ℕ) : Type 0 where
    pub shaped : Shaped l t d σ x
    pub ends : q ≡ at + length (encode x)
    pub in_limit : q ≤ limit
    pub in_bytes : q ≤ length s
    pub words_in : AllBytes s → WordsIn x
    pub stands : AllBytes s → drop at s ≡ encode x ++ drop q s

  pub record AreFormulas (l d : ℕ) (σ ρ : Sort) (at n : ℕ) (xs : Trees) (q : ℕ) : Type 0 where
    pub so_many : size xs ≡ n
    pub shaped : AllShaped l t d σ ρ xs
    pub ends : q ≡ at + length (encodes xs)
    pub in_limit : at ≤ limit → q ≤ limit
    pub in_bytes : at ≤ length s → q ≤ length s
    pub words_in : AllBytes s → AllWordsIn xs
    pub stand : AllBytes s → drop at s ≡ encodes xs ++ drop q s

  module _ (l d : ℕ) (below : (σ : Sort) (at : ℕ) → OfGot (IsFormula l d σ at) (formula_at s t limit l d σ at)) where
    one_and_more : (n : ℕ) (σ ρ : Sort) (at : ℕ) (x : Tree) (p : ℕ) (xs : Trees) (q : ℕ) → IsFormula l d σ at x p → AreFormulas l d ρ ρ p n xs q → AreFormulas l d σ ρ at (suc n) (x ▹ xs) q
    unfolding encode Shaped WordsIn
    one_and_more n σ ρ at x p xs q X Y = record {
      so_many = ap suc Y.so_many;
      shaped = (X.shaped, Y.shaped);
      ends = omega (arith, X.ends, Y.ends, length-append (encode x) (encodes xs));
      in_limit = λ h. Y.in_limit X.in_limit;
      in_bytes = λ h. Y.in_bytes X.in_bytes;
      words_in = λ B. (X.words_in B, Y.words_in B);
      stand = λ B. X.stands B ∙ ap (λ (m : List ℕ). encode x ++ m) (Y.stand B) ∙ sym (append_assoc (encode x) (encodes xs) (drop q s));
    }

    operands_read : (n : ℕ) (σ ρ : Sort) (at : ℕ) → OfGot (AreFormulas l d σ ρ at n) (operands_by (formula_at s t limit l d) n σ ρ at)
    unfolding operands_by encode Shaped WordsIn
    operands_read zero σ ρ at = record { so_many = refl; shaped = tt; ends = omega arith; in_limit = λ h. h; in_bytes = λ h. h; words_in = λ B. tt; stand = λ B. refl }
    operands_read (suc n) σ ρ at =
        on_got_law (IsFormula l d σ at) (AreFormulas l d σ ρ at (suc n)) (formula_at s t limit l d σ at) _ (below σ at) λ x p X.
        on_got_law (AreFormulas l d ρ ρ p n) (AreFormulas l d σ ρ at (suc n)) (operands_by (formula_at s t limit l d) n ρ ρ p) _ (operands_read n ρ ρ p) λ xs q Y.
        one_and_more n σ ρ at x p xs q X Y

  -- ---- a node over its operands
  module _ (l d : ℕ) (σ : Sort) (at : ℕ) (k : Code) (xs : Trees) (q : ℕ) where
    abbrev Below : ℕ → Type 0
    Below n = AreFormulas l (inner d k n) (sort_of_kinds (row_of k).first) (sort_of_rest (row_of k).rest) (at + own_length k) n xs q

    node_over : OwnRead (suc l) d σ at k (size xs) → Below (size xs) → IsFormula (suc l) d σ at (node k xs) q
    unfolding encode Shaped WordsIn
    node_over O Y =
        let n = size xs in
        let y = own_long k n in
        let z = length-append (number_bytes k n) (encodes xs) in
        let f = (row_of k).number in
        record {
          shaped = (O.level_left, O.tested, rw (sub-one (suc l)) Y.shaped);
          ends = omega (arith, Y.ends);
          in_limit = Y.in_limit O.in_limit;
          in_bytes = Y.in_bytes O.in_bytes;
          words_in = λ B. (rw O.number_was (number_small s (at + 1) B f), Y.words_in B);
          stands = λ B. own_back (suc l) d σ at k n B O ∙ ap (λ (m : List ℕ). byte_of k ∷ m) (rw (Y.stand B, append_assoc));
        }

    -- as many operands as were asked for
    node_with : (n : ℕ) → OwnRead (suc l) d σ at k n → Below n → IsFormula (suc l) d σ at (node k xs) q
    node_with n O Y = subst (λ (m : ℕ). OwnRead (suc l) d σ at k m → Below m → IsFormula (suc l) d σ at (node k xs) q) Y.so_many node_over O Y

  pub no_level : {A : Type 0} (d : ℕ) (σ : Sort) (at : ℕ) (k : Code) (n : ℕ) → OwnRead 0 d σ at k n → A
  no_level d σ at k n O = absurd (omega (arith, O.level_left))

  formula_read : (l d : ℕ) (σ : Sort) (at : ℕ) → OfGot (IsFormula l d σ at) (formula_at s t limit l d σ at)
  unfolding formula_at node_by
  formula_read zero d σ at = on_got_law (OwnRead 0 d σ at) (IsFormula 0 d σ at) (node_at s t limit 0 d σ at) _ (node_read 0 d σ at) λ k n O. no_level d σ at k n O
  formula_read (suc l) d σ at =
      on_got_law (OwnRead (suc l) d σ at) (IsFormula (suc l) d σ at) (node_at s t limit (suc l) d σ at) _ (node_read (suc l) d σ at) λ k n O.
      let σ₁ = sort_of_kinds (row_of k).first in
      let ρ = sort_of_rest (row_of k).rest in
      let i = at + own_length k in
      let d₁ = inner d k n in
      on_got_law (AreFormulas l d₁ σ₁ ρ i n) (IsFormula (suc l) d σ at) (operands_by (formula_at s t limit l d₁) n σ₁ ρ i) _ (operands_read l d₁ (formula_read l d₁) n σ₁ ρ i) λ xs q Y.
      node_with l d σ at k xs q n O Y

  -- ---- THE THEOREMS
  module _ (l d : ℕ) (σ : Sort) (at : ℕ) (x : Tree) (q : ℕ) (e : formula_at s t limit l d σ at ≡ got x q) where
    pub read_formula : IsFormula l d σ at x q
    read_formula = subst (OfGot (IsFormula l d σ at)) e (formula_read l d σ at)

    -- where it ends, of any numbers
    pub read_ends : (q ≡ at + length (encode x)) × (q ≤ limit) × (q ≤ length s)
    read_ends = (read_formula.ends, read_formula.in_limit, read_formula.in_bytes)

    -- formed, but for the size of the numbers inside
    pub read_formed : Shaped l t d σ x
    read_formed = read_formula.shaped

    -- of bytes: formed, and its bytes stand there
    pub read_is : AllBytes s → Formed l t d σ x × (drop at s ≡ encode x ++ drop q s)
    read_is B = (formed x l t d σ read_formula.shaped (read_formula.words_in B), read_formula.stands B)

  module _ (l d n : ℕ) (σ ρ : Sort) (at : ℕ) (xs : Trees) (q : ℕ) (e : operands_by (formula_at s t limit l d) n σ ρ at ≡ got xs q) where
    pub read_formulas : AreFormulas l d σ ρ at n xs q
    read_formulas = subst (OfGot (AreFormulas l d σ ρ at n)) e (operands_read l d (formula_read l d) n σ ρ at)

    pub all_read_ends : (q ≡ at + length (encodes xs)) × (at ≤ limit → q ≤ limit) × (at ≤ length s → q ≤ length s)
    all_read_ends = (read_formulas.ends, read_formulas.in_limit, read_formulas.in_bytes)

    pub all_read_are : AllBytes s → (size xs ≡ n) × AllFormed l t d σ ρ xs × (drop at s ≡ encodes xs ++ drop q s)
    all_read_are B = (read_formulas.so_many, all_formed xs l t d σ ρ read_formulas.shaped (read_formulas.words_in B), read_formulas.stand B)

-- The packed table says, column by column, what the table in words says: one computed test over all rows.
use Prim.Native.Nat.{ℕ, zero, suc}
use mathlib.Core.Path.{◌≡◌, refl, ap, ◌∙◌}
use mathlib.Core.Bool.{Bool, true, false}
use mathlib.Core.Option.{Option, some, none}
use mathlib.Core.List.{List, [], ◌∷◌, map}
use native.Mathlib.Omega.{arith}
use lib.ListN.{get_or}
use lib.Dec.{eqb, ltb}
use borrow.Author.Tests.{ltb-true, ne_eqb}
use Rattle.formula.specs.Pick.{pick, at}
use Rattle.formula.specs.Codes.{Code, codes, code_at}
use Rattle.formula.specs.NodeTable.{Row, row_of, Number, nothing, identifier, index, word, count, variables, width, Arity, fixed, counted, operands, declares, sort_of}
use Rattle.formula.specs.Mirror.PackedTable.{table, row_at, field, own, lo, lim, kids, first, rest, res, sort, pack, pack_code, least, limit, binder, binds, number_in, arity_byte, mask, rest_mask, result_bit, sort_mask, count_of, binds_of}
use Rattle.formula.proofs.Every.{every, number_at, test_at}
use Rattle.formula.proofs.Coded.{every_row}

-- ---- the rows
row_in : (os : List (Option Code)) (c : ℕ) → get_or (map pack_code os) c 0 ≡ pack_code (at os c)
row_in [] c = refl
row_in (o ∷ os) zero = refl
row_in (o ∷ os) (suc c) = row_in os c

pub row_is : (c : ℕ) → row_at c ≡ pack_code (code_at c)
unfolding row_at table code_at
row_is c = row_in codes c

abbrev is_counted : Arity → Bool
is_counted (fixed k) = false
is_counted counted = true

-- the number x has the columns of the row r
pub record Columns (x : ℕ) (r : Row) : Type 0 where
  pub own_is : own x ≡ width r.number
  pub number_is : number_in x ≡ r.number
  pub kids_is : kids x ≡ arity_byte r.arity
  pub binds_is : binds x ≡ binder r.number
  pub counted_is : eqb (kids x) 3 ≡ is_counted r.arity
  pub first_is : first x ≡ mask r.first
  pub rest_is : rest x ≡ rest_mask r.rest
  pub res_is : res x ≡ result_bit r.result
  pub sort_is : sort x ≡ sort_mask (sort_of r.result)

-- ---- the number after the code, from its columns
abbrev limits? : Number → Bool
limits? nothing = true
limits? identifier = true
limits? index = true
limits? word = true
limits? (count lo hi) = ltb 2 hi
limits? (variables lo hi) = ltb 2 hi

row_limits : (k : Code) → limits? (row_of k).number ≡ true
unfolding every codes
row_limits k = every_row (λ r. limits? r.number) refl k

module _ (x : ℕ) where
  counts : (hi : ℕ) (ν : Number) → ltb 2 hi ≡ true → lim x ≡ hi → pick (eqb (binds x) 0) (count (lo x) hi) (variables (lo x) hi) ≡ ν → number_in x ≡ ν
  unfolding number_in
  counts hi ν w e h =
      let i = ltb-true 2 hi w in
      rw (e, ne_eqb hi 0 (λ z. omega (arith, z)), ne_eqb hi 1 (λ z. omega (arith, z)), ne_eqb hi 2 (λ z. omega (arith, z))) h

  number_by : (ν : Number) → limits? ν ≡ true → own x ≡ width ν → lo x ≡ least ν → lim x ≡ limit ν → binds x ≡ binder ν → number_in x ≡ ν
  unfolding number_in
  number_by nothing w a b c d = rw (c, a) refl
  number_by identifier w a b c d = rw c refl
  number_by index w a b c d = rw c refl
  number_by word w a b c d = rw (c, a) refl
  number_by (count lo hi) w a b c d = counts hi (count lo hi) w c (rw (d, b) refl)
  number_by (variables lo hi) w a b c d = counts hi (variables lo hi) w c (rw (d, b) refl)

columns_of : (b : ℕ) (k : Code) → code_at b ≡ some k → Columns (pack (row_of k)) (row_of k)
unfolding every codes field
columns_of b k q = let x = pack (row_of k) in record {
  number_is = number_by x (row_of k).number (row_limits k)
      (number_at b k q (λ k. own (pack (row_of k))) (λ k. width (row_of k).number) refl)
      (number_at b k q (λ k. lo (pack (row_of k))) (λ k. least (row_of k).number) refl)
      (number_at b k q (λ k. lim (pack (row_of k))) (λ k. limit (row_of k).number) refl)
      (number_at b k q (λ k. binds (pack (row_of k))) (λ k. binder (row_of k).number) refl);
  binds_is = number_at b k q (λ k. binds (pack (row_of k))) (λ k. binder (row_of k).number) refl;
  own_is = number_at b k q (λ k. own (pack (row_of k))) (λ k. width (row_of k).number) refl;
  kids_is = number_at b k q (λ k. kids (pack (row_of k))) (λ k. arity_byte (row_of k).arity) refl;
  counted_is = test_at b k q (λ k. eqb (kids (pack (row_of k))) 3) (λ k. is_counted (row_of k).arity) refl;
  first_is = number_at b k q (λ k. first (pack (row_of k))) (λ k. mask (row_of k).first) refl;
  rest_is = number_at b k q (λ k. rest (pack (row_of k))) (λ k. rest_mask (row_of k).rest) refl;
  res_is = number_at b k q (λ k. res (pack (row_of k))) (λ k. result_bit (row_of k).result) refl;
  sort_is = number_at b k q (λ k. sort (pack (row_of k))) (λ k. sort_mask (sort_of (row_of k).result)) refl;
}

-- THE TABLE: the row of a byte is that of its code, ..
pub columns_at : (b : ℕ) (k : Code) → code_at b ≡ some k → Columns (row_at b) (row_of k)
columns_at b k q = rw (row_is b ∙ ap pack_code q) (columns_of b k q)

-- .. and 0 where there is none
pub no_row : (b : ℕ) → code_at b ≡ none → row_at b ≡ 0
no_row b q = row_is b ∙ ap pack_code q

-- ---- what the code asks of a row is what the table says in words
binds_by : (ν : Number) (n : ℕ) → pick (eqb (binder ν) 0) 0 n ≡ declares ν n
binds_by nothing n = refl
binds_by identifier n = refl
binds_by index n = refl
binds_by word n = refl
binds_by (count lo hi) n = refl
binds_by (variables lo hi) n = refl

operands_by : (a : Arity) (n : ℕ) → pick (is_counted a) n (arity_byte a) ≡ operands a n
operands_by (fixed k) n = refl
operands_by counted n = refl

module _ (x : ℕ) (r : Row) (C : Columns x r) (n : ℕ) where
  pub declares_is : binds_of x n ≡ declares r.number n
  unfolding binds_of
  declares_is = rw C.binds_is (binds_by r.number n)

  pub count_is : count_of x n ≡ operands r.arity n
  unfolding count_of
  count_is = rw (C.counted_is, C.kids_is) (operands_by r.arity n)

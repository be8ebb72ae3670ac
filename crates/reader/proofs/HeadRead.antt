-- The own bytes of a node: what the code answers of them is what document 01 says, the packed row for the row in words.
use Prim.Native.Nat.{ℕ, ◌+◌, ◌-◌, ◌<◌}
use mathlib.Core.Path.{◌≡◌, refl, sym, ap, ◌∙◌}
use mathlib.Core.Bool.{Bool, true, false}
use mathlib.Core.Option.{Option, some, none}
use mathlib.Core.Logic.{◌⊎◌, inl, inr}
use mathlib.Core.List.{List}
use native.Mathlib.Nat.{add-zero}
use native.Mathlib.Omega.{arith}
use lib.ListN.{length, get_or}
use lib.Dec.{eqb, ltb, leb}
use lib.Bits.{bit_and, and_zero_r}
use borrow.Author.Tests.{lt-ltb, le-ltb, lt-leb, eq-eqb, ne_eqb, ltb-true, ltb-false, leb-true, leb-false}
use Rattle.formula.specs.Pick.{pick}
use Rattle.formula.specs.Codes.{Code, code_at, with_number}
use Rattle.formula.specs.Types.{Want}
use Rattle.formula.specs.NodeTable.{row_of, Number, nothing, identifier, index, word, count, variables, width, own_length, declares, operands, sort_of}
use Rattle.formula.specs.Mirror.PackedTable.{row_at, field, own, sort, number_in, binds_of}
use Rattle.reader.specs.Mirror.Node.{Ops, Head, fine, faulty, the_ops, head_fault, head_row, head_at}
use Rattle.formula.specs.Mirror.Bytes.{byte_at, own_byte}
use Rattle.reader.specs.Mirror.Walk.{end_of}
use Rattle.formula.specs.Reading.{Parsed, got, not_got, on_fault, number_at, own_bytes, node_at}
use Rattle.formula.specs.declared.Sort.{Sort}
use Rattle.refusal.specs.declared.Cause.TheVariants as cause
use Rattle.formula.proofs.Choices.{never}
use Rattle.formula.specs.NodeFault.{Fault, other_sort, number_out, node_fault}
use Rattle.formula.proofs.FaultLaws.{fault_long}
use Rattle.formula.proofs.TableIs.{columns_at, no_row, declares_is}
use Rattle.formula.proofs.Wants.{Wants}

-- two tests of numbers that say the same
pub alike : (a b : Bool) → (a ≡ true → b ≡ true) → (a ≡ false → b ≡ false) → a ≡ b
alike true b f g = sym (f refl)
alike false b f g = sym (g refl)

-- 1: bytes end inside the node
short_is : (len at w : ℕ) → at < len → leb (len - at) w ≡ ltb len (at + (w + 1))
short_is len at w h =
    alike (leb (len - at) w) (ltb len (at + (w + 1))) (λ e. let k = leb-true (len - at) w e in lt-ltb len (at + (w + 1)) (omega arith)) (λ e. let k = leb-false (len - at) w e in le-ltb len (at + (w + 1)) (omega arith))

-- 9: own bytes past the formula's 1,024th
long_is : (len start at w : ℕ) → at + w < len → leb (end_of len start) (at + w) ≡ ltb (start + 1024) (at + (w + 1))
unfolding end_of
long_is len start at w h = go (ltb start len) refl (ltb 1024 (len - start)) refl
  where
    go : (a : Bool) → ltb start len ≡ a → (b : Bool) → ltb 1024 (len - start) ≡ b → leb (pick a (pick b (start + 1024) len) len) (at + w) ≡ ltb (start + 1024) (at + (w + 1))
    go true p true q = alike (leb (start + 1024) (at + w)) (ltb (start + 1024) (at + (w + 1))) (λ e. let k = leb-true (start + 1024) (at + w) e in lt-ltb (start + 1024) (at + (w + 1)) (omega arith)) (λ e. let k = leb-false (start + 1024) (at + w) e in le-ltb (start + 1024) (at + (w + 1)) (omega arith))
    go true p false q = let i = ltb-true start len p in let j = ltb-false 1024 (len - start) q in lt-leb len (at + w) h ∙ sym (le-ltb (start + 1024) (at + (w + 1)) (omega arith))
    go false p b q = let i = ltb-false start len p in lt-leb len (at + w) h ∙ sym (le-ltb (start + 1024) (at + (w + 1)) (omega arith))

-- ---- the byte after the code is the number, but for a literal, where nothing is asked of it
abbrev is_word : Number → Bool
is_word nothing = false
is_word identifier = false
is_word index = false
is_word word = true
is_word (count lo hi) = false
is_word (variables lo hi) = false

module _ (s : List ℕ) (i x : ℕ) where
  own_number : (ν : Number) → own x ≡ width ν → (own_byte x s i ≡ number_at ν s i) ⊎ (is_word ν ≡ true)
  unfolding own_byte byte_at
  own_number nothing e = inl (simp (eq-eqb _ 0 e))
  own_number identifier e = inl (simp (ne_eqb (own x) 0 (λ z. omega (arith, z, e))))
  own_number index e = inl (simp (ne_eqb (own x) 0 (λ z. omega (arith, z, e))))
  own_number word e = inr refl
  own_number (count lo hi) e = inl (simp (ne_eqb (own x) 0 (λ z. omega (arith, z, e))))
  own_number (variables lo hi) e = inl (simp (ne_eqb (own x) 0 (λ z. omega (arith, z, e))))

-- nothing is asked of a literal's number
module _ (ν : Number) (m n : ℕ) where
  asked_out : (t d : ℕ) → (m ≡ n) ⊎ (is_word ν ≡ true) → number_out ν m t d ≡ number_out ν n t d
  asked_out t d (inl e) = ap (λ (v : ℕ). number_out ν v t d) e
  asked_out t d (inr e) = go ν e
    where
      go : (ν : Number) → is_word ν ≡ true → number_out ν m t d ≡ number_out ν n t d
      go nothing e = refl
      go identifier e = never e
      go index e = never e
      go word e = refl
      go (count lo hi) e = never e
      go (variables lo hi) e = never e

  asked_declares : (m ≡ n) ⊎ (is_word ν ≡ true) → declares ν m ≡ declares ν n
  asked_declares (inl e) = ap (declares ν) e
  asked_declares (inr e) = go ν e
    where
      go : (ν : Number) → is_word ν ≡ true → declares ν m ≡ declares ν n
      go nothing e = refl
      go identifier e = refl
      go index e = refl
      go word e = refl
      go (count lo hi) e = refl
      go (variables lo hi) e = never e

-- ---- one node at a byte whose code is known
abbrev pub to_head : Ops → Parsed Code → Head
to_head o (got k n) = fine o
to_head o (not_got c p) = faulty (record { cause = c; at = p })

to_fault : (o : Ops) (at : ℕ) (f : Option Fault) (k : Code) (n : ℕ) → head_fault at f (fine o) ≡ to_head o (on_fault at f (got k n))
to_fault o at none k n = refl
to_fault o at (some f) k n = refl

module _ (s types : List ℕ) (start d l want : ℕ) (w : Want) (σ : Sort) (at : ℕ) (W : Wants want w σ) where
  abbrev pub ops_at : Ops
  ops_at = the_ops types at (row_at (byte_at s at)) (own_byte (row_at (byte_at s at)) s (at + 1))

  known : (k : Code) → code_at (get_or s at 0) ≡ some k → at < length s
      → head_row (length s) types (end_of (length s) start) d l want at (row_at (byte_at s at)) (own_byte (row_at (byte_at s at)) s (at + 1))
      ≡ to_head ops_at (own_bytes s (length types) (start + 1024) l d σ at (some k))
  unfolding head_row byte_at
  known k q h =
      let x = row_at (get_or s at 0) in
      let n = own_byte x s (at + 1) in
      let m = number_at (row_of k).number s (at + 1) in
      let C = columns_at (get_or s at 0) k q in
      let N = own_number s (at + 1) x (row_of k).number C.own_is in
      let t = length types in
      let a : leb (length s - at) (own x) ≡ ltb (length s) (at + own_length k) = ap (leb (length s - at)) C.own_is ∙ short_is (length s) at (width (row_of k).number) h in
      let b : eqb (bit_and want (sort x)) 0 ≡ other_sort σ k = ap (λ (v : ℕ). eqb (bit_and want v) 0) C.sort_is ∙ W.by_sort (sort_of (row_of k).result) in
      let c : number_out (number_in x) n t d ≡ number_out (row_of k).number m t d = ap (λ (ν : Number). number_out ν n t d) C.number_is ∙ asked_out (row_of k).number n m t d N in
      let e : ltb (length s) (at + own_length k) ≡ false → leb (end_of (length s) start) (at + own x) ≡ ltb (start + 1024) (at + own_length k) =
      λ r. let i = ltb-false (length s) (at + own_length k) r in
      ap (λ (v : ℕ). leb (end_of (length s) start) (at + v)) C.own_is ∙ long_is (length s) start at (width (row_of k).number) (omega arith) in
      rw (a, b, c, C.number_is) (ap (λ (f : Option Fault). head_fault at f (fine (the_ops types at x n)))
      (fault_long (ltb (length s) (at + own_length k)) (other_sort σ k) (number_out (row_of k).number m t d) (eqb l 0) (leb (end_of (length s) start) (at + own x)) (ltb (start + 1024) (at + own_length k)) (row_of k).number e)
      ∙ to_fault (the_ops types at x n) at (node_fault (ltb (length s) (at + own_length k)) (other_sort σ k) (number_out (row_of k).number m t d) (eqb l 0) (ltb (start + 1024) (at + own_length k)) (row_of k).number)
      (with_number k m) (operands (row_of k).arity m))

  unknown : code_at (get_or s at 0) ≡ none → at < length s
      → head_row (length s) types (end_of (length s) start) d l want at (row_at (byte_at s at)) (own_byte (row_at (byte_at s at)) s (at + 1)) ≡ faulty (record { cause = cause.Code; at = at })
  unfolding head_row byte_at field
  unknown q h = rw (no_row (get_or s at 0) q) (simp (lt-leb (length s - at) 0 (omega arith), eq-eqb (bit_and want 0) 0 (and_zero_r want), add-zero))

  -- THE HEAD: of any bytes
  pub head_is : head_at s types (end_of (length s) start) d l want at ≡ to_head ops_at (node_at s (length types) (start + 1024) l d σ at)
  unfolding head_at node_at
  head_is = go (leb (length s) at) refl
    where
      by_code : (o : Option Code) → code_at (get_or s at 0) ≡ o → at < length s
          → head_row (length s) types (end_of (length s) start) d l want at (row_at (byte_at s at)) (own_byte (row_at (byte_at s at)) s (at + 1)) ≡ to_head ops_at (own_bytes s (length types) (start + 1024) l d σ at o)
      by_code none q h = unknown q h
      by_code (some k) q h = known k q h

      go : (b : Bool) → leb (length s) at ≡ b
          → pick b (faulty (record { cause = cause.Length; at = at })) (head_row (length s) types (end_of (length s) start) d l want at (row_at (byte_at s at)) (own_byte (row_at (byte_at s at)) s (at + 1)))
          ≡ to_head ops_at (pick b (not_got cause.Length at) (own_bytes s (length types) (start + 1024) l d σ at (code_at (get_or s at 0))))
      go true e = refl
      go false e = by_code (code_at (get_or s at 0)) refl (leb-false (length s) at e)

-- ---- what the head says of the operands
module _ (s types : List ℕ) (at : ℕ) (k : Code) (q : code_at (byte_at s at) ≡ some k) where
  pub own_there : own (row_at (byte_at s at)) ≡ width (row_of k).number
  own_there = (columns_at (byte_at s at) k q).own_is

  number_there : (own_byte (row_at (byte_at s at)) s (at + 1) ≡ number_at (row_of k).number s (at + 1)) ⊎ (is_word (row_of k).number ≡ true)
  number_there = own_number s (at + 1) (row_at (byte_at s at)) (row_of k).number own_there

  pub binds_there : binds_of (row_at (byte_at s at)) (own_byte (row_at (byte_at s at)) s (at + 1)) ≡ declares (row_of k).number (number_at (row_of k).number s (at + 1))
  binds_there = declares_is (row_at (byte_at s at)) (row_of k) (columns_at (byte_at s at) k q) _ ∙ asked_declares (row_of k).number _ _ number_there

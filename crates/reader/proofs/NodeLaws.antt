-- The cases of one node's own bytes.
use Prim.Native.Nat.{ℕ, ◌+◌, ◌-◌, ◌<◌, ◌≤◌}
use mathlib.Core.Path.{◌≡◌, refl, sym}
use mathlib.Core.Bool.{Bool, true, false}
use mathlib.Core.List.{List}
use mathlib.Core.Option.{Option, some, none}
use native.Mathlib.Omega.{arith}
use lib.ListN.{length}
use lib.Dec.{eqb, leb}
use lib.Bits.{bit_and}
use borrow.Author.Tests.{lt-leb, ne_eqb, leb-false}
use Rattle.formula.specs.Pick.{pick}
use Rattle.formula.specs.NodeTable.{Number, nothing, identifier, index, word, count, variables}
use Rattle.formula.specs.NodeFault.{Fault, number_out, number_fault, node_fault}
use Rattle.formula.specs.Mirror.PackedTable.{row_at, own, sort, number_in}
use Rattle.reader.specs.Mirror.Node.{Ops, Head, fine, faulty, the_ops, head_fault, head_row, head_at, refusal_by, refusal_row, refusal_at, refused_here}
use Rattle.formula.specs.Mirror.Bytes.{byte_at, own_byte}
use Rattle.refusal.specs.declared.Cause.{Cause}
use Rattle.refusal.specs.declared.Cause.TheVariants as cause
use Rattle.refusal.specs.declared.Refusal.{Refusal}
use Rattle.formula.proofs.Choices.{never}
use Rattle.formula.proofs.FaultLaws.{Faultless, no_fault, some_fault}

-- ---- the refusal of a node of which something is wrong
pub number_offset : (ν : Number) → (number_fault ν).offset ≡ 0
number_offset nothing = refl
number_offset identifier = refl
number_offset index = refl
number_offset word = refl
number_offset (count lo hi) = refl
number_offset (variables lo hi) = refl

abbrev found : Cause → ℕ → Refusal
found c at = record { cause = c; at = at }

-- ---- a head that is accepted, and one that is not
fine_none : (at : ℕ) (f : Option Fault) (h : Head) (o : Ops) → head_fault at f h ≡ fine o → f ≡ none
fine_none at none h o e = refl
fine_none at (some f) h o e = let z : ◌≡◌ {A = ℕ} 0 1 = cc in absurd (omega (arith, z))

no_arm : (b c : Bool) → pick b true c ≡ false → (b ≡ false) × (c ≡ false)
no_arm true c e = never (sym e)
no_arm false c e = (refl, e)

abbrev pub Never : Head → Type 0
Never h = (o : Ops) → h ≡ fine o → ⊥

by_fault : (at : ℕ) (f g : Option Fault) (h : Head) → (f ≡ none → ⊥) → f ≡ g → head_fault at f h ≡ faulty (refusal_by at g)
by_fault at none g h k e = absurd (k refl)
by_fault at (some f) g h k e = rw (← e) refl

module _ (s types : List ℕ) (end d level want at : ℕ) where
  abbrev row_here : ℕ
  row_here = row_at (byte_at s at)

  abbrev byte_here : ℕ
  byte_here = own_byte row_here s (at + 1)

  abbrev fault_here : Option Fault
  fault_here = node_fault (leb (length s - at) (own row_here)) (eqb (bit_and want (sort row_here)) 0) (number_out (number_in row_here) byte_here (length types) d) (eqb level 0) (leb end (at + own row_here)) (number_in row_here)

  faultless : (o : Ops) → head_at s types end d level want at ≡ fine o
      → Faultless (leb (length s - at) (own row_here)) (eqb (bit_and want (sort row_here)) 0) (number_out (number_in row_here) byte_here (length types) d) (eqb level 0) (leb end (at + own row_here))
  unfolding head_at head_row
  faultless o e = no_fault _ _ _ _ _ (number_in row_here) (go (leb (length s) at) e)
    where
      go : (b : Bool) → pick b (faulty (found cause.Length at)) (head_fault at fault_here (fine (the_ops types at row_here byte_here))) ≡ fine o → fault_here ≡ none
      go true e = let z : ◌≡◌ {A = ℕ} 0 1 = cc in absurd (omega (arith, z))
      go false e = fine_none at fault_here _ o e

  -- an accepted head has a level left, and its node is not refused
  pub node_stood : (o : Ops) → head_at s types end d level want at ≡ fine o
      → (eqb level 0 ≡ false) × ((leb end (at + own row_here) ≡ false) × (refused_here (length types) end d want at row_here byte_here ≡ false))
  unfolding refused_here
  node_stood o e = let F = faultless o e in (F.not_deep, (F.not_long, rw (F.not_long, F.same_sort_law, F.in_range) refl))

  -- what is not refused stands, where a level is left
  pub stands : (level ≡ 0 → ⊥) → at < end → end ≤ length s → refused_here (length types) end d want at row_here byte_here ≡ false → head_at s types end d level want at ≡ fine (the_ops types at row_here byte_here)
  unfolding head_at head_row refused_here
  stands l h i e =
      let a = no_arm (leb end (at + own row_here)) _ e in
      let b = no_arm (eqb (bit_and want (sort row_here)) 0) (number_out (number_in row_here) byte_here (length types) d) a.1 in
      let k = leb-false end (at + own row_here) a.0 in
      rw (lt-leb (length s) at (omega arith), lt-leb (length s - at) (own row_here) (omega arith), b.0, b.1, ne_eqb level 0 l, a.0) refl

  -- a head that is not accepted is refused, and the last test need not be asked
  pub head_refused : Never (head_at s types end d level want at) → head_at s types end d level want at ≡ faulty (refusal_at s (length types) d level want at)
  unfolding head_at head_row refusal_at refusal_row
  head_refused f = go (leb (length s) at) f
    where
      go : (b : Bool) → Never (pick b (faulty (found cause.Length at)) (head_fault at fault_here (fine (the_ops types at row_here byte_here))))
          → pick b (faulty (found cause.Length at)) (head_fault at fault_here (fine (the_ops types at row_here byte_here)))
          ≡ faulty (pick b (found cause.Length at) (refusal_row (length s) (length types) d level want at row_here byte_here))
      go true f = refl
      go false f =
          let k : fault_here ≡ none → ⊥ = λ z. f (the_ops types at row_here byte_here) (rw z refl) in
          by_fault at fault_here _ _ k
          (some_fault (leb (length s - at) (own row_here)) (eqb (bit_and want (sort row_here)) 0) (number_out (number_in row_here) byte_here (length types) d) (eqb level 0) (leb end (at + own row_here)) (number_in row_here) k)

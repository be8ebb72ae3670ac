-- An identifier that may stand where it does is accepted, whatever else is asked of a node.
use Prim.Native.Nat.{ℕ, ◌+◌, ◌/◌, ◌%◌, ◌<◌, ◌≤◌, min}
use mathlib.Core.Path.{◌≡◌, refl, ap, ◌∙◌}
use mathlib.Core.Bool.{Bool, true, false}
use mathlib.Core.List.{List}
use native.Mathlib.Nat.{min-zero}
use native.Mathlib.Omega.{arith}
use lib.ListN.{length, get_or}
use lib.Dec.{eqb, ltb, leb}
use lib.Bits.{bit_and, and_step, and_zero_r}
use Rattle.std.specs.Prelude.{Option, Some, None}
use borrow.Author.Tests.{lt-leb, ne_eqb, leb-false, eqb-true, eqb-false, ltb-true}
use Rattle.formula.specs.Pick.{pick}
use Rattle.formula.specs.Codes.{codes}
use Rattle.formula.specs.Mirror.PackedTable.{table, row_at, field, own, sort, number_in, count_of, binds_of, ident_type, type_by}
use Rattle.reader.specs.Mirror.Node.{fine, the_ops, head_at, refused_here, name_at}
use Rattle.formula.specs.Mirror.Bytes.{byte_at, own_byte}
use Rattle.formula.specs.NodeFault.{number_out}
use Rattle.reader.proofs.NodeLaws.{stands}

-- what the row of identifiers says
module _ (n : ℕ) where
  pub name_own : own (row_at 32) ≡ 1
  unfolding row_at table codes field
  name_own = refl

  name_sort : sort (row_at 32) ≡ 126
  unfolding row_at table codes field
  name_sort = refl

  name_out : (t d : ℕ) → number_out (number_in (row_at 32)) n t d ≡ leb t n
  unfolding number_in row_at table codes field
  name_out t d = refl

  pub name_ops : (types : List ℕ) (at : ℕ) → the_ops types at (row_at 32) n ≡ record { next = at + 1 + 1; count = 0; ty = ident_type types n; row = row_at 32; binds = 0; mark = at + 1 }
  unfolding count_of type_by binds_of row_at table codes field
  name_ops types at = refl

  name_byte : (s : List ℕ) → own_byte (row_at 32) s n ≡ byte_at s n
  unfolding own_byte row_at table codes field
  name_byte s = refl

-- no bit in common: none of the halves, and none of the last bits
half_none : (a b : ℕ) → bit_and a b ≡ 0 → (bit_and (a / 2) (b / 2) ≡ 0) × (min (a % 2) (b % 2) ≡ 0)
half_none a b e = let f = and_step a b in (omega arith, omega arith)

half_all : (a b : ℕ) → bit_and (a / 2) (b / 2) ≡ 0 → min (a % 2) (b % 2) ≡ 0 → bit_and a b ≡ 0
half_all a b e g = let f = and_step a b in omega arith

-- where no expression is wanted, no identifier is
module _ (want : ℕ) (e : bit_and want 126 ≡ 0) where
  bits_none : (min (want / 2 % 2) 1 ≡ 0) × ((min (want / 2 / 2 % 2) 1 ≡ 0) × (min (want / 2 / 2 / 2 % 2) 1 ≡ 0))
  bits_none =
      let a = half_none (want / 2) 63 (half_none want 126 e).0 in
      let b = half_none (want / 2 / 2) 31 a.0 in
      (a.1, (b.1, (half_none (want / 2 / 2 / 2) 15 b.0).1))

  ident_none : (types : List ℕ) (n : ℕ) → bit_and want (ident_type types n) ≡ 0
  unfolding ident_type
  ident_none types n = go (ltb n (length types)) (eqb (get_or types n 0) 0) (eqb (get_or types n 0) 1)
    where
      go : (a b c : Bool) → bit_and want (pick a (pick b 2 (pick c 4 8)) 0) ≡ 0
      go true true c = half_all want 2 (half_all (want / 2) 1 (and_zero_r (want / 2 / 2)) bits_none.0) (min-zero (want % 2))
      go true false true = half_all want 4 (half_all (want / 2) 2 (half_all (want / 2 / 2) 1 (and_zero_r (want / 2 / 2 / 2)) bits_none.1.0) (min-zero (want / 2 % 2))) (min-zero (want % 2))
      go true false false = half_all want 8 (half_all (want / 2) 4 (half_all (want / 2 / 2) 2 (half_all (want / 2 / 2 / 2) 1 (and_zero_r (want / 2 / 2 / 2 / 2)) bits_none.1.1) (min-zero (want / 2 / 2 % 2))) (min-zero (want / 2 % 2))) (min-zero (want % 2))
      go false b c = and_zero_r want

-- identifiers are no pairs
pub ident_no_pair : (types : List ℕ) (n : ℕ) → eqb (ident_type types n) 64 ≡ false
unfolding ident_type
ident_no_pair types n = go (ltb n (length types)) (eqb (get_or types n 0) 0) (eqb (get_or types n 0) 1)
  where
    go : (a b c : Bool) → eqb (pick a (pick b 2 (pick c 4 8)) 0) 64 ≡ false
    go true true c = refl
    go true false true = refl
    go true false false = refl
    go false b c = refl

some_arm : (b : Bool) (o : Option ℕ) (v : ℕ) → pick b None o ≡ Some v → (b ≡ false) × (o ≡ Some v)
some_arm true o v h = absurd (cc)
some_arm false o v h = (refl, h)

other_arm : (b : Bool) (o : Option ℕ) (v : ℕ) → pick b o None ≡ Some v → (b ≡ true) × (o ≡ Some v)
other_arm true o v h = (refl, h)
other_arm false o v h = absurd (cc)

module _ (s types : List ℕ) (end want at v : ℕ) (h : name_at s types end want at ≡ Some v) where
  abbrev kind_here : ℕ
  kind_here = ident_type types (byte_at s (at + 1))

  pub name_stood : (at + 1 < end) × ((byte_at s at ≡ 32) × ((eqb (bit_and want kind_here) 0 ≡ false) × (v ≡ kind_here)))
  unfolding name_at
  name_stood =
      let a = some_arm (leb end (at + 1)) _ v h in
      let b = other_arm (eqb (byte_at s at) 32) _ v a.1 in
      let c = some_arm (eqb (bit_and want kind_here) 0) (Some kind_here) v b.1 in
      let d = c.1 in
      (leb-false _ _ a.0, (eqb-true _ _ b.0, (c.0, cc)))

  name_known : eqb (bit_and want kind_here) 0 ≡ false → byte_at s (at + 1) < length types
  unfolding ident_type
  name_known e = go (ltb (byte_at s (at + 1)) (length types)) refl (pick (eqb (get_or types (byte_at s (at + 1)) 0) 0) 2 (pick (eqb (get_or types (byte_at s (at + 1)) 0) 1) 4 8)) e
    where
      go : (a : Bool) → ltb (byte_at s (at + 1)) (length types) ≡ a → (v : ℕ) → eqb (bit_and want (pick a v 0)) 0 ≡ false → byte_at s (at + 1) < length types
      go true p v e = ltb-true _ _ p
      go false p v e = absurd (eqb-false _ _ e (and_zero_r want))

  name_free : (d : ℕ) → refused_here (length types) end d want at (row_at 32) (byte_at s (at + 1)) ≡ false
  unfolding refused_here
  name_free d =
      let N = name_stood in
      let k = N.0 in
      let n = byte_at s (at + 1) in
      let sorts : eqb (bit_and want 126) 0 ≡ false = ne_eqb _ _ (λ z. eqb-false _ _ N.1.1.0 (ident_none want z types n)) in
      rw (name_own n, lt-leb end (at + 1) k, name_sort n, sorts, name_out n (length types) d, lt-leb (length types) n (name_known N.1.1.0)) refl

  -- an identifier that is wanted is accepted
  pub name_node : (d level : ℕ) → (level ≡ 0 → ⊥) → end ≤ length s
      → head_at s types end d level want at ≡ fine (the_ops types at (row_at 32) (byte_at s (at + 1)))
  name_node d level l i =
      let N = name_stood in
      let k = N.0 in
      let n = byte_at s (at + 1) in
      let r : row_at (byte_at s at) ≡ row_at 32 = ap row_at N.1.0 in
      let b : own_byte (row_at (byte_at s at)) s (at + 1) ≡ n = ap (λ (x : ℕ). own_byte x s (at + 1)) r ∙ name_byte (at + 1) s in
      stands s types end d level want at l (omega arith) i (rw (b, r) (name_free d)) ∙ rw (b, r) refl

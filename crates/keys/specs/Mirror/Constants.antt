-- The bytes of the sides of keys that no source has.
use Rattle.std.specs.Prelude.{ℕ, List, [], ◌∷◌, ◌++◌}
use Rattle.formula.specs.Codes.{con, nat, nat1, lit, byte_of}
use Rattle.formula.specs.Tree.{bytes_le}
use Rattle.keys.specs.declared.Part.{Part}

abbrev pub part : ℕ → ℕ → Part
part a e = record { at = a; end = e }

-- the bytes of the literal 0, of ℕ and of ℕ1, one after the other
unfoldable pub constants : List ℕ
constants = byte_of (lit 0) ∷ (bytes_le 8 0 ++ (byte_of (con nat) ∷ byte_of (con nat1) ∷ []))

-- where each of them stands
abbrev pub zero_part : Part
zero_part = part 0 9

abbrev pub nat_part : Part
nat_part = part 9 10

abbrev pub nat1_part : Part
nat1_part = part 10 11

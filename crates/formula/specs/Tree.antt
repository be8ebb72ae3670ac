-- Formulas as trees over the codes, and their bytes: prefix coded, all numbers little-endian.
use Rattle.std.specs.Prelude.{ℕ, zero, suc, ◌/◌, ◌%◌, List, [], ◌∷◌, ◌++◌}
use Rattle.formula.specs.Codes.{Code, con, ident, bound, lit, rel, fun, many, qu, byte_of}

infixr 60 ◌▹◌
mutual
  pub data Tree : Type 0 where
    node : Code → Trees → Tree

  pub data Trees : Type 0 where
    nil : Trees
    ◌▹◌ : Tree → Trees → Trees

abbrev pub size : Trees → ℕ
size nil = 0
size (x ▹ xs) = suc (size xs)

-- the lowest n bytes of a number, and the number of some bytes
abbrev pub bytes_le : ℕ → ℕ → List ℕ
bytes_le zero w = []
bytes_le (suc n) w = w % 256 ∷ bytes_le n (w / 256)

-- the number that stands after the code of a node with n operands
abbrev pub number_of : Code → ℕ → ℕ
number_of (con c) n = 0
number_of (ident k) n = k
number_of (bound i) n = i
number_of (lit w) n = w
number_of (rel r) n = 0
number_of (fun f) n = 0
number_of (many m) n = n
number_of (qu b k) n = k

-- the bytes after the code of a node with n operands
abbrev pub number_bytes : Code → ℕ → List ℕ
number_bytes (con c) n = []
number_bytes (ident k) n = k ∷ []
number_bytes (bound i) n = i ∷ []
number_bytes (lit w) n = bytes_le 8 w
number_bytes (rel r) n = []
number_bytes (fun f) n = []
number_bytes (many m) n = n ∷ []
number_bytes (qu b k) n = k ∷ []

unfoldable mutual
  pub encode : Tree → List ℕ
  encode (node k xs) = byte_of k ∷ (number_bytes k (size xs) ++ encodes xs)

  pub encodes : Trees → List ℕ
  encodes nil = []
  encodes (x ▹ xs) = encode x ++ encodes xs

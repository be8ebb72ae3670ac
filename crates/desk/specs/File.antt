-- Document 01, "Sequent file": the bytes of a sequent.
use Rattle.std.specs.Prelude.{ℕ, List, [], ◌∷◌, ◌++◌, length}
use Rattle.formula.specs.Tree.{encode}
use Rattle.desk.specs.Sequent.{Flag, plain, hidden, selected, Hypothesis, Sequent}

abbrev pub flag_byte : Flag → ℕ
flag_byte plain = 0
flag_byte hidden = 1
flag_byte selected = 2

-- "Mark `SQT`, 16-bit version 1 (all numbers little-endian), byte t (identifiers, 0..64), byte h (hypotheses, 0..64), byte 0"
abbrev pub header : ℕ → ℕ → List ℕ
header t h = 0x53 ∷ 0x51 ∷ 0x54 ∷ 1 ∷ 0 ∷ t ∷ h ∷ 0 ∷ []

-- "h times a flag byte and a predicate"
unfoldable pub hypotheses_bytes : List Hypothesis → List ℕ
hypotheses_bytes [] = []
hypotheses_bytes (h ∷ hs) = flag_byte h.flag ∷ (encode h.formula ++ hypotheses_bytes hs)

unfoldable pub encode_sequent : Sequent → List ℕ
encode_sequent q = header (length q.types) (length q.hypotheses) ++ (q.types ++ (hypotheses_bytes q.hypotheses ++ encode q.goal))

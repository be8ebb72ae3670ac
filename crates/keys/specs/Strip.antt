-- Document 01: "Strip all ¬ from the source, flipping each time; hypotheses start true, goals false."
use Rattle.std.specs.Prelude.{Bool, not, eqb}
use Rattle.formula.specs.Pick.{pick}
use Rattle.formula.specs.Codes.{Code, fun, neg, byte_of}
use Rattle.formula.specs.Tree.{Tree, node, Trees, nil, ◌▹◌}

-- whether a formula's code is j, whatever number it carries
abbrev pub has_code : Code → Tree → Bool
has_code j (node k xs) = eqb (byte_of k) (byte_of j)

-- a predicate and whether it is true
pub record Stripped : Type 0 where
  pub value : Bool
  pub predicate : Tree

abbrev pub bare : Bool → Tree → Stripped
bare b x = record { value = b; predicate = x }

unfoldable mutual
  pub strip : Bool → Tree → Stripped
  strip b (node k xs) = pick (eqb (byte_of k) (byte_of (fun neg))) (strip_one b (node k xs) xs) (bare b (node k xs))

  -- of the operands of x
  pub strip_one : Bool → Tree → Trees → Stripped
  strip_one b x nil = bare b x
  strip_one b x (y ▹ ys) = strip (not b) y

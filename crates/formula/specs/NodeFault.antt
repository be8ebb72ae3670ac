-- What is wrong with the own bytes of one node: the cause and the place, in the order in which they are asked.
use Rattle.std.specs.Prelude.{ℕ, Bool, false, not, ◌||◌, ltb, leb}
use Rattle.std.proofs.Math.Option.{Option, some, none}
use Rattle.formula.specs.Pick.{pick}
use Rattle.formula.specs.Codes.{Code}
use Rattle.formula.specs.NodeTable.{row_of, Number, nothing, identifier, index, word, count, variables, sort_of, same_sort}
use Rattle.formula.specs.declared.Sort.{Sort}
use Rattle.refusal.specs.declared.Cause.{Cause}
use Rattle.refusal.specs.declared.Cause.TheVariants as cause

-- the cause, and how far behind the node's first byte its place is
pub record Fault : Type 0 where
  pub cause : Cause
  pub offset : ℕ

abbrev pub fault : Cause → ℕ → Fault
fault c o = record { cause = c; offset = o }

-- the code is of the other sort than the one expected
abbrev pub other_sort : Sort → Code → Bool
other_sort σ k = not (same_sort (sort_of (row_of k).result) σ)

-- the number n after the code is out of range: k ≥ t, i not enclosed by the d variables bound, or a count past its limits
abbrev pub number_out : Number → (n t d : ℕ) → Bool
number_out nothing n t d = false
number_out identifier n t d = leb t n
number_out index n t d = leb d n
number_out word n t d = false
number_out (count lo hi) n t d = ltb n lo || ltb hi n
number_out (variables lo hi) n t d = ltb n lo || ltb hi n

-- what a number out of range is answered with
abbrev pub number_fault : Number → Fault
number_fault nothing = fault cause.Index 0
number_fault identifier = fault cause.Index 0
number_fault index = fault cause.Index 0
number_fault word = fault cause.Index 0
number_fault (count lo hi) = fault cause.Count 0
number_fault (variables lo hi) = fault cause.Count 0

-- THE ORDER: 1 bytes end inside the node; 7 the other sort; 7 its number; 9 level 33; 9 own bytes past the formula's 1,024th
abbrev pub node_fault : (cut other out deep long : Bool) → Number → Option Fault
node_fault cut other out deep long ν =
    pick cut (some (fault cause.Length 0))
    (pick other (some (fault cause.Code 0))
    (pick out (some (number_fault ν))
    (pick deep (some (fault cause.Deep 0))
    (pick long (some (fault cause.Long 0))
    none))))

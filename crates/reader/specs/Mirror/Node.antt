-- One node as the code reads it: what is seen of it, whether it is refused, and why.
use Rattle.std.specs.Prelude.{ℕ, ◌+◌, ◌-◌, List, Bool, true, length, leb, eqb, Option, Some, None}
use Rattle.std.proofs.Math.Option as maybe
use Rattle.std.proofs.Math.Option.{some, none}
use Rattle.std.specs.Int.Bits.{bit_and}
use Rattle.formula.specs.Pick.{pick}
use Rattle.formula.specs.NodeFault.{Fault, number_out, node_fault}
use Rattle.formula.specs.Mirror.PackedTable.{row_at, own, sort, number_in, count_of, binds_of, ident_type, type_by}
use Rattle.formula.specs.Mirror.Bytes.{byte_at, own_byte}
use Rattle.refusal.specs.declared.Cause.TheVariants as cause
use Rattle.refusal.specs.declared.Refusal.{Refusal}
use Rattle.reader.specs.declared.node.Seen.{Seen}

-- what the own bytes of a node say: where its operands are, how many, its type, its row, the variables it binds, its mark
pub record Ops : Type 0 where
  pub next : ℕ
  pub count : ℕ
  pub ty : ℕ
  pub row : ℕ
  pub binds : ℕ
  pub mark : ℕ

pub data Head : Type 0 where
  fine : Ops → Head
  faulty : Refusal → Head

abbrev pub the_ops : List ℕ → ℕ → ℕ → ℕ → Ops
the_ops types at x n = record { next = at + own x + 1; count = count_of x n; ty = type_by x types n; row = x; binds = binds_of x n; mark = at + 1 }

-- a fault of the node at `at`, with its place
abbrev pub refusal : ℕ → Fault → Refusal
refusal at f = record { cause = f.cause; at = at + f.offset }

abbrev pub head_fault : ℕ → maybe.Option Fault → Head → Head
head_fault at none h = h
head_fault at (some f) h = faulty (refusal at f)

-- what the own bytes of a node with the row x and the byte n after its code say
unfoldable pub head_row : ℕ → List ℕ → ℕ → ℕ → ℕ → ℕ → ℕ → ℕ → ℕ → Head
head_row len types end d level want at x n =
    head_fault at (node_fault (leb (len - at) (own x)) (eqb (bit_and want (sort x)) 0) (number_out (number_in x) n (length types) d) (eqb level 0) (leb end (at + own x)) (number_in x))
    (fine (the_ops types at x n))

-- the refusal of a node of which it is known that something is wrong: what is left in the end is 9, too long
abbrev pub refusal_by : ℕ → maybe.Option Fault → Refusal
refusal_by at none = record { cause = cause.Long; at = at }
refusal_by at (some f) = refusal at f

unfoldable pub refusal_row : (len t d level want at x n : ℕ) → Refusal
refusal_row len t d level want at x n =
    refusal_by at (node_fault (leb (len - at) (own x)) (eqb (bit_and want (sort x)) 0) (number_out (number_in x) n t d) (eqb level 0) true (number_in x))

unfoldable pub refusal_at : List ℕ → ℕ → ℕ → ℕ → ℕ → ℕ → Refusal
refusal_at s t d level want at =
    pick (leb (length s) at) (record { cause = cause.Length; at = at })
    (refusal_row (length s) t d level want at (row_at (byte_at s at)) (own_byte (row_at (byte_at s at)) s (at + 1)))

unfoldable pub head_at : List ℕ → List ℕ → ℕ → ℕ → ℕ → ℕ → ℕ → Head
head_at s types end d level want at =
    pick (leb (length s) at) (faulty (record { cause = cause.Length; at = at }))
    (head_row (length s) types end d level want at (row_at (byte_at s at)) (own_byte (row_at (byte_at s at)) s (at + 1)))

-- what is read of the node at `at` before anything is asked of it
unfoldable pub seen_at : List ℕ → List ℕ → ℕ → Seen
seen_at s types at =
    record {
      row = record { 0 = row_at (byte_at s at) };
      byte = own_byte (row_at (byte_at s at)) s (at + 1);
      ty = type_by (row_at (byte_at s at)) types (own_byte (row_at (byte_at s at)) s (at + 1));
    }

-- whether a node with the row x and the byte n after its code is refused where a level is left; t identifiers
unfoldable pub refused_here : ℕ → ℕ → ℕ → ℕ → ℕ → ℕ → ℕ → Bool
refused_here t end d want at x n =
    pick (leb end (at + own x)) true (pick (eqb (bit_and want (sort x)) 0) true (number_out (number_in x) n t d))

-- the kind of the identifier at `at`, where one stands that may stand here
unfoldable pub name_at : List ℕ → List ℕ → ℕ → ℕ → ℕ → Option ℕ
name_at s types end want at =
    pick (leb end (at + 1)) None
    (pick (eqb (byte_at s at) 32) (pick (eqb (bit_and want (ident_type types (byte_at s (at + 1)))) 0) None (Some (ident_type types (byte_at s (at + 1))))) None)

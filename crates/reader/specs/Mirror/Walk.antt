-- Lists of operands, and a whole formula, as the code reads them.
use Rattle.std.specs.Prelude.{ℕ, zero, suc, ◌+◌, ◌-◌, ◌*◌, ◌<◌, ◌≤◌, ◌≡◌, List, Bool, false, length, ltb, eqb, is_none, Result, Ok, Err}
use Rattle.std.specs.Int.Bits.{bit_and}
use Rattle.formula.specs.Pick.{pick}
use Rattle.formula.specs.Mirror.PackedTable.{own, first, rest, root_row, count_of, binds_of}
use Rattle.formula.specs.declared.Sort.{Sort}
use Rattle.refusal.specs.declared.Cause.TheVariants as cause
use Rattle.reader.specs.declared.reader.Got.{Got}
use Rattle.reader.specs.declared.node.Seen.{Seen}
use Rattle.reader.specs.declared.walk.Walk.{Walk}
use Rattle.reader.specs.Mirror.Node.{Ops, Head, fine, faulty, head_at, seen_at, refused_here}
use Rattle.reader.specs.Mirror.Shape.{shape}
use Rattle.refusal.specs.declared.Refusal.{Refusal}

-- ---- operands
-- what the next operand may be
unfoldable pub next_want : ℕ → ℕ → ℕ
next_want others ty = pick (eqb others 0) ty others

-- the second side of = is at p and has the type ty; the first is at `first`
unfoldable pub unlike : List ℕ → List ℕ → ℕ → ℕ → ℕ → ℕ → ℕ → Bool
unlike s types others left ty first p =
    pick (eqb others 0) (pick (eqb left 1) (pick (eqb ty 64) (is_none (shape 32 s types first p)) false) false) false

-- the mark of the first wrong node after an operand of the type ty at p, in which the first is `below`
unfoldable pub bad_after : List ℕ → List ℕ → ℕ → ℕ → ℕ → ℕ → ℕ → ℕ → ℕ → ℕ → ℕ
bad_after s types others want left p parent ty bad below =
    pick (eqb (bit_and want ty) 0) parent (pick (unlike s types others left ty parent p) parent (pick (eqb bad 0) below bad))

abbrev pub on_head : Head → (Ops → Result Got Refusal) → Result Got Refusal
on_head (fine o) k = k o
on_head (faulty x) k = Err x

abbrev pub on_read : Result Got Refusal → (Got → Result Got Refusal) → Result Got Refusal
on_read (Ok g) k = k g
on_read (Err x) k = Err x

-- the operands of a node, each list of them read by f
unfoldable pub read_below : (ℕ → ℕ → ℕ → ℕ → ℕ → Result Got Refusal) → ℕ → Ops → Result Got Refusal
read_below f d o =
    pick (eqb o.count 0) (Ok (record { next = o.next; bad = 0 })) (f (d + o.binds) o.row o.mark o.count o.next)

-- `left` operands from p on; hd reads the own bytes of one, below its operands
unfoldable pub list_with : (ℕ → ℕ → Head) → (Ops → Result Got Refusal) → List ℕ → List ℕ → ℕ → ℕ → ℕ → ℕ → ℕ → ℕ → Result Got Refusal
list_with hd below s types others parent zero want p bad = Ok (record { next = p; bad = bad })
list_with hd below s types others parent (suc n) want p bad =
    on_head (hd want p) (λ o. on_read (below o) (λ g.
    list_with hd below s types others parent n (next_want others o.ty) g.next
    (bad_after s types others want (suc n) p parent o.ty bad g.bad)))

-- where no level is left: no node stands there
unfoldable pub none_below : Ops → Result Got Refusal
none_below o = Ok (record { next = o.next; bad = 0 })

-- n operands of a node with the row x, with at most l levels
unfoldable pub read_list : ℕ → List ℕ → List ℕ → ℕ → ℕ → ℕ → ℕ → ℕ → ℕ → Result Got Refusal
read_list zero s types end d x parent n at = list_with (head_at s types end d 0) none_below s types (rest x) parent n (first x) at 0
read_list (suc l) s types end d x parent n at =
    list_with (head_at s types end d (suc l)) (read_below (read_list l s types end) d) s types (rest x) parent n (first x) at 0

unfoldable pub below_at : ℕ → List ℕ → List ℕ → ℕ → ℕ → Ops → Result Got Refusal
below_at zero s types end d = none_below
below_at (suc l) s types end d = read_below (read_list l s types end) d

-- ---- where the reader stands in a list of operands
-- what holds of it all the way
pub record Going (w : Walk) : Type 0 where
  pub marked : 0 < w.parent
  pub levels : 0 < w.level
  pub few : w.left < 256
  pub bounds : w.bound + 256 * w.level ≤ 8192

-- the first of two marks
unfoldable pub first_mark : ℕ → ℕ → ℕ
first_mark a b = pick (eqb a 0) b a

-- the mark of the first wrong node so far, the next operand, of the type ty, judged
unfoldable pub judged : List ℕ → List ℕ → Walk → ℕ → ℕ
judged s types w ty =
    pick (eqb (bit_and w.want ty) 0) w.parent (pick (unlike s types w.others w.left ty w.parent w.at) w.parent w.bad)

-- after the next operand, of the type ty: the one at `next`
unfoldable pub next_operand : Walk → ℕ → ℕ → ℕ → Walk
next_operand w ty next bad =
    record { at = next; left = w.left - 1; want = next_want w.others ty; others = w.others; parent = w.parent; bound = w.bound; level = w.level; bad = bad; kept = w.kept }

-- the operands of the next operand, which has the row x and the byte n after its code
unfoldable pub operands_of : Walk → ℕ → ℕ → ℕ → Walk
operands_of w x n kept =
    record { at = w.at + own x + 1; left = count_of x n; want = first x; others = rest x; parent = w.at + 1; bound = w.bound + binds_of x n; level = w.level - 1; bad = 0; kept = kept }

-- the same operands, a mark found before them kept
unfoldable pub keeping : ℕ → Walk → Walk
keeping k w =
    record { at = w.at; left = w.left; want = w.want; others = w.others; parent = w.parent; bound = w.bound; level = w.level; bad = w.bad; kept = first_mark k w.kept }

abbrev pub keep : ℕ → Result Got Refusal → Result Got Refusal
keep k (Ok g) = Ok (record { next = g.next; bad = first_mark k g.bad })
keep k (Err x) = Err x

-- the operands that are left
unfoldable pub read_from : List ℕ → List ℕ → ℕ → Walk → Result Got Refusal
read_from s types end w =
    keep w.kept (list_with (head_at s types end w.bound w.level) (below_at w.level s types end w.bound) s types w.others w.parent w.left w.want w.at w.bad)

-- the next operand, seen to be o, is there and stands
pub record Stood (s types : List ℕ) (end : ℕ) (w : Walk) (o : Seen) : Type 0 where
  pub within : end ≤ length s
  pub here : w.at < end
  pub more : w.left ≡ 0 → ⊥
  pub going : Going w
  pub seen : o ≡ seen_at s types w.at
  pub free : refused_here (length types) end w.bound w.want w.at o.row.0 o.byte ≡ false

-- one turn: its operands are read from v on, and then the others
pub record Turn (s types : List ℕ) (end : ℕ) (w : Walk) (ty : ℕ) (v : Walk) : Type 0 where
  pub more : w.left ≡ 0 → ⊥
  pub few : v.left < 256
  pub level : v.level + 1 ≡ w.level
  pub unmarked : v.bad ≡ 0
  pub below : 0 < v.level → Going v
  pub reads : read_from s types end w ≡ on_read (read_from s types end v) (λ g. read_from s types end (next_operand w ty g.next g.bad))

-- ---- a whole formula
-- the formula's bytes are before this
unfoldable pub end_of : ℕ → ℕ → ℕ
end_of len start = pick (ltb start len) (pick (ltb 1024 (len - start)) (start + 1024) len) len

abbrev pub reading_of : Result Got Refusal → Result ℕ Refusal
reading_of (Ok g) = pick (eqb g.bad 0) (Ok g.next) (Err (record { cause = cause.Type; at = g.bad - 1 }))
reading_of (Err r) = Err r

-- a whole formula as one operand, of a parent that it always suits
unfoldable pub whole_at : Sort → ℕ → Walk
whole_at σ start =
    record { at = start; left = 1; want = first (root_row σ); others = rest (root_row σ); parent = 1; bound = 0; level = 32; bad = 0; kept = 0 }

-- One operand of a list: its own operands read from a kept mark on, and then the others.
use Rattle.std.specs.Prelude.{Result, Ok, Err}
use Prim.Native.Nat.{ℕ, zero, suc, ◌+◌, ◌-◌}
use mathlib.Core.Path.{◌≡◌, refl, sym, ap, ◌∙◌}
use mathlib.Core.Bool.{Bool, true, false}
use mathlib.Core.List.{List}
use native.Mathlib.Numerals.{sub-one}
use native.Mathlib.Omega.{arith}
use lib.Dec.{eqb}
use lib.Bits.{bit_and}
use borrow.Author.Tests.{ne_eqb}
use Rattle.formula.specs.Pick.{pick}
use Rattle.formula.specs.Mirror.PackedTable.{own, field, first, rest, count_of, binds_of, type_by}
use Rattle.reader.specs.Mirror.Node.{Ops, Head, fine, the_ops, head_at}
use Rattle.reader.specs.Mirror.Walk.{next_want, unlike, bad_after, on_head, on_read, read_below, list_with, read_list, below_at, first_mark, judged, next_operand, operands_of, keep, read_from}
use Rattle.reader.specs.declared.reader.Got.{Got}
use Rattle.reader.specs.declared.walk.Walk.{Walk}
use Rattle.refusal.specs.declared.Refusal.{Refusal}

-- ---- a list of operands, and one before which a mark is kept
pub list_starts : (l : ℕ) (s types : List ℕ) (end d x parent n at r f : ℕ) → r ≡ field x 40 → f ≡ field x 32
    → list_with (head_at s types end d l) (below_at l s types end d) s types r parent n f at 0 ≡ read_list l s types end d x parent n at
unfolding read_list below_at
list_starts zero s types end d x parent n at r f p q = rw (p, q) refl
list_starts (suc l) s types end d x parent n at r f p q = rw (p, q) refl

pub list_more : (hd : ℕ → ℕ → Head) (below : Ops → Result Got Refusal) (s types : List ℕ) (others parent n want p bad : ℕ) → (n ≡ 0 → ⊥)
    → list_with hd below s types others parent n want p bad
    ≡ on_head (hd want p) (λ o. on_read (below o) (λ g. list_with hd below s types others parent (n - 1) (next_want others o.ty) g.next (bad_after s types others want n p parent o.ty bad g.bad)))
unfolding list_with
list_more hd below s types others parent zero want p bad h = absurd (h refl)
list_more hd below s types others parent (suc n) want p bad h = rw (sub-one (suc n)) refl

first_twice : (j k b : ℕ) → first_mark j (first_mark k b) ≡ first_mark (first_mark j k) b
unfolding first_mark
first_twice j k b = go (eqb j 0) refl
  where
    go : (v : Bool) → eqb j 0 ≡ v → pick v (pick (eqb k 0) b k) j ≡ pick (eqb (pick v k j) 0) b (pick v k j)
    go true e = refl
    go false e = rw e refl

pub keep_twice : (j k : ℕ) (a : Result Got Refusal) → keep j (keep k a) ≡ keep (first_mark j k) a
keep_twice j k (Ok g) = ap (λ (b : ℕ). Ok (record { next = g.next; bad = b })) (first_twice j k g.bad)
keep_twice j k (Err x) = refl

pub keep_none : (a : Result Got Refusal) → keep 0 a ≡ a
unfolding first_mark
keep_none (Ok g) = refl
keep_none (Err x) = refl

keep_on : (k : ℕ) (a : Result Got Refusal) (K : Got → Result Got Refusal) → keep k (on_read a K) ≡ on_read a (λ g. keep k (K g))
keep_on k (Ok g) K = refl
keep_on k (Err x) K = refl

on_keep : (k : ℕ) (a : Result Got Refusal) (K : Got → Result Got Refusal) → on_read (keep k a) K ≡ on_read a (λ g. K (record { next = g.next; bad = first_mark k g.bad }))
on_keep k (Ok g) K = refl
on_keep k (Err x) K = refl

pub on_same : (a : Result Got Refusal) (K L : Got → Result Got Refusal) → ((g : Got) → K g ≡ L g) → on_read a K ≡ on_read a L
on_same (Ok g) K L h = h g
on_same (Err x) K L h = refl

-- no operands: what a leaf answers
list_none : (l : ℕ) (s types : List ℕ) (end d x parent at : ℕ) → read_list l s types end d x parent 0 at ≡ Ok (record { next = at; bad = 0 })
unfolding read_list list_with
list_none zero s types end d x parent at = refl
list_none (suc l) s types end d x parent at = refl

list_some : (l : ℕ) (s types : List ℕ) (end d x parent c at : ℕ) → read_list l s types end d x parent c at ≡ pick (eqb c 0) (Ok (record { next = at; bad = 0 })) (read_list l s types end d x parent c at)
list_some l s types end d x parent zero at = list_none l s types end d x parent at
list_some l s types end d x parent (suc c) at = rw (ne_eqb (suc c) 0 (λ z. omega (arith, z))) refl

below_pick : (l : ℕ) (s types : List ℕ) (end d : ℕ) (o : Ops) → (l ≡ 0 → ⊥)
    → below_at l s types end d o ≡ pick (eqb o.count 0) (Ok (record { next = o.next; bad = 0 })) (read_list (l - 1) s types end (d + o.binds) o.row o.mark o.count o.next)
unfolding below_at read_below
below_pick zero s types end d o h = absurd (h refl)
below_pick (suc l) s types end d o h = rw (sub-one (suc l)) refl

module _ (s types : List ℕ) (end : ℕ) where
  -- the operands of the next operand, the mark b kept
  below_from : (w : Walk) (x n b : ℕ) → (w.level ≡ 0 → ⊥) → read_from s types end (operands_of w x n b) ≡ keep b (below_at w.level s types end w.bound (the_ops types w.at x n))
  unfolding read_from operands_of
  below_from w x n b h =
      let i = w.bound + binds_of x n in
      let c = count_of x n in
      let q = w.at + own x + 1 in
      ap (keep b) (list_starts (w.level - 1) s types end i x (w.at + 1) c q (rest x) (first x) refl refl ∙ list_some (w.level - 1) s types end i x (w.at + 1) c q ∙ sym (below_pick w.level s types end w.bound (the_ops types w.at x n) h))

  -- judged before or after what is below: the parent comes first either way
  judged_after : (w : Walk) (ty below : ℕ) → (w.parent ≡ 0 → ⊥)
      → bad_after s types w.others w.want w.left w.at w.parent ty w.bad below ≡ first_mark (judged s types w ty) below
  unfolding bad_after judged first_mark
  judged_after w ty below h = go (eqb (bit_and w.want ty) 0) (unlike s types w.others w.left ty w.parent w.at)
    where
      go : (a b : Bool) → pick a w.parent (pick b w.parent (pick (eqb w.bad 0) below w.bad))
          ≡ pick (eqb (pick a w.parent (pick b w.parent w.bad)) 0) below (pick a w.parent (pick b w.parent w.bad))
      go true b = rw (ne_eqb w.parent 0 h) refl
      go false true = rw (ne_eqb w.parent 0 h) refl
      go false false = refl

  turn_list : (w : Walk) (x n ty b : ℕ) → (w.left ≡ 0 → ⊥) → head_at s types end w.bound w.level w.want w.at ≡ fine (the_ops types w.at x n) → ty ≡ type_by x types n
      → b ≡ judged s types w ty → (w.parent ≡ 0 → ⊥)
      → read_from s types end w ≡ on_read (below_at w.level s types end w.bound (the_ops types w.at x n)) (λ g. read_from s types end (next_operand w ty g.next (first_mark b g.bad)))
  unfolding read_from next_operand
  turn_list w x n ty b m e t j h =
      let hd = head_at s types end w.bound w.level in
      let below = below_at w.level s types end w.bound in
      let o = the_ops types w.at x n in
      let more : ℕ → ℕ → ℕ → Result Got Refusal = λ v q c. list_with hd below s types w.others w.parent (w.left - 1) v q c in
      ap (keep w.kept) (list_more hd below s types w.others w.parent w.left w.want w.at w.bad m
      ∙ ap (λ (y : Head). on_head y (λ o. on_read (below o) (λ g. more (next_want w.others o.ty) g.next (bad_after s types w.others w.want w.left w.at w.parent o.ty w.bad g.bad)))) e)
      ∙ keep_on w.kept (below o) (λ g. more (next_want w.others o.ty) g.next (bad_after s types w.others w.want w.left w.at w.parent o.ty w.bad g.bad))
      ∙ on_same (below o) _ _ (λ g. ap (λ (c : ℕ). keep w.kept (more (next_want w.others o.ty) g.next c)) (judged_after w o.ty g.bad h) ∙ rw (j, t) refl)

  -- THE TURN: an operand that stands is read by its own operands, and then the others are
  pub turn : (w : Walk) (x n ty b : ℕ) → (w.left ≡ 0 → ⊥) → (w.level ≡ 0 → ⊥) → (w.parent ≡ 0 → ⊥)
      → head_at s types end w.bound w.level w.want w.at ≡ fine (the_ops types w.at x n) → ty ≡ type_by x types n → b ≡ judged s types w ty
      → read_from s types end w ≡ on_read (read_from s types end (operands_of w x n b)) (λ g. read_from s types end (next_operand w ty g.next g.bad))
  turn w x n ty b m l h e t j =
      turn_list w x n ty b m e t j h
      ∙ sym (on_keep b (below_at w.level s types end w.bound (the_ops types w.at x n)) (λ g. read_from s types end (next_operand w ty g.next g.bad)))
      ∙ ap (λ (a : Result Got Refusal). on_read a (λ g. read_from s types end (next_operand w ty g.next g.bad))) (sym (below_from w x n b l))

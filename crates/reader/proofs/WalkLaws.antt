-- Each turn of the reader's loop, and what holds all the way.
use Rattle.std.specs.Prelude.{Result, Ok, Err, Some}
use Prim.Native.Nat.{ℕ, ◌+◌, ◌-◌, ◌*◌, ◌<◌, ◌≤◌}
use mathlib.Core.Path.{◌≡◌, refl, sym, ap, ◌∙◌}
use mathlib.Core.Bool.{Bool, true, false}
use mathlib.Core.List.{List}
use native.Mathlib.Nat.{pos_of_ne-zero}
use native.Mathlib.Omega.{arith}
use lib.ListN.{length}
use lib.Dec.{eqb}
use borrow.Author.Tests.{leb-false, eqb-false}
use Rattle.formula.specs.Pick.{pick}
use Rattle.formula.specs.Mirror.PackedTable.{row_at, own, type_by}
use Rattle.reader.specs.Mirror.Node.{Ops, Head, head_at, refusal_at, seen_at, refused_here, name_at}
use Rattle.formula.specs.Mirror.Bytes.{byte_at, own_byte}
use Rattle.reader.specs.Mirror.Walk.{unlike, on_read, list_with, below_at, Going, first_mark, judged, next_operand, operands_of, keeping, keep, read_from, Stood, Turn}
use Rattle.refusal.specs.declared.Refusal.{Refusal}
use Rattle.reader.specs.declared.reader.Got.{Got}
use Rattle.reader.specs.declared.node.Seen.{Seen}
use Rattle.reader.specs.declared.walk.Walk.{Walk}
use Rattle.formula.proofs.Choices.{never}
use Rattle.reader.proofs.Goings.{mark_none}
use Rattle.reader.proofs.NodeLaws.{Never, node_stood, stands, head_refused}
use Rattle.reader.proofs.NameLaws.{name_own, name_ops, name_stood, name_node, ident_no_pair}
use Rattle.reader.proofs.Turns.{list_more, keep_twice, on_same, turn}

first_zero : (b : ℕ) → first_mark b 0 ≡ b
unfolding first_mark
first_zero b = sym (mark_none b)

keep_is : (k : ℕ) (a : Result Got Refusal) → on_read a (λ g. Ok (record { next = g.next; bad = first_mark k g.bad })) ≡ keep k a
keep_is k (Ok g) = refl
keep_is k (Err x) = refl

module _ (s types : List ℕ) (end : ℕ) where
  abbrev head_of : Walk → Head
  head_of w = head_at s types end w.bound w.level w.want w.at

  from_none : (w : Walk) → w.left ≡ 0 → read_from s types end w ≡ Ok (record { next = w.at; bad = first_mark w.kept w.bad })
  unfolding read_from list_with
  from_none w h = rw h refl

  -- a head that is not accepted ends the reading
  from_never : (w : Walk) → (w.left ≡ 0 → ⊥) → Never (head_of w) → read_from s types end w ≡ Err (refusal_at s (length types) w.bound w.level w.want w.at)
  unfolding read_from
  from_never w m f =
      ap (keep w.kept) (list_more (head_at s types end w.bound w.level) (below_at w.level s types end w.bound) s types w.others w.parent w.left w.want w.at w.bad m)
      ∙ rw (head_refused s types end w.bound w.level w.want w.at f) refl

  from_keeping : (k : ℕ) (w : Walk) → read_from s types end (keeping k w) ≡ keep k (read_from s types end w)
  unfolding read_from keeping
  from_keeping k w = sym (keep_twice k w.kept (list_with (head_at s types end w.bound w.level) (below_at w.level s types end w.bound) s types w.others w.parent w.left w.want w.at w.bad))

  from_last : (w : Walk) (ty q b : ℕ) → w.left ≡ 1 → read_from s types end (next_operand w ty q b) ≡ Ok (record { next = q; bad = first_mark w.kept b })
  unfolding next_operand
  from_last w ty q b h = from_none (next_operand w ty q b) (rw h refl)

  -- an identifier has no operands
  name_leaf : (w : Walk) (n b : ℕ) → read_from s types end (operands_of w (row_at 32) n b) ≡ Ok (record { next = w.at + 2; bad = b })
  unfolding operands_of
  name_leaf w n b =
      let q : w.at + own (row_at 32) + 1 ≡ w.at + 2 = rw (name_own n) (omega arith) in
      from_none (operands_of w (row_at 32) n b) (ap (λ (o : Ops). o.count) (name_ops n types 0)) ∙ rw (q, first_zero b) refl

  -- no mark is changed by an identifier that is wanted
  name_judged : (w : Walk) (v : ℕ) → name_at s types end w.want w.at ≡ Some v → judged s types w v ≡ w.bad
  unfolding judged unlike
  name_judged w v h =
      let N = name_stood s types end w.want w.at v h in
      rw (N.1.1.1, N.1.1.0, ident_no_pair types (byte_at s (w.at + 1))) (go (eqb w.others 0) (eqb w.left 1))
    where
      go : (a b : Bool) → pick (pick a (pick b false false) false) w.parent w.bad ≡ w.bad
      go true true = refl
      go true false = refl
      go false b = refl

-- ---- what holds all the way from `from` on
pub record OnWay (s types : List ℕ) (end : ℕ) (from w : Walk) : Type 0 where
  pub within : end ≤ length s
  pub going : Going w
  pub level : w.level ≤ from.level
  pub reads : read_from s types end w ≡ read_from s types end from

pub way_starts : (s types : List ℕ) (end : ℕ) (w : Walk) → end ≤ length s → Going w → OnWay s types end w w
way_starts s types end w h G = record { within = h; going = G; level = omega arith; reads = refl }

-- one turn of the loop, by what it ensures
pub stood_made : (s types : List ℕ) (end : ℕ) (w : Walk) (o : Seen) (r : Bool) → end ≤ length s → w.at < end → (w.left ≡ 0 → ⊥) → Going w → o ≡ seen_at s types w.at
    → r ≡ refused_here (length types) end w.bound w.want w.at o.row.0 o.byte → r ≡ false → Stood s types end w o
stood_made s types end w o r i h m G q e k = record { within = i; here = h; more = m; going = G; seen = q; free = sym e ∙ k }

module _ (w : Walk) (G : Going w) where
  level_some : w.level ≡ 0 → ⊥
  level_some q = let l = G.levels in omega arith

  parent_some : w.parent ≡ 0 → ⊥
  parent_some q = let p = G.marked in omega arith

module _ (s types : List ℕ) (end : ℕ) (w : Walk) (o : Seen) (v : Walk) (b : ℕ) (S : Stood s types end w o) (b≡ : b ≡ judged s types w o.ty) (v≡ : v ≡ operands_of w o.row.0 o.byte b) where
  turn_reads : read_from s types end w ≡ on_read (read_from s types end v) (λ g. read_from s types end (next_operand w o.ty g.next g.bad))
  unfolding seen_at
  turn_reads =
      let x = row_at (byte_at s w.at) in
      let n = own_byte x s (w.at + 1) in
      let l = level_some w S.going in
      let free : refused_here (length types) end w.bound w.want w.at x n ≡ false = rw S.seen at S.free in
      let here = stands s types end w.bound w.level w.want w.at l S.here S.within free in
      rw (v≡, b≡, S.seen) (turn s types end w x n (type_by x types n) (judged s types w (type_by x types n)) S.more l (parent_some w S.going) here refl refl)

  pub turn_made : v.left < 256 → v.bound ≤ w.bound + 255 → Turn s types end w o.ty v
  unfolding operands_of
  turn_made f d =
      let g = S.going.levels in
      let h = S.going.bounds in
      let l : v.level ≡ w.level - 1 = rw v≡ refl in
      let p : v.parent ≡ w.at + 1 = rw v≡ refl in
      record {
        more = S.more;
        few = f;
        level = omega arith;
        unmarked = rw v≡ refl;
        below = λ i. record { marked = omega arith; levels = i; few = f; bounds = omega arith };
        reads = turn_reads;
      }

module _ (s types : List ℕ) (end : ℕ) (w : Walk) (ty : ℕ) (v : Walk) (T : Turn s types end w ty v) where
  pub turn_more : 0 < w.left
  turn_more = pos_of_ne-zero T.more

  pub turn_some : w.left ≡ 0 → ⊥
  turn_some = T.more

  pub less_last : (u : Walk) (k : ℕ) → u ≡ keeping k v → u.level * 256 + u.left < w.level * 256 + w.left
  unfolding keeping
  less_last u k e = rw e (let f = T.few in let i = T.level in omega arith)

-- after the next operand
module _ (w u : Walk) (ty q b : ℕ) (e : u ≡ next_operand w ty q b) where
  pub less_next : (w.left ≡ 0 → ⊥) → u.level * 256 + u.left < w.level * 256 + w.left
  unfolding next_operand
  less_next h = rw e (omega arith)

  way_next : (s types : List ℕ) (end : ℕ) (from : Walk) → OnWay s types end from w → read_from s types end u ≡ read_from s types end from → OnWay s types end from u
  unfolding next_operand
  way_next s types end from I h =
      let G = I.going in
      let f = G.few in
      record {
        within = I.within;
        going = rw e (record { marked = G.marked; levels = G.levels; few = omega arith; bounds = G.bounds });
        level = rw e I.level;
        reads = h;
      }

module _ (s types : List ℕ) (end : ℕ) (from w : Walk) (I : OnWay s types end from w) where
  pub way_ends : (b : ℕ) → w.left ≡ 0 → b ≡ first_mark w.kept w.bad → Ok (record { next = w.at; bad = b }) ≡ read_from s types end from
  way_ends b h q = ap (λ (v : ℕ). Ok (record { next = w.at; bad = v })) q ∙ sym (from_none s types end w h) ∙ I.reads

  module _ (m : w.left ≡ 0 → ⊥) where
    module _ (y : Refusal) (y≡ : y ≡ refusal_at s (length types) w.bound w.level w.want w.at) where
      pub way_past : end ≤ w.at → Err y ≡ read_from s types end from
      way_past h =
          ap Err y≡
          ∙ sym (from_never s types end w m (λ o q. let i : w.at + own (row_at (byte_at s w.at)) < end = leb-false _ _ (node_stood s types end w.bound w.level w.want w.at o q).1.0 in omega arith))
          ∙ I.reads

      pub way_refused : (o : Seen) (r : Bool) → o ≡ seen_at s types w.at → r ≡ refused_here (length types) end w.bound w.want w.at o.row.0 o.byte → r ≡ true → Err y ≡ read_from s types end from
      unfolding seen_at
      way_refused o r o≡ r≡ h =
          ap Err y≡ ∙ sym (from_never s types end w m (λ p q. not_both (sym r≡ ∙ h) (rw o≡ (node_stood s types end w.bound w.level w.want w.at p q).1.1))) ∙ I.reads
        where
          not_both : {b : Bool} → b ≡ true → b ≡ false → ⊥
          not_both p q = never (sym q ∙ p)

    pub way_name : (v : ℕ) (u : Walk) → name_at s types end w.want w.at ≡ Some v → u ≡ next_operand w v (w.at + 2) w.bad → OnWay s types end from u
    way_name v u k u≡ =
        let n = byte_at s (w.at + 1) in
        let l = level_some w I.going in
        let ty≡ : v ≡ type_by (row_at 32) types n = (name_stood s types end w.want w.at v k).1.1.1 ∙ sym (ap (λ (o : Ops). o.ty) (name_ops n types 0)) in
        let b≡ : w.bad ≡ judged s types w v = sym (name_judged s types end w v k) in
        let t = turn s types end w (row_at 32) n v w.bad m l (parent_some w I.going) (name_node s types end w.want w.at v k w.bound w.level l I.within) ty≡ b≡ in
        way_next w u v (w.at + 2) w.bad u≡ s types end from I (rw u≡ (sym (t ∙ rw (name_leaf s types end w n w.bad) refl) ∙ I.reads))

  module _ (ty : ℕ) (v : Walk) (T : Turn s types end w ty v) where
    after : on_read (read_from s types end v) (λ g. read_from s types end (next_operand w ty g.next g.bad)) ≡ read_from s types end from
    after = sym T.reads ∙ I.reads

    pub way_leaf : (u : Walk) → v.left ≡ 0 → u ≡ next_operand w ty v.at v.kept → OnWay s types end from u
    way_leaf u j u≡ =
        way_next w u ty v.at v.kept u≡ s types end from I (rw u≡ (sym (rw (from_none s types end v j, T.unmarked, first_zero v.kept) refl) ∙ after))

    pub way_deep : (v.left ≡ 0 → ⊥) → v.level ≡ 0 → (y : Refusal) → y ≡ refusal_at s (length types) v.bound v.level v.want v.at → Err y ≡ read_from s types end from
    way_deep j l y y≡ =
        let f : Never (head_of s types end v) = λ p q. eqb-false _ _ (node_stood s types end v.bound v.level v.want v.at p q).0 l in
        ap Err y≡ ∙ sym (ap (λ (y : Result Got Refusal). on_read y (λ g. read_from s types end (next_operand w ty g.next g.bad))) (from_never s types end v j f)) ∙ after

    module _ (l : v.level ≡ 0 → ⊥) where
      pub going_below : Going v
      going_below = T.below (pos_of_ne-zero l)

      pub way_last : (u : Walk) → u ≡ keeping w.kept v → w.left ≡ 1 → OnWay s types end from u
      unfolding keeping
      way_last u u≡ j =
          let H = going_below in
          let i = T.level in
          let h = I.level in
          record {
            within = I.within;
            going = rw u≡ (record { marked = H.marked; levels = H.levels; few = H.few; bounds = H.bounds });
            level = rw u≡ (omega arith);
            reads = rw u≡ (from_keeping s types end w.kept v ∙ sym (on_same (read_from s types end v) _ _ (λ g. from_last s types end w ty g.next g.bad j) ∙ keep_is w.kept (read_from s types end v)) ∙ after);
          }

    pub call_falls : (t : ℕ) → from.level * 2 + 1 ≡ t → v.level * 2 + 2 < t
    call_falls t h = let i = T.level in let k = I.level in omega arith

    module _ (a : Result Got Refusal) (a≡ : a ≡ read_from s types end v) where
      pub way_no : (y : Refusal) → a ≡ Err y → Err y ≡ read_from s types end from
      way_no y q = rw (← a≡, q) at after

      pub way_on : (g : Got) (u : Walk) → a ≡ Ok g → u ≡ next_operand w ty g.next g.bad → OnWay s types end from u
      way_on g u q u≡ = way_next w u ty g.next g.bad u≡ s types end from I (rw u≡ (rw (← a≡, q) at after))

pub into_falls : (l t : ℕ) → l * 2 + 2 ≡ t → l * 2 + 1 < t
into_falls l t e = omega arith

pub ruleset turns = (way_starts, stood_made, way_ends, way_past, way_refused, turn_more, turn_some, way_deep, going_below, call_falls, way_no, into_falls)

-- The packed table says, group by group and column by column, what the lists say: computed tests over all rows.
use Prim.Native.Nat.{ℕ, zero, suc, ◌+◌, ◌<◌}
use mathlib.Core.Path.{◌≡◌, refl, sym, ap, ◌∙◌}
use mathlib.Core.Bool.{Bool, true, false, ◌&&◌}
use mathlib.Core.List.{List, [], ◌∷◌, map}
use lib.ListN.{length, get_or, take, drop}
use lib.Seq.{get_or-take, get_or-drop}
use lib.Dec.{eqb}
use borrow.Author.Tests.{eqb-true}
use mathlib.Core.Option.{some}
use Rattle.formula.specs.Pick.{at}
use Rattle.formula.specs.Codes.{mem, rel_byte}
use Rattle.formula.specs.Equal.{same_bytes}
use Rattle.formula.specs.Mirror.PackedTable.{field}
use Rattle.formula.proofs.Choices.{none_some, and_left, and_right, agree, agree_is}
use Rattle.formula.proofs.SameBytes.{same_bytes_is}
use Rattle.keys.specs.Keys.{Key, key, in_nat, in_nat1, Shape, equal, less, less_equal, in_set, inℕ, inℕ1, subset, subset_equal, Marked, rows_of}
use Rattle.keys.specs.Mirror.PackedKeys.{side_number, nat_number, nat1_number, condition_number, pack_row, shapes, shape_number, group_number, itself_number, nothing_number, key_table, key_at}

-- ---- columns
abbrev pub code_of : Key → ℕ
code_of (key q a b) = rel_byte q
code_of (in_nat a) = rel_byte mem
code_of (in_nat1 a) = rel_byte mem

abbrev pub left_of : Key → ℕ
left_of (key q a b) = side_number a
left_of (in_nat a) = side_number a
left_of (in_nat1 a) = side_number a

abbrev pub right_of : Key → ℕ
right_of (key q a b) = side_number b
right_of (in_nat a) = nat_number
right_of (in_nat1 a) = nat1_number

abbrev packed : Marked → Bool
packed m =
    eqb (field (pack_row m) 0) (code_of m.key_is) && (eqb (field (pack_row m) 8) (left_of m.key_is) && (eqb (field (pack_row m) 16) (right_of m.key_is)
    && (eqb (field (pack_row m) 24) (condition_number m.condition) && agree (eqb (field (pack_row m) 32) 1) m.value)))

pub record Columns (m : Marked) : Type 0 where
  pub code_is : field (pack_row m) 0 ≡ code_of m.key_is
  pub left_is : field (pack_row m) 8 ≡ left_of m.key_is
  pub right_is : field (pack_row m) 16 ≡ right_of m.key_is
  pub condition_is : field (pack_row m) 24 ≡ condition_number m.condition
  pub value_is : eqb (field (pack_row m) 32) 1 ≡ m.value

columns : (m : Marked) → packed m ≡ true → Columns m
columns m e =
    let e₁ = and_right (eqb (field (pack_row m) 0) (code_of m.key_is)) _ e in
    let e₂ = and_right (eqb (field (pack_row m) 8) (left_of m.key_is)) _ e₁ in
    let e₃ = and_right (eqb (field (pack_row m) 16) (right_of m.key_is)) _ e₂ in
    let e₄ = and_right (eqb (field (pack_row m) 24) (condition_number m.condition)) _ e₃ in
    record {
      code_is = eqb-true _ _ (and_left _ _ e);
      left_is = eqb-true _ _ (and_left _ _ e₁);
      right_is = eqb-true _ _ (and_left _ _ e₂);
      condition_is = eqb-true _ _ (and_left _ _ e₃);
      value_is = agree_is _ _ e₄;
    }

abbrev pub every : {A : Type 0} → (A → Bool) → List A → Bool
every f [] = true
every f (a ∷ l) = f a && every f l

abbrev pub AllColumns : List Marked → Type 0
AllColumns [] = Unit {0}
AllColumns (m ∷ ms) = Columns m × AllColumns ms

all_columns : (ms : List Marked) → every packed ms ≡ true → AllColumns ms
all_columns [] e = tt
all_columns (m ∷ ms) e = (columns m (and_left (packed m) (every packed ms) e), all_columns ms (and_right (packed m) (every packed ms) e))

-- ---- groups
abbrev pub group_of : Bool → Shape → ℕ
group_of b q = group_number b (shape_number q)

-- where the rows of a group start
abbrev pub first_of : Bool → Shape → ℕ
first_of b q = field (key_at (group_of b q)) 0

-- how many rows the table says, that they stand there, and their columns
abbrev right : Bool → Shape → Bool
right b q =
    eqb (field (key_at (group_of b q)) 8) (length (rows_of b q))
    && (same_bytes (take (length (rows_of b q)) (drop (first_of b q) key_table)) (map pack_row (rows_of b q)) && every packed (rows_of b q))

-- THE TEST of the table
all_right : (every (right true) shapes && every (right false) shapes) ≡ true
unfolding field key_at key_table rows_of group_number same_bytes
all_right = refl

every_at : {A : Type 0} (f : A → Bool) (l : List A) → every f l ≡ true → (i : ℕ) (a : A) → at (map some l) i ≡ some a → f a ≡ true
every_at f [] e i a q = none_some q
every_at f (c ∷ l) e zero a q = let z : c ≡ a = cc in rw (← z) (and_left (f c) (every f l) e)
every_at f (c ∷ l) e (suc i) a q = every_at f l (and_right (f c) (every f l) e) i a q

listed : (q : Shape) → at (map some shapes) (shape_number q) ≡ some q
listed = elim [ equal ↦ refl | less ↦ refl | less_equal ↦ refl | in_set ↦ refl | inℕ ↦ refl | inℕ1 ↦ refl | subset ↦ refl | subset_equal ↦ refl ]

right_at : (b : Bool) (q : Shape) → right b q ≡ true
right_at true q = every_at (right true) shapes (and_left _ _ all_right) (shape_number q) q (listed q)
right_at false q = every_at (right false) shapes (and_right (every (right true) shapes) _ all_right) (shape_number q) q (listed q)

module _ (b : Bool) (q : Shape) where
  pub count_is : field (key_at (group_of b q)) 8 ≡ length (rows_of b q)
  count_is = eqb-true _ _ (and_left _ _ (right_at b q))

  rest_right : (same_bytes (take (length (rows_of b q)) (drop (first_of b q) key_table)) (map pack_row (rows_of b q)) && every packed (rows_of b q)) ≡ true
  rest_right = and_right (eqb (field (key_at (group_of b q)) 8) (length (rows_of b q))) _ (right_at b q)

  pub row_there : (k : ℕ) → k < length (rows_of b q) → key_at (first_of b q + k) ≡ get_or (map pack_row (rows_of b q)) k 0
  unfolding key_at
  row_there k h =
      sym (get_or-drop (first_of b q) key_table k 0) ∙ sym (get_or-take (length (rows_of b q)) (drop (first_of b q) key_table) k 0 h)
      ∙ ap (λ (l : List ℕ). get_or l k 0) (same_bytes_is _ _ (and_left _ _ rest_right))

  pub columns_of : AllColumns (rows_of b q)
  columns_of = all_columns (rows_of b q) (and_right (same_bytes (take (length (rows_of b q)) (drop (first_of b q) key_table)) (map pack_row (rows_of b q))) _ rest_right)

-- ---- a source that gives only itself, and a literal
-- its one row
abbrev pub lone_row : Bool → ℕ
lone_row b = key_at (field (key_at (itself_number b)) 0 + 0)

pub lone_count : (b : Bool) → field (key_at (itself_number b)) 8 ≡ 1
unfolding field key_at key_table rows_of
lone_count = elim [ true ↦ refl | false ↦ refl ]

pub lone_code : (b : Bool) → field (lone_row b) 0 ≡ 0
unfolding field key_at key_table rows_of
lone_code = elim [ true ↦ refl | false ↦ refl ]

pub lone_value : (b : Bool) → eqb (field (lone_row b) 32) 1 ≡ b
unfolding field key_at key_table rows_of
lone_value = elim [ true ↦ refl | false ↦ refl ]

pub literal_count : field (key_at nothing_number) 8 ≡ 0
unfolding field key_at key_table rows_of
literal_count = refl

-- What the code answers of a source's row is what its entry at that position says.
use Prim.Native.Nat.{ℕ, zero, suc, ◌+◌}
use mathlib.Core.Path.{◌≡◌, refl, ap, ap₂, ◌∙◌}
use mathlib.Core.Bool.{Bool, true, false}
use mathlib.Core.Option.{some, none}
use mathlib.Core.List.{List, [], ◌∷◌, ◌++◌, map, append-nil}
use native.Mathlib.Omega.{arith}
use lib.ListN.{length, get_or}
use lib.Dec.{eqb, leb}
use borrow.Author.Tests.{le-leb, lt-leb, leb-true, leb-false}
use Rattle.std.specs.Prelude.{Some, None}
use Rattle.formula.specs.Pick.{pick, at}
use Rattle.formula.specs.Codes.{Rel, eq, lt, le, gt, ge, mem, sub, sube, con, nat, nat1, rel_byte}
use Rattle.formula.specs.Types.{Ty, types_of}
use Rattle.formula.specs.Tree.{Tree, node, nil, encode}
use Rattle.formula.specs.Mirror.PackedTable.{field}
use Rattle.formula.specs.Equal.{same_bytes, same}
use Rattle.formula.proofs.SameType.{same_test}
use Rattle.keys.specs.Keys.{Side, L, R, Z, Key, key, in_nat, in_nat1, Marked, rows_of, Condition}
use Rattle.keys.specs.Substitutes.{Relation, side, key_tree, entry_of, meets}
use Rattle.keys.specs.Mirror.PackedKeys.{side_number, itself_number, condition_number, pack_row, key_at}
use Rattle.keys.specs.Mirror.Constants.{constants}
use Rattle.keys.specs.Mirror.RowTests.{condition_by, meets_by, side_by, side_bytes, side_part, row_is}
use Rattle.variations.specs.Mirror.SourceBytes.{row_says, key_is}
use Rattle.variations.specs.Answers.{answer}
use Rattle.keys.specs.declared.rows.Source.{Source}
use Rattle.keys.specs.declared.rows.Asked.{Asked}
use Rattle.keys.proofs.TableIs.{code_of, left_of, right_of, Columns, AllColumns, first_of, row_there, columns_of, lone_row, lone_code, lone_value}
use Rattle.keys.proofs.RowIs.{Bytes, SideBytes, AskedBytes, row_relation, row_whole}
use Rattle.keys.proofs.Standing.{there_bytes}
use Rattle.variations.proofs.SourceIs.{PartIs}

-- ---- the sides of keys
abbrev left_tree : Tree → Tree → Key → Tree
left_tree l r (key q a b) = side l r a
left_tree l r (in_nat a) = side l r a
left_tree l r (in_nat1 a) = side l r a

abbrev right_tree : Tree → Tree → Key → Tree
right_tree l r (key q a b) = side l r b
right_tree l r (in_nat a) = node (con nat) nil
right_tree l r (in_nat1 a) = node (con nat1) nil

two_sides : (c : ℕ) (a b : List ℕ) → c ∷ (a ++ (b ++ [])) ≡ c ∷ (a ++ b)
two_sides c a b = rw (append-nil b) refl

key_bytes : (l r : Tree) (k : Key) → encode (key_tree l r k) ≡ code_of k ∷ (encode (left_tree l r k) ++ encode (right_tree l r k))
unfolding encode
key_bytes l r (key q a b) = two_sides (rel_byte q) (encode (side l r a)) (encode (side l r b))
key_bytes l r (in_nat a) = two_sides (rel_byte mem) (encode (side l r a)) (encode (node (con nat) nil))
key_bytes l r (in_nat1 a) = two_sides (rel_byte mem) (encode (side l r a)) (encode (node (con nat1) nil))

rel_code : (q : Rel) → rel_byte q ≡ 0 → ⊥
rel_code = elim [ eq ↦ (λ e. omega (arith, e)) | lt ↦ (λ e. omega (arith, e)) | le ↦ (λ e. omega (arith, e)) | gt ↦ (λ e. omega (arith, e)) | ge ↦ (λ e. omega (arith, e)) | mem ↦ (λ e. omega (arith, e)) | sub ↦ (λ e. omega (arith, e)) | sube ↦ (λ e. omega (arith, e)) ]

key_code : (k : Key) → code_of k ≡ 0 → ⊥
key_code (key q a b) = rel_code q
key_code (in_nat a) = rel_code mem
key_code (in_nat1 a) = rel_code mem

module _ (s types : List ℕ) (x : Source) (l r : Tree) (A : PartIs s types x.sides.left l) (B : PartIs s types x.sides.right r) where
  side_there : (a : Side) → SideBytes s x (side_by (side_number a)) (encode (side l r a))
  unfolding side_by side_bytes side_part constants encode
  side_there L = rw (← A.long) (there_bytes s x.sides.left.at l A.side.there)
  side_there R = rw (← B.long) (there_bytes s x.sides.right.at r B.side.there)
  side_there Z = record { long = refl; in_bounds = omega arith; bytes_are = refl }

  left_there : (k : Key) → SideBytes s x (side_by (left_of k)) (encode (left_tree l r k))
  left_there (key q a b) = side_there a
  left_there (in_nat a) = side_there a
  left_there (in_nat1 a) = side_there a

  right_there : (k : Key) → SideBytes s x (side_by (right_of k)) (encode (right_tree l r k))
  unfolding side_by side_bytes side_part constants encode
  right_there (key q a b) = side_there b
  right_there (in_nat a) = record { long = refl; in_bounds = omega arith; bytes_are = refl }
  right_there (in_nat1 a) = record { long = refl; in_bounds = omega arith; bytes_are = refl }

-- ---- a row
entry_answer : (Γ : List Ty) (q : Relation) (m : Marked) (y : Tree) (v : Bool) → v ≡ m.value
    → pick (pick (meets Γ q.left q.right m.condition) (same (key_tree q.left q.right m.key_is) y) false) (Some v) None ≡ answer (entry_of Γ q m) y
entry_answer Γ q m y v e = rw e (go (meets Γ q.left q.right m.condition))
  where
    go : (c : Bool) → pick (pick c (same (key_tree q.left q.right m.key_is) y) false) (Some m.value) None
        ≡ answer (pick c (some (record { key = key_tree q.left q.right m.key_is; value = m.value })) none) y
    go true = refl
    go false = refl

module _ (s types : List ℕ) (x : Source) (q : Relation) (A : PartIs s types x.sides.left q.left) (B : PartIs s types x.sides.right q.right)
    (M : (c : Condition) → meets_by x.facts (condition_by (condition_number c)) ≡ meets (types_of types) q.left q.right c) (t : List ℕ) (y : Asked) (w : Tree) (Y : AskedBytes t y (encode w)) where
  row_answer : (m : Marked) → Columns m → row_says s x t y (pack_row m) ≡ answer (entry_of (types_of types) q m) w
  unfolding same
  row_answer m C =
      let k = m.key_is in
      let l = left_tree q.left q.right k in
      let r = right_tree q.left q.right k in
      let a : SideBytes s x (side_by (field (pack_row m) 8)) (encode l) = rw C.left_is (left_there s types x q.left q.right A B k) in
      let b : SideBytes s x (side_by (field (pack_row m) 16)) (encode r) = rw C.right_is (right_there s types x q.left q.right A B k) in
      let i : row_is s x (pack_row m) t y ≡ pick (meets (types_of types) q.left q.right m.condition) (same (key_tree q.left q.right k) w) false =
      row_relation s x (pack_row m) t y (encode w) Y (code_of k) (encode l) (encode r) a b C.code_is (key_code k) ∙ rw (C.condition_is, M m.condition, key_bytes q.left q.right k) refl in
      rw i (entry_answer (types_of types) q m w (eqb (field (pack_row m) 32) 1) C.value_is)

  -- all rows of a list
  leb_suc : (n k : ℕ) → leb (suc n) (suc k) ≡ leb n k
  leb_suc n k =
      same_test (leb (suc n) (suc k)) (leb n k) (λ e. let i = leb-true (suc n) (suc k) e in le-leb n k (omega arith)) (λ e. let i = leb-true n k e in le-leb (suc n) (suc k) (omega arith))

  rows_answer : (ms : List Marked) → AllColumns ms → (k : ℕ)
      → pick (leb (length ms) k) None (row_says s x t y (get_or (map pack_row ms) k 0)) ≡ answer (at (map (entry_of (types_of types) q) ms) k) w
  rows_answer [] C k = simp (le-leb 0 k (omega arith))
  rows_answer (m ∷ ms) C zero = simp (lt-leb (suc (length ms)) 0 (omega arith)) (row_answer m C.0)
  rows_answer (m ∷ ms) C (suc k) = rw (leb_suc (length ms) k) (rows_answer ms C.1 k)

  pub relation_answers : (b : Bool) → x.first ≡ first_of b q.shape → x.count ≡ length (rows_of b q.shape) → (k : ℕ)
      → key_is s x k t y ≡ answer (at (map (entry_of (types_of types) q) (rows_of b q.shape)) k) w
  unfolding key_is
  relation_answers b f c k =
      ap₂ (λ (n i : ℕ). pick (leb n k) None (row_says s x t y (key_at (i + k)))) c f
      ∙ go (leb (length (rows_of b q.shape)) k) refl ∙ rows_answer (rows_of b q.shape) (columns_of b q.shape) k
    where
      go : (v : Bool) → leb (length (rows_of b q.shape)) k ≡ v
          → pick (leb (length (rows_of b q.shape)) k) None (row_says s x t y (key_at (first_of b q.shape + k)))
          ≡ pick (leb (length (rows_of b q.shape)) k) None (row_says s x t y (get_or (map pack_row (rows_of b q.shape)) k 0))
      go true e = simp e
      go false e = rw (row_there b q.shape k (leb-false (length (rows_of b q.shape)) k e)) refl

-- ---- a source that gives only itself
module _ (s : List ℕ) (x : Source) (z : Tree) (X : Bytes s x.whole.at x.whole.end (encode z)) (t : List ℕ) (y : Asked) (w : Tree) (Y : AskedBytes t y (encode w)) where
  pub lone_answers : (b : Bool) → x.first ≡ field (key_at (itself_number b)) 0 → x.count ≡ 1 → (k : ℕ) → key_is s x k t y ≡ answer (at (some (record { key = z; value = b }) ∷ []) k) w
  unfolding key_is same
  lone_answers b f c zero =
      let i : row_says s x t y (key_at (x.first + 0)) ≡ pick (same_bytes (encode z) (encode w)) (Some b) None =
      ap (λ (i : ℕ). row_says s x t y (key_at (i + 0))) f ∙ ap₂ (λ (u v : Bool). pick u (Some v) None) (row_whole s x (lone_row b) t y (encode w) Y (encode z) X (lone_code b)) (lone_value b) in
      simp (lt-leb x.count 0 (omega (arith, c))) i
  lone_answers b f c (suc k) = simp (le-leb x.count (suc k) (omega (arith, c)))

pub none_answers : (s : List ℕ) (x : Source) (t : List ℕ) (y : Asked) (w : Tree) → x.count ≡ 0 → (k : ℕ) → key_is s x k t y ≡ answer (at [] k) w
unfolding key_is
none_answers s x t y w c k = simp (le-leb x.count k (omega (arith, c)))

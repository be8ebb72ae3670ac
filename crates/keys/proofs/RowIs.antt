-- A row's test on bytes is the test whether its key is the predicate asked.
use Prim.Native.Nat.{ℕ, suc, ◌+◌, ◌-◌, ◌<◌, ◌≤◌}
use mathlib.Core.Path.{◌≡◌, refl, sym, ap, ◌∙◌}
use mathlib.Core.Bool.{Bool, true, false, ◌&&◌}
use mathlib.Core.List.{List, [], ◌∷◌, ◌++◌}
use native.Mathlib.Omega.{arith}
use lib.ListN.{length, get_or, take, drop, length-append, length-drop}
use lib.Seq.{drop-drop, take-add, length-take-le}
use lib.Dec.{eqb, leb}
use borrow.Author.Tests.{le-ltb, eq-eqb, ne_eqb, eqb-true, eqb-false, leb-true, leb-false}
use Rattle.formula.specs.Pick.{pick}
use Rattle.formula.specs.Mirror.PackedTable.{field}
use Rattle.formula.specs.Equal.{same_bytes}
use Rattle.formula.specs.Mirror.Ranges.{same_at}
use Rattle.formula.proofs.SameBytes.{same_bytes_is, same_ranges}
use Rattle.formula.proofs.Places.{one_more}
use Rattle.formula.specs.Mirror.Ranges.{same_range}
use Rattle.keys.specs.Mirror.Constants.{part}
use Rattle.keys.specs.Mirror.RowTests.{condition_by, meets_by, side_by, side_bytes, side_part, side_length, side_is, sides_are, row_is}
use Rattle.keys.specs.declared.row.Side.{Side}
use Rattle.keys.specs.declared.rows.Source.{Source}
use Rattle.keys.specs.declared.rows.Asked.{Asked}

-- the bytes xs stand from p to e
pub record Bytes (s : List ℕ) (p e : ℕ) (xs : List ℕ) : Type 0 where
  pub long : p + length xs ≡ e
  pub in_bounds : e ≤ length s
  pub bytes_are : take (length xs) (drop p s) ≡ xs

-- ---- lists of one length are compared part by part
pub same_parts : (cs bs xs ys : List ℕ) → length cs ≡ length xs → same_bytes (cs ++ bs) (xs ++ ys) ≡ pick (same_bytes cs xs) (same_bytes bs ys) false
unfolding same_bytes
same_parts [] bs [] ys h = refl
same_parts [] bs (x ∷ xs) ys h = absurd (omega (arith, h))
same_parts (a ∷ cs) bs [] ys h = absurd (omega (arith, h))
same_parts (a ∷ cs) bs (x ∷ xs) ys h = go (eqb a x) (same_parts cs bs xs ys (omega arith))
  where
    go : (b : Bool) → same_bytes (cs ++ bs) (xs ++ ys) ≡ pick (same_bytes cs xs) (same_bytes bs ys) false → (b && same_bytes (cs ++ bs) (xs ++ ys)) ≡ pick (b && same_bytes cs xs) (same_bytes bs ys) false
    go true e = e
    go false e = refl

pub other_length : (xs ys : List ℕ) → (length xs ≡ length ys → ⊥) → same_bytes xs ys ≡ false
other_length xs ys h = go (same_bytes xs ys) refl
  where
    go : (b : Bool) → same_bytes xs ys ≡ b → b ≡ false
    go true e = absurd (h (ap length (same_bytes_is xs ys e)))
    go false e = refl

-- ranges are the same if their bytes are
pub ranges_are : (s : List ℕ) (a e : ℕ) (xs : List ℕ) → Bytes s a e xs → (t : List ℕ) (b f : ℕ) (ys : List ℕ) → Bytes t b f ys → same_range s a e t b f ≡ same_bytes xs ys
unfolding same_range
ranges_are s a e xs X t b f ys Y =
    let i = X.long in
    let j = X.in_bounds in
    let k = Y.long in
    let l = Y.in_bounds in
    simp (le-ltb (length s) e j, le-ltb e a (omega arith), le-ltb (length t) f l, le-ltb f b (omega arith)) (go (eqb (e - a) (f - b)) refl)
  where
    go : (v : Bool) → eqb (e - a) (f - b) ≡ v → pick v (same_at (e - a) s a t b) false ≡ same_bytes xs ys
    go true q =
        let i = X.long in
        let j = X.in_bounds in
        let k = Y.long in
        let l = Y.in_bounds in
        let n = eqb-true (e - a) (f - b) q in
        let m : e - a ≡ length xs = omega arith in
        let o : length xs ≡ length ys = omega arith in
        rw m (same_ranges s t (length xs) a b (omega arith) (omega arith) ∙ rw X.bytes_are (ap (λ (n : ℕ). same_bytes xs (take n (drop b t))) o ∙ ap (same_bytes xs) Y.bytes_are))
    go false q =
        let i = X.long in
        let k = Y.long in
        let n = eqb-false (e - a) (f - b) q in sym (other_length xs ys (λ o. n (omega (arith, o))))

-- ---- the sides of a key
-- the side a has the bytes xs
abbrev pub SideBytes : List ℕ → Source → Side → List ℕ → Type 0
SideBytes s x a xs = Bytes (side_bytes s a) (side_part x a).at (side_part x a).end xs

-- the bytes ys of the predicate asked
pub record AskedBytes (t : List ℕ) (y : Asked) (ys : List ℕ) : Type 0 where
  pub there : Bytes t y.whole.at y.whole.end ys
  pub some_byte : 0 < length ys
  pub code_is : y.code ≡ get_or t y.whole.at 0

-- n bytes from p on
taken : (t : List ℕ) (p n : ℕ) → p + n ≤ length t → Bytes t p (p + n) (take n (drop p t))
taken t p n h =
    let l : length (take n (drop p t)) ≡ n = length-take-le n (drop p t) (rw length-drop (omega arith)) in
    record { long = ap (λ (k : ℕ). p + k) l; in_bounds = h; bytes_are = ap (λ (k : ℕ). take k (drop p t)) l }

-- a code, m bytes and n bytes
three : (t : List ℕ) (p m n : ℕ) → p < length t → take (suc (m + n)) (drop p t) ≡ get_or t p 0 ∷ (take m (drop (p + 1) t) ++ take n (drop (p + 1 + m) t))
three t p m n h =
    rw (one_more t p h) (ap (λ (l : List ℕ). get_or t p 0 ∷ l) (take-add m n (drop (p + 1) t) ∙ ap (λ (l : List ℕ). take m (drop (p + 1) t) ++ take n l) (drop-drop m (p + 1) t)))

module _ (s : List ℕ) (x : Source) (l r : Side) (us vs : List ℕ) (A : SideBytes s x l us) (B : SideBytes s x r vs) (t : List ℕ) (y : Asked) (ys : List ℕ) (Y : AskedBytes t y ys) where
  -- longer than the left side
  sides_same : (n : ℕ) → length ys ≡ suc (length us + n)
      → pick (side_is s x l t (part (y.whole.at + 1) (y.whole.at + 1 + length us))) (side_is s x r t (part (y.whole.at + 1 + length us) y.whole.end)) false ≡ same_bytes (y.code ∷ (us ++ vs)) ys
  unfolding same_bytes
  sides_same n e =
      let i = Y.there.long in
      let j = Y.there.in_bounds in
      let m = length us in
      let p = y.whole.at in
      let us' = take m (drop (p + 1) t) in
      let vs' = take n (drop (p + 1 + m) t) in
      let d : p + 1 + m + n ≡ y.whole.end = omega arith in
      let U = taken t (p + 1) m (omega arith) in
      let W : Bytes t (p + 1 + m) y.whole.end vs' = rw (← d) (taken t (p + 1 + m) n (omega arith)) in
      let o : length us' ≡ m = length-take-le m (drop (p + 1) t) (rw length-drop (omega arith)) in
      let q : ys ≡ get_or t p 0 ∷ (us' ++ vs') = sym Y.there.bytes_are ∙ ap (λ (k : ℕ). take k (drop p t)) e ∙ three t p m n (omega arith) in
      rw (ranges_are (side_bytes s l) (side_part x l).at (side_part x l).end us A t (p + 1) (p + 1 + m) us' U, ranges_are (side_bytes s r) (side_part x r).at (side_part x r).end vs B t (p + 1 + m) y.whole.end vs' W, q)
      (simp (eq-eqb y.code (get_or t p 0) Y.code_is) (sym (same_parts us vs us' vs' (sym o))))

  pub sides_are_law : sides_are s x l r t y.whole ≡ same_bytes (y.code ∷ (us ++ vs)) ys
  unfolding sides_are
  sides_are_law =
      let i = Y.there.long in
      let j = A.long in
      let n : y.whole.end - y.whole.at ≡ length ys = omega arith in
      let m : side_length x l ≡ length us = omega arith in
      rw (n, m) (go (leb (length ys) (length us)) refl)
    where
      key_length : length (y.code ∷ (us ++ vs)) ≡ suc (length us + length vs)
      key_length = ap suc (length-append us vs)

      go : (b : Bool) → leb (length ys) (length us) ≡ b
          → pick b false (pick (side_is s x l t (part (y.whole.at + 1) (y.whole.at + 1 + length us))) (side_is s x r t (part (y.whole.at + 1 + length us) y.whole.end)) false) ≡ same_bytes (y.code ∷ (us ++ vs)) ys
      go true p = let h = leb-true (length ys) (length us) p in sym (other_length (y.code ∷ (us ++ vs)) ys (λ e. omega (arith, e, key_length, h)))
      go false p = let h = leb-false (length ys) (length us) p in sides_same (length ys - length us - 1) (omega arith)

-- ---- a row with a relation, and the source itself
first_byte : (t : List ℕ) (y : Asked) (ys : List ℕ) → AskedBytes t y ys → (l : List ℕ) × (ys ≡ y.code ∷ l)
first_byte t y ys Y =
    let h = Y.some_byte in
    let i = Y.there.in_bounds in
    let j = Y.there.long in
    let e : length ys ≡ suc (length ys - 1) = omega arith in
    (take (length ys - 1) (drop (y.whole.at + 1) t), sym Y.there.bytes_are ∙ ap (λ (k : ℕ). take k (drop y.whole.at t)) e ∙ rw (one_more t y.whole.at (omega arith), Y.code_is) refl)

module _ (s : List ℕ) (x : Source) (row : ℕ) (t : List ℕ) (y : Asked) (ys : List ℕ) (Y : AskedBytes t y ys) where
  other_code : (c : ℕ) (ws : List ℕ) → (c ≡ y.code → ⊥) → same_bytes (c ∷ ws) ys ≡ false
  unfolding same_bytes
  other_code c ws h = let f = first_byte t y ys Y in rw f.1 (simp (ne_eqb c y.code h))

  module _ (c : ℕ) (us vs : List ℕ) (A : SideBytes s x (side_by (field row 8)) us) (B : SideBytes s x (side_by (field row 16)) vs) where
    pub row_relation : field row 0 ≡ c → (c ≡ 0 → ⊥) → row_is s x row t y ≡ pick (meets_by x.facts (condition_by (field row 24))) (same_bytes (c ∷ (us ++ vs)) ys) false
    unfolding row_is
    row_relation e n = rw e (simp (ne_eqb c 0 n) (go (eqb c y.code) refl))
      where
        neither : (b : Bool) → false ≡ pick b false false
        neither true = refl
        neither false = refl

        go : (v : Bool) → eqb c y.code ≡ v
            → pick v (pick (meets_by x.facts (condition_by (field row 24))) (sides_are s x (side_by (field row 8)) (side_by (field row 16)) t y.whole) false) false
            ≡ pick (meets_by x.facts (condition_by (field row 24))) (same_bytes (c ∷ (us ++ vs)) ys) false
        go true q = rw (sides_are_law s x (side_by (field row 8)) (side_by (field row 16)) us vs A B t y ys Y, eqb-true c y.code q) refl
        go false q = rw (other_code c (us ++ vs) (eqb-false c y.code q)) (neither (meets_by x.facts (condition_by (field row 24))))

  pub row_whole : (xs : List ℕ) → Bytes s x.whole.at x.whole.end xs → field row 0 ≡ 0 → row_is s x row t y ≡ same_bytes xs ys
  unfolding row_is
  row_whole xs X e = rw e (ranges_are s x.whole.at x.whole.end xs X t y.whole.at y.whole.end ys Y.there)

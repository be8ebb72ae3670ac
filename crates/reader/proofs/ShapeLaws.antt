-- The cases of the shape of pairs.
use Prim.Native.Nat.{ℕ, zero, suc, ◌+◌, ◌^◌, ◌<◌}
use mathlib.Core.Path.{◌≡◌, refl, sym, ◌∙◌, subst}
use mathlib.Core.Bool.{Bool, true, false}
use mathlib.Core.List.{List}
use Rattle.std.specs.Prelude.{Some, None}
use native.Mathlib.Numerals.{add-one}
use native.Mathlib.Omega.{arith}
use lib.ListN.{length, get_or, get_or-eq_default}
use lib.Dec.{ltb}
use borrow.Author.Tests.{ltb-false}
use mir.Syntax.{w64}
use mir.Val.{Fits}
use Rattle.formula.specs.Pick.{pick}
use Rattle.formula.specs.Codes.{codes}
use Rattle.formula.proofs.Choices.{never}
use Rattle.formula.specs.Mirror.PackedTable.{table, row_at, field}
use Rattle.formula.specs.Mirror.Bytes.{byte_at}
use Rattle.reader.specs.Mirror.Shape.{is_pair, are_pairs, leaf_ends, then_shape, shape}
use Rattle.reader.specs.declared.shape.Ends.{Ends}

-- ---- the shape of pairs
is_pair_in : (s : List ℕ) (a : ℕ) → is_pair s a ≡ true → a < length s
unfolding is_pair byte_at row_at table codes field
is_pair_in s a e = go (ltb a (length s)) refl
  where
    go : (v : Bool) → ltb a (length s) ≡ v → a < length s
    go true q = lib.Dec.ltb→lt a (length s) (subst lib.Dec.T (sym q) tt)
    go false q =
        let w : get_or s a 0 ≡ 0 = get_or-eq_default s 0 (ltb-false _ _ q) in
        never (rw w at e)

module _ (s types : List ℕ) (a b : ℕ) where
  pub shape_zero : (l : ℕ) → l ≡ 0 → leaf_ends s types a b ≡ shape l s types a b
  unfolding shape
  shape_zero l h = rw h refl

  pub shape_first : (l : ℕ) → is_pair s a ≡ false → leaf_ends s types a b ≡ shape l s types a b
  unfolding shape are_pairs
  shape_first zero h = refl
  shape_first (suc l) h = simp h

  pub shape_second : (l : ℕ) → is_pair s b ≡ false → leaf_ends s types a b ≡ shape l s types a b
  unfolding shape are_pairs
  shape_second zero h = refl
  shape_second (suc l) h = go (is_pair s a)
    where
      go : (v : Bool) → leaf_ends s types a b ≡ pick (pick v (is_pair s b) false) (then_shape (shape l s types (a + 1) (b + 1)) (λ x y. shape l s types x y)) (leaf_ends s types a b)
      go true = simp h
      go false = refl

  module _ (l k : ℕ) (n : l ≡ k + 1) (h : is_pair s a ≡ true) (i : is_pair s b ≡ true) where
    halves : shape l s types a b ≡ then_shape (shape k s types (a + 1) (b + 1)) (λ x y. shape k s types x y)
    unfolding shape are_pairs
    halves = rw (n, add-one k) (simp (h, i))

    pub shape_none : shape k s types (a + 1) (b + 1) ≡ None → None ≡ shape l s types a b
    shape_none q = sym (halves ∙ rw q refl)

    pub shape_some : (e : Ends) → shape k s types (a + 1) (b + 1) ≡ Some e → shape k s types e.a e.b ≡ shape l s types a b
    shape_some e q = sym (halves ∙ rw q refl)

  pub first_fits : is_pair s a ≡ true → length s < 2 ^ 64 → Fits w64 (a + 1)
  first_fits h k = let z = is_pair_in s a h in record { fits = omega (arith, z, k) }

pub ruleset shapes = (shape_zero, shape_first, shape_second, shape_none, shape_some, first_fits)

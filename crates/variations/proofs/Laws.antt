-- What the code's functions need: the place after a relation's code, and the first key.
use Prim.Native.Nat.{ℕ, suc, ◌+◌, ◌-◌, ◌<◌, ◌≤◌, ◌^◌}
use mathlib.Core.Path.{◌≡◌, refl}
use mathlib.Core.Bool.{Bool, true, false}
use mathlib.Core.List.{List}
use native.Mathlib.Omega.{arith}
use lib.ListN.{length}
use lib.Dec.{ltb}
use mir.Syntax.{w64}
use mir.Val.{Fits}
use borrow.Author.Tests.{ltb-false}
use Rattle.std.specs.Prelude.{Some, None, leb}
use Rattle.formula.specs.Pick.{pick}
use Rattle.formula.specs.Mirror.Bytes.{byte_at}
use Rattle.formula.proofs.Choices.{never}
use Rattle.keys.specs.declared.rows.Source.{Source}
use Rattle.keys.specs.declared.rows.Asked.{Asked}
use Rattle.keys.proofs.Laws.{byte_inside}
use Rattle.variations.specs.Answers.{Answer, or_next}
use Rattle.variations.specs.Mirror.SourceBytes.{relational, key_is, first_from}

from_equal : (c : ℕ) → relational c ≡ true → 16 ≤ c
unfolding relational
from_equal c e = go (ltb c 16) refl e
  where
    go : (v : Bool) → ltb c 16 ≡ v → pick v false (leb c 23) ≡ true → 16 ≤ c
    go true q w = never w
    go false q w = ltb-false c 16 q

-- a relation's code is inside
pub relation_fits : (s : List ℕ) (p : ℕ) → relational (byte_at s p) ≡ true → length s < 2 ^ 64 → Fits w64 (p + 1)
relation_fits s p e k =
    let w = from_equal (byte_at s p) e in
    let i = byte_inside s p (λ z. omega arith) in record { fits = omega arith }

-- ---- the first key, where k of n rows are passed
module _ (s : List ℕ) (x : Source) (t : List ℕ) (y : Asked) (n k : ℕ) (z : Answer) (e : first_from s x t y (n - k) k ≡ z) where
  firsts_by : (m : ℕ) → m ≡ n - k → first_from s x t y m k ≡ z
  firsts_by m h = rw h e

  pub first_none : n ≤ k → None ≡ z
  unfolding first_from
  first_none h = firsts_by 0 (omega arith)

  module _ (h : k < n) (a : Answer) (a≡ : a ≡ key_is s x k t y) where
    one_more : or_next a (first_from s x t y (n - (k + 1)) (k + 1)) ≡ z
    unfolding first_from
    one_more = rw a≡ (firsts_by (suc (n - (k + 1))) (omega arith))

    pub first_found : (v : Bool) → a ≡ Some v → Some v ≡ z
    first_found v i = rw i at one_more

    pub first_goes : a ≡ None → first_from s x t y (n - (k + 1)) (k + 1) ≡ z
    first_goes i = rw i at one_more

pub ruleset firsts = (first_none, first_found, first_goes)

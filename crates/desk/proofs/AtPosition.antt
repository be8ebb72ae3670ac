-- A formula among hypotheses by its position: its flag, and a flag set there.
use Prim.Native.Nat.{suc, ◌<◌, ◌≤◌}
use mathlib.Core.Path.{◌≡◌, refl, ap}
use mathlib.Core.Bool.{Bool, true, false}
use mathlib.Core.Option.{some, none}
use mathlib.Core.List.{List, [], ◌∷◌}
use native.Mathlib.Omega.{arith}
use lib.ListN.{length}
use Rattle.formula.specs.Pick.{pick}
use Rattle.formula.specs.Tree.{Tree}
use Rattle.desk.specs.Sequent.{Flag, Hypothesis, flag_in, present, hypothesis}
use Rattle.formula.specs.Equal.{same}
use Rattle.desk.specs.Hypotheses.{change}
use Rattle.desk.specs.Mirror.Desk.{index_of, set_flag, flag_at}
use Rattle.desk.proofs.Formulas.{formulas_long}
use Rattle.desk.proofs.Grown.{change_formulas}

module _ (x : Tree) where
  -- found, it has the flag of its position
  pub found_flag : (hs : List Hypothesis) → index_of hs x < length hs → flag_in hs x ≡ some (flag_at hs (index_of hs x))
  unfolding index_of flag_in flag_at
  found_flag [] l = absurd (omega arith)
  found_flag (h ∷ hs) l = go (same h.formula x) l (found_flag hs)
    where
      go : (b : Bool) → pick b 0 (suc (index_of hs x)) < suc (length hs) → (index_of hs x < length hs → flag_in hs x ≡ some (flag_at hs (index_of hs x)))
          → pick b (some h.flag) (flag_in hs x) ≡ some (flag_at (h ∷ hs) (pick b 0 (suc (index_of hs x))))
      go true l r = refl
      go false l r = r (omega arith)

  -- not found, it has none
  pub no_flag : (hs : List Hypothesis) → length hs ≤ index_of hs x → flag_in hs x ≡ none
  unfolding index_of flag_in
  no_flag [] l = refl
  no_flag (h ∷ hs) l = go (same h.formula x) l (no_flag hs)
    where
      go : (b : Bool) → suc (length hs) ≤ pick b 0 (suc (index_of hs x)) → (length hs ≤ index_of hs x → flag_in hs x ≡ none) → pick b (some h.flag) (flag_in hs x) ≡ none
      go true l r = absurd (omega arith)
      go false l r = r (omega arith)

  pub found_present : (hs : List Hypothesis) → index_of hs x < length hs → present hs x ≡ true
  unfolding present
  found_present hs l = rw (found_flag hs l) refl

  pub not_present : (hs : List Hypothesis) → length hs ≤ index_of hs x → present hs x ≡ false
  unfolding present
  not_present hs l = rw (no_flag hs l) refl

  -- changing its flag is setting the flag of its position
  module _ (f : Flag → Flag) where
    pub change_found : (hs : List Hypothesis) → index_of hs x < length hs → change f x hs ≡ set_flag (index_of hs x) (f (flag_at hs (index_of hs x))) hs
    unfolding index_of change set_flag flag_at
    change_found [] l = absurd (omega arith)
    change_found (h ∷ hs) l = go (same h.formula x) l (change_found hs)
      where
        go : (b : Bool) → pick b 0 (suc (index_of hs x)) < suc (length hs) → (index_of hs x < length hs → change f x hs ≡ set_flag (index_of hs x) (f (flag_at hs (index_of hs x))) hs)
            → pick b (hypothesis (f h.flag) h.formula ∷ hs) (h ∷ change f x hs)
            ≡ set_flag (pick b 0 (suc (index_of hs x))) (f (flag_at (h ∷ hs) (pick b 0 (suc (index_of hs x))))) (h ∷ hs)
        go true l r = refl
        go false l r = ap (λ (ks : List Hypothesis). h ∷ ks) (r (omega arith))

    pub change_absent : (hs : List Hypothesis) → length hs ≤ index_of hs x → change f x hs ≡ hs
    unfolding index_of change
    change_absent [] l = refl
    change_absent (h ∷ hs) l = go (same h.formula x) l (change_absent hs)
      where
        go : (b : Bool) → suc (length hs) ≤ pick b 0 (suc (index_of hs x)) → (length hs ≤ index_of hs x → change f x hs ≡ hs)
            → pick b (hypothesis (f h.flag) h.formula ∷ hs) (h ∷ change f x hs) ≡ h ∷ hs
        go true l r = absurd (omega arith)
        go false l r = ap (λ (ks : List Hypothesis). h ∷ ks) (r (omega arith))

-- other flags, as many hypotheses
pub change_long : (f : Flag → Flag) (x : Tree) (hs : List Hypothesis) → length (change f x hs) ≡ length hs
change_long f x hs = omega (arith, formulas_long (change f x hs), ap length (change_formulas f x hs), formulas_long hs)

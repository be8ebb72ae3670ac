-- The laws of the steps on a flag.
use Prim.Native.Nat.{ℕ, ◌+◌, ◌<◌, ◌≤◌}
use mathlib.Core.Path.{◌≡◌, refl, ◌∙◌}
use mathlib.Core.Bool.{Bool}
use mathlib.Core.List.{List, [], ◌∷◌}
use native.Mathlib.Omega.{arith}
use lib.ListN.{length}
use Rattle.std.specs.Prelude.{Some, None}
use Rattle.formula.specs.Tree.{Tree}
use Rattle.desk.specs.Sequent.{Flag, plain, hidden, selected, Hypothesis, is_hidden, is_selected}
use Rattle.desk.specs.Hypotheses.{change, change_all}
use Rattle.desk.specs.Mirror.Bytes.{Stand, find_in}
use Rattle.desk.specs.Mirror.Desk.{flag_at, flag_from}
use Rattle.desk.specs.Mirror.Masks.{bit_of, with_flag}
use Rattle.desk.specs.Mirror.Moves.{ListIs, formula_at}
use Rattle.steps.specs.Mirror.Steps.{flag_by, hidden_by, selected_by, ChangeAtIs, ChangeIs, ChangeAllIs}
use Rattle.desk.specs.declared.hypotheses.Hypotheses.{Hypotheses}
use Rattle.desk.specs.declared.list.List.{List as Formulas}
use Rattle.desk.specs.declared.view.View.{View}
use Rattle.steps.specs.declared.flags.Act.{Act}
use Rattle.steps.specs.declared.flags.Act.TheVariants as act
use Rattle.desk.proofs.MaskLaws.{set_is, hidden_is, selected_is}
use Rattle.desk.proofs.Found.{find_some, find_no}
use Rattle.desk.proofs.AtPosition.{change_found, change_absent, change_long}
use Rattle.steps.proofs.Listings.{Walk, walk_starts, walk_goes, walk_ends}

-- by its two bits
bits_by : (k : Act) (f : Flag) → flag_from (hidden_by k (is_hidden f)) (selected_by k (is_selected f)) ≡ flag_by k f
bits_by act.Select f = refl
bits_by act.Deselect plain = refl
bits_by act.Deselect hidden = refl
bits_by act.Deselect selected = refl
bits_by act.Hide f = refl
bits_by act.Show plain = refl
bits_by act.Show hidden = refl
bits_by act.Show selected = refl

module _ (v : View) (i : ℕ) (k : Act) where
  pub change_past : 63 < i → ChangeAtIs v i k v
  unfolding ChangeAtIs
  change_past l desk places types hs H m few = absurd (omega arith)

  pub change_set : (w : View) (a b a' b' : Bool) → w ≡ with_flag v i a' b' → a ≡ bit_of v.hidden i → b ≡ bit_of v.selected i → a' ≡ hidden_by k a → b' ≡ selected_by k b → ChangeAtIs v i k w
  unfolding ChangeAtIs
  change_set w a b a' b' S h s p q desk places types hs H m few =
      let h₁ = hidden_is v i a h desk places types hs H m in
      let s₁ = selected_is v i b s desk places types hs H m in
      let e : flag_from a' b' ≡ flag_by k (flag_at hs i) = rw (p, q, h₁, s₁) (bits_by k (flag_at hs i)) in
      rw e at (set_is v w i a' b' S desk places types hs H m few)

module _ (h : Hypotheses) (k : Act) (x : List ℕ) where
  pub change_there : (i : ℕ) (w : View) → Some i ≡ find_in h x → ChangeAtIs h.view i k w → ChangeIs h k x w
  unfolding ChangeAtIs ChangeIs
  change_there i w F C types hs y H x≡ few =
      let f = find_some h x types hs y H few x≡ i F in
      rw (change_found y (flag_by k) hs f.1, ← f.0) (C h.bytes.now h.places.now types hs H (omega (arith, f.0, f.1)) few)

  pub change_none : None ≡ find_in h x → ChangeIs h k x h.view
  unfolding ChangeIs
  change_none F types hs y H x≡ few = rw (change_absent y (flag_by k) hs (find_no h x types hs y H few x≡ F)) H

pub ruleset flags = (change_past, change_set, change_there, change_none)

-- ---- each of a list
-- the hypotheses with this view
abbrev pub viewed : Hypotheses → View → Hypotheses
viewed h w = record h { view = w }

unfoldable pub ChangeLeft : Hypotheses → Act → Formulas → View → ℕ → Type 0
ChangeLeft h k l w i =
    (types : List ℕ) (hs : List Hypothesis) (xs : List Tree) → Stand h types hs → length hs ≤ 64 → ListIs l xs
    → Walk (change_all (flag_by k)) xs hs l i (λ ks. Stand (viewed h w) types ks × (length ks ≤ 64))

module _ (h : Hypotheses) (k : Act) (l : Formulas) where
  pub changes_start : ChangeLeft h k l h.view 0
  unfolding ChangeLeft
  changes_start types hs xs H few L = walk_starts (change_all (flag_by k)) xs hs l _ L (H, few)

  module _ (w : View) (i : ℕ) (I : ChangeLeft h k l w i) where
    pub changes_go : (x : List ℕ) (u : View) → i < l.count → x ≡ formula_at l i → ChangeIs (viewed h w) k x u → ChangeLeft h k l u (i + 1)
    unfolding ChangeLeft ChangeIs change_all
    changes_go x u m x≡ C types hs xs H few L =
        walk_goes (change_all (flag_by k)) xs hs l i _ (I types hs xs H few L) _ m
        (λ y rest now X H'. (change (flag_by k) y now, refl, (C types now y H'.0 (x≡ ∙ X) H'.1, rw (change_long (flag_by k) y now) H'.1)))

    pub changes_end : l.count ≤ i → ChangeAllIs h k l w
    unfolding ChangeLeft ChangeAllIs change_all
    changes_end m types hs xs H few L = walk_ends (change_all (flag_by k)) xs hs l i _ (I types hs xs H few L) (Stand (viewed h w) types) m (λ now H'. H'.0)

pub ruleset changing = (changes_start, changes_go, changes_end)

pub changes_long : (f : Flag → Flag) (xs : List Tree) (hs : List Hypothesis) → length (change_all f xs hs) ≡ length hs
unfolding change_all
changes_long f [] hs = refl
changes_long f (x ∷ xs) hs = changes_long f xs (change f x hs) ∙ change_long f x hs

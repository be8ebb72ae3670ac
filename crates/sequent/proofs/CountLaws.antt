-- What reading a sequent answers: the ones of the masks are the counts.
use Prim.Native.Nat.{ℕ}
use mathlib.Core.Path.{◌≡◌, refl, sym, ap, ◌∙◌}
use mathlib.Core.List.{List}
use lib.ListN.{length}
use lib.Count.{ones}
use Rattle.std.specs.Prelude.{Ok, Err}
use Rattle.refusal.specs.declared.Said.{Said}
use Rattle.desk.specs.declared.view.View.{View}
use Rattle.desk.specs.Sequent.{is_hidden, is_selected, is_visible, count_of}
use Rattle.desk.specs.Mirror.Masks.{visible_mask}
use Rattle.desk.specs.Mirror.Desk.{mask_of}
use Rattle.desk.proofs.MaskCounts.{ones_mask, visible_is}
use Rattle.sequent.specs.Mirror.Opened.{Open, Not}
use Rattle.sequent.specs.ReadFile.{read_sequent}
use Rattle.sequent.specs.Counts.{counts_of, read_outcome}

-- ---- what reading answers
module _ (s : List ℕ) where
  pub no_counts : (z : Said) → Not s (read_sequent s) z → Err z ≡ read_outcome s
  unfolding read_outcome
  no_counts z N = ap Err N.said_is ∙ sym (ap (counts_of s) N.refused_is)

  pub counts_are : (places : List ℕ) (v : View) → Open s places v → (m : ℕ) → m ≡ visible_mask v.hypotheses v.hidden
      → Ok (record { hidden = ones v.hidden; selected = ones v.selected; visible = ones m }) ≡ read_outcome s
  unfolding read_outcome
  counts_are places v O m e =
      let hs = O.sequent.hypotheses in
      let H = O.held in
      let i : ones v.hidden ≡ count_of is_hidden hs = ap ones H.hidden_is ∙ ones_mask is_hidden hs in
      let j : ones v.selected ≡ count_of is_selected hs = ap ones H.selected_is ∙ ones_mask is_selected hs in
      let k : m ≡ mask_of is_visible hs = e ∙ ap (λ (n : ℕ). visible_mask n v.hidden) H.hypotheses_are ∙ ap (visible_mask (length hs)) H.hidden_is ∙ visible_is hs O.accepted.few in
      let l : ones m ≡ count_of is_visible hs = ap ones k ∙ ones_mask is_visible hs in
      rw (O.read_is, l, i, j) refl

pub ruleset counts = (no_counts, counts_are)

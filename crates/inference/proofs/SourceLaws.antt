-- What the sources of an inference say.
use Prim.Native.Nat.{ℕ, ◌+◌, ◌<◌, ◌≤◌}
use mathlib.Core.Path.{◌≡◌, refl, sym, ap, ◌∙◌}
use mathlib.Core.Bool.{Bool, false, not, ◌&&◌, ◌||◌}
use mathlib.Core.List.{List, [], ◌∷◌}
use native.Mathlib.Omega.{arith}
use lib.ListN.{length}
use Rattle.std.proofs.Math.Bool.{and-true, and-false, or-false, and_assoc, or_assoc}
use Rattle.std.specs.Prelude.{Option, Some, None}
use Rattle.formula.specs.Tree.{Tree}
use Rattle.desk.specs.Sequent.{Hypothesis, is_hidden, is_selected, flag_in, holds, present}
use Rattle.desk.specs.Hypotheses.{all_present, some_selected, all_hidden}
use Rattle.desk.specs.Mirror.Bytes.{Stand, find_in}
use Rattle.desk.specs.Mirror.Masks.{bit_of}
use Rattle.desk.specs.Mirror.Moves.{ListIs, formula_at}
use Rattle.inference.specs.Mirror.Inference.{no_source, weigh_one, weigh, WeighIs, WeighAllIs, hides_inferred}
use Rattle.desk.specs.declared.hypotheses.Hypotheses.{Hypotheses}
use Rattle.desk.specs.declared.list.List.{List as Formulas}
use Rattle.desk.specs.declared.view.View.{View}
use Rattle.inference.specs.declared.infer.Sources.{Sources}
use Rattle.desk.proofs.AtPosition.{found_flag, no_flag}
use Rattle.desk.proofs.Found.{find_is, position_some, position_none}
use Rattle.desk.proofs.MaskLaws.{hidden_is, selected_is}
use Rattle.steps.proofs.Listings.{Walk, walk_starts, walk_goes, walk_ends}

-- ---- one more source
module _ (v : View) (j : Sources) where
  pub source_absent : WeighIs v None j (record { there = false; selected = j.selected; hidden = false })
  unfolding WeighIs weigh_one present
  source_absent desk places types hs y H few e = rw (no_flag y hs (position_none hs y e), and-false j.there, or-false j.selected, and-false j.hidden) refl

  pub source_there : (i : ℕ) (a b s h : Bool) → a ≡ bit_of v.selected i → b ≡ bit_of v.hidden i → s ≡ (j.selected || a) → h ≡ (j.hidden && b)
      → WeighIs v (Some i) j (record { there = j.there; selected = s; hidden = h })
  unfolding WeighIs weigh_one present
  source_there i a b s h A B p q desk places types hs y H few e =
      let f = position_some hs y i e in
      let m : i < length hs = omega (arith, f.0, f.1) in
      rw (p, q, selected_is v i a A desk places types hs H m, hidden_is v i b B desk places types hs H m, f.0, found_flag y hs f.1, and-true j.there) refl

-- ---- all of them
unfoldable pub SourcesLeft : Hypotheses → Formulas → Sources → ℕ → Type 0
SourcesLeft h l j i =
    (types : List ℕ) (hs : List Hypothesis) (xs : List Tree) → Stand h types hs → length hs ≤ 64 → ListIs l xs
    → Walk (weigh hs) xs no_source l i (λ k. j ≡ k)

module _ (h : Hypotheses) (l : Formulas) where
  pub sources_start : SourcesLeft h l no_source 0
  unfolding SourcesLeft
  sources_start types hs xs H few L = walk_starts (weigh hs) xs no_source l (λ k. no_source ≡ k) L refl

  module _ (j : Sources) (i : ℕ) (S : SourcesLeft h l j i) where
    pub sources_go : (x : List ℕ) (at : Option ℕ) (k : Sources) → i < l.count → x ≡ formula_at l i → at ≡ find_in h x → WeighIs h.view at j k → SourcesLeft h l k (i + 1)
    unfolding SourcesLeft WeighIs weigh
    sources_go x at k m x≡ F J types hs xs H few L =
        walk_goes (weigh hs) xs no_source l i (λ t. j ≡ t) (S types hs xs H few L) (λ t. k ≡ t) m
        (λ y rest t X e. (weigh_one hs y t, refl, J h.bytes.now h.places.now types hs y H few (F ∙ find_is h x types hs y H few (x≡ ∙ X)) ∙ ap (weigh_one hs y) e))

    pub sources_end : l.count ≤ i → WeighAllIs h l j
    unfolding SourcesLeft WeighAllIs weigh
    sources_end m types hs xs H few L = walk_ends (weigh hs) xs no_source l i (λ t. j ≡ t) (S types hs xs H few L) (λ r. j ≡ r) m (λ t e. e)

pub ruleset sources = (source_absent, source_there, sources_start, sources_go, sources_end)

-- ---- S, D and "if a source is absent"
module _ (hs : List Hypothesis) where
  weigh_there : (xs : List Tree) (j : Sources) → (weigh hs xs j).there ≡ (j.there && all_present hs xs)
  unfolding weigh weigh_one all_present
  weigh_there [] j = sym (and-true j.there)
  weigh_there (x ∷ xs) j = weigh_there xs (weigh_one hs x j) ∙ and_assoc j.there (present hs x) (all_present hs xs)

  weigh_selected : (xs : List Tree) (j : Sources) → (weigh hs xs j).selected ≡ (j.selected || some_selected hs xs)
  unfolding weigh weigh_one some_selected
  weigh_selected [] j = sym (or-false j.selected)
  weigh_selected (x ∷ xs) j = weigh_selected xs (weigh_one hs x j) ∙ or_assoc j.selected (holds is_selected (flag_in hs x)) (some_selected hs xs)

  weigh_hidden : (xs : List Tree) (j : Sources) → (weigh hs xs j).hidden ≡ (j.hidden && all_hidden hs xs)
  unfolding weigh weigh_one all_hidden
  weigh_hidden [] j = sym (and-true j.hidden)
  weigh_hidden (x ∷ xs) j = weigh_hidden xs (weigh_one hs x j) ∙ and_assoc j.hidden (holds is_hidden (flag_in hs x)) (all_hidden hs xs)

  pub sources_there : (xs : List Tree) → (weigh hs xs no_source).there ≡ all_present hs xs
  sources_there xs = weigh_there xs no_source

  pub sources_selected : (xs : List Tree) → (weigh hs xs no_source).selected ≡ some_selected hs xs
  sources_selected xs = weigh_selected xs no_source

  pub sources_hide : (xs : List Tree) → hides_inferred (weigh hs xs no_source) ≡ (not (some_selected hs xs) && all_hidden hs xs)
  unfolding hides_inferred
  sources_hide xs = rw (weigh_selected xs no_source, weigh_hidden xs no_source) refl

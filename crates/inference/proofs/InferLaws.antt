-- Formulas inferred from sources that are there.
use Prim.Native.Nat.{ℕ, ◌+◌, ◌<◌, ◌≤◌}
use mathlib.Core.Path.{◌≡◌, refl, sym, ap, ◌∙◌}
use mathlib.Core.Bool.{Bool, true, false, not, ◌&&◌, ◌||◌}
use mathlib.Core.List.{List, [], ◌∷◌}
use native.Mathlib.Omega.{arith}
use lib.ListN.{length, length-append}
use Rattle.std.proofs.Math.Bool.{and-true, and-false, or-false, or_assoc}
use Rattle.std.specs.Prelude.{Some, None, Result, Ok, Err}
use Rattle.formula.specs.Tree.{Tree, encode}
use Rattle.desk.specs.Sequent.{Hypothesis, is_visible, flag_in, holds, hypothesis}
use Rattle.desk.specs.Hypotheses.{select, inferred_flag, infer_one, infer_all, reselects}
use Rattle.desk.specs.Mirror.Bytes.{Stand, OnDesk, find_in, AppendIs}
use Rattle.desk.specs.Mirror.Desk.{Holds, index_of, flag_from}
use Rattle.desk.specs.Mirror.Masks.{bit_of}
use Rattle.desk.specs.Mirror.Moves.{ListIs, formula_at, Extends, TooMuch}
use Rattle.steps.specs.Mirror.Steps.{ChangeAtIs}
use Rattle.inference.specs.Mirror.Inference.{hides_inferred, ReselectIs, InferTo, InferOneIs, InferAllIs}
use Rattle.desk.specs.declared.Desk.{Desk}
use Rattle.desk.specs.declared.NoRoom.{NoRoom}
use Rattle.desk.specs.declared.hypotheses.Hypotheses.{Hypotheses}
use Rattle.desk.specs.declared.list.List.{List as Formulas}
use Rattle.desk.specs.declared.view.View.{View}
use Rattle.steps.specs.declared.flags.Act.TheVariants as act
use Rattle.inference.specs.declared.infer.Sources.{Sources}
use Rattle.desk.proofs.AtPosition.{found_flag, no_flag, found_present, not_present, change_found, change_long}
use Rattle.desk.proofs.Formulas.{Any, all_any}
use Rattle.desk.proofs.Found.{find_some, find_no}
use Rattle.desk.proofs.MaskLaws.{hidden_is}
use Rattle.desk.proofs.Positions.{found_before, absent_before, extends_same, extends_then, extends_long, grown_extends}
use Rattle.desk.proofs.Room.{too_much_one, too_much_grown}
use Rattle.desk.proofs.StepsGrow.{infer_grown, infers_grown}
use Rattle.steps.proofs.Listings.{Walk, walk_starts, walk_goes, walk_stops, walk_ends}

-- ---- what was visible before the act
module _ (before : View) (i : ℕ) (s : Bool) where
  pub reselect_later : before.hypotheses ≤ i → ReselectIs before i s false
  unfolding ReselectIs
  reselect_later l desk places types hs ks y H few E e =
      let m : length hs ≤ index_of ks y = omega (arith, H.hypotheses_are) in
      rw (no_flag y hs (absent_before y hs ks E m)) (sym (and-false s))

  module _ (l : i < before.hypotheses) (b : Bool) (B : b ≡ bit_of before.hidden i) where
    visible_is : (desk places types : List ℕ) (hs ks : List Hypothesis) (y : Tree) → Holds desk places before types hs → Extends hs ks → i ≡ index_of ks y → holds is_visible (flag_in hs y) ≡ not b
    visible_is desk places types hs ks y H E e =
        let m : index_of ks y < length hs = omega (arith, H.hypotheses_are) in
        let j = found_before y hs ks E m in
        rw (hidden_is before i b B desk places types hs H (omega (arith, H.hypotheses_are)), found_flag y hs (omega arith), j, e) refl

    pub reselect_hidden : b ≡ true → ReselectIs before i s false
    unfolding ReselectIs
    reselect_hidden t desk places types hs ks y H few E e = rw (visible_is desk places types hs ks y H E e, t) (sym (and-false s))

    pub reselect_visible : b ≡ false → ReselectIs before i s s
    unfolding ReselectIs
    reselect_visible t desk places types hs ks y H few E e = rw (visible_is desk places types hs ks y H E e, t) (sym (and-true s))

pub ruleset reselecting = (reselect_later, reselect_hidden, reselect_visible)

-- ---- one formula inferred
-- S and D never hold at once
inferred_bits : (j : Sources) → flag_from (hides_inferred j) j.selected ≡ inferred_flag j.selected (hides_inferred j)
unfolding hides_inferred
inferred_bits j = go j.selected j.hidden
  where
    go : (s h : Bool) → flag_from (not s && h) s ≡ inferred_flag s (not s && h)
    go true h = refl
    go false true = refl
    go false false = refl

module _ (before : View) (j : Sources) (d : Desk) (h : Hypotheses) (x : List ℕ) (b≡ : h.bytes.now ≡ d.bytes) (p≡ : h.places.now ≡ d.places) (v≡ : h.view ≡ d.view) where
  stands : (types : List ℕ) (hs : List Hypothesis) → OnDesk d types hs → Stand h types hs
  stands types hs H = rw (b≡, p≡, v≡) H

  module _ (i : ℕ) (F : Some i ≡ find_in h x) (b : Bool) (R : ReselectIs before i j.selected b) where
    pub infer_selects : (w : View) → b ≡ true → ChangeAtIs d.view i act.Select w → InferOneIs before j d x (record d { view = w }) (Ok b)
    unfolding InferOneIs InferTo ReselectIs ChangeAtIs infer_one
    infer_selects w t C desk₀ places₀ types hs ks y B few E H lim x≡ =
        let f = find_some h x types ks y (stands types ks H) lim x≡ i F in
        let r = sym t ∙ R desk₀ places₀ types hs ks y B few E f.0 in
        let c = C d.bytes d.places types ks H (omega (arith, f.0, f.1)) lim in
        rw (found_present y ks f.1, ← r) (rw (change_found y select ks f.1, ← f.0) c, rw (change_long select y ks) lim, t)

    pub infer_keeps : b ≡ false → InferOneIs before j d x d (Ok b)
    unfolding InferOneIs InferTo ReselectIs infer_one
    infer_keeps t desk₀ places₀ types hs ks y B few E H lim x≡ =
        let f = find_some h x types ks y (stands types ks H) lim x≡ i F in
        let r = sym t ∙ R desk₀ places₀ types hs ks y B few E f.0 in
        rw (found_present y ks f.1, ← r) (H, lim, t)

  module _ (F : None ≡ find_in h x) (c : Bool) (c≡ : c ≡ hides_inferred j) (d' : Desk) (r : Result Unit NoRoom) (A : AppendIs d x c j.selected d' r) where
    pub infer_full : (n n' : NoRoom) → r ≡ Err n → InferOneIs before j d x d' (Err n')
    unfolding InferOneIs InferTo infer_one
    infer_full n n' t desk₀ places₀ types hs ks y B few E H lim x≡ =
        let f = find_no h x types ks y (stands types ks H) lim x≡ F in
        let N : AppendIs d x c j.selected d' (Err n) = rw t at A in
        rw (not_present y ks f) (too_much_one types ks d.bytes d.places d.view _ y H (N types ks y H x≡ lim))

    pub infer_appends : (u : Unit) → r ≡ Ok u → InferOneIs before j d x d' (Ok false)
    unfolding InferOneIs InferTo infer_one
    infer_appends u t desk₀ places₀ types hs ks y B few E H lim x≡ =
        let f = find_no h x types ks y (stands types ks H) lim x≡ F in
        let n : length hs ≤ index_of ks y = omega (arith, extends_long hs ks E) in
        let D : AppendIs d x c j.selected d' (Ok u) = rw t at A in
        let o = D types ks y H x≡ lim in
        let k = length-append ks (hypothesis (inferred_flag j.selected (hides_inferred j)) y ∷ []) in
        rw (not_present y ks f, no_flag y hs (absent_before y hs ks E n), and-false j.selected) (rw (c≡, inferred_bits j) at o.0, omega (arith, o.1), refl)

pub ruleset infers = (infer_selects, infer_keeps, infer_full, infer_appends)

-- ---- all of them
-- the hypotheses so far, and whether one was reselected so far
abbrev infer_work : List Hypothesis → Sources → List Tree → List Hypothesis × Bool → List Hypothesis × Bool
infer_work hs j xs t = (infer_all hs j.selected (hides_inferred j) xs t.0, t.1 || reselects hs j.selected xs)

pub record InferredSo (hs : List Hypothesis) (d : Desk) (again : Bool) (types : List ℕ) (t : List Hypothesis × Bool) : Type 0 where
  pub held : OnDesk d types t.0
  pub few : length t.0 ≤ 64
  pub extends : Extends hs t.0
  pub again_is : again ≡ t.1

unfoldable pub InferLeft : Sources → Desk → Formulas → Desk → Bool → ℕ → Type 0
InferLeft j d₀ l d again i =
    (types : List ℕ) (hs : List Hypothesis) (xs : List Tree) → OnDesk d₀ types hs → length hs ≤ 64 → ListIs l xs
    → Walk (infer_work hs j) xs (hs, false) l i (InferredSo hs d again types)

module _ (j : Sources) (d₀ : Desk) (l : Formulas) where
  pub infer_start : InferLeft j d₀ l d₀ false 0
  unfolding InferLeft
  infer_start types hs xs H few L =
      walk_starts (infer_work hs j) xs (hs, false) l (InferredSo hs d₀ false types) L (record { held = H; few = few; extends = extends_same hs; again_is = refl })

  module _ (d : Desk) (again : Bool) (i : ℕ) (I : InferLeft j d₀ l d again i) where
    module _ (m : i < l.count) (x : List ℕ) (x≡ : x ≡ formula_at l i) (d' : Desk) (r : Result Bool NoRoom) (O : InferOneIs d₀.view j d x d' r) where
      pub infer_goes : (c : Bool) → r ≡ Ok c → InferLeft j d₀ l d' (again || c) (i + 1)
      unfolding InferLeft InferOneIs InferTo infer_all reselects
      infer_goes c q types hs xs H few L =
          walk_goes (infer_work hs j) xs (hs, false) l i (InferredSo hs d again types) (I types hs xs H few L) (InferredSo hs d' (again || c) types) m one
        where
          one : (y : Tree) (rest : List Tree) (t : List Hypothesis × Bool) → formula_at l i ≡ encode y → InferredSo hs d again types t
              → (t' : List Hypothesis × Bool) × (infer_work hs j (y ∷ rest) t ≡ infer_work hs j rest t') × InferredSo hs d' (again || c) types t'
          one y rest t Y h =
              let o = rw q at (O d₀.bytes d₀.places types hs t.0 y H few h.extends h.held h.few (x≡ ∙ Y)) in
              let g = infer_grown Any hs j.selected (hides_inferred j) y t.0 tt in
              let got = j.selected && holds is_visible (flag_in hs y) in (
                (infer_one hs j.selected (hides_inferred j) y t.0, t.1 || got),
                ap (λ (b : Bool). (infer_all hs j.selected (hides_inferred j) rest (infer_one hs j.selected (hides_inferred j) y t.0), b)) (sym (or_assoc t.1 got (reselects hs j.selected rest))),
                record { held = o.0; few = o.1; extends = extends_then hs t.0 _ h.extends (grown_extends Any t.0 _ g); again_is = rw (h.again_is, o.2) refl },
              )

      pub infer_stops : (n n' : NoRoom) → r ≡ Err n → InferAllIs j d₀ l d' (Err n')
      unfolding InferLeft InferOneIs InferAllIs InferTo infer_all
      infer_stops n n' q types hs xs H few L =
          walk_stops (infer_work hs j) xs (hs, false) l i (InferredSo hs d again types) (I types hs xs H few L) (λ t. TooMuch types t.0) m
          (λ y rest t Y h.
          let o = rw q at (O d₀.bytes d₀.places types hs t.0 y H few h.extends h.held h.few (x≡ ∙ Y)) in
          too_much_grown types _ Any _ (infers_grown Any hs j.selected (hides_inferred j) rest (infer_one hs j.selected (hides_inferred j) y t.0) (all_any rest)) o)

    pub infer_ends : l.count ≤ i → InferAllIs j d₀ l d (Ok again)
    unfolding InferLeft InferAllIs InferTo infer_all reselects
    infer_ends m types hs xs H few L =
        walk_ends (infer_work hs j) xs (hs, false) l i (InferredSo hs d again types) (I types hs xs H few L)
        (λ t. OnDesk d types t.0 × (length t.0 ≤ 64) × (again ≡ t.1)) m
        (λ t h. (h.held, h.few, h.again_is ∙ sym (or-false t.1)))

pub ruleset inferring = (infer_start, infer_goes, infer_stops, infer_ends)

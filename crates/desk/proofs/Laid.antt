-- What the desk holds depends on no more than its bytes up to the end of the hypotheses.
use Prim.Native.Nat.{ℕ, zero, suc, ◌+◌, ◌≤◌}
use mathlib.Core.Path.{◌≡◌, refl, sym, ap, ◌∙◌}
use mathlib.Core.List.{List, [], ◌∷◌, ◌++◌}
use native.Mathlib.Omega.{arith}
use lib.ListN.{length, take, drop, length-append, length-drop}
use lib.Seq.{take-take, take_at, length-take-le}
use Rattle.formula.specs.Tree.{encode}
use Rattle.desk.specs.Sequent.{Hypothesis}
use Rattle.desk.specs.File.{hypotheses_bytes}
use Rattle.desk.specs.Mirror.Desk.{HypothesesStand, Holds}
use Rattle.desk.specs.Mirror.Bytes.{Stand, OnDesk, LaidIs}
use Rattle.desk.specs.declared.Desk.{Desk}
use Rattle.desk.specs.declared.hypotheses.Hypotheses.{Hypotheses}
use Rattle.desk.specs.declared.view.View.{View}

-- ---- parts of a list
part_of : (p n e : ℕ) (d : List ℕ) → p + n ≤ e → take n (drop p (take e d)) ≡ take n (drop p d)
part_of zero n e d h = take-take n e d (omega arith)
part_of (suc p) n zero d h = absurd (omega (arith, h))
part_of (suc p) n (suc e) [] h = refl
part_of (suc p) n (suc e) (b ∷ d) h = part_of p n e d (omega arith)

pub same_part : (d d' : List ℕ) (p n e : ℕ) → take e d' ≡ take e d → p + n ≤ e → take n (drop p d') ≡ take n (drop p d)
same_part d d' p n e q h = sym (part_of p n e d' h) ∙ ap (λ (l : List ℕ). take n (drop p l)) q ∙ part_of p n e d h

-- ---- the same bytes up to there
module _ (d d' : List ℕ) (e : ℕ) (q : take e d' ≡ take e d) where
  pub stand_there : (p : ℕ) (hs : List Hypothesis) → p + length (hypotheses_bytes hs) ≤ e → HypothesesStand d p hs → HypothesesStand d' p hs
  unfolding HypothesesStand hypotheses_bytes
  stand_there p [] h s = s
  stand_there p (x ∷ hs) h s =
      let n = length (encode x.formula) in
      let w = length-append (encode x.formula) (hypotheses_bytes hs) in
      (same_part d d' (p + 1) n e q (omega arith) ∙ s.0, stand_there (p + 1 + n) hs (omega arith) s.1)

pub holds_there : (d d' places : List ℕ) (v : View) (types : List ℕ) (hs : List Hypothesis) → take v.end d' ≡ take v.end d → v.end ≤ length d'
    → Holds d places v types hs → Holds d' places v types hs
holds_there d d' places v types hs q k H =
    let w = H.end_is in
    record {
      identifiers_are = H.identifiers_are;
      hypotheses_are = H.hypotheses_are;
      end_is = H.end_is;
      in_desk = k;
      types_are = same_part d d' 8 (length types) v.end q (omega arith) ∙ H.types_are;
      places_are = H.places_are;
      stand = stand_there d d' v.end q (8 + length types) hs (omega arith) H.stand;
      hidden_is = H.hidden_is;
      selected_is = H.selected_is;
    }

-- ---- laying
module _ (h : Hypotheses) where
  -- the front of the bytes, over a desk
  pub laid_is : (front desk : List ℕ) → front ≡ take h.view.end h.bytes.now → length desk ≡ 60000 → h.view.end ≤ length h.bytes.now → h.view.end ≤ 60000
      → LaidIs h (record { bytes = front ++ drop h.view.end desk; places = h.places.now; view = h.view })
  laid_is front desk front≡ l i j = record {
    places_are = refl;
    view_is = refl;
    laid = λ places types hs H k.
        let n = h.view.end in
        let w : length front ≡ n = ap length front≡ ∙ length-take-le n h.bytes.now i in
        let r = length-drop n desk in
        holds_there h.bytes.now (front ++ drop n desk) places h.view types hs (take_at front (drop n desk) n w ∙ front≡) (simp length-append (omega arith)) H;
  }

  -- or nothing, where the hypotheses end past their bytes or the desk
  pub none_laid : (desk : List ℕ) → (h.view.end ≤ length h.bytes.now → h.view.end ≤ 60000 → ⊥) → LaidIs h (record { bytes = desk; places = h.places.now; view = h.view })
  none_laid desk n = record { places_are = refl; view_is = refl; laid = λ places types hs H k. absurd (n H.in_desk k) }

  -- what stands is then on the desk
  pub laid_on : (d : Desk) → LaidIs h d → (types : List ℕ) (hs : List Hypothesis) → Stand h types hs → h.view.end ≤ 60000 → OnDesk d types hs
  laid_on d L types hs H k = rw L.places_are (L.laid h.places.now types hs H k)

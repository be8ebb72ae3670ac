-- What the desk holds after one more hypothesis, or that there is no room for it.
use Prim.Native.Nat.{ℕ, suc, ◌+◌, ◌-◌, ◌≤◌}
use mathlib.Core.Path.{◌≡◌, refl, sym, ap, ◌∙◌}
use mathlib.Core.Bool.{Bool, not, ◌&&◌}
use mathlib.Core.List.{List, [], ◌∷◌, ◌++◌}
use native.Mathlib.Omega.{arith}
use lib.ListN.{length, take, drop, set, length-append, length-drop}
use lib.Seq.{take-suc-set, length-take-le}
use borrow.Rule.Slice.PartMut.{put_mid}
use Rattle.std.specs.List.{between}
use Rattle.formula.specs.Tree.{encode}
use Rattle.desk.specs.Sequent.{Hypothesis, is_hidden, is_selected, hypothesis}
use Rattle.desk.specs.File.{hypotheses_bytes}
use Rattle.desk.specs.Mirror.Desk.{mask_of, places_from, HypothesesStand, flag_from}
use Rattle.desk.specs.Mirror.Masks.{put_bit, with_flag}
use Rattle.desk.specs.Mirror.Bytes.{AppendIs, grown}
use Rattle.desk.specs.declared.view.View.{View}
use Rattle.desk.specs.declared.Desk.{Desk}
use Rattle.std.specs.Prelude.{Ok}
use Rattle.desk.proofs.MaskLaws.{put_new, hidden_from, selected_from}
use Rattle.desk.proofs.Laid.{same_part, stand_there}

-- ---- one more hypothesis: how long the bytes get, the place after it, and that it stands there; here and where a file is read
module _ (z : Hypothesis) where
  pub bytes_more : (hs : List Hypothesis) → length (hypotheses_bytes (hs ++ (z ∷ []))) ≡ length (hypotheses_bytes hs) + 1 + length (encode z.formula)
  unfolding hypotheses_bytes
  bytes_more [] = simp length-append (omega arith)
  bytes_more (h ∷ hs) = let k = bytes_more hs in simp length-append (omega arith)

  pub places_more : (p : ℕ) (hs : List Hypothesis) → places_from p (hs ++ (z ∷ [])) ≡ places_from p hs ++ ((p + length (hypotheses_bytes hs) + 1 + length (encode z.formula)) ∷ [])
  unfolding places_from hypotheses_bytes
  places_more p [] = let k : p + 1 + length (encode z.formula) ≡ p + 0 + 1 + length (encode z.formula) = omega arith in ap (λ (n : ℕ). p ∷ (n ∷ [])) k
  places_more p (h ∷ hs) =
      let m = length (encode h.formula) in
      let w = length-append (encode h.formula) (hypotheses_bytes hs) in
      let k : p + 1 + m + length (hypotheses_bytes hs) + 1 + length (encode z.formula) ≡ p + suc (length (encode h.formula ++ hypotheses_bytes hs)) + 1 + length (encode z.formula) = omega arith in
      ap (λ (l : List ℕ). p ∷ l) (places_more (p + 1 + m) hs ∙ ap (λ (n : ℕ). places_from (p + 1 + m) hs ++ (n ∷ [])) k)

  pub stand_more : (d : List ℕ) (p : ℕ) (hs : List Hypothesis) → HypothesesStand d p hs → take (length (encode z.formula)) (drop (p + length (hypotheses_bytes hs) + 1) d) ≡ encode z.formula → HypothesesStand d p (hs ++ (z ∷ []))
  unfolding HypothesesStand hypotheses_bytes
  stand_more d p [] s e = let k : p + 1 ≡ p + 0 + 1 = omega arith in (ap (λ (n : ℕ). take (length (encode z.formula)) (drop n d)) k ∙ e, tt)
  stand_more d p (h ∷ hs) s e =
      let m = length (encode h.formula) in
      let w = length-append (encode h.formula) (hypotheses_bytes hs) in
      let k : p + 1 + m + length (hypotheses_bytes hs) + 1 ≡ p + suc (length (encode h.formula ++ hypotheses_bytes hs)) + 1 = omega arith in
      (s.0, stand_more d (p + 1 + m) hs s.1 (ap (λ (n : ℕ). take (length (encode z.formula)) (drop n d)) k ∙ e))

  module _ (v : View) (hid sel : Bool) (hs : List Hypothesis) (z≡ : z.flag ≡ flag_from hid sel) (h≡ : v.hypotheses ≡ length hs) where
    hidden_more : v.hidden ≡ mask_of is_hidden hs → put_bit v.hidden v.hypotheses hid ≡ mask_of is_hidden (hs ++ (z ∷ []))
    hidden_more e = rw (e, h≡) (ap (put_bit (mask_of is_hidden hs) (length hs)) (sym (ap is_hidden z≡ ∙ hidden_from hid sel)) ∙ put_new is_hidden hs z)

    selected_more : v.selected ≡ mask_of is_selected hs → put_bit v.selected v.hypotheses (not hid && sel) ≡ mask_of is_selected (hs ++ (z ∷ []))
    selected_more e = rw (e, h≡) (ap (put_bit (mask_of is_selected hs) (length hs)) (sym (ap is_selected z≡ ∙ selected_from hid sel)) ∙ put_new is_selected hs z)

-- a part of a list replaced by as many
pub put_long : (a k : ℕ) (d ys : List ℕ) → a + k ≤ length d → length ys ≡ k → length (put_mid a k d ys) ≡ length d
put_long a k d ys h e =
    let w = length-take-le a d (omega arith) in
    simp (length-append, length-drop) (omega arith)

module _ (d : Desk) (x : List ℕ) (hid sel : Bool) where
  -- the formula's bytes put after the hypotheses, whatever comes after it
  pub append_is : (bytes : List ℕ) (w : View) → d.view.hypotheses ≤ 63 → d.view.end ≤ 59999 → length x ≤ 59999 - d.view.end → length d.places ≡ 65
      → length bytes ≡ 60000 → take d.view.end bytes ≡ take d.view.end d.bytes → between (d.view.end + 1) (d.view.end + 1 + length x) bytes ≡ x → w ≡ grown d.view (length x) hid sel
      → AppendIs d x hid sel (record { bytes = bytes; places = set d.places (d.view.hypotheses + 1) (d.view.end + 1 + length x); view = w }) (Ok tt)
  unfolding grown with_flag
  append_is bytes w few low room l≡ long kept put w≡ types hs y H x≡ most =
      let v : View = d.view in
      let z : Hypothesis = hypothesis (flag_from hid sel) y in
      let n≡ : length x ≡ length (encode y) = ap length x≡ in
      let h≡ = H.hypotheses_are in
      let e≡ = H.end_is in
      let k : v.hypotheses + 1 ≡ suc (length hs) = omega arith in
      let c : length (hs ++ (z ∷ [])) ≡ suc (length hs) = length-append hs (z ∷ []) ∙ omega arith in
      let m : length (encode y) ≡ v.end + 1 + length x - (v.end + 1) = omega arith in
      let there : take (length (encode y)) (drop (v.end + 1) bytes) ≡ encode y = ap (λ (n : ℕ). take n (drop (v.end + 1) bytes)) m ∙ put ∙ x≡ in
      let last : v.end + 1 + length x ≡ 8 + length types + length (hypotheses_bytes hs) + 1 + length (encode y) = omega arith in
      let from : 8 + length types + length (hypotheses_bytes hs) + 1 ≡ v.end + 1 = omega arith in
      rw w≡ (
        record {
          identifiers_are = H.identifiers_are;
          hypotheses_are = omega arith;
          end_is = omega (arith, bytes_more z hs);
          in_desk = omega arith;
          types_are = same_part d.bytes bytes 8 (length types) v.end kept (omega arith) ∙ H.types_are;
          places_are = ap (λ (n : ℕ). take (suc n) (set d.places (v.hypotheses + 1) (v.end + 1 + length x))) c
              ∙ ap (λ (n : ℕ). take (suc (suc (length hs))) (set d.places n (v.end + 1 + length x))) k
              ∙ take-suc-set d.places (suc (length hs)) (v.end + 1 + length x) (omega arith)
              ∙ ap (λ (r : List ℕ). r ++ ((v.end + 1 + length x) ∷ [])) H.places_are
              ∙ ap (λ (n : ℕ). places_from (8 + length types) hs ++ (n ∷ [])) last
              ∙ sym (places_more z (8 + length types) hs);
          stand = stand_more z bytes (8 + length types) hs
              (stand_there d.bytes bytes v.end kept (8 + length types) hs (omega arith) H.stand)
              (ap (λ (n : ℕ). take (length (encode y)) (drop n bytes)) from ∙ there);
          hidden_is = hidden_more z v hid sel hs refl h≡ H.hidden_is;
          selected_is = selected_more z v hid sel hs refl h≡ H.selected_is;
        },
        omega arith,
      )

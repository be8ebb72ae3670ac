-- What the code finds is the first hypothesis that is the formula.
use Prim.Native.Nat.{ℕ, suc, ◌+◌, ◌-◌, ◌<◌, ◌≤◌}
use mathlib.Core.Path.{◌≡◌, refl, sym, ap, ◌∙◌}
use mathlib.Core.Bool.{Bool, true, false, ◌||◌}
use mathlib.Core.List.{List, [], ◌∷◌}
use native.Mathlib.Numerals.{add-one}
use native.Mathlib.Nat.{add-zero, zero-add}
use native.Mathlib.Omega.{arith}
use lib.ListN.{length, get_or, take, drop, length-append}
use lib.Seq.{get_or-drop, drop-drop, drop-cons}
use lib.Dec.{ltb}
use borrow.Author.Tests.{le-ltb, lt-ltb, le-leb, ltb-true, ltb-false}
use Rattle.formula.specs.Pick.{pick}
use Rattle.formula.specs.Tree.{Tree, encode}
use Rattle.desk.specs.Sequent.{Hypothesis, present}
use Rattle.formula.specs.Equal.{same}
use Rattle.desk.specs.File.{hypotheses_bytes}
use Rattle.desk.specs.Mirror.Desk.{places_from, HypothesesStand, index_of, position}
use Rattle.desk.specs.Mirror.Bytes.{Stand, has_formula, find_from, find_in}
use Rattle.desk.specs.declared.hypotheses.Hypotheses.{Hypotheses}
use Rattle.std.specs.Prelude.{Option, Some, None}
use Rattle.desk.proofs.Apart.{present_none, present_cons}

-- a formula that stands after its flag byte
has_is : (d : List ℕ) (p n : ℕ) (x : List ℕ) (y z : Tree) → x ≡ encode y → n ≡ length (encode z) → take n (drop (p + 1) d) ≡ encode z → p + 1 + n ≤ length d
    → has_formula d p (p + 1 + n) x ≡ same z y
unfolding has_formula same
has_is d p n x y z x≡ n≡ there in_desk =
    let w : p + 1 + n - p ≡ suc n = omega arith in
    let c : drop p d ≡ get_or d p 0 ∷ drop (p + 1) d = rw (add-one p) (drop-cons d p 0 (omega arith)) in
    simp (le-leb p (p + 1 + n) (omega arith), le-leb (p + 1 + n) (length d) in_desk) (rw (w, c) (rw (there, x≡) refl))

-- ---- the places
module _ (D : List ℕ) (k b : ℕ) (r : List ℕ) where
  first_of : take (suc k) D ≡ b ∷ r → get_or D 0 0 ≡ b
  first_of e = go D e
    where
      go : (D : List ℕ) → take (suc k) D ≡ b ∷ r → get_or D 0 0 ≡ b
      go [] e = let z : ◌≡◌ {A = ℕ} 0 1 = cc in absurd (omega (arith, z))
      go (c ∷ D) e = cc

  rest_of : take (suc k) D ≡ b ∷ r → take k (drop 1 D) ≡ r
  rest_of e = go D e
    where
      go : (D : List ℕ) → take (suc k) D ≡ b ∷ r → take k (drop 1 D) ≡ r
      go [] e = let z : ◌≡◌ {A = ℕ} 0 1 = cc in absurd (omega (arith, z))
      go (c ∷ D) e = cc

module _ (l : List ℕ) (i k b : ℕ) (r : List ℕ) (q : take (suc k) (drop i l) ≡ b ∷ r) where
  pub place_is : get_or l i 0 ≡ b
  place_is = ap (λ (n : ℕ). get_or l n 0) (sym (add-zero i)) ∙ sym (get_or-drop i l 0 0) ∙ first_of (drop i l) k b r q

  pub places_on : take k (drop (i + 1) l) ≡ r
  places_on = ap (take k) (sym (drop-drop 1 i l)) ∙ rest_of (drop i l) k b r q

pub first_place : (l : List ℕ) (i p : ℕ) (hs : List Hypothesis) → take (suc (length hs)) (drop i l) ≡ places_from p hs → get_or l i 0 ≡ p
unfolding places_from
first_place l i p [] q = place_is l i 0 p [] q
first_place l i p (h ∷ hs) q = place_is l i (suc (length hs)) p (places_from (p + 1 + length (encode h.formula)) hs) q

-- ---- the position
-- a place for each hypothesis, and one more
pub places_count : (p : ℕ) (hs : List Hypothesis) → length (places_from p hs) ≡ suc (length hs)
unfolding places_from
places_count p [] = refl
places_count p (h ∷ hs) = ap suc (places_count (p + 1 + length (encode h.formula)) hs)

module _ (d l x : List ℕ) (y : Tree) (x≡ : x ≡ encode y) where
  found : (hs : List Hypothesis) (p i : ℕ) → take (suc (length hs)) (drop i l) ≡ places_from p hs → HypothesesStand d p hs → p + length (hypotheses_bytes hs) ≤ length d
      → find_from (length hs) d l i x ≡ pick (present hs y) (Some (i + index_of hs y)) None
  unfolding find_from index_of places_from HypothesesStand hypotheses_bytes
  found [] p i q s h = rw (present_none y) refl
  found (z ∷ hs) p i q s h =
      let n = length (encode z.formula) in
      let w = length-append (encode z.formula) (hypotheses_bytes hs) in
      let t = places_on l i (suc (length hs)) p (places_from (p + 1 + n) hs) q in
      let j = found hs (p + 1 + n) (i + 1) t s.1 (omega arith) in
      rw (place_is l i (suc (length hs)) p (places_from (p + 1 + n) hs) q, first_place l (i + 1) (p + 1 + n) hs t, has_is d p n x y z.formula x≡ refl s.0 (omega arith), j, present_cons z hs y)
      (go (same z.formula y) (present hs y))
    where
      go : (b c : Bool) → pick b (Some i) (pick c (Some (i + 1 + index_of hs y)) None) ≡ pick (b || c) (Some (i + pick b 0 (suc (index_of hs y)))) None
      go true c = ap Some (sym (add-zero i))
      go false true = let k : i + 1 + index_of hs y ≡ i + suc (index_of hs y) = omega arith in ap Some k
      go false false = refl

pub find_is : (h : Hypotheses) (x : List ℕ) (types : List ℕ) (hs : List Hypothesis) (y : Tree) → Stand h types hs → length hs ≤ 64 → x ≡ encode y
    → find_in h x ≡ position hs y
unfolding find_in
find_is h x types hs y H few x≡ =
    let w = H.end_is in
    let i = H.in_desk in
    let n = H.hypotheses_are in
    simp (le-leb h.view.hypotheses 64 (omega arith)) (rw n (found h.bytes.now h.places.now x y x≡ hs (8 + length types) 0 H.places_are H.stand (omega arith) ∙ rw (zero-add (index_of hs y)) refl))

-- a formula is there if its position is one of theirs
next_below : (i n : ℕ) → ltb (suc i) (suc n) ≡ ltb i n
next_below i n = go (ltb i n) refl
  where
    go : (b : Bool) → ltb i n ≡ b → ltb (suc i) (suc n) ≡ b
    go true q = lt-ltb (suc i) (suc n) (omega (arith, ltb-true i n q))
    go false q = le-ltb (suc i) (suc n) (omega (arith, ltb-false i n q))

pub there_is : (hs : List Hypothesis) (y : Tree) → ltb (index_of hs y) (length hs) ≡ present hs y
unfolding index_of
there_is [] y = sym (present_none y)
there_is (h ∷ hs) y = go (same h.formula y) (there_is hs y) ∙ sym (present_cons h hs y)
  where
    go : (b : Bool) → ltb (index_of hs y) (length hs) ≡ present hs y → ltb (pick b 0 (suc (index_of hs y))) (suc (length hs)) ≡ (b || present hs y)
    go true e = lt-ltb 0 (suc (length hs)) (omega arith)
    go false e = next_below (index_of hs y) (length hs) ∙ e

-- by whether there is a position
module _ (hs : List Hypothesis) (y : Tree) where
  pub position_some : (i : ℕ) → Some i ≡ position hs y → (i ≡ index_of hs y) × (index_of hs y < length hs)
  position_some i e = go (present hs y) (there_is hs y) e
    where
      go : (b : Bool) → ltb (index_of hs y) (length hs) ≡ b → Some i ≡ pick b (Some (index_of hs y)) None → (i ≡ index_of hs y) × (index_of hs y < length hs)
      go true q e = (cc, ltb-true _ _ q)
      go false q e = absurd cc

  pub position_none : None ≡ position hs y → length hs ≤ index_of hs y
  position_none e = go (present hs y) (there_is hs y) e
    where
      go : (b : Bool) → ltb (index_of hs y) (length hs) ≡ b → ◌≡◌ {A = Option ℕ} None (pick b (Some (index_of hs y)) None) → length hs ≤ index_of hs y
      go true q e = absurd cc
      go false q e = ltb-false _ _ q

-- by what the code finds
module _ (h : Hypotheses) (x types : List ℕ) (hs : List Hypothesis) (y : Tree) (H : Stand h types hs) (few : length hs ≤ 64) (x≡ : x ≡ encode y) where
  pub find_some : (i : ℕ) → Some i ≡ find_in h x → (i ≡ index_of hs y) × (index_of hs y < length hs)
  find_some i e = position_some hs y i (e ∙ find_is h x types hs y H few x≡)

  pub find_no : None ≡ find_in h x → length hs ≤ index_of hs y
  find_no e = position_none hs y (e ∙ find_is h x types hs y H few x≡)

-- One more hypothesis: what the reader's step finds is what document 01 reads, and it stands in its place.
use Prim.Native.Nat.{ℕ, zero, suc, ◌+◌, ◌-◌, ◌<◌, ◌≤◌}
use mathlib.Core.Path.{◌≡◌, refl, sym, ap, ◌∙◌, subst}
use mathlib.Core.Bool.{Bool, true, false, not, ◌&&◌}
use mathlib.Core.Option.{some, none}
use mathlib.Core.List.{List, [], ◌∷◌, ◌++◌}
use native.Mathlib.Nat.{sub-zero}
use native.Mathlib.Omega.{arith}
use lib.ListN.{length, get_or, set, replicate, length-replicate, take, drop, length-append, length-set}
use lib.Seq.{take_at, take-suc-set}
use lib.Dec.{ltb, leb, eqb}
use borrow.Author.Tests.{ltb-true, ltb-false}
use mir.Syntax.{w8}
use mir.Val.{Fits}
use Rattle.std.specs.Prelude.{Result, Ok, Err, Some, None, is_some, slice_range}
use Rattle.refusal.specs.Refusal.{refused}
use Rattle.refusal.specs.declared.Cause.TheVariants as cause
use Rattle.refusal.specs.declared.Refusal.{Refusal}
use Rattle.formula.specs.Reading.{Parsed, got, not_got, on_got}
use Rattle.formula.specs.Pick.{pick}
use Rattle.formula.specs.Tree.{Tree, encode}
use Rattle.formula.proofs.Places.{AllBytes}
use Rattle.formula.specs.Formula.{read_formula, end_or_refusal}
use Rattle.formula.proofs.Back.{OfGot}
use Rattle.desk.specs.Sequent.{Flag, plain, hidden, selected, Hypothesis, is_hidden, is_selected, present, hypothesis}
use Rattle.desk.specs.File.{hypotheses_bytes}
use Rattle.desk.specs.Mirror.Desk.{mask_of, places_from, HypothesesStand, Holds, view}
use Rattle.desk.specs.Mirror.Bytes.{Stand, find_in}
use Rattle.desk.specs.Mirror.Masks.{with_flag}
use Rattle.desk.specs.declared.hypotheses.Hypotheses.{Hypotheses}
use Rattle.desk.specs.declared.view.View.{View}
use Rattle.desk.proofs.Appends.{bytes_more, places_more, stand_more}
use Rattle.desk.proofs.Found.{find_is}
use Rattle.desk.proofs.MaskLaws.{put_new}
use Rattle.sequent.specs.ReadFile.{predicate_at, flag_of, on_flag, hypotheses_at}
use Rattle.sequent.specs.Mirror.ReadBytes.{unless_twice, item_at, with_hypothesis, HypothesesSeen, HypothesesRefused}
use Rattle.sequent.proofs.SeenIs.{PredicateStands, predicate_stood}
use Rattle.sequent.proofs.SeenIs.{all_bytes}

-- ---- the flag of a byte
record FlagIs (b : ℕ) : Type 0 where
  flag : Flag
  flag_of_law : flag_of b ≡ some flag
  hidden_by : eqb b 1 ≡ is_hidden flag
  selected_by : (not (eqb b 1) && eqb b 2) ≡ is_selected flag

flag_is : (b : ℕ) → ltb 2 b ≡ false → FlagIs b
flag_is zero h = record { flag = plain; flag_of_law = refl; hidden_by = refl; selected_by = refl }
flag_is (suc zero) h = record { flag = hidden; flag_of_law = refl; hidden_by = refl; selected_by = refl }
flag_is (suc (suc zero)) h = record { flag = selected; flag_of_law = refl; hidden_by = refl; selected_by = refl }
flag_is (suc (suc (suc b))) h = absurd (let k = ltb-false 2 (suc (suc (suc b))) h in omega arith)

no_flag : (b : ℕ) → ltb 2 b ≡ true → flag_of b ≡ none
no_flag zero h = absurd (let k = ltb-true 2 0 h in omega arith)
no_flag (suc zero) h = absurd (let k = ltb-true 2 1 h in omega arith)
no_flag (suc (suc zero)) h = absurd (let k = ltb-true 2 2 h in omega arith)
no_flag (suc (suc (suc b))) h = refl

some_if : (b : Bool) (i : ℕ) → is_some (pick b (Some i) None) ≡ b
some_if true i = refl
some_if false i = refl

-- ---- one more hypothesis stands in its place
module _ (E : Hypotheses) (types : List ℕ) (hs : List Hypothesis) (H : Stand E types hs) (long : length E.places.now ≡ 65) (room : E.view.hypotheses < 64) where
  abbrev s : List ℕ
  s = E.bytes.now

  abbrev places : List ℕ
  places = E.places.now

  abbrev v : View
  v = E.view

  -- the reader's step
  module _ (n : ℕ) where
    record More (R : Parsed (List Hypothesis)) (b e : ℕ) : Type 0 where
      next : Hypothesis
      hidden_by : eqb b 1 ≡ is_hidden next.flag
      selected_by : (not (eqb b 1) && eqb b 2) ≡ is_selected next.flag
      stood : PredicateStands s types (v.end + 1) next.formula e
      seen_is : R ≡ hypotheses_at s types n (hs ++ (next ∷ [])) e

    abbrev StepIs : Parsed (List Hypothesis) → Result (ℕ × ℕ) Refusal → Type 0
    StepIs R (Err y) = R ≡ not_got y.cause y.at
    StepIs R (Ok (b, e)) = More R b e

    step_is : AllBytes s → StepIs (hypotheses_at s types (suc n) hs v.end) (item_at E types)
    unfolding hypotheses_at item_at predicate_at read_formula
    step_is B = at_end (leb (length s) v.end) (ltb 2 b) refl (predicate_at s types (p + 1)) (predicate_stood s types (p + 1) B)
      where
        p : ℕ
        p = v.end

        b : ℕ
        b = get_or s p 0

        rest : Flag → Tree → ℕ → Parsed (List Hypothesis)
        rest f x q = pick (present hs x) (not_got cause.Twice (p + 1)) (hypotheses_at s types n (hs ++ (hypothesis f x ∷ [])) q)

        -- the bytes from p + 1 to q are those of x
        twice : (x : Tree) (q : ℕ) → PredicateStands s types (p + 1) x q → is_some (find_in E (slice_range s (p + 1) q)) ≡ present hs x
        twice x q S =
            let e = S.ends in
            let m = H.hypotheses_are in
            let n : q - (p + 1) ≡ length (encode x) = omega arith in
            let bytes_are : slice_range s (p + 1) q ≡ encode x = rw n (ap (take (length (encode x))) S.stands ∙ take_at (encode x) (drop q s) (length (encode x)) refl) in
            ap is_some (find_is E (slice_range s (p + 1) q) types hs x H (omega arith) bytes_are) ∙ some_if (present hs x) _

        found : (f : FlagIs b) (x : Tree) (q : ℕ) → PredicateStands s types (p + 1) x q → (t : Bool) → present hs x ≡ t
            → StepIs (pick t (not_got cause.Twice (p + 1)) (hypotheses_at s types n (hs ++ (hypothesis f.flag x ∷ [])) q))
            (pick t (Err (refused cause.Twice (p + 1))) (Ok (b, q)))
        found f x q S true e = refl
        found f x q S false e = record { next = hypothesis f.flag x; hidden_by = f.hidden_by; selected_by = f.selected_by; stood = S; seen_is = refl }

        read : (f : FlagIs b) (z : Parsed Tree) → OfGot (PredicateStands s types (p + 1)) z → StepIs (on_got z (rest f.flag)) (unless_twice E (end_or_refusal z))
        read f (not_got w q) S = refl
        read f (got x q) S = rw (twice x q S) (found f x q S (present hs x) refl)

        at_end : (t u : Bool) → ltb 2 b ≡ u → (z : Parsed Tree) → OfGot (PredicateStands s types (p + 1)) z
            → StepIs (pick t (not_got cause.Length p) (on_flag s (flag_of b) p (λ f. on_got z (rest f))))
            (pick t (Err (refused cause.Length p)) (pick u (Err (refused cause.FlagByte p)) (unless_twice E (end_or_refusal z))))
        at_end true u e z S = refl
        at_end false true e z S = rw (no_flag b e) refl
        at_end false false e z S = let f = flag_is b e in rw f.flag_of_law (read f z S)

    -- the desk with it
    more_holds : (R : Parsed (List Hypothesis)) (b e : ℕ) → (M : More R b e) → Holds s (set places (v.hypotheses + 1) e) (with_hypothesis v b e) types (hs ++ (M.next ∷ []))
    unfolding hypotheses_bytes with_flag
    more_holds R b e M =
        let k = M.next in
        let x = encode k.formula in
        let S = M.stood in
        let S₀ = S.ends in
        let S₁ = S.inside in
        let w = H.hypotheses_are in
        let u = H.end_is in
        let l = length-append hs (k ∷ []) in
        let m = bytes_more k hs in
        let a : length (hs ++ (k ∷ [])) ≡ suc (length hs) = omega arith in
        let c : v.hypotheses + 1 ≡ suc (length hs) = omega arith in
        let z : e ≡ 8 + length types + length (hypotheses_bytes hs) + 1 + length x = omega arith in
        record {
          identifiers_are = H.identifiers_are;
          hypotheses_are = omega arith;
          end_is = omega arith;
          in_desk = S₁;
          types_are = H.types_are;
          places_are = rw (a, c) (take-suc-set places (suc (length hs)) e (omega arith) ∙ rw (H.places_are, places_more k (8 + length types) hs, ← z) refl);
          stand = stand_more k s (8 + length types) hs H.stand (rw (← u) (ap (take (length x)) S.stands ∙ take_at x (drop e s) (length x) refl));
          hidden_is = rw (M.hidden_by, H.hidden_is, w) (put_new is_hidden hs k);
          selected_is = rw (M.selected_by, H.selected_is, w) (put_new is_selected hs k);
        }

-- ---- the i hypotheses read so far
pub record Reached (s types : List ℕ) (h : ℕ) (places : List ℕ) (v : View) (i : ℕ) : Type 0 where
  pub as_many : i ≡ v.hypotheses
  pub earlier : List Hypothesis
  pub held : Holds s places v types earlier
  pub left : hypotheses_at s types (h - v.hypotheses) earlier v.end ≡ hypotheses_at s types h [] (8 + length types)
  pub long : length places ≡ 65
  pub few : v.hypotheses ≤ h
  pub bytes : AllBytes s

pub reached_none : (s types : List ℕ) (h start : ℕ) → ((i : ℕ) → Fits w8 (get_or s i 0)) → 8 + length types ≤ length s → take (length types) (drop 8 s) ≡ types → start ≡ 8 + length types
    → Reached s types h (replicate 65 start) (view (length types) 0 start 0 0) 0
unfolding places_from HypothesesStand mask_of hypotheses_bytes
reached_none s types h start B i t e = record {
  as_many = refl;
  earlier = [];
  held = record {
    identifiers_are = refl;
    hypotheses_are = refl;
    end_is = omega arith;
    in_desk = omega arith;
    types_are = t;
    places_are = ap (λ (n : ℕ). n ∷ []) e;
    stand = tt;
    hidden_is = refl;
    selected_is = refl;
  };
  left = rw (sub-zero h, e) refl;
  long = length-replicate 65 start;
  few = omega arith;
  bytes = all_bytes s B;
}

module _ (E : Hypotheses) (types : List ℕ) (h i : ℕ) (R : Reached E.bytes.now types h E.places.now E.view i) (few : h ≤ 64) (k : i < h) (x : Result (ℕ × ℕ) Refusal) (x≡ : x ≡ item_at E types) where
  -- how many there are after this one
  abbrev n : ℕ
  n = h - E.view.hypotheses - 1

  left_is : hypotheses_at E.bytes.now types (suc n) R.earlier E.view.end ≡ hypotheses_at E.bytes.now types h [] (8 + length types)
  left_is = let j = R.as_many in let m : h - E.view.hypotheses ≡ suc n = omega arith in rw m at R.left

  room : E.view.hypotheses < 64
  room = let j = R.as_many in omega arith

  abbrev Step : Result (ℕ × ℕ) Refusal → Type 0
  Step = StepIs E types R.earlier R.held R.long room n (hypotheses_at E.bytes.now types (suc n) R.earlier E.view.end)

  step : Step x
  step = subst Step (sym x≡) (step_is E types R.earlier R.held R.long room n R.bytes)

  pub reached_more : (b e : ℕ) (w : View) → x ≡ Ok (b, e) → w ≡ with_hypothesis E.view b e → Reached E.bytes.now types h (set E.places.now (i + 1) e) w (i + 1)
  reached_more b e w q f =
      let M = subst Step q step in
      let j = R.as_many in
      let m : h - (E.view.hypotheses + 1) ≡ n = omega arith in
      rw (f, j)
      (record {
        as_many = refl;
        earlier = R.earlier ++ (M.next ∷ []);
        held = more_holds E types R.earlier R.held R.long room n _ b e M;
        left = rw m (sym M.seen_is ∙ left_is);
        long = length-set E.places.now (E.view.hypotheses + 1) e ∙ R.long;
        few = omega arith;
        bytes = R.bytes;
      })

  pub reached_stops : (y : Refusal) → x ≡ Err y → HypothesesRefused E.bytes.now types h y
  reached_stops y q = sym left_is ∙ subst Step q step

pub reached_all : (s types : List ℕ) (h : ℕ) (places : List ℕ) (v : View) (i : ℕ) → Reached s types h places v i → h ≤ i → HypothesesSeen s types h (v, places)
unfolding hypotheses_at
reached_all s types h places v i R k =
    let j = R.as_many in
    let m : h - v.hypotheses ≡ 0 = omega arith in
    record { hypotheses = R.earlier; seen_is = sym R.left ∙ rw m refl; held = R.held }

-- A file that is opened: the header, the type bytes, the hypotheses and the goal are those that document 01 reads.
use Prim.Native.Nat.{ℕ, ◌+◌, ◌-◌, ◌≤◌}
use mathlib.Core.Path.{◌≡◌, refl, sym, ap, ◌∙◌, subst}
use mathlib.Core.Bool.{Bool, true, false}
use mathlib.Core.List.{List, [], append-nil}
use native.Mathlib.Omega.{arith}
use lib.ListN.{length, get_or, take, drop, length-append, length-drop, drop_of_length-le}
use lib.Seq.{take_at}
use lib.Dec.{ltb}
use borrow.Author.Tests.{ltb-false}
use mir.Syntax.{w8}
use mir.Val.{Fits}
use Rattle.std.specs.Prelude.{Result, Ok, Err}
use Rattle.refusal.specs.Refusal.{refused}
use Rattle.refusal.specs.declared.Cause.TheVariants as cause
use Rattle.refusal.specs.declared.Refusal.{Refusal}
use Rattle.formula.specs.Reading.{Parsed, got, not_got, on_got}
use Rattle.formula.specs.Pick.{pick}
use Rattle.formula.specs.Tree.{Tree, encode}
use Rattle.formula.proofs.Places.{AllBytes}
use Rattle.formula.proofs.Back.{OfGot}
use Rattle.desk.specs.Sequent.{Hypothesis, Sequent, sequent_of}
use Rattle.desk.specs.declared.view.View.{View}
use Rattle.desk.proofs.Apart.{or_false}
use Rattle.sequent.specs.ReadFile.{header_at, predicate_at, types_at, hypotheses_at, body_at, read_sequent}
use Rattle.sequent.specs.ReadFile.{to_end}
use Rattle.sequent.specs.Mirror.Opened.{Open}
use Rattle.sequent.specs.Mirror.ReadBytes.{check_of, HypothesesSeen, HypothesesRefused, Refuses, rest_at, TypesSeen}
use Rattle.sequent.proofs.SeenIs.{of_seen, PredicateStands, predicate_stood}
use Rattle.sequent.proofs.FileBack.{TypesStood, types_stood}
use Rattle.sequent.proofs.FileIs.{HeaderPassed, header_passed, file_is}
use Rattle.sequent.proofs.SeenIs.{all_bytes}

-- ---- whether something was seen
pub check_stopped : {A : Type 0} (z : Parsed A) (x : Refusal) → check_of z ≡ Err x → z ≡ not_got x.cause x.at
check_stopped (got a p) x e = absurd (let z : ◌≡◌ {A = ℕ} 0 1 = cc in omega arith)
check_stopped (not_got w p) x e = let q : refused w p ≡ x = cc in ap (λ (y : Refusal). not_got y.cause y.at) q

pub record Fine {A : Type 0} (z : Parsed A) : Type 0 where
  pub thing : A
  pub place : ℕ
  pub seen_is : z ≡ got thing place

pub check_fine : {A : Type 0} (z : Parsed A) → check_of z ≡ Ok tt → Fine z
check_fine (got a p) e = record { thing = a; place = p; seen_is = refl }
check_fine (not_got w p) e = absurd (let z : ◌≡◌ {A = ℕ} 0 1 = cc in omega arith)

-- a predicate that stands to the end
module _ (s : List ℕ) (types : List ℕ) (p : ℕ) where
  pub record Last (z : Parsed Tree) : Type 0 where
    pub tree : Tree
    pub place : ℕ
    pub seen_is : z ≡ got tree place
    pub bytes_are : drop p s ≡ encode tree

  pub last_is : AllBytes s → check_of (to_end s (predicate_at s types p)) ≡ Ok tt → Last (to_end s (predicate_at s types p))
  last_is B = go (predicate_at s types p) (predicate_stood s types p B)
    where
      end : (x : Tree) (e : ℕ) → PredicateStands s types p x e → (t : Bool) → ltb e (length s) ≡ t → check_of (pick t (not_got cause.After e) (got x e)) ≡ Ok tt → Last (pick t (not_got cause.After e) (got x e))
      end x e S true f c = absurd (let z : ◌≡◌ {A = ℕ} 0 1 = cc in omega arith)
      end x e S false f c = record { tree = x; place = e; seen_is = refl; bytes_are = S.stands ∙ rw (drop_of_length-le s (ltb-false e (length s) f), append-nil (encode x)) refl }

      go : (z : Parsed Tree) → OfGot (PredicateStands s types p) z → check_of (to_end s z) ≡ Ok tt → Last (to_end s z)
      go (got x e) S c = end x e S (ltb e (length s)) refl c
      go (not_got w q) S c = absurd (let z : ◌≡◌ {A = ℕ} 0 1 = cc in omega arith)

-- ---- the header
pub record HeaderFine (s : List ℕ) : Type 0 where
  pub long : 8 ≤ length s
  pub few : get_or s 6 0 ≤ 64
  pub seen_is : read_sequent s ≡ body_at s

abbrev HeaderIs : List ℕ → Parsed Sequent → Parsed Bool → Type 0
HeaderIs s r (got x p) = (8 ≤ length s) × (get_or s 6 0 ≤ 64) × (r ≡ body_at s)
HeaderIs s r (not_got w p) = r ≡ not_got w p

header_is : (s : List ℕ) → HeaderIs s (read_sequent s) (header_at s)
unfolding read_sequent
header_is s = go (header_at s) (header_passed s)
  where
    go : (z : Parsed Bool) → OfGot (HeaderPassed s) z → HeaderIs s (on_got z (λ x p. body_at s)) z
    go (got x p) P = (
      ltb-false (length s) 8 (or_false (ltb (length s) 8) _ P.within).0,
      ltb-false 64 (get_or s 6 0) (or_false (ltb 64 (get_or s 6 0)) _ (or_false (ltb 64 (get_or s 5 0)) _ P.numbers).1).0,
      refl,
    )
    go (not_got c p) P = refl

module _ (s : List ℕ) (c : Result (Unit {0}) Refusal) (c≡ : c ≡ check_of (header_at s)) where
  pub header_stops : (x : Refusal) → c ≡ Err x → Refuses s x
  header_stops x f = subst (HeaderIs s (read_sequent s)) (check_stopped (header_at s) x (sym c≡ ∙ f)) (header_is s)

  pub header_fine : c ≡ Ok tt → HeaderFine s
  header_fine f =
      let F = check_fine (header_at s) (sym c≡ ∙ f) in
      let H = subst (HeaderIs s (read_sequent s)) F.seen_is (header_is s) in
      record { long = H.0; few = H.1; seen_is = H.2 }

-- ---- the type bytes
body_rest : (s ts : List ℕ) → types_at s (get_or s 5 0) 8 ≡ got ts (8 + length ts) → body_at s ≡ rest_at s ts (get_or s 6 0)
unfolding body_at rest_at
body_rest s ts e = rw e refl

module _ (s : List ℕ) (H : HeaderFine s) (t : ℕ) (t≡ : t ≡ get_or s 5 0) (c : Result (Unit {0}) Refusal) (c≡ : c ≡ check_of (types_at s t 8)) where
  pub types_stop : (x : Refusal) → c ≡ Err x → Refuses s x
  unfolding body_at
  types_stop x f = H.seen_is ∙ rw (← t≡, check_stopped (types_at s t 8) x (sym c≡ ∙ f)) refl

  pub types_seen : c ≡ Ok tt → (8 + t ≤ length s) × TypesSeen s (take (8 + t - 8) (drop 8 s))
  types_seen f =
      let F = check_fine (types_at s t 8) (sym c≡ ∙ f) in
      let T = of_seen (TypesStood s t 8) (types_at s t 8) (types_stood s t 8) F.thing F.place F.seen_is in
      let T₀ = T.so_many in
      let T₁ = T.ends in
      let H₀ = H.long in
      let l = sym (length-drop 8 s) ∙ ap length T.stand ∙ length-append F.thing (drop F.place s) in
      let m = length-drop F.place s in
      let i : 8 + t ≤ length s = omega arith in
      let n : 8 + t - 8 ≡ t = omega arith in
      let b : take (8 + t - 8) (drop 8 s) ≡ F.thing = rw n (ap (take t) T.stand ∙ take_at F.thing (drop F.place s) t T₀) in
      let e : F.place ≡ 8 + length F.thing = omega arith in (
        i,
        rw b (record {
          inside = omega arith;
          stand = rw T₀ (ap (take t) T.stand ∙ take_at F.thing (drop F.place s) t T₀);
          few = H.few;
          seen_is = H.seen_is ∙ body_rest s F.thing (ap (λ (k : ℕ). types_at s k 8) (sym t≡) ∙ F.seen_is ∙ ap (got F.thing) e);
        }),
      )

pub ruleset headers = (header_stops, header_fine, types_stop, types_seen)

-- ---- the hypotheses and the goal
rest_seen : (s types : List ℕ) (h : ℕ) (hs : List Hypothesis) (q : ℕ) (g : Tree) (e : ℕ)
    → hypotheses_at s types h [] (8 + length types) ≡ got hs q → to_end s (predicate_at s types q) ≡ got g e → rest_at s types h ≡ got (sequent_of types hs g) e
unfolding rest_at
rest_seen s types h hs q g e a b = rw (a, b) refl

module _ (s ts : List ℕ) (T : TypesSeen s ts) (h : ℕ) (h≡ : h ≡ get_or s 6 0) where
  pub hypotheses_stop : (x : Refusal) → HypothesesRefused s ts h x → Refuses s x
  unfolding rest_at
  hypotheses_stop x H = T.seen_is ∙ rw (← h≡, H) refl

  module _ (v : View) (places : List ℕ) (H : HypothesesSeen s ts h (v, places)) (g : Result (Unit {0}) Refusal) (g≡ : g ≡ check_of (to_end s (predicate_at s ts v.end))) where
    pub goal_stops : (x : Refusal) → g ≡ Err x → Refuses s x
    unfolding rest_at
    goal_stops x f = T.seen_is ∙ rw (← h≡, H.seen_is, check_stopped (to_end s (predicate_at s ts v.end)) x (sym g≡ ∙ f)) refl

    -- what is read is accepted
    pub opened : ((i : ℕ) → Fits w8 (get_or s i 0)) → g ≡ Ok tt → Open s places v
    opened B f =
        let A = all_bytes s B in
        let L = last_is s ts v.end A (sym g≡ ∙ f) in
        let sequent : Sequent = sequent_of ts H.hypotheses L.tree in
        let e : read_sequent s ≡ got sequent L.place = T.seen_is ∙ ap (rest_at s ts) (sym h≡) ∙ rest_seen s ts h H.hypotheses v.end L.tree L.place H.seen_is L.seen_is in
        record {
          sequent = sequent;
          at_end = L.place;
          read_is = e;
          accepted = (file_is s A sequent L.place e).0;
          held = H.held;
          goal_there = L.bytes_are;
        }

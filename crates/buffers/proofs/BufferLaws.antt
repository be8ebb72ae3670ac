-- Lent buffers: a predicate, and a list, are those that document 01 reads.
use Prim.Native.Nat.{ℕ, suc, ◌+◌, ◌-◌, ◌<◌, ◌≤◌}
use mathlib.Core.Path.{◌≡◌, refl, sym, ap, ◌∙◌}
use mathlib.Core.List.{List, [], ◌∷◌, ◌++◌, append-nil}
use native.Mathlib.Numerals.{add-one}
use native.Mathlib.Nat.{sub-zero}
use native.Mathlib.Omega.{arith}
use lib.ListN.{length, get_or, set, replicate, length-replicate, take, drop, length-append, length-set}
use lib.Seq.{take_at, take-suc-set}
use mir.Syntax.{w8}
use mir.Val.{Fits}
use Rattle.std.specs.Prelude.{Result, Ok, Err, MatchResult}
use Rattle.std.proofs.Common.{get_or-set_other, get_or-set_same}
use Rattle.refusal.specs.declared.Refusal.{Refusal}
use Rattle.formula.specs.Equal.{Range}
use Rattle.formula.specs.Formula.{read_formula}
use Rattle.formula.specs.Reading.{Parsed, got, not_got, on_got}
use Rattle.formula.specs.Tree.{Tree, encode}
use Rattle.formula.specs.declared.Sort.TheVariants as sort
use Rattle.formula.proofs.Places.{AllBytes}
use Rattle.desk.specs.Mirror.Moves.{RangesFrom, Listing}
use Rattle.desk.proofs.Found.{place_is, places_on}
use Rattle.sequent.specs.ReadFile.{predicate_at, to_end}
use Rattle.sequent.specs.Mirror.ReadBytes.{check_of}
use Rattle.sequent.proofs.SeenIs.{all_bytes, read_stood, read_refused}
use Rattle.sequent.proofs.OpenLaws.{check_stopped, check_fine}
use Rattle.buffers.specs.Lent.{lent_predicate, predicates_at}
use Rattle.buffers.specs.Mirror.Buffers.{IsLent, FormulasRefused, starts_from, FormulasStand}
use Rattle.buffers.proofs.LentAre.{lent_is, formulas_bytes}

-- ---- a predicate
pub lent : (types b : List ℕ) (r : Result (Unit {0}) Refusal) → r ≡ check_of (to_end b (predicate_at b types 0)) → ((i : ℕ) → Fits w8 (get_or b i 0))
    → MatchResult r (λ _. IsLent types b) (λ x. lent_predicate types b ≡ not_got x.cause x.at)
unfolding lent_predicate
lent types b (Ok u) r≡ B =
    let F = check_fine (to_end b (predicate_at b types 0)) (sym r≡) in
    let I = lent_is b types (all_bytes b B) F.thing F.place F.seen_is in
    record { formula = F.thing; read_is = F.seen_is ∙ ap (got F.thing) I.2; bytes_are = I.1 }
lent types b (Err x) r≡ B = check_stopped (to_end b (predicate_at b types 0)) x (sym r≡)

-- ---- where the formulas start
starts_more : (x : Tree) (xs : List Tree) (p : ℕ) → starts_from p (xs ++ (x ∷ [])) ≡ starts_from p xs ++ ((p + length (formulas_bytes xs) + length (encode x)) ∷ [])
unfolding starts_from formulas_bytes
starts_more x [] p = let e : p + 0 + length (encode x) ≡ p + length (encode x) = omega arith in rw e refl
starts_more x (y ∷ xs) p =
    let l = length-append (encode y) (formulas_bytes xs) in
    let e : p + length (encode y) + length (formulas_bytes xs) ≡ p + length (encode y ++ formulas_bytes xs) = omega arith in
    ap (λ (l : List ℕ). p ∷ l) (starts_more x xs (p + length (encode y)) ∙ rw e refl)

starts_set : (starts : List ℕ) (j e : ℕ) (x : Tree) (xs : List Tree) → take (suc j) starts ≡ starts_from 1 xs → e ≡ 1 + length (formulas_bytes xs) + length (encode x) → j + 1 < length starts
    → take (suc (j + 1)) (set starts (j + 1) e) ≡ starts_from 1 (xs ++ (x ∷ []))
starts_set starts j e x xs t q room = rw (add-one j, take-suc-set starts (suc j) e (omega arith), t, starts_more x xs 1, q) refl

bytes_more : (x : Tree) (xs : List Tree) → length (formulas_bytes (xs ++ (x ∷ []))) ≡ length (formulas_bytes xs) + length (encode x)
unfolding formulas_bytes
bytes_more x [] = omega (arith, ap length (append-nil (encode x)))
bytes_more x (y ∷ xs) = omega (arith, bytes_more x xs, length-append (encode y) (formulas_bytes (xs ++ (x ∷ []))), length-append (encode y) (formulas_bytes xs))

-- ---- one more formula
module _ (b starts : List ℕ) (x : Tree) (e : ℕ) where
  ranges_more : (xs : List Tree) (i j : ℕ) → j ≡ i + length xs → j + 1 < length starts → RangesFrom b starts i xs → Range b (get_or starts j 0) e x → RangesFrom b (set starts (j + 1) e) i (xs ++ (x ∷ []))
  unfolding RangesFrom
  ranges_more [] i j h k S R =
      let m : i ≡ j = omega arith in
      let n : (j ≡ j + 1 → ⊥) = λ z. omega arith in
      (rw (m, get_or-set_other starts (j + 1) j e 0 n, get_or-set_same starts (j + 1) e 0 k) R, tt)
  ranges_more (y ∷ xs) i j h k S R =
      let n : (i ≡ j + 1 → ⊥) = λ z. omega arith in
      let m : (i + 1 ≡ j + 1 → ⊥) = λ z. omega arith in
      (rw (get_or-set_other starts (j + 1) i e 0 n, get_or-set_other starts (j + 1) (i + 1) e 0 m) S.0, ranges_more xs (i + 1) j (omega arith) k S.1 R)

-- the j formulas read so far
pub record Gone (types b : List ℕ) (n : ℕ) (starts : List ℕ) (p j : ℕ) : Type 0 where
  pub trees : List Tree
  pub left : predicates_at b types (n - j) trees p ≡ predicates_at b types n [] 1
  pub so_many : j ≡ length trees
  pub next : get_or starts j 0 ≡ p
  pub inside : p ≤ length b
  pub stand : RangesFrom b starts 0 trees
  pub ends : p ≡ 1 + length (formulas_bytes trees)
  pub starts_are : take (suc j) starts ≡ starts_from 1 trees
  pub long : length starts ≡ 65
  pub bytes : AllBytes b

pub gone_none : (types b : List ℕ) (n : ℕ) → ((i : ℕ) → Fits w8 (get_or b i 0)) → 0 < length b → Gone types b n (replicate 65 1) 1 0
unfolding RangesFrom starts_from formulas_bytes
gone_none types b n B h = record { trees = []; left = rw (sub-zero n) refl; so_many = refl; next = refl; inside = h; stand = tt; ends = refl; starts_are = refl; long = length-replicate {A = ℕ} 65 1; bytes = all_bytes b B }

module _ (types b : List ℕ) (n : ℕ) (starts : List ℕ) (p j : ℕ) (G : Gone types b n starts p j) where
  module _ (k : j < n) (r : Result ℕ Refusal) (r≡ : r ≡ read_formula b types sort.Predicate p) where
    left_is : predicates_at b types (suc (n - (j + 1))) G.trees p ≡ predicates_at b types n [] 1
    left_is = let m : n - j ≡ suc (n - (j + 1)) = omega arith in rw m at G.left

    pub gone_stops : (x : Refusal) → r ≡ Err x → FormulasRefused types b n x
    unfolding predicates_at
    gone_stops x q = sym left_is ∙ rw (read_refused b types p r r≡ x q) refl

    pub gone_more : (e : ℕ) → n ≤ 64 → r ≡ Ok e → Gone types b n (set starts (j + 1) e) e (j + 1)
    unfolding predicates_at
    gone_more e few q =
        let R = read_stood b types p r r≡ G.bytes e q in
        let x = R.tree in
        let S = R.stood in
        let S₀ = S.ends in
        let v = G.long in
        let m = G.so_many in
        let room : j + 1 < length starts = omega arith in
        let l : e - p ≡ length (encode x) = omega arith in
        let range : Range b p e x = record { from_to = omega arith; inside = S.inside; bytes_are = rw l (ap (take (length (encode x))) S.stands ∙ take_at (encode x) (drop e b) (length (encode x)) refl) } in
        record {
          trees = G.trees ++ (x ∷ []);
          left = sym (ap (λ (z : Parsed Tree). on_got z (λ y q. predicates_at b types (n - (j + 1)) (G.trees ++ (y ∷ [])) q)) R.read_is) ∙ left_is;
          so_many = omega (arith, length-append G.trees (x ∷ []));
          next = get_or-set_same starts (j + 1) e 0 room;
          inside = S.inside;
          stand = ranges_more b starts x e G.trees 0 j (omega arith) room G.stand (rw G.next range);
          ends = omega (arith, G.ends, bytes_more x G.trees);
          starts_are = starts_set starts j e x G.trees G.starts_are (omega (arith, G.ends)) room;
          long = length-set starts (j + 1) e ∙ v;
          bytes = G.bytes;
        }

  pub gone_all : n ≡ j → predicates_at b types n [] 1 ≡ got G.trees (get_or starts n 0)
  unfolding predicates_at
  gone_all i =
      let m : n - j ≡ 0 = omega arith in
      sym G.left ∙ rw (m, i, G.next) refl

  pub gone_inside : n ≡ j → get_or starts n 0 ≤ length b
  gone_inside i = rw (i, G.next) G.inside

  pub gone_listing : n ≡ j → Listing b starts n 0 G.trees
  gone_listing i = record { stand = G.stand; count = omega (arith, G.so_many) }

  pub gone_starts : n ≡ j → take (suc n) starts ≡ starts_from 1 G.trees
  gone_starts i = rw i G.starts_are

-- ---- the formulas of a list stand one after the other from 1 on
module _ (b starts : List ℕ) where
  first_start : (xs : List Tree) (i p : ℕ) → take (suc (length xs)) (drop i starts) ≡ starts_from p xs → get_or starts i 0 ≡ p
  unfolding starts_from
  first_start [] i p q = place_is starts i 0 p [] q
  first_start (x ∷ xs) i p q = place_is starts i (suc (length xs)) p (starts_from (p + length (encode x)) xs) q

  stand_from : (xs : List Tree) (i p : ℕ) → RangesFrom b starts i xs → take (suc (length xs)) (drop i starts) ≡ starts_from p xs → FormulasStand b p xs
  unfolding RangesFrom starts_from FormulasStand
  stand_from [] i p S q = tt
  stand_from (x ∷ xs) i p S q =
      let p' = p + length (encode x) in
      let a = first_start (x ∷ xs) i p q in
      let t = places_on starts i (suc (length xs)) p (starts_from p' xs) q in
      let e = first_start xs (i + 1) p' t in
      let l : get_or starts (i + 1) 0 - get_or starts i 0 ≡ length (encode x) = omega arith in
      (rw (l, a) at S.0.bytes_are, stand_from xs (i + 1) p' S.1 t)

  pub formulas_stand : (n : ℕ) (xs : List Tree) → Listing b starts n 0 xs → take (suc n) starts ≡ starts_from 1 xs → FormulasStand b 1 xs
  formulas_stand n xs L q = let m : n ≡ length xs = omega (arith, L.count) in stand_from xs 0 1 L.stand (rw m at q)

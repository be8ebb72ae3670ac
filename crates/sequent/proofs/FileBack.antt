-- What is read as a sequent's parts are such parts, and their bytes stand there.
use Prim.Native.Nat.{ℕ, zero, suc, ◌+◌}
use mathlib.Core.Path.{◌≡◌, refl, sym, ap, ◌∙◌}
use mathlib.Core.Option.{Option, some, none}
use mathlib.Core.List.{List, [], ◌∷◌, ◌++◌, append_assoc, append-nil}
use native.Mathlib.Omega.{arith}
use lib.ListN.{length, get_or, drop, length-append}
use lib.Dec.{ltb, leb}
use borrow.Author.Tests.{leb-false, ltb-false}
use Rattle.formula.specs.Reading.{Parsed}
use Rattle.formula.specs.Tree.{encode}
use Rattle.formula.proofs.Places.{AllBytes, one_more}
use Rattle.formula.proofs.Choices.{none_some}
use Rattle.formula.proofs.Back.{OfGot, on_got_law, unless}
use Rattle.desk.specs.Sequent.{Flag, plain, hidden, selected, Hypothesis, present, Different, hypothesis}
use Rattle.desk.specs.File.{flag_byte, hypotheses_bytes}
use Rattle.desk.proofs.Apart.{one_apart, bytes_append}
use Rattle.sequent.specs.Accepted.{TypeBytes, Predicates}
use Rattle.sequent.specs.ReadFile.{flag_of, predicate_at, types_at, on_flag, hypotheses_at}
use Rattle.sequent.proofs.Predicates.{one_predicate}
use Rattle.sequent.proofs.SeenIs.{so_seen, PredicateStands, predicate_stood}

flag_back : (b : ℕ) (f : Flag) → flag_of b ≡ some f → flag_byte f ≡ b
flag_back zero f e = ap flag_byte (let z : f ≡ plain = cc in z)
flag_back (suc zero) f e = ap flag_byte (let z : f ≡ hidden = cc in z)
flag_back (suc (suc zero)) f e = ap flag_byte (let z : f ≡ selected = cc in z)
flag_back (suc (suc (suc n))) f e = none_some e

module _ (s : List ℕ) where
  -- n type bytes from p on
  pub record TypesStood (n p : ℕ) (ts : List ℕ) (q : ℕ) : Type 0 where
    pub so_many : length ts ≡ n
    pub type_bytes : TypeBytes ts
    pub stand : drop p s ≡ ts ++ drop q s
    pub ends : q ≡ p + length ts

  pub types_stood : (n p : ℕ) → OfGot (TypesStood n p) (types_at s n p)
  unfolding types_at
  types_stood zero p = record { so_many = refl; type_bytes = tt; stand = refl; ends = omega arith }
  types_stood (suc n) p =
      unless (TypesStood (suc n) p) (leb (length s) p) _ _ _ λ h.
      unless (TypesStood (suc n) p) (ltb 2 (get_or s p 0)) _ _ _ λ k.
      on_got_law (TypesStood n (p + 1)) (TypesStood (suc n) p) (types_at s n (p + 1)) _ (types_stood n (p + 1)) λ ts q T.
      let u = T.ends in
      record {
        so_many = ap suc T.so_many;
        type_bytes = (ltb-false _ _ k, T.type_bytes);
        stand = one_more s p (leb-false _ _ h) ∙ ap (λ (l : List ℕ). get_or s p 0 ∷ l) T.stand;
        ends = omega arith;
      }

  -- n hypotheses from p on, after those read earlier
  module _ (types : List ℕ) where
    pub record HypothesesStood (n : ℕ) (earlier : List Hypothesis) (p : ℕ) (hs : List Hypothesis) (q : ℕ) : Type 0 where
      pub so_many : length hs ≡ length earlier + n
      pub predicates : Predicates types hs
      pub different : Different hs
      pub stand : hypotheses_bytes earlier ++ drop p s ≡ hypotheses_bytes hs ++ drop q s
      pub ends : length (hypotheses_bytes earlier) + q ≡ p + length (hypotheses_bytes hs)

    -- one of them, before the others
    one_and_others : (n : ℕ) (earlier : List Hypothesis) (p : ℕ) (h : Hypothesis) (m : ℕ) (hs : List Hypothesis) (q : ℕ)
        → drop p s ≡ flag_byte h.flag ∷ (encode h.formula ++ drop m s) → m ≡ p + 1 + length (encode h.formula)
        → HypothesesStood n (earlier ++ (h ∷ [])) m hs q → HypothesesStood (suc n) earlier p hs q
    unfolding hypotheses_bytes
    one_and_others n earlier p h m hs q e z H =
        let x = encode h.formula in
        let a : hypotheses_bytes (earlier ++ (h ∷ [])) ≡ hypotheses_bytes earlier ++ (flag_byte h.flag ∷ x) = bytes_append earlier (h ∷ []) ∙ rw (append-nil x) refl in
        let i = ap length a ∙ length-append (hypotheses_bytes earlier) (flag_byte h.flag ∷ x) in
        let j = H.ends in
        let k = H.so_many in
        let l = length-append earlier (h ∷ []) in
        record {
          so_many = omega arith;
          predicates = H.predicates;
          different = H.different;
          stand = rw e (sym (append_assoc (hypotheses_bytes earlier) (flag_byte h.flag ∷ x) (drop m s)) ∙ rw (← a) H.stand);
          ends = omega arith;
        }

    on_flag_law : (P : List Hypothesis → ℕ → Type 0) (o : Option Flag) (p : ℕ) (k : Flag → Parsed (List Hypothesis)) → ((f : Flag) → o ≡ some f → OfGot P (k f)) → OfGot P (on_flag s o p k)
    on_flag_law P none p k h = tt
    on_flag_law P (some f) p k h = h f refl

    pub hypotheses_stood : AllBytes s → (n : ℕ) (earlier : List Hypothesis) (p : ℕ) → Predicates types earlier → Different earlier
        → OfGot (HypothesesStood n earlier p) (hypotheses_at s types n earlier p)
    unfolding hypotheses_at
    hypotheses_stood B zero earlier p P D = record { so_many = omega arith; predicates = P; different = D; stand = refl; ends = omega arith }
    hypotheses_stood B (suc n) earlier p P D =
        let R = HypothesesStood (suc n) earlier p in
        unless R (leb (length s) p) _ _ _ λ i.
        on_flag_law R (flag_of (get_or s p 0)) p _ λ f b.
        on_got_law (PredicateStands s types (p + 1)) R (predicate_at s types (p + 1)) _ (predicate_stood s types (p + 1) B) λ x m X.
        unless R (present earlier x) _ _ _ λ a.
        let h : Hypothesis = hypothesis f x in
        let e = one_more s p (leb-false _ _ i) ∙ rw (X.stands, ← flag_back (get_or s p 0) f b) refl in
        so_seen (HypothesesStood n (earlier ++ (h ∷ [])) m) R (hypotheses_at s types n (earlier ++ (h ∷ [])) m)
        (hypotheses_stood B n (earlier ++ (h ∷ [])) m (one_predicate types h earlier P X.is_formula) (one_apart h earlier D a)) λ hs q H.
        one_and_others n earlier p h m hs q e X.ends H

-- THE ROUND TRIP: the accepted files are the bytes of the accepted sequents, each of one.
use Prim.Native.Nat.{ℕ, ◌+◌, ◌≤◌}
use mathlib.Core.Path.{◌≡◌, refl, ap, ◌∙◌, subst}
use mathlib.Core.Bool.{Bool, true, false, not, ◌&&◌, ◌||◌}
use mathlib.Core.List.{List, [], ◌++◌, append-nil}
use native.Mathlib.Omega.{arith}
use lib.ListN.{length, get_or, drop, length-append, drop_of_length-le}
use lib.Dec.{ltb, eqb}
use borrow.Author.Tests.{le-ltb, ltb-false, eqb-true, not-false}
use Rattle.formula.specs.Reading.{Parsed, got}
use Rattle.formula.specs.Tree.{Tree, encode}
use Rattle.formula.proofs.Places.{AllBytes, one_more, behind}
use Rattle.formula.proofs.Choices.{and_left, and_right}
use Rattle.formula.proofs.Back.{OfGot, on_got_law, unless}
use Rattle.desk.specs.Sequent.{Hypothesis, Sequent, sequent_of}
use Rattle.desk.specs.File.{header, hypotheses_bytes, encode_sequent}
use Rattle.desk.proofs.Apart.{or_false}
use Rattle.sequent.specs.Accepted.{AcceptedSequent}
use Rattle.sequent.specs.ReadFile.{header_at, to_end, predicate_at, types_at, hypotheses_at, bad_mark, bad_version, bad_numbers, body_at, read_sequent}
use Rattle.sequent.proofs.SeenIs.{to_end_law, of_seen, PredicateStands, reads_predicate, predicate_stood}
use Rattle.sequent.proofs.FileRead.{reads_types, reads_hypotheses}
use Rattle.sequent.proofs.FileBack.{TypesStood, types_stood, HypothesesStood, hypotheses_stood}

-- ---- the bytes of an accepted sequent are read as that sequent
module _ (q : Sequent) (A : AcceptedSequent q) where
  body_read : body_at (encode_sequent q) ≡ got q (length (encode_sequent q))
  unfolding body_at encode_sequent
  body_read =
      let s = encode_sequent q in
      let ts = q.types in
      let hb = hypotheses_bytes q.hypotheses in
      let g = encode q.goal in
      let p = 8 + length ts in
      let m = p + length hb in
      let e₁ : drop p s ≡ hb ++ (g ++ []) = behind s 8 ts (hb ++ g) refl ∙ rw (append-nil g) refl in
      let e₂ : drop m s ≡ g ++ [] = behind s p hb (g ++ []) e₁ in
      let n₁ = length-append ts (hb ++ g) in
      let n₂ = length-append hb g in
      let n : m + length g ≡ length s = omega arith in
      rw (reads_types s ts 8 (hb ++ g) A.type_bytes refl, reads_hypotheses s ts q.hypotheses [] p (g ++ []) A.predicates A.different e₁, reads_predicate s ts m q.goal [] A.goal_is e₂, le-ltb (m + length g) (length s) (omega arith))
      (ap (got q) n)

  pub file_read : read_sequent (encode_sequent q) ≡ got q (length (encode_sequent q))
  unfolding read_sequent header_at encode_sequent
  file_read =
      let s = encode_sequent q in
      rw (le-ltb (length s) 8 (omega arith), le-ltb 60000 (length s) A.short, le-ltb 64 (length q.types) A.few_types, le-ltb 64 (length q.hypotheses) A.few) body_read

same_seen : (z : Parsed Sequent) (q r : Sequent) (e f : ℕ) → z ≡ got q e → z ≡ got r f → q ≡ r
same_seen z q r e f i j = cc

-- equal bytes are those of one sequent
pub sequent_one : (q r : Sequent) → AcceptedSequent q → AcceptedSequent r → encode_sequent q ≡ encode_sequent r → q ≡ r
sequent_one q r A B e = same_seen (read_sequent (encode_sequent q)) q r _ _ (file_read q A) (ap read_sequent e ∙ file_read r B)

-- ---- what is read as a sequent is accepted, and the file is its bytes
module _ (s : List ℕ) where
  pub record FileStood (q : Sequent) (e : ℕ) : Type 0 where
    pub accepted : AcceptedSequent q
    pub bytes_are : s ≡ encode_sequent q
    pub ends : e ≡ length s

  -- the eight bytes of the header
  record HeaderStood : Type 0 where
    few_types : get_or s 5 0 ≤ 64
    few : get_or s 6 0 ≤ 64
    stands : s ≡ header (get_or s 5 0) (get_or s 6 0) ++ drop 8 s

  header_stood : 8 ≤ length s → bad_mark s ≡ false → bad_version s ≡ false → bad_numbers s ≡ false → HeaderStood
  header_stood h m v n = record {
    few_types = ltb-false _ _ n₀.0;
    few = ltb-false _ _ n₁.0;
    stands = one_more s 0 (omega arith)
        ∙ rw (one_more s 1 (omega arith), one_more s 2 (omega arith), one_more s 3 (omega arith), one_more s 4 (omega arith), one_more s 5 (omega arith), one_more s 6 (omega arith), one_more s 7 (omega arith))
        (rw (is 0 0x53 (and_left _ _ m₀), is 1 0x51 (and_left (eqb (b 1) 0x51) _ m₁), is 2 0x54 (and_right (eqb (b 1) 0x51) _ m₁), is 3 1 (and_left _ _ v₀), is 4 0 (and_right (eqb (b 3) 1) _ v₀), is 7 0 (not-false _ n₁.1)));
  }
    where
      b : ℕ → ℕ
      b i = get_or s i 0

      is : (i c : ℕ) → eqb (b i) c ≡ true → b i ≡ c
      is i c = eqb-true (b i) c

      m₀ : (eqb (b 0) 0x53 && (eqb (b 1) 0x51 && eqb (b 2) 0x54)) ≡ true
      m₀ = not-false _ m

      m₁ : (eqb (b 1) 0x51 && eqb (b 2) 0x54) ≡ true
      m₁ = and_right (eqb (b 0) 0x53) _ m₀

      v₀ : (eqb (b 3) 1 && eqb (b 4) 0) ≡ true
      v₀ = not-false _ v

      n₀ : (ltb 64 (b 5) ≡ false) × ((ltb 64 (b 6) || not (eqb (b 7) 0)) ≡ false)
      n₀ = or_false (ltb 64 (b 5)) _ n

      n₁ : (ltb 64 (b 6) ≡ false) × (not (eqb (b 7) 0) ≡ false)
      n₁ = or_false (ltb 64 (b 6)) _ n₀.1

  module _ (ts : List ℕ) (hs : List Hypothesis) (g : Tree) (p q e : ℕ) where
    whole : length s ≤ 60000 → HeaderStood → TypesStood s (get_or s 5 0) 8 ts p → HypothesesStood s ts (get_or s 6 0) [] p hs q → PredicateStands s ts q g e → length s ≤ e
        → FileStood (sequent_of ts hs g) e
    unfolding encode_sequent hypotheses_bytes
    whole l S T H G a = record {
      accepted = record {
        few_types = rw T.so_many S.few_types;
        type_bytes = T.type_bytes;
        few = rw n S.few;
        predicates = H.predicates;
        different = H.different;
        goal_is = G.is_formula;
        short = subst (λ (x : List ℕ). length x ≤ 60000) bytes l;
      };
      bytes_are = bytes;
      ends = let i = G.inside in omega arith;
    }
      where
        n : length hs ≡ get_or s 6 0
        n = let i = H.so_many in omega arith

        no_more : drop e s ≡ []
        no_more = drop_of_length-le s a

        bytes : s ≡ header (length ts) (length hs) ++ (ts ++ (hypotheses_bytes hs ++ encode g))
        bytes = S.stands ∙ rw (T.so_many, n, T.stand, H.stand, G.stands, no_more, append-nil (encode g))

  -- a header that is passed came out well in each test
  pub record HeaderPassed (fine : Bool) (p : ℕ) : Type 0 where
    pub within : (ltb (length s) 8 || ltb 60000 (length s)) ≡ false
    pub mark : bad_mark s ≡ false
    pub version : bad_version s ≡ false
    pub numbers : bad_numbers s ≡ false

  pub header_passed : OfGot HeaderPassed (header_at s)
  unfolding header_at
  header_passed =
      unless HeaderPassed (ltb (length s) 8 || ltb 60000 (length s)) _ _ _ λ l.
      unless HeaderPassed (bad_mark s) _ _ _ λ m.
      unless HeaderPassed (bad_version s) _ _ _ λ v.
      unless HeaderPassed (bad_numbers s) _ _ (got true 8) λ n.
      record { within = l; mark = m; version = v; numbers = n }

  -- a predicate with nothing after it
  abbrev LastStands : List ℕ → ℕ → Tree → ℕ → Type 0
  LastStands ts q g e = PredicateStands s ts q g e × (length s ≤ e)

  file_stood : AllBytes s → OfGot FileStood (read_sequent s)
  unfolding read_sequent body_at
  file_stood B =
      on_got_law HeaderPassed FileStood (header_at s) _ header_passed λ fine r P.
      on_got_law (TypesStood s (get_or s 5 0) 8) FileStood (types_at s (get_or s 5 0) 8) _ (types_stood s (get_or s 5 0) 8) λ ts p T.
      on_got_law (HypothesesStood s ts (get_or s 6 0) [] p) FileStood (hypotheses_at s ts (get_or s 6 0) [] p) _ (hypotheses_stood s ts B (get_or s 6 0) [] p tt tt) λ hs q H.
      on_got_law (LastStands ts q) FileStood (to_end s (predicate_at s ts q)) _ (to_end_law s (PredicateStands s ts q) (LastStands ts q) (predicate_at s ts q) (predicate_stood s ts q B) (λ g e G a. (G, a))) λ g e L.
      let i = or_false (ltb (length s) 8) _ P.within in
      whole ts hs g p q e (ltb-false _ _ i.1) (header_stood (ltb-false _ _ i.0) P.mark P.version P.numbers) T H L.0 L.1

  pub file_is : AllBytes s → (q : Sequent) (e : ℕ) → read_sequent s ≡ got q e → AcceptedSequent q × (s ≡ encode_sequent q) × (e ≡ length s)
  file_is B q e r = let F = of_seen FileStood (read_sequent s) (file_stood B) q e r in (F.accepted, F.bytes_are, F.ends)

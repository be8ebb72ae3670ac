-- The bytes of a sequent's parts are read as those parts.
use Prim.Native.Nat.{ℕ, ◌+◌}
use mathlib.Core.Path.{◌≡◌, refl, ap, ◌∙◌}
use mathlib.Core.Option.{some}
use mathlib.Core.List.{List, [], ◌∷◌, ◌++◌, append_assoc, append-nil}
use native.Mathlib.Omega.{arith}
use lib.ListN.{length, drop, length-append}
use borrow.Author.Tests.{lt-leb, le-ltb}
use Rattle.formula.specs.Reading.{got}
use Rattle.formula.specs.Tree.{encode}
use Rattle.formula.proofs.Places.{head_is, behind, reaches}
use Rattle.desk.specs.Sequent.{Flag, plain, hidden, selected, Hypothesis, Different}
use Rattle.desk.specs.File.{flag_byte, hypotheses_bytes}
use Rattle.desk.proofs.Apart.{apart_before}
use Rattle.sequent.specs.Accepted.{TypeBytes, Predicates}
use Rattle.sequent.specs.ReadFile.{flag_of, types_at, hypotheses_at}
use Rattle.sequent.proofs.SeenIs.{reads_predicate}

flag_there : (f : Flag) → flag_of (flag_byte f) ≡ some f
flag_there plain = refl
flag_there hidden = refl
flag_there selected = refl

module _ (s : List ℕ) where
  pub reads_types : (ts : List ℕ) (p : ℕ) (r : List ℕ) → TypeBytes ts → drop p s ≡ ts ++ r → types_at s (length ts) p ≡ got ts (p + length ts)
  unfolding types_at
  reads_types [] p r T e = ap (got []) (omega arith)
  reads_types (b ∷ ts) p r T e =
      let h = reaches s p (b ∷ []) (ts ++ r) e (omega arith) in
      let i = reads_types ts (p + 1) r T.1 (behind s p (b ∷ []) (ts ++ r) e) in
      rw (lt-leb (length s) p (omega arith), head_is s p b (ts ++ r) e, le-ltb 2 b T.0, i) (ap (got (b ∷ ts)) (omega arith))

  module _ (types : List ℕ) where
    pub reads_hypotheses : (hs earlier : List Hypothesis) (p : ℕ) (r : List ℕ) → Predicates types hs → Different (earlier ++ hs)
        → drop p s ≡ hypotheses_bytes hs ++ r → hypotheses_at s types (length hs) earlier p ≡ got (earlier ++ hs) (p + length (hypotheses_bytes hs))
    unfolding hypotheses_at hypotheses_bytes
    reads_hypotheses [] earlier p r P D e = rw (append-nil earlier) (ap (got earlier) (omega arith))
    reads_hypotheses (h ∷ hs) earlier p r P D e =
        let x = encode h.formula in
        let b = flag_byte h.flag in
        let l = (x ++ hypotheses_bytes hs) ++ r in
        let i = reaches s p (b ∷ []) l e (omega arith) in
        let f : drop (p + 1) s ≡ x ++ (hypotheses_bytes hs ++ r) = behind s p (b ∷ []) l e ∙ append_assoc x (hypotheses_bytes hs) r in
        let n = length-append x (hypotheses_bytes hs) in
        let D' : Different ((earlier ++ (h ∷ [])) ++ hs) = rw (append_assoc earlier (h ∷ []) hs) D in
        rw (lt-leb (length s) p (omega arith), head_is s p b l e, flag_there h.flag, reads_predicate s types (p + 1) h.formula (hypotheses_bytes hs ++ r) P.0 f, apart_before h earlier hs D)
        (reads_hypotheses hs (earlier ++ (h ∷ [])) (p + 1 + length x) r P.1 D' (behind s (p + 1) x (hypotheses_bytes hs ++ r) f)
        ∙ rw (append_assoc earlier (h ∷ []) hs) (ap (got (earlier ++ (h ∷ hs))) (omega arith)))

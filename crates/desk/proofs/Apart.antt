-- Hypotheses none of which is equal to another: what is among them, and one more.
use mathlib.Core.Path.{◌≡◌, refl, sym, ◌∙◌}
use mathlib.Core.Bool.{Bool, true, false, ◌||◌}
use mathlib.Core.Option.{some}
use mathlib.Core.List.{List, [], ◌∷◌, ◌++◌, append_assoc}
use Rattle.std.proofs.Math.Bool.{or_assoc}
use Rattle.formula.specs.Pick.{pick}
use Rattle.formula.specs.Tree.{Tree, encode}
use Rattle.formula.proofs.Choices.{never}
use Rattle.desk.specs.Sequent.{Hypothesis, flag_in, holds, present, Different}
use Rattle.formula.specs.Equal.{same}
use Rattle.desk.specs.File.{hypotheses_bytes}
use Rattle.formula.proofs.SameBytes.{same_sym}

pub or_false : (a b : Bool) → (a || b) ≡ false → (a ≡ false) × (b ≡ false)
or_false true b e = never (sym e)
or_false false b e = (refl, e)

-- ---- what is among hypotheses
pub present_cons : (h : Hypothesis) (hs : List Hypothesis) (x : Tree) → present (h ∷ hs) x ≡ (same h.formula x || present hs x)
unfolding present flag_in
present_cons h hs x = go (same h.formula x)
  where
    go : (b : Bool) → holds (λ f. true) (pick b (some h.flag) (flag_in hs x)) ≡ (b || holds (λ f. true) (flag_in hs x))
    go true = refl
    go false = refl

pub present_none : (x : Tree) → present [] x ≡ false
unfolding present flag_in
present_none x = refl

pub present_append : (hs ks : List Hypothesis) (x : Tree) → present (hs ++ ks) x ≡ (present hs x || present ks x)
present_append [] ks x = rw present_none refl
present_append (h ∷ hs) ks x = present_cons h (hs ++ ks) x ∙ rw (present_append hs ks x, present_cons h hs x) (sym (or_assoc (same h.formula x) (present hs x) (present ks x)))

-- what is absent is apart from each
module _ (x : Tree) where
  pub absent_cons : (h : Hypothesis) (hs : List Hypothesis) → present (h ∷ hs) x ≡ false → (same h.formula x ≡ false) × (present hs x ≡ false)
  absent_cons h hs e = or_false (same h.formula x) (present hs x) (sym (present_cons h hs x) ∙ e)

  pub cons_absent : (h : Hypothesis) (hs : List Hypothesis) → same h.formula x ≡ false → present hs x ≡ false → present (h ∷ hs) x ≡ false
  cons_absent h hs p q = present_cons h hs x ∙ rw (p, q) refl

  pub absent_append : (hs ks : List Hypothesis) → present (hs ++ ks) x ≡ false → (present hs x ≡ false) × (present ks x ≡ false)
  absent_append hs ks e = or_false (present hs x) (present ks x) (sym (present_append hs ks x) ∙ e)

  pub append_absent : (hs ks : List Hypothesis) → present hs x ≡ false → present ks x ≡ false → present (hs ++ ks) x ≡ false
  append_absent hs ks p q = present_append hs ks x ∙ rw (p, q) refl

-- ---- none is equal to another
module _ (h : Hypothesis) where
  -- each is apart from all those before it
  pub apart_before : (hs ks : List Hypothesis) → Different (hs ++ (h ∷ ks)) → present hs h.formula ≡ false
  apart_before [] ks D = present_none h.formula
  apart_before (k ∷ hs) ks D =
      let p = absent_append k.formula hs (h ∷ ks) D.0 in
      let q = absent_cons k.formula h ks p.1 in
      cons_absent h.formula k hs (same_sym k.formula h.formula ∙ q.0) (apart_before hs ks D.1)

  pub one_apart : (hs : List Hypothesis) → Different hs → present hs h.formula ≡ false → Different (hs ++ (h ∷ []))
  one_apart [] D e = (present_none h.formula, tt)
  one_apart (k ∷ hs) D e =
      let p = absent_cons h.formula k hs e in
      let q = cons_absent k.formula h [] (same_sym h.formula k.formula ∙ p.0) (present_none k.formula) in
      (append_absent k.formula hs (h ∷ []) D.0 q, one_apart hs D.1 p.1)

pub bytes_append : (hs ks : List Hypothesis) → hypotheses_bytes (hs ++ ks) ≡ hypotheses_bytes hs ++ hypotheses_bytes ks
unfolding hypotheses_bytes
bytes_append [] ks = refl
bytes_append (h ∷ hs) ks = rw (bytes_append hs ks, append_assoc (encode h.formula) (hypotheses_bytes hs) (hypotheses_bytes ks)) refl

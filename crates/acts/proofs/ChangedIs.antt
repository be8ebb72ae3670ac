-- "Changed": a sequent that has grown differs just by a flag, by how many hypotheses it has, or by its goal.
use Prim.Native.Nat.{ℕ}
use mathlib.Core.Path.{◌≡◌, refl, sym, ap, ◌∙◌}
use mathlib.Core.Bool.{Bool, true, false, not, ◌&&◌, ◌||◌}
use mathlib.Core.List.{List, [], ◌∷◌, ◌++◌, append_assoc, append-nil, nil≢cons, cons≢nil}
use native.Mathlib.Omega.{arith}
use lib.ListN.{length, length-append}
use lib.Dec.{eqb}
use borrow.Author.Tests.{eq-eqb, eqb-true, not-false}
use Rattle.std.proofs.Math.Bool.{or-true, or_assoc}
use Rattle.formula.specs.Pick.{pick}
use Rattle.formula.specs.Tree.{Tree, encode}
use Rattle.desk.specs.Sequent.{Flag, Hypothesis, Sequent, is_hidden, is_selected}
use Rattle.formula.specs.Equal.{same_bytes, same}
use Rattle.desk.specs.File.{hypotheses_bytes, encode_sequent}
use Rattle.acts.specs.Acts.{differs, acted, flag_act, modify, forward, rewrite}
use Rattle.desk.specs.Hypotheses.{all_present, some_selected, reselects}
use Rattle.desk.specs.Mirror.Desk.{mask_of}
use Rattle.desk.proofs.Formulas.{formulas_of, formulas_long}
use Rattle.desk.proofs.FlagsAre.{same_flag, flags_differ, masks_differ}
use Rattle.formula.proofs.SameBytes.{same_bytes_refl, same_bytes_is}
use Rattle.sequent.specs.Accepted.{AcceptedSequent}
use Rattle.buffers.specs.Outcome.{no_room}
use Rattle.sequent.proofs.FileIs.{sequent_one}
use Rattle.acts.proofs.ActsKeep.{flag_accepted}

-- bytes that begin alike
same_prefix : (a x y : List ℕ) → same_bytes (a ++ x) (a ++ y) ≡ same_bytes x y
unfolding same_bytes
same_prefix [] x y = refl
same_prefix (b ∷ a) x y = rw (eq-eqb b b refl) (same_prefix a x y)

-- the same formulas with other flags
same_hypotheses : (hs ks : List Hypothesis) (x y : List ℕ) → formulas_of hs ≡ formulas_of ks → same_bytes (hypotheses_bytes hs ++ x) (hypotheses_bytes ks ++ y) ≡ (not (flags_differ hs ks) && same_bytes x y)
unfolding same_bytes hypotheses_bytes flags_differ
same_hypotheses [] [] x y e = refl
same_hypotheses [] (k ∷ ks) x y e = absurd (nil≢cons e)
same_hypotheses (h ∷ hs) [] x y e = absurd (cons≢nil e)
same_hypotheses (h ∷ hs) (k ∷ ks) x y e =
    let f : h.formula ≡ k.formula = cc in
    let z = encode k.formula in
    rw (f, append_assoc z (hypotheses_bytes hs) x, append_assoc z (hypotheses_bytes ks) y, same_prefix z (hypotheses_bytes hs ++ x) (hypotheses_bytes ks ++ y), same_hypotheses hs ks x y (cc))
    (each_bit (same_flag h.flag k.flag) (flags_differ hs ks) (same_bytes x y))
  where
    each_bit : (s d b : Bool) → (s && (not d && b)) ≡ (not (not s || d) && b)
    each_bit true d b = refl
    each_bit false d b = refl

-- as many formulas as before: no further one
no_further : (hs ks : List Hypothesis) (xs : List Tree) → formulas_of ks ≡ formulas_of hs ++ xs → length hs ≡ length ks → formulas_of hs ≡ formulas_of ks
no_further hs ks [] e l = sym (e ∙ append-nil (formulas_of hs))
no_further hs ks (x ∷ xs) e l =
    absurd (omega (arith, formulas_long hs, formulas_long ks, ap length e, length-append (formulas_of hs) (x ∷ xs)))

module _ (q r : Sequent) (types_are : r.types ≡ q.types) (further : List Tree) (formulas_are : formulas_of r.hypotheses ≡ formulas_of q.hypotheses ++ further) where
  abbrev hs : List Hypothesis
  hs = q.hypotheses

  abbrev ks : List Hypothesis
  ks = r.hypotheses

  pub differs_is : differs q r ≡ (flags_differ q.hypotheses r.hypotheses || (not (eqb (length q.hypotheses) (length r.hypotheses)) || not (same q.goal r.goal)))
  unfolding differs encode_sequent same_bytes same
  differs_is = rw (types_are, eq-eqb (length q.types) (length q.types) refl, same_prefix q.types) (go (eqb (length hs) (length ks)) refl)
    where
      morgan : (d b : Bool) → not (not d && b) ≡ (d || not b)
      morgan true b = refl
      morgan false b = refl

      go : (b : Bool) → eqb (length hs) (length ks) ≡ b
          → not (b && same_bytes (hypotheses_bytes hs ++ encode q.goal) (hypotheses_bytes ks ++ encode r.goal)) ≡ (flags_differ hs ks || (not b || not (same_bytes (encode q.goal) (encode r.goal))))
      go true e = rw (same_hypotheses hs ks (encode q.goal) (encode r.goal) (no_further hs ks further formulas_are (eqb-true (length hs) (length ks) e))) (morgan (flags_differ hs ks) (same_bytes (encode q.goal) (encode r.goal)))
      go false e = sym (or-true (flags_differ hs ks))

  -- as the code asks it: the masks say of the flags all that matters, since another number of hypotheses is a change by itself
  pub differs_masks : differs q r
      ≡ (not (eqb (length q.hypotheses) (length r.hypotheses)) || (not (eqb (mask_of is_hidden q.hypotheses) (mask_of is_hidden r.hypotheses))
      || (not (eqb (mask_of is_selected q.hypotheses) (mask_of is_selected r.hypotheses)) || not (same q.goal r.goal))))
  differs_masks = differs_is ∙ go (eqb (length hs) (length ks)) refl
    where
      first : (d c : Bool) → (d || (true || c)) ≡ true
      first true c = refl
      first false c = refl

      go : (b : Bool) → eqb (length hs) (length ks) ≡ b
          → (flags_differ hs ks || (not b || not (same q.goal r.goal)))
          ≡ (not b || (not (eqb (mask_of is_hidden hs) (mask_of is_hidden ks)) || (not (eqb (mask_of is_selected hs) (mask_of is_selected ks)) || not (same q.goal r.goal))))
      go true e = rw (masks_differ hs ks (eqb-true (length hs) (length ks) e)) (or_assoc (not (eqb (mask_of is_hidden hs) (mask_of is_hidden ks))) (not (eqb (mask_of is_selected hs) (mask_of is_selected ks))) (not (same q.goal r.goal)))
      go false e = first (flags_differ hs ks) (not (same q.goal r.goal))

-- ---- accepted sequents differ just if they are not equal
pub never_differs : (q : Sequent) → differs q q ≡ false
unfolding differs
never_differs q = rw (same_bytes_refl (encode_sequent q)) refl

module _ (q r : Sequent) where
  pub not_differs : AcceptedSequent q → AcceptedSequent r → differs q r ≡ false → q ≡ r
  unfolding differs
  not_differs A B e = sequent_one q r A B (same_bytes_is (encode_sequent q) (encode_sequent r) (not-false _ e))

  pub equal_same : q ≡ r → differs q r ≡ false
  equal_same e = rw (← e) (never_differs q)

-- ---- what the acts answer: "changed", besides a present formula that forward inference selects
module _ (q : Sequent) where
  pub flag_changed : (f : Flag → Flag) (x : Tree) → (flag_act f x q).changed ≡ differs q (flag_act f x q).sequent
  unfolding flag_act acted
  flag_changed f x = refl

  pub modify_changed : (added unselected goal : List Tree) → (modify added unselected goal q).changed ≡ differs q (modify added unselected goal q).sequent
  unfolding modify acted
  modify_changed added unselected goal = refl

  unless_absent : (b c : Bool) (r : Sequent) → (pick b (acted c q r) (acted false q q)).changed ≡ ((b && c) || differs q (pick b (acted c q r) (acted false q q)).sequent)
  unfolding acted
  unless_absent true c r = refl
  unless_absent false c r = refl

  pub rewrite_changed : (sources inferred to_hide : List Tree) → (rewrite sources inferred to_hide q).changed
      ≡ ((all_present q.hypotheses sources && reselects q.hypotheses (some_selected q.hypotheses sources) inferred) || differs q (rewrite sources inferred to_hide q).sequent)
  unfolding rewrite
  rewrite_changed sources inferred to_hide = unless_absent (all_present q.hypotheses sources) _ _

  pub forward_changed : (sources inferred : List Tree) → (forward sources inferred q).changed
      ≡ ((all_present q.hypotheses sources && reselects q.hypotheses (some_selected q.hypotheses sources) inferred) || differs q (forward sources inferred q).sequent)
  unfolding forward
  forward_changed sources inferred = rewrite_changed sources inferred []

-- an act on a flag that answers "not changed" gives the same sequent
pub flag_unchanged : (q : Sequent) → AcceptedSequent q → (room : ℕ) (f : Flag → Flag) (x : Tree) → no_room room (flag_act f x q).sequent ≡ false → (flag_act f x q).changed ≡ false → q ≡ (flag_act f x q).sequent
flag_unchanged q A room f x n e = not_differs q (flag_act f x q).sequent A (flag_accepted q A room f x n) (sym (flag_changed q f x) ∙ e)

-- Too much for a sequent: the answer is 14.
use Prim.Native.Nat.{ℕ, ◌+◌}
use mathlib.Core.Logic.{⊎_elim}
use mathlib.Core.Path.{◌≡◌, refl}
use mathlib.Core.Bool.{Bool, true, false, ◌||◌}
use mathlib.Core.List.{◌++◌}
use native.Mathlib.Omega.{arith}
use lib.ListN.{length, length-append}
use lib.Dec.{ltb}
use borrow.Author.Tests.{lt-ltb}
use Rattle.refusal.specs.Refusal.{act_said}
use Rattle.refusal.specs.declared.Cause.TheVariants as cause
use Rattle.formula.specs.Tree.{encode}
use Rattle.desk.specs.Sequent.{Sequent}
use Rattle.desk.specs.File.{hypotheses_bytes, encode_sequent}
use Rattle.desk.specs.Mirror.Moves.{TooMuch}
use Rattle.buffers.specs.Outcome.{Acted, refuses, no_room, finish}

pub sequent_long : (q : Sequent) → length (encode_sequent q) ≡ 8 + length q.types + length (hypotheses_bytes q.hypotheses) + length (encode q.goal)
unfolding encode_sequent
sequent_long q =
    let a = length-append q.types (hypotheses_bytes q.hypotheses ++ encode q.goal) in
    let b = length-append (hypotheses_bytes q.hypotheses) (encode q.goal) in
    omega arith

or_right : (a b : Bool) → b ≡ true → (a || b) ≡ true
or_right true b e = refl
or_right false b e = e

pub too_much_finish : (room : ℕ) (a : Acted) → TooMuch a.sequent.types a.sequent.hypotheses → finish room a ≡ refuses (act_said cause.Room)
unfolding finish no_room TooMuch
too_much_finish room a t = rw full refl
  where
    q : Sequent
    q = a.sequent

    full : (ltb 64 (length q.hypotheses) || (ltb 60000 (length (encode_sequent q)) || ltb room (length (encode_sequent q)))) ≡ true
    full =
        ⊎_elim (λ g. rw (lt-ltb 64 (length q.hypotheses) g) refl)
        (λ g. or_right (ltb 64 (length q.hypotheses)) _ (rw (lt-ltb 60000 (length (encode_sequent q)) (omega (arith, sequent_long q))) refl)) t

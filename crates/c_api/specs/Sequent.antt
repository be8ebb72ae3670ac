-- What the functions on sequents answer and write: 0 and the numbers, or the number of the refusal and its place. What is not written keeps its value.
use Rattle.std.specs.Prelude.{ℕ, ◌≡◌, List, Bool, true, false, Result, Ok, Err}
use Rattle.buffers.specs.Outcome.{Outcome, answer_of, written}
use Rattle.refusal.specs.declared.Said.{Said}
use Rattle.sequent.specs.declared.Counts.{Counts}
use Rattle.buffers.specs.declared.Done.{Done}
use Rattle.c_api.specs.declared.Tally.{Tally}
use Rattle.c_api.specs.declared.Act.{Act}

-- ---- reading
abbrev pub counts : (answer hidden selected visible place : ℕ) → Tally
counts r h s v p = record { answer = r; hidden = h; selected = s; visible = v; place = p }

abbrev pub counts_told : Result Counts Said → Tally → Tally
counts_told (Ok n) old = counts 0 n.hidden n.selected n.visible old.place
counts_told (Err z) old = counts z.number old.hidden old.selected old.visible z.place

-- ---- an act
abbrev pub bit : Bool → ℕ
bit true = 1
bit false = 0

abbrev pub act : (answer changed size place : ℕ) → Act
act r c n p = record { answer = r; changed = c; size = n; place = p }

abbrev pub act_told : Result Done Said → Act → Act
act_told (Ok d) old = act 0 (bit d.changed) d.len old.place
act_told (Err z) old = act z.number old.changed old.size z.place

-- what a function that does an act tells, and what it leaves in the lent buffer
pub record Tells (o : Outcome) (out out' : List ℕ) (old new : Act) : Type 0 where
  pub told_is : new ≡ act_told (answer_of o) old
  pub out_is : out' ≡ written o out

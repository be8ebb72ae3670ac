-- Document 01, "Numbers for refusals": the number of each cause, and the place that is answered.
use Rattle.std.specs.Prelude.{ℕ, eqb}
use Rattle.refusal.specs.Pick.{pick}
use Rattle.refusal.specs.declared.Cause.{Cause}
use Rattle.refusal.specs.declared.Cause.TheVariants as cause
use Rattle.refusal.specs.declared.Refusal.{Refusal}
use Rattle.refusal.specs.declared.Said.{Said}

abbrev pub number : Cause → ℕ
-- a length out of range, or bytes that end inside an item
number cause.Length = 1
number cause.Mark = 2
number cause.Version = 3
-- t or h over 64, or byte 7 not 0
number cause.Header = 4
number cause.TypeByte = 5
number cause.FlagByte = 6
-- unknown code, or one of the other sort; a count out of range, a list's too; no such identifier or bound variable
number cause.Code = 7
number cause.Count = 7
number cause.Index = 7
-- a type rule broken
number cause.Type = 8
-- a node at level 33; own bytes past the formula's 1,024th
number cause.Deep = 9
number cause.Long = 9
-- a hypothesis equal to an earlier one
number cause.Twice = 10
-- bytes after the goal, or left over in a lent buffer
number cause.After = 11
-- no room for the result
number cause.Room = 14
-- an unselected formula is not among those added
number cause.NotAdded = 18

-- where it was found; but that of 1 is the length of the buffer
unfoldable pub place_of : (number at len : ℕ) → ℕ
place_of n at len = pick (eqb n 1) len at

-- what is said of a refusal in a buffer of len bytes
unfoldable pub said_of : Refusal → ℕ → Said
said_of r len = record { number = number r.cause; place = place_of (number r.cause) r.at len }

abbrev pub refused : Cause → ℕ → Refusal
refused c at = record { cause = c; at = at }

-- what is said of a refusal that an act finds itself, at no byte: its place is 0
unfoldable pub act_said : Cause → Said
act_said c = said_of (refused c 0) 0

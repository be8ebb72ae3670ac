-- What each public function answers, and what it leaves in the lent buffer.
use Rattle.std.specs.Prelude.{ℕ, List, ◌++◌, Bool, ◌||◌, length, drop, ltb, Result, Ok, Err}
use Rattle.refusal.specs.Refusal.{refused, said_of, act_said}
use Rattle.refusal.specs.declared.Said.{Said}
use Rattle.refusal.specs.declared.Cause.TheVariants as cause
use Rattle.formula.specs.Reading.{Parsed, got, not_got}
use Rattle.formula.specs.Pick.{pick}
use Rattle.formula.specs.Tree.{Tree}
use Rattle.desk.specs.Sequent.{Sequent}
use Rattle.desk.specs.File.{encode_sequent}
use Rattle.buffers.specs.Lent.{lent_list}
use Rattle.buffers.specs.declared.Done.{Done}

-- the bytes to write and "changed", or a refusal
pub data Outcome : Type 0 where
  writes : Bool → List ℕ → Outcome
  refuses : Said → Outcome

-- what the function answers
abbrev pub answer_of : Outcome → Result Done Said
answer_of (writes b bytes) = Ok (record { changed = b; len = length bytes })
answer_of (refuses z) = Err z

-- "A refusal is the number and a byte place; no output byte changes. A success writes its stated length; later bytes keep their old contents."
abbrev pub written : Outcome → List ℕ → List ℕ
written (writes b bytes) out = bytes ++ drop (length bytes) out
written (refuses z) out = out

-- a buffer read: what to go on with, or its refusal
abbrev pub on_buffer : {A : Type 0} → List ℕ → Parsed A → (A → Outcome) → Outcome
on_buffer b (got a e) k = k a
on_buffer b (not_got w p) k = refuses (said_of (refused w p) (length b))

-- what an act makes of a sequent, and whether it answers "changed"
pub record Acted : Type 0 where
  pub changed : Bool
  pub sequent : Sequent

-- "14: result has over 64 hypotheses, over 60,000 bytes, or exceeds a lent buffer"; "14 is last"
unfoldable pub no_room : ℕ → Sequent → Bool
no_room room q = ltb 64 (length q.hypotheses) || (ltb 60000 (length (encode_sequent q)) || ltb room (length (encode_sequent q)))

unfoldable pub finish : ℕ → Acted → Outcome
finish room a = pick (no_room room a.sequent) (refuses (act_said cause.Room)) (writes a.changed (encode_sequent a.sequent))

-- a list of the sequent's identifiers
abbrev pub on_list : Sequent → ℕ → List ℕ → (List Tree → Outcome) → Outcome
on_list q most b k = on_buffer b (lent_list q.types most b) k

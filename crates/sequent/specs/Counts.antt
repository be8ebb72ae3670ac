-- What reading a sequent answers: how many hypotheses are hidden, selected and visible, or its refusal.
use Rattle.std.specs.Prelude.{ℕ, List, length, Result, Ok, Err}
use Rattle.refusal.specs.Refusal.{refused, said_of}
use Rattle.refusal.specs.declared.Said.{Said}
use Rattle.formula.specs.Reading.{Parsed, got, not_got}
use Rattle.desk.specs.Sequent.{Sequent, is_hidden, is_selected, is_visible, count_of}
use Rattle.sequent.specs.ReadFile.{read_sequent}
use Rattle.sequent.specs.declared.Counts.{Counts}

abbrev pub counts_of : List ℕ → Parsed Sequent → Result Counts Said
counts_of s (got q e) =
    Ok (record { hidden = count_of is_hidden q.hypotheses; selected = count_of is_selected q.hypotheses; visible = count_of is_visible q.hypotheses })
counts_of s (not_got w p) = Err (said_of (refused w p) (length s))

unfoldable pub read_outcome : List ℕ → Result Counts Said
read_outcome s = counts_of s (read_sequent s)

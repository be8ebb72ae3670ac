-- A sequent opened in place, and what is said of a buffer that is refused.
use Rattle.std.specs.Prelude.{ℕ, ◌≡◌, List, length, drop}
use Rattle.refusal.specs.Refusal.{said_of}
use Rattle.refusal.specs.declared.Said.{Said}
use Rattle.refusal.specs.declared.Refusal.{Refusal}
use Rattle.formula.specs.Reading.{Parsed, got, not_got}
use Rattle.formula.specs.Tree.{encode}
use Rattle.desk.specs.Sequent.{Sequent}
use Rattle.desk.specs.Mirror.Desk.{Holds}
use Rattle.desk.specs.declared.view.View.{View}
use Rattle.sequent.specs.Accepted.{AcceptedSequent}
use Rattle.sequent.specs.ReadFile.{read_sequent}

-- a sequent opened in place: the goal stands from v.end to the end of the file
pub record Open (s places : List ℕ) (v : View) : Type 0 where
  pub sequent : Sequent
  pub at_end : ℕ
  pub read_is : read_sequent s ≡ got sequent at_end
  pub accepted : AcceptedSequent sequent
  pub held : Holds s places v sequent.types sequent.hypotheses
  pub goal_there : drop v.end s ≡ encode sequent.goal

-- refused, and what is said of it
pub record Not {A : Type 0} (b : List ℕ) (r : Parsed A) (z : Said) : Type 0 where
  pub refusal : Refusal
  pub refused_is : r ≡ not_got refusal.cause refusal.at
  pub said_is : z ≡ said_of refusal (length b)

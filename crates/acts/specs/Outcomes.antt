-- What each act on hypotheses answers, and what it leaves in the lent buffer.
use Rattle.std.specs.Prelude.{ℕ, List, [], ◌∷◌}
use Rattle.refusal.specs.Refusal.{act_said}
use Rattle.formula.specs.Pick.{pick}
use Rattle.formula.specs.Tree.{Tree}
use Rattle.desk.specs.Sequent.{Flag, Sequent}
use Rattle.desk.specs.Hypotheses.{all_among}
use Rattle.sequent.specs.ReadFile.{read_sequent}
use Rattle.buffers.specs.Lent.{lent_predicate}
use Rattle.buffers.specs.Outcome.{Outcome, refuses, on_buffer, on_list, finish}
use Rattle.refusal.specs.declared.Cause.TheVariants as cause
use Rattle.acts.specs.Acts.{flag_act, modify, rewrite}

-- "Sequents are read before formulas lent with an act, formulas in lent order, then the act's own checks; 14 is last."
unfoldable pub flag_outcome : (Flag → Flag) → List ℕ → List ℕ → ℕ → Outcome
flag_outcome f s b room = on_buffer s (read_sequent s) (λ q. on_buffer b (lent_predicate q.types b) (λ x. finish room (flag_act f x q)))

-- ---- the acts that take three lists: modify's third has a goal or none
abbrev pub over_lists : List ℕ → ℕ → List ℕ → List ℕ → List ℕ → (Sequent → List Tree → List Tree → List Tree → Outcome) → Outcome
over_lists s most a b c k = on_buffer s (read_sequent s) (λ q. on_list q 64 a (λ xs. on_list q 64 b (λ ys. on_list q most c (λ zs. k q xs ys zs))))

-- 18: "an unselected formula is not among those added"
abbrev pub modified : ℕ → Sequent → List Tree → List Tree → List Tree → Outcome
modified room q added unselected goal = pick (all_among unselected added) (finish room (modify added unselected goal q)) (refuses (act_said cause.NotAdded))

abbrev pub rewritten : ℕ → Sequent → List Tree → List Tree → List Tree → Outcome
rewritten room q sources inferred to_hide = finish room (rewrite sources inferred to_hide q)

unfoldable pub modify_outcome : List ℕ → List ℕ → List ℕ → List ℕ → ℕ → Outcome
modify_outcome s added unselected goal room = over_lists s 1 added unselected goal (modified room)

unfoldable pub rewrite_outcome : List ℕ → List ℕ → List ℕ → List ℕ → ℕ → Outcome
rewrite_outcome s sources inferred to_hide room = over_lists s 64 sources inferred to_hide (rewritten room)

-- forward inference is a rewrite with a list of none to hide
abbrev pub forward_outcome : List ℕ → List ℕ → List ℕ → ℕ → Outcome
forward_outcome s sources inferred room = rewrite_outcome s sources inferred (0 ∷ []) room

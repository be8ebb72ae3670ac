-- Document 01, "Acts on hypotheses (sequent.rs)": the acts on a sequent.
use Rattle.std.specs.Prelude.{List, [], ◌∷◌, Bool, false, not, ◌||◌}
use Rattle.formula.specs.Pick.{pick}
use Rattle.formula.specs.Tree.{Tree}
use Rattle.desk.specs.Sequent.{Flag, Sequent, sequent_of, with_hypotheses}
use Rattle.formula.specs.Equal.{same_bytes}
use Rattle.desk.specs.File.{encode_sequent}
pub use Rattle.desk.specs.Hypotheses.{select, deselect, hide, show}
use Rattle.desk.specs.Hypotheses.{change_all, add_all, all_present, some_selected, reselects, infer}
use Rattle.buffers.specs.Outcome.{Acted}

-- "changed" means the sequent differs
unfoldable pub differs : Sequent → Sequent → Bool
differs q r = not (same_bytes (encode_sequent q) (encode_sequent r))

unfoldable pub acted : Bool → Sequent → Sequent → Acted
acted b q r = record { changed = b || differs q r; sequent = r }

-- the first four acts
unfoldable pub flag_act : (Flag → Flag) → Tree → Sequent → Acted
flag_act f x q = acted false q (with_hypotheses q (change_all f (x ∷ []) q.hypotheses))

-- ---- "Modify takes formulas to add, those of them left unselected, and an optional goal"
abbrev pub new_goal : List Tree → Tree → Tree
new_goal [] g = g
new_goal (x ∷ xs) g = x

unfoldable pub modify : List Tree → List Tree → List Tree → Sequent → Acted
modify added unselected goal q =
    acted false q (sequent_of q.types (add_all unselected added q.hypotheses) (new_goal goal q.goal))

-- ---- "Rewrite is forward inference, then hide, unless a source was absent."
unfoldable pub rewrite : List Tree → List Tree → List Tree → Sequent → Acted
rewrite sources inferred to_hide q =
    pick (all_present q.hypotheses sources)
    (acted (reselects q.hypotheses (some_selected q.hypotheses sources) inferred) q (with_hypotheses q (change_all hide to_hide (infer q.hypotheses sources inferred))))
    (acted false q q)

-- forward inference is a rewrite with nothing to hide
unfoldable pub forward : List Tree → List Tree → Sequent → Acted
forward sources inferred q = rewrite sources inferred [] q

-- Document 01, "Acts on hypotheses (sequent.rs)": what each step of an act does to the list of hypotheses.
use Rattle.std.specs.Prelude.{List, [], ◌∷◌, ◌++◌, Bool, true, false, not, ◌&&◌, ◌||◌}
use Rattle.formula.specs.Pick.{pick}
use Rattle.formula.specs.Tree.{Tree}
use Rattle.desk.specs.Sequent.{Flag, plain, hidden, selected, Hypothesis, hypothesis, flagged, is_hidden, is_selected, is_visible, among, flag_in, holds, present}
use Rattle.formula.specs.Equal.{same}

-- ---- flags
-- "Select sets selected and clears hidden. Deselect clears selected. Hide sets hidden and clears selected. Show clears hidden."
abbrev pub select : Flag → Flag
select f = selected

abbrev pub deselect : Flag → Flag
deselect plain = plain
deselect hidden = hidden
deselect selected = plain

abbrev pub hide : Flag → Flag
hide f = hidden

abbrev pub show : Flag → Flag
show plain = plain
show hidden = plain
show selected = selected

-- the hypothesis equal to x gets the flag that f says; "nothing changes for a formula that is no hypothesis"
unfoldable pub change : (Flag → Flag) → Tree → List Hypothesis → List Hypothesis
change f x [] = []
change f x (h ∷ hs) = pick (same h.formula x) (flagged (f h.flag) h ∷ hs) (h ∷ change f x hs)

-- the same for each of a list, one after the other
unfoldable pub change_all : (Flag → Flag) → List Tree → List Hypothesis → List Hypothesis
change_all f [] hs = hs
change_all f (x ∷ xs) hs = change_all f xs (change f x hs)

-- ---- "Modify takes formulas to add, those of them left unselected, and an optional goal: each absent one is appended; each is shown,
-- and selected unless named unselected (one so named keeps the selection it had)."
abbrev pub added_flag : Bool → Flag → Flag
added_flag true f = show f
added_flag false f = selected

unfoldable pub add_one : List Tree → Tree → List Hypothesis → List Hypothesis
add_one unselected x hs =
    pick (present hs x) (change (added_flag (among x unselected)) x hs) (hs ++ (hypothesis (added_flag (among x unselected) plain) x ∷ []))

unfoldable pub add_all : List Tree → List Tree → List Hypothesis → List Hypothesis
add_all unselected [] hs = hs
add_all unselected (x ∷ xs) hs = add_all unselected xs (add_one unselected x hs)

-- 18: "an unselected formula is not among those added"
unfoldable pub all_among : List Tree → List Tree → Bool
all_among [] added = true
all_among (x ∷ xs) added = among x added && all_among xs added

-- ---- "Forward inference takes sources and inferred formulas: if a source is absent, nothing changes."
unfoldable pub all_present : List Hypothesis → List Tree → Bool
all_present hs [] = true
all_present hs (x ∷ xs) = present hs x && all_present hs xs

-- "Otherwise let S be: some source is selected; and D: S fails and all sources are hidden (true of no sources)."
unfoldable pub some_selected : List Hypothesis → List Tree → Bool
some_selected hs [] = false
some_selected hs (x ∷ xs) = holds is_selected (flag_in hs x) || some_selected hs xs

unfoldable pub all_hidden : List Hypothesis → List Tree → Bool
all_hidden hs [] = true
all_hidden hs (x ∷ xs) = holds is_hidden (flag_in hs x) && all_hidden hs xs

abbrev pub inferred_flag : Bool → Bool → Flag
inferred_flag true d = selected
inferred_flag false true = hidden
inferred_flag false false = plain

-- "Absent inferred formulas are appended, selected under S, hidden under D. Present ones, if S held and they were visible before the act, become selected"
unfoldable pub infer_one : List Hypothesis → Bool → Bool → Tree → List Hypothesis → List Hypothesis
infer_one before s d x hs =
    pick (present hs x)
    (pick (s && holds is_visible (flag_in before x)) (change select x hs) hs)
    (hs ++ (hypothesis (inferred_flag s d) x ∷ []))

unfoldable pub infer_all : List Hypothesis → Bool → Bool → List Tree → List Hypothesis → List Hypothesis
infer_all before s d [] hs = hs
infer_all before s d (x ∷ xs) hs = infer_all before s d xs (infer_one before s d x hs)

-- ".. and the act answers "changed" even if they were selected"
unfoldable pub reselects : List Hypothesis → Bool → List Tree → Bool
reselects before s [] = false
reselects before s (x ∷ xs) = (s && holds is_visible (flag_in before x)) || reselects before s xs

unfoldable pub infer : List Hypothesis → List Tree → List Tree → List Hypothesis
infer hs sources inferred = infer_all hs (some_selected hs sources) (not (some_selected hs sources) && all_hidden hs sources) inferred hs

-- What a step of an act does on the desk: flags changed, formulas added.
use Rattle.std.specs.Prelude.{ℕ, ◌<◌, ◌≤◌, ◌≡◌, List, Bool, true, false, not, ◌||◌, length, eqb, Result, Ok, Err}
use Rattle.formula.specs.Tree.{Tree, encode}
use Rattle.desk.specs.Sequent.{Flag, Hypothesis, among}
use Rattle.desk.specs.Hypotheses.{select, deselect, hide, show, change, change_all, add_one, add_all, all_among}
use Rattle.desk.specs.Mirror.Bytes.{Stand, OnDesk}
use Rattle.desk.specs.Mirror.Desk.{Holds, set_flag, flag_at}
use Rattle.desk.specs.Mirror.Moves.{ListIs, TooMuch}
use Rattle.desk.specs.declared.Desk.{Desk}
use Rattle.desk.specs.declared.NoRoom.{NoRoom}
use Rattle.desk.specs.declared.hypotheses.Hypotheses.{Hypotheses}
use Rattle.desk.specs.declared.list.List.{List as Formulas}
use Rattle.desk.specs.declared.view.View.{View}
use Rattle.steps.specs.declared.flags.Act.{Act}
use Rattle.steps.specs.declared.flags.Act.TheVariants as act

-- ---- the acts on one flag, and by its two bits
abbrev pub flag_by : Act → Flag → Flag
flag_by act.Select = select
flag_by act.Deselect = deselect
flag_by act.Hide = hide
flag_by act.Show = show

abbrev pub hidden_by : Act → Bool → Bool
hidden_by act.Select b = false
hidden_by act.Deselect b = b
hidden_by act.Hide b = true
hidden_by act.Show b = false

abbrev pub selected_by : Act → Bool → Bool
selected_by act.Select b = true
selected_by act.Deselect b = false
selected_by act.Hide b = false
selected_by act.Show b = b

-- the act done on the flag at a position
unfoldable pub ChangeAtIs : View → ℕ → Act → View → Type 0
ChangeAtIs v i k w =
    (desk places types : List ℕ) (hs : List Hypothesis) → Holds desk places v types hs → i < length hs → length hs ≤ 64
    → Holds desk places w types (set_flag i (flag_by k (flag_at hs i)) hs)

-- the act done on the flag of a formula
unfoldable pub ChangeIs : Hypotheses → Act → List ℕ → View → Type 0
ChangeIs h k x w =
    (types : List ℕ) (hs : List Hypothesis) (y : Tree) → Stand h types hs → x ≡ encode y → length hs ≤ 64
    → Holds h.bytes.now h.places.now w types (change (flag_by k) y hs)

-- .. and of each of a list
unfoldable pub ChangeAllIs : Hypotheses → Act → Formulas → View → Type 0
ChangeAllIs h k l w =
    (types : List ℕ) (hs : List Hypothesis) (xs : List Tree) → Stand h types hs → length hs ≤ 64 → ListIs l xs
    → Holds h.bytes.now h.places.now w types (change_all (flag_by k) xs hs)

-- ---- whether one view differs from another, their formulas being the same as far as both have them
unfoldable pub views_differ : View → View → Bool → Bool
views_differ v w goal = not (eqb v.hypotheses w.hypotheses) || (not (eqb v.hidden w.hidden) || (not (eqb v.selected w.selected) || goal))

-- ---- formulas added
-- a step that leaves hypotheses hs on the desk, or has no room for them
unfoldable pub StepTo : Desk → List ℕ → List Hypothesis → Result Unit NoRoom → Type 0
StepTo d types hs (Ok u) = OnDesk d types hs × (length hs ≤ 64)
StepTo d types hs (Err e) = TooMuch types hs

unfoldable pub AmongIs : Formulas → List ℕ → Bool → Type 0
AmongIs l x r = (xs : List Tree) (y : Tree) → ListIs l xs → x ≡ encode y → r ≡ among y xs

unfoldable pub AllAmongIs : Formulas → Formulas → Bool → Type 0
AllAmongIs l m r = (xs ys : List Tree) → ListIs l xs → ListIs m ys → r ≡ all_among xs ys

-- an added formula is shown or selected
abbrev pub added_act : Bool → Act
added_act true = act.Show
added_act false = act.Select

unfoldable pub AddOneIs : Desk → List ℕ → Bool → Desk → Result Unit NoRoom → Type 0
AddOneIs d x keep d' r =
    (types : List ℕ) (hs : List Hypothesis) (us : List Tree) (y : Tree) → OnDesk d types hs → length hs ≤ 64 → x ≡ encode y → keep ≡ among y us
    → StepTo d' types (add_one us y hs) r

unfoldable pub AddAllIs : Desk → Formulas → Formulas → Desk → Result Unit NoRoom → Type 0
AddAllIs d added unselected d' r =
    (types : List ℕ) (hs : List Hypothesis) (xs us : List Tree) → OnDesk d types hs → length hs ≤ 64 → ListIs added xs → ListIs unselected us
    → StepTo d' types (add_all us xs hs) r

-- A sequent as the code holds it: its bytes, where each hypothesis stands, and the flags as two masks.
use Rattle.std.specs.Prelude.{ℕ, zero, suc, ◌+◌, ◌*◌, ◌<◌, ◌≤◌, ◌≡◌, List, [], ◌∷◌, Bool, true, false, length, take, drop, Option, Some, None}
use Rattle.formula.specs.Pick.{pick}
use Rattle.formula.specs.Tree.{Tree, encode}
pub use Rattle.formula.specs.Equal.{Range}
use Rattle.desk.specs.Sequent.{Flag, plain, hidden, selected, Hypothesis, flagged, is_hidden, is_selected, present}
use Rattle.formula.specs.Equal.{same}
use Rattle.desk.specs.File.{hypotheses_bytes}
use Rattle.desk.specs.declared.view.View.{View}

-- how a view is made
abbrev pub view : ℕ → ℕ → ℕ → ℕ → ℕ → View
view t h e hid sel = record { identifiers = t; hypotheses = h; end = e; hidden = hid; selected = sel }

-- bit i for hypothesis i
unfoldable pub mask_of : (Flag → Bool) → List Hypothesis → ℕ
mask_of f [] = 0
mask_of f (h ∷ hs) = pick (f h.flag) 1 0 + 2 * mask_of f hs

-- where each hypothesis' flag byte stands, from p on, and where the last one ends
unfoldable pub places_from : ℕ → List Hypothesis → List ℕ
places_from p [] = p ∷ []
places_from p (h ∷ hs) = p ∷ places_from (p + 1 + length (encode h.formula)) hs

-- the formulas stand there, each after a byte for its flag, whatever that byte is
unfoldable pub HypothesesStand : List ℕ → ℕ → List Hypothesis → Type 0
HypothesesStand desk p [] = Unit {0}
HypothesesStand desk p (h ∷ hs) = (take (length (encode h.formula)) (drop (p + 1) desk) ≡ encode h.formula) × HypothesesStand desk (p + 1 + length (encode h.formula)) hs

pub record Holds (desk places : List ℕ) (v : View) (types : List ℕ) (hs : List Hypothesis) : Type 0 where
  pub identifiers_are : v.identifiers ≡ length types
  pub hypotheses_are : v.hypotheses ≡ length hs
  pub end_is : v.end ≡ 8 + length types + length (hypotheses_bytes hs)
  pub in_desk : v.end ≤ length desk
  pub types_are : take (length types) (drop 8 desk) ≡ types
  pub places_are : take (suc (length hs)) places ≡ places_from (8 + length types) hs
  pub stand : HypothesesStand desk (8 + length types) hs
  pub hidden_is : v.hidden ≡ mask_of is_hidden hs
  pub selected_is : v.selected ≡ mask_of is_selected hs

-- ---- what the steps do on the desk
-- the position of the hypothesis equal to y; their number if there is none
unfoldable pub index_of : List Hypothesis → Tree → ℕ
index_of [] y = 0
index_of (h ∷ hs) y = pick (same h.formula y) 0 (suc (index_of hs y))

-- the same, if there is one
abbrev pub position : List Hypothesis → Tree → Option ℕ
position hs y = pick (present hs y) (Some (index_of hs y)) None

abbrev pub flag_from : Bool → Bool → Flag
flag_from true s = hidden
flag_from false true = selected
flag_from false false = plain

-- the flag at a position
unfoldable pub set_flag : ℕ → Flag → List Hypothesis → List Hypothesis
set_flag i f [] = []
set_flag zero f (h ∷ hs) = flagged f h ∷ hs
set_flag (suc i) f (h ∷ hs) = h ∷ set_flag i f hs

unfoldable pub flag_at : List Hypothesis → ℕ → Flag
flag_at [] i = plain
flag_at (h ∷ hs) zero = h.flag
flag_at (h ∷ hs) (suc i) = flag_at hs i

-- a flag set, by masks alone: what the desk holds otherwise does not change
abbrev pub SetIs : View → ℕ → Bool → Bool → View → Type 0
SetIs v i hid sel w =
    (desk places types : List ℕ) (hs : List Hypothesis) → Holds desk places v types hs → i < length hs → length hs ≤ 64 → Holds desk places w types (set_flag i (flag_from hid sel) hs)

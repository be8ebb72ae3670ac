-- The desk on bytes, as the code handles it: each definition is a function of the code.
use Rattle.std.specs.Prelude.{ℕ, zero, suc, ◌+◌, ◌<◌, ◌≤◌, ◌⊎◌, ◌≡◌, List, [], ◌∷◌, ◌++◌, Bool, false, ◌&&◌, length, get_or, slice_range, leb, Option, Some, None, Result, Ok, Err}
use Rattle.formula.specs.Pick.{pick}
use Rattle.formula.specs.Tree.{Tree, encode}
use Rattle.formula.specs.Equal.{same_bytes}
use Rattle.desk.specs.Sequent.{Hypothesis, hypothesis}
use Rattle.desk.specs.Mirror.Desk.{view, Holds, flag_from}
use Rattle.desk.specs.Mirror.Masks.{with_flag}
use Rattle.desk.specs.declared.Desk.{Desk}
use Rattle.desk.specs.declared.NoRoom.{NoRoom}
use Rattle.desk.specs.declared.hypotheses.Hypotheses.{Hypotheses}
use Rattle.desk.specs.declared.view.View.{View}

-- the hypotheses as they stand, and those on the desk
abbrev pub Stand : Hypotheses → List ℕ → List Hypothesis → Type 0
Stand h = Holds h.bytes.now h.places.now h.view

abbrev pub OnDesk : Desk → List ℕ → List Hypothesis → Type 0
OnDesk d = Holds d.bytes d.places d.view

-- ---- finding
-- a flag byte and the formula x
abbrev pub after_flag : List ℕ → List ℕ → Bool
after_flag [] x = false
after_flag (flag ∷ formula) x = same_bytes formula x

-- the hypothesis from p to q has the formula x
unfoldable pub has_formula : List ℕ → ℕ → ℕ → List ℕ → Bool
has_formula bytes p q x = pick (leb p q && leb q (length bytes)) (after_flag (slice_range bytes p q) x) false

-- the first of n positions from i on where x stands
unfoldable pub find_from : ℕ → List ℕ → List ℕ → ℕ → List ℕ → Option ℕ
find_from zero bytes places i x = None
find_from (suc n) bytes places i x = pick (has_formula bytes (get_or places i 0) (get_or places (i + 1) 0) x) (Some i) (find_from n bytes places (i + 1) x)

-- there are at most 64
unfoldable pub find_in : Hypotheses → List ℕ → Option ℕ
find_in h x = pick (leb h.view.hypotheses 64) (find_from h.view.hypotheses h.bytes.now h.places.now 0 x) None

-- ---- laying and appending
-- hypotheses laid on the desk
pub record LaidIs (h : Hypotheses) (d : Desk) : Type 0 where
  pub places_are : d.places ≡ h.places.now
  pub view_is : d.view ≡ h.view
  pub laid : (places types : List ℕ) (hs : List Hypothesis) → Holds h.bytes.now places h.view types hs → h.view.end ≤ 60000 → Holds d.bytes places d.view types hs

-- one more hypothesis, of n bytes
unfoldable pub grown : View → ℕ → Bool → Bool → View
grown v n hid sel =
    view v.identifiers (v.hypotheses + 1) (v.end + 1 + n) (with_flag v v.hypotheses hid sel).hidden (with_flag v v.hypotheses hid sel).selected

-- one more hypothesis, or no room for it: over 64, or over 60,000 bytes
abbrev pub AppendIs : Desk → List ℕ → Bool → Bool → Desk → Result Unit NoRoom → Type 0
AppendIs d x hid sel d' (Ok u) =
    (types : List ℕ) (hs : List Hypothesis) (y : Tree) → OnDesk d types hs → x ≡ encode y → length hs ≤ 64
    → OnDesk d' types (hs ++ (hypothesis (flag_from hid sel) y ∷ [])) × (length hs < 64)
AppendIs d x hid sel d' (Err e) =
    (types : List ℕ) (hs : List Hypothesis) (y : Tree) → OnDesk d types hs → x ≡ encode y → length hs ≤ 64
    → (64 ≤ length hs) ⊎ (60000 < d.view.end + 1 + length (encode y))
